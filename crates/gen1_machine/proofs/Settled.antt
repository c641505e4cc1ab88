-- After an update a battle is over, or replacements are due, or the next turn has come. Outcome, requests and turn fit
-- together.
use Rattle.std.proofs.Common.{Bool, ap, false, inl, inr, leb-false, not, refl, subst, sym, true, ℕ, ◌&&◌, ◌+◌, ◌<◌, ◌||◌, ◌∙◌, ◌≡◌, ◌≤◌, ◌⊎◌, List, [], arith, get_or, suc, zero, ◌∷◌}
use Rattle.std.proofs.lemmas.Bool.{false≢true, leb-true}
use Rattle.gen1_machine.specs.declared.event.Event.{Event}
use Rattle.gen1_machine.specs.declared.side.Side.TheVariants.{One, Two}
use Rattle.gen1_machine.specs.declared.terms.Outcome.{Outcome}
use Rattle.gen1_machine.specs.State.{has_fallen_in, with_next_turn, with_outcome, with_requests, Field, with_party, Party, Terms}
use Rattle.gen1_machine.specs.Progress.{choose, given, has_fallen, note, on_field, stay, stop, told, unless_stopped, when, ◌▸◌, Phase, Progress}
use Rattle.gen1_machine.specs.Ruling.{Ruling}
use Rattle.gen1_machine.specs.Falls.{ask_for_moves, ask_for_switches, ask_nothing, battle_ends, end_if_decided, has_living, settle, switch_if, faint_if_fallen, faint_in_order, the_fallen_faint}
use Rattle.gen1_machine.specs.Valid.{lives_in, IsAsked, StandsAs}
use Rattle.gen1_machine.proofs.Keeps.{choose-false, choose-true, then-goes, then-stops, when-false}
use Rattle.gen1_tables.specs.Types.{any}
use Rattle.gen1_stats.specs.Members.{is_living, nobody, Member}
use Rattle.gen1_machine.specs.declared.side.Side.{Side}
use Rattle.gen1_machine.specs.Sides.{other}
use Rattle.gen1_machine.specs.declared.event.Event.TheVariants as events
use Rattle.gen1_machine.specs.declared.terms.Outcome.TheVariants as outcomes
use Rattle.gen1_machine.specs.declared.terms.Request.TheVariants as requests

-- A field that is over and asks for nothing more.
abbrev pub ended : Outcome → Field → Field
ended o f = record f { outcome = o; request_one = requests.Pass; request_two = requests.Pass }

-- What decides a battle other than a fault.
abbrev pub Decides : Outcome → ℕ → Field → Type 0
Decides outcomes.WinOne limit f = (lives_in One f ≡ true) × (lives_in Two f ≡ false)
Decides outcomes.WinTwo limit f = (lives_in One f ≡ false) × (lives_in Two f ≡ true)
Decides outcomes.Tie limit f =
    ((lives_in One f ≡ false) × (lives_in Two f ≡ false))
    ⊎ ((limit ≤ f.turn) × (lives_in One f ≡ true) × (lives_in Two f ≡ true))
Decides _ limit f = ⊥

-- Tests one after another. Either one has ended the battle, or all have failed and nothing has changed.
data Tested (Why : Outcome → Type 0) (Failed : Type 0) (p q : Progress) : Type 0 where
  Ended : (o : Outcome) → q.stopped ≡ true → q.field ≡ ended o p.field → Why o → Tested Why Failed p q
  Open : q ≡ p → Failed → Tested Why Failed p q

when-ends : {Why : Outcome → Type 0} (test : Progress → Bool) (o : Outcome) (e : Event) (p : Progress) → p.stopped ≡ false
    → (test p ≡ true → Why o) → Tested Why (test p ≡ false) p (when test (battle_ends o e) p)
unfolding battle_ends ask_nothing on_field with_outcome with_requests note stop ◌▸◌ unless_stopped
when-ends {Why} test o e p going why = by (test p) refl
  where
    by : (b : Bool) → test p ≡ b → Tested Why (test p ≡ false) p (when test (battle_ends o e) p)
    by true t = subst (λ x. Tested Why (test p ≡ false) p x) (sym (choose-true test (battle_ends o e) stay p t))
        (subst (λ b. Tested Why (test p ≡ false) p (battle_ends o e (record p { stopped = b }))) (sym going) (Ended o refl refl (why t)))
    by false t = subst (λ x. Tested Why (test p ≡ false) p x) (sym (when-false test (battle_ends o e) p t)) (Open refl t)

tested-then : {Why : Outcome → Type 0} {F G : Type 0} (f g : Phase) (p : Progress) → p.stopped ≡ false
    → Tested Why F p (f p) → (F → Tested Why G p (g p)) → Tested Why G p ((f ▸ g) p)
tested-then {Why} {F} {G} f g p going (Ended o a b c) w = subst (λ x. Tested Why G p x) (sym (then-stops f g p a)) (Ended o a b c)
tested-then {Why} {F} {G} f g p going (Open a t) w =
    subst (λ x. Tested Why G p x) (sym (then-goes f g p (ap (λ (x : Progress). x.stopped) a ∙ going)))
    (subst (λ x. Tested Why G p (g x)) (sym a) (w t))

tested-all : {Why : Outcome → Type 0} {F G : Type 0} {p q : Progress} → (F → G) → Tested Why F p q → Tested Why G p q
tested-all w (Ended o a b c) = Ended o a b c
tested-all w (Open a t) = Open a (w t)

-- What the tests say about living members

neither : (a b : Bool) → (not a && not b) ≡ true → (a ≡ false) × (b ≡ false)
neither true b e = absurd (false≢true e)
neither false true e = absurd (false≢true e)
neither false false e = (refl, refl)

second-alone : (a b : Bool) → (not a && not b) ≡ false → not a ≡ true → (a ≡ false) × (b ≡ true)
second-alone true b e h = absurd (false≢true h)
second-alone false true e h = (refl, refl)
second-alone false false e h = absurd (false≢true (sym e))

is-true : (a : Bool) → not a ≡ false → a ≡ true
is-true true e = refl
is-true false e = absurd (false≢true (sym e))

is-false : (a : Bool) → not a ≡ true → a ≡ false
is-false true e = absurd (false≢true e)
is-false false e = refl

abbrev Undecided : ℕ → Field → Type 0
Undecided limit f = (lives_in One f ≡ true) × (lives_in Two f ≡ true) × (f.turn < limit)

decided : (r : Ruling) (p : Progress) → p.stopped ≡ false
    → Tested (λ o. Decides o r.last_turn p.field) (Undecided r.last_turn p.field) p (end_if_decided r p)
unfolding end_if_decided
decided r p going =
    let one = has_living One p in
    let two = has_living Two p in
    tested-then _ _ p going (when-ends _ outcomes.Tie events.Tie p going (λ e. inl (neither one two e))) (λ some.
    tested-then _ _ p going (when-ends _ outcomes.WinTwo (events.Win Two) p going (λ e. second-alone one two some e)) (λ first.
    tested-then _ _ p going (when-ends _ outcomes.WinOne (events.Win One) p going (λ e. (is-true one first, is-false two e))) (λ second.
    tested-all (λ late. (is-true one first, is-true two second, leb-false r.last_turn p.field.turn late))
    (when-ends _ outcomes.Tie events.Tie p going (λ e. inr (leb-true r.last_turn p.field.turn e, is-true one first, is-true two second))))))

pub data Settled (limit : ℕ) (f g : Field) : Type 0 where
  Done : (o : Outcome) → Decides o limit f → g ≡ ended o f → Settled limit f g
  Due : Undecided limit f → (a b : Bool) → has_fallen_in One f ≡ a → has_fallen_in Two f ≡ b → (a || b) ≡ true
      → g ≡ record f { request_one = switch_if a; request_two = switch_if b } → Settled limit f g
  Next : Undecided limit f → (has_fallen_in One f || has_fallen_in Two f) ≡ false
      → g ≡ record f { turn = f.turn + 1; request_one = requests.Move; request_two = requests.Move } → Settled limit f g

next-turn : (p : Progress) → p.stopped ≡ false
    → (ask_for_moves p).field ≡ record p.field { turn = p.field.turn + 1; request_one = requests.Move; request_two = requests.Move }
unfolding ask_for_moves on_field told with_next_turn with_requests ◌▸◌ unless_stopped
next-turn p going =
    subst (λ b. (ask_for_moves (record p { stopped = b })).field ≡ record p.field { turn = p.field.turn + 1; request_one = requests.Move; request_two = requests.Move })
    (sym going) refl

asked : (limit : ℕ) (p : Progress) → p.stopped ≡ false → Undecided limit p.field
    → Settled limit p.field (choose (λ q. has_fallen One q || has_fallen Two q) ask_for_switches ask_for_moves p).field
unfolding ask_for_switches given on_field with_requests
asked limit p going undecided = by (has_fallen One p || has_fallen Two p) refl
  where
    by : (b : Bool) → (has_fallen One p || has_fallen Two p) ≡ b
        → Settled limit p.field (choose (λ q. has_fallen One q || has_fallen Two q) ask_for_switches ask_for_moves p).field
    by true e = subst (λ x. Settled limit p.field x.field) (sym (choose-true _ ask_for_switches ask_for_moves p e))
        (Due undecided (has_fallen One p) (has_fallen Two p) refl refl e refl)
    by false e = subst (λ x. Settled limit p.field x.field) (sym (choose-false _ ask_for_switches ask_for_moves p e))
        (Next undecided e (next-turn p going))

pub settle-settles : (r : Ruling) (p : Progress) → p.stopped ≡ false → Settled r.last_turn p.field (settle r p).field
unfolding settle
settle-settles r p going = by (decided r p going)
  where
    by : Tested (λ o. Decides o r.last_turn p.field) (Undecided r.last_turn p.field) p (end_if_decided r p) → Settled r.last_turn p.field (settle r p).field
    by (Ended o a b c) = subst (λ x. Settled r.last_turn p.field x.field) (sym (then-stops (end_if_decided r) _ p a)) (Done o c b)
    by (Open a undecided) =
        subst (λ x. Settled r.last_turn p.field x.field) (sym (then-goes (end_if_decided r) _ p (ap (λ (x : Progress). x.stopped) a ∙ going)))
        (subst (λ x. Settled r.last_turn p.field (choose (λ q. has_fallen One q || has_fallen Two q) ask_for_switches ask_for_moves x).field) (sym a)
        (asked r.last_turn p going undecided))

-- Outcome, requests and turn fit together after each update.

pub outcome-stays : (s : Side) (t : Party) (f : Field) → (with_party s t f).outcome ≡ f.outcome
outcome-stays One t f = refl
outcome-stays Two t f = refl

-- The requests of a settled battle

all_stand : (a b : Bool) (terms : Terms) (f : Field) → (a || b) ≡ true → f.request_one ≡ switch_if a → f.request_two ≡ switch_if b → f.turn < terms.limit → IsAsked a b terms f
all_stand true true terms f some x y l = (x, y, l)
all_stand true false terms f some x y l = (x, y, l)
all_stand false true terms f some x y l = (x, y, l)
all_stand false false terms f some x y l = absurd (false≢true some)

both-false : (a b : Bool) → (a || b) ≡ false → (a ≡ false) × (b ≡ false)
both-false true b e = absurd (false≢true (sym e))
both-false false true e = absurd (false≢true (sym e))
both-false false false e = (refl, refl)

decided-stands : (terms : Terms) (o : Outcome) (f : Field) → f.turn ≤ terms.limit → Decides o terms.limit f → StandsAs o terms (record f { outcome = o; request_one = requests.Pass; request_two = requests.Pass })
decided-stands terms outcomes.Ongoing f l d = absurd d
decided-stands terms outcomes.WinOne f l d = (record { one = refl; two = refl }, d.0, d.1)
decided-stands terms outcomes.WinTwo f l d = (record { one = refl; two = refl }, d.0, d.1)
decided-stands terms outcomes.Tie f l (inl d) = (record { one = refl; two = refl }, inl d)
decided-stands terms outcomes.Tie f l (inr d) = (record { one = refl; two = refl }, inr (omega (arith, d.0, l), d.1, d.2))
decided-stands terms (outcomes.Fault n) f l d = absurd d

pub settled-stands : (terms : Terms) (f g : Field) → f.turn ≤ terms.limit → f.outcome ≡ outcomes.Ongoing → Settled terms.limit f g → StandsAs g.outcome terms g
settled-stands terms f g l going (Done o d e) = rw e (decided-stands terms o f l d)
settled-stands terms f g l going (Due undecided a b x y some e) =
    rw (e, going) (undecided.0, undecided.1, rw (x, y) (all_stand a b terms (record f { outcome = outcomes.Ongoing; request_one = switch_if a; request_two = switch_if b }) some refl refl undecided.2))
settled-stands terms f g l going (Next undecided none e) =
    let stand = both-false (has_fallen_in One f) (has_fallen_in Two f) none in
    rw (e, going) (undecided.0, undecided.1, rw (stand.0, stand.1) (refl, refl))

pub settled-turn : (limit : ℕ) (f g : Field) → Settled limit f g → f.turn ≤ g.turn
settled-turn limit f g (Done o d e) = rw e (omega arith)
settled-turn limit f g (Due undecided a b x y some e) = rw e (omega arith)
settled-turn limit f g (Next undecided none e) = rw e (omega arith)

-- When a battle begins, both sides have a living member out, and the first turn comes

pub lives-any : (members : List Member) (i : ℕ) → is_living (get_or members i nobody) ≡ true → any is_living members ≡ true
lives-any [] i h = absurd (false≢true h)
lives-any (m ∷ members) zero h = rw h refl
lives-any (m ∷ members) (suc i) h = by (is_living m) (lives-any members i h)
  where
    by : (b : Bool) → any is_living members ≡ true → (b || any is_living members) ≡ true
    by true e = refl
    by false e = e

none-due : {A : Type 0} (a b : Bool) → a ≡ false → b ≡ false → (a || b) ≡ true → A
none-due true b x y e = absurd (false≢true (sym x))
none-due false true x y e = absurd (false≢true (sym y))
none-due false false x y e = absurd (false≢true e)

pub first-turn : (limit : ℕ) (f g : Field) → 1 ≤ limit → f.turn ≡ 0 → lives_in One f ≡ true → lives_in Two f ≡ true → has_fallen_in One f ≡ false → has_fallen_in Two f ≡ false
    → Settled limit f g → 1 ≤ g.turn
first-turn limit f g l none one two x y (Done outcomes.Ongoing d e) = absurd d
first-turn limit f g l none one two x y (Done outcomes.WinOne d e) = absurd (false≢true (sym d.1 ∙ two))
first-turn limit f g l none one two x y (Done outcomes.WinTwo d e) = absurd (false≢true (sym d.0 ∙ one))
first-turn limit f g l none one two x y (Done outcomes.Tie (inl d) e) = absurd (false≢true (sym d.0 ∙ one))
first-turn limit f g l none one two x y (Done outcomes.Tie (inr d) e) = absurd (omega (arith, d.0, none, l))
first-turn limit f g l none one two x y (Done (outcomes.Fault n) d e) = absurd d
first-turn limit f g l none one two x y (Due undecided a b u v some e) = none-due a b (sym u ∙ x) (sym v ∙ y) some
first-turn limit f g l none one two x y (Next undecided nobody_fell e) = rw e (omega arith)

-- If no member has fallen, none faints

nobody-faints-one : (s : Side) (p : Progress) → has_fallen s p ≡ false → faint_if_fallen s p ≡ p
unfolding faint_if_fallen
nobody-faints-one s p e = when-false (has_fallen s) _ p e

faints-in-order : (s t : Side) (p : Progress) → p.stopped ≡ false → has_fallen s p ≡ false → has_fallen t p ≡ false → (faint_if_fallen s ▸ faint_if_fallen t) p ≡ p
faints-in-order s t p going x y =
    then-goes (faint_if_fallen s) (faint_if_fallen t) p (ap (λ (q : Progress). q.stopped) (nobody-faints-one s p x) ∙ going)
    ∙ ap (faint_if_fallen t) (nobody-faints-one s p x) ∙ nobody-faints-one t p y

pub nobody-faints : (p : Progress) → p.stopped ≡ false → has_fallen One p ≡ false → has_fallen Two p ≡ false → the_fallen_faint p ≡ p
unfolding the_fallen_faint faint_in_order given
nobody-faints p going x y = by p.action.side
  where
    by : (s : Side) → (faint_if_fallen (other s) ▸ faint_if_fallen s) p ≡ p
    by One = faints-in-order Two One p going y x
    by Two = faints-in-order One Two p going x y
