-- At most as many pairs are accepted as turns may still come, and eleven more. Then the battle is over.
use Rattle.std.proofs.Common.{Bool, List, [], ap, arith, cond, false, inl, inr, length, not, refl, subst, sym, true, ℕ, ◌+◌, ◌-◌, ◌<◌, ◌∙◌, ◌∷◌, ◌≡◌, ◌≤◌, ◌⊎◌}
use Rattle.std.proofs.lemmas.Bool.{false≢true}
use Rattle.std.proofs.lemmas.List.Sums.{sum_by-cons}
use Rattle.gen1_machine.specs.declared.side.Choice.{Choice}
use Rattle.gen1_machine.specs.declared.side.Choice.TheVariants as choices
use Rattle.gen1_machine.specs.declared.side.Side.{Side}
use Rattle.gen1_machine.specs.declared.side.Side.TheVariants.{One, Two}
use Rattle.gen1_machine.specs.declared.terms.Outcome.{Outcome}
use Rattle.gen1_machine.specs.declared.terms.Outcome.TheVariants as outcomes
use Rattle.gen1_machine.specs.declared.terms.Request.{Request}
use Rattle.gen1_machine.specs.declared.terms.Request.TheVariants as requests
use Rattle.gen1_rolls.specs.Streams.{Link, Stream}
use Rattle.gen1_stats.specs.Members.{is_living}
use Rattle.gen1_machine.specs.State.{has_fallen_in, is_over, member_at, request_of, with_requests, Active, Field, Party, State, Terms}
use Rattle.gen1_machine.specs.Progress.{new_action, on_field, stay, unless_stopped, ◌▸◌, Action, Progress}
use Rattle.gen1_machine.specs.Ruling.{ruling_of, Ruling}
use Rattle.gen1_machine.specs.SwitchingIn.{replace, send_if_chosen, start}
use Rattle.gen1_machine.specs.Turn.{turn}
use Rattle.gen1_machine.specs.Falls.{ask_nothing, close, faint_if_fallen, faint_in_order, settle, the_fallen_faint}
use Rattle.gen1_machine.specs.OfferedChoices.{offered, offered_for}
use Rattle.gen1_machine.specs.Step.{answered, close_update, is_among, offers, opened, run, run_by, step, step_by, update, update_for, Answer, Stepped}
use Rattle.gen1_machine.specs.Valid.{IsAsked, IsStarted, IsState, IsUnstarted, StandsAs}
use Rattle.gen1_machine.specs.Laws.{accepted_in, is_accepted, RunsEnd}
use Rattle.gen1_machine.proofs.Keeps.{note-keeps, stay-keeps, both-go, choose-goes, given-goes, keeps-leads, stay-goes, then-goes, then-leads, told-goes, Goes, Leads}
use Rattle.gen1_machine.proofs.Turns.{alike-free, alike-itself, alike-most, bench, bench-most, between-free, between-weaker, lives-behind, most-free, sent-most, sent-shorter, AtMost, Between, send_one, send_two, start-leads, the_fallen_faint-free, turn-leads, Begins}
use Rattle.gen1_machine.proofs.Fitting.{offered-passes, offered-promises, offered-replaces, Replaces}
use Rattle.gen1_machine.proofs.Settled.{settle-settles, Decides, Done, Due, Next, Settled}

-- The requests fit the members that are out

abbrev pub Fell : Party → Type 0
Fell t = is_living (member_at t.active.place t) ≡ false

abbrev pub Waits : Request → Request → ℕ → Field → Type 0
Waits requests.Pass requests.Pass limit f = (is_over f.outcome ≡ true) ⊎ ((f.one.active.place ≡ 0) × (f.two.active.place ≡ 0))
Waits requests.Move requests.Move limit f = Unit {0}
Waits requests.Switch requests.Switch limit f = Fell f.one × Fell f.two × (f.turn < limit)
Waits requests.Switch requests.Pass limit f = Fell f.one × (f.turn < limit)
Waits requests.Pass requests.Switch limit f = Fell f.two × (f.turn < limit)
Waits _ _ limit f = ⊥

abbrev pub Ready : ℕ → Field → Type 0
Ready limit f = Waits f.request_one f.request_two limit f

-- What is left of a battle: its turns, its bench, and one more if no replacement is due

abbrev pub due : Request → Request → ℕ
due requests.Switch _ = 0
due _ requests.Switch = 0
due _ _ = 1

due-most : (a b : Request) → due a b ≤ 1
due-most requests.Switch b = omega arith
due-most requests.Pass requests.Switch = omega arith
due-most requests.Pass requests.Pass = omega arith
due-most requests.Pass requests.Move = omega arith
due-most requests.Move requests.Switch = omega arith
due-most requests.Move requests.Pass = omega arith
due-most requests.Move requests.Move = omega arith

abbrev pub left_by : Bool → ℕ → Field → ℕ
left_by true limit f = 0
left_by false limit f = due f.request_one f.request_two + (limit - f.turn) + (bench f.one + bench f.two)

abbrev pub left : State → ℕ
left s = left_by (is_over s.field.outcome) s.terms.limit s.field

left-most : (b : Bool) (limit : ℕ) (f : Field) → left_by b limit f ≤ due f.request_one f.request_two + (limit - f.turn) + (bench f.one + bench f.two)
left-most true limit f = omega arith
left-most false limit f = omega arith

-- An update before it is closed

pub record Fewer (less n turn : ℕ) (f : Field) : Type 0 where
  pub turned : f.turn ≡ turn
  pub fewer : less + (bench f.one + bench f.two) ≤ n

fewer-of : (less a b n turn : ℕ) (f : Field) (action : Action) (w : Stream) → Between (AtMost a) (AtMost b) turn f action w → less + (a + b) ≤ n → Fewer less n turn f
fewer-of less a b n turn f action w h l = record { turned = h.turned; fewer = omega (arith, h.one.most, h.two.most, l) }

begins : (s : State) → Begins s.field.one s.field.two s.field.turn s.field (new_action One) (Link s.seed)
begins s = record { turned = refl; one = alike-itself s.field.one; two = alike-itself s.field.two }

turns : (s : State) (x y : Choice) → is_among x (offered_for requests.Move One s.field) ≡ true → is_among y (offered_for requests.Move Two s.field) ≡ true
    → Fewer 0 (bench s.field.one + bench s.field.two) s.field.turn (turn (ruling_of s.terms) x y (opened s)).field
turns s x y a b =
    fewer-of 0 (bench s.field.one) (bench s.field.two) _ _ _ _ _
    ((turn-leads s.terms s.field.one s.field.two s.field.turn x y (offered-promises One x s.field a) (offered-promises Two y s.field b)).led (opened s) (begins s))
    (omega arith)

starts : (s : State) → s.field.one.active.place ≡ 0 → s.field.two.active.place ≡ 0
    → Fewer 0 (bench s.field.one + bench s.field.two) s.field.turn (start (opened s)).field
starts s a b =
    fewer-of 0 (bench s.field.one) (bench s.field.two) _ _ _ _ _
    ((start-leads s.terms s.field.one s.field.two s.field.turn a b).led (opened s) (begins s)) (omega arith)

-- A living member replaces a fallen one

comes : (before t : Party) (a : Active) (place : ℕ) → Replaces (choices.Switch place) before → Fell before → a.place ≡ place → t ≡ before
    → AtMost (bench before - 1) (record t { active = a })
comes before t a place lives fell e h =
    subst (λ u. AtMost (bench before - 1) (record u { active = a })) (sym h) (sent-shorter before a place e lives fell)

both_replace : (s : State) (x y : ℕ) → Fell s.field.one → Replaces (choices.Switch x) s.field.one → Replaces (choices.Switch y) s.field.two
    → Fewer 1 (bench s.field.one + bench s.field.two) s.field.turn (replace (choices.Switch x) (choices.Switch y) (opened s)).field
unfolding replace send_if_chosen
both_replace s x y fell a b =
    let one = s.field.one in
    let two = s.field.two in
    fewer-of 1 (bench one - 1) (bench two) _ _ _ _ _
    ((then-leads
    (send_one s.field.turn x (alike-free two) (λ t active e h. comes one t active x a fell e h))
    (send_two s.field.turn y (most-free (bench one - 1)) (λ t active e h. sent-most two t active y e h (inr b)))
    (between-weaker (λ t h. h) (alike-most two))).led (opened s) (record { turned = refl; one = refl; two = alike-itself two }))
    (omega (arith, lives-behind one x a fell))

one_replaces : (s : State) (x : ℕ) → Fell s.field.one → Replaces (choices.Switch x) s.field.one
    → Fewer 1 (bench s.field.one + bench s.field.two) s.field.turn (replace (choices.Switch x) choices.Pass (opened s)).field
unfolding replace send_if_chosen
one_replaces s x fell a =
    let one = s.field.one in
    let two = s.field.two in
    fewer-of 1 (bench one - 1) (bench two) _ _ _ _ _
    ((then-leads
    (send_one s.field.turn x (most-free (bench two)) (λ t active e h. comes one t active x a fell e h))
    (keeps-leads stay-keeps) (λ f x w h. h)).led (opened s) (record { turned = refl; one = refl; two = alike-most two two (alike-itself two) }))
    (omega (arith, lives-behind one x a fell))

two_replaces : (s : State) (y : ℕ) → Fell s.field.two → Replaces (choices.Switch y) s.field.two
    → Fewer 1 (bench s.field.one + bench s.field.two) s.field.turn (replace choices.Pass (choices.Switch y) (opened s)).field
unfolding replace send_if_chosen stay ◌▸◌ unless_stopped
two_replaces s y fell b =
    let one = s.field.one in
    let two = s.field.two in
    fewer-of 1 (bench one) (bench two - 1) _ _ _ _ _
    ((send_two s.field.turn y (most-free (bench one)) (λ t active e h. comes two t active y b fell e h)).led (opened s)
    (record { turned = refl; one = alike-most one one (alike-itself one); two = refl }))
    (omega (arith, lives-behind two y b fell))

-- By the requests.
pub update-fewer : (s : State) (x y : Choice) (q r : Request) → Waits q r s.terms.limit s.field → is_over s.field.outcome ≡ false
    → is_among x (offered_for q One s.field) ≡ true → is_among y (offered_for r Two s.field) ≡ true
    → Fewer (1 - due q r) (bench s.field.one + bench s.field.two) s.field.turn (update_for (ruling_of s.terms) q r x y (opened s)).field
unfolding update_for
update-fewer s x y requests.Move requests.Move w o a b = turns s x y a b
update-fewer s x y requests.Pass requests.Pass (inl h) o a b = absurd (false≢true (sym o ∙ h))
update-fewer s x y requests.Pass requests.Pass (inr h) o a b = starts s h.0 h.1
update-fewer s (choices.Switch j) (choices.Switch k) requests.Switch requests.Switch w o a b =
    both_replace s j k w.0 (offered-replaces One (choices.Switch j) s.field a) (offered-replaces Two (choices.Switch k) s.field b)
update-fewer s (choices.Switch j) choices.Pass requests.Switch requests.Pass w o a b =
    one_replaces s j w.0 (offered-replaces One (choices.Switch j) s.field a)
update-fewer s choices.Pass (choices.Switch k) requests.Pass requests.Switch w o a b =
    two_replaces s k w.0 (offered-replaces Two (choices.Switch k) s.field b)
update-fewer s x y requests.Pass requests.Move w o a b = absurd w
update-fewer s x y requests.Switch requests.Move w o a b = absurd w
update-fewer s x y requests.Move requests.Pass w o a b = absurd w
update-fewer s x y requests.Move requests.Switch w o a b = absurd w
update-fewer s choices.Pass y requests.Switch r w o a b = absurd (offered-replaces One choices.Pass s.field a)
update-fewer s (choices.Move k) y requests.Switch r w o a b = absurd (offered-replaces One (choices.Move k) s.field a)
update-fewer s x choices.Pass q requests.Switch w o a b = absurd (offered-replaces Two choices.Pass s.field b)
update-fewer s x (choices.Move k) q requests.Switch w o a b = absurd (offered-replaces Two (choices.Move k) s.field b)
update-fewer s (choices.Move k) y requests.Pass r w o a b = absurd (offered-passes (choices.Move k) a)
update-fewer s (choices.Switch k) y requests.Pass r w o a b = absurd (offered-passes (choices.Switch k) a)
update-fewer s x (choices.Move k) q requests.Pass w o a b = absurd (offered-passes (choices.Move k) b)
update-fewer s x (choices.Switch k) q requests.Pass w o a b = absurd (offered-passes (choices.Switch k) b)

-- After an update

record Left (n limit : ℕ) (f : Field) : Type 0 where
  pub ready : Ready limit f
  pub most : left_by (is_over f.outcome) limit f ≤ n

decides-over : (o : Outcome) (limit : ℕ) (f : Field) → Decides o limit f → is_over o ≡ true
decides-over outcomes.Ongoing limit f d = absurd d
decides-over outcomes.WinOne limit f d = refl
decides-over outcomes.WinTwo limit f d = refl
decides-over outcomes.Tie limit f d = refl
decides-over (outcomes.Fault n) limit f d = refl

fell : (t : Party) → not (is_living (member_at t.active.place t)) ≡ true → Fell t
fell t e = by (is_living (member_at t.active.place t)) e
  where
    by : (b : Bool) → not b ≡ true → b ≡ false
    by true e = absurd (false≢true e)
    by false e = refl

settled-left : (limit turn n : ℕ) (f g : Field) → Fewer 0 n turn f → Settled limit f g → Left ((limit - turn) + n) limit g
settled-left limit turn n f g h (Done o d e) = rw e (record { ready = inl (decides-over o limit f d); most = rw (decides-over o limit f d) (omega arith) })
settled-left limit turn n f g h (Due undecided true true x y some e) = rw e (record {
  ready = (fell f.one x, fell f.two y, undecided.2);
  most = omega (arith, left-most (is_over f.outcome) limit (record f { request_one = requests.Switch; request_two = requests.Switch }), h.turned, h.fewer);
})
settled-left limit turn n f g h (Due undecided true false x y some e) = rw e (record {
  ready = (fell f.one x, undecided.2);
  most = omega (arith, left-most (is_over f.outcome) limit (record f { request_one = requests.Switch; request_two = requests.Pass }), h.turned, h.fewer);
})
settled-left limit turn n f g h (Due undecided false true x y some e) = rw e (record {
  ready = (fell f.two y, undecided.2);
  most = omega (arith, left-most (is_over f.outcome) limit (record f { request_one = requests.Pass; request_two = requests.Switch }), h.turned, h.fewer);
})
settled-left limit turn n f g h (Due undecided false false x y some e) = absurd (false≢true some)
settled-left limit turn n f g h (Next undecided none e) = rw e (record {
  ready = tt;
  most = omega (arith, left-most (is_over f.outcome) limit (record f { turn = f.turn + 1; request_one = requests.Move; request_two = requests.Move }), undecided.2, h.turned, h.fewer);
})

fault-left : (r : Ruling) (k limit n : ℕ) (p : Progress) → p.field.outcome ≡ outcomes.Fault n → Left k limit (close r (outcomes.Fault n) p).field
unfolding close ask_nothing on_field with_requests
fault-left r k limit n p e =
    let none : Leads (λ f x w. f.outcome ≡ outcomes.Fault n) (λ f x w. Left k limit f) ask_nothing = record {
      led = λ q over. record { ready = inl (ap is_over over); most = rw (ap is_over over) (omega arith) };
    } in
    (then-leads none (keeps-leads (note-keeps _)) (λ f x w h. h)).led p e

pub faints-goes : (s : Side) → Goes (faint_if_fallen s)
unfolding faint_if_fallen
faints-goes s = choose-goes _ (told-goes _ _) stay-goes

pub the_fallen_faint-goes : Goes the_fallen_faint
unfolding the_fallen_faint faint_in_order
the_fallen_faint-goes = given-goes _ (λ s. both-go (faints-goes _) (faints-goes s))

close-left : (terms : Terms) (a b turn : ℕ) (p : Progress) → Between (AtMost a) (AtMost b) turn p.field p.action p.stream
    → Left ((terms.limit - turn) + (a + b)) terms.limit (close_update (ruling_of terms) p).field
unfolding close_update close
close-left terms a b turn p h = by p.field.outcome refl
  where
    q : Progress
    q = record p { stopped = false }

    usual : Left ((terms.limit - turn) + (a + b)) terms.limit ((the_fallen_faint ▸ settle (ruling_of terms)) q).field
    usual =
        let goes = the_fallen_faint-goes.goes q refl in
        let c = (the_fallen_faint-free (between-free turn (most-free a) (most-free b)) terms).kept q h in
        subst (λ x. Left ((terms.limit - turn) + (a + b)) terms.limit x.field) (sym (then-goes the_fallen_faint (settle (ruling_of terms)) q goes))
        (settled-left terms.limit turn (a + b) (the_fallen_faint q).field _ (fewer-of 0 a b (a + b) turn _ _ _ c (omega arith))
        (settle-settles (ruling_of terms) (the_fallen_faint q) goes))

    by : (o : Outcome) → p.field.outcome ≡ o → Left ((terms.limit - turn) + (a + b)) terms.limit (close (ruling_of terms) o q).field
    by (outcomes.Fault n) e = fault-left (ruling_of terms) _ terms.limit n q e
    by outcomes.Ongoing e = usual
    by outcomes.WinOne e = usual
    by outcomes.WinTwo e = usual
    by outcomes.Tie e = usual

-- An accepted pair leaves less

update-left : (s : State) (x y : Choice) → Ready s.terms.limit s.field → is_over s.field.outcome ≡ false
    → is_among x (offered_for s.field.request_one One s.field) ≡ true → is_among y (offered_for s.field.request_two Two s.field) ≡ true
    → (n : ℕ) × (1 + n ≤ left s) × Left n s.terms.limit (update (ruling_of s.terms) x y (opened s)).field
unfolding update
update-left s x y ready o a b =
    let f = s.field in
    let p = update_for (ruling_of s.terms) f.request_one f.request_two x y (opened s) in
    let c = update-fewer s x y f.request_one f.request_two ready o a b in
    let between : Between (AtMost (bench p.field.one)) (AtMost (bench p.field.two)) f.turn p.field p.action p.stream = record {
      turned = c.turned;
      one = record { most = omega arith };
      two = record { most = omega arith };
    } in (
      (s.terms.limit - f.turn) + (bench p.field.one + bench p.field.two),
      rw o (omega (arith, c.fewer, due-most f.request_one f.request_two)),
      close-left s.terms (bench p.field.one) (bench p.field.two) f.turn p between,
    )

abbrev pub paid : Answer → ℕ
paid answer = cond (is_accepted answer) 1 0

pub record Lower (s : State) (r : Stepped) : Type 0 where
  pub ready : Ready r.state.terms.limit r.state.field
  pub lower : paid r.answer + left r.state ≤ left s

pub offered-is : (side : Side) (f : Field) → is_over f.outcome ≡ false → offered side f ≡ offered_for (request_of side f) side f
unfolding offered
offered-is side f e = rw e refl

answered-lower : (s : State) (x y : Choice) (over a b : Bool) → Ready s.terms.limit s.field
    → is_over s.field.outcome ≡ over → offers s One x ≡ a → offers s Two y ≡ b
    → Lower s (answered s over a b (update (ruling_of s.terms) x y (opened s)))
unfolding answered
answered-lower s x y true a b ready o e h = record { ready = ready; lower = omega arith }
answered-lower s x y false false b ready o e h = record { ready = ready; lower = omega arith }
answered-lower s x y false true false ready o e h = record { ready = ready; lower = omega arith }
answered-lower s x y false true true ready o e h =
    let u = update-left s x y ready o (subst (λ l. is_among x l ≡ true) (offered-is One s.field o) e) (subst (λ l. is_among y l ≡ true) (offered-is Two s.field o) h) in
    record { ready = u.2.ready; lower = omega (arith, u.1, u.2.most) }

pub step-lower : (s : State) (x y : Choice) → Ready s.terms.limit s.field → Lower s (step s x y)
unfolding step step_by
step-lower s x y ready = answered-lower s x y (is_over s.field.outcome) (offers s One x) (offers s Two y) ready refl refl refl

-- A run

record Ends (s : State) (pairs : List (Choice × Choice)) : Type 0 where
  pub ready : Ready (run s pairs).state.terms.limit (run s pairs).state.field
  pub lower : accepted_in s pairs + left (run s pairs).state ≤ left s

counted : (s : State) (pair : Choice × Choice) (pairs : List (Choice × Choice))
    → accepted_in s (pair ∷ pairs) ≡ paid (step s pair.0 pair.1).answer + accepted_in (step s pair.0 pair.1).state pairs
unfolding run_by
counted s pair pairs = sum_by-cons (λ answer. paid answer) (step s pair.0 pair.1).answer (run (step s pair.0 pair.1).state pairs).answers

left-after : (s : State) (pair : Choice × Choice) (pairs : List (Choice × Choice))
    → left (run s (pair ∷ pairs)).state ≡ left (run (step s pair.0 pair.1).state pairs).state
unfolding run_by
left-after s pair pairs = refl

run-ends : (s : State) (pairs : List (Choice × Choice)) → Ready s.terms.limit s.field → Ends s pairs
unfolding run_by
run-ends s [] ready = record { ready = ready; lower = omega arith }
run-ends s (pair ∷ pairs) ready =
    let one = step-lower s pair.0 pair.1 ready in
    let more = run-ends (step s pair.0 pair.1).state pairs one.ready in
    record { ready = more.ready; lower = omega (arith, counted s pair pairs, left-after s pair pairs, one.lower, more.lower) }

-- If nothing is left, the battle is over.
nothing-left : (limit : ℕ) (f : Field) → Ready limit f → left_by (is_over f.outcome) limit f ≡ 0 → is_over f.outcome ≡ true
nothing-left limit f ready none = by (is_over f.outcome) refl
  where
    some : (q r : Request) → Waits q r limit f → 1 ≤ due q r + (limit - f.turn)
    some requests.Pass requests.Pass w = omega arith
    some requests.Move requests.Move w = omega arith
    some requests.Switch requests.Switch w = omega (arith, w.2)
    some requests.Switch requests.Pass w = omega (arith, w.1)
    some requests.Pass requests.Switch w = omega (arith, w.1)
    some requests.Pass requests.Move w = absurd w
    some requests.Move requests.Pass w = absurd w
    some requests.Move requests.Switch w = absurd w
    some requests.Switch requests.Move w = absurd w

    by : (b : Bool) → is_over f.outcome ≡ b → is_over f.outcome ≡ true
    by true e = e
    by false e = absurd (omega (arith, some f.request_one f.request_two ready, rw e at none))

-- A valid state is ready, and no more is left of it

started-ready : (terms : Terms) (f : Field) → IsStarted terms f → Ready terms.limit f
started-ready terms f h = by f.outcome refl h.requests
  where
    asked : (a b : Bool) → has_fallen_in One f ≡ a → has_fallen_in Two f ≡ b → IsAsked a b terms f → Ready terms.limit f
    asked false false x y h = rw (h.0, h.1) tt
    asked true false x y h = rw (h.0, h.1) (fell f.one x, h.2)
    asked false true x y h = rw (h.0, h.1) (fell f.two y, h.2)
    asked true true x y h = rw (h.0, h.1) (fell f.one x, fell f.two y, h.2)

    by : (o : Outcome) → f.outcome ≡ o → StandsAs o terms f → Ready terms.limit f
    by outcomes.Ongoing e h = asked (has_fallen_in One f) (has_fallen_in Two f) refl refl h.2
    by outcomes.WinOne e h = rw (h.0.one, h.0.two) (inl (ap is_over e))
    by outcomes.WinTwo e h = rw (h.0.one, h.0.two) (inl (ap is_over e))
    by outcomes.Tie e h = rw (h.0.one, h.0.two) (inl (ap is_over e))
    by (outcomes.Fault n) e h = rw (h.one, h.two) (inl (ap is_over e))

unstarted-ready : (terms : Terms) (f : Field) → IsUnstarted terms f → Ready terms.limit f
unstarted-ready terms f h =
    rw (h.requests.one, h.requests.two) (inr (ap (λ (a : Active). a.place) h.nobody_one, ap (λ (a : Active). a.place) h.nobody_two))

pub state-ready : (s : State) → IsState s → Ready s.terms.limit s.field
state-ready s h = elim h.field [ inl f ↦ unstarted-ready s.terms s.field f | inr f ↦ started-ready s.terms s.field f ]

party-bench : (t : Party) → t.active.place - 1 < length t.members → length t.members ≤ 6 → bench t ≤ 5
party-bench t place size = omega (arith, bench-most (t.active.place - 1) t.members place, size)

state-left : (s : State) → IsState s → left s ≤ s.terms.limit + 11
state-left s h = elim h.field [ inl f ↦ unstarted f | inr f ↦ started f ]
  where
    limit : ℕ
    limit = s.terms.limit

    all : bench s.field.one ≤ 5 → bench s.field.two ≤ 5 → left s ≤ limit + 11
    all one two =
        omega (arith, left-most (is_over s.field.outcome) limit s.field, due-most s.field.request_one s.field.request_two, one, two)

    unstarted : IsUnstarted s.terms s.field → left s ≤ limit + 11
    unstarted f =
        let one : s.field.one.active.place ≡ 0 = ap (λ (a : Active). a.place) f.nobody_one in
        let two : s.field.two.active.place ≡ 0 = ap (λ (a : Active). a.place) f.nobody_two in
        all (party-bench s.field.one (omega (arith, one, f.members_one.size)) (omega (arith, f.members_one.size)))
        (party-bench s.field.two (omega (arith, two, f.members_two.size)) (omega (arith, f.members_two.size)))

    started : IsStarted s.terms s.field → left s ≤ limit + 11
    started f =
        let one = f.field.one in
        let two = f.field.two in
        all (party-bench s.field.one (omega (arith, one.place, one.members.size)) (omega (arith, one.members.size)))
        (party-bench s.field.two (omega (arith, two.place, two.members.size)) (omega (arith, two.members.size)))

pub runs_end : RunsEnd
runs_end s pairs h =
    let ends = run-ends s pairs (state-ready s h) in
    let most = state-left s h in (
      omega (arith, ends.lower, most),
      λ e. nothing-left (run s pairs).state.terms.limit (run s pairs).state.field ends.ready (omega (arith, ends.lower, most, e)),
    )
