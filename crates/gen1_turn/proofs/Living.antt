-- Who lives in a turn. It begins with two living members that are out, while the battle continues. A switch takes no HP
-- and brings out a living member. Residual damage doesn't change the outcome.
use Rattle.std.proofs.Common.{get_or, not, ◌-◌, ◌==◌, ◌≡◌, ◌≢◌, ◌⊎◌, ◌||◌}
use Rattle.std.proofs.lemmas.Bool.{false≢true}
use Rattle.std.proofs.lemmas.Bool.Decides.{eqb_tells}
use Rattle.gen1_layout.proofs.Words.{Active, Bool, Field, Progress, Side, ap, changed_active, false, inl, inr, length, on_active, on_conditions, on_field, party, refl, subst, sym, true, ℕ, ◌∙◌}
use Rattle.gen1_rolls.specs.Streams.{Stream}
use Rattle.gen1_stats.specs.Members.{is_living, nobody, IsBetween, Member}
use Rattle.gen1_machine.specs.declared.side.Choice.{Choice}
use Rattle.gen1_machine.specs.declared.side.Choice.TheVariants as choices
use Rattle.gen1_machine.specs.declared.side.Pick.{Pick}
use Rattle.gen1_machine.specs.declared.side.Side.TheVariants.{One, Two}
use Rattle.gen1_machine.specs.declared.terms.Outcome.{Outcome}
use Rattle.gen1_machine.specs.declared.terms.Outcome.TheVariants.{Ongoing}
use Rattle.gen1_machine.specs.declared.terms.Request.{Request}
use Rattle.gen1_machine.specs.declared.terms.Request.TheVariants as requests
use Rattle.gen1_machine.specs.Conditions.{ActiveConditions, without_flinch, without_trapping}
use Rattle.gen1_machine.specs.Sides.{other}
use Rattle.gen1_machine.specs.State.{changed_conditions, changed_member, conditions_in, has_fallen_in, is_over, member_at, request_of, status_in, with_last_damage, with_picked_move, Party, State, Terms}
use Rattle.gen1_machine.specs.Progress.{given, on_action, stay, unless, Action}
use Rattle.gen1_machine.specs.Action.{act, begin, resume}
use Rattle.gen1_machine.specs.OfferedChoices.{offered_for}
use Rattle.gen1_machine.specs.ResidualDamage.{residual}
use Rattle.gen1_machine.specs.Ruling.{Ruling, ruling_of}
use Rattle.gen1_machine.specs.Step.{is_among, offers}
use Rattle.gen1_machine.specs.SwitchingIn.{send_out, sent_out, with_sent_out}
use Rattle.gen1_machine.specs.Turn.{do_part, is_cut, set_picked, Acts, Sends}
use Rattle.gen1_machine.specs.Plans.{InRange}
use Rattle.gen1_machine.specs.Valid.{IsAsked, IsStarted, StandsAs}
use Rattle.gen1_machine.proofs.Turns.{alike-free, alike-itself, between-free, Alike, Between, FreeParty, MaySend, part-suffers, send_one, sent-place}
use Rattle.gen1_machine.proofs.Free.{begin-free}
use Rattle.gen1_machine.proofs.Keeps.{note-keeps, on_conditions-keeps, then-keeps, Keeps, Spares, choose-false, given-leads, keeps-leads, then-goes, then-leads, Leads}
use Rattle.gen1_machine.proofs.Fitting.{offered-promises}
use Rattle.gen1_machine.proofs.Settled.{outcome-stays}
use Rattle.gen1_machine.proofs.Steady.{residual-steady, with_penalty_of-leaves, Hurts, Steady}
use Rattle.gen1_machine.proofs.ValidSteps.{room-free, sends-room}
use Rattle.gen1_status.specs.Statuses.{takes_hp}
use Rattle.gen1_switching.specs.SwitchingIn.{Plays}
use Rattle.gen1_switching.proofs.Stepped.{both_move, comes_offered, offered_by}
use Rattle.gen1_turn.specs.TwoParts.{Brings, MayCome}

-- A member has fallen, or the battle is over

abbrev pub cut_in : Field → Bool
cut_in f = has_fallen_in One f || has_fallen_in Two f || is_over f.outcome

none_of : (a b c : Bool) → (a || b || c) ≡ false → (a ≡ false) × (b ≡ false) × (c ≡ false)
none_of false false false e = (refl, refl, refl)
none_of false false true e = absurd (false≢true (sym e))
none_of false true c e = absurd (false≢true (sym e))
none_of true b c e = absurd (false≢true (sym e))

all_of : (a b c : Bool) → a ≡ false → b ≡ false → c ≡ false → (a || b || c) ≡ false
all_of a b c x y z = rw (x, y, z) refl

not_false : (b : Bool) → not b ≡ false → b ≡ true
not_false true e = refl
not_false false e = absurd (false≢true (sym e))

pub whole_of : (f : Field) → cut_in f ≡ false → (has_fallen_in One f ≡ false) × (has_fallen_in Two f ≡ false) × (is_over f.outcome ≡ false)
whole_of f e = none_of (has_fallen_in One f) (has_fallen_in Two f) (is_over f.outcome) e

-- In a battle that continues, only a fallen member cuts a turn.
fell-or-over : (a b c x : Bool) → c ≡ false → (a || b) ≡ x → (a || b || c) ≡ x
fell-or-over true b c x e h = h
fell-or-over false true c x e h = h
fell-or-over false false c x e h = e ∙ h

pub cut_by_fall : (f : Field) (x : Bool) → is_over f.outcome ≡ false → (has_fallen_in One f || has_fallen_in Two f) ≡ x → cut_in f ≡ x
cut_by_fall f x goes fell = fell-or-over (has_fallen_in One f) (has_fallen_in Two f) (is_over f.outcome) x goes fell

pub cut_by_end : (f : Field) → is_over f.outcome ≡ true → cut_in f ≡ true
cut_by_end f e = by (has_fallen_in One f) (has_fallen_in Two f) (is_over f.outcome) e
  where
    by : (a b c : Bool) → c ≡ true → (a || b || c) ≡ true
    by true b c e = refl
    by false true c e = refl
    by false false c e = e

-- Residual damage

abbrev Outcomes : Outcome → Field → Action → Stream → Type 0
Outcomes o f a w = f.outcome ≡ o

outcome-steady : (o : Outcome) → Steady (Outcomes o)
unfolding changed_member changed_active changed_conditions with_last_damage
outcome-steady o = record {
  member = λ s change soft. record { spared = λ f a w h. outcome-stays s _ f ∙ h };
  active = λ s change leaves. record { spared = λ f a w h. outcome-stays s _ f ∙ h };
  conditions = λ s change leaves. record { spared = λ f a w h. outcome-stays s _ f ∙ h };
  damage = λ n. record { spared = λ f a w h. h };
  action = λ change leaves. record { spared = λ f a w h. h };
}

outcome-hurts : (o : Outcome) → Hurts (Outcomes o)
unfolding changed_member
outcome-hurts o = record { hurt = λ s change. record { spared = λ f a w h. outcome-stays s _ f ∙ h } }

pub residual-goes_on : (s : Side) (p : Progress) → is_over p.field.outcome ≡ false → is_over (residual s p).field.outcome ≡ false
residual-goes_on s p e =
    ap is_over ((residual-steady (outcome-steady p.field.outcome) s (outcome-hurts p.field.outcome)).kept p refl) ∙ e

-- An action that isn't skipped says whether the battle is over.

act-tells : (r : Ruling) (s : Side) (pick : Pick) (p : Progress) → is_over (act r s pick p).field.outcome ≡ (act r s pick p).stopped
unfolding act resume
act-tells r s pick p = refl

acts-as : (r : Ruling) (s : Side) (pick : Pick) (p : Progress) → p.stopped ≡ false → (begin s p).skips ≡ false → do_part r (Acts s pick) p ≡ act r s pick (begin s p)
unfolding do_part begin on_action
acts-as r s pick p goes on =
    then-goes (begin s) (unless (λ (q : Progress). q.skips) (act r s pick)) p goes
    ∙ choose-false (λ (q : Progress). q.skips) stay (act r s pick) (begin s p) on

pub acted-goes_on : (r : Ruling) (s : Side) (pick : Pick) (p : Progress) → p.stopped ≡ false → (begin s p).skips ≡ false
    → (do_part r (Acts s pick) p).stopped ≡ false → is_over (do_part r (Acts s pick) p).field.outcome ≡ false
acted-goes_on r s pick p goes on e =
    let is = acts-as r s pick p goes on in
    ap (λ (q : Progress). is_over q.field.outcome) is ∙ act-tells r s pick (begin s p) ∙ ap (λ (q : Progress). q.stopped) (sym is) ∙ e

-- A switch

abbrev Whole : Field → Action → Stream → Type 0
Whole f a w = cut_in f ≡ false

abbrev Awaits : Side → ℕ → Field → Action → Stream → Type 0
Awaits s place f a w = (is_living (member_at place (party s f)) ≡ true) × (cut_in f ≡ false)

conditions-whole : (s : Side) (change : ActiveConditions → ActiveConditions) → Spares Whole (changed_conditions s change)
unfolding changed_conditions changed_active
conditions-whole One change = record { spared = λ f a w h. h }
conditions-whole Two change = record { spared = λ f a w h. h }

lives_at : (place out : ℕ) (t : Party) → out ≡ place → is_living (member_at place t) ≡ true → not (is_living (member_at out t)) ≡ false
lives_at place out t e lives = ap (λ (n : ℕ). not (is_living (member_at n t))) e ∙ ap not lives

out-whole : (s : Side) (place : ℕ) (m : Member) → Leads (Awaits s place) Whole (on_active s (with_sent_out place m))
unfolding on_active on_field changed_active with_sent_out
out-whole One place m = record {
  led = λ p h.
      let w = whole_of p.field h.1 in
      all_of _ _ _ (lives_at place _ p.field.one (sent-place place m) h.0) w.1 w.2;
}
out-whole Two place m = record {
  led = λ p h.
      let w = whole_of p.field h.1 in
      all_of _ _ _ w.0 (lives_at place _ p.field.two (sent-place place m) h.0) w.2;
}

begin-awaits : (s t : Side) (place : ℕ) → Keeps (Awaits t place) (begin s)
unfolding begin on_action
begin-awaits s t place = record { kept = λ p h. h }

sent-whole : (s : Side) (place : ℕ) → Leads (Awaits s place) Whole (send_out s place)
unfolding send_out
sent-whole s place = then-leads (given-leads _ (λ m. out-whole s place m))
    (keeps-leads (then-keeps (on_conditions-keeps (other s) _ (conditions-whole (other s) _)) (note-keeps _))) (λ f a w h. h)

pub sends-whole : (r : Ruling) (s : Side) (place : ℕ) (p : Progress) → MayCome s place p.field → is_cut p ≡ false → is_cut (do_part r (Sends s place) p) ≡ false
unfolding do_part
sends-whole r s place p may whole =
    (then-leads (keeps-leads (begin-awaits s s place)) (sent-whole s place) (λ f a w h. h.1)).led p (may.1, whole)

-- A member that comes out is hurt by its status alone

abbrev Hurt : Side → Bool → Field → Action → Stream → Type 0
Hurt s b f a w = (takes_hp (status_in s f) || (conditions_in s f).seeded) ≡ b

abbrev Ails : Side → ℕ → Bool → Field → Action → Stream → Type 0
Ails s place b f a w = takes_hp (member_at place (party s f)).status ≡ b

or_false : (b : Bool) → (b || false) ≡ b
or_false true = refl
or_false false = refl

hurt_at : (place out : ℕ) (t : Party) (seeded b : Bool) → out ≡ place → seeded ≡ false → takes_hp (member_at place t).status ≡ b
    → (takes_hp (member_at out t).status || seeded) ≡ b
hurt_at place out t seeded b e off h = rw (e, off) (or_false (takes_hp (member_at place t).status) ∙ h)

unseeded : (place : ℕ) (m : Member) → (sent_out place m).conditions.seeded ≡ false
unseeded place m = ap (λ (c : ActiveConditions). c.seeded) ((with_penalty_of-leaves m.status).conditions _)

out-hurt : (s : Side) (place : ℕ) (m : Member) (b : Bool) → Leads (Ails s place b) (Hurt s b) (on_active s (with_sent_out place m))
unfolding on_active on_field changed_active with_sent_out
out-hurt One place m b = record { led = λ p h. hurt_at place _ p.field.one _ b (sent-place place m) (unseeded place m) h }
out-hurt Two place m b = record { led = λ p h. hurt_at place _ p.field.two _ b (sent-place place m) (unseeded place m) h }

conditions-hurt : (s : Side) (b : Bool) → Spares (Hurt s b) (changed_conditions (other s) without_trapping)
unfolding changed_conditions changed_active
conditions-hurt One b = record { spared = λ f a w h. h }
conditions-hurt Two b = record { spared = λ f a w h. h }

sent-hurt : (s : Side) (place : ℕ) (b : Bool) → Leads (Ails s place b) (Hurt s b) (send_out s place)
unfolding send_out
sent-hurt s place b = then-leads (given-leads _ (λ m. out-hurt s place m b))
    (keeps-leads (then-keeps (on_conditions-keeps (other s) _ (conditions-hurt s b)) (note-keeps _))) (λ f a w h. h)

pub hurt-sent : (r : Ruling) (s : Side) (place : ℕ) (b : Bool) (p : Progress) → p.stopped ≡ false → takes_hp (member_at place (party s p.field)).status ≡ b
    → let q = do_part r (Sends s place) p in (takes_hp (status_in s q.field) || (conditions_in s q.field).seeded) ≡ b
unfolding do_part begin on_action
hurt-sent r s place b p goes h =
    ap (λ (q : Progress). takes_hp (status_in s q.field) || (conditions_in s q.field).seeded) (then-goes (begin s) (send_out s place) p goes)
    ∙ (sent-hurt s place b).led (begin s p) h

-- Side 2's chosen member still lives after side 1's has come out

abbrev Anyone : Party → Type 0
Anyone t = Unit {0}

anyone-free : FreeParty Anyone
anyone-free = record { member = λ t m h. tt; active = λ t a e h. tt }

abbrev Waits : Party → ℕ → Field → Action → Stream → Type 0
Waits t n = Between Anyone (Alike t) n

waits-led : (terms : Terms) (t : Party) (n place : ℕ) → Leads (Waits t n) (Waits t n) (do_part (ruling_of terms) (Sends One place))
unfolding do_part
waits-led terms t n place = then-leads
    (keeps-leads (begin-free (between-free n anyone-free (alike-free t)) One))
    (send_one n place (alike-free t) (λ u a e h. tt))
    (λ f a w h. h)

may-lives : (t : Party) (place : ℕ) → MaySend place t → not (is_living (member_at t.active.place t)) ≡ false → is_living (member_at place t) ≡ true
may-lives t place (inl same) e = ap (λ (i : ℕ). is_living (get_or t.members i nobody)) same ∙ not_false (is_living (member_at t.active.place t)) e
may-lives t place (inr lives) e = lives

alike-may : (before t : Party) (place : ℕ) → Alike before t → is_living (member_at place before) ≡ true → MaySend place t
alike-may before t place h lives = by (eqb_tells (place - 1) (before.active.place - 1))
  where
    by : ((((place - 1) == (before.active.place - 1)) ≡ true) × ((place - 1) ≡ (before.active.place - 1)))
        ⊎ ((((place - 1) == (before.active.place - 1)) ≡ false) × ((place - 1) ≢ (before.active.place - 1))) → MaySend place t
    by (inl e) = inl (rw h.place e.1)
    by (inr e) = inr (ap is_living (h.others (place - 1) e.1) ∙ lives)

room-after : (terms : Terms) (one two : ℕ) (p : Progress) → InRange Two two p.field → InRange Two two (residual One (do_part (ruling_of terms) (Sends One one) p)).field
unfolding do_part
room-after terms one two p h =
    let a = length p.field.one.members in
    let b = length p.field.two.members in
    let q : Progress = do_part (ruling_of terms) (Sends One one) p in
    let k = (part-suffers (between-free p.field.turn (room-free a) (room-free b)) terms One).kept q
    ((sends-room terms a b p.field.turn one).led p (record { turned = refl; one = refl; two = refl })) in
    subst (λ (n : ℕ). IsBetween 1 n two) (sym k.two) h

second-lives : (terms : Terms) (one two : ℕ) (p : Progress) → let q = residual One (do_part (ruling_of terms) (Sends One one) p) in
    is_living (member_at two p.field.two) ≡ true → is_cut q ≡ false → is_living (member_at two q.field.two) ≡ true
unfolding do_part
second-lives terms one two p lives whole =
    let q = residual One (do_part (ruling_of terms) (Sends One one) p) in
    let sent = (waits-led terms p.field.two p.field.turn one).led p (record { turned = refl; one = tt; two = alike-itself p.field.two }) in
    let k = (part-suffers (between-free p.field.turn anyone-free (alike-free p.field.two)) terms One).kept _ sent in
    may-lives q.field.two two (alike-may p.field.two q.field.two two k.two lives) (whole_of q.field whole).1

pub second-comes : (terms : Terms) (one two : ℕ) (p : Progress) → let q = residual One (do_part (ruling_of terms) (Sends One one) p) in
    MayCome Two two p.field → is_cut q ≡ false → MayCome Two two q.field
second-comes terms one two p may whole = (room-after terms one two p may.0, second-lives terms one two p may.1 whole)

-- How a turn begins

asked-whole : (one two : Bool) (terms : Terms) (f : Field) → IsAsked one two terms f → (f.request_one ≡ requests.Move) ⊎ (f.request_two ≡ requests.Move)
    → (one ≡ false) × (two ≡ false)
asked-whole false false terms f h e = (refl, refl)
asked-whole true false terms f h (inl e) = let a = h.0 in cc
asked-whole true false terms f h (inr e) = let a = h.1 in cc
asked-whole false true terms f h (inl e) = let a = h.0 in cc
asked-whole false true terms f h (inr e) = let a = h.1 in cc
asked-whole true true terms f h (inl e) = let a = h.0 in cc
asked-whole true true terms f h (inr e) = let a = h.1 in cc

pub begins-whole : (s : State) (one two : Choice) → IsStarted s.terms s.field → Plays s requests.Move one two → cut_in s.field ≡ false
begins-whole s one two v plays =
    let all = subst (λ (o : Outcome). StandsAs o s.terms s.field) plays.goes_on v.requests in
    let live = asked-whole (has_fallen_in One s.field) (has_fallen_in Two s.field) s.terms s.field all.2 plays.asked_for in
    all_of _ _ _ live.0 live.1 (ap is_over plays.goes_on)

brings_by : (s : State) (side : Side) (c : Choice) → IsStarted s.terms s.field → s.field.outcome ≡ Ongoing → request_of side s.field ≡ requests.Move
    → offers s side c ≡ true → has_fallen_in side s.field ≡ false → Brings c side s.field
brings_by s side (choices.Move k) v e asked o live = tt
brings_by s side choices.Pass v e asked o live = tt
brings_by s side (choices.Switch place) v e asked o live =
    let among = subst (λ (r : Request). is_among (choices.Switch place) (offered_for r side s.field) ≡ true) asked (offered_by s side (choices.Switch place) e o) in (
      comes_offered s side (choices.Switch place) v.field e o,
      may-lives (party side s.field) place (offered-promises side (choices.Switch place) s.field among) live,
    )

pub both-bring : (s : State) (one two : Choice) → IsStarted s.terms s.field → Plays s requests.Move one two → Brings one One s.field × Brings two Two s.field
both-bring s one two v plays =
    let both = both_move s v plays.goes_on plays.asked_for in
    let live = whole_of s.field (begins-whole s one two v plays) in (
      brings_by s One one v plays.goes_on both.0 plays.first live.0,
      brings_by s Two two v plays.goes_on both.1 plays.second live.1,
    )

-- What comes before the parts of a turn

may-kept : (s t : Side) (change : Active → Active) (place : ℕ) (f : Field) → MayCome t place f → MayCome t place (changed_active s change f)
unfolding changed_active
may-kept One One change place f h = h
may-kept One Two change place f h = h
may-kept Two One change place f h = h
may-kept Two Two change place f h = h

pub picked-may : (s t : Side) (pick : Pick) (place : ℕ) (p : Progress) → MayCome t place p.field → MayCome t place (set_picked s pick p).field
unfolding set_picked given on_active on_field
picked-may s t pick place p h = may-kept s t _ place p.field h

pub picked-whole : (s : Side) (pick : Pick) (p : Progress) → is_cut p ≡ false → is_cut (set_picked s pick p) ≡ false
unfolding set_picked given on_active on_field changed_active with_picked_move
picked-whole One pick p h = h
picked-whole Two pick p h = h

pub flinch-brings : (c : Choice) (s t : Side) (p : Progress) → Brings c t p.field → Brings c t (on_conditions s without_flinch p).field
unfolding on_conditions on_field changed_conditions
flinch-brings (choices.Switch place) s t p h = may-kept s t _ place p.field h
flinch-brings (choices.Move k) s t p h = tt
flinch-brings choices.Pass s t p h = tt

pub flinch-whole : (s : Side) (p : Progress) → is_cut p ≡ false → is_cut (on_conditions s without_flinch p) ≡ false
unfolding on_conditions on_field
flinch-whole s p h = (conditions-whole s without_flinch).spared p.field p.action p.stream h
