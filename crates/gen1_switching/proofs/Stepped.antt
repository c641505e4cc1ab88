-- The machine's step by a pair of offered choices, by the kind of update. The state after it is valid.
use Rattle.gen1_layout.proofs.Words.{Parts, Progress, Telling, [], ap, false, inl, inr, refl, sym, true, ℕ, Bool, Field, Frame, Shows, Side, length, subst}
use Rattle.std.proofs.Common.{◌∷◌, ◌≡◌, ◌⊎◌, ◌∙◌}
use Rattle.gen1_machine.specs.declared.side.Choice.{Choice}
use Rattle.gen1_machine.specs.declared.side.Choice.TheVariants.{Pass}
use Rattle.gen1_machine.specs.declared.side.Side.TheVariants.{One, Two}
use Rattle.gen1_machine.specs.declared.terms.Outcome.TheVariants.{Ongoing}
use Rattle.gen1_machine.specs.declared.terms.Request.{Request}
use Rattle.gen1_machine.specs.State.{is_over, State, has_fallen_in, request_of, Terms}
use Rattle.gen1_machine.specs.Ruling.{ruling_of, Ruling}
use Rattle.gen1_machine.specs.OfferedChoices.{offered, offered_for}
use Rattle.gen1_machine.specs.SwitchingIn.{replace, start, send_if_chosen, send_out}
use Rattle.gen1_machine.specs.Step.{accepted, answered, close_update, offers, opened, run_by, step, step_by, update, update_for, Stepped, is_among}
use Rattle.gen1_machine.specs.Valid.{IsState, IsAsked, IsField, IsStarted, IsUnstarted, StandsAs}
use Rattle.gen1_machine.proofs.ValidStates.{states_stay_valid}
use Rattle.gen1_layout.specs.Shows.{blocks_of, setting_of}
use Rattle.gen1_switching.specs.SwitchingIn.{Plays, Starts, Steps, Updated, drawing_on}
use Rattle.std.proofs.lemmas.Bool.{false≢true}
use Rattle.gen1_rolls.specs.Streams.{IsStream, Stream}
use Rattle.gen1_stats.specs.Members.{IsBetween}
use Rattle.gen1_machine.specs.declared.terms.Outcome.{Outcome}
use Rattle.gen1_machine.specs.Progress.{new_action, stay}
use Rattle.gen1_machine.specs.Plans.{Comes, InRange, IsPlanned}
use Rattle.gen1_machine.proofs.Turns.{Between, send_one}
use Rattle.gen1_machine.proofs.Fitting.{offered-fits, offered-place, Fits}
use Rattle.gen1_machine.proofs.ValidSteps.{both_plan, both-planned, fits-comes, room-free, Room}
use Rattle.gen1_machine.specs.declared.terms.Request.TheVariants as requests
use Rattle.gen1_machine.specs.declared.side.Choice.TheVariants as choices

-- A pair of offered choices is accepted.
pub step_accepts : (s : State) (one two : Choice) → s.field.outcome ≡ Ongoing → offers s One one ≡ true → offers s Two two ≡ true
    → step s one two ≡ accepted s (update (ruling_of s.terms) one two (opened s))
unfolding step step_by answered
step_accepts s one two goes first second =
    let going : is_over s.field.outcome ≡ false = ap is_over goes in
    rw (going, first, second) refl

-- The kind of update

starts-as : (s : State) → Starts s → step s Pass Pass ≡ accepted s (close_update (ruling_of s.terms) (start (opened s)))
unfolding offered update update_for
starts-as s starts =
    let going : is_over s.field.outcome ≡ false = ap is_over starts.goes_on in
    let one = starts.unstarted.requests.one in
    let two = starts.unstarted.requests.two in
    step_accepts s Pass Pass starts.goes_on (rw (going, one) refl) (rw (going, two) refl) ∙ rw (one, two) refl

replaces-as : (s : State) (one two : Choice) → Plays s requests.Switch one two → step s one two ≡ accepted s (close_update (ruling_of s.terms) (replace one two (opened s)))
unfolding update update_for
replaces-as s one two plays =
    step_accepts s one two plays.goes_on plays.first plays.second
    ∙ ap (λ (q : Progress). accepted s (close_update (ruling_of s.terms) q)) (by (ruling_of s.terms) s.field.request_one s.field.request_two plays.asked_for (opened s))
  where
    second : (r : Ruling) (a : Request) (p : Progress) → update_for r a requests.Switch one two p ≡ replace one two p
    second r requests.Move p = refl
    second r requests.Switch p = refl
    second r requests.Pass p = refl

    first : (r : Ruling) (b : Request) (p : Progress) → update_for r requests.Switch b one two p ≡ replace one two p
    first r requests.Move p = refl
    first r requests.Switch p = refl
    first r requests.Pass p = refl

    by : (r : Ruling) (a b : Request) → (a ≡ requests.Switch) ⊎ (b ≡ requests.Switch) → (p : Progress) → update_for r a b one two p ≡ replace one two p
    by r a b (inl e) p = ap (λ (x : Request). update_for r x b one two p) e ∙ first r b p
    by r a b (inr e) p = ap (λ (x : Request). update_for r a x one two p) e ∙ second r a p

-- What an update leaves is the machine's step, which is valid

pub valid-after : (s : State) (one two : Choice) → IsState s → IsState (step s one two).state
unfolding run_by
valid-after s one two valid = states_stay_valid s ((one, two) ∷ []) valid

steps-by : (s : State) (one two : Choice) (q : Progress) {parts : Parts} {events : Telling} → IsState s → step s one two ≡ accepted s q → Updated (setting_of s) parts events q
    → Steps s one two parts events
steps-by s one two q {parts = parts} {events = events} valid is left =
    let followed = ap (λ (t : Stepped). t.state) is in
    let same = left.within.same ∙ ap (λ (n : ℕ). blocks_of (record s { field = q.field; drawn = n })) (sym left.drawn) in
    record {
      stands = record { same = same ∙ ap blocks_of (sym followed); valid = valid-after s one two valid };
      told = q.events;
      answers = ap (λ (t : Stepped). t.answer) is;
      written = left.written;
    }

pub started-so : (s : State) {parts : Parts} {events : Telling} → IsState s → Starts s → Updated (setting_of s) parts events (close_update (ruling_of s.terms) (start (opened s)))
    → Steps s Pass Pass parts events
started-so s valid starts left = steps-by s Pass Pass _ valid (starts-as s starts) left

pub replaced-so : (s : State) (one two : Choice) {parts : Parts} {events : Telling} → IsState s → Plays s requests.Switch one two
    → Updated (setting_of s) parts events (close_update (ruling_of s.terms) (replace one two (opened s))) → Steps s one two parts events
replaced-so s one two valid plays left = steps-by s one two _ valid (replaces-as s one two plays) left

-- What offered choices give to an update.

-- What is offered, by the request

pub offered_by : (s : State) (side : Side) (c : Choice) → s.field.outcome ≡ Ongoing → offers s side c ≡ true → is_among c (offered_for (request_of side s.field) side s.field) ≡ true
unfolding offered
offered_by s side c e h = let going : is_over s.field.outcome ≡ false = ap is_over e in rw going at h

comes_by : {terms : Terms} (side : Side) (c : Choice) (r : Request) (f : Field) → IsField terms f → is_among c (offered_for r side f) ≡ true → Comes c side f
comes_by side (choices.Move k) r f h among = tt
comes_by side choices.Pass r f h among = tt
comes_by side (choices.Switch place) requests.Pass f h among = absurd (false≢true among)
comes_by side (choices.Switch place) requests.Switch f h among = offered-place side place f among
comes_by side (choices.Switch place) requests.Move f h among = fits-comes (choices.Switch place) side f (offered-fits side (choices.Switch place) f h among)

pub comes_offered : (s : State) (side : Side) (c : Choice) → IsField s.terms s.field → s.field.outcome ≡ Ongoing → offers s side c ≡ true → Comes c side s.field
comes_offered s side c h e o = comes_by side c (request_of side s.field) s.field h (offered_by s side c e o)

pub fits_offered : (s : State) (side : Side) (c : Choice) → IsField s.terms s.field → s.field.outcome ≡ Ongoing → request_of side s.field ≡ requests.Move → offers s side c ≡ true → Fits c side s.field
fits_offered s side c h e asked o =
    offered-fits side c s.field h (subst (λ (r : Request). is_among c (offered_for r side s.field) ≡ true) asked (offered_by s side c e o))

-- A battle that asks for something has begun

pub started : (s : State) (asked : Request) (one two : Choice) → IsState s → (requests.Pass ≡ asked → ⊥) → Plays s asked one two → IsStarted s.terms s.field
started s asked one two valid apart plays = by valid.field plays.asked_for
  where
    by : IsUnstarted s.terms s.field ⊎ IsStarted s.terms s.field → (s.field.request_one ≡ asked) ⊎ (s.field.request_two ≡ asked) → IsStarted s.terms s.field
    by (inl u) (inl e) = absurd (apart (sym u.requests.one ∙ e))
    by (inl u) (inr e) = absurd (apart (sym u.requests.two ∙ e))
    by (inr v) e = v

-- Moves are asked from both sides or from none

asked_by : (one two : Bool) (terms : Terms) (f : Field) → IsAsked one two terms f → (f.request_one ≡ requests.Move) ⊎ (f.request_two ≡ requests.Move)
    → (f.request_one ≡ requests.Move) × (f.request_two ≡ requests.Move)
asked_by false false terms f h e = (h.0, h.1)
asked_by true false terms f h (inl e) = let a = h.0 in cc
asked_by true false terms f h (inr e) = let a = h.1 in cc
asked_by false true terms f h (inl e) = let a = h.0 in cc
asked_by false true terms f h (inr e) = let a = h.1 in cc
asked_by true true terms f h (inl e) = let a = h.0 in cc
asked_by true true terms f h (inr e) = let a = h.1 in cc

pub both_move : (s : State) → IsStarted s.terms s.field → s.field.outcome ≡ Ongoing → (s.field.request_one ≡ requests.Move) ⊎ (s.field.request_two ≡ requests.Move)
    → (s.field.request_one ≡ requests.Move) × (s.field.request_two ≡ requests.Move)
both_move s v e asked =
    let all = subst (λ (o : Outcome). StandsAs o s.terms s.field) e v.requests in
    asked_by (has_fallen_in One s.field) (has_fallen_in Two s.field) s.terms s.field all.2 asked

-- What a turn needs: the plans of both sides, by their choices.
pub planned : (s : State) (one two : Choice) (stream : Stream) (drawn : ℕ) → IsStarted s.terms s.field → Plays s requests.Move one two → IsStream stream
    → let p = drawing_on stream drawn s in IsPlanned s.terms (both_plan one two s.field) p.field p.action p.stream
planned s one two stream drawn v plays w =
    let both = both_move s v plays.goes_on plays.asked_for in
    both-planned one two s.field (new_action One) stream (record { field = v.field; tested = tt; stream = w; holds = λ side. tt })
    (fits_offered s One one v.field plays.goes_on both.0 plays.first) (fits_offered s Two two v.field plays.goes_on both.1 plays.second)

-- Side 2's chosen member is still there after side 1's has come out.

room-sent : (one two : ℕ) (p : Progress) → InRange Two two p.field → InRange Two two (send_out One one p).field
room-sent one two p h =
    let a = length p.field.one.members in
    let b = length p.field.two.members in
    let k : Between (Room a) (Room b) p.field.turn (send_out One one p).field (send_out One one p).action (send_out One one p).stream =
    (send_one p.field.turn one (room-free b) (λ t x e n. n)).led p (record { turned = refl; one = refl; two = refl }) in
    subst (λ (n : ℕ). IsBetween 1 n two) (sym k.two) h

pub comes-after : (x y : Choice) (p : Progress) → Comes y Two p.field → Comes y Two (send_if_chosen One x p).field
unfolding send_if_chosen stay
comes-after (choices.Switch one) (choices.Switch two) p h = room-sent one two p h
comes-after (choices.Switch one) (choices.Move k) p h = tt
comes-after (choices.Switch one) choices.Pass p h = tt
comes-after (choices.Move j) y p h = h
comes-after choices.Pass y p h = h

-- An update is closed even if it stopped.
pub reopened : {g : Frame} {parts : Parts} {events : Telling} {b : Bool} {p : Progress} → Shows g parts events b p → Shows g parts events false (record p { stopped = false })
reopened h = record { within = h.within; written = h.written; ends = refl; stream = h.stream; drawn = h.drawn; skips = h.skips; action = h.action }
