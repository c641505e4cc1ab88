-- Which update a pair of offered choices is, what the machine does in it, which pairs are refused, and that each side is offered
-- something.
use Rattle.std.proofs.Common.{Bool, Some, ap, arith, false, inl, inr, refl, subst, sym, true, ◌∙◌, ◌≡◌, ◌≤◌, ◌⊎◌, Err, List, None, Ok, Option, ℕ, Result, [], ◌+◌, ◌∷◌, get_or, length, length-append, not, suc, zero, ◌&&◌, ◌++◌, ◌-◌, ◌<◌, ◌==◌, ◌||◌, ◌≢◌}
use Rattle.gen1_machine.specs.declared.side.Side.{Side}
use Rattle.gen1_machine.specs.declared.side.Side.TheVariants.{One, Two}
use Rattle.gen1_machine.specs.declared.terms.Outcome.{Outcome}
use Rattle.gen1_machine.specs.declared.side.Choice.{Choice}
use Rattle.gen1_machine.specs.State.{Field, State, Terms, has_fallen_in, is_over, active_in, conditions_in, member_in, party, request_of, underway_in}
use Rattle.gen1_machine.specs.Progress.{Progress}
use Rattle.gen1_machine.specs.Ruling.{ruling_of}
use Rattle.gen1_machine.specs.Turn.{turn}
use Rattle.gen1_machine.specs.OfferedChoices.{offered, has_no_slot_in, is_committed, moves_offered, offered_for, or_struggle, others_living_from, switches_offered, usable_from}
use Rattle.gen1_machine.specs.Step.{Accepted, Answer, NotOffered, Refused, Stepped, accepted, answered, close_update, offers, opened, step, step_by, update, update_for, Refusal as Reason, run, run_by, is_among, same_choice, Ran}
use Rattle.gen1_machine.specs.Valid.{IsAsked, IsStarted, IsState, IsUnstarted, StandsAs, lives_in}
use Rattle.gen1_machine.proofs.TurnCosts.{step_is_bounded}
use Rattle.gen1_layout.specs.Parts.{Parts}
use Rattle.gen1_layout.specs.Shows.{Telling, Stands, Within, setting_of}
use Rattle.gen1_switching.specs.SwitchingIn.{Plays, Starts, Steps}
use Rattle.gen1_switching.proofs.Stepped.{step_accepts, valid-after}
use Rattle.gen1_engine.specs.declared.result.Refusal.{Refusal}
use Rattle.gen1_engine.specs.Replay.{IsRefused}
use Rattle.gen1_engine.specs.Update.{Answers, AnswersAs, AreOffered, CallsAreTheRun, CallsEnd, IsBounded, IsBoundedAs, Logs, LogsAs, OfferedIsAccepted, Tells, Tests, ToldAs, UpdatesAll, refusal_of, result_of}
use Rattle.arrayvec.specs.ArrayVec.{ArrayVec}
use Rattle.gen1_machine.specs.declared.event.Event.{Event}
use Rattle.gen1_events.specs.Reader.{IsReading}
use Rattle.gen1_engine.specs.declared.result.BattleResult.{BattleResult}
use Rattle.std.specs.Prelude.{cond, count_by, is_ok, if◌then◌else◌}
use Rattle.std.proofs.lemmas.List.Sums.{sum_by-cons, sum_by_push}
use Rattle.gen1_machine.specs.Laws.{accepted_in, is_accepted}
use Rattle.gen1_machine.proofs.Runs.{refusal_changes_nothing, runs_append}
use Rattle.gen1_machine.proofs.RunsEnd.{runs_end}
use Rattle.std.proofs.lemmas.Bool.{false≢true}
use Rattle.std.proofs.lemmas.Bool.Decides.{eqb_tells}
use Rattle.gen1_tables.specs.Types.{any}
use Rattle.gen1_stats.specs.Members.{Member, is_living, nobody}
use Rattle.gen1_machine.specs.declared.terms.Outcome.TheVariants as outcomes
use Rattle.gen1_machine.specs.declared.terms.Request.TheVariants as requests
use Rattle.gen1_machine.specs.declared.side.Choice.TheVariants as choices
use Rattle.gen1_engine.specs.declared.result.Refusal.TheVariants as refusals

-- if something is offered, the battle continues
pub goes_on : (s : State) (side : Side) (c : Choice) → offers s side c ≡ true → s.field.outcome ≡ outcomes.Ongoing
unfolding offered
goes_on s side c h = by s.field.outcome refl
  where
    by : (o : Outcome) → s.field.outcome ≡ o → s.field.outcome ≡ outcomes.Ongoing
    by outcomes.Ongoing e = e
    by outcomes.WinOne e = absurd (let f = rw e at h in cc)
    by outcomes.WinTwo e = absurd (let f = rw e at h in cc)
    by outcomes.Tie e = absurd (let f = rw e at h in cc)
    by (outcomes.Fault n) e = absurd (let f = rw e at h in cc)

-- the requests while a battle continues

pub data Asks (f : Field) : Type 0 where
  moves : f.request_one ≡ requests.Move → f.request_two ≡ requests.Move → Asks f
  first_switches : f.request_one ≡ requests.Switch → f.request_two ≡ requests.Pass → Asks f
  second_switches : f.request_one ≡ requests.Pass → f.request_two ≡ requests.Switch → Asks f
  both_switch : f.request_one ≡ requests.Switch → f.request_two ≡ requests.Switch → Asks f

asks_by : (one two : Bool) (terms : Terms) (f : Field) → IsAsked one two terms f → Asks f
asks_by false false terms f h = moves h.0 h.1
asks_by true false terms f h = first_switches h.0 h.1
asks_by false true terms f h = second_switches h.0 h.1
asks_by true true terms f h = both_switch h.0 h.1

asks : (terms : Terms) (f : Field) → IsStarted terms f → f.outcome ≡ outcomes.Ongoing → Asks f
asks terms f h e = let all = subst (λ (o : Outcome). StandsAs o terms f) e h.requests in asks_by (has_fallen_in One f) (has_fallen_in Two f) terms f all.2

-- a turn asks for moves of both sides
pub both_move : (s : State) → IsState s → s.field.outcome ≡ outcomes.Ongoing → (s.field.request_one ≡ requests.Move) ⊎ (s.field.request_two ≡ requests.Move)
    → (s.field.request_one ≡ requests.Move) × (s.field.request_two ≡ requests.Move)
both_move s valid e asked = by valid.field
  where
    of : Asks s.field → (s.field.request_one ≡ requests.Move) ⊎ (s.field.request_two ≡ requests.Move) → (s.field.request_one ≡ requests.Move) × (s.field.request_two ≡ requests.Move)
    of (moves a b) h = (a, b)
    of (first_switches a b) (inl h) = absurd (cc)
    of (first_switches a b) (inr h) = absurd (cc)
    of (second_switches a b) (inl h) = absurd (cc)
    of (second_switches a b) (inr h) = absurd (cc)
    of (both_switch a b) (inl h) = absurd (cc)
    of (both_switch a b) (inr h) = absurd (cc)

    none : IsUnstarted s.terms s.field → (s.field.request_one ≡ requests.Move) ⊎ (s.field.request_two ≡ requests.Move) → ⊥
    none u (inl h) = let r = u.requests.one in cc
    none u (inr h) = let r = u.requests.two in cc

    by : IsUnstarted s.terms s.field ⊎ IsStarted s.terms s.field → (s.field.request_one ≡ requests.Move) × (s.field.request_two ≡ requests.Move)
    by (inl u) = absurd (none u asked)
    by (inr v) = of (asks s.terms s.field v e) asked

-- which update it is, by side 1's request and the turn

pub unstarted_at : (s : State) → IsState s → s.field.turn ≡ 0 → IsUnstarted s.terms s.field
unstarted_at s valid e = by valid.field
  where
    by : IsUnstarted s.terms s.field ⊎ IsStarted s.terms s.field → IsUnstarted s.terms s.field
    by (inl u) = u
    by (inr v) = absurd (let t = v.turn in omega arith)

asked_switch : (s : State) → IsState s → s.field.outcome ≡ outcomes.Ongoing → (s.field.request_one ≡ requests.Move → ⊥) → 1 ≤ s.field.turn
    → (s.field.request_one ≡ requests.Switch) ⊎ (s.field.request_two ≡ requests.Switch)
asked_switch s valid e apart later = by valid.field
  where
    of : Asks s.field → (s.field.request_one ≡ requests.Switch) ⊎ (s.field.request_two ≡ requests.Switch)
    of (moves a b) = absurd (apart a)
    of (first_switches a b) = inl a
    of (second_switches a b) = inr b
    of (both_switch a b) = inl a

    by : IsUnstarted s.terms s.field ⊎ IsStarted s.terms s.field → (s.field.request_one ≡ requests.Switch) ⊎ (s.field.request_two ≡ requests.Switch)
    by (inl u) = absurd (let t = u.turn in omega arith)
    by (inr v) = of (asks s.terms s.field v e)

pub plays_turn : {s : State} {one two : Choice} → AreOffered s one two → s.field.request_one ≡ requests.Move → Plays s requests.Move one two
plays_turn {s = s} {one = one} h asked = record { goes_on = goes_on s One one h.first; asked_for = inl asked; first = h.first; second = h.second }

pub plays_switches : {s : State} {one two : Choice} → IsState s → AreOffered s one two → (s.field.request_one ≡ requests.Move → ⊥) → 1 ≤ s.field.turn → Plays s requests.Switch one two
plays_switches {s = s} {one = one} valid h apart later =
    let going = goes_on s One one h.first in
    record { goes_on = going; asked_for = asked_switch s valid going apart later; first = h.first; second = h.second }

pub starts_of : {s : State} {one two : Choice} → IsState s → AreOffered s one two → s.field.turn ≡ 0 → Starts s
starts_of {s = s} {one = one} valid h e = record { goes_on = goes_on s One one h.first; unstarted = unstarted_at s valid e }

-- before the first update both pass

passes : (s : State) (side : Side) (c : Choice) → offers s side c ≡ true → s.field.request_one ≡ requests.Pass → s.field.request_two ≡ requests.Pass → c ≡ choices.Pass
unfolding offered
passes s side c h one two = by side c (goes_on s side c h) h
  where
    by : (side : Side) (c : Choice) → s.field.outcome ≡ outcomes.Ongoing → offers s side c ≡ true → c ≡ choices.Pass
    by side choices.Pass going h = refl
    by One (choices.Move k) going h = absurd (let f = rw (going, one) at h in cc)
    by One (choices.Switch k) going h = absurd (let f = rw (going, one) at h in cc)
    by Two (choices.Move k) going h = absurd (let f = rw (going, two) at h in cc)
    by Two (choices.Switch k) going h = absurd (let f = rw (going, two) at h in cc)

pub starts_so : {s : State} {one two : Choice} {parts : Parts} {events : Telling} → AreOffered s one two → Starts s → Steps s choices.Pass choices.Pass parts events → Steps s one two parts events
starts_so {s = s} {one = one} {two = two} {parts = parts} {events = events} o starts h =
    let a = starts.unstarted.requests.one in
    let b = starts.unstarted.requests.two in
    let first = passes s One one o.first a b in
    let second = passes s Two two o.second a b in
    subst (λ (c : Choice). Steps s c two parts events) (sym first) (subst (λ (c : Choice). Steps s choices.Pass c parts events) (sym second) h)

-- a turn

turns-as : (s : State) (one two : Choice) → Plays s requests.Move one two → s.field.request_one ≡ requests.Move → s.field.request_two ≡ requests.Move
    → step s one two ≡ accepted s (close_update (ruling_of s.terms) (turn (ruling_of s.terms) one two (opened s)))
unfolding update update_for
turns-as s one two plays a b = step_accepts s one two plays.goes_on plays.first plays.second ∙ rw (a, b) refl

pub turned_so : {new : Parts} {events : Telling} (s : State) (one two : Choice) (q : Progress) → IsState s → step s one two ≡ accepted s q
    → Within (record (setting_of s) { drawn = q.drawn }) new q.field → events q.events → Steps s one two new events
turned_so {new = new} s one two q valid is w e = record {
  told = q.events;
  stands = subst (Stands new) (sym (ap (λ (t : Stepped). t.state) is)) (record { same = w.same; valid = subst IsState (ap (λ (t : Stepped). t.state) is) (valid-after s one two valid) });
  answers = ap (λ (t : Stepped). t.answer) is;
  written = e;
}

pub turn_made : (s : State) (one two : Choice) → IsState s → Plays s requests.Move one two
    → step s one two ≡ accepted s (close_update (ruling_of s.terms) (turn (ruling_of s.terms) one two (opened s)))
turn_made s one two valid plays = let both = both_move s valid plays.goes_on plays.asked_for in turns-as s one two plays both.0 both.1

-- refusals

pub refused_first : (s : State) (one two : Choice) (refusal : Refusal) → offers s One one ≡ false → IsRefused s false (offers s Two two) refusal
    → Tests s one two (Some refusal)
unfolding step step_by
refused_first s one two refusal a (why, is, all) = (why, is, rw a (all (update (ruling_of s.terms) one two (opened s))))

pub refused_second : (s : State) (one two : Choice) → offers s One one ≡ true → offers s Two two ≡ false → Tests s one two (Some (refusals.NotOffered Two))
unfolding step step_by answered
refused_second s one two a b = let over = ap is_over (goes_on s One one a) in (NotOffered Two, refl, rw (over, a, b) refl)

-- bounds

pub bounded : (s : State) (one two : Choice) → IsBounded s one two
bounded s one two = by (step s one two).answer refl
  where
    by : (a : Answer) → (step s one two).answer ≡ a → IsBoundedAs s a (step s one two).state
    by (Refused why) e = tt
    by (Accepted events) e = step_is_bounded s one two events e

-- What an update returned, by the answer of the machine's step.

-- a refused pair

pub answers_refused : (s : State) (one two : Choice) (p : Parts) (why : Refusal) → Tests s one two (Some why) → Answers s one two p p (Err why)
answers_refused s one two p why (reason, is, e) = rw e (ap Err is, refl)

pub tells_refused : (s : State) (one two : Choice) (events : ArrayVec Event) (why : Refusal) → Tests s one two (Some why) → Tells s one two events events
tells_refused s one two events why (reason, is, e) = rw e refl

pub logs_refused : (s : State) (one two : Choice) (log : ArrayVec ℕ) (why : Refusal) → Tests s one two (Some why) → Logs s one two log log
logs_refused s one two log why (reason, is, e) = rw e refl

-- an accepted one

pub answers_accepted : {s : State} {one two : Choice} {new : Parts} {events : Telling} (old : Parts) (result : BattleResult) → Steps s one two new events
    → result ≡ result_of (step s one two).state → Answers s one two old new (Ok result)
answers_accepted old result h e = rw h.answers (ap Ok e, h.stands)

pub tells_accepted : {s : State} {one two : Choice} {new : Parts} (old events : ArrayVec Event) → Steps s one two new (λ told. events.items ≡ told) → Tells s one two old events
tells_accepted old events h = rw h.answers h.written

pub logs_accepted : {s : State} {one two : Choice} {new : Parts} (old log : ArrayVec ℕ) → Steps s one two new (λ told. IsReading log.items told) → Logs s one two old log
logs_accepted old log h = rw h.answers h.written

pub told_accepted : {S : Type 0} (tells : S → List Event → Type 0) {s : State} {one two : Choice} {new : Parts} (old sink : S)
    → Steps s one two new (tells sink) → ToldAs tells (step s one two).answer old sink
told_accepted tells old sink h = rw h.answers h.written

-- what was returned, and so what the step said

pub answered_err : (answer : Answer) (next : State) (old new : Parts) (why : Refusal) → AnswersAs answer next old new (Err why)
    → (reason : Reason) × (answer ≡ Refused reason) × (why ≡ refusal_of reason) × (new ≡ old)
answered_err (Refused reason) next old new why h = (reason, refl, (let e = h.0 in cc), h.1)
answered_err (Accepted events) next old new why h = absurd (let e = h.0 in cc)

pub answered_ok : (answer : Answer) (next : State) (old new : Parts) (old_log log : ArrayVec ℕ) (result : BattleResult) → AnswersAs answer next old new (Ok result) → LogsAs answer old_log log
    → (events : List Event) × (answer ≡ Accepted events) × Stands new next × IsReading log.items events
answered_ok (Refused reason) next old new old_log log result h l = absurd (let e = h.0 in cc)
answered_ok (Accepted events) next old new old_log log result h l = (events, refl, h.1, l)

-- a test that found nothing
pub none_left : (o : Option Refusal) → ((why : Refusal) → o ≡ Some why → ⊥) → o ≡ None
none_left (Some why) h = absurd (h why refl)
none_left None h = refl

pub same_events : {a b : List Event} → Accepted a ≡ Accepted b → a ≡ b
same_events e = cc

-- Calls of an update, one after the other.

-- one call

one_call : (s : State) (one two : Choice) (old new : Parts) (result : Result BattleResult Refusal) → Stands old s → Answers s one two old new result
    → Stands new (step s one two).state × (is_ok result ≡ is_accepted (step s one two).answer)
one_call s one two old new result h a = by (step s one two).answer refl a
  where
    by : (answer : Answer) → (step s one two).answer ≡ answer → AnswersAs answer (step s one two).state old new result
        → Stands new (step s one two).state × (is_ok result ≡ is_accepted answer)
    by (Refused why) e k =
        let same = (refusal_changes_nothing s one two why e).1 in
        (subst (λ (t : State). Stands new t) (sym same) (subst (λ (p : Parts). Stands p s) (sym k.1) h), ap is_ok k.0)
    by (Accepted events) e k = (k.1, ap is_ok k.0)

-- all of them

all_calls : (s : State) (old new : Parts) (pairs : List (Choice × Choice)) (results : List (Result BattleResult Refusal)) → Stands old s → UpdatesAll old pairs results new
    → Stands new (run s pairs).state × (count_by is_ok results ≡ accepted_in s pairs)
unfolding run_by
all_calls s old new [] [] h all = (subst (λ (p : Parts). Stands p s) (sym all) h, refl)
all_calls s old new [] (result ∷ results) h all = absurd all
all_calls s old new (pair ∷ pairs) [] h all = absurd all
all_calls s old new (pair ∷ pairs) (result ∷ results) h all =
    let here = one_call s pair.0 pair.1 old all.0 result h (all.1 s h) in
    let later = all_calls (step s pair.0 pair.1).state all.0 new pairs results here.0 all.2 in (
      later.0,
      sum_by-cons (λ (r : Result BattleResult Refusal). cond (is_ok r) 1 0) result results
          ∙ ap (λ (b : Bool). cond b 1 0 + count_by is_ok results) here.1
          ∙ ap (λ (n : ℕ). cond (is_accepted (step s pair.0 pair.1).answer) 1 0 + n) later.1
          ∙ sym (sum_by-cons (λ (a : Answer). cond (is_accepted a) 1 0) (step s pair.0 pair.1).answer (run (step s pair.0 pair.1).state pairs).answers),
    )

pub calls_are_the_run : CallsAreTheRun
calls_are_the_run s old new pairs results h all = (all_calls s old new pairs results h all).0

pub calls_end : CallsEnd
calls_end s old new pairs results h all =
    let same = (all_calls s old new pairs results h all).1 in
    let ends = runs_end s pairs h.valid in
    (subst (λ (n : ℕ). n ≤ s.terms.limit + 11) (sym same) ends.0, λ e. ends.1 (sym same ∙ e))

pub offered_is_accepted : OfferedIsAccepted
offered_is_accepted s old new pair result h updates first second =
    let is = step_accepts s pair.0 pair.1 (goes_on s One pair.0 first) first second in
    let a = one_call s pair.0 pair.1 old new result h (updates s h) in
    a.1 ∙ ap (λ (t : Stepped). is_accepted t.answer) is

-- While a battle continues, each side is offered something. Pairs that were accepted, one after the other.

-- lists that are not empty

some-if : (b : Bool) (xs ys : List Choice) → 1 ≤ length xs → 1 ≤ length ys → 1 ≤ length (if b then xs else ys)
some-if true xs ys h k = h
some-if false xs ys h k = k

some-append : (xs ys : List Choice) → 1 ≤ length xs → 1 ≤ length (xs ++ ys)
some-append xs ys h = omega (arith, length-append xs ys, h)

some-struggle : (xs : List Choice) → 1 ≤ length (or_struggle xs)
some-struggle [] = omega arith
some-struggle (x ∷ xs) = omega arith

-- moves

moves-some : (s : Side) (f : Field) → 1 ≤ length (offered_for requests.Move s f)
moves-some s f =
    some-if (is_committed (underway_in s f)) (choices.Move 0 ∷ []) (moves_offered s f ++ switches_offered s f) (omega arith)
    (some-append (moves_offered s f) (switches_offered s f)
    (some-if (has_no_slot_in s f) (choices.Move 0 ∷ []) _ (omega arith) (some-struggle (usable_from 1 (conditions_in s f).disabled (member_in s f).moves))))

-- a replacement for the fallen member, if another one lives

order : (a b : ℕ) → (b < a + 1) ⊎ (a < b)
order a b = grind arith

or-rest : (a b : Bool) → (a || b) ≡ true → a ≡ false → b ≡ true
or-rest true b h e = absurd (false≢true (sym e))
or-rest false b h e = h

-- either a living member that is not out comes first, or there is another one after it
first-or-rest : (lives away : Bool) (first : Choice) (rest : List Choice) → ((lives ≡ true) × (away ≡ true)) ⊎ (1 ≤ length rest)
    → 1 ≤ length (if lives && away then first ∷ rest else rest)
first-or-rest true true first rest h = omega arith
first-or-rest true false first rest (inl h) = absurd (false≢true h.1)
first-or-rest true false first rest (inr h) = h
first-or-rest false away first rest (inl h) = absurd (false≢true h.0)
first-or-rest false away first rest (inr h) = h

-- the active member has fallen, if it is still to come
abbrev Fell : ℕ → ℕ → List Member → Type 0
Fell place out ms = (out < place) ⊎ (is_living (get_or ms (out - place) nobody) ≡ false)

fell-behind : (place out : ℕ) (m : Member) (ms : List Member) → Fell place out (m ∷ ms) → (out < place + 1) ⊎ (place < out) → Fell (place + 1) out ms
fell-behind place out m ms (inl below) o = inl (omega (arith, below))
fell-behind place out m ms (inr fell) (inl near) = inl near
fell-behind place out m ms (inr fell) (inr above) =
    let e : out - place ≡ suc (out - (place + 1)) = omega (arith, above) in
    inr (ap (λ (n : ℕ). is_living (get_or (m ∷ ms) n nobody)) (sym e) ∙ fell)

fell-here : (place out : ℕ) (m : Member) (ms : List Member) → Fell place out (m ∷ ms) → place ≡ out → is_living m ≡ false
fell-here place out m ms (inl below) e = absurd (omega (arith, below, e))
fell-here place out m ms (inr fell) e =
    let z : out - place ≡ 0 = omega (arith, e) in
    ap (λ (n : ℕ). is_living (get_or (m ∷ ms) n nobody)) (sym z) ∙ fell

other-lives : (place out : ℕ) (ms : List Member) → any is_living ms ≡ true → Fell place out ms → 1 ≤ length (others_living_from place out ms)
other-lives place out [] lives fell = absurd (false≢true lives)
other-lives place out (m ∷ ms) lives fell =
    first-or-rest (is_living m) (not (place == out)) (choices.Switch place) (others_living_from (place + 1) out ms)
    (by (is_living m) refl (eqb_tells place out) λ h. other-lives (place + 1) out ms h (fell-behind place out m ms fell (order place out)))
  where
    by : (b : Bool) → is_living m ≡ b → (((place == out) ≡ true) × (place ≡ out)) ⊎ (((place == out) ≡ false) × (place ≢ out))
        → (any is_living ms ≡ true → 1 ≤ length (others_living_from (place + 1) out ms))
        → ((is_living m ≡ true) × (not (place == out) ≡ true)) ⊎ (1 ≤ length (others_living_from (place + 1) out ms))
    by true e (inl h) more = absurd (false≢true (sym (fell-here place out m ms fell h.1) ∙ e))
    by true e (inr h) more = inl (e, ap not h.0)
    by false e h more = inr (more (or-rest (is_living m) (any is_living ms) lives e))

switches-some : (s : Side) (f : Field) → has_fallen_in s f ≡ true → lives_in s f ≡ true → 1 ≤ length (offered_for requests.Switch s f)
switches-some s f fallen lives = other-lives 1 (active_in s f).place (party s f).members lives (inr (is-false (is_living (member_in s f)) fallen))
  where
    is-false : (b : Bool) → not b ≡ true → b ≡ false
    is-false true h = absurd (false≢true h)
    is-false false h = refl

-- what is asked of a side while a battle continues

data IsAskedOf (s : Side) (f : Field) : Type 0 where
  asks-pass : request_of s f ≡ requests.Pass → IsAskedOf s f
  asks-move : request_of s f ≡ requests.Move → IsAskedOf s f
  asks-switch : request_of s f ≡ requests.Switch → has_fallen_in s f ≡ true → lives_in s f ≡ true → IsAskedOf s f

unstarted-asks : (s : Side) (terms : Terms) (f : Field) → IsUnstarted terms f → IsAskedOf s f
unstarted-asks One terms f h = asks-pass h.requests.one
unstarted-asks Two terms f h = asks-pass h.requests.two

started-asks : (s : Side) (terms : Terms) (f : Field) → f.outcome ≡ outcomes.Ongoing → IsStarted terms f → IsAskedOf s f
started-asks s terms f going h = of s (subst (λ (o : Outcome). StandsAs o terms f) going h.requests)
  where
    asked : (s : Side) (a b : Bool) → has_fallen_in One f ≡ a → has_fallen_in Two f ≡ b → lives_in One f ≡ true → lives_in Two f ≡ true → IsAsked a b terms f → IsAskedOf s f
    asked One false false x y one two h = asks-move h.0
    asked Two false false x y one two h = asks-move h.1
    asked One true false x y one two h = asks-switch h.0 x one
    asked Two true false x y one two h = asks-pass h.1
    asked One false true x y one two h = asks-pass h.0
    asked Two false true x y one two h = asks-switch h.1 y two
    asked One true true x y one two h = asks-switch h.0 x one
    asked Two true true x y one two h = asks-switch h.1 y two

    of : (s : Side) → StandsAs outcomes.Ongoing terms f → IsAskedOf s f
    of s h = asked s (has_fallen_in One f) (has_fallen_in Two f) refl refl h.0 h.1 h.2

is-ongoing : (o : Outcome) → is_over o ≡ false → o ≡ outcomes.Ongoing
is-ongoing outcomes.Ongoing h = refl
is-ongoing outcomes.WinOne h = absurd (false≢true (sym h))
is-ongoing outcomes.WinTwo h = absurd (false≢true (sym h))
is-ongoing outcomes.Tie h = absurd (false≢true (sym h))
is-ongoing (outcomes.Fault n) h = absurd (false≢true (sym h))

asked-some : (s : Side) (f : Field) → IsAskedOf s f → 1 ≤ length (offered_for (request_of s f) s f)
asked-some s f (asks-pass e) = rw e (omega arith)
asked-some s f (asks-move e) = rw e (moves-some s f)
asked-some s f (asks-switch e fallen lives) = rw e (switches-some s f fallen lives)

pub offers-some : (s : Side) (t : State) → IsState t → is_over t.field.outcome ≡ false → 1 ≤ length (offered s t.field)
unfolding offered
offers-some s t valid going =
    rw going (asked-some s t.field (elim valid.field [
      | inl unstarted ↦ unstarted-asks s t.terms t.field unstarted
      | inr started ↦ started-asks s t.terms t.field (is-ongoing t.field.outcome going) started
    ]))

-- an element of a list is one of its elements

same-itself : (c : Choice) → same_choice c c ≡ true
same-itself choices.Pass = refl
same-itself (choices.Move k) = is-same k
  where
    is-same : (n : ℕ) → (n == n) ≡ true
    is-same n = elim (eqb_tells n n) [ inl h ↦ h.0 | inr h ↦ absurd (h.1 refl) ]
same-itself (choices.Switch k) = elim (eqb_tells k k) [ inl h ↦ h.0 | inr h ↦ absurd (h.1 refl) ]

pub or-yes : (b : Bool) {c : Bool} → c ≡ true → (b || c) ≡ true
or-yes true h = refl
or-yes false h = h

pub among-at : (xs : List Choice) (k : ℕ) (d : Choice) → k < length xs → is_among (get_or xs k d) xs ≡ true
among-at [] k d inside = absurd (omega (arith, inside))
among-at (x ∷ xs) zero d inside = rw (same-itself x) refl
among-at (x ∷ xs) (suc k) d inside = or-yes (same_choice (get_or xs k d) x) (among-at xs k d (omega (arith, inside)))

-- Pairs that were accepted, one after the other.

-- that many pairs were accepted from s, and the battle represents the state that they lead to
pub record Accepts (s : State) (count : ℕ) (battle : Parts) : Type 0 where
  pub pairs : List (Choice × Choice)
  pub stands : Stands battle (run s pairs).state
  pub counted : accepted_in s pairs ≡ count

unfoldable pub accepts-none : (s : State) {battle : Parts} → Stands battle s → Accepts s 0 battle
unfolding run_by
accepts-none s stands = record { pairs = []; stands = stands; counted = refl }

unfoldable pub accepts-more : {s : State} {count : ℕ} {old new : Parts} {events : Telling} (one two : Choice) (h : Accepts s count old)
    → Steps (run s h.pairs).state one two new events → Accepts s (count + 1) new
unfolding run_by
accepts-more {s = s} {new = new} one two h steps =
    let before = (run s h.pairs).answers in
    let last = step (run s h.pairs).state one two in
    let ran : run s (h.pairs ++ (one, two) ∷ []) ≡ record { answers = before ++ last.answer ∷ []; state = last.state } = runs_append s h.pairs ((one, two) ∷ []) in
    record {
      pairs = h.pairs ++ (one, two) ∷ [];
      stands = subst (λ (r : Ran). Stands new r.state) (sym ran) steps.stands;
      counted =
          ap (λ (r : Ran). count_by is_accepted r.answers) ran ∙ sum_by_push (λ (a : Answer). cond (is_accepted a) 1 0) before last.answer
          ∙ ap (λ (b : Bool). count_by is_accepted before + cond b 1 0) (ap is_accepted steps.answers) ∙ ap (λ (n : ℕ). n + 1) h.counted;
    }
