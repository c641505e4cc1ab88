-- A pair that ends: what it leaves, and that its number is in range.
use Rattle.std.proofs.Common.{ap, false, refl, ◌≡◌, Bool, List, [], arith, inl, inr, length, subst, suc, sym, true, zero, ℕ, ◌&&◌, ◌+◌, ◌-◌, ◌<◌, ◌==◌, ◌≢◌, ◌≤◌, ◌∷◌, Err, None, Ok, Option, Result, Some, ◌∙◌, ◌⊎◌}
use Rattle.gen1_machine.specs.declared.side.Side.TheVariants.{One, Two}
use Rattle.gen1_machine.specs.declared.side.Choice.{Choice}
use Rattle.gen1_machine.specs.Progress.{Progress}
use Rattle.gen1_machine.specs.Ruling.{ruling_of}
use Rattle.gen1_machine.specs.State.{is_over, State, Active, Party, Field, has_fallen_in, is_pass, request_of, Terms}
use Rattle.gen1_machine.specs.Step.{Accepted, answered, opened, step, step_by, update, Stepped, events_of, is_among}
use Rattle.gen1_engine.specs.Update.{Answers, AnswersAs, AreOffered, Tells, TellsAs, reseeded, result_of}
use Rattle.gen1_engine.proofs.Making.{goes_on, unstarted_at}
use Rattle.std.specs.Prelude.{if◌then◌else◌, max}
use Rattle.std.proofs.lemmas.Bool.Decides.{nat_tests}
use Rattle.gen1_stats.specs.Members.{is_living, Member}
use Rattle.gen1_machine.specs.declared.terms.Request.{Request}
use Rattle.gen1_machine.specs.OfferedChoices.{others_living_from, offered_for}
use Rattle.gen1_machine.specs.Room.{Course, begun, room_of}
use Rattle.gen1_machine.specs.Valid.{IsStarted, IsState, IsUnstarted, IsAsked, IsField, StandsAs}
use Rattle.gen1_machine.proofs.Turns.{alive, bench, bench-most, living, living_but}
use Rattle.gen1_machine.proofs.RunsEnd.{due, left, left_by, state-ready, step-lower, Lower, offered-is}
use Rattle.gen1_layout.specs.Parts.{Parts}
use Rattle.gen1_layout.specs.Shows.{Stands}
use Rattle.gen1_room.specs.declared.submission.Held.{Held}
use Rattle.gen1_room.specs.Rooms.{Counts, ended, Holds, is_replaced, on_bench, pairs_left, IsRoom, Opens, reseeded_in}
use Rattle.gen1_room.proofs.Rooms.{and_false}
use Rattle.arrayvec.specs.ArrayVec.{ArrayVec}
use Rattle.gen1_rolls.specs.Steady.{Ring}
use Rattle.gen1_machine.specs.declared.side.Side.{Side}
use Rattle.gen1_machine.specs.declared.event.Event.{Event}
use Rattle.gen1_machine.specs.declared.terms.Outcome.{Outcome}
use Rattle.gen1_machine.proofs.Fallen.{Standing, update-standing}
use Rattle.gen1_events.specs.Reader.{IsReading}
use Rattle.gen1_engine.specs.declared.result.BattleResult.{BattleResult}
use Rattle.gen1_engine.specs.declared.result.Refusal.{Refusal}
use Rattle.gen1_machine.specs.declared.side.Choice.TheVariants as choices
use Rattle.gen1_machine.specs.declared.terms.Request.TheVariants as requests
use Rattle.gen1_machine.specs.declared.terms.Outcome.TheVariants as outcomes

-- The number of pairs: it is in range, since fewer are left with each.

-- Updates by offered choices, and what an accepted update left.

-- what an accepted update does
abbrev pub made : State → Choice → Choice → Progress
made s one two = update (ruling_of s.terms) one two (opened s)

pub step_accepts : (s : State) (one two : Choice) → AreOffered s one two
    → step s one two ≡ record { answer = Accepted (made s one two).events; state = record s { field = (made s one two).field; drawn = (made s one two).drawn } }
unfolding step step_by answered
step_accepts s one two h =
    let going : is_over s.field.outcome ≡ false = ap is_over (goes_on s One one h.first) in
    rw (going, h.first, h.second) refl

-- What is left of a battle, in the words of the machine's own proof

apart : (k out : ℕ) → k ≢ out → (k == out) ≡ false
apart k out h = grind (arith, nat_tests)

same : (k out : ℕ) → k ≡ out → (k == out) ≡ true
same k out h = grind (arith, nat_tests)

and_true : (b : Bool) → (b && true) ≡ b
and_true true = refl
and_true false = refl

one_longer : (b : Bool) (c : Choice) (l : List Choice) (n : ℕ) → length l ≡ n → length (if b then c ∷ l else l) ≡ alive b + n
unfolding alive
one_longer true c l n h = omega (arith, h)
one_longer false c l n h = omega (arith, h)

past-out : (k out : ℕ) (ms : List Member) → out < k → length (others_living_from k out ms) ≡ living ms
unfolding living
past-out k out [] h = refl
past-out k out (m ∷ ms) h =
    rw (apart k out (λ e. omega (arith, e)), and_true (is_living m))
    (one_longer (is_living m) (choices.Switch k) (others_living_from (k + 1) out ms) (living ms) (past-out (k + 1) out ms (omega arith)))

from-out : (k j out : ℕ) (ms : List Member) → out ≡ k + j → length (others_living_from k out ms) ≡ living_but j ms
unfolding living_but
from-out k j out [] at = refl
from-out k zero out (m ∷ ms) at =
    rw (same k out (omega (arith, at)), and_false (is_living m)) (past-out (k + 1) out ms (omega (arith, at)))
from-out k (suc j) out (m ∷ ms) at =
    rw (apart k out (λ e. omega (arith, e, at)), and_true (is_living m))
    (one_longer (is_living m) (choices.Switch k) (others_living_from (k + 1) out ms) (living_but j ms) (from-out (k + 1) j out ms (omega (arith, at))))

first-or : (n : ℕ) → max 1 n ≡ 1 + (n - 1)
first-or n = grind arith

bench-is : (t : Party) → length (others_living_from 1 (max 1 t.active.place) t.members) ≡ bench t
bench-is t = from-out 1 (t.active.place - 1) (max 1 t.active.place) t.members (first-or t.active.place)

due-is : (a b : Request) → (if is_replaced a b then 0 else 1) ≡ due a b
due-is requests.Switch b = refl
due-is requests.Pass requests.Switch = refl
due-is requests.Move requests.Switch = refl
due-is requests.Pass requests.Pass = refl
due-is requests.Pass requests.Move = refl
due-is requests.Move requests.Pass = refl
due-is requests.Move requests.Move = refl

left-is : (s : State) → pairs_left s ≡ left s
left-is s = by (is_over s.field.outcome)
  where
    by : (b : Bool)
        → (if b then 0
        else (if is_replaced s.field.request_one s.field.request_two then 0 else 1) + (s.terms.limit - s.field.turn)
        + (length (on_bench One s.field) + length (on_bench Two s.field))) ≡ left_by b s.terms.limit s.field
    by true = refl
    by false = omega (arith, due-is s.field.request_one s.field.request_two, bench-is s.field.one, bench-is s.field.two)

-- What is left of a valid state

party-bench : (t : Party) → t.active.place - 1 < length t.members → length t.members ≤ 6 → bench t ≤ 5
party-bench t place size = omega (arith, bench-most (t.active.place - 1) t.members place, size)

due-most : (a b : Request) → due a b ≤ 1
due-most requests.Switch b = omega arith
due-most requests.Pass requests.Switch = omega arith
due-most requests.Pass requests.Pass = omega arith
due-most requests.Pass requests.Move = omega arith
due-most requests.Move requests.Switch = omega arith
due-most requests.Move requests.Pass = omega arith
due-most requests.Move requests.Move = omega arith

left-most : (s : State) → bench s.field.one ≤ 5 → bench s.field.two ≤ 5 → left s ≤ s.terms.limit + 11
left-most s one two = by (is_over s.field.outcome)
  where
    asked : due s.field.request_one s.field.request_two ≤ 1
    asked = due-most s.field.request_one s.field.request_two

    by : (b : Bool) → left_by b s.terms.limit s.field ≤ s.terms.limit + 11
    by true = omega arith
    by false = omega (arith, asked, one, two)

pub counts_none : (s : State) → IsState s → Counts 0 s
counts_none s h = elim h.field [ inl f ↦ unstarted f | inr f ↦ started f ]
  where
    unstarted : IsUnstarted s.terms s.field → Counts 0 s
    unstarted f =
        let one : s.field.one.active.place ≡ 0 = ap (λ (a : Active). a.place) f.nobody_one in
        let two : s.field.two.active.place ≡ 0 = ap (λ (a : Active). a.place) f.nobody_two in
        omega (
          arith,
          left-is s,
          left-most s (party-bench s.field.one (omega (arith, one, f.members_one.size)) (omega (arith, f.members_one.size)))
              (party-bench s.field.two (omega (arith, two, f.members_two.size)) (omega (arith, f.members_two.size))),
        )

    started : IsStarted s.terms s.field → Counts 0 s
    started f =
        let one = f.field.one in
        let two = f.field.two in
        omega (
          arith,
          left-is s,
          left-most s (party-bench s.field.one (omega (arith, one.place, one.members.size)) (omega (arith, one.members.size)))
              (party-bench s.field.two (omega (arith, two.place, two.members.size)) (omega (arith, two.members.size))),
        )

-- It falls with each pair

pub counts_pair : (c : Course) (one two : Choice) → IsState c.state → Counts c.number c.state → AreOffered c.state one two
    → Counts (ended c one two).number (ended c one two).state
counts_pair c one two valid counts h =
    let s = c.state in
    let is = step_accepts s one two h in
    let low = subst (λ (t : Stepped). Lower s t) is (step-lower s one two (state-ready s valid)) in
    let next : State = record s { field = (made s one two).field; drawn = (made s one two).drawn } in
    subst (λ (t : Stepped). Counts (c.number + 1) t.state) (sym is) (omega (arith, counts, left-is s, left-is next, low.lower))

-- The number is in range

pub number_fits : {battle : Parts} {number : ℕ} {s : State} → Stands battle s → Counts number s → number ≤ 10010
number_fits h counts = omega (arith, counts, h.valid.terms.limit.1)

pub counts_fit : {r : Held} {c : Course} → Holds r c → r.number ≤ 10010
counts_fit h = let fit = number_fits h.stands h.counts in omega (arith, fit, h.counted)

pub counts_held : {r : Held} {c : Course} → Holds r c → Counts r.number c.state
counts_held {c = c} h = subst (λ (n : ℕ). Counts n c.state) (sym h.counted) h.counts

abbrev pub pass_for : Request → Option Choice
pass_for r = if is_pass r then Some choices.Pass else None

later : (n : ℕ) → 1 ≤ n → (n == 0) ≡ false
later n h = grind (arith, nat_tests)

eqb_zero : (n : ℕ) → (n == 0) ≡ true → n ≡ 0
eqb_zero n h = grind (arith, nat_tests)

-- after an update the battle is started

begun_or : (s : State) → IsUnstarted s.terms s.field ⊎ IsStarted s.terms s.field → IsUnstarted s.terms s.field ⊎ (IsField s.terms s.field × Standing s.terms s.field)
begun_or s (inl h) = inl h
begun_or s (inr h) = inr (h.field, record { turn = h.turn; fallen_one = h.fallen_one; fallen_two = h.fallen_two; requests = h.requests })

pub next_standing : (s : State) (one two : Choice) → IsState s → AreOffered s one two → Standing s.terms (made s one two).field
next_standing s one two valid h =
    let going : is_over s.field.outcome ≡ false = ap is_over (goes_on s One one h.first) in
    update-standing s one two valid.terms valid.seed (begun_or s valid.field) (state-ready s valid) going
    (subst (λ (l : List Choice). is_among one l ≡ true) (offered-is One s.field going) h.first)
    (subst (λ (l : List Choice). is_among two l ≡ true) (offered-is Two s.field going) h.second)

-- while the battle continues, a side is asked for something other than Pass

asks_by : (one two : Bool) (terms : Terms) (f : Field) → IsAsked one two terms f → (is_pass f.request_one ≡ false) ⊎ (is_pass f.request_two ≡ false)
asks_by false false terms f h = inl (ap is_pass h.0)
asks_by true false terms f h = inl (ap is_pass h.0)
asks_by false true terms f h = inr (ap is_pass h.1)
asks_by true true terms f h = inl (ap is_pass h.0)

ongoing : (o : Outcome) → is_over o ≡ false → o ≡ outcomes.Ongoing
ongoing outcomes.Ongoing h = refl
ongoing outcomes.WinOne h = absurd (let e : true ≡ false = h in cc)
ongoing outcomes.WinTwo h = absurd (let e : true ≡ false = h in cc)
ongoing outcomes.Tie h = absurd (let e : true ≡ false = h in cc)
ongoing (outcomes.Fault n) h = absurd (let e : true ≡ false = h in cc)

asks_going : (terms : Terms) (f : Field) → StandsAs f.outcome terms f → is_over f.outcome ≡ false → (is_pass f.request_one ≡ false) ⊎ (is_pass f.request_two ≡ false)
asks_going terms f h going =
    let all = subst (λ (o : Outcome). StandsAs o terms f) (ongoing f.outcome going) h in asks_by (has_fallen_in One f) (has_fallen_in Two f) terms f all.2

pub waits_new : (terms : Terms) (f : Field) → StandsAs f.outcome terms f → is_over f.outcome ≡ false → (pass_for f.request_one ≡ None) ⊎ (pass_for f.request_two ≡ None)
waits_new terms f h going = by (asks_going terms f h going)
  where
    by : (is_pass f.request_one ≡ false) ⊎ (is_pass f.request_two ≡ false) → (pass_for f.request_one ≡ None) ⊎ (pass_for f.request_two ≡ None)
    by (inl e) = inl (rw e refl)
    by (inr e) = inr (rw e refl)

-- a course with no submission yet

pub holds_fresh : (t : State) (number : ℕ) (events : List Event) (r : Held) → Stands r.battle t → r.number ≡ number → Counts number t → IsReading r.log.items events
    → r.one ≡ pass_for t.field.request_one → r.two ≡ pass_for t.field.request_two
    → (is_over t.field.outcome ≡ false → (pass_for t.field.request_one ≡ None) ⊎ (pass_for t.field.request_two ≡ None))
    → Holds r (record { state = t; number = number; events = events; since = [] })
holds_fresh t number events r stands counted counts logged one two waits = record {
  stands = stands;
  counted = counted;
  counts = counts;
  logged = logged;
  one = one;
  two = two;
  waits = λ going. by (waits going);
}
  where
    by : (pass_for t.field.request_one ≡ None) ⊎ (pass_for t.field.request_two ≡ None) → (r.one ≡ None) ⊎ (r.two ≡ None)
    by (inl e) = inl (one ∙ e)
    by (inr e) = inr (two ∙ e)

-- what an accepted update leaves behind
abbrev Left : Parts → ArrayVec ℕ → Result BattleResult Refusal → Stepped → Type 0
Left new new_log result t = (result ≡ Ok (result_of t.state)) × Stands new t.state × IsReading new_log.items (events_of t.answer)

left_of : (s : State) (one two : Choice) (old new : Parts) (old_list list : ArrayVec Event) (log : ArrayVec ℕ) (res : BattleResult) → AreOffered s one two
    → Answers s one two old new (Ok res) → Tells s one two old_list list → IsReading log.items list.items → Left new log (Ok res) (step s one two)
left_of s one two old new old_list list log res h answers tells reads =
    let is = step_accepts s one two h in
    let a = subst (λ (t : Stepped). AnswersAs t.answer t.state old new (Ok res)) is answers in
    let t = subst (λ (t : Stepped). TellsAs t.answer old_list list) is tells in
    subst (Left new log (Ok res)) (sym is) (a.0, a.1, subst (λ (l : List Event). IsReading log.items l) t reads)

pub not_refused : (s : State) (one two : Choice) (old new : Parts) (why : Refusal) → AreOffered s one two → Answers s one two old new (Err why) → ⊥
not_refused s one two old new why h answers =
    let a = subst (λ (t : Stepped). AnswersAs t.answer t.state old new (Err why)) (step_accepts s one two h) answers in
    let e = a.0 in cc

pub end_holds : (c : Course) (one two : Choice) (number : ℕ) (a b : Option Choice) (old new : Parts) (old_list list : ArrayVec Event) (log : ArrayVec ℕ) (res : BattleResult)
    → Stands old c.state → number ≡ c.number → Counts c.number c.state → AreOffered c.state one two
    → Answers c.state one two old new (Ok res) → Tells c.state one two old_list list → IsReading log.items list.items
    → a ≡ pass_for res.request_one → b ≡ pass_for res.request_two
    → Holds (record { battle = new; number = number + 1; events = list; log = log; one = a; two = b }) (ended c one two) × (res ≡ result_of (ended c one two).state)
end_holds c one two number a b old new old_list list log res stands counted counts h answers tells reads e f =
    let left = left_of c.state one two old new old_list list log res h answers tells reads in
    let t = (step c.state one two).state in
    let is : res ≡ result_of t = let o = left.0 in cc in
    let standing : Standing c.state.terms t.field = subst (λ (x : Stepped). Standing c.state.terms x.state.field) (sym (step_accepts c.state one two h)) (next_standing c.state one two stands.valid h) in (
      holds_fresh t (c.number + 1) (events_of (step c.state one two).answer) (record { battle = new; number = number + 1; events = list; log = log; one = a; two = b })
          left.1 (ap (λ (n : ℕ). n + 1) counted) (counts_pair c one two stands.valid counts h) left.2 (e ∙ ap (λ (r : BattleResult). pass_for r.request_one) is) (f ∙ ap (λ (r : BattleResult). pass_for r.request_two) is)
          (waits_new c.state.terms t.field standing.requests),
      is,
    )

-- other numbers to draw

pub holds_numbers : {r : Held} {c : Course} {new : Parts} (ring : Ring) → Stands new (reseeded ring c.state) → Holds r c
    → Holds (record r { battle = new }) (reseeded_in ring c)
holds_numbers ring stands h = record { stands = stands; counted = h.counted; counts = h.counts; logged = h.logged; one = h.one; two = h.two; waits = h.waits }

-- a room over a battle

pub start_offered : (s : State) → IsUnstarted s.terms s.field → AreOffered s choices.Pass choices.Pass
start_offered s h =
    let going : is_over s.field.outcome ≡ false = ap is_over h.outcome in
    let of = λ (side : Side) (e : request_of side s.field ≡ requests.Pass).
    subst (λ (l : List Choice). is_among choices.Pass l ≡ true) (sym (offered-is side s.field going ∙ ap (λ (r : Request). offered_for r side s.field) e)) refl in
    record { first = of One h.requests.one; second = of Two h.requests.two }

pub unbegun_offers : {p : Parts} (s : State) → Stands p s → (s.field.turn == 0) ≡ true → AreOffered s choices.Pass choices.Pass
unbegun_offers s h unplayed = start_offered s (unstarted_at s h.valid (eqb_zero s.field.turn unplayed))

-- a battle that isn't over asks both sides for Pass only before its start

pub begun_over : (s : State) → IsState s → is_over s.field.outcome ≡ true → false ≡ (s.field.turn == 0)
begun_over s valid over = by valid.field
  where
    by : IsUnstarted s.terms s.field ⊎ IsStarted s.terms s.field → false ≡ (s.field.turn == 0)
    by (inl u) = absurd (let k : false ≡ true = sym (ap is_over u.outcome) ∙ over in cc)
    by (inr v) = sym (later s.field.turn v.turn)

pub begun_asks : (s : State) → IsState s → is_over s.field.outcome ≡ false → (is_pass s.field.request_one && is_pass s.field.request_two) ≡ (s.field.turn == 0)
begun_asks s valid going = by valid.field
  where
    asked : (is_pass s.field.request_one ≡ false) ⊎ (is_pass s.field.request_two ≡ false) → (is_pass s.field.request_one && is_pass s.field.request_two) ≡ false
    asked (inl e) = rw e refl
    asked (inr e) = rw (e, and_false (is_pass s.field.request_one)) refl

    by : IsUnstarted s.terms s.field ⊎ IsStarted s.terms s.field → (is_pass s.field.request_one && is_pass s.field.request_two) ≡ (s.field.turn == 0)
    by (inl u) = rw (u.requests.one, u.requests.two, u.turn) refl
    by (inr v) = asked (asks_going s.terms s.field v.requests going) ∙ sym (later s.field.turn v.turn)

-- the battle afterwards
abbrev OpenedAs : Terms → Parts → List ℕ → Stepped → Type 0
OpenedAs terms new log t = Stands new t.state × IsReading log (events_of t.answer) × StandsAs t.state.field.outcome terms t.state.field

pub opens_now : (s : State) (old new : Parts) (old_list list : ArrayVec Event) (log : ArrayVec ℕ) (res : BattleResult) → Stands old s → (s.field.turn == 0) ≡ true
    → Answers s choices.Pass choices.Pass old new (Ok res) → Tells s choices.Pass choices.Pass old_list list → IsReading log.items list.items
    → Opens s new log.items
opens_now s old new old_list list log res h unplayed answers tells reads =
    let o = unbegun_offers s h unplayed in
    let left = left_of s choices.Pass choices.Pass old new old_list list log res o answers tells reads in
    let standing = subst (λ (x : Stepped). Standing s.terms x.state.field) (sym (step_accepts s choices.Pass choices.Pass o)) (next_standing s choices.Pass choices.Pass h.valid o) in
    let all : OpenedAs s.terms new log.items (begun s) = rw unplayed (left.1, left.2, standing.requests) in
    record { stands = all.0; logged = all.1; requests = all.2 }

pub opens_later : (s : State) (old : Parts) (log : List ℕ) → Stands old s → (s.field.turn == 0) ≡ false → log ≡ [] → Opens s old log
opens_later s old log h later_on empty =
    let all : OpenedAs s.terms old log (begun s) = rw later_on (h, record { codes = empty; ranges = tt }, requests_of h.valid.field) in
    record { stands = all.0; logged = all.1; requests = all.2 }
  where
    requests_of : IsUnstarted s.terms s.field ⊎ IsStarted s.terms s.field → StandsAs s.field.outcome s.terms s.field
    requests_of (inl u) = absurd (let k : true ≡ false = sym (ap (λ (n : ℕ). n == 0) u.turn) ∙ later_on in cc)
    requests_of (inr v) = v.requests

pub begin_holds : (s : State) (new : Parts) (list : ArrayVec Event) (log : ArrayVec ℕ) (res : BattleResult) (a b : Option Choice) → Opens s new log.items
    → ((t : State) → Stands new t → res ≡ result_of t) → a ≡ pass_for res.request_one → b ≡ pass_for res.request_two
    → Holds (record { battle = new; number = 0; events = list; log = log; one = a; two = b }) (room_of s)
unfolding room_of
begin_holds s new list log res a b o is e f =
    let t = (begun s).state in
    let now = is t o.stands in
    holds_fresh t 0 (events_of (begun s).answer) (record { battle = new; number = 0; events = list; log = log; one = a; two = b }) o.stands refl (counts_none t o.stands.valid) o.logged
    (e ∙ ap (λ (r : BattleResult). pass_for r.request_one) now) (f ∙ ap (λ (r : BattleResult). pass_for r.request_two) now)
    (waits_new s.terms t.field o.requests)

pub begin_valid : (s : State) (new : Parts) (list : ArrayVec Event) (log : ArrayVec ℕ) (res : BattleResult) (a b : Option Choice) → Opens s new log.items
    → ((t : State) → Stands new t → res ≡ result_of t) → a ≡ pass_for res.request_one → b ≡ pass_for res.request_two
    → IsRoom (record { battle = new; number = 0; events = list; log = log; one = a; two = b })
begin_valid s new list log res a b o is e f =
    record { course = room_of s; holds = begin_holds s new list log res a b o is e f }
