-- What an update returns, leaves and reports, for a state that the bytes represent (docs/MECHANICS.md, "Offered choices", "Falls
-- and requests"): what the machine's step says; and what calls lead to, one after the other. The offered choices as a number of
-- twelve bits are those of gen1_offers.
use Rattle.std.specs.Prelude.{Err, List, None, Ok, Option, Result, Some, true, ℕ, ◌≡◌, [], count_by, is_ok, ◌+◌, ◌≤◌, ◌∷◌}
use Rattle.arrayvec.specs.ArrayVec.{ArrayVec}
use Rattle.gen1_machine.specs.declared.side.Side.TheVariants.{One, Two}
use Rattle.gen1_machine.specs.declared.event.Event.{Event}
use Rattle.gen1_machine.specs.declared.side.Choice.{Choice}
use Rattle.gen1_machine.specs.Bounds.{Bounded}
use Rattle.gen1_machine.specs.State.{State, is_over}
use Rattle.gen1_machine.specs.Step.{Accepted, Answer, NotOffered, Over, Refused, Refusal as Reason, offers, refused, step, is_among, run}
use Rattle.gen1_events.specs.Reader.{IsReading}
use Rattle.gen1_layout.specs.Parts.{Parts}
use Rattle.gen1_layout.specs.Shows.{Stands}
use Rattle.gen1_engine.specs.declared.result.BattleResult.{BattleResult}
use Rattle.gen1_engine.specs.declared.result.Refusal.{Refusal}
use Rattle.gen1_rolls.specs.Steady.{Ring}
use Rattle.gen1_machine.specs.OfferedChoices.{offered}
use Rattle.gen1_engine.specs.declared.result.Refusal.TheVariants as refusals
pub use Rattle.gen1_offers.specs.OfferedChoices.{all_choices, choices_in, mask_of, offered_mask}

abbrev pub result_of : State → BattleResult
result_of s = record { outcome = s.field.outcome; request_one = s.field.request_one; request_two = s.field.request_two }

abbrev pub refusal_of : Reason → Refusal
refusal_of Over = refusals.Over
refusal_of (NotOffered side) = refusals.NotOffered side

abbrev pub refusal_number : Refusal → ℕ
refusal_number refusals.Over = 1
refusal_number (refusals.NotOffered One) = 2
refusal_number (refusals.NotOffered Two) = 3

-- after a refused pair the bytes are as they were; after an accepted one they represent the next state, whose result is returned
abbrev pub AnswersAs : Answer → State → Parts → Parts → Result BattleResult Refusal → Type 0
AnswersAs (Refused why) next old new result = (result ≡ Err (refusal_of why)) × (new ≡ old)
AnswersAs (Accepted events) next old new result = (result ≡ Ok (result_of next)) × Stands new next

-- after a refused pair the buffer is as it was; after an accepted one it decodes to the events, and nothing else
abbrev pub LogsAs : Answer → ArrayVec ℕ → ArrayVec ℕ → Type 0
LogsAs (Refused why) old new = new ≡ old
LogsAs (Accepted events) old new = IsReading new.items events

-- after a refused pair the list is as it was; after an accepted one it has the events, and nothing else
abbrev pub TellsAs : Answer → ArrayVec Event → ArrayVec Event → Type 0
TellsAs (Refused why) old new = new ≡ old
TellsAs (Accepted events) old new = new.items ≡ events

-- after a refused pair a sink is as it was; after an accepted one it has received the events, and nothing else
abbrev pub ToldAs : {S : Type 0} → (S → List Event → Type 0) → Answer → S → S → Type 0
ToldAs tells (Refused why) old new = new ≡ old
ToldAs tells (Accepted events) old new = tells new events

-- the most that an accepted pair takes: 4,700 draws, 64 events and 512 bytes
abbrev pub IsBoundedAs : State → Answer → State → Type 0
IsBoundedAs s (Refused why) next = Unit {0}
IsBoundedAs s (Accepted events) next = Bounded s events next

-- by the machine's step

abbrev pub Answers : State → Choice → Choice → Parts → Parts → Result BattleResult Refusal → Type 0
Answers s one two old new result = AnswersAs (step s one two).answer (step s one two).state old new result

abbrev pub Logs : State → Choice → Choice → ArrayVec ℕ → ArrayVec ℕ → Type 0
Logs s one two old new = LogsAs (step s one two).answer old new

abbrev pub Tells : State → Choice → Choice → ArrayVec Event → ArrayVec Event → Type 0
Tells s one two old new = TellsAs (step s one two).answer old new

abbrev pub IsBounded : State → Choice → Choice → Type 0
IsBounded s one two = IsBoundedAs s (step s one two).answer (step s one two).state

-- both choices are offered
pub record AreOffered (s : State) (one two : Choice) : Type 0 where
  pub first : offers s One one ≡ true
  pub second : offers s Two two ≡ true

-- why the machine refuses a pair; if it does not, both choices are offered
abbrev pub Tests : State → Choice → Choice → Option Refusal → Type 0
Tests s one two (Some why) = (reason : Reason) × (why ≡ refusal_of reason) × (step s one two ≡ refused s reason)
Tests s one two None = AreOffered s one two

-- A battle with other numbers to draw (docs/MECHANICS.md, "Link numbers").

-- the same state, which draws from these numbers, beginning at the index
abbrev pub reseeded : Ring → State → State
reseeded ring s = record s { seed = ring.numbers; drawn = ring.index }

-- What calls of `update` lead to, one after the other, from what each of them promises (docs/PROOFS.md, "Laws").

-- one call keeps its promise about its result and the bytes after it, for every state that the bytes before it represent
abbrev pub Updates : Parts → Choice × Choice → Result BattleResult Refusal → Parts → Type 0
Updates old pair result new = (s : State) → Stands old s → Answers s pair.0 pair.1 old new result

-- calls one after the other, each with its pair and its result
abbrev pub UpdatesAll : Parts → List (Choice × Choice) → List (Result BattleResult Refusal) → Parts → Type 0
UpdatesAll old [] [] new = new ≡ old
UpdatesAll old (pair ∷ pairs) (result ∷ results) new = (next : Parts) × Updates old pair result next × UpdatesAll next pairs results new
UpdatesAll old _ _ new = ⊥

-- a call with two of the choices that `choices` lists is accepted, in any battle of two teams or of loaded bytes
abbrev pub OfferedIsAccepted : Type 0
OfferedIsAccepted = (s : State) (old new : Parts) (pair : Choice × Choice) (result : Result BattleResult Refusal)
    → Stands old s → Updates old pair result new
    → is_among pair.0 (offered One s.field) ≡ true → is_among pair.1 (offered Two s.field) ≡ true → is_ok result ≡ true

-- after any calls the bytes represent the state that the machine's run leads to
abbrev pub CallsAreTheRun : Type 0
CallsAreTheRun = (s : State) (old new : Parts) (pairs : List (Choice × Choice)) (results : List (Result BattleResult Refusal))
    → Stands old s → UpdatesAll old pairs results new → Stands new (run s pairs).state

-- at most as many calls are accepted as the turn limit, plus eleven; after that many, the battle is over
abbrev pub CallsEnd : Type 0
CallsEnd = (s : State) (old new : Parts) (pairs : List (Choice × Choice)) (results : List (Result BattleResult Refusal))
    → Stands old s → UpdatesAll old pairs results new
    → (count_by is_ok results ≤ s.terms.limit + 11)
    × (count_by is_ok results ≡ s.terms.limit + 11 → is_over (run s pairs).state.field.outcome ≡ true)
