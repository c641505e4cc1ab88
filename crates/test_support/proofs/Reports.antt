-- What is compared with a recorded battle: a report of each update, as one number.
use Rattle.std.proofs.Common.{Bool, List, [], flat_map, length, map, ℕ, ◌*◌, ◌++◌, ◌+◌, ◌-◌, ◌==◌, ◌∷◌}
use Rattle.gen1_machine.specs.declared.side.Side.{Side}
use Rattle.gen1_machine.specs.declared.side.Side.TheVariants.{One, Two}
use Rattle.gen1_machine.specs.declared.side.Choice.{Choice}
use Rattle.gen1_machine.specs.Choices.{byte_of_choice}
use Rattle.gen1_machine.specs.Rules.{bit_of}
use Rattle.gen1_machine.specs.LogBytes.{kind_or_0, codes_of}
use Rattle.gen1_machine.specs.State.{Stages, Field, State}
use Rattle.gen1_machine.specs.Progress.{told}
use Rattle.gen1_machine.specs.OfferedChoices.{offered}
use Rattle.gen1_machine.specs.Step.{events_of, step, Answer, Stepped, Over, NotOffered, Refused, Accepted}
use Rattle.gen1_machine.specs.View.{first_view, sees_all, shows, Shown, SideView, View}
use Rattle.gen1_machine.specs.Layout.{low_byte, high_byte, outcome_byte, request_byte, bytes_of}

-- Bytes as one number to base 256, after a leading 1.
abbrev pub number_from : ℕ → List ℕ → ℕ
number_from n [] = n
number_from n (b ∷ bs) = number_from (n * 256 + b) bs

abbrev pub as_number : List ℕ → ℕ
as_number bs = number_from 1 bs

abbrev pub refusal_number : Answer → ℕ
refusal_number (Refused Over) = 1
refusal_number (Refused (NotOffered One)) = 2
refusal_number (Refused (NotOffered Two)) = 3
refusal_number (Accepted told) = 0

abbrev pub result_bytes : Field → List ℕ
result_bytes f = outcome_byte f.outcome ∷ request_byte f.request_one ∷ request_byte f.request_two ∷ []

abbrev pub offered_bytes : Side → Field → List ℕ
offered_bytes s f = length (offered s f) ∷ map byte_of_choice (offered s f)

-- A view as bytes, so that two views can be compared

abbrev pub stage_bytes : Stages → List ℕ
stage_bytes s = s.attack ∷ s.defense ∷ s.speed ∷ s.special ∷ s.accuracy ∷ s.evasion ∷ []

abbrev pub shown_bytes : Shown → List ℕ
shown_bytes m = low_byte m.hp ∷ high_byte m.hp ∷ kind_or_0 m.kind ∷ []

abbrev pub side_view_bytes : SideView → List ℕ
side_view_bytes v =
    v.place ∷ flat_map shown_bytes v.members ++ stage_bytes v.stages
    ++ bit_of v.substitute ∷ bit_of v.confused ∷ bit_of v.light_screen ∷ bit_of v.reflect ∷ []

abbrev pub view_number : View → ℕ
view_number v = as_number (side_view_bytes v.one ++ side_view_bytes v.two ++ low_byte v.turn ∷ high_byte v.turn ∷ outcome_byte v.outcome ∷ [])

abbrev pub agrees : View → Field → Bool
agrees v f = view_number v == view_number (shows f)

-- Refusal, result, offered choices, draws, log, the 384 bytes, and whether the view is that of the state.
abbrev pub report : State → Stepped → View → List ℕ
report s next v =
    refusal_number next.answer ∷ result_bytes next.state.field
    ++ offered_bytes One next.state.field ++ offered_bytes Two next.state.field
    ++ low_byte (next.state.drawn - s.drawn) ∷ high_byte (next.state.drawn - s.drawn)
    ∷ codes_of (events_of next.answer) ++ bytes_of next.state ++ bit_of (agrees v next.state.field) ∷ []

abbrev pub reports_from : View → State → List (Choice × Choice) → List ℕ
reports_from v s [] = []
reports_from v s (pair ∷ pairs) =
    let next = step s pair.0 pair.1 in
    let w = sees_all (events_of next.answer) v in
    as_number (report s next w) ∷ reports_from w next.state pairs

-- The reports of a run from the beginning of a battle, one for each update.
abbrev pub reports_of : State → List (Choice × Choice) → List ℕ
reports_of s pairs = reports_from (first_view s.field.one.members s.field.two.members) s pairs
