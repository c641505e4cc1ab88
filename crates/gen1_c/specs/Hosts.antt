-- The rows that a host takes, its replies as codes, and its result (include/gen1.h, "hosts").
use Rattle.std.specs.Prelude.{Bool, None, Option, Some, if◌then◌else◌, not, ℕ, ◌*◌, ◌+◌, ◌==◌, ◌≡◌}
use Rattle.gen1_rolls.specs.Steady.{Ring, ring_of}
use Rattle.gen1_machine.specs.declared.side.Side.{Side}
use Rattle.gen1_machine.specs.declared.side.Side.TheVariants.{One, Two}
use Rattle.gen1_machine.specs.Layout.{outcome_byte, request_byte}
use Rattle.gen1_engine.specs.declared.result.BattleResult.{BattleResult}
use Rattle.gen1_room.specs.Rooms.{submission_of}
use Rattle.gen1_host.specs.declared.host.Host.{Host}
use Rattle.gen1_host.specs.declared.host.HouseRules.{HouseRules}
use Rattle.gen1_host.specs.declared.loading.HostFault.{HostFault}
use Rattle.gen1_host.specs.declared.loading.HostFault.TheVariants as faults
use Rattle.gen1_host.specs.Loading.{FailsTest}
use Rattle.gen1_host.specs.Table.{Cancel, Ended, Expire, Forfeit, HasChosen, HostRefusal, HostReply, Kept, NotAllowed, NothingChosen, NotOffered, OfferDraw, OtherPair, Refused, Row, Submit, TableOver}
use Rattle.gen1_c.specs.Codes.{load_code}
use Rattle.gen1_c.specs.declared.hosts.RowForm.{RowForm}

-- an option counts as set if it is not 0
abbrev pub is_set : ℕ → Bool
is_set option = not (option == 0)

abbrev pub rules_of : ℕ → ℕ → HouseRules
rules_of may_cancel late_forfeits = record { may_cancel = is_set may_cancel; late_forfeits = is_set late_forfeits }

-- the ten numbers that the battle draws from then on, if the form has them
abbrev pub numbers_of : RowForm → Option Ring
numbers_of form = if form.has_numbers == 0 then None else Some (ring_of form.numbers)

-- the row of a side that the form describes, if its kind is 1 to 5
abbrev pub row_of : Side → RowForm → Option Row
row_of side form =
    if form.kind == 1 then Some (Submit (numbers_of form) (submission_of side form.number form.choice))
    else if form.kind == 2 then Some (Cancel side form.number)
    else if form.kind == 3 then Some (Expire (numbers_of form) side form.number)
    else if form.kind == 4 then Some (OfferDraw side)
    else if form.kind == 5 then Some (Forfeit side)
    else None

-- the codes of the refusals
abbrev pub why_code : HostRefusal → ℕ
why_code TableOver = 24
why_code (OtherPair current) = 52
why_code HasChosen = 53
why_code NotOffered = 54
why_code NotAllowed = 55
why_code NothingChosen = 56

-- the codes of the tests that stored bytes fail, those of a battle among them
abbrev pub fault_code : HostFault → ℕ
fault_code (faults.Battle why) = load_code why
fault_code faults.Number = 80
fault_code faults.Log = 81
fault_code (faults.Choice One) = 82
fault_code (faults.Choice Two) = 83
fault_code faults.Choices = 84
fault_code (faults.Teller One) = 85
fault_code (faults.Teller Two) = 86
fault_code faults.Ending = 87
fault_code faults.Draw = 88
fault_code faults.Rules = 89
fault_code faults.Unused = 90

-- the code of a test that the bytes fail
pub record Refuses (code : ℕ) (h : Host) : Type 0 where
  pub fault : HostFault
  pub is : code ≡ fault_code fault
  pub fails : FailsTest fault h

-- 0 for a row that the host takes, whether it ends the pair or not; otherwise the code of the refusal
abbrev pub reply_code : HostReply → ℕ
reply_code Kept = 0
reply_code Ended = 0
reply_code (Refused why) = why_code why

-- the outcome and the requests of both sides, as one number
abbrev pub byte_of_result : BattleResult → ℕ
byte_of_result r = outcome_byte r.outcome + 8 * request_byte r.request_one + 32 * request_byte r.request_two
