-- What `calc` is to write and return for an input, and what it has written and returns (docs/PROGRAM.md, "calc").
use Rattle.std.specs.Prelude.{[], ◌∷◌, List, codes, decimal, ℕ, ◌++◌, Err, Ok, Option, Result, if◌then◌else◌, length, nat_lt, ok_or, ◌≡◌}
use Rattle.gen1_stats.specs.Members.{Member}
use Rattle.gen1_machine.specs.State.{Field, Party}
use Rattle.gen1_machine.specs.SwitchingIn.{sent_out}
use Rattle.std.specs.List.{flat_map}
use Rattle.std.specs.Io.KnownBytes.{Appends}
use Rattle.gen1_stats.specs.Teams.{member_of as begun_of, team_refusal}
use Rattle.gen1_machine.specs.Damage.{numbers_in}
use Rattle.gen1_machine.specs.Moves.{move_at}
use Rattle.gen1_devices.specs.Output.{AppendsFront}
use Rattle.gen1_machine.specs.declared.side.Side.TheVariants.{One}
use Rattle.gen1_hits.specs.DamageNumbers.{damages, has_usual_damage}
use Rattle.battle_input.specs.Sheets.{input_of, calc_sheet_of}
use Rattle.battle_commands.specs.Asked.{input_limit, unless}
use Rattle.battle_input.specs.declared.sheet.CalcSheet.{CalcSheet}
use Rattle.battle_input.specs.declared.fault.JsonFault.{JsonFault}
use Rattle.battle_commands.specs.declared.fault.ToolFault.{ToolFault}
use Rattle.battle_commands.specs.declared.fault.ToolFault.TheVariants.{Calc, Json, Memory, Read, TooLong, Write}
use Rattle.gen1_machine.specs.declared.terms.Outcome.TheVariants as outcomes
use Rattle.gen1_machine.specs.declared.terms.Request.TheVariants as requests

abbrev pub alone : Member → Party
alone m = record { members = m ∷ []; active = sent_out 1 m }

-- with nothing else between them
abbrev pub duel : Member → Member → Field
duel one two = record {
  one = alone one;
  two = alone two;
  last_damage = 0;
  turn = 0;
  outcome = outcomes.Ongoing;
  request_one = requests.Pass;
  request_two = requests.Pass;
}

abbrev pub behind_space : ℕ → List ℕ
behind_space n = codes " " ++ decimal n

-- in decimal, with single spaces between them
abbrev pub number_line : List ℕ → List ℕ
number_line [] = codes "\n"
number_line (first ∷ later) = decimal first ++ flat_map behind_space later ++ codes "\n"

-- the damage at each factor from 217 to 255, of the attacker's move against the defender; none if the divisor is 0
unfoldable pub damages_of : CalcSheet → Option (List ℕ)
damages_of s = damages (numbers_in One (move_at s.id) s.critical (duel (begun_of s.attacker) (begun_of s.defender)))

-- the teams of one, the attacker's before the defender's, and then the move
abbrev pub due_by : Result CalcSheet JsonFault → Result (List ℕ) ToolFault
due_by (Err fault) = Err (Json fault)
due_by (Ok s) =
    unless 1 (team_refusal (s.attacker ∷ []))
    (unless 2 (team_refusal (s.defender ∷ []))
    (if has_usual_damage (move_at s.id) then ok_or (damages_of s) Calc else Err Calc))

-- the damage numbers for an input, or the error that is returned instead
unfoldable pub damages_due : List ℕ → Result (List ℕ) ToolFault
damages_due input = if nat_lt input_limit (length input) then Err TooLong else due_by (input_of calc_sheet_of input)

-- The line is written, or a prefix of it if a write fails. With any other error nothing is written.
abbrev pub PrintsDamages : {T : Type 0} → Result (List ℕ) ToolFault → Option (List ℕ) → Option (List ℕ) → Result T ToolFault → Type 0
PrintsDamages due old new (Ok done) = (numbers : List ℕ) × (due ≡ Ok numbers) × Appends old new (number_line numbers)
PrintsDamages due old new (Err Write) = (numbers : List ℕ) × (due ≡ Ok numbers) × AppendsFront old new (number_line numbers)
PrintsDamages due old new (Err Read) = Appends old new []
PrintsDamages due old new (Err Memory) = Appends old new []
PrintsDamages due old new (Err fault) = (due ≡ Err fault) × Appends old new []
