-- The steps so far are written, each in at most 22 bytes.
use Rattle.std.proofs.Common.{length, take, ◌*◌, ◌≡◌, ◌≤◌}
use Rattle.std.specs.List.{flat_map}
use Rattle.battle_input.specs.Sheets.{step_text}
use Rattle.battle_input.proofs.fault.Path.text.Given as goal

abbrev pub invariant-loop-step : goal.invariant-loop-step
invariant-loop-step l = record {
  written : l.text.bytes ≡ flat_map step_text (take l.step-index l.step-items);
  short : length l.text.bytes ≤ 22 * l.step-index;
}
