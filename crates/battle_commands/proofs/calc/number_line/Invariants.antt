-- The numbers so far are written, each with at most five digits and the space before it.
use Rattle.std.proofs.Common.{decimal, get_or, length, take, ◌*◌, ◌++◌, ◌+◌, ◌≡◌, ◌≤◌}
use Rattle.std.specs.List.{flat_map}
use Rattle.battle_commands.specs.Calc.{behind_space}
use Rattle.battle_commands.proofs.calc.number_line.Given as goal

abbrev pub invariant-loop-number : goal.invariant-loop-number
invariant-loop-number l = record {
  written : l.line.bytes ≡ decimal (get_or l.numbers 0 0) ++ flat_map behind_space (take l.number-index l.number-items);
  short : length l.line.bytes ≤ 5 + 6 * l.number-index;
}
