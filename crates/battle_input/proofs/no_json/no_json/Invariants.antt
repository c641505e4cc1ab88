-- The bytes so far are allowed where they are.
use Rattle.std.proofs.Common.{drop, ◌+◌, ◌≡◌, ◌≤◌}
use Rattle.battle_input.specs.NoJson.{no_json, stops}
use Rattle.battle_input.proofs.no_json.no_json.Given as goal

abbrev pub invariant-loop-byte : goal.invariant-loop-byte
invariant-loop-byte l =
    (stops (drop l.byte-index l.input) l.line l.column l.place ≡ no_json l.input) × (l.line ≤ l.byte-index + 1) × (l.column ≤ l.byte-index + 1)
