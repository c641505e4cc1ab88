-- None of the choices so far has the byte.
use Rattle.std.proofs.Common.{drop, ◌≡◌}
use Rattle.gen1_machine.specs.Room.{choice_by_byte}
use Rattle.gen1_room.proofs.submission.choice_by_byte.Given as goal

abbrev pub invariant-loop-choice : goal.invariant-loop-choice
invariant-loop-choice l = choice_by_byte l.byte l.choices ≡ choice_by_byte l.byte (drop l.choice-index l.choices)
