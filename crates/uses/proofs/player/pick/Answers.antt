use Rattle.std.proofs.Common.{ap, arith, get_or, length, ◌%◌, ◌∙◌, ◌≡◌}
use Rattle.std.proofs.Math.Nat.{mod-lt}
use Rattle.gen1_machine.specs.declared.side.Choice.{Choice}
use Rattle.gen1_machine.specs.Step.{is_among}
use Rattle.gen1_engine.proofs.Making.{among-at}
use Rattle.uses.proofs.player.pick.Goals as goal

pub returns-in_default : goal.returns-in_default
returns-in_default g c some =
    let items = c.args.choices.now.items in
    let place = c.from.result % length items in
    let is : c.index-choices-from.result ≡ get_or items place c.index-choices-from.result = rw c.as_slice-choices.ensures.value at c.index-choices-from.is in
    ap (λ (x : Choice). is_among x items) is ∙ among-at items place c.index-choices-from.result (mod-lt c.from.result (omega (arith, some)))
