use Rattle.std.proofs.Common.{List, ap, ◌++◌, ◌∙◌}
use Rattle.gen1_machine.specs.declared.side.Choice.{Choice}
use Rattle.gen1_machine.specs.OfferedChoices.{switches_offered}
use Rattle.gen1_offers.proofs.offered_choices.offered_to_switch.Goals as goal

pub returns : goal.returns
returns c g f h = c.add_switches.ensures g f h ∙ ap (λ (l : List Choice). l ++ switches_offered c.args.side f) c.new-choices.ensures
