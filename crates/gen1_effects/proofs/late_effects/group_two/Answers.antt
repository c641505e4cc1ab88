use Rattle.std.proofs.Common.{ap, ◌∙◌}
use Rattle.gen1_machine.specs.LateEffects.{late_effect}
use Rattle.gen1_machine.specs.Moves.{move_at}
use Rattle.gen1_machine.specs.Ruling.{ruling_of}
use Rattle.gen1_hits.specs.Knowing.{begun}
use Rattle.gen1_effects.proofs.Passing.{begun_alone, left_unended}
use Rattle.gen1_effects.proofs.late_effects.group_two.Goals as goal

pub returns-clause-shown : goal.returns-clause-shown
returns-clause-shown t c since g p untied h =
    let s = c.args.side in
    let known = c.begun-known.result in
    let is = c.begun-known.ensures ∙ ap (begun s) c.new.ensures in
    left_unended _ g (late_effect (ruling_of g.setting.terms) s (move_at c.args.id) (move_at c.args.id).effect) p
    (c.group_two_knowing.ensures.shown since g p untied (begun_alone known g s is h))
