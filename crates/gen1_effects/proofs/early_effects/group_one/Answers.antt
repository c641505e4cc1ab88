use Rattle.std.proofs.Common.{ap, ◌∙◌, ◌≡◌}
use Rattle.gen1_hits.specs.Knowing.{just_begun, begun}
use Rattle.gen1_hits.proofs.Knowledge.{leaves}
use Rattle.gen1_effects.proofs.early_effects.group_one.Goals as goal

pub returns-clause-shown : goal.returns-clause-shown
returns-clause-shown t c since g p h =
    let known : c.begun-known.result ≡ just_begun c.args.side = c.begun-known.ensures ∙ ap (begun c.args.side) c.new.ensures in
    leaves g (c.group_one_knowing.ensures.shown since g p (rw known h))
