use Rattle.gen1_status.proofs.Statuses.{status_of_kind-fits}
use Rattle.gen1_status.proofs.conditions.inflict.Goals as goal

pub returns-clause-shown : goal.returns-clause-shown
returns-clause-shown t c count g p h =
    let fits = status_of_kind-fits g.setting.terms.rules c.args.kind c.args.count count in
    rw (← c.status_of_kind.ensures) (c.inflict_status.ensures.shown g p (rw c.status_of_kind.ensures fits) h)
