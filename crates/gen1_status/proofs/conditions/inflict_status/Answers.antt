use Rattle.gen1_layout.proofs.Words.{changed_active, goes, put_on_member, refl, told_so}
use Rattle.gen1_machine.specs.CurrentStats.{with_penalty_of}
use Rattle.gen1_machine.specs.Progress.{inflict}
use Rattle.gen1_machine.specs.State.{with_status}
use Rattle.gen1_status.proofs.conditions.inflict_status.Goals as goal

pub returns-clause-shown : goal.returns-clause-shown
unfolding inflict with_status
returns-clause-shown t c g p ok h =
    let status = c.args.status in
    let a = put_on_member h c.args.target (with_status status) (c.put_status.ensures.stands g.setting p.field (with_status status) h.within refl ok) in
    let penalised = c.take_penalty.ensures.stands _ _ a.within in
    goes _ _ a (told_so a (changed_active c.args.target (with_penalty_of status)) _ penalised c.push.ensures.told (rw (c.who.ensures.stands _ _ penalised) refl))
