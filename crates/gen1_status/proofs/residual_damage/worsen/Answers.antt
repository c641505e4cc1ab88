use Rattle.gen1_layout.proofs.Words.{put_on_conditions, refl}
use Rattle.gen1_machine.specs.Conditions.{with_worse_poison}
use Rattle.gen1_machine.specs.ResidualDamage.{worsen}
use Rattle.gen1_status.proofs.Statuses.{one_more-fits}
use Rattle.gen1_status.proofs.residual_damage.worsen.Goals as goal

pub returns : goal.returns
unfolding worsen with_worse_poison
returns c events g p h =
    let count = c.bad_poison-count.ensures.stands _ _ h.within in
    put_on_conditions h c.args.side with_worse_poison
    (c.put_bad_poison.ensures.stands _ _ with_worse_poison h.within (rw (c.one_more.ensures, count) refl) (rw c.one_more.ensures (one_more-fits c.bad_poison-count.result)))
