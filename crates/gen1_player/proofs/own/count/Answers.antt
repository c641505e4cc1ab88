use Rattle.gen1_machine.specs.State.{party}
use Rattle.gen1_player.proofs.Fairness.{counted, have_species, members_under}
use Rattle.gen1_player.proofs.own.count.Goals as goal

pub returns-clause-packs : goal.returns-clause-packs
returns-clause-packs c g f h =
    let members = (party c.args.side f).members in let under = members_under c.args.side h in
    rw (
      c.present.ensures.packs g f h,
      c.present-2.ensures.packs g f h,
      c.present-3.ensures.packs g f h,
      c.present-4.ensures.packs g f h,
      c.present-5.ensures.packs g f h,
      c.present-6.ensures.packs g f h,
    ) (counted members under.size.1 (have_species g.terms.rules members under))
