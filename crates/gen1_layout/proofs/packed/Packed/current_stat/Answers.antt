use Rattle.gen1_layout.proofs.Words.{[], active_in, member_in, word_back}
use Rattle.gen1_tables.specs.declared.effect.Stat.TheVariants.{Attack, Defense, Special, Speed}
use Rattle.gen1_machine.specs.CurrentStats.{now_in}
use Rattle.gen1_layout.proofs.WaysBack.{now_fits}
use Rattle.gen1_layout.proofs.packed.Packed.current_stat.Goals as goal

pub returns-in-Attack-clause-stands : goal.returns-in-Attack-clause-stands
returns-in-Attack-clause-stands c g f h number =
    rw (c.in-Attack.is, c.read_u16.ensures, c.active.ensures.stands g f h)
    (word_back (now_in Attack c.args.side f) [] (now_fits Attack (member_in c.args.side f) (active_in c.args.side f)))

pub returns-in-Defense-clause-stands : goal.returns-in-Defense-clause-stands
returns-in-Defense-clause-stands c g f h number =
    rw (c.in-Defense.is, c.read_u16-in-Defense.ensures, c.active-in-Defense.ensures.stands g f h)
    (word_back (now_in Defense c.args.side f) [] (now_fits Defense (member_in c.args.side f) (active_in c.args.side f)))

pub returns-in-Speed-clause-stands : goal.returns-in-Speed-clause-stands
returns-in-Speed-clause-stands c g f h number =
    rw (c.in-Speed.is, c.read_u16-in-Speed.ensures, c.active-in-Speed.ensures.stands g f h)
    (word_back (now_in Speed c.args.side f) [] (now_fits Speed (member_in c.args.side f) (active_in c.args.side f)))

pub returns-in-Special-clause-stands : goal.returns-in-Special-clause-stands
returns-in-Special-clause-stands c g f h number =
    rw (c.in-Special.is, c.read_u16-in-Special.ensures, c.active-in-Special.ensures.stands g f h)
    (word_back (now_in Special c.args.side f) [] (now_fits Special (member_in c.args.side f) (active_in c.args.side f)))

pub returns-in-Accuracy-clause-stands : goal.returns-in-Accuracy-clause-stands
returns-in-Accuracy-clause-stands c g f h number = let no = rw c.in-Accuracy.is at number in cc

pub returns-in-Evasion-clause-stands : goal.returns-in-Evasion-clause-stands
returns-in-Evasion-clause-stands c g f h number = let no = rw c.in-Evasion.is at number in cc
