use Rattle.gen1_machine.specs.Sides.{other}
use Rattle.gen1_switching.proofs.SwitchingIn.{foe_stays, packs_so, sends_as, told_is, untrapped}
use Rattle.gen1_switching.proofs.switching_in.send_first.Goals as goal

pub returns-clause-shown : goal.returns-clause-shown
returns-clause-shown t c g p there alone h =
    let s = c.args.side in let place = c.args.place in
    let out = c.put_out.ensures.packs g.setting p.field h.packs there in
    rw (sends_as s place p h.ends) (record {
      packs = packs_so (untrapped (other s) _ (foe_stays s place p.field alone)) out;
      written = rw (told_is s place p.field) (c.tell_coming_out.ensures.told g.setting p.field p.events h.packs there h.written);
      ends = h.ends;
      stream = h.stream;
      drawn = h.drawn;
      skips = h.skips;
      action = h.action;
    })
