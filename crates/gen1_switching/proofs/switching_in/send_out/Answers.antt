use Rattle.gen1_layout.proofs.Words.{packed_of, refl}
use Rattle.gen1_machine.specs.Conditions.{without_trapping}
use Rattle.gen1_switching.proofs.SwitchingIn.{sends_as, told_is}
use Rattle.gen1_switching.proofs.switching_in.send_out.Goals as goal

pub returns-clause-shown : goal.returns-clause-shown
unfolding without_trapping
returns-clause-shown t c g p there h =
    let s = c.args.side in let place = c.args.place in
    let out = c.put_out.ensures.stands g.setting p.field h.within there in
    let free = c.end_trapping.ensures.stands _ _ without_trapping out refl in
    rw (sends_as s place p h.ends) (record {
      within = rw (← c.other.ensures) free;
      written = rw (told_is s place p.field) (c.tell_coming_out.ensures.told g.setting p.field p.events (packed_of h.within) there h.written);
      ends = h.ends;
      stream = h.stream;
      drawn = h.drawn;
      skips = h.skips;
      action = h.action;
    })
