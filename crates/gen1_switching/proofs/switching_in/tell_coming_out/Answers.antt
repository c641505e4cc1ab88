use Rattle.gen1_switching.proofs.switching_in.tell_coming_out.Goals as goal

pub returns-clause-told : goal.returns-clause-told
returns-clause-told t c g f told h there before =
    let numbers = c.coming_out.ensures.packs g f h there in
    rw (← numbers.event) (c.push_untested.ensures.told told numbers.ranges before)
