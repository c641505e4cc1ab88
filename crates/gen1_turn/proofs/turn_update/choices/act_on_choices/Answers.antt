use Rattle.gen1_layout.proofs.Words.{ap, false, ◌∙◌}
use Rattle.gen1_machine.specs.declared.side.Side.TheVariants.{One, Two}
use Rattle.gen1_machine.specs.Ruling.{ruling_of}
use Rattle.gen1_machine.specs.Turn.{is_cut}
use Rattle.gen1_turn.proofs.Turns.{cut_as, cut_short, ends_as, ends_still, picked-both, picked-one, play-first_passes, play-moves, play-one, play-second_passes, play-switches, play-two}
use Rattle.gen1_turn.proofs.turn_update.choices.act_on_choices.Goals as goal

pub returns-in-Move-two-clause-shown : goal.returns-in-Move-two-clause-shown
returns-in-Move-two-clause-shown t c since g p plan (one, two, x, y, whole) v h =
    let is_one = c.pick-first.ensures.stands c.in-Move.field-0 c.in-Move.is _ _ h.1.shows.within in
    let is_two = c.pick-second.ensures.stands c.in-Move-two.field-0 c.in-Move-two.is _ _ h.1.shows.within in
    let a = picked-both plan c.args.one c.args.two _ _ c.pick-first.result c.pick-second.result p c.in-Move.is c.in-Move-two.is is_one is_two one two v in
    cut_as c.both_pick.new.known g _ _ (play-moves _ _ _ _ _ _ _ p c.in-Move.is c.in-Move-two.is is_one is_two)
    (c.both_pick.ensures.shown since g p a.next a.fits a.planned h)

pub returns-in-Switch-two-clause-shown : goal.returns-in-Switch-two-clause-shown
returns-in-Switch-two-clause-shown t c since g p plan (one, two, x, y, whole) v h =
    let is = c.pick-first-in-Switch-two.ensures.stands c.in-Move.field-0 c.in-Move.is _ _ h.1.shows.within in
    let a = picked-one plan One c.args.one _ c.pick-first-in-Switch-two.result p c.in-Move.is is one v in
    cut_as c.one_picks.new.known g _ _ (play-one _ _ _ _ c.in-Switch-two.place _ p c.in-Move.is c.in-Switch-two.is is)
    (c.one_picks.ensures.shown since g p a.next (a.fits, a.rest ∙ rw c.in-Switch-two.is at two, rw c.in-Switch-two.is at y, whole) a.planned h)

pub returns-in-Pass-two-clause-shown : goal.returns-in-Pass-two-clause-shown
returns-in-Pass-two-clause-shown t c since g p plan asks v h =
    (ends_as c.args.known.now g _ _ (play-second_passes _ c.args.one _ p c.in-Pass-two.is) (false, h), λ e. cut_short e)

pub returns-in-Move-two-2-clause-shown : goal.returns-in-Move-two-2-clause-shown
returns-in-Move-two-2-clause-shown t c since g p plan (one, two, x, y, whole) v h =
    let is = c.pick-second-in-Move-two-2.ensures.stands c.in-Move-two-2.field-0 c.in-Move-two-2.is _ _ h.1.shows.within in
    let a = picked-one plan Two c.args.two _ c.pick-second-in-Move-two-2.result p c.in-Move-two-2.is is two v in
    cut_as c.one_picks-in-Move-two-2.new.known g _ _ (play-two _ _ _ _ c.in-Switch.place _ p c.in-Switch.is c.in-Move-two-2.is is)
    (c.one_picks-in-Move-two-2.ensures.shown since g p a.next (a.fits, a.rest ∙ rw c.in-Switch.is at one, rw c.in-Switch.is at x, whole) a.planned h)

pub returns-in-Switch-two-2-clause-shown : goal.returns-in-Switch-two-2-clause-shown
returns-in-Switch-two-2-clause-shown t c since g p plan (one, two, x, y, whole) v h =
    let is = play-switches (ruling_of g.setting.terms) _ _ c.in-Switch.place c.in-Switch-two-2.other p c.in-Switch.is c.in-Switch-two-2.is in
    let first = rw c.in-Switch.is at x in
    let second = rw c.in-Switch-two-2.is at y in (
      ends_as c.both_switch.new.known g _ _ is
          (ends_still c.args.known.now c.both_switch.new.known g h.1
          (c.both_switch.ensures.shown h.0 (record g { stream = since.source.stream; drawn = p.drawn }) p first second whole h.1.shows)),
      λ e. ap is_cut is ∙ c.both_switch.ensures.uncut h.0 (record g { stream = since.source.stream; drawn = p.drawn }) p e first second whole h.1.shows,
    )

pub returns-in-Pass-two-2-clause-shown : goal.returns-in-Pass-two-2-clause-shown
returns-in-Pass-two-2-clause-shown t c since g p plan asks v h =
    (ends_as c.args.known.now g _ _ (play-second_passes _ c.args.one _ p c.in-Pass-two-2.is) (false, h), λ e. cut_short e)

pub returns-in-Pass-clause-shown : goal.returns-in-Pass-clause-shown
returns-in-Pass-clause-shown t c since g p plan asks v h =
    (ends_as c.args.known.now g _ _ (play-first_passes _ _ c.args.two p c.in-Pass.is) (false, h), λ e. cut_short e)
