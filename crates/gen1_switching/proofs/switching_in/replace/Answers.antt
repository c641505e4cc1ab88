use Rattle.std.proofs.Common.{arith, ◌≡◌}
use Rattle.gen1_layout.proofs.Words.{false, refl}
use Rattle.gen1_machine.specs.declared.side.Side.TheVariants.{One, Two}
use Rattle.gen1_machine.specs.declared.terms.Request.TheVariants.{Pass, Switch}
use Rattle.gen1_machine.specs.Ruling.{ruling_of}
use Rattle.gen1_machine.specs.State.{State}
use Rattle.gen1_machine.specs.SwitchingIn.{replace}
use Rattle.gen1_machine.specs.Step.{close_update, opened}
use Rattle.gen1_layout.specs.Shows.{setting_of, Stands}
use Rattle.gen1_layout.proofs.Storing.{within_of}
use Rattle.gen1_switching.specs.SwitchingIn.{frame_of, Plays, Updated}
use Rattle.gen1_switching.proofs.Stepped.{comes_offered, reopened, started, replaced-so}
use Rattle.gen1_switching.proofs.switching_in.replace.Goals as goal

pub returns : goal.returns
unfolding close_update
returns t c = record { updated = left; stepped = λ s stands plays. replaced-so s c.args.one c.args.two stands.valid plays (left s stands plays); room = omega (arith, c.send_both_chosen.ensures.room, c.close.ensures.room) }
  where
    left : (s : State) → Stands c.args.battle.now s → Plays s Switch c.args.one c.args.two
        → Updated (setting_of s) c.close.new.battle (t.S.EventSink.tells c.close.new.events) (close_update (ruling_of s.terms) (replace c.args.one c.args.two (opened s)))
    left s stands plays =
        let apart : (Pass ≡ Switch → ⊥) = λ e. cc in
        let v = started s Switch c.args.one c.args.two stands.valid apart plays in
        let a = c.send_both_chosen.ensures.shown (frame_of s) (opened s) (comes_offered s One c.args.one v.field plays.goes_on plays.first) (comes_offered s Two c.args.two v.field plays.goes_on plays.second)
        (record { within = within_of _ s stands v.field; written = c.requires.empty; ends = refl; stream = refl; drawn = refl; skips = refl; action = refl }) in
        let d = c.close.ensures.shown (frame_of s) (record (replace c.args.one c.args.two (opened s)) { stopped = false }) refl (reopened a) in
        record { within = d.1.within; written = d.1.written; drawn = d.1.drawn }
