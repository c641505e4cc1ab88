use Rattle.std.proofs.Common.{arith}
use Rattle.gen1_layout.proofs.Words.{false, refl}
use Rattle.gen1_machine.specs.Ruling.{ruling_of}
use Rattle.gen1_machine.specs.State.{State}
use Rattle.gen1_machine.specs.SwitchingIn.{start}
use Rattle.gen1_machine.specs.Step.{close_update, opened}
use Rattle.gen1_layout.specs.Shows.{setting_of, Stands}
use Rattle.gen1_switching.specs.SwitchingIn.{frame_of, Starts, Updated}
use Rattle.gen1_switching.proofs.Stepped.{reopened, started-so}
use Rattle.gen1_switching.proofs.switching_in.start.Goals as goal

pub returns : goal.returns
unfolding close_update
returns t c = record { updated = left; stepped = λ s stands starts. started-so s stands.valid starts (left s stands starts); room = omega (arith, c.send_both_first.ensures.room, c.close.ensures.room) }
  where
    left : (s : State) → Stands c.args.battle.now s → Starts s → Updated (setting_of s) c.close.new.battle (t.S.EventSink.tells c.close.new.events) (close_update (ruling_of s.terms) (start (opened s)))
    left s stands starts =
        let a = c.send_both_first.ensures.shown s c.requires.empty stands starts.unstarted in
        let d = c.close.ensures.shown (frame_of s) (record (start (opened s)) { stopped = false }) refl (reopened a) in
        record { within = d.1.within; written = d.1.written; drawn = d.1.drawn }
