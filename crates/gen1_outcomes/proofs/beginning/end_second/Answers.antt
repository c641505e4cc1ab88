use Rattle.std.proofs.Common.{refl}
use Rattle.gen1_layout.proofs.Words.{Frame, Progress, false}
use Rattle.gen1_machine.specs.declared.side.Side.TheVariants.{One}
use Rattle.gen1_machine.specs.Action.{begin}
use Rattle.gen1_machine.specs.Progress.{new_action, on_action}
use Rattle.gen1_machine.specs.Ruling.{ruling_of}
use Rattle.gen1_machine.specs.Turn.{Acts, do_part, do_parts}
use Rattle.gen1_machine.proofs.Acts.{begin-keeps}
use Rattle.gen1_outcomes.proofs.Closing.{acts_again, closes_turn}
use Rattle.gen1_outcomes.proofs.beginning.end_second.Goals as goal

pub returns-then-rest-clause-ends : goal.returns-then-rest-clause-ends
returns-then-rest-clause-ends v c since g p within ready on at = rw c.if-rest.true (within, at)

pub returns-clause-ends : goal.returns-clause-ends
unfolding do_parts do_part begin on_action
returns-clause-ends v c since g p within ready on at =
    let rest = c.args.rest in
    let is = ready c.if-rest.false in
    let f : Frame = record { setting = g; stream = p.stream; drawn = p.drawn; skips = false; action = new_action One } in
    let start : Progress = begin One p in
    let acts = rw c.new.ensures at c.act_and_suffer_as-falls.ensures.shown in
    let left = acts since f start is.plan is.fits ((begin-keeps g.terms is.plan One).kept p is.follows) (
      false,
      record {
        shows = record { within = within; written = tt; ends = is.going; stream = on; drawn = refl; skips = is.skips; action = refl };
        stands = at;
      },
    ) in
    let x =
    closes_turn c.act_and_suffer_as-falls.new.known f c.act_and_suffer_as-falls.new.battle c.close_turn.new.battle c.act_and_suffer_as-falls.new.random
    c.act_and_suffer_as-falls.result (do_part (ruling_of g.terms) (Acts rest.second rest.pick)) rest.second start left c.close_turn.ensures.cut c.close_turn.ensures.whole in
    rw (c.if-rest.false, ← acts_again (ruling_of g.terms) rest.second rest.pick p) (x.within, x.stands)
