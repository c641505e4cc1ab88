use Rattle.std.proofs.Common.{ap, refl, sym}
use Rattle.std.proofs.lemmas.Bool.{false≢true}
use Rattle.gen1_layout.proofs.Words.{Frame, Progress, false}
use Rattle.gen1_machine.specs.declared.side.Side.TheVariants.{One}
use Rattle.gen1_machine.specs.Action.{begin}
use Rattle.gen1_machine.specs.Progress.{new_action, on_action, unless_stopped, ◌▸◌}
use Rattle.gen1_machine.specs.Ruling.{ruling_of}
use Rattle.gen1_machine.specs.Step.{close_update}
use Rattle.gen1_machine.specs.Turn.{Acts, do_part, do_parts, end_turn}
use Rattle.gen1_machine.proofs.Acts.{begin-keeps}
use Rattle.gen1_turn.specs.TwoParts.{suffering}
use Rattle.gen1_outcomes.specs.Beginning.{second_action}
use Rattle.gen1_outcomes.proofs.Closing.{acts_again, closes_turn}
use Rattle.gen1_outcomes.proofs.beginning.lead.Goals as goal

pub returns-then-rest-clause-leads : goal.returns-then-rest-clause-leads
returns-then-rest-clause-leads v c since g p within ready on at =
    rw c.if-rest.true (record { here = p; within = within; stands = at; on = on; ready = λ e. absurd (false≢true (sym e)); rests = refl })

pub returns-in-Rolls-clause-leads : goal.returns-in-Rolls-clause-leads
unfolding do_parts do_part begin on_action ◌▸◌
returns-in-Rolls-clause-leads v c since g p within ready on at =
    let rest = c.args.rest in
    let is = ready c.if-rest.false in
    let f : Frame = record { setting = g; stream = p.stream; drawn = p.drawn; skips = false; action = new_action One } in
    let start : Progress = begin One p in
    let acts = rw c.new.ensures at c.act_to_roll-acted.ensures.shown in
    let rolls = rw c.in-Rolls.is at acts since f start is.plan is.fits ((begin-keeps g.terms is.plan One).kept p is.follows) (
      false,
      record {
        shows = record { within = within; written = tt; ends = is.going; stream = on; drawn = refl; skips = is.skips; action = refl };
        stands = at;
      },
    ) in
    let r = ruling_of g.terms in
    let on_to = ap (λ (q : Progress). close_update r (unless_stopped (suffering rest.second end_turn) q)) rolls.left in
    rw (c.if-rest.false, ← acts_again (ruling_of g.terms) rest.second rest.pick p) (record {
      here = rolls.here;
      within = rolls.shows.shows.within;
      stands = rolls.shows.stands;
      on = rolls.shows.shows.stream;
      ready = rolls.rolling;
      rests = on_to;
    })

pub returns-in-Ended-clause-leads : goal.returns-in-Ended-clause-leads
unfolding do_parts do_part begin on_action
returns-in-Ended-clause-leads v c since g p within ready on at =
    let rest = c.args.rest in
    let is = ready c.if-rest.false in
    let f : Frame = record { setting = g; stream = p.stream; drawn = p.drawn; skips = false; action = new_action One } in
    let start : Progress = begin One p in
    let acts = rw c.new.ensures at c.act_to_roll-acted.ensures.shown in
    let left = rw c.in-Ended.is at acts since f start is.plan is.fits ((begin-keeps g.terms is.plan One).kept p is.follows) (
      false,
      record {
        shows = record { within = within; written = tt; ends = is.going; stream = on; drawn = refl; skips = is.skips; action = refl };
        stands = at;
      },
    ) in
    let x =
    closes_turn c.act_to_roll-acted.new.known f c.act_to_roll-acted.new.battle c.close_turn.new.battle c.act_to_roll-acted.new.random
    c.in-Ended.falls (do_part (ruling_of g.terms) (Acts rest.second rest.pick)) rest.second start left c.close_turn.ensures.cut c.close_turn.ensures.whole in
    rw (c.if-rest.false, ← acts_again (ruling_of g.terms) rest.second rest.pick p) (record {
      here = close_update (ruling_of g.terms) (second_action (ruling_of g.terms) rest.second rest.pick start);
      within = x.within;
      stands = x.stands;
      on = x.on;
      ready = λ e. absurd (false≢true (sym e));
      rests = refl;
    })
