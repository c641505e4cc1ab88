use Rattle.std.proofs.Common.{refl, replicate}
use Rattle.gen1_machine.specs.State.{first_state, usual_terms}
use Rattle.gen1_c.proofs.OddsDue.{is_out, sends}
use Rattle.gen1_c.proofs.odds.sent_out.Goals as goal

pub returns-clause-stands : goal.returns-clause-stands
returns-clause-stands c =
    let s = first_state usual_terms c.args.one.now c.args.two.now (replicate 10 0) in
    sends s c.new-battle.result c.update_events-result.new.battle c.update_events-result.result c.new-battle.ensures refl (c.update_events-result.ensures.answers s c.new-battle.ensures)

pub returns-clause-out : goal.returns-clause-out
returns-clause-out c =
    is_out (first_state usual_terms c.args.one.now c.args.two.now (replicate 10 0)) c.new-battle.result c.new-battle.ensures refl
