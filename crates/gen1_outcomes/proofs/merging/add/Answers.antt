use Rattle.std.proofs.Common.{arith, refl, ◌∙◌}
use Rattle.gen1_outcomes.proofs.Lists.{on_ok_put, on_ok_stay, on_ok_stay_both, on_ok_those}
use Rattle.gen1_outcomes.proofs.Shares.{on_ok_first, on_ok_leaves, on_ok_more, takes_or}
use Rattle.gen1_outcomes.proofs.Table.{on_ok_indexed, on_ok_kept, on_ok_same}
use Rattle.gen1_outcomes.proofs.merging.add.Goals as goal

pub returns-in-Taken-clause-adds : goal.returns-in-Taken-clause-adds
returns-in-Taken-clause-adds c =
    on_ok_more c.args.battle.now c.args.chance c.args.tally.now c.scaled_weight.new.tally c.args.successors.now c.scaled_weight.new.successors c.add_weight.new.successors
    c.in-Taken.place c.in_ok-weight.weight c.add_weight.result c.in_ok-weight.ensures.keeps c.in_ok-weight.ensures.weight (c.if-is_below.ensures.kept refl)
    c.in-Taken.ensures.place.0 c.in-Taken.ensures.place.1 c.add_weight.ensures.battles c.add_weight.ensures.here c.add_weight.ensures.others

pub returns-in-Free-clause-battles : goal.returns-in-Free-clause-battles
returns-in-Free-clause-battles c =
    on_ok_those c.args.battle.now c.new.result.battle c.args.tally.now.count c.scaled_weight.new.tally.count c.append.new.tally.count
    c.args.successors.now c.scaled_weight.new.successors c.append.new.successors c.append.result c.in_ok-weight.ensures.count
    (c.new.ensures.battle ∙ c.copy_of.ensures) c.in_ok-weight.ensures.battles c.append.ensures.battles

pub returns-in-Free-clause-adds : goal.returns-in-Free-clause-adds
returns-in-Free-clause-adds c =
    on_ok_first c.args.battle.now c.args.chance c.args.tally.now c.scaled_weight.new.tally c.append.new.tally c.args.successors.now c.scaled_weight.new.successors
    c.append.new.successors c.new.result c.in_ok-weight.weight c.append.result c.in_ok-weight.ensures.keeps c.in_ok-weight.ensures.weight (c.if-is_below.ensures.kept refl)
    (c.new.ensures.battle ∙ c.copy_of.ensures) c.new.ensures.weight c.append.ensures.within c.append.ensures.counts c.append.ensures.list

pub returns-in-Taken-clause-indexed : goal.returns-in-Taken-clause-indexed
returns-in-Taken-clause-indexed c =
    on_ok_same c.args.tally.now c.scaled_weight.new.tally c.args.successors.now c.scaled_weight.new.successors c.add_weight.new.successors c.args.table.now
    c.add_weight.result c.in_ok-weight.ensures.battles c.add_weight.ensures.battles c.in_ok-weight.ensures.count

pub returns-in-Free-clause-indexed : goal.returns-in-Free-clause-indexed
returns-in-Free-clause-indexed c =
    on_ok_indexed c.args.battle.now c.args.tally.now c.scaled_weight.new.tally c.append.new.tally c.args.successors.now c.scaled_weight.new.successors
    c.append.new.successors c.args.table.now c.append.new.table c.in-Free.slot c.new.result c.append.result c.in_ok-weight.ensures.battles c.in_ok-weight.ensures.count
    (omega (arith, c.requires.within, c.in_ok-weight.ensures.count, c.scaled_weight.auto.successors)) c.in-Free.ensures.place.0 c.in-Free.ensures.place.1
    (c.new.ensures.battle ∙ c.copy_of.ensures) c.in-Free.ensures.new c.append.ensures.within c.append.ensures.counts c.append.ensures.list c.append.ensures.table

pub returns-then-is_below-clause-indexed : goal.returns-then-is_below-clause-indexed
returns-then-is_below-clause-indexed c =
    on_ok_kept c.args.tally.now c.leave_out.new.tally c.args.successors.now c.leave_out.new.successors c.args.table.now c.leave_out.result
    c.leave_out.ensures.battles c.leave_out.ensures.count

pub returns-in-Free-clause-left_out : goal.returns-in-Free-clause-left_out
returns-in-Free-clause-left_out c =
    on_ok_leaves c.args.tally.now c.scaled_weight.new.tally c.append.new.tally c.append.result c.in_ok-weight.ensures.left_out c.append.ensures.left_out

pub returns-in-Free-clause-takes : goal.returns-in-Free-clause-takes
returns-in-Free-clause-takes c =
    takes_or c.args.tally.now c.scaled_weight.new.tally c.append.new.tally c.args.table.now c.append.new.table c.in-Free.slot c.append.result c.in_ok-weight.ensures.count
    c.in-Free.ensures.place.0 c.in-Free.ensures.place.1 c.append.ensures.counts c.append.ensures.table c.append.ensures.kept

pub returns-then-is_below-clause-first : goal.returns-then-is_below-clause-first
returns-then-is_below-clause-first c = on_ok_stay c.args.tally.now.count c.args.successors.now c.leave_out.new.successors c.leave_out.result c.leave_out.ensures.battles

pub returns-in-Taken-clause-first : goal.returns-in-Taken-clause-first
returns-in-Taken-clause-first c =
    on_ok_stay_both c.args.tally.now.count c.args.successors.now c.scaled_weight.new.successors c.add_weight.new.successors c.add_weight.result
    c.in_ok-weight.ensures.battles c.add_weight.ensures.battles

pub returns-in-Free-clause-first : goal.returns-in-Free-clause-first
returns-in-Free-clause-first c =
    on_ok_put c.args.tally.now.count c.scaled_weight.new.tally.count c.args.successors.now c.scaled_weight.new.successors c.append.new.successors c.new.result
    c.append.result c.in_ok-weight.ensures.battles c.in_ok-weight.ensures.count c.append.ensures.list
