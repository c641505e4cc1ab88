use Rattle.std.proofs.Common.{arith, length, map, ◌<◌, ◌≤◌}
use Rattle.gen1_machine.specs.State.{Terms}
use Rattle.uses.specs.TheTheorem.{begun, logs_of, pair_of}
use Rattle.uses.proofs.TheTheorem.{all_called, all_read, going_end, going_first, going_more}
use Rattle.uses.proofs.the_theorem.the_theorem.Goals as goal

pub loop-place-init : goal.loop-place-init
loop-place-init c = going_first (begun c.args.beginning.now) c.args.updates.now c.with_limit-battle.result c.with_limit-battle.ensures

pub loop-place-preserved : goal.loop-place-preserved
loop-place-preserved c =
    let g = c.loop-place.invariant in
    let updates = c.loop-place.updates in
    let inside : c.loop-place.place < length updates = omega arith in
    going_more (begun c.args.beginning.now) c.args.updates.now updates c.loop-place.place c.loop-place.battle c.call.new.battle _ c.call.new.update g inside
    (c.call.ensures.called g.state g.stands) (c.call.ensures.logged g.state g.stands) (c.call.ensures.goes g.state g.stands)

pub returns-clause-calls : goal.returns-clause-calls
returns-clause-calls c =
    let s = begun c.args.beginning.now in
    let all : length c.loop-place.updates ≤ c.loop-place.place = omega arith in
    all_called s c.args.updates.now c.loop-place.updates (going_end s c.args.updates.now c.loop-place.updates c.loop-place.place c.loop-place.battle c.loop-place.invariant all)

pub returns-clause-watches : goal.returns-clause-watches
returns-clause-watches c whole =
    let b = c.args.beginning.now in
    let terms : Terms = record { rules = b.rules; limit = b.limit } in
    let old = c.args.updates.now in
    let new = c.loop-place.updates in
    let all : length new ≤ c.loop-place.place = omega arith in
    c.watch.ensures terms b.seed (map pair_of old) (logs_of new)
    (all_read (begun b) old new (going_end (begun b) old new c.loop-place.place c.loop-place.battle c.loop-place.invariant all)) whole
