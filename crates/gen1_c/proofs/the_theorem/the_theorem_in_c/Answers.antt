use Rattle.std.proofs.Common.{ap, arith, length, ◌<◌, ◌∙◌, ◌≡◌, ◌≤◌}
use Rattle.gen1_stats.specs.Teams.{team_of}
use Rattle.gen1_machine.specs.Rules.{rules_of}
use Rattle.gen1_machine.specs.State.{State, Terms}
use Rattle.gen1_machine.specs.View.{shows}
use Rattle.gen1_c.specs.Teams.{sheets_of}
use Rattle.gen1_c.specs.TheTheorem.{begun}
use Rattle.gen1_c.proofs.TheTheorem.{all_called, all_ran, begun_teams, going_end, going_first, going_more}
use Rattle.gen1_c.proofs.the_theorem.the_theorem_in_c.Goals as goal

pub loop-place-init : goal.loop-place-init
loop-place-init c =
    let zero : c.set_up-fault.result ≡ 0 = omega (arith, c.if-fault-ne0.false) in
    going_first (begun c.args.beginning.now) c.args.updates.now c.set_up-fault.new.battle (c.set_up-fault.ensures.stands zero)

pub loop-place-preserved : goal.loop-place-preserved
loop-place-preserved c =
    let g = c.loop-place.invariant in
    let updates = c.loop-place.updates in
    let inside : c.loop-place.place < length updates = omega arith in
    going_more (begun c.args.beginning.now) c.args.updates.now updates c.loop-place.place c.loop-place.battle c.call.new.battle _ c.call.new.update g inside
    (c.call.ensures.called g.state g.stands) (c.call.ensures.logged g.state g.stands) (c.call.ensures.goes g.state g.stands)

pub returns-clause-calls : goal.returns-clause-calls
returns-clause-calls c none =
    let s = begun c.args.beginning.now in
    let all : length c.loop-place.updates ≤ c.loop-place.place = omega arith in
    all_called s c.args.updates.now c.loop-place.updates
    (going_end s c.args.updates.now c.loop-place.updates c.loop-place.place c.loop-place.battle c.loop-place.invariant all).0

pub returns-clause-stands : goal.returns-clause-stands
returns-clause-stands c none =
    let all : length c.loop-place.updates ≤ c.loop-place.place = omega arith in
    (going_end (begun c.args.beginning.now) c.args.updates.now c.loop-place.updates c.loop-place.place c.loop-place.battle c.loop-place.invariant all).1

pub returns-clause-watches : goal.returns-clause-watches
returns-clause-watches c none whole =
    let b = c.args.beginning.now in
    let terms : Terms = record { rules = rules_of b.rules; limit = b.limit } in
    let zero : c.set_up-fault.result ≡ 0 = omega (arith, c.if-fault-ne0.false) in
    let teams = begun_teams terms (sheets_of b.one) (sheets_of b.two) b.seed c.set_up-fault.new.battle (c.set_up-fault.ensures.stands zero) in
    let all : length c.loop-place.updates ≤ c.loop-place.place = omega arith in
    let ran = all_ran (begun b) c.args.updates.now c.loop-place.updates
    (going_end (begun b) c.args.updates.now c.loop-place.updates c.loop-place.place c.loop-place.battle c.loop-place.invariant all).0 in
    let knows = c.feed.ensures.knows (team_of (sheets_of b.one)) (team_of (sheets_of b.two)) teams.0 teams.1 (c.set_up-fault.ensures.watches zero).2
    terms b.seed ran.pairs ran.logs ran.read (whole ∙ ran.whole) in
    (c.from.ensures ∙ knows.0, knows.1, knows.2 ∙ ap (λ (s : State). shows s.field) ran.leads)

pub returns-clause-faults : goal.returns-clause-faults
returns-clause-faults c none some =
    let found = c.feed.ensures.faults (λ zero. some (c.from.ensures ∙ zero)) in
    (found.0, c.from.ensures ∙ found.1)
