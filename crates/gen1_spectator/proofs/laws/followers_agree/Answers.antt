use Rattle.std.proofs.Common.{◌∙◌}
use Rattle.std.specs.List.{flat_map}
use Rattle.gen1_machine.specs.State.{first_state}
use Rattle.gen1_machine.specs.Step.{events_of, run}
use Rattle.gen1_machine.proofs.Spectators.{watcher_knows}
use Rattle.gen1_spectator.proofs.Following.{followed_told, joined_reading, told_all, told_no_fault}
use Rattle.gen1_spectator.proofs.laws.followers_agree.Goals as goal

pub returns-clause-agree : goal.returns-clause-agree
returns-clause-agree c t one two seed pairs logs team_one team_two read reader view followed =
    let answers = (run (first_state t one two seed) pairs).answers in
    let all = told_all (flat_map events_of answers) (joined_reading logs answers read) (followed_told followed) in
    (all.0, all.1 ∙ watcher_knows t one two seed pairs team_one team_two)

pub returns-clause-faultless : goal.returns-clause-faultless
returns-clause-faultless c t one two seed pairs logs team_one team_two read taken bytes more old new before after fault whole followed follows =
    let answers = (run (first_state t one two seed) pairs).answers in
    told_no_fault new after bytes more fault (flat_map events_of answers) (joined_reading logs answers read) whole (followed_told followed) follows
