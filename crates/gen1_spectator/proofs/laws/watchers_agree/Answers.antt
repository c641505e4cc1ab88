use Rattle.std.proofs.Common.{List, ap, ◌≡◌, ◌∙◌}
use Rattle.std.specs.List.{flat_map}
use Rattle.gen1_machine.specs.declared.event.Event.{Event}
use Rattle.gen1_machine.specs.State.{first_state}
use Rattle.gen1_machine.specs.Step.{events_of, run}
use Rattle.gen1_machine.specs.View.{first_view, sees_all}
use Rattle.gen1_machine.proofs.Spectators.{watcher_knows}
use Rattle.gen1_events.proofs.Readings.{one_split, reading_splits, reads_part}
use Rattle.gen1_spectator.specs.Plain.{joined}
use Rattle.gen1_spectator.proofs.Following.{joined_reading}
use Rattle.gen1_spectator.proofs.laws.watchers_agree.Goals as goal

pub returns : goal.returns
returns c t one two seed pairs logs team_one team_two read seen taken =
    let answers = (run (first_state t one two seed) pairs).answers in
    let log = joined logs in
    let all = flat_map events_of answers in
    let same : seen ≡ all = (one_split log seen all _ _ (reads_part log seen _ taken) (reading_splits log all (joined_reading logs answers read))).0 in
    ap (λ (l : List Event). sees_all l (first_view one two)) same ∙ watcher_knows t one two seed pairs team_one team_two
