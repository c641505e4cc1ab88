-- The knowledge of a spectator that has seen every event of a battle (docs/MECHANICS.md, "Spectator's view").
use Rattle.std.specs.Prelude.{List, ℕ, ◌≡◌}
use Rattle.std.specs.List.{flat_map}
use Rattle.gen1_stats.specs.Members.{IsTeam, Member}
use Rattle.gen1_machine.specs.declared.side.Choice.{Choice}
use Rattle.gen1_machine.specs.State.{first_state, Terms}
use Rattle.gen1_machine.specs.Step.{events_of, run, Ran}
use Rattle.gen1_machine.specs.View.{first_view, sees_all, shows}

-- After any run from the start of a battle of two teams, the view made from the events alone agrees with the battle.
-- It covers active places, HP, kinds of status, stages, substitute, confusion, screens, turn and outcome.
abbrev pub WatcherKnows : Type 0
WatcherKnows = (t : Terms) (one two : List Member) (seed : List ℕ) (pairs : List (Choice × Choice))
    → IsTeam one → IsTeam two
    → let r : Ran = run (first_state t one two seed) pairs in
    sees_all (flat_map events_of r.answers) (first_view one two) ≡ shows r.state.field
