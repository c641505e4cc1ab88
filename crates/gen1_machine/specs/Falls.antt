-- The end of an update (docs/MECHANICS.md, "Falls and requests"): which members have fallen, which side has won, and what
-- is asked for next.
use Rattle.std.specs.Prelude.{Bool, false, nat_le, not, true, ◌&&◌, ◌||◌}
use Rattle.gen1_machine.specs.declared.side.Side.{Side}
use Rattle.gen1_machine.specs.declared.side.Side.TheVariants.{One, Two}
use Rattle.gen1_machine.specs.declared.terms.Outcome.{Outcome}
use Rattle.gen1_machine.specs.declared.terms.Outcome.TheVariants as outcomes
use Rattle.gen1_machine.specs.declared.terms.Request.{Request}
use Rattle.gen1_machine.specs.declared.terms.Request.TheVariants as requests
use Rattle.gen1_machine.specs.declared.event.Event.{Event}
use Rattle.gen1_machine.specs.declared.event.Event.TheVariants as events
use Rattle.gen1_tables.specs.Types.{any}
use Rattle.gen1_stats.specs.Members.{is_living}
use Rattle.gen1_machine.specs.Sides.{other}
use Rattle.gen1_machine.specs.State.{party, who_in, changed_member, with_outcome, with_requests, with_next_turn, fallen}
use Rattle.gen1_machine.specs.Progress.{Phase, ◌▸◌, choose, when, given, stop, on_field, note, told, has_fallen, Progress}
use Rattle.gen1_machine.specs.Ruling.{Ruling}

-- Fallen members faint. The last actor's foe is first.

unfoldable pub faint_if_fallen : Side → Phase
faint_if_fallen s = when (has_fallen s) (told (changed_member s fallen) λ f. events.Faint (who_in s f))

unfoldable pub faint_in_order : Side → Phase
faint_in_order actor = faint_if_fallen (other actor) ▸ faint_if_fallen actor

unfoldable pub the_fallen_faint : Phase
the_fallen_faint = given (λ p. p.action.side) faint_in_order

-- The battle is over, and nothing more is asked for.

unfoldable pub ask_nothing : Phase
ask_nothing = on_field (with_requests requests.Pass requests.Pass)

unfoldable pub battle_ends : Outcome → Event → Phase
battle_ends outcome event = on_field (with_outcome outcome) ▸ ask_nothing ▸ note (λ f. event) ▸ stop

abbrev pub has_living : Side → Progress → Bool
has_living s p = any is_living (party s p.field).members

-- A last turn without a winner is a tie, even if a switch would be due (docs/MECHANICS.md, "Turn limit").
unfoldable pub end_if_decided : Ruling → Phase
end_if_decided r =
    when (λ p. not (has_living One p) && not (has_living Two p)) (battle_ends outcomes.Tie events.Tie)
    ▸ when (λ p. not (has_living One p)) (battle_ends outcomes.WinTwo (events.Win Two))
    ▸ when (λ p. not (has_living Two p)) (battle_ends outcomes.WinOne (events.Win One))
    ▸ when (λ p. nat_le r.last_turn p.field.turn) (battle_ends outcomes.Tie events.Tie)

-- The battle continues. It asks for a switch where a member has fallen, and for moves of the next turn otherwise.

abbrev pub switch_if : Bool → Request
switch_if true = requests.Switch
switch_if false = requests.Pass

unfoldable pub ask_for_switches : Phase
ask_for_switches =
    given (has_fallen One) λ one. given (has_fallen Two) λ two. on_field (with_requests (switch_if one) (switch_if two))

unfoldable pub ask_for_moves : Phase
ask_for_moves =
    on_field with_next_turn ▸ told (with_requests requests.Move requests.Move) λ f. events.Turn f.turn

unfoldable pub settle : Ruling → Phase
settle r = end_if_decided r ▸ choose (λ p. has_fallen One p || has_fallen Two p) ask_for_switches ask_for_moves

-- A fault ends a battle at once, with no further event.
unfoldable pub close : Ruling → Outcome → Phase
close r (outcomes.Fault n) = ask_nothing ▸ note λ f. events.Fault n
close r _ = the_fallen_faint ▸ settle r
