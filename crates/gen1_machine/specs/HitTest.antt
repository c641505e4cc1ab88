-- The hit test (docs/MECHANICS.md, "Hit test").
use Rattle.std.specs.Prelude.{Bool, None, Option, Some, false, if◌then◌else◌, max, min, nat_lt, not, true, ℕ, ◌&&◌, ◌*◌, ◌-◌, ◌/◌, ◌==◌}
use Rattle.gen1_tables.specs.declared.types.Element.{Element}
use Rattle.gen1_tables.specs.declared.effect.Effect.{Effect}
use Rattle.gen1_tables.specs.declared.effect.Effect.TheVariants as effects
use Rattle.gen1_stats.specs.declared.member.Status.{Status}
use Rattle.gen1_machine.specs.declared.side.Side.{Side}
use Rattle.gen1_machine.specs.declared.event.Event.{Event}
use Rattle.gen1_machine.specs.declared.event.Event.TheVariants as events
use Rattle.gen1_tables.specs.Types.{any, rows_against}
use Rattle.gen1_stats.specs.Members.{is_asleep}
use Rattle.gen1_stats.specs.Stats.{stat}
use Rattle.gen1_machine.specs.Sides.{other}
use Rattle.gen1_machine.specs.Stages.{percent_at}
use Rattle.gen1_machine.specs.Conditions.{without_trapping, ActiveConditions}
use Rattle.gen1_machine.specs.State.{active_in, conditions_in, status_in, who_in, Stages, Active, Field}
use Rattle.gen1_machine.specs.Moves.{accuracy_byte, Move}
use Rattle.gen1_machine.specs.Progress.{Phase, stay, ◌▸◌, choose, when, given, stop, draw, note, on_conditions, set_last_damage, on_action, set_missed, has_missed, active, Progress}

abbrev pub lowers : Effect → Bool
lowers (effects.StatDown stat n) = true
lowers _ = false

abbrev pub eats_dreams : Effect → Bool
eats_dreams effects.DreamEater = true
eats_dreams _ = false

abbrev pub never_misses : Effect → Bool
never_misses effects.NeverMisses = true
never_misses _ = false

-- Some hit tests are settled without a draw. This says whether such a test hits.
abbrev pub settled_hit : Effect → Status → ActiveConditions → Option Bool
settled_hit effect foe_status foe =
    if eats_dreams effect && not (is_asleep foe_status) then Some false
    else if never_misses effect then Some true
    else if foe.invulnerable then Some false
    else if lowers effect && foe.mist then Some false
    else None

abbrev pub settled_hit_in : Side → Move → Field → Option Bool
settled_hit_in s move f = settled_hit move.effect (status_in (other s) f) (conditions_in (other s) f)

-- The accuracy byte at the user's accuracy and the foe's evasion.
abbrev pub scaled : ℕ → Stages → Stages → ℕ
scaled base user foe =
    let aimed = max 1 (base * percent_at user.accuracy / 100) in
    min 255 (max 1 (aimed * percent_at (12 - foe.evasion) / 100))

abbrev pub scaled_in : Side → ℕ → Field → ℕ
scaled_in s base f = scaled base (active_in s f).stages (active_in (other s) f).stages

-- A miss sets the last damage to 0, and ends the user's trapping.
unfoldable pub miss : Side → Phase
miss s = set_missed true ▸ set_last_damage 0 ▸ on_conditions s without_trapping

unfoldable pub set_tested : ℕ → Phase
set_tested byte = on_action λ a. record a { accuracy_tested = Some byte }

-- A draw below the byte hits.
unfoldable pub hits_below : Side → ℕ → ℕ → Phase
hits_below s byte b = choose (λ _. nat_lt b byte) stay (miss s)

unfoldable pub test_by : Side → ℕ → Option Bool → Phase
test_by s base (Some true) = set_tested base
test_by s base (Some false) = set_tested base ▸ miss s
test_by s base None = given (λ p. scaled_in s base p.field) λ byte. set_tested byte ▸ draw (hits_below s byte)

unfoldable pub hit_test : Side → Move → ℕ → Phase
hit_test s move base = given (λ p. settled_hit_in s move p.field) (test_by s base)

-- A move that continues is tested with the byte that was kept.
abbrev pub base_of : Side → Move → Progress → ℕ
base_of s move p = if p.action.going_on then (active s p).kept_accuracy else accuracy_byte move

unfoldable pub hit_or_miss : Side → Move → Phase
hit_or_miss s move = given (base_of s move) (hit_test s move)

-- A miss is reported as immunity if the foe has a type that the move has no effect on.
abbrev pub is_immune : Element → Active → Bool
is_immune t foe = any (λ row. row.tenths == 0) (rows_against t foe.first_type foe.second_type)

abbrev pub miss_event : Side → Move → Field → Event
miss_event s move f =
    if is_immune move.kind (active_in (other s) f) then events.Immune (who_in (other s) f) else events.Miss (who_in s f)

unfoldable pub note_miss : Side → Move → Phase
note_miss s move = note (miss_event s move)

-- A hit test whose miss ends the action.
unfoldable pub must_hit : Side → Move → Phase
must_hit s move = hit_or_miss s move ▸ when has_missed (note_miss s move ▸ stop)
