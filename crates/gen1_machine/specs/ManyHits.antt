-- The hits of a move, one after another (docs/MECHANICS.md, "Many hits"), and the cost of a miss.
use Rattle.std.specs.Prelude.{Bool, is_some, nat_lt, suc, unwrap_or, zero, ℕ, ◌+◌, ◌-◌, ◌||◌}
use Rattle.gen1_tables.specs.declared.effect.Stat.TheVariants.{Attack}
use Rattle.gen1_machine.specs.declared.side.Side.{Side}
use Rattle.gen1_machine.specs.declared.event.DamageSource.TheVariants as sources
use Rattle.gen1_machine.specs.declared.event.Event.TheVariants as events
use Rattle.gen1_machine.specs.Sides.{other}
use Rattle.gen1_machine.specs.State.{who_in}
use Rattle.gen1_tables.specs.Effects.{explodes, crashes, knocks_out, hits_more}
use Rattle.gen1_machine.specs.Moves.{Move}
use Rattle.gen1_machine.specs.Progress.{Phase, stay, ◌▸◌, choose, when, unless, only, given, stop, note, set_last_damage, on_action, broke_substitute, underway, has_fallen, lose_hp, Progress}
use Rattle.gen1_machine.specs.Damage.{numbers, rows_of, DamageNumbers}
use Rattle.gen1_machine.specs.HitTest.{note_miss}
use Rattle.gen1_machine.specs.Landing.{land}
use Rattle.gen1_machine.specs.StageShift.{raise_stage}
use Rattle.gen1_machine.specs.HitEffects.{explode, hit_effect}

-- A crash costs its user 1 HP. An explosion that misses still makes its user fall.

unfoldable pub crash : Side → Phase
crash s = lose_hp s sources.Direct 1 ▸ set_last_damage 1

unfoldable pub missed_move : Side → Move → Phase
missed_move s move =
    note_miss s move ▸ only (crashes move.effect) (crash s) ▸ only (explodes move.effect) (explode s) ▸ stop

-- The first hit reports its effectiveness if its damage went through the types.

unfoldable pub note_effectiveness : Side → DamageNumbers → Phase
note_effectiveness target n =
    choose (λ _. nat_lt (rows_of 5 n) (rows_of 20 n)) (note λ f. events.SuperEffective (who_in target f))
    (only (nat_lt (rows_of 20 n) (rows_of 5 n)) (note λ f. events.Resisted (who_in target f)))

unfoldable pub note_critical : Side → Phase
note_critical target = when (λ p. p.action.critical) (note λ f. events.Crit (who_in target f))

unfoldable pub note_first_hit : Side → Move → Phase
note_first_hit s move = when (λ p. p.action.through_types)
    (note_critical (other s) ▸ given (numbers s move) (note_effectiveness (other s)))

-- One hit: the damage lands, its effect follows, and the rage of a member that was hit builds.

unfoldable pub count_hit : Phase
count_hit = on_action λ a. record a { hits_made = a.hits_made + 1 }

unfoldable pub build_rage : Side → Phase
build_rage s = when (λ p. (underway s p).rage) (raise_stage s s Attack 1 stay)

unfoldable pub hit_once : Side → Move → Phase
hit_once s move =
    land (other s) ▸ only (knocks_out move.effect) (note λ f. events.OneHitKnockOut) ▸ count_hit
    ▸ unless broke_substitute (hit_effect s move move.effect)
    ▸ unless (has_fallen (other s)) (build_rage (other s))

-- A broken substitute or a fall ends the hits.
abbrev pub hits_end : Side → Progress → Bool
hits_end s p = p.action.broke || has_fallen (other s) p

unfoldable pub hit_again : ℕ → Side → Move → Phase
hit_again zero s move = stay
hit_again (suc k) s move = unless (hits_end s) (hit_once s move ▸ hit_again k s move)

abbrev pub hits_left : Progress → ℕ
hits_left p = unwrap_or p.action.hits_planned 1 - 1

unfoldable pub note_hit_count : Side → ℕ → Phase
note_hit_count target hits = note λ f. events.HitCount (who_in target f) hits

-- The other hits of a move that may make several, and their number.
unfoldable pub other_hits : Side → Move → Phase
other_hits s move =
    given hits_left (λ k. hit_again k s move)
    ▸ when (λ p. is_some p.action.hits_planned) (given (λ p. p.action.hits_made) (note_hit_count (other s)))

unfoldable pub hits : Side → Move → Phase
hits s move = note_first_hit s move ▸ hit_once s move ▸ only (hits_more move.effect) (other_hits s move)
