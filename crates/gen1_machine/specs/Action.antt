-- One side's action (docs/MECHANICS.md, "Action"). Its parts come in their order, and each applies only to the moves
-- that have it.
use Rattle.std.specs.Prelude.{Bool, Option, if◌then◌else◌, is_some, nat_lt, not, unwrap_or, ℕ, ◌&&◌, ◌||◌}
use Rattle.gen1_tables.specs.declared.effect.Effect.{Effect}
use Rattle.gen1_tables.specs.declared.effect.Effect.TheVariants as effects
use Rattle.gen1_machine.specs.declared.side.Side.{Side}
use Rattle.gen1_machine.specs.declared.event.CantReason.TheVariants as reasons
use Rattle.gen1_machine.specs.declared.event.Event.TheVariants as events
use Rattle.gen1_machine.specs.declared.side.Pick.{Pick}
use Rattle.gen1_machine.specs.declared.side.Pick.TheVariants.{Held}
use Rattle.gen1_machine.specs.Sides.{other}
use Rattle.gen1_machine.specs.Conditions.{Underway}
use Rattle.gen1_machine.specs.State.{active_in, member_in, who_in, with_pp_spent, with_kept_accuracy, is_over, Field}
use Rattle.gen1_tables.specs.Effects.{traps, thrashes, bides}
use Rattle.gen1_machine.specs.Moves.{move_at, Move}
use Rattle.gen1_machine.specs.Progress.{new_action, Phase, ◌▸◌, choose, when, unless, only, given, stop, note, on_active, on_member, set_last_damage, on_action, goes_on_now, has_missed, active, underway, Progress}
use Rattle.gen1_machine.specs.CriticalHits.{roll_critical}
use Rattle.gen1_machine.specs.Damage.{roll_damage}
use Rattle.gen1_machine.specs.HitTest.{hit_or_miss}
use Rattle.gen1_machine.specs.Picks.{used_by, number_in, is_use}
use Rattle.gen1_machine.specs.Gate.{cant, gate}
use Rattle.gen1_machine.specs.Ruling.{Ruling}
use Rattle.gen1_machine.specs.EarlyEffects.{is_early, early_effect}
use Rattle.gen1_machine.specs.LateEffects.{is_late, late_effect}
use Rattle.gen1_machine.specs.SideEffects.{side_effect}
use Rattle.gen1_machine.specs.GoingOn.{trap, thrash_about, bide_goes_on}
use Rattle.gen1_machine.specs.Charging.{make_current, charge}
use Rattle.gen1_machine.specs.FixedDamage.{fixed_damage, knock_out}
use Rattle.gen1_machine.specs.Counter.{counter}
use Rattle.gen1_machine.specs.ManyHits.{missed_move, hits_end, hits}

-- A move that continues costs no PP. If its condition has ended meanwhile, the move is used as a new one.
abbrev pub keeps_going : Underway → Bool
keeps_going u = is_some u.thrash || is_some u.trapping || u.rage

unfoldable pub set_going_on : Bool → Phase
set_going_on going_on = on_action λ a. record a { going_on = going_on }

unfoldable pub see_if_going_on : Side → Pick → Phase
see_if_going_on s pick = given (λ p. not (is_use pick) && keeps_going (underway s p)) set_going_on

-- A side that was held as the turn began does nothing, even if the foe that held it has left since.
unfoldable pub gate_or_held : Side → Pick → Phase
gate_or_held s Held = cant s reasons.PartiallyTrapped
gate_or_held s pick = gate s pick

-- The move that a pick uses.
abbrev pub move_taken_in : Side → Pick → Field → Move
move_taken_in s pick f = move_at (number_in (used_by pick (active_in s f).current_move) (member_in s f).moves)

unfoldable pub spend_pp : Side → Phase
spend_pp s = given (λ p. (active s p).current_move) λ used. on_member s (with_pp_spent used)

-- The user uses its move. A move of Bide's effect writes no event.
unfoldable pub use_move : Side → Pick → Move → Phase
use_move s pick move =
    make_current s pick ▸ unless goes_on_now (spend_pp s)
    ▸ only (not (bides move.effect)) (note λ f. events.Move (who_in s f) move.number (who_in (other s) f))

-- What trapping and thrashing moves do before their damage.
unfoldable pub prelude : Side → Move → Phase
prelude s move = only (traps move.effect) (trap s) ▸ only (thrashes move.effect) (thrash_about s move)

abbrev pub lets_energy_go : Progress → Bool
lets_energy_go p = p.action.letting_go

-- What comes before any damage.
unfoldable pub lead_up : Side → Pick → Move → Phase
lead_up s pick move =
    charge s pick move ▸ use_move s pick move
    ▸ only (is_early move.effect) (early_effect s move move.effect ▸ stop)
    ▸ prelude s move

-- The last damage is one number, shared by both sides.
unfoldable pub usual_damage : Side → Move → Phase
usual_damage s move = set_last_damage 0 ▸ roll_critical s move ▸ roll_damage s move ▸ hit_or_miss s move

unfoldable pub damage_of : Side → Move → Effect → Phase
damage_of s move effects.Counter = counter s move
damage_of s move effects.FixedDamage = fixed_damage s move
damage_of s move effects.SuperFang = fixed_damage s move
damage_of s move effects.OneHitKnockOut = knock_out s move
damage_of s move _ = choose (λ _. nat_lt 0 move.power) (usual_damage s move) (set_last_damage 0)

-- Bide's energy and trapping that continues skip the damage and go straight to the landing.
abbrev pub lands_at_once : Move → Progress → Bool
lands_at_once move p = p.action.letting_go || (p.action.going_on && traps move.effect)

-- The move hits or misses. Its side effect follows.
unfoldable pub strike : Ruling → Side → Move → Phase
strike r s move =
    when has_missed (missed_move s move) ▸ hits s move
    ▸ unless (λ p. lets_energy_go p || hits_end s p) (side_effect r s move move.effect)

-- The parts of an action after its move is settled. An action that lets out Bide's energy skips the lead-up, the
-- damage and the late effect.
unfoldable pub carry_out : Ruling → Side → Pick → Move → Phase
carry_out r s pick move =
    bide_goes_on s
    ▸ unless lets_energy_go (lead_up s pick move)
    ▸ unless (lands_at_once move) (damage_of s move move.effect)
    ▸ unless lets_energy_go (only (is_late move.effect) (late_effect r s move move.effect ▸ stop))
    ▸ strike r s move

unfoldable pub action_parts : Ruling → Side → Pick → Phase
action_parts r s pick =
    gate_or_held s pick ▸ see_if_going_on s pick
    ▸ given (λ p. move_taken_in s pick p.field) (carry_out r s pick)

-- However an action ends, the accuracy of its hit test is kept while rage or thrashing is on
-- (docs/MECHANICS.md, "Kept accuracy").
abbrev pub accuracy_after : Underway → Option ℕ → ℕ → ℕ
accuracy_after u tested kept = if u.rage || is_some u.thrash then unwrap_or tested kept else 0

abbrev pub accuracy_to_keep : Side → Progress → ℕ
accuracy_to_keep s p = accuracy_after (underway s p) p.action.accuracy_tested (active s p).kept_accuracy

unfoldable pub keep_accuracy : Side → Phase
keep_accuracy s = given (accuracy_to_keep s) λ byte. on_active s (with_kept_accuracy byte)

-- A new action knows nothing of the one before (docs/MECHANICS.md, "Action").
unfoldable pub begin : Side → Phase
begin s = on_action λ a. new_action s

-- Only a fault stops more than the action.
unfoldable pub resume : Phase
resume p = record p { stopped = is_over p.field.outcome }

unfoldable pub act : Ruling → Side → Pick → Phase
act r s pick p = resume (keep_accuracy s (action_parts r s pick (begin s p)))
