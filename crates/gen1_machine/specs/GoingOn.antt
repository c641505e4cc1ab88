-- Moves that continue over several turns (docs/MECHANICS.md, "Going on"): trapping, thrashing and Bide.
use Rattle.std.specs.Prelude.{None, Option, Some, nat_le, true, ℕ, ◌%◌, ◌*◌, ◌+◌, ◌==◌}
use Rattle.gen1_machine.specs.declared.side.Side.{Side}
use Rattle.gen1_machine.specs.declared.event.Volatile.TheVariants as volatiles
use Rattle.gen1_rolls.specs.Streams.{low_bits}
use Rattle.gen1_machine.specs.Sides.{other}
use Rattle.gen1_machine.specs.Conditions.{energy_with, with_bide_storing, without_bide, with_thrash, with_thrash_one_less, without_thrash, with_trapping, with_trapping_one_less, without_recharge, Storing}
use Rattle.gen1_machine.specs.State.{with_kept_accuracy}
use Rattle.gen1_machine.specs.Moves.{accuracy_byte, Move}
use Rattle.gen1_machine.specs.Progress.{Phase, stay, ◌▸◌, choose, given, stop, draw, on_active, on_conditions, set_last_damage, lasts, ends, on_action, set_missed, goes_on_now, last_damage, underway}
use Rattle.gen1_machine.specs.EarlyEffects.{confuse}

-- How many times a move hits or holds: two to five, where the small counts are more likely.

unfoldable pub count_again : (ℕ → Phase) → ℕ → Phase
count_again f c = f (low_bits 2 c)

unfoldable pub count_by_draw : (ℕ → Phase) → ℕ → Phase
count_by_draw f b = choose (λ _. nat_le (low_bits 2 b) 1) (f (low_bits 2 b)) (draw (count_again f))

-- A number from 0 to 3, which is the count less two.
unfoldable pub draw_count : (ℕ → Phase) → Phase
draw_count f = draw (count_by_draw f)

-- Trapping keeps the foe from acting for two to five turns.

unfoldable pub trap_for : Side → ℕ → Phase
trap_for s n = on_conditions s (with_trapping (n + 1))

unfoldable pub trap : Side → Phase
trap s = choose goes_on_now
    (on_conditions s with_trapping_one_less)
    (on_conditions (other s) without_recharge ▸ draw_count (trap_for s))

-- Thrashing continues for two or three more turns. Then its user is confused.

unfoldable pub thrash_less : Side → Option ℕ → Phase
thrash_less s None = stay
thrash_less s (Some turns) =
    choose (λ _. nat_le turns 1)
    (on_conditions s without_thrash ▸ confuse s)
    (on_conditions s with_thrash_one_less)

-- The accuracy of the first turn is kept for the other turns.
unfoldable pub thrash_for : Side → Move → ℕ → Phase
thrash_for s move b =
    on_conditions s (with_thrash (low_bits 1 b + 2)) ▸ on_active s (with_kept_accuracy (accuracy_byte move))

unfoldable pub thrash_about : Side → Move → Phase
thrash_about s move = choose goes_on_now
    (given (λ p. (underway s p).thrash) (thrash_less s))
    (draw (thrash_for s move))

-- Bide stores the last damage turn by turn. At the end it lets out twice the sum.

abbrev pub let_out : ℕ → ℕ
let_out energy = 2 * energy % 65536

unfoldable pub set_letting_go : Phase
set_letting_go = on_action λ a. record a { letting_go = true }

-- An energy of 0 is a miss.
unfoldable pub let_energy_go : Side → ℕ → Phase
let_energy_go s energy =
    ends s volatiles.Bide without_bide ▸ set_last_damage (let_out energy)
    ▸ set_letting_go ▸ set_missed (let_out energy == 0)

unfoldable pub store_energy : Side → ℕ → Phase
store_energy s damage = lasts s volatiles.Bide (with_bide_storing damage) ▸ stop

unfoldable pub bide_on : Side → Option Storing → ℕ → Phase
bide_on s None damage = stay
bide_on s (Some b) damage =
    choose (λ _. nat_le b.turns 1) (let_energy_go s (energy_with damage b)) (store_energy s damage)

unfoldable pub bide_goes_on : Side → Phase
bide_goes_on s = given (λ p. (underway s p).bide) λ b. given last_damage (bide_on s b)
