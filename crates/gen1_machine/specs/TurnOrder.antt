-- Who acts first (docs/MECHANICS.md, "Order of a turn"): by the picked moves, then by Speed, then by a draw.
use Rattle.std.specs.Prelude.{if◌then◌else◌, nat_lt, ℕ, ◌==◌}
use Rattle.gen1_tables.specs.declared.effect.Stat.TheVariants.{Speed}
use Rattle.gen1_machine.specs.declared.side.Side.{Side}
use Rattle.gen1_machine.specs.declared.side.Side.TheVariants.{One, Two}
use Rattle.gen1_machine.specs.State.{Field}
use Rattle.gen1_machine.specs.Moves.{counter_move, quick_attack}
use Rattle.gen1_machine.specs.Progress.{Phase, choose, given, draw, stat_now}
use Rattle.gen1_machine.specs.Picks.{picked_move_in}

-- Quick Attack comes before other moves, and Counter after them.
abbrev pub rank : ℕ → ℕ
rank move = if move == quick_attack then 0 else if move == counter_move then 2 else 1

unfoldable pub toss : (Side → Phase) → ℕ → Phase
toss begins b = choose (λ _. nat_lt b 128) (begins One) (begins Two)

unfoldable pub in_order_of_speed : (Side → Phase) → Phase
in_order_of_speed begins =
    choose (λ p. nat_lt (stat_now Speed Two p) (stat_now Speed One p)) (begins One)
    (choose (λ p. nat_lt (stat_now Speed One p) (stat_now Speed Two p)) (begins Two) (draw (toss begins)))

unfoldable pub in_order_of_rank : ℕ → ℕ → (Side → Phase) → Phase
in_order_of_rank one two begins =
    choose (λ _. nat_lt one two) (begins One)
    (choose (λ _. nat_lt two one) (begins Two) (in_order_of_speed begins))

abbrev pub rank_in : Side → Field → ℕ
rank_in s f = rank (picked_move_in s f)

-- Runs the phase of the side that goes first.
unfoldable pub in_order : (Side → Phase) → Phase
in_order begins =
    given (λ p. rank_in One p.field) λ one. given (λ p. rank_in Two p.field) λ two. in_order_of_rank one two begins
