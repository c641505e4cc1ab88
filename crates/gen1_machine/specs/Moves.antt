-- Moves by their number (docs/TABLES.md, "Moves"): their rows, and the few moves that a rule names.
use Rattle.std.specs.Prelude.{Bool, ℕ, ◌*◌, ◌/◌, ◌==◌, ◌||◌}
use Rattle.gen1_tables.specs.declared.types.Element.{Element}
use Rattle.gen1_tables.specs.declared.effect.Effect.{Effect}
use Rattle.gen1_tables.specs.Moves.{move_row, MoveRow}

-- A move: its number, and its row of the table.
pub record Move : Type 0 where
  pub number : ℕ
  pub kind : Element
  pub power : ℕ
  pub accuracy : ℕ  -- in percent
  pub effect : Effect

abbrev pub of_row : ℕ → MoveRow → Move
of_row n row = record { number = n; kind = row.kind; power = row.power; accuracy = row.accuracy; effect = row.effect }

abbrev pub move_at : ℕ → Move
move_at n = of_row n (move_row n)

abbrev pub accuracy_byte : Move → ℕ
accuracy_byte move = move.accuracy * 255 / 100

abbrev pub karate_chop : ℕ
karate_chop = 2

abbrev pub sonic_boom : ℕ
sonic_boom = 49

abbrev pub counter_move : ℕ
counter_move = 68

abbrev pub razor_leaf : ℕ
razor_leaf = 75

abbrev pub dragon_rage : ℕ
dragon_rage = 82

abbrev pub toxic : ℕ
toxic = 92

abbrev pub quick_attack : ℕ
quick_attack = 98

abbrev pub light_screen_move : ℕ
light_screen_move = 113

abbrev pub psywave_move : ℕ
psywave_move = 149

abbrev pub crabhammer : ℕ
crabhammer = 152

abbrev pub rest : ℕ
rest = 156

abbrev pub super_fang : ℕ
super_fang = 162

abbrev pub slash : ℕ
slash = 163

-- Moves with a high critical-hit chance.
abbrev pub is_often_critical : ℕ → Bool
is_often_critical move = move == karate_chop || move == razor_leaf || move == crabhammer || move == slash
