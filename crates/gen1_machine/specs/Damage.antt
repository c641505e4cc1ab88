-- Damage (docs/MECHANICS.md, "Damage numbers", "Damage formula", "Types", "Factors"): its numbers, its formula, the
-- types and the factor.
use Rattle.std.specs.Prelude.{Bool, List, None, Option, Some, [], count_by, false, if◌then◌else◌, max, min, nat_le, nat_lt, suc, true, zero, ℕ, ◌%◌, ◌*◌, ◌+◌, ◌/◌, ◌==◌, ◌||◌, ◌∷◌}
use Rattle.gen1_tables.specs.declared.types.Element.{Element}
use Rattle.gen1_tables.specs.declared.effect.Stat.{Stat}
use Rattle.gen1_tables.specs.declared.effect.Stat.TheVariants.{Attack, Defense, Special}
use Rattle.gen1_machine.specs.declared.side.Side.{Side}
use Rattle.gen1_tables.specs.Types.{same_type, is_special, rows_against, TypeRow}
use Rattle.gen1_machine.specs.Sides.{other}
use Rattle.gen1_machine.specs.Conditions.{ActiveConditions}
use Rattle.gen1_machine.specs.State.{active_in, conditions_in, member_in, Field}
use Rattle.gen1_machine.specs.CurrentStats.{unmodified, now_in}
use Rattle.gen1_tables.specs.Effects.{explodes}
use Rattle.gen1_machine.specs.Moves.{Move}
use Rattle.gen1_machine.specs.Progress.{Phase, ◌▸◌, choose, given, draw_until, set_last_damage, on_action, set_missed, fault, Progress}

-- The inputs of the formula.
pub record DamageNumbers : Type 0 where
  pub level : ℕ
  pub power : ℕ
  pub attack : ℕ
  pub defense : ℕ
  pub kind : Element
  pub user_first : Element
  pub user_second : Element
  pub foe_first : Element
  pub foe_second : Element
  pub halved : Bool  -- an explosion halves the defense

-- The numbers (docs/MECHANICS.md, "Damage numbers")

-- If one of the two numbers doesn't fit a byte, both are divided by 4.
abbrev pub quartered : ℕ → ℕ → ℕ → ℕ
quartered attack defense n = if nat_lt 255 (max attack defense) then n / 4 else n

-- The formula takes their low bytes. An attack of 0 becomes 1 first.
abbrev pub fitted_attack : ℕ → ℕ → ℕ
fitted_attack attack defense = max 1 (quartered attack defense attack) % 256

abbrev pub fitted_defense : ℕ → ℕ → ℕ
fitted_defense attack defense = quartered attack defense defense % 256

abbrev pub doubled_if : Bool → ℕ → ℕ
doubled_if doubles n = if doubles then 2 * n else n

abbrev pub attacking : Element → Stat
attacking t = if is_special t then Special else Attack

abbrev pub defending : Element → Stat
defending t = if is_special t then Special else Defense

abbrev pub is_screened : Element → ActiveConditions → Bool
is_screened t c = if is_special t then c.light_screen else c.reflect

abbrev pub numbers_from : Side → Bool → Move → ℕ → ℕ → Field → DamageNumbers
numbers_from s critical move attack defense f = record {
  level = doubled_if critical (member_in s f).level;
  power = move.power;
  attack = fitted_attack attack defense;
  defense = fitted_defense attack defense;
  kind = move.kind;
  user_first = (active_in s f).first_type;
  user_second = (active_in s f).second_type;
  foe_first = (active_in (other s) f).first_type;
  foe_second = (active_in (other s) f).second_type;
  halved = explodes move.effect;
}

-- A critical hit ignores stages, penalties and screens.
abbrev pub critical_numbers : Side → Move → Field → DamageNumbers
critical_numbers s move f =
    numbers_from s true move (unmodified (attacking move.kind) (member_in s f))
    (unmodified (defending move.kind) (member_in (other s) f)) f

abbrev pub plain_numbers : Side → Move → Field → DamageNumbers
plain_numbers s move f =
    numbers_from s false move (now_in (attacking move.kind) s f)
    (doubled_if (is_screened move.kind (conditions_in (other s) f)) (now_in (defending move.kind) (other s) f)) f

abbrev pub numbers_in : Side → Move → Bool → Field → DamageNumbers
numbers_in s move critical f = if critical then critical_numbers s move f else plain_numbers s move f

abbrev pub numbers : Side → Move → Progress → DamageNumbers
numbers s move p = numbers_in s move p.action.critical p.field

-- The formula (docs/MECHANICS.md, "Damage formula")

abbrev pub divided : ℕ → ℕ → ℕ → ℕ → Option ℕ
divided level power attack zero = None
divided level power attack (suc d) = Some (min 997 ((2 * level / 5 + 2) * power * attack / suc d / 50) + 2)

-- The damage before types. There is none where the divisor is 0.
abbrev pub before_types : DamageNumbers → Option ℕ
before_types n = divided n.level n.power n.attack (if n.halved then max 1 (n.defense / 2) else n.defense)

-- The types (docs/MECHANICS.md, "Types")

abbrev pub rows_for : DamageNumbers → List TypeRow
rows_for n = rows_against n.kind n.foe_first n.foe_second

-- The rows apply one by one. Each rounds down.
abbrev pub by_rows : List TypeRow → ℕ → ℕ
by_rows [] d = d
by_rows (row ∷ rows) d = by_rows rows (d * row.tenths / 10)

abbrev pub is_own_type : DamageNumbers → Bool
is_own_type n = same_type n.kind n.user_first || same_type n.kind n.user_second

-- A move of one of the user's types does half as much again. Then each row that applies has its effect.
abbrev pub type_steps : ℕ → DamageNumbers → ℕ
type_steps d n = by_rows (rows_for n) (if is_own_type n then d + d / 2 else d)

abbrev pub rows_of : ℕ → DamageNumbers → ℕ
rows_of tenths n = count_by (λ row. row.tenths == tenths) (rows_for n)

-- The factor (docs/MECHANICS.md, "Factors")

abbrev pub rotated_right_1 : ℕ → ℕ
rotated_right_1 b = b / 2 + b % 2 * 128

abbrev pub is_factor : ℕ → Bool
is_factor b = nat_le 217 (rotated_right_1 b)

abbrev pub times_factor : ℕ → ℕ → ℕ
times_factor factor d = d * factor / 255

unfoldable pub varied_by : ℕ → ℕ → Phase
varied_by d b = set_last_damage (times_factor (rotated_right_1 b) d)

-- Damage of 0 or 1 stays as it is, without a draw.
unfoldable pub vary : ℕ → Phase
vary d = choose (λ _. nat_le d 1) (set_last_damage d) (draw_until is_factor (varied_by d))

-- The whole

unfoldable pub set_through_types : Phase
set_through_types = on_action λ a. record a { through_types = true }

-- Damage of 0 counts as a miss.
unfoldable pub damage_from : DamageNumbers → Option ℕ → Phase
damage_from n None = fault 1
damage_from n (Some d) = set_through_types ▸ set_missed (type_steps d n == 0) ▸ vary (type_steps d n)

unfoldable pub roll_damage : Side → Move → Phase
roll_damage s move = given (numbers s move) λ n. damage_from n (before_types n)
