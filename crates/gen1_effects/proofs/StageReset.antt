-- Stages go back to the middle, one after another, and moves of the table shift a stage by one or two.
use Rattle.std.proofs.Common.{◌≡◌, ◌≤◌, ◌&&◌, ◌-◌, ◌∷◌}
use Rattle.gen1_layout.proofs.Words.{Active, Field, Side, arith, changed_active, refl, ℕ, Bool, IsBetween, List, [], ap, nat_le, nat_tests, suc, sym, true, zero, ◌∙◌}
use Rattle.gen1_machine.specs.declared.side.Side.TheVariants.{One, Two}
use Rattle.gen1_machine.specs.EarlyEffects.{with_levelled_stats}
use Rattle.gen1_machine.specs.Stages.{at_stage}
use Rattle.std.specs.Prelude.{slice_index_or}
use Rattle.gen1_tables.specs.declared.types.Element.TheVariants.{Normal}
use Rattle.gen1_tables.specs.declared.effect.Effect.{Effect}
use Rattle.gen1_tables.specs.declared.effect.Stat.{Stat}
use Rattle.gen1_tables.specs.Moves.{move_rows, move_row, MoveRow}
use Rattle.gen1_machine.specs.Moves.{move_at}
use Rattle.gen1_machine.proofs.Costs.{and-left, and-right}
use Rattle.gen1_tables.specs.declared.effect.Effect.TheVariants as effects

-- In the middle, a stat from 1 to 999 is as it is.
pub level-is : (v : ℕ) → 1 ≤ v → v ≤ 999 → at_stage 6 v ≡ v
level-is v low high = omega arith

abbrev pub level_attack : Active → Active
level_attack a = record a { stages = record a.stages { attack = 6 }; attack_penalties = 0 }

abbrev pub level_defense : Active → Active
level_defense a = record a { stages = record a.stages { defense = 6 } }

abbrev pub level_speed : Active → Active
level_speed a = record a { stages = record a.stages { speed = 6 }; speed_penalties = 0 }

abbrev pub level_special : Active → Active
level_special a = record a { stages = record a.stages { special = 6 } }

abbrev pub level_accuracy : Active → Active
level_accuracy a = record a { stages = record a.stages { accuracy = 6 } }

abbrev pub level_evasion : Active → Active
level_evasion a = record a { stages = record a.stages { evasion = 6 } }

-- Together they level the stats.
pub levelled : (s : Side) (f : Field)
    → changed_active s level_evasion (changed_active s level_accuracy (changed_active s level_special (changed_active s level_speed (changed_active s level_defense (changed_active s level_attack f)))))
    ≡ changed_active s with_levelled_stats f
unfolding changed_active with_levelled_stats
levelled One f = refl
levelled Two f = refl

-- The moves of the table that shift a stage shift it by one or two.

abbrev one_or_two : ℕ → Bool
one_or_two n = nat_le 1 n && nat_le n 2

abbrev shifts_well : Effect → Bool
shifts_well (effects.StatUp stat n) = one_or_two n
shifts_well (effects.StatDown stat n) = one_or_two n
shifts_well _ = true

abbrev all_shift : List MoveRow → Bool
all_shift [] = true
all_shift (row ∷ rows) = shifts_well row.effect && all_shift rows

rows-shift : all_shift move_rows ≡ true
unfolding move_rows
rows-shift = refl

at-shift : (rows : List MoveRow) (i : ℕ) (default : MoveRow) → all_shift rows ≡ true → shifts_well default.effect ≡ true
    → shifts_well (slice_index_or rows i default).effect ≡ true
at-shift [] i default e d = d
at-shift (row ∷ rows) zero default e d = and-left (shifts_well row.effect) (all_shift rows) e
at-shift (row ∷ rows) (suc i) default e d = at-shift rows i default (and-right (shifts_well row.effect) (all_shift rows) e) d

row-shifts : (n : ℕ) → shifts_well (move_row n).effect ≡ true
unfolding move_row
row-shifts n = at-shift move_rows (n - 1) (record { kind = Normal; power = 0; accuracy = 0; pp = 0; effect = effects.DamageOnly }) rows-shift refl

between : (n : ℕ) → one_or_two n ≡ true → IsBetween 1 2 n
between n e = (grind (arith, nat_tests), grind (arith, nat_tests))

pub rises-by : (id by : ℕ) (stat : Stat) → (move_at id).effect ≡ effects.StatUp stat by → IsBetween 1 2 by
rises-by id by stat e = between by (ap shifts_well (sym e) ∙ row-shifts id)

pub falls-by : (id by : ℕ) (stat : Stat) → (move_at id).effect ≡ effects.StatDown stat by → IsBetween 1 2 by
falls-by id by stat e = between by (ap shifts_well (sym e) ∙ row-shifts id)
