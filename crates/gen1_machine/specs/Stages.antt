-- A stat at its stage, after its penalties. Stages are numbered 0 to 12, and 6 is the middle.
use Rattle.std.specs.Prelude.{ℕ, zero, suc, ◌+◌, ◌-◌, ◌*◌, ◌/◌, min, max, ℤ, pos, negsuc, [], ◌∷◌, slice_index}
use Rattle.gen1_tables.specs.declared.effect.Stat.{Stat}
use Rattle.gen1_tables.specs.declared.effect.Stat.TheVariants.{Attack, Speed}

-- The number of a stage from -6 to 6. A stage past an end counts as that end (docs/MECHANICS.md, "Stages").
abbrev pub stage_number : ℤ → ℕ
stage_number (pos n) = min 12 (6 + n)
stage_number (negsuc n) = 5 - n

-- The percentage of a stat at a stage.
abbrev pub percent_at : ℕ → ℕ
percent_at stage = slice_index (25 ∷ 28 ∷ 33 ∷ 40 ∷ 50 ∷ 66 ∷ 100 ∷ 150 ∷ 200 ∷ 250 ∷ 300 ∷ 350 ∷ 400 ∷ []) stage

abbrev pub at_stage : ℕ → ℕ → ℕ
at_stage stage value = max 1 (min 999 (value * percent_at stage / 100))

-- The stat divided this many times. Each division gives at least 1.
abbrev pub divided_times : ℕ → ℕ → ℕ → ℕ
divided_times divisor zero value = value
divided_times divisor (suc k) value = max 1 (divided_times divisor k value / divisor)

-- A burn halves Attack, and paralysis quarters Speed. Other stats have no penalty (docs/MECHANICS.md, "Penalties").
abbrev pub after_penalties : Stat → ℕ → ℕ → ℕ
after_penalties Attack penalties value = divided_times 2 penalties value
after_penalties Speed penalties value = divided_times 4 penalties value
after_penalties _ penalties value = value

-- An unmodified stat at its stage, after this many penalties since it was last recomputed.
abbrev pub now_at : ℕ → ℕ → Stat → ℕ → ℕ
now_at unmodified stage stat penalties = after_penalties stat penalties (at_stage stage unmodified)
