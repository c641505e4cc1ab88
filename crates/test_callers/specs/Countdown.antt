-- A countdown, which is given by the byte that it draws next.
use Rattle.std.specs.Prelude.{ℕ, ◌+◌, ◌%◌}
use Rattle.gen1_rolls.specs.Steady.{Generator}

-- The countdown after a draw.
abbrev pub one_down : ℕ → ℕ
one_down x = (x + 255) % 256

-- How it draws: any 1,000 draws in a row hold every byte.
abbrev pub countdown : Generator ℕ
countdown = record { byte = λ n. n; next = one_down; width = 1000 }
