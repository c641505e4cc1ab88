-- The clauses of a battle (docs/MECHANICS.md, "Rules (sleep clause, freeze clause)").
use Rattle.std.specs.Prelude.{ℕ, ◌+◌, ◌*◌, ◌/◌, ◌%◌, ◌==◌, Bool, true, false}

pub record Rules : Type 0 where
  pub sleep_clause : Bool
  pub freeze_clause : Bool

abbrev pub no_rules : Rules
no_rules = record { sleep_clause = false; freeze_clause = false }

-- The rules for these bits. The lowest bit is the sleep clause, the next is the freeze clause.
abbrev pub rules_of : ℕ → Rules
rules_of bits = record { sleep_clause = bits % 2 == 1; freeze_clause = bits / 2 % 2 == 1 }

abbrev pub bit_of : Bool → ℕ
bit_of false = 0
bit_of true = 1

abbrev pub bits_of_rules : Rules → ℕ
bits_of_rules rules = bit_of rules.sleep_clause + 2 * bit_of rules.freeze_clause
