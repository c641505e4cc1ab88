-- How the code's numbers, factors and kinds of damage of a hit become those of the machine, which names each of the
-- four types (docs/MECHANICS.md, "Damage numbers").
use Rattle.std.specs.Prelude.{List, [], ◌∷◌, length, refl, slice_index_or, ◌≡◌, Option, if◌then◌else◌, map, min, nat_le, option_map, ℕ, ◌≤◌, Bool, false, nat_lt, not, true, ◌&&◌}
use Rattle.std.proofs.Common.{sym}
use Rattle.std.proofs.lemmas.List.FromFn.{fill_by_all}
use Rattle.gen1_tables.specs.declared.types.Element.{Element}
use Rattle.gen1_tables.specs.declared.types.Element.TheVariants.{Normal}
use Rattle.gen1_machine.specs.Damage.{DamageNumbers, before_types, times_factor, type_steps, vary}
use Rattle.gen1_hits.specs.declared.damage_formula.Numbers.TheInside.{Inside}
use Rattle.std.specs.List.{range_with_len}
use Rattle.gen1_rolls.specs.Draws.{Drawing, Ref, Since, Source, StandsIn}
use Rattle.gen1_machine.specs.Progress.{Progress, set_last_damage}
use Rattle.gen1_tables.specs.declared.effect.Effect.{Effect}
use Rattle.gen1_tables.specs.declared.effect.Effect.TheVariants.{Counter, FixedDamage, OneHitKnockOut, SuperFang}
use Rattle.gen1_machine.specs.Moves.{Move}

abbrev pub numbers_of : Inside → DamageNumbers
numbers_of n = record {
  level = n.level;
  power = n.power;
  attack = n.attack;
  defense = n.defense;
  kind = n.kind;
  user_first = slice_index_or n.own 0 Normal;
  user_second = slice_index_or n.own 1 Normal;
  foe_first = slice_index_or n.foe 0 Normal;
  foe_second = slice_index_or n.foe 1 Normal;
  halved = n.halved;
}

-- From the machine's numbers to the code's.
abbrev pub parts_of : DamageNumbers → Inside
parts_of n = record {
  level = n.level;
  power = n.power;
  attack = n.attack;
  defense = n.defense;
  kind = n.kind;
  own = n.user_first ∷ n.user_second ∷ [];
  foe = n.foe_first ∷ n.foe_second ∷ [];
  halved = n.halved;
}

-- A list of two is its two elements.
two : (xs : List Element) → length xs ≡ 2 → slice_index_or xs 0 Normal ∷ slice_index_or xs 1 Normal ∷ [] ≡ xs
two xs long = sym (fill_by_all (λ k. slice_index_or xs k Normal) xs 2 Normal long (λ k lt. refl))

pub parts_of-numbers_of : (n : Inside) → length n.own ≡ 2 → length n.foe ≡ 2 → parts_of (numbers_of n) ≡ n
parts_of-numbers_of n own foe i = record n { own = two n.own own i; foe = two n.foe foe i }

-- How the code's factors relate to those of the machine (docs/MECHANICS.md, "Factors"): a draw of one, and the list
-- of all.

-- The machine's phase draws up to where the generator now is, and sets the last damage to the result.
pub record VariesFrom {A : Type 0} (d : Drawing A) (source : Source A) (n damage result : ℕ) (new : A) : Type 0 where
  pub drawn : ℕ
  pub stands : StandsIn d source drawn new
  pub sets : (p : Progress) → p.stream ≡ source.stream → p.drawn ≡ n → vary damage p ≡ set_last_damage result (record p { drawn = drawn })

-- This holds for any place of the generator.
abbrev pub Varies : {A : Type 0} → Drawing A → Ref A → ℕ → ℕ → Type 0
Varies d random damage result =
    (since : Since d random.exit.now) (n : ℕ) → StandsIn d since.source n random.entry.now
    → VariesFrom d since.source n damage result random.exit.now

-- `VariesFrom` for a caller that doesn't distinguish damages of at least a limit. The machine's last damage is the result,
-- or both are at least the limit.
pub record VariesAlike {A : Type 0} (d : Drawing A) (source : Source A) (n limit damage result : ℕ) (new : A) : Type 0 where
  pub drawn : ℕ
  pub stands : StandsIn d source drawn new
  pub dealt : ℕ
  pub sets : (p : Progress) → p.stream ≡ source.stream → p.drawn ≡ n → vary damage p ≡ set_last_damage dealt (record p { drawn = drawn })
  pub alike : min dealt limit ≡ min result limit
  pub most : dealt ≤ damage

abbrev pub VariesUpTo : {A : Type 0} → Drawing A → Ref A → ℕ → ℕ → ℕ → Type 0
VariesUpTo d random limit damage result =
    (since : Since d random.exit.now) (n : ℕ) → StandsIn d since.source n random.entry.now
    → VariesAlike d since.source n limit damage result random.exit.now

-- Damage times a factor. 0 and 1 stay as they are.
abbrev pub varied : ℕ → ℕ → ℕ
varied factor damage = if nat_le damage 1 then damage else times_factor factor damage

-- The damage of a hit at each factor from 217 to 255. There is none where the divisor is 0.
abbrev pub damages : DamageNumbers → Option (List ℕ)
damages n = option_map (λ damage. map (λ factor. varied factor (type_steps damage n)) (range_with_len 217 39)) (before_types n)

-- Which moves have the usual damage (docs/MECHANICS.md, "Fixed damage and one-hit moves", "Counter").

abbrev pub has_own_damage : Effect → Bool
has_own_damage Counter = true
has_own_damage FixedDamage = true
has_own_damage OneHitKnockOut = true
has_own_damage SuperFang = true
has_own_damage _ = false

-- Whether a move has power, and no special damage rule.
abbrev pub has_usual_damage : Move → Bool
has_usual_damage move = nat_lt 0 move.power && not (has_own_damage move.effect)
