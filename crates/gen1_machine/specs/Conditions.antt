-- The conditions of a member that is out (docs/MECHANICS.md, "Conditions"). Each condition has its own numbers, and
-- each change has its own function.
use Rattle.std.specs.Prelude.{Bool, None, Option, Some, false, min, true, ℕ, ◌%◌, ◌+◌, ◌-◌}
use Rattle.gen1_machine.specs.declared.side.DisabledSlot.{DisabledSlot}

-- Bide: how many more turns it stores, and the energy stored so far.
pub record Storing : Type 0 where
  pub turns : ℕ
  pub energy : ℕ

-- The conditions that belong to the current move. At most one of them is on.
pub record Underway : Type 0 where
  pub bide : Option Storing
  pub thrash : Option ℕ  -- turns left
  pub trapping : Option ℕ  -- turns left
  pub charging : Bool
  pub recharge : Bool
  pub rage : Bool

pub record ActiveConditions : Type 0 where
  pub underway : Underway
  pub flinch : Bool
  pub invulnerable : Bool
  pub confused : Option ℕ  -- turns left
  pub mist : Bool
  pub focus_energy : Bool
  pub substitute : Option ℕ  -- its HP
  pub seeded : Bool
  pub bad_poison : Option ℕ  -- the counter that Toxic begins
  pub light_screen : Bool
  pub reflect : Bool
  pub disabled : Option DisabledSlot

abbrev pub nothing_underway : Underway
nothing_underway = record { bide = None; thrash = None; trapping = None; charging = false; recharge = false; rage = false }

abbrev pub no_conditions : ActiveConditions
no_conditions = record {
  underway = nothing_underway;
  flinch = false;
  invulnerable = false;
  confused = None;
  mist = false;
  focus_energy = false;
  substitute = None;
  seeded = false;
  bad_poison = None;
  light_screen = false;
  reflect = false;
  disabled = None;
}

-- The changes. Each is a function of the conditions that it overwrites.

-- A count goes down by one, but not below 0.
abbrev pub one_less : Option ℕ → Option ℕ
one_less None = None
one_less (Some n) = Some (n - 1)

-- Bide

unfoldable pub with_bide : ℕ → ActiveConditions → ActiveConditions
with_bide turns c = record c { underway = record c.underway { bide = Some (record { turns = turns; energy = 0 }) } }

-- The energy is a number of 16 bits, and wraps to 0.
abbrev pub energy_with : ℕ → Storing → ℕ
energy_with damage b = (b.energy + damage) % 65536

abbrev pub stored : ℕ → Option Storing → Option Storing
stored damage None = None
stored damage (Some b) = Some (record { turns = b.turns - 1; energy = energy_with damage b })

unfoldable pub with_bide_storing : ℕ → ActiveConditions → ActiveConditions
with_bide_storing damage c = record c { underway = record c.underway { bide = stored damage c.underway.bide } }

unfoldable pub without_bide : ActiveConditions → ActiveConditions
without_bide c = record c { underway = record c.underway { bide = None } }

-- Thrashing

unfoldable pub with_thrash : ℕ → ActiveConditions → ActiveConditions
with_thrash turns c = record c { underway = record c.underway { thrash = Some turns } }

unfoldable pub with_thrash_one_less : ActiveConditions → ActiveConditions
with_thrash_one_less c = record c { underway = record c.underway { thrash = one_less c.underway.thrash } }

unfoldable pub without_thrash : ActiveConditions → ActiveConditions
without_thrash c = record c { underway = record c.underway { thrash = None } }

-- Trapping

unfoldable pub with_trapping : ℕ → ActiveConditions → ActiveConditions
with_trapping turns c = record c { underway = record c.underway { trapping = Some turns } }

unfoldable pub with_trapping_one_less : ActiveConditions → ActiveConditions
with_trapping_one_less c = record c { underway = record c.underway { trapping = one_less c.underway.trapping } }

unfoldable pub without_trapping : ActiveConditions → ActiveConditions
without_trapping c = record c { underway = record c.underway { trapping = None } }

-- Charging, and the flight or the hole that hides its user until it strikes

unfoldable pub with_charging : ActiveConditions → ActiveConditions
with_charging c = record c { underway = record c.underway { charging = true } }

unfoldable pub without_charging : ActiveConditions → ActiveConditions
without_charging c = record c { underway = record c.underway { charging = false } }

unfoldable pub with_invulnerability : ActiveConditions → ActiveConditions
with_invulnerability c = record c { invulnerable = true }

unfoldable pub without_invulnerability : ActiveConditions → ActiveConditions
without_invulnerability c = record c { invulnerable = false }

-- Recharging and rage

unfoldable pub with_recharge : ActiveConditions → ActiveConditions
with_recharge c = record c { underway = record c.underway { recharge = true } }

unfoldable pub without_recharge : ActiveConditions → ActiveConditions
without_recharge c = record c { underway = record c.underway { recharge = false } }

unfoldable pub with_rage : ActiveConditions → ActiveConditions
with_rage c = record c { underway = record c.underway { rage = true } }

-- Full paralysis and a hit on itself end Bide, thrashing, trapping and charging. They don't end recharging or rage.
unfoldable pub broken_off : ActiveConditions → ActiveConditions
broken_off c = record c { underway = record c.underway { bide = None; thrash = None; trapping = None; charging = false } }

-- Flinching

unfoldable pub with_flinch : ActiveConditions → ActiveConditions
with_flinch c = record c { flinch = true }

unfoldable pub without_flinch : ActiveConditions → ActiveConditions
without_flinch c = record c { flinch = false }

-- Confusion

unfoldable pub with_confusion : ℕ → ActiveConditions → ActiveConditions
with_confusion turns c = record c { confused = Some turns }

unfoldable pub with_confusion_one_less : ActiveConditions → ActiveConditions
with_confusion_one_less c = record c { confused = one_less c.confused }

unfoldable pub without_confusion : ActiveConditions → ActiveConditions
without_confusion c = record c { confused = None }

-- Mist, Focus Energy and the screens

unfoldable pub with_mist : ActiveConditions → ActiveConditions
with_mist c = record c { mist = true }

unfoldable pub with_focus_energy : ActiveConditions → ActiveConditions
with_focus_energy c = record c { focus_energy = true }

unfoldable pub with_light_screen : ActiveConditions → ActiveConditions
with_light_screen c = record c { light_screen = true }

unfoldable pub with_reflect : ActiveConditions → ActiveConditions
with_reflect c = record c { reflect = true }

-- Substitute

unfoldable pub with_substitute : ℕ → ActiveConditions → ActiveConditions
with_substitute hp c = record c { substitute = Some hp }

abbrev pub less_by : ℕ → Option ℕ → Option ℕ
less_by damage None = None
less_by damage (Some hp) = Some (hp - damage)

unfoldable pub with_substitute_hurt : ℕ → ActiveConditions → ActiveConditions
with_substitute_hurt damage c = record c { substitute = less_by damage c.substitute }

unfoldable pub without_substitute : ActiveConditions → ActiveConditions
without_substitute c = record c { substitute = None }

-- Leech Seed and bad poison

unfoldable pub with_seed : ActiveConditions → ActiveConditions
with_seed c = record c { seeded = true }

unfoldable pub without_seed : ActiveConditions → ActiveConditions
without_seed c = record c { seeded = false }

unfoldable pub with_bad_poison : ActiveConditions → ActiveConditions
with_bad_poison c = record c { bad_poison = Some 0 }

abbrev pub one_more : Option ℕ → Option ℕ
one_more None = None
one_more (Some n) = Some (min 64 (n + 1))

unfoldable pub with_worse_poison : ActiveConditions → ActiveConditions
with_worse_poison c = record c { bad_poison = one_more c.bad_poison }

-- Disable

unfoldable pub with_disabled : ℕ → ℕ → ActiveConditions → ActiveConditions
with_disabled slot turns c = record c { disabled = Some (record { slot = slot; turns = turns }) }

abbrev pub one_turn_less : Option DisabledSlot → Option DisabledSlot
one_turn_less None = None
one_turn_less (Some d) = Some (record { slot = d.slot; turns = d.turns - 1 })

unfoldable pub with_disable_one_less : ActiveConditions → ActiveConditions
with_disable_one_less c = record c { disabled = one_turn_less c.disabled }

unfoldable pub without_disable : ActiveConditions → ActiveConditions
without_disable c = record c { disabled = None }

-- Haze

unfoldable pub after_haze : ActiveConditions → ActiveConditions
after_haze c = record c {
  confused = None;
  mist = false;
  focus_energy = false;
  seeded = false;
  bad_poison = None;
  light_screen = false;
  reflect = false;
  disabled = None;
}
