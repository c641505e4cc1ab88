-- A status by its kind, the statuses that take HP, and those that the clauses count (docs/MECHANICS.md, "Penalties",
-- "Residual damage", "Rules (sleep clause, freeze clause)").
use Rattle.std.specs.Prelude.{false, ℕ, Bool, true}
use Rattle.gen1_stats.specs.declared.member.Status.{Status}
use Rattle.gen1_stats.specs.declared.member.Status.TheVariants.{Asleep, Burned, Frozen, Paralysed, Poisoned}
use Rattle.gen1_stats.specs.Members.{IsBetween, is_frozen, is_marked}
use Rattle.gen1_machine.specs.declared.event.Kind.{Kind}
use Rattle.gen1_status.specs.declared.conditions.Clause.{Clause}
use Rattle.gen1_status.specs.declared.conditions.Clause.TheVariants.{Freeze, Sleep}
use Rattle.gen1_machine.specs.declared.event.Kind.TheVariants as kinds

-- Sleep lasts this many turns and has no mark. The other kinds have no count.
abbrev pub status_of_kind : Kind → ℕ → Status
status_of_kind kinds.Sleep count = Asleep count false
status_of_kind kinds.Poison count = Poisoned
status_of_kind kinds.Burn count = Burned
status_of_kind kinds.Freeze count = Frozen
status_of_kind kinds.Paralysis count = Paralysed

-- Sleep lasts 1 to 7 turns.
abbrev pub IsCountOf : Kind → ℕ → Type 0
IsCountOf kinds.Sleep count = IsBetween 1 7 count
IsCountOf _ count = Unit {0}

-- What the clauses count among living members (docs/MECHANICS.md, "Rules (sleep clause, freeze clause)").

abbrev pub counts : Clause → Status → Bool
counts Sleep status = is_marked status
counts Freeze status = is_frozen status

-- The statuses that take HP (docs/MECHANICS.md, "Residual damage").

abbrev pub takes_hp : Status → Bool
takes_hp Poisoned = true
takes_hp Burned = true
takes_hp _ = false
