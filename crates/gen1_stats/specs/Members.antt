-- A member of a team, at the beginning of a battle and during it (docs/MECHANICS.md, "Stats").
use Rattle.std.specs.Prelude.{All, AllPairs, Bool, List, [], false, length, nat_lt, true, ℕ, ◌||◌, ◌≡◌, ◌∷◌, ◌≢◌, ◌≤◌}
use Rattle.gen1_tables.specs.declared.effect.Effect.{Effect}
use Rattle.gen1_tables.specs.declared.effect.Effect.TheVariants.{LeftOut}
use Rattle.gen1_tables.specs.Moves.{move_row, struggle}
use Rattle.gen1_stats.specs.declared.member.KnownMove.{KnownMove}
use Rattle.gen1_stats.specs.declared.member.Status.{Status}
use Rattle.gen1_stats.specs.declared.member.Status.TheVariants.{Asleep, Frozen, Healthy, Paralysed}
use Rattle.gen1_stats.specs.declared.member.Member.TheInside.{Inside}

pub record Member : Type 0 where
  pub species : ℕ
  pub level : ℕ
  pub max : ℕ  -- its HP while it is unhurt
  pub hp : ℕ
  pub attack : ℕ
  pub defense : ℕ
  pub speed : ℕ
  pub special : ℕ
  pub status : Status
  pub moves : List KnownMove

abbrev pub leaves_out : Effect → Bool
leaves_out LeftOut = true
leaves_out _ = false

-- Whether the engine leaves a move out.
abbrev pub is_left_out : ℕ → Bool
is_left_out move = leaves_out (move_row move).effect

abbrev pub IsBetween : ℕ → ℕ → ℕ → Type 0
IsBetween low high n = (low ≤ n) × (n ≤ high)

-- A move that a member may know. It is neither one that the engine leaves out nor Struggle.
pub record IsKnown (known : KnownMove) : Type 0 where
  pub in_engine : is_left_out known.id ≡ false
  pub not_struggle : known.id ≢ struggle
  pub pp : known.pp ≤ 63

-- The ranges of a member's numbers and moves, for a whole battle.
pub record IsMember (m : Member) : Type 0 where
  pub level : IsBetween 1 100 m.level
  pub max : IsBetween 11 999 m.max
  pub hp : m.hp ≤ m.max
  pub attack : IsBetween 5 999 m.attack
  pub defense : IsBetween 5 999 m.defense
  pub speed : IsBetween 5 999 m.speed
  pub special : IsBetween 5 999 m.special
  pub slots : IsBetween 1 4 (length m.moves)
  pub known : All IsKnown m.moves
  pub distinct : AllPairs (λ a b. a.id ≢ b.id) m.moves

-- A fresh member, at the beginning of a battle: it is from the tables, unhurt and healthy.
pub record IsFresh (m : Member) : Type 0 where
  pub member : IsMember m
  pub species : IsBetween 1 151 m.species
  pub moves : All (λ (k : KnownMove). IsBetween 1 165 k.id) m.moves
  pub unhurt : m.hp ≡ m.max
  pub healthy : m.status ≡ Healthy

-- A list of members that is a team at the beginning of a battle.
pub record IsTeam (team : List Member) : Type 0 where
  pub size : IsBetween 1 6 (length team)
  pub members : All IsFresh team

-- The least possible member. It fills the unused places of a list of members.
abbrev pub least_member : Member
least_member = record {
  species = 1;
  level = 1;
  max = 11;
  hp = 11;
  attack = 5;
  defense = 5;
  speed = 5;
  special = 5;
  status = Healthy;
  moves = record { id = 1; pp = 35 } ∷ [];
}

-- The member at a place that holds none.
abbrev pub nobody : Member
nobody = record { species = 0; level = 0; max = 0; hp = 0; attack = 0; defense = 0; speed = 0; special = 0; status = Healthy; moves = [] }

-- The move in a slot that holds none.
abbrev pub nothing_known : KnownMove
nothing_known = record { id = 0; pp = 0 }

abbrev pub is_living : Member → Bool
is_living m = nat_lt 0 m.hp

abbrev pub is_healthy : Status → Bool
is_healthy Healthy = true
is_healthy _ = false

abbrev pub is_asleep : Status → Bool
is_asleep (Asleep turns marked) = true
is_asleep _ = false

-- Whether the sleep clause counts this sleep.
abbrev pub is_marked : Status → Bool
is_marked (Asleep turns marked) = marked
is_marked _ = false

abbrev pub is_frozen : Status → Bool
is_frozen Frozen = true
is_frozen _ = false

abbrev pub sleeps_or_freezes : Status → Bool
sleeps_or_freezes status = is_asleep status || is_frozen status

abbrev pub is_paralysed : Status → Bool
is_paralysed Paralysed = true
is_paralysed _ = false

-- The machine's member for a `Member` of the code (docs/MECHANICS.md, "Teams"): a member at the beginning of a
-- battle, unhurt and healthy.

abbrev pub begun : Inside → Member
begun m = record {
  species = m.species;
  level = m.level;
  max = m.max_hp;
  hp = m.max_hp;
  attack = m.attack;
  defense = m.defense;
  speed = m.speed;
  special = m.special;
  status = Healthy;
  moves = m.moves.items;
}

abbrev pub IsBegun : Inside → Type 0
IsBegun m = IsFresh (begun m)
