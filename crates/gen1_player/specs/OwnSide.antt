-- What a side is shown of itself after each update (docs/MECHANICS.md, "What a side is shown of itself").
use Rattle.std.specs.Prelude.{Bool, List, Option, is_some, map, ℕ, All, None, [], false, if◌then◌else◌, length, replicate, slice_index_or, ◌-◌, ◌==◌, ◌≡◌, ◌≤◌, ◌∷◌}
use Rattle.gen1_tables.specs.declared.types.Element.{Element}
use Rattle.gen1_stats.specs.declared.member.KnownMove.{KnownMove}
use Rattle.gen1_stats.specs.Members.{Member}
use Rattle.gen1_machine.specs.declared.side.Side.{Side}
use Rattle.gen1_machine.specs.declared.event.Kind.{Kind}
use Rattle.gen1_machine.specs.declared.terms.Outcome.{Outcome}
use Rattle.gen1_machine.specs.declared.terms.Request.{Request}
use Rattle.gen1_machine.specs.Sides.{other}
use Rattle.gen1_machine.specs.Conditions.{ActiveConditions}
use Rattle.gen1_machine.specs.Layout.{disabled_slot, number_of_bits, outcome_byte, request_byte}
use Rattle.gen1_machine.specs.State.{Active, Field, Stages, active_in, kind_of, member_in, party, request_of, underway_in, known_in}
use Rattle.gen1_layout.specs.Shows.{own_stats_of, stats_of}
use Rattle.gen1_tables.specs.Types.{number_of}
use Rattle.gen1_machine.specs.LogBytes.{kind_or_0}
use Rattle.gen1_machine.specs.Rules.{bit_of}
use Rattle.gen1_player.specs.declared.own.Out.{Out}
use Rattle.gen1_player.specs.declared.own.OwnMember.{OwnMember as PlainMember}
use Rattle.gen1_player.specs.declared.own.OwnSide.{OwnSide as PlainSide}

-- A member. It shows that it sleeps, and not for how many turns.
pub record OwnMember : Type 0 where
  pub species : ℕ
  pub level : ℕ
  pub hp : ℕ
  pub max : ℕ
  pub kind : Option Kind
  pub stats : List ℕ  -- its own Attack, Defense, Speed and Special
  pub moves : List KnownMove  -- with their PP

-- Which conditions the active member has, without their counts.
pub record OwnConditions : Type 0 where
  pub bide : Bool
  pub thrash : Bool
  pub trapping : Bool
  pub charging : Bool
  pub invulnerable : Bool
  pub confused : Bool
  pub mist : Bool
  pub focus_energy : Bool
  pub substitute : Bool
  pub recharge : Bool
  pub rage : Bool
  pub seeded : Bool
  pub bad_poison : Bool
  pub light_screen : Bool
  pub reflect : Bool
  pub disabled : Bool

-- The active member. Its place is 0 before the first update.
pub record OwnActive : Type 0 where
  pub place : ℕ
  pub first_type : Element
  pub second_type : Element
  pub stats : List ℕ  -- Attack, Defense, Speed and Special as they are now, with stages and penalties
  pub stages : Stages
  pub conditions : OwnConditions
  pub disabled_slot : ℕ  -- 0 if no slot is disabled

pub record OwnSide : Type 0 where
  pub members : List OwnMember
  pub active : OwnActive
  pub held : Bool  -- whether the foe's trapping move holds the active member
  pub turn : ℕ
  pub request : Request
  pub outcome : Outcome

abbrev pub own_member : Member → OwnMember
own_member m = record {
  species = m.species;
  level = m.level;
  hp = m.hp;
  max = m.max;
  kind = kind_of m.status;
  stats = own_stats_of m;
  moves = m.moves;
}

abbrev pub own_conditions : ActiveConditions → OwnConditions
own_conditions c = record {
  bide = is_some c.underway.bide;
  thrash = is_some c.underway.thrash;
  trapping = is_some c.underway.trapping;
  charging = c.underway.charging;
  invulnerable = c.invulnerable;
  confused = is_some c.confused;
  mist = c.mist;
  focus_energy = c.focus_energy;
  substitute = is_some c.substitute;
  recharge = c.underway.recharge;
  rage = c.underway.rage;
  seeded = c.seeded;
  bad_poison = is_some c.bad_poison;
  light_screen = c.light_screen;
  reflect = c.reflect;
  disabled = is_some c.disabled;
}

abbrev pub own_active : Member → Active → OwnActive
own_active m a = record {
  place = a.place;
  first_type = a.first_type;
  second_type = a.second_type;
  stats = stats_of m a;
  stages = a.stages;
  conditions = own_conditions a.conditions;
  disabled_slot = disabled_slot a.conditions.disabled;
}

-- Of the foe it depends on one thing: whether its trapping is on.
abbrev pub own_side : Side → Field → OwnSide
own_side s f = record {
  members = map own_member (party s f).members;
  active = own_active (member_in s f) (active_in s f);
  held = is_some (underway_in (other s) f).trapping;
  turn = f.turn;
  request = request_of s f;
  outcome = f.outcome;
}

-- What a side is shown of itself, as a plain struct (include/gen1.h, "players").

-- Zeros in the slots after the last move.
abbrev pub plain_member : OwnMember → PlainMember
plain_member m = record {
  species = m.species;
  level = m.level;
  status = kind_or_0 m.kind;
  unused = 0;
  moves = (known_in 1 m.moves).id ∷ (known_in 2 m.moves).id ∷ (known_in 3 m.moves).id ∷ (known_in 4 m.moves).id ∷ [];
  pp = (known_in 1 m.moves).pp ∷ (known_in 2 m.moves).pp ∷ (known_in 3 m.moves).pp ∷ (known_in 4 m.moves).pp ∷ [];
  hp = m.hp;
  max_hp = m.max;
  stats = m.stats;
}

-- From the lowest bit up, as in the bytes of a battle. The bit of Flinch is always 0.
abbrev pub shown_bits : OwnConditions → List Bool
shown_bits c =
    c.bide ∷ c.thrash ∷ c.trapping ∷ false ∷ c.charging ∷ c.invulnerable ∷ c.confused ∷ c.mist ∷ c.focus_energy ∷ c.substitute
    ∷ c.recharge ∷ c.rage ∷ c.seeded ∷ c.bad_poison ∷ c.light_screen ∷ c.reflect ∷ c.disabled ∷ []

abbrev pub plain_out : OwnActive → Out
plain_out a = record {
  conditions = number_of_bits (shown_bits a.conditions);
  stats = a.stats;
  place = a.place;
  types = number_of a.first_type ∷ number_of a.second_type ∷ [];
  stages = a.stages.attack ∷ a.stages.defense ∷ a.stages.speed ∷ a.stages.special ∷ a.stages.accuracy ∷ a.stages.evasion ∷ [];
  disabled_slot = a.disabled_slot;
}

abbrev pub nobody_out : Out
nobody_out = record { conditions = 0; stats = replicate 4 0; place = 0; types = replicate 2 0; stages = replicate 6 0; disabled_slot = 0 }

-- Zeros before the first update.
abbrev pub plain_active : OwnActive → Out
plain_active a = if a.place == 0 then nobody_out else plain_out a

abbrev pub no_member : OwnMember
no_member = record { species = 0; level = 0; hp = 0; max = 0; kind = None; stats = replicate 4 0; moves = [] }

-- The member at a place, counted from 1.
abbrev pub own_at : ℕ → OwnSide → OwnMember
own_at place o = slice_index_or o.members (place - 1) no_member

-- Of any bytes, valid or not: kinds, flags and codes of the lists, the unused byte 0, and at most six members.
abbrev pub IsListedMember : PlainMember → Type 0
IsListedMember m = (m.status ≤ 5) × (m.unused ≡ 0)

pub record IsListed (o : PlainSide) : Type 0 where
  pub members : All IsListedMember o.members
  pub held : o.held ≤ 1
  pub request : o.request ≤ 2
  pub outcome : o.outcome ≤ 5
  pub count : o.count ≤ 6

-- 1 for a member, 0 for a place without one.
abbrev pub is_present : Member → ℕ
is_present m = if m.species == 0 then 0 else 1

-- Zeros in the places after the last member.
abbrev pub plain_side : OwnSide → PlainSide
plain_side o = record {
  members =
      plain_member (own_at 1 o) ∷ plain_member (own_at 2 o) ∷ plain_member (own_at 3 o) ∷ plain_member (own_at 4 o)
      ∷ plain_member (own_at 5 o) ∷ plain_member (own_at 6 o) ∷ [];
  conditions = (plain_active o.active).conditions;
  stats = (plain_active o.active).stats;
  turn = o.turn;
  place = (plain_active o.active).place;
  types = (plain_active o.active).types;
  stages = (plain_active o.active).stages;
  disabled_slot = (plain_active o.active).disabled_slot;
  held = bit_of o.held;
  request = request_byte o.request;
  outcome = outcome_byte o.outcome;
  count = length o.members;
}
