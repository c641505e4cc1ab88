-- The plain state of a battle (docs/LAYOUT.md, "Plain states").
use Rattle.std.specs.Prelude.{All, List, [], if◌then◌else◌, replicate, slice_index, unwrap_or, ℕ, ◌==◌, ◌≡◌, ◌≤◌, ◌∷◌}
use Rattle.gen1_tables.specs.declared.effect.Stat.TheVariants.{Attack, Defense, Special, Speed}
use Rattle.gen1_tables.specs.Types.{number_of}
use Rattle.gen1_rolls.specs.Steady.{ring_at}
use Rattle.gen1_stats.specs.Members.{Member, is_marked}
use Rattle.gen1_stats.specs.declared.member.Status.{Status}
use Rattle.gen1_stats.specs.declared.member.Status.TheVariants.{Asleep}
use Rattle.gen1_machine.specs.declared.side.Side.{Side}
use Rattle.gen1_machine.specs.declared.side.Side.TheVariants.{One, Two}
use Rattle.gen1_machine.specs.CurrentStats.{now}
use Rattle.gen1_machine.specs.Layout.{conditions_number, disabled_slot, disabled_turns, energy_of, outcome_byte, request_byte, turns_of, used_byte}
use Rattle.gen1_machine.specs.LogBytes.{kind_or_0}
use Rattle.gen1_machine.specs.Rules.{bit_of, bits_of_rules}
use Rattle.gen1_machine.specs.State.{Active, Field, State, active_in, kind_of, known_in, member_at, member_in, party}
use Rattle.gen1_layout.specs.Shows.{own_stats_of}
use Rattle.gen1_states.specs.declared.plain.ActiveState.{ActiveState}
use Rattle.gen1_states.specs.declared.plain.BattleState.{BattleState}
use Rattle.gen1_states.specs.declared.plain.MemberState.{MemberState}
use Rattle.gen1_states.specs.declared.plain.SideState.{SideState}

-- a member

abbrev pub sleep_of : Status → ℕ
sleep_of (Asleep turns marked) = turns
sleep_of _ = 0

abbrev pub member_state : Member → MemberState
member_state m = record {
  species = m.species;
  level = m.level;
  status = kind_or_0 (kind_of m.status);
  sleep = sleep_of m.status;
  marked = bit_of (is_marked m.status);
  moves = (known_in 1 m.moves).id ∷ (known_in 2 m.moves).id ∷ (known_in 3 m.moves).id ∷ (known_in 4 m.moves).id ∷ [];
  pp = (known_in 1 m.moves).pp ∷ (known_in 2 m.moves).pp ∷ (known_in 3 m.moves).pp ∷ (known_in 4 m.moves).pp ∷ [];
  hp = m.hp;
  max_hp = m.max;
  stats = own_stats_of m;
}

-- the active member

abbrev pub active_state : Member → Active → ActiveState
active_state m a = record {
  conditions = conditions_number a.conditions;
  stats = now Attack m a ∷ now Defense m a ∷ now Speed m a ∷ now Special m a ∷ [];
  energy = energy_of a.conditions.underway.bide;
  place = a.place;
  types = number_of a.first_type ∷ number_of a.second_type ∷ [];
  stages = a.stages.attack ∷ a.stages.defense ∷ a.stages.speed ∷ a.stages.special ∷ a.stages.accuracy ∷ a.stages.evasion ∷ [];
  current_move = used_byte a.current_move;
  picked_move = used_byte a.picked_move;
  kept_accuracy = a.kept_accuracy;
  substitute = unwrap_or a.conditions.substitute 0;
  confusion = unwrap_or a.conditions.confused 0;
  disabled_slot = disabled_slot a.conditions.disabled;
  disabled_turns = disabled_turns a.conditions.disabled;
  bad_poison = unwrap_or a.conditions.bad_poison 0;
  turns = turns_of a.conditions.underway;
}

abbrev pub no_active : ActiveState
no_active = record {
  conditions = 0;
  stats = replicate 4 0;
  energy = 0;
  place = 0;
  types = replicate 2 0;
  stages = replicate 6 0;
  current_move = 0;
  picked_move = 0;
  kept_accuracy = 0;
  substitute = 0;
  confusion = 0;
  disabled_slot = 0;
  disabled_turns = 0;
  bad_poison = 0;
  turns = 0;
}

-- before the first update there is none
abbrev pub active_now : Side → Field → ActiveState
active_now side f = if f.turn == 0 then no_active else active_state (member_in side f) (active_in side f)

abbrev pub side_state : Side → Field → SideState
side_state side f = record {
  members =
      member_state (member_at 1 (party side f)) ∷ member_state (member_at 2 (party side f)) ∷ member_state (member_at 3 (party side f))
      ∷ member_state (member_at 4 (party side f)) ∷ member_state (member_at 5 (party side f)) ∷ member_state (member_at 6 (party side f)) ∷ [];
  active = active_now side f;
}

-- the bytes of the header that are copied as they are, valid or not (docs/LAYOUT.md, "Header")
pub record IsCopied (header : List ℕ) (b : BattleState) : Type 0 where
  pub rules : b.rules ≡ slice_index header 19
  pub outcome : b.outcome ≡ slice_index header 16
  pub requests : b.requests ≡ slice_index header 17 ∷ slice_index header 18 ∷ []
  pub index : b.index ≡ slice_index header 5
  pub numbers :
      b.numbers
      ≡ slice_index header 6 ∷ slice_index header 7 ∷ slice_index header 8 ∷ slice_index header 9 ∷ slice_index header 10 ∷ slice_index header 11
      ∷ slice_index header 12 ∷ slice_index header 13 ∷ slice_index header 14 ∷ slice_index header 15 ∷ []

-- each status is 0 to 5, of any bytes
abbrev pub HasKinds : SideState → Type 0
HasKinds side = All (λ (m : MemberState). m.status ≤ 5) side.members

-- the whole

abbrev pub state_of : State → BattleState
state_of s = record {
  sides = side_state One s.field ∷ side_state Two s.field ∷ [];
  turn = s.field.turn;
  limit = s.terms.limit;
  last_damage = s.field.last_damage;
  rules = bits_of_rules s.terms.rules;
  outcome = outcome_byte s.field.outcome;
  requests = request_byte s.field.request_one ∷ request_byte s.field.request_two ∷ [];
  index = (ring_at s.seed s.drawn).index;
  numbers = (ring_at s.seed s.drawn).numbers;
}
