-- The state of a battle: two sides with their members, what is between them, and the terms of the battle.
use Rattle.std.specs.Prelude.{Bool, List, None, Option, Some, false, if◌then◌else◌, min, nat_le, not, slice_index_or, slice_set, true, ℕ, ◌&&◌, ◌+◌, ◌-◌, ◌==◌, ◌||◌}
use Rattle.gen1_tables.specs.declared.types.Element.{Element}
use Rattle.gen1_tables.specs.declared.types.Element.TheVariants.{Normal}
use Rattle.gen1_stats.specs.declared.member.KnownMove.{KnownMove}
use Rattle.gen1_stats.specs.declared.member.Status.{Status}
use Rattle.gen1_stats.specs.declared.member.Status.TheVariants.{Healthy, Asleep, Poisoned, Burned, Frozen, Paralysed}
use Rattle.gen1_machine.specs.declared.side.Side.{Side}
use Rattle.gen1_machine.specs.declared.side.Side.TheVariants.{One, Two}
use Rattle.gen1_machine.specs.declared.terms.Outcome.{Outcome}
use Rattle.gen1_machine.specs.declared.terms.Outcome.TheVariants as outcomes
use Rattle.gen1_machine.specs.declared.terms.Request.{Request}
use Rattle.gen1_machine.specs.declared.terms.Request.TheVariants as requests
use Rattle.gen1_machine.specs.declared.event.Kind.{Kind}
use Rattle.gen1_machine.specs.declared.event.Kind.TheVariants as kinds
use Rattle.gen1_machine.specs.declared.event.Who.{Who}
use Rattle.gen1_machine.specs.declared.side.UsedMove.{UsedMove}
use Rattle.gen1_machine.specs.declared.side.UsedMove.TheVariants.{Nothing, Slot}
use Rattle.gen1_tables.specs.Types.{same_type, any}
use Rattle.gen1_stats.specs.Members.{nobody, nothing_known, is_living, Member}
use Rattle.gen1_machine.specs.Health.{Health}
use Rattle.gen1_machine.specs.Rules.{no_rules, Rules}
use Rattle.gen1_machine.specs.Conditions.{no_conditions, Underway, ActiveConditions}

-- Stages from 0 to 12. The middle is 6.
pub record Stages : Type 0 where
  pub attack : ℕ
  pub defense : ℕ
  pub speed : ℕ
  pub special : ℕ
  pub accuracy : ℕ
  pub evasion : ℕ

-- A member that is out.
pub record Active : Type 0 where
  pub place : ℕ  -- from 1, or 0 if no member is out
  pub first_type : Element
  pub second_type : Element
  pub stages : Stages
  pub attack_penalties : ℕ  -- how many since Attack was last recomputed
  pub speed_penalties : ℕ  -- how many since Speed was last recomputed
  pub current_move : UsedMove  -- the move that was used last
  pub picked_move : UsedMove  -- the move that was picked last
  pub kept_accuracy : ℕ  -- the accuracy byte that is kept for a move that goes on
  pub conditions : ActiveConditions

-- One side: its members, and which of them is out.
pub record Party : Type 0 where
  pub members : List Member
  pub active : Active

-- A battle without its terms and its random numbers.
pub record Field : Type 0 where
  pub one : Party
  pub two : Party
  pub last_damage : ℕ  -- one number for both sides
  pub turn : ℕ
  pub outcome : Outcome
  pub request_one : Request
  pub request_two : Request

-- The terms of a battle. No update changes them.
pub record Terms : Type 0 where
  pub rules : Rules
  pub limit : ℕ  -- the last turn

-- A battle between two updates: its terms, the field, the ten seed bytes, and the number of draws so far.
pub record State : Type 0 where
  pub terms : Terms
  pub field : Field
  pub seed : List ℕ
  pub drawn : ℕ

-- The sides

abbrev pub same_side : Side → Side → Bool
same_side One One = true
same_side Two Two = true
same_side _ _ = false

abbrev pub party : Side → Field → Party
party One f = f.one
party Two f = f.two

abbrev pub with_party : Side → Party → Field → Field
with_party One t f = record f { one = t }
with_party Two t f = record f { two = t }

abbrev pub request_of : Side → Field → Request
request_of One f = f.request_one
request_of Two f = f.request_two

-- The contents of a field

-- The member at a place, counted from 1.
abbrev pub member_at : ℕ → Party → Member
member_at place t = slice_index_or t.members (place - 1) nobody

abbrev pub with_member : ℕ → Member → Party → Party
with_member place m t = record t { members = slice_set t.members (place - 1) m }

abbrev pub active_in : Side → Field → Active
active_in s f = (party s f).active

abbrev pub conditions_in : Side → Field → ActiveConditions
conditions_in s f = (active_in s f).conditions

abbrev pub underway_in : Side → Field → Underway
underway_in s f = (conditions_in s f).underway

-- The member that is out.
abbrev pub member_in : Side → Field → Member
member_in s f = member_at (active_in s f).place (party s f)

abbrev pub status_in : Side → Field → Status
status_in s f = (member_in s f).status

abbrev pub has_fallen_in : Side → Field → Bool
has_fallen_in s f = not (is_living (member_in s f))

-- How events name a side's member, and its HP

abbrev pub who_in : Side → Field → Who
who_in s f = record { side = s; species = (member_in s f).species }

abbrev pub kind_of : Status → Option Kind
kind_of Healthy = None
kind_of (Asleep turns marked) = Some kinds.Sleep
kind_of Poisoned = Some kinds.Poison
kind_of Burned = Some kinds.Burn
kind_of Frozen = Some kinds.Freeze
kind_of Paralysed = Some kinds.Paralysis

abbrev pub health_of : Member → Health
health_of m = record { hp = m.hp; max = m.max; kind = kind_of m.status }

abbrev pub health_in : Side → Field → Health
health_in s f = health_of (member_in s f)

-- A field with one part changed

unfoldable pub changed_active : Side → (Active → Active) → Field → Field
changed_active s change f = with_party s (record (party s f) { active = change (active_in s f) }) f

unfoldable pub changed_conditions : Side → (ActiveConditions → ActiveConditions) → Field → Field
changed_conditions s change = changed_active s λ a. record a { conditions = change a.conditions }

unfoldable pub changed_member : Side → (Member → Member) → Field → Field
changed_member s change f = with_party s (with_member (active_in s f).place (change (member_in s f)) (party s f)) f

unfoldable pub with_last_damage : ℕ → Field → Field
with_last_damage damage f = record f { last_damage = damage }

unfoldable pub with_outcome : Outcome → Field → Field
with_outcome outcome f = record f { outcome = outcome }

unfoldable pub with_requests : Request → Request → Field → Field
with_requests one two f = record f { request_one = one; request_two = two }

-- The next turn (docs/MECHANICS.md, "Falls and requests").
unfoldable pub with_next_turn : Field → Field
with_next_turn f = record f { turn = f.turn + 1 }

-- Changes of a member

unfoldable pub with_status : Status → Member → Member
with_status status m = record m { status = status }

unfoldable pub hurt_by : ℕ → Member → Member
hurt_by amount m = record m { hp = m.hp - amount }

unfoldable pub healed_by : ℕ → Member → Member
healed_by amount m = record m { hp = min m.max (m.hp + amount) }

-- A member that falls loses its status (docs/MECHANICS.md, "Falls and requests").
unfoldable pub fallen : Member → Member
fallen m = record m { hp = 0; status = Healthy }

-- One turn of sleep is over. A member without turns left is awake (docs/MECHANICS.md, "Gate").
abbrev pub one_turn_less_asleep : Status → Status
one_turn_less_asleep (Asleep turns marked) = if nat_le turns 1 then Healthy else Asleep (turns - 1) marked
one_turn_less_asleep status = status

unfoldable pub with_sleep_one_less : Member → Member
with_sleep_one_less m = record m { status = one_turn_less_asleep m.status }

-- PP falls by one, and wraps from 0 to 63 (docs/MECHANICS.md, "Action").
abbrev pub with_less_pp : KnownMove → KnownMove
with_less_pp k = record k { pp = if k.pp == 0 then 63 else k.pp - 1 }

-- The move in a slot, counted from 1.
abbrev pub known_in : ℕ → List KnownMove → KnownMove
known_in slot moves = slice_index_or moves (slot - 1) nothing_known

-- Struggle has no PP.
abbrev pub after_use : UsedMove → List KnownMove → List KnownMove
after_use (Slot k) moves = slice_set moves (k - 1) (with_less_pp (known_in k moves))
after_use _ moves = moves

unfoldable pub with_pp_spent : UsedMove → Member → Member
with_pp_spent used m = record m { moves = after_use used m.moves }

-- Changes of a member that is out

unfoldable pub with_types_of : Active → Active → Active
with_types_of foe a = record a { first_type = foe.first_type; second_type = foe.second_type }

unfoldable pub with_current_move : UsedMove → Active → Active
with_current_move used a = record a { current_move = used }

unfoldable pub with_picked_move : UsedMove → Active → Active
with_picked_move used a = record a { picked_move = used }

unfoldable pub with_kept_accuracy : ℕ → Active → Active
with_kept_accuracy byte a = record a { kept_accuracy = byte }

-- Properties of a state (docs/MECHANICS.md, "Falls and requests")

abbrev pub has_type : Element → Active → Bool
has_type t a = same_type t a.first_type || same_type t a.second_type

abbrev pub is_over : Outcome → Bool
is_over outcomes.Ongoing = false
is_over _ = true

abbrev pub is_pass : Request → Bool
is_pass requests.Pass = true
is_pass _ = false

-- Whether a living member of a side passes a test.
abbrev pub any_living : (Member → Bool) → Party → Bool
any_living test t = any (λ m. is_living m && test m) t.members

-- The beginning of a battle (docs/MECHANICS.md, "Teams")

abbrev pub level_stages : Stages
level_stages = record { attack = 6; defense = 6; speed = 6; special = 6; accuracy = 6; evasion = 6 }

abbrev pub nobody_out : Active
nobody_out = record {
  place = 0;
  first_type = Normal;
  second_type = Normal;
  stages = level_stages;
  attack_penalties = 0;
  speed_penalties = 0;
  current_move = Nothing;
  picked_move = Nothing;
  kept_accuracy = 0;
  conditions = no_conditions;
}

abbrev pub not_sent_out : List Member → Party
not_sent_out members = record { members = members; active = nobody_out }

abbrev pub usual_terms : Terms
usual_terms = record { rules = no_rules; limit = 1000 }

-- A battle before its first update.
abbrev pub first_state : Terms → List Member → List Member → List ℕ → State
first_state terms one two seed = record {
  terms = terms;
  seed = seed;
  drawn = 0;
  field = record {
    one = not_sent_out one;
    two = not_sent_out two;
    last_damage = 0;
    turn = 0;
    outcome = outcomes.Ongoing;
    request_one = requests.Pass;
    request_two = requests.Pass;
  };
}
