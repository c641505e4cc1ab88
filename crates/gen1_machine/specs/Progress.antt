-- A battle in the middle of an update, the phases that move it on, and the ways to combine phases.
use Rattle.std.specs.Prelude.{Bool, List, None, Option, Some, [], false, is_some, nat_lt, not, true, ℕ, ◌&&◌, ◌++◌, ◌+◌, ◌∷◌}
use Rattle.gen1_tables.specs.declared.types.Element.{Element}
use Rattle.gen1_tables.specs.declared.effect.Stat.{Stat}
use Rattle.gen1_stats.specs.declared.member.Status.{Status}
use Rattle.gen1_stats.specs.declared.member.Status.TheVariants.{Healthy}
use Rattle.gen1_machine.specs.declared.side.Side.{Side}
use Rattle.gen1_machine.specs.declared.terms.Outcome.TheVariants as outcomes
use Rattle.gen1_machine.specs.declared.event.Kind.{Kind}
use Rattle.gen1_machine.specs.declared.event.DamageSource.{DamageSource}
use Rattle.gen1_machine.specs.declared.event.Volatile.{Volatile}
use Rattle.gen1_machine.specs.declared.event.Event.{Event}
use Rattle.gen1_machine.specs.declared.event.Event.TheVariants as events
use Rattle.gen1_rolls.specs.Streams.{byte_at, span, first, Stream}
use Rattle.gen1_stats.specs.Members.{is_living, is_healthy, Member}
use Rattle.gen1_stats.specs.Stats.{stat}
use Rattle.gen1_machine.specs.Conditions.{Underway, ActiveConditions}
use Rattle.gen1_machine.specs.State.{active_in, conditions_in, underway_in, member_in, status_in, has_fallen_in, who_in, health_in, changed_active, changed_conditions, changed_member, with_last_damage, with_outcome, with_status, hurt_by, healed_by, has_type, Active, Field}
use Rattle.gen1_machine.specs.CurrentStats.{now_in, with_penalty_of}

-- What is known of the action in progress.
pub record Action : Type 0 where
  pub side : Side  -- who acts
  pub going_on : Bool  -- it goes on from an earlier turn
  pub letting_go : Bool  -- it lets out the energy of Bide
  pub missed : Bool
  pub critical : Bool
  pub through_types : Bool  -- its damage went through the type rows
  pub broke : Bool  -- it broke a substitute
  pub hits_made : ℕ
  pub hits_planned : Option ℕ  -- hits to make, if the move makes several
  pub accuracy_tested : Option ℕ  -- the accuracy byte of its hit test

abbrev pub new_action : Side → Action
new_action s = record {
  side = s;
  going_on = false;
  letting_go = false;
  missed = false;
  critical = false;
  through_types = false;
  broke = false;
  hits_made = 0;
  hits_planned = None;
  accuracy_tested = None;
}

pub record Progress : Type 0 where
  pub field : Field
  pub stream : Stream
  pub drawn : ℕ
  pub events : List Event  -- in their order
  pub stopped : Bool  -- the remaining phases are skipped
  pub skips : Bool  -- Haze met a sleeping or frozen foe, which acts no more this turn
  pub action : Action

-- A phase moves a battle on.
abbrev pub Phase : Type 0
Phase = Progress → Progress

-- Ways to combine phases

-- Nothing happens.
unfoldable pub stay : Phase
stay p = p

unfoldable pub unless_stopped : Phase → Phase
unless_stopped f p = elim p.stopped [ true ↦ p | false ↦ f p ]

-- One phase and then the next, unless the first stopped.
infixr 20 ◌▸◌
unfoldable pub ◌▸◌ : Phase → Phase → Phase
(f ▸ g) p = unless_stopped g (f p)

-- One phase or another, by a test.
unfoldable pub choose : (Progress → Bool) → Phase → Phase → Phase
choose test f g p = elim (test p) [ true ↦ f p | false ↦ g p ]

abbrev pub when : (Progress → Bool) → Phase → Phase
when test f = choose test f stay

abbrev pub unless : (Progress → Bool) → Phase → Phase
unless test f = choose test stay f

-- A phase that applies only to some moves.
abbrev pub only : Bool → Phase → Phase
only holds f = when (λ _. holds) f

-- A phase that depends on a value of the battle.
unfoldable pub given : {A : Type 0} → (Progress → A) → (A → Phase) → Phase
given read f p = f (read p) p

-- The remaining phases are skipped.
unfoldable pub stop : Phase
stop p = record p { stopped = true }

-- Draws

-- The next byte, and what follows from it.
unfoldable pub draw : (ℕ → Phase) → Phase
draw f p = f (byte_at p.stream p.drawn) (record p { drawn = p.drawn + 1 })

-- Draws until a byte passes the test. If none does, all numbers of the stream are drawn.
unfoldable pub draw_until : (ℕ → Bool) → (ℕ → Phase) → Phase
draw_until test f p = elim (first p.stream p.drawn test) [
  | Some m ↦ f (byte_at p.stream m) (record p { drawn = m + 1 })
  | None ↦ record p { drawn = p.drawn + span p.stream }
]

-- Writes and events

unfoldable pub on_field : (Field → Field) → Phase
on_field change p = record p { field = change p.field }

-- An event is written.
unfoldable pub note : (Field → Event) → Phase
note event p = record p { events = p.events ++ event p.field ∷ [] }

-- A change, and then the event that reports it.
unfoldable pub told : (Field → Field) → (Field → Event) → Phase
told change event p = record p { field = change p.field; events = p.events ++ event (change p.field) ∷ [] }

unfoldable pub on_active : Side → (Active → Active) → Phase
on_active s change = on_field (changed_active s change)

unfoldable pub on_conditions : Side → (ActiveConditions → ActiveConditions) → Phase
on_conditions s change = on_field (changed_conditions s change)

unfoldable pub on_member : Side → (Member → Member) → Phase
on_member s change = on_field (changed_member s change)

unfoldable pub set_last_damage : ℕ → Phase
set_last_damage damage = on_field (with_last_damage damage)

-- A condition begins, continues or ends, and an event reports it.

unfoldable pub starts : Side → Volatile → (ActiveConditions → ActiveConditions) → Phase
starts s what change = told (changed_conditions s change) λ f. events.Start (who_in s f) what

unfoldable pub lasts : Side → Volatile → (ActiveConditions → ActiveConditions) → Phase
lasts s what change = told (changed_conditions s change) λ f. events.Activate (who_in s f) what

unfoldable pub ends : Side → Volatile → (ActiveConditions → ActiveConditions) → Phase
ends s what change = told (changed_conditions s change) λ f. events.End (who_in s f) what

-- What is known of the action

unfoldable pub on_action : (Action → Action) → Phase
on_action change p = record p { action = change p.action }

unfoldable pub set_missed : Bool → Phase
set_missed missed = on_action λ a. record a { missed = missed }

abbrev pub goes_on_now : Progress → Bool
goes_on_now p = p.action.going_on

abbrev pub has_missed : Progress → Bool
has_missed p = p.action.missed

abbrev pub broke_substitute : Progress → Bool
broke_substitute p = p.action.broke

-- The values of the battle

abbrev pub last_damage : Progress → ℕ
last_damage p = p.field.last_damage

abbrev pub active : Side → Progress → Active
active s p = active_in s p.field

abbrev pub conditions : Side → Progress → ActiveConditions
conditions s p = conditions_in s p.field

abbrev pub underway : Side → Progress → Underway
underway s p = underway_in s p.field

abbrev pub member : Side → Progress → Member
member s p = member_in s p.field

abbrev pub status_of : Side → Progress → Status
status_of s p = status_in s p.field

abbrev pub stat_now : Stat → Side → Progress → ℕ
stat_now stat s p = now_in stat s p.field

abbrev pub has_fallen : Side → Progress → Bool
has_fallen s p = has_fallen_in s p.field

abbrev pub has_status : Side → Progress → Bool
has_status s p = not (is_healthy (status_of s p))

abbrev pub has_substitute : Side → Progress → Bool
has_substitute s p = is_some (conditions s p).substitute

abbrev pub is_invulnerable : Side → Progress → Bool
is_invulnerable s p = (conditions s p).invulnerable

abbrev pub is_confused : Side → Progress → Bool
is_confused s p = is_some (conditions s p).confused

abbrev pub is_trapping : Side → Progress → Bool
is_trapping s p = is_some (underway s p).trapping

abbrev pub is_of : Side → Element → Progress → Bool
is_of s t p = has_type t (active s p)

-- What many rules share

-- A battle that can't continue ends with a fault.
unfoldable pub fault : ℕ → Phase
fault n = on_field (with_outcome (outcomes.Fault n)) ▸ stop

-- The user's move fails.
unfoldable pub fail : Side → Phase
fail s = note (λ f. events.Fail (who_in s f)) ▸ stop

unfoldable pub fails_if : Side → (Progress → Bool) → Phase
fails_if s test = when test (fail s)

-- A member loses HP, at most what it has. The event is written if there is an amount and the member is alive
-- (docs/MECHANICS.md, "Order of events").
unfoldable pub lose_hp : Side → DamageSource → ℕ → Phase
lose_hp s source amount =
    when (λ p. nat_lt 0 amount && is_living (member s p))
    (told (changed_member s (hurt_by amount)) λ f. events.Damage (who_in s f) (health_in s f) source)

-- A member gains HP, up to its maximum. The event is written if that changes its HP (docs/MECHANICS.md, "Order of
-- events").
unfoldable pub gain_hp : Side → ℕ → Phase
gain_hp s amount =
    when (λ p. nat_lt 0 amount && nat_lt (member s p).hp (member s p).max)
    (told (changed_member s (healed_by amount)) λ f. events.Heal (who_in s f) (health_in s f))

-- A status is set, and its penalty applies (docs/MECHANICS.md, "Penalties").
unfoldable pub inflict : Side → Status → Kind → Phase
inflict s status kind =
    on_member s (with_status status)
    ▸ told (changed_active s (with_penalty_of status)) λ f. events.Status (who_in s f) kind

-- A status is removed. Its penalties stay.
unfoldable pub cure : Side → Kind → Phase
cure s kind = told (changed_member s (with_status Healthy)) λ f. events.Cure (who_in s f) kind
