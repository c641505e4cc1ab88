-- What a side may choose follows from what it is shown, and what it is shown says nothing of what is hidden (docs/PROVED.md). Each law
-- is the contract of a function in src/laws.rt.
use Rattle.std.specs.Prelude.{Bool, List, None, Option, Some, [], false, if◌then◌else◌, is_some, map, nat_lt, not, slice_index_or, true, ℕ, ◌&&◌, ◌++◌, ◌+◌, ◌-◌, ◌==◌, ◌||◌, ◌≡◌, ◌∷◌}
use Rattle.gen1_stats.specs.declared.member.KnownMove.{KnownMove}
use Rattle.gen1_stats.specs.declared.member.Status.{Status}
use Rattle.gen1_stats.specs.declared.member.Status.TheVariants.{Asleep}
use Rattle.gen1_stats.specs.Members.{Member}
use Rattle.gen1_machine.specs.declared.side.Side.{Side}
use Rattle.gen1_machine.specs.declared.side.Side.TheVariants.{One, Two}
use Rattle.gen1_machine.specs.declared.side.Choice.{Choice}
use Rattle.gen1_machine.specs.declared.side.Choice.TheVariants as choices
use Rattle.gen1_machine.specs.declared.event.Event.{Event}
use Rattle.gen1_machine.specs.declared.event.Kind.{Kind}
use Rattle.gen1_machine.specs.declared.event.Kind.TheVariants as kinds
use Rattle.gen1_machine.specs.declared.side.DisabledSlot.{DisabledSlot}
use Rattle.gen1_machine.specs.declared.side.UsedMove.TheVariants.{Nothing}
use Rattle.gen1_machine.specs.declared.terms.Request.{Request}
use Rattle.gen1_machine.specs.declared.terms.Request.TheVariants as requests
use Rattle.gen1_machine.specs.Conditions.{ActiveConditions, Storing, Underway}
use Rattle.gen1_machine.specs.OfferedChoices.{offered, or_struggle}
use Rattle.gen1_machine.specs.Sides.{other}
use Rattle.gen1_machine.specs.State.{Active, Field, Party, State, Terms, first_state, is_over, party, underway_in, with_party}
use Rattle.gen1_machine.specs.Step.{Stepped, events_of, step, run}
use Rattle.gen1_player.specs.OwnSide.{OwnActive, OwnConditions, OwnMember, OwnSide, own_side, no_member, plain_side}
use Rattle.std.specs.List.{flat_map}
use Rattle.gen1_machine.specs.LogBytes.{codes_of}
use Rattle.gen1_player.specs.declared.player.Player.{Player}
use Rattle.gen1_player.specs.declared.player.PlayerTerms.{PlayerTerms}
use Rattle.gen1_player.specs.declared.teller.Teller.{Teller}
use Rattle.gen1_player.specs.Player.{IsPlayer}
use Rattle.gen1_player.specs.Telling.{meets_all, told_all}

-- 1. The offered choices, in the words of docs/MECHANICS.md, "Offered choices"

abbrev pub member_out : OwnSide → OwnMember
member_out o = slice_index_or o.members (o.active.place - 1) no_member

-- Recharge, Rage, Thrash or Charging is on.
abbrev pub must_go_on : OwnConditions → Bool
must_go_on c = c.recharge || c.rage || c.thrash || c.charging

abbrev pub sleeps_or_is_frozen : Option Kind → Bool
sleeps_or_is_frozen (Some kinds.Sleep) = true
sleeps_or_is_frozen (Some kinds.Freeze) = true
sleeps_or_is_frozen _ = false

abbrev pub picks_no_slot : OwnSide → Bool
picks_no_slot o = sleeps_or_is_frozen (member_out o).kind || o.active.conditions.bide || o.active.conditions.trapping || o.held

-- From slot k on, the slots that have PP and are not disabled.
abbrev pub usable_slots_from : ℕ → OwnActive → List KnownMove → List Choice
usable_slots_from k a [] = []
usable_slots_from k a (m ∷ ms) =
    if nat_lt 0 m.pp && not (a.conditions.disabled && a.disabled_slot == k)
    then choices.Move k ∷ usable_slots_from (k + 1) a ms
    else usable_slots_from (k + 1) a ms

-- Move 0 alone, or the usable slots, or Move 0 if there are none.
abbrev pub moves_shown : OwnSide → List Choice
moves_shown o =
    if picks_no_slot o then choices.Move 0 ∷ [] else or_struggle (usable_slots_from 1 o.active (member_out o).moves)

-- From a place on, the living members that are not out.
abbrev pub switches_from : ℕ → ℕ → List OwnMember → List Choice
switches_from place out [] = []
switches_from place out (m ∷ ms) =
    if nat_lt 0 m.hp && not (place == out)
    then choices.Switch place ∷ switches_from (place + 1) out ms
    else switches_from (place + 1) out ms

abbrev pub switches_shown : OwnSide → List Choice
switches_shown o = switches_from 1 o.active.place o.members

abbrev pub offers_for : Request → OwnSide → List Choice
offers_for requests.Pass o = choices.Pass ∷ []
offers_for requests.Switch o = switches_shown o
offers_for requests.Move o =
    if must_go_on o.active.conditions then choices.Move 0 ∷ [] else moves_shown o ++ switches_shown o

abbrev pub offers : OwnSide → List Choice
offers o = if is_over o.outcome then [] else offers_for o.request o

-- So two states that show a side the same offer it the same.
abbrev pub OffersWhatIsShown : Type 0
OffersWhatIsShown = (s : Side) (f : Field) → offered s f ≡ offers (own_side s f)

-- 2. The foe is hidden

-- Whatever else the foe is, with its trapping on or off as before, a side is shown the same. So nothing of the foe's members, their
-- stats, HP, moves, PP or order, nor of its counts and stages, is shown.
abbrev pub HidesTheFoe : Type 0
HidesTheFoe = (s : Side) (f : Field) (t : Party)
    → is_some t.active.conditions.underway.trapping ≡ is_some (underway_in (other s) f).trapping
    → own_side s (with_party (other s) t f) ≡ own_side s f

-- 3. Own counts are hidden

-- Whether something is on, with 0 for its count.
abbrev pub if_on : Option ℕ → Option ℕ
if_on None = None
if_on (Some n) = Some 0

abbrev pub if_storing : Option Storing → Option Storing
if_storing None = None
if_storing (Some b) = Some (record { turns = 0; energy = 0 })

abbrev pub if_disabled : Option DisabledSlot → Option DisabledSlot
if_disabled None = None
if_disabled (Some d) = Some (record { slot = d.slot; turns = 0 })

abbrev pub if_asleep : Status → Status
if_asleep (Asleep turns marked) = Asleep 0 false
if_asleep status = status

abbrev pub uncounted_underway : Underway → Underway
uncounted_underway u = record u { bide = if_storing u.bide; thrash = if_on u.thrash; trapping = if_on u.trapping }

abbrev pub uncounted_conditions : ActiveConditions → ActiveConditions
uncounted_conditions c = record c {
  underway = uncounted_underway c.underway;
  flinch = false;
  confused = if_on c.confused;
  substitute = if_on c.substitute;
  bad_poison = if_on c.bad_poison;
  disabled = if_disabled c.disabled;
}

abbrev pub uncounted_active : Active → Active
uncounted_active a = record a {
  current_move = Nothing;
  picked_move = Nothing;
  kept_accuracy = 0;
  conditions = uncounted_conditions a.conditions;
}

abbrev pub uncounted_member : Member → Member
uncounted_member m = record m { status = if_asleep m.status }

abbrev pub uncounted_party : Party → Party
uncounted_party t = record { members = map uncounted_member t.members; active = uncounted_active t.active }

-- A field in which each hidden number of a side is 0.
abbrev pub uncounted : Side → Field → Field
uncounted s f = record (with_party s (uncounted_party (party s f)) f) { last_damage = 0 }

-- Fields that differ for a side in these numbers alone: turns of sleep, of confusion, of Bide, thrashing, trapping and Disable, the HP of
-- a Substitute, the energy of Bide, the count of bad poison, flinching, moves and accuracy that are kept, the last damage.
abbrev pub SameButCounts : Side → Field → Field → Type 0
SameButCounts s f g = uncounted s f ≡ uncounted s g

abbrev pub HidesTheCounts : Type 0
HidesTheCounts = (s : Side) (f g : Field) → SameButCounts s f g → own_side s f ≡ own_side s g

-- 4. Nothing else reaches a player

-- A battle that was played from its start.
pub record Played : Type 0 where
  pub terms : Terms
  pub one : List Member  -- the team of side 1
  pub two : List Member  -- and of side 2
  pub seed : List ℕ
  pub pairs : List (Choice × Choice)  -- the choices of both sides, update by update

abbrev pub own_team : Side → Played → List Member
own_team One b = b.one
own_team Two b = b.two

abbrev pub begun : Played → State
begun b = first_state b.terms b.one b.two b.seed

-- How the log of an update is made: of the events before it, and of its own events.
abbrev pub Logging : Type 0
Logging = List Event → List Event → List ℕ

-- What a side gets after an update: the update's log, and what the side is shown of itself.
pub record Given : Type 0 where
  pub log : List ℕ
  pub own : OwnSide

abbrev pub given_by : Logging → Side → List Event → Stepped → Given
given_by log_of s before after = record { log = log_of before (events_of after.answer); own = own_side s after.state.field }

-- Update by update: what a side is given, and what it is offered.

abbrev pub given_from : Logging → Side → List Event → State → List (Choice × Choice) → List Given
given_from log_of s before b [] = []
given_from log_of s before b (pair ∷ pairs) =
    let after = step b pair.0 pair.1 in
    given_by log_of s before after ∷ given_from log_of s (before ++ events_of after.answer) after.state pairs

abbrev pub offered_from : Side → State → List (Choice × Choice) → List (List Choice)
offered_from s b [] = []
offered_from s b (pair ∷ pairs) =
    let after = step b pair.0 pair.1 in offered s after.state.field ∷ offered_from s after.state pairs

abbrev pub given : Logging → Side → Played → List Given
given log_of s b = given_from log_of s [] (begun b) b.pairs

abbrev pub offered_in : Side → Played → List (List Choice)
offered_in s b = offered_from s (begun b) b.pairs

-- A player is whatever is computed from its own team, from what it is given, and from what it is offered.
abbrev pub AnyPlayer : Type 0
AnyPlayer = List Member → List Given → List (List Choice) → ℕ

abbrev pub player_in : AnyPlayer → Logging → Side → Played → ℕ
player_in player log_of s b = player (own_team s b) (given log_of s b) (offered_in s b)

-- Of two battles a side knows the same: what it is shown at the beginning, what it is offered after each update, and what a player is.
pub record KnowsTheSame (player : AnyPlayer) (log_of : Logging) (s : Side) (a b : Played) : Type 0 where
  pub begins : own_side s (begun a).field ≡ own_side s (begun b).field
  pub offers : offered_in s a ≡ offered_in s b
  pub computes : player_in player log_of s a ≡ player_in player log_of s b

-- In two battles of its team in which a side is given the same, it knows the same: whatever the foe's team, the seed, the rules, the
-- limit, and the choices of both sides.
abbrev pub Fair : Type 0
Fair = (player : AnyPlayer) (log_of : Logging) (s : Side) (a b : Played)
    → own_team s a ≡ own_team s b → given log_of s a ≡ given log_of s b → KnowsTheSame player log_of s a b

-- The player of this crate

-- The log that a teller makes of the events of an update.
abbrev pub told_by : Teller → Logging
told_by first before now = codes_of (told_all now (meets_all before first))

-- The logs of all updates, one after the other.
abbrev pub all_logs : List Given → List ℕ
all_logs gives = flat_map (λ (g : Given). g.log) gives

abbrev pub end_of : Played → Field
end_of b = (run (begun b) b.pairs).state.field

-- The player of a side after a battle. It was fed all logs, and shown itself and the set of its choices as they are in the end.
abbrev pub IsPlayerIn : (List Choice → ℕ) → Teller → Side → PlayerTerms → Played → Player → Type 0
IsPlayerIn set_of first s terms b player =
    IsPlayer s (own_team s b) terms (all_logs (given (told_by first) s b))
    (record { own = plain_side (own_side s (end_of b)); offered = set_of (offered s (end_of b)) }) player

-- In two battles of its team in which a side is given the same, its player by the same terms is the same.
abbrev pub FairPlayer : Type 0
FairPlayer = (set_of : List Choice → ℕ) (first : Teller) (s : Side) (terms : PlayerTerms) (a b : Played) (p q : Player)
    → own_team s a ≡ own_team s b → given (told_by first) s a ≡ given (told_by first) s b
    → IsPlayerIn set_of first s terms a p → IsPlayerIn set_of first s terms b q → p ≡ q
