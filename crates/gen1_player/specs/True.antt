-- What holds of all that a log makes public, after any run of a battle from its start, and of what a player holds of it.
use Rattle.std.specs.Prelude.{All, Bool, List, None, [], false, if◌then◌else◌, is_some, map, nat_lt, replicate, true, unwrap_or, ℕ, ◌&&◌, ◌*◌, ◌+◌, ◌-◌, ◌==◌, ◌≡◌, ◌≢◌, ◌≤◌, ◌⊎◌, ◌∷◌}
use Rattle.std.specs.List.{flat_map}
use Rattle.gen1_tables.specs.declared.effect.Effect.{Effect}
use Rattle.gen1_tables.specs.Effects.{recharges}
use Rattle.gen1_tables.specs.Moves.{struggle}
use Rattle.gen1_tables.specs.Types.{any, number_of}
use Rattle.gen1_stats.specs.declared.member.KnownMove.{KnownMove}
use Rattle.gen1_stats.specs.declared.member.Status.TheVariants.{Asleep}
use Rattle.gen1_stats.specs.Members.{is_living, is_marked, IsTeam, Member}
use Rattle.gen1_machine.specs.declared.side.Choice.{Choice}
use Rattle.gen1_machine.specs.declared.event.Event.{Event}
use Rattle.gen1_machine.specs.declared.side.Side.{Side}
use Rattle.gen1_machine.specs.declared.side.Side.TheVariants.{One, Two}
use Rattle.gen1_rolls.specs.Streams.{IsStream, Link}
use Rattle.gen1_machine.specs.declared.terms.Outcome.{Outcome}
use Rattle.gen1_machine.specs.declared.terms.Outcome.TheVariants as outcomes
use Rattle.gen1_machine.specs.Action.{keeps_going}
use Rattle.gen1_machine.specs.Layout.{outcome_byte}
use Rattle.gen1_machine.specs.LogBytes.{kind_or_0}
use Rattle.gen1_machine.specs.Moves.{move_at}
use Rattle.gen1_machine.specs.declared.event.Kind.TheVariants as kinds
use Rattle.gen1_machine.specs.Numbers.{kind_number, side_number}
use Rattle.gen1_machine.specs.Picks.{number_in}
use Rattle.gen1_machine.specs.Rules.{bit_of}
use Rattle.gen1_machine.specs.Sides.{other}
use Rattle.gen1_machine.specs.State.{first_state, known_in, member_at, party, Field, Party, State, Terms}
use Rattle.gen1_machine.specs.Step.{events_of, run, step, Ran}
use Rattle.gen1_machine.specs.Valid.{IsTerms}
use Rattle.gen1_machine.specs.View.{first_view, sees_all, shown_at, shows, Shown, SideView, View}
use Rattle.gen1_player.specs.declared.public.Public.{Public}
use Rattle.gen1_player.specs.declared.public_side.PublicSide.{PublicSide}
use Rattle.gen1_player.specs.declared.seen.Seen.{Seen}
use Rattle.gen1_player.specs.declared.seen.SeenMove.{SeenMove}
use Rattle.gen1_events.specs.Reader.{IsReading}
use Rattle.gen1_player.specs.declared.player.Player.{Player}
use Rattle.gen1_player.specs.declared.player.PlayerTerms.{PlayerTerms}
use Rattle.gen1_player.specs.declared.teller.Teller.{Teller}
use Rattle.gen1_player.specs.Player.{IsPlayer, known_at}
use Rattle.gen1_player.specs.Player as players
use Rattle.gen1_player.specs.Public.{first_public, hears_all, new_uses, not_seen, on_public_side, public_side, seen_at}
use Rattle.gen1_player.specs.Telling.{health_told, meets_all, slot_of, told_all}

-- All events that a run logged.
abbrev pub events_in : Ran → List Event
events_in r = flat_map events_of r.answers

-- What the log of a run makes public.
abbrev pub public_of : Ran → Public
public_of r = hears_all (events_in r) first_public

-- A statement about any run of a battle of two teams from its start.
abbrev pub OfRuns : (List Member → List Member → Ran → Type 0) → Type 0
OfRuns says = (t : Terms) (one two : List Member) (seed : List ℕ) (pairs : List (Choice × Choice))
    → IsTeam one → IsTeam two → says one two (run (first_state t one two seed) pairs)

-- What is public and what a spectator sees

-- A member that has appeared has the HP and the status that show.
abbrev pub LooksLike : Seen → Shown → Type 0
LooksLike s m = s.species ≢ 0 → (s.hp ≡ m.hp) × (s.status ≡ kind_or_0 m.kind)

pub record SideAgrees (x : PublicSide) (v : SideView) : Type 0 where
  pub place : x.place ≡ v.place
  pub stages : x.stages ≡ v.stages
  pub substitute : x.announced.substitute ≡ bit_of v.substitute
  pub confused : x.announced.confused ≡ bit_of v.confused
  pub light_screen : x.announced.light_screen ≡ bit_of v.light_screen
  pub reflect : x.announced.reflect ≡ bit_of v.reflect
  pub members : (place : ℕ) → LooksLike (seen_at place x) (shown_at place v)

pub record AgreesWith (p : Public) (v : View) : Type 0 where
  pub one : SideAgrees p.one v.one
  pub two : SideAgrees p.two v.two
  pub turn : p.turn ≡ v.turn
  pub outcome : p.outcome ≡ outcome_byte v.outcome

-- What the log makes public agrees with what a spectator knows who has seen the same events.
abbrev pub PublicAgreesWithView : Type 0
PublicAgreesWithView = OfRuns λ one two r. AgreesWith (public_of r) (sees_all (events_in r) (first_view one two))

-- It agrees with what the battle shows.
abbrev pub PublicAgrees : Type 0
PublicAgrees = OfRuns λ one two r. AgreesWith (public_of r) (shows r.state.field)

-- Types and conditions

-- These are announced exactly if they are on. An explosion ends Leech Seed without an event, as its user falls; so that is said
-- of a living member alone.
pub record SideIsTold (x : PublicSide) (t : Party) : Type 0 where
  pub first_type : x.first_type ≡ number_of t.active.first_type
  pub second_type : x.second_type ≡ number_of t.active.second_type
  pub mist : x.announced.mist ≡ bit_of t.active.conditions.mist
  pub focus_energy : x.announced.focus_energy ≡ bit_of t.active.conditions.focus_energy
  pub disabled : x.announced.disabled ≡ bit_of (is_some t.active.conditions.disabled)
  pub rage : x.announced.rage ≡ bit_of t.active.conditions.underway.rage
  pub seeded : is_living (member_at t.active.place t) ≡ true → x.announced.seeded ≡ bit_of t.active.conditions.seeded

abbrev pub IsTold : Public → Field → Type 0
IsTold p f = SideIsTold p.one f.one × SideIsTold p.two f.two

abbrev pub ConditionsAgree : Type 0
ConditionsAgree = OfRuns λ one two r. IsTold (public_of r) r.state.field

-- What active members do

-- The number of the current move, 0 for none.
abbrev pub current_move_of : Party → ℕ
current_move_of t = number_in t.active.current_move (member_at t.active.place t).moves

-- Bide, charging and bad poison are announced exactly if they are on. The counter of bad poison is that of a living member: once poison took
-- the last HP, Leech Seed raises it without an event. A member that is announced as invulnerable is so. The last move is the current one. A
-- member that has to recharge, or is announced so, used a move for it last. A move that continues, which costs no PP, isn't counted as a use.
pub record SideDoes (x : PublicSide) (t : Party) : Type 0 where
  pub bide : x.announced.bide ≡ bit_of (is_some t.active.conditions.underway.bide)
  pub charging : x.announced.charging ≡ bit_of t.active.conditions.underway.charging
  pub toxic : x.announced.toxic ≡ bit_of (is_some t.active.conditions.bad_poison)
  pub toxic_count : is_living (member_at t.active.place t) ≡ true → x.announced.toxic_count ≡ unwrap_or t.active.conditions.bad_poison 0
  pub invulnerable : x.invulnerable ≢ 0 → t.active.conditions.invulnerable ≡ true
  pub unused : x.unused ≡ 0
  pub last_move : x.last_move ≡ current_move_of t
  pub recharge : t.active.conditions.underway.recharge ≡ true → recharges (move_at x.last_move).effect ≡ true
  pub rests : x.announced.recharging ≢ 0 → recharges (move_at x.last_move).effect ≡ true
  pub uses : keeps_going t.active.conditions.underway ≡ true → new_uses (current_move_of t) x ≡ 0

abbrev pub is_fault : Outcome → Bool
is_fault (outcomes.Fault n) = true
is_fault _ = false

-- A fault may come between a change and its event. It ends the battle.
pub record BothDo (p : Public) (f : Field) : Type 0 where
  pub one : SideDoes p.one f.one
  pub two : SideDoes p.two f.two
  pub may_hit_itself : p.may_hit_itself ≡ 0

abbrev pub DoesOrFaults : Ran → Type 0
DoesOrFaults r = is_fault r.state.field.outcome ≡ false → BothDo (public_of r) r.state.field

-- Of any battle with valid terms and seed bytes.
abbrev pub ActivesAgree : Type 0
ActivesAgree = (t : Terms) (one two : List Member) (seed : List ℕ) (pairs : List (Choice × Choice))
    → IsTerms t → IsStream (Link seed) → IsTeam one → IsTeam two → DoesOrFaults (run (first_state t one two seed) pairs)

-- Uses and PP

-- The move in a slot of the member at a place, and its PP.
abbrev pub move_in : Side → ℕ → ℕ → Field → KnownMove
move_in s place slot f = known_in slot (member_at place (party s f)).moves

abbrev pub pp_in : Side → ℕ → ℕ → State → ℕ
pp_in s place slot b = (move_in s place slot b.field).pp

-- PP rise only from 0 to 63, as a move without PP is used. This counts the updates of a run in which they do.
abbrev pub rise : ℕ → ℕ → ℕ
rise before after = if nat_lt before after then 1 else 0

unfoldable pub rises : (State → ℕ) → State → List (Choice × Choice) → ℕ
rises pp b [] = 0
rises pp b (pair ∷ pairs) = let next = (step b pair.0 pair.1).state in rise (pp b) (pp next) + rises pp next pairs

-- The uses that were counted of a member's move are at most the PP that its slot has lost: uses and PP left are together at most the PP
-- at the start, and 64 more for each rise. So PP at the start less uses are never below the PP left, while these have not risen.
abbrev pub IsPaid : Side → ℕ → ℕ → State → List (Choice × Choice) → Type 0
IsPaid s place slot first pairs = let r = run first pairs in let known = move_in s place slot first.field in
    known.id ≢ 0 → All (λ (k : SeenMove). k.id ≡ known.id → k.uses + pp_in s place slot r.state ≤ known.pp + 64 * rises (pp_in s place slot) first pairs)
    (seen_at place (public_side s (public_of r))).moves

-- Of any battle with valid terms and seed bytes, also one that ends in a fault.
abbrev pub UsesArePaid : Type 0
UsesArePaid = (t : Terms) (one two : List Member) (seed : List ℕ) (pairs : List (Choice × Choice))
    → IsTerms t → IsStream (Link seed) → IsTeam one → IsTeam two
    → (s : Side) (place slot : ℕ) → IsPaid s place slot (first_state t one two seed) pairs

-- Members that have appeared

-- A move that a member may be seen to use: one of its own, or Struggle. A free slot has the number 0.
abbrev pub IsMoveOf : Member → ℕ → Type 0
IsMoveOf m id = id ≢ 0 → (id ≡ struggle) ⊎ (any (λ (k : KnownMove). k.id == id) m.moves ≡ true)

pub record IsSeen (s : Seen) (m : Member) : Type 0 where
  pub species : s.species ≡ m.species
  pub level : s.level ≡ m.level
  pub max : s.max ≡ m.max
  pub moves : All (λ (k : SeenMove). IsMoveOf m k.id) s.moves

-- Whether a member knows a move with such an effect.
abbrev pub knows : (Effect → Bool) → Member → Bool
knows test m = any (λ (k : KnownMove). test (move_at k.id).effect) m.moves

-- The member that is out has appeared, and each member that has appeared is the one at its place. The last move is one of the active
-- member's. A member that is announced as recharging knows a move that makes it recharge.
pub record SideHasAppeared (x : PublicSide) (t : Party) : Type 0 where
  pub out : x.place ≢ 0 → (seen_at x.place x).species ≢ 0
  pub each : (place : ℕ) → (seen_at place x).species ≢ 0 → IsSeen (seen_at place x) (member_at place t)
  pub last_move : IsMoveOf (member_at t.active.place t) x.last_move
  pub recharging : x.announced.recharging ≢ 0 → knows recharges (member_at t.active.place t) ≡ true

abbrev pub MembersAgree : Type 0
MembersAgree = OfRuns λ one two r. SideHasAppeared (public_of r).one r.state.field.one × SideHasAppeared (public_of r).two r.state.field.two

-- Who put a sleeping member to sleep

-- A member sleeps by a move of the foe (1) or by Rest (2) exactly if it is shown asleep.
pub record HasCause (s : Seen) : Type 0 where
  pub asleep : s.status ≡ kind_number kinds.Sleep → (s.asleep_by ≡ 1) ⊎ (s.asleep_by ≡ 2)
  pub awake : s.status ≢ kind_number kinds.Sleep → (s.asleep_by ≢ 1) × (s.asleep_by ≢ 2)
  pub rested : s.status ≢ kind_number kinds.Sleep → s.slept ≡ 0

-- The mark of the sleep clause is on it exactly if the clause is on and a move of the foe put it to sleep. The turns that it slept and those
-- that are left are two by Rest, and seven at most by a move of the foe.
pub record IsAsleepBy (clause : Bool) (s : Seen) (m : Member) : Type 0 where
  pub cause : HasCause s
  pub mark : is_marked m.status ≡ (clause && (s.status == kind_number kinds.Sleep && s.asleep_by == 1))
  pub turns : (n : ℕ) (marked : Bool) → m.status ≡ Asleep n marked → (s.asleep_by ≡ 1 → s.slept + n ≤ 7) × (s.asleep_by ≡ 2 → s.slept + n ≡ 2)

abbrev pub SideSleeps : Bool → PublicSide → Party → Type 0
SideSleeps clause x t = (place : ℕ) → (seen_at place x).species ≢ 0 → IsAsleepBy clause (seen_at place x) (member_at place t)

abbrev pub SleepersAgree : Type 0
SleepersAgree = (t : Terms) (one two : List Member) (seed : List ℕ) (pairs : List (Choice × Choice)) → IsTeam one → IsTeam two
    → let r : Ran = run (first_state t one two seed) pairs in (s : Side) → SideSleeps t.rules.sleep_clause (public_side s (public_of r)) (party s r.state.field)

-- What a player holds

-- Members at some places, each as somebody knows the one at a place.
abbrev pub members_by : (ℕ → Seen → Seen) → List ℕ → PublicSide → List Seen
members_by known places x = map (λ place. known place (seen_at place x)) places

-- Its own members: as the log showed them, and before they appeared as the team has them.
abbrev pub own_known : List Member → ℕ → Seen → Seen
own_known team place m = if m.species == 0 then known_at (place - 1) team else m

abbrev pub own_places : List ℕ
own_places = 1 ∷ 2 ∷ 3 ∷ 4 ∷ 5 ∷ 6 ∷ []

abbrev pub own_as_known : List Member → PublicSide → PublicSide
own_as_known team x = record x { members = members_by (own_known team) own_places x }

-- The foe's members, with HP in the teller's form; none at place 0.
abbrev pub with_hp_told : Teller → Seen → Seen
with_hp_told t m = let h = health_told (record { hp = m.hp; max = m.max; kind = None }) t in record m { hp = h.hp; max = h.max }

abbrev pub foe_known : Teller → ℕ → Seen → Seen
foe_known t place m = if place == 0 then not_seen else with_hp_told t m

-- They are in the order in which they appeared, and so is the place of the active one.
abbrev pub foe_as_told : Teller → PublicSide → PublicSide
foe_as_told t x = record x { members = members_by (foe_known t) t.places x; place = (if x.place == 0 then 0 else slot_of x.place t.places + 1) }

-- All else is the same.
abbrev pub as_known : Side → List Member → Teller → Public → Public
as_known s team t p = on_public_side (other s) (foe_as_told t) (on_public_side s (own_as_known team) p)

abbrev pub team_of : Side → List Member → List Member → List Member
team_of One one two = one
team_of Two one two = two

abbrev pub first_teller : Side → ℕ → Teller
first_teller s pixels = record { side = side_number s; pixels = pixels; places = replicate 6 0 }

-- A player that was fed what its side was told of a run holds what the log of the run makes public, as its side knows it.
abbrev pub PlayerHolds : Side → ℕ → List Member → List Member → Ran → Type 0
PlayerHolds s pixels one two r = (terms : PlayerTerms) (log : List ℕ) (shown : players.Shown) (player : Player)
    → IsReading log (told_all (events_in r) (first_teller s pixels)) → IsPlayer s (team_of s one two) terms log shown player
    → player.public ≡ as_known s (team_of s one two) (meets_all (events_in r) (first_teller s pixels)) (public_of r)

abbrev pub PlayersHoldThePublic : Type 0
PlayersHoldThePublic = (s : Side) (pixels : ℕ) → OfRuns (PlayerHolds s pixels)
