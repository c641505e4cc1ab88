-- What the log of a battle makes public of both sides (docs/MECHANICS.md, "What the log makes public"). It is made from the events alone.
-- The records are the plain structs of the code: a flag is 1 where it holds and 0 where it doesn't.
use Rattle.std.specs.Prelude.{Bool, List, None, Option, Some, [], if◌then◌else◌, min, nat_le, not, replicate, slice_index_or, slice_set, true, ℕ, ◌&&◌, ◌+◌, ◌-◌, ◌==◌, ◌||◌, ◌∷◌}
use Rattle.std.specs.List.{position}
use Rattle.gen1_tables.specs.declared.effect.Effect.{Effect}
use Rattle.gen1_tables.specs.declared.effect.Stat.{Stat}
use Rattle.gen1_tables.specs.Effects.{hides, thrashes, traps}
use Rattle.gen1_tables.specs.Species.{species_row}
use Rattle.gen1_tables.specs.Types.{number_of}
use Rattle.gen1_machine.specs.declared.side.Side.{Side}
use Rattle.gen1_machine.specs.declared.side.Side.TheVariants.{One, Two}
use Rattle.gen1_machine.specs.declared.event.Kind.{Kind}
use Rattle.gen1_machine.specs.declared.event.CantReason.{CantReason}
use Rattle.gen1_machine.specs.declared.event.DamageSource.{DamageSource}
use Rattle.gen1_machine.specs.declared.event.Volatile.{Volatile}
use Rattle.gen1_machine.specs.declared.event.Event.{Event}
use Rattle.gen1_machine.specs.Health.{Health}
use Rattle.gen1_machine.specs.Layout.{outcome_byte}
use Rattle.gen1_machine.specs.LogBytes.{kind_or_0}
use Rattle.gen1_machine.specs.Moves.{move_at, rest, toxic}
use Rattle.gen1_machine.specs.Numbers.{kind_number, side_number}
use Rattle.gen1_machine.specs.Sides.{other}
use Rattle.gen1_machine.specs.State.{level_stages}
use Rattle.gen1_machine.specs.CurrentStats.{stage_of, with_stage}
use Rattle.gen1_machine.specs.View.{won_by}
use Rattle.gen1_player.specs.declared.announced.Announced.{Announced}
use Rattle.gen1_player.specs.declared.public.Public.{Public}
use Rattle.gen1_player.specs.declared.public_side.PublicSide.{PublicSide}
use Rattle.gen1_player.specs.declared.seen.Seen.{Seen}
use Rattle.gen1_player.specs.declared.seen.SeenMove.{SeenMove}
use Rattle.gen1_tables.specs.declared.effect.Effect.TheVariants as effects
use Rattle.gen1_machine.specs.declared.terms.Outcome.TheVariants as outcomes
use Rattle.gen1_machine.specs.declared.event.Kind.TheVariants as kinds
use Rattle.gen1_machine.specs.declared.event.CantReason.TheVariants as reasons
use Rattle.gen1_machine.specs.declared.event.DamageSource.TheVariants as sources
use Rattle.gen1_machine.specs.declared.event.Volatile.TheVariants as volatiles
use Rattle.gen1_machine.specs.declared.event.Event.TheVariants as events

-- A slot of a member's moves in which none was seen.
abbrev pub not_used : SeenMove
not_used = record { id = 0; uses = 0 }

-- A place from which no member has appeared: its species is 0. A member shows at most five moves, four and Struggle.
abbrev pub not_seen : Seen
not_seen = record { hp = 0; max = 0; species = 0; level = 0; status = 0; moves = replicate 5 not_used; asleep_by = 0; slept = 0; unused = 0 }

abbrev pub nothing_announced : Announced
nothing_announced = record {
  substitute = 0;
  confused = 0;
  mist = 0;
  focus_energy = 0;
  light_screen = 0;
  reflect = 0;
  seeded = 0;
  toxic = 0;
  toxic_count = 0;
  disabled = 0;
  rage = 0;
  bide = 0;
  charging = 0;
  recharging = 0;
}

-- No member is out: the place is 0. The last move is 0 for none.
abbrev pub first_public_side : PublicSide
first_public_side = record {
  members = replicate 6 not_seen;
  stages = level_stages;
  place = 0;
  first_type = 0;
  second_type = 0;
  last_move = 0;
  announced = nothing_announced;
  invulnerable = 0;
  unused = 0;
}

-- Before the first event nothing is public.
abbrev pub first_public : Public
first_public = record { one = first_public_side; two = first_public_side; turn = 0; outcome = outcome_byte outcomes.Ongoing; may_hit_itself = 0 }

abbrev pub public_side : Side → Public → PublicSide
public_side One p = p.one
public_side Two p = p.two

abbrev pub on_public_side : Side → (PublicSide → PublicSide) → Public → Public
on_public_side One f p = record p { one = f p.one }
on_public_side Two f p = record p { two = f p.two }

-- An event changes nothing of a side while no member of that side is out.
abbrev pub if_seen_out : (PublicSide → PublicSide) → PublicSide → PublicSide
if_seen_out f x = if x.place == 0 then x else f x

unfoldable pub on_out : Side → (PublicSide → PublicSide) → Public → Public
on_out s f = on_public_side s (if_seen_out f)

-- The member at a place, counted from 1.
abbrev pub seen_at : ℕ → PublicSide → Seen
seen_at place x = slice_index_or x.members (place - 1) not_seen

-- A change of the active member.
abbrev pub on_seen : (Seen → Seen) → PublicSide → PublicSide
on_seen f x = record x { members = slice_set x.members (x.place - 1) (f (seen_at x.place x)) }

abbrev pub on_announced : (Announced → Announced) → PublicSide → PublicSide
on_announced f x = record x { announced = f x.announced }

-- Moves that a member was seen to prepare or to use

-- More uses in a slot; none without a slot. The count stops at 255.
abbrev pub used_in : ℕ → Option ℕ → ℕ → List SeenMove → List SeenMove
used_in more None move slots = slots
used_in more (Some k) move slots = slice_set slots k (record { id = move; uses = min 255 ((slice_index_or slots k not_used).uses + more) })

-- The slot of a move: its own, or the first free one.
abbrev pub is_slot : ℕ → SeenMove → Bool
is_slot move m = m.id == move || m.id == 0

-- More uses of a move: one, or none as it is prepared or continues.
abbrev pub used_more : ℕ → ℕ → List SeenMove → List SeenMove
used_more more move slots = used_in more (position (is_slot move) slots) move slots

-- How a member fell asleep

-- The numbers of what put it to sleep: 0 while it is awake, 1 for a move of the foe, 2 for Rest. It is 3 while it is awake, but has used
-- Rest, and the foe no move since: if it falls asleep then, it is by Rest.
abbrev pub may_rest : ℕ → ℕ
may_rest move = if move == rest then 3 else 0

abbrev pub rests_no_more : ℕ → ℕ
rests_no_more n = if n == 3 then 0 else n

abbrev pub put_to_sleep_by : ℕ → ℕ
put_to_sleep_by n = if n == 3 then 2 else 1

-- Changes of a member: it uses a move, the foe uses one, it gets a status, is cured, falls.

abbrev pub uses_again : ℕ → ℕ → Seen → Seen
uses_again more move m = record m { moves = used_more more move m.moves; asleep_by = may_rest move }

abbrev pub is_overtaken : Seen → Seen
is_overtaken m = record m { asleep_by = rests_no_more m.asleep_by }

abbrev pub asleep_after : Kind → ℕ → ℕ
asleep_after kinds.Sleep n = put_to_sleep_by n
asleep_after _ n = n

abbrev pub slept_after : Kind → ℕ → ℕ
slept_after kinds.Sleep n = 0
slept_after _ n = n

abbrev pub is_afflicted : Kind → Seen → Seen
is_afflicted kind m = record m { status = kind_number kind; asleep_by = asleep_after kind m.asleep_by; slept = slept_after kind m.slept }

abbrev pub is_cured : Seen → Seen
is_cured m = record m { status = 0; asleep_by = 0; slept = 0 }

abbrev pub has_fainted : Seen → Seen
has_fainted m = record m { hp = 0; status = 0; asleep_by = 0; slept = 0 }

-- A turn that it sleeps.
abbrev pub slept_on : CantReason → ℕ → ℕ
slept_on reasons.Asleep n = min 6 (n + 1)
slept_on _ n = n

abbrev pub sleeps_on : CantReason → Seen → Seen
sleeps_on why m = record m { slept = slept_on why m.slept }

-- A member that comes out has nothing from before.
abbrev pub comes_out : ℕ → ℕ → ℕ → Health → PublicSide → PublicSide
comes_out species place level h x =
    if nat_le 1 place && nat_le place 6
    then record x {
      members = slice_set x.members (place - 1) (record (seen_at place x) { species = species; level = level; hp = h.hp; max = h.max; status = kind_or_0 h.kind });
      stages = level_stages;
      place = place;
      first_type = number_of (species_row species).first_type;
      second_type = number_of (species_row species).second_type;
      last_move = 0;
      announced = nothing_announced;
      invulnerable = 0;
    }
    else x

-- The use of a move ends Bide, charging and recharging. A charged move brings its user back into reach; another move doesn't.
abbrev pub strikes : PublicSide → PublicSide
strikes x = record x {
  announced = record x.announced { bide = 0; charging = 0; recharging = 0 };
  invulnerable = (if x.announced.charging == 0 then x.invulnerable else 0);
}

-- Moves that may last some turns, without PP, and whose end the log need not report.
abbrev pub may_go_on : Effect → Bool
may_go_on effect = traps effect || thrashes effect

-- Whether a move that is used now may be going on: Rage, once it is announced, and one of these moves if it was the last one too.
abbrev pub is_going_on : ℕ → PublicSide → Bool
is_going_on move x = not (x.announced.rage == 0) || x.last_move == move && may_go_on (move_at move).effect

-- How many uses are counted.
abbrev pub new_uses : ℕ → PublicSide → ℕ
new_uses move x = if is_going_on move x then 0 else 1

-- A move that its user was seen to use, of which some uses are counted.
abbrev pub uses_times : ℕ → ℕ → PublicSide → PublicSide
uses_times more move x = strikes (on_seen (uses_again more move) (record x { last_move = move }))

abbrev pub uses_move : ℕ → PublicSide → PublicSide
uses_move move x = uses_times (new_uses move x) move x

-- The first turn of a charging move. Who acts recharges no more. Fly and Dig take their user out of reach.
abbrev pub charges_up : Bool → PublicSide → PublicSide
charges_up hidden x = record x { announced = record x.announced { charging = 1; recharging = 0 }; invulnerable = (if hidden then 1 else x.invulnerable) }

abbrev pub prepares : ℕ → PublicSide → PublicSide
prepares move x = charges_up (hides (move_at move).effect)
    (on_seen (uses_again 0 move) (record x { last_move = move }))

-- Trapping moves and moves that put to sleep end the recharging of the foe (docs/MECHANICS.md, "Late effects", "Going on"). Any move
-- comes after the foe's Rest.
abbrev pub ends_recharging : Effect → Bool
ends_recharging effects.InflictSleep = true
ends_recharging effect = traps effect

abbrev pub recharges_unless : Bool → PublicSide → PublicSide
recharges_unless ended x = if ended then on_announced (λ a. record a { recharging = 0 }) x else x

abbrev pub suffers_move : ℕ → PublicSide → PublicSide
suffers_move move x = recharges_unless (ends_recharging (move_at move).effect) (on_seen is_overtaken x)

-- What keeps a member from acting ends some of what it was doing.
abbrev pub is_kept_by : CantReason → Announced → Announced
is_kept_by reasons.Flinched a = record a { recharging = 0 }
is_kept_by reasons.Recharging a = record a { recharging = 0 }
is_kept_by reasons.Disabled a = record a { charging = 0 }
is_kept_by reasons.Paralysed a = record a { bide = 0; charging = 0 }
is_kept_by _ a = a

abbrev pub is_kept : CantReason → PublicSide → PublicSide
is_kept why x = on_announced (is_kept_by why) (on_seen (sleeps_on why) x)

-- The counter of bad poison rises to 64 at most.
abbrev pub worsens : Announced → Announced
worsens a = if a.toxic == 0 then a else record a { toxic_count = min 64 (a.toxic_count + 1) }

-- A hit on itself ends the same as full paralysis, and brings the member back into reach. Poison, a burn and Leech Seed make bad poison
-- worse.
abbrev pub is_hurt_by : DamageSource → Announced → Announced
is_hurt_by sources.Confusion a = record a { bide = 0; charging = 0 }
is_hurt_by sources.Poison a = worsens a
is_hurt_by sources.Burn a = worsens a
is_hurt_by sources.LeechSeed a = worsens a
is_hurt_by _ a = a

abbrev pub reach_after : DamageSource → ℕ → ℕ
reach_after sources.Confusion invulnerable = 0
reach_after _ invulnerable = invulnerable

abbrev pub takes_damage : DamageSource → PublicSide → PublicSide
takes_damage source x = record x { announced = is_hurt_by source x.announced; invulnerable = reach_after source x.invulnerable }

-- Poison that follows Toxic is bad poison, and its counter begins at 0. A freeze ends recharging.
abbrev pub gets_status : Kind → ℕ → Announced → Announced
gets_status kinds.Poison move a = if move == toxic then record a { toxic = 1; toxic_count = 0 } else a
gets_status kinds.Freeze move a = record a { recharging = 0 }
gets_status _ move a = a

abbrev pub set_volatile : Volatile → ℕ → Announced → Announced
set_volatile volatiles.Confusion on a = record a { confused = on }
set_volatile volatiles.Bide on a = record a { bide = on }
set_volatile volatiles.Substitute on a = record a { substitute = on }
set_volatile volatiles.LeechSeed on a = record a { seeded = on }
set_volatile volatiles.Mist on a = record a { mist = on }
set_volatile volatiles.FocusEnergy on a = record a { focus_energy = on }
set_volatile volatiles.LightScreen on a = record a { light_screen = on }
set_volatile volatiles.Reflect on a = record a { reflect = on }
set_volatile volatiles.Disable on a = record a { disabled = on }
set_volatile volatiles.Rage on a = record a { rage = on }
set_volatile _ on a = a

-- Haze
abbrev pub ends_by_haze : Announced → Announced
ends_by_haze a = record a {
  confused = 0;
  mist = 0;
  focus_energy = 0;
  light_screen = 0;
  reflect = 0;
  seeded = 0;
  toxic = 0;
  toxic_count = 0;
  disabled = 0;
}

abbrev pub is_cleared : PublicSide → PublicSide
is_cleared x = on_announced ends_by_haze (record x { stages = level_stages })

-- Conversion copies the types of the foe.
abbrev pub takes_types : PublicSide → PublicSide → PublicSide
takes_types foe x = record x { first_type = foe.first_type; second_type = foe.second_type }

-- Bide is used as it starts. No Move is written.
abbrev pub bide : ℕ
bide = 117

abbrev pub starts_bide : PublicSide → PublicSide
starts_bide x = on_announced (set_volatile volatiles.Bide 1) (uses_times 1 bide x)

abbrev pub begins : Side → Volatile → Public → Public
begins s volatiles.TypeChange p = on_out s (takes_types (public_side (other s) p)) p
begins s volatiles.Bide p = on_out s starts_bide p
begins s what p = on_out s (on_announced (set_volatile what 1)) p

abbrev pub rises : Stat → ℕ → PublicSide → PublicSide
rises stat n x = record x { stages = with_stage stat (min 12 (stage_of stat x.stages + n)) x.stages }

abbrev pub drops : Stat → ℕ → PublicSide → PublicSide
drops stat n x = record x { stages = with_stage stat (stage_of stat x.stages - n) x.stages }

-- A hit on itself that no event reports

-- A confused member behind its own Substitute isn't hurt by its hit on itself. If it hits itself, the next event is not its act.
abbrev pub waiting_for : Side → Volatile → ℕ → ℕ
waiting_for s volatiles.Confusion substitute = if substitute == 0 then 0 else side_number s
waiting_for s _ substitute = 0

abbrev pub activates : Side → Volatile → Public → Public
activates s what p = record p { may_hit_itself = waiting_for s what (public_side s p).announced.substitute }

-- The number of the side whose member acts, or is kept from acting; 0 for none.
abbrev pub acting : Event → ℕ
acting (events.Move w move foe) = side_number w.side
acting (events.Cant w why) = side_number w.side
acting (events.Prepare w move) = side_number w.side
acting (events.Start w what) = side_number w.side
acting (events.End w what) = side_number w.side
acting (events.Activate w what) = side_number w.side
acting _ = 0

abbrev pub broken_off_if : Bool → PublicSide → PublicSide
broken_off_if hit x = if hit then takes_damage sources.Confusion x else x

-- Whether the member of a side of this number has hit itself, by the side that acts next.
abbrev pub has_hit_itself : ℕ → ℕ → ℕ → Bool
has_hit_itself n actor waiting = waiting == n && not (actor == n)

abbrev pub settled_by : ℕ → Public → Public
settled_by actor p = record p {
  one = broken_off_if (has_hit_itself 1 actor p.may_hit_itself) p.one;
  two = broken_off_if (has_hit_itself 2 actor p.may_hit_itself) p.two;
  may_hit_itself = 0;
}

-- What an event says of the hit that may have come before it.
unfoldable pub settled : Event → Public → Public
settled event p = settled_by (acting event) p

-- What an event says by itself
unfoldable pub takes_in : Event → Public → Public
takes_in (events.Turn n) p = record p { turn = n }
takes_in (events.Switch w place level h) p = on_public_side w.side (comes_out w.species place level h) p
takes_in (events.Move w move foe) p = on_out (other w.side) (suffers_move move) (on_out w.side (uses_move move) p)
takes_in (events.Cant w why) p = on_out w.side (is_kept why) p
takes_in (events.Damage w h source) p = on_out w.side (λ x. takes_damage source (on_seen (λ m. record m { hp = h.hp }) x)) p
takes_in (events.Heal w h) p = on_out w.side (on_seen (λ m. record m { hp = h.hp })) p
takes_in (events.Status w kind) p =
    on_out w.side (λ x. on_announced (gets_status kind (public_side (other w.side) p).last_move) (on_seen (is_afflicted kind) x)) p
takes_in (events.Cure w kind) p = on_out w.side (on_seen is_cured) p
takes_in (events.Faint w) p = on_out w.side (on_seen has_fainted) p
takes_in (events.Boost w stat n) p = on_out w.side (rises stat n) p
takes_in (events.Unboost w stat n) p = on_out w.side (drops stat n) p
takes_in events.ClearAll p = on_out Two is_cleared (on_out One is_cleared p)
takes_in (events.Start w what) p = begins w.side what p
takes_in (events.End w what) p = on_out w.side (on_announced (set_volatile what 0)) p
takes_in (events.Activate w what) p = activates w.side what p
takes_in (events.Prepare w move) p = on_out w.side (prepares move) p
takes_in (events.MustRecharge w) p = on_out w.side (on_announced (λ a. record a { recharging = 1 })) p
takes_in (events.Win s) p = record p { outcome = outcome_byte (won_by s) }
takes_in events.Tie p = record p { outcome = outcome_byte outcomes.Tie }
takes_in (events.Fault n) p = record p { outcome = outcome_byte (outcomes.Fault n) }
takes_in _ p = p

-- What an event makes public
unfoldable pub hears : Event → Public → Public
hears event p = takes_in event (settled event p)

unfoldable pub hears_all : List Event → Public → Public
hears_all [] p = p
hears_all (event ∷ more) p = hears_all more (hears event p)

-- What an event changes of the side whose member it names, and of its foe (docs/MECHANICS.md, "What the log makes public").

-- the side that an event names, if it changes what is public of it
abbrev pub side_named : Event → Option Side
side_named (events.Switch w place level h) = Some w.side
side_named (events.Move w move foe) = Some w.side
side_named (events.Cant w why) = Some w.side
side_named (events.Damage w h source) = Some w.side
side_named (events.Heal w h) = Some w.side
side_named (events.Status w kind) = Some w.side
side_named (events.Cure w kind) = Some w.side
side_named (events.Faint w) = Some w.side
side_named (events.Boost w stat n) = Some w.side
side_named (events.Unboost w stat n) = Some w.side
side_named (events.Start w what) = Some w.side
side_named (events.End w what) = Some w.side
side_named (events.Prepare w move) = Some w.side
side_named (events.MustRecharge w) = Some w.side
side_named _ = None

abbrev pub side_begins : Volatile → PublicSide → PublicSide → PublicSide
side_begins volatiles.TypeChange foe x = if_seen_out (takes_types foe) x
side_begins volatiles.Bide foe x = if_seen_out starts_bide x
side_begins what foe x = if_seen_out (on_announced (set_volatile what 1)) x

-- how it changes that side, next to its foe
abbrev pub side_hears : Event → PublicSide → PublicSide → PublicSide
side_hears (events.Switch w place level h) foe x = comes_out w.species place level h x
side_hears (events.Move w move other) foe x = if_seen_out (uses_move move) x
side_hears (events.Cant w why) foe x = if_seen_out (is_kept why) x
side_hears (events.Damage w h source) foe x = if_seen_out (λ y. takes_damage source (on_seen (λ m. record m { hp = h.hp }) y)) x
side_hears (events.Heal w h) foe x = if_seen_out (on_seen (λ m. record m { hp = h.hp })) x
side_hears (events.Status w kind) foe x =
    if_seen_out (λ y. on_announced (gets_status kind foe.last_move) (on_seen (is_afflicted kind) y)) x
side_hears (events.Cure w kind) foe x = if_seen_out (on_seen is_cured) x
side_hears (events.Faint w) foe x = if_seen_out (on_seen has_fainted) x
side_hears (events.Boost w stat n) foe x = if_seen_out (rises stat n) x
side_hears (events.Unboost w stat n) foe x = if_seen_out (drops stat n) x
side_hears (events.Start w what) foe x = side_begins what foe x
side_hears (events.End w what) foe x = if_seen_out (on_announced (set_volatile what 0)) x
side_hears (events.Prepare w move) foe x = if_seen_out (prepares move) x
side_hears (events.MustRecharge w) foe x = if_seen_out (on_announced (λ a. record a { recharging = 1 })) x
side_hears _ foe x = x

-- how it changes the foe of that side
abbrev pub foe_hears : Event → PublicSide → PublicSide
foe_hears (events.Move w move other) x = if_seen_out (suffers_move move) x
foe_hears _ x = x

-- the member at a place from 1; none at place 0
abbrev pub seen_or_none : ℕ → PublicSide → Seen
seen_or_none place x = if place == 0 then not_seen else seen_at place x
