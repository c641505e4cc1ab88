-- What changes of a field and events leave as it is, and how many members the sides have.
use Rattle.std.proofs.Common.{ap, slice_set, sym, ◌-◌, ◌∙◌, Bool, List, None, Option, Some, false, is_some, map, not, refl, true, true≢false, ℕ, ◌≡◌, ◌≤◌}
use Rattle.gen1_tables.specs.declared.types.Element.{Element}
use Rattle.gen1_stats.specs.declared.member.KnownMove.{KnownMove}
use Rattle.gen1_stats.specs.Members.{is_asleep, is_marked, Member}
use Rattle.gen1_tables.specs.Species.{species_row}
use Rattle.gen1_tables.specs.Types.{number_of}
use Rattle.gen1_machine.specs.Health.{Health}
use Rattle.gen1_machine.specs.LogBytes.{kind_or_0}
use Rattle.gen1_player.specs.declared.public_side.PublicSide.{PublicSide}
use Rattle.gen1_player.specs.Public.{nothing_announced, seen_at}
use Rattle.gen1_machine.specs.declared.side.Side.{Side}
use Rattle.gen1_machine.specs.declared.side.Side.TheVariants.{One, Two}
use Rattle.gen1_machine.specs.declared.event.Volatile.{Volatile}
use Rattle.gen1_machine.specs.declared.event.Volatile.TheVariants as volatiles
use Rattle.gen1_machine.specs.declared.event.CantReason.{CantReason}
use Rattle.gen1_machine.specs.declared.event.CantReason.TheVariants as reasons
use Rattle.gen1_machine.specs.declared.event.DamageSource.{DamageSource}
use Rattle.gen1_machine.specs.declared.event.DamageSource.TheVariants as sources
use Rattle.gen1_machine.specs.declared.event.Kind.{Kind}
use Rattle.gen1_machine.specs.declared.event.Kind.TheVariants as kinds
use Rattle.gen1_machine.specs.declared.event.Event.{Event}
use Rattle.gen1_machine.specs.declared.event.Event.TheVariants as events
use Rattle.gen1_machine.specs.declared.side.DisabledSlot.{DisabledSlot}
use Rattle.gen1_machine.specs.declared.side.UsedMove.{UsedMove}
use Rattle.gen1_machine.specs.Sides.{other}
use Rattle.gen1_machine.specs.Conditions.{after_haze, less_by, one_turn_less, stored, with_bide_storing, with_worse_poison, Storing, with_confusion_one_less, with_disable_one_less, with_substitute_hurt, without_trapping, ActiveConditions}
use Rattle.gen1_machine.specs.State.{Active, Field, changed_active, changed_conditions, health_in, level_stages, member_at, member_in, nobody_out, party, status_in, with_status}
use Rattle.gen1_machine.specs.EarlyEffects.{with_levelled_stats}
use Rattle.gen1_machine.specs.CurrentStats.{with_penalty_of}
use Rattle.gen1_machine.specs.SwitchingIn.{with_sent_out}
use Rattle.gen1_stats.specs.declared.member.Status.{Status}
use Rattle.gen1_stats.specs.declared.member.Status.TheVariants.{Burned, Paralysed}

-- What changes leave as it is

-- The conditions of which the log tells all.
pub record Plain : Type 0 where
  pub mist : Bool
  pub focus_energy : Bool
  pub disabled : Bool
  pub rage : Bool
  pub seeded : Bool

abbrev pub plain : ActiveConditions → Plain
plain c = record { mist = c.mist; focus_energy = c.focus_energy; disabled = is_some c.disabled; rage = c.underway.rage; seeded = c.seeded }

-- Those with one of them begun or ended.
abbrev pub marked : Volatile → Bool → Plain → Plain
marked volatiles.Mist on x = record x { mist = on }
marked volatiles.FocusEnergy on x = record x { focus_energy = on }
marked volatiles.Disable on x = record x { disabled = on }
marked volatiles.Rage on x = record x { rage = on }
marked volatiles.LeechSeed on x = record x { seeded = on }
marked _ on x = x

abbrev pub Mild : (ActiveConditions → ActiveConditions) → Type 0
Mild change = (c : ActiveConditions) → plain (change c) ≡ plain c

-- The conditions that stories follow.
pub record Followed : Type 0 where
  pub mist : Bool
  pub focus_energy : Bool
  pub disabled : Bool
  pub rage : Bool
  pub seeded : Bool
  pub substitute : Bool
  pub bide : Bool
  pub charging : Bool
  pub invulnerable : Bool
  pub poison : Option ℕ  -- the counter of bad poison

abbrev pub followed : ActiveConditions → Followed
followed c = let u = c.underway in record {
  mist = c.mist;
  focus_energy = c.focus_energy;
  disabled = is_some c.disabled;
  rage = u.rage;
  seeded = c.seeded;
  substitute = is_some c.substitute;
  bide = is_some u.bide;
  charging = u.charging;
  invulnerable = c.invulnerable;
  poison = c.bad_poison;
}

abbrev pub plain_of : Followed → Plain
plain_of x = record { mist = x.mist; focus_energy = x.focus_energy; disabled = x.disabled; rage = x.rage; seeded = x.seeded }

abbrev pub noted : Volatile → Bool → Followed → Followed
noted volatiles.Mist on x = record x { mist = on }
noted volatiles.FocusEnergy on x = record x { focus_energy = on }
noted volatiles.Disable on x = record x { disabled = on }
noted volatiles.Rage on x = record x { rage = on }
noted volatiles.LeechSeed on x = record x { seeded = on }
noted volatiles.Substitute on x = record x { substitute = on }
noted volatiles.Bide on x = record x { bide = on }
noted _ on x = x

abbrev pub Calm : (ActiveConditions → ActiveConditions) → Type 0
Calm change = (c : ActiveConditions) → followed (change c) ≡ followed c

pub calm-mild : (change : ActiveConditions → ActiveConditions) → Calm change → Mild change
calm-mild change h c = ap plain_of (h c)

-- A change that begins or ends a volatile. Types don't belong to the conditions.
abbrev pub Marks : Volatile → Bool → (ActiveConditions → ActiveConditions) → Type 0
Marks volatiles.TypeChange on change = ⊥
Marks what on change = (c : ActiveConditions) → followed (change c) ≡ noted what on (followed c)

-- Bide begins with the use of a move.
abbrev pub Starts : Volatile → (ActiveConditions → ActiveConditions) → Type 0
Starts volatiles.Bide change = ⊥
Starts what change = Marks what true change

pub starts-marks : (what : Volatile) (change : ActiveConditions → ActiveConditions) → Starts what change → Marks what true change
starts-marks volatiles.Mist change h = h
starts-marks volatiles.FocusEnergy change h = h
starts-marks volatiles.Disable change h = h
starts-marks volatiles.Rage change h = h
starts-marks volatiles.LeechSeed change h = h
starts-marks volatiles.Confusion change h = h
starts-marks volatiles.Bide change h = absurd h
starts-marks volatiles.Substitute change h = h
starts-marks volatiles.LightScreen change h = h
starts-marks volatiles.Reflect change h = h
starts-marks volatiles.TypeChange change h = h
starts-marks volatiles.Trapped change h = h
starts-marks volatiles.Splash change h = h

pub confusion-calm : Calm with_confusion_one_less
unfolding with_confusion_one_less
confusion-calm c = refl

pub substitute-calm : (damage : ℕ) → Calm (with_substitute_hurt damage)
unfolding with_substitute_hurt
substitute-calm damage c = by c.substitute
  where
    by : (o : Option ℕ) → record (followed c) { substitute = is_some (less_by damage o) } ≡ record (followed c) { substitute = is_some o }
    by None = refl
    by (Some hp) = refl

pub worse-mild : Mild with_worse_poison
unfolding with_worse_poison
worse-mild c = refl

pub storing-calm : (damage : ℕ) → Calm (with_bide_storing damage)
unfolding with_bide_storing
storing-calm damage c = by c.underway.bide
  where
    by : (o : Option Storing) → record (followed c) { bide = is_some (stored damage o) } ≡ record (followed c) { bide = is_some o }
    by None = refl
    by (Some b) = refl

pub disable-calm : Calm with_disable_one_less
unfolding with_disable_one_less
disable-calm c = by c.disabled
  where
    by : (o : Option DisabledSlot) → record (followed c) { disabled = is_some (one_turn_less o) } ≡ record (followed c) { disabled = is_some o }
    by None = refl
    by (Some d) = refl

-- An active member without its stages, and without all that belongs to picks.
pub record Standing : Type 0 where
  pub place : ℕ
  pub first_type : Element
  pub second_type : Element
  pub current_move : UsedMove
  pub conditions : ActiveConditions

abbrev pub standing : Active → Standing
standing a = record { place = a.place; first_type = a.first_type; second_type = a.second_type; current_move = a.current_move; conditions = a.conditions }

abbrev pub Placid : (Active → Active) → Type 0
Placid change = (a : Active) → standing (change a) ≡ standing a

pub penalty-placid : (status : Status) → Placid (with_penalty_of status)
unfolding with_penalty_of
penalty-placid Paralysed a = refl
penalty-placid Burned a = refl
penalty-placid _ a = refl

-- A member that has just come out.
abbrev pub fresh : ℕ → Member → Active
fresh place m = record nobody_out { place = place; first_type = (species_row m.species).first_type; second_type = (species_row m.species).second_type }

pub sent-standing : (place : ℕ) (m : Member) (a : Active) → standing (with_sent_out place m a) ≡ standing (fresh place m)
unfolding with_sent_out
sent-standing place m a = penalty-placid m.status (fresh place m)

pub sent-place : (place : ℕ) (m : Member) (a : Active) → (with_sent_out place m a).place ≡ place
sent-place place m a = ap (λ (x : Standing). x.place) (sent-standing place m a)

-- What no battle changes of a member.
pub record Traits : Type 0 where
  pub species : ℕ
  pub level : ℕ
  pub max : ℕ
  pub moves : List ℕ

abbrev pub traits : Member → Traits
traits m = record { species = m.species; level = m.level; max = m.max; moves = map (λ (k : KnownMove). k.id) m.moves }

abbrev pub Tame : (Member → Member) → Type 0
Tame change = (m : Member) → traits (change m) ≡ traits m

-- What only the use of a move changes of a member: its moves with their PP.
pub record Belongings : Type 0 where
  pub species : ℕ
  pub level : ℕ
  pub max : ℕ
  pub moves : List KnownMove

abbrev pub belongings : Member → Belongings
belongings m = record { species = m.species; level = m.level; max = m.max; moves = m.moves }

-- A change that spends no PP.
abbrev pub Sparing : (Member → Member) → Type 0
Sparing change = (m : Member) → belongings (change m) ≡ belongings m

abbrev traits_of : Belongings → Traits
traits_of b = record { species = b.species; level = b.level; max = b.max; moves = map (λ (k : KnownMove). k.id) b.moves }

pub sparing-tame : (change : Member → Member) → Sparing change → Tame change
sparing-tame change h m = ap traits_of (h m)

-- A change after which a member sleeps only if it did before, with the same count and mark.
abbrev pub Restful : (Member → Member) → Type 0
Restful change = (m : Member) → is_asleep (change m).status ≡ true → (change m).status ≡ m.status

pub restful-status : (status : Status) → is_asleep status ≡ false → Restful (with_status status)
unfolding with_status
restful-status status k m e = absurd (true≢false (sym e ∙ k))

-- The active member of a side does not sleep.
abbrev pub IsAwake : Side → Field → Type 0
IsAwake s f = is_asleep (status_in s f) ≡ false

-- The active member of a side goes on to sleep if it does.
abbrev pub SleepsOn : Side → (Member → Member) → Field → Type 0
SleepsOn s change f = is_asleep (status_in s f) ≡ true → is_asleep (change (member_in s f)).status ≡ true

-- Events that tell nothing of what a story follows.
abbrev pub is_noise : Event → Bool
is_noise (events.Switch w place level h) = false
is_noise (events.Move w move foe) = false
is_noise (events.Prepare w move) = false
is_noise (events.Start w what) = false
is_noise (events.End w what) = false
is_noise events.ClearAll = false
is_noise (events.MustRecharge w) = false
is_noise _ = true

-- Damage that tells more than HP: a hit on itself, and what makes bad poison worse.
abbrev pub is_telling : DamageSource → Bool
is_telling sources.Direct = false
is_telling sources.Recoil = false
is_telling _ = true

-- What makes bad poison worse.
abbrev pub is_residual : DamageSource → Bool
is_residual sources.Poison = true
is_residual sources.Burn = true
is_residual sources.LeechSeed = true
is_residual _ = false

abbrev pub is_poison : Kind → Bool
is_poison kinds.Poison = true
is_poison _ = false

abbrev pub is_sleep : Kind → Bool
is_sleep kinds.Sleep = true
is_sleep _ = false

-- Events that also tell nothing of the conditions that end with an act.
abbrev pub is_dull : Event → Bool
is_dull (events.Cant w why) = false
is_dull (events.Damage w h source) = not (is_telling source)
is_dull (events.Status w kind) = not (is_poison kind)
is_dull (events.Activate w volatiles.Confusion) = false
is_dull event = is_noise event

-- Those that name no health.
abbrev pub is_still : Event → Bool
is_still (events.Damage w h source) = false
is_still (events.Heal w h) = false
is_still (events.Status w kind) = false
is_still (events.Cure w kind) = false
is_still (events.Faint w) = false
is_still event = is_dull event

abbrev pub is_doze : CantReason → Bool
is_doze reasons.Asleep = true
is_doze _ = false

-- They name the health of the member that is out, which does not fall asleep, sleep on, wake up or fall.
abbrev pub Noise : Field → Event → Type 0
Noise f (events.Damage w h source) = h ≡ health_in w.side f
Noise f (events.Heal w h) = h ≡ health_in w.side f
Noise f (events.Status w kind) = is_sleep kind ≡ false
Noise f (events.Cure w kind) = ⊥
Noise f (events.Faint w) = ⊥
Noise f (events.Cant w why) = is_doze why ≡ false
Noise f event = is_noise event ≡ true

abbrev pub Dull : Field → Event → Type 0
Dull f (events.Damage w h source) = (h ≡ health_in w.side f) × (is_telling source ≡ false)
Dull f (events.Heal w h) = h ≡ health_in w.side f
Dull f (events.Status w kind) = (is_poison kind ≡ false) × (is_sleep kind ≡ false)
Dull f (events.Cure w kind) = ⊥
Dull f (events.Faint w) = ⊥
Dull f event = is_dull event ≡ true

pub noise-is : (f : Field) (e : Event) → Noise f e → is_noise e ≡ true
noise-is f (events.Damage w h source) n = refl
noise-is f (events.Heal w h) n = refl
noise-is f (events.Status w kind) n = refl
noise-is f (events.Cure w kind) n = absurd n
noise-is f (events.Faint w) n = absurd n
noise-is f (events.Cant w why) n = refl
noise-is f _ n = n

pub dull-noise : (f : Field) (e : Event) → Dull f e → Noise f e
dull-noise f (events.Damage w h source) n = n.0
dull-noise f (events.Heal w h) n = n
dull-noise f (events.Cant w why) n = absurd (true≢false (sym n))
dull-noise f (events.Status w kind) n = n.1
dull-noise f (events.Cure w kind) n = n
dull-noise f (events.Faint w) n = n
dull-noise f (events.Activate w what) n = refl
dull-noise f (events.Switch w place level h) n = n
dull-noise f (events.Move w move foe) n = n
dull-noise f (events.Prepare w move) n = n
dull-noise f (events.Start w what) n = n
dull-noise f (events.End w what) n = n
dull-noise f events.ClearAll n = n
dull-noise f (events.MustRecharge w) n = n
dull-noise f _ n = refl

pub still-is : (f : Field) (e : Event) → is_still e ≡ true → Dull f e
still-is f (events.Damage w h source) n = absurd (true≢false (sym n))
still-is f (events.Heal w h) n = absurd (true≢false (sym n))
still-is f (events.Status w kind) n = absurd (true≢false (sym n))
still-is f (events.Cure w kind) n = absurd (true≢false (sym n))
still-is f (events.Faint w) n = absurd (true≢false (sym n))
still-is f _ n = n

-- Fields after a change of both sides, or of more than one part

abbrev pub with_cleared : Side → Field → Field
with_cleared s f = changed_conditions s after_haze (changed_active s with_levelled_stats f)

abbrev pub sent : Side → ℕ → Field → Field
sent s place f = changed_conditions (other s) without_trapping (changed_active s (with_sent_out place (member_at place (party s f))) f)

-- A side whose member has come out.
abbrev pub side_out : ℕ → ℕ → ℕ → Health → PublicSide → PublicSide
side_out species place level h x = record x {
  members = slice_set x.members (place - 1) (record (seen_at place x) { species = species; level = level; hp = h.hp; max = h.max; status = kind_or_0 h.kind });
  stages = level_stages;
  place = place;
  first_type = number_of (species_row species).first_type;
  second_type = number_of (species_row species).second_type;
  last_move = 0;
  announced = nothing_announced;
  invulnerable = 0;
}

-- How many members the sides have.
pub record Sizes : Type 0 where
  pub one : ℕ
  pub two : ℕ

abbrev pub size_of : Side → Sizes → ℕ
size_of One n = n.one
size_of Two n = n.two

-- A place that holds a member.
abbrev pub Fits : Sizes → Side → ℕ → Type 0
Fits n s place = (1 ≤ place) × (place ≤ size_of s n)
