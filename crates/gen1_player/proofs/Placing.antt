-- Each switch that a run logs names a place that holds a member. So what is public agrees with what a spectator sees.
use Rattle.std.proofs.Common.{[], Bool, List, None, Some, ap, arith, false, get_or, get_or-set_same, if◌then◌else◌, inl, inr, length, length-set, map, min, nat_le, refl, replicate, slice_index_or, slice_set, subst, suc, sym, true, zero, ℕ, ◌&&◌, ◌+◌, ◌-◌, ◌<◌, ◌==◌, ◌∙◌, ◌∷◌, ◌≡◌, ◌≢◌, ◌≤◌, ◌⊎◌, true≢false, ◌++◌}
use Rattle.std.proofs.lemmas.Bool.{le-leb}
use Rattle.std.proofs.lemmas.Bool.Decides.{eqb_tells}
use Rattle.std.proofs.lemmas.List.{get_or-set_other, length-map, map-set}
use Rattle.std.proofs.Math.ListN.{get_or-map}
use Rattle.std.proofs.Math.Seq.{map-set_same}
use Rattle.gen1_stats.specs.Members.{Member}
use Rattle.gen1_machine.specs.declared.side.Side.{Side}
use Rattle.gen1_machine.specs.declared.side.Side.TheVariants.{One, Two}
use Rattle.gen1_machine.specs.declared.event.Kind.{Kind}
use Rattle.gen1_machine.specs.declared.event.CantReason.{CantReason}
use Rattle.gen1_machine.specs.declared.event.DamageSource.{DamageSource}
use Rattle.gen1_machine.specs.declared.event.Volatile.{Volatile}
use Rattle.gen1_machine.specs.declared.event.Event.{Event}
use Rattle.gen1_machine.specs.Health.{Health}
use Rattle.gen1_machine.specs.Layout.{outcome_byte}
use Rattle.gen1_machine.specs.LogBytes.{kind_or_0}
use Rattle.gen1_machine.specs.Moves.{move_at, toxic, Move}
use Rattle.gen1_machine.specs.Numbers.{kind_number}
use Rattle.gen1_machine.specs.Rules.{bit_of}
use Rattle.gen1_machine.specs.Sides.{other}
use Rattle.gen1_machine.specs.State.{Stages, changed_active, changed_conditions, changed_member, first_state, party, Active, Field, Party}
use Rattle.gen1_machine.specs.CurrentStats.{stage_of, with_stage}
use Rattle.gen1_machine.specs.View.{cleared, first_side_view, first_view, if_out, not_shown, on_active_shown, on_named, on_shown, on_side_view, sees, sees_all, sees_drop, sees_rise, sees_switch, sees_volatile, shown_at, side_view, Shown, SideView, View}
use Rattle.gen1_player.specs.declared.public.Public.{Public}
use Rattle.gen1_player.specs.declared.public_side.PublicSide.{PublicSide}
use Rattle.gen1_player.specs.declared.seen.Seen.{Seen}
use Rattle.gen1_player.specs.Public.{acting, begins, broken_off_if, comes_out, drops, ends_recharging, first_public, first_public_side, gets_status, has_fainted, has_hit_itself, hears, hears_all, if_seen_out, is_afflicted, is_cleared, is_cured, is_kept_by, is_overtaken, not_seen, on_announced, on_out, on_public_side, on_seen, prepares, public_side, recharges_unless, rises, seen_at, set_volatile, settled, starts_bide, suffers_move, takes_damage, takes_in, takes_types, uses_move, is_kept, sleeps_on}
use Rattle.gen1_player.specs.True.{AgreesWith, SideAgrees, events_in, public_of, PublicAgrees, PublicAgreesWithView}
use Rattle.gen1_player.proofs.Facts.{side_out, Sizes, size_of, Fits, dull-noise, is_noise, noise-is}
use Rattle.gen1_machine.specs.Conditions.{with_bad_poison}
use Rattle.gen1_machine.specs.Step.{run, Ran}
use Rattle.gen1_machine.proofs.Spectators.{watcher_knows}
use Rattle.gen1_player.proofs.Stories.{sickened, Outline, Sized, Story, Switching, Dozing}
use Rattle.gen1_machine.specs.Ruling.{ruling_of}
use Rattle.gen1_player.proofs.ToldEffects.{ruling_of-tells}
use Rattle.gen1_player.proofs.ToldActions.{act-tells, says-any}
use Rattle.gen1_player.proofs.ToldEnds.{sent-sized, sizes_of, story-runs}
use Rattle.gen1_machine.specs.declared.event.Kind.TheVariants as kinds
use Rattle.gen1_machine.specs.declared.event.CantReason.TheVariants as reasons
use Rattle.gen1_machine.specs.declared.event.DamageSource.TheVariants as sources
use Rattle.gen1_machine.specs.declared.event.Volatile.TheVariants as volatiles
use Rattle.gen1_machine.specs.declared.event.Event.TheVariants as events

-- What the events of a log make public agrees with what a spectator sees, as long as each switch names a place that holds a member.

-- What both know of a side

-- What shows of a member that has appeared.
record Brief : Type 0 where
  species : ℕ
  hp : ℕ
  status : ℕ

abbrev brief : Seen → Brief
brief s = record { species = s.species; hp = s.hp; status = s.status }

abbrev blank : Brief
blank = record { species = 0; hp = 0; status = 0 }

record Essence : Type 0 where
  place : ℕ
  stages : Stages
  substitute : ℕ
  confused : ℕ
  light_screen : ℕ
  reflect : ℕ
  members : List Brief

abbrev essence : PublicSide → Essence
essence y = record {
  place = y.place;
  stages = y.stages;
  substitute = y.announced.substitute;
  confused = y.announced.confused;
  light_screen = y.announced.light_screen;
  reflect = y.announced.reflect;
  members = map brief y.members;
}

abbrev Looks : Shown → Brief → Type 0
Looks m b = b.species ≢ 0 → (b.hp ≡ m.hp) × (b.status ≡ kind_or_0 m.kind)

abbrev Matches : List Shown → List Brief → Type 0
Matches ms bs = (i : ℕ) → Looks (get_or ms i not_shown) (get_or bs i blank)

record Pairs (k : ℕ) (x : SideView) (e : Essence) : Type 0 where
  place : e.place ≡ x.place
  stages : e.stages ≡ x.stages
  substitute : e.substitute ≡ bit_of x.substitute
  confused : e.confused ≡ bit_of x.confused
  light_screen : e.light_screen ≡ bit_of x.light_screen
  reflect : e.reflect ≡ bit_of x.reflect
  members : Matches x.members e.members
  six : length e.members ≡ 6
  sized : length x.members ≡ k
  few : k ≤ 6
  within : x.place ≤ k
  idle : x.place ≡ 0 → cleared x ≡ x

abbrev Meets : ℕ → SideView → PublicSide → Type 0
Meets k x y = Pairs k x (essence y)

record Both (n : Sizes) (v : View) (p : Public) : Type 0 where
  one : Meets n.one v.one p.one
  two : Meets n.two v.two p.two
  turn : p.turn ≡ v.turn
  outcome : p.outcome ≡ outcome_byte v.outcome

positive : (n : ℕ) → n ≢ 0 → 1 ≤ n
positive zero e = absurd (e refl)
positive (suc n) e = omega arith

-- A change of a side that is out

out-meets : (k : ℕ) (g : SideView → SideView) (h : PublicSide → PublicSide) (x : SideView) (y : PublicSide)
    → (1 ≤ x.place → Meets k x y → Meets k (g x) (h y)) → Meets k x y → Meets k (if_out g x) (if_seen_out h y)
out-meets k g h x y f m =
    subst (λ (b : Bool). Meets k (if x.place == 0 then x else g x) (if b then y else h y)) (sym (ap (λ (i : ℕ). i == 0) m.place)) (by (eqb_tells x.place 0))
  where
    same : (b : Bool) → (b ≡ false → 1 ≤ x.place) → Meets k (if b then x else g x) (if b then y else h y)
    same true c = m
    same false c = f (c refl) m

    by : (((x.place == 0) ≡ true) × (x.place ≡ 0)) ⊎ (((x.place == 0) ≡ false) × (x.place ≢ 0)) → Meets k (if x.place == 0 then x else g x) (if x.place == 0 then y else h y)
    by (inl e) = subst (λ (b : Bool). Meets k (if b then x else g x) (if b then y else h y)) (sym e.0) m
    by (inr e) = same (x.place == 0) (λ z. positive x.place e.1)

-- An event that a spectator doesn't see.
quiet-meets : (k : ℕ) (h : PublicSide → PublicSide) (x : SideView) (y : PublicSide) → essence (h y) ≡ essence y → Meets k x y → Meets k x (if_seen_out h y)
quiet-meets k h x y e m = elim (y.place == 0) as (λ b. Meets k x (if b then y else h y)) [ true ↦ m | false ↦ subst (Pairs k x) (sym e) m ]

module _ {n : Sizes} {v : View} {p : Public} where
  side-meets : (s : Side) (g : SideView → SideView) (h : PublicSide → PublicSide)
      → (Meets (size_of s n) (side_view s v) (public_side s p) → Meets (size_of s n) (g (side_view s v)) (h (public_side s p)))
      → Both n v p → Both n (on_side_view s g v) (on_public_side s h p)
  side-meets One g h f m = record { one = f m.one; two = m.two; turn = m.turn; outcome = m.outcome }
  side-meets Two g h f m = record { one = m.one; two = f m.two; turn = m.turn; outcome = m.outcome }

  quiet : (s : Side) (h : PublicSide → PublicSide) → ((y : PublicSide) → essence (h y) ≡ essence y) → Both n v p → Both n v (on_out s h p)
  unfolding on_out
  quiet One h f m = record { one = quiet-meets n.one h v.one p.one (f p.one) m.one; two = m.two; turn = m.turn; outcome = m.outcome }
  quiet Two h f m = record { one = m.one; two = quiet-meets n.two h v.two p.two (f p.two) m.two; turn = m.turn; outcome = m.outcome }

  named : (s : Side) (g : SideView → SideView) (h : PublicSide → PublicSide)
      → ((k : ℕ) (x : SideView) (y : PublicSide) → 1 ≤ x.place → Meets k x y → Meets k (g x) (h y))
      → Both n v p → Both n (on_side_view s (if_out g) v) (on_out s h p)
  unfolding on_out
  named s g h f m = side-meets s (if_out g) (if_seen_out h)
      (out-meets (size_of s n) g h (side_view s v) (public_side s p) (f (size_of s n) (side_view s v) (public_side s p))) m

-- Members

set-matches : (ms : List Shown) (bs : List Brief) (i : ℕ) (m : Shown) (b : Brief) → i < length ms → i < length bs → Looks m b → Matches ms bs
    → Matches (slice_set ms i m) (slice_set bs i b)
set-matches ms bs i m b low high h all j = by (eqb_tells j i)
  where
    by : (((j == i) ≡ true) × (j ≡ i)) ⊎ (((j == i) ≡ false) × (j ≢ i)) → Looks (get_or (slice_set ms i m) j not_shown) (get_or (slice_set bs i b) j blank)
    by (inl e) = subst (λ (l : ℕ). Looks (get_or (slice_set ms i m) l not_shown) (get_or (slice_set bs i b) l blank)) (sym e.1)
        (subst (λ (x : Shown). Looks x (get_or (slice_set bs i b) i blank)) (sym (get_or-set_same ms i m not_shown low))
        (subst (λ (x : Brief). Looks m x) (sym (get_or-set_same bs i b blank high)) h))
    by (inr e) = subst (λ (x : Shown). Looks x (get_or (slice_set bs i b) j blank)) (sym (get_or-set_other ms i j m not_shown e.1))
        (subst (λ (x : Brief). Looks (get_or ms j not_shown) x) (sym (get_or-set_other bs i j b blank e.1)) (all j))

-- What an event says of the member that is out.
member-meets : (f : Shown → Shown) (g : Seen → Seen) (b : Brief → Brief) → ((s : Seen) → brief (g s) ≡ b (brief s))
    → ((m : Shown) (x : Brief) → Looks m x → Looks (f m) (b x))
    → (k : ℕ) (x : SideView) (y : PublicSide) → 1 ≤ x.place → Meets k x y → Meets k (on_shown f x) (on_seen g y)
member-meets f g b same looks k x y out m =
    let i = x.place - 1 in
    let bs : List Brief = map brief y.members in
    let old : Brief = brief (seen_at y.place y) in
    let in_range : x.place - 1 < length x.members = let e = m.sized in omega (arith, out, e, m.within) in
    let in_six : x.place - 1 < length (map brief y.members) = let e = m.six in omega (arith, out, e, m.few, m.within) in
    let at_old : get_or bs i blank ≡ old = get_or-map brief y.members i not_seen ∙ ap (λ (l : ℕ). brief (slice_index_or y.members (l - 1) not_seen)) (sym m.place) in
    let set_to : map brief (slice_set y.members (y.place - 1) (g (seen_at y.place y))) ≡ slice_set bs i (b old) =
    map-set brief y.members (y.place - 1) (g (seen_at y.place y)) ∙ ap (λ (z : Brief). slice_set bs (y.place - 1) z) (same (seen_at y.place y))
    ∙ ap (λ (l : ℕ). slice_set bs (l - 1) (b old)) m.place in
    record {
      place = m.place;
      stages = m.stages;
      substitute = m.substitute;
      confused = m.confused;
      light_screen = m.light_screen;
      reflect = m.reflect;
      members = subst (λ (l : List Brief). Matches (slice_set x.members i (f (shown_at x.place x))) l) (sym set_to)
          (set-matches x.members bs i (f (shown_at x.place x)) (b old) in_range in_six
          (looks (shown_at x.place x) old (subst (λ (z : Brief). Looks (shown_at x.place x) z) at_old (m.members i))) m.members);
      six = length-map _ brief ∙ length-set y.members (y.place - 1) (g (seen_at y.place y)) ∙ sym (length-map y.members brief) ∙ m.six;
      sized = length-set x.members i (f (shown_at x.place x)) ∙ m.sized;
      few = m.few;
      within = m.within;
      idle = λ e. absurd (omega (arith, out, e));
    }

-- Announcements

told-essence : (why : CantReason) (y : PublicSide) → essence (on_announced (is_kept_by why) y) ≡ essence y
told-essence reasons.Flinched y = refl
told-essence reasons.Recharging y = refl
told-essence reasons.Disabled y = refl
told-essence reasons.Paralysed y = refl
told-essence _ y = refl

kept-essence : (why : CantReason) (y : PublicSide) → essence (is_kept why y) ≡ essence y
kept-essence why y = told-essence why (on_seen (sleeps_on why) y)
    ∙ ap (λ (l : List Brief). record (essence y) { members = l }) (map-set_same brief y.members (y.place - 1) (sleeps_on why (seen_at y.place y)) not_seen refl)

worse-essence : (b : Bool) (y : PublicSide) → essence (on_announced (λ a. if b then a else record a { toxic_count = min 64 (a.toxic_count + 1) }) y) ≡ essence y
worse-essence true y = refl
worse-essence false y = refl

hurt-essence : (source : DamageSource) (y : PublicSide) → essence (takes_damage source y) ≡ essence y
hurt-essence sources.Confusion y = refl
hurt-essence sources.Poison y = worse-essence (y.announced.toxic == 0) y
hurt-essence sources.Burn y = worse-essence (y.announced.toxic == 0) y
hurt-essence sources.LeechSeed y = worse-essence (y.announced.toxic == 0) y
hurt-essence _ y = refl

poison-essence : (b : Bool) (y : PublicSide) → essence (on_announced (λ a. if b then record a { toxic = 1; toxic_count = 0 } else a) y) ≡ essence y
poison-essence true y = refl
poison-essence false y = refl

status-essence : (kind : Kind) (move : ℕ) (y : PublicSide) → essence (on_announced (gets_status kind move) y) ≡ essence y
status-essence kinds.Poison move y = poison-essence (move == toxic) y
status-essence kinds.Freeze move y = refl
status-essence _ move y = refl

suffers-essence : (b : Bool) (y : PublicSide) → essence (recharges_unless b y) ≡ essence y
suffers-essence true y = refl
suffers-essence false y = refl

overtaken-essence : (y : PublicSide) → essence (on_seen is_overtaken y) ≡ essence y
overtaken-essence y = ap (λ (l : List Brief). record (essence y) { members = l }) (map-set_same brief y.members (y.place - 1) _ not_seen refl)

uses-essence : (move : ℕ) (y : PublicSide) → essence (uses_move move y) ≡ essence y
uses-essence move y = ap (λ (l : List Brief). record (essence y) { members = l }) (map-set_same brief y.members (y.place - 1) _ not_seen refl)

bides-essence : (y : PublicSide) → essence (starts_bide y) ≡ essence y
bides-essence y = ap (λ (l : List Brief). record (essence y) { members = l }) (map-set_same brief y.members (y.place - 1) _ not_seen refl)

prepares-essence : (move : ℕ) (y : PublicSide) → essence (prepares move y) ≡ essence y
prepares-essence move y = ap (λ (l : List Brief). record (essence y) { members = l }) (map-set_same brief y.members (y.place - 1) _ not_seen refl)

broken-meets : (k : ℕ) (b : Bool) (x : SideView) (y : PublicSide) → Meets k x y → Meets k x (broken_off_if b y)
broken-meets k true x y m = m
broken-meets k false x y m = m

volatile-meets : (what : Volatile) (on : Bool) (k : ℕ) (x : SideView) (y : PublicSide) → 1 ≤ x.place → Meets k x y
    → Meets k (sees_volatile what on x) (on_announced (set_volatile what (bit_of on)) y)
volatile-meets volatiles.Confusion on k x y out m = record {
  place = m.place;
  stages = m.stages;
  substitute = m.substitute;
  confused = refl;
  light_screen = m.light_screen;
  reflect = m.reflect;
  members = m.members;
  six = m.six;
  sized = m.sized;
  few = m.few;
  within = m.within;
  idle = λ e. absurd (omega (arith, out, e));
}
volatile-meets volatiles.Substitute on k x y out m = record {
  place = m.place;
  stages = m.stages;
  substitute = refl;
  confused = m.confused;
  light_screen = m.light_screen;
  reflect = m.reflect;
  members = m.members;
  six = m.six;
  sized = m.sized;
  few = m.few;
  within = m.within;
  idle = λ e. absurd (omega (arith, out, e));
}
volatile-meets volatiles.LightScreen on k x y out m = record {
  place = m.place;
  stages = m.stages;
  substitute = m.substitute;
  confused = m.confused;
  light_screen = refl;
  reflect = m.reflect;
  members = m.members;
  six = m.six;
  sized = m.sized;
  few = m.few;
  within = m.within;
  idle = λ e. absurd (omega (arith, out, e));
}
volatile-meets volatiles.Reflect on k x y out m = record {
  place = m.place;
  stages = m.stages;
  substitute = m.substitute;
  confused = m.confused;
  light_screen = m.light_screen;
  reflect = refl;
  members = m.members;
  six = m.six;
  sized = m.sized;
  few = m.few;
  within = m.within;
  idle = λ e. absurd (omega (arith, out, e));
}
volatile-meets volatiles.Bide on k x y out m = m
volatile-meets volatiles.LeechSeed on k x y out m = m
volatile-meets volatiles.Mist on k x y out m = m
volatile-meets volatiles.FocusEnergy on k x y out m = m
volatile-meets volatiles.Disable on k x y out m = m
volatile-meets volatiles.TypeChange on k x y out m = m
volatile-meets volatiles.Trapped on k x y out m = m
volatile-meets volatiles.Rage on k x y out m = m
volatile-meets volatiles.Splash on k x y out m = m

-- Stages

stages-meet : (g : SideView → SideView) (h : PublicSide → PublicSide) (f : Stages → Stages)
    → ((x : SideView) → g x ≡ record x { stages = f x.stages }) → ((y : PublicSide) → essence (h y) ≡ record (essence y) { stages = f y.stages })
    → (k : ℕ) (x : SideView) (y : PublicSide) → 1 ≤ x.place → Meets k x y → Meets k (g x) (h y)
stages-meet g h f a b k x y out m =
    subst (λ (z : SideView). Meets k z (h y)) (sym (a x)) (subst (Pairs k (record x { stages = f x.stages })) (sym (b y)) (record {
      place = m.place;
      stages = ap f m.stages;
      substitute = m.substitute;
      confused = m.confused;
      light_screen = m.light_screen;
      reflect = m.reflect;
      members = m.members;
      six = m.six;
      sized = m.sized;
      few = m.few;
      within = m.within;
      idle = λ e. absurd (omega (arith, out, e));
    }))

-- Haze, which a spectator sees also of a side that has nobody out.

cleared-meets : (k : ℕ) (x : SideView) (y : PublicSide) → Meets k x y → Meets k (cleared x) (is_cleared y)
cleared-meets k x y m = record {
  place = m.place;
  stages = refl;
  substitute = m.substitute;
  confused = refl;
  light_screen = refl;
  reflect = refl;
  members = m.members;
  six = m.six;
  sized = m.sized;
  few = m.few;
  within = m.within;
  idle = λ e. refl;
}

haze-meets : (k : ℕ) (x : SideView) (y : PublicSide) → Meets k x y → Meets k (cleared x) (if_seen_out is_cleared y)
haze-meets k x y m = by (eqb_tells y.place 0)
  where
    by : (((y.place == 0) ≡ true) × (y.place ≡ 0)) ⊎ (((y.place == 0) ≡ false) × (y.place ≢ 0)) → Meets k (cleared x) (if y.place == 0 then y else is_cleared y)
    by (inl e) = subst (λ (b : Bool). Meets k (cleared x) (if b then y else is_cleared y)) (sym e.0) (subst (λ (z : SideView). Meets k z y) (sym (m.idle (sym m.place ∙ e.1))) m)
    by (inr e) = subst (λ (b : Bool). Meets k (cleared x) (if b then y else is_cleared y)) (sym e.0) (cleared-meets k x y m)

-- Switches

and-true : (a b : Bool) → a ≡ true → b ≡ true → (a && b) ≡ true
and-true a b e h = ap (λ (x : Bool). x && b) e ∙ h

switched-meets : (species place level : ℕ) (h : Health) (k : ℕ) (x : SideView) (y : PublicSide) → 1 ≤ place → place ≤ k → Meets k x y
    → Meets k (sees_switch place h x) (comes_out species place level h y)
switched-meets species place level h k x y low high m =
    let i = place - 1 in
    let bs : List Brief = map brief y.members in
    let now : Brief = record { species = species; hp = h.hp; status = kind_or_0 h.kind } in
    let x' : SideView = on_shown (λ _. record { hp = h.hp; kind = h.kind }) (record (cleared x) { place = place; substitute = false }) in
    let in_range : place ≤ length x.members = let e = m.sized in omega (arith, e, high) in
    let in_six : place - 1 < length (map brief y.members) = let e = m.six in omega (arith, e, low, high, m.few) in
    let seen : (nat_le 1 place && nat_le place (length x.members)) ≡ true = and-true _ _ (le-leb 1 place low) (le-leb place (length x.members) in_range) in
    let heard : (nat_le 1 place && nat_le place 6) ≡ true = and-true _ _ (le-leb 1 place low) (le-leb place 6 (omega (arith, high, m.few))) in
    let y' : PublicSide = side_out species place level h y in
    subst (λ (b : Bool). Meets k (if b then x' else x) (comes_out species place level h y)) (sym seen)
    (subst (λ (b : Bool). Meets k x' (if b then y' else y)) (sym heard) (record {
      place = refl;
      stages = refl;
      substitute = refl;
      confused = refl;
      light_screen = refl;
      reflect = refl;
      members = subst (λ (l : List Brief). Matches (slice_set x.members i (record { hp = h.hp; kind = h.kind })) l) (sym (map-set brief y.members i _))
          (set-matches x.members bs i (record { hp = h.hp; kind = h.kind }) now (omega (arith, in_range, low)) in_six (λ e. (refl, refl)) m.members);
      six = length-map _ brief ∙ length-set y.members i _ ∙ sym (length-map y.members brief) ∙ m.six;
      sized = length-set x.members i _ ∙ m.sized;
      few = m.few;
      within = high;
      idle = λ e. absurd (omega (arith, low, e));
    }))

-- Each event

-- A switch names a place that holds a member.
abbrev pub EventFits : Sizes → Event → Type 0
EventFits n (events.Switch w place level h) = Fits n w.side place
EventFits n _ = Unit {0}

abbrev pub EachFits : Sizes → List Event → Type 0
EachFits n [] = Unit {0}
EachFits n (event ∷ more) = EventFits n event × EachFits n more

module _ {n : Sizes} {v : View} {p : Public} where
  starts-meet : (s : Side) (what : Volatile) → Both n v p → Both n (on_side_view s (if_out (sees_volatile what true)) v) (begins s what p)
  starts-meet s volatiles.TypeChange m = named s (sees_volatile volatiles.TypeChange true) (takes_types (public_side (other s) p)) (λ k x y o h. h) m
  starts-meet s volatiles.Confusion m = named s (sees_volatile volatiles.Confusion true) (on_announced (set_volatile volatiles.Confusion 1)) (volatile-meets volatiles.Confusion true) m
  starts-meet s volatiles.Bide m = named s (sees_volatile volatiles.Bide true) starts_bide (λ k x y o h. subst (Pairs k x) (sym (bides-essence y)) h) m
  starts-meet s volatiles.Substitute m = named s (sees_volatile volatiles.Substitute true) (on_announced (set_volatile volatiles.Substitute 1)) (volatile-meets volatiles.Substitute true) m
  starts-meet s volatiles.LeechSeed m = named s (sees_volatile volatiles.LeechSeed true) (on_announced (set_volatile volatiles.LeechSeed 1)) (volatile-meets volatiles.LeechSeed true) m
  starts-meet s volatiles.Mist m = named s (sees_volatile volatiles.Mist true) (on_announced (set_volatile volatiles.Mist 1)) (volatile-meets volatiles.Mist true) m
  starts-meet s volatiles.FocusEnergy m = named s (sees_volatile volatiles.FocusEnergy true) (on_announced (set_volatile volatiles.FocusEnergy 1)) (volatile-meets volatiles.FocusEnergy true) m
  starts-meet s volatiles.LightScreen m = named s (sees_volatile volatiles.LightScreen true) (on_announced (set_volatile volatiles.LightScreen 1)) (volatile-meets volatiles.LightScreen true) m
  starts-meet s volatiles.Reflect m = named s (sees_volatile volatiles.Reflect true) (on_announced (set_volatile volatiles.Reflect 1)) (volatile-meets volatiles.Reflect true) m
  starts-meet s volatiles.Disable m = named s (sees_volatile volatiles.Disable true) (on_announced (set_volatile volatiles.Disable 1)) (volatile-meets volatiles.Disable true) m
  starts-meet s volatiles.Trapped m = named s (sees_volatile volatiles.Trapped true) (on_announced (set_volatile volatiles.Trapped 1)) (volatile-meets volatiles.Trapped true) m
  starts-meet s volatiles.Rage m = named s (sees_volatile volatiles.Rage true) (on_announced (set_volatile volatiles.Rage 1)) (volatile-meets volatiles.Rage true) m
  starts-meet s volatiles.Splash m = named s (sees_volatile volatiles.Splash true) (on_announced (set_volatile volatiles.Splash 1)) (volatile-meets volatiles.Splash true) m

  hits-meet : (s : Side) (h : ℕ) (source : DamageSource) → Both n v p
      → Both n (on_side_view s (if_out (on_shown (λ x. record x { hp = h }))) v) (on_out s (λ y. takes_damage source (on_seen (λ z. record z { hp = h }) y)) p)
  hits-meet s h source m = named s (on_shown (λ x. record x { hp = h })) (λ y. takes_damage source (on_seen (λ z. record z { hp = h }) y))
      (λ k x y o q. subst (Pairs k (on_shown (λ z. record z { hp = h }) x)) (sym (hurt-essence source (on_seen (λ z. record z { hp = h }) y)))
      (member-meets (λ z. record z { hp = h }) (λ z. record z { hp = h }) (λ z. record z { hp = h }) (λ z. refl) (λ z b l e. (refl, (l e).1)) k x y o q)) m

  gets-meet : (s : Side) (kind : Kind) (move : ℕ) → Both n v p
      → Both n (on_side_view s (if_out (on_shown (λ x. record x { kind = Some kind }))) v)
      (on_out s (λ y. on_announced (gets_status kind move) (on_seen (is_afflicted kind) y)) p)
  gets-meet s kind move m = named s (on_shown (λ x. record x { kind = Some kind })) (λ y. on_announced (gets_status kind move) (on_seen (is_afflicted kind) y))
      (λ k x y o q. subst (Pairs k (on_shown (λ z. record z { kind = Some kind }) x)) (sym (status-essence kind move (on_seen (is_afflicted kind) y)))
      (member-meets (λ z. record z { kind = Some kind }) (is_afflicted kind) (λ z. record z { status = kind_number kind }) (λ z. refl)
      (λ z b l e. ((l e).0, refl)) k x y o q)) m

  moves-meet : (w foe : Side) (move : ℕ) → Both n v p → Both n v (on_out foe (suffers_move move) (on_out w (uses_move move) p))
  moves-meet w foe move m = quiet foe (suffers_move move) (λ y. suffers-essence (ends_recharging (move_at move).effect) (on_seen is_overtaken y) ∙ overtaken-essence y) (quiet w (uses_move move) (uses-essence move) m)

  clears-meet : Both n v p → Both n (record v { one = cleared v.one; two = cleared v.two }) (on_out Two is_cleared (on_out One is_cleared p))
  unfolding on_out
  clears-meet m = record { one = haze-meets n.one v.one p.one m.one; two = haze-meets n.two v.two p.two m.two; turn = m.turn; outcome = m.outcome }

  settled-meets : (e : Event) → Both n v p → Both n v (settled e p)
  unfolding settled
  settled-meets e m = record {
    one = broken-meets n.one (has_hit_itself 1 (acting e) p.may_hit_itself) v.one p.one m.one;
    two = broken-meets n.two (has_hit_itself 2 (acting e) p.may_hit_itself) v.two p.two m.two;
    turn = m.turn;
    outcome = m.outcome;
  }

  takes-meets : (e : Event) → EventFits n e → Both n v p → Both n (sees e v) (takes_in e p)
  unfolding sees takes_in on_named on_active_shown
  takes-meets (events.Turn i) f m = record { one = m.one; two = m.two; turn = refl; outcome = m.outcome }
  takes-meets (events.Switch w place level h) f m = side-meets w.side (sees_switch place h) (comes_out w.species place level h)
      (switched-meets w.species place level h (size_of w.side n) (side_view w.side v) (public_side w.side p) f.0 f.1) m
  takes-meets (events.Move w move foe) f m = moves-meet w.side (other w.side) move m
  takes-meets (events.Cant w why) f m = quiet w.side (is_kept why) (kept-essence why) m
  takes-meets (events.Damage w h source) f m = hits-meet w.side h.hp source m
  takes-meets (events.Heal w h) f m = named w.side (on_shown (λ x. record x { hp = h.hp })) (on_seen (λ z. record z { hp = h.hp }))
      (member-meets (λ z. record z { hp = h.hp }) (λ z. record z { hp = h.hp }) (λ z. record z { hp = h.hp }) (λ z. refl) (λ z b l e. (refl, (l e).1))) m
  takes-meets (events.Status w kind) f m = gets-meet w.side kind (public_side (other w.side) p).last_move m
  takes-meets (events.Cure w kind) f m = named w.side (on_shown (λ x. record x { kind = None })) (on_seen is_cured)
      (member-meets (λ z. record z { kind = None }) is_cured (λ z. record z { status = 0 }) (λ z. refl) (λ z b l e. ((l e).0, refl))) m
  takes-meets (events.Faint w) f m = named w.side (on_shown (λ x. not_shown)) (on_seen has_fainted)
      (member-meets (λ z. not_shown) has_fainted (λ z. record z { hp = 0; status = 0 }) (λ z. refl) (λ z b l e. (refl, refl))) m
  takes-meets (events.Boost w stat i) f m = named w.side (sees_rise stat i) (rises stat i)
      (stages-meet (sees_rise stat i) (rises stat i) (λ z. with_stage stat (min 12 (stage_of stat z + i)) z) (λ x. refl) (λ y. refl)) m
  takes-meets (events.Unboost w stat i) f m = named w.side (sees_drop stat i) (drops stat i)
      (stages-meet (sees_drop stat i) (drops stat i) (λ z. with_stage stat (stage_of stat z - i) z) (λ x. refl) (λ y. refl)) m
  takes-meets events.ClearAll f m = clears-meet m
  takes-meets (events.Start w what) f m = starts-meet w.side what m
  takes-meets (events.End w what) f m = named w.side (sees_volatile what false) (on_announced (set_volatile what 0)) (volatile-meets what false) m
  takes-meets (events.Prepare w move) f m = quiet w.side (prepares move) (prepares-essence move) m
  takes-meets (events.Activate w what) f m = record { one = m.one; two = m.two; turn = m.turn; outcome = m.outcome }
  takes-meets (events.MustRecharge w) f m = quiet w.side (on_announced (λ a. record a { recharging = 1 })) (λ y. refl) m
  takes-meets (events.Win s) f m = record { one = m.one; two = m.two; turn = m.turn; outcome = refl }
  takes-meets events.Tie f m = record { one = m.one; two = m.two; turn = m.turn; outcome = refl }
  takes-meets (events.Fault i) f m = record { one = m.one; two = m.two; turn = m.turn; outcome = refl }
  takes-meets _ f m = m

event-meets : {n : Sizes} {v : View} {p : Public} (e : Event) → EventFits n e → Both n v p → Both n (sees e v) (hears e p)
unfolding hears
event-meets e f m = takes-meets e f (settled-meets e m)

all-meet : (n : Sizes) (es : List Event) (v : View) (p : Public) → EachFits n es → Both n v p → Both n (sees_all es v) (hears_all es p)
unfolding sees_all hears_all
all-meet n [] v p f m = m
all-meet n (e ∷ es) v p f m = all-meet n es (sees e v) (hears e p) f.1 (event-meets e f.0 m)

-- Before the first event

blank-looks : (k i : ℕ) → (get_or (replicate k blank) i blank).species ≡ 0
blank-looks zero i = refl
blank-looks (suc k) zero = refl
blank-looks (suc k) (suc i) = blank-looks k i

first-meets : (team : List Member) → length team ≤ 6 → Meets (length team) (first_side_view team) first_public_side
first-meets team few = record {
  place = refl;
  stages = refl;
  substitute = refl;
  confused = refl;
  light_screen = refl;
  reflect = refl;
  members = λ i e. absurd (e (blank-looks 6 i));
  six = refl;
  sized = length-map team _;
  few = few;
  within = let z : 0 ≤ length team = omega arith in z;
  idle = λ e. refl;
}

-- What is said of it

meets-agrees : (k : ℕ) (x : SideView) (y : PublicSide) → Meets k x y → SideAgrees y x
meets-agrees k x y m = record {
  place = m.place;
  stages = m.stages;
  substitute = m.substitute;
  confused = m.confused;
  light_screen = m.light_screen;
  reflect = m.reflect;
  members = λ place. subst (λ (b : Brief). Looks (shown_at place x) b) (get_or-map brief y.members (place - 1) not_seen) (m.members (place - 1));
}

pub fitting-agrees : (one two : List Member) (es : List Event) → length one ≤ 6 → length two ≤ 6 → EachFits (record { one = length one; two = length two }) es
    → AgreesWith (hears_all es first_public) (sees_all es (first_view one two))
fitting-agrees one two es a b fits =
    let m = all-meet (record { one = length one; two = length two }) es (first_view one two) first_public fits
    (record { one = first-meets one a; two = first-meets two b; turn = refl; outcome = refl }) in
    record { one = meets-agrees _ _ _ m.one; two = meets-agrees _ _ _ m.two; turn = m.turn; outcome = m.outcome }

record Placed (n : Sizes) (f : Field) (es : List Event) : Type 0 where
  sized : Sized n f
  each : EachFits n es

last-fits : (n : Sizes) (es : List Event) (e : Event) → EachFits n es → EventFits n e → EachFits n (es ++ e ∷ [])
last-fits n [] e a b = (b, tt)
last-fits n (x ∷ xs) e a b = (a.0, last-fits n xs e a.1 b)

noise-fits : (n : Sizes) (e : Event) → is_noise e ≡ true → EventFits n e
noise-fits n (events.Switch w place level h) q = absurd (true≢false (sym q))
noise-fits n _ q = tt

placed-last : (n : Sizes) (f : Field) (es : List Event) (e : Event) → EventFits n e → Placed n f es → Placed n f (es ++ e ∷ [])
placed-last n f es e b m = record { sized = m.sized; each = last-fits n es e m.each b }

sized-active : {n : Sizes} (s : Side) (change : Active → Active) (f : Field) → Sized n f → Sized n (changed_active s change f)
unfolding changed_active
sized-active One change f z = record { one = z.one; two = z.two }
sized-active Two change f z = record { one = z.one; two = z.two }

sized-member : {n : Sizes} (s : Side) (change : Member → Member) (f : Field) → Sized n f → Sized n (changed_member s change f)
unfolding changed_member
sized-member One change f z = record { one = length-set f.one.members (f.one.active.place - 1) _ ∙ z.one; two = z.two }
sized-member Two change f z = record { one = z.one; two = length-set f.two.members (f.two.active.place - 1) _ ∙ z.two }

sized-same : {n : Sizes} (f g : Field) → f.one ≡ g.one → f.two ≡ g.two → Sized n f → Sized n g
sized-same {n} f g a b z = record { one = subst (λ (t : Party). length t.members ≡ n.one) a z.one; two = subst (λ (t : Party). length t.members ≡ n.two) b z.two }

placed-active : {n : Sizes} (s : Side) (change : Active → Active) (f : Field) (es : List Event) → Placed n f es → Placed n (changed_active s change f) es
placed-active s change f es m = record { sized = sized-active s change f m.sized; each = m.each }

placed-member : {n : Sizes} (s : Side) (change : Member → Member) (f : Field) (es : List Event) → Placed n f es → Placed n (changed_member s change f) es
placed-member s change f es m = record { sized = sized-member s change f m.sized; each = m.each }

placed-same : {n : Sizes} (f g : Field) (es : List Event) → f.one ≡ g.one → f.two ≡ g.two → Placed n f es → Placed n g es
placed-same f g es a b m = record { sized = sized-same f g a b m.sized; each = m.each }

placed-sickened : {n : Sizes} (s : Side) (move : Move) (f : Field) (es : List Event) → Placed n f es → Placed n (sickened s move f) es
unfolding changed_conditions
placed-sickened {n} s move f es m = by (move.number == toxic)
  where
    by : (e : Bool) → Placed n (if e then changed_conditions (other s) with_bad_poison f else f) es
    by true = placed-active (other s) _ f es m
    by false = m

-- A switch to a place that holds a member.
low-fits : (n : Sizes) (s : Side) (place : ℕ) (f : Field) → Sized n f → 1 ≤ place → place ≤ length (party s f).members → Fits n s place
low-fits n One place f z low high = let e = z.one in (low, omega (arith, high, e))
low-fits n Two place f z low high = let e = z.two in (low, omega (arith, high, e))

placing : Sizes → Story
unfolding changed_conditions
placing n = record {
  exact = Placed n;
  loose = Placed n;
  said = λ s move. Unit {0};
  acted = λ s move. Unit {0};
  knows = λ s move. Unit {0};
  lulled = λ s turns marked. Unit {0};
  upright = λ s. Unit {0};
  loosen = λ f es m. m;
  tighten = λ f es m a b. m;
  member = λ s change h r f es w m. placed-member s change f es m;
  cures = λ s change kind h f es o a m. placed-last n _ es _ tt (placed-member s change f es m);
  sleeps = λ s turns marked k f es o m. placed-last n _ es _ tt (placed-member s _ f es m);
  active = λ s change h f es m. placed-active s change f es m;
  conditions = λ s change h f es m. placed-active s _ f es m;
  apart = λ f g es a b m. placed-same f g es a b m;
  noise = λ e f h es m. placed-last n f es e (noise-fits n e (noise-is f e (dull-noise f e h))) m;
  poisons = λ s move a f es o m. placed-last n _ es _ tt (placed-sickened s move f es m);
  starts = λ s what change h f es o m. placed-last n _ es _ tt (placed-active s _ f es m);
  ends = λ s what change h f es o m. placed-last n _ es _ tt (placed-active s _ f es m);
  converts = λ s f es o m. placed-last n _ es _ tt (placed-active s _ f es m);
  clears = λ f es o m. placed-last n _ es _ tt (placed-active Two _ _ es (placed-active Two _ _ es (placed-active One _ _ es (placed-active One _ f es m))));
  moves = λ s move k f es o m. placed-last n f es _ tt m;
  prepares = λ s move k f es o m. placed-last n f es _ tt m;
  explodes = λ s u f es o m. placed-active s _ _ es (placed-member s _ f es m);
  stores = λ s move k e turns f es o m. placed-last n _ es _ tt (placed-active s _ f es m);
  rests = λ s move k e f es o m. placed-last n _ es _ tt (placed-active s _ f es m);
  loose_active = λ s change h f es m. placed-active s change f es m;
  loose_apart = λ f g es a b m. placed-same f g es a b m;
  loose_noise = λ e f h es m. placed-last n f es e (noise-fits n e (noise-is f e (dull-noise f e h))) m;
  loose_falls = λ s f es o m. placed-last n _ es _ tt (placed-member s _ f es m);
}

placing-dozes : (n : Sizes) → Dozing (placing n)
unfolding placing
placing-dozes n = record { dozes = λ s turns marked f es o a h m. placed-last n _ es _ tt (placed-member s _ f es m) }

placing-outline : (n : Sizes) → Outline (placing n)
unfolding placing changed_conditions
placing-outline n = record {
  takes = λ s used f es m. placed-active s _ f es m;
  spends = λ s move k used f es m. placed-member s _ f es m;
  mild = λ s change h f es m. placed-active s _ f es m;
  noise = λ e f h es m. placed-last n f es e (noise-fits n e (noise-is f e h)) m;
  acts = λ s move. tt;
  knows = λ s move k. tt;
}

placing-switches : (n : Sizes) → Switching (placing n)
unfolding placing
placing-switches n = record {
  sends = λ s place f es low high m. record { sized = sent-sized n s place f m.sized; each = last-fits n es _ m.each (low-fits n s place f m.sized low high) };
  loose_sends = λ s place f es low high m. record { sized = sent-sized n s place f m.sized; each = last-fits n es _ m.each (low-fits n s place f m.sized low high) };
}

pub agrees_with_view : PublicAgreesWithView
unfolding placing
agrees_with_view t one two seed pairs a b =
    fitting-agrees one two (events_in (run (first_state t one two seed) pairs)) a.size.1 b.size.1
    (story-runs (placing (sizes_of one two)) t one two seed pairs a b (placing-outline (sizes_of one two)) (placing-switches (sizes_of one two)) (λ pre. act-tells (placing-outline (sizes_of one two)) (placing-dozes (sizes_of one two)) (ruling_of t) (ruling_of-tells t)
    (says-any (placing-outline (sizes_of one two)) (λ s move. tt) (λ u turns marked. tt) (λ u. tt) (ruling_of t) (ruling_of-tells t))) (record { sized = record { one = refl; two = refl }; each = tt })).each

pub agrees : PublicAgrees
agrees t one two seed pairs a b =
    let r : Ran = run (first_state t one two seed) pairs in
    subst (λ (v : View). AgreesWith (public_of r) v) (watcher_knows t one two seed pairs a b) (agrees_with_view t one two seed pairs a b)
