-- What the log tells of an active member's types and conditions, event by event, and what a player hears.
use Rattle.std.proofs.Common.{[], Bool, List, ap, arith, false, if◌then◌else◌, inl, inr, min, nat_le, refl, sym, true, true≢false, ℕ, ◌&&◌, ◌+◌, ◌++◌, ◌==◌, ◌∙◌, ◌∷◌, ◌≡◌, ◌≢◌, ◌≤◌, ◌⊎◌, subst, None, Some}
use Rattle.std.proofs.lemmas.Bool.{le-leb}
use Rattle.std.proofs.lemmas.Bool.Decides.{eqb_tells}
use Rattle.gen1_tables.specs.Species.{species_row}
use Rattle.gen1_tables.specs.Types.{number_of}
use Rattle.gen1_machine.specs.declared.side.Side.{Side}
use Rattle.gen1_machine.specs.declared.side.Side.TheVariants.{One, Two}
use Rattle.gen1_machine.specs.declared.event.Kind.{Kind}
use Rattle.gen1_machine.specs.declared.event.Who.{Who}
use Rattle.gen1_machine.specs.declared.event.CantReason.{CantReason}
use Rattle.gen1_machine.specs.declared.event.DamageSource.{DamageSource}
use Rattle.gen1_machine.specs.declared.event.Volatile.{Volatile}
use Rattle.gen1_machine.specs.declared.event.Event.{Event}
use Rattle.gen1_machine.specs.Conditions.{ActiveConditions}
use Rattle.gen1_machine.specs.Health.{Health}
use Rattle.gen1_machine.specs.Moves.{move_at, toxic}
use Rattle.gen1_machine.specs.Rules.{bit_of}
use Rattle.gen1_machine.specs.Sides.{other}
use Rattle.gen1_machine.specs.State.{Party}
use Rattle.gen1_player.specs.declared.public.Public.{Public}
use Rattle.gen1_player.specs.declared.public_side.PublicSide.{PublicSide}
use Rattle.gen1_player.specs.Public.{acting, activates, begins, broken_off_if, comes_out, ends_recharging, gets_status, has_fainted, has_hit_itself, hears, hears_all, if_seen_out, is_afflicted, is_cleared, is_cured, is_kept, is_overtaken, on_announced, on_out, on_public_side, on_seen, prepares, public_side, recharges_unless, set_volatile, settled, starts_bide, suffers_move, takes_damage, takes_in, takes_types, uses_move, settled_by, foe_hears, side_begins, side_hears, side_named}
use Rattle.gen1_player.proofs.Facts.{side_out, is_noise, marked, plain, standing, Plain, Standing, Starts}
use Rattle.gen1_machine.specs.Layout.{outcome_byte}
use Rattle.gen1_machine.specs.View.{won_by}
use Rattle.gen1_machine.specs.declared.event.Kind.TheVariants as kinds
use Rattle.gen1_machine.specs.declared.event.CantReason.TheVariants as reasons
use Rattle.gen1_machine.specs.declared.event.DamageSource.TheVariants as sources
use Rattle.gen1_machine.specs.declared.event.Volatile.TheVariants as volatiles
use Rattle.gen1_machine.specs.declared.event.Event.TheVariants as events

-- What the log tells of a side's types and conditions. A flag is 1 or 0.
pub record Known : Type 0 where
  pub place : ℕ
  pub first_type : ℕ
  pub second_type : ℕ
  pub mist : ℕ
  pub focus_energy : ℕ
  pub disabled : ℕ
  pub rage : ℕ
  pub seeded : ℕ

abbrev pub heard : PublicSide → Known
heard x = let a = x.announced in record {
  place = x.place;
  first_type = x.first_type;
  second_type = x.second_type;
  mist = a.mist;
  focus_energy = a.focus_energy;
  disabled = a.disabled;
  rage = a.rage;
  seeded = a.seeded;
}

abbrev pub known_of : Standing → Plain → Known
known_of a c = record {
  place = a.place;
  first_type = number_of a.first_type;
  second_type = number_of a.second_type;
  mist = bit_of c.mist;
  focus_energy = bit_of c.focus_energy;
  disabled = bit_of c.disabled;
  rage = bit_of c.rage;
  seeded = bit_of c.seeded;
}

abbrev pub held : Party → Known
held t = known_of (standing t.active) (plain t.active.conditions)

abbrev pub with_mark : Volatile → ℕ → Known → Known
with_mark volatiles.Mist on k = record k { mist = on }
with_mark volatiles.FocusEnergy on k = record k { focus_energy = on }
with_mark volatiles.Disable on k = record k { disabled = on }
with_mark volatiles.Rage on k = record k { rage = on }
with_mark volatiles.LeechSeed on k = record k { seeded = on }
with_mark _ on k = k

abbrev pub with_types : ℕ → ℕ → Known → Known
with_types first second k = record k { first_type = first; second_type = second }

abbrev pub without_most : Known → Known
without_most k = record k { mist = 0; focus_energy = 0; disabled = 0; seeded = 0 }

-- Sides

pub hears-in : (e : Event) (p : Public) → hears e p ≡ takes_in e (settled e p)
unfolding hears
hears-in e p = refl

pub hears_all-last : (es : List Event) (e : Event) (p : Public) → hears_all (es ++ e ∷ []) p ≡ hears e (hears_all es p)
unfolding hears_all
hears_all-last [] e p = refl
hears_all-last (x ∷ xs) e p = hears_all-last xs e (hears x p)

-- An event that tells nothing of a side, whatever is looked at.

quiet-out : {A : Type 0} (look : PublicSide → A) (h : PublicSide → PublicSide) (x : PublicSide) → look (h x) ≡ look x → look (if_seen_out h x) ≡ look x
quiet-out look h x e = elim (x.place == 0) as (λ b. look (if b then x else h x) ≡ look x) [ true ↦ refl | false ↦ e ]

pub quiet-side : {A : Type 0} (look : PublicSide → A) (s u : Side) (h : PublicSide → PublicSide) (p : Public) → ((x : PublicSide) → look (h x) ≡ look x)
    → look (public_side u (on_out s h p)) ≡ look (public_side u p)
unfolding on_out
quiet-side look One One h p e = quiet-out look h p.one (e p.one)
quiet-side look One Two h p e = refl
quiet-side look Two One h p e = refl
quiet-side look Two Two h p e = quiet-out look h p.two (e p.two)

pub same-sides : {A : Type 0} (look : PublicSide → A) (u : Side) (p q : Public) → p.one ≡ q.one → p.two ≡ q.two → look (public_side u p) ≡ look (public_side u q)
same-sides look One p q a b = ap look a
same-sides look Two p q a b = ap look b

-- A hit on itself that no event reports

broken-look : {A : Type 0} (look : PublicSide → A) (b : Bool) (x : PublicSide) → look (takes_damage sources.Confusion x) ≡ look x → look (broken_off_if b x) ≡ look x
broken-look look true x h = h
broken-look look false x h = refl

pub settled-look : {A : Type 0} (look : PublicSide → A) (e : Event) (u : Side) (p : Public) → ((x : PublicSide) → look (takes_damage sources.Confusion x) ≡ look x)
    → look (public_side u (settled e p)) ≡ look (public_side u p)
unfolding settled
settled-look look e One p h = broken-look look (has_hit_itself 1 (acting e) p.may_hit_itself) p.one (h p.one)
settled-look look e Two p h = broken-look look (has_hit_itself 2 (acting e) p.may_hit_itself) p.two (h p.two)

pub settled-heard : (e : Event) (u : Side) (p : Public) → heard (public_side u (settled e p)) ≡ heard (public_side u p)
settled-heard e u p = settled-look heard e u p (λ x. refl)

-- An event of a side that is out.
is-out : (h : PublicSide → PublicSide) (x : PublicSide) → 1 ≤ x.place → if_seen_out h x ≡ h x
is-out h x low = by (eqb_tells x.place 0)
  where
    by : (((x.place == 0) ≡ true) × (x.place ≡ 0)) ⊎ (((x.place == 0) ≡ false) × (x.place ≢ 0)) → if_seen_out h x ≡ h x
    by (inl e) = absurd (omega (arith, low, e.1))
    by (inr e) = ap (λ (b : Bool). if b then x else h x) e.0

pub out-side : (s : Side) (h : PublicSide → PublicSide) (p : Public) → 1 ≤ (public_side s p).place → public_side s (on_out s h p) ≡ h (public_side s p)
unfolding on_out
out-side One h p low = is-out h p.one low
out-side Two h p low = is-out h p.two low

pub foe-side : (s : Side) (h : PublicSide → PublicSide) (p : Public) → public_side (other s) (on_out s h p) ≡ public_side (other s) p
unfolding on_out
foe-side One h p = refl
foe-side Two h p = refl

-- Announcements that tell nothing of these

kept-heard : (why : CantReason) (x : PublicSide) → heard (is_kept why x) ≡ heard x
kept-heard reasons.Flinched x = refl
kept-heard reasons.Recharging x = refl
kept-heard reasons.Disabled x = refl
kept-heard reasons.Paralysed x = refl
kept-heard _ x = refl

worse-heard : (b : Bool) (x : PublicSide) → heard (on_announced (λ a. if b then a else record a { toxic_count = min 64 (a.toxic_count + 1) }) x) ≡ heard x
worse-heard true x = refl
worse-heard false x = refl

hurt-heard : (source : DamageSource) (x : PublicSide) → heard (takes_damage source x) ≡ heard x
hurt-heard sources.Confusion x = refl
hurt-heard sources.Poison x = worse-heard (x.announced.toxic == 0) x
hurt-heard sources.Burn x = worse-heard (x.announced.toxic == 0) x
hurt-heard sources.LeechSeed x = worse-heard (x.announced.toxic == 0) x
hurt-heard _ x = refl

poison-heard : (b : Bool) (x : PublicSide) → heard (on_announced (λ a. if b then record a { toxic = 1; toxic_count = 0 } else a) x) ≡ heard x
poison-heard true x = refl
poison-heard false x = refl

status-heard : (kind : Kind) (move : ℕ) (x : PublicSide) → heard (on_announced (gets_status kind move) x) ≡ heard x
status-heard kinds.Poison move x = poison-heard (move == toxic) x
status-heard kinds.Freeze move x = refl
status-heard _ move x = refl

suffers-heard : (b : Bool) (x : PublicSide) → heard (recharges_unless b x) ≡ heard x
suffers-heard true x = refl
suffers-heard false x = refl

pub moves-heard : (w foe u : Side) (move : ℕ) (p : Public) → heard (public_side u (on_out foe (suffers_move move) (on_out w (uses_move move) p))) ≡ heard (public_side u p)
moves-heard w foe u move p = quiet-side heard foe u (suffers_move move) (on_out w (uses_move move) p) (λ x. suffers-heard (ends_recharging (move_at move).effect) (on_seen is_overtaken x))
    ∙ quiet-side heard w u (uses_move move) p (λ x. refl)

pub prepares-heard : (w u : Side) (move : ℕ) (p : Public) → heard (public_side u (on_out w (prepares move) p)) ≡ heard (public_side u p)
prepares-heard w u move p = quiet-side heard w u (prepares move) p (λ x. refl)

pub bides-heard : (w u : Side) (p : Public) → heard (public_side u (on_out w starts_bide p)) ≡ heard (public_side u p)
bides-heard w u p = quiet-side heard w u starts_bide p (λ x. refl)

pub noise-heard : (e : Event) → is_noise e ≡ true → (u : Side) (p : Public) → heard (public_side u (takes_in e p)) ≡ heard (public_side u p)
unfolding takes_in
noise-heard (events.Turn i) h u p = same-sides heard u (record p { turn = i }) p refl refl
noise-heard (events.Switch w place level k) h u p = absurd (true≢false (sym h))
noise-heard (events.Move w move foe) h u p = absurd (true≢false (sym h))
noise-heard (events.Cant w why) h u p = quiet-side heard w.side u (is_kept why) p (kept-heard why)
noise-heard (events.Damage w k source) h u p = quiet-side heard w.side u (λ x. takes_damage source (on_seen (λ m. record m { hp = k.hp }) x)) p (λ x. hurt-heard source (on_seen (λ m. record m { hp = k.hp }) x))
noise-heard (events.Heal w k) h u p = quiet-side heard w.side u (on_seen (λ m. record m { hp = k.hp })) p (λ x. refl)
noise-heard (events.Status w kind) h u p = quiet-side heard w.side u
    (λ x. on_announced (gets_status kind (public_side (other w.side) p).last_move) (on_seen (is_afflicted kind) x)) p
    (λ x. status-heard kind (public_side (other w.side) p).last_move (on_seen (is_afflicted kind) x))
noise-heard (events.Cure w kind) h u p = quiet-side heard w.side u (on_seen is_cured) p (λ x. refl)
noise-heard (events.Faint w) h u p = quiet-side heard w.side u (on_seen has_fainted) p (λ x. refl)
noise-heard (events.Boost w stat i) h u p = quiet-side heard w.side u _ p (λ x. refl)
noise-heard (events.Unboost w stat i) h u p = quiet-side heard w.side u _ p (λ x. refl)
noise-heard events.ClearAll h u p = absurd (true≢false (sym h))
noise-heard (events.Start w what) h u p = absurd (true≢false (sym h))
noise-heard (events.End w what) h u p = absurd (true≢false (sym h))
noise-heard (events.Prepare w move) h u p = absurd (true≢false (sym h))
noise-heard (events.Activate w what) h u p = same-sides heard u (activates w.side what p) p refl refl
noise-heard (events.MustRecharge w) h u p = absurd (true≢false (sym h))
noise-heard (events.Win s) h u p = same-sides heard u (takes_in (events.Win s) p) p refl refl
noise-heard events.Tie h u p = same-sides heard u (takes_in events.Tie p) p refl refl
noise-heard (events.Fault i) h u p = same-sides heard u (takes_in (events.Fault i) p) p refl refl
noise-heard _ h u p = refl

pub rest-hears : (w : Who) (p : Public) → takes_in (events.MustRecharge w) p ≡ on_out w.side (on_announced (λ a. record a { recharging = 1 })) p
unfolding takes_in
rest-hears w p = refl

pub rest-heard : (w : Who) (u : Side) (p : Public) → heard (public_side u (takes_in (events.MustRecharge w) p)) ≡ heard (public_side u p)
unfolding takes_in
rest-heard w u p = quiet-side heard w.side u (on_announced (λ a. record a { recharging = 1 })) p (λ x. refl)

-- Announcements of these

pub set-heard : (what : Volatile) (on : ℕ) (x : PublicSide) → heard (on_announced (set_volatile what on) x) ≡ with_mark what on (heard x)
set-heard volatiles.Mist on x = refl
set-heard volatiles.FocusEnergy on x = refl
set-heard volatiles.Disable on x = refl
set-heard volatiles.Rage on x = refl
set-heard volatiles.LeechSeed on x = refl
set-heard volatiles.Confusion on x = refl
set-heard volatiles.Bide on x = refl
set-heard volatiles.Substitute on x = refl
set-heard volatiles.LightScreen on x = refl
set-heard volatiles.Reflect on x = refl
set-heard volatiles.TypeChange on x = refl
set-heard volatiles.Trapped on x = refl
set-heard volatiles.Splash on x = refl

pub marked-known : (what : Volatile) (on : Bool) (a : Standing) (c : Plain) → known_of a (marked what on c) ≡ with_mark what (bit_of on) (known_of a c)
marked-known volatiles.Mist on a c = refl
marked-known volatiles.FocusEnergy on a c = refl
marked-known volatiles.Disable on a c = refl
marked-known volatiles.Rage on a c = refl
marked-known volatiles.LeechSeed on a c = refl
marked-known volatiles.Confusion on a c = refl
marked-known volatiles.Bide on a c = refl
marked-known volatiles.Substitute on a c = refl
marked-known volatiles.LightScreen on a c = refl
marked-known volatiles.Reflect on a c = refl
marked-known volatiles.TypeChange on a c = refl
marked-known volatiles.Trapped on a c = refl
marked-known volatiles.Splash on a c = refl

-- That a volatile begins, where it is neither a change of types nor the use of Bide.
abbrev pub Begins : Volatile → Type 0
Begins volatiles.TypeChange = ⊥
Begins volatiles.Bide = ⊥
Begins _ = Unit {0}

pub starts-begins : (what : Volatile) (change : ActiveConditions → ActiveConditions) → Starts what change → Begins what
starts-begins volatiles.TypeChange change h = absurd h
starts-begins volatiles.Mist change h = tt
starts-begins volatiles.FocusEnergy change h = tt
starts-begins volatiles.Disable change h = tt
starts-begins volatiles.Rage change h = tt
starts-begins volatiles.LeechSeed change h = tt
starts-begins volatiles.Confusion change h = tt
starts-begins volatiles.Bide change h = absurd h
starts-begins volatiles.Substitute change h = tt
starts-begins volatiles.LightScreen change h = tt
starts-begins volatiles.Reflect change h = tt
starts-begins volatiles.Trapped change h = tt
starts-begins volatiles.Splash change h = tt

pub begins-out : (s : Side) (what : Volatile) (p : Public) → Begins what → begins s what p ≡ on_out s (on_announced (set_volatile what 1)) p
begins-out s volatiles.Mist p h = refl
begins-out s volatiles.FocusEnergy p h = refl
begins-out s volatiles.Disable p h = refl
begins-out s volatiles.Rage p h = refl
begins-out s volatiles.LeechSeed p h = refl
begins-out s volatiles.Confusion p h = refl
begins-out s volatiles.Bide p h = absurd h
begins-out s volatiles.Substitute p h = refl
begins-out s volatiles.LightScreen p h = refl
begins-out s volatiles.Reflect p h = refl
begins-out s volatiles.TypeChange p h = absurd h
begins-out s volatiles.Trapped p h = refl
begins-out s volatiles.Splash p h = refl

pub start-hears : (w : Who) (what : Volatile) (p : Public) → Begins what → takes_in (events.Start w what) p ≡ on_out w.side (on_announced (set_volatile what 1)) p
unfolding takes_in
start-hears w what p h = begins-out w.side what p h

pub bide-hears : (w : Who) (p : Public) → takes_in (events.Start w volatiles.Bide) p ≡ on_out w.side starts_bide p
unfolding takes_in
bide-hears w p = refl

pub types-hears : (w : Who) (p : Public) → takes_in (events.Start w volatiles.TypeChange) p ≡ on_out w.side (takes_types (public_side (other w.side) p)) p
unfolding takes_in
types-hears w p = refl

pub end-hears : (w : Who) (what : Volatile) (p : Public) → takes_in (events.End w what) p ≡ on_out w.side (on_announced (set_volatile what 0)) p
unfolding takes_in
end-hears w what p = refl

pub clear-hears : (p : Public) → takes_in events.ClearAll p ≡ on_out Two is_cleared (on_out One is_cleared p)
unfolding takes_in
clear-hears p = refl

pub move-hears : (w foe : Who) (move : ℕ) (p : Public) → takes_in (events.Move w move foe) p ≡ on_out (other w.side) (suffers_move move) (on_out w.side (uses_move move) p)
unfolding takes_in
move-hears w foe move p = refl

pub prepare-hears : (w : Who) (move : ℕ) (p : Public) → takes_in (events.Prepare w move) p ≡ on_out w.side (prepares move) p
unfolding takes_in
prepare-hears w move p = refl

pub switch-hears : (w : Who) (place level : ℕ) (h : Health) (p : Public) → takes_in (events.Switch w place level h) p ≡ on_public_side w.side (comes_out w.species place level h) p
unfolding takes_in
switch-hears w place level h p = refl

-- A member that comes out

and-true : (a b : Bool) → a ≡ true → b ≡ true → (a && b) ≡ true
and-true a b e h = ap (λ (x : Bool). x && b) e ∙ h

abbrev pub come_out : ℕ → ℕ → Known
come_out species place = record {
  place = place;
  first_type = number_of (species_row species).first_type;
  second_type = number_of (species_row species).second_type;
  mist = 0;
  focus_energy = 0;
  disabled = 0;
  rage = 0;
  seeded = 0;
}

known-if : (b : Bool) (x y : PublicSide) (k : Known) → b ≡ true → heard x ≡ k → heard (if b then x else y) ≡ k
known-if true x y k e h = h
known-if false x y k e h = absurd (true≢false (sym e))

pub comes-heard : (species place level : ℕ) (h : Health) (x : PublicSide) → 1 ≤ place → place ≤ 6 → heard (comes_out species place level h x) ≡ come_out species place
comes-heard species place level h x low high = known-if (nat_le 1 place && nat_le place 6) (side_out species place level h x) x (come_out species place)
    (and-true (nat_le 1 place) (nat_le place 6) (le-leb 1 place low) (le-leb place 6 high)) refl

-- Sides of which recharging is announced, or no longer

abbrev pub Less : PublicSide → PublicSide → Type 0
Less y x = y.announced.recharging ≢ 0 → x.announced.recharging ≢ 0

less-out : (h : PublicSide → PublicSide) (x : PublicSide) → Less (h x) x → Less (if_seen_out h x) x
less-out h x q = elim (x.place == 0) as (λ b. Less (if b then x else h x) x) [ true ↦ λ e. e | false ↦ q ]

pub less-side : (s u : Side) (h : PublicSide → PublicSide) (p : Public) → ((x : PublicSide) → Less (h x) x) → Less (public_side u (on_out s h p)) (public_side u p)
unfolding on_out
less-side One One h p q = less-out h p.one (q p.one)
less-side One Two h p q = λ e. e
less-side Two One h p q = λ e. e
less-side Two Two h p q = less-out h p.two (q p.two)

pub less-path : (u : Side) (p : Public) {q r : Public} → q ≡ r → Less (public_side u r) (public_side u p) → Less (public_side u q) (public_side u p)
less-path u p {q} {r} e h = subst (λ (x : Public). Less (public_side u x) (public_side u p)) (sym e) h

less-same : (u : Side) (p q : Public) → p.one ≡ q.one → p.two ≡ q.two → Less (public_side u p) (public_side u q)
less-same u p q a b e = subst (λ (i : ℕ). i ≢ 0) (same-sides (λ (x : PublicSide). x.announced.recharging) u p q a b) e

pub settled-less : (e : Event) (u : Side) (p : Public) → Less (public_side u (settled e p)) (public_side u p)
settled-less e u p h = subst (λ (i : ℕ). i ≢ 0) (settled-look (λ (x : PublicSide). x.announced.recharging) e u p (λ x. refl)) h

kept-less : (why : CantReason) (x : PublicSide) → Less (is_kept why x) x
kept-less reasons.Flinched x e = absurd (e refl)
kept-less reasons.Recharging x e = absurd (e refl)
kept-less reasons.Disabled x e = e
kept-less reasons.Paralysed x e = e
kept-less _ x e = e

worse-less : (b : Bool) (x : PublicSide) → Less (on_announced (λ a. if b then a else record a { toxic_count = min 64 (a.toxic_count + 1) }) x) x
worse-less true x e = e
worse-less false x e = e

hurt-less : (source : DamageSource) (x : PublicSide) → Less (takes_damage source x) x
hurt-less sources.Confusion x e = e
hurt-less sources.Poison x e = worse-less (x.announced.toxic == 0) x e
hurt-less sources.Burn x e = worse-less (x.announced.toxic == 0) x e
hurt-less sources.LeechSeed x e = worse-less (x.announced.toxic == 0) x e
hurt-less _ x e = e

poison-less : (b : Bool) (x : PublicSide) → Less (on_announced (λ a. if b then record a { toxic = 1; toxic_count = 0 } else a) x) x
poison-less true x e = e
poison-less false x e = e

status-less : (kind : Kind) (move : ℕ) (x : PublicSide) → Less (on_announced (gets_status kind move) x) x
status-less kinds.Poison move x = poison-less (move == toxic) x
status-less kinds.Freeze move x = λ e. absurd (e refl)
status-less _ move x = λ e. e

pub noise-less : (e : Event) → is_noise e ≡ true → (u : Side) (p : Public) → Less (public_side u (takes_in e p)) (public_side u p)
unfolding takes_in
noise-less (events.Turn i) h u p = less-same u (record p { turn = i }) p refl refl
noise-less (events.Switch w place level k) h u p = absurd (true≢false (sym h))
noise-less (events.Move w move foe) h u p = absurd (true≢false (sym h))
noise-less (events.Cant w why) h u p = less-side w.side u (is_kept why) p (kept-less why)
noise-less (events.Damage w k source) h u p = less-side w.side u (λ x. takes_damage source (on_seen (λ m. record m { hp = k.hp }) x)) p (λ x. hurt-less source (on_seen (λ m. record m { hp = k.hp }) x))
noise-less (events.Heal w k) h u p = less-side w.side u (on_seen (λ m. record m { hp = k.hp })) p (λ x e. e)
noise-less (events.Status w kind) h u p = less-side w.side u
    (λ x. on_announced (gets_status kind (public_side (other w.side) p).last_move) (on_seen (is_afflicted kind) x)) p
    (λ x. status-less kind (public_side (other w.side) p).last_move (on_seen (is_afflicted kind) x))
noise-less (events.Cure w kind) h u p = less-side w.side u (on_seen is_cured) p (λ x e. e)
noise-less (events.Faint w) h u p = less-side w.side u (on_seen has_fainted) p (λ x e. e)
noise-less (events.Boost w stat i) h u p = less-side w.side u _ p (λ x e. e)
noise-less (events.Unboost w stat i) h u p = less-side w.side u _ p (λ x e. e)
noise-less events.ClearAll h u p = absurd (true≢false (sym h))
noise-less (events.Start w what) h u p = absurd (true≢false (sym h))
noise-less (events.End w what) h u p = absurd (true≢false (sym h))
noise-less (events.Prepare w move) h u p = absurd (true≢false (sym h))
noise-less (events.Activate w what) h u p = less-same u (activates w.side what p) p refl refl
noise-less (events.MustRecharge w) h u p = absurd (true≢false (sym h))
noise-less (events.Win s) h u p = less-same u (takes_in (events.Win s) p) p refl refl
noise-less events.Tie h u p = less-same u (takes_in events.Tie p) p refl refl
noise-less (events.Fault i) h u p = less-same u (takes_in (events.Fault i) p) p refl refl
noise-less _ h u p = λ e. e

set-less : (what : Volatile) (on : ℕ) (x : PublicSide) → Less (on_announced (set_volatile what on) x) x
set-less volatiles.Mist on x e = e
set-less volatiles.FocusEnergy on x e = e
set-less volatiles.Disable on x e = e
set-less volatiles.Rage on x e = e
set-less volatiles.LeechSeed on x e = e
set-less volatiles.Confusion on x e = e
set-less volatiles.Bide on x e = e
set-less volatiles.Substitute on x e = e
set-less volatiles.LightScreen on x e = e
set-less volatiles.Reflect on x e = e
set-less volatiles.TypeChange on x e = e
set-less volatiles.Trapped on x e = e
set-less volatiles.Splash on x e = e

pub end-less : (s : Side) (what : Volatile) (u : Side) (p : Public) → Less (public_side u (on_out s (on_announced (set_volatile what 0)) p)) (public_side u p)
end-less s what u p = less-side s u (on_announced (set_volatile what 0)) p (set-less what 0)

pub start-less : (s : Side) (what : Volatile) (u : Side) (p : Public) → Less (public_side u (begins s what p)) (public_side u p)
start-less s volatiles.TypeChange u p = less-side s u (takes_types (public_side (other s) p)) p (λ x e. e)
start-less s volatiles.Mist u p = less-side s u _ p (set-less volatiles.Mist 1)
start-less s volatiles.FocusEnergy u p = less-side s u _ p (set-less volatiles.FocusEnergy 1)
start-less s volatiles.Disable u p = less-side s u _ p (set-less volatiles.Disable 1)
start-less s volatiles.Rage u p = less-side s u _ p (set-less volatiles.Rage 1)
start-less s volatiles.LeechSeed u p = less-side s u _ p (set-less volatiles.LeechSeed 1)
start-less s volatiles.Confusion u p = less-side s u _ p (set-less volatiles.Confusion 1)
start-less s volatiles.Bide u p = less-side s u starts_bide p (λ x e. absurd (e refl))
start-less s volatiles.Substitute u p = less-side s u _ p (set-less volatiles.Substitute 1)
start-less s volatiles.LightScreen u p = less-side s u _ p (set-less volatiles.LightScreen 1)
start-less s volatiles.Reflect u p = less-side s u _ p (set-less volatiles.Reflect 1)
start-less s volatiles.Trapped u p = less-side s u _ p (set-less volatiles.Trapped 1)
start-less s volatiles.Splash u p = less-side s u _ p (set-less volatiles.Splash 1)

pub clear-less : (u : Side) (p : Public) → Less (public_side u (on_out Two is_cleared (on_out One is_cleared p))) (public_side u p)
clear-less u p e = less-side One u is_cleared p (λ x h. h) (less-side Two u is_cleared (on_out One is_cleared p) (λ x h. h) e)

suffer-less : (b : Bool) (x : PublicSide) → Less (recharges_unless b x) x
suffer-less true x e = absurd (e refl)
suffer-less false x e = e

pub move-less : (s u : Side) (move : ℕ) (p : Public) → Less (public_side u (on_out (other s) (suffers_move move) (on_out s (uses_move move) p))) (public_side u p)
move-less s u move p e = less-side s u (uses_move move) p (λ x h. absurd (h refl))
    (less-side (other s) u (suffers_move move) (on_out s (uses_move move) p) (λ x. suffer-less (ends_recharging (move_at move).effect) (on_seen is_overtaken x)) e)

pub prepare-less : (s u : Side) (move : ℕ) (p : Public) → Less (public_side u (on_out s (prepares move) p)) (public_side u p)
prepare-less s u move p = less-side s u (prepares move) p (λ x e. absurd (e refl))

-- What an event makes public, by the side that it names.

-- a change of a side, and one of its foe
abbrev pub both : Side → (PublicSide → PublicSide) → (PublicSide → PublicSide) → Public → Public
both One f g p = record p { one = f p.one; two = g p.two }
both Two f g p = record p { one = g p.one; two = f p.two }

only : (s : Side) (f : PublicSide → PublicSide) (p : Public) → on_public_side s f p ≡ both s f (λ x. x) p
only One f p = refl
only Two f p = refl

each_out : (s : Side) (f g : PublicSide → PublicSide) (p : Public) → on_out (other s) g (on_out s f p) ≡ both s (if_seen_out f) (if_seen_out g) p
unfolding on_out
each_out One f g p = refl
each_out Two f g p = refl

begun : (s : Side) (what : Volatile) (p : Public) → begins s what p ≡ on_public_side s (side_begins what (public_side (other s) p)) p
unfolding on_out
begun s volatiles.Confusion p = refl
begun s volatiles.Bide p = refl
begun s volatiles.Substitute p = refl
begun s volatiles.LeechSeed p = refl
begun s volatiles.Mist p = refl
begun s volatiles.FocusEnergy p = refl
begun s volatiles.LightScreen p = refl
begun s volatiles.Reflect p = refl
begun s volatiles.Disable p = refl
begun s volatiles.TypeChange p = refl
begun s volatiles.Trapped p = refl
begun s volatiles.Rage p = refl
begun s volatiles.Splash p = refl

some_is : {a b : Side} → Some a ≡ Some b → a ≡ b
some_is h = cc

pub hears_named : (e : Event) (s : Side) (p : Public) → side_named e ≡ Some s → takes_in e p ≡ both s (side_hears e (public_side (other s) p)) (foe_hears e) p
unfolding takes_in on_out
hears_named (events.Switch w place level h) s p is = subst (λ (t : Side). takes_in (events.Switch w place level h) p ≡ both t (side_hears (events.Switch w place level h) (public_side (other t) p)) (foe_hears (events.Switch w place level h)) p) (some_is is) (only w.side _ p)
hears_named (events.Cant w why) s p is = subst (λ (t : Side). takes_in (events.Cant w why) p ≡ both t (side_hears (events.Cant w why) (public_side (other t) p)) (foe_hears (events.Cant w why)) p) (some_is is) (only w.side _ p)
hears_named (events.Damage w h source) s p is = subst (λ (t : Side). takes_in (events.Damage w h source) p ≡ both t (side_hears (events.Damage w h source) (public_side (other t) p)) (foe_hears (events.Damage w h source)) p) (some_is is) (only w.side _ p)
hears_named (events.Heal w h) s p is = subst (λ (t : Side). takes_in (events.Heal w h) p ≡ both t (side_hears (events.Heal w h) (public_side (other t) p)) (foe_hears (events.Heal w h)) p) (some_is is) (only w.side _ p)
hears_named (events.Status w kind) s p is = subst (λ (t : Side). takes_in (events.Status w kind) p ≡ both t (side_hears (events.Status w kind) (public_side (other t) p)) (foe_hears (events.Status w kind)) p) (some_is is) (only w.side _ p)
hears_named (events.Cure w kind) s p is = subst (λ (t : Side). takes_in (events.Cure w kind) p ≡ both t (side_hears (events.Cure w kind) (public_side (other t) p)) (foe_hears (events.Cure w kind)) p) (some_is is) (only w.side _ p)
hears_named (events.Faint w) s p is = subst (λ (t : Side). takes_in (events.Faint w) p ≡ both t (side_hears (events.Faint w) (public_side (other t) p)) (foe_hears (events.Faint w)) p) (some_is is) (only w.side _ p)
hears_named (events.Boost w stat n) s p is = subst (λ (t : Side). takes_in (events.Boost w stat n) p ≡ both t (side_hears (events.Boost w stat n) (public_side (other t) p)) (foe_hears (events.Boost w stat n)) p) (some_is is) (only w.side _ p)
hears_named (events.Unboost w stat n) s p is = subst (λ (t : Side). takes_in (events.Unboost w stat n) p ≡ both t (side_hears (events.Unboost w stat n) (public_side (other t) p)) (foe_hears (events.Unboost w stat n)) p) (some_is is) (only w.side _ p)
hears_named (events.End w what) s p is = subst (λ (t : Side). takes_in (events.End w what) p ≡ both t (side_hears (events.End w what) (public_side (other t) p)) (foe_hears (events.End w what)) p) (some_is is) (only w.side _ p)
hears_named (events.Prepare w move) s p is = subst (λ (t : Side). takes_in (events.Prepare w move) p ≡ both t (side_hears (events.Prepare w move) (public_side (other t) p)) (foe_hears (events.Prepare w move)) p) (some_is is) (only w.side _ p)
hears_named (events.MustRecharge w) s p is = subst (λ (t : Side). takes_in (events.MustRecharge w) p ≡ both t (side_hears (events.MustRecharge w) (public_side (other t) p)) (foe_hears (events.MustRecharge w)) p) (some_is is) (only w.side _ p)
hears_named (events.Move w move foe) s p is = subst (λ (t : Side). takes_in (events.Move w move foe) p ≡ both t (side_hears (events.Move w move foe) (public_side (other t) p)) (foe_hears (events.Move w move foe)) p) (some_is is) (each_out w.side _ _ p)
hears_named (events.Start w what) s p is = subst (λ (t : Side). takes_in (events.Start w what) p ≡ both t (side_hears (events.Start w what) (public_side (other t) p)) (foe_hears (events.Start w what)) p) (some_is is) (begun w.side what p ∙ only w.side _ p)
hears_named (events.Turn n) s p is = absurd (let k : None ≡ Some s = is in cc)
hears_named (events.Crit w) s p is = absurd (let k : None ≡ Some s = is in cc)
hears_named (events.SuperEffective w) s p is = absurd (let k : None ≡ Some s = is in cc)
hears_named (events.Resisted w) s p is = absurd (let k : None ≡ Some s = is in cc)
hears_named (events.Immune w) s p is = absurd (let k : None ≡ Some s = is in cc)
hears_named (events.Miss w) s p is = absurd (let k : None ≡ Some s = is in cc)
hears_named (events.Fail w) s p is = absurd (let k : None ≡ Some s = is in cc)
hears_named (events.Activate w what) s p is = absurd (let k : None ≡ Some s = is in cc)
hears_named (events.HitCount w n) s p is = absurd (let k : None ≡ Some s = is in cc)
hears_named (events.Win t) s p is = absurd (let k : None ≡ Some s = is in cc)
hears_named (events.Fault n) s p is = absurd (let k : None ≡ Some s = is in cc)
hears_named events.ClearAll s p is = absurd (let k : None ≡ Some s = is in cc)
hears_named events.OneHitKnockOut s p is = absurd (let k : None ≡ Some s = is in cc)
hears_named events.Tie s p is = absurd (let k : None ≡ Some s = is in cc)

pub hears_one : (e : Event) (p : Public) (s : Side) (a b : PublicSide) → side_named e ≡ Some s → s ≡ One
    → a ≡ side_hears e p.two p.one → b ≡ foe_hears e p.two → record p { one = a; two = b } ≡ takes_in e p
hears_one e p s a b is one h k =
    ap (λ (x : PublicSide). record p { one = x; two = b }) h ∙ ap (λ (x : PublicSide). record p { one = side_hears e p.two p.one; two = x }) k
    ∙ ap (λ (t : Side). both t (side_hears e (public_side (other t) p)) (foe_hears e) p) (sym one) ∙ sym (hears_named e s p is)

pub hears_two : (e : Event) (p : Public) (s : Side) (a b : PublicSide) → side_named e ≡ Some s → s ≡ Two
    → a ≡ side_hears e p.one p.two → b ≡ foe_hears e p.one → record p { one = b; two = a } ≡ takes_in e p
hears_two e p s a b is two h k =
    ap (λ (x : PublicSide). record p { one = b; two = x }) h ∙ ap (λ (x : PublicSide). record p { one = x; two = side_hears e p.one p.two }) k
    ∙ ap (λ (t : Side). both t (side_hears e (public_side (other t) p)) (foe_hears e) p) (sym two) ∙ sym (hears_named e s p is)

pub hears_turn : (e : Event) (p : Public) (n m : ℕ) → e ≡ events.Turn n → m ≡ n → record p { turn = m } ≡ takes_in e p
unfolding takes_in
hears_turn e p n m is h = rw (is, h) refl

pub hears_clear : (e : Event) (p : Public) (a b : PublicSide) → e ≡ events.ClearAll → a ≡ if_seen_out is_cleared p.one
    → b ≡ if_seen_out is_cleared p.two → record p { one = a; two = b } ≡ takes_in e p
unfolding takes_in on_out
hears_clear e p a b is h k = rw (is, h, k) refl

pub hears_win : (e : Event) (p : Public) (s : Side) (o : ℕ) → e ≡ events.Win s → o ≡ outcome_byte (won_by s) → record p { outcome = o } ≡ takes_in e p
unfolding takes_in
hears_win e p s o is h = rw (is, h) refl

pub hears_tie : (e : Event) (p : Public) → e ≡ events.Tie → record p { outcome = 3 } ≡ takes_in e p
unfolding takes_in
hears_tie e p is = rw is refl

pub hears_fault : (e : Event) (p : Public) (n m : ℕ) → e ≡ events.Fault n → m ≡ n → record p { outcome = 3 + m } ≡ takes_in e p
unfolding takes_in
hears_fault e p n m is h = rw (is, h) refl

pub hears_activate : (e : Event) (p q : Public) (w : Who) (what : Volatile) → e ≡ events.Activate w what → q ≡ activates w.side what p → q ≡ takes_in e p
unfolding takes_in
hears_activate e p q w what is h = rw (is, h) refl

pub hears_nothing : (e : Event) (p : Public) → side_named e ≡ None → ((n : ℕ) → e ≡ events.Turn n → ⊥) → (e ≡ events.ClearAll → ⊥)
    → ((s : Side) → e ≡ events.Win s → ⊥) → (e ≡ events.Tie → ⊥) → ((n : ℕ) → e ≡ events.Fault n → ⊥)
    → ((w : Who) (what : Volatile) → e ≡ events.Activate w what → ⊥) → p ≡ takes_in e p
unfolding takes_in
hears_nothing (events.Switch w place level h) p is t cl wi ti fa ac = absurd (let k : Some w.side ≡ None = is in cc)
hears_nothing (events.Cant w why) p is t cl wi ti fa ac = absurd (let k : Some w.side ≡ None = is in cc)
hears_nothing (events.Damage w h source) p is t cl wi ti fa ac = absurd (let k : Some w.side ≡ None = is in cc)
hears_nothing (events.Heal w h) p is t cl wi ti fa ac = absurd (let k : Some w.side ≡ None = is in cc)
hears_nothing (events.Status w kind) p is t cl wi ti fa ac = absurd (let k : Some w.side ≡ None = is in cc)
hears_nothing (events.Cure w kind) p is t cl wi ti fa ac = absurd (let k : Some w.side ≡ None = is in cc)
hears_nothing (events.Faint w) p is t cl wi ti fa ac = absurd (let k : Some w.side ≡ None = is in cc)
hears_nothing (events.Boost w stat n) p is t cl wi ti fa ac = absurd (let k : Some w.side ≡ None = is in cc)
hears_nothing (events.Unboost w stat n) p is t cl wi ti fa ac = absurd (let k : Some w.side ≡ None = is in cc)
hears_nothing (events.End w what) p is t cl wi ti fa ac = absurd (let k : Some w.side ≡ None = is in cc)
hears_nothing (events.Prepare w move) p is t cl wi ti fa ac = absurd (let k : Some w.side ≡ None = is in cc)
hears_nothing (events.MustRecharge w) p is t cl wi ti fa ac = absurd (let k : Some w.side ≡ None = is in cc)
hears_nothing (events.Move w move foe) p is t cl wi ti fa ac = absurd (let k : Some w.side ≡ None = is in cc)
hears_nothing (events.Start w what) p is t cl wi ti fa ac = absurd (let k : Some w.side ≡ None = is in cc)
hears_nothing (events.Turn n) p is t cl wi ti fa ac = absurd (t n refl)
hears_nothing events.ClearAll p is t cl wi ti fa ac = absurd (cl refl)
hears_nothing (events.Win s) p is t cl wi ti fa ac = absurd (wi s refl)
hears_nothing events.Tie p is t cl wi ti fa ac = absurd (ti refl)
hears_nothing (events.Fault n) p is t cl wi ti fa ac = absurd (fa n refl)
hears_nothing (events.Crit w) p is t cl wi ti fa ac = refl
hears_nothing (events.SuperEffective w) p is t cl wi ti fa ac = refl
hears_nothing (events.Resisted w) p is t cl wi ti fa ac = refl
hears_nothing (events.Immune w) p is t cl wi ti fa ac = refl
hears_nothing (events.Miss w) p is t cl wi ti fa ac = refl
hears_nothing (events.Fail w) p is t cl wi ti fa ac = refl
hears_nothing (events.Activate w what) p is t cl wi ti fa ac = absurd (ac w what refl)
hears_nothing (events.HitCount w n) p is t cl wi ti fa ac = refl
hears_nothing events.OneHitKnockOut p is t cl wi ti fa ac = refl

pub hears_by : (e : Event) (p q r : Public) (n : ℕ) → n ≡ acting e → q ≡ settled_by n p → r ≡ takes_in e q → r ≡ hears e p
unfolding hears settled
hears_by e p q r n a b c = c ∙ ap (takes_in e) (b ∙ ap (λ (i : ℕ). settled_by i p) a)
