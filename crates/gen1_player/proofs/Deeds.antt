-- What the log tells of what the active members do: Bide, charging, reach, recharging, Substitute, bad poison, rage, and the last move.
use Rattle.std.proofs.Common.{Bool, List, None, Option, Some, ap, arith, false, if◌then◌else◌, is_some, length, length-set, map, min, not, refl, slice_index_or, subst, sym, true, true≢false, unwrap_or, ℕ, ◌+◌, ◌-◌, ◌==◌, ◌∙◌, ◌≡◌, ◌≢◌, ◌≤◌}
use Rattle.std.proofs.Math.ListN.{get_or-map}
use Rattle.std.proofs.Math.Seq.{map-set_same}
use Rattle.gen1_tables.specs.Effects.{recharges}
use Rattle.gen1_stats.specs.declared.member.KnownMove.{KnownMove}
use Rattle.gen1_stats.specs.Members.{is_living, nobody, nothing_known, Member}
use Rattle.gen1_machine.specs.declared.side.Side.{Side}
use Rattle.gen1_machine.specs.declared.side.Side.TheVariants.{One, Two}
use Rattle.gen1_machine.specs.declared.event.DamageSource.{DamageSource}
use Rattle.gen1_machine.specs.declared.event.DamageSource.TheVariants as sources
use Rattle.gen1_machine.specs.declared.event.Volatile.{Volatile}
use Rattle.gen1_machine.specs.declared.event.Volatile.TheVariants as volatiles
use Rattle.gen1_machine.specs.declared.event.Event.{Event}
use Rattle.gen1_machine.specs.declared.event.Event.TheVariants as events
use Rattle.gen1_machine.specs.declared.event.Kind.{Kind}
use Rattle.gen1_machine.specs.declared.event.Kind.TheVariants as kinds
use Rattle.gen1_machine.specs.declared.event.Who.{Who}
use Rattle.gen1_machine.specs.declared.side.UsedMove.{UsedMove}
use Rattle.gen1_machine.specs.declared.side.UsedMove.TheVariants.{Nothing, Slot, Struggle}
use Rattle.gen1_machine.specs.Moves.{move_at}
use Rattle.gen1_machine.specs.Picks.{number_in}
use Rattle.gen1_machine.specs.Rules.{bit_of}
use Rattle.gen1_machine.specs.Sides.{other}
use Rattle.gen1_machine.specs.Conditions.{one_more, with_worse_poison, ActiveConditions}
use Rattle.gen1_machine.specs.State.{changed_active, changed_conditions, changed_member, fallen, hurt_by, member_at, member_in, party, with_member, with_party, Active, Field, Party}
use Rattle.gen1_machine.proofs.Watching.{member-after, BothOut, IsOut}
use Rattle.gen1_player.specs.declared.public.Public.{Public}
use Rattle.gen1_player.specs.declared.announced.Announced.{Announced}
use Rattle.gen1_player.specs.declared.public_side.PublicSide.{PublicSide}
use Rattle.gen1_player.specs.Public.{activates, broken_off_if, gets_status, has_fainted, has_hit_itself, if_seen_out, is_afflicted, is_cured, on_announced, on_out, on_seen, public_side, settled_by, takes_damage, takes_in, waiting_for, worsens}
use Rattle.gen1_player.proofs.Facts.{followed, is_dull, is_poison, is_residual, is_telling, traits, Calm, Followed, Placid, Standing, Tame, Traits}
use Rattle.gen1_player.proofs.HeardSides.{foe-side, out-side}
use Rattle.gen1_player.proofs.Appearing.{no_traits}

-- One side

-- What is announced. A flag is 1 or 0. The counter of bad poison is 0 without it.
pub record Deeds : Type 0 where
  pub place : ℕ
  pub substitute : ℕ
  pub bide : ℕ
  pub charging : ℕ
  pub toxic : ℕ
  pub toxic_count : ℕ
  pub rage : ℕ
  pub unused : ℕ

abbrev pub deeds : PublicSide → Deeds
deeds x = let a = x.announced in record { place = x.place; substitute = a.substitute; bide = a.bide; charging = a.charging; toxic = a.toxic; toxic_count = a.toxic_count; rage = a.rage; unused = x.unused }

-- What is so.
pub record Core : Type 0 where
  pub substitute : Bool
  pub bide : Bool
  pub charging : Bool
  pub invulnerable : Bool
  pub poison : Option ℕ
  pub rage : Bool

abbrev pub core_of : Followed → Core
core_of x = record { substitute = x.substitute; bide = x.bide; charging = x.charging; invulnerable = x.invulnerable; poison = x.poison; rage = x.rage }

abbrev pub core : ActiveConditions → Core
core c = core_of (followed c)

abbrev pub deeds_of : ℕ → Core → Deeds
deeds_of place c = record {
  place = place;
  substitute = bit_of c.substitute;
  bide = bit_of c.bide;
  charging = bit_of c.charging;
  toxic = bit_of (is_some c.poison);
  toxic_count = unwrap_or c.poison 0;
  rage = bit_of c.rage;
  unused = 0;
}

-- The number of the current move.
abbrev pub current_of : Party → ℕ
current_of t = number_in t.active.current_move (member_at t.active.place t).moves

pub record Does (x : PublicSide) (t : Party) : Type 0 where
  pub same : deeds x ≡ deeds_of t.active.place (core t.active.conditions)
  pub reach : x.invulnerable ≢ 0 → t.active.conditions.invulnerable ≡ true
  pub rests : x.announced.recharging ≢ 0 → recharges (move_at x.last_move).effect ≡ true
  pub last : x.last_move ≡ current_of t
  pub few : length t.members ≤ 6

-- Changes of a side

abbrev pub with_active : Active → Party → Party
with_active a t = record t { active = a }

abbrev pub with_conditions : (ActiveConditions → ActiveConditions) → Party → Party
with_conditions change t = record t { active = record t.active { conditions = change t.active.conditions } }

abbrev pub Bland : (ActiveConditions → ActiveConditions) → Type 0
Bland change = (c : ActiveConditions) → core (change c) ≡ core c

pub calm-bland : (change : ActiveConditions → ActiveConditions) → Calm change → Bland change
calm-bland change h c = ap core_of (h c)

pub does-active : (change : Active → Active) → Placid change → (x : PublicSide) (t : Party) → Does x t → Does x (with_active (change t.active) t)
does-active change h x t m = record {
  same = m.same ∙ sym (ap (λ (a : Standing). deeds_of a.place (core a.conditions)) (h t.active));
  reach = λ e. ap (λ (a : Standing). a.conditions.invulnerable) (h t.active) ∙ m.reach e;
  rests = m.rests;
  last = m.last ∙ sym (ap (λ (a : Standing). number_in a.current_move (member_at a.place t).moves) (h t.active));
  few = m.few;
}

pub does-conditions : (change : ActiveConditions → ActiveConditions) → Bland change → (x : PublicSide) (t : Party) → Does x t → Does x (with_conditions change t)
does-conditions change h x t m = record {
  same = m.same ∙ sym (ap (deeds_of t.active.place) (h t.active.conditions));
  reach = λ e. ap (λ (c : Core). c.invulnerable) (h t.active.conditions) ∙ m.reach e;
  rests = m.rests;
  last = m.last;
  few = m.few;
}

abbrev id_of : KnownMove → ℕ
id_of k = k.id

named-same : (u : UsedMove) (a b : List KnownMove) → map id_of a ≡ map id_of b → number_in u a ≡ number_in u b
named-same Nothing a b e = refl
named-same Struggle a b e = refl
named-same (Slot k) a b e = sym (get_or-map id_of a (k - 1) nothing_known) ∙ ap (λ (l : List ℕ). slice_index_or l (k - 1) (id_of nothing_known)) e ∙ get_or-map id_of b (k - 1) nothing_known

members-same : (i : ℕ) (t : Party) (n : Member) → traits n ≡ traits (member_at i t) → traits (member_at i (with_member i n t)) ≡ traits (member_at i t)
members-same i t n e = sym (get_or-map traits (with_member i n t).members (i - 1) nobody)
    ∙ ap (λ (l : List Traits). slice_index_or l (i - 1) no_traits) (map-set_same traits t.members (i - 1) n nobody e)
    ∙ get_or-map traits t.members (i - 1) nobody

pub current-kept : (n : Member) (t : Party) → traits n ≡ traits (member_at t.active.place t) → current_of (with_member t.active.place n t) ≡ current_of t
current-kept n t e = named-same t.active.current_move _ _ (ap (λ (q : Traits). q.moves) (members-same t.active.place t n e))

pub does-member : (n : Member) (x : PublicSide) (t : Party) → traits n ≡ traits (member_at t.active.place t) → Does x t → Does x (with_member t.active.place n t)
does-member n x t e m = record {
  same = m.same;
  reach = m.reach;
  rests = m.rests;
  last = m.last ∙ sym (current-kept n t e);
  few = rw (length-set t.members (t.active.place - 1) n) m.few;
}

-- Sides of which as much is announced, or less of reach and recharging
pub record Fades (y x : PublicSide) : Type 0 where
  pub same : deeds y ≡ deeds x
  pub reach : y.invulnerable ≢ 0 → x.invulnerable ≢ 0
  pub rests : y.announced.recharging ≢ 0 → x.announced.recharging ≢ 0
  pub last : y.last_move ≡ x.last_move

pub fades-refl : (x : PublicSide) → Fades x x
fades-refl x = record { same = refl; reach = λ e. e; rests = λ e. e; last = refl }

pub fades-then : (z y x : PublicSide) → Fades z y → Fades y x → Fades z x
fades-then z y x a b = record { same = a.same ∙ b.same; reach = λ e. b.reach (a.reach e); rests = λ e. b.rests (a.rests e); last = a.last ∙ b.last }

pub does-fades : (y x : PublicSide) (t : Party) → Fades y x → Does x t → Does y t
does-fades y x t q m = record {
  same = q.same ∙ m.same;
  reach = λ e. m.reach (q.reach e);
  rests = λ e. subst (λ (k : ℕ). recharges (move_at k).effect ≡ true) (sym q.last) (m.rests (q.rests e));
  last = q.last ∙ m.last;
  few = m.few;
}

fades-out : (h : PublicSide → PublicSide) (x : PublicSide) → Fades (h x) x → Fades (if_seen_out h x) x
fades-out h x q = elim (x.place == 0) as (λ b. Fades (if b then x else h x) x) [ true ↦ fades-refl x | false ↦ q ]

pub fades-side : (s u : Side) (h : PublicSide → PublicSide) (p : Public) → ((x : PublicSide) → Fades (h x) x) → Fades (public_side u (on_out s h p)) (public_side u p)
unfolding on_out
fades-side One One h p q = fades-out h p.one (q p.one)
fades-side One Two h p q = fades-refl p.two
fades-side Two One h p q = fades-refl p.one
fades-side Two Two h p q = fades-out h p.two (q p.two)

fades-same : (u : Side) (p q : Public) → p.one ≡ q.one → p.two ≡ q.two → Fades (public_side u p) (public_side u q)
fades-same One p q a b = subst (λ (x : PublicSide). Fades p.one x) a (fades-refl p.one)
fades-same Two p q a b = subst (λ (x : PublicSide). Fades p.two x) b (fades-refl p.two)

-- Dull events

hurt-fades : (source : DamageSource) → not (is_telling source) ≡ true → (x : PublicSide) → Fades (takes_damage source x) x
hurt-fades sources.Direct e x = record { same = refl; reach = λ e. e; rests = λ e. e; last = refl }
hurt-fades sources.Recoil e x = record { same = refl; reach = λ e. e; rests = λ e. e; last = refl }
hurt-fades sources.Poison e x = absurd (true≢false (sym e))
hurt-fades sources.Burn e x = absurd (true≢false (sym e))
hurt-fades sources.LeechSeed e x = absurd (true≢false (sym e))
hurt-fades sources.Confusion e x = absurd (true≢false (sym e))

status-fades : (kind : Kind) → not (is_poison kind) ≡ true → (move : ℕ) (x : PublicSide) → Fades (on_announced (gets_status kind move) x) x
status-fades kinds.Poison e move x = absurd (true≢false (sym e))
status-fades kinds.Freeze e move x = record { same = refl; reach = λ e. e; rests = λ e. absurd (e refl); last = refl }
status-fades _ e move x = record { same = refl; reach = λ e. e; rests = λ e. e; last = refl }

seen-fades : (h : PublicSide → PublicSide) → ((x : PublicSide) → deeds (h x) ≡ deeds x) → ((x : PublicSide) → (h x).invulnerable ≡ x.invulnerable)
    → ((x : PublicSide) → (h x).announced.recharging ≡ x.announced.recharging) → ((x : PublicSide) → (h x).last_move ≡ x.last_move) → (x : PublicSide) → Fades (h x) x
seen-fades h a b r c x = record { same = a x; reach = λ e. subst (λ (i : ℕ). i ≢ 0) (b x) e; rests = λ e. subst (λ (i : ℕ). i ≢ 0) (r x) e; last = c x }

pub dull-fades : (e : Event) → is_dull e ≡ true → (u : Side) (p : Public) → Fades (public_side u (takes_in e p)) (public_side u p)
unfolding takes_in
dull-fades (events.Turn i) h u p = fades-same u (record p { turn = i }) p refl refl
dull-fades (events.Switch w place level k) h u p = absurd (true≢false (sym h))
dull-fades (events.Move w move foe) h u p = absurd (true≢false (sym h))
dull-fades (events.Cant w why) h u p = absurd (true≢false (sym h))
dull-fades (events.Damage w k source) h u p = fades-side w.side u (λ x. takes_damage source (on_seen (λ m. record m { hp = k.hp }) x)) p
    (λ x. fades-then _ (on_seen (λ m. record m { hp = k.hp }) x) x (hurt-fades source h _) (seen-fades (on_seen (λ m. record m { hp = k.hp })) (λ y. refl) (λ y. refl) (λ y. refl) (λ y. refl) x))
dull-fades (events.Heal w k) h u p = fades-side w.side u (on_seen (λ m. record m { hp = k.hp })) p (seen-fades _ (λ x. refl) (λ x. refl) (λ x. refl) (λ x. refl))
dull-fades (events.Status w kind) h u p = fades-side w.side u
    (λ x. on_announced (gets_status kind (public_side (other w.side) p).last_move) (on_seen (is_afflicted kind) x)) p
    (λ x. fades-then _ (on_seen (is_afflicted kind) x) x (status-fades kind h _ _)
    (seen-fades (on_seen (is_afflicted kind)) (λ y. refl) (λ y. refl) (λ y. refl) (λ y. refl) x))
dull-fades (events.Cure w kind) h u p = fades-side w.side u (on_seen is_cured) p (seen-fades _ (λ x. refl) (λ x. refl) (λ x. refl) (λ x. refl))
dull-fades (events.Faint w) h u p = fades-side w.side u (on_seen has_fainted) p (seen-fades _ (λ x. refl) (λ x. refl) (λ x. refl) (λ x. refl))
dull-fades (events.Boost w stat i) h u p = fades-side w.side u _ p (seen-fades _ (λ x. refl) (λ x. refl) (λ x. refl) (λ x. refl))
dull-fades (events.Unboost w stat i) h u p = fades-side w.side u _ p (seen-fades _ (λ x. refl) (λ x. refl) (λ x. refl) (λ x. refl))
dull-fades events.ClearAll h u p = absurd (true≢false (sym h))
dull-fades (events.Start w what) h u p = absurd (true≢false (sym h))
dull-fades (events.End w what) h u p = absurd (true≢false (sym h))
dull-fades (events.Prepare w move) h u p = absurd (true≢false (sym h))
dull-fades (events.Activate w what) h u p = fades-same u (activates w.side what p) p refl refl
dull-fades (events.MustRecharge w) h u p = absurd (true≢false (sym h))
dull-fades (events.Win s) h u p = fades-same u (takes_in (events.Win s) p) p refl refl
dull-fades events.Tie h u p = fades-same u (takes_in events.Tie p) p refl refl
dull-fades (events.Fault i) h u p = fades-same u (takes_in (events.Fault i) p) p refl refl
dull-fades _ h u p = fades-refl (public_side u p)

-- Nobody may have hit itself after an event, but for the one that tells of confusion.

pub pending-out : (s : Side) (h : PublicSide → PublicSide) (p : Public) → (on_out s h p).may_hit_itself ≡ p.may_hit_itself
unfolding on_out
pending-out One h p = refl
pending-out Two h p = refl

waits-not : (w : Who) (what : Volatile) → is_dull (events.Activate w what) ≡ true → (s : Side) (i : ℕ) → waiting_for s what i ≡ 0
waits-not w volatiles.Confusion e s i = absurd (true≢false (sym e))
waits-not w volatiles.Mist e s i = refl
waits-not w volatiles.FocusEnergy e s i = refl
waits-not w volatiles.Disable e s i = refl
waits-not w volatiles.Rage e s i = refl
waits-not w volatiles.LeechSeed e s i = refl
waits-not w volatiles.Bide e s i = refl
waits-not w volatiles.Substitute e s i = refl
waits-not w volatiles.LightScreen e s i = refl
waits-not w volatiles.Reflect e s i = refl
waits-not w volatiles.TypeChange e s i = refl
waits-not w volatiles.Trapped e s i = refl
waits-not w volatiles.Splash e s i = refl

pub dull-quiet : (e : Event) → is_dull e ≡ true → (p : Public) → p.may_hit_itself ≡ 0 → (takes_in e p).may_hit_itself ≡ 0
unfolding takes_in
dull-quiet (events.Turn i) h p q = q
dull-quiet (events.Switch w place level k) h p q = absurd (true≢false (sym h))
dull-quiet (events.Move w move foe) h p q = absurd (true≢false (sym h))
dull-quiet (events.Cant w why) h p q = absurd (true≢false (sym h))
dull-quiet (events.Damage w k source) h p q = pending-out w.side _ p ∙ q
dull-quiet (events.Heal w k) h p q = pending-out w.side _ p ∙ q
dull-quiet (events.Status w kind) h p q = pending-out w.side _ p ∙ q
dull-quiet (events.Cure w kind) h p q = pending-out w.side _ p ∙ q
dull-quiet (events.Faint w) h p q = pending-out w.side _ p ∙ q
dull-quiet (events.Boost w stat i) h p q = pending-out w.side _ p ∙ q
dull-quiet (events.Unboost w stat i) h p q = pending-out w.side _ p ∙ q
dull-quiet events.ClearAll h p q = absurd (true≢false (sym h))
dull-quiet (events.Start w what) h p q = absurd (true≢false (sym h))
dull-quiet (events.End w what) h p q = absurd (true≢false (sym h))
dull-quiet (events.Prepare w move) h p q = absurd (true≢false (sym h))
dull-quiet (events.Activate w what) h p q = waits-not w what h w.side _
dull-quiet (events.MustRecharge w) h p q = absurd (true≢false (sym h))
dull-quiet (events.Win s) h p q = q
dull-quiet events.Tie h p q = q
dull-quiet (events.Fault i) h p q = q
dull-quiet _ h p q = q

-- Both sides

pub record Even (f : Field) (p : Public) : Type 0 where
  pub one : Does p.one f.one
  pub two : Does p.two f.two

pub does-in : (s : Side) {f : Field} {p : Public} → Even f p → Does (public_side s p) (party s f)
does-in One m = m.one
does-in Two m = m.two

pub placed-in : (s : Side) (f : Field) (p : Public) → BothOut f → Even f p → 1 ≤ (public_side s p).place
placed-in One f p o m = let e : p.one.place ≡ f.one.active.place = ap (λ (k : Deeds). k.place) m.one.same in omega (arith, o.one.placed, e)
placed-in Two f p o m = let e : p.two.place ≡ f.two.active.place = ap (λ (k : Deeds). k.place) m.two.same in omega (arith, o.two.placed, e)

pub even-fades : (f : Field) (p q : Public) → ((u : Side) → Fades (public_side u q) (public_side u p)) → Even f p → Even f q
even-fades f p q h m = record { one = does-fades q.one p.one f.one (h One) m.one; two = does-fades q.two p.two f.two (h Two) m.two }

-- A change of one side, and what its event says.
pub even-party : (s : Side) (h : PublicSide → PublicSide) (t : Party) (f : Field) (p : Public) → BothOut f → Does (h (public_side s p)) t → Even f p → Even (with_party s t f) (on_out s h p)
even-party One h t f p o d m = record {
  one = subst (λ (x : PublicSide). Does x t) (sym (out-side One h p (placed-in One f p o m))) d;
  two = subst (λ (x : PublicSide). Does x f.two) (sym (foe-side One h p)) m.two;
}
even-party Two h t f p o d m = record {
  one = subst (λ (x : PublicSide). Does x f.one) (sym (foe-side Two h p)) m.one;
  two = subst (λ (x : PublicSide). Does x t) (sym (out-side Two h p (placed-in Two f p o m))) d;
}

pub even-active : (s : Side) (change : Active → Active) → Placid change → (f : Field) (p : Public) → Even f p → Even (changed_active s change f) p
unfolding changed_active
even-active One change h f p m = record { one = does-active change h p.one f.one m.one; two = m.two }
even-active Two change h f p m = record { one = m.one; two = does-active change h p.two f.two m.two }

pub even-conditions : (s : Side) (change : ActiveConditions → ActiveConditions) → Bland change → (f : Field) (p : Public) → Even f p → Even (changed_conditions s change f) p
unfolding changed_active changed_conditions
even-conditions One change h f p m = record { one = does-conditions change h p.one f.one m.one; two = m.two }
even-conditions Two change h f p m = record { one = m.one; two = does-conditions change h p.two f.two m.two }

pub even-member : (s : Side) (change : Member → Member) → Tame change → (f : Field) (p : Public) → Even f p → Even (changed_member s change f) p
unfolding changed_member
even-member One change h f p m = record { one = does-member (change (member_in One f)) p.one f.one (h (member_in One f)) m.one; two = m.two }
even-member Two change h f p m = record { one = m.one; two = does-member (change (member_in Two f)) p.two f.two (h (member_in Two f)) m.two }

pub even-apart : (f g : Field) (p : Public) → f.one ≡ g.one → f.two ≡ g.two → Even f p → Even g p
even-apart f g p a b m = record { one = subst (Does p.one) a m.one; two = subst (Does p.two) b m.two }

-- What may have happened before an event

off-if : (b : Bool) (x : PublicSide) (t : Party) → b ≡ false → Does x t → Does (broken_off_if b x) t
off-if b x t e m = subst (λ (c : Bool). Does (broken_off_if c x) t) (sym e) m

-- Nobody has hit itself.
pub even-settled : (n : ℕ) (f : Field) (p : Public) → has_hit_itself 1 n p.may_hit_itself ≡ false → has_hit_itself 2 n p.may_hit_itself ≡ false → Even f p → Even f (settled_by n p)
even-settled n f p a b m = record { one = off-if _ p.one f.one a m.one; two = off-if _ p.two f.two b m.two }

pub even-quiet : (n : ℕ) (f : Field) (p : Public) → p.may_hit_itself ≡ 0 → Even f p → Even f (settled_by n p)
even-quiet n f p e m = even-settled n f p (ap (has_hit_itself 1 n) e) (ap (has_hit_itself 2 n) e) m

-- Bad poison becomes worse

abbrev worse : Deeds → Deeds
worse k = record k { toxic_count = (if k.toxic == 0 then k.toxic_count else min 64 (k.toxic_count + 1)) }

core-worse : (place : ℕ) (c : ActiveConditions) → deeds_of place (core (with_worse_poison c)) ≡ worse (deeds_of place (core c))
unfolding with_worse_poison
core-worse place c = by c.bad_poison
  where
    with_count : Option ℕ → Deeds
    with_count o = deeds_of place (record (core c) { poison = o })

    by : (o : Option ℕ) → with_count (one_more o) ≡ worse (with_count o)
    by None = refl
    by (Some n) = refl

deeds-worse : (x : PublicSide) → deeds (on_announced worsens x) ≡ worse (deeds x)
deeds-worse x = by (x.announced.toxic == 0)
  where
    counted : Announced
    counted = record x.announced { toxic_count = min 64 (x.announced.toxic_count + 1) }

    by : (b : Bool) → deeds (record x { announced = (if b then x.announced else counted) }) ≡ record (deeds x) { toxic_count = (if b then x.announced.toxic_count else min 64 (x.announced.toxic_count + 1)) }
    by true = refl
    by false = refl

rests-worse : (a : Announced) → (worsens a).recharging ≡ a.recharging
rests-worse a = by (a.toxic == 0)
  where
    by : (b : Bool) → (if b then a else record a { toxic_count = min 64 (a.toxic_count + 1) }).recharging ≡ a.recharging
    by true = refl
    by false = refl

hurt-is : (source : DamageSource) → is_residual source ≡ true → (x : PublicSide) → takes_damage source x ≡ on_announced worsens x
hurt-is sources.Poison e x = refl
hurt-is sources.Burn e x = refl
hurt-is sources.LeechSeed e x = refl
hurt-is sources.Direct e x = absurd (true≢false (sym e))
hurt-is sources.Recoil e x = absurd (true≢false (sym e))
hurt-is sources.Confusion e x = absurd (true≢false (sym e))

does-worse : (x : PublicSide) (t : Party) → Does x t → Does (on_announced worsens x) (with_conditions with_worse_poison t)
unfolding with_worse_poison
does-worse x t m = record {
  same = deeds-worse x ∙ ap worse m.same ∙ sym (core-worse t.active.place t.active.conditions);
  reach = m.reach;
  rests = λ e. m.rests (subst (λ (n : ℕ). n ≢ 0) (rests-worse x.announced) e);
  last = m.last;
  few = m.few;
}

-- Its damage, and the event of it
abbrev pub hurt_to : DamageSource → ℕ → PublicSide → PublicSide
hurt_to source hp x = takes_damage source (on_seen (λ m. record m { hp = hp }) x)

does-hurt : (source : DamageSource) → is_residual source ≡ true → (hp : ℕ) (n : Member) (x : PublicSide) (t : Party) → traits n ≡ traits (member_at t.active.place t) → Does x t
    → Does (hurt_to source hp x) (with_member t.active.place n (with_conditions with_worse_poison t))
does-hurt source r hp n x t e m =
    let y : PublicSide = on_seen (λ m. record m { hp = hp }) x in
    does-member n (hurt_to source hp x) (with_conditions with_worse_poison t) e
    (subst (λ (z : PublicSide). Does z (with_conditions with_worse_poison t)) (sym (hurt-is source r y))
    (does-worse y t (record { same = m.same; reach = m.reach; rests = m.rests; last = m.last; few = m.few })))

pub even-hurt : (s : Side) (source : DamageSource) → is_residual source ≡ true → (hp amount : ℕ) (f : Field) (p : Public) → BothOut f → Even f p
    → Even (changed_member s (hurt_by amount) (changed_conditions s with_worse_poison f)) (on_out s (hurt_to source hp) p)
unfolding changed_active changed_conditions changed_member hurt_by
even-hurt One source r hp amount f p o m =
    let n : Member = hurt_by amount (member_in One f) in
    even-party One (hurt_to source hp) (with_member f.one.active.place n (with_conditions with_worse_poison f.one)) f p o (does-hurt source r hp n p.one f.one refl m.one) m
even-hurt Two source r hp amount f p o m =
    let n : Member = hurt_by amount (member_in Two f) in
    even-party Two (hurt_to source hp) (with_member f.two.active.place n (with_conditions with_worse_poison f.two)) f p o (does-hurt source r hp n p.two f.two refl m.two) m

-- A member that has fallen may have worse poison than was told

abbrev hushed : Deeds → Deeds
hushed k = record k { toxic_count = 0 }

abbrev lives : Party → Bool
lives t = is_living (member_at t.active.place t)

pub record Lame (x : PublicSide) (t : Party) : Type 0 where
  pub but : hushed (deeds x) ≡ hushed (deeds_of t.active.place (core t.active.conditions))
  pub same : lives t ≡ true → deeds x ≡ deeds_of t.active.place (core t.active.conditions)
  pub reach : x.invulnerable ≢ 0 → t.active.conditions.invulnerable ≡ true
  pub rests : x.announced.recharging ≢ 0 → recharges (move_at x.last_move).effect ≡ true
  pub last : x.last_move ≡ current_of t
  pub few : length t.members ≤ 6

pub does-lame : (x : PublicSide) (t : Party) → Does x t → Lame x t
does-lame x t m = record { but = ap hushed m.same; same = λ e. m.same; reach = m.reach; rests = m.rests; last = m.last; few = m.few }

lame-does : (x : PublicSide) (t : Party) → lives t ≡ true → Lame x t → Does x t
lame-does x t e m = record { same = m.same e; reach = m.reach; rests = m.rests; last = m.last; few = m.few }

lame-fades : (y x : PublicSide) (t : Party) → Fades y x → Lame x t → Lame y t
lame-fades y x t q m = record {
  but = ap hushed q.same ∙ m.but;
  same = λ e. q.same ∙ m.same e;
  reach = λ e. m.reach (q.reach e);
  rests = λ e. subst (λ (k : ℕ). recharges (move_at k).effect ≡ true) (sym q.last) (m.rests (q.rests e));
  last = q.last ∙ m.last;
  few = m.few;
}

pub lame-conditions : (change : ActiveConditions → ActiveConditions) → Bland change → (x : PublicSide) (t : Party) → Lame x t → Lame x (with_conditions change t)
lame-conditions change h x t m =
    let e : deeds_of t.active.place (core t.active.conditions) ≡ deeds_of t.active.place (core (change t.active.conditions)) = sym (ap (deeds_of t.active.place) (h t.active.conditions)) in
    record {
      but = m.but ∙ ap hushed e;
      same = λ l. m.same l ∙ e;
      reach = λ i. ap (λ (c : Core). c.invulnerable) (h t.active.conditions) ∙ m.reach i;
      rests = m.rests;
      last = m.last;
      few = m.few;
    }

not-living : (b : Bool) → b ≡ false → b ≡ true → ⊥
not-living b e h = true≢false (sym h ∙ e)

fallen-lives : (t : Party) → IsOut t → lives (with_member t.active.place (fallen (member_at t.active.place t)) t) ≡ false
unfolding fallen
fallen-lives t o = ap is_living (member-after t (fallen (member_at t.active.place t)) o)

fallen-traits : (m : Member) → traits (fallen m) ≡ traits m
unfolding fallen
fallen-traits m = refl

lame-falls : (x : PublicSide) (t : Party) → IsOut t → Lame x t → Lame x (with_member t.active.place (fallen (member_at t.active.place t)) t)
lame-falls x t o m =
    let n : Member = fallen (member_at t.active.place t) in
    record {
      but = m.but;
      same = λ e. absurd (not-living _ (fallen-lives t o) e);
      reach = m.reach;
      rests = m.rests;
      last = m.last ∙ sym (current-kept n t (fallen-traits (member_at t.active.place t)));
      few = rw (length-set t.members (t.active.place - 1) n) m.few;
    }

hushed-worse : (k : Deeds) → hushed (worse k) ≡ hushed k
hushed-worse k = refl

lame-worse : (x : PublicSide) (t : Party) → lives t ≡ false → Does x t → Lame x (with_conditions with_worse_poison t)
unfolding with_worse_poison
lame-worse x t l m = record {
  but = ap hushed m.same ∙ sym (ap hushed (core-worse t.active.place t.active.conditions) ∙ hushed-worse (deeds_of t.active.place (core t.active.conditions)));
  same = λ e. absurd (not-living _ l e);
  reach = m.reach;
  rests = m.rests;
  last = m.last;
  few = m.few;
}

pub record Loosely (f : Field) (p : Public) : Type 0 where
  pub one : Lame p.one f.one
  pub two : Lame p.two f.two

pub even-loosely : (f : Field) (p : Public) → Even f p → Loosely f p
even-loosely f p m = record { one = does-lame p.one f.one m.one; two = does-lame p.two f.two m.two }

pub loosely-even : (f : Field) (p : Public) → is_living (member_in One f) ≡ true → is_living (member_in Two f) ≡ true → Loosely f p → Even f p
loosely-even f p a b m = record { one = lame-does p.one f.one a m.one; two = lame-does p.two f.two b m.two }

pub loosely-fades : (f : Field) (p q : Public) → ((u : Side) → Fades (public_side u q) (public_side u p)) → Loosely f p → Loosely f q
loosely-fades f p q h m = record { one = lame-fades q.one p.one f.one (h One) m.one; two = lame-fades q.two p.two f.two (h Two) m.two }

pub loosely-apart : (f g : Field) (p : Public) → f.one ≡ g.one → f.two ≡ g.two → Loosely f p → Loosely g p
loosely-apart f g p a b m = record { one = subst (Lame p.one) a m.one; two = subst (Lame p.two) b m.two }

pub loosely-falls : (s : Side) (f : Field) (p : Public) → BothOut f → Loosely f p → Loosely (changed_member s fallen f) p
unfolding changed_member
loosely-falls One f p o m = record { one = lame-falls p.one f.one o.one m.one; two = m.two }
loosely-falls Two f p o m = record { one = m.one; two = lame-falls p.two f.two o.two m.two }

pub loosely-worse : (s : Side) (f : Field) (p : Public) → is_living (member_in s (changed_conditions s with_worse_poison f)) ≡ false → Even f p → Loosely (changed_conditions s with_worse_poison f) p
unfolding changed_active changed_conditions
loosely-worse One f p l m = record { one = lame-worse p.one f.one l m.one; two = does-lame p.two f.two m.two }
loosely-worse Two f p l m = record { one = does-lame p.one f.one m.one; two = lame-worse p.two f.two l m.two }

-- Nobody may have hit itself.

on-if : (b : Bool) (x : PublicSide) (t : Party) → b ≡ false → Lame x t → Lame (broken_off_if b x) t
on-if b x t e m = subst (λ (c : Bool). Lame (broken_off_if c x) t) (sym e) m

pub loosely-quiet : (n : ℕ) (f : Field) (p : Public) → p.may_hit_itself ≡ 0 → Loosely f p → Loosely f (settled_by n p)
loosely-quiet n f p e m = record { one = on-if _ p.one f.one (ap (has_hit_itself 1 n) e) m.one; two = on-if _ p.two f.two (ap (has_hit_itself 2 n) e) m.two }

pub quiet-loosely : (n : ℕ) (f : Field) (p : Public) → p.may_hit_itself ≡ 0 → Loosely f (settled_by n p) → Loosely f p
quiet-loosely n f p e m = record {
  one = subst (λ (c : Bool). Lame (broken_off_if c p.one) f.one) (ap (has_hit_itself 1 n) e) m.one;
  two = subst (λ (c : Bool). Lame (broken_off_if c p.two) f.two) (ap (has_hit_itself 2 n) e) m.two;
}
