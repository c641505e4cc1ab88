-- What a side hears of its log is what the whole log makes public, as the side knows it.
use Rattle.std.proofs.Common.{[], Bool, List, None, Option, Some, ap, arith, false, get_or, get_or-set_same, if◌then◌else◌, inl, inr, length, length-set, map, nat_le, refl, replicate, slice_index_or, slice_set, subst, suc, sym, true, true≢false, zero, ℕ, ◌+◌, ◌-◌, ◌<◌, ◌==◌, ◌∙◌, ◌∷◌, ◌≡◌, ◌≢◌, ◌≤◌, ◌⊎◌}
use Rattle.std.proofs.lemmas.Bool.Decides.{eqb_tells, leb_tells}
use Rattle.std.proofs.lemmas.List.{get_or-map, get_or-set_other}
use Rattle.std.proofs.Math.ListN.{get_or-map as get_or-map_default}
use Rattle.gen1_stats.specs.Members.{Member}
use Rattle.gen1_machine.specs.declared.side.Side.{Side}
use Rattle.gen1_machine.specs.declared.side.Side.TheVariants.{One, Two}
use Rattle.gen1_machine.specs.declared.event.Event.{Event}
use Rattle.gen1_machine.specs.declared.event.Volatile.{Volatile}
use Rattle.gen1_machine.specs.declared.event.Event.TheVariants as events
use Rattle.gen1_machine.specs.declared.event.Kind.{Kind}
use Rattle.gen1_machine.specs.declared.event.Who.{Who}
use Rattle.gen1_machine.specs.Health.{Health}
use Rattle.gen1_machine.specs.LogBytes.{kind_or_0}
use Rattle.gen1_machine.specs.Numbers.{side_number}
use Rattle.gen1_machine.specs.Sides.{other}
use Rattle.gen1_machine.specs.Step.{Ran}
use Rattle.gen1_events.proofs.Readings.{one_split, reading_splits}
use Rattle.gen1_player.specs.declared.public.Public.{Public}
use Rattle.gen1_player.specs.declared.public_side.PublicSide.{PublicSide}
use Rattle.gen1_player.specs.declared.seen.Seen.{Seen}
use Rattle.gen1_player.specs.declared.teller.HpForm.{HpForm}
use Rattle.gen1_player.specs.declared.teller.HpForm.TheVariants.{Bar, Exact, Hundredths}
use Rattle.gen1_player.specs.declared.teller.Teller.{Teller}
use Rattle.gen1_player.specs.declared.player.Player.{Player}
use Rattle.gen1_player.specs.Player.{first_known}
use Rattle.gen1_player.specs.Public.{acting, activates, broken_off_if, comes_out, first_public, has_fainted, has_hit_itself, hears, hears_all, if_seen_out, is_cleared, not_seen, on_out, public_side, seen_at, settled, settled_by, takes_in, uses_again, foe_hears, side_hears, side_named}
use Rattle.gen1_player.specs.Telling.{appears, form_of, health_for, health_told, is_own, meets, meets_all, slot_of, told, told_all, told_in}
use Rattle.gen1_player.specs.True.{as_known, events_in, first_teller, foe_as_told, foe_known, own_as_known, own_known, team_of, with_hp_told, PlayerHolds}
use Rattle.gen1_player.proofs.Facts.{side_out}
use Rattle.gen1_player.proofs.HeardSides.{both, hears_named, hears-in}
use Rattle.gen1_player.proofs.Slots.{Slot, crowded, find-slot, kept-slot, opened-each, opened-here, opened-kept, opened-none}
use Rattle.gen1_player.proofs.Lenses.{not-zero, with_status_by, is-zero, is-some, taken, left, other-seen, out-eye, hears-eye, overhears-eye, damage-eye, heal-eye, stays, touches-out, hears-touches, overhears-touches, own-same, own-sees, own-touched, comes-is, comes-eye, own-comes, Tellable, AllTellable, eye, is_plain, Rises, TouchesTo, is_switch, own_lens, shown_as, Lens, Out, Sees, Touches, OwnKept}

-- The foe

pub record FoeKept (ps : List ℕ) (place : ℕ) (members : List Seen) : Type 0 where
  pub six : length members ≡ 6
  pub high : place ≤ 6
  pub full : length ps ≡ 6
  pub each : (i : ℕ) → get_or ps i 0 ≤ 6
  pub kept : (i j : ℕ) → j < i → get_or ps i 0 ≢ 0 → (get_or ps j 0 ≢ 0) × (get_or ps j 0 ≢ get_or ps i 0)
  pub out : place ≢ 0 → (i : ℕ) × (i < 6) × (get_or ps i 0 ≡ place)
  pub hidden : (q : ℕ) → 1 ≤ q → ((i : ℕ) → i < 6 → get_or ps i 0 ≢ q) → get_or members (q - 1) not_seen ≡ not_seen
  pub appeared : (i : ℕ) → get_or ps i 0 ≢ 0 → (get_or members (get_or ps i 0 - 1) not_seen).species ≢ 0

abbrev foe_number : List ℕ → ℕ → ℕ
foe_number ps place = if place == 0 then 0 else slot_of place ps + 1

abbrev foe_lens : Teller → Lens
foe_lens t = record { known = foe_known t; places = t.places; number = foe_number t.places }

foe-blind : (t : Teller) (p : ℕ) → p ≡ 0 → (a b : Seen) → foe_known t p a ≡ foe_known t p b
foe-blind t p e a b = taken (p == 0) not_seen (with_hp_told t a) (is-zero p e) ∙ sym (taken (p == 0) not_seen (with_hp_told t b) (is-zero p e))

number-is : (ps : List ℕ) (place i : ℕ) → place ≢ 0 → slot_of place ps ≡ i → foe_number ps place ≡ i + 1
number-is ps place i z e = left (place == 0) 0 (slot_of place ps + 1) (is-some place z) ∙ ap (λ (k : ℕ). k + 1) e

foe-out : (t : Teller) (place : ℕ) (ms : List Seen) → FoeKept t.places place ms → place ≢ 0 → Out (foe_lens t) place ms
foe-out t place ms k z =
    let o = k.out z in
    let i : ℕ = o.0 in
    let back : i + 1 - 1 ≡ i = omega arith in
    let is : foe_number t.places place - 1 ≡ i =
    ap (λ (n : ℕ). n - 1) (number-is t.places place i z (kept-slot place t.places i k.full k.kept o.1 o.2 z)) ∙ back in
    record {
      six = k.six;
      low = not-zero place z;
      high = k.high;
      slot = subst (λ (n : ℕ). n < length t.places) (sym is) (let full = k.full in let few = o.1 in omega (arith, full, few));
      at = ap (λ (n : ℕ). get_or t.places n 0) is ∙ o.2;
      alone = λ j few e. sym (kept-slot place t.places j k.full k.kept (let full = k.full in omega (arith, few, full)) e z)
          ∙ kept-slot place t.places i k.full k.kept o.1 o.2 z ∙ sym is;
      blind = λ j few e a b. foe-blind t (get_or t.places j 0) e a b;
    }

-- What the law needs of telling HP. The first is that it tells no HP of a member that has none.

none-told : (max : ℕ) (t : Teller) → (health_told (record { hp = 0; max = max; kind = None }) t).hp ≡ 0
none-told max t = by (form_of t.pixels)
  where
    by : (form : HpForm) → (told_in form (record { hp = 0; max = max; kind = None })).hp ≡ 0
    by Exact = refl
    by Bar = refl
    by Hundredths = refl

hp-alone : (h : Health) (t : Teller) → (health_told h t).hp ≡ (health_told (record { hp = h.hp; max = h.max; kind = None }) t).hp
hp-alone h t = by (form_of t.pixels)
  where
    by : (form : HpForm) → (told_in form h).hp ≡ (told_in form (record { hp = h.hp; max = h.max; kind = None })).hp
    by Exact = refl
    by Bar = refl
    by Hundredths = refl

max-alone : (h k : Health) (t : Teller) → h.max ≡ k.max → (health_told h t).max ≡ (health_told k t).max
max-alone h k t e = by (form_of t.pixels)
  where
    by : (form : HpForm) → (told_in form h).max ≡ (told_in form k).max
    by Exact = e
    by Bar = refl
    by Hundredths = refl

kind-told : (h : Health) (t : Teller) → (health_told h t).kind ≡ h.kind
kind-told h t = by (form_of t.pixels)
  where
    by : (form : HpForm) → (told_in form h).kind ≡ h.kind
    by Exact = refl
    by Bar = refl
    by Hundredths = refl

hp-told : (t : Teller) (h : Health) (m : Seen) → h.max ≡ m.max → record (with_hp_told t m) { hp = (health_told h t).hp } ≡ with_hp_told t (record m { hp = h.hp })
hp-told t h m e =
    ap (λ (hp : ℕ). record (with_hp_told t m) { hp = hp })
    (hp-alone h t ∙ ap (λ (most : ℕ). (health_told (record { hp = h.hp; max = most; kind = None }) t).hp) e)
    ∙ ap (λ (most : ℕ). record m { hp = (health_told (record { hp = h.hp; max = m.max; kind = None }) t).hp; max = most })
    (max-alone (record { hp = m.hp; max = m.max; kind = None }) (record { hp = h.hp; max = m.max; kind = None }) t refl)

falls-told : (t : Teller) (m : Seen) → has_fainted (with_hp_told t m) ≡ with_hp_told t (has_fainted m)
falls-told t m =
    ap (λ (hp : ℕ). record (with_hp_told t m) { hp = hp; status = 0; asleep_by = 0; slept = 0 }) (sym (none-told m.max t))
    ∙ ap (λ (most : ℕ). record m { hp = (health_told (record { hp = 0; max = m.max; kind = None }) t).hp; max = most; status = 0; asleep_by = 0; slept = 0 })
    (max-alone (record { hp = m.hp; max = m.max; kind = None }) (record { hp = 0; max = m.max; kind = None }) t refl)

comes-told : (t : Teller) (species level : ℕ) (h : Health) (m n : Seen) → n ≡ m ⊎ n ≡ with_hp_told t m
    → shown_as species level (health_told h t) n ≡ with_hp_told t (shown_as species level h m)
comes-told t species level h m n is = same is ∙ told_as
  where
    same : n ≡ m ⊎ n ≡ with_hp_told t m → shown_as species level (health_told h t) n ≡ shown_as species level (health_told h t) m
    same (inl e) = ap (shown_as species level (health_told h t)) e
    same (inr e) = ap (shown_as species level (health_told h t)) e

    it : Health
    it = health_told (record { hp = h.hp; max = h.max; kind = None }) t

    told_as : shown_as species level (health_told h t) m ≡ with_hp_told t (shown_as species level h m)
    told_as =
        ap (λ (hp : ℕ). record m { species = species; level = level; hp = hp; max = (health_told h t).max; status = kind_or_0 (health_told h t).kind }) (hp-alone h t)
        ∙ ap (λ (most : ℕ). record m { species = species; level = level; hp = it.hp; max = most; status = kind_or_0 (health_told h t).kind })
        (max-alone h (record { hp = h.hp; max = h.max; kind = None }) t refl)
        ∙ ap (λ (kind : Option Kind). record m { species = species; level = level; hp = it.hp; max = it.max; status = kind_or_0 kind }) (kind-told h t)

foe-same : (t : Teller) (place : ℕ) (m : Seen) (g h : Seen → Seen) → place ≢ 0 → h (with_hp_told t m) ≡ with_hp_told t (g m)
    → h (foe_known t place m) ≡ foe_known t place (g m)
foe-same t place m g h z e =
    ap h (left (place == 0) not_seen (with_hp_told t m) (is-some place z)) ∙ e ∙ sym (left (place == 0) not_seen (with_hp_told t (g m)) (is-some place z))

foe-sees : (t : Teller) (place : ℕ) (ms : List Seen) → FoeKept t.places place ms → Sees (foe_lens t) place ms
foe-sees t place ms k = record {
  none = refl;
  some = λ z e. let n = left (place == 0) 0 (slot_of place t.places + 1) (is-some place z) in omega (arith, n, e);
  out = foe-out t place ms k;
  status = λ z c a d. foe-same t place (slice_index_or ms (place - 1) not_seen) (with_status_by c a d) (with_status_by c a d) z refl;
  falls = λ z. foe-same t place (slice_index_or ms (place - 1) not_seen) has_fainted has_fainted z
      (falls-told t (slice_index_or ms (place - 1) not_seen));
  moves = λ z more id. foe-same t place (slice_index_or ms (place - 1) not_seen)
      (uses_again more id) (uses_again more id) z refl;
}

species-kept : (r s : ℕ) (ms ns : List Seen) → Touches r s ms ns → (i : ℕ) → (get_or ns i not_seen).species ≡ (get_or ms i not_seen).species
species-kept r s ms ns t i = sym (get_or-map_default (λ (m : Seen). m.species) ns i not_seen) ∙ ap (λ (l : List ℕ). get_or l i 0) t.species
    ∙ get_or-map_default (λ (m : Seen). m.species) ms i not_seen

foe-touched : (ps : List ℕ) (r s : ℕ) (ms ns : List Seen) → FoeKept ps r ms → Touches r s ms ns → FoeKept ps s ns
foe-touched ps r s ms ns k t = record {
  six = t.size ∙ k.six;
  high = subst (λ (i : ℕ). i ≤ 6) (sym t.same) k.high;
  full = k.full;
  each = k.each;
  kept = k.kept;
  out = λ z. let o = k.out (λ e. z (t.same ∙ e)) in (o.0, o.1, o.2 ∙ sym t.same);
  hidden = λ q low none. by q low none (eqb_tells r 0);
  appeared = λ i z e. k.appeared i z (sym (species-kept r s ms ns t (get_or ps i 0 - 1)) ∙ e);
}
  where
    by : (q : ℕ) → 1 ≤ q → ((i : ℕ) → i < 6 → get_or ps i 0 ≢ q) → (((r == 0) ≡ true) × (r ≡ 0)) ⊎ (((r == 0) ≡ false) × (r ≢ 0)) → get_or ns (q - 1) not_seen ≡ not_seen
    by q low none (inl z) = ap (λ (l : List Seen). get_or l (q - 1) not_seen) (t.idle z.1) ∙ k.hidden q low none
    by q low none (inr z) =
        let o = k.out z.1 in
        let some = not-zero r z.1 in
        t.others (q - 1) (λ e. none o.0 o.1 (let at = o.2 in let same : r ≡ q = omega (arith, e, low, some) in at ∙ same)) ∙ k.hidden q low none

-- A member of the foe that comes out

record Opens (p : ℕ) (ps : List ℕ) (members : List Seen) : Type 0 where
  slot : Slot p ps (slot_of p ps)
  hides : get_or ps (slot_of p ps) 0 ≡ 0 → get_or members (p - 1) not_seen ≡ not_seen

opens : (p place : ℕ) (ps : List ℕ) (ms : List Seen) → 1 ≤ p → p ≤ 6 → FoeKept ps place ms → Opens p ps ms
opens p place ps ms low high k = by (find-slot p ps k.full)
  where
    after : (n : ℕ) → Slot p ps n → get_or ps n 0 ≡ 0 → (i : ℕ) → i < 6 → get_or ps i 0 ≢ p
    after n s free i few e = where_is (eqb_tells i n) (leb_tells (suc i) n)
      where
        where_is : (((i == n) ≡ true) × (i ≡ n)) ⊎ (((i == n) ≡ false) × (i ≢ n))
            → ((nat_le (suc i) n ≡ true) × (suc i ≤ n)) ⊎ ((nat_le (suc i) n ≡ false) × (n < suc i)) → ⊥
        where_is (inl q) r = let at : get_or ps i 0 ≡ 0 = ap (λ (j : ℕ). get_or ps j 0) q.1 ∙ free in omega (arith, at, e, low)
        where_is (inr q) (inl r) = (s.before i (let x = r.1 in omega (arith, x))).0 e
        where_is (inr q) (inr r) = (k.kept i n (let x = r.1 in let y = q.1 in omega (arith, x, y)) (λ z. omega (arith, z, e, low))).0 free

    by : ((n : ℕ) × Slot p ps n) ⊎ ((j : ℕ) → j < 6 → (get_or ps j 0 ≢ p) × (get_or ps j 0 ≢ 0)) → Opens p ps ms
    by (inl s) =
        let is = s.1.is in
        record {
          slot = subst (Slot p ps) (sym is) s.1;
          hides = λ e. k.hidden p low (after s.0 s.1 (ap (λ (n : ℕ). get_or ps n 0) (sym is) ∙ e));
        }
    by (inr none) = absurd (crowded p ps k.full low high k.each k.kept none)

foe-opened : (p place n : ℕ) (ps : List ℕ) (ms : List Seen) (new : Seen) → 1 ≤ p → p ≤ 6 → new.species ≢ 0 → FoeKept ps place ms → Slot p ps n
    → FoeKept (slice_set ps n p) p (slice_set ms (p - 1) new)
foe-opened p place n ps ms new low high named k s =
    let full = k.full in
    let few = s.few in
    let six = k.six in
    let set : get_or (slice_set ms (p - 1) new) (p - 1) not_seen ≡ new = get_or-set_same ms (p - 1) new not_seen (omega (arith, six, low, high)) in
    record {
      six = length-set ms (p - 1) new ∙ k.six;
      high = high;
      full = length-set ps n p ∙ k.full;
      each = opened-each p n ps high (omega (arith, few, full)) k.each;
      kept = opened-kept s k.full low k.kept;
      out = λ z. (n, s.few, opened-here s k.full low k.kept);
      hidden = λ q one none.
          let apart = opened-none s k.full low k.kept q one none in
          get_or-set_other ms (p - 1) (q - 1) new not_seen (λ e. apart.0 (omega (arith, e, low, one))) ∙ k.hidden q one apart.1;
      appeared = λ i z. named_at set i z (eqb_tells (get_or (slice_set ps n p) i 0) p) (eqb_tells i n);
    }
  where
    named_at : get_or (slice_set ms (p - 1) new) (p - 1) not_seen ≡ new → (i : ℕ) → get_or (slice_set ps n p) i 0 ≢ 0
        → (((get_or (slice_set ps n p) i 0 == p) ≡ true) × (get_or (slice_set ps n p) i 0 ≡ p))
        ⊎ (((get_or (slice_set ps n p) i 0 == p) ≡ false) × (get_or (slice_set ps n p) i 0 ≢ p))
        → (((i == n) ≡ true) × (i ≡ n)) ⊎ (((i == n) ≡ false) × (i ≢ n))
        → (get_or (slice_set ms (p - 1) new) (get_or (slice_set ps n p) i 0 - 1) not_seen).species ≢ 0
    named_at set i z (inl a) b = λ e. named (sym (ap (λ (m : Seen). m.species) set) ∙ sym (ap (λ (q : ℕ). (get_or (slice_set ms (p - 1) new) (q - 1) not_seen).species) a.1) ∙ e)
    named_at set i z (inr a) (inl b) = absurd (a.1 (ap (λ (j : ℕ). get_or (slice_set ps n p) j 0) b.1 ∙ opened-here s k.full low k.kept))
    named_at set i z (inr a) (inr b) =
        let same : get_or (slice_set ps n p) i 0 ≡ get_or ps i 0 = get_or-set_other ps n i p 0 b.1 in
        let some : 1 ≤ get_or (slice_set ps n p) i 0 = not-zero _ z in
        λ e. k.appeared i (λ q. z (same ∙ q)) (ap (λ (q : ℕ). (get_or ms (q - 1) not_seen).species) (sym same)
        ∙ sym (ap (λ (m : Seen). m.species) (get_or-set_other ms (p - 1) (get_or (slice_set ps n p) i 0 - 1) new not_seen (λ q. a.1 (omega (arith, q, low, some))))) ∙ e)

foe-comes : (t : Teller) (x : PublicSide) (species place level : ℕ) (h : Health) → FoeKept t.places x.place x.members → 1 ≤ place → place ≤ 6 → species ≢ 0
    → (comes_out species (slot_of place t.places + 1) level (health_told h t) (foe_as_told t x) ≡ foe_as_told (appears place t) (comes_out species place level h x))
    × FoeKept (appears place t).places (comes_out species place level h x).place (comes_out species place level h x).members
foe-comes t x species place level h k low high named =
    let ps : List ℕ = t.places in
    let n : ℕ = slot_of place ps in
    let o : Opens place ps x.members = opens place x.place ps x.members low high k in
    let s : Slot place ps n = o.slot in
    let m : Seen = seen_at place x in
    let new : Seen = shown_as species level h m in
    let ms : List Seen = slice_set x.members (place - 1) new in
    let six = k.six in
    let full = k.full in
    let few = s.few in
    let z : place ≢ 0 = λ e. omega (arith, e, low) in
    let after : FoeKept (slice_set ps n place) place ms = foe-opened place x.place n ps x.members new low high named k s in
    let number : foe_number (slice_set ps n place) place ≡ n + 1 = number-is (slice_set ps n place) place n z
    (kept-slot place (slice_set ps n place) n after.full after.kept few (opened-here s k.full low k.kept) z) in
    let before : ℕ → Seen = λ p. foe_known t p (seen_at p x) in
    let was : get_or (map before ps) n not_seen ≡ before (get_or ps n 0) = get_or-map before ps n 0 not_seen (omega (arith, few, full)) in
    let set : get_or ms (place - 1) not_seen ≡ new = get_or-set_same x.members (place - 1) new not_seen (omega (arith, six, low, high)) in
    let now : shown_as species level (health_told h t) (get_or (map before ps) n not_seen) ≡ foe_known t place (get_or ms (place - 1) not_seen) =
    comes-told t species level h m (get_or (map before ps) n not_seen) (old o.hides z was s.here)
    ∙ sym (left (place == 0) not_seen (with_hp_told t new) (is-some place z)) ∙ ap (foe_known t place) (sym set) in
    let others : (i : ℕ) → i < length ps → i ≢ n
    → foe_known t (get_or ps i 0) (seen_at (get_or ps i 0) x) ≡ foe_known t (get_or ps i 0) (get_or ms (get_or ps i 0 - 1) not_seen) =
    λ i low_i apart. other-seen (foe_known t) x.members place (get_or ps i 0) new low
    (λ e. apart (sym (kept-slot place ps i k.full k.kept (omega (arith, low_i, full)) e z))) (foe-blind t (get_or ps i 0)) in
    let back : n + 1 - 1 ≡ n = omega arith in
    let out : comes_out species place level h x ≡ side_out species place level h x = comes-is species place level h x low high in (
      comes-is species (n + 1) level (health_told h t) (foe_as_told t x) (omega arith) (omega (arith, few))
          ∙ comes-eye (foe_lens t) (foe_number (slice_set ps n place)) x species level place (n + 1) n h (health_told h t) back (omega (arith, few, full)) number (now, others)
          ∙ ap (foe_as_told (appears place t)) (sym out),
      subst (λ (y : PublicSide). FoeKept (slice_set ps n place) y.place y.members) (sym out) after,
    )
  where
    old : (get_or t.places (slot_of place t.places) 0 ≡ 0 → get_or x.members (place - 1) not_seen ≡ not_seen) → place ≢ 0
        → get_or (map (λ p. foe_known t p (seen_at p x)) t.places) (slot_of place t.places) not_seen
        ≡ foe_known t (get_or t.places (slot_of place t.places) 0) (seen_at (get_or t.places (slot_of place t.places) 0) x)
        → (get_or t.places (slot_of place t.places) 0 ≡ place) ⊎ (get_or t.places (slot_of place t.places) 0 ≡ 0)
        → (get_or (map (λ p. foe_known t p (seen_at p x)) t.places) (slot_of place t.places) not_seen ≡ seen_at place x)
        ⊎ (get_or (map (λ p. foe_known t p (seen_at p x)) t.places) (slot_of place t.places) not_seen ≡ with_hp_told t (seen_at place x))
    old hides z was (inl e) = inr (was ∙ ap (λ (p : ℕ). foe_known t p (seen_at p x)) e
        ∙ left (place == 0) not_seen (with_hp_told t (seen_at place x)) (is-some place z))
    old hides z was (inr e) = inl (was ∙ ap (λ (p : ℕ). foe_known t p (seen_at p x)) e ∙ sym (hides e))

-- Both sides

abbrev lens_of : Side → Side → List Member → Teller → Lens
lens_of One One team t = own_lens team
lens_of One Two team t = foe_lens t
lens_of Two One team t = foe_lens t
lens_of Two Two team t = own_lens team

pub record Known (s : Side) (team : List Member) (t : Teller) (p : Public) : Type 0 where
  pub side : t.side ≡ side_number s
  pub own : OwnKept (public_side s p).place (public_side s p).members
  pub foe : FoeKept t.places (public_side (other s) p).place (public_side (other s) p).members

sees-of : (s u : Side) (team : List Member) (t : Teller) (p : Public) → Known s team t p → Sees (lens_of s u team t) (public_side u p).place (public_side u p).members
sees-of One One team t p k = own-sees team p.one.place p.one.members k.own
sees-of One Two team t p k = foe-sees t p.two.place p.two.members k.foe
sees-of Two One team t p k = foe-sees t p.one.place p.one.members k.foe
sees-of Two Two team t p k = own-sees team p.two.place p.two.members k.own

side-known : (s u : Side) (team : List Member) (t : Teller) (p : Public) → public_side u (as_known s team t p) ≡ eye (lens_of s u team t) (public_side u p)
side-known One One team t p = refl
side-known One Two team t p = refl
side-known Two One team t p = refl
side-known Two Two team t p = refl

combine : (s u : Side) (team : List Member) (t t' : Teller) (p : Public) (f f' g g' : PublicSide → PublicSide)
    → f' (eye (lens_of s u team t) (public_side u p)) ≡ eye (lens_of s u team t') (f (public_side u p))
    → g' (eye (lens_of s (other u) team t) (public_side (other u) p)) ≡ eye (lens_of s (other u) team t') (g (public_side (other u) p))
    → both u f' g' (as_known s team t p) ≡ as_known s team t' (both u f g p)
combine One One team t t' p f f' g g' a b =
    ap (λ (x : PublicSide). record p { one = x; two = g' (foe_as_told t p.two) }) a ∙ ap (λ (x : PublicSide). record p { one = own_as_known team (f p.one); two = x }) b
combine One Two team t t' p f f' g g' a b =
    ap (λ (x : PublicSide). record p { one = g' (own_as_known team p.one); two = x }) a ∙ ap (λ (x : PublicSide). record p { one = x; two = foe_as_told t' (f p.two) }) b
combine Two One team t t' p f f' g g' a b =
    ap (λ (x : PublicSide). record p { one = x; two = g' (own_as_known team p.two) }) a ∙ ap (λ (x : PublicSide). record p { one = foe_as_told t' (f p.one); two = x }) b
combine Two Two team t t' p f f' g g' a b =
    ap (λ (x : PublicSide). record p { one = g' (foe_as_told t p.one); two = x }) a ∙ ap (λ (x : PublicSide). record p { one = x; two = own_as_known team (f p.two) }) b

touches-both : (u v : Side) (p : Public) (f g : PublicSide → PublicSide) → TouchesTo (public_side u p) (f (public_side u p))
    → TouchesTo (public_side (other u) p) (g (public_side (other u) p)) → TouchesTo (public_side v p) (public_side v (both u f g p))
touches-both One One p f g a b = a
touches-both One Two p f g a b = b
touches-both Two One p f g a b = b
touches-both Two Two p f g a b = a

known-touched : (s : Side) (team : List Member) (t : Teller) (p q : Public) → Known s team t p → ((u : Side) → TouchesTo (public_side u p) (public_side u q)) → Known s team t q
known-touched s team t p q k h = record {
  side = k.side;
  own = own-touched (public_side s p).place (public_side s q).place (public_side s p).members (public_side s q).members k.own (h s);
  foe = foe-touched t.places (public_side (other s) p).place (public_side (other s) q).place (public_side (other s) p).members (public_side (other s) q).members k.foe (h (other s));
}

-- An event keeps the law by itself: what the side takes in of it is what is public, as the side knows it.
record Agrees (s : Side) (team : List Member) (t : Teller) (p : Public) (e : Event) : Type 0 where
  same : takes_in (told e t) (as_known s team t p) ≡ as_known s team (meets e t) (takes_in e p)
  known : Known s team (meets e t) (takes_in e p)

-- The side of an event that is no switch
named : (s u : Side) (team : List Member) (t : Teller) (p : Public) (e it : Event) → side_named e ≡ Some u → side_named it ≡ Some u → is_switch e ≡ false
    → Known s team t p → told e t ≡ it → meets e t ≡ t
    → side_hears it (eye (lens_of s (other u) team t) (public_side (other u) p)) (eye (lens_of s u team t) (public_side u p))
    ≡ eye (lens_of s u team t) (side_hears e (public_side (other u) p) (public_side u p))
    → ((x : PublicSide) → foe_hears it x ≡ foe_hears e x) → Agrees s team t p e
named s u team t p e it of_e of_it q k a b h o =
    let foe : Side = other u in
    let whole : takes_in it (as_known s team t p) ≡ as_known s team t (takes_in e p) =
    hears_named it u (as_known s team t p) of_it
    ∙ ap (λ (x : PublicSide). both u (side_hears it x) (foe_hears it) (as_known s team t p)) (side-known s foe team t p)
    ∙ combine s u team t t p (side_hears e (public_side foe p)) (side_hears it (eye (lens_of s foe team t) (public_side foe p))) (foe_hears e) (foe_hears it) h
    (o (eye (lens_of s foe team t) (public_side foe p)) ∙ overhears-eye (lens_of s foe team t) (public_side foe p) (sees-of s foe team t p k) e)
    ∙ ap (as_known s team t) (sym (hears_named e u p of_e)) in
    let kept : Known s team t (takes_in e p) = subst (Known s team t) (sym (hears_named e u p of_e))
    (known-touched s team t p _ k (λ v. touches-both u v p (side_hears e (public_side foe p)) (foe_hears e)
    (hears-touches (public_side u p) (public_side foe p) e q) (overhears-touches (public_side foe p) e))) in
    record {
      same = ap (λ (x : Event). takes_in x (as_known s team t p)) a ∙ whole ∙ ap (λ (r : Teller). as_known s team r (takes_in e p)) (sym b);
      known = subst (λ (r : Teller). Known s team r (takes_in e p)) (sym b) kept;
    }

plain-told : (e : Event) (t : Teller) → is_plain e ≡ true → told e t ≡ e
unfolding told
plain-told (events.Switch w place level h) t q = absurd (true≢false (sym q))
plain-told (events.Damage w h source) t q = absurd (true≢false (sym q))
plain-told (events.Heal w h) t q = absurd (true≢false (sym q))
plain-told _ t q = refl

plain-meets : (e : Event) (t : Teller) → is_plain e ≡ true → meets e t ≡ t
unfolding meets
plain-meets (events.Switch w place level h) t q = absurd (true≢false (sym q))
plain-meets _ t q = refl

plain-still : (e : Event) → is_plain e ≡ true → is_switch e ≡ false
plain-still (events.Switch w place level h) q = absurd (true≢false (sym q))
plain-still _ q = refl

plain : (s u : Side) (team : List Member) (t : Teller) (p : Public) (e : Event) → side_named e ≡ Some u → is_plain e ≡ true → Known s team t p → Agrees s team t p e
plain s u team t p e of q k = named s u team t p e e of of (plain-still e q) k (plain-told e t q) (plain-meets e t q)
    (hears-eye (lens_of s u team t) (lens_of s (other u) team t) (public_side u p) (public_side (other u) p) (sees-of s u team t p k) e q) (λ x. refl)

-- HP of the teller's side is as it is, and HP of its foe in the teller's form.

is_own-is : (s u : Side) (team : List Member) (t : Teller) (p : Public) → Known s team t p → is_own u t ≡ (side_number u == side_number s)
is_own-is s u team t p k = ap (λ (n : ℕ). side_number u == n) k.side

rises-told : (s u : Side) (team : List Member) (t : Teller) (p : Public) (h : Health) → Known s team t p
    → ((public_side u p).place ≢ 0 → h.max ≡ (seen_at (public_side u p).place (public_side u p)).max)
    → Rises (lens_of s u team t) (public_side u p) h.hp (health_for u h t).hp
rises-told One One team t p h k e = λ z.
    subst (λ (b : Bool). record (own_known team p.one.place (seen_at p.one.place p.one)) { hp = (if b then h else health_told h t).hp } ≡ own_known team p.one.place (record (seen_at p.one.place p.one) { hp = h.hp }))
    (sym (is_own-is One One team t p k)) (own-same team p.one.place (seen_at p.one.place p.one) (λ m. record m { hp = h.hp }) (k.own.out z) refl)
rises-told One Two team t p h k e = λ z.
    subst (λ (b : Bool). record (foe_known t p.two.place (seen_at p.two.place p.two)) { hp = (if b then h else health_told h t).hp } ≡ foe_known t p.two.place (record (seen_at p.two.place p.two) { hp = h.hp }))
    (sym (is_own-is One Two team t p k)) (foe-same t p.two.place (seen_at p.two.place p.two) (λ m. record m { hp = h.hp }) (λ m. record m { hp = (health_told h t).hp }) z (hp-told t h (seen_at p.two.place p.two) (e z)))
rises-told Two One team t p h k e = λ z.
    subst (λ (b : Bool). record (foe_known t p.one.place (seen_at p.one.place p.one)) { hp = (if b then h else health_told h t).hp } ≡ foe_known t p.one.place (record (seen_at p.one.place p.one) { hp = h.hp }))
    (sym (is_own-is Two One team t p k)) (foe-same t p.one.place (seen_at p.one.place p.one) (λ m. record m { hp = h.hp }) (λ m. record m { hp = (health_told h t).hp }) z (hp-told t h (seen_at p.one.place p.one) (e z)))
rises-told Two Two team t p h k e = λ z.
    subst (λ (b : Bool). record (own_known team p.two.place (seen_at p.two.place p.two)) { hp = (if b then h else health_told h t).hp } ≡ own_known team p.two.place (record (seen_at p.two.place p.two) { hp = h.hp }))
    (sym (is_own-is Two Two team t p k)) (own-same team p.two.place (seen_at p.two.place p.two) (λ m. record m { hp = h.hp }) (k.own.out z) refl)

-- A switch, of the teller's side (true) or of its foe

abbrev Switches : Side → Side → List Member → Teller → Public → ℕ → ℕ → ℕ → Health → Bool → Type 0
Switches s u team t p species place level h b =
    (comes_out species (if b then place else slot_of place t.places + 1) level (if b then h else health_told h t) (eye (lens_of s u team t) (public_side u p))
    ≡ eye (lens_of s u team (if b then t else appears place t)) (comes_out species place level h (public_side u p)))
    × (eye (lens_of s (other u) team t) (public_side (other u) p) ≡ eye (lens_of s (other u) team (if b then t else appears place t)) (public_side (other u) p))
    × Known s team (if b then t else appears place t) (both u (comes_out species place level h) (λ x. x) p)

switches : (s u : Side) (team : List Member) (t : Teller) (p : Public) (species place level : ℕ) (h : Health) → Known s team t p
    → 1 ≤ place → place ≤ 6 → species ≢ 0 → Switches s u team t p species place level h (is_own u t)
switches One One team t p species place level h k low high z =
    let c = own-comes team p.one species place level h k.own low high z in
    subst (Switches One One team t p species place level h) (sym (is_own-is One One team t p k)) (c.0, refl, record { side = k.side; own = c.1; foe = k.foe })
switches One Two team t p species place level h k low high z =
    let c = foe-comes t p.two species place level h k.foe low high z in
    subst (Switches One Two team t p species place level h) (sym (is_own-is One Two team t p k)) (c.0, refl, record { side = k.side; own = k.own; foe = c.1 })
switches Two One team t p species place level h k low high z =
    let c = foe-comes t p.one species place level h k.foe low high z in
    subst (Switches Two One team t p species place level h) (sym (is_own-is Two One team t p k)) (c.0, refl, record { side = k.side; own = k.own; foe = c.1 })
switches Two Two team t p species place level h k low high z =
    let c = own-comes team p.two species place level h k.own low high z in
    subst (Switches Two Two team t p species place level h) (sym (is_own-is Two Two team t p k)) (c.0, refl, record { side = k.side; own = c.1; foe = k.foe })

switch-agrees : (s : Side) (team : List Member) (t : Teller) (p : Public) (w : Who) (place level : ℕ) (h : Health) → Known s team t p
    → 1 ≤ place → place ≤ 6 → w.species ≢ 0 → Agrees s team t p (events.Switch w place level h)
unfolding told meets
switch-agrees s team t p w place level h k low high z =
    let u : Side = w.side in
    let e : Event = events.Switch w place level h in
    let c = switches s u team t p w.species place level h k low high z in
    let heard : takes_in e p ≡ both u (comes_out w.species place level h) (λ x. x) p = hears_named e u p refl in
    record {
      same =
          hears_named (told e t) u (as_known s team t p) refl
          ∙ combine s u team t (meets e t) p (comes_out w.species place level h)
          (comes_out w.species (if is_own u t then place else slot_of place t.places + 1) level (if is_own u t then h else health_told h t)) (λ x. x) (λ x. x) c.0 c.1
          ∙ ap (as_known s team (meets e t)) (sym heard);
      known = subst (Known s team (meets e t)) (sym heard) c.2;
    }

-- Events that name no side

beside : (s : Side) (team : List Member) (t : Teller) (p : Public) → Known s team t p → (turn outcome : ℕ) → Known s team t (record p { turn = turn; outcome = outcome })
beside One team t p k turn outcome = record { side = k.side; own = k.own; foe = k.foe }
beside Two team t p k turn outcome = record { side = k.side; own = k.own; foe = k.foe }

beside-wait : (s : Side) (team : List Member) (t : Teller) (p : Public) → Known s team t p → (waiting : ℕ) → Known s team t (record p { may_hit_itself = waiting })
beside-wait One team t p k waiting = record { side = k.side; own = k.own; foe = k.foe }
beside-wait Two team t p k waiting = record { side = k.side; own = k.own; foe = k.foe }

activates-same : (s u : Side) (what : Volatile) (team : List Member) (t : Teller) (p : Public) → activates u what (as_known s team t p) ≡ as_known s team t (activates u what p)
activates-same One One what team t p = refl
activates-same One Two what team t p = refl
activates-same Two One what team t p = refl
activates-same Two Two what team t p = refl

turn-same : (s : Side) (team : List Member) (t : Teller) (p : Public) (n : ℕ) → record (as_known s team t p) { turn = n } ≡ as_known s team t (record p { turn = n })
turn-same One team t p n = refl
turn-same Two team t p n = refl

outcome-same : (s : Side) (team : List Member) (t : Teller) (p : Public) (n : ℕ) → record (as_known s team t p) { outcome = n } ≡ as_known s team t (record p { outcome = n })
outcome-same One team t p n = refl
outcome-same Two team t p n = refl

cleared : Public → Public
cleared p = record p { one = if_seen_out is_cleared p.one; two = if_seen_out is_cleared p.two }

cleared-same : (s : Side) (team : List Member) (t : Teller) (p : Public) → Known s team t p → cleared (as_known s team t p) ≡ as_known s team t (cleared p)
unfolding cleared
cleared-same One team t p k =
    let a = out-eye (own_lens team) p.one is_cleared is_cleared (own-sees team p.one.place p.one.members k.own) (λ z. refl) in
    let b = out-eye (foe_lens t) p.two is_cleared is_cleared (foe-sees t p.two.place p.two.members k.foe) (λ z. refl) in
    ap (λ (x : PublicSide). record p { one = x; two = if_seen_out is_cleared (foe_as_told t p.two) }) a
    ∙ ap (λ (x : PublicSide). record p { one = own_as_known team (if_seen_out is_cleared p.one); two = x }) b
cleared-same Two team t p k =
    let a = out-eye (foe_lens t) p.one is_cleared is_cleared (foe-sees t p.one.place p.one.members k.foe) (λ z. refl) in
    let b = out-eye (own_lens team) p.two is_cleared is_cleared (own-sees team p.two.place p.two.members k.own) (λ z. refl) in
    ap (λ (x : PublicSide). record p { one = x; two = if_seen_out is_cleared (own_as_known team p.two) }) a
    ∙ ap (λ (x : PublicSide). record p { one = foe_as_told t (if_seen_out is_cleared p.one); two = x }) b

cleared-touches : (p : Public) (u : Side) → TouchesTo (public_side u p) (public_side u (cleared p))
unfolding cleared
cleared-touches p One = touches-out p.one is_cleared (λ z. stays p.one)
cleared-touches p Two = touches-out p.two is_cleared (λ z. stays p.two)

event-agrees : (s : Side) (team : List Member) (t : Teller) (p : Public) (e : Event) → Known s team t p → Tellable e p → Agrees s team t p e
unfolding takes_in told meets on_out cleared
event-agrees s team t p (events.Switch w place level h) k f = switch-agrees s team t p w place level h k f.0 f.1 f.2
event-agrees s team t p (events.Damage w h source) k f =
    named s w.side team t p (events.Damage w h source) (events.Damage w (health_for w.side h t) source) refl refl refl k refl refl
    (damage-eye (lens_of s w.side team t) (lens_of s (other w.side) team t) (public_side w.side p) (public_side (other w.side) p) (sees-of s w.side team t p k) w h
    (health_for w.side h t) source (rises-told s w.side team t p h k f)) (λ x. refl)
event-agrees s team t p (events.Heal w h) k f =
    named s w.side team t p (events.Heal w h) (events.Heal w (health_for w.side h t)) refl refl refl k refl refl
    (heal-eye (lens_of s w.side team t) (lens_of s (other w.side) team t) (public_side w.side p) (public_side (other w.side) p) (sees-of s w.side team t p k) w h
    (health_for w.side h t) (rises-told s w.side team t p h k f)) (λ x. refl)
event-agrees s team t p (events.Move w move target) k f = plain s w.side team t p (events.Move w move target) refl refl k
event-agrees s team t p (events.Cant w why) k f = plain s w.side team t p (events.Cant w why) refl refl k
event-agrees s team t p (events.Status w kind) k f = plain s w.side team t p (events.Status w kind) refl refl k
event-agrees s team t p (events.Cure w kind) k f = plain s w.side team t p (events.Cure w kind) refl refl k
event-agrees s team t p (events.Faint w) k f = plain s w.side team t p (events.Faint w) refl refl k
event-agrees s team t p (events.Boost w stat n) k f = plain s w.side team t p (events.Boost w stat n) refl refl k
event-agrees s team t p (events.Unboost w stat n) k f = plain s w.side team t p (events.Unboost w stat n) refl refl k
event-agrees s team t p (events.Start w what) k f = plain s w.side team t p (events.Start w what) refl refl k
event-agrees s team t p (events.End w what) k f = plain s w.side team t p (events.End w what) refl refl k
event-agrees s team t p (events.Prepare w move) k f = plain s w.side team t p (events.Prepare w move) refl refl k
event-agrees s team t p (events.MustRecharge w) k f = plain s w.side team t p (events.MustRecharge w) refl refl k
event-agrees s team t p events.ClearAll k f = record { same = cleared-same s team t p k; known = known-touched s team t p (cleared p) k (cleared-touches p) }
event-agrees s team t p (events.Turn n) k f = record { same = turn-same s team t p n; known = beside s team t p k n p.outcome }
event-agrees s team t p (events.Win side) k f = record { same = outcome-same s team t p _; known = beside s team t p k p.turn _ }
event-agrees s team t p events.Tie k f = record { same = outcome-same s team t p _; known = beside s team t p k p.turn _ }
event-agrees s team t p (events.Fault n) k f = record { same = outcome-same s team t p _; known = beside s team t p k p.turn _ }
event-agrees s team t p (events.Activate w what) k f = record { same = activates-same s w.side what team t p; known = beside-wait s team t p k _ }
event-agrees s team t p _ k f = record { same = refl; known = k }

-- A hit on itself that no event reports

acting-told : (e : Event) (t : Teller) → acting (told e t) ≡ acting e
unfolding told
acting-told (events.Switch w place level h) t = refl
acting-told (events.Damage w h source) t = refl
acting-told (events.Heal w h) t = refl
acting-told _ t = refl

broken-own : (team : List Member) (b : Bool) (x : PublicSide) → broken_off_if b (own_as_known team x) ≡ own_as_known team (broken_off_if b x)
broken-own team true x = refl
broken-own team false x = refl

broken-foe : (t : Teller) (b : Bool) (x : PublicSide) → broken_off_if b (foe_as_told t x) ≡ foe_as_told t (broken_off_if b x)
broken-foe t true x = refl
broken-foe t false x = refl

settled-same : (s : Side) (team : List Member) (t : Teller) (p : Public) (n : ℕ) → settled_by n (as_known s team t p) ≡ as_known s team t (settled_by n p)
settled-same One team t p n =
    let a : Bool = has_hit_itself 1 n p.may_hit_itself in
    let b : Bool = has_hit_itself 2 n p.may_hit_itself in
    ap (λ (x : PublicSide). record p { one = x; two = broken_off_if b (foe_as_told t p.two); may_hit_itself = 0 }) (broken-own team a p.one)
    ∙ ap (λ (x : PublicSide). record p { one = own_as_known team (broken_off_if a p.one); two = x; may_hit_itself = 0 }) (broken-foe t b p.two)
settled-same Two team t p n =
    let a : Bool = has_hit_itself 1 n p.may_hit_itself in
    let b : Bool = has_hit_itself 2 n p.may_hit_itself in
    ap (λ (x : PublicSide). record p { one = x; two = broken_off_if b (own_as_known team p.two); may_hit_itself = 0 }) (broken-foe t a p.one)
    ∙ ap (λ (x : PublicSide). record p { one = foe_as_told t (broken_off_if a p.one); two = x; may_hit_itself = 0 }) (broken-own team b p.two)

settled-told : (s : Side) (team : List Member) (t : Teller) (p : Public) (e : Event) → settled (told e t) (as_known s team t p) ≡ as_known s team t (settled e p)
unfolding settled
settled-told s team t p e = ap (λ (n : ℕ). settled_by n (as_known s team t p)) (acting-told e t) ∙ settled-same s team t p (acting e)

broken-touches : (b : Bool) (x : PublicSide) → TouchesTo x (broken_off_if b x)
broken-touches true x = stays x
broken-touches false x = stays x

settled-touches : (e : Event) (p : Public) (u : Side) → TouchesTo (public_side u p) (public_side u (settled e p))
unfolding settled
settled-touches e p One = broken-touches (has_hit_itself 1 (acting e) p.may_hit_itself) p.one
settled-touches e p Two = broken-touches (has_hit_itself 2 (acting e) p.may_hit_itself) p.two

abbrev SeenMax : ℕ → PublicSide → Type 0
SeenMax n x = x.place ≢ 0 → n ≡ (seen_at x.place x).max

broken-max : (n : ℕ) (b : Bool) (x : PublicSide) → SeenMax n x → SeenMax n (broken_off_if b x)
broken-max n true x h = h
broken-max n false x h = h

settled-max : (n : ℕ) (e : Event) (p : Public) (u : Side) → SeenMax n (public_side u p) → SeenMax n (public_side u (settled e p))
unfolding settled
settled-max n e p One h = broken-max n (has_hit_itself 1 (acting e) p.may_hit_itself) p.one h
settled-max n e p Two h = broken-max n (has_hit_itself 2 (acting e) p.may_hit_itself) p.two h

settled-tellable : (e d : Event) (p : Public) → Tellable e p → Tellable e (settled d p)
settled-tellable (events.Switch w place level h) d p f = f
settled-tellable (events.Damage w h source) d p f = settled-max h.max d p w.side f
settled-tellable (events.Heal w h) d p f = settled-max h.max d p w.side f
settled-tellable _ d p f = tt

-- All events

abbrev pub MetBy : Side → List Member → List Event → Teller → Public → Type 0
MetBy s team es t p = Known s team (meets_all es t) (hears_all es p)

all-agree : (s : Side) (team : List Member) (es : List Event) (t : Teller) (p : Public) → Known s team t p → AllTellable es p
    → (hears_all (told_all es t) (as_known s team t p) ≡ as_known s team (meets_all es t) (hears_all es p)) × MetBy s team es t p
unfolding hears_all told_all meets_all
all-agree s team [] t p k f = (refl, k)
all-agree s team (e ∷ es) t p k f =
    let q : Public = settled e p in
    let a = event-agrees s team t q e (known-touched s team t p q k (settled-touches e p)) (settled-tellable e e p f.0) in
    let same : hears (told e t) (as_known s team t p) ≡ as_known s team (meets e t) (hears e p) =
    hears-in (told e t) (as_known s team t p) ∙ ap (takes_in (told e t)) (settled-told s team t p e) ∙ a.same ∙ ap (as_known s team (meets e t)) (sym (hears-in e p)) in
    let known : Known s team (meets e t) (hears e p) = subst (Known s team (meets e t)) (sym (hears-in e p)) a.known in
    let more = all-agree s team es (meets e t) (hears e p) known f.1 in (ap (hears_all (told_all es (meets e t))) same ∙ more.0, more.1)

-- Before the first event

none-at : (k i : ℕ) → get_or (replicate k not_seen) i not_seen ≡ not_seen
none-at zero i = refl
none-at (suc k) zero = refl
none-at (suc k) (suc i) = none-at k i

zero-at : (k i : ℕ) → let none : ℕ = 0 in get_or (replicate k none) i none ≡ none
zero-at zero i = refl
zero-at (suc k) zero = refl
zero-at (suc k) (suc i) = zero-at k i

own-first : OwnKept 0 (replicate 6 not_seen)
own-first = record { six = refl; high = omega arith; out = λ z. absurd (z refl); blank = λ i e. none-at 6 i }

foe-first : FoeKept (replicate 6 0) 0 (replicate 6 not_seen)
foe-first = record {
  six = refl;
  high = omega arith;
  full = refl;
  each = λ i. let e = zero-at 6 i in omega (arith, e);
  kept = λ i j q z. absurd (z (zero-at 6 i));
  out = λ z. absurd (z refl);
  hidden = λ q low none. none-at 6 (q - 1);
  appeared = λ i z. absurd (z (zero-at 6 i));
}

known-first : (s : Side) (team : List Member) (pixels : ℕ) → Known s team (first_teller s pixels) first_public
known-first One team pixels = record { side = refl; own = own-first; foe = foe-first }
known-first Two team pixels = record { side = refl; own = own-first; foe = foe-first }

first-same : (s : Side) (team : List Member) (pixels : ℕ) → as_known s team (first_teller s pixels) first_public ≡ first_known s team
first-same One team pixels = refl
first-same Two team pixels = refl

pub holds : (s : Side) (pixels : ℕ) (one two : List Member) (r : Ran) → AllTellable (events_in r) first_public → PlayerHolds s pixels one two r
holds s pixels one two r tellable terms log shown player reading is =
    let team : List Member = team_of s one two in
    let first : Teller = first_teller s pixels in
    let es : List Event = told_all (events_in r) first in
    let same : is.events ≡ es = (one_split log is.events es is.held [] is.splits (reading_splits log es reading)).0 in
    ap (λ (x : Player). x.public) is.is ∙ ap (λ (l : List Event). hears_all l (first_known s team)) same
    ∙ ap (hears_all es) (sym (first-same s team pixels)) ∙ (all-agree s team (events_in r) first first_public (known-first s team pixels) tellable).0

-- Places that the teller keeps have appeared, in their order.
pub met : (s : Side) (pixels : ℕ) (team : List Member) (r : Ran) → AllTellable (events_in r) first_public → MetBy s team (events_in r) (first_teller s pixels) first_public
met s pixels team r tellable = (all-agree s team (events_in r) (first_teller s pixels) first_public (known-first s team pixels) tellable).1
