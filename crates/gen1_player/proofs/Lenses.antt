-- A side as somebody knows it: what an event changes of it is what the event changes of the side, as it is known.
use Rattle.std.proofs.Common.{[], Bool, List, ap, arith, false, get_or, get_or-set_same, if◌then◌else◌, inl, inr, length, length-set, map, nat_le, refl, slice_index_or, slice_set, subst, suc, sym, true, true≢false, zero, ℕ, ◌&&◌, ◌+◌, ◌++◌, ◌-◌, ◌<◌, ◌==◌, ◌∙◌, ◌∷◌, ◌≡◌, ◌≢◌, ◌≤◌, ◌⊎◌}
use Rattle.std.proofs.lemmas.Bool.{le-leb}
use Rattle.std.proofs.lemmas.Bool.Decides.{eqb_tells}
use Rattle.std.proofs.lemmas.List.{get_or-map, get_or-set_other, set-get_or}
use Rattle.std.proofs.Math.ListN.{get_or-map as get_or-map_default}
use Rattle.std.proofs.Math.Seq.{map-set_same}
use Rattle.gen1_stats.specs.Members.{Member}
use Rattle.gen1_tables.specs.Effects.{hides}
use Rattle.gen1_machine.specs.declared.event.DamageSource.{DamageSource}
use Rattle.gen1_machine.specs.declared.event.Volatile.{Volatile}
use Rattle.gen1_machine.specs.declared.event.Volatile.TheVariants as volatiles
use Rattle.gen1_machine.specs.declared.event.Event.{Event}
use Rattle.gen1_machine.specs.declared.event.Event.TheVariants as events
use Rattle.gen1_machine.specs.declared.event.Who.{Who}
use Rattle.gen1_machine.specs.Health.{Health}
use Rattle.gen1_machine.specs.LogBytes.{kind_or_0}
use Rattle.gen1_machine.specs.Moves.{move_at}
use Rattle.gen1_machine.specs.Numbers.{kind_number}
use Rattle.gen1_player.specs.declared.announced.Announced.{Announced}
use Rattle.gen1_player.specs.declared.public.Public.{Public}
use Rattle.gen1_player.specs.declared.public_side.PublicSide.{PublicSide}
use Rattle.gen1_player.specs.declared.seen.Seen.{Seen}
use Rattle.gen1_player.specs.Player.{known_at}
use Rattle.gen1_player.specs.Public.{asleep_after, bide, charges_up, comes_out, drops, ends_recharging, gets_status, has_fainted, hears, hears_all, if_seen_out, is_afflicted, is_cured, is_kept_by, is_overtaken, new_uses, not_seen, on_announced, on_seen, prepares, public_side, recharges_unless, rests_no_more, rises, seen_at, set_volatile, starts_bide, strikes, suffers_move, takes_damage, takes_types, uses_again, uses_move, is_kept, slept_after, slept_on, sleeps_on, foe_hears, side_begins, side_hears}
use Rattle.gen1_player.specs.True.{members_by, own_as_known, own_known, own_places}
use Rattle.gen1_player.proofs.Facts.{side_out}

-- What the law asks of an event: it names a place of six, and the maximum HP that was seen of the member that is out.
abbrev pub Tellable : Event → Public → Type 0
Tellable (events.Switch w place level h) p = (1 ≤ place) × (place ≤ 6) × (w.species ≢ 0)
Tellable (events.Damage w h source) p = (public_side w.side p).place ≢ 0 → h.max ≡ (seen_at (public_side w.side p).place (public_side w.side p)).max
Tellable (events.Heal w h) p = (public_side w.side p).place ≢ 0 → h.max ≡ (seen_at (public_side w.side p).place (public_side w.side p)).max
Tellable event p = Unit {0}

abbrev pub AllTellable : List Event → Public → Type 0
AllTellable [] p = Unit {0}
AllTellable (event ∷ more) p = Tellable event p × AllTellable more (hears event p)

pub tellable-last : (es : List Event) (e : Event) (p : Public) → AllTellable es p → Tellable e (hears_all es p) → AllTellable (es ++ e ∷ []) p
unfolding hears_all
tellable-last [] e p a b = (b, tt)
tellable-last (x ∷ xs) e p a b = (a.0, tellable-last xs e (hears x p) a.1 b)

-- Numbers and tests

pub not-zero : (n : ℕ) → n ≢ 0 → 1 ≤ n
not-zero zero e = absurd (e refl)
not-zero (suc n) e = omega arith

pub is-zero : (n : ℕ) → n ≡ 0 → (n == 0) ≡ true
is-zero n e = ap (λ (i : ℕ). i == 0) e

pub is-some : (n : ℕ) → n ≢ 0 → (n == 0) ≡ false
is-some zero e = absurd (e refl)
is-some (suc n) e = by (eqb_tells (suc n) 0)
  where
    by : (((suc n == 0) ≡ true) × (suc n ≡ 0)) ⊎ (((suc n == 0) ≡ false) × (suc n ≢ 0)) → (suc n == 0) ≡ false
    by (inl h) = absurd (e h.1)
    by (inr h) = h.0

pub taken : {A : Type 0} (b : Bool) (x y : A) → b ≡ true → (if b then x else y) ≡ x
taken b x y e = ap (λ (c : Bool). if c then x else y) e

pub left : {A : Type 0} (b : Bool) (x y : A) → b ≡ false → (if b then x else y) ≡ y
left b x y e = ap (λ (c : Bool). if c then x else y) e

-- Lists of which one element is replaced

agree : {A : Type 0} (f g : ℕ → A) (ps : List ℕ) → ((i : ℕ) → i < length ps → f (get_or ps i 0) ≡ g (get_or ps i 0)) → map f ps ≡ map g ps
agree f g [] h = refl
agree {A} f g (p ∷ ps) h =
    ap (λ (x : A). x ∷ map f ps) (h zero (omega arith)) ∙ ap (λ (l : List A). g p ∷ l) (agree f g ps (λ i low. h (suc i) (omega (arith, low))))

replaced : {A : Type 0} (f g : ℕ → A) (ps : List ℕ) (k r : ℕ) (v : A) → k < length ps → v ≡ g r
    → ((i : ℕ) → i < length ps → i ≢ k → f (get_or ps i 0) ≡ g (get_or ps i 0)) → slice_set (map f ps) k v ≡ map g (slice_set ps k r)
replaced f g [] k r v low e h = absurd (omega (arith, low))
replaced {A} f g (p ∷ ps) zero r v low e h =
    ap (λ (x : A). x ∷ map f ps) e
    ∙ ap (λ (l : List A). g r ∷ l) (agree f g ps (λ i q. h (suc i) (omega (arith, q)) (λ z. omega (arith, z))))
replaced {A} f g (p ∷ ps) (suc k) r v low e h =
    ap (λ (x : A). x ∷ slice_set (map f ps) k v) (h zero (omega arith) (λ z. omega (arith, z)))
    ∙ ap (λ (l : List A). g p ∷ l)
    (replaced f g ps k r v (omega (arith, low)) e (λ i q z. h (suc i) (omega (arith, q)) (λ y. z (omega (arith, y)))))

-- A side as somebody knows it: members at some places, and the number that the active one has there

pub record Lens : Type 0 where
  pub known : ℕ → Seen → Seen
  pub places : List ℕ
  pub number : ℕ → ℕ

abbrev pub eye : Lens → PublicSide → PublicSide
eye l x = record x { members = members_by l.known l.places x; place = l.number x.place }

-- The active member is known, at one place.
pub record Out (l : Lens) (place : ℕ) (members : List Seen) : Type 0 where
  pub six : length members ≡ 6
  pub low : 1 ≤ place
  pub high : place ≤ 6
  pub slot : l.number place - 1 < length l.places
  pub at : get_or l.places (l.number place - 1) 0 ≡ place
  pub alone : (i : ℕ) → i < length l.places → get_or l.places i 0 ≡ place → i ≡ l.number place - 1
  pub blind : (i : ℕ) → i < length l.places → get_or l.places i 0 ≡ 0 → (a b : Seen) → l.known (get_or l.places i 0) a ≡ l.known (get_or l.places i 0) b

pub other-seen : (known : ℕ → Seen → Seen) (ms : List Seen) (r p : ℕ) (new : Seen) → 1 ≤ r → p ≢ r → (p ≡ 0 → (a b : Seen) → known p a ≡ known p b)
    → known p (slice_index_or ms (p - 1) not_seen) ≡ known p (slice_index_or (slice_set ms (r - 1) new) (p - 1) not_seen)
other-seen known ms r p new low apart blind = by (eqb_tells p 0)
  where
    by : (((p == 0) ≡ true) × (p ≡ 0)) ⊎ (((p == 0) ≡ false) × (p ≢ 0))
        → known p (slice_index_or ms (p - 1) not_seen) ≡ known p (slice_index_or (slice_set ms (r - 1) new) (p - 1) not_seen)
    by (inl e) = blind e.1 _ _
    by (inr e) =
        let some = not-zero p e.1 in
        ap (known p) (sym (get_or-set_other ms (r - 1) (p - 1) new not_seen (λ z. apart (omega (arith, z, low, some)))))

seen-eye : (l : Lens) (x : PublicSide) (g h : Seen → Seen) → Out l x.place x.members
    → h (l.known x.place (seen_at x.place x)) ≡ l.known x.place (g (seen_at x.place x)) → on_seen h (eye l x) ≡ eye l (on_seen g x)
seen-eye l x g h o e =
    let r : ℕ = x.place in
    let k : ℕ = l.number r - 1 in
    let before : ℕ → Seen = λ p. l.known p (seen_at p x) in
    let after : ℕ → Seen = λ p. l.known p (seen_at p (on_seen g x)) in
    let was : get_or (map before l.places) k not_seen ≡ l.known r (seen_at r x) =
    get_or-map before l.places k 0 not_seen o.slot ∙ ap before o.at in
    let six = o.six in
    let bound : r - 1 < length x.members = omega (arith, six, o.low, o.high) in
    let now : h (get_or (map before l.places) k not_seen) ≡ after r =
    ap h was ∙ e ∙ ap (l.known r) (sym (get_or-set_same x.members (r - 1) (g (seen_at r x)) not_seen bound)) in
    let all : slice_set (map before l.places) k (h (get_or (map before l.places) k not_seen)) ≡ map after (slice_set l.places k r) =
    replaced before after l.places k r _ o.slot now
    (λ i low z. other-seen l.known x.members r (get_or l.places i 0) (g (seen_at r x)) o.low (λ q. z (o.alone i low q)) (o.blind i low)) in
    let back : slice_set l.places k r ≡ l.places = ap (λ (p : ℕ). slice_set l.places k p) (sym o.at) ∙ set-get_or l.places k 0 in
    ap (λ (ms : List Seen). record (eye l x) { members = ms }) (all ∙ ap (map after) back)

abbrev pub with_status_by : (ℕ → ℕ) → (ℕ → ℕ) → (ℕ → ℕ) → Seen → Seen
with_status_by c a d m = record m { status = c m.status; asleep_by = a m.asleep_by; slept = d m.slept }

-- What a lens does to the active member, and that it sees whether there is one.
pub record Sees (l : Lens) (place : ℕ) (members : List Seen) : Type 0 where
  pub none : l.number 0 ≡ 0
  pub some : place ≢ 0 → l.number place ≢ 0
  pub out : place ≢ 0 → Out l place members
  pub status : place ≢ 0 → (c a d : ℕ → ℕ) → let m : Seen = slice_index_or members (place - 1) not_seen in
      with_status_by c a d (l.known place m) ≡ l.known place (with_status_by c a d m)
  pub falls : place ≢ 0 → let m : Seen = slice_index_or members (place - 1) not_seen in
      has_fainted (l.known place m) ≡ l.known place (has_fainted m)
  pub moves : place ≢ 0 → (more id : ℕ) → let m : Seen = slice_index_or members (place - 1) not_seen in
      uses_again more id (l.known place m) ≡ l.known place (uses_again more id m)

pub out-eye : (l : Lens) (x : PublicSide) (f h : PublicSide → PublicSide) → Sees l x.place x.members → (x.place ≢ 0 → h (eye l x) ≡ eye l (f x))
    → if_seen_out h (eye l x) ≡ eye l (if_seen_out f x)
out-eye l x f h s same = by (eqb_tells x.place 0)
  where
    by : (((x.place == 0) ≡ true) × (x.place ≡ 0)) ⊎ (((x.place == 0) ≡ false) × (x.place ≢ 0)) → if_seen_out h (eye l x) ≡ eye l (if_seen_out f x)
    by (inl e) = taken (l.number x.place == 0) (eye l x) (h (eye l x)) (is-zero (l.number x.place) (ap l.number e.1 ∙ s.none))
        ∙ ap (eye l) (sym (taken (x.place == 0) x (f x) e.0))
    by (inr e) = left (l.number x.place == 0) (eye l x) (h (eye l x)) (is-some (l.number x.place) (s.some e.1)) ∙ same e.1
        ∙ ap (eye l) (sym (left (x.place == 0) x (f x) e.0))

announced-eye : (l : Lens) (x : PublicSide) (f : Announced → Announced) → Sees l x.place x.members
    → if_seen_out (on_announced f) (eye l x) ≡ eye l (if_seen_out (on_announced f) x)
announced-eye l x f s = out-eye l x (on_announced f) (on_announced f) s (λ z. refl)

begins-eye : (l k : Lens) (x foe : PublicSide) (what : Volatile) → Sees l x.place x.members → side_begins what (eye k foe) (eye l x) ≡ eye l (side_begins what foe x)
begins-eye l k x foe volatiles.TypeChange s = out-eye l x (takes_types foe) (takes_types (eye k foe)) s (λ z. refl)
begins-eye l k x foe volatiles.Confusion s = announced-eye l x (set_volatile volatiles.Confusion 1) s
begins-eye l k x foe volatiles.Bide s = out-eye l x starts_bide starts_bide s (λ z. ap (λ (y : PublicSide). on_announced (set_volatile volatiles.Bide 1) (strikes y))
    (seen-eye l (record x { last_move = bide }) (uses_again 1 bide) (uses_again 1 bide) (s.out z) (s.moves z 1 bide)))
begins-eye l k x foe volatiles.Substitute s = announced-eye l x (set_volatile volatiles.Substitute 1) s
begins-eye l k x foe volatiles.LeechSeed s = announced-eye l x (set_volatile volatiles.LeechSeed 1) s
begins-eye l k x foe volatiles.Mist s = announced-eye l x (set_volatile volatiles.Mist 1) s
begins-eye l k x foe volatiles.FocusEnergy s = announced-eye l x (set_volatile volatiles.FocusEnergy 1) s
begins-eye l k x foe volatiles.LightScreen s = announced-eye l x (set_volatile volatiles.LightScreen 1) s
begins-eye l k x foe volatiles.Reflect s = announced-eye l x (set_volatile volatiles.Reflect 1) s
begins-eye l k x foe volatiles.Disable s = announced-eye l x (set_volatile volatiles.Disable 1) s
begins-eye l k x foe volatiles.Trapped s = announced-eye l x (set_volatile volatiles.Trapped 1) s
begins-eye l k x foe volatiles.Rage s = announced-eye l x (set_volatile volatiles.Rage 1) s
begins-eye l k x foe volatiles.Splash s = announced-eye l x (set_volatile volatiles.Splash 1) s

-- Events that both sides learn as they are
abbrev pub is_plain : Event → Bool
is_plain (events.Switch w place level h) = false
is_plain (events.Damage w h source) = false
is_plain (events.Heal w h) = false
is_plain event = true

pub hears-eye : (l k : Lens) (x foe : PublicSide) → Sees l x.place x.members → (e : Event) → is_plain e ≡ true
    → side_hears e (eye k foe) (eye l x) ≡ eye l (side_hears e foe x)
hears-eye l k x foe s (events.Switch w place level h) q = absurd (true≢false (sym q))
hears-eye l k x foe s (events.Damage w h source) q = absurd (true≢false (sym q))
hears-eye l k x foe s (events.Heal w h) q = absurd (true≢false (sym q))
hears-eye l k x foe s (events.Move w move target) q = out-eye l x (uses_move move) (uses_move move) s
    (λ z. ap strikes
    (seen-eye l (record x { last_move = move }) (uses_again (new_uses move x) move) (uses_again (new_uses move x) move) (s.out z)
    (s.moves z (new_uses move x) move)))
hears-eye l k x foe s (events.Cant w why) q = out-eye l x (is_kept why) (is_kept why) s
    (λ z. ap (on_announced (is_kept_by why)) (seen-eye l x (sleeps_on why) (sleeps_on why) (s.out z) (s.status z (λ c. c) (λ a. a) (slept_on why))))
hears-eye l k x foe s (events.Status w kind) q = out-eye l x
    (λ y. on_announced (gets_status kind foe.last_move) (on_seen (is_afflicted kind) y))
    (λ y. on_announced (gets_status kind foe.last_move) (on_seen (is_afflicted kind) y)) s
    (λ z. ap (on_announced (gets_status kind foe.last_move))
    (seen-eye l x (is_afflicted kind) (is_afflicted kind) (s.out z) (s.status z (λ c. kind_number kind) (asleep_after kind) (slept_after kind))))
hears-eye l k x foe s (events.Cure w kind) q = out-eye l x (on_seen is_cured) (on_seen is_cured) s
    (λ z. seen-eye l x is_cured is_cured (s.out z) (s.status z (λ c. 0) (λ a. 0) (λ d. 0)))
hears-eye l k x foe s (events.Faint w) q = out-eye l x (on_seen has_fainted) (on_seen has_fainted) s
    (λ z. seen-eye l x has_fainted has_fainted (s.out z) (s.falls z))
hears-eye l k x foe s (events.Boost w stat n) q = out-eye l x (rises stat n) (rises stat n) s (λ z. refl)
hears-eye l k x foe s (events.Unboost w stat n) q = out-eye l x (drops stat n) (drops stat n) s (λ z. refl)
hears-eye l k x foe s (events.Start w what) q = begins-eye l k x foe what s
hears-eye l k x foe s (events.End w what) q = announced-eye l x (set_volatile what 0) s
hears-eye l k x foe s (events.Prepare w move) q = out-eye l x (prepares move) (prepares move) s
    (λ z. ap (charges_up (hides (move_at move).effect))
    (seen-eye l (record x { last_move = move }) (uses_again 0 move) (uses_again 0 move) (s.out z) (s.moves z 0 move)))
hears-eye l k x foe s (events.MustRecharge w) q = announced-eye l x (λ a. record a { recharging = 1 }) s
hears-eye l k x foe s _ q = refl

suffers-eye : (b : Bool) (l : Lens) (x : PublicSide) → recharges_unless b (eye l x) ≡ eye l (recharges_unless b x)
suffers-eye true l x = refl
suffers-eye false l x = refl

pub overhears-eye : (l : Lens) (x : PublicSide) → Sees l x.place x.members → (e : Event) → foe_hears e (eye l x) ≡ eye l (foe_hears e x)
overhears-eye l x s (events.Move w move target) =
    out-eye l x (suffers_move move) (suffers_move move) s (λ z. ap (recharges_unless (ends_recharging (move_at move).effect))
    (seen-eye l x is_overtaken is_overtaken (s.out z) (s.status z (λ c. c) rests_no_more (λ d. d))) ∙ suffers-eye (ends_recharging (move_at move).effect) l (on_seen is_overtaken x))
overhears-eye l x s _ = refl

-- Damage and healing, with HP in another form

abbrev pub Rises : Lens → PublicSide → ℕ → ℕ → Type 0
Rises l x hp it = x.place ≢ 0 → record (l.known x.place (seen_at x.place x)) { hp = it } ≡ l.known x.place (record (seen_at x.place x) { hp = hp })

pub damage-eye : (l k : Lens) (x foe : PublicSide) → Sees l x.place x.members → (w : Who) (h it : Health) (source : DamageSource) → Rises l x h.hp it.hp
    → side_hears (events.Damage w it source) (eye k foe) (eye l x) ≡ eye l (side_hears (events.Damage w h source) foe x)
damage-eye l k x foe s w h it source r = out-eye l x
    (λ y. takes_damage source (on_seen (λ m. record m { hp = h.hp }) y)) (λ y. takes_damage source (on_seen (λ m. record m { hp = it.hp }) y)) s
    (λ z. ap (takes_damage source) (seen-eye l x (λ m. record m { hp = h.hp }) (λ m. record m { hp = it.hp }) (s.out z) (r z)))

pub heal-eye : (l k : Lens) (x foe : PublicSide) → Sees l x.place x.members → (w : Who) (h it : Health) → Rises l x h.hp it.hp
    → side_hears (events.Heal w it) (eye k foe) (eye l x) ≡ eye l (side_hears (events.Heal w h) foe x)
heal-eye l k x foe s w h it r = out-eye l x (on_seen (λ m. record m { hp = h.hp })) (on_seen (λ m. record m { hp = it.hp })) s
    (λ z. seen-eye l x (λ m. record m { hp = h.hp }) (λ m. record m { hp = it.hp }) (s.out z) (r z))

-- What an event leaves of the members, besides what it changes of the active one

pub record Touches (place now : ℕ) (old new : List Seen) : Type 0 where
  pub same : now ≡ place
  pub size : length new ≡ length old
  pub others : (i : ℕ) → i ≢ place - 1 → get_or new i not_seen ≡ get_or old i not_seen
  pub species : map (λ (m : Seen). m.species) new ≡ map (λ (m : Seen). m.species) old
  pub idle : place ≡ 0 → new ≡ old

abbrev pub TouchesTo : PublicSide → PublicSide → Type 0
TouchesTo x y = Touches x.place y.place x.members y.members

pub stays : (x : PublicSide) → TouchesTo x x
stays x = record { same = refl; size = refl; others = λ i z. refl; species = refl; idle = λ z. refl }

pub touches-out : (x : PublicSide) (f : PublicSide → PublicSide) → (x.place ≢ 0 → TouchesTo x (f x)) → TouchesTo x (if_seen_out f x)
touches-out x f t = by (eqb_tells x.place 0)
  where
    by : (((x.place == 0) ≡ true) × (x.place ≡ 0)) ⊎ (((x.place == 0) ≡ false) × (x.place ≢ 0)) → TouchesTo x (if x.place == 0 then x else f x)
    by (inl e) = subst (λ (b : Bool). TouchesTo x (if b then x else f x)) (sym e.0) (stays x)
    by (inr e) = subst (λ (b : Bool). TouchesTo x (if b then x else f x)) (sym e.0) (t e.1)

touches-seen : (x : PublicSide) (g : Seen → Seen) → ((m : Seen) → (g m).species ≡ m.species) → x.place ≢ 0 → TouchesTo x (on_seen g x)
touches-seen x g h z = record {
  same = refl;
  size = length-set x.members (x.place - 1) _;
  others = λ i apart. get_or-set_other x.members (x.place - 1) i (g (seen_at x.place x)) not_seen apart;
  species = map-set_same (λ (m : Seen). m.species) x.members (x.place - 1) (g (seen_at x.place x)) not_seen (h (seen_at x.place x));
  idle = λ e. absurd (z e);
}

announced-touches : (x : PublicSide) (f : Announced → Announced) → TouchesTo x (if_seen_out (on_announced f) x)
announced-touches x f = touches-out x (on_announced f) (λ z. stays x)

begins-touches : (x foe : PublicSide) (what : Volatile) → TouchesTo x (side_begins what foe x)
begins-touches x foe volatiles.TypeChange = touches-out x (takes_types foe) (λ z. stays x)
begins-touches x foe volatiles.Confusion = announced-touches x (set_volatile volatiles.Confusion 1)
begins-touches x foe volatiles.Bide = touches-out x starts_bide (touches-seen x (uses_again 1 bide) (λ m. refl))
begins-touches x foe volatiles.Substitute = announced-touches x (set_volatile volatiles.Substitute 1)
begins-touches x foe volatiles.LeechSeed = announced-touches x (set_volatile volatiles.LeechSeed 1)
begins-touches x foe volatiles.Mist = announced-touches x (set_volatile volatiles.Mist 1)
begins-touches x foe volatiles.FocusEnergy = announced-touches x (set_volatile volatiles.FocusEnergy 1)
begins-touches x foe volatiles.LightScreen = announced-touches x (set_volatile volatiles.LightScreen 1)
begins-touches x foe volatiles.Reflect = announced-touches x (set_volatile volatiles.Reflect 1)
begins-touches x foe volatiles.Disable = announced-touches x (set_volatile volatiles.Disable 1)
begins-touches x foe volatiles.Trapped = announced-touches x (set_volatile volatiles.Trapped 1)
begins-touches x foe volatiles.Rage = announced-touches x (set_volatile volatiles.Rage 1)
begins-touches x foe volatiles.Splash = announced-touches x (set_volatile volatiles.Splash 1)

abbrev pub is_switch : Event → Bool
is_switch (events.Switch w place level h) = true
is_switch event = false

pub hears-touches : (x foe : PublicSide) (e : Event) → is_switch e ≡ false → TouchesTo x (side_hears e foe x)
hears-touches x foe (events.Switch w place level h) q = absurd (true≢false q)
hears-touches x foe (events.Move w move target) q = touches-out x (uses_move move) (touches-seen x (uses_again (new_uses move x) move) (λ m. refl))
hears-touches x foe (events.Cant w why) q = touches-out x (is_kept why) (touches-seen x (sleeps_on why) (λ m. refl))
hears-touches x foe (events.Damage w h source) q = touches-out x (λ y. takes_damage source (on_seen (λ m. record m { hp = h.hp }) y)) (touches-seen x (λ m. record m { hp = h.hp }) (λ m. refl))
hears-touches x foe (events.Heal w h) q = touches-out x (on_seen (λ m. record m { hp = h.hp })) (touches-seen x (λ m. record m { hp = h.hp }) (λ m. refl))
hears-touches x foe (events.Status w kind) q = touches-out x (λ y. on_announced (gets_status kind foe.last_move) (on_seen (is_afflicted kind) y)) (touches-seen x (is_afflicted kind) (λ m. refl))
hears-touches x foe (events.Cure w kind) q = touches-out x (on_seen is_cured) (touches-seen x is_cured (λ m. refl))
hears-touches x foe (events.Faint w) q = touches-out x (on_seen has_fainted) (touches-seen x has_fainted (λ m. refl))
hears-touches x foe (events.Boost w stat n) q = touches-out x (rises stat n) (λ z. stays x)
hears-touches x foe (events.Unboost w stat n) q = touches-out x (drops stat n) (λ z. stays x)
hears-touches x foe (events.Start w what) q = begins-touches x foe what
hears-touches x foe (events.End w what) q = announced-touches x (set_volatile what 0)
hears-touches x foe (events.Prepare w move) q = touches-out x (prepares move) (touches-seen x (uses_again 0 move) (λ m. refl))
hears-touches x foe (events.MustRecharge w) q = announced-touches x (λ a. record a { recharging = 1 })
hears-touches x foe _ q = stays x

suffers-touches : (b : Bool) (x y : PublicSide) → TouchesTo x y → TouchesTo x (recharges_unless b y)
suffers-touches true x y t = t
suffers-touches false x y t = t

pub overhears-touches : (x : PublicSide) (e : Event) → TouchesTo x (foe_hears e x)
overhears-touches x (events.Move w move target) = touches-out x (suffers_move move)
    (λ z. suffers-touches (ends_recharging (move_at move).effect) x (on_seen is_overtaken x) (touches-seen x is_overtaken (λ m. refl) z))
overhears-touches x _ = stays x

-- A side's own members

pub record OwnKept (place : ℕ) (members : List Seen) : Type 0 where
  pub six : length members ≡ 6
  pub high : place ≤ 6
  pub out : place ≢ 0 → (slice_index_or members (place - 1) not_seen).species ≢ 0
  pub blank : (i : ℕ) → (get_or members i not_seen).species ≡ 0 → get_or members i not_seen ≡ not_seen

abbrev pub own_lens : List Member → Lens
own_lens team = record { known = own_known team; places = own_places; number = λ place. place }

own-at : (i : ℕ) → i < 6 → get_or own_places i 0 ≡ i + 1
own-at zero low = refl
own-at (suc zero) low = refl
own-at (suc (suc zero)) low = refl
own-at (suc (suc (suc zero))) low = refl
own-at (suc (suc (suc (suc zero)))) low = refl
own-at (suc (suc (suc (suc (suc zero))))) low = refl
own-at (suc (suc (suc (suc (suc (suc i)))))) low = absurd (omega (arith, low))

own-at_place : (place : ℕ) → 1 ≤ place → place ≤ 6 → get_or own_places (place - 1) 0 ≡ place
own-at_place place low high = let back : place - 1 + 1 ≡ place = omega (arith, low) in own-at (place - 1) (omega (arith, low, high)) ∙ back

own-out : (team : List Member) (place : ℕ) (ms : List Seen) → OwnKept place ms → place ≢ 0 → Out (own_lens team) place ms
own-out team place ms k z =
    let low = not-zero place z in
    record {
      six = k.six;
      low = low;
      high = k.high;
      slot = let high = k.high in omega (arith, low, high);
      at = own-at_place place low k.high;
      alone = λ i few e. let a = own-at i few in omega (arith, a, e);
      blind = λ i few e. absurd (let a = own-at i few in omega (arith, a, e));
    }

pub own-same : (team : List Member) (place : ℕ) (m : Seen) (g : Seen → Seen) → m.species ≢ 0 → (g m).species ≡ m.species → g (own_known team place m) ≡ own_known team place (g m)
own-same team place m g z e =
    ap g (left (m.species == 0) (known_at (place - 1) team) m (is-some m.species z))
    ∙ sym (left ((g m).species == 0) (known_at (place - 1) team) (g m) (is-some (g m).species (λ q. z (sym e ∙ q))))

pub own-sees : (team : List Member) (place : ℕ) (ms : List Seen) → OwnKept place ms → Sees (own_lens team) place ms
own-sees team place ms k = record {
  none = refl;
  some = λ z. z;
  out = own-out team place ms k;
  status = λ z c a d. own-same team place (slice_index_or ms (place - 1) not_seen) (with_status_by c a d) (k.out z) refl;
  falls = λ z. own-same team place (slice_index_or ms (place - 1) not_seen) has_fainted (k.out z) refl;
  moves = λ z more id. own-same team place (slice_index_or ms (place - 1) not_seen) (uses_again more id) (k.out z) refl;
}

pub own-touched : (r s : ℕ) (ms ns : List Seen) → OwnKept r ms → Touches r s ms ns → OwnKept s ns
own-touched r s ms ns k t = record {
  six = t.size ∙ k.six;
  high = subst (λ (i : ℕ). i ≤ 6) (sym t.same) k.high;
  out = λ z. subst (λ (i : ℕ). (slice_index_or ns (i - 1) not_seen).species ≢ 0) (sym t.same)
      (λ e. k.out (λ q. z (t.same ∙ q)) (sym (same-species (r - 1)) ∙ e));
  blank = λ i e. by i e (eqb_tells r 0) (eqb_tells i (r - 1));
}
  where
    same-species : (i : ℕ) → (get_or ns i not_seen).species ≡ (get_or ms i not_seen).species
    same-species i = sym (get_or-map_default (λ (m : Seen). m.species) ns i not_seen)
        ∙ ap (λ (l : List ℕ). get_or l i 0) t.species ∙ get_or-map_default (λ (m : Seen). m.species) ms i not_seen

    by : (i : ℕ) → (get_or ns i not_seen).species ≡ 0 → (((r == 0) ≡ true) × (r ≡ 0)) ⊎ (((r == 0) ≡ false) × (r ≢ 0))
        → (((i == r - 1) ≡ true) × (i ≡ r - 1)) ⊎ (((i == r - 1) ≡ false) × (i ≢ r - 1)) → get_or ns i not_seen ≡ not_seen
    by i e (inl z) h = let same : ns ≡ ms = t.idle z.1 in
        ap (λ (l : List Seen). get_or l i not_seen) same ∙ k.blank i (sym (same-species i) ∙ e)
    by i e (inr z) (inl h) = absurd (k.out z.1 (ap (λ (j : ℕ). (get_or ms j not_seen).species) (sym h.1) ∙ sym (same-species i) ∙ e))
    by i e (inr z) (inr h) = t.others i h.1 ∙ k.blank i (sym (same-species i) ∙ e)

-- A member that comes out

abbrev pub shown_as : ℕ → ℕ → Health → Seen → Seen
shown_as species level h m = record m { species = species; level = level; hp = h.hp; max = h.max; status = kind_or_0 h.kind }

pub comes-is : (species place level : ℕ) (h : Health) (x : PublicSide) → 1 ≤ place → place ≤ 6 → comes_out species place level h x ≡ side_out species place level h x
comes-is species place level h x low high = taken (nat_le 1 place && nat_le place 6) (side_out species place level h x) x
    (ap (λ (b : Bool). b && nat_le place 6) (le-leb 1 place low) ∙ le-leb place 6 high)

abbrev pub with_place : Lens → ℕ → ℕ → (ℕ → ℕ) → Lens
with_place l k place number = record { known = l.known; places = slice_set l.places k place; number = number }

pub comes-eye : (l : Lens) (number : ℕ → ℕ) (x : PublicSide) (species level r a k : ℕ) (h it : Health) → a - 1 ≡ k → k < length l.places → number r ≡ a
    → (let ms : List Seen = slice_set x.members (r - 1) (shown_as species level h (seen_at r x)) in
    (shown_as species level it (get_or (members_by l.known l.places x) k not_seen) ≡ l.known r (get_or ms (r - 1) not_seen))
    × ((i : ℕ) → i < length l.places → i ≢ k
    → l.known (get_or l.places i 0) (seen_at (get_or l.places i 0) x) ≡ l.known (get_or l.places i 0) (get_or ms (get_or l.places i 0 - 1) not_seen)))
    → side_out species a level it (eye l x) ≡ eye (with_place l k r number) (side_out species r level h x)
comes-eye l number x species level r a k h it back few n same =
    let ms : List Seen = slice_set x.members (r - 1) (shown_as species level h (seen_at r x)) in
    let before : ℕ → Seen = λ p. l.known p (seen_at p x) in
    let after : ℕ → Seen = λ p. l.known p (get_or ms (p - 1) not_seen) in
    let all : slice_set (map before l.places) k (shown_as species level it (get_or (map before l.places) k not_seen)) ≡ map after (slice_set l.places k r) =
    replaced before after l.places k r _ few same.0 same.1 in
    ap (λ (ns : List Seen). record (side_out species a level it (eye l x)) { members = ns })
    (ap (λ (i : ℕ). slice_set (map before l.places) i (shown_as species level it (get_or (map before l.places) i not_seen))) back ∙ all)
    ∙ ap (λ (i : ℕ). record (eye (with_place l k r number) (side_out species r level h x)) { place = i }) (sym n)

known-blank : (team : List Member) (k species level : ℕ) (h : Health) → shown_as species level h (known_at k team) ≡ shown_as species level h not_seen
known-blank [] k species level h = refl
known-blank (m ∷ ms) zero species level h = refl
known-blank (m ∷ ms) (suc k) species level h = known-blank ms k species level h

pub own-comes : (team : List Member) (x : PublicSide) (species place level : ℕ) (h : Health) → OwnKept x.place x.members → 1 ≤ place → place ≤ 6 → species ≢ 0
    → (comes_out species place level h (own_as_known team x) ≡ own_as_known team (comes_out species place level h x))
    × OwnKept (comes_out species place level h x).place (comes_out species place level h x).members
own-comes team x species place level h k low high named =
    let l : Lens = own_lens team in
    let s : Seen = seen_at place x in
    let new : Seen = shown_as species level h s in
    let ms : List Seen = slice_set x.members (place - 1) new in
    let six = k.six in
    let bound : place - 1 < length x.members = omega (arith, six, low, high) in
    let few : place - 1 < 6 = omega (arith, low, high) in
    let set : get_or ms (place - 1) not_seen ≡ new = get_or-set_same x.members (place - 1) new not_seen bound in
    let at : get_or own_places (place - 1) 0 ≡ place = own-at_place place low high in
    let before : ℕ → Seen = λ p. own_known team p (seen_at p x) in
    let was : get_or (map before own_places) (place - 1) not_seen ≡ own_known team place s =
    get_or-map before own_places (place - 1) 0 not_seen few ∙ ap before at in
    let now : shown_as species level h (get_or (map before own_places) (place - 1) not_seen) ≡ own_known team place (get_or ms (place - 1) not_seen) =
    ap (shown_as species level h) was ∙ fresh (eqb_tells s.species 0)
    ∙ sym (left (new.species == 0) (known_at (place - 1) team) new (is-some species named)) ∙ ap (own_known team place) (sym set) in
    let others : (i : ℕ) → i < 6 → i ≢ place - 1
    → own_known team (get_or own_places i 0) (seen_at (get_or own_places i 0) x) ≡ own_known team (get_or own_places i 0) (get_or ms (get_or own_places i 0 - 1) not_seen) =
    λ i q z. let a = own-at i q in
    other-seen (own_known team) x.members place (get_or own_places i 0) new low (λ e. z (omega (arith, a, e))) (λ e. absurd (omega (arith, a, e))) in
    let there : slice_set own_places (place - 1) place ≡ own_places =
    ap (λ (p : ℕ). slice_set own_places (place - 1) p) (sym at) ∙ set-get_or own_places (place - 1) 0 in
    let out : comes_out species place level h x ≡ side_out species place level h x = comes-is species place level h x low high in (
      comes-is species place level h (own_as_known team x) low high
          ∙ comes-eye l (λ i. i) x species level place place (place - 1) h h refl few refl (now, others)
          ∙ ap (λ (ps : List ℕ). eye (record { known = own_known team; places = ps; number = λ i. i }) (side_out species place level h x)) there
          ∙ ap (own_as_known team) (sym out),
      subst (λ (y : PublicSide). OwnKept y.place y.members) (sym out) (record {
        six = length-set x.members (place - 1) new ∙ k.six;
        high = high;
        out = λ z e. named (sym (ap (λ (m : Seen). m.species) set) ∙ e);
        blank = λ i e. kept i e (eqb_tells i (place - 1)) set;
      }),
    )
  where
    fresh : (((((seen_at place x).species == 0) ≡ true) × ((seen_at place x).species ≡ 0)) ⊎ ((((seen_at place x).species == 0) ≡ false) × ((seen_at place x).species ≢ 0)))
        → shown_as species level h (own_known team place (seen_at place x)) ≡ shown_as species level h (seen_at place x)
    fresh (inl e) = ap (shown_as species level h) (taken ((seen_at place x).species == 0) (known_at (place - 1) team) (seen_at place x) e.0)
        ∙ known-blank team (place - 1) species level h ∙ ap (shown_as species level h) (sym (k.blank (place - 1) e.1))
    fresh (inr e) = ap (shown_as species level h) (left ((seen_at place x).species == 0) (known_at (place - 1) team) (seen_at place x) e.0)

    kept : (i : ℕ) → (get_or (slice_set x.members (place - 1) (shown_as species level h (seen_at place x))) i not_seen).species ≡ 0
        → (((i == place - 1) ≡ true) × (i ≡ place - 1)) ⊎ (((i == place - 1) ≡ false) × (i ≢ place - 1))
        → get_or (slice_set x.members (place - 1) (shown_as species level h (seen_at place x))) (place - 1) not_seen ≡ shown_as species level h (seen_at place x)
        → get_or (slice_set x.members (place - 1) (shown_as species level h (seen_at place x))) i not_seen ≡ not_seen
    kept i e (inl q) set = absurd (named (sym (ap (λ (m : Seen). m.species) set)
        ∙ ap (λ (j : ℕ). (get_or (slice_set x.members (place - 1) (shown_as species level h (seen_at place x))) j not_seen).species) (sym q.1) ∙ e))
    kept i e (inr q) set =
        let same = get_or-set_other x.members (place - 1) i (shown_as species level h (seen_at place x)) not_seen q.1 in
        same ∙ k.blank i (sym (ap (λ (m : Seen). m.species) same) ∙ e)
