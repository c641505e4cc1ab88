-- The story of one member's moves: what it knows of them, with PP, and what was seen of them. Only the use of a move of its own tells more.
use Rattle.gen1_machine.specs.declared.event.CantReason.TheVariants as reasons
use Rattle.gen1_player.proofs.ToldGate.{sleep-tame}
use Rattle.gen1_stats.specs.declared.member.Status.{Status}
use Rattle.gen1_stats.specs.declared.member.Status.TheVariants.{Asleep}
use Rattle.std.proofs.Common.{[], ap, arith, false, get_or, get_or-set_same, if◌then◌else◌, inl, inr, length, length-set, map, min, refl, slice_index_or, slice_set, subst, suc, sym, true, true≢false, zero, ◌++◌, ◌+◌, ◌-◌, ◌<◌, ◌==◌, ◌||◌, ◌∙◌, ◌∷◌, ◌≡◌, ◌≢◌, ◌≤◌, ◌⊎◌, Bool, List, None, Option, Some, ℕ}
use Rattle.std.proofs.lemmas.List.{get_or-set_other, map-set}
use Rattle.std.proofs.Math.ListN.{get_or-map}
use Rattle.gen1_tables.specs.Effects.{bides}
use Rattle.gen1_stats.specs.declared.member.KnownMove.{KnownMove}
use Rattle.gen1_stats.specs.Members.{nobody, nothing_known, Member}
use Rattle.gen1_machine.specs.declared.side.Side.{Side}
use Rattle.gen1_machine.specs.declared.side.Side.TheVariants.{One, Two}
use Rattle.gen1_machine.specs.declared.event.Volatile.{Volatile}
use Rattle.gen1_machine.specs.declared.event.Volatile.TheVariants as volatiles
use Rattle.gen1_machine.specs.declared.event.Event.{Event}
use Rattle.gen1_machine.specs.declared.event.Event.TheVariants as events
use Rattle.gen1_machine.specs.declared.event.Kind.TheVariants as kinds
use Rattle.gen1_machine.specs.declared.event.Who.{Who}
use Rattle.gen1_machine.specs.declared.side.UsedMove.{UsedMove}
use Rattle.gen1_machine.specs.Health.{Health}
use Rattle.gen1_machine.specs.LogBytes.{kind_or_0}
use Rattle.gen1_machine.specs.Moves.{toxic, Move}
use Rattle.gen1_machine.specs.Sides.{other}
use Rattle.gen1_machine.specs.Conditions.{after_haze, with_bad_poison, with_bide, with_recharge, without_seed, ActiveConditions}
use Rattle.gen1_machine.specs.State.{Active, Field, Party, active_in, after_use, changed_active, changed_conditions, changed_member, fallen, health_in, member_at, member_in, party, who_in, with_current_move, with_less_pp, with_member, with_pp_spent, with_status, with_types_of, with_sleep_one_less}
use Rattle.gen1_machine.specs.EarlyEffects.{with_levelled_stats}
use Rattle.gen1_machine.specs.SwitchingIn.{switch_event}
use Rattle.gen1_player.specs.declared.public.Public.{Public}
use Rattle.gen1_player.specs.declared.public_side.PublicSide.{PublicSide}
use Rattle.gen1_player.specs.declared.seen.Seen.{Seen}
use Rattle.gen1_player.specs.declared.seen.SeenMove.{SeenMove}
use Rattle.gen1_player.specs.Public.{begins, comes_out, first_public, is_slot, not_seen, not_used, on_out, on_public_side, prepares, public_side, seen_at, settled, starts_bide, takes_in, used_in, used_more, uses_move}
use Rattle.gen1_player.proofs.Facts.{dull-noise, noise-is, sent, sent-place, with_cleared, Noise, Sparing, Standing}
use Rattle.gen1_player.proofs.Stories.{Outline, Story, Switching, sickened, slept, Dozing}
use Rattle.gen1_player.proofs.HeardSides.{bide-hears, clear-hears, end-hears, foe-side, hears-in, hears_all-last, move-hears, prepare-hears, switch-hears}
use Rattle.gen1_player.proofs.Appearing.{clear-faces, comes-faces, end-faces, face, faces, is_bide, no_face, noise-faces, rest-faces, settled-faces, start-faces, starts-otherwise, suffers-same, Face, Faces}
use Rattle.gen1_player.proofs.DeedStory.{told_by}
use Rattle.std.specs.List.{position}
use Rattle.std.proofs.lemmas.Bool.Decides.{eqb_tells}
use Rattle.std.proofs.lemmas.List.Quantifiers.{position-Some}
use Rattle.std.proofs.Math.Nat.{min-le_right}
use Rattle.std.proofs.Math.Seq.{map-set_same}
use Rattle.gen1_machine.specs.declared.side.UsedMove.TheVariants.{Nothing, Slot, Struggle}
use Rattle.gen1_machine.specs.Picks.{number_in}
use Rattle.gen1_tables.specs.Moves.{struggle}

-- Sides

abbrev pub Against : Side → Side → Type 0
Against One Two = Unit {0}
Against Two One = Unit {0}
Against _ _ = ⊥

pub against-other : (s : Side) → Against s (other s)
against-other One = tt
against-other Two = tt

pub far-side : (σ s : Side) → Against σ s → (h : PublicSide → PublicSide) (p : Public) → public_side σ (on_out s h p) ≡ public_side σ p
far-side One Two a h p = foe-side Two h p
far-side Two One a h p = foe-side One h p
far-side One One a h p = absurd a
far-side Two Two a h p = absurd a

-- A list in which an item was set.
pub set-at : {A : Type 0} (P : A → Type 0) (xs : List A) (k i : ℕ) (v d : A) → (k ≡ i → P v) → P (get_or xs i d) → P (get_or (slice_set xs k v) i d)
set-at P [] k i v d new old = old
set-at P (x ∷ xs) zero zero v d new old = new refl
set-at P (x ∷ xs) zero (suc i) v d new old = old
set-at P (x ∷ xs) (suc k) zero v d new old = old
set-at P (x ∷ xs) (suc k) (suc i) v d new old = set-at P xs k i v d (λ e. new (ap suc e)) old

-- What changes of a field leave

abbrev pub members_of : Side → Field → List Member
members_of σ f = (party σ f).members

abbrev pub place_of : Side → Field → ℕ
place_of σ f = (party σ f).active.place

abbrev pub moves_at : ℕ → List Member → List KnownMove
moves_at i ms = (get_or ms i nobody).moves

active-place : (σ s : Side) (change : Active → Active) → ((a : Active) → (change a).place ≡ a.place) → (f : Field) → place_of σ (changed_active s change f) ≡ place_of σ f
unfolding changed_active
active-place One One change h f = h f.one.active
active-place One Two change h f = refl
active-place Two One change h f = refl
active-place Two Two change h f = h f.two.active

active-members : (σ s : Side) (change : Active → Active) (f : Field) → members_of σ (changed_active s change f) ≡ members_of σ f
unfolding changed_active
active-members One One change f = refl
active-members One Two change f = refl
active-members Two One change f = refl
active-members Two Two change f = refl

member-place : (σ s : Side) (change : Member → Member) (f : Field) → place_of σ (changed_member s change f) ≡ place_of σ f
unfolding changed_member
member-place One One change f = refl
member-place One Two change f = refl
member-place Two One change f = refl
member-place Two Two change f = refl

member-length : (σ s : Side) (change : Member → Member) (f : Field) → length (members_of σ (changed_member s change f)) ≡ length (members_of σ f)
unfolding changed_member
member-length One One change f = length-set f.one.members (f.one.active.place - 1) _
member-length One Two change f = refl
member-length Two One change f = refl
member-length Two Two change f = length-set f.two.members (f.two.active.place - 1) _

set-moves : (i place : ℕ) (n : Member) (t : Party) → n.moves ≡ (member_at place t).moves → moves_at i (with_member place n t).members ≡ moves_at i t.members
set-moves i place n t e = set-at (λ (m : Member). m.moves ≡ moves_at i t.members) t.members (place - 1) i n nobody
    (λ same. e ∙ ap (λ (k : ℕ). moves_at k t.members) same) refl

member-moves : (σ s : Side) (i : ℕ) (change : Member → Member) → ((m : Member) → (change m).moves ≡ m.moves) → (f : Field)
    → moves_at i (members_of σ (changed_member s change f)) ≡ moves_at i (members_of σ f)
unfolding changed_member
member-moves One One i change h f = set-moves i f.one.active.place (change (member_in One f)) f.one (h (member_in One f))
member-moves One Two i change h f = refl
member-moves Two One i change h f = refl
member-moves Two Two i change h f = set-moves i f.two.active.place (change (member_in Two f)) f.two (h (member_in Two f))

far-moves : (σ s : Side) → Against σ s → (i : ℕ) (change : Member → Member) (f : Field) → moves_at i (members_of σ (changed_member s change f)) ≡ moves_at i (members_of σ f)
unfolding changed_member
far-moves One Two a i change f = refl
far-moves Two One a i change f = refl
far-moves One One a i change f = absurd a
far-moves Two Two a i change f = absurd a

-- The story, of the member with index i

abbrev pub About : Type 1
About = ℕ → List KnownMove → List SeenMove → Type 0

abbrev pub seen_moves : ℕ → Faces → List SeenMove
seen_moves i z = (get_or z.members i no_face).moves

-- G is about the place of the active member, what the member knows, and what was seen of it.
pub record Counted (i : ℕ) (G : About) (place : ℕ) (members : List Member) (z : Faces) : Type 0 where
  pub placed : z.place ≡ place
  pub few : length members ≤ 6
  pub is : G place (moves_at i members) (seen_moves i z)

abbrev pub Counts : Side → ℕ → About → Field → List Event → Type 0
Counts σ i G f es = Counted i G (place_of σ f) (members_of σ f) (faces (public_side σ (told_by es)))

pub counted-as : {i : ℕ} {G H : About} {place : ℕ} {members : List Member} {z : Faces} → (G place (moves_at i members) (seen_moves i z) → H place (moves_at i members) (seen_moves i z))
    → Counted i G place members z → Counted i H place members z
counted-as h m = record { placed = m.placed; few = m.few; is = h m.is }

module _ {i : ℕ} {G : About} where
  moved : {place new : ℕ} {members others : List Member} {z : Faces} → new ≡ place → length others ≡ length members → moves_at i others ≡ moves_at i members
      → Counted i G place members z → Counted i G new others z
  moved {place} {new} {members} {others} {z} p l e m = record {
    placed = m.placed ∙ sym p;
    few = omega (arith, l, m.few);
    is = subst (λ (ks : List KnownMove). G new ks (seen_moves i z)) (sym e) (subst (λ (k : ℕ). G k (moves_at i members) (seen_moves i z)) (sym p) m.is);
  }

  heard : {place : ℕ} {members : List Member} {z y : Faces} → y ≡ z → Counted i G place members z → Counted i G place members y
  heard {place} {members} e m = subst (Counted i G place members) (sym e) m

-- The next event
pub told-last : (e : Event) (es : List Event) → told_by (es ++ e ∷ []) ≡ takes_in e (settled e (told_by es))
told-last e es = hears_all-last es e first_public ∙ hears-in e (told_by es)

next-faces : (σ : Side) (e : Event) → ((p : Public) → faces (public_side σ (takes_in e p)) ≡ faces (public_side σ p)) → (es : List Event)
    → faces (public_side σ (told_by (es ++ e ∷ []))) ≡ faces (public_side σ (told_by es))
next-faces σ e h es = ap (λ (p : Public). faces (public_side σ p)) (told-last e es) ∙ h (settled e (told_by es)) ∙ settled-faces e σ (told_by es)

start-begins : (w : Who) (what : Volatile) (p : Public) → takes_in (events.Start w what) p ≡ begins w.side what p
unfolding takes_in
start-begins w what p = refl

far-bide : (σ : Side) (w : Who) → Against σ w.side → (p : Public) → faces (public_side σ (takes_in (events.Start w volatiles.Bide) p)) ≡ faces (public_side σ p)
far-bide σ w a p = ap (λ (q : Public). faces (public_side σ q)) (bide-hears w p) ∙ ap faces (far-side σ w.side a starts_bide p)

pub far-move : (σ : Side) (w foe : Who) (n : ℕ) → Against σ w.side → (p : Public) → faces (public_side σ (takes_in (events.Move w n foe) p)) ≡ faces (public_side σ p)
far-move σ w foe n a p = ap (λ (q : Public). faces (public_side σ q)) (move-hears w foe n p) ∙ suffers-same (other w.side) σ n (on_out w.side (uses_move n) p)
    ∙ ap faces (far-side σ w.side a (uses_move n) p)

pub far-prepare : (σ : Side) (w : Who) (n : ℕ) → Against σ w.side → (p : Public) → faces (public_side σ (takes_in (events.Prepare w n) p)) ≡ faces (public_side σ p)
far-prepare σ w n a p = ap (λ (q : Public). faces (public_side σ q)) (prepare-hears w n p) ∙ ap faces (far-side σ w.side a (prepares n) p)

pub sparing-moves : (change : Member → Member) → Sparing change → (m : Member) → (change m).moves ≡ m.moves
sparing-moves change h m = ap (λ b. b.moves) (h m)

pub status-moves : (status : Status) (m : Member) → (with_status status m).moves ≡ m.moves
unfolding with_status
status-moves status m = refl

pub fallen-moves : (m : Member) → (fallen m).moves ≡ m.moves
unfolding fallen
fallen-moves m = refl

module _ (σ : Side) (i : ℕ) (G : About) where
  pub counts-active : (s : Side) (change : Active → Active) → ((a : Active) → (change a).place ≡ a.place) → (f : Field) (es : List Event)
      → Counts σ i G f es → Counts σ i G (changed_active s change f) es
  counts-active s change h f es m = moved (active-place σ s change h f) (ap length (active-members σ s change f)) (ap (moves_at i) (active-members σ s change f)) m

  pub counts-conditions : (s : Side) (change : ActiveConditions → ActiveConditions) (f : Field) (es : List Event) → Counts σ i G f es → Counts σ i G (changed_conditions s change f) es
  unfolding changed_conditions
  counts-conditions s change f es m = counts-active s (λ a. record a { conditions = change a.conditions }) (λ a. refl) f es m

  pub counts-member : (s : Side) (change : Member → Member) → ((m : Member) → (change m).moves ≡ m.moves) → (f : Field) (es : List Event)
      → Counts σ i G f es → Counts σ i G (changed_member s change f) es
  counts-member s change h f es m = moved (member-place σ s change f) (member-length σ s change f) (member-moves σ s i change h f) m

  counts-spent : (s : Side) → Against σ s → (used : UsedMove) (f : Field) (es : List Event) → Counts σ i G f es → Counts σ i G (changed_member s (with_pp_spent used) f) es
  counts-spent s a used f es m = moved (member-place σ s (with_pp_spent used) f) (member-length σ s (with_pp_spent used) f) (far-moves σ s a i (with_pp_spent used) f) m

  pub counts-apart : (f g : Field) (es : List Event) → f.one ≡ g.one → f.two ≡ g.two → Counts σ i G f es → Counts σ i G g es
  counts-apart f g es a b m = by σ m
    where
      by : (s : Side) → Counts s i G f es → Counts s i G g es
      by One k = subst (λ (t : Party). Counted i G t.active.place t.members (faces (told_by es).one)) a k
      by Two k = subst (λ (t : Party). Counted i G t.active.place t.members (faces (told_by es).two)) b k

  pub counts-told : (e : Event) → ((p : Public) → faces (public_side σ (takes_in e p)) ≡ faces (public_side σ p)) → (f : Field) (es : List Event)
      → Counts σ i G f es → Counts σ i G f (es ++ e ∷ [])
  counts-told e h f es m = heard (next-faces σ e h es) m

  pub counts-noise : (e : Event) (f : Field) → Noise f e → (es : List Event) → Counts σ i G f es → Counts σ i G f (es ++ e ∷ [])
  counts-noise e f n es m = counts-told e (λ p. noise-faces e (noise-is f e n) σ p) f es m

  pub counts-start : (w : Who) (what : Volatile) → is_bide what ≡ false → (f : Field) (es : List Event) → Counts σ i G f es → Counts σ i G f (es ++ events.Start w what ∷ [])
  counts-start w what b f es m = counts-told (events.Start w what) (λ p. ap (λ (q : Public). faces (public_side σ q)) (start-begins w what p) ∙ start-faces w.side what b σ p) f es m

  pub counts-end : (w : Who) (what : Volatile) (f : Field) (es : List Event) → Counts σ i G f es → Counts σ i G f (es ++ events.End w what ∷ [])
  counts-end w what f es m = counts-told (events.End w what) (λ p. ap (λ (q : Public). faces (public_side σ q)) (end-hears w what p) ∙ end-faces w.side what σ p) f es m

  pub counts-clear : (f : Field) (es : List Event) → Counts σ i G f es → Counts σ i G (with_cleared Two (with_cleared One f)) (es ++ events.ClearAll ∷ [])
  unfolding with_levelled_stats
  counts-clear f es m = counts-told events.ClearAll (λ p. ap (λ (q : Public). faces (public_side σ q)) (clear-hears p) ∙ clear-faces σ p) _ es
      (counts-conditions Two after_haze _ es (counts-active Two with_levelled_stats (λ a. refl) _ es
      (counts-conditions One after_haze _ es (counts-active One with_levelled_stats (λ a. refl) f es m))))

  pub counts-convert : (s : Side) (f : Field) (es : List Event) → Counts σ i G f es
      → let g : Field = changed_active s (with_types_of (active_in (other s) f)) f in Counts σ i G g (es ++ events.Start (who_in s g) volatiles.TypeChange ∷ [])
  unfolding with_types_of
  counts-convert s f es m = counts-start _ volatiles.TypeChange refl _ es (counts-active s (with_types_of (active_in (other s) f)) (λ a. refl) f es m)

  pub counts-sickened : (s : Side) (move : Move) (f : Field) (es : List Event) → Counts σ i G f es → Counts σ i G (sickened s move f) es
  counts-sickened s move f es m = by (move.number == toxic)
    where
      by : (e : Bool) → Counts σ i G (if e then changed_conditions (other s) with_bad_poison f else f) es
      by true = counts-conditions (other s) with_bad_poison f es m
      by false = m

  pub counts-stores : (s : Side) (move : Move) → Against σ s ⊎ (bides move.effect ≡ false) → bides move.effect ≡ true → (turns : ℕ) (f : Field) (es : List Event) → Counts σ i G f es
      → let g : Field = changed_conditions s (with_bide turns) f in Counts σ i G g (es ++ events.Start (who_in s g) volatiles.Bide ∷ [])
  counts-stores s move (inl a) e turns f es m = counts-told _ (far-bide σ (who_in s (changed_conditions s (with_bide turns) f)) a) _ es (counts-conditions s (with_bide turns) f es m)
  counts-stores s move (inr n) e turns f es m = absurd (true≢false (sym e ∙ n))

  unfoldable pub counting : Story
  counting = record {
    exact = Counts σ i G;
    loose = Counts σ i G;
    said = λ s move. Against σ s;
    acted = λ s move. Unit {0};
    knows = λ s move. Against σ s ⊎ (bides move.effect ≡ false);
    lulled = λ s turns marked. Unit {0};
    upright = λ s. Unit {0};
    loosen = λ f es m. m;
    tighten = λ f es m a b. m;
    member = λ s change h r f es w m. counts-member s change (sparing-moves change h) f es m;
    cures = λ s change kind h f es o a m. let g : Field = changed_member s change f in let e : Event = events.Cure (who_in s g) kind in
        counts-told e (λ p. noise-faces e refl σ p) g es (counts-member s change (sparing-moves change h) f es m);
    sleeps = λ s turns marked k f es o m. let e : Event = events.Status (who_in s (slept s turns marked f)) kinds.Sleep in
        counts-told e (λ p. noise-faces e refl σ p) (slept s turns marked f) es (counts-member s (with_status (Asleep turns marked)) (status-moves (Asleep turns marked)) f es m);
    active = λ s change h f es m. counts-active s change (λ a. ap (λ (x : Standing). x.place) (h a)) f es m;
    conditions = λ s change h f es m. counts-conditions s change f es m;
    apart = λ f g es a b m. counts-apart f g es a b m;
    noise = λ e f h es m. counts-noise e f (dull-noise f e h) es m;
    poisons = λ s move a f es o m. counts-noise (events.Status (who_in (other s) f) kinds.Poison) (sickened s move f) refl es (counts-sickened s move f es m);
    starts = λ s what change h f es o m. counts-start _ what (starts-otherwise what change h) _ es (counts-conditions s change f es m);
    stores = λ s move k e turns f es o m. counts-stores s move k e turns f es m;
    ends = λ s what change h f es o m. counts-end _ what _ es (counts-conditions s change f es m);
    converts = λ s f es o m. counts-convert s f es m;
    clears = λ f es o m. counts-clear f es m;
    moves = λ s move a f es o m. counts-told _ (far-move σ (who_in s f) (who_in (other s) f) move.number a) f es m;
    prepares = λ s move a f es o m. counts-told _ (far-prepare σ (who_in s f) move.number a) f es m;
    explodes = λ s u f es o m. counts-conditions s without_seed _ es (counts-member s fallen fallen-moves f es m);
    rests = λ s move k e f es o m. counts-told _ (λ p. rest-faces (who_in s (changed_conditions s with_recharge f)) σ p) _ es (counts-conditions s with_recharge f es m);
    loose_active = λ s change h f es m. counts-active s change (λ a. ap (λ (x : Standing). x.place) (h a)) f es m;
    loose_apart = λ f g es a b m. counts-apart f g es a b m;
    loose_noise = λ e f h es m. counts-noise e f (dull-noise f e h) es m;
    loose_falls = λ s f es o m. let g : Field = changed_member s fallen f in let e : Event = events.Faint (who_in s g) in counts-told e (λ p. noise-faces e refl σ p) g es (counts-member s fallen fallen-moves f es m);
  }

  pub counting-outline : Outline counting
  unfolding counting with_current_move
  counting-outline = record {
    takes = λ s used f es m. counts-active s (with_current_move used) (λ a. refl) f es m;
    spends = λ s move a used f es m. counts-spent s a used f es m;
    mild = λ s change h f es m. counts-conditions s change f es m;
    noise = λ e f h es m. counts-noise e f h es m;
    acts = λ s move. tt;
    knows = λ s move a. inl a;
  }

  pub counting-dozes : Dozing counting
  unfolding counting
  counting-dozes = record {
    dozes = λ s turns marked f es o a h m. let g : Field = changed_member s with_sleep_one_less f in let e : Event = events.Cant (who_in s g) reasons.Asleep in
        counts-told e (λ p. noise-faces e refl σ p) g es (counts-member s with_sleep_one_less (sparing-moves with_sleep_one_less sleep-tame) f es m);
  }

-- A member comes out

out-place : (s : Side) (place : ℕ) (f : Field) → place_of s (sent s place f) ≡ place
unfolding changed_active changed_conditions
out-place One place f = sent-place place (member_at place f.one) f.one.active
out-place Two place f = sent-place place (member_at place f.two) f.two.active

out-members : (σ s : Side) (place : ℕ) (f : Field) → members_of σ (sent s place f) ≡ members_of σ f
unfolding changed_active changed_conditions
out-members One One place f = refl
out-members One Two place f = refl
out-members Two One place f = refl
out-members Two Two place f = refl

comes-moves : (i species place level : ℕ) (h : Health) (x : PublicSide) → 1 ≤ place → place ≤ 6 → seen_moves i (faces (comes_out species place level h x)) ≡ seen_moves i (faces x)
comes-moves i species place level h x low high =
    let old : Seen = seen_at place x in
    let new : Seen = record old { species = species; level = level; hp = h.hp; max = h.max; status = kind_or_0 h.kind } in
    ap (seen_moves i) (comes-faces species place level h x low high) ∙ ap (λ (ss : List Face). (get_or ss i no_face).moves) (map-set face x.members (place - 1) new)
    ∙ set-at (λ (s : Face). s.moves ≡ seen_moves i (faces x)) (map face x.members) (place - 1) i (face new) no_face
    (λ e. sym (ap (λ (s : Face). s.moves) (get_or-map face x.members (place - 1) not_seen)) ∙ ap (λ (k : ℕ). seen_moves k (faces x)) e) refl

pub sides : (σ s : Side) → (σ ≡ s) ⊎ Against σ s
sides One One = inl refl
sides One Two = inr tt
sides Two One = inr tt
sides Two Two = inl refl

on-own : (s : Side) (h : PublicSide → PublicSide) (p : Public) → public_side s (on_public_side s h p) ≡ h (public_side s p)
on-own One h p = refl
on-own Two h p = refl

on-far : (σ s : Side) → Against σ s → (h : PublicSide → PublicSide) (p : Public) → public_side σ (on_public_side s h p) ≡ public_side σ p
on-far One Two a h p = refl
on-far Two One a h p = refl
on-far One One a h p = absurd a
on-far Two Two a h p = absurd a

far-place : (σ s : Side) → Against σ s → (place : ℕ) (f : Field) → place_of σ (sent s place f) ≡ place_of σ f
unfolding changed_active changed_conditions
far-place One Two a place f = refl
far-place Two One a place f = refl
far-place One One a place f = absurd a
far-place Two Two a place f = absurd a

-- G is not about the place.
module _ (i : ℕ) (G : About) (loose : (place new : ℕ) (known : List KnownMove) (seen : List SeenMove) → G place known seen → G new known seen) where
  own-comes : (s : Side) (place : ℕ) (f : Field) (es : List Event) → 1 ≤ place → place ≤ length (party s f).members → Counts s i G f es
      → Counts s i G (sent s place f) (es ++ switch_event s place (sent s place f) ∷ [])
  own-comes s place f es low high m =
      let g : Field = sent s place f in
      let e : Event = switch_event s place g in
      let p : Public = settled e (told_by es) in
      let x : PublicSide = public_side s p in
      let h : PublicSide → PublicSide = comes_out (who_in s g).species place (member_in s g).level (health_in s g) in
      let few = m.few in
      let six : place ≤ 6 = omega (arith, high, few) in
      let is : faces (public_side s (told_by (es ++ e ∷ []))) ≡ faces (h x) = ap (λ (q : Public). faces (public_side s q)) (told-last e es)
      ∙ ap (λ (q : Public). faces (public_side s q)) (switch-hears (who_in s g) place (member_in s g).level (health_in s g) p) ∙ ap faces (on-own s h p) in
      let same = out-members s s place f in
      subst (Counted i G (place_of s g) (members_of s g)) (sym is) (record {
        placed = ap (λ (z : Faces). z.place) (comes-faces (who_in s g).species place (member_in s g).level (health_in s g) x low six) ∙ sym (out-place s place f);
        few = subst (λ (ms : List Member). length ms ≤ 6) (sym same) few;
        is = loose (place_of s f) (place_of s g) (moves_at i (members_of s g)) (seen_moves i (faces (h x)))
            (subst (λ (ms : List Member). G (place_of s f) (moves_at i ms) (seen_moves i (faces (h x)))) (sym same)
            (subst (G (place_of s f) (moves_at i (members_of s f))) (sym (comes-moves i (who_in s g).species place (member_in s g).level (health_in s g) x low six
            ∙ ap (seen_moves i) (settled-faces e s (told_by es)))) m.is));
      })

  comes-counts : (σ s : Side) → (σ ≡ s) ⊎ Against σ s → (place : ℕ) (f : Field) (es : List Event) → 1 ≤ place → place ≤ length (party s f).members → Counts σ i G f es
      → Counts σ i G (sent s place f) (es ++ switch_event s place (sent s place f) ∷ [])
  comes-counts σ s (inl e) place f es low high m =
      subst (λ (u : Side). Counts u i G (sent s place f) (es ++ switch_event s place (sent s place f) ∷ [])) (sym e) (own-comes s place f es low high (subst (λ (u : Side). Counts u i G f es) e m))
  comes-counts σ s (inr a) place f es low high m =
      let g : Field = sent s place f in
      let h : PublicSide → PublicSide = comes_out (who_in s g).species place (member_in s g).level (health_in s g) in
      heard (next-faces σ (switch_event s place g) (λ p. ap (λ (q : Public). faces (public_side σ q)) (switch-hears (who_in s g) place (member_in s g).level (health_in s g) p)
      ∙ ap faces (on-far σ s a h p)) es)
      (moved (far-place σ s a place f) (ap length (out-members σ s place f)) (ap (moves_at i) (out-members σ s place f)) m)

  pub counting-switches : (σ : Side) → Switching (counting σ i G)
  unfolding counting
  counting-switches σ = record {
    sends = λ s place f es low high m. comes-counts σ s (sides σ s) place f es low high m;
    loose_sends = λ s place f es low high m. comes-counts σ s (sides σ s) place f es low high m;
  }

-- Uses and PP

-- Uses of the move m. A free slot has none.
pub record Tally (m n : ℕ) (k : SeenMove) : Type 0 where
  pub uses : k.id ≡ m → k.uses ≤ n
  pub free : k.id ≡ 0 → k.uses ≡ 0

abbrev pub Tallied : ℕ → ℕ → List SeenMove → Type 0
Tallied m n seen = (l : ℕ) → Tally m n (get_or seen l not_used)

pub tallied-more : (m n k : ℕ) (seen : List SeenMove) → n ≤ k → Tallied m n seen → Tallied m k seen
tallied-more m n k seen low h l = record { uses = λ e. let u = (h l).uses e in omega (arith, low, u); free = (h l).free }

either-slot : (n : ℕ) (k : SeenMove) → is_slot n k ≡ true → (k.id ≡ n) ⊎ (k.id ≡ 0)
either-slot n k e = by (eqb_tells k.id n)
  where
    free : (((k.id == 0) ≡ true) × (k.id ≡ 0)) ⊎ (((k.id == 0) ≡ false) × (k.id ≢ 0)) → (k.id == n) ≡ false → (k.id ≡ n) ⊎ (k.id ≡ 0)
    free (inl z) e0 = inr z.1
    free (inr z) e0 = absurd (true≢false (sym e ∙ ap (λ (b : Bool). b || k.id == 0) e0 ∙ z.0))

    by : (((k.id == n) ≡ true) × (k.id ≡ n)) ⊎ (((k.id == n) ≡ false) × (k.id ≢ n)) → (k.id ≡ n) ⊎ (k.id ≡ 0)
    by (inl z) = inl z.1
    by (inr z) = free (eqb_tells k.id 0) z.0

-- A slot to which more uses of n are added
used-tally : (m n a b more : ℕ) (k : SeenMove) → n ≢ 0 → (k.id ≡ n) ⊎ (k.id ≡ 0) → (n ≡ m → a + more ≤ b) → a ≤ b → Tally m a k → Tally m b (record { id = n; uses = min 255 (k.uses + more) })
used-tally m n a b more k z at h low t = record { uses = λ e. by e at; free = λ e. absurd (z e) }
  where
    by : n ≡ m → (k.id ≡ n) ⊎ (k.id ≡ 0) → min 255 (k.uses + more) ≤ b
    by e (inl x) = let u = t.uses (x ∙ e) in let c = min-le_right 255 (k.uses + more) in let s = h e in omega (arith, u, c, s)
    by e (inr x) = let u = t.free x in let c = min-le_right 255 (k.uses + more) in let s = h e in omega (arith, u, c, s)

used-in : (m n a b more : ℕ) (o : Option ℕ) (seen : List SeenMove) → position (is_slot n) seen ≡ o → n ≢ 0 → (n ≡ m → a + more ≤ b) → a ≤ b → Tallied m a seen → Tallied m b (used_in more o n seen)
used-in m n a b more None seen e z h low t l = tallied-more m a b seen low t l
used-in m n a b more (Some k) seen e z h low t l = set-at (Tally m b) seen k l (record { id = n; uses = min 255 ((slice_index_or seen k not_used).uses + more) }) not_used
    (λ same. used-tally m n a b more (slice_index_or seen k not_used) z (either-slot n (slice_index_or seen k not_used) (position-Some (is_slot n) seen k not_used e).1) h low (t k))
    (tallied-more m a b seen low t l)

pub tallied-used : (m n a b more : ℕ) (seen : List SeenMove) → n ≢ 0 → (n ≡ m → a + more ≤ b) → a ≤ b → Tallied m a seen → Tallied m b (used_more more n seen)
tallied-used m n a b more seen z h low t = used-in m n a b more (position (is_slot n) seen) seen refl z h low t

-- One slot of a member: with index j, for the move m, that had P PP and u uses before the action. The member knows moves with these numbers.

abbrev pub id_of : KnownMove → ℕ
id_of k = k.id

abbrev pub pp_at : ℕ → List KnownMove → ℕ
pp_at j known = (get_or known j nothing_known).pp

abbrev pub less : ℕ → ℕ
less pp = if pp == 0 then 63 else pp - 1

pub record Kept (ids : List ℕ) (j m pp u : ℕ) (place : ℕ) (known : List KnownMove) (seen : List SeenMove) : Type 0 where
  pub same : map id_of known ≡ ids
  pub left : pp_at j known ≡ pp
  pub uses : Tallied m u seen

-- PP spent, and a use that may have been counted.
pub record Spent (ids : List ℕ) (j m pp u : ℕ) (place : ℕ) (known : List KnownMove) (seen : List SeenMove) : Type 0 where
  pub same : map id_of known ≡ ids
  pub left : pp_at j known ≡ less pp
  pub uses : Tallied m (u + 1) seen

abbrev pub Either : List ℕ → ℕ → ℕ → ℕ → ℕ → About
Either ids j m pp u place known seen = Kept ids j m pp u place known seen ⊎ Spent ids j m pp u place known seen

-- A use of the move n, by the member at the place with index i, is still to be counted.
pub record Owes (ids : List ℕ) (j m pp u i n : ℕ) (place : ℕ) (known : List KnownMove) (seen : List SeenMove) : Type 0 where
  pub same : map id_of known ≡ ids
  pub left : ((pp_at j known ≡ pp) × (place - 1 ≡ i → n ≢ m)) ⊎ (pp_at j known ≡ less pp)
  pub uses : Tallied m u seen

module _ {ids : List ℕ} {j m pp u : ℕ} {place : ℕ} {known : List KnownMove} {seen : List SeenMove} where
  pub kept-used : (n : ℕ) → n ≢ 0 → Kept ids j m pp u place known seen → Kept ids j m pp u place known (used_more 0 n seen)
  kept-used n z k = record { same = k.same; left = k.left; uses = tallied-used m n u u 0 seen z (λ e. omega arith) (omega arith) k.uses }

  pub owes-either : (i n : ℕ) → Owes ids j m pp u i n place known seen → Either ids j m pp u place known seen
  owes-either i n k = by k.left
    where
      by : ((pp_at j known ≡ pp) × (place - 1 ≡ i → n ≢ m)) ⊎ (pp_at j known ≡ less pp) → Either ids j m pp u place known seen
      by (inl e) = inl (record { same = k.same; left = e.0; uses = k.uses })
      by (inr e) = inr (record { same = k.same; left = e; uses = tallied-more m u (u + 1) seen (omega arith) k.uses })

  pub owes-used : (i n more : ℕ) → n ≢ 0 → more ≤ 1 → place - 1 ≡ i → Owes ids j m pp u i n place known seen → Either ids j m pp u place known (used_more more n seen)
  owes-used i n more z few at k = by k.left
    where
      by : ((pp_at j known ≡ pp) × (place - 1 ≡ i → n ≢ m)) ⊎ (pp_at j known ≡ less pp) → Either ids j m pp u place known (used_more more n seen)
      by (inl e) = inl (record { same = k.same; left = e.0; uses = tallied-used m n u u more seen z (λ s. absurd (e.1 at s)) (omega arith) k.uses })
      by (inr e) = inr (record { same = k.same; left = e; uses = tallied-used m n u (u + 1) more seen z (λ s. omega (arith, few)) (omega arith) k.uses })

-- What is constant: the move in the slot, which is in no other slot.
pub record IsSlotOf (ids : List ℕ) (j m : ℕ) : Type 0 where
  pub at : get_or ids j 0 ≡ m
  pub apart : (k : ℕ) → k ≢ j → get_or ids k 0 ≢ m
  pub some : m ≢ 0
  pub not_struggle : m ≢ struggle

named-at : (ids : List ℕ) (known : List KnownMove) (k : ℕ) → map id_of known ≡ ids → (get_or known k nothing_known).id ≡ get_or ids k 0
named-at ids known k e = sym (get_or-map id_of known k nothing_known) ∙ ap (λ (l : List ℕ). get_or l k 0) e

pub known-slot : (known : List KnownMove) (k : ℕ) → (get_or known k nothing_known).id ≢ 0 → k < length known
known-slot [] k h = absurd (h refl)
known-slot (x ∷ xs) zero h = omega arith
known-slot (x ∷ xs) (suc k) h = let low = known-slot xs k h in omega (arith, low)

module _ {ids : List ℕ} {j m pp u : ℕ} (slot : IsSlotOf ids j m) {place : ℕ} {known : List KnownMove} {seen : List SeenMove} where
  -- PP of another member is spent.
  pub kept-owes : (i n : ℕ) → place - 1 ≢ i → Kept ids j m pp u place known seen → Owes ids j m pp u i n place known seen
  kept-owes i n away k = record { same = k.same; left = inl (k.left, λ e. absurd (away e)); uses = k.uses }

  spends-slot : (i n k : ℕ) → (get_or known k nothing_known).id ≡ n → (((k == j) ≡ true) × (k ≡ j)) ⊎ (((k == j) ≡ false) × (k ≢ j)) → Kept ids j m pp u place known seen
      → Owes ids j m pp u i n place (slice_set known k (with_less_pp (get_or known k nothing_known))) seen
  spends-slot i n k e (inl is) h = record {
    same = map-set_same id_of known k (with_less_pp (get_or known k nothing_known)) nothing_known refl ∙ h.same;
    left = inr (ap (λ (l : ℕ). pp_at l (slice_set known k (with_less_pp (get_or known k nothing_known)))) (sym is.1)
        ∙ ap (λ (x : KnownMove). x.pp) (get_or-set_same known k (with_less_pp (get_or known k nothing_known)) nothing_known
        (known-slot known k (λ z. slot.some (sym slot.at ∙ ap (λ (l : ℕ). get_or ids l 0) (sym is.1) ∙ sym (named-at ids known k h.same) ∙ z))))
        ∙ ap (λ (l : ℕ). less (pp_at l known)) is.1 ∙ ap less h.left);
    uses = h.uses;
  }
  spends-slot i n k e (inr other) h = record {
    same = map-set_same id_of known k (with_less_pp (get_or known k nothing_known)) nothing_known refl ∙ h.same;
    left = inl (
      ap (λ (x : KnownMove). x.pp) (get_or-set_other known k j (with_less_pp (get_or known k nothing_known)) nothing_known (λ z. other.1 (sym z))) ∙ h.left,
      λ at z. slot.apart k other.1 (sym (named-at ids known k h.same) ∙ e ∙ z),
    );
    uses = h.uses;
  }

  -- PP of this one.
  pub spends-own : (i n : ℕ) (used : UsedMove) → number_in used known ≡ n → Kept ids j m pp u place known seen → Owes ids j m pp u i n place (after_use used known) seen
  spends-own i n Nothing e h = record { same = h.same; left = inl (h.left, λ at z. slot.some (sym z ∙ sym e)); uses = h.uses }
  spends-own i n Struggle e h = record { same = h.same; left = inl (h.left, λ at z. slot.not_struggle (sym z ∙ sym e)); uses = h.uses }
  spends-own i n (Slot k) e h = spends-slot i n (k - 1) e (eqb_tells (k - 1) j) h
