-- What the log shows of a member that has appeared is what no battle changes of the member at its place.
use Rattle.std.proofs.Common.{[], All, Bool, List, None, Option, Some, ap, arith, false, get_or, get_or-set_same, if◌then◌else◌, inl, inr, length, map, nat_le, not, refl, replicate, slice_index_or, slice_set, subst, suc, sym, true, true≢false, zero, ℕ, ◌&&◌, ◌+◌, ◌-◌, ◌<◌, ◌==◌, ◌∙◌, ◌∷◌, ◌≡◌, ◌≢◌, ◌≤◌, ◌⊎◌, ◌||◌}
use Rattle.std.proofs.lemmas.Bool.{le-leb}
use Rattle.std.proofs.lemmas.Bool.Decides.{eqb_tells}
use Rattle.std.proofs.lemmas.List.{get_or-set_other, length-map, map-set}
use Rattle.std.proofs.Math.ListN.{get_or-map}
use Rattle.std.proofs.Math.Seq.{map-set_same}
use Rattle.gen1_tables.specs.Effects.{bides}
use Rattle.gen1_tables.specs.Moves.{move_row, move_rows, struggle, MoveRow}
use Rattle.gen1_tables.specs.Types.{any}
use Rattle.gen1_stats.specs.declared.member.KnownMove.{KnownMove}
use Rattle.gen1_stats.specs.Members.{nobody, nothing_known, Member}
use Rattle.gen1_machine.specs.declared.side.Side.{Side}
use Rattle.gen1_machine.specs.declared.side.Side.TheVariants.{One, Two}
use Rattle.gen1_machine.specs.declared.event.Volatile.{Volatile}
use Rattle.gen1_machine.specs.declared.event.Volatile.TheVariants as volatiles
use Rattle.gen1_machine.specs.declared.event.Event.{Event}
use Rattle.gen1_machine.specs.declared.event.Event.TheVariants as events
use Rattle.gen1_machine.specs.declared.side.UsedMove.{UsedMove}
use Rattle.gen1_machine.specs.declared.side.UsedMove.TheVariants.{Nothing, Slot, Struggle}
use Rattle.gen1_machine.specs.declared.event.Who.{Who}
use Rattle.gen1_machine.specs.Health.{Health}
use Rattle.gen1_machine.specs.Conditions.{ActiveConditions}
use Rattle.gen1_machine.specs.LogBytes.{kind_or_0}
use Rattle.gen1_machine.specs.Moves.{move_at}
use Rattle.gen1_machine.specs.Picks.{number_in}
use Rattle.gen1_machine.specs.Sides.{other}
use Rattle.gen1_player.specs.declared.public.Public.{Public}
use Rattle.gen1_player.specs.declared.public_side.PublicSide.{PublicSide}
use Rattle.gen1_player.specs.declared.seen.Seen.{Seen}
use Rattle.gen1_player.specs.declared.seen.SeenMove.{SeenMove}
use Rattle.gen1_player.specs.Public.{activates, begins, bide, comes_out, ends_recharging, gets_status, has_fainted, is_afflicted, is_cleared, is_cured, is_kept, is_overtaken, not_seen, not_used, on_announced, on_out, on_seen, public_side, recharges_unless, seen_at, set_volatile, settled, sleeps_on, suffers_move, takes_damage, takes_in, takes_types, used_in, uses_again}
use Rattle.gen1_player.specs.True.{IsMoveOf, IsSeen}
use Rattle.gen1_player.proofs.Facts.{side_out, is_noise, traits, Starts, Traits}
use Rattle.gen1_player.proofs.HeardSides.{quiet-side, same-sides, settled-look}

-- What shows of members besides HP and status

pub record Face : Type 0 where
  pub species : ℕ
  pub level : ℕ
  pub max : ℕ
  pub moves : List SeenMove

abbrev pub face : Seen → Face
face s = record { species = s.species; level = s.level; max = s.max; moves = s.moves }

abbrev pub no_face : Face
no_face = face not_seen

pub record Faces : Type 0 where
  pub place : ℕ
  pub last_move : ℕ
  pub members : List Face

abbrev pub faces : PublicSide → Faces
faces x = record { place = x.place; last_move = x.last_move; members = map face x.members }

-- Most events say nothing of it

seen-faces : (g : Seen → Seen) → ((s : Seen) → face (g s) ≡ face s) → (x : PublicSide) → faces (on_seen g x) ≡ faces x
seen-faces g h x = ap (λ (l : List Face). record (faces x) { members = l }) (map-set_same face x.members (x.place - 1) (g (seen_at x.place x)) not_seen (h (seen_at x.place x)))

suffers-faces : (b : Bool) (x : PublicSide) → faces (recharges_unless b x) ≡ faces x
suffers-faces true x = refl
suffers-faces false x = refl

pub settled-faces : (e : Event) (u : Side) (p : Public) → faces (public_side u (settled e p)) ≡ faces (public_side u p)
settled-faces e u p = settled-look faces e u p (λ x. refl)

pub noise-faces : (e : Event) → is_noise e ≡ true → (u : Side) (p : Public) → faces (public_side u (takes_in e p)) ≡ faces (public_side u p)
unfolding takes_in
noise-faces (events.Turn i) h u p = same-sides faces u (record p { turn = i }) p refl refl
noise-faces (events.Switch w place level k) h u p = absurd (true≢false (sym h))
noise-faces (events.Move w move foe) h u p = absurd (true≢false (sym h))
noise-faces (events.Cant w why) h u p = quiet-side faces w.side u (is_kept why) p (λ x. seen-faces (sleeps_on why) (λ s. refl) x)
noise-faces (events.Damage w k source) h u p = quiet-side faces w.side u (λ x. takes_damage source (on_seen (λ m. record m { hp = k.hp }) x)) p
    (λ x. seen-faces (λ m. record m { hp = k.hp }) (λ s. refl) x)
noise-faces (events.Heal w k) h u p = quiet-side faces w.side u (on_seen (λ m. record m { hp = k.hp })) p (λ x. seen-faces (λ m. record m { hp = k.hp }) (λ s. refl) x)
noise-faces (events.Status w kind) h u p = quiet-side faces w.side u
    (λ x. on_announced (gets_status kind (public_side (other w.side) p).last_move) (on_seen (is_afflicted kind) x)) p
    (λ x. seen-faces (is_afflicted kind) (λ s. refl) x)
noise-faces (events.Cure w kind) h u p = quiet-side faces w.side u (on_seen is_cured) p (λ x. seen-faces is_cured (λ s. refl) x)
noise-faces (events.Faint w) h u p = quiet-side faces w.side u (on_seen has_fainted) p (λ x. seen-faces has_fainted (λ s. refl) x)
noise-faces (events.Boost w stat i) h u p = quiet-side faces w.side u _ p (λ x. refl)
noise-faces (events.Unboost w stat i) h u p = quiet-side faces w.side u _ p (λ x. refl)
noise-faces events.ClearAll h u p = absurd (true≢false (sym h))
noise-faces (events.Start w what) h u p = absurd (true≢false (sym h))
noise-faces (events.End w what) h u p = absurd (true≢false (sym h))
noise-faces (events.Prepare w move) h u p = absurd (true≢false (sym h))
noise-faces (events.Activate w what) h u p = same-sides faces u (activates w.side what p) p refl refl
noise-faces (events.MustRecharge w) h u p = absurd (true≢false (sym h))
noise-faces (events.Win s) h u p = same-sides faces u (takes_in (events.Win s) p) p refl refl
noise-faces events.Tie h u p = same-sides faces u (takes_in events.Tie p) p refl refl
noise-faces (events.Fault i) h u p = same-sides faces u (takes_in (events.Fault i) p) p refl refl
noise-faces _ h u p = refl

pub rest-faces : (w : Who) (u : Side) (p : Public) → faces (public_side u (takes_in (events.MustRecharge w) p)) ≡ faces (public_side u p)
unfolding takes_in
rest-faces w u p = quiet-side faces w.side u (on_announced (λ a. record a { recharging = 1 })) p (λ x. refl)

-- Bide shows a use as it starts.
abbrev pub is_bide : Volatile → Bool
is_bide volatiles.Bide = true
is_bide _ = false

pub starts-otherwise : (what : Volatile) (change : ActiveConditions → ActiveConditions) → Starts what change → is_bide what ≡ false
starts-otherwise volatiles.Bide change h = absurd h
starts-otherwise _ change h = refl

pub start-faces : (s : Side) (what : Volatile) → is_bide what ≡ false → (u : Side) (p : Public) → faces (public_side u (begins s what p)) ≡ faces (public_side u p)
start-faces s volatiles.TypeChange h u p = quiet-side faces s u (takes_types (public_side (other s) p)) p (λ x. refl)
start-faces s volatiles.Mist h u p = quiet-side faces s u (on_announced (set_volatile volatiles.Mist 1)) p (λ x. refl)
start-faces s volatiles.FocusEnergy h u p = quiet-side faces s u (on_announced (set_volatile volatiles.FocusEnergy 1)) p (λ x. refl)
start-faces s volatiles.Disable h u p = quiet-side faces s u (on_announced (set_volatile volatiles.Disable 1)) p (λ x. refl)
start-faces s volatiles.Rage h u p = quiet-side faces s u (on_announced (set_volatile volatiles.Rage 1)) p (λ x. refl)
start-faces s volatiles.LeechSeed h u p = quiet-side faces s u (on_announced (set_volatile volatiles.LeechSeed 1)) p (λ x. refl)
start-faces s volatiles.Confusion h u p = quiet-side faces s u (on_announced (set_volatile volatiles.Confusion 1)) p (λ x. refl)
start-faces s volatiles.Bide h u p = absurd (true≢false h)
start-faces s volatiles.Substitute h u p = quiet-side faces s u (on_announced (set_volatile volatiles.Substitute 1)) p (λ x. refl)
start-faces s volatiles.LightScreen h u p = quiet-side faces s u (on_announced (set_volatile volatiles.LightScreen 1)) p (λ x. refl)
start-faces s volatiles.Reflect h u p = quiet-side faces s u (on_announced (set_volatile volatiles.Reflect 1)) p (λ x. refl)
start-faces s volatiles.Trapped h u p = quiet-side faces s u (on_announced (set_volatile volatiles.Trapped 1)) p (λ x. refl)
start-faces s volatiles.Splash h u p = quiet-side faces s u (on_announced (set_volatile volatiles.Splash 1)) p (λ x. refl)

pub end-faces : (s : Side) (what : Volatile) (u : Side) (p : Public) → faces (public_side u (on_out s (on_announced (set_volatile what 0)) p)) ≡ faces (public_side u p)
end-faces s what u p = quiet-side faces s u (on_announced (set_volatile what 0)) p (λ x. refl)

pub clear-faces : (u : Side) (p : Public) → faces (public_side u (on_out Two is_cleared (on_out One is_cleared p))) ≡ faces (public_side u p)
clear-faces u p = quiet-side faces Two u is_cleared (on_out One is_cleared p) (λ x. refl) ∙ quiet-side faces One u is_cleared p (λ x. refl)

pub suffers-same : (s u : Side) (move : ℕ) (p : Public) → faces (public_side u (on_out s (suffers_move move) p)) ≡ faces (public_side u p)
suffers-same s u move p = quiet-side faces s u (suffers_move move) p
    (λ x. suffers-faces (ends_recharging (move_at move).effect) (on_seen is_overtaken x) ∙ seen-faces is_overtaken (λ z. refl) x)

-- A member and what shows of it

-- A move that a member with these moves may be seen to use, or none.
abbrev pub Allowed : List ℕ → ℕ → Type 0
Allowed ids id = id ≢ 0 → (id ≡ struggle) ⊎ (any (λ (j : ℕ). j == id) ids ≡ true)

abbrev pub AllAllowed : List ℕ → List SeenMove → Type 0
AllAllowed ids slots = (i : ℕ) → Allowed ids (get_or slots i not_used).id

abbrev pub no_traits : Traits
no_traits = traits nobody

pub record Shows (s : Face) (q : Traits) : Type 0 where
  pub is : s.species ≢ 0 → (s.species ≡ q.species) × (s.level ≡ q.level) × (s.max ≡ q.max)
  pub moves : AllAllowed q.moves s.moves

abbrev pub AllShow : List Face → List Traits → Type 0
AllShow ss qs = (i : ℕ) → Shows (get_or ss i no_face) (get_or qs i no_traits)

not_used-allowed : (ids : List ℕ) (k i : ℕ) → Allowed ids (get_or (replicate k not_used) i not_used).id
not_used-allowed ids zero i e = absurd (e refl)
not_used-allowed ids (suc k) zero e = absurd (e refl)
not_used-allowed ids (suc k) (suc i) e = not_used-allowed ids k i e

no_face-shows : (q : Traits) → Shows no_face q
no_face-shows q = record { is = λ e. absurd (e refl); moves = λ i. not_used-allowed q.moves 5 i }

pub none-show : (k : ℕ) (qs : List Traits) → AllShow (replicate k no_face) qs
none-show zero qs i = no_face-shows _
none-show (suc k) qs zero = no_face-shows _
none-show (suc k) [] (suc i) = none-show k [] i
none-show (suc k) (q ∷ qs) (suc i) = none-show k qs i

pub set-shows : (ss : List Face) (qs : List Traits) (i : ℕ) (s : Face) → i < length ss → Shows s (get_or qs i no_traits) → AllShow ss qs → AllShow (slice_set ss i s) qs
set-shows ss qs i s low h all j = by (eqb_tells j i)
  where
    by : (((j == i) ≡ true) × (j ≡ i)) ⊎ (((j == i) ≡ false) × (j ≢ i)) → Shows (get_or (slice_set ss i s) j no_face) (get_or qs j no_traits)
    by (inl e) = subst (λ (l : ℕ). Shows (get_or (slice_set ss i s) l no_face) (get_or qs l no_traits)) (sym e.1)
        (subst (λ (x : Face). Shows x (get_or qs i no_traits)) (sym (get_or-set_same ss i s no_face low)) h)
    by (inr e) = subst (λ (x : Face). Shows x (get_or qs j no_traits)) (sym (get_or-set_other ss i j s no_face e.1)) (all j)

-- More uses of a move

set-allowed : (ids : List ℕ) (slots : List SeenMove) (i : ℕ) (m : SeenMove) → Allowed ids m.id → AllAllowed ids slots → AllAllowed ids (slice_set slots i m)
set-allowed ids [] i m h all j = all j
set-allowed ids (x ∷ xs) zero m h all zero = h
set-allowed ids (x ∷ xs) zero m h all (suc j) = all (suc j)
set-allowed ids (x ∷ xs) (suc i) m h all zero = all zero
set-allowed ids (x ∷ xs) (suc i) m h all (suc j) = set-allowed ids xs i m h (λ l. all (suc l)) j

used-allowed : (ids : List ℕ) (more : ℕ) (o : Option ℕ) (move : ℕ) (slots : List SeenMove) → Allowed ids move → AllAllowed ids slots → AllAllowed ids (used_in more o move slots)
used-allowed ids more None move slots h all = all
used-allowed ids more (Some k) move slots h all = set-allowed ids slots k _ h all

abbrev pub shows_use : ℕ → ℕ → PublicSide → PublicSide
shows_use more move x = on_seen (uses_again more move) (record x { last_move = move })

pub uses-shows : (more move : ℕ) (x : PublicSide) (qs : List Traits) → 1 ≤ x.place → x.place ≤ length x.members → Allowed (get_or qs (x.place - 1) no_traits).moves move
    → AllShow (map face x.members) qs → AllShow (map face (shows_use more move x).members) qs
uses-shows more move x qs low high h all =
    let i = x.place - 1 in
    let old : Seen = seen_at x.place x in
    let at : get_or (map face x.members) i no_face ≡ face old = get_or-map face x.members i not_seen in
    let was : Shows (face old) (get_or qs i no_traits) = subst (λ (s : Face). Shows s (get_or qs i no_traits)) at (all i) in
    let counted : length (map face x.members) ≡ length x.members = length-map x.members face in
    subst (λ (l : List Face). AllShow l qs) (sym (map-set face x.members i (uses_again more move old)))
    (set-shows (map face x.members) qs i (face (uses_again more move old)) (omega (arith, counted, low, high))
    (record { is = was.is; moves = used-allowed (get_or qs i no_traits).moves more _ move old.moves h was.moves }) all)

-- Only Bide stores energy.

abbrev only_bide : ℕ → List MoveRow → Bool
only_bide i [] = true
only_bide i (row ∷ rows) = (not (bides row.effect) || i == 116) && only_bide (i + 1) rows

and-first : (a b : Bool) → (a && b) ≡ true → a ≡ true
and-first true b e = refl
and-first false b e = e

and-rest : (a b : Bool) → (a && b) ≡ true → b ≡ true
and-rest true b e = e
and-rest false b e = absurd (true≢false (sym e))

is-number : (c : Bool) (i : ℕ) → c ≡ true → (not c || i == 116) ≡ true → i ≡ 116
is-number false i e h = absurd (true≢false (sym e))
is-number true i e h = by (eqb_tells i 116)
  where
    by : (((i == 116) ≡ true) × (i ≡ 116)) ⊎ (((i == 116) ≡ false) × (i ≢ 116)) → i ≡ 116
    by (inl x) = x.1
    by (inr x) = absurd (true≢false (sym h ∙ x.0))

row-number : (rows : List MoveRow) (i j : ℕ) (d : MoveRow) → only_bide i rows ≡ true → bides d.effect ≡ false → bides (slice_index_or rows j d).effect ≡ true → i + j ≡ 116
row-number [] i j d h n e = absurd (true≢false (sym e ∙ n))
row-number (row ∷ rows) i zero d h n e = let same = is-number (bides row.effect) i e (and-first _ _ h) in omega (arith, same)
row-number (row ∷ rows) i (suc j) d h n e = let rest = row-number rows (i + 1) j d (and-rest (not (bides row.effect) || i == 116) _ h) n e in omega (arith, rest)

only-one : only_bide 0 move_rows ≡ true
unfolding move_rows
only-one = refl

pub bide-number : (n : ℕ) → bides (move_at n).effect ≡ true → n ≡ bide
unfolding move_row
bide-number n h = let at = row-number move_rows 0 (n - 1) _ only-one refl h in omega (arith, at)

-- A member comes out

and-true : (a b : Bool) → a ≡ true → b ≡ true → (a && b) ≡ true
and-true a b e h = ap (λ (x : Bool). x && b) e ∙ h

abbrev comes_at : ℕ → ℕ → ℕ → Health → PublicSide → Seen
comes_at species place level h x = record (seen_at place x) { species = species; level = level; hp = h.hp; max = h.max; status = kind_or_0 h.kind }

faces-if : (b : Bool) (x y : PublicSide) (z : Faces) → b ≡ true → faces x ≡ z → faces (if b then x else y) ≡ z
faces-if true x y z e h = h
faces-if false x y z e h = absurd (true≢false (sym e))

pub comes-faces : (species place level : ℕ) (h : Health) (x : PublicSide) → 1 ≤ place → place ≤ 6
    → faces (comes_out species place level h x) ≡ record { place = place; last_move = 0; members = map face (slice_set x.members (place - 1) (comes_at species place level h x)) }
comes-faces species place level h x low high = faces-if (nat_le 1 place && nat_le place 6) (side_out species place level h x) x (faces (side_out species place level h x))
    (and-true (nat_le 1 place) (nat_le place 6) (le-leb 1 place low) (le-leb place 6 high)) refl

-- The member that was set last.
pub set-face : (xs : List Seen) (i : ℕ) (s : Seen) → i < length xs → get_or (map face (slice_set xs i s)) i no_face ≡ face s
set-face xs i s low =
    let e : length (map face xs) ≡ length xs = length-map xs face in
    ap (λ (l : List Face). get_or l i no_face) (map-set face xs i s) ∙ get_or-set_same (map face xs) i (face s) no_face (omega (arith, e, low))

pub uses-face : (more move : ℕ) (x : PublicSide) → 1 ≤ x.place → x.place ≤ length x.members
    → (get_or (map face (shows_use more move x).members) (x.place - 1) no_face).species ≡ (get_or (map face x.members) (x.place - 1) no_face).species
uses-face more move x low high =
    let old : Seen = seen_at x.place x in
    ap (λ (s : Face). s.species) (set-face x.members (x.place - 1) (uses_again more move old) (omega (arith, low, high)))
    ∙ sym (ap (λ (s : Face). s.species) (get_or-map face x.members (x.place - 1) not_seen))

pub comes-face : (species place level : ℕ) (h : Health) (x : PublicSide) → 1 ≤ place → place ≤ length x.members
    → (get_or (map face (slice_set x.members (place - 1) (comes_at species place level h x))) (place - 1) no_face).species ≡ species
comes-face species place level h x low high = ap (λ (s : Face). s.species) (set-face x.members (place - 1) (comes_at species place level h x) (omega (arith, low, high)))

pub comes-shows : (m : Member) (place : ℕ) (x : PublicSide) (h : Health) (qs : List Traits) → 1 ≤ place → place ≤ length x.members → h.max ≡ m.max
    → get_or qs (place - 1) no_traits ≡ traits m → AllShow (map face x.members) qs
    → AllShow (map face (slice_set x.members (place - 1) (comes_at m.species place m.level h x))) qs
comes-shows m place x h qs low high e at all =
    let i = place - 1 in
    let old : Seen = seen_at place x in
    let new : Seen = comes_at m.species place m.level h x in
    let was : Shows (face old) (get_or qs i no_traits) = subst (λ (s : Face). Shows s (get_or qs i no_traits)) (get_or-map face x.members i not_seen) (all i) in
    let counted : length (map face x.members) ≡ length x.members = length-map x.members face in
    subst (λ (l : List Face). AllShow l qs) (sym (map-set face x.members i new))
    (set-shows (map face x.members) qs i (face new) (omega (arith, counted, low, high))
    (record {
      is = λ n. (sym (ap (λ (q : Traits). q.species) at), sym (ap (λ (q : Traits). q.level) at), e ∙ sym (ap (λ (q : Traits). q.max) at));
      moves = was.moves;
    }) all)

-- The move that a member uses

same-number : (n : ℕ) → (n == n) ≡ true
same-number n = by (eqb_tells n n)
  where
    by : (((n == n) ≡ true) × (n ≡ n)) ⊎ (((n == n) ≡ false) × (n ≢ n)) → (n == n) ≡ true
    by (inl e) = e.0
    by (inr e) = absurd (e.1 refl)

any-here : (b : Bool) → (true || b) ≡ true
any-here b = refl

any-later : (a b : Bool) → b ≡ true → (a || b) ≡ true
any-later true b e = refl
any-later false b e = e

known-any : (moves : List KnownMove) (i : ℕ) → (get_or moves i nothing_known).id ≢ 0
    → any (λ (j : ℕ). j == (get_or moves i nothing_known).id) (map (λ (k : KnownMove). k.id) moves) ≡ true
known-any [] i e = absurd (e refl)
known-any (m ∷ ms) zero e = ap (λ (b : Bool). b || any (λ (j : ℕ). j == m.id) (map (λ (k : KnownMove). k.id) ms)) (same-number m.id)
known-any (m ∷ ms) (suc i) e = any-later (m.id == (get_or ms i nothing_known).id) _ (known-any ms i e)

pub used-is-allowed : (used : UsedMove) (m : Member) → Allowed (traits m).moves (number_in used m.moves)
used-is-allowed Nothing m e = absurd (e refl)
used-is-allowed Struggle m e = inl refl
used-is-allowed (Slot k) m e = inr (known-any m.moves (k - 1) e)

-- What is said of it

any-ids : (id : ℕ) (moves : List KnownMove) → any (λ (j : ℕ). j == id) (map (λ (k : KnownMove). k.id) moves) ≡ any (λ (k : KnownMove). k.id == id) moves
any-ids id [] = refl
any-ids id (m ∷ ms) = ap (λ (b : Bool). (m.id == id) || b) (any-ids id ms)

pub allowed-is : (m : Member) (id : ℕ) → Allowed (traits m).moves id → IsMoveOf m id
allowed-is m id h e = by (h e)
  where
    by : (id ≡ struggle) ⊎ (any (λ (j : ℕ). j == id) (traits m).moves ≡ true) → (id ≡ struggle) ⊎ (any (λ (k : KnownMove). k.id == id) m.moves ≡ true)
    by (inl x) = inl x
    by (inr x) = inr (sym (any-ids id m.moves) ∙ x)

all-are : (m : Member) (slots : List SeenMove) → AllAllowed (traits m).moves slots → All (λ (k : SeenMove). IsMoveOf m k.id) slots
all-are m [] h k d low = absurd (omega (arith, low))
all-are m (x ∷ xs) h zero d low = allowed-is m x.id (h zero)
all-are m (x ∷ xs) h (suc k) d low = all-are m xs (λ i. h (suc i)) k d (omega (arith, low))

pub shows-seen : (s : Seen) (m : Member) → s.species ≢ 0 → Shows (face s) (traits m) → IsSeen s m
shows-seen s m e h = let i = h.is e in record { species = i.0; level = i.1; max = i.2; moves = all-are m s.moves h.moves }
