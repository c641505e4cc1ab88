-- The roll of a damage and the hit test of its action exchange: the fields that the update leads to have equal probabilities.
use Rattle.std.proofs.Common.{◌≡◌, inl, inr, ℕ, ◌*◌, ◌+◌, ◌==◌, Bool, true, false, Option, None, Some, ap, arith, if◌then◌else◌, refl, sym, ◌∙◌, IsTrue, nat_lt, subst, suc, zero, ◌/◌, ◌<◌, ◌≤◌, ◌⊎◌, nat_le}
use Rattle.gen1_rolls.specs.Streams.{byte_at, first, span, Drawn, IsStream, Stream}
use Rattle.gen1_machine.specs.State.{Field, with_last_damage, Terms}
use Rattle.gen1_machine.specs.Progress.{Progress, choose, draw, draw_until, given, has_missed, on_action, on_conditions, on_field, set_last_damage, set_missed, stay, unless, unless_stopped, ◌▸◌, Action, Phase}
use Rattle.gen1_machine.specs.Laws.{leads_to, sum_over, Done, Draw, IsDealt, IsShare, Search, Tree, count_of, sum_below, drawing_from}
use Rattle.gen1_machine.proofs.Shares.{below-same, below-times, if_so, all-count, below-plus, counted, over-times, share-one, shares_are_probabilities}
use Rattle.gen1_machine.proofs.EqualShares.{shares_depend_on_fields}
use Rattle.std.proofs.lemmas.Bool.{false≢true}
use Rattle.std.proofs.Math.Nat.{mul-div_cancel_left, mul_comm, eq_of_mul-eq-mul_left}
use Rattle.std.proofs.lemmas.Bool.Decides.{nat_tests}
use Rattle.gen1_rolls.proofs.First.{first-exists}
use Rattle.gen1_layout.proofs.Chain.{choose-false, choose-true, then-goes}
use Rattle.gen1_layout.specs.Words.{move_at}
use Rattle.gen1_machine.specs.declared.side.Side.{Side}
use Rattle.gen1_machine.specs.declared.side.Side.TheVariants.{One, Two}
use Rattle.gen1_machine.specs.Action.{keep_accuracy, resume, strike}
use Rattle.gen1_machine.specs.Conditions.{without_trapping}
use Rattle.gen1_machine.specs.Damage.{is_factor, rotated_right_1, times_factor, varied_by, vary}
use Rattle.gen1_machine.specs.HitTest.{base_of, hit_or_miss, hit_test, hits_below, miss, scaled_in, set_tested, settled_hit_in, test_by}
use Rattle.gen1_machine.specs.Moves.{Move}
use Rattle.gen1_machine.specs.Ruling.{Ruling, ruling_of}
use Rattle.gen1_machine.specs.Step.{close_update}
use Rattle.gen1_machine.specs.Turn.{end_turn}
use Rattle.gen1_machine.proofs.Trees.{after-tree, choose-tree, searched, stay-tree, then-tree, tree_rules, HasTree, RulingHasTrees}
use Rattle.gen1_machine.proofs.TreeWalk.{close_update-tree, hit_or_miss-tree, keep_accuracy-tree, late_effect-tree, resume-tree, ruling-tree, strike-tree, vary-tree}
use Rattle.gen1_turn.specs.declared.action.two_parts.Roll.{Roll}
use Rattle.gen1_turn.specs.Action.{late_part}
use Rattle.gen1_turn.specs.TwoParts.{suffering, parts_from_roll, IsRolling}
use Rattle.gen1_outcomes.specs.Listing.{after_test, roll_if_hit, tested_first}
use Rattle.gen1_outcomes.specs.Beginning.{from_damage}
use Rattle.gen1_outcomes.proofs.Shifts.{suffering-tree}

-- Trees that lead to fields of which tests say the same have equal shares for them.
--
-- Each field that a tree leads to is changed to one that says by its turn alone whether the test was passed. What the trees lead to then is
-- the same on each stream.

-- A field that says whether a test was passed, and is else this one.
abbrev marked : Field → Bool → Field
marked f b = record f { turn = if b then 1 else 0 }

abbrev is_marked : Field → Bool
is_marked f = f.turn == 1

-- A tree whose fields say it.
unfoldable all_marked : Field → (Field → Bool) → Tree → Tree
all_marked f passes (Done left) = Done (record left { field = marked f (passes left.field) })
all_marked f passes (Draw next) = Draw (λ b. all_marked f passes (next b))
all_marked f passes (Search test found none) = Search test (λ b. all_marked f passes (found b)) (all_marked f passes none)

marked-told : (f : Field) (b : Bool) → is_marked (marked f b) ≡ b
marked-told f true = refl
marked-told f false = refl

pub dealt-map : {test : ℕ → Bool} {P Q : ℕ → ℕ → ℕ → Type 0} {whole n : ℕ} → ((b w i : ℕ) → P b w i → Q b w i) → IsDealt test P whole n → IsDealt test Q whole n
dealt-map f d = record {
  each = d.each;
  part = d.part;
  equal = d.equal;
  parts = λ b lt is. f b d.each (d.part b) (d.parts b lt is);
  sum = d.sum;
}

share-marked : (f : Field) (passes : Field → Bool) (t : Tree) (whole n : ℕ) → IsShare t passes whole n → IsShare (all_marked f passes t) is_marked whole n
unfolding IsShare all_marked
share-marked f passes (Done left) whole n h = h ∙ ap (λ (b : Bool). if_so b whole) (sym (marked-told f (passes left.field)))
share-marked f passes (Draw next) whole n h = dealt-map (λ b. share-marked f passes (next b)) h
share-marked f passes (Search test found none) whole n (inl (some, h)) = inl (some, dealt-map (λ b. share-marked f passes (found b)) h)
share-marked f passes (Search test found none) whole n (inr (none_passes, h)) = inr (none_passes, share-marked f passes none whole n h)

leads-marked : (f : Field) (passes : Field → Bool) (t : Tree) (s : Stream) (n : ℕ) → (leads_to (all_marked f passes t) s n).field ≡ marked f (passes (leads_to t s n).field)
unfolding leads_to all_marked
leads-marked f passes (Done left) s n = refl
leads-marked f passes (Draw next) s n = leads-marked f passes (next (byte_at s n)) s (n + 1)
leads-marked f passes (Search test found none) s n =
    by (first s n test) (λ m. leads-marked f passes (found (byte_at s m)) s (m + 1)) (leads-marked f passes none s (n + span s))
  where
    by : (o : Option ℕ)
        → ((m : ℕ) → (leads_to (all_marked f passes (found (byte_at s m))) s (m + 1)).field ≡ marked f (passes (leads_to (found (byte_at s m)) s (m + 1)).field))
        → (leads_to (all_marked f passes none) s (n + span s)).field ≡ marked f (passes (leads_to none s (n + span s)).field)
        → (elim o as (λ _. Progress) [ Some m ↦ leads_to (all_marked f passes (found (byte_at s m))) s (m + 1) | None ↦ leads_to (all_marked f passes none) s (n + span s) ]).field
        ≡ marked f (passes (elim o as (λ _. Progress) [ Some m ↦ leads_to (found (byte_at s m)) s (m + 1) | None ↦ leads_to none s (n + span s) ]).field)
    by (Some m) some none = some m
    by None some none = none

-- The trees may have a test each.
pub shares_by_tests : (t u : Tree) (passes test : Field → Bool) (whole share total part : ℕ) → ((s : Stream) → IsStream s → passes (leads_to t s 0).field ≡ test (leads_to u s 0).field)
    → IsShare t passes whole share → IsShare u test total part → share * total ≡ part * whole
shares_by_tests t u passes test whole share total part same h k =
    let f = (leads_to t (Drawn (λ i. 0) 1) 0).field in
    shares_depend_on_fields (all_marked f passes t) (all_marked f test u)
    (λ s is. leads-marked f passes t s 0 ∙ ap (marked f) (same s is) ∙ sym (leads-marked f test u s 0))
    is_marked whole share total part (share-marked f passes t whole share h) (share-marked f test u total part k)

pub shares_by_test : (t u : Tree) (passes : Field → Bool) (whole share total part : ℕ) → ((s : Stream) → IsStream s → passes (leads_to t s 0).field ≡ passes (leads_to u s 0).field)
    → IsShare t passes whole share → IsShare u passes total part → share * total ≡ part * whole
shares_by_test t u passes = shares_by_tests t u passes passes

-- A share of a multiple.
pub over-scaled : (test : ℕ → Bool) (f : ℕ → ℕ) (k : ℕ) → sum_over test (λ b. f b * k) ≡ sum_over test f * k
over-scaled test f k = below-same 256 _ _ (λ b lt. by (test b) (f b)) ∙ below-times 256 (λ b. if_so (test b) (f b)) k
  where
    by : (t : Bool) (x : ℕ) → if_so t (x * k) ≡ if_so t x * k
    by true x = refl
    by false x = omega arith

dealt-times : {test : ℕ → Bool} {P : ℕ → ℕ → ℕ → Type 0} {whole n : ℕ} (k : ℕ) → ((b w i : ℕ) → P b w i → P b (w * k) (i * k))
    → IsDealt test P whole n → IsDealt test P (whole * k) (n * k)
dealt-times {test} {P} {whole} {n} k times d = record {
  each = d.each * k;
  part = λ b. d.part b * k;
  equal = omega (arith, ap (λ (x : ℕ). x * k) d.equal);
  parts = λ b lt is. times b d.each (d.part b) (d.parts b lt is);
  sum = over-scaled test d.part k ∙ ap (λ (x : ℕ). x * k) d.sum;
}

pub share-times : (t : Tree) (passes : Field → Bool) (k whole n : ℕ) → IsShare t passes whole n → IsShare t passes (whole * k) (n * k)
unfolding IsShare
share-times (Done left) passes k whole n h = ap (λ (x : ℕ). x * k) h ∙ by (passes left.field)
  where
    by : (b : Bool) → if_so b whole * k ≡ if_so b (whole * k)
    by true = refl
    by false = omega arith
share-times (Draw next) passes k whole n h = dealt-times k (λ b. share-times (next b) passes k) h
share-times (Search test found none) passes k whole n (inl (some, h)) = inl (some, dealt-times k (λ b. share-times (found b) passes k) h)
share-times (Search test found none) passes k whole n (inr (none_passes, h)) = inr (none_passes, share-times none passes k whole n h)

-- A search, and a test whose miss forgets what was found, in both orders: both trees have equal shares.

-- A test that is settled, or draws a byte and is passed below a limit, with what follows if it is passed and if not.
abbrev pub test_tree : Option Bool → ℕ → Tree → Tree → Tree
test_tree (Some is) limit hit missed = if is then hit else missed
test_tree None limit hit missed = Draw (λ h. if nat_lt h limit then hit else missed)

-- What is searched for, the limit of the test, and what follows a hit by the byte that was found, a miss, and a search that found nothing.
pub record Branches : Type 0 where
  pub seeks : ℕ → Bool
  pub limit : ℕ
  pub hit : ℕ → Tree
  pub missed : Tree
  pub none : Tree

abbrev pub search_first : Option Bool → Branches → Tree
search_first o l = Search l.seeks (λ b. test_tree o l.limit (l.hit b) l.missed) l.none

abbrev pub test_first : Option Bool → Branches → Tree
test_first o l = test_tree o l.limit (Search l.seeks l.hit l.none) l.missed

-- A byte is found.
pub record CanFind (test : ℕ → Bool) : Type 0 where
  pub byte : ℕ
  pub small : byte < 256
  pub meets : IsTrue (test byte)

-- Sums

below-none : (m : ℕ) → sum_below m (λ b. 0) ≡ 0
unfolding sum_below
below-none zero = refl
below-none (suc m) = let before = below-none m in omega (arith, before)

below-swap : (n m : ℕ) (f : ℕ → ℕ → ℕ) → sum_below m (λ b. sum_below n (f b)) ≡ sum_below n (λ h. sum_below m (λ b. f b h))
unfolding sum_below
below-swap zero m f = below-none m
below-swap (suc n) m f =
    below-plus m (λ b. sum_below n (f b)) (λ b. f b n) ∙ ap (λ (x : ℕ). x + sum_below m (λ b. f b n)) (below-swap n m f)

over-swap : (test : ℕ → Bool) (n : ℕ) (f : ℕ → ℕ → ℕ) → sum_over test (λ b. sum_below n (f b)) ≡ sum_below n (λ h. sum_over test (λ b. f b h))
over-swap test n f = below-same 256 _ _ (λ b lt. by (test b) (f b)) ∙ below-swap n 256 (λ b h. if_so (test b) (f b h))
  where
    by : (t : Bool) (g : ℕ → ℕ) → if_so t (sum_below n g) ≡ sum_below n (λ h. if_so t (g h))
    by true g = refl
    by false g = sym (below-none n)

over-same : (test : ℕ → Bool) (f g : ℕ → ℕ) → ((b : ℕ) → b < 256 → IsTrue (test b) → f b ≡ g b) → sum_over test f ≡ sum_over test g
over-same test f g h = below-same 256 _ _ (λ b lt. by b (test b) (h b lt))
  where
    by : (b : ℕ) (t : Bool) → (IsTrue t → f b ≡ g b) → if_so t (f b) ≡ if_so t (g b)
    by b true e = e refl
    by b false e = refl

same-each : (c e f whole : ℕ) → 0 < c → c * e ≡ whole → c * f ≡ whole → e ≡ f
same-each c e f whole some h k = sym (mul-div_cancel_left e some) ∙ ap (λ (x : ℕ). x / c) (h ∙ sym k) ∙ mul-div_cancel_left f some

some-all : 0 < count_of (λ b. true)
some-all = omega (arith, all-count)

regrouped : (a c w e whole : ℕ) → a * w ≡ e → c * e ≡ whole → a * (c * w) ≡ whole
regrouped a c w e whole h k = omega (arith, ap (λ (x : ℕ). c * x) h, k)

-- Shares

-- One tree has the mean of the shares of others: of those by each byte that passes a test.
abbrev HasMean : (ℕ → Bool) → (ℕ → Tree) → Tree → (Field → Bool) → Type 0
HasMean test each mean meets = (w y : ℕ) (x : ℕ → ℕ) → ((b : ℕ) → b < 256 → IsTrue (test b) → IsShare (each b) meets w (x b))
    → IsShare mean meets (count_of test * w) y → sum_over test x ≡ y

mean-search : (test : ℕ → Bool) (each : ℕ → Tree) (none : Tree) (meets : Field → Bool) → CanFind test → HasMean test each (Search test each none) meets
unfolding IsShare
mean-search test each none meets c w y x parts (inl (some, d)) =
    let same : d.each ≡ w = same-each (count_of test) d.each w (count_of test * w) some d.equal refl in
    over-same test x d.part
    (λ b lt is. share-one (each b) meets w (x b) (d.part b) (parts b lt is) (subst (λ (v : ℕ). IsShare (each b) meets v (d.part b)) same (d.parts b lt is)))
    ∙ d.sum
mean-search test each none meets c w y x parts (inr (none_passes, h)) = let few = counted test c.byte c.small c.meets in absurd (omega (arith, few, none_passes))

mean-same : (test : ℕ → Bool) (t : Tree) (meets : Field → Bool) → CanFind test → HasMean test (λ b. t) t meets
mean-same test t meets c w y x parts share =
    let one = parts c.byte c.small c.meets in
    let n = count_of test in
    let all : IsShare t meets (n * w) (x c.byte * n) = subst (λ (v : ℕ). IsShare t meets v (x c.byte * n)) (mul_comm w n) (share-times t meets n w (x c.byte) one) in
    over-same test x (λ b. x c.byte) (λ b lt is. share-one t meets w (x b) (x c.byte) (parts b lt is) one)
    ∙ over-times test (x c.byte) ∙ mul_comm n (x c.byte) ∙ share-one t meets (n * w) (x c.byte * n) y all share

-- Numbers for each byte that passes a test.
chosen : (test : ℕ → Bool) (P : ℕ → (ℕ → ℕ) → Type 0) → ((b : ℕ) → b < 256 → IsTrue (test b) → (f : ℕ → ℕ) × P b f)
    → (g : ℕ → ℕ → ℕ) × ((b : ℕ) → b < 256 → IsTrue (test b) → P b (g b))
chosen test P some = (λ b. (at b).0, λ b. (at b).1)
  where
    less_or : (b : ℕ) → (b < 256) ⊎ (256 ≤ b)
    less_or b = grind arith

    by : (b : ℕ) → (b < 256) ⊎ (256 ≤ b) → (t : Bool) → test b ≡ t → (f : ℕ → ℕ) × (b < 256 → IsTrue (test b) → P b f)
    by b (inl lt) true is = let one = some b lt is in (one.0, λ less met. one.1)
    by b (inl lt) false is = (λ h. 0, λ less met. absurd (false≢true (sym is ∙ met)))
    by b (inr far) t is = (λ h. 0, λ less met. absurd (omega (arith, far, less)))

    at : (b : ℕ) → (f : ℕ → ℕ) × (b < 256 → IsTrue (test b) → P b f)
    at b = by b (less_or b) (test b) refl

-- The shares by each byte of a draw.
record AreParts (next : ℕ → Tree) (meets : Field → Bool) (w n : ℕ) (f : ℕ → ℕ) : Type 0 where
  each : (h : ℕ) → h < 256 → IsShare (next h) meets w (f h)
  sum : sum_below 256 f ≡ n

-- A search and then a draw, or a draw and then a tree with the mean of what the search leads to.
exchanged : (test : ℕ → Bool) (next : ℕ → ℕ → Tree) (mean : ℕ → Tree) (none : Tree) (meets : Field → Bool) → CanFind test
    → ((h : ℕ) → HasMean test (λ b. next b h) (mean h) meets) → (whole x y : ℕ)
    → IsShare (Search test (λ b. Draw (next b)) none) meets whole x → IsShare (Draw mean) meets whole y → x ≡ y
unfolding IsShare
exchanged test next mean none meets c means whole x y (inr (none_passes, h)) k = let few = counted test c.byte c.small c.meets in absurd (omega (arith, few, none_passes))
exchanged test next mean none meets c means whole x y (inl (some, d)) k =
    sym d.sum ∙ over-same test d.part (λ b. sum_below 256 (f b)) (λ b lt is. sym (rows.1 b lt is).sum) ∙ over-swap test 256 f
    ∙ below-same 256 (λ h. sum_over test (λ b. f b h)) k.part
    (λ h less. means h w (k.part h) (λ b. f b h) (λ b lt is. (rows.1 b lt is).each h less)
    (subst (λ (v : ℕ). IsShare (mean h) meets v (k.part h)) each (k.parts h less refl)))
    ∙ k.sum
  where
    one : IsDealt (λ h. true) (λ h. IsShare (next c.byte h) meets) d.each (d.part c.byte)
    one = d.parts c.byte c.small c.meets

    w : ℕ
    w = one.each

    each : k.each ≡ count_of test * w
    each = same-each (count_of (λ b. true)) k.each (count_of test * w) whole some-all k.equal (regrouped (count_of (λ b. true)) (count_of test) w d.each whole one.equal d.equal)

    row : (b : ℕ) → b < 256 → IsTrue (test b) → (g : ℕ → ℕ) × AreParts (next b) meets w (d.part b) g
    row b lt is =
        let e = d.parts b lt is in
        let same : e.each ≡ w = same-each (count_of (λ b. true)) e.each w d.each some-all e.equal one.equal in
        (e.part, record { each = λ h less. subst (λ (v : ℕ). IsShare (next b h) meets v (e.part h)) same (e.parts h less refl); sum = e.sum })

    rows : (g : ℕ → ℕ → ℕ) × ((b : ℕ) → b < 256 → IsTrue (test b) → AreParts (next b) meets w (d.part b) (g b))
    rows = chosen test (λ b g. AreParts (next b) meets w (d.part b) g) row

    f : ℕ → ℕ → ℕ
    f = rows.0

-- A search that is forgotten.
forgotten : (test : ℕ → Bool) (t none : Tree) (meets : Field → Bool) → CanFind test → (whole x y : ℕ) → IsShare (Search test (λ b. t) none) meets whole x → IsShare t meets whole y → x ≡ y
unfolding IsShare
forgotten test t none meets c whole x y (inl (some, d)) k =
    sym d.sum ∙ mean-same test t meets c d.each y d.part d.parts (subst (λ (v : ℕ). IsShare t meets v y) (sym d.equal) k)
forgotten test t none meets c whole x y (inr (none_passes, h)) k = let few = counted test c.byte c.small c.meets in absurd (omega (arith, few, none_passes))

-- Both orders have equal shares of a whole.
pub shares_of_orders : (o : Option Bool) (l : Branches) → CanFind l.seeks → (meets : Field → Bool) (whole x y : ℕ)
    → IsShare (search_first o l) meets whole x → IsShare (test_first o l) meets whole y → x ≡ y
shares_of_orders (Some true) l c meets whole x y h k = share-one (Search l.seeks l.hit l.none) meets whole x y h k
shares_of_orders (Some false) l c meets whole x y h k = forgotten l.seeks l.missed l.none meets c whole x y h k
shares_of_orders None l c meets whole x y h k =
    exchanged l.seeks (λ b h. if nat_lt h l.limit then l.hit b else l.missed) (λ h. if nat_lt h l.limit then Search l.seeks l.hit l.none else l.missed) l.none meets c
    (λ h. by (nat_lt h l.limit)) whole x y h k
  where
    by : (t : Bool) → HasMean l.seeks (λ b. if t then l.hit b else l.missed) (if t then Search l.seeks l.hit l.none else l.missed) meets
    by true = mean-search l.seeks l.hit l.none meets c
    by false = mean-same l.seeks l.missed meets c

-- The hit test

-- A miss, written out.
abbrev pub missed_at : Side → Phase
missed_at s p = on_conditions s without_trapping (set_last_damage 0 (set_missed true p))

miss-is : (s : Side) (p : Progress) → p.stopped ≡ false → miss s p ≡ missed_at s p
unfolding miss set_missed on_action set_last_damage on_field
miss-is s p goes =
    then-goes (set_missed true) (set_last_damage 0 ▸ on_conditions s without_trapping) p goes
    ∙ then-goes (set_last_damage 0) (on_conditions s without_trapping) (set_missed true p) goes

abbrev pub one_of : Side → Bool → Phase
one_of s hits p = if hits then p else missed_at s p

-- The byte that a test notes.
abbrev noted : Option Bool → ℕ → ℕ → ℕ
noted (Some hits) base limit = base
noted None base limit = limit

-- A test by its accuracy, whether it is settled, and its limit if it isn't.
abbrev pub tested_by : Side → ℕ → Option Bool → ℕ → Phase
tested_by s base (Some hits) limit p = one_of s hits (set_tested base p)
tested_by s base None limit p = one_of s (nat_lt (byte_at p.stream p.drawn) limit) (drawing_from p.stream (p.drawn + 1) (set_tested limit p))

abbrev pub limit_at : Side → Move → Progress → ℕ
limit_at s move p = scaled_in s (base_of s move p) p.field

abbrev pub tested_at : Side → Move → Progress → Phase
tested_at s move p = tested_by s (base_of s move p) (settled_hit_in s move p.field) (limit_at s move p)

pub test-is : (s : Side) (move : Move) (p : Progress) → p.stopped ≡ false → hit_or_miss s move p ≡ tested_at s move p p
unfolding hit_or_miss hit_test test_by given set_tested on_action draw hits_below choose stay
test-is s move p goes = by (settled_hit_in s move p.field)
  where
    base : ℕ
    base = base_of s move p

    limit : ℕ
    limit = limit_at s move p

    drawn : Progress
    drawn = drawing_from p.stream (p.drawn + 1) (set_tested limit p)

    below : (t : Bool) → elim t as (λ _. Progress) [ true ↦ drawn | false ↦ miss s drawn ] ≡ one_of s t drawn
    below true = refl
    below false = miss-is s drawn goes

    by : (o : Option Bool) → test_by s base o p ≡ tested_by s base o limit p
    by (Some true) = refl
    by (Some false) = then-goes (set_tested base) (miss s) p goes ∙ miss-is s (set_tested base p) goes
    by None = then-goes (set_tested limit) (draw (hits_below s limit)) p goes ∙ below (nat_lt (byte_at p.stream p.drawn) limit)

-- It doesn't look at the last damage, nor at what is drawn next.
test-other : (s : Side) (move : Move) (d : ℕ) (p : Progress) (stream : Stream) (n : ℕ) → p.stopped ≡ false
    → hit_or_miss s move (set_last_damage d (drawing_from stream n p)) ≡ tested_at s move p (set_last_damage d (drawing_from stream n p))
unfolding set_last_damage on_field with_last_damage
test-other One move d p stream n goes = test-is One move (set_last_damage d (drawing_from stream n p)) goes
test-other Two move d p stream n goes = test-is Two move (set_last_damage d (drawing_from stream n p)) goes

-- With another last damage a hit has that damage, and a miss forgets it.
abbrev pub damaged_if_hit : ℕ → Phase
damaged_if_hit d = unless has_missed (set_last_damage d)

pub tested_other : (s : Side) (move : Move) (d : ℕ) (p : Progress) → p.stopped ≡ false → p.action.missed ≡ false
    → hit_or_miss s move (set_last_damage d p) ≡ damaged_if_hit d (hit_or_miss s move p)
unfolding stay set_last_damage on_field with_last_damage set_tested set_missed on_action on_conditions
tested_other s move d p goes hits = test-other s move d p p.stream p.drawn goes ∙ by (settled_hit_in s move p.field) ∙ ap (damaged_if_hit d) (sym (test-is s move p goes))
  where
    base : ℕ
    base = base_of s move p

    limit : ℕ
    limit = limit_at s move p

    one : (t : Bool) (q : Progress) → q.action.missed ≡ false → one_of s t (set_last_damage d q) ≡ damaged_if_hit d (one_of s t q)
    one true q is = sym (choose-false has_missed stay (set_last_damage d) q is)
    one false q is = sym (choose-true has_missed stay (set_last_damage d) (missed_at s q) refl)

    by : (o : Option Bool) → tested_by s base o limit (set_last_damage d p) ≡ damaged_if_hit d (tested_by s base o limit p)
    by (Some t) = one t (set_tested base p) hits
    by None = one (nat_lt (byte_at p.stream p.drawn) limit) (drawing_from p.stream (p.drawn + 1) (set_tested limit p)) hits

-- Neither the roll nor the test stops

pub vary-stays : (d : ℕ) (p : Progress) → p.stopped ≡ false → (vary d p).stopped ≡ false
unfolding vary choose draw_until varied_by set_last_damage on_field
vary-stays d p goes = by (nat_le d 1) (first p.stream p.drawn is_factor)
  where
    by : (b : Bool) (o : Option ℕ) → (elim b as (λ _. Progress) [
      | true ↦ set_last_damage d p
      | false ↦ elim o as (λ _. Progress) [ Some m ↦ varied_by d (byte_at p.stream m) (record p { drawn = m + 1 }) | None ↦ record p { drawn = p.drawn + span p.stream } ]
    ]).stopped ≡ false
    by true o = goes
    by false (Some m) = goes
    by false None = goes

pub test-stays : (s : Side) (move : Move) (p : Progress) → p.stopped ≡ false → (hit_or_miss s move p).stopped ≡ false
unfolding set_tested set_missed on_action on_conditions set_last_damage on_field
test-stays s move p goes = ap (λ (q : Progress). q.stopped) (test-is s move p goes) ∙ by (settled_hit_in s move p.field)
  where
    one : (t : Bool) (q : Progress) → q.stopped ≡ false → (one_of s t q).stopped ≡ false
    one true q on = on
    one false q on = on

    by : (o : Option Bool) → (tested_by s (base_of s move p) o (limit_at s move p) p).stopped ≡ false
    by (Some t) = one t (set_tested (base_of s move p) p) goes
    by None = one (nat_lt (byte_at p.stream p.drawn) (limit_at s move p)) (drawing_from p.stream (p.drawn + 1) (set_tested (limit_at s move p) p)) goes

-- So the rest of the update is the roll, the test, and what follows.
pub in_order : (s : Side) (roll : Roll) (r : Ruling) (p : Progress) → IsRolling s roll p
    → from_damage s roll r p ≡ after_test s (move_at roll.id) r (hit_or_miss s (move_at roll.id) (vary roll.damage p))
unfolding ◌▸◌
in_order s roll r p at =
    let move = move_at roll.id in
    let rest : Phase = late_part r s move ▸ strike r s move in
    let stays = vary-stays roll.damage p at.going in
    let parts : parts_from_roll r s roll p ≡ rest (hit_or_miss s move (vary roll.damage p)) =
    then-goes (vary roll.damage) (hit_or_miss s move ▸ rest) p stays
    ∙ then-goes (hit_or_miss s move) rest (vary roll.damage p) (test-stays s move (vary roll.damage p) stays)
    in
    ap (λ (q : Progress). close_update r (unless_stopped (suffering s end_turn) (resume (keep_accuracy s q)))) parts

-- Trees

late-tree : (r : Ruling) (s : Side) (move : Move) → RulingHasTrees r → HasTree (late_part r s move)
late-tree r s move ruling = search (tree_rules, late_effect-tree) depth 14

pub after_test-tree : (s : Side) (move : Move) (r : Ruling) → RulingHasTrees r → HasTree (after_test s move r)
after_test-tree s move r ruling =
    after-tree
    (then-tree
    (after-tree (after-tree (then-tree (late-tree r s move ruling) (strike-tree r s move ruling)) (keep_accuracy-tree s)) resume-tree)
    (suffering-tree s))
    (close_update-tree r ruling)

roll_if_hit-tree : (roll : Roll) → HasTree (roll_if_hit roll)
roll_if_hit-tree roll = choose-tree (λ p s n. refl) stay-tree (vary-tree roll.damage)

pub tested_first-tree : (s : Side) (roll : Roll) (r : Ruling) → RulingHasTrees r → HasTree (tested_first s roll r)
tested_first-tree s roll r ruling =
    after-tree (after-tree (hit_or_miss-tree s (move_at roll.id)) (roll_if_hit-tree roll)) (after_test-tree s (move_at roll.id) r ruling)

-- A damage by the byte of its factor.
abbrev pub varied : ℕ → ℕ → ℕ
varied d b = times_factor (rotated_right_1 b) d

-- What follows the roll and the test of a position.
abbrev branches : Side → Roll → Terms → Progress → Branches
branches s roll terms p =
    let move = move_at roll.id in
    let k = after_test-tree s move (ruling_of terms) (ruling-tree terms) in
    let limit = limit_at s move p in
    let q = set_tested (noted (settled_hit_in s move p.field) (base_of s move p) limit) p in
    record { seeks = is_factor; limit = limit; hit = λ b. k.tree (set_last_damage (varied roll.damage b) q); missed = k.tree (missed_at s q); none = Done p }

abbrev settled : Side → Roll → Progress → Option Bool
settled s roll p = settled_hit_in s (move_at roll.id) p.field

some_factor : CanFind is_factor
some_factor = record { byte = 255; small = omega arith; meets = refl }

-- A damage of 2 or more is rolled with the first factor.
pub rolls : (d : ℕ) → nat_le d 1 ≡ false → (p : Progress) (stream : Stream) (n m : ℕ) → first stream n is_factor ≡ Some m
    → vary d (drawing_from stream n p) ≡ set_last_damage (varied d (byte_at stream m)) (drawing_from stream (m + 1) p)
unfolding vary draw_until varied_by
rolls d large p stream n m found =
    choose-false (λ _. nat_le d 1) (set_last_damage d) (draw_until is_factor (varied_by d)) (drawing_from stream n p) large
    ∙ ap (λ (o : Option ℕ). searched o (λ j. set_last_damage (varied d (byte_at stream j)) (drawing_from stream (j + 1) p)) (drawing_from stream (n + span stream) p)) found

search-finds : (found : ℕ → Tree) (none : Tree) (stream : Stream) (n m : ℕ) → first stream n is_factor ≡ Some m
    → leads_to (Search is_factor found none) stream n ≡ leads_to (found (byte_at stream m)) stream (m + 1)
unfolding leads_to
search-finds found none stream n m e = ap (λ (o : Option ℕ). searched o (λ j. leads_to (found (byte_at stream j)) stream (j + 1)) (leads_to none stream (n + span stream))) e

-- What follows the test: a tree for a hit, and the one after a miss.
test-leads : {f : Phase} (k : HasTree f) (after : Phase) (s : Side) (base : ℕ) (o : Option Bool) (limit : ℕ) (p : Progress) → p.action.missed ≡ false
    → (hit : Tree) (stream : Stream) → let q = set_tested (noted o base limit) p in ((n : ℕ) → f (after (drawing_from stream n q)) ≡ leads_to hit stream n)
    → (n : ℕ) → f (unless has_missed after (tested_by s base o limit (drawing_from stream n p))) ≡ leads_to (test_tree o limit hit (k.tree (missed_at s q))) stream n
unfolding leads_to stay set_tested set_missed on_action on_conditions set_last_damage on_field
test-leads {f} k after s base o limit p unmissed hit stream hits n = by o hits
  where
    one : (t : Bool) (q : Progress) → q.action.missed ≡ false → ((n : ℕ) → f (after (drawing_from stream n q)) ≡ leads_to hit stream n) → (m : ℕ)
        → f (unless has_missed after (one_of s t (drawing_from stream m q))) ≡ leads_to (if t then hit else k.tree (missed_at s q)) stream m
    one true q is leads m = ap f (choose-false has_missed stay after (drawing_from stream m q) is) ∙ leads m
    one false q is leads m =
        let missed = missed_at s q in
        ap f (choose-true has_missed stay after (drawing_from stream m missed) refl) ∙ k.leads missed stream m

    by : (o : Option Bool) → let q = set_tested (noted o base limit) p in ((n : ℕ) → f (after (drawing_from stream n q)) ≡ leads_to hit stream n)
        → f (unless has_missed after (tested_by s base o limit (drawing_from stream n p))) ≡ leads_to (test_tree o limit hit (k.tree (missed_at s q))) stream n
    by (Some t) leads = one t (set_tested base p) unmissed leads n
    by None leads = one (nat_lt (byte_at stream n) limit) (set_tested limit p) unmissed leads (n + 1)

-- The machine's order

pub large-damage : (s : Side) (roll : Roll) (p : Progress) → IsRolling s roll p → nat_le roll.damage 1 ≡ false
large-damage s roll p at = let least = at.damage in grind (least, arith, nat_tests)

pub no-miss : (s : Side) (roll : Roll) (p : Progress) → IsRolling s roll p → p.action.missed ≡ false
no-miss s roll p at = ap (λ (a : Action). a.missed) at.action

pub rolling-on : (s : Side) (roll : Roll) (p : Progress) (stream : Stream) (n : ℕ) → IsRolling s roll p → IsRolling s roll (drawing_from stream n p)
rolling-on s roll p stream n at = record { skips = at.skips; going = at.going; action = at.action; usual = at.usual; damage = at.damage }

-- The damage of the factor that was found comes into force if the test hits.
pub rolled_before : (s : Side) (roll : Roll) (r : Ruling) (p : Progress) → IsRolling s roll p → (stream : Stream) (n m : ℕ) → first stream n is_factor ≡ Some m
    → from_damage s roll r (drawing_from stream n p)
    ≡ after_test s (move_at roll.id) r (damaged_if_hit (varied roll.damage (byte_at stream m)) (hit_or_miss s (move_at roll.id) (drawing_from stream (m + 1) p)))
rolled_before s roll r p at stream n m found =
    let move = move_at roll.id in
    in_order s roll r (drawing_from stream n p) (rolling-on s roll p stream n at)
    ∙ ap (λ (q : Progress). after_test s move r (hit_or_miss s move q)) (rolls roll.damage (large-damage s roll p at) p stream n m found)
    ∙ ap (after_test s move r) (tested_other s move (varied roll.damage (byte_at stream m)) (drawing_from stream (m + 1) p) at.going (no-miss s roll p at))

rolled-leads : (s : Side) (roll : Roll) (terms : Terms) (p : Progress) → IsRolling s roll p → (stream : Stream) → IsStream stream → (n : ℕ)
    → from_damage s roll (ruling_of terms) (drawing_from stream n p) ≡ leads_to (search_first (settled s roll p) (branches s roll terms p)) stream n
unfolding set_tested on_action set_last_damage on_field
rolled-leads s roll terms p at stream is n =
    let move = move_at roll.id in
    let r = ruling_of terms in
    let k = after_test-tree s move r (ruling-tree terms) in
    let o = settled s roll p in
    let base = base_of s move p in
    let limit = limit_at s move p in
    let l = branches s roll terms p in
    let place = first-exists stream is n is_factor some_factor.byte some_factor.small some_factor.meets in
    let m = place.0 in
    let d = varied roll.damage (byte_at stream m) in
    let q = set_last_damage d (set_tested (noted o base limit) p) in
    rolled_before s roll r p at stream n m place.1
    ∙ ap (λ (x : Progress). after_test s move r (damaged_if_hit d x)) (test-is s move (drawing_from stream (m + 1) p) at.going)
    ∙ test-leads k (set_last_damage d) s base o limit p (no-miss s roll p at) (k.tree q) stream (λ i. k.leads q stream i) (m + 1)
    ∙ sym (search-finds (λ b. test_tree o l.limit (l.hit b) l.missed) l.none stream n m place.1)

-- The test before the roll

tested-leads : (s : Side) (roll : Roll) (terms : Terms) (p : Progress) → IsRolling s roll p → (stream : Stream) → IsStream stream → (n : ℕ)
    → tested_first s roll (ruling_of terms) (drawing_from stream n p) ≡ leads_to (test_first (settled s roll p) (branches s roll terms p)) stream n
unfolding set_tested on_action set_last_damage on_field
tested-leads s roll terms p at stream is n =
    ap (λ (x : Progress). after_test s move r (roll_if_hit roll x)) (test-is s move (drawing_from stream n p) at.going)
    ∙ test-leads k (vary roll.damage) s base o limit p (no-miss s roll p at) (Search is_factor l.hit l.none) stream hits n
  where
    move : Move
    move = move_at roll.id

    r : Ruling
    r = ruling_of terms

    k : HasTree (after_test s move r)
    k = after_test-tree s move r (ruling-tree terms)

    o : Option Bool
    o = settled s roll p

    base : ℕ
    base = base_of s move p

    limit : ℕ
    limit = limit_at s move p

    l : Branches
    l = branches s roll terms p

    q : Progress
    q = set_tested (noted o base limit) p

    hits : (i : ℕ) → after_test s move r (vary roll.damage (drawing_from stream i q)) ≡ leads_to (Search is_factor l.hit l.none) stream i
    hits i =
        let place = first-exists stream is i is_factor some_factor.byte some_factor.small some_factor.meets in
        let m = place.0 in
        ap (after_test s move r) (rolls roll.damage (large-damage s roll p at) q stream i m place.1)
        ∙ k.leads (set_last_damage (varied roll.damage (byte_at stream m)) q) stream (m + 1)
        ∙ sym (search-finds l.hit l.none stream i m place.1)

-- Shares

-- Two fractions that are equal to a third.
through : (a b c d x w : ℕ) → 0 < w → a * w ≡ x * b → x * d ≡ c * w → a * d ≡ c * b
through a b c d x w some h k =
    eq_of_mul-eq-mul_left w some (a * d) (c * b) (omega (arith, ap (λ (y : ℕ). y * d) h, ap (λ (y : ℕ). y * b) k))

-- Shares of trees that are equal for equal wholes are equal fractions.
fractions : (t u : Tree) (passes : Field → Bool) → ((whole x y : ℕ) → IsShare t passes whole x → IsShare u passes whole y → x ≡ y)
    → (whole share total part : ℕ) → IsShare t passes whole share → IsShare u passes total part → share * total ≡ part * whole
fractions t u passes same whole share total part h k =
    same (whole * total) (share * total) (part * whole) (share-times t passes total whole share h)
    (subst (λ (w : ℕ). IsShare u passes w (part * whole)) (mul_comm total whole) (share-times u passes whole total part k))

-- Trees of both orders have equal shares.
pub exchanged_share : (s : Side) (roll : Roll) (terms : Terms) (p : Progress) → IsRolling s roll p → (t u : Tree)
    → ((stream : Stream) (n : ℕ) → from_damage s roll (ruling_of terms) (drawing_from stream n p) ≡ leads_to t stream n)
    → ((stream : Stream) (n : ℕ) → tested_first s roll (ruling_of terms) (drawing_from stream n p) ≡ leads_to u stream n)
    → (passes : Field → Bool) (whole share total part : ℕ) → IsShare t passes whole share → IsShare u passes total part → share * total ≡ part * whole
exchanged_share s roll terms p at t u rolled tested passes whole share total part h k =
    let o = settled s roll p in
    let l = branches s roll terms p in
    let one = (shares_are_probabilities (search_first o l)).some in
    let other = (shares_are_probabilities (test_first o l)).some in
    let mine = one.1.1 passes in
    let others = other.1.1 passes in
    let first : share * one.0 ≡ mine.0 * whole =
    shares_depend_on_fields t (search_first o l)
    (λ stream is. ap (λ (q : Progress). q.field) (sym (rolled stream 0) ∙ rolled-leads s roll terms p at stream is 0))
    passes whole share one.0 mine.0 h mine.1
    in
    let between : mine.0 * other.0 ≡ others.0 * one.0 =
    fractions (search_first o l) (test_first o l) passes (shares_of_orders o l some_factor passes) one.0 mine.0 other.0 others.0 mine.1 others.1
    in
    let last : others.0 * total ≡ part * other.0 =
    shares_depend_on_fields (test_first o l) u
    (λ stream is. ap (λ (q : Progress). q.field) (sym (tested-leads s roll terms p at stream is 0) ∙ tested stream 0))
    passes other.0 others.0 total part others.1 k
    in
    through share whole part total others.0 other.0 other.1.0 (through share whole others.0 other.0 mine.0 one.0 one.1.0 first between) last
