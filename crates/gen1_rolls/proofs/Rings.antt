-- The draws of a link battle's generator. Any 2,304 of them in a row hold every number.
use Rattle.std.proofs.Common.{◌≡◌, ℕ, zero, suc, ◌+◌, ◌/◌, ◌%◌, ◌<◌, ◌≤◌, List, [], ◌∷◌, ◌++◌, map, take, drop, length, get_or, refl, sym, ap, ◌∙◌, arith, inl, inr, ◌⊎◌, nat_lt, true, false, length-take, length-append, length-drop, subst, ◌-◌, ◌*◌, Bool, IsFalse}
use Rattle.std.proofs.Math.Seq.{take-append_seam, drop-append_seam}
use Rattle.std.proofs.Math.ListN.{get_or-append, set}
use Rattle.std.proofs.lemmas.List.{get_or-map, get_or-take, length-map, get_or_default}
use Rattle.std.proofs.lemmas.List.Edits.{map_over_more}
use Rattle.std.proofs.lemmas.List.Elements.{All-from_get_or}
use Rattle.std.proofs.lemmas.Bool.{le-leb, lt-leb, cases_eq}
use Rattle.std.proofs.lemmas.Grind.{common_steps}
use Rattle.gen1_rolls.specs.Steady.{stream_of, StandsAt, link, Ring, turned, byte_of, after_draw, ring_of, ring_at, FindsDraw, FindsNoDraw, FailsFrom}
use Rattle.gen1_rolls.specs.Streams.{iterate, renewed, times_renewed, byte_at, IsStream, Link, IsFirstOf}
use Rattle.gen1_rolls.proofs.Standing.{own_is_stream, draws_of-stands, iterate-more}
use Rattle.std.specs.Prelude.{slice_index}
use Rattle.gen1_rolls.proofs.First.{byte-small, byte_at-rounds, full_period}

-- Numbers that haven't been renewed yet.
pub turned-none : (s : List ℕ) → turned 0 s ≡ s
turned-none s = grind (arith, common_steps)

split_nine : (xs ys : List ℕ) → length xs ≡ 9 → (take 9 (xs ++ ys) ≡ xs) × (drop 9 (xs ++ ys) ≡ ys)
split_nine xs ys e =
    (ap (λ n. take n (xs ++ ys)) (sym e) ∙ take-append_seam xs ys, ap (λ n. drop n (xs ++ ys)) (sym e) ∙ drop-append_seam xs ys)

nine : (s : List ℕ) (q : ℕ) → 9 ≤ length s → length (map (times_renewed q) (take 9 s)) ≡ 9
nine s q long = length-map (take 9 s) (times_renewed q) ∙ length-take 9 s ∙ omega arith

renewed_once_more : (q : ℕ) (xs : List ℕ) → map (times_renewed 1) (map (times_renewed q) xs) ≡ map (times_renewed (q + 1)) xs
renewed_once_more q [] = refl
renewed_once_more q (x ∷ xs) =
    let e : suc q ≡ q + 1 = omega arith in
    let head : times_renewed 1 (times_renewed q x) ≡ times_renewed (q + 1) x = ap (λ k. times_renewed k x) e in
    ap (λ y. y ∷ map (times_renewed 1) (map (times_renewed q) xs)) head ∙ ap (λ ys. times_renewed (q + 1) x ∷ ys) (renewed_once_more q xs)

pub turned-more : (s : List ℕ) (q : ℕ) → 9 ≤ length s → turned 1 (turned q s) ≡ turned (q + 1) s
turned-more s q long =
    let front = map (times_renewed q) (take 9 s) in
    let parts = split_nine front (drop 9 s) (nine s q long) in
    ap (λ xs. map (times_renewed 1) xs ++ drop 9 (turned q s)) parts.0 ∙ ap (λ xs. map (times_renewed 1) front ++ xs) parts.1
    ∙ ap (λ xs. xs ++ drop 9 s) (renewed_once_more q (take 9 s))

pub turned-at : (s : List ℕ) (q j : ℕ) → 9 ≤ length s → j < 9 → get_or (turned q s) j 0 ≡ times_renewed q (get_or s j 0)
turned-at s q j long lt =
    get_or-append (map (times_renewed q) (take 9 s)) (drop 9 s) 0 j (omega (arith, nine s q long))
    ∙ get_or-map (times_renewed q) (take 9 s) j 0 0 (omega (arith, length-take 9 s))
    ∙ ap (times_renewed q) (get_or-take 9 s j 0 lt)

pub same_ring : (i j : ℕ) (xs ys : List ℕ) → i ≡ j → xs ≡ ys → ◌≡◌ {A = Ring} (record { index = i; numbers = xs }) (record { index = j; numbers = ys })
same_ring i j xs ys e h = cc

-- One more draw.
pub after_draw-ring_at : (s : List ℕ) (n : ℕ) → 9 ≤ length s → after_draw (ring_at s n) ≡ ring_at s (n + 1)
after_draw-ring_at s n long =
    elim (below_or (n % 9)) [
      | inl lt ↦
          let test : nat_lt (n % 9) 8 ≡ true = le-leb (suc (n % 9)) 8 lt in
          let same : n / 9 ≡ (n + 1) / 9 = omega arith in
          rw test (same_ring (n % 9 + 1) ((n + 1) % 9) (turned (n / 9) s) (turned ((n + 1) / 9) s) (omega arith) (ap (λ q. turned q s) same))
      | inr ge ↦
          let test : nat_lt (n % 9) 8 ≡ false = lt-leb (suc (n % 9)) 8 (omega arith) in
          let more : n / 9 + 1 ≡ (n + 1) / 9 = omega arith in
          rw test (same_ring 0 ((n + 1) % 9) (turned 1 (turned (n / 9) s)) (turned ((n + 1) / 9) s) (omega arith)
          (turned-more s (n / 9) long ∙ ap (λ q. turned q s) more))
    ]
  where
    below_or : (m : ℕ) → (m < 8) ⊎ (8 ≤ m)
    below_or m = grind arith

-- n more draws.
pub draws-ring_at : (s : List ℕ) (m n : ℕ) → 9 ≤ length s → iterate n after_draw (ring_at s m) ≡ ring_at s (m + n)
draws-ring_at s m zero long = ap (ring_at s) (let e : m ≡ m + 0 = omega arith in e)
draws-ring_at s m (suc n) long =
    ap after_draw (draws-ring_at s m n long) ∙ after_draw-ring_at s (m + n) long
    ∙ ap (ring_at s) (let e : m + n + 1 ≡ m + suc n = omega arith in e)

-- A ring in its first round has its numbers as they were.
pub ring-first_round : (i : ℕ) (s : List ℕ) → i < 9 → ◌≡◌ {A = Ring} (record { index = i; numbers = s }) (ring_at s i)
ring-first_round i s lt =
    let none : i / 9 ≡ 0 = omega arith in
    same_ring i (i % 9) s (turned (i / 9) s) (omega arith) (sym (turned-none s) ∙ ap (λ q. turned q s) (sym none))

-- The ring after n draws from its seed.
pub iterate-ring_of : (s : List ℕ) (n : ℕ) → 9 ≤ length s → iterate n after_draw (ring_of s) ≡ ring_at s n
iterate-ring_of s n long = ap (iterate n after_draw) (ring-first_round 0 s (omega arith)) ∙ draws-ring_at s 0 n long ∙ ap (ring_at s) (let e : 0 + n ≡ n = omega arith in e)

pub byte_of-ring_at : (s : List ℕ) (n : ℕ) → 9 ≤ length s → byte_of (ring_at s n) ≡ byte_at (Link s) n
unfolding byte_at
byte_of-ring_at s n long = turned-at s (n / 9) (n % 9) long (omega arith)

-- The ring after n draws is at place n.
pub ring_at-stands : (seed : List ℕ) (n : ℕ) → 9 ≤ length seed → StandsAt link (ring_of seed) (Link seed) n (ring_at seed n)
ring_at-stands seed n long =
    record {
      reached = sym (iterate-ring_of seed n long);
      bytes = λ k. ap byte_of (iterate-ring_of seed k long) ∙ byte_of-ring_at seed k long;
      spans = refl;
    }

-- A generator at place n is that ring, so its index and its numbers are known together.
pub ring-stands : {seed : List ℕ} {n : ℕ} {ring : Ring} → StandsAt link (ring_of seed) (Link seed) n ring → 9 ≤ length seed → ring ≡ ring_at seed n
ring-stands {seed = seed} {n = n} a long = a.reached ∙ iterate-ring_of seed n long

-- A ring in its first round is at its index in the stream that its numbers give.
pub first_round-stands : (i : ℕ) (s : List ℕ) → 9 ≤ length s → i < 9 → StandsAt link (ring_of s) (Link s) i (record { index = i; numbers = s })
first_round-stands i s long lt =
    subst (λ (ring : Ring). StandsAt link (ring_of s) (Link s) i ring) (sym (ring-first_round i s lt)) (ring_at-stands s i long)

-- So its draws are a stream.
pub first_round-stream : (i : ℕ) (s : List ℕ) → length s ≡ 10 → i < 9 → ((j : ℕ) → j < length s → get_or s j 0 < 256)
    → IsStream (stream_of link (record { index = i; numbers = s }))
first_round-stream i s ten lt small =
    own_is_stream (first_round-stands i s (omega (arith, ten)) lt) (ten, All-from_get_or (λ x. x < 256) s 0 small)

-- One more number is renewed.
pub turn_step : (xs ys : List ℕ) (i y : ℕ) → i < length xs → ys ≡ map renewed (take i xs) ++ drop i xs → y ≡ renewed (get_or ys i 0)
    → set ys i y ≡ map renewed (take (i + 1) xs) ++ drop (i + 1) xs
turn_step xs ys i y lt so_far e =
    let same : length ys ≡ length xs = omega (arith, simp (length-append, length-map, length-take, length-drop) at (ap length so_far)) in
    let x = get_or ys i 0 in
    ap (set ys i) e ∙ map_over_more renewed xs ys i x lt so_far (get_or_default ys i 0 x (omega arith))

-- A search by a link battle's generator, which looks at the numbers of a round where they are.

-- One more number.
pub one_more : (P : ℕ → Type 0) (from n : ℕ) → ((k : ℕ) → from ≤ k → k < n → P k) → (from ≤ n → P n) → (k : ℕ) → from ≤ k → k < n + 1 → P k
one_more P from n before here k low high =
    elim (cases_eq k n) [ inl same ↦ subst P (sym same) (here (omega (arith, low, same))) | inr other ↦ before k low (omega (arith, high, other)) ]

-- The bytes of the stream from a place on, up to another, fail the test.
abbrev pub Fails : List ℕ → (ℕ → Bool) → ℕ → ℕ → Type 0
Fails seed p from to = (m : ℕ) → from ≤ m → m < to → IsFalse (p (byte_at (Link seed) m))

-- A generator in the first round, after k draws.
draws_from : (s : List ℕ) (i k : ℕ) → 9 ≤ length s → i < 9
    → iterate k after_draw (record { index = i; numbers = s }) ≡ ring_at s (i + k)
draws_from s i k long lt = ap (iterate k after_draw) (ring-first_round i s lt) ∙ draws-ring_at s i k long

-- A generator in round r.
ring_in_round : (s : List ℕ) (r j : ℕ) → j < 9 → ◌≡◌ {A = Ring} (record { index = j; numbers = turned r s }) (ring_at s (9 * r + j))
ring_in_round s r j lt =
    let round : r ≡ (9 * r + j) / 9 = omega arith in
    same_ring j ((9 * r + j) % 9) (turned r s) (turned ((9 * r + j) / 9) s) (omega arith) (ap (λ q. turned q s) round)

-- A number of round r is a byte of the stream.
number_in_round : (s : List ℕ) (r j : ℕ) → 9 ≤ length s → j < 9 → slice_index (turned r s) j ≡ byte_at (Link s) (9 * r + j)
number_in_round s r j long lt = ap byte_of (ring_in_round s r j lt) ∙ byte_of-ring_at s (9 * r + j) long

-- More numbers of round r fail the test.
pub fails_more : (s : List ℕ) (p : ℕ → Bool) (i r from to : ℕ) → 9 ≤ length s → to ≤ 9 → Fails s p i (9 * r + from)
    → ((k : ℕ) → from ≤ k → k < to → IsFalse (p (slice_index (turned r s) k))) → Fails s p i (9 * r + to)
fails_more s p i r from to long small before here m low high =
    elim (below_or m (9 * r + from)) [
      | inl lt ↦ before m low lt
      | inr ge ↦
          let there : 9 * r + (m - 9 * r) ≡ m = omega (arith, ge) in
          subst (λ n. IsFalse (p (byte_at (Link s) n))) there
          (ap p (sym (number_in_round s r (m - 9 * r) long (omega (arith, ge, high, small)))) ∙ here (m - 9 * r) (omega (arith, ge)) (omega (arith, ge, high)))
    ]
  where
    below_or : (a b : ℕ) → (a < b) ⊎ (b ≤ a)
    below_or a b = grind arith

-- If the numbers of the first round fail from a place on, so do these bytes.
pub fails_first : (s : List ℕ) (p : ℕ → Bool) (i : ℕ) → 9 ≤ length s → FailsFrom i s p → Fails s p i 9
fails_first s p i long here =
    fails_more s p i 0 i 9 long (omega arith) (λ m low high. absurd (omega (arith, low, high)))
    (λ k from below. ap (λ (xs : List ℕ). p (slice_index xs k)) (turned-none s) ∙ here k from below)

-- A number of round r that passes, after bytes that fail, is what the search finds.
pub finds_in_round : (s : List ℕ) (p : ℕ → Bool) (i r from place b : ℕ) (new : Ring) → 9 ≤ length s → i < 9 → r < 256 → place < 9 → i ≤ 9 * r + from
    → Fails s p i (9 * r + from) → IsFirstOf (slice_index (turned r s)) from p place
    → b ≡ byte_of (record { index = place; numbers = turned r s }) → new ≡ after_draw (record { index = place; numbers = turned r s })
    → FindsDraw link p (record { index = i; numbers = s }) b new
finds_in_round s p i r from place b new long lt round small late before found drawn left =
    let passed = 9 * r + place - i in
    let there : i + passed ≡ 9 * r + place = omega (arith, found.from) in
    let reached : ◌≡◌ {A = Ring} (record { index = place; numbers = turned r s }) (iterate passed after_draw (record { index = i; numbers = s })) =
    ring_in_round s r place small ∙ ap (ring_at s) (sym there) ∙ sym (draws_from s i passed long lt) in
    record {
      passed = passed;
      within = omega (arith, found.from);
      first =
          record {
            from = omega arith;
            meets = ap p (sym (ap byte_of reached)) ∙ found.meets;
            none_before = λ k _ below.
                ap p (draws_of-stands (first_round-stands i s long lt) k)
                ∙ fails_more s p i r from place long (omega (arith, small)) before found.none_before (i + k) (omega arith) (omega (arith, below, there));
          };
      is = drawn ∙ ap byte_of reached;
      left = left ∙ ap after_draw reached ∙ sym (iterate-more after_draw passed (record { index = i; numbers = s }));
    }

-- After 256 rounds without a byte that passes there is none. The last number of a round alone is every byte.
pub finds_none : (s : List ℕ) (p : ℕ → Bool) (i r from : ℕ) (new : Ring) → IsStream (Link s) → i < 9 → r ≡ 256
    → Fails s p i (9 * r + from) → new ≡ record { index = i; numbers = turned r s } → FindsNoDraw link p (record { index = i; numbers = s }) new
finds_none s p i r from new is lt all failed left =
    let long : 9 ≤ length s = omega (arith, is.0) in
    let none : (b : ℕ) → b < 256 → IsFalse (p b) =
    λ b small. let at = full_period (byte_at (Link s) 8) b (byte-small (Link s) 8 is) small in
    ap p (sym (byte_at-rounds s 8 at.0 ∙ at.1.1)) ∙ failed (8 + 9 * at.0) (omega arith) (omega (arith, at.1.0, all)) in
    let rounds : r ≡ (i + link.width) / 9 = omega (arith, all, lt) in
    record {
      none_meets = none;
      none_drawn = λ k _. ap p (draws_of-stands (first_round-stands i s long lt) k) ∙ none (byte_at (Link s) (i + k)) (byte-small (Link s) (i + k) is);
      left =
          left ∙ same_ring i ((i + link.width) % 9) (turned r s) (turned ((i + link.width) / 9) s) (omega (arith, lt)) (ap (λ q. turned q s) rounds)
          ∙ sym (draws_from s i link.width long lt);
    }
