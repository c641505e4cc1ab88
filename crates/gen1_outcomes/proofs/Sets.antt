-- Sets of bytes: a word is changed at one bit.
use Rattle.std.proofs.Common.{◌≡◌, ◌≢◌, ℕ, zero, suc, ◌+◌, ◌*◌, ◌%◌, ◌/◌, ◌<◌, ◌≤◌, ◌^◌, Bool, true, false, not, ◌==◌, List, [], ◌∷◌, cond, min, ◌-◌, nat_lt, length, get_or, get_or-set_other, get_or-set_same, set, ◌⊎◌, inl, inr, refl, ap, sym, ◌∙◌, arith, max, ap₂, nat_eq}
use Rattle.std.specs.Int.{bit_at, bit_not, w64, trailing_zeros}
use Rattle.std.specs.Int.RustNames.{bit_and, bit_or, count_ones}
use Rattle.gen1_rolls.specs.declared.rolls.Look.{Look}
use Rattle.gen1_rolls.specs.Streams.{rotated_left_3, rotated_right_1}
use Rattle.gen1_outcomes.specs.declared.byte_set.ByteSet.{ByteSet}
use Rattle.gen1_outcomes.specs.Bytes.{bits_set, has, size, alike_in}
use Rattle.std.proofs.lemmas.Nat.Bits.{bit_at_clear_other, bit_at_clear_same, bit_at_ones, bit_at_set_other, bit_at_set_same, bit_at-lt, bit_at-suc, bit_at-trailing_zeros, bit_at-zero, bit_at_and, bit_at_cat_high, bit_at_cat_low, bit_at_lowest, bit_at_not, bit_at_ones_above, bit_at_or}
use Rattle.std.specs.List.{range_with_len, sum_by}
use Rattle.std.proofs.lemmas.Bool.Decides.{nat_tests}
use Rattle.std.proofs.lemmas.List.Sums.{sum_by-append, sum_by-cons}
use Rattle.std.proofs.lemmas.Nat.{ones_le_self}
use Rattle.std.specs.Int.Count.{ones_step}
use Rattle.std.proofs.Math.Numerals.{suc-eq-add-one}
use Rattle.std.proofs.Math.Pow.{pow-lt, pow_mono}
use Rattle.std.proofs.Math.Nat.{pow-suc}

-- The bit of a byte in four words.
abbrev pub bit_in : List ℕ → ℕ → ℕ
bit_in words b = bit_at (get_or words (b / 64) 0) (b % 64)

same_or : (m n : ℕ) → (m ≡ n) ⊎ (m ≢ n)
same_or m n = grind arith

-- A word that is replaced, and what holds of its bits.
pub replaced_same : (words : List ℕ) (byte word v : ℕ) → byte < 256 → length words ≡ 4 → bit_at word (byte % 64) ≡ v → bit_in (set words (byte / 64) word) byte ≡ v
replaced_same words byte word v lt four e =
    let within : byte / 64 < length words = omega (arith, four) in rw get_or-set_same e

pub replaced_other : (words : List ℕ) (byte word b : ℕ) → byte < 256 → length words ≡ 4 → b ≢ byte
    → ((i : ℕ) → i < 64 → i ≢ byte % 64 → bit_at word i ≡ bit_at (get_or words (byte / 64) 0) i) → bit_in (set words (byte / 64) word) b ≡ bit_in words b
replaced_other words byte word b lt four apart others =
    elim (same_or (b / 64) (byte / 64)) [
      | inl e ↦
          let within : byte / 64 < length words = omega (arith, four) in
          let low : b % 64 < 64 = omega arith in
          let differ : b % 64 ≢ byte % 64 = omega (arith, e, apart) in
          rw e (rw get_or-set_same (others (b % 64) low differ))
      | inr ne ↦ rw get_or-set_other refl
    ]

pub inserted : (words : List ℕ) (byte : ℕ) → byte < 256 → length words ≡ 4
    → bit_in (set words (byte / 64) (bit_or (get_or words (byte / 64) 0) (1 * 2 ^ (byte % 64) % 2 ^ 64))) byte ≡ 1
inserted words byte lt four = replaced_same words byte _ 1 lt four (bit_at_set_same w64 (get_or words (byte / 64) 0) (byte % 64) (omega arith))

pub inserted_other : (words : List ℕ) (byte b : ℕ) → byte < 256 → length words ≡ 4 → b ≢ byte
    → bit_in (set words (byte / 64) (bit_or (get_or words (byte / 64) 0) (1 * 2 ^ (byte % 64) % 2 ^ 64))) b ≡ bit_in words b
inserted_other words byte b lt four apart =
    replaced_other words byte _ b lt four apart (λ i low ne. bit_at_set_other w64 (get_or words (byte / 64) 0) (byte % 64) (omega arith) i ne)

pub removed : (words : List ℕ) (byte : ℕ) → byte < 256 → length words ≡ 4
    → bit_in (set words (byte / 64) (bit_and (get_or words (byte / 64) 0) (bit_not w64 (1 * 2 ^ (byte % 64) % 2 ^ 64)))) byte ≡ 0
removed words byte lt four = replaced_same words byte _ 0 lt four (bit_at_clear_same w64 (get_or words (byte / 64) 0) (byte % 64) (omega arith))

pub removed_other : (words : List ℕ) (byte b : ℕ) → byte < 256 → length words ≡ 4 → b ≢ byte
    → bit_in (set words (byte / 64) (bit_and (get_or words (byte / 64) 0) (bit_not w64 (1 * 2 ^ (byte % 64) % 2 ^ 64)))) b ≡ bit_in words b
removed_other words byte b lt four apart =
    replaced_other words byte _ b lt four apart (λ i low ne. bit_at_clear_other w64 (get_or words (byte / 64) 0) (byte % 64) (omega arith) i low ne)

-- A set that gets what passes a test, byte by byte.
pub record Gets (p : ℕ → Bool) (n : ℕ) (now : ByteSet) : Type 0 where
  pub below : (x : ℕ) → x < 256 → x < n → has now x ≡ cond (p x) 1 0
  pub above : (x : ℕ) → x < 256 → n ≤ x → has now x ≡ 0

pub gets_more : (p : ℕ → Bool) (n : ℕ) (now new : ByteSet) (passes : Bool) → Gets p n now → n < 256 → passes ≡ p n → has new n ≡ cond passes 1 (has now n)
    → ((x : ℕ) → x < 256 → x ≢ n → has new x ≡ has now x) → Gets p (n + 1) new
gets_more p n now new passes g lt is here others =
    record {
      below = λ x small less.
          elim (same_or x n) [
            | inl e ↦
                let at : has new x ≡ has new n = ap (has new) e in
                let was : has now n ≡ 0 = g.above n lt (omega arith) in
                at ∙ here ∙ ap (cond passes 1) was ∙ ap (λ (b : Bool). cond b 1 0) (is ∙ ap p (sym e))
            | inr ne ↦ others x small ne ∙ g.below x small (omega (arith, ne))
          ];
      above = λ x small more. let ne : x ≢ n = omega arith in others x small ne ∙ g.above x small (omega arith);
    }

-- Each byte is in the set of all.
four : (m i : ℕ) → i < 4 → get_or (m ∷ m ∷ m ∷ m ∷ []) i 0 ≡ m
four m zero lt = refl
four m (suc zero) lt = refl
four m (suc (suc zero)) lt = refl
four m (suc (suc (suc zero))) lt = refl
four m (suc (suc (suc (suc i)))) lt = absurd (omega arith)

pub all_has : (b : ℕ) → b < 256
    → bit_in (18446744073709551615 ∷ 18446744073709551615 ∷ 18446744073709551615 ∷ 18446744073709551615 ∷ []) b ≡ 1
all_has b lt =
    ap (λ (w : ℕ). bit_at w (b % 64)) (four 18446744073709551615 (b / 64) (omega arith)) ∙ bit_at_ones 64 (b % 64) (omega arith)

-- The words of a set, one by one.
abbrev pub words_of : ℕ → ℕ → ℕ → ℕ → List ℕ
words_of a b c d = a ∷ b ∷ c ∷ d ∷ []

pub each_word : (a b c d : ℕ) (P : ℕ → ℕ → Type 0) → P 0 a → P 1 b → P 2 c → P 3 d → (i : ℕ) → i < 4 → P i (get_or (words_of a b c d) i 0)
each_word a b c d P p q r s zero lt = p
each_word a b c d P p q r s (suc zero) lt = q
each_word a b c d P p q r s (suc (suc zero)) lt = r
each_word a b c d P p q r s (suc (suc (suc zero))) lt = s
each_word a b c d P p q r s (suc (suc (suc (suc i)))) lt = absurd (omega arith)

-- Both sets, and one without the other.
pub both_has : (xs ys : List ℕ) (i j : ℕ) → i < 4
    → bit_at (get_or (words_of (bit_and (get_or xs 0 0) (get_or ys 0 0)) (bit_and (get_or xs 1 0) (get_or ys 1 0))
    (bit_and (get_or xs 2 0) (get_or ys 2 0)) (bit_and (get_or xs 3 0) (get_or ys 3 0))) i 0) j
    ≡ min (bit_at (get_or xs i 0) j) (bit_at (get_or ys i 0) j)
both_has xs ys i j lt =
    each_word _ _ _ _ (λ (k w : ℕ). bit_at w j ≡ min (bit_at (get_or xs k 0) j) (bit_at (get_or ys k 0) j))
    (bit_at_and (get_or xs 0 0) (get_or ys 0 0) j) (bit_at_and (get_or xs 1 0) (get_or ys 1 0) j)
    (bit_at_and (get_or xs 2 0) (get_or ys 2 0) j) (bit_at_and (get_or xs 3 0) (get_or ys 3 0) j) i lt

min_minus : (a b : ℕ) → a < 2 → b < 2 → min a (1 - b) ≡ a - b
min_minus zero zero p q = refl
min_minus zero (suc zero) p q = refl
min_minus (suc zero) zero p q = refl
min_minus (suc zero) (suc zero) p q = refl
min_minus (suc (suc a)) b p q = absurd (omega (arith, p))
min_minus zero (suc (suc b)) p q = absurd (omega (arith, q))
min_minus (suc zero) (suc (suc b)) p q = absurd (omega (arith, q))

pub without_bit : (x y j : ℕ) → y < 18446744073709551616 → j < 64 → bit_at (bit_and x (18446744073709551615 - y)) j ≡ bit_at x j - bit_at y j
without_bit x y j small lt =
    bit_at_and x (18446744073709551615 - y) j ∙ ap (min (bit_at x j)) (bit_at_not w64 y j small lt) ∙ min_minus (bit_at x j) (bit_at y j) (bit_at-lt x j) (bit_at-lt y j)

abbrev pub Lacks : ℕ → ℕ → ℕ → Type 0
Lacks x y w = (j : ℕ) → j < 64 → bit_at w j ≡ bit_at x j - bit_at y j

pub without_has : (xs ys : List ℕ) (a b c d i j : ℕ) → i < 4 → j < 64 → Lacks (get_or xs 0 0) (get_or ys 0 0) a → Lacks (get_or xs 1 0) (get_or ys 1 0) b
    → Lacks (get_or xs 2 0) (get_or ys 2 0) c → Lacks (get_or xs 3 0) (get_or ys 3 0) d
    → bit_at (get_or (words_of a b c d) i 0) j ≡ bit_at (get_or xs i 0) j - bit_at (get_or ys i 0) j
without_has xs ys a b c d i j lt low p q r s =
    each_word a b c d (λ (k w : ℕ). bit_at w j ≡ bit_at (get_or xs k 0) j - bit_at (get_or ys k 0) j) (p j low) (q j low) (r j low) (s j low) i lt

-- Numbers of ones.
true_or : (b : Bool) → (b ≡ true) ⊎ (b ≡ false)
true_or true = inl refl
true_or false = inr refl

lt_of : (a b : ℕ) → nat_lt a b ≡ true → a < b
lt_of a b e = grind (arith, nat_tests)

le_of : (a b : ℕ) → nat_lt a b ≡ false → b ≤ a
le_of a b e = grind (arith, nat_tests)

lt_true : (a b : ℕ) → a < b → nat_lt a b ≡ true
lt_true a b h = grind (arith, nat_tests)

lt_false : (a b : ℕ) → b ≤ a → nat_lt a b ≡ false
lt_false a b h = grind (arith, nat_tests)

-- One test decides as another.
pub same_test : (a b c d : ℕ) → (a < b → c < d) → (b ≤ a → d ≤ c) → nat_lt a b ≡ nat_lt c d
same_test a b c d on off =
    elim (true_or (nat_lt a b)) [
      | inl e ↦ e ∙ sym (lt_true c d (on (lt_of a b e)))
      | inr e ↦ e ∙ sym (lt_false c d (off (le_of a b e)))
    ]

ones_bits : (n i : ℕ) → bit_at (2 ^ n - 1) i ≡ cond (nat_lt i n) 1 0
ones_bits n i =
    elim (true_or (nat_lt i n)) [
      | inl e ↦ rw e (bit_at_ones n i (lt_of i n e))
      | inr e ↦ rw e (bit_at_ones_above n i (le_of i n e))
    ]

pub pow_small : (n : ℕ) → n < 64 → 1 * 2 ^ n % 18446744073709551616 ≡ 2 ^ n
pow_small n lt = let less : 2 ^ n < 2 ^ 64 = pow-lt lt in omega (arith, less)

pub ones_small : (n : ℕ) → n ≤ 32 → 2 ^ n ≤ 4294967296
ones_small n le = pow_mono le

ones_upto : (n : ℕ) → n ≤ 64 → 2 ^ min n 64 - 1 ≡ 2 ^ n - 1
ones_upto n le = let same : min n 64 ≡ n = omega arith in ap (λ (m : ℕ). 2 ^ m - 1) same

pub ones_all : (n : ℕ) → 64 ≤ n → 18446744073709551615 ≡ 2 ^ min n 64 - 1
ones_all n le = let same : 64 ≡ min n 64 = omega arith in ap (λ (m : ℕ). 2 ^ m - 1) same

pub ones_few : (n : ℕ) → n < 64 → 1 * 2 ^ n % 18446744073709551616 - 1 ≡ 2 ^ min n 64 - 1
ones_few n lt = ap (λ (m : ℕ). m - 1) (pow_small n lt) ∙ sym (ones_upto n (omega (arith, lt)))

-- Bits of a number of at most 64 ones.
pub word_bits : (n i : ℕ) → i < 64 → bit_at (2 ^ min n 64 - 1) i ≡ cond (nat_lt i n) 1 0
word_bits n i lt =
    ones_bits (min n 64) i ∙ ap (λ (b : Bool). cond b 1 0) (same_test i (min n 64) i n (λ h. omega (arith, h)) (λ h. omega (arith, h, lt)))

below_bit : (n at bound j : ℕ) → j < 64 → n ≡ bound - at → bit_at (2 ^ min n 64 - 1) j ≡ cond (nat_lt (at + j) bound) 1 0
below_bit n at bound j lt e =
    word_bits n j lt ∙ ap (λ (b : Bool). cond b 1 0) (same_test j n (at + j) bound (λ h. omega (arith, h, e)) (λ h. omega (arith, h, e)))

pub below_has : (bound b p q r : ℕ) → b < 256 → p ≡ bound - 64 → q ≡ bound - 128 → r ≡ bound - 192
    → bit_at (get_or (words_of (2 ^ min bound 64 - 1) (2 ^ min p 64 - 1) (2 ^ min q 64 - 1) (2 ^ min r 64 - 1)) (b / 64) 0) (b % 64) ≡ cond (nat_lt b bound) 1 0
below_has bound b p q r lt e f g =
    let low : b % 64 < 64 = omega arith in
    let sum : 64 * (b / 64) + b % 64 ≡ b = omega arith in
    each_word _ _ _ _ (λ (k w : ℕ). bit_at w (b % 64) ≡ cond (nat_lt (64 * k + b % 64) bound) 1 0)
    (below_bit bound 0 bound (b % 64) low (omega arith)) (below_bit p 64 bound (b % 64) low e) (below_bit q 128 bound (b % 64) low f)
    (below_bit r 192 bound (b % 64) low g) (b / 64) (omega (arith, lt))
    ∙ ap (λ (x : ℕ). cond (nat_lt x bound) 1 0) sum

-- A word of two halves, each of ones.
pub eighths_low : (high low bound least i : ℕ) → low ≤ 32 → i < 32 → low ≡ (bound + 7 - least) / 8 → least ≤ 6
    → bit_at ((2 ^ min high 64 - 1) * 4294967296 + (2 ^ min low 64 - 1)) i ≡ cond (nat_lt (8 * i + least) bound) 1 0
eighths_low high low bound least i few lt e small =
    bit_at_cat_low (2 ^ min high 64 - 1) 32 (2 ^ min low 64 - 1) i lt ∙ word_bits low i (omega (arith, lt))
    ∙ ap (λ (b : Bool). cond b 1 0) (same_test i low (8 * i + least) bound (λ h. omega (arith, h, e, small)) (λ h. omega (arith, h, e, small)))

pub eighths_high : (high low bound least i : ℕ) → low ≤ 32 → i < 32 → high ≡ (bound + 6 - least) / 8 → least ≤ 6
    → bit_at ((2 ^ min high 64 - 1) * 4294967296 + (2 ^ min low 64 - 1)) (32 + i) ≡ cond (nat_lt (8 * i + least + 1) bound) 1 0
eighths_high high low bound least i few lt e small =
    let bounded : 2 ^ low ≤ 4294967296 = ones_small low few in
    let positive : 2 ^ low - 1 < 4294967296 = omega (arith, bounded) in
    let half : 2 ^ min low 64 - 1 < 4294967296 = omega (arith, ones_upto low (omega (arith, few)), positive) in
    let back : 32 + i - 32 ≡ i = omega arith in
    bit_at_cat_high (2 ^ min high 64 - 1) 32 (2 ^ min low 64 - 1) (32 + i) half (omega arith) ∙ ap (bit_at (2 ^ min high 64 - 1)) back ∙ word_bits high i (omega (arith, lt))
    ∙ ap (λ (b : Bool). cond b 1 0) (same_test i high (8 * i + least + 1) bound (λ h. omega (arith, h, e, small)) (λ h. omega (arith, h, e, small)))

abbrev pub Halves : ℕ → ℕ → ℕ → Type 0
Halves bound least w =
    ((i : ℕ) → i < 32 → bit_at w i ≡ cond (nat_lt (8 * i + least) bound) 1 0)
    × ((i : ℕ) → i < 32 → bit_at w (32 + i) ≡ cond (nat_lt (8 * i + least + 1) bound) 1 0)

half_or : (j : ℕ) → (j < 32) ⊎ (32 ≤ j)
half_or j = grind arith

halves_bit : (bound k w j : ℕ) → k < 4 → j < 64 → Halves bound (2 * k) w → bit_at w j ≡ cond (nat_lt (rotated_left_3 (64 * k + j)) bound) 1 0
halves_bit bound k w j few lt h =
    elim (half_or j) [
      | inl low ↦
          let is : 8 * j + 2 * k ≡ rotated_left_3 (64 * k + j) = omega (arith, low, few) in
          h.0 j low ∙ ap (λ (x : ℕ). cond (nat_lt x bound) 1 0) is
      | inr more ↦
          let back : 32 + (j - 32) ≡ j = omega (arith, more) in
          let is : 8 * (j - 32) + 2 * k + 1 ≡ rotated_left_3 (64 * k + j) = omega (arith, more, lt, few) in
          ap (bit_at w) (sym back) ∙ h.1 (j - 32) (omega (arith, lt)) ∙ ap (λ (x : ℕ). cond (nat_lt x bound) 1 0) is
    ]

pub rotated_has : (bound w x y z b : ℕ) → b < 256 → Halves bound 0 w → Halves bound 2 x → Halves bound 4 y → Halves bound 6 z
    → bit_at (get_or (words_of w x y z) (b / 64) 0) (b % 64) ≡ cond (nat_lt (rotated_left_3 b) bound) 1 0
rotated_has bound w x y z b lt h i j k =
    let low : b % 64 < 64 = omega arith in
    let sum : 64 * (b / 64) + b % 64 ≡ b = omega arith in
    each_word w x y z (λ (n v : ℕ). bit_at v (b % 64) ≡ cond (nat_lt (rotated_left_3 (64 * n + b % 64)) bound) 1 0)
    (halves_bit bound 0 w (b % 64) (omega arith) low h) (halves_bit bound 1 x (b % 64) (omega arith) low i) (halves_bit bound 2 y (b % 64) (omega arith) low j)
    (halves_bit bound 3 z (b % 64) (omega arith) low k) (b / 64) (omega (arith, lt))
    ∙ ap (λ (v : ℕ). cond (nat_lt (rotated_left_3 v) bound) 1 0) sum

-- A set whose words have the bytes from one factor up to another of a set.
abbrev pub Between : ℕ → ℕ → ℕ → ℕ → ℕ → Type 0
Between first next least word w =
    (i : ℕ) → i < 64 → bit_at w i ≡ min (bit_at word i) (cond (nat_lt (least + rotated_right_1 i) next) 1 0) - cond (nat_lt (least + rotated_right_1 i) first) 1 0

pub between_has : (first next : ℕ) (words : List ℕ) (w x y z b : ℕ) → b < 256 → Between first next 0 (get_or words 0 0) w → Between first next 32 (get_or words 1 0) x
    → Between first next 64 (get_or words 2 0) y → Between first next 96 (get_or words 3 0) z
    → bit_at (get_or (words_of w x y z) (b / 64) 0) (b % 64)
    ≡ min (bit_at (get_or words (b / 64) 0) (b % 64)) (cond (nat_lt (rotated_right_1 b) next) 1 0) - cond (nat_lt (rotated_right_1 b) first) 1 0
between_has first next words w x y z b lt h i j k =
    let low : b % 64 < 64 = omega arith in
    let sum : 32 * (b / 64) + rotated_right_1 (b % 64) ≡ rotated_right_1 b = omega arith in
    each_word w x y z (λ (n v : ℕ). bit_at v (b % 64)
    ≡ min (bit_at (get_or words n 0) (b % 64)) (cond (nat_lt (32 * n + rotated_right_1 (b % 64)) next) 1 0) - cond (nat_lt (32 * n + rotated_right_1 (b % 64)) first) 1 0)
    (h (b % 64) low) (i (b % 64) low) (j (b % 64) low) (k (b % 64) low) (b / 64) (omega (arith, lt))
    ∙ ap (λ (v : ℕ). min (bit_at (get_or words (b / 64) 0) (b % 64)) (cond (nat_lt v next) 1 0) - cond (nat_lt v first) 1 0) sum

-- The digits of a word that are set, one by one.
shifted : (n a k : ℕ) → sum_by (bit_at n) (range_with_len (a + 1) k) ≡ sum_by (bit_at (n / 2)) (range_with_len a k)
shifted n a zero = refl
shifted n a (suc k) =
    let here : bit_at n (a + 1) ≡ bit_at (n / 2) a = ap (bit_at n) (sym (suc-eq-add-one a)) ∙ bit_at-suc n a in
    let left : sum_by (bit_at n) (range_with_len (a + 1) (suc k)) ≡ bit_at n (a + 1) + sum_by (bit_at n) (range_with_len (a + 1 + 1) k) =
    sum_by-cons (bit_at n) (a + 1) (range_with_len (a + 1 + 1) k)
    in
    let right : sum_by (bit_at (n / 2)) (range_with_len a (suc k)) ≡ bit_at (n / 2) a + sum_by (bit_at (n / 2)) (range_with_len (a + 1) k) =
    sum_by-cons (bit_at (n / 2)) a (range_with_len (a + 1) k)
    in left ∙ rw here (rw (shifted n (a + 1) k) (sym right))

ones_sum : (k n : ℕ) → n < 2 ^ k → count_ones n ≡ sum_by (bit_at n) (range_with_len 0 k)
ones_sum zero n lt = omega (arith, ones_le_self n, lt)
ones_sum (suc k) n lt =
    let power : 2 ^ suc k ≡ 2 ^ k * 2 = pow-suc 2 k in
    let rest : count_ones (n / 2) ≡ sum_by (bit_at (n / 2)) (range_with_len 0 k) = ones_sum k (n / 2) (omega (arith, lt, power)) in
    let all : sum_by (bit_at n) (range_with_len 0 (suc k)) ≡ bit_at n 0 + sum_by (bit_at n) (range_with_len 1 k) = sum_by-cons (bit_at n) 0 (range_with_len 1 k) in
    ones_step n ∙ rw rest (rw (sym (shifted n 0 k)) (rw (sym (bit_at_lowest n)) (sym all)))

-- The bytes of a set are those of its four words.
pub count_is : (n : ℕ) → n < 18446744073709551616 → count_ones n ≡ bits_set n
unfolding bits_set
count_is n lt = ones_sum 64 n lt

pub size_of_words : (set : ByteSet)
    → bits_set (get_or set.words 0 0) + bits_set (get_or set.words 1 0) + (bits_set (get_or set.words 2 0) + bits_set (get_or set.words 3 0)) ≡ size set
unfolding size bits_set
size_of_words set =
    let low : sum_by (has set) (range_with_len 0 128) ≡ sum_by (has set) (range_with_len 0 64) + sum_by (has set) (range_with_len 64 64) =
    sum_by-append (has set) (range_with_len 0 64) (range_with_len 64 64)
    in
    let high : sum_by (has set) (range_with_len 128 128) ≡ sum_by (has set) (range_with_len 128 64) + sum_by (has set) (range_with_len 192 64) =
    sum_by-append (has set) (range_with_len 128 64) (range_with_len 192 64)
    in
    let all : sum_by (has set) (range_with_len 0 256) ≡ sum_by (has set) (range_with_len 0 128) + sum_by (has set) (range_with_len 128 128) =
    sum_by-append (has set) (range_with_len 0 128) (range_with_len 128 128)
    in
    let halves : sum_by (has set) (range_with_len 0 64) + sum_by (has set) (range_with_len 64 64)
    + (sum_by (has set) (range_with_len 128 64) + sum_by (has set) (range_with_len 192 64)) ≡ sum_by (has set) (range_with_len 0 256) =
    rw (sym low) (rw (sym high) (sym all))
    in halves

-- A word keeps what is alike to a byte, bit by bit.
pub record Keeps (classes : ℕ) (look : Look) (byte base word n now : ℕ) : Type 0 where
  pub below : (i : ℕ) → i < 64 → i < n → bit_at now i ≡ cond (alike_in classes look byte (base + i)) (bit_at word i) 0
  pub above : (i : ℕ) → i < 64 → n ≤ i → bit_at now i ≡ bit_at word i

pub keeps_zeros : (classes : ℕ) (look : Look) (byte base word : ℕ) → word < 18446744073709551616 → Keeps classes look byte base word (trailing_zeros w64 word) word
keeps_zeros classes look byte base word small =
    record {
      below = λ i lt less. let none : bit_at word i ≡ 0 = zeros word i small less in none ∙ sym (both_zero (alike_in classes look byte (base + i)) (bit_at word i) none);
      above = λ i lt more. refl;
    }
  where
    both_zero : (b : Bool) (n : ℕ) → n ≡ 0 → cond b n 0 ≡ 0
    both_zero true n e = e
    both_zero false n e = refl

    positive_or : (n : ℕ) → (n ≡ 0) ⊎ (0 < n)
    positive_or n = grind arith

    zeros : (n i : ℕ) → n < 18446744073709551616 → i < trailing_zeros w64 n → bit_at n i ≡ 0
    zeros n i small less =
        elim (positive_or n) [
          | inl e ↦ ap (λ (m : ℕ). bit_at m i) e ∙ bit_at-zero i
          | inr p ↦ (bit_at-trailing_zeros w64 n p small).2 i less
        ]

pub keeps_more : (classes : ℕ) (look : Look) (byte base word n now new : ℕ) → Keeps classes look byte base word n now → n < 64
    → bit_at new n ≡ cond (alike_in classes look byte (base + n)) (bit_at now n) 0 → ((i : ℕ) → i < 64 → i ≢ n → bit_at new i ≡ bit_at now i)
    → Keeps classes look byte base word (n + 1) new
keeps_more classes look byte base word n now new k lt here others =
    record {
      below = λ i small less.
          elim (same_or i n) [
            | inl e ↦
                let was : bit_at now n ≡ bit_at word n = k.above n lt (omega arith) in
                ap (bit_at new) e ∙ here ∙ ap (λ (x : ℕ). cond (alike_in classes look byte (base + n)) x 0) was ∙ ap (λ (x : ℕ). cond (alike_in classes look byte (base + x)) (bit_at word x) 0) (sym e)
            | inr ne ↦ others i small ne ∙ k.below i small (omega (arith, ne))
          ];
      above = λ i small more. let ne : i ≢ n = omega arith in others i small ne ∙ k.above i small (omega arith);
    }

-- The least byte of a word is in the set.
pub first_has : (words : List ℕ) (place : ℕ) → 0 < get_or words place 0 → get_or words place 0 < 18446744073709551616
    → bit_at (get_or words ((64 * place + trailing_zeros w64 (get_or words place 0)) / 64) 0) ((64 * place + trailing_zeros w64 (get_or words place 0)) % 64) ≡ 1
first_has words place some small =
    let found = bit_at-trailing_zeros w64 (get_or words place 0) some small in
    let less : trailing_zeros w64 (get_or words place 0) < 64 = found.0 in
    let word : (64 * place + trailing_zeros w64 (get_or words place 0)) / 64 ≡ place = omega (arith, less) in
    let digit : (64 * place + trailing_zeros w64 (get_or words place 0)) % 64 ≡ trailing_zeros w64 (get_or words place 0) = omega (arith, less) in
    rw word (rw digit found.1)

-- All before it are not in the set.
before_or : (m n : ℕ) → (m < n) ⊎ (n ≤ m)
before_or m n = grind arith

pub first_least : (words : List ℕ) (place : ℕ) → 0 < get_or words place 0 → get_or words place 0 < 18446744073709551616
    → ((b : ℕ) → b < 64 * place → bit_in words b ≡ 0) → (b : ℕ) → b < 64 * place + trailing_zeros w64 (get_or words place 0) → bit_in words b ≡ 0
first_least words place some small before b lt =
    let found = bit_at-trailing_zeros w64 (get_or words place 0) some small in
    let less : trailing_zeros w64 (get_or words place 0) < 64 = found.0 in
    elim (before_or b (64 * place)) [
      | inl early ↦ before b early
      | inr more ↦
          let word : b / 64 ≡ place = omega (arith, less, lt, more) in
          let digit : b % 64 < trailing_zeros w64 (get_or words place 0) = omega (arith, less, lt, more) in
          rw word (found.2 (b % 64) digit)
    ]

-- Sets of the same bytes are of the same size.
same_sum : (f g : ℕ → ℕ) (a k : ℕ) → ((x : ℕ) → a ≤ x → x < a + k → f x ≡ g x) → sum_by f (range_with_len a k) ≡ sum_by g (range_with_len a k)
same_sum f g a zero each = refl
same_sum f g a (suc k) each =
    let one : sum_by f (range_with_len a (suc k)) ≡ f a + sum_by f (range_with_len (a + 1) k) = sum_by-cons f a (range_with_len (a + 1) k) in
    let two : sum_by g (range_with_len a (suc k)) ≡ g a + sum_by g (range_with_len (a + 1) k) = sum_by-cons g a (range_with_len (a + 1) k) in
    let rest : sum_by f (range_with_len (a + 1) k) ≡ sum_by g (range_with_len (a + 1) k) =
    same_sum f g (a + 1) k (λ x le lt. each x (omega (arith, le)) (omega (arith, lt)))
    in
    let first : f a ≡ g a = each a (omega arith) (omega arith) in
    omega (arith, one, two, rest, first)

pub same_size : (a b : ByteSet) → ((x : ℕ) → x < 256 → has a x ≡ has b x) → size a ≡ size b
unfolding size
same_size a b each = same_sum (has a) (has b) 0 256 (λ x le lt. each x lt)

-- A set that is split in two.
split_sum : (f g h : ℕ → ℕ) (a k : ℕ) → ((x : ℕ) → a ≤ x → x < a + k → f x + g x ≡ h x)
    → sum_by f (range_with_len a k) + sum_by g (range_with_len a k) ≡ sum_by h (range_with_len a k)
split_sum f g h a zero each = refl
split_sum f g h a (suc k) each =
    let one : sum_by f (range_with_len a (suc k)) ≡ f a + sum_by f (range_with_len (a + 1) k) = sum_by-cons f a (range_with_len (a + 1) k) in
    let two : sum_by g (range_with_len a (suc k)) ≡ g a + sum_by g (range_with_len (a + 1) k) = sum_by-cons g a (range_with_len (a + 1) k) in
    let all : sum_by h (range_with_len a (suc k)) ≡ h a + sum_by h (range_with_len (a + 1) k) = sum_by-cons h a (range_with_len (a + 1) k) in
    let rest : sum_by f (range_with_len (a + 1) k) + sum_by g (range_with_len (a + 1) k) ≡ sum_by h (range_with_len (a + 1) k) =
    split_sum f g h (a + 1) k (λ x le lt. each x (omega (arith, le)) (omega (arith, lt)))
    in
    let here : f a + g a ≡ h a = each a (omega arith) (omega arith) in omega (arith, one, two, all, rest, here)

pub split_size : (a b c : ByteSet) → ((x : ℕ) → x < 256 → has a x + has b x ≡ has c x) → size a + size b ≡ size c
unfolding size
split_size a b c each = split_sum (has a) (has b) (has c) 0 256 (λ x le lt. each x lt)

-- What is taken out of a rest, and what stays of it.
pub taken_rest : (b : Bool) (n : ℕ) → n - cond b n 0 ≡ cond b 0 n
taken_rest true n = omega arith
taken_rest false n = omega arith

pub taken_all : (b : Bool) (n m : ℕ) → m ≡ cond b n 0 → m + (n - m) ≡ n
taken_all true n m e = omega (arith, e)
taken_all false n m e = omega (arith, e)

-- Of a look that sees 0 or 1, what is alike to a byte of which it sees 1, and to one of which it sees 0.
pub on_side : (b c : Bool) (n : ℕ) → n < 2 → b ≡ c → min n (cond c 1 0) ≡ cond b n 0
on_side b true n lt e = rw e (omega (arith, lt))
on_side b false n lt e = rw e (omega (arith, lt))

pub off_side : (b c : Bool) (n : ℕ) → n < 2 → b ≡ not c → n - cond c 1 0 ≡ cond b n 0
off_side b true n lt e = rw e (omega (arith, lt))
off_side b false n lt e = rw e (omega (arith, lt))

pub same_seen : (c : Bool) → (1 == cond c 1 0) ≡ c
same_seen true = refl
same_seen false = refl

pub other_seen : (c : Bool) → (0 == cond c 1 0) ≡ not c
other_seen true = refl
other_seen false = refl

-- A bit that is not set is not kept, and need not be tested.
pub none_kept : (a b : Bool) (n : ℕ) → n ≡ 0 → cond a n 0 ≡ cond b n 0
none_kept true true n e = refl
none_kept true false n e = e
none_kept false true n e = sym e
none_kept false false n e = refl

-- A class is taken out of a rest, which is counted by both.
pub counted : (classes : ℕ) (look : Look) (byte : ℕ) (old class new : ByteSet) (n : ℕ) → n ≡ size class
    → ((x : ℕ) → x < 256 → has class x ≡ cond (alike_in classes look byte x) (has old x) 0) → ((x : ℕ) → x < 256 → has new x ≡ has old x - has class x)
    → n + size new ≡ size old
counted classes look byte old class new n e taken left =
    ap (λ (m : ℕ). m + size new) e
    ∙ split_size class new old (λ x lt. ap (λ (m : ℕ). has class x + m) (left x lt) ∙ taken_all (alike_in classes look byte x) (has old x) (has class x) (taken x lt))

-- What is not left of a set after a byte is taken is the byte's class.
left_of : (b : Bool) (c n m : ℕ) → c ≡ cond b n 0 → m ≡ cond b 0 n → c + m ≡ n
left_of true c n m e f = omega (arith, e, f)
left_of false c n m e f = omega (arith, e, f)

pub weighs : (classes : ℕ) (look : Look) (byte : ℕ) (old new : ByteSet) (n : ℕ) → n + size new ≡ size old
    → ((x : ℕ) → x < 256 → has new x ≡ cond (alike_in classes look byte x) 0 (has old x))
    → (class : ByteSet) → ((x : ℕ) → x < 256 → has class x ≡ cond (alike_in classes look byte x) (has old x) 0) → n ≡ size class
weighs classes look byte old new n sum left class taken =
    let both : size class + size new ≡ size old =
    split_size class new old (λ x lt. left_of (alike_in classes look byte x) (has class x) (has old x) (has new x) (taken x lt) (left x lt))
    in
    omega (arith, sum, both)

-- The bytes below a bound are as many as it says.
sum_under : (f : ℕ → ℕ) (bound a k : ℕ) → ((x : ℕ) → a ≤ x → x < a + k → f x ≡ cond (nat_lt x bound) 1 0) → sum_by f (range_with_len a k) ≡ min (bound - a) k
sum_under f bound a zero each = omega arith
sum_under f bound a (suc k) each =
    let one : sum_by f (range_with_len a (suc k)) ≡ f a + sum_by f (range_with_len (a + 1) k) = sum_by-cons f a (range_with_len (a + 1) k) in
    let rest : sum_by f (range_with_len (a + 1) k) ≡ min (bound - (a + 1)) k =
    sum_under f bound (a + 1) k (λ x le lt. each x (omega (arith, le)) (omega (arith, lt)))
    in
    let here : f a ≡ cond (nat_lt a bound) 1 0 = each a (omega arith) (omega arith) in grind (arith, one, rest, here)

at_most : (bound : ℕ) → bound ≤ 256 → min (bound - 0) 256 ≡ bound
at_most bound few = omega (arith, few)

pub size_under : (bytes : ByteSet) (bound : ℕ) → bound ≤ 256 → ((x : ℕ) → x < 256 → has bytes x ≡ cond (nat_lt x bound) 1 0) → size bytes ≡ bound
unfolding size
size_under bytes bound few each = sum_under (has bytes) bound 0 256 (λ x le lt. each x lt) ∙ at_most bound few

pub size_all : (bytes : ByteSet) → ((x : ℕ) → x < 256 → has bytes x ≡ 1) → size bytes ≡ 256
size_all bytes each = size_under bytes 256 (omega arith) (λ x lt. each x lt ∙ ap (λ (b : Bool). cond b 1 0) (sym (lt_true x 256 lt)))

-- Those that are not below it are the others.
pub size_above : (all below above : ByteSet) (bound : ℕ) → bound ≤ 256 → ((x : ℕ) → x < 256 → has all x ≡ 1) → ((x : ℕ) → x < 256 → has below x ≡ cond (nat_lt x bound) 1 0)
    → ((x : ℕ) → x < 256 → has above x ≡ has all x - has below x) → bound + size above ≡ 256
size_above all below above bound few each under over =
    let known : size below ≡ bound = size_under below bound few under in
    let whole : size all ≡ 256 = size_all all each in
    let split : size below + size above ≡ size all = split_size below above all (λ x lt. part (nat_lt x bound) (has all x) (has below x) (has above x) (each x lt) (under x lt) (over x lt)) in
    omega (arith, known, whole, split)
  where
    part : (b : Bool) (n m r : ℕ) → n ≡ 1 → m ≡ cond b 1 0 → r ≡ n - m → m + r ≡ n
    part true n m r e f g = omega (arith, e, f, g)
    part false n m r e f g = omega (arith, e, f, g)

-- The size of a set by those of its words, and a word without one bit, as the code has them.
pub size_by : (set : ByteSet) (a b c d : ℕ) → a ≡ bits_set (get_or set.words 0 0) → b ≡ bits_set (get_or set.words 1 0) → c ≡ bits_set (get_or set.words 2 0)
    → d ≡ bits_set (get_or set.words 3 0) → a + b + (c + d) ≡ size set
size_by set a b c d one two three four = rw (one, two, three, four) (size_of_words set)

pub cleared_here : (word place : ℕ) (c : Bool) → place < 64 → c ≡ false → bit_at (bit_and word (bit_not w64 (1 * 2 ^ place % 18446744073709551616))) place ≡ cond c (bit_at word place) 0
cleared_here word place c lt e = rw e (bit_at_clear_same w64 word place lt)

pub cleared_others : (word place i : ℕ) → place < 64 → i < 64 → i ≢ place → bit_at (bit_and word (bit_not w64 (1 * 2 ^ place % 18446744073709551616))) i ≡ bit_at word i
cleared_others word place i lt small ne = bit_at_clear_other w64 word place lt i small ne

-- Words whose bits are set at equal distances.

-- A test that passes below a number, by trying each.
upto : ℕ → (ℕ → Bool) → Bool
upto zero test = true
upto (suc n) test = cond (test n) (upto n test) false

upto-last : (a b : Bool) → cond a b false ≡ true → a ≡ true
upto-last true b e = refl
upto-last false b e = e

upto-rest : (a b : Bool) → cond a b false ≡ true → b ≡ true
upto-rest true b e = e
upto-rest false b e = absurd (cc)

passes : (n : ℕ) (test : ℕ → Bool) → upto n test ≡ true → (i : ℕ) → i < n → test i ≡ true
unfolding upto
passes zero test e i lt = absurd (omega (arith, lt))
passes (suc n) test e i lt =
    elim (same_or i n) [
      | inl is ↦ ap test is ∙ upto-last (test n) (upto n test) e
      | inr ne ↦ passes n test (upto-rest (test n) (upto n test) e) i (omega (arith, ne, lt))
    ]

are_equal : (m n : ℕ) → nat_eq m n ≡ true → m ≡ n
are_equal m n e = grind (arith, nat_tests)

-- A word with a bit at each place of one remainder.
abbrev IsAt : ℕ → ℕ → ℕ → ℕ → Bool
IsAt word divisor remainder i = nat_eq (bit_at word i) (cond (remainder == i % divisor) 1 0)

at : (word divisor remainder : ℕ) → upto 64 (IsAt word divisor remainder) ≡ true → (i : ℕ) → i < 64 → bit_at word i ≡ cond (remainder == i % divisor) 1 0
at word divisor remainder e i lt = are_equal _ _ (passes 64 (IsAt word divisor remainder) e i lt)

pub second : (r i : ℕ) → r < 2 → i < 64 → bit_at (6148914691236517205 * 2 ^ r % 18446744073709551616) i ≡ cond (r == i % 2) 1 0
unfolding upto
second zero i lt less = at 6148914691236517205 2 0 refl i less
second (suc zero) i lt less = at 12297829382473034410 2 1 refl i less
second (suc (suc r)) i lt less = absurd (omega (arith, lt))

pub fourth : (r i : ℕ) → r < 4 → i < 64 → bit_at (1229782938247303441 * 2 ^ r % 18446744073709551616) i ≡ cond (r == i % 4) 1 0
unfolding upto
fourth zero i lt less = at 1229782938247303441 4 0 refl i less
fourth (suc zero) i lt less = at 2459565876494606882 4 1 refl i less
fourth (suc (suc zero)) i lt less = at 4919131752989213764 4 2 refl i less
fourth (suc (suc (suc zero))) i lt less = at 9838263505978427528 4 3 refl i less
fourth (suc (suc (suc (suc r)))) i lt less = absurd (omega (arith, lt))

pub eighth : (r i : ℕ) → r < 8 → i < 64 → bit_at (72340172838076673 * 2 ^ r % 18446744073709551616) i ≡ cond (r == i % 8) 1 0
unfolding upto
eighth zero i lt less = at 72340172838076673 8 0 refl i less
eighth (suc zero) i lt less = at 144680345676153346 8 1 refl i less
eighth (suc (suc zero)) i lt less = at 289360691352306692 8 2 refl i less
eighth (suc (suc (suc zero))) i lt less = at 578721382704613384 8 3 refl i less
eighth (suc (suc (suc (suc zero)))) i lt less = at 1157442765409226768 8 4 refl i less
eighth (suc (suc (suc (suc (suc zero))))) i lt less = at 2314885530818453536 8 5 refl i less
eighth (suc (suc (suc (suc (suc (suc zero)))))) i lt less = at 4629771061636907072 8 6 refl i less
eighth (suc (suc (suc (suc (suc (suc (suc zero))))))) i lt less = at 9259542123273814144 8 7 refl i less
eighth (suc (suc (suc (suc (suc (suc (suc (suc r)))))))) i lt less = absurd (omega (arith, lt))

even_places : (i : ℕ) → i < 64 → bit_at 6148914691236517205 i ≡ cond (0 == i % 2) 1 0
unfolding upto
even_places i lt = at 6148914691236517205 2 0 refl i lt

odd_places : (i : ℕ) → i < 64 → bit_at 12297829382473034410 i ≡ cond (1 == i % 2) 1 0
unfolding upto
odd_places i lt = at 12297829382473034410 2 1 refl i lt

-- Ones of a word that are masked, so that only the places of one parity are left.
masked_bit : (r x u i : ℕ) (b c : Bool) → r < 2 → u ≡ cond (r == i % 2) 1 0 → x ≡ cond b 1 0 → (r ≡ i % 2 → b ≡ c)
    → min x u ≡ cond (r == i % 2) (cond c 1 0) 0
masked_bit r x u i b c lt e f on =
    elim (same_or r (i % 2)) [
      | inl is ↦ grind (arith, is, e, f, on is)
      | inr isn't ↦ grind (arith, isn't, e, f)
    ]

pub odd_has : (odd bound least i : ℕ) → i < 64 → odd ≡ min (bound - (least + 128)) 32
    → bit_at (bit_and (2 ^ min (2 * odd) 64 - 1) 12297829382473034410) i
    ≡ cond (1 == i % 2) (cond (nat_lt (least + rotated_right_1 i) bound) 1 0) 0
odd_has odd bound least i lt e =
    bit_at_and _ _ i
    ∙ masked_bit 1 _ _ i _ _ (omega arith) (odd_places i lt) (word_bits (2 * odd) i lt)
    (λ is. same_test i (2 * odd) (least + rotated_right_1 i) bound (λ h. omega (arith, h, e, is, lt)) (λ h. omega (arith, h, e, is, lt)))

even_has : (even bound least i : ℕ) → i < 64 → even ≡ min (bound - least) 32
    → bit_at (bit_and (2 ^ min (2 * even) 64 - 1) 6148914691236517205) i
    ≡ cond (0 == i % 2) (cond (nat_lt (least + rotated_right_1 i) bound) 1 0) 0
even_has even bound least i lt e =
    bit_at_and _ _ i
    ∙ masked_bit 0 _ _ i _ _ (omega arith) (even_places i lt) (word_bits (2 * even) i lt)
    (λ is. same_test i (2 * even) (least + rotated_right_1 i) bound (λ h. omega (arith, h, e, is, lt)) (λ h. omega (arith, h, e, is, lt)))

-- A place is of one parity or of the other.
of_both : (i t : ℕ) → max (cond (0 == i % 2) t 0) (cond (1 == i % 2) t 0) ≡ t
of_both i t = by (i % 2) (omega arith)
  where
    by : (r : ℕ) → r < 2 → max (cond (0 == r) t 0) (cond (1 == r) t 0) ≡ t
    by zero lt = omega arith
    by (suc zero) lt = omega arith
    by (suc (suc r)) lt = absurd (omega (arith, lt))

pub halves_has : (even odds bound least i : ℕ) → i < 64 → even ≡ min (bound - least) 32
    → bit_at odds i ≡ cond (1 == i % 2) (cond (nat_lt (least + rotated_right_1 i) bound) 1 0) 0
    → bit_at (bit_or (bit_and (2 ^ min (2 * even) 64 - 1) 6148914691236517205) odds) i ≡ cond (nat_lt (least + rotated_right_1 i) bound) 1 0
halves_has even odds bound least i lt e f =
    bit_at_or _ _ i ∙ ap₂ (λ (x y : ℕ). max x y) (even_has even bound least i lt e) f ∙ of_both i _

-- Bytes that are from a number of 128 up to the next are odd.
pub only_odd : (w first next least i : ℕ) → i < 64 → least ≤ 96 → 128 ≤ first
    → min w (cond (1 == i % 2) (cond (nat_lt (least + rotated_right_1 i) next) 1 0) 0) - cond (1 == i % 2) (cond (nat_lt (least + rotated_right_1 i) first) 1 0) 0
    ≡ min w (cond (nat_lt (least + rotated_right_1 i) next) 1 0) - cond (nat_lt (least + rotated_right_1 i) first) 1 0
only_odd w first next least i lt low from = by (i % 2) refl
  where
    below : 0 ≡ i % 2 → nat_lt (least + rotated_right_1 i) first ≡ true
    below is = same_test (least + rotated_right_1 i) first 0 1 (λ h. omega arith) (λ h. omega (arith, h, is, lt, low, from))

    by : (r : ℕ) → r ≡ i % 2
        → min w (cond (1 == r) (cond (nat_lt (least + rotated_right_1 i) next) 1 0) 0) - cond (1 == r) (cond (nat_lt (least + rotated_right_1 i) first) 1 0) 0
        ≡ min w (cond (nat_lt (least + rotated_right_1 i) next) 1 0) - cond (nat_lt (least + rotated_right_1 i) first) 1 0
    by zero is = rw (below is) (grind arith)
    by (suc zero) is = refl
    by (suc (suc r)) is = absurd (omega (arith, is))

-- The same word four times.
pub repeated_has : (word i j : ℕ) → i < 4 → bit_at (get_or (word ∷ word ∷ word ∷ word ∷ []) i 0) j ≡ bit_at word j
repeated_has word i j lt = each_word word word word word (λ (k w : ℕ). bit_at w j ≡ bit_at word j) refl refl refl refl i lt

-- What both sets have, where one has the bytes of a remainder.
pub both_remainder : (n m w : ℕ) (b c : Bool) → n < 2 → b ≡ c → w ≡ cond c 1 0 → m ≡ min n w → m ≡ cond b n 0
both_remainder n m w b c small same is e = e ∙ ap (min n) is ∙ on_side b c n small same
