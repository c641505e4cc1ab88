-- Bytes as the list of the values at each offset: their bits, numbers of two bytes, and the parts of a battle.
use Rattle.std.proofs.Common.{add-one, ◌≡◌, ℕ, ◌≤◌, zero, suc, ◌+◌, ◌*◌, ◌/◌, ◌%◌, ◌<◌, List, [], ◌∷◌, ap, arith, drop, drop-cons, take, length, slice_index, ◌∙◌, Bool, false, refl, slice_index_or, true, ◌==◌, inl, inr, map, replicate, ◌++◌, ◌-◌, ◌≢◌, ◌⊎◌, flat_map, subst, sym, if◌then◌else◌}
use Rattle.std.proofs.Math.ListN.{drop_of_length-le}
use Rattle.std.proofs.lemmas.List.{length-drop, length-take, get_or-replicate, take-replicate}
use Rattle.gen1_layout.specs.LoadingLaws.{AreBytes}
use Rattle.std.specs.Int.{bit_at}
use Rattle.std.proofs.lemmas.Nat.Bits.{bit_at-suc, bit_at-zero, bit_at_lowest}
use Rattle.gen1_machine.specs.Rules.{bit_of}
use Rattle.gen1_machine.specs.Layout.{number_of_bits, member_block, member_blocks, active_block, active_block_of, bytes_of, header_block, party_bytes}
use Rattle.gen1_stats.specs.declared.member.KnownMove.{KnownMove}
use Rattle.gen1_stats.specs.Members.{nobody, nothing_known, IsBetween, Member}
use Rattle.gen1_machine.specs.State.{known_in, member_at, Party, State}
use Rattle.gen1_layout.specs.Loading.{member_bytes, places_of, active_bytes, header_of, side_one, side_two}
use Rattle.std.proofs.Math.Seq.{drop-append_seam, take-length}

-- This many bytes from an offset on, one by one.
abbrev pub bytes_from : ℕ → ℕ → List ℕ → List ℕ
bytes_from zero at bytes = []
bytes_from (suc n) at bytes = slice_index bytes at ∷ bytes_from n (at + 1) bytes

pub drop-bytes_from : (n at : ℕ) (bytes : List ℕ) → length bytes ≡ at + n → drop at bytes ≡ bytes_from n at bytes
drop-bytes_from zero at bytes long = drop_of_length-le bytes (omega arith)
drop-bytes_from (suc n) at bytes long =
    drop-cons bytes at 0 (omega arith) ∙ ap (λ rest. slice_index bytes at ∷ rest) (rw (← add-one at) (drop-bytes_from n (at + 1) bytes (omega arith)))

-- A list of this length, one by one.
pub listed : (n : ℕ) (bytes : List ℕ) → length bytes ≡ n → bytes ≡ bytes_from n 0 bytes
listed n bytes long = drop-bytes_from n 0 bytes (omega (arith, long))

pub two_low : (a b : ℕ) → a < 256 → (a + 256 * b) % 256 ≡ a
two_low a b low = omega arith

pub two_high : (a b : ℕ) → a < 256 → b < 256 → (a + 256 * b) / 256 % 256 ≡ b
two_high a b low high = omega arith

pub two_back : (n : ℕ) → n < 65536 → n % 256 + 256 * (n / 256 % 256) ≡ n
two_back n small = omega arith

-- A part of bytes is bytes

bytes_of_drop : (k : ℕ) (bytes : List ℕ) → AreBytes bytes → AreBytes (drop k bytes)
bytes_of_drop zero bytes fit = fit
bytes_of_drop (suc k) [] fit = fit
bytes_of_drop (suc k) (byte ∷ bytes) fit = bytes_of_drop k bytes (λ j. fit (suc j))

bytes_of_take : (n : ℕ) (bytes : List ℕ) → AreBytes bytes → AreBytes (take n bytes)
bytes_of_take zero bytes fit j = omega arith
bytes_of_take (suc n) [] fit j = omega arith
bytes_of_take (suc n) (byte ∷ bytes) fit zero = fit 0
bytes_of_take (suc n) (byte ∷ bytes) fit (suc j) = bytes_of_take n bytes (λ i. fit (suc i)) j

pub part_bytes : (from n : ℕ) (bytes : List ℕ) → AreBytes bytes → AreBytes (take n (drop from bytes))
part_bytes from n bytes fit = bytes_of_take n (drop from bytes) (bytes_of_drop from bytes fit)

pub part_length : (from n : ℕ) (bytes : List ℕ) → from + n ≤ length bytes → length (take n (drop from bytes)) ≡ n
part_length from n bytes within = omega (arith, length-take n (drop from bytes), length-drop from bytes)

-- A number and its bits, the lowest first.

pub power : ℕ → ℕ
power zero = 1
power (suc c) = 2 * power c

-- This many bits from a place on.
abbrev pub bits_from : ℕ → ℕ → ℕ → List Bool
bits_from zero i n = []
bits_from (suc c) i n = (bit_at n i == 1) ∷ bits_from c (suc i) n

shifted : (c i n : ℕ) → bits_from c (suc i) n ≡ bits_from c i (n / 2)
shifted zero i n = refl
shifted (suc c) i n = rw (bit_at-suc n i, shifted c (suc i) n) refl

parity : (q : ℕ) → q < 2 → bit_of (q == 1) ≡ q
parity zero low = refl
parity (suc zero) low = refl
parity (suc (suc q)) low = absurd (omega arith)

number_back : (c n : ℕ) → n < power c → number_of_bits (bits_from c 0 n) ≡ n
unfolding power
number_back zero n low = omega arith
number_back (suc c) n low =
    let rest : number_of_bits (bits_from c 0 (n / 2)) ≡ n / 2 = number_back c (n / 2) (omega arith) in
    let first : bit_of (n % 2 == 1) ≡ n % 2 = parity (n % 2) (omega arith) in
    rw (shifted c 0 n, rest, bit_at_lowest n, first) (omega arith)

pub bits_17 : (n : ℕ) → n < 131072 → number_of_bits (bits_from 17 0 n) ≡ n
unfolding power
bits_17 n low = number_back 17 n low

half : (b : Bool) (n : ℕ) → (bit_of b + 2 * n) / 2 ≡ n
half false n = omega arith
half true n = omega arith

lowest : (b : Bool) (n : ℕ) → ((bit_of b + 2 * n) % 2 == 1) ≡ b
lowest false n = let even : (0 + 2 * n) % 2 ≡ 0 = omega arith in rw even refl
lowest true n = let odd : (1 + 2 * n) % 2 ≡ 1 = omega arith in rw odd refl

-- Each bit is the one that the number was made from.
pub bit_back : (bits : List Bool) (k : ℕ) → (bit_at (number_of_bits bits) k == 1) ≡ slice_index_or bits k false
bit_back [] k = rw (bit_at-zero k) refl
bit_back (b ∷ bits) zero = rw (bit_at_lowest (bit_of b + 2 * number_of_bits bits)) (lowest b (number_of_bits bits))
bit_back (b ∷ bits) (suc k) =
    rw (bit_at-suc (bit_of b + 2 * number_of_bits bits) k, half b (number_of_bits bits)) (bit_back bits k)

bits_low : (bits : List Bool) → number_of_bits bits < power (length bits)
unfolding power
bits_low [] = omega arith
bits_low (false ∷ bits) = let low = bits_low bits in omega arith
bits_low (true ∷ bits) = let low = bits_low bits in omega arith

pub bits_17-low : (bits : List Bool) → length bits ≡ 17 → number_of_bits bits < 131072
unfolding power
bits_17-low bits long = rw long at (bits_low bits)

-- A number of four bytes.
pub four_back : (n : ℕ) → n < 131072 → n % 256 + 256 * (n / 256 % 256) + 65536 * (n / 65536 % 256 + 256 * (n / 65536 / 256 % 256)) ≡ n
four_back n low = omega arith

-- The bytes at a place of a side with these members.

pub at_place : (side : List ℕ) (place : ℕ) → 1 ≤ place → place ≤ 6 → member_bytes place side ≡ slice_index_or (places_of side) (place - 1) []
at_place side zero low high = absurd (omega arith)
at_place side (suc zero) low high = refl
at_place side (suc (suc zero)) low high = refl
at_place side (suc (suc (suc zero))) low high = refl
at_place side (suc (suc (suc (suc zero)))) low high = refl
at_place side (suc (suc (suc (suc (suc zero))))) low high = refl
at_place side (suc (suc (suc (suc (suc (suc zero)))))) low high = refl
at_place side (suc (suc (suc (suc (suc (suc (suc more))))))) low high = absurd (omega arith)

-- A member's block if there is a member, and zeros otherwise.
abbrev HoldsAt : List Member → List (List ℕ) → ℕ → Type 0
HoldsAt members blocks j =
    ((j < length members) × (slice_index_or blocks j [] ≡ member_block (slice_index_or members j nobody)))
    ⊎ ((length members ≤ j) × (slice_index_or blocks j [] ≡ replicate 24 0))

block_at : (n j : ℕ) (members : List Member) → j < n → n ≤ 6 → HoldsAt members (take n (map member_block members ++ replicate 6 (replicate 24 0))) j
block_at n j [] low few =
    inr (omega arith, ap (λ (blocks : List (List ℕ)). slice_index_or blocks j []) (take-replicate n 6 (replicate 24 0) few) ∙ get_or-replicate n j (replicate 24 0) [] low)
block_at zero j (m ∷ members) low few = absurd (omega arith)
block_at (suc n) zero (m ∷ members) low few = inl (omega arith, refl)
block_at (suc n) (suc j) (m ∷ members) low few =
    elim (block_at n j members (omega arith) (omega arith)) [
      | inl is ↦ inl (let less = is.0 in omega arith, is.1)
      | inr none ↦ inr (let more = none.0 in omega arith, none.1)
    ]

-- A place of a side that holds anything holds one of its members.
pub held : (side : List ℕ) (members : List Member) (place : ℕ) → places_of side ≡ member_blocks members → IsBetween 1 6 place
    → slice_index (member_bytes place side) 0 ≢ 0
    → (place ≤ length members) × (member_bytes place side ≡ member_block (slice_index_or members (place - 1) nobody))
held side members place same range some =
    let low = range.0 in
    let high = range.1 in
    let here : member_bytes place side ≡ slice_index_or (member_blocks members) (place - 1) [] =
    at_place side place low high ∙ ap (λ (blocks : List (List ℕ)). slice_index_or blocks (place - 1) []) same in
    elim (block_at 6 (place - 1) members (omega arith) (omega arith)) [
      | inl is ↦ (let less = is.0 in omega arith, here ∙ is.1)
      | inr none ↦ absurd (some (ap (λ b. slice_index b 0) (here ∙ none.1)))
    ]

-- The place of a member holds that member.
pub holds : (side : List ℕ) (members : List Member) (place : ℕ) → places_of side ≡ member_blocks members → length members ≤ 6
    → IsBetween 1 (length members) place → member_bytes place side ≡ member_block (slice_index_or members (place - 1) nobody)
holds side members place same few range =
    let low = range.0 in
    let high = range.1 in
    let here : member_bytes place side ≡ slice_index_or (member_blocks members) (place - 1) [] =
    at_place side place low (omega arith) ∙ ap (λ (blocks : List (List ℕ)). slice_index_or blocks (place - 1) []) same in
    elim (block_at 6 (place - 1) members (omega arith) (omega arith)) [
      | inl is ↦ here ∙ is.1
      | inr none ↦ absurd (let more = none.0 in omega arith)
    ]

-- A slot with a number is one of the moves.
known_below : (j : ℕ) (moves : List KnownMove) → (slice_index_or moves j nothing_known).id ≢ 0 → j < length moves
known_below j [] some = absurd (some refl)
known_below zero (k ∷ moves) some = omega arith
known_below (suc j) (k ∷ moves) some = let less = known_below j moves some in omega arith

pub known_slot : (slot : ℕ) (moves : List KnownMove) → 1 ≤ slot → (known_in slot moves).id ≢ 0 → slot ≤ length moves
known_slot slot moves low some = let less = known_below (slot - 1) moves some in omega arith

-- The bytes as their parts, and the parts of a state's packing.

abbrev nothing : List ℕ
nothing = replicate 24 0

abbrev pub joined : List (List ℕ) → List ℕ
joined blocks = flat_map (λ (block : List ℕ). block) blocks

-- A side is its places and its active block.
pub side_split : (side : List ℕ) → length side ≡ 180 → side ≡ joined (places_of side) ++ active_bytes side
side_split side long = subst (λ (l : List ℕ). l ≡ joined (places_of l) ++ active_bytes l) (sym (listed 180 side long)) refl

-- The whole is its header and its sides.
pub form_split : (form : List ℕ) → length form ≡ 384 → form ≡ header_of form ++ side_one form ++ side_two form
form_split form long = subst (λ (l : List ℕ). l ≡ header_of l ++ side_one l ++ side_two l) (sym (listed 384 form long)) refl

-- Six blocks

abbrev AreBlocks : List (List ℕ) → Type 0
AreBlocks [] = Unit {0}
AreBlocks (block ∷ blocks) = (length block ≡ 24) × AreBlocks blocks

pub record SplitSide (blocks : List (List ℕ)) (block : List ℕ) : Type 0 where
  pub places : places_of (joined blocks ++ block) ≡ blocks
  pub active : active_bytes (joined blocks ++ block) ≡ block
  pub full : length (joined blocks ++ block) ≡ 180

six_literal : (b1 b2 b3 b4 b5 b6 a : List ℕ)
    → SplitSide (bytes_from 24 0 b1 ∷ bytes_from 24 0 b2 ∷ bytes_from 24 0 b3 ∷ bytes_from 24 0 b4 ∷ bytes_from 24 0 b5 ∷ bytes_from 24 0 b6 ∷ []) (bytes_from 36 0 a)
six_literal b1 b2 b3 b4 b5 b6 a = record { places = refl; active = refl; full = refl }

pub six_split : (blocks : List (List ℕ)) (active : List ℕ) → length blocks ≡ 6 → AreBlocks blocks → length active ≡ 36 → SplitSide blocks active
six_split (b1 ∷ b2 ∷ b3 ∷ b4 ∷ b5 ∷ b6 ∷ []) active six are full =
    subst (λ (b : List ℕ). SplitSide (b ∷ b2 ∷ b3 ∷ b4 ∷ b5 ∷ b6 ∷ []) active) (sym (listed 24 b1 are.0))
    (subst (λ (b : List ℕ). SplitSide (bytes_from 24 0 b1 ∷ b ∷ b3 ∷ b4 ∷ b5 ∷ b6 ∷ []) active) (sym (listed 24 b2 are.1.0))
    (subst (λ (b : List ℕ). SplitSide (bytes_from 24 0 b1 ∷ bytes_from 24 0 b2 ∷ b ∷ b4 ∷ b5 ∷ b6 ∷ []) active) (sym (listed 24 b3 are.1.1.0))
    (subst (λ (b : List ℕ). SplitSide (bytes_from 24 0 b1 ∷ bytes_from 24 0 b2 ∷ bytes_from 24 0 b3 ∷ b ∷ b5 ∷ b6 ∷ []) active) (sym (listed 24 b4 are.1.1.1.0))
    (subst (λ (b : List ℕ). SplitSide (bytes_from 24 0 b1 ∷ bytes_from 24 0 b2 ∷ bytes_from 24 0 b3 ∷ bytes_from 24 0 b4 ∷ b ∷ b6 ∷ []) active) (sym (listed 24 b5 are.1.1.1.1.0))
    (subst (λ (b : List ℕ). SplitSide (bytes_from 24 0 b1 ∷ bytes_from 24 0 b2 ∷ bytes_from 24 0 b3 ∷ bytes_from 24 0 b4 ∷ bytes_from 24 0 b5 ∷ b ∷ []) active) (sym (listed 24 b6 are.1.1.1.1.1.0))
    (subst (λ (a : List ℕ). SplitSide (bytes_from 24 0 b1 ∷ bytes_from 24 0 b2 ∷ bytes_from 24 0 b3 ∷ bytes_from 24 0 b4 ∷ bytes_from 24 0 b5 ∷ bytes_from 24 0 b6 ∷ []) a) (sym (listed 36 active full))
    (six_literal b1 b2 b3 b4 b5 b6 active)))))))
six_split [] active six are full = absurd (omega arith)
six_split (b1 ∷ []) active six are full = absurd (omega arith)
six_split (b1 ∷ b2 ∷ []) active six are full = absurd (omega arith)
six_split (b1 ∷ b2 ∷ b3 ∷ []) active six are full = absurd (omega arith)
six_split (b1 ∷ b2 ∷ b3 ∷ b4 ∷ []) active six are full = absurd (omega arith)
six_split (b1 ∷ b2 ∷ b3 ∷ b4 ∷ b5 ∷ []) active six are full = absurd (omega arith)
six_split (b1 ∷ b2 ∷ b3 ∷ b4 ∷ b5 ∷ b6 ∷ b7 ∷ more) active six are full = absurd (omega arith)

-- The blocks of a side's members

zeros_are : (n : ℕ) → (length (replicate n nothing) ≡ n) × AreBlocks (replicate n nothing)
zeros_are zero = (refl, tt)
zeros_are (suc n) = let rest = zeros_are n in (let is = rest.0 in omega arith, (refl, rest.1))

blocks_are : (n : ℕ) (members : List Member) → n ≤ 6
    → (length (take n (map member_block members ++ replicate 6 nothing)) ≡ n) × AreBlocks (take n (map member_block members ++ replicate 6 nothing))
blocks_are n [] few = let same = sym (take-replicate n 6 nothing few) in
    subst (λ (bs : List (List ℕ)). (length bs ≡ n) × AreBlocks bs) same (zeros_are n)
blocks_are zero (m ∷ members) few = (refl, tt)
blocks_are (suc n) (m ∷ members) few = let rest = blocks_are n members (omega arith) in (let is = rest.0 in omega arith, (refl, rest.1))

active_full : (t : Party) → length (active_block_of t) ≡ 36
active_full t = by (t.active.place == 0)
  where
    by : (b : Bool) → length (if b then replicate 36 0 else active_block (member_at t.active.place t) t.active) ≡ 36
    by true = refl
    by false = refl

pub party_split : (t : Party) → SplitSide (member_blocks t.members) (active_block_of t)
party_split t = let are = blocks_are 6 t.members (omega arith) in six_split (member_blocks t.members) (active_block_of t) are.0 are.1 (active_full t)

-- The parts of a state's packing

take_front : (xs ys : List ℕ) → take (length xs) (xs ++ ys) ≡ xs
take_front [] ys = refl
take_front (x ∷ xs) ys = ap (λ (rest : List ℕ). x ∷ rest) (take_front xs ys)

pub record PartsOf (s : State) : Type 0 where
  pub header : header_of (bytes_of s) ≡ header_block s
  pub one : side_one (bytes_of s) ≡ party_bytes s.field.one
  pub two : side_two (bytes_of s) ≡ party_bytes s.field.two

pub parts_of_state : (s : State) → PartsOf s
unfolding bytes_of
parts_of_state s =
    let one = party_split s.field.one in
    let two = party_split s.field.two in
    record {
      header = refl;
      one =
          subst (λ (n : ℕ). take n (party_bytes s.field.one ++ party_bytes s.field.two) ≡ party_bytes s.field.one) one.full
          (take_front (party_bytes s.field.one) (party_bytes s.field.two));
      two =
          ap (λ (l : List ℕ). take 180 l)
          (subst (λ (n : ℕ). drop n (party_bytes s.field.one ++ party_bytes s.field.two) ≡ party_bytes s.field.two) one.full
          (drop-append_seam (party_bytes s.field.one) (party_bytes s.field.two)))
          ∙ subst (λ (n : ℕ). take n (party_bytes s.field.two) ≡ party_bytes s.field.two) two.full (take-length (party_bytes s.field.two));
    }
