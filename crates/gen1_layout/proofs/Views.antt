-- A part of a list, and the parts of a battle, after one part is rewritten.
use Rattle.std.proofs.Common.{List, ap, append_assoc, arith, drop, length, length-append, length-drop, sym, take, take-append-drop, ℕ, ◌++◌, ◌+◌, ◌-◌, ◌≡◌, ◌≤◌, ◌∙◌, lit≤, refl, suc, zero}
use Rattle.std.proofs.lemmas.List.{drop-append-le, drop-drop, drop-take, drop_at, length-take-le, take-append-le, take_at}
use Rattle.std.specs.List.{refill}
use Rattle.gen1_layout.specs.Parts.{part, rewritten, active_of, bytes_of_side, bytes_of_sides, in_order, joined, member_at, member_of, parts_of, refilled, side_at, side_of, side_parts, with_active, with_member, with_side, with_sides, Parts, part-part, side_one-joined, side_two-joined}
use Rattle.std.specs.Prelude.{slice_set}
use Rattle.gen1_machine.specs.declared.side.Side.{Side}
use Rattle.gen1_machine.specs.declared.side.Side.TheVariants.{One, Two}
use Rattle.gen1_machine.specs.Sides.{other}

-- A part of a list after a part of it was rewritten.

pub refill-same : (n : ℕ) (xs ws : List ℕ) → length ws ≡ n → refill n xs ws ≡ ws
refill-same n xs ws e = take_at ws (drop (length ws) xs) n e

pub length-refill : (n : ℕ) (xs ws : List ℕ) → length xs ≡ n → length (refill n xs ws) ≡ n
length-refill n xs ws e =
    length-take-le n (ws ++ drop (length ws) xs)
    (omega (arith, length-append ws (drop (length ws) xs), length-drop (length ws) xs))

pub length-part : (a n : ℕ) (xs : List ℕ) → a + n ≤ length xs → length (part a n xs) ≡ n
length-part a n xs within = length-take-le n (drop a xs) (omega (arith, length-drop a xs))

-- A part of the first of two lists, and of the second

pub part-first_of : (at n : ℕ) (xs ys : List ℕ) → at + n ≤ length xs → part at n (xs ++ ys) ≡ part at n xs
part-first_of at n xs ys within =
    ap (λ (l : List ℕ). take n l) (drop-append-le at xs ys (omega arith))
    ∙ take-append-le n (drop at xs) ys (omega (arith, length-drop at xs))

pub part-second_of : (m at n : ℕ) (xs ys : List ℕ) → length xs ≡ m → part (m + at) n (xs ++ ys) ≡ part at n ys
part-second_of m at n xs ys long =
    ap (λ (l : List ℕ). take n l) (sym (drop-drop at m (xs ++ ys)) ∙ ap (λ (l : List ℕ). drop at l) (drop_at xs ys m long))

module _ (a n : ℕ) (w xs : List ℕ) (within : a + n ≤ length xs) where
  abbrev pub fresh : List ℕ
  fresh = refill n (part a n xs) w

  pub length-fresh : length fresh ≡ n
  length-fresh = length-refill n (part a n xs) w (length-part a n xs within)

  abbrev front : List ℕ
  front = take a xs

  abbrev back : List ℕ
  back = drop n (drop a xs)

  pub length-rewritten : length (rewritten a n w xs) ≡ length xs
  length-rewritten =
      omega (arith, length-append front (fresh ++ back), length-append fresh back, length-take-le a xs (omega arith), length-fresh, length-drop n (drop a xs), length-drop a xs)

  pub part-below : (b m : ℕ) → b + m ≤ a → part b m (rewritten a n w xs) ≡ part b m xs
  part-below b m below =
      let rest = fresh ++ back in
      let long = length-take-le a xs (omega arith) in
      let cut : take (b + m) (front ++ rest) ≡ take (b + m) front = take-append-le (b + m) front rest (omega (arith, long)) in
      let same : take (b + m) front ≡ take (b + m) xs =
      sym (take-append-le (b + m) front (drop a xs) (omega (arith, long))) ∙ ap (λ (l : List ℕ). take (b + m) l) (take-append-drop a xs) in
      sym (drop-take b m (rewritten a n w xs)) ∙ ap (λ (l : List ℕ). drop b l) (cut ∙ same) ∙ drop-take b m xs

  pub part-above : (b m : ℕ) → a + n ≤ b → part b m (rewritten a n w xs) ≡ part b m xs
  part-above b m above =
      let whole : rewritten a n w xs ≡ (front ++ fresh) ++ back = sym (append_assoc front fresh back) in
      let long : length (front ++ fresh) ≡ a + n = omega (arith, length-append front fresh, length-take-le a xs (omega arith), length-fresh) in
      let split : b ≡ (a + n) + (b - (a + n)) = omega arith in
      let skip : (l : List ℕ) → drop b l ≡ drop (b - (a + n)) (drop (a + n) l) =
      λ l. ap (λ (k : ℕ). drop k l) split ∙ sym (drop-drop (b - (a + n)) (a + n) l) in
      let tail : drop (a + n) (rewritten a n w xs) ≡ drop (a + n) xs =
      ap (λ (l : List ℕ). drop (a + n) l) whole ∙ drop_at (front ++ fresh) back (a + n) long ∙ drop-drop n a xs in
      ap (λ (l : List ℕ). take m l) (skip (rewritten a n w xs) ∙ ap (λ (l : List ℕ). drop (b - (a + n)) l) tail ∙ sym (skip xs))

  -- A part within the written part.
  pub part-inside : (k m : ℕ) → k + m ≤ n → part (a + k) m (rewritten a n w xs) ≡ part k m fresh
  part-inside k m inside =
      let at : drop a (rewritten a n w xs) ≡ fresh ++ back = drop_at front (fresh ++ back) a (length-take-le a xs (omega arith)) in
      let step : drop (a + k) (rewritten a n w xs) ≡ drop k fresh ++ back =
      sym (drop-drop k a (rewritten a n w xs)) ∙ ap (λ (l : List ℕ). drop k l) at
      ∙ drop-append-le k fresh back (omega (arith, length-fresh)) in
      ap (λ (l : List ℕ). take m l) step ∙ take-append-le m (drop k fresh) back (omega (arith, length-drop k fresh, length-fresh))

  -- A part from the beginning of the written part.
  pub part-first : (m : ℕ) → m ≤ n → part a m (rewritten a n w xs) ≡ part 0 m fresh
  part-first m inside =
      let at : drop a (rewritten a n w xs) ≡ fresh ++ back = drop_at front (fresh ++ back) a (length-take-le a xs (omega arith)) in
      ap (λ (l : List ℕ). take m l) at ∙ take-append-le m fresh back (omega (arith, length-fresh))

  pub part-same : part a n (rewritten a n w xs) ≡ fresh
  part-same =
      ap (λ (l : List ℕ). take n l) (drop_at front (fresh ++ back) a (length-take-le a xs (omega arith))) ∙ take_at fresh back n length-fresh

-- A side below or above the written part stays as it was

side-below : (a n : ℕ) (w xs : List ℕ) → a + n ≤ length xs → (at : ℕ) → at + 180 ≤ a → side_parts at (rewritten a n w xs) ≡ side_parts at xs
side-below a n w xs within at h =
    let same = part-below a n w xs within in
    rw (same at 24 (omega arith), same (at + 24) 24 (omega arith), same (at + 48) 24 (omega arith), same (at + 72) 24 (omega arith), same (at + 96) 24 (omega arith), same (at + 120) 24 (omega arith), same (at + 144) 36 (omega arith)) refl

side-above : (a n : ℕ) (w xs : List ℕ) → a + n ≤ length xs → (at : ℕ) → a + n ≤ at → side_parts at (rewritten a n w xs) ≡ side_parts at xs
side-above a n w xs within at h =
    let same = part-above a n w xs within in
    rw (same at 24 (omega arith), same (at + 24) 24 (omega arith), same (at + 48) 24 (omega arith), same (at + 72) 24 (omega arith), same (at + 96) 24 (omega arith), same (at + 120) 24 (omega arith), same (at + 144) 36 (omega arith)) refl

-- A part of a side

active-written : (at : ℕ) (w xs : List ℕ) → at + 180 ≤ length xs
    → side_parts at (rewritten (at + 144) 36 w xs) ≡ record (side_parts at xs) { active = refill 36 (part (at + 144) 36 xs) w }
active-written at w xs h =
    let within : at + 144 + 36 ≤ length xs = omega arith in
    let below = part-below (at + 144) 36 w xs within in
    rw (below at 24 (omega arith), below (at + 24) 24 (omega arith), below (at + 48) 24 (omega arith), below (at + 72) 24 (omega arith), below (at + 96) 24 (omega arith), below (at + 120) 24 (omega arith), part-same (at + 144) 36 w xs within) refl

side-written : (at : ℕ) (w xs : List ℕ) → at + 180 ≤ length xs → side_parts at (rewritten at 180 w xs) ≡ side_parts 0 (refill 180 (part at 180 xs) w)
side-written at w xs h =
    let inside = part-inside at 180 w xs h in
    rw (part-first at 180 w xs h 24 (lit≤ tt), inside 24 24 (lit≤ tt), inside 48 24 (lit≤ tt), inside 72 24 (lit≤ tt), inside 96 24 (lit≤ tt), inside 120 24 (lit≤ tt), inside 144 36 (lit≤ tt)) refl

member-0-written : (at : ℕ) (w xs : List ℕ) → at + 180 ≤ length xs
    → side_parts at (rewritten at 24 w xs) ≡ record (side_parts at xs) { members = slice_set (side_parts at xs).members 0 (refill 24 (part at 24 xs) w) }
member-0-written at w xs h =
    let within : at + 24 ≤ length xs = omega arith in
    let above = part-above at 24 w xs within in
    rw (above (at + 24) 24 (omega arith), above (at + 48) 24 (omega arith), above (at + 72) 24 (omega arith), above (at + 96) 24 (omega arith), above (at + 120) 24 (omega arith), above (at + 144) 36 (omega arith), part-same at 24 w xs within) refl

member-1-written : (at : ℕ) (w xs : List ℕ) → at + 180 ≤ length xs
    → side_parts at (rewritten (at + 24) 24 w xs) ≡ record (side_parts at xs) { members = slice_set (side_parts at xs).members 1 (refill 24 (part (at + 24) 24 xs) w) }
member-1-written at w xs h =
    let within : at + 24 + 24 ≤ length xs = omega arith in
    let below = part-below (at + 24) 24 w xs within in
    let above = part-above (at + 24) 24 w xs within in
    rw (below at 24 (omega arith), above (at + 48) 24 (omega arith), above (at + 72) 24 (omega arith), above (at + 96) 24 (omega arith), above (at + 120) 24 (omega arith), above (at + 144) 36 (omega arith), part-same (at + 24) 24 w xs within) refl

member-2-written : (at : ℕ) (w xs : List ℕ) → at + 180 ≤ length xs
    → side_parts at (rewritten (at + 48) 24 w xs) ≡ record (side_parts at xs) { members = slice_set (side_parts at xs).members 2 (refill 24 (part (at + 48) 24 xs) w) }
member-2-written at w xs h =
    let within : at + 48 + 24 ≤ length xs = omega arith in
    let below = part-below (at + 48) 24 w xs within in
    let above = part-above (at + 48) 24 w xs within in
    rw (below at 24 (omega arith), below (at + 24) 24 (omega arith), above (at + 72) 24 (omega arith), above (at + 96) 24 (omega arith), above (at + 120) 24 (omega arith), above (at + 144) 36 (omega arith), part-same (at + 48) 24 w xs within) refl

member-3-written : (at : ℕ) (w xs : List ℕ) → at + 180 ≤ length xs
    → side_parts at (rewritten (at + 72) 24 w xs) ≡ record (side_parts at xs) { members = slice_set (side_parts at xs).members 3 (refill 24 (part (at + 72) 24 xs) w) }
member-3-written at w xs h =
    let within : at + 72 + 24 ≤ length xs = omega arith in
    let below = part-below (at + 72) 24 w xs within in
    let above = part-above (at + 72) 24 w xs within in
    rw (below at 24 (omega arith), below (at + 24) 24 (omega arith), below (at + 48) 24 (omega arith), above (at + 96) 24 (omega arith), above (at + 120) 24 (omega arith), above (at + 144) 36 (omega arith), part-same (at + 72) 24 w xs within) refl

member-4-written : (at : ℕ) (w xs : List ℕ) → at + 180 ≤ length xs
    → side_parts at (rewritten (at + 96) 24 w xs) ≡ record (side_parts at xs) { members = slice_set (side_parts at xs).members 4 (refill 24 (part (at + 96) 24 xs) w) }
member-4-written at w xs h =
    let within : at + 96 + 24 ≤ length xs = omega arith in
    let below = part-below (at + 96) 24 w xs within in
    let above = part-above (at + 96) 24 w xs within in
    rw (below at 24 (omega arith), below (at + 24) 24 (omega arith), below (at + 48) 24 (omega arith), below (at + 72) 24 (omega arith), above (at + 120) 24 (omega arith), above (at + 144) 36 (omega arith), part-same (at + 96) 24 w xs within) refl

member-5-written : (at : ℕ) (w xs : List ℕ) → at + 180 ≤ length xs
    → side_parts at (rewritten (at + 120) 24 w xs) ≡ record (side_parts at xs) { members = slice_set (side_parts at xs).members 5 (refill 24 (part (at + 120) 24 xs) w) }
member-5-written at w xs h =
    let within : at + 120 + 24 ≤ length xs = omega arith in
    let below = part-below (at + 120) 24 w xs within in
    let above = part-above (at + 120) 24 w xs within in
    rw (below at 24 (omega arith), below (at + 24) 24 (omega arith), below (at + 48) 24 (omega arith), below (at + 72) 24 (omega arith), below (at + 96) 24 (omega arith), above (at + 144) 36 (omega arith), part-same (at + 120) 24 w xs within) refl

-- The result of each borrow

pub header-lent : (xs w : List ℕ) → length xs ≡ 384 → parts_of (rewritten 0 24 w xs) ≡ record (parts_of xs) { header = refill 24 (part 0 24 xs) w }
header-lent xs w long =
    let within : 0 + 24 ≤ length xs = omega arith in
    rw (part-same 0 24 w xs within, side-above 0 24 w xs within 24 (omega arith), side-above 0 24 w xs within 204 (omega arith)) refl

-- A part of side 1, and of side 2

one-lent : (at n : ℕ) (w xs : List ℕ) → length xs ≡ 384 → 24 ≤ at → at + n ≤ 204
    → parts_of (rewritten at n w xs) ≡ record (parts_of xs) { one = side_parts 24 (rewritten at n w xs) }
one-lent at n w xs long low high =
    let within : at + n ≤ length xs = omega arith in
    rw (part-below at n w xs within 0 24 (omega arith), side-above at n w xs within 204 (omega arith)) refl

two-lent : (at n : ℕ) (w xs : List ℕ) → length xs ≡ 384 → 204 ≤ at → at + n ≤ 384
    → parts_of (rewritten at n w xs) ≡ record (parts_of xs) { two = side_parts 204 (rewritten at n w xs) }
two-lent at n w xs long low high =
    let within : at + n ≤ length xs = omega arith in
    rw (part-below at n w xs within 0 24 (omega arith), side-below at n w xs within 24 (omega arith)) refl

-- A part of either side

pub side-joined : (s : Side) (xs : List ℕ) → bytes_of_side (side_of s (parts_of xs)) ≡ part (side_at s) 180 xs
side-joined One xs = side_one-joined xs
side-joined Two xs = side_two-joined xs

pub side-lent : (s : Side) (xs w : List ℕ) → length xs ≡ 384
    → parts_of (rewritten (side_at s) 180 w xs) ≡ with_side s (side_parts 0 (refill 180 (part (side_at s) 180 xs) w)) (parts_of xs)
side-lent One xs w long = one-lent 24 180 w xs long (omega arith) (omega arith) ∙ ap (λ side. record (parts_of xs) { one = side }) (side-written 24 w xs (omega arith))
side-lent Two xs w long = two-lent 204 180 w xs long (omega arith) (omega arith) ∙ ap (λ side. record (parts_of xs) { two = side }) (side-written 204 w xs (omega arith))

-- Both sides, from bytes in a row.
abbrev sides_at : List ℕ → Parts → Parts
sides_at bytes p = record p { one = side_parts 0 bytes; two = side_parts 180 bytes }

sides-lent : (xs w : List ℕ) → length xs ≡ 384 → parts_of (rewritten 24 360 w xs) ≡ sides_at (refill 360 (part 24 360 xs) w) (parts_of xs)
sides-lent xs w long =
    let within : 24 + 360 ≤ length xs = omega arith in
    let at = part-inside 24 360 w xs within in
    rw (part-below 24 360 w xs within 0 24 (omega arith), part-first 24 360 w xs within 24 (lit≤ tt), at 24 24 (lit≤ tt), at 48 24 (lit≤ tt), at 72 24 (lit≤ tt), at 96 24 (lit≤ tt), at 120 24 (lit≤ tt), at 144 36 (lit≤ tt), at 180 24 (lit≤ tt), at 204 24 (lit≤ tt), at 228 24 (lit≤ tt), at 252 24 (lit≤ tt), at 276 24 (lit≤ tt), at 300 24 (lit≤ tt), at 324 36 (lit≤ tt)) refl

side-first_of : (xs ys : List ℕ) → length xs ≡ 180 → side_parts 0 (xs ++ ys) ≡ side_parts 0 xs
side-first_of xs ys long =
    let at : (k n : ℕ) → k + n ≤ 180 → part k n (xs ++ ys) ≡ part k n xs = λ k n h. part-first_of k n xs ys (omega arith) in
    rw (at 0 24 (lit≤ tt), at 24 24 (lit≤ tt), at 48 24 (lit≤ tt), at 72 24 (lit≤ tt), at 96 24 (lit≤ tt), at 120 24 (lit≤ tt), at 144 36 (lit≤ tt)) refl

side-second_of : (xs ys : List ℕ) → length xs ≡ 180 → side_parts 180 (xs ++ ys) ≡ side_parts 0 ys
side-second_of xs ys long =
    let at = λ (k n : ℕ). part-second_of 180 k n xs ys long in
    rw (at 0 24, at 24 24, at 48 24, at 72 24, at 96 24, at 120 24, at 144 36) refl

halves-written : (v w : List ℕ) (p : Parts) → length v ≡ 180 → length w ≡ 180 → with_sides (v ++ w) p ≡ record p { one = side_parts 0 v; two = side_parts 0 w }
halves-written v w p long_v long_w =
    ap (λ (l : List ℕ). sides_at l p) (refill-same 360 (bytes_of_sides p) (v ++ w) (omega (arith, length-append v w)))
    ∙ ap (λ side. record p { one = side; two = side_parts 180 (v ++ w) }) (side-first_of v w long_v)
    ∙ ap (λ side. record p { one = side_parts 0 v; two = side }) (side-second_of v w long_v)

-- A side's own 180 bytes and those of the foe's side.
pub both-written : (s : Side) (v w : List ℕ) (p : Parts) → length v ≡ 180 → length w ≡ 180
    → with_sides (in_order s v w) p ≡ with_side s (side_parts 0 v) (with_side (other s) (side_parts 0 w) p)
both-written One v w p long_v long_w = halves-written v w p long_v long_w
both-written Two v w p long_v long_w = halves-written w v p long_w long_v

pub active-lent : (s : Side) (xs w : List ℕ) → length xs ≡ 384
    → parts_of (rewritten (side_at s + 144) 36 w xs) ≡ with_active s (refill 36 (part (side_at s + 144) 36 xs) w) (parts_of xs)
active-lent One xs w long = one-lent 168 36 w xs long (omega arith) (omega arith) ∙ ap (λ side. record (parts_of xs) { one = side }) (active-written 24 w xs (omega arith))
active-lent Two xs w long = two-lent 348 36 w xs long (omega arith) (omega arith) ∙ ap (λ side. record (parts_of xs) { two = side }) (active-written 204 w xs (omega arith))

pub active-part : (s : Side) (xs : List ℕ) → active_of s (parts_of xs) ≡ part (side_at s + 144) 36 xs
active-part One xs = refl
active-part Two xs = refl

pub member-lent : (s : Side) (place : ℕ) (xs w : List ℕ) → 1 ≤ place → place ≤ 6 → length xs ≡ 384
    → parts_of (rewritten (member_at s place) 24 w xs) ≡ with_member s place (refill 24 (part (member_at s place) 24 xs) w) (parts_of xs)
member-lent One zero xs w low high long = absurd (omega arith)
member-lent One (suc zero) xs w low high long = one-lent 24 24 w xs long (omega arith) (omega arith) ∙ ap (λ side. record (parts_of xs) { one = side }) (member-0-written 24 w xs (omega arith))
member-lent One (suc (suc zero)) xs w low high long = one-lent 48 24 w xs long (omega arith) (omega arith) ∙ ap (λ side. record (parts_of xs) { one = side }) (member-1-written 24 w xs (omega arith))
member-lent One (suc (suc (suc zero))) xs w low high long = one-lent 72 24 w xs long (omega arith) (omega arith) ∙ ap (λ side. record (parts_of xs) { one = side }) (member-2-written 24 w xs (omega arith))
member-lent One (suc (suc (suc (suc zero)))) xs w low high long = one-lent 96 24 w xs long (omega arith) (omega arith) ∙ ap (λ side. record (parts_of xs) { one = side }) (member-3-written 24 w xs (omega arith))
member-lent One (suc (suc (suc (suc (suc zero))))) xs w low high long = one-lent 120 24 w xs long (omega arith) (omega arith) ∙ ap (λ side. record (parts_of xs) { one = side }) (member-4-written 24 w xs (omega arith))
member-lent One (suc (suc (suc (suc (suc (suc zero)))))) xs w low high long = one-lent 144 24 w xs long (omega arith) (omega arith) ∙ ap (λ side. record (parts_of xs) { one = side }) (member-5-written 24 w xs (omega arith))
member-lent One (suc (suc (suc (suc (suc (suc (suc k))))))) xs w low high long = absurd (omega arith)
member-lent Two zero xs w low high long = absurd (omega arith)
member-lent Two (suc zero) xs w low high long = two-lent 204 24 w xs long (omega arith) (omega arith) ∙ ap (λ side. record (parts_of xs) { two = side }) (member-0-written 204 w xs (omega arith))
member-lent Two (suc (suc zero)) xs w low high long = two-lent 228 24 w xs long (omega arith) (omega arith) ∙ ap (λ side. record (parts_of xs) { two = side }) (member-1-written 204 w xs (omega arith))
member-lent Two (suc (suc (suc zero))) xs w low high long = two-lent 252 24 w xs long (omega arith) (omega arith) ∙ ap (λ side. record (parts_of xs) { two = side }) (member-2-written 204 w xs (omega arith))
member-lent Two (suc (suc (suc (suc zero)))) xs w low high long = two-lent 276 24 w xs long (omega arith) (omega arith) ∙ ap (λ side. record (parts_of xs) { two = side }) (member-3-written 204 w xs (omega arith))
member-lent Two (suc (suc (suc (suc (suc zero))))) xs w low high long = two-lent 300 24 w xs long (omega arith) (omega arith) ∙ ap (λ side. record (parts_of xs) { two = side }) (member-4-written 204 w xs (omega arith))
member-lent Two (suc (suc (suc (suc (suc (suc zero)))))) xs w low high long = two-lent 324 24 w xs long (omega arith) (omega arith) ∙ ap (λ side. record (parts_of xs) { two = side }) (member-5-written 204 w xs (omega arith))
member-lent Two (suc (suc (suc (suc (suc (suc (suc k))))))) xs w low high long = absurd (omega arith)

pub member-part : (s : Side) (place : ℕ) (xs : List ℕ) → 1 ≤ place → place ≤ 6 → member_of s place (parts_of xs) ≡ part (member_at s place) 24 xs
member-part One zero xs low high = absurd (omega arith)
member-part One (suc zero) xs low high = refl
member-part One (suc (suc zero)) xs low high = refl
member-part One (suc (suc (suc zero))) xs low high = refl
member-part One (suc (suc (suc (suc zero)))) xs low high = refl
member-part One (suc (suc (suc (suc (suc zero))))) xs low high = refl
member-part One (suc (suc (suc (suc (suc (suc zero)))))) xs low high = refl
member-part One (suc (suc (suc (suc (suc (suc (suc k))))))) xs low high = absurd (omega arith)
member-part Two zero xs low high = absurd (omega arith)
member-part Two (suc zero) xs low high = refl
member-part Two (suc (suc zero)) xs low high = refl
member-part Two (suc (suc (suc zero))) xs low high = refl
member-part Two (suc (suc (suc (suc zero)))) xs low high = refl
member-part Two (suc (suc (suc (suc (suc zero))))) xs low high = refl
member-part Two (suc (suc (suc (suc (suc (suc zero)))))) xs low high = refl
member-part Two (suc (suc (suc (suc (suc (suc (suc k))))))) xs low high = absurd (omega arith)

-- The parts of a battle in its bytes, and the parts after a write

module _ (p : Parts) (long : length (joined p) ≡ 384) (same : parts_of (joined p) ≡ p) where
  pub header-leaves : (w : List ℕ) → parts_of (rewritten 0 24 w (joined p)) ≡ record p { header = refill 24 p.header w }
  header-leaves w = header-lent (joined p) w long ∙ ap (λ (x : Parts). record x { header = refill 24 x.header w }) same

  pub header-value : part 0 24 (joined p) ≡ p.header
  header-value = ap (λ (x : Parts). x.header) same

  pub side-value : (s : Side) → part (side_at s) 180 (joined p) ≡ bytes_of_side (side_of s p)
  side-value s = sym (side-joined s (joined p)) ∙ ap (λ (x : Parts). bytes_of_side (side_of s x)) same

  pub side-leaves : (s : Side) (w : List ℕ)
      → parts_of (rewritten (side_at s) 180 w (joined p)) ≡ with_side s (side_parts 0 (refill 180 (bytes_of_side (side_of s p)) w)) p
  side-leaves s w =
      side-lent s (joined p) w long ∙ ap (λ (l : List ℕ). with_side s (side_parts 0 (refill 180 l w)) (parts_of (joined p))) (side-value s)
      ∙ ap (λ (x : Parts). with_side s (side_parts 0 (refill 180 (bytes_of_side (side_of s p)) w)) x) same

  pub sides-value : part 24 360 (joined p) ≡ bytes_of_sides p
  sides-value =
      sym (part-part 24 180 180 (joined p)) ∙ ap (λ (l : List ℕ). l ++ part 204 180 (joined p)) (side-value One)
      ∙ ap (λ (l : List ℕ). bytes_of_side p.one ++ l) (side-value Two)

  pub sides-leave : (w : List ℕ) → parts_of (rewritten 24 360 w (joined p)) ≡ with_sides w p
  sides-leave w =
      sides-lent (joined p) w long ∙ ap (λ (x : Parts). sides_at (refill 360 (part 24 360 (joined p)) w) x) same
      ∙ ap (λ (l : List ℕ). sides_at (refill 360 l w) p) sides-value

  pub length-sides : (length (bytes_of_side p.one) ≡ 180) × (length (bytes_of_side p.two) ≡ 180)
  length-sides =
      (ap length (sym (side-value One)) ∙ length-part 24 180 (joined p) (omega arith), ap length (sym (side-value Two)) ∙ length-part 204 180 (joined p) (omega arith))

  pub active-value : (s : Side) → part (side_at s + 144) 36 (joined p) ≡ active_of s p
  active-value s = sym (active-part s (joined p)) ∙ ap (λ (x : Parts). active_of s x) same

  pub active-leaves : (s : Side) (w : List ℕ)
      → parts_of (rewritten (side_at s + 144) 36 w (joined p)) ≡ with_active s (refill 36 (active_of s p) w) p
  active-leaves s w =
      active-lent s (joined p) w long ∙ ap (λ (l : List ℕ). with_active s (refill 36 l w) (parts_of (joined p))) (active-value s)
      ∙ ap (λ (x : Parts). with_active s (refill 36 (active_of s p) w) x) same

  pub member-value : (s : Side) (place : ℕ) → 1 ≤ place → place ≤ 6 → part (member_at s place) 24 (joined p) ≡ member_of s place p
  member-value s place low high = sym (member-part s place (joined p) low high) ∙ ap (λ (x : Parts). member_of s place x) same

  pub member-leaves : (s : Side) (place : ℕ) (w : List ℕ) → 1 ≤ place → place ≤ 6
      → parts_of (rewritten (member_at s place) 24 w (joined p)) ≡ with_member s place (refill 24 (member_of s place p) w) p
  member-leaves s place w low high =
      member-lent s place (joined p) w low high long
      ∙ ap (λ (l : List ℕ). with_member s place (refill 24 l w) (parts_of (joined p))) (member-value s place low high)
      ∙ ap (λ (x : Parts). with_member s place (refill 24 (member_of s place p) w) x) same

-- Both sides at once: a side's own bytes and those of the foe's side

module _ (p : Parts) (long : (length (bytes_of_side p.one) ≡ 180) × (length (bytes_of_side p.two) ≡ 180)) where
  abbrev own : Side → List ℕ
  own s = bytes_of_side (side_of s p)

  length-own : (s : Side) → length (own s) ≡ 180
  length-own One = long.0
  length-own Two = long.1

  both-refilled : (s : Side) (v w : List ℕ)
      → with_side s (side_parts 0 (refill 180 (own s) v)) (with_side (other s) (side_parts 0 (refill 180 (own (other s)) w)) p) ≡ refilled s v (refilled (other s) w p)
  both-refilled One v w = refl
  both-refilled Two v w = refl

  pub both-leave : (s : Side) (v w : List ℕ)
      → with_sides (in_order s (refill 180 (own s) v) (refill 180 (own (other s)) w)) p ≡ refilled s v (refilled (other s) w p)
  both-leave s v w =
      both-written s (refill 180 (own s) v) (refill 180 (own (other s)) w) p (length-refill 180 (own s) v (length-own s))
      (length-refill 180 (own (other s)) w (length-own (other s))) ∙ both-refilled s v w

  halves-value : (v w : List ℕ) → bytes_of_sides p ≡ v ++ w → length v ≡ 180 → (v ≡ own One) × (w ≡ own Two)
  halves-value v w cut long_v =
      (sym (take_at v w 180 long_v) ∙ ap (λ (l : List ℕ). take 180 l) (sym cut) ∙ take_at (own One) (own Two) 180 (length-own One), sym (drop_at v w 180 long_v) ∙ ap (λ (l : List ℕ). drop 180 l) (sym cut) ∙ drop_at (own One) (own Two) 180 (length-own One))

  pub both-value : (s : Side) (v w : List ℕ) → bytes_of_sides p ≡ in_order s v w → length v ≡ 180 → length w ≡ 180
      → (v ≡ own s) × (w ≡ own (other s))
  both-value One v w cut long_v long_w = halves-value v w cut long_v
  both-value Two v w cut long_v long_w = let at = halves-value w v cut long_w in (at.1, at.0)
