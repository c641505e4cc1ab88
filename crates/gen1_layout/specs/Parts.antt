-- The 384 bytes as their parts (docs/LAYOUT.md, "The 384 bytes of a battle"): a header of 24 bytes, and for each side
-- six members of 24 and an active block of 36. Parts are joined again, and decoded.
use Rattle.std.specs.Prelude.{List, [], drop, flat_map, slice_index, slice_index_or, slice_set, take, ℕ, ◌%◌, ◌*◌, ◌++◌, ◌+◌, ◌-◌, ◌∷◌, None, Option, Some, if◌then◌else◌, ◌==◌}
use Rattle.std.specs.List.{refill}
use Rattle.gen1_machine.specs.declared.side.Side.{Side}
use Rattle.gen1_machine.specs.declared.side.Side.TheVariants.{One, Two}
use Rattle.std.proofs.Common.{ap, append_assoc, arith, length, refl, sym, take-append-drop, ◌≡◌, ◌∙◌}
use Rattle.std.proofs.lemmas.List.{drop-drop, drop-take, take-take, take_all}
use Rattle.gen1_tables.specs.declared.types.Element.{Element}
use Rattle.gen1_tables.specs.declared.types.Element.TheVariants.{Normal, Fighting, Flying, Poison, Ground, Rock, Bug, Ghost, Fire, Water, Grass, Electric, Psychic, Ice, Dragon}
use Rattle.gen1_stats.specs.declared.member.Status.{Status}
use Rattle.gen1_stats.specs.declared.member.Status.TheVariants.{Healthy, Asleep, Poisoned, Burned, Frozen, Paralysed}
use Rattle.gen1_machine.specs.declared.side.UsedMove.{UsedMove}
use Rattle.gen1_machine.specs.declared.side.UsedMove.TheVariants.{Nothing, Slot, Struggle}
use Rattle.gen1_machine.specs.declared.terms.Outcome.{Outcome}
use Rattle.gen1_machine.specs.declared.terms.Request.{Request}
use Rattle.gen1_machine.specs.Conditions.{Storing}
use Rattle.gen1_machine.specs.declared.terms.Outcome.TheVariants as outcomes
use Rattle.gen1_machine.specs.declared.terms.Request.TheVariants as requests

pub record SideParts : Type 0 where
  pub members : List (List ℕ)
  pub active : List ℕ

pub record Parts : Type 0 where
  pub header : List ℕ
  pub one : SideParts
  pub two : SideParts

-- This many bytes from an offset on.
abbrev pub part : ℕ → ℕ → List ℕ → List ℕ
part at count bytes = take count (drop at bytes)

abbrev pub side_parts : ℕ → List ℕ → SideParts
side_parts at bytes = record {
  members =
      part at 24 bytes ∷ part (at + 24) 24 bytes ∷ part (at + 48) 24 bytes ∷ part (at + 72) 24 bytes ∷ part (at + 96) 24 bytes
      ∷ part (at + 120) 24 bytes ∷ [];
  active = part (at + 144) 36 bytes;
}

abbrev pub parts_of : List ℕ → Parts
parts_of bytes = record { header = part 0 24 bytes; one = side_parts 24 bytes; two = side_parts 204 bytes }

-- Where a side begins, and where a member begins, by its place from 1

abbrev pub side_at : Side → ℕ
side_at One = 24
side_at Two = 204

abbrev pub member_at : Side → ℕ → ℕ
member_at s place = side_at s + 24 * (place - 1)

-- From the bytes to the parts

abbrev pub bytes_of_side : SideParts → List ℕ
bytes_of_side side = flat_map (λ (block : List ℕ). block) side.members ++ side.active

abbrev pub bytes_of_sides : Parts → List ℕ
bytes_of_sides p = bytes_of_side p.one ++ bytes_of_side p.two

abbrev pub joined : Parts → List ℕ
joined p = p.header ++ bytes_of_side p.one ++ bytes_of_side p.two

-- One part

abbrev pub side_of : Side → Parts → SideParts
side_of One p = p.one
side_of Two p = p.two

-- A side's bytes and the foe's, in the order in which they are stored.
abbrev pub in_order : Side → List ℕ → List ℕ → List ℕ
in_order One own others = own ++ others
in_order Two own others = others ++ own

abbrev pub active_of : Side → Parts → List ℕ
active_of s p = (side_of s p).active

-- Where the bytes of the member that is out begin. Its place, from 1, is the first byte of the active block.
abbrev pub out_at : Side → Parts → ℕ
out_at s p = side_at s + 24 * (slice_index (active_of s p) 0 % 8) - 24

-- Places are counted from 1.
abbrev pub member_of : Side → ℕ → Parts → List ℕ
member_of s place p = slice_index_or (side_of s p).members (place - 1) []

-- One part changed

abbrev pub with_side : Side → SideParts → Parts → Parts
with_side One side p = record p { one = side }
with_side Two side p = record p { two = side }

-- A side whose bytes are rewritten.
abbrev pub refilled : Side → List ℕ → Parts → Parts
refilled s written p = with_side s (side_parts 0 (refill 180 (bytes_of_side (side_of s p)) written)) p

-- Both sides, whose bytes are adjacent.
abbrev pub with_sides : List ℕ → Parts → Parts
with_sides written p =
    let bytes = refill 360 (bytes_of_sides p) written in record p { one = side_parts 0 bytes; two = side_parts 180 bytes }

abbrev pub with_active : Side → List ℕ → Parts → Parts
with_active s block p = with_side s (record (side_of s p) { active = block }) p

abbrev pub with_member : Side → ℕ → List ℕ → Parts → Parts
with_member s place block p =
    with_side s (record (side_of s p) { members = slice_set (side_of s p).members (place - 1) block }) p

-- The bytes with a part rewritten: the part keeps its length, and takes its bytes from the beginning of what was
-- written.
abbrev pub rewritten : ℕ → ℕ → List ℕ → List ℕ → List ℕ
rewritten at count written bytes =
    take at bytes ++ (refill count (part at count bytes) written ++ drop count (drop at bytes))

-- The parts of 384 bytes, joined, are the bytes again (docs/LAYOUT.md, "The 384 bytes of a battle"). So a battle's
-- parts determine its bytes.

-- Two adjacent parts.
pub part-part : (a n m : ℕ) (xs : List ℕ) → part a n xs ++ part (a + n) m xs ≡ part a (n + m) xs
part-part a n m xs =
    let back : drop (a + n) xs ≡ drop n (drop a xs) = sym (drop-drop n a xs) in
    let shift : take m (drop n (drop a xs)) ≡ drop n (part a (n + m) xs) = sym (drop-take n m (drop a xs)) in
    let front : part a n xs ≡ take n (part a (n + m) xs) = sym (take-take n (n + m) (drop a xs) (omega arith)) in
    ap (λ (l : List ℕ). part a n xs ++ take m l) back ∙ ap (λ (l : List ℕ). part a n xs ++ l) shift
    ∙ ap (λ (l : List ℕ). l ++ drop n (part a (n + m) xs)) front ∙ take-append-drop n (part a (n + m) xs)

-- The bytes of a side are its parts in a row

pub side_one-joined : (xs : List ℕ) → bytes_of_side (side_parts 24 xs) ≡ part 24 180 xs
side_one-joined xs =
    simp append_assoc (rw (part-part 144 24 36 xs, part-part 120 24 60 xs, part-part 96 24 84 xs, part-part 72 24 108 xs, part-part 48 24 132 xs, part-part 24 24 156 xs) refl)

pub side_two-joined : (xs : List ℕ) → bytes_of_side (side_parts 204 xs) ≡ part 204 180 xs
side_two-joined xs =
    simp append_assoc (rw (part-part 324 24 36 xs, part-part 300 24 60 xs, part-part 276 24 84 xs, part-part 252 24 108 xs, part-part 228 24 132 xs, part-part 204 24 156 xs) refl)

pub joined-parts : (xs : List ℕ) → length xs ≡ 384 → joined (parts_of xs) ≡ xs
joined-parts xs long =
    rw (side_one-joined xs, side_two-joined xs, part-part 0 24 180 xs, part-part 0 204 180 xs) (take_all 384 xs (omega arith))

-- The meaning of a field's byte, if it has one (docs/LAYOUT.md, "Header", "Member", "Active block").

abbrev pub outcome_of : ℕ → Outcome
outcome_of n =
    if n == 0 then outcomes.Ongoing else (if n == 1 then outcomes.WinOne else (if n == 2 then outcomes.WinTwo
    else (if n == 3 then outcomes.Tie else (if n == 4 then outcomes.Fault 1 else outcomes.Fault 2))))

abbrev pub request_of_byte : ℕ → Request
request_of_byte n = if n == 1 then requests.Move else (if n == 2 then requests.Switch else requests.Pass)

-- The status of a byte and its mark.
abbrev pub status_of : ℕ → ℕ → Status
status_of n mark =
    if n == 0 then Healthy else (if n == 8 then Poisoned else (if n == 16 then Burned else (if n == 32 then Frozen
    else (if n == 64 then Paralysed else Asleep n (mark == 1)))))

abbrev pub used_of : ℕ → UsedMove
used_of n = if n == 0 then Nothing else (if n == 5 then Struggle else Slot n)

abbrev pub element_of : ℕ → Element
element_of n =
    if n == 1 then Fighting else (if n == 2 then Flying else (if n == 3 then Poison else (if n == 4 then Ground
    else (if n == 5 then Rock else (if n == 6 then Bug else (if n == 7 then Ghost else (if n == 8 then Fire
    else (if n == 9 then Water else (if n == 10 then Grass else (if n == 11 then Electric else (if n == 12 then Psychic
    else (if n == 13 then Ice else (if n == 14 then Dragon else Normal)))))))))))))

-- The turns of Bide, if it is on.
abbrev pub turns_stored : Option Storing → Option ℕ
turns_stored None = None
turns_stored (Some b) = Some b.turns
