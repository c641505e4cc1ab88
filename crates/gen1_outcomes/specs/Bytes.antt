-- Sets of bytes, and the classes of damage that a walk takes for alike (docs/MECHANICS.md, "Link numbers").
use Rattle.std.specs.Prelude.{Bool, ◌%◌, ◌/◌, ◌<◌, ◌≡◌, ℕ, if◌then◌else◌, slice_index, max, nat_le, ◌&&◌, ◌*◌, ◌+◌, ◌-◌, ◌==◌, ◌≤◌}
use Rattle.std.specs.Int.{bit_at}
use Rattle.std.specs.List.{range_with_len, sum_by}
use Rattle.gen1_outcomes.specs.declared.byte_set.ByteSet.{ByteSet}
use Rattle.gen1_rolls.specs.declared.rolls.Look.{Look}
use Rattle.gen1_rolls.specs.declared.rolls.Look.TheVariants.{Below, Factor, Remainder, RotatedBelow}
use Rattle.gen1_rolls.specs.Streams.{rotated_right_1, sees}
use Rattle.gen1_outcomes.specs.declared.alike.Run.{Run}

-- 1 if the byte is in the set, else 0.
abbrev pub has : ByteSet → ℕ → ℕ
has set b = bit_at (slice_index set.words (b / 64)) (b % 64)

-- The set has no byte.
abbrev pub IsNone : ByteSet → Type 0
IsNone set = (b : ℕ) → b < 256 → has set b ≡ 0

-- The set has all bytes.
abbrev pub IsAll : ByteSet → Type 0
IsAll set = (b : ℕ) → b < 256 → has set b ≡ 1

-- The set has the bytes that pass a test.
abbrev pub ArePassing : (ℕ → Bool) → ByteSet → Type 0
ArePassing p set = (b : ℕ) → b < 256 → has set b ≡ (if p b then 1 else 0)

-- How many bits of a word are set.
unfoldable pub bits_set : ℕ → ℕ
bits_set word = sum_by (bit_at word) (range_with_len 0 64)

-- How many bytes the set has.
unfoldable pub size : ByteSet → ℕ
size set = sum_by (has set) (range_with_len 0 256)

-- Classes of damage: bytes that a walk takes for alike.

-- The least factor, in 255ths, that makes this part of the damage.
abbrev pub least_factor : ℕ → ℕ → ℕ
least_factor damage part = (part * 255 + (damage - 1)) / max damage 1

-- The class of a part of the damage, one of n: the 39 factors from 217 to 255 are cut into n runs, and it is in the run of
-- its least factor.
abbrev pub class_of : ℕ → ℕ → ℕ → ℕ
class_of n damage part = (least_factor damage part - 217) * n / 39

-- The last factor of a class, one of n.
abbrev pub last_factor : ℕ → ℕ → ℕ
last_factor n class = 216 + (39 * (class + 1) + (n - 1)) / n

-- What is distinguished of a damage of which the part is seen: without classes the part, and else its class. From the edge on
-- the classes are numbered after those below it, so none has damage from both sides.
abbrev pub part_told : ℕ → ℕ → ℕ → ℕ → ℕ
part_told n damage edge part = if n == 0 then part else (if nat_le edge part then n + class_of n damage part else class_of n damage part)

-- What is distinguished of a byte: all that the look sees, and of a damage its class.
abbrev pub told : ℕ → Look → ℕ → ℕ
told n (Below bound) b = sees (Below bound) b
told n (RotatedBelow bound) b = sees (RotatedBelow bound) b
told n (Remainder divisor) b = sees (Remainder divisor) b
told n (Factor damage edge cut) b = part_told n damage edge (sees (Factor damage edge cut) b)

-- The middle factor of the last of n classes: n-th of the 39 factors, half of them below 255. Without classes it is 255.
abbrev pub middle_factor : ℕ → ℕ
middle_factor n = if n == 0 then 255 else 255 - 39 / n / 2

-- Two bytes are alike in n classes of damage if what is distinguished of them is equal. In 0 classes they are alike under the look.
abbrev pub alike_in : ℕ → Look → ℕ → ℕ → Bool
alike_in n look x y = told n look x == told n look y

-- The damage that a byte makes of a roll.
abbrev pub damage_by : ℕ → ℕ → ℕ
damage_by damage b = damage * rotated_right_1 b / 255

-- No class has damage from both sides of the edge: of two bytes that are alike, both reach it or neither.
abbrev pub KeepsEdgeApart : ℕ → Look → Type 0
KeepsEdgeApart n look =
    (damage : ℕ) → (edge : ℕ) → (cut : Bool) → look ≡ Factor damage edge cut → edge ≤ 65535 → (x : ℕ) → (y : ℕ) → x < 256 → y < 256
    → told n look x ≡ told n look y → nat_le edge (damage_by damage x) ≡ nat_le edge (damage_by damage y)

-- Whether a run has a part.
abbrev pub is_in : Run → ℕ → Bool
is_in run part = nat_le run.first part && nat_le part run.last
