-- Streams of bytes, and the first byte of a stream that passes a test (docs/MECHANICS.md, "Link numbers").
use Rattle.std.specs.Prelude.{◌≡◌, ℕ, zero, suc, ◌+◌, ◌*◌, ◌/◌, ◌%◌, ◌^◌, ◌<◌, ◌≤◌, Bool, true, false, IsTrue, IsFalse, List, length, All, Option, Some, None, slice_index, ◌==◌, ◌&&◌, nat_le, nat_lt, min, slice_index_or, if◌then◌else◌}
use Rattle.gen1_rolls.specs.declared.rolls.ByteTest.{ByteTest}
use Rattle.gen1_rolls.specs.declared.rolls.ByteTest.TheVariants.{RotatedAtLeast, PositiveBelow, NotMultiple, PlaceOf}
use Rattle.gen1_rolls.specs.declared.rolls.Look.{Look}
use Rattle.gen1_rolls.specs.declared.rolls.Look.TheVariants.{Below, RotatedBelow, Remainder, Factor}

-- f applied n times.
abbrev pub iterate : {A : Type 0} → ℕ → (A → A) → A → A
iterate zero f x = x
iterate (suc n) f x = f (iterate n f x)

-- A link number after it is renewed, which happens each time that all nine were drawn.
abbrev pub renewed : ℕ → ℕ
renewed x = (5 * x + 1) % 256

abbrev pub times_renewed : ℕ → ℕ → ℕ
times_renewed times x = iterate times renewed x

-- This many lowest bits of a byte.
abbrev pub low_bits : ℕ → ℕ → ℕ
low_bits count b = b % (2 ^ count)

-- A battle's stream is named by data: by the ten numbers at the start of a link battle, or by the first byte of a
-- sweep. Any other stream is given by the bytes that some generator draws, and by a number of them that always holds
-- every byte.
pub data Stream : Type 0 where
  Link : (seed : List ℕ) → Stream
  Sweep : (start : ℕ) → Stream
  Drawn : (bytes : ℕ → ℕ) → (width : ℕ) → Stream

-- The n-th byte of a stream, counted from 0. Nine link numbers come in turn, and each is renewed once a round. A
-- sweep counts up. Any other stream is what is drawn.
unfoldable pub byte_at : Stream → ℕ → ℕ
byte_at (Link seed) n = times_renewed (n / 9) (slice_index seed (n % 9))
byte_at (Sweep start) n = (start + n) % 256
byte_at (Drawn bytes width) n = bytes n

-- Any this many bytes in a row hold every number from 0 to 255.
abbrev pub span : Stream → ℕ
span (Link seed) = 2304
span (Sweep start) = 256
span (Drawn bytes width) = width

-- This many bytes from the first on hold every number from 0 to 255.
abbrev pub HoldsEveryByte : (ℕ → ℕ) → ℕ → Type 0
HoldsEveryByte bytes count = (b : ℕ) → b < 256 → (k : ℕ) × ((k < count) × (bytes k ≡ b))

-- Ten bytes, or one byte, or only bytes of which each span in a row holds every number from 0 to 255.
abbrev pub IsStream : Stream → Type 0
IsStream (Link seed) = (length seed ≡ 10) × All (λ x. x < 256) seed
IsStream (Sweep start) = start < 256
IsStream (Drawn bytes width) = ((n : ℕ) → bytes n < 256) × ((n : ℕ) → HoldsEveryByte (λ k. bytes (n + k)) width)

-- The place of the first of k bytes from place n on that passes a test.
unfoldable pub first_within : ℕ → Stream → ℕ → (ℕ → Bool) → Option ℕ
first_within zero s n test = None
first_within (suc k) s n test = elim (test (byte_at s n)) [ true ↦ Some n | false ↦ first_within k s (n + 1) test ]

-- The place of the first byte from place n on that passes a test.
unfoldable pub first : Stream → ℕ → (ℕ → Bool) → Option ℕ
first s n test = first_within (span s) s n test

-- m is the least place, not below n, whose byte passes the test.
pub record IsFirstOf (bytes : ℕ → ℕ) (n : ℕ) (test : ℕ → Bool) (m : ℕ) : Type 0 where
  pub from : n ≤ m
  pub meets : IsTrue (test (bytes m))
  pub none_before : (k : ℕ) → n ≤ k → k < m → IsFalse (test (bytes k))

-- What `first` finds, without saying how.
abbrev pub IsFirst : Stream → ℕ → (ℕ → Bool) → ℕ → Type 0
IsFirst s = IsFirstOf (byte_at s)

-- What is looked at of a drawn byte, and which bytes a search accepts (docs/MECHANICS.md, "Link numbers").

abbrev pub rotated_left_3 : ℕ → ℕ
rotated_left_3 b = b * 8 % 256 + b / 32

abbrev pub rotated_right_1 : ℕ → ℕ
rotated_right_1 b = b / 2 + b % 2 * 128

-- Where all damage from the edge on is alike, it is cut there.
abbrev pub limit_of : ℕ → Bool → ℕ
limit_of edge cut = if cut then edge else 65535

-- What a look sees of a byte.
abbrev pub sees : Look → ℕ → ℕ
sees (Below bound) b = if nat_lt b bound then 1 else 0
sees (RotatedBelow bound) b = if nat_lt (rotated_left_3 b) bound then 1 else 0
sees (Remainder divisor) b = b % divisor
sees (Factor damage edge cut) b = min (damage * rotated_right_1 b / 255) (limit_of edge cut)

-- Two bytes are alike under a look that sees the same of both.
abbrev pub alike : Look → ℕ → ℕ → Bool
alike look x y = sees look x == sees look y

-- Which bytes a search accepts.
abbrev pub passes : ByteTest → ℕ → Bool
passes (RotatedAtLeast least) b = nat_le least (rotated_right_1 b)
passes (PositiveBelow bound) b = nat_lt 0 b && nat_lt b bound
passes (NotMultiple divisor) b = nat_lt 0 (b % divisor)
passes (PlaceOf four) b = slice_index_or four (b % 4) false
