-- The draws of a way, and how one way leads to the next.
use Rattle.std.specs.Prelude.{Bool, ◌/◌, ◌<◌, ◌≡◌, ℕ, if◌then◌else◌, slice_index, ◌*◌, ◌+◌, ◌-◌, ◌≤◌, ◌^◌, ◌⊎◌, List, length, true, slice_index_or, slice_set, ◌≢◌, nat_lt}
use Rattle.gen1_outcomes.specs.declared.byte_set.ByteSet.{ByteSet}
use Rattle.gen1_rolls.specs.declared.rolls.Look.{Look}
use Rattle.gen1_rolls.specs.declared.rolls.Look.TheVariants.{Factor}
use Rattle.gen1_outcomes.specs.declared.nodes.Chance.{Chance}
use Rattle.gen1_outcomes.specs.declared.nodes.Asked.{Asked}
use Rattle.gen1_outcomes.specs.declared.nodes.Asked.TheVariants.{Unknown}
use Rattle.gen1_outcomes.specs.declared.nodes.Node.{Node}
use Rattle.gen1_outcomes.specs.declared.nodes.Nodes.{Nodes}
use Rattle.gen1_rolls.specs.Steady.{Generator, one_up}
use Rattle.gen1_outcomes.specs.declared.explorer.Script.{Script}
use Rattle.gen1_outcomes.specs.Bytes.{has, size, alike_in}
use Rattle.gen1_outcomes.specs.Chances.{IsBelow}

-- The class of a byte in a set: those of its bytes that are alike to it in the classes of damage.
abbrev pub IsClass : ℕ → Look → ℕ → ByteSet → ByteSet → Type 0
IsClass classes look byte among class = (x : ℕ) → x < 256 → has class x ≡ (if alike_in classes look byte x then has among x else 0)

-- A draw takes a byte. The rest loses what is alike to it in the classes of damage, and nothing else. The count is how many bytes it loses:
-- those of the class.
pub record Takes (taken : ℕ) (old new : Node) : Type 0 where
  pub byte : new.byte ≡ taken
  pub look : new.look ≡ old.look
  pub classes : new.damage_classes ≡ old.damage_classes
  pub above : new.above ≡ old.above
  pub total : new.total ≡ old.total
  pub rest : (x : ℕ) → x < 256 → has new.rest x ≡ (if alike_in old.damage_classes old.look taken x then 0 else has old.rest x)
  pub count : new.count + size new.rest ≡ size old.rest
  pub weight : (class : ByteSet) → IsClass old.damage_classes old.look taken old.rest class → new.count ≡ size class

-- A draw goes on to a byte of its rest.
pub record GoesOn (old new : Node) : Type 0 where
  pub small : new.byte < 256
  pub remained : has old.rest new.byte ≡ 1
  pub takes : Takes new.byte old new

-- The middle one of so many bytes that are 2 apart, from the first on.
abbrev pub middle_of : ℕ → ℕ → ℕ
middle_of first count = first + (count - 1) / 2 * 2

-- The draw at a place does, and the others stay.
pub record GoesOnIn (place : ℕ) (old new : List Node) : Type 0 where
  pub within : place < length old
  pub node : Node
  pub here : (none : Node) → GoesOn (slice_index_or old place none) node
  pub list : new ≡ slice_set old place node

-- A class of damage: what is left of a roll that is alike to its first byte. The middle one is among what is left.
pub record IsRun (node : Node) (first : ℕ) (class : ByteSet) : Type 0 where
  pub damage : ℕ
  pub edge : ℕ
  pub cut : Bool
  pub roll : node.look ≡ Factor damage edge cut
  pub classes : node.damage_classes ≢ 0
  pub members : (x : ℕ) → x < 256 → has class x ≡ (if alike_in node.damage_classes node.look first x then has node.rest x else 0)
  pub few : size class ≤ 39
  pub byte : middle_of first (size class) < 256
  pub left : has node.rest (middle_of first (size class)) ≡ 1

-- Nothing is left to be tried.
abbrev pub IsDone : Node → Type 0
IsDone node = (x : ℕ) → x < 256 → has node.rest x ≡ 0

-- Which byte the draw at a place asks for.
abbrev pub asked_at : Nodes → ℕ → Asked
asked_at nodes k = slice_index_or nodes.asked k Unknown

-- The next way: up to a draw it is the same, this draw goes on, and after it nothing was left.
pub record LeadsOn (old new : Nodes) : Type 0 where
  pub long : new.len ≤ length new.list
  pub place : ℕ
  pub within : place < old.len
  pub length : new.len ≡ place + 1
  pub at : new.at ≡ 0
  pub asked : new.asked ≡ old.asked
  pub options : new.options ≡ old.options
  pub since : new.before ≡ old.before
  pub before : (k : ℕ) → (none : Node) → k < place → slice_index_or new.list k none ≡ slice_index_or old.list k none
  pub here : (none : Node) → GoesOn (slice_index_or old.list place none) (slice_index_or new.list place none)
  pub after : (k : ℕ) → (none : Node) → place < k → k < old.len → IsDone (slice_index_or old.list k none)

-- All ways were gone through.
abbrev pub AllDone : Nodes → Type 0
AllDone nodes = (k : ℕ) → (none : Node) → k < nodes.len → IsDone (slice_index_or nodes.list k none)

-- The probability of the draws before one, times the part of its bytes that are alike to the one that it has.
abbrev pub IsThen : Node → Chance → Type 0
IsThen node c = c.num * (node.above.whole * node.total) ≡ c.whole * (node.above.num * node.count)

-- The probability of a way: without draws that of what comes before them, and else that of its last draw and those before it.
pub record IsChance (nodes : Nodes) (c : Chance) : Type 0 where
  pub without : nodes.len ≡ 0 → c ≡ nodes.before
  pub last : (past : Node) → 0 < nodes.len → IsThen (slice_index_or nodes.list (nodes.len - 1) past) c

-- Bytes for the draws of a way, one for each in order.
abbrev pub AreBytes : (ℕ → ℕ) → Type 0
AreBytes bytes = (k : ℕ) → bytes k < 256

-- The first of them are in the classes of the bytes that the draws have.
abbrev pub AreOn : Nodes → ℕ → (ℕ → ℕ) → Type 0
AreOn nodes count bytes =
    (k : ℕ) → (past : Node) → k < count
    → alike_in (slice_index_or nodes.list k past).damage_classes (slice_index_or nodes.list k past).look (slice_index_or nodes.list k past).byte (bytes k) ≡ true

-- They are left for a later way: at some draw theirs is still to be tried, and before it they are in the classes.
pub record AreLeft (nodes : Nodes) (bytes : ℕ → ℕ) : Type 0 where
  pub place : ℕ
  pub within : place < nodes.len
  pub before : AreOn nodes place bytes
  pub here : (past : Node) → has (slice_index_or nodes.list place past).rest (bytes place) ≡ 1

-- They are in the classes of all draws of a way, or left for a later one.
abbrev pub AreToCome : Nodes → (ℕ → ℕ) → Type 0
AreToCome nodes bytes = AreOn nodes nodes.len bytes ⊎ AreLeft nodes bytes

-- A draw more, which may have some bytes, loses no bytes: those that are left stay so, and those that are on the way stay on it or are left.
pub record Covers (may : ByteSet) (old new : Nodes) : Type 0 where
  pub left : (bytes : ℕ → ℕ) → AreBytes bytes → AreLeft old bytes → AreLeft new bytes
  pub on : (bytes : ℕ → ℕ) → AreBytes bytes → AreOn old old.len bytes → has may (bytes old.len) ≡ 1 → AreToCome new bytes

-- A draw is added after the others: its byte, which byte it asks for, how many it may have, how many of them are in its class and which are
-- left, and the probability of those before it. It loses no bytes.
pub record Adds (drawn : ℕ) (question : Asked) (seen : Look) (may : ByteSet) (old new : Nodes) : Type 0 where
  pub long : new.len ≤ length new.list
  pub length : new.len ≡ old.len + 1
  pub at : new.at ≡ new.len
  pub asks : asked_at new old.len ≡ question
  pub asked : (k : ℕ) → k < old.len → asked_at new k ≡ asked_at old k
  pub options : new.options ≡ old.options
  pub before : (k : ℕ) → (past : Node) → k < old.len → slice_index_or new.list k past ≡ slice_index_or old.list k past
  pub byte : (past : Node) → (slice_index_or new.list old.len past).byte ≡ drawn
  pub look : (past : Node) → (slice_index_or new.list old.len past).look ≡ seen
  pub told : (past : Node) → (slice_index_or new.list old.len past).damage_classes ≡ old.options.damage_classes
  pub total : (past : Node) → (slice_index_or new.list old.len past).total ≡ size may
  pub above : (past : Node) → IsChance old (slice_index_or new.list old.len past).above
  pub fits : new.too_large ≡ old.too_large
  pub since : new.before ≡ old.before
  pub rest : (past : Node) → (x : ℕ) → x < 256 → has (slice_index_or new.list old.len past).rest x ≡ (if alike_in old.options.damage_classes seen drawn x then 0 else has may x)
  pub both : (past : Node) → (slice_index_or new.list old.len past).count + size (slice_index_or new.list old.len past).rest ≡ size may
  pub weight : (class : ByteSet) → IsClass old.options.damage_classes seen drawn may class → (past : Node) → (slice_index_or new.list old.len past).count ≡ size class
  pub covers : Covers may old new

-- A path has the bytes of these draws first.
abbrev pub IsPathOf : Nodes → List ℕ → Type 0
IsPathOf nodes path = (k : ℕ) → (past : Node) → k < nodes.len → slice_index path k ≡ (slice_index_or nodes.list k past).byte

-- A branch is left out only if its probability is below the least one.
abbrev pub IsLeftOut : Nodes → Type 0
IsLeftOut nodes = (c : Chance) × IsChance nodes c × IsBelow nodes.options.least c

-- 128 bits do not hold the probability of the draws up to one.
abbrev pub Overflows : Node → Type 0
Overflows node = (2 ^ 128 ≤ node.above.num * node.count) ⊎ (2 ^ 128 ≤ node.above.whole * node.total)

-- A way is too large if it was marked so, or if 128 bits do not hold its probability.
abbrev pub IsTooLarge : Nodes → Type 0
IsTooLarge nodes = (nodes.too_large ≡ true) ⊎ ((0 < nodes.len) × ((past : Node) → Overflows (slice_index_or nodes.list (nodes.len - 1) past)))

-- A way is marked as too large, and else stays: 24 draws are noted, or 128 bits do not hold its probability.
pub record IsMarked (old new : Nodes) : Type 0 where
  pub marked : new.too_large ≡ true
  pub list : new.list ≡ old.list
  pub asked : new.asked ≡ old.asked
  pub length : new.len ≡ old.len
  pub at : new.at ≡ old.at
  pub before : new.before ≡ old.before
  pub options : new.options ≡ old.options
  pub why : (old.len ≡ 24) ⊎ IsTooLarge old

-- What becomes of a draw that no way had before: it is added, or its branch is left out, or the way is too large.
abbrev pub Notes : ℕ → Asked → Look → ByteSet → Nodes → Nodes → Type 0
Notes drawn asked seen may old new = Adds drawn asked seen may old new ⊎ ((new ≡ old) × IsLeftOut old) ⊎ IsMarked old new

-- The next draw is after those of the way, and is to be noted; or it is one of them, or its branch is left out.
abbrev pub IsFresh : Nodes → Type 0
IsFresh nodes = nodes.len ≤ nodes.at

abbrev pub IsSettled : Nodes → Type 0
IsSettled nodes = (nodes.at < nodes.len) ⊎ IsLeftOut nodes

-- The next draw of a way has this byte. An earlier way asked the same of it, as far as that is known.
abbrev pub HasAsked : ℕ → Asked → Look → Nodes → Type 0
HasAsked drawn asked seen nodes =
    (asked_at nodes nodes.at ≡ Unknown)
    ⊎ ((asked_at nodes nodes.at ≡ asked) × ((past : Node) → ((slice_index_or nodes.list nodes.at past).look ≡ seen) × ((slice_index_or nodes.list nodes.at past).byte ≡ drawn)))

-- The next draw is one of a way, and is passed. It is as it was on an earlier way, or the way is marked as too large.
pub record Passes (drawn : ℕ) (asked : Asked) (seen : Look) (old new : Nodes) : Type 0 where
  pub within : old.at < old.len
  pub past : (HasAsked drawn asked seen old × (new ≡ record old { at = old.at + 1 })) ⊎ (new ≡ record old { at = old.at + 1; too_large = true })

-- A draw that no way had before is noted.
pub record NotesNew (drawn : ℕ) (asked : Asked) (seen : Look) (may : ByteSet) (old new : Nodes) : Type 0 where
  pub fresh : IsFresh old
  pub noted : Notes drawn asked seen may old new

-- The way is marked as too large.
abbrev pub Marks : Nodes → Nodes → Type 0
Marks old new = new ≡ record old { too_large = true }

-- A generator whose first bytes are given (docs/MECHANICS.md, "Link numbers").

-- The generator of a path, before its first draw.
abbrev pub script_of : List ℕ → Script
script_of path = record { path = path; at = 0; number = 0 }

-- The byte that it draws next: the next given one, and after 24 of them the number.
abbrev pub next_byte : Script → ℕ
next_byte s = if nat_lt s.at 24 then slice_index s.path s.at else s.number

-- The script after a draw.
abbrev pub after_draw : Script → Script
after_draw s = if nat_lt s.at 24 then record s { at = s.at + 1 } else record s { number = one_up s.number }

-- How it draws: any 280 draws in a row hold every byte, since after 24 it counts up.
abbrev pub scripted : Generator Script
scripted = record { byte = next_byte; next = after_draw; width = 280 }
