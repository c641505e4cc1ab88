-- Positions between the two actions of a turn, when they agree, how a way reaches one, and what it leads to (docs/MECHANICS.md, "Order of a turn", "Link numbers").
use Rattle.std.specs.Prelude.{IsTrue, List, None, Option, Some, [], false, slice_index_or, true, ℕ, ◌++◌, ◌+◌, ◌∷◌, ◌^◌, ◌<◌, ◌≡◌, ◌≢◌, ◌≤◌, ◌⊎◌, drop, length, min, slice_index, take, ◌%◌, ◌*◌, ◌-◌, ◌/◌}
use Rattle.gen1_rolls.specs.declared.rolls.ByteTest.TheVariants.{RotatedAtLeast}
use Rattle.gen1_rolls.specs.declared.rolls.Look.TheVariants.{Remainder}
use Rattle.gen1_rolls.specs.Streams.{Drawn, Stream}
use Rattle.gen1_machine.specs.declared.side.Choice.{Choice}
use Rattle.gen1_machine.specs.declared.side.Side.{Side}
use Rattle.gen1_machine.specs.declared.side.Side.TheVariants.{One, Two}
use Rattle.gen1_machine.specs.declared.terms.Request.TheVariants.{Move}
use Rattle.gen1_machine.specs.Damage.{is_factor, vary}
use Rattle.gen1_machine.specs.HitTest.{hit_or_miss}
use Rattle.gen1_machine.specs.Picks.{pick_in}
use Rattle.gen1_machine.specs.Progress.{Progress, has_missed}
use Rattle.gen1_machine.specs.Ruling.{ruling_of}
use Rattle.gen1_machine.specs.State.{State}
use Rattle.gen1_machine.specs.Turn.{turn}
use Rattle.gen1_layout.specs.Parts.{Parts, parts_of, joined}
use Rattle.gen1_layout.specs.Shows.{Stands, Within, setting_of}
use Rattle.gen1_layout.specs.Words.{move_at}
use Rattle.gen1_turn.specs.declared.action.two_parts.Roll.{Roll}
use Rattle.gen1_engine.specs.Update.{AreOffered, Tests}
use Rattle.gen1_switching.specs.SwitchingIn.{Plays, drawing_on}
use Rattle.gen1_outcomes.specs.declared.beginning.Left.{Left}
use Rattle.gen1_outcomes.specs.declared.beginning.Rest.{Rest}
use Rattle.gen1_outcomes.specs.declared.log.Entry.{Entry}
use Rattle.gen1_outcomes.specs.declared.log.Entry.TheVariants.{Found}
use Rattle.gen1_outcomes.specs.declared.nodes.Nodes.{Nodes}
use Rattle.gen1_outcomes.specs.Beginning.{Begins, GoesTo, IsReadyFor, have_two_actions, left_of, rest_of, unflinched}
use Rattle.gen1_outcomes.specs.Listing.{IsPart, log_of, tested_first, untold, width_of, battle_at}
use Rattle.gen1_outcomes.specs.Plain.{AreOf, Follows, Leads, Walk, turn_on}
use Rattle.gen1_outcomes.specs.Nodes.{IsPathOf, IsTooLarge, script_of}
use Rattle.gen1_outcomes.specs.Chances.{IsSum, IsTooFine}
use Rattle.gen1_outcomes.specs.Logs.{Agrees, IsLogged, IsOrderOf, logged, place_at}
use Rattle.gen1_outcomes.specs.declared.middles.Middle.{Middle}
use Rattle.gen1_outcomes.specs.declared.middles.Middles.{Middles}
use Rattle.std.specs.Int.{from_le_bytes, w64}
use Rattle.gen1_engine.specs.declared.result.Refusal.{Refusal}
use Rattle.gen1_outcomes.specs.declared.successor.OutcomesFault.{OutcomesFault}
use Rattle.gen1_outcomes.specs.declared.merging.Place.{Place}
use Rattle.gen1_outcomes.specs.declared.merging.Tally.{Tally}
use Rattle.gen1_outcomes.specs.declared.successor.Successor.{Successor}
use Rattle.gen1_machine.specs.declared.side.Choice.TheVariants as choices
use Rattle.gen1_outcomes.specs.declared.beginning.Left.TheVariants as lefts
use Rattle.gen1_outcomes.specs.declared.successor.OutcomesFault.TheVariants as faults
use Rattle.gen1_outcomes.specs.declared.merging.Place.TheVariants as places

-- Two positions agree: their battles have the same bytes, and the rest of the update is the same.
pub record GoOnAlike (one other : Middle) : Type 0 where
  pub bytes : one.bytes ≡ other.bytes
  pub rest : one.rest ≡ other.rest

-- None of the first positions of a list agrees with another one, which has a rest and the number of its bytes.
abbrev pub HasNone : Middle → ℕ → List Middle → Type 0
HasNone middle count list =
    (k : ℕ) → (past : Middle) → k < count → GoOnAlike (slice_index_or list k past) middle
    → ((slice_index_or list k past).hash ≢ middle.hash) ⊎ ((slice_index_or list k past).rest ≡ None)

-- A position gets the ways of another.
pub record Gets (added old new : Middle) : Type 0 where
  pub bytes : new.bytes ≡ old.bytes
  pub rest : new.rest ≡ old.rest
  pub draws : new.draws ≡ old.draws
  pub chance : IsSum old.chance added.chance new.chance
  pub ways : new.ways ≡ old.ways + added.ways

-- 128 bits do not hold the sum of their probabilities, or 32 bits that of their ways.
abbrev pub IsTooMuch : Middle → Middle → Type 0
IsTooMuch added old = IsTooFine old.chance added.chance ⊎ (2 ^ 32 ≤ old.ways + added.ways)

-- That is so of one of the first positions of a list.
pub record HasTooMuch (added : Middle) (count : ℕ) (list : List Middle) : Type 0 where
  pub place : ℕ
  pub within : place < count
  pub here : (past : Middle) → IsTooMuch added (slice_index_or list place past)

-- A position of a list gets the ways of another that agrees with it. The rest of the list stays as it was.
pub record Joins (added : Middle) (old new : Middles) : Type 0 where
  pub place : ℕ
  pub within : place < old.len
  pub alike : (past : Middle) → GoOnAlike (slice_index_or old.list place past) added
  pub here : (past : Middle) → Gets added (slice_index_or old.list place past) (slice_index_or new.list place past)
  pub others : (k : ℕ) → (past : Middle) → k ≢ place → slice_index_or new.list k past ≡ slice_index_or old.list k past
  pub length : new.len ≡ old.len

-- A position is put into the next place.
pub record IsPut (added : Middle) (old new : Middles) : Type 0 where
  pub here : (past : Middle) → slice_index_or new.list old.len past ≡ added
  pub before : (k : ℕ) → (past : Middle) → k < old.len → slice_index_or new.list k past ≡ slice_index_or old.list k past
  pub length : new.len ≡ old.len + 1

-- A position is merged with one that agrees with it, or put into the next place.
abbrev pub IsAdded : Middle → Middles → Middles → Type 0
IsAdded added old new = Joins added old new ⊎ IsPut added old new

-- A way has too many draws after those to a position, or 128 bits do not hold its probability.
abbrev pub IsTooLong : Middle → Nodes → Type 0
IsTooLong middle nodes = (24 < middle.draws + nodes.len) ⊎ IsTooLarge nodes

-- A turn is at a position: it has the position's bytes, and this is left of the update.
pub record IsAt (s : State) (bytes : List ℕ) (rest : Left) (p : Progress) : Type 0 where
  pub within : Within (setting_of s) (parts_of bytes) p.field
  pub ready : IsReadyFor rest s.terms p

-- A turn on a stream arrives at a position: this rest of the update follows.
pub record Arrives (s : State) (one two : Choice) (stream : Stream) (middle : Middle) : Type 0 where
  pub rest : Left
  pub kept : middle.rest ≡ Some rest
  pub here : Progress
  pub at : IsAt s middle.bytes rest here
  pub on : here.stream ≡ stream
  pub rests : turn_on s one two stream 0 ≡ left_of rest (ruling_of s.terms) here

-- The parts are those of the rest of an update from a position, played with the draws of each stream that agrees with a log, from its
-- beginning on.
abbrev pub EndsAt : State → List ℕ → Left → List Entry → Parts → Type 0
EndsAt s bytes rest log parts =
    (stream : Stream) → Agrees log stream → (p : Progress) → IsAt s bytes rest p → p.stream ≡ stream → p.drawn ≡ 0
    → AreOf s parts untold (left_of rest (ruling_of s.terms) p)

-- The parts are those of the rest of an update from a position, or of a whole update.
abbrev pub LeadsFrom : State → Choice → Choice → List ℕ → Option Left → List Entry → Parts → Type 0
LeadsFrom s one two bytes None log parts = Leads s one two log parts untold
LeadsFrom s one two bytes (Some rest) log parts = EndsAt s bytes rest log parts

-- A way from the roll of a damage on whose hit test was drawn first, and hits: then the damage was rolled. The update rolls it first.
pub record PlaysHit (s : State) (bytes : List ℕ) (side : Side) (roll : Roll) (log order : List Entry) : Type 0 where
  pub tested : List Entry
  pub rolled : List Entry
  pub rest : List Entry
  pub asked : log ≡ tested ++ (rolled ++ rest)
  pub is : order ≡ rolled ++ (tested ++ rest)
  pub hits : (stream : Stream) → Agrees tested stream → (p : Progress) → IsAt s bytes (lefts.Roll side roll) p → p.stream ≡ stream → p.drawn ≡ 0
      → let q = hit_or_miss side (move_at roll.id) p in (has_missed q ≡ false) × (place_at tested stream 0 ≡ q.drawn)
  pub rolls : (stream : Stream) → Agrees rolled stream → (p : Progress) → IsAt s bytes (lefts.Roll side roll) p → p.stream ≡ stream → p.drawn ≡ 0
      → place_at rolled stream 0 ≡ (vary roll.damage p).drawn

-- One whose hit test misses, so that no damage was rolled. The update searches for a factor before all else.
pub record PlaysMiss (s : State) (bytes : List ℕ) (side : Side) (roll : Roll) (log order : List Entry) : Type 0 where
  pub byte : ℕ
  pub small : byte < 256
  pub passes : IsTrue (is_factor byte)
  pub is : order ≡ Found (RotatedAtLeast 217) (Remainder 1) byte ∷ log
  pub misses : (stream : Stream) → Agrees log stream → (p : Progress) → IsAt s bytes (lefts.Roll side roll) p → p.stream ≡ stream → p.drawn ≡ 0
      → has_missed (hit_or_miss side (move_at roll.id) p) ≡ true

-- The order in which an update draws what a way from a position asked.
abbrev pub IsPlayedIn : State → List ℕ → Option Left → List Entry → List Entry → Type 0
IsPlayedIn s bytes None log order = order ≡ log
IsPlayedIn s bytes (Some (lefts.Second rest)) log order = order ≡ log
IsPlayedIn s bytes (Some (lefts.Roll side roll)) log order = PlaysHit s bytes side roll log order ⊎ PlaysMiss s bytes side roll log order

-- What is played of an update from a position with the draws of a stream from its beginning on: what follows, but from a roll on with the hit test
-- before the roll.
abbrev pub PlaysFrom : State → Choice → Choice → List ℕ → Option Left → Stream → Parts → Type 0
PlaysFrom s one two bytes None stream parts = Follows s one two stream parts untold
PlaysFrom s one two bytes (Some (lefts.Second rest)) stream parts =
    (p : Progress) → IsAt s bytes (lefts.Second rest) p → p.stream ≡ stream → p.drawn ≡ 0 → AreOf s parts untold (rest_of rest (ruling_of s.terms) p)
PlaysFrom s one two bytes (Some (lefts.Roll side roll)) stream parts =
    (p : Progress) → IsAt s bytes (lefts.Roll side roll) p → p.stream ≡ stream → p.drawn ≡ 0 → AreOf s parts untold (tested_first side roll (ruling_of s.terms) p)

-- What a position leads to by a way with a path for these draws, in the order in which the update draws them if the way isn't too large.
pub record PlaysOn (w : Walk) (middle : Middle) (nodes after : Nodes) (parts : Parts) : Type 0 where
  pub path : List ℕ
  pub is_path : IsPathOf nodes path
  pub way : IsLogged (script_of path) nodes after
  pub order : List Entry
  pub same : IsOrderOf way.log order
  pub leads : after.too_large ≡ false → (s : State) → Stands w.start s → AreOffered s w.one w.two
      → LeadsFrom s w.one w.two middle.bytes middle.rest order parts
  pub drawn : after.too_large ≡ false → (s : State) → Stands w.start s → AreOffered s w.one w.two
      → IsPlayedIn s middle.bytes middle.rest way.log order
  pub played : (s : State) → Stands w.start s → AreOffered s w.one w.two → (stream : Stream) → Agrees way.log stream
      → PlaysFrom s w.one w.two middle.bytes middle.rest stream parts

-- A position is where a walk's turn of two moves is before its second action, on each stream that agrees with the log of a way with a path for
-- these draws.
pub record Reaches (w : Walk) (nodes after : Nodes) (middle : Middle) : Type 0 where
  pub path : List ℕ
  pub is_path : IsPathOf nodes path
  pub rest : Rest
  pub kept : middle.rest ≡ Some (lefts.Second rest)
  pub way : IsLogged (script_of path) nodes after
  pub begins : (s : State) → (j k : ℕ) → Stands w.start s → Plays s Move w.one w.two → w.one ≡ choices.Move j → w.two ≡ choices.Move k
      → (stream : Stream) → Agrees way.log stream
      → let p = drawing_on stream 0 s in
      Begins logged (record { origin = []; stream = stream }) (setting_of s) (parts_of middle.bytes) way.log rest (pick_in j One (unflinched p).field)
      (pick_in k Two (unflinched p).field) p (turn (ruling_of s.terms) w.one w.two p)

-- A position is where a turn arrives that was at another one, before its second action, on each stream that agrees with the log of a way
-- with a path for these draws.
pub record ReachesFrom (w : Walk) (from : Middle) (nodes after : Nodes) (to : Middle) : Type 0 where
  pub rest : Rest
  pub was : from.rest ≡ Some (lefts.Second rest)
  pub path : List ℕ
  pub is_path : IsPathOf nodes path
  pub left : Left
  pub kept : to.rest ≡ Some left
  pub way : IsLogged (script_of path) nodes after
  pub goes : (s : State) → (stream : Stream) → Agrees way.log stream → (p : Progress) → IsAt s from.bytes (lefts.Second rest) p → p.stream ≡ stream → p.drawn ≡ 0
      → GoesTo logged (record { origin = []; stream = stream }) (setting_of s) (parts_of to.bytes) way.log left (rest_of rest (ruling_of s.terms) p)

-- A position isn't before a second action.
abbrev pub IsElsewhere : Middle → Type 0
IsElsewhere middle = (rest : Rest) → middle.rest ≢ Some (lefts.Second rest)

-- The parts of an update of two actions that were played lead to a position, on each stream that agrees with their logs, one after the other:
-- the turn arrives there where these end. A stream does agree.
pub record IsReachedBy (w : Walk) (middle : Middle) : Type 0 where
  pub played : List (IsPart w.options)
  pub arrives : (s : State) → Stands w.start s → AreOffered s w.one w.two → (stream : Stream) → Agrees (log_of played) stream
      → (a : Arrives s w.one w.two stream middle) × (place_at (log_of played) stream 0 ≡ a.here.drawn)
  pub bytes : ℕ → ℕ
  pub agrees : Agrees (log_of played) (Drawn bytes (width_of played))
  pub two : (s : State) → Stands w.start s → have_two_actions w.one w.two s.field ≡ true

-- Or the position is the beginning of an update.
abbrev pub IsReached : Walk → Middle → Type 0
IsReached w middle = (middle.rest ≡ None) ⊎ IsReachedBy w middle

-- Each position of a list is reached.
abbrev pub AreReached : Walk → Middles → Type 0
AreReached w middles = (k : ℕ) → (past : Middle) → k < middles.len → IsReached w (slice_index_or middles.list k past)

-- Where a battle is in a list, why there is no list, and what a list leaves out.

-- A place of the table is free; or all are taken.
abbrev pub HasFree : List ℕ → Type 0
HasFree table = (slot : ℕ) × (slot < length table) × (slice_index table slot ≡ 0)

abbrev pub IsFull : List ℕ → Type 0
IsFull table = (slot : ℕ) → slot < length table → slice_index table slot ≢ 0

-- A list of so many battles is full, at the latest where 32 bits hold no further number, and a place of the table is free.
abbrev pub LacksPlaces : ℕ → ℕ → List ℕ → Type 0
LacksPlaces count places table = (min places 4294967295 ≤ count) × HasFree table

-- The array that a fault names is too short: the table is full, or if it has a free place, the list is. It isn't a refusal.
abbrev pub IsShort : OutcomesFault → ℕ → ℕ → List ℕ → Type 0
IsShort (faults.Refused why) count places table = ⊥
IsShort faults.Places count places table = LacksPlaces count places table
IsShort faults.Table count places table = IsFull table
IsShort faults.Size count places table = Unit {0}

-- A fault is a refusal.
abbrev pub IsRefusal : OutcomesFault → Type 0
IsRefusal fault = (why : Refusal) × (fault ≡ faults.Refused why)

-- A list is refused as the update is. Where a list has another fault, both choices are offered.
abbrev pub IsFaultOf : State → Choice → Choice → OutcomesFault → Type 0
IsFaultOf s one two (faults.Refused why) = Tests s one two (Some why)
IsFaultOf s one two faults.Places = AreOffered s one two
IsFaultOf s one two faults.Table = AreOffered s one two
IsFaultOf s one two faults.Size = AreOffered s one two

-- A place of the list whose battle has the same bytes, or a free place of the table, if it has one.
abbrev pub IsPlace : List Successor → List ℕ → Parts → Place → Type 0
IsPlace xs table battle (places.Taken k) = (k < length xs) × ((none : Successor) → joined (battle_at xs k none) ≡ joined battle)
IsPlace xs table battle (places.Free slot) = (slot < length table) × (slice_index table slot ≡ 0)
IsPlace xs table battle places.Full = IsFull table

-- The least probability stays, and if it is 0, nothing more is left out.
pub record LeavesOut (old new : Tally) : Type 0 where
  pub least : new.least ≡ old.least
  pub none : old.least ≡ 0 → old.left_out ≡ 0 → new.left_out ≡ 0

-- A word of eight bytes, its low byte first.
abbrev pub word_at : List ℕ → ℕ → ℕ
word_at bytes at = from_le_bytes w64 (take 8 (drop at bytes))

-- A number and a word become another number of 64 bits.
abbrev pub mixed : ℕ → ℕ → ℕ
mixed hash word = (hash * 11400714819323198485 + word) % 18446744073709551616

-- With the words of a member and of an active block that most updates change.
abbrev pub with_member : ℕ → List ℕ → ℕ → ℕ
with_member hash bytes at = mixed (mixed (mixed hash (word_at bytes at)) (word_at bytes (at + 14))) (word_at bytes (at + 16))

abbrev pub with_block : ℕ → List ℕ → ℕ → ℕ
with_block hash bytes at =
    mixed (mixed (mixed (mixed hash (word_at bytes at)) (word_at bytes (at + 8))) (word_at bytes (at + 16))) (word_at bytes (at + 24))

-- With those of a side: of the member in the place that its active block names, and of this block.
abbrev pub with_side : ℕ → List ℕ → ℕ → ℕ
with_side hash bytes at = with_block (with_member hash bytes (at + 24 * min (slice_index bytes (at + 144) - 1) 5)) bytes (at + 144)

-- The number of a battle, by its bytes alone.
abbrev pub hash_of : List ℕ → ℕ
hash_of bytes = mixed (with_side (with_side (mixed (word_at bytes 0) (word_at bytes 16)) bytes 24) bytes 204) 0 / 4294967296

-- The slot of a table that is tried for a battle after so many others.
abbrev pub slot_of : List ℕ → List ℕ → ℕ → ℕ
slot_of table bytes steps = (hash_of bytes + steps) % length table

-- A battle has a number in a table: it is found at a slot after taken ones only.
pub record HasNumber (table bytes : List ℕ) (number : ℕ) : Type 0 where
  pub steps : ℕ
  pub few : steps < length table
  pub here : slice_index table (slot_of table bytes steps) ≡ number
  pub past : (j : ℕ) → j < steps → slice_index table (slot_of table bytes j) ≢ 0

-- No two of the first battles have the same bytes.
abbrev pub AreDistinct : ℕ → List Successor → Type 0
AreDistinct count xs = (j k : ℕ) → (past : Successor) → j < k → k < count → joined (battle_at xs j past) ≢ joined (battle_at xs k past)

-- They are distinct, and each has its number in the table, counted from one.
pub record IsIndexed (table : List ℕ) (count : ℕ) (xs : List Successor) : Type 0 where
  pub numbers : (k : ℕ) → (past : Successor) → k < count → HasNumber table (joined (battle_at xs k past)) (k + 1)
  pub distinct : AreDistinct count xs

-- A battle is none of the first ones, and its number goes into a slot that is found after taken ones only.
pub record IsFreeFor (table : List ℕ) (count : ℕ) (xs : List Successor) (battle : Parts) (slot : ℕ) : Type 0 where
  pub steps : ℕ
  pub few : steps < length table
  pub here : slot_of table (joined battle) steps ≡ slot
  pub past : (j : ℕ) → j < steps → slice_index table (slot_of table (joined battle) j) ≢ 0
  pub absent : (k : ℕ) → (other : Successor) → k < count → joined (battle_at xs k other) ≢ joined battle

-- A free place is one for a battle that is not in the list.
abbrev pub IsNew : List Successor → List ℕ → Parts → Place → Type 0
IsNew xs table battle (places.Taken k) = Unit {0}
IsNew xs table battle (places.Free slot) = IsFreeFor table (length xs) xs battle slot
IsNew xs table battle places.Full = Unit {0}

-- Where the first battles were indexed, they are so in another table and list.
abbrev pub StayIndexed : Tally → List Successor → List ℕ → Tally → List Successor → List ℕ → Type 0
StayIndexed old xs before new ys after = IsIndexed before old.count xs → IsIndexed after new.count ys
