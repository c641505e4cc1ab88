-- Weights as probabilities: fractions, the part of a list's weights that a battle has, and what a position adds to it (docs/MECHANICS.md, "Link numbers").
use Rattle.std.specs.Prelude.{List, nat_lt, slice_index_or, ℕ, ◌*◌, ◌+◌, ◌<◌, ◌==◌, ◌≡◌, ◌≢◌, ◌≤◌, ◌⊎◌, if◌then◌else◌, Bool, Option, Some, bytes_eq, suc, true, zero}
use Rattle.std.specs.List.{sum_by}
use Rattle.gen1_layout.specs.Parts.{Parts, joined}
use Rattle.gen1_outcomes.specs.declared.merging.Tally.{Tally}
use Rattle.gen1_outcomes.specs.declared.nodes.Chance.{Chance}
use Rattle.gen1_outcomes.specs.declared.outcomes.Outcomes.{Outcomes}
use Rattle.gen1_outcomes.specs.declared.successor.Successor.{Successor}
use Rattle.gen1_outcomes.specs.Chances.{IsBelow}
use Rattle.gen1_outcomes.specs.Listing.{battle_at, weight_of}
use Rattle.gen1_rolls.specs.Streams.{IsStream, Stream}
use Rattle.gen1_machine.specs.declared.side.Choice.{Choice}
use Rattle.gen1_machine.specs.Laws.{IsShare, IsShareOfUpdate, Tree, drawing_from, leads_to}
use Rattle.gen1_machine.specs.Progress.{Progress}
use Rattle.gen1_machine.specs.Ruling.{ruling_of}
use Rattle.gen1_machine.specs.State.{Field, State}
use Rattle.gen1_machine.specs.Step.{opened}
use Rattle.gen1_layout.specs.Shows.{blocks_of, setting_of, state_in}
use Rattle.gen1_outcomes.specs.declared.beginning.Left.{Left}
use Rattle.gen1_outcomes.specs.declared.middles.Middle.{Middle}
use Rattle.gen1_outcomes.specs.declared.middles.Middles.{Middles}
use Rattle.gen1_outcomes.specs.Beginning.{left_of}
use Rattle.gen1_outcomes.specs.Complete.{FollowsFrom, OffersTwo}
use Rattle.gen1_outcomes.specs.Plain.{Walk}
use Rattle.gen1_outcomes.specs.Middles.{IsAt}

-- Shares of a list: weights over its denominator. How a battle gets its share, and which shares are left out (docs/MECHANICS.md, "Link numbers").

-- The weight at a place.
abbrev pub weight_at : List Successor → ℕ → Successor → ℕ
weight_at xs k past = weight_of (slice_index_or xs k past)

-- A weight is the same part of its denominator as another one was.
abbrev pub IsSamePart : ℕ → ℕ → ℕ → ℕ → Type 0
IsSamePart old whole new now = new * whole ≡ old * now

-- A weight is that part and a probability more.
abbrev pub Grows : Chance → ℕ → ℕ → ℕ → ℕ → Type 0
Grows c old whole new now = new * (whole * c.whole) ≡ now * (old * c.whole + c.num * whole)

-- The weights are over another denominator, as the same parts of it.
pub record KeepsShares (old new : Tally) (xs ys : List Successor) : Type 0 where
  pub whole : 0 < old.whole → 0 < new.whole
  pub each : (k : ℕ) → (past : Successor) → k < old.count → IsSamePart (weight_at xs k past) old.whole (weight_at ys k past) new.whole
  pub left : IsSamePart old.left_out old.whole new.left_out new.whole
  pub count : new.count ≡ old.count
  pub least : new.least ≡ old.least
  pub ways : new.ways ≡ old.ways

-- The weight at a place before a battle gets its share: 0 past the end.
abbrev pub weight_before : Tally → List Successor → ℕ → Successor → ℕ
weight_before t xs k past = if nat_lt k t.count then weight_at xs k past else 0

-- A battle gets a probability: the one at its place has the same bytes, or it is put into the next place. The others and what is left
-- out keep their shares.
pub record GetsShare (battle : Parts) (c : Chance) (old new : Tally) (xs ys : List Successor) : Type 0 where
  pub place : ℕ
  pub within : place < new.count
  pub there : ((place < old.count) × (new.count ≡ old.count)) ⊎ ((place ≡ old.count) × (new.count ≡ old.count + 1))
  pub bytes : (past : Successor) → joined (battle_at ys place past) ≡ joined battle
  pub here : (past : Successor) → Grows c (weight_before old xs place past) old.whole (weight_at ys place past) new.whole
  pub others : (k : ℕ) → (past : Successor) → k < old.count → k ≢ place → IsSamePart (weight_at xs k past) old.whole (weight_at ys k past) new.whole
  pub left : IsSamePart old.left_out old.whole new.left_out new.whole
  pub probable : old.least * c.whole ≤ c.num * 4294967296
  pub whole : 0 < old.whole → 0 < new.whole
  pub least : new.least ≡ old.least
  pub ways : new.ways ≡ old.ways

-- A probability below the least one is left out. The battles keep their shares.
pub record IsLeft (c : Chance) (old new : Tally) (xs ys : List Successor) : Type 0 where
  pub below : IsBelow old.least c
  pub left : Grows c old.left_out old.whole new.left_out new.whole
  pub each : (k : ℕ) → (past : Successor) → k < old.count → IsSamePart (weight_at xs k past) old.whole (weight_at ys k past) new.whole
  pub count : new.count ≡ old.count
  pub whole : 0 < old.whole → 0 < new.whole
  pub least : new.least ≡ old.least
  pub ways : new.ways ≡ old.ways

-- A battle with a probability is added to a list, or left out.
abbrev pub Adds : Parts → Chance → Tally → Tally → List Successor → List Successor → Type 0
Adds battle c old new xs ys = GetsShare battle c old new xs ys ⊎ IsLeft c old new xs ys

-- Each outcome is at least as probable as the least probability, and what is left out is no more than that for each way.
pub record AreProbable (t : Tally) (xs : List Successor) : Type 0 where
  pub whole : 0 < t.whole
  pub each : (k : ℕ) → (past : Successor) → k < t.count → t.least * t.whole ≤ weight_at xs k past * 4294967296
  pub left : t.left_out * 4294967296 ≤ t.ways * (t.least * t.whole)

-- Where that was so of a list, it is so of another one.
abbrev pub StayProbable : Tally → List Successor → Tally → List Successor → Type 0
StayProbable old xs new ys = AreProbable old xs → AreProbable new ys

-- Each outcome of the result is at least as probable as the least probability.
abbrev pub EachIsProbable : ℕ → Outcomes → List Successor → Type 0
EachIsProbable least o xs = (k : ℕ) → (past : Successor) → k < o.count → least * o.whole ≤ weight_at xs k past * 4294967296

-- So many ways more are counted for each that is played: as many as lead to a position.
abbrev pub CountsEach : ℕ → Tally → Tally → Type 0
CountsEach ways old new = (played : ℕ) × (new.ways ≡ old.ways + played * ways)

-- How many places of a table are taken.
abbrev pub taken : List ℕ → ℕ
taken table = sum_by (λ number. if number == 0 then 0 else 1) table

-- A table has as many taken places more as a list has battles more.
abbrev pub TakesEach : Tally → Tally → List ℕ → List ℕ → Type 0
TakesEach old new before table = taken table + old.count ≡ taken before + new.count

-- A fraction.
pub record Fraction : Type 0 where
  pub num : ℕ
  pub whole : ℕ

-- Two fractions are the same number.
pub record AreEqual (a b : Fraction) : Type 0 where
  pub one : 0 < a.whole
  pub other : 0 < b.whole
  pub cross : a.num * b.whole ≡ b.num * a.whole

abbrev pub plus : Fraction → Fraction → Fraction
plus a b = record { num = a.num * b.whole + b.num * a.whole; whole = a.whole * b.whole }

abbrev pub times : Fraction → Fraction → Fraction
times a b = record { num = a.num * b.num; whole = a.whole * b.whole }

abbrev pub nothing : Fraction
nothing = record { num = 0; whole = 1 }

abbrev pub unit : Fraction
unit = record { num = 1; whole = 1 }

-- A probability as a fraction.
abbrev pub of_chance : Chance → Fraction
of_chance c = record { num = c.num; whole = c.whole }

-- A test passes the fields that the bytes of a battle represent, and no others.
pub record IsTestOf (s : State) (battle : Parts) (passes : Field → Bool) : Type 0 where
  pub passed : (f : Field) → joined (blocks_of (state_in (setting_of s) f)) ≡ joined battle → passes f ≡ true
  pub of : (f : Field) → passes f ≡ true → joined (blocks_of (state_in (setting_of s) f)) ≡ joined battle

-- A list has a battle with this part of its weights.
pub record IsPartAt (battle : Parts) (t : Tally) (xs : List Successor) (x : Fraction) : Type 0 where
  pub place : ℕ
  pub within : place < t.count
  pub bytes : (past : Successor) → joined (battle_at xs place past) ≡ joined battle
  pub part : (past : Successor) → AreEqual x (record { num = weight_at xs place past; whole = t.whole })

-- It does not have the battle, and the part is nothing.
pub record IsNoPart (battle : Parts) (t : Tally) (xs : List Successor) (x : Fraction) : Type 0 where
  pub absent : (k : ℕ) → (past : Successor) → k < t.count → joined (battle_at xs k past) ≢ joined battle
  pub nothing : AreEqual x nothing

-- The part of a list's weights that a battle has: its weight over the denominator, or nothing if it isn't listed.
pub record HasPart (battle : Parts) (t : Tally) (xs : List Successor) (x : Fraction) : Type 0 where
  pub some : 0 < t.whole
  pub part : IsPartAt battle t xs x ⊎ IsNoPart battle t xs x

-- A test passes the field that a tree leads to on a stream exactly if these parts are the battle.
pub record Tells (passes : Field → Bool) (battle : Parts) (tree : Tree) (stream : Stream) (parts : Parts) : Type 0 where
  pub passed : joined parts ≡ joined battle → passes (leads_to tree stream 0).field ≡ true
  pub of : passes (leads_to tree stream 0).field ≡ true → joined parts ≡ joined battle

-- It does so for what follows from a position on each stream.
abbrev pub IsTreeFrom : State → Choice → Choice → List ℕ → Option Left → (Field → Bool) → Parts → Tree → Type 0
IsTreeFrom s one two bytes rest passes battle tree =
    (stream : Stream) → IsStream stream → (parts : Parts) → FollowsFrom s one two bytes rest stream parts → Tells passes battle tree stream parts

-- Where a list has this part of a battle, it has afterwards what a position adds: its probability times the battle's share of a tree from there.
abbrev pub AddsPart : Walk → Middle → State → Tally → List Successor → Tally → List Successor → Type 0
AddsPart w middle s old xs new ys =
    (battle : Parts) → (passes : Field → Bool) → (tree : Tree) → IsTreeFrom s w.one w.two middle.bytes middle.rest passes battle tree
    → (whole share : ℕ) → 0 < whole → IsShare tree passes whole share
    → (x : Fraction) → HasPart battle old xs x → HasPart battle new ys (plus x (times (of_chance middle.chance) (record { num = share; whole = whole })))

-- The rest of an update from a position: a tree of it from some battle that is there, and the share of the fields that pass a test.
pub record HasRest (s : State) (passes : Field → Bool) (bytes : List ℕ) (rest : Left) : Type 0 where
  pub here : Progress
  pub at : IsAt s bytes rest here
  pub tree : Tree
  pub leads : (stream : Stream) (n : ℕ) → left_of rest (ruling_of s.terms) (drawing_from stream n here) ≡ leads_to tree stream n
  pub whole : ℕ
  pub share : ℕ
  pub some : 0 < whole
  pub is : IsShare tree passes whole share

abbrev pub share_of : {s : State} {passes : Field → Bool} {bytes : List ℕ} {rest : Left} → HasRest s passes bytes rest → Fraction
share_of h = record { num = h.share; whole = h.whole }

-- The part of the position at a place: its probability times that share.
pub record IsPartOf (s : State) (passes : Field → Bool) (middles : Middles) (k : ℕ) (x : Fraction) : Type 0 where
  pub bytes : List ℕ
  pub rest : Left
  pub from : HasRest s passes bytes rest
  pub same : (past : Middle) → (slice_index_or middles.list k past).bytes ≡ bytes
  pub kept : (past : Middle) → (slice_index_or middles.list k past).rest ≡ Some rest
  pub part : (past : Middle) → AreEqual x (times (of_chance (slice_index_or middles.list k past).chance) (share_of from))

-- f 0 + f 1 + .. + f (n - 1).
unfoldable pub sum_of_parts : ℕ → (ℕ → Fraction) → Fraction
sum_of_parts zero f = nothing
sum_of_parts (suc n) f = plus (sum_of_parts n f) (f n)

-- The sum of the parts of the kept positions.
pub record ArePending (s : State) (passes : Field → Bool) (middles : Middles) (x : Fraction) : Type 0 where
  pub part : ℕ → Fraction
  pub each : (k : ℕ) → k < middles.len → IsPartOf s passes middles k (part k)
  pub sum : AreEqual x (sum_of_parts middles.len part)

-- Whichever battle is at a position, the rest of the update leads to fields of which a test says the same.
abbrev pub IsAlikeFrom : State → (Field → Bool) → List ℕ → Left → Type 0
IsAlikeFrom s passes bytes rest =
    (p q : Progress) → IsAt s bytes rest p → IsAt s bytes rest q → (stream : Stream) → IsStream stream
    → passes (left_of rest (ruling_of s.terms) (drawing_from stream 0 p)).field ≡ passes (left_of rest (ruling_of s.terms) (drawing_from stream 0 q)).field

abbrev pub AreAlikeFrom : State → (Field → Bool) → Middles → Type 0
AreAlikeFrom s passes middles =
    (k : ℕ) → (past : Middle) → (rest : Left) → k < middles.len → (slice_index_or middles.list k past).rest ≡ Some rest
    → IsAlikeFrom s passes (slice_index_or middles.list k past).bytes rest

-- A list gets the part of a battle that the kept positions have.
abbrev pub AddsPending : Walk → Middles → Tally → List Successor → Tally → List Successor → Type 0
AddsPending w middles old xs new ys =
    (s : State) → OffersTwo w s → (battle : Parts) → (passes : Field → Bool) → IsTestOf s battle passes
    → AreAlikeFrom s passes middles × ((x y : Fraction) → HasPart battle old xs x → ArePending s passes middles y → HasPart battle new ys (plus x y))

-- It gets some of it, and the rest is still that of kept positions.
pub record Keeps (s : State) (battle : Parts) (passes : Field → Bool) (middles : Middles) (new : Tally) (ys : List Successor) (x y : Fraction) : Type 0 where
  pub listed : Fraction
  pub left : Fraction
  pub list : HasPart battle new ys (plus x listed)
  pub pending : ArePending s passes middles left
  pub sum : AreEqual y (plus listed left)

abbrev pub KeepsPending : Walk → Middles → Tally → List Successor → Middles → Tally → List Successor → Type 0
KeepsPending w before old xs middles new ys =
    (s : State) → OffersTwo w s → (battle : Parts) → (passes : Field → Bool) → IsTestOf s battle passes
    → (AreAlikeFrom s passes middles → AreAlikeFrom s passes before)
    × ((x y : Fraction) → HasPart battle old xs x → ArePending s passes before y → Keeps s battle passes middles new ys x y)

-- A list gets the probability that the update leads to a battle.
abbrev pub AddsUpdate : Walk → State → Tally → List Successor → Tally → List Successor → Type 0
AddsUpdate w s old xs new ys =
    (battle : Parts) → (passes : Field → Bool) → IsTestOf s battle passes
    → (whole share : ℕ) → 0 < whole → IsShareOfUpdate s.terms w.one w.two (opened s) passes whole share
    → (x : Fraction) → HasPart battle old xs x → HasPart battle new ys (plus x (record { num = share; whole = whole }))

-- Whether the bytes of a battle represent a field.
abbrev pub are_of : State → Parts → Field → Bool
are_of s battle f = bytes_eq (joined (blocks_of (state_in (setting_of s) f))) (joined battle)

-- The weight of each battle over the denominator is the probability that the update leads to it.
abbrev pub HasProbabilities : State → Choice → Choice → ℕ → ℕ → List Successor → Type 0
HasProbabilities s one two count whole xs =
    (k : ℕ) → (past : Successor) → k < count
    → (total share : ℕ) → IsShareOfUpdate s.terms one two (opened s) (are_of s (battle_at xs k past)) total share → weight_at xs k past * total ≡ share * whole
