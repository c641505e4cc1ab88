-- Which streams go by the draws of a way, and lists that have a battle for every stream (docs/MECHANICS.md, "Link numbers").
use Rattle.std.specs.Prelude.{List, None, Option, Some, slice_index_or, suc, true, zero, ℕ, ◌<◌, ◌≡◌, ◌≤◌, ◌⊎◌}
use Rattle.gen1_rolls.specs.Streams.{passes, IsStream, Stream, byte_at, first}
use Rattle.gen1_machine.specs.declared.side.Choice.{Choice}
use Rattle.gen1_machine.specs.Progress.{Progress}
use Rattle.gen1_machine.specs.Ruling.{ruling_of}
use Rattle.gen1_machine.specs.State.{State}
use Rattle.gen1_layout.specs.Parts.{Parts, joined}
use Rattle.gen1_layout.specs.Shows.{Stands}
use Rattle.gen1_engine.specs.Update.{AreOffered}
use Rattle.gen1_outcomes.specs.declared.beginning.Left.{Left}
use Rattle.gen1_outcomes.specs.declared.middles.Middle.{Middle}
use Rattle.gen1_outcomes.specs.declared.middles.Middles.{Middles}
use Rattle.gen1_outcomes.specs.declared.nodes.Asked.{Asked}
use Rattle.gen1_outcomes.specs.declared.nodes.Asked.TheVariants.{First, Next, Unknown}
use Rattle.gen1_outcomes.specs.declared.nodes.Nodes.{Nodes}
use Rattle.gen1_outcomes.specs.declared.successor.OutcomeOptions.{OutcomeOptions}
use Rattle.gen1_outcomes.specs.declared.successor.Successor.{Successor}
use Rattle.gen1_outcomes.specs.Beginning.{have_two_actions, left_of}
use Rattle.gen1_outcomes.specs.Plain.{AreOf, Follows, Walk}
use Rattle.gen1_outcomes.specs.Listing.{KeepsFirst, battle_at, untold}
use Rattle.gen1_outcomes.specs.Logs.{place_past}
use Rattle.gen1_outcomes.specs.Middles.{Arrives, IsAt}
use Rattle.gen1_outcomes.specs.Nodes.{AreLeft, AreOn, AreToCome, asked_at}

-- The place of the byte that is asked for, from n on.
abbrev pub place_asked : Asked → Stream → ℕ → Option ℕ
place_asked Next s n = Some n
place_asked (First test) s n = first s n (passes test)
place_asked Unknown s n = None

-- Where the draws of a way begin in a stream, counted from 0.
abbrev pub place_before : (ℕ → Asked) → Stream → ℕ → ℕ
place_before asked s zero = 0
place_before asked s (suc k) = place_past (place_asked (asked k) s (place_before asked s k)) (place_before asked s k)

-- The byte at a place, or 0 without one.
abbrev pub byte_or_zero : Stream → Option ℕ → ℕ
byte_or_zero s (Some m) = byte_at s m
byte_or_zero s None = 0

-- The byte that a stream has for each of them.
abbrev pub byte_for : (ℕ → Asked) → Stream → ℕ → ℕ
byte_for asked s k = byte_or_zero s (place_asked (asked k) s (place_before asked s k))

-- A stream goes by the draws of a way: its bytes for them are in their classes.
abbrev pub GoesBy : Nodes → Stream → Type 0
GoesBy nodes s = AreOn nodes nodes.len (byte_for (asked_at nodes) s)

-- A stream is left for a later way: up to a draw it goes by them, and its byte for this one is still to be tried.
abbrev pub WaitsAfter : Nodes → Stream → Type 0
WaitsAfter nodes s = AreLeft nodes (byte_for (asked_at nodes) s)

-- It goes by the draws of a way, or is left for a later one.
abbrev pub IsToCome : Nodes → Stream → Type 0
IsToCome nodes s = AreToCome nodes (byte_for (asked_at nodes) s)

-- The list has a battle with the bytes of one that is as described.
pub record Lists (Is : Parts → Type 0) (count : ℕ) (xs : List Successor) : Type 0 where
  pub place : ℕ
  pub within : place < count
  pub battle : Parts
  pub is : Is battle
  pub bytes : (past : Successor) → joined (battle_at xs place past) ≡ joined battle

-- A battle follows with the draws of a stream from its beginning on: it is what the rest of an update makes of a position, or without one, what the whole update does.
abbrev pub FollowsFrom : State → Choice → Choice → List ℕ → Option Left → Stream → Parts → Type 0
FollowsFrom s one two bytes None stream battle = Follows s one two stream battle untold
FollowsFrom s one two bytes (Some rest) stream battle =
    (p : Progress) → IsAt s bytes rest p → p.stream ≡ stream → p.drawn ≡ 0 → AreOf s battle untold (left_of rest (ruling_of s.terms) p)

-- States of the battle of a walk that offer its pair, and those in which it has two actions.
pub record Offers (w : Walk) (s : State) : Type 0 where
  pub stands : Stands w.start s
  pub offered : AreOffered s w.one w.two

pub record OffersTwo (w : Walk) (s : State) : Type 0 where
  pub offers : Offers w s
  pub two : have_two_actions w.one w.two s.field ≡ true

-- The list has a battle for every stream from a position on.
abbrev pub ListsFrom : Walk → Middle → State → ℕ → List Successor → Type 0
ListsFrom w middle s count xs = (stream : Stream) → IsStream stream → Lists (FollowsFrom s w.one w.two middle.bytes middle.rest stream) count xs

-- The list has a battle that follows on a stream.
abbrev pub IsListed : State → Choice → Choice → Stream → ℕ → List Successor → Type 0
IsListed s one two stream count xs = Lists (λ battle. Follows s one two stream battle untold) count xs

-- A turn on a stream arrives at a position that is kept.
pub record ArrivesAt (w : Walk) (s : State) (stream : Stream) (middles : Middles) : Type 0 where
  pub place : ℕ
  pub within : place < middles.len
  pub arrives : (past : Middle) → Arrives s w.one w.two stream (slice_index_or middles.list place past)

-- It does, or a battle that follows on the stream is listed.
abbrev pub IsHandled : Walk → State → Stream → Middles → ℕ → List Successor → Type 0
IsHandled w s stream middles count xs = ArrivesAt w s stream middles ⊎ IsListed s w.one w.two stream count xs

-- This stays so of every stream.
abbrev pub LosesNone : Walk → Middles → ℕ → List Successor → Middles → ℕ → List Successor → Type 0
LosesNone w before first old middles count new =
    (s : State) → OffersTwo w s → (stream : Stream) → IsStream stream → IsHandled w s stream before first old → IsHandled w s stream middles count new

-- Every stream that was handled has a battle in the list.
abbrev pub ListsHandled : Walk → Middles → ℕ → List Successor → ℕ → List Successor → Type 0
ListsHandled w middles first old count new =
    (s : State) → OffersTwo w s → (stream : Stream) → IsStream stream → IsHandled w s stream middles first old → IsListed s w.one w.two stream count new

-- No battle of the list is lost: each of the first stays in its place.
pub record Extends (before : ℕ) (old : List Successor) (count : ℕ) (new : List Successor) : Type 0 where
  pub more : before ≤ count
  pub first : KeepsFirst before old new

-- Each damage is distinguished, and nothing is left out.
pub record IsExact (options : OutcomeOptions) : Type 0 where
  pub classes : options.damage_classes ≡ 0
  pub least : options.least ≡ 0

-- The list has a battle for every stream.
abbrev pub ListsEvery : State → Choice → Choice → ℕ → List Successor → Type 0
ListsEvery s one two count xs = (stream : Stream) → IsStream stream → IsListed s one two stream count xs
