-- Logs of draws and searches, the streams that agree with one, and the notes of them (docs/MECHANICS.md, "Link numbers").
use Rattle.std.specs.Prelude.{IsTrue, List, None, Option, Some, [], ℕ, ◌++◌, ◌+◌, ◌<◌, ◌∷◌, ◌≡◌, ◌⊎◌}
use Rattle.std.specs.Borrow.{GName}
use Rattle.gen1_rolls.specs.declared.rolls.ByteTest.{ByteTest}
use Rattle.gen1_rolls.specs.declared.rolls.Look.{Look}
use Rattle.gen1_rolls.specs.declared.rolls.Look.TheVariants.{Remainder}
use Rattle.gen1_rolls.specs.Draws.{Drawing}
use Rattle.gen1_rolls.specs.Streams.{passes, sees, IsStream, Stream, byte_at, first, span}
use Rattle.gen1_rolls.specs.Steady.{StandsAt, stream_of}
use Rattle.gen1_outcomes.specs.declared.byte_set.ByteSet.{ByteSet}
use Rattle.gen1_outcomes.specs.declared.explorer.Explorer.{Explorer}
use Rattle.gen1_outcomes.specs.declared.log.Entry.{Entry}
use Rattle.gen1_outcomes.specs.declared.log.Entry.TheVariants.{Draw, Found, Missed}
use Rattle.gen1_outcomes.specs.declared.nodes.Asked.TheVariants.{First, Next}
use Rattle.gen1_outcomes.specs.declared.nodes.Nodes.{Nodes}
use Rattle.gen1_outcomes.specs.declared.explorer.Script.{Script}
use Rattle.gen1_outcomes.specs.Nodes.{IsSettled, Marks, NotesNew, Passes, scripted}
use Rattle.gen1_outcomes.specs.Bytes.{ArePassing, IsAll, IsNone}

-- The place after what a search from n on finds.
abbrev pub place_past : Option ℕ → ℕ → ℕ
place_past (Some m) n = m + 1
place_past None n = n

-- The place of a stream after a draw or a search from n on.
abbrev pub place_after : Entry → Stream → ℕ → ℕ
place_after (Draw look b) s n = n + 1
place_after (Found test look b) s n = place_past (first s n (passes test)) n
place_after (Missed test) s n = n + span s

-- The place of a stream after all of a log.
abbrev pub place_at : List Entry → Stream → ℕ → ℕ
place_at [] s n = n
place_at (e ∷ es) s n = place_at es s (place_after e s n)

-- A search from n on finds a byte of which the look sees the same.
pub record FindsAlike (test : ByteTest) (look : Look) (b : ℕ) (s : Stream) (n : ℕ) : Type 0 where
  pub place : ℕ
  pub found : first s n (passes test) ≡ Some place
  pub alike : sees look b ≡ sees look (byte_at s place)

-- A stream from n on agrees with a draw or a search: the look sees the same of its byte.
abbrev pub Fits : Entry → Stream → ℕ → Type 0
Fits (Draw look b) s n = sees look b ≡ sees look (byte_at s n)
Fits (Found test look b) s n = FindsAlike test look b s n
Fits (Missed test) s n = first s n (passes test) ≡ None

-- It does with each of a log.
abbrev pub AllFit : List Entry → Stream → ℕ → Type 0
AllFit [] s n = Unit {0}
AllFit (e ∷ es) s n = Fits e s n × AllFit es s (place_after e s n)

-- A stream from its beginning on agrees with a log.
pub record Agrees (log : List Entry) (s : Stream) : Type 0 where
  pub is : IsStream s
  pub fit : AllFit log s 0

-- What a draw or a search changes in the notes. A draw may have any byte, and a search those that pass, or what it may have does not matter.
-- A way whose search finds nothing is marked.
abbrev pub NotesEntry : Entry → Nodes → Nodes → Type 0
NotesEntry (Draw look b) old new = Passes b Next look old new ⊎ ((may : ByteSet) × IsAll may × NotesNew b Next look may old new)
NotesEntry (Found test look b) old new =
    (b < 256) × IsTrue (passes test b)
    × (Passes b (First test) look old new ⊎ ((may : ByteSet) × (ArePassing (passes test) may ⊎ (IsSettled old × IsNone may)) × NotesNew b (First test) look may old new))
NotesEntry (Missed test) old new = Marks old new

-- What all of a log change in them, one after the other.
abbrev pub NotesAll : List Entry → Nodes → Nodes → Type 0
NotesAll [] old new = new ≡ old
NotesAll (e ∷ es) old new = (now : Nodes) × NotesEntry e old now × NotesAll es now new

-- A way was played with the draws of a script: they agree with its log, all of which was noted.
pub record IsLogged (script : Script) (old new : Nodes) : Type 0 where
  pub log : List Entry
  pub own : Agrees log (stream_of scripted script)
  pub noted : NotesAll log old new

-- An order of a log in which what was asked second comes before what was asked first.
pub record IsSwapped (log order : List Entry) : Type 0 where
  pub first : List Entry
  pub second : List Entry
  pub rest : List Entry
  pub asked : log ≡ first ++ (second ++ rest)
  pub is : order ≡ second ++ (first ++ rest)

-- An order with a search before all else that was not asked, since nothing is seen of the byte that it finds.
pub record IsUnasked (log order : List Entry) : Type 0 where
  pub test : ByteTest
  pub byte : ℕ
  pub small : byte < 256
  pub passes : IsTrue (passes test byte)
  pub is : order ≡ Found test (Remainder 1) byte ∷ log

-- The order in which an update draws what was asked in the order of a log.
abbrev pub IsOrderOf : List Entry → List Entry → Type 0
IsOrderOf log order = (order ≡ log) ⊎ IsSwapped log order ⊎ IsUnasked log order

-- A script draws a stream, which agrees with the log of its draws.
pub record Draws (origin : Script) (s : Stream) (log : List Entry) (script : Script) : Type 0 where
  pub fit : AllFit log s 0
  pub stands : StandsAt scripted origin s (place_at log s 0) script

-- What a log of draws promises: they are those of each stream that agrees with it.
abbrev pub logged : Drawing (List Entry)
logged = record {
  stands = λ origin s n log. place_at log s 0 ≡ n;
  agrees = λ origin s log. Agrees log s;
  comes = λ before now. Unit {0};
}

-- Draws led from one explorer to another: those that its log has more were noted, in the same place, and if its script draws a stream, it
-- still does.
pub record Came {N : Type 0} (noting : N → Nodes) (name : N → GName) (before now : Explorer N) : Type 0 where
  pub more : List Entry
  pub log : now.log.entries ≡ before.log.entries ++ more
  pub notes : NotesAll more (noting before.notes) (noting now.notes)
  pub same : name now.notes ≡ name before.notes
  pub own : (origin : Script) (s : Stream) → Draws origin s before.log.entries before.script → Draws origin s now.log.entries now.script

-- What an explorer promises of its draws: they are those of each stream that agrees with its log.
abbrev pub explored : {N : Type 0} → (N → Nodes) → (N → GName) → Drawing (Explorer N)
explored noting name = record {
  stands = λ origin s n now. place_at now.log.entries s 0 ≡ n;
  agrees = λ origin s now. Agrees now.log.entries s;
  comes = λ before now. Came noting name before now;
}
