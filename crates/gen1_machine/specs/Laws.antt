-- Laws of steps, of runs and of draws (docs/PROOFS.md, "Laws"). Each is the contract of a function in src/laws.rt.
use Rattle.std.specs.Prelude.{All, Bool, IsTrue, List, None, Some, [], count_by, false, if◌then◌else◌, map, suc, true, zero, ℕ, ◌*◌, ◌++◌, ◌+◌, ◌<◌, ◌≡◌, ◌≤◌, ◌⊎◌, ◌||◌}
use Rattle.gen1_machine.specs.declared.side.Choice.{Choice}
use Rattle.gen1_rolls.specs.Streams.{byte_at, span, IsStream, first, Drawn, IsFirst, Link, Stream}
use Rattle.gen1_stats.specs.Members.{IsTeam, Member}
use Rattle.gen1_machine.specs.State.{first_state, is_over, usual_terms, Field, State, Terms}
use Rattle.gen1_machine.specs.Progress.{Progress}
use Rattle.gen1_machine.specs.Ruling.{ruling_of}
use Rattle.gen1_machine.specs.Step.{events_of, update, step, step_before, step_two, run_by, run, Accepted, Answer, Refusal, Over, Refused}
use Rattle.gen1_machine.specs.Room.{accepted_pairs, course_of, Submission, Course}
use Rattle.gen1_machine.specs.Layout.{bytes_of}
use Rattle.gen1_machine.specs.Valid.{IsField, IsState, IsTerms, IsUnstarted}

-- Once a battle is over, every pair of choices is refused for that reason, and nothing changes.
abbrev pub OverStaysOver : Type 0
OverStaysOver = (s : State) (pairs : List (Choice × Choice))
    → is_over s.field.outcome ≡ true
    → run s pairs ≡ record { answers = map (λ pair. Refused Over) pairs; state = s }

-- A refused pair leaves the state as it is, and has no events.
abbrev pub RefusalChangesNothing : Type 0
RefusalChangesNothing = (s : State) (one two : Choice) (why : Refusal)
    → (step s one two).answer ≡ Refused why
    → (events_of (step s one two).answer ≡ []) × ((step s one two).state ≡ s)

-- No pair changes the terms of a battle or its seed.
abbrev pub TermsStay : Type 0
TermsStay = (s : State) (one two : Choice)
    → ((step s one two).state.terms ≡ s.terms) × ((step s one two).state.seed ≡ s.seed)

-- A run over one list and then another is the run over the first list, followed by the run over the second.
abbrev pub RunsAppend : Type 0
RunsAppend = (s : State) (pairs more : List (Choice × Choice))
    → run s (pairs ++ more) ≡ record {
      answers = (run s pairs).answers ++ (run (run s pairs).state more).answers;
      state = (run (run s pairs).state more).state;
    }

-- Without rules and with the usual limit, every run is the run by the step that had neither rules nor a limit to
-- choose.
abbrev pub SameAsBeforeRules : Type 0
SameAsBeforeRules = (s : State) (pairs : List (Choice × Choice))
    → s.terms ≡ usual_terms → run s pairs ≡ run_by step_before s pairs

-- With the usual limit, every run is the run by the step that had no limit to choose.
abbrev pub SameAsFixedLimit : Type 0
SameAsFixedLimit = (s : State) (pairs : List (Choice × Choice))
    → s.terms.limit ≡ 1000 → run s pairs ≡ run_by step_two s pairs

-- A room's battle is the run over the pairs that its submissions completed.
abbrev pub RoomRuns : Type 0
RoomRuns = (c : Course) (submissions : List Submission)
    → (course_of c submissions).state ≡ (run c.state (accepted_pairs c submissions)).state

-- The result of `first` is the least place whose byte passes the test. It is within one span.
abbrev pub FirstIsLeast : Type 0
FirstIsLeast = (s : Stream) (n : ℕ) (test : ℕ → Bool) (m : ℕ)
    → first s n test ≡ Some m → IsFirst s n test m × (m < n + span s)

-- `first` finds a place if any byte passes the test.
abbrev pub FirstExists : Type 0
FirstExists = (s : Stream) → IsStream s → (n : ℕ) (test : ℕ → Bool) (b : ℕ)
    → b < 256 → IsTrue (test b) → (m : ℕ) × (first s n test ≡ Some m)

-- A battle of two teams is valid before its first update.
abbrev pub FirstStatesAreValid : Type 0
FirstStatesAreValid = (terms : Terms) (one two : List Member) (seed : List ℕ)
    → IsTerms terms → IsTeam one → IsTeam two → IsStream (Link seed) → IsState (first_state terms one two seed)

abbrev pub is_accepted : Answer → Bool
is_accepted (Refused why) = false
is_accepted (Accepted events) = true

-- How many pairs of choices a run accepts.
abbrev pub accepted_in : State → List (Choice × Choice) → ℕ
accepted_in s pairs = count_by is_accepted (run s pairs).answers

-- A run from a valid state accepts at most as many pairs as turns may still come, and eleven more. The eleven are the
-- start, and one replacement for each member but one of each side. After that many pairs the battle is over.
abbrev pub RunsEnd : Type 0
RunsEnd = (s : State) (pairs : List (Choice × Choice))
    → IsState s
    → (accepted_in s pairs ≤ s.terms.limit + 11)
    × (accepted_in s pairs ≡ s.terms.limit + 11 → is_over (run s pairs).state.field.outcome ≡ true)

-- After any run from a valid state the battle has not begun, or its field is valid: each number is in its range, and
-- what is underway belongs to the current move.
abbrev pub FieldsStayValid : Type 0
FieldsStayValid = (s : State) (pairs : List (Choice × Choice))
    → IsState s → IsUnstarted s.terms (run s pairs).state.field ⊎ IsField s.terms (run s pairs).state.field

-- Every run from a valid state ends in a valid state.
abbrev pub StatesStayValid : Type 0
StatesStayValid = (s : State) (pairs : List (Choice × Choice)) → IsState s → IsState (run s pairs).state

-- Each number of a valid state fits its bytes.
abbrev pub StatesFit : Type 0
StatesFit = (s : State) → IsState s → All (λ b. b < 256) (bytes_of s)

-- What is to be drawn, and what each draw leads to: nothing more, the next byte, or the first byte that passes a test, if there is one.
pub data Tree : Type 0 where
  Done : (left : Progress) → Tree
  Draw : (next : ℕ → Tree) → Tree
  Search : (test : ℕ → Bool) → (found : ℕ → Tree) → (none : Tree) → Tree

-- A battle that draws from this place of a stream.
abbrev pub drawing_from : Stream → ℕ → Progress → Progress
drawing_from s n p = record p { stream = s; drawn = n }

-- Where a tree leads with the draws of a stream from a place on.
unfoldable pub leads_to : Tree → Stream → ℕ → Progress
leads_to (Done left) s n = drawing_from s n left
leads_to (Draw next) s n = leads_to (next (byte_at s n)) s (n + 1)
leads_to (Search test found none) s n = elim (first s n test) [
  | Some m ↦ leads_to (found (byte_at s m)) s (m + 1)
  | None ↦ leads_to none s (n + span s)
]

-- On each stream, from each place on, an update leads where this tree does.
abbrev pub IsTreeOf : Terms → Choice → Choice → Progress → Tree → Type 0
IsTreeOf terms one two p tree = (s : Stream) (n : ℕ) → update (ruling_of terms) one two (drawing_from s n p) ≡ leads_to tree s n

-- An update is a tree of draws, of which each branch ends.
abbrev pub UpdatesAreTrees : Type 0
UpdatesAreTrees = (terms : Terms) (one two : Choice) (p : Progress) → (tree : Tree) × IsTreeOf terms one two p tree

-- f 0 + f 1 + .. + f (n - 1).
unfoldable pub sum_below : ℕ → (ℕ → ℕ) → ℕ
sum_below zero f = 0
sum_below (suc n) f = sum_below n f + f n

-- A sum over the bytes that pass a test, and how many there are.

abbrev pub sum_over : (ℕ → Bool) → (ℕ → ℕ) → ℕ
sum_over test f = sum_below 256 λ b. if test b then f b else 0

abbrev pub count_of : (ℕ → Bool) → ℕ
count_of test = sum_over test λ b. 1

-- A whole is dealt out to the bytes that pass a test, the same to each. The kept part of it is the sum of their parts.
pub record IsDealt (test : ℕ → Bool) (IsPart : ℕ → ℕ → ℕ → Type 0) (whole kept : ℕ) : Type 0 where
  pub each : ℕ
  pub part : ℕ → ℕ
  pub equal : count_of test * each ≡ whole
  pub parts : (b : ℕ) → b < 256 → IsTrue (test b) → IsPart b each (part b)
  pub sum : sum_over test part ≡ kept

-- The probability that a tree leads to a field which passes a test is this share of a whole, if each draw is a uniform byte and
-- independent of the others. A search finds a uniform one of the bytes that pass its test.
unfoldable pub IsShare : Tree → (Field → Bool) → ℕ → ℕ → Type 0
IsShare (Done left) passes whole share = share ≡ (if passes left.field then whole else 0)
IsShare (Draw next) passes whole share = IsDealt (λ b. true) (λ b. IsShare (next b) passes) whole share
IsShare (Search test found none) passes whole share =
    ((0 < count_of test) × IsDealt test (λ b. IsShare (found b) passes) whole share)
    ⊎ ((count_of test ≡ 0) × IsShare none passes whole share)

-- Shares are probabilities. Some whole has shares, and each whole at most one for a test. All fields together have the whole. Shares of
-- fields that exclude each other add up. Some bytes lead to each share above 0, on a stream of any span, and a stream leads only to such.
pub record AreProbabilities (t : Tree) : Type 0 where
  pub some : (whole : ℕ) × ((0 < whole) × ((passes : Field → Bool) → (n : ℕ) × IsShare t passes whole n))
  pub one : (passes : Field → Bool) (whole m n : ℕ) → IsShare t passes whole m → IsShare t passes whole n → m ≡ n
  pub all : (whole n : ℕ) → IsShare t (λ f. true) whole n → n ≡ whole
  pub sum : (one other : Field → Bool) (whole m n : ℕ) → ((f : Field) → one f ≡ true → other f ≡ false)
      → IsShare t one whole m → IsShare t other whole n → IsShare t (λ f. one f || other f) whole (m + n)
  pub led : (passes : Field → Bool) (whole n : ℕ) → IsShare t passes whole n → 0 < n → (width : ℕ) → 0 < width
      → (bytes : ℕ → ℕ) × (((i : ℕ) → bytes i < 256) × (passes (leads_to t (Drawn bytes width) 0).field ≡ true))
  pub leads : (passes : Field → Bool) (whole n : ℕ) → IsShare t passes whole n → 0 < whole
      → (s : Stream) (k : ℕ) → IsStream s → passes (leads_to t s k).field ≡ true → 0 < n

abbrev pub SharesAreProbabilities : Type 0
SharesAreProbabilities = (t : Tree) → AreProbabilities t

-- Two trees lead to the same field on each stream.
abbrev pub SameFields : Tree → Tree → Type 0
SameFields t u = (s : Stream) → IsStream s → (leads_to t s 0).field ≡ (leads_to u s 0).field

-- Shares depend on the fields that streams lead to, and not on the tree: trees that lead to the same fields have equal shares.
abbrev pub SharesDependOnFields : Type 0
SharesDependOnFields = (t u : Tree) → SameFields t u → (passes : Field → Bool) (whole share total part : ℕ)
    → IsShare t passes whole share → IsShare u passes total part → share * total ≡ part * whole

-- By some tree of an update this is the share of a whole for fields that pass a test.
abbrev pub IsShareOfUpdate : Terms → Choice → Choice → Progress → (Field → Bool) → ℕ → ℕ → Type 0
IsShareOfUpdate terms one two p passes whole share = (tree : Tree) × (IsTreeOf terms one two p tree × IsShare tree passes whole share)

-- The probability that an update leads to a field which passes a test is one number: there is a share of some whole, and all shares
-- are the same fraction of their wholes, whichever trees give them.
unfoldable pub HasProbability : Terms → Choice → Choice → Progress → (Field → Bool) → Type 0
HasProbability terms one two p passes =
    ((whole : ℕ) × ((0 < whole) × ((share : ℕ) × IsShareOfUpdate terms one two p passes whole share)))
    × ((whole share total part : ℕ) → IsShareOfUpdate terms one two p passes whole share
    → IsShareOfUpdate terms one two p passes total part → share * total ≡ part * whole)

abbrev pub UpdatesHaveProbabilities : Type 0
UpdatesHaveProbabilities = (terms : Terms) (one two : Choice) (p : Progress) (passes : Field → Bool) → HasProbability terms one two p passes

-- Two streams have the same bytes from one place up to another, and a search among those goes equally far in both: their spans are
-- equal, or each is more than the number of those bytes.
pub record Agree (s w : Stream) (n m : ℕ) : Type 0 where
  pub bytes : (k : ℕ) → n ≤ k → k < m → byte_at w k ≡ byte_at s k
  pub spans : (span w ≡ span s) ⊎ ((m < n + span s) × (m < n + span w))

-- A battle that draws from another stream.
abbrev pub on_stream : Stream → Progress → Progress
on_stream w p = record p { stream = w }

-- An update depends on the bytes that it draws alone: a stream that agrees on them leads to the same field, by the same events and as
-- many draws.
abbrev pub UpdatesAreLocal : Type 0
UpdatesAreLocal = (terms : Terms) (one two : Choice) (p : Progress) (w : Stream)
    → Agree p.stream w p.drawn (update (ruling_of terms) one two p).drawn
    → update (ruling_of terms) one two (on_stream w p) ≡ on_stream w (update (ruling_of terms) one two p)

abbrev pub with_seed : List ℕ → State → State
with_seed seed s = record s { seed = seed }

-- A replay depends on the bytes that it draws alone: with another seed that draws them it has the same results, and ends in the same
-- field after as many draws.
abbrev pub RunsAreLocal : Type 0
RunsAreLocal = (s : State) (pairs : List (Choice × Choice)) (seed : List ℕ)
    → ((k : ℕ) → s.drawn ≤ k → k < (run s pairs).state.drawn → byte_at (Link seed) k ≡ byte_at (Link s.seed) k)
    → run (with_seed seed s) pairs ≡ record { answers = (run s pairs).answers; state = with_seed seed (run s pairs).state }
