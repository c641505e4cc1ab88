-- A list of the battles that can follow from a pair of choices, with their weights.
use Rattle.std.specs.Prelude.{List, [], false, take, slice_index_or, ℕ, ◌*◌, ◌++◌, ◌+◌, ◌<◌, ◌∷◌, ◌≡◌, ◌≤◌, ◌⊎◌, codes}
use Rattle.std.specs.List.{sum_by}
use Rattle.gen1_rolls.specs.Streams.{Drawn}
use Rattle.gen1_machine.specs.declared.side.Choice.{Choice}
use Rattle.gen1_machine.specs.State.{State}
use Rattle.gen1_layout.specs.Parts.{Parts}
use Rattle.gen1_layout.specs.Shows.{Telling, Stands, Setting, Within}
use Rattle.gen1_outcomes.specs.declared.log.Entry.{Entry}
use Rattle.gen1_outcomes.specs.declared.nodes.Nodes.{Nodes}
use Rattle.gen1_outcomes.specs.declared.successor.OutcomeOptions.{OutcomeOptions}
use Rattle.gen1_outcomes.specs.declared.outcomes.Outcomes.{Outcomes}
use Rattle.gen1_outcomes.specs.declared.successor.Successor.{Successor}
use Rattle.gen1_engine.specs.Update.{AreOffered, refusal_number}
use Rattle.gen1_outcomes.specs.Plain.{Leads, Walk}
use Rattle.gen1_outcomes.specs.Logs.{Agrees, IsLogged, IsOrderOf}
use Rattle.gen1_outcomes.specs.Nodes.{IsPathOf, script_of}
use Rattle.gen1_engine.specs.Replay.{refusal_words}
use Rattle.gen1_outcomes.specs.declared.successor.OutcomesFault.{OutcomesFault}
use Rattle.gen1_layout.specs.Words.{Bool, Phase, Progress, Side, move_at, ◌▸◌}
use Rattle.gen1_rolls.specs.Draws.{Drawing, Since, Source, StandsIn, StepsTo}
use Rattle.gen1_machine.specs.Action.{keep_accuracy, resume, strike}
use Rattle.gen1_machine.specs.Damage.{vary}
use Rattle.gen1_machine.specs.HitTest.{hit_or_miss}
use Rattle.gen1_machine.specs.Moves.{Move}
use Rattle.gen1_machine.specs.Progress.{has_missed, unless}
use Rattle.gen1_machine.specs.Ruling.{Ruling, ruling_of}
use Rattle.gen1_machine.specs.Step.{close_update}
use Rattle.gen1_machine.specs.Turn.{end_turn}
use Rattle.gen1_turn.specs.declared.action.two_parts.Roll.{Roll}
use Rattle.gen1_turn.specs.Action.{late_part}
use Rattle.gen1_turn.specs.TwoParts.{suffering, IsRolling}
use Rattle.gen1_outcomes.specs.declared.successor.OutcomesFault.TheVariants as faults

abbrev pub weight_of : Successor → ℕ
weight_of x = x.low + x.high * 18446744073709551616

-- The sum of the weights in the first places.
abbrev pub sum_of : ℕ → List Successor → ℕ
sum_of count xs = sum_by weight_of (take count xs)

-- The battle at a place. A place past the end has the battle of `past`.
abbrev pub battle_at : List Successor → ℕ → Successor → Parts
battle_at xs k past = (slice_index_or xs k past).battle

-- True of all events.
abbrev pub untold : Telling
untold = λ _. Unit {0}

-- A part of an update was played with the draws of a script, which are noted by these options, by a way that is not too large. The update draws
-- them in some order.
pub record IsPart (form : OutcomeOptions) : Type 0 where
  pub nodes : Nodes
  pub options : nodes.options ≡ form
  pub path : List ℕ
  pub is_path : IsPathOf nodes path
  pub after : Nodes
  pub way : IsLogged (script_of path) nodes after
  pub fits : after.too_large ≡ false
  pub order : List Entry
  pub same : IsOrderOf way.log order

-- What parts of an update draw, in its order. The last part comes first.
abbrev pub log_of : {form : OutcomeOptions} → List (IsPart form) → List Entry
log_of [] = []
log_of (last ∷ before) = log_of before ++ last.order

-- How many bytes in a row of a stream for these parts hold every one.
abbrev pub width_of : {form : OutcomeOptions} → List (IsPart form) → ℕ
width_of [] = 0
width_of (last ∷ before) = width_of before + 840

-- A battle follows on each stream that agrees with what some parts of an update draw, one after the other, and a stream does: of bytes, of which
-- any 840 for each part in a row hold every one.
pub record FollowsBy (s : State) (one two : Choice) (form : OutcomeOptions) (parts : Parts) : Type 0 where
  pub played : List (IsPart form)
  pub leads : Leads s one two (log_of played) parts untold
  pub bytes : ℕ → ℕ
  pub agrees : Agrees (log_of played) (Drawn bytes (width_of played))

-- Each of the first battles does.
abbrev pub EachFollows : State → Choice → Choice → OutcomeOptions → ℕ → List Successor → Type 0
EachFollows s one two options count xs =
    (k : ℕ) → (past : Successor) → k < count → FollowsBy s one two options (battle_at xs k past)

-- Each of the first battles is the old one at its place, or this one.
abbrev pub AreThoseOr : Parts → ℕ → List Successor → ℕ → List Successor → Type 0
AreThoseOr battle before old count new =
    (k : ℕ) → (past : Successor) → k < count
    → ((k < before) × (battle_at new k past ≡ battle_at old k past)) ⊎ (battle_at new k past ≡ battle)

-- All places have the old battles.
abbrev pub AreThose : List Successor → List Successor → Type 0
AreThose old new = (k : ℕ) → (past : Successor) → battle_at new k past ≡ battle_at old k past

-- The first battles stay in their places.
abbrev pub KeepsFirst : ℕ → List Successor → List Successor → Type 0
KeepsFirst count old new = (k : ℕ) → (past : Successor) → k < count → battle_at new k past ≡ battle_at old k past

-- Where each of the first battles could follow from the pair of a walk, each of those afterwards can.
abbrev pub StillFollow : Walk → ℕ → List Successor → ℕ → List Successor → Type 0
StillFollow w before old count new =
    (s : State) → Stands w.start s → AreOffered s w.one w.two
    → EachFollows s w.one w.two w.options before old → EachFollows s w.one w.two w.options count new

-- The probabilities have a denominator. If nothing is left out, an outcome is listed.
pub record HasSome (list : Outcomes) : Type 0 where
  pub whole : 1 ≤ list.whole
  pub one : list.left_out ≡ 0 → 1 ≤ list.count

-- The numbers and the texts of why outcomes are not listed.

abbrev pub fault_number : OutcomesFault → ℕ
fault_number (faults.Refused why) = refusal_number why
fault_number faults.Places = 4
fault_number faults.Table = 5
fault_number faults.Size = 6

abbrev pub fault_words : OutcomesFault → List ℕ
fault_words (faults.Refused why) = refusal_words why
fault_words faults.Places = codes "there are more outcomes than places for them"
fault_words faults.Table = codes "there are more outcomes than places in the table"
fault_words faults.Size = codes "the update has too many draws to go through"

-- The rest of an update from the roll of a damage on, with the hit test before the roll (docs/MECHANICS.md, "Action", "Hit test", "Factors").

-- What follows the hit test of an action that rolls a damage: the rest of the action, its residual damage, and the close of the update.
abbrev pub after_test : Side → Move → Ruling → Phase
after_test s move r p = close_update r (((λ q. resume (keep_accuracy s ((late_part r s move ▸ strike r s move) q))) ▸ suffering s end_turn) p)

-- The damage is rolled unless the move missed.
abbrev pub roll_if_hit : Roll → Phase
roll_if_hit roll = unless has_missed (vary roll.damage)

-- The rest of an update from the roll of a damage on, if the hit test is drawn first: a miss rolls no damage.
abbrev pub tested_first : Side → Roll → Ruling → Phase
tested_first s roll r p = after_test s (move_at roll.id) r (roll_if_hit roll (hit_or_miss s (move_at roll.id) p))

-- A battle is where a side's action is about to roll its damage, and these are its bytes and its generator.
pub record IsShownAt {A : Type 0} (d : Drawing A) (source : Source A) (g : Setting) (parts : Parts) (now : A) (s : Side) (roll : Roll) (p : Progress) : Type 0 where
  pub within : Within g parts p.field
  pub rolling : IsRolling s roll p
  pub on : p.stream ≡ source.stream
  pub stands : StandsIn d source p.drawn now

-- Code with draws plays the rest of an update from there, with draws from any place of any stream: the hit test, then the roll unless the move
-- missed, and then the rest. `tested` is the generator after the test, and `rolled` that after the roll.
pub record PlaysRoll {A : Type 0} (d : Drawing A) (old new : A) (before after : Parts) (s : Side) (roll : Roll) : Type 0 where
  pub tested : A
  pub rolled : A
  pub missed : Bool
  pub begins : StepsTo d old tested
  pub goes_on : StepsTo d tested rolled
  pub ends : StepsTo d rolled new
  pub tests : (since : Since d tested) (g : Setting) (p : Progress) → IsShownAt d since.source g before old s roll p
      → let q = hit_or_miss s (move_at roll.id) p in (has_missed q ≡ missed) × StandsIn d since.source q.drawn tested
  pub rolls : missed ≡ false → (since : Since d rolled) (g : Setting) (p : Progress) → IsShownAt d since.source g before old s roll p
      → StandsIn d since.source (vary roll.damage (hit_or_miss s (move_at roll.id) p)).drawn rolled
  pub played : (since : Since d new) (g : Setting) (p : Progress) → IsShownAt d since.source g before old s roll p
      → let q = tested_first s roll (ruling_of g.terms) p in Within g after q.field × StandsIn d since.source q.drawn new
