-- A list of the battles that an update can lead to (include/gen1.h, "exact outcomes").
use Rattle.std.specs.Prelude.{List, Some, length, ℕ, ◌*◌, ◌+◌, ◌<◌, ◌≡◌, ◌≤◌, ◌⊎◌, take}
use Rattle.gen1_machine.specs.declared.side.Choice.{Choice}
use Rattle.gen1_machine.specs.State.{State}
use Rattle.gen1_machine.specs.Step.{Accepted, Answer, Refused}
use Rattle.gen1_engine.specs.Replay.{choices_at, step_by_bytes}
use Rattle.gen1_engine.specs.Update.{AreOffered, refusal_of}
use Rattle.gen1_outcomes.specs.declared.successor.OutcomeOptions.{OutcomeOptions}
use Rattle.gen1_outcomes.specs.declared.successor.Successor.{Successor}
use Rattle.gen1_outcomes.specs.Complete.{IsExact, ListsEvery}
use Rattle.gen1_outcomes.specs.Listing.{EachFollows, sum_of}
use Rattle.gen1_outcomes.specs.Weights.{weight_at, HasProbabilities}
use Rattle.gen1_c.specs.Codes.{refusal_code}
use Rattle.gen1_c.specs.declared.outcomes.OutcomeForm.{OutcomeForm}
use Rattle.gen1_c.specs.declared.outcomes.OutcomeList.{OutcomeList}
use Rattle.gen1_outcomes.specs.declared.nodes.Chance.{Chance}
use Rattle.gen1_outcomes.specs.declared.plain.PlainWalk.{PlainWalk}
use Rattle.gen1_outcomes.specs.Plain.{IsWay}
use Rattle.gen1_c.specs.declared.outcomes.WayForm.{WayForm}

-- the arrays that a call may write
pub record Arrays : Type 0 where
  pub successors : List Successor
  pub table : List ℕ

-- the code of a refused pair; 0 of any other
abbrev pub refusal_due : Answer → ℕ
refusal_due (Refused why) = refusal_code (refusal_of why)
refusal_due (Accepted events) = 0

-- 0; why the pair was refused, 24 to 26; or that an array is too short, or the update too large, 29 to 31
abbrev pub IsListCode : ℕ → Type 0
IsListCode code = (code ≡ 0) ⊎ ((24 ≤ code) × (code ≤ 26)) ⊎ ((29 ≤ code) × (code ≤ 31))

-- how outcomes are listed
abbrev pub options_of : OutcomeForm → OutcomeOptions
options_of o = record { damage_classes = o.damage_classes; least = o.least }

-- the sum of all weights and of what is left out, in two words
abbrev pub whole_of : OutcomeList → ℕ
whole_of list = list.low + list.high * 18446744073709551616

-- the weight of all that is left out
abbrev pub left_out_of : OutcomeList → ℕ
left_out_of list = list.left_low + list.left_high * 18446744073709551616

-- each battle in the first places is at least as probable as the least probability
abbrev pub AreProbable : ℕ → List Successor → OutcomeList → Type 0
AreProbable least successors list =
    (k : ℕ) → (past : Successor) → k < list.count → least * whole_of list ≤ weight_at successors k past * 4294967296

-- each battle in the first places can follow from the pair, by a way that is noted by the options, and the weights and what is left out sum to the whole; if nothing is left
-- out and no two damages share a class, there is one for every stream, and each has as its weight over the whole the probability that the update leads to it
pub record AreListed (s : State) (one two : Choice) (options : OutcomeOptions) (successors : List Successor) (list : OutcomeList) : Type 0 where
  pub within : list.count ≤ length successors
  pub follow : EachFollows s one two options list.count successors
  pub sum : sum_of list.count successors + left_out_of list ≡ whole_of list
  pub every : IsExact options → ListsEvery s one two list.count successors
  pub weights : IsExact options → HasProbabilities s one two list.count (whole_of list) successors

-- for a refused pair its code, and nothing has changed; for any other a list, if the code is 0
abbrev pub ListsAs : Answer → State → ℕ × ℕ → OutcomeOptions → Arrays → Arrays → OutcomeList → ℕ → Type 0
ListsAs (Refused why) s bytes options old new list code = (code ≡ refusal_code (refusal_of why)) × (new ≡ old)
ListsAs (Accepted events) s bytes options old new list code =
    code ≡ 0 → (pair : Choice × Choice) × (choices_at bytes ≡ Some pair) × AreListed s pair.0 pair.1 options new.successors list

abbrev pub Lists : State → ℕ × ℕ → OutcomeOptions → Arrays → Arrays → OutcomeList → ℕ → Type 0
Lists s bytes = ListsAs (step_by_bytes s bytes).answer s bytes

-- The ways of an update, one after the other (include/gen1.h, "exact outcomes").

-- both bytes are choices that are offered
abbrev pub Offers : State → ℕ × ℕ → Type 0
Offers s bytes = (pair : Choice × Choice) × (choices_at bytes ≡ Some pair) × AreOffered s pair.0 pair.1

-- the probability of a way: how many parts of how many
abbrev pub part_of : WayForm → ℕ
part_of way = way.low + way.high * 18446744073709551616

abbrev pub parts_of : WayForm → ℕ
parts_of way = way.whole_low + way.whole_high * 18446744073709551616

-- the probability is that of the draws of a way, after which the walk continues, or ends
pub record HasChance (walk : PlainWalk) (way : WayForm) : Type 0 where
  pub chance : Chance
  pub part : part_of way ≡ chance.num
  pub parts : parts_of way ≡ chance.whole
  pub is_way : IsWay chance walk

-- the log bytes of a way
abbrev pub told_in : WayForm → List ℕ
told_in way = take way.log_length way.log

-- 0; that the way has too many draws; or that no way is left
abbrev pub IsWalkCode : ℕ → Type 0
IsWalkCode code = (code ≡ 0) ⊎ (code ≡ 31) ⊎ (code ≡ 36)
