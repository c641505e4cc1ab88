-- Turns of two actions, where a turn is after the first of them, and the rest of the update (docs/MECHANICS.md, "Order of a turn").
use Rattle.std.specs.Prelude.{Bool, [], false, true, ℕ, ◌&&◌, ◌∷◌, ◌≡◌, if◌then◌else◌}
use Rattle.gen1_rolls.specs.Draws.{Drawing, Ref, Since, Source, StandsIn}
use Rattle.gen1_rolls.specs.Streams.{IsStream}
use Rattle.gen1_machine.specs.declared.side.Choice.{Choice}
use Rattle.gen1_machine.specs.declared.side.Choice.TheVariants as choices
use Rattle.gen1_machine.specs.declared.side.Pick.{Pick}
use Rattle.gen1_machine.specs.declared.side.Side.{Side}
use Rattle.gen1_machine.specs.declared.side.Side.TheVariants.{One, Two}
use Rattle.gen1_machine.specs.declared.terms.Request.{Request}
use Rattle.gen1_machine.specs.declared.terms.Request.TheVariants as requests
use Rattle.gen1_machine.specs.Conditions.{without_flinch}
use Rattle.gen1_machine.specs.Picks.{pick_in}
use Rattle.gen1_machine.specs.Plans.{FitsPick, Plan}
use Rattle.gen1_machine.specs.Progress.{Phase, Progress, on_conditions, ◌▸◌}
use Rattle.gen1_machine.specs.Ruling.{Ruling, ruling_of}
use Rattle.gen1_machine.specs.Sides.{other}
use Rattle.gen1_machine.specs.State.{Field, State, Terms, request_of}
use Rattle.gen1_machine.specs.Step.{close_update}
use Rattle.gen1_machine.specs.Turn.{Acts, Suffers, do_parts, end_turn, is_cut, of_side, set_picked, turn}
use Rattle.gen1_machine.specs.TurnOrder.{in_order}
use Rattle.gen1_layout.specs.Parts.{Parts}
use Rattle.gen1_layout.specs.Shows.{Setting, Stands, Within, setting_of}
use Rattle.gen1_hits.specs.Planned.{Follows}
use Rattle.gen1_switching.specs.SwitchingIn.{Plays, drawing_on}
use Rattle.gen1_turn.specs.TwoParts.{suffering, IsRolling, from_roll}
use Rattle.gen1_turn.specs.declared.action.two_parts.Roll.{Roll}
use Rattle.gen1_outcomes.specs.declared.beginning.Left.{Left}
use Rattle.gen1_outcomes.specs.declared.beginning.Left.TheVariants as lefts
use Rattle.gen1_outcomes.specs.declared.beginning.Rest.{Rest}

abbrev pub is_move : Choice → Bool
is_move (choices.Move slot) = true
is_move (choices.Switch place) = false
is_move choices.Pass = false

abbrev pub asks_for_move : Request → Bool
asks_for_move requests.Move = true
asks_for_move requests.Switch = false
asks_for_move requests.Pass = false

-- Both sides use a move, so that the update has two actions.
abbrev pub have_two_actions : Choice → Choice → Field → Bool
have_two_actions one two f = asks_for_move (request_of One f) && is_move one && is_move two

-- A turn whose flinches have ended, and in which both sides have picked.
abbrev pub unflinched : Progress → Progress
unflinched p = on_conditions Two without_flinch (on_conditions One without_flinch p)

abbrev pub picked : Pick → Pick → Progress → Progress
picked one two p = set_picked Two two (set_picked One one (unflinched p))

-- What is left of a turn before its second action: this action, its residual damage, and the end of spent trapping.
abbrev pub second_action : Ruling → Side → Pick → Phase
second_action r s pick = do_parts r (Acts s pick ∷ Suffers s ∷ [])

-- The rest of an update from there: its second action, and its close. An update whose turn was cut before is closed already.
abbrev pub rest_of : Rest → Ruling → Phase
rest_of rest r p = if rest.is_cut then p else close_update r (second_action r rest.second rest.pick p)

-- The rest of an update from the roll of the damage of a side's action on, which is the second one.
abbrev pub from_damage : Side → Roll → Ruling → Phase
from_damage s roll r p = close_update r ((from_roll r s roll ▸ suffering s end_turn) p)

-- What is left of an update at a position.
abbrev pub left_of : Left → Ruling → Phase
left_of (lefts.Second rest) r p = rest_of rest r p
left_of (lefts.Roll s roll) r p = from_damage s roll r p

-- A turn that isn't cut is before its second action, which fits what its side plans, and which is skipped or not.
pub record IsReady (rest : Rest) (terms : Terms) (p : Progress) : Type 0 where
  pub skips : p.skips ≡ rest.skips
  pub uncut : is_cut p ≡ false
  pub going : p.stopped ≡ false
  pub plan : Side → Plan
  pub fits : FitsPick rest.pick (plan rest.second)
  pub follows : Follows terms plan p

-- A battle in the middle of an update is at a position of which this is left.
abbrev pub IsReadyFor : Left → Terms → Progress → Type 0
IsReadyFor (lefts.Second rest) terms p = rest.is_cut ≡ false → IsReady rest terms p
IsReadyFor (lefts.Roll s roll) terms p = IsRolling s roll p

-- A turn is played up to its second action. If it is cut, what is shown is the whole update; else it isn't cut there, and the second
-- action follows.
pub record GoesOn (rest : Rest) (r : Ruling) (one two : Pick) (here whole : Progress) : Type 0 where
  pub skips : here.skips ≡ rest.skips
  pub cut : rest.is_cut ≡ true → here ≡ close_update r whole
  pub uncut : rest.is_cut ≡ false → is_cut here ≡ false
  pub left : rest.is_cut ≡ false → whole ≡ second_action r rest.second (of_side rest.second one two) here

-- The bytes and the generator are those of a turn from p, played up to its second action. The machine's order puts the other side first.
pub record Begins {A : Type 0} (d : Drawing A) (source : Source A) (g : Setting) (parts : Parts) (now : A) (rest : Rest) (one two : Pick) (p whole : Progress) : Type 0 where
  pub here : Progress
  pub within : Within g parts here.field
  pub stands : StandsIn d source here.drawn now
  pub drawn : ℕ
  pub first : (begins : Side → Phase) → in_order begins (picked one two p) ≡ begins (other rest.second) (record (picked one two p) { drawn = drawn })
  pub goes_on : GoesOn rest (ruling_of g.terms) one two here whole
  pub on : here.stream ≡ source.stream
  pub ready : rest.is_cut ≡ false → IsReady rest g.terms here
  pub pick : rest.pick ≡ of_side rest.second one two
  pub rests : close_update (ruling_of g.terms) whole ≡ rest_of rest (ruling_of g.terms) here

-- Code with draws begins such a turn, with draws from any place of any stream.
abbrev pub BeginsTurn : {A : Type 0} → Drawing A → Ref A → Ref Parts → Choice → Choice → Rest → Type 0
BeginsTurn d random battle one two rest =
    (s : State) (j k : ℕ) → Stands battle.entry.now s → Plays s requests.Move one two → one ≡ choices.Move j → two ≡ choices.Move k
    → (since : Since d random.exit.now) (drawn : ℕ) → IsStream since.source.stream → StandsIn d since.source drawn random.entry.now
    → let p = drawing_on since.source.stream drawn s in
    Begins d since.source (setting_of s) battle.exit.now random.exit.now rest (pick_in j One (unflinched p).field) (pick_in k Two (unflinched p).field) p
    (turn (ruling_of s.terms) one two p)

-- Code with draws plays the rest of an update from there, with draws from any place of any stream.
abbrev pub EndsUpdate : {A : Type 0} → Drawing A → Ref A → Ref Parts → Rest → Type 0
EndsUpdate d random battle rest =
    (since : Since d random.exit.now) (g : Setting) (p : Progress)
    → Within g battle.entry.now p.field → (rest.is_cut ≡ false → IsReady rest g.terms p) → p.stream ≡ since.source.stream → StandsIn d since.source p.drawn random.entry.now
    → let q = rest_of rest (ruling_of g.terms) p in Within g battle.exit.now q.field × StandsIn d since.source q.drawn random.exit.now

-- The bytes and the generator are those of an update at a position, from which what is left leads to the whole.
pub record GoesTo {A : Type 0} (d : Drawing A) (source : Source A) (g : Setting) (parts : Parts) (now : A) (left : Left) (whole : Progress) : Type 0 where
  pub here : Progress
  pub within : Within g parts here.field
  pub stands : StandsIn d source here.drawn now
  pub on : here.stream ≡ source.stream
  pub ready : IsReadyFor left g.terms here
  pub rests : whole ≡ left_of left (ruling_of g.terms) here

-- Code with draws plays the second action up to the roll of its damage, or the whole rest of the update, with draws from any place of any stream.
abbrev pub LeadsTo : {A : Type 0} → Drawing A → Ref A → Ref Parts → Rest → Left → Type 0
LeadsTo d random battle rest left =
    (since : Since d random.exit.now) (g : Setting) (p : Progress)
    → Within g battle.entry.now p.field → (rest.is_cut ≡ false → IsReady rest g.terms p) → p.stream ≡ since.source.stream → StandsIn d since.source p.drawn random.entry.now
    → GoesTo d since.source g battle.exit.now random.exit.now left (rest_of rest (ruling_of g.terms) p)
