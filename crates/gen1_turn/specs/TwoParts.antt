-- An action in two parts: up to the roll of its damage, and from the roll on (docs/MECHANICS.md, "Action", "Factors").
use Rattle.std.specs.Prelude.{◌∷◌, ◌≡◌}
use Rattle.gen1_layout.specs.Words.{Bool, Event, Field, Frame, List, Phase, Progress, ShowsDrawn, Side, Telling, Told, [], false, is_living, member_at, other, party, true, ℕ, ◌▸◌, IsBetween, move_at}
use Rattle.gen1_rolls.specs.Draws.{Drawing, Ref, Since, Source}
use Rattle.gen1_machine.specs.declared.side.Choice.{Choice}
use Rattle.gen1_machine.specs.declared.side.Pick.{Pick}
use Rattle.gen1_machine.specs.declared.side.Side.TheVariants.{One, Two}
use Rattle.gen1_machine.specs.Progress.{unless, new_action}
use Rattle.gen1_machine.specs.Ruling.{Ruling, ruling_of}
use Rattle.gen1_machine.specs.ResidualDamage.{residual}
use Rattle.gen1_machine.specs.Turn.{do_part, is_cut, Acts, Part, Suffers}
use Rattle.gen1_machine.specs.Plans.{InRange, Plan, PlanOf}
use Rattle.gen1_layout.specs.Operations.{Premise}
use Rattle.gen1_layout.specs.Parts.{Parts}
use Rattle.gen1_hits.specs.declared.known.Known.{Known}
use Rattle.gen1_hits.specs.Knowing.{ShowsOver, ShowsKnown, action_of, nothing_yet}
use Rattle.gen1_turn.specs.Action.{Acting, picked, late_part, LikeDamage}
use Rattle.gen1_machine.specs.Action.{keep_accuracy, resume, strike}
use Rattle.gen1_machine.specs.Damage.{vary}
use Rattle.gen1_machine.specs.HitTest.{hit_or_miss}
use Rattle.gen1_machine.specs.Moves.{Move}
use Rattle.gen1_hits.specs.DamageNumbers.{has_usual_damage}
use Rattle.gen1_turn.specs.declared.action.two_parts.Acted.{Acted}
use Rattle.gen1_turn.specs.declared.action.two_parts.Roll.{Roll}
use Rattle.gen1_machine.specs.declared.side.Choice.TheVariants as choices
use Rattle.gen1_turn.specs.declared.action.two_parts.Acted.TheVariants as acted

-- What the parts of a turn show, each with the residual damage of its side (docs/MECHANICS.md, "Order of a turn").

-- The side that begins. Nothing changes but the draws, and any phase that follows in the machine gets this side.
abbrev pub Orders : {A : Type 0} → Drawing A → Ref A → Parts → Side → ((Side → Phase) → Phase) → Type 0
Orders d random parts result order =
    (since : Since d random.exit.now) (g : Frame) (events : List Event) (p : Progress) → ShowsDrawn d since.source g parts (Told events) random.entry.now false p
    → (n : ℕ) × ShowsDrawn d since.source g parts (Told events) random.exit.now false (record p { drawn = n })
    × ((begins : Side → Phase) → order begins p ≡ begins result (record p { drawn = n }))

-- What is shown when the rest of a turn may be skipped. If it is skipped, the whole turn is shown, whatever its rest
-- is. Otherwise what came before the rest is shown, the turn isn't cut, and only the rest is left.
abbrev pub LeavesRest : (Bool → Progress → Type 0) → Bool → (Phase → Phase) → Phase → Progress → Type 0
LeavesRest Shown true before done p = (rest : Phase) → (stopped : Bool) × Shown stopped (before rest p)
LeavesRest Shown false before done p = Shown false (done p) × (is_cut (done p) ≡ false) × ((rest : Phase) → before rest p ≡ rest (done p))

-- A side's residual damage, before the rest of a turn that isn't cut.
abbrev pub suffering : Side → Phase → Phase
suffering s rest = unless is_cut (residual s ▸ unless is_cut rest)

-- A part of a turn, and the residual damage of its side.
abbrev pub PartLeaves : (Bool → Progress → Type 0) → Bool → Phase → Side → Progress → Type 0
PartLeaves Shown falls part s = LeavesRest Shown falls (λ rest. part ▸ suffering s rest) (λ p. residual s (part p))

-- A side's action by this pick, and its residual damage.
abbrev pub ActsAndSuffers : {A : Type 0} → Drawing A → Ref A → Side → Pick → Acting → Bool → Type 0
ActsAndSuffers d random side pick s falls = s λ parts events k parts' events' k'.
    (since : Since d random.exit.now) (g : Frame) (p : Progress) → picked side pick g p
    (ShowsOver d since.source k g parts events random.entry.now false p
    → PartLeaves (ShowsOver d since.source k' g parts' events' random.exit.now) falls (do_part (ruling_of g.setting.terms) (Acts side pick)) side p)

-- Code of a turn, for callers to which it doesn't matter whether the rest is skipped.
abbrev pub Ends : {A : Type 0} → Drawing A → Source A → Known → Frame → Parts → Telling → A → Progress → Type 0
Ends d source k g parts events now p = (stopped : Bool) × ShowsOver d source k g parts events now stopped p

-- `Ends`, and the turn isn't cut unless `cut` is true.
abbrev pub EndsCut : {A : Type 0} → Drawing A → Source A → Known → Frame → Parts → Telling → A → Bool → Progress → Type 0
EndsCut d source k g parts events now cut p = Ends d source k g parts events now p × (cut ≡ false → is_cut p ≡ false)

-- It does what a phase does under the rules of the battle, if a premise holds, and says whether the turn may be cut.
abbrev pub DoesTurn : {A : Type 0} → Drawing A → Ref A → Premise → Acting → Bool → (Ruling → Phase) → Type 0
DoesTurn d random premise s cut phase = s λ parts events k parts' events' k'.
    (since : Since d random.exit.now) (g : Frame) (p : Progress) → premise g p
    (ShowsOver d since.source k g parts events random.entry.now false p
    → EndsCut d since.source k' g parts' events' random.exit.now cut (phase (ruling_of g.setting.terms) p))

-- A member that may come out is in the party, and lives.
abbrev pub MayCome : Side → ℕ → Field → Type 0
MayCome s place f = InRange s place f × (is_living (member_at place (party s f)) ≡ true)

-- A switch brings out such a member.
abbrev pub Brings : Choice → Side → Field → Type 0
Brings (choices.Switch place) s f = MayCome s place f
Brings _ s f = Unit {0}

-- The premise about these choices: they have plans and bring out living members, both members that are out live, and
-- the battle continues.
abbrev pub Chooses : Choice → Choice → (Side → Plan) → Progress → Type 0
Chooses one two plan p =
    PlanOf one (plan One) × PlanOf two (plan Two) × Brings one One p.field × Brings two Two p.field × (is_cut p ≡ false)

-- Both sides use a move, this side first.
abbrev pub acts_in_turn : Side → Pick → Pick → List Part
acts_in_turn s mine others = Acts s mine ∷ Suffers s ∷ Acts (other s) others ∷ Suffers (other s) ∷ []

-- What is known of an action that is about to roll its damage.
abbrev pub rolling : Side → Bool → Bool → Known
rolling s going_on critical = record nothing_yet { side = s; going_on = going_on; critical = critical; through_types = true }

abbrev pub known_at : Side → Roll → Known
known_at s roll = rolling s roll.going_on roll.critical

-- The rest of an action from there: its parts, and its end.
abbrev pub parts_from_roll : Ruling → Side → Roll → Phase
parts_from_roll r s roll =
    vary roll.damage ▸ hit_or_miss s (move_at roll.id) ▸ late_part r s (move_at roll.id) ▸ strike r s (move_at roll.id)

abbrev pub from_roll : Ruling → Side → Roll → Phase
from_roll r s roll p = resume (keep_accuracy s (parts_from_roll r s roll p))

-- The parts of an action after its gate have begun. Unless it lets out energy, nothing more is known of it than whether
-- it continues and whether its hit is critical.
abbrev pub IsFresh : Side → Progress → Type 0
IsFresh s p = p.action.letting_go ≡ false
    → (p.skips ≡ false) × (p.action ≡ record (new_action s) { going_on = p.action.going_on; critical = p.action.critical })

abbrev pub fresh : Side → Premise → Premise
fresh s premise g p Then = IsFresh s p → premise g p Then

-- A battle in the middle of an update is where a side's action is about to roll its damage.
pub record IsRolling (s : Side) (roll : Roll) (p : Progress) : Type 0 where
  pub skips : p.skips ≡ false
  pub going : p.stopped ≡ false
  pub action : p.action ≡ action_of (known_at s roll)
  pub usual : has_usual_damage (move_at roll.id) ≡ true
  pub damage : IsBetween 2 5992 roll.damage

-- Code came to a roll, at a progress `here` that is shown. From there `rest` leads to the whole.
pub record RollsAt {A : Type 0} (d : Drawing A) (source : Source A) (g : Frame) (parts : Parts) (events : Telling) (now : A) (s : Side) (roll : Roll) (rest : Phase) (whole : Progress) : Type 0 where
  pub here : Progress
  pub shows : ShowsKnown d source (known_at s roll) g parts events now false here
  pub rolling : IsRolling s roll here
  pub left : whole ≡ rest here

-- One thing holds if code came to an end, and another if it came to a roll.
abbrev pub Reaches : (Bool → Type 0) → (Roll → Type 0) → Acted → Type 0
Reaches Ends Rolls (acted.Ended ended) = Ends ended
Reaches Ends Rolls (acted.Rolls roll) = Rolls roll

-- Code came to the end of an action that leads to the whole, or to a roll in it.
abbrev pub UpTo : {A : Type 0} → Drawing A → Source A → Known → Frame → Parts → Telling → A → Side → (Roll → Phase) → Progress → Acted → Type 0
UpTo d source k g parts events now s rest whole =
    Reaches (λ stopped. ShowsOver d source k g parts events now stopped whole)
    (λ roll. RollsAt d source g parts events now s roll (rest roll) whole)

-- Code plays a phase of an action that has begun, up to a roll if it comes to one.
abbrev pub PlaysTo : {A : Type 0} → Drawing A → Ref A → Premise → Side → (Ruling → Side → Roll → Phase) → Acting → Acted → (Ruling → Phase) → Type 0
PlaysTo d random premise side rest s result phase = s λ parts events k parts' events' k'.
    (since : Since d random.exit.now) (g : Frame) (p : Progress) → premise g p
    (ShowsKnown d since.source k g parts events random.entry.now false p
    → UpTo d since.source k' g parts' events' random.exit.now side (rest (ruling_of g.setting.terms) side) (phase (ruling_of g.setting.terms) p) result)

-- A side's action by this pick: with its residual damage, or up to a roll.
abbrev pub ActsTo : {A : Type 0} → Drawing A → Ref A → Side → Pick → Acting → Acted → Type 0
ActsTo d random side pick s result = s λ parts events k parts' events' k'.
    (since : Since d random.exit.now) (g : Frame) (p : Progress) → picked side pick g p
    (ShowsOver d since.source k g parts events random.entry.now false p
    → Reaches
    (λ falls. PartLeaves (ShowsOver d since.source k' g parts' events' random.exit.now) falls (do_part (ruling_of g.setting.terms) (Acts side pick)) side p)
    (λ roll. RollsAt d since.source g parts' events' random.exit.now side roll (from_roll (ruling_of g.setting.terms) side roll) (do_part (ruling_of g.setting.terms) (Acts side pick) p))
    result)

-- The hit test before the roll

-- The rest of an action after its hit test and its roll.
abbrev pub from_test : Ruling → Side → Move → Phase
from_test r s move p = resume (keep_accuracy s ((late_part r s move ▸ strike r s move) p))

-- An action that is about to roll its damage draws its hit test first.
abbrev pub TestsHit : {A : Type 0} → Drawing A → Ref A → Side → Roll → Ref Parts → Ref Known → Type 0
TestsHit d random s roll battle known =
    (told : List Event) (since : Since d random.exit.now) (g : Frame) (p : Progress)
    → ShowsKnown d since.source (known_at s roll) g battle.entry.now (Told told) random.entry.now false p
    → ShowsKnown d since.source known.exit.now g battle.exit.now (Told told) random.exit.now false (hit_or_miss s (move_at roll.id) p)

-- An action that has hit rolls its damage. The bytes show a damage that does the same to the foe.
abbrev pub RollsDamage : {A : Type 0} → Drawing A → Ref A → Side → Roll → Ref Parts → Type 0
RollsDamage d random s roll battle =
    (told : List Event) (since : Since d random.exit.now) (g : Frame) (p : Progress) → IsBetween 2 5992 roll.damage → p.action.missed ≡ false
    → ShowsDrawn d since.source g battle.entry.now (Told told) random.entry.now false p
    → (q : Progress) × ShowsDrawn d since.source g battle.exit.now (Told told) random.exit.now false q × LikeDamage s q (vary roll.damage p)

-- The rest of an action after both, and its residual damage. The machine is at q, and the bytes show a p that does the
-- same to the foe.
abbrev pub ActsAfter : {A : Type 0} → Drawing A → Ref A → Side → Move → Acting → Bool → Type 0
ActsAfter d random side move s falls = s λ parts events k parts' events' k'.
    (since : Since d random.exit.now) (g : Frame) (p q : Progress) → has_usual_damage move ≡ true → LikeDamage side p q
    → ShowsKnown d since.source k g parts events random.entry.now false p
    → PartLeaves (ShowsOver d since.source k' g parts' events' random.exit.now) falls (from_test (ruling_of g.setting.terms) side move) side q
