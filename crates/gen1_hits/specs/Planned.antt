-- What operations show for a side that plans a move: the move that it is about to use, or is using, explains what the
-- move begins (gen1_machine, `Plans.antt`). What operations need is a premise, which their callers pass on.
use Rattle.std.specs.Prelude.{◌≡◌}
use Rattle.gen1_layout.specs.Words.{Progress, Side, false}
use Rattle.gen1_tables.specs.declared.effect.Effect.{Effect}
use Rattle.gen1_machine.specs.declared.side.Pick.{Pick}
use Rattle.gen1_machine.specs.declared.side.Pick.TheVariants.{Use}
use Rattle.gen1_machine.specs.State.{Terms}
use Rattle.gen1_machine.specs.Plans.{Doing, IsPlanned, Plan, Plans}
use Rattle.gen1_layout.specs.Operations.{Premise}

-- A battle in the middle of an update is valid, and each side's plan holds.
abbrev pub Follows : Terms → (Side → Plan) → Progress → Type 0
Follows terms plan p = IsPlanned terms plan p.field p.action p.stream

-- The plan of a side whose pick is about to take a move with this effect. A move that is picked for this turn is not
-- used yet.
abbrev pub Takes : Pick → Effect → Plan → Type 0
Takes (Use used) e x = x ≡ Plans used e
Takes _ e x = x ≡ Doing e

-- If the move is picked for this turn, no energy is let out.
abbrev pub Before : Pick → Terms → (Side → Plan) → Progress → Type 0
Before (Use used) terms plan p = Follows terms plan p × (p.action.letting_go ≡ false)
Before _ terms plan p = Follows terms plan p

-- Premises of operations: the side is using a move with this effect, or its pick is about to take such a move.
abbrev pub using : Side → Effect → Premise
using side effect g p Then = (plan : Side → Plan) → plan side ≡ Doing effect → Follows g.setting.terms plan p → Then

abbrev pub taking : Side → Pick → Effect → Premise
taking side pick effect g p Then = (plan : Side → Plan) → Takes pick effect (plan side) → Before pick g.setting.terms plan p → Then
