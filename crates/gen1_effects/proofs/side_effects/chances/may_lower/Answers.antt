use Rattle.gen1_layout.proofs.Words.{arith, stay, still}
use Rattle.gen1_machine.specs.Sides.{other}
use Rattle.gen1_machine.specs.StageShift.{lower_stage}
use Rattle.gen1_effects.proofs.Passing.{comes, passes}
use Rattle.gen1_status.proofs.Shifting.{shifted}
use Rattle.gen1_effects.proofs.side_effects.chances.may_lower.Goals as goal

pub returns-then-not-is_drawn_below-clause-shown : goal.returns-then-not-is_drawn_below-clause-shown
returns-then-not-is_drawn_below-clause-shown t c since g p h =
    passes 85 _ h (c.is_drawn_below.ensures.drawn since) c.if-not-is_drawn_below.true

pub returns-clause-shown : goal.returns-clause-shown
returns-clause-shown t c since g p h =
    let s = c.args.side in
    comes 85 (lower_stage s (other s) c.args.stat 1 stay) h (c.is_drawn_below.ensures.drawn since) c.if-not-is_drawn_below.false
    (λ d. still d (shifted _ _ _ _ (lower_stage s (other s) c.args.stat 1) _
    ((rw c.other-foe.ensures at c.lower_stage.ensures.shown) (omega arith, omega arith) stay _ _ d.shows)))
