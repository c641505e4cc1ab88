use Rattle.gen1_layout.proofs.Words.{still}
use Rattle.gen1_machine.specs.Sides.{other}
use Rattle.gen1_machine.specs.SideEffects.{flinch}
use Rattle.gen1_effects.proofs.Passing.{comes, passes}
use Rattle.gen1_effects.proofs.side_effects.chances.may_flinch.Goals as goal

pub returns-then-not-is_drawn_below-clause-shown : goal.returns-then-not-is_drawn_below-clause-shown
returns-then-not-is_drawn_below-clause-shown t c events since g p h =
    passes c.args.bound _ h (c.is_drawn_below.ensures.drawn since) c.if-not-is_drawn_below.true

pub returns-clause-shown : goal.returns-clause-shown
returns-clause-shown t c events since g p h =
    comes c.args.bound (flinch (other c.args.side)) h (c.is_drawn_below.ensures.drawn since) c.if-not-is_drawn_below.false
    (λ d. still d ((rw c.other.ensures at c.flinch.ensures.shown) _ _ _ d.shows))
