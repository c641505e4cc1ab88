use Rattle.gen1_machine.specs.Step.{step}
use Rattle.gen1_engine.proofs.battle.Battle.update_offered.Goals as goal

pub invariant_of-self : goal.invariant_of-self
invariant_of-self g c =
    let m = c.self.invariant in
    let offered = rw (← c.self.view_is) at c.requires.offered in
    record { state = (step m.state c.args.one c.args.two).state; stands = (c.update_offered.ensures.steps m.state m.stands (offered m.state m.stands)).stands }

pub returns-clause-steps : goal.returns-clause-steps
returns-clause-steps g c =
    let offered = rw (← c.self.view_is) at c.requires.offered in
    rw (← c.self.view_is) (λ s h. c.update_offered.ensures.steps s h (offered s h))
