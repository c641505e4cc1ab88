use Rattle.std.proofs.Common.{ap, arith, length}
use Rattle.gen1_machine.specs.State.{State}
use Rattle.gen1_machine.specs.Step.{step}
use Rattle.gen1_layout.specs.Shows.{Stands}
use Rattle.gen1_engine.specs.Update.{AreOffered}
use Rattle.gen1_engine.proofs.Making.{answers_accepted, answers_refused, none_left, tells_accepted, tells_refused}
use Rattle.gen1_engine.proofs.Played.{few_fit}
use Rattle.gen1_engine.proofs.update.update_events.Goals as goal

pub returns-in-Some-clause-answers : goal.returns-in-Some-clause-answers
returns-in-Some-clause-answers c s h = answers_refused s c.args.one c.args.two c.args.battle.now c.in-Some.why (rw c.in-Some.is at (c.refusal.ensures s h))

pub returns-in-Some-clause-tells : goal.returns-in-Some-clause-tells
returns-in-Some-clause-tells c s h = tells_refused s c.args.one c.args.two c.args.events.now c.in-Some.why (rw c.in-Some.is at (c.refusal.ensures s h))

pub returns : goal.returns
returns c =
    let none = none_left c.refusal.result c.in_default.not-Some in
    let offered : (s : State) → Stands c.args.battle.now s → AreOffered s c.args.one c.args.two = λ s h. rw none at (c.refusal.ensures s h) in
    record {
      answers = λ s h.
          let t = c.update_offered.ensures.steps s h (offered s h) in
          answers_accepted c.args.battle.now c.update_offered.result t (c.update_offered.ensures.result (step s c.args.one c.args.two).state t.stands);
      tells = λ s h. tells_accepted c.args.events.now c.update_offered.new.events (c.update_offered.ensures.steps s h (offered s h));
      short = λ is. few_fit c.update_offered.new.events.items (omega (arith, ap length c.clear.ensures, c.update_offered.ensures.room));
      valid = λ m. record { state = (step m.state c.args.one c.args.two).state; stands = (c.update_offered.ensures.steps m.state m.stands (offered m.state m.stands)).stands };
      kept = tt;
    }
