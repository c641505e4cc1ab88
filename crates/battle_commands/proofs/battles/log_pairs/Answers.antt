use Rattle.std.proofs.Common.{Some, ap, arith, get_or, length, refl, sym, ◌<◌, ◌∙◌}
use Rattle.gen1_machine.specs.LogBytes.{codes_of}
use Rattle.gen1_engine.specs.Replay.{step_by_bytes}
use Rattle.gen1_engine.specs.Update.{refusal_number}
use Rattle.battle_commands.specs.declared.fault.ToolFault.TheVariants.{Pair}
use Rattle.battle_commands.proofs.Serving.{or_false}
use Rattle.battle_commands.proofs.Standing.{answered_err, answers_over, answers_refused, answers_write, logged, stood_first, stood_more}
use Rattle.battle_commands.proofs.battles.log_pairs.Goals as goal

pub loop-number-init : goal.loop-number-init
loop-number-init g c = (refl, λ s h. stood_first codes_of s c.args.pairs.now c.args.battle.now _ h)

pub returns-in-Err-clause-answers : goal.returns-in-Err-clause-answers
returns-in-Err-clause-answers g c s h =
    let r = c.loop-number.invariant.1 s h in
    let t = step_by_bytes r.state (get_or c.args.pairs.now c.loop-number.number (0, 0)) in
    let u = answered_err t.answer t.state _ _ _ (c.in-Err.ensures.answers r.state r.stands) in
    let inside : c.loop-number.number < length c.args.pairs.now = omega arith in
    let a = answers_refused (Unit {0}) c.args.pairs.now c.loop-number.number r u.0 inside u.1 in
    (a.0 ∙ ap (λ n. Some (Pair c.loop-number.number n)) (sym (c.number-why.ensures ∙ ap refusal_number u.2)), a.1)

pub returns-in-Err-send-clause-answers : goal.returns-in-Err-send-clause-answers
returns-in-Err-send-clause-answers g c s h =
    let r = c.loop-number.invariant.1 s h in
    let t = step_by_bytes r.state (get_or c.args.pairs.now c.loop-number.number (0, 0)) in
    let u = logged t.answer t.state _ _ _ _ _ (c.in-Ok.ensures.answers r.state r.stands) (c.in-Ok.ensures.logs r.state r.stands) in
    let inside : c.loop-number.number < length c.args.pairs.now = omega arith in
    answers_write (Unit {0}) c.args.pairs.now c.loop-number.number r u.0 inside u.1
    (rw (c.as_slice.ensures.value, u.2) at c.in-Err-send.ensures.front)

pub loop-number-preserved : goal.loop-number-preserved
loop-number-preserved g c = (
  c.in-Ok-send.ensures.fault ∙ or_false _ ∙ c.loop-number.invariant.0,
  λ s h.
      let r = c.loop-number.invariant.1 s h in
      let t = step_by_bytes r.state (get_or c.args.pairs.now c.loop-number.number (0, 0)) in
      let u = logged t.answer t.state _ _ _ _ _ (c.in-Ok.ensures.answers r.state r.stands) (c.in-Ok.ensures.logs r.state r.stands) in
      let inside : c.loop-number.number < length c.args.pairs.now = omega arith in
      stood_more c.args.pairs.now c.loop-number.number r u.0 inside u.1 u.3
      (rw (c.as_slice.ensures.value, u.2) at c.in-Ok-send.ensures.whole),
)

pub returns-clause-answers : goal.returns-clause-answers
returns-clause-answers g c s h = answers_over (Unit {0}) tt c.args.pairs.now c.loop-number.number (c.loop-number.invariant.1 s h) (omega arith)
