use Rattle.std.proofs.Common.{arith, length, refl, ◌<◌, ◌∙◌}
use Rattle.std.proofs.lemmas.Result.{err_from_is_err_and}
use Rattle.battle_commands.proofs.Heard.{heard_all, heard_fault, heard_first, heard_more}
use Rattle.battle_commands.proofs.Serving.{or_false}
use Rattle.battle_commands.proofs.battles.hand_in_all.Goals as goal

pub loop-submission-init : goal.loop-submission-init
loop-submission-init g c = (refl, λ d h. heard_first d c.args.submissions.now c.args.room.now _ h)

pub returns-in_err-hand_in-clause-answers : goal.returns-in_err-hand_in-clause-answers
returns-in_err-hand_in-clause-answers g c d h =
    let r = c.loop-submission.invariant.1 d h in
    let inside : c.loop-submission.submission-index < length c.args.submissions.now = omega arith in
    let passed = err_from_is_err_and c.from_residual.result c.from_residual.ensures.1 in
    rw (passed.1, passed.2) (heard_fault c.args.submissions.now c.loop-submission.submission-index r _ _ c.in_err-hand_in.field-0.0 inside (c.in_err-hand_in.ensures.answers r.course r.holds))

pub loop-submission-preserved : goal.loop-submission-preserved
loop-submission-preserved g c = (
  c.in_ok-hand_in.ensures.write ∙ or_false _ ∙ c.loop-submission.invariant.0,
  λ d h.
      let r = c.loop-submission.invariant.1 d h in
      let inside : c.loop-submission.submission-index < length c.args.submissions.now = omega arith in
      heard_more c.args.submissions.now c.loop-submission.submission-index r _ inside (c.in_ok-hand_in.ensures.holds r.course r.holds) (c.in_ok-hand_in.ensures.answers r.course r.holds).1,
)

pub returns-clause-answers : goal.returns-clause-answers
returns-clause-answers g c d h = heard_all tt c.args.submissions.now c.loop-submission.submission-index (c.loop-submission.invariant.1 d h) (omega arith)
