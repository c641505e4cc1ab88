use Rattle.std.proofs.Common.{Err, List, Ok, length, refl, subst, sym, ℕ, ◌<◌, ◌∙◌}
use Rattle.battle_commands.proofs.Serving.{helps, not_both, refuses, said_is, says_asked, says_refused}
use Rattle.battle_commands.proofs.commands.reply.Goals as goal

pub returns-then-use_stderr-clause-says : goal.returns-then-use_stderr-clause-says
returns-then-use_stderr-clause-says g c =
    let said = c.as_bytes.ensures.value ∙ said_is c.args.said.now _ c.text_or_usage-text.ensures.same c.text_or_usage-text.ensures.value in
    says_refused _ c.as_bytes.result.now _ _ _ said (c.use_stderr.ensures.0 c.if-use_stderr.true) (c.send.result, c.send.ensures)

pub returns-then-use_stderr-clause-replies : goal.returns-then-use_stderr-clause-replies
returns-then-use_stderr-clause-replies g c =
    let some = subst (λ (t : List ℕ). 0 < length t) (sym c.as_bytes.ensures.value) c.text_or_usage-text.ensures.some in
    refuses _ _ _ _ (c.use_stderr.ensures.0 c.if-use_stderr.true)
    (record { status_is = refl; text = c.as_bytes.result.now; some = some; told = (c.send.result, c.send.ensures); unprinted = (refl, refl) })

pub returns-in-Ok-clause-says : goal.returns-in-Ok-clause-says
returns-in-Ok-clause-says g c =
    let said = c.as_bytes-2.ensures.value ∙ said_is c.args.said.now _ c.text_or_usage-text.ensures.same c.text_or_usage-text.ensures.value in
    says_asked _ c.as_bytes-2.result.now _ _ _ said (λ p. not_both _ (c.use_stderr.ensures.1 p) c.if-use_stderr.false) (Ok c.in-Ok.field-0) c.in-Ok.ensures

pub returns-in-Ok-clause-replies : goal.returns-in-Ok-clause-replies
returns-in-Ok-clause-replies g c =
    let some = subst (λ (t : List ℕ). 0 < length t) (sym c.as_bytes-2.ensures.value) c.text_or_usage-text.ensures.some in
    helps _ _ _ _ (λ p. not_both _ (c.use_stderr.ensures.1 p) c.if-use_stderr.false)
    (record { text = c.as_bytes-2.result.now; some = some; result = Ok c.in-Ok.field-0; shown = c.in-Ok.ensures; ends = (refl, refl); status_is = refl })

pub returns-in-Err-clause-says : goal.returns-in-Err-clause-says
returns-in-Err-clause-says g c =
    let said = c.as_bytes-2.ensures.value ∙ said_is c.args.said.now _ c.text_or_usage-text.ensures.same c.text_or_usage-text.ensures.value in
    says_asked _ c.as_bytes-2.result.now _ _ _ said (λ p. not_both _ (c.use_stderr.ensures.1 p) c.if-use_stderr.false) (Err c.in-Err.field-0) c.in-Err.ensures

pub returns-in-Err-clause-replies : goal.returns-in-Err-clause-replies
returns-in-Err-clause-replies g c =
    let some = subst (λ (t : List ℕ). 0 < length t) (sym c.as_bytes-2.ensures.value) c.text_or_usage-text.ensures.some in
    helps _ _ _ _ (λ p. not_both _ (c.use_stderr.ensures.1 p) c.if-use_stderr.false)
    (record { text = c.as_bytes-2.result.now; some = some; result = Err c.in-Err.field-0; shown = c.in-Err.ensures; ends = c.report.ensures.told; status_is = c.report.ensures.status })
