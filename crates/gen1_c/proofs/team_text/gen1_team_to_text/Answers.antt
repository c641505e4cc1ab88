use Rattle.std.proofs.Common.{List, Ok, ap, arith, sym, ◌≡◌, ◌∙◌}
use Rattle.gen1_stats.specs.Teams.{Sheet, team_of}
use Rattle.gen1_text.specs.Texts.{team_told}
use Rattle.gen1_writer.specs.Export.{text_of, write_refusal}
use Rattle.gen1_c.proofs.Writing.{due_refusal, due_text, not_refused, sheets-of, refused, written, written_back}
use Rattle.gen1_c.proofs.team_text.gen1_team_to_text.Goals as goal

pub returns-in-Ok-clause-writes : goal.returns-in-Ok-clause-writes
returns-in-Ok-clause-writes c =
    let none : c.number_fault-fault.result ≡ 0 = omega (arith, c.if-fault-gt0.false) in
    let same = sheets-of c.args.team.now _ _ c.specs_of-specs.ensures c.from-count.ensures in
    let due = due_text text_of c.args.team.now (sym c.number_fault-fault.ensures.value ∙ none) (ap write_refusal (sym same) ∙ c.in-Ok.ensures.allowed) in
    let text = ap text_of (sym same) ∙ sym c.in-Ok.ensures.written ∙ sym c.as_slice.ensures.value in
    rw c.from.ensures (written _ _ _ (due ∙ ap Ok text) c.write_text.ensures.writes)

pub returns-in-Err-clause-writes : goal.returns-in-Err-clause-writes
returns-in-Err-clause-writes c =
    let none : c.number_fault-fault.result ≡ 0 = omega (arith, c.if-fault-gt0.false) in
    let same = sheets-of c.args.team.now _ _ c.specs_of-specs.ensures c.from-count.ensures in
    rw c.of_write.ensures.value
    (refused _ (due_refusal text_of c.args.team.now _ (sym c.number_fault-fault.ensures.value ∙ none) (ap write_refusal (sym same) ∙ c.in-Err.ensures.refused)))

pub returns-in-Err-clause-fits : goal.returns-in-Err-clause-fits
returns-in-Err-clause-fits c room zero fine =
    let same = sheets-of c.args.team.now _ _ c.specs_of-specs.ensures c.from-count.ensures in
    absurd (not_refused _ _ (ap write_refusal (sym same) ∙ c.in-Err.ensures.refused) fine)

pub returns-in-Ok-clause-back : goal.returns-in-Ok-clause-back
returns-in-Ok-clause-back c zero =
    let same = sheets-of c.args.team.now _ _ c.specs_of-specs.ensures c.from-count.ensures in
    let text = written_back _ _ _ _ c.write_text.ensures.writes (omega (arith, c.from.ensures, zero)) in
    ap team_told (text ∙ c.as_slice.ensures.value) ∙ c.in-Ok.ensures.team ∙ ap (λ (sheets : List Sheet). Ok (team_of sheets)) same

pub returns-in-Err-clause-back : goal.returns-in-Err-clause-back
returns-in-Err-clause-back c zero = absurd (omega (arith, c.of_write.ensures.some, zero))
