use Rattle.std.proofs.Common.{ap, arith, sym, ◌≡◌, ◌∙◌}
use Rattle.gen1_stats.specs.Teams.{team_of, team_refusal}
use Rattle.gen1_c.proofs.Writing.{fault-none, fault-rules, sheets-of}
use Rattle.gen1_c.proofs.teams.team_of.Goals as goal

pub returns-in-Ok-clause-made : goal.returns-in-Ok-clause-made
returns-in-Ok-clause-made c =
    c.in-Ok.ensures.made ∙ ap team_of (sheets-of c.args.form.now _ _ c.specs_of-specs.ensures c.from-count.ensures)

pub returns-in-Ok-clause-allowed : goal.returns-in-Ok-clause-allowed
returns-in-Ok-clause-allowed c =
    let none : c.number_fault-fault.result ≡ 0 = omega (arith, c.if-fault-gt0.false) in
    fault-none c.args.form.now (sym c.number_fault-fault.ensures.value ∙ none)
    (ap team_refusal (sym (sheets-of c.args.form.now _ _ c.specs_of-specs.ensures c.from-count.ensures)) ∙ c.in-Ok.ensures.allowed)

pub returns-in-Err-clause-refused : goal.returns-in-Err-clause-refused
returns-in-Err-clause-refused c =
    let none : c.number_fault-fault.result ≡ 0 = omega (arith, c.if-fault-gt0.false) in
    let is = fault-rules c.args.form.now c.in-Err.refusal (sym c.number_fault-fault.ensures.value ∙ none)
    (ap team_refusal (sym (sheets-of c.args.form.now _ _ c.specs_of-specs.ensures c.from-count.ensures)) ∙ c.in-Err.ensures.refused) in
    (c.fault_of.ensures.value ∙ sym is, (λ z. omega (arith, c.fault_of.ensures.some, z)), c.fault_of.ensures.small)
