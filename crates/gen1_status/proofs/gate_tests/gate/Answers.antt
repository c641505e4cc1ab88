use Rattle.std.proofs.Common.{refl, sym, ◌∙◌}
use Rattle.gen1_machine.specs.declared.event.CantReason.TheVariants as reasons
use Rattle.gen1_machine.specs.Gate.{cant}
use Rattle.gen1_machine.proofs.Steady.{cant-steady}
use Rattle.gen1_status.specs.declared.gate_answer.Gate.TheVariants.{Go, Stop}
use Rattle.gen1_status.proofs.Told.{gate-acts, held-is, held-not, drawn_tells, outcome-steady, still_tells, tells}
use Rattle.gen1_status.proofs.gate_tests.gate.Goals as goal

pub returns-then-is_held-clause-shown : goal.returns-then-is_held-clause-shown
returns-then-is_held-clause-shown t c since g p h =
    rw (held-is c.args.side c.args.pick (sym c.is_held.ensures ∙ c.if-is_held.true))
    (still_tells h (tells Stop (cant c.args.side reasons.PartiallyTrapped) refl (cant-steady (outcome-steady _) c.args.side _) (c.cant.ensures.shown _ _ h.shows)))

pub returns-clause-shown : goal.returns-clause-shown
returns-clause-shown t c since g p h =
    rw (held-not c.args.side c.args.pick (sym c.is_held.ensures ∙ c.if-is_held.false)) (c.take_tests.ensures.shown since g p h)

pub returns-then-acts_at_once-clause-shown : goal.returns-then-acts_at_once-clause-shown
returns-then-acts_at_once-clause-shown t c since g p h =
    let at_once = c.acts_at_once.ensures.stands _ _ h.shows.within c.if-acts_at_once.true in
    rw (held-not c.args.side c.args.pick (sym c.is_held.ensures ∙ c.if-is_held.false), gate-acts c.args.side c.args.pick p at_once h.shows.ends)
    (drawn_tells Go (λ q. q) refl (record { kept = λ q same. same }) h)
