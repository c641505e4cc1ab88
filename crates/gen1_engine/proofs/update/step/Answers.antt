use Rattle.std.proofs.Common.{arith, sym, ◌∙◌, ◌≡◌, ◌≤◌}
use Rattle.gen1_machine.specs.declared.terms.Request.TheVariants as requests
use Rattle.gen1_layout.specs.Shows.{setting_of}
use Rattle.gen1_offers.proofs.OfferedSet.{packs_of}
use Rattle.gen1_engine.proofs.Making.{plays_switches, plays_turn, starts_of, starts_so}
use Rattle.gen1_engine.proofs.update.step.Goals as goal

pub returns-in-Move-clause-stepped : goal.returns-in-Move-clause-stepped
returns-in-Move-clause-stepped t c s h o =
    let asked = sym (c.request.ensures.packs (setting_of s) s.field (packs_of h)) ∙ c.in-Move.is in
    c.step_turn.ensures.stepped s h (plays_turn o asked)

pub returns-then-turn-eq0-clause-stepped : goal.returns-then-turn-eq0-clause-stepped
returns-then-turn-eq0-clause-stepped t c s h o =
    let turn = sym (c.turn.ensures.packs (setting_of s) s.field (packs_of h)) ∙ c.if-turn-eq0.true in
    let starts = starts_of h.valid o turn in
    starts_so o starts (c.start.ensures.stepped s h starts)

pub returns-else-turn-eq0-clause-stepped : goal.returns-else-turn-eq0-clause-stepped
returns-else-turn-eq0-clause-stepped t c s h o =
    let turn = c.turn.ensures.packs (setting_of s) s.field (packs_of h) in
    let later : 1 ≤ s.field.turn = omega arith in
    let apart : (s.field.request_one ≡ requests.Move → ⊥) = λ e. c.in_default.not-Move (c.request.ensures.packs (setting_of s) s.field (packs_of h) ∙ e) in
    c.replace.ensures.stepped s h (plays_switches h.valid o apart later)
