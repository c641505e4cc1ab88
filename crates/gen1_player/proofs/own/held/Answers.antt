use Rattle.std.proofs.Common.{ap, is_some, refl, sym, ◌∙◌, ◌≡◌}
use Rattle.gen1_machine.specs.declared.side.Side.{Side}
use Rattle.gen1_machine.specs.Rules.{bit_of}
use Rattle.gen1_machine.specs.Sides.{other}
use Rattle.gen1_machine.specs.State.{underway_in}
use Rattle.gen1_layout.specs.Shows.{setting_of}
use Rattle.gen1_offers.proofs.OfferedSet.{packs_of}
use Rattle.gen1_player.proofs.Fairness.{nobody_before, within_out}
use Rattle.gen1_player.proofs.own.held.Goals as goal

pub returns-then-turn-eq0-clause-stands : goal.returns-then-turn-eq0-clause-stands
returns-then-turn-eq0-clause-stands c s h =
    let start : s.field.turn ≡ 0 = sym (c.turn.ensures.packs (setting_of s) s.field (packs_of h)) ∙ c.if-turn-eq0.true in
    rw (nobody_before (other c.args.side) h start) refl

pub returns-else-turn-eq0-clause-stands : goal.returns-else-turn-eq0-clause-stands
returns-else-turn-eq0-clause-stands c s h =
    let out : s.field.turn ≡ 0 → ⊥ = λ z. c.if-turn-eq0.false (c.turn.ensures.packs (setting_of s) s.field (packs_of h) ∙ z) in
    c.traps.ensures.stands (setting_of s) s.field (within_out h out) ∙ ap (λ (t : Side). bit_of (is_some (underway_in t s.field).trapping)) c.other.ensures
