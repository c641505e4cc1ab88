use Rattle.std.proofs.Common.{refl, sym, ◌∙◌, ◌≡◌}
use Rattle.gen1_layout.specs.Shows.{setting_of}
use Rattle.gen1_states.proofs.ThereAndBack.{packs_of, not_zero, within_out}
use Rattle.gen1_states.proofs.reading.active_now.Goals as goal

pub returns-then-turn-eq0 : goal.returns-then-turn-eq0
returns-then-turn-eq0 c s h =
    let turn : s.field.turn ≡ 0 = sym (c.turn.ensures.packs (setting_of s) s.field (packs_of h)) ∙ c.if-turn-eq0.true in
    rw (c.no_active.ensures, turn) refl

pub returns-else-turn-eq0 : goal.returns-else-turn-eq0
returns-else-turn-eq0 c s h =
    let out : s.field.turn ≡ 0 → ⊥ = λ z. c.if-turn-eq0.false (c.turn.ensures.packs (setting_of s) s.field (packs_of h) ∙ z) in
    rw (not_zero s.field.turn out) (c.active_state.ensures.stands (setting_of s) s.field (within_out h out))
