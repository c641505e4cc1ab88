use Rattle.std.proofs.Common.{refl, sym, ◌∙◌, ◌≡◌}
use Rattle.gen1_layout.specs.Shows.{setting_of}
use Rattle.gen1_offers.proofs.OfferedSet.{packs_of}
use Rattle.gen1_player.proofs.Fairness.{nobody_before, place_out, within_out}
use Rattle.gen1_player.proofs.own.active.Goals as goal

pub returns-then-turn-eq0 : goal.returns-then-turn-eq0
returns-then-turn-eq0 c s h =
    let start : s.field.turn ≡ 0 = sym (c.turn.ensures.packs (setting_of s) s.field (packs_of h)) ∙ c.if-turn-eq0.true in
    rw (c.nobody_out.ensures, nobody_before c.args.side h start) refl

pub returns-else-turn-eq0 : goal.returns-else-turn-eq0
returns-else-turn-eq0 c s h =
    let out : s.field.turn ≡ 0 → ⊥ = λ z. c.if-turn-eq0.false (c.turn.ensures.packs (setting_of s) s.field (packs_of h) ∙ z) in
    rw (c.out_now.ensures (setting_of s) s.field (within_out h out), place_out c.args.side h out) refl
