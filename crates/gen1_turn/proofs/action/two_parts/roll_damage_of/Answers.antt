use Rattle.std.proofs.Common.{min, ◌≡◌}
use Rattle.gen1_layout.proofs.Words.{arith, set_last_damage, subst, sym, ℕ, ◌∙◌}
use Rattle.gen1_rolls.specs.Streams.{limit_of}
use Rattle.gen1_machine.specs.Damage.{vary}
use Rattle.gen1_machine.specs.Progress.{on_field}
use Rattle.gen1_machine.specs.Sides.{other}
use Rattle.gen1_machine.specs.State.{with_last_damage}
use Rattle.gen1_hits.proofs.Knowledge.{varying}
use Rattle.gen1_turn.specs.Action.{limit_in}
use Rattle.gen1_turn.proofs.Damage.{like-of, limit-same}
use Rattle.gen1_turn.proofs.TwoParts.{not-zero}
use Rattle.gen1_turn.proofs.action.two_parts.roll_damage_of.Goals as goal

pub returns-clause-shown : goal.returns-clause-shown
unfolding set_last_damage with_last_damage on_field
returns-clause-shown t c told since g p between hit h =
    let s = c.args.side in
    let damage = c.args.roll.damage in
    let result = c.factor_up_to-varied.result in
    let edge = c.damage_edge-edge.result in
    let v = varying (limit_of edge.0 edge.1) damage result h (c.factor_up_to-varied.ensures.varies since) (c.put_last_damage.ensures.stands _ _ h.shows.within) in
    let q = set_last_damage result (record p { drawn = v.0 }) in
    let limit : limit_of edge.0 edge.1 ≡ limit_in (other s) (with_last_damage result p.field) =
    rw (c.damage_edge-edge.ensures.edge _ _ h.shows.within, c.damage_edge-edge.ensures.cut _ _ h.shows.within, c.other.ensures) (sym (limit-same (other s) result p.field)) in
    let alike = subst (λ (l : ℕ). min v.2 l ≡ min result l) limit v.4 in
    (q, v.1, like-of s q (vary damage p) damage v.2 v.3 alike v.5 c.factor_up_to-varied.ensures.most (omega (arith, between)) (hit ∙ sym (not-zero damage between.0)) h.shows.ends)
