use Rattle.std.proofs.Common.{arith, refl, sym, ◌<◌, ◌≡◌, ◌∙◌}
use Rattle.gen1_layout.specs.Words.{move_at}
use Rattle.gen1_machine.specs.CriticalHits.{critical_bound_in}
use Rattle.gen1_odds.proofs.Counts.{rotated-many}
use Rattle.gen1_odds.proofs.chances.critical_draws.Goals as goal

pub returns-clause-stands : goal.returns-clause-stands
returns-clause-stands c g f h =
    let bound : c.critical_bound.result ≡ critical_bound_in c.args.side (move_at c.args.id) f =
    rw (c.species.ensures.stands _ _ h, c.is_on-focused.ensures.stands 8 refl _ _ h) at c.critical_bound.ensures in
    let fits : critical_bound_in c.args.side (move_at c.args.id) f < 256 = omega (arith, bound, c.critical_bound.type_inv) in
    rw (sym (c.deals_usual.ensures.stands g f h) ∙ c.if-not-deals_usual.false) (c.from.ensures ∙ bound ∙ sym (rotated-many _ fits))
