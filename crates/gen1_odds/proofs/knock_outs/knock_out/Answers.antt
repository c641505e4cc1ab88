use Rattle.std.proofs.Common.{ap, refl, subst, sym, ◌∙◌}
use Rattle.gen1_machine.specs.declared.side.Side.{Side}
use Rattle.gen1_layout.specs.Words.{move_at}
use Rattle.gen1_odds.specs.KnockOut.{AreChances, needed_in}
use Rattle.gen1_odds.specs.Odds.{flag}
use Rattle.gen1_odds.specs.Trials.{has_substitute_in}
use Rattle.gen1_odds.proofs.Counts.{fixed_is, usual_is}
use Rattle.gen1_odds.proofs.knock_outs.knock_out.Goals as goal

pub returns-then-deals_usual-clause-stands : goal.returns-then-deals_usual-clause-stands
returns-then-deals_usual-clause-stands c g f h =
    let deals = sym (c.deals_usual.ensures.stands g f h) ∙ c.if-deals_usual.true in
    let need = c.needed-need.ensures.stands g f h ∙ ap (λ (t : Side). needed_in t f) c.other.ensures in
    let covered = c.has_substitute.ensures.stands g f h ∙ ap (λ (t : Side). has_substitute_in t f) c.other-2.ensures in
    c.usual_chances.ensures
    ∙ usual_is g.terms.rules c.args.side (move_at c.args.id) f _ _ _ _ deals c.effect.ensures (c.odds_of-odds.ensures.stands g f h) need (c.flag-breaks.ensures.value ∙ ap flag covered)

pub returns-clause-stands : goal.returns-clause-stands
returns-clause-stands c g f h =
    let unusual = sym (c.deals_usual.ensures.stands g f h) ∙ c.if-deals_usual.false in
    let need = c.needed-need.ensures.stands g f h ∙ ap (λ (t : Side). needed_in t f) c.other.ensures in
    let covered = c.has_substitute.ensures.stands g f h ∙ ap (λ (t : Side). has_substitute_in t f) c.other-2.ensures in
    c.fixed_chances.ensures
    ∙ fixed_is g.terms.rules c.args.side (move_at c.args.id) f _ _ _ _ unusual (c.odds_of-odds.ensures.stands g f h) (c.halves.ensures.stands g f h) need (c.flag-breaks.ensures.value ∙ ap flag covered)

pub returns-then-deals_usual-clause-shape : goal.returns-then-deals_usual-clause-shape
returns-then-deals_usual-clause-shape c = subst AreChances (sym c.usual_chances.ensures) (record { square = refl; flag = c.flag-breaks.ensures.bit; zeros = refl })

pub returns-clause-shape : goal.returns-clause-shape
returns-clause-shape c = subst AreChances (sym c.fixed_chances.ensures) (record { square = refl; flag = c.flag-breaks.ensures.bit; zeros = refl })
