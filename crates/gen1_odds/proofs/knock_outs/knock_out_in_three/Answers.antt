use Rattle.std.proofs.Common.{ap, refl, subst, sym, ◌∙◌}
use Rattle.gen1_machine.specs.declared.side.Side.{Side}
use Rattle.gen1_machine.specs.Sides.{other}
use Rattle.gen1_machine.specs.State.{member_in}
use Rattle.gen1_layout.specs.Words.{move_at}
use Rattle.gen1_odds.specs.KnockOut.{AreThree, between_in, needed_in}
use Rattle.gen1_odds.specs.Odds.{flag}
use Rattle.gen1_odds.specs.Trials.{has_substitute_in}
use Rattle.gen1_odds.proofs.Counts.{target_is, three_fixed_is, three_usual_is}
use Rattle.gen1_odds.proofs.knock_outs.knock_out_in_three.Goals as goal

pub returns-then-deals_usual-clause-stands : goal.returns-then-deals_usual-clause-stands
returns-then-deals_usual-clause-stands c g f h =
    let s = c.args.side in
    let between = c.args.between.now in
    let deals = sym (c.deals_usual.ensures.stands g f h) ∙ c.if-deals_usual.true in
    c.usual_three.ensures
    ∙ three_usual_is between g.terms.rules s (move_at c.args.id) f _ _ _ deals c.effect.ensures (c.odds_of-odds.ensures.stands g f h)
    (target_is (other s) between f _ _ _ _
    (c.needed.ensures.stands g f h ∙ ap (λ (t : Side). needed_in t f) c.other.ensures)
    (c.max_hp.ensures.stands g f h ∙ ap (λ (t : Side). (member_in t f).max) c.other-2.ensures)
    (c.changes.ensures.stands g f h ∙ ap (λ (t : Side). between_in t between f) c.other-3.ensures)
    (c.flag.ensures.value ∙ ap flag (c.has_substitute.ensures.stands g f h ∙ ap (λ (t : Side). has_substitute_in t f) c.other-4.ensures)))

pub returns-clause-stands : goal.returns-clause-stands
returns-clause-stands c g f h =
    let s = c.args.side in
    let between = c.args.between.now in
    let unusual = sym (c.deals_usual.ensures.stands g f h) ∙ c.if-deals_usual.false in
    c.fixed_three.ensures
    ∙ three_fixed_is between g.terms.rules s (move_at c.args.id) f _ _ _ unusual (c.odds_of-odds.ensures.stands g f h) (c.halves.ensures.stands g f h)
    (target_is (other s) between f _ _ _ _
    (c.needed.ensures.stands g f h ∙ ap (λ (t : Side). needed_in t f) c.other.ensures)
    (c.max_hp.ensures.stands g f h ∙ ap (λ (t : Side). (member_in t f).max) c.other-2.ensures)
    (c.changes.ensures.stands g f h ∙ ap (λ (t : Side). between_in t between f) c.other-3.ensures)
    (c.flag.ensures.value ∙ ap flag (c.has_substitute.ensures.stands g f h ∙ ap (λ (t : Side). has_substitute_in t f) c.other-4.ensures)))

pub returns-then-deals_usual-clause-shape : goal.returns-then-deals_usual-clause-shape
returns-then-deals_usual-clause-shape c = subst AreThree (sym c.usual_three.ensures) (record { square = refl; cube = refl; flag = c.flag.ensures.bit; zeros = refl })

pub returns-clause-shape : goal.returns-clause-shape
returns-clause-shape c = subst AreThree (sym c.fixed_three.ensures) (record { square = refl; cube = refl; flag = c.flag.ensures.bit; zeros = refl })
