use Rattle.std.proofs.Common.{◌≡◌}
use Rattle.gen1_layout.proofs.Words.{false, refl, sym, true, underway_in, ◌∙◌}
use Rattle.gen1_turn.proofs.action.keeps_accuracy.Goals as goal

pub returns-then-is_on : goal.returns-then-is_on
returns-then-is_on c = record { stands = λ g f h. let rage : (underway_in c.args.side f).rage ≡ true = sym (c.is_on.ensures.stands 11 refl g f h) ∙ c.if-is_on.true in rw rage refl }

pub returns : goal.returns
returns c = record { stands = λ g f h. let calm : (underway_in c.args.side f).rage ≡ false = sym (c.is_on.ensures.stands 11 refl g f h) ∙ c.if-is_on.false in rw calm (c.is_on-2.ensures.stands 1 refl g f h) }
