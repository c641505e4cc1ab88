use Rattle.std.proofs.Common.{Err, Ok, refl, sym, ◌∙◌}
use Rattle.gen1_layout.specs.Shows.{setting_of}
use Rattle.gen1_odds.specs.Acting.{action_odds_in}
use Rattle.gen1_c.proofs.OddsDue.{within_out, tells, use_out}
use Rattle.gen1_c.proofs.odds.gen1_action_odds_now.Goals as goal

pub returns-in-Ok-clause-tells : goal.returns-in-Ok-clause-tells
returns-in-Ok-clause-tells c s which h e =
    let due = sym c.in-Ok.is ∙ c.use_of.ensures.due s which h e in
    let out = use_out which c.args.number s.field c.in-Ok.used (sym due) in
    tells action_odds_in s.terms.rules s.field (Ok c.in-Ok.used) _ _ _ due
    (refl, c.action_odds_of.ensures.stands (setting_of s) s.field (within_out h out))

pub returns-in-Err-clause-tells : goal.returns-in-Err-clause-tells
returns-in-Err-clause-tells c s which h e =
    tells action_odds_in s.terms.rules s.field (Err c.in-Err.code) _ _ _ (sym c.in-Err.is ∙ c.use_of.ensures.due s which h e) (refl, refl)
