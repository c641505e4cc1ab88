use Rattle.std.proofs.Common.{sym, ◌∙◌}
use Rattle.gen1_c.proofs.Updates.{begun_as, let_through}
use Rattle.gen1_c.proofs.battle.gen1_new.Goals as goal

pub returns-in-Ok-clause-begun : goal.returns-in-Ok-clause-begun
returns-in-Ok-clause-begun c zero =
    let rules = let_through _ _ _ (sym c.new.ensures ∙ c.in-Some.is) in
    let limit = let_through _ _ _ (sym c.new-2.ensures ∙ c.in-Some-new.is) in
    begun_as rules.1 limit.1 c.in-Ok.ensures.one c.in-Ok.ensures.two c.with_limit.ensures
