use Rattle.std.proofs.Common.{subst, sym}
use Rattle.gen1_layout.specs.Parts.{Parts}
use Rattle.gen1_layout.specs.Shows.{Stands}
use Rattle.gen1_outcomes.proofs.Offered.{accepted_offered, offered_as, refused_tests, tests_as}
use Rattle.gen1_outcomes.proofs.ways.Ways.new.Goals as goal

pub returns-in-Ok-clause-offered : goal.returns-in-Ok-clause-offered
returns-in-Ok-clause-offered c s h =
    offered_as s c.copied.result c.copied-2.result c.args.one c.args.two c.copied.ensures c.copied-2.ensures
    (accepted_offered s c.copied.result c.copied-2.result _ _ _ (c.in-Ok.ensures.answers s (subst (λ (p : Parts). Stands p s) (sym c.copy_of-copy.ensures) h)))

pub returns-in-Err-clause-refused : goal.returns-in-Err-clause-refused
returns-in-Err-clause-refused c s h =
    tests_as s c.copied.result c.copied-2.result c.args.one c.args.two _ c.copied.ensures c.copied-2.ensures
    (refused_tests s c.copied.result c.copied-2.result _ _ _ (c.in-Err.ensures.answers s (subst (λ (p : Parts). Stands p s) (sym c.copy_of-copy.ensures) h)))
