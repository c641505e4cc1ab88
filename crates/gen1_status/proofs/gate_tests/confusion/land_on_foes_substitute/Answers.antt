use Rattle.std.proofs.Common.{◌||◌}
use Rattle.gen1_layout.proofs.Words.{stays, ◌∙◌}
use Rattle.gen1_machine.specs.HitOnItself.{land_on_foes_substitute}
use Rattle.gen1_status.proofs.Told.{broken_so}
use Rattle.gen1_status.proofs.gate_tests.confusion.land_on_foes_substitute.Goals as goal

pub returns-in_default-clause-shown : goal.returns-in_default-clause-shown
unfolding land_on_foes_substitute
returns-in_default-clause-shown t c g p is h = rw c.in_default.is (broken_so g g.action.broke (stays h))

pub returns-clause-shown : goal.returns-clause-shown
unfolding land_on_foes_substitute
returns-clause-shown t c g p is h =
    let foe = is ∙ c.in-Some.is in
    let a = c.land_on_substitute.ensures.shown g p (rw c.other.ensures foe) h in
    rw c.in-Some.is (broken_so g (c.land_on_substitute.result || g.action.broke) (rw (← c.other.ensures) a))
