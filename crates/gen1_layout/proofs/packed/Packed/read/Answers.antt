use Rattle.std.proofs.Common.{ap, refl, ◌∙◌}
use Rattle.gen1_layout.specs.Parts.{parts_of}
use Rattle.gen1_layout.proofs.WaysBack.{stands_for_some}
use Rattle.gen1_layout.proofs.packed.Packed.read.Goals as goal

pub returns-clause-tests : goal.returns-clause-tests
returns-clause-tests c =
    let tests = c.in_ok-form_of.ensures.tests in (tests.0, c.of_bytes.ensures ∙ ap parts_of tests.1)

pub returns-clause-stands : goal.returns-clause-stands
returns-clause-stands c =
    stands_for_some c.in_ok-form_of.field-0 c.of_bytes.result (c.in_ok-form_of.ensures.battle.0 refl)
    c.in_ok-form_of.ensures.tests.1 c.of_bytes.ensures
