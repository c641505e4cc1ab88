use Rattle.std.proofs.Common.{ap, length, subst, sym, ◌∙◌}
use Rattle.std.proofs.lemmas.Bool.{false≢true}
use Rattle.gen1_layout.specs.LoadingLaws.{IsBattle}
use Rattle.uses.proofs.TheTheorem.{loaded_same, stored_battle}
use Rattle.uses.proofs.the_theorem.load.Goals as goal

pub unreachable-requires : goal.unreachable-requires
unreachable-requires c =
    let some = c.requires.stored in
    let battle = subst IsBattle (sym some.2) (stored_battle some.0 some.1.valid (sym (ap length some.2) ∙ c.requires.full)) in
    false≢true (c.in-Err.ensures.battle.1 battle)

pub returns : goal.returns
returns c =
    let some = c.requires.stored in
    loaded_same some.0 c.args.battle.now c.in-Ok.loaded c.args.stored.now some.1 some.2 c.in-Ok.ensures.tests.1
