use Rattle.gen1_layout.proofs.Words.{drawn_goes, drawn_quietly, refl}
use Rattle.gen1_tables.specs.declared.effect.Effect.TheVariants.{Thrash}
use Rattle.gen1_machine.specs.declared.side.Pick.TheVariants.{Continue}
use Rattle.gen1_machine.specs.Action.{see_if_going_on}
use Rattle.gen1_machine.specs.GoingOn.{thrash_about}
use Rattle.gen1_machine.proofs.Sound.{planned-sound}
use Rattle.gen1_machine.proofs.SoundWalk.{see_if_going_on-sound}
use Rattle.gen1_hits.proofs.Knowledge.{does_still, leaves}
use Rattle.gen1_hits.specs.Knowing.{just_begun}
use Rattle.gen1_multiturn.proofs.moves.going_on.thrash.Goals as goal

pub returns-clause-left : goal.returns-clause-left
returns-clause-left t c move is since g p plan doing v h =
    let s = c.args.side in
    let k = c.seen_going_on-known.result in
    let a = drawn_quietly h (does_still {k = just_begun s} {k' = k} g (see_if_going_on s Continue) (c.seen_going_on-known.ensures.shown _)) in
    let w = (see_if_going_on-sound (planned-sound g.setting.terms plan) s Continue).kept p v in
    leaves {k = k} g (drawn_goes (see_if_going_on s Continue) (thrash_about s move) a (c.thrash_with.ensures.shown move Thrash is refl since g _ plan doing w a))
