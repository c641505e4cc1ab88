use Rattle.gen1_layout.proofs.Words.{Option, ap, drawn_if_not, drawn_if_so, is_some, refl, sym, underway_in, ◌∙◌}
use Rattle.gen1_tables.specs.declared.effect.Effect.TheVariants.{Bide}
use Rattle.gen1_machine.specs.Conditions.{Storing}
use Rattle.gen1_hits.proofs.Knowledge.{does_still, leaves}
use Rattle.gen1_hits.specs.Knowing.{just_begun, knowing}
use Rattle.gen1_multiturn.proofs.Underways.{alone-biding, not-stored, stored-is}
use Rattle.gen1_multiturn.proofs.moves.bide.bide.Goals as goal

pub returns-in-None-clause-left : goal.returns-in-None-clause-left
returns-in-None-clause-left t c since g p plan doing v h =
    let off = not-stored (underway_in c.args.side p.field).bide (sym (c.bide.ensures.stands _ _ h.shows.within) ∙ c.in-None.is) in
    leaves {k = just_begun c.args.side} g
    (drawn_if_not _ _ _ (ap (λ (o : Option Storing). is_some o) off) (c.start_bide.ensures.shown since (knowing (just_begun c.args.side) g) p (alone-biding g.setting.terms plan c.args.side Bide p doing refl v) h))

pub returns-in-Some-clause-left : goal.returns-in-Some-clause-left
returns-in-Some-clause-left t c since g p plan doing v h =
    let on = stored-is (underway_in c.args.side p.field).bide _ (sym (c.bide.ensures.stands _ _ h.shows.within) ∙ c.in-Some.is) in
    leaves {k = c.bide_knowing.new.known} g
    (drawn_if_so _ _ _ (ap (λ (o : Option Storing). is_some o) on)
    (does_still {k = c.begun.result} g _ c.bide_knowing.ensures.shown (rw (c.begun.ensures, c.new.ensures) h)))
