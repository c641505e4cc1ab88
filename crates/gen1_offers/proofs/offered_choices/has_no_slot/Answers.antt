use Rattle.std.proofs.Common.{[], ap, is_some, refl, ◌∙◌, ◌∷◌}
use Rattle.gen1_machine.specs.declared.side.Side.{Side}
use Rattle.gen1_stats.specs.Members.{sleeps_or_freezes}
use Rattle.gen1_machine.specs.Sides.{other}
use Rattle.gen1_machine.specs.State.{status_in, underway_in}
use Rattle.gen1_offers.proofs.OfferedSet.{or_of_or}
use Rattle.gen1_offers.proofs.offered_choices.has_no_slot.Goals as goal

pub returns : goal.returns
returns c g f h =
    let s = c.args.side in
    let sleeps = c.sleeps_or_freezes-sleeps.ensures ∙ ap sleeps_or_freezes (c.status.ensures.stands g f h) in
    let bides_or_traps = c.has_any-bides_or_traps.ensures.stands (0 ∷ 2 ∷ []) (c.union.ensures tt) g f h in
    let is_held = c.is_on-is_held.ensures.stands 2 refl g f h ∙ ap (λ (t : Side). is_some (underway_in t f).trapping) c.other.ensures in
    rw (sleeps, bides_or_traps, is_held)
    (or_of_or (sleeps_or_freezes (status_in s f)) (is_some (underway_in s f).bide) (is_some (underway_in s f).trapping) (is_some (underway_in (other s) f).trapping))
