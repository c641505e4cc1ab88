use Rattle.std.proofs.Common.{[], ap, arith, ℕ, ◌-◌, ◌≡◌, ◌∙◌}
use Rattle.gen1_machine.specs.declared.side.Choice.TheVariants as choices
use Rattle.gen1_layout.proofs.Steps.{member_ok}
use Rattle.gen1_offers.proofs.OfferedSet.{at_most_one_more, collect, collected_more, slots_usable, usable_at}
use Rattle.gen1_offers.proofs.offered_choices.usable_moves.Goals as goal

pub loop-slot-preserved : goal.loop-slot-preserved
loop-slot-preserved c =
    let i = c.loop-slot.invariant in
    let grown = at_most_one_more c.is_usable.result c.move_in_slot.result c.loop-slot.choices.items c.add_if.new.choices.items c.add_if.ensures.items in (
      omega arith,
      λ g f h.
          collected_more (usable_at c.args.side f) choices.Move c.loop-slot.slot [] c.loop-slot.choices.items
          c.add_if.new.choices.items c.is_usable.result c.move_in_slot.result (omega arith) (i.1 g f h) c.add_if.ensures.items
          (c.is_usable.ensures.stands g f h) c.move_in_slot.ensures,
    )

pub returns-clause-stands : goal.returns-clause-stands
returns-clause-stands c g f h =
    let last : c.loop-slot.slot - 1 ≡ 4 = omega arith in
    c.loop-slot.invariant.1 g f h
    ∙ ap (λ (n : ℕ). collect (usable_at c.args.side f) choices.Move 1 n) last
    ∙ slots_usable c.args.side f (member_ok c.args.side h).numbers.slots.1
