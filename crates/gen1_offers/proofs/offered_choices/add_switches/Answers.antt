use Rattle.std.proofs.Common.{List, ap, arith, length, ℕ, ◌++◌, ◌-◌, ◌≡◌, ◌∙◌}
use Rattle.gen1_machine.specs.declared.side.Choice.{Choice}
use Rattle.gen1_machine.specs.declared.side.Choice.TheVariants as choices
use Rattle.gen1_machine.specs.State.{party}
use Rattle.gen1_machine.specs.OfferedChoices.{others_living_from}
use Rattle.gen1_layout.proofs.Steps.{party_in}
use Rattle.gen1_offers.proofs.OfferedSet.{collect, collected_more, comes_out, one_passed_over, places_living}
use Rattle.gen1_offers.proofs.offered_choices.add_switches.Goals as goal

pub loop-place-preserved : goal.loop-place-preserved
loop-place-preserved c =
    let i = c.loop-place.invariant in
    let counts = one_passed_over c.may_come_out.result c.switch_to.result c.loop-place.choices.items c.add_if.new.choices.items c.loop-place.place
    c.place-out.result (length c.args.choices.now.items) c.add_if.ensures.items c.may_come_out.ensures.apart (omega arith) i.0 i.1 in (
      counts.0,
      counts.1,
      i.2,
      i.3,
      λ g f h.
          collected_more (comes_out c.args.side f c.place-out.result) choices.Switch c.loop-place.place c.args.choices.now.items c.loop-place.choices.items
          c.add_if.new.choices.items c.may_come_out.result c.switch_to.result (omega arith) (i.4 g f h) c.add_if.ensures.items
          (c.may_come_out.ensures.stands g f h) c.switch_to.ensures.value,
    )

pub returns : goal.returns
returns c g f h =
    let last : c.loop-place.place - 1 ≡ 6 = omega arith in
    let out = c.place-out.result in
    let start = c.args.choices.now.items in
    c.loop-place.invariant.4 g f h
    ∙ ap (λ (n : ℕ). start ++ collect (comes_out c.args.side f out) choices.Switch 1 n) last
    ∙ ap (λ (l : List Choice). start ++ l) (places_living c.args.side f out (party_in g f c.args.side h.storable).members.size.1)
    ∙ ap (λ (n : ℕ). start ++ others_living_from 1 n (party c.args.side f).members) (c.place-out.ensures.stands g f h)
