use Rattle.std.proofs.Common.{ap, arith, inl, inr, refl, subst, sym, ◌∙◌, ◌≡◌, ◌≤◌}
use Rattle.gen1_machine.specs.declared.side.Choice.{Choice}
use Rattle.gen1_machine.specs.declared.side.Side.{Side}
use Rattle.gen1_machine.specs.Layout.{number_of_bits}
use Rattle.gen1_machine.specs.State.{active_in, party}
use Rattle.gen1_layout.specs.Shows.{Within, setting_of}
use Rattle.gen1_layout.proofs.Storing.{within_of}
use Rattle.gen1_offers.specs.OfferedChoices.{KeepsOut, living_of}
use Rattle.gen1_offers.proofs.Benches.{comes-same, keeps-place, nobody-out, out_is, stays-same}
use Rattle.gen1_offers.proofs.bench.Bench.follow.Goals as goal

pub returns-in-Switch-clause-stands : goal.returns-in-Switch-clause-stands
returns-in-Switch-clause-stands c old s h bench follows = record {
  out = now ∙ sym (out_is (setting_of s) s.field side within);
  digits =
      c.digits_follow.ensures.digits (setting_of s) s.field within (living_of side old) refl bench.digits
      ∙ ap number_of_bits (comes-same side old s.field c.args.choice.now c.args.self.now.out c.digits_follow.new.self.out bench.out now low follows);
}
  where
    side : Side
    side = c.args.self.now.side

    some : 1 ≤ (party side s.field).active.place
    some = subst (λ (choice : Choice). KeepsOut choice (party side old) (party side s.field)) c.in-Switch.is follows.out

    within : Within (setting_of s) c.args.battle.now s.field
    within = elim h.valid.field [
      | inl u ↦ absurd (omega (arith, some, nobody-out side s.terms s.field u))
      | inr v ↦ within_of c.args.battle.now s h v.field
    ]

    now : c.digits_follow.new.self.out ≡ (active_in side s.field).place
    now = c.digits_follow.ensures.out (setting_of s) s.field within

    low : 1 ≤ c.digits_follow.new.self.out
    low = c.digits_follow.ensures.range.low

pub returns-in_default : goal.returns-in_default
returns-in_default c = record {
  side = refl;
  range = c.requires.range;
  stands = λ old s h bench follows.
      let side = c.args.self.now.side in
      let keeps = keeps-place c.args.choice.now (party side old) (party side s.field) c.in_default.not-Switch follows.out in
      record {
        out = bench.out ∙ sym keeps;
        digits =
            bench.digits
            ∙ ap number_of_bits (stays-same side old s.field c.args.choice.now c.args.self.now.out bench.out (bench.out ∙ sym keeps) follows);
      };
}
