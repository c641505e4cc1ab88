use Rattle.std.proofs.Common.{arith, cond, ℕ, refl, ap, ◌∙◌, ◌-◌, ◌<◌, ◌≡◌}
use Rattle.gen1_outcomes.specs.Bytes.{has, alike_in}
use Rattle.gen1_outcomes.proofs.Sets.{counted, taken_rest, weighs}
use Rattle.gen1_outcomes.proofs.nodes.Node.take.Goals as goal

pub invariant_of-self : goal.invariant_of-self
invariant_of-self c =
    let old = c.args.self.now in
    let all = counted old.damage_classes old.look c.args.byte old.rest c.args.class.now c.without-self.result c.count-self.result c.count-self.ensures c.requires
    c.without-self.ensures in
    grind (arith, all)

pub returns : goal.returns
returns c =
    let old = c.args.self.now in
    let left : (x : ℕ) → x < 256 → has c.without-self.result x ≡ cond (alike_in old.damage_classes old.look c.args.byte x) 0 (has old.rest x) =
    λ x lt.
    c.without-self.ensures x lt ∙ ap (λ (n : ℕ). has old.rest x - n) (c.requires x lt) ∙ taken_rest (alike_in old.damage_classes old.look c.args.byte x) (has old.rest x)
    in
    let all = counted old.damage_classes old.look c.args.byte old.rest c.args.class.now c.without-self.result c.count-self.result c.count-self.ensures c.requires
    c.without-self.ensures in
    record {
      byte = refl;
      look = refl;
      classes = refl;
      above = refl;
      total = refl;
      rest = left;
      count = all;
      weight = weighs old.damage_classes old.look c.args.byte old.rest c.without-self.result c.count-self.result all left;
    }
