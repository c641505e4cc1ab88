use Rattle.std.proofs.Common.{refl}
use Rattle.gen1_hits.proofs.damage_numbers.numbers.Goals as goal
use Rattle.gen1_hits.proofs.damage_numbers.numbers.Goals.{then-critical, else-critical}

pub returns : goal.returns
returns c =
    record {
      stands = λ g f h.
          rw (
            c.level.ensures.stands g f h,
            c.types.ensures.stands g f h,
            c.types-2.ensures.stands g f h,
            c.other-foe.ensures,
            c.power.ensures,
            c.explodes.ensures,
            c.effect.ensures,
            c.fitted_attack.ensures,
            c.fitted_defense.ensures,
          )
          (elim c.if-critical.branch [
            | then-critical w ↦ rw (w.attack-is, w.own_stats.ensures.attack g f h, w.own_stats.ensures.defense g f h, c.kind-kind.ensures, w.if-critical.true) refl
            | else-critical w ↦ rw (w.attack-is, w.current_stats.ensures.attack g f h, w.current_stats.ensures.defense g f h, c.kind-kind.ensures, w.if-critical.false) refl
          ]);
    }
