use Rattle.std.proofs.Common.{refl}
use Rattle.gen1_hits.proofs.damage_numbers.own_numbers.Goals as goal

pub returns : goal.returns
returns c =
    record {
      stands = λ g f h.
          rw (
            c.level.ensures.stands g f h,
            c.types.ensures.stands g f h,
            c.types-2.ensures.stands g f h,
            c.fitted_attack.ensures,
            c.fitted_defense.ensures,
            c.from-attack.ensures,
            c.current_stat.ensures.stands g f h refl,
            c.doubled_if-defense.ensures,
            c.is_on-screened.ensures.stands 15 refl g f h,
            c.other-foe.ensures,
            c.current_stat-2.ensures.stands g f h refl,
          )
          refl;
    }
