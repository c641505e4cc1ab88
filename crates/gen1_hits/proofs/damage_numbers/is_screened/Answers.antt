use Rattle.std.proofs.Common.{refl}
use Rattle.gen1_hits.proofs.damage_numbers.is_screened.Goals as goal

pub returns-then-is_special : goal.returns-then-is_special
returns-then-is_special c =
    record { stands = λ g f h. rw (← c.is_special.ensures, c.if-is_special.true) (c.is_on.ensures.stands 14 refl g f h) }

pub returns-else-is_special : goal.returns-else-is_special
returns-else-is_special c =
    record { stands = λ g f h. rw (← c.is_special.ensures, c.if-is_special.false) (c.is_on-else-is_special.ensures.stands 15 refl g f h) }
