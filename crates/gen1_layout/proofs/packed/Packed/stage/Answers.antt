use Rattle.std.proofs.Common.{refl}
use Rattle.gen1_layout.proofs.packed.Packed.stage.Goals as goal

pub returns-in-Attack : goal.returns-in-Attack
returns-in-Attack c =
    record { stands = λ g f h. rw (c.in-Attack.is, c.active.ensures.stands g f h) refl }

pub returns-in-Defense : goal.returns-in-Defense
returns-in-Defense c =
    record { stands = λ g f h. rw (c.in-Defense.is, c.active-in-Defense.ensures.stands g f h) refl }

pub returns-in-Speed : goal.returns-in-Speed
returns-in-Speed c =
    record { stands = λ g f h. rw (c.in-Speed.is, c.active-in-Speed.ensures.stands g f h) refl }

pub returns-in-Special : goal.returns-in-Special
returns-in-Special c =
    record { stands = λ g f h. rw (c.in-Special.is, c.active-in-Special.ensures.stands g f h) refl }

pub returns-in-Accuracy : goal.returns-in-Accuracy
returns-in-Accuracy c =
    record { stands = λ g f h. rw (c.in-Accuracy.is, c.active-in-Accuracy.ensures.stands g f h) refl }

pub returns-in-Evasion : goal.returns-in-Evasion
returns-in-Evasion c =
    record { stands = λ g f h. rw (c.in-Evasion.is, c.active-in-Evasion.ensures.stands g f h) refl }
