use Rattle.std.proofs.Common.{refl}
use Rattle.gen1_status.proofs.stages.put_stage.Goals as goal

pub returns-in-Attack : goal.returns-in-Attack
returns-in-Attack c = record { stands = rw c.in-Attack.is (λ g f change penalties h makes is ok. c.put_attack.ensures.stands g f change penalties h makes (is refl) ok) }

pub returns-in-Defense : goal.returns-in-Defense
returns-in-Defense c = record { stands = rw c.in-Defense.is (λ g f change penalties h makes is ok. c.put_defense.ensures.stands g f change h makes (is refl) ok) }

pub returns-in-Speed : goal.returns-in-Speed
returns-in-Speed c = record { stands = rw c.in-Speed.is (λ g f change penalties h makes is ok. c.put_speed.ensures.stands g f change penalties h makes (is refl) ok) }

pub returns-in-Special : goal.returns-in-Special
returns-in-Special c = record { stands = rw c.in-Special.is (λ g f change penalties h makes is ok. c.put_special.ensures.stands g f change h makes (is refl) ok) }

pub returns-in-Accuracy : goal.returns-in-Accuracy
returns-in-Accuracy c = record { stands = rw c.in-Accuracy.is (λ g f change penalties h makes is ok. c.put_accuracy.ensures.stands g f change h makes ok) }

pub returns-in-Evasion : goal.returns-in-Evasion
returns-in-Evasion c = record { stands = rw c.in-Evasion.is (λ g f change penalties h makes is ok. c.put_evasion.ensures.stands g f change h makes ok) }
