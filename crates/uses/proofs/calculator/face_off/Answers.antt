use Rattle.std.proofs.Common.{arith, inl, inr, refl, ◌≡◌}
use Rattle.gen1_machine.specs.declared.terms.Outcome.TheVariants.{Ongoing}
use Rattle.gen1_machine.specs.State.{State}
use Rattle.gen1_machine.specs.Valid.{IsState}
use Rattle.gen1_switching.specs.SwitchingIn.{Starts}
use Rattle.uses.proofs.calculator.face_off.Goals as goal

-- at turn 0 nothing has happened
begins : (s : State) → s.field.turn ≡ 0 → s.field.outcome ≡ Ongoing → IsState s → Starts s
begins s turn going valid =
    record { goes_on = going; unstarted = elim valid.field [ inl unstarted ↦ unstarted | inr started ↦ absurd (omega (arith, turn, started.turn)) ] }

pub returns : goal.returns
returns c =
    let stands = rw (c.in_ok-one.ensures.made, c.in_ok-two.ensures.made) at c.new-battle.ensures in
    (c.start.ensures.stepped _ stands (begins _ refl refl stands.valid)).stands
