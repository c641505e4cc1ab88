use Rattle.std.proofs.Common.{Ok, ap, length, sym, ◌∙◌}
use Rattle.gen1_machine.specs.declared.side.Side.{Side}
use Rattle.gen1_player.specs.Public.{public_side}
use Rattle.gen1_guesses.specs.Forks.{fresh_members}
use Rattle.gen1_guesses.proofs.ForkedStates.{made}
use Rattle.gen1_guesses.proofs.forks.guessed_for.Goals as goal

pub returns-in-Ok : goal.returns-in-Ok
returns-in-Ok c =
    ap Ok c.forked.ensures
    ∙ made _ _ _ _ _ _ _ (c.side-foe.ensures ∙ ap (λ (s : Side). public_side s c.args.player.now.public) c.other.ensures)
    (ap length c.members-members.ensures.value) (c.fresh_members-fresh.ensures ∙ ap fresh_members c.members-members.ensures.value)
    (sym c.in-Ok.is ∙ c.test.ensures)

pub returns-in-Err : goal.returns-in-Err
returns-in-Err c =
    made _ _ _ _ _ _ _ (c.side-foe.ensures ∙ ap (λ (s : Side). public_side s c.args.player.now.public) c.other.ensures)
    (ap length c.members-members.ensures.value) (c.fresh_members-fresh.ensures ∙ ap fresh_members c.members-members.ensures.value)
    (sym c.in-Err.is ∙ c.test.ensures)
