use Rattle.std.proofs.Common.{Result, subst, sym, true, ◌∙◌, ◌≡◌}
use Rattle.std.specs.Prelude.{IfOk, ◌↔◌}
use Rattle.gen1_layout.specs.LoadingLaws.{IsBattle}
use Rattle.gen1_layout.specs.Parts.{parts_of}
use Rattle.gen1_states.specs.Plain.{bytes_of}
use Rattle.gen1_states.specs.Tests.{completed}
use Rattle.gen1_states.specs.declared.plain.BattleState.{BattleState}
use Rattle.gen1_guesses.specs.declared.guess.GuessFault.{GuessFault}
use Rattle.gen1_guesses.proofs.forks.from_player.Goals as goal

pub returns-in-Ok-clause-made : goal.returns-in-Ok-clause-made
returns-in-Ok-clause-made c =
    subst (λ (r : Result BattleState GuessFault). IfOk r (λ state. c.in-Ok.battle ≡ parts_of (bytes_of (completed state))))
    (sym c.in_ok-state.was ∙ c.guessed_state.ensures) c.in-Ok.ensures.value

pub returns-in-Ok-clause-accepts : goal.returns-in-Ok-clause-accepts
returns-in-Ok-clause-accepts c =
    subst (λ (r : Result BattleState GuessFault). IfOk r (λ state. (true ≡ true) ↔ IsBattle (bytes_of (completed state))))
    (sym c.in_ok-state.was ∙ c.guessed_state.ensures) c.in-Ok.ensures.accepts
