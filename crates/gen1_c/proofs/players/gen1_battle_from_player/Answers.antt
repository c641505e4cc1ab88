use Rattle.std.proofs.Common.{Err, Ok, Result, refl, subst, true, ℕ, ◌≡◌}
use Rattle.std.specs.Prelude.{IfErr, IfOk, ◌↔◌}
use Rattle.gen1_layout.specs.LoadingLaws.{IsBattle}
use Rattle.gen1_layout.specs.Parts.{Parts, parts_of}
use Rattle.gen1_guesses.specs.Forks.{guessed_state}
use Rattle.gen1_guesses.specs.declared.guess.GuessFault.{GuessFault}
use Rattle.gen1_guesses.specs.declared.guess.Guess.{Guess}
use Rattle.gen1_states.specs.Plain.{bytes_of}
use Rattle.gen1_states.specs.Tests.{completed}
use Rattle.gen1_states.specs.declared.plain.BattleState.{BattleState}
use Rattle.gen1_c.specs.Players.{code_of, fault_form_of}
use Rattle.gen1_c.specs.declared.players.GuessFaultForm.{GuessFaultForm}
use Rattle.gen1_c.proofs.players.gen1_battle_from_player.Goals as goal

-- A battle was made, so the guess fits.
unfit : (state : Result BattleState GuessFault) (made : Parts) (form : GuessFaultForm)
    → IfErr state (λ why. ◌≡◌ {A = Result Parts GuessFault} (Ok made) (Err why)) → IfErr state (λ why. (0 ≡ code_of why) × (form ≡ fault_form_of why))
unfit (Ok state) made form h = tt
unfit (Err why) made form h = absurd (let e = h in cc)

accepted : (state : Result BattleState GuessFault) → IfOk state (λ b. (true ≡ true) ↔ IsBattle (bytes_of (completed b)))
    → IfOk state (λ b. (◌≡◌ {A = ℕ} 0 0) ↔ IsBattle (bytes_of (completed b)))
accepted (Ok state) h = (λ _. h.0 refl, λ _. refl)
accepted (Err why) h = tt

pub returns-in-Ok-from_player-clause-unfit : goal.returns-in-Ok-from_player-clause-unfit
returns-in-Ok-from_player-clause-unfit c none =
    subst (λ (g : Guess). IfErr (guessed_state c.args.player.now g) (λ why. (0 ≡ code_of why) × (c.args.fault.now ≡ fault_form_of why)))
    c.in-Ok.ensures.made.0 (unfit _ c.in-Ok-from_player.made _ c.in-Ok-from_player.ensures.unfit)

pub returns-in-Ok-from_player-clause-accepts : goal.returns-in-Ok-from_player-clause-accepts
returns-in-Ok-from_player-clause-accepts c none =
    subst (λ (g : Guess). IfOk (guessed_state c.args.player.now g) (λ b. (◌≡◌ {A = ℕ} 0 0) ↔ IsBattle (bytes_of (completed b))))
    c.in-Ok.ensures.made.0 (accepted _ c.in-Ok-from_player.ensures.accepts)

pub returns-in-Ok-from_player-clause-made : goal.returns-in-Ok-from_player-clause-made
returns-in-Ok-from_player-clause-made c none =
    subst (λ (g : Guess). IfOk (guessed_state c.args.player.now g) (λ b. c.in-Ok-from_player.made ≡ parts_of (bytes_of (completed b))))
    c.in-Ok.ensures.made.0 c.in-Ok-from_player.ensures.made
