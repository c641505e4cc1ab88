use Rattle.std.proofs.Common.{List, Ok, ap, rules, subst, sym, true, ℕ, ◌≡◌, ◌∙◌}
use Rattle.gen1_layout.specs.Loading.{PassesTest, version_three}
use Rattle.gen1_layout.specs.LoadingLaws.{IsBattle}
use Rattle.gen1_layout.specs.Parts.{parts_of}
use Rattle.gen1_states.specs.Laws.{IsPlain}
use Rattle.gen1_states.specs.Plain.{bytes_of}
use Rattle.gen1_states.specs.Tests.{completed, tested}
use Rattle.gen1_states.proofs.PassingStates.{bytes_pass, fault_named}
use Rattle.gen1_states.proofs.ThereAndBack.{in_version_three}
use Rattle.gen1_states.specs.declared.plain.BattleState.{BattleState}
use Rattle.gen1_states.proofs.writing.from_state.Goals as goal

pub returns-in-Ok-clause-accepts : goal.returns-in-Ok-clause-accepts
returns-in-Ok-clause-accepts c =
    let same = c.as_slice.ensures.value ∙ c.bytes_of.ensures.value ∙ ap bytes_of c.completed-whole.ensures in
    subst (λ (bytes : List ℕ). (true ≡ true → IsBattle bytes) × (IsBattle bytes → true ≡ true)) same c.in-Ok.ensures.battle

pub returns-in-Ok-clause-value : goal.returns-in-Ok-clause-value
returns-in-Ok-clause-value c =
    let same = c.as_slice.ensures.value ∙ c.bytes_of.ensures.value ∙ ap bytes_of c.completed-whole.ensures in
    c.in-Ok.ensures.tests.1 ∙ ap parts_of (ap version_three same ∙ in_version_three (completed c.args.state.now))

-- A state that passes all tests is not refused.
pub unreachable-requires : goal.unreachable-requires
unreachable-requires c =
    let w : BattleState = c.completed-whole.result in
    let plain : IsPlain w = record {
      sides = search rules;
      one = c.bytes_of.ensures.one;
      two = c.bytes_of.ensures.two;
      requests = search rules;
      numbers = search rules;
      turn = search rules;
      limit = search rules;
      last_damage = search rules;
    } in
    let same = c.as_slice.ensures.value ∙ c.bytes_of.ensures.value in
    let all : tested w ≡ Ok tt = sym c.test_state.ensures ∙ c.in-Ok-test_state.is in
    c.in-Err.ensures.tests.1 (subst (PassesTest c.in-Err.field-0) (sym same) (bytes_pass w plain all c.in-Err.field-0))

pub returns-in-Err-test_state-clause-named : goal.returns-in-Err-test_state-clause-named
returns-in-Err-test_state-clause-named c = fault_named c.completed-whole.result _ (sym c.test_state.ensures ∙ c.in-Err-test_state.is)
