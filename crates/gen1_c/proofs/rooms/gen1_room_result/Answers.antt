use Rattle.std.proofs.Common.{ap, refl, sym, ◌∙◌}
use Rattle.gen1_engine.specs.declared.result.BattleResult.{BattleResult}
use Rattle.gen1_c.proofs.Replies.{fault_low}
use Rattle.gen1_c.proofs.rooms.gen1_room_result.Goals as goal

pub returns-clause-keeps : goal.returns-clause-keeps
returns-clause-keeps c course k =
    let is = c.result-now.ensures.keeps course k in
    let outcome = ap (λ (r : BattleResult). r.outcome) is in
    rw (
      c.byte_of_outcome.ensures.value (λ code e. fault_low course.state k.holds.stands.valid code (sym outcome ∙ e)),
      c.byte_of_request-one.ensures.value,
      c.byte_of_request-two.ensures.value,
      outcome,
      ap (λ (r : BattleResult). r.request_one) is,
      ap (λ (r : BattleResult). r.request_two) is,
    ) refl
