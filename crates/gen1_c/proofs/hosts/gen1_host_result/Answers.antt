use Rattle.std.proofs.Common.{ap, refl, sym, ◌∙◌}
use Rattle.gen1_engine.specs.declared.result.BattleResult.{BattleResult}
use Rattle.gen1_c.proofs.Replies.{low_at}
use Rattle.gen1_c.proofs.hosts.gen1_host_result.Goals as goal

pub returns-clause-shows : goal.returns-clause-shows
returns-clause-shows c t h =
    let is = c.result-now.ensures t h in
    let outcome = ap (λ (r : BattleResult). r.outcome) is in
    rw (
      c.byte_of_outcome.ensures.value (λ code e. low_at t h.keeps.holds.stands.valid code (sym outcome ∙ e)),
      c.byte_of_request-one.ensures.value,
      c.byte_of_request-two.ensures.value,
      outcome,
      ap (λ (r : BattleResult). r.request_one) is,
      ap (λ (r : BattleResult). r.request_two) is,
    ) refl
