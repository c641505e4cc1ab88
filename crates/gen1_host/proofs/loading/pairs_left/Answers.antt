use Rattle.std.proofs.Common.{ap, arith, sym, ◌-◌, ◌≡◌, ◌∙◌}
use Rattle.gen1_machine.specs.State.{is_over}
use Rattle.gen1_engine.specs.declared.result.BattleResult.{BattleResult}
use Rattle.gen1_layout.specs.Shows.{setting_of}
use Rattle.gen1_offers.proofs.OfferedSet.{packs_of}
use Rattle.gen1_room.specs.Rooms.{is_replaced}
use Rattle.std.specs.Prelude.{if◌then◌else◌}
use Rattle.gen1_host.proofs.LoadedHosts.{pairs_are}
use Rattle.gen1_host.proofs.loading.pairs_left.Goals as goal

pub returns-clause-value : goal.returns-clause-value
returns-clause-value c s h =
    let is = c.result-now.ensures s h in
    let limit = c.limit.ensures.packs (setting_of s) s.field (packs_of h) in
    let turn = c.turn.ensures.packs (setting_of s) s.field (packs_of h) in
    let turns : c.from-turns.result ≡ s.terms.limit - s.field.turn = omega (arith, c.from-turns.ensures, c.saturating_sub.ensures, limit, turn) in
    pairs_are s c.in_this_turn.result c.from-turns.result c.from.result c.from-2.result
    (sym (c.is_over.ensures ∙ ap (λ (r : BattleResult). is_over r.outcome) is) ∙ c.if-is_over.false)
    (c.in_this_turn.ensures.value ∙ ap (λ (r : BattleResult). if is_replaced r.request_one r.request_two then 0 else 1) is)
    turns (c.from.ensures ∙ c.on_bench.ensures s h) (c.from-2.ensures ∙ c.on_bench-2.ensures s h)
