use Rattle.std.proofs.Common.{Ok, ap, sym, ◌∙◌}
use Rattle.gen1_machine.specs.declared.side.Side.{Side}
use Rattle.gen1_layout.specs.Shows.{setting_of}
use Rattle.gen1_offers.proofs.OfferedSet.{packs_of}
use Rattle.gen1_c.proofs.Updates.{kept_out, let_through}
use Rattle.gen1_c.proofs.OddsDue.{same_side, use_no_move, use_none_out, use_value}
use Rattle.gen1_c.proofs.odds.use_of.Goals as goal

pub returns-in_default-new-clause-due : goal.returns-in_default-new-clause-due
returns-in_default-new-clause-due c s which h e =
    sym (use_no_move which c.args.number s.field (kept_out _ c.args.number (λ is. c.in_default-new.not-Some c.args.number (c.new.ensures ∙ is))))

pub returns-then-turn-eq0-clause-due : goal.returns-then-turn-eq0-clause-due
returns-then-turn-eq0-clause-due c s which h e =
    let id = let_through _ _ _ (sym c.new.ensures ∙ c.in-Some-new.is) in
    let turn = sym (c.turn.ensures.packs (setting_of s) s.field (packs_of h)) ∙ c.if-turn-eq0.true in
    sym (use_none_out which c.args.number s.field id.0 turn)

pub returns-clause-due : goal.returns-clause-due
returns-clause-due c s which h e =
    let id = let_through _ _ _ (sym c.new.ensures ∙ c.in-Some-new.is) in
    let turn = c.turn.ensures.packs (setting_of s) s.field (packs_of h) in
    let side = same_side c.in-Some.side which (c.in-Some.ensures.exact ∙ e) in
    ap (λ (it : Side). Ok (it, c.in-Some-new.id)) side ∙ ap (λ n. Ok (which, n)) id.1
    ∙ sym (use_value which c.args.number s.field id.0 (λ z. c.if-turn-eq0.false (turn ∙ z)))
