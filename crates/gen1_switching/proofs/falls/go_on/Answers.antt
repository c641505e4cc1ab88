use Rattle.std.proofs.Common.{not, sym, ◌∙◌}
use Rattle.gen1_layout.proofs.Steps.{party_in}
use Rattle.gen1_layout.proofs.Words.{ap, choose-false, false, if_not, if_so, passing, past, stay, stops, true}
use Rattle.gen1_machine.specs.declared.side.Side.TheVariants.{One, Two}
use Rattle.gen1_machine.specs.Falls.{end_if_decided, settle}
use Rattle.gen1_switching.proofs.Closed.{lives_out, neither_fell, neither_lost, passed, turn_left}
use Rattle.gen1_switching.proofs.falls.go_on.Goals as goal

pub returns-then-is_last_turn-clause-shown : goal.returns-then-is_last_turn-clause-shown
unfolding end_if_decided settle
returns-then-is_last_turn-clause-shown t c g p one two h =
    let w = h.within.storable in
    let first = lives_out One p.field (party_in g.setting p.field One w).place one in
    let second = lives_out Two p.field (party_in g.setting p.field Two w).place two in
    let late = sym (c.is_last_turn.ensures.stands _ _ h.within) ∙ c.if-is_last_turn.true in (
      true,
      stops _ _ (past _ _ _ (neither_lost _ _ first) h
          (past _ _ _ (ap not first) h
          (past _ _ _ (ap not second) h
          (if_so _ _ _ late (c.battle_ends.ensures.shown tt g p h))))),
    )

pub returns-else-is_last_turn-clause-shown : goal.returns-else-is_last_turn-clause-shown
unfolding end_if_decided settle stay
returns-else-is_last_turn-clause-shown t c g p one two h =
    let w = h.within.storable in
    let first = lives_out One p.field (party_in g.setting p.field One w).place one in
    let second = lives_out Two p.field (party_in g.setting p.field Two w).place two in
    let left = sym (c.is_last_turn.ensures.stands _ _ h.within) ∙ c.if-is_last_turn.false in
    let same = passed _ _ _ p (neither_lost _ _ first) h.ends
    ∙ passed _ _ _ p (ap not first) h.ends
    ∙ passed _ _ _ p (ap not second) h.ends
    ∙ choose-false _ _ _ p left in
    (false, passing _ _ same h (if_not _ _ _ (neither_fell _ _ one two) (c.ask_for_moves.ensures.shown g p (turn_left _ _ left) h)))
