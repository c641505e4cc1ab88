use Rattle.std.proofs.Common.{◌∷◌}
use Rattle.gen1_layout.proofs.Words.{[], false, Phase, ◌∙◌}
use Rattle.gen1_machine.specs.declared.side.Side.TheVariants.{Two}
use Rattle.gen1_machine.specs.Ruling.{ruling_of}
use Rattle.gen1_machine.specs.Turn.{do_part, do_parts, end_turn, Sends, Suffers}
use Rattle.gen1_turn.proofs.Living.{second-comes}
use Rattle.gen1_turn.proofs.Trapping.{end-none, sends-free}
use Rattle.gen1_turn.proofs.Turns.{cut_short, ended_uncut, stops_as}
use Rattle.gen1_turn.proofs.turn_update.choices.both_switch.Goals as goal

pub returns-then-sends_and_suffers-clause-shown : goal.returns-then-sends_and_suffers-clause-shown
unfolding do_parts do_part
returns-then-sends_and_suffers-clause-shown t c broke g p x y whole h =
    let r = ruling_of g.setting.terms in
    (rw c.if-sends_and_suffers.true at (c.sends_and_suffers.ensures.shown g p broke r x whole h)) (do_parts r (Sends Two c.args.two ∷ Suffers Two ∷ []))

pub returns-then-sends_and_suffers-2-clause-shown : goal.returns-then-sends_and_suffers-2-clause-shown
unfolding do_parts do_part
returns-then-sends_and_suffers-2-clause-shown t c broke g p x y whole h =
    let r = ruling_of g.setting.terms in
    let rest : Phase = do_parts r (Sends Two c.args.two ∷ Suffers Two ∷ []) in
    let a = rw c.if-sends_and_suffers.false at (c.sends_and_suffers.ensures.shown g p broke r x whole h) in
    let may = second-comes g.setting.terms c.args.one c.args.two p y a.1 in
    let b = rw c.if-sends_and_suffers-2.true at (c.sends_and_suffers-2.ensures.shown g _ c.sends_and_suffers.new.known.broke r may a.1 a.0) in
    stops_as _ _ (a.2 rest) (b end_turn)

pub returns-clause-shown : goal.returns-clause-shown
unfolding do_parts do_part
returns-clause-shown t c broke g p x y whole h =
    let r = ruling_of g.setting.terms in
    let rest : Phase = do_parts r (Sends Two c.args.two ∷ Suffers Two ∷ []) in
    let a = rw c.if-sends_and_suffers.false at (c.sends_and_suffers.ensures.shown g p broke r x whole h) in
    let may = second-comes g.setting.terms c.args.one c.args.two p y a.1 in
    let b = rw c.if-sends_and_suffers-2.false at (c.sends_and_suffers-2.ensures.shown g _ c.sends_and_suffers.new.known.broke r may a.1 a.0) in
    stops_as _ _ (a.2 rest ∙ b.2 end_turn ∙ end-none _ b.0.ends (sends-free r Two c.args.two _ a.0.ends)) (false, b.0)

pub returns-then-sends_and_suffers-clause-uncut : goal.returns-then-sends_and_suffers-clause-uncut
returns-then-sends_and_suffers-clause-uncut t c broke g p e = cut_short e

pub returns-then-sends_and_suffers-2-clause-uncut : goal.returns-then-sends_and_suffers-2-clause-uncut
returns-then-sends_and_suffers-2-clause-uncut t c broke g p e = cut_short e

pub returns-clause-uncut : goal.returns-clause-uncut
unfolding do_parts do_part
returns-clause-uncut t c broke g p e x y whole h =
    let r = ruling_of g.setting.terms in
    let rest : Phase = do_parts r (Sends Two c.args.two ∷ Suffers Two ∷ []) in
    let a = rw c.if-sends_and_suffers.false at (c.sends_and_suffers.ensures.shown g p broke r x whole h) in
    let may = second-comes g.setting.terms c.args.one c.args.two p y a.1 in
    let b = rw c.if-sends_and_suffers-2.false at (c.sends_and_suffers-2.ensures.shown g _ c.sends_and_suffers.new.known.broke r may a.1 a.0) in
    ended_uncut _ _ (a.2 rest ∙ b.2 end_turn) b.0.ends b.1
