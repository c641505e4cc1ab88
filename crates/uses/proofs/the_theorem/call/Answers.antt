use Rattle.std.proofs.Common.{ap, length, subst, sym, ◌∙◌, ◌≡◌}
use Rattle.gen1_machine.specs.Step.{step}
use Rattle.gen1_layout.specs.Parts.{Parts}
use Rattle.gen1_layout.specs.Shows.{Stands}
use Rattle.gen1_machine.specs.State.{State}
use Rattle.uses.proofs.TheTheorem.{by_answer, called_same, goes}
use Rattle.uses.proofs.the_theorem.call.Goals as goal

-- the battle before the update is the one before it was loaded
still : (s : State) (old loaded : Parts) → Stands old s → loaded ≡ old → Stands loaded s
still s old loaded h is = subst (λ (p : Parts). Stands p s) (sym is) h

pub load-requires-clause-full : goal.load-requires-clause-full
load-requires-clause-full c = ap length c.copy_from_slice.ensures.after ∙ c.bytes.ensures.len

pub load-requires-clause-stored : goal.load-requires-clause-stored
load-requires-clause-stored c =
    let some = c.result-now.ensures.valid in
    (some.state, some.stands, c.copy_from_slice.ensures.after ∙ c.bytes.ensures.stands some.state some.stands)

pub returns-clause-called : goal.returns-clause-called
returns-clause-called c s h =
    let u = c.args.update.now in
    let t = step s u.one u.two in
    let k = still s c.args.battle.now c.load.new.battle h c.load.ensures in
    let a = by_answer t.answer t.state c.load.new.battle c.update-returned.new.self c.update-returned.result c.clear.new.self c.update-returned.new.log c.clear.ensures
    (c.update-returned.ensures.answers s k) (c.update-returned.ensures.logs s k) in
    called_same s u c.copy_from_slice.new.self c.result-now.result c.choices-one.result c.choices-two.result c.update-returned.result c.update-returned.new.log
    (c.copy_from_slice.ensures.after ∙ c.bytes.ensures.stands s h) (c.result-now.ensures.stands s h) (c.choices-one.ensures s h) (c.choices-two.ensures s h) a.0 a.1.codes

pub returns-clause-logged : goal.returns-clause-logged
returns-clause-logged c s h =
    let u = c.args.update.now in
    let t = step s u.one u.two in
    let k = still s c.args.battle.now c.load.new.battle h c.load.ensures in
    (by_answer t.answer t.state c.load.new.battle c.update-returned.new.self c.update-returned.result c.clear.new.self c.update-returned.new.log c.clear.ensures
    (c.update-returned.ensures.answers s k) (c.update-returned.ensures.logs s k)).1

pub returns-clause-goes : goal.returns-clause-goes
returns-clause-goes c s h =
    let u = c.args.update.now in
    goes s c.load.new.battle c.update-returned.new.self (u.one, u.two) c.update-returned.result (still s c.args.battle.now c.load.new.battle h c.load.ensures) c.update-returned.ensures.answers
