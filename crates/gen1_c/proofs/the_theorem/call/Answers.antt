use Rattle.std.proofs.Common.{ap, arith, length, refl, subst, sym, ◌∙◌, ◌≡◌, ◌≤◌}
use Rattle.gen1_machine.specs.declared.side.Side.TheVariants.{One, Two}
use Rattle.gen1_machine.specs.State.{State}
use Rattle.gen1_layout.specs.Parts.{Parts}
use Rattle.gen1_layout.specs.Shows.{Stands}
use Rattle.gen1_c.specs.TheTheorem.{stepped}
use Rattle.gen1_c.proofs.TheTheorem.{by_answer, called_logged, called_same, goes}
use Rattle.gen1_c.proofs.the_theorem.call.Goals as goal

-- the battle before the update is the one before it was loaded
still : (s : State) (old loaded : Parts) → Stands old s → loaded ≡ old → Stands loaded s
still s old loaded h is = subst (λ (p : Parts). Stands p s) (sym is) h

pub returns-clause-called : goal.returns-clause-called
returns-clause-called c s h =
    let u = c.args.update.now in
    let t = stepped s u in
    let stored = c.copy_from_slice.ensures.after ∙ c.as_bytes.ensures.stands s h.same in
    let loaded = c.load-update.ensures s h stored (ap length c.copy_from_slice.ensures.after ∙ c.as_bytes.ensures.len) in
    let k = still s c.args.battle.now c.load-update.new.battle h loaded.1 in
    let long : 512 ≤ length u.log = omega arith in
    let wrote = by_answer t.answer t.state c.load-update.new.battle c.gen1_update-update.new.battle u.log c.gen1_update-update.new.log c.gen1_update-update.new.written c.gen1_update-update.result
    (c.gen1_update-update.ensures.updates long s k) in
    called_same s u c.copy_from_slice.new.self c.gen1_choices-update.new.choices c.gen1_choices-update-2.new.choices c.gen1_update-update.new.log c.gen1_result-update.result
    c.gen1_choices-update.result c.gen1_choices-update-2.result c.load-update.result c.gen1_update-update.result c.gen1_update-update.new.written
    stored (c.gen1_result-update.ensures.stands s h) (c.gen1_choices-update.ensures.offers s One h refl) (c.gen1_choices-update-2.ensures.offers s Two h refl) loaded.0 wrote

pub returns-clause-logged : goal.returns-clause-logged
returns-clause-logged c s h =
    let u = c.args.update.now in
    let t = stepped s u in
    let stored = c.copy_from_slice.ensures.after ∙ c.as_bytes.ensures.stands s h.same in
    let loaded = c.load-update.ensures s h stored (ap length c.copy_from_slice.ensures.after ∙ c.as_bytes.ensures.len) in
    let k = still s c.args.battle.now c.load-update.new.battle h loaded.1 in
    let long : 512 ≤ length u.log = omega arith in
    let wrote = by_answer t.answer t.state c.load-update.new.battle c.gen1_update-update.new.battle u.log c.gen1_update-update.new.log c.gen1_update-update.new.written c.gen1_update-update.result
    (c.gen1_update-update.ensures.updates long s k) in
    called_logged s u c.gen1_update-update.new.log c.gen1_update-update.new.written c.gen1_update-update.result wrote

pub returns-clause-goes : goal.returns-clause-goes
returns-clause-goes c s h =
    let u = c.args.update.now in
    let stored = c.copy_from_slice.ensures.after ∙ c.as_bytes.ensures.stands s h.same in
    let loaded = c.load-update.ensures s h stored (ap length c.copy_from_slice.ensures.after ∙ c.as_bytes.ensures.len) in
    let long : 512 ≤ length u.log = omega arith in
    goes s u c.load-update.new.battle c.gen1_update-update.new.battle u.log c.gen1_update-update.new.log 0 c.gen1_update-update.new.written c.gen1_update-update.result
    (still s c.args.battle.now c.load-update.new.battle h loaded.1)
    (c.gen1_update-update.ensures.updates long s (still s c.args.battle.now c.load-update.new.battle h loaded.1))
