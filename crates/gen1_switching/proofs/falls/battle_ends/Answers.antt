use Rattle.gen1_layout.proofs.Words.{goes, halted, noted, put, quietly, refl}
use Rattle.gen1_machine.specs.State.{with_outcome}
use Rattle.gen1_machine.specs.Falls.{battle_ends}
use Rattle.gen1_switching.proofs.falls.battle_ends.Goals as goal

pub returns-clause-shown : goal.returns-clause-shown
unfolding battle_ends
returns-clause-shown t c range g p h =
    let a = put h (with_outcome c.args.outcome) (c.put_outcome.ensures.stands _ _ h.within range) in
    let b = quietly a (c.ask_nothing.ensures.shown _ g _) in
    let d = noted b (λ f. c.args.event) c.push.ensures.told refl in
    goes _ _ a (goes _ _ b (goes _ _ d (halted d)))
