use Rattle.gen1_layout.proofs.Words.{goes, halted, quietly}
use Rattle.gen1_machine.specs.ManyHits.{missed_move}
use Rattle.gen1_multiturn.proofs.move_hits.hit_effects.missed_move.Goals as goal

pub returns-clause-shown : goal.returns-clause-shown
unfolding missed_move
returns-clause-shown t c g p h =
    let a = c.note_miss.ensures.shown g p h in
    let b = rw c.effect.ensures at (c.crash.ensures.shown g _ a) in
    let d = rw c.effect-2.ensures at (quietly b (c.explode_if.ensures.shown _ g _)) in
    goes _ _ a (goes _ _ b (goes _ _ d (halted d)))
