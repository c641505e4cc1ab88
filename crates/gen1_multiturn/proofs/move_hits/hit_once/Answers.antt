use Rattle.std.proofs.Common.{◌+◌}
use Rattle.gen1_layout.proofs.Words.{Action, acted, goes}
use Rattle.gen1_machine.specs.ManyHits.{count_hit, hit_once}
use Rattle.gen1_multiturn.proofs.move_hits.hit_once.Goals as goal

pub returns-clause-shown : goal.returns-clause-shown
unfolding hit_once count_hit
returns-clause-shown t c g p h =
    let a = c.land_hit.ensures.shown g p h in
    let b = rw c.effect.ensures at (c.note_knock_out.ensures.shown _ _ _ a) in
    let d = acted (λ (x : Action). record x { hits_made = x.hits_made + 1 }) b in
    let e = c.effect_unless_broken.ensures.shown g _ d in
    goes _ _ a (goes _ _ b (goes _ _ d (goes _ _ e (c.rage.ensures.shown _ _ e))))
