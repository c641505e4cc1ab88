use Rattle.std.proofs.Common.{◌+◌}
use Rattle.gen1_layout.proofs.Words.{Action, drawn_acted, drawn_goes, drawn_if_not, drawn_quietly, drawn_stays}
use Rattle.gen1_machine.specs.Sides.{other}
use Rattle.gen1_machine.specs.Landing.{land}
use Rattle.gen1_machine.specs.ManyHits.{count_hit, hit_once}
use Rattle.gen1_machine.specs.Moves.{move_at}
use Rattle.gen1_hits.proofs.Knowledge.{does_still, plain_still}
use Rattle.gen1_multiturn.proofs.MoveHits.{plain-hit}
use Rattle.gen1_multiturn.proofs.move_hits.hit_of_many.Goals as goal

pub returns-clause-shown : goal.returns-clause-shown
unfolding hit_once count_hit
returns-clause-shown t c since g p h =
    let a = does_still g (land (other c.args.side)) c.land_hit.ensures.shown h in
    let b = drawn_if_not _ _ _ (plain-hit (move_at c.args.id).effect c.requires.many) (drawn_stays a) in
    let d = drawn_acted (λ (x : Action). record x { hits_made = x.hits_made + 1 }) b in
    let e = drawn_quietly d (c.plan_unless_broken.ensures.shown _ _ since g _) in
    drawn_goes _ _ a (drawn_goes _ _ b (drawn_goes _ _ d (drawn_goes _ _ e (plain_still c.plan_unless_broken.new.known g _ c.rage.ensures.shown e))))
