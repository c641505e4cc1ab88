use Rattle.std.proofs.Common.{◌≡◌}
use Rattle.gen1_layout.proofs.Words.{ap, quietly, stays, sym, ◌∙◌}
use Rattle.gen1_machine.specs.Moves.{move_at}
use Rattle.gen1_multiturn.specs.declared.move_hits.hit_effects.Consequence.TheVariants as consequences
use Rattle.gen1_multiturn.specs.MoveHits.{consequence_of}
use Rattle.gen1_multiturn.proofs.MoveHits.{hit_effect-by}
use Rattle.gen1_multiturn.proofs.move_hits.hit_effects.hit_effect.Goals as goal

pub returns-in-Recoil-clause-shown : goal.returns-in-Recoil-clause-shown
returns-in-Recoil-clause-shown t c g p h =
    let is : consequence_of (move_at c.args.id).effect ≡ consequences.Recoil = sym (c.consequence_of.ensures ∙ ap consequence_of c.effect.ensures) ∙ c.in-Recoil.is in
    rw (hit_effect-by c.args.side (move_at c.args.id) (move_at c.args.id).effect consequences.Recoil c.requires.one is) (c.recoil.ensures.shown g p h)

pub returns-in-Drain-clause-shown : goal.returns-in-Drain-clause-shown
returns-in-Drain-clause-shown t c g p h =
    let is : consequence_of (move_at c.args.id).effect ≡ consequences.Drain = sym (c.consequence_of.ensures ∙ ap consequence_of c.effect.ensures) ∙ c.in-Drain.is in
    rw (hit_effect-by c.args.side (move_at c.args.id) (move_at c.args.id).effect consequences.Drain c.requires.one is) (c.drain.ensures.shown g p h)

pub returns-in-Rage-clause-shown : goal.returns-in-Rage-clause-shown
returns-in-Rage-clause-shown t c g p h =
    let is : consequence_of (move_at c.args.id).effect ≡ consequences.Rage = sym (c.consequence_of.ensures ∙ ap consequence_of c.effect.ensures) ∙ c.in-Rage.is in
    rw (hit_effect-by c.args.side (move_at c.args.id) (move_at c.args.id).effect consequences.Rage c.requires.one is) (c.start_rage.ensures.shown g p h)

pub returns-in-Explosion-clause-shown : goal.returns-in-Explosion-clause-shown
returns-in-Explosion-clause-shown t c g p h =
    let is : consequence_of (move_at c.args.id).effect ≡ consequences.Explosion = sym (c.consequence_of.ensures ∙ ap consequence_of c.effect.ensures) ∙ c.in-Explosion.is in
    rw (hit_effect-by c.args.side (move_at c.args.id) (move_at c.args.id).effect consequences.Explosion c.requires.one is) (quietly h (c.explode.ensures.shown _ g p))

pub returns-in-Nothing-clause-shown : goal.returns-in-Nothing-clause-shown
returns-in-Nothing-clause-shown t c g p h =
    let is : consequence_of (move_at c.args.id).effect ≡ consequences.Nothing = sym (c.consequence_of.ensures ∙ ap consequence_of c.effect.ensures) ∙ c.in-Nothing.is in
    rw (hit_effect-by c.args.side (move_at c.args.id) (move_at c.args.id).effect consequences.Nothing c.requires.one is) (stays h)
