use Rattle.std.proofs.Common.{false, sym, ◌≡◌, ◌∙◌}
use Rattle.gen1_machine.specs.State.{has_fallen_in}
use Rattle.gen1_layout.proofs.Steps.{packed_of, party_in}
use Rattle.gen1_switching.proofs.Closed.{lives_out}
use Rattle.gen1_switching.proofs.falls.has_living.Goals as goal

pub returns-then-has_fallen : goal.returns-then-has_fallen
returns-then-has_fallen c g f h = c.has_living.ensures.packs g f (packed_of h)

pub returns : goal.returns
returns c g f h =
    let stands : has_fallen_in c.args.side f ≡ false = sym (c.has_fallen.ensures.stands g f h) ∙ c.if-has_fallen.false in
    sym (lives_out c.args.side f (party_in g f c.args.side h.storable).place stands)
