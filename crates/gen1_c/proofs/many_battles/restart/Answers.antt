use Rattle.std.proofs.Common.{subst, sym}
use Rattle.gen1_layout.specs.Parts.{Parts}
use Rattle.gen1_layout.specs.Shows.{Stands}
use Rattle.gen1_c.proofs.Updates.{begins}
use Rattle.gen1_c.proofs.many_battles.restart.Goals as goal

pub returns : goal.returns
returns c s h =
    let copied = subst (λ (p : Parts). Stands p s) (sym c.copy_of.ensures) h in
    begins s c.args.random.now.state c.new.ensures.start c.ten_numbers.ensures.drawn c.ten_numbers.ensures.state (c.reseed.ensures.stands s) copied
