use Rattle.std.proofs.Common.{ap, sym, ◌∙◌}
use Rattle.gen1_machine.specs.Layout.{bytes_of}
use Rattle.gen1_layout.specs.Parts.{joined, joined-parts}
use Rattle.gen1_layout.proofs.packed.Packed.as_bytes.Goals as goal

pub returns-clause-value : goal.returns-clause-value
returns-clause-value c = rw (← c.self.view_is) (sym (joined-parts c.self.inside.0 c.self.invariant))

pub returns-clause-stands : goal.returns-clause-stands
unfolding bytes_of
returns-clause-stands c s e = sym (joined-parts c.self.inside.0 c.self.invariant) ∙ ap joined (c.self.view_is ∙ e)
