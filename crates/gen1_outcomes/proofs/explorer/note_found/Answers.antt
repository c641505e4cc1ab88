use Rattle.std.proofs.Common.{inr, refl, subst, sym, ◌⊎◌}
use Rattle.gen1_outcomes.specs.declared.nodes.Asked.TheVariants.{First}
use Rattle.gen1_outcomes.specs.Nodes.{IsFresh, IsSettled, NotesNew}
use Rattle.gen1_outcomes.specs.Bytes.{ArePassing, IsNone}
use Rattle.gen1_outcomes.specs.declared.nodes.Nodes.{Nodes}
use Rattle.gen1_rolls.specs.Streams.{passes}
use Rattle.gen1_outcomes.proofs.explorer.note_found.Goals as goal

pub returns-then-not-pass-clause-noted : goal.returns-then-not-pass-clause-noted
returns-then-not-pass-clause-noted g c meets =
    let may = c.may_have-bytes.result in
    let same = c.if-not-pass.ensures.kept refl in
    let last = g.N.Notes.noting c.note.new.self in (
      c.ranges.byte.fits,
      meets,
      inr (
        may,
        subst (λ (n : Nodes). ArePassing (passes c.args.test) may ⊎ (IsSettled n × IsNone may)) same c.may_have-bytes.ensures,
        subst (λ (n : Nodes). NotesNew c.args.byte (First c.args.test) c.args.look may n last) same
            (c.note.ensures.noted (subst (λ (n : Nodes). IsFresh n) (sym same) (c.if-not-pass.ensures.new refl))),
      ),
    )
