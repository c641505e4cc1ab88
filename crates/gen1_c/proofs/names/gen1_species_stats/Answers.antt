use Rattle.std.proofs.Common.{Ok, ap, sym, ◌∙◌}
use Rattle.gen1_c.specs.Names.{base_row}
use Rattle.gen1_c.proofs.Updates.{let_through}
use Rattle.gen1_c.proofs.Writing.{in_range, none_through, out_of_range, row_kept, row_told}
use Rattle.gen1_c.proofs.names.gen1_species_stats.Goals as goal

pub returns-in-Some : goal.returns-in-Some
returns-in-Some c =
    let id = let_through _ _ _ (sym c.new.ensures ∙ c.in-Some.is) in
    row_told _ (in_range 151 c.args.number (base_row c.args.number) id.0 ∙ ap Ok (sym (c.base_of.ensures ∙ ap base_row id.1)))

pub returns-in-None : goal.returns-in-None
returns-in-None c =
    row_kept _ (out_of_range 151 c.args.number (base_row c.args.number) (none_through _ c.args.number (sym c.new.ensures ∙ c.in-None.is)))
