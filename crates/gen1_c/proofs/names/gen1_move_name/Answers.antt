use Rattle.std.proofs.Common.{Ok, ap, sym, ◌∙◌}
use Rattle.gen1_tables.specs.Names.{move_name}
use Rattle.gen1_c.proofs.Updates.{let_through}
use Rattle.gen1_c.proofs.Writing.{in_range, none_through, out_of_range, refused, written}
use Rattle.gen1_c.proofs.names.gen1_move_name.Goals as goal

pub returns-in-Some : goal.returns-in-Some
returns-in-Some c =
    let id = let_through _ _ _ (sym c.new.ensures ∙ c.in-Some.is) in
    let text = c.as_bytes.ensures.value ∙ c.name.ensures ∙ ap move_name id.1 in
    written _ _ _ (in_range 165 c.args.number (move_name c.args.number) id.0 ∙ ap Ok (sym text)) c.write_text.ensures.writes

pub returns-in-None : goal.returns-in-None
returns-in-None c =
    refused _ (out_of_range 165 c.args.number (move_name c.args.number) (none_through _ c.args.number (sym c.new.ensures ∙ c.in-None.is)))
