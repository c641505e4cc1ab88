use Rattle.std.proofs.Common.{List, Ok, ap, sym, ◌∙◌, ℕ}
use Rattle.std.specs.List.{slice_get}
use Rattle.gen1_c.specs.Names.{type_names}
use Rattle.gen1_c.proofs.Writing.{got_none, got_some, refused, written}
use Rattle.gen1_c.proofs.names.gen1_type_name.Goals as goal

pub returns-in-Some : goal.returns-in-Some
returns-in-Some c =
    let list = ap (λ (names : List (List ℕ)). slice_get names c.args.number) c.type_names.ensures in
    written _ _ _ (got_some _ type_names c.args.number (c.text_at.ensures ∙ list) c.in-Some.is ∙ ap Ok (sym c.as_bytes.ensures.value)) c.write_text.ensures.writes

pub returns-in-None : goal.returns-in-None
returns-in-None c =
    let list = ap (λ (names : List (List ℕ)). slice_get names c.args.number) c.type_names.ensures in
    refused _ (got_none _ type_names c.args.number (c.text_at.ensures ∙ list) c.in-None.is)
