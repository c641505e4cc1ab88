use Rattle.std.proofs.Common.{◌∙◌, sym, bytes_eq, rules, tests}
use Rattle.std.proofs.lemmas.Iterator.{YieldsList-from_slice}
use Rattle.std.proofs.lemmas.Iterator.Search.{position_from_yields_List}
use Rattle.gen1_tables.proofs.Named.{position-map}
use Rattle.gen1_tables.proofs.names.index_of.Goals as goal

pub returns-clause-value : goal.returns-clause-value
returns-clause-value c =
    position_from_yields_List (λ name. bytes_eq name.now c.args.text.now) _ _ c.position.result c.position.ensures.ran (YieldsList-from_slice c.args.names.now c.iter.ensures.rest) (λ x b q k. search (rules, tests))
    ∙ sym (position-map (λ name. bytes_eq name c.args.text.now) (λ name. name.now) c.args.names.now)
