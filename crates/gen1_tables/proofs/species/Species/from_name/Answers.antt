use Rattle.std.proofs.Common.{◌≡◌, IfSome, ap, sym, subst, ◌∙◌}
use Rattle.gen1_tables.specs.Names.{species_named, species_name, place_of}
use Rattle.gen1_tables.proofs.Named.{IsPlace, species_named-found, species_named-species_name, new_of, text_of, IsNone-none_has, IsNone-Some}
use Rattle.gen1_tables.proofs.species.Species.from_name.Goals.{After-and_then}
use Rattle.gen1_tables.proofs.species.Species.from_name.Goals as goal

place : (c : After-and_then) → c.place_of.result ≡ species_named c.args.text.now
unfolding species_named
place c = c.place_of.ensures ∙ ap (λ names. place_of names c.args.text.now) c.species_names.ensures

value : (c : After-and_then) → c.and_then.result ≡ species_named c.args.text.now
value c =
    let found = subst (λ o. IfSome o (IsPlace species_name 151 c.args.text.now)) (sym (place c)) (species_named-found c.args.text.now) in
    new_of species_name 151 c.args.text.now c.place_of.result c.and_then.result found c.and_then.ensures ∙ place c

pub returns-clause-value : goal.returns-clause-value
returns-clause-value c = value c

pub returns-clause-found : goal.returns-clause-found
returns-clause-found c = rw (value c) (text_of species_name 151 c.args.text.now (species_named c.args.text.now) (species_named-found c.args.text.now))

pub returns-clause-known : goal.returns-clause-known
returns-clause-known c = λ n low high named. value c ∙ ap species_named (sym named) ∙ species_named-species_name n low high

pub returns-clause-unknown : goal.returns-clause-unknown
returns-clause-unknown c =
    rw (value c) (
      λ none n low high named. IsNone-Some (species_named c.args.text.now) n (ap species_named (sym named) ∙ species_named-species_name n low high) none,
      IsNone-none_has species_name 151 c.args.text.now (species_named c.args.text.now) (species_named-found c.args.text.now),
    )
