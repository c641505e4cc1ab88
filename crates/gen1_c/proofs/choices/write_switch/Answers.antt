use Rattle.std.proofs.Common.{List, Ok, ap, arith, codes, length, subst, sym, ◌++◌, ◌+◌, ◌∙◌, ◌≤◌, ◌∷◌, ℕ}
use Rattle.gen1_tables.specs.Names.{species_name}
use Rattle.gen1_layout.specs.Shows.{setting_of}
use Rattle.gen1_offers.proofs.OfferedSet.{packs_of}
use Rattle.gen1_c.proofs.Updates.{let_through}
use Rattle.gen1_c.proofs.ShortLines.{species_short}
use Rattle.gen1_c.proofs.Writing.{none_through, refused, switch_named, switch_unnamed, written}
use Rattle.gen1_c.proofs.choices.write_switch.Goals as goal

pub returns-in-Some-clause-writes : goal.returns-in-Some-clause-writes
returns-in-Some-clause-writes c s h =
    let is = c.species_at.ensures.packs (setting_of s) s.field (packs_of h) in
    let id = let_through _ _ _ (sym c.new.ensures ∙ c.in-Some.is) in
    let text = c.as_bytes.ensures.value ∙ c.name.ensures ∙ ap species_name id.1 in
    written _ _ _ (switch_named c.args.side c.args.place s.field c.species_at.result is id.0
    ∙ ap (λ (name : List ℕ). Ok ((codes "switch " ++ ((48 + c.args.place) ∷ codes " ")) ++ name)) (sym text)) c.write_joined.ensures.writes

pub returns-in-None-clause-writes : goal.returns-in-None-clause-writes
returns-in-None-clause-writes c s h =
    let is = c.species_at.ensures.packs (setting_of s) s.field (packs_of h) in
    refused _ (switch_unnamed c.args.side c.args.place s.field c.species_at.result is
    (none_through _ c.species_at.result (sym c.new.ensures ∙ c.in-None.is)))

pub returns-in-Some-clause-short : goal.returns-in-Some-clause-short
returns-in-Some-clause-short c zero =
    let long = subst (λ (l : List ℕ). length l ≤ 12) (sym (c.as_bytes.ensures.value ∙ c.name.ensures)) (species_short _) in
    let count = c.write_joined.ensures.count zero in
    omega (arith, long, count)
