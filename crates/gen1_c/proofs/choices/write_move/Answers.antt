use Rattle.std.proofs.Common.{List, Ok, ap, arith, codes, length, subst, sym, ◌++◌, ◌+◌, ◌∙◌, ◌≡◌, ◌≤◌, ◌∷◌, ℕ}
use Rattle.gen1_tables.specs.Names.{move_name}
use Rattle.gen1_layout.specs.Shows.{setting_of}
use Rattle.gen1_offers.proofs.OfferedSet.{packs_of}
use Rattle.gen1_c.proofs.Updates.{let_through}
use Rattle.gen1_c.proofs.OddsDue.{within_out}
use Rattle.gen1_c.proofs.ShortLines.{move_within}
use Rattle.gen1_c.proofs.Writing.{move_early, move_named, move_unnamed, none_through, refused, written}
use Rattle.gen1_c.proofs.choices.write_move.Goals as goal

pub returns-then-turn-eq0-clause-writes : goal.returns-then-turn-eq0-clause-writes
returns-then-turn-eq0-clause-writes c s h =
    let turn = sym (c.turn.ensures.packs (setting_of s) s.field (packs_of h)) ∙ c.if-turn-eq0.true in
    refused _ (move_early c.args.side c.args.slot s.field c.if-slot-eq0.false turn)

pub returns-in-Some-clause-writes : goal.returns-in-Some-clause-writes
returns-in-Some-clause-writes c s h =
    let out : s.field.turn ≡ 0 → ⊥ = λ z. c.if-turn-eq0.false (c.turn.ensures.packs (setting_of s) s.field (packs_of h) ∙ z) in
    let is = c.move_in.ensures.stands (setting_of s) s.field (within_out h out) in
    let id = let_through _ _ _ (sym c.new.ensures ∙ c.in-Some.is) in
    let text = c.as_bytes.ensures.value ∙ c.name.ensures ∙ ap move_name id.1 in
    written _ _ _ (move_named c.args.side c.args.slot s.field c.move_in.result c.if-slot-eq0.false out is id.0
    ∙ ap (λ (name : List ℕ). Ok ((codes "move " ++ ((48 + c.args.slot) ∷ codes " ")) ++ name)) (sym text)) c.write_joined.ensures.writes

pub returns-in-None-clause-writes : goal.returns-in-None-clause-writes
returns-in-None-clause-writes c s h =
    let out : s.field.turn ≡ 0 → ⊥ = λ z. c.if-turn-eq0.false (c.turn.ensures.packs (setting_of s) s.field (packs_of h) ∙ z) in
    let is = c.move_in.ensures.stands (setting_of s) s.field (within_out h out) in
    refused _ (move_unnamed c.args.side c.args.slot s.field c.move_in.result c.if-slot-eq0.false out is
    (none_through _ c.move_in.result (sym c.new.ensures ∙ c.in-None.is)))

pub returns-in-Some-clause-short : goal.returns-in-Some-clause-short
returns-in-Some-clause-short c zero =
    let long = subst (λ (l : List ℕ). length l ≤ 14) (sym (c.as_bytes.ensures.value ∙ c.name.ensures)) (move_within _) in
    let count = c.write_joined.ensures.count zero in
    omega (arith, long, count)
