use Rattle.std.proofs.Common.{Bool, List, ap, filter, sym, ◌&&◌, ◌∙◌, ◌≡◌}
use Rattle.gen1_layout.specs.Shows.{setting_of}
use Rattle.gen1_offers.proofs.OfferedSet.{packs_of}
use Rattle.gen1_machine.specs.OfferedChoices.{offered}
use Rattle.gen1_machine.specs.Step.{is_among}
use Rattle.gen1_machine.specs.declared.side.Choice.{Choice}
use Rattle.gen1_machine.specs.declared.side.Choice.TheVariants.{Move, Switch}
use Rattle.gen1_words.specs.ChoiceWords.{choice_of, fits, if_offered, only}
use Rattle.gen1_words.proofs.ChoiceLemmas.{move_alone, not_begun, species_alone, within_begun}
use Rattle.gen1_words.proofs.words.choice_of_words.Goals as goal

pub returns-in_default : goal.returns-in_default
returns-in_default c s h =
    sym (not_begun c.args.side c.args.words.now h (sym (c.turn.ensures.packs (setting_of s) s.field (packs_of h)) ∙ c.if-turn-eq0.true) c.in_default.not-Exactly)

pub returns-in-SlotCalled : goal.returns-in-SlotCalled
returns-in-SlotCalled c s h =
    let begun : s.field.turn ≡ 0 → ⊥ = λ z. c.if-turn-eq0.false (c.turn.ensures.packs (setting_of s) s.field (packs_of h) ∙ z) in
    let choice = Move c.in-SlotCalled.slot in
    c.if_offered.ensures s h
    ∙ ap (λ (has : Bool). if_offered (is_among choice (offered c.args.side s.field) && has) choice) (c.has_move-has_name.ensures (setting_of s) s.field (within_begun h begun))
    ∙ ap (choice_of c.args.side s.field) (sym c.in-SlotCalled.is)

pub returns-in-PlaceCalled : goal.returns-in-PlaceCalled
returns-in-PlaceCalled c s h =
    let begun : s.field.turn ≡ 0 → ⊥ = λ z. c.if-turn-eq0.false (c.turn.ensures.packs (setting_of s) s.field (packs_of h) ∙ z) in
    let choice = Switch c.in-PlaceCalled.place in
    c.if_offered-in-PlaceCalled.ensures s h
    ∙ ap (λ (has : Bool). if_offered (is_among choice (offered c.args.side s.field) && has) choice) (c.has_species-has_name.ensures (setting_of s) s.field (within_begun h begun))
    ∙ ap (choice_of c.args.side s.field) (sym c.in-PlaceCalled.is)

pub returns-in-MoveCalled : goal.returns-in-MoveCalled
returns-in-MoveCalled c s h =
    let begun : s.field.turn ≡ 0 → ⊥ = λ z. c.if-turn-eq0.false (c.turn.ensures.packs (setting_of s) s.field (packs_of h) ∙ z) in
    c.only.ensures (setting_of s) s.field (within_begun h begun)
    ∙ ap (λ (list : List Choice). only (filter (fits c.args.side s.field c.args.words.now) list)) (c.deref.ensures.0 ∙ c.offered.ensures s h)
    ∙ move_alone _ _ _ _ c.in-MoveCalled.is

pub returns-in-SwitchTo : goal.returns-in-SwitchTo
returns-in-SwitchTo c s h =
    let begun : s.field.turn ≡ 0 → ⊥ = λ z. c.if-turn-eq0.false (c.turn.ensures.packs (setting_of s) s.field (packs_of h) ∙ z) in
    c.only-in-SwitchTo.ensures (setting_of s) s.field (within_begun h begun)
    ∙ ap (λ (list : List Choice). only (filter (fits c.args.side s.field c.args.words.now) list)) (c.deref-in-SwitchTo.ensures.0 ∙ c.offered-in-SwitchTo.ensures s h)
    ∙ species_alone _ _ _ _ c.in-SwitchTo.is
