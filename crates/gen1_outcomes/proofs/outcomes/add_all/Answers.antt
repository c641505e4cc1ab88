use Rattle.std.proofs.Common.{inl, sym, ◌∙◌}
use Rattle.gen1_layout.specs.Shows.{setting_of}
use Rattle.gen1_offers.proofs.OfferedSet.{packs_of}
use Rattle.gen1_outcomes.proofs.Complete.{every_from, on_ok_map}
use Rattle.gen1_outcomes.proofs.Weights.{adds_update}
use Rattle.gen1_outcomes.proofs.outcomes.add_all.Goals as goal

pub add_in_parts-requires-clause-two : goal.add_in_parts-requires-clause-two
add_in_parts-requires-clause-two c s h =
    sym (c.has_two_actions.ensures.packs (setting_of s) s.field (packs_of h)) ∙ c.if-has_two_actions.true

pub finish-requires-clause-reached : goal.finish-requires-clause-reached
finish-requires-clause-reached c = inl c.beginning-whole.ensures.rest

pub returns-then-has_two_actions-clause-every : goal.returns-then-has_two_actions-clause-every
returns-then-has_two_actions-clause-every c =
    on_ok_map c.add_in_parts.result _ _ (λ every exact s of.
    every exact (c.requires.least ∙ exact.least) s (record {
      offers = of;
      two = sym (c.has_two_actions.ensures.packs (setting_of s) s.field (packs_of of.stands)) ∙ c.if-has_two_actions.true;
    })) c.add_in_parts.ensures.every

pub returns-clause-every : goal.returns-clause-every
returns-clause-every c =
    on_ok_map c.finish.result _ _ (λ every exact s of.
    every_from c.args.ways.now c.beginning-whole.result s c.finish.new.tally.count c.finish.new.successors c.beginning-whole.ensures.rest
    (every exact (c.requires.least ∙ exact.least) s of)) c.finish.ensures.every

pub returns-then-has_two_actions-clause-weights : goal.returns-then-has_two_actions-clause-weights
returns-then-has_two_actions-clause-weights c =
    on_ok_map c.add_in_parts.result _ _ (λ weights exact are s of.
    weights exact (c.requires.least ∙ exact.least) are s (record {
      offers = of;
      two = sym (c.has_two_actions.ensures.packs (setting_of s) s.field (packs_of of.stands)) ∙ c.if-has_two_actions.true;
    })) c.add_in_parts.ensures.weights

pub returns-clause-weights : goal.returns-clause-weights
returns-clause-weights c =
    on_ok_map c.finish.result _ _ (λ parts exact are s of.
    adds_update c.args.ways.now c.beginning-whole.result s c.args.tally.now c.finish.new.tally c.args.successors.now c.finish.new.successors
    c.beginning-whole.ensures.rest c.beginning-whole.ensures.certain of (parts exact (c.requires.least ∙ exact.least) are s of)) c.finish.ensures.parts
