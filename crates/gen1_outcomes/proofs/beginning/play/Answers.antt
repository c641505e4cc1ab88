use Rattle.std.proofs.Common.{arith, refl, sym, ◌∙◌, ◌≤◌}
use Rattle.gen1_layout.specs.Shows.{setting_of}
use Rattle.gen1_offers.proofs.OfferedSet.{packs_of}
use Rattle.gen1_engine.proofs.Making.{plays_switches, plays_turn, starts_of, starts_so}
use Rattle.gen1_outcomes.proofs.beginning.play.Goals as goal

pub returns-in-Move-clause-played : goal.returns-in-Move-clause-played
returns-in-Move-clause-played g c s h o =
    record {
      by_turn = λ asked. c.turn.ensures.updated s h (plays_turn o asked);
      by_step = λ apart. absurd (apart (sym (c.request.ensures.packs (setting_of s) s.field (packs_of h)) ∙ c.in-Move.is));
    }

pub returns-then-turn-eq0-clause-played : goal.returns-then-turn-eq0-clause-played
returns-then-turn-eq0-clause-played g c s h o =
    record {
      by_turn = λ asked. absurd (c.in_default.not-Move (c.request.ensures.packs (setting_of s) s.field (packs_of h) ∙ asked));
      by_step = λ apart.
          let turn = sym (c.turn-in_default.ensures.packs (setting_of s) s.field (packs_of h)) ∙ c.if-turn-eq0.true in
          let starts = starts_of h.valid o turn in
          (starts_so o starts (c.start.ensures.stepped s h starts), refl);
    }

pub returns-else-turn-eq0-clause-played : goal.returns-else-turn-eq0-clause-played
returns-else-turn-eq0-clause-played g c s h o =
    record {
      by_turn = λ asked. absurd (c.in_default.not-Move (c.request.ensures.packs (setting_of s) s.field (packs_of h) ∙ asked));
      by_step = λ apart.
          let turn = c.turn-in_default.ensures.packs (setting_of s) s.field (packs_of h) in
          let later : 1 ≤ s.field.turn = omega arith in
          (c.replace.ensures.stepped s h (plays_switches h.valid o apart later), refl);
    }
