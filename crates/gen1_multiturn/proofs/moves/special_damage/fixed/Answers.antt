use Rattle.gen1_layout.proofs.Words.{ap, sym, ℕ, ◌∙◌}
use Rattle.std.proofs.Common.{◌≢◌}
use Rattle.gen1_machine.specs.FixedDamage.{psywave}
use Rattle.gen1_machine.specs.Progress.{set_last_damage}
use Rattle.gen1_multiturn.proofs.MoveHits.{bites, booms, deals_level, rages, waves}
use Rattle.gen1_multiturn.proofs.moves.special_damage.fixed.Goals as goal

pub returns-then-number-eq-SONIC_BOOM-clause-deals : goal.returns-then-number-eq-SONIC_BOOM-clause-deals
returns-then-number-eq-SONIC_BOOM-clause-deals t c since g events p h =
    (p.drawn, h, booms c.args.side c.args.id p (sym c.number-number.ensures.value ∙ c.if-number-eq-SONIC_BOOM.true))

pub returns-then-number-eq-DRAGON_RAGE-clause-deals : goal.returns-then-number-eq-DRAGON_RAGE-clause-deals
returns-then-number-eq-DRAGON_RAGE-clause-deals t c since g events p h =
    (p.drawn, h, rages c.args.side c.args.id p (sym c.number-number.ensures.value ∙ c.if-number-eq-DRAGON_RAGE.true))

pub returns-then-number-clause-deals : goal.returns-then-number-clause-deals
returns-then-number-clause-deals t c since g events p h =
    let level = c.level.ensures.stands _ _ h.shows.within in
    let waved = c.psywave.ensures.deals c.args.battle.now since g events p h in
    (waved.0, waved.1, waves c.args.side c.args.id p (sym c.number-number.ensures.value ∙ c.if-number.true) ∙ ap (λ (n : ℕ). psywave n p) (sym level) ∙ waved.2)

pub returns-then-number-2-clause-deals : goal.returns-then-number-2-clause-deals
returns-then-number-2-clause-deals t c since g events p h =
    let half = rw c.other.ensures at (c.half_hp.ensures.stands _ _ h.shows.within) in
    (p.drawn, h, bites c.args.side c.args.id p (sym c.number-number.ensures.value ∙ c.if-number-2.true) ∙ ap (λ (n : ℕ). set_last_damage n p) (sym half))

pub returns-clause-deals : goal.returns-clause-deals
returns-clause-deals t c since g events p h =
    let level = c.from.ensures ∙ c.level-2.ensures.stands _ _ h.shows.within in
    let not : (n : ℕ) → c.number-number.result ≢ n → c.args.id ≢ n = λ n differs is. differs (c.number-number.ensures.value ∙ is) in (
      p.drawn,
      h,
      deals_level c.args.side c.args.id p (not _ c.if-number-eq-SONIC_BOOM.false) (not _ c.if-number-eq-DRAGON_RAGE.false) (not _ c.if-number.false) (not _ c.if-number-2.false)
          ∙ ap (λ (n : ℕ). set_last_damage n p) (sym level),
    )
