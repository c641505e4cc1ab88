use Rattle.std.proofs.Common.{arith, length, subst, sym, ◌≡◌, ◌≤◌}
use Rattle.gen1_rolls.specs.Steady.{StandsAt, Ring, link, ring_at, ring_of}
use Rattle.gen1_rolls.specs.Streams.{Link}
use Rattle.gen1_rolls.proofs.Rings.{ring-stands, ring_at-stands}
use Rattle.gen1_machine.specs.declared.side.Side.TheVariants.{One}
use Rattle.gen1_machine.specs.declared.terms.Request.TheVariants as requests
use Rattle.gen1_machine.specs.Ruling.{ruling_of}
use Rattle.gen1_machine.specs.Turn.{turn}
use Rattle.gen1_machine.specs.Step.{close_update, opened}
use Rattle.gen1_layout.specs.Shows.{setting_of}
use Rattle.gen1_offers.proofs.OfferedSet.{within_asked}
use Rattle.gen1_engine.proofs.Making.{both_move, turn_made, turned_so}
use Rattle.gen1_engine.proofs.update.step_turn.Goals as goal

pub returns-in-Some-clause-stepped : goal.returns-in-Some-clause-stepped
returns-in-Some-clause-stepped t c s h plays =
    let both = both_move s h.valid plays.goes_on plays.asked_for in
    let apart : (requests.Pass ≡ requests.Move → ⊥) = λ e. cc in
    let w = within_asked One h both.0 apart in
    let long : 9 ≤ length s.seed = omega (arith, h.valid.seed.0) in
    let is : c.in-Some.generator ≡ ring_at s.seed s.drawn = let e = c.in-Some.ensures.stands (setting_of s) s.field w in cc in
    let at = subst (λ (r : Ring). StandsAt link (ring_of s.seed) (Link s.seed) s.drawn r) (sym is) (ring_at-stands s.seed s.drawn long) in
    let left = c.turn-left.ensures.updated s h plays (record { source = record { origin = ring_of s.seed; stream = Link s.seed }; agrees = tt }) s.drawn h.valid.seed at in
    let q = close_update (ruling_of s.terms) (turn (ruling_of s.terms) c.args.one c.args.two (opened s)) in
    turned_so s c.args.one c.args.two q h.valid (turn_made s c.args.one c.args.two h.valid plays)
    (c.put_generator.ensures.stands (setting_of s) q.field q.drawn left.within (ring-stands left.stands long)) left.written

pub returns-in-None-clause-stepped : goal.returns-in-None-clause-stepped
returns-in-None-clause-stepped t c s h plays =
    let both = both_move s h.valid plays.goes_on plays.asked_for in
    let apart : (requests.Pass ≡ requests.Move → ⊥) = λ e. cc in
    let w = within_asked One h both.0 apart in
    absurd (let e = c.in-None.ensures.stands (setting_of s) s.field w in cc)
