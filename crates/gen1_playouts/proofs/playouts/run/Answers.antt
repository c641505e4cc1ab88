use Rattle.std.proofs.Common.{List, ap, arith, inl, inr, subst, sym, ℕ, ◌∙◌, ◌≡◌, ◌≤◌}
use Rattle.std.specs.Prelude.{Some, false, true}
use Rattle.gen1_machine.specs.declared.side.Side.{Side}
use Rattle.gen1_machine.specs.declared.side.Side.TheVariants.{One, Two}
use Rattle.gen1_machine.specs.Laws.{accepted_in}
use Rattle.gen1_machine.specs.State.{State, is_over}
use Rattle.gen1_machine.specs.Step.{run, run_by, step}
use Rattle.gen1_machine.proofs.RunsEnd.{runs_end}
use Rattle.gen1_layout.specs.Shows.{Stands, setting_of}
use Rattle.gen1_offers.specs.OfferedChoices.{IsBench}
use Rattle.gen1_offers.proofs.OfferedSet.{packs_of}
use Rattle.gen1_engine.specs.Update.{AreOffered}
use Rattle.gen1_engine.specs.declared.result.BattleResult.{BattleResult}
use Rattle.gen1_playouts.specs.Playouts.{IsDrawn, Playout, drawn_from, end_in, most_updates, played}
use Rattle.gen1_engine.proofs.Making.{accepts-more, accepts-none}
use Rattle.gen1_playouts.proofs.Playing.{end-over, ended, most-either, offers-drawn, plays-next, plays_on-more, plays_on-none, AreBenches, FollowsOn, follow-update, ran-more}
use Rattle.gen1_playouts.proofs.playouts.run.Goals as goal

pub updates-init : goal.updates-init
unfolding accepts-none run_by
updates-init c = (
  c.new-bench_one.ensures.side,
  c.new-bench_one.ensures.range,
  c.new-bench_two.ensures.side,
  c.new-bench_two.ensures.range,
  λ s h.
      let benches : AreBenches c.new-bench_one.result c.new-bench_two.result s.field =
      record { first = c.new-bench_one.ensures.stands s h; second = c.new-bench_two.ensures.stands s h } in
      record {
        accepts = accepts-none s h;
        plays = plays_on-none c.args.options.now.weights s c.args.random.now.state h;
        ran = benches;
        out = benches;
      },
)

pub returns-then-is_over-clause-ends : goal.returns-then-is_over-clause-ends
returns-then-is_over-clause-ends c s h =
    let so_far = (c.updates.invariant.4 s h).accepts in
    let tells = ap (λ (r : BattleResult). r.outcome) (c.result-now.ensures (run s so_far.pairs).state so_far.stands) in
    let over : is_over (run s so_far.pairs).state.field.outcome ≡ true = ap is_over (sym tells) ∙ sym c.is_over.ensures ∙ c.if-is_over.true in
    record { pairs = so_far.pairs; tells = tells ∙ sym (end-over (run s so_far.pairs).state.field over); stops = inl over }

pub returns-then-is_over-clause-played : goal.returns-then-is_over-clause-played
returns-then-is_over-clause-played c s h =
    let o = c.args.options.now in
    let so_far = (c.updates.invariant.4 s h).plays in
    let seed = c.args.random.now.state in
    let t = (played o.weights c.updates.counter s seed).battle in
    let tells = ap (λ (r : BattleResult). r.outcome) (c.result-now.ensures t so_far.stands) in
    let over : is_over t.field.outcome ≡ true = ap is_over (sym tells) ∙ sym c.is_over.ensures ∙ c.if-is_over.true in
    let most : c.most_updates-end.result ≡ most_updates s.terms.limit o.depth =
    c.most_updates-end.ensures ∙ ap (λ (limit : ℕ). most_updates limit o.depth) (c.limit.ensures.packs (setting_of s) s.field (packs_of h)) in
    let below : c.updates.counter ≤ c.most_updates-end.result = omega (arith, c.updates-test.true) in
    let within = subst (λ (n : ℕ). c.updates.counter ≤ n) most below in
    let last = ended o.weights s seed within over in
    (tells ∙ sym (end-over t.field over) ∙ ap (λ (p : Playout). end_in p.battle.field) (sym last), so_far.drawn ∙ ap (λ (p : Playout). p.random) (sym last))

-- what was drawn is offered, and the benches follow the update
pub updates-preserved : goal.updates-preserved
unfolding accepts-more
updates-preserved c = (
  c.follow.ensures.side ∙ c.updates.invariant.0,
  c.follow.ensures.range,
  c.follow-in-updates.ensures.side ∙ c.updates.invariant.2,
  c.follow-in-updates.ensures.range,
  λ s h.
      let o = c.args.options.now in
      let rounds = c.updates.invariant.4 s h in
      let x = c.draw-one.result in
      let y = c.draw-two.result in
      let t = (played o.weights c.updates.counter s c.args.random.now.state).battle in
      let u = (run s rounds.accepts.pairs).state in
      let next = plays-next rounds.plays (going t rounds.plays.stands) (first t rounds.plays.stands rounds.out.first) (second t rounds.plays.stands rounds.out.second) in
      record {
        accepts = accepts-more x y rounds.accepts (c.update_offered.ensures.steps u rounds.accepts.stands (asked u rounds.accepts.stands rounds.ran));
        plays = plays_on-more c.updates.counter next (c.update_offered.ensures.steps t rounds.plays.stands (asked t rounds.plays.stands rounds.out));
        ran = subst (λ (z : State). AreBenches c.follow.new.self c.follow-in-updates.new.self z.field) (sym (ran-more s rounds.accepts.pairs x y)) (follow u rounds.accepts.stands rounds.ran);
        out = subst (λ (p : Playout). AreBenches c.follow.new.self c.follow-in-updates.new.self p.battle.field) (sym next) (follow t rounds.plays.stands rounds.out);
      },
)
  where
    weights : List ℕ
    weights = c.args.options.now.weights

    going : (u : State) → Stands c.updates.battle u → is_over u.field.outcome ≡ false
    going u at = ap (λ (r : BattleResult). is_over r.outcome) (sym (c.result-now.ensures u at)) ∙ sym c.is_over.ensures ∙ c.if-is_over.false

    first : (u : State) → Stands c.updates.battle u → IsBench One u.field c.updates.bench_one
        → IsDrawn c.updates.random.state (drawn_from weights One u.field) c.draw-one.result c.draw-one.new.random.state
    first u at = subst (λ (side : Side). IsBench side u.field c.updates.bench_one → IsDrawn c.updates.random.state (drawn_from weights side u.field) c.draw-one.result c.draw-one.new.random.state)
        c.updates.invariant.0 (c.draw-one.ensures u at (going u at))

    second : (u : State) → Stands c.updates.battle u → IsBench Two u.field c.updates.bench_two
        → IsDrawn c.draw-one.new.random.state (drawn_from weights Two u.field) c.draw-two.result c.draw-two.new.random.state
    second u at = subst (λ (side : Side). IsBench side u.field c.updates.bench_two → IsDrawn c.draw-one.new.random.state (drawn_from weights side u.field) c.draw-two.result c.draw-two.new.random.state)
        c.updates.invariant.2 (c.draw-two.ensures u at (going u at))

    asked : (u : State) → Stands c.updates.battle u → AreBenches c.updates.bench_one c.updates.bench_two u.field → AreOffered u c.draw-one.result c.draw-two.result
    asked u at b = record {
      first = offers-drawn One u weights _ at.valid (going u at) (first u at b.first);
      second = offers-drawn Two u weights _ at.valid (going u at) (second u at b.second);
    }

    follow : (u : State) → Stands c.updates.battle u → AreBenches c.updates.bench_one c.updates.bench_two u.field
        → AreBenches c.follow.new.self c.follow-in-updates.new.self (step u c.draw-one.result c.draw-two.result).state.field
    follow u at b =
        let both = asked u at b in
        follow-update u c.draw-one.result c.draw-two.result at.valid both.first both.second (c.update_offered.ensures.steps u at both).stands
        (subst (λ (side : Side). FollowsOn side c.draw-one.result c.update_offered.new.battle c.updates.bench_one c.follow.new.self) c.updates.invariant.0 c.follow.ensures.stands)
        (subst (λ (side : Side). FollowsOn side c.draw-two.result c.update_offered.new.battle c.updates.bench_two c.follow-in-updates.new.self) c.updates.invariant.2 c.follow-in-updates.ensures.stands)
        b

pub returns-clause-ends : goal.returns-clause-ends
returns-clause-ends c s h =
    let o = c.args.options.now in
    let all = (c.updates.invariant.4 s h).accepts in
    let reached : c.updates.counter ≡ c.most_updates-end.result = omega (arith, c.updates-test.false, c.updates.auto.counter-end) in
    let most : accepted_in s all.pairs ≡ most_updates s.terms.limit o.depth =
    all.counted ∙ reached ∙ c.most_updates-end.ensures ∙ ap (λ (limit : ℕ). most_updates limit o.depth) (c.limit.ensures.packs (setting_of s) s.field (packs_of h)) in
    record {
      pairs = all.pairs;
      tells = c.end_now.ensures (run s all.pairs).state all.stands;
      stops = elim (most-either s.terms.limit o.depth) [ inl e ↦ inl ((runs_end s all.pairs h.valid).1 (most ∙ e)) | inr e ↦ inr (e ∙ ap (λ (n : ℕ). Some n) (sym most)) ];
    }

pub returns-clause-played : goal.returns-clause-played
returns-clause-played c s h =
    let o = c.args.options.now in
    let all = (c.updates.invariant.4 s h).plays in
    let seed = c.args.random.now.state in
    let reached : c.updates.counter ≡ c.most_updates-end.result = omega (arith, c.updates-test.false, c.updates.auto.counter-end) in
    let most : c.updates.counter ≡ most_updates s.terms.limit o.depth =
    reached ∙ c.most_updates-end.ensures ∙ ap (λ (limit : ℕ). most_updates limit o.depth) (c.limit.ensures.packs (setting_of s) s.field (packs_of h)) in
    let last = ap (λ (n : ℕ). played o.weights n s seed) most in
    (c.end_now.ensures (played o.weights c.updates.counter s seed).battle all.stands ∙ ap (λ (p : Playout). end_in p.battle.field) last, all.drawn ∙ ap (λ (p : Playout). p.random) last)
