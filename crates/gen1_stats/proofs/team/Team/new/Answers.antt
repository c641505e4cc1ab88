use Rattle.std.proofs.Common.{None, arith, length, map, rules, subst, sym, take, [], ℕ, ◌+◌, ◌++◌, ◌<◌, ◌≡◌, ◌∙◌, ◌∷◌}
use Rattle.gen1_stats.proofs.Ranges.{first_refusal-drop, All-push, map-take_more}
use Rattle.gen1_stats.specs.Members.{IsFresh}
use Rattle.gen1_stats.specs.Teams.{member_of, member_refusal}
use Rattle.gen1_stats.proofs.team.Team.new.Goals as goal

pub loop-spec-preserved : goal.loop-spec-preserved
loop-spec-preserved c =
    let low : c.loop-spec.spec-index < length c.args.specs.now = omega arith in
    let place : c.len.result ≡ c.loop-spec.spec-index = c.len.ensures.value ∙ c.loop-spec.invariant.counted in
    let none : member_refusal (c.loop-spec.spec-index + 1) c.spec-item.result ≡ None =
    subst (λ (n : ℕ). member_refusal (n + 1) c.spec-item.result ≡ None) place c.in_ok-new.ensures.allowed in
    let more : map member_of (take (c.loop-spec.spec-index + 1) c.args.specs.now)
    ≡ map member_of (take c.loop-spec.spec-index c.args.specs.now) ++ member_of c.spec-item.result ∷ [] =
    map-take_more member_of c.args.specs.now c.loop-spec.spec-index c.spec-item.result low c.spec-item.is in
    record {
      counted = search rules;
      made = rw (c.push.ensures.items, c.loop-spec.invariant.made, c.in_ok-new.ensures.made) (sym more);
      passed = sym (first_refusal-drop c.args.specs.now c.loop-spec.spec-index c.spec-item.result low c.spec-item.is none)
          ∙ c.loop-spec.invariant.passed;
      fresh = All-push IsFresh c.loop-spec.members.items _ c.in_ok-new.field-0 c.push.ensures.items
          c.loop-spec.invariant.fresh c.in_ok-new.ensures.fresh;
    }
