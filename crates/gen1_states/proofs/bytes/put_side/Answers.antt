use Rattle.std.proofs.Common.{arith, refl, rules, subst, suc, zero, ℕ, ◌<◌}
use Rattle.gen1_states.specs.Laws.{IsPlainMember}
use Rattle.gen1_states.specs.Plain.{member_at, side_after}
use Rattle.gen1_states.proofs.bytes.put_side.Goals as goal

below_six : (P : ℕ → Type 0) → P 0 → P 1 → P 2 → P 3 → P 4 → P 5 → (k : ℕ) → k < 6 → P k
below_six P p0 p1 p2 p3 p4 p5 zero low = p0
below_six P p0 p1 p2 p3 p4 p5 (suc zero) low = p1
below_six P p0 p1 p2 p3 p4 p5 (suc (suc zero)) low = p2
below_six P p0 p1 p2 p3 p4 p5 (suc (suc (suc zero))) low = p3
below_six P p0 p1 p2 p3 p4 p5 (suc (suc (suc (suc zero)))) low = p4
below_six P p0 p1 p2 p3 p4 p5 (suc (suc (suc (suc (suc zero))))) low = p5
below_six P p0 p1 p2 p3 p4 p5 (suc (suc (suc (suc (suc (suc k)))))) low = absurd (omega arith)

pub returns-clause-plain : goal.returns-clause-plain
returns-clause-plain c = record {
  count = search rules;
  members =
      below_six (λ (k : ℕ). IsPlainMember (member_at k c.args.side.now))
      (subst IsPlainMember c.member_at.ensures c.member_bytes.ensures.plain)
      (subst IsPlainMember c.member_at-2.ensures c.member_bytes-2.ensures.plain)
      (subst IsPlainMember c.member_at-3.ensures c.member_bytes-3.ensures.plain)
      (subst IsPlainMember c.member_at-4.ensures c.member_bytes-4.ensures.plain)
      (subst IsPlainMember c.member_at-5.ensures c.member_bytes-5.ensures.plain)
      (subst IsPlainMember c.member_at-6.ensures c.member_bytes-6.ensures.plain);
  active = c.active_bytes.ensures.plain;
}

pub returns-clause-items : goal.returns-clause-items
unfolding side_after
returns-clause-items c =
    rw (
      c.put-7.ensures.items,
      c.put-6.ensures.items,
      c.put-5.ensures.items,
      c.put-4.ensures.items,
      c.put-3.ensures.items,
      c.put-2.ensures.items,
      c.put.ensures.items,
      c.active_bytes.ensures.value,
      c.member_bytes-6.ensures.value,
      c.member_bytes-5.ensures.value,
      c.member_bytes-4.ensures.value,
      c.member_bytes-3.ensures.value,
      c.member_bytes-2.ensures.value,
      c.member_bytes.ensures.value,
      c.member_at-6.ensures,
      c.member_at-5.ensures,
      c.member_at-4.ensures,
      c.member_at-3.ensures,
      c.member_at-2.ensures,
      c.member_at.ensures,
    ) refl
