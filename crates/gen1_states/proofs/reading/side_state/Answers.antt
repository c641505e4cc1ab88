use Rattle.std.proofs.Common.{[], refl, ◌∷◌, ◌≤◌}
use Rattle.std.proofs.lemmas.List.Elements.{All-from_recursion}
use Rattle.gen1_layout.specs.Shows.{setting_of}
use Rattle.gen1_states.specs.declared.plain.MemberState.{MemberState}
use Rattle.gen1_states.proofs.ThereAndBack.{packs_of}
use Rattle.gen1_states.proofs.reading.side_state.Goals as goal

pub returns-clause-stands : goal.returns-clause-stands
returns-clause-stands c s h =
    let g = setting_of s in let f = s.field in let k = packs_of h in
    rw (
      c.member_state.ensures.packs g f k,
      c.member_state-2.ensures.packs g f k,
      c.member_state-3.ensures.packs g f k,
      c.member_state-4.ensures.packs g f k,
      c.member_state-5.ensures.packs g f k,
      c.member_state-6.ensures.packs g f k,
      c.active_now.ensures s h,
    ) refl

pub returns-clause-kinds : goal.returns-clause-kinds
returns-clause-kinds c =
    All-from_recursion (λ (m : MemberState). m.status ≤ 5)
    (c.member_state.result ∷ c.member_state-2.result ∷ c.member_state-3.result ∷ c.member_state-4.result ∷ c.member_state-5.result ∷ c.member_state-6.result ∷ []) (c.member_state.ensures.kind, (c.member_state-2.ensures.kind, (c.member_state-3.ensures.kind, (c.member_state-4.ensures.kind, (c.member_state-5.ensures.kind, (c.member_state-6.ensures.kind, tt))))))
