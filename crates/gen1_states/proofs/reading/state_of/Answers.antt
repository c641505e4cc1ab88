use Rattle.std.proofs.Common.{[], refl, ◌∙◌, ◌∷◌}
use Rattle.std.proofs.lemmas.List.Elements.{All-from_recursion}
use Rattle.gen1_layout.specs.Shows.{setting_of}
use Rattle.gen1_states.specs.Reading.{HasKinds}
use Rattle.gen1_states.proofs.ThereAndBack.{packs_of, viewed}
use Rattle.gen1_states.proofs.reading.state_of.Goals as goal

pub returns-clause-stands : goal.returns-clause-stands
returns-clause-stands c s h =
    let g = setting_of s in let f = s.field in let k = packs_of h in
    rw (
      c.header-header.ensures.packs g f k,
      c.side_state.ensures.stands s h,
      c.side_state-2.ensures.stands s h,
      c.turn.ensures.packs g f k,
      c.limit.ensures.packs g f k,
      c.last_damage.ensures.packs g f k,
    ) refl ∙ viewed s h.valid.seed.0

pub returns-clause-copied : goal.returns-clause-copied
returns-clause-copied c =
    let is = c.header-header.ensures.value in
    rw is (record { rules = refl; outcome = refl; requests = refl; index = refl; numbers = refl })

pub returns-clause-kinds : goal.returns-clause-kinds
returns-clause-kinds c = All-from_recursion HasKinds (c.side_state.result ∷ c.side_state-2.result ∷ []) (c.side_state.ensures.kinds, (c.side_state-2.ensures.kinds, tt))
