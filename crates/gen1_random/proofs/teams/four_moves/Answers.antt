use Rattle.std.proofs.Common.{All, [], ap, arith, length, refl, subst, sym, ◌∙◌, ◌≡◌, ◌∷◌}
use Rattle.std.proofs.lemmas.List.Elements.{All-weaker}
use Rattle.gen1_random.proofs.Drawing.{IsMove, drew-four, moves-many}
use Rattle.gen1_random.specs.Teams.{moves_drawn, one_draw}
use Rattle.gen1_stats.specs.Members.{IsBetween}
use Rattle.gen1_random.proofs.teams.four_moves.Goals.{After-take-fourth}
use Rattle.gen1_random.proofs.teams.four_moves.Goals as goal

pub take-first-requires : goal.take-first-requires
take-first-requires c = let many = ap length c.numbers-moves.ensures ∙ moves-many in omega (arith, many)

pub take-second-requires : goal.take-second-requires
take-second-requires c = let many = ap length c.numbers-moves.ensures ∙ moves-many in omega (arith, many, c.take-first.ensures.len)

pub take-third-requires : goal.take-third-requires
take-third-requires c = let many = ap length c.numbers-moves.ensures ∙ moves-many in omega (arith, many, c.take-first.ensures.len, c.take-second.ensures.len)

pub take-fourth-requires : goal.take-fourth-requires
take-fourth-requires c =
    let many = ap length c.numbers-moves.ensures ∙ moves-many in
    omega (arith, many, c.take-first.ensures.len, c.take-second.ensures.len, c.take-third.ensures.len)

drawn : (c : After-take-fourth)
    → c.take-first.result ∷ c.take-second.result ∷ c.take-third.result ∷ c.take-fourth.result ∷ [] ≡ (moves_drawn 4 c.args.random.now.state).drawn
unfolding one_draw
drawn c =
    rw (
      c.take-first.ensures.taken,
      c.take-second.ensures.taken,
      c.take-third.ensures.taken,
      c.take-fourth.ensures.taken,
      c.take-third.ensures.left,
      c.take-third.ensures.state,
      c.take-second.ensures.left,
      c.take-second.ensures.state,
      c.take-first.ensures.left,
      c.take-first.ensures.state,
      c.numbers-moves.ensures,
    ) refl

pub returns-clause-drawn : goal.returns-clause-drawn
returns-clause-drawn c = drawn c

pub returns-clause-range : goal.returns-clause-range
returns-clause-range c =
    let four = drew-four c.args.random.now.state in
    subst (All (IsBetween 1 164)) (sym (drawn c)) (All-weaker IsMove (IsBetween 1 164) (λ x h. h.0) (moves_drawn 4 c.args.random.now.state).drawn four.known)

pub returns-clause-state : goal.returns-clause-state
unfolding one_draw
returns-clause-state c = rw (c.take-fourth.ensures.state, c.take-third.ensures.state, c.take-second.ensures.state, c.take-first.ensures.state) refl
