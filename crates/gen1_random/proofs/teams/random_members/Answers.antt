use Rattle.std.proofs.Common.{ap, arith, length, ℕ, ◌∙◌, ◌≡◌}
use Rattle.gen1_random.proofs.Drawing.{All-remove, is-draft-more, random-team, six-species, species-drawn, taken-fits}
use Rattle.gen1_random.specs.Teams.{IsDrawnFrom, draft, index_of, numbers_in}
use Rattle.gen1_random.proofs.teams.random_members.Goals as goal

pub members-init : goal.members-init
members-init c =
    let pool = c.numbers-species.ensures ∙ ap numbers_in c.species_of.ensures in
    let many = six-species c.args.from in record {
      is = record { team_is = c.new-members.ensures; left_is = pool; random_is = c.new-random.ensures };
      long = let long = ap length pool in omega (arith, many, long);
      fit = rw pool (species-drawn c.args.from);
      size = ap length c.new-members.ensures;
    }

pub take-one-requires : goal.take-one-requires
take-one-requires c = omega (arith, c.members.invariant.long)

pub member_of-requires : goal.member_of-requires
member_of-requires c =
    taken-fits c.args.from c.members.random.state c.members.species.items (omega (arith, c.members.invariant.long)) c.members.invariant.fit c.take-one.ensures.taken

pub members-preserved : goal.members-preserved
members-preserved c = record {
  is = rw c.push.ensures.items (is-draft-more c.args.from c.args.seed c.members.counter c.members.invariant.is
      c.take-one.ensures.taken c.take-one.ensures.left c.take-one.ensures.state c.member_of.ensures.sheet c.member_of.ensures.state);
  long = omega (arith, c.members.invariant.long, c.take-one.ensures.len);
  fit = rw c.take-one.ensures.left (All-remove (IsDrawnFrom c.args.from) c.members.species.items (index_of c.members.random.state c.members.species.items) c.members.invariant.fit);
  size = omega (arith, c.members.invariant.size, c.push.ensures.len);
}

pub returns-clause-drawn : goal.returns-clause-drawn
returns-clause-drawn c =
    let all : c.members.counter ≡ c.args.count = omega arith in
    c.members.invariant.is.team_is ∙ ap (λ (n : ℕ). (draft c.args.from c.args.seed n).team) all

pub returns-clause-team : goal.returns-clause-team
returns-clause-team c =
    let all : c.members.counter ≡ c.args.count = omega arith in
    rw (c.members.invariant.is.team_is, all) (random-team c.args.from c.args.seed c.args.count (omega arith) (omega arith))
