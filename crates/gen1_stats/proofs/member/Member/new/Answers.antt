use Rattle.std.proofs.Common.{None, arith, length, refl, rules, subst, sym, ◌≡◌, ◌≤◌}
use Rattle.gen1_stats.proofs.Ranges.{allowed, member_of-ranges, ups_allowed}
use Rattle.gen1_stats.specs.Members.{begun, IsMember}
use Rattle.gen1_stats.specs.Teams.{member_of, member_refusal}
use Rattle.gen1_stats.proofs.member.Member.new.Goals as goal

pub known_moves-requires-clause-ups : goal.known_moves-requires-clause-ups
known_moves-requires-clause-ups c =
    let none : member_refusal c.args.place c.args.spec.now ≡ None = search rules in
    let same : c.as_slice.result.now ≡ c.args.spec.now.moves = search rules in
    rw same (ups_allowed c.args.spec.now (allowed c.args.place c.args.spec.now none))

pub invariant_of-result : goal.invariant_of-result
invariant_of-result c =
    let none : member_refusal c.args.place c.args.spec.now ≡ None = search rules in
    let few : length c.args.spec.now.moves ≤ 4 = search rules in
    let made : begun record {
      species = c.spec.inside.species;
      level = c.spec.inside.level;
      max_hp = c.hp_stat.result;
      attack = c.stat.result;
      defense = c.stat-2.result;
      speed = c.stat-3.result;
      special = c.stat-4.result;
      moves = c.known_moves.result;
    } ≡ member_of c.args.spec.now = search rules in
    record {
      member = subst IsMember (sym made) (member_of-ranges c.args.spec.now (allowed c.args.place c.args.spec.now none) few);
      species = (omega (arith, c.number.ensures), omega (arith, c.number.ensures));
      moves = c.known_moves.ensures.listed;
      unhurt = refl;
      healthy = refl;
    }

pub returns-clause-fresh : goal.returns-clause-fresh
returns-clause-fresh c = invariant_of-result c
