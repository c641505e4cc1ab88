use Rattle.std.proofs.Common.{length, rules, ◌≡◌}
use Rattle.gen1_c.proofs.Writing.{six_sheets}
use Rattle.gen1_c.proofs.teams.specs_of.Goals as goal

pub returns : goal.returns
returns c =
    let long : length c.args.form.now.members ≡ 6 = search rules in
    six_sheets c.args.form.now _ _ _ _ _ _ _ long c.spec_of.ensures c.spec_of-2.ensures c.spec_of-3.ensures c.spec_of-4.ensures c.spec_of-5.ensures
    c.spec_of-6.ensures
