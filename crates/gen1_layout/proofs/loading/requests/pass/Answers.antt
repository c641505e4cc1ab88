use Rattle.std.proofs.Common.{arith}
use Rattle.std.proofs.lemmas.List.{length-take}
use Rattle.gen1_layout.proofs.loading.requests.pass.Goals as goal

pub is_start-requires-clause-header : goal.is_start-requires-clause-header
is_start-requires-clause-header c = omega (arith, length-take 24 c.args.form.now, c.requires.form)

pub is_later-requires-clause-header : goal.is_later-requires-clause-header
is_later-requires-clause-header c = omega (arith, length-take 24 c.args.form.now, c.requires.form)
