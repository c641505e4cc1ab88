use Rattle.gen1_outcomes.specs.Middles.{HasNone}
use Rattle.gen1_outcomes.proofs.middles.Middles.find.Given as goal

abbrev pub invariant-places : goal.invariant-places
invariant-places l = record { none : HasNone l.middle l.place l.self.list }
