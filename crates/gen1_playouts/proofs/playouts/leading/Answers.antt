use Rattle.std.proofs.Common.{refl}
use Rattle.std.proofs.lemmas.Bool.{le-ltb, lt-ltb}
use Rattle.gen1_playouts.proofs.playouts.leading.Goals as goal

pub returns-then-two-one : goal.returns-then-two-one
returns-then-two-one c = rw (lt-ltb _ _ c.if-two-one.true) refl

pub returns-then-one-two : goal.returns-then-one-two
returns-then-one-two c = rw (le-ltb _ _ c.if-two-one.false, lt-ltb _ _ c.if-one-two.true) refl

pub returns : goal.returns
returns c = rw (le-ltb _ _ c.if-two-one.false, le-ltb _ _ c.if-one-two.false) refl
