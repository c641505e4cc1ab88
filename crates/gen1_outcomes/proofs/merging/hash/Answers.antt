use Rattle.std.proofs.Common.{refl}
use Rattle.gen1_outcomes.proofs.merging.hash.Goals as goal

pub returns-clause-value : goal.returns-clause-value
returns-clause-value c =
    rw (c.mixed.ensures, c.with_side.ensures, c.with_side-one.ensures, c.mixed-header.ensures, c.word_at.ensures, c.word_at-2.ensures, c.as_bytes-bytes.ensures.value) refl
