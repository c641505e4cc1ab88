use Rattle.std.proofs.Common.{[], ap, ◌∙◌}
use Rattle.std.specs.Prelude.{slice_index_or}
use Rattle.gen1_text.specs.Packed.{field}
use Rattle.gen1_text.specs.MemberLines.{pieces_left}
use Rattle.gen1_text.proofs.packed.field.Goals as goal

pub loop-piece-init : goal.loop-piece-init
unfolding field
loop-piece-init c = ap (λ pieces. slice_index_or pieces c.args.number []) (ap pieces_left c.into_iter-piece-iterator.ensures.into_iter_gives ∙ c.new-piece-items.ensures)
