use Rattle.gen1_machine.specs.Moves.{move_at}
use Rattle.gen1_machine.specs.HitTest.{miss_event, note_miss}
use Rattle.gen1_layout.proofs.Chain.{noted}
use Rattle.gen1_hits.proofs.hit_tests.note_miss.Goals as goal

pub returns-clause-shown : goal.returns-clause-shown
unfolding note_miss
returns-clause-shown t c g p h = noted h (miss_event c.args.side (move_at c.args.id)) c.push.ensures.told (c.miss_event.ensures.stands _ _ h.within)
