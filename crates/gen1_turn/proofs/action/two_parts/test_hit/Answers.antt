use Rattle.gen1_turn.proofs.action.two_parts.test_hit.Goals as goal

pub returns-clause-shown : goal.returns-clause-shown
returns-clause-shown t c told since g p h = c.hit_or_miss.ensures.shown told since g p (rw c.known_at.ensures.is h)
