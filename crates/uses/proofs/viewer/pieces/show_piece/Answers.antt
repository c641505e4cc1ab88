use Rattle.std.proofs.Common.{List, subst, ℕ}
use Rattle.std.proofs.lemmas.List.{take_rest}
use Rattle.uses.specs.Examples.{ShowsMore}
use Rattle.uses.proofs.Examples.{none_more, one_more}
use Rattle.uses.proofs.viewer.pieces.show_piece.Goals as goal

pub events-preserved : goal.events-preserved
events-preserved g c = λ last shown written more.
    let rest = c.events.rest.now in
    let n = c.in-Ok.taken in
    let out = g.W.Sink.contents c.show_event.new.out in
    c.events.invariant last shown written
    (one_more c.events.reader c.feed.new.self c.next.new.self rest n c.in-Some.event c.events.view c.show_event.new.view (g.W.Sink.contents c.events.out) out
    c.in-Ok.ensures.feeds c.in-Some.ensures c.in_ok-show_event-in-Some.ensures.told c.in_ok-show_event-in-Some.ensures.printed last shown written
    (subst (λ (l : List ℕ). ShowsMore l c.next.new.self c.show_event.new.view out last shown written) (take_rest rest n) more))

pub returns-in-None : goal.returns-in-None
returns-in-None g c =
    c.events.invariant c.next.new.self c.events.view (g.W.Sink.contents c.events.out)
    (none_more c.events.reader c.feed.new.self c.next.new.self c.events.rest.now c.in-Ok.taken c.events.view (g.W.Sink.contents c.events.out)
    c.in-Ok.ensures.feeds c.in-None.ensures)
