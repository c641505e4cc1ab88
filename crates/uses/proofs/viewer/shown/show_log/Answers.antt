use Rattle.std.proofs.Common.{Bor, List, [], arith, length, subst, sym, ℕ, ◌≤◌}
use Rattle.std.specs.List.{flat_map}
use Rattle.std.proofs.lemmas.List.{take_all}
use Rattle.gen1_machine.specs.View.{first_view, View}
use Rattle.gen1_events.specs.Reader.{Reading}
use Rattle.uses.specs.Examples.{HasShown}
use Rattle.uses.proofs.Examples.{shown_first, shown_whole}
use Rattle.uses.proofs.viewer.shown.show_log.Goals as goal

pub loop-piece-init : goal.loop-piece-init
loop-piece-init g c =
    let first = first_view c.args.one.now c.args.two.now in
    let out = g.W.Sink.contents c.args.out.now in
    subst (λ (v : View). HasShown [] c.new-reader.result first v out out) (sym c.new-view.ensures)
    (subst (λ (r : Reading). HasShown [] r first first out out) (sym c.new-reader.ensures) (shown_first first out))

pub returns-in-Ok : goal.returns-in-Ok
returns-in-Ok g c =
    let pieces = c.args.pieces.now in
    let whole = take_all c.loop-piece.piece-index pieces (let k : length pieces ≤ c.loop-piece.piece-index = omega arith in k) in
    let log = flat_map {X = Bor (List ℕ)} {A = ℕ} (λ p. p.now) pieces in
    let first = first_view c.args.one.now c.args.two.now in
    let before = g.W.Sink.contents c.args.out.now in
    let out = g.W.Sink.contents c.loop-piece.out in
    shown_whole log c.loop-piece.reader c.finish.new.self c.in-Ok.field-0 first c.loop-piece.view before out
    (subst (λ (l : List (Bor (List ℕ))). HasShown (flat_map {X = Bor (List ℕ)} {A = ℕ} (λ p. p.now) l) c.loop-piece.reader first c.loop-piece.view before out) whole c.loop-piece.invariant)
    c.in-Ok.ensures
