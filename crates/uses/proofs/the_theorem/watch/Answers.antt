use Rattle.std.proofs.Common.{Bor, List, Ok, [], ap, arith, length, map, subst, sym, ℕ, ◌<◌, ◌∙◌, ◌≤◌}
use Rattle.std.specs.List.{flat_map}
use Rattle.std.proofs.lemmas.List.{take_all}
use Rattle.gen1_machine.specs.State.{first_state}
use Rattle.gen1_machine.specs.Step.{events_of, run}
use Rattle.gen1_machine.specs.View.{View, first_view}
use Rattle.gen1_machine.proofs.Spectators.{watcher_knows}
use Rattle.gen1_events.specs.Reader.{Reading, IsReading}
use Rattle.gen1_spectator.specs.Plain.{Followed, begun, joined, piece}
use Rattle.gen1_spectator.proofs.Following.{followed_told, joined_reading, told_all, told_no_fault, joined_more, joined_rest, piece_bytes}
use Rattle.uses.proofs.the_theorem.watch.Goals as goal

pub loop-piece-init : goal.loop-piece-init
loop-piece-init c =
    let first = first_view c.args.one.now c.args.two.now in
    subst (λ (v : View). Followed first [] c.new-reader.result v) (sym c.new-view.ensures)
    (subst (λ (r : Reading). Followed first [] r first) (sym c.new-reader.ensures) begun)

pub loop-piece-preserved : goal.loop-piece-preserved
loop-piece-preserved c =
    let pieces = c.args.pieces.now in
    let place = c.loop-piece.piece-index in
    let inside : place < length pieces = omega arith in
    let first = first_view c.args.one.now c.args.two.now in
    subst (λ (l : List ℕ). Followed first l c.follow.new.reader c.follow.new.self) (sym (joined_more pieces place _ inside))
    (piece _ c.loop-piece.reader c.follow.new.reader c.loop-piece.view c.follow.new.self _ c.loop-piece.invariant c.in_ok-follow.ensures)

-- a log has no error
pub returns-in_err-follow : goal.returns-in_err-follow
returns-in_err-follow c t seed pairs logs read whole =
    let pieces = c.args.pieces.now in
    let place = c.loop-piece.piece-index in
    let inside : place < length pieces = omega arith in
    let answers = (run (first_state t c.args.one.now c.args.two.now seed) pairs).answers in
    absurd (told_no_fault c.follow.new.reader c.follow.new.self _ _ _ (flat_map events_of answers) (joined_reading logs answers read)
    (sym whole ∙ joined_rest pieces place _ inside) (followed_told c.loop-piece.invariant) c.in_err-follow.ensures)

pub returns : goal.returns
returns c t seed pairs logs read whole =
    let one = c.args.one.now in
    let two = c.args.two.now in
    let pieces = c.args.pieces.now in
    let all : length pieces ≤ c.loop-piece.piece-index = omega arith in
    let events = flat_map events_of (run (first_state t one two seed) pairs).answers in
    let reading : IsReading (joined (map piece_bytes pieces)) events = subst (λ (l : List ℕ). IsReading l events) (sym whole) (joined_reading logs (run (first_state t one two seed) pairs).answers read) in
    let followed : Followed (first_view one two) (joined (map piece_bytes pieces)) c.loop-piece.reader c.loop-piece.view =
    subst (λ (l : List (Bor (List ℕ))). Followed (first_view one two) (joined (map piece_bytes l)) c.loop-piece.reader c.loop-piece.view) (take_all c.loop-piece.piece-index pieces all) c.loop-piece.invariant in
    ap Ok ((told_all events reading (followed_told followed)).1 ∙ watcher_knows t one two seed pairs c.members-ones.ensures.team c.members-twos.ensures.team)
