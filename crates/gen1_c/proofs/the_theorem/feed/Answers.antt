use Rattle.std.proofs.Common.{Bor, List, [], ap, arith, length, map, refl, subst, sym, ℕ, ◌<◌, ◌∙◌, ◌≡◌, ◌≤◌}
use Rattle.std.specs.List.{flat_map}
use Rattle.std.proofs.lemmas.List.{take_all}
use Rattle.gen1_machine.specs.State.{first_state}
use Rattle.gen1_machine.specs.Step.{events_of, run}
use Rattle.gen1_machine.specs.View.{View, sees_all}
use Rattle.gen1_machine.proofs.Spectators.{watcher_knows}
use Rattle.gen1_events.specs.Reader.{Reading, IsReading}
use Rattle.gen1_spectator.specs.Plain.{reading_of, view_of, Followed, begun, joined, piece}
use Rattle.gen1_spectator.proofs.Following.{followed_told, joined_reading, told_all, told_no_fault, joined_more, joined_rest, piece_bytes}
use Rattle.gen1_c.proofs.the_theorem.feed.Goals as goal

pub loop-piece-init : goal.loop-piece-init
loop-piece-init c =
    let first = view_of c.args.watch.now in
    (c.requires.valid, subst (λ (r : Reading). Followed first [] r first) (sym c.requires.none) begun)

pub loop-piece-preserved : goal.loop-piece-preserved
loop-piece-preserved c =
    let pieces = c.args.pieces.now in
    let place = c.loop-piece.piece-index in
    let inside : place < length pieces = omega arith in
    let zero : c.gen1_spectator_feed-code.result ≡ 0 = omega (arith, c.if-code-ne0.false) in
    let old = c.loop-piece.watch in
    let new = c.gen1_spectator_feed-code.new.watch in
    let valid = c.loop-piece.invariant.0 in (
      c.gen1_spectator_feed-code.ensures.valid valid,
      subst (λ (l : List ℕ). Followed (view_of c.args.watch.now) l (reading_of new) (view_of new)) (sym (joined_more pieces place _ inside))
          (piece _ (reading_of old) (reading_of new) (view_of old) (view_of new) _ c.loop-piece.invariant.1 (c.gen1_spectator_feed-code.ensures.told valid zero)),
    )

-- a log has no error
pub returns-then-code-ne0-clause-knows : goal.returns-then-code-ne0-clause-knows
returns-then-code-ne0-clause-knows c one two a b first t seed pairs logs read whole =
    let pieces = c.args.pieces.now in
    let place = c.loop-piece.piece-index in
    let inside : place < length pieces = omega arith in
    let answers = (run (first_state t one two seed) pairs).answers in
    let found = c.gen1_spectator_feed-code.ensures.fault c.loop-piece.invariant.0 c.if-code-ne0.true in
    absurd (told_no_fault found.2 found.3 _ _ found.0 (flat_map events_of answers) (joined_reading logs answers read)
    (sym whole ∙ joined_rest pieces place _ inside) (followed_told c.loop-piece.invariant.1) found.4)

pub returns-then-code-ne0-clause-faults : goal.returns-then-code-ne0-clause-faults
returns-then-code-ne0-clause-faults c some =
    let found = c.gen1_spectator_feed-code.ensures.fault c.loop-piece.invariant.0 some in
    (found.0, found.1)

pub returns-clause-knows : goal.returns-clause-knows
returns-clause-knows c one two a b first t seed pairs logs read whole =
    let pieces = c.args.pieces.now in
    let watch = c.loop-piece.watch in
    let all : length pieces ≤ c.loop-piece.piece-index = omega arith in
    let answers = (run (first_state t one two seed) pairs).answers in
    let events = flat_map events_of answers in
    let reading : IsReading (joined (map piece_bytes pieces)) events = subst (λ (l : List ℕ). IsReading l events) (sym whole) (joined_reading logs answers read) in
    let followed : Followed (view_of c.args.watch.now) (joined (map piece_bytes pieces)) (reading_of watch) (view_of watch) =
    subst (λ (l : List (Bor (List ℕ))). Followed (view_of c.args.watch.now) (joined (map piece_bytes l)) (reading_of watch) (view_of watch))
    (take_all c.loop-piece.piece-index pieces all) c.loop-piece.invariant.1 in
    let told = told_all events reading (followed_told followed) in
    (refl, told.0, told.1 ∙ ap (λ (v : View). sees_all events v) first ∙ watcher_knows t one two seed pairs a b)
