-- The second action in two parts: where what follows from each place that the first part reaches is listed, what follows from the position before it is.
use Rattle.std.proofs.Common.{◌≡◌, ◌⊎◌, inl, inr, ℕ, ◌*◌, ◌+◌, ◌<◌, ◌≤◌, Bool, false, List, Option, Some, ap, arith, refl, subst, sym, ◌∙◌}
use Rattle.gen1_rolls.specs.Steady.{stream_of}
use Rattle.gen1_rolls.specs.Streams.{Stream}
use Rattle.gen1_machine.specs.Laws.{Tree, drawing_from, leads_to}
use Rattle.gen1_machine.specs.Progress.{Progress}
use Rattle.gen1_machine.specs.State.{Field, State}
use Rattle.gen1_layout.specs.Parts.{Parts, joined}
use Rattle.gen1_outcomes.specs.declared.beginning.Left.{Left}
use Rattle.gen1_outcomes.specs.declared.beginning.Left.TheVariants as lefts
use Rattle.gen1_outcomes.specs.declared.merging.Tally.{Tally}
use Rattle.gen1_outcomes.specs.declared.middles.Middle.{Middle}
use Rattle.gen1_outcomes.specs.declared.nodes.Chance.{Chance}
use Rattle.gen1_outcomes.specs.declared.nodes.Nodes.{Nodes}
use Rattle.gen1_outcomes.specs.declared.successor.OutcomeOptions.{OutcomeOptions}
use Rattle.gen1_outcomes.specs.declared.successor.Successor.{Successor}
use Rattle.gen1_outcomes.specs.Complete.{Extends, FollowsFrom, IsExact, Lists, ListsFrom, Offers}
use Rattle.gen1_outcomes.specs.Plain.{AreOf, Walk}
use Rattle.gen1_outcomes.specs.Listing.{untold}
use Rattle.gen1_outcomes.specs.Logs.{Agrees, place_at}
use Rattle.gen1_outcomes.specs.Middles.{IsReached, ReachesFrom}
use Rattle.gen1_outcomes.specs.Nodes.{IsChance, script_of, scripted}
use Rattle.gen1_outcomes.specs.Weights.{CountsEach, AddsPart, AreEqual, Fraction, HasPart, HasRest, IsTreeFrom, are_of, of_chance, plus, share_of, times}
use Rattle.gen1_outcomes.proofs.Complete.{AreKnown, IsGoingFrom, IsPastFrom, lists_as, past_as, past_way}
use Rattle.gen1_outcomes.proofs.Positions.{at_reached}
use Rattle.gen1_outcomes.proofs.Shifts.{dropped, dropped-is, resumed}
use Rattle.gen1_outcomes.proofs.Stages.{at_on, bytes_test, ends_at, rest_at, tree_dropped, tree_tells}
use Rattle.gen1_outcomes.proofs.Weights.{IsSpentFrom, IsWeighedFrom, by_bytes, grown_times, hits_of, part_as, part_positive, right_positive, same_told, since_all}
use Rattle.gen1_outcomes.proofs.Weighing.{IsSpent, IsWeighed, LeadsRight, spent, weighed_way}

-- A stream that agrees with the way's log goes from each battle at the position to one at the place, so what follows from there on what is left
-- of it follows from the position.
led_follows : (w : Walk) (from : Middle) (nodes after : Nodes) (to : Middle) (reaches : ReachesFrom w from nodes after to) (s : State) (stream : Stream) (parts : Parts)
    → Agrees reaches.way.log stream → FollowsFrom s w.one w.two to.bytes to.rest (dropped (place_at reaches.way.log stream 0) stream) parts
    → FollowsFrom s w.one w.two from.bytes from.rest stream parts
led_follows w from nodes after to reaches s stream parts agrees follows =
    let n = place_at reaches.way.log stream 0 in
    let left : FollowsFrom s w.one w.two to.bytes (Some reaches.left) (dropped n stream) parts =
    subst (λ (rest : Option Left). FollowsFrom s w.one w.two to.bytes rest (dropped n stream) parts) reaches.kept follows
    in
    let here : FollowsFrom s w.one w.two from.bytes (Some (lefts.Second reaches.rest)) stream parts =
    λ p at on begins.
    let goes = reaches.goes s stream agrees p at on begins in
    let place : n ≡ goes.here.drawn = goes.stands in
    let now : FollowsFrom s w.one w.two to.bytes (Some reaches.left) (dropped goes.here.drawn goes.here.stream) parts =
    subst (λ (v : Stream). FollowsFrom s w.one w.two to.bytes (Some reaches.left) (dropped goes.here.drawn v) parts) (sym goes.on)
    (subst (λ (k : ℕ). FollowsFrom s w.one w.two to.bytes (Some reaches.left) (dropped k stream) parts) place left)
    in
    subst (λ (q : Progress). AreOf s parts untold q) (sym goes.rests)
    (resumed s w.one w.two to.bytes reaches.left goes.here parts (record { within = goes.within; ready = goes.ready }) now)
    in
    subst (λ (rest : Option Left). FollowsFrom s w.one w.two from.bytes rest stream parts) (sym reaches.was) here

-- A way is played to a place, from which a battle for every stream is listed.
pub past_led : (w : Walk) (middle : Middle) (nodes after : Nodes) (to : Middle) (before count : ℕ) (xs ys : List Successor) → IsExact w.options → nodes.options ≡ w.options
    → after.too_large ≡ false → ReachesFrom w middle nodes after to → Extends before xs count ys → ((s : State) → Offers w s → ListsFrom w to s count ys)
    → IsGoingFrom w middle nodes before xs → IsPastFrom w middle after count ys
past_led w middle nodes after to before count xs ys exact options fits reaches extends each going =
    let Is = λ (s : State) (stream : Stream) (battle : Parts). FollowsFrom s w.one w.two middle.bytes middle.rest stream battle in
    past_as (Offers w) (λ s stream. Agrees reaches.way.log stream ⊎ Lists (Is s stream) before xs) (λ s stream. Lists (Is s stream) count ys) after
    (λ s of stream is other.
    elim other [
      | inl agrees ↦
          let n = place_at reaches.way.log stream 0 in
          let l = each s of (dropped n stream) (dropped-is n stream is) in
          record {
            place = l.place;
            within = l.within;
            battle = l.battle;
            is = led_follows w middle nodes after to reaches s stream l.battle agrees l.is;
            bytes = l.bytes;
          }
      | inr listed ↦ lists_as (Is s stream) before count xs ys extends listed
    ])
    (past_way (Offers w) (λ s stream. Lists (Is s stream) before xs) (script_of reaches.path) nodes after reaches.way
    (subst (λ (o : OutcomeOptions). IsExact o) (sym options) exact) fits going)

-- A place that a way reaches has a tree.
place_reached : (w : Walk) (middle : Middle) (nodes after : Nodes) (to : Middle) (reaches : ReachesFrom w middle nodes after to) → IsReached w middle
    → (s : State) → Offers w s → (passes : Field → Bool) → HasRest s passes to.bytes reaches.left
place_reached w middle nodes after to reaches reached s of passes =
    let before = at_reached w middle (lefts.Second reaches.rest) reached reaches.was s of in
    let own = reaches.way.own in
    let stream = stream_of scripted (script_of reaches.path) in
    let goes = reaches.goes s stream own (drawing_from stream 0 before.0) (at_on s middle.bytes (lefts.Second reaches.rest) before.0 stream own.is before.1) refl refl in
    rest_at s passes to.bytes reaches.left goes.here (record { within = goes.within; ready = goes.ready })

-- The tree of a place and that of the position say the same of what is listed from the place.
led_right : (w : Walk) (middle : Middle) (nodes after : Nodes) (to : Middle) (reaches : ReachesFrom w middle nodes after to) (s : State) (battle : Parts)
    (passes : Field → Bool) (tree : Tree) (h : HasRest s (are_of s battle) to.bytes reaches.left) (count : ℕ) (xs : List Successor)
    → IsExact nodes.options → after.too_large ≡ false → nodes.at ≡ 0 → AreKnown nodes → after.len ≤ after.at → ListsFrom w to s count xs
    → IsTreeFrom s w.one w.two middle.bytes middle.rest passes battle tree → IsTreeFrom s w.one w.two to.bytes to.rest (are_of s battle) battle h.tree
    → LeadsRight (Unit {0}) (hits_of passes tree) (are_of s battle) after h.tree
led_right w middle nodes after to reaches s battle passes tree h count xs exact fits at known full lists is tells u stream so goes =
    let e = ends_at (script_of reaches.path) nodes after reaches.way exact fits at known full stream so goes in
    let n = place_at reaches.way.log stream 0 in
    let left = dropped n stream in
    let l = lists left (dropped-is n stream so) in
    let test = are_of s battle in
    let here = tells left (dropped-is n stream so) l.battle l.is in
    let there = is stream so l.battle (led_follows w middle nodes after to reaches s stream l.battle e.0 l.is) in
    ap (λ (k : ℕ). test (leads_to h.tree stream k).field) (sym e.1) ∙ ap test (tree_dropped h.tree stream n)
    ∙ same_told (joined l.battle ≡ joined battle) (test (leads_to h.tree left 0).field) (hits_of passes tree stream) here.passed here.of there.passed there.of

-- A way adds its probability times the share of the tree of its place.
pub spent_led : (w : Walk) (middle : Middle) (nodes after : Nodes) (to : Middle) (first old new : Tally) (ws xs ys : List Successor) (reaches : ReachesFrom w middle nodes after to)
    → IsExact w.options → nodes.options ≡ w.options → after.too_large ≡ false → after.len ≤ after.at → nodes.before ≡ middle.chance → IsChance after to.chance
    → IsReached w middle → IsGoingFrom w middle nodes old.count xs → (s : State) → Offers w s → ListsFrom w to s new.count ys → AddsPart w to s old xs new ys
    → IsWeighedFrom by_bytes IsTreeFrom w middle s first ws nodes old xs → IsSpentFrom by_bytes IsTreeFrom w middle s first ws after new ys
spent_led w middle nodes after to first old new ws xs ys reaches exact options fits full before chance reached going s of lists adds weighed battle passes tree is x has = (
  plus z (times sp.0 (share_of h)),
  sp.2,
  part_as battle new ys (plus (plus x (times m z)) (times c (share_of h))) (plus x (times m (plus z (times sp.0 (share_of h)))))
      (grown_times x m z sp.0 c (share_of h) (part_positive battle first ws x has) so_far h.some probability)
      (adds battle (are_of s battle) h.tree tells h.whole h.share h.some h.is (plus x (times m z)) now.2),
)
  where
    form : IsExact nodes.options
    form = subst (λ (o : OutcomeOptions). IsExact o) (sym options) exact

    now : (z : Fraction) × IsWeighed (Unit {0}) (hits_of passes tree) (are_of s battle) nodes z × HasPart battle old xs (plus x (times (of_chance middle.chance) z))
    now = weighed battle passes tree is x has

    z : Fraction
    z = now.0

    m : Fraction
    m = of_chance middle.chance

    c : Fraction
    c = of_chance to.chance

    h : HasRest s (are_of s battle) to.bytes reaches.left
    h = place_reached w middle nodes after to reaches reached s of (are_of s battle)

    tells : IsTreeFrom s w.one w.two to.bytes to.rest (are_of s battle) battle h.tree
    tells =
        subst (λ (rest : Option Left). IsTreeFrom s w.one w.two to.bytes rest (are_of s battle) battle h.tree) (sym reaches.kept)
        (tree_tells w s battle (are_of s battle) to.bytes reaches.left (bytes_test s battle) h)

    sp : (part : Fraction) × AreEqual (of_chance to.chance) (times (of_chance after.before) part)
        × IsSpent (Unit {0}) (hits_of passes tree) (are_of s battle) after (plus z (times part (share_of h))) × (0 < part.whole)
    sp =
        spent (Unit {0}) (hits_of passes tree) (are_of s battle) after z to.chance h.tree h.whole h.share
        (weighed_way (Unit {0}) (hits_of passes tree) (are_of s battle) (script_of reaches.path) nodes after z reaches.way form fits going.at going.known now.1)
        chance h.some h.is
        (led_right w middle nodes after to reaches s battle passes tree h new.count ys form fits going.at going.known full lists is tells)

    since : after.before ≡ middle.chance
    since = since_all reaches.way.log nodes after reaches.way.noted ∙ before

    probability : AreEqual c (times m sp.0)
    probability = subst (λ (a : Chance). AreEqual c (times (of_chance a) sp.0)) since sp.1

    both : 0 < x.whole * (m.whole * z.whole)
    both = part_positive battle old xs (plus x (times m z)) now.2

    so_far : 0 < z.whole
    so_far = right_positive m.whole z.whole (right_positive x.whole (m.whole * z.whole) both)

-- The probability before the draws stays on a way.
pub since_led : (w : Walk) (middle : Middle) (nodes after : Nodes) (to : Middle) → ReachesFrom w middle nodes after to → nodes.before ≡ middle.chance
    → after.before ≡ middle.chance
since_led w middle nodes after to reaches before = since_all reaches.way.log nodes after reaches.way.noted ∙ before

-- More ways are counted for each that is played, as many as before.
pub counts_then : (ways also : ℕ) (first old new : Tally) → also ≡ ways → CountsEach ways first old → CountsEach also old new → CountsEach ways first new
counts_then ways also first old new same one then =
    (one.0 + then.0, omega (arith, one.1, then.1, ap (λ (n : ℕ). then.0 * n) same))
