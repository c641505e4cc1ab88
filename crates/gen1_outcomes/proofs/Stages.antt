-- The first part of a turn of two actions: which probabilities are listed, and which are those of positions that are still to be played on from.
use Rattle.std.proofs.Common.{◌≡◌, ◌≢◌, ◌⊎◌, inl, inr, ℕ, zero, suc, ◌*◌, ◌+◌, ◌<◌, ◌==◌, ◌≤◌, Bool, true, false, if◌then◌else◌, Err, IfOk, Ok, Result, List, Option, Some, add-one, ap, ap₂, arith, get_or, length, refl, subst, sym, ◌∙◌}
use Rattle.std.proofs.lemmas.Bool.{false≢true}
use Rattle.std.proofs.lemmas.Nat.{mul-le}
use Rattle.std.proofs.lemmas.Slice.Eq.{bytes_eq-Decides}
use Rattle.gen1_rolls.specs.Streams.{IsStream, Stream}
use Rattle.gen1_rolls.specs.Steady.{stream_of}
use Rattle.gen1_machine.specs.declared.side.Choice.{Choice}
use Rattle.gen1_machine.specs.Laws.{IsShare, Tree, drawing_from, leads_to}
use Rattle.gen1_machine.specs.Progress.{Progress}
use Rattle.gen1_machine.specs.Ruling.{ruling_of}
use Rattle.gen1_machine.specs.State.{Field, State}
use Rattle.gen1_machine.specs.Step.{close_update, opened, update, update_for}
use Rattle.gen1_machine.specs.declared.terms.Request.{Request}
use Rattle.gen1_machine.proofs.Shares.{shares_are_probabilities}
use Rattle.gen1_layout.specs.Parts.{Parts, joined}
use Rattle.gen1_layout.specs.Shows.{blocks_of, setting_of, state_in}
use Rattle.gen1_engine.proofs.Making.{both_move, plays_turn}
use Rattle.gen1_outcomes.specs.declared.beginning.Left.{Left}
use Rattle.gen1_outcomes.specs.declared.beginning.Left.TheVariants as lefts
use Rattle.gen1_outcomes.specs.declared.successor.OutcomesFault.{OutcomesFault}
use Rattle.gen1_outcomes.specs.declared.merging.Tally.{Tally}
use Rattle.gen1_outcomes.specs.declared.middles.Middle.{Middle}
use Rattle.gen1_outcomes.specs.declared.middles.Middles.{Middles}
use Rattle.gen1_outcomes.specs.declared.nodes.Chance.{Chance}
use Rattle.gen1_outcomes.specs.declared.nodes.Nodes.{Nodes}
use Rattle.gen1_outcomes.specs.declared.successor.OutcomeOptions.{OutcomeOptions}
use Rattle.gen1_outcomes.specs.declared.outcomes.Outcomes.{Outcomes}
use Rattle.gen1_outcomes.specs.declared.explorer.Script.{Script}
use Rattle.gen1_outcomes.specs.declared.successor.Successor.{Successor}
use Rattle.gen1_outcomes.specs.Beginning.{left_of}
use Rattle.gen1_outcomes.specs.Complete.{FollowsFrom, GoesBy, IsExact, ListsFrom, Offers, OffersTwo, place_before}
use Rattle.gen1_outcomes.specs.Plain.{Walk, turn_on}
use Rattle.gen1_outcomes.specs.Listing.{battle_at}
use Rattle.gen1_outcomes.specs.Logs.{Agrees, AllFit, IsLogged, place_at}
use Rattle.gen1_outcomes.specs.Middles.{AreDistinct, Arrives, Gets, IsAdded, IsAt, IsPut, Joins, Reaches}
use Rattle.gen1_outcomes.specs.Nodes.{AllDone, IsChance, LeadsOn, asked_at, script_of, scripted}
use Rattle.gen1_outcomes.specs.Weights.{weight_at, AddsPart, AddsPending, AddsUpdate, AreAlikeFrom, AreEqual, ArePending, Fraction, HasPart, HasProbabilities, HasRest, IsAlikeFrom, IsPartOf, IsTestOf, IsTreeFrom, Keeps, KeepsPending, are_of, nothing, of_chance, plus, share_of, sum_of_parts, times, unit}
use Rattle.gen1_outcomes.proofs.Complete.{AreKnown, ListsFromEach, all_noted, some_middle}
use Rattle.gen1_outcomes.proofs.Fractions.{equal-refl, equal-sym, equal-trans, nothing-plus, plus-assoc, plus-comm, plus-equal, plus-nothing, plus-positive, plus-times, sum-plus, times-equal, times-positive, unit-times}
use Rattle.gen1_outcomes.proofs.Lists.{same_or}
use Rattle.gen1_outcomes.proofs.Shifts.{arrives_by, arrives_there, dropped, dropped-is, phase-restarted, ready_on, rest-tree, tree-dropped, uses_moves}
use Rattle.gen1_outcomes.proofs.Exchange.{shares_by_test}
use Rattle.gen1_outcomes.proofs.Walking.{some_node}
use Rattle.gen1_outcomes.proofs.Weights.{part_as, since_all}
use Rattle.gen1_outcomes.proofs.Weighing.{IsSpent, IsWeighed, IsWhole, LeadsRight, spent, weighed_all, weighed_as, weighed_first, weighed_next, weighed_way}

-- What a turn leads to on a stream passes a test or not.
abbrev pub hits_of : Walk → State → (Field → Bool) → Stream → Bool
hits_of w s passes stream = passes (turn_on s w.one w.two stream 0).field

some_same : (a b : Left) → Some a ≡ Some b → a ≡ b
some_same a b e = cc

-- From a place of a stream the rest of a turn leads to what it leads to on the rest of the stream from its beginning.
rest_dropped : (rest : Left) (s : State) (p : Progress) (stream : Stream) → p.stream ≡ stream
    → (left_of rest (ruling_of s.terms) p).field ≡ (left_of rest (ruling_of s.terms) (drawing_from (dropped p.drawn stream) 0 p)).field
rest_dropped rest s p stream on =
    ap (λ (q : Progress). q.field) (phase-restarted (rest-tree rest s.terms) p)
    ∙ ap (λ (v : Stream). (left_of rest (ruling_of s.terms) (drawing_from (dropped p.drawn v) 0 p)).field) on

pub tree_dropped : (t : Tree) (stream : Stream) (n : ℕ) → (leads_to t stream n).field ≡ (leads_to t (dropped n stream) 0).field
tree_dropped t stream n =
    let same : n ≡ n + 0 = omega arith in
    ap (λ (k : ℕ). (leads_to t stream k).field) same ∙ ap (λ (q : Progress). q.field) (tree-dropped t stream n 0)

-- The tree from a position leads right on a stream on which the turn arrives there.
arrived_right : (w : Walk) (s : State) (passes : Field → Bool) (stream : Stream) (middle : Middle) (bytes : List ℕ) (rest : Left) → IsStream stream
    → middle.bytes ≡ bytes → middle.rest ≡ Some rest
    → (a : Arrives s w.one w.two stream middle) (h : HasRest s passes bytes rest) → IsAlikeFrom s passes bytes rest
    → passes (leads_to h.tree stream a.here.drawn).field ≡ hits_of w s passes stream
arrived_right w s passes stream middle bytes rest is same kept a h alike =
    let n = a.here.drawn in
    let v = dropped n stream in
    let whose : a.rest ≡ rest = some_same a.rest rest (sym a.kept ∙ kept) in
    let at : IsAt s bytes rest a.here =
    subst (λ (r : Left). IsAt s bytes r a.here) whose (subst (λ (x : List ℕ). IsAt s x a.rest a.here) same a.at)
    in
    let turn : (turn_on s w.one w.two stream 0).field ≡ (left_of rest (ruling_of s.terms) (drawing_from v 0 a.here)).field =
    ap (λ (q : Progress). q.field) a.rests ∙ rest_dropped a.rest s a.here stream a.on
    ∙ ap (λ (r : Left). (left_of r (ruling_of s.terms) (drawing_from v 0 a.here)).field) whose
    in
    ap passes (tree_dropped h.tree stream n ∙ sym (ap (λ (q : Progress). q.field) (h.leads v 0)))
    ∙ alike h.here a.here h.at at v (dropped-is n stream is)
    ∙ sym (ap passes turn)

-- A position at which a battle is has a tree.
pub rest_at : (s : State) (passes : Field → Bool) (bytes : List ℕ) (rest : Left) (p : Progress) → IsAt s bytes rest p → HasRest s passes bytes rest
rest_at s passes bytes rest p at =
    let t = rest-tree rest s.terms in
    let some = (shares_are_probabilities (t.tree p)).some in
    let x = some.1.1 passes in
    record {
      here = p;
      at = at;
      tree = t.tree p;
      leads = λ stream n. t.leads p stream n;
      whole = some.0;
      share = x.0;
      some = some.1.0;
      is = x.1;
    }

-- So has one that a way reaches.
rest_reached : (w : Walk) (nodes after : Nodes) (middle : Middle) (reaches : Reaches w nodes after middle) (s : State) → OffersTwo w s → (passes : Field → Bool)
    → HasRest s passes middle.bytes (lefts.Second reaches.rest)
rest_reached w nodes after middle reaches s of passes =
    let a = arrives_by w nodes after middle reaches s of (stream_of scripted (script_of reaches.path)) reaches.way.own in
    let whose : a.rest ≡ lefts.Second reaches.rest = some_same a.rest (lefts.Second reaches.rest) (sym a.kept ∙ reaches.kept) in
    subst (λ (r : Left). HasRest s passes middle.bytes r) whose (rest_at s passes middle.bytes a.rest a.here a.at)

-- Sums of parts.

parts_positive : (n : ℕ) (f : ℕ → Fraction) → ((k : ℕ) → k < n → 0 < (f k).whole) → 0 < (sum_of_parts n f).whole
unfolding sum_of_parts
parts_positive zero f some = omega arith
parts_positive (suc n) f some = plus-positive (sum_of_parts n f) (f n) (parts_positive n f (λ k lt. some k (omega (arith, lt)))) (some n (omega arith))

parts_same : (n : ℕ) (f g : ℕ → Fraction) → ((k : ℕ) → k < n → AreEqual (f k) (g k)) → AreEqual (sum_of_parts n f) (sum_of_parts n g)
unfolding sum_of_parts
parts_same zero f g same = equal-refl nothing (omega arith)
parts_same (suc n) f g same = plus-equal (parts_same n f g (λ k lt. same k (omega (arith, lt)))) (same n (omega arith))

-- A part more.
parts_then : (n : ℕ) (f g : ℕ → Fraction) → ((k : ℕ) → k < n → AreEqual (g k) (f k)) → 0 < (g n).whole
    → AreEqual (sum_of_parts (suc n) g) (plus (sum_of_parts n f) (g n))
unfolding sum_of_parts
parts_then n f g same some = plus-equal (parts_same n g f same) (equal-refl (g n) some)

moved_last : (a b x : Fraction) → 0 < a.whole → 0 < b.whole → 0 < x.whole → AreEqual (plus (plus a x) b) (plus (plus a b) x)
moved_last a b x p q r =
    equal-trans (plus-assoc a x b p r q)
    (equal-trans (plus-equal (equal-refl a p) (plus-comm x b r q)) (equal-sym (plus-assoc a b x p q r)))

-- One of the parts has something more.
parts_more : (n m : ℕ) (f g : ℕ → Fraction) (x : Fraction) → m < n → 0 < x.whole → ((k : ℕ) → k < n → 0 < (f k).whole)
    → ((k : ℕ) → k < n → k ≢ m → AreEqual (g k) (f k)) → AreEqual (g m) (plus (f m) x)
    → AreEqual (sum_of_parts n g) (plus (sum_of_parts n f) x)
unfolding sum_of_parts
parts_more zero m f g x lt px some same here = absurd (omega (arith, lt))
parts_more (suc n) m f g x lt px some same here =
    let before : 0 < (sum_of_parts n f).whole = parts_positive n f (λ k less. some k (omega (arith, less))) in
    let last : 0 < (f n).whole = some n (omega arith) in
    elim (same_or m n) [
      | inl is ↦
          let there : AreEqual (g n) (plus (f n) x) = subst (λ (k : ℕ). AreEqual (g k) (plus (f k) x)) is here in
          equal-trans
          (plus-equal (parts_same n g f (λ k less. same k (omega (arith, less)) (λ e. omega (arith, e, is, less)))) there)
          (equal-sym (plus-assoc (sum_of_parts n f) (f n) x before last px))
      | inr other ↦
          let rest = parts_more n m f g x (omega (arith, lt, other)) px (λ k less. some k (omega (arith, less))) (λ k less. same k (omega (arith, less))) here in
          equal-trans
          (plus-equal rest (same n (omega arith) (λ e. other (sym e))))
          (moved_last (sum_of_parts n f) (f n) x before last px)
    ]

abbrev with_part : ℕ → Fraction → (ℕ → Fraction) → ℕ → Fraction
with_part n x f k = if k == n then x else f k

with_here : (n : ℕ) (x : Fraction) (f : ℕ → Fraction) → with_part n x f n ≡ x
with_here n x f = by (n == n) refl
  where
    by : (t : Bool) → (n == n) ≡ t → (if t then x else f n) ≡ x
    by true e = refl
    by false e = absurd (grind (arith, e))

with_other : (n : ℕ) (x : Fraction) (f : ℕ → Fraction) (k : ℕ) → k ≢ n → with_part n x f k ≡ f k
with_other n x f k ne = by (k == n) refl
  where
    by : (t : Bool) → (k == n) ≡ t → (if t then x else f k) ≡ f k
    by true e = absurd (let is : k ≡ n = grind (arith, e) in ne is)
    by false e = refl

-- Kept positions.

part_positive : (s : State) (passes : Field → Bool) (middles : Middles) (k : ℕ) (x : Fraction) → IsPartOf s passes middles k x → 0 < x.whole
part_positive s passes middles k x is = (is.part some_middle).one

place_as : (s : State) (passes : Field → Bool) (old new : Middles) (k : ℕ) (x : Fraction) → ((past : Middle) → get_or new.list k past ≡ get_or old.list k past)
    → IsPartOf s passes old k x → IsPartOf s passes new k x
place_as s passes old new k x e is =
    record {
      bytes = is.bytes;
      rest = is.rest;
      from = is.from;
      same = λ past. ap (λ (m : Middle). m.bytes) (e past) ∙ is.same past;
      kept = λ past. ap (λ (m : Middle). m.rest) (e past) ∙ is.kept past;
      part = λ past. subst (λ (m : Middle). AreEqual x (times (of_chance m.chance) (share_of is.from))) (sym (e past)) (is.part past);
    }

pub pending_none : (s : State) (passes : Field → Bool) (middles : Middles) → middles.len ≡ 0 → ArePending s passes middles nothing
unfolding sum_of_parts
pending_none s passes middles none =
    record {
      part = λ k. nothing;
      each = λ k lt. absurd (omega (arith, lt, none));
      sum = subst (λ (n : ℕ). AreEqual nothing (sum_of_parts n (λ k. nothing))) (sym none) (equal-refl nothing (omega arith));
    }

pub pending_same : (s : State) (passes : Field → Bool) (middles : Middles) (x y : Fraction) → AreEqual x y → ArePending s passes middles x → ArePending s passes middles y
pending_same s passes middles x y e is = record { part = is.part; each = is.each; sum = equal-trans (equal-sym e) is.sum }

-- A position that is added has a share, and its part becomes one of the sum.
record GetsPart (s : State) (passes : Field → Bool) (middle : Middle) (new : Middles) (y : Fraction) : Type 0 where
  bytes : List ℕ
  rest : Left
  from : HasRest s passes bytes rest
  same : middle.bytes ≡ bytes
  kept : middle.rest ≡ Some rest
  place : ℕ
  within : place < new.len
  there : (past : Middle) → (get_or new.list place past).bytes ≡ bytes
  also : (past : Middle) → (get_or new.list place past).rest ≡ Some rest
  pending : ArePending s passes new (plus y (times (of_chance middle.chance) (share_of from)))

put_part : (s : State) (passes : Field → Bool) (middle : Middle) (old new : Middles) (y : Fraction) (rest : Left) → IsPut middle old new → middle.rest ≡ Some rest
    → HasRest s passes middle.bytes rest → ArePending s passes old y → GetsPart s passes middle new y
put_part s passes middle old new y rest put kept h pending =
    let x = times (of_chance middle.chance) (share_of h) in
    let px : 0 < x.whole = times-positive (of_chance middle.chance) (share_of h) middle.chance.positive h.some in
    let f = pending.part in
    let g = with_part old.len x f in
    let last : IsPartOf s passes new old.len x =
    record {
      bytes = middle.bytes;
      rest = rest;
      from = h;
      same = λ past. ap (λ (m : Middle). m.bytes) (put.here past);
      kept = λ past. ap (λ (m : Middle). m.rest) (put.here past) ∙ kept;
      part = λ past. subst (λ (m : Middle). AreEqual x (times (of_chance m.chance) (share_of h))) (sym (put.here past)) (equal-refl x px);
    }
    in
    let here : g old.len ≡ x = with_here old.len x f in
    let sums : AreEqual (sum_of_parts (suc old.len) g) (plus (sum_of_parts old.len f) (g old.len)) =
    parts_then old.len f g
    (λ k lt. subst (λ (z : Fraction). AreEqual z (f k)) (sym (with_other old.len x f k (λ e. omega (arith, e, lt)))) (equal-refl (f k) (part_positive s passes old k (f k) (pending.each k lt))))
    (subst (λ (z : Fraction). 0 < z.whole) (sym here) px)
    in
    let long : suc old.len ≡ new.len = omega (arith, put.length) in
    record {
      bytes = middle.bytes;
      rest = rest;
      from = h;
      same = refl;
      kept = kept;
      place = old.len;
      within = omega (arith, put.length);
      there = last.same;
      also = last.kept;
      pending = record {
        part = g;
        each = λ k lt.
            elim (same_or k old.len) [
              | inl is ↦ subst (λ (j : ℕ). IsPartOf s passes new j (g j)) (sym is) (subst (λ (z : Fraction). IsPartOf s passes new old.len z) (sym here) last)
              | inr other ↦
                  let less : k < old.len = omega (arith, lt, other, put.length) in
                  subst (λ (z : Fraction). IsPartOf s passes new k z) (sym (with_other old.len x f k other))
                  (place_as s passes old new k (f k) (λ past. put.before k past less) (pending.each k less))
            ];
        sum = equal-trans (plus-equal pending.sum (equal-refl x px))
            (equal-sym (subst (λ (n : ℕ). AreEqual (sum_of_parts n g) (plus (sum_of_parts old.len f) x)) long
            (subst (λ (z : Fraction). AreEqual (sum_of_parts (suc old.len) g) (plus (sum_of_parts old.len f) z)) here sums)));
      };
    }

joins_part : (s : State) (passes : Field → Bool) (middle : Middle) (old new : Middles) (y : Fraction) → Joins middle old new
    → ArePending s passes old y → GetsPart s passes middle new y
joins_part s passes middle old new y joins pending =
    let place = joins.place in
    let was = pending.each place joins.within in
    let h = was.from in
    let x = times (of_chance middle.chance) (share_of h) in
    let px : 0 < x.whole = times-positive (of_chance middle.chance) (share_of h) middle.chance.positive h.some in
    let f = pending.part in
    let more = plus (f place) x in
    let g = with_part place more f in
    let pf : 0 < (f place).whole = part_positive s passes old place (f place) was in
    let pm : 0 < more.whole = plus-positive (f place) x pf px in
    let now : IsPartOf s passes new place more =
    record {
      bytes = was.bytes;
      rest = was.rest;
      from = h;
      same = λ past. (joins.here past).bytes ∙ was.same past;
      kept = λ past. (joins.here past).rest ∙ was.kept past;
      part = λ past.
          let before = get_or old.list place past in
          let after = get_or new.list place past in
          equal-trans (plus-equal (was.part past) (equal-refl x px))
          (equal-trans (equal-sym (plus-times (of_chance before.chance) (of_chance middle.chance) (share_of h) before.chance.positive middle.chance.positive h.some))
          (times-equal (equal-sym (sum-plus before.chance middle.chance after.chance (joins.here past).chance)) (equal-refl (share_of h) h.some)));
    }
    in
    let here : g place ≡ more = with_here place more f in
    let sums : AreEqual (sum_of_parts old.len g) (plus (sum_of_parts old.len f) x) =
    parts_more old.len place f g x joins.within px (λ k lt. part_positive s passes old k (f k) (pending.each k lt))
    (λ k lt other. subst (λ (z : Fraction). AreEqual z (f k)) (sym (with_other place more f k other)) (equal-refl (f k) (part_positive s passes old k (f k) (pending.each k lt))))
    (subst (λ (z : Fraction). AreEqual z more) (sym here) (equal-refl more pm))
    in
    record {
      bytes = was.bytes;
      rest = was.rest;
      from = h;
      same = sym (joins.alike some_middle).bytes ∙ was.same some_middle;
      kept = sym (joins.alike some_middle).rest ∙ was.kept some_middle;
      place = place;
      within = omega (arith, joins.within, joins.length);
      there = now.same;
      also = now.kept;
      pending = record {
        part = g;
        each = λ k lt.
            elim (same_or k place) [
              | inl is ↦ subst (λ (j : ℕ). IsPartOf s passes new j (g j)) (sym is) (subst (λ (z : Fraction). IsPartOf s passes new place z) (sym here) now)
              | inr other ↦
                  subst (λ (z : Fraction). IsPartOf s passes new k z) (sym (with_other place more f k other))
                  (place_as s passes old new k (f k) (λ past. joins.others k past other) (pending.each k (omega (arith, lt, joins.length))))
            ];
        sum = equal-trans (plus-equal pending.sum (equal-refl x px))
            (equal-sym (subst (λ (n : ℕ). AreEqual (sum_of_parts n g) (plus (sum_of_parts old.len f) x)) (sym joins.length) sums));
      };
    }

added_part : (s : State) (passes : Field → Bool) (middle : Middle) (old new : Middles) (y : Fraction) (rest : Left) → IsAdded middle old new → middle.rest ≡ Some rest
    → HasRest s passes middle.bytes rest → ArePending s passes old y → GetsPart s passes middle new y
added_part s passes middle old new y rest (inl joins) kept h pending = joins_part s passes middle old new y joins pending
added_part s passes middle old new y rest (inr put) kept h pending = put_part s passes middle old new y rest put kept h pending

-- Positions that are alike stay so in a shorter list.
alike_as : (s : State) (passes : Field → Bool) (old new : Middle) → new.bytes ≡ old.bytes → new.rest ≡ old.rest
    → ((rest : Left) → new.rest ≡ Some rest → IsAlikeFrom s passes new.bytes rest) → (rest : Left) → old.rest ≡ Some rest → IsAlikeFrom s passes old.bytes rest
alike_as s passes old new bytes kept alike rest is =
    subst (λ (x : List ℕ). IsAlikeFrom s passes x rest) bytes (alike rest (kept ∙ is))

alike_before : (s : State) (passes : Field → Bool) (middle : Middle) (old new : Middles) → IsAdded middle old new → AreAlikeFrom s passes new → AreAlikeFrom s passes old
alike_before s passes middle old new (inl joins) alike k past rest lt =
    let inside : k < new.len = omega (arith, lt, joins.length) in
    elim (same_or k joins.place) [
      | inl is ↦
          let gets = subst (λ (j : ℕ). Gets middle (get_or old.list j past) (get_or new.list j past)) (sym is) (joins.here past) in
          alike_as s passes (get_or old.list k past) (get_or new.list k past) gets.bytes gets.rest (λ r. alike k past r inside) rest
      | inr other ↦
          let same = joins.others k past other in
          alike_as s passes (get_or old.list k past) (get_or new.list k past) (ap (λ (m : Middle). m.bytes) same) (ap (λ (m : Middle). m.rest) same)
          (λ r. alike k past r inside) rest
    ]
alike_before s passes middle old new (inr put) alike k past rest lt =
    let same = put.before k past lt in
    alike_as s passes (get_or old.list k past) (get_or new.list k past) (ap (λ (m : Middle). m.bytes) same) (ap (λ (m : Middle). m.rest) same)
    (λ r. alike k past r (omega (arith, lt, put.length))) rest

-- A way whose draws end with those that are noted: each stream that goes by them agrees with its log, which ends where they do.
pub ends_at : (script : Script) (nodes after : Nodes) (way : IsLogged script nodes after) → IsExact nodes.options → after.too_large ≡ false
    → nodes.at ≡ 0 → AreKnown nodes → after.len ≤ after.at → (stream : Stream) → IsStream stream → GoesBy after stream
    → Agrees way.log stream × (place_at way.log stream 0 ≡ place_before (asked_at after) stream after.len)
ends_at script nodes after way exact fits at known full stream is goes =
    let noted =
    all_noted way.log nodes after known (omega (arith, at)) exact fits way.noted
    in
    let end : after.at ≡ after.len = omega (arith, full, noted.within) in (
      record {
        is = is;
        fit = subst (λ (k : ℕ). AllFit way.log stream (place_before (asked_at after) stream k)) at (noted.fits stream is some_node goes);
      },
      subst (λ (k : ℕ). place_at way.log stream (place_before (asked_at after) stream k) ≡ place_before (asked_at after) stream after.at) at (noted.place stream)
          ∙ ap (place_before (asked_at after) stream) end,
    )

leaf_right : (w : Walk) (s : State) (passes : Field → Bool) (nodes after : Nodes) (middle : Middle) (new : Middles) (y : Fraction) (reaches : Reaches w nodes after middle)
    → OffersTwo w s → IsExact nodes.options → after.too_large ≡ false → nodes.at ≡ 0 → AreKnown nodes → after.len ≤ after.at
    → (got : GetsPart s passes middle new y) → LeadsRight (AreAlikeFrom s passes new) (hits_of w s passes) passes after got.from.tree
leaf_right w s passes nodes after middle new y reaches of exact fits at known full got alike stream is goes =
    let e = ends_at (script_of reaches.path) nodes after reaches.way exact fits at known full stream is goes in
    let a = arrives_by w nodes after middle reaches s of stream e.0 in
    let there = arrives_there w nodes after middle reaches s of stream e.0 in
    let from : IsAlikeFrom s passes got.bytes got.rest =
    subst (λ (x : List ℕ). IsAlikeFrom s passes x got.rest) (got.there some_middle) (alike got.place some_middle got.rest got.within (got.also some_middle))
    in
    ap (λ (k : ℕ). passes (leads_to got.from.tree stream k).field) (sym e.1 ∙ there)
    ∙ arrived_right w s passes stream middle got.bytes got.rest is got.same got.kept a got.from from

-- Parts of a list.

zero_some : (n : ℕ) → (n ≡ 0) ⊎ (0 < n)
zero_some n = grind arith

both_some : (a b : ℕ) → 0 < a * b → (0 < a) × (0 < b)
both_some a b some =
    elim (zero_some a) [
      | inl none ↦ absurd (omega (arith, some, ap (λ (x : ℕ). x * b) none))
      | inr one ↦ elim (zero_some b) [
        | inl none ↦ absurd (omega (arith, some, ap (λ (x : ℕ). a * x) none))
        | inr other ↦ (one, other)
      ]
    ]

has_positive : (battle : Parts) (t : Tally) (xs : List Successor) (x : Fraction) → HasPart battle t xs x → 0 < x.whole
has_positive battle t xs x is =
    elim is.part [
      | inl there ↦ (there.part (record { battle = battle; low = 0; high = 0 })).one
      | inr none ↦ none.nothing.one
    ]

-- Part of the probability of a battle is listed, and the rest is that of the kept positions, if these are alike.
pub record IsShared (Is : Type 0 → Fraction → Type 0) (s : State) (passes : Field → Bool) (battle : Parts) (middles : Middles) (t : Tally) (xs : List Successor) (x : Fraction) : Type 0 where
  pub here : Fraction
  pub left : Fraction
  pub all : Fraction
  pub list : HasPart battle t xs (plus x here)
  pub pending : ArePending s passes middles left
  pub weighed : Is (AreAlikeFrom s passes middles) all
  pub sum : AreEqual all (plus here left)

-- It is so before and after a way of the first part, for each battle.
abbrev pub AreShared : (Nodes → Type 0 → (Stream → Bool) → (Field → Bool) → Fraction → Type 0) → Walk → Nodes → Middles → Tally → List Successor → Tally → List Successor → Type 0
AreShared Is w nodes middles first ws t xs =
    (s : State) → OffersTwo w s → (battle : Parts) → (passes : Field → Bool) → IsTestOf s battle passes
    → (x : Fraction) → HasPart battle first ws x → IsShared (λ Q z. Is nodes Q (hits_of w s passes) passes z) s passes battle middles t xs x

abbrev pub AreGoing : Walk → Nodes → Middles → Tally → List Successor → Tally → List Successor → Type 0
AreGoing = AreShared (λ nodes Q hits passes z. IsWeighed Q hits passes nodes z)

abbrev pub ArePast : Walk → Nodes → Middles → Tally → List Successor → Tally → List Successor → Type 0
ArePast = AreShared (λ nodes Q hits passes z. IsSpent Q hits passes nodes z)

pub shared_first : (w : Walk) (nodes : Nodes) (middles : Middles) (t : Tally) (xs : List Successor) → nodes.len ≡ 0 → middles.len ≡ 0 → AreGoing w nodes middles t xs t xs
shared_first w nodes middles t xs empty none s of battle passes test x part =
    let px = has_positive battle t xs x part in
    record {
      here = nothing;
      left = nothing;
      all = nothing;
      list = part_as battle t xs x (plus x nothing) (equal-sym (plus-nothing x px)) part;
      pending = pending_none s passes middles none;
      weighed = weighed_first (AreAlikeFrom s passes middles) (hits_of w s passes) passes nodes empty;
      sum = equal-sym (plus-nothing nothing (omega arith));
    }

-- What one sum is of, where its parts are sums.
shared_sum : (all here left listed more c part share : Fraction) → AreEqual all (plus here left) → AreEqual left (plus listed more) → AreEqual c part → 0 < share.whole
    → AreEqual (plus all (times part share)) (plus (plus here listed) (plus more (times c share)))
shared_sum all here left listed more c part share sum split same some =
    let hl = both_some here.whole left.whole sum.other in
    let lm = both_some listed.whole more.whole split.other in
    let x = times c share in
    let px : 0 < x.whole = times-positive c share same.one some in
    equal-trans (plus-equal (equal-trans sum (plus-equal (equal-refl here hl.0) split)) (times-equal (equal-sym same) (equal-refl share some)))
    (equal-trans (plus-equal (equal-sym (plus-assoc here listed more hl.0 lm.0 lm.1)) (equal-refl x px))
    (plus-assoc (plus here listed) more x (plus-positive here listed hl.0 lm.0) lm.1 px))

-- A way is played to a position, which is added after room was made for it.
pub shared_way : (w : Walk) (nodes after : Nodes) (middle : Middle) (old room new : Middles) (first t mid kept : Tally) (ws xs ys zs : List Successor)
    (reaches : Reaches w nodes after middle) → IsExact w.options → nodes.options ≡ w.options → after.too_large ≡ false → nodes.at ≡ 0 → AreKnown nodes → after.len ≤ after.at
    → IsChance after middle.chance → AreEqual (of_chance after.before) unit
    → KeepsPending w old t xs room mid ys → IsAdded middle room new → kept ≡ mid → zs ≡ ys → AreGoing w nodes old first ws t xs → ArePast w after new first ws kept zs
shared_way w nodes after middle old room new first t mid kept ws xs ys zs reaches exact options fits at known full chance begins keeps added still stays going s of battle passes test x part =
    record {
      here = plus g.here m.listed;
      left = plus m.left (times (of_chance middle.chance) (share_of got.from));
      all = plus g.all (times sp.0 (share_of got.from));
      list = subst (λ (k : Tally). HasPart battle k zs (plus x (plus g.here m.listed))) (sym still)
          (subst (λ (l : List Successor). HasPart battle mid l (plus x (plus g.here m.listed))) (sym stays)
          (part_as battle mid ys (plus (plus x g.here) m.listed) (plus x (plus g.here m.listed))
          (plus-assoc x g.here m.listed (has_positive battle first ws x part) (both_some g.here.whole g.left.whole g.sum.other).0 (both_some m.listed.whole m.left.whole m.sum.other).0) m.list));
      pending = got.pending;
      weighed = sp.2;
      sum = shared_sum g.all g.here g.left m.listed m.left (of_chance middle.chance) sp.0 (share_of got.from) g.sum m.sum probability got.from.some;
    }
  where
    form : IsExact nodes.options
    form = subst (λ (o : OutcomeOptions). IsExact o) (sym options) exact

    g : IsShared (λ Q z. IsWeighed Q (hits_of w s passes) passes nodes z) s passes battle old t xs x
    g = going s of battle passes test x part

    m : Keeps s battle passes room mid ys (plus x g.here) g.left
    m = (keeps s of battle passes test).1 (plus x g.here) g.left g.list g.pending

    got : GetsPart s passes middle new m.left
    got = added_part s passes middle room new m.left (lefts.Second reaches.rest) added reaches.kept (rest_reached w nodes after middle reaches s of passes) m.pending

    along : AreAlikeFrom s passes new → AreAlikeFrom s passes old
    along alike = (keeps s of battle passes test).0 (alike_before s passes middle room new added alike)

    weighed : IsWeighed (AreAlikeFrom s passes new) (hits_of w s passes) passes after g.all
    weighed =
        weighed_as (AreAlikeFrom s passes old) (AreAlikeFrom s passes new) (hits_of w s passes) passes after g.all along
        (weighed_way (AreAlikeFrom s passes old) (hits_of w s passes) passes (script_of reaches.path) nodes after g.all reaches.way form fits at known g.weighed)

    sp : (part : Fraction) × AreEqual (of_chance middle.chance) (times (of_chance after.before) part)
        × IsSpent (AreAlikeFrom s passes new) (hits_of w s passes) passes after (plus g.all (times part (share_of got.from))) × (0 < part.whole)
    sp =
        spent (AreAlikeFrom s passes new) (hits_of w s passes) passes after g.all middle.chance got.from.tree got.from.whole got.from.share weighed chance got.from.some got.from.is
        (leaf_right w s passes nodes after middle new m.left reaches of form fits at known full got)

    probability : AreEqual (of_chance middle.chance) sp.0
    probability = equal-trans sp.1 (equal-trans (times-equal begins (equal-refl sp.0 sp.3)) (unit-times sp.0 sp.3))

pub shared_next : (w : Walk) (old new : Nodes) (middles : Middles) (first t : Tally) (ws xs : List Successor) → LeadsOn old new → ArePast w old middles first ws t xs
    → AreGoing w new middles first ws t xs
shared_next w old new middles first t ws xs leads past s of battle passes test x part =
    let p = past s of battle passes test x part in
    record {
      here = p.here;
      left = p.left;
      all = p.all;
      list = p.list;
      pending = p.pending;
      weighed = weighed_next (AreAlikeFrom s passes middles) (hits_of w s passes) passes old new p.all leads p.weighed;
      sum = p.sum;
    }

-- A turn of two actions is the update.
turn_update : (w : Walk) (s : State) → OffersTwo w s → (stream : Stream)
    → update (ruling_of s.terms) w.one w.two (drawing_from stream 0 (opened s)) ≡ turn_on s w.one w.two stream 0
unfolding update update_for
turn_update w s of stream =
    let uses = uses_moves w.one w.two s.field of.two in
    let going = (plays_turn of.offers.offered uses.asked).goes_on in
    let both = both_move s of.offers.stands.valid going (inl uses.asked) in
    let p = drawing_from stream 0 (opened s) in
    ap₂ (λ (a b : Request). close_update (ruling_of s.terms) (update_for (ruling_of s.terms) a b w.one w.two p)) both.0 both.1

-- After the last way, and after all kept positions were played on from, the list has what the update leads to.
pub shared_all : (w : Walk) (nodes : Nodes) (middles : Middles) (first t final : Tally) (ws xs ys : List Successor) → AllDone nodes → ArePast w nodes middles first ws t xs
    → AddsPending w middles t xs final ys → (s : State) → OffersTwo w s → AddsUpdate w s first ws final ys
shared_all w nodes middles first t final ws xs ys done past adds s of battle passes test whole share some is x part =
    part_as battle final ys (plus (plus x g.here) g.left) (plus x (record { num = share; whole = whole }))
    (equal-trans (plus-assoc x g.here g.left px hl.0 hl.1)
    (plus-equal (equal-refl x px) (equal-trans (equal-sym g.sum) (equal-trans all.equal same))))
    ((adds s of battle passes test).1 (plus x g.here) g.left g.list g.pending)
  where
    g : IsShared (λ Q z. IsSpent Q (hits_of w s passes) passes nodes z) s passes battle middles t xs x
    g = past s of battle passes test x part

    px : 0 < x.whole
    px = has_positive battle first ws x part

    hl : (0 < g.here.whole) × (0 < g.left.whole)
    hl = both_some g.here.whole g.left.whole g.sum.other

    all : IsWhole (AreAlikeFrom s passes middles) (hits_of w s passes) passes g.all
    all = weighed_all (AreAlikeFrom s passes middles) (hits_of w s passes) passes nodes g.all done g.weighed

    alike : AreAlikeFrom s passes middles
    alike = (adds s of battle passes test).0

    told : (stream : Stream) → IsStream stream → passes (leads_to all.tree stream 0).field ≡ passes (leads_to is.0 stream 0).field
    told stream st = all.leads alike stream st ∙ ap (λ (q : Progress). passes q.field) (sym (turn_update w s of stream) ∙ is.1.0 stream 0)

    same : AreEqual (record { num = all.share; whole = all.whole }) (record { num = share; whole = whole })
    same = record { one = all.some; other = some; cross = shares_by_test all.tree is.0 passes all.whole all.share whole share told all.is is.1.1 }

-- Kept positions that are played on from.

pub at_on : (s : State) (bytes : List ℕ) (rest : Left) (p : Progress) (stream : Stream) → IsStream stream → IsAt s bytes rest p → IsAt s bytes rest (drawing_from stream 0 p)
at_on s bytes rest p stream is at = record { within = at.within; ready = ready_on rest s.terms p stream 0 is at.ready }

-- The battle that follows from a position is that of each battle that is there.
same_follows : (s : State) (one two : Choice) (bytes : List ℕ) (rest : Left) (stream : Stream) (parts : Parts) (p : Progress) → IsStream stream → IsAt s bytes rest p
    → FollowsFrom s one two bytes (Some rest) stream parts
    → joined (blocks_of (state_in (setting_of s) (left_of rest (ruling_of s.terms) (drawing_from stream 0 p)).field)) ≡ joined parts
same_follows s one two bytes rest stream parts p is at follows =
    ap joined (sym (follows (drawing_from stream 0 p) (at_on s bytes rest p stream is at) refl refl).within.same)

told_same : (s : State) (battle : Parts) (passes : Field → Bool) → IsTestOf s battle passes → (f g : Field)
    → joined (blocks_of (state_in (setting_of s) f)) ≡ joined (blocks_of (state_in (setting_of s) g)) → passes f ≡ passes g
told_same s battle passes test f g same = by (passes f) (passes g) refl refl
  where
    by : (a b : Bool) → passes f ≡ a → passes g ≡ b → a ≡ b
    by true true d e = refl
    by false false d e = refl
    by true false d e = absurd (false≢true (sym e ∙ test.passed g (sym same ∙ test.of f d)))
    by false true d e = absurd (false≢true (sym d ∙ test.passed f (same ∙ test.of g e)))

-- Where a battle follows from a position on each stream, all battles there are alike.
alike_listed : (w : Walk) (s : State) (battle : Parts) (passes : Field → Bool) (middle : Middle) (rest : Left) (count : ℕ) (xs : List Successor) → IsTestOf s battle passes
    → middle.rest ≡ Some rest → ListsFrom w middle s count xs → IsAlikeFrom s passes middle.bytes rest
alike_listed w s battle passes middle rest count xs test kept lists p q at also stream is =
    let l = lists stream is in
    let follows : FollowsFrom s w.one w.two middle.bytes (Some rest) stream l.battle =
    subst (λ (r : Option Left). FollowsFrom s w.one w.two middle.bytes r stream l.battle) kept l.is
    in
    let r = left_of rest (ruling_of s.terms) in
    told_same s battle passes test (r (drawing_from stream 0 p)).field (r (drawing_from stream 0 q)).field
    (same_follows s w.one w.two middle.bytes rest stream l.battle p is at follows
    ∙ sym (same_follows s w.one w.two middle.bytes rest stream l.battle q is also follows))

pub alike_each : (w : Walk) (s : State) (battle : Parts) (passes : Field → Bool) (middles : Middles) (count : ℕ) (xs : List Successor) → OffersTwo w s → IsTestOf s battle passes
    → ListsFromEach w middles.len middles.list count xs → AreAlikeFrom s passes middles
alike_each w s battle passes middles count xs of test each k past rest lt kept =
    alike_listed w s battle passes (get_or middles.list k past) rest count xs test kept (each k past lt s of.offers)

-- The tree of a kept position leads to the battle that follows from it.
pub tree_tells : (w : Walk) (s : State) (battle : Parts) (passes : Field → Bool) (bytes : List ℕ) (rest : Left) → IsTestOf s battle passes → (h : HasRest s passes bytes rest)
    → IsTreeFrom s w.one w.two bytes (Some rest) passes battle h.tree
tree_tells w s battle passes bytes rest test h stream is parts follows =
    let q = left_of rest (ruling_of s.terms) (drawing_from stream 0 h.here) in
    let same = same_follows s w.one w.two bytes rest stream parts h.here is h.at follows in
    let leads : passes q.field ≡ passes (leads_to h.tree stream 0).field = ap (λ (p : Progress). passes p.field) (h.leads stream 0) in
    record {
      passed = λ e. sym leads ∙ test.passed q.field (same ∙ e);
      of = λ e. sym same ∙ test.of q.field (leads ∙ e);
    }

-- The list has the parts of the first positions, and then of one more.
abbrev pub AddsFirst : Walk → Middles → ℕ → Tally → List Successor → Tally → List Successor → Type 0
AddsFirst w middles n first ws t xs =
    (s : State) → OffersTwo w s → (battle : Parts) → (passes : Field → Bool) → IsTestOf s battle passes
    → (part : ℕ → Fraction) → ((k : ℕ) → k < middles.len → IsPartOf s passes middles k (part k))
    → (x : Fraction) → HasPart battle first ws x → HasPart battle t xs (plus x (sum_of_parts n part))

pub adds_none : (w : Walk) (middles : Middles) (t : Tally) (xs : List Successor) → AddsFirst w middles 0 t xs t xs
unfolding sum_of_parts
adds_none w middles t xs s of battle passes test part each x has = part_as battle t xs x (plus x nothing) (equal-sym (plus-nothing x (has_positive battle t xs x has))) has

pub adds_more : (w : Walk) (middles : Middles) (n : ℕ) (d : Middle) (first t new : Tally) (ws xs ys : List Successor) → n < middles.len → n < length middles.list
    → ((s : State) → Offers w s → AddsPart w (get_or middles.list n d) s t xs new ys) → AddsFirst w middles n first ws t xs → AddsFirst w middles (n + 1) first ws new ys
unfolding sum_of_parts
adds_more w middles n d first t new ws xs ys lt within adds before s of battle passes test part each x has =
    subst (λ (k : ℕ). HasPart battle new ys (plus x (sum_of_parts k part))) (sym (add-one n))
    (part_as battle new ys (plus (plus x (sum_of_parts n part)) term) (plus x (plus (sum_of_parts n part) (part n)))
    (equal-trans (plus-assoc x (sum_of_parts n part) term px sums (is.part d).other)
    (plus-equal (equal-refl x px) (plus-equal (equal-refl (sum_of_parts n part) sums) (equal-sym (is.part d)))))
    (adds s of.offers battle passes is.from.tree from is.from.whole is.from.share is.from.some is.from.is (plus x (sum_of_parts n part)) (before s of battle passes test part each x has)))
  where
    is : IsPartOf s passes middles n (part n)
    is = each n lt

    middle : Middle
    middle = get_or middles.list n d

    term : Fraction
    term = times (of_chance middle.chance) (share_of is.from)

    px : 0 < x.whole
    px = has_positive battle first ws x has

    sums : 0 < (sum_of_parts n part).whole
    sums = parts_positive n part (λ k less. part_positive s passes middles k (part k) (each k (omega (arith, less, lt))))

    from : IsTreeFrom s w.one w.two middle.bytes middle.rest passes battle is.from.tree
    from =
        subst (λ (r : Option Left). IsTreeFrom s w.one w.two middle.bytes r passes battle is.from.tree) (sym (is.kept d))
        (subst (λ (b : List ℕ). IsTreeFrom s w.one w.two b (Some is.rest) passes battle is.from.tree) (sym (is.same d)) (tree_tells w s battle passes is.bytes is.rest test is.from))

pub adds_all : (w : Walk) (middles : Middles) (first t : Tally) (ws xs : List Successor) → ListsFromEach w middles.len middles.list t.count xs
    → AddsFirst w middles middles.len first ws t xs → AddsPending w middles first ws t xs
adds_all w middles first t ws xs each adds s of battle passes test = (
  alike_each w s battle passes middles t.count xs of test each,
  λ x y has pending.
      part_as battle t xs (plus x (sum_of_parts middles.len pending.part)) (plus x y)
      (plus-equal (equal-refl x (has_positive battle first ws x has)) (equal-sym pending.sum))
      (adds s of battle passes test pending.part pending.each x has),
)

-- Room that is made by playing on from all positions, or that is there.
pub keeps_none : (w : Walk) (before middles : Middles) (old new : Tally) (xs ys : List Successor) → middles.len ≡ 0 → AddsPending w before old xs new ys
    → KeepsPending w before old xs middles new ys
keeps_none w before middles old new xs ys none adds s of battle passes test = (
  λ alike. (adds s of battle passes test).0,
  λ x y has pending.
      let sum = (adds s of battle passes test).1 x y has pending in
      record {
        listed = y;
        left = nothing;
        list = sum;
        pending = pending_none s passes middles none;
        sum = equal-sym (plus-nothing y pending.sum.one);
      },
)

pub keeps_all : (w : Walk) (middles : Middles) (t : Tally) (xs : List Successor) → KeepsPending w middles t xs middles t xs
keeps_all w middles t xs s of battle passes test = (
  λ alike. alike,
  λ x y has pending.
      record {
        listed = nothing;
        left = y;
        list = part_as battle t xs x (plus x nothing) (equal-sym (plus-nothing x (has_positive battle t xs x has))) has;
        pending = pending;
        sum = equal-sym (nothing-plus y pending.sum.one);
      },
)

-- What comes before the first draw of the first part has the probability 1.
pub unit_begins : (c : Chance) → (c.num ≡ 1) × (c.whole ≡ 1) → AreEqual (of_chance c) unit
unit_begins c is = record { one = c.positive; other = omega arith; cross = omega (arith, is.0, is.1) }

pub unit_stays : (w : Walk) (nodes after : Nodes) (middle : Middle) → Reaches w nodes after middle → AreEqual (of_chance nodes.before) unit → AreEqual (of_chance after.before) unit
unit_stays w nodes after middle reaches is =
    subst (λ (c : Chance). AreEqual (of_chance c) unit) (sym (since_all reaches.way.log _ _ reaches.way.noted)) is

pub unit_next : (old new : Nodes) → LeadsOn old new → AreEqual (of_chance old.before) unit → AreEqual (of_chance new.before) unit
unit_next old new leads is = subst (λ (c : Chance). AreEqual (of_chance c) unit) (sym leads.since) is

-- A list that was empty has what the update leads to.

share_none : (t : Tree) (passes : Field → Bool) (share : ℕ) → IsShare t passes 0 share → share ≡ 0
share_none t passes share is =
    let some = (shares_are_probabilities t).some in
    let x = some.1.1 passes in
    let same = shares_by_test t t passes 0 share some.0 x.0 (λ s st. refl) is x.1 in
    none share some.0 some.1.0 (same ∙ omega arith)
  where
    none : (n m : ℕ) → 0 < m → n * m ≡ 0 → n ≡ 0
    none n m lt e = elim (zero_some n) [
      | inl zero_is ↦ zero_is
      | inr some ↦ absurd (let one = mul-le 1 1 n m (omega (arith, some)) (omega (arith, lt)) in omega (arith, one, e))
    ]

empty_part : (battle : Parts) (t : Tally) (xs : List Successor) → t.count ≡ 0 → t.whole ≡ 1 → HasPart battle t xs nothing
empty_part battle t xs none whole =
    record {
      some = omega (arith, whole);
      part = inr (record { absent = λ k past lt. absurd (omega (arith, lt, none)); nothing = equal-refl nothing (omega arith) });
    }

three : (m n : ℕ) → (m < n) ⊎ (m ≡ n) ⊎ (n < m)
three m n = grind arith

weight_is : (t : Tally) (xs : List Successor) (k : ℕ) (past : Successor) (whole share : ℕ) → AreDistinct t.count xs → k < t.count
    → HasPart (battle_at xs k past) t xs (plus nothing (record { num = share; whole = whole })) → weight_at xs k past * whole ≡ share * t.whole
weight_is t xs k past whole share distinct lt has =
    elim has.part [
      | inl there ↦
          let same : there.place ≡ k = elim (three there.place k) [
            | inl less ↦ absurd (distinct there.place k past less lt (there.bytes past))
            | inr (inl is) ↦ is
            | inr (inr more) ↦ absurd (distinct k there.place past more there.within (sym (there.bytes past)))
          ] in
          let e = (subst (λ (j : ℕ). AreEqual (plus nothing (record { num = share; whole = whole })) (record { num = weight_at xs j past; whole = t.whole })) same (there.part past)).cross in
          omega (arith, e)
      | inr none ↦ absurd (none.absent k past lt refl)
    ]

-- A test of the bytes of a battle.
pub bytes_test : (s : State) (battle : Parts) → IsTestOf s battle (are_of s battle)
bytes_test s battle =
    let bytes = λ (f : Field). joined (blocks_of (state_in (setting_of s) f)) in
    record { passed = λ f. (bytes_eq-Decides (bytes f) (joined battle)).1; of = λ f. (bytes_eq-Decides (bytes f) (joined battle)).0 }

pub finished_weights : (w : Walk) (s : State) (first t : Tally) (ws xs : List Successor) (r : Result Outcomes OutcomesFault) → first.count ≡ 0 → first.whole ≡ 1
    → AddsUpdate w s first ws t xs → AreDistinct t.count xs → IfOk r (λ o. o.count ≡ t.count) → IfOk r (λ o. o.whole ≡ t.whole)
    → IfOk r (λ o. HasProbabilities s w.one w.two o.count o.whole xs)
finished_weights w s first t ws xs (Err why) none one adds distinct count denominator = tt
finished_weights w s first t ws xs (Ok o) none one adds distinct count denominator = λ k past lt whole share is.
    let battle = battle_at xs k past in
    elim (zero_some whole) [
      | inl zero_is ↦
          let no : share ≡ 0 = share_none is.0 (are_of s battle) share (subst (λ (n : ℕ). IsShare is.0 (are_of s battle) n share) zero_is is.1.1) in
          ap (λ (n : ℕ). weight_at xs k past * n) zero_is ∙ sym (ap (λ (n : ℕ). n * o.whole) no ∙ omega arith)
      | inr some ↦
          weight_is t xs k past whole share distinct (omega (arith, lt, count))
          (adds battle (are_of s battle) (bytes_test s battle) whole share some is nothing (empty_part battle first ws none one))
          ∙ ap (λ (n : ℕ). share * n) (sym denominator)
    ]
