-- The rest of a stream is a stream, on which a phase with a tree does the same. Two logs, one after the other, and a stream for both.
use Rattle.std.proofs.Common.{◌≡◌, ℕ, zero, suc, ◌+◌, Bool, true, false, Option, Some, None, ap, arith, refl, sym, ◌∙◌, List, [], ◌∷◌, ◌++◌, subst, ◌⊎◌, inl, inr, ◌-◌, ◌<◌, ◌≤◌, cond, nat_lt, ◌&&◌, if◌then◌else◌, IsTrue}
use Rattle.gen1_rolls.specs.Streams.{IsStream, Stream, byte_at, first, first_within, span, Drawn, HoldsEveryByte, passes, sees}
use Rattle.gen1_rolls.proofs.First.{byte-small, every_byte, first-finds, first-within, first_within-is, first-exists}
use Rattle.gen1_machine.specs.Laws.{Draw as DrawNext, Done, Search, Tree, drawing_from, leads_to}
use Rattle.gen1_machine.specs.Progress.{Phase, Progress}
use Rattle.gen1_machine.proofs.Trees.{HasTree, searched, after-tree, choose-tree, drawless-tree, stay-tree, then-tree}
use Rattle.gen1_outcomes.specs.declared.log.Entry.{Entry}
use Rattle.gen1_outcomes.specs.declared.log.Entry.TheVariants.{Draw, Found, Missed}
use Rattle.gen1_outcomes.specs.Logs.{Agrees, AllFit, Fits, place_after, place_at, place_past, IsOrderOf}
use Rattle.std.proofs.lemmas.Bool.Decides.{nat_tests}
use Rattle.gen1_machine.specs.declared.side.Choice.{Choice}
use Rattle.gen1_machine.specs.declared.terms.Request.{Request}
use Rattle.gen1_machine.specs.Ruling.{ruling_of}
use Rattle.gen1_machine.specs.State.{Field, State, Terms}
use Rattle.gen1_machine.specs.Step.{close_update}
use Rattle.gen1_machine.specs.declared.side.Side.{Side}
use Rattle.gen1_machine.specs.Turn.{Acts, Suffers, end_turn}
use Rattle.gen1_machine.proofs.TreeWalk.{close_update-tree, do_parts-tree, end_turn-tree, residual-tree, ruling-tree}
use Rattle.gen1_layout.specs.Parts.{Parts}
use Rattle.gen1_turn.specs.TwoParts.{suffering}
use Rattle.gen1_turn.proofs.TwoParts.{from_roll-tree}
use Rattle.gen1_engine.proofs.Making.{plays_turn}
use Rattle.gen1_outcomes.specs.declared.beginning.Left.{Left}
use Rattle.gen1_outcomes.specs.declared.beginning.Rest.{Rest}
use Rattle.gen1_outcomes.specs.declared.middles.Middle.{Middle}
use Rattle.gen1_outcomes.specs.declared.nodes.Nodes.{Nodes}
use Rattle.gen1_outcomes.specs.Beginning.{IsReadyFor, asks_for_move, have_two_actions, is_move, left_of, rest_of, second_action}
use Rattle.gen1_outcomes.specs.Complete.{FollowsFrom, OffersTwo}
use Rattle.gen1_outcomes.specs.Plain.{AreOf, Follows, Walk}
use Rattle.gen1_outcomes.specs.Listing.{untold}
use Rattle.gen1_outcomes.specs.Middles.{Arrives, IsAt, LeadsFrom, Reaches}
use Rattle.std.proofs.lemmas.Bool.{false≢true}
use Rattle.gen1_rolls.specs.declared.rolls.ByteTest.{ByteTest}
use Rattle.gen1_rolls.specs.declared.rolls.Look.TheVariants.{Remainder}
use Rattle.gen1_machine.specs.declared.side.Choice.TheVariants as choices
use Rattle.gen1_machine.specs.declared.terms.Request.TheVariants as requests
use Rattle.gen1_outcomes.specs.declared.beginning.Left.TheVariants as lefts

-- A stream without its first n bytes.
abbrev pub dropped : ℕ → Stream → Stream
dropped n s = Drawn (λ k. byte_at s (n + k)) (span s)

dropped-byte : (n : ℕ) (s : Stream) (k : ℕ) → byte_at (dropped n s) k ≡ byte_at s (n + k)
unfolding byte_at
dropped-byte n s k = refl

pub dropped-is : (n : ℕ) (s : Stream) → IsStream s → IsStream (dropped n s)
dropped-is n s is = (
  λ k. byte-small s (n + k) is,
  λ k b lt.
      let at = every_byte s is (n + k) b lt in
      let same : n + (k + at.0) ≡ n + k + at.0 = omega arith in
      (at.0, (at.1.0, ap (byte_at s) same ∙ at.1.1)),
)

-- A search finds the same byte, at a place counted from n.
abbrev pub moved : ℕ → Option ℕ → Option ℕ
moved n (Some m) = Some (n + m)
moved n None = None

first_within-dropped : (k : ℕ) (s : Stream) (n m : ℕ) (test : ℕ → Bool) → first_within k s (n + m) test ≡ moved n (first_within k (dropped n s) m test)
unfolding first_within byte_at
first_within-dropped zero s n m test = refl
first_within-dropped (suc k) s n m test = by (test (byte_at s (n + m))) (first_within-dropped k s n (m + 1) test)
  where
    by : (b : Bool) → first_within k s (n + (m + 1)) test ≡ moved n (first_within k (dropped n s) (m + 1) test)
        → elim b as (λ _. Option ℕ) [ true ↦ Some (n + m) | false ↦ first_within k s (n + m + 1) test ]
        ≡ moved n (elim b as (λ _. Option ℕ) [ true ↦ Some m | false ↦ first_within k (dropped n s) (m + 1) test ])
    by true rest = refl
    by false rest = let same : n + m + 1 ≡ n + (m + 1) = omega arith in ap (λ (j : ℕ). first_within k s j test) same ∙ rest

first-dropped : (s : Stream) (n m : ℕ) (test : ℕ → Bool) → first s (n + m) test ≡ moved n (first (dropped n s) m test)
unfolding first
first-dropped s n m test = first_within-dropped (span s) s n m test

-- Progress on the rest of a stream, as progress on the whole.
abbrev pub on_whole : Stream → ℕ → Progress → Progress
on_whole s n q = drawing_from s (n + q.drawn) q

pub tree-dropped : (t : Tree) (s : Stream) (n m : ℕ) → leads_to t s (n + m) ≡ on_whole s n (leads_to t (dropped n s) m)
unfolding leads_to
tree-dropped (Done left) s n m = refl
tree-dropped (DrawNext next) s n m =
    let on : n + m + 1 ≡ n + (m + 1) = omega arith in
    ap (λ (j : ℕ). leads_to (next (byte_at s (n + m))) s j) on ∙ tree-dropped (next (byte_at s (n + m))) s n (m + 1)
    ∙ ap (λ (b : ℕ). on_whole s n (leads_to (next b) (dropped n s) (m + 1))) (sym (dropped-byte n s m))
tree-dropped (Search test found none) s n m =
    ap (λ (o : Option ℕ). searched o (λ j. leads_to (found (byte_at s j)) s (j + 1)) (leads_to none s (n + m + span s))) (first-dropped s n m test)
    ∙ by (first (dropped n s) m test) (λ j. tree-dropped (found (byte_at s (n + j))) s n (j + 1)) (tree-dropped none s n (m + span s))
  where
    by : (o : Option ℕ)
        → ((j : ℕ) → leads_to (found (byte_at s (n + j))) s (n + (j + 1)) ≡ on_whole s n (leads_to (found (byte_at s (n + j))) (dropped n s) (j + 1)))
        → leads_to none s (n + (m + span s)) ≡ on_whole s n (leads_to none (dropped n s) (m + span s))
        → searched (moved n o) (λ j. leads_to (found (byte_at s j)) s (j + 1)) (leads_to none s (n + m + span s))
        ≡ on_whole s n (searched o (λ j. leads_to (found (byte_at (dropped n s) j)) (dropped n s) (j + 1)) (leads_to none (dropped n s) (m + span s)))
    by (Some j) one rest =
        let on : n + j + 1 ≡ n + (j + 1) = omega arith in
        ap (λ (i : ℕ). leads_to (found (byte_at s (n + j))) s i) on ∙ one j
        ∙ ap (λ (b : ℕ). on_whole s n (leads_to (found b) (dropped n s) (j + 1))) (sym (dropped-byte n s j))
    by None one rest =
        let on : n + m + span s ≡ n + (m + span s) = omega arith in
        ap (λ (i : ℕ). leads_to none s i) on ∙ rest

-- A phase with a tree does the same on the rest of a stream from its beginning as on the whole from there.
pub phase-dropped : {f : Phase} → HasTree f → (p : Progress) (s : Stream) (n m : ℕ)
    → f (drawing_from s (n + m) p) ≡ on_whole s n (f (drawing_from (dropped n s) m p))
phase-dropped {f} k p s n m = k.leads p s (n + m) ∙ tree-dropped (k.tree p) s n m ∙ ap (on_whole s n) (sym (k.leads p (dropped n s) m))

-- A battle that draws from the beginning of what is left of its stream.
abbrev pub restarted : Progress → Progress
restarted p = drawing_from (dropped p.drawn p.stream) 0 p

pub phase-restarted : {f : Phase} → HasTree f → (p : Progress) → f p ≡ on_whole p.stream p.drawn (f (restarted p))
phase-restarted {f} k p =
    let here : p.drawn ≡ p.drawn + 0 = omega arith in
    ap (λ (n : ℕ). f (drawing_from p.stream n p)) here ∙ phase-dropped k p p.stream p.drawn 0

-- One log after the other.
pub fit_both : (xs ys : List Entry) (s : Stream) (n : ℕ) → AllFit xs s n → AllFit ys s (place_at xs s n) → AllFit (xs ++ ys) s n
fit_both [] ys s n one later = later
fit_both (x ∷ xs) ys s n one later = (one.0, fit_both xs ys s (place_after x s n) one.1 later)

fit_each : (xs ys : List Entry) (s : Stream) (n : ℕ) → AllFit (xs ++ ys) s n → AllFit xs s n × AllFit ys s (place_at xs s n)
fit_each [] ys s n all = (tt, all)
fit_each (x ∷ xs) ys s n all = let rest = fit_each xs ys s (place_after x s n) all.1 in ((all.0, rest.0), rest.1)

-- A draw or a search on a stream from n + m on is that on the rest from n on, from m on.
after-dropped : (e : Entry) (s : Stream) (n m : ℕ) → place_after e s (n + m) ≡ n + place_after e (dropped n s) m
after-dropped (Draw look b) s n m = omega arith
after-dropped (Found test look b) s n m =
    ap (λ (o : Option ℕ). place_past o (n + m)) (first-dropped s n m (passes test)) ∙ by (first (dropped n s) m (passes test))
  where
    by : (o : Option ℕ) → place_past (moved n o) (n + m) ≡ n + place_past o m
    by (Some j) = omega arith
    by None = refl
after-dropped (Missed test) s n m = omega arith

moved-some : (n : ℕ) (o : Option ℕ) (j : ℕ) → moved n o ≡ Some j → (i : ℕ) × (o ≡ Some i) × (j ≡ n + i)
moved-some n (Some i) j e = (i, refl, let same : n + i ≡ j = cc in sym same)
moved-some n None j e = absurd (cc)

moved-none : (n : ℕ) (o : Option ℕ) → moved n o ≡ None → o ≡ None
moved-none n (Some i) e = absurd (cc)
moved-none n None e = refl

fits-whole : (e : Entry) (s : Stream) (n m : ℕ) → Fits e (dropped n s) m → Fits e s (n + m)
fits-whole (Draw look b) s n m fits = fits ∙ ap (sees look) (dropped-byte n s m)
fits-whole (Found test look b) s n m fits =
    record {
      place = n + fits.place;
      found = first-dropped s n m (passes test) ∙ ap (moved n) fits.found;
      alike = fits.alike ∙ ap (sees look) (dropped-byte n s fits.place);
    }
fits-whole (Missed test) s n m none = first-dropped s n m (passes test) ∙ ap (moved n) none

fits-dropped : (e : Entry) (s : Stream) (n m : ℕ) → Fits e s (n + m) → Fits e (dropped n s) m
fits-dropped (Draw look b) s n m fits = fits ∙ ap (sees look) (sym (dropped-byte n s m))
fits-dropped (Found test look b) s n m fits =
    let at = moved-some n (first (dropped n s) m (passes test)) fits.place (sym (first-dropped s n m (passes test)) ∙ fits.found) in
    record {
      place = at.0;
      found = at.1;
      alike = fits.alike ∙ ap (λ (j : ℕ). sees look (byte_at s j)) at.2 ∙ ap (sees look) (sym (dropped-byte n s at.0));
    }
fits-dropped (Missed test) s n m none = moved-none n (first (dropped n s) m (passes test)) (sym (first-dropped s n m (passes test)) ∙ none)

-- So are those of a log.
pub all-whole : (es : List Entry) (s : Stream) (n m : ℕ) → AllFit es (dropped n s) m → AllFit es s (n + m)
all-whole [] s n m all = tt
all-whole (e ∷ es) s n m all = (
  fits-whole e s n m all.0,
  subst (λ (k : ℕ). AllFit es s k) (sym (after-dropped e s n m)) (all-whole es s n (place_after e (dropped n s) m) all.1),
)

all-dropped : (es : List Entry) (s : Stream) (n m : ℕ) → AllFit es s (n + m) → AllFit es (dropped n s) m
all-dropped [] s n m all = tt
all-dropped (e ∷ es) s n m all = (
  fits-dropped e s n m all.0,
  all-dropped es s n (place_after e (dropped n s) m) (subst (λ (k : ℕ). AllFit es s k) (after-dropped e s n m) all.1),
)

-- A stream that agrees with two logs, one after the other, agrees with the first, and what is left of it after this with the second.
abbrev pub rest_after : List Entry → Stream → Stream
rest_after log s = dropped (place_at log s 0) s

pub agrees_first : (xs ys : List Entry) (s : Stream) → Agrees (xs ++ ys) s → Agrees xs s
agrees_first xs ys s all = record { is = all.is; fit = (fit_each xs ys s 0 all.fit).0 }

pub agrees_then : (xs ys : List Entry) (s : Stream) → Agrees (xs ++ ys) s → Agrees ys (rest_after xs s)
agrees_then xs ys s all =
    let n = place_at xs s 0 in
    let here : n ≡ n + 0 = omega arith in
    record {
      is = dropped-is n s all.is;
      fit = all-dropped ys s n 0 (subst (λ (k : ℕ). AllFit ys s k) here (fit_each xs ys s 0 all.fit).1);
    }

-- No search of a log found nothing.
abbrev pub NoneMissed : List Entry → Type 0
NoneMissed [] = Unit {0}
NoneMissed (Draw look b ∷ es) = NoneMissed es
NoneMissed (Found test look b ∷ es) = NoneMissed es
NoneMissed (Missed test ∷ es) = ⊥

-- A log leads on in a stream.
after-onward : (e : Entry) (s : Stream) (n : ℕ) → n ≤ place_after e s n
after-onward (Draw look b) s n = omega arith
after-onward (Found test look b) s n = by (first s n (passes test)) refl
  where
    by : (o : Option ℕ) → first s n (passes test) ≡ o → n ≤ place_past o n
    by (Some m) e = omega (arith, (first-finds s n (passes test) m e).from)
    by None e = omega arith
after-onward (Missed test) s n = omega arith

pub place-onward : (es : List Entry) (s : Stream) (n : ℕ) → n ≤ place_at es s n
place-onward [] s n = omega arith
place-onward (e ∷ es) s n = omega (arith, after-onward e s n, place-onward es s (place_after e s n))

-- A stream has the bytes of another from one place up to another, and its span is at least as long.
record Covers (s w : Stream) (n m : ℕ) : Type 0 where
  bytes : (k : ℕ) → n ≤ k → k < m → byte_at w k ≡ byte_at s k
  wide : span s ≤ span w

found-also : (s w : Stream) (n m j : ℕ) (test : ℕ → Bool) → first s n test ≡ Some m → Covers s w n j → m < j → first w n test ≡ Some m
unfolding first
found-also s w n m j test found covers lt =
    let is = first-finds s n test m found in
    let near = first-within s n test m found in
    let from : n ≤ m = is.from in
    let there : n + (m - n) ≡ m = omega arith in
    first_within-is (span w) w n test (m - n) (omega (arith, near, covers.wide))
    (ap (λ (i : ℕ). test (byte_at w i)) there ∙ ap test (covers.bytes m from lt) ∙ is.meets)
    (λ i below. ap test (covers.bytes (n + i) (omega arith) (omega (arith, below, lt))) ∙ is.none_before (n + i) (omega arith) (omega (arith, below)))
    ∙ ap (λ (i : ℕ). Some i) there

-- A log without a search that found nothing fits it at the same places.
fits-also : (es : List Entry) (s w : Stream) (n m : ℕ) → NoneMissed es → AllFit es s n → place_at es s n ≤ m → Covers s w n m
    → AllFit es w n × (place_at es w n ≡ place_at es s n)
fits-also [] s w n m none all far covers = (tt, refl)
fits-also (Draw look b ∷ es) s w n m none all far covers =
    let on = place-onward es s (n + 1) in
    let rest = fits-also es s w (n + 1) m none all.1 far (record { bytes = λ k from to. covers.bytes k (omega (arith, from)) to; wide = covers.wide }) in
    ((all.0 ∙ ap (sees look) (sym (covers.bytes n (omega arith) (omega (arith, on, far)))), rest.0), rest.1)
fits-also (Found test look b ∷ es) s w n m none all far covers =
    let found = all.0 in
    let at = found.place in
    let from = (first-finds s n (passes test) at found.found).from in
    let next : place_past (first s n (passes test)) n ≡ at + 1 = ap (λ (o : Option ℕ). place_past o n) found.found in
    let on = place-onward es s (at + 1) in
    let here : AllFit es s (at + 1) = subst (λ (k : ℕ). AllFit es s k) next all.1 in
    let long : place_at es s (at + 1) ≤ m = subst (λ (k : ℕ). place_at es s k ≤ m) next far in
    let lt : at < m = omega (arith, on, long) in
    let also : first w n (passes test) ≡ Some at = found-also s w n at m (passes test) found.found covers lt in
    let past : place_past (first w n (passes test)) n ≡ at + 1 = ap (λ (o : Option ℕ). place_past o n) also in
    let rest = fits-also es s w (at + 1) m none here long (record { bytes = λ k low to. covers.bytes k (omega (arith, from, low)) to; wide = covers.wide }) in (
      (
        record { place = at; found = also; alike = found.alike ∙ ap (sees look) (sym (covers.bytes at from lt)) },
        subst (λ (k : ℕ). AllFit es w k) (sym past) rest.0,
      ),
      ap (place_at es w) past ∙ rest.1 ∙ ap (place_at es s) (sym next),
    )
fits-also (Missed test ∷ es) s w n m none all far covers = absurd none

-- The first n bytes of one stream, and then those of another.
abbrev pub joined_bytes : ℕ → Stream → Stream → ℕ → ℕ
joined_bytes n s w k = cond (nat_lt k n) (byte_at s k) (byte_at w (k - n))

less_or : (k n : ℕ) → ((k < n) × (nat_lt k n ≡ true)) ⊎ ((n ≤ k) × (nat_lt k n ≡ false))
less_or k n = by (nat_lt k n) refl
  where
    by : (b : Bool) → nat_lt k n ≡ b → ((k < n) × (nat_lt k n ≡ true)) ⊎ ((n ≤ k) × (nat_lt k n ≡ false))
    by true e = inl (let lt : k < n = grind (arith, nat_tests) in lt, e)
    by false e = inr (let le : n ≤ k = grind (arith, nat_tests) in le, e)

pub joined-low : (n : ℕ) (s w : Stream) (k : ℕ) → k < n → joined_bytes n s w k ≡ byte_at s k
joined-low n s w k lt =
    elim (less_or k n) [
      | inl low ↦ ap (λ (b : Bool). cond b (byte_at s k) (byte_at w (k - n))) low.1
      | inr high ↦ absurd (omega (arith, lt, high.0))
    ]

pub joined-high : (n : ℕ) (s w : Stream) (k : ℕ) → n ≤ k → joined_bytes n s w k ≡ byte_at w (k - n)
joined-high n s w k le =
    elim (less_or k n) [
      | inl low ↦ absurd (omega (arith, le, low.0))
      | inr high ↦ ap (λ (b : Bool). cond b (byte_at s k) (byte_at w (k - n))) high.1
    ]

pub joined-small : (n : ℕ) (s w : Stream) → IsStream s → IsStream w → (k : ℕ) → joined_bytes n s w k < 256
joined-small n s w is ok k =
    elim (less_or k n) [
      | inl low ↦ subst (λ (b : ℕ). b < 256) (sym (joined-low n s w k low.0)) (byte-small s k is)
      | inr high ↦ subst (λ (b : ℕ). b < 256) (sym (joined-high n s w k high.0)) (byte-small w (k - n) ok)
    ]

-- Where one log after the other ends, and that both have no search that found nothing.
pub place_both : (xs ys : List Entry) (s : Stream) (n : ℕ) → place_at (xs ++ ys) s n ≡ place_at ys s (place_at xs s n)
place_both [] ys s n = refl
place_both (x ∷ xs) ys s n = place_both xs ys s (place_after x s n)

pub place-dropped : (es : List Entry) (s : Stream) (n m : ℕ) → place_at es s (n + m) ≡ n + place_at es (dropped n s) m
place-dropped [] s n m = refl
place-dropped (e ∷ es) s n m = ap (place_at es s) (after-dropped e s n m) ∙ place-dropped es s n (place_after e (dropped n s) m)

pub none_both : (xs ys : List Entry) → NoneMissed xs → NoneMissed ys → NoneMissed (xs ++ ys)
none_both [] ys one later = later
none_both (Draw look b ∷ xs) ys one later = none_both xs ys one later
none_both (Found test look b ∷ xs) ys one later = none_both xs ys one later
none_both (Missed test ∷ xs) ys one later = absurd one

-- Of as many of them in a row as both spans, one span is of one of the two.
at_least : (m n : ℕ) → (m ≤ n) ⊎ (n < m)
at_least m n = grind arith

pub joined-holds : (n width : ℕ) (s w : Stream) → span s + span w ≤ width → IsStream s → IsStream w → (m : ℕ) → HoldsEveryByte (λ k. joined_bytes n s w (m + k)) width
joined-holds n width s w wide is ok m b lt =
    elim (at_least (m + span s) n) [
      | inl before ↦
          let at = every_byte s is m b lt in
          let few : at.0 < span s = at.1.0 in
          (at.0, (omega (arith, few, wide), joined-low n s w (m + at.0) (omega (arith, few, before)) ∙ at.1.1))
      | inr past ↦
          let from = m - n in
          let at = every_byte w ok from b lt in
          let few : at.0 < span w = at.1.0 in
          let k = n - m + at.0 in
          let high : n ≤ m + (n - m + at.0) = omega arith in
          let place : m + (n - m + at.0) - n ≡ m - n + at.0 = omega arith in
          (k, (omega (arith, few, past, wide), joined-high n s w (m + k) high ∙ ap (byte_at w) place ∙ at.1.1))
    ]

-- A stream that agrees with one log, up to its end, and then one that agrees with another: it agrees with both, and ends where these do.
abbrev pub joined_stream : List Entry → Stream → Stream → ℕ → Stream
joined_stream xs s w width = Drawn (joined_bytes (place_at xs s 0) s w) width

pub record JoinedAgree (xs ys : List Entry) (s w : Stream) (width : ℕ) : Type 0 where
  pub agrees : Agrees (xs ++ ys) (joined_stream xs s w width)
  pub first : place_at xs (joined_stream xs s w width) 0 ≡ place_at xs s 0
  pub place : place_at (xs ++ ys) (joined_stream xs s w width) 0 ≡ place_at xs s 0 + place_at ys w 0
  pub later : (i : ℕ) → byte_at (joined_stream xs s w width) (place_at xs s 0 + i) ≡ byte_at w i

joined-later : (n width : ℕ) (s w : Stream) (i : ℕ) → byte_at (Drawn (joined_bytes n s w) width) (n + i) ≡ byte_at w i
unfolding byte_at
joined-later n width s w i = let back : n + i - n ≡ i = omega arith in joined-high n s w (n + i) (omega arith) ∙ ap (byte_at w) back

joined-covers : (n width : ℕ) (s w : Stream) → span s ≤ width → Covers s (Drawn (joined_bytes n s w) width) 0 n
unfolding byte_at
joined-covers n width s w wide = record { bytes = λ k from to. joined-low n s w k to; wide = omega (arith, wide) }

pub joined_wide : (xs ys : List Entry) (s w : Stream) (width : ℕ) → span s + span w ≤ width → NoneMissed xs → NoneMissed ys → Agrees xs s → Agrees ys w
    → JoinedAgree xs ys s w width
joined_wide xs ys s w width wide none never one next =
    let n = place_at xs s 0 in
    let m = place_at ys w 0 in
    let v = joined_stream xs s w width in
    let covers : Covers w (dropped n v) 0 m =
    record { bytes = λ k from to. dropped-byte n v k ∙ joined-later n width s w k; wide = omega (arith, wide) }
    in
    let before = fits-also xs s v 0 n none one.fit (omega arith) (joined-covers n width s w (omega (arith, wide))) in
    let after = fits-also ys w (dropped n v) 0 m never next.fit (omega arith) covers in
    let here : n + 0 ≡ place_at xs v 0 = omega (arith, before.1) in
    record {
      agrees = record {
        is = (joined-small n s w one.is next.is, joined-holds n width s w wide one.is next.is);
        fit = fit_both xs ys v 0 before.0 (subst (λ (k : ℕ). AllFit ys v k) here (all-whole ys v n 0 after.0));
      };
      first = before.1;
      place = place_both xs ys v 0 ∙ ap (place_at ys v) (sym here) ∙ place-dropped ys v n 0 ∙ ap (λ (k : ℕ). n + k) after.1;
      later = λ i. joined-later n width s w i;
    }

pub joined_agree : (xs ys : List Entry) (s w : Stream) → NoneMissed xs → NoneMissed ys → Agrees xs s → Agrees ys w
    → (bytes : ℕ → ℕ) × Agrees (xs ++ ys) (Drawn bytes (span s + span w))
joined_agree xs ys s w none never one next =
    (joined_bytes (place_at xs s 0) s w, (joined_wide xs ys s w (span s + span w) (omega arith) none never one next).agrees)

-- Turns of two actions.

-- Both sides are asked for a move, and use one.
pub record UsesMoves (one two : Choice) (f : Field) : Type 0 where
  pub asked : f.request_one ≡ requests.Move
  pub first : ℕ
  pub uses_one : one ≡ choices.Move first
  pub second : ℕ
  pub uses_two : two ≡ choices.Move second

asks_move : (r : Request) → asks_for_move r ≡ true → r ≡ requests.Move
asks_move requests.Move is = refl
asks_move requests.Switch is = absurd (cc)
asks_move requests.Pass is = absurd (cc)

some_move : (c : Choice) → is_move c ≡ true → (slot : ℕ) × (c ≡ choices.Move slot)
some_move (choices.Move slot) is = (slot, refl)
some_move (choices.Switch place) is = absurd (cc)
some_move choices.Pass is = absurd (cc)

all_true : (a b c : Bool) → (a && b && c) ≡ true → (a ≡ true) × (b ≡ true) × (c ≡ true)
all_true true true true is = (refl, refl, refl)
all_true true true false is = absurd (cc)
all_true true false c is = absurd (cc)
all_true false b c is = absurd (cc)

pub uses_moves : (one two : Choice) (f : Field) → have_two_actions one two f ≡ true → UsesMoves one two f
uses_moves one two f is =
    let all = all_true (asks_for_move f.request_one) (is_move one) (is_move two) is in
    let mine = some_move one all.1 in
    let others = some_move two all.2 in
    record { asked = asks_move f.request_one all.0; first = mine.0; uses_one = mine.1; second = others.0; uses_two = others.1 }

-- The first part of a way arrives at its position on each stream that agrees with its log.
pub arrives_by : (w : Walk) (nodes after : Nodes) (middle : Middle) (reaches : Reaches w nodes after middle) (s : State) → OffersTwo w s
    → (stream : Stream) → Agrees reaches.way.log stream → Arrives s w.one w.two stream middle
arrives_by w nodes after middle reaches s of stream agrees =
    let uses = uses_moves w.one w.two s.field of.two in
    let b = reaches.begins s uses.first uses.second of.offers.stands (plays_turn of.offers.offered uses.asked) uses.uses_one uses.uses_two stream agrees in
    record { rest = lefts.Second reaches.rest; kept = reaches.kept; here = b.here; at = record { within = b.within; ready = b.ready }; on = b.on; rests = b.rests }

-- It does where the log ends.
pub arrives_there : (w : Walk) (nodes after : Nodes) (middle : Middle) (reaches : Reaches w nodes after middle) (s : State) (of : OffersTwo w s)
    → (stream : Stream) (agrees : Agrees reaches.way.log stream) → place_at reaches.way.log stream 0 ≡ (arrives_by w nodes after middle reaches s of stream agrees).here.drawn
unfolding arrives_by
arrives_there w nodes after middle reaches s of stream agrees =
    let uses = uses_moves w.one w.two s.field of.two in
    (reaches.begins s uses.first uses.second of.offers.stands (plays_turn of.offers.offered uses.asked) uses.uses_one uses.uses_two stream agrees).stands

-- What a way leads to, on one stream.
pub follows_from : (s : State) (one two : Choice) (bytes : List ℕ) (rest : Option Left) (log : List Entry) (parts : Parts) → LeadsFrom s one two bytes rest log parts
    → (stream : Stream) → Agrees log stream → FollowsFrom s one two bytes rest stream parts
follows_from s one two bytes None log parts leads stream agrees = leads stream agrees
follows_from s one two bytes (Some rest) log parts leads stream agrees = leads stream agrees

-- What is left of an update has a tree, so it leads to the same from the beginning of what is left of the stream.

second-tree : (rest : Rest) (terms : Terms) → HasTree (rest_of rest (ruling_of terms))
second-tree rest terms = by rest.is_cut
  where
    by : (b : Bool) → HasTree (λ p. if b then p else close_update (ruling_of terms) (second_action (ruling_of terms) rest.second rest.pick p))
    by true = drawless-tree (λ p s n. refl)
    by false =
        after-tree (do_parts-tree (ruling_of terms) (Acts rest.second rest.pick ∷ Suffers rest.second ∷ []) (ruling-tree terms))
        (close_update-tree (ruling_of terms) (ruling-tree terms))

pub suffering-tree : (s : Side) → HasTree (suffering s end_turn)
suffering-tree s = choose-tree (λ p w n. refl) stay-tree (then-tree (residual-tree s) (choose-tree (λ p w n. refl) stay-tree end_turn-tree))

pub rest-tree : (rest : Left) (terms : Terms) → HasTree (left_of rest (ruling_of terms))
rest-tree (lefts.Second rest) terms = second-tree rest terms
rest-tree (lefts.Roll s roll) terms =
    after-tree (then-tree (from_roll-tree (ruling_of terms) s roll (ruling-tree terms)) (suffering-tree s)) (close_update-tree (ruling_of terms) (ruling-tree terms))

-- A battle that draws from a place of another stream is at the same position.
pub ready_on : (rest : Left) (terms : Terms) (p : Progress) (stream : Stream) (n : ℕ) → IsStream stream → IsReadyFor rest terms p
    → IsReadyFor rest terms (drawing_from stream n p)
ready_on (lefts.Second rest) terms p stream n is ready = λ uncut.
    let at = ready uncut in
    record {
      skips = at.skips;
      uncut = at.uncut;
      going = at.going;
      plan = at.plan;
      fits = at.fits;
      follows = record { field = at.follows.field; tested = at.follows.tested; stream = is; holds = at.follows.holds };
    }
ready_on (lefts.Roll s roll) terms p stream n is at =
    record { skips = at.skips; going = at.going; action = at.action; usual = at.usual; damage = at.damage }

ready_again : (rest : Left) (terms : Terms) (p : Progress) → IsReadyFor rest terms p → IsReadyFor rest terms (restarted p)
ready_again (lefts.Second rest) terms p ready = λ uncut.
    ready_on (lefts.Second rest) terms p (dropped p.drawn p.stream) 0 (dropped-is p.drawn p.stream (ready uncut).follows.stream) ready uncut
ready_again (lefts.Roll s roll) terms p at =
    record { skips = at.skips; going = at.going; action = at.action; usual = at.usual; damage = at.damage }

-- What follows from a position on the rest of a stream follows there on the whole.
pub resumed : (s : State) (one two : Choice) (bytes : List ℕ) (rest : Left) (p : Progress) (parts : Parts) → IsAt s bytes rest p
    → FollowsFrom s one two bytes (Some rest) (dropped p.drawn p.stream) parts → AreOf s parts untold (left_of rest (ruling_of s.terms) p)
resumed s one two bytes rest p parts at follows =
    let again : IsAt s bytes rest (restarted p) = record { within = at.within; ready = ready_again rest s.terms p at.ready } in
    let of = follows (restarted p) again refl refl in
    subst (λ (q : Progress). AreOf s parts untold q) (sym (phase-restarted (rest-tree rest s.terms) p)) (record { within = of.within; written = of.written })

-- What follows from a position follows on a stream on which the turn arrives there.
pub follows_arrived : (w : Walk) (s : State) (stream : Stream) (middle : Middle) (parts : Parts) → OffersTwo w s → (a : Arrives s w.one w.two stream middle)
    → FollowsFrom s w.one w.two middle.bytes middle.rest (dropped a.here.drawn stream) parts → Follows s w.one w.two stream parts untold
follows_arrived w s stream middle parts of a follows =
    let From = λ (rest : Option Left) (v : Stream). FollowsFrom s w.one w.two middle.bytes rest (dropped a.here.drawn v) parts in
    let here : From (Some a.rest) a.here.stream =
    subst (λ (v : Stream). From (Some a.rest) v) (sym a.on) (subst (λ (rest : Option Left). From rest stream) a.kept follows)
    in
    record {
      by_turn = λ asked.
          subst (λ (q : Progress). AreOf s parts untold q) (sym a.rests) (resumed s w.one w.two middle.bytes a.rest a.here parts a.at here);
      by_step = λ apart. absurd (apart (uses_moves w.one w.two s.field of.two).asked);
    }

-- A stream in which a part of another one comes before an earlier part, and a log that agrees with both, each in its order.

-- From n up to m a stream has the bytes of another.
abbrev HasBytes : Stream → Stream → ℕ → ℕ → Type 0
HasBytes s w n m = (k : ℕ) → n ≤ k → k < m → byte_at w k ≡ byte_at s k

three : (m n : ℕ) → (m < n) ⊎ (m ≡ n) ⊎ (n < m)
three m n = grind arith

-- So a search that ends there finds the same byte in it, whatever its span is.
found-there : (s w : Stream) (n m j : ℕ) (test : ℕ → Bool) → IsStream w → first s n test ≡ Some m → HasBytes s w n j → m < j → first w n test ≡ Some m
found-there s w n m j test is found same lt =
    let here = first-finds s n test m found in
    let meets : test (byte_at w m) ≡ true = ap test (same m here.from lt) ∙ here.meets in
    let other = first-exists w is n test (byte_at w m) (byte-small w m is) meets in
    let there = first-finds w n test other.0 other.1 in
    let place : other.0 ≡ m = elim (three other.0 m) [
      | inl less ↦
          absurd (false≢true (sym (here.none_before other.0 there.from less) ∙ sym (ap test (same other.0 there.from (omega (arith, less, lt)))) ∙ there.meets))
      | inr (inl e) ↦ e
      | inr (inr more) ↦ absurd (false≢true (sym (there.none_before m here.from more) ∙ meets))
    ] in
    other.1 ∙ ap (λ (i : ℕ). Some i) place

-- A log without a search that found nothing fits it at the same places.
fits-there : (es : List Entry) (s w : Stream) (n m : ℕ) → IsStream w → NoneMissed es → AllFit es s n → place_at es s n ≤ m → HasBytes s w n m
    → AllFit es w n × (place_at es w n ≡ place_at es s n)
fits-there [] s w n m is none all far same = (tt, refl)
fits-there (Draw look b ∷ es) s w n m is none all far same =
    let on = place-onward es s (n + 1) in
    let rest = fits-there es s w (n + 1) m is none all.1 far (λ k from to. same k (omega (arith, from)) to) in
    ((all.0 ∙ ap (sees look) (sym (same n (omega arith) (omega (arith, on, far)))), rest.0), rest.1)
fits-there (Found test look b ∷ es) s w n m is none all far same =
    let found = all.0 in
    let at = found.place in
    let from = (first-finds s n (passes test) at found.found).from in
    let next : place_past (first s n (passes test)) n ≡ at + 1 = ap (λ (o : Option ℕ). place_past o n) found.found in
    let on = place-onward es s (at + 1) in
    let here : AllFit es s (at + 1) = subst (λ (k : ℕ). AllFit es s k) next all.1 in
    let long : place_at es s (at + 1) ≤ m = subst (λ (k : ℕ). place_at es s k ≤ m) next far in
    let lt : at < m = omega (arith, on, long) in
    let also : first w n (passes test) ≡ Some at = found-there s w n at m (passes test) is found.found same lt in
    let past : place_past (first w n (passes test)) n ≡ at + 1 = ap (λ (o : Option ℕ). place_past o n) also in
    let rest = fits-there es s w (at + 1) m is none here long (λ k low to. same k (omega (arith, from, low)) to) in (
      (
        record { place = at; found = also; alike = found.alike ∙ ap (sees look) (sym (same at from lt)) },
        subst (λ (k : ℕ). AllFit es w k) (sym past) rest.0,
      ),
      ap (place_at es w) past ∙ rest.1 ∙ ap (place_at es s) (sym next),
    )
fits-there (Missed test ∷ es) s w n m is none all far same = absurd none

-- The first n bytes of one stream, and then another.
abbrev pub joined : ℕ → Stream → Stream → Stream
joined n s w = Drawn (joined_bytes n s w) (span s + span w)

pub joined-is : (n : ℕ) (s w : Stream) → IsStream s → IsStream w → IsStream (joined n s w)
joined-is n s w is ok = (joined-small n s w is ok, joined-holds n (span s + span w) s w (omega arith) is ok)

joined-first : (n : ℕ) (s w : Stream) (k : ℕ) → k < n → byte_at (joined n s w) k ≡ byte_at s k
unfolding byte_at
joined-first n s w k lt = joined-low n s w k lt

joined-then : (n : ℕ) (s w : Stream) (k : ℕ) → byte_at (joined n s w) (n + k) ≡ byte_at w k
unfolding byte_at
joined-then n s w k = let back : n + k - n ≡ k = omega arith in joined-high n s w (n + k) (omega arith) ∙ ap (byte_at w) back

after-byte : (n : ℕ) (s : Stream) (k : ℕ) → byte_at (dropped n s) k ≡ byte_at s (n + k)
unfolding byte_at
after-byte n s k = refl

-- A stream with the k bytes after the first j before those.
abbrev pub swapped : ℕ → ℕ → Stream → Stream
swapped j k w = joined k (dropped j w) (joined j w (dropped (j + k) w))

pub swapped-is : (j k : ℕ) (w : Stream) → IsStream w → IsStream (swapped j k w)
swapped-is j k w is = joined-is k (dropped j w) (joined j w (dropped (j + k) w)) (dropped-is j w is) (joined-is j w (dropped (j + k) w) is (dropped-is (j + k) w is))

pub swapped-first : (j k : ℕ) (w : Stream) (i : ℕ) → i < k → byte_at (swapped j k w) i ≡ byte_at (dropped j w) i
swapped-first j k w i lt = joined-first k (dropped j w) (joined j w (dropped (j + k) w)) i lt

swapped-second : (j k : ℕ) (w : Stream) (i : ℕ) → i < j → byte_at (dropped k (swapped j k w)) i ≡ byte_at w i
swapped-second j k w i lt =
    let last = joined j w (dropped (j + k) w) in
    after-byte k (swapped j k w) i ∙ joined-then k (dropped j w) last i ∙ joined-first j w (dropped (j + k) w) i lt

swapped-rest : (j k : ℕ) (w : Stream) (i : ℕ) → byte_at (dropped j (dropped k (swapped j k w))) i ≡ byte_at (dropped (j + k) w) i
swapped-rest j k w i =
    let last = joined j w (dropped (j + k) w) in
    after-byte j (dropped k (swapped j k w)) i ∙ after-byte k (swapped j k w) (j + i) ∙ joined-then k (dropped j w) last (j + i) ∙ joined-then j w (dropped (j + k) w) i

-- A search that ends within the first j bytes finds the same after the k bytes.
pub swapped-found : (j k : ℕ) (w : Stream) (test : ℕ → Bool) (m : ℕ) → IsStream w → first w 0 test ≡ Some m → m < j → first (dropped k (swapped j k w)) 0 test ≡ Some m
swapped-found j k w test m is found lt =
    found-there w (dropped k (swapped j k w)) 0 m j test (dropped-is k (swapped j k w) (swapped-is j k w is)) found (λ i from to. swapped-second j k w i to) lt

-- Where a log agrees with it whose first part takes the k bytes, and whose second part takes the j bytes, the parts in the other order agree
-- with the stream.
pub swapped_agrees : (one two rest : List Entry) (j k : ℕ) (w : Stream) → IsStream w → NoneMissed one → NoneMissed two → NoneMissed rest
    → Agrees (one ++ (two ++ rest)) (swapped j k w) → place_at one (swapped j k w) 0 ≡ k → place_at two (dropped k (swapped j k w)) 0 ≡ j
    → Agrees (two ++ (one ++ rest)) w
swapped_agrees one two rest j k w is none never nor agrees first_ends second_ends =
    let v = swapped j k w in
    let u = dropped k v in
    let later : Agrees (two ++ rest) u = subst (λ (n : ℕ). Agrees (two ++ rest) (dropped n v)) first_ends (agrees_then one (two ++ rest) v agrees) in
    let last : Agrees rest (dropped j u) = subst (λ (n : ℕ). Agrees rest (dropped n u)) second_ends (agrees_then two rest u later) in
    let b = fits-there two u w 0 j is never (agrees_first two rest u later).fit (omega (arith, second_ends)) (λ i from to. sym (swapped-second j k w i to)) in
    let a = fits-there one v (dropped j w) 0 k (dropped-is j w is) none (agrees_first one (two ++ rest) v agrees).fit (omega (arith, first_ends))
    (λ i from to. sym (swapped-first j k w i to))
    in
    let c = fits-there rest (dropped j u) (dropped (j + k) w) 0 (place_at rest (dropped j u) 0) (dropped-is (j + k) w is) nor last.fit (omega arith)
    (λ i from to. sym (swapped-rest j k w i))
    in
    let here : place_at one w (j + 0) ≡ j + k + 0 = place-dropped one w j 0 ∙ ap (λ (n : ℕ). j + n) (a.1 ∙ first_ends) ∙ omega arith in
    let there : place_at two w 0 ≡ j + 0 = b.1 ∙ second_ends ∙ omega arith in
    let both : AllFit (one ++ rest) w (j + 0) =
    fit_both one rest w (j + 0) (all-whole one w j 0 a.0) (subst (λ (n : ℕ). AllFit rest w n) (sym here) (all-whole rest w (j + k) 0 c.0))
    in
    record { is = is; fit = fit_both two (one ++ rest) w 0 b.0 (subst (λ (n : ℕ). AllFit (one ++ rest) w n) (sym there) both) }

-- Where a log agrees with what comes after a search, it does after this search with the whole, if nothing is seen of its byte.
pub unasked_agrees : (log : List Entry) (test : ByteTest) (byte m : ℕ) (w : Stream) → IsStream w → first w 0 (passes test) ≡ Some m → Agrees log (dropped (m + 1) w)
    → Agrees (Found test (Remainder 1) byte ∷ log) w
unasked_agrees log test byte m w is found agrees =
    let next : m + 1 + 0 ≡ place_past (first w 0 (passes test)) 0 = omega arith ∙ sym (ap (λ (o : Option ℕ). place_past o 0) found) in
    record {
      is = is;
      fit = (
        record { place = m; found = found; alike = omega arith },
        subst (λ (n : ℕ). AllFit log w n) next (all-whole log w (m + 1) 0 agrees.fit),
      );
    }

-- What was asked in parts of a log, in another order, and a stream that agrees with this.

-- No search of either of two logs found nothing if none of both did.
pub none_each : (xs ys : List Entry) → NoneMissed (xs ++ ys) → NoneMissed xs × NoneMissed ys
none_each [] ys all = (tt, all)
none_each (Draw look b ∷ xs) ys all = none_each xs ys all
none_each (Found test look b ∷ xs) ys all = none_each xs ys all
none_each (Missed test ∷ xs) ys all = absurd all

pub none_ordered : (log order : List Entry) → IsOrderOf log order → NoneMissed log → NoneMissed order
none_ordered log order (inl same) none = subst NoneMissed (sym same) none
none_ordered log order (inr (inl swapped)) none =
    let all = none_each swapped.first (swapped.second ++ swapped.rest) (subst NoneMissed swapped.asked none) in
    let later = none_each swapped.second swapped.rest all.1 in
    subst NoneMissed (sym swapped.is)
    (none_both swapped.second (swapped.first ++ swapped.rest) later.0 (none_both swapped.first swapped.rest all.0 later.1))
none_ordered log order (inr (inr unasked)) none = subst NoneMissed (sym unasked.is) none

-- A stream with a wider span agrees with the same log.
wider : (log : List Entry) (s v : Stream) → NoneMissed log → Agrees log s → IsStream v → (bytes : ℕ → ℕ) × Agrees log (Drawn bytes (span v + span s))
wider log s v none agrees is = joined_agree [] log v s tt none (record { is = is; fit = tt }) agrees

-- A search for a byte that passes agrees with each stream if nothing is seen of its byte.
unseen : (s : Stream) → IsStream s → (test : ByteTest) (b : ℕ) → b < 256 → IsTrue (passes test b) → Agrees (Found test (Remainder 1) b ∷ []) s
unseen s is test b small meets =
    let found = first-exists s is 0 (passes test) b small meets in
    record { is = is; fit = (record { place = found.0; found = found.1; alike = omega arith }, tt) }

-- Where a stream agrees with a log, one agrees with its order.
pub ordered_agree : (log order : List Entry) (s : Stream) → IsOrderOf log order → NoneMissed log → Agrees log s
    → (bytes : ℕ → ℕ) × Agrees order (Drawn bytes (span s + (span s + span s)))
ordered_agree log order s (inl same) none agrees =
    let two = wider log s s none agrees agrees.is in
    let three = wider log (Drawn two.0 (span s + span s)) s none two.1 agrees.is in
    (three.0, subst (λ (l : List Entry). Agrees l (Drawn three.0 (span s + (span s + span s)))) (sym same) three.1)
ordered_agree log order s (inr (inl swapped)) none agrees =
    let second = swapped.second in
    let all = subst (λ (l : List Entry). Agrees l s) swapped.asked agrees in
    let here = rest_after swapped.first s in
    let later = agrees_then swapped.first (second ++ swapped.rest) s all in
    let never = none_each swapped.first (second ++ swapped.rest) (subst NoneMissed swapped.asked none) in
    let nor = none_each second swapped.rest never.1 in
    let two = joined_agree swapped.first swapped.rest s (rest_after second here) never.0 nor.1
    (agrees_first swapped.first (second ++ swapped.rest) s all) (agrees_then second swapped.rest here later) in
    let three = joined_agree second (swapped.first ++ swapped.rest) here (Drawn two.0 (span s + span s)) nor.0
    (none_both swapped.first swapped.rest never.0 nor.1) (agrees_first second swapped.rest here later) two.1 in
    (three.0, subst (λ (l : List Entry). Agrees l (Drawn three.0 (span s + (span s + span s)))) (sym swapped.is) three.1)
ordered_agree log order s (inr (inr unasked)) none agrees =
    let search = Found unasked.test (Remainder 1) unasked.byte in
    let two = joined_agree (search ∷ []) log s s tt none (unseen s agrees.is unasked.test unasked.byte unasked.small unasked.passes) agrees in
    let three = wider (search ∷ log) (Drawn two.0 (span s + span s)) s none two.1 agrees.is in
    (three.0, subst (λ (l : List Entry). Agrees l (Drawn three.0 (span s + (span s + span s)))) (sym unasked.is) three.1)
