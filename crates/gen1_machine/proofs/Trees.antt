-- The tree of draws of a phase: rules for the ways to combine phases. Where a tree leads depends on the bytes that are drawn alone.
use Rattle.std.proofs.Common.{Bool, None, Option, Some, ap, arith, false, inl, inr, refl, subst, sym, true, ℕ, ◌+◌, ◌-◌, ◌<◌, ◌∙◌, ◌≡◌, ◌≤◌, ◌⊎◌}
use Rattle.gen1_machine.specs.declared.event.Event.{Event}
use Rattle.gen1_machine.specs.declared.side.Side.{Side}
use Rattle.gen1_rolls.specs.Streams.{byte_at, first, first_within, span, IsFirst, Stream}
use Rattle.gen1_rolls.proofs.First.{first-fails, first-finds, first-within, first_within-is, first_within-none}
use Rattle.gen1_machine.specs.State.{Field}
use Rattle.gen1_machine.specs.Progress.{choose, draw, draw_until, given, note, on_action, on_field, stay, stop, told, unless_stopped, ◌▸◌, Action, Phase, Progress}
use Rattle.gen1_machine.specs.Ruling.{Ruling}
use Rattle.gen1_machine.specs.Laws.{drawing_from, leads_to, on_stream, Agree, Done, Draw, Search, Tree}

pub record HasTree (f : Phase) : Type 0 where
  pub tree : Progress → Tree
  pub leads : (p : Progress) (s : Stream) (n : ℕ) → f (drawing_from s n p) ≡ leads_to (tree p) s n

-- Falling asleep and freezing have trees.
pub record RulingHasTrees (r : Ruling) : Type 0 where
  pub sleeps : (user : Side) → HasTree (r.sleeps user)
  pub freezes : (user : Side) → HasTree (r.freezes user)

-- A value of the battle that doesn't depend on what is drawn next.
abbrev pub Blind : {A : Type 0} → (Progress → A) → Type 0
Blind read = (p : Progress) (s : Stream) (n : ℕ) → read (drawing_from s n p) ≡ read p

-- A phase that draws nothing, and does the same on each stream.
pub drawless-tree : {f : Phase} → ((p : Progress) (s : Stream) (n : ℕ) → f (drawing_from s n p) ≡ drawing_from s n (f p)) → HasTree f
unfolding leads_to
drawless-tree {f} same = record { tree = λ p. Done (f p); leads = same }

pub stay-tree : HasTree stay
unfolding stay
stay-tree = drawless-tree (λ p s n. refl)

pub stop-tree : HasTree stop
unfolding stop
stop-tree = drawless-tree (λ p s n. refl)

-- One of two results, and one of two trees.

abbrev either : Bool → Progress → Progress → Progress
either b p q = elim b as (λ _. Progress) [ true ↦ p | false ↦ q ]

abbrev either_tree : Bool → Tree → Tree → Tree
either_tree b t u = elim b as (λ _. Tree) [ true ↦ t | false ↦ u ]

either-leads : (b : Bool) (p q : Progress) (t u : Tree) (s : Stream) (n : ℕ) → p ≡ leads_to t s n → q ≡ leads_to u s n
    → either b p q ≡ leads_to (either_tree b t u) s n
either-leads true p q t u s n h k = h
either-leads false p q t u s n h k = k

pub unless_stopped-tree : {f : Phase} → HasTree f → HasTree (unless_stopped f)
unfolding unless_stopped leads_to
unless_stopped-tree k = record {
  tree = λ p. either_tree p.stopped (Done p) (k.tree p);
  leads = λ p s n. either-leads p.stopped _ _ (Done p) (k.tree p) s n refl (k.leads p s n);
}

-- What a search finds, or none.
abbrev pub searched : {A : Type 0} → Option ℕ → (ℕ → A) → A → A
searched {A = A} o found none = elim o as (λ _. A) [ Some m ↦ found m | None ↦ none ]

-- A tree, and another one where it is done.
unfoldable and_then : Tree → (Progress → Tree) → Tree
and_then (Done left) more = more left
and_then (Draw next) more = Draw (λ b. and_then (next b) more)
and_then (Search test found none) more = Search test (λ b. and_then (found b) more) (and_then none more)

followed : {g : Phase} (t : Tree) (k : HasTree g) (s : Stream) (n : ℕ) → g (leads_to t s n) ≡ leads_to (and_then t k.tree) s n
unfolding leads_to and_then
followed (Done left) k s n = k.leads left s n
followed (Draw next) k s n = followed (next (byte_at s n)) k s (n + 1)
followed {g} (Search test found none) k s n =
    by (first s n test) (λ m. followed (found (byte_at s m)) k s (m + 1)) (followed none k s (n + span s))
  where
    by : (o : Option ℕ)
        → ((m : ℕ) → g (leads_to (found (byte_at s m)) s (m + 1)) ≡ leads_to (and_then (found (byte_at s m)) k.tree) s (m + 1))
        → g (leads_to none s (n + span s)) ≡ leads_to (and_then none k.tree) s (n + span s)
        → g (searched o (λ m. leads_to (found (byte_at s m)) s (m + 1)) (leads_to none s (n + span s)))
        ≡ searched o (λ m. leads_to (and_then (found (byte_at s m)) k.tree) s (m + 1)) (leads_to (and_then none k.tree) s (n + span s))
    by (Some m) h e = h m
    by None h e = e

-- One phase and then the next, in any case.
pub after-tree : {f g : Phase} → HasTree f → HasTree g → HasTree (λ p. g (f p))
after-tree {f} {g} k l = record {
  tree = λ p. and_then (k.tree p) l.tree;
  leads = λ p s n. ap g (k.leads p s n) ∙ followed (k.tree p) l s n;
}

pub then-tree : {f g : Phase} → HasTree f → HasTree g → HasTree (f ▸ g)
unfolding ◌▸◌
then-tree {f} {g} k l = after-tree k (unless_stopped-tree l)

pub choose-tree : {test : Progress → Bool} {f g : Phase} → Blind test → HasTree f → HasTree g → HasTree (choose test f g)
unfolding choose
choose-tree {test} {f} {g} blind k l = record {
  tree = λ p. either_tree (test p) (k.tree p) (l.tree p);
  leads = λ p s n. ap (λ (b : Bool). either b (f (drawing_from s n p)) (g (drawing_from s n p))) (blind p s n)
      ∙ either-leads (test p) _ _ (k.tree p) (l.tree p) s n (k.leads p s n) (l.leads p s n);
}

pub given-tree : {A : Type 0} {read : Progress → A} {f : A → Phase} → Blind read → ((x : A) → HasTree (f x)) → HasTree (given read f)
unfolding given
given-tree {read = read} {f = f} blind k = record {
  tree = λ p. (k (read p)).tree p;
  leads = λ p s n. ap (λ x. f x (drawing_from s n p)) (blind p s n) ∙ (k (read p)).leads p s n;
}

pub draw-tree : {f : ℕ → Phase} → ((b : ℕ) → HasTree (f b)) → HasTree (draw f)
unfolding draw leads_to
draw-tree k = record {
  tree = λ p. Draw (λ b. (k b).tree p);
  leads = λ p s n. (k (byte_at s n)).leads p s (n + 1);
}

pub draw_until-tree : (test : ℕ → Bool) {f : ℕ → Phase} → ((b : ℕ) → HasTree (f b)) → HasTree (draw_until test f)
unfolding draw_until leads_to
draw_until-tree test {f} k = record {
  tree = λ p. Search test (λ b. (k b).tree p) (Done p);
  leads = λ p s n. by p s n (first s n test);
}
  where
    by : (p : Progress) (s : Stream) (n : ℕ) (o : Option ℕ)
        → searched o (λ m. f (byte_at s m) (drawing_from s (m + 1) p)) (drawing_from s (n + span s) p)
        ≡ searched o (λ m. leads_to ((k (byte_at s m)).tree p) s (m + 1)) (drawing_from s (n + span s) p)
    by p s n (Some m) = (k (byte_at s m)).leads p s (m + 1)
    by p s n None = refl

-- Writes and events

pub on_field-tree : (change : Field → Field) → HasTree (on_field change)
unfolding on_field
on_field-tree change = drawless-tree (λ p s n. refl)

pub note-tree : (event : Field → Event) → HasTree (note event)
unfolding note
note-tree event = drawless-tree (λ p s n. refl)

pub told-tree : (change : Field → Field) (event : Field → Event) → HasTree (told change event)
unfolding told
told-tree change event = drawless-tree (λ p s n. refl)

pub on_action-tree : (change : Action → Action) → HasTree (on_action change)
unfolding on_action
on_action-tree change = drawless-tree (λ p s n. refl)

pub ruleset tree_rules = (stay-tree, stop-tree, then-tree, choose-tree, given-tree, draw-tree, draw_until-tree, on_field-tree, note-tree, told-tree, on_action-tree)

-- A tree leads on in the stream.
onward : (t : Tree) (s : Stream) (n : ℕ) → n ≤ (leads_to t s n).drawn
unfolding leads_to
onward (Done left) s n = omega arith
onward (Draw next) s n = omega (arith, onward (next (byte_at s n)) s (n + 1))
onward (Search test found none) s n =
    by (first s n test) refl (λ m. onward (found (byte_at s m)) s (m + 1)) (onward none s (n + span s))
  where
    by : (o : Option ℕ) → first s n test ≡ o → ((m : ℕ) → m + 1 ≤ (leads_to (found (byte_at s m)) s (m + 1)).drawn)
        → n + span s ≤ (leads_to none s (n + span s)).drawn
        → n ≤ (searched o (λ m. leads_to (found (byte_at s m)) s (m + 1)) (leads_to none s (n + span s))).drawn
    by (Some m) e h k = omega (arith, (first-finds s n test m e).from, h m)
    by None e h k = omega (arith, k)

-- Streams that agree from a place to another agree on what is between.
narrowed : (s w : Stream) (n m i j : ℕ) → Agree s w n m → n ≤ i → j ≤ m → i ≤ j → Agree s w i j
narrowed s w n m i j h low high order = record {
  bytes = λ k from to. h.bytes k (omega (arith, low, from)) (omega (arith, high, to));
  spans = by h.spans;
}
  where
    by : (span w ≡ span s) ⊎ ((m < n + span s) × (m < n + span w)) → (span w ≡ span s) ⊎ ((j < i + span s) × (j < i + span w))
    by (inl e) = inl e
    by (inr both) = inr (omega (arith, low, high, both.0), omega (arith, low, high, both.1))

-- A search finds the same place in both streams, or it finds none in either.

found-same : (s w : Stream) (n : ℕ) (test : ℕ → Bool) (m j : ℕ) → first s n test ≡ Some m → Agree s w n j → m + 1 ≤ j → first w n test ≡ Some m
unfolding first
found-same s w n test m j found h on = at (first-finds s n test m found) (first-within s n test m found) h.spans
  where
    at : IsFirst s n test m → m < n + span s → (span w ≡ span s) ⊎ ((j < n + span s) × (j < n + span w)) → first_within (span w) w n test ≡ Some m
    at is near spans =
        let there : n + (m - n) ≡ m = omega (arith, is.from) in
        first_within-is (span w) w n test (m - n) (enough spans)
        (ap (λ i. test (byte_at w i)) there ∙ ap test (h.bytes m is.from (omega (arith, on))) ∙ is.meets)
        (λ i below. ap test (h.bytes (n + i) (omega arith) (omega (arith, on, below))) ∙ is.none_before (n + i) (omega arith) (omega (arith, below)))
        ∙ ap (λ i. Some i) there
      where
        enough : (span w ≡ span s) ⊎ ((j < n + span s) × (j < n + span w)) → m - n < span w
        enough (inl e) = omega (arith, e, near, is.from)
        enough (inr both) = omega (arith, both.1, on, is.from)

none-same : (s w : Stream) (n j : ℕ) (test : ℕ → Bool) → first s n test ≡ None → Agree s w n j → n + span s ≤ j → span w ≡ span s → first w n test ≡ None
unfolding first
none-same s w n j test none h far e =
    first_within-none (span w) w n test (λ i below. ap test (h.bytes (n + i) (omega arith) (omega (arith, below, e, far)))
    ∙ first-fails s n test none (n + i) (omega arith) (omega (arith, below, e)))

-- The spans are equal, if the whole span of one is no more bytes.
equal-spans : (s w : Stream) (n j : ℕ) → Agree s w n j → n + span s ≤ j → span w ≡ span s
equal-spans s w n j h far = by h.spans
  where
    by : (span w ≡ span s) ⊎ ((j < n + span s) × (j < n + span w)) → span w ≡ span s
    by (inl e) = e
    by (inr both) = absurd (omega (arith, both.0, far))

-- It leads to the same on streams that agree on what is drawn.
tree-local : (t : Tree) (s w : Stream) (n : ℕ) → Agree s w n (leads_to t s n).drawn → leads_to t w n ≡ on_stream w (leads_to t s n)
unfolding leads_to
tree-local (Done left) s w n h = refl
tree-local (Draw next) s w n h =
    let on = onward (next (byte_at s n)) s (n + 1) in
    ap (λ b. leads_to (next b) w (n + 1)) (h.bytes n (omega arith) (omega (arith, on)))
    ∙ tree-local (next (byte_at s n)) s w (n + 1) (narrowed s w n _ (n + 1) _ h (omega arith) (omega arith) on)
tree-local (Search test found none) s w n h =
    by (first s n test) refl h (λ m. tree-local (found (byte_at s m)) s w (m + 1)) (tree-local none s w (n + span s))
  where
    by : (o : Option ℕ) → first s n test ≡ o
        → Agree s w n (searched o (λ m. leads_to (found (byte_at s m)) s (m + 1)) (leads_to none s (n + span s))).drawn
        → ((m : ℕ) → Agree s w (m + 1) (leads_to (found (byte_at s m)) s (m + 1)).drawn
        → leads_to (found (byte_at s m)) w (m + 1) ≡ on_stream w (leads_to (found (byte_at s m)) s (m + 1)))
        → (Agree s w (n + span s) (leads_to none s (n + span s)).drawn
        → leads_to none w (n + span s) ≡ on_stream w (leads_to none s (n + span s)))
        → searched (first w n test) (λ m. leads_to (found (byte_at w m)) w (m + 1)) (leads_to none w (n + span w))
        ≡ on_stream w (searched o (λ m. leads_to (found (byte_at s m)) s (m + 1)) (leads_to none s (n + span s)))
    by (Some m) e h one rest =
        let from : n ≤ m = (first-finds s n test m e).from in
        let on = onward (found (byte_at s m)) s (m + 1) in
        ap (λ o. searched o (λ m. leads_to (found (byte_at w m)) w (m + 1)) (leads_to none w (n + span w))) (found-same s w n test m _ e h on)
        ∙ ap (λ b. leads_to (found b) w (m + 1)) (h.bytes m from (omega (arith, on)))
        ∙ one m (narrowed s w n _ (m + 1) _ h (omega (arith, from)) (omega arith) on)
    by None e h one rest =
        let on = onward none s (n + span s) in
        let equal = equal-spans s w n _ h on in
        ap (λ o. searched o (λ m. leads_to (found (byte_at w m)) w (m + 1)) (leads_to none w (n + span w))) (none-same s w n _ test e h on equal)
        ∙ ap (λ k. leads_to none w (n + k)) equal
        ∙ rest (narrowed s w n _ (n + span s) _ h (omega arith) (omega arith) on)

-- So does a phase that has a tree.

pub phase-onward : {f : Phase} → HasTree f → (p : Progress) → p.drawn ≤ (f p).drawn
phase-onward {f} k p = subst (λ (q : Progress). p.drawn ≤ q.drawn) (sym (k.leads p p.stream p.drawn)) (onward (k.tree p) p.stream p.drawn)

pub phase-local : {f : Phase} → HasTree f → (p : Progress) (w : Stream) → Agree p.stream w p.drawn (f p).drawn → f (on_stream w p) ≡ on_stream w (f p)
phase-local {f} k p w h =
    let is = k.leads p p.stream p.drawn in
    k.leads p w p.drawn ∙ tree-local (k.tree p) p.stream w p.drawn (subst (λ (q : Progress). Agree p.stream w p.drawn q.drawn) is h) ∙ ap (on_stream w) (sym is)
