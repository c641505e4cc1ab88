-- What the ways played so far have gone through: a tree with holes, one level for each draw of the way (docs/MECHANICS.md, "Link numbers").
--
-- At each level some bytes of the draw are finished: each leads to a tree of all that follows it. Those in the class of the draw's byte are
-- gone through at the deeper levels, and of those that are left nothing is known yet. Each byte has a part of the level's whole.
use Rattle.std.proofs.Common.{◌≡◌, ◌⊎◌, inl, inr, ℕ, zero, suc, ◌*◌, ◌+◌, ◌<◌, ◌≤◌, ◌&&◌, Bool, IsTrue, true, false, List, [], Option, None, Some, ap, ap₂, arith, cond, get_or, if◌then◌else◌, length, refl, subst, sym, ◌∙◌}
use Rattle.std.proofs.lemmas.List.{get_or_default}
use Rattle.gen1_rolls.specs.Streams.{passes, IsStream, Stream, byte_at, span}
use Rattle.gen1_machine.specs.Laws.{count_of, leads_to, sum_over, Done, Draw, IsDealt, IsShare, Search, Tree}
use Rattle.gen1_machine.specs.Progress.{Progress}
use Rattle.gen1_machine.specs.Step.{opened}
use Rattle.gen1_machine.specs.State.{Field, first_state, usual_terms}
use Rattle.gen1_machine.proofs.Shares.{below-plus, below-same, below-times, counted, if_so, over-times}
use Rattle.gen1_outcomes.specs.declared.nodes.Asked.{Asked}
use Rattle.gen1_outcomes.specs.declared.nodes.Asked.TheVariants.{First, Next, Unknown}
use Rattle.gen1_outcomes.specs.declared.nodes.Node.{Node}
use Rattle.gen1_outcomes.specs.declared.nodes.Nodes.{Nodes}
use Rattle.gen1_outcomes.specs.Nodes.{AreOn, GoesOn, IsDone, LeadsOn, asked_at}
use Rattle.gen1_outcomes.specs.Bytes.{has}
use Rattle.gen1_outcomes.specs.Complete.{byte_for, byte_or_zero, place_asked, place_before}
use Rattle.gen1_outcomes.specs.Logs.{place_past}
use Rattle.gen1_outcomes.proofs.Complete.{CanAsk, asked_passes, byte_same, bytes_small, on_same, place_same}
use Rattle.gen1_outcomes.proofs.Fair.{IsFair, goes_rest, goes_was, is_on, may_of, node_at, off_left}
use Rattle.gen1_outcomes.proofs.Exchange.{over-scaled, share-times}
use Rattle.gen1_outcomes.proofs.Walking.{at, some_node}

-- Sums over the bytes that a draw may have.

over-plus : (t : ℕ → Bool) (f g : ℕ → ℕ) → sum_over t (λ b. f b + g b) ≡ sum_over t f + sum_over t g
over-plus t f g = below-same 256 _ _ (λ b lt. by (t b) (f b) (g b)) ∙ below-plus 256 (λ b. if_so (t b) (f b)) (λ b. if_so (t b) (g b))
  where
    by : (o : Bool) (x y : ℕ) → if_so o (x + y) ≡ if_so o x + if_so o y
    by true x y = refl
    by false x y = refl

over-some : (t o : ℕ → Bool) (d : ℕ) → sum_over t (λ b. if_so (o b) d) ≡ count_of (λ b. t b && o b) * d
over-some t o d = below-same 256 _ _ (λ b lt. by (t b) (o b)) ∙ below-times 256 (λ b. if_so (t b && o b) 1) d
  where
    by : (p q : Bool) → if_so p (if_so q d) ≡ if_so (p && q) 1 * d
    by true true = omega arith
    by true false = omega arith
    by false true = omega arith
    by false false = omega arith

-- Products, from the first on, and from a place on.

abbrev pub upto : (ℕ → ℕ) → ℕ → ℕ
upto f zero = 1
upto f (suc n) = upto f n * f n

abbrev pub after : (ℕ → ℕ) → ℕ → ℕ → ℕ
after f zero j = 1
after f (suc r) j = f j * after f r (suc j)

pub upto-after : (f : ℕ → ℕ) (r j n : ℕ) → j + r ≡ n → upto f j * after f r j ≡ upto f n
upto-after f zero j n e = let same : j ≡ n = omega (arith, e) in let all : upto f j ≡ upto f n = ap (upto f) same in omega (arith, all)
upto-after f (suc r) j n e =
    let rest : upto f j * f j * after f r (suc j) ≡ upto f n = upto-after f r (suc j) n (omega (arith, e)) in omega (arith, rest)

pub upto-same : (f g : ℕ → ℕ) (n : ℕ) → ((k : ℕ) → k < n → f k ≡ g k) → upto f n ≡ upto g n
upto-same f g zero same = refl
upto-same f g (suc n) same = ap₂ (λ (x y : ℕ). x * y) (upto-same f g n (λ k lt. same k (omega (arith, lt)))) (same n (omega arith))

-- What is in the class of each draw of a way up to one.

on_nodes : (old new : Nodes) (n : ℕ) (bytes : ℕ → ℕ) → ((k : ℕ) (past : Node) → k < n → at new k past ≡ at old k past) → AreOn new n bytes → AreOn old n bytes
on_nodes old new n bytes same on k past lt = subst (λ (x : Node). is_on x (bytes k) ≡ true) (same k past lt) (on k past lt)

on_next : (nodes : Nodes) (j : ℕ) (bytes : ℕ → ℕ) → j < length nodes.list → AreOn nodes j bytes → is_on (node_at nodes j) (bytes j) ≡ true → AreOn nodes (suc j) bytes
on_next nodes j bytes long on here k past lt = by (last k j lt)
  where
    last : (k j : ℕ) → k < suc j → (k ≡ j) ⊎ (k < j)
    last k j lt = grind arith

    by : (k ≡ j) ⊎ (k < j) → is_on (at nodes k past) (bytes k) ≡ true
    by (inl e) =
        subst (λ (i : ℕ). is_on (at nodes i past) (bytes i) ≡ true) (sym e)
        (subst (λ (x : Node). is_on x (bytes j) ≡ true) (get_or_default nodes.list j some_node past long) here)
    by (inr less) = on k past less

-- On each stream that goes by the draws before one, and has this byte for it, a tree leads to what passes a test exactly if the stream hits.
abbrev pub LeadsBy : (Q : Type 0) → (Stream → Bool) → (Field → Bool) → Nodes → ℕ → ℕ → Tree → Type 0
LeadsBy Q hits meets nodes j b tree =
    Q → (s : Stream) → IsStream s → AreOn nodes j (byte_for (asked_at nodes) s) → byte_for (asked_at nodes) s j ≡ b
    → meets (leads_to tree s (place_before (asked_at nodes) s (suc j))).field ≡ hits s

-- On each stream that goes by the draws before one, a tree leads to what passes a test exactly if the stream hits.
abbrev pub LeadsAt : (Q : Type 0) → (Stream → Bool) → (Field → Bool) → Nodes → ℕ → Tree → Type 0
LeadsAt Q hits meets nodes j tree =
    Q → (s : Stream) → IsStream s → AreOn nodes j (byte_for (asked_at nodes) s) → meets (leads_to tree s (place_before (asked_at nodes) s j)).field ≡ hits s

-- A level: the part of the whole of each byte, and a tree for each that is finished.
pub record Level (a : Asked) (node : Node) (meets : Field → Bool) (Leads : ℕ → Tree → Type 0) (Deeper : ℕ → ℕ → Type 0) (whole amount : ℕ) : Type 0 where
  pub each : ℕ
  pub deeper : ℕ
  pub part : ℕ → ℕ
  pub tree : ℕ → Tree
  pub equal : count_of (may_of a) * each ≡ whole
  pub sum : sum_over (may_of a) part ≡ amount
  pub on : (b : ℕ) → b < 256 → IsTrue (may_of a b) → is_on node b ≡ true → part b ≡ deeper
  pub left : (b : ℕ) → b < 256 → IsTrue (may_of a b) → has node.rest b ≡ 1 → part b ≡ 0
  pub done : (b : ℕ) → b < 256 → IsTrue (may_of a b) → is_on node b ≡ false → has node.rest b ≡ 0
      → Leads b (tree b) × IsShare (tree b) meets each (part b)
  pub below : Deeper each deeper

-- All levels of so many draws from one on, with something under the last.
abbrev pub Levels : (Q : Type 0) → (Stream → Bool) → (Field → Bool) → Nodes → (ℕ → ℕ → ℕ → Type 0) → ℕ → ℕ → ℕ → ℕ → Type 0
Levels Q hits meets nodes Leaf zero j whole amount = Leaf j whole amount
Levels Q hits meets nodes Leaf (suc r) j whole amount =
    Level (asked_at nodes j) (node_at nodes j) meets (LeadsBy Q hits meets nodes j) (Levels Q hits meets nodes Leaf r (suc j)) whole amount

-- Nothing yet.
abbrev pub IsFresh : ℕ → ℕ → ℕ → Type 0
IsFresh j whole amount = amount ≡ 0

-- A tree for all that comes.
pub record IsClosed (Q : Type 0) (hits : Stream → Bool) (meets : Field → Bool) (nodes : Nodes) (j whole amount : ℕ) : Type 0 where
  pub tree : Tree
  pub leads : LeadsAt Q hits meets nodes j tree
  pub share : IsShare tree meets whole amount

-- Any tree.
some_tree : Tree
some_tree = Done (opened (first_state usual_terms [] [] []))

-- A tree that asks for a byte as a draw does.
record AsksFor (a : Asked) (next : ℕ → Tree) (meets : Field → Bool) (whole amount : ℕ) : Type 0 where
  tree : Tree
  share : IsShare tree meets whole amount
  leads : (s : Stream) → IsStream s → (n : ℕ) → leads_to tree s n ≡ leads_to (next (byte_or_zero s (place_asked a s n))) s (place_past (place_asked a s n) n)

asks_for : (a : Asked) (next : ℕ → Tree) (meets : Field → Bool) (whole amount : ℕ) → CanAsk a → IsDealt (may_of a) (λ b. IsShare (next b) meets) whole amount
    → AsksFor a next meets whole amount
unfolding leads_to IsShare
asks_for Next next meets whole amount can dealt = record { tree = Draw next; share = dealt; leads = λ s is n. refl }
asks_for (First test) next meets whole amount can dealt =
    record {
      tree = Search (passes test) next some_tree;
      share = inl (counted (passes test) can.0 can.1 can.2, dealt);
      leads = λ s is n.
          let found = asked_passes (First test) test s n is refl can in
          ap (λ (o : Option ℕ). elim o as (λ _. Progress) [ Some m ↦ leads_to (next (byte_at s m)) s (m + 1) | None ↦ leads_to some_tree s (n + span s) ]) found.1
          ∙ ap (λ (o : Option ℕ). leads_to (next (byte_or_zero s o)) s (place_past o n)) (sym found.1);
    }
asks_for Unknown next meets whole amount can dealt = absurd can

-- The byte that a stream has for a draw is one that it may have.
may_have : (a : Asked) → CanAsk a → (s : Stream) → IsStream s → (n : ℕ) → IsTrue (may_of a (byte_or_zero s (place_asked a s n)))
may_have Next can s is n = refl
may_have (First test) can s is n =
    let found = asked_passes (First test) test s n is refl can in
    subst (λ (o : Option ℕ). IsTrue (passes test (byte_or_zero s o))) (sym found.1) found.2
may_have Unknown can s is n = absurd can

-- More of each byte.

-- The whole is multiplied, and the bytes in the class have some more of it.
level_more : {a : Asked} {node : Node} {meets : Field → Bool} {Leads : ℕ → Tree → Type 0} {Deeper : ℕ → ℕ → Type 0} {whole amount : ℕ} (More : ℕ → ℕ → Type 0) (k d : ℕ)
    → IsFair a node → (h : Level a node meets Leads Deeper whole amount) → More (h.each * k) (h.deeper * k + d)
    → Level a node meets Leads More (whole * k) (amount * k + node.count * d)
level_more {a} {node} {meets} More k d fair h deeper =
    record {
      each = h.each * k;
      deeper = h.deeper * k + d;
      part = λ b. h.part b * k + if_so (is_on node b) d;
      tree = h.tree;
      equal = omega (arith, ap (λ (x : ℕ). x * k) h.equal);
      sum = over-plus (may_of a) (λ b. h.part b * k) (λ b. if_so (is_on node b) d)
          ∙ ap₂ (λ (x y : ℕ). x + y) (over-scaled (may_of a) h.part k ∙ ap (λ (x : ℕ). x * k) h.sum)
          (over-some (may_of a) (is_on node) d ∙ ap (λ (x : ℕ). x * d) (sym fair.count));
      on = λ b lt is e. ap₂ (λ (x y : ℕ). x * k + y) (h.on b lt is e) (ap (λ (t : Bool). if_so t d) e);
      left = λ b lt is e.
          let none : h.part b ≡ 0 = h.left b lt is e in
          let off : if_so (is_on node b) d ≡ 0 = ap (λ (t : Bool). if_so t d) (off_left a node b fair lt e) in
          omega (arith, off, ap (λ (x : ℕ). x * k) none);
      done = λ b lt is off none.
          let d = h.done b lt is off none in (
            d.0,
            subst (λ (n : ℕ). IsShare (h.tree b) meets (h.each * k) n) (more (is_on node b) (h.part b * k) off) (share-times (h.tree b) meets k h.each (h.part b) d.1),
          );
      below = deeper;
    }
  where
    more : (t : Bool) (n : ℕ) → t ≡ false → n ≡ n + if_so t d
    more t n e = let none : if_so t d ≡ 0 = ap (λ (x : Bool). if_so x d) e in omega (arith, none)

-- A level of a draw that is new: all but its class is left.
level_new : {a : Asked} {node : Node} (meets : Field → Bool) (Leads : ℕ → Tree → Type 0) (Deeper : ℕ → ℕ → Type 0) (whole : ℕ) → IsFair a node
    → ((b : ℕ) → b < 256 → IsTrue (may_of a b) → is_on node b ≡ false → has node.rest b ≡ 1) → Deeper whole 0
    → Level a node meets Leads Deeper (whole * node.total) 0
level_new {a} {node} meets Leads Deeper whole fair full below =
    record {
      each = whole;
      deeper = 0;
      part = λ b. 0;
      tree = λ b. some_tree;
      equal = omega (arith, ap (λ (x : ℕ). whole * x) fair.total);
      sum = over-times (may_of a) 0 ∙ omega arith;
      on = λ b lt is e. refl;
      left = λ b lt is e. refl;
      done = λ b lt is off none. absurd (omega (arith, full b lt is off, none));
      below = below;
    }

-- A level that is done is a tree of all its bytes.
level_closed : (Q : Type 0) (hits : Stream → Bool) (meets : Field → Bool) (nodes : Nodes) (j : ℕ) {Deeper : ℕ → ℕ → Type 0} {whole amount : ℕ} → j < length nodes.list
    → IsFair (asked_at nodes j) (node_at nodes j) → IsDone (node_at nodes j) → (h : Level (asked_at nodes j) (node_at nodes j) meets (LeadsBy Q hits meets nodes j) Deeper whole amount)
    → IsClosed Q hits meets nodes (suc j) h.each h.deeper → IsClosed Q hits meets nodes j whole amount
level_closed Q hits meets nodes j {Deeper} {whole} {amount} long fair done h deep =
    record {
      tree = asked.tree;
      leads = λ q s is on.
          let f = byte_for (asked_at nodes) s in
          let p = place_before (asked_at nodes) s j in
          ap (λ (x : Progress). meets x.field) (asked.leads s is p)
          ∙ from q s is on (bytes_small (asked_at nodes) s is j) (may_have a fair.asks s is p) (is_on node (f j)) refl;
      share = asked.share;
    }
  where
    a : Asked
    a = asked_at nodes j

    node : Node
    node = node_at nodes j

    next : ℕ → Tree
    next b = if is_on node b then deep.tree else h.tree b

    parts : (b : ℕ) → b < 256 → IsTrue (may_of a b) → IsShare (next b) meets h.each (h.part b)
    parts b lt is = by (is_on node b) refl
      where
        by : (t : Bool) → is_on node b ≡ t → IsShare (if t then deep.tree else h.tree b) meets h.each (h.part b)
        by true e = subst (λ (n : ℕ). IsShare deep.tree meets h.each n) (sym (h.on b lt is e)) deep.share
        by false e = (h.done b lt is e (done b lt)).1

    asked : AsksFor a next meets whole amount
    asked = asks_for a next meets whole amount fair.asks (record { each = h.each; part = h.part; equal = h.equal; parts = parts; sum = h.sum })

    from : Q → (s : Stream) → IsStream s → AreOn nodes j (byte_for (asked_at nodes) s) → byte_for (asked_at nodes) s j < 256
        → IsTrue (may_of a (byte_for (asked_at nodes) s j)) → (t : Bool) → is_on node (byte_for (asked_at nodes) s j) ≡ t
        → meets (leads_to (if t then deep.tree else h.tree (byte_for (asked_at nodes) s j)) s (place_before (asked_at nodes) s (suc j))).field ≡ hits s
    from q s is on lt may true e = deep.leads q s is (on_next nodes j (byte_for (asked_at nodes) s) long on e)
    from q s is on lt may false e = (h.done (byte_for (asked_at nodes) s j) lt may e (done (byte_for (asked_at nodes) s j) lt)).0 q s is on refl

-- All draws of a way are as they ought to be.
abbrev pub AreFair : Nodes → Type 0
AreFair nodes = (k : ℕ) → k < nodes.len → IsFair (asked_at nodes k) (node_at nodes k)

-- From one on they are closed, if nothing is left at them.
pub levels_closed : (Q : Type 0) (hits : Stream → Bool) (meets : Field → Bool) (nodes : Nodes) → nodes.len ≤ length nodes.list → AreFair nodes → (r j : ℕ) → j + r ≡ nodes.len
    → ((k : ℕ) → j ≤ k → k < nodes.len → IsDone (node_at nodes k)) → (whole amount : ℕ) → Levels Q hits meets nodes (IsClosed Q hits meets nodes) r j whole amount
    → IsClosed Q hits meets nodes j whole amount
levels_closed Q hits meets nodes long fair zero j e done whole amount h = h
levels_closed Q hits meets nodes long fair (suc r) j e done whole amount h =
    level_closed Q hits meets nodes j (omega (arith, long, e)) (fair j (omega (arith, e))) (done j (omega arith) (omega (arith, e))) h
    (levels_closed Q hits meets nodes long fair r (suc j) (omega (arith, e)) (λ k more lt. done k (omega (arith, more)) lt) h.each h.deeper h.below)

abbrev pub total_at : Nodes → ℕ → ℕ
total_at nodes k = (node_at nodes k).total

abbrev pub count_at : Nodes → ℕ → ℕ
count_at nodes k = (node_at nodes k).count

-- A draw is added under the last level.
pub levels_added : (Q : Type 0) (hits : Stream → Bool) (meets : Field → Bool) (nodes : Nodes) (n : ℕ) → ((k : ℕ) → k < suc n → IsFair (asked_at nodes k) (node_at nodes k))
    → ((b : ℕ) → b < 256 → IsTrue (may_of (asked_at nodes n) b) → is_on (node_at nodes n) b ≡ false → has (node_at nodes n).rest b ≡ 1)
    → (r j : ℕ) → j + r ≡ n → (whole amount : ℕ) → Levels Q hits meets nodes IsFresh r j whole amount
    → Levels Q hits meets nodes IsFresh (suc r) j (whole * total_at nodes n) (amount * total_at nodes n)
levels_added Q hits meets nodes n fair full zero j e whole amount none =
    let same : j ≡ n = omega (arith, e) in
    let nothing : 0 ≡ amount * total_at nodes n = sym (ap (λ (x : ℕ). x * total_at nodes n) none ∙ omega arith) in
    subst (λ (i : ℕ). Levels Q hits meets nodes IsFresh 1 i (whole * total_at nodes n) (amount * total_at nodes n)) (sym same)
    (subst (λ (m : ℕ). Levels Q hits meets nodes IsFresh 1 n (whole * total_at nodes n) m) nothing
    (level_new meets (LeadsBy Q hits meets nodes n) (Levels Q hits meets nodes IsFresh 0 (suc n)) whole (fair n (omega arith)) full refl))
levels_added Q hits meets nodes n fair full (suc r) j e whole amount h =
    let t = total_at nodes n in
    let deeper : Levels Q hits meets nodes IsFresh (suc r) (suc j) (h.each * t) (h.deeper * t) =
    levels_added Q hits meets nodes n fair full r (suc j) (omega (arith, e)) h.each h.deeper h.below
    in
    let same : h.deeper * t ≡ h.deeper * t + 0 = omega arith in
    let all : amount * t + count_at nodes j * 0 ≡ amount * t = omega arith in
    subst (λ (m : ℕ). Levels Q hits meets nodes IsFresh (suc (suc r)) j (whole * t) m) all
    (level_more (Levels Q hits meets nodes IsFresh (suc r) (suc j)) t 0 (fair j (omega (arith, e))) h
    (subst (λ (m : ℕ). Levels Q hits meets nodes IsFresh (suc r) (suc j) (h.each * t) m) same deeper))

-- A tree is put under the last level: it has a share of what the ways to it have of the whole.
pub record ArePut (Q : Type 0) (hits : Stream → Bool) (meets : Field → Bool) (nodes : Nodes) (k p r j whole amount : ℕ) : Type 0 where
  pub last : ℕ
  pub is : after (total_at nodes) r j * last ≡ whole
  pub levels : Levels Q hits meets nodes (IsClosed Q hits meets nodes) r j (whole * k) (amount * k + after (count_at nodes) r j * (p * last))

pub levels_put : (Q : Type 0) (hits : Stream → Bool) (meets : Field → Bool) (nodes : Nodes) → AreFair nodes → (tree : Tree) (k p : ℕ) → IsShare tree meets k p
    → LeadsAt Q hits meets nodes nodes.len tree → (r j : ℕ) → j + r ≡ nodes.len → (whole amount : ℕ) → Levels Q hits meets nodes IsFresh r j whole amount
    → ArePut Q hits meets nodes k p r j whole amount
levels_put Q hits meets nodes fair tree k p share leads zero j e whole amount none =
    let same : nodes.len ≡ j = omega (arith, e) in
    let parts : p * whole ≡ amount * k + 1 * (p * whole) = omega (arith, ap (λ (x : ℕ). x * k) none) in
    let all : k * whole ≡ whole * k = omega arith in
    record {
      last = whole;
      is = omega arith;
      levels = record {
        tree = tree;
        leads = subst (λ (i : ℕ). LeadsAt Q hits meets nodes i tree) same leads;
        share = subst (λ (n : ℕ). IsShare tree meets (whole * k) n) parts (subst (λ (w : ℕ). IsShare tree meets w (p * whole)) all (share-times tree meets whole k p share));
      };
    }
levels_put Q hits meets nodes fair tree k p share leads (suc r) j e whole amount h =
    let deep : ArePut Q hits meets nodes k p r (suc j) h.each h.deeper = levels_put Q hits meets nodes fair tree k p share leads r (suc j) (omega (arith, e)) h.each h.deeper h.below in
    let f = fair j (omega (arith, e)) in
    let d = after (count_at nodes) r (suc j) * (p * deep.last) in
    let more : amount * k + count_at nodes j * d ≡ amount * k + count_at nodes j * after (count_at nodes) r (suc j) * (p * deep.last) = omega arith in
    record {
      last = deep.last;
      is = omega (arith, ap (λ (x : ℕ). total_at nodes j * x) deep.is, ap (λ (x : ℕ). x * h.each) f.total, h.equal);
      levels = subst (λ (m : ℕ). Levels Q hits meets nodes (IsClosed Q hits meets nodes) (suc r) j (whole * k) m) more
          (level_more (Levels Q hits meets nodes (IsClosed Q hits meets nodes) r (suc j)) k d f h deep.levels);
    }

-- Draws that stay as they were.

pub record AreSame (n : ℕ) (old new : Nodes) : Type 0 where
  pub asked : (k : ℕ) → k < n → asked_at new k ≡ asked_at old k
  pub list : (k : ℕ) (past : Node) → k < n → at new k past ≡ at old k past

bytes_as : (n : ℕ) (old new : Nodes) (s : Stream) → AreSame n old new → (j : ℕ) → j ≤ n → AreOn new j (byte_for (asked_at new) s) → AreOn old j (byte_for (asked_at old) s)
bytes_as n old new s same j few on =
    on_nodes old new j (byte_for (asked_at old) s) (λ k past lt. same.list k past (omega (arith, lt, few)))
    (on_same new j (byte_for (asked_at new) s) (byte_for (asked_at old) s) (byte_same (asked_at new) (asked_at old) s j (λ k lt. same.asked k (omega (arith, lt, few)))) on)

leads_same : (Q : Type 0) (hits : Stream → Bool) (meets : Field → Bool) (n : ℕ) (old new : Nodes) → AreSame n old new → (j : ℕ) → j < n → (b : ℕ) (tree : Tree)
    → LeadsBy Q hits meets old j b tree → LeadsBy Q hits meets new j b tree
leads_same Q hits meets n old new same j lt b tree leads q s is on here =
    let asked : (k : ℕ) → k < suc j → asked_at new k ≡ asked_at old k = λ k less. same.asked k (omega (arith, less, lt)) in
    let byte : byte_for (asked_at new) s j ≡ byte_for (asked_at old) s j = byte_same (asked_at new) (asked_at old) s (suc j) asked j (omega arith) in
    let place : place_before (asked_at new) s (suc j) ≡ place_before (asked_at old) s (suc j) = place_same (asked_at new) (asked_at old) s (suc j) asked in
    ap (λ (p : ℕ). meets (leads_to tree s p).field) place ∙ leads q s is (bytes_as n old new s same j (omega (arith, lt)) on) (sym byte ∙ here)

-- Another description of the trees and of what is deeper.
level_as : {a : Asked} {node : Node} {meets : Field → Bool} {By : ℕ → Tree → Type 0} {Deeper : ℕ → ℕ → Type 0} {whole amount : ℕ} (Now : ℕ → Tree → Type 0) (More : ℕ → ℕ → Type 0)
    → ((b : ℕ) (tree : Tree) → By b tree → Now b tree) → (h : Level a node meets By Deeper whole amount) → More h.each h.deeper → Level a node meets Now More whole amount
level_as Now More now h deeper =
    record {
      each = h.each;
      deeper = h.deeper;
      part = h.part;
      tree = h.tree;
      equal = h.equal;
      sum = h.sum;
      on = h.on;
      left = h.left;
      done = λ b lt is off none. let d = h.done b lt is off none in (now b (h.tree b) d.0, d.1);
      below = deeper;
    }

-- Of a draw that is the same.
level_of : {a c : Asked} {node other : Node} {meets : Field → Bool} {By : ℕ → Tree → Type 0} {Deeper : ℕ → ℕ → Type 0} {whole amount : ℕ} → c ≡ a → other ≡ node
    → Level a node meets By Deeper whole amount → Level c other meets By Deeper whole amount
level_of {a} {c} {node} {other} {meets} {By} {Deeper} {whole} {amount} asked same h =
    subst (λ (x : Asked). Level x other meets By Deeper whole amount) (sym asked) (subst (λ (x : Node). Level a x meets By Deeper whole amount) (sym same) h)

pub levels_same : (Q : Type 0) (hits : Stream → Bool) (meets : Field → Bool) (n : ℕ) (old new : Nodes) → AreSame n old new → (r j : ℕ) → j + r ≡ n → (whole amount : ℕ)
    → Levels Q hits meets old IsFresh r j whole amount → Levels Q hits meets new IsFresh r j whole amount
levels_same Q hits meets n old new same zero j e whole amount h = h
levels_same Q hits meets n old new same (suc r) j e whole amount h =
    let lt : j < n = omega (arith, e) in
    level_of (same.asked j lt) (same.list j some_node lt)
    (level_as (LeadsBy Q hits meets new j) (Levels Q hits meets new IsFresh r (suc j)) (leads_same Q hits meets n old new same j lt) h
    (levels_same Q hits meets n old new same r (suc j) (omega (arith, e)) h.each h.deeper h.below))

-- Under a condition that the first one follows from.
pub levels_as : (P Q : Type 0) (hits : Stream → Bool) (meets : Field → Bool) (nodes : Nodes) (Leaf Now : ℕ → ℕ → ℕ → Type 0) → (P → Q)
    → ((j whole amount : ℕ) → Leaf j whole amount → Now j whole amount) → (r j whole amount : ℕ)
    → Levels Q hits meets nodes Leaf r j whole amount → Levels P hits meets nodes Now r j whole amount
levels_as P Q hits meets nodes Leaf Now from leaf zero j whole amount h = leaf j whole amount h
levels_as P Q hits meets nodes Leaf Now from leaf (suc r) j whole amount h =
    level_as (LeadsBy P hits meets nodes j) (Levels P hits meets nodes Now r (suc j)) (λ b tree leads p. leads (from p)) h
    (levels_as P Q hits meets nodes Leaf Now from leaf r (suc j) h.each h.deeper h.below)

-- The next way.

-- The old class of the draw that takes its next one is finished.
level_next : (Q : Type 0) (hits : Stream → Bool) (meets : Field → Bool) (nodes : Nodes) (j : ℕ) (new : Node) {Deeper : ℕ → ℕ → Type 0} {whole amount : ℕ} (More : ℕ → ℕ → Type 0)
    → j < length nodes.list → IsFair (asked_at nodes j) (node_at nodes j) → GoesOn (node_at nodes j) new
    → (h : Level (asked_at nodes j) (node_at nodes j) meets (LeadsBy Q hits meets nodes j) Deeper whole amount) → IsClosed Q hits meets nodes (suc j) h.each h.deeper
    → More h.each 0 → Level (asked_at nodes j) new meets (LeadsBy Q hits meets nodes j) More whole amount
level_next Q hits meets nodes j new More long fair goes h deep below =
    record {
      each = h.each;
      deeper = 0;
      part = h.part;
      tree = tree;
      equal = h.equal;
      sum = h.sum;
      on = λ b lt is e. h.left b lt is (goes_was a old new fair goes b lt is e);
      left = λ b lt is e. h.left b lt is (left_before b (is_on new b) (has new.rest b) (goes_rest a old new fair goes b lt) e);
      done = λ b lt is off none. by b lt is (sym (goes_rest a old new fair goes b lt ∙ ap (λ (o : Bool). cond o 0 (has old.rest b)) off) ∙ none) (is_on old b) refl;
      below = below;
    }
  where
    a : Asked
    a = asked_at nodes j

    old : Node
    old = node_at nodes j

    tree : ℕ → Tree
    tree b = if is_on old b then deep.tree else h.tree b

    left_before : (b : ℕ) (o : Bool) (r : ℕ) → r ≡ cond o 0 (has old.rest b) → r ≡ 1 → has old.rest b ≡ 1
    left_before b true r e is = absurd (omega (arith, e, is))
    left_before b false r e is = sym e ∙ is

    by : (b : ℕ) → b < 256 → IsTrue (may_of a b) → has old.rest b ≡ 0 → (t : Bool) → is_on old b ≡ t
        → LeadsBy Q hits meets nodes j b (if t then deep.tree else h.tree b) × IsShare (if t then deep.tree else h.tree b) meets h.each (h.part b)
    by b lt is none true e = (
      λ q s stream on here. deep.leads q s stream
          (on_next nodes j (byte_for (asked_at nodes) s) long on (ap (is_on old) here ∙ e)),
      subst (λ (n : ℕ). IsShare deep.tree meets h.each n) (sym (h.on b lt is e)) deep.share,
    )
    by b lt is none false e = h.done b lt is e none

pub next_same : (old new : Nodes) → (leads : LeadsOn old new) → AreSame leads.place old new
next_same old new leads =
    record { asked = λ k lt. ap (λ (l : List Asked). get_or l k Unknown) leads.asked; list = λ k past lt. leads.before k past lt }

-- What leads by a byte of this draw depends on those before it alone.
leads_here : (Q : Type 0) (hits : Stream → Bool) (meets : Field → Bool) (old new : Nodes) (leads : LeadsOn old new) (j : ℕ) → j ≡ leads.place → (b : ℕ) (tree : Tree)
    → LeadsBy Q hits meets old j b tree → LeadsBy Q hits meets new j b tree
leads_here Q hits meets old new leads j here b tree by q s is on at_b =
    let asked : (k : ℕ) → k < suc j → asked_at new k ≡ asked_at old k = λ k less. ap (λ (l : List Asked). get_or l k Unknown) leads.asked in
    let byte : byte_for (asked_at new) s j ≡ byte_for (asked_at old) s j = byte_same (asked_at new) (asked_at old) s (suc j) asked j (omega arith) in
    let place : place_before (asked_at new) s (suc j) ≡ place_before (asked_at old) s (suc j) = place_same (asked_at new) (asked_at old) s (suc j) asked in
    ap (λ (p : ℕ). meets (leads_to tree s p).field) place
    ∙ by q s is (bytes_as leads.place old new s (next_same old new leads) j (omega (arith, here)) on) (sym byte ∙ at_b)

-- Up to the draw that takes its next class they are as they were, and its old class is gone through.
pub levels_next : (Q : Type 0) (hits : Stream → Bool) (meets : Field → Bool) (old new : Nodes) → old.len ≤ length old.list → AreFair old → (leads : LeadsOn old new)
    → (r n j : ℕ) → j + r ≡ leads.place → j + n ≡ old.len → (whole amount : ℕ) → Levels Q hits meets old (IsClosed Q hits meets old) n j whole amount
    → Levels Q hits meets new IsFresh (suc r) j whole amount
levels_next Q hits meets old new long fair leads r zero j e all whole amount h = absurd (omega (arith, e, all, leads.within))
levels_next Q hits meets old new long fair leads zero (suc n) j e all whole amount h =
    let here : j ≡ leads.place = omega (arith, e) in
    let lt : j < old.len = omega (arith, all) in
    let asked : asked_at new j ≡ asked_at old j = ap (λ (l : List Asked). get_or l j Unknown) leads.asked in
    let goes : GoesOn (node_at old j) (node_at new j) = subst (λ (i : ℕ). GoesOn (node_at old i) (node_at new i)) (sym here) (leads.here some_node) in
    let deep : IsClosed Q hits meets old (suc j) h.each h.deeper =
    levels_closed Q hits meets old long fair n (suc j) (omega (arith, all)) (λ k more less. leads.after k some_node (omega (arith, more, here)) less) h.each h.deeper h.below
    in
    let on = level_next Q hits meets old j (node_at new j) (Levels Q hits meets new IsFresh 0 (suc j)) (omega (arith, lt, long)) (fair j lt) goes h deep refl in
    level_of asked refl (level_as (LeadsBy Q hits meets new j) (Levels Q hits meets new IsFresh 0 (suc j)) (leads_here Q hits meets old new leads j here) on on.below)
levels_next Q hits meets old new long fair leads (suc r) (suc n) j e all whole amount h =
    let lt : j < leads.place = omega (arith, e) in
    let same = next_same old new leads in
    level_of (same.asked j lt) (same.list j some_node lt)
    (level_as (LeadsBy Q hits meets new j) (Levels Q hits meets new IsFresh (suc r) (suc j)) (leads_same Q hits meets leads.place old new same j lt) h
    (levels_next Q hits meets old new long fair leads r n (suc j) (omega (arith, e)) (omega (arith, all)) h.each h.deeper h.below))
