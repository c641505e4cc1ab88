-- Bytes of a path, and draws of a plain walk, that are written one after the other.
use Rattle.std.proofs.Common.{Bool, false, ◌≡◌, ◌≢◌, ℕ, ◌+◌, ◌<◌, List, length, get_or, get_or-set_other, get_or-set_same, set, ◌⊎◌, inl, inr, ap, replicate, subst, sym, ◌∙◌, arith}
use Rattle.std.proofs.lemmas.List.{ext_get_or, get_or_default}
use Rattle.gen1_outcomes.specs.declared.nodes.Node.{Node}
use Rattle.gen1_outcomes.specs.declared.plain.PlainDraw.{PlainDraw}
use Rattle.gen1_outcomes.specs.Plain.{ArePlain, IsDraw, IsPlain, KeepsUnused}

same_or : (m n : ℕ) → (m ≡ n) ⊎ (m ≢ n)
same_or m n = grind arith

-- A byte of a draw is written after those before it.
pub drawn_more : (path : List ℕ) (list : List Node) (at : ℕ) (d : Node) → at < length path → at < length list
    → ((k : ℕ) (none : Node) → k < at → get_or path k 0 ≡ (get_or list k none).byte)
    → (k : ℕ) (none : Node) → k < at + 1 → get_or (set path at (get_or list at d).byte) k 0 ≡ (get_or list k none).byte
drawn_more path list at d inside there before k none lt =
    elim (same_or k at) [
      | inl e ↦
          ap (λ (j : ℕ). get_or (set path at (get_or list at d).byte) j 0) e ∙ get_or-set_same path at (get_or list at d).byte 0 inside
          ∙ ap (λ (n : Node). n.byte) (get_or_default list at d none there ∙ sym (ap (λ (j : ℕ). get_or list j none) e))
      | inr ne ↦ get_or-set_other path at k (get_or list at d).byte 0 ne ∙ before k none (omega (arith, ne, lt))
    ]

-- A draw is read after those before it.
pub read_more : (nodes : List Node) (draws : List PlainDraw) (at : ℕ) (node : Node) (d : PlainDraw) → at < length nodes → at < length draws → ArePlain at nodes draws
    → IsPlain node (get_or draws at d) → ArePlain (at + 1) (set nodes at node) draws
read_more nodes draws at node d inside there before is k none past lt =
    elim (same_or k at) [
      | inl e ↦
          let here : node ≡ get_or (set nodes at node) k none =
          sym (ap (λ (j : ℕ). get_or (set nodes at node) j none) e ∙ get_or-set_same nodes at node none inside)
          in
          let draw : get_or draws at d ≡ get_or draws k past = get_or_default draws at d past there ∙ sym (ap (λ (j : ℕ). get_or draws j past) e) in
          subst (λ (n : Node). IsPlain n (get_or draws k past)) here (subst (λ (x : PlainDraw). IsPlain node x) draw is)
      | inr ne ↦
          subst (λ (n : Node). IsPlain n (get_or draws k past)) (sym (get_or-set_other nodes at k node none ne)) (before k none past (omega (arith, ne, lt)))
    ]

-- A draw is written after those before it.
pub written_more : (nodes : List Node) (draws : List PlainDraw) (at : ℕ) (d : Node) (draw : PlainDraw) → at < length nodes → at < length draws → ArePlain at nodes draws
    → IsPlain (get_or nodes at d) draw → ArePlain (at + 1) nodes (set draws at draw)
written_more nodes draws at d draw inside there before is k none past lt =
    elim (same_or k at) [
      | inl e ↦
          let here : draw ≡ get_or (set draws at draw) k past = sym (ap (λ (j : ℕ). get_or (set draws at draw) j past) e ∙ get_or-set_same draws at draw past there) in
          let node : get_or nodes at d ≡ get_or nodes k none = get_or_default nodes at d none inside ∙ sym (ap (λ (j : ℕ). get_or nodes j none) e) in
          subst (λ (x : PlainDraw). IsPlain (get_or nodes k none) x) here (subst (λ (n : Node). IsPlain n draw) node is)
      | inr ne ↦
          subst (λ (x : PlainDraw). IsPlain (get_or nodes k none) x) (sym (get_or-set_other draws at k draw past ne)) (before k none past (omega (arith, ne, lt)))
    ]

pub unused_more : (old draws : List PlainDraw) (at : ℕ) (draw : PlainDraw) → at < length draws → KeepsUnused old draws → draw.unused ≡ replicate 6 0
    → KeepsUnused old (set draws at draw)
unused_more old draws at draw there before zeros k past =
    elim (same_or k at) [
      | inl e ↦ inl (ap (λ (j : ℕ). (get_or (set draws at draw) j past).unused) e ∙ ap (λ (x : PlainDraw). x.unused) (get_or-set_same draws at draw past there) ∙ zeros)
      | inr ne ↦
          let same : get_or (set draws at draw) k past ≡ get_or draws k past = get_or-set_other draws at k draw past ne in
          elim (before k past) [
            | inl z ↦ inl (ap (λ (x : PlainDraw). x.unused) same ∙ z)
            | inr s ↦ inr (ap (λ (x : PlainDraw). x.unused) same ∙ s)
          ]
    ]

-- One more draw can be read.
pub reads_more : (draws : List PlainDraw) (at : ℕ) (d : PlainDraw) → at < length draws → ((k : ℕ) (none : PlainDraw) → k < at → IsDraw (get_or draws k none))
    → IsDraw (get_or draws at d) → (k : ℕ) (none : PlainDraw) → k < at + 1 → IsDraw (get_or draws k none)
reads_more draws at d there before is k none lt =
    elim (same_or k at) [
      | inl e ↦ subst (λ (x : PlainDraw). IsDraw x) (get_or_default draws at d none there ∙ sym (ap (λ (j : ℕ). get_or draws j none) e)) is
      | inr ne ↦ before k none (omega (arith, ne, lt))
    ]

-- Four truth values are the same at each place.
one_of_four : (i : ℕ) → i < 4 → (i ≡ 0) ⊎ (i ≡ 1) ⊎ (i ≡ 2) ⊎ (i ≡ 3)
one_of_four i lt = grind (arith, lt)

abbrev SameAt : List Bool → List Bool → ℕ → Type 0
SameAt xs ys i = get_or xs i false ≡ get_or ys i false

pub four_same : (xs ys : List Bool) → length xs ≡ 4 → length ys ≡ 4 → SameAt xs ys 0 → SameAt xs ys 1 → SameAt xs ys 2 → SameAt xs ys 3 → xs ≡ ys
four_same xs ys long short first second third fourth =
    ext_get_or false xs ys (long ∙ sym short) (λ i lt.
    elim (one_of_four i (omega (arith, lt, long))) [
      | inl e ↦ subst (λ (j : ℕ). SameAt xs ys j) (sym e) first
      | inr (inl e) ↦ subst (λ (j : ℕ). SameAt xs ys j) (sym e) second
      | inr (inr (inl e)) ↦ subst (λ (j : ℕ). SameAt xs ys j) (sym e) third
      | inr (inr (inr e)) ↦ subst (λ (j : ℕ). SameAt xs ys j) (sym e) fourth
    ])
