-- How one way leads to the next, with no bytes for draws lost between them, and how many ways there are.
use Rattle.std.proofs.Common.{◌≡◌, ◌≢◌, ℕ, Bool, Some, false, not, true, ◌⊎◌, inl, inr, refl, ◌+◌, ◌*◌, ◌/◌, ◌%◌, ◌-◌, ◌<◌, ◌≤◌, ◌^◌, zero, suc, max, List, [], cond, length, lit<, get_or, get_or-set_other, get_or-set_same, set, ap, subst, sym, ◌∙◌, arith, ◌∷◌}
use Rattle.std.proofs.Math.Nat.{div-div-eq-div-mul, mul_assoc, mul_comm, pow-succ'}
use Rattle.std.proofs.lemmas.Nat.{le_or_r, or_lt}
use Rattle.std.proofs.lemmas.Nat.Bits.{bit_at-suc, bit_at-trailing_zeros, bit_at_lowest, bit_at_or}
use Rattle.std.specs.Int.{bit_at, trailing_zeros, w16}
use Rattle.std.specs.Int.RustNames.{bit_or}
use Rattle.gen1_outcomes.proofs.Fractions.{moved}
use Rattle.std.proofs.lemmas.List.{get_or_default, length-set}
use Rattle.gen1_rolls.specs.declared.rolls.Look.TheVariants.{Below}
use Rattle.gen1_layout.specs.Parts.{Parts}
use Rattle.gen1_layout.specs.Shows.{Telling}
use Rattle.gen1_outcomes.specs.declared.byte_set.ByteSet.{ByteSet}
use Rattle.gen1_outcomes.specs.declared.nodes.Chance.{Chance}
use Rattle.gen1_outcomes.specs.declared.nodes.Node.{Node}
use Rattle.gen1_outcomes.specs.declared.nodes.Nodes.{Nodes}
use Rattle.gen1_outcomes.specs.declared.plain.PlainWalk.{PlainWalk}
use Rattle.gen1_outcomes.specs.Nodes.{AllDone, AreBytes, AreLeft, AreOn, AreToCome, Covers, GoesOn, IsChance, IsDone, LeadsOn}
use Rattle.gen1_outcomes.specs.Bytes.{has, size, alike_in}
use Rattle.gen1_outcomes.specs.Plain.{PlaysNext, PlaysWay, Walk, ArePlain, EndsWith, GoesOnTo}
use seplogic.Ra.Ura.{Ura}
use mir.Val.{Val, vstruct, vnil}
use types.Logic.{Logic}
use types.Kit.{Goal, Step, step, Item, ‵, ◌$◌, fjoin, fpack, feq_i}
use denote.RattleType.{RattleType, Valss}
use denote.Steps.{nothing}
use denote.Struct.Struct.{Struct, within}

pub leads_on : (old new : Nodes) (list : List Node) (len : ℕ) (node : Node) → new.list ≡ set list (len - 1) node → new.len ≡ len → new.at ≡ 0 → new.asked ≡ old.asked → new.options ≡ old.options
    → new.before ≡ old.before → list ≡ old.list → len ≤ old.len → 0 < len → len ≤ length list → ((none : Node) → GoesOn (get_or list (len - 1) none) node)
    → ((k : ℕ) (none : Node) → len ≤ k → k < old.len → IsDone (get_or old.list k none)) → LeadsOn old new
leads_on old new list len node is same_len first asked options since same shorter some within goes done =
    let inside : len - 1 < length list = omega arith in
    record {
      place = len - 1;
      within = omega arith;
      length = omega (arith, same_len);
      at = first;
      asked = asked;
      options = options;
      since = since;
      before = λ k none lt.
          let ne : k ≢ len - 1 = omega (arith, lt) in
          ap (λ (l : List Node). get_or l k none) is ∙ get_or-set_other list (len - 1) k node none ne ∙ ap (λ (l : List Node). get_or l k none) same;
      here = λ none.
          let new_is : node ≡ get_or new.list (len - 1) none =
          sym (ap (λ (l : List Node). get_or l (len - 1) none) is ∙ get_or-set_same list (len - 1) node none inside)
          in
          let old_is : get_or list (len - 1) none ≡ get_or old.list (len - 1) none = ap (λ (l : List Node). get_or l (len - 1) none) same in
          subst (λ (y : Node). GoesOn (get_or old.list (len - 1) none) y) new_is (subst (λ (x : Node). GoesOn x node) old_is (goes none));
      after = λ k none more less. done k none (omega (arith, more)) less;
      long = omega (arith, inside, same_len, ap length is ∙ length-set list (len - 1) node);
    }

-- What comes after a way of a plain walk.
pub next_is : (nodes next : Nodes) (walk : PlainWalk) (on : Bool) → (on ≡ true → LeadsOn nodes next) → (on ≡ false → AllDone nodes)
    → (on ≡ true → walk.over ≡ 0) → (on ≡ false → walk.over ≡ 1) → walk.count ≡ next.len → ArePlain next.len next.list walk.draws
    → GoesOnTo nodes walk ⊎ EndsWith nodes walk
next_is nodes next walk true leads done going over count draws =
    inl (record { going = going refl; next = next; leads = leads refl; count = count; draws = draws })
next_is nodes next walk false leads done going over count draws = inr (record { over = over refl; done = done refl })

-- The same of a walk whose type guarantees it.
pub goes_past : (nodes next : Nodes) (c : Chance) (old : Walk) (on : Bool) (parts : Parts) (events : Telling) → IsChance nodes c → old.over ≡ false
    → (on ≡ true → LeadsOn nodes next) → (on ≡ false → AllDone nodes) → PlaysWay old nodes parts events
    → PlaysNext (Some c) old (record old { nodes = next; over = not on }) parts events
goes_past nodes next c old true parts events is going leads done plays =
    (nodes, is, record { start = refl; one = refl; two = refl; options = refl; going = going; next = inl (refl, leads refl) }, plays)
goes_past nodes next c old false parts events is going leads done plays =
    (nodes, is, record { start = refl; one = refl; two = refl; options = refl; going = going; next = inr (refl, done refl) }, plays)

-- A number whose lowest bits are 0 is a multiple of a power of 2.
is_multiple : (k n : ℕ) → ((i : ℕ) → i < k → bit_at n i ≡ 0) → n / 2 ^ k * 2 ^ k ≡ n
is_multiple zero n none = omega arith
is_multiple (suc k) n none =
    let even : n % 2 ≡ 0 = sym (bit_at_lowest n) ∙ none 0 (omega arith) in
    let half : n / 2 / 2 ^ k * 2 ^ k ≡ n / 2 = is_multiple k (n / 2) (λ i lt. sym (bit_at-suc n i) ∙ none (suc i) (omega (arith, lt))) in
    let power : 2 ^ suc k ≡ 2 * 2 ^ k = pow-succ' 2 k in
    ap (λ (m : ℕ). n / m * 2 ^ suc k) power ∙ ap (λ (m : ℕ). m * 2 ^ suc k) (sym (div-div-eq-div-mul n 2 (2 ^ k)))
    ∙ ap (λ (m : ℕ). n / 2 / 2 ^ k * m) power ∙ moved (n / 2 / 2 ^ k) 2 (2 ^ k) ∙ ap (λ (m : ℕ). 2 * m) half ∙ omega (arith, even)

-- What two numbers of 16 bits are without the factors of 2 that they share.
pub record Shares (a b twos : ℕ) : Type 0 where
  pub few : twos < 16
  pub positive : 0 < b / 2 ^ twos
  pub exact : a / 2 ^ twos * b ≡ b / 2 ^ twos * a

pub shares_twos : (a b : ℕ) → 0 < b → a < 65536 → b < 65536 → Shares a b (trailing_zeros w16 (bit_or a b))
shares_twos a b some first second =
    let both = bit_or a b in
    let more : b ≤ both = le_or_r a b in
    let found = bit_at-trailing_zeros w16 both (omega (arith, some, more)) (or_lt 16 a b first second) in
    let twos = trailing_zeros w16 both in
    let neither : (i : ℕ) → i < twos → max (bit_at a i) (bit_at b i) ≡ 0 = λ i lt. sym (bit_at_or a b i) ∙ found.2 i lt in
    let one : a / 2 ^ twos * 2 ^ twos ≡ a = is_multiple twos a (λ i lt. omega (arith, neither i lt)) in
    let other : b / 2 ^ twos * 2 ^ twos ≡ b = is_multiple twos b (λ i lt. omega (arith, neither i lt)) in
    record {
      few = found.0;
      positive = some_part (b / 2 ^ twos) (2 ^ twos) b some other;
      exact = ap (λ (m : ℕ). a / 2 ^ twos * m) (sym other) ∙ moved (a / 2 ^ twos) (b / 2 ^ twos) (2 ^ twos) ∙ ap (λ (m : ℕ). b / 2 ^ twos * m) one;
    }
  where
    some_part : (x p n : ℕ) → 0 < n → x * p ≡ n → 0 < x
    some_part zero p n some is = absurd (omega (arith, some, is))
    some_part (suc x) p n some is = omega arith

-- One by one, as the code needs them.
pub part_positive : (a b : ℕ) → 0 < b → a < 65536 → b < 65536 → 0 < b / 2 ^ trailing_zeros w16 (bit_or a b)
part_positive a b some first second = (shares_twos a b some first second).positive

pub part_exact : (a b : ℕ) → 0 < b → a < 65536 → b < 65536 → a / 2 ^ trailing_zeros w16 (bit_or a b) * b ≡ b / 2 ^ trailing_zeros w16 (bit_or a b) * a
part_exact a b some first second = (shares_twos a b some first second).exact

pub part_few : (a b : ℕ) → 0 < b → a < 65536 → b < 65536 → trailing_zeros w16 (bit_or a b) < 16
part_few a b some first second = (shares_twos a b some first second).few

-- Products of two fractions.
pub crossed : (a b c d : ℕ) → a * b * (c * d) ≡ a * c * (b * d)
crossed a b c d = mul_assoc a b (c * d) ∙ ap (λ (x : ℕ). a * x) (sym (mul_assoc b c d) ∙ ap (λ (x : ℕ). x * d) (mul_comm b c) ∙ mul_assoc c b d) ∙ sym (mul_assoc a c (b * d))

pub then_is : (num whole p q t c : ℕ) → p * t ≡ q * c → num * p * (whole * t) ≡ whole * q * (num * c)
then_is num whole p q t c e =
    crossed num p whole t ∙ ap (λ (x : ℕ). num * whole * x) e ∙ ap (λ (x : ℕ). x * (q * c)) (mul_comm num whole) ∙ sym (crossed whole q num c)

-- The draw at a place.
abbrev pub at : Nodes → ℕ → Node → Node
at nodes k past = get_or nodes.list k past

true_or : (b : Bool) → (b ≡ true) ⊎ (b ≡ false)
true_or true = inl refl
true_or false = inr refl

three : (m n : ℕ) → (m < n) ⊎ (m ≡ n) ⊎ (n < m)
three m n = grind arith

pub some_node : Node
some_node =
    let rest : ByteSet = record { words = [] } in
    record {
      byte = 0;
      look = Below 0;
      damage_classes = 0;
      above = record { num = 1; whole = 1; positive = lit< tt };
      rest = rest;
      total = size rest;
      count = 0;
      few = omega arith;
    }

-- Whether a byte is in the class of the one that a draw has.
abbrev on : Node → ℕ → Bool
on node b = alike_in node.damage_classes node.look node.byte b

-- One draw more.
on_more : (nodes : Nodes) (n : ℕ) (bytes : ℕ → ℕ) → AreOn nodes n bytes → ((past : Node) → on (at nodes n past) (bytes n) ≡ true) → AreOn nodes (n + 1) bytes
on_more nodes n bytes before here k past lt =
    elim (three k n) [
      | inl less ↦ before k past less
      | inr (inl same) ↦ subst (λ (j : ℕ). on (at nodes j past) (bytes j) ≡ true) (sym same) (here past)
      | inr (inr more) ↦ absurd (omega (arith, lt, more))
    ]

-- What holds of a draw at one default holds at each.
at_each : (nodes : Nodes) (k : ℕ) (P : Node → Type 0) (d : Node) → k < length nodes.list → P (at nodes k d) → (past : Node) → P (at nodes k past)
at_each nodes k P d long holds past = subst P (get_or_default nodes.list k d past long) holds

-- A draw is noted after those of a way.
module _ (may : ByteSet) (old new : Nodes) (node : Node) (length : new.len ≡ old.len + 1)
    (before : (k : ℕ) (past : Node) → k < old.len → at new k past ≡ at old k past) (here : (past : Node) → at new old.len past ≡ node)
    (rest : (x : ℕ) → x < 256 → has node.rest x ≡ cond (on node x) 0 (has may x)) where
  kept_on : (n : ℕ) (bytes : ℕ → ℕ) → n ≤ old.len → AreOn old n bytes → AreOn new n bytes
  kept_on n bytes few are k past lt =
      let is : at new k past ≡ at old k past = before k past (omega (arith, lt)) in
      subst (λ (x : Node). on x (bytes k) ≡ true) (sym is) (are k past lt)

  still_left : (bytes : ℕ → ℕ) → AreLeft old bytes → AreLeft new bytes
  still_left bytes left =
      record {
        place = left.place;
        within = omega (arith, left.within, length);
        before = kept_on left.place bytes (omega (arith, left.within)) left.before;
        here = λ past. subst (λ (x : Node). has x.rest (bytes left.place) ≡ 1) (sym (before left.place past left.within)) (left.here past);
      }

  to_come : (bytes : ℕ → ℕ) → AreBytes bytes → AreOn old old.len bytes → has may (bytes old.len) ≡ 1 → AreToCome new bytes
  to_come bytes small are one =
      let first : AreOn new old.len bytes = kept_on old.len bytes (omega arith) are in
      elim (true_or (on node (bytes old.len))) [
        | inl e ↦
            inl (subst (λ (n : ℕ). AreOn new n bytes) (sym length)
            (on_more new old.len bytes first (λ past. subst (λ (x : Node). on x (bytes old.len) ≡ true) (sym (here past)) e)))
        | inr e ↦
            let is : has node.rest (bytes old.len) ≡ 1 = rest (bytes old.len) (small old.len) ∙ rw e one in
            inr (record {
              place = old.len;
              within = omega (arith, length);
              before = first;
              here = λ past. subst (λ (x : Node). has x.rest (bytes old.len) ≡ 1) (sym (here past)) is;
            })
      ]

  pub covers : Covers may old new
  covers = record { left = λ bytes small left. still_left bytes left; on = to_come }

-- A byte that is still to be tried is in the class of the byte that the draw goes on to, or still to be tried.
goes_case : (old new : Node) (b : ℕ) → b < 256 → GoesOn old new → has old.rest b ≡ 1 → (on new b ≡ true) ⊎ (has new.rest b ≡ 1)
goes_case old new b lt goes here =
    let takes = goes.takes in
    let same : alike_in old.damage_classes old.look new.byte b ≡ on new b = rw (takes.look, takes.classes) refl in
    elim (true_or (on new b)) [
      | inl e ↦ inl e
      | inr e ↦
          let not : alike_in old.damage_classes old.look new.byte b ≡ false = same ∙ e in
          inr (takes.rest b lt ∙ rw not here)
    ]

pub led : (old new : Nodes) (bytes : ℕ → ℕ) → AreBytes bytes → LeadsOn old new → AreLeft old bytes → AreToCome new bytes
led old new bytes small leads left =
    let d = some_node in
    let place = leads.place in
    let long : place < length new.list = omega (arith, leads.long, leads.length) in
    let before : AreOn old place bytes → AreOn new place bytes =
    λ on_old k past lt. subst (λ (x : Node). on x (bytes k) ≡ true) (sym (leads.before k past lt)) (on_old k past lt)
    in
    elim (three left.place place) [
      | inl less ↦
          inr (record {
            place = left.place;
            within = omega (arith, less, leads.length);
            before = λ k past lt. subst (λ (x : Node). on x (bytes k) ≡ true) (sym (leads.before k past (omega (arith, lt, less)))) (left.before k past lt);
            here = λ past. subst (λ (x : Node). has x.rest (bytes left.place) ≡ 1) (sym (leads.before left.place past less)) (left.here past);
          })
      | inr (inl same) ↦
          let first : AreOn new place bytes = before (subst (λ (n : ℕ). AreOn old n bytes) same left.before) in
          let here : has (at old place d).rest (bytes place) ≡ 1 = subst (λ (n : ℕ). has (at old n d).rest (bytes n) ≡ 1) same (left.here d) in
          elim (goes_case (at old place d) (at new place d) (bytes place) (small place) (leads.here d) here) [
            | inl e ↦
                inl (subst (λ (n : ℕ). AreOn new n bytes) (sym leads.length) (on_more new place bytes first (at_each new place (λ (x : Node). on x (bytes place) ≡ true) d long e)))
            | inr e ↦
                inr (record {
                  place = place;
                  within = omega (arith, leads.length);
                  before = first;
                  here = at_each new place (λ (x : Node). has x.rest (bytes place) ≡ 1) d long e;
                })
          ]
      | inr (inr more) ↦
          let one = left.here d in
          let none = leads.after left.place d more left.within (bytes left.place) (small left.place) in
          absurd (omega (arith, one, none))
    ]

-- A step that the walks of `src/log.rt` share. Assumes `Logic`.

abbrev pub none : Val
none = vstruct vnil

abbrev pub fieldless : RattleType
fieldless = Struct (record { name = []; args = []; types = []; fields = [] })

pub none_made : {M : Type 1} {𝓤 : Ura M} {𝓛 : Logic 𝓤} {K : Type 0} {Γ : List (Item 𝓤)} {G : Goal 𝓤 𝓛.H} → K → Step K 𝓛 (‵ (fieldless.own_val tt (none ∷ [])) ∷ Γ) G Γ G
none_made t = step (λ s.
    nothing t $ feq_i t (List Val) (none ∷ []) (none ∷ []) refl $ fjoin t $
    fpack t (Valss []) (within (record { name = []; args = []; types = []; fields = [] }) tt (none ∷ [])) tt $ s)
