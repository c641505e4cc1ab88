-- How probable it is that what a stream leads to is hit, as far as the ways have been played (docs/MECHANICS.md, "Link numbers").
--
-- The levels of the draws are parts of a whole. The fraction is what all bytes that are finished have of it.
use Rattle.std.proofs.Common.{◌≡◌, ◌⊎◌, inl, inr, ℕ, zero, suc, ◌*◌, ◌+◌, ◌-◌, ◌<◌, ◌≤◌, ◌∷◌, Bool, IsTrue, true, false, List, [], ap, ap₂, arith, cond, get_or, length, refl, subst, sym, ◌∙◌}
use Rattle.gen1_rolls.specs.Streams.{passes, IsStream, Stream}
use Rattle.gen1_rolls.specs.declared.rolls.Look.{Look}
use Rattle.gen1_machine.specs.Laws.{count_of, leads_to, IsShare, Tree}
use Rattle.gen1_machine.specs.State.{Field}
use Rattle.gen1_machine.proofs.Shares.{all-count, counted}
use Rattle.gen1_outcomes.specs.declared.byte_set.ByteSet.{ByteSet}
use Rattle.gen1_outcomes.specs.declared.log.Entry.{Entry}
use Rattle.gen1_outcomes.specs.declared.log.Entry.TheVariants.{Draw, Found, Missed}
use Rattle.gen1_outcomes.specs.declared.nodes.Asked.{Asked}
use Rattle.gen1_outcomes.specs.declared.nodes.Asked.TheVariants.{First, Next, Unknown}
use Rattle.gen1_outcomes.specs.declared.nodes.Chance.{Chance}
use Rattle.gen1_outcomes.specs.declared.nodes.Node.{Node}
use Rattle.gen1_outcomes.specs.declared.nodes.Nodes.{Nodes}
use Rattle.gen1_outcomes.specs.declared.successor.OutcomeOptions.{OutcomeOptions}
use Rattle.gen1_outcomes.specs.declared.explorer.Script.{Script}
use Rattle.gen1_outcomes.specs.Nodes.{Adds, AllDone, GoesOn, IsChance, IsThen, LeadsOn, Notes, Passes, asked_at}
use Rattle.gen1_outcomes.specs.Bytes.{has, alike_in}
use Rattle.gen1_outcomes.specs.Complete.{GoesBy, IsExact, place_before}
use Rattle.gen1_outcomes.specs.Logs.{IsLogged, NotesAll, NotesEntry}
use Rattle.gen1_outcomes.specs.Weights.{AreEqual, Fraction, nothing, of_chance, plus, times}
use Rattle.gen1_outcomes.proofs.Complete.{AreKnown, CanAsk, large_all, not_both, settled_not, step_as}
use Rattle.gen1_outcomes.proofs.Fair.{IsFair, IsNewFor, fair_goes, fair_new, full_new, is_on, may_of, node_at}
use Rattle.gen1_outcomes.proofs.Fractions.{equal-refl, equal-sym, equal-trans, plus-equal, scaled-equal, times-assoc, times-equal, times-unit, both_positive}
use Rattle.gen1_outcomes.proofs.Levels.{AreFair, AreSame, IsClosed, IsFresh, Levels, after, count_at, levels_added, levels_as, levels_closed, levels_next, levels_put, levels_same, next_same, total_at, upto, upto-after, upto-same}
use Rattle.gen1_outcomes.proofs.Logs.{entry_keeps}
use Rattle.gen1_outcomes.proofs.Walking.{at, some_node}

-- Of the probability before them, the part of the draws before one.
abbrev pub part_of : Nodes → ℕ → Fraction
part_of nodes k = record { num = upto (count_at nodes) k; whole = upto (total_at nodes) k }

abbrev pub HasChance : Nodes → ℕ → Chance → Type 0
HasChance nodes k c = AreEqual (of_chance c) (times (of_chance nodes.before) (part_of nodes k))

-- What the finished bytes have of the whole is a fraction.
pub record AreWeighed (Leaf : ℕ → ℕ → ℕ → Type 0) (Q : Type 0) (hits : Stream → Bool) (meets : Field → Bool) (nodes : Nodes) (x : Fraction) : Type 0 where
  pub whole : ℕ
  pub amount : ℕ
  pub some : 0 < whole
  pub long : nodes.len ≤ length nodes.list
  pub fair : AreFair nodes
  pub above : (k : ℕ) → k < nodes.len → HasChance nodes k (node_at nodes k).above
  pub levels : Levels Q hits meets nodes Leaf nodes.len 0 whole amount
  pub is : AreEqual x (record { num = amount; whole = whole })

-- Before a way is played, and after it.

abbrev pub IsWeighed : (Q : Type 0) → (Stream → Bool) → (Field → Bool) → Nodes → Fraction → Type 0
IsWeighed Q hits meets nodes x = AreWeighed IsFresh Q hits meets nodes x

abbrev pub IsSpent : (Q : Type 0) → (Stream → Bool) → (Field → Bool) → Nodes → Fraction → Type 0
IsSpent Q hits meets nodes x = AreWeighed (IsClosed Q hits meets nodes) Q hits meets nodes x

-- It is the same of another fraction that is equal.
same_weighed : {Leaf : ℕ → ℕ → ℕ → Type 0} {Q : Type 0} {hits : Stream → Bool} {meets : Field → Bool} {nodes : Nodes} {x y : Fraction} → AreEqual x y
    → AreWeighed Leaf Q hits meets nodes x → AreWeighed Leaf Q hits meets nodes y
same_weighed e w =
    record { whole = w.whole; amount = w.amount; some = w.some; long = w.long; fair = w.fair; above = w.above; levels = w.levels; is = equal-trans (equal-sym e) w.is }

pub weighed_same : (Q : Type 0) (hits : Stream → Bool) (meets : Field → Bool) (nodes : Nodes) (x y : Fraction) → AreEqual x y → IsWeighed Q hits meets nodes x
    → IsWeighed Q hits meets nodes y
weighed_same Q hits meets nodes x y e w = same_weighed e w

pub spent_same : (Q : Type 0) (hits : Stream → Bool) (meets : Field → Bool) (nodes : Nodes) (x y : Fraction) → AreEqual x y → IsSpent Q hits meets nodes x
    → IsSpent Q hits meets nodes y
spent_same Q hits meets nodes x y e w = same_weighed e w

-- It is so under a condition from which the first one follows.
along : {Leaf : ℕ → ℕ → ℕ → Type 0} {Q R : Type 0} {hits : Stream → Bool} {meets : Field → Bool} {nodes : Nodes} {x : Fraction} (Now : ℕ → ℕ → ℕ → Type 0) → (R → Q)
    → ((j whole amount : ℕ) → Leaf j whole amount → Now j whole amount) → AreWeighed Leaf Q hits meets nodes x → AreWeighed Now R hits meets nodes x
along {Leaf} {Q} {R} {hits} {meets} {nodes} {x} Now from leaf w =
    record {
      whole = w.whole;
      amount = w.amount;
      some = w.some;
      long = w.long;
      fair = w.fair;
      above = w.above;
      levels = levels_as R Q hits meets nodes Leaf Now from leaf nodes.len 0 w.whole w.amount w.levels;
      is = w.is;
    }

pub weighed_as : (Q R : Type 0) (hits : Stream → Bool) (meets : Field → Bool) (nodes : Nodes) (x : Fraction) → (R → Q) → IsWeighed Q hits meets nodes x
    → IsWeighed R hits meets nodes x
weighed_as Q R hits meets nodes x from w = along IsFresh from (λ j whole amount none. none) w

pub spent_as : (Q R : Type 0) (hits : Stream → Bool) (meets : Field → Bool) (nodes : Nodes) (x : Fraction) → (R → Q) → IsSpent Q hits meets nodes x
    → IsSpent R hits meets nodes x
spent_as Q R hits meets nodes x from w =
    along (IsClosed R hits meets nodes) from (λ j whole amount c. record { tree = c.tree; leads = λ r. c.leads (from r); share = c.share }) w

-- Before the first way nothing is finished.
pub weighed_first : (Q : Type 0) (hits : Stream → Bool) (meets : Field → Bool) (nodes : Nodes) → nodes.len ≡ 0 → IsWeighed Q hits meets nodes nothing
weighed_first Q hits meets nodes none =
    record {
      whole = 1;
      amount = 0;
      some = omega arith;
      long = omega (arith, none);
      fair = λ k lt. absurd (omega (arith, lt, none));
      above = λ k lt. absurd (omega (arith, lt, none));
      levels = subst (λ (n : ℕ). Levels Q hits meets nodes IsFresh n 0 1 0) (sym none) refl;
      is = equal-refl nothing (omega arith);
    }

-- Probabilities of the draws before one.

asks_some : (a : Asked) → CanAsk a → 0 < count_of (may_of a)
asks_some Next can = omega (arith, all-count)
asks_some (First test) can = counted (passes test) can.0 can.1 can.2
asks_some Unknown can = absurd can

pub total_some : (nodes : Nodes) (k : ℕ) → IsFair (asked_at nodes k) (node_at nodes k) → 0 < total_at nodes k
total_some nodes k fair = let some = asks_some (asked_at nodes k) fair.asks in omega (arith, some, fair.total)

totals_some : (nodes : Nodes) (n : ℕ) → ((k : ℕ) → k < n → IsFair (asked_at nodes k) (node_at nodes k)) → 0 < upto (total_at nodes) n
totals_some nodes zero fair = omega arith
totals_some nodes (suc n) fair =
    both_positive (upto (total_at nodes) n) (total_at nodes n) (totals_some nodes n (λ k lt. fair k (omega (arith, lt)))) (total_some nodes n (fair n (omega arith)))

chance_none : (nodes : Nodes) (c : Chance) → c ≡ nodes.before → HasChance nodes 0 c
chance_none nodes c e =
    subst (λ (b : Chance). AreEqual (of_chance b) (times (of_chance nodes.before) (part_of nodes 0))) (sym e)
    (equal-sym (times-unit (of_chance nodes.before) nodes.before.positive))

chance_more : (nodes : Nodes) (k : ℕ) (c : Chance) → ((i : ℕ) → i < suc k → IsFair (asked_at nodes i) (node_at nodes i)) → HasChance nodes k (node_at nodes k).above
    → IsThen (node_at nodes k) c → HasChance nodes (suc k) c
chance_more nodes k c fair above is =
    let a = (node_at nodes k).above in
    let part : Fraction = record { num = count_at nodes k; whole = total_at nodes k } in
    let some : 0 < total_at nodes k = total_some nodes k (fair k (omega arith)) in
    let before : 0 < upto (total_at nodes) k = totals_some nodes k (λ i lt. fair i (omega (arith, lt))) in
    let then : AreEqual (of_chance c) (times (of_chance a) part) =
    record { one = c.positive; other = both_positive a.whole (total_at nodes k) a.positive some; cross = omega (arith, is) }
    in
    equal-trans then (equal-trans (times-equal above (equal-refl part some)) (times-assoc (of_chance nodes.before) (part_of nodes k) part nodes.before.positive before some))

chance_at : (nodes : Nodes) (c : Chance) → AreFair nodes → ((k : ℕ) → k < nodes.len → HasChance nodes k (node_at nodes k).above) → IsChance nodes c → (n : ℕ) → nodes.len ≡ n
    → HasChance nodes n c
chance_at nodes c fair above is zero e = chance_none nodes c (is.without e)
chance_at nodes c fair above is (suc n) e =
    let last : nodes.len - 1 ≡ n = omega (arith, e) in
    let then : IsThen (node_at nodes n) c = subst (λ (i : ℕ). IsThen (node_at nodes i) c) last (is.last some_node (omega (arith, e))) in
    chance_more nodes n c (λ i lt. fair i (omega (arith, lt, e))) (above n (omega (arith, e))) then

part_same : (n : ℕ) (old new : Nodes) → AreSame n old new → (k : ℕ) → k ≤ n → part_of new k ≡ part_of old k
part_same n old new same k few =
    let list : (i : ℕ) → i < k → node_at new i ≡ node_at old i = λ i lt. same.list i some_node (omega (arith, lt, few)) in
    ap₂ (λ (p q : ℕ). let f : Fraction = record { num = p; whole = q } in f)
    (upto-same (count_at new) (count_at old) k (λ i lt. ap (λ (x : Node). x.count) (list i lt)))
    (upto-same (total_at new) (total_at old) k (λ i lt. ap (λ (x : Node). x.total) (list i lt)))

chance_same : (n : ℕ) (old new : Nodes) → AreSame n old new → new.before ≡ old.before → (k : ℕ) → k ≤ n → (c : Chance) → HasChance old k c → HasChance new k c
chance_same n old new same before k few c is =
    subst (λ (b : Chance). AreEqual (of_chance c) (times (of_chance b) (part_of new k))) (sym before)
    (subst (λ (p : Fraction). AreEqual (of_chance c) (times (of_chance old.before) p)) (sym (part_same n old new same k few)) is)

above_same : (n : ℕ) (old new : Nodes) → AreSame n old new → new.before ≡ old.before → (k : ℕ) → k < n → HasChance old k (node_at old k).above → HasChance new k (node_at new k).above
above_same n old new same before k lt is =
    subst (λ (x : Node). HasChance new k x.above) (sym (same.list k some_node lt)) (chance_same n old new same before k (omega (arith, lt)) (node_at old k).above is)

fair_same : (n : ℕ) (old new : Nodes) → AreSame n old new → (k : ℕ) → k < n → IsFair (asked_at old k) (node_at old k) → IsFair (asked_at new k) (node_at new k)
fair_same n old new same k lt fair =
    subst (λ (a : Asked). IsFair a (node_at new k)) (sym (same.asked k lt)) (subst (λ (x : Node). IsFair (asked_at old k) x) (sym (same.list k some_node lt)) fair)

three : (m n : ℕ) → m < n + 1 → (m < n) ⊎ (m ≡ n)
three m n lt = grind (arith, lt)

-- A draw is added.
module _ (b : ℕ) (asked : Asked) (look : Look) (may : ByteSet) (old new : Nodes) (adds : Adds b asked look may old new) where
  added_same : AreSame old.len old new
  added_same = record { asked = adds.asked; list = adds.before }

  is_new : CanAsk asked → ((x : ℕ) → x < 256 → has may x ≡ cond (may_of asked x) 1 0) → IsNewFor asked may (node_at new old.len)
  is_new can set =
      let node = node_at new old.len in
      record {
        asks = can;
        set = set;
        rest = λ x lt.
            let same : is_on node x ≡ alike_in old.options.damage_classes look b x = rw (adds.told some_node, adds.look some_node, adds.byte some_node) refl in
            adds.rest some_node x lt ∙ ap (λ (t : Bool). cond t 0 (has may x)) (sym same);
        total = adds.total some_node;
        both = adds.both some_node;
      }

  weighed_added : (Q : Type 0) (hits : Stream → Bool) (meets : Field → Bool) (x : Fraction) → CanAsk asked → ((x : ℕ) → x < 256 → has may x ≡ cond (may_of asked x) 1 0)
      → IsWeighed Q hits meets old x → IsWeighed Q hits meets new x
  weighed_added Q hits meets x can set w =
      let n = old.len in
      let is = is_new can set in
      let last : IsFair (asked_at new n) (node_at new n) = subst (λ (a : Asked). IsFair a (node_at new n)) (sym adds.asks) (fair_new asked may (node_at new n) is) in
      let full : (y : ℕ) → y < 256 → IsTrue (may_of (asked_at new n) y) → is_on (node_at new n) y ≡ false → has (node_at new n).rest y ≡ 1 =
      subst (λ (a : Asked). (y : ℕ) → y < 256 → IsTrue (may_of a y) → is_on (node_at new n) y ≡ false → has (node_at new n).rest y ≡ 1) (sym adds.asks)
      (full_new asked may (node_at new n) is)
      in
      let fair : (k : ℕ) → k < n + 1 → IsFair (asked_at new k) (node_at new k) =
      λ k lt.
      elim (three k n lt) [
        | inl less ↦ fair_same n old new added_same k less (w.fair k less)
        | inr same ↦ subst (λ (i : ℕ). IsFair (asked_at new i) (node_at new i)) (sym same) last
      ]
      in
      let t = total_at new n in
      let some : 0 < t = total_some new n last in
      let more : suc n ≡ new.len = omega (arith, adds.length) in
      record {
        whole = w.whole * t;
        amount = w.amount * t;
        some = both_positive w.whole t w.some some;
        long = adds.long;
        fair = λ k lt. fair k (omega (arith, lt, adds.length));
        above = λ k lt.
            elim (three k n (omega (arith, lt, adds.length))) [
              | inl less ↦ above_same n old new added_same adds.since k less (w.above k less)
              | inr same ↦
                  subst (λ (i : ℕ). HasChance new i (node_at new i).above) (sym same)
                  (chance_same n old new added_same adds.since n (omega arith) (node_at new n).above
                  (chance_at old (node_at new n).above w.fair w.above (adds.above some_node) n refl))
            ];
        levels = subst (λ (m : ℕ). Levels Q hits meets new IsFresh m 0 (w.whole * t) (w.amount * t)) more
            (levels_added Q hits meets new n (λ k lt. fair k (omega (arith, lt))) full n 0 (omega arith) w.whole w.amount
            (levels_same Q hits meets n old new added_same n 0 (omega arith) w.whole w.amount w.levels));
        is = equal-trans w.is (equal-sym (scaled-equal w.amount w.whole t w.some some));
      }

-- A way is played: each of its draws is passed or added.

weighed_passed : (Q : Type 0) (hits : Stream → Bool) (meets : Field → Bool) (x : Fraction) (b : ℕ) (asked : Asked) (look : Look) (old new : Nodes) → (new.too_large ≡ true → ⊥)
    → Passes b asked look old new → IsWeighed Q hits meets old x → IsWeighed Q hits meets new x
weighed_passed Q hits meets x b asked look old new fits passes w =
    elim passes.past [
      | inl same ↦ subst (λ (n : Nodes). IsWeighed Q hits meets n x) (sym same.1) further
      | inr other ↦ absurd (fits (ap (λ (n : Nodes). n.too_large) other))
    ]
  where
    now : Nodes
    now = record old { at = old.at + 1 }

    same : AreSame old.len old now
    same = record { asked = λ k lt. refl; list = λ k past lt. refl }

    further : IsWeighed Q hits meets now x
    further =
        record {
          whole = w.whole;
          amount = w.amount;
          some = w.some;
          long = w.long;
          fair = w.fair;
          above = w.above;
          levels = levels_same Q hits meets old.len old now same old.len 0 (omega arith) w.whole w.amount w.levels;
          is = w.is;
        }

weighed_noted : (Q : Type 0) (hits : Stream → Bool) (meets : Field → Bool) (x : Fraction) (b : ℕ) (asked : Asked) (look : Look) (may : ByteSet) (old new : Nodes)
    → (new.too_large ≡ true → ⊥) → CanAsk asked → ((x : ℕ) → x < 256 → has may x ≡ cond (may_of asked x) 1 0) → Notes b asked look may old new
    → IsWeighed Q hits meets old x → IsWeighed Q hits meets new x
weighed_noted Q hits meets x b asked look may old new fits can set (inl adds) w = weighed_added b asked look may old new adds Q hits meets x can set w
weighed_noted Q hits meets x b asked look may old new fits can set (inr (inl left)) w = subst (λ (n : Nodes). IsWeighed Q hits meets n x) (sym left.0) w
weighed_noted Q hits meets x b asked look may old new fits can set (inr (inr marked)) w = absurd (fits marked.marked)

weighed_entry : (Q : Type 0) (hits : Stream → Bool) (meets : Field → Bool) (x : Fraction) (e : Entry) (old new : Nodes) → IsExact old.options
    → (new.too_large ≡ true → ⊥) → NotesEntry e old new → IsWeighed Q hits meets old x → IsWeighed Q hits meets new x
weighed_entry Q hits meets x (Draw look b) old new exact fits notes w =
    elim notes [
      | inl passes ↦ weighed_passed Q hits meets x b Next look old new fits passes w
      | inr adds ↦ weighed_noted Q hits meets x b Next look adds.0 old new fits tt adds.1 adds.2.noted w
    ]
weighed_entry Q hits meets x (Found test look b) old new exact fits notes w =
    elim notes.2 [
      | inl passes ↦ weighed_passed Q hits meets x b (First test) look old new fits passes w
      | inr adds ↦
          let set : (x : ℕ) → x < 256 → has adds.0 x ≡ cond (may_of (First test) x) 1 0 =
          elim adds.1 [
            | inl passing ↦ passing
            | inr settled ↦ absurd (settled_not old adds.2.fresh exact.least settled.0)
          ]
          in
          weighed_noted Q hits meets x b (First test) look adds.0 old new fits (b, notes.0, notes.1) set adds.2.noted w
    ]
weighed_entry Q hits meets x (Missed test) old new exact fits marks w = absurd (fits (ap (λ (n : Nodes). n.too_large) marks))

weighed_log : (Q : Type 0) (hits : Stream → Bool) (meets : Field → Bool) (x : Fraction) (es : List Entry) (old new : Nodes) → AreKnown old
    → old.at ≤ old.len → IsExact old.options → new.too_large ≡ false → NotesAll es old new → IsWeighed Q hits meets old x
    → IsWeighed Q hits meets new x
weighed_log Q hits meets x [] old new known within exact fits same w = subst (λ (n : Nodes). IsWeighed Q hits meets n x) (sym same) w
weighed_log Q hits meets x (e ∷ es) old new known within exact fits all w =
    let now = all.0 in
    let still : now.too_large ≡ true → ⊥ = λ is. not_both new.too_large (large_all es now new all.2 is) fits in
    let step = step_as e old now known within exact still all.1 in
    weighed_log Q hits meets x es now new step.known step.within
    (subst (λ (o : OutcomeOptions). IsExact o) (sym (entry_keeps e old now all.1)) exact) fits all.2
    (weighed_entry Q hits meets x e old now exact still all.1 w)

pub weighed_way : (Q : Type 0) (hits : Stream → Bool) (meets : Field → Bool) (script : Script) (nodes after : Nodes) (x : Fraction)
    → IsLogged script nodes after → IsExact nodes.options → after.too_large ≡ false → nodes.at ≡ 0 → AreKnown nodes
    → IsWeighed Q hits meets nodes x → IsWeighed Q hits meets after x
weighed_way Q hits meets script nodes after x way exact fits at known w =
    weighed_log Q hits meets x way.log nodes after known (omega (arith, at)) exact fits way.noted w

-- A tree leads right on each stream that goes by the draws of a way.
abbrev pub LeadsRight : Type 0 → (Stream → Bool) → (Field → Bool) → Nodes → Tree → Type 0
LeadsRight Q hits meets nodes tree =
    Q → (s : Stream) → IsStream s → GoesBy nodes s → meets (leads_to tree s (place_before (asked_at nodes) s nodes.len)).field ≡ hits s

-- What it leads to is put under the last draw of a way, and adds its share of the way's part.
pub spent : (Q : Type 0) (hits : Stream → Bool) (meets : Field → Bool) (nodes : Nodes) (x : Fraction) (c : Chance) (tree : Tree) (whole share : ℕ)
    → IsWeighed Q hits meets nodes x → IsChance nodes c → 0 < whole → IsShare tree meets whole share → LeadsRight Q hits meets nodes tree
    → (π : Fraction) × AreEqual (of_chance c) (times (of_chance nodes.before) π) × IsSpent Q hits meets nodes (plus x (times π (record { num = share; whole = whole })))
    × (0 < π.whole)
spent Q hits meets nodes x c tree whole share w is some has leads =
    let n = nodes.len in
    let put = levels_put Q hits meets nodes w.fair tree whole share has leads n 0 (omega arith) w.whole w.amount w.levels in
    let part = part_of nodes n in
    let more : 0 < part.whole = totals_some nodes n w.fair in
    let counts : 1 * after (count_at nodes) n 0 ≡ part.num = upto-after (count_at nodes) n 0 n (omega arith) in
    let totals : 1 * after (total_at nodes) n 0 ≡ part.whole = upto-after (total_at nodes) n 0 n (omega arith) in
    let all : part.whole * put.last ≡ w.whole = ap (λ (t : ℕ). t * put.last) (sym totals) ∙ omega (arith, put.is) in
    let now = w.amount * whole + after (count_at nodes) n 0 * (share * put.last) in
    let same : now ≡ w.amount * whole + part.num * (share * put.last) = ap (λ (t : ℕ). w.amount * whole + t * (share * put.last)) (omega arith ∙ counts) in
    let old : Fraction = record { num = w.amount; whole = w.whole } in
    let y : Fraction = record { num = share; whole = whole } in
    let added : Fraction = times part y in
    let some_added : 0 < added.whole = both_positive part.whole whole more some in
    let sum : AreEqual (plus old added) (record { num = now; whole = w.whole * whole }) =
    record {
      one = both_positive w.whole added.whole w.some some_added;
      other = both_positive w.whole whole w.some some;
      cross = crossed w.amount w.whole part.num part.whole share whole put.last all ∙ ap (λ (t : ℕ). t * (w.whole * (part.whole * whole))) (sym same);
    }
    in (
      part,
      chance_at nodes c w.fair w.above is n refl,
      record {
        whole = w.whole * whole;
        amount = now;
        some = both_positive w.whole whole w.some some;
        long = w.long;
        fair = w.fair;
        above = w.above;
        levels = put.levels;
        is = equal-trans (plus-equal w.is (equal-refl added some_added)) sum;
      },
      more,
    )
  where
    crossed : (a w p t s k l : ℕ) → t * l ≡ w → (a * (t * k) + p * s * w) * (w * k) ≡ (a * k + p * (s * l)) * (w * (t * k))
    crossed a w p t s k l e = omega (arith, ap (λ (z : ℕ). z * (p * s * w * k)) e)

-- The next way.
pub weighed_next : (Q : Type 0) (hits : Stream → Bool) (meets : Field → Bool) (old new : Nodes) (x : Fraction) → LeadsOn old new → IsSpent Q hits meets old x
    → IsWeighed Q hits meets new x
weighed_next Q hits meets old new x leads w =
    let p = leads.place in
    let same = next_same old new leads in
    let here : GoesOn (node_at old p) (node_at new p) = leads.here some_node in
    let asked : asked_at new p ≡ asked_at old p = ap (λ (l : List Asked). get_or l p Unknown) leads.asked in
    let last : IsFair (asked_at new p) (node_at new p) =
    subst (λ (a : Asked). IsFair a (node_at new p)) (sym asked) (fair_goes (asked_at old p) (node_at old p) (node_at new p) (w.fair p leads.within) here)
    in
    let length : suc p ≡ new.len = omega (arith, leads.length) in
    record {
      whole = w.whole;
      amount = w.amount;
      some = w.some;
      long = leads.long;
      fair = λ k lt.
          elim (three k p (omega (arith, lt, leads.length))) [
            | inl less ↦ fair_same p old new same k less (w.fair k (omega (arith, less, leads.within)))
            | inr e ↦ subst (λ (i : ℕ). IsFair (asked_at new i) (node_at new i)) (sym e) last
          ];
      above = λ k lt.
          elim (three k p (omega (arith, lt, leads.length))) [
            | inl less ↦ above_same p old new same leads.since k less (w.above k (omega (arith, less, leads.within)))
            | inr e ↦
                subst (λ (i : ℕ). HasChance new i (node_at new i).above) (sym e)
                (subst (λ (a : Chance). HasChance new p a) (sym here.takes.above)
                (chance_same p old new same leads.since p (omega arith) (node_at old p).above (w.above p leads.within)))
          ];
      levels = subst (λ (n : ℕ). Levels Q hits meets new IsFresh n 0 w.whole w.amount) length
          (levels_next Q hits meets old new w.long w.fair leads p old.len 0 (omega arith) (omega arith) w.whole w.amount w.levels);
      is = w.is;
    }

-- After the last way there is a tree of all streams, and the fraction is its share.
pub record IsWhole (Q : Type 0) (hits : Stream → Bool) (meets : Field → Bool) (x : Fraction) : Type 0 where
  pub tree : Tree
  pub leads : Q → (s : Stream) → IsStream s → meets (leads_to tree s 0).field ≡ hits s
  pub whole : ℕ
  pub share : ℕ
  pub some : 0 < whole
  pub is : IsShare tree meets whole share
  pub equal : AreEqual x (record { num = share; whole = whole })

pub weighed_all : (Q : Type 0) (hits : Stream → Bool) (meets : Field → Bool) (nodes : Nodes) (x : Fraction) → AllDone nodes → IsSpent Q hits meets nodes x
    → IsWhole Q hits meets x
weighed_all Q hits meets nodes x done w =
    let closed = levels_closed Q hits meets nodes w.long w.fair nodes.len 0 (omega arith) (λ k more lt. done k some_node lt) w.whole w.amount w.levels in
    record {
      tree = closed.tree;
      leads = λ q s is. closed.leads q s is (λ k past lt. absurd (omega (arith, lt)));
      whole = w.whole;
      share = w.amount;
      some = w.some;
      is = closed.share;
      equal = w.is;
    }
