-- A table of numbers, by which a battle is found in a list.
use Rattle.std.proofs.Common.{◌≡◌, ◌≢◌, ℕ, Err, IfOk, Ok, OnOk, Result, ◌+◌, ◌-◌, ◌%◌, ◌<◌, ◌≤◌, List, length, take, get_or, get_or-set_other, get_or-set_same, set, ◌⊎◌, inl, inr, ap, subst, sym, ◌∙◌, arith}
use Rattle.std.specs.Prelude.{slice_index}
use Rattle.std.proofs.Math.Nat.{add-mod-mod, mod-eq_of_lt, mod-lt, mod_self}
use Rattle.std.proofs.lemmas.List.{get_or-take, get_or_default, length-set, length-take-le}
use Rattle.gen1_layout.specs.Parts.{Parts, joined}
use Rattle.gen1_outcomes.specs.declared.successor.OutcomesFault.{OutcomesFault}
use Rattle.gen1_outcomes.specs.declared.merging.Tally.{Tally}
use Rattle.gen1_outcomes.specs.declared.outcomes.Outcomes.{Outcomes}
use Rattle.gen1_outcomes.specs.declared.successor.Successor.{Successor}
use Rattle.gen1_outcomes.specs.Listing.{AreThose, battle_at}
use Rattle.gen1_outcomes.proofs.Lists.{AreTaken}
use Rattle.gen1_outcomes.specs.Middles.{AreDistinct, HasNumber, IsFreeFor, IsIndexed, StayIndexed, hash_of, slot_of}

same_or : (m n : ℕ) → (m ≡ n) ⊎ (m ≢ n)
same_or m n = grind arith

order : (m n : ℕ) → (m < n) ⊎ (m ≡ n) ⊎ (n < m)
order m n = grind arith

-- The slot after one, in a circle.
turned : (size a slot : ℕ) → slot ≡ a % size → (a + 1) % size ≡ (slot + 1) % size
turned size a slot is =
    let one : a + 1 ≡ 1 + a = omega arith in
    let two : 1 + slot ≡ slot + 1 = omega arith in
    ap (λ (x : ℕ). x % size) one ∙ sym (add-mod-mod 1 a size) ∙ ap (λ (x : ℕ). (1 + x) % size) (sym is) ∙ ap (λ (x : ℕ). x % size) two

pub slot_more : (size a slot : ℕ) → 0 < size → slot ≡ a % size → slot + 1 ≢ size → slot + 1 ≡ (a + 1) % size
slot_more size a slot some is ne =
    let less : slot < size = subst (λ (x : ℕ). x < size) (sym is) (mod-lt a some) in
    let inside : slot + 1 < size = omega (arith, less, ne) in
    sym (turned size a slot is ∙ mod-eq_of_lt inside)

pub slot_first : (size a slot : ℕ) → slot ≡ a % size → slot + 1 ≡ size → 0 ≡ (a + 1) % size
slot_first size a slot is last = sym (turned size a slot is ∙ ap (λ (x : ℕ). x % size) last ∙ mod_self size)

-- The next slot to be tried.
abbrev pub IsNext : ℕ → ℕ → ℕ → Type 0
IsNext size slot next = ((slot + 1 ≡ size) × (next ≡ 0)) ⊎ ((slot + 1 ≢ size) × (next ≡ slot + 1))

pub next_within : (size slot next : ℕ) → slot < size → IsNext size slot next → next < size
next_within size slot next within step =
    elim step [
      | inl h ↦ omega (arith, within, h.1)
      | inr h ↦ omega (arith, within, h.0, h.1)
    ]

pub next_at : (size hash count slot next : ℕ) → slot < size → slot ≡ (hash + count) % size → IsNext size slot next → next ≡ (hash + (count + 1)) % size
next_at size hash count slot next within at step =
    let more : hash + count + 1 ≡ hash + (count + 1) = omega arith in
    elim step [
      | inl h ↦ h.1 ∙ slot_first size (hash + count) slot at h.0 ∙ ap (λ (x : ℕ). x % size) more
      | inr h ↦ h.1 ∙ slot_more size (hash + count) slot (omega (arith, within)) at h.0 ∙ ap (λ (x : ℕ). x % size) more
    ]

pub first_at : (size hash : ℕ) → hash % size ≡ (hash + 0) % size
first_at size hash = let none : hash ≡ hash + 0 = omega arith in ap (λ (x : ℕ). x % size) none

pub first_taken : (table : List ℕ) (slot : ℕ) → AreTaken table slot 0
first_taken table slot k lt either =
    absurd
    (elim either [
      | inl h ↦ let it : k < slot = h.0 in let other : slot ≤ k + 0 = h.1 in omega (arith, it, other)
      | inr h ↦ let other : slot + length table ≤ k + 0 = h.1 in omega (arith, lt, other)
    ])

pub next_taken : (table : List ℕ) (slot next count : ℕ) → slot < length table → IsNext (length table) slot next → slice_index table slot ≢ 0
    → AreTaken table slot count → AreTaken table next (count + 1)
next_taken table slot next count within step here before k lt either =
    elim (same_or k slot) [
      | inl e ↦ λ none. here (sym (ap (slice_index table) e) ∙ none)
      | inr ne ↦ before k lt (old k lt ne either)
    ]
  where
    old : (k : ℕ) → k < length table → k ≢ slot → ((k < next) × (next ≤ k + (count + 1))) ⊎ ((next ≤ k) × (next + length table ≤ k + (count + 1)))
        → ((k < slot) × (slot ≤ k + count)) ⊎ ((slot ≤ k) × (slot + length table ≤ k + count))
    old k lt ne either =
        elim step [
          | inl last ↦
              elim either [
                | inl h ↦ absurd (omega (arith, last.1, h.0))
                | inr h ↦ inl (omega (arith, lt, ne, last.0), omega (arith, last.0, last.1, h.1))
              ]
          | inr on ↦
              elim either [
                | inl h ↦ inl (omega (arith, ne, on.1, h.0), omega (arith, on.1, h.1))
                | inr h ↦ inr (omega (arith, on.1, h.0), omega (arith, on.1, h.1))
              ]
        ]

-- What is known of the slots before one, and of that one, is known of those before the next.
pub past_more : (table bytes : List ℕ) (count slot : ℕ) → slot ≡ slot_of table bytes count → slice_index table slot ≢ 0
    → ((j : ℕ) → j < count → slice_index table (slot_of table bytes j) ≢ 0) → (j : ℕ) → j < count + 1 → slice_index table (slot_of table bytes j) ≢ 0
past_more table bytes count slot at here past j lt =
    elim (same_or j count) [
      | inl e ↦ λ none. here (ap (slice_index table) (at ∙ sym (ap (slot_of table bytes) e)) ∙ none)
      | inr ne ↦ past j (omega (arith, lt, ne))
    ]

pub others_more : (table : List ℕ) (xs : List Successor) (battle : Parts) (count slot : ℕ) → slot ≡ slot_of table (joined battle) count
    → ((k : ℕ) (other : Successor) → k < length xs → slice_index table slot ≡ k + 1 → joined (battle_at xs k other) ≢ joined battle)
    → ((j : ℕ) → j < count → (k : ℕ) (other : Successor) → k < length xs → slice_index table (slot_of table (joined battle) j) ≡ k + 1
    → joined (battle_at xs k other) ≢ joined battle)
    → (j : ℕ) → j < count + 1 → (k : ℕ) (other : Successor) → k < length xs → slice_index table (slot_of table (joined battle) j) ≡ k + 1
    → joined (battle_at xs k other) ≢ joined battle
others_more table xs battle count slot at here before j lt k other inside is =
    elim (same_or j count) [
      | inl e ↦ here k other inside (ap (slice_index table) (at ∙ sym (ap (slot_of table (joined battle)) e)) ∙ is)
      | inr ne ↦ before j (omega (arith, lt, ne)) k other inside is
    ]

-- The battle whose number is in a slot is another one.
pub other_battle : (xs : List Successor) (battle : Parts) (number : ℕ) (d : Successor) → joined (battle_at xs (number - 1) d) ≢ joined battle
    → (k : ℕ) (other : Successor) → k < length xs → number ≡ k + 1 → joined (battle_at xs k other) ≢ joined battle
other_battle xs battle number d differ k other inside e same =
    let back : number - 1 ≡ k = omega (arith, e) in
    differ (ap (λ (s : Successor). joined s.battle) (ap (λ (n : ℕ). get_or xs n d) back ∙ get_or_default xs k d other inside) ∙ same)

-- A battle that has a number, and is none of those whose numbers were seen before a free slot, is none of the list.
pub absent : (table : List ℕ) (xs : List Successor) (battle : Parts) (steps : ℕ) (count : ℕ) → IsIndexed table count xs
    → slice_index table (slot_of table (joined battle) steps) ≡ 0
    → ((j : ℕ) → j < steps → slice_index table (slot_of table (joined battle) j) ≢ 0)
    → ((j : ℕ) → j < steps → (k : ℕ) (past : Successor) → k < count → slice_index table (slot_of table (joined battle) j) ≡ k + 1
    → joined (battle_at xs k past) ≢ joined battle)
    → (k : ℕ) (other : Successor) → k < count → joined (battle_at xs k other) ≢ joined battle
absent table xs battle steps count are free past others k other lt same =
    let it : HasNumber table (joined battle) (k + 1) = subst (λ (b : List ℕ). HasNumber table b (k + 1)) same (are.numbers k other lt) in
    elim (order it.steps steps) [
      | inl less ↦ others it.steps less k other lt it.here same
      | inr rest ↦
          elim rest [
            | inl e ↦
                let at : slice_index table (slot_of table (joined battle) steps) ≡ k + 1 =
                subst (λ (n : ℕ). slice_index table (slot_of table (joined battle) n) ≡ k + 1) e it.here
                in
                let none : 0 ≡ k + 1 = sym free ∙ at in
                omega (arith, none)
            | inr more ↦ it.past steps more free
          ]
    ]

-- Another slot of a table is written.
number_kept : (table bytes : List ℕ) (slot n number : ℕ) → slice_index table slot ≡ 0 → number ≢ 0 → HasNumber table bytes number
    → HasNumber (set table slot n) bytes number
number_kept table bytes slot n number free some it =
    record {
      steps = it.steps;
      few = subst (λ (l : ℕ). it.steps < l) (sym size) it.few;
      here = ap (λ (l : ℕ). get_or (set table slot n) ((hash_of bytes + it.steps) % l) 0) size
          ∙ get_or-set_other table slot (slot_of table bytes it.steps) n 0 (apart (slot_of table bytes it.steps) (λ e. some (sym it.here ∙ e))) ∙ it.here;
      past = λ j lt e.
          it.past j lt
          (sym (get_or-set_other table slot (slot_of table bytes j) n 0 (apart (slot_of table bytes j) (it.past j lt)))
          ∙ sym (ap (λ (l : ℕ). get_or (set table slot n) ((hash_of bytes + j) % l) 0) size) ∙ e);
    }
  where
    size : length (set table slot n) ≡ length table
    size = length-set table slot n

    apart : (at : ℕ) → slice_index table at ≢ 0 → at ≢ slot
    apart at taken e = taken (ap (slice_index table) e ∙ free)

-- A new battle is put into the next place, and its number into its slot.
pub indexed_more : (table : List ℕ) (count : ℕ) (xs : List Successor) (battle : Parts) (slot : ℕ) (x : Successor) → IsIndexed table count xs
    → IsFreeFor table count xs battle slot → slot < length table → slice_index table slot ≡ 0 → count < length xs → x.battle ≡ battle
    → IsIndexed (set table slot (count + 1)) (count + 1) (set xs count x)
indexed_more table count xs battle slot x are free within none inside is =
    record {
      numbers = λ k past lt.
          elim (same_or k count) [
            | inl e ↦
                subst (λ (j : ℕ). HasNumber new (joined (battle_at ys j past)) (j + 1)) (sym e)
                (subst (λ (b : Parts). HasNumber new (joined b) (count + 1)) (sym (last past)) number)
            | inr ne ↦
                subst (λ (b : Parts). HasNumber new (joined b) (k + 1)) (sym (others k past ne))
                (number_kept table (joined (battle_at xs k past)) slot (count + 1) (k + 1) none (omega arith) (are.numbers k past (omega (arith, lt, ne))))
          ];
      distinct = λ j k past less lt same.
          elim (same_or k count) [
            | inl e ↦
                let before : j < count = omega (arith, less, e) in
                let ne : j ≢ count = omega (arith, before) in
                free.absent j past before
                (sym (ap joined (others j past ne)) ∙ same ∙ ap (λ (n : ℕ). joined (battle_at ys n past)) e ∙ ap joined (last past))
            | inr ne ↦
                let before : k < count = omega (arith, lt, ne) in
                let apart : j ≢ count = omega (arith, less, before) in
                are.distinct j k past less before (sym (ap joined (others j past apart)) ∙ same ∙ ap joined (others k past ne))
          ];
    }
  where
    new : List ℕ
    new = set table slot (count + 1)

    ys : List Successor
    ys = set xs count x

    size : length (set table slot (count + 1)) ≡ length table
    size = length-set table slot (count + 1)

    last : (past : Successor) → battle_at (set xs count x) count past ≡ battle
    last past = ap (λ (s : Successor). s.battle) (get_or-set_same xs count x past inside) ∙ is

    others : (k : ℕ) (past : Successor) → k ≢ count → battle_at (set xs count x) k past ≡ battle_at xs k past
    others k past ne = ap (λ (s : Successor). s.battle) (get_or-set_other xs count k x past ne)

    number : HasNumber (set table slot (count + 1)) (joined battle) (count + 1)
    number =
        record {
          steps = free.steps;
          few = subst (λ (l : ℕ). free.steps < l) (sym size) free.few;
          here = ap (λ (l : ℕ). get_or (set table slot (count + 1)) ((hash_of (joined battle) + free.steps) % l) 0) size
              ∙ ap (λ (at : ℕ). get_or (set table slot (count + 1)) at 0) free.here ∙ get_or-set_same table slot (count + 1) 0 within;
          past = λ j lt e.
              let apart : slot_of table (joined battle) j ≢ slot = λ same. free.past j lt (ap (slice_index table) same ∙ none) in
              free.past j lt
              (sym (get_or-set_other table slot (slot_of table (joined battle) j) (count + 1) 0 apart)
              ∙ sym (ap (λ (l : ℕ). get_or (set table slot (count + 1)) ((hash_of (joined battle) + j) % l) 0) size) ∙ e);
        }

-- The same battles are indexed by the same table.
pub indexed_those : (table : List ℕ) (count : ℕ) (xs ys : List Successor) → AreThose xs ys → IsIndexed table count xs → IsIndexed table count ys
indexed_those table count xs ys those are =
    record {
      numbers = λ k past lt. subst (λ (b : Parts). HasNumber table (joined b) (k + 1)) (sym (those k past)) (are.numbers k past lt);
      distinct = λ j k past less lt same. are.distinct j k past less lt (sym (ap joined (those j past)) ∙ same ∙ ap joined (those k past));
    }

-- Those in the first places, apart from the rest of the list.
pub indexed_taken : (table : List ℕ) (count : ℕ) (xs : List Successor) → count ≤ length xs → IsIndexed table count xs
    → IsIndexed table (length (take count xs)) (take count xs)
indexed_taken table count xs within are =
    subst (λ (n : ℕ). IsIndexed table n (take count xs)) (sym (length-take-le count xs within))
    (record {
      numbers = λ k past lt. subst (λ (b : Parts). HasNumber table (joined b) (k + 1)) (sym (same k past lt)) (are.numbers k past lt);
      distinct = λ j k past less lt e.
          are.distinct j k past less lt (sym (ap joined (same j past (omega (arith, less, lt)))) ∙ e ∙ ap joined (same k past lt));
    })
  where
    same : (k : ℕ) (past : Successor) → k < count → battle_at (take count xs) k past ≡ battle_at xs k past
    same k past lt = ap (λ (s : Successor). s.battle) (get_or-take count xs k past lt)

pub free_taken : (table : List ℕ) (count : ℕ) (xs : List Successor) (battle : Parts) (slot : ℕ) → count ≤ length xs
    → IsFreeFor table (length (take count xs)) (take count xs) battle slot → IsFreeFor table count xs battle slot
free_taken table count xs battle slot within free =
    record {
      steps = free.steps;
      few = free.few;
      here = free.here;
      past = free.past;
      absent = λ k other lt e.
          free.absent k other (omega (arith, lt, length-take-le count xs within)) (ap (λ (s : Successor). joined s.battle) (get_or-take count xs k other lt) ∙ e);
    }

-- A battle that was not in the list is put into the next place.
pub on_ok_indexed : (battle : Parts) (old mid new : Tally) (xs ys zs : List Successor) (table after : List ℕ) (slot : ℕ) (x : Successor) (r : Result (Unit {0}) OutcomesFault)
    → AreThose xs ys → mid.count ≡ old.count → mid.count ≤ length ys → slot < length table → slice_index table slot ≡ 0 → x.battle ≡ battle
    → (IsIndexed table (length (take mid.count ys)) (take mid.count ys) → IsFreeFor table (length (take mid.count ys)) (take mid.count ys) battle slot)
    → new.count ≤ length zs → OnOk r (new ≡ record mid { count = mid.count + 1 }) → OnOk r (zs ≡ set ys mid.count x) → OnOk r (after ≡ set table slot (mid.count + 1))
    → OnOk r (StayIndexed old xs table new zs after)
on_ok_indexed battle old mid new xs ys zs table after slot x (Ok done) those same within inside none is found room counts list put = λ are.
    let here : IsIndexed table mid.count ys = subst (λ (n : ℕ). IsIndexed table n ys) (sym same) (indexed_those table old.count xs ys those are) in
    let free : IsFreeFor table mid.count ys battle slot = free_taken table mid.count ys battle slot within (found (indexed_taken table mid.count ys within here)) in
    let one : new.count ≡ mid.count + 1 = ap (λ (t : Tally). t.count) counts in
    let as_long : length zs ≡ length ys = ap length list ∙ length-set ys mid.count x in
    subst (λ (n : ℕ). IsIndexed after n zs) (sym one)
    (subst (λ (l : List Successor). IsIndexed after (mid.count + 1) l) (sym list)
    (subst (λ (t : List ℕ). IsIndexed t (mid.count + 1) (set ys mid.count x)) (sym put)
    (indexed_more table mid.count ys battle slot x here free inside none (omega (arith, one, room, as_long)) is)))
on_ok_indexed battle old mid new xs ys zs table after slot x (Err why) those same within inside none is found room counts list put = tt

-- One of the list gets more, and the table stays.
pub on_ok_same : (old mid : Tally) (xs ys zs : List Successor) (table : List ℕ) (r : Result (Unit {0}) OutcomesFault) → AreThose xs ys → AreThose ys zs
    → mid.count ≡ old.count → OnOk r (StayIndexed old xs table mid zs table)
on_ok_same old mid xs ys zs table (Ok done) those more same = λ are.
    subst (λ (n : ℕ). IsIndexed table n zs) (sym same) (indexed_those table old.count ys zs more (indexed_those table old.count xs ys those are))
on_ok_same old mid xs ys zs table (Err why) those more same = tt

pub none_indexed : (table : List ℕ) (count : ℕ) (xs : List Successor) → count ≡ 0 → IsIndexed table count xs
none_indexed table count xs none =
    record { numbers = λ k past lt. absurd (omega (arith, none, lt)); distinct = λ j k past less lt same. absurd (omega (arith, none, lt)) }

pub finished_once : (count : ℕ) (xs : List Successor) (table : List ℕ) (r : Result Outcomes OutcomesFault) → IsIndexed table count xs
    → IfOk r (λ o. o.count ≡ count) → IfOk r (λ o. AreDistinct o.count xs)
finished_once count xs table (Ok o) are is = subst (λ (n : ℕ). AreDistinct n xs) (sym is) are.distinct
finished_once count xs table (Err why) are is = tt

pub indexed_kept : (table : List ℕ) (count now : ℕ) (xs ys : List Successor) → AreThose xs ys → now ≡ count → IsIndexed table count xs → IsIndexed table now ys
indexed_kept table count now xs ys those same are =
    subst (λ (n : ℕ). IsIndexed table n ys) (sym same) (indexed_those table count xs ys those are)

pub on_ok_then_indexed : (a b c : Tally) (xs ys zs : List Successor) (before table after : List ℕ) (r : Result (Unit {0}) OutcomesFault) → StayIndexed a xs before b ys table
    → OnOk r (StayIndexed b ys table c zs after) → OnOk r (StayIndexed a xs before c zs after)
on_ok_then_indexed a b c xs ys zs before table after (Ok done) f g = λ are. g (f are)
on_ok_then_indexed a b c xs ys zs before table after (Err why) f g = tt

pub on_ok_kept : (old new : Tally) (xs ys : List Successor) (table : List ℕ) (r : Result (Unit {0}) OutcomesFault) → AreThose xs ys → new.count ≡ old.count
    → OnOk r (StayIndexed old xs table new ys table)
on_ok_kept old new xs ys table (Ok done) those same = λ are. indexed_kept table old.count new.count xs ys those same are
on_ok_kept old new xs ys table (Err why) those same = tt
