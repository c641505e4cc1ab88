-- Shares of a list: what keeps them, and how a battle gets one.
use Rattle.std.proofs.Common.{◌≡◌, ◌≢◌, ℕ, Err, IfOk, Ok, OnErr, OnOk, Result, ◌+◌, ◌*◌, ◌<◌, ◌≤◌, List, length, take, get_or, get_or-set_other, get_or-set_same, set, ◌⊎◌, inl, inr, ap, refl, subst, sym, ◌∙◌, arith}
use Rattle.std.specs.Prelude.{Bool, false, true, nat_lt, slice_index, ◌==◌, if◌then◌else◌}
use Rattle.std.proofs.Math.Nat.{add-mul, mul-le-mul_right}
use Rattle.std.proofs.lemmas.List.{get_or-take, get_or_default, length-set, length-take}
use Rattle.std.proofs.lemmas.List.Sums.{sum_by-set}
use Rattle.gen1_layout.specs.Parts.{Parts, joined}
use Rattle.gen1_outcomes.specs.declared.successor.OutcomesFault.{OutcomesFault}
use Rattle.gen1_outcomes.specs.declared.merging.Tally.{Tally}
use Rattle.gen1_outcomes.specs.declared.nodes.Chance.{Chance}
use Rattle.gen1_outcomes.specs.declared.outcomes.Outcomes.{Outcomes}
use Rattle.gen1_outcomes.specs.declared.successor.Successor.{Successor}
use Rattle.gen1_outcomes.specs.Chances.{IsBelow}
use Rattle.gen1_outcomes.specs.Listing.{AreThose, battle_at, weight_of}
use Rattle.gen1_outcomes.specs.Weights.{Adds, AreProbable, CountsEach, EachIsProbable, GetsShare, Grows, IsLeft, KeepsShares, StayProbable, TakesEach, weight_at, weight_before}
use Rattle.gen1_outcomes.specs.Middles.{LeavesOut}
use Rattle.gen1_outcomes.proofs.Fractions.{both_positive, grown, grown_first, least_grown, most_grown, scaled, still_least, still_most}

same_or : (m n : ℕ) → (m ≡ n) ⊎ (m ≢ n)
same_or m n = grind arith

less_or : (m n : ℕ) → (m < n) ⊎ (n ≤ m)
less_or m n = grind arith

-- Nothing has changed.
pub keeps_all : (t : Tally) (xs : List Successor) → KeepsShares t t xs xs
keeps_all t xs =
    record { whole = λ some. some; each = λ k past lt. refl; left = refl; count = refl; least = refl; ways = refl }

-- All weights are multiplied by the same number as their denominator.
pub keeps_scaled : (old : Tally) (xs ys : List Successor) (more : ℕ) → 0 < more
    → ((k : ℕ) (past : Successor) → k < old.count → weight_at ys k past ≡ weight_at xs k past * more)
    → KeepsShares old (record old { whole = old.whole * more; left_out = old.left_out * more }) xs ys
keeps_scaled old xs ys more some each =
    record {
      whole = λ whole. both_positive old.whole more whole some;
      each = λ k past lt. ap (λ (x : ℕ). x * old.whole) (each k past lt) ∙ scaled (weight_at xs k past) old.whole more;
      left = scaled old.left_out old.whole more;
      count = refl;
      least = refl;
      ways = refl;
    }

-- One more weight is multiplied.
pub scaled_more : (xs ys zs : List Successor) (at more : ℕ) → ((k : ℕ) (past : Successor) → k < at → weight_at ys k past ≡ weight_at xs k past * more)
    → ((k : ℕ) (past : Successor) → at ≤ k → get_or ys k past ≡ get_or xs k past)
    → ((past : Successor) → weight_at zs at past ≡ weight_at ys at past * more) → ((k : ℕ) (past : Successor) → k ≢ at → get_or zs k past ≡ get_or ys k past)
    → (k : ℕ) (past : Successor) → k < at + 1 → weight_at zs k past ≡ weight_at xs k past * more
scaled_more xs ys zs at more before rest here others k past lt =
    elim (same_or k at) [
      | inl e ↦
          subst (λ (j : ℕ). weight_at zs j past ≡ weight_at xs j past * more) (sym e)
          (here past ∙ ap (λ (s : Successor). weight_of s * more) (rest at past (omega arith)))
      | inr ne ↦ ap weight_of (others k past ne) ∙ before k past (omega (arith, ne, lt))
    ]

pub rest_less : (xs ys zs : List Successor) (at : ℕ) → ((k : ℕ) (past : Successor) → at ≤ k → get_or ys k past ≡ get_or xs k past)
    → ((k : ℕ) (past : Successor) → k ≢ at → get_or zs k past ≡ get_or ys k past) → (k : ℕ) (past : Successor) → at + 1 ≤ k → get_or zs k past ≡ get_or xs k past
rest_less xs ys zs at rest others k past le = others k past (omega (arith, le)) ∙ rest k past (omega (arith, le))

-- A place of a list is written.
pub other_place : (xs : List Successor) (at : ℕ) (x : Successor) (k : ℕ) (past : Successor) → k ≢ at → get_or (set xs at x) k past ≡ get_or xs k past
other_place xs at x k past ne = get_or-set_other xs at k x past ne

pub at_place : (xs : List Successor) (at : ℕ) (x d : Successor) (v : ℕ) (f : ℕ → ℕ) → at < length xs → weight_of x ≡ f v → v ≡ weight_at xs at d
    → (past : Successor) → weight_at (set xs at x) at past ≡ f (weight_at xs at past)
at_place xs at x d v f inside e is past =
    ap weight_of (get_or-set_same xs at x past inside) ∙ e ∙ ap f (is ∙ ap weight_of (get_or_default xs at d past inside))

-- A weight is added to what is left out.
pub is_left : (c : Chance) (old mid : Tally) (xs ys : List Successor) (more : ℕ) → KeepsShares old mid xs ys → more * c.whole ≡ c.num * mid.whole → IsBelow old.least c
    → IsLeft c old (record mid { left_out = mid.left_out + more }) xs ys
is_left c old mid xs ys more keeps is below =
    record {
      below = below;
      left = grown old.left_out old.whole c.num c.whole mid.left_out mid.whole more keeps.left is;
      each = keeps.each;
      count = keeps.count;
      whole = keeps.whole;
      least = keeps.least;
      ways = keeps.ways;
    }

pub before_less : (t : Tally) (xs : List Successor) (k : ℕ) (past : Successor) → k < t.count → weight_before t xs k past ≡ weight_at xs k past
before_less t xs k past lt = by (nat_lt k t.count) refl
  where
    by : (b : Bool) → nat_lt k t.count ≡ b → (if b then weight_at xs k past else 0) ≡ weight_at xs k past
    by true e = refl
    by false e = absurd (grind (arith, e, lt))

pub before_new : (t : Tally) (xs : List Successor) (past : Successor) → weight_before t xs t.count past ≡ 0
before_new t xs past = by (nat_lt t.count t.count) refl
  where
    by : (b : Bool) → nat_lt t.count t.count ≡ b → (if b then weight_at xs t.count past else 0) ≡ 0
    by true e = absurd (grind (arith, e))
    by false e = refl

-- A battle that is there gets a weight.
pub gets_more : (battle : Parts) (c : Chance) (old mid : Tally) (xs ys zs : List Successor) (place more : ℕ) → KeepsShares old mid xs ys
    → more * c.whole ≡ c.num * mid.whole → old.least * c.whole ≤ c.num * 4294967296 → place < old.count
    → ((past : Successor) → joined (battle_at zs place past) ≡ joined battle)
    → ((past : Successor) → weight_at zs place past ≡ weight_at ys place past + more)
    → ((k : ℕ) (past : Successor) → k ≢ place → weight_at zs k past ≡ weight_at ys k past)
    → GetsShare battle c old mid xs zs
gets_more battle c old mid xs ys zs place more keeps is probable lt bytes here others =
    record {
      place = place;
      within = omega (arith, lt, keeps.count);
      there = inl (lt, keeps.count);
      bytes = bytes;
      here = λ past.
          subst (λ (a : ℕ). Grows c a old.whole (weight_at zs place past) mid.whole) (sym (before_less old xs place past lt))
          (subst (λ (y : ℕ). Grows c (weight_at xs place past) old.whole y mid.whole) (sym (here past))
          (grown (weight_at xs place past) old.whole c.num c.whole (weight_at ys place past) mid.whole more (keeps.each place past lt) is));
      others = λ k past less ne. ap (λ (y : ℕ). y * old.whole) (others k past ne) ∙ keeps.each k past less;
      left = keeps.left;
      probable = probable;
      whole = keeps.whole;
      least = keeps.least;
      ways = keeps.ways;
    }

-- A battle is put into the next place.
pub gets_first : (battle : Parts) (c : Chance) (old mid : Tally) (xs ys : List Successor) (x : Successor) (more : ℕ) → KeepsShares old mid xs ys
    → more * c.whole ≡ c.num * mid.whole → old.least * c.whole ≤ c.num * 4294967296 → mid.count < length ys → x.battle ≡ battle → weight_of x ≡ more
    → GetsShare battle c old (record mid { count = mid.count + 1 }) xs (set ys mid.count x)
gets_first battle c old mid xs ys x more keeps is probable inside same weight =
    let new = set ys mid.count x in
    record {
      place = mid.count;
      within = omega arith;
      there = inr (keeps.count, omega (arith, keeps.count));
      bytes = λ past. ap (λ (s : Successor). joined s.battle) (get_or-set_same ys mid.count x past inside) ∙ ap joined same;
      here = λ past.
          let at : weight_at new mid.count past ≡ more = ap weight_of (get_or-set_same ys mid.count x past inside) ∙ weight in
          let none : weight_before old xs mid.count past ≡ 0 = ap (λ (k : ℕ). weight_before old xs k past) keeps.count ∙ before_new old xs past in
          subst (λ (a : ℕ). Grows c a old.whole (weight_at new mid.count past) mid.whole) (sym none)
          (subst (λ (y : ℕ). Grows c 0 old.whole y mid.whole) (sym at) (grown_first old.whole c.num c.whole mid.whole more is));
      others = λ k past less ne. ap (λ (s : Successor). weight_of s * old.whole) (get_or-set_other ys mid.count k x past ne) ∙ keeps.each k past less;
      left = keeps.left;
      probable = probable;
      whole = keeps.whole;
      least = keeps.least;
      ways = keeps.ways;
    }

-- The same of a result: a battle that was found among the first ones, and one that was put into the next place.
pub on_ok_more : (battle : Parts) (c : Chance) (old mid : Tally) (xs ys zs : List Successor) (place more : ℕ) (r : Result (Unit {0}) OutcomesFault)
    → KeepsShares old mid xs ys → more * c.whole ≡ c.num * mid.whole → old.least * c.whole ≤ c.num * 4294967296 → place < length (take mid.count ys)
    → ((past : Successor) → joined (battle_at (take mid.count ys) place past) ≡ joined battle) → AreThose ys zs
    → OnOk r ((past : Successor) → weight_at zs place past ≡ weight_at ys place past + more)
    → ((k : ℕ) (past : Successor) → k ≢ place → get_or zs k past ≡ get_or ys k past) → OnOk r (Adds battle c old mid xs zs)
on_ok_more battle c old mid xs ys zs place more (Ok done) keeps is probable within bytes those here others =
    let less : place < mid.count = omega (arith, within, length-take mid.count ys) in
    inl
    (gets_more battle c old mid xs ys zs place more keeps is probable (omega (arith, less, keeps.count))
    (λ past. ap joined (those place past) ∙ sym (ap (λ (s : Successor). joined s.battle) (get_or-take mid.count ys place past less)) ∙ bytes past)
    here (λ k past ne. ap weight_of (others k past ne)))
on_ok_more battle c old mid xs ys zs place more (Err why) keeps is probable within bytes those here others = tt

pub on_ok_first : (battle : Parts) (c : Chance) (old mid new : Tally) (xs ys zs : List Successor) (x : Successor) (more : ℕ) (r : Result (Unit {0}) OutcomesFault)
    → KeepsShares old mid xs ys → more * c.whole ≡ c.num * mid.whole → old.least * c.whole ≤ c.num * 4294967296 → x.battle ≡ battle → weight_of x ≡ more
    → new.count ≤ length zs → OnOk r (new ≡ record mid { count = mid.count + 1 }) → OnOk r (zs ≡ set ys mid.count x) → OnOk r (Adds battle c old new xs zs)
on_ok_first battle c old mid new xs ys zs x more (Ok done) keeps is probable same weight within counts list =
    let one : new.count ≡ mid.count + 1 = ap (λ (t : Tally). t.count) counts in
    let as_long : length zs ≡ length ys = ap length list ∙ length-set ys mid.count x in
    let inside : mid.count < length ys = omega (arith, one, within, as_long) in
    subst (λ (t : Tally). Adds battle c old t xs zs) (sym counts)
    (subst (λ (l : List Successor). Adds battle c old (record mid { count = mid.count + 1 }) xs l) (sym list)
    (inl (gets_first battle c old mid xs ys x more keeps is probable inside same weight)))
on_ok_first battle c old mid new xs ys zs x more (Err why) keeps is probable same weight within counts list = tt

-- Whether a place is taken, by its number.
abbrev is_taken : ℕ → ℕ
is_taken number = if number == 0 then 0 else 1

taken_one : (number : ℕ) → is_taken (number + 1) ≡ 1
taken_one number = grind arith

-- A free place of a table is taken.
pub takes_one : (old new : Tally) (table : List ℕ) (slot number : ℕ) → slot < length table → slice_index table slot ≡ 0 → new.count ≡ old.count + 1
    → TakesEach old new table (set table slot (number + 1))
takes_one old new table slot number inside free count =
    let sums = sum_by-set is_taken table slot (number + 1) 0 inside in
    let none : is_taken (slice_index table slot) ≡ is_taken 0 = ap is_taken free in
    let one : is_taken (number + 1) ≡ 1 = taken_one number in
    omega (arith, sums, none, one, count)

-- A bound for fewer ways.
more_ways : (a m n l k : ℕ) → k ≡ l → m ≤ n → a ≤ m * l → a ≤ n * k
more_ways a m n l k e le most =
    let over : m * l ≤ n * l = mul-le-mul_right l le in
    subst (λ (x : ℕ). a ≤ n * x) (sym e) (omega (arith, over, most))

-- The same of a result. With a fault nothing is taken.
pub takes_or : (old mid new : Tally) (before table : List ℕ) (slot : ℕ) (r : Result (Unit {0}) OutcomesFault) → mid.count ≡ old.count → slot < length before
    → slice_index before slot ≡ 0 → OnOk r (new ≡ record mid { count = mid.count + 1 }) → OnOk r (table ≡ set before slot (mid.count + 1))
    → OnErr r ((new ≡ mid) × (table ≡ before)) → TakesEach old new before table
takes_or old mid new before table slot (Ok done) same inside free counts put kept =
    let one : new.count ≡ mid.count + 1 = ap (λ (t : Tally). t.count) counts in
    subst (λ (l : List ℕ). TakesEach old new before l) (sym put) (takes_one old new before slot mid.count inside free (omega (arith, one, same)))
takes_or old mid new before table slot (Err why) same inside free counts put kept =
    let count : new.count ≡ old.count = ap (λ (t : Tally). t.count) kept.0 ∙ same in
    subst (λ (l : List ℕ). TakesEach old new before l) (sym kept.1) (omega (arith, count))

-- A list whose outcomes are probable enough, and that leaves out little enough, stays so where a branch is left out and ways are counted.
pub probable_less : (c : Chance) (old new : Tally) (xs ys : List Successor) (ways : ℕ) → 1 ≤ ways → IsLeft c old new xs ys → AreProbable old xs
    → AreProbable (record new { ways = new.ways + ways }) ys
probable_less c old new xs ys ways some left are =
    record {
      whole = left.whole are.whole;
      each = λ k past lt.
          let less : k < old.count = omega (arith, lt, left.count) in
          subst (λ (l : ℕ). l * new.whole ≤ weight_at ys k past * 4294967296) (sym left.least)
          (still_least old.least old.whole (weight_at xs k past) new.whole (weight_at ys k past) 4294967296 are.whole (left.each k past less) (are.each k past less));
      left =
          more_ways (new.left_out * 4294967296) (old.ways + 1) (new.ways + ways) (old.least * new.whole) (new.least * new.whole)
          (ap (λ (l : ℕ). l * new.whole) left.least) (omega (arith, left.ways, some))
          (most_grown old.ways old.least old.left_out old.whole c.num c.whole new.left_out new.whole 4294967296 are.whole c.positive left.left left.below are.left);
    }

-- The same where a battle is added.
pub probable_then : (battle : Parts) (c : Chance) (old new : Tally) (xs ys : List Successor) (ways : ℕ) → 1 ≤ ways → Adds battle c old new xs ys → AreProbable old xs
    → AreProbable (record new { ways = new.ways + ways }) ys
probable_then battle c old new xs ys ways some (inl gets) are =
    let w = old.whole in
    let now = new.whole in
    record {
      whole = gets.whole are.whole;
      each = λ k past lt.
          subst (λ (l : ℕ). l * now ≤ weight_at ys k past * 4294967296) (sym gets.least)
          (elim (same_or k gets.place) [
            | inl e ↦
                least_grown old.least (weight_before old xs k past) w c.num c.whole (weight_at ys k past) now 4294967296 are.whole c.positive
                (subst (λ (j : ℕ). Grows c (weight_before old xs j past) w (weight_at ys j past) now) (sym e) (gets.here past)) gets.probable
            | inr ne ↦
                let less : k < old.count = inside k lt ne in
                still_least old.least w (weight_at xs k past) now (weight_at ys k past) 4294967296 are.whole (gets.others k past less ne) (are.each k past less)
          ]);
      left =
          let most : new.left_out * 4294967296 ≤ old.ways * (old.least * now) =
          still_most old.ways old.least w old.left_out now new.left_out 4294967296 are.whole gets.left are.left
          in
          more_ways (new.left_out * 4294967296) old.ways (new.ways + ways) (old.least * now) (new.least * now) (ap (λ (l : ℕ). l * now) gets.least)
          (omega (arith, gets.ways)) most;
    }
  where
    inside : (k : ℕ) → k < new.count → k ≢ gets.place → k < old.count
    inside k lt ne =
        elim gets.there [
          | inl h ↦ omega (arith, lt, h.1)
          | inr h ↦ omega (arith, lt, ne, h.0, h.1)
        ]
probable_then battle c old new xs ys ways some (inr left) are = probable_less c old new xs ys ways some left are

adds_ways : (battle : Parts) (c : Chance) (old new : Tally) (xs ys : List Successor) → Adds battle c old new xs ys → new.ways ≡ old.ways
adds_ways battle c old new xs ys (inl gets) = gets.ways
adds_ways battle c old new xs ys (inr left) = left.ways

-- One more way is played, added and counted.
pub stay_more : (battle : Parts) (c : Chance) (first old mid new : Tally) (ws xs ys : List Successor) (ways : ℕ) → StayProbable first ws old xs → 1 ≤ ways
    → Adds battle c old mid xs ys → new ≡ record mid { ways = mid.ways + ways } → StayProbable first ws new ys
stay_more battle c first old mid new ws xs ys ways still some adds is are =
    subst (λ (t : Tally). AreProbable t ys) (sym is) (probable_then battle c old mid xs ys ways some adds (still are))

pub counts_more : (battle : Parts) (c : Chance) (first old mid new : Tally) (xs ys : List Successor) (ways : ℕ) → CountsEach ways first old
    → Adds battle c old mid xs ys → new ≡ record mid { ways = mid.ways + ways } → CountsEach ways first new
counts_more battle c first old mid new xs ys ways counted adds is =
    let more : (counted.0 + 1) * ways ≡ counted.0 * ways + ways = add-mul counted.0 1 ways ∙ ap (λ (n : ℕ). counted.0 * ways + n) (omega arith) in
    let same : new.ways ≡ mid.ways + ways = ap (λ (t : Tally). t.ways) is in
    (counted.0 + 1, omega (arith, counted.1, adds_ways battle c old mid xs ys adds, same, more))

-- A branch is left out and its ways are counted.
pub stay_less : (c : Chance) (old mid new : Tally) (xs ys : List Successor) (ways : ℕ) (r : Result (Unit {0}) OutcomesFault) → 1 ≤ ways → IsLeft c old mid xs ys
    → OnOk r (new ≡ record mid { ways = mid.ways + ways }) → OnOk r (StayProbable old xs new ys)
stay_less c old mid new xs ys ways (Ok done) some left is = λ are. subst (λ (t : Tally). AreProbable t ys) (sym is) (probable_less c old mid xs ys ways some left are)
stay_less c old mid new xs ys ways (Err why) some left is = tt

pub stay_then : (a b c : Tally) (xs ys zs : List Successor) → StayProbable a xs b ys → StayProbable b ys c zs → StayProbable a xs c zs
stay_then a b c xs ys zs f g are = g (f are)

pub on_ok_stay : (a b c : Tally) (xs ys zs : List Successor) (r : Result (Unit {0}) OutcomesFault) → StayProbable a xs b ys → OnOk r (StayProbable b ys c zs)
    → OnOk r (StayProbable a xs c zs)
on_ok_stay a b c xs ys zs (Ok done) f g = λ are. g (f are)
on_ok_stay a b c xs ys zs (Err why) f g = tt

-- An empty list.
pub none_probable : (t : Tally) (xs : List Successor) → t.count ≡ 0 → t.whole ≡ 1 → t.left_out ≡ 0 → AreProbable t xs
none_probable t xs count whole left =
    record {
      whole = omega (arith, whole);
      each = λ k past lt. absurd (omega (arith, lt, count));
      left = omega (arith, left);
    }

-- The result of a list.
pub finished_probable : (least : ℕ) (t : Tally) (xs : List Successor) (r : Result Outcomes OutcomesFault) → AreProbable t xs → t.least ≡ least
    → IfOk r (λ o. o.count ≡ t.count) → IfOk r (λ o. o.whole ≡ t.whole) → IfOk r (λ o. EachIsProbable least o xs)
finished_probable least t xs (Ok o) are is count whole = λ k past lt.
    subst (λ (w : ℕ). least * w ≤ weight_at xs k past * 4294967296) (sym whole)
    (subst (λ (l : ℕ). l * t.whole ≤ weight_at xs k past * 4294967296) is (are.each k past (omega (arith, lt, count))))
finished_probable least t xs (Err why) are is count whole = tt

pub finished_left : (least : ℕ) (t : Tally) (xs : List Successor) (r : Result Outcomes OutcomesFault) → AreProbable t xs → t.least ≡ least
    → IfOk r (λ o. o.left_out ≡ t.left_out) → IfOk r (λ o. o.whole ≡ t.whole) → IfOk r (λ o. o.ways ≡ t.ways)
    → IfOk r (λ o. o.left_out * 4294967296 ≤ o.ways * (least * o.whole))
finished_left least t xs (Ok o) are is left whole ways =
    subst (λ (l : ℕ). l * 4294967296 ≤ o.ways * (least * o.whole)) (sym left)
    (subst (λ (n : ℕ). t.left_out * 4294967296 ≤ n * (least * o.whole)) (sym ways)
    (subst (λ (w : ℕ). t.left_out * 4294967296 ≤ t.ways * (least * w)) (sym whole)
    (subst (λ (l : ℕ). t.left_out * 4294967296 ≤ t.ways * (l * t.whole)) is are.left)))
finished_left least t xs (Err why) are is left whole ways = tt

-- What a list leaves out.
pub leaves_then : (a b c : Tally) → LeavesOut a b → LeavesOut b c → LeavesOut a c
leaves_then a b c f g = record { least = g.least ∙ f.least; none = λ l z. g.none (f.least ∙ l) (f.none l z) }

pub on_ok_leaves : (a b c : Tally) (r : Result (Unit {0}) OutcomesFault) → LeavesOut a b → OnOk r (LeavesOut b c) → OnOk r (LeavesOut a c)
on_ok_leaves a b c (Ok done) f g = leaves_then a b c f g
on_ok_leaves a b c (Err fault) f g = tt

-- The result of a list with a least probability of 0.
pub finished_all : (old new : Tally) (r : Result Outcomes OutcomesFault) → LeavesOut old new → old.least ≡ 0 → old.left_out ≡ 0 → IfOk r (λ o. o.left_out ≡ new.left_out)
    → IfOk r (λ o. o.left_out ≡ 0)
finished_all old new (Ok o) f l z e = e ∙ f.none l z
finished_all old new (Err fault) f l z e = tt
