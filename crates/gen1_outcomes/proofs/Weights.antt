-- Weights are probabilities: what adding a battle makes of its part, and what a position adds to a list.
use Rattle.std.proofs.Common.{◌≡◌, ◌≢◌, ◌⊎◌, inl, inr, ℕ, ◌*◌, ◌+◌, ◌<◌, ◌≤◌, Bool, true, false, List, [], ◌∷◌, Option, None, Some, ap, ap₂, arith, if◌then◌else◌, refl, subst, sym, ◌∙◌}
use Rattle.std.proofs.lemmas.Bool.{false≢true}
use Rattle.gen1_rolls.specs.declared.rolls.Look.{Look}
use Rattle.gen1_rolls.specs.Steady.{stream_of}
use Rattle.gen1_rolls.specs.Streams.{Drawn, IsStream, Link, Stream, byte_at, first, span}
use Rattle.gen1_rolls.proofs.First.{first-finds}
use Rattle.gen1_machine.specs.declared.side.Choice.{Choice}
use Rattle.gen1_machine.specs.declared.side.Side.TheVariants.{One}
use Rattle.gen1_machine.specs.declared.terms.Outcome.TheVariants.{Ongoing}
use Rattle.gen1_machine.specs.declared.terms.Request.{Request}
use Rattle.gen1_machine.specs.declared.terms.Request.TheVariants as requests
use Rattle.gen1_machine.specs.Bounds.{CostsAtMost}
use Rattle.gen1_machine.specs.Laws.{Done, Draw, IsShare, IsTreeOf, Search, Tree, drawing_from, leads_to}
use Rattle.gen1_machine.specs.Progress.{Phase, Progress}
use Rattle.gen1_machine.specs.Ruling.{Ruling, ruling_of}
use Rattle.gen1_machine.specs.State.{Field, State}
use Rattle.gen1_machine.specs.Step.{Stepped, accepted, close_update, opened, update, update_for}
use Rattle.gen1_machine.specs.SwitchingIn.{replace, start}
use Rattle.gen1_machine.proofs.Costs.{more}
use Rattle.gen1_machine.proofs.TreeWalk.{close_update-tree, ruling-tree, update_for-tree}
use Rattle.gen1_machine.proofs.Trees.{HasTree}
use Rattle.gen1_machine.proofs.TurnCosts.{anywhere, end-spends, replace-costs, start-costs}
use Rattle.gen1_engine.proofs.Making.{both_move, goes_on}
use Rattle.gen1_switching.proofs.Stepped.{step_accepts}
use Rattle.gen1_layout.specs.Parts.{Parts, SideParts, joined}
use Rattle.gen1_layout.specs.Shows.{blocks_of, setting_of, state_in}
use Rattle.gen1_outcomes.specs.declared.beginning.Left.{Left}
use Rattle.gen1_outcomes.specs.declared.byte_set.ByteSet.{ByteSet}
use Rattle.gen1_outcomes.specs.declared.log.Entry.{Entry}
use Rattle.gen1_outcomes.specs.declared.log.Entry.TheVariants.{Draw, Found, Missed}
use Rattle.gen1_outcomes.specs.declared.merging.Tally.{Tally}
use Rattle.gen1_outcomes.specs.declared.middles.Middle.{Middle}
use Rattle.gen1_outcomes.specs.declared.nodes.Asked.{Asked}
use Rattle.gen1_outcomes.specs.declared.nodes.Asked.TheVariants.{First, Next}
use Rattle.gen1_outcomes.specs.declared.nodes.Chance.{Chance}
use Rattle.gen1_outcomes.specs.declared.nodes.Nodes.{Nodes}
use Rattle.gen1_outcomes.specs.declared.successor.OutcomeOptions.{OutcomeOptions}
use Rattle.gen1_outcomes.specs.declared.successor.Successor.{Successor}
use Rattle.gen1_outcomes.specs.Complete.{GoesBy, IsExact, Offers, place_before}
use Rattle.gen1_outcomes.specs.Plain.{Walk, turn_on}
use Rattle.gen1_outcomes.specs.Listing.{KeepsFirst, battle_at}
use Rattle.gen1_outcomes.specs.Logs.{Agrees, AllFit, NotesAll, NotesEntry}
use Rattle.gen1_outcomes.specs.Middles.{AreDistinct, IsIndexed, PlaysFrom, PlaysOn}
use Rattle.gen1_outcomes.specs.Nodes.{AllDone, IsChance, LeadsOn, Notes, Passes, asked_at, script_of, scripted}
use Rattle.gen1_outcomes.specs.Weights.{Adds, GetsShare, weight_at, weight_before, AddsPart, AddsUpdate, AreEqual, Fraction, HasPart, IsNoPart, IsTestOf, IsTreeFrom, Tells, are_of, nothing, of_chance, plus, times, unit}
use Rattle.gen1_outcomes.proofs.Complete.{AreKnown, all_noted}
use Rattle.gen1_outcomes.proofs.Fractions.{equal-refl, equal-sym, equal-trans, grows-plus, plus-assoc, plus-equal, plus-nothing, same-equal, times-assoc, times-equal, times-nothing, times-plus, times-positive, times-unit, no_parts, plus-positive}
use Rattle.gen1_outcomes.proofs.Lists.{same_or}
use Rattle.gen1_outcomes.proofs.Shares.{before_less, before_new}
use Rattle.gen1_outcomes.proofs.Exchange.{shares_by_tests}
use Rattle.gen1_outcomes.proofs.Walking.{some_node}
use Rattle.gen1_outcomes.proofs.Weighing.{IsSpent, IsWeighed, LeadsRight, spent, weighed_all, weighed_first, weighed_next, weighed_way}

-- Parts of a list's weights

-- Equal fractions are the same part.
pub part_as : (battle : Parts) (t : Tally) (xs : List Successor) (x y : Fraction) → AreEqual x y → HasPart battle t xs x → HasPart battle t xs y
part_as battle t xs x y e has =
    record {
      some = has.some;
      part = elim has.part [
        | inl there ↦
            inl (record {
              place = there.place;
              within = there.within;
              bytes = there.bytes;
              part = λ past. equal-trans (equal-sym e) (there.part past);
            })
        | inr none ↦ inr (record { absent = none.absent; nothing = equal-trans (equal-sym e) none.nothing })
      ];
    }

-- A part has a denominator.
some_successor : Successor
some_successor =
    let side : SideParts = record { members = []; active = [] } in
    record { battle = record { header = []; one = side; two = side }; low = 0; high = 0 }

pub part_positive : (battle : Parts) (t : Tally) (xs : List Successor) (x : Fraction) → HasPart battle t xs x → 0 < x.whole
part_positive battle t xs x has =
    elim has.part [
      | inl there ↦ (there.part some_successor).one
      | inr none ↦ none.nothing.one
    ]

-- How many ways were counted changes no part.
part_counted : (battle : Parts) (t new : Tally) (xs : List Successor) (x : Fraction) (ways : ℕ) → new ≡ record t { ways = ways } → HasPart battle t xs x → HasPart battle new xs x
part_counted battle t new xs x ways is has =
    subst (λ (u : Tally). HasPart battle u xs x) (sym is) (record {
      some = has.some;
      part = elim has.part [
        | inl there ↦ inl (record { place = there.place; within = there.within; bytes = there.bytes; part = there.part })
        | inr none ↦ inr (record { absent = none.absent; nothing = none.nothing })
      ];
    })

-- A battle gets a probability. Its part grows by it.
part_there : (battle parts : Parts) (c : Chance) (old new : Tally) (xs ys : List Successor) (x : Fraction) (gets : GetsShare parts c old new xs ys)
    → KeepsFirst old.count xs ys → AreDistinct new.count ys → joined parts ≡ joined battle → HasPart battle old xs x → HasPart battle new ys (plus x (of_chance c))
part_there battle parts c old new xs ys x gets keeps distinct same has =
    record {
      some = gets.whole has.some;
      part =
          inl (record {
            place = gets.place;
            within = gets.within;
            bytes = λ past. gets.bytes past ∙ same;
            part = λ past.
                equal-trans (plus-equal (before past) (equal-refl (of_chance c) c.positive))
                (equal-sym (grows-plus c (weight_before old xs gets.place past) old.whole (weight_at ys gets.place past) new.whole has.some (gets.whole has.some) (gets.here past)));
          });
    }
  where
    -- Two places with its bytes are one.
    apart : (place : ℕ) → place < old.count → ((past : Successor) → joined (battle_at ys place past) ≡ joined battle) → place ≢ gets.place → ⊥
    apart place lt bytes other = by (order place gets.place)
      where
        order : (m n : ℕ) → (m < n) ⊎ (n < m) ⊎ (m ≡ n)
        order m n = grind arith

        inside : place < new.count
        inside = elim gets.there [
          | inl there ↦ omega (arith, there.1, lt)
          | inr next ↦ omega (arith, next.1, lt)
        ]

        by : (place < gets.place) ⊎ (gets.place < place) ⊎ (place ≡ gets.place) → ⊥
        by (inl less) = distinct place gets.place some_successor less gets.within (bytes some_successor ∙ sym (gets.bytes some_successor ∙ same))
        by (inr (inl more)) = distinct gets.place place some_successor more inside (gets.bytes some_successor ∙ same ∙ sym (bytes some_successor))
        by (inr (inr e)) = other e

    -- Its part is its weight from before.
    at : (past : Successor) → (place : ℕ) → place ≡ gets.place → place < old.count → AreEqual x (record { num = weight_at xs place past; whole = old.whole })
        → AreEqual x (record { num = weight_before old xs gets.place past; whole = old.whole })
    at past place e lt is =
        subst (λ (n : ℕ). AreEqual x (record { num = n; whole = old.whole }))
        (sym (ap (λ (k : ℕ). weight_before old xs k past) (sym e) ∙ before_less old xs place past lt)) is

    before : (past : Successor) → AreEqual x (record { num = weight_before old xs gets.place past; whole = old.whole })
    before past =
        elim has.part [
          | inl there ↦
              elim (same_or there.place gets.place) [
                | inl e ↦ at past there.place e there.within (there.part past)
                | inr other ↦ absurd (apart there.place there.within (λ p. ap joined (keeps there.place p there.within) ∙ there.bytes p) other)
              ]
          | inr none ↦
              elim gets.there [
                | inl inside ↦ absurd (none.absent gets.place past inside.0 (sym (ap joined (keeps gets.place past inside.0)) ∙ gets.bytes past ∙ same))
                | inr next ↦
                    let zero_before : weight_before old xs gets.place past ≡ 0 = ap (λ (k : ℕ). weight_before old xs k past) next.0 ∙ before_new old xs past in
                    subst (λ (n : ℕ). AreEqual x (record { num = n; whole = old.whole })) (sym zero_before) (equal-trans none.nothing (equal-sym (no_parts old.whole has.some)))
              ]
        ]

-- The part of another battle stays.
part_other : (battle parts : Parts) (c : Chance) (old new : Tally) (xs ys : List Successor) (x : Fraction) (gets : GetsShare parts c old new xs ys)
    → KeepsFirst old.count xs ys → joined parts ≢ joined battle → HasPart battle old xs x → HasPart battle new ys x
part_other battle parts c old new xs ys x gets keeps differ has =
    record {
      some = gets.whole has.some;
      part = elim has.part [
        | inl there ↦
            let other : there.place ≢ gets.place = λ e. differ (sym (gets.bytes some_successor) ∙ sym (ap (λ (k : ℕ). joined (battle_at ys k some_successor)) e)
            ∙ ap joined (keeps there.place some_successor there.within) ∙ there.bytes some_successor)
            in
            inl (record {
              place = there.place;
              within = inside there.place there.within;
              bytes = λ past. ap joined (keeps there.place past there.within) ∙ there.bytes past;
              part = λ past.
                  equal-trans (there.part past)
                  (equal-sym (same-equal (weight_at xs there.place past) old.whole (weight_at ys there.place past) new.whole has.some (gets.whole has.some)
                  (gets.others there.place past there.within other)));
            })
        | inr none ↦ inr (record { absent = λ k past lt. absent none k past lt; nothing = none.nothing })
      ];
    }
  where
    inside : (place : ℕ) → place < old.count → place < new.count
    inside place lt = elim gets.there [
      | inl there ↦ omega (arith, there.1, lt)
      | inr next ↦ omega (arith, next.1, lt)
    ]

    absent : IsNoPart battle old xs x → (k : ℕ) → (past : Successor) → k < new.count → joined (battle_at ys k past) ≢ joined battle
    absent none k past lt same =
        elim (same_or k gets.place) [
          | inl e ↦ differ (sym (gets.bytes past) ∙ ap (λ (j : ℕ). joined (battle_at ys j past)) (sym e) ∙ same)
          | inr ne ↦
              let less : k < old.count = elim gets.there [
                | inl there ↦ omega (arith, there.1, lt)
                | inr next ↦ omega (arith, next.0, next.1, lt, ne)
              ]
              in
              none.absent k past less (sym (ap joined (keeps k past less)) ∙ same)
        ]

-- Nothing is left out where the least probability is 0.
pub gets_share : (parts : Parts) (c : Chance) (old new : Tally) (xs ys : List Successor) → old.least ≡ 0 → Adds parts c old new xs ys → GetsShare parts c old new xs ys
gets_share parts c old new xs ys least (inl gets) = gets
gets_share parts c old new xs ys least (inr left) = let below = left.below in absurd (omega (arith, below, ap (λ (n : ℕ). n * c.whole) least))

-- The probability before the draws stays on a way.

since_passed : (b : ℕ) (asked : Asked) (look : Look) (old new : Nodes) → Passes b asked look old new → new.before ≡ old.before
since_passed b asked look old new passes =
    elim passes.past [
      | inl same ↦ ap (λ (x : Nodes). x.before) same.1
      | inr other ↦ ap (λ (x : Nodes). x.before) other
    ]

since_noted : (b : ℕ) (asked : Asked) (look : Look) (may : ByteSet) (old new : Nodes) → Notes b asked look may old new → new.before ≡ old.before
since_noted b asked look may old new (inl adds) = adds.since
since_noted b asked look may old new (inr (inl same)) = ap (λ (x : Nodes). x.before) same.0
since_noted b asked look may old new (inr (inr marked)) = marked.before

since_entry : (e : Entry) (old new : Nodes) → NotesEntry e old new → new.before ≡ old.before
since_entry (Draw look b) old new notes =
    elim notes [
      | inl passes ↦ since_passed b Next look old new passes
      | inr adds ↦ since_noted b Next look adds.0 old new adds.2.noted
    ]
since_entry (Found test look b) old new notes =
    elim notes.2 [
      | inl passes ↦ since_passed b (First test) look old new passes
      | inr adds ↦ since_noted b (First test) look adds.0 old new adds.2.noted
    ]
since_entry (Missed test) old new marks = ap (λ (x : Nodes). x.before) marks

pub since_all : (es : List Entry) (old new : Nodes) → NotesAll es old new → new.before ≡ old.before
since_all [] old new same = ap (λ (x : Nodes). x.before) same
since_all (e ∷ es) old new all = since_all es all.0 new all.2 ∙ since_entry e old all.0 all.1

-- Walks from a position

-- What streams from a position hit: the fields that pass, where this tree leads.
abbrev pub hits_of : (Field → Bool) → Tree → Stream → Bool
hits_of passes tree stream = passes (leads_to tree stream 0).field

-- The fields that are weighed: those that pass, or those whose bytes are the battle's.
abbrev pub Weighs : Type 0
Weighs = State → Parts → (Field → Bool) → Field → Bool

abbrev pub by_test : Weighs
by_test s battle passes = passes

abbrev pub by_bytes : Weighs
by_bytes s battle passes = are_of s battle

-- The trees whose fields they are: those of what follows from a position, or of what is played from there.
abbrev pub Trees : Type 1
Trees = State → Choice → Choice → List ℕ → Option Left → (Field → Bool) → Parts → Tree → Type 0

abbrev pub IsTreePlayed : Trees
IsTreePlayed s one two bytes rest passes battle tree =
    (stream : Stream) → IsStream stream → (parts : Parts) → PlaysFrom s one two bytes rest stream parts → Tells passes battle tree stream parts

-- Before a way: where a list had this part of a battle, it has what was weighed so far besides.
abbrev pub IsWeighedFrom : Weighs → Trees → Walk → Middle → State → Tally → List Successor → Nodes → Tally → List Successor → Type 0
IsWeighedFrom by of w middle s old xs nodes new ys =
    (battle : Parts) → (passes : Field → Bool) → (tree : Tree) → of s w.one w.two middle.bytes middle.rest passes battle tree
    → (x : Fraction) → HasPart battle old xs x
    → (z : Fraction) × IsWeighed (Unit {0}) (hits_of passes tree) (by s battle passes) nodes z × HasPart battle new ys (plus x (times (of_chance middle.chance) z))

-- After it.
abbrev pub IsSpentFrom : Weighs → Trees → Walk → Middle → State → Tally → List Successor → Nodes → Tally → List Successor → Type 0
IsSpentFrom by of w middle s old xs nodes new ys =
    (battle : Parts) → (passes : Field → Bool) → (tree : Tree) → of s w.one w.two middle.bytes middle.rest passes battle tree
    → (x : Fraction) → HasPart battle old xs x
    → (z : Fraction) × IsSpent (Unit {0}) (hits_of passes tree) (by s battle passes) nodes z × HasPart battle new ys (plus x (times (of_chance middle.chance) z))

pub weighed_from : (by : Weighs) (of : Trees) (w : Walk) (middle : Middle) (s : State) (t : Tally) (xs : List Successor) (nodes : Nodes) → nodes.len ≡ 0
    → IsWeighedFrom by of w middle s t xs nodes t xs
weighed_from by of w middle s t xs nodes empty battle passes tree is x has =
    let some = part_positive battle t xs x has in
    let c = of_chance middle.chance in
    let same : AreEqual x (plus x (times c nothing)) =
    equal-sym (equal-trans (plus-equal (equal-refl x some) (times-nothing c middle.chance.positive)) (plus-nothing x some))
    in
    (nothing, weighed_first (Unit {0}) (hits_of passes tree) (by s battle passes) nodes empty, part_as battle t xs x (plus x (times c nothing)) same has)

-- A way from there is played and added.

zero_or_more : (n : ℕ) → (n ≡ 0) ⊎ (0 < n)
zero_or_more n = grind arith

pub right_positive : (a b : ℕ) → 0 < a * b → 0 < b
right_positive a b some = elim (zero_or_more b) [
  | inl none ↦ absurd (omega (arith, some, ap (λ (n : ℕ). a * n) none))
  | inr is ↦ is
]

left_positive : (a b : ℕ) → 0 < a * b → 0 < a
left_positive a b some = right_positive b a (omega (arith, some))

pub same_told : (P : Type 0) (b c : Bool) → (P → b ≡ true) → (b ≡ true → P) → (P → c ≡ true) → (c ≡ true → P) → b ≡ c
same_told P true c one first other last = sym (other (first refl))
same_told P false true one first other last = one (last refl)
same_told P false false one first other last = refl

-- A leaf leads to its field, and that is all of its share or none.
leads-done : (passes : Field → Bool) (q : Progress) (stream : Stream) (n : ℕ) → passes (leads_to (Done q) stream n).field ≡ passes q.field
unfolding leads_to
leads-done passes q stream n = refl

share-done : (passes : Field → Bool) (q : Progress) → IsShare (Done q) passes 1 (if passes q.field then 1 else 0)
unfolding IsShare
share-done passes q = refl

-- The part of a battle and what was weighed, with the share y of one more way that has the probability c, with all of it, or without.
pub grown_times : (x m z π c y : Fraction) → 0 < x.whole → 0 < z.whole → 0 < y.whole → AreEqual c (times m π)
    → AreEqual (plus (plus x (times m z)) (times c y)) (plus x (times m (plus z (times π y))))
grown_times x m z π c y first some share e =
    let one : 0 < m.whole = left_positive m.whole π.whole e.other in
    let last : 0 < π.whole = right_positive m.whole π.whole e.other in
    let mz : 0 < m.whole * z.whole = times-positive m z one some in
    let πy : 0 < π.whole * y.whole = times-positive π y last share in
    let moved : AreEqual (times c y) (times m (times π y)) = equal-trans (times-equal e (equal-refl y share)) (times-assoc m π y one last share) in
    equal-trans (plus-equal (equal-refl (plus x (times m z)) (plus-positive x (times m z) first mz)) moved)
    (equal-trans (plus-assoc x (times m z) (times m (times π y)) first mz moved.other)
    (plus-equal (equal-refl x first) (equal-sym (times-plus m z (times π y) one some πy))))

grown_by : (x m z π c : Fraction) → 0 < x.whole → 0 < z.whole → AreEqual c (times m π) → AreEqual (plus (plus x (times m z)) c) (plus x (times m (plus z (times π unit))))
grown_by x m z π c first some e =
    let one : 0 < m.whole = left_positive m.whole π.whole e.other in
    let mz : 0 < m.whole * z.whole = times-positive m z one some in
    equal-trans
    (plus-equal (equal-refl (plus x (times m z)) (plus-positive x (times m z) first mz)) (equal-sym (times-unit c e.one)))
    (grown_times x m z π c unit first some (omega arith) e)

grown_none : (x m z π : Fraction) → 0 < x.whole → 0 < m.whole → 0 < z.whole → 0 < π.whole → AreEqual (plus x (times m z)) (plus x (times m (plus z (times π nothing))))
grown_none x m z π first one some last =
    plus-equal (equal-refl x first)
    (times-equal (equal-refl m one) (equal-sym (equal-trans (plus-equal (equal-refl z some) (times-nothing π last)) (plus-nothing z some))))

pub spent_from : (w : Walk) (middle : Middle) (s : State) (first : Tally) (ws : List Successor) (nodes after : Nodes) (parts : Parts) (c : Chance) (old mid new : Tally)
    (xs ys : List Successor) (ways : ℕ) → IsExact w.options → nodes.options ≡ w.options → after.too_large ≡ false → nodes.at ≡ 0 → AreKnown nodes
    → nodes.before ≡ middle.chance → (plays : PlaysOn w middle nodes after parts) → IsChance after c → Offers w s → GetsShare parts c old mid xs ys
    → KeepsFirst old.count xs ys → AreDistinct mid.count ys → new ≡ record mid { ways = ways } → IsWeighedFrom by_test IsTreePlayed w middle s first ws nodes old xs
    → IsSpentFrom by_test IsTreePlayed w middle s first ws after new ys
spent_from w middle s first ws nodes after parts c old mid new xs ys ways exact options fits at known before plays chance of gets keeps distinct counted weighed battle passes tree is x has =
    let exactly : IsExact nodes.options = subst (λ (o : OutcomeOptions). IsExact o) (sym options) exact in
    let log = plays.way.log in
    let own = plays.way.own in
    let start = stream_of scripted (script_of plays.path) in
    let follows : (stream : Stream) → Agrees log stream → PlaysFrom s w.one w.two middle.bytes middle.rest stream parts = plays.played s of.stands of.offered in
    let noted =
    all_noted log nodes after known (omega (arith, at)) exactly fits plays.way.noted
    in
    let agrees : (stream : Stream) → IsStream stream → GoesBy after stream → Agrees log stream =
    λ stream so goes. record { is = so; fit = subst (λ (k : ℕ). AllFit log stream (place_before (asked_at after) stream k)) at (noted.fits stream so some_node goes) }
    in
    let here = is start own.is parts (follows start own) in
    let q = leads_to tree start 0 in
    let hits = hits_of passes tree in
    let right : LeadsRight (Unit {0}) hits passes after (Done q) =
    λ u stream so goes.
    let there = is stream so parts (follows stream (agrees stream so goes)) in
    leads-done passes q stream (place_before (asked_at after) stream after.len)
    ∙ same_told (joined parts ≡ joined battle) (passes q.field) (hits stream) here.passed here.of there.passed there.of
    in
    let now = weighed battle passes tree is x has in
    let z = now.0 in
    let m = of_chance middle.chance in
    let sum = spent (Unit {0}) hits passes after z c (Done q) 1 (if passes q.field then 1 else 0)
    (weighed_way (Unit {0}) hits passes (script_of plays.path) nodes after z plays.way exactly fits at known now.1) chance (omega arith) (share-done passes q) right
    in
    let π = sum.0 in
    let since : after.before ≡ middle.chance = since_all log nodes after plays.way.noted ∙ before in
    let part : AreEqual (of_chance c) (times m π) = subst (λ (a : Chance). AreEqual (of_chance c) (times (of_chance a) π)) since sum.1 in
    let some : 0 < x.whole = part_positive battle first ws x has in
    let both : 0 < x.whole * (m.whole * z.whole) = part_positive battle old xs (plus x (times m z)) now.2 in
    let so_far : 0 < z.whole = right_positive m.whole z.whole (right_positive x.whole (m.whole * z.whole) both) in
    let last : 0 < π.whole = right_positive m.whole π.whole part.other in
    let by : (b : Bool) → passes q.field ≡ b → HasPart battle mid ys (plus x (times m (plus z (times π (record { num = if b then 1 else 0; whole = 1 }))))) =
    λ b.
    elim b as (λ (k : Bool). passes q.field ≡ k → HasPart battle mid ys (plus x (times m (plus z (times π (record { num = if k then 1 else 0; whole = 1 })))))) [
      | true ↦ λ e.
          part_as battle mid ys (plus (plus x (times m z)) (of_chance c)) (plus x (times m (plus z (times π unit)))) (grown_by x m z π (of_chance c) some so_far part)
          (part_there battle parts c old mid xs ys (plus x (times m z)) gets keeps distinct (here.of e) now.2)
      | false ↦ λ e.
          part_as battle mid ys (plus x (times m z)) (plus x (times m (plus z (times π nothing)))) (grown_none x m z π some middle.chance.positive so_far last)
          (part_other battle parts c old mid xs ys (plus x (times m z)) gets keeps (λ same. false≢true (sym e ∙ here.passed same)) now.2)
    ]
    in (
      plus z (times π (record { num = if passes q.field then 1 else 0; whole = 1 })),
      sum.2,
      part_counted battle mid new ys (plus x (times m (plus z (times π (record { num = if passes q.field then 1 else 0; whole = 1 }))))) ways counted (by (passes q.field) refl),
    )

-- A way of a walk keeps the probability before its draws.
pub since_plays : (w : Walk) (middle : Middle) (nodes after : Nodes) (parts : Parts) → PlaysOn w middle nodes after parts → nodes.before ≡ middle.chance
    → after.before ≡ middle.chance
since_plays w middle nodes after parts plays before =
    since_all plays.way.log nodes after plays.way.noted ∙ before

pub spent_more : (w : Walk) (middle : Middle) (nodes after : Nodes) (parts : Parts) (c : Chance) (first old mid new : Tally) (ws xs ys : List Successor) (table : List ℕ)
    → IsExact w.options → first.least ≡ 0 → old.least ≡ first.least → nodes.options ≡ w.options → after.too_large ≡ false → nodes.before ≡ middle.chance
    → PlaysOn w middle nodes after parts → IsChance after c → Adds parts c old mid xs ys → KeepsFirst old.count xs ys → IsIndexed table mid.count ys
    → new ≡ record mid { ways = mid.ways + middle.ways } → nodes.at ≡ 0 → AreKnown nodes → (s : State) → Offers w s
    → IsWeighedFrom by_test IsTreePlayed w middle s first ws nodes old xs → IsSpentFrom by_test IsTreePlayed w middle s first ws after new ys
spent_more w middle nodes after parts c first old mid new ws xs ys table exact least stays options fits before plays chance adds keeps are counted at known s of weighed =
    spent_from w middle s first ws nodes after parts c old mid new xs ys (mid.ways + middle.ways) exact options fits at known before plays chance of
    (gets_share parts c old mid xs ys (stays ∙ least) adds) keeps are.distinct counted weighed

-- The next way.
pub weighed_on : (by : Weighs) (of : Trees) (w : Walk) (middle : Middle) (s : State) (first : Tally) (ws : List Successor) (old next : Nodes) (t : Tally) (xs : List Successor)
    → LeadsOn old next → IsSpentFrom by of w middle s first ws old t xs → IsWeighedFrom by of w middle s first ws next t xs
weighed_on by of w middle s first ws old next t xs leads sums battle passes tree is x has =
    let now = sums battle passes tree is x has in
    (now.0, weighed_next (Unit {0}) (hits_of passes tree) (by s battle passes) old next now.0 leads now.1, now.2)

-- All ways were gone through. (With the trees of what follows this is `AddsPart` of specs/Weights.antt.)
abbrev pub AddsPartOf : Trees → Walk → Middle → State → Tally → List Successor → Tally → List Successor → Type 0
AddsPartOf of w middle s old xs new ys =
    (battle : Parts) → (passes : Field → Bool) → (tree : Tree) → of s w.one w.two middle.bytes middle.rest passes battle tree
    → (whole share : ℕ) → 0 < whole → IsShare tree passes whole share
    → (x : Fraction) → HasPart battle old xs x → HasPart battle new ys (plus x (times (of_chance middle.chance) (record { num = share; whole = whole })))

pub adds_part : (by : Weighs) (of : Trees) (w : Walk) (middle : Middle) (s : State) (first : Tally) (ws : List Successor) (nodes : Nodes) (t : Tally) (xs : List Successor)
    → AllDone nodes → IsSpentFrom by of w middle s first ws nodes t xs → AddsPartOf of w middle s first ws t xs
adds_part by of w middle s first ws nodes t xs done sums battle passes tree is whole share some part x has =
    let now = sums battle passes tree is x has in
    let all = weighed_all (Unit {0}) (hits_of passes tree) (by s battle passes) nodes now.0 done now.1 in
    let cross : all.share * whole ≡ share * all.whole =
    shares_by_tests all.tree tree (by s battle passes) passes all.whole all.share whole share (λ stream of. all.leads tt stream of) all.is part
    in
    let same : AreEqual now.0 (record { num = share; whole = whole }) = equal-trans all.equal (record { one = all.some; other = some; cross = cross }) in
    let c = of_chance middle.chance in
    part_as battle t xs (plus x (times c now.0)) (plus x (times c (record { num = share; whole = whole })))
    (plus-equal (equal-refl x (part_positive battle first ws x has)) (times-equal (equal-refl c middle.chance.positive) same)) now.2

-- From the beginning of an update

-- A tree that draws nothing is done.
drawn_on : (t : Tree) (s : Stream) → 0 < span s → (n : ℕ) → n ≤ (leads_to t s n).drawn
unfolding leads_to
drawn_on (Done left) s some n = omega arith
drawn_on (Draw next) s some n = let rest = drawn_on (next (byte_at s n)) s some (n + 1) in omega (arith, rest)
drawn_on (Search test found none) s some n = by (first s n test) refl (λ m. drawn_on (found (byte_at s m)) s some (m + 1)) (drawn_on none s some (n + span s))
  where
    by : (o : Option ℕ) → first s n test ≡ o → ((m : ℕ) → m + 1 ≤ (leads_to (found (byte_at s m)) s (m + 1)).drawn) → n + span s ≤ (leads_to none s (n + span s)).drawn
        → n ≤ (elim o as (λ _. Progress) [ Some m ↦ leads_to (found (byte_at s m)) s (m + 1) | None ↦ leads_to none s (n + span s) ]).drawn
    by (Some m) e found_on none_on = omega (arith, (first-finds s n test m e).from, found_on m)
    by None e found_on none_on = omega (arith, none_on)

is_done : (t : Tree) (s : Stream) → 0 < span s → (n : ℕ) → (leads_to t s n).drawn ≡ n → (left : Progress) × (t ≡ Done left)
unfolding leads_to
is_done (Done left) s some n e = (left, refl)
is_done (Draw next) s some n e = absurd (let rest = drawn_on (next (byte_at s n)) s some (n + 1) in omega (arith, rest, e))
is_done (Search test found none) s some n e = absurd (by (first s n test) refl e)
  where
    by : (o : Option ℕ) → first s n test ≡ o
        → (elim o as (λ _. Progress) [ Some m ↦ leads_to (found (byte_at s m)) s (m + 1) | None ↦ leads_to none s (n + span s) ]).drawn ≡ n → ⊥
    by (Some m) is e =
        let from = (first-finds s n test m is).from in
        let rest = drawn_on (found (byte_at s m)) s some (m + 1) in
        omega (arith, from, rest, e)
    by None is e = let rest = drawn_on none s some (n + span s) in omega (arith, rest, e, some)

-- A phase that draws nothing from some battle, with any stream and from any place in it.
abbrev StaysAt : Phase → Progress → Type 0
StaysAt f p = (left : Progress) × ((stream : Stream) (n : ℕ) → f (drawing_from stream n p) ≡ drawing_from stream n left)

stays_at : (f : Phase) → HasTree f → (events bytes : ℕ) → CostsAtMost 0 events bytes f → (p : Progress) → p.stopped ≡ false → StaysAt f p
unfolding leads_to
stays_at f has events bytes costs p going =
    let stream : Stream = Drawn (λ i. 0) 1 in
    let spends = costs (drawing_from stream 0 p) going (omega arith) in
    let still : (f (drawing_from stream 0 p)).drawn ≡ 0 = let most = spends.drawn in omega (arith, most) in
    let done = is_done (has.tree p) stream (omega arith) 0 (sym (ap (λ (q : Progress). q.drawn) (has.leads p stream 0)) ∙ still) in
    (done.0, λ s n. has.leads p s n ∙ ap (λ (t : Tree). leads_to t s n) done.1)

-- An update in which nobody acts.
quiet_costs : (r : Ruling) (a b : Request) (one two : Choice) → a ≢ requests.Move → CostsAtMost 0 2 20 (update_for r a b one two)
unfolding update_for
quiet_costs r requests.Move b one two acts = absurd (acts refl)
quiet_costs r requests.Switch b one two acts = anywhere 0 2 20 (replace one two) (λ limit five. more (replace-costs one two) refl)
quiet_costs r requests.Pass requests.Move one two acts = anywhere 0 2 20 (replace one two) (λ limit five. more (replace-costs one two) refl)
quiet_costs r requests.Pass requests.Switch one two acts = anywhere 0 2 20 (replace one two) (λ limit five. more (replace-costs one two) refl)
quiet_costs r requests.Pass requests.Pass one two acts = anywhere 0 2 20 start (λ limit five. more start-costs refl)

closes_again : (r : Ruling) (p : Progress) → close_update r p ≡ close_update r (record p { stopped = false })
unfolding close_update
closes_again r p = refl

quiet_update : (s : State) (one two : Choice) → s.field.request_one ≢ requests.Move → StaysAt (update (ruling_of s.terms) one two) (opened s)
unfolding update
quiet_update s one two acts =
    let r = ruling_of s.terms in
    let a = s.field.request_one in
    let b = s.field.request_two in
    let first = stays_at (update_for r a b one two) (update_for-tree r a b one two (ruling-tree s.terms)) 2 20 (quiet_costs r a b one two acts) (opened s) refl in
    let last = stays_at (close_update r) (close_update-tree r (ruling-tree s.terms)) 3 9 (end-spends r) (record first.0 { stopped = false }) refl in (
      last.0,
      λ stream n. ap (close_update r) (first.1 stream n) ∙ closes_again r (drawing_from stream n first.0) ∙ last.1 stream n,
    )

-- What follows from the beginning passes a test of a battle exactly if it is the battle.
pub tells_of : (s : State) (battle parts : Parts) (passes : Field → Bool) (tree : Tree) (stream : Stream) (f : Field) → IsTestOf s battle passes
    → f ≡ (leads_to tree stream 0).field → joined (blocks_of (state_in (setting_of s) f)) ≡ joined parts → Tells passes battle tree stream parts
tells_of s battle parts passes tree stream f test leads bytes =
    record {
      passed = λ same. sym (ap passes leads) ∙ test.passed f (bytes ∙ same);
      of = λ is. sym bytes ∙ test.of f (ap passes leads ∙ is);
    }

turn_is : (s : State) (one two : Choice) (stream : Stream) → (s.field.request_one ≡ requests.Move) × (s.field.request_two ≡ requests.Move)
    → update (ruling_of s.terms) one two (drawing_from stream 0 (opened s)) ≡ turn_on s one two stream 0
unfolding update update_for
turn_is s one two stream both =
    let r = ruling_of s.terms in
    ap₂ (λ (a b : Request). close_update r (update_for r a b one two (drawing_from stream 0 (opened s)))) both.0 both.1

pub update_tells : (w : Walk) (s : State) → Offers w s → (battle : Parts) (passes : Field → Bool) → IsTestOf s battle passes
    → (tree : Tree) → IsTreeOf s.terms w.one w.two (opened s) tree → (bytes : List ℕ) → IsTreeFrom s w.one w.two bytes None passes battle tree
update_tells w s of battle passes test tree is bytes stream so parts follows = by s.field.request_one refl
  where
    r : Ruling
    r = ruling_of s.terms

    begun : Progress
    begun = drawing_from stream 0 (opened s)

    going : s.field.outcome ≡ Ongoing
    going = goes_on s One w.one of.offered.first

    by_turn : s.field.request_one ≡ requests.Move → Tells passes battle tree stream parts
    by_turn asked =
        tells_of s battle parts passes tree stream (turn_on s w.one w.two stream 0).field test
        (ap (λ (q : Progress). q.field) (sym (turn_is s w.one w.two stream (both_move s of.stands.valid going (inl asked))) ∙ is stream 0))
        (sym (ap joined (follows.by_turn asked).within.same))

    by_step : s.field.request_one ≢ requests.Move → Tells passes battle tree stream parts
    by_step apart =
        let quiet = quiet_update s w.one w.two apart in
        let steps = follows.by_step apart in
        let accepts = step_accepts s w.one w.two going of.offered.first of.offered.second in
        let now : update r w.one w.two (opened s) ≡ drawing_from (Link s.seed) s.drawn quiet.0 = quiet.1 (Link s.seed) s.drawn in
        let same : parts ≡ blocks_of (state_in (setting_of s) quiet.0.field) =
        steps.stands.same ∙ ap (λ (x : Stepped). blocks_of x.state) accepts ∙ ap (λ (q : Progress). blocks_of (accepted s q).state) now
        in
        tells_of s battle parts passes tree stream quiet.0.field test (ap (λ (q : Progress). q.field) (sym (quiet.1 stream 0) ∙ is stream 0)) (sym (ap joined same))

    by : (a : Request) → s.field.request_one ≡ a → Tells passes battle tree stream parts
    by requests.Move e = by_turn e
    by requests.Switch e = by_step (λ asked. let both = sym e ∙ asked in cc)
    by requests.Pass e = by_step (λ asked. let both = sym e ∙ asked in cc)

-- So the whole update as a position adds its probability.
certain_times : (c : Chance) (y : Fraction) → c.num ≡ c.whole → 0 < y.whole → AreEqual (times (of_chance c) y) y
certain_times c y certain some =
    record { one = times-positive (of_chance c) y c.positive some; other = some; cross = omega (arith, ap (λ (n : ℕ). n * (y.num * y.whole)) certain) }

pub adds_update : (w : Walk) (middle : Middle) (s : State) (old new : Tally) (xs ys : List Successor) → middle.rest ≡ None → middle.chance.num ≡ middle.chance.whole
    → Offers w s → AddsPart w middle s old xs new ys → AddsUpdate w s old xs new ys
adds_update w middle s old new xs ys none certain of adds battle passes test whole share some tree x has =
    let y : Fraction = record { num = share; whole = whole } in
    let from : IsTreeFrom s w.one w.two middle.bytes middle.rest passes battle tree.0 =
    subst (λ (rest : Option Left). IsTreeFrom s w.one w.two middle.bytes rest passes battle tree.0) (sym none)
    (update_tells w s of battle passes test tree.0 tree.1.0 middle.bytes)
    in
    part_as battle new ys (plus x (times (of_chance middle.chance) y)) (plus x y)
    (plus-equal (equal-refl x (part_positive battle old xs x has)) (certain_times middle.chance y certain some))
    (adds battle passes tree.0 from whole share some tree.1.1 x has)
