-- A battle that is played by random choices, update by update.
use Rattle.std.proofs.Common.{List, [], ap, arith, drop, get_or, inl, inr, length, length-append, map, refl, sym, true, ℕ, ◌%◌, ◌*◌, ◌++◌, ◌+◌, ◌-◌, ◌/◌, ◌<◌, ◌^◌, ◌∙◌, ◌∷◌, ◌≡◌, ◌≢◌, ◌≤◌, ◌⊎◌, suc, Bool, min, subst, false, zero, take}
use Rattle.std.specs.Prelude.{replicate, None, Option, Some, if◌then◌else◌, slice_set}
use Rattle.std.proofs.lemmas.Bool.{cases_eq, cases_lt}
use Rattle.std.proofs.lemmas.List.{drop-drop, drop_more, get_or-append_right, get_or-drop, get_or-map, get_or-replicate, get_or_append_left, length-drop, length-replicate, take_more_set}
use Rattle.std.proofs.Math.Nat.{mod-lt}
use Rattle.gen1_machine.specs.declared.side.Choice.{Choice}
use Rattle.gen1_machine.specs.declared.side.Choice.TheVariants.{Move, Pass, Switch}
use Rattle.gen1_machine.specs.declared.side.Side.{Side}
use Rattle.gen1_machine.specs.State.{Field, Party, member_at, State, is_over, request_of, party}
use Rattle.gen1_machine.specs.Step.{is_among, same_choice, offers, step, Ran, run, run_by}
use Rattle.gen1_offers.specs.OfferedChoices.{all_choices, chosen_by, choices_in, offered_mask, Follows, IsBench}
use Rattle.gen1_offers.proofs.MaskChoices.{chosen-even, chosen-odd, offered_chosen}
use Rattle.gen1_offers.proofs.OfferedSet.{other_number, asks_nothing}
use Rattle.gen1_playouts.specs.Playouts.{IsZeros, choice_by, repeated, weight_in, weighted, hp_left, hp_unhurt, leader, leading, sum_in, IsDrawn, Playout, drawn_from, end_in, most_updates, next_state, play_on, played, IsRound, MayEndAs, PlaysOut, Tally, counting, no_counts, one_more, tally, IsPlayedOut, Numbers, begun, numbers_from, one_number}
use Rattle.gen1_engine.proofs.Making.{among-at, or-yes, offers-some, Accepts}
use Rattle.gen1_stats.specs.Members.{Member}
use Rattle.gen1_machine.specs.declared.side.Side.TheVariants.{One, Two}
use Rattle.gen1_machine.specs.declared.terms.Outcome.{Outcome}
use Rattle.gen1_rolls.specs.Streams.{iterate}
use Rattle.gen1_rolls.proofs.First.{iterate-add}
use Rattle.gen1_rolls.proofs.Standing.{iterate-more}
use Rattle.gen1_machine.specs.OfferedChoices.{offered, offered_for}
use Rattle.gen1_machine.specs.Valid.{IsStarted, IsState, IsUnstarted}
use Rattle.gen1_layout.specs.Parts.{Parts}
use Rattle.gen1_layout.specs.Shows.{Telling, Stands, Within, setting_of}
use Rattle.gen1_layout.proofs.Storing.{within_of}
use Rattle.gen1_switching.specs.SwitchingIn.{Steps}
use Rattle.gen1_playouts.specs.declared.playouts.Playouts.{Playouts}
use Rattle.gen1_playouts.specs.declared.playouts.PlayoutOptions.{PlayoutOptions}
use Rattle.gen1_rolls.specs.Steady.{Ring, ring_of}
use Rattle.gen1_engine.specs.Update.{reseeded}
use Rattle.gen1_machine.proofs.Runs.{runs_append}
use Rattle.gen1_offers.specs.declared.bench.Bench.{Bench}
use Rattle.gen1_playouts.proofs.Following.{both-follow}
use Rattle.gen1_machine.specs.declared.terms.Request.TheVariants as requests

-- Choices of a mask, each as often as its weight says.

-- digit by digit

parity : (m : ℕ) → (m % 2 ≡ 1) ⊎ (m % 2 ≡ 0)
parity m = grind arith

pub weight-odd : (m w : ℕ) → m % 2 ≡ 1 → m % 2 * w ≡ w
weight-odd m w odd = rw odd (let e : 1 * w ≡ w = omega arith in e)

pub weight-even : (m w : ℕ) → m % 2 ≡ 0 → m % 2 * w ≡ 0
weight-even m w even = rw even (let e : 0 * w ≡ 0 = omega arith in e)

-- the choices from a digit on: as many copies of the digit's choice as its weight says, and those of the digits after it
pub digit-first : (weight : Choice → ℕ) (all : List Choice) (rest digit : ℕ) → digit < length all
    → repeated weight (chosen_by rest (drop digit all))
    ≡ replicate (rest % 2 * weight (get_or all digit Pass)) (get_or all digit Pass) ++ repeated weight (chosen_by (rest / 2) (drop (digit + 1) all))
digit-first weight all rest digit inside = by (parity rest)
  where
    c : Choice
    c = get_or all digit Pass

    more : List Choice
    more = repeated weight (chosen_by (rest / 2) (drop (digit + 1) all))

    head : repeated weight (chosen_by rest (drop digit all)) ≡ repeated weight (chosen_by rest (c ∷ drop (digit + 1) all))
    head = ap (λ (l : List Choice). repeated weight (chosen_by rest l)) (drop_more all digit Pass inside)

    by : (rest % 2 ≡ 1) ⊎ (rest % 2 ≡ 0) → repeated weight (chosen_by rest (drop digit all)) ≡ replicate (rest % 2 * weight c) c ++ more
    by (inl odd) =
        head ∙ ap (repeated weight) (chosen-odd rest c (drop (digit + 1) all) odd)
        ∙ ap (λ (n : ℕ). replicate n c ++ more) (sym (weight-odd rest (weight c) odd))
    by (inr even) =
        head ∙ ap (repeated weight) (chosen-even rest c (drop (digit + 1) all) even)
        ∙ ap (λ (n : ℕ). replicate n c ++ more) (sym (weight-even rest (weight c) even))

pub length-first : (weight : Choice → ℕ) (all : List Choice) (rest digit : ℕ) → digit < length all
    → length (repeated weight (chosen_by rest (drop digit all)))
    ≡ rest % 2 * weight (get_or all digit Pass) + length (repeated weight (chosen_by (rest / 2) (drop (digit + 1) all)))
length-first weight all rest digit inside =
    let c = get_or all digit Pass in
    let more = repeated weight (chosen_by (rest / 2) (drop (digit + 1) all)) in
    ap length (digit-first weight all rest digit inside) ∙ length-append (replicate (rest % 2 * weight c) c) more
    ∙ ap (λ (n : ℕ). n + length more) (length-replicate (rest % 2 * weight c) c)

-- the weight that a list of weights has at a digit
pub weight-listed : (weight : Choice → ℕ) (all : List Choice) (weights : List ℕ) (rest digit : ℕ) {w : ℕ} → weights ≡ map weight all → digit < length all
    → w ≡ rest % 2 * get_or weights digit 0 → w ≡ rest % 2 * weight (get_or all digit Pass)
weight-listed weight all weights rest digit is inside at =
    at ∙ ap (λ (l : List ℕ). rest % 2 * get_or l digit 0) is ∙ ap (λ (n : ℕ). rest % 2 * n) (get_or-map weight all digit Pass 0 inside)

-- an index among the copies of the first choice, or after them

pub at-first : (n left : ℕ) (c : Choice) (more : List Choice) → left < n → get_or (replicate n c ++ more) left Pass ≡ c
at-first n left c more below =
    let inside : left < length (replicate n c) = omega (arith, length-replicate n c, below) in
    get_or_append_left (replicate n c) more Pass left inside ∙ get_or-replicate n left c Pass below

pub at-later : (n left : ℕ) (c : Choice) (more : List Choice) → n ≤ left → get_or (replicate n c ++ more) left Pass ≡ get_or more (left - n) Pass
at-later n left c more above = get_or-append_right (replicate n c) more n left Pass (length-replicate n c) above

-- what is looked for in the list of some choices is at this index of the list of those from a digit on
pub record IsLeft (weight : Choice → ℕ) (xs : List Choice) (index : ℕ) (rest digit left : ℕ) : Type 0 where
  pub inside : left < length (repeated weight (chosen_by rest (drop digit all_choices)))
  pub same : get_or (repeated weight xs) index Pass ≡ get_or (repeated weight (chosen_by rest (drop digit all_choices))) left Pass

pub left-more : {weight : Choice → ℕ} {xs : List Choice} {index rest digit left : ℕ} (w : ℕ) → IsLeft weight xs index rest digit left → digit < 12
    → w ≡ rest % 2 * weight (get_or all_choices digit Pass) → w ≤ left → IsLeft weight xs index (rest / 2) (digit + 1) (left - w)
left-more {weight = weight} {xs = xs} {index = index} {rest = rest} {digit = digit} {left = left} w so inside is above =
    let c = get_or all_choices digit Pass in
    let more = repeated weight (chosen_by (rest / 2) (drop (digit + 1) all_choices)) in
    let first : repeated weight (chosen_by rest (drop digit all_choices)) ≡ replicate w c ++ more =
    digit-first weight all_choices rest digit inside ∙ ap (λ (n : ℕ). replicate n c ++ more) (sym is) in
    let long = length-first weight all_choices rest digit inside in
    record {
      inside = omega (arith, so.inside, long, is, above);
      same = so.same ∙ ap (λ (l : List Choice). get_or l left Pass) first ∙ at-later w left c more above;
    }

pub left-here : {weight : Choice → ℕ} {xs : List Choice} {index rest digit left : ℕ} (w : ℕ) → IsLeft weight xs index rest digit left → digit < 12
    → w ≡ rest % 2 * weight (get_or all_choices digit Pass) → left < w → get_or (repeated weight xs) index Pass ≡ get_or all_choices digit Pass
left-here {weight = weight} {xs = xs} {index = index} {rest = rest} {digit = digit} {left = left} w so inside is below =
    let c = get_or all_choices digit Pass in
    let more = repeated weight (chosen_by (rest / 2) (drop (digit + 1) all_choices)) in
    let first : repeated weight (chosen_by rest (drop digit all_choices)) ≡ replicate w c ++ more =
    digit-first weight all_choices rest digit inside ∙ ap (λ (n : ℕ). replicate n c ++ more) (sym is) in
    so.same ∙ ap (λ (l : List Choice). get_or l left Pass) first ∙ at-first w left c more below

-- how many choices were passed

pub place-more : (xs : List Choice) (rest digit place : ℕ) → digit < 12 → chosen_by rest (drop digit all_choices) ≡ drop place xs
    → chosen_by (rest / 2) (drop (digit + 1) all_choices) ≡ drop (place + rest % 2) xs
place-more xs rest digit place inside is = by (parity rest)
  where
    c : Choice
    c = get_or all_choices digit Pass

    head : chosen_by rest (c ∷ drop (digit + 1) all_choices) ≡ drop place xs
    head = ap (chosen_by rest) (sym (drop_more all_choices digit Pass inside)) ∙ is

    by : (rest % 2 ≡ 1) ⊎ (rest % 2 ≡ 0) → chosen_by (rest / 2) (drop (digit + 1) all_choices) ≡ drop (place + rest % 2) xs
    by (inl odd) =
        let first : c ∷ chosen_by (rest / 2) (drop (digit + 1) all_choices) ≡ drop place xs = sym (chosen-odd rest c (drop (digit + 1) all_choices) odd) ∙ head in
        let next : place + 1 ≡ place + rest % 2 = omega (arith, odd) in
        ap (drop 1) first ∙ drop-drop 1 place xs ∙ ap (λ (n : ℕ). drop n xs) next
    by (inr even) =
        let next : place ≡ place + rest % 2 = omega (arith, even) in
        sym (chosen-even rest c (drop (digit + 1) all_choices) even) ∙ head ∙ ap (λ (n : ℕ). drop n xs) next

-- the choice of a digit that is 1 is the one after those that were passed
pub place-here : (xs : List Choice) (rest digit place left w weight : ℕ) → digit < 12 → chosen_by rest (drop digit all_choices) ≡ drop place xs
    → w ≡ rest % 2 * weight → left < w → (place < length xs) × (get_or xs place Pass ≡ get_or all_choices digit Pass)
place-here xs rest digit place left w weight inside is at below = by (parity rest)
  where
    c : Choice
    c = get_or all_choices digit Pass

    by : (rest % 2 ≡ 1) ⊎ (rest % 2 ≡ 0) → (place < length xs) × (get_or xs place Pass ≡ c)
    by (inl odd) =
        let first : drop place xs ≡ c ∷ chosen_by (rest / 2) (drop (digit + 1) all_choices) =
        sym is ∙ ap (chosen_by rest) (drop_more all_choices digit Pass inside) ∙ chosen-odd rest c (drop (digit + 1) all_choices) odd in
        let long = ap length first in
        let here : place + 0 ≡ place = omega arith in (
          omega (arith, long, length-drop place xs),
          ap (λ (n : ℕ). get_or xs n Pass) (sym here) ∙ sym (get_or-drop place xs 0 Pass) ∙ ap (λ (l : List Choice). get_or l 0 Pass) first,
        )
    by (inr even) = absurd (omega (arith, below, at ∙ weight-even rest weight even))

-- if no choice has a weight

pub none-repeated : (weight : Choice → ℕ) (choices : List Choice) → ((c : Choice) → weight c ≡ 0) → repeated weight choices ≡ []
none-repeated weight [] none = refl
none-repeated weight (c ∷ choices) none = rw (none c) (none-repeated weight choices none)

pub weighted-none : (weight : Choice → ℕ) (choices : List Choice) → length (repeated weight choices) ≡ 0 → weighted weight choices ≡ choices
weighted-none weight choices none = rw none refl

pub weighted-some : (weight : Choice → ℕ) (choices : List Choice) → length (repeated weight choices) ≢ 0 → weighted weight choices ≡ repeated weight choices
weighted-some weight choices some = rw (other_number (length (repeated weight choices)) 0 some) refl

no-weight : (weights : List ℕ) (side : Side) (f : Field) → IsZeros weights → (c : Choice) → weight_in weights side f c ≡ 0
no-weight weights side f zeros Pass = zeros 0
no-weight weights side f zeros (Move slot) = zeros _
no-weight weights side f zeros (Switch place) = zeros 0

pub zeros-weighted : (weights : List ℕ) (side : Side) (f : Field) (choices : List Choice) → IsZeros weights → weighted (weight_in weights side f) choices ≡ choices
zeros-weighted weights side f choices zeros =
    weighted-none (weight_in weights side f) choices (ap length (none-repeated (weight_in weights side f) choices (no-weight weights side f zeros)))

-- the only choice is drawn, whatever its weight
pub only-drawn : (weight : Choice → ℕ) (choices : List Choice) (state : ℕ) → length choices ≡ 1 → choice_by state (weighted weight choices) ≡ choice_by state choices
only-drawn weight [] state one = absurd (omega (arith, one))
only-drawn weight (c ∷ d ∷ choices) state one = absurd (omega (arith, one))
only-drawn weight (c ∷ []) state one = by (cases_eq (length (repeated weight (c ∷ []))) 0)
  where
    copies : List Choice
    copies = repeated weight (c ∷ [])

    alone : choice_by state (c ∷ []) ≡ c
    alone = let z : state / 2 ^ 32 % 1 ≡ 0 = omega arith in rw z refl

    by : (length copies ≡ 0) ⊎ (length copies ≢ 0) → choice_by state (weighted weight (c ∷ [])) ≡ choice_by state (c ∷ [])
    by (inl none) = ap (choice_by state) (weighted-none weight (c ∷ []) none)
    by (inr some) =
        let index = state / 2 ^ 32 % length copies in
        let inside : index < length copies = mod-lt (state / 2 ^ 32) (omega (arith, some)) in
        let long = length-append (replicate (weight c) c) [] in
        let below : index < weight c = omega (arith, inside, long, length-replicate (weight c) c) in
        ap (choice_by state) (weighted-some weight (c ∷ []) some) ∙ at-first (weight c) index c [] below ∙ sym alone

-- each copy is one of the choices

among-repeated : (weight : Choice → ℕ) (choices : List Choice) (i : ℕ) → i < length (repeated weight choices)
    → is_among (get_or (repeated weight choices) i Pass) choices ≡ true
among-repeated weight [] i inside = absurd (omega (arith, inside))
among-repeated weight (c ∷ choices) i inside = by (cases_lt i (weight c)) (among-repeated weight choices)
  where
    more : List Choice
    more = repeated weight choices

    by : (i < weight c) ⊎ (weight c ≤ i) → ((j : ℕ) → j < length more → is_among (get_or more j Pass) choices ≡ true)
        → is_among (get_or (replicate (weight c) c ++ more) i Pass) (c ∷ choices) ≡ true
    by (inl below) later =
        ap (λ (x : Choice). is_among x (c ∷ choices)) (at-first (weight c) i c more below) ∙ among-at (c ∷ choices) 0 Pass (omega arith)
    by (inr above) later =
        let long = length-append (replicate (weight c) c) more in
        let left : i - weight c < length more = omega (arith, inside, long, length-replicate (weight c) c, above) in
        ap (λ (x : Choice). is_among x (c ∷ choices)) (at-later (weight c) i c more above)
        ∙ or-yes (same_choice (get_or more (i - weight c) Pass) c) (later (i - weight c) left)

pub among-weighted : (weight : Choice → ℕ) (choices : List Choice) (i : ℕ) → i < length (weighted weight choices)
    → is_among (get_or (weighted weight choices) i Pass) choices ≡ true
among-weighted weight choices i inside = by (cases_eq (length (repeated weight choices)) 0)
  where
    by : (length (repeated weight choices) ≡ 0) ⊎ (length (repeated weight choices) ≢ 0) → is_among (get_or (weighted weight choices) i Pass) choices ≡ true
    by (inl none) =
        let e = weighted-none weight choices none in
        ap (λ (l : List Choice). is_among (get_or l i Pass) choices) e ∙ among-at choices i Pass (let long = ap length e in omega (arith, inside, long))
    by (inr some) =
        let e = weighted-some weight choices some in
        ap (λ (l : List Choice). is_among (get_or l i Pass) choices) e
        ∙ among-repeated weight choices i (let long = ap length e in omega (arith, inside, long))

pub weighted-not_empty : (weight : Choice → ℕ) (choices : List Choice) → 1 ≤ length choices → 1 ≤ length (weighted weight choices)
weighted-not_empty weight choices some = by (cases_eq (length (repeated weight choices)) 0)
  where
    by : (length (repeated weight choices) ≡ 0) ⊎ (length (repeated weight choices) ≢ 0) → 1 ≤ length (weighted weight choices)
    by (inl none) = let long = ap length (weighted-none weight choices none) in omega (arith, some, long)
    by (inr copies) = let long = ap length (weighted-some weight choices copies) in omega (arith, copies, long)

-- The HP of two sides, compared.

pub sums-more : (number : Member → ℕ) (t : Party) (places : ℕ) {sum one : ℕ} → sum ≡ sum_in number places t → one ≡ number (member_at (places + 1) t)
    → sum + one ≡ sum_in number (places + 1) t
sums-more number t places is one =
    let e : places + 1 ≡ suc places = omega arith in rw (is, one) (ap (λ (n : ℕ). sum_in number n t) (sym e))

pub leads : (f : Field) {left_one left_two unhurt_one unhurt_two : ℕ} {end : Outcome} → left_one ≡ hp_left One f → left_two ≡ hp_left Two f
    → unhurt_one ≡ hp_unhurt One f → unhurt_two ≡ hp_unhurt Two f → end ≡ leading (left_one * unhurt_two) (left_two * unhurt_one) → end ≡ leader f
unfolding leader
leads f first second third fourth is = is ∙ rw (first, second, third, fourth) refl

-- a choice drawn from the mask of a battle that continues is drawn among the offered choices, and so is offered

pub drawn-offered : (side : Side) (t : State) (mask old : ℕ) {new : ℕ} {choice : Choice} → IsState t → is_over t.field.outcome ≡ false
    → mask ≡ offered_mask t side → (1 ≤ length (choices_in mask) → IsDrawn old (choices_in mask) choice new)
    → IsDrawn old (offered side t.field) choice new
drawn-offered side t mask old {new = new} {choice = choice} valid going is drawn =
    let same : choices_in mask ≡ offered side t.field = ap choices_in is ∙ offered_chosen t side valid in
    let some : 1 ≤ length (choices_in mask) = subst (λ (l : List Choice). 1 ≤ length l) (sym same) (offers-some side t valid going) in
    subst (λ (l : List Choice). IsDrawn old l choice new) same (drawn some)

-- the same by weights
pub drawn-weighted : (side : Side) (t : State) (weights : List ℕ) (mask old : ℕ) {new : ℕ} {choice : Choice} → IsState t → is_over t.field.outcome ≡ false
    → mask ≡ offered_mask t side
    → (1 ≤ length (choices_in mask) → IsDrawn old (weighted (weight_in weights side t.field) (choices_in mask)) choice new)
    → IsDrawn old (drawn_from weights side t.field) choice new
drawn-weighted side t weights mask old {new = new} {choice = choice} valid going is drawn =
    let same : choices_in mask ≡ offered side t.field = ap choices_in is ∙ offered_chosen t side valid in
    let some : 1 ≤ length (choices_in mask) = subst (λ (l : List Choice). 1 ≤ length l) (sym same) (offers-some side t valid going) in
    subst (λ (l : List Choice). IsDrawn old (weighted (weight_in weights side t.field) l) choice new) same (drawn some)

-- if no choice has a weight, or there is only one, weights change nothing
pub drawn-alike : (side : Side) (t : State) (weights : List ℕ) (mask old : ℕ) {new : ℕ} {choice : Choice} → IsState t → is_over t.field.outcome ≡ false
    → mask ≡ offered_mask t side → IsZeros weights ⊎ (length (choices_in mask) ≤ 1)
    → (1 ≤ length (choices_in mask) → IsDrawn old (choices_in mask) choice new) → IsDrawn old (drawn_from weights side t.field) choice new
drawn-alike side t weights mask old {new = new} {choice = choice} valid going is why drawn = by why
  where
    weight : Choice → ℕ
    weight = weight_in weights side t.field

    choices : List Choice
    choices = offered side t.field

    plain : IsDrawn old choices choice new
    plain = drawn-offered side t mask old valid going is drawn

    by : IsZeros weights ⊎ (length (choices_in mask) ≤ 1) → IsDrawn old (weighted weight choices) choice new
    by (inl zeros) = subst (λ (l : List Choice). IsDrawn old l choice new) (sym (zeros-weighted weights side t.field choices zeros)) plain
    by (inr few) =
        let same : length (choices_in mask) ≡ length choices = ap length (ap choices_in is ∙ offered_chosen t side valid) in
        let one : length choices ≡ 1 = omega (arith, few, same, offers-some side t valid going) in
        (plain.0 ∙ sym (only-drawn weight choices (next_state old) one), plain.1)

pub offers-drawn : (side : Side) (t : State) (weights : List ℕ) (old : ℕ) {new : ℕ} {choice : Choice} → IsState t → is_over t.field.outcome ≡ false
    → IsDrawn old (drawn_from weights side t.field) choice new → offers t side choice ≡ true
offers-drawn side t weights old valid going drawn =
    let choices = offered side t.field in
    let weight = weight_in weights side t.field in
    ap (λ (c : Choice). is_among c choices) drawn.0
    ∙ among-weighted weight choices (next_state old / 2 ^ 32 % length (weighted weight choices))
    (mod-lt (next_state old / 2 ^ 32) (weighted-not_empty weight choices (offers-some side t valid going)))

-- a side that has several choices is asked for one, so a member is out

few-passing : (side : Side) (f : Field) → request_of side f ≡ requests.Pass → length (offered side f) ≤ 1
unfolding offered
few-passing side f is = by (is_over f.outcome)
  where
    by : (over : Bool) → length (if over then [] else offered_for (request_of side f) side f) ≤ 1
    by true = omega arith
    by false = rw is (omega arith)

pub within-several : (side : Side) {p : Parts} {t : State} → Stands p t → 2 ≤ length (offered side t.field) → Within (setting_of t) p t.field
within-several side {p = p} {t = t} h several = by h.valid.field
  where
    by : IsUnstarted t.terms t.field ⊎ IsStarted t.terms t.field → Within (setting_of t) p t.field
    by (inl unstarted) = absurd (omega (arith, several, few-passing side t.field (asks_nothing side t.terms t.field unstarted)))
    by (inr started) = within_of p t h started.field

-- an update

goes-on : (weights : List ℕ) (p : Playout) {middle random : ℕ} {one two : Choice} → is_over p.battle.field.outcome ≡ false
    → IsDrawn p.random (drawn_from weights One p.battle.field) one middle → IsDrawn middle (drawn_from weights Two p.battle.field) two random
    → play_on weights p ≡ record { battle = (step p.battle one two).state; random = random }
unfolding play_on
goes-on weights p going first second = rw (going, second.0, second.1, first.0, first.1) refl

-- a battle represents the state that a number of updates leads to, and the generator has the state after them
pub record PlaysOn (weights : List ℕ) (s : State) (seed updates : ℕ) (battle : Parts) (random : ℕ) : Type 0 where
  pub stands : Stands battle (played weights updates s seed).battle
  pub drawn : random ≡ (played weights updates s seed).random

pub plays_on-none : (weights : List ℕ) (s : State) (seed : ℕ) {battle : Parts} → Stands battle s → PlaysOn weights s seed 0 battle seed
plays_on-none weights s seed stands = record { stands = stands; drawn = refl }

pub plays-next : {weights : List ℕ} {s : State} {seed updates : ℕ} {battle : Parts} {before middle random : ℕ} {one two : Choice}
    → PlaysOn weights s seed updates battle before → is_over (played weights updates s seed).battle.field.outcome ≡ false
    → IsDrawn before (drawn_from weights One (played weights updates s seed).battle.field) one middle
    → IsDrawn middle (drawn_from weights Two (played weights updates s seed).battle.field) two random
    → played weights (updates + 1) s seed ≡ record { battle = (step (played weights updates s seed).battle one two).state; random = random }
plays-next {weights = weights} {s = s} {seed = seed} {updates = updates} {middle = middle} {one = one} h going first second =
    let p = played weights updates s seed in
    let from_here = subst (λ (state : ℕ). IsDrawn state (drawn_from weights One p.battle.field) one middle) h.drawn first in
    iterate-more (play_on weights) updates (record { battle = s; random = seed }) ∙ goes-on weights p going from_here second

pub plays_on-more : {weights : List ℕ} {s : State} {seed random : ℕ} {new : Parts} {events : Telling} {one two : Choice} (updates : ℕ)
    → played weights (updates + 1) s seed ≡ record { battle = (step (played weights updates s seed).battle one two).state; random = random }
    → Steps (played weights updates s seed).battle one two new events → PlaysOn weights s seed (updates + 1) new random
plays_on-more {new = new} updates next steps = record {
  stands = subst (λ (q : Playout). Stands new q.battle) (sym next) steps.stands;
  drawn = sym (ap (λ (q : Playout). q.random) next);
}

-- a battle that is over is not played on

stays-once : (weights : List ℕ) (p : Playout) → is_over p.battle.field.outcome ≡ true → play_on weights p ≡ p
unfolding play_on
stays-once weights p over = rw over refl

stays : (weights : List ℕ) (p : Playout) (updates : ℕ) → is_over p.battle.field.outcome ≡ true → iterate updates (play_on weights) p ≡ p
stays weights p zero over = refl
stays weights p (suc updates) over = ap (play_on weights) (stays weights p updates over) ∙ stays-once weights p over

pub ended : (weights : List ℕ) (s : State) (seed : ℕ) {updates all : ℕ} → updates ≤ all → is_over (played weights updates s seed).battle.field.outcome ≡ true
    → played weights all s seed ≡ played weights updates s seed
ended weights s seed {updates = updates} {all = all} within over =
    let e : all ≡ all - updates + updates = omega (arith, within) in
    ap (λ (n : ℕ). played weights n s seed) e ∙ iterate-add (play_on weights) updates (all - updates) (record { battle = s; random = seed })
    ∙ stays weights (played weights updates s seed) (all - updates) over

pub end-over : (f : Field) → is_over f.outcome ≡ true → end_in f ≡ f.outcome
end-over f over = rw over refl

-- how many updates are played

pub most-either : (limit : ℕ) (depth : Option ℕ) → (most_updates limit depth ≡ limit + 11) ⊎ (depth ≡ Some (most_updates limit depth))
most-either limit None = inl refl
most-either limit (Some depth) = by (either (limit + 11) depth)
  where
    either : (a b : ℕ) → (min a b ≡ a) ⊎ (min a b ≡ b)
    either a b = grind arith

    by : (min (limit + 11) depth ≡ limit + 11) ⊎ (min (limit + 11) depth ≡ depth)
        → (min (limit + 11) depth ≡ limit + 11) ⊎ (Some depth ≡ Some (min (limit + 11) depth))
    by (inl e) = inl e
    by (inr e) = inr (ap (λ (n : ℕ). Some n) (sym e))

-- Playouts, one after the other.

pub plays-none : (o : PlayoutOptions) (s : State) (counts : Playouts) → counts ≡ no_counts → PlaysOut o s 0 counts
plays-none o s counts none = record { exact = none; ends = []; each = tt; many = refl; counted = none }

tells-one : (o : PlayoutOptions) (s : State) (t : Tally) {end : Outcome} {random : ℕ} → IsRound o s t.random end random
    → one_more o s t ≡ record { counts = counting end t.counts; random = random }
unfolding one_more
tells-one o s t ended = rw (ended.0, ended.1) refl

pub plays-more : {o : PlayoutOptions} {s : State} {rounds before random : ℕ} {old new : Playouts} {end : Outcome}
    → PlaysOut o s rounds old → before ≡ (tally o s rounds).random → MayEndAs o.depth s end → IsRound o s before end random
    → new ≡ counting end old → PlaysOut o s (rounds + 1) new × (random ≡ (tally o s (rounds + 1)).random)
plays-more {o = o} {s = s} {rounds = rounds} {random = random} {end = end} so_far at ends played is =
    let t = tally o s rounds in
    let next : tally o s (rounds + 1) ≡ record { counts = counting end t.counts; random = random } =
    iterate-more (one_more o s) rounds (record { counts = no_counts; random = o.seed })
    ∙ tells-one o s t (subst (λ (state : ℕ). IsRound o s state end random) at played) in (
      record {
        exact = is ∙ ap (counting end) so_far.exact ∙ sym (ap (λ (t : Tally). t.counts) next);
        ends = end ∷ so_far.ends;
        each = (ends, so_far.each);
        many = omega (arith, so_far.many);
        counted = is ∙ ap (counting end) so_far.counted;
      },
      sym (ap (λ (t : Tally). t.random) next),
    )

-- Numbers that are drawn one after the other, and a round that begins with ten of them.

draws-one : (n : Numbers) {drawn : List ℕ} {before after number : ℕ} → drawn ≡ n.drawn → before ≡ n.random
    → number ≡ next_state before / 2 ^ 32 % 256 → after ≡ next_state before
    → one_number n ≡ record { drawn = drawn ++ number ∷ []; random = after }
unfolding one_number
draws-one n drawn at is new = rw (is, new, at, drawn) refl

pub draws-more : (seed count : ℕ) {before after number : ℕ} (numbers : List ℕ) → count < length numbers
    → take count numbers ≡ (numbers_from seed count).drawn → before ≡ (numbers_from seed count).random
    → number ≡ next_state before / 2 ^ 32 % 256 → after ≡ next_state before
    → (take (count + 1) (slice_set numbers count number) ≡ (numbers_from seed (count + 1)).drawn) × (after ≡ (numbers_from seed (count + 1)).random)
draws-more seed count {after = after} {number = number} numbers inside drawn at is new =
    let next : numbers_from seed (count + 1) ≡ record { drawn = take count numbers ++ number ∷ []; random = after } =
    iterate-more one_number count (record { drawn = []; random = seed }) ∙ draws-one (numbers_from seed count) drawn at is new in (
      take_more_set numbers count number inside ∙ sym (ap (λ (n : Numbers). n.drawn) next),
      sym (ap (λ (n : Numbers). n.random) next),
    )

-- a round

pub begins-with : {old new : Parts} {s : State} {ring : Ring} {numbers : List ℕ} → ring ≡ ring_of numbers
    → (Stands old s → Stands new (reseeded ring s)) → Stands old s → Stands new (reseeded (ring_of numbers) s)
begins-with {new = new} {s = s} is reseeds stands = subst (λ (r : Ring). Stands new (reseeded r s)) is (reseeds stands)

pub plays-round : (o : PlayoutOptions) (s : State) (seed : ℕ) {after random : ℕ} {numbers : List ℕ} {end : Outcome} → numbers ≡ (numbers_from seed 10).drawn
    → after ≡ (numbers_from seed 10).random → IsPlayedOut o (reseeded (ring_of numbers) s) after end random → IsRound o s seed end random
unfolding begun
plays-round o s seed {random = random} {numbers = numbers} {end = end} drawn at played =
    subst (λ (given : List ℕ). IsPlayedOut o (reseeded (ring_of given) s) (numbers_from seed 10).random end random) drawn
    (subst (λ (state : ℕ). IsPlayedOut o (reseeded (ring_of numbers) s) state end random) at played)

-- The members that may come out, while a battle is played.

-- those of both sides
pub record AreBenches (one two : Bench) (f : Field) : Type 0 where
  pub first : IsBench One f one
  pub second : IsBench Two f two

-- what following an update promises, for a side
abbrev pub FollowsOn : Side → Choice → Parts → Bench → Bench → Type 0
FollowsOn side choice battle before after =
    (old : Field) (s : State) → Stands battle s → IsBench side old before → Follows choice (party side old) (party side s.field) → IsBench side s.field after

pub follow-update : {one two one' two' : Bench} {battle : Parts} (s : State) (x y : Choice) → IsState s → offers s One x ≡ true → offers s Two y ≡ true
    → Stands battle (step s x y).state → FollowsOn One x battle one one' → FollowsOn Two y battle two two'
    → AreBenches one two s.field → AreBenches one' two' (step s x y).state.field
follow-update s x y valid a b stands first second h =
    let follow = both-follow s x y valid a b in
    let t = (step s x y).state in
    record { first = first s.field t stands h.first follow.first; second = second s.field t stands h.second follow.second }

-- the state after one more pair
pub ran-more : (s : State) (pairs : List (Choice × Choice)) (x y : Choice) → (run s (pairs ++ (x, y) ∷ [])).state ≡ (step (run s pairs).state x y).state
unfolding run_by
ran-more s pairs x y = ap (λ (r : Ran). r.state) (runs_append s pairs ((x, y) ∷ []))

-- a battle in the middle of a round, and its benches
pub record Rounds (weights : List ℕ) (s : State) (seed updates : ℕ) (battle : Parts) (random : ℕ) (one two : Bench) : Type 0 where
  pub accepts : Accepts s updates battle
  pub plays : PlaysOn weights s seed updates battle random
  pub ran : AreBenches one two (run s accepts.pairs).state.field
  pub out : AreBenches one two (played weights updates s seed).battle.field
