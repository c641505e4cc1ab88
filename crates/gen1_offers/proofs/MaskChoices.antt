-- The choices of a mask. The mask of the offered choices gives their list.
use Rattle.std.proofs.Common.{Bool, List, Option, [], ap, arith, false, inl, inr, length, refl, sym, true, ℕ, ◌%◌, ◌++◌, ◌+◌, ◌/◌, ◌<◌, ◌==◌, ◌≡◌, ◌≢◌, ◌≤◌, ◌⊎◌, ◌∙◌, ◌∷◌, get_or, map, ◌*◌, ◌^◌}
use Rattle.std.specs.Prelude.{if◌then◌else◌}
use Rattle.std.proofs.lemmas.Bool.{cases_eq}
use Rattle.std.proofs.lemmas.List.{length-append, get_or-map, length-map}
use Rattle.gen1_stats.specs.declared.member.KnownMove.{KnownMove}
use Rattle.gen1_stats.specs.Members.{IsBetween, Member, is_living}
use Rattle.gen1_machine.specs.declared.side.DisabledSlot.{DisabledSlot}
use Rattle.gen1_machine.specs.declared.side.Side.{Side}
use Rattle.gen1_machine.specs.declared.side.Side.TheVariants.{One, Two}
use Rattle.gen1_machine.specs.declared.side.Choice.{Choice}
use Rattle.gen1_machine.specs.declared.terms.Request.{Request}
use Rattle.gen1_machine.specs.Layout.{number_of_bits}
use Rattle.gen1_machine.specs.OfferedChoices.{has_no_slot_in, is_committed, moves_offered, offered, offered_for, or_struggle, switches_offered, others_living_from, usable_from}
use Rattle.gen1_machine.specs.State.{Field, State, Terms, active_in, is_over, member_in, party, request_of, underway_in, conditions_in}
use Rattle.gen1_machine.specs.Valid.{IsField, IsStarted, IsState, IsUnstarted}
use Rattle.gen1_offers.specs.OfferedChoices.{all_choices, choices_in, chosen_by, living_of, mask_of, digits_of, moves_and_pass, offered_mask, passing, switches, usable_of}
use Rattle.gen1_offers.proofs.OfferedSet.{asks_nothing, if_front, one_if, places_living, slots_usable, move_passes, other_number, switch_passes, usable-behind, four_in}
use Rattle.gen1_offers.proofs.MaskDigits.{and_false, equal_number, both_digits, move_digits, switch_digits, usable_list}
use Rattle.std.specs.List.{range_with_len}
use Rattle.std.proofs.lemmas.List.FromFn.{get_or-range_with_len, length-range_with_len}
use Rattle.gen1_tables.proofs.Named.{agree_at}
use Rattle.gen1_offers.specs.declared.masks.TheConstants.{ONES}
use Rattle.gen1_machine.specs.declared.side.Choice.TheVariants as choices
use Rattle.gen1_machine.specs.declared.terms.Request.TheVariants as requests

-- One more choice, by the lowest digit

parity : (m : ℕ) → (m % 2 ≡ 1) ⊎ (m % 2 ≡ 0)
parity m = grind arith

pub chosen-odd : (m : ℕ) (c : Choice) (cs : List Choice) → m % 2 ≡ 1 → chosen_by m (c ∷ cs) ≡ c ∷ chosen_by (m / 2) cs
chosen-odd m c cs odd = rw (equal_number (m % 2) 1 odd) refl

pub chosen-even : (m : ℕ) (c : Choice) (cs : List Choice) → m % 2 ≡ 0 → chosen_by m (c ∷ cs) ≡ chosen_by (m / 2) cs
chosen-even m c cs even = rw (other_number (m % 2) 1 (λ e. omega (arith, e, even))) refl

pub chosen-zero : (cs : List Choice) → chosen_by 0 cs ≡ []
chosen-zero [] = refl
chosen-zero (c ∷ cs) = chosen-even 0 c cs refl ∙ chosen-zero cs

-- Digits as a list of tests

abbrev pub picked : List Bool → List Choice → List Choice
picked [] cs = []
picked (b ∷ bs) [] = []
picked (b ∷ bs) (c ∷ cs) = if b then c ∷ picked bs cs else picked bs cs

pub chosen-picked : (bs : List Bool) (cs : List Choice) → chosen_by (number_of_bits bs) cs ≡ picked bs cs
chosen-picked [] cs = chosen-zero cs
chosen-picked (b ∷ bs) [] = refl
chosen-picked (true ∷ bs) (c ∷ cs) =
    let odd : number_of_bits (true ∷ bs) % 2 ≡ 1 = omega arith in
    let half : number_of_bits (true ∷ bs) / 2 ≡ number_of_bits bs = omega arith in
    chosen-odd (number_of_bits (true ∷ bs)) c cs odd ∙ ap (λ (n : ℕ). c ∷ chosen_by n cs) half ∙ ap (λ (l : List Choice). c ∷ l) (chosen-picked bs cs)
chosen-picked (false ∷ bs) (c ∷ cs) =
    let even : number_of_bits (false ∷ bs) % 2 ≡ 0 = omega arith in
    let half : number_of_bits (false ∷ bs) / 2 ≡ number_of_bits bs = omega arith in
    chosen-even (number_of_bits (false ∷ bs)) c cs even ∙ ap (λ (n : ℕ). chosen_by n cs) half ∙ chosen-picked bs cs

-- The choices that `picked` keeps, joined from what each test passes.
abbrev pub all_ifs : List Bool → List Choice → List Choice
all_ifs [] cs = []
all_ifs (b ∷ bs) [] = []
all_ifs (b ∷ bs) (c ∷ cs) = one_if b c ++ all_ifs bs cs

pub picked_ifs : (bs : List Bool) (cs : List Choice) → picked bs cs ≡ all_ifs bs cs
picked_ifs [] cs = refl
picked_ifs (b ∷ bs) [] = refl
picked_ifs (b ∷ bs) (c ∷ cs) = if_front b c (picked bs cs) ∙ ap (λ (l : List Choice). one_if b c ++ l) (picked_ifs bs cs)

picked_append : (bs : List Bool) (cs : List Choice) (bs' : List Bool) (cs' : List Choice) → length bs ≡ length cs
    → picked (bs ++ bs') (cs ++ cs') ≡ picked bs cs ++ picked bs' cs'
picked_append [] [] bs' cs' e = refl
picked_append [] (c ∷ cs) bs' cs' e = absurd (omega (arith, e))
picked_append (b ∷ bs) [] bs' cs' e = absurd (omega (arith, e))
picked_append (true ∷ bs) (c ∷ cs) bs' cs' e = ap (λ (l : List Choice). c ∷ l) (picked_append bs cs bs' cs' (omega (arith, e)))
picked_append (false ∷ bs) (c ∷ cs) bs' cs' e = picked_append bs cs bs' cs' (omega (arith, e))

-- The switches.
switches_picked : (s : Side) (f : Field) → length (party s f).members ≤ 6 → picked (passing 1 (active_in s f).place (living_of s f)) switches ≡ switches_offered s f
switches_picked s f few =
    picked_ifs (passing 1 (active_in s f).place (living_of s f)) switches ∙ places_living s f (active_in s f).place few

-- The moves before them

abbrev four_moves : List Choice
four_moves = choices.Move 1 ∷ choices.Move 2 ∷ choices.Move 3 ∷ choices.Move 4 ∷ []

moves_picked : (s : Side) (f : Field) → length (member_in s f).moves ≤ 4 → picked (usable_of s f) four_moves ≡ usable_list s f
moves_picked s f few = picked_ifs (usable_of s f) four_moves ∙ slots_usable s f few

with_struggle : (l rest : List Choice) → (if length l == 0 then choices.Move 0 ∷ (l ++ rest) else l ++ rest) ≡ or_struggle l ++ rest
with_struggle [] rest = refl
with_struggle (c ∷ l) rest = rw (other_number (length (c ∷ l)) 0 (λ e. cc)) refl

module _ (s : Side) (f : Field) (slots : length (member_in s f).moves ≤ 4) (members : length (party s f).members ≤ 6) where
  no_slot_chosen : has_no_slot_in s f ≡ true
      → chosen_by (number_of_bits (digits_of moves_and_pass (moves_offered s f) ++ passing 1 (active_in s f).place (living_of s f))) all_choices
      ≡ moves_offered s f ++ switches_offered s f
  no_slot_chosen e =
      let high : List Bool = passing 1 (active_in s f).place (living_of s f) in
      let is : moves_offered s f ≡ choices.Move 0 ∷ [] = rw e refl in
      ap (λ (l : List Choice). chosen_by (number_of_bits (digits_of moves_and_pass l ++ high)) all_choices) is
      ∙ chosen-picked (false ∷ true ∷ false ∷ false ∷ false ∷ false ∷ high) all_choices
      ∙ ap (λ (l : List Choice). choices.Move 0 ∷ l) (switches_picked s f members)
      ∙ ap (λ (l : List Choice). l ++ switches_offered s f) (sym is)

  slots_chosen : has_no_slot_in s f ≡ false
      → chosen_by (number_of_bits (digits_of moves_and_pass (moves_offered s f) ++ passing 1 (active_in s f).place (living_of s f))) all_choices
      ≡ moves_offered s f ++ switches_offered s f
  slots_chosen e =
      let high : List Bool = passing 1 (active_in s f).place (living_of s f) in
      let l = usable_list s f in
      let none : Bool = length l == 0 in
      let is : moves_offered s f ≡ or_struggle l = rw e refl in
      let rest = picked_append (usable_of s f) four_moves high switches refl
      ∙ ap (λ (k : List Choice). k ++ picked high switches) (moves_picked s f slots)
      ∙ ap (λ (k : List Choice). l ++ k) (switches_picked s f members) in
      ap (λ (k : List Bool). chosen_by (number_of_bits (k ++ high)) all_choices)
      (move_digits s f e (usable-behind (conditions_in s f).disabled (member_in s f).moves))
      ∙ chosen-picked (false ∷ none ∷ (usable_of s f ++ high)) all_choices
      ∙ ap (λ (k : List Choice). if none then choices.Move 0 ∷ k else k) rest
      ∙ with_struggle l (switches_offered s f)
      ∙ ap (λ (k : List Choice). k ++ switches_offered s f) (sym is)

  moves_chosen : (b : Bool) → has_no_slot_in s f ≡ b
      → chosen_by (number_of_bits (digits_of moves_and_pass (moves_offered s f) ++ passing 1 (active_in s f).place (living_of s f))) all_choices
      ≡ moves_offered s f ++ switches_offered s f
  moves_chosen true e = no_slot_chosen e
  moves_chosen false e = slots_chosen e

  move_chosen : (b : Bool) → is_committed (underway_in s f) ≡ b → chosen_by (mask_of (offered_for requests.Move s f)) all_choices ≡ offered_for requests.Move s f
  unfolding mask_of
  move_chosen true e = rw e refl
  move_chosen false e =
      let is : offered_for requests.Move s f ≡ moves_offered s f ++ switches_offered s f = rw e refl in
      ap (λ (l : List Bool). chosen_by (number_of_bits l) all_choices) (both_digits s f e) ∙ moves_chosen (has_no_slot_in s f) refl ∙ sym is

  switch_chosen : chosen_by (mask_of (switches_offered s f)) all_choices ≡ switches_offered s f
  unfolding mask_of
  switch_chosen =
      let high : List Bool = passing 1 (active_in s f).place (living_of s f) in
      ap (λ (l : List Bool). chosen_by (number_of_bits l) all_choices) (switch_digits s f)
      ∙ chosen-picked (false ∷ false ∷ false ∷ false ∷ false ∷ false ∷ high) all_choices
      ∙ switches_picked s f members

-- By the request, and by whether the battle continues

six_in : (s : Side) (terms : Terms) (f : Field) → IsField terms f → length (party s f).members ≤ 6
six_in One terms f h = h.one.members.size.1
six_in Two terms f h = h.two.members.size.1

asked_chosen : (r : Request) (s : Side) (t : State) → IsState t → request_of s t.field ≡ r → chosen_by (mask_of (offered_for r s t.field)) all_choices ≡ offered_for r s t.field
unfolding mask_of
asked_chosen requests.Pass s t valid is = refl
asked_chosen requests.Move s t valid is = by valid.field
  where
    by : IsUnstarted t.terms t.field ⊎ IsStarted t.terms t.field → chosen_by (mask_of (offered_for requests.Move s t.field)) all_choices ≡ offered_for requests.Move s t.field
    by (inl u) = absurd (let e = sym (asks_nothing s t.terms t.field u) ∙ is in cc)
    by (inr v) = move_chosen s t.field (four_in s t.terms t.field v.field) (six_in s t.terms t.field v.field) (is_committed (underway_in s t.field)) refl
asked_chosen requests.Switch s t valid is = by valid.field
  where
    by : IsUnstarted t.terms t.field ⊎ IsStarted t.terms t.field → chosen_by (mask_of (switches_offered s t.field)) all_choices ≡ switches_offered s t.field
    by (inl u) = absurd (let e = sym (asks_nothing s t.terms t.field u) ∙ is in cc)
    by (inr v) = switch_chosen s t.field (four_in s t.terms t.field v.field) (six_in s t.terms t.field v.field)

chosen_by_over : (b : Bool) (s : Side) (t : State) → IsState t → is_over t.field.outcome ≡ b → choices_in (offered_mask t s) ≡ offered s t.field
unfolding offered mask_of choices_in
chosen_by_over true s t valid e = rw e refl
chosen_by_over false s t valid e = rw e (asked_chosen (request_of s t.field) s t valid refl)

pub offered_chosen : (t : State) (s : Side) → IsState t → choices_in (offered_mask t s) ≡ offered s t.field
offered_chosen t s valid = chosen_by_over (is_over t.field.outcome) s t valid refl

-- At most four moves and five switches

usable-few : (k : ℕ) (disabled : Option DisabledSlot) (ms : List KnownMove) → length (usable_from k disabled ms) ≤ length ms
usable-few k disabled [] = omega arith
usable-few k disabled (m ∷ ms) = by (move_passes disabled m k) (usable-few (k + 1) disabled ms)
  where
    by : (b : Bool) → length (usable_from (k + 1) disabled ms) ≤ length ms
        → length (if b then choices.Move k ∷ usable_from (k + 1) disabled ms else usable_from (k + 1) disabled ms) ≤ length (m ∷ ms)
    by true h = omega (arith, h)
    by false h = omega (arith, h)

others-few : (place out : ℕ) (ms : List Member) → length (others_living_from place out ms) ≤ length ms
others-few place out [] = omega arith
others-few place out (m ∷ ms) = by (switch_passes out m place) (others-few (place + 1) out ms)
  where
    by : (b : Bool) → length (others_living_from (place + 1) out ms) ≤ length ms
        → length (if b then choices.Switch place ∷ others_living_from (place + 1) out ms else others_living_from (place + 1) out ms) ≤ length (m ∷ ms)
    by true h = omega (arith, h)
    by false h = omega (arith, h)

others-fewer : (place out : ℕ) (ms : List Member) → place ≤ out → out < place + length ms → length (others_living_from place out ms) + 1 ≤ length ms
others-fewer place out [] low high = absurd (omega arith)
others-fewer place out (m ∷ ms) low high = by (cases_eq place out) (λ (apart : place ≢ out). others-fewer (place + 1) out ms (omega (arith, apart)) (omega arith))
  where
    passed : (b : Bool) → length (others_living_from (place + 1) out ms) + 1 ≤ length ms
        → length (if b then choices.Switch place ∷ others_living_from (place + 1) out ms else others_living_from (place + 1) out ms) + 1 ≤ length (m ∷ ms)
    passed true h = omega (arith, h)
    passed false h = omega (arith, h)

    by : (place ≡ out) ⊎ (place ≢ out) → (place ≢ out → length (others_living_from (place + 1) out ms) + 1 ≤ length ms)
        → length (others_living_from place out (m ∷ ms)) + 1 ≤ length (m ∷ ms)
    by (inl here) rest =
        rw (equal_number place out here, and_false (is_living m)) (let h = others-few (place + 1) out ms in omega (arith, h))
    by (inr apart) rest = passed (switch_passes out m place) (rest apart)

few_by : (b c : Bool) (l sw : List Choice) → length l ≤ 4 → length sw ≤ 5
    → length (if b then choices.Move 0 ∷ [] else (if c then choices.Move 0 ∷ [] else or_struggle l) ++ sw) ≤ 9
few_by true c l sw few fewer = omega arith
few_by false true l sw few fewer = omega (arith, length-append (choices.Move 0 ∷ []) sw)
few_by false false [] sw few fewer = omega (arith, length-append (choices.Move 0 ∷ []) sw)
few_by false false (x ∷ l) sw few fewer = omega (arith, length-append (x ∷ l) sw)

out_in : (s : Side) (terms : Terms) (f : Field) → IsField terms f → IsBetween 1 (length (party s f).members) (active_in s f).place
out_in One terms f h = h.one.place
out_in Two terms f h = h.two.place

asked_few : (r : Request) (s : Side) (t : State) → IsState t → request_of s t.field ≡ r → length (offered_for r s t.field) ≤ 9
asked_few requests.Pass s t valid is = omega arith
asked_few requests.Switch s t valid is = by valid.field
  where
    by : IsUnstarted t.terms t.field ⊎ IsStarted t.terms t.field → length (switches_offered s t.field) ≤ 9
    by (inl u) = absurd (let e = sym (asks_nothing s t.terms t.field u) ∙ is in cc)
    by (inr v) = let few = others-few 1 (active_in s t.field).place (party s t.field).members in omega (arith, few, six_in s t.terms t.field v.field)
asked_few requests.Move s t valid is = by valid.field
  where
    by : IsUnstarted t.terms t.field ⊎ IsStarted t.terms t.field → length (offered_for requests.Move s t.field) ≤ 9
    by (inl u) = absurd (let e = sym (asks_nothing s t.terms t.field u) ∙ is in cc)
    by (inr v) =
        let f = t.field in
        let place = out_in s t.terms f v.field in
        let slots = usable-few 1 (conditions_in s f).disabled (member_in s f).moves in
        let others = others-fewer 1 (active_in s f).place (party s f).members place.0 (omega (arith, place.1)) in
        few_by (is_committed (underway_in s f)) (has_no_slot_in s f) (usable_list s f) (switches_offered s f)
        (omega (arith, slots, four_in s t.terms f v.field)) (omega (arith, others, six_in s t.terms f v.field))

pub few_offered : (t : State) (s : Side) → IsState t → length (offered s t.field) ≤ 9
unfolding offered
few_offered t s valid = by (is_over t.field.outcome)
  where
    by : (b : Bool) → length (if b then [] else offered_for (request_of s t.field) s t.field) ≤ 9
    by true = omega arith
    by false = asked_few (request_of s t.field) s t valid refl

-- The table of six digits: how many of them are 1, and which.

-- The choices that a row lists

abbrev pub listed : List Choice → ℕ → List Choice
listed cs row = map (λ (p : ℕ). get_or cs (row / 2 ^ (4 * p) % 16) choices.Pass) (range_with_len 0 (row / 2 ^ 28))

abbrev pub row_of : ℕ → ℕ
row_of six = get_or ONES six 0

abbrev pub numbers : List ℕ
numbers = range_with_len 0 64

from_none : (n : ℕ) → 0 + n ≡ n
from_none n = omega arith

module _ (a b c d e f : Choice) where
  abbrev six_of : List Choice
  six_of = a ∷ b ∷ c ∷ d ∷ e ∷ f ∷ []

  each_row : map (λ (row : ℕ). listed six_of row) ONES ≡ map (λ (six : ℕ). chosen_by six six_of) numbers
  each_row = refl

  row-lists : (six : ℕ) → six < 64 → listed six_of (row_of six) ≡ chosen_by six six_of
  row-lists six few =
      agree_at (λ (row : ℕ). listed six_of row) (λ (n : ℕ). chosen_by n six_of) ONES numbers 0 0 each_row six (omega arith) (omega arith)
      ∙ ap (λ (n : ℕ). chosen_by n six_of) (get_or-range_with_len 0 64 six 0 few ∙ from_none six)

pub lists : (cs : List Choice) (six : ℕ) → length cs ≡ 6 → six < 64 → listed cs (row_of six) ≡ chosen_by six cs
lists [] six long few = absurd (omega (arith, long))
lists (a ∷ []) six long few = absurd (omega (arith, long))
lists (a ∷ b ∷ []) six long few = absurd (omega (arith, long))
lists (a ∷ b ∷ c ∷ []) six long few = absurd (omega (arith, long))
lists (a ∷ b ∷ c ∷ d ∷ []) six long few = absurd (omega (arith, long))
lists (a ∷ b ∷ c ∷ d ∷ e ∷ []) six long few = absurd (omega (arith, long))
lists (a ∷ b ∷ c ∷ d ∷ e ∷ f ∷ []) six long few = row-lists a b c d e f six few
lists (a ∷ b ∷ c ∷ d ∷ e ∷ f ∷ g ∷ cs) six long few = absurd (omega (arith, long))

pub counts : (cs : List Choice) (six : ℕ) → length cs ≡ 6 → six < 64 → row_of six / 2 ^ 28 ≡ length (chosen_by six cs)
counts cs six long few =
    let digits = range_with_len 0 (row_of six / 2 ^ 28) in
    sym (length-range_with_len 0 (row_of six / 2 ^ 28))
    ∙ sym (length-map digits (λ (p : ℕ). get_or cs (row_of six / 2 ^ (4 * p) % 16) choices.Pass))
    ∙ ap length (lists cs six long few)

pub finds : (cs : List Choice) (six place : ℕ) → length cs ≡ 6 → six < 64 → place < row_of six / 2 ^ 28
    → get_or (chosen_by six cs) place choices.Pass ≡ get_or cs (row_of six / 2 ^ (4 * place) % 16) choices.Pass
finds cs six place long few inside =
    let size = row_of six / 2 ^ 28 in
    let digits = range_with_len 0 size in
    let at = λ (p : ℕ). get_or cs (row_of six / 2 ^ (4 * p) % 16) choices.Pass in
    ap (λ (l : List Choice). get_or l place choices.Pass) (sym (lists cs six long few))
    ∙ get_or-map at digits place 0 choices.Pass (omega (arith, inside, length-range_with_len 0 size))
    ∙ ap at (get_or-range_with_len 0 size place 0 inside ∙ from_none place)

-- No number of six digits has more than six.
abbrev chosen-most-by : (b : Bool) (c : Choice) (l : List Choice) → length (if b then c ∷ l else l) ≤ 1 + length l
chosen-most-by true c l = omega arith
chosen-most-by false c l = omega arith

pub chosen-most : (m : ℕ) (cs : List Choice) → length (chosen_by m cs) ≤ length cs
chosen-most m [] = omega arith
chosen-most m (c ∷ cs) = omega (arith, chosen-most-by (m % 2 == 1) c (chosen_by (m / 2) cs), chosen-most (m / 2) cs)

-- Twelve digits are six and six

more_by : (b : Bool) (c : Choice) (l k r : List Choice) → l ≡ k ++ r → (if b then c ∷ l else l) ≡ (if b then c ∷ k else k) ++ r
more_by true c l k r same = ap (λ (x : List Choice). c ∷ x) same
more_by false c l k r same = same

more : (m : ℕ) (c : Choice) (cs ds r : List Choice) → chosen_by (m / 2) ds ≡ chosen_by (m / 2) cs ++ r → chosen_by m (c ∷ ds) ≡ chosen_by m (c ∷ cs) ++ r
more m c cs ds r same = more_by (m % 2 == 1) c (chosen_by (m / 2) ds) (chosen_by (m / 2) cs) r same

alike : (m n : ℕ) (c : Choice) (cs : List Choice) → m % 2 ≡ n % 2 → chosen_by (m / 2) cs ≡ chosen_by (n / 2) cs → chosen_by m (c ∷ cs) ≡ chosen_by n (c ∷ cs)
alike m n c cs digit rest = rw (digit, rest) refl

module _ (a b c d e f : Choice) where
  low-alike : (m : ℕ) → chosen_by m (a ∷ b ∷ c ∷ d ∷ e ∷ f ∷ []) ≡ chosen_by (m % 64) (a ∷ b ∷ c ∷ d ∷ e ∷ f ∷ [])
  low-alike m =
      let n = m % 64 in
      alike m n a (b ∷ c ∷ d ∷ e ∷ f ∷ []) (omega arith)
      (alike (m / 2) (n / 2) b (c ∷ d ∷ e ∷ f ∷ []) (omega arith)
      (alike (m / 2 / 2) (n / 2 / 2) c (d ∷ e ∷ f ∷ []) (omega arith)
      (alike (m / 2 / 2 / 2) (n / 2 / 2 / 2) d (e ∷ f ∷ []) (omega arith)
      (alike (m / 2 / 2 / 2 / 2) (n / 2 / 2 / 2 / 2) e (f ∷ []) (omega arith)
      (alike (m / 2 / 2 / 2 / 2 / 2) (n / 2 / 2 / 2 / 2 / 2) f [] (omega arith) refl)))))

  high-apart : (m : ℕ) (ds : List Choice) → chosen_by m (a ∷ b ∷ c ∷ d ∷ e ∷ f ∷ ds)
      ≡ chosen_by m (a ∷ b ∷ c ∷ d ∷ e ∷ f ∷ []) ++ chosen_by (m / 2 / 2 / 2 / 2 / 2 / 2) ds
  high-apart m ds =
      let r = chosen_by (m / 2 / 2 / 2 / 2 / 2 / 2) ds in
      more m a (b ∷ c ∷ d ∷ e ∷ f ∷ []) (b ∷ c ∷ d ∷ e ∷ f ∷ ds) r
      (more (m / 2) b (c ∷ d ∷ e ∷ f ∷ []) (c ∷ d ∷ e ∷ f ∷ ds) r
      (more (m / 2 / 2) c (d ∷ e ∷ f ∷ []) (d ∷ e ∷ f ∷ ds) r
      (more (m / 2 / 2 / 2) d (e ∷ f ∷ []) (e ∷ f ∷ ds) r
      (more (m / 2 / 2 / 2 / 2) e (f ∷ []) (f ∷ ds) r
      (more (m / 2 / 2 / 2 / 2 / 2) f [] ds r refl)))))

pub halves : (m : ℕ) → chosen_by m all_choices ≡ chosen_by (m % 64) moves_and_pass ++ chosen_by (m / 64) switches
halves m =
    let pass = choices.Pass in
    let high : m / 2 / 2 / 2 / 2 / 2 / 2 ≡ m / 64 = omega arith in
    high-apart pass (choices.Move 0) (choices.Move 1) (choices.Move 2) (choices.Move 3) (choices.Move 4) m switches
    ∙ ap (λ (l : List Choice). l ++ chosen_by (m / 2 / 2 / 2 / 2 / 2 / 2) switches)
    (low-alike pass (choices.Move 0) (choices.Move 1) (choices.Move 2) (choices.Move 3) (choices.Move 4) m)
    ∙ ap (λ (n : ℕ). chosen_by (m % 64) moves_and_pass ++ chosen_by n switches) high
