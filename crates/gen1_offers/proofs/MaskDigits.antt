-- The digits of the offered choices, as the code gathers them from the bytes.
use Rattle.std.proofs.Common.{Bool, List, [], ap, arith, false, inl, inr, length, nat_lt, refl, set, suc, sym, true, zero, ℕ, ◌&&◌, ◌%◌, ◌*◌, ◌+◌, ◌-◌, ◌/◌, ◌<◌, ◌==◌, ◌^◌, ◌≡◌, ◌≢◌, ◌≤◌, ◌⊎◌, ◌∙◌, ◌∷◌, All, None, Option, Some, get_or, not, subst, ◌++◌, if◌then◌else◌, is_some, ◌||◌}
use Rattle.std.proofs.lemmas.Bool.Decides.{eqb_tells, nat_tests}
use Rattle.std.proofs.lemmas.Nat.{and_comm, and_mod, and_shr, one_shl, and_assoc, and_mask}
use Rattle.std.proofs.lemmas.Nat.Bits.{and_pow}
use Rattle.std.specs.Int.{bit_not, w32}
use Rattle.std.specs.Int.RustNames.{bit_and}
use Rattle.gen1_machine.specs.Rules.{bit_of, Rules}
use Rattle.gen1_machine.specs.Layout.{number_of_bits, member_block, request_byte, status_byte}
use Rattle.gen1_layout.proofs.Counts.{and_nothing, bits_clear, bits_of-is, power, power_is}
use Rattle.gen1_offers.specs.OfferedChoices.{passing, all_choices, digits_of, is_usable, living_of, moves_and_pass, usable_of}
use Rattle.gen1_offers.proofs.OfferedSet.{other_number, asks_nothing, one_if, slots_usable, in_moves, no_move, usable_slot, no_move_to_switch, no_pass_to_switch, switch_offered, switches_out, or_no, or_yes, committed_slot, no_pass_to_move, no_slot}
use Rattle.std.proofs.lemmas.Bool.{cases_lt, false≢true}
use Rattle.std.proofs.lemmas.List.Elements.{All-get_or}
use Rattle.gen1_stats.specs.declared.member.KnownMove.{KnownMove}
use Rattle.gen1_stats.specs.declared.member.Status.{Status}
use Rattle.gen1_stats.specs.declared.member.Status.TheVariants.{Asleep, Burned, Frozen, Healthy, Paralysed, Poisoned}
use Rattle.gen1_stats.specs.Members.{IsKnown, IsMember, Member, nothing_known, sleeps_or_freezes, is_living}
use Rattle.gen1_machine.specs.declared.side.Side.{Side}
use Rattle.gen1_machine.specs.declared.side.Side.TheVariants.{One, Two}
use Rattle.gen1_machine.specs.declared.side.Choice.{Choice}
use Rattle.gen1_machine.specs.declared.side.DisabledSlot.{DisabledSlot}
use Rattle.gen1_machine.specs.declared.terms.Outcome.{Outcome}
use Rattle.gen1_machine.specs.declared.terms.Request.{Request}
use Rattle.gen1_machine.specs.OfferedChoices.{bars_slot, has_no_slot_in, is_committed, moves_offered, offered_for, or_struggle, switches_offered, usable_from, offered}
use Rattle.gen1_machine.specs.State.{Field, State, Terms, active_in, conditions_in, is_over, known_in, member_in, request_of, underway_in, member_at, party, status_in}
use Rattle.gen1_machine.specs.Step.{is_among, offers}
use Rattle.gen1_machine.specs.Valid.{IsStarted, IsState, IsStatus, IsUnstarted, StandsAs}
use Rattle.gen1_machine.specs.Sides.{other}
use Rattle.gen1_machine.specs.declared.side.Choice.TheVariants as choices
use Rattle.gen1_machine.specs.declared.terms.Outcome.TheVariants as outcomes
use Rattle.gen1_machine.specs.declared.terms.Request.TheVariants as requests

-- Binary digits as a list of tests: clearing one of them, and the digits of four bytes.

pub equal_number : (n k : ℕ) → n ≡ k → (n == k) ≡ true
equal_number n k e = by (eqb_tells n k)
  where
    by : (((n == k) ≡ true) × (n ≡ k)) ⊎ (((n == k) ≡ false) × (n ≢ k)) → (n == k) ≡ true
    by (inl h) = h.0
    by (inr h) = absurd (h.1 e)

pub either_way : (n k : ℕ) → (n == k) ≡ (k == n)
either_way n k = by (eqb_tells n k)
  where
    by : (((n == k) ≡ true) × (n ≡ k)) ⊎ (((n == k) ≡ false) × (n ≢ k)) → (n == k) ≡ (k == n)
    by (inl h) = h.0 ∙ sym (equal_number k n (sym h.1))
    by (inr h) = h.0 ∙ sym (other_number k n (λ e. h.1 (sym e)))

pub and_true : (b : Bool) → (b && true) ≡ b
and_true true = refl
and_true false = refl

pub and_false : (b : Bool) → (b && false) ≡ false
and_false true = refl
and_false false = refl

passing-behind : (k out : ℕ) (bs : List Bool) → out < k → passing k out bs ≡ bs
passing-behind k out [] behind = refl
passing-behind k out (b ∷ bs) behind =
    rw (other_number k out (λ e. omega (arith, e)), and_true b) (ap (λ (l : List Bool). b ∷ l) (passing-behind (k + 1) out bs (omega arith)))

pub passing-set : (k j out : ℕ) (bs : List Bool) → out ≡ k + j → set bs j false ≡ passing k out bs
passing-set k j out [] at = refl
passing-set k zero out (b ∷ bs) at =
    rw (equal_number k out (omega (arith, at)), and_false b) (ap (λ (l : List Bool). false ∷ l) (sym (passing-behind (k + 1) out bs (omega (arith, at)))))
passing-set k (suc j) out (b ∷ bs) at =
    rw (other_number k out (λ e. omega (arith, e, at)), and_true b) (ap (λ (l : List Bool). b ∷ l) (passing-set (k + 1) j out bs (omega (arith, at))))

-- An `&` with all bits but one.
pub taken_out : (bs : List Bool) (k : ℕ) → k < length bs → length bs ≤ 32
    → bit_and (number_of_bits bs) (bit_not w32 (1 * 2 ^ k % 2 ^ 32)) ≡ number_of_bits (set bs k false)
taken_out bs k inside few =
    let one : 1 * 2 ^ k % 2 ^ 32 ≡ power k = one_shl k 32 (omega arith) ∙ power_is k in
    ap (λ (n : ℕ). bit_and (number_of_bits bs) (bit_not w32 n)) one
    ∙ ap (λ (n : ℕ). bit_and n (bit_not w32 (power k))) (bits_of-is bs)
    ∙ bits_clear bs k 32 inside few
    ∙ sym (bits_of-is (set bs k false))

-- Clearing one of six places.
pub place_out : (bs : List Bool) (place : ℕ) → length bs ≡ 6 → 1 ≤ place → place ≤ 6
    → bit_and (number_of_bits bs) (bit_not w32 (1 * 2 ^ (place - 1) % 2 ^ 32)) ≡ number_of_bits (passing 1 place bs)
place_out bs place six least most =
    taken_out bs (place - 1) (omega arith) (omega arith) ∙ ap number_of_bits (passing-set 1 (place - 1) place bs (omega (arith, least)))

-- Adding a digit where there is none.
pub digit-added : (bs : List Bool) (k : ℕ) (b : Bool) → k < length bs → number_of_bits (set bs k false) + bit_of b * 2 ^ k ≡ number_of_bits (set bs k b)
digit-added [] k b inside = absurd (omega (arith, inside))
digit-added (x ∷ bs) zero true inside = omega arith
digit-added (x ∷ bs) zero false inside = omega arith
digit-added (x ∷ bs) (suc k) true inside = omega (arith, digit-added bs k true (omega (arith, inside)))
digit-added (x ∷ bs) (suc k) false inside = omega (arith, digit-added bs k false (omega (arith, inside)))

pub six_below : (a b c d e f : Bool) (high : List Bool)
    → number_of_bits (a ∷ b ∷ c ∷ d ∷ e ∷ f ∷ []) + 64 * number_of_bits high ≡ number_of_bits (a ∷ b ∷ c ∷ d ∷ e ∷ f ∷ high)
six_below a b c d e f high = omega arith

-- The highest bits of four bytes, gathered

eight : (x m : ℕ) → bit_and x (256 * m + 128) ≡ 256 * bit_and (x / 256) m + x / 128 % 2 * 128
eight x m =
    let above : bit_and x (256 * m + 128) / 2 ^ 8 ≡ bit_and (x / 2 ^ 8) ((256 * m + 128) / 2 ^ 8) = and_shr x (256 * m + 128) 8 in
    let half : (256 * m + 128) / 256 ≡ m = omega arith in
    let upper : bit_and x (256 * m + 128) / 256 ≡ bit_and (x / 256) m = above ∙ ap (bit_and (x / 256)) half in
    let below : bit_and x (256 * m + 128) % 2 ^ 8 ≡ bit_and (x % 2 ^ 8) ((256 * m + 128) % 2 ^ 8) = and_mod x (256 * m + 128) 8 in
    let rest : (256 * m + 128) % 256 ≡ 128 = omega arith in
    let one : bit_and (x % 256) 128 ≡ x % 256 / 128 % 2 * 128 = and_pow (x % 256) 7 in
    let lower : bit_and x (256 * m + 128) % 256 ≡ x % 256 / 128 % 2 * 128 = below ∙ ap (bit_and (x % 256)) rest ∙ one in
    omega arith

highest : (q : ℕ) → bit_and q 0x80808080
    ≡ q / 128 % 2 * 128 + 256 * (q / 256 / 128 % 2 * 128 + 256 * (q / 256 / 256 / 128 % 2 * 128 + 256 * (q / 256 / 256 / 256 / 128 % 2 * 128)))
highest q =
    let first : bit_and q 0x80808080 ≡ 256 * bit_and (q / 256) 0x808080 + q / 128 % 2 * 128 = eight q 0x808080 in
    let second : bit_and (q / 256) 0x808080 ≡ 256 * bit_and (q / 256 / 256) 0x8080 + q / 256 / 128 % 2 * 128 = eight (q / 256) 0x8080 in
    let third : bit_and (q / 256 / 256) 0x8080 ≡ 256 * bit_and (q / 256 / 256 / 256) 0x80 + q / 256 / 256 / 128 % 2 * 128 = eight (q / 256 / 256) 0x80 in
    let fourth : bit_and (q / 256 / 256 / 256) 0x80 ≡ 256 * bit_and (q / 256 / 256 / 256 / 256) 0 + q / 256 / 256 / 256 / 128 % 2 * 128 = eight (q / 256 / 256 / 256) 0 in
    let last : bit_and (q / 256 / 256 / 256 / 256) 0 ≡ 0 = and_comm (q / 256 / 256 / 256 / 256) 0 ∙ and_nothing (q / 256 / 256 / 256 / 256) in
    omega arith

gathered : (a b c d : Bool) → (bit_of a * 128 + 256 * (bit_of b * 128 + 256 * (bit_of c * 128 + 256 * (bit_of d * 128)))) * 0x204081 % 2 ^ 32 / 2 ^ 28
    ≡ number_of_bits (a ∷ b ∷ c ∷ d ∷ [])
gathered false false false false = refl
gathered false false false true = refl
gathered false false true false = refl
gathered false false true true = refl
gathered false true false false = refl
gathered false true false true = refl
gathered false true true false = refl
gathered false true true true = refl
gathered true false false false = refl
gathered true false false true = refl
gathered true false true false = refl
gathered true false true true = refl
gathered true true false false = refl
gathered true true false true = refl
gathered true true true false = refl
gathered true true true true = refl

-- A byte below 128 plus 127 has its highest bit exactly if the byte isn't 0.
positive : (n : ℕ) → 0 < n → nat_lt 0 n ≡ true
positive n h = grind (arith, nat_tests)

top : (a : ℕ) → a ≤ 128 → (a + 127) / 128 ≡ bit_of (nat_lt 0 a)
top zero small = refl
top (suc n) small = rw (positive (suc n) (omega arith)) (let one : (suc n + 127) / 128 ≡ 1 = omega arith in one)

pub four_bytes : (a b c d four : ℕ) → a ≤ 63 → b ≤ 63 → c ≤ 63 → d ≤ 63 → four ≡ a + b * 256 + c * 65536 + d * 16777216
    → bit_and ((four + 0x7f7f7f7f) % 2 ^ 32) 0x80808080 * 0x204081 % 2 ^ 32 / 2 ^ 28 ≡ number_of_bits (nat_lt 0 a ∷ nat_lt 0 b ∷ nat_lt 0 c ∷ nat_lt 0 d ∷ [])
four_bytes a b c d four small_a small_b small_c small_d is =
    let q : ℕ = (four + 0x7f7f7f7f) % 2 ^ 32 in
    let whole : q ≡ (a + 127) + 256 * ((b + 127) + 256 * ((c + 127) + 256 * (d + 127))) = omega arith in
    let one : q / 128 % 2 ≡ bit_of (nat_lt 0 a) = omega (arith, top a (omega arith)) in
    let two : q / 256 / 128 % 2 ≡ bit_of (nat_lt 0 b) = omega (arith, top b (omega arith)) in
    let three : q / 256 / 256 / 128 % 2 ≡ bit_of (nat_lt 0 c) = omega (arith, top c (omega arith)) in
    let last : q / 256 / 256 / 256 / 128 % 2 ≡ bit_of (nat_lt 0 d) = omega (arith, top d (omega arith)) in
    ap (λ (n : ℕ). n * 0x204081 % 2 ^ 32 / 2 ^ 28) (highest q ∙ (rw (one, two, three, last) refl))
    ∙ gathered (nat_lt 0 a) (nat_lt 0 b) (nat_lt 0 c) (nat_lt 0 d)

-- The byte of a status

seven : (n : ℕ) → n ≤ 7 → bit_and n 39 ≡ 0 → n ≡ 0
seven n few none =
    let low : bit_and (bit_and n 39) 7 ≡ bit_and n 7 = and_assoc 7 n 39 in
    let nothing : bit_and (bit_and n 39) 7 ≡ 0 = ap (λ (k : ℕ). bit_and k 7) none in
    let rest : bit_and n 7 ≡ n % 2 ^ 3 = and_mask n 3 in
    omega arith

pub awake : (rules : Rules) (status : Status) → IsStatus rules status → bit_and (status_byte status) 39 ≡ 0 → sleeps_or_freezes status ≡ false
awake rules Healthy ok none = refl
awake rules (Asleep turns marked) ok none = absurd (let z = seven turns ok.0.1 none in let low = ok.0.0 in omega arith)
awake rules Poisoned ok none = refl
awake rules Burned ok none = refl
awake rules Frozen ok none = absurd (let h : 32 ≡ 0 = none in cc)
awake rules Paralysed ok none = refl

pub not_awake : (status : Status) → (bit_and (status_byte status) 39 ≡ 0 → ⊥) → sleeps_or_freezes status ≡ true
not_awake Healthy some = absurd (some refl)
not_awake (Asleep turns marked) some = refl
not_awake Poisoned some = absurd (some refl)
not_awake Burned some = absurd (some refl)
not_awake Frozen some = refl
not_awake Paralysed some = absurd (some refl)

-- The PP of the four slots

past_end : (ms : List KnownMove) (i : ℕ) → length ms ≤ i → get_or ms i nothing_known ≡ nothing_known
past_end [] zero h = refl
past_end [] (suc i) h = refl
past_end (m ∷ ms) zero h = absurd (omega arith)
past_end (m ∷ ms) (suc i) h = past_end ms i (omega arith)

few_pp : (ms : List KnownMove) (i : ℕ) → All IsKnown ms → (get_or ms i nothing_known).pp ≤ 63
few_pp ms i known = by (cases_lt i (length ms))
  where
    by : (i < length ms) ⊎ (length ms ≤ i) → (get_or ms i nothing_known).pp ≤ 63
    by (inl inside) = (All-get_or IsKnown ms i nothing_known inside known).pp
    by (inr past) = rw (past_end ms i past) (omega arith)

abbrev pub some_pp : Member → List Bool
some_pp m =
    nat_lt 0 (known_in 1 m.moves).pp ∷ nat_lt 0 (known_in 2 m.moves).pp ∷ nat_lt 0 (known_in 3 m.moves).pp ∷ nat_lt 0 (known_in 4 m.moves).pp ∷ []

abbrev Reads : ℕ → List ℕ → Type 0
Reads n block =
    get_or block 19 0 ≤ 63 → get_or block 20 0 ≤ 63 → get_or block 21 0 ≤ 63 → get_or block 22 0 ≤ 63
    → n ≡ number_of_bits (nat_lt 0 (get_or block 19 0) ∷ nat_lt 0 (get_or block 20 0) ∷ nat_lt 0 (get_or block 21 0) ∷ nat_lt 0 (get_or block 22 0) ∷ [])

pub slots_read : (m : Member) (block : List ℕ) (n : ℕ) → IsMember m → block ≡ member_block m → Reads n block → n ≡ number_of_bits (some_pp m)
slots_read m block n ok is reads =
    let here : Reads n (member_block m) = subst (λ (l : List ℕ). Reads n l) is reads in
    here (few_pp m.moves 0 ok.known) (few_pp m.moves 1 ok.known) (few_pp m.moves 2 ok.known) (few_pp m.moves 3 ok.known)

-- The slots that have PP and aren't disabled

pub four_same : {a b c d a' b' c' d' : Bool} → a ≡ a' → b ≡ b' → c ≡ c' → d ≡ d' → (a ∷ b ∷ c ∷ d ∷ []) ≡ (a' ∷ b' ∷ c' ∷ d' ∷ [])
four_same p q r s = cc

pub six_same : {a b c d e g a' b' c' d' e' g' : Bool} (rest : List Bool) → a ≡ a' → b ≡ b' → c ≡ c' → d ≡ d' → e ≡ e' → g ≡ g'
    → (a ∷ b ∷ c ∷ d ∷ e ∷ g ∷ rest) ≡ (a' ∷ b' ∷ c' ∷ d' ∷ e' ∷ g' ∷ rest)
six_same rest p q r s t u = cc

abbrev free_of : Option DisabledSlot → Bool → Bool → Bool → Bool → List Bool
free_of disabled a b c d =
    (a && not (bars_slot disabled 1)) ∷ (b && not (bars_slot disabled 2)) ∷ (c && not (bars_slot disabled 3)) ∷ (d && not (bars_slot disabled 4)) ∷ []

flipped : (b : Bool) (k out : ℕ) → (b && not (k == out)) ≡ (b && not (out == k))
flipped b k out = ap (λ (t : Bool). b && not t) (either_way k out)

one_taken : (a b c d : Bool) (n slot : ℕ) → n ≡ number_of_bits (a ∷ b ∷ c ∷ d ∷ []) → slot ≤ 4
    → bit_and (2 * n) (bit_not w32 (1 * 2 ^ (slot % 32) % 2 ^ 32))
    ≡ number_of_bits (false ∷ (a && not (slot == 1)) ∷ (b && not (slot == 2)) ∷ (c && not (slot == 3)) ∷ (d && not (slot == 4)) ∷ [])
one_taken a b c d n slot is few =
    let bs : List Bool = false ∷ a ∷ b ∷ c ∷ d ∷ [] in
    let above : 2 * n ≡ number_of_bits bs = omega (arith, is) in
    let whole : slot % 32 ≡ slot = omega arith in
    ap (λ (k : ℕ). bit_and (2 * n) (bit_not w32 (1 * 2 ^ k % 2 ^ 32))) whole
    ∙ ap (λ (k : ℕ). bit_and k (bit_not w32 (1 * 2 ^ slot % 2 ^ 32))) above
    ∙ taken_out bs slot (omega arith) (omega arith)
    ∙ ap number_of_bits (passing-set 0 slot slot bs (omega arith)
    ∙ ap (λ (l : List Bool). false ∷ l) (four_same (flipped a 1 slot) (flipped b 2 slot) (flipped c 3 slot) (flipped d 4 slot)))

pub disabled_taken : (a b c d : Bool) (n : ℕ) (slot : DisabledSlot) (disabled : Option DisabledSlot) → n ≡ number_of_bits (a ∷ b ∷ c ∷ d ∷ []) → slot.slot ≤ 4
    → Some slot ≡ disabled → bit_and (2 * n) (bit_not w32 (1 * 2 ^ (slot.slot % 32) % 2 ^ 32)) ≡ number_of_bits (false ∷ free_of disabled a b c d)
disabled_taken a b c d n slot disabled is few e =
    one_taken a b c d n slot.slot is few ∙ ap (λ (o : Option DisabledSlot). number_of_bits (false ∷ free_of o a b c d)) e

pub none_taken : (a b c d : Bool) (n : ℕ) (disabled : Option DisabledSlot) → n ≡ number_of_bits (a ∷ b ∷ c ∷ d ∷ []) → None ≡ disabled
    → 2 * n ≡ number_of_bits (false ∷ free_of disabled a b c d)
none_taken a b c d n disabled is e =
    let above : 2 * n ≡ number_of_bits (false ∷ a ∷ b ∷ c ∷ d ∷ []) = omega (arith, is) in
    above ∙ ap (λ (l : List Bool). number_of_bits (false ∷ l)) (sym (four_same (and_true a) (and_true b) (and_true c) (and_true d)))
    ∙ ap (λ (o : Option DisabledSlot). number_of_bits (false ∷ free_of o a b c d)) e

-- The moves

pub usable_of_slot : (s : Side) (f : Field) (slot : ℕ) → has_no_slot_in s f ≡ false → 1 ≤ slot → is_among (choices.Move slot) (moves_offered s f) ≡ is_usable s f slot
usable_of_slot s f slot e low = rw e (usable_slot (conditions_in s f).disabled (member_in s f).moves slot low)

abbrev pub usable_list : Side → Field → List Choice
usable_list s f = usable_from 1 (conditions_in s f).disabled (member_in s f).moves

struggles : (l : List Choice) → is_among (choices.Move 0) l ≡ false → is_among (choices.Move 0) (or_struggle l) ≡ (length l == 0)
struggles [] h = refl
struggles (c ∷ l) h = h ∙ sym (other_number (length (c ∷ l)) 0 (λ e. cc))

pub move_digits : (s : Side) (f : Field) → has_no_slot_in s f ≡ false → is_among (choices.Move 0) (usable_list s f) ≡ false
    → digits_of moves_and_pass (moves_offered s f) ≡ false ∷ (length (usable_list s f) == 0) ∷ usable_of s f
move_digits s f e behind =
    six_same [] (no_move choices.Pass (λ k. refl) s f) (rw e (struggles (usable_list s f) behind))
    (usable_of_slot s f 1 e (omega arith)) (usable_of_slot s f 2 e (omega arith)) (usable_of_slot s f 3 e (omega arith)) (usable_of_slot s f 4 e (omega arith))

-- Whether any slot is usable

abbrev four_ifs : Bool → Bool → Bool → Bool → Choice → Choice → Choice → Choice → List Choice
four_ifs a b c d x y z w = one_if a x ++ (one_if b y ++ (one_if c z ++ (one_if d w ++ [])))

is_empty-none : (a b c d : Bool) (x y z w : Choice) → number_of_bits (false ∷ a ∷ b ∷ c ∷ d ∷ []) ≡ 0 → (length (four_ifs a b c d x y z w) == 0) ≡ true
is_empty-none true b c d x y z w h = absurd (omega (arith, h))
is_empty-none false true c d x y z w h = absurd (omega (arith, h))
is_empty-none false false true d x y z w h = absurd (omega (arith, h))
is_empty-none false false false true x y z w h = absurd (omega (arith, h))
is_empty-none false false false false x y z w h = refl

filled : (x : Choice) (l : List Choice) → (length (x ∷ l) == 0) ≡ false
filled x l = other_number (length (x ∷ l)) 0 (λ e. cc)

is_empty-some : (a b c d : Bool) (x y z w : Choice) → (number_of_bits (false ∷ a ∷ b ∷ c ∷ d ∷ []) ≡ 0 → ⊥) → (length (four_ifs a b c d x y z w) == 0) ≡ false
is_empty-some true b c d x y z w h = filled x (one_if b y ++ (one_if c z ++ (one_if d w ++ [])))
is_empty-some false true c d x y z w h = filled y (one_if c z ++ (one_if d w ++ []))
is_empty-some false false true d x y z w h = filled z (one_if d w ++ [])
is_empty-some false false false true x y z w h = filled w []
is_empty-some false false false false x y z w h = absurd (h refl)

pub nothing_usable : (s : Side) (f : Field) → length (member_in s f).moves ≤ 4 → number_of_bits (false ∷ usable_of s f) ≡ 0 → (length (usable_list s f) == 0) ≡ true
nothing_usable s f few none =
    ap (λ (l : List Choice). length l == 0) (sym (slots_usable s f few))
    ∙ is_empty-none (is_usable s f 1) (is_usable s f 2) (is_usable s f 3) (is_usable s f 4) (choices.Move 1) (choices.Move 2) (choices.Move 3) (choices.Move 4) none

pub something_usable : (s : Side) (f : Field) → length (member_in s f).moves ≤ 4 → (number_of_bits (false ∷ usable_of s f) ≡ 0 → ⊥) → (length (usable_list s f) == 0) ≡ false
something_usable s f few some =
    ap (λ (l : List Choice). length l == 0) (sym (slots_usable s f few))
    ∙ is_empty-some (is_usable s f 1) (is_usable s f 2) (is_usable s f 3) (is_usable s f 4) (choices.Move 1) (choices.Move 2) (choices.Move 3) (choices.Move 4) some

pub no_slot_digits : (s : Side) (f : Field) → has_no_slot_in s f ≡ true → 2 ≡ number_of_bits (digits_of moves_and_pass (moves_offered s f))
no_slot_digits s f e = rw e refl

pub struggle_digits : (a b c d : Bool) → number_of_bits (false ∷ a ∷ b ∷ c ∷ d ∷ []) ≡ 0 → 2 ≡ number_of_bits (false ∷ true ∷ a ∷ b ∷ c ∷ d ∷ [])
struggle_digits a b c d h = omega (arith, h)

-- The switches

pub switch_digits : (s : Side) (f : Field) → digits_of all_choices (switches_offered s f)
    ≡ (false ∷ false ∷ false ∷ false ∷ false ∷ false ∷ []) ++ passing 1 (active_in s f).place (living_of s f)
switch_digits s f =
    six_same _ (no_pass_to_switch s f) (no_move_to_switch s f 0) (no_move_to_switch s f 1) (no_move_to_switch s f 2) (no_move_to_switch s f 3) (no_move_to_switch s f 4)
    ∙ ap (λ (l : List Bool). (false ∷ false ∷ false ∷ false ∷ false ∷ false ∷ []) ++ l)
    (six_same [] (switch_offered s f 1 (omega arith)) (switch_offered s f 2 (omega arith)) (switch_offered s f 3 (omega arith))
    (switch_offered s f 4 (omega arith)) (switch_offered s f 5 (omega arith)) (switch_offered s f 6 (omega arith)))

-- Moves and switches

beside : (s : Side) (f : Field) (c : Choice) → is_committed (underway_in s f) ≡ false → is_among c (switches_offered s f) ≡ false
    → is_among c (offered_for requests.Move s f) ≡ is_among c (moves_offered s f)
beside s f c e none = rw e (in_moves c s f none)

switch_beside : (s : Side) (f : Field) (place : ℕ) → is_committed (underway_in s f) ≡ false → 1 ≤ place
    → is_among (choices.Switch place) (offered_for requests.Move s f) ≡ is_among (choices.Switch place) (switches_offered s f)
switch_beside s f place e low = switches_out s f place e

pub both_digits : (s : Side) (f : Field) → is_committed (underway_in s f) ≡ false → digits_of all_choices (offered_for requests.Move s f)
    ≡ digits_of moves_and_pass (moves_offered s f) ++ passing 1 (active_in s f).place (living_of s f)
both_digits s f e =
    six_same _ (beside s f choices.Pass e (no_pass_to_switch s f)) (beside s f (choices.Move 0) e (no_move_to_switch s f 0)) (beside s f (choices.Move 1) e (no_move_to_switch s f 1))
    (beside s f (choices.Move 2) e (no_move_to_switch s f 2)) (beside s f (choices.Move 3) e (no_move_to_switch s f 3)) (beside s f (choices.Move 4) e (no_move_to_switch s f 4))
    ∙ ap (λ (l : List Bool). digits_of moves_and_pass (moves_offered s f) ++ l)
    (six_same [] (switch_beside s f 1 e (omega arith) ∙ switch_offered s f 1 (omega arith)) (switch_beside s f 2 e (omega arith) ∙ switch_offered s f 2 (omega arith))
    (switch_beside s f 3 e (omega arith) ∙ switch_offered s f 3 (omega arith)) (switch_beside s f 4 e (omega arith) ∙ switch_offered s f 4 (omega arith))
    (switch_beside s f 5 e (omega arith) ∙ switch_offered s f 5 (omega arith)) (switch_beside s f 6 e (omega arith) ∙ switch_offered s f 6 (omega arith)))

-- By the request

pub asks_move : (r : Request) → 1 ≡ request_byte r → r ≡ requests.Move
asks_move requests.Pass e = cc
asks_move requests.Move e = refl
asks_move requests.Switch e = cc

pub asks_switch : (r : Request) → 2 ≡ request_byte r → r ≡ requests.Switch
asks_switch requests.Pass e = cc
asks_switch requests.Move e = cc
asks_switch requests.Switch e = refl

pub asks_pass : (r : Request) (byte : ℕ) → byte ≡ request_byte r → (byte ≡ 1 → ⊥) → (byte ≡ 2 → ⊥) → r ≡ requests.Pass
asks_pass requests.Pass byte e one two = refl
asks_pass requests.Move byte e one two = absurd (one e)
asks_pass requests.Switch byte e one two = absurd (two e)

-- A side is asked for something only while the battle continues

nothing_asked : (s : Side) (f : Field) {r : Request} → (f.request_one ≡ requests.Pass) → (f.request_two ≡ requests.Pass) → request_of s f ≡ r → (requests.Pass ≡ r → ⊥) → ⊥
nothing_asked One f one two is apart = apart (sym one ∙ is)
nothing_asked Two f one two is apart = apart (sym two ∙ is)

going_by : (s : Side) (o : Outcome) (terms : Terms) (f : Field) {r : Request} → StandsAs o terms f → request_of s f ≡ r → (requests.Pass ≡ r → ⊥) → is_over o ≡ false
going_by s outcomes.Ongoing terms f stands is apart = refl
going_by s outcomes.WinOne terms f stands is apart = absurd (nothing_asked s f stands.0.one stands.0.two is apart)
going_by s outcomes.WinTwo terms f stands is apart = absurd (nothing_asked s f stands.0.one stands.0.two is apart)
going_by s outcomes.Tie terms f stands is apart = absurd (nothing_asked s f stands.0.one stands.0.two is apart)
going_by s (outcomes.Fault n) terms f stands is apart = absurd (nothing_asked s f stands.one stands.two is apart)

pub goes_on : (s : Side) (t : State) {r : Request} → IsState t → request_of s t.field ≡ r → (requests.Pass ≡ r → ⊥) → is_over t.field.outcome ≡ false
goes_on s t {r = r} valid is apart = by valid.field
  where
    by : IsUnstarted t.terms t.field ⊎ IsStarted t.terms t.field → is_over t.field.outcome ≡ false
    by (inl u) = absurd (apart (sym (asks_nothing s t.terms t.field u) ∙ is))
    by (inr v) = going_by s t.field.outcome t.terms t.field v.requests is apart

-- Whether a choice is offered, by the byte of the request and by the tests for having no slot.

-- A battle that asks for something continues, and the request settles what is offered.
pub offers_asked : (side : Side) (s : State) (c : Choice) {r : Request} → IsState s → request_of side s.field ≡ r → (requests.Pass ≡ r → ⊥)
    → offers s side c ≡ is_among c (offered_for r side s.field)
unfolding offered
offers_asked side s c valid asked apart = rw (goes_on side s valid asked apart) (ap (λ (r : Request). is_among c (offered_for r side s.field)) asked)

-- A choice that isn't of the kind that is asked for

pub pass_unasked : (side : Side) (s : State) (byte : ℕ) → byte ≡ request_byte (request_of side s.field) → (byte ≡ 0 → ⊥) → offers s side choices.Pass ≡ false
unfolding offered
pass_unasked side s byte is apart = by (is_over s.field.outcome) (request_of side s.field) is
  where
    by : (over : Bool) (r : Request) → byte ≡ request_byte r → is_among choices.Pass (if over then [] else offered_for r side s.field) ≡ false
    by true r e = refl
    by false requests.Pass e = absurd (apart e)
    by false requests.Move e = no_pass_to_move side s.field
    by false requests.Switch e = no_pass_to_switch side s.field

pub move_unasked : (side : Side) (s : State) (slot byte : ℕ) → byte ≡ request_byte (request_of side s.field) → (byte ≡ 1 → ⊥)
    → offers s side (choices.Move slot) ≡ false
unfolding offered
move_unasked side s slot byte is apart = by (is_over s.field.outcome) (request_of side s.field) is
  where
    by : (over : Bool) (r : Request) → byte ≡ request_byte r → is_among (choices.Move slot) (if over then [] else offered_for r side s.field) ≡ false
    by true r e = refl
    by false requests.Pass e = refl
    by false requests.Move e = absurd (apart e)
    by false requests.Switch e = no_move_to_switch side s.field slot

pub switch_unasked : (side : Side) (s : State) (place byte : ℕ) → byte ≡ request_byte (request_of side s.field) → (byte ≡ 1 → ⊥) → (byte ≡ 2 → ⊥)
    → offers s side (choices.Switch place) ≡ false
unfolding offered
switch_unasked side s place byte is one two = by (is_over s.field.outcome) (request_of side s.field) is
  where
    by : (over : Bool) (r : Request) → byte ≡ request_byte r → is_among (choices.Switch place) (if over then [] else offered_for r side s.field) ≡ false
    by true r e = refl
    by false requests.Pass e = refl
    by false requests.Move e = absurd (one e)
    by false requests.Switch e = absurd (two e)

pub pass_asked : (side : Side) (s : State) (byte : ℕ) → byte ≡ request_byte (request_of side s.field) → byte ≡ 0 → offers s side choices.Pass ≡ not (is_over s.field.outcome)
unfolding offered
pass_asked side s byte is none = by (is_over s.field.outcome) (request_of side s.field) is
  where
    by : (over : Bool) (r : Request) → byte ≡ request_byte r → is_among choices.Pass (if over then [] else offered_for r side s.field) ≡ not over
    by true r e = refl
    by false requests.Pass e = refl
    by false requests.Move e = absurd (let k = sym none ∙ e in cc)
    by false requests.Switch e = absurd (let k = sym none ∙ e in cc)

-- What leaves no slot, in the order of the tests

regrouped : (commits sleeps bides traps held : Bool) → (commits || (sleeps || bides || traps || held)) ≡ (commits || bides || traps || sleeps || held)
regrouped true sleeps bides traps held = refl
regrouped false true bides traps held = sym (ap (λ (b : Bool). b || held) (or_yes (bides || traps)))
regrouped false false bides traps held = sym (ap (λ (b : Bool). b || held) (or_no (bides || traps)))

pub pick_tests : (s : Side) (f : Field) → (is_committed (underway_in s f) || has_no_slot_in s f)
    ≡ (is_committed (underway_in s f) || is_some (underway_in s f).bide || is_some (underway_in s f).trapping
    || sleeps_or_freezes (status_in s f) || is_some (underway_in (other s) f).trapping)
pick_tests s f =
    regrouped (is_committed (underway_in s f)) (sleeps_or_freezes (status_in s f)) (is_some (underway_in s f).bide) (is_some (underway_in s f).trapping)
    (is_some (underway_in (other s) f).trapping)

pub neither : (a b : Bool) → (a || b) ≡ false → (a ≡ false) × (b ≡ false)
neither true b h = absurd (false≢true (sym h))
neither false b h = (refl, h)

pub unpicked_slot : (s : Side) (f : Field) (slot : ℕ) → (is_committed (underway_in s f) || has_no_slot_in s f) ≡ true → 1 ≤ slot
    → is_among (choices.Move slot) (offered_for requests.Move s f) ≡ false
unpicked_slot s f slot none low = by (is_committed (underway_in s f)) (has_no_slot_in s f) refl refl none
  where
    above : (slot == 0) ≡ false
    above = other_number slot 0 (λ e. omega (arith, e))

    by : (a b : Bool) → is_committed (underway_in s f) ≡ a → has_no_slot_in s f ≡ b → (a || b) ≡ true
        → is_among (choices.Move slot) (offered_for requests.Move s f) ≡ false
    by true b p q h = committed_slot s f slot p ∙ above
    by false true p q h = no_slot s f slot p q ∙ above
    by false false p q h = absurd (false≢true h)

-- No digit of a usable slot is 1 exactly if no move is usable.
pub none_usable : (s : Side) (f : Field) → length (member_in s f).moves ≤ 4 → (number_of_bits (false ∷ usable_of s f) == 0) ≡ (length (usable_list s f) == 0)
none_usable s f few = by (eqb_tells (number_of_bits (false ∷ usable_of s f)) 0)
  where
    by : (((number_of_bits (false ∷ usable_of s f) == 0) ≡ true) × (number_of_bits (false ∷ usable_of s f) ≡ 0))
        ⊎ (((number_of_bits (false ∷ usable_of s f) == 0) ≡ false) × (number_of_bits (false ∷ usable_of s f) ≢ 0))
        → (number_of_bits (false ∷ usable_of s f) == 0) ≡ (length (usable_list s f) == 0)
    by (inl h) = h.0 ∙ sym (nothing_usable s f few h.1)
    by (inr h) = h.0 ∙ sym (something_usable s f few h.1)

-- A switch, by whether the member is out already

pub out_already : (s : Side) (f : Field) (place : ℕ) → 1 ≤ place → (place == (active_in s f).place) ≡ true → is_among (choices.Switch place) (switches_offered s f) ≡ false
out_already s f place low out =
    switch_offered s f place low ∙ ap (λ (b : Bool). is_living (member_at place (party s f)) && not b) out ∙ and_false (is_living (member_at place (party s f)))

pub out_yet : (s : Side) (f : Field) (place : ℕ) → 1 ≤ place → (place == (active_in s f).place) ≡ false
    → is_among (choices.Switch place) (switches_offered s f) ≡ is_living (member_at place (party s f))
out_yet s f place low waits =
    switch_offered s f place low ∙ ap (λ (b : Bool). is_living (member_at place (party s f)) && not b) waits ∙ and_true (is_living (member_at place (party s f)))
