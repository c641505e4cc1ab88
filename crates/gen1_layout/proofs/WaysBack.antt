-- Reading a field back from its bytes, and the packing of a battle, cut into parts.
use Rattle.std.proofs.Common.{Bool, List, None, Option, Some, [], ap, arith, cond, false, is_some, length, lit<, lit≤, map, min, max, nat_le, refl, replicate, slice_index, subst, suc, sym, true, zero, get_or, ℕ, ◌%◌, ◌*◌, ◌+◌, ◌++◌, ◌-◌, ◌/◌, ◌<◌, ◌==◌, ◌≡◌, ◌≤◌, ◌∙◌, ◌∷◌, inl, inr, ◌⊎◌, set, take, length-append, nat_eq}
use Rattle.std.proofs.Math.Nat.{div-le_self}
use Rattle.std.proofs.Math.Bool.{or-false}
use Rattle.std.proofs.lemmas.List.{get_or-append_right, get_or-replicate, get_or-take, length-map, length-replicate, length-take-le}
use Rattle.std.proofs.lemmas.List.Elements.{All-get_or}
use Rattle.byteorder.specs.Endian.{little_number}
use Rattle.byteorder.specs.Numbers.{little_number-reads_back}
use Rattle.gen1_tables.specs.declared.types.Element.{Element}
use Rattle.gen1_tables.specs.declared.types.Element.TheVariants.{Normal, Fighting, Flying, Poison, Ground, Rock, Bug, Ghost, Fire, Water, Grass, Electric, Psychic, Ice, Dragon}
use Rattle.gen1_tables.specs.Types.{number_of, any}
use Rattle.gen1_tables.specs.declared.effect.Stat.{Stat}
use Rattle.gen1_tables.specs.declared.effect.Stat.TheVariants.{Attack, Defense, Speed, Special, Accuracy, Evasion}
use Rattle.gen1_stats.specs.declared.member.Status.{Status}
use Rattle.gen1_stats.specs.declared.member.Status.TheVariants.{Healthy, Asleep, Poisoned, Burned, Frozen, Paralysed}
use Rattle.std.proofs.lemmas.Bool.Decides.{nat_tests}
use Rattle.std.specs.Prelude.{if◌then◌else◌, ◌&&◌, ◌||◌}
use Rattle.gen1_stats.specs.Members.{is_living, is_marked, nobody, IsBetween, Member}
use Rattle.gen1_machine.specs.declared.side.Side.{Side}
use Rattle.gen1_machine.specs.declared.side.Side.TheVariants.{One, Two}
use Rattle.gen1_machine.specs.declared.terms.Outcome.{Outcome}
use Rattle.gen1_machine.specs.declared.terms.Request.{Request}
use Rattle.gen1_machine.specs.declared.side.UsedMove.{UsedMove}
use Rattle.gen1_machine.specs.declared.side.UsedMove.TheVariants.{Nothing, Slot, Struggle}
use Rattle.gen1_machine.specs.Rules.{bit_of, bits_of_rules, rules_of, Rules}
use Rattle.gen1_machine.specs.State.{known_in, member_at, member_in, party, Active, Field, Party, State, Terms}
use Rattle.gen1_machine.specs.CurrentStats.{now}
use Rattle.gen1_machine.specs.Stages.{at_stage, divided_times, percent_at}
use Rattle.gen1_machine.specs.Layout.{high_byte, low_byte, member_block, member_blocks, outcome_byte, request_byte, status_byte, used_byte, header_block, active_block, active_block_of, bytes_of, number_at}
use Rattle.gen1_machine.specs.Valid.{IsMembersUnder, IsMemberUnder, IsOutcome, IsStatus, IsUsedMove, IsStarted, IsUnstarted}
use Rattle.gen1_layout.specs.Parts.{member_of, Parts, element_of, outcome_of, request_of_byte, status_of, used_of, active_of, with_member, with_side, parts_of}
use Rattle.gen1_layout.specs.Shows.{state_in, Packs, Setting, Within, blocks_of}
use Rattle.gen1_layout.proofs.Steps.{blocks_get, member_ok}
use Rattle.std.specs.List.{refill}
use Rattle.gen1_layout.specs.Loading.{version_three}
use Rattle.gen1_layout.specs.LoadingLaws.{IsBattle, StandsForSome}
use Rattle.gen1_rolls.specs.Steady.{turned}
use Rattle.gen1_rolls.specs.Streams.{byte_at, times_renewed}
use Rattle.gen1_machine.specs.declared.terms.Outcome.TheVariants as outcomes
use Rattle.gen1_machine.specs.declared.terms.Request.TheVariants as requests

-- Numbers

pub word_back : (v : ℕ) (rest : List ℕ) → v < 65536 → little_number 2 (low_byte v ∷ high_byte v ∷ rest) ≡ v
word_back v rest h = little_number-reads_back 2 v rest h

-- 17 bits in four bytes.
pub long_back : (v : ℕ) (rest : List ℕ) → v < 131072
    → little_number 4 (low_byte v ∷ high_byte v ∷ low_byte (v / 65536) ∷ high_byte (v / 65536) ∷ rest) ≡ v
long_back v rest h = omega arith

-- The top byte of 17 bits, which is 0 in both forms.
pub top_byte : (v : ℕ) → v < 131072 → v / 16777216 % 256 ≡ high_byte (v / 65536)
top_byte v h = omega arith

-- Enumerations

pub outcome_back : (o : Outcome) → IsOutcome o → outcome_of (outcome_byte o) ≡ o
outcome_back outcomes.Ongoing h = refl
outcome_back outcomes.WinOne h = refl
outcome_back outcomes.WinTwo h = refl
outcome_back outcomes.Tie h = refl
outcome_back (outcomes.Fault zero) h = absurd (omega (arith, h.0))
outcome_back (outcomes.Fault (suc zero)) h = refl
outcome_back (outcomes.Fault (suc (suc zero))) h = refl
outcome_back (outcomes.Fault (suc (suc (suc n)))) h = absurd (omega (arith, h.1))

pub request_back : (r : Request) → request_of_byte (request_byte r) ≡ r
request_back requests.Pass = refl
request_back requests.Move = refl
request_back requests.Switch = refl

pub sleep_back : (r : Rules) → bits_of_rules r % 2 == 1 ≡ r.sleep_clause
sleep_back r = both r.sleep_clause r.freeze_clause
  where
    both : (a b : Bool) → (bit_of a + 2 * bit_of b) % 2 == 1 ≡ a
    both true true = refl
    both true false = refl
    both false true = refl
    both false false = refl

pub freeze_back : (r : Rules) → bits_of_rules r / 2 == 1 ≡ r.freeze_clause
freeze_back r = both r.sleep_clause r.freeze_clause
  where
    both : (a b : Bool) → (bit_of a + 2 * bit_of b) / 2 == 1 ≡ b
    both true true = refl
    both true false = refl
    both false true = refl
    both false false = refl

pub rules_back : (r : Rules) → (if nat_le (bits_of_rules r) 3 then Some (rules_of (bits_of_rules r)) else None) ≡ Some r
rules_back r = both r.sleep_clause r.freeze_clause
  where
    both : (a b : Bool) → (if nat_le (bit_of a + 2 * bit_of b) 3 then Some (rules_of (bit_of a + 2 * bit_of b)) else None) ≡ Some (record { sleep_clause = a; freeze_clause = b })
    both true true = refl
    both true false = refl
    both false true = refl
    both false false = refl

pub bit_back : (b : Bool) → (bit_of b == 1) ≡ b
bit_back true = refl
bit_back false = refl

mark_back : (n : ℕ) (marked : Bool) → Asleep n (bit_of marked == 1) ≡ Asleep n marked
mark_back n marked = ap (Asleep n) (bit_back marked)

pub status_back : (rules : Rules) (s : Status) → IsStatus rules s → status_of (status_byte s) (bit_of (is_marked s)) ≡ s
status_back rules Healthy h = refl
status_back rules (Asleep zero marked) h = absurd (omega (arith, h.0.0))
status_back rules (Asleep (suc zero) marked) h = mark_back 1 marked
status_back rules (Asleep (suc (suc zero)) marked) h = mark_back 2 marked
status_back rules (Asleep (suc (suc (suc zero))) marked) h = mark_back 3 marked
status_back rules (Asleep (suc (suc (suc (suc zero)))) marked) h = mark_back 4 marked
status_back rules (Asleep (suc (suc (suc (suc (suc zero))))) marked) h = mark_back 5 marked
status_back rules (Asleep (suc (suc (suc (suc (suc (suc zero)))))) marked) h = mark_back 6 marked
status_back rules (Asleep (suc (suc (suc (suc (suc (suc (suc zero))))))) marked) h = mark_back 7 marked
status_back rules (Asleep (suc (suc (suc (suc (suc (suc (suc (suc n)))))))) marked) h = absurd (omega (arith, h.0.1))
status_back rules Poisoned h = refl
status_back rules Burned h = refl
status_back rules Frozen h = refl
status_back rules Paralysed h = refl

pub used_back : (count : ℕ) (u : UsedMove) → count ≤ 4 → IsUsedMove count u → used_of (used_byte u) ≡ u
used_back count Nothing few h = refl
used_back count (Slot zero) few h = absurd (omega (arith, h.0))
used_back count (Slot (suc zero)) few h = refl
used_back count (Slot (suc (suc zero))) few h = refl
used_back count (Slot (suc (suc (suc zero)))) few h = refl
used_back count (Slot (suc (suc (suc (suc zero))))) few h = refl
used_back count (Slot (suc (suc (suc (suc (suc k)))))) few h = absurd (omega (arith, h.1))
used_back count Struggle few h = refl

pub element_back : (t : Element) → element_of (number_of t) ≡ t
element_back Normal = refl
element_back Fighting = refl
element_back Flying = refl
element_back Poison = refl
element_back Ground = refl
element_back Rock = refl
element_back Bug = refl
element_back Ghost = refl
element_back Fire = refl
element_back Water = refl
element_back Grass = refl
element_back Electric = refl
element_back Psychic = refl
element_back Ice = refl
element_back Dragon = refl

-- Options

pub none_back : {A : Type 0} (o : Option A) → is_some o ≡ false → None ≡ o
none_back None e = refl
none_back (Some a) e = cc

-- Members, and places without one

below_or : (a b : ℕ) → (a < b) ⊎ (b ≤ a)
below_or a b = grind arith

get_or-past : {A : Type 0} (xs : List A) (k : ℕ) (d : A) → length xs ≤ k → get_or xs k d ≡ d
get_or-past [] k d h = refl
get_or-past (x ∷ xs) zero d h = absurd (omega arith)
get_or-past (x ∷ xs) (suc k) d h = get_or-past xs k d (omega arith)

pub blocks_any : (ms : List Member) (k : ℕ) → length ms ≤ 6 → k < 6 → get_or (member_blocks ms) k [] ≡ member_block (get_or ms k nobody)
blocks_any ms k few small = elim (below_or k (length ms)) [
  | inl inside ↦ blocks_get ms k few inside
  | inr past ↦ (
      let blocks = map member_block ms in
      let long : length blocks ≤ k = rw length-map past in
      get_or-take 6 (blocks ++ replicate 6 (replicate 24 0)) k [] small
      ∙ get_or-append_right blocks (replicate 6 (replicate 24 0)) (length blocks) k [] refl long
      ∙ get_or-replicate 6 (k - length blocks) (replicate 24 0) [] (omega arith) ∙ ap member_block (sym (get_or-past ms k nobody past)))
]

-- What is known while a side may have no member out

module _ {g : Setting} {p : Parts} {f : Field} (h : Packs g p f) where
  pub header_packs : p.header ≡ header_block (state_in g f)
  header_packs = ap (λ (q : Parts). q.header) h.same

  pub members_in : (s : Side) → IsMembersUnder g.terms.rules (party s f).members
  members_in One = h.one
  members_in Two = h.two

  member_packs : (s : Side) (place : ℕ) → member_of s place p ≡ get_or (member_blocks (party s f).members) (place - 1) []
  member_packs One place = ap (λ (q : Parts). get_or q.one.members (place - 1) []) h.same
  member_packs Two place = ap (λ (q : Parts). get_or q.two.members (place - 1) []) h.same

  -- The member at any place.
  pub any_holds : (s : Side) (place : ℕ) → 1 ≤ place → place ≤ 6 → member_of s place p ≡ member_block (member_at place (party s f))
  any_holds s place low high = member_packs s place ∙ blocks_any (party s f).members (place - 1) (members_in s).size.1 (omega arith)

  ok_at : (s : Side) (place : ℕ) → IsMemberUnder g.terms.rules (member_at place (party s f)) ⊎ (member_at place (party s f) ≡ nobody)
  ok_at s place =
      let v = members_in s in
      elim (below_or (place - 1) (length (party s f).members)) [
        | inl inside ↦ inl (All-get_or (IsMemberUnder g.terms.rules) (party s f).members (place - 1) nobody inside v.each)
        | inr past ↦ inr (get_or-past (party s f).members (place - 1) nobody past)
      ]

  pub hp_fits_at : (s : Side) (place : ℕ) → (member_at place (party s f)).hp < 65536
  hp_fits_at s place = elim (ok_at s place) [
    | inl ok ↦ omega (arith, ok.numbers.hp, ok.numbers.max.1)
    | inr e ↦ subst (λ (m : Member). m.hp < 65536) (sym e) (lit< tt)
  ]

  pub status_ok_at : (s : Side) (place : ℕ) → IsStatus g.terms.rules (member_at place (party s f)).status
  status_ok_at s place = elim (ok_at s place) [
    | inl ok ↦ ok.status
    | inr e ↦ subst (λ (m : Member). IsStatus g.terms.rules m.status) (sym e) tt
  ]

  -- A place with a member.
  pub ok_inside : (s : Side) (place : ℕ) → 1 ≤ place → place ≤ length (party s f).members → IsMemberUnder g.terms.rules (member_at place (party s f))
  ok_inside s place low high = All-get_or (IsMemberUnder g.terms.rules) (party s f).members (place - 1) nobody (omega arith) (members_in s).each

  -- A place without a member.
  pub nobody_past : (s : Side) (place : ℕ) → length (party s f).members < place → member_at place (party s f) ≡ nobody
  nobody_past s place beyond = get_or-past (party s f).members (place - 1) nobody (omega arith)

  pub stats_fit_at : (s : Side) (place : ℕ) → ((member_at place (party s f)).max < 65536) × ((member_at place (party s f)).attack < 65536)
      × ((member_at place (party s f)).defense < 65536) × ((member_at place (party s f)).speed < 65536) × ((member_at place (party s f)).special < 65536)
  stats_fit_at s place = elim (ok_at s place) [
    | inl ok ↦ (let m = ok.numbers in (omega (arith, m.max.1), omega (arith, m.attack.1), omega (arith, m.defense.1), omega (arith, m.speed.1), omega (arith, m.special.1)))
    | inr e ↦ subst (λ (m : Member). (m.max < 65536) × (m.attack < 65536) × (m.defense < 65536) × (m.speed < 65536) × (m.special < 65536)) (sym e) (lit< tt, lit< tt, lit< tt, lit< tt, lit< tt)
  ]

  pub turn_packs : f.turn < 65536
  turn_packs = omega (arith, h.turn, h.terms.limit.1)

  pub limit_packs : g.terms.limit < 65536
  limit_packs = omega (arith, h.terms.limit.1)

-- Inside an update

module _ {g : Setting} {p : Parts} {f : Field} (h : Within g p f) where
  pub few_moves : (s : Side) → length (member_in s f).moves ≤ 4
  few_moves s = (member_ok s h).numbers.slots.1

  pub hp_fits : (s : Side) → (member_in s f).hp < 65536
  hp_fits s = let m = (member_ok s h).numbers in omega (arith, m.hp, m.max.1)

  pub max_fits : (s : Side) → (member_in s f).max < 65536
  max_fits s = let m = (member_ok s h).numbers in omega (arith, m.max.1)

-- The bytes of a slot

pub id_at : (m : Member) (slot : ℕ) → 1 ≤ slot → slot ≤ 4 → slice_index (member_block m) (slot + 14) ≡ (known_in slot m.moves).id
id_at m zero low high = absurd (omega arith)
id_at m (suc zero) low high = refl
id_at m (suc (suc zero)) low high = refl
id_at m (suc (suc (suc zero))) low high = refl
id_at m (suc (suc (suc (suc zero)))) low high = refl
id_at m (suc (suc (suc (suc (suc k))))) low high = absurd (omega arith)

pub pp_at : (m : Member) (slot : ℕ) → 1 ≤ slot → slot ≤ 4 → slice_index (member_block m) (slot + 18) ≡ (known_in slot m.moves).pp
pp_at m zero low high = absurd (omega arith)
pp_at m (suc zero) low high = refl
pp_at m (suc (suc zero)) low high = refl
pp_at m (suc (suc (suc zero))) low high = refl
pp_at m (suc (suc (suc (suc zero)))) low high = refl
pp_at m (suc (suc (suc (suc (suc k))))) low high = absurd (omega arith)

-- Current stats

one_fits : (stage n : ℕ) → at_stage stage n < 65536
one_fits stage n = let x = n * percent_at stage / 100 in let e : at_stage stage n ≡ max 1 (min 999 x) = refl in omega (arith, e)

divided_fits : (divisor k n : ℕ) → 2 ≤ divisor → n < 65536 → divided_times divisor k n < 65536
divided_fits divisor zero n low h = h
divided_fits divisor (suc k) n low h =
    let before = divided_fits divisor k n low h in
    let less : divided_times divisor k n / divisor ≤ divided_times divisor k n = div-le_self (divided_times divisor k n) divisor in
    omega (arith, before, less)

pub now_fits : (stat : Stat) (m : Member) (a : Active) → now stat m a < 65536
now_fits Attack m a = divided_fits 2 a.attack_penalties _ (lit≤ tt) (one_fits a.stages.attack m.attack)
now_fits Defense m a = one_fits a.stages.defense m.defense
now_fits Speed m a = divided_fits 4 a.speed_penalties _ (lit≤ tt) (one_fits a.stages.speed m.speed)
now_fits Special m a = one_fits a.stages.special m.special
now_fits Accuracy m a = one_fits a.stages.accuracy 0
now_fits Evasion m a = one_fits a.stages.evasion 0

-- Numbers that types of the tables and the events accept

between : (low high n : ℕ) → low ≤ n → n ≤ high → nat_le low n && nat_le n high ≡ true
between low high n a b = grind (arith, nat_tests)

pub taken : {A : Type 0} (low high n : ℕ) (a : A) → IsBetween low high n → (if nat_le low n && nat_le n high then Some a else None) ≡ Some a
taken low high n a h = ap (λ (b : Bool). cond b (Some a) None) (between low high n h.0 h.1)

pub health_taken : {A : Type 0} (hp most : ℕ) (a : A) → hp ≤ most → IsBetween 11 999 most
    → (if nat_le hp most && nat_le 11 most && nat_le most 999 then Some a else None) ≡ Some a
health_taken hp most a h range = ap (λ (b : Bool). cond b (Some a) None) (fits hp most h range.0 range.1)
  where
    fits : (hp most : ℕ) → hp ≤ most → 11 ≤ most → most ≤ 999 → nat_le hp most && nat_le 11 most && nat_le most 999 ≡ true
    fits hp most a b c = grind (arith, nat_tests)

-- Whether a member lives, place by place

pub any_of_six : (ms : List Member) → length ms ≤ 6
    → is_living (get_or ms 0 nobody) || (is_living (get_or ms 1 nobody) || (is_living (get_or ms 2 nobody) || (is_living (get_or ms 3 nobody) || (is_living (get_or ms 4 nobody) || is_living (get_or ms 5 nobody)))))
    ≡ any is_living ms
any_of_six [] few = refl
any_of_six (a ∷ []) few = refl
any_of_six (a ∷ b ∷ []) few = refl
any_of_six (a ∷ b ∷ c ∷ []) few = refl
any_of_six (a ∷ b ∷ c ∷ d ∷ []) few = refl
any_of_six (a ∷ b ∷ c ∷ d ∷ e ∷ []) few = refl
any_of_six (a ∷ b ∷ c ∷ d ∷ e ∷ h ∷ []) few = rw (or-false (is_living h)) refl
any_of_six (a ∷ b ∷ c ∷ d ∷ e ∷ h ∷ i ∷ ms) few = absurd (omega arith)

-- The parts of a battle that is made from zeros.

abbrev pub no_member : List ℕ
no_member = replicate 24 0

-- This many written members, and zeros after them.
abbrev pub begun_members : ℕ → List Member → List (List ℕ)
begun_members count ms = take count (member_blocks ms) ++ replicate (6 - count) no_member

abbrev pub begun_side : Side → ℕ → List Member → Parts → Parts
begun_side s count ms p = with_side s (record { members = begun_members count ms; active = active_of s p }) p

six : (L : List (List ℕ)) → length L ≡ 6 → (k : ℕ) → k < 6
    → set (take k L ++ replicate (6 - k) no_member) k (get_or L k []) ≡ take (suc k) L ++ replicate (6 - suc k) no_member
six (a ∷ b ∷ c ∷ d ∷ e ∷ f ∷ []) long zero low = refl
six (a ∷ b ∷ c ∷ d ∷ e ∷ f ∷ []) long (suc zero) low = refl
six (a ∷ b ∷ c ∷ d ∷ e ∷ f ∷ []) long (suc (suc zero)) low = refl
six (a ∷ b ∷ c ∷ d ∷ e ∷ f ∷ []) long (suc (suc (suc zero))) low = refl
six (a ∷ b ∷ c ∷ d ∷ e ∷ f ∷ []) long (suc (suc (suc (suc zero)))) low = refl
six (a ∷ b ∷ c ∷ d ∷ e ∷ f ∷ []) long (suc (suc (suc (suc (suc zero))))) low = refl
six (a ∷ b ∷ c ∷ d ∷ e ∷ f ∷ []) long (suc (suc (suc (suc (suc (suc k)))))) low = absurd (omega arith)
six (a ∷ b ∷ c ∷ d ∷ e ∷ f ∷ g ∷ L) long k low = absurd (omega arith)
six [] long k low = absurd (omega arith)
six (a ∷ []) long k low = absurd (omega arith)
six (a ∷ b ∷ []) long k low = absurd (omega arith)
six (a ∷ b ∷ c ∷ []) long k low = absurd (omega arith)
six (a ∷ b ∷ c ∷ d ∷ []) long k low = absurd (omega arith)
six (a ∷ b ∷ c ∷ d ∷ e ∷ []) long k low = absurd (omega arith)

pub length-blocks : (ms : List Member) → length (member_blocks ms) ≡ 6
length-blocks ms =
    length-take-le 6 (map member_block ms ++ replicate 6 no_member)
    (omega (arith, length-append (map member_block ms) (replicate 6 no_member), length-replicate 6 no_member))

pub begin_member : (ms : List Member) (k : ℕ) → length ms ≤ 6 → k < 6
    → set (begun_members k ms) k (member_block (get_or ms k nobody)) ≡ begun_members (k + 1) ms
begin_member ms k few low =
    let e : suc k ≡ k + 1 = omega arith in
    ap (λ (b : List ℕ). set (begun_members k ms) k b) (sym (blocks_any ms k few low)) ∙ six (member_blocks ms) (length-blocks ms) k low
    ∙ ap (λ (n : ℕ). begun_members n ms) e

-- One more member is written.
pub begin_step : (s : Side) (place : ℕ) (ms : List Member) (p start : Parts) (w : List ℕ) → 1 ≤ place → place ≤ 6 → length ms ≤ 6
    → p ≡ begun_side s (place - 1) ms start → w ≡ member_block (get_or ms (place - 1) nobody)
    → with_member s place (refill 24 (member_of s place p) w) p ≡ begun_side s (place + 1 - 1) ms start
begin_step s place ms p start w low high few is e =
    let block = member_block (get_or ms (place - 1) nobody) in
    let next : place - 1 + 1 ≡ place + 1 - 1 = omega arith in
    let members : set (begun_members (place - 1) ms) (place - 1) block ≡ begun_members (place + 1 - 1) ms =
    begin_member ms (place - 1) few (omega arith) ∙ ap (λ (n : ℕ). begun_members n ms) next in
    ap (λ (l : List ℕ). with_member s place (refill 24 (member_of s place p) l) p) e
    ∙ ap (λ (q : Parts). with_member s place block q) is ∙ side s members
  where
    side : (s : Side) → set (begun_members (place - 1) ms) (place - 1) (member_block (get_or ms (place - 1) nobody)) ≡ begun_members (place + 1 - 1) ms
        → with_member s place (member_block (get_or ms (place - 1) nobody)) (begun_side s (place - 1) ms start) ≡ begun_side s (place + 1 - 1) ms start
    side One m = ap (λ (l : List (List ℕ)). record start { one = record { members = l; active = start.one.active } }) m
    side Two m = ap (λ (l : List (List ℕ)). record start { two = record { members = l; active = start.two.active } }) m

-- The machine's packing, cut into parts, is the blocks of the state.

six_are : (L : List (List ℕ)) → length L ≡ 6
    → L ≡ get_or L 0 [] ∷ get_or L 1 [] ∷ get_or L 2 [] ∷ get_or L 3 [] ∷ get_or L 4 [] ∷ get_or L 5 [] ∷ []
six_are [] long = absurd (omega arith)
six_are (a ∷ []) long = absurd (omega arith)
six_are (a ∷ b ∷ []) long = absurd (omega arith)
six_are (a ∷ b ∷ c ∷ []) long = absurd (omega arith)
six_are (a ∷ b ∷ c ∷ d ∷ []) long = absurd (omega arith)
six_are (a ∷ b ∷ c ∷ d ∷ e ∷ []) long = absurd (omega arith)
six_are (a ∷ b ∷ c ∷ d ∷ e ∷ f ∷ []) long = refl
six_are (a ∷ b ∷ c ∷ d ∷ e ∷ f ∷ g ∷ L) long = absurd (omega arith)

-- The block of the n-th member.
abbrev nth : ℕ → List Member → List ℕ
nth k ms = member_block (get_or ms k nobody)

blocks_are : (ms : List Member) → length ms ≤ 6 → member_blocks ms ≡ nth 0 ms ∷ nth 1 ms ∷ nth 2 ms ∷ nth 3 ms ∷ nth 4 ms ∷ nth 5 ms ∷ []
blocks_are ms few =
    let any = blocks_any ms in
    six_are (member_blocks ms) (length-blocks ms)
    ∙ rw (any 0 few (lit< tt), any 1 few (lit< tt), any 2 few (lit< tt), any 3 few (lit< tt), any 4 few (lit< tt), any 5 few (lit< tt)) refl

active_is : (t : Party) → (active_block_of t ≡ replicate 36 0) ⊎ (active_block_of t ≡ active_block (member_at t.active.place t) t.active)
active_is t = by (nat_eq t.active.place 0)
  where
    by : (b : Bool) → (cond b (replicate 36 0) (active_block (member_at t.active.place t) t.active) ≡ replicate 36 0)
        ⊎ (cond b (replicate 36 0) (active_block (member_at t.active.place t) t.active) ≡ active_block (member_at t.active.place t) t.active)
    by true = inl refl
    by false = inr refl

pub parts-bytes_of : (s : State) → length s.field.one.members ≤ 6 → length s.field.two.members ≤ 6 → parts_of (bytes_of s) ≡ blocks_of s
unfolding bytes_of
parts-bytes_of s few_one few_two =
    let one = blocks_are s.field.one.members few_one in let two = blocks_are s.field.two.members few_two in
    elim (active_is s.field.one) [
      | inl a ↦ elim (active_is s.field.two) [ inl b ↦ (rw (one, two, a, b) refl) | inr b ↦ (rw (one, two, a, b) refl) ]
      | inr a ↦ elim (active_is s.field.two) [ inl b ↦ (rw (one, two, a, b) refl) | inr b ↦ (rw (one, two, a, b) refl) ]
    ]

-- A loaded battle represents the state whose packing is its form.

few_one : (terms : Terms) (f : Field) → IsUnstarted terms f ⊎ IsStarted terms f → length f.one.members ≤ 6
few_one terms f (inl u) = u.members_one.size.1
few_one terms f (inr s) = s.field.one.members.size.1

few_two : (terms : Terms) (f : Field) → IsUnstarted terms f ⊎ IsStarted terms f → length f.two.members ≤ 6
few_two terms f (inl u) = u.members_two.size.1
few_two terms f (inr s) = s.field.two.members.size.1

pub stands_for_some : {bytes : List ℕ} (form : List ℕ) (loaded : Parts) → IsBattle bytes → form ≡ version_three bytes → loaded ≡ parts_of form
    → StandsForSome loaded
stands_for_some form loaded battle read parts =
    let s = battle.stands.state in
    let field = battle.stands.valid.field in
    record {
      state = s;
      stands =
          record {
            same = parts ∙ ap parts_of (read ∙ battle.stands.same) ∙ parts-bytes_of s (few_one s.terms s.field field) (few_two s.terms s.field field);
            valid = battle.stands.valid;
          };
    }

-- The numbers of the header are those of the ring after this many draws.

number_is : (seed : List ℕ) (n j : ℕ) → j < 9 → number_at seed n j ≡ times_renewed (n / 9) (slice_index seed j)
unfolding byte_at
number_is seed n j low =
    let round : (9 * (n / 9) + j) / 9 ≡ n / 9 = omega arith in
    let place : (9 * (n / 9) + j) % 9 ≡ j = omega arith in
    rw (round, place) refl

turned_is : (q : ℕ) (seed : List ℕ) → length seed ≡ 10
    → turned q seed ≡ times_renewed q (slice_index seed 0) ∷ times_renewed q (slice_index seed 1) ∷ times_renewed q (slice_index seed 2) ∷ times_renewed q (slice_index seed 3) ∷ times_renewed q (slice_index seed 4) ∷ times_renewed q (slice_index seed 5) ∷ times_renewed q (slice_index seed 6) ∷ times_renewed q (slice_index seed 7) ∷ times_renewed q (slice_index seed 8) ∷ slice_index seed 9 ∷ []
turned_is q [] e = absurd (omega arith)
turned_is q (x0 ∷ []) e = absurd (omega arith)
turned_is q (x0 ∷ x1 ∷ []) e = absurd (omega arith)
turned_is q (x0 ∷ x1 ∷ x2 ∷ []) e = absurd (omega arith)
turned_is q (x0 ∷ x1 ∷ x2 ∷ x3 ∷ []) e = absurd (omega arith)
turned_is q (x0 ∷ x1 ∷ x2 ∷ x3 ∷ x4 ∷ []) e = absurd (omega arith)
turned_is q (x0 ∷ x1 ∷ x2 ∷ x3 ∷ x4 ∷ x5 ∷ []) e = absurd (omega arith)
turned_is q (x0 ∷ x1 ∷ x2 ∷ x3 ∷ x4 ∷ x5 ∷ x6 ∷ []) e = absurd (omega arith)
turned_is q (x0 ∷ x1 ∷ x2 ∷ x3 ∷ x4 ∷ x5 ∷ x6 ∷ x7 ∷ []) e = absurd (omega arith)
turned_is q (x0 ∷ x1 ∷ x2 ∷ x3 ∷ x4 ∷ x5 ∷ x6 ∷ x7 ∷ x8 ∷ []) e = absurd (omega arith)
turned_is q (x0 ∷ x1 ∷ x2 ∷ x3 ∷ x4 ∷ x5 ∷ x6 ∷ x7 ∷ x8 ∷ x9 ∷ []) e = refl
turned_is q (x0 ∷ x1 ∷ x2 ∷ x3 ∷ x4 ∷ x5 ∷ x6 ∷ x7 ∷ x8 ∷ x9 ∷ x10 ∷ rest) e = absurd (omega arith)

-- The nine numbers in use and the tenth.
pub numbers_are : (seed : List ℕ) (n : ℕ) → length seed ≡ 10 → turned (n / 9) seed ≡ number_at seed n 0 ∷ number_at seed n 1 ∷ number_at seed n 2 ∷ number_at seed n 3 ∷ number_at seed n 4 ∷ number_at seed n 5 ∷ number_at seed n 6 ∷ number_at seed n 7 ∷ number_at seed n 8 ∷ slice_index seed 9 ∷ []
numbers_are seed n ten =
    let at = number_is seed n in
    turned_is (n / 9) seed ten ∙ sym (rw (at 0 (lit< tt), at 1 (lit< tt), at 2 (lit< tt), at 3 (lit< tt), at 4 (lit< tt), at 5 (lit< tt), at 6 (lit< tt), at 7 (lit< tt), at 8 (lit< tt)) refl)
