-- The bytes of a battle's plain state are the packing of its state. A battle that was made of a plain state has this plain
-- state, field by field.
use Rattle.std.proofs.Common.{ap, length, sym, ◌≡◌, ℕ, List, slice_index, [], ◌∷◌, arith, inl, inr, false, ◌==◌, ◌⊎◌, Bool, append_assoc, cond, flat_map, get_or, refl, replicate, suc, zero, ◌++◌, ◌∙◌, ◌≤◌, subst, true, ◌&&◌, add-one, drop, drop-cons, ◌+◌, if◌then◌else◌, nat_le, ◌/◌, ◌<◌, None, Option, Some, lit<, slice_index_or}
use Rattle.gen1_rolls.specs.Steady.{ring_at}
use Rattle.gen1_machine.specs.Layout.{header_block, number_at, active_block, active_block_of, member_block, member_blocks, party_bytes, bytes_of as packing, high_byte, low_byte, energy_of}
use Rattle.gen1_machine.specs.State.{State, Active, Field, active_in, member_at as at_place, member_in, nobody_out, party, kind_of}
use Rattle.gen1_layout.specs.Parts.{Parts, parts_of}
use Rattle.gen1_layout.specs.Shows.{Stands, Packs, Within, setting_of}
use Rattle.gen1_layout.proofs.WaysBack.{numbers_are, members_in, status_ok_at, parts-bytes_of, hp_fits_at, limit_packs, now_fits, stats_fit_at, turn_packs}
use Rattle.gen1_states.specs.Reading.{state_of, active_now, active_state, member_state, no_active, side_state, sleep_of}
use Rattle.std.proofs.lemmas.Bool.Decides.{nat_tests}
use Rattle.gen1_machine.specs.Valid.{IsStarted, IsUnstarted, IsStatus, IsStoring}
use Rattle.gen1_layout.proofs.Steps.{packed_of}
use Rattle.gen1_layout.proofs.Storing.{packed_at, within_of}
use Rattle.std.proofs.lemmas.List.{append-nil}
use Rattle.gen1_stats.specs.Members.{nobody, Member}
use Rattle.gen1_stats.specs.declared.member.Status.{Status}
use Rattle.gen1_stats.specs.declared.member.Status.TheVariants.{Asleep, Burned, Frozen, Healthy, Paralysed, Poisoned}
use Rattle.gen1_machine.specs.declared.side.Side.{Side}
use Rattle.gen1_machine.specs.declared.side.Side.TheVariants.{One, Two}
use Rattle.gen1_machine.specs.Rules.{Rules}
use Rattle.gen1_states.specs.Plain.{active_bytes, bytes_of, header_bytes, member_bytes, side_after, status_byte, first_side, member_at, no_member, no_side, second_side}
use Rattle.gen1_layout.specs.Loading.{version_three}
use Rattle.gen1_layout.specs.LoadingLaws.{IsBattle}
use Rattle.gen1_states.specs.Tests.{are_left, completed, completed_side, computed_stats, member_out}
use Rattle.gen1_states.specs.Laws.{GoesBack, IsPlainActive, IsPlainMember, AreWords, ComesBack, IsPlainSide}
use Rattle.gen1_states.specs.declared.plain.ActiveState.{ActiveState}
use Rattle.gen1_states.specs.declared.plain.BattleState.{BattleState}
use Rattle.gen1_states.specs.declared.plain.SideState.{SideState}
use Rattle.std.proofs.Math.ListN.{drop_of_length-le}
use Rattle.gen1_states.specs.declared.plain.MemberState.{MemberState}
use Rattle.gen1_tables.specs.declared.effect.Stat.TheVariants.{Attack, Defense, Special, Speed}
use Rattle.gen1_machine.specs.Conditions.{Storing}
use Rattle.gen1_machine.specs.LogBytes.{kind_or_0}
use Rattle.gen1_layout.proofs.Counts.{number_small}

-- The bytes of the header are those of the state: its numbers are the ring's.

-- the header of a battle that represents a state
pub header_of : {p : Parts} {s : State} → Stands p s → p.header ≡ header_block s
header_of h = ap (λ (q : Parts). q.header) h.same

-- the numbers in use, and the tenth
pub ring_numbers : (s : State) → length s.seed ≡ 10 → (ring_at s.seed s.drawn).numbers
    ≡ number_at s.seed s.drawn 0 ∷ number_at s.seed s.drawn 1 ∷ number_at s.seed s.drawn 2 ∷ number_at s.seed s.drawn 3
    ∷ number_at s.seed s.drawn 4 ∷ number_at s.seed s.drawn 5 ∷ number_at s.seed s.drawn 6 ∷ number_at s.seed s.drawn 7
    ∷ number_at s.seed s.drawn 8 ∷ slice_index s.seed 9 ∷ []
ring_numbers s ten = numbers_are s.seed s.drawn ten

-- the state as it is written out, with those numbers
pub viewed : (s : State) → length s.seed ≡ 10 → record (state_of s) {
  numbers = number_at s.seed s.drawn 0 ∷ number_at s.seed s.drawn 1 ∷ number_at s.seed s.drawn 2 ∷ number_at s.seed s.drawn 3
      ∷ number_at s.seed s.drawn 4 ∷ number_at s.seed s.drawn 5 ∷ number_at s.seed s.drawn 6 ∷ number_at s.seed s.drawn 7
      ∷ number_at s.seed s.drawn 8 ∷ slice_index s.seed 9 ∷ [];
} ≡ state_of s
viewed s ten = ap (λ (numbers : List ℕ). record (state_of s) { numbers = numbers }) (sym (ring_numbers s ten))

-- What is read of a battle between two updates, also before the first one.

pub packs_of : {p : Parts} {s : State} → Stands p s → Packs (setting_of s) p s.field
packs_of {p = p} {s = s} h = by h.valid.field
  where
    by : IsUnstarted s.terms s.field ⊎ IsStarted s.terms s.field → Packs (setting_of s) p s.field
    by (inl u) = packed_at p s h u
    by (inr v) = packed_of (within_of p s h v.field)

-- From turn 1 on both sides have an active member.
pub within_out : {p : Parts} {s : State} → Stands p s → (s.field.turn ≡ 0 → ⊥) → Within (setting_of s) p s.field
within_out {p = p} {s = s} h out = by h.valid.field
  where
    by : IsUnstarted s.terms s.field ⊎ IsStarted s.terms s.field → Within (setting_of s) p s.field
    by (inl u) = absurd (out u.turn)
    by (inr v) = within_of p s h v.field

pub not_zero : (n : ℕ) → (n ≡ 0 → ⊥) → (n == 0) ≡ false
not_zero n apart = grind (arith, nat_tests)

-- A member

member_by : (rules : Rules) (m : Member) (status : Status) → IsStatus rules status
    → member_bytes (member_state (record m { status = status })) ≡ member_block (record m { status = status })
member_by rules m Healthy h = refl
member_by rules m (Asleep zero marked) h = absurd (omega (arith, h.0.0))
member_by rules m (Asleep (suc zero) marked) h = refl
member_by rules m (Asleep (suc (suc zero)) marked) h = refl
member_by rules m (Asleep (suc (suc (suc zero))) marked) h = refl
member_by rules m (Asleep (suc (suc (suc (suc zero)))) marked) h = refl
member_by rules m (Asleep (suc (suc (suc (suc (suc zero))))) marked) h = refl
member_by rules m (Asleep (suc (suc (suc (suc (suc (suc zero)))))) marked) h = refl
member_by rules m (Asleep (suc (suc (suc (suc (suc (suc (suc zero))))))) marked) h = refl
member_by rules m (Asleep (suc (suc (suc (suc (suc (suc (suc (suc n)))))))) marked) h = absurd (omega (arith, h.0.1))
member_by rules m Poisoned h = refl
member_by rules m Burned h = refl
member_by rules m Frozen h = refl
member_by rules m Paralysed h = refl

member_same : (rules : Rules) (m : Member) → IsStatus rules m.status → member_bytes (member_state m) ≡ member_block m
member_same rules m h = member_by rules m m.status h

-- The members of a side

abbrev nth : ℕ → List Member → List ℕ
nth k ms = member_block (get_or ms k nobody)

blocks_are : (ms : List Member) → length ms ≤ 6 → member_blocks ms ≡ nth 0 ms ∷ nth 1 ms ∷ nth 2 ms ∷ nth 3 ms ∷ nth 4 ms ∷ nth 5 ms ∷ []
blocks_are [] few = refl
blocks_are (a ∷ []) few = refl
blocks_are (a ∷ b ∷ []) few = refl
blocks_are (a ∷ b ∷ c ∷ []) few = refl
blocks_are (a ∷ b ∷ c ∷ d ∷ []) few = refl
blocks_are (a ∷ b ∷ c ∷ d ∷ e ∷ []) few = refl
blocks_are (a ∷ b ∷ c ∷ d ∷ e ∷ f ∷ []) few = refl
blocks_are (a ∷ b ∷ c ∷ d ∷ e ∷ f ∷ g ∷ more) few = absurd (omega arith)

-- The blocks of a side after other bytes, one after the other and in a row.
abbrev row : List ℕ → List ℕ → List ℕ → List ℕ → List ℕ → List ℕ → List ℕ → List ℕ → List ℕ
row before a b c d e f g = ((((((before ++ a) ++ b) ++ c) ++ d) ++ e) ++ f) ++ g

flat : (before a b c d e f g : List ℕ)
    → row before a b c d e f g ≡ before ++ (flat_map (λ (block : List ℕ). block) (a ∷ b ∷ c ∷ d ∷ e ∷ f ∷ []) ++ g)
flat before a b c d e f g = simp (append_assoc, append-nil) refl

rows : (before : List ℕ) {a b c d e f g a' b' c' d' e' f' g' : List ℕ} → a ≡ a' → b ≡ b' → c ≡ c' → d ≡ d' → e ≡ e' → f ≡ f' → g ≡ g'
    → row before a b c d e f g ≡ row before a' b' c' d' e' f' g'
rows before ea eb ec ed ee ef eg = rw (ea, eb, ec, ed, ee, ef, eg) refl

-- The active member

nobody_same : (side : Side) (f : Field) → f.turn ≡ 0 → (party side f).active ≡ nobody_out
    → active_bytes (active_now side f) ≡ active_block_of (party side f)
nobody_same side f turn none =
    ap (λ (n : ℕ). active_bytes (cond (n == 0) no_active (active_state (member_in side f) (active_in side f)))) turn
    ∙ sym (ap (λ (a : Active). cond (a.place == 0) (replicate 36 0) (active_block (at_place a.place (party side f)) a)) none)

active_same : (side : Side) (f : Field) → (f.turn ≡ 0 → ⊥) → ((party side f).active.place ≡ 0 → ⊥)
    → active_bytes (active_now side f) ≡ active_block_of (party side f)
active_same side f out some =
    ap (λ (b : Bool). active_bytes (cond b no_active (active_state (member_in side f) (active_in side f)))) (not_zero f.turn out)
    ∙ sym (ap (λ (b : Bool). cond b (replicate 36 0) (active_block (member_in side f) (active_in side f))) (not_zero (party side f).active.place some))

now_same : (s : State) (side : Side) → IsUnstarted s.terms s.field ⊎ IsStarted s.terms s.field
    → active_bytes (active_now side s.field) ≡ active_block_of (party side s.field)
now_same s One (inl u) = nobody_same One s.field u.turn u.nobody_one
now_same s Two (inl u) = nobody_same Two s.field u.turn u.nobody_two
now_same s One (inr v) = active_same One s.field (λ z. let low = v.turn in omega arith) (λ z. let low = v.field.one.place.0 in omega arith)
now_same s Two (inr v) = active_same Two s.field (λ z. let low = v.turn in omega arith) (λ z. let low = v.field.two.place.0 in omega arith)

-- The whole

side_same : {p : Parts} {s : State} (before : List ℕ) (side : Side) → Stands p s
    → side_after before (side_state side s.field) ≡ before ++ party_bytes (party side s.field)
unfolding side_after
side_same {s = s} before side h =
    let k = packs_of h in
    let t = party side s.field in
    let member = λ (place : ℕ). member_same s.terms.rules (at_place place t) (status_ok_at k side place) in
    rows before (member 1) (member 2) (member 3) (member 4) (member 5) (member 6) (now_same s side h.valid.field)
    ∙ flat before _ _ _ _ _ _ _
    ∙ ap (λ (blocks : List (List ℕ)). before ++ (flat_map (λ (block : List ℕ). block) blocks ++ active_block_of t))
    (sym (blocks_are t.members (members_in k side).size.1))

header_same : (s : State) → length s.seed ≡ 10 → header_bytes (state_of s) ≡ header_block s
header_same s ten = sym (ap header_bytes (viewed s ten))

pub bytes_same : {p : Parts} {s : State} → Stands p s → bytes_of (state_of s) ≡ packing s
unfolding bytes_of packing
bytes_same {s = s} h =
    ap (λ (bytes : List ℕ). side_after (side_after bytes (side_state One s.field)) (side_state Two s.field)) (header_same s h.valid.seed.0)
    ∙ ap (λ (bytes : List ℕ). side_after bytes (side_state Two s.field)) (side_same (header_block s) One h)
    ∙ side_same (header_block s ++ party_bytes s.field.one) Two h

-- A battle's plain state is accepted, and gives the same battle.

-- Nothing is left to be computed: a current Defense is at least 1

none_left : (a b c : Bool) → (a && false && b && c) ≡ false
none_left true b c = refl
none_left false b c = refl

not_left : (a : ActiveState) → 1 ≤ slice_index a.stats 1 → are_left a ≡ false
not_left a low =
    let no : (slice_index a.stats 1 == 0) ≡ false = grind (arith, nat_tests) in
    ap (λ (b : Bool). slice_index a.stats 0 == 0 && b && slice_index a.stats 2 == 0 && slice_index a.stats 3 == 0) no
    ∙ none_left (slice_index a.stats 0 == 0) (slice_index a.stats 2 == 0) (slice_index a.stats 3 == 0)

side_complete : (side : Side) (f : Field) → (f.turn ≡ 0 → ⊥) → completed_side (side_state side f) ≡ side_state side f
unfolding completed_side
side_complete side f out =
    let s = side_state side f in
    let now : s.active ≡ active_state (member_in side f) (active_in side f) =
    ap (λ (b : Bool). cond b no_active (active_state (member_in side f) (active_in side f))) (not_zero f.turn out) in
    let left : are_left s.active ≡ false =
    ap are_left now ∙ not_left (active_state (member_in side f) (active_in side f)) (omega arith) in
    ap (λ (b : Bool). cond b (record s { active = record s.active { stats = computed_stats (member_out s) s.active } }) s) left

with_sides : State → SideState → SideState → BattleState
with_sides s one two = record (state_of s) { sides = one ∷ two ∷ [] }

complete_by : (s : State) → IsUnstarted s.terms s.field ⊎ IsStarted s.terms s.field → completed (state_of s) ≡ state_of s
unfolding with_sides
complete_by s (inl u) =
    ap (λ (n : ℕ). cond (n == 0) (state_of s) (with_sides s (completed_side (side_state One s.field)) (completed_side (side_state Two s.field)))) u.turn
complete_by s (inr v) =
    let out : s.field.turn ≡ 0 → ⊥ = λ z. let low = v.turn in omega arith in
    ap (λ (b : Bool). cond b (state_of s) (with_sides s (completed_side (side_state One s.field)) (completed_side (side_state Two s.field)))) (not_zero s.field.turn out)
    ∙ ap (λ (one : SideState). with_sides s one (completed_side (side_state Two s.field))) (side_complete One s.field out)
    ∙ ap (λ (two : SideState). with_sides s (side_state One s.field) two) (side_complete Two s.field out)

-- The bytes of any plain state are in the form of version 3

pub has_length : (b : BattleState) → length (bytes_of b) ≡ 384
unfolding bytes_of side_after
has_length b = refl

pub in_version_three : (b : BattleState) → version_three (bytes_of b) ≡ bytes_of b
unfolding bytes_of side_after
in_version_three b = refl

plain_battle : {p : Parts} {s : State} → Stands p s → IsBattle (bytes_of (state_of s))
unfolding bytes_of side_after
plain_battle {s = s} h = record {
  full = has_length (state_of s);
  version = (omega arith, omega arith);
  keeps = record { limit = λ low. absurd (omega arith); rules = λ one. absurd (omega arith) };
  stands = record { state = s; valid = h.valid; same = bytes_same h };
}

pub goes_back : GoesBack
goes_back p s h =
    let k = packs_of h in
    let whole = complete_by s h.valid.field in (
      subst (λ (b : BattleState). IsBattle (bytes_of b)) (sym whole) (plain_battle h),
      ap (λ (b : BattleState). parts_of (bytes_of b)) whole ∙ ap parts_of (bytes_same h)
          ∙ parts-bytes_of s (members_in k One).size.1 (members_in k Two).size.1 ∙ sym h.same,
    )

-- Plain members, active members and sides with the same bytes are the same.

-- Lists of numbers, one by one.

-- This many numbers from an index on.
abbrev pub numbers_from : ℕ → ℕ → List ℕ → List ℕ
numbers_from zero at numbers = []
numbers_from (suc n) at numbers = slice_index numbers at ∷ numbers_from n (at + 1) numbers

drop-numbers_from : (n at : ℕ) (numbers : List ℕ) → length numbers ≡ at + n → drop at numbers ≡ numbers_from n at numbers
drop-numbers_from zero at numbers long = drop_of_length-le numbers (omega arith)
drop-numbers_from (suc n) at numbers long =
    drop-cons numbers at 0 (omega arith) ∙ ap (λ rest. slice_index numbers at ∷ rest) (rw (← add-one at) (drop-numbers_from n (at + 1) numbers (omega arith)))

-- A list of this length.
pub listed : (n : ℕ) (numbers : List ℕ) → length numbers ≡ n → numbers ≡ numbers_from n 0 numbers
listed n numbers long = drop-numbers_from n 0 numbers (omega (arith, long))

-- Numbers

pub word_same : (a b : ℕ) → a < 65536 → b < 65536 → low_byte a ≡ low_byte b → high_byte a ≡ high_byte b → a ≡ b
word_same a b fit_a fit_b low high = omega (arith, low, high)

long_same : (a b : ℕ) → a < 4294967296 → b < 4294967296 → low_byte a ≡ low_byte b → high_byte a ≡ high_byte b
    → low_byte (a / 65536) ≡ low_byte (b / 65536) → high_byte (a / 65536) ≡ high_byte (b / 65536) → a ≡ b
long_same a b fit_a fit_b e0 e1 e2 e3 = omega (arith, e0, e1, e2, e3)

-- Arrays

pub two_same : (xs ys : List ℕ) → length xs ≡ 2 → length ys ≡ 2 → slice_index xs 0 ≡ slice_index ys 0 → slice_index xs 1 ≡ slice_index ys 1 → xs ≡ ys
two_same xs ys long_x long_y e0 e1 = listed 2 xs long_x ∙ rw (e0, e1) refl ∙ sym (listed 2 ys long_y)

pub four_same : (xs ys : List ℕ) → length xs ≡ 4 → length ys ≡ 4 → slice_index xs 0 ≡ slice_index ys 0 → slice_index xs 1 ≡ slice_index ys 1
    → slice_index xs 2 ≡ slice_index ys 2 → slice_index xs 3 ≡ slice_index ys 3 → xs ≡ ys
four_same xs ys long_x long_y e0 e1 e2 e3 = listed 4 xs long_x ∙ rw (e0, e1, e2, e3) refl ∙ sym (listed 4 ys long_y)

six_same : (xs ys : List ℕ) → length xs ≡ 6 → length ys ≡ 6 → slice_index xs 0 ≡ slice_index ys 0 → slice_index xs 1 ≡ slice_index ys 1
    → slice_index xs 2 ≡ slice_index ys 2 → slice_index xs 3 ≡ slice_index ys 3 → slice_index xs 4 ≡ slice_index ys 4 → slice_index xs 5 ≡ slice_index ys 5
    → xs ≡ ys
six_same xs ys long_x long_y e0 e1 e2 e3 e4 e5 = listed 6 xs long_x ∙ rw (e0, e1, e2, e3, e4, e5) refl ∙ sym (listed 6 ys long_y)

-- A kind of status and a count of sleep, from their byte

abbrev kind_from : ℕ → ℕ
kind_from byte =
    if byte == 0 then 0 else if byte == 8 then 2 else if byte == 16 then 3 else if byte == 32 then 4 else if byte == 64 then 5 else 1

abbrev sleep_from : ℕ → ℕ
sleep_from byte = if nat_le byte 7 then byte else 0

kind_back : (kind sleep : ℕ) → status_byte kind sleep < 255 → kind_from (status_byte kind sleep) ≡ kind
kind_back kind sleep low = grind (arith, nat_tests)

sleep_back : (kind sleep : ℕ) → status_byte kind sleep < 255 → sleep_from (status_byte kind sleep) ≡ sleep
sleep_back kind sleep low = grind (arith, nat_tests)

-- A member

abbrev same_at : {a b : List ℕ} → a ≡ b → (k : ℕ) → slice_index a k ≡ slice_index b k
same_at e k = ap (λ (bytes : List ℕ). slice_index bytes k) e

-- a member of its fields
abbrev member_of : ℕ → ℕ → ℕ → ℕ → ℕ → List ℕ → List ℕ → ℕ → ℕ → List ℕ → MemberState
member_of species level status sleep marked moves pp hp max_hp stats = record {
  species = species;
  level = level;
  status = status;
  sleep = sleep;
  marked = marked;
  moves = moves;
  pp = pp;
  hp = hp;
  max_hp = max_hp;
  stats = stats;
}

member_made : {a0 a1 a2 a3 a4 a7 a8 b0 b1 b2 b3 b4 b7 b8 : ℕ} {a5 a6 a9 b5 b6 b9 : List ℕ} → a0 ≡ b0 → a1 ≡ b1 → a2 ≡ b2 → a3 ≡ b3 → a4 ≡ b4
    → a5 ≡ b5 → a6 ≡ b6 → a7 ≡ b7 → a8 ≡ b8 → a9 ≡ b9 → member_of a0 a1 a2 a3 a4 a5 a6 a7 a8 a9 ≡ member_of b0 b1 b2 b3 b4 b5 b6 b7 b8 b9
member_made e0 e1 e2 e3 e4 e5 e6 e7 e8 e9 = rw (e0, e1, e2, e3, e4, e5, e6, e7, e8, e9) refl

pub member_equal : (m n : MemberState) → IsPlainMember m → IsPlainMember n → status_byte m.status m.sleep < 255
    → member_bytes m ≡ member_bytes n → m ≡ n
member_equal m n pm pn told e =
    let byte : status_byte m.status m.sleep ≡ status_byte n.status n.sleep = same_at e 14 in
    let too : status_byte n.status n.sleep < 255 = omega (arith, byte, told) in
    let kind : m.status ≡ n.status = sym (kind_back m.status m.sleep told) ∙ ap kind_from byte ∙ kind_back n.status n.sleep too in
    let sleep : m.sleep ≡ n.sleep = sym (sleep_back m.status m.sleep told) ∙ ap sleep_from byte ∙ sleep_back n.status n.sleep too in
    let stat : (k : ℕ) → low_byte (slice_index m.stats k) ≡ low_byte (slice_index n.stats k)
    → high_byte (slice_index m.stats k) ≡ high_byte (slice_index n.stats k) → slice_index m.stats k ≡ slice_index n.stats k =
    λ k low high. word_same _ _ (pm.words k) (pn.words k) low high in
    member_made (same_at e 0) (same_at e 1) kind sleep (same_at e 23)
    (four_same m.moves n.moves pm.moves pn.moves (same_at e 15) (same_at e 16) (same_at e 17) (same_at e 18))
    (four_same m.pp n.pp pm.pp pn.pp (same_at e 19) (same_at e 20) (same_at e 21) (same_at e 22))
    (word_same m.hp n.hp pm.hp pn.hp (same_at e 4) (same_at e 5))
    (word_same m.max_hp n.max_hp pm.max_hp pn.max_hp (same_at e 2) (same_at e 3))
    (four_same m.stats n.stats pm.stats pn.stats (stat 0 (same_at e 6) (same_at e 7)) (stat 1 (same_at e 8) (same_at e 9)) (stat 2 (same_at e 10) (same_at e 11)) (stat 3 (same_at e 12) (same_at e 13)))

-- An active member

abbrev active_of : ℕ → List ℕ → ℕ → ℕ → List ℕ → List ℕ → ℕ → ℕ → ℕ → ℕ → ℕ → ℕ → ℕ → ℕ → ℕ → ActiveState
active_of conditions stats energy place types stages current picked kept substitute confusion slot disabled poison turns = record {
  conditions = conditions;
  stats = stats;
  energy = energy;
  place = place;
  types = types;
  stages = stages;
  current_move = current;
  picked_move = picked;
  kept_accuracy = kept;
  substitute = substitute;
  confusion = confusion;
  disabled_slot = slot;
  disabled_turns = disabled;
  bad_poison = poison;
  turns = turns;
}

active_made : {a0 a2 a3 a6 a7 a8 a9 a10 a11 a12 a13 a14 b0 b2 b3 b6 b7 b8 b9 b10 b11 b12 b13 b14 : ℕ} {a1 a4 a5 b1 b4 b5 : List ℕ}
    → a0 ≡ b0 → a1 ≡ b1 → a2 ≡ b2 → a3 ≡ b3 → a4 ≡ b4 → a5 ≡ b5 → a6 ≡ b6 → a7 ≡ b7 → a8 ≡ b8 → a9 ≡ b9 → a10 ≡ b10 → a11 ≡ b11
    → a12 ≡ b12 → a13 ≡ b13 → a14 ≡ b14
    → active_of a0 a1 a2 a3 a4 a5 a6 a7 a8 a9 a10 a11 a12 a13 a14 ≡ active_of b0 b1 b2 b3 b4 b5 b6 b7 b8 b9 b10 b11 b12 b13 b14
active_made e0 e1 e2 e3 e4 e5 e6 e7 e8 e9 e10 e11 e12 e13 e14 = rw (e0, e1, e2, e3, e4, e5, e6, e7, e8, e9, e10, e11, e12, e13, e14) refl

pub active_equal : (a b : ActiveState) → IsPlainActive a → IsPlainActive b → active_bytes a ≡ active_bytes b → a ≡ b
active_equal a b pa pb e =
    let stat : (k : ℕ) → low_byte (slice_index a.stats k) ≡ low_byte (slice_index b.stats k)
    → high_byte (slice_index a.stats k) ≡ high_byte (slice_index b.stats k) → slice_index a.stats k ≡ slice_index b.stats k =
    λ k low high. word_same _ _ (pa.words k) (pb.words k) low high in
    active_made (long_same a.conditions b.conditions pa.conditions pb.conditions (same_at e 17) (same_at e 18) (same_at e 19) (same_at e 20))
    (four_same a.stats b.stats pa.stats pb.stats (stat 0 (same_at e 9) (same_at e 10)) (stat 1 (same_at e 11) (same_at e 12)) (stat 2 (same_at e 13) (same_at e 14)) (stat 3 (same_at e 15) (same_at e 16)))
    (word_same a.energy b.energy pa.energy pb.energy (same_at e 27) (same_at e 28)) (same_at e 0)
    (two_same a.types b.types pa.types pb.types (same_at e 1) (same_at e 2))
    (six_same a.stages b.stages pa.stages pb.stages (same_at e 3) (same_at e 4) (same_at e 5) (same_at e 6) (same_at e 7) (same_at e 8))
    (same_at e 29) (same_at e 30) (same_at e 31) (same_at e 21) (same_at e 22) (same_at e 23) (same_at e 24) (same_at e 25) (same_at e 26)

-- The plain state of a battle fits the fields' types

words : (a b c d : ℕ) → a < 65536 → b < 65536 → c < 65536 → d < 65536 → AreWords (a ∷ b ∷ c ∷ d ∷ [])
words a b c d fa fb fc fd zero = fa
words a b c d fa fb fc fd (suc zero) = fb
words a b c d fa fb fc fd (suc (suc zero)) = fc
words a b c d fa fb fc fd (suc (suc (suc zero))) = fd
words a b c d fa fb fc fd (suc (suc (suc (suc k)))) = lit< tt

told : (rules : Rules) (status : Status) → IsStatus rules status → status_byte (kind_or_0 (kind_of status)) (sleep_of status) < 255
told rules Healthy h = lit< tt
told rules (Asleep zero marked) h = absurd (omega (arith, h.0.0))
told rules (Asleep (suc zero) marked) h = lit< tt
told rules (Asleep (suc (suc zero)) marked) h = lit< tt
told rules (Asleep (suc (suc (suc zero))) marked) h = lit< tt
told rules (Asleep (suc (suc (suc (suc zero)))) marked) h = lit< tt
told rules (Asleep (suc (suc (suc (suc (suc zero))))) marked) h = lit< tt
told rules (Asleep (suc (suc (suc (suc (suc (suc zero)))))) marked) h = lit< tt
told rules (Asleep (suc (suc (suc (suc (suc (suc (suc zero))))))) marked) h = lit< tt
told rules (Asleep (suc (suc (suc (suc (suc (suc (suc (suc n)))))))) marked) h = absurd (omega (arith, h.0.1))
told rules Poisoned h = lit< tt
told rules Burned h = lit< tt
told rules Frozen h = lit< tt
told rules Paralysed h = lit< tt

plain_member : {p : Parts} {s : State} → Stands p s → (side : Side) (place : ℕ) → IsPlainMember (member_state (at_place place (party side s.field)))
plain_member h side place =
    let k = packs_of h in
    let fit = stats_fit_at k side place in
    record {
      moves = refl;
      pp = refl;
      stats = refl;
      hp = hp_fits_at k side place;
      max_hp = fit.0;
      words = words _ _ _ _ fit.1 fit.2 fit.3 fit.4;
    }

energy_fits : (bide : Option Storing) → IsStoring bide → energy_of bide < 65536
energy_fits None h = lit< tt
energy_fits (Some b) h = omega (arith, h.1)

plain_nobody : IsPlainActive no_active
plain_nobody = record {
  types = refl;
  stages = refl;
  stats = refl;
  conditions = lit< tt;
  energy = lit< tt;
  words = words 0 0 0 0 (lit< tt) (lit< tt) (lit< tt) (lit< tt);
}

plain_out : (s : State) (side : Side) → energy_of (active_in side s.field).conditions.underway.bide < 65536
    → IsPlainActive (active_state (member_in side s.field) (active_in side s.field))
plain_out s side energy =
    let m = member_in side s.field in
    let a = active_in side s.field in
    record {
      types = refl;
      stages = refl;
      stats = refl;
      conditions = (let small = number_small a.conditions in omega (arith, small));
      energy = energy;
      words = words _ _ _ _ (now_fits Attack m a) (now_fits Defense m a) (now_fits Speed m a) (now_fits Special m a);
    }

out_energy : (s : State) (side : Side) → IsStarted s.terms s.field → energy_of (active_in side s.field).conditions.underway.bide < 65536
out_energy s One v = energy_fits _ v.field.one.active.conditions.underway.bide
out_energy s Two v = energy_fits _ v.field.two.active.conditions.underway.bide

plain_now : (s : State) (side : Side) → IsUnstarted s.terms s.field ⊎ IsStarted s.terms s.field → IsPlainActive (active_now side s.field)
plain_now s side (inl u) =
    subst (λ (n : ℕ). IsPlainActive (cond (n == 0) no_active (active_state (member_in side s.field) (active_in side s.field)))) (sym u.turn) plain_nobody
plain_now s side (inr v) =
    let out : s.field.turn ≡ 0 → ⊥ = λ z. let low = v.turn in omega arith in
    subst (λ (b : Bool). IsPlainActive (cond b no_active (active_state (member_in side s.field) (active_in side s.field)))) (sym (not_zero s.field.turn out))
    (plain_out s side (out_energy s side v))

-- A side

six_members : (ms : List MemberState) → length ms ≡ 6
    → ms ≡ slice_index_or ms 0 no_member ∷ slice_index_or ms 1 no_member ∷ slice_index_or ms 2 no_member ∷ slice_index_or ms 3 no_member
    ∷ slice_index_or ms 4 no_member ∷ slice_index_or ms 5 no_member ∷ []
six_members [] long = absurd (omega arith)
six_members (a ∷ []) long = absurd (omega arith)
six_members (a ∷ b ∷ []) long = absurd (omega arith)
six_members (a ∷ b ∷ c ∷ []) long = absurd (omega arith)
six_members (a ∷ b ∷ c ∷ d ∷ []) long = absurd (omega arith)
six_members (a ∷ b ∷ c ∷ d ∷ e ∷ []) long = absurd (omega arith)
six_members (a ∷ b ∷ c ∷ d ∷ e ∷ f ∷ []) long = refl
six_members (a ∷ b ∷ c ∷ d ∷ e ∷ f ∷ g ∷ more) long = absurd (omega arith)

side_of : List MemberState → ActiveState → SideState
side_of members active = record { members = members; active = active }

side_made : {a b c d e f a' b' c' d' e' f' : MemberState} {x x' : ActiveState}
    → a ≡ a' → b ≡ b' → c ≡ c' → d ≡ d' → e ≡ e' → f ≡ f' → x ≡ x'
    → side_of (a ∷ b ∷ c ∷ d ∷ e ∷ f ∷ []) x ≡ side_of (a' ∷ b' ∷ c' ∷ d' ∷ e' ∷ f' ∷ []) x'
side_made ea eb ec ed ee ef ex = rw (ea, eb, ec, ed, ee, ef, ex) refl

-- The bytes of a side, part by part.
record SameBytes (z y : SideState) : Type 0 where
  members : (k : ℕ) → k < 6 → member_bytes (member_at k z) ≡ member_bytes (member_at k y)
  active : active_bytes z.active ≡ active_bytes y.active

side_equal : {p : Parts} {s : State} → Stands p s → (side : Side) (y : SideState) → IsPlainSide y → SameBytes (side_state side s.field) y
    → side_state side s.field ≡ y
unfolding side_of
side_equal {s = s} h side y plain same =
    let ok = λ (place : ℕ). status_ok_at (packs_of h) side place in
    let member : (k : ℕ) → k < 6 → member_bytes (member_state (at_place (k + 1) (party side s.field))) ≡ member_bytes (member_at k y)
    → member_state (at_place (k + 1) (party side s.field)) ≡ member_at k y =
    λ k low e. member_equal _ _ (plain_member h side (k + 1)) (plain.members k low) (told s.terms.rules _ (ok (k + 1))) e in
    side_made (member 0 (omega arith) (same.members 0 (omega arith))) (member 1 (omega arith) (same.members 1 (omega arith)))
    (member 2 (omega arith) (same.members 2 (omega arith))) (member 3 (omega arith) (same.members 3 (omega arith)))
    (member 4 (omega arith) (same.members 4 (omega arith))) (member 5 (omega arith) (same.members 5 (omega arith)))
    (active_equal _ _ (plain_now s side h.valid.field) plain.active same.active)
    ∙ ap (λ (ms : List MemberState). side_of ms y.active) (sym (six_members y.members plain.count))

-- The whole

sides_split : (sides : List SideState) → length sides ≡ 2 → sides ≡ slice_index_or sides 0 no_side ∷ slice_index_or sides 1 no_side ∷ []
sides_split [] long = absurd (omega arith)
sides_split (one ∷ []) long = absurd (omega arith)
sides_split (one ∷ two ∷ []) long = refl
sides_split (one ∷ two ∷ three ∷ more) long = absurd (omega arith)

same_one : (z y : BattleState) → parts_of (bytes_of z) ≡ parts_of (bytes_of y) → SameBytes (first_side z) (first_side y)
unfolding bytes_of side_after
same_one z y e = record { members = at; active = ap (λ (q : Parts). q.one.active) e }
  where
    at : (k : ℕ) → k < 6 → member_bytes (member_at k (first_side z)) ≡ member_bytes (member_at k (first_side y))
    at zero low = ap (λ (q : Parts). slice_index_or q.one.members 0 []) e
    at (suc zero) low = ap (λ (q : Parts). slice_index_or q.one.members 1 []) e
    at (suc (suc zero)) low = ap (λ (q : Parts). slice_index_or q.one.members 2 []) e
    at (suc (suc (suc zero))) low = ap (λ (q : Parts). slice_index_or q.one.members 3 []) e
    at (suc (suc (suc (suc zero)))) low = ap (λ (q : Parts). slice_index_or q.one.members 4 []) e
    at (suc (suc (suc (suc (suc zero))))) low = ap (λ (q : Parts). slice_index_or q.one.members 5 []) e
    at (suc (suc (suc (suc (suc (suc k)))))) low = absurd (omega arith)

same_two : (z y : BattleState) → parts_of (bytes_of z) ≡ parts_of (bytes_of y) → SameBytes (second_side z) (second_side y)
unfolding bytes_of side_after
same_two z y e = record { members = at; active = ap (λ (q : Parts). q.two.active) e }
  where
    at : (k : ℕ) → k < 6 → member_bytes (member_at k (second_side z)) ≡ member_bytes (member_at k (second_side y))
    at zero low = ap (λ (q : Parts). slice_index_or q.two.members 0 []) e
    at (suc zero) low = ap (λ (q : Parts). slice_index_or q.two.members 1 []) e
    at (suc (suc zero)) low = ap (λ (q : Parts). slice_index_or q.two.members 2 []) e
    at (suc (suc (suc zero))) low = ap (λ (q : Parts). slice_index_or q.two.members 3 []) e
    at (suc (suc (suc (suc zero)))) low = ap (λ (q : Parts). slice_index_or q.two.members 4 []) e
    at (suc (suc (suc (suc (suc zero))))) low = ap (λ (q : Parts). slice_index_or q.two.members 5 []) e
    at (suc (suc (suc (suc (suc (suc k)))))) low = absurd (omega arith)

same_header : (z y : BattleState) → parts_of (bytes_of z) ≡ parts_of (bytes_of y) → header_bytes z ≡ header_bytes y
unfolding bytes_of side_after
same_header z y e = ap (λ (q : Parts). q.header) e

ten_same : (xs ys : List ℕ) → length xs ≡ 10 → length ys ≡ 10
    → slice_index xs 0 ≡ slice_index ys 0 → slice_index xs 1 ≡ slice_index ys 1 → slice_index xs 2 ≡ slice_index ys 2 → slice_index xs 3 ≡ slice_index ys 3
    → slice_index xs 4 ≡ slice_index ys 4 → slice_index xs 5 ≡ slice_index ys 5 → slice_index xs 6 ≡ slice_index ys 6 → slice_index xs 7 ≡ slice_index ys 7
    → slice_index xs 8 ≡ slice_index ys 8 → slice_index xs 9 ≡ slice_index ys 9 → xs ≡ ys
ten_same xs ys long_x long_y e0 e1 e2 e3 e4 e5 e6 e7 e8 e9 =
    listed 10 xs long_x ∙ rw (e0, e1, e2, e3, e4, e5, e6, e7, e8, e9) refl ∙ sym (listed 10 ys long_y)

numbers_same : (z y : BattleState) → header_bytes z ≡ header_bytes y → length z.numbers ≡ 10 → length y.numbers ≡ 10 → z.numbers ≡ y.numbers
numbers_same z y e long_z long_y =
    let at = λ (k : ℕ). ap (λ (bytes : List ℕ). slice_index bytes k) e in
    ten_same z.numbers y.numbers long_z long_y (at 6) (at 7) (at 8) (at 9) (at 10) (at 11) (at 12) (at 13) (at 14) (at 15)

abbrev state_from : List SideState → ℕ → ℕ → ℕ → ℕ → ℕ → List ℕ → ℕ → List ℕ → BattleState
state_from sides turn limit last_damage rules outcome requests index numbers = record {
  sides = sides;
  turn = turn;
  limit = limit;
  last_damage = last_damage;
  rules = rules;
  outcome = outcome;
  requests = requests;
  index = index;
  numbers = numbers;
}

state_made : {a0 b0 : List SideState} {a1 a2 a3 a4 a5 a7 b1 b2 b3 b4 b5 b7 : ℕ} {a6 a8 b6 b8 : List ℕ} → a0 ≡ b0 → a1 ≡ b1 → a2 ≡ b2 → a3 ≡ b3
    → a4 ≡ b4 → a5 ≡ b5 → a6 ≡ b6 → a7 ≡ b7 → a8 ≡ b8 → state_from a0 a1 a2 a3 a4 a5 a6 a7 a8 ≡ state_from b0 b1 b2 b3 b4 b5 b6 b7 b8
state_made e0 e1 e2 e3 e4 e5 e6 e7 e8 = rw (e0, e1, e2, e3, e4, e5, e6, e7, e8) refl

pub comes_back : ComesBack
comes_back b s plain h =
    let k = packs_of h in
    let z = state_of s in
    let same : parts_of (bytes_of z) ≡ parts_of (bytes_of b) =
    ap parts_of (bytes_same h) ∙ parts-bytes_of s (members_in k One).size.1 (members_in k Two).size.1 ∙ sym h.same in
    let header = same_header z b same in
    let at = λ (n : ℕ). ap (λ (bytes : List ℕ). slice_index bytes n) header in
    let one = side_equal h One (first_side b) plain.one (same_one z b same) in
    let two = side_equal h Two (second_side b) plain.two (same_two z b same) in
    let sides : z.sides ≡ b.sides =
    ap (λ (x : SideState). x ∷ second_side z ∷ []) one ∙ ap (λ (x : SideState). first_side b ∷ x ∷ []) two ∙ sym (sides_split b.sides plain.sides) in
    let damage = k.last_damage in
    state_made sides (word_same z.turn b.turn (turn_packs k) plain.turn (at 1) (at 2))
    (word_same z.limit b.limit (limit_packs k) plain.limit (at 20) (at 21))
    (word_same z.last_damage b.last_damage (omega arith) plain.last_damage (at 3) (at 4))
    (at 19) (at 16) (two_same z.requests b.requests refl plain.requests (at 17) (at 18)) (at 5)
    (numbers_same z b header (ap length (ring_numbers s h.valid.seed.0)) plain.numbers)
