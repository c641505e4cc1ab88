-- The members and the active members of a plain state that passes all tests of its fields pass the tests of loading.
use Rattle.std.proofs.Common.{All, Bool, Err, List, Ok, Result, [], ap, arith, cond, false, inl, inr, nat_le, not, refl, slice_index, suc, sym, true, zero, ℕ, ◌%◌, ◌&&◌, ◌*◌, ◌+◌, ◌-◌, ◌<◌, ◌==◌, ◌||◌, ◌∙◌, ◌∷◌, ◌≡◌, ◌≢◌, ◌≤◌, ◌⊎◌, subst, ◌/◌}
use Rattle.std.proofs.lemmas.Bool.Decides.{nat_tests}
use Rattle.std.proofs.lemmas.Bool.{eqb-true}
use Rattle.std.proofs.lemmas.List.Elements.{All-from_recursion}
use Rattle.gen1_stats.specs.Members.{IsBetween}
use Rattle.gen1_machine.specs.Layout.{high_byte, low_byte}
use Rattle.gen1_layout.specs.Loading.{CountFits, PassesMember, PassesMembers, PassesMoves, PassesPlace, member_bytes as place_bytes, may_be_known, status_fits, DisabledFits, HoldsMove, PassesActive, PassesCounts, PassesFixed, PassesOut, PassesProgress, PassesUnderway, TurnsFit, UsedFits, effect_in, effect_of_number, out_bytes, has as bit_on}
use Rattle.gen1_states.specs.Laws.{IsPlainMember, IsPlainSide, IsPlainActive}
use Rattle.gen1_states.specs.declared.fault.Test.{Test}
use Rattle.gen1_states.specs.declared.plain.MemberState.{MemberState}
use Rattle.gen1_states.specs.declared.plain.SideState.{SideState}
use Rattle.gen1_states.specs.Plain.{Tested, fault_at, first_of, member_at, member_bytes, on, side_after, status_byte, ◌▸◌, active_bytes}
use Rattle.gen1_states.specs.Tests.{is_there, move_tests, number_tests, own_stat_tests, pp_tests, status_tests, tested_member, tested_members, tested_next, count_tests, current_effect, fixed_tests, has, member_out, members_in, moves_in, place_test, progress_tests, stage_tests, tested_block, tied_tests, used_tests}
use Rattle.std.specs.Int.{bit_at}
use Rattle.gen1_tables.specs.declared.effect.Effect.{Effect}
use Rattle.gen1_tables.specs.Effects.{bides, charges, rages, recharges, thrashes, traps}
use Rattle.gen1_machine.specs.Valid.{OnlyWith}
use Rattle.gen1_states.specs.declared.plain.ActiveState.{ActiveState}

-- Tests in a row

pub then_passes : {E : Type 0} (a b : Result (Unit {0}) E) → (a ▸ b) ≡ Ok tt → (a ≡ Ok tt) × (b ≡ Ok tt)
then_passes (Ok u) b e = (refl, e)
then_passes (Err x) b e = absurd (cc)

pub at_passes : (side place : ℕ) (t : Tested) → fault_at side place t ≡ Ok tt → t ≡ Ok tt
at_passes side place (Ok u) e = refl
at_passes side place (Err x) e = absurd (cc)

-- Every test of a list passes.
abbrev pub AllPass : List Test → Type 0
AllPass [] = Unit {0}
AllPass (t ∷ ts) = (t.passes ≡ true) × AllPass ts

pub first_passes : (tests : List Test) → first_of tests ≡ Ok tt → AllPass tests
unfolding first_of
first_passes [] e = tt
first_passes (t ∷ ts) e = by t.passes refl (first_passes ts) e
  where
    by : (b : Bool) → t.passes ≡ b → (first_of ts ≡ Ok tt → AllPass ts) → cond b (first_of ts) (Err t) ≡ Ok tt → AllPass (t ∷ ts)
    by true is rest e = (is, rest e)
    by false is rest e = absurd (cc)

-- One test

pub between : (low high value : ℕ) → (nat_le low value && nat_le value high) ≡ true → IsBetween low high value
between low high value e = (grind (arith, nat_tests), grind (arith, nat_tests))

pub both : (a b : Bool) → (a && b) ≡ true → (a ≡ true) × (b ≡ true)
both true true e = (refl, refl)
both true false e = absurd (cc)
both false b e = absurd (cc)

-- A field that is 0 unless something holds.
pub fits : (b : Bool) (low high value : ℕ) → (nat_le (on b low) value && nat_le value (on b high)) ≡ true → CountFits b low high value
fits true low high value e = between low high value e
fits false low high value e = let high = (between 0 0 value e).1 in omega arith

pub fits_from_0 : (b : Bool) (high value : ℕ) → (nat_le 0 value && nat_le value (on b high)) ≡ true → CountFits b 0 high value
fits_from_0 true high value e = between 0 high value e
fits_from_0 false high value e = let high = (between 0 0 value e).1 in omega arith

pub word_is : (n : ℕ) → n < 65536 → low_byte n + 256 * high_byte n ≡ n
word_is n low = omega arith

pub apart : (a b : ℕ) → not (a == b) ≡ true → a ≢ b
apart a b e = grind (arith, nat_tests)

-- Tests that pass, from what they say

pub then_back : {E : Type 0} (a b : Result (Unit {0}) E) → a ≡ Ok tt → b ≡ Ok tt → (a ▸ b) ≡ Ok tt
then_back a b e f = subst (λ a. (a ▸ b) ≡ Ok tt) (sym e) f

pub at_back : (side place : ℕ) (t : Tested) → t ≡ Ok tt → fault_at side place t ≡ Ok tt
at_back side place t e = ap (fault_at side place) e

pub first_back : (tests : List Test) → AllPass tests → first_of tests ≡ Ok tt
unfolding first_of
first_back [] h = refl
first_back (t ∷ ts) h = ap (λ (b : Bool). cond b (first_of ts) (Err t)) h.0 ∙ first_back ts h.1

pub inside : (low high value : ℕ) → low ≤ value → value ≤ high → (nat_le low value && nat_le value high) ≡ true
inside low high value below above = grind (arith, nat_tests)

pub up_to : (high value : ℕ) → value ≤ high → (nat_le 0 value && nat_le value high) ≡ true
up_to high value above = inside 0 high value (omega arith) above

pub both_back : (a b : Bool) → a ≡ true → b ≡ true → (a && b) ≡ true
both_back a b e f = rw (e, f) refl

pub fits_back : (b : Bool) (low high value : ℕ) → CountFits b low high value → (nat_le (on b low) value && nat_le value (on b high)) ≡ true
fits_back true low high value fit = inside low high value fit.0 fit.1
fits_back false low high value fit = rw fit refl

pub from_0_back : (b : Bool) (high value : ℕ) → CountFits b 0 high value → (nat_le 0 value && nat_le value (on b high)) ≡ true
from_0_back true high value fit = inside 0 high value fit.0 fit.1
from_0_back false high value fit = rw fit refl

-- A member

-- The tests of a member pass.
pub record MemberPasses (m : MemberState) (least most rules : ℕ) : Type 0 where
  pub numbers : AllPass (number_tests m least most)
  pub stats : AllPass (own_stat_tests m)
  pub status : AllPass (status_tests m rules)
  pub moves : AllPass (move_tests m)
  pub pp : AllPass (pp_tests m)

member_tests : (m : MemberState) (least most rules : ℕ) → tested_member m least most rules ≡ Ok tt → MemberPasses m least most rules
unfolding tested_member
member_tests m least most rules e =
    let a = then_passes (first_of (number_tests m least most)) _ e in
    let b = then_passes (first_of (own_stat_tests m)) _ a.1 in
    let c = then_passes (first_of (status_tests m rules)) _ b.1 in
    let d = then_passes (first_of (move_tests m)) _ c.1 in
    record {
      numbers = first_passes (number_tests m least most) a.0;
      stats = first_passes (own_stat_tests m) b.0;
      status = first_passes (status_tests m rules) c.0;
      moves = first_passes (move_tests m) d.0;
      pp = first_passes (pp_tests m) d.1;
    }

-- Its status

pub sleeps : (sleep : ℕ) → IsBetween 1 7 sleep → status_byte 1 sleep ≡ sleep
sleeps sleep range = let low = range.0 in let high = range.1 in grind (arith, nat_tests)

status_ok : (kind sleep : ℕ) → kind ≤ 5 → CountFits (kind == 1) 1 7 sleep → status_fits (status_byte kind sleep) ≡ true
status_ok zero sleep low fit = rw fit refl
status_ok (suc zero) sleep low fit = let low = fit.0 in let high = fit.1 in rw (sleeps sleep fit) (grind (arith, nat_tests))
status_ok (suc (suc zero)) sleep low fit = rw fit refl
status_ok (suc (suc (suc zero))) sleep low fit = rw fit refl
status_ok (suc (suc (suc (suc zero)))) sleep low fit = rw fit refl
status_ok (suc (suc (suc (suc (suc zero))))) sleep low fit = rw fit refl
status_ok (suc (suc (suc (suc (suc (suc k)))))) sleep low fit = absurd (omega arith)

no_status : (kind sleep : ℕ) → kind ≡ 0 → CountFits (kind == 1) 1 7 sleep → status_byte kind sleep ≡ 0
no_status zero sleep none fit = rw fit refl
no_status (suc k) sleep none fit = absurd (omega arith)

suc_some : (n : ℕ) → (suc n == 0) ≡ false
suc_some n = grind (arith, nat_tests)

status_below : (hp status : ℕ) → CountFits (not (hp == 0)) 0 5 status → status ≤ 5
status_below zero status fit = omega arith
status_below (suc hp) status fit = let set : CountFits true 0 5 status = rw (suc_some hp) at fit in set.1

fallen : (hp status : ℕ) → CountFits (not (hp == 0)) 0 5 status → hp ≡ 0 → status ≡ 0
fallen zero status fit none = fit
fallen (suc hp) status fit none = absurd (omega arith)

marked_small : (b : Bool) (mark : ℕ) → CountFits b 0 1 mark → mark ≤ 1
marked_small true mark fit = fit.1
marked_small false mark fit = omega arith

marked_by : (b : Bool) (mark : ℕ) → CountFits b 0 1 mark → mark ≡ 1 → b ≡ true
marked_by true mark fit one = refl
marked_by false mark fit one = absurd (omega arith)

marks : (rules kind sleep mark : ℕ) → CountFits (kind == 1) 1 7 sleep → CountFits (kind == 1 && rules % 2 == 1) 0 1 mark → mark ≡ 1
    → (rules % 2 ≡ 1) × IsBetween 1 7 (status_byte kind sleep)
marks rules kind sleep mark fit set one =
    let tests = both (kind == 1) (rules % 2 == 1) (marked_by _ mark set one) in
    let asleep : kind ≡ 1 = eqb-true _ _ tests.0 in
    let range : IsBetween 1 7 sleep = subst (λ (b : Bool). CountFits b 1 7 sleep) tests.0 fit in
    (eqb-true _ _ tests.1, subst (λ (k : ℕ). IsBetween 1 7 (status_byte k sleep)) (sym asleep) (subst (IsBetween 1 7) (sym (sleeps sleep range)) range))

-- Its moves

-- The number and the PP of a slot, after those of earlier slots.
abbrev pub SlotIs : ℕ → ℕ → List ℕ → Type 0
SlotIs id pp earlier =
    ((id ≡ 0) × (pp ≡ 0)) ⊎ ((may_be_known id ≡ true) × (pp ≤ 63) × All (λ before. (before ≢ 0) × (before ≢ id)) earlier)

slot : (id pp : ℕ) (new : Bool) (earlier : List ℕ) → (id == 0 || (may_be_known id && new)) ≡ true → CountFits (not (id == 0)) 0 63 pp
    → (id ≢ 0 → new ≡ true → All (λ before. (before ≢ 0) × (before ≢ id)) earlier) → SlotIs id pp earlier
slot id pp new earlier known fit others = by (id == 0) refl known fit
  where
    by : (b : Bool) → (id == 0) ≡ b → (b || (may_be_known id && new)) ≡ true → CountFits (not b) 0 63 pp → SlotIs id pp earlier
    by true none known fit = inl (eqb-true _ _ none, fit)
    by false some known fit = let k = both (may_be_known id) new known in inr (k.0, fit.1, others (λ is. grind (arith, nat_tests)) k.1)

pub none_after : (before id high : ℕ) → CountFits (not (before == 0)) 0 high id → before ≡ 0 → id ≡ 0
none_after before id high fit none = subst (λ (n : ℕ). CountFits (not (n == 0)) 0 high id) none fit

-- A slot may have a move only after one that has.
pub after : (before id : ℕ) → (nat_le 0 id && nat_le id (on (not (before == 0)) 164)) ≡ true → id ≢ 0 → before ≢ 0
after before id e some none = some (none_after before id 164 (fits_from_0 _ 164 id e) none)

one : (P : ℕ → Type 0) (a : ℕ) → P a → All P (a ∷ [])
one P a p = All-from_recursion P (a ∷ []) (p, tt)

two : (P : ℕ → Type 0) (a b : ℕ) → P a → P b → All P (a ∷ b ∷ [])
two P a b p q = All-from_recursion P (a ∷ b ∷ []) (p, (q, tt))

three : (P : ℕ → Type 0) (a b c : ℕ) → P a → P b → P c → All P (a ∷ b ∷ c ∷ [])
three P a b c p q r = All-from_recursion P (a ∷ b ∷ c ∷ []) (p, (q, (r, tt)))

-- the tests of a range and of a further rule
pub first_rule : (a b : Bool) → (a && b) ≡ true → a ≡ true
first_rule a b e = (both a b e).0

moves_ok : (m : MemberState) → is_there m ≡ true → AllPass (move_tests m) → AllPass (pp_tests m) → PassesMoves (member_bytes m)
moves_ok m there moves pp =
    let i1 = slice_index m.moves 0 in
    let i2 = slice_index m.moves 1 in
    let i3 = slice_index m.moves 2 in
    let i4 = slice_index m.moves 3 in
    let t1 = both _ _ moves.0 in
    let t2 = both _ _ moves.1.0 in
    let t3 = both _ _ moves.1.1.0 in
    let t4 = both _ _ moves.1.1.1.0 in
    let first : IsBetween 1 164 i1 = subst (λ (b : Bool). CountFits b 1 164 i1) there (fits (is_there m) 1 164 i1 t1.0) in
    let a1 = after i1 i2 t2.0 in
    let a2 = after i2 i3 t3.0 in
    let a3 = after i3 i4 t4.0 in
    record {
      some = (let low = first.0 in λ is. omega arith);
      first = slot i1 (slice_index m.pp 0) true [] t1.1 (fits_from_0 _ 63 _ pp.0) (λ some new. All-from_recursion _ [] tt);
      second =
          slot i2 (slice_index m.pp 1) _ (i1 ∷ []) t2.1 (fits_from_0 _ 63 _ pp.1.0)
          (λ some new. one (λ before. (before ≢ 0) × (before ≢ i2)) i1 (a1 some, λ is. apart i2 i1 new (sym is)));
      third =
          slot i3 (slice_index m.pp 2) _ (i1 ∷ i2 ∷ []) t3.1 (fits_from_0 _ 63 _ pp.1.1.0)
          (λ some new. let n = both _ _ new in
          two (λ before. (before ≢ 0) × (before ≢ i3)) i1 i2 (a1 (a2 some), λ is. apart i3 i1 n.0 (sym is)) (a2 some, λ is. apart i3 i2 n.1 (sym is)));
      fourth =
          slot i4 (slice_index m.pp 3) _ (i1 ∷ i2 ∷ i3 ∷ []) t4.1 (fits_from_0 _ 63 _ pp.1.1.1.0)
          (λ some new. let n = both _ _ new in let k = both _ _ n.0 in
          three (λ before. (before ≢ 0) × (before ≢ i4)) i1 i2 i3 (a1 (a2 (a3 some)), λ is. apart i4 i1 k.0 (sym is))
          (a2 (a3 some), λ is. apart i4 i2 k.1 (sym is)) (a3 some, λ is. apart i4 i3 n.1 (sym is)));
    }

-- A member, and a place without one

abbrev there_in : {b : Bool} {low high value : ℕ} → b ≡ true → CountFits b low high value → IsBetween low high value
there_in {low = low} {high = high} {value = value} there fit = subst (λ (b : Bool). CountFits b low high value) there fit

member_ok : (m : MemberState) (least rules : ℕ) → IsPlainMember m → 1 ≤ m.species → MemberPasses m least 151 rules → PassesMember rules (member_bytes m)
member_ok m least rules plain some p =
    let there : is_there m ≡ true = grind (arith, nat_tests) in
    let species = between least 151 m.species p.numbers.0 in
    let hp = between 0 m.max_hp m.hp p.numbers.1.1.1.0 in
    let max_is = word_is m.max_hp plain.max_hp in
    let hp_is = word_is m.hp plain.hp in
    let status = fits_from_0 (not (m.hp == 0)) 5 m.status p.status.0 in
    let sleep = fits (m.status == 1) 1 7 m.sleep p.status.1.0 in
    let mark = fits_from_0 (m.status == 1 && rules % 2 == 1) 1 m.marked p.status.1.1.0 in
    record {
      numbers = record {
        species = (some, species.1);
        level = there_in there (fits (is_there m) 1 100 m.level p.numbers.1.0);
        max = rw max_is (there_in there (fits (is_there m) 11 999 m.max_hp p.numbers.1.1.0));
        hp = rw (max_is, hp_is) hp.1;
      };
      stats = record {
        attack = rw (word_is _ (plain.words 0)) (there_in there (fits (is_there m) 5 999 _ p.stats.0));
        defense = rw (word_is _ (plain.words 1)) (there_in there (fits (is_there m) 5 999 _ p.stats.1.0));
        speed = rw (word_is _ (plain.words 2)) (there_in there (fits (is_there m) 5 999 _ p.stats.1.1.0));
        special = rw (word_is _ (plain.words 3)) (there_in there (fits (is_there m) 5 999 _ p.stats.1.1.1.0));
      };
      status = record {
        status = status_ok m.status m.sleep (status_below m.hp m.status status) sleep;
        fallen = λ none. no_status m.status m.sleep (fallen m.hp m.status status (sym hp_is ∙ none)) sleep;
        mark = marked_small _ m.marked mark;
        marked = marks rules m.status m.sleep m.marked sleep mark;
      };
      moves = moves_ok m there p.moves p.pp;
    }

pub zero_in : (b : Bool) (low high value : ℕ) → b ≡ false → CountFits b low high value → value ≡ 0
zero_in b low high value none fit = subst (λ (b : Bool). CountFits b low high value) none fit

pub low_zero : (n : ℕ) → n ≡ 0 → low_byte n ≡ 0
low_zero n none = omega arith

pub high_zero : (n : ℕ) → n ≡ 0 → high_byte n ≡ 0
high_zero n none = omega arith

nobody_ok : (m : MemberState) (most rules : ℕ) → m.species ≡ 0 → MemberPasses m 0 most rules → All (λ byte. byte ≡ 0) (member_bytes m)
nobody_ok m most rules none p =
    let gone : is_there m ≡ false = rw none refl in
    let level = zero_in _ 1 100 _ gone (fits (is_there m) 1 100 m.level p.numbers.1.0) in
    let max : m.max_hp ≡ 0 = zero_in _ 11 999 _ gone (fits (is_there m) 11 999 m.max_hp p.numbers.1.1.0) in
    let below = between 0 m.max_hp m.hp p.numbers.1.1.1.0 in
    let hp : m.hp ≡ 0 = let high = below.1 in omega arith in
    let s1 = zero_in _ 5 999 _ gone (fits (is_there m) 5 999 _ p.stats.0) in
    let s2 = zero_in _ 5 999 _ gone (fits (is_there m) 5 999 _ p.stats.1.0) in
    let s3 = zero_in _ 5 999 _ gone (fits (is_there m) 5 999 _ p.stats.1.1.0) in
    let s4 = zero_in _ 5 999 _ gone (fits (is_there m) 5 999 _ p.stats.1.1.1.0) in
    let status = fallen m.hp m.status (fits_from_0 _ 5 _ p.status.0) hp in
    let byte = no_status m.status m.sleep status (fits (m.status == 1) 1 7 m.sleep p.status.1.0) in
    let awake : (m.status == 1 && rules % 2 == 1) ≡ false = rw status refl in
    let mark = zero_in _ 0 1 _ awake (fits_from_0 _ 1 m.marked p.status.1.1.0) in
    let i1 = zero_in _ 1 164 _ gone (fits (is_there m) 1 164 _ (first_rule _ _ p.moves.0)) in
    let i2 = none_after _ _ 164 (fits_from_0 _ 164 _ (first_rule _ _ p.moves.1.0)) i1 in
    let i3 = none_after _ _ 164 (fits_from_0 _ 164 _ (first_rule _ _ p.moves.1.1.0)) i2 in
    let i4 = none_after _ _ 164 (fits_from_0 _ 164 _ (first_rule _ _ p.moves.1.1.1.0)) i3 in
    let p1 = none_after _ _ 63 (fits_from_0 _ 63 _ p.pp.0) i1 in
    let p2 = none_after _ _ 63 (fits_from_0 _ 63 _ p.pp.1.0) i2 in
    let p3 = none_after _ _ 63 (fits_from_0 _ 63 _ p.pp.1.1.0) i3 in
    let p4 = none_after _ _ 63 (fits_from_0 _ 63 _ p.pp.1.1.1.0) i4 in
    All-from_recursion (λ byte. byte ≡ 0) (member_bytes m)
    (none, (level, (low_zero _ max, (high_zero _ max, (low_zero _ hp, (high_zero _ hp, (low_zero _ s1, (high_zero _ s1, (low_zero _ s2, (high_zero _ s2, (low_zero _ s3, (high_zero _ s3, (low_zero _ s4, (high_zero _ s4, (byte, (i1, (i2, (i3, (i4, (p1, (p2, (p3, (p4, (mark, tt))))))))))))))))))))))))

place_ok : (before m : MemberState) (rules : ℕ) → IsPlainMember m → MemberPasses m 0 (on (is_there before) 151) rules
    → PassesPlace rules (member_bytes before) (member_bytes m)
place_ok before m rules plain p = by m.species refl
  where
    by : (n : ℕ) → m.species ≡ n → PassesPlace rules (member_bytes before) (member_bytes m)
    by zero is = inl (nobody_ok m _ rules is p)
    by (suc n) is =
        let first : before.species ≢ 0 = λ none. let zero_is = none_after before.species m.species 151 (fits_from_0 _ 151 _ p.numbers.0) none in omega arith in
        let there : is_there before ≡ true = grind (arith, nat_tests) in
        inr (member_ok m 0 rules plain (omega arith) (subst (λ (b : Bool). MemberPasses m 0 (on b 151) rules) there p), first)

-- The members of a side

-- The tests of a side's members pass.
pub record SidePasses (s : SideState) (rules : ℕ) : Type 0 where
  pub first : MemberPasses (member_at 0 s) 1 151 rules
  pub second : MemberPasses (member_at 1 s) 0 (on (is_there (member_at 0 s)) 151) rules
  pub third : MemberPasses (member_at 2 s) 0 (on (is_there (member_at 1 s)) 151) rules
  pub fourth : MemberPasses (member_at 3 s) 0 (on (is_there (member_at 2 s)) 151) rules
  pub fifth : MemberPasses (member_at 4 s) 0 (on (is_there (member_at 3 s)) 151) rules
  pub sixth : MemberPasses (member_at 5 s) 0 (on (is_there (member_at 4 s)) 151) rules

pub side_tests : (s : SideState) (number rules : ℕ) → tested_members s number rules ≡ Ok tt → SidePasses s rules
unfolding tested_members
side_tests s number rules e =
    let a = then_passes (fault_at number 1 (tested_member (member_at 0 s) 1 151 rules)) _ e in
    let b = then_passes (fault_at number 2 (tested_next (member_at 0 s) (member_at 1 s) rules)) _ a.1 in
    let c = then_passes (fault_at number 3 (tested_next (member_at 1 s) (member_at 2 s) rules)) _ b.1 in
    let d = then_passes (fault_at number 4 (tested_next (member_at 2 s) (member_at 3 s) rules)) _ c.1 in
    let f = then_passes (fault_at number 5 (tested_next (member_at 3 s) (member_at 4 s) rules)) _ d.1 in
    record {
      first = member_tests _ _ _ _ (at_passes number 1 _ a.0);
      second = member_tests _ _ _ _ (at_passes number 2 _ b.0);
      third = member_tests _ _ _ _ (at_passes number 3 _ c.0);
      fourth = member_tests _ _ _ _ (at_passes number 4 _ d.0);
      fifth = member_tests _ _ _ _ (at_passes number 5 _ f.0);
      sixth = member_tests _ _ _ _ (at_passes number 6 _ f.1);
    }

-- The bytes of a side.
abbrev pub side_bytes : SideState → List ℕ
side_bytes s = side_after [] s

two_to_six : (P : ℕ → Type 0) → P 2 → P 3 → P 4 → P 5 → P 6 → (place : ℕ) → 2 ≤ place → place < 7 → P place
two_to_six P p2 p3 p4 p5 p6 zero low high = absurd (omega arith)
two_to_six P p2 p3 p4 p5 p6 (suc zero) low high = absurd (omega arith)
two_to_six P p2 p3 p4 p5 p6 (suc (suc zero)) low high = p2
two_to_six P p2 p3 p4 p5 p6 (suc (suc (suc zero))) low high = p3
two_to_six P p2 p3 p4 p5 p6 (suc (suc (suc (suc zero)))) low high = p4
two_to_six P p2 p3 p4 p5 p6 (suc (suc (suc (suc (suc zero))))) low high = p5
two_to_six P p2 p3 p4 p5 p6 (suc (suc (suc (suc (suc (suc zero)))))) low high = p6
two_to_six P p2 p3 p4 p5 p6 (suc (suc (suc (suc (suc (suc (suc more))))))) low high = absurd (omega arith)

pub members_ok : (s : SideState) (rules : ℕ) → IsPlainSide s → SidePasses s rules → PassesMembers rules (side_bytes s)
unfolding side_after
members_ok s rules plain p =
    let least = (between 1 151 _ p.first.numbers.0).0 in
    let m = λ (k : ℕ) (low : k < 6). plain.members k low in
    record {
      first = member_ok (member_at 0 s) 1 rules (m 0 (omega arith)) least p.first;
      others =
          two_to_six (λ place. PassesPlace rules (place_bytes (place - 1) (side_bytes s)) (place_bytes place (side_bytes s)))
          (place_ok (member_at 0 s) (member_at 1 s) rules (m 1 (omega arith)) p.second)
          (place_ok (member_at 1 s) (member_at 2 s) rules (m 2 (omega arith)) p.third)
          (place_ok (member_at 2 s) (member_at 3 s) rules (m 3 (omega arith)) p.fourth)
          (place_ok (member_at 3 s) (member_at 4 s) rules (m 4 (omega arith)) p.fifth)
          (place_ok (member_at 4 s) (member_at 5 s) rules (m 5 (omega arith)) p.sixth);
    }

-- What is filled from the front, without gaps: places with members, slots with moves.

-- Each number above 0 comes after one above 0.
abbrev pub Follows : ℕ → List ℕ → Type 0
Follows before [] = Unit {0}
Follows before (x ∷ xs) = (x ≢ 0 → before ≢ 0) × Follows x xs

-- How many are above 0.
abbrev pub filled_in : List ℕ → ℕ
filled_in [] = 0
filled_in (x ∷ xs) = on (not (x == 0)) 1 + filled_in xs

pub none_filled : (xs : List ℕ) → Follows 0 xs → filled_in xs ≡ 0
none_filled [] h = refl
none_filled (zero ∷ xs) h = let rest = none_filled xs h.1 in omega arith
none_filled (suc x ∷ xs) h = absurd (h.0 (λ is. omega arith) refl)

pub counted : (x : ℕ) → on (not (suc x == 0)) 1 ≡ 1
counted x = grind (arith, nat_tests)

filled : (x : ℕ) (xs : List ℕ) (k : ℕ) → Follows x xs → k < filled_in (x ∷ xs) → slice_index (x ∷ xs) k ≢ 0
filled zero xs k h low = absurd (let none = none_filled xs h in omega arith)
filled (suc x) xs zero h low = λ is. omega arith
filled (suc x) [] (suc k) h low = absurd (let full = counted x in omega arith)
filled (suc x) (y ∷ ys) (suc k) h low = filled y ys k h.1 (let full = counted x in omega arith)

-- The slot of a move

abbrev pub ids : MemberState → List ℕ
ids m = slice_index m.moves 1 ∷ slice_index m.moves 2 ∷ slice_index m.moves 3 ∷ []

pub ids_follow : (m : MemberState) → AllPass (move_tests m) → Follows (slice_index m.moves 0) (ids m)
ids_follow m p =
    (after _ _ (first_rule _ _ p.1.0), (after _ _ (first_rule _ _ p.1.1.0), (after _ _ (first_rule _ _ p.1.1.1.0), tt)))

pub slot_byte : (m : MemberState) (slot : ℕ) → IsBetween 1 4 slot → slice_index (member_bytes m) (14 + slot) ≡ slice_index (slice_index m.moves 0 ∷ ids m) (slot - 1)
slot_byte m zero range = absurd (let low = range.0 in omega arith)
slot_byte m (suc zero) range = refl
slot_byte m (suc (suc zero)) range = refl
slot_byte m (suc (suc (suc zero))) range = refl
slot_byte m (suc (suc (suc (suc zero)))) range = refl
slot_byte m (suc (suc (suc (suc (suc k))))) range = absurd (let high = range.1 in omega arith)

few_filled : (b : Bool) → on b 1 ≤ 1
few_filled true = omega arith
few_filled false = omega arith

moves_few : (m : MemberState) → moves_in m ≤ 4
moves_few m =
    let a = few_filled (not (slice_index m.moves 0 == 0)) in
    let b = few_filled (not (slice_index m.moves 1 == 0)) in
    let c = few_filled (not (slice_index m.moves 2 == 0)) in
    let d = few_filled (not (slice_index m.moves 3 == 0)) in
    omega arith

holds : (m : MemberState) → AllPass (move_tests m) → (slot : ℕ) → 1 ≤ slot → slot ≤ moves_in m → HoldsMove (member_bytes m) slot
holds m p slot low high =
    let few = moves_few m in
    let range : IsBetween 1 4 slot = (low, omega arith) in
    let some = filled (slice_index m.moves 0) (ids m) (slot - 1) (ids_follow m p) (omega arith) in
    (range, λ none. some (sym (slot_byte m slot range) ∙ none))

-- The member that is out

abbrev pub species : SideState → List ℕ
species s =
    (member_at 1 s).species ∷ (member_at 2 s).species ∷ (member_at 3 s).species ∷ (member_at 4 s).species ∷ (member_at 5 s).species ∷ []

pub members_few : (s : SideState) → members_in s ≤ 6
members_few s =
    let a = few_filled (is_there (member_at 0 s)) in
    let b = few_filled (is_there (member_at 1 s)) in
    let c = few_filled (is_there (member_at 2 s)) in
    let d = few_filled (is_there (member_at 3 s)) in
    let e = few_filled (is_there (member_at 4 s)) in
    let f = few_filled (is_there (member_at 5 s)) in
    omega arith

-- A place may have a member only after one that has.
follows : (before m : MemberState) (rules : ℕ) → MemberPasses m 0 (on (is_there before) 151) rules → m.species ≢ 0 → before.species ≢ 0
follows before m rules p some none = some (none_after before.species m.species 151 (fits_from_0 _ 151 _ p.numbers.0) none)

pub species_follow : (s : SideState) (rules : ℕ) → SidePasses s rules → Follows (member_at 0 s).species (species s)
species_follow s rules p = (
  follows (member_at 0 s) (member_at 1 s) rules p.second,
  (
    follows (member_at 1 s) (member_at 2 s) rules p.third,
    (
      follows (member_at 2 s) (member_at 3 s) rules p.fourth,
      (
        follows (member_at 3 s) (member_at 4 s) rules p.fifth,
        (follows (member_at 4 s) (member_at 5 s) rules p.sixth, tt),
      ),
    ),
  ),
)

-- What is known of the member at a place: its bytes are those of the place, its moves pass.
pub record IsOut (s : SideState) (place : ℕ) : Type 0 where
  pub bytes : place_bytes place (side_bytes s) ≡ member_bytes (member_at (place - 1) s)
  pub species : (member_at (place - 1) s).species ≡ slice_index ((member_at 0 s).species ∷ species s) (place - 1)
  pub moves : AllPass (move_tests (member_at (place - 1) s))

pub is_out : (s : SideState) (rules : ℕ) → SidePasses s rules → (place : ℕ) → IsBetween 1 6 place → IsOut s place
unfolding side_after
is_out s rules p zero range = absurd (let low = range.0 in omega arith)
is_out s rules p (suc zero) range = record { bytes = refl; species = refl; moves = p.first.moves }
is_out s rules p (suc (suc zero)) range = record { bytes = refl; species = refl; moves = p.second.moves }
is_out s rules p (suc (suc (suc zero))) range = record { bytes = refl; species = refl; moves = p.third.moves }
is_out s rules p (suc (suc (suc (suc zero)))) range = record { bytes = refl; species = refl; moves = p.fourth.moves }
is_out s rules p (suc (suc (suc (suc (suc zero))))) range = record { bytes = refl; species = refl; moves = p.fifth.moves }
is_out s rules p (suc (suc (suc (suc (suc (suc zero)))))) range = record { bytes = refl; species = refl; moves = p.sixth.moves }
is_out s rules p (suc (suc (suc (suc (suc (suc (suc k))))))) range = absurd (let high = range.1 in omega arith)

-- The member that is out: its bytes are those of the place, there is one, and its moves pass.
pub record OutPasses (s : SideState) : Type 0 where
  pub bytes : out_bytes (side_bytes s) ≡ member_bytes (member_out s)
  pub some : (member_out s).species ≢ 0
  pub moves : AllPass (move_tests (member_out s))

pub at_place : (s : SideState) → s.active.place ≤ 6 → member_at (s.active.place - 1) s ≡ member_out s
at_place s high =
    let within : nat_le s.active.place 6 ≡ true = grind (arith, nat_tests) in
    ap (λ (b : Bool). member_at (cond b (s.active.place - 1) 0) s) (sym within)

pub out_from : (s : SideState) (m : MemberState) → IsOut s s.active.place → member_at (s.active.place - 1) s ≡ m
    → slice_index ((member_at 0 s).species ∷ species s) (s.active.place - 1) ≢ 0
    → (place_bytes s.active.place (side_bytes s) ≡ member_bytes m) × (m.species ≢ 0) × AllPass (move_tests m)
out_from s m out is some = (
  out.bytes ∙ ap member_bytes is,
  (λ none. some (sym out.species ∙ ap (λ (m : MemberState). m.species) is ∙ none)),
  subst (λ (m : MemberState). AllPass (move_tests m)) is out.moves,
)

pub out_passes : (s : SideState) (rules : ℕ) → SidePasses s rules → IsBetween 1 (members_in s) s.active.place → OutPasses s
unfolding side_after
out_passes s rules p range =
    let few = members_few s in
    let low = range.0 in
    let high = range.1 in
    let some = filled (member_at 0 s).species (species s) (s.active.place - 1) (species_follow s rules p) (omega arith) in
    let facts = out_from s (member_out s) (is_out s rules p s.active.place (low, omega arith)) (at_place s (omega arith)) some in
    record { bytes = facts.0; some = facts.1; moves = facts.2 }

-- Bits of the conditions

pub long_is : (c : ℕ) → c < 4294967296 → low_byte c + 256 * high_byte c + 65536 * (low_byte (c / 65536) + 256 * high_byte (c / 65536)) ≡ c
long_is c low = omega arith

pub bit_is : (a : ActiveState) → IsPlainActive a → (k : ℕ) → has a k ≡ bit_on k (active_bytes a)
bit_is a plain k = ap (λ (n : ℕ). bit_at n k == 1) (sym (long_is a.conditions plain.conditions))

-- The moves that an active member uses

disabled_ok : (m : MemberState) → AllPass (move_tests m) → (b : Bool) (slot turns : ℕ)
    → (nat_le (on b 1) slot && nat_le slot (on b (moves_in m))) ≡ true → (nat_le (on b 1) turns && nat_le turns (on b 8)) ≡ true
    → DisabledFits b (member_bytes m) slot turns
disabled_ok m p true slot turns e f = let range = between 1 (moves_in m) slot e in (holds m p slot range.0 range.1, between 1 8 turns f)
disabled_ok m p false slot turns e f = (zero_in false 1 1 slot refl (fits false 1 1 slot e), zero_in false 1 8 turns refl (fits false 1 8 turns f))

used_ok : (m : MemberState) → AllPass (move_tests m) → (used : ℕ) → (used == 5 || nat_le used (moves_in m)) ≡ true → UsedFits (member_bytes m) used
used_ok m p zero e = inl refl
used_ok m p (suc k) e = by (suc k == 5) refl e
  where
    by : (b : Bool) → (suc k == 5) ≡ b → (b || nat_le (suc k) (moves_in m)) ≡ true → UsedFits (member_bytes m) (suc k)
    by true is e = inr (inl (eqb-true _ _ is))
    by false is e = inr (inr (holds m p (suc k) (omega arith) (grind (arith, nat_tests))))

tied_ok : (stands explained : Bool) → (nat_le 0 (on stands 1) && nat_le (on stands 1) (on explained 1)) ≡ true → OnlyWith explained stands
tied_ok true true e set = refl
tied_ok true false e set = absurd (cc)
tied_ok false explained e set = absurd (cc)

pub turns_ok : (long trapping : Bool) (turns : ℕ) → (nat_le (on long 1) turns && nat_le turns (cond long 3 (on trapping 4))) ≡ true → TurnsFit long trapping turns
turns_ok true trapping turns e = between 1 3 turns e
turns_ok false trapping turns e = fits_from_0 trapping 4 turns e

slot_move : (m : MemberState) (slot : ℕ) → IsBetween 1 4 slot → slice_index (member_bytes m) (14 + slot) ≡ slice_index m.moves (slot - 1)
slot_move m zero range = absurd (let low = range.0 in omega arith)
slot_move m (suc zero) range = refl
slot_move m (suc (suc zero)) range = refl
slot_move m (suc (suc (suc zero))) range = refl
slot_move m (suc (suc (suc (suc zero)))) range = refl
slot_move m (suc (suc (suc (suc (suc k))))) range = absurd (let high = range.1 in omega arith)

pub effect_is : (m : MemberState) (slot : ℕ) → current_effect m slot ≡ effect_in (member_bytes m) slot
effect_is m slot = ap effect_of_number (by (nat_le 1 slot && nat_le slot 4) refl)
  where
    by : (b : Bool) → (nat_le 1 slot && nat_le slot 4) ≡ b
        → cond b (slice_index m.moves (slot - 1)) 0 ≡ cond b (slice_index (member_bytes m) (14 + slot)) 0
    by true is = sym (slot_move m slot (between 1 4 slot is))
    by false is = refl

-- The block of an active member

pub record BlockPasses (s : SideState) (begun : Bool) : Type 0 where
  pub place : AllPass (place_test s begun ∷ [])
  pub fixed : AllPass (fixed_tests s.active begun)
  pub stages : AllPass (stage_tests s.active begun)
  pub counts : AllPass (count_tests s.active (moves_in (member_out s)))
  pub progress : AllPass (progress_tests s.active)
  pub used : AllPass (used_tests s.active (moves_in (member_out s)) begun)
  pub tied : AllPass (tied_tests s.active (current_effect (member_out s) s.active.current_move))

pub block_tests : (s : SideState) (begun : Bool) → tested_block s begun ≡ Ok tt → BlockPasses s begun
unfolding tested_block
block_tests s begun e =
    let a = then_passes (first_of (place_test s begun ∷ [])) _ e in
    let b = then_passes (first_of (fixed_tests s.active begun)) _ a.1 in
    let c = then_passes (first_of (stage_tests s.active begun)) _ b.1 in
    let d = then_passes (first_of (count_tests s.active (moves_in (member_out s)))) _ c.1 in
    let f = then_passes (first_of (progress_tests s.active)) _ d.1 in
    let g = then_passes (first_of (used_tests s.active (moves_in (member_out s)) begun)) _ f.1 in
    record {
      place = first_passes (place_test s begun ∷ []) a.0;
      fixed = first_passes (fixed_tests s.active begun) b.0;
      stages = first_passes (stage_tests s.active begun) c.0;
      counts = first_passes (count_tests s.active (moves_in (member_out s))) d.0;
      progress = first_passes (progress_tests s.active) f.0;
      used = first_passes (used_tests s.active (moves_in (member_out s)) begun) g.0;
      tied = first_passes (tied_tests s.active (current_effect (member_out s) s.active.current_move)) g.1;
    }

fixed_ok : (a : ActiveState) → IsPlainActive a → AllPass (fixed_tests a true) → AllPass (stage_tests a true) → PassesFixed (active_bytes a)
fixed_ok a plain fixed stages =
    let most = (between 0 131071 a.conditions fixed.1.1.0).1 in
    let is = long_is a.conditions plain.conditions in
    record {
      first_type = (between 0 14 _ fixed.0).1;
      second_type = (between 0 14 _ fixed.1.0).1;
      stages = record {
        attack = (between 0 12 _ stages.0).1;
        defense = (between 0 12 _ stages.1.0).1;
        speed = (between 0 12 _ stages.1.1.0).1;
        special = (between 0 12 _ stages.1.1.1.0).1;
        accuracy = (between 0 12 _ stages.1.1.1.1.0).1;
        evasion = (between 0 12 _ stages.1.1.1.1.1.0).1;
      };
      conditions = omega (arith, is);
      rest = refl;
    }

counts_ok : (m : MemberState) (a : ActiveState) → IsPlainActive a → AllPass (move_tests m) → AllPass (count_tests a (moves_in m))
    → PassesCounts (member_bytes m) (active_bytes a)
counts_ok m a plain moves p =
    let bit = bit_is a plain in
    record {
      substitute = subst (λ (b : Bool). CountFits b 0 249 a.substitute) (bit 9) (fits_from_0 _ 249 _ p.0);
      confused = subst (λ (b : Bool). CountFits b 1 5 a.confusion) (bit 6) (fits (has a 6) 1 5 a.confusion p.1.0);
      disabled =
          subst (λ (b : Bool). DisabledFits b (member_bytes m) a.disabled_slot a.disabled_turns) (bit 16)
          (disabled_ok m moves (has a 16) a.disabled_slot a.disabled_turns p.1.1.0 p.1.1.1.0);
      bad_poison = subst (λ (b : Bool). CountFits b 0 64 a.bad_poison) (bit 13) (fits_from_0 _ 64 _ p.1.1.1.1.0);
    }

progress_ok : (a : ActiveState) → IsPlainActive a → AllPass (progress_tests a) → PassesProgress (active_bytes a)
progress_ok a plain p =
    let bit = bit_is a plain in
    record {
      turns =
          subst (λ (b : Bool). TurnsFit (b || bit_on 1 (active_bytes a)) (bit_on 2 (active_bytes a)) a.turns) (bit 0)
          (subst (λ (b : Bool). TurnsFit (has a 0 || b) (bit_on 2 (active_bytes a)) a.turns) (bit 1)
          (subst (λ (b : Bool). TurnsFit (has a 0 || has a 1) b a.turns) (bit 2) (turns_ok (has a 0 || has a 1) (has a 2) a.turns p.0)));
      energy =
          rw (word_is a.energy plain.energy) (subst (λ (b : Bool). CountFits b 0 65535 a.energy) (bit 0) (fits_from_0 _ 65535 _ p.1.0));
      kept =
          subst (λ (b : Bool). CountFits (b || bit_on 1 (active_bytes a)) 1 255 a.kept_accuracy) (bit 11)
          (subst (λ (b : Bool). CountFits (has a 11 || b) 1 255 a.kept_accuracy) (bit 1)
          (fits (has a 11 || has a 1) 1 255 a.kept_accuracy p.1.1.0));
    }

tied_by : (a : ActiveState) → IsPlainActive a → (effect : Effect) → AllPass (tied_tests a effect) → PassesUnderway effect (active_bytes a)
tied_by a plain effect p =
    let only = λ (k : ℕ) (b : Bool) (e : (nat_le 0 (on (has a k) 1) && nat_le (on (has a k) 1) (on b 1)) ≡ true).
    subst (OnlyWith b) (bit_is a plain k) (tied_ok (has a k) b e) in
    record {
      bide = only 0 (bides effect) p.0;
      thrash = only 1 (thrashes effect) p.1.0;
      trapping = only 2 (traps effect) p.1.1.0;
      charging = only 4 (charges effect) p.1.1.1.0;
      recharge = only 10 (recharges effect) p.1.1.1.1.0;
      rage = only 11 (rages effect) p.1.1.1.1.1.0;
    }

block_ok : (m : MemberState) (a : ActiveState) → IsPlainActive a → AllPass (move_tests m) → AllPass (fixed_tests a true) → AllPass (stage_tests a true)
    → AllPass (count_tests a (moves_in m)) → AllPass (progress_tests a) → AllPass (used_tests a (moves_in m) true)
    → AllPass (tied_tests a (current_effect m a.current_move)) → PassesOut (member_bytes m) (active_bytes a)
block_ok m a plain moves fixed stages counts progress used tied = record {
  fixed = fixed_ok a plain fixed stages;
  counts = counts_ok m a plain moves counts;
  progress = progress_ok a plain progress;
  current_move = used_ok m moves a.current_move (both _ _ used.0).1;
  picked_move = used_ok m moves a.picked_move (both _ _ used.1.0).1;
  underway =
      subst (λ (effect : Effect). PassesUnderway effect (active_bytes a)) (effect_is m a.current_move)
      (tied_by a plain (current_effect m a.current_move) tied);
}

pub active_ok : (s : SideState) → IsPlainSide s → OutPasses s → BlockPasses s true → PassesActive (side_bytes s)
unfolding side_after
active_ok s plain out p =
    let range = between 1 (members_in s) s.active.place p.place.0 in
    let few = members_few s in
    let high = range.1 in
    let block = block_ok (member_out s) s.active plain.active out.moves p.fixed p.stages p.counts p.progress p.used p.tied in
    record {
      place = (range.0, omega arith);
      member = (λ none. out.some (sym (ap (λ (l : List ℕ). slice_index l 0) out.bytes) ∙ none));
      out = subst (λ (l : List ℕ). PassesOut l (active_bytes s.active)) (sym out.bytes) block;
    }
