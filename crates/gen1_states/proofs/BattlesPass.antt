-- A plain state whose bytes are a battle passes all tests of its fields.
use Rattle.std.proofs.Common.{All, Bool, List, Ok, [], ap, arith, cond, false, inl, inr, nat_le, not, refl, slice_index, suc, sym, true, zero, ℕ, ◌%◌, ◌&&◌, ◌*◌, ◌+◌, ◌-◌, ◌<◌, ◌==◌, ◌||◌, ◌∙◌, ◌∷◌, ◌≡◌, ◌≢◌, ◌≤◌, subst, ◌/◌, div-le_self, max, nat_lt}
use Rattle.std.proofs.lemmas.Bool.Decides.{nat_tests}
use Rattle.std.proofs.lemmas.Bool.{eqb-true, cases_lt}
use Rattle.gen1_stats.specs.Members.{IsBetween}
use Rattle.gen1_machine.specs.Layout.{high_byte, low_byte}
use Rattle.gen1_layout.specs.Loading.{CountFits, PassesMember, PassesMembers, PassesMoves, PassesPlace, may_be_known, status_fits, DisabledFits, HoldsMove, PassesActive, PassesOut, PassesUnderway, TurnsFit, UsedFits, out_bytes, has as bit_on, PassesStats, PassesActiveAt, PassesAsked, PassesHeader, PassesLater, PassesRequests, PassesStart, PassesStatsAt, PassesTie, any_lives as any_alive, lives as alive}
use Rattle.gen1_states.specs.Laws.{IsPlainMember, IsPlainSide, IsPlainActive, IsPlain}
use Rattle.gen1_states.specs.declared.plain.MemberState.{MemberState}
use Rattle.gen1_states.specs.declared.plain.SideState.{SideState}
use Rattle.gen1_states.specs.Plain.{fault_at, first_of, member_at, member_bytes, on, side_after, status_byte, active_bytes, awake_byte, bytes_of, first_side, header_bytes, header_tests, request_test, second_side, tested_header}
use Rattle.gen1_states.specs.Tests.{is_there, move_tests, number_tests, own_stat_tests, pp_tests, status_tests, tested_member, tested_members, count_tests, current_effect, fixed_tests, has, member_out, members_in, moves_in, place_test, progress_tests, stage_tests, tested_block, tied_tests, used_tests, comes_from, stat_at, stat_tests, any_lives, asked, first_test, lives, outcome_fits, outcome_test, requests_due, tested, tested_active, tested_requests, tested_stats, turn_test, request_test as due_test}
use Rattle.gen1_tables.specs.declared.effect.Effect.{Effect}
use Rattle.gen1_tables.specs.Effects.{bides, charges, rages, recharges, thrashes, traps}
use Rattle.gen1_machine.specs.Valid.{OnlyWith}
use Rattle.gen1_states.specs.declared.plain.ActiveState.{ActiveState}
use Rattle.gen1_tables.specs.declared.effect.Stat.TheVariants.{Attack, Speed}
use Rattle.gen1_machine.specs.Stages.{at_stage, divided_times}
use Rattle.gen1_states.proofs.PassingStates.{divided_first, no_bits, stage_is, ActivePasses, RequestsPass, any_is, going_due, lives_is, none_due, out_lives, out_plain, over_at}
use Rattle.gen1_states.proofs.Passing.{then_back, at_back, first_back, inside, up_to, both_back, fits_back, from_0_back, AllPass, BlockPasses, Follows, MemberPasses, OutPasses, SidePasses, SlotIs, at_place, bit_is, counted, effect_is, filled_in, ids, ids_follow, is_out, long_is, none_filled, out_from, slot_byte, species, species_follow, sleeps, between, both, side_bytes, word_is}
use Rattle.gen1_layout.specs.LoadingLaws.{AreBytes, IsBattle, PassesForm, StandsFor}
use Rattle.gen1_layout.proofs.LoadingForms.{forms_law}
use Rattle.gen1_states.specs.declared.plain.BattleState.{BattleState}
use Rattle.gen1_states.proofs.ThereAndBack.{has_length, in_version_three}

-- The status

asleep_back : (sleep : ℕ) → status_fits (status_byte 1 sleep) ≡ true → IsBetween 1 7 sleep
asleep_back sleep e = (grind (arith, nat_tests), grind (arith, nat_tests))

awake_back : (kind sleep : ℕ) → (kind == 1) ≡ false → status_fits (status_byte kind sleep) ≡ true → sleep ≡ 0
awake_back kind sleep other e =
    by (sleep == 0) refl (ap (λ (b : Bool). status_fits (cond b (cond (nat_le 1 sleep && nat_le sleep 7) sleep 255) (cond (sleep == 0) (awake_byte kind) 255))) (sym other) ∙ e)
  where
    by : (b : Bool) → (sleep == 0) ≡ b → status_fits (cond b (awake_byte kind) 255) ≡ true → sleep ≡ 0
    by true is e = eqb-true _ _ is
    by false is e = absurd (cc)

sleep_fits_back : (kind sleep : ℕ) → status_fits (status_byte kind sleep) ≡ true → CountFits (kind == 1) 1 7 sleep
sleep_fits_back kind sleep e = by (kind == 1) refl
  where
    by : (b : Bool) → (kind == 1) ≡ b → CountFits b 1 7 sleep
    by true is = asleep_back sleep (subst (λ (k : ℕ). status_fits (status_byte k sleep) ≡ true) (eqb-true _ _ is) e)
    by false is = awake_back kind sleep is e

high_kind : (kind sleep : ℕ) → 6 ≤ kind → status_byte kind sleep ≡ 255
high_kind kind sleep high = grind (arith, nat_tests)

kind_back : (kind sleep : ℕ) → status_fits (status_byte kind sleep) ≡ true → kind ≤ 5
kind_back kind sleep e =
    elim (cases_lt 5 kind) [
      | inl high ↦ absurd (let no : status_fits 255 ≡ true = ap status_fits (sym (high_kind kind sleep high)) ∙ e in cc)
      | inr low ↦ low
    ]

byte_of_kind : (kind sleep byte : ℕ) → kind ≤ 5 → CountFits (kind == 1) 1 7 sleep → status_byte kind sleep ≡ byte
    → (byte ≡ 0 → kind ≡ 0) × (IsBetween 1 7 byte → (kind == 1) ≡ true)
byte_of_kind zero sleep byte low fit is = (λ none. refl, λ range. absurd (let n : 0 ≡ byte = ap (λ (n : ℕ). status_byte 0 n) (sym fit) ∙ is in let low = range.0 in omega arith))
byte_of_kind (suc zero) sleep byte low fit is = (λ none. absurd (let n : sleep ≡ byte = sym (sleeps sleep fit) ∙ is in let low = fit.0 in omega arith), λ range. refl)
byte_of_kind (suc (suc zero)) sleep byte low fit is =
    let n : 8 ≡ byte = ap (λ (n : ℕ). status_byte 2 n) (sym fit) ∙ is in (λ none. absurd (omega arith), λ range. absurd (let high = range.1 in omega arith))
byte_of_kind (suc (suc (suc zero))) sleep byte low fit is =
    let n : 16 ≡ byte = ap (λ (n : ℕ). status_byte 3 n) (sym fit) ∙ is in (λ none. absurd (omega arith), λ range. absurd (let high = range.1 in omega arith))
byte_of_kind (suc (suc (suc (suc zero)))) sleep byte low fit is =
    let n : 32 ≡ byte = ap (λ (n : ℕ). status_byte 4 n) (sym fit) ∙ is in (λ none. absurd (omega arith), λ range. absurd (let high = range.1 in omega arith))
byte_of_kind (suc (suc (suc (suc (suc zero))))) sleep byte low fit is =
    let n : 64 ≡ byte = ap (λ (n : ℕ). status_byte 5 n) (sym fit) ∙ is in (λ none. absurd (omega arith), λ range. absurd (let high = range.1 in omega arith))
byte_of_kind (suc (suc (suc (suc (suc (suc k)))))) sleep byte low fit is = absurd (omega arith)

status_from : (hp status : ℕ) → status ≤ 5 → (hp ≡ 0 → status ≡ 0) → CountFits (not (hp == 0)) 0 5 status
status_from hp status low none = by (hp == 0) refl
  where
    by : (b : Bool) → (hp == 0) ≡ b → CountFits (not b) 0 5 status
    by true is = none (eqb-true _ _ is)
    by false is = (omega arith, low)

mark_from : (b : Bool) (mark : ℕ) → mark ≤ 1 → (mark ≡ 1 → b ≡ true) → CountFits b 0 1 mark
mark_from true mark low by = (omega arith, low)
mark_from false zero low by = refl
mark_from false (suc zero) low by = absurd (let no = by refl in cc)
mark_from false (suc (suc k)) low by = absurd (omega arith)

odd_is : (n : ℕ) → n % 2 ≡ 1 → (n % 2 == 1) ≡ true
odd_is n e = rw e refl

-- The moves

known_range : (id : ℕ) → may_be_known id ≡ true → IsBetween 1 164 id
known_range id known = let k = both _ _ known in between 1 164 id k.0

not_none : (id : ℕ) → 1 ≤ id → (id == 0) ≡ false
not_none id low = grind (arith, nat_tests)

or_true : (a b : Bool) → b ≡ true → (a || b) ≡ true
or_true true b e = refl
or_true false b e = e

slot_back : (id pp : ℕ) (may_be new : Bool) (earlier : List ℕ) → SlotIs id pp earlier → (id ≢ 0 → may_be ≡ true)
    → (All (λ before. (before ≢ 0) × (before ≢ id)) earlier → new ≡ true)
    → ((nat_le 0 id && nat_le id (on may_be 164)) && (id == 0 || (may_be_known id && new))) ≡ true
slot_back id pp may_be new earlier (inl none) may differs =
    subst (λ (n : ℕ). ((nat_le 0 n && nat_le n (on may_be 164)) && (n == 0 || (may_be_known n && new))) ≡ true) (sym none.0)
    (both_back _ true (up_to (on may_be 164) 0 (omega arith)) refl)
slot_back id pp may_be new earlier (inr known) may differs =
    let range = known_range id known.0 in
    let low = range.0 in
    let high = range.1 in
    let open_to : may_be ≡ true = may (λ none. omega arith) in
    both_back _ _ (subst (λ (b : Bool). (nat_le 0 id && nat_le id (on b 164)) ≡ true) (sym open_to) (up_to 164 id high))
    (or_true (id == 0) _ (both_back _ _ known.0 (differs known.2)))

pp_back : (id pp : ℕ) (earlier : List ℕ) → SlotIs id pp earlier → (nat_le 0 pp && nat_le pp (on (not (id == 0)) 63)) ≡ true
pp_back id pp earlier (inl none) = rw (none.0, none.1) refl
pp_back id pp earlier (inr known) =
    let low = (known_range id known.0).0 in
    let some : (id == 0) ≡ false = not_none id low in
    subst (λ (b : Bool). (nat_le 0 pp && nat_le pp (on (not b) 63)) ≡ true) (sym some) (up_to 63 pp known.1)

differs_back : (id other : ℕ) → other ≢ id → not (id == other) ≡ true
differs_back id other apart = grind (arith, nat_tests)

some_back : (id : ℕ) → id ≢ 0 → not (id == 0) ≡ true
some_back id some = grind (arith, nat_tests)

-- Slots that come after one with a move.
before_back : (id pp before : ℕ) (front : List ℕ) → SlotIs id pp (before ∷ front) → id ≢ 0 → before ≢ 0
before_back id pp before front (inl none) some = absurd (some none.0)
before_back id pp before front (inr known) some = (known.2 0 0 (omega arith)).0

second_back : (id pp one two : ℕ) → SlotIs id pp (one ∷ two ∷ []) → id ≢ 0 → two ≢ 0
second_back id pp one two (inl none) some = absurd (some none.0)
second_back id pp one two (inr known) some = (known.2 1 0 (omega arith)).0

third_back : (id pp one two three : ℕ) → SlotIs id pp (one ∷ two ∷ three ∷ []) → id ≢ 0 → three ≢ 0
third_back id pp one two three (inl none) some = absurd (some none.0)
third_back id pp one two three (inr known) some = (known.2 2 0 (omega arith)).0

-- The first slot has a move.
front_back : (id pp : ℕ) (there : Bool) → there ≡ true → id ≢ 0 → SlotIs id pp []
    → ((nat_le (on there 1) id && nat_le id (on there 164)) && (id == 0 || (may_be_known id && true))) ≡ true
front_back id pp there is some (inl none) = absurd (some none.0)
front_back id pp there is some (inr known) =
    both_back _ _ (fits_back there 1 164 id (subst (λ (b : Bool). CountFits b 1 164 id) (sym is) (known_range id known.0)))
    (or_true (id == 0) _ (both_back _ _ known.0 refl))

moves_back : (m : MemberState) → is_there m ≡ true → PassesMoves (member_bytes m) → AllPass (move_tests m)
moves_back m there p =
    let i1 = slice_index m.moves 0 in
    let i2 = slice_index m.moves 1 in
    let i3 = slice_index m.moves 2 in
    let i4 = slice_index m.moves 3 in
    let apart = λ (id : ℕ) (other : ℕ) (d : (other ≢ 0) × (other ≢ id)). differs_back id other d.1 in (
      front_back i1 (slice_index m.pp 0) (is_there m) there p.some p.first,
      (
        slot_back i2 (slice_index m.pp 1) _ _ (i1 ∷ []) p.second (λ some. some_back i1 (before_back i2 _ i1 [] p.second some)) (λ all. apart i2 i1 (all 0 0 (omega arith))),
        (
          slot_back i3 (slice_index m.pp 2) _ _ (i1 ∷ i2 ∷ []) p.third (λ some. some_back i2 (second_back i3 _ i1 i2 p.third some))
              (λ all. both_back _ _ (apart i3 i1 (all 0 0 (omega arith))) (apart i3 i2 (all 1 0 (omega arith)))),
          (
            slot_back i4 (slice_index m.pp 3) _ _ (i1 ∷ i2 ∷ i3 ∷ []) p.fourth (λ some. some_back i3 (third_back i4 _ i1 i2 i3 p.fourth some))
                (λ all. both_back _ _ (both_back _ _ (apart i4 i1 (all 0 0 (omega arith))) (apart i4 i2 (all 1 0 (omega arith)))) (apart i4 i3 (all 2 0 (omega arith)))),
            tt,
          ),
        ),
      ),
    )

pps_back : (m : MemberState) → PassesMoves (member_bytes m) → AllPass (pp_tests m)
pps_back m p =
    let i1 = slice_index m.moves 0 in
    let i2 = slice_index m.moves 1 in
    let i3 = slice_index m.moves 2 in
    let i4 = slice_index m.moves 3 in
    (pp_back i1 _ [] p.first, (pp_back i2 _ (i1 ∷ []) p.second, (pp_back i3 _ (i1 ∷ i2 ∷ []) p.third, (pp_back i4 _ (i1 ∷ i2 ∷ i3 ∷ []) p.fourth, tt))))

-- A member

there_back : (b : Bool) (low high value : ℕ) → b ≡ true → IsBetween low high value → (nat_le (on b low) value && nat_le value (on b high)) ≡ true
there_back b low high value there range = fits_back b low high value (subst (λ (b : Bool). CountFits b low high value) (sym there) range)

member_back : (m : MemberState) (least rules : ℕ) → IsPlainMember m → least ≤ m.species → PassesMember rules (member_bytes m) → MemberPasses m least 151 rules
member_back m least rules plain above p =
    let low = p.numbers.species.0 in
    let there : is_there m ≡ true = some_back m.species (λ none. omega arith) in
    let max_is = word_is m.max_hp plain.max_hp in
    let hp_is = word_is m.hp plain.hp in
    let max : IsBetween 11 999 m.max_hp = subst (IsBetween 11 999) max_is p.numbers.max in
    let under = p.numbers.hp in
    let hp : m.hp ≤ m.max_hp = omega arith in
    let stat = λ (k : ℕ). word_is (slice_index m.stats k) (plain.words k) in
    let kind = kind_back m.status m.sleep p.status.status in
    let sleep = sleep_fits_back m.status m.sleep p.status.status in
    let byte = byte_of_kind m.status m.sleep _ kind sleep refl in
    let own = λ (k : ℕ) (range : IsBetween 5 999 (low_byte (slice_index m.stats k) + 256 * high_byte (slice_index m.stats k))).
    there_back (is_there m) 5 999 _ there (subst (IsBetween 5 999) (stat k) range) in
    record {
      numbers = (
        inside least 151 m.species above p.numbers.species.1,
        (there_back (is_there m) 1 100 _ there p.numbers.level, (there_back (is_there m) 11 999 _ there max, (up_to m.max_hp m.hp hp, tt))),
      );
      stats = (own 0 p.stats.attack, (own 1 p.stats.defense, (own 2 p.stats.speed, (own 3 p.stats.special, tt))));
      status = (
        from_0_back _ 5 m.status (status_from m.hp m.status kind (λ none. byte.0 (p.status.fallen (hp_is ∙ none)))),
        (
          fits_back (m.status == 1) 1 7 m.sleep sleep,
          (
            from_0_back _ 1 m.marked (mark_from _ m.marked p.status.mark
                (λ set. let k = p.status.marked set in both_back _ _ (byte.1 k.1) (odd_is rules k.0))),
            tt,
          ),
        ),
      );
      moves = moves_back m there p.moves;
      pp = pps_back m p.moves;
    }

no_word : (n : ℕ) → n < 65536 → low_byte n ≡ 0 → high_byte n ≡ 0 → n ≡ 0
no_word n low first second = omega (arith, first, second)

nobody_back : (m : MemberState) (rules : ℕ) (most : ℕ) → IsPlainMember m → All (λ byte. byte ≡ 0) (member_bytes m) → MemberPasses m 0 most rules
nobody_back m rules most plain zeros =
    let at = λ (k : ℕ) (low : k < 24). zeros k 0 low in
    let species : m.species ≡ 0 = at 0 (omega arith) in
    let max_low : low_byte m.max_hp ≡ 0 = at 2 (omega arith) in
    let max_high : high_byte m.max_hp ≡ 0 = at 3 (omega arith) in
    let hp_low : low_byte m.hp ≡ 0 = at 4 (omega arith) in
    let hp_high : high_byte m.hp ≡ 0 = at 5 (omega arith) in
    let max = no_word m.max_hp plain.max_hp max_low max_high in
    let hp = no_word m.hp plain.hp hp_low hp_high in
    let s0 = no_word _ (plain.words 0) (at 6 (omega arith)) (at 7 (omega arith)) in
    let s1 = no_word _ (plain.words 1) (at 8 (omega arith)) (at 9 (omega arith)) in
    let s2 = no_word _ (plain.words 2) (at 10 (omega arith)) (at 11 (omega arith)) in
    let s3 = no_word _ (plain.words 3) (at 12 (omega arith)) (at 13 (omega arith)) in
    let byte : status_byte m.status m.sleep ≡ 0 = at 14 (omega arith) in
    let fits : status_fits (status_byte m.status m.sleep) ≡ true = ap status_fits byte in
    let kind = kind_back m.status m.sleep fits in
    let sleep = sleep_fits_back m.status m.sleep fits in
    let status : m.status ≡ 0 = (byte_of_kind m.status m.sleep 0 kind sleep byte).0 refl in
    let awake : m.sleep ≡ 0 = subst (λ (k : ℕ). CountFits (k == 1) 1 7 m.sleep) status sleep in
    let i0 : slice_index m.moves 0 ≡ 0 = at 15 (omega arith) in
    let i1 : slice_index m.moves 1 ≡ 0 = at 16 (omega arith) in
    let i2 : slice_index m.moves 2 ≡ 0 = at 17 (omega arith) in
    let i3 : slice_index m.moves 3 ≡ 0 = at 18 (omega arith) in
    let p0 : slice_index m.pp 0 ≡ 0 = at 19 (omega arith) in
    let p1 : slice_index m.pp 1 ≡ 0 = at 20 (omega arith) in
    let p2 : slice_index m.pp 2 ≡ 0 = at 21 (omega arith) in
    let p3 : slice_index m.pp 3 ≡ 0 = at 22 (omega arith) in
    let level : m.level ≡ 0 = at 1 (omega arith) in
    let mark : m.marked ≡ 0 = at 23 (omega arith) in
    record {
      numbers = (rw species (up_to most 0 (omega arith)), (rw (species, level) refl, (rw (species, max) refl, (rw (max, hp) refl, tt))));
      stats = (rw (species, s0) refl, (rw (species, s1) refl, (rw (species, s2) refl, (rw (species, s3) refl, tt))));
      status = (rw (status, hp) refl, (rw (status, awake) refl, (rw (status, mark) refl, tt)));
      moves = (rw (species, i0) refl, (rw (i0, i1) refl, (rw (i1, i2) refl, (rw (i2, i3) refl, tt))));
      pp = (rw (i0, p0) refl, (rw (i1, p1) refl, (rw (i2, p2) refl, (rw (i3, p3) refl, tt))));
    }

place_back : (before m : MemberState) (rules : ℕ) → IsPlainMember m → PassesPlace rules (member_bytes before) (member_bytes m)
    → MemberPasses m 0 (on (is_there before) 151) rules
place_back before m rules plain (inl zeros) = nobody_back m rules _ plain zeros
place_back before m rules plain (inr (member, some)) =
    let there : is_there before ≡ true = some_back before.species some in
    subst (λ (b : Bool). MemberPasses m 0 (on b 151) rules) (sym there) (member_back m 0 rules plain (omega arith) member)

pub side_back : (s : SideState) (rules : ℕ) → IsPlainSide s → PassesMembers rules (side_bytes s) → SidePasses s rules
unfolding side_after
side_back s rules plain p =
    let m = λ (k : ℕ) (low : k < 6). plain.members k low in
    record {
      first = member_back (member_at 0 s) 1 rules (m 0 (omega arith)) p.first.numbers.species.0 p.first;
      second = place_back (member_at 0 s) (member_at 1 s) rules (m 1 (omega arith)) (p.others 2 (omega arith) (omega arith));
      third = place_back (member_at 1 s) (member_at 2 s) rules (m 2 (omega arith)) (p.others 3 (omega arith) (omega arith));
      fourth = place_back (member_at 2 s) (member_at 3 s) rules (m 3 (omega arith)) (p.others 4 (omega arith) (omega arith));
      fifth = place_back (member_at 3 s) (member_at 4 s) rules (m 4 (omega arith)) (p.others 5 (omega arith) (omega arith));
      sixth = place_back (member_at 4 s) (member_at 5 s) rules (m 5 (omega arith)) (p.others 6 (omega arith) (omega arith));
    }

pub member_tests_back : (m : MemberState) (least most rules : ℕ) → MemberPasses m least most rules → tested_member m least most rules ≡ Ok tt
unfolding tested_member
member_tests_back m least most rules p =
    then_back (first_of (number_tests m least most)) _ (first_back _ p.numbers)
    (then_back (first_of (own_stat_tests m)) _ (first_back _ p.stats)
    (then_back (first_of (status_tests m rules)) _ (first_back _ p.status)
    (then_back (first_of (move_tests m)) _ (first_back _ p.moves) (first_back (pp_tests m) p.pp))))

pub side_tests_back : (s : SideState) (number rules : ℕ) → SidePasses s rules → tested_members s number rules ≡ Ok tt
unfolding tested_members
side_tests_back s number rules p =
    let at = λ (place : ℕ) (m : MemberState) (least most : ℕ) (h : MemberPasses m least most rules).
    at_back number place (tested_member m least most rules) (member_tests_back m least most rules h) in
    then_back _ _ (at 1 (member_at 0 s) 1 151 p.first)
    (then_back _ _ (at 2 (member_at 1 s) 0 (on (is_there (member_at 0 s)) 151) p.second)
    (then_back _ _ (at 3 (member_at 2 s) 0 (on (is_there (member_at 1 s)) 151) p.third)
    (then_back _ _ (at 4 (member_at 3 s) 0 (on (is_there (member_at 2 s)) 151) p.fourth)
    (then_back _ _ (at 5 (member_at 4 s) 0 (on (is_there (member_at 3 s)) 151) p.fifth) (at 6 (member_at 5 s) 0 (on (is_there (member_at 4 s)) 151) p.sixth)))))

-- The active member

-- A number above 0 is counted.
filled_back : (x : ℕ) (xs : List ℕ) (k : ℕ) → Follows x xs → slice_index (x ∷ xs) k ≢ 0 → k < filled_in (x ∷ xs)
filled_back zero xs zero h some = absurd (some refl)
filled_back zero [] (suc k) h some = absurd (some refl)
filled_back zero (y ∷ ys) (suc k) h some = let rest = filled_back y ys k h.1 some in absurd (let none = none_filled (y ∷ ys) h in omega arith)
filled_back (suc x) xs zero h some = let full = counted x in omega arith
filled_back (suc x) [] (suc k) h some = absurd (some refl)
filled_back (suc x) (y ∷ ys) (suc k) h some = let rest = filled_back y ys k h.1 some in let full = counted x in omega arith

holds_back : (m : MemberState) → AllPass (move_tests m) → (slot : ℕ) → HoldsMove (member_bytes m) slot → slot ≤ moves_in m
holds_back m p slot h =
    let low = h.0.0 in
    let below = filled_back (slice_index m.moves 0) (ids m) (slot - 1) (ids_follow m p) (λ none. h.1 (slot_byte m slot h.0 ∙ none)) in
    omega arith

pub out_back : (s : SideState) (rules : ℕ) → SidePasses s rules → IsBetween 1 6 s.active.place → slice_index (out_bytes (side_bytes s)) 0 ≢ 0
    → OutPasses s × (s.active.place ≤ members_in s)
unfolding side_after
out_back s rules p range some =
    let low = range.0 in
    let out = is_out s rules p s.active.place range in
    let there = λ (none : slice_index ((member_at 0 s).species ∷ species s) (s.active.place - 1) ≡ 0).
    some (ap (λ (l : List ℕ). slice_index l 0) out.bytes ∙ out.species ∙ none) in
    let below = filled_back (member_at 0 s).species (species s) (s.active.place - 1) (species_follow s rules p) there in
    let facts = out_from s (member_out s) out (at_place s range.1) there in
    (record { bytes = facts.0; some = facts.1; moves = facts.2 }, omega arith)

disabled_back : (m : MemberState) → AllPass (move_tests m) → (b : Bool) (slot turns : ℕ) → DisabledFits b (member_bytes m) slot turns
    → ((nat_le (on b 1) slot && nat_le slot (on b (moves_in m))) ≡ true) × ((nat_le (on b 1) turns && nat_le turns (on b 8)) ≡ true)
disabled_back m p true slot turns h = (inside 1 (moves_in m) slot h.0.0.0 (holds_back m p slot h.0), inside 1 8 turns h.1.0 h.1.1)
disabled_back m p false slot turns h = (rw h.0 refl, rw h.1 refl)

used_back : (m : MemberState) → AllPass (move_tests m) → (used : ℕ) → UsedFits (member_bytes m) used
    → ((nat_le 0 used && nat_le used 5) && (used == 5 || nat_le used (moves_in m))) ≡ true
used_back m p used (inl none) =
    subst (λ (n : ℕ). ((nat_le 0 n && nat_le n 5) && (n == 5 || nat_le n (moves_in m))) ≡ true) (sym none) (inside 0 (moves_in m) 0 (omega arith) (omega arith))
used_back m p used (inr (inl five)) = rw five refl
used_back m p used (inr (inr h)) =
    let low = holds_back m p used h in
    let high = h.0.1 in
    both_back _ _ (up_to 5 used (omega arith)) (or_true (used == 5) _ (grind (arith, nat_tests)))

tied_back : (stands explained : Bool) → OnlyWith explained stands → (nat_le 0 (on stands 1) && nat_le (on stands 1) (on explained 1)) ≡ true
tied_back true true h = refl
tied_back true false h = absurd (let no = h refl in cc)
tied_back false true h = refl
tied_back false false h = refl

turns_back : (long trapping : Bool) (turns : ℕ) → TurnsFit long trapping turns → (nat_le (on long 1) turns && nat_le turns (cond long 3 (on trapping 4))) ≡ true
turns_back true trapping turns h = inside 1 3 turns h.0 h.1
turns_back false trapping turns h = from_0_back trapping 4 turns h

block_back : (m : MemberState) (a : ActiveState) → IsPlainActive a → AllPass (move_tests m) → PassesOut (member_bytes m) (active_bytes a)
    → AllPass (fixed_tests a true) × AllPass (stage_tests a true) × AllPass (count_tests a (moves_in m)) × AllPass (progress_tests a)
    × AllPass (used_tests a (moves_in m) true) × AllPass (tied_tests a (current_effect m a.current_move))
block_back m a plain moves p =
    let is = long_is a.conditions plain.conditions in
    let below = p.fixed.conditions in
    let bit = λ (k : ℕ). sym (bit_is a plain k) in
    let disabled = disabled_back m moves (has a 16) a.disabled_slot a.disabled_turns
    (subst (λ (b : Bool). DisabledFits b (member_bytes m) a.disabled_slot a.disabled_turns) (bit 16) p.counts.disabled) in
    let under = subst (λ (effect : Effect). PassesUnderway effect (active_bytes a)) (sym (effect_is m a.current_move)) p.underway in
    let tie = λ (k : ℕ) (b : Bool) (h : OnlyWith b (bit_on k (active_bytes a))). tied_back (has a k) b (subst (OnlyWith b) (bit k) h) in
    let effect = current_effect m a.current_move in
    let s = p.fixed.stages in (
      (up_to 14 _ p.fixed.first_type, (up_to 14 _ p.fixed.second_type, (up_to 131071 a.conditions (omega (arith, is)), tt))),
      (up_to 12 _ s.attack, (up_to 12 _ s.defense, (up_to 12 _ s.speed, (up_to 12 _ s.special, (up_to 12 _ s.accuracy, (up_to 12 _ s.evasion, tt)))))),
      (
        from_0_back (has a 9) 249 a.substitute (subst (λ (b : Bool). CountFits b 0 249 a.substitute) (bit 9) p.counts.substitute),
        (
          fits_back (has a 6) 1 5 a.confusion (subst (λ (b : Bool). CountFits b 1 5 a.confusion) (bit 6) p.counts.confused),
          (disabled.0, (disabled.1, (from_0_back (has a 13) 64 a.bad_poison (subst (λ (b : Bool). CountFits b 0 64 a.bad_poison) (bit 13) p.counts.bad_poison), tt))),
        ),
      ),
      (
        turns_back (has a 0 || has a 1) (has a 2) a.turns
            (subst (λ (b : Bool). TurnsFit (b || has a 1) (has a 2) a.turns) (bit 0)
            (subst (λ (b : Bool). TurnsFit (bit_on 0 (active_bytes a) || b) (has a 2) a.turns) (bit 1)
            (subst (λ (b : Bool). TurnsFit (bit_on 0 (active_bytes a) || bit_on 1 (active_bytes a)) b a.turns) (bit 2) p.progress.turns))),
        (
          from_0_back (has a 0) 65535 a.energy
              (subst (λ (b : Bool). CountFits b 0 65535 a.energy) (bit 0)
              (subst (λ (n : ℕ). CountFits (bit_on 0 (active_bytes a)) 0 65535 n) (word_is a.energy plain.energy) p.progress.energy)),
          (
            fits_back (has a 11 || has a 1) 1 255 a.kept_accuracy
                (subst (λ (b : Bool). CountFits (b || has a 1) 1 255 a.kept_accuracy) (bit 11)
                (subst (λ (b : Bool). CountFits (bit_on 11 (active_bytes a) || b) 1 255 a.kept_accuracy) (bit 1) p.progress.kept)),
            tt,
          ),
        ),
      ),
      (used_back m moves a.current_move p.current_move, (used_back m moves a.picked_move p.picked_move, tt)),
      (tie 0 (bides effect) under.bide, (tie 1 (thrashes effect) under.thrash, (tie 2 (traps effect) under.trapping, (tie 4 (charges effect) under.charging, (tie 10 (recharges effect) under.recharge, (tie 11 (rages effect) under.rage, tt)))))),
    )

active_back : (s : SideState) (rules : ℕ) → IsPlainSide s → SidePasses s rules → PassesActive (side_bytes s) → BlockPasses s true × OutPasses s
unfolding side_after
active_back s rules plain side p =
    let o = out_back s rules side p.place p.member in
    let block = block_back (member_out s) s.active plain.active o.0.moves
    (subst (λ (l : List ℕ). PassesOut l (active_bytes s.active)) o.0.bytes p.out) in (
      record {
        place = (inside 1 (members_in s) s.active.place p.place.0 o.1, tt);
        fixed = block.0;
        stages = block.1;
        counts = block.2;
        progress = block.3;
        used = block.4;
        tied = block.5;
      },
      o.0,
    )

block_tests_back : (s : SideState) (begun : Bool) → BlockPasses s begun → tested_block s begun ≡ Ok tt
unfolding tested_block
block_tests_back s begun p =
    then_back (first_of (place_test s begun ∷ [])) _ (first_back _ p.place)
    (then_back (first_of (fixed_tests s.active begun)) _ (first_back _ p.fixed)
    (then_back (first_of (stage_tests s.active begun)) _ (first_back _ p.stages)
    (then_back (first_of (count_tests s.active (moves_in (member_out s)))) _ (first_back _ p.counts)
    (then_back (first_of (progress_tests s.active)) _ (first_back _ p.progress)
    (then_back (first_of (used_tests s.active (moves_in (member_out s)) begun)) _ (first_back _ p.used)
    (first_back (tied_tests s.active (current_effect (member_out s) s.active.current_move)) p.tied))))))

-- The current stats

same_number : (n : ℕ) → (n == n) ≡ true
same_number n = grind (arith, nat_tests)

first_true : (a b : Bool) → a ≡ true → (a || b) ≡ true
first_true a b e = rw e refl

stat_low : (stage own : ℕ) → 1 ≤ at_stage stage own
stat_low stage own = omega arith

shrinks : (times divisor whole : ℕ) → 1 ≤ whole → (divided_times divisor times whole ≤ whole) × (1 ≤ divided_times divisor times whole)
shrinks zero divisor whole low = (omega arith, low)
shrinks (suc times) divisor whole low =
    let rest = shrinks times divisor whole low in
    let high = rest.0 in
    let least : divided_times divisor times whole / divisor ≤ divided_times divisor times whole = div-le_self _ _ in
    (omega arith, omega arith)

comes_back : (most divisor whole stat times : ℕ) → times ≤ most → stat ≡ divided_times divisor times whole → comes_from whole divisor stat most ≡ true
unfolding comes_from
comes_back zero divisor whole stat zero few same = rw same (same_number whole)
comes_back zero divisor whole stat (suc times) few same = absurd (omega arith)
comes_back (suc most) divisor whole stat zero few same = first_true (whole == stat) _ (rw same (same_number whole))
comes_back (suc most) divisor whole stat (suc times) few same =
    or_true (whole == stat) _ (comes_back most divisor (max (whole / divisor) 1) stat times (omega arith) (same ∙ divided_first divisor times whole))

penalty_back : (whole divisor stat most times : ℕ) → 1 ≤ whole → times ≤ most → stat ≡ divided_times divisor times whole
    → ((nat_le 1 stat && nat_le stat whole) && comes_from whole divisor stat most) ≡ true
penalty_back whole divisor stat most times low few same =
    let range = shrinks times divisor whole low in
    let least = range.1 in
    let high = range.0 in
    both_back _ _ (inside 1 whole stat (omega arith) (omega arith)) (comes_back most divisor whole stat times few same)

equal_back : (value due : ℕ) → value ≡ due → (nat_le due value && nat_le value due) ≡ true
equal_back value due same = inside due due value (omega arith) (omega arith)

stats_back : (m : MemberState) (a : ActiveState) → ((k : ℕ) → slice_index m.stats k < 65536) → IsPlainActive a → AllPass (stage_tests a true)
    → PassesStats (member_bytes m) (active_bytes a) → AllPass (stat_tests m a true)
stats_back m a words plain stages p =
    let own = λ (k : ℕ). word_is (slice_index m.stats k) (words k) in
    let now = λ (k : ℕ). word_is (slice_index a.stats k) (plain.words k) in
    let s0 = stage_is _ (slice_index m.stats 0) (between 0 12 _ stages.0).1 in
    let s1 = stage_is _ (slice_index m.stats 1) (between 0 12 _ stages.1.0).1 in
    let s2 = stage_is _ (slice_index m.stats 2) (between 0 12 _ stages.1.1.0).1 in
    let s3 = stage_is _ (slice_index m.stats 3) (between 0 12 _ stages.1.1.1.0).1 in
    let c0 = p.attack in
    let c2 = p.speed in (
      penalty_back (stat_at m a 0 Attack 0) 2 (slice_index a.stats 0) 9 c0.times (stat_low _ _) c0.few
          (sym (now 0) ∙ c0.same ∙ ap (λ (n : ℕ). divided_times 2 c0.times (at_stage (slice_index a.stages 0) n)) (own 0) ∙ ap (divided_times 2 c0.times) (sym s0)),
      (
        equal_back _ _ (sym (now 1) ∙ p.defense.same ∙ ap (λ (n : ℕ). at_stage (slice_index a.stages 1) n) (own 1) ∙ sym s1),
        (
          penalty_back (stat_at m a 2 Speed 0) 4 (slice_index a.stats 2) 5 c2.times (stat_low _ _) c2.few
              (sym (now 2) ∙ c2.same ∙ ap (λ (n : ℕ). divided_times 4 c2.times (at_stage (slice_index a.stages 2) n)) (own 2) ∙ ap (divided_times 4 c2.times) (sym s2)),
          (equal_back _ _ (sym (now 3) ∙ p.special.same ∙ ap (λ (n : ℕ). at_stage (slice_index a.stages 3) n) (own 3) ∙ sym s3), tt),
        ),
      ),
    )

-- At turn 0

no_long : (c : ℕ) → c < 4294967296 → low_byte c ≡ 0 → high_byte c ≡ 0 → low_byte (c / 65536) ≡ 0 → high_byte (c / 65536) ≡ 0 → c ≡ 0
no_long c fit e0 e1 e2 e3 = omega (arith, e0, e1, e2, e3)

zero_first : (n : ℕ) → nat_le 0 n ≡ true
zero_first n = grind (arith, nat_tests)

nobody_out_back : (s : SideState) → IsPlainActive s.active → All (λ byte. byte ≡ 0) (active_bytes s.active)
    → BlockPasses s false × AllPass (stat_tests (member_out s) s.active false)
nobody_out_back s plain zeros =
    let a = s.active in
    let at = λ (k : ℕ) (low : k < 36). zeros k 0 low in
    let conditions : a.conditions ≡ 0 =
    no_long a.conditions plain.conditions (at 17 (omega arith)) (at 18 (omega arith)) (at 19 (omega arith)) (at 20 (omega arith)) in
    let place : a.place ≡ 0 = at 0 (omega arith) in
    let t0 : slice_index a.types 0 ≡ 0 = at 1 (omega arith) in
    let t1 : slice_index a.types 1 ≡ 0 = at 2 (omega arith) in
    let stage = λ (k : ℕ) (e : slice_index a.stages k ≡ 0). subst (λ (n : ℕ). (nat_le 0 n && nat_le n 0) ≡ true) (sym e) refl in
    let c0 = no_word _ (plain.words 0) (at 9 (omega arith)) (at 10 (omega arith)) in
    let c1 = no_word _ (plain.words 1) (at 11 (omega arith)) (at 12 (omega arith)) in
    let c2 = no_word _ (plain.words 2) (at 13 (omega arith)) (at 14 (omega arith)) in
    let c3 = no_word _ (plain.words 3) (at 15 (omega arith)) (at 16 (omega arith)) in
    let substitute : a.substitute ≡ 0 = at 21 (omega arith) in
    let confusion : a.confusion ≡ 0 = at 22 (omega arith) in
    let slot : a.disabled_slot ≡ 0 = at 23 (omega arith) in
    let disabled : a.disabled_turns ≡ 0 = at 24 (omega arith) in
    let poison : a.bad_poison ≡ 0 = at 25 (omega arith) in
    let turns : a.turns ≡ 0 = at 26 (omega arith) in
    let energy = no_word a.energy plain.energy (at 27 (omega arith)) (at 28 (omega arith)) in
    let current : a.current_move ≡ 0 = at 29 (omega arith) in
    let picked : a.picked_move ≡ 0 = at 30 (omega arith) in
    let kept : a.kept_accuracy ≡ 0 = at 31 (omega arith) in
    let used = λ (n : ℕ) (e : n ≡ 0). subst (λ (n : ℕ). ((nat_le 0 n && nat_le n 0) && (n == 5 || nat_le n (moves_in (member_out s)))) ≡ true) (sym e) (zero_first (moves_in (member_out s))) in
    let bit = no_bits a conditions in
    let effect = current_effect (member_out s) a.current_move in (
      record {
        place = (rw place refl, tt);
        fixed = (rw t0 refl, (rw t1 refl, (rw conditions refl, tt)));
        stages = (stage 0 (at 3 (omega arith)), (stage 1 (at 4 (omega arith)), (stage 2 (at 5 (omega arith)), (stage 3 (at 6 (omega arith)), (stage 4 (at 7 (omega arith)), (stage 5 (at 8 (omega arith)), tt))))));
        counts = (rw (conditions, substitute) refl, (rw (conditions, confusion) refl, (rw (conditions, slot) refl, (rw (conditions, disabled) refl, (rw (conditions, poison) refl, tt)))));
        progress = (rw (conditions, turns) refl, (rw (conditions, energy) refl, (rw (conditions, kept) refl, tt)));
        used = (used a.current_move current, (used a.picked_move picked, tt));
        tied = (
          tied_back _ (bides effect) (λ set. absurd (let no : false ≡ true = sym (bit 0) ∙ set in cc)),
          (
            tied_back _ (thrashes effect) (λ set. absurd (let no : false ≡ true = sym (bit 1) ∙ set in cc)),
            (
              tied_back _ (traps effect) (λ set. absurd (let no : false ≡ true = sym (bit 2) ∙ set in cc)),
              (
                tied_back _ (charges effect) (λ set. absurd (let no : false ≡ true = sym (bit 4) ∙ set in cc)),
                (
                  tied_back _ (recharges effect) (λ set. absurd (let no : false ≡ true = sym (bit 10) ∙ set in cc)),
                  (tied_back _ (rages effect) (λ set. absurd (let no : false ≡ true = sym (bit 11) ∙ set in cc)), tt),
                ),
              ),
            ),
          ),
        );
      },
      (rw c0 refl, (rw c1 refl, (rw c2 refl, (rw c3 refl, tt)))),
    )

-- The header

header_back : (b : BattleState) → IsPlain b → PassesHeader (header_bytes b) → tested_header b ≡ Ok tt
header_back b plain p =
    let turn_is = word_is b.turn plain.turn in
    let limit_is = word_is b.limit plain.limit in
    let low = p.limit.0 in
    let high = p.limit.1 in
    let under = p.turn in
    then_back (fault_at 0 0 (first_of (header_tests b))) _
    (at_back 0 0 _ (first_back (header_tests b) (inside 1 9999 b.limit (omega arith) (omega arith), (up_to b.limit b.turn (omega arith), (up_to 8 _ p.index, (up_to 5 _ p.outcome, (up_to 3 _ p.rules, tt)))))))
    (then_back (fault_at 1 0 (first_of (request_test (slice_index b.requests 0) ∷ []))) _
    (at_back 1 0 _ (first_back (request_test (slice_index b.requests 0) ∷ []) (up_to 2 _ p.request_one, tt)))
    (at_back 2 0 _ (first_back (request_test (slice_index b.requests 1) ∷ []) (up_to 2 _ p.request_two, tt))))

-- Turn, outcome and requests

requests_tests_back : (b : BattleState) → RequestsPass b → tested_requests b ≡ Ok tt
unfolding tested_requests
requests_tests_back b p =
    let one = due_test (slice_index b.requests 0) (requests_due b).0 ∷ [] in
    let two = due_test (slice_index b.requests 1) (requests_due b).1 ∷ [] in
    let turn = turn_test b ((requests_due b).0 == 2 || (requests_due b).1 == 2) ∷ [] in
    let first = first_test (first_side b) (b.turn == 0) ∷ [] in
    let second = first_test (second_side b) (b.turn == 0) ∷ [] in
    then_back (fault_at 0 0 (first_of (outcome_test b ∷ []))) _ (at_back 0 0 _ (first_back (outcome_test b ∷ []) (p.outcome, tt)))
    (then_back (fault_at 1 0 (first_of one)) _ (at_back 1 0 _ (first_back one (equal_back _ _ p.one, tt)))
    (then_back (fault_at 2 0 (first_of two)) _ (at_back 2 0 _ (first_back two (equal_back _ _ p.two, tt)))
    (then_back (fault_at 0 0 (first_of turn)) _ (at_back 0 0 _ (first_back turn (p.turn, tt)))
    (then_back (fault_at 1 1 (first_of first)) _ (at_back 1 1 _ (first_back first (p.first_one, tt)))
    (at_back 2 1 _ (first_back second (p.first_two, tt)))))))

lives_low : (n : ℕ) → nat_lt 0 n ≡ true → 1 ≤ n
lives_low n e = grind (arith, nat_tests)

first_lives_back : (m : MemberState) → IsPlainMember m → (start : Bool) → m.hp ≤ m.max_hp → (start ≡ true → alive (member_bytes m) ≡ true)
    → (nat_le (on start 1) m.hp && nat_le m.hp m.max_hp) ≡ true
first_lives_back m plain true high living = inside 1 m.max_hp m.hp (lives_low m.hp (sym (lives_is m plain) ∙ living refl)) high
first_lives_back m plain false high living = up_to m.max_hp m.hp high

start_back : (b : BattleState) → IsPlain b → b.turn ≡ 0 → (member_at 0 (first_side b)).hp ≤ (member_at 0 (first_side b)).max_hp
    → (member_at 0 (second_side b)).hp ≤ (member_at 0 (second_side b)).max_hp
    → PassesStart (header_bytes b) (side_bytes (first_side b)) (side_bytes (second_side b)) → RequestsPass b
unfolding side_after
start_back b plain none high_one high_two p =
    let over : (b.turn == 0 || not (b.outcome == 0)) ≡ true = rw none refl in
    let due = none_due b over in
    let ongoing : b.outcome ≡ 0 = p.ongoing in
    let limit = cond ((requests_due b).0 == 2 || (requests_due b).1 == 2) (b.limit - 1) b.limit in
    record {
      outcome = rw (none, ongoing) refl;
      one = p.asks.0 ∙ sym (ap (λ (d : ℕ × ℕ). d.0) due);
      two = p.asks.1 ∙ sym (ap (λ (d : ℕ × ℕ). d.1) due);
      turn = subst (λ (n : ℕ). (nat_le 0 n && nat_le n limit) ≡ true) (sym none) (up_to limit 0 (omega arith));
      first_one = first_lives_back (member_at 0 (first_side b)) (plain.one.members 0 (omega arith)) (b.turn == 0) high_one (λ is. p.first_one);
      first_two = first_lives_back (member_at 0 (second_side b)) (plain.two.members 0 (omega arith)) (b.turn == 0) high_two (λ is. p.first_two);
    }

-- What an outcome says of the sides.
record OutcomeIs (b : BattleState) (one two last : Bool) : Type 0 where
  pub ongoing : b.outcome ≡ 0 → (one ≡ true) × (two ≡ true)
  pub win_one : b.outcome ≡ 1 → (one ≡ true) × (two ≡ false)
  pub win_two : b.outcome ≡ 2 → (one ≡ false) × (two ≡ true)
  pub tie : b.outcome ≡ 3 → ((not one && not two) || (last && one && two)) ≡ true

outcome_back : (b : BattleState) (one two last : Bool) → OutcomeIs b one two last → (n : ℕ) → b.outcome ≡ n → n ≤ 5 → outcome_fits n one two last ≡ true
outcome_back b one two last p zero is few = both_back _ _ (p.ongoing is).0 (p.ongoing is).1
outcome_back b one two last p (suc zero) is few = both_back _ _ (p.win_one is).0 (ap not (p.win_one is).1)
outcome_back b one two last p (suc (suc zero)) is few = both_back _ _ (ap not (p.win_two is).0) (p.win_two is).1
outcome_back b one two last p (suc (suc (suc zero))) is few = p.tie is
outcome_back b one two last p (suc (suc (suc (suc zero)))) is few = refl
outcome_back b one two last p (suc (suc (suc (suc (suc zero))))) is few = refl
outcome_back b one two last p (suc (suc (suc (suc (suc (suc n)))))) is few = absurd (omega arith)

tie_back : (b : BattleState) → IsPlain b → (one two : Bool) → PassesTie one two (header_bytes b)
    → ((not one && not two) || (b.turn == b.limit && one && two)) ≡ true
tie_back b plain one two (inl none) = rw (none.0, none.1) refl
tie_back b plain one two (inr last) =
    let same : b.turn ≡ b.limit = sym (word_is b.turn plain.turn) ∙ last.0 ∙ word_is b.limit plain.limit in
    or_true (not one && not two) _ (both_back _ _ (both_back _ _ (subst (λ (n : ℕ). (b.turn == n) ≡ true) same (same_number b.turn)) last.1) last.2)

-- The requests that are due, with the turn.
record DueIs (b : BattleState) (due : ℕ × ℕ) : Type 0 where
  pub one : slice_index b.requests 0 ≡ due.0
  pub two : slice_index b.requests 1 ≡ due.1
  pub turn : (turn_test b (due.0 == 2 || due.1 == 2)).passes ≡ true

turn_back : (b : BattleState) → IsPlain b → low_byte b.turn + 256 * high_byte b.turn < low_byte b.limit + 256 * high_byte b.limit
    → (turn_test b true).passes ≡ true
turn_back b plain before =
    let turn_is = word_is b.turn plain.turn in
    let limit_is = word_is b.limit plain.limit in
    up_to (b.limit - 1) b.turn (omega arith)

asked_back : (b : BattleState) → IsPlain b → b.turn ≤ b.limit → (one two : Bool) → PassesAsked one two (header_bytes b) → DueIs b (asked one two)
asked_back b plain high true true p = record { one = p.0; two = p.1; turn = up_to b.limit b.turn high }
asked_back b plain high false true p = record { one = p.0.0; two = p.0.1; turn = turn_back b plain p.1 }
asked_back b plain high true false p = record { one = p.0.0; two = p.0.1; turn = turn_back b plain p.1 }
asked_back b plain high false false p = record { one = p.0.0; two = p.0.1; turn = turn_back b plain p.1 }

due_back : (b : BattleState) → IsPlain b → (b.turn == 0) ≡ false → b.turn ≤ b.limit → OutPasses (first_side b) → OutPasses (second_side b)
    → PassesLater (header_bytes b) (side_bytes (first_side b)) (side_bytes (second_side b)) → DueIs b (requests_due b)
due_back b plain begun high out_one out_two p = by b.outcome refl
  where
    by : (n : ℕ) → b.outcome ≡ n → DueIs b (requests_due b)
    by zero is =
        let asks = subst (λ (c : Bool). PassesAsked c (lives (member_out (second_side b))) (header_bytes b)) (out_lives (first_side b) plain.one out_one)
        (subst (λ (c : Bool). PassesAsked (alive (out_bytes (side_bytes (first_side b)))) c (header_bytes b)) (out_lives (second_side b) plain.two out_two) (p.ongoing is).2) in
        subst (DueIs b) (sym (going_due b begun is)) (asked_back b plain high _ _ asks)
    by (suc n) is =
        let asks = p.over (omega arith) in
        subst (DueIs b) (sym (none_due b (over_at b begun (omega arith)))) (record { one = asks.0; two = asks.1; turn = up_to b.limit b.turn high })

later_back : (b : BattleState) → IsPlain b → 1 ≤ b.turn → b.turn ≤ b.limit → b.outcome ≤ 5
    → (member_at 0 (first_side b)).hp ≤ (member_at 0 (first_side b)).max_hp → (member_at 0 (second_side b)).hp ≤ (member_at 0 (second_side b)).max_hp
    → OutPasses (first_side b) → OutPasses (second_side b)
    → PassesLater (header_bytes b) (side_bytes (first_side b)) (side_bytes (second_side b)) → RequestsPass b
later_back b plain some high few high_one high_two out_one out_two p =
    let begun : (b.turn == 0) ≡ false = not_none b.turn some in
    let one = any_is (first_side b) plain.one in
    let two = any_is (second_side b) plain.two in
    let fit : OutcomeIs b (any_lives (first_side b)) (any_lives (second_side b)) (b.turn == b.limit) = record {
      ongoing = λ is. (sym one ∙ (p.ongoing is).0, sym two ∙ (p.ongoing is).1);
      win_one = λ is. (sym one ∙ (p.win_one is).0, sym two ∙ (p.win_one is).1);
      win_two = λ is. (sym one ∙ (p.win_two is).0, sym two ∙ (p.win_two is).1);
      tie = λ is. tie_back b plain _ _
          (subst (λ (c : Bool). PassesTie c (any_lives (second_side b)) (header_bytes b)) one
          (subst (λ (c : Bool). PassesTie (any_alive (side_bytes (first_side b))) c (header_bytes b)) two (p.tie is)));
    } in
    let due = due_back b plain begun high out_one out_two p in
    record {
      outcome = both_back _ _ (from_0_back (not (b.turn == 0)) 5 b.outcome (subst (λ (c : Bool). CountFits (not c) 0 5 b.outcome) (sym begun) (omega arith, few)))
          (or_true (b.turn == 0) _ (outcome_back b _ _ _ fit b.outcome refl few));
      one = due.one;
      two = due.two;
      turn = due.turn;
      first_one = first_lives_back (member_at 0 (first_side b)) (plain.one.members 0 (omega arith)) (b.turn == 0) high_one (λ is. absurd (let no : false ≡ true = sym begun ∙ is in cc));
      first_two = first_lives_back (member_at 0 (second_side b)) (plain.two.members 0 (omega arith)) (b.turn == 0) high_two (λ is. absurd (let no : false ≡ true = sym begun ∙ is in cc));
    }

-- The whole

active_at_back : (turn : ℕ) (s : SideState) (rules : ℕ) → turn < 65536 → IsPlainSide s → SidePasses s rules
    → PassesActiveAt (low_byte turn + 256 * high_byte turn) (side_bytes s) → PassesStatsAt (low_byte turn + 256 * high_byte turn) (side_bytes s)
    → ActivePasses s (not (turn == 0)) × (1 ≤ turn → OutPasses s)
unfolding side_after
active_at_back turn s rules fit plain side p q = by turn refl
  where
    by : (n : ℕ) → turn ≡ n → ActivePasses s (not (turn == 0)) × (1 ≤ turn → OutPasses s)
    by zero is =
        let word = word_is turn fit in
        let h = nobody_out_back s plain.active (p.before (word ∙ is)) in
        let begun : not (turn == 0) ≡ false = rw is refl in
        (subst (ActivePasses s) (sym begun) (record { block = h.0; stats = h.1 }), λ low. absurd (omega arith))
    by (suc n) is =
        let word = word_is turn fit in
        let some : 1 ≤ turn = omega arith in
        let later : 1 ≤ low_byte turn + 256 * high_byte turn = omega arith in
        let h = active_back s rules plain side (p.later later) in
        let stats = stats_back (member_out s) s.active (out_plain s plain).words plain.active h.0.stages
        (subst (λ (l : List ℕ). PassesStats l (active_bytes s.active)) h.1.bytes (q.later later)) in
        let begun : not (turn == 0) ≡ true = ap not (not_none turn some) in
        (subst (ActivePasses s) (sym begun) (record { block = h.0; stats = stats }), λ low. h.1)

turn_under : (b : BattleState) → IsPlain b → PassesHeader (header_bytes b) → b.turn ≤ b.limit
turn_under b plain p = let t = word_is b.turn plain.turn in let l = word_is b.limit plain.limit in let under = p.turn in omega arith

requests_by : (b : BattleState) → IsPlain b → b.turn ≤ b.limit → b.outcome ≤ 5 → (member_at 0 (first_side b)).hp ≤ (member_at 0 (first_side b)).max_hp
    → (member_at 0 (second_side b)).hp ≤ (member_at 0 (second_side b)).max_hp
    → (1 ≤ b.turn → OutPasses (first_side b)) → (1 ≤ b.turn → OutPasses (second_side b))
    → PassesRequests (header_bytes b) (side_bytes (first_side b)) (side_bytes (second_side b)) → RequestsPass b
requests_by b plain high few high_1 high_2 out_1 out_2 (inl start) =
    start_back b plain (sym (word_is b.turn plain.turn) ∙ start.0) high_1 high_2 start.1
requests_by b plain high few high_1 high_2 out_1 out_2 (inr later) =
    let word = word_is b.turn plain.turn in
    let low = later.0 in
    let some : 1 ≤ b.turn = omega arith in
    later_back b plain some high few high_1 high_2 (out_1 some) (out_2 some) later.1

is_third : (b : BattleState) → slice_index (bytes_of b) 0 ≡ 3
unfolding bytes_of side_after
is_third b = refl

state_back : (b : BattleState) → IsPlain b → PassesForm (bytes_of b) → tested b ≡ Ok tt
unfolding bytes_of side_after tested
state_back b plain p =
    let one = first_side b in
    let two = second_side b in
    let begun = not (b.turn == 0) in
    let side_1 = side_back one b.rules plain.one p.members.0 in
    let side_2 = side_back two b.rules plain.two p.members.1 in
    let act_1 = active_at_back b.turn one b.rules plain.turn plain.one side_1 p.actives.0 p.stats.0 in
    let act_2 = active_at_back b.turn two b.rules plain.turn plain.two side_2 p.actives.1 p.stats.1 in
    let high_1 = (between 0 _ _ side_1.first.numbers.1.1.1.0).1 in
    let high_2 = (between 0 _ _ side_2.first.numbers.1.1.1.0).1 in
    let requests = requests_by b plain (turn_under b plain p.header) p.header.outcome high_1 high_2 act_1.1 act_2.1 p.requests in
    then_back (tested_header b) _ (header_back b plain p.header)
    (then_back (tested_members one 1 b.rules) _ (side_tests_back one 1 b.rules side_1)
    (then_back (tested_members two 2 b.rules) _ (side_tests_back two 2 b.rules side_2)
    (then_back (tested_active one 1 begun) _ (at_back 1 0 _ (block_tests_back one begun act_1.0.block))
    (then_back (tested_active two 2 begun) _ (at_back 2 0 _ (block_tests_back two begun act_2.0.block))
    (then_back (tested_stats one 1 begun) _ (at_back 1 0 _ (first_back (stat_tests (member_out one) one.active begun) act_1.0.stats))
    (then_back (tested_stats two 2 begun) _ (at_back 2 0 _ (first_back (stat_tests (member_out two) two.active begun) act_2.0.stats))
    (requests_tests_back b requests)))))))

pub tests_pass : (b : BattleState) → IsPlain b → AreBytes (bytes_of b) → IsBattle (bytes_of b) → tested b ≡ Ok tt
tests_pass b plain fit battle =
    state_back b plain ((forms_law (bytes_of b) (has_length b) fit (is_third b)).1 (subst StandsFor (in_version_three b) battle.stands))
