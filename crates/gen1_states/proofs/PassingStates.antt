-- A plain state that passes all tests of its fields is a battle, and another fails a test that names a field.
use Rattle.std.proofs.Common.{All, Bool, Err, List, Ok, [], ap, arith, cond, false, inl, inr, max, min, nat_le, not, refl, slice_index, suc, sym, true, zero, ℕ, ◌&&◌, ◌*◌, ◌+◌, ◌-◌, ◌/◌, ◌<◌, ◌==◌, ◌||◌, ◌∙◌, ◌∷◌, ◌≡◌, ◌≢◌, ◌≤◌, ◌⊎◌, subst, nat_lt}
use Rattle.std.proofs.lemmas.Bool.Decides.{nat_tests}
use Rattle.std.proofs.lemmas.Bool.{eqb-true}
use Rattle.std.proofs.lemmas.List.Elements.{All-from_recursion}
use Rattle.std.specs.Int.{bit_at}
use Rattle.gen1_machine.specs.Layout.{high_byte, low_byte}
use Rattle.gen1_machine.specs.Stages.{at_stage, divided_times}
use Rattle.gen1_tables.specs.declared.effect.Stat.TheVariants.{Attack, Defense, Special, Speed}
use Rattle.gen1_layout.specs.Loading.{PassesStats, TurnsFit, out_bytes, Asks, PassesTest, PassesActiveAt, PassesAsked, PassesHeader, PassesLater, PassesRequests, PassesStart, PassesStatsAt, PassesTie, any_lives as any_alive, lives as alive}
use Rattle.gen1_states.specs.Laws.{IsPlainActive, IsPlainSide, IsPlain, IsPlainMember}
use Rattle.gen1_states.specs.declared.plain.ActiveState.{ActiveState}
use Rattle.gen1_states.specs.declared.plain.MemberState.{MemberState}
use Rattle.gen1_states.specs.declared.plain.SideState.{SideState}
use Rattle.gen1_states.specs.Plain.{active_bytes, first_of, member_at, member_bytes, on, side_after, ◌▸◌, Passed, Tested, within, bytes_of, fault_at, first_side, header_bytes, header_tests, request_test, second_side, tested_header}
use Rattle.gen1_states.specs.Tests.{comes_from, count_tests, current_effect, fixed_tests, has, is_there, member_out, members_in, move_tests, moves_in, place_test, progress_tests, stage_tests, stat_at, stat_tests, tested_block, tied_tests, used_tests, IsNamed, fixed_test, has_rule, number_tests, own_stat_tests, pp_tests, status_tests, tested_member, any_lives, asked, first_test, lives, outcome_fits, outcome_test, requests_due, tested, tested_active, tested_members, tested_requests, tested_stats, turn_test, request_test as due_test}
use Rattle.gen1_states.proofs.Passing.{BlockPasses, OutPasses, active_ok, block_tests, out_passes, turns_ok, AllPass, SidePasses, at_passes, between, both, first_passes, first_rule, fits, fits_from_0, high_zero, low_zero, side_bytes, then_passes, word_is, zero_in, members_ok, side_tests}
use Rattle.gen1_layout.specs.LoadingLaws.{AreBytes, IsBattle, PassesForm}
use Rattle.gen1_layout.proofs.LoadingForms.{forms_law}
use Rattle.gen1_layout.specs.declared.loading.LoadFault.{LoadFault}
use Rattle.gen1_layout.specs.declared.loading.LoadFault.TheVariants as faults
use Rattle.gen1_states.specs.declared.fault.StateFault.{StateFault}
use Rattle.gen1_states.specs.declared.fault.StateField.{StateField}
use Rattle.gen1_states.specs.declared.fault.StateField.TheVariants as fields
use Rattle.gen1_states.specs.declared.fault.Test.{Test}
use Rattle.gen1_states.specs.declared.plain.BattleState.{BattleState}
use Rattle.gen1_states.proofs.ThereAndBack.{has_length, not_zero}

-- The current stats

-- A number that becomes another one when it is divided.
record Comes (whole divisor stat most : ℕ) : Type 0 where
  pub times : ℕ
  pub few : times ≤ most
  pub same : stat ≡ divided_times divisor times whole

-- The first division instead of the last.
pub divided_first : (divisor times whole : ℕ) → divided_times divisor (suc times) whole ≡ divided_times divisor times (max (whole / divisor) 1)
divided_first divisor zero whole = omega arith
divided_first divisor (suc times) whole = ap (λ (n : ℕ). max 1 (n / divisor)) (divided_first divisor times whole)

comes : (whole divisor stat most : ℕ) → comes_from whole divisor stat most ≡ true → Comes whole divisor stat most
unfolding comes_from
comes whole divisor stat zero e = record { times = 0; few = omega arith; same = sym (eqb-true _ _ e) }
comes whole divisor stat (suc most) e = by (whole == stat) refl (comes (max (whole / divisor) 1) divisor stat most) e
  where
    by : (b : Bool) → (whole == stat) ≡ b
        → (comes_from (max (whole / divisor) 1) divisor stat most ≡ true → Comes (max (whole / divisor) 1) divisor stat most)
        → (b || comes_from (max (whole / divisor) 1) divisor stat most) ≡ true → Comes whole divisor stat (suc most)
    by true is rest e = record { times = 0; few = omega arith; same = sym (eqb-true _ _ is) }
    by false is rest e =
        let c = rest e in
        record { times = suc c.times; few = (let few = c.few in omega arith); same = c.same ∙ sym (divided_first divisor c.times whole) }

-- A stage up to 12 counts as it is.
pub stage_is : (stage own : ℕ) → stage ≤ 12 → at_stage (min stage 12) own ≡ at_stage stage own
stage_is stage own low = let same : min stage 12 ≡ stage = omega arith in ap (λ (n : ℕ). at_stage n own) same

pub same_value : (value due : ℕ) → (nat_le due value && nat_le value due) ≡ true → value ≡ due
same_value value due e = let range = between due due value e in let low = range.0 in let high = range.1 in omega arith

pub stats_ok : (m : MemberState) (a : ActiveState) → ((k : ℕ) → slice_index m.stats k < 65536) → IsPlainActive a → AllPass (stage_tests a true)
    → AllPass (stat_tests m a true) → PassesStats (member_bytes m) (active_bytes a)
stats_ok m a words plain stages p =
    let least : 0 ≤ 0 = omega arith in
    let own = λ (k : ℕ). word_is (slice_index m.stats k) (words k) in
    let now = λ (k : ℕ). word_is (slice_index a.stats k) (plain.words k) in
    let s0 = stage_is _ (slice_index m.stats 0) (between 0 12 _ stages.0).1 in
    let s1 = stage_is _ (slice_index m.stats 1) (between 0 12 _ stages.1.0).1 in
    let s2 = stage_is _ (slice_index m.stats 2) (between 0 12 _ stages.1.1.0).1 in
    let s3 = stage_is _ (slice_index m.stats 3) (between 0 12 _ stages.1.1.1.0).1 in
    let c0 = comes (stat_at m a 0 Attack 0) 2 (slice_index a.stats 0) 9 (both _ _ p.0).1 in
    let c2 = comes (stat_at m a 2 Speed 0) 4 (slice_index a.stats 2) 5 (both _ _ p.1.1.0).1 in
    record {
      attack = rw (own 0, now 0) (record { times = c0.times; few = c0.few; same = c0.same ∙ ap (divided_times 2 c0.times) s0 });
      defense = rw (own 1, now 1) (record { times = 0; few = least; same = same_value _ _ p.1.0 ∙ s1 });
      speed = rw (own 2, now 2) (record { times = c2.times; few = c2.few; same = c2.same ∙ ap (divided_times 4 c2.times) s2 });
      special = rw (own 3, now 3) (record { times = 0; few = least; same = same_value _ _ p.1.1.1.0 ∙ s3 });
    }

-- At turn 0 no member is out

pub no_bits : (a : ActiveState) → a.conditions ≡ 0 → (k : ℕ) → has a k ≡ (bit_at 0 k == 1)
no_bits a none k = ap (λ (n : ℕ). bit_at n k == 1) none

pub zero_below : (value : ℕ) → (nat_le 0 value && nat_le value 0) ≡ true → value ≡ 0
zero_below value e = let high = (between 0 0 value e).1 in omega arith

pub nobody_out_ok : (s : SideState) → BlockPasses s false → AllPass (stat_tests (member_out s) s.active false)
    → All (λ byte. byte ≡ 0) (active_bytes s.active)
nobody_out_ok s p stats =
    let a = s.active in
    let conditions = zero_below a.conditions p.fixed.1.1.0 in
    let upper : a.conditions / 65536 ≡ 0 = omega arith in
    let bit = no_bits a conditions in
    let c0 = zero_below _ (both _ _ stats.0).0 in
    let c1 = zero_below _ stats.1.0 in
    let c2 = zero_below _ (both _ _ stats.1.1.0).0 in
    let c3 = zero_below _ stats.1.1.1.0 in
    let long : (has a 0 || has a 1) ≡ false = rw (bit 0, bit 1) refl in
    let turns = subst (λ (b : Bool). TurnsFit b (has a 2) a.turns) long (turns_ok (has a 0 || has a 1) (has a 2) a.turns p.progress.0) in
    let energy = zero_in _ 0 65535 a.energy (bit 0) (fits_from_0 _ 65535 _ p.progress.1.0) in
    let keeps : (has a 11 || has a 1) ≡ false = rw (bit 11, bit 1) refl in
    All-from_recursion (λ byte. byte ≡ 0) (active_bytes a) (
      zero_below _ p.place.0,
      (
        zero_below _ p.fixed.0,
        (
          zero_below _ p.fixed.1.0,
          (
            zero_below _ p.stages.0,
            (
              zero_below _ p.stages.1.0,
              (
                zero_below _ p.stages.1.1.0,
                (
                  zero_below _ p.stages.1.1.1.0,
                  (
                    zero_below _ p.stages.1.1.1.1.0,
                    (
                      zero_below _ p.stages.1.1.1.1.1.0,
                      (
                        low_zero _ c0,
                        (
                          high_zero _ c0,
                          (
                            low_zero _ c1,
                            (
                              high_zero _ c1,
                              (
                                low_zero _ c2,
                                (
                                  high_zero _ c2,
                                  (
                                    low_zero _ c3,
                                    (
                                      high_zero _ c3,
                                      (
                                        low_zero _ conditions,
                                        (
                                          high_zero _ conditions,
                                          (
                                            low_zero _ upper,
                                            (
                                              high_zero _ upper,
                                              (
                                                zero_in _ 0 249 _ (bit 9) (fits_from_0 _ 249 _ p.counts.0),
                                                (
                                                  zero_in _ 1 5 _ (bit 6) (fits (has a 6) 1 5 a.confusion p.counts.1.0),
                                                  (
                                                    zero_in _ 1 (moves_in (member_out s)) _ (bit 16) (fits (has a 16) 1 (moves_in (member_out s)) a.disabled_slot p.counts.1.1.0),
                                                    (
                                                      zero_in _ 1 8 _ (bit 16) (fits (has a 16) 1 8 a.disabled_turns p.counts.1.1.1.0),
                                                      (
                                                        zero_in _ 0 64 _ (bit 13) (fits_from_0 _ 64 _ p.counts.1.1.1.1.0),
                                                        (
                                                          zero_in _ 0 4 _ (bit 2) turns,
                                                          (
                                                            low_zero _ energy,
                                                            (
                                                              high_zero _ energy,
                                                              (
                                                                zero_below _ (both _ _ p.used.0).0,
                                                                (
                                                                  zero_below _ (both _ _ p.used.1.0).0,
                                                                  (
                                                                    zero_in _ 1 255 _ keeps (fits (has a 11 || has a 1) 1 255 a.kept_accuracy p.progress.1.1.0),
                                                                    (refl, (refl, (refl, (refl, tt)))),
                                                                  ),
                                                                ),
                                                              ),
                                                            ),
                                                          ),
                                                        ),
                                                      ),
                                                    ),
                                                  ),
                                                ),
                                              ),
                                            ),
                                          ),
                                        ),
                                      ),
                                    ),
                                  ),
                                ),
                              ),
                            ),
                          ),
                        ),
                      ),
                    ),
                  ),
                ),
              ),
            ),
          ),
        ),
      ),
    )

-- The header

record HeaderPasses (b : BattleState) : Type 0 where
  pub fields : AllPass (header_tests b)
  pub one : AllPass (request_test (slice_index b.requests 0) ∷ [])
  pub two : AllPass (request_test (slice_index b.requests 1) ∷ [])

header_passes : (b : BattleState) → tested_header b ≡ Ok tt → HeaderPasses b
header_passes b e =
    let a = then_passes (fault_at 0 0 (first_of (header_tests b))) _ e in
    let c = then_passes (fault_at 1 0 (first_of (request_test (slice_index b.requests 0) ∷ []))) _ a.1 in
    record {
      fields = first_passes (header_tests b) (at_passes 0 0 _ a.0);
      one = first_passes (request_test (slice_index b.requests 0) ∷ []) (at_passes 1 0 _ c.0);
      two = first_passes (request_test (slice_index b.requests 1) ∷ []) (at_passes 2 0 _ c.1);
    }

header_ok : (b : BattleState) → IsPlain b → HeaderPasses b → PassesHeader (header_bytes b)
header_ok b plain p =
    let turn = word_is b.turn plain.turn in
    let limit = word_is b.limit plain.limit in
    record {
      limit = rw limit (between 1 9999 _ p.fields.0);
      turn = rw (turn, limit) (between 0 b.limit b.turn p.fields.1.0).1;
      index = (between 0 8 _ p.fields.1.1.0).1;
      outcome = (between 0 5 _ p.fields.1.1.1.0).1;
      request_one = (between 0 2 _ p.one.0).1;
      request_two = (between 0 2 _ p.two.0).1;
      rules = (between 0 3 _ p.fields.1.1.1.1.0).1;
      rest = refl;
    }

-- The member that is out, from its bytes

place_low : (place : ℕ) → cond (nat_le place 6) (place - 1) 0 < 6
place_low place = grind (arith, nat_tests)

pub out_plain : (s : SideState) → IsPlainSide s → IsPlainMember (member_out s)
out_plain s plain = plain.members (cond (nat_le s.active.place 6) (s.active.place - 1) 0) (place_low s.active.place)

-- Whether members live

pub lives_is : (m : MemberState) → IsPlainMember m → alive (member_bytes m) ≡ lives m
lives_is m plain = ap (nat_lt 0) (word_is m.hp plain.hp)

pub or_false : (b : Bool) → (b || false) ≡ b
or_false true = refl
or_false false = refl

any_six : {a b c d e f a' b' c' d' e' f' : Bool} → a ≡ a' → b ≡ b' → c ≡ c' → d ≡ d' → e ≡ e' → f ≡ f'
    → (a || (b || (c || (d || (e || (f || false)))))) ≡ (a' || (b' || (c' || (d' || (e' || f')))))
any_six {f' = f'} ea eb ec ed ee ef = rw (ea, eb, ec, ed, ee, ef, or_false f') refl

pub any_is : (s : SideState) → IsPlainSide s → any_alive (side_bytes s) ≡ any_lives s
unfolding side_after
any_is s plain =
    let at = λ (k : ℕ) (low : k < 6). lives_is (member_at k s) (plain.members k low) in
    any_six (at 0 (omega arith)) (at 1 (omega arith)) (at 2 (omega arith)) (at 3 (omega arith)) (at 4 (omega arith)) (at 5 (omega arith))

-- Turn, outcome and requests

pub record RequestsPass (b : BattleState) : Type 0 where
  pub outcome : (outcome_test b).passes ≡ true
  pub one : slice_index b.requests 0 ≡ (requests_due b).0
  pub two : slice_index b.requests 1 ≡ (requests_due b).1
  pub turn : (turn_test b ((requests_due b).0 == 2 || (requests_due b).1 == 2)).passes ≡ true
  pub first_one : (first_test (first_side b) (b.turn == 0)).passes ≡ true
  pub first_two : (first_test (second_side b) (b.turn == 0)).passes ≡ true

requests_pass : (b : BattleState) → tested_requests b ≡ Ok tt → RequestsPass b
unfolding tested_requests
requests_pass b e =
    let one = due_test (slice_index b.requests 0) (requests_due b).0 ∷ [] in
    let two = due_test (slice_index b.requests 1) (requests_due b).1 ∷ [] in
    let turn = turn_test b ((requests_due b).0 == 2 || (requests_due b).1 == 2) ∷ [] in
    let a = then_passes (fault_at 0 0 (first_of (outcome_test b ∷ []))) _ e in
    let c = then_passes (fault_at 1 0 (first_of one)) _ a.1 in
    let d = then_passes (fault_at 2 0 (first_of two)) _ c.1 in
    let f = then_passes (fault_at 0 0 (first_of turn)) _ d.1 in
    let g = then_passes (fault_at 1 1 (first_of (first_test (first_side b) (b.turn == 0) ∷ []))) _ f.1 in
    record {
      outcome = (first_passes (outcome_test b ∷ []) (at_passes 0 0 _ a.0)).0;
      one = same_value _ _ (first_passes one (at_passes 1 0 _ c.0)).0;
      two = same_value _ _ (first_passes two (at_passes 2 0 _ d.0)).0;
      turn = (first_passes turn (at_passes 0 0 _ f.0)).0;
      first_one = (first_passes (first_test (first_side b) (b.turn == 0) ∷ []) (at_passes 1 1 _ g.0)).0;
      first_two = (first_passes (first_test (second_side b) (b.turn == 0) ∷ []) (at_passes 2 1 _ g.1)).0;
    }

-- Nothing is asked for at turn 0, and once a battle is over.
pub none_due : (b : BattleState) → (b.turn == 0 || not (b.outcome == 0)) ≡ true → requests_due b ≡ (0, 0)
none_due b none = ap (λ (c : Bool). cond c (0, 0) (asked (lives (member_out (first_side b))) (lives (member_out (second_side b))))) none

asks_none : (b : BattleState) → (b.turn == 0 || not (b.outcome == 0)) ≡ true → RequestsPass b → Asks (header_bytes b) 0 0
asks_none b none p = let due = none_due b none in (p.one ∙ ap (λ (d : ℕ × ℕ). d.0) due, p.two ∙ ap (λ (d : ℕ × ℕ). d.1) due)

first_lives : (m : MemberState) → IsPlainMember m → (start : Bool) → start ≡ true → (nat_le (on start 1) m.hp && nat_le m.hp m.max_hp) ≡ true
    → alive (member_bytes m) ≡ true
first_lives m plain true is e = let low = (between 1 m.max_hp m.hp e).0 in lives_is m plain ∙ grind (arith, nat_tests)
first_lives m plain false is e = absurd (cc)

start_ok : (b : BattleState) → IsPlain b → b.turn ≡ 0 → RequestsPass b → PassesStart (header_bytes b) (side_bytes (first_side b)) (side_bytes (second_side b))
unfolding side_after
start_ok b plain none p =
    let start : (b.turn == 0) ≡ true = rw none refl in
    let over : (b.turn == 0 || not (b.outcome == 0)) ≡ true = rw start refl in
    record {
      ongoing = zero_in _ 0 5 b.outcome (rw start refl) (fits_from_0 (not (b.turn == 0)) 5 b.outcome (first_rule _ _ p.outcome));
      asks = asks_none b over p;
      first_one = first_lives (member_at 0 (first_side b)) (plain.one.members 0 (omega arith)) (b.turn == 0) start p.first_one;
      first_two = first_lives (member_at 0 (second_side b)) (plain.two.members 0 (omega arith)) (b.turn == 0) start p.first_two;
    }

-- From turn 1 on, by the outcome

not_false : (b : Bool) → not b ≡ true → b ≡ false
not_false false e = refl
not_false true e = absurd (cc)

one_wins : (one two : Bool) → (one && not two) ≡ true → (one ≡ true) × (two ≡ false)
one_wins one two e = let k = both one (not two) e in (k.0, not_false two k.1)

two_wins : (one two : Bool) → (not one && two) ≡ true → (one ≡ false) × (two ≡ true)
two_wins one two e = let k = both (not one) two e in (not_false one k.0, k.1)

tie_ok : (b : BattleState) → IsPlain b → (one two : Bool) → ((not one && not two) || (b.turn == b.limit && one && two)) ≡ true
    → PassesTie one two (header_bytes b)
tie_ok b plain false false e = inl (refl, refl)
tie_ok b plain true true e =
    let k = both _ _ (both _ _ e).0 in
    inr (rw (word_is b.turn plain.turn, word_is b.limit plain.limit) (eqb-true b.turn b.limit k.0), refl, refl)
tie_ok b plain true false e = absurd (let k : false ≡ true = (both (b.turn == b.limit && true) false e).1 in cc)
tie_ok b plain false true e = absurd (let k : false ≡ true = (both (b.turn == b.limit) false (both (b.turn == b.limit && false) true e).0).1 in cc)

-- In the middle of a battle

before : (b : BattleState) → 1 ≤ b.limit → (turn_test b true).passes ≡ true → b.turn < b.limit
before b some e = let high = (between 0 (b.limit - 1) b.turn e).1 in omega arith

asked_ok : (b : BattleState) → IsPlain b → 1 ≤ b.limit → (one two : Bool) → slice_index b.requests 0 ≡ (asked one two).0
    → slice_index b.requests 1 ≡ (asked one two).1 → (turn_test b ((asked one two).0 == 2 || (asked one two).1 == 2)).passes ≡ true
    → PassesAsked one two (header_bytes b)
asked_ok b plain some true true first second turn = (first, second)
asked_ok b plain some false true first second turn = ((first, second), rw (word_is b.turn plain.turn, word_is b.limit plain.limit) (before b some turn))
asked_ok b plain some true false first second turn = ((first, second), rw (word_is b.turn plain.turn, word_is b.limit plain.limit) (before b some turn))
asked_ok b plain some false false first second turn = ((first, second), rw (word_is b.turn plain.turn, word_is b.limit plain.limit) (before b some turn))

-- The bytes of the member that is out show whether it lives.
pub out_lives : (s : SideState) → IsPlainSide s → OutPasses s → alive (out_bytes (side_bytes s)) ≡ lives (member_out s)
out_lives s plain out = ap alive out.bytes ∙ lives_is (member_out s) (out_plain s plain)

-- The outcome fits which sides have a living member.
fits_at : (b : BattleState) → (b.turn == 0) ≡ false → RequestsPass b
    → outcome_fits b.outcome (any_lives (first_side b)) (any_lives (second_side b)) (b.turn == b.limit) ≡ true
fits_at b begun p =
    subst (λ (c : Bool). (c || outcome_fits b.outcome (any_lives (first_side b)) (any_lives (second_side b)) (b.turn == b.limit)) ≡ true) begun
    (both _ _ p.outcome).1

at_outcome : (b : BattleState) (n : ℕ) → b.outcome ≡ n
    → outcome_fits b.outcome (any_lives (first_side b)) (any_lives (second_side b)) (b.turn == b.limit) ≡ true
    → outcome_fits n (any_lives (first_side b)) (any_lives (second_side b)) (b.turn == b.limit) ≡ true
at_outcome b n is e = subst (λ (n : ℕ). outcome_fits n (any_lives (first_side b)) (any_lives (second_side b)) (b.turn == b.limit) ≡ true) is e

pub going_due : (b : BattleState) → (b.turn == 0) ≡ false → b.outcome ≡ 0
    → requests_due b ≡ asked (lives (member_out (first_side b))) (lives (member_out (second_side b)))
going_due b begun is =
    let none : (b.turn == 0 || not (b.outcome == 0)) ≡ false = rw (begun, is) refl in
    ap (λ (c : Bool). cond c (0, 0) (asked (lives (member_out (first_side b))) (lives (member_out (second_side b))))) none

pub over_at : (b : BattleState) → (b.turn == 0) ≡ false → 1 ≤ b.outcome → (b.turn == 0 || not (b.outcome == 0)) ≡ true
over_at b begun low = let over : (b.outcome == 0) ≡ false = grind (arith, nat_tests) in rw (begun, over) refl

later_ok : (b : BattleState) → IsPlain b → 1 ≤ b.turn → 1 ≤ b.limit → OutPasses (first_side b) → OutPasses (second_side b) → RequestsPass b
    → PassesLater (header_bytes b) (side_bytes (first_side b)) (side_bytes (second_side b))
later_ok b plain some limit out_one out_two p =
    let begun : (b.turn == 0) ≡ false = grind (arith, nat_tests) in
    let one = any_is (first_side b) plain.one in
    let two = any_is (second_side b) plain.two in
    let out_1 = out_lives (first_side b) plain.one out_one in
    let out_2 = out_lives (second_side b) plain.two out_two in
    let fit = fits_at b begun p in
    let due = λ (goes_on : b.outcome ≡ 0). going_due b begun goes_on in
    record {
      ongoing = λ is.
          let k = both (any_lives (first_side b)) (any_lives (second_side b)) (at_outcome b 0 is fit) in (
            one ∙ k.0,
            two ∙ k.1,
            rw (out_1, out_2) (asked_ok b plain limit (lives (member_out (first_side b))) (lives (member_out (second_side b)))
                (p.one ∙ ap (λ (d : ℕ × ℕ). d.0) (due is)) (p.two ∙ ap (λ (d : ℕ × ℕ). d.1) (due is))
                (subst (λ (d : ℕ × ℕ). (turn_test b (d.0 == 2 || d.1 == 2)).passes ≡ true) (due is) p.turn)),
          );
      over = λ low. asks_none b (over_at b begun low) p;
      win_one = λ is. let k = one_wins (any_lives (first_side b)) (any_lives (second_side b)) (at_outcome b 1 is fit) in (one ∙ k.0, two ∙ k.1);
      win_two = λ is. let k = two_wins (any_lives (first_side b)) (any_lives (second_side b)) (at_outcome b 2 is fit) in (one ∙ k.0, two ∙ k.1);
      tie = λ is. rw (one, two) (tie_ok b plain (any_lives (first_side b)) (any_lives (second_side b)) (at_outcome b 3 is fit));
    }

requests_ok : (b : BattleState) → IsPlain b → 1 ≤ b.limit → (1 ≤ b.turn → OutPasses (first_side b) × OutPasses (second_side b)) → RequestsPass b
    → PassesRequests (header_bytes b) (side_bytes (first_side b)) (side_bytes (second_side b))
requests_ok b plain limit out p = by b.turn refl
  where
    by : (n : ℕ) → b.turn ≡ n → PassesRequests (header_bytes b) (side_bytes (first_side b)) (side_bytes (second_side b))
    by zero is = let word = word_is b.turn plain.turn in inl (word ∙ is, start_ok b plain is p)
    by (suc n) is =
        let word = word_is b.turn plain.turn in
        let some : 1 ≤ b.turn = omega arith in
        let o = out some in
        inr (omega arith, later_ok b plain some limit o.0 o.1 p)

-- The whole

-- The tests of an active member and of its current stats pass, from turn 1 on or at turn 0.
pub record ActivePasses (s : SideState) (begun : Bool) : Type 0 where
  pub block : BlockPasses s begun
  pub stats : AllPass (stat_tests (member_out s) s.active begun)

record StatePasses (b : BattleState) : Type 0 where
  pub header : HeaderPasses b
  pub one : SidePasses (first_side b) b.rules
  pub two : SidePasses (second_side b) b.rules
  pub active_one : ActivePasses (first_side b) (not (b.turn == 0))
  pub active_two : ActivePasses (second_side b) (not (b.turn == 0))
  pub requests : RequestsPass b

state_passes : (b : BattleState) → tested b ≡ Ok tt → StatePasses b
unfolding tested
state_passes b e =
    let one = first_side b in
    let two = second_side b in
    let begun = not (b.turn == 0) in
    let a = then_passes (tested_header b) _ e in
    let c = then_passes (tested_members one 1 b.rules) _ a.1 in
    let d = then_passes (tested_members two 2 b.rules) _ c.1 in
    let f = then_passes (tested_active one 1 begun) _ d.1 in
    let g = then_passes (tested_active two 2 begun) _ f.1 in
    let h = then_passes (tested_stats one 1 begun) _ g.1 in
    let i = then_passes (tested_stats two 2 begun) _ h.1 in
    record {
      header = header_passes b a.0;
      one = side_tests one 1 b.rules c.0;
      two = side_tests two 2 b.rules d.0;
      active_one = record {
        block = block_tests one begun (at_passes 1 0 _ f.0);
        stats = first_passes (stat_tests (member_out one) one.active begun) (at_passes 1 0 _ h.0);
      };
      active_two = record {
        block = block_tests two begun (at_passes 2 0 _ g.0);
        stats = first_passes (stat_tests (member_out two) two.active begun) (at_passes 2 0 _ i.0);
      };
      requests = requests_pass b i.1;
    }

above : (n : ℕ) → (n == 0) ≡ false → 1 ≤ n
above n is = grind (arith, nat_tests)

active_at : (turn : ℕ) (s : SideState) (rules : ℕ) → turn < 65536 → IsPlainSide s → SidePasses s rules → ActivePasses s (not (turn == 0))
    → PassesActiveAt (low_byte turn + 256 * high_byte turn) (side_bytes s) × PassesStatsAt (low_byte turn + 256 * high_byte turn) (side_bytes s)
unfolding side_after
active_at turn s rules fit plain side p = by (turn == 0) refl p
  where
    by : (b : Bool) → (turn == 0) ≡ b → ActivePasses s (not b)
        → PassesActiveAt (low_byte turn + 256 * high_byte turn) (side_bytes s) × PassesStatsAt (low_byte turn + 256 * high_byte turn) (side_bytes s)
    by true is p =
        let none = eqb-true turn 0 is in (
          record { before = λ _. nobody_out_ok s p.block p.stats; later = λ low. absurd (omega arith) },
          record { later = λ low. absurd (omega arith) },
        )
    by false is p =
        let some : 1 ≤ turn = above turn is in
        let out = out_passes s rules side (between 1 (members_in s) s.active.place p.block.place.0) in
        let stats = stats_ok (member_out s) s.active (out_plain s plain).words plain.active p.block.stages p.stats in (
          record { before = λ none. absurd (omega arith); later = λ _. active_ok s plain out p.block },
          record { later = λ _. subst (λ (l : List ℕ). PassesStats l (active_bytes s.active)) (sym out.bytes) stats },
        )

out_at : (turn : ℕ) (s : SideState) (rules : ℕ) → SidePasses s rules → ActivePasses s (not (turn == 0)) → 1 ≤ turn → OutPasses s
out_at turn s rules side p some =
    let begun : not (turn == 0) ≡ true = rw (not_zero turn (λ none. omega arith)) refl in
    let block = subst (λ (b : Bool). BlockPasses s b) begun p.block in
    out_passes s rules side (between 1 (members_in s) s.active.place block.place.0)

form_passes : (b : BattleState) → IsPlain b → StatePasses b → PassesForm (bytes_of b)
unfolding bytes_of side_after
form_passes b plain p =
    let one = active_at b.turn (first_side b) b.rules plain.turn plain.one p.one p.active_one in
    let two = active_at b.turn (second_side b) b.rules plain.turn plain.two p.two p.active_two in
    let limit = (between 1 9999 b.limit p.header.fields.0).0 in
    record {
      header = header_ok b plain p.header;
      members = (members_ok (first_side b) b.rules plain.one p.one, members_ok (second_side b) b.rules plain.two p.two);
      actives = (one.0, two.0);
      stats = (one.1, two.1);
      requests =
          requests_ok b plain limit
          (λ some. (out_at b.turn (first_side b) b.rules p.one p.active_one some, out_at b.turn (second_side b) b.rules p.two p.active_two some))
          p.requests;
    }

-- Its bytes pass the seven tests of loading.
pub bytes_pass : (b : BattleState) → IsPlain b → tested b ≡ Ok tt → (fault : LoadFault) → PassesTest fault (bytes_of b)
unfolding bytes_of side_after
bytes_pass b plain e fault = by (form_passes b plain (state_passes b e)) fault
  where
    by : PassesForm (bytes_of b) → (fault : LoadFault) → PassesTest fault (bytes_of b)
    by p faults.Length = has_length b
    by p faults.Version = (omega arith, omega arith)
    by p faults.Header = (record { limit = λ low. absurd (omega arith); rules = λ one. absurd (omega arith) }, p.header)
    by p faults.Member = p.members
    by p faults.Active = p.actives
    by p faults.Stat = p.stats
    by p faults.Request = p.requests

pub battle_of : (b : BattleState) → IsPlain b → AreBytes (bytes_of b) → tested b ≡ Ok tt → IsBattle (bytes_of b)
unfolding bytes_of side_after
battle_of b plain fit e = record {
  full = has_length b;
  version = (omega arith, omega arith);
  keeps = record { limit = λ low. absurd (omega arith); rules = λ one. absurd (omega arith) };
  stands = (forms_law (bytes_of b) (has_length b) fit refl).0 (form_passes b plain (state_passes b e));
}

-- The fault of a state that does not pass

-- Whether a field is one.
abbrev is_field : StateField → Bool
is_field fields.Unnamed = false
is_field _ = true

named : (field : StateField) → is_field field ≡ true → field ≢ fields.Unnamed
named field e is = let no : is_field fields.Unnamed ≡ true = subst (λ (f : StateField). is_field f ≡ true) is e in absurd (cc)

-- If a test fails, its fault is named.
record Names (t : Test) : Type 0 where
  pub field : t.field ≢ fields.Unnamed
  pub value : t.passes ≡ false → has_rule t.field ≡ false → (t.value < t.low) ⊎ (t.high < t.value)

outside : (low high value : ℕ) → (nat_le low value && nat_le value high) ≡ false → (value < low) ⊎ (high < value)
outside low high value e = grind (arith, nat_tests)

range : (field : StateField) (index value low high : ℕ) → is_field field ≡ true → Names (within field index value low high)
range field index value low high e = record { field = named field e; value = λ fails none. outside low high value fails }

rule : (test : Test) → is_field test.field ≡ true → has_rule test.field ≡ true → Names test
rule test e some = record { field = named test.field e; value = λ fails none. absurd (cc) }

abbrev AllName : List Test → Type 0
AllName [] = Unit {0}
AllName (t ∷ ts) = Names t × AllName ts

abbrev IsNamedAt : Tested → Type 0
IsNamedAt (Ok u) = Unit {0}
IsNamedAt (Err t) = Names t × (t.passes ≡ false)

first_named : (tests : List Test) → AllName tests → IsNamedAt (first_of tests)
unfolding first_of
first_named [] h = tt
first_named (t ∷ ts) h = by t.passes refl (first_named ts h.1)
  where
    by : (b : Bool) → t.passes ≡ b → IsNamedAt (first_of ts) → IsNamedAt (cond b (first_of ts) (Err t))
    by true is rest = rest
    by false is rest = (h.0, is)

abbrev NamesFault : Passed → Type 0
NamesFault (Ok u) = Unit {0}
NamesFault (Err fault) = IsNamed fault

at_named : (side place : ℕ) (t : Tested) → IsNamedAt t → NamesFault (fault_at side place t)
at_named side place (Ok u) h = tt
at_named side place (Err t) h = record { field = h.0.field; value = h.0.value h.1 }

then_named : (a b : Tested) → IsNamedAt a → IsNamedAt b → IsNamedAt (a ▸ b)
then_named (Ok u) b h k = k
then_named (Err t) b h k = h

then_fault : (a b : Passed) → NamesFault a → NamesFault b → NamesFault (a ▸ b)
then_fault (Ok u) b h k = k
then_fault (Err t) b h k = h

header_named : (b : BattleState) → NamesFault (tested_header b)
header_named b =
    let request = λ (r : ℕ). first_named (request_test r ∷ []) (range _ _ _ _ _ refl, tt) in
    then_fault _ _ (at_named 0 0 _ (first_named (header_tests b) (range _ _ _ _ _ refl, (range _ _ _ _ _ refl, (range _ _ _ _ _ refl, (range _ _ _ _ _ refl, (range _ _ _ _ _ refl, tt)))))))
    (then_fault _ _ (at_named 1 0 _ (request (slice_index b.requests 0))) (at_named 2 0 _ (request (slice_index b.requests 1))))

member_named : (m : MemberState) (least most rules : ℕ) → IsNamedAt (tested_member m least most rules)
unfolding tested_member
member_named m least most rules =
    then_named (first_of (number_tests m least most)) _ (first_named _ (range _ _ _ _ _ refl, (range _ _ _ _ _ refl, (range _ _ _ _ _ refl, (range _ _ _ _ _ refl, tt)))))
    (then_named (first_of (own_stat_tests m)) _ (first_named _ (range _ _ _ _ _ refl, (range _ _ _ _ _ refl, (range _ _ _ _ _ refl, (range _ _ _ _ _ refl, tt)))))
    (then_named (first_of (status_tests m rules)) _ (first_named _ (range _ _ _ _ _ refl, (range _ _ _ _ _ refl, (range _ _ _ _ _ refl, tt))))
    (then_named (first_of (move_tests m)) _ (first_named _ (rule _ refl refl, (rule _ refl refl, (rule _ refl refl, (rule _ refl refl, tt)))))
    (first_named (pp_tests m) (range _ _ _ _ _ refl, (range _ _ _ _ _ refl, (range _ _ _ _ _ refl, (range _ _ _ _ _ refl, tt))))))))

members_named : (s : SideState) (number rules : ℕ) → NamesFault (tested_members s number rules)
unfolding tested_members
members_named s number rules =
    let at = λ (place : ℕ) (m : MemberState) (least most : ℕ). at_named number place (tested_member m least most rules) (member_named m least most rules) in
    then_fault _ _ (at 1 (member_at 0 s) 1 151)
    (then_fault _ _ (at 2 (member_at 1 s) 0 (on (is_there (member_at 0 s)) 151))
    (then_fault _ _ (at 3 (member_at 2 s) 0 (on (is_there (member_at 1 s)) 151))
    (then_fault _ _ (at 4 (member_at 3 s) 0 (on (is_there (member_at 2 s)) 151))
    (then_fault _ _ (at 5 (member_at 4 s) 0 (on (is_there (member_at 3 s)) 151)) (at 6 (member_at 5 s) 0 (on (is_there (member_at 4 s)) 151))))))

block_named : (s : SideState) (begun : Bool) → IsNamedAt (tested_block s begun)
unfolding tested_block
block_named s begun =
    then_named (first_of (place_test s begun ∷ [])) _ (first_named _ (range _ _ _ _ _ refl, tt))
    (then_named (first_of (fixed_tests s.active begun)) _ (first_named _ (range _ _ _ _ _ refl, (range _ _ _ _ _ refl, (range _ _ _ _ _ refl, tt))))
    (then_named (first_of (stage_tests s.active begun)) _ (first_named _ (range _ _ _ _ _ refl, (range _ _ _ _ _ refl, (range _ _ _ _ _ refl, (range _ _ _ _ _ refl, (range _ _ _ _ _ refl, (range _ _ _ _ _ refl, tt)))))))
    (then_named (first_of (count_tests s.active (moves_in (member_out s)))) _ (first_named _ (range _ _ _ _ _ refl, (range _ _ _ _ _ refl, (range _ _ _ _ _ refl, (range _ _ _ _ _ refl, (range _ _ _ _ _ refl, tt))))))
    (then_named (first_of (progress_tests s.active)) _ (first_named _ (range _ _ _ _ _ refl, (range _ _ _ _ _ refl, (range _ _ _ _ _ refl, tt))))
    (then_named (first_of (used_tests s.active (moves_in (member_out s)) begun)) _ (first_named _ (rule _ refl refl, (rule _ refl refl, tt)))
    (first_named (tied_tests s.active (current_effect (member_out s) s.active.current_move)) (range _ _ _ _ _ refl, (range _ _ _ _ _ refl, (range _ _ _ _ _ refl, (range _ _ _ _ _ refl, (range _ _ _ _ _ refl, (range _ _ _ _ _ refl, tt))))))))))))

stats_named : (s : SideState) (number : ℕ) (begun : Bool) → NamesFault (tested_stats s number begun)
stats_named s number begun =
    at_named number 0 _ (first_named (stat_tests (member_out s) s.active begun) (rule _ refl refl, (first_stat, (rule _ refl refl, (second_stat, tt)))))
  where
    first_stat : Names (fixed_test 2 (slice_index s.active.stats 1) (stat_at (member_out s) s.active 1 Defense 0) begun)
    first_stat = range _ _ _ _ _ refl

    second_stat : Names (fixed_test 4 (slice_index s.active.stats 3) (stat_at (member_out s) s.active 3 Special 0) begun)
    second_stat = range _ _ _ _ _ refl

requests_named : (b : BattleState) → NamesFault (tested_requests b)
unfolding tested_requests
requests_named b =
    then_fault _ _ (at_named 0 0 _ (first_named (outcome_test b ∷ []) (rule _ refl refl, tt)))
    (then_fault _ _ (at_named 1 0 _ (first_named (due_test (slice_index b.requests 0) (requests_due b).0 ∷ []) (range _ _ _ _ _ refl, tt)))
    (then_fault _ _ (at_named 2 0 _ (first_named (due_test (slice_index b.requests 1) (requests_due b).1 ∷ []) (range _ _ _ _ _ refl, tt)))
    (then_fault _ _ (at_named 0 0 _ (first_named (turn_test b ((requests_due b).0 == 2 || (requests_due b).1 == 2) ∷ []) (range _ _ _ _ _ refl, tt)))
    (then_fault _ _ (at_named 1 1 _ (first_named (first_test (first_side b) (b.turn == 0) ∷ []) (range _ _ _ _ _ refl, tt)))
    (at_named 2 1 _ (first_named (first_test (second_side b) (b.turn == 0) ∷ []) (range _ _ _ _ _ refl, tt)))))))

tests_named : (b : BattleState) → NamesFault (tested b)
unfolding tested
tests_named b =
    let one = first_side b in
    let two = second_side b in
    let begun = not (b.turn == 0) in
    then_fault (tested_header b) _ (header_named b)
    (then_fault (tested_members one 1 b.rules) _ (members_named one 1 b.rules)
    (then_fault (tested_members two 2 b.rules) _ (members_named two 2 b.rules)
    (then_fault (tested_active one 1 begun) _ (at_named 1 0 _ (block_named one begun))
    (then_fault (tested_active two 2 begun) _ (at_named 2 0 _ (block_named two begun))
    (then_fault (tested_stats one 1 begun) _ (stats_named one 1 begun)
    (then_fault (tested_stats two 2 begun) _ (stats_named two 2 begun) (requests_named b)))))))

-- The first test that fails names a field.
pub fault_named : (b : BattleState) (fault : StateFault) → tested b ≡ Err fault → IsNamed fault
fault_named b fault e = subst NamesFault e (tests_named b)
