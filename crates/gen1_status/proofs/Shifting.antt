-- The result of a shift: it fails at once, or it fails after the stage has moved and moved back, or it succeeds.
use Rattle.gen1_layout.proofs.Words.{Bool, Frame, IsBetween, Parts, Phase, Progress, Shows, Side, Telling, add-one, arith, choose, choose-false, choose-true, false, goes, nat_tests, on_active, refl, subst, then-goes, true, ℕ, ◌∙◌, ◌▸◌, Active, Field, Member}
use Rattle.std.proofs.Common.{negsuc, pos, ℤ, ◌≡◌, inl, inr, lit≤, suc, zero, ◌<◌, ◌≤◌}
use Rattle.gen1_status.specs.StageShift.{IsShift, ShowsShifted, shift_stage, with_stage_after}
use lib.IntN.{nat_abs}
use lib.Signed.{lt_z}
use Rattle.gen1_tables.specs.declared.effect.Stat.{Stat}
use Rattle.gen1_machine.specs.CurrentStats.{at_new_stage, now, now_in, penalties_of, recomputed_at, unmodified}
use Rattle.gen1_machine.specs.Progress.{stay}
use Rattle.gen1_machine.specs.StageShift.{lower_stage, shift_to, stands_at}
use Rattle.std.proofs.Math.Nat.{mul-le-mul_left}
use Rattle.std.proofs.lemmas.Bool.{cases_lt, eqb-true}
use Rattle.gen1_tables.specs.declared.effect.Stat.TheVariants.{Accuracy, Attack, Defense, Evasion, Special, Speed}
use Rattle.gen1_machine.specs.Stages.{after_penalties, at_stage, divided_times, now_at, percent_at}

-- A shift by a number that isn't above 0 goes down.
pub shift_stage-down : (user target : Side) (stat : Stat) (stages : ℕ) (by : ℤ) → IsShift by → lt_z (pos 0) by ≡ false → stages ≡ nat_abs by
    → IsBetween 1 2 stages × (shift_stage user target stat by ≡ lower_stage user target stat stages)
shift_stage-down user target stat stages (pos n) is down e = absurd (grind (arith, nat_tests))
shift_stage-down user target stat stages (negsuc n) is down e = ((omega arith, omega arith), rw (e, add-one) refl)

-- At the last stage a shift fails. If the stat is stuck at its last value, the stage moves, moves back, and the shift
-- fails. Otherwise the stage moves, and the shift succeeds. This covers `raise_stage` and `lower_stage`, by their
-- numbers.
module _ (user target : Side) (stat : Stat) (tell : ℕ → Phase) (last stuck : Bool) (back back_by new new_by : ℕ) where
  abbrev moves : Phase → Phase
  moves failing =
      choose (λ _. last) failing
      (choose (λ _. stuck)
      (on_active target (at_new_stage stat back) ▸ tell back_by ▸ failing)
      (shift_to user target stat new ▸ tell new_by))

  pub stays_last : {g : Frame} {parts : Parts} {events : Telling} (failing : Phase) (p : Progress) → last ≡ true → Shows g parts events false p
      → ShowsShifted g parts events false moves failing p
  stays_last failing p e h = (p, h, choose-true _ _ _ p e)

  module _ {g : Frame} {parts parts' : Parts} {events events' : Telling} (failing : Phase) (p : Progress) where
    pub moves_back : {stage stages : ℕ} → last ≡ false → stuck ≡ true → stage ≡ back → stages ≡ back_by
        → Shows g parts events false (on_active target (at_new_stage stat stage) p)
        → Shows g parts' events' false (tell stages (on_active target (at_new_stage stat stage) p)) → ShowsShifted g parts' events' false moves failing p
    moves_back {stage = stage} {stages = stages} e full at by put told =
        let is : moves failing p ≡ (on_active target (at_new_stage stat stage) ▸ tell stages ▸ failing) p = rw (at, by) (choose-false _ _ _ p e ∙ choose-true _ _ _ p full) in
        (tell stages (on_active target (at_new_stage stat stage) p), told, is ∙ then-goes _ _ p put.ends ∙ then-goes _ failing _ told.ends)

    pub moves_on : {stage stages : ℕ} → last ≡ false → stuck ≡ false → stage ≡ new → stages ≡ new_by
        → Shows g parts events false (shift_to user target stat stage p)
        → Shows g parts' events' false (tell stages (shift_to user target stat stage p)) → ShowsShifted g parts' events' true moves failing p
    moves_on {stage = stage} {stages = stages} e free at by moved told =
        let is : moves failing p ≡ (shift_to user target stat stage ▸ tell stages) p = rw (at, by) (choose-false _ _ _ p e ∙ choose-false _ _ _ p free) in
        rw is (goes _ _ moved told)

-- For a caller: what is shown when it knows whether the shift succeeded.
module _ {g : Frame} {parts : Parts} {events : Telling} {result : Bool} {failing : Phase} {p : Progress} where
  pub succeeds : (shift : Phase → Phase) → result ≡ true → ShowsShifted g parts events result shift failing p → Shows g parts events false (shift failing p)
  succeeds shift e h = subst (λ (b : Bool). ShowsShifted g parts events b shift failing p) e h

  -- If the shift failed, what happens then is shown from where the shift ended.
  pub fails : {g' : Frame} {parts' : Parts} {events' : Telling} {b : Bool} (shift : Phase → Phase) → result ≡ false → ShowsShifted g parts events result shift failing p
      → ((q : Progress) → Shows g parts events false q → Shows g' parts' events' b (failing q)) → Shows g' parts' events' b (shift failing p)
  fails shift e h then =
      let w = subst (λ (b : Bool). ShowsShifted g parts events b shift failing p) e h in
      rw w.2 (then w.0 w.1)

-- A shift that may fail.
pub shifted : (g : Frame) (parts : Parts) (events : Telling) (b : Bool) (shift : Phase → Phase) (p : Progress) → ShowsShifted g parts events b shift stay p → Shows g parts events false (shift stay p)
unfolding stay
shifted g parts events true shift p h = h
shifted g parts events false shift p h = rw h.2 h.1

-- A stat of 999 stays 999 at a higher stage, and one of 1 stays 1 at a lower stage. A stat rises with its stage, from
-- 1 to 999.

percent_rises : (n : ℕ) → n < 12 → percent_at n ≤ percent_at (suc n)
percent_rises zero h = lit≤ tt
percent_rises (suc zero) h = lit≤ tt
percent_rises (suc (suc zero)) h = lit≤ tt
percent_rises (suc (suc (suc zero))) h = lit≤ tt
percent_rises (suc (suc (suc (suc zero)))) h = lit≤ tt
percent_rises (suc (suc (suc (suc (suc zero))))) h = lit≤ tt
percent_rises (suc (suc (suc (suc (suc (suc zero)))))) h = lit≤ tt
percent_rises (suc (suc (suc (suc (suc (suc (suc zero))))))) h = lit≤ tt
percent_rises (suc (suc (suc (suc (suc (suc (suc (suc zero)))))))) h = lit≤ tt
percent_rises (suc (suc (suc (suc (suc (suc (suc (suc (suc zero))))))))) h = lit≤ tt
percent_rises (suc (suc (suc (suc (suc (suc (suc (suc (suc (suc zero)))))))))) h = lit≤ tt
percent_rises (suc (suc (suc (suc (suc (suc (suc (suc (suc (suc (suc zero))))))))))) h = lit≤ tt
percent_rises (suc (suc (suc (suc (suc (suc (suc (suc (suc (suc (suc (suc n)))))))))))) h = absurd (omega arith)

staged_rises : (n u : ℕ) → n < 12 → at_stage n u ≤ at_stage (suc n) u
staged_rises n u h = let more = mul-le-mul_left u (percent_rises n h) in omega (arith, more)

halved_rises : (k v w : ℕ) → v ≤ w → divided_times 2 k v ≤ divided_times 2 k w
halved_rises zero v w h = h
halved_rises (suc k) v w h = let before = halved_rises k v w h in omega arith

quartered_rises : (k v w : ℕ) → v ≤ w → divided_times 4 k v ≤ divided_times 4 k w
quartered_rises zero v w h = h
quartered_rises (suc k) v w h = let before = quartered_rises k v w h in omega arith

penalties_rise : (stat : Stat) (k v w : ℕ) → v ≤ w → after_penalties stat k v ≤ after_penalties stat k w
penalties_rise Attack k v w h = halved_rises k v w h
penalties_rise Speed k v w h = quartered_rises k v w h
penalties_rise Defense k v w h = h
penalties_rise Special k v w h = h
penalties_rise Accuracy k v w h = h
penalties_rise Evasion k v w h = h

-- A number from 1 to 999 that is halved or quartered is still in that range

halved_between : (k v : ℕ) → 1 ≤ v → v ≤ 999 → (1 ≤ divided_times 2 k v) × (divided_times 2 k v ≤ 999)
halved_between zero v low high = (low, high)
halved_between (suc k) v low high = let before = halved_between k v low high in (omega arith, omega (arith, before.1))

quartered_between : (k v : ℕ) → 1 ≤ v → v ≤ 999 → (1 ≤ divided_times 4 k v) × (divided_times 4 k v ≤ 999)
quartered_between zero v low high = (low, high)
quartered_between (suc k) v low high = let before = quartered_between k v low high in (omega arith, omega (arith, before.1))

penalties_between : (stat : Stat) (k v : ℕ) → 1 ≤ v → v ≤ 999 → (1 ≤ after_penalties stat k v) × (after_penalties stat k v ≤ 999)
penalties_between Attack k v low high = halved_between k v low high
penalties_between Speed k v low high = quartered_between k v low high
penalties_between Defense k v low high = (low, high)
penalties_between Special k v low high = (low, high)
penalties_between Accuracy k v low high = (low, high)
penalties_between Evasion k v low high = (low, high)

pub now_between : (stat : Stat) (u n k : ℕ) → (1 ≤ now_at u n stat k) × (now_at u n stat k ≤ 999)
now_between stat u n k = penalties_between stat k (at_stage n u) (omega arith) (omega arith)

pub now_rises : (stat : Stat) (u n k : ℕ) → n < 12 → now_at u n stat k ≤ now_at u (suc n) stat k
now_rises stat u n k h = penalties_rise stat k (at_stage n u) (at_stage (suc n) u) (staged_rises n u h)

-- At the same stage or the next one.
pub most_stays : (stat : Stat) (u n m k : ℕ) → n < 12 → n ≤ m → m ≤ suc n → now_at u n stat k ≡ 999 → now_at u m stat k ≡ 999
most_stays stat u n m k h low high is = elim (cases_lt n m) [
  | inl up ↦
      (let next : m ≡ suc n = omega arith in
      let more = now_rises stat u n k h in
      let less = now_between stat u (suc n) k in
      rw next (omega (arith, less.1)))
  | inr same ↦ (let e : m ≡ n = omega arith in rw e is)
]

-- At the same stage or the one before.
pub least_stays : (stat : Stat) (u n m k : ℕ) → n ≤ 12 → m ≤ n → n ≤ suc m → now_at u n stat k ≡ 1 → now_at u m stat k ≡ 1
least_stays stat u n m k h low high is = elim (cases_lt m n) [
  | inl down ↦
      (let next : n ≡ suc m = omega arith in
      let more = now_rises stat u m k (omega arith) in
      let less = now_between stat u m k in
      let same = subst (λ (stage : ℕ). now_at u stage stat k ≡ 1) next is in
      omega (arith, less.0))
  | inr same ↦ (let e : m ≡ n = omega arith in rw e is)
]

-- A member that is out at another stage, and its stat at that stage.

pub recomputed_at-is : (stat : Stat) (n : ℕ) (a : Active) → recomputed_at stat n a ≡ with_stage_after stat n 0 a
unfolding recomputed_at
recomputed_at-is Attack n a = refl
recomputed_at-is Defense n a = refl
recomputed_at-is Speed n a = refl
recomputed_at-is Special n a = refl
recomputed_at-is Accuracy n a = refl
recomputed_at-is Evasion n a = refl

pub at_new_stage-is : (stat : Stat) (n : ℕ) (a : Active) → at_new_stage stat n a ≡ with_stage_after stat n (penalties_of stat a) a
unfolding at_new_stage
at_new_stage-is Attack n a = refl
at_new_stage-is Defense n a = refl
at_new_stage-is Speed n a = refl
at_new_stage-is Special n a = refl
at_new_stage-is Accuracy n a = refl
at_new_stage-is Evasion n a = refl

pub now-recomputed_at : (stat : Stat) (n : ℕ) (m : Member) (a : Active) → now stat m (recomputed_at stat n a) ≡ now_at (unmodified stat m) n stat 0
unfolding recomputed_at
now-recomputed_at Attack n m a = refl
now-recomputed_at Defense n m a = refl
now-recomputed_at Speed n m a = refl
now-recomputed_at Special n m a = refl
now-recomputed_at Accuracy n m a = refl
now-recomputed_at Evasion n m a = refl

pub now-at_new_stage : (stat : Stat) (n : ℕ) (m : Member) (a : Active) → now stat m (at_new_stage stat n a) ≡ now_at (unmodified stat m) n stat (penalties_of stat a)
unfolding at_new_stage
now-at_new_stage Attack n m a = refl
now-at_new_stage Defense n m a = refl
now-at_new_stage Speed n m a = refl
now-at_new_stage Special n m a = refl
now-at_new_stage Accuracy n m a = refl
now-at_new_stage Evasion n m a = refl

pub stands_at-now : (value : ℕ) (stat : Stat) (s : Side) (f : Field) → stands_at value stat s f ≡ true → now_in stat s f ≡ value
stands_at-now value Attack s f e = eqb-true (now_in Attack s f) value e
stands_at-now value Defense s f e = eqb-true (now_in Defense s f) value e
stands_at-now value Speed s f e = eqb-true (now_in Speed s f) value e
stands_at-now value Special s f e = eqb-true (now_in Special s f) value e
stands_at-now value Accuracy s f e = cc
stands_at-now value Evasion s f e = cc
