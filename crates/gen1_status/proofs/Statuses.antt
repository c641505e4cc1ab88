-- Statuses and counts by their bytes: masks, comparisons, sleep, ranges, and writes that change nothing.
use Rattle.std.proofs.Common.{not, ◌%◌, ◌==◌, ◌^◌, ◌≡◌, ◌≤◌, ◌<◌, ◌-◌, Bool, List, [], arith, length, get_or, refl, ◌&&◌, ◌||◌, ◌∷◌, None, Option, Some, false, if◌then◌else◌, nat_le, nat_lt, true, ℕ}
use Rattle.std.proofs.lemmas.Nat.{and_mask}
use Rattle.std.specs.Int.RustNames.{bit_and}
use Rattle.gen1_layout.proofs.Counts.{lowest_three, none_above}
use Rattle.gen1_layout.proofs.Words.{ap, nat_tests, ◌∙◌, DisabledSlot, Active, Field, Side, active_in, changed_active}
use Rattle.gen1_stats.specs.declared.member.Status.{Status}
use Rattle.gen1_stats.specs.declared.member.Status.TheVariants.{Asleep, Burned, Frozen, Healthy, Paralysed, Poisoned}
use Rattle.gen1_machine.specs.Layout.{status_byte}
use Rattle.gen1_machine.specs.Rules.{Rules}
use Rattle.gen1_machine.specs.Valid.{IsStatus, IsCount, IsStages}
use Rattle.gen1_status.specs.Gate.{keeps_from_acting}
use Rattle.gen1_status.specs.Statuses.{takes_hp, IsCountOf, status_of_kind}
use Rattle.gen1_machine.specs.State.{with_sleep_one_less, Stages, with_party}
use Rattle.gen1_machine.specs.Conditions.{with_confusion_one_less, with_disable_one_less, one_more, without_charging, without_flinch, without_invulnerability, without_recharge, ActiveConditions}
use Rattle.std.proofs.Math.Bool.{or-false}
use Rattle.gen1_tables.specs.Types.{any}
use Rattle.gen1_stats.specs.Members.{is_living, nobody, Member}
use Rattle.gen1_machine.specs.declared.event.Kind.{Kind}
use Rattle.gen1_machine.specs.CurrentStats.{stage_of}
use Rattle.gen1_tables.specs.declared.effect.Stat.{Stat}
use Rattle.gen1_tables.specs.declared.effect.Stat.TheVariants.{Accuracy, Attack, Defense, Evasion, Special, Speed}
use Rattle.gen1_layout.specs.Words.{SameNumbers}
use Rattle.gen1_machine.specs.declared.side.Side.TheVariants.{One, Two}
use Rattle.gen1_machine.specs.declared.event.Kind.TheVariants as kinds

pub takes : (rules : Rules) (status : Status) → IsStatus rules status → not (bit_and (status_byte status) 24 == 0) ≡ takes_hp status
takes rules Healthy ok = refl
takes rules (Asleep turns marked) ok = ap (λ (n : ℕ). not (n == 0)) (none_above turns 24 ok.0.1 refl)
takes rules Poisoned ok = refl
takes rules Burned ok = refl
takes rules Frozen ok = refl
takes rules Paralysed ok = refl

is_some_turn : (turns : ℕ) → 1 ≤ turns → not (turns == 0) ≡ true
is_some_turn turns some = grind (arith, nat_tests)

pub keeps : (rules : Rules) (status : Status) → IsStatus rules status → not (bit_and (status_byte status) 103 == 0) ≡ keeps_from_acting status
keeps rules Healthy ok = refl
keeps rules (Asleep turns marked) ok =
    let few = ok.0.1 in
    let low : bit_and turns 7 ≡ turns % 2 ^ 3 = and_mask turns 3 in
    let same : bit_and turns 7 ≡ turns = omega arith in
    ap (λ (n : ℕ). not (n == 0)) (lowest_three turns 103 few ∙ same) ∙ is_some_turn turns ok.0.0
keeps rules Poisoned ok = refl
keeps rules Burned ok = refl
keeps rules Frozen ok = refl
keeps rules Paralysed ok = refl

-- Tests of numbers by their meaning, and a test that one of two holds.

pub at_most : (a b : ℕ) → a ≤ b → nat_le a b ≡ true
at_most a b h = grind (arith, nat_tests)

pub not_at_most : (a b : ℕ) → b < a → nat_le a b ≡ false
not_at_most a b h = grind (arith, nat_tests)

pub below : (a b : ℕ) → a < b → nat_lt a b ≡ true
below a b h = grind (arith, nat_tests)

pub not_below : (a b : ℕ) → b ≤ a → nat_lt a b ≡ false
not_below a b h = grind (arith, nat_tests)

-- A sleeper after one turn of sleep.

pub wakes : (m : Member) {turns : ℕ} {marked : Bool} → m.status ≡ Asleep turns marked → turns ≤ 1 → with_sleep_one_less m ≡ record m { status = Healthy }
unfolding with_sleep_one_less
wakes m {turns} e last = rw (e, at_most turns 1 last) refl

pub sleeps_on : (m : Member) {turns : ℕ} {marked : Bool} → m.status ≡ Asleep turns marked → 1 < turns
    → with_sleep_one_less m ≡ record m { status = Asleep (turns - 1) marked }
unfolding with_sleep_one_less
sleeps_on m {turns} e more = rw (e, not_at_most turns 1 more) refl

pub one_turn_less : (rules : Rules) {turns : ℕ} {marked : Bool} → IsStatus rules (Asleep turns marked) → 1 < turns → IsStatus rules (Asleep (turns - 1) marked)
one_turn_less rules h more = ((omega arith, omega (arith, h.0.1)), h.1)

-- A count after one turn.

pub less_disabled : (c : ActiveConditions) (d : DisabledSlot) → c.disabled ≡ Some d
    → with_disable_one_less c ≡ record c { disabled = Some (record { slot = d.slot; turns = d.turns - 1 }) }
unfolding with_disable_one_less
less_disabled c d e = rw e refl

pub less_confused : (c : ActiveConditions) (turns : ℕ) → c.confused ≡ Some turns → with_confusion_one_less c ≡ record c { confused = Some (turns - 1) }
unfolding with_confusion_one_less
less_confused c turns e = rw e refl

-- Whether any living member passes a test, place by place.

abbrev pub meets : (Member → Bool) → Member → Bool
meets test m = is_living m && test m

pub any_of_six : (test : Member → Bool) (ms : List Member) → length ms ≤ 6
    → meets test (get_or ms 0 nobody) || (meets test (get_or ms 1 nobody) || (meets test (get_or ms 2 nobody) || (meets test (get_or ms 3 nobody) || (meets test (get_or ms 4 nobody) || meets test (get_or ms 5 nobody)))))
    ≡ any (meets test) ms
any_of_six test [] few = refl
any_of_six test (a ∷ []) few = refl
any_of_six test (a ∷ b ∷ []) few = refl
any_of_six test (a ∷ b ∷ c ∷ []) few = refl
any_of_six test (a ∷ b ∷ c ∷ d ∷ []) few = refl
any_of_six test (a ∷ b ∷ c ∷ d ∷ e ∷ []) few = refl
any_of_six test (a ∷ b ∷ c ∷ d ∷ e ∷ h ∷ []) few = rw (or-false (meets test h)) refl
any_of_six test (a ∷ b ∷ c ∷ d ∷ e ∷ h ∷ i ∷ ms) few = absurd (omega arith)

-- A status by its kind, and a stage after a move, are in their ranges.

-- An unmarked sleep needs no clause.
pub status_of_kind-fits : (rules : Rules) (kind : Kind) (count : ℕ) → IsCountOf kind count → IsStatus rules (status_of_kind kind count)
status_of_kind-fits rules kinds.Sleep count h = (h, λ no. cc)
status_of_kind-fits rules kinds.Poison count h = tt
status_of_kind-fits rules kinds.Burn count h = tt
status_of_kind-fits rules kinds.Freeze count h = tt
status_of_kind-fits rules kinds.Paralysis count h = tt

-- The counter of bad poison after it has risen.
pub one_more-fits : (count : Option ℕ) → IsCount 0 64 (one_more count)
one_more-fits None = tt
one_more-fits (Some n) = (omega arith, omega arith)

-- A stage is at most 12.
pub stage_of-fits : (stat : Stat) (stages : Stages) → IsStages stages → stage_of stat stages ≤ 12
stage_of-fits Attack stages h = h.attack
stage_of-fits Defense stages h = h.defense
stage_of-fits Speed stages h = h.speed
stage_of-fits Special stages h = h.special
stage_of-fits Accuracy stages h = h.accuracy
stage_of-fits Evasion stages h = h.evasion

-- A stage that moved by at most two is reported exactly if it moved

pub moved : (n count : ℕ) → Some count ≡ (if nat_le 1 n && nat_le n 2 then Some n else None) → (nat_lt 0 n ≡ true) × (count ≡ n)
moved n count e = (grind (arith, nat_tests), grind (arith, nat_tests))

pub not_moved : (n : ℕ) → n ≤ 2 → None ≡ (if nat_le 1 n && nat_le n 2 then Some n else None) → nat_lt 0 n ≡ false
not_moved n few e = grind (arith, nat_tests)

-- Clearing a condition without a number keeps all numbers.

pub flinch-same : (c : ActiveConditions) → SameNumbers (without_flinch c) c
unfolding without_flinch
flinch-same c = record { bide = refl; thrash = refl; trapping = refl; confused = refl; substitute = refl; bad_poison = refl; disabled = refl }

pub recharge-same : (c : ActiveConditions) → SameNumbers (without_recharge c) c
unfolding without_recharge
recharge-same c = record { bide = refl; thrash = refl; trapping = refl; confused = refl; substitute = refl; bad_poison = refl; disabled = refl }

pub charging-same : (c : ActiveConditions) → SameNumbers (without_charging c) c
unfolding without_charging
charging-same c = record { bide = refl; thrash = refl; trapping = refl; confused = refl; substitute = refl; bad_poison = refl; disabled = refl }

pub invulnerability-same : (c : ActiveConditions) → SameNumbers (without_invulnerability c) c
unfolding without_invulnerability
invulnerability-same c = record { bide = refl; thrash = refl; trapping = refl; confused = refl; substitute = refl; bad_poison = refl; disabled = refl }

-- Writing the value that is there already changes nothing.

pub changed_active-same : (s : Side) (change : Active → Active) (f : Field) → change (active_in s f) ≡ active_in s f → changed_active s change f ≡ f
unfolding changed_active
changed_active-same One change f e = ap (λ (a : Active). with_party One (record f.one { active = a }) f) e
changed_active-same Two change f e = ap (λ (a : Active). with_party Two (record f.two { active = a }) f) e
