-- Worked examples: what ends a condition (docs/PROOFS.md, "Worked examples").
use Rattle.std.proofs.Common.{Bool, List, None, Option, Some, [], false, map, refl, true, ℕ, ◌∷◌, ◌≡◌}
use Rattle.gen1_tables.specs.declared.effect.Effect.TheVariants as effects
use Rattle.gen1_stats.specs.declared.member.Status.TheVariants.{Paralysed}
use Rattle.gen1_machine.specs.declared.side.Side.TheVariants.{One, Two}
use Rattle.gen1_machine.specs.declared.side.UsedMove.TheVariants.{Slot}
use Rattle.gen1_machine.specs.declared.side.Pick.TheVariants.{Use, Continue}
use Rattle.gen1_machine.specs.declared.side.Choice.TheVariants as choices
use Rattle.gen1_rolls.specs.Streams.{Sweep}
use Rattle.gen1_stats.specs.Members.{Member}
use Rattle.gen1_machine.specs.Conditions.{with_recharge, with_seed, with_trapping, no_conditions, nothing_underway, ActiveConditions, Underway}
use Rattle.gen1_machine.specs.Moves.{move_at}
use Rattle.gen1_machine.specs.State.{Active}
use Rattle.gen1_machine.specs.Progress.{conditions, underway, Phase, Progress}
use Rattle.gen1_machine.specs.EarlyEffects.{early_effect}
use Rattle.gen1_machine.specs.LateEffects.{late_effect}
use Rattle.gen1_machine.specs.SideEffects.{side_effect}
use Rattle.gen1_machine.specs.GoingOn.{trap}
use Rattle.gen1_machine.specs.Gate.{gate}
use Rattle.gen1_machine.specs.Action.{act}
use Rattle.gen1_machine.specs.SwitchingIn.{send_out}
use Rattle.gen1_machine.specs.Turn.{turn}
use Rattle.gen1_machine.proofs.Computing.{computing}
use Rattle.gen1_machine.proofs.WorkedRules.{tauros, knowing, facing, as_is, set, usual}

-- An active member with nearly all conditions, with something of its move underway, confused or not

abbrev under : Underway → Option ℕ → ActiveConditions
under u confused = record {
  underway = u;
  flinch = false;
  invulnerable = true;
  confused = confused;
  mist = true;
  focus_energy = true;
  substitute = Some 88;
  seeded = true;
  bad_poison = Some 7;
  light_screen = true;
  reflect = true;
  disabled = Some (record { slot = 2; turns = 5 });
}

abbrev is_under : Underway → Option ℕ → Active → Active
is_under u confused a = record a { conditions = under u confused }

-- What may be underway, one thing at a time. A count belongs to its condition

abbrev biding : Underway
biding = record nothing_underway { bide = Some (record { turns = 2; energy = 30 }) }

abbrev thrashing : Underway
thrashing = record nothing_underway { thrash = Some 2 }

abbrev trapping : Underway
trapping = record nothing_underway { trapping = Some 3 }

abbrev charging : Underway
charging = record nothing_underway { charging = true }

abbrev raging : Underway
raging = record nothing_underway { rage = true }

abbrev each_underway : List Underway
each_underway = biding ∷ thrashing ∷ trapping ∷ charging ∷ raging ∷ []

-- Full paralysis (docs/MECHANICS.md, "Conditions") ends Bide, Thrash, Trapping and Charging. It ends neither Rage nor
-- anything else. Before it the gate has counted Disable down

abbrev paralysed : Member
paralysed = record tauros { status = Paralysed }

abbrev after_paralysis : Underway → ActiveConditions
after_paralysis u = conditions One (gate One Continue (facing paralysed (is_under u None) tauros as_is (Sweep 62)))

abbrev left_by_paralysis : Underway → ActiveConditions
left_by_paralysis u = record (under u None) { disabled = Some (record { slot = 2; turns = 4 }) }

paralysis_ends : map after_paralysis each_underway
    ≡ map left_by_paralysis (nothing_underway ∷ nothing_underway ∷ nothing_underway ∷ nothing_underway ∷ raging ∷ [])
unfolding computing
paralysis_ends = refl

-- A hit on itself (docs/MECHANICS.md, "Conditions") ends the same conditions, and Invulnerable. It takes one turn of
-- the confusion

abbrev after_own_hit : Underway → ActiveConditions
after_own_hit u = conditions One (gate One Continue (facing tauros (is_under u (Some 3)) tauros as_is (Sweep 128)))

abbrev left_by_own_hit : Underway → ActiveConditions
left_by_own_hit u = record (under u (Some 2)) { invulnerable = false; disabled = Some (record { slot = 2; turns = 4 }) }

own_hit_ends : map after_own_hit each_underway
    ≡ map left_by_own_hit (nothing_underway ∷ nothing_underway ∷ nothing_underway ∷ nothing_underway ∷ raging ∷ [])
unfolding computing
own_hit_ends = refl

-- Haze (docs/MECHANICS.md, "Conditions") leaves both sides what is underway, Invulnerable and the Substitute

abbrev after_haze_of_two : Progress
after_haze_of_two = early_effect One (move_at 114) effects.Haze
    (facing tauros (is_under raging (Some 3)) tauros (is_under trapping (Some 4)) (Sweep 0))

abbrev left_by_haze : Underway → ActiveConditions
left_by_haze u = record no_conditions { underway = u; invulnerable = true; substitute = Some 88 }

haze_ends : (conditions One after_haze_of_two ≡ left_by_haze raging) × (conditions Two after_haze_of_two ≡ left_by_haze trapping)
unfolding computing
haze_ends = (refl, refl)

-- A switch (docs/MECHANICS.md, "Conditions") ends all conditions, and the foe's Trapping

abbrev after_switch : Progress
after_switch = send_out Two 1 (facing tauros (is_under trapping None) tauros (is_under raging (Some 4)) (Sweep 0))

switch_ends : (conditions Two after_switch ≡ no_conditions) × (conditions One after_switch ≡ under nothing_underway None)
unfolding computing
switch_ends = (refl, refl)

-- Counts that reach 0 (docs/MECHANICS.md, "Conditions"): those of Disable and confusion do in the gate, without a
-- draw. That of Trapping stays 0 until the end of the turn

abbrev at_their_last : ActiveConditions → ActiveConditions
at_their_last c = record c { confused = Some 1; disabled = Some (record { slot = 2; turns = 1 }) }

abbrev past_the_gate : Progress
past_the_gate = gate One (Use (Slot 1)) (facing tauros (set at_their_last) tauros as_is (Sweep 255))

counts_of_the_gate : (conditions One past_the_gate ≡ no_conditions) × (past_the_gate.drawn ≡ 0)
unfolding computing
counts_of_the_gate = (refl, refl)

abbrev wrapping : Progress
wrapping = facing (knowing 35 20) (λ a. record a { current_move = Slot 1; conditions = with_trapping 1 a.conditions }) tauros as_is (Sweep 0)

count_of_trapping : ((underway One (act usual One Continue wrapping)).trapping ≡ Some 0)
    × ((underway One (turn usual (choices.Move 0) (choices.Move 0) wrapping)).trapping ≡ None)
unfolding computing
count_of_trapping = (refl, refl)

-- Recharge (docs/MECHANICS.md, "Conditions") ends by the gate, and by the foe's trapping move, flinch, freeze or
-- sleep move. Here they are Wrap, Bite and Ice Beam at draws of 25, and Spore

abbrev after_recharging : (Phase) → Bool
after_recharging f = (underway Two (f (facing tauros as_is tauros (set with_recharge) (Sweep 25)))).recharge

recharge_ends : after_recharging (λ p. p) ∷ after_recharging (gate Two Continue) ∷ after_recharging (trap One)
    ∷ after_recharging (side_effect usual One (move_at 44) (effects.FlinchChance 26)) ∷ after_recharging (side_effect usual One (move_at 58) effects.FreezeChance)
    ∷ after_recharging (late_effect usual One (move_at 147) effects.InflictSleep) ∷ []
    ≡ true ∷ false ∷ false ∷ false ∷ false ∷ false ∷ []
unfolding computing
recharge_ends = refl

-- Seeded (docs/MECHANICS.md, "Conditions") ends by the member's own explosion

seed_ends_by_explosion : (conditions One (act usual One (Use (Slot 1)) (facing (knowing 153 5) (set with_seed) tauros as_is (Sweep 0)))).seeded ≡ false
unfolding computing
seed_ends_by_explosion = refl
