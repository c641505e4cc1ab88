-- Worked examples: moves that deal damage, and moves with rules of their own (docs/PROOFS.md, "Worked examples").
use Rattle.std.proofs.Common.{Bool, List, None, [], false, refl, replicate, true, ℕ, ◌∷◌, ◌≡◌, Some, map}
use Rattle.gen1_machine.specs.declared.side.Side.{Side}
use Rattle.gen1_machine.specs.declared.side.Side.TheVariants.{One, Two}
use Rattle.gen1_machine.specs.declared.event.Who.{Who}
use Rattle.gen1_machine.specs.declared.event.Event.{Event}
use Rattle.gen1_machine.specs.declared.side.UsedMove.TheVariants.{Slot, Struggle}
use Rattle.gen1_machine.specs.declared.side.Pick.TheVariants.{Use, Continue, Idle, Held}
use Rattle.gen1_rolls.specs.Streams.{Stream, Link, Sweep}
use Rattle.gen1_stats.specs.Members.{Member}
use Rattle.gen1_machine.specs.Health.{Health}
use Rattle.gen1_machine.specs.Conditions.{with_light_screen, with_reflect, with_substitute, with_confusion, with_rage, with_recharge, with_thrash, with_trapping}
use Rattle.gen1_machine.specs.Damage.{numbers_in}
use Rattle.gen1_machine.specs.Moves.{move_at}
use Rattle.gen1_machine.specs.State.{known_in, Active, with_picked_move}
use Rattle.gen1_machine.specs.Progress.{active, member, underway, is_invulnerable, Progress, conditions, set_last_damage}
use Rattle.gen1_machine.specs.Action.{act, gate_or_held}
use Rattle.gen1_machine.proofs.Computing.{computing}
use Rattle.gen1_machine.proofs.WorkedRules.{tauros, knowing, facing, as_is, set, usual, hp_of}
use Rattle.gen1_tables.specs.declared.effect.Stat.TheVariants.{Attack}
use Rattle.gen1_stats.specs.declared.member.Status.TheVariants.{Asleep, Frozen}
use Rattle.gen1_machine.specs.declared.side.Pick.{Pick}
use Rattle.gen1_machine.specs.Picks.{pick_in}
use Rattle.gen1_machine.specs.Gate.{gate}
use Rattle.gen1_machine.specs.SideEffects.{side_effect}
use Rattle.gen1_machine.specs.declared.event.Kind.TheVariants as kinds
use Rattle.gen1_machine.specs.declared.event.DamageSource.TheVariants as sources
use Rattle.gen1_machine.specs.declared.event.Volatile.TheVariants as volatiles
use Rattle.gen1_machine.specs.declared.event.Event.TheVariants as events
use Rattle.gen1_tables.specs.declared.effect.Effect.TheVariants as effects
use Rattle.gen1_machine.specs.declared.event.CantReason.TheVariants as reasons

-- Worked examples: moves that deal damage (docs/PROOFS.md, "Worked examples").

-- Events of two Tauros

abbrev pub tauros_of : Side → Who
tauros_of s = record { side = s; species = 128 }

abbrev pub healthy_at : ℕ → Health
healthy_at hp = record { hp = hp; max = 353; kind = None }

abbrev pub hurt : Side → ℕ → Event
hurt s hp = events.Damage (tauros_of s) (healthy_at hp) sources.Direct

abbrev pub moves : ℕ → Event
moves move = events.Move (tauros_of One) move (tauros_of Two)

-- Link numbers with given first numbers.
abbrev pub drawing : ℕ → ℕ → ℕ → ℕ → ℕ → Stream
drawing a b c d e = Link (a ∷ b ∷ c ∷ d ∷ e ∷ replicate 5 0)

-- Side 1 uses its only move. The draws 255, 255 and 0 give no critical hit, the factor 255, and a hit

abbrev pub uses : ℕ → Member → (Active → Active) → ℕ → ℕ → Progress
uses move foe change d e = act usual One (Use (Slot 1)) (facing (knowing move 10) as_is foe change (drawing 255 255 0 d e))

abbrev pub left_with : ℕ → Member
left_with hp = record tauros { hp = hp }

-- Damage numbers (docs/MECHANICS.md, "Damage numbers"): level, attack and defense. If one is above 255 both are
-- divided by 4, and their low bytes count. Reflect doubles 288 to 576, and Light Screen 238 to 476. It doubles 999 to
-- 1998, a quarter of which is 499, with the low byte 243

abbrev with_attack_stage : ℕ → Active → Active
with_attack_stage n a = record a { stages = record a.stages { attack = n } }

abbrev fitted : Bool → ℕ → Member → (Active → Active) → Member → (Active → Active) → List ℕ
fitted critical move user change foe changed =
    let n = numbers_in One (move_at move) critical (facing user change foe changed (drawing 0 0 0 0 0)).field in
    n.level ∷ n.attack ∷ n.defense ∷ []

screens_double : (fitted false 70 tauros as_is tauros as_is ≡ 100 ∷ 74 ∷ 72 ∷ []) × (fitted false 57 tauros as_is tauros as_is ≡ 100 ∷ 238 ∷ 238 ∷ [])
    × (fitted false 70 tauros as_is tauros (set with_reflect) ≡ 100 ∷ 74 ∷ 144 ∷ [])
    × (fitted false 57 tauros as_is tauros (set with_light_screen) ≡ 100 ∷ 59 ∷ 119 ∷ [])
    × (fitted false 70 tauros as_is (record tauros { defense = 999 }) (set with_reflect) ≡ 100 ∷ 74 ∷ 243 ∷ [])
unfolding computing
screens_double = (refl, refl, refl, refl, refl)

-- A critical hit takes the own stats, twice the level and no screen. With an attack of 3 and a defense of 288, the
-- attack becomes 1. With a defense of 3 and an attack of 298, the defense becomes 0.
critical_takes_own_stats : (fitted true 70 tauros (with_attack_stage 12) tauros (set with_reflect) ≡ 200 ∷ 74 ∷ 72 ∷ [])
    × (fitted false 70 tauros (with_attack_stage 12) tauros as_is ≡ 100 ∷ 249 ∷ 72 ∷ [])
    × (fitted false 70 (record tauros { attack = 3 }) as_is tauros as_is ≡ 100 ∷ 1 ∷ 72 ∷ [])
    × (fitted false 70 tauros as_is (record tauros { defense = 3 }) as_is ≡ 100 ∷ 74 ∷ 0 ∷ [])
unfolding computing
critical_takes_own_stats = (refl, refl, refl, refl)

-- A row of 0 (docs/MECHANICS.md, "Types"): the move misses the Ghost, which is reported as immune. The draws of the
-- critical hit and the hit test are made, and none for the factor

abbrev on_a_ghost : Progress
on_a_ghost = uses 70 (record tauros { species = 94 }) as_is 0 0

abbrev ghost : Who
ghost = record { side = Two; species = 94 }

immune_ghost : (on_a_ghost.events ≡ events.Move (tauros_of One) 70 ghost ∷ events.Immune ghost ∷ []) × (on_a_ghost.drawn ≡ 2)
unfolding computing
immune_ghost = (refl, refl)

-- Many hits (docs/MECHANICS.md, "Many hits"). Double Slap: 42 * 15 * 74 / 72 is 647, / 50 is 12, + 2 is 14, and 21
-- for the user's own type. A count of 3 is drawn again and gives 2, so there are four hits of 21. Their number is
-- reported once

abbrev slaps : Member → (Active → Active) → ℕ → ℕ → Progress
slaps foe change = uses 3 foe change

four_slaps : ((slaps tauros as_is 3 2).events
    ≡ moves 3 ∷ hurt Two 332 ∷ hurt Two 311 ∷ hurt Two 290 ∷ hurt Two 269 ∷ events.HitCount (tauros_of Two) 4 ∷ [])
    × ((slaps tauros as_is 3 2).drawn ≡ 5)
unfolding computing
four_slaps = (refl, refl)

-- Two to five hits: a draw of 0 or 1 is kept, and one of 2 or 3 is drawn again

abbrev hits_by : ℕ → ℕ → ℕ
hits_by d e = (slaps tauros as_is d e).action.hits_made

numbers_of_slaps : hits_by 0 3 ∷ hits_by 1 3 ∷ hits_by 2 0 ∷ hits_by 2 1 ∷ hits_by 3 2 ∷ hits_by 3 3 ∷ []
    ≡ 2 ∷ 3 ∷ 2 ∷ 3 ∷ 4 ∷ 5 ∷ []
unfolding computing
numbers_of_slaps = refl

-- A fall ends the hits. With 30 HP left, the second hit takes 9. With 10 HP left, the first takes all of them, and
-- the count is drawn nonetheless.
felled_by_slaps : ((slaps (left_with 30) as_is 3 2).events ≡ moves 3 ∷ hurt Two 9 ∷ hurt Two 0 ∷ events.HitCount (tauros_of Two) 2 ∷ [])
    × ((slaps (left_with 10) as_is 3 2).events ≡ moves 3 ∷ hurt Two 0 ∷ events.HitCount (tauros_of Two) 1 ∷ [])
    × ((slaps (left_with 10) as_is 3 2).drawn ≡ 5)
unfolding computing
felled_by_slaps = (refl, refl, refl)

-- A substitute that breaks ends the hits too. One of 30 HP breaks at the second hit. One of 20 HP breaks at the
-- first, and then no count is drawn or reported

abbrev slaps_substitute : ℕ → Progress
slaps_substitute hp = slaps tauros (set (with_substitute hp)) 3 2

slaps_on_substitute : ((slaps_substitute 30).events ≡ moves 3 ∷ events.Activate (tauros_of Two) volatiles.Substitute
    ∷ events.End (tauros_of Two) volatiles.Substitute ∷ events.HitCount (tauros_of Two) 2 ∷ [])
    × ((slaps_substitute 20).events ≡ moves 3 ∷ events.End (tauros_of Two) volatiles.Substitute ∷ [])
    × ((slaps_substitute 20).drawn ≡ 3)
unfolding computing
slaps_on_substitute = (refl, refl, refl)

-- Double Kick: 42 * 30 * 74 / 72 is 1295, / 50 is 25, + 2 is 27, and 54 for Fighting on Normal.
two_kicks : ((uses 24 tauros as_is 0 0).events ≡ moves 24 ∷ events.SuperEffective (tauros_of Two) ∷ hurt Two 299 ∷ hurt Two 245
    ∷ events.HitCount (tauros_of Two) 2 ∷ [])
    × ((uses 24 tauros as_is 0 0).drawn ≡ 3)
unfolding computing
two_kicks = (refl, refl)

-- Twineedle: 42 * 25 * 74 / 72 is 1079, / 50 is 21, + 2 is 23. Then a draw of 51 poisons, and 52 doesn't.
two_needles : ((uses 41 tauros as_is 51 0).events ≡ moves 41 ∷ hurt Two 330 ∷ hurt Two 307 ∷ events.HitCount (tauros_of Two) 2
    ∷ events.Status (tauros_of Two) kinds.Poison ∷ [])
    × ((uses 41 tauros as_is 52 0).events ≡ moves 41 ∷ hurt Two 330 ∷ hurt Two 307 ∷ events.HitCount (tauros_of Two) 2 ∷ [])
unfolding computing
two_needles = (refl, refl)

-- Charging (docs/MECHANICS.md, "Charging"): Razor Wind and Dig, in their first turn and in both turns

abbrev charges : ℕ → Progress
charges move = uses move tauros as_is 0 0

abbrev strikes : ℕ → Progress
strikes move = act usual One Continue (charges move)

abbrev pp_left : Progress → ℕ
pp_left p = (known_in 1 (member One p).moves).pp

-- The first turn writes only Prepare, and costs neither a draw nor PP.
begins_to_charge : ((charges 13).events ≡ events.Prepare (tauros_of One) 13 ∷ []) × ((charges 13).drawn ∷ pp_left (charges 13) ∷ [] ≡ 0 ∷ 10 ∷ [])
    × ((active One (charges 13)).current_move ≡ Slot 1)
    × ((underway One (charges 13)).charging ∷ is_invulnerable One (charges 13) ∷ (underway One (charges 91)).charging
    ∷ is_invulnerable One (charges 91) ∷ [] ≡ true ∷ false ∷ true ∷ true ∷ [])
unfolding computing
begins_to_charge = (refl, refl, refl, refl)

-- Razor Wind: 42 * 80 * 74 / 72 is 3453, / 50 is 69, + 2 is 71, and 106 for the user's own type. Dig: 42 * 100 * 74 /
-- 72 is 4316, / 50 is 86, + 2 is 88.
charged_up : ((strikes 13).events ≡ events.Prepare (tauros_of One) 13 ∷ moves 13 ∷ hurt Two 247 ∷ [])
    × ((strikes 13).drawn ∷ pp_left (strikes 13) ∷ [] ≡ 3 ∷ 9 ∷ [])
    × ((strikes 91).events ≡ events.Prepare (tauros_of One) 91 ∷ moves 91 ∷ hurt Two 265 ∷ [])
    × ((underway One (strikes 13)).charging ∷ (underway One (strikes 91)).charging ∷ is_invulnerable One (strikes 91) ∷ []
    ≡ false ∷ false ∷ false ∷ [])
unfolding computing
charged_up = (refl, refl, refl, refl)

-- Recoil (docs/MECHANICS.md, "Recoil, drain and explosion"). Take Down: 42 * 90 * 74 / 72 is 3885, / 50 is 77, + 2 is
-- 79, and 118 for the user's own type. A quarter of 118 is 29. If the foe had 10 HP the recoil is 2, and if it had 3
-- it is 1

abbrev recoils_to : ℕ → Event
recoils_to hp = events.Damage (tauros_of One) (healthy_at hp) sources.Recoil

take_down : ((uses 36 tauros as_is 0 0).events ≡ moves 36 ∷ hurt Two 235 ∷ recoils_to 324 ∷ [])
    × ((uses 36 (left_with 10) as_is 0 0).events ≡ moves 36 ∷ hurt Two 0 ∷ recoils_to 351 ∷ [])
    × ((uses 36 (left_with 3) as_is 0 0).events ≡ moves 36 ∷ hurt Two 0 ∷ recoils_to 352 ∷ [])
    × ((uses 36 tauros (set (with_substitute 200)) 0 0).events ≡ moves 36 ∷ events.Activate (tauros_of Two) volatiles.Substitute ∷ recoils_to 324 ∷ [])
    × ((uses 36 tauros (set (with_substitute 20)) 0 0).events ≡ moves 36 ∷ events.End (tauros_of Two) volatiles.Substitute ∷ [])
unfolding computing
take_down = (refl, refl, refl, refl, refl)

-- Struggle's recoil is half: 5 for 10 HP.
struggled : (act usual One (Use Struggle) (facing tauros as_is (left_with 10) as_is (drawing 255 255 0 0 0))).events
    ≡ moves 165 ∷ hurt Two 0 ∷ recoils_to 348 ∷ []
unfolding computing
struggled = refl

-- Counter (docs/MECHANICS.md, "Counter"): a last damage of 60 becomes 120 if the foe picked a Normal or Fighting move
-- of some power. Otherwise Counter misses, after its critical draw, and the last damage stays

abbrev counters : ℕ → ℕ → Progress
counters move damage = act usual One (Use (Slot 1))
    (set_last_damage damage (facing (knowing 68 20) as_is (knowing move 10) (with_picked_move (Slot 1)) (drawing 255 0 0 0 0)))

countered : ((counters 70 60).events ≡ moves 68 ∷ hurt Two 233 ∷ []) × ((counters 24 60).events ≡ moves 68 ∷ hurt Two 233 ∷ [])
    × ((counters 57 60).events ≡ moves 68 ∷ events.Miss (tauros_of One) ∷ []) × (hp_of Two (counters 45 60) ∷ hp_of Two (counters 70 0) ∷ [] ≡ 353 ∷ 353 ∷ [])
    × ((counters 70 60).drawn ∷ (counters 57 60).drawn ∷ (counters 57 60).field.last_damage ∷ [] ≡ 2 ∷ 1 ∷ 60 ∷ [])
unfolding computing
countered = (refl, refl, refl, refl, refl)

-- Fixed damage (docs/MECHANICS.md, "Fixed damage and one-hit moves"): Seismic Toss and Night Shade at level 100, also
-- on a Ghost, Sonic Boom, Dragon Rage, and Super Fang. Half of 353 is 176. Each takes the draw of its hit test

abbrev dealt_to : Member → ℕ → ℕ
dealt_to foe move = hp_of Two (act usual One (Use (Slot 1)) (facing (knowing move 10) as_is foe as_is (Sweep 0)))

fixed_damages : map (dealt_to tauros) (69 ∷ 101 ∷ 49 ∷ 82 ∷ 162 ∷ []) ≡ 253 ∷ 253 ∷ 333 ∷ 313 ∷ 177 ∷ []
unfolding computing
fixed_damages = refl

fixed_damage_on_a_ghost : dealt_to (record tauros { species = 94 }) 69 ≡ 253
unfolding computing
fixed_damage_on_a_ghost = refl

-- Guillotine takes all HP, and breaks any Substitute. With a slower user it misses after the critical draw

abbrev slower_guillotine : Progress
slower_guillotine = act usual One (Use (Slot 1)) (facing (record (knowing 12 5) { speed = 317 }) as_is tauros as_is (drawing 255 255 0 0 0))

guillotine : ((uses 12 tauros as_is 0 0).events ≡ moves 12 ∷ hurt Two 0 ∷ events.OneHitKnockOut ∷ []) × ((uses 12 tauros as_is 0 0).drawn ≡ 3)
    × ((uses 12 tauros (set (with_substitute 249)) 0 0).events
    ≡ moves 12 ∷ events.End (tauros_of Two) volatiles.Substitute ∷ events.OneHitKnockOut ∷ [])
    × (slower_guillotine.events ≡ moves 12 ∷ events.Miss (tauros_of One) ∷ []) × (slower_guillotine.drawn ≡ 1)
unfolding computing
guillotine = (refl, refl, refl, refl, refl)

-- Confusion (docs/MECHANICS.md, "Hit on itself"): 42 * 40 * 74 / 72 is 1726, / 50 is 34, + 2 is 36. The member hits
-- itself at a draw of 128, and not at 127. If it has a Substitute, the foe's Substitute takes the hit: 52 of 88 are
-- left

abbrev confused_by_draw : (Active → Active) → (Active → Active) → ℕ → Progress
confused_by_draw change foe b = gate One (Use (Slot 1)) (facing tauros change tauros foe (Sweep b))

abbrev hits_itself : ℕ → Progress
hits_itself = confused_by_draw (set (with_confusion 3)) as_is

abbrev is_confused_still : Event
is_confused_still = events.Activate (tauros_of One) volatiles.Confusion

hit_on_itself : ((hits_itself 128).events ≡ is_confused_still ∷ events.Damage (tauros_of One) (healthy_at 317) sources.Confusion ∷ [])
    × ((hits_itself 128).stopped ∷ (hits_itself 127).stopped ∷ [] ≡ true ∷ false ∷ []) × ((hits_itself 127).events ≡ is_confused_still ∷ [])
    × ((conditions One (hits_itself 127)).confused ≡ Some 2)
    × ((confused_by_draw (set (with_confusion 1)) as_is 128).events ≡ events.End (tauros_of One) volatiles.Confusion ∷ [])
unfolding computing
hit_on_itself = (refl, refl, refl, refl, refl)

abbrev hits_substitute : Progress
hits_substitute = confused_by_draw (set λ c. with_substitute 5 (with_confusion 3 c)) (set (with_substitute 88)) 128

hit_on_the_foes_substitute : (hits_substitute.events ≡ is_confused_still ∷ events.Activate (tauros_of Two) volatiles.Substitute ∷ [])
    × ((conditions One hits_substitute).substitute ≡ Some 5) × ((conditions Two hits_substitute).substitute ≡ Some 52)
    × (hp_of One hits_substitute ∷ hits_substitute.field.last_damage ∷ [] ≡ 353 ∷ 36 ∷ [])
unfolding computing
hit_on_the_foes_substitute = (refl, refl, refl, refl)

-- Thrash (docs/MECHANICS.md, "Going on"): the first action draws (255 & 1) + 2 turns. The last draws (3 & 3) + 2
-- turns of confusion, and costs no PP. A power of 90 deals 118, as Take Down above

abbrev thrashes : Pick → (Active → Active) → ℕ → Progress
thrashes pick change first = act usual One pick (facing (knowing 37 10) change tauros as_is (drawing first 255 255 0 0))

abbrev thrashing : ℕ → ℕ → Active → Active
thrashing turns kept a = record a { current_move = Slot 1; kept_accuracy = kept; conditions = with_thrash turns a.conditions }

abbrev first_thrash : Progress
first_thrash = thrashes (Use (Slot 1)) as_is 255

abbrev last_thrash : Progress
last_thrash = thrashes Continue (thrashing 1 255) 3

thrash : (first_thrash.events ≡ moves 37 ∷ hurt Two 235 ∷ []) × ((underway One first_thrash).thrash ≡ Some 3)
    × (last_thrash.events ≡ moves 37 ∷ events.Start (tauros_of One) volatiles.Confusion ∷ hurt Two 235 ∷ [])
    × ((underway One last_thrash).thrash ≡ None) × ((conditions One last_thrash).confused ≡ Some 5)
    × (pp_left first_thrash ∷ pp_left last_thrash ∷ [] ≡ 9 ∷ 10 ∷ [])
unfolding computing
thrash = (refl, refl, refl, refl, refl, refl)

-- Kept accuracy (docs/MECHANICS.md, "Kept accuracy"): at accuracy -6 a quarter of 255 is 63, and in the next action a
-- quarter of that is 15. When Thrash ends, nothing is kept

abbrev aiming_badly : Active → Active
aiming_badly a = record a { stages = record a.stages { accuracy = 0 } }

abbrev kept : Progress → ℕ
kept p = (active One p).kept_accuracy

abbrev thrashes_on : ℕ → Progress
thrashes_on turns = act usual One Continue
    (facing (knowing 37 10) (λ a. thrashing turns 63 (aiming_badly a)) tauros as_is (drawing 255 255 0 0 0))

accuracy_is_kept : kept (thrashes (Use (Slot 1)) aiming_badly 255) ∷ kept (thrashes_on 2) ∷ kept last_thrash ∷ [] ≡ 63 ∷ 15 ∷ 0 ∷ []
unfolding computing
accuracy_is_kept = refl

-- Bide (docs/MECHANICS.md, "Going on"): an energy of 30 and a last damage of 40 let out 140. With two turns left, 70
-- are stored. Twice 32768 is 0, which is a miss

abbrev bides : ℕ → ℕ → ℕ → Progress
bides turns energy damage = act usual One Continue (set_last_damage damage (facing (knowing 117 10) (λ a. record a {
  current_move = Slot 1;
  conditions = record a.conditions { underway = record a.conditions.underway { bide = Some (record { turns = turns; energy = energy }) } };
}) tauros as_is (Sweep 0)))

abbrev bide_ends : Event
bide_ends = events.End (tauros_of One) volatiles.Bide

bide : ((bides 1 30 40).events ≡ bide_ends ∷ hurt Two 213 ∷ []) × ((bides 1 30 40).drawn ≡ 0)
    × ((bides 2 30 40).events ≡ events.Activate (tauros_of One) volatiles.Bide ∷ [])
    × ((underway One (bides 2 30 40)).bide ≡ Some (record { turns = 1; energy = 70 }))
    × ((bides 1 32768 0).events ≡ bide_ends ∷ events.Miss (tauros_of One) ∷ [])
unfolding computing
bide = (refl, refl, refl, refl, refl)

-- Rage (docs/MECHANICS.md, "Going on"): 42 * 20 * 74 / 72 is 863, / 50 is 17, + 2 is 19, and 28 for the user's own
-- type. Strength's 106 builds it.
rage : ((uses 99 tauros as_is 0 0).events ≡ moves 99 ∷ hurt Two 325 ∷ events.Start (tauros_of One) volatiles.Rage ∷ [])
    × ((uses 70 tauros (set with_rage) 0 0).events ≡ moves 70 ∷ hurt Two 247 ∷ events.Boost (tauros_of Two) Attack 1 ∷ [])
    × ((uses 70 (left_with 5) (set with_rage) 0 0).events ≡ moves 70 ∷ hurt Two 0 ∷ [])
unfolding computing
rage = (refl, refl, refl)

-- Picks (docs/MECHANICS.md, "Picks")

abbrev picked_move : ℕ → Member → (Active → Active) → (Active → Active) → Pick
picked_move k m change foe = pick_in k One (facing m change tauros foe (Sweep 0)).field

picks : (picked_move 2 tauros as_is as_is ≡ Use (Slot 2)) × (picked_move 0 tauros (set with_recharge) as_is ≡ Continue)
    × (picked_move 0 (record tauros { status = Asleep 3 false }) as_is (set (with_trapping 3)) ≡ Idle) × (picked_move 0 tauros as_is (set (with_trapping 0)) ≡ Held)
    × (picked_move 0 tauros as_is as_is ≡ Use Struggle)
unfolding computing
picks = (refl, refl, refl, refl, refl)

-- A side that is held takes no test.
held : (gate_or_held One Held (facing (record tauros { status = Asleep 3 false }) as_is tauros as_is (Sweep 0))).events
    ≡ events.Cant (tauros_of One) reasons.PartiallyTrapped ∷ []
unfolding computing
held = refl

-- A burn (docs/MECHANICS.md, "Side effects"): Flamethrower burns at a draw of 25, and not at 26. It thaws without a
-- draw

abbrev flames : Member → ℕ → Progress
flames foe b = side_effect usual One (move_at 53) (effects.BurnChance 26) (facing tauros as_is foe as_is (Sweep b))

burn_or_thaw : ((flames tauros 25).events ≡ events.Status (tauros_of Two) kinds.Burn ∷ []) × ((flames tauros 26).events ≡ [])
    × ((flames (record tauros { status = Frozen }) 25).events ≡ events.Cure (tauros_of Two) kinds.Freeze ∷ [])
    × ((flames tauros 26).drawn ∷ (flames (record tauros { status = Frozen }) 25).drawn ∷ [] ≡ 1 ∷ 0 ∷ [])
unfolding computing
burn_or_thaw = (refl, refl, refl, refl)
