-- Worked examples: bounds, branches that battles rarely or never enter, and events (docs/PROOFS.md, "Worked examples").
use Rattle.std.proofs.Common.{Bool, None, Option, Some, [], false, map, refl, true, ℕ, ◌*◌, ◌∷◌, ◌≡◌, List, ◌++◌}
use Rattle.gen1_tables.specs.declared.types.Element.TheVariants.{Normal, Ghost, Fire, Water, Grass, Electric, Psychic, Ice, Dragon}
use Rattle.gen1_tables.specs.declared.effect.Stat.TheVariants.{Attack, Defense, Accuracy, Evasion}
use Rattle.gen1_stats.specs.declared.member.Status.{Status}
use Rattle.gen1_stats.specs.declared.member.Status.TheVariants.{Healthy, Poisoned, Paralysed, Asleep, Burned}
use Rattle.gen1_machine.specs.declared.side.Side.TheVariants.{One, Two}
use Rattle.gen1_machine.specs.declared.event.Who.{Who}
use Rattle.gen1_machine.specs.declared.side.UsedMove.TheVariants.{Nothing, Slot}
use Rattle.gen1_machine.specs.declared.side.Pick.{Pick}
use Rattle.gen1_machine.specs.declared.side.Pick.TheVariants.{Use, Continue, Idle, Held}
use Rattle.gen1_tables.specs.Types.{is_special}
use Rattle.gen1_tables.specs.Species.{species_row}
use Rattle.gen1_tables.specs.Moves.{move_row}
use Rattle.gen1_rolls.specs.Streams.{byte_at, span, Drawn, Stream, Sweep}
use Rattle.gen1_stats.specs.Members.{Member}
use Rattle.gen1_machine.specs.Conditions.{energy_with, no_conditions, with_bide_storing, with_confusion, with_disable_one_less, with_disabled, with_flinch, with_invulnerability, with_recharge, with_reflect, with_substitute_hurt, with_thrash_one_less, with_trapping, with_mist, with_rage, with_seed, with_substitute, ActiveConditions}
use Rattle.gen1_machine.specs.State.{first_state, level_stages, member_at, usual_terms, with_current_move, with_party, with_sleep_one_less, Active}
use Rattle.gen1_machine.specs.CurrentStats.{penalties_of, stage_of, unmodified}
use Rattle.gen1_machine.specs.Moves.{is_often_critical, move_at}
use Rattle.gen1_machine.specs.Progress.{active, conditions, gain_hp, lose_hp, status_of, stay, underway, Progress}
use Rattle.gen1_machine.specs.CriticalHits.{critical_bound}
use Rattle.gen1_machine.specs.Damage.{before_types, fitted_attack, fitted_defense}
use Rattle.gen1_machine.specs.HitTest.{hit_test, scaled}
use Rattle.gen1_machine.specs.Landing.{breaks}
use Rattle.gen1_machine.specs.HitOnItself.{hurt_itself}
use Rattle.gen1_machine.specs.Gate.{gate}
use Rattle.gen1_machine.specs.ResidualDamage.{residual}
use Rattle.gen1_machine.specs.StageShift.{lower_stage}
use Rattle.gen1_machine.specs.EarlyEffects.{early_effect}
use Rattle.gen1_machine.specs.LateEffects.{late_effect, lower_foes_stat}
use Rattle.gen1_machine.specs.SideEffects.{side_effect}
use Rattle.gen1_machine.specs.GoingOn.{thrash_less}
use Rattle.gen1_machine.specs.FixedDamage.{deal_fixed}
use Rattle.gen1_machine.specs.Counter.{counter_by}
use Rattle.gen1_machine.specs.ManyHits.{hits_left}
use Rattle.gen1_machine.specs.Action.{act, damage_of, see_if_going_on}
use Rattle.gen1_machine.specs.Turn.{play_turn, turn}
use Rattle.gen1_machine.specs.Step.{is_among, close_update}
use Rattle.gen1_machine.proofs.Computing.{computing}
use Rattle.gen1_machine.proofs.WorkedRules.{tauros, knowing, facing, as_is, set, usual}
use Rattle.gen1_machine.proofs.WorkedMoves.{tauros_of, drawing, left_with, healthy_at, hurt, moves}
use Rattle.gen1_machine.specs.declared.event.Event.{Event}
use Rattle.gen1_machine.specs.Health.{Health}
use Rattle.gen1_tables.specs.declared.effect.Effect.TheVariants as effects
use Rattle.gen1_machine.specs.declared.terms.Outcome.TheVariants as outcomes
use Rattle.gen1_machine.specs.declared.event.CantReason.TheVariants as reasons
use Rattle.gen1_machine.specs.declared.event.DamageSource.TheVariants as sources
use Rattle.gen1_machine.specs.declared.event.Event.TheVariants as events
use Rattle.gen1_machine.specs.declared.side.Choice.TheVariants as choices
use Rattle.gen1_machine.specs.declared.event.Kind.TheVariants as kinds
use Rattle.gen1_machine.specs.declared.event.Volatile.TheVariants as volatiles

-- Two Tauros that face each other, with given draws

abbrev face_to_face : Stream → Progress
face_to_face = facing tauros as_is tauros as_is

abbrev foe_under : (Active → Active) → Stream → Progress
foe_under change = facing tauros as_is tauros change

-- Streams (docs/MECHANICS.md, "Link numbers"): any other stream is the bytes that are drawn, and a number of draws
-- that hold every byte.
any_stream : byte_at (Drawn (λ n. 3 * n) 7) 5 ∷ span (Drawn (λ n. 3 * n) 7) ∷ [] ≡ 15 ∷ 7 ∷ []
unfolding computing
any_stream = refl

-- The tables past their ends (docs/TABLES.md): 151 species, 165 moves, and a list of members

behind_the_tables : (species_row 152 ≡ record {
  first_type = Normal;
  second_type = Normal;
  hp = 0;
  attack = 0;
  defense = 0;
  speed = 0;
  special = 0;
}) × (move_row 166 ≡ record { kind = Normal; power = 0; accuracy = 0; pp = 0; effect = effects.DamageOnly })
unfolding computing
behind_the_tables = (refl, refl)

behind_the_members : member_at 2 (face_to_face (Sweep 0)).field.one
    ≡ record { species = 0; level = 0; max = 0; hp = 0; attack = 0; defense = 0; speed = 0; special = 0; status = Healthy; moves = [] }
unfolding computing
behind_the_members = refl

-- Before the first update no member is out (docs/MECHANICS.md, "Teams").
nobody_is_out : (first_state usual_terms (tauros ∷ []) (tauros ∷ []) (1 ∷ [])).field.one.active ≡ record {
  place = 0;
  first_type = Normal;
  second_type = Normal;
  stages = level_stages;
  attack_penalties = 0;
  speed_penalties = 0;
  current_move = Nothing;
  picked_move = Nothing;
  kept_accuracy = 0;
  conditions = no_conditions;
}
unfolding computing
nobody_is_out = refl

-- Types whose damage is special (docs/MECHANICS.md, "Damage numbers").
special_types : map is_special (Fire ∷ Water ∷ Grass ∷ Electric ∷ Psychic ∷ Ice ∷ Dragon ∷ Ghost ∷ [])
    ≡ true ∷ true ∷ true ∷ true ∷ true ∷ true ∷ true ∷ false ∷ []
unfolding computing
special_types = refl

-- Accuracy and Evasion have stages only, and only Attack and Speed have penalties (docs/MECHANICS.md, "Stages",
-- "Penalties").
stages_alone : unmodified Accuracy tauros ∷ unmodified Evasion tauros ∷ penalties_of Defense (active One (face_to_face (Sweep 0))) ∷ []
    ≡ 0 ∷ 0 ∷ 0 ∷ []
unfolding computing
stages_alone = refl

abbrev evasion_falls : Progress
evasion_falls = lower_stage One Two Evasion 1 stay (face_to_face (Sweep 0))

evasion_has_no_number : (stage_of Evasion (active Two evasion_falls).stages ≡ 5)
    × (evasion_falls.events ≡ events.Unboost (tauros_of Two) Evasion 1 ∷ [])
unfolding computing
evasion_has_no_number = (refl, refl)

-- Damage numbers (docs/MECHANICS.md, "Damage numbers"): 255 fits a byte, and 256 doesn't. A quarter of 1024 is 256,
-- whose low byte is 0. An explosion halves a defense to at least 1: 42 * 1 * 50 / 50 is 42, + 2 is 44

abbrev exploding : ℕ → Option ℕ
exploding defense = before_types (record {
  level = 100;
  power = 1;
  attack = 50;
  defense = defense;
  kind = Normal;
  user_first = Normal;
  user_second = Normal;
  foe_first = Normal;
  foe_second = Normal;
  halved = true;
})

fitting : fitted_attack 255 100 ∷ fitted_attack 256 100 ∷ fitted_attack 1024 100 ∷ [] ≡ 255 ∷ 64 ∷ 0 ∷ []
unfolding computing
fitting = refl

fitting_defense : fitted_defense 100 255 ∷ fitted_defense 100 256 ∷ fitted_defense 100 1024 ∷ [] ≡ 255 ∷ 64 ∷ 0 ∷ []
unfolding computing
fitting_defense = refl

halved_defense : exploding 1 ∷ exploding 3 ∷ exploding 4 ∷ [] ≡ Some 44 ∷ Some 44 ∷ Some 23 ∷ []
unfolding computing
halved_defense = refl

-- A power of 1 deals damage: 42 * 1 * 74 / 72 is 43, / 50 is 0, + 2 is 2, and 3 for the user's own type. It stays 3
-- with the factor 255.
power_of_1 : (damage_of One (record (move_at 1) { power = 1 }) effects.DamageOnly (face_to_face (drawing 255 255 0 0 0))).field.last_damage ≡ 3
unfolding computing
power_of_1 = refl

-- Critical hits (docs/MECHANICS.md, "Critical hits"): the four moves with a high chance. The bound is at most 255: a
-- base Speed of 512, which no species has, gives 255, and half of that. Four times 150 is 600, which gives 255.
often_critical : map is_often_critical (2 ∷ 75 ∷ 152 ∷ 163 ∷ 1 ∷ []) ≡ true ∷ true ∷ true ∷ true ∷ false ∷ []
unfolding computing
often_critical = refl

critical_bounds : critical_bound 512 false false ∷ critical_bound 150 false true ∷ [] ≡ 127 ∷ 255 ∷ []
unfolding computing
critical_bounds = refl

-- The hit test (docs/MECHANICS.md, "Hit test"): the accuracy byte is at most 255, so a draw of 255 misses at any
-- stage. A settled miss counts as tested too.
accuracy_is_capped : scaled 255 (record level_stages { accuracy = 12 }) level_stages ∷ scaled 255 level_stages (record level_stages { evasion = 0 }) ∷ []
    ≡ 255 ∷ 255 ∷ []
unfolding computing
accuracy_is_capped = refl

abbrev tested_in_vain : Progress
tested_in_vain = hit_test One (move_at 37) 200 (foe_under (set with_invulnerability) (Sweep 0))

settled_miss : (tested_in_vain.action.accuracy_tested ≡ Some 200) × (tested_in_vain.action.missed ≡ true) × (tested_in_vain.drawn ≡ 0)
unfolding computing
settled_miss = (refl, refl, refl)

-- Landing (docs/MECHANICS.md, "Landing"): a Substitute holds against damage equal to its HP, and breaks by any damage
-- above 255.
substitutes_break : breaks 255 255 ∷ breaks 256 300 ∷ breaks 10 10 ∷ breaks 11 10 ∷ [] ≡ false ∷ true ∷ false ∷ true ∷ []
unfolding computing
substitutes_break = refl

-- A loss or a gain of 0 HP has no event (docs/MECHANICS.md, "Order of events").
nothing_lost : ((lose_hp One sources.Direct 0 (face_to_face (Sweep 0))).events ≡ [])
    × ((gain_hp One 0 (facing (left_with 10) as_is tauros as_is (Sweep 0))).events ≡ [])
unfolding computing
nothing_lost = (refl, refl)

-- A member that has fallen already takes no residual damage (docs/MECHANICS.md, "Residual damage").
fallen_suffers_nothing : (residual One (facing (record (left_with 0) { status = Poisoned }) as_is tauros as_is (Sweep 0))).events ≡ []
unfolding computing
fallen_suffers_nothing = refl

-- A condition that isn't on doesn't change (docs/MECHANICS.md, "Conditions").
nothing_to_count : map (λ change. change no_conditions) (with_thrash_one_less ∷ with_bide_storing 9 ∷ with_substitute_hurt 9 ∷ with_disable_one_less ∷ [])
    ≡ no_conditions ∷ no_conditions ∷ no_conditions ∷ no_conditions ∷ []
unfolding computing
nothing_to_count = refl

awake_already : with_sleep_one_less (record tauros { status = Poisoned }) ≡ record tauros { status = Poisoned }
unfolding computing
awake_already = refl

-- Bide's energy has 16 bits: 70000 is 4464 above 65536 (docs/MECHANICS.md, "Going on").
energy_starts_again : energy_with 40000 (record { turns = 2; energy = 30000 }) ≡ 4464
unfolding computing
energy_starts_again = refl

-- Counter's damage is at most 65535 (docs/MECHANICS.md, "Counter").
counter_is_capped : (counter_by One (move_at 68) 40000 (face_to_face (Sweep 0))).field.last_damage ≡ 65535
unfolding computing
counter_is_capped = refl

-- A move whose damage is the user's level (docs/MECHANICS.md, "Fixed damage and one-hit moves").
fixed_by_level : map (λ move. (deal_fixed One move (face_to_face (Sweep 0))).field.last_damage) (48 ∷ 49 ∷ 50 ∷ []) ≡ 100 ∷ 20 ∷ 100 ∷ []
unfolding computing
fixed_by_level = refl

-- A one-hit move on a Ghost misses at any draw of its hit test, and is reported as immunity

abbrev ghost : Who
ghost = record { side = Two; species = 94 }

abbrev guillotine_on_a_ghost : Progress
guillotine_on_a_ghost = act usual One (Use (Slot 1)) (facing (knowing 12 5) as_is (record tauros { species = 94 }) as_is (drawing 255 0 0 0 0))

one_hit_on_a_ghost : (guillotine_on_a_ghost.events ≡ events.Move (tauros_of One) 12 ghost ∷ events.Immune ghost ∷ []) × (guillotine_on_a_ghost.drawn ≡ 2)
unfolding computing
one_hit_on_a_ghost = (refl, refl)

-- Without a plan no further hit follows (docs/MECHANICS.md, "Many hits").
no_hit_is_left : hits_left (face_to_face (Sweep 0)) ≡ 0
unfolding computing
no_hit_is_left = refl

-- An effect that acts elsewhere does nothing here, and a member that doesn't thrash has no move to continue

acts_elsewhere : ((late_effect usual One (move_at 70) effects.DamageOnly (face_to_face (Sweep 0))).events ≡ [])
    × ((thrash_less One None (face_to_face (Sweep 0))).events ≡ []) × ((play_turn usual choices.Pass (choices.Move 1) (face_to_face (Sweep 0))).events ≡ [])
unfolding computing
acts_elsewhere = (refl, refl, refl)

-- A foe that is confused already isn't confused by chance (docs/MECHANICS.md, "Side effects"): one draw, and no event

abbrev confuses : (Active → Active) → (Active → Active) → Progress
confuses own foes = side_effect usual One (move_at 60) (effects.ConfusionChance 25) (facing tauros own tauros foes (drawing 24 3 0 0 0))

confused_by_chance : ((confuses as_is (set (with_confusion 3))).events ≡ []) × ((confuses as_is (set (with_confusion 3))).drawn ≡ 1)
    × ((conditions Two (confuses as_is (set (with_confusion 3)))).confused ≡ Some 3)
    × ((conditions Two (confuses (set (with_confusion 3)) as_is)).confused ≡ Some 5)
unfolding computing
confused_by_chance = (refl, refl, refl, refl)

-- A stat falls at a draw of 84, and not at 85 (docs/MECHANICS.md, "Side effects")

abbrev aurora_beams : ℕ → Progress
aurora_beams b = side_effect usual One (move_at 62) (effects.StatDownChance Attack) (face_to_face (Sweep b))

stat_falls_by_chance : ((aurora_beams 84).events ≡ events.Unboost (tauros_of Two) Attack 1 ∷ []) × ((aurora_beams 85).events ≡ [])
unfolding computing
stat_falls_by_chance = (refl, refl)

-- A stat of an invulnerable foe doesn't fall, even by a move that never misses, such as Swift (docs/MECHANICS.md,
-- "Late effects")

abbrev lowers_by_swift : (Active → Active) → (Active → Active) → Progress
lowers_by_swift own foes = lower_foes_stat One (move_at 129) Attack 1 (facing tauros own tauros foes (Sweep 0))

invulnerable_to_a_drop : ((lowers_by_swift as_is (set with_invulnerability)).events ≡ events.Fail (tauros_of One) ∷ [])
    × ((lowers_by_swift (set with_invulnerability) as_is).events ≡ events.Unboost (tauros_of Two) Attack 1 ∷ [])
unfolding computing
invulnerable_to_a_drop = (refl, refl)

-- Disable (docs/MECHANICS.md, "Side effects"). After the hit test a draw of 0 names slot 1, which has no PP, and one
-- of 3 names slot 4, which holds no move. A draw of 1 names slot 2, which is disabled for (6 & 7) + 1 turns. If no
-- move has PP, a draw of 1 names slot 2, which holds no move, and one of 0 names slot 1, where Disable fails

abbrev knowing_two : ℕ → ℕ → Member
knowing_two first second = record tauros { moves = record { id = 70; pp = first } ∷ record { id = 36; pp = second } ∷ [] }

abbrev disables : Member → Stream → Progress
disables foe stream = side_effect usual One (move_at 50) effects.Disable (facing tauros as_is foe as_is stream)

disabled_slot_has_pp : ((conditions Two (disables (knowing_two 0 5) (drawing 0 0 3 1 6))).disabled ≡ Some (record { slot = 2; turns = 7 }))
    × ((disables (knowing_two 0 5) (drawing 0 0 3 1 6)).drawn ≡ 5)
    × ((disables (knowing 70 0) (drawing 0 1 0 0 0)).events ≡ events.Fail (tauros_of One) ∷ [])
    × ((disables (knowing 70 0) (drawing 0 1 0 0 0)).drawn ≡ 3)
unfolding computing
disabled_slot_has_pp = (refl, refl, refl, refl)

-- Thunder Wave (docs/MECHANICS.md, "Early effects") fails on a Sandshrew, a Ground type, and paralyses a Kabuto, a
-- Rock and Water type

abbrev waved : ℕ → Status
waved species = status_of Two (early_effect One (move_at 86) effects.InflictParalysis
    (facing tauros as_is (record tauros { species = species }) as_is (Sweep 0)))

thunder_wave : waved 27 ∷ waved 140 ∷ [] ≡ Healthy ∷ Paralysed ∷ []
unfolding computing
thunder_wave = refl

-- A move that is picked for this turn doesn't continue, whatever conditions are on (docs/MECHANICS.md, "Going on")

abbrev goes_on : Pick → Bool
goes_on pick = (see_if_going_on One pick (facing tauros (set (with_trapping 2)) tauros as_is (Sweep 0))).action.going_on

picked_anew : goes_on (Use (Slot 1)) ∷ goes_on Continue ∷ goes_on Held ∷ [] ≡ false ∷ true ∷ true ∷ []
unfolding computing
picked_anew = refl

-- The gate (docs/MECHANICS.md, "Gate"): a flinch is tested before recharging, which is still due then. A side that
-- has picked nothing is tested for paralysis, and not for a disabled move

abbrev flinching : Progress
flinching = gate One Continue (facing tauros (set λ c. with_recharge (with_flinch c)) tauros as_is (Sweep 0))

flinch_before_recharging : (flinching.events ≡ events.Cant (tauros_of One) reasons.Flinched ∷ [])
    × ((underway One flinching).recharge ∷ (conditions One flinching).flinch ∷ [] ≡ true ∷ false ∷ [])
unfolding computing
flinch_before_recharging = (refl, refl)

abbrev idles : Member → Progress
idles m = gate One Idle (facing m (λ a. set (with_disabled 1 5) (with_current_move (Slot 1) a)) tauros as_is (Sweep 62))

idle_is_tested : ((idles (record tauros { status = Paralysed })).events ≡ events.Cant (tauros_of One) reasons.Paralysed ∷ [])
    × ((idles tauros).events ≡ []) × ((idles tauros).stopped ∷ [] ≡ true ∷ [])
unfolding computing
idle_is_tested = (refl, refl, refl)

-- A hit on itself (docs/MECHANICS.md, "Hit on itself") ends a flinch too. It ends invulnerability even if it faults:
-- the foe's Reflect makes a Defense of 512 into 1024, a quarter of which is 256, with the low byte 0

own_hit_ends_a_flinch : (conditions One (hurt_itself One (facing tauros (set with_flinch) tauros as_is (Sweep 0)))).flinch ≡ false
unfolding computing
own_hit_ends_a_flinch = refl

abbrev own_hit_without_defense : Progress
own_hit_without_defense = hurt_itself One (facing (record tauros { defense = 512 }) (set with_invulnerability) tauros (set with_reflect) (Sweep 0))

own_hit_faults : (own_hit_without_defense.field.outcome ≡ outcomes.Fault 1) × ((conditions One own_hit_without_defense).invulnerable ≡ false)
unfolding computing
own_hit_faults = (refl, refl)

-- A choice is offered exactly if it is in the list. Another slot or place isn't the same choice (docs/MECHANICS.md,
-- "Offered choices").
same_slot_and_place : is_among (choices.Move 1) (choices.Move 2 ∷ []) ∷ is_among (choices.Move 2) (choices.Move 1 ∷ []) ∷ is_among (choices.Move 2) (choices.Move 2 ∷ [])
    ∷ is_among (choices.Switch 2) (choices.Switch 3 ∷ []) ∷ is_among (choices.Switch 3) (choices.Switch 2 ∷ []) ∷ is_among (choices.Switch 2) (choices.Move 2 ∷ []) ∷ []
    ≡ false ∷ false ∷ true ∷ false ∷ false ∷ false ∷ []
unfolding computing
same_slot_and_place = refl

-- The picked move is set as the turn begins (docs/MECHANICS.md, "Picks"), so it is set even after a fault: Psywave at
-- level 1, while the foe switches

abbrev two_tauros : Progress → Progress
two_tauros p = record p { field = with_party Two (record p.field.two { members = tauros ∷ tauros ∷ [] }) p.field }

abbrev faults : Progress
faults = turn usual (choices.Move 1) (choices.Switch 2) (two_tauros (facing (record (knowing 149 10) { level = 1 }) as_is tauros as_is (Sweep 0)))

picked_before_a_fault : (faults.field.outcome ≡ outcomes.Fault 2) × ((active One faults).picked_move ≡ Slot 1)
unfolding computing
picked_before_a_fault = (refl, refl)

-- Worked examples: events and their order (docs/PROOFS.md, "Worked examples").

-- The events when side 1 uses its only move on a foe, with five draws

abbrev told_of : ℕ → Member → (Active → Active) → ℕ → ℕ → ℕ → ℕ → ℕ → List Event
told_of move foe change a b c d e = (act usual One (Use (Slot 1)) (facing (knowing move 10) as_is foe change (drawing a b c d e))).events

-- A foe of another species, with the numbers of Tauros

abbrev foe_of : ℕ → Who
foe_of species = record { side = Two; species = species }

abbrev of_species : ℕ → Member
of_species species = record tauros { species = species }

abbrev uses_on : ℕ → ℕ → Event
uses_on move species = events.Move (tauros_of One) move (foe_of species)

abbrev falls_to : ℕ → ℕ → Event
falls_to species hp = events.Damage (foe_of species) (healthy_at hp) sources.Direct

-- A landing, part by part (docs/MECHANICS.md, "Order of events"). Twineedle hits a Hypno with Rage. A draw of 0 is a
-- critical hit, so 82 * 25 * 74 / 72 is 2106, / 50 is 42, + 2 is 44, and 88 for Bug on Psychic. The reports before
-- the first hit come once. The rage builds at each of the two hits. Their number comes after the last hit, and then
-- the poison, at a draw of 51

critical_twineedle : told_of 41 (of_species 97) (set with_rage) 0 255 0 51 0
    ≡ uses_on 41 97 ∷ events.Crit (foe_of 97) ∷ events.SuperEffective (foe_of 97)
    ∷ falls_to 97 265 ∷ events.Boost (foe_of 97) Attack 1 ∷ falls_to 97 177 ∷ events.Boost (foe_of 97) Attack 1
    ∷ events.HitCount (foe_of 97) 2 ∷ events.Status (foe_of 97) kinds.Poison ∷ []
unfolding computing
critical_twineedle = refl

-- Recoil comes before the foe's rage: Take Down deals 118, a quarter of which is 29.

recoil_and_rage : told_of 36 tauros (set with_rage) 255 255 0 0 0
    ≡ moves 36 ∷ hurt Two 235 ∷ events.Damage (tauros_of One) (healthy_at 324) sources.Recoil ∷ events.Boost (tauros_of Two) Attack 1 ∷ []
unfolding computing
recoil_and_rage = refl

-- Rows of 20 and of 5. Strength's 106 on a Geodude is 53. Water Gun, 42 * 40 * 238 / 238 / 50 + 2, is 35. On a
-- Geodude with two rows of 20 it is 140, and on a Poliwrath with one row of 5 it is 17. Ice Beam, 42 * 95 / 50 + 2,
-- is 81. On a Gyarados with one row of each it is 80, and neither is reported

rows_are_told : (told_of 70 (of_species 74) as_is 255 255 0 0 0 ≡ uses_on 70 74 ∷ events.Resisted (foe_of 74) ∷ falls_to 74 300 ∷ [])
    × (told_of 55 (of_species 74) as_is 255 255 0 0 0 ≡ uses_on 55 74 ∷ events.SuperEffective (foe_of 74) ∷ falls_to 74 213 ∷ [])
    × (told_of 55 (of_species 62) as_is 255 255 0 0 0 ≡ uses_on 55 62 ∷ events.Resisted (foe_of 62) ∷ falls_to 62 336 ∷ [])
    × (told_of 58 (of_species 130) as_is 255 255 0 26 0 ≡ uses_on 58 130 ∷ falls_to 130 273 ∷ [])
unfolding computing
rows_are_told = (refl, refl, refl, refl)

-- A one-hit move that breaks a Substitute reports both. A Substitute that holds is reported before the recoil

substitutes_are_told : (told_of 12 tauros (set (with_substitute 249)) 255 255 0 0 0
    ≡ moves 12 ∷ events.End (tauros_of Two) volatiles.Substitute ∷ events.OneHitKnockOut ∷ [])
    × (told_of 36 tauros (set (with_substitute 200)) 255 255 0 0 0
    ≡ moves 36 ∷ events.Activate (tauros_of Two) volatiles.Substitute ∷ events.Damage (tauros_of One) (healthy_at 324) sources.Recoil ∷ [])
unfolding computing
substitutes_are_told = (refl, refl)

-- A miss by a hit test at a draw of 255, and then the crash of Jump Kick. On a Gengar, for which Fighting has a row
-- of 0, the event is `Immune`

crash_is_told : (told_of 26 tauros as_is 255 255 255 0 0 ≡ moves 26 ∷ events.Miss (tauros_of One) ∷ hurt One 352 ∷ [])
    × (told_of 26 (of_species 94) as_is 255 0 0 0 0 ≡ uses_on 26 94 ∷ events.Immune (foe_of 94) ∷ hurt One 352 ∷ [])
unfolding computing
crash_is_told = (refl, refl)

-- The gate, test by test: Disable ends, confusion ends, and then a draw of 62 stops a paralysed user

abbrev at_their_last : ActiveConditions → ActiveConditions
at_their_last c = record c { confused = Some 1; disabled = Some (record { slot = 1; turns = 1 }) }

gate_is_told : (gate One (Use (Slot 1)) (facing (record tauros { status = Paralysed }) (set at_their_last) tauros as_is (drawing 62 0 0 0 0))).events
    ≡ events.End (tauros_of One) volatiles.Disable ∷ events.End (tauros_of One) volatiles.Confusion
    ∷ events.Cant (tauros_of One) reasons.Paralysed ∷ []
unfolding computing
gate_is_told = refl

-- Effects: Haze writes `ClearAll` and the foe's cure, and neither the end of the foe's Mist nor the user's burn.
-- Swords Dance at an Attack of 999 reports the net change before its failure, since 998 could not rise

abbrev uses_alone : Member → Member → (Active → Active) → List Event
uses_alone m foe change = (act usual One (Use (Slot 1)) (facing m as_is foe change (drawing 0 0 0 0 0))).events

effects_are_told : (uses_alone (record (knowing 114 30) { status = Burned }) (record tauros { status = Asleep 3 false }) (set with_mist)
    ≡ moves 114 ∷ events.ClearAll ∷ events.Cure (tauros_of Two) kinds.Sleep ∷ [])
    × (uses_alone (record (knowing 14 30) { attack = 999 }) tauros as_is ≡ moves 14 ∷ events.Boost (tauros_of One) Attack 1 ∷ events.Fail (tauros_of One) ∷ [])
unfolding computing
effects_are_told = (refl, refl)

-- A whole turn to its end. Side 1 is faster, and both use Splash. Side 1, seeded and poisoned with 353 HP, loses 22
-- and 22 right after its action, and side 2, at 300 HP, is healed by 22. Side 2, burned, has 322 HP and loses 22.
-- Then the next turn is reported

abbrev ill : ℕ → Health
ill hp = record { hp = hp; max = 353; kind = Some kinds.Poison }

abbrev burned : ℕ → Health
burned hp = record { hp = hp; max = 353; kind = Some kinds.Burn }

abbrev slow_and_burned : Member
slow_and_burned = record (knowing 150 40) { hp = 300; speed = 317; status = Burned }

abbrev whole_turn : ℕ → Progress
whole_turn hp = close_update usual (turn usual (choices.Move 1) (choices.Move 1)
    (facing (record (knowing 150 40) { hp = hp; status = Poisoned }) (set with_seed) slow_and_burned as_is (drawing 0 0 0 0 0)))

abbrev first_splash : List Event
first_splash = moves 150 ∷ events.Activate (tauros_of One) volatiles.Splash ∷ []

abbrev second_splash : List Event
second_splash = events.Move (tauros_of Two) 150 (tauros_of One) ∷ events.Activate (tauros_of Two) volatiles.Splash ∷ []

turn_is_told : (whole_turn 353).events
    ≡ first_splash
    ++ events.Damage (tauros_of One) (ill 331) sources.Poison ∷ events.Damage (tauros_of One) (ill 309) sources.LeechSeed
    ∷ events.Heal (tauros_of Two) (burned 322) ∷ []
    ++ second_splash
    ++ events.Damage (tauros_of Two) (burned 300) sources.Burn ∷ events.Turn 2 ∷ []
unfolding computing
turn_is_told = refl

-- Of 20 HP the poison takes the last, and the event shows its status. The seed takes nothing more, so it writes no
-- `Damage`, but it heals. The rest of the turn is skipped, and the fall is reported before the win

fall_is_told : (whole_turn 20).events
    ≡ first_splash
    ++ events.Damage (tauros_of One) (ill 0) sources.Poison ∷ events.Heal (tauros_of Two) (burned 322)
    ∷ events.Faint (tauros_of One) ∷ events.Win Two ∷ []
unfolding computing
fall_is_told = refl
