-- Worked examples: statuses, conditions and stats; turns, the beginning and the end of a battle; events with their
-- bytes and their lines (docs/PROOFS.md, "Worked examples").
use Rattle.std.proofs.Common.{Bool, List, None, Some, [], codes, false, map, refl, replicate, slice_index, true, ℕ, ◌++◌, ◌∷◌, ◌≡◌, Option}
use Rattle.gen1_tables.specs.declared.effect.Stat.TheVariants.{Attack, Speed}
use Rattle.gen1_stats.specs.declared.member.Status.TheVariants.{Healthy, Asleep, Poisoned, Paralysed, Burned}
use Rattle.gen1_machine.specs.declared.side.Side.{Side}
use Rattle.gen1_machine.specs.declared.side.Side.TheVariants.{One, Two}
use Rattle.gen1_machine.specs.declared.terms.Outcome.{Outcome}
use Rattle.gen1_machine.specs.declared.terms.Request.{Request}
use Rattle.gen1_machine.specs.declared.event.Event.{Event}
use Rattle.gen1_machine.specs.declared.side.Choice.{Choice}
use Rattle.gen1_rolls.specs.Streams.{Sweep}
use Rattle.gen1_stats.specs.Members.{Member}
use Rattle.gen1_machine.specs.Sides.{other}
use Rattle.gen1_machine.specs.LogBytes.{codes_of}
use Rattle.gen1_machine.specs.Lines.{line, lines}
use Rattle.gen1_machine.specs.Conditions.{with_recharge, with_trapping, with_confusion, with_mist, with_substitute, with_seed, ActiveConditions}
use Rattle.gen1_machine.specs.State.{level_stages, party, with_party, usual_terms, first_state, Active, State}
use Rattle.gen1_machine.specs.Progress.{new_action, underway, status_of, stat_now, fault, Progress, fail, stay, set_last_damage, active, conditions}
use Rattle.gen1_machine.specs.Ruling.{ruling_of}
use Rattle.gen1_machine.specs.SwitchingIn.{send_out}
use Rattle.gen1_machine.specs.Turn.{turn}
use Rattle.gen1_machine.specs.OfferedChoices.{offered}
use Rattle.gen1_machine.specs.Step.{close_update, step, Accepted, Refused, NotOffered, Stepped}
use Rattle.gen1_machine.specs.Layout.{bytes_of}
use Rattle.gen1_machine.specs.View.{first_view, sees_all, SideView}
use Rattle.gen1_machine.proofs.Computing.{computing}
use Rattle.gen1_machine.proofs.WorkedRules.{tauros, knowing, facing, as_is, set, usual, hp_of}
use Rattle.gen1_machine.proofs.WorkedMoves.{left_with, tauros_of, healthy_at, hurt}
use Rattle.gen1_stats.specs.Stats.{full_pp, hp_dv, hp_stat, root, stat}
use Rattle.gen1_machine.specs.Stages.{at_stage}
use Rattle.gen1_machine.specs.Moves.{move_at}
use Rattle.gen1_machine.specs.HitEffects.{drain}
use Rattle.gen1_machine.specs.StageShift.{raise_stage, lower_stage}
use Rattle.gen1_machine.specs.EarlyEffects.{early_effect, heal}
use Rattle.gen1_machine.specs.LateEffects.{late_effect}
use Rattle.gen1_machine.specs.ResidualDamage.{residual}
use Rattle.std.specs.Fmt.{digits}
use Rattle.gen1_tables.specs.Names.{species_name, species_names, move_name, move_names, name_at}
use Rattle.gen1_machine.specs.declared.event.Kind.{Kind}
use Rattle.gen1_machine.specs.declared.event.Kind.TheVariants.{Paralysis}
use Rattle.gen1_machine.specs.declared.event.Who.{Who}
use Rattle.gen1_machine.specs.declared.event.DamageSource.TheVariants.{Direct}
use Rattle.gen1_machine.specs.Health.{Health}
use Rattle.gen1_machine.specs.declared.terms.Outcome.TheVariants as outcomes
use Rattle.gen1_machine.specs.declared.terms.Request.TheVariants as requests
use Rattle.gen1_machine.specs.declared.event.Kind.TheVariants as kinds
use Rattle.gen1_machine.specs.declared.event.DamageSource.TheVariants as sources
use Rattle.gen1_machine.specs.declared.event.Volatile.TheVariants as volatiles
use Rattle.gen1_machine.specs.declared.event.Event.TheVariants as events
use Rattle.gen1_machine.specs.declared.side.Choice.TheVariants as choices
use Rattle.gen1_tables.specs.declared.effect.Effect.TheVariants as effects

-- One more member on a side.
abbrev joined_by : Side → Member → Progress → Progress
joined_by s m p = record p { field = with_party s (record (party s p.field) { members = (party s p.field).members ++ m ∷ [] }) p.field }

abbrev comes_out : Side → ℕ → Event
comes_out s place = events.Switch (tauros_of s) place 100 (healthy_at 353)

-- The order of a turn (docs/MECHANICS.md, "Order of a turn"): both use Splash, which takes no draw

abbrev splashing : ℕ → Member
splashing speed = record (knowing 150 40) { speed = speed }

abbrev both_splash : ℕ → ℕ → ℕ → Progress
both_splash one two b = turn usual (choices.Move 1) (choices.Move 1) (facing (splashing one) as_is (splashing two) as_is (Sweep b))

abbrev splashes : Side → List Event
splashes s = events.Move (tauros_of s) 150 (tauros_of (other s)) ∷ events.Activate (tauros_of s) volatiles.Splash ∷ []

-- A tie in Speed takes one draw, whatever its value. Side 1 begins below 128.
tie_in_speed : ((both_splash 318 318 127).events ≡ splashes One ++ splashes Two) × ((both_splash 318 318 128).events ≡ splashes Two ++ splashes One)
    × ((both_splash 318 318 255).events ≡ splashes Two ++ splashes One)
    × ((both_splash 318 318 127).drawn ∷ (both_splash 318 318 128).drawn ∷ (both_splash 318 318 255).drawn ∷ [] ≡ 1 ∷ 1 ∷ 1 ∷ [])
unfolding computing
tie_in_speed = (refl, refl, refl, refl)

-- If one side is faster or a side switches, nothing is drawn.
faster_by_one : ((both_splash 318 317 128).events ≡ splashes One ++ splashes Two) × ((both_splash 317 318 127).events ≡ splashes Two ++ splashes One)
    × ((both_splash 318 317 128).drawn ∷ (both_splash 317 318 127).drawn ∷ [] ≡ 0 ∷ 0 ∷ [])
unfolding computing
faster_by_one = (refl, refl, refl)

abbrev two_of_each : Progress
two_of_each = joined_by One tauros (joined_by Two tauros (facing (splashing 318) as_is (splashing 318) as_is (Sweep 0)))

abbrev one_switches : Progress
one_switches = turn usual (choices.Move 1) (choices.Switch 2) two_of_each

abbrev both_switch : Progress
both_switch = turn usual (choices.Switch 2) (choices.Switch 2) two_of_each

switches_come_first : (one_switches.events ≡ comes_out Two 2 ∷ splashes One) × (both_switch.events ≡ comes_out One 2 ∷ comes_out Two 2 ∷ [])
    × (one_switches.drawn ∷ both_switch.drawn ∷ [] ≡ 0 ∷ 0 ∷ [])
unfolding computing
switches_come_first = (refl, refl, refl)

-- Sending out (docs/MECHANICS.md, "Switching in"): one event reports it, with the health that the member brings. A
-- paralysed member's Speed of 318 is quartered to 79, and the foe's trapping ends

abbrev sent_in : Progress
sent_in = send_out Two 2 (joined_by Two (record (left_with 200) { status = Paralysed })
    (facing tauros (set (with_trapping 3)) tauros (λ a. record a { stages = record a.stages { attack = 8 } }) (Sweep 0)))

sent_in_once : (sent_in.events ≡ events.Switch (tauros_of Two) 2 100 (record { hp = 200; max = 353; kind = Some kinds.Paralysis }) ∷ [])
    × (stat_now Speed Two sent_in ∷ stat_now Attack Two sent_in ∷ [] ≡ 79 ∷ 298 ∷ []) × ((underway One sent_in).trapping ≡ None)
unfolding computing
sent_in_once = (refl, refl, refl)

-- The end of an update (docs/MECHANICS.md, "Falls and requests"): the fallen faint and lose their status, the last
-- actor's foe first

abbrev closes : ℕ → Side → Progress → Progress
closes number actor p = close_update (ruling_of (record usual_terms { limit = 3 }))
    (record p { field = record p.field { turn = number }; action = new_action actor })

abbrev fell_ill : Member
fell_ill = record (left_with 0) { status = Poisoned }

abbrev one_fell : ℕ → Progress
one_fell number = closes number One (joined_by Two tauros (facing tauros as_is fell_ill as_is (Sweep 0)))

abbrev both_fell : Side → Progress
both_fell actor = closes 2 actor (joined_by One tauros (joined_by Two tauros (facing fell_ill as_is fell_ill as_is (Sweep 0))))

abbrev asked : Progress → Request × Request
asked p = (p.field.request_one, p.field.request_two)

replacements_are_asked_for : ((one_fell 2).events ≡ events.Faint (tauros_of Two) ∷ []) × (asked (one_fell 2) ≡ (requests.Pass, requests.Switch))
    × ((one_fell 2).field.turn ≡ 2) × ((one_fell 2).field.outcome ≡ outcomes.Ongoing) × (status_of Two (one_fell 2) ≡ Healthy)
    × ((both_fell One).events ≡ events.Faint (tauros_of Two) ∷ events.Faint (tauros_of One) ∷ [])
    × ((both_fell Two).events ≡ events.Faint (tauros_of One) ∷ events.Faint (tauros_of Two) ∷ [])
    × (asked (both_fell One) ≡ (requests.Switch, requests.Switch))
unfolding computing
replacements_are_asked_for = (refl, refl, refl, refl, refl, refl, refl, refl)

-- If no member fell, the next turn begins. If no member is left, the battle is won or tied

abbrev last_fell : Member → Progress
last_fell m = closes 2 One (facing m as_is fell_ill as_is (Sweep 0))

nobody_left : ((closes 2 One (facing tauros as_is tauros as_is (Sweep 0))).events ≡ events.Turn 3 ∷ [])
    × ((last_fell tauros).events ≡ events.Faint (tauros_of Two) ∷ events.Win One ∷ []) × ((last_fell tauros).field.outcome ≡ outcomes.WinOne)
    × ((last_fell fell_ill).events ≡ events.Faint (tauros_of Two) ∷ events.Faint (tauros_of One) ∷ events.Tie ∷ [])
    × (asked (last_fell tauros) ≡ (requests.Pass, requests.Pass))
unfolding computing
nobody_left = (refl, refl, refl, refl, refl)

-- The last turn (docs/MECHANICS.md, "Turn limit"): the battle is a tie, even if a replacement would be due. A win
-- stays a win

abbrev won_at_the_end : Progress
won_at_the_end = closes 3 One (facing tauros as_is fell_ill as_is (Sweep 0))

no_replacement_after_the_last_turn : ((one_fell 3).events ≡ events.Faint (tauros_of Two) ∷ events.Tie ∷ []) × ((one_fell 3).field.outcome ≡ outcomes.Tie)
    × (asked (one_fell 3) ≡ (requests.Pass, requests.Pass))
    × (won_at_the_end.events ≡ events.Faint (tauros_of Two) ∷ events.Win One ∷ [])
unfolding computing
no_replacement_after_the_last_turn = (refl, refl, refl, refl)

-- A fault is the only event, and nothing is asked for.
abbrev ends_by : ℕ → Progress
ends_by n = close_update usual (fault n (facing tauros as_is fell_ill as_is (Sweep 0)))

fault_is_told_alone : ((ends_by 1).events ≡ events.Fault 1 ∷ []) × ((ends_by 2).events ≡ events.Fault 2 ∷ [])
    × ((ends_by 2).field.outcome ≡ outcomes.Fault 2) × (asked (ends_by 2) ≡ (requests.Pass, requests.Pass)) × (status_of Two (ends_by 2) ≡ Poisoned)
unfolding computing
fault_is_told_alone = (refl, refl, refl, refl, refl)

-- Offered choices (docs/MECHANICS.md, "Offered choices"): of places 1, 2 and 3, the first is out and the second has
-- fallen

abbrev offered_to : Request → Member → (Active → Active) → List Choice
offered_to request m change = offered One (record (joined_by One tauros (joined_by One (left_with 0) (facing m change tauros as_is (Sweep 0)))).field {
  request_one = request;
})

only_the_living_are_offered : (offered_to requests.Switch (left_with 0) as_is ≡ choices.Switch 3 ∷ [])
    × (offered_to requests.Move tauros as_is ≡ choices.Move 1 ∷ choices.Switch 3 ∷ [])
    × (offered_to requests.Pass tauros as_is ≡ choices.Pass ∷ [])
    × (offered_to requests.Move (knowing 70 0) as_is ≡ choices.Move 0 ∷ choices.Switch 3 ∷ [])
    × (offered_to requests.Move (record tauros { status = Asleep 3 false }) as_is ≡ choices.Move 0 ∷ choices.Switch 3 ∷ [])
    × (offered_to requests.Move tauros (set with_recharge) ≡ choices.Move 0 ∷ [])
unfolding computing
only_the_living_are_offered = (refl, refl, refl, refl, refl, refl)

-- The beginning (docs/MECHANICS.md, "A battle in ten sentences"): at turn 0 both sides pass, place 1 of each comes
-- out, and turn 1 begins

abbrev first_of_all : State
first_of_all = first_state usual_terms (tauros ∷ tauros ∷ []) (tauros ∷ tauros ∷ []) (replicate 10 0)

abbrev first_update : Stepped
first_update = step first_of_all choices.Pass choices.Pass

battle_begins : (first_of_all.field.turn ≡ 0) × (first_update.answer ≡ Accepted (comes_out One 1 ∷ comes_out Two 1 ∷ events.Turn 1 ∷ []))
    × (first_update.state.field.turn ∷ first_update.state.drawn ∷ [] ≡ 1 ∷ 0 ∷ [])
    × ((step first_of_all choices.Pass (choices.Move 1)).answer ≡ Refused (NotOffered Two))
unfolding computing
battle_begins = (refl, refl, refl, refl)

-- A fault in the bytes of a battle (docs/LAYOUT.md, "Header"): 4 for Fault 1, 5 for Fault 2. The turn is 0, and the
-- limit is 1000, which is 3 * 256 + 232

abbrev header_after : Outcome → List ℕ
header_after outcome = map (slice_index (bytes_of (record first_of_all { field = record first_of_all.field { outcome = outcome } })))
    (0 ∷ 1 ∷ 2 ∷ 16 ∷ 20 ∷ 21 ∷ [])

outcome_in_the_header : (header_after (outcomes.Fault 1) ≡ 3 ∷ 0 ∷ 0 ∷ 4 ∷ 232 ∷ 3 ∷ []) × (header_after (outcomes.Fault 2) ≡ 3 ∷ 0 ∷ 0 ∷ 5 ∷ 232 ∷ 3 ∷ [])
    × (header_after outcomes.Tie ≡ 3 ∷ 0 ∷ 0 ∷ 3 ∷ 232 ∷ 3 ∷ [])
unfolding computing
outcome_in_the_header = (refl, refl, refl)

-- What a spectator sees (docs/MECHANICS.md, "Spectator's view"): a switch clears the stages, Substitute, confusion
-- and screens

abbrev raised_and_hidden : List Event
raised_and_hidden =
    comes_out One 1 ∷ events.Boost (tauros_of One) Attack 2 ∷ events.Start (tauros_of One) volatiles.Substitute
    ∷ events.Start (tauros_of One) volatiles.Confusion ∷ events.Start (tauros_of One) volatiles.Reflect ∷ []

abbrev seen_after : List Event → SideView
seen_after happened = (sees_all happened (first_view (tauros ∷ tauros ∷ []) (tauros ∷ []))).one

abbrev what_is_up : SideView → List Bool
what_is_up x = x.substitute ∷ x.confused ∷ x.light_screen ∷ x.reflect ∷ []

view_after_a_switch : ((seen_after raised_and_hidden).stages ≡ record level_stages { attack = 8 })
    × (what_is_up (seen_after raised_and_hidden) ≡ true ∷ true ∷ false ∷ true ∷ [])
    × ((seen_after (raised_and_hidden ++ comes_out One 2 ∷ [])).stages ≡ level_stages)
    × (what_is_up (seen_after (raised_and_hidden ++ comes_out One 2 ∷ [])) ≡ false ∷ false ∷ false ∷ false ∷ [])
    × ((seen_after (raised_and_hidden ++ comes_out One 2 ∷ [])).place ≡ 2)
unfolding computing
view_after_a_switch = (refl, refl, refl, refl, refl)

-- Log bytes and lines (docs/MECHANICS.md, "Log bytes", "Lines"): a Strength of side 1 makes side 2 fall, and a hurt
-- member comes out

abbrev felled : List Event
felled =
    events.Move (tauros_of One) 70 (tauros_of Two) ∷ events.Crit (tauros_of Two)
    ∷ events.Damage (tauros_of Two) (healthy_at 0) sources.Direct ∷ events.Faint (tauros_of Two) ∷ events.Win One ∷ []

log_of_the_felled : codes_of felled ≡
    0x03 ∷ 0x01 ∷ 0x80 ∷ 0x46 ∷ 0x02 ∷ 0x80 ∷ 0x07 ∷ 0x02 ∷ 0x80 ∷ 0x05 ∷ 0x02 ∷ 0x80 ∷ 0x00 ∷ 0x00 ∷ 0x61 ∷ 0x01 ∷ 0x00 ∷ 0x00
    ∷ 0x19 ∷ 0x02 ∷ 0x80 ∷ 0x1A ∷ 0x01 ∷ []
unfolding computing
log_of_the_felled = refl

line_of_a_switch : line (events.Switch (tauros_of One) 1 50 (record { hp = 120; max = 353; kind = Some kinds.Paralysis }))
    ≡ codes "|switch|p1a: Tauros|Tauros, L50|120/353 par\n"
unfolding computing
line_of_a_switch = refl

-- Worked examples: statuses, conditions and stats (docs/PROOFS.md, "Worked examples").

abbrev alone : Member → (Active → Active) → Progress
alone m change = facing m change tauros as_is (Sweep 0)

abbrev fails : List Event
fails = events.Fail (tauros_of One) ∷ []

-- Stats (docs/MECHANICS.md, "Stats"). Chansey's HP at level 100 with DVs of 15 and experience 65535: (250 + 15) * 2 +
-- 63 is 593, and with 110 it is 703. Tauros has the bases 75, 100, 95, 110 and 70

abbrev at_most : ℕ → ℕ
at_most base = stat base 15 65535 100

roots : map root (0 ∷ 1 ∷ 10 ∷ 65535 ∷ []) ≡ 0 ∷ 1 ∷ 4 ∷ 255 ∷ []
unfolding computing
roots = refl

stats_of_tauros : (hp_stat 250 (hp_dv 15 15 15 15) 65535 100 ∷ hp_stat 75 15 65535 100 ∷ map at_most (100 ∷ 95 ∷ 110 ∷ 70 ∷ [])
    ≡ 703 ∷ 353 ∷ 298 ∷ 288 ∷ 318 ∷ 238 ∷ [])
    × (hp_dv 1 0 1 0 ∷ full_pp 15 3 ∷ full_pp 40 3 ∷ [] ≡ 10 ∷ 24 ∷ 61 ∷ [])
unfolding computing
stats_of_tauros = (refl, refl)

-- Stages (docs/MECHANICS.md, "Stages"): 298 from -6 to +6, at most 999, and 3 at -6, at least 1.
stages_of_298 : map (λ stage. at_stage stage 298) (0 ∷ 1 ∷ 2 ∷ 3 ∷ 4 ∷ 5 ∷ 6 ∷ 7 ∷ 8 ∷ 9 ∷ 10 ∷ 11 ∷ 12 ∷ [])
    ≡ 74 ∷ 83 ∷ 98 ∷ 119 ∷ 149 ∷ 196 ∷ 298 ∷ 447 ∷ 596 ∷ 745 ∷ 894 ∷ 999 ∷ 999 ∷ []
unfolding computing
stages_of_298 = refl

stage_of_3 : at_stage 0 3 ≡ 1
unfolding computing
stage_of_3 = refl

-- The cost of a substitute (docs/MECHANICS.md, "Early effects"): a quarter of 353 is 88. A user with 88 HP makes one
-- and falls

abbrev substitutes : ℕ → Progress
substitutes hp = early_effect One (move_at 164) effects.Substitute (alone (left_with hp) as_is)

abbrev made_at : ℕ → List Event
made_at hp = events.Start (tauros_of One) volatiles.Substitute ∷ hurt One hp ∷ []

substitute_costs_a_quarter : ((substitutes 353).events ≡ made_at 265) × ((conditions One (substitutes 353)).substitute ≡ Some 88)
    × ((substitutes 88).events ≡ made_at 0) × ((conditions One (substitutes 88)).substitute ≡ Some 88)
    × ((substitutes 87).events ≡ fails) × ((conditions One (substitutes 87)).substitute ≡ None) × (hp_of One (substitutes 87) ≡ 87)
unfolding computing
substitute_costs_a_quarter = (refl, refl, refl, refl, refl, refl, refl)

abbrev second_substitute : Progress
second_substitute = early_effect One (move_at 164) effects.Substitute (alone tauros (set (with_substitute 5)))

one_substitute_at_a_time : (second_substitute.events ≡ fails) × ((conditions One second_substitute).substitute ≡ Some 5)
    × (hp_of One second_substitute ≡ 353)
unfolding computing
one_substitute_at_a_time = (refl, refl, refl)

-- Healing is reported (docs/MECHANICS.md, "Early effects"): half of 353 is 176, and HP stop at the maximum. A loss of
-- 0 fails

abbrev recovers : ℕ → List Event
recovers hp = (heal One (move_at 105) (alone (left_with hp) as_is)).events

recovery_is_told : (recovers 100 ≡ events.Heal (tauros_of One) (healthy_at 276) ∷ []) × (recovers 300 ≡ events.Heal (tauros_of One) (healthy_at 353) ∷ [])
    × (recovers 353 ≡ fails)
unfolding computing
recovery_is_told = (refl, refl, refl)

-- Rest reports its sleep first.
rest_is_told : (heal One (move_at 156) (alone (record tauros { hp = 1; status = Burned }) as_is)).events
    ≡ events.Status (tauros_of One) kinds.Sleep ∷ events.Heal (tauros_of One) (record { hp = 353; max = 353; kind = Some kinds.Sleep }) ∷ []
unfolding computing
rest_is_told = refl

-- Drain (docs/MECHANICS.md, "Recoil, drain and explosion"): a last damage of 35 heals the user by 17, and one of 1 by
-- 1. An unhurt user has no event

abbrev drains : ℕ → ℕ → Progress
drains hp damage = drain One (set_last_damage damage (alone (left_with hp) as_is))

drain_is_told : ((drains 300 35).events ≡ events.Heal (tauros_of One) (healthy_at 317) ∷ []) × ((drains 300 35).field.last_damage ≡ 17)
    × ((drains 300 1).events ≡ events.Heal (tauros_of One) (healthy_at 301) ∷ []) × ((drains 353 35).events ≡ [])
unfolding computing
drain_is_told = (refl, refl, refl, refl)

-- Confusion (docs/MECHANICS.md, "Early effects"): Confuse Ray hits by one draw. The next draw, here one more, gives
-- (draw & 3) + 2

abbrev ray : ℕ → Progress
ray b = early_effect One (move_at 109) effects.InflictConfusion (facing tauros as_is tauros as_is (Sweep b))

abbrev confused_for : ℕ → Option ℕ
confused_for b = (conditions Two (ray b)).confused

confusion_counts : map confused_for (3 ∷ 4 ∷ 5 ∷ 6 ∷ 7 ∷ 254 ∷ 255 ∷ []) ≡ Some 2 ∷ Some 3 ∷ Some 4 ∷ Some 5 ∷ Some 2 ∷ Some 5 ∷ None ∷ []
unfolding computing
confusion_counts = refl

-- A miss by a Ghost move on a Normal type is reported as immunity.
confusion_is_told : ((ray 3).events ≡ events.Start (tauros_of Two) volatiles.Confusion ∷ []) × ((ray 3).drawn ≡ 2)
    × ((ray 255).events ≡ events.Immune (tauros_of Two) ∷ []) × ((ray 255).drawn ≡ 1)
unfolding computing
confusion_is_told = (refl, refl, refl, refl)

-- Toxic's counter (docs/MECHANICS.md, "Residual damage"): it rises by 1 for the poison and by 1 for the seed, to at
-- most 64. A sixteenth of 353 is 22, so the first two take 22 and 44

abbrev with_counter : ℕ → ActiveConditions → ActiveConditions
with_counter n c = record c { bad_poison = Some n }

abbrev ill : (ActiveConditions → ActiveConditions) → Progress
ill change = residual One (alone (record tauros { status = Poisoned }) (set change))

abbrev counter_after : (ActiveConditions → ActiveConditions) → Option ℕ
counter_after change = (conditions One (ill change)).bad_poison

toxic_counter : map (λ n. counter_after (with_counter n)) (0 ∷ 1 ∷ 62 ∷ 63 ∷ 64 ∷ []) ≡ Some 1 ∷ Some 2 ∷ Some 63 ∷ Some 64 ∷ Some 64 ∷ []
unfolding computing
toxic_counter = refl

toxic_and_seed : map (λ n. counter_after λ c. with_seed (with_counter n c)) (0 ∷ 62 ∷ 63 ∷ 64 ∷ []) ≡ Some 2 ∷ Some 64 ∷ Some 64 ∷ Some 64 ∷ []
unfolding computing
toxic_and_seed = refl

abbrev poisoned_at : ℕ → Event
poisoned_at hp = events.Damage (tauros_of One) (record { hp = hp; max = 353; kind = Some kinds.Poison }) sources.Poison

toxic_takes_more : ((ill (with_counter 0)).events ≡ poisoned_at 331 ∷ []) × ((ill (with_counter 1)).events ≡ poisoned_at 309 ∷ [])
    × ((ill (with_counter 14)).events ≡ poisoned_at 23 ∷ []) × ((ill (with_counter 64)).events ≡ poisoned_at 0 ∷ [])
unfolding computing
toxic_takes_more = (refl, refl, refl, refl)

-- Penalties (docs/MECHANICS.md, "Penalties"): paralysis quarters a Speed of 318 to 79. String Shot recomputes Speed
-- at -1 to 66 percent, 209, and the penalty applies again: 52. The shifter's own Swords Dance applies it once more:
-- 13

abbrev paralysed_foe : Progress
paralysed_foe = early_effect One (move_at 86) effects.InflictParalysis (alone tauros as_is)

abbrev strung : Progress
strung = lower_stage One Two Speed 1 stay paralysed_foe

speed_of_the_paralysed : (status_of Two paralysed_foe ≡ Paralysed) × (stat_now Speed Two paralysed_foe ∷ stat_now Speed Two strung
    ∷ stat_now Speed Two (raise_stage One One Attack 2 stay strung) ∷ [] ≡ 79 ∷ 52 ∷ 13 ∷ [])
unfolding computing
speed_of_the_paralysed = (refl, refl)

-- A member's own shift drops the penalty. At +1 its Speed is 477, and the foe's Swords Dance quarters that to 119. At
-- +2 it is 636

abbrev quickened : ℕ → Progress
quickened by = raise_stage Two Two Speed by stay paralysed_foe

speed_recomputed : stat_now Speed Two (quickened 1) ∷ stat_now Speed Two (raise_stage One One Attack 2 stay (quickened 1))
    ∷ stat_now Speed Two (quickened 2) ∷ [] ≡ 477 ∷ 119 ∷ 636 ∷ []
unfolding computing
speed_recomputed = refl

-- Stage shifts (docs/MECHANICS.md, "Stage shift"): a stat of 999 that should rise by 2 rises by 1, and the move
-- fails. A stat of 1 that should fall by 1 stays, and the move fails. 5 at -5 is 5 * 28 / 100, so 1

abbrev dances : Member → (Active → Active) → Progress
dances m change = late_effect usual One (move_at 14) (effects.StatUp Attack 2) (alone m change)

abbrev at_attack_stage : ℕ → Active → Active
at_attack_stage n a = record a { stages = record a.stages { attack = n } }

abbrev strongest : Progress
strongest = dances (record tauros { attack = 999 }) as_is

shift_at_999 : (strongest.events ≡ events.Boost (tauros_of One) Attack 1 ∷ fails) × (stat_now Attack One strongest ≡ 999)
    × ((active One strongest).stages.attack ≡ 7) × ((dances tauros (at_attack_stage 12)).events ≡ fails)
    × ((dances tauros as_is).events ≡ events.Boost (tauros_of One) Attack 2 ∷ []) × (stat_now Attack One (dances tauros as_is) ≡ 596)
    × ((dances (record tauros { attack = 100 }) (at_attack_stage 11)).events ≡ events.Boost (tauros_of One) Attack 1 ∷ [])
unfolding computing
shift_at_999 = (refl, refl, refl, refl, refl, refl, refl)

abbrev weakest : Progress
weakest = lower_stage Two One Attack 1 (fail One) (alone (record tauros { attack = 5 }) (at_attack_stage 1))

shift_at_1 : (weakest.events ≡ fails) × (stat_now Attack One weakest ≡ 1) × ((active One weakest).stages.attack ≡ 1)
unfolding computing
shift_at_1 = (refl, refl, refl)

-- Late effects (docs/MECHANICS.md, "Late effects"). Growl fails on a Substitute without a draw, misses under Mist
-- without a draw, and takes one otherwise. A foe that has to recharge sleeps, and loses its burn: a draw of 0 is
-- rejected, and 1 is the count. Bide draws (1 & 1) + 2

abbrev growls : (Active → Active) → Progress
growls foe = late_effect usual One (move_at 45) (effects.StatDown Attack 1) (facing tauros as_is tauros foe (Sweep 0))

growl : ((growls as_is).events ≡ events.Unboost (tauros_of Two) Attack 1 ∷ []) × ((growls (set (with_substitute 9))).events ≡ fails)
    × ((growls (set with_mist)).events ≡ events.Miss (tauros_of One) ∷ [])
    × (map (λ change. (growls change).drawn) (as_is ∷ set (with_substitute 9) ∷ set with_mist ∷ []) ≡ 1 ∷ 0 ∷ 0 ∷ [])
unfolding computing
growl = (refl, refl, refl, refl)

abbrev lulled : (Active → Active) → Progress
lulled foe = late_effect usual One (move_at 147) effects.InflictSleep (facing tauros as_is (record tauros { status = Burned }) foe (Sweep 0))

sleep_replaces_a_burn : ((lulled (set with_recharge)).events ≡ events.Status (tauros_of Two) kinds.Sleep ∷ [])
    × (status_of Two (lulled (set with_recharge)) ≡ Asleep 1 false) × ((lulled as_is).events ≡ fails)
    × ((lulled (set with_recharge)).drawn ∷ (lulled as_is).drawn ∷ [] ≡ 2 ∷ 0 ∷ [])
unfolding computing
sleep_replaces_a_burn = (refl, refl, refl, refl)

abbrev begins_bide : Progress
begins_bide = late_effect usual One (move_at 117) effects.Bide (facing tauros as_is tauros as_is (Sweep 1))

bide_begins : (begins_bide.events ≡ events.Start (tauros_of One) volatiles.Bide ∷ []) × (begins_bide.drawn ≡ 1)
    × ((underway One begins_bide).bide ≡ Some (record { turns = 3; energy = 0 }))
unfolding computing
bide_begins = (refl, refl, refl)

-- Haze (docs/MECHANICS.md, "Early effects"): the burned user's Attack is 298 again, and its burn stays. The foe
-- wakes, acts no more this turn, and keeps its Substitute but not its confusion

abbrev hazed : Progress
hazed = early_effect One (move_at 114) effects.Haze (facing (record tauros { status = Burned }) (at_attack_stage 3)
    (record tauros { status = Asleep 3 false }) (set λ c. with_substitute 9 (with_confusion 3 c)) (Sweep 0))

haze_clears : (hazed.events ≡ events.ClearAll ∷ events.Cure (tauros_of Two) kinds.Sleep ∷ []) × (hazed.skips ≡ true)
    × (stat_now Attack One hazed ≡ 298) × (status_of One hazed ≡ Burned) × (status_of Two hazed ≡ Healthy)
    × ((conditions Two hazed).substitute ≡ Some 9) × ((conditions Two hazed).confused ≡ None)
unfolding computing
haze_clears = (refl, refl, refl, refl, refl, refl, refl)

-- Events with the bytes and the lines that docs/MECHANICS.md gives for them.

abbrev tauros_one : Who
tauros_one = record { side = One; species = 128 }

abbrev tauros_two : Who
tauros_two = record { side = Two; species = 128 }

abbrev health_of : ℕ → Option Kind → Health
health_of hp kind = record { hp = hp; max = 353; kind = kind }

-- The end of a battle (docs/MECHANICS.md, "Log bytes", "Lines"): a critical hit by Strength makes the foe fall.
abbrev last_hit : List Event
last_hit =
    events.Move tauros_one 70 tauros_two
    ∷ events.Crit tauros_two
    ∷ events.Damage tauros_two (health_of 0 None) Direct
    ∷ events.Faint tauros_two
    ∷ events.Win One
    ∷ []

-- Two members come out (docs/MECHANICS.md, "Lines", "Events").
abbrev coming_out : List Event
coming_out =
    events.Switch tauros_one 1 100 (health_of 353 None)
    ∷ events.Switch tauros_two 1 50 (health_of 120 (Some Paralysis))
    ∷ events.Turn 1
    ∷ []

last_hit-codes : codes_of last_hit
    ≡ 0x03 ∷ 0x01 ∷ 0x80 ∷ 0x46 ∷ 0x02 ∷ 0x80 ∷ 0x07 ∷ 0x02 ∷ 0x80 ∷ 0x05 ∷ 0x02 ∷ 0x80 ∷ 0x00 ∷ 0x00 ∷ 0x61 ∷ 0x01 ∷ 0x00 ∷ 0x00 ∷ 0x19 ∷ 0x02 ∷ 0x80 ∷ 0x1A ∷ 0x01 ∷ []
last_hit-codes = refl

last_hit-lines : lines last_hit
    ≡ codes "|move|p1a: Tauros|Strength|p2a: Tauros\n|-crit|p2a: Tauros\n|-damage|p2a: Tauros|0 fnt\n|faint|p2a: Tauros\n|win|p1\n"
unfolding species_name species_names move_name move_names name_at digits
last_hit-lines = refl

coming_out-lines : lines coming_out
    ≡ codes "|switch|p1a: Tauros|Tauros|353/353\n|switch|p2a: Tauros|Tauros, L50|120/353 par\n|turn|1\n"
unfolding species_name species_names name_at digits
coming_out-lines = refl
