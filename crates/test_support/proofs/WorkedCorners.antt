-- Worked examples: corners, which are whole updates in which rules meet that rarely do (docs/TESTING.md).
use Rattle.std.proofs.Common.{List, None, Option, Some, [], false, map, refl, replicate, true, ℕ, ◌++◌, ◌-◌, ◌∷◌, ◌≡◌}
use Rattle.gen1_stats.specs.declared.member.Status.{Status}
use Rattle.gen1_stats.specs.declared.member.Status.TheVariants.{Healthy, Asleep, Burned, Paralysed, Frozen, Poisoned}
use Rattle.gen1_machine.specs.declared.side.Side.{Side}
use Rattle.gen1_machine.specs.declared.side.Side.TheVariants.{One, Two}
use Rattle.gen1_machine.specs.declared.event.Event.{Event}
use Rattle.gen1_machine.specs.declared.side.UsedMove.TheVariants.{Slot}
use Rattle.gen1_rolls.specs.Streams.{Link, Stream, Sweep}
use Rattle.gen1_stats.specs.Members.{Member}
use Rattle.gen1_machine.specs.Rules.{rules_of}
use Rattle.gen1_machine.specs.Sides.{other}
use Rattle.gen1_machine.specs.Conditions.{with_charging, with_confusion, with_invulnerability, with_recharge, with_seed, with_thrash, ActiveConditions, with_disabled, with_substitute}
use Rattle.gen1_machine.specs.State.{known_in, party, usual_terms, with_party, Active}
use Rattle.gen1_machine.specs.Progress.{conditions, is_invulnerable, member, set_last_damage, status_of, underway, Progress, active, stat_now}
use Rattle.gen1_machine.specs.Ruling.{ruling_of, Ruling}
use Rattle.gen1_machine.specs.Step.{update}
use Rattle.gen1_machine.proofs.Computing.{computing}
use Rattle.gen1_machine.proofs.WorkedRules.{tauros, knowing, facing, as_is, set, hp_of, usual}
use Rattle.gen1_machine.proofs.WorkedMoves.{tauros_of, healthy_at, hurt, left_with, drawing, moves}
use Rattle.gen1_tables.specs.declared.effect.Stat.TheVariants.{Accuracy, Attack}
use Rattle.gen1_machine.specs.declared.side.Pick.TheVariants.{Use}
use Rattle.gen1_machine.specs.CurrentStats.{stage_of}
use Rattle.gen1_machine.specs.Moves.{move_at}
use Rattle.gen1_machine.specs.Gate.{gate}
use Rattle.gen1_machine.specs.SideEffects.{side_effect}
use Rattle.gen1_machine.specs.Action.{act}
use Rattle.gen1_machine.specs.declared.terms.Outcome.TheVariants as outcomes
use Rattle.gen1_machine.specs.declared.terms.Request.TheVariants as requests
use Rattle.gen1_machine.specs.declared.event.Kind.TheVariants as kinds
use Rattle.gen1_machine.specs.declared.event.CantReason.TheVariants as reasons
use Rattle.gen1_machine.specs.declared.event.DamageSource.TheVariants as sources
use Rattle.gen1_machine.specs.declared.event.Volatile.TheVariants as volatiles
use Rattle.gen1_machine.specs.declared.event.Event.TheVariants as events
use Rattle.gen1_machine.specs.declared.side.Choice.TheVariants as choices
use Rattle.gen1_tables.specs.declared.effect.Effect.TheVariants as effects

-- Side 2 is a little slower, so side 1 is first, without a draw

abbrev pub slower : Member → Member
slower m = record m { speed = 317 }

abbrev idler : Member
idler = slower (knowing 150 10)

abbrev joined_by : Side → Member → Progress → Progress
joined_by s m p = record p { field = with_party s (record (party s p.field) { members = (party s p.field).members ++ m ∷ [] }) p.field }

-- A side in the middle of its only move.
abbrev amid : (ActiveConditions → ActiveConditions) → Active → Active
amid change a = record a { current_move = Slot 1; picked_move = Slot 1; conditions = change a.conditions }

-- An update in which side 1 chooses a move, or continues. Side 2 chooses its move

abbrev both_choose : Progress → Progress
both_choose p = update usual (choices.Move 1) (choices.Move 1) p

abbrev one_goes_on : Progress → Progress
one_goes_on p = update usual (choices.Move 0) (choices.Move 1) p

abbrev pub two_goes_on : Ruling → Progress → Progress
two_goes_on r p = update r (choices.Move 1) (choices.Move 0) p

abbrev moves_by : Side → ℕ → Event
moves_by s move = events.Move (tauros_of s) move (tauros_of (other s))

abbrev splashes : Side → List Event
splashes s = moves_by s 150 ∷ events.Activate (tauros_of s) volatiles.Splash ∷ []

-- Side 2 uses Splash, and the next turn begins.
abbrev then_idles : List Event
then_idles = splashes Two ++ events.Turn 2 ∷ []

abbrev pp_of : Side → Progress → ℕ
pp_of s p = (known_in 1 (member s p).moves).pp

-- Hyper Beam is used again (docs/MECHANICS.md, "Action"). With its power of 150, 42 * 150 * 74 / 72 is 6475, / 50 is
-- 129, + 2 is 131, and 196 for the user's own type. That leaves 157 of 353. Its user, side 2, chose to recharge

abbrev recharging : Member → ℕ → Stream → Progress
recharging user pp_left stream = facing user as_is (slower (knowing 63 pp_left)) (amid with_recharge) stream

abbrev beamed_anew : List Event
beamed_anew = moves_by Two 63 ∷ hurt One 157 ∷ events.MustRecharge (tauros_of Two) ∷ events.Turn 2 ∷ []

-- A sleep move clears Recharge and then fails by the sleep clause. The draws 255, 255 and 0 give no critical hit, the
-- factor 255, and a hit. It costs one PP of five

abbrev sleep_clause_only : Ruling
sleep_clause_only = ruling_of (record usual_terms { rules = rules_of 1 })

abbrev clause_holds : Progress
clause_holds = two_goes_on sleep_clause_only (joined_by Two (record tauros { status = Asleep 3 true })
    (recharging (knowing 147 15) 5 (drawing 255 255 0 0 0)))

beam_anew_by_the_clause : (clause_holds.events ≡ moves_by One 147 ∷ events.Fail (tauros_of One) ∷ beamed_anew)
    × (clause_holds.drawn ∷ pp_of Two clause_holds ∷ [] ≡ 3 ∷ 4 ∷ []) × ((underway Two clause_holds).recharge ≡ true)
    × (status_of Two clause_holds ≡ Healthy)
unfolding computing
beam_anew_by_the_clause = (refl, refl, refl, refl)

-- A trapping move clears Recharge and then misses. Wrap draws the count 0, 255 and 255 for its damage, and misses at
-- 255. One less than 0 PP is 63

abbrev wrap_misses : Progress
wrap_misses = two_goes_on usual (recharging (knowing 35 20) 0 (Link (0 ∷ replicate 5 255 ++ replicate 4 0)))

beam_anew_by_a_miss : (wrap_misses.events ≡ moves_by One 35 ∷ events.Miss (tauros_of One) ∷ beamed_anew)
    × (wrap_misses.drawn ∷ pp_of Two wrap_misses ∷ [] ≡ 7 ∷ 63 ∷ []) × ((underway One wrap_misses).trapping ≡ None)
    × ((underway Two wrap_misses).recharge ≡ true)
unfolding computing
beam_anew_by_a_miss = (refl, refl, refl, refl)

-- Rest (docs/MECHANICS.md, "Early effects") at a maximum of 703 fails at a loss of 255 or of 511: neither sleep nor
-- HP come. With one HP more or less it works

abbrev rests : ℕ → Progress
rests lost = both_choose (facing (record (knowing 156 10) { max = 703; hp = 703 - lost }) as_is idler as_is (drawing 9 9 9 9 9))

abbrev rest_fails : List Event
rest_fails = moves_by One 156 ∷ events.Fail (tauros_of One) ∷ then_idles

abbrev rested : List Event
rested = moves_by One 156 ∷ events.Status (tauros_of One) kinds.Sleep
    ∷ events.Heal (tauros_of One) (record { hp = 703; max = 703; kind = Some kinds.Sleep }) ∷ then_idles

rest_at_255 : ((rests 255).events ≡ rest_fails) × (status_of One (rests 255) ≡ Healthy) × (hp_of One (rests 255) ∷ (rests 255).drawn ∷ [] ≡ 448 ∷ 0 ∷ [])
    × ((rests 254).events ≡ rested) × ((rests 256).events ≡ rested) × (status_of One (rests 256) ≡ Asleep 2 false)
unfolding computing
rest_at_255 = (refl, refl, refl, refl, refl, refl)

rest_at_511 : ((rests 511).events ≡ rest_fails) × (status_of One (rests 511) ≡ Healthy) × (hp_of One (rests 511) ∷ (rests 511).drawn ∷ [] ≡ 192 ∷ 0 ∷ [])
    × ((rests 510).events ≡ rested) × ((rests 512).events ≡ rested) × (status_of One (rests 512) ≡ Asleep 2 false)
unfolding computing
rest_at_511 = (refl, refl, refl, refl, refl, refl)

-- Bide (docs/MECHANICS.md, "Going on"): the sum has 16 bits. 65535 and 3 give 2, which is stored, or let out as 4.
-- 65535 and 1 give 0, a miss. Twice 32769 is 2

abbrev storing : ℕ → ℕ → ActiveConditions → ActiveConditions
storing turns energy c = record c { underway = record c.underway { bide = Some (record { turns = turns; energy = energy }) } }

abbrev bides_at : (Active → Active) → ℕ → ℕ → ℕ → Progress
bides_at foe turns energy damage =
    one_goes_on (set_last_damage damage (facing (knowing 117 10) (amid (storing turns energy)) idler foe (drawing 9 9 9 9 9)))

abbrev bides : ℕ → ℕ → ℕ → Progress
bides = bides_at as_is

abbrev bide_ends : Event
bide_ends = events.End (tauros_of One) volatiles.Bide

sum_past_65535 : ((bides 2 65535 3).events ≡ events.Activate (tauros_of One) volatiles.Bide ∷ then_idles)
    × ((underway One (bides 2 65535 3)).bide ≡ Some (record { turns = 1; energy = 2 }))
    × ((bides 1 65535 3).events ≡ bide_ends ∷ hurt Two 349 ∷ then_idles)
    × ((bides 1 65535 1).events ≡ bide_ends ∷ events.Miss (tauros_of One) ∷ then_idles)
    × ((bides 1 32769 0).events ≡ bide_ends ∷ hurt Two 351 ∷ then_idles)
    × (map (λ damage. (bides 1 65535 damage).drawn) (1 ∷ 3 ∷ []) ≡ 0 ∷ 0 ∷ [])
unfolding computing
sum_past_65535 = (refl, refl, refl, refl, refl, refl)

-- Bide's energy lands on an Invulnerable foe, without a hit test: 30 and a last damage of 40 give 140. The foe, which
-- has dug in, then strikes: 42 * 100 * 74 / 72 is 4316, / 50 is 86, + 2 is 88

abbrev digging : ActiveConditions → ActiveConditions
digging c = with_charging (with_invulnerability c)

abbrev out_of_the_hole : Progress
out_of_the_hole = update usual (choices.Move 0) (choices.Move 0)
    (set_last_damage 40 (facing (knowing 117 10) (amid (storing 1 30)) (slower (knowing 91 10)) (amid digging) (drawing 255 255 0 0 0)))

bide_on_the_invulnerable : (out_of_the_hole.events ≡ bide_ends ∷ hurt Two 213 ∷ moves_by Two 91 ∷ hurt One 265 ∷ events.Turn 2 ∷ [])
    × (out_of_the_hole.drawn ≡ 3) × ((bides_at (set with_invulnerability) 1 30 40).events ≡ bide_ends ∷ hurt Two 213 ∷ then_idles)
    × (is_invulnerable Two (bides_at (set with_invulnerability) 1 30 40) ≡ true)
unfolding computing
bide_on_the_invulnerable = (refl, refl, refl, refl)

-- Counter (docs/MECHANICS.md, "Counter", "Hit on itself"): a foe that picked Strength hits itself at a draw of 128,
-- for 42 * 40 * 74 / 72, 1726, / 50 is 34, + 2 is 36. Counter deals 72. A foe that picked Surf, a Water move, isn't
-- countered, whatever it did

abbrev countered : ℕ → Progress
countered picked = both_choose (facing (knowing 68 20) as_is (knowing picked 10) (set (with_confusion 3)) (drawing 128 255 0 0 0))

abbrev hits_itself : List Event
hits_itself = events.Activate (tauros_of Two) volatiles.Confusion ∷ events.Damage (tauros_of Two) (healthy_at 317) sources.Confusion ∷ []

counter_after_a_hit_on_itself : ((countered 70).events ≡ hits_itself ++ moves_by One 68 ∷ hurt Two 245 ∷ events.Turn 2 ∷ [])
    × ((countered 57).events ≡ hits_itself ++ moves_by One 68 ∷ events.Miss (tauros_of One) ∷ events.Turn 2 ∷ [])
    × ((countered 70).drawn ∷ (countered 57).drawn ∷ pp_of Two (countered 70) ∷ [] ≡ 3 ∷ 2 ∷ 10 ∷ [])
    × ((countered 57).field.last_damage ≡ 36)
unfolding computing
counter_after_a_hit_on_itself = (refl, refl, refl, refl)

-- Charging (docs/MECHANICS.md, "Charging", "Conditions"): a member that was left Invulnerable begins Razor Wind, and
-- Strength misses it. Its second turn ends both conditions, and Strength hits. Both deal 42 * 80 * 74 / 72, 3453, /
-- 50 is 69, + 2 is 71, and 106 for the user's own type

abbrev winds_up : Progress
winds_up = both_choose (facing (knowing 13 10) (set with_invulnerability) (slower (knowing 70 10)) as_is
    (Link (255 ∷ 255 ∷ 255 ∷ 255 ∷ 0 ∷ 255 ∷ 255 ∷ 0 ∷ 0 ∷ 0 ∷ [])))

abbrev winds_on : Progress
winds_on = one_goes_on (record winds_up { events = [] })

charge_ends_an_older_invulnerability : (winds_up.events ≡ events.Prepare (tauros_of One) 13 ∷ moves_by Two 70 ∷ events.Miss (tauros_of Two) ∷ events.Turn 2 ∷ [])
    × (winds_on.events ≡ moves_by One 13 ∷ hurt Two 247 ∷ moves_by Two 70 ∷ hurt One 247 ∷ events.Turn 3 ∷ [])
    × (is_invulnerable One winds_up ∷ (underway One winds_up).charging ∷ is_invulnerable One winds_on ∷ (underway One winds_on).charging ∷ []
    ≡ true ∷ true ∷ false ∷ false ∷ [])
    × (winds_up.drawn ∷ winds_on.drawn ∷ [] ≡ 2 ∷ 8 ∷ [])
unfolding computing
charge_ends_an_older_invulnerability = (refl, refl, refl, refl)

-- BadPoison outlasts its poison (docs/MECHANICS.md, "Residual damage", "Early effects"). From the counter 3, a
-- sixteenth of 353, which is 22, becomes 88, and 110 at the next step. This holds for a seed alone, a burn alone, and
-- both. Without either the counter stays

abbrev outlasting : Status → (ActiveConditions → ActiveConditions) → Progress
outlasting status change = both_choose (facing (record (knowing 150 10) { status = status }) (set λ c. change (record c { bad_poison = Some 3 }))
    (record idler { hp = 200 }) as_is (drawing 9 9 9 9 9))

abbrev as_they_are : ActiveConditions → ActiveConditions
as_they_are c = c

abbrev seed_on_the_burned : List Event
seed_on_the_burned = events.Damage (tauros_of One) (record { hp = 155; max = 353; kind = Some kinds.Burn }) sources.LeechSeed
    ∷ events.Heal (tauros_of Two) (healthy_at 310) ∷ []

abbrev burns : Event
burns = events.Damage (tauros_of One) (record { hp = 265; max = 353; kind = Some kinds.Burn }) sources.Burn

abbrev counter_of : Progress → Option ℕ
counter_of p = (conditions One p).bad_poison

counter_without_poison : ((outlasting Healthy as_they_are).events ≡ splashes One ++ then_idles) × (counter_of (outlasting Healthy as_they_are) ≡ Some 3)
    × ((outlasting Healthy with_seed).events ≡ splashes One ++ events.Damage (tauros_of One) (healthy_at 265) sources.LeechSeed
    ∷ events.Heal (tauros_of Two) (healthy_at 288) ∷ then_idles)
    × (counter_of (outlasting Healthy with_seed) ≡ Some 4)
unfolding computing
counter_without_poison = (refl, refl, refl, refl)

counter_under_a_burn : ((outlasting Burned as_they_are).events ≡ splashes One ++ burns ∷ then_idles) × (counter_of (outlasting Burned as_they_are) ≡ Some 4)
    × ((outlasting Burned with_seed).events ≡ splashes One ++ burns ∷ seed_on_the_burned ++ then_idles)
    × (counter_of (outlasting Burned with_seed) ≡ Some 5)
unfolding computing
counter_under_a_burn = (refl, refl, refl, refl)

-- Thrash ends (docs/MECHANICS.md, "Going on") for a user that is confused already. The gate takes one turn of the
-- confusion, and lets it act at 127. Then 3 draws a new count of 5, and 255, 255 and 0 give the hit. Its power is 90:
-- 42 * 90 * 74 / 72 is 3885, / 50 is 77, + 2 is 79, and 118 for the user's own type. If the gate ends the confusion,
-- the new one still comes

abbrev thrashed_out : ℕ → Stream → Progress
thrashed_out confused stream =
    one_goes_on (facing (knowing 37 10) (λ a. record (amid (λ c. with_thrash 1 (with_confusion confused c)) a) { kept_accuracy = 255 }) idler as_is stream)

abbrev confused_anew : List Event
confused_anew = moves_by One 37 ∷ events.Start (tauros_of One) volatiles.Confusion ∷ hurt Two 235 ∷ then_idles

abbrev confusion_of : Progress → Option ℕ
confusion_of p = (conditions One p).confused

confused_anew_as_thrash_ends : ((thrashed_out 4 (drawing 127 3 255 255 0)).events ≡ events.Activate (tauros_of One) volatiles.Confusion ∷ confused_anew)
    × (confusion_of (thrashed_out 4 (drawing 127 3 255 255 0)) ≡ Some 5) × ((underway One (thrashed_out 4 (drawing 127 3 255 255 0))).thrash ≡ None)
    × ((thrashed_out 1 (drawing 3 255 255 0 0)).events ≡ events.End (tauros_of One) volatiles.Confusion ∷ confused_anew)
    × (confusion_of (thrashed_out 1 (drawing 3 255 255 0 0)) ≡ Some 5)
    × ((thrashed_out 4 (drawing 127 3 255 255 0)).drawn ∷ (thrashed_out 1 (drawing 3 255 255 0 0)).drawn ∷ pp_of One (thrashed_out 1 (drawing 3 255 255 0 0)) ∷ []
    ≡ 5 ∷ 4 ∷ 10 ∷ [])
unfolding computing
confused_anew_as_thrash_ends = (refl, refl, refl, refl, refl, refl)

-- The turn limit (docs/MECHANICS.md, "Turn limit", "Falls and requests") in the update in which both fall, by an
-- Explosion on 10 HP. It is a tie, without a replacement, even if either side has other members left. One turn
-- earlier both are asked for a replacement. If one side has no member left, the other wins

abbrev blast : ℕ → (Progress → Progress) → Progress
blast limit join = update (ruling_of (record usual_terms { limit = limit })) (choices.Move 1) (choices.Move 1)
    (join (facing (knowing 153 5) as_is (slower (left_with 10)) as_is (drawing 255 255 0 0 0)))

abbrev with_two_each : Progress → Progress
with_two_each p = joined_by One tauros (joined_by Two tauros p)

abbrev both_fell : List Event
both_fell = moves_by One 153 ∷ hurt Two 0 ∷ events.Faint (tauros_of Two) ∷ events.Faint (tauros_of One) ∷ []

limit_as_both_fall : ((blast 1 with_two_each).events ≡ both_fell ++ events.Tie ∷ []) × ((blast 1 with_two_each).field.outcome ≡ outcomes.Tie)
    × ((blast 1 with_two_each).field.request_one ≡ requests.Pass) × ((blast 1 with_two_each).field.request_two ≡ requests.Pass)
    × ((blast 2 with_two_each).events ≡ both_fell) × ((blast 2 with_two_each).field.request_one ≡ requests.Switch)
    × ((blast 2 with_two_each).field.request_two ≡ requests.Switch)
    × ((blast 1 (λ p. p)).events ≡ both_fell ++ events.Tie ∷ []) × ((blast 1 (joined_by Two tauros)).events ≡ both_fell ++ events.Win Two ∷ [])
    × ((blast 1 with_two_each).drawn ∷ (blast 1 with_two_each).field.turn ∷ [] ≡ 3 ∷ 1 ∷ [])
unfolding computing
limit_as_both_fall = (refl, refl, refl, refl, refl, refl, refl, refl, refl, refl)

-- A sleep move (docs/MECHANICS.md, "Late effects") that clears Recharge takes neither a test of the status nor a hit
-- test, so a paralysed and Invulnerable foe falls asleep. 8 has low bits of 0, and 13 has 5, of which the gate takes
-- one. Without Recharge the move misses, without a draw

abbrev sleepy : (ActiveConditions → ActiveConditions) → Status → Progress
sleepy change status = facing (knowing 147 15) as_is (slower (record (knowing 63 5) { status = status })) (amid change) (drawing 8 13 9 9 9)

abbrev lulled : Progress
lulled = two_goes_on usual (sleepy (λ c. with_recharge (with_invulnerability c)) Paralysed)

abbrev not_lulled : Progress
not_lulled = both_choose (sleepy with_invulnerability Healthy)

sleep_by_recharge_on_the_invulnerable : (lulled.events ≡ moves_by One 147 ∷ events.Status (tauros_of Two) kinds.Sleep
    ∷ events.Cant (tauros_of Two) reasons.Asleep ∷ events.Turn 2 ∷ [])
    × (status_of Two lulled ≡ Asleep 4 false) × (lulled.drawn ≡ 2)
    × (is_invulnerable Two lulled ∷ (underway Two lulled).recharge ∷ [] ≡ true ∷ false ∷ [])
    × (map (λ p. status_of Two p) (not_lulled ∷ []) ≡ Healthy ∷ [])
unfolding computing
sleep_by_recharge_on_the_invulnerable = (refl, refl, refl, refl, refl)

-- Worked examples: effects that fail or do nothing, and other rare cases (docs/TESTING.md).

-- Side 1 uses its only move on a Tauros: the events, and the number of draws

abbrev acts_on : ℕ → Member → (Active → Active) → Progress
acts_on move foe change = act usual One (Use (Slot 1)) (facing (knowing move 10) as_is foe change (drawing 0 0 0 0 0))

abbrev of_draws : Progress → List Event × ℕ
of_draws p = (p.events, p.drawn)

abbrev fails_at : ℕ → ℕ → List Event × ℕ
fails_at move draws = (moves move ∷ events.Fail (tauros_of One) ∷ [], draws)

abbrev being : Status → Member
being status = record tauros { status = status }

-- Early effects that fail without a draw (docs/MECHANICS.md, "Early effects"): Confuse Ray and Poison Powder on a
-- Substitute, Conversion on an Invulnerable foe, Thunder Wave on a burn.
early_effects_fail : (of_draws (acts_on 109 tauros (set (with_substitute 9))) ≡ fails_at 109 0)
    × (of_draws (acts_on 77 tauros (set (with_substitute 9))) ≡ fails_at 77 0)
    × (of_draws (acts_on 160 tauros (set with_invulnerability)) ≡ fails_at 160 0)
    × (of_draws (acts_on 86 (being Burned) as_is) ≡ fails_at 86 0)
unfolding computing
early_effects_fail = (refl, refl, refl, refl)

-- Disable (docs/MECHANICS.md, "Side effects") fails after its hit test if a move of the foe is disabled. The count
-- stays.
second_disable_fails : (of_draws (acts_on 50 tauros (set (with_disabled 1 5))) ≡ fails_at 50 1)
    × ((conditions Two (acts_on 50 tauros (set (with_disabled 1 5)))).disabled ≡ Some (record { slot = 1; turns = 5 }))
unfolding computing
second_disable_fails = (refl, refl)

-- Stage shifts (docs/MECHANICS.md, "Stage shift"): a rise by 1 at 999 is a net change of 0, so only the failure has
-- an event. At -6 Growl fails after its hit test

abbrev meditates : Progress
meditates = act usual One (Use (Slot 1)) (facing (record (knowing 96 10) { attack = 999 }) as_is tauros as_is (Sweep 0))

abbrev at_the_bottom : Active → Active
at_the_bottom a = record a { stages = record a.stages { attack = 0 } }

shifts_fail : (of_draws meditates ≡ fails_at 96 0) × ((active One meditates).stages.attack ∷ stat_now Attack One meditates ∷ [] ≡ 6 ∷ 999 ∷ [])
    × (of_draws (acts_on 45 tauros at_the_bottom) ≡ fails_at 45 1)
unfolding computing
shifts_fail = (refl, refl, refl)

-- Sand-Attack lowers a stage without a stat (docs/MECHANICS.md, "Stages").
accuracy_falls : (of_draws (acts_on 28 tauros as_is) ≡ (moves 28 ∷ events.Unboost (tauros_of Two) Accuracy 1 ∷ [], 1))
    × (stage_of Accuracy (active Two (acts_on 28 tauros as_is)).stages ≡ 5)
unfolding computing
accuracy_falls = (refl, refl)

-- Side effects on a foe with a status (docs/MECHANICS.md, "Side effects"): Ice Beam on poison and Flamethrower on a
-- burn draw nothing

abbrev affected : Status → Progress
affected status = side_effect usual One (move_at 58) effects.FreezeChance (facing tauros as_is (being status) as_is (Sweep 0))

abbrev burned_again : Progress
burned_again = side_effect usual One (move_at 53) (effects.BurnChance 26) (facing tauros as_is (being Burned) as_is (Sweep 0))

no_second_status : (of_draws (affected Poisoned) ≡ ([], 0)) × (status_of Two (affected Poisoned) ≡ Poisoned) × (of_draws burned_again ≡ ([], 0))
    × (status_of Two burned_again ≡ Burned)
unfolding computing
no_second_status = (refl, refl, refl, refl)

-- The freeze clause allows the first freeze (docs/MECHANICS.md, "Rules (sleep clause, freeze clause)"), which clears
-- Recharge

abbrev first_frozen : Progress
first_frozen = side_effect (ruling_of (record usual_terms { rules = rules_of 2 })) One (move_at 58) effects.FreezeChance
    (facing tauros as_is tauros (set with_recharge) (Sweep 25))

first_freeze_under_the_clause : (of_draws first_frozen ≡ (events.Status (tauros_of Two) kinds.Freeze ∷ [], 1))
    × (status_of Two first_frozen ≡ Frozen) × ((underway Two first_frozen).recharge ≡ false)
unfolding computing
first_freeze_under_the_clause = (refl, refl, refl)

-- A frozen member does nothing (docs/MECHANICS.md, "Gate")

abbrev frozen_stiff : Progress
frozen_stiff = gate One (Use (Slot 1)) (facing (being Frozen) as_is tauros as_is (Sweep 0))

frozen_at_the_gate : (of_draws frozen_stiff ≡ (events.Cant (tauros_of One) reasons.Frozen ∷ [], 0)) × (frozen_stiff.stopped ≡ true)
unfolding computing
frozen_at_the_gate = (refl, refl)

-- Haze thaws a foe, whose action is then skipped without an event (docs/MECHANICS.md, "Early effects")

abbrev thawed_by_haze : Progress
thawed_by_haze = two_goes_on usual (facing (knowing 114 10) as_is (slower (being Frozen)) as_is (Sweep 0))

haze_skips_the_thawed : (of_draws thawed_by_haze ≡ (moves 114 ∷ events.ClearAll ∷ events.Cure (tauros_of Two) kinds.Freeze ∷ events.Turn 2 ∷ [], 0))
    × (status_of Two thawed_by_haze ≡ Healthy)
unfolding computing
haze_skips_the_thawed = (refl, refl)

-- Dream Eater drains (docs/MECHANICS.md, "Recoil, drain and explosion"): 42 * 100 * 238 / 238 is 4200, / 50 is 84, +
-- 2 is 86, of which the user heals 43

abbrev dreamed : Progress
dreamed = act usual One (Use (Slot 1)) (facing (record (knowing 138 15) { hp = 300 }) as_is (being (Asleep 3 false)) as_is (drawing 255 255 0 0 0))

abbrev dreams_told : List Event
dreams_told = moves 138 ∷ events.Damage (tauros_of Two) (record { hp = 267; max = 353; kind = Some kinds.Sleep }) sources.Direct
    ∷ events.Heal (tauros_of One) (healthy_at 343) ∷ []

dream_eater_drains : of_draws dreamed ≡ (dreams_told, 3)
unfolding computing
dream_eater_drains = refl
