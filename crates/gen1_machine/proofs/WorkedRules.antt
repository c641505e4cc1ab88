-- Worked examples: single rules (docs/PROOFS.md, "Worked examples").
use Rattle.std.proofs.Common.{Bool, List, None, Option, Some, [], false, map, nat_lt, not, refl, replicate, slice_index, suc, true, zero, ℕ, ◌&&◌, ◌++◌, ◌+◌, ◌==◌, ◌∷◌, ◌≡◌}
use Rattle.gen1_tables.specs.declared.types.Element.TheVariants.{Normal, Flying, Water, Ice}
use Rattle.gen1_tables.specs.declared.effect.Stat.TheVariants.{Attack}
use Rattle.gen1_tables.specs.declared.effect.Effect.TheVariants as effects
use Rattle.gen1_stats.specs.declared.member.Status.{Status}
use Rattle.gen1_stats.specs.declared.member.Status.TheVariants.{Healthy, Asleep, Poisoned, Burned, Frozen, Paralysed}
use Rattle.gen1_machine.specs.declared.side.Side.{Side}
use Rattle.gen1_machine.specs.declared.side.Side.TheVariants.{One, Two}
use Rattle.gen1_machine.specs.declared.terms.Outcome.TheVariants as outcomes
use Rattle.gen1_machine.specs.declared.terms.Request.TheVariants as requests
use Rattle.gen1_machine.specs.declared.event.Event.{Event}
use Rattle.gen1_machine.specs.declared.event.Event.TheVariants as events
use Rattle.gen1_machine.specs.declared.side.UsedMove.TheVariants.{Slot}
use Rattle.gen1_machine.specs.declared.side.Pick.{Pick}
use Rattle.gen1_machine.specs.declared.side.Pick.TheVariants.{Use, Continue, Idle}
use Rattle.gen1_tables.specs.Types.{any}
use Rattle.gen1_rolls.specs.Streams.{byte_at, first, Stream, Link, Sweep}
use Rattle.gen1_stats.specs.Members.{Member}
use Rattle.gen1_machine.specs.Rules.{rules_of}
use Rattle.gen1_machine.specs.LogBytes.{codes_of}
use Rattle.gen1_machine.specs.Conditions.{with_charging, with_invulnerability, with_recharge, with_flinch, with_reflect, with_substitute, with_seed, with_bad_poison, ActiveConditions}
use Rattle.gen1_machine.specs.State.{known_in, with_picked_move, level_stages, usual_terms, Stages, Active, Party}
use Rattle.gen1_machine.specs.Moves.{move_at}
use Rattle.gen1_machine.specs.Progress.{new_action, stay, draw_until, note, set_last_damage, conditions, underway, member, status_of, stat_now, is_invulnerable, is_trapping, Progress}
use Rattle.gen1_machine.specs.CriticalHits.{critical_bound}
use Rattle.gen1_machine.specs.Damage.{fitted_attack, fitted_defense, before_types, type_steps, times_factor, vary, roll_damage, DamageNumbers}
use Rattle.gen1_machine.specs.HitTest.{scaled, hit_test}
use Rattle.gen1_machine.specs.Landing.{land}
use Rattle.gen1_machine.specs.Gate.{gate}
use Rattle.gen1_machine.specs.ResidualDamage.{residual}
use Rattle.gen1_machine.specs.StageShift.{raise_stage, lower_stage}
use Rattle.gen1_machine.specs.Ruling.{ruling_of, Ruling}
use Rattle.gen1_machine.specs.Falls.{settle}
use Rattle.gen1_machine.specs.EarlyEffects.{heal}
use Rattle.gen1_machine.specs.LateEffects.{late_effect}
use Rattle.gen1_machine.specs.SideEffects.{side_effect}
use Rattle.gen1_machine.specs.GoingOn.{trap}
use Rattle.gen1_machine.specs.FixedDamage.{psywave, fixed_damage}
use Rattle.gen1_machine.specs.Action.{act}
use Rattle.gen1_machine.specs.SwitchingIn.{sent_out, start}
use Rattle.gen1_machine.specs.TurnOrder.{in_order}
use Rattle.gen1_machine.specs.Turn.{set_picked}
use Rattle.gen1_machine.proofs.Computing.{computing}

-- Two members that face each other in the middle of an update

abbrev pub tauros : Member
tauros = record {
  species = 128;
  level = 100;
  max = 353;
  hp = 353;
  attack = 298;
  defense = 288;
  speed = 318;
  special = 238;
  status = Healthy;
  moves = record { id = 70; pp = 24 } ∷ [];
}

abbrev pub knowing : ℕ → ℕ → Member
knowing move pp = record tauros { moves = record { id = move; pp = pp } ∷ [] }

abbrev out_with : Member → (Active → Active) → Party
out_with m change = record { members = m ∷ []; active = change (sent_out 1 m) }

abbrev pub facing : Member → (Active → Active) → Member → (Active → Active) → Stream → Progress
facing m f n g stream = record {
  field = record {
    one = out_with m f;
    two = out_with n g;
    last_damage = 0;
    turn = 1;
    outcome = outcomes.Ongoing;
    request_one = requests.Move;
    request_two = requests.Move;
  };
  stream = stream;
  drawn = 0;
  events = [];
  stopped = false;
  skips = false;
  action = new_action One;
}

abbrev pub as_is : Active → Active
as_is a = a

abbrev pub set : (ActiveConditions → ActiveConditions) → Active → Active
set change a = record a { conditions = change a.conditions }

abbrev pub hp_of : Side → Progress → ℕ
hp_of s p = (member s p).hp

abbrev pub usual : Ruling
usual = ruling_of usual_terms

abbrev code_sent : Progress → List ℕ
code_sent p = codes_of p.events

abbrev numbers_up : ℕ → ℕ → List ℕ
numbers_up zero n = []
numbers_up (suc k) n = n ∷ numbers_up k (n + 1)

abbrev zero_seed : Stream
zero_seed = Link (replicate 10 0)

-- Link numbers (docs/MECHANICS.md, "Link numbers"): seeds 1 to 10 draw 1 to 9, then 6, 11, 16.
link_numbers : map (byte_at (Link (numbers_up 10 1))) (numbers_up 12 0)
    ≡ 1 ∷ 2 ∷ 3 ∷ 4 ∷ 5 ∷ 6 ∷ 7 ∷ 8 ∷ 9 ∷ 6 ∷ 11 ∷ 16 ∷ []
unfolding computing
link_numbers = refl

-- Draws until a byte passes a test (docs/MECHANICS.md, "Link numbers"): the last of a sweep, a late one of a link
-- battle, and none

abbrev until_late : Progress → Progress
until_late p = draw_until (λ b. b == 51) set_last_damage p

abbrev until_never : Stream → Progress
until_never stream = draw_until (λ b. false) set_last_damage (facing tauros as_is tauros as_is stream)

late_draws : (first (Sweep 7) 0 (λ b. b == 6) ≡ Some 255) × ((until_late (facing tauros as_is tauros as_is zero_seed)).drawn ≡ 2296)
unfolding computing
late_draws = (refl, refl)

draws_without_end : (until_never (Sweep 7)).drawn ∷ (until_never zero_seed).drawn ∷ [] ≡ 256 ∷ 2304 ∷ []
unfolding computing
draws_without_end = refl

-- Damage (docs/MECHANICS.md, "Damage formula"): Body Slam between two Tauros, with all 39 factors

abbrev body_slam : ℕ → DamageNumbers
body_slam level = record {
  level = level;
  power = 85;
  attack = fitted_attack 298 288;
  defense = fitted_defense 298 288;
  kind = Normal;
  user_first = Normal;
  user_second = Normal;
  foe_first = Normal;
  foe_second = Normal;
  halved = false;
}

abbrev dealt : DamageNumbers → Option ℕ → List ℕ
dealt n None = []
dealt n (Some d) = map (λ factor. times_factor factor (type_steps d n)) (numbers_up 39 217)

body_slam_damage : dealt (body_slam 100) (before_types (body_slam 100))
    ≡ 95 ∷ 95 ∷ 96 ∷ 96 ∷ 97 ∷ 97 ∷ 97 ∷ 98 ∷ 98 ∷ 99 ∷ 99 ∷ 100 ∷ 100 ∷ 101 ∷ 101 ∷ 101 ∷ 102 ∷ 102 ∷ 103 ∷ 103 ∷ 104 ∷ 104
    ∷ 104 ∷ 105 ∷ 105 ∷ 106 ∷ 106 ∷ 107 ∷ 107 ∷ 108 ∷ 108 ∷ 108 ∷ 109 ∷ 109 ∷ 110 ∷ 110 ∷ 111 ∷ 111 ∷ 112 ∷ []
unfolding computing
body_slam_damage = refl

abbrev critical_body_slam : List ℕ
critical_body_slam = dealt (body_slam 200) (before_types (body_slam 200))

critical_body_slam_damage : slice_index critical_body_slam 0 ∷ slice_index critical_body_slam 38 ∷ [] ≡ 184 ∷ 217 ∷ []
unfolding computing
critical_body_slam_damage = refl

-- Ice on Gyarados (docs/MECHANICS.md, "Types"): 75, then 37, then 74.
ice_on_gyarados : type_steps 75 (record {
  level = 100;
  power = 95;
  attack = 1;
  defense = 1;
  kind = Ice;
  user_first = Normal;
  user_second = Normal;
  foe_first = Water;
  foe_second = Flying;
  halved = false;
}) ≡ 74
unfolding computing
ice_on_gyarados = refl

-- The factor (docs/MECHANICS.md, "Factors"): 217 after 180 draws, 255 after 2

abbrev varied : ℕ → Progress
varied start = vary 255 (facing tauros as_is tauros as_is (Sweep start))

factors : (varied 0).drawn ∷ (varied 0).field.last_damage ∷ (varied 254).drawn ∷ (varied 254).field.last_damage ∷ [] ≡ 180 ∷ 217 ∷ 2 ∷ 255 ∷ []
unfolding computing
factors = refl

-- Critical hits of Persian (docs/MECHANICS.md, "Critical hits"): Slash, Strength, and both with Focus Energy.
persian : critical_bound 115 false true ∷ critical_bound 115 false false ∷ critical_bound 115 true true ∷ critical_bound 115 true false ∷ []
    ≡ 255 ∷ 57 ∷ 112 ∷ 14 ∷ []
unfolding computing
persian = refl

-- Hit test (docs/MECHANICS.md, "Hit test"): at an accuracy of 255, a draw of 254 hits and 255 misses

abbrev strength_misses : ℕ → Bool
strength_misses b = (hit_test One (move_at 70) 255 (facing tauros as_is tauros as_is (Sweep b))).action.missed

full_accuracy : strength_misses 254 ∷ strength_misses 255 ∷ [] ≡ false ∷ true ∷ []
unfolding computing
full_accuracy = refl

abbrev staged : ℕ → ℕ → Stages
staged accuracy evasion = record level_stages { accuracy = accuracy; evasion = evasion }

accuracy_bytes : scaled 76 (staged 0 6) level_stages ∷ scaled 76 (staged 0 6) (staged 6 12)
    ∷ scaled 255 (staged 12 6) (staged 6 12) ∷ scaled 255 (staged 0 6) (staged 6 0) ∷ [] ≡ 19 ∷ 4 ∷ 255 ∷ 252 ∷ []
unfolding computing
accuracy_bytes = refl

-- Landing on a substitute of 88 HP (docs/MECHANICS.md, "Landing"): equal damage leaves it at 0, one more breaks it,
-- and damage above a byte breaks any

abbrev after_landing : ℕ → Option ℕ
after_landing damage =
    (conditions Two (land Two (set_last_damage damage (facing tauros as_is tauros (set (with_substitute 88)) (Sweep 0))))).substitute

substitute_of_88 : after_landing 88 ∷ after_landing 89 ∷ after_landing 256 ∷ [] ≡ Some 0 ∷ None ∷ None ∷ []
unfolding computing
substitute_of_88 = refl

-- Explosion (docs/MECHANICS.md, "Recoil, drain and explosion"): if a substitute breaks, the user lives. On a hit and
-- on a miss the user falls

abbrev explodes_at : (Active → Active) → Progress
explodes_at foe = act usual One (Use (Slot 1)) (facing (knowing 153 5) as_is tauros foe (Sweep 0))

abbrev evading : Active → Active
evading a = record a { stages = staged 6 12 }

explosion : hp_of One (explodes_at (set (with_substitute 1))) ∷ hp_of One (explodes_at as_is) ∷ hp_of One (explodes_at evading)
    ∷ hp_of Two (explodes_at evading) ∷ [] ≡ 353 ∷ 0 ∷ 0 ∷ 353 ∷ []
unfolding computing
explosion = refl

-- A burned foe with Attack 149 (docs/MECHANICS.md, "Stage shift"): Growl makes it 98, and the user's Swords Dance 49

abbrev burned_foe : Progress
burned_foe = facing tauros as_is (record tauros { status = Burned }) as_is (Sweep 0)

abbrev growled : Progress
growled = lower_stage One Two Attack 1 stay burned_foe

penalties : stat_now Attack Two burned_foe ∷ stat_now Attack Two growled
    ∷ stat_now Attack Two (raise_stage One One Attack 2 stay growled) ∷ [] ≡ 149 ∷ 98 ∷ 49 ∷ []
unfolding computing
penalties = refl

-- Recover at a maximum of 703 (docs/MECHANICS.md, "Early effects"): it fails at a loss of 0, 255 or 511

abbrev recovered_from : ℕ → ℕ
recovered_from hp = hp_of One (heal One (move_at 105) (facing (record tauros { max = 703; hp = hp }) as_is tauros as_is (Sweep 0)))

recovery : map recovered_from (703 ∷ 448 ∷ 192 ∷ 449 ∷ 447 ∷ []) ≡ 703 ∷ 448 ∷ 192 ∷ 703 ∷ 703 ∷ []
unfolding computing
recovery = refl

-- The gate (docs/MECHANICS.md, "Gate"): sleep comes before a flinch, and the flinch stays

abbrev drowsy : Progress
drowsy = gate One (Use (Slot 1)) (facing (record tauros { status = Asleep 3 false }) (set with_flinch) tauros as_is (Sweep 0))

sleep_before_flinch : (code_sent drowsy ≡ 0x04 ∷ 1 ∷ 128 ∷ 1 ∷ []) × ((conditions One drowsy).flinch ≡ true)
unfolding computing
sleep_before_flinch = (refl, refl)

-- Dig's second turn with paralysis (docs/MECHANICS.md, "Gate"): a draw of 62 stops it, and the user stays
-- invulnerable. A draw of 63 doesn't stop it

abbrev digs : ℕ → Progress
digs b = gate One Continue (facing (record (knowing 91 5) { status = Paralysed })
    (λ a. record a { current_move = Slot 1; conditions = with_invulnerability (with_charging a.conditions) }) tauros as_is (Sweep b))

paralysed_dig : (digs 62).stopped ∷ is_invulnerable One (digs 62) ∷ (underway One (digs 62)).charging ∷ (digs 63).stopped ∷ []
    ≡ true ∷ true ∷ false ∷ false ∷ []
unfolding computing
paralysed_dig = refl

-- Trapping (docs/MECHANICS.md, "Going on"): draws of 1 and of 2, 3 hold for 2 and 4 turns. If the hold has ended, the
-- move is used as a new one, and PP of 0 become 63 (docs/MECHANICS.md, "Action"). A Ghost is held for 0 damage

abbrev wraps : ℕ → Option ℕ
wraps b = (underway One (trap One (facing (knowing 35 20) as_is tauros as_is (Sweep b)))).trapping

trapping_counts : wraps 1 ∷ wraps 2 ∷ [] ≡ Some 2 ∷ Some 4 ∷ []
unfolding computing
trapping_counts = refl

abbrev wraps_anew : Progress
wraps_anew = act usual One Continue (facing (knowing 35 0) (λ a. record a { current_move = Slot 1 }) tauros as_is (Sweep 0))

wrap_used_anew : (known_in 1 (member One wraps_anew).moves).pp ≡ 63
unfolding computing
wrap_used_anew = refl

abbrev wraps_ghost : Progress
wraps_ghost = act usual One (Use (Slot 1)) (facing (knowing 35 20) as_is (record tauros { species = 94 }) as_is (Sweep 0))

wrap_on_ghost : (is_trapping One wraps_ghost ≡ true) × (hp_of Two wraps_ghost ≡ 353)
unfolding computing
wrap_on_ghost = (refl, refl)

-- Faults: Strength on a Defense of 512 with Reflect (docs/MECHANICS.md, "Damage numbers"), and Psywave at level 1
-- (docs/MECHANICS.md, "Fixed damage and one-hit moves"). At level 2 Psywave deals 1 or 2

abbrev against_reflect : Progress
against_reflect = roll_damage One (move_at 70) (facing tauros as_is (record tauros { defense = 512 }) (set with_reflect) (Sweep 0))

abbrev psywaved : ℕ → ℕ → Progress
psywaved level b = psywave level (facing tauros as_is tauros as_is (Sweep b))

faults : (against_reflect.field.outcome ≡ outcomes.Fault 1) × ((psywaved 1 0).field.outcome ≡ outcomes.Fault 2)
unfolding computing
faults = (refl, refl)

abbrev psywave_at_1 : Progress
psywave_at_1 = fixed_damage One (move_at 149) (set_last_damage 7 (facing (record tauros { level = 1 }) as_is tauros as_is (Sweep 0)))

-- The last damage stays as it was.
psywave_keeps_the_last_damage : (psywave_at_1.field.outcome ≡ outcomes.Fault 2) × (psywave_at_1.field.last_damage ≡ 7)
unfolding computing
psywave_keeps_the_last_damage = (refl, refl)

psywave_at_2 : any (λ b. not (nat_lt 0 (psywaved 2 b).field.last_damage && nat_lt (psywaved 2 b).field.last_damage 3)) (numbers_up 256 0) ≡ false
unfolding computing
psywave_at_2 = refl

-- Residual damage (docs/MECHANICS.md, "Residual damage"): bad poison and a seed take 22 and 44 of 353 HP. The foe
-- heals 44, even if only 20 HP were left

abbrev badly : ℕ → Progress
badly hp = residual One (facing (record tauros { hp = hp; status = Poisoned }) (set λ c. with_seed (with_bad_poison c)) (record tauros { hp = 300 }) as_is (Sweep 0))

poison_and_seed : hp_of One (badly 353) ∷ hp_of Two (badly 353) ∷ hp_of One (badly 20) ∷ hp_of Two (badly 20) ∷ [] ≡ 287 ∷ 344 ∷ 0 ∷ 344 ∷ []
unfolding computing
poison_and_seed = refl

-- Order of a turn (docs/MECHANICS.md, "Order of a turn"): a tie in Speed takes a draw. Quick Attack comes first and
-- Counter last, both without a draw

abbrev begins : Progress → List Event
begins p = (in_order (λ s. note λ f. events.Win s) p).events

abbrev draws_for_order : Progress → ℕ
draws_for_order p = (in_order (λ s. stay) p).drawn

speed_tie : (begins (facing tauros as_is tauros as_is (Sweep 127)) ≡ events.Win One ∷ [])
    × (begins (facing tauros as_is tauros as_is (Sweep 128)) ≡ events.Win Two ∷ [])
unfolding computing
speed_tie = (refl, refl)

-- This also holds if the slower side picked the move in an earlier turn and sleeps now.
abbrev quick : Status → Pick → Progress
quick status pick = set_picked One pick
    (facing (record (knowing 98 30) { speed = 1; status = status }) (with_picked_move (Slot 1)) tauros (with_picked_move (Slot 1)) (Sweep 0))

quick_attack_first : (begins (quick Healthy (Use (Slot 1))) ≡ events.Win One ∷ []) × (draws_for_order (quick Healthy (Use (Slot 1))) ≡ 0)
    × (begins (quick (Asleep 3 false) Idle) ≡ events.Win One ∷ [])
unfolding computing
quick_attack_first = (refl, refl, refl)

abbrev both_counter : Progress
both_counter = facing (knowing 68 20) (with_picked_move (Slot 1)) (knowing 68 20) (with_picked_move (Slot 1)) (Sweep 0)

counter_against_counter : draws_for_order both_counter ≡ 1
unfolding computing
counter_against_counter = refl

-- Disable against one move (docs/MECHANICS.md, "Side effects"): 29 draws, slot 1, count 5

abbrev disabled_by_ones : Progress
disabled_by_ones = side_effect usual One (move_at 50) effects.Disable (facing tauros as_is tauros as_is (Link (replicate 10 1)))

disable_draws : (disabled_by_ones.drawn ≡ 29) × ((conditions Two disabled_by_ones).disabled ≡ Some (record { slot = 1; turns = 5 }))
unfolding computing
disable_draws = (refl, refl)

-- The sleep clause (docs/MECHANICS.md, "Rules (sleep clause, freeze clause)"): another living member sleeps

abbrev under : ℕ → Ruling
under bits = ruling_of (record { rules = rules_of bits; limit = 1000 })

abbrev beside : Member → Progress → Progress
beside m p = record p { field = record p.field { two = record p.field.two { members = p.field.two.members ++ m ∷ [] } } }

abbrev spored : ℕ → Status → (Active → Active) → Progress
spored bits status foe =
    late_effect (under bits) One (move_at 147) effects.InflictSleep
    (beside (record tauros { status = status }) (facing tauros as_is tauros foe zero_seed))

abbrev fails_once : List Event
fails_once = events.Fail (record { side = One; species = 128 }) ∷ []

sleep_clause : ((spored 1 (Asleep 3 true) as_is).drawn ≡ 1) × ((spored 1 (Asleep 3 true) as_is).events ≡ fails_once)
    × (status_of Two (spored 1 (Asleep 3 true) as_is) ≡ Healthy)
    × ((spored 0 (Asleep 3 false) as_is).drawn ≡ 10) × (status_of Two (spored 0 (Asleep 3 false) as_is) ≡ Asleep 1 false)
    × ((spored 1 (Asleep 2 false) as_is).drawn ≡ 10) × (status_of Two (spored 1 (Asleep 2 false) as_is) ≡ Asleep 1 true)
unfolding computing
sleep_clause = (refl, refl, refl, refl, refl, refl, refl)

abbrev spored_while_recharging : Progress
spored_while_recharging = spored 1 (Asleep 3 true) (set with_recharge)

sleep_clause_and_recharge : (spored_while_recharging.drawn ≡ 0) × (spored_while_recharging.events ≡ fails_once)
    × ((underway Two spored_while_recharging).recharge ≡ false)
unfolding computing
sleep_clause_and_recharge = (refl, refl, refl)

-- Rest's sleep isn't marked (docs/MECHANICS.md, "Early effects").
rest_is_not_marked : status_of One (heal One (move_at 156) (facing (record tauros { hp = 1 }) as_is tauros as_is (Sweep 0))) ≡ Asleep 2 false
unfolding computing
rest_is_not_marked = refl

-- The freeze clause (docs/MECHANICS.md, "Rules (sleep clause, freeze clause)"): another living member is frozen. A
-- freeze that the clause prevents leaves the foe's recharging

abbrev chilled : ℕ → Progress
chilled bits =
    side_effect (under bits) One (move_at 58) effects.FreezeChance
    (beside (record tauros { status = Frozen }) (facing tauros as_is tauros (set with_recharge) (Sweep 25)))

freeze_clause : ((chilled 2).events ≡ []) × ((chilled 2).drawn ≡ 1) × (status_of Two (chilled 2) ≡ Healthy)
    × ((underway Two (chilled 2)).recharge ≡ true) × (status_of Two (chilled 0) ≡ Frozen) × ((underway Two (chilled 0)).recharge ≡ false)
unfolding computing
freeze_clause = (refl, refl, refl, refl, refl, refl)

-- The last turn ends without a winner (docs/MECHANICS.md, "Turn limit"): the battle is a tie. One turn earlier it
-- goes on

abbrev settled_at : ℕ → Progress → Progress
settled_at turn p = settle (ruling_of (record usual_terms { limit = 3 })) (record p { field = record p.field { turn = turn } })

last_turn : ((settled_at 3 (facing tauros as_is tauros as_is (Sweep 0))).events ≡ events.Tie ∷ [])
    × ((settled_at 2 (facing tauros as_is tauros as_is (Sweep 0))).events ≡ events.Turn 3 ∷ [])
unfolding computing
last_turn = (refl, refl)
