-- Each phase has a tree of draws. tools/gen writes this file.
use Rattle.gen1_machine.specs.Action.{act, action_parts, begin, carry_out, damage_of, gate_or_held, keep_accuracy, lead_up, prelude, resume, see_if_going_on, set_going_on, spend_pp, strike, use_move, usual_damage}
use Rattle.gen1_machine.specs.Charging.{begin_charge, charge, end_charge, make_current}
use Rattle.gen1_machine.specs.Conditions.{ActiveConditions, Storing}
use Rattle.gen1_machine.specs.Counter.{counter, counter_by}
use Rattle.gen1_machine.specs.CriticalHits.{critical_by, roll_critical, set_critical}
use Rattle.gen1_machine.specs.Damage.{damage_from, roll_damage, set_through_types, varied_by, vary, DamageNumbers}
use Rattle.gen1_machine.specs.EarlyEffects.{clear_side, confuse, confuse_foe, confused_by, convert, cure_kind, early_effect, haze, haze_cures, heal, make_substitute, paralyse_foe, pay_for_substitute, poison_foe, recover, rest_up, seed_foe, set_focus_energy, set_light_screen, set_mist, set_reflect, set_screen, set_skips, splash, take_types}
use Rattle.gen1_machine.specs.Falls.{ask_for_moves, ask_for_switches, ask_nothing, battle_ends, close, end_if_decided, faint_if_fallen, faint_in_order, settle, the_fallen_faint}
use Rattle.gen1_machine.specs.FixedDamage.{deal_everything, deal_fixed, fixed_damage, knock_out, knock_out_by_type, psywave}
use Rattle.gen1_machine.specs.Gate.{cant, confusion_test, disable_count, disabled_test, flinch_test, frozen_test, gate, gate_of_move, gate_of_status, gate_of_turn, may_be_paralysed, may_hurt_itself, paralysis_test, recharge_test, sleep_on, sleep_test, trapped_test, wake}
use Rattle.gen1_machine.specs.GoingOn.{bide_goes_on, bide_on, count_again, count_by_draw, draw_count, let_energy_go, set_letting_go, store_energy, thrash_about, thrash_for, thrash_less, trap, trap_for}
use Rattle.gen1_machine.specs.HitEffects.{drain, drain_by, explode, hit_effect, plan_hits, plan_two_more, recoil, set_planned, start_rage}
use Rattle.gen1_machine.specs.HitOnItself.{hurt_itself, hurt_itself_by, land_on_foes_substitute}
use Rattle.gen1_machine.specs.HitTest.{hit_or_miss, hit_test, hits_below, miss, must_hit, note_miss, set_tested, test_by}
use Rattle.gen1_machine.specs.Landing.{land, land_by, land_damage, land_on_hp, land_on_substitute, set_broke}
use Rattle.gen1_machine.specs.LateEffects.{bide_for, late_effect, lower_foes_stat, put_to_sleep, ready_to_sleep, start_bide}
use Rattle.gen1_machine.specs.ManyHits.{build_rage, count_hit, crash, hit_again, hit_once, hits, missed_move, note_critical, note_effectiveness, note_first_hit, note_hit_count, other_hits}
use Rattle.gen1_machine.specs.Moves.{rest, Move}
use Rattle.gen1_machine.specs.Progress.{cure, ends, fail, fails_if, fault, gain_hp, given, inflict, lasts, lose_hp, on_active, on_conditions, on_member, set_last_damage, set_missed, starts, Phase, Progress}
use Rattle.gen1_machine.specs.ResidualDamage.{drained_by, residual, suffer, suffer_seed, suffer_status, worsen}
use Rattle.gen1_machine.specs.Ruling.{fall_asleep, freeze_freely, freeze_only_one, freezes_under, ruling_of, sleep_for, sleep_freely, sleep_only_one, sleeps_under, Ruling}
use Rattle.gen1_machine.specs.SideEffects.{by_chance, disable, disable_for, disable_slot, flinch, happens_below, kept_away_effect, may_confuse, may_inflict, may_poison, must_recharge, side_effect, thaw}
use Rattle.gen1_machine.specs.StageShift.{lower_from, lower_stage, note_boost, note_unboost, raise_from, raise_stage, shift_to, take_penalty_again}
use Rattle.gen1_machine.specs.State.{Active, Terms}
use Rattle.gen1_machine.specs.Step.{close_update, update, update_for}
use Rattle.gen1_machine.specs.SwitchingIn.{replace, send_if_chosen, send_out, start}
use Rattle.gen1_machine.specs.Turn.{both_pick, do_part, do_parts, end_spent_trapping, end_turn, one_picks, play_turn, set_picked, turn, Acts, Part, Sends, Suffers}
use Rattle.gen1_machine.specs.TurnOrder.{in_order, in_order_of_rank, in_order_of_speed, toss}
use Rattle.gen1_machine.specs.declared.side.Choice.{Choice}
use Rattle.gen1_machine.specs.declared.event.CantReason.{CantReason}
use Rattle.gen1_machine.specs.declared.event.DamageSource.{DamageSource}
use Rattle.gen1_machine.specs.declared.event.Event.{Event}
use Rattle.gen1_machine.specs.declared.event.Volatile.{Volatile}
use Rattle.gen1_machine.specs.declared.event.Kind.{Kind}
use Rattle.gen1_machine.specs.declared.side.DisabledSlot.{DisabledSlot}
use Rattle.gen1_machine.specs.declared.side.Pick.{Pick}
use Rattle.gen1_machine.specs.declared.side.Pick.TheVariants.{Held}
use Rattle.gen1_machine.specs.declared.side.Side.{Side}
use Rattle.gen1_machine.specs.declared.terms.Outcome.{Outcome}
use Rattle.gen1_machine.specs.declared.terms.Request.{Request}
use Rattle.gen1_stats.specs.Members.{Member}
use Rattle.gen1_stats.specs.declared.member.KnownMove.{KnownMove}
use Rattle.gen1_stats.specs.declared.member.Status.{Status}
use Rattle.gen1_stats.specs.declared.member.Status.TheVariants.{Asleep, Burned, Poisoned}
use Rattle.gen1_tables.specs.declared.effect.Effect.{Effect}
use Rattle.gen1_tables.specs.declared.effect.Stat.{Stat}
use Rattle.std.proofs.Common.{refl, ◌∷◌}
use Rattle.std.specs.Prelude.{[], false, suc, true, zero, Bool, List, None, Option, Some, ℕ}
use Rattle.gen1_machine.specs.declared.side.Choice.TheVariants as choices
use Rattle.gen1_tables.specs.declared.effect.Effect.TheVariants as effects
use Rattle.gen1_machine.specs.declared.terms.Outcome.TheVariants as outcomes
use Rattle.gen1_machine.specs.declared.terms.Request.TheVariants as requests
use Rattle.gen1_machine.proofs.Trees.{after-tree, choose-tree, drawless-tree, given-tree, tree_rules, stay-tree, then-tree, Blind, HasTree, RulingHasTrees}

pub on_active-tree : (s : Side) (change : Active → Active) → HasTree (on_active s change)
unfolding on_active
on_active-tree s change = search (tree_rules) depth 14

pub on_conditions-tree : (s : Side) (change : ActiveConditions → ActiveConditions) → HasTree (on_conditions s change)
unfolding on_conditions
on_conditions-tree s change = search (tree_rules) depth 14

pub on_member-tree : (s : Side) (change : Member → Member) → HasTree (on_member s change)
unfolding on_member
on_member-tree s change = search (tree_rules) depth 14

pub set_last_damage-tree : (damage : ℕ) → HasTree (set_last_damage damage)
unfolding set_last_damage
set_last_damage-tree damage = search (tree_rules) depth 14

pub starts-tree : (s : Side) (what : Volatile) (change : ActiveConditions → ActiveConditions) → HasTree (starts s what change)
unfolding starts
starts-tree s what change = search (tree_rules) depth 14

pub lasts-tree : (s : Side) (what : Volatile) (change : ActiveConditions → ActiveConditions) → HasTree (lasts s what change)
unfolding lasts
lasts-tree s what change = search (tree_rules) depth 14

pub ends-tree : (s : Side) (what : Volatile) (change : ActiveConditions → ActiveConditions) → HasTree (ends s what change)
unfolding ends
ends-tree s what change = search (tree_rules) depth 14

pub set_missed-tree : (missed : Bool) → HasTree (set_missed missed)
unfolding set_missed
set_missed-tree missed = search (tree_rules) depth 14

pub fault-tree : (n : ℕ) → HasTree (fault n)
unfolding fault
fault-tree n = search (tree_rules) depth 14

pub fail-tree : (s : Side) → HasTree (fail s)
unfolding fail
fail-tree s = search (tree_rules) depth 14

pub fails_if-tree : (s : Side) {test : Progress → Bool} → Blind test → HasTree (fails_if s test)
unfolding fails_if
fails_if-tree s blind = choose-tree blind (fail-tree s) stay-tree

pub lose_hp-tree : (s : Side) (source : DamageSource) (amount : ℕ) → HasTree (lose_hp s source amount)
unfolding lose_hp
lose_hp-tree s source amount = search (tree_rules) depth 14

pub gain_hp-tree : (s : Side) (amount : ℕ) → HasTree (gain_hp s amount)
unfolding gain_hp
gain_hp-tree s amount = search (tree_rules) depth 14

pub inflict-tree : (s : Side) (status : Status) (kind : Kind) → HasTree (inflict s status kind)
unfolding inflict
inflict-tree s status kind = search (tree_rules, on_member-tree) depth 14

pub cure-tree : (s : Side) (kind : Kind) → HasTree (cure s kind)
unfolding cure
cure-tree s kind = search (tree_rules) depth 14

pub set_critical-tree : (critical : Bool) → HasTree (set_critical critical)
unfolding set_critical
set_critical-tree critical = search (tree_rules) depth 14

pub critical_by-tree : (s : Side) (move : Move) (b : ℕ) → HasTree (critical_by s move b)
unfolding critical_by
critical_by-tree s move b = search (tree_rules, set_critical-tree) depth 14

pub roll_critical-tree : (s : Side) (move : Move) → HasTree (roll_critical s move)
unfolding roll_critical
roll_critical-tree s move = search (tree_rules, critical_by-tree) depth 14

pub varied_by-tree : (d : ℕ) (b : ℕ) → HasTree (varied_by d b)
unfolding varied_by
varied_by-tree d b = search (tree_rules, set_last_damage-tree) depth 14

pub vary-tree : (d : ℕ) → HasTree (vary d)
unfolding vary
vary-tree d = search (tree_rules, set_last_damage-tree, varied_by-tree) depth 14

pub set_through_types-tree : HasTree set_through_types
unfolding set_through_types
set_through_types-tree = search (tree_rules) depth 14

pub damage_from-tree : (n : DamageNumbers) (x : Option ℕ) → HasTree (damage_from n x)
unfolding damage_from
damage_from-tree n None = search (tree_rules, fault-tree) depth 14
damage_from-tree n (Some d) = search (tree_rules, set_through_types-tree, set_missed-tree, vary-tree) depth 14

pub roll_damage-tree : (s : Side) (move : Move) → HasTree (roll_damage s move)
unfolding roll_damage
roll_damage-tree s move = search (tree_rules, damage_from-tree) depth 14

pub miss-tree : (s : Side) → HasTree (miss s)
unfolding miss
miss-tree s = search (tree_rules, set_missed-tree, set_last_damage-tree, on_conditions-tree) depth 14

pub set_tested-tree : (byte : ℕ) → HasTree (set_tested byte)
unfolding set_tested
set_tested-tree byte = search (tree_rules) depth 14

pub hits_below-tree : (s : Side) (byte : ℕ) (b : ℕ) → HasTree (hits_below s byte b)
unfolding hits_below
hits_below-tree s byte b = search (tree_rules, miss-tree) depth 14

pub test_by-tree : (s : Side) (base : ℕ) (x : Option Bool) → HasTree (test_by s base x)
unfolding test_by
test_by-tree s base (Some true) = search (tree_rules, set_tested-tree) depth 14
test_by-tree s base (Some false) = search (tree_rules, set_tested-tree, miss-tree) depth 14
test_by-tree s base None = search (tree_rules, set_tested-tree, hits_below-tree) depth 14

pub hit_test-tree : (s : Side) (move : Move) (base : ℕ) → HasTree (hit_test s move base)
unfolding hit_test
hit_test-tree s move base = search (tree_rules, test_by-tree) depth 14

pub hit_or_miss-tree : (s : Side) (move : Move) → HasTree (hit_or_miss s move)
unfolding hit_or_miss
hit_or_miss-tree s move = search (tree_rules, hit_test-tree) depth 14

pub note_miss-tree : (s : Side) (move : Move) → HasTree (note_miss s move)
unfolding note_miss
note_miss-tree s move = search (tree_rules) depth 14

pub must_hit-tree : (s : Side) (move : Move) → HasTree (must_hit s move)
unfolding must_hit
must_hit-tree s move = search (tree_rules, hit_or_miss-tree, note_miss-tree) depth 14

pub set_broke-tree : HasTree set_broke
unfolding set_broke
set_broke-tree = search (tree_rules) depth 14

pub land_on_substitute-tree : (target : Side) (damage : ℕ) (hp : ℕ) → HasTree (land_on_substitute target damage hp)
unfolding land_on_substitute
land_on_substitute-tree target damage hp = search (tree_rules, set_broke-tree, ends-tree, lasts-tree) depth 14

pub land_on_hp-tree : (target : Side) (source : DamageSource) (damage : ℕ) → HasTree (land_on_hp target source damage)
unfolding land_on_hp
land_on_hp-tree target source damage = search (tree_rules, set_last_damage-tree, lose_hp-tree) depth 14

pub land_by-tree : (target : Side) (damage : ℕ) (x : Option ℕ) → HasTree (land_by target damage x)
unfolding land_by
land_by-tree target damage (Some hp) = search (tree_rules, land_on_substitute-tree) depth 14
land_by-tree target damage None = search (tree_rules, land_on_hp-tree) depth 14

pub land_damage-tree : (target : Side) (damage : ℕ) → HasTree (land_damage target damage)
unfolding land_damage
land_damage-tree target damage = search (tree_rules, land_by-tree) depth 14

pub land-tree : (target : Side) → HasTree (land target)
unfolding land
land-tree target = search (tree_rules, land_damage-tree) depth 14

pub land_on_foes_substitute-tree : (s : Side) (damage : ℕ) (x : Option ℕ) → HasTree (land_on_foes_substitute s damage x)
unfolding land_on_foes_substitute
land_on_foes_substitute-tree s damage None = search (tree_rules) depth 14
land_on_foes_substitute-tree s damage (Some hp) = search (tree_rules, land_on_substitute-tree) depth 14

pub hurt_itself_by-tree : (s : Side) (x : Option ℕ) → HasTree (hurt_itself_by s x)
unfolding hurt_itself_by
hurt_itself_by-tree s None = search (tree_rules, fault-tree) depth 14
hurt_itself_by-tree s (Some damage) = search (tree_rules, set_last_damage-tree, land_on_foes_substitute-tree, land_on_hp-tree) depth 14

pub hurt_itself-tree : (s : Side) → HasTree (hurt_itself s)
unfolding hurt_itself
hurt_itself-tree s = search (tree_rules, on_conditions-tree, hurt_itself_by-tree) depth 14

pub cant-tree : (s : Side) (why : CantReason) → HasTree (cant s why)
unfolding cant
cant-tree s why = search (tree_rules) depth 14

pub wake-tree : (s : Side) → HasTree (wake s)
unfolding wake
wake-tree s = search (tree_rules) depth 14

pub sleep_on-tree : (s : Side) → HasTree (sleep_on s)
unfolding sleep_on
sleep_on-tree s = search (tree_rules, on_member-tree, cant-tree) depth 14

pub sleep_test-tree : (s : Side) (x : Status) → HasTree (sleep_test s x)
unfolding sleep_test
sleep_test-tree s (Asleep turns marked) = search (tree_rules, wake-tree, sleep_on-tree) depth 14
sleep_test-tree s _ = search (tree_rules) depth 14

pub frozen_test-tree : (s : Side) → HasTree (frozen_test s)
unfolding frozen_test
frozen_test-tree s = search (tree_rules, cant-tree) depth 14

pub trapped_test-tree : (s : Side) → HasTree (trapped_test s)
unfolding trapped_test
trapped_test-tree s = search (tree_rules, cant-tree) depth 14

pub flinch_test-tree : (s : Side) → HasTree (flinch_test s)
unfolding flinch_test
flinch_test-tree s = search (tree_rules, on_conditions-tree, cant-tree) depth 14

pub recharge_test-tree : (s : Side) → HasTree (recharge_test s)
unfolding recharge_test
recharge_test-tree s = search (tree_rules, on_conditions-tree, cant-tree) depth 14

pub disable_count-tree : (s : Side) (x : Option DisabledSlot) → HasTree (disable_count s x)
unfolding disable_count
disable_count-tree s None = search (tree_rules) depth 14
disable_count-tree s (Some d) = search (tree_rules, ends-tree, on_conditions-tree) depth 14

pub may_hurt_itself-tree : (s : Side) (b : ℕ) → HasTree (may_hurt_itself s b)
unfolding may_hurt_itself
may_hurt_itself-tree s b = search (tree_rules, hurt_itself-tree) depth 14

pub confusion_test-tree : (s : Side) (x : Option ℕ) → HasTree (confusion_test s x)
unfolding confusion_test
confusion_test-tree s None = search (tree_rules) depth 14
confusion_test-tree s (Some turns) = search (tree_rules, ends-tree, lasts-tree, may_hurt_itself-tree) depth 14

pub disabled_test-tree : (s : Side) (pick : Pick) → HasTree (disabled_test s pick)
unfolding disabled_test
disabled_test-tree s pick = search (tree_rules, on_conditions-tree, cant-tree) depth 14

pub may_be_paralysed-tree : (s : Side) (b : ℕ) → HasTree (may_be_paralysed s b)
unfolding may_be_paralysed
may_be_paralysed-tree s b = search (tree_rules, on_conditions-tree, cant-tree) depth 14

pub paralysis_test-tree : (s : Side) → HasTree (paralysis_test s)
unfolding paralysis_test
paralysis_test-tree s = search (tree_rules, may_be_paralysed-tree) depth 14

pub gate_of_status-tree : (s : Side) → HasTree (gate_of_status s)
unfolding gate_of_status
gate_of_status-tree s = search (tree_rules, sleep_test-tree, frozen_test-tree, trapped_test-tree) depth 14

pub gate_of_turn-tree : (s : Side) → HasTree (gate_of_turn s)
unfolding gate_of_turn
gate_of_turn-tree s = search (tree_rules, flinch_test-tree, recharge_test-tree, disable_count-tree) depth 14

pub gate_of_move-tree : (s : Side) (pick : Pick) → HasTree (gate_of_move s pick)
unfolding gate_of_move
gate_of_move-tree s pick = search (tree_rules, confusion_test-tree, disabled_test-tree, paralysis_test-tree) depth 14

pub gate-tree : (s : Side) (pick : Pick) → HasTree (gate s pick)
unfolding gate
gate-tree s pick = search (tree_rules, gate_of_status-tree, gate_of_turn-tree, gate_of_move-tree) depth 14

pub worsen-tree : (s : Side) → HasTree (worsen s)
unfolding worsen
worsen-tree s = search (tree_rules, on_conditions-tree) depth 14

pub suffer-tree : (s : Side) (source : DamageSource) → HasTree (suffer s source)
unfolding suffer
suffer-tree s source = search (tree_rules, worsen-tree, lose_hp-tree) depth 14

pub drained_by-tree : (s : Side) (amount : ℕ) → HasTree (drained_by s amount)
unfolding drained_by
drained_by-tree s amount = search (tree_rules, lose_hp-tree, gain_hp-tree) depth 14

pub suffer_seed-tree : (s : Side) → HasTree (suffer_seed s)
unfolding suffer_seed
suffer_seed-tree s = search (tree_rules, worsen-tree, drained_by-tree) depth 14

pub suffer_status-tree : (s : Side) (x : Status) → HasTree (suffer_status s x)
unfolding suffer_status
suffer_status-tree s Poisoned = search (tree_rules, suffer-tree) depth 14
suffer_status-tree s Burned = search (tree_rules, suffer-tree) depth 14
suffer_status-tree s _ = search (tree_rules) depth 14

pub residual-tree : (s : Side) → HasTree (residual s)
unfolding residual
residual-tree s = search (tree_rules, suffer_status-tree, suffer_seed-tree) depth 14

pub note_boost-tree : (s : Side) (stat : Stat) (n : ℕ) → HasTree (note_boost s stat n)
unfolding note_boost
note_boost-tree s stat n = search (tree_rules) depth 14

pub note_unboost-tree : (s : Side) (stat : Stat) (n : ℕ) → HasTree (note_unboost s stat n)
unfolding note_unboost
note_unboost-tree s stat n = search (tree_rules) depth 14

pub take_penalty_again-tree : (s : Side) → HasTree (take_penalty_again s)
unfolding take_penalty_again
take_penalty_again-tree s = search (tree_rules, on_active-tree) depth 14

pub shift_to-tree : (user : Side) (target : Side) (stat : Stat) (n : ℕ) → HasTree (shift_to user target stat n)
unfolding shift_to
shift_to-tree user target stat n = search (tree_rules, on_active-tree, take_penalty_again-tree) depth 14

pub raise_from-tree : (user : Side) (target : Side) (stat : Stat) (by : ℕ) (failing : Phase) (n : ℕ) (full : Bool) → HasTree failing → HasTree (raise_from user target stat by failing n full)
unfolding raise_from
raise_from-tree user target stat by failing n full failing-tree = search (tree_rules, on_active-tree, note_boost-tree, shift_to-tree) depth 14

pub lower_from-tree : (user : Side) (target : Side) (stat : Stat) (by : ℕ) (failing : Phase) (n : ℕ) (least : Bool) → HasTree failing → HasTree (lower_from user target stat by failing n least)
unfolding lower_from
lower_from-tree user target stat by failing n least failing-tree = search (tree_rules, on_active-tree, note_unboost-tree, shift_to-tree) depth 14

pub raise_stage-tree : (user : Side) (target : Side) (stat : Stat) (by : ℕ) (failing : Phase) → HasTree failing → HasTree (raise_stage user target stat by failing)
unfolding raise_stage
raise_stage-tree user target stat by failing failing-tree = search (tree_rules, raise_from-tree) depth 14

pub lower_stage-tree : (user : Side) (target : Side) (stat : Stat) (by : ℕ) (failing : Phase) → HasTree failing → HasTree (lower_stage user target stat by failing)
unfolding lower_stage
lower_stage-tree user target stat by failing failing-tree = search (tree_rules, lower_from-tree) depth 14

pub sleep_for-tree : (marked : Bool) (s : Side) (b : ℕ) → HasTree (sleep_for marked s b)
unfolding sleep_for
sleep_for-tree marked s b = search (tree_rules, inflict-tree) depth 14

pub fall_asleep-tree : (marked : Bool) (s : Side) → HasTree (fall_asleep marked s)
unfolding fall_asleep
fall_asleep-tree marked s = search (tree_rules, sleep_for-tree) depth 14

pub sleep_freely-tree : (user : Side) → HasTree (sleep_freely user)
unfolding sleep_freely
sleep_freely-tree user = search (tree_rules, fall_asleep-tree) depth 14

pub freeze_freely-tree : (user : Side) → HasTree (freeze_freely user)
unfolding freeze_freely
freeze_freely-tree user = search (tree_rules, on_conditions-tree, inflict-tree) depth 14

pub sleep_only_one-tree : (user : Side) → HasTree (sleep_only_one user)
unfolding sleep_only_one
sleep_only_one-tree user = search (tree_rules, fails_if-tree, fall_asleep-tree) depth 14

pub freeze_only_one-tree : (user : Side) → HasTree (freeze_only_one user)
unfolding freeze_only_one
freeze_only_one-tree user = search (tree_rules, freeze_freely-tree) depth 14

pub sleeps_under-tree : (x : Bool) (user : Side) → HasTree (sleeps_under x user)
unfolding sleeps_under
sleeps_under-tree true user = search (tree_rules, sleep_only_one-tree) depth 14
sleeps_under-tree false user = search (tree_rules, sleep_freely-tree) depth 14

pub freezes_under-tree : (x : Bool) (user : Side) → HasTree (freezes_under x user)
unfolding freezes_under
freezes_under-tree true user = search (tree_rules, freeze_only_one-tree) depth 14
freezes_under-tree false user = search (tree_rules, freeze_freely-tree) depth 14

pub confused_by-tree : (s : Side) (b : ℕ) → HasTree (confused_by s b)
unfolding confused_by
confused_by-tree s b = search (tree_rules, starts-tree) depth 14

pub confuse-tree : (s : Side) → HasTree (confuse s)
unfolding confuse
confuse-tree s = search (tree_rules, confused_by-tree) depth 14

pub confuse_foe-tree : (s : Side) (move : Move) → HasTree (confuse_foe s move)
unfolding confuse_foe
confuse_foe-tree s move = search (tree_rules, fails_if-tree, must_hit-tree, confuse-tree) depth 14

pub take_types-tree : (s : Side) (foe : Active) → HasTree (take_types s foe)
unfolding take_types
take_types-tree s foe = search (tree_rules) depth 14

pub convert-tree : (s : Side) → HasTree (convert s)
unfolding convert
convert-tree s = search (tree_rules, fails_if-tree, take_types-tree) depth 14

pub set_mist-tree : (s : Side) → HasTree (set_mist s)
unfolding set_mist
set_mist-tree s = search (tree_rules, fails_if-tree, starts-tree) depth 14

pub set_focus_energy-tree : (s : Side) → HasTree (set_focus_energy s)
unfolding set_focus_energy
set_focus_energy-tree s = search (tree_rules, fails_if-tree, starts-tree) depth 14

pub set_light_screen-tree : (s : Side) → HasTree (set_light_screen s)
unfolding set_light_screen
set_light_screen-tree s = search (tree_rules, fails_if-tree, starts-tree) depth 14

pub set_reflect-tree : (s : Side) → HasTree (set_reflect s)
unfolding set_reflect
set_reflect-tree s = search (tree_rules, fails_if-tree, starts-tree) depth 14

pub set_screen-tree : (s : Side) (move : Move) → HasTree (set_screen s move)
unfolding set_screen
set_screen-tree s move = search (tree_rules, set_light_screen-tree, set_reflect-tree) depth 14

pub clear_side-tree : (s : Side) → HasTree (clear_side s)
unfolding clear_side
clear_side-tree s = search (tree_rules, on_active-tree, on_conditions-tree) depth 14

pub cure_kind-tree : (s : Side) (x : Option Kind) → HasTree (cure_kind s x)
unfolding cure_kind
cure_kind-tree s None = search (tree_rules) depth 14
cure_kind-tree s (Some kind) = search (tree_rules, cure-tree) depth 14

pub set_skips-tree : (skips : Bool) → HasTree (set_skips skips)
unfolding set_skips
set_skips-tree skips = drawless-tree (λ p s n. refl)

pub haze_cures-tree : (s : Side) (status : Status) → HasTree (haze_cures s status)
unfolding haze_cures
haze_cures-tree s status = search (tree_rules, set_skips-tree, cure_kind-tree) depth 14

pub haze-tree : (s : Side) → HasTree (haze s)
unfolding haze
haze-tree s = search (tree_rules, clear_side-tree, haze_cures-tree) depth 14

pub rest_up-tree : (s : Side) → HasTree (rest_up s)
unfolding rest_up
rest_up-tree s = search (tree_rules, gain_hp-tree) depth 14

pub recover-tree : (s : Side) → HasTree (recover s)
unfolding recover
recover-tree s = search (tree_rules, gain_hp-tree) depth 14

pub heal-tree : (s : Side) (move : Move) → HasTree (heal s move)
unfolding heal
heal-tree s move = search (tree_rules, fails_if-tree, rest_up-tree, recover-tree) depth 14

pub poison_foe-tree : (s : Side) (move : Move) → HasTree (poison_foe s move)
unfolding poison_foe
poison_foe-tree s move = search (tree_rules, fails_if-tree, must_hit-tree, inflict-tree, on_conditions-tree) depth 14

pub paralyse_foe-tree : (s : Side) (move : Move) → HasTree (paralyse_foe s move)
unfolding paralyse_foe
paralyse_foe-tree s move = search (tree_rules, fails_if-tree, must_hit-tree, inflict-tree) depth 14

pub seed_foe-tree : (s : Side) (move : Move) → HasTree (seed_foe s move)
unfolding seed_foe
seed_foe-tree s move = search (tree_rules, must_hit-tree, fails_if-tree, starts-tree) depth 14

pub pay_for_substitute-tree : (s : Side) (cost : ℕ) → HasTree (pay_for_substitute s cost)
unfolding pay_for_substitute
pay_for_substitute-tree s cost = search (tree_rules, starts-tree, lose_hp-tree) depth 14

pub make_substitute-tree : (s : Side) → HasTree (make_substitute s)
unfolding make_substitute
make_substitute-tree s = search (tree_rules, fails_if-tree, pay_for_substitute-tree) depth 14

pub splash-tree : (s : Side) → HasTree (splash s)
unfolding splash
splash-tree s = search (tree_rules) depth 14

pub early_effect-tree : (s : Side) (move : Move) (effect : Effect) → HasTree (early_effect s move effect)
unfolding early_effect
early_effect-tree s move effects.Conversion = search (tree_rules, convert-tree) depth 14
early_effect-tree s move effects.Mist = search (tree_rules, set_mist-tree) depth 14
early_effect-tree s move effects.FocusEnergy = search (tree_rules, set_focus_energy-tree) depth 14
early_effect-tree s move effects.Screen = search (tree_rules, set_screen-tree) depth 14
early_effect-tree s move effects.Haze = search (tree_rules, haze-tree) depth 14
early_effect-tree s move effects.InflictConfusion = search (tree_rules, confuse_foe-tree) depth 14
early_effect-tree s move effects.Heal = search (tree_rules, heal-tree) depth 14
early_effect-tree s move effects.InflictPoison = search (tree_rules, poison_foe-tree) depth 14
early_effect-tree s move effects.InflictParalysis = search (tree_rules, paralyse_foe-tree) depth 14
early_effect-tree s move effects.LeechSeed = search (tree_rules, seed_foe-tree) depth 14
early_effect-tree s move effects.Substitute = search (tree_rules, make_substitute-tree) depth 14
early_effect-tree s move effects.Splash = search (tree_rules, splash-tree) depth 14
early_effect-tree s move _ = search (tree_rules, fail-tree) depth 14

pub ready_to_sleep-tree : (s : Side) (move : Move) → HasTree (ready_to_sleep s move)
unfolding ready_to_sleep
ready_to_sleep-tree s move = search (tree_rules, on_conditions-tree, fails_if-tree, must_hit-tree) depth 14

pub put_to_sleep-tree : (r : Ruling) (s : Side) (move : Move) → RulingHasTrees r → HasTree (put_to_sleep r s move)
unfolding put_to_sleep
put_to_sleep-tree r s move ruling = search (tree_rules, ready_to_sleep-tree, ruling.sleeps) depth 14

pub lower_foes_stat-tree : (s : Side) (move : Move) (stat : Stat) (by : ℕ) → HasTree (lower_foes_stat s move stat by)
unfolding lower_foes_stat
lower_foes_stat-tree s move stat by = search (tree_rules, fails_if-tree, must_hit-tree, lower_stage-tree, fail-tree) depth 14

pub bide_for-tree : (s : Side) (b : ℕ) → HasTree (bide_for s b)
unfolding bide_for
bide_for-tree s b = search (tree_rules, starts-tree) depth 14

pub start_bide-tree : (s : Side) → HasTree (start_bide s)
unfolding start_bide
start_bide-tree s = search (tree_rules, bide_for-tree) depth 14

pub late_effect-tree : (r : Ruling) (s : Side) (move : Move) (effect : Effect) → RulingHasTrees r → HasTree (late_effect r s move effect)
unfolding late_effect
late_effect-tree r s move (effects.StatUp stat n) ruling = search (tree_rules, raise_stage-tree, fail-tree) depth 14
late_effect-tree r s move (effects.StatDown stat n) ruling = search (tree_rules, lower_foes_stat-tree) depth 14
late_effect-tree r s move effects.InflictSleep ruling = search (tree_rules, put_to_sleep-tree) depth 14
late_effect-tree r s move effects.Bide ruling = search (tree_rules, start_bide-tree) depth 14
late_effect-tree r s move _ ruling = search (tree_rules) depth 14

pub happens_below-tree : (bound : ℕ) (f : Phase) (b : ℕ) → HasTree f → HasTree (happens_below bound f b)
unfolding happens_below
happens_below-tree bound f b f-tree = search (tree_rules) depth 14

pub by_chance-tree : (bound : ℕ) (f : Phase) → HasTree f → HasTree (by_chance bound f)
unfolding by_chance
by_chance-tree bound f f-tree = search (tree_rules, happens_below-tree) depth 14

pub thaw-tree : (s : Side) (move : Move) → HasTree (thaw s move)
unfolding thaw
thaw-tree s move = search (tree_rules, cure-tree) depth 14

pub may_inflict-tree : (s : Side) (move : Move) (bound : ℕ) (f : Phase) → HasTree f → HasTree (may_inflict s move bound f)
unfolding may_inflict
may_inflict-tree s move bound f f-tree = search (tree_rules, thaw-tree, by_chance-tree) depth 14

pub may_poison-tree : (s : Side) (bound : ℕ) → HasTree (may_poison s bound)
unfolding may_poison
may_poison-tree s bound = search (tree_rules, by_chance-tree, inflict-tree) depth 14

pub may_confuse-tree : (s : Side) (bound : ℕ) → HasTree (may_confuse s bound)
unfolding may_confuse
may_confuse-tree s bound = search (tree_rules, by_chance-tree, confuse-tree) depth 14

pub flinch-tree : (s : Side) → HasTree (flinch s)
unfolding flinch
flinch-tree s = search (tree_rules, on_conditions-tree) depth 14

pub kept_away_effect-tree : (r : Ruling) (s : Side) (move : Move) (effect : Effect) → RulingHasTrees r → HasTree (kept_away_effect r s move effect)
unfolding kept_away_effect
kept_away_effect-tree r s move (effects.PoisonChance n) ruling = search (tree_rules, may_poison-tree) depth 14
kept_away_effect-tree r s move effects.Twineedle ruling = search (tree_rules, may_poison-tree) depth 14
kept_away_effect-tree r s move (effects.BurnChance n) ruling = search (tree_rules, may_inflict-tree, inflict-tree) depth 14
kept_away_effect-tree r s move effects.FreezeChance ruling = search (tree_rules, may_inflict-tree, ruling.freezes) depth 14
kept_away_effect-tree r s move (effects.ParalysisChance n) ruling = search (tree_rules, may_inflict-tree, inflict-tree) depth 14
kept_away_effect-tree r s move (effects.FlinchChance n) ruling = search (tree_rules, by_chance-tree, flinch-tree) depth 14
kept_away_effect-tree r s move (effects.StatDownChance stat) ruling = search (tree_rules, by_chance-tree, lower_stage-tree) depth 14
kept_away_effect-tree r s move _ ruling = search (tree_rules) depth 14

pub disable_for-tree : (s : Side) (b : ℕ) (c : ℕ) → HasTree (disable_for s b c)
unfolding disable_for
disable_for-tree s b c = search (tree_rules, starts-tree) depth 14

pub disable_slot-tree : (s : Side) (moves : List KnownMove) (b : ℕ) → HasTree (disable_slot s moves b)
unfolding disable_slot
disable_slot-tree s moves b = search (tree_rules, fails_if-tree, disable_for-tree) depth 14

pub disable-tree : (s : Side) (move : Move) → HasTree (disable s move)
unfolding disable
disable-tree s move = search (tree_rules, must_hit-tree, fails_if-tree, disable_slot-tree) depth 14

pub must_recharge-tree : (s : Side) → HasTree (must_recharge s)
unfolding must_recharge
must_recharge-tree s = search (tree_rules) depth 14

pub side_effect-tree : (r : Ruling) (s : Side) (move : Move) (e : Effect) → RulingHasTrees r → HasTree (side_effect r s move e)
unfolding side_effect
side_effect-tree r s move (effects.ConfusionChance n) ruling = search (tree_rules, may_confuse-tree) depth 14
side_effect-tree r s move effects.Disable ruling = search (tree_rules, disable-tree) depth 14
side_effect-tree r s move effects.Recharge ruling = search (tree_rules, must_recharge-tree) depth 14
side_effect-tree r s move e ruling = search (tree_rules, kept_away_effect-tree) depth 14

pub count_again-tree : (f : ℕ → Phase) (c : ℕ) → ((x : ℕ) → HasTree (f x)) → HasTree (count_again f c)
unfolding count_again
count_again-tree f c f-tree = search (tree_rules, f-tree) depth 14

pub count_by_draw-tree : (f : ℕ → Phase) (b : ℕ) → ((x : ℕ) → HasTree (f x)) → HasTree (count_by_draw f b)
unfolding count_by_draw
count_by_draw-tree f b f-tree = search (tree_rules, count_again-tree, f-tree) depth 14

pub draw_count-tree : (f : ℕ → Phase) → ((x : ℕ) → HasTree (f x)) → HasTree (draw_count f)
unfolding draw_count
draw_count-tree f f-tree = search (tree_rules, count_by_draw-tree, f-tree) depth 14

pub trap_for-tree : (s : Side) (n : ℕ) → HasTree (trap_for s n)
unfolding trap_for
trap_for-tree s n = search (tree_rules, on_conditions-tree) depth 14

pub trap-tree : (s : Side) → HasTree (trap s)
unfolding trap
trap-tree s = search (tree_rules, on_conditions-tree, draw_count-tree, trap_for-tree) depth 14

pub thrash_less-tree : (s : Side) (x : Option ℕ) → HasTree (thrash_less s x)
unfolding thrash_less
thrash_less-tree s None = search (tree_rules) depth 14
thrash_less-tree s (Some turns) = search (tree_rules, on_conditions-tree, confuse-tree) depth 14

pub thrash_for-tree : (s : Side) (move : Move) (b : ℕ) → HasTree (thrash_for s move b)
unfolding thrash_for
thrash_for-tree s move b = search (tree_rules, on_conditions-tree, on_active-tree) depth 14

pub thrash_about-tree : (s : Side) (move : Move) → HasTree (thrash_about s move)
unfolding thrash_about
thrash_about-tree s move = search (tree_rules, thrash_less-tree, thrash_for-tree) depth 14

pub set_letting_go-tree : HasTree set_letting_go
unfolding set_letting_go
set_letting_go-tree = search (tree_rules) depth 14

pub let_energy_go-tree : (s : Side) (energy : ℕ) → HasTree (let_energy_go s energy)
unfolding let_energy_go
let_energy_go-tree s energy = search (tree_rules, ends-tree, set_last_damage-tree, set_letting_go-tree, set_missed-tree) depth 14

pub store_energy-tree : (s : Side) (damage : ℕ) → HasTree (store_energy s damage)
unfolding store_energy
store_energy-tree s damage = search (tree_rules, lasts-tree) depth 14

pub bide_on-tree : (s : Side) (x : Option Storing) (damage : ℕ) → HasTree (bide_on s x damage)
unfolding bide_on
bide_on-tree s None damage = search (tree_rules) depth 14
bide_on-tree s (Some b) damage = search (tree_rules, let_energy_go-tree, store_energy-tree) depth 14

pub bide_goes_on-tree : (s : Side) → HasTree (bide_goes_on s)
unfolding bide_goes_on
bide_goes_on-tree s = search (tree_rules, bide_on-tree) depth 14

pub make_current-tree : (s : Side) (pick : Pick) → HasTree (make_current s pick)
unfolding make_current
make_current-tree s pick = search (tree_rules, on_active-tree) depth 14

pub begin_charge-tree : (s : Side) (pick : Pick) (move : Move) → HasTree (begin_charge s pick move)
unfolding begin_charge
begin_charge-tree s pick move = search (tree_rules, make_current-tree, on_conditions-tree) depth 14

pub end_charge-tree : (s : Side) → HasTree (end_charge s)
unfolding end_charge
end_charge-tree s = search (tree_rules, on_conditions-tree) depth 14

pub charge-tree : (s : Side) (pick : Pick) (move : Move) → HasTree (charge s pick move)
unfolding charge
charge-tree s pick move = search (tree_rules, end_charge-tree, begin_charge-tree) depth 14

pub psywave-tree : (level : ℕ) → HasTree (psywave level)
unfolding psywave
psywave-tree level = search (tree_rules, fault-tree, set_last_damage-tree) depth 14

pub deal_fixed-tree : (s : Side) (move : ℕ) → HasTree (deal_fixed s move)
unfolding deal_fixed
deal_fixed-tree s move = search (tree_rules, set_last_damage-tree, psywave-tree) depth 14

pub fixed_damage-tree : (s : Side) (move : Move) → HasTree (fixed_damage s move)
unfolding fixed_damage
fixed_damage-tree s move = search (tree_rules, hit_or_miss-tree, deal_fixed-tree) depth 14

pub deal_everything-tree : (b : ℕ) → HasTree (deal_everything b)
unfolding deal_everything
deal_everything-tree b = search (tree_rules, set_last_damage-tree) depth 14

pub knock_out_by_type-tree : (s : Side) (move : Move) → HasTree (knock_out_by_type s move)
unfolding knock_out_by_type
knock_out_by_type-tree s move = search (tree_rules, set_missed-tree, deal_everything-tree) depth 14

pub knock_out-tree : (s : Side) (move : Move) → HasTree (knock_out s move)
unfolding knock_out
knock_out-tree s move = search (tree_rules, set_last_damage-tree, roll_critical-tree, set_missed-tree, knock_out_by_type-tree, hit_or_miss-tree) depth 14

pub counter_by-tree : (s : Side) (move : Move) (damage : ℕ) → HasTree (counter_by s move damage)
unfolding counter_by
counter_by-tree s move damage = search (tree_rules, set_last_damage-tree, hit_or_miss-tree) depth 14

pub counter-tree : (s : Side) (move : Move) → HasTree (counter s move)
unfolding counter
counter-tree s move = search (tree_rules, roll_critical-tree, counter_by-tree, set_missed-tree) depth 14

pub set_planned-tree : (hits : ℕ) → HasTree (set_planned hits)
unfolding set_planned
set_planned-tree hits = search (tree_rules) depth 14

pub plan_two_more-tree : (n : ℕ) → HasTree (plan_two_more n)
unfolding plan_two_more
plan_two_more-tree n = search (tree_rules, set_planned-tree) depth 14

pub plan_hits-tree : HasTree plan_hits
unfolding plan_hits
plan_hits-tree = search (tree_rules, draw_count-tree, plan_two_more-tree) depth 14

pub recoil-tree : (s : Side) (move : Move) → HasTree (recoil s move)
unfolding recoil
recoil-tree s move = search (tree_rules, lose_hp-tree) depth 14

pub drain_by-tree : (s : Side) (n : ℕ) → HasTree (drain_by s n)
unfolding drain_by
drain_by-tree s n = search (tree_rules, set_last_damage-tree, gain_hp-tree) depth 14

pub drain-tree : (s : Side) → HasTree (drain s)
unfolding drain
drain-tree s = search (tree_rules, drain_by-tree) depth 14

pub start_rage-tree : (s : Side) → HasTree (start_rage s)
unfolding start_rage
start_rage-tree s = search (tree_rules, starts-tree) depth 14

pub explode-tree : (s : Side) → HasTree (explode s)
unfolding explode
explode-tree s = search (tree_rules, on_member-tree, on_conditions-tree) depth 14

pub hit_effect-tree : (s : Side) (move : Move) (effect : Effect) → HasTree (hit_effect s move effect)
unfolding hit_effect
hit_effect-tree s move effects.MultiHit = search (tree_rules, plan_hits-tree) depth 14
hit_effect-tree s move effects.DoubleHit = search (tree_rules, set_planned-tree) depth 14
hit_effect-tree s move effects.Twineedle = search (tree_rules, set_planned-tree) depth 14
hit_effect-tree s move effects.Recoil = search (tree_rules, recoil-tree) depth 14
hit_effect-tree s move effects.Drain = search (tree_rules, drain-tree) depth 14
hit_effect-tree s move effects.DreamEater = search (tree_rules, drain-tree) depth 14
hit_effect-tree s move effects.Rage = search (tree_rules, start_rage-tree) depth 14
hit_effect-tree s move effects.Explode = search (tree_rules, explode-tree) depth 14
hit_effect-tree s move _ = search (tree_rules) depth 14

pub crash-tree : (s : Side) → HasTree (crash s)
unfolding crash
crash-tree s = search (tree_rules, lose_hp-tree, set_last_damage-tree) depth 14

pub missed_move-tree : (s : Side) (move : Move) → HasTree (missed_move s move)
unfolding missed_move
missed_move-tree s move = search (tree_rules, note_miss-tree, crash-tree, explode-tree) depth 14

pub note_effectiveness-tree : (target : Side) (n : DamageNumbers) → HasTree (note_effectiveness target n)
unfolding note_effectiveness
note_effectiveness-tree target n = search (tree_rules) depth 14

pub note_critical-tree : (target : Side) → HasTree (note_critical target)
unfolding note_critical
note_critical-tree target = search (tree_rules) depth 14

pub note_first_hit-tree : (s : Side) (move : Move) → HasTree (note_first_hit s move)
unfolding note_first_hit
note_first_hit-tree s move = search (tree_rules, note_critical-tree, note_effectiveness-tree) depth 14

pub count_hit-tree : HasTree count_hit
unfolding count_hit
count_hit-tree = search (tree_rules) depth 14

pub build_rage-tree : (s : Side) → HasTree (build_rage s)
unfolding build_rage
build_rage-tree s = search (tree_rules, raise_stage-tree) depth 14

pub hit_once-tree : (s : Side) (move : Move) → HasTree (hit_once s move)
unfolding hit_once
hit_once-tree s move = search (tree_rules, land-tree, count_hit-tree, hit_effect-tree, build_rage-tree) depth 14

pub hit_again-tree : (n : ℕ) (s : Side) (move : Move) → HasTree (hit_again n s move)
unfolding hit_again
hit_again-tree zero s move = stay-tree
hit_again-tree (suc k) s move = choose-tree (λ p s n. refl) stay-tree (then-tree (hit_once-tree s move) (hit_again-tree k s move))

pub note_hit_count-tree : (target : Side) (hits : ℕ) → HasTree (note_hit_count target hits)
unfolding note_hit_count
note_hit_count-tree target hits = search (tree_rules) depth 14

pub other_hits-tree : (s : Side) (move : Move) → HasTree (other_hits s move)
unfolding other_hits
other_hits-tree s move = search (tree_rules, hit_again-tree, note_hit_count-tree) depth 14

pub hits-tree : (s : Side) (move : Move) → HasTree (hits s move)
unfolding hits
hits-tree s move = search (tree_rules, note_first_hit-tree, hit_once-tree, other_hits-tree) depth 14

pub set_going_on-tree : (going_on : Bool) → HasTree (set_going_on going_on)
unfolding set_going_on
set_going_on-tree going_on = search (tree_rules) depth 14

pub see_if_going_on-tree : (s : Side) (pick : Pick) → HasTree (see_if_going_on s pick)
unfolding see_if_going_on
see_if_going_on-tree s pick = search (tree_rules, set_going_on-tree) depth 14

pub gate_or_held-tree : (s : Side) (pick : Pick) → HasTree (gate_or_held s pick)
unfolding gate_or_held
gate_or_held-tree s Held = search (tree_rules, cant-tree) depth 14
gate_or_held-tree s pick = search (tree_rules, gate-tree) depth 14

pub spend_pp-tree : (s : Side) → HasTree (spend_pp s)
unfolding spend_pp
spend_pp-tree s = search (tree_rules, on_member-tree) depth 14

pub use_move-tree : (s : Side) (pick : Pick) (move : Move) → HasTree (use_move s pick move)
unfolding use_move
use_move-tree s pick move = search (tree_rules, make_current-tree, spend_pp-tree) depth 14

pub prelude-tree : (s : Side) (move : Move) → HasTree (prelude s move)
unfolding prelude
prelude-tree s move = search (tree_rules, trap-tree, thrash_about-tree) depth 14

pub lead_up-tree : (s : Side) (pick : Pick) (move : Move) → HasTree (lead_up s pick move)
unfolding lead_up
lead_up-tree s pick move = search (tree_rules, charge-tree, use_move-tree, early_effect-tree, prelude-tree) depth 14

pub usual_damage-tree : (s : Side) (move : Move) → HasTree (usual_damage s move)
unfolding usual_damage
usual_damage-tree s move = search (tree_rules, set_last_damage-tree, roll_critical-tree, roll_damage-tree, hit_or_miss-tree) depth 14

pub damage_of-tree : (s : Side) (move : Move) (effect : Effect) → HasTree (damage_of s move effect)
unfolding damage_of
damage_of-tree s move effects.Counter = search (tree_rules, counter-tree) depth 14
damage_of-tree s move effects.FixedDamage = search (tree_rules, fixed_damage-tree) depth 14
damage_of-tree s move effects.SuperFang = search (tree_rules, fixed_damage-tree) depth 14
damage_of-tree s move effects.OneHitKnockOut = search (tree_rules, knock_out-tree) depth 14
damage_of-tree s move _ = search (tree_rules, usual_damage-tree, set_last_damage-tree) depth 14

pub strike-tree : (r : Ruling) (s : Side) (move : Move) → RulingHasTrees r → HasTree (strike r s move)
unfolding strike
strike-tree r s move ruling = search (tree_rules, missed_move-tree, hits-tree, side_effect-tree) depth 14

pub carry_out-tree : (r : Ruling) (s : Side) (pick : Pick) (move : Move) → RulingHasTrees r → HasTree (carry_out r s pick move)
unfolding carry_out
carry_out-tree r s pick move ruling = search (tree_rules, bide_goes_on-tree, lead_up-tree, damage_of-tree, late_effect-tree, strike-tree) depth 14

pub action_parts-tree : (r : Ruling) (s : Side) (pick : Pick) → RulingHasTrees r → HasTree (action_parts r s pick)
unfolding action_parts
action_parts-tree r s pick ruling = search (tree_rules, gate_or_held-tree, see_if_going_on-tree, carry_out-tree) depth 14

pub keep_accuracy-tree : (s : Side) → HasTree (keep_accuracy s)
unfolding keep_accuracy
keep_accuracy-tree s = search (tree_rules, on_active-tree) depth 14

pub begin-tree : (s : Side) → HasTree (begin s)
unfolding begin
begin-tree s = search (tree_rules) depth 14

pub resume-tree : HasTree resume
unfolding resume
resume-tree = drawless-tree (λ p s n. refl)

pub act-tree : (r : Ruling) (s : Side) (pick : Pick) → RulingHasTrees r → HasTree (act r s pick)
unfolding act
act-tree r s pick ruling =
    after-tree (after-tree (after-tree (begin-tree s) (action_parts-tree r s pick ruling)) (keep_accuracy-tree s)) resume-tree

pub send_out-tree : (s : Side) (place : ℕ) → HasTree (send_out s place)
unfolding send_out
send_out-tree s place = search (tree_rules, on_active-tree, on_conditions-tree) depth 14

pub send_if_chosen-tree : (s : Side) (x : Choice) → HasTree (send_if_chosen s x)
unfolding send_if_chosen
send_if_chosen-tree s (choices.Switch place) = search (tree_rules, send_out-tree) depth 14
send_if_chosen-tree s _ = search (tree_rules) depth 14

pub replace-tree : (one : Choice) (two : Choice) → HasTree (replace one two)
unfolding replace
replace-tree one two = search (tree_rules, send_if_chosen-tree) depth 14

pub start-tree : HasTree start
unfolding start
start-tree = search (tree_rules, send_out-tree) depth 14

pub toss-tree : (begins : Side → Phase) (b : ℕ) → ((x : Side) → HasTree (begins x)) → HasTree (toss begins b)
unfolding toss
toss-tree begins b begins-tree = search (tree_rules, begins-tree) depth 14

pub in_order_of_speed-tree : (begins : Side → Phase) → ((x : Side) → HasTree (begins x)) → HasTree (in_order_of_speed begins)
unfolding in_order_of_speed
in_order_of_speed-tree begins begins-tree = search (tree_rules, toss-tree, begins-tree) depth 14

pub in_order_of_rank-tree : (one : ℕ) (two : ℕ) (begins : Side → Phase) → ((x : Side) → HasTree (begins x)) → HasTree (in_order_of_rank one two begins)
unfolding in_order_of_rank
in_order_of_rank-tree one two begins begins-tree = search (tree_rules, in_order_of_speed-tree, begins-tree) depth 14

pub in_order-tree : (begins : Side → Phase) → ((x : Side) → HasTree (begins x)) → HasTree (in_order begins)
unfolding in_order
in_order-tree begins begins-tree = search (tree_rules, in_order_of_rank-tree, begins-tree) depth 14

pub do_part-tree : (r : Ruling) (x : Part) → RulingHasTrees r → HasTree (do_part r x)
unfolding do_part
do_part-tree r (Sends s place) ruling = search (tree_rules, begin-tree, send_out-tree) depth 14
do_part-tree r (Acts s pick) ruling = search (tree_rules, begin-tree, act-tree) depth 14
do_part-tree r (Suffers s) ruling = search (tree_rules, residual-tree) depth 14

pub end_spent_trapping-tree : (s : Side) → HasTree (end_spent_trapping s)
unfolding end_spent_trapping
end_spent_trapping-tree s = search (tree_rules, on_conditions-tree) depth 14

pub end_turn-tree : HasTree end_turn
unfolding end_turn
end_turn-tree = search (tree_rules, end_spent_trapping-tree) depth 14

pub do_parts-tree : (r : Ruling) (parts : List Part) → RulingHasTrees r → HasTree (do_parts r parts)
unfolding do_parts
do_parts-tree r [] ruling = end_turn-tree
do_parts-tree r (part ∷ rest) ruling =
    then-tree (do_part-tree r part ruling) (choose-tree (λ p s n. refl) stay-tree (do_parts-tree r rest ruling))

pub set_picked-tree : (s : Side) (pick : Pick) → HasTree (set_picked s pick)
unfolding set_picked
set_picked-tree s pick = search (tree_rules, on_active-tree) depth 14

pub both_pick-tree : (r : Ruling) (one : Pick) (two : Pick) → RulingHasTrees r → HasTree (both_pick r one two)
unfolding both_pick
both_pick-tree r one two ruling = search (tree_rules, set_picked-tree, in_order-tree, do_parts-tree) depth 14

pub one_picks-tree : (r : Ruling) (s : Side) (pick : Pick) (place : ℕ) → RulingHasTrees r → HasTree (one_picks r s pick place)
unfolding one_picks
one_picks-tree r s pick place ruling = search (tree_rules, set_picked-tree, do_parts-tree) depth 14

pub play_turn-tree : (r : Ruling) (x : Choice) (x2 : Choice) → RulingHasTrees r → HasTree (play_turn r x x2)
unfolding play_turn
play_turn-tree r (choices.Move j) (choices.Move k) ruling = search (tree_rules, both_pick-tree) depth 14
play_turn-tree r (choices.Move j) (choices.Switch place) ruling = search (tree_rules, one_picks-tree) depth 14
play_turn-tree r (choices.Switch place) (choices.Move k) ruling = search (tree_rules, one_picks-tree) depth 14
play_turn-tree r (choices.Switch one) (choices.Switch two) ruling = search (tree_rules, do_parts-tree) depth 14
play_turn-tree r _ _ ruling = search (tree_rules) depth 14

pub turn-tree : (r : Ruling) (one : Choice) (two : Choice) → RulingHasTrees r → HasTree (turn r one two)
unfolding turn
turn-tree r one two ruling = search (tree_rules, on_conditions-tree, play_turn-tree) depth 14

pub faint_if_fallen-tree : (s : Side) → HasTree (faint_if_fallen s)
unfolding faint_if_fallen
faint_if_fallen-tree s = search (tree_rules) depth 14

pub faint_in_order-tree : (actor : Side) → HasTree (faint_in_order actor)
unfolding faint_in_order
faint_in_order-tree actor = search (tree_rules, faint_if_fallen-tree) depth 14

pub the_fallen_faint-tree : HasTree the_fallen_faint
unfolding the_fallen_faint
the_fallen_faint-tree = search (tree_rules, faint_in_order-tree) depth 14

pub ask_nothing-tree : HasTree ask_nothing
unfolding ask_nothing
ask_nothing-tree = search (tree_rules) depth 14

pub battle_ends-tree : (outcome : Outcome) (event : Event) → HasTree (battle_ends outcome event)
unfolding battle_ends
battle_ends-tree outcome event = search (tree_rules, ask_nothing-tree) depth 14

pub end_if_decided-tree : (r : Ruling) → RulingHasTrees r → HasTree (end_if_decided r)
unfolding end_if_decided
end_if_decided-tree r ruling = search (tree_rules, battle_ends-tree) depth 14

pub ask_for_switches-tree : HasTree ask_for_switches
unfolding ask_for_switches
ask_for_switches-tree = search (tree_rules) depth 14

pub ask_for_moves-tree : HasTree ask_for_moves
unfolding ask_for_moves
ask_for_moves-tree = search (tree_rules) depth 14

pub settle-tree : (r : Ruling) → RulingHasTrees r → HasTree (settle r)
unfolding settle
settle-tree r ruling = search (tree_rules, end_if_decided-tree, ask_for_switches-tree, ask_for_moves-tree) depth 14

pub close-tree : (r : Ruling) (x : Outcome) → RulingHasTrees r → HasTree (close r x)
unfolding close
close-tree r (outcomes.Fault n) ruling = search (tree_rules, ask_nothing-tree) depth 14
close-tree r _ ruling = search (tree_rules, the_fallen_faint-tree, settle-tree) depth 14

pub update_for-tree : (r : Ruling) (x : Request) (x2 : Request) (one : Choice) (two : Choice) → RulingHasTrees r → HasTree (update_for r x x2 one two)
unfolding update_for
update_for-tree r requests.Move requests.Move one two ruling = search (tree_rules, turn-tree) depth 14
update_for-tree r requests.Pass requests.Pass one two ruling = search (tree_rules, start-tree) depth 14
update_for-tree r _ _ one two ruling = search (tree_rules, replace-tree) depth 14

restarted-tree : HasTree (λ p. record p { stopped = false })
restarted-tree = drawless-tree (λ p s n. refl)

pub close_update-tree : (r : Ruling) → RulingHasTrees r → HasTree (close_update r)
unfolding close_update given
close_update-tree r ruling =
    after-tree restarted-tree (given-tree {read = λ p. p.field.outcome} (λ p s n. refl) (λ outcome. close-tree r outcome ruling))

pub update-tree : (r : Ruling) (one two : Choice) → RulingHasTrees r → HasTree (update r one two)
unfolding update given
update-tree r one two ruling = after-tree (given-tree {A = Request × Request}
    {read = λ p. (p.field.request_one, p.field.request_two)} (λ p s n. refl)
    (λ due. update_for-tree r due.0 due.1 one two ruling)) (close_update-tree r ruling)

pub ruling-tree : (terms : Terms) → RulingHasTrees (ruling_of terms)
ruling-tree terms = record { sleeps = sleeps_under-tree terms.rules.sleep_clause; freezes = freezes_under-tree terms.rules.freeze_clause }
