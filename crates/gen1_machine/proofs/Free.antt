-- What no phase of an action touches: turn number, places, members that aren't out, and the length of a party. A fact about
-- these alone is free, and every phase of an action keeps it. tools/gen writes this file.
use Rattle.gen1_machine.specs.Action.{act, action_parts, begin, carry_out, damage_of, gate_or_held, keep_accuracy, lead_up, prelude, resume, see_if_going_on, set_going_on, spend_pp, strike, use_move, usual_damage}
use Rattle.gen1_machine.specs.Charging.{begin_charge, charge, end_charge, make_current}
use Rattle.gen1_machine.specs.Conditions.{ActiveConditions, Storing}
use Rattle.gen1_machine.specs.Counter.{counter, counter_by}
use Rattle.gen1_machine.specs.CriticalHits.{critical_by, roll_critical, set_critical}
use Rattle.gen1_machine.specs.CurrentStats.{at_new_stage, recomputed_at, with_penalty_of}
use Rattle.gen1_machine.specs.Damage.{damage_from, roll_damage, set_through_types, varied_by, vary, DamageNumbers}
use Rattle.gen1_machine.specs.EarlyEffects.{clear_side, confuse, confuse_foe, confused_by, convert, cure_kind, early_effect, haze, haze_cures, heal, make_substitute, paralyse_foe, pay_for_substitute, poison_foe, recover, rest_up, seed_foe, set_focus_energy, set_light_screen, set_mist, set_reflect, set_screen, set_skips, splash, take_types, with_levelled_stats}
use Rattle.gen1_machine.specs.FixedDamage.{deal_everything, deal_fixed, fixed_damage, knock_out, knock_out_by_type, psywave}
use Rattle.gen1_machine.specs.Gate.{cant, confusion_test, disable_count, disabled_test, flinch_test, frozen_test, gate, gate_of_move, gate_of_status, gate_of_turn, may_be_paralysed, may_hurt_itself, paralysis_test, recharge_test, sleep_on, sleep_test, trapped_test, wake}
use Rattle.gen1_machine.specs.GoingOn.{bide_goes_on, bide_on, count_again, count_by_draw, draw_count, let_energy_go, set_letting_go, store_energy, thrash_about, thrash_for, thrash_less, trap, trap_for}
use Rattle.gen1_machine.specs.HitEffects.{drain, drain_by, explode, hit_effect, plan_hits, plan_two_more, recoil, set_planned, start_rage}
use Rattle.gen1_machine.specs.HitOnItself.{hurt_itself, hurt_itself_by, land_on_foes_substitute}
use Rattle.gen1_machine.specs.HitTest.{hit_or_miss, hit_test, hits_below, miss, must_hit, note_miss, set_tested, test_by}
use Rattle.gen1_machine.specs.Landing.{land, land_by, land_damage, land_on_hp, land_on_substitute, set_broke}
use Rattle.gen1_machine.specs.LateEffects.{bide_for, late_effect, lower_foes_stat, put_to_sleep, ready_to_sleep, start_bide}
use Rattle.gen1_machine.specs.ManyHits.{build_rage, count_hit, crash, hit_again, hit_once, hits, missed_move, note_critical, note_effectiveness, note_first_hit, note_hit_count, other_hits}
use Rattle.gen1_machine.specs.Moves.{Move}
use Rattle.gen1_machine.specs.Progress.{cure, fail, fails_if, fault, gain_hp, inflict, lose_hp, Action, Phase, Progress}
use Rattle.gen1_machine.specs.ResidualDamage.{drained_by, residual, suffer, suffer_seed, suffer_status, worsen}
use Rattle.gen1_machine.specs.Ruling.{fall_asleep, freeze_freely, freeze_only_one, freezes_under, ruling_of, sleep_for, sleep_freely, sleep_only_one, sleeps_under, Ruling}
use Rattle.gen1_machine.specs.SideEffects.{by_chance, disable, disable_for, disable_slot, flinch, happens_below, kept_away_effect, may_confuse, may_inflict, may_poison, must_recharge, side_effect, thaw}
use Rattle.gen1_machine.specs.StageShift.{lower_from, lower_stage, note_boost, note_unboost, raise_from, raise_stage, shift_to, take_penalty_again}
use Rattle.gen1_machine.specs.State.{changed_active, changed_conditions, changed_member, with_current_move, with_kept_accuracy, with_last_damage, with_outcome, with_picked_move, with_types_of, Active, Field, Terms}
use Rattle.gen1_machine.specs.declared.event.CantReason.{CantReason}
use Rattle.gen1_machine.specs.declared.event.DamageSource.{DamageSource}
use Rattle.gen1_machine.specs.declared.event.Kind.{Kind}
use Rattle.gen1_machine.specs.declared.side.DisabledSlot.{DisabledSlot}
use Rattle.gen1_machine.specs.declared.side.Pick.{Pick}
use Rattle.gen1_machine.specs.declared.side.Pick.TheVariants.{Held}
use Rattle.gen1_machine.specs.declared.side.UsedMove.{UsedMove}
use Rattle.gen1_machine.specs.declared.side.Side.{Side}
use Rattle.gen1_rolls.specs.Streams.{Stream}
use Rattle.gen1_stats.specs.Members.{Member}
use Rattle.gen1_stats.specs.declared.member.KnownMove.{KnownMove}
use Rattle.gen1_stats.specs.declared.member.Status.{Status}
use Rattle.gen1_stats.specs.declared.member.Status.TheVariants.{Asleep, Burned, Frozen, Healthy, Paralysed, Poisoned}
use Rattle.gen1_tables.specs.declared.effect.Effect.{Effect}
use Rattle.gen1_tables.specs.declared.effect.Stat.{Stat}
use Rattle.gen1_tables.specs.declared.effect.Stat.TheVariants.{Accuracy, Attack, Defense, Evasion, Special, Speed}
use Rattle.std.proofs.Common.{refl, ◌≡◌}
use Rattle.std.specs.Prelude.{false, suc, true, zero, Bool, List, None, Option, Some, ℕ}
use Rattle.gen1_tables.specs.declared.effect.Effect.TheVariants as effects
use Rattle.gen1_machine.specs.declared.terms.Outcome.TheVariants as outcomes
use Rattle.gen1_machine.proofs.Keeps.{choose-keeps, keeps_rules, stay-keeps, then-keeps, Keeps, KeepsRuling, Spares, SparesAction}

-- A change of the member that is out. The same member stays out.
pub record LeavesPlace (change : Active → Active) : Type 0 where
  pub left : (a : Active) → (change a).place ≡ a.place

types-leave : (foe : Active) → LeavesPlace (with_types_of foe)
unfolding with_types_of
types-leave foe = record { left = λ a. refl }

current-leaves : (used : UsedMove) → LeavesPlace (with_current_move used)
unfolding with_current_move
current-leaves used = record { left = λ a. refl }

pub picked-leaves : (used : UsedMove) → LeavesPlace (with_picked_move used)
unfolding with_picked_move
picked-leaves used = record { left = λ a. refl }

accuracy-leaves : (byte : ℕ) → LeavesPlace (with_kept_accuracy byte)
unfolding with_kept_accuracy
accuracy-leaves byte = record { left = λ a. refl }

stage-leaves : (stat : Stat) (n : ℕ) → LeavesPlace (at_new_stage stat n)
unfolding at_new_stage
stage-leaves stat n = record { left = λ a. refl }

recomputed-leaves : (stat : Stat) (n : ℕ) → LeavesPlace (recomputed_at stat n)
unfolding recomputed_at
recomputed-leaves Attack n = record { left = λ a. refl }
recomputed-leaves Defense n = record { left = λ a. refl }
recomputed-leaves Speed n = record { left = λ a. refl }
recomputed-leaves Special n = record { left = λ a. refl }
recomputed-leaves Accuracy n = record { left = λ a. refl }
recomputed-leaves Evasion n = record { left = λ a. refl }

pub penalty-leaves : (status : Status) → LeavesPlace (with_penalty_of status)
unfolding with_penalty_of
penalty-leaves Healthy = record { left = λ a. refl }
penalty-leaves (Asleep turns marked) = record { left = λ a. refl }
penalty-leaves Poisoned = record { left = λ a. refl }
penalty-leaves Burned = record { left = λ a. refl }
penalty-leaves Frozen = record { left = λ a. refl }
penalty-leaves Paralysed = record { left = λ a. refl }

levelled-leaves : LeavesPlace with_levelled_stats
unfolding with_levelled_stats
levelled-leaves = record { left = λ a. refl }

ruleset place_rules = (types-leave, current-leaves, picked-leaves, accuracy-leaves, stage-leaves, recomputed-leaves, penalty-leaves, levelled-leaves)

pub record Free (P : Field → Action → Stream → Type 0) : Type 0 where
  pub member : (s : Side) (change : Member → Member) → Spares P (changed_member s change)
  pub active : (s : Side) (change : Active → Active) → LeavesPlace change → Spares P (changed_active s change)
  pub damage : (n : ℕ) → Spares P (with_last_damage n)
  pub outcome : (n : ℕ) → Spares P (with_outcome (outcomes.Fault n))
  pub action : (change : Action → Action) → SparesAction P change

module _ {P : Field → Action → Stream → Type 0} (free : Free P) where
  pub conditions-spared : (s : Side) (change : ActiveConditions → ActiveConditions) → Spares P (changed_conditions s change)
  unfolding changed_conditions
  conditions-spared s change = free.active s _ (record { left = λ a. refl })

  member-spared : (s : Side) (change : Member → Member) → Spares P (changed_member s change)
  member-spared = free.member

  active-spared : (s : Side) (change : Active → Active) → LeavesPlace change → Spares P (changed_active s change)
  active-spared = free.active

  damage-spared : (n : ℕ) → Spares P (with_last_damage n)
  damage-spared = free.damage

  outcome-spared : (n : ℕ) → Spares P (with_outcome (outcomes.Fault n))
  outcome-spared = free.outcome

  action-spared : (change : Action → Action) → SparesAction P change
  action-spared = free.action

  ruleset free_rules = (keeps_rules, action-spared, place_rules, conditions-spared, member-spared, active-spared, damage-spared, outcome-spared)

  pub fault-free : (n : ℕ) → Keeps P (fault n)
  unfolding fault
  fault-free n = search (free_rules) depth 14

  pub fail-free : (s : Side) → Keeps P (fail s)
  unfolding fail
  fail-free s = search (free_rules) depth 14

  pub fails_if-free : (s : Side) (test : Progress → Bool) → Keeps P (fails_if s test)
  unfolding fails_if
  fails_if-free s test = search (free_rules, fail-free) depth 14

  pub lose_hp-free : (s : Side) (source : DamageSource) (amount : ℕ) → Keeps P (lose_hp s source amount)
  unfolding lose_hp
  lose_hp-free s source amount = search (free_rules) depth 14

  pub gain_hp-free : (s : Side) (amount : ℕ) → Keeps P (gain_hp s amount)
  unfolding gain_hp
  gain_hp-free s amount = search (free_rules) depth 14

  pub inflict-free : (s : Side) (status : Status) (kind : Kind) → Keeps P (inflict s status kind)
  unfolding inflict
  inflict-free s status kind = search (free_rules) depth 14

  pub cure-free : (s : Side) (kind : Kind) → Keeps P (cure s kind)
  unfolding cure
  cure-free s kind = search (free_rules) depth 14

  pub set_critical-free : (critical : Bool) → Keeps P (set_critical critical)
  unfolding set_critical
  set_critical-free critical = search (free_rules) depth 14

  pub critical_by-free : (s : Side) (move : Move) (b : ℕ) → Keeps P (critical_by s move b)
  unfolding critical_by
  critical_by-free s move b = search (free_rules, set_critical-free) depth 14

  pub roll_critical-free : (s : Side) (move : Move) → Keeps P (roll_critical s move)
  unfolding roll_critical
  roll_critical-free s move = search (free_rules, critical_by-free) depth 14

  pub varied_by-free : (d : ℕ) (b : ℕ) → Keeps P (varied_by d b)
  unfolding varied_by
  varied_by-free d b = search (free_rules) depth 14

  pub vary-free : (d : ℕ) → Keeps P (vary d)
  unfolding vary
  vary-free d = search (free_rules, varied_by-free) depth 14

  pub set_through_types-free : Keeps P set_through_types
  unfolding set_through_types
  set_through_types-free = search (free_rules) depth 14

  pub damage_from-free : (n : DamageNumbers) (x : Option ℕ) → Keeps P (damage_from n x)
  unfolding damage_from
  damage_from-free n None = search (free_rules, fault-free) depth 14
  damage_from-free n (Some d) = search (free_rules, set_through_types-free, vary-free) depth 14

  pub roll_damage-free : (s : Side) (move : Move) → Keeps P (roll_damage s move)
  unfolding roll_damage
  roll_damage-free s move = search (free_rules, damage_from-free) depth 14

  pub miss-free : (s : Side) → Keeps P (miss s)
  unfolding miss
  miss-free s = search (free_rules) depth 14

  pub set_tested-free : (byte : ℕ) → Keeps P (set_tested byte)
  unfolding set_tested
  set_tested-free byte = search (free_rules) depth 14

  pub hits_below-free : (s : Side) (byte : ℕ) (b : ℕ) → Keeps P (hits_below s byte b)
  unfolding hits_below
  hits_below-free s byte b = search (free_rules, miss-free) depth 14

  pub test_by-free : (s : Side) (base : ℕ) (x : Option Bool) → Keeps P (test_by s base x)
  unfolding test_by
  test_by-free s base (Some true) = search (free_rules, set_tested-free) depth 14
  test_by-free s base (Some false) = search (free_rules, set_tested-free, miss-free) depth 14
  test_by-free s base None = search (free_rules, set_tested-free, hits_below-free) depth 14

  pub hit_test-free : (s : Side) (move : Move) (base : ℕ) → Keeps P (hit_test s move base)
  unfolding hit_test
  hit_test-free s move base = search (free_rules, test_by-free) depth 14

  pub hit_or_miss-free : (s : Side) (move : Move) → Keeps P (hit_or_miss s move)
  unfolding hit_or_miss
  hit_or_miss-free s move = search (free_rules, hit_test-free) depth 14

  pub note_miss-free : (s : Side) (move : Move) → Keeps P (note_miss s move)
  unfolding note_miss
  note_miss-free s move = search (free_rules) depth 14

  pub must_hit-free : (s : Side) (move : Move) → Keeps P (must_hit s move)
  unfolding must_hit
  must_hit-free s move = search (free_rules, hit_or_miss-free, note_miss-free) depth 14

  pub set_broke-free : Keeps P set_broke
  unfolding set_broke
  set_broke-free = search (free_rules) depth 14

  pub land_on_substitute-free : (target : Side) (damage : ℕ) (hp : ℕ) → Keeps P (land_on_substitute target damage hp)
  unfolding land_on_substitute
  land_on_substitute-free target damage hp = search (free_rules, set_broke-free) depth 14

  pub land_on_hp-free : (target : Side) (source : DamageSource) (damage : ℕ) → Keeps P (land_on_hp target source damage)
  unfolding land_on_hp
  land_on_hp-free target source damage = search (free_rules, lose_hp-free) depth 14

  pub land_by-free : (target : Side) (damage : ℕ) (x : Option ℕ) → Keeps P (land_by target damage x)
  unfolding land_by
  land_by-free target damage (Some hp) = search (free_rules, land_on_substitute-free) depth 14
  land_by-free target damage None = search (free_rules, land_on_hp-free) depth 14

  pub land_damage-free : (target : Side) (damage : ℕ) → Keeps P (land_damage target damage)
  unfolding land_damage
  land_damage-free target damage = search (free_rules, land_by-free) depth 14

  pub land-free : (target : Side) → Keeps P (land target)
  unfolding land
  land-free target = search (free_rules, land_damage-free) depth 14

  pub land_on_foes_substitute-free : (s : Side) (damage : ℕ) (x : Option ℕ) → Keeps P (land_on_foes_substitute s damage x)
  unfolding land_on_foes_substitute
  land_on_foes_substitute-free s damage None = search (free_rules) depth 14
  land_on_foes_substitute-free s damage (Some hp) = search (free_rules, land_on_substitute-free) depth 14

  pub hurt_itself_by-free : (s : Side) (x : Option ℕ) → Keeps P (hurt_itself_by s x)
  unfolding hurt_itself_by
  hurt_itself_by-free s None = search (free_rules, fault-free) depth 14
  hurt_itself_by-free s (Some damage) = search (free_rules, land_on_foes_substitute-free, land_on_hp-free) depth 14

  pub hurt_itself-free : (s : Side) → Keeps P (hurt_itself s)
  unfolding hurt_itself
  hurt_itself-free s = search (free_rules, hurt_itself_by-free) depth 14

  pub cant-free : (s : Side) (why : CantReason) → Keeps P (cant s why)
  unfolding cant
  cant-free s why = search (free_rules) depth 14

  pub wake-free : (s : Side) → Keeps P (wake s)
  unfolding wake
  wake-free s = search (free_rules) depth 14

  pub sleep_on-free : (s : Side) → Keeps P (sleep_on s)
  unfolding sleep_on
  sleep_on-free s = search (free_rules, cant-free) depth 14

  pub sleep_test-free : (s : Side) (x : Status) → Keeps P (sleep_test s x)
  unfolding sleep_test
  sleep_test-free s (Asleep turns marked) = search (free_rules, wake-free, sleep_on-free) depth 14
  sleep_test-free s _ = search (free_rules) depth 14

  pub frozen_test-free : (s : Side) → Keeps P (frozen_test s)
  unfolding frozen_test
  frozen_test-free s = search (free_rules, cant-free) depth 14

  pub trapped_test-free : (s : Side) → Keeps P (trapped_test s)
  unfolding trapped_test
  trapped_test-free s = search (free_rules, cant-free) depth 14

  pub flinch_test-free : (s : Side) → Keeps P (flinch_test s)
  unfolding flinch_test
  flinch_test-free s = search (free_rules, cant-free) depth 14

  pub recharge_test-free : (s : Side) → Keeps P (recharge_test s)
  unfolding recharge_test
  recharge_test-free s = search (free_rules, cant-free) depth 14

  pub disable_count-free : (s : Side) (x : Option DisabledSlot) → Keeps P (disable_count s x)
  unfolding disable_count
  disable_count-free s None = search (free_rules) depth 14
  disable_count-free s (Some d) = search (free_rules) depth 14

  pub may_hurt_itself-free : (s : Side) (b : ℕ) → Keeps P (may_hurt_itself s b)
  unfolding may_hurt_itself
  may_hurt_itself-free s b = search (free_rules, hurt_itself-free) depth 14

  pub confusion_test-free : (s : Side) (x : Option ℕ) → Keeps P (confusion_test s x)
  unfolding confusion_test
  confusion_test-free s None = search (free_rules) depth 14
  confusion_test-free s (Some turns) = search (free_rules, may_hurt_itself-free) depth 14

  pub disabled_test-free : (s : Side) (pick : Pick) → Keeps P (disabled_test s pick)
  unfolding disabled_test
  disabled_test-free s pick = search (free_rules, cant-free) depth 14

  pub may_be_paralysed-free : (s : Side) (b : ℕ) → Keeps P (may_be_paralysed s b)
  unfolding may_be_paralysed
  may_be_paralysed-free s b = search (free_rules, cant-free) depth 14

  pub paralysis_test-free : (s : Side) → Keeps P (paralysis_test s)
  unfolding paralysis_test
  paralysis_test-free s = search (free_rules, may_be_paralysed-free) depth 14

  pub gate_of_status-free : (s : Side) → Keeps P (gate_of_status s)
  unfolding gate_of_status
  gate_of_status-free s = search (free_rules, sleep_test-free, frozen_test-free, trapped_test-free) depth 14

  pub gate_of_turn-free : (s : Side) → Keeps P (gate_of_turn s)
  unfolding gate_of_turn
  gate_of_turn-free s = search (free_rules, flinch_test-free, recharge_test-free, disable_count-free) depth 14

  pub gate_of_move-free : (s : Side) (pick : Pick) → Keeps P (gate_of_move s pick)
  unfolding gate_of_move
  gate_of_move-free s pick = search (free_rules, confusion_test-free, disabled_test-free, paralysis_test-free) depth 14

  pub gate-free : (s : Side) (pick : Pick) → Keeps P (gate s pick)
  unfolding gate
  gate-free s pick = search (free_rules, gate_of_status-free, gate_of_turn-free, gate_of_move-free) depth 14

  pub worsen-free : (s : Side) → Keeps P (worsen s)
  unfolding worsen
  worsen-free s = search (free_rules) depth 14

  pub suffer-free : (s : Side) (source : DamageSource) → Keeps P (suffer s source)
  unfolding suffer
  suffer-free s source = search (free_rules, worsen-free, lose_hp-free) depth 14

  pub drained_by-free : (s : Side) (amount : ℕ) → Keeps P (drained_by s amount)
  unfolding drained_by
  drained_by-free s amount = search (free_rules, lose_hp-free, gain_hp-free) depth 14

  pub suffer_seed-free : (s : Side) → Keeps P (suffer_seed s)
  unfolding suffer_seed
  suffer_seed-free s = search (free_rules, worsen-free, drained_by-free) depth 14

  pub suffer_status-free : (s : Side) (x : Status) → Keeps P (suffer_status s x)
  unfolding suffer_status
  suffer_status-free s Poisoned = search (free_rules, suffer-free) depth 14
  suffer_status-free s Burned = search (free_rules, suffer-free) depth 14
  suffer_status-free s _ = search (free_rules) depth 14

  pub residual-free : (s : Side) → Keeps P (residual s)
  unfolding residual
  residual-free s = search (free_rules, suffer_status-free, suffer_seed-free) depth 14

  pub note_boost-free : (s : Side) (stat : Stat) (n : ℕ) → Keeps P (note_boost s stat n)
  unfolding note_boost
  note_boost-free s stat n = search (free_rules) depth 14

  pub note_unboost-free : (s : Side) (stat : Stat) (n : ℕ) → Keeps P (note_unboost s stat n)
  unfolding note_unboost
  note_unboost-free s stat n = search (free_rules) depth 14

  pub take_penalty_again-free : (s : Side) → Keeps P (take_penalty_again s)
  unfolding take_penalty_again
  take_penalty_again-free s = search (free_rules) depth 14

  pub shift_to-free : (user : Side) (target : Side) (stat : Stat) (n : ℕ) → Keeps P (shift_to user target stat n)
  unfolding shift_to
  shift_to-free user target stat n = search (free_rules, take_penalty_again-free) depth 14

  pub raise_from-free : (user : Side) (target : Side) (stat : Stat) (by : ℕ) (failing : Phase) (n : ℕ) (full : Bool) → Keeps P failing → Keeps P (raise_from user target stat by failing n full)
  unfolding raise_from
  raise_from-free user target stat by failing n full failing-free = search (free_rules, note_boost-free, shift_to-free) depth 14

  pub lower_from-free : (user : Side) (target : Side) (stat : Stat) (by : ℕ) (failing : Phase) (n : ℕ) (least : Bool) → Keeps P failing → Keeps P (lower_from user target stat by failing n least)
  unfolding lower_from
  lower_from-free user target stat by failing n least failing-free = search (free_rules, note_unboost-free, shift_to-free) depth 14

  pub raise_stage-free : (user : Side) (target : Side) (stat : Stat) (by : ℕ) (failing : Phase) → Keeps P failing → Keeps P (raise_stage user target stat by failing)
  unfolding raise_stage
  raise_stage-free user target stat by failing failing-free = search (free_rules, raise_from-free) depth 14

  pub lower_stage-free : (user : Side) (target : Side) (stat : Stat) (by : ℕ) (failing : Phase) → Keeps P failing → Keeps P (lower_stage user target stat by failing)
  unfolding lower_stage
  lower_stage-free user target stat by failing failing-free = search (free_rules, lower_from-free) depth 14

  pub sleep_for-free : (marked : Bool) (s : Side) (b : ℕ) → Keeps P (sleep_for marked s b)
  unfolding sleep_for
  sleep_for-free marked s b = search (free_rules, inflict-free) depth 14

  pub fall_asleep-free : (marked : Bool) (s : Side) → Keeps P (fall_asleep marked s)
  unfolding fall_asleep
  fall_asleep-free marked s = search (free_rules, sleep_for-free) depth 14

  pub sleep_freely-free : (user : Side) → Keeps P (sleep_freely user)
  unfolding sleep_freely
  sleep_freely-free user = search (free_rules, fall_asleep-free) depth 14

  pub freeze_freely-free : (user : Side) → Keeps P (freeze_freely user)
  unfolding freeze_freely
  freeze_freely-free user = search (free_rules, inflict-free) depth 14

  pub sleep_only_one-free : (user : Side) → Keeps P (sleep_only_one user)
  unfolding sleep_only_one
  sleep_only_one-free user = search (free_rules, fails_if-free, fall_asleep-free) depth 14

  pub freeze_only_one-free : (user : Side) → Keeps P (freeze_only_one user)
  unfolding freeze_only_one
  freeze_only_one-free user = search (free_rules, freeze_freely-free) depth 14

  pub sleeps_under-free : (x : Bool) (user : Side) → Keeps P (sleeps_under x user)
  unfolding sleeps_under
  sleeps_under-free true user = search (free_rules, sleep_only_one-free) depth 14
  sleeps_under-free false user = search (free_rules, sleep_freely-free) depth 14

  pub freezes_under-free : (x : Bool) (user : Side) → Keeps P (freezes_under x user)
  unfolding freezes_under
  freezes_under-free true user = search (free_rules, freeze_only_one-free) depth 14
  freezes_under-free false user = search (free_rules, freeze_freely-free) depth 14

  pub confused_by-free : (s : Side) (b : ℕ) → Keeps P (confused_by s b)
  unfolding confused_by
  confused_by-free s b = search (free_rules) depth 14

  pub confuse-free : (s : Side) → Keeps P (confuse s)
  unfolding confuse
  confuse-free s = search (free_rules, confused_by-free) depth 14

  pub confuse_foe-free : (s : Side) (move : Move) → Keeps P (confuse_foe s move)
  unfolding confuse_foe
  confuse_foe-free s move = search (free_rules, fails_if-free, must_hit-free, confuse-free) depth 14

  pub take_types-free : (s : Side) (foe : Active) → Keeps P (take_types s foe)
  unfolding take_types
  take_types-free s foe = search (free_rules) depth 14

  pub convert-free : (s : Side) → Keeps P (convert s)
  unfolding convert
  convert-free s = search (free_rules, fails_if-free, take_types-free) depth 14

  pub set_mist-free : (s : Side) → Keeps P (set_mist s)
  unfolding set_mist
  set_mist-free s = search (free_rules, fails_if-free) depth 14

  pub set_focus_energy-free : (s : Side) → Keeps P (set_focus_energy s)
  unfolding set_focus_energy
  set_focus_energy-free s = search (free_rules, fails_if-free) depth 14

  pub set_light_screen-free : (s : Side) → Keeps P (set_light_screen s)
  unfolding set_light_screen
  set_light_screen-free s = search (free_rules, fails_if-free) depth 14

  pub set_reflect-free : (s : Side) → Keeps P (set_reflect s)
  unfolding set_reflect
  set_reflect-free s = search (free_rules, fails_if-free) depth 14

  pub set_screen-free : (s : Side) (move : Move) → Keeps P (set_screen s move)
  unfolding set_screen
  set_screen-free s move = search (free_rules, set_light_screen-free, set_reflect-free) depth 14

  pub clear_side-free : (s : Side) → Keeps P (clear_side s)
  unfolding clear_side
  clear_side-free s = search (free_rules) depth 14

  pub cure_kind-free : (s : Side) (x : Option Kind) → Keeps P (cure_kind s x)
  unfolding cure_kind
  cure_kind-free s None = search (free_rules) depth 14
  cure_kind-free s (Some kind) = search (free_rules, cure-free) depth 14

  pub set_skips-free : (skips : Bool) → Keeps P (set_skips skips)
  unfolding set_skips
  set_skips-free skips = record { kept = λ p h. h }

  pub haze_cures-free : (s : Side) (status : Status) → Keeps P (haze_cures s status)
  unfolding haze_cures
  haze_cures-free s status = search (free_rules, set_skips-free, cure_kind-free) depth 14

  pub haze-free : (s : Side) → Keeps P (haze s)
  unfolding haze
  haze-free s = search (free_rules, clear_side-free, haze_cures-free) depth 14

  pub rest_up-free : (s : Side) → Keeps P (rest_up s)
  unfolding rest_up
  rest_up-free s = search (free_rules, gain_hp-free) depth 14

  pub recover-free : (s : Side) → Keeps P (recover s)
  unfolding recover
  recover-free s = search (free_rules, gain_hp-free) depth 14

  pub heal-free : (s : Side) (move : Move) → Keeps P (heal s move)
  unfolding heal
  heal-free s move = search (free_rules, fails_if-free, rest_up-free, recover-free) depth 14

  pub poison_foe-free : (s : Side) (move : Move) → Keeps P (poison_foe s move)
  unfolding poison_foe
  poison_foe-free s move = search (free_rules, fails_if-free, must_hit-free, inflict-free) depth 14

  pub paralyse_foe-free : (s : Side) (move : Move) → Keeps P (paralyse_foe s move)
  unfolding paralyse_foe
  paralyse_foe-free s move = search (free_rules, fails_if-free, must_hit-free, inflict-free) depth 14

  pub seed_foe-free : (s : Side) (move : Move) → Keeps P (seed_foe s move)
  unfolding seed_foe
  seed_foe-free s move = search (free_rules, must_hit-free, fails_if-free) depth 14

  pub pay_for_substitute-free : (s : Side) (cost : ℕ) → Keeps P (pay_for_substitute s cost)
  unfolding pay_for_substitute
  pay_for_substitute-free s cost = search (free_rules, lose_hp-free) depth 14

  pub make_substitute-free : (s : Side) → Keeps P (make_substitute s)
  unfolding make_substitute
  make_substitute-free s = search (free_rules, fails_if-free, pay_for_substitute-free) depth 14

  pub splash-free : (s : Side) → Keeps P (splash s)
  unfolding splash
  splash-free s = search (free_rules) depth 14

  pub early_effect-free : (s : Side) (move : Move) (effect : Effect) → Keeps P (early_effect s move effect)
  unfolding early_effect
  early_effect-free s move effects.Conversion = search (free_rules, convert-free) depth 14
  early_effect-free s move effects.Mist = search (free_rules, set_mist-free) depth 14
  early_effect-free s move effects.FocusEnergy = search (free_rules, set_focus_energy-free) depth 14
  early_effect-free s move effects.Screen = search (free_rules, set_screen-free) depth 14
  early_effect-free s move effects.Haze = search (free_rules, haze-free) depth 14
  early_effect-free s move effects.InflictConfusion = search (free_rules, confuse_foe-free) depth 14
  early_effect-free s move effects.Heal = search (free_rules, heal-free) depth 14
  early_effect-free s move effects.InflictPoison = search (free_rules, poison_foe-free) depth 14
  early_effect-free s move effects.InflictParalysis = search (free_rules, paralyse_foe-free) depth 14
  early_effect-free s move effects.LeechSeed = search (free_rules, seed_foe-free) depth 14
  early_effect-free s move effects.Substitute = search (free_rules, make_substitute-free) depth 14
  early_effect-free s move effects.Splash = search (free_rules, splash-free) depth 14
  early_effect-free s move _ = search (free_rules, fail-free) depth 14

  pub ready_to_sleep-free : (s : Side) (move : Move) → Keeps P (ready_to_sleep s move)
  unfolding ready_to_sleep
  ready_to_sleep-free s move = search (free_rules, fails_if-free, must_hit-free) depth 14

  pub put_to_sleep-free : (r : Ruling) (s : Side) (move : Move) → KeepsRuling P r → Keeps P (put_to_sleep r s move)
  unfolding put_to_sleep
  put_to_sleep-free r s move ruling = search (free_rules, ready_to_sleep-free, ruling.sleeps) depth 14

  pub lower_foes_stat-free : (s : Side) (move : Move) (stat : Stat) (by : ℕ) → Keeps P (lower_foes_stat s move stat by)
  unfolding lower_foes_stat
  lower_foes_stat-free s move stat by = search (free_rules, fails_if-free, must_hit-free, lower_stage-free, fail-free) depth 14

  pub bide_for-free : (s : Side) (b : ℕ) → Keeps P (bide_for s b)
  unfolding bide_for
  bide_for-free s b = search (free_rules) depth 14

  pub start_bide-free : (s : Side) → Keeps P (start_bide s)
  unfolding start_bide
  start_bide-free s = search (free_rules, bide_for-free) depth 14

  pub late_effect-free : (r : Ruling) (s : Side) (move : Move) (effect : Effect) → KeepsRuling P r → Keeps P (late_effect r s move effect)
  unfolding late_effect
  late_effect-free r s move (effects.StatUp stat n) ruling = search (free_rules, raise_stage-free, fail-free) depth 14
  late_effect-free r s move (effects.StatDown stat n) ruling = search (free_rules, lower_foes_stat-free) depth 14
  late_effect-free r s move effects.InflictSleep ruling = search (free_rules, put_to_sleep-free) depth 14
  late_effect-free r s move effects.Bide ruling = search (free_rules, start_bide-free) depth 14
  late_effect-free r s move _ ruling = search (free_rules) depth 14

  pub happens_below-free : (bound : ℕ) (f : Phase) (b : ℕ) → Keeps P f → Keeps P (happens_below bound f b)
  unfolding happens_below
  happens_below-free bound f b f-free = search (free_rules) depth 14

  pub by_chance-free : (bound : ℕ) (f : Phase) → Keeps P f → Keeps P (by_chance bound f)
  unfolding by_chance
  by_chance-free bound f f-free = search (free_rules, happens_below-free) depth 14

  pub thaw-free : (s : Side) (move : Move) → Keeps P (thaw s move)
  unfolding thaw
  thaw-free s move = search (free_rules, cure-free) depth 14

  pub may_inflict-free : (s : Side) (move : Move) (bound : ℕ) (f : Phase) → Keeps P f → Keeps P (may_inflict s move bound f)
  unfolding may_inflict
  may_inflict-free s move bound f f-free = search (free_rules, thaw-free, by_chance-free) depth 14

  pub may_poison-free : (s : Side) (bound : ℕ) → Keeps P (may_poison s bound)
  unfolding may_poison
  may_poison-free s bound = search (free_rules, by_chance-free, inflict-free) depth 14

  pub may_confuse-free : (s : Side) (bound : ℕ) → Keeps P (may_confuse s bound)
  unfolding may_confuse
  may_confuse-free s bound = search (free_rules, by_chance-free, confuse-free) depth 14

  pub flinch-free : (s : Side) → Keeps P (flinch s)
  unfolding flinch
  flinch-free s = search (free_rules) depth 14

  pub kept_away_effect-free : (r : Ruling) (s : Side) (move : Move) (effect : Effect) → KeepsRuling P r → Keeps P (kept_away_effect r s move effect)
  unfolding kept_away_effect
  kept_away_effect-free r s move (effects.PoisonChance n) ruling = search (free_rules, may_poison-free) depth 14
  kept_away_effect-free r s move effects.Twineedle ruling = search (free_rules, may_poison-free) depth 14
  kept_away_effect-free r s move (effects.BurnChance n) ruling = search (free_rules, may_inflict-free, inflict-free) depth 14
  kept_away_effect-free r s move effects.FreezeChance ruling = search (free_rules, may_inflict-free, ruling.freezes) depth 14
  kept_away_effect-free r s move (effects.ParalysisChance n) ruling = search (free_rules, may_inflict-free, inflict-free) depth 14
  kept_away_effect-free r s move (effects.FlinchChance n) ruling = search (free_rules, by_chance-free, flinch-free) depth 14
  kept_away_effect-free r s move (effects.StatDownChance stat) ruling = search (free_rules, by_chance-free, lower_stage-free) depth 14
  kept_away_effect-free r s move _ ruling = search (free_rules) depth 14

  pub disable_for-free : (s : Side) (b : ℕ) (c : ℕ) → Keeps P (disable_for s b c)
  unfolding disable_for
  disable_for-free s b c = search (free_rules) depth 14

  pub disable_slot-free : (s : Side) (moves : List KnownMove) (b : ℕ) → Keeps P (disable_slot s moves b)
  unfolding disable_slot
  disable_slot-free s moves b = search (free_rules, fails_if-free, disable_for-free) depth 14

  pub disable-free : (s : Side) (move : Move) → Keeps P (disable s move)
  unfolding disable
  disable-free s move = search (free_rules, must_hit-free, fails_if-free, disable_slot-free) depth 14

  pub must_recharge-free : (s : Side) → Keeps P (must_recharge s)
  unfolding must_recharge
  must_recharge-free s = search (free_rules) depth 14

  pub side_effect-free : (r : Ruling) (s : Side) (move : Move) (e : Effect) → KeepsRuling P r → Keeps P (side_effect r s move e)
  unfolding side_effect
  side_effect-free r s move (effects.ConfusionChance n) ruling = search (free_rules, may_confuse-free) depth 14
  side_effect-free r s move effects.Disable ruling = search (free_rules, disable-free) depth 14
  side_effect-free r s move effects.Recharge ruling = search (free_rules, must_recharge-free) depth 14
  side_effect-free r s move e ruling = search (free_rules, kept_away_effect-free) depth 14

  pub count_again-free : (f : ℕ → Phase) (c : ℕ) → ((x : ℕ) → Keeps P (f x)) → Keeps P (count_again f c)
  unfolding count_again
  count_again-free f c f-free = search (free_rules, f-free) depth 14

  pub count_by_draw-free : (f : ℕ → Phase) (b : ℕ) → ((x : ℕ) → Keeps P (f x)) → Keeps P (count_by_draw f b)
  unfolding count_by_draw
  count_by_draw-free f b f-free = search (free_rules, count_again-free, f-free) depth 14

  pub draw_count-free : (f : ℕ → Phase) → ((x : ℕ) → Keeps P (f x)) → Keeps P (draw_count f)
  unfolding draw_count
  draw_count-free f f-free = search (free_rules, count_by_draw-free, f-free) depth 14

  pub trap_for-free : (s : Side) (n : ℕ) → Keeps P (trap_for s n)
  unfolding trap_for
  trap_for-free s n = search (free_rules) depth 14

  pub trap-free : (s : Side) → Keeps P (trap s)
  unfolding trap
  trap-free s = search (free_rules, draw_count-free, trap_for-free) depth 14

  pub thrash_less-free : (s : Side) (x : Option ℕ) → Keeps P (thrash_less s x)
  unfolding thrash_less
  thrash_less-free s None = search (free_rules) depth 14
  thrash_less-free s (Some turns) = search (free_rules, confuse-free) depth 14

  pub thrash_for-free : (s : Side) (move : Move) (b : ℕ) → Keeps P (thrash_for s move b)
  unfolding thrash_for
  thrash_for-free s move b = search (free_rules) depth 14

  pub thrash_about-free : (s : Side) (move : Move) → Keeps P (thrash_about s move)
  unfolding thrash_about
  thrash_about-free s move = search (free_rules, thrash_less-free, thrash_for-free) depth 14

  pub set_letting_go-free : Keeps P set_letting_go
  unfolding set_letting_go
  set_letting_go-free = search (free_rules) depth 14

  pub let_energy_go-free : (s : Side) (energy : ℕ) → Keeps P (let_energy_go s energy)
  unfolding let_energy_go
  let_energy_go-free s energy = search (free_rules, set_letting_go-free) depth 14

  pub store_energy-free : (s : Side) (damage : ℕ) → Keeps P (store_energy s damage)
  unfolding store_energy
  store_energy-free s damage = search (free_rules) depth 14

  pub bide_on-free : (s : Side) (x : Option Storing) (damage : ℕ) → Keeps P (bide_on s x damage)
  unfolding bide_on
  bide_on-free s None damage = search (free_rules) depth 14
  bide_on-free s (Some b) damage = search (free_rules, let_energy_go-free, store_energy-free) depth 14

  pub bide_goes_on-free : (s : Side) → Keeps P (bide_goes_on s)
  unfolding bide_goes_on
  bide_goes_on-free s = search (free_rules, bide_on-free) depth 14

  pub make_current-free : (s : Side) (pick : Pick) → Keeps P (make_current s pick)
  unfolding make_current
  make_current-free s pick = search (free_rules) depth 14

  pub begin_charge-free : (s : Side) (pick : Pick) (move : Move) → Keeps P (begin_charge s pick move)
  unfolding begin_charge
  begin_charge-free s pick move = search (free_rules, make_current-free) depth 14

  pub end_charge-free : (s : Side) → Keeps P (end_charge s)
  unfolding end_charge
  end_charge-free s = search (free_rules) depth 14

  pub charge-free : (s : Side) (pick : Pick) (move : Move) → Keeps P (charge s pick move)
  unfolding charge
  charge-free s pick move = search (free_rules, end_charge-free, begin_charge-free) depth 14

  pub psywave-free : (level : ℕ) → Keeps P (psywave level)
  unfolding psywave
  psywave-free level = search (free_rules, fault-free) depth 14

  pub deal_fixed-free : (s : Side) (move : ℕ) → Keeps P (deal_fixed s move)
  unfolding deal_fixed
  deal_fixed-free s move = search (free_rules, psywave-free) depth 14

  pub fixed_damage-free : (s : Side) (move : Move) → Keeps P (fixed_damage s move)
  unfolding fixed_damage
  fixed_damage-free s move = search (free_rules, hit_or_miss-free, deal_fixed-free) depth 14

  pub deal_everything-free : (b : ℕ) → Keeps P (deal_everything b)
  unfolding deal_everything
  deal_everything-free b = search (free_rules) depth 14

  pub knock_out_by_type-free : (s : Side) (move : Move) → Keeps P (knock_out_by_type s move)
  unfolding knock_out_by_type
  knock_out_by_type-free s move = search (free_rules, deal_everything-free) depth 14

  pub knock_out-free : (s : Side) (move : Move) → Keeps P (knock_out s move)
  unfolding knock_out
  knock_out-free s move = search (free_rules, roll_critical-free, knock_out_by_type-free, hit_or_miss-free) depth 14

  pub counter_by-free : (s : Side) (move : Move) (damage : ℕ) → Keeps P (counter_by s move damage)
  unfolding counter_by
  counter_by-free s move damage = search (free_rules, hit_or_miss-free) depth 14

  pub counter-free : (s : Side) (move : Move) → Keeps P (counter s move)
  unfolding counter
  counter-free s move = search (free_rules, roll_critical-free, counter_by-free) depth 14

  pub set_planned-free : (hits : ℕ) → Keeps P (set_planned hits)
  unfolding set_planned
  set_planned-free hits = search (free_rules) depth 14

  pub plan_two_more-free : (n : ℕ) → Keeps P (plan_two_more n)
  unfolding plan_two_more
  plan_two_more-free n = search (free_rules, set_planned-free) depth 14

  pub plan_hits-free : Keeps P plan_hits
  unfolding plan_hits
  plan_hits-free = search (free_rules, draw_count-free, plan_two_more-free) depth 14

  pub recoil-free : (s : Side) (move : Move) → Keeps P (recoil s move)
  unfolding recoil
  recoil-free s move = search (free_rules, lose_hp-free) depth 14

  pub drain_by-free : (s : Side) (n : ℕ) → Keeps P (drain_by s n)
  unfolding drain_by
  drain_by-free s n = search (free_rules, gain_hp-free) depth 14

  pub drain-free : (s : Side) → Keeps P (drain s)
  unfolding drain
  drain-free s = search (free_rules, drain_by-free) depth 14

  pub start_rage-free : (s : Side) → Keeps P (start_rage s)
  unfolding start_rage
  start_rage-free s = search (free_rules) depth 14

  pub explode-free : (s : Side) → Keeps P (explode s)
  unfolding explode
  explode-free s = search (free_rules) depth 14

  pub hit_effect-free : (s : Side) (move : Move) (effect : Effect) → Keeps P (hit_effect s move effect)
  unfolding hit_effect
  hit_effect-free s move effects.MultiHit = search (free_rules, plan_hits-free) depth 14
  hit_effect-free s move effects.DoubleHit = search (free_rules, set_planned-free) depth 14
  hit_effect-free s move effects.Twineedle = search (free_rules, set_planned-free) depth 14
  hit_effect-free s move effects.Recoil = search (free_rules, recoil-free) depth 14
  hit_effect-free s move effects.Drain = search (free_rules, drain-free) depth 14
  hit_effect-free s move effects.DreamEater = search (free_rules, drain-free) depth 14
  hit_effect-free s move effects.Rage = search (free_rules, start_rage-free) depth 14
  hit_effect-free s move effects.Explode = search (free_rules, explode-free) depth 14
  hit_effect-free s move _ = search (free_rules) depth 14

  pub crash-free : (s : Side) → Keeps P (crash s)
  unfolding crash
  crash-free s = search (free_rules, lose_hp-free) depth 14

  pub missed_move-free : (s : Side) (move : Move) → Keeps P (missed_move s move)
  unfolding missed_move
  missed_move-free s move = search (free_rules, note_miss-free, crash-free, explode-free) depth 14

  pub note_effectiveness-free : (target : Side) (n : DamageNumbers) → Keeps P (note_effectiveness target n)
  unfolding note_effectiveness
  note_effectiveness-free target n = search (free_rules) depth 14

  pub note_critical-free : (target : Side) → Keeps P (note_critical target)
  unfolding note_critical
  note_critical-free target = search (free_rules) depth 14

  pub note_first_hit-free : (s : Side) (move : Move) → Keeps P (note_first_hit s move)
  unfolding note_first_hit
  note_first_hit-free s move = search (free_rules, note_critical-free, note_effectiveness-free) depth 14

  pub count_hit-free : Keeps P count_hit
  unfolding count_hit
  count_hit-free = search (free_rules) depth 14

  pub build_rage-free : (s : Side) → Keeps P (build_rage s)
  unfolding build_rage
  build_rage-free s = search (free_rules, raise_stage-free) depth 14

  pub hit_once-free : (s : Side) (move : Move) → Keeps P (hit_once s move)
  unfolding hit_once
  hit_once-free s move = search (free_rules, land-free, count_hit-free, hit_effect-free, build_rage-free) depth 14

  pub hit_again-free : (n : ℕ) (s : Side) (move : Move) → Keeps P (hit_again n s move)
  unfolding hit_again
  hit_again-free zero s move = stay-keeps
  hit_again-free (suc k) s move = choose-keeps _ stay-keeps (then-keeps (hit_once-free s move) (hit_again-free k s move))

  pub note_hit_count-free : (target : Side) (hits : ℕ) → Keeps P (note_hit_count target hits)
  unfolding note_hit_count
  note_hit_count-free target hits = search (free_rules) depth 14

  pub other_hits-free : (s : Side) (move : Move) → Keeps P (other_hits s move)
  unfolding other_hits
  other_hits-free s move = search (free_rules, hit_again-free, note_hit_count-free) depth 14

  pub hits-free : (s : Side) (move : Move) → Keeps P (hits s move)
  unfolding hits
  hits-free s move = search (free_rules, note_first_hit-free, hit_once-free, other_hits-free) depth 14

  pub set_going_on-free : (going_on : Bool) → Keeps P (set_going_on going_on)
  unfolding set_going_on
  set_going_on-free going_on = search (free_rules) depth 14

  pub see_if_going_on-free : (s : Side) (pick : Pick) → Keeps P (see_if_going_on s pick)
  unfolding see_if_going_on
  see_if_going_on-free s pick = search (free_rules, set_going_on-free) depth 14

  pub gate_or_held-free : (s : Side) (pick : Pick) → Keeps P (gate_or_held s pick)
  unfolding gate_or_held
  gate_or_held-free s Held = search (free_rules, cant-free) depth 14
  gate_or_held-free s pick = search (free_rules, gate-free) depth 14

  pub spend_pp-free : (s : Side) → Keeps P (spend_pp s)
  unfolding spend_pp
  spend_pp-free s = search (free_rules) depth 14

  pub use_move-free : (s : Side) (pick : Pick) (move : Move) → Keeps P (use_move s pick move)
  unfolding use_move
  use_move-free s pick move = search (free_rules, make_current-free, spend_pp-free) depth 14

  pub prelude-free : (s : Side) (move : Move) → Keeps P (prelude s move)
  unfolding prelude
  prelude-free s move = search (free_rules, trap-free, thrash_about-free) depth 14

  pub lead_up-free : (s : Side) (pick : Pick) (move : Move) → Keeps P (lead_up s pick move)
  unfolding lead_up
  lead_up-free s pick move = search (free_rules, charge-free, use_move-free, early_effect-free, prelude-free) depth 14

  pub usual_damage-free : (s : Side) (move : Move) → Keeps P (usual_damage s move)
  unfolding usual_damage
  usual_damage-free s move = search (free_rules, roll_critical-free, roll_damage-free, hit_or_miss-free) depth 14

  pub damage_of-free : (s : Side) (move : Move) (effect : Effect) → Keeps P (damage_of s move effect)
  unfolding damage_of
  damage_of-free s move effects.Counter = search (free_rules, counter-free) depth 14
  damage_of-free s move effects.FixedDamage = search (free_rules, fixed_damage-free) depth 14
  damage_of-free s move effects.SuperFang = search (free_rules, fixed_damage-free) depth 14
  damage_of-free s move effects.OneHitKnockOut = search (free_rules, knock_out-free) depth 14
  damage_of-free s move _ = search (free_rules, usual_damage-free) depth 14

  pub strike-free : (r : Ruling) (s : Side) (move : Move) → KeepsRuling P r → Keeps P (strike r s move)
  unfolding strike
  strike-free r s move ruling = search (free_rules, missed_move-free, hits-free, side_effect-free) depth 14

  pub carry_out-free : (r : Ruling) (s : Side) (pick : Pick) (move : Move) → KeepsRuling P r → Keeps P (carry_out r s pick move)
  unfolding carry_out
  carry_out-free r s pick move ruling = search (free_rules, bide_goes_on-free, lead_up-free, damage_of-free, late_effect-free, strike-free) depth 14

  pub action_parts-free : (r : Ruling) (s : Side) (pick : Pick) → KeepsRuling P r → Keeps P (action_parts r s pick)
  unfolding action_parts
  action_parts-free r s pick ruling = search (free_rules, gate_or_held-free, see_if_going_on-free, carry_out-free) depth 14

  pub keep_accuracy-free : (s : Side) → Keeps P (keep_accuracy s)
  unfolding keep_accuracy
  keep_accuracy-free s = search (free_rules) depth 14

  pub begin-free : (s : Side) → Keeps P (begin s)
  unfolding begin
  begin-free s = search (free_rules) depth 14

  pub resume-free : Keeps P resume
  unfolding resume
  resume-free = record { kept = λ p h. h }

  pub act-free : (r : Ruling) (s : Side) (pick : Pick) → KeepsRuling P r → Keeps P (act r s pick)
  unfolding act
  act-free r s pick ruling = record {
    kept = λ p h. resume-free.kept _ ((keep_accuracy-free s).kept _ ((action_parts-free r s pick ruling).kept _ ((begin-free s).kept p h)));
  }

  pub ruling-free : (terms : Terms) → KeepsRuling P (ruling_of terms)
  ruling-free terms = record { sleeps = sleeps_under-free terms.rules.sleep_clause; freezes = freezes_under-free terms.rules.freeze_clause }
