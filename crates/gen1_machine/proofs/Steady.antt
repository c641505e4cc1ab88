-- What phases leave as it is: rage, thrashing and their kept accuracy, the health of a member that falls, and the outcome.
-- A further need of a phase is a premise of its lemma. tools/gen writes this file, with the lemmas of
-- steady_lemmas.txt.
use Rattle.gen1_machine.specs.Action.{act, action_parts, begin, carry_out, damage_of, gate_or_held, keep_accuracy, lead_up, prelude, resume, see_if_going_on, set_going_on, spend_pp, strike, use_move, usual_damage}
use Rattle.gen1_machine.specs.Charging.{begin_charge, charge, end_charge, make_current}
use Rattle.gen1_machine.specs.Conditions.{after_haze, broken_off, with_bad_poison, with_bide, with_bide_storing, with_charging, with_confusion, with_confusion_one_less, with_disable_one_less, with_disabled, with_flinch, with_focus_energy, with_invulnerability, with_light_screen, with_mist, with_recharge, with_reflect, with_seed, with_substitute, with_substitute_hurt, with_trapping, with_trapping_one_less, with_worse_poison, without_bide, without_charging, without_confusion, without_disable, without_flinch, without_invulnerability, without_recharge, without_seed, without_substitute, without_trapping, ActiveConditions, Storing}
use Rattle.gen1_machine.specs.Counter.{counter, counter_by}
use Rattle.gen1_machine.specs.CriticalHits.{critical_by, roll_critical, set_critical}
use Rattle.gen1_machine.specs.CurrentStats.{at_new_stage, recomputed_at, with_penalty_of}
use Rattle.gen1_machine.specs.Damage.{damage_from, roll_damage, set_through_types, varied_by, vary, DamageNumbers}
use Rattle.gen1_machine.specs.EarlyEffects.{clear_side, confuse, confuse_foe, confused_by, convert, cure_kind, early_effect, haze, haze_cures, heal, make_substitute, paralyse_foe, pay_for_substitute, poison_foe, recover, rest_up, seed_foe, set_focus_energy, set_light_screen, set_mist, set_reflect, set_screen, set_skips, splash, take_types, with_levelled_stats}
use Rattle.gen1_machine.specs.FixedDamage.{deal_everything, deal_fixed, fixed_damage, knock_out, knock_out_by_type, psywave}
use Rattle.gen1_machine.specs.Gate.{cant, confusion_test, disable_count, disabled_test, flinch_test, frozen_test, gate, gate_of_move, gate_of_status, gate_of_turn, may_be_paralysed, may_hurt_itself, paralysis_test, recharge_test, sleep_on, sleep_test, trapped_test, wake}
use Rattle.gen1_machine.specs.GoingOn.{bide_goes_on, bide_on, count_again, count_by_draw, draw_count, let_energy_go, set_letting_go, store_energy, thrash_about, thrash_for, thrash_less, trap, trap_for}
use Rattle.gen1_machine.specs.HitEffects.{drain, drain_by, explode, hit_effect, plan_hits, plan_two_more, recoil, set_planned, start_rage}
use Rattle.gen1_machine.specs.HitOnItself.{hurt_itself, hurt_itself_by, land_on_foes_substitute}
use Rattle.gen1_machine.specs.HitTest.{hit_or_miss, hit_test, hits_below, miss, must_hit, note_miss, set_tested, test_by}
use Rattle.gen1_machine.specs.Landing.{land, land_by, land_damage, land_on_hp, land_on_substitute, set_broke}
use Rattle.gen1_machine.specs.LateEffects.{bide_for, late_effect, lower_foes_stat, put_to_sleep, ready_to_sleep, start_bide}
use Rattle.gen1_machine.specs.ManyHits.{build_rage, count_hit, crash, hit_again, hit_once, hits, missed_move, note_critical, note_effectiveness, note_first_hit, note_hit_count, other_hits}
use Rattle.gen1_machine.specs.Moves.{Move}
use Rattle.gen1_machine.specs.Progress.{cure, fail, fails_if, fault, gain_hp, inflict, lose_hp, starts, Action, Phase, Progress}
use Rattle.gen1_machine.specs.ResidualDamage.{drained_by, residual, suffer, suffer_seed, suffer_status, worsen}
use Rattle.gen1_machine.specs.Ruling.{fall_asleep, freeze_freely, freeze_only_one, freezes_under, ruling_of, sleep_for, sleep_freely, sleep_only_one, sleeps_under, Ruling}
use Rattle.gen1_machine.specs.SideEffects.{by_chance, disable, disable_for, disable_slot, flinch, happens_below, kept_away_effect, may_confuse, may_inflict, may_poison, must_recharge, side_effect, thaw}
use Rattle.gen1_machine.specs.StageShift.{lower_from, lower_stage, note_boost, note_unboost, raise_from, raise_stage, shift_to, take_penalty_again}
use Rattle.gen1_machine.specs.State.{changed_active, changed_conditions, changed_member, fallen, with_current_move, with_kept_accuracy, with_last_damage, with_outcome, with_picked_move, with_pp_spent, with_sleep_one_less, with_status, with_types_of, Active, Field, Terms}
use Rattle.gen1_machine.specs.Valid.{keeps_accuracy}
use Rattle.gen1_machine.specs.declared.event.CantReason.{CantReason}
use Rattle.gen1_machine.specs.declared.event.DamageSource.{DamageSource}
use Rattle.gen1_machine.specs.declared.event.Kind.{Kind}
use Rattle.gen1_machine.specs.declared.side.DisabledSlot.{DisabledSlot}
use Rattle.gen1_machine.specs.declared.side.Pick.{Pick}
use Rattle.gen1_machine.specs.declared.side.Pick.TheVariants.{Held}
use Rattle.gen1_machine.specs.declared.side.UsedMove.{UsedMove}
use Rattle.gen1_machine.specs.declared.side.Side.{Side}
use Rattle.gen1_rolls.specs.Streams.{Stream}
use Rattle.gen1_stats.specs.Members.{Member}
use Rattle.gen1_stats.specs.declared.member.KnownMove.{KnownMove}
use Rattle.gen1_stats.specs.declared.member.Status.{Status}
use Rattle.gen1_stats.specs.declared.member.Status.TheVariants.{Asleep, Burned, Frozen, Healthy, Paralysed, Poisoned}
use Rattle.gen1_tables.specs.declared.effect.Effect.{Effect}
use Rattle.gen1_tables.specs.declared.effect.Stat.{Stat}
use Rattle.gen1_tables.specs.declared.effect.Stat.TheVariants.{Accuracy, Attack, Defense, Evasion, Special, Speed}
use Rattle.std.proofs.Common.{refl, ◌≡◌}
use Rattle.std.specs.Prelude.{false, suc, true, zero, Bool, List, None, Option, Some, ℕ}
use Rattle.gen1_tables.specs.declared.effect.Effect.TheVariants as effects
use Rattle.gen1_machine.specs.declared.terms.Outcome.TheVariants as outcomes
use Rattle.gen1_machine.proofs.Keeps.{choose-keeps, given-keeps, keeps_rules, on_action-keeps, on_active-keeps, on_conditions-keeps, on_field-keeps, on_member-keeps, stay-keeps, stop-keeps, then-keeps, told-keeps, Keeps, KeepsRuling, Spares, SparesAction}

-- Changes that leave rage, thrashing and their kept accuracy as they are

pub record LeavesKept (change : Active → Active) : Type 0 where
  pub kept : (a : Active) → (change a).kept_accuracy ≡ a.kept_accuracy
  pub conditions : (a : Active) → (change a).conditions ≡ a.conditions
  pub place : (a : Active) → (change a).place ≡ a.place

pub record Leaves (change : ActiveConditions → ActiveConditions) : Type 0 where
  pub left : (c : ActiveConditions) → keeps_accuracy (change c).underway ≡ keeps_accuracy c.underway

-- A change after which a fallen member has no status.
pub record Softens (change : Member → Member) : Type 0 where
  pub healthy : (m : Member) → (m.hp ≡ 0 → m.status ≡ Healthy) → (change m).hp ≡ 0 → (change m).status ≡ Healthy

pub record LeavesAction (change : Action → Action) : Type 0 where
  pub tested : (a : Action) → (change a).accuracy_tested ≡ a.accuracy_tested
  pub going_on : (a : Action) → (change a).going_on ≡ a.going_on
  pub letting_go : (a : Action) → (change a).letting_go ≡ a.letting_go

pub with_types_of-leaves : (foe : Active) → LeavesKept (with_types_of foe)
unfolding with_types_of
with_types_of-leaves foe = record { kept = λ a. refl; conditions = λ a. refl; place = λ a. refl }

pub with_current_move-leaves : (used : UsedMove) → LeavesKept (with_current_move used)
unfolding with_current_move
with_current_move-leaves used = record { kept = λ a. refl; conditions = λ a. refl; place = λ a. refl }

pub with_picked_move-leaves : (used : UsedMove) → LeavesKept (with_picked_move used)
unfolding with_picked_move
with_picked_move-leaves used = record { kept = λ a. refl; conditions = λ a. refl; place = λ a. refl }

pub at_new_stage-leaves : (stat : Stat) (n : ℕ) → LeavesKept (at_new_stage stat n)
unfolding at_new_stage
at_new_stage-leaves stat n = record { kept = λ a. refl; conditions = λ a. refl; place = λ a. refl }

pub with_levelled_stats-leaves : LeavesKept with_levelled_stats
unfolding with_levelled_stats
with_levelled_stats-leaves = record { kept = λ a. refl; conditions = λ a. refl; place = λ a. refl }

pub recomputed_at-leaves : (x : Stat) (n : ℕ) → LeavesKept (recomputed_at x n)
unfolding recomputed_at
recomputed_at-leaves Attack n = record { kept = λ a. refl; conditions = λ a. refl; place = λ a. refl }
recomputed_at-leaves Defense n = record { kept = λ a. refl; conditions = λ a. refl; place = λ a. refl }
recomputed_at-leaves Speed n = record { kept = λ a. refl; conditions = λ a. refl; place = λ a. refl }
recomputed_at-leaves Special n = record { kept = λ a. refl; conditions = λ a. refl; place = λ a. refl }
recomputed_at-leaves Accuracy n = record { kept = λ a. refl; conditions = λ a. refl; place = λ a. refl }
recomputed_at-leaves Evasion n = record { kept = λ a. refl; conditions = λ a. refl; place = λ a. refl }

pub with_penalty_of-leaves : (x : Status) → LeavesKept (with_penalty_of x)
unfolding with_penalty_of
with_penalty_of-leaves Healthy = record { kept = λ a. refl; conditions = λ a. refl; place = λ a. refl }
with_penalty_of-leaves (Asleep turns marked) = record { kept = λ a. refl; conditions = λ a. refl; place = λ a. refl }
with_penalty_of-leaves Poisoned = record { kept = λ a. refl; conditions = λ a. refl; place = λ a. refl }
with_penalty_of-leaves Burned = record { kept = λ a. refl; conditions = λ a. refl; place = λ a. refl }
with_penalty_of-leaves Frozen = record { kept = λ a. refl; conditions = λ a. refl; place = λ a. refl }
with_penalty_of-leaves Paralysed = record { kept = λ a. refl; conditions = λ a. refl; place = λ a. refl }

pub with_bide-leaves : (turns : ℕ) → Leaves (with_bide turns)
unfolding with_bide
with_bide-leaves turns = record { left = λ c. refl }

pub with_bide_storing-leaves : (damage : ℕ) → Leaves (with_bide_storing damage)
unfolding with_bide_storing
with_bide_storing-leaves damage = record { left = λ c. refl }

pub without_bide-leaves : Leaves without_bide
unfolding without_bide
without_bide-leaves = record { left = λ c. refl }

pub with_trapping-leaves : (turns : ℕ) → Leaves (with_trapping turns)
unfolding with_trapping
with_trapping-leaves turns = record { left = λ c. refl }

pub with_trapping_one_less-leaves : Leaves with_trapping_one_less
unfolding with_trapping_one_less
with_trapping_one_less-leaves = record { left = λ c. refl }

pub without_trapping-leaves : Leaves without_trapping
unfolding without_trapping
without_trapping-leaves = record { left = λ c. refl }

pub with_charging-leaves : Leaves with_charging
unfolding with_charging
with_charging-leaves = record { left = λ c. refl }

pub without_charging-leaves : Leaves without_charging
unfolding without_charging
without_charging-leaves = record { left = λ c. refl }

pub with_invulnerability-leaves : Leaves with_invulnerability
unfolding with_invulnerability
with_invulnerability-leaves = record { left = λ c. refl }

pub without_invulnerability-leaves : Leaves without_invulnerability
unfolding without_invulnerability
without_invulnerability-leaves = record { left = λ c. refl }

pub with_recharge-leaves : Leaves with_recharge
unfolding with_recharge
with_recharge-leaves = record { left = λ c. refl }

pub without_recharge-leaves : Leaves without_recharge
unfolding without_recharge
without_recharge-leaves = record { left = λ c. refl }

pub with_flinch-leaves : Leaves with_flinch
unfolding with_flinch
with_flinch-leaves = record { left = λ c. refl }

pub without_flinch-leaves : Leaves without_flinch
unfolding without_flinch
without_flinch-leaves = record { left = λ c. refl }

pub with_confusion-leaves : (turns : ℕ) → Leaves (with_confusion turns)
unfolding with_confusion
with_confusion-leaves turns = record { left = λ c. refl }

pub with_confusion_one_less-leaves : Leaves with_confusion_one_less
unfolding with_confusion_one_less
with_confusion_one_less-leaves = record { left = λ c. refl }

pub without_confusion-leaves : Leaves without_confusion
unfolding without_confusion
without_confusion-leaves = record { left = λ c. refl }

pub with_mist-leaves : Leaves with_mist
unfolding with_mist
with_mist-leaves = record { left = λ c. refl }

pub with_focus_energy-leaves : Leaves with_focus_energy
unfolding with_focus_energy
with_focus_energy-leaves = record { left = λ c. refl }

pub with_light_screen-leaves : Leaves with_light_screen
unfolding with_light_screen
with_light_screen-leaves = record { left = λ c. refl }

pub with_reflect-leaves : Leaves with_reflect
unfolding with_reflect
with_reflect-leaves = record { left = λ c. refl }

pub with_substitute-leaves : (hp : ℕ) → Leaves (with_substitute hp)
unfolding with_substitute
with_substitute-leaves hp = record { left = λ c. refl }

pub with_substitute_hurt-leaves : (damage : ℕ) → Leaves (with_substitute_hurt damage)
unfolding with_substitute_hurt
with_substitute_hurt-leaves damage = record { left = λ c. refl }

pub without_substitute-leaves : Leaves without_substitute
unfolding without_substitute
without_substitute-leaves = record { left = λ c. refl }

pub with_seed-leaves : Leaves with_seed
unfolding with_seed
with_seed-leaves = record { left = λ c. refl }

pub without_seed-leaves : Leaves without_seed
unfolding without_seed
without_seed-leaves = record { left = λ c. refl }

pub with_bad_poison-leaves : Leaves with_bad_poison
unfolding with_bad_poison
with_bad_poison-leaves = record { left = λ c. refl }

pub with_worse_poison-leaves : Leaves with_worse_poison
unfolding with_worse_poison
with_worse_poison-leaves = record { left = λ c. refl }

pub with_disabled-leaves : (slot turns : ℕ) → Leaves (with_disabled slot turns)
unfolding with_disabled
with_disabled-leaves slot turns = record { left = λ c. refl }

pub with_disable_one_less-leaves : Leaves with_disable_one_less
unfolding with_disable_one_less
with_disable_one_less-leaves = record { left = λ c. refl }

pub without_disable-leaves : Leaves without_disable
unfolding without_disable
without_disable-leaves = record { left = λ c. refl }

pub after_haze-leaves : Leaves after_haze
unfolding after_haze
after_haze-leaves = record { left = λ c. refl }

softens-status : Softens (with_status Healthy)
unfolding with_status
softens-status = record { healthy = λ m h e. refl }

pub softens-fallen : Softens fallen
unfolding fallen
softens-fallen = record { healthy = λ m h e. refl }

softens-sleep : Softens with_sleep_one_less
unfolding with_sleep_one_less
softens-sleep = record { healthy = λ m h e. rw (h e) refl }

softens-pp : (used : UsedMove) → Softens (with_pp_spent used)
unfolding with_pp_spent
softens-pp used = record { healthy = λ m h. h }

ruleset leaves_rules = (with_types_of-leaves, with_current_move-leaves, with_picked_move-leaves, at_new_stage-leaves, with_levelled_stats-leaves, recomputed_at-leaves, with_penalty_of-leaves, with_bide-leaves, with_bide_storing-leaves, without_bide-leaves, with_trapping-leaves, with_trapping_one_less-leaves, without_trapping-leaves, with_charging-leaves, without_charging-leaves, with_invulnerability-leaves, without_invulnerability-leaves, with_recharge-leaves, without_recharge-leaves, with_flinch-leaves, without_flinch-leaves, with_confusion-leaves, with_confusion_one_less-leaves, without_confusion-leaves, with_mist-leaves, with_focus_energy-leaves, with_light_screen-leaves, with_reflect-leaves, with_substitute-leaves, with_substitute_hurt-leaves, without_substitute-leaves, with_seed-leaves, without_seed-leaves, with_bad_poison-leaves, with_worse_poison-leaves, with_disabled-leaves, with_disable_one_less-leaves, without_disable-leaves, after_haze-leaves, softens-status, softens-fallen, softens-sleep, softens-pp)

-- Facts that all these changes keep

pub record Steady (P : Field → Action → Stream → Type 0) : Type 0 where
  pub member : (s : Side) (change : Member → Member) → Softens change → Spares P (changed_member s change)
  pub active : (s : Side) (change : Active → Active) → LeavesKept change → Spares P (changed_active s change)
  pub conditions : (s : Side) (change : ActiveConditions → ActiveConditions) → Leaves change → Spares P (changed_conditions s change)
  pub damage : (n : ℕ) → Spares P (with_last_damage n)
  pub action : (change : Action → Action) → LeavesAction change → SparesAction P change

-- What else may keep a fact

pub record Hurts (P : Field → Action → Stream → Type 0) : Type 0 where
  pub hurt : (s : Side) (change : Member → Member) → Spares P (changed_member s change)

pub record Faults (P : Field → Action → Stream → Type 0) : Type 0 where
  pub faulted : (n : ℕ) → Spares P (with_outcome (outcomes.Fault n))

pub record Breaks (P : Field → Action → Stream → Type 0) (s : Side) : Type 0 where
  pub broken : Spares P (changed_conditions s broken_off)

pub record Own (P : Field → Action → Stream → Type 0) (s : Side) : Type 0 where
  pub conditions : (change : ActiveConditions → ActiveConditions) → Spares P (changed_conditions s change)
  pub kept : (byte : ℕ) → Spares P (changed_active s (with_kept_accuracy byte))

pub record Acts (P : Field → Action → Stream → Type 0) : Type 0 where
  pub action : (change : Action → Action) → SparesAction P change

module _ {P : Field → Action → Stream → Type 0} (steady : Steady P) where
  pub member-spared : (s : Side) (change : Member → Member) → Softens change → Spares P (changed_member s change)
  member-spared = steady.member

  pub active-spared : (s : Side) (change : Active → Active) → LeavesKept change → Spares P (changed_active s change)
  active-spared = steady.active

  pub conditions-spared : (s : Side) (change : ActiveConditions → ActiveConditions) → Leaves change → Spares P (changed_conditions s change)
  conditions-spared = steady.conditions

  pub damage-spared : (n : ℕ) → Spares P (with_last_damage n)
  damage-spared = steady.damage

  pub missed-spared : (missed : Bool) → SparesAction P (λ a. record a { missed = missed })
  missed-spared missed = steady.action _ (record { tested = λ a. refl; going_on = λ a. refl; letting_go = λ a. refl })

  ruleset steady_rules = (keeps_rules, leaves_rules, member-spared, active-spared, conditions-spared, damage-spared, missed-spared)

  pub fault-steady : (n : ℕ) → Faults P → Keeps P (fault n)
  unfolding fault
  fault-steady n faults = then-keeps (on_field-keeps (faults.faulted n)) stop-keeps

  pub fail-steady : (s : Side) → Keeps P (fail s)
  unfolding fail
  fail-steady s = search (steady_rules) depth 14

  pub fails_if-steady : (s : Side) (test : Progress → Bool) → Keeps P (fails_if s test)
  unfolding fails_if
  fails_if-steady s test = search (steady_rules, fail-steady) depth 14

  pub lose_hp-steady : (s : Side) (source : DamageSource) (amount : ℕ) → Hurts P → Keeps P (lose_hp s source amount)
  unfolding lose_hp
  lose_hp-steady s source amount hurts = choose-keeps _ (told-keeps _ (hurts.hurt s _)) stay-keeps

  pub gain_hp-steady : (s : Side) (amount : ℕ) → Hurts P → Keeps P (gain_hp s amount)
  unfolding gain_hp
  gain_hp-steady s amount hurts = choose-keeps _ (told-keeps _ (hurts.hurt s _)) stay-keeps

  pub inflict-steady : (s : Side) (status : Status) (kind : Kind) → Hurts P → Keeps P (inflict s status kind)
  unfolding inflict
  inflict-steady s status kind hurts = then-keeps (on_member-keeps s _ (hurts.hurt s _)) (told-keeps _ (active-spared s _ (with_penalty_of-leaves status)))

  pub cure-steady : (s : Side) (kind : Kind) → Keeps P (cure s kind)
  unfolding cure
  cure-steady s kind = search (steady_rules) depth 14

  pub set_critical-steady : (critical : Bool) → Keeps P (set_critical critical)
  unfolding set_critical
  set_critical-steady critical = on_action-keeps (steady.action _ (record { tested = λ a. refl; going_on = λ a. refl; letting_go = λ a. refl }))

  pub critical_by-steady : (s : Side) (move : Move) (b : ℕ) → Keeps P (critical_by s move b)
  unfolding critical_by
  critical_by-steady s move b = search (steady_rules, set_critical-steady) depth 14

  pub roll_critical-steady : (s : Side) (move : Move) → Keeps P (roll_critical s move)
  unfolding roll_critical
  roll_critical-steady s move = search (steady_rules, critical_by-steady) depth 14

  pub varied_by-steady : (d : ℕ) (b : ℕ) → Keeps P (varied_by d b)
  unfolding varied_by
  varied_by-steady d b = search (steady_rules) depth 14

  pub vary-steady : (d : ℕ) → Keeps P (vary d)
  unfolding vary
  vary-steady d = search (steady_rules, varied_by-steady) depth 14

  pub set_through_types-steady : Keeps P set_through_types
  unfolding set_through_types
  set_through_types-steady = on_action-keeps (steady.action _ (record { tested = λ a. refl; going_on = λ a. refl; letting_go = λ a. refl }))

  pub damage_from-steady : (n : DamageNumbers) (x : Option ℕ) → Faults P → Keeps P (damage_from n x)
  unfolding damage_from
  damage_from-steady n None faults = search (steady_rules, fault-steady) depth 14
  damage_from-steady n (Some d) faults = search (steady_rules, set_through_types-steady, vary-steady) depth 14

  pub roll_damage-steady : (s : Side) (move : Move) → Faults P → Keeps P (roll_damage s move)
  unfolding roll_damage
  roll_damage-steady s move faults = search (steady_rules, damage_from-steady) depth 14

  pub miss-steady : (s : Side) → Keeps P (miss s)
  unfolding miss
  miss-steady s = search (steady_rules) depth 14

  pub set_tested-steady : (byte : ℕ) → Acts P → Keeps P (set_tested byte)
  unfolding set_tested
  set_tested-steady byte acts = on_action-keeps (acts.action _)

  pub hits_below-steady : (s : Side) (byte : ℕ) (b : ℕ) → Keeps P (hits_below s byte b)
  unfolding hits_below
  hits_below-steady s byte b = search (steady_rules, miss-steady) depth 14

  pub test_by-steady : (s : Side) (base : ℕ) (x : Option Bool) → Acts P → Keeps P (test_by s base x)
  unfolding test_by
  test_by-steady s base (Some true) acts = search (steady_rules, set_tested-steady) depth 14
  test_by-steady s base (Some false) acts = search (steady_rules, set_tested-steady, miss-steady) depth 14
  test_by-steady s base None acts = search (steady_rules, set_tested-steady, hits_below-steady) depth 14

  pub hit_test-steady : (s : Side) (move : Move) (base : ℕ) → Acts P → Keeps P (hit_test s move base)
  unfolding hit_test
  hit_test-steady s move base acts = search (steady_rules, test_by-steady) depth 14

  pub hit_or_miss-steady : (s : Side) (move : Move) → Acts P → Keeps P (hit_or_miss s move)
  unfolding hit_or_miss
  hit_or_miss-steady s move acts = search (steady_rules, hit_test-steady) depth 14

  pub note_miss-steady : (s : Side) (move : Move) → Keeps P (note_miss s move)
  unfolding note_miss
  note_miss-steady s move = search (steady_rules) depth 14

  pub must_hit-steady : (s : Side) (move : Move) → Acts P → Keeps P (must_hit s move)
  unfolding must_hit
  must_hit-steady s move acts = search (steady_rules, hit_or_miss-steady, note_miss-steady) depth 14

  pub set_broke-steady : Keeps P set_broke
  unfolding set_broke
  set_broke-steady = on_action-keeps (steady.action _ (record { tested = λ a. refl; going_on = λ a. refl; letting_go = λ a. refl }))

  pub land_on_substitute-steady : (target : Side) (damage : ℕ) (hp : ℕ) → Keeps P (land_on_substitute target damage hp)
  unfolding land_on_substitute
  land_on_substitute-steady target damage hp = search (steady_rules, set_broke-steady) depth 14

  pub land_on_hp-steady : (target : Side) (source : DamageSource) (damage : ℕ) → Hurts P → Keeps P (land_on_hp target source damage)
  unfolding land_on_hp
  land_on_hp-steady target source damage hurts = search (steady_rules, lose_hp-steady) depth 14

  pub land_by-steady : (target : Side) (damage : ℕ) (x : Option ℕ) → Hurts P → Keeps P (land_by target damage x)
  unfolding land_by
  land_by-steady target damage (Some hp) hurts = search (steady_rules, land_on_substitute-steady) depth 14
  land_by-steady target damage None hurts = search (steady_rules, land_on_hp-steady) depth 14

  pub land_damage-steady : (target : Side) (damage : ℕ) → Hurts P → Keeps P (land_damage target damage)
  unfolding land_damage
  land_damage-steady target damage hurts = search (steady_rules, land_by-steady) depth 14

  pub land-steady : (target : Side) → Hurts P → Keeps P (land target)
  unfolding land
  land-steady target hurts = search (steady_rules, land_damage-steady) depth 14

  pub land_on_foes_substitute-steady : (s : Side) (damage : ℕ) (x : Option ℕ) → Keeps P (land_on_foes_substitute s damage x)
  unfolding land_on_foes_substitute
  land_on_foes_substitute-steady s damage None = search (steady_rules) depth 14
  land_on_foes_substitute-steady s damage (Some hp) = search (steady_rules, land_on_substitute-steady) depth 14

  pub hurt_itself_by-steady : (s : Side) (x : Option ℕ) → Hurts P → Faults P → Keeps P (hurt_itself_by s x)
  unfolding hurt_itself_by
  hurt_itself_by-steady s None hurts faults = search (steady_rules, fault-steady) depth 14
  hurt_itself_by-steady s (Some damage) hurts faults = search (steady_rules, land_on_foes_substitute-steady, land_on_hp-steady) depth 14

  pub hurt_itself-steady : (s : Side) → Hurts P → Faults P → Breaks P s → Keeps P (hurt_itself s)
  unfolding hurt_itself
  hurt_itself-steady s hurts faults broken = then-keeps (on_conditions-keeps s _ broken.broken) (search (steady_rules, hurt_itself_by-steady) depth 14)

  pub cant-steady : (s : Side) (why : CantReason) → Keeps P (cant s why)
  unfolding cant
  cant-steady s why = search (steady_rules) depth 14

  pub wake-steady : (s : Side) → Keeps P (wake s)
  unfolding wake
  wake-steady s = search (steady_rules) depth 14

  pub sleep_on-steady : (s : Side) → Keeps P (sleep_on s)
  unfolding sleep_on
  sleep_on-steady s = search (steady_rules, cant-steady) depth 14

  pub sleep_test-steady : (s : Side) (x : Status) → Keeps P (sleep_test s x)
  unfolding sleep_test
  sleep_test-steady s (Asleep turns marked) = search (steady_rules, wake-steady, sleep_on-steady) depth 14
  sleep_test-steady s _ = search (steady_rules) depth 14

  pub frozen_test-steady : (s : Side) → Keeps P (frozen_test s)
  unfolding frozen_test
  frozen_test-steady s = search (steady_rules, cant-steady) depth 14

  pub trapped_test-steady : (s : Side) → Keeps P (trapped_test s)
  unfolding trapped_test
  trapped_test-steady s = search (steady_rules, cant-steady) depth 14

  pub flinch_test-steady : (s : Side) → Keeps P (flinch_test s)
  unfolding flinch_test
  flinch_test-steady s = search (steady_rules, cant-steady) depth 14

  pub recharge_test-steady : (s : Side) → Keeps P (recharge_test s)
  unfolding recharge_test
  recharge_test-steady s = search (steady_rules, cant-steady) depth 14

  pub disable_count-steady : (s : Side) (x : Option DisabledSlot) → Keeps P (disable_count s x)
  unfolding disable_count
  disable_count-steady s None = search (steady_rules) depth 14
  disable_count-steady s (Some d) = search (steady_rules) depth 14

  pub may_hurt_itself-steady : (s : Side) (b : ℕ) → Hurts P → Faults P → Breaks P s → Keeps P (may_hurt_itself s b)
  unfolding may_hurt_itself
  may_hurt_itself-steady s b hurts faults broken = search (steady_rules, hurt_itself-steady) depth 14

  pub confusion_test-steady : (s : Side) (x : Option ℕ) → Hurts P → Faults P → Breaks P s → Keeps P (confusion_test s x)
  unfolding confusion_test
  confusion_test-steady s None hurts faults broken = search (steady_rules) depth 14
  confusion_test-steady s (Some turns) hurts faults broken = search (steady_rules, may_hurt_itself-steady) depth 14

  pub disabled_test-steady : (s : Side) (pick : Pick) → Keeps P (disabled_test s pick)
  unfolding disabled_test
  disabled_test-steady s pick = search (steady_rules, cant-steady) depth 14

  pub may_be_paralysed-steady : (s : Side) (b : ℕ) → Breaks P s → Keeps P (may_be_paralysed s b)
  unfolding may_be_paralysed
  may_be_paralysed-steady s b broken = choose-keeps _ (then-keeps (on_conditions-keeps s _ broken.broken) (cant-steady s _)) stay-keeps

  pub paralysis_test-steady : (s : Side) → Breaks P s → Keeps P (paralysis_test s)
  unfolding paralysis_test
  paralysis_test-steady s broken = search (steady_rules, may_be_paralysed-steady) depth 14

  pub gate_of_status-steady : (s : Side) → Keeps P (gate_of_status s)
  unfolding gate_of_status
  gate_of_status-steady s = search (steady_rules, sleep_test-steady, frozen_test-steady, trapped_test-steady) depth 14

  pub gate_of_turn-steady : (s : Side) → Keeps P (gate_of_turn s)
  unfolding gate_of_turn
  gate_of_turn-steady s = search (steady_rules, flinch_test-steady, recharge_test-steady, disable_count-steady) depth 14

  pub gate_of_move-steady : (s : Side) (pick : Pick) → Hurts P → Faults P → Breaks P s → Keeps P (gate_of_move s pick)
  unfolding gate_of_move
  gate_of_move-steady s pick hurts faults broken = search (steady_rules, confusion_test-steady, disabled_test-steady, paralysis_test-steady) depth 14

  pub gate-steady : (s : Side) (pick : Pick) → Hurts P → Faults P → Breaks P s → Keeps P (gate s pick)
  unfolding gate
  gate-steady s pick hurts faults broken = search (steady_rules, gate_of_status-steady, gate_of_turn-steady, gate_of_move-steady) depth 14

  pub worsen-steady : (s : Side) → Keeps P (worsen s)
  unfolding worsen
  worsen-steady s = search (steady_rules) depth 14

  pub suffer-steady : (s : Side) (source : DamageSource) → Hurts P → Keeps P (suffer s source)
  unfolding suffer
  suffer-steady s source hurts = search (steady_rules, worsen-steady, lose_hp-steady) depth 14

  pub drained_by-steady : (s : Side) (amount : ℕ) → Hurts P → Keeps P (drained_by s amount)
  unfolding drained_by
  drained_by-steady s amount hurts = search (steady_rules, lose_hp-steady, gain_hp-steady) depth 14

  pub suffer_seed-steady : (s : Side) → Hurts P → Keeps P (suffer_seed s)
  unfolding suffer_seed
  suffer_seed-steady s hurts = search (steady_rules, worsen-steady, drained_by-steady) depth 14

  pub suffer_status-steady : (s : Side) (x : Status) → Hurts P → Keeps P (suffer_status s x)
  unfolding suffer_status
  suffer_status-steady s Poisoned hurts = search (steady_rules, suffer-steady) depth 14
  suffer_status-steady s Burned hurts = search (steady_rules, suffer-steady) depth 14
  suffer_status-steady s _ hurts = search (steady_rules) depth 14

  pub residual-steady : (s : Side) → Hurts P → Keeps P (residual s)
  unfolding residual
  residual-steady s hurts = search (steady_rules, suffer_status-steady, suffer_seed-steady) depth 14

  pub note_boost-steady : (s : Side) (stat : Stat) (n : ℕ) → Keeps P (note_boost s stat n)
  unfolding note_boost
  note_boost-steady s stat n = search (steady_rules) depth 14

  pub note_unboost-steady : (s : Side) (stat : Stat) (n : ℕ) → Keeps P (note_unboost s stat n)
  unfolding note_unboost
  note_unboost-steady s stat n = search (steady_rules) depth 14

  pub take_penalty_again-steady : (s : Side) → Keeps P (take_penalty_again s)
  unfolding take_penalty_again
  take_penalty_again-steady s = search (steady_rules) depth 14

  pub shift_to-steady : (user : Side) (target : Side) (stat : Stat) (n : ℕ) → Keeps P (shift_to user target stat n)
  unfolding shift_to
  shift_to-steady user target stat n = search (steady_rules, take_penalty_again-steady) depth 14

  pub raise_from-steady : (user : Side) (target : Side) (stat : Stat) (by : ℕ) (failing : Phase) (n : ℕ) (full : Bool) → Keeps P failing → Keeps P (raise_from user target stat by failing n full)
  unfolding raise_from
  raise_from-steady user target stat by failing n full failing-steady = search (steady_rules, note_boost-steady, shift_to-steady) depth 14

  pub lower_from-steady : (user : Side) (target : Side) (stat : Stat) (by : ℕ) (failing : Phase) (n : ℕ) (least : Bool) → Keeps P failing → Keeps P (lower_from user target stat by failing n least)
  unfolding lower_from
  lower_from-steady user target stat by failing n least failing-steady = search (steady_rules, note_unboost-steady, shift_to-steady) depth 14

  pub raise_stage-steady : (user : Side) (target : Side) (stat : Stat) (by : ℕ) (failing : Phase) → Keeps P failing → Keeps P (raise_stage user target stat by failing)
  unfolding raise_stage
  raise_stage-steady user target stat by failing failing-steady = search (steady_rules, raise_from-steady) depth 14

  pub lower_stage-steady : (user : Side) (target : Side) (stat : Stat) (by : ℕ) (failing : Phase) → Keeps P failing → Keeps P (lower_stage user target stat by failing)
  unfolding lower_stage
  lower_stage-steady user target stat by failing failing-steady = search (steady_rules, lower_from-steady) depth 14

  pub sleep_for-steady : (marked : Bool) (s : Side) (b : ℕ) → Hurts P → Keeps P (sleep_for marked s b)
  unfolding sleep_for
  sleep_for-steady marked s b hurts = search (steady_rules, inflict-steady) depth 14

  pub fall_asleep-steady : (marked : Bool) (s : Side) → Hurts P → Keeps P (fall_asleep marked s)
  unfolding fall_asleep
  fall_asleep-steady marked s hurts = search (steady_rules, sleep_for-steady) depth 14

  pub sleep_freely-steady : (user : Side) → Hurts P → Keeps P (sleep_freely user)
  unfolding sleep_freely
  sleep_freely-steady user hurts = search (steady_rules, fall_asleep-steady) depth 14

  pub freeze_freely-steady : (user : Side) → Hurts P → Keeps P (freeze_freely user)
  unfolding freeze_freely
  freeze_freely-steady user hurts = search (steady_rules, inflict-steady) depth 14

  pub sleep_only_one-steady : (user : Side) → Hurts P → Keeps P (sleep_only_one user)
  unfolding sleep_only_one
  sleep_only_one-steady user hurts = search (steady_rules, fails_if-steady, fall_asleep-steady) depth 14

  pub freeze_only_one-steady : (user : Side) → Hurts P → Keeps P (freeze_only_one user)
  unfolding freeze_only_one
  freeze_only_one-steady user hurts = search (steady_rules, freeze_freely-steady) depth 14

  pub sleeps_under-steady : (x : Bool) (user : Side) → Hurts P → Keeps P (sleeps_under x user)
  unfolding sleeps_under
  sleeps_under-steady true user hurts = search (steady_rules, sleep_only_one-steady) depth 14
  sleeps_under-steady false user hurts = search (steady_rules, sleep_freely-steady) depth 14

  pub freezes_under-steady : (x : Bool) (user : Side) → Hurts P → Keeps P (freezes_under x user)
  unfolding freezes_under
  freezes_under-steady true user hurts = search (steady_rules, freeze_only_one-steady) depth 14
  freezes_under-steady false user hurts = search (steady_rules, freeze_freely-steady) depth 14

  pub confused_by-steady : (s : Side) (b : ℕ) → Keeps P (confused_by s b)
  unfolding confused_by
  confused_by-steady s b = search (steady_rules) depth 14

  pub confuse-steady : (s : Side) → Keeps P (confuse s)
  unfolding confuse
  confuse-steady s = search (steady_rules, confused_by-steady) depth 14

  pub confuse_foe-steady : (s : Side) (move : Move) → Acts P → Keeps P (confuse_foe s move)
  unfolding confuse_foe
  confuse_foe-steady s move acts = search (steady_rules, fails_if-steady, must_hit-steady, confuse-steady) depth 14

  pub take_types-steady : (s : Side) (foe : Active) → Keeps P (take_types s foe)
  unfolding take_types
  take_types-steady s foe = search (steady_rules) depth 14

  pub convert-steady : (s : Side) → Keeps P (convert s)
  unfolding convert
  convert-steady s = search (steady_rules, fails_if-steady, take_types-steady) depth 14

  pub set_mist-steady : (s : Side) → Keeps P (set_mist s)
  unfolding set_mist
  set_mist-steady s = search (steady_rules, fails_if-steady) depth 14

  pub set_focus_energy-steady : (s : Side) → Keeps P (set_focus_energy s)
  unfolding set_focus_energy
  set_focus_energy-steady s = search (steady_rules, fails_if-steady) depth 14

  pub set_light_screen-steady : (s : Side) → Keeps P (set_light_screen s)
  unfolding set_light_screen
  set_light_screen-steady s = search (steady_rules, fails_if-steady) depth 14

  pub set_reflect-steady : (s : Side) → Keeps P (set_reflect s)
  unfolding set_reflect
  set_reflect-steady s = search (steady_rules, fails_if-steady) depth 14

  pub set_screen-steady : (s : Side) (move : Move) → Keeps P (set_screen s move)
  unfolding set_screen
  set_screen-steady s move = search (steady_rules, set_light_screen-steady, set_reflect-steady) depth 14

  pub clear_side-steady : (s : Side) → Keeps P (clear_side s)
  unfolding clear_side
  clear_side-steady s = search (steady_rules) depth 14

  pub cure_kind-steady : (s : Side) (x : Option Kind) → Keeps P (cure_kind s x)
  unfolding cure_kind
  cure_kind-steady s None = search (steady_rules) depth 14
  cure_kind-steady s (Some kind) = search (steady_rules, cure-steady) depth 14

  pub set_skips-steady : (skips : Bool) → Keeps P (set_skips skips)
  unfolding set_skips
  set_skips-steady skips = record { kept = λ p h. h }

  pub haze_cures-steady : (s : Side) (status : Status) → Keeps P (haze_cures s status)
  unfolding haze_cures
  haze_cures-steady s status = search (steady_rules, set_skips-steady, cure_kind-steady) depth 14

  pub haze-steady : (s : Side) → Keeps P (haze s)
  unfolding haze
  haze-steady s = search (steady_rules, clear_side-steady, haze_cures-steady) depth 14

  pub rest_up-steady : (s : Side) → Hurts P → Keeps P (rest_up s)
  unfolding rest_up
  rest_up-steady s hurts = then-keeps (told-keeps _ (hurts.hurt s _)) (given-keeps _ (λ m. gain_hp-steady s m.max hurts))

  pub recover-steady : (s : Side) → Hurts P → Keeps P (recover s)
  unfolding recover
  recover-steady s hurts = search (steady_rules, gain_hp-steady) depth 14

  pub heal-steady : (s : Side) (move : Move) → Hurts P → Keeps P (heal s move)
  unfolding heal
  heal-steady s move hurts = search (steady_rules, fails_if-steady, rest_up-steady, recover-steady) depth 14

  pub poison_foe-steady : (s : Side) (move : Move) → Hurts P → Acts P → Keeps P (poison_foe s move)
  unfolding poison_foe
  poison_foe-steady s move hurts acts = search (steady_rules, fails_if-steady, must_hit-steady, inflict-steady) depth 14

  pub paralyse_foe-steady : (s : Side) (move : Move) → Hurts P → Acts P → Keeps P (paralyse_foe s move)
  unfolding paralyse_foe
  paralyse_foe-steady s move hurts acts = search (steady_rules, fails_if-steady, must_hit-steady, inflict-steady) depth 14

  pub seed_foe-steady : (s : Side) (move : Move) → Acts P → Keeps P (seed_foe s move)
  unfolding seed_foe
  seed_foe-steady s move acts = search (steady_rules, must_hit-steady, fails_if-steady) depth 14

  pub pay_for_substitute-steady : (s : Side) (cost : ℕ) → Hurts P → Keeps P (pay_for_substitute s cost)
  unfolding pay_for_substitute
  pay_for_substitute-steady s cost hurts = search (steady_rules, lose_hp-steady) depth 14

  pub make_substitute-steady : (s : Side) → Hurts P → Keeps P (make_substitute s)
  unfolding make_substitute
  make_substitute-steady s hurts = search (steady_rules, fails_if-steady, pay_for_substitute-steady) depth 14

  pub splash-steady : (s : Side) → Keeps P (splash s)
  unfolding splash
  splash-steady s = search (steady_rules) depth 14

  pub early_effect-steady : (s : Side) (move : Move) (effect : Effect) → Hurts P → Acts P → Keeps P (early_effect s move effect)
  unfolding early_effect
  early_effect-steady s move effects.Conversion hurts acts = search (steady_rules, convert-steady) depth 14
  early_effect-steady s move effects.Mist hurts acts = search (steady_rules, set_mist-steady) depth 14
  early_effect-steady s move effects.FocusEnergy hurts acts = search (steady_rules, set_focus_energy-steady) depth 14
  early_effect-steady s move effects.Screen hurts acts = search (steady_rules, set_screen-steady) depth 14
  early_effect-steady s move effects.Haze hurts acts = search (steady_rules, haze-steady) depth 14
  early_effect-steady s move effects.InflictConfusion hurts acts = search (steady_rules, confuse_foe-steady) depth 14
  early_effect-steady s move effects.Heal hurts acts = search (steady_rules, heal-steady) depth 14
  early_effect-steady s move effects.InflictPoison hurts acts = search (steady_rules, poison_foe-steady) depth 14
  early_effect-steady s move effects.InflictParalysis hurts acts = search (steady_rules, paralyse_foe-steady) depth 14
  early_effect-steady s move effects.LeechSeed hurts acts = search (steady_rules, seed_foe-steady) depth 14
  early_effect-steady s move effects.Substitute hurts acts = search (steady_rules, make_substitute-steady) depth 14
  early_effect-steady s move effects.Splash hurts acts = search (steady_rules, splash-steady) depth 14
  early_effect-steady s move _ hurts acts = search (steady_rules, fail-steady) depth 14

  pub ready_to_sleep-steady : (s : Side) (move : Move) → Acts P → Keeps P (ready_to_sleep s move)
  unfolding ready_to_sleep
  ready_to_sleep-steady s move acts = search (steady_rules, fails_if-steady, must_hit-steady) depth 14

  pub put_to_sleep-steady : (r : Ruling) (s : Side) (move : Move) → KeepsRuling P r → Acts P → Keeps P (put_to_sleep r s move)
  unfolding put_to_sleep
  put_to_sleep-steady r s move ruling acts = search (steady_rules, ready_to_sleep-steady, ruling.sleeps) depth 14

  pub lower_foes_stat-steady : (s : Side) (move : Move) (stat : Stat) (by : ℕ) → Acts P → Keeps P (lower_foes_stat s move stat by)
  unfolding lower_foes_stat
  lower_foes_stat-steady s move stat by acts = search (steady_rules, fails_if-steady, must_hit-steady, lower_stage-steady, fail-steady) depth 14

  pub bide_for-steady : (s : Side) (b : ℕ) → Keeps P (bide_for s b)
  unfolding bide_for
  bide_for-steady s b = search (steady_rules) depth 14

  pub start_bide-steady : (s : Side) → Keeps P (start_bide s)
  unfolding start_bide
  start_bide-steady s = search (steady_rules, bide_for-steady) depth 14

  pub late_effect-steady : (r : Ruling) (s : Side) (move : Move) (effect : Effect) → KeepsRuling P r → Acts P → Keeps P (late_effect r s move effect)
  unfolding late_effect
  late_effect-steady r s move (effects.StatUp stat n) ruling acts = search (steady_rules, raise_stage-steady, fail-steady) depth 14
  late_effect-steady r s move (effects.StatDown stat n) ruling acts = search (steady_rules, lower_foes_stat-steady) depth 14
  late_effect-steady r s move effects.InflictSleep ruling acts = search (steady_rules, put_to_sleep-steady) depth 14
  late_effect-steady r s move effects.Bide ruling acts = search (steady_rules, start_bide-steady) depth 14
  late_effect-steady r s move _ ruling acts = search (steady_rules) depth 14

  pub happens_below-steady : (bound : ℕ) (f : Phase) (b : ℕ) → Keeps P f → Keeps P (happens_below bound f b)
  unfolding happens_below
  happens_below-steady bound f b f-steady = search (steady_rules) depth 14

  pub by_chance-steady : (bound : ℕ) (f : Phase) → Keeps P f → Keeps P (by_chance bound f)
  unfolding by_chance
  by_chance-steady bound f f-steady = search (steady_rules, happens_below-steady) depth 14

  pub thaw-steady : (s : Side) (move : Move) → Keeps P (thaw s move)
  unfolding thaw
  thaw-steady s move = search (steady_rules, cure-steady) depth 14

  pub may_inflict-steady : (s : Side) (move : Move) (bound : ℕ) (f : Phase) → Keeps P f → Keeps P (may_inflict s move bound f)
  unfolding may_inflict
  may_inflict-steady s move bound f f-steady = search (steady_rules, thaw-steady, by_chance-steady) depth 14

  pub may_poison-steady : (s : Side) (bound : ℕ) → Hurts P → Keeps P (may_poison s bound)
  unfolding may_poison
  may_poison-steady s bound hurts = search (steady_rules, by_chance-steady, inflict-steady) depth 14

  pub may_confuse-steady : (s : Side) (bound : ℕ) → Keeps P (may_confuse s bound)
  unfolding may_confuse
  may_confuse-steady s bound = search (steady_rules, by_chance-steady, confuse-steady) depth 14

  pub flinch-steady : (s : Side) → Keeps P (flinch s)
  unfolding flinch
  flinch-steady s = search (steady_rules) depth 14

  pub kept_away_effect-steady : (r : Ruling) (s : Side) (move : Move) (effect : Effect) → KeepsRuling P r → Hurts P → Keeps P (kept_away_effect r s move effect)
  unfolding kept_away_effect
  kept_away_effect-steady r s move (effects.PoisonChance n) ruling hurts = search (steady_rules, may_poison-steady) depth 14
  kept_away_effect-steady r s move effects.Twineedle ruling hurts = search (steady_rules, may_poison-steady) depth 14
  kept_away_effect-steady r s move (effects.BurnChance n) ruling hurts = search (steady_rules, may_inflict-steady, inflict-steady) depth 14
  kept_away_effect-steady r s move effects.FreezeChance ruling hurts = search (steady_rules, may_inflict-steady, ruling.freezes) depth 14
  kept_away_effect-steady r s move (effects.ParalysisChance n) ruling hurts = search (steady_rules, may_inflict-steady, inflict-steady) depth 14
  kept_away_effect-steady r s move (effects.FlinchChance n) ruling hurts = search (steady_rules, by_chance-steady, flinch-steady) depth 14
  kept_away_effect-steady r s move (effects.StatDownChance stat) ruling hurts = search (steady_rules, by_chance-steady, lower_stage-steady) depth 14
  kept_away_effect-steady r s move _ ruling hurts = search (steady_rules) depth 14

  pub disable_for-steady : (s : Side) (b : ℕ) (c : ℕ) → Keeps P (disable_for s b c)
  unfolding disable_for
  disable_for-steady s b c = search (steady_rules) depth 14

  pub disable_slot-steady : (s : Side) (moves : List KnownMove) (b : ℕ) → Keeps P (disable_slot s moves b)
  unfolding disable_slot
  disable_slot-steady s moves b = search (steady_rules, fails_if-steady, disable_for-steady) depth 14

  pub disable-steady : (s : Side) (move : Move) → Acts P → Keeps P (disable s move)
  unfolding disable
  disable-steady s move acts = search (steady_rules, must_hit-steady, fails_if-steady, disable_slot-steady) depth 14

  pub must_recharge-steady : (s : Side) → Keeps P (must_recharge s)
  unfolding must_recharge
  must_recharge-steady s = search (steady_rules) depth 14

  pub side_effect-steady : (r : Ruling) (s : Side) (move : Move) (e : Effect) → KeepsRuling P r → Hurts P → Acts P → Keeps P (side_effect r s move e)
  unfolding side_effect
  side_effect-steady r s move (effects.ConfusionChance n) ruling hurts acts = search (steady_rules, may_confuse-steady) depth 14
  side_effect-steady r s move effects.Disable ruling hurts acts = search (steady_rules, disable-steady) depth 14
  side_effect-steady r s move effects.Recharge ruling hurts acts = search (steady_rules, must_recharge-steady) depth 14
  side_effect-steady r s move e ruling hurts acts = search (steady_rules, kept_away_effect-steady) depth 14

  pub count_again-steady : (f : ℕ → Phase) (c : ℕ) → ((x : ℕ) → Keeps P (f x)) → Keeps P (count_again f c)
  unfolding count_again
  count_again-steady f c f-steady = search (steady_rules, f-steady) depth 14

  pub count_by_draw-steady : (f : ℕ → Phase) (b : ℕ) → ((x : ℕ) → Keeps P (f x)) → Keeps P (count_by_draw f b)
  unfolding count_by_draw
  count_by_draw-steady f b f-steady = search (steady_rules, count_again-steady, f-steady) depth 14

  pub draw_count-steady : (f : ℕ → Phase) → ((x : ℕ) → Keeps P (f x)) → Keeps P (draw_count f)
  unfolding draw_count
  draw_count-steady f f-steady = search (steady_rules, count_by_draw-steady, f-steady) depth 14

  pub trap_for-steady : (s : Side) (n : ℕ) → Keeps P (trap_for s n)
  unfolding trap_for
  trap_for-steady s n = search (steady_rules) depth 14

  pub trap-steady : (s : Side) → Keeps P (trap s)
  unfolding trap
  trap-steady s = search (steady_rules, draw_count-steady, trap_for-steady) depth 14

  pub thrash_less-steady : (s : Side) (o : Option ℕ) → Own P s → Keeps P (thrash_less s o)
  unfolding thrash_less
  thrash_less-steady s None own = stay-keeps
  thrash_less-steady s (Some turns) own = choose-keeps _ (then-keeps (on_conditions-keeps s _ (own.conditions _)) (confuse-steady s)) (on_conditions-keeps s _ (own.conditions _))

  pub thrash_for-steady : (s : Side) (move : Move) (b : ℕ) → Own P s → Keeps P (thrash_for s move b)
  unfolding thrash_for
  thrash_for-steady s move b own = then-keeps (on_conditions-keeps s _ (own.conditions _)) (on_active-keeps s _ (own.kept _))

  pub thrash_about-steady : (s : Side) (move : Move) → Own P s → Keeps P (thrash_about s move)
  unfolding thrash_about
  thrash_about-steady s move own = search (steady_rules, thrash_less-steady, thrash_for-steady) depth 14

  pub set_letting_go-steady : Acts P → Keeps P set_letting_go
  unfolding set_letting_go
  set_letting_go-steady acts = on_action-keeps (acts.action _)

  pub let_energy_go-steady : (s : Side) (energy : ℕ) → Acts P → Keeps P (let_energy_go s energy)
  unfolding let_energy_go
  let_energy_go-steady s energy acts = search (steady_rules, set_letting_go-steady) depth 14

  pub store_energy-steady : (s : Side) (damage : ℕ) → Keeps P (store_energy s damage)
  unfolding store_energy
  store_energy-steady s damage = search (steady_rules) depth 14

  pub bide_on-steady : (s : Side) (x : Option Storing) (damage : ℕ) → Acts P → Keeps P (bide_on s x damage)
  unfolding bide_on
  bide_on-steady s None damage acts = search (steady_rules) depth 14
  bide_on-steady s (Some b) damage acts = search (steady_rules, let_energy_go-steady, store_energy-steady) depth 14

  pub bide_goes_on-steady : (s : Side) → Acts P → Keeps P (bide_goes_on s)
  unfolding bide_goes_on
  bide_goes_on-steady s acts = search (steady_rules, bide_on-steady) depth 14

  pub make_current-steady : (s : Side) (pick : Pick) → Keeps P (make_current s pick)
  unfolding make_current
  make_current-steady s pick = search (steady_rules) depth 14

  pub begin_charge-steady : (s : Side) (pick : Pick) (move : Move) → Keeps P (begin_charge s pick move)
  unfolding begin_charge
  begin_charge-steady s pick move = search (steady_rules, make_current-steady) depth 14

  pub end_charge-steady : (s : Side) → Keeps P (end_charge s)
  unfolding end_charge
  end_charge-steady s = search (steady_rules) depth 14

  pub charge-steady : (s : Side) (pick : Pick) (move : Move) → Keeps P (charge s pick move)
  unfolding charge
  charge-steady s pick move = search (steady_rules, end_charge-steady, begin_charge-steady) depth 14

  pub psywave-steady : (level : ℕ) → Faults P → Keeps P (psywave level)
  unfolding psywave
  psywave-steady level faults = search (steady_rules, fault-steady) depth 14

  pub deal_fixed-steady : (s : Side) (move : ℕ) → Faults P → Keeps P (deal_fixed s move)
  unfolding deal_fixed
  deal_fixed-steady s move faults = search (steady_rules, psywave-steady) depth 14

  pub fixed_damage-steady : (s : Side) (move : Move) → Faults P → Acts P → Keeps P (fixed_damage s move)
  unfolding fixed_damage
  fixed_damage-steady s move faults acts = search (steady_rules, hit_or_miss-steady, deal_fixed-steady) depth 14

  pub deal_everything-steady : (b : ℕ) → Keeps P (deal_everything b)
  unfolding deal_everything
  deal_everything-steady b = search (steady_rules) depth 14

  pub knock_out_by_type-steady : (s : Side) (move : Move) → Keeps P (knock_out_by_type s move)
  unfolding knock_out_by_type
  knock_out_by_type-steady s move = search (steady_rules, deal_everything-steady) depth 14

  pub knock_out-steady : (s : Side) (move : Move) → Acts P → Keeps P (knock_out s move)
  unfolding knock_out
  knock_out-steady s move acts = search (steady_rules, roll_critical-steady, knock_out_by_type-steady, hit_or_miss-steady) depth 14

  pub counter_by-steady : (s : Side) (move : Move) (damage : ℕ) → Acts P → Keeps P (counter_by s move damage)
  unfolding counter_by
  counter_by-steady s move damage acts = search (steady_rules, hit_or_miss-steady) depth 14

  pub counter-steady : (s : Side) (move : Move) → Acts P → Keeps P (counter s move)
  unfolding counter
  counter-steady s move acts = search (steady_rules, roll_critical-steady, counter_by-steady) depth 14

  pub set_planned-steady : (hits : ℕ) → Keeps P (set_planned hits)
  unfolding set_planned
  set_planned-steady hits = on_action-keeps (steady.action _ (record { tested = λ a. refl; going_on = λ a. refl; letting_go = λ a. refl }))

  pub plan_two_more-steady : (n : ℕ) → Keeps P (plan_two_more n)
  unfolding plan_two_more
  plan_two_more-steady n = search (steady_rules, set_planned-steady) depth 14

  pub plan_hits-steady : Keeps P plan_hits
  unfolding plan_hits
  plan_hits-steady = search (steady_rules, draw_count-steady, plan_two_more-steady) depth 14

  pub recoil-steady : (s : Side) (move : Move) → Hurts P → Keeps P (recoil s move)
  unfolding recoil
  recoil-steady s move hurts = search (steady_rules, lose_hp-steady) depth 14

  pub drain_by-steady : (s : Side) (n : ℕ) → Hurts P → Keeps P (drain_by s n)
  unfolding drain_by
  drain_by-steady s n hurts = search (steady_rules, gain_hp-steady) depth 14

  pub drain-steady : (s : Side) → Hurts P → Keeps P (drain s)
  unfolding drain
  drain-steady s hurts = search (steady_rules, drain_by-steady) depth 14

  pub start_rage-steady : (s : Side) → Own P s → Keeps P (start_rage s)
  unfolding start_rage starts
  start_rage-steady s own = choose-keeps _ stay-keeps (told-keeps _ (own.conditions _))

  pub explode-steady : (s : Side) → Keeps P (explode s)
  unfolding explode
  explode-steady s = search (steady_rules) depth 14

  pub hit_effect-steady : (s : Side) (move : Move) (effect : Effect) → Hurts P → Own P s → Keeps P (hit_effect s move effect)
  unfolding hit_effect
  hit_effect-steady s move effects.MultiHit hurts own = search (steady_rules, plan_hits-steady) depth 14
  hit_effect-steady s move effects.DoubleHit hurts own = search (steady_rules, set_planned-steady) depth 14
  hit_effect-steady s move effects.Twineedle hurts own = search (steady_rules, set_planned-steady) depth 14
  hit_effect-steady s move effects.Recoil hurts own = search (steady_rules, recoil-steady) depth 14
  hit_effect-steady s move effects.Drain hurts own = search (steady_rules, drain-steady) depth 14
  hit_effect-steady s move effects.DreamEater hurts own = search (steady_rules, drain-steady) depth 14
  hit_effect-steady s move effects.Rage hurts own = search (steady_rules, start_rage-steady) depth 14
  hit_effect-steady s move effects.Explode hurts own = search (steady_rules, explode-steady) depth 14
  hit_effect-steady s move _ hurts own = search (steady_rules) depth 14

  pub crash-steady : (s : Side) → Hurts P → Keeps P (crash s)
  unfolding crash
  crash-steady s hurts = search (steady_rules, lose_hp-steady) depth 14

  pub missed_move-steady : (s : Side) (move : Move) → Hurts P → Keeps P (missed_move s move)
  unfolding missed_move
  missed_move-steady s move hurts = search (steady_rules, note_miss-steady, crash-steady, explode-steady) depth 14

  pub note_effectiveness-steady : (target : Side) (n : DamageNumbers) → Keeps P (note_effectiveness target n)
  unfolding note_effectiveness
  note_effectiveness-steady target n = search (steady_rules) depth 14

  pub note_critical-steady : (target : Side) → Keeps P (note_critical target)
  unfolding note_critical
  note_critical-steady target = search (steady_rules) depth 14

  pub note_first_hit-steady : (s : Side) (move : Move) → Keeps P (note_first_hit s move)
  unfolding note_first_hit
  note_first_hit-steady s move = search (steady_rules, note_critical-steady, note_effectiveness-steady) depth 14

  pub count_hit-steady : Keeps P count_hit
  unfolding count_hit
  count_hit-steady = on_action-keeps (steady.action _ (record { tested = λ a. refl; going_on = λ a. refl; letting_go = λ a. refl }))

  pub build_rage-steady : (s : Side) → Keeps P (build_rage s)
  unfolding build_rage
  build_rage-steady s = search (steady_rules, raise_stage-steady) depth 14

  pub hit_once-steady : (s : Side) (move : Move) → Hurts P → Own P s → Keeps P (hit_once s move)
  unfolding hit_once
  hit_once-steady s move hurts own = search (steady_rules, land-steady, count_hit-steady, hit_effect-steady, build_rage-steady) depth 14

  pub hit_again-steady : (n : ℕ) (s : Side) (move : Move) → Hurts P → Own P s → Keeps P (hit_again n s move)
  unfolding hit_again
  hit_again-steady zero s move hurts own = stay-keeps
  hit_again-steady (suc k) s move hurts own = choose-keeps _ stay-keeps (then-keeps (hit_once-steady s move hurts own) (hit_again-steady k s move hurts own))

  pub note_hit_count-steady : (target : Side) (hits : ℕ) → Keeps P (note_hit_count target hits)
  unfolding note_hit_count
  note_hit_count-steady target hits = search (steady_rules) depth 14

  pub other_hits-steady : (s : Side) (move : Move) → Hurts P → Own P s → Keeps P (other_hits s move)
  unfolding other_hits
  other_hits-steady s move hurts own = search (steady_rules, hit_again-steady, note_hit_count-steady) depth 14

  pub hits-steady : (s : Side) (move : Move) → Hurts P → Own P s → Keeps P (hits s move)
  unfolding hits
  hits-steady s move hurts own = search (steady_rules, note_first_hit-steady, hit_once-steady, other_hits-steady) depth 14

  pub set_going_on-steady : (going_on : Bool) → Acts P → Keeps P (set_going_on going_on)
  unfolding set_going_on
  set_going_on-steady going_on acts = on_action-keeps (acts.action _)

  pub see_if_going_on-steady : (s : Side) (pick : Pick) → Acts P → Keeps P (see_if_going_on s pick)
  unfolding see_if_going_on
  see_if_going_on-steady s pick acts = search (steady_rules, set_going_on-steady) depth 14

  pub gate_or_held-steady : (s : Side) (pick : Pick) → Hurts P → Faults P → Breaks P s → Keeps P (gate_or_held s pick)
  unfolding gate_or_held
  gate_or_held-steady s Held hurts faults broken = search (steady_rules, cant-steady) depth 14
  gate_or_held-steady s pick hurts faults broken = search (steady_rules, gate-steady) depth 14

  pub spend_pp-steady : (s : Side) → Keeps P (spend_pp s)
  unfolding spend_pp
  spend_pp-steady s = search (steady_rules) depth 14

  pub use_move-steady : (s : Side) (pick : Pick) (move : Move) → Keeps P (use_move s pick move)
  unfolding use_move
  use_move-steady s pick move = search (steady_rules, make_current-steady, spend_pp-steady) depth 14

  pub prelude-steady : (s : Side) (move : Move) → Own P s → Keeps P (prelude s move)
  unfolding prelude
  prelude-steady s move own = search (steady_rules, trap-steady, thrash_about-steady) depth 14

  pub lead_up-steady : (s : Side) (pick : Pick) (move : Move) → Hurts P → Own P s → Acts P → Keeps P (lead_up s pick move)
  unfolding lead_up
  lead_up-steady s pick move hurts own acts = search (steady_rules, charge-steady, use_move-steady, early_effect-steady, prelude-steady) depth 14

  pub usual_damage-steady : (s : Side) (move : Move) → Faults P → Acts P → Keeps P (usual_damage s move)
  unfolding usual_damage
  usual_damage-steady s move faults acts = search (steady_rules, roll_critical-steady, roll_damage-steady, hit_or_miss-steady) depth 14

  pub damage_of-steady : (s : Side) (move : Move) (effect : Effect) → Faults P → Acts P → Keeps P (damage_of s move effect)
  unfolding damage_of
  damage_of-steady s move effects.Counter faults acts = search (steady_rules, counter-steady) depth 14
  damage_of-steady s move effects.FixedDamage faults acts = search (steady_rules, fixed_damage-steady) depth 14
  damage_of-steady s move effects.SuperFang faults acts = search (steady_rules, fixed_damage-steady) depth 14
  damage_of-steady s move effects.OneHitKnockOut faults acts = search (steady_rules, knock_out-steady) depth 14
  damage_of-steady s move _ faults acts = search (steady_rules, usual_damage-steady) depth 14

  pub strike-steady : (r : Ruling) (s : Side) (move : Move) → KeepsRuling P r → Hurts P → Own P s → Acts P → Keeps P (strike r s move)
  unfolding strike
  strike-steady r s move ruling hurts own acts = search (steady_rules, missed_move-steady, hits-steady, side_effect-steady) depth 14

  pub carry_out-steady : (r : Ruling) (s : Side) (pick : Pick) (move : Move) → KeepsRuling P r → Hurts P → Faults P → Own P s → Acts P → Keeps P (carry_out r s pick move)
  unfolding carry_out
  carry_out-steady r s pick move ruling hurts faults own acts = search (steady_rules, bide_goes_on-steady, lead_up-steady, damage_of-steady, late_effect-steady, strike-steady) depth 14

  pub action_parts-steady : (r : Ruling) (s : Side) (pick : Pick) → KeepsRuling P r → Hurts P → Faults P → Breaks P s → Own P s → Acts P → Keeps P (action_parts r s pick)
  unfolding action_parts
  action_parts-steady r s pick ruling hurts faults broken own acts = search (steady_rules, gate_or_held-steady, see_if_going_on-steady, carry_out-steady) depth 14

  pub keep_accuracy-steady : (s : Side) → Own P s → Keeps P (keep_accuracy s)
  unfolding keep_accuracy
  keep_accuracy-steady s own = given-keeps _ (λ byte. on_active-keeps s _ (own.kept byte))

  pub begin-steady : (s : Side) → Acts P → Keeps P (begin s)
  unfolding begin
  begin-steady s acts = on_action-keeps (acts.action _)

  pub resume-steady : Keeps P resume
  unfolding resume
  resume-steady = record { kept = λ p h. h }

  pub act-steady : (r : Ruling) (s : Side) (pick : Pick) → KeepsRuling P r → Hurts P → Faults P → Breaks P s → Own P s → Acts P → Keeps P (act r s pick)
  unfolding act
  act-steady r s pick ruling hurts faults broken own acts = record {
    kept = λ p h. resume-steady.kept _ ((keep_accuracy-steady s own).kept _ ((action_parts-steady r s pick ruling hurts faults broken own acts).kept _ ((begin-steady s acts).kept p h)));
  }

  pub ruling-steady : (terms : Terms) → Hurts P → KeepsRuling P (ruling_of terms)
  ruling-steady terms hurts = record { sleeps = λ user. sleeps_under-steady terms.rules.sleep_clause user hurts; freezes = λ user. freezes_under-steady terms.rules.freeze_clause user hurts }
