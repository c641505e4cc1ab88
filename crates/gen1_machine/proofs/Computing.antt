-- A lemma that unfolds `computing` computes all definitions of a battle. Made by tools/gen.
use Rattle.std.proofs.Common.{Bool, true}
use Rattle.std.specs.Fmt.{digits}
use Rattle.gen1_tables.specs.Types.{type_rows}
use Rattle.gen1_tables.specs.Species.{species_rows, species_row}
use Rattle.gen1_tables.specs.Moves.{move_rows, move_row}
use Rattle.gen1_tables.specs.Names.{name_at, place_of, species_names, move_names, species_name, move_name, species_named, move_named}
use Rattle.gen1_rolls.specs.Streams.{byte_at, first_within, first}
use Rattle.gen1_stats.specs.Stats.{root_from, root}
use Rattle.gen1_machine.specs.Conditions.{with_bide, with_bide_storing, without_bide, with_thrash, with_thrash_one_less, without_thrash, with_trapping, with_trapping_one_less, without_trapping, with_charging, without_charging, with_invulnerability, without_invulnerability, with_recharge, without_recharge, with_rage, broken_off, with_flinch, without_flinch, with_confusion, with_confusion_one_less, without_confusion, with_mist, with_focus_energy, with_light_screen, with_reflect, with_substitute, with_substitute_hurt, without_substitute, with_seed, without_seed, with_bad_poison, with_worse_poison, with_disabled, with_disable_one_less, without_disable, after_haze}
use Rattle.gen1_machine.specs.State.{changed_active, changed_conditions, changed_member, with_last_damage, with_outcome, with_requests, with_next_turn, with_status, hurt_by, healed_by, fallen, with_sleep_one_less, with_pp_spent, with_types_of, with_current_move, with_picked_move, with_kept_accuracy}
use Rattle.gen1_machine.specs.CurrentStats.{at_new_stage, recomputed_at, with_penalty_of}
use Rattle.gen1_machine.specs.Progress.{stay, unless_stopped, ◌▸◌, choose, given, stop, draw, draw_until, on_field, note, told, on_active, on_conditions, on_member, set_last_damage, starts, lasts, ends, on_action, set_missed, fault, fail, fails_if, lose_hp, gain_hp, inflict, cure}
use Rattle.gen1_machine.specs.CriticalHits.{set_critical, critical_by, roll_critical}
use Rattle.gen1_machine.specs.Damage.{varied_by, vary, set_through_types, damage_from, roll_damage}
use Rattle.gen1_machine.specs.HitTest.{miss, set_tested, hits_below, test_by, hit_test, hit_or_miss, note_miss, must_hit}
use Rattle.gen1_machine.specs.Landing.{set_broke, land_on_substitute, land_on_hp, land_by, land_damage, land}
use Rattle.gen1_machine.specs.HitOnItself.{land_on_foes_substitute, hurt_itself_by, hurt_itself}
use Rattle.gen1_machine.specs.Gate.{cant, wake, sleep_on, sleep_test, frozen_test, trapped_test, flinch_test, recharge_test, disable_count, may_hurt_itself, confusion_test, disabled_test, may_be_paralysed, paralysis_test, gate_of_status, gate_of_turn, gate_of_move, gate}
use Rattle.gen1_machine.specs.ResidualDamage.{worsen, suffer, drained_by, suffer_seed, suffer_status, residual}
use Rattle.gen1_machine.specs.StageShift.{note_boost, note_unboost, take_penalty_again, shift_to, raise_from, lower_from, raise_stage, lower_stage}
use Rattle.gen1_machine.specs.Ruling.{sleep_for, fall_asleep, sleep_freely, freeze_freely, sleep_only_one, freeze_only_one, sleeps_under, freezes_under}
use Rattle.gen1_machine.specs.EarlyEffects.{confused_by, confuse, confuse_foe, take_types, convert, set_mist, set_focus_energy, set_light_screen, set_reflect, set_screen, with_levelled_stats, clear_side, cure_kind, set_skips, haze_cures, haze, rest_up, recover, heal, poison_foe, paralyse_foe, seed_foe, pay_for_substitute, make_substitute, splash, early_effect}
use Rattle.gen1_machine.specs.LateEffects.{ready_to_sleep, put_to_sleep, lower_foes_stat, bide_for, start_bide, late_effect}
use Rattle.gen1_machine.specs.SideEffects.{happens_below, by_chance, thaw, may_inflict, may_poison, may_confuse, flinch, kept_away_effect, disable_for, disable_slot, disable, must_recharge, side_effect}
use Rattle.gen1_machine.specs.GoingOn.{count_again, count_by_draw, draw_count, trap_for, trap, thrash_less, thrash_for, thrash_about, set_letting_go, let_energy_go, store_energy, bide_on, bide_goes_on}
use Rattle.gen1_machine.specs.Charging.{make_current, begin_charge, end_charge, charge}
use Rattle.gen1_machine.specs.FixedDamage.{psywave, deal_fixed, fixed_damage, deal_everything, knock_out_by_type, knock_out}
use Rattle.gen1_machine.specs.Counter.{counter_by, counter}
use Rattle.gen1_machine.specs.HitEffects.{set_planned, plan_two_more, plan_hits, recoil, drain_by, drain, start_rage, explode, hit_effect}
use Rattle.gen1_machine.specs.ManyHits.{crash, missed_move, note_effectiveness, note_critical, note_first_hit, count_hit, build_rage, hit_once, hit_again, note_hit_count, other_hits, hits}
use Rattle.gen1_machine.specs.Action.{set_going_on, see_if_going_on, gate_or_held, spend_pp, use_move, prelude, lead_up, usual_damage, damage_of, strike, carry_out, action_parts, keep_accuracy, begin, resume, act}
use Rattle.gen1_machine.specs.SwitchingIn.{with_sent_out, send_out, send_if_chosen, replace, start}
use Rattle.gen1_machine.specs.TurnOrder.{toss, in_order_of_speed, in_order_of_rank, in_order}
use Rattle.gen1_machine.specs.Turn.{do_part, end_spent_trapping, end_turn, do_parts, set_picked, both_pick, one_picks, play_turn, turn}
use Rattle.gen1_machine.specs.Falls.{faint_if_fallen, faint_in_order, the_fallen_faint, ask_nothing, battle_ends, end_if_decided, ask_for_switches, ask_for_moves, settle, close}
use Rattle.gen1_machine.specs.OfferedChoices.{offered}
use Rattle.gen1_machine.specs.Step.{update_for, close_update, update, answered, step_by, step, step_before, step_two, run_by}
use Rattle.gen1_machine.specs.View.{on_named, on_active_shown, sees, sees_all}
use Rattle.gen1_machine.specs.Room.{after, reply_to, room_of, accepted_pairs, course_of, replies_of}
use Rattle.gen1_machine.specs.Layout.{bytes_of}
use Rattle.gen1_machine.specs.Laws.{leads_to, sum_below, IsShare, HasProbability}

unfoldable pub computing : Bool
unfolding digits type_rows species_rows species_row move_rows move_row name_at place_of species_names move_names species_name move_name species_named move_named byte_at first_within first root_from root with_bide with_bide_storing without_bide with_thrash with_thrash_one_less without_thrash with_trapping with_trapping_one_less without_trapping with_charging without_charging with_invulnerability without_invulnerability with_recharge without_recharge with_rage broken_off with_flinch without_flinch with_confusion with_confusion_one_less without_confusion with_mist with_focus_energy with_light_screen with_reflect with_substitute with_substitute_hurt without_substitute with_seed without_seed with_bad_poison with_worse_poison with_disabled with_disable_one_less without_disable after_haze changed_active changed_conditions changed_member with_last_damage with_outcome with_requests with_next_turn with_status hurt_by healed_by fallen with_sleep_one_less with_pp_spent with_types_of with_current_move with_picked_move with_kept_accuracy at_new_stage recomputed_at with_penalty_of stay unless_stopped ◌▸◌ choose given stop draw draw_until on_field note told on_active on_conditions on_member set_last_damage starts lasts ends on_action set_missed fault fail fails_if lose_hp gain_hp inflict cure set_critical critical_by roll_critical varied_by vary set_through_types damage_from roll_damage miss set_tested hits_below test_by hit_test hit_or_miss note_miss must_hit set_broke land_on_substitute land_on_hp land_by land_damage land land_on_foes_substitute hurt_itself_by hurt_itself cant wake sleep_on sleep_test frozen_test trapped_test flinch_test recharge_test disable_count may_hurt_itself confusion_test disabled_test may_be_paralysed paralysis_test gate_of_status gate_of_turn gate_of_move gate worsen suffer drained_by suffer_seed suffer_status residual note_boost note_unboost take_penalty_again shift_to raise_from lower_from raise_stage lower_stage sleep_for fall_asleep sleep_freely freeze_freely sleep_only_one freeze_only_one sleeps_under freezes_under confused_by confuse confuse_foe take_types convert set_mist set_focus_energy set_light_screen set_reflect set_screen with_levelled_stats clear_side cure_kind set_skips haze_cures haze rest_up recover heal poison_foe paralyse_foe seed_foe pay_for_substitute make_substitute splash early_effect ready_to_sleep put_to_sleep lower_foes_stat bide_for start_bide late_effect happens_below by_chance thaw may_inflict may_poison may_confuse flinch kept_away_effect disable_for disable_slot disable must_recharge side_effect count_again count_by_draw draw_count trap_for trap thrash_less thrash_for thrash_about set_letting_go let_energy_go store_energy bide_on bide_goes_on make_current begin_charge end_charge charge psywave deal_fixed fixed_damage deal_everything knock_out_by_type knock_out counter_by counter set_planned plan_two_more plan_hits recoil drain_by drain start_rage explode hit_effect crash missed_move note_effectiveness note_critical note_first_hit count_hit build_rage hit_once hit_again note_hit_count other_hits hits set_going_on see_if_going_on gate_or_held spend_pp use_move prelude lead_up usual_damage damage_of strike carry_out action_parts keep_accuracy begin resume act with_sent_out send_out send_if_chosen replace start toss in_order_of_speed in_order_of_rank in_order do_part end_spent_trapping end_turn do_parts set_picked both_pick one_picks play_turn turn faint_if_fallen faint_in_order the_fallen_faint ask_nothing battle_ends end_if_decided ask_for_switches ask_for_moves settle close offered update_for close_update update answered step_by step step_before step_two run_by on_named on_active_shown sees sees_all after reply_to room_of accepted_pairs course_of replies_of bytes_of leads_to sum_below IsShare HasProbability
computing = true
