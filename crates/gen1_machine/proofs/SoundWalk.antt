-- The phases of an action that touch nothing that the current move explains keep a valid field. tools/gen writes this
-- file, with the lemmas of sound_lemmas.txt.
use Rattle.gen1_machine.specs.Action.{damage_of, gate_or_held, see_if_going_on, set_going_on, usual_damage}
use Rattle.gen1_machine.specs.Charging.{end_charge}
use Rattle.gen1_machine.specs.Conditions.{with_confusion_one_less, with_disable_one_less, ActiveConditions}
use Rattle.gen1_machine.specs.Counter.{counter, counter_by}
use Rattle.gen1_machine.specs.CriticalHits.{critical_by, roll_critical, set_critical}
use Rattle.gen1_machine.specs.Damage.{damage_from, roll_damage, set_through_types, varied_by, vary, DamageNumbers}
use Rattle.gen1_machine.specs.EarlyEffects.{clear_side, confuse, confuse_foe, confused_by, convert, cure_kind, early_effect, haze, haze_cures, heal, make_substitute, paralyse_foe, pay_for_substitute, poison_foe, recover, rest_up, seed_foe, set_focus_energy, set_light_screen, set_mist, set_reflect, set_screen, set_skips, splash, take_types}
use Rattle.gen1_machine.specs.FixedDamage.{deal_everything, deal_fixed, fixed_damage, knock_out, knock_out_by_type, psywave}
use Rattle.gen1_machine.specs.Gate.{cant, confusion_test, disable_count, disabled_test, flinch_test, frozen_test, gate, gate_of_move, gate_of_status, gate_of_turn, may_be_paralysed, may_hurt_itself, paralysis_test, recharge_test, sleep_on, sleep_test, trapped_test, wake}
use Rattle.gen1_machine.specs.GoingOn.{count_again, count_by_draw, draw_count}
use Rattle.gen1_machine.specs.HitEffects.{drain, drain_by, explode, plan_hits, plan_two_more, recoil, set_planned}
use Rattle.gen1_machine.specs.HitOnItself.{hurt_itself, hurt_itself_by, land_on_foes_substitute}
use Rattle.gen1_machine.specs.HitTest.{hit_or_miss, hit_test, hits_below, miss, must_hit, note_miss, set_tested, test_by}
use Rattle.gen1_machine.specs.Landing.{land, land_by, land_damage, land_on_hp, land_on_substitute, set_broke}
use Rattle.gen1_machine.specs.LateEffects.{lower_foes_stat, put_to_sleep, ready_to_sleep}
use Rattle.gen1_machine.specs.ManyHits.{build_rage, count_hit, crash, hits, missed_move, note_critical, note_effectiveness, note_first_hit, note_hit_count}
use Rattle.gen1_machine.specs.Moves.{Move}
use Rattle.gen1_machine.specs.Progress.{cure, fail, fails_if, fault, gain_hp, given, inflict, lasts, lose_hp, starts, Action, Phase, Progress}
use Rattle.gen1_machine.specs.ResidualDamage.{drained_by, residual, suffer, suffer_seed, suffer_status, worsen}
use Rattle.gen1_machine.specs.Ruling.{fall_asleep, freeze_freely, freeze_only_one, freezes_under, is_sleep_count, ruling_of, sleep_for, sleep_freely, sleep_only_one, sleeps_under, Ruling}
use Rattle.gen1_machine.specs.SideEffects.{by_chance, disable, disable_for, disable_slot, flinch, happens_below, kept_away_effect, may_confuse, may_inflict, may_poison, names_slot, thaw}
use Rattle.gen1_machine.specs.Sides.{other}
use Rattle.gen1_machine.specs.StageShift.{lower_from, lower_stage, note_boost, note_unboost, raise_from, raise_stage, shift_to, take_penalty_again}
use Rattle.gen1_machine.specs.State.{changed_active, changed_conditions, changed_member, conditions_in, member_in, with_last_damage, Active, Field, Terms}
use Rattle.gen1_machine.specs.Valid.{IsCount, IsStatus, OnlyWith}
use Rattle.gen1_machine.specs.declared.event.CantReason.{CantReason}
use Rattle.gen1_machine.specs.declared.event.DamageSource.{DamageSource}
use Rattle.gen1_machine.specs.declared.event.Kind.{Kind}
use Rattle.gen1_machine.specs.declared.side.DisabledSlot.{DisabledSlot}
use Rattle.gen1_machine.specs.declared.side.Pick.{Pick}
use Rattle.gen1_machine.specs.declared.side.Pick.TheVariants.{Held}
use Rattle.gen1_machine.specs.declared.side.Side.{Side}
use Rattle.gen1_rolls.specs.Streams.{low_bits, Stream}
use Rattle.gen1_stats.specs.Members.{IsBetween, Member}
use Rattle.gen1_stats.specs.declared.member.KnownMove.{KnownMove}
use Rattle.gen1_stats.specs.declared.member.Status.{Status}
use Rattle.gen1_stats.specs.declared.member.Status.TheVariants.{Asleep, Burned, Poisoned}
use Rattle.gen1_tables.specs.declared.effect.Effect.{Effect}
use Rattle.gen1_tables.specs.declared.effect.Stat.{Stat}
use Rattle.std.proofs.Common.{arith, refl, ◌<◌, ◌≡◌, ◌≤◌}
use Rattle.std.specs.Prelude.{false, length, true, Bool, List, None, Option, Some, ℕ}
use Rattle.gen1_tables.specs.declared.effect.Effect.TheVariants as effects
use Rattle.std.proofs.lemmas.Bool.{false≢true, ltb-true}
use Rattle.gen1_machine.proofs.Keeps.{choose-keeps, draw-keeps, ends-keeps, given-keeps, keeps_rules, on_action-keeps, on_active-keeps, on_conditions-keeps, on_field-keeps, set_last_damage-keeps, set_missed-keeps, starts-keeps, stay-keeps, stop-keeps, then-keeps, told-keeps, Keeps, KeepsRuling, Spares, SparesAction, keeps-leads, stay-leads, then-leads, Leads}
use Rattle.gen1_machine.proofs.Tame.{broken_off-tame, recomputed-tame, stage-tame, status-tame, tame_rules, with_confusion-tame, with_substitute-tame, without_confusion-tame, without_disable-tame, without_flinch-tame, without_invulnerability-tame, TameActive, TameConditions, TameMember}
use Rattle.gen1_machine.proofs.Sound.{choose-leads_sees, choose-sees, draw_until-sees, given-sees, party-valid, told-leads, Sound, base-small, before_types-small, confusion-less, disable-less, disabled-valid, draw-leads, draw_until-leads, fails_if-plain, leads-from, named, on_conditions-leads, out-valid, risen-small, stage-small, typed-small, varied-small, IsMove}

one-least : 1 ≤ 1
one-least = omega arith

module _ {terms : Terms} {P : Field → Action → Stream → Type 0} (sound : Sound terms P) where
  pub conditions-spared : (s : Side) (change : ActiveConditions → ActiveConditions) → TameConditions change → Spares P (changed_conditions s change)
  conditions-spared s change tame = record { spared = λ f a w h. sound.conditions s change f a w h (λ e k. tame.valid e _ _ k) }

  member-spared : (s : Side) (change : Member → Member) → TameMember terms.rules change → Spares P (changed_member s change)
  member-spared = sound.member

  active-spared : (s : Side) (change : Active → Active) → TameActive change → Spares P (changed_active s change)
  active-spared = sound.active

  zero-spared : Spares P (with_last_damage 0)
  zero-spared = sound.damage 0 (omega arith)

  pub missed-spared : (missed : Bool) → SparesAction P (λ a. record a { missed = missed })
  missed-spared missed = sound.action _ (record { tested = λ a h. h; letting_go = λ a. refl })

  ruleset sound_rules = (keeps_rules, tame_rules, member-spared, active-spared, conditions-spared, zero-spared, missed-spared, one-least)

  pub fault-sound : (n : ℕ) → IsBetween 1 2 n → Keeps P (fault n)
  unfolding fault
  fault-sound n l = then-keeps (on_field-keeps (sound.outcome n l)) stop-keeps

  pub fail-sound : (s : Side) → Keeps P (fail s)
  unfolding fail
  fail-sound s = search (sound_rules) depth 14

  pub fails_if-sound : (s : Side) (test : Progress → Bool) → Keeps P (fails_if s test)
  unfolding fails_if
  fails_if-sound s test = search (sound_rules, fail-sound) depth 14

  pub lose_hp-sound : (s : Side) (source : DamageSource) (amount : ℕ) → Keeps P (lose_hp s source amount)
  unfolding lose_hp
  lose_hp-sound s source amount = search (sound_rules) depth 14

  pub gain_hp-sound : (s : Side) (amount : ℕ) → Keeps P (gain_hp s amount)
  unfolding gain_hp
  gain_hp-sound s amount = search (sound_rules) depth 14

  pub inflict-sound : (s : Side) (status : Status) (kind : Kind) → IsStatus terms.rules status → Keeps P (inflict s status kind)
  unfolding inflict
  inflict-sound s status kind fits = search (sound_rules) depth 14

  pub cure-sound : (s : Side) (kind : Kind) → Keeps P (cure s kind)
  unfolding cure
  cure-sound s kind = search (sound_rules) depth 14

  pub set_critical-sound : (critical : Bool) → Keeps P (set_critical critical)
  unfolding set_critical
  set_critical-sound critical = on_action-keeps (sound.action _ (record { tested = λ a h. h; letting_go = λ a. refl }))

  pub critical_by-sound : (s : Side) (move : Move) (b : ℕ) → IsMove move → Keeps P (critical_by s move b)
  unfolding critical_by
  critical_by-sound s move b is = search (sound_rules, set_critical-sound) depth 14

  pub roll_critical-sound : (s : Side) (move : Move) → IsMove move → Keeps P (roll_critical s move)
  unfolding roll_critical
  roll_critical-sound s move is = search (sound_rules, critical_by-sound) depth 14

  pub varied_by-sound : (d b : ℕ) → d ≤ 65535 → b < 256 → Keeps P (varied_by d b)
  unfolding varied_by
  varied_by-sound d b l byte = set_last_damage-keeps _ (sound.damage _ (varied-small d b l byte))

  pub vary-sound : (d : ℕ) → d ≤ 65535 → Keeps P (vary d)
  unfolding vary
  vary-sound d l = choose-keeps _ (set_last_damage-keeps d (sound.damage d l)) (draw_until-sees sound _ (λ b byte e. varied_by-sound d b l byte))

  pub set_through_types-sound : Keeps P set_through_types
  unfolding set_through_types
  set_through_types-sound = on_action-keeps (sound.action _ (record { tested = λ a h. h; letting_go = λ a. refl }))

  pub damage_from-sound : (n : DamageNumbers) (o : Option ℕ) → IsCount 0 999 o → Keeps P (damage_from n o)
  unfolding damage_from
  damage_from-sound n None l = fault-sound 1 (omega arith, omega arith)
  damage_from-sound n (Some d) l =
      then-keeps set_through_types-sound (then-keeps (set_missed-keeps _ (missed-spared _)) (vary-sound _ (typed-small n d l.1)))

  pub roll_damage-sound : (s : Side) (move : Move) → IsMove move → Keeps P (roll_damage s move)
  unfolding roll_damage
  roll_damage-sound s move is = given-keeps _ (λ n. damage_from-sound n _ (before_types-small n))

  pub miss-sound : (s : Side) → Keeps P (miss s)
  unfolding miss
  miss-sound s = search (sound_rules) depth 14

  pub set_tested-sound : (byte : ℕ) → byte ≤ 255 → Keeps P (set_tested byte)
  unfolding set_tested
  set_tested-sound byte l = on_action-keeps (sound.action _ (record { tested = λ a h. (omega arith, l); letting_go = λ a. refl }))

  pub hits_below-sound : (s : Side) (byte : ℕ) (b : ℕ) → Keeps P (hits_below s byte b)
  unfolding hits_below
  hits_below-sound s byte b = search (sound_rules, miss-sound) depth 14

  pub test_by-sound : (s : Side) (base : ℕ) (o : Option Bool) → base ≤ 255 → Keeps P (test_by s base o)
  unfolding test_by
  test_by-sound s base (Some true) l = set_tested-sound base l
  test_by-sound s base (Some false) l = then-keeps (set_tested-sound base l) (miss-sound s)
  test_by-sound s base None l = given-sees _ (λ byte. byte ≤ 255) (λ p h. omega arith)
      (λ byte k. then-keeps (set_tested-sound byte k) (draw-keeps (λ b. hits_below-sound s byte b)))

  pub hit_test-sound : (s : Side) (move : Move) (base : ℕ) → base ≤ 255 → Keeps P (hit_test s move base)
  unfolding hit_test
  hit_test-sound s move base l = given-keeps _ (λ o. test_by-sound s base o l)

  pub hit_or_miss-sound : (s : Side) (move : Move) → IsMove move → Keeps P (hit_or_miss s move)
  unfolding hit_or_miss
  hit_or_miss-sound s move is = given-sees _ (λ base. base ≤ 255) (λ p h. base-small s move p is (party-valid s p.field (sound.field _ _ _ h)).active.kept_accuracy)
      (λ base l. hit_test-sound s move base l)

  pub note_miss-sound : (s : Side) (move : Move) → IsMove move → Keeps P (note_miss s move)
  unfolding note_miss
  note_miss-sound s move is = search (sound_rules) depth 14

  pub must_hit-sound : (s : Side) (move : Move) → IsMove move → Keeps P (must_hit s move)
  unfolding must_hit
  must_hit-sound s move is = search (sound_rules, hit_or_miss-sound, note_miss-sound) depth 14

  pub set_broke-sound : Keeps P set_broke
  unfolding set_broke
  set_broke-sound = on_action-keeps (sound.action _ (record { tested = λ a h. h; letting_go = λ a. refl }))

  pub land_on_substitute-sound : (target : Side) (damage : ℕ) (hp : ℕ) → Keeps P (land_on_substitute target damage hp)
  unfolding land_on_substitute
  land_on_substitute-sound target damage hp = search (sound_rules, set_broke-sound) depth 14

  pub land_on_hp-sound : (target : Side) (source : DamageSource) (damage : ℕ) → Keeps P (land_on_hp target source damage)
  unfolding land_on_hp
  land_on_hp-sound target source damage = given-sees _ (λ m. m.hp ≤ 65535)
      (λ p h. let m = out-valid target p.field (sound.field _ _ _ h) in omega (arith, m.numbers.hp, m.numbers.max))
      (λ m l. then-keeps (set_last_damage-keeps _ (sound.damage _ (omega (arith, l)))) (lose_hp-sound target source damage))

  pub land_by-sound : (target : Side) (damage : ℕ) (x : Option ℕ) → Keeps P (land_by target damage x)
  unfolding land_by
  land_by-sound target damage (Some hp) = search (sound_rules, land_on_substitute-sound) depth 14
  land_by-sound target damage None = search (sound_rules, land_on_hp-sound) depth 14

  pub land_damage-sound : (target : Side) (damage : ℕ) → Keeps P (land_damage target damage)
  unfolding land_damage
  land_damage-sound target damage = search (sound_rules, land_by-sound) depth 14

  pub land-sound : (target : Side) → Keeps P (land target)
  unfolding land
  land-sound target = search (sound_rules, land_damage-sound) depth 14

  pub land_on_foes_substitute-sound : (s : Side) (damage : ℕ) (x : Option ℕ) → Keeps P (land_on_foes_substitute s damage x)
  unfolding land_on_foes_substitute
  land_on_foes_substitute-sound s damage None = search (sound_rules) depth 14
  land_on_foes_substitute-sound s damage (Some hp) = search (sound_rules, land_on_substitute-sound) depth 14

  pub hurt_itself_by-sound : (s : Side) (o : Option ℕ) → IsCount 0 999 o → Keeps P (hurt_itself_by s o)
  unfolding hurt_itself_by
  hurt_itself_by-sound s None l = fault-sound 1 (omega arith, omega arith)
  hurt_itself_by-sound s (Some damage) l = then-keeps (set_last_damage-keeps _ (sound.damage _ (omega (arith, l.1))))
      (choose-keeps _ (given-keeps _ (λ o. land_on_foes_substitute-sound s damage o)) (land_on_hp-sound s _ damage))

  pub hurt_itself-sound : (s : Side) → Keeps P (hurt_itself s)
  unfolding hurt_itself
  hurt_itself-sound s =
      then-keeps (on_conditions-keeps s _ (conditions-spared s _ broken_off-tame))
      (then-keeps (on_conditions-keeps s _ (conditions-spared s _ without_flinch-tame))
      (then-keeps (on_conditions-keeps s _ (conditions-spared s _ without_invulnerability-tame))
      (then-keeps (given-keeps _ (λ n. hurt_itself_by-sound s _ (before_types-small n))) stop-keeps)))

  pub cant-sound : (s : Side) (why : CantReason) → Keeps P (cant s why)
  unfolding cant
  cant-sound s why = search (sound_rules) depth 14

  pub wake-sound : (s : Side) → Keeps P (wake s)
  unfolding wake
  wake-sound s = search (sound_rules) depth 14

  pub sleep_on-sound : (s : Side) → Keeps P (sleep_on s)
  unfolding sleep_on
  sleep_on-sound s = search (sound_rules, cant-sound) depth 14

  pub sleep_test-sound : (s : Side) (x : Status) → Keeps P (sleep_test s x)
  unfolding sleep_test
  sleep_test-sound s (Asleep turns marked) = search (sound_rules, wake-sound, sleep_on-sound) depth 14
  sleep_test-sound s _ = search (sound_rules) depth 14

  pub frozen_test-sound : (s : Side) → Keeps P (frozen_test s)
  unfolding frozen_test
  frozen_test-sound s = search (sound_rules, cant-sound) depth 14

  pub trapped_test-sound : (s : Side) → Keeps P (trapped_test s)
  unfolding trapped_test
  trapped_test-sound s = search (sound_rules, cant-sound) depth 14

  pub flinch_test-sound : (s : Side) → Keeps P (flinch_test s)
  unfolding flinch_test
  flinch_test-sound s = search (sound_rules, cant-sound) depth 14

  pub recharge_test-sound : (s : Side) → Keeps P (recharge_test s)
  unfolding recharge_test
  recharge_test-sound s = search (sound_rules, cant-sound) depth 14

  pub disable_count-sound : (s : Side) (o : Option DisabledSlot)
      → Leads (λ f a w. P f a w × ((conditions_in s f).disabled ≡ o)) P (disable_count s o)
  unfolding disable_count
  disable_count-sound s None = stay-leads (λ f a w h. h.0)
  disable_count-sound s (Some d) = choose-leads_sees _
      (λ e. leads-from (λ f a w h. h.0) (ends-keeps s _ _ (conditions-spared s _ without_disable-tame)))
      (λ e. on_conditions-leads s with_disable_one_less (λ f a w h. sound.conditions s with_disable_one_less f a w h.0 (λ x k. disable-less x _ (conditions_in s f) d h.1 e k)))

  pub may_hurt_itself-sound : (s : Side) (b : ℕ) → Keeps P (may_hurt_itself s b)
  unfolding may_hurt_itself
  may_hurt_itself-sound s b = choose-keeps _ (hurt_itself-sound s) stay-keeps

  pub confusion_test-sound : (s : Side) (o : Option ℕ)
      → Leads (λ f a w. P f a w × ((conditions_in s f).confused ≡ o)) P (confusion_test s o)
  unfolding confusion_test lasts
  confusion_test-sound s None = stay-leads (λ f a w h. h.0)
  confusion_test-sound s (Some turns) = choose-leads_sees _
      (λ e. leads-from (λ f a w h. h.0) (ends-keeps s _ _ (conditions-spared s _ without_confusion-tame)))
      (λ e. then-leads
      (told-leads _ _ (λ f a w h. sound.conditions s with_confusion_one_less f a w h.0 (λ x k. confusion-less x _ (conditions_in s f) turns h.1 e k)))
      (keeps-leads (draw-keeps (λ b. may_hurt_itself-sound s b))) (λ f a w h. h))

  pub disabled_test-sound : (s : Side) (pick : Pick) → Keeps P (disabled_test s pick)
  unfolding disabled_test
  disabled_test-sound s pick = search (sound_rules, cant-sound) depth 14

  pub may_be_paralysed-sound : (s : Side) (b : ℕ) → Keeps P (may_be_paralysed s b)
  unfolding may_be_paralysed
  may_be_paralysed-sound s b = search (sound_rules, cant-sound) depth 14

  pub paralysis_test-sound : (s : Side) → Keeps P (paralysis_test s)
  unfolding paralysis_test
  paralysis_test-sound s = search (sound_rules, may_be_paralysed-sound) depth 14

  pub gate_of_status-sound : (s : Side) → Keeps P (gate_of_status s)
  unfolding gate_of_status
  gate_of_status-sound s = search (sound_rules, sleep_test-sound, frozen_test-sound, trapped_test-sound) depth 14

  pub gate_of_turn-sound : (s : Side) → Keeps P (gate_of_turn s)
  unfolding gate_of_turn given
  gate_of_turn-sound s = then-keeps (flinch_test-sound s) (then-keeps (recharge_test-sound s)
      (record { kept = λ p h. (disable_count-sound s (conditions_in s p.field).disabled).led p (h, refl) }))

  pub gate_of_move-sound : (s : Side) (pick : Pick) → Keeps P (gate_of_move s pick)
  unfolding gate_of_move given
  gate_of_move-sound s pick = then-keeps
      (record { kept = λ p h. (confusion_test-sound s (conditions_in s p.field).confused).led p (h, refl) })
      (then-keeps (disabled_test-sound s pick) (then-keeps (paralysis_test-sound s) (choose-keeps _ stop-keeps stay-keeps)))

  pub gate-sound : (s : Side) (pick : Pick) → Keeps P (gate s pick)
  unfolding gate
  gate-sound s pick = search (sound_rules, gate_of_status-sound, gate_of_turn-sound, gate_of_move-sound) depth 14

  pub worsen-sound : (s : Side) → Keeps P (worsen s)
  unfolding worsen
  worsen-sound s = search (sound_rules) depth 14

  pub suffer-sound : (s : Side) (source : DamageSource) → Keeps P (suffer s source)
  unfolding suffer
  suffer-sound s source = search (sound_rules, worsen-sound, lose_hp-sound) depth 14

  pub drained_by-sound : (s : Side) (amount : ℕ) → Keeps P (drained_by s amount)
  unfolding drained_by
  drained_by-sound s amount = search (sound_rules, lose_hp-sound, gain_hp-sound) depth 14

  pub suffer_seed-sound : (s : Side) → Keeps P (suffer_seed s)
  unfolding suffer_seed
  suffer_seed-sound s = search (sound_rules, worsen-sound, drained_by-sound) depth 14

  pub suffer_status-sound : (s : Side) (x : Status) → Keeps P (suffer_status s x)
  unfolding suffer_status
  suffer_status-sound s Poisoned = search (sound_rules, suffer-sound) depth 14
  suffer_status-sound s Burned = search (sound_rules, suffer-sound) depth 14
  suffer_status-sound s _ = search (sound_rules) depth 14

  pub residual-sound : (s : Side) → Keeps P (residual s)
  unfolding residual
  residual-sound s = search (sound_rules, suffer_status-sound, suffer_seed-sound) depth 14

  pub note_boost-sound : (s : Side) (stat : Stat) (n : ℕ) → Keeps P (note_boost s stat n)
  unfolding note_boost
  note_boost-sound s stat n = search (sound_rules) depth 14

  pub note_unboost-sound : (s : Side) (stat : Stat) (n : ℕ) → Keeps P (note_unboost s stat n)
  unfolding note_unboost
  note_unboost-sound s stat n = search (sound_rules) depth 14

  pub take_penalty_again-sound : (s : Side) → Keeps P (take_penalty_again s)
  unfolding take_penalty_again
  take_penalty_again-sound s = search (sound_rules) depth 14

  pub shift_to-sound : (user target : Side) (stat : Stat) (n : ℕ) → n ≤ 12 → Keeps P (shift_to user target stat n)
  unfolding shift_to
  shift_to-sound user target stat n l = then-keeps (on_active-keeps target _ (active-spared target _ (recomputed-tame stat n l))) (take_penalty_again-sound _)

  pub raise_from-sound : (user target : Side) (stat : Stat) (by : ℕ) (failing : Phase) (n : ℕ) (full : Bool) → Keeps P failing
      → Keeps P (raise_from user target stat by failing n full)
  unfolding raise_from
  raise_from-sound user target stat by failing n full k = choose-keeps _ k (choose-keeps _
      (then-keeps (on_active-keeps target _ (active-spared target _ (stage-tame stat _ (omega arith)))) (then-keeps (note_boost-sound _ _ _) k))
      (then-keeps (shift_to-sound user target stat _ (omega arith)) (note_boost-sound _ _ _)))

  pub lower_from-sound : (user target : Side) (stat : Stat) (by : ℕ) (failing : Phase) (n : ℕ) (least : Bool) → 1 ≤ by → n ≤ 12 → Keeps P failing
      → Keeps P (lower_from user target stat by failing n least)
  unfolding lower_from
  lower_from-sound user target stat by failing n least some l k = choose-sees _ (λ e. k) (λ e. choose-keeps _
      (then-keeps (on_active-keeps target _ (active-spared target _ (stage-tame stat _ (risen-small by n some l e)))) (then-keeps (note_unboost-sound _ _ _) k))
      (then-keeps (shift_to-sound user target stat _ (omega (arith, l))) (note_unboost-sound _ _ _)))

  pub raise_stage-sound : (user target : Side) (stat : Stat) (by : ℕ) (failing : Phase) → Keeps P failing → Keeps P (raise_stage user target stat by failing)
  unfolding raise_stage
  raise_stage-sound user target stat by failing k = given-keeps _ (λ n. given-keeps _ (λ full. raise_from-sound user target stat by failing n full k))

  pub lower_stage-sound : (user target : Side) (stat : Stat) (by : ℕ) (failing : Phase) → 1 ≤ by → Keeps P failing → Keeps P (lower_stage user target stat by failing)
  unfolding lower_stage
  lower_stage-sound user target stat by failing some k = given-sees _ (λ n. n ≤ 12)
      (λ p h. stage-small stat _ (party-valid target p.field (sound.field _ _ _ h)).active.stages)
      (λ n l. given-keeps _ (λ least. lower_from-sound user target stat by failing n least some l k))

  pub sleep_for-sound : (marked : Bool) (s : Side) (b : ℕ) → OnlyWith terms.rules.sleep_clause marked → is_sleep_count b ≡ true → Keeps P (sleep_for marked s b)
  unfolding sleep_for
  sleep_for-sound marked s b tied e = inflict-sound s (Asleep (low_bits 3 b) marked) _ ((ltb-true 0 (low_bits 3 b) e, omega arith), tied)

  pub fall_asleep-sound : (marked : Bool) (s : Side) → OnlyWith terms.rules.sleep_clause marked → Keeps P (fall_asleep marked s)
  unfolding fall_asleep
  fall_asleep-sound marked s tied = draw_until-sees sound _ (λ b byte e. sleep_for-sound marked s b tied e)

  pub sleep_freely-sound : (user : Side) → Keeps P (sleep_freely user)
  unfolding sleep_freely
  sleep_freely-sound user = fall_asleep-sound false (other user) (λ e. absurd (false≢true e))

  pub freeze_freely-sound : (user : Side) → Keeps P (freeze_freely user)
  unfolding freeze_freely
  freeze_freely-sound user = search (sound_rules, inflict-sound) depth 14

  pub sleep_only_one-sound : (user : Side) → terms.rules.sleep_clause ≡ true → Keeps P (sleep_only_one user)
  unfolding sleep_only_one
  sleep_only_one-sound user holds = then-keeps (fails_if-sound user _) (fall_asleep-sound true (other user) (λ e. holds))

  pub freeze_only_one-sound : (user : Side) → Keeps P (freeze_only_one user)
  unfolding freeze_only_one
  freeze_only_one-sound user = search (sound_rules, freeze_freely-sound) depth 14

  pub sleeps_under-sound : (clause : Bool) (user : Side) → (clause ≡ true → terms.rules.sleep_clause ≡ true) → Keeps P (sleeps_under clause user)
  unfolding sleeps_under
  sleeps_under-sound true user holds = sleep_only_one-sound user (holds refl)
  sleeps_under-sound false user holds = sleep_freely-sound user

  pub freezes_under-sound : (x : Bool) (user : Side) → Keeps P (freezes_under x user)
  unfolding freezes_under
  freezes_under-sound true user = search (sound_rules, freeze_only_one-sound) depth 14
  freezes_under-sound false user = search (sound_rules, freeze_freely-sound) depth 14

  pub confused_by-sound : (s : Side) (b : ℕ) → Keeps P (confused_by s b)
  unfolding confused_by
  confused_by-sound s b = starts-keeps s _ _ (conditions-spared s _ (with_confusion-tame _ (omega arith, omega arith)))

  pub confuse-sound : (s : Side) → Keeps P (confuse s)
  unfolding confuse
  confuse-sound s = search (sound_rules, confused_by-sound) depth 14

  pub confuse_foe-sound : (s : Side) (move : Move) → IsMove move → Keeps P (confuse_foe s move)
  unfolding confuse_foe
  confuse_foe-sound s move is = search (sound_rules, fails_if-sound, must_hit-sound, confuse-sound) depth 14

  pub take_types-sound : (s : Side) (foe : Active) → Keeps P (take_types s foe)
  unfolding take_types
  take_types-sound s foe = search (sound_rules) depth 14

  pub convert-sound : (s : Side) → Keeps P (convert s)
  unfolding convert
  convert-sound s = search (sound_rules, fails_if-sound, take_types-sound) depth 14

  pub set_mist-sound : (s : Side) → Keeps P (set_mist s)
  unfolding set_mist
  set_mist-sound s = search (sound_rules, fails_if-sound) depth 14

  pub set_focus_energy-sound : (s : Side) → Keeps P (set_focus_energy s)
  unfolding set_focus_energy
  set_focus_energy-sound s = search (sound_rules, fails_if-sound) depth 14

  pub set_light_screen-sound : (s : Side) → Keeps P (set_light_screen s)
  unfolding set_light_screen
  set_light_screen-sound s = search (sound_rules, fails_if-sound) depth 14

  pub set_reflect-sound : (s : Side) → Keeps P (set_reflect s)
  unfolding set_reflect
  set_reflect-sound s = search (sound_rules, fails_if-sound) depth 14

  pub set_screen-sound : (s : Side) (move : Move) → IsMove move → Keeps P (set_screen s move)
  unfolding set_screen
  set_screen-sound s move is = search (sound_rules, set_light_screen-sound, set_reflect-sound) depth 14

  pub clear_side-sound : (s : Side) → Keeps P (clear_side s)
  unfolding clear_side
  clear_side-sound s = search (sound_rules) depth 14

  pub cure_kind-sound : (s : Side) (x : Option Kind) → Keeps P (cure_kind s x)
  unfolding cure_kind
  cure_kind-sound s None = search (sound_rules) depth 14
  cure_kind-sound s (Some kind) = search (sound_rules, cure-sound) depth 14

  pub set_skips-sound : (skips : Bool) → Keeps P (set_skips skips)
  unfolding set_skips
  set_skips-sound skips = record { kept = λ p h. h }

  pub haze_cures-sound : (s : Side) (status : Status) → Keeps P (haze_cures s status)
  unfolding haze_cures
  haze_cures-sound s status = search (sound_rules, set_skips-sound, cure_kind-sound) depth 14

  pub haze-sound : (s : Side) → Keeps P (haze s)
  unfolding haze
  haze-sound s = search (sound_rules, clear_side-sound, haze_cures-sound) depth 14

  pub rest_up-sound : (s : Side) → Keeps P (rest_up s)
  unfolding rest_up
  rest_up-sound s = then-keeps (told-keeps _ (sound.member s _ (status-tame (Asleep 2 false) ((omega arith, omega arith), λ e. absurd (false≢true e)))))
      (given-keeps _ (λ m. gain_hp-sound s m.max))

  pub recover-sound : (s : Side) → Keeps P (recover s)
  unfolding recover
  recover-sound s = search (sound_rules, gain_hp-sound) depth 14

  pub heal-sound : (s : Side) (move : Move) → IsMove move → Keeps P (heal s move)
  unfolding heal
  heal-sound s move is = search (sound_rules, fails_if-sound, rest_up-sound, recover-sound) depth 14

  pub poison_foe-sound : (s : Side) (move : Move) → IsMove move → Keeps P (poison_foe s move)
  unfolding poison_foe
  poison_foe-sound s move is = search (sound_rules, fails_if-sound, must_hit-sound, inflict-sound) depth 14

  pub paralyse_foe-sound : (s : Side) (move : Move) → IsMove move → Keeps P (paralyse_foe s move)
  unfolding paralyse_foe
  paralyse_foe-sound s move is = search (sound_rules, fails_if-sound, must_hit-sound, inflict-sound) depth 14

  pub seed_foe-sound : (s : Side) (move : Move) → IsMove move → Keeps P (seed_foe s move)
  unfolding seed_foe
  seed_foe-sound s move is = search (sound_rules, must_hit-sound, fails_if-sound) depth 14

  pub pay_for_substitute-sound : (s : Side) (cost : ℕ) → cost ≤ 249 → Keeps P (pay_for_substitute s cost)
  unfolding pay_for_substitute
  pay_for_substitute-sound s cost l = then-keeps (starts-keeps s _ _ (conditions-spared s _ (with_substitute-tame cost l))) (lose_hp-sound s _ cost)

  pub make_substitute-sound : (s : Side) → Keeps P (make_substitute s)
  unfolding make_substitute
  make_substitute-sound s = then-keeps (fails_if-sound s _) (then-keeps (fails_if-sound s _) (given-sees _ (λ cost. cost ≤ 249)
      (λ p h. omega (arith, (out-valid s p.field (sound.field _ _ _ h)).numbers.max)) (λ cost l. pay_for_substitute-sound s cost l)))

  pub splash-sound : (s : Side) → Keeps P (splash s)
  unfolding splash
  splash-sound s = search (sound_rules) depth 14

  pub early_effect-sound : (s : Side) (move : Move) (effect : Effect) → IsMove move → Keeps P (early_effect s move effect)
  unfolding early_effect
  early_effect-sound s move effects.Conversion is = search (sound_rules, convert-sound) depth 14
  early_effect-sound s move effects.Mist is = search (sound_rules, set_mist-sound) depth 14
  early_effect-sound s move effects.FocusEnergy is = search (sound_rules, set_focus_energy-sound) depth 14
  early_effect-sound s move effects.Screen is = search (sound_rules, set_screen-sound) depth 14
  early_effect-sound s move effects.Haze is = search (sound_rules, haze-sound) depth 14
  early_effect-sound s move effects.InflictConfusion is = search (sound_rules, confuse_foe-sound) depth 14
  early_effect-sound s move effects.Heal is = search (sound_rules, heal-sound) depth 14
  early_effect-sound s move effects.InflictPoison is = search (sound_rules, poison_foe-sound) depth 14
  early_effect-sound s move effects.InflictParalysis is = search (sound_rules, paralyse_foe-sound) depth 14
  early_effect-sound s move effects.LeechSeed is = search (sound_rules, seed_foe-sound) depth 14
  early_effect-sound s move effects.Substitute is = search (sound_rules, make_substitute-sound) depth 14
  early_effect-sound s move effects.Splash is = search (sound_rules, splash-sound) depth 14
  early_effect-sound s move _ is = search (sound_rules, fail-sound) depth 14

  pub ready_to_sleep-sound : (s : Side) (move : Move) → IsMove move → Keeps P (ready_to_sleep s move)
  unfolding ready_to_sleep
  ready_to_sleep-sound s move is = search (sound_rules, fails_if-sound, must_hit-sound) depth 14

  pub put_to_sleep-sound : (r : Ruling) (s : Side) (move : Move) → KeepsRuling P r → IsMove move → Keeps P (put_to_sleep r s move)
  unfolding put_to_sleep
  put_to_sleep-sound r s move ruling is = search (sound_rules, ready_to_sleep-sound, ruling.sleeps) depth 14

  pub lower_foes_stat-sound : (s : Side) (move : Move) (stat : Stat) (by : ℕ) → 1 ≤ by → IsMove move → Keeps P (lower_foes_stat s move stat by)
  unfolding lower_foes_stat
  lower_foes_stat-sound s move stat by fits is = search (sound_rules, fails_if-sound, must_hit-sound, lower_stage-sound, fail-sound) depth 14

  pub happens_below-sound : (bound : ℕ) (f : Phase) (b : ℕ) → Keeps P f → Keeps P (happens_below bound f b)
  unfolding happens_below
  happens_below-sound bound f b f-sound = search (sound_rules) depth 14

  pub by_chance-sound : (bound : ℕ) (f : Phase) → Keeps P f → Keeps P (by_chance bound f)
  unfolding by_chance
  by_chance-sound bound f f-sound = search (sound_rules, happens_below-sound) depth 14

  pub thaw-sound : (s : Side) (move : Move) → IsMove move → Keeps P (thaw s move)
  unfolding thaw
  thaw-sound s move is = search (sound_rules, cure-sound) depth 14

  pub may_inflict-sound : (s : Side) (move : Move) (bound : ℕ) (f : Phase) → IsMove move → Keeps P f → Keeps P (may_inflict s move bound f)
  unfolding may_inflict
  may_inflict-sound s move bound f is f-sound = search (sound_rules, thaw-sound, by_chance-sound) depth 14

  pub may_poison-sound : (s : Side) (bound : ℕ) → Keeps P (may_poison s bound)
  unfolding may_poison
  may_poison-sound s bound = search (sound_rules, by_chance-sound, inflict-sound) depth 14

  pub may_confuse-sound : (s : Side) (bound : ℕ) → Keeps P (may_confuse s bound)
  unfolding may_confuse
  may_confuse-sound s bound = search (sound_rules, by_chance-sound, confuse-sound) depth 14

  pub flinch-sound : (s : Side) → Keeps P (flinch s)
  unfolding flinch
  flinch-sound s = search (sound_rules) depth 14

  pub kept_away_effect-sound : (r : Ruling) (s : Side) (move : Move) (effect : Effect) → KeepsRuling P r → IsMove move → Keeps P (kept_away_effect r s move effect)
  unfolding kept_away_effect
  kept_away_effect-sound r s move (effects.PoisonChance n) ruling is = search (sound_rules, may_poison-sound) depth 14
  kept_away_effect-sound r s move effects.Twineedle ruling is = search (sound_rules, may_poison-sound) depth 14
  kept_away_effect-sound r s move (effects.BurnChance n) ruling is = search (sound_rules, may_inflict-sound, inflict-sound) depth 14
  kept_away_effect-sound r s move effects.FreezeChance ruling is = search (sound_rules, may_inflict-sound, ruling.freezes) depth 14
  kept_away_effect-sound r s move (effects.ParalysisChance n) ruling is = search (sound_rules, may_inflict-sound, inflict-sound) depth 14
  kept_away_effect-sound r s move (effects.FlinchChance n) ruling is = search (sound_rules, by_chance-sound, flinch-sound) depth 14
  kept_away_effect-sound r s move (effects.StatDownChance stat) ruling is = search (sound_rules, by_chance-sound, lower_stage-sound) depth 14
  kept_away_effect-sound r s move _ ruling is = search (sound_rules) depth 14

  pub disable_for-sound : (s : Side) (b c : ℕ)
      → Leads (λ f a w. P f a w × (low_bits 2 b < length (member_in s f).moves)) P (disable_for s b c)
  unfolding disable_for starts
  disable_for-sound s b c = told-leads _ _ (λ f a w h. sound.conditions s _ f a w h.0 (λ x k. disabled-valid x _ (conditions_in s f) b c h.1 k))

  pub disable_slot-sound : (s : Side) (moves : List KnownMove) (b : ℕ) → names_slot moves b ≡ true
      → Leads (λ f a w. P f a w × (length (member_in (other s) f).moves ≡ length moves)) P (disable_slot s moves b)
  unfolding disable_slot
  disable_slot-sound s moves b e = then-leads (keeps-leads (fails_if-plain s _))
      (draw-leads (λ c. record { led = λ p h. (disable_for-sound (other s) b c).led p (h.0, rw h.1 (named moves b e)) })) (λ f a w h. h.0)

  pub disable-sound : (s : Side) (move : Move) → IsMove move → Keeps P (disable s move)
  unfolding disable given
  disable-sound s move is = then-keeps (must_hit-sound s move is) (then-keeps (fails_if-sound s _) (record {
    kept = λ p h. (draw_until-leads _ (λ b e. disable_slot-sound s (member_in (other s) p.field).moves b e) (λ f a w k. k.0)).led p (h, refl);
  }))

  pub count_again-sound : (f : ℕ → Phase) (c : ℕ) → ((n : ℕ) → n ≤ 3 → Keeps P (f n)) → Keeps P (count_again f c)
  unfolding count_again
  count_again-sound f c k = k (low_bits 2 c) (omega arith)

  pub count_by_draw-sound : (f : ℕ → Phase) (b : ℕ) → ((n : ℕ) → n ≤ 3 → Keeps P (f n)) → Keeps P (count_by_draw f b)
  unfolding count_by_draw
  count_by_draw-sound f b k = choose-keeps _ (k (low_bits 2 b) (omega arith)) (draw-keeps (λ c. count_again-sound f c k))

  pub draw_count-sound : (f : ℕ → Phase) → ((n : ℕ) → n ≤ 3 → Keeps P (f n)) → Keeps P (draw_count f)
  unfolding draw_count
  draw_count-sound f k = draw-keeps (λ b. count_by_draw-sound f b k)

  pub end_charge-sound : (s : Side) → Keeps P (end_charge s)
  unfolding end_charge
  end_charge-sound s = search (sound_rules) depth 14

  pub psywave-sound : (level : ℕ) → level ≤ 100 → Keeps P (psywave level)
  unfolding psywave
  psywave-sound level l = choose-keeps _ (fault-sound 2 (omega arith, omega arith))
      (draw_until-sees sound _ (λ b byte e. set_last_damage-keeps b (sound.damage b (omega (arith, byte)))))

  pub deal_fixed-sound : (s : Side) (move : ℕ) → Keeps P (deal_fixed s move)
  unfolding deal_fixed
  deal_fixed-sound s move =
      choose-keeps _ (set_last_damage-keeps 20 (sound.damage 20 (omega arith)))
      (choose-keeps _ (set_last_damage-keeps 40 (sound.damage 40 (omega arith)))
      (choose-keeps _ (given-sees _ (λ m. m.level ≤ 100) (λ p h. (out-valid s p.field (sound.field _ _ _ h)).numbers.level.1) (λ m l. psywave-sound m.level l))
      (choose-keeps _ (given-sees _ (λ m. m.hp ≤ 65535)
      (λ p h. let m = out-valid (other s) p.field (sound.field _ _ _ h) in omega (arith, m.numbers.hp, m.numbers.max))
      (λ m l. set_last_damage-keeps _ (sound.damage _ (omega (arith, l)))))
      (given-sees _ (λ m. m.level ≤ 100) (λ p h. (out-valid s p.field (sound.field _ _ _ h)).numbers.level.1) (λ m l. set_last_damage-keeps _ (sound.damage _ (omega (arith, l))))))))

  pub fixed_damage-sound : (s : Side) (move : Move) → IsMove move → Keeps P (fixed_damage s move)
  unfolding fixed_damage
  fixed_damage-sound s move is = search (sound_rules, hit_or_miss-sound, deal_fixed-sound) depth 14

  pub deal_everything-sound : (b : ℕ) → Keeps P (deal_everything b)
  unfolding deal_everything
  deal_everything-sound b = set_last_damage-keeps 65535 (sound.damage 65535 (omega arith))

  pub knock_out_by_type-sound : (s : Side) (move : Move) → IsMove move → Keeps P (knock_out_by_type s move)
  unfolding knock_out_by_type
  knock_out_by_type-sound s move is = search (sound_rules, deal_everything-sound) depth 14

  pub knock_out-sound : (s : Side) (move : Move) → IsMove move → Keeps P (knock_out s move)
  unfolding knock_out
  knock_out-sound s move is = search (sound_rules, roll_critical-sound, knock_out_by_type-sound, hit_or_miss-sound) depth 14

  pub counter_by-sound : (s : Side) (move : Move) (damage : ℕ) → IsMove move → Keeps P (counter_by s move damage)
  unfolding counter_by
  counter_by-sound s move damage is = then-keeps (set_last_damage-keeps _ (sound.damage _ (omega arith))) (hit_or_miss-sound s move is)

  pub counter-sound : (s : Side) (move : Move) → IsMove move → Keeps P (counter s move)
  unfolding counter
  counter-sound s move is = search (sound_rules, roll_critical-sound, counter_by-sound) depth 14

  pub set_planned-sound : (hits : ℕ) → Keeps P (set_planned hits)
  unfolding set_planned
  set_planned-sound hits = on_action-keeps (sound.action _ (record { tested = λ a h. h; letting_go = λ a. refl }))

  pub plan_two_more-sound : (n : ℕ) → Keeps P (plan_two_more n)
  unfolding plan_two_more
  plan_two_more-sound n = search (sound_rules, set_planned-sound) depth 14

  pub plan_hits-sound : Keeps P plan_hits
  unfolding plan_hits
  plan_hits-sound = choose-keeps _ stay-keeps (draw_count-sound _ (λ n l. plan_two_more-sound n))

  pub recoil-sound : (s : Side) (move : Move) → IsMove move → Keeps P (recoil s move)
  unfolding recoil
  recoil-sound s move is = search (sound_rules, lose_hp-sound) depth 14

  pub drain_by-sound : (s : Side) (n : ℕ) → n ≤ 65535 → Keeps P (drain_by s n)
  unfolding drain_by
  drain_by-sound s n l = then-keeps (set_last_damage-keeps n (sound.damage n l)) (gain_hp-sound s n)

  pub drain-sound : (s : Side) → Keeps P (drain s)
  unfolding drain
  drain-sound s = given-sees _ (λ n. n ≤ 65535) (λ p h. omega (arith, (sound.field _ _ _ h).last_damage)) (λ n l. drain_by-sound s n l)

  pub explode-sound : (s : Side) → Keeps P (explode s)
  unfolding explode
  explode-sound s = search (sound_rules) depth 14

  pub crash-sound : (s : Side) → Keeps P (crash s)
  unfolding crash
  crash-sound s = then-keeps (lose_hp-sound s _ 1) (set_last_damage-keeps 1 (sound.damage 1 (omega arith)))

  pub missed_move-sound : (s : Side) (move : Move) → IsMove move → Keeps P (missed_move s move)
  unfolding missed_move
  missed_move-sound s move is = search (sound_rules, note_miss-sound, crash-sound, explode-sound) depth 14

  pub note_effectiveness-sound : (target : Side) (n : DamageNumbers) → Keeps P (note_effectiveness target n)
  unfolding note_effectiveness
  note_effectiveness-sound target n = search (sound_rules) depth 14

  pub note_critical-sound : (target : Side) → Keeps P (note_critical target)
  unfolding note_critical
  note_critical-sound target = search (sound_rules) depth 14

  pub note_first_hit-sound : (s : Side) (move : Move) → IsMove move → Keeps P (note_first_hit s move)
  unfolding note_first_hit
  note_first_hit-sound s move is = search (sound_rules, note_critical-sound, note_effectiveness-sound) depth 14

  pub count_hit-sound : Keeps P count_hit
  unfolding count_hit
  count_hit-sound = on_action-keeps (sound.action _ (record { tested = λ a h. h; letting_go = λ a. refl }))

  pub build_rage-sound : (s : Side) → Keeps P (build_rage s)
  unfolding build_rage
  build_rage-sound s = search (sound_rules, raise_stage-sound) depth 14

  pub note_hit_count-sound : (target : Side) (hits : ℕ) → Keeps P (note_hit_count target hits)
  unfolding note_hit_count
  note_hit_count-sound target hits = search (sound_rules) depth 14

  pub set_going_on-sound : (going_on : Bool) → Keeps P (set_going_on going_on)
  unfolding set_going_on
  set_going_on-sound going_on = on_action-keeps (sound.action _ (record { tested = λ a h. h; letting_go = λ a. refl }))

  pub see_if_going_on-sound : (s : Side) (pick : Pick) → Keeps P (see_if_going_on s pick)
  unfolding see_if_going_on
  see_if_going_on-sound s pick = search (sound_rules, set_going_on-sound) depth 14

  pub gate_or_held-sound : (s : Side) (pick : Pick) → Keeps P (gate_or_held s pick)
  unfolding gate_or_held
  gate_or_held-sound s Held = search (sound_rules, cant-sound) depth 14
  gate_or_held-sound s pick = search (sound_rules, gate-sound) depth 14

  pub usual_damage-sound : (s : Side) (move : Move) → IsMove move → Keeps P (usual_damage s move)
  unfolding usual_damage
  usual_damage-sound s move is = search (sound_rules, roll_critical-sound, roll_damage-sound, hit_or_miss-sound) depth 14

  pub damage_of-sound : (s : Side) (move : Move) (effect : Effect) → IsMove move → Keeps P (damage_of s move effect)
  unfolding damage_of
  damage_of-sound s move effects.Counter is = search (sound_rules, counter-sound) depth 14
  damage_of-sound s move effects.FixedDamage is = search (sound_rules, fixed_damage-sound) depth 14
  damage_of-sound s move effects.SuperFang is = search (sound_rules, fixed_damage-sound) depth 14
  damage_of-sound s move effects.OneHitKnockOut is = search (sound_rules, knock_out-sound) depth 14
  damage_of-sound s move _ is = search (sound_rules, usual_damage-sound) depth 14

  pub ruling-sound : KeepsRuling P (ruling_of terms)
  ruling-sound = record { sleeps = λ user. sleeps_under-sound terms.rules.sleep_clause user (λ e. e); freezes = λ user. freezes_under-sound terms.rules.freeze_clause user }
