-- The costs of the gate, the landing, the hit test, and of moves except for their damage.
use Rattle.std.proofs.Common.{Bool, None, Option, Some, false, if◌then◌else◌, length, lit≤, refl, true, ℕ, ◌≤◌, true≢false, List, ◌≡◌, [], arith, sym, suc, zero, ◌&&◌, ◌-◌, ◌∷◌, nat_le}
use Rattle.gen1_stats.specs.declared.member.Status.{Status}
use Rattle.gen1_stats.specs.declared.member.Status.TheVariants.{Asleep}
use Rattle.gen1_machine.specs.declared.side.Side.{Side}
use Rattle.gen1_machine.specs.declared.event.Kind.{Kind}
use Rattle.gen1_machine.specs.declared.event.Who.{Who}
use Rattle.gen1_machine.specs.declared.event.CantReason.{CantReason}
use Rattle.gen1_machine.specs.declared.event.DamageSource.{DamageSource}
use Rattle.gen1_machine.specs.declared.event.Volatile.{Volatile}
use Rattle.gen1_machine.specs.declared.side.Pick.{Pick}
use Rattle.gen1_machine.specs.declared.side.DisabledSlot.{DisabledSlot}
use Rattle.gen1_machine.specs.Sides.{other}
use Rattle.gen1_machine.specs.LogBytes.{code}
use Rattle.gen1_machine.specs.Conditions.{ActiveConditions}
use Rattle.gen1_machine.specs.Moves.{Move, move_at}
use Rattle.gen1_machine.specs.Progress.{starts, lasts, ends as ends_by, set_missed, fail, fails_if, lose_hp, gain_hp, inflict, cure, Progress, Phase}
use Rattle.gen1_machine.specs.Damage.{before_types}
use Rattle.gen1_machine.specs.HitTest.{miss, set_tested, hits_below, test_by, hit_test, hit_or_miss, note_miss, must_hit}
use Rattle.gen1_machine.specs.Landing.{set_broke, land_on_substitute, land_on_hp, land_by, land_damage, land}
use Rattle.gen1_machine.specs.HitOnItself.{land_on_foes_substitute, hurt_itself_by, hurt_itself}
use Rattle.gen1_machine.specs.Gate.{cant, wake, sleep_on, sleep_test, frozen_test, trapped_test, flinch_test, recharge_test, disable_count, may_hurt_itself, confusion_test, disabled_test, may_be_paralysed, paralysis_test, gate_of_status, gate_of_turn, gate_of_move, gate}
use Rattle.gen1_machine.proofs.Costs.{Costs, goes, ends, may_stop, ◌⊳◌, more, choose-costs, given-costs, stay-costs, stop-costs, fault-costs, conditions-costs, member-costs, damage-costs, action_else-costs, draw-costs, note-costs, told-costs, Bound, both, either, ◌⨟◌, silent-costs, active-costs, until-costs, and-left, and-right}
use Rattle.gen1_tables.specs.declared.effect.Stat.{Stat}
use Rattle.gen1_tables.specs.declared.effect.Effect.{Effect}
use Rattle.gen1_stats.specs.declared.member.KnownMove.{KnownMove}
use Rattle.gen1_machine.specs.declared.side.Side.TheVariants.{One, Two}
use Rattle.gen1_machine.specs.State.{kind_of, Active, Terms}
use Rattle.gen1_machine.specs.StageShift.{note_boost, note_unboost, take_penalty_again, shift_to, raise_from, lower_from, raise_stage, lower_stage}
use Rattle.gen1_machine.specs.Ruling.{is_sleep_count, sleep_for, fall_asleep, sleep_freely, freeze_freely, sleep_only_one, freeze_only_one, sleeps_under, freezes_under, ruling_of, Ruling}
use Rattle.gen1_machine.specs.EarlyEffects.{confused_by, confuse, confuse_foe, take_types, convert, set_mist, set_focus_energy, set_light_screen, set_reflect, set_screen, clear_side, cure_kind, set_skips, haze_cures, haze, rest_up, recover, heal, poison_foe, paralyse_foe, seed_foe, pay_for_substitute, make_substitute, splash, early_effect}
use Rattle.gen1_machine.specs.LateEffects.{ready_to_sleep, put_to_sleep, lower_foes_stat, bide_for, start_bide, late_effect}
use Rattle.gen1_machine.specs.SideEffects.{happens_below, by_chance, thaw, may_inflict, may_poison, may_confuse, flinch, kept_away_effect, names_slot, disable_for, disable_slot, disable, must_recharge, side_effect}
use Rattle.std.specs.Prelude.{slice_index_or}
use Rattle.std.proofs.lemmas.Bool.{leb-true}
use Rattle.gen1_tables.specs.declared.types.Element.TheVariants.{Normal}
use Rattle.gen1_tables.specs.declared.effect.Effect.TheVariants.{DamageOnly}
use Rattle.gen1_tables.specs.Moves.{move_rows, move_row, MoveRow}
use Rattle.gen1_machine.specs.declared.event.DamageSource.TheVariants as sources
use Rattle.gen1_machine.specs.declared.event.Event.TheVariants as events
use Rattle.gen1_tables.specs.declared.effect.Effect.TheVariants as effects

-- The costs of the gate, the landing and the hit test.

one_of : (b : Bool) (v w : Who) → length (code (if b then events.Immune v else events.Miss w)) ≤ 3
one_of true v w = lit≤ tt
one_of false v w = lit≤ tt

module _ {limit : ℕ} where
  -- A condition, a loss or a gain of HP, a failure, a status

  pub starts-costs : (s : Side) (what : Volatile) (change : ActiveConditions → ActiveConditions) → Costs limit (starts s what change) (goes 0 1 4)
  unfolding starts
  starts-costs s what change = told-costs _ _ 4 (λ f. lit≤ tt)

  pub lasts-costs : (s : Side) (what : Volatile) (change : ActiveConditions → ActiveConditions) → Costs limit (lasts s what change) (goes 0 1 4)
  unfolding lasts
  lasts-costs s what change = told-costs _ _ 4 (λ f. lit≤ tt)

  pub ends-costs : (s : Side) (what : Volatile) (change : ActiveConditions → ActiveConditions) → Costs limit (ends_by s what change) (goes 0 1 4)
  unfolding ends_by
  ends-costs s what change = told-costs _ _ 4 (λ f. lit≤ tt)

  pub missed-costs : (missed : Bool) → Costs limit (set_missed missed) (goes 0 0 0)
  unfolding set_missed
  missed-costs missed = action_else-costs _ (λ a. refl)

  pub lose-costs : (s : Side) (source : DamageSource) (amount : ℕ) → Costs limit (lose_hp s source amount) (goes 0 1 9)
  unfolding lose_hp
  lose-costs s source amount = choose-costs _ (told-costs _ _ 9 (λ f. lit≤ tt)) stay-costs

  pub gain-costs : (s : Side) (amount : ℕ) → Costs limit (gain_hp s amount) (goes 0 1 8)
  unfolding gain_hp
  gain-costs s amount = choose-costs _ (told-costs _ _ 8 (λ f. lit≤ tt)) stay-costs

  pub fail-costs : (s : Side) → Costs limit (fail s) (ends 0 1 3)
  unfolding fail
  fail-costs s = note-costs _ 3 (λ f. lit≤ tt) ⊳ stop-costs

  pub fails_if-costs : (s : Side) (test : Progress → Bool) → Costs limit (fails_if s test) (may_stop 0 0 0 0 1 3)
  unfolding fails_if
  fails_if-costs s test = choose-costs test (fail-costs s) stay-costs

  pub inflict-costs : (s : Side) (status : Status) (kind : Kind) → Costs limit (inflict s status kind) (goes 0 1 4)
  unfolding inflict
  inflict-costs s status kind = member-costs s _ ⊳ told-costs _ _ 4 (λ f. lit≤ tt)

  pub cure-costs : (s : Side) (kind : Kind) → Costs limit (cure s kind) (goes 0 1 4)
  unfolding cure
  cure-costs s kind = told-costs _ _ 4 (λ f. lit≤ tt)

  pub cant-costs : (s : Side) (why : CantReason) → Costs limit (cant s why) (ends 0 1 4)
  unfolding cant
  cant-costs s why = note-costs _ 4 (λ f. lit≤ tt) ⊳ stop-costs

  -- The landing

  pub broke-costs : Costs limit set_broke (goes 0 0 0)
  unfolding set_broke
  broke-costs = action_else-costs _ (λ a. refl)

  pub on_substitute-costs : (s : Side) (damage hp : ℕ) → Costs limit (land_on_substitute s damage hp) (goes 0 1 4)
  unfolding land_on_substitute
  on_substitute-costs s damage hp = choose-costs _ (broke-costs ⊳ ends-costs s _ _) (lasts-costs s _ _)

  pub on_hp-costs : (s : Side) (source : DamageSource) (damage : ℕ) → Costs limit (land_on_hp s source damage) (goes 0 1 9)
  unfolding land_on_hp
  on_hp-costs s source damage = given-costs _ (λ m. damage-costs _ ⊳ lose-costs s source damage)

  pub land_by-costs : (s : Side) (damage : ℕ) (o : Option ℕ) → Costs limit (land_by s damage o) (goes 0 1 9)
  unfolding land_by
  land_by-costs s damage (Some hp) = more (on_substitute-costs s damage hp) refl
  land_by-costs s damage None = on_hp-costs s sources.Direct damage

  pub land_damage-costs : (s : Side) (damage : ℕ) → Costs limit (land_damage s damage) (goes 0 1 9)
  unfolding land_damage
  land_damage-costs s damage = given-costs _ (land_by-costs s damage)

  pub land-costs : (s : Side) → Costs limit (land s) (goes 0 1 9)
  unfolding land
  land-costs s = choose-costs _ (given-costs _ (land_damage-costs s)) stay-costs

  -- The hit on itself

  pub on_foes_substitute-costs : (s : Side) (damage : ℕ) (o : Option ℕ) → Costs limit (land_on_foes_substitute s damage o) (goes 0 1 4)
  unfolding land_on_foes_substitute
  on_foes_substitute-costs s damage None = more stay-costs refl
  on_foes_substitute-costs s damage (Some hp) = on_substitute-costs (other s) damage hp

  pub hurt_itself_by-costs : (s : Side) (o : Option ℕ) → Costs limit (hurt_itself_by s o) (may_stop 0 1 9 0 0 0)
  unfolding hurt_itself_by
  hurt_itself_by-costs s None = more (fault-costs 1) refl
  hurt_itself_by-costs s (Some damage) = more (damage-costs damage ⊳ choose-costs _ (given-costs _ (on_foes_substitute-costs s damage)) (on_hp-costs s sources.Confusion damage)) refl

  pub hurt_itself-costs : (s : Side) → Costs limit (hurt_itself s) (ends 0 1 9)
  unfolding hurt_itself
  hurt_itself-costs s = conditions-costs s _ ⊳ conditions-costs s _ ⊳ conditions-costs s _ ⊳ given-costs _ (λ n. hurt_itself_by-costs s (before_types n)) ⊳ stop-costs

  -- The gate

  pub wake-costs : (s : Side) → Costs limit (wake s) (ends 0 1 4)
  unfolding wake
  wake-costs s = told-costs _ _ 4 (λ f. lit≤ tt) ⊳ stop-costs

  pub sleep_on-costs : (s : Side) → Costs limit (sleep_on s) (ends 0 1 4)
  unfolding sleep_on
  sleep_on-costs s = member-costs s _ ⊳ cant-costs s _

  pub sleep-costs : (s : Side) (status : Status) → Costs limit (sleep_test s status) (may_stop 0 0 0 0 1 4)
  unfolding sleep_test
  sleep-costs s (Asleep turns marked) = more (choose-costs _ (wake-costs s) (sleep_on-costs s)) refl
  sleep-costs s _ = more stay-costs refl

  pub frozen-costs : (s : Side) → Costs limit (frozen_test s) (may_stop 0 0 0 0 1 4)
  unfolding frozen_test
  frozen-costs s = choose-costs _ (cant-costs s _) stay-costs

  pub trapped-costs : (s : Side) → Costs limit (trapped_test s) (may_stop 0 0 0 0 1 4)
  unfolding trapped_test
  trapped-costs s = choose-costs _ (cant-costs s _) stay-costs

  pub flinch-costs : (s : Side) → Costs limit (flinch_test s) (may_stop 0 0 0 0 1 4)
  unfolding flinch_test
  flinch-costs s = choose-costs _ (conditions-costs s _ ⊳ cant-costs s _) stay-costs

  pub recharge-costs : (s : Side) → Costs limit (recharge_test s) (may_stop 0 0 0 0 1 4)
  unfolding recharge_test
  recharge-costs s = choose-costs _ (conditions-costs s _ ⊳ cant-costs s _) stay-costs

  pub disable_count-costs : (s : Side) (o : Option DisabledSlot) → Costs limit (disable_count s o) (goes 0 1 4)
  unfolding disable_count
  disable_count-costs s None = more stay-costs refl
  disable_count-costs s (Some d) = choose-costs _ (ends-costs s _ _) (conditions-costs s _)

  pub may_hurt_itself-costs : (s : Side) (b : ℕ) → Costs limit (may_hurt_itself s b) (may_stop 0 0 0 0 1 9)
  unfolding may_hurt_itself
  may_hurt_itself-costs s b = choose-costs _ (hurt_itself-costs s) stay-costs

  pub confusion-costs : (s : Side) (o : Option ℕ) → Costs limit (confusion_test s o) (may_stop 1 1 4 1 2 13)
  unfolding confusion_test
  confusion-costs s None = more stay-costs refl
  confusion-costs s (Some turns) = choose-costs _ (ends-costs s _ _) (lasts-costs s _ _ ⊳ draw-costs (may_hurt_itself-costs s))

  pub disabled-costs : (s : Side) (pick : Pick) → Costs limit (disabled_test s pick) (may_stop 0 0 0 0 1 4)
  unfolding disabled_test
  disabled-costs s pick = choose-costs _ (conditions-costs s _ ⊳ cant-costs s _) stay-costs

  pub may_be_paralysed-costs : (s : Side) (b : ℕ) → Costs limit (may_be_paralysed s b) (may_stop 0 0 0 0 1 4)
  unfolding may_be_paralysed
  may_be_paralysed-costs s b = choose-costs _ (conditions-costs s _ ⊳ cant-costs s _) stay-costs

  pub paralysis-costs : (s : Side) → Costs limit (paralysis_test s) (may_stop 1 0 0 1 1 4)
  unfolding paralysis_test
  paralysis-costs s = choose-costs _ (draw-costs (may_be_paralysed-costs s)) stay-costs

  pub gate_of_status-costs : (s : Side) → Costs limit (gate_of_status s) (may_stop 0 0 0 0 1 4)
  unfolding gate_of_status
  gate_of_status-costs s = given-costs _ (sleep-costs s) ⊳ frozen-costs s ⊳ trapped-costs s

  pub gate_of_turn-costs : (s : Side) → Costs limit (gate_of_turn s) (may_stop 0 1 4 0 1 4)
  unfolding gate_of_turn
  gate_of_turn-costs s = flinch-costs s ⊳ recharge-costs s ⊳ given-costs _ (disable_count-costs s)

  pub gate_of_move-costs : (s : Side) (pick : Pick) → Costs limit (gate_of_move s pick) (may_stop 2 1 4 2 2 13)
  unfolding gate_of_move
  gate_of_move-costs s pick = given-costs _ (confusion-costs s) ⊳ disabled-costs s pick ⊳ paralysis-costs s ⊳ choose-costs _ stop-costs stay-costs

  pub gate-costs : (s : Side) (pick : Pick) → Costs limit (gate s pick) (may_stop 2 2 8 2 3 17)
  unfolding gate
  gate-costs s pick = gate_of_status-costs s ⊳ gate_of_turn-costs s ⊳ gate_of_move-costs s pick

  -- The hit test

  pub miss-costs : (s : Side) → Costs limit (miss s) (goes 0 0 0)
  unfolding miss
  miss-costs s = missed-costs true ⊳ damage-costs 0 ⊳ conditions-costs s _

  pub tested-costs : (byte : ℕ) → Costs limit (set_tested byte) (goes 0 0 0)
  unfolding set_tested
  tested-costs byte = action_else-costs _ (λ a. refl)

  pub hits_below-costs : (s : Side) (byte b : ℕ) → Costs limit (hits_below s byte b) (goes 0 0 0)
  unfolding hits_below
  hits_below-costs s byte b = choose-costs _ stay-costs (miss-costs s)

  pub test_by-costs : (s : Side) (base : ℕ) (o : Option Bool) → Costs limit (test_by s base o) (goes 1 0 0)
  unfolding test_by
  test_by-costs s base (Some true) = more (tested-costs base) refl
  test_by-costs s base (Some false) = more (tested-costs base ⊳ miss-costs s) refl
  test_by-costs s base None = given-costs _ (λ byte. tested-costs byte ⊳ draw-costs (hits_below-costs s byte))

  pub hit_test-costs : (s : Side) (move : Move) (base : ℕ) → Costs limit (hit_test s move base) (goes 1 0 0)
  unfolding hit_test
  hit_test-costs s move base = given-costs _ (test_by-costs s base)

  pub hit_or_miss-costs : (s : Side) (move : Move) → Costs limit (hit_or_miss s move) (goes 1 0 0)
  unfolding hit_or_miss
  hit_or_miss-costs s move = given-costs _ (hit_test-costs s move)

  pub note_miss-costs : (s : Side) (move : Move) → Costs limit (note_miss s move) (goes 0 1 3)
  unfolding note_miss
  note_miss-costs s move = note-costs _ 3 (λ f. one_of _ _ _)

  pub must_hit-costs : (s : Side) (move : Move) → Costs limit (must_hit s move) (may_stop 1 0 0 1 1 3)
  unfolding must_hit
  must_hit-costs s move = hit_or_miss-costs s move ⊳ choose-costs _ (note_miss-costs s move ⊳ stop-costs) stay-costs

-- A stage that moves, or fails at some cost.
abbrev pub shifted : Bound → Bound
shifted b = either b (either (goes 0 0 0 ⨟ goes 0 1 5 ⨟ b) (goes 0 1 5))

-- The effects whose loop comes after the damage step.
abbrev pub loops_late : Effect → Bool
loops_late effects.InflictSleep = true
loops_late effects.Disable = true
loops_late _ = false

-- The costs of falling asleep and of freezing under a ruling.
pub record RulingCosts (limit : ℕ) (r : Ruling) : Type 0 where
  pub sleeps : (s : Side) → Costs limit (r.sleeps s) (may_stop 2304 1 4 0 1 3)
  pub freezes : (s : Side) → Costs limit (r.freezes s) (goes 0 1 4)

module _ {limit : ℕ} where
  -- Stages of a stat

  pub boost-costs : (s : Side) (stat : Stat) (n : ℕ) → Costs limit (note_boost s stat n) (goes 0 1 5)
  unfolding note_boost
  boost-costs s stat n = choose-costs _ (note-costs _ 5 (λ f. lit≤ tt)) stay-costs

  pub unboost-costs : (s : Side) (stat : Stat) (n : ℕ) → Costs limit (note_unboost s stat n) (goes 0 1 5)
  unfolding note_unboost
  unboost-costs s stat n = choose-costs _ (note-costs _ 5 (λ f. lit≤ tt)) stay-costs

  pub take_penalty_again-costs : (s : Side) → Costs limit (take_penalty_again s) (goes 0 0 0)
  unfolding take_penalty_again
  take_penalty_again-costs s = given-costs _ (λ status. active-costs s _)

  pub shift_to-costs : (user target : Side) (stat : Stat) (n : ℕ) → Costs limit (shift_to user target stat n) (goes 0 0 0)
  unfolding shift_to
  shift_to-costs user target stat n = active-costs target _ ⊳ take_penalty_again-costs (other user)

  pub raise_from-costs : (user target : Side) (stat : Stat) (by : ℕ) {f : Phase} {b : Bound} (n : ℕ) (full : Bool) → Costs limit f b
      → Costs limit (raise_from user target stat by f n full) (shifted b)
  unfolding raise_from
  raise_from-costs user target stat by n full h = choose-costs _ h
      (choose-costs _ (active-costs target _ ⊳ boost-costs target stat _ ⊳ h) (shift_to-costs user target stat _ ⊳ boost-costs target stat _))

  pub lower_from-costs : (user target : Side) (stat : Stat) (by : ℕ) {f : Phase} {b : Bound} (n : ℕ) (least : Bool) → Costs limit f b
      → Costs limit (lower_from user target stat by f n least) (shifted b)
  unfolding lower_from
  lower_from-costs user target stat by n least h = choose-costs _ h
      (choose-costs _ (active-costs target _ ⊳ unboost-costs target stat _ ⊳ h) (shift_to-costs user target stat _ ⊳ unboost-costs target stat _))

  pub raise-costs : (user target : Side) (stat : Stat) (by : ℕ) {f : Phase} {b : Bound} → Costs limit f b → Costs limit (raise_stage user target stat by f) (shifted b)
  unfolding raise_stage
  raise-costs user target stat by h = given-costs _ (λ n. given-costs _ (λ full. raise_from-costs user target stat by n full h))

  pub lower-costs : (user target : Side) (stat : Stat) (by : ℕ) {f : Phase} {b : Bound} → Costs limit f b → Costs limit (lower_stage user target stat by f) (shifted b)
  unfolding lower_stage
  lower-costs user target stat by h = given-costs _ (λ n. given-costs _ (λ least. lower_from-costs user target stat by n least h))

  -- The rulings

  pub sleep_for-costs : (marked : Bool) (s : Side) (b : ℕ) → Costs limit (sleep_for marked s b) (goes 0 1 4)
  unfolding sleep_for
  sleep_for-costs marked s b = inflict-costs s _ _

  pub fall_asleep-costs : (marked : Bool) (s : Side) → Costs limit (fall_asleep marked s) (goes 2304 1 4)
  unfolding fall_asleep
  fall_asleep-costs marked s = until-costs is_sleep_count (sleep_for-costs marked s)

  sleeps_under-costs : (clause : Bool) (s : Side) → Costs limit (sleeps_under clause s) (may_stop 2304 1 4 0 1 3)
  unfolding sleeps_under sleep_only_one sleep_freely
  sleeps_under-costs true s = fails_if-costs s _ ⊳ fall_asleep-costs true (other s)
  sleeps_under-costs false s = more (fall_asleep-costs false (other s)) refl

  freeze_freely-costs : (s : Side) → Costs limit (freeze_freely s) (goes 0 1 4)
  unfolding freeze_freely
  freeze_freely-costs s = conditions-costs (other s) _ ⊳ inflict-costs (other s) _ _

  freezes_under-costs : (clause : Bool) (s : Side) → Costs limit (freezes_under clause s) (goes 0 1 4)
  unfolding freezes_under freeze_only_one
  freezes_under-costs true s = choose-costs _ stay-costs (freeze_freely-costs s)
  freezes_under-costs false s = freeze_freely-costs s

  pub ruling_of-costs : (t : Terms) → RulingCosts limit (ruling_of t)
  ruling_of-costs t = record { sleeps = sleeps_under-costs t.rules.sleep_clause; freezes = freezes_under-costs t.rules.freeze_clause }

  -- Before damage

  pub confused_by-costs : (s : Side) (b : ℕ) → Costs limit (confused_by s b) (goes 0 1 4)
  unfolding confused_by
  confused_by-costs s b = starts-costs s _ _

  pub confuse-costs : (s : Side) → Costs limit (confuse s) (goes 1 1 4)
  unfolding confuse
  confuse-costs s = draw-costs (confused_by-costs s)

  pub confuse_foe-costs : (s : Side) (move : Move) → Costs limit (confuse_foe s move) (may_stop 2 1 4 1 1 3)
  unfolding confuse_foe
  confuse_foe-costs s move = fails_if-costs s _ ⊳ must_hit-costs s move ⊳ fails_if-costs s _ ⊳ confuse-costs (other s)

  pub take_types-costs : (s : Side) (foe : Active) → Costs limit (take_types s foe) (goes 0 1 4)
  unfolding take_types
  take_types-costs s foe = told-costs _ _ 4 (λ f. lit≤ tt)

  pub convert-costs : (s : Side) → Costs limit (convert s) (may_stop 0 1 4 0 1 3)
  unfolding convert
  convert-costs s = fails_if-costs s _ ⊳ given-costs _ (take_types-costs s)

  pub mist-costs : (s : Side) → Costs limit (set_mist s) (may_stop 0 1 4 0 1 3)
  unfolding set_mist
  mist-costs s = fails_if-costs s _ ⊳ starts-costs s _ _

  pub focus_energy-costs : (s : Side) → Costs limit (set_focus_energy s) (may_stop 0 1 4 0 1 3)
  unfolding set_focus_energy
  focus_energy-costs s = fails_if-costs s _ ⊳ starts-costs s _ _

  pub light_screen-costs : (s : Side) → Costs limit (set_light_screen s) (may_stop 0 1 4 0 1 3)
  unfolding set_light_screen
  light_screen-costs s = fails_if-costs s _ ⊳ starts-costs s _ _

  pub reflect-costs : (s : Side) → Costs limit (set_reflect s) (may_stop 0 1 4 0 1 3)
  unfolding set_reflect
  reflect-costs s = fails_if-costs s _ ⊳ starts-costs s _ _

  pub screen-costs : (s : Side) (move : Move) → Costs limit (set_screen s move) (may_stop 0 1 4 0 1 3)
  unfolding set_screen
  screen-costs s move = choose-costs _ (light_screen-costs s) (reflect-costs s)

  pub clear_side-costs : (s : Side) → Costs limit (clear_side s) (goes 0 0 0)
  unfolding clear_side
  clear_side-costs s = active-costs s _ ⊳ conditions-costs s _

  pub cure_kind-costs : (s : Side) (kind : Option Kind) → Costs limit (cure_kind s kind) (goes 0 1 4)
  unfolding cure_kind
  cure_kind-costs s None = more stay-costs refl
  cure_kind-costs s (Some kind) = cure-costs s kind

  pub skips-costs : (skips : Bool) → Costs limit (set_skips skips) (goes 0 0 0)
  unfolding set_skips
  skips-costs skips = silent-costs (set_skips skips) (λ p. (refl, refl, refl, refl, refl))

  pub haze_cures-costs : (s : Side) (status : Status) → Costs limit (haze_cures s status) (goes 0 1 4)
  unfolding haze_cures
  haze_cures-costs s status = skips-costs _ ⊳ cure_kind-costs s (kind_of status)

  pub haze-costs : (s : Side) → Costs limit (haze s) (goes 0 2 5)
  unfolding haze
  haze-costs s = clear_side-costs One ⊳ clear_side-costs Two ⊳ note-costs _ 1 (λ f. lit≤ tt) ⊳ given-costs _ (haze_cures-costs (other s))

  pub rest_up-costs : (s : Side) → Costs limit (rest_up s) (goes 0 2 12)
  unfolding rest_up
  rest_up-costs s = told-costs _ _ 4 (λ f. lit≤ tt) ⊳ given-costs _ (λ m. gain-costs s _)

  pub recover-costs : (s : Side) → Costs limit (recover s) (goes 0 1 8)
  unfolding recover
  recover-costs s = given-costs _ (λ m. gain-costs s _)

  pub heal-costs : (s : Side) (move : Move) → Costs limit (heal s move) (may_stop 0 2 12 0 1 3)
  unfolding heal
  heal-costs s move = fails_if-costs s _ ⊳ choose-costs _ (rest_up-costs s) (recover-costs s)

  pub poison-costs : (s : Side) (move : Move) → Costs limit (poison_foe s move) (may_stop 1 1 4 1 1 3)
  unfolding poison_foe
  poison-costs s move = fails_if-costs s _ ⊳ fails_if-costs s _ ⊳ fails_if-costs s _ ⊳ must_hit-costs s move ⊳ inflict-costs (other s) _ _
      ⊳ choose-costs _ (conditions-costs (other s) _) stay-costs

  pub paralyse-costs : (s : Side) (move : Move) → Costs limit (paralyse_foe s move) (may_stop 1 1 4 1 1 3)
  unfolding paralyse_foe
  paralyse-costs s move = fails_if-costs s _ ⊳ fails_if-costs s _ ⊳ must_hit-costs s move ⊳ inflict-costs (other s) _ _

  pub seed-costs : (s : Side) (move : Move) → Costs limit (seed_foe s move) (may_stop 1 1 4 1 1 3)
  unfolding seed_foe
  seed-costs s move = must_hit-costs s move ⊳ fails_if-costs s _ ⊳ starts-costs (other s) _ _

  pub pay-costs : (s : Side) (cost : ℕ) → Costs limit (pay_for_substitute s cost) (goes 0 2 13)
  unfolding pay_for_substitute
  pay-costs s cost = starts-costs s _ _ ⊳ lose-costs s _ cost

  pub make_substitute-costs : (s : Side) → Costs limit (make_substitute s) (may_stop 0 2 13 0 1 3)
  unfolding make_substitute
  make_substitute-costs s = fails_if-costs s _ ⊳ fails_if-costs s _ ⊳ given-costs _ (pay-costs s)

  pub splash-costs : (s : Side) → Costs limit (splash s) (goes 0 1 4)
  unfolding splash
  splash-costs s = note-costs _ 4 (λ f. lit≤ tt)

  pub early_effect-costs : (s : Side) (move : Move) (e : Effect) → Costs limit (early_effect s move e) (both 2 2 13)
  unfolding early_effect
  early_effect-costs s move effects.Conversion = more (convert-costs s) refl
  early_effect-costs s move effects.Mist = more (mist-costs s) refl
  early_effect-costs s move effects.FocusEnergy = more (focus_energy-costs s) refl
  early_effect-costs s move effects.Screen = more (screen-costs s move) refl
  early_effect-costs s move effects.Haze = more (haze-costs s) refl
  early_effect-costs s move effects.InflictConfusion = more (confuse_foe-costs s move) refl
  early_effect-costs s move effects.Heal = more (heal-costs s move) refl
  early_effect-costs s move effects.InflictPoison = more (poison-costs s move) refl
  early_effect-costs s move effects.InflictParalysis = more (paralyse-costs s move) refl
  early_effect-costs s move effects.LeechSeed = more (seed-costs s move) refl
  early_effect-costs s move effects.Substitute = more (make_substitute-costs s) refl
  early_effect-costs s move effects.Splash = more (splash-costs s) refl
  early_effect-costs s move _ = more (fail-costs s) refl

  -- After the damage step

  pub ready_to_sleep-costs : (s : Side) (move : Move) → Costs limit (ready_to_sleep s move) (may_stop 1 0 0 1 1 3)
  unfolding ready_to_sleep
  ready_to_sleep-costs s move = choose-costs _ (conditions-costs (other s) _) (fails_if-costs s _ ⊳ must_hit-costs s move)

  pub put_to_sleep-costs : (r : Ruling) → RulingCosts limit r → (s : Side) (move : Move) → Costs limit (put_to_sleep r s move) (may_stop 2305 1 4 1 1 3)
  unfolding put_to_sleep
  put_to_sleep-costs r h s move = ready_to_sleep-costs s move ⊳ h.sleeps s

  pub lower_foes-costs : (s : Side) (move : Move) (stat : Stat) (by : ℕ) → Costs limit (lower_foes_stat s move stat by) (may_stop 1 1 5 1 2 8)
  unfolding lower_foes_stat
  lower_foes-costs s move stat by = fails_if-costs s _ ⊳ must_hit-costs s move ⊳ fails_if-costs s _ ⊳ lower-costs s (other s) stat by (fail-costs s)

  pub bide_for-costs : (s : Side) (b : ℕ) → Costs limit (bide_for s b) (goes 0 1 4)
  unfolding bide_for
  bide_for-costs s b = starts-costs s _ _

  pub bide-costs : (s : Side) → Costs limit (start_bide s) (goes 1 1 4)
  unfolding start_bide
  bide-costs s = draw-costs (bide_for-costs s)

  pub late_effect-costs : (r : Ruling) (s : Side) (move : Move) (e : Effect) → loops_late e ≡ false → Costs limit (late_effect r s move e) (both 1 2 8)
  unfolding late_effect
  late_effect-costs r s move (effects.StatUp stat n) h = more (raise-costs s s stat n (fail-costs s)) refl
  late_effect-costs r s move (effects.StatDown stat n) h = more (lower_foes-costs s move stat n) refl
  late_effect-costs r s move effects.InflictSleep h = absurd (true≢false h)
  late_effect-costs r s move effects.Bide h = more (bide-costs s) refl
  late_effect-costs r s move _ h = more stay-costs refl

  pub late_effect-loops : (r : Ruling) → RulingCosts limit r → (s : Side) (move : Move) (e : Effect) → Costs limit (late_effect r s move e) (both 2305 2 8)
  unfolding late_effect
  late_effect-loops r h s move (effects.StatUp stat n) = more (raise-costs s s stat n (fail-costs s)) refl
  late_effect-loops r h s move (effects.StatDown stat n) = more (lower_foes-costs s move stat n) refl
  late_effect-loops r h s move effects.InflictSleep = more (put_to_sleep-costs r h s move) refl
  late_effect-loops r h s move effects.Bide = more (bide-costs s) refl
  late_effect-loops r h s move _ = more stay-costs refl

  -- Side effects

  happens-costs : (bound : ℕ) {f : Phase} {b : Bound} → Costs limit f b → (x : ℕ) → Costs limit (happens_below bound f x) (either b (goes 0 0 0))
  unfolding happens_below
  happens-costs bound h x = choose-costs _ h stay-costs

  pub by_chance-costs : (bound : ℕ) {f : Phase} {b : Bound} → Costs limit f b → Costs limit (by_chance bound f) (goes 1 0 0 ⨟ either b (goes 0 0 0))
  unfolding by_chance
  by_chance-costs bound h = draw-costs (happens-costs bound h)

  pub thaw-costs : (s : Side) (move : Move) → Costs limit (thaw s move) (goes 0 1 4)
  unfolding thaw
  thaw-costs s move = choose-costs _ (cure-costs (other s) _) stay-costs

  pub may_inflict-costs : (s : Side) (move : Move) (bound : ℕ) {f : Phase} → Costs limit f (goes 0 1 4) → Costs limit (may_inflict s move bound f) (goes 1 1 4)
  unfolding may_inflict
  may_inflict-costs s move bound h = choose-costs _ (thaw-costs s move) (choose-costs _ stay-costs (by_chance-costs bound h))

  pub may_poison-costs : (s : Side) (bound : ℕ) → Costs limit (may_poison s bound) (goes 1 1 4)
  unfolding may_poison
  may_poison-costs s bound = choose-costs _ stay-costs (by_chance-costs bound (inflict-costs (other s) _ _))

  pub may_confuse-costs : (s : Side) (bound : ℕ) → Costs limit (may_confuse s bound) (goes 2 1 4)
  unfolding may_confuse
  may_confuse-costs s bound = by_chance-costs bound (choose-costs _ stay-costs (confuse-costs (other s)))

  pub flinches-costs : (s : Side) → Costs limit (flinch s) (goes 0 0 0)
  unfolding flinch
  flinches-costs s = conditions-costs s _ ⊳ conditions-costs s _

  pub kept_away-costs : (r : Ruling) → RulingCosts limit r → (s : Side) (move : Move) (e : Effect) → Costs limit (kept_away_effect r s move e) (goes 1 1 5)
  unfolding kept_away_effect
  kept_away-costs r h s move (effects.PoisonChance n) = more (may_poison-costs s n) refl
  kept_away-costs r h s move effects.Twineedle = more (may_poison-costs s 52) refl
  kept_away-costs r h s move (effects.BurnChance n) = more (may_inflict-costs s move n (inflict-costs (other s) _ _)) refl
  kept_away-costs r h s move effects.FreezeChance = more (may_inflict-costs s move 26 (h.freezes s)) refl
  kept_away-costs r h s move (effects.ParalysisChance n) = more (may_inflict-costs s move n (inflict-costs (other s) _ _)) refl
  kept_away-costs r h s move (effects.FlinchChance n) = more (by_chance-costs n (flinches-costs (other s))) refl
  kept_away-costs r h s move (effects.StatDownChance stat) = more (by_chance-costs 85 (lower-costs s (other s) stat 1 stay-costs)) refl
  kept_away-costs r h s move _ = more stay-costs refl

  disable_for-costs : (s : Side) (b c : ℕ) → Costs limit (disable_for s b c) (goes 0 1 4)
  unfolding disable_for
  disable_for-costs s b c = starts-costs s _ _

  disable_slot-costs : (s : Side) (moves : List KnownMove) (b : ℕ) → Costs limit (disable_slot s moves b) (may_stop 1 1 4 0 1 3)
  unfolding disable_slot
  disable_slot-costs s moves b = fails_if-costs s _ ⊳ draw-costs (disable_for-costs (other s) b)

  pub disable-costs : (s : Side) (move : Move) → Costs limit (disable s move) (may_stop 2306 1 4 2305 1 3)
  unfolding disable
  disable-costs s move = must_hit-costs s move ⊳ fails_if-costs s _ ⊳ given-costs _ (λ moves. until-costs (names_slot moves) (disable_slot-costs s moves))

  pub must_recharge-costs : (s : Side) → Costs limit (must_recharge s) (goes 0 1 3)
  unfolding must_recharge
  must_recharge-costs s = told-costs _ _ 3 (λ f. lit≤ tt)

  pub side_effect-costs : (r : Ruling) → RulingCosts limit r → (s : Side) (move : Move) (e : Effect) → loops_late e ≡ false → Costs limit (side_effect r s move e) (both 2 1 5)
  unfolding side_effect
  side_effect-costs r h s move (effects.ConfusionChance n) i = more (may_confuse-costs s n) refl
  side_effect-costs r h s move effects.Disable i = absurd (true≢false i)
  side_effect-costs r h s move effects.Recharge i = more (must_recharge-costs s) refl
  side_effect-costs r h s move e i = more (choose-costs _ stay-costs (kept_away-costs r h s move e)) refl

  pub side_effect-loops : (r : Ruling) → RulingCosts limit r → (s : Side) (move : Move) (e : Effect) → Costs limit (side_effect r s move e) (both 2306 1 5)
  unfolding side_effect
  side_effect-loops r h s move (effects.ConfusionChance n) = more (may_confuse-costs s n) refl
  side_effect-loops r h s move effects.Disable = more (disable-costs s move) refl
  side_effect-loops r h s move effects.Recharge = more (must_recharge-costs s) refl
  side_effect-loops r h s move e = more (choose-costs _ stay-costs (kept_away-costs r h s move e)) refl

-- Moves whose loop comes late deal no damage.

abbrev is_quiet : MoveRow → Bool
is_quiet row = if loops_late row.effect then nat_le row.power 0 else true

abbrev all_quiet : List MoveRow → Bool
all_quiet [] = true
all_quiet (row ∷ rows) = is_quiet row && all_quiet rows

rows-quiet : all_quiet move_rows ≡ true
unfolding move_rows
rows-quiet = refl

at-quiet : (rows : List MoveRow) (i : ℕ) (default : MoveRow) → all_quiet rows ≡ true → is_quiet default ≡ true
    → is_quiet (slice_index_or rows i default) ≡ true
at-quiet [] i default e d = d
at-quiet (row ∷ rows) zero default e d = and-left (is_quiet row) (all_quiet rows) e
at-quiet (row ∷ rows) (suc i) default e d = at-quiet rows i default (and-right (is_quiet row) (all_quiet rows) e) d

row-quiet : (n : ℕ) → is_quiet (move_row n) ≡ true
unfolding move_row
row-quiet n = at-quiet move_rows (n - 1) (record { kind = Normal; power = 0; accuracy = 0; pp = 0; effect = DamageOnly }) rows-quiet refl

quiet-power : (late : Bool) (power : ℕ) → (if late then nat_le power 0 else true) ≡ true → late ≡ true → nat_le power 0 ≡ true
quiet-power true power h e = h
quiet-power false power h e = absurd (true≢false (sym e))

pub late-quiet : (n : ℕ) → loops_late (move_at n).effect ≡ true → (move_at n).power ≡ 0
late-quiet n e =
    let h = leb-true (move_row n).power 0 (quiet-power (loops_late (move_row n).effect) (move_row n).power (row-quiet n) e) in
    omega (arith, h)
