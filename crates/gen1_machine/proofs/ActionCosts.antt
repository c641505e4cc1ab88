-- What an action costs.
use Rattle.std.proofs.Common.{Bool, None, Option, Some, ap, arith, false, lit≤, mod-lt, nat_lt, refl, suc, sym, true, true≢false, zero, ℕ, ◌%◌, ◌+◌, ◌<◌, ◌≡◌, ◌≤◌}
use Rattle.gen1_tables.specs.declared.effect.Stat.TheVariants.{Attack}
use Rattle.gen1_tables.specs.declared.effect.Effect.{Effect}
use Rattle.gen1_tables.specs.declared.effect.Effect.TheVariants as effects
use Rattle.gen1_machine.specs.declared.side.Side.{Side}
use Rattle.gen1_machine.specs.declared.event.Event.TheVariants as events
use Rattle.gen1_machine.specs.declared.side.Pick.{Pick}
use Rattle.gen1_machine.specs.declared.side.Pick.TheVariants.{Use, Continue, Idle, Held}
use Rattle.gen1_rolls.specs.Streams.{low_bits, span}
use Rattle.gen1_machine.specs.Sides.{other}
use Rattle.gen1_machine.specs.Conditions.{Storing}
use Rattle.gen1_tables.specs.Effects.{knocks_out, hits_more}
use Rattle.gen1_machine.specs.Moves.{Move}
use Rattle.gen1_machine.specs.Progress.{Phase, ◌▸◌, unless, only, given, note, broke_substitute, active, member, has_fallen, on_field, on_active, on_action, Progress}
use Rattle.gen1_machine.specs.CriticalHits.{set_critical, critical_by, roll_critical}
use Rattle.gen1_machine.specs.Damage.{before_types, is_factor, type_steps, varied_by, vary, set_through_types, damage_from, roll_damage, DamageNumbers}
use Rattle.gen1_machine.specs.Landing.{land}
use Rattle.gen1_machine.specs.Picks.{used_by, number_in}
use Rattle.gen1_machine.specs.GoingOn.{count_again, count_by_draw, draw_count, trap_for, trap, thrash_less, thrash_for, thrash_about, set_letting_go, let_energy_go, store_energy, bide_on, bide_goes_on}
use Rattle.gen1_machine.specs.Charging.{make_current, begin_charge, end_charge, charge}
use Rattle.gen1_machine.specs.FixedDamage.{is_psywave, psywave, deal_fixed, fixed_damage, deal_everything, knock_out_by_type, knock_out}
use Rattle.gen1_machine.specs.Counter.{counter_by, counter}
use Rattle.gen1_machine.specs.HitEffects.{set_planned, plan_two_more, plan_hits, recoil, drain_by, drain, start_rage, explode, hit_effect}
use Rattle.gen1_machine.specs.ManyHits.{crash, missed_move, note_effectiveness, note_critical, note_first_hit, count_hit, build_rage, hit_once, hit_again, hits_left, note_hit_count, other_hits, hits}
use Rattle.gen1_machine.specs.Ruling.{Ruling}
use Rattle.gen1_machine.specs.Action.{set_going_on, see_if_going_on, gate_or_held, move_taken_in, spend_pp, use_move, prelude, lead_up, usual_damage, damage_of, strike, carry_out, action_parts, keep_accuracy, begin, resume, act}
use Rattle.gen1_machine.proofs.Costs.{Bound, Costs, Reached, all_covered, goes, ends, both, may_stop, either, ◌⨟◌, ◌⊳◌, more, ends-reached, choose-costs, unchosen-costs, given-costs, stay-costs, stop-costs, active-costs, conditions-costs, member-costs, damage-costs, action-costs, action_else-costs, fault-costs, draw-costs, until-costs, note-costs}
use Rattle.gen1_machine.proofs.EffectCosts.{starts-costs, lasts-costs, ends-costs, missed-costs, lose-costs, gain-costs, cant-costs, gate-costs, land-costs, hit_or_miss-costs, note_miss-costs, loops_late, RulingCosts, raise-costs, confuse-costs, early_effect-costs, late_effect-costs, late_effect-loops, side_effect-costs, side_effect-loops, late-quiet}

module _ {limit : ℕ} where
  -- Before any damage

  going-costs : (going_on : Bool) → Costs limit (set_going_on going_on) (goes 0 0 0)
  unfolding set_going_on
  going-costs going_on = action_else-costs _ (λ a. refl)

  pub see_if-costs : (s : Side) (pick : Pick) → Costs limit (see_if_going_on s pick) (goes 0 0 0)
  unfolding see_if_going_on
  see_if-costs s pick = given-costs _ going-costs

  pub gate_or_held-costs : (s : Side) (pick : Pick) → Costs limit (gate_or_held s pick) (may_stop 2 2 8 2 3 17)
  unfolding gate_or_held
  gate_or_held-costs s Held = more (cant-costs s _) refl
  gate_or_held-costs s (Use used) = gate-costs s (Use used)
  gate_or_held-costs s Continue = gate-costs s Continue
  gate_or_held-costs s Idle = gate-costs s Idle

  letting_go-costs : Costs limit set_letting_go (goes 0 0 0)
  unfolding set_letting_go
  letting_go-costs = action_else-costs _ (λ a. refl)

  pub let_energy_go-costs : (s : Side) (energy : ℕ) → Costs limit (let_energy_go s energy) (goes 0 1 4)
  unfolding let_energy_go
  let_energy_go-costs s energy = ends-costs s _ _ ⊳ damage-costs _ ⊳ letting_go-costs ⊳ missed-costs _

  pub store-costs : (s : Side) (damage : ℕ) → Costs limit (store_energy s damage) (ends 0 1 4)
  unfolding store_energy
  store-costs s damage = lasts-costs s _ _ ⊳ stop-costs

  pub bide_on-costs : (s : Side) (o : Option Storing) (damage : ℕ) → Costs limit (bide_on s o damage) (both 0 1 4)
  unfolding bide_on
  bide_on-costs s None damage = more stay-costs refl
  bide_on-costs s (Some b) damage = choose-costs _ (let_energy_go-costs s _) (store-costs s damage)

  pub bide_goes_on-costs : (s : Side) → Costs limit (bide_goes_on s) (both 0 1 4)
  unfolding bide_goes_on
  bide_goes_on-costs s = given-costs _ (λ b. given-costs _ (bide_on-costs s b))

  pub current-costs : (s : Side) (pick : Pick) → Costs limit (make_current s pick) (goes 0 0 0)
  unfolding make_current
  current-costs s pick = given-costs _ (λ a. active-costs s _)

  pub begin_charge-costs : (s : Side) (pick : Pick) (move : Move) → Costs limit (begin_charge s pick move) (ends 0 1 4)
  unfolding begin_charge
  begin_charge-costs s pick move = current-costs s pick ⊳ conditions-costs s _ ⊳ choose-costs _ (conditions-costs s _) stay-costs
      ⊳ note-costs _ 4 (λ f. lit≤ tt) ⊳ stop-costs

  pub end_charge-costs : (s : Side) → Costs limit (end_charge s) (goes 0 0 0)
  unfolding end_charge
  end_charge-costs s = conditions-costs s _ ⊳ conditions-costs s _

  pub charge-costs : (s : Side) (pick : Pick) (move : Move) → Costs limit (charge s pick move) (may_stop 0 0 0 0 1 4)
  unfolding charge
  charge-costs s pick move = choose-costs _ (choose-costs _ (end_charge-costs s) (begin_charge-costs s pick move)) stay-costs

  pub spend-costs : (s : Side) → Costs limit (spend_pp s) (goes 0 0 0)
  unfolding spend_pp
  spend-costs s = given-costs _ (λ used. member-costs s _)

  pub use_move-costs : (s : Side) (pick : Pick) (move : Move) → Costs limit (use_move s pick move) (goes 0 1 6)
  unfolding use_move
  use_move-costs s pick move = current-costs s pick ⊳ choose-costs _ stay-costs (spend-costs s) ⊳ choose-costs _ (note-costs _ 6 (λ f. lit≤ tt)) stay-costs

  -- A count of hits or of turns takes two draws at most.

  count_again-costs : (f : ℕ → Phase) → ((x : ℕ) → Costs limit (f (low_bits 2 x)) (goes 0 0 0)) → (c : ℕ) → Costs limit (count_again f c) (goes 0 0 0)
  unfolding count_again
  count_again-costs f h c = h c

  count_by-costs : (f : ℕ → Phase) → ((x : ℕ) → Costs limit (f (low_bits 2 x)) (goes 0 0 0)) → (b : ℕ) → Costs limit (count_by_draw f b) (goes 1 0 0)
  unfolding count_by_draw
  count_by-costs f h b = choose-costs _ (h b) (draw-costs (count_again-costs f h))

  pub draw_count-costs : (f : ℕ → Phase) → ((x : ℕ) → Costs limit (f (low_bits 2 x)) (goes 0 0 0)) → Costs limit (draw_count f) (goes 2 0 0)
  unfolding draw_count
  draw_count-costs f h = draw-costs (count_by-costs f h)

  trap_for-costs : (s : Side) (n : ℕ) → Costs limit (trap_for s n) (goes 0 0 0)
  unfolding trap_for
  trap_for-costs s n = conditions-costs s _

  pub trap-costs : (s : Side) → Costs limit (trap s) (goes 2 0 0)
  unfolding trap
  trap-costs s = choose-costs _ (conditions-costs s _) (conditions-costs (other s) _ ⊳ draw_count-costs (trap_for s) (λ x. trap_for-costs s _))

  pub thrash_less-costs : (s : Side) (o : Option ℕ) → Costs limit (thrash_less s o) (goes 1 1 4)
  unfolding thrash_less
  thrash_less-costs s None = more stay-costs refl
  thrash_less-costs s (Some turns) = choose-costs _ (conditions-costs s _ ⊳ confuse-costs s) (conditions-costs s _)

  thrash_for-costs : (s : Side) (move : Move) (b : ℕ) → Costs limit (thrash_for s move b) (goes 0 0 0)
  unfolding thrash_for
  thrash_for-costs s move b = conditions-costs s _ ⊳ active-costs s _

  pub thrash-costs : (s : Side) (move : Move) → Costs limit (thrash_about s move) (goes 1 1 4)
  unfolding thrash_about
  thrash-costs s move = choose-costs _ (given-costs _ (thrash_less-costs s)) (draw-costs (thrash_for-costs s move))

  pub prelude-costs : (s : Side) (move : Move) → Costs limit (prelude s move) (goes 3 1 4)
  unfolding prelude
  prelude-costs s move = choose-costs _ (trap-costs s) stay-costs ⊳ choose-costs _ (thrash-costs s move) stay-costs

  pub lead_up-costs : (s : Side) (pick : Pick) (move : Move) → Costs limit (lead_up s pick move) (may_stop 3 2 10 2 3 19)
  unfolding lead_up
  lead_up-costs s pick move = charge-costs s pick move ⊳ use_move-costs s pick move
      ⊳ choose-costs _ (early_effect-costs s move move.effect ⊳ stop-costs) stay-costs
      ⊳ prelude-costs s move

  -- Damage has one loop at most.

  set_critical-costs : (critical : Bool) → Costs limit (set_critical critical) (goes 0 0 0)
  unfolding set_critical
  set_critical-costs critical = action_else-costs _ (λ a. refl)

  critical_by-costs : (s : Side) (move : Move) (b : ℕ) → Costs limit (critical_by s move b) (goes 0 0 0)
  unfolding critical_by
  critical_by-costs s move b = given-costs _ (λ bound. set_critical-costs _)

  pub critical-costs : (s : Side) (move : Move) → Costs limit (roll_critical s move) (goes 1 0 0)
  unfolding roll_critical
  critical-costs s move = draw-costs (critical_by-costs s move)

  varied_by-costs : (d b : ℕ) → Costs limit (varied_by d b) (goes 0 0 0)
  unfolding varied_by
  varied_by-costs d b = damage-costs _

  pub vary-costs : (d : ℕ) → Costs limit (vary d) (goes 2304 0 0)
  unfolding vary
  vary-costs d = choose-costs _ (damage-costs d) (until-costs is_factor (varied_by-costs d))

  through_types-costs : Costs limit set_through_types (goes 0 0 0)
  unfolding set_through_types
  through_types-costs = action_else-costs _ (λ a. refl)

  pub damage_from-costs : (n : DamageNumbers) (o : Option ℕ) → Costs limit (damage_from n o) (may_stop 2304 0 0 0 0 0)
  unfolding damage_from
  damage_from-costs n None = more (fault-costs 1) refl
  damage_from-costs n (Some d) = more (through_types-costs ⊳ missed-costs _ ⊳ vary-costs (type_steps d n)) refl

  pub roll_damage-costs : (s : Side) (move : Move) → Costs limit (roll_damage s move) (may_stop 2304 0 0 0 0 0)
  unfolding roll_damage
  roll_damage-costs s move = given-costs _ (λ n. damage_from-costs n (before_types n))

  pub usual-costs : (s : Side) (move : Move) → Costs limit (usual_damage s move) (both 2306 0 0)
  unfolding usual_damage
  usual-costs s move = more (damage-costs 0 ⊳ critical-costs s move ⊳ roll_damage-costs s move ⊳ hit_or_miss-costs s move) refl

  pub psywave-costs : (level : ℕ) → Costs limit (psywave level) (may_stop 2304 0 0 0 0 0)
  unfolding psywave
  psywave-costs level = choose-costs _ (fault-costs 2) (until-costs (is_psywave level) damage-costs)

  pub deal_fixed-costs : (s : Side) (move : ℕ) → Costs limit (deal_fixed s move) (may_stop 2304 0 0 0 0 0)
  unfolding deal_fixed
  deal_fixed-costs s move = choose-costs _ (damage-costs 20) (choose-costs _ (damage-costs 40)
      (choose-costs _ (given-costs _ (λ m. psywave-costs _)) (choose-costs _ (given-costs _ (λ m. damage-costs _)) (given-costs _ (λ m. damage-costs _)))))

  pub fixed-costs : (s : Side) (move : Move) → Costs limit (fixed_damage s move) (both 2306 0 0)
  unfolding fixed_damage
  fixed-costs s move = more (hit_or_miss-costs s move ⊳ choose-costs _ stay-costs (deal_fixed-costs s move.number)) refl

  everything-costs : (b : ℕ) → Costs limit (deal_everything b) (goes 0 0 0)
  unfolding deal_everything
  everything-costs b = damage-costs _

  pub by_type-costs : (s : Side) (move : Move) → Costs limit (knock_out_by_type s move) (goes 2304 0 0)
  unfolding knock_out_by_type
  by_type-costs s move = choose-costs _ (missed-costs true) (until-costs is_factor everything-costs)

  pub knock_out-costs : (s : Side) (move : Move) → Costs limit (knock_out s move) (both 2306 0 0)
  unfolding knock_out
  knock_out-costs s move = more (damage-costs 0 ⊳ critical-costs s move
      ⊳ choose-costs _ (missed-costs true) (by_type-costs s move ⊳ hit_or_miss-costs s move)) refl

  counter_by-costs : (s : Side) (move : Move) (damage : ℕ) → Costs limit (counter_by s move damage) (goes 1 0 0)
  unfolding counter_by
  counter_by-costs s move damage = damage-costs _ ⊳ hit_or_miss-costs s move

  pub counter-costs : (s : Side) (move : Move) → Costs limit (counter s move) (both 2306 0 0)
  unfolding counter
  counter-costs s move = more (critical-costs s move ⊳ choose-costs _ (given-costs _ (counter_by-costs s move)) (missed-costs true)) refl

  pub damage_of-costs : (s : Side) (move : Move) (e : Effect) → Costs limit (damage_of s move e) (both 2306 0 0)
  unfolding damage_of
  damage_of-costs s move effects.Counter = counter-costs s move
  damage_of-costs s move effects.FixedDamage = fixed-costs s move
  damage_of-costs s move effects.SuperFang = fixed-costs s move
  damage_of-costs s move effects.OneHitKnockOut = knock_out-costs s move
  damage_of-costs s move _ = more (choose-costs _ (usual-costs s move) (damage-costs 0)) refl

  -- An action whose loop comes late has none in its damage.
  pub damage_of-late : (s : Side) (move : Move) (e : Effect) → move.power ≡ 0 → loops_late e ≡ true → Costs limit (damage_of s move e) (goes 0 0 0)
  unfolding damage_of
  damage_of-late s move effects.InflictSleep z h = unchosen-costs _ (nat_lt 0 move.power) (ap (λ n. nat_lt 0 n) z) (damage-costs 0)
  damage_of-late s move effects.Disable z h = unchosen-costs _ (nat_lt 0 move.power) (ap (λ n. nat_lt 0 n) z) (damage-costs 0)
  damage_of-late s move _ z h = absurd (true≢false (sym h))

  -- After a hit

  pub recoil-costs : (s : Side) (move : Move) → Costs limit (recoil s move) (goes 0 1 9)
  unfolding recoil
  recoil-costs s move = given-costs _ (lose-costs s _)

  drain_by-costs : (s : Side) (n : ℕ) → Costs limit (drain_by s n) (goes 0 1 8)
  unfolding drain_by
  drain_by-costs s n = damage-costs n ⊳ gain-costs s n

  pub drain-costs : (s : Side) → Costs limit (drain s) (goes 0 1 8)
  unfolding drain
  drain-costs s = given-costs _ (drain_by-costs s)

  pub rage-costs : (s : Side) → Costs limit (start_rage s) (goes 0 1 4)
  unfolding start_rage
  rage-costs s = choose-costs _ stay-costs (starts-costs s _ _)

  pub explode-costs : (s : Side) → Costs limit (explode s) (goes 0 0 0)
  unfolding explode
  explode-costs s = member-costs s _ ⊳ conditions-costs s _

  pub build_rage-costs : (s : Side) → Costs limit (build_rage s) (goes 0 1 5)
  unfolding build_rage
  build_rage-costs s = choose-costs _ (raise-costs s s Attack 1 stay-costs) stay-costs

  count_hit-costs : Costs limit count_hit (goes 0 0 0)
  unfolding count_hit
  count_hit-costs = action_else-costs _ (λ a. refl)

  -- A miss, and the reports of the first hit

  crash-costs : (s : Side) → Costs limit (crash s) (goes 0 1 9)
  unfolding crash
  crash-costs s = lose-costs s _ 1 ⊳ damage-costs 1

  pub missed_move-costs : (s : Side) (move : Move) → Costs limit (missed_move s move) (ends 0 2 12)
  unfolding missed_move
  missed_move-costs s move = note_miss-costs s move ⊳ choose-costs _ (crash-costs s) stay-costs ⊳ choose-costs _ (explode-costs s) stay-costs ⊳ stop-costs

  effectiveness-costs : (target : Side) (n : DamageNumbers) → Costs limit (note_effectiveness target n) (goes 0 1 3)
  unfolding note_effectiveness
  effectiveness-costs target n = choose-costs _ (note-costs _ 3 (λ f. lit≤ tt)) (choose-costs _ (note-costs _ 3 (λ f. lit≤ tt)) stay-costs)

  note_critical-costs : (target : Side) → Costs limit (note_critical target) (goes 0 1 3)
  unfolding note_critical
  note_critical-costs target = choose-costs _ (note-costs _ 3 (λ f. lit≤ tt)) stay-costs

  pub first_hit-costs : (s : Side) (move : Move) → Costs limit (note_first_hit s move) (goes 0 2 6)
  unfolding note_first_hit
  first_hit-costs s move = choose-costs _ (note_critical-costs (other s) ⊳ given-costs _ (effectiveness-costs (other s))) stay-costs

  hit_count-costs : (target : Side) (made : ℕ) → Costs limit (note_hit_count target made) (goes 0 1 4)
  unfolding note_hit_count
  hit_count-costs target made = note-costs _ 4 (λ f. lit≤ tt)

-- At most five hits are planned.

planned-few : (x : ℕ) → low_bits 2 x + 2 ≤ 5
planned-few x = let h : x % 4 < 4 = mod-lt x (lit≤ tt) in omega (arith, h)

set_planned-costs : (n : ℕ) → n ≤ 5 → Costs 5 (set_planned n) (goes 0 0 0)
unfolding set_planned
set_planned-costs n h = action-costs _ (λ a i. h)

two_more-costs : (n : ℕ) → n + 2 ≤ 5 → Costs 5 (plan_two_more n) (goes 0 0 0)
unfolding plan_two_more
two_more-costs n h = set_planned-costs (n + 2) h

plan-costs : Costs 5 plan_hits (goes 2 0 0)
unfolding plan_hits
plan-costs = choose-costs _ stay-costs (draw_count-costs plan_two_more (λ x. two_more-costs (low_bits 2 x) (planned-few x)))

hit_effect-costs : (s : Side) (move : Move) (e : Effect) → Costs 5 (hit_effect s move e) (goes 2 1 9)
unfolding hit_effect
hit_effect-costs s move effects.MultiHit = more plan-costs refl
hit_effect-costs s move effects.DoubleHit = more (set_planned-costs 2 (lit≤ tt)) refl
hit_effect-costs s move effects.Twineedle = more (set_planned-costs 2 (lit≤ tt)) refl
hit_effect-costs s move effects.Recoil = more (recoil-costs s move) refl
hit_effect-costs s move effects.Drain = more (drain-costs s) refl
hit_effect-costs s move effects.DreamEater = more (drain-costs s) refl
hit_effect-costs s move effects.Rage = more (rage-costs s) refl
hit_effect-costs s move effects.Explode = more (explode-costs s) refl
hit_effect-costs s move _ = more stay-costs refl

-- A one-hit move has no other effect after its hit.
hit_with-costs : (s : Side) (move : Move) (e : Effect) → Costs 5 (land (other s) ▸ only (knocks_out e) (note λ f. events.OneHitKnockOut) ▸ count_hit
    ▸ unless broke_substitute (hit_effect s move e)
    ▸ unless (has_fallen (other s)) (build_rage (other s))) (goes 2 3 23)
unfolding hit_effect
hit_with-costs s move effects.OneHitKnockOut = more (land-costs (other s) ⊳ choose-costs _ (note-costs _ 1 (λ f. lit≤ tt)) stay-costs ⊳ count_hit-costs
    ⊳ choose-costs _ stay-costs stay-costs ⊳ choose-costs _ stay-costs (build_rage-costs (other s))) refl
hit_with-costs s move e = more (land-costs (other s) ⊳ unchosen-costs _ false refl stay-costs ⊳ count_hit-costs
    ⊳ choose-costs _ stay-costs (hit_effect-costs s move e) ⊳ choose-costs _ stay-costs (build_rage-costs (other s))) refl

hit_once-costs : (s : Side) (move : Move) → Costs 5 (hit_once s move) (goes 2 3 23)
unfolding hit_once
hit_once-costs s move = hit_with-costs s move move.effect

-- A move of several hits has no other event after them.

several-effect : (s : Side) (move : Move) (e : Effect) → hits_more e ≡ true → Costs 5 (hit_effect s move e) (goes 2 0 0)
unfolding hit_effect
several-effect s move effects.MultiHit h = plan-costs
several-effect s move effects.DoubleHit h = more (set_planned-costs 2 (lit≤ tt)) refl
several-effect s move effects.Twineedle h = more (set_planned-costs 2 (lit≤ tt)) refl
several-effect s move _ h = absurd (true≢false (sym h))

several-no_knock_out : (e : Effect) → hits_more e ≡ true → knocks_out e ≡ false
several-no_knock_out effects.OneHitKnockOut h = absurd (true≢false (sym h))
several-no_knock_out _ h = refl

several-costs : (s : Side) (move : Move) → hits_more move.effect ≡ true → Costs 5 (hit_once s move) (goes 2 2 14)
unfolding hit_once
several-costs s move h = land-costs (other s) ⊳ unchosen-costs _ (knocks_out move.effect) (several-no_knock_out move.effect h) stay-costs
    ⊳ count_hit-costs ⊳ choose-costs _ stay-costs (several-effect s move move.effect h) ⊳ choose-costs _ stay-costs (build_rage-costs (other s))

abbrev more_bound : ℕ → Bound
more_bound zero = goes 0 0 0
more_bound (suc k) = either (goes 0 0 0) (goes 2 2 14 ⨟ more_bound k)

hit_again-costs : (k : ℕ) (s : Side) (move : Move) → hits_more move.effect ≡ true → Costs 5 (hit_again k s move) (more_bound k)
unfolding hit_again
hit_again-costs zero s move h = stay-costs
hit_again-costs (suc k) s move h = choose-costs _ stay-costs (several-costs s move h ⊳ hit_again-costs k s move h)

four-more : (k : ℕ) → k ≤ 4 → all_covered (more_bound k) (goes 8 8 56) ≡ true
four-more zero h = refl
four-more (suc zero) h = refl
four-more (suc (suc zero)) h = refl
four-more (suc (suc (suc zero))) h = refl
four-more (suc (suc (suc (suc zero)))) h = refl
four-more (suc (suc (suc (suc (suc k))))) h = absurd (omega (arith, h))

left-costs : (s : Side) (move : Move) → hits_more move.effect ≡ true → Costs 5 (given hits_left (λ k. hit_again k s move)) (goes 8 8 56)
unfolding given
left-costs s move h = record {
  cost = λ p r i.
      (more {c = goes 8 8 56} (hit_again-costs (hits_left p) s move h) (four-more (hits_left p) (omega (arith, i)))).cost p r i;
}

other_hits-costs : (s : Side) (move : Move) → hits_more move.effect ≡ true → Costs 5 (other_hits s move) (goes 8 9 60)
unfolding other_hits
other_hits-costs s move h = left-costs s move h ⊳ choose-costs _ (given-costs _ (hit_count-costs (other s))) stay-costs

hits-costs : (s : Side) (move : Move) → Costs 5 (hits s move) (goes 10 13 80)
unfolding hits
hits-costs s move = by (hits_more move.effect) refl
  where
    by : (several : Bool) → hits_more move.effect ≡ several → Costs 5 (hits s move) (goes 10 13 80)
    by true e = more (first_hit-costs s move ⊳ several-costs s move e ⊳ choose-costs _ (other_hits-costs s move e) stay-costs) refl
    by false e = more (first_hit-costs s move ⊳ hit_once-costs s move ⊳ unchosen-costs _ (hits_more move.effect) e stay-costs) refl

-- An action has one loop at most.

strike-costs : (r : Ruling) → RulingCosts 5 r → (s : Side) (move : Move) → loops_late move.effect ≡ false → Costs 5 (strike r s move) (both 12 14 85)
unfolding strike
strike-costs r h s move e = more (choose-costs _ (missed_move-costs s move) stay-costs ⊳ hits-costs s move
    ⊳ choose-costs _ stay-costs (side_effect-costs r h s move move.effect e)) refl

strike-loops : (r : Ruling) → RulingCosts 5 r → (s : Side) (move : Move) → Costs 5 (strike r s move) (both 2316 14 85)
unfolding strike
strike-loops r h s move = more (choose-costs _ (missed_move-costs s move) stay-costs ⊳ hits-costs s move
    ⊳ choose-costs _ stay-costs (side_effect-loops r h s move move.effect)) refl

carry_out-costs : (r : Ruling) → RulingCosts 5 r → (s : Side) (pick : Pick) (move : Move) → (loops_late move.effect ≡ true → move.power ≡ 0)
    → Costs 5 (carry_out r s pick move) (both 2321 17 99)
unfolding carry_out
carry_out-costs r h s pick move quiet = by (loops_late move.effect) refl
  where
    by : (late : Bool) → loops_late move.effect ≡ late → Costs 5 (carry_out r s pick move) (both 2321 17 99)
    by false e = more (bide_goes_on-costs s
        ⊳ choose-costs _ stay-costs (lead_up-costs s pick move)
        ⊳ choose-costs _ stay-costs (damage_of-costs s move move.effect)
        ⊳ choose-costs _ stay-costs (choose-costs _ (late_effect-costs r s move move.effect e ⊳ stop-costs) stay-costs)
        ⊳ strike-costs r h s move e) refl
    by true e = more (bide_goes_on-costs s
        ⊳ choose-costs _ stay-costs (lead_up-costs s pick move)
        ⊳ choose-costs _ stay-costs (damage_of-late s move move.effect (quiet e) e)
        ⊳ choose-costs _ stay-costs (choose-costs _ (late_effect-loops r h s move move.effect ⊳ stop-costs) stay-costs)
        ⊳ strike-loops r h s move) refl

taken-costs : (r : Ruling) → RulingCosts 5 r → (s : Side) (pick : Pick) → Costs 5 (given (λ p. move_taken_in s pick p.field) (carry_out r s pick)) (both 2321 17 99)
unfolding given
taken-costs r h s pick = record {
  cost = λ p i j.
      (carry_out-costs r h s pick (move_taken_in s pick p.field)
      (late-quiet (number_in (used_by pick (active s p).current_move) (member s p).moves))).cost p i j;
}

parts-costs : (r : Ruling) → RulingCosts 5 r → (s : Side) (pick : Pick) → Costs 5 (action_parts r s pick) (both 2323 19 107)
unfolding action_parts
parts-costs r h s pick = more (gate_or_held-costs s pick ⊳ see_if-costs s pick ⊳ taken-costs r h s pick) refl

-- A new action plans no hits, whatever was planned before.
pub act-reached : (r : Ruling) → RulingCosts 5 r → (s : Side) (pick : Pick) (p : Progress) → p.stopped ≡ false → span p.stream ≤ 2304
    → Reached 5 p (act r s pick p) 2323 19 107
unfolding act resume keep_accuracy begin given on_action on_active on_field
act-reached r h s pick p i spans =
    let q : Progress = begin s p in
    let x : Progress = action_parts r s pick q in
    let reached : Reached 5 q x 2323 19 107 = ends-reached q x 2323 19 107 ((parts-costs r h s pick).cost q i (lit≤ tt, spans)) in
    let w = reached.spends in
    record {
      spends = record { forward = w.forward; drawn = w.drawn; new = w.new; appended = w.appended; counted = w.counted; coded = w.coded };
      limited = reached.limited;
    }
