-- A story stays true through an action.
use Rattle.std.proofs.Common.{Bool, List, None, Option, Some, ap, false, map, refl, subst, suc, sym, true, true≢false, zero, ℕ, ◌+◌, ◌++◌, ◌-◌, ◌∙◌, ◌≡◌}
use Rattle.gen1_tables.specs.declared.effect.Stat.TheVariants.{Attack}
use Rattle.gen1_tables.specs.declared.effect.Effect.{Effect}
use Rattle.gen1_tables.specs.declared.effect.Effect.TheVariants as effects
use Rattle.gen1_stats.specs.declared.member.KnownMove.{KnownMove}
use Rattle.gen1_rolls.specs.Streams.{low_bits}
use Rattle.gen1_machine.specs.declared.side.Side.{Side}
use Rattle.gen1_machine.specs.declared.event.Volatile.TheVariants as volatiles
use Rattle.gen1_machine.specs.declared.event.Event.{Event}
use Rattle.gen1_machine.specs.declared.event.Event.TheVariants as events
use Rattle.gen1_machine.specs.declared.side.Pick.{Pick}
use Rattle.gen1_machine.specs.declared.side.Pick.TheVariants.{Use, Continue, Idle, Held}
use Rattle.gen1_machine.specs.declared.side.UsedMove.{UsedMove}
use Rattle.gen1_machine.specs.declared.side.UsedMove.TheVariants.{Nothing, Slot, Struggle}
use Rattle.gen1_machine.specs.Sides.{other}
use Rattle.gen1_machine.specs.Conditions.{without_seed, Storing}
use Rattle.gen1_machine.specs.State.{after_use, changed_active, changed_conditions, changed_member, fallen, known_in, with_kept_accuracy, with_less_pp, with_pp_spent, who_in, is_over, Field}
use Rattle.gen1_stats.specs.Members.{nothing_known}
use Rattle.gen1_tables.specs.Effects.{explodes, hits_more, recharges}
use Rattle.gen1_machine.specs.Moves.{move_at, Move}
use Rattle.gen1_machine.specs.Progress.{Phase, given, note, on_field, on_active, on_conditions, on_member, on_action, Progress}
use Rattle.gen1_machine.specs.CriticalHits.{set_critical, critical_by, roll_critical}
use Rattle.gen1_machine.specs.Damage.{before_types, is_factor, type_steps, varied_by, vary, set_through_types, damage_from, roll_damage, DamageNumbers}
use Rattle.gen1_machine.specs.GoingOn.{count_again, count_by_draw, draw_count, trap_for, trap, thrash_less, thrash_for, thrash_about, set_letting_go, let_energy_go, store_energy, bide_on, bide_goes_on}
use Rattle.gen1_machine.specs.Charging.{make_current, begin_charge, end_charge, charge}
use Rattle.gen1_machine.specs.FixedDamage.{is_psywave, psywave, deal_fixed, fixed_damage, deal_everything, knock_out_by_type, knock_out}
use Rattle.gen1_machine.specs.Counter.{counter_by, counter}
use Rattle.gen1_machine.specs.SideEffects.{kept_away_effect, side_effect}
use Rattle.gen1_machine.specs.HitEffects.{set_planned, plan_two_more, plan_hits, recoil, drain_by, drain, start_rage, explode, hit_effect}
use Rattle.gen1_machine.specs.ManyHits.{crash, missed_move, note_effectiveness, note_critical, note_first_hit, count_hit, build_rage, hit_once, hit_again, note_hit_count, other_hits, hits}
use Rattle.gen1_machine.specs.Ruling.{Ruling}
use Rattle.gen1_machine.specs.Action.{set_going_on, see_if_going_on, gate_or_held, move_taken_in, spend_pp, use_move, prelude, lead_up, usual_damage, damage_of, strike, carry_out, action_parts, accuracy_to_keep, keep_accuracy, begin, resume, act}
use Rattle.gen1_machine.proofs.Watching.{seeing, Runs, Rests, Lands, Leads, after-leads, before-leads, ◌⊳◌, choose-tells, if-sees, given-tells, stay-tells, stop-leads}
use Rattle.std.proofs.Math.Seq.{map-set_same}
use Rattle.gen1_player.proofs.Facts.{storing-calm, Sizes, Tame, traits}
use Rattle.gen1_player.proofs.Stories.{mild-tells, takes-tells, Outline, Story, May, Now, MayFall, Tells, at_end, begun-conditions, begun-member, may-active, loosened, draw-tells, until-tells, stop-tells, fault-tells, action-tells, active-tells, conditions-tells, pays-tells, damage-tells, note-tells, starts-tells, ends-tells, lasts-tells, lose-tells, gain-tells, Dozing}
use Rattle.gen1_player.proofs.ToldGate.{missed-tells, cant-tells, gate-tells, land-tells, hit_or_miss-tells, note_miss-tells}
use Rattle.gen1_player.proofs.ToldEffects.{heals, may_poison_by, not-toxic, IsDue, Poisons, RulingTells, now-due, due-field, raise-tells, raise-falls, confuse-tells, early_effect-tells, late_effect-tells, side_effect-tells}

-- An explosion makes one hit.
one-explosion : (e : Effect) → explodes e ≡ true → hits_more e ≡ false
one-explosion effects.Explode h = refl
one-explosion _ h = absurd (true≢false (sym h))

-- Spending PP leaves which moves a member knows.
spent-same : (used : UsedMove) (moves : List KnownMove) → map (λ (k : KnownMove). k.id) (after_use used moves) ≡ map (λ (k : KnownMove). k.id) moves
spent-same (Slot k) moves = map-set_same (λ (k : KnownMove). k.id) moves (k - 1) (with_less_pp (known_in k moves)) nothing_known refl
spent-same Nothing moves = refl
spent-same Struggle moves = refl

pub spent-tame : (used : UsedMove) → Tame (with_pp_spent used)
unfolding with_pp_spent
spent-tame used m = ap (λ (ids : List ℕ). record (traits m) { moves = ids }) (spent-same used m.moves)

-- That a side may use the move that it has taken up.
abbrev pub Says : Story → Sizes → List Event → Ruling → Type 0
Says v z pre r = (s : Side) (pick : Pick)
    → Leads (Now v z pre) (MayFall v z pre) (MayFall v z pre) (given (λ p. move_taken_in s pick p.field) (carry_out r s pick))

module _ {v : Story} {z : Sizes} {pre : List Event} (o : Outline v) where
  -- Before any damage, in an outline

  going-tells : (going_on : Bool) → Tells v z pre (set_going_on going_on)
  unfolding set_going_on seeing
  going-tells going_on = action-tells _

  pub see_if-tells : (s : Side) (pick : Pick) → Tells v z pre (see_if_going_on s pick)
  unfolding see_if_going_on seeing
  see_if-tells s pick = given-tells _ going-tells

  pub gate_or_held-tells : Dozing v → (s : Side) (pick : Pick) → Tells v z pre (gate_or_held s pick)
  unfolding gate_or_held seeing
  gate_or_held-tells w s Held = cant-tells o s _ refl
  gate_or_held-tells w s (Use used) = gate-tells o w s (Use used)
  gate_or_held-tells w s Continue = gate-tells o w s Continue
  gate_or_held-tells w s Idle = gate-tells o w s Idle

  letting_go-tells : Tells v z pre set_letting_go
  unfolding set_letting_go seeing
  letting_go-tells = action-tells _

  pub let_energy_go-tells : (s : Side) (energy : ℕ) → Tells v z pre (let_energy_go s energy)
  unfolding let_energy_go seeing
  let_energy_go-tells s energy = ends-tells s _ _ (λ c. refl) ⊳ damage-tells _ ⊳ letting_go-tells ⊳ missed-tells _

  pub store-tells : (s : Side) (damage : ℕ) → Tells v z pre (store_energy s damage)
  unfolding store_energy seeing
  store-tells s damage = lasts-tells s volatiles.Bide (λ w. refl) _ (storing-calm damage) ⊳ stop-tells

  pub bide_on-tells : (s : Side) (x : Option Storing) (damage : ℕ) → Tells v z pre (bide_on s x damage)
  unfolding bide_on seeing
  bide_on-tells s None damage = stay-tells
  bide_on-tells s (Some b) damage = choose-tells _ (let_energy_go-tells s _) (store-tells s damage)

  pub bide_goes_on-tells : (s : Side) → Tells v z pre (bide_goes_on s)
  unfolding bide_goes_on seeing
  bide_goes_on-tells s = given-tells _ (λ b. given-tells _ (bide_on-tells s b))

  pub current-tells : (s : Side) (pick : Pick) → Tells v z pre (make_current s pick)
  unfolding make_current seeing
  current-tells s pick = given-tells _ (λ a. takes-tells o s _)

  prepare-tells : {S : Progress → Type 0} (s : Side) (move : Move) → v.said s move
      → Leads (Now v z pre) (Now v z pre) S (note (λ f. events.Prepare (who_in s f) move.number))
  unfolding note
  prepare-tells s move k = record {
    leads = λ p r m.
        let event : Event = events.Prepare (who_in s p.field) move.number in
        Runs r (record { begun = m.begun; exact = at_end v.exact p.field pre p.events event (v.prepares s move k p.field (pre ++ p.events) m.begun.both m.exact) });
  }

  pub begin_charge-tells : (s : Side) (pick : Pick) (move : Move) → v.said s move → Tells v z pre (begin_charge s pick move)
  unfolding begin_charge seeing
  begin_charge-tells s pick move k = current-tells s pick ⊳ mild-tells o s _ (λ c. refl) ⊳ choose-tells _ (mild-tells o s _ (λ c. refl)) stay-tells
      ⊳ prepare-tells s move k ⊳ stop-tells

  pub end_charge-tells : (s : Side) → Tells v z pre (end_charge s)
  unfolding end_charge seeing
  end_charge-tells s = mild-tells o s _ (λ c. refl) ⊳ mild-tells o s _ (λ c. refl)

  pub charge-tells : (s : Side) (pick : Pick) (move : Move) → v.said s move → Tells v z pre (charge s pick move)
  unfolding charge seeing
  charge-tells s pick move k = choose-tells _ (choose-tells _ (end_charge-tells s) (begin_charge-tells s pick move k)) stay-tells

  pub spend-tells : (s : Side) (move : Move) → v.said s move → Tells v z pre (spend_pp s)
  unfolding spend_pp seeing
  spend-tells s move k = given-tells _ (λ used. pays-tells o s move k used)

  move-tells : {S : Progress → Type 0} (s : Side) (move : Move) → v.said s move
      → Leads (Now v z pre) (Now v z pre) S (note (λ f. events.Move (who_in s f) move.number (who_in (other s) f)))
  unfolding note
  move-tells s move k = record {
    leads = λ p r m.
        let event : Event = events.Move (who_in s p.field) move.number (who_in (other s) p.field) in
        Runs r (record { begun = m.begun; exact = at_end v.exact p.field pre p.events event (v.moves s move k p.field (pre ++ p.events) m.begun.both m.exact) });
  }

  pub use_move-tells : (s : Side) (pick : Pick) (move : Move) → v.said s move → Tells v z pre (use_move s pick move)
  unfolding use_move seeing
  use_move-tells s pick move k = current-tells s pick ⊳ choose-tells _ stay-tells (spend-tells s move k) ⊳ choose-tells _ (move-tells s move k) stay-tells

module _ {v : Story} {z : Sizes} {pre : List Event} where
  pub begin-tells : (s : Side) → Tells v z pre (begin s)
  unfolding begin
  begin-tells s = action-tells _

  -- A count of hits or of turns takes two draws at most

  count_again-tells : (f : ℕ → Phase) → ((x : ℕ) → Tells v z pre (f (low_bits 2 x))) → (c : ℕ) → Tells v z pre (count_again f c)
  unfolding count_again seeing
  count_again-tells f h c = h c

  count_by-tells : (f : ℕ → Phase) → ((x : ℕ) → Tells v z pre (f (low_bits 2 x))) → (b : ℕ) → Tells v z pre (count_by_draw f b)
  unfolding count_by_draw seeing
  count_by-tells f h b = choose-tells _ (h b) (draw-tells (count_again-tells f h))

  pub draw_count-tells : (f : ℕ → Phase) → ((x : ℕ) → Tells v z pre (f (low_bits 2 x))) → Tells v z pre (draw_count f)
  unfolding draw_count seeing
  draw_count-tells f h = draw-tells (count_by-tells f h)

  trap_for-tells : (s : Side) (n : ℕ) → Tells v z pre (trap_for s n)
  unfolding trap_for seeing
  trap_for-tells s n = conditions-tells s _ (λ c. refl)

  pub trap-tells : (s : Side) → Tells v z pre (trap s)
  unfolding trap seeing
  trap-tells s = choose-tells _ (conditions-tells s _ (λ c. refl)) (conditions-tells (other s) _ (λ c. refl) ⊳ draw_count-tells (trap_for s) (λ x. trap_for-tells s _))

  pub thrash_less-tells : (s : Side) (o : Option ℕ) → Tells v z pre (thrash_less s o)
  unfolding thrash_less seeing
  thrash_less-tells s None = stay-tells
  thrash_less-tells s (Some turns) = choose-tells _ (conditions-tells s _ (λ c. refl) ⊳ confuse-tells s) (conditions-tells s _ (λ c. refl))

  thrash_for-tells : (s : Side) (move : Move) (b : ℕ) → Tells v z pre (thrash_for s move b)
  unfolding thrash_for seeing
  thrash_for-tells s move b = conditions-tells s _ (λ c. refl) ⊳ active-tells s _ (λ a. refl)

  pub thrash-tells : (s : Side) (move : Move) → Tells v z pre (thrash_about s move)
  unfolding thrash_about seeing
  thrash-tells s move = choose-tells _ (given-tells _ (thrash_less-tells s)) (draw-tells (thrash_for-tells s move))

  pub prelude-tells : (s : Side) (move : Move) → Tells v z pre (prelude s move)
  unfolding prelude seeing
  prelude-tells s move = choose-tells _ (trap-tells s) stay-tells ⊳ choose-tells _ (thrash-tells s move) stay-tells

  -- Damage: one loop at most

  set_critical-tells : (critical : Bool) → Tells v z pre (set_critical critical)
  unfolding set_critical seeing
  set_critical-tells critical = action-tells _

  critical_by-tells : (s : Side) (move : Move) (b : ℕ) → Tells v z pre (critical_by s move b)
  unfolding critical_by seeing
  critical_by-tells s move b = given-tells _ (λ bound. set_critical-tells _)

  pub critical-tells : (s : Side) (move : Move) → Tells v z pre (roll_critical s move)
  unfolding roll_critical seeing
  critical-tells s move = draw-tells (critical_by-tells s move)

  varied_by-tells : (d b : ℕ) → Tells v z pre (varied_by d b)
  unfolding varied_by seeing
  varied_by-tells d b = damage-tells _

  pub vary-tells : (d : ℕ) → Tells v z pre (vary d)
  unfolding vary seeing
  vary-tells d = choose-tells _ (damage-tells d) (until-tells is_factor (varied_by-tells d))

  through_types-tells : Tells v z pre set_through_types
  unfolding set_through_types seeing
  through_types-tells = action-tells _

  pub damage_from-tells : (n : DamageNumbers) (o : Option ℕ) → Tells v z pre (damage_from n o)
  unfolding damage_from seeing
  damage_from-tells n None = fault-tells 1
  damage_from-tells n (Some d) = through_types-tells ⊳ missed-tells _ ⊳ vary-tells (type_steps d n)

  pub roll_damage-tells : (s : Side) (move : Move) → Tells v z pre (roll_damage s move)
  unfolding roll_damage seeing
  roll_damage-tells s move = given-tells _ (λ n. damage_from-tells n (before_types n))

  pub usual-tells : (s : Side) (move : Move) → Tells v z pre (usual_damage s move)
  unfolding usual_damage seeing
  usual-tells s move = damage-tells 0 ⊳ critical-tells s move ⊳ roll_damage-tells s move ⊳ hit_or_miss-tells s move

  pub psywave-tells : (level : ℕ) → Tells v z pre (psywave level)
  unfolding psywave seeing
  psywave-tells level = choose-tells _ (fault-tells 2) (until-tells (is_psywave level) damage-tells)

  pub deal_fixed-tells : (s : Side) (move : ℕ) → Tells v z pre (deal_fixed s move)
  unfolding deal_fixed seeing
  deal_fixed-tells s move = choose-tells _ (damage-tells 20) (choose-tells _ (damage-tells 40)
      (choose-tells _ (given-tells _ (λ m. psywave-tells _)) (choose-tells _ (given-tells _ (λ m. damage-tells _)) (given-tells _ (λ m. damage-tells _)))))

  pub fixed-tells : (s : Side) (move : Move) → Tells v z pre (fixed_damage s move)
  unfolding fixed_damage seeing
  fixed-tells s move = hit_or_miss-tells s move ⊳ choose-tells _ stay-tells (deal_fixed-tells s move.number)

  everything-tells : (b : ℕ) → Tells v z pre (deal_everything b)
  unfolding deal_everything seeing
  everything-tells b = damage-tells _

  pub by_type-tells : (s : Side) (move : Move) → Tells v z pre (knock_out_by_type s move)
  unfolding knock_out_by_type seeing
  by_type-tells s move = choose-tells _ (missed-tells true) (until-tells is_factor everything-tells)

  pub knock_out-tells : (s : Side) (move : Move) → Tells v z pre (knock_out s move)
  unfolding knock_out seeing
  knock_out-tells s move = damage-tells 0 ⊳ critical-tells s move
      ⊳ choose-tells _ (missed-tells true) (by_type-tells s move ⊳ hit_or_miss-tells s move)

  counter_by-tells : (s : Side) (move : Move) (damage : ℕ) → Tells v z pre (counter_by s move damage)
  unfolding counter_by seeing
  counter_by-tells s move damage = damage-tells _ ⊳ hit_or_miss-tells s move

  pub counter-tells : (s : Side) (move : Move) → Tells v z pre (counter s move)
  unfolding counter seeing
  counter-tells s move = critical-tells s move ⊳ choose-tells _ (given-tells _ (counter_by-tells s move)) (missed-tells true)

  pub damage_of-tells : (s : Side) (move : Move) (e : Effect) → Tells v z pre (damage_of s move e)
  unfolding damage_of seeing
  damage_of-tells s move effects.Counter = counter-tells s move
  damage_of-tells s move effects.FixedDamage = fixed-tells s move
  damage_of-tells s move effects.SuperFang = fixed-tells s move
  damage_of-tells s move effects.OneHitKnockOut = knock_out-tells s move
  damage_of-tells s move _ = choose-tells _ (usual-tells s move) (damage-tells 0)

  -- After a hit

  pub recoil-tells : (s : Side) (move : Move) → Tells v z pre (recoil s move)
  unfolding recoil seeing
  recoil-tells s move = given-tells _ (lose-tells s _ refl)

  drain_by-tells : (s : Side) (n : ℕ) → Tells v z pre (drain_by s n)
  unfolding drain_by seeing
  drain_by-tells s n = damage-tells n ⊳ gain-tells s n

  pub drain-tells : (s : Side) → Tells v z pre (drain s)
  unfolding drain seeing
  drain-tells s = given-tells _ (drain_by-tells s)

  pub rage-tells : (s : Side) → Tells v z pre (start_rage s)
  unfolding start_rage seeing
  rage-tells s = choose-tells _ stay-tells (starts-tells s _ _ (λ c. refl))

  pub build_rage-tells : (s : Side) → Tells v z pre (build_rage s)
  unfolding build_rage seeing
  build_rage-tells s = choose-tells _ (raise-tells s s Attack 1 stay-tells) stay-tells

  count_hit-tells : Tells v z pre count_hit
  unfolding count_hit seeing
  count_hit-tells = action-tells _

  -- A miss, and the reports of the first hit

  crash-tells : (s : Side) → Tells v z pre (crash s)
  unfolding crash seeing
  crash-tells s = lose-tells s _ refl 1 ⊳ damage-tells 1

  effectiveness-tells : (target : Side) (n : DamageNumbers) → Tells v z pre (note_effectiveness target n)
  unfolding note_effectiveness seeing
  effectiveness-tells target n = choose-tells _ (note-tells _ (λ f. refl)) (choose-tells _ (note-tells _ (λ f. refl)) stay-tells)

  note_critical-tells : (target : Side) → Tells v z pre (note_critical target)
  unfolding note_critical seeing
  note_critical-tells target = choose-tells _ (note-tells _ (λ f. refl)) stay-tells

  pub first_hit-tells : (s : Side) (move : Move) → Tells v z pre (note_first_hit s move)
  unfolding note_first_hit seeing
  first_hit-tells s move = choose-tells _ (note_critical-tells (other s) ⊳ given-tells _ (effectiveness-tells (other s))) stay-tells

  hit_count-tells : (target : Side) (made : ℕ) → Tells v z pre (note_hit_count target made)
  unfolding note_hit_count seeing
  hit_count-tells target made = note-tells _ (λ f. refl)

  -- The number of planned hits doesn't show

  set_planned-tells : (n : ℕ) → Tells v z pre (set_planned n)
  unfolding set_planned
  set_planned-tells n = action-tells _

  two_more-tells : (n : ℕ) → Tells v z pre (plan_two_more n)
  unfolding plan_two_more
  two_more-tells n = set_planned-tells (n + 2)

  plan-tells : Tells v z pre plan_hits
  unfolding plan_hits
  plan-tells = choose-tells _ stay-tells (draw_count-tells plan_two_more (λ x. two_more-tells (low_bits 2 x)))

  -- An explosion makes its user fall without an event

  explosion-ends : {S : Progress → Type 0} (s : Side) → v.upright s
      → Leads (IsDue v z pre (changed_member s fallen)) (MayFall v z pre) S (on_field (changed_conditions s without_seed))
  unfolding on_field
  explosion-ends s u = record {
    leads = λ p r m.
        let f = m.before in
        Runs r (subst (λ (x : Field). May v z pre (changed_conditions s without_seed x) p.events) (sym m.now) (record {
          begun = begun-conditions s without_seed (changed_member s fallen f) (begun-member s fallen f m.held.begun);
          loose = v.explodes s u f (pre ++ p.events) m.held.begun.both m.held.exact;
        }));
  }

  explode-tells : (s : Side) → v.upright s → Leads (Now v z pre) (MayFall v z pre) (MayFall v z pre) (explode s)
  unfolding explode on_member on_conditions
  explode-tells s u = before-leads now-due (due-field (changed_member s fallen) (λ f. f)) ⊳ explosion-ends s u

  -- The rage of a member that was hit by an explosion builds after the fall.
  build_rage-falls : (t : Side) → Leads (MayFall v z pre) (MayFall v z pre) (MayFall v z pre) (build_rage t)
  unfolding build_rage
  build_rage-falls t = choose-tells _ (raise-falls t t Attack 1 stay-tells) stay-tells

  -- Hits

  hit_effect-tells : (s : Side) (move : Move) (e : Effect) → explodes e ≡ false → Tells v z pre (hit_effect s move e)
  unfolding hit_effect
  hit_effect-tells s move effects.MultiHit h = plan-tells
  hit_effect-tells s move effects.DoubleHit h = set_planned-tells 2
  hit_effect-tells s move effects.Twineedle h = set_planned-tells 2
  hit_effect-tells s move effects.Recoil h = recoil-tells s move
  hit_effect-tells s move effects.Drain h = drain-tells s
  hit_effect-tells s move effects.DreamEater h = drain-tells s
  hit_effect-tells s move effects.Rage h = rage-tells s
  hit_effect-tells s move effects.Explode h = absurd (true≢false h)
  hit_effect-tells s move _ h = stay-tells

  hit_effect-falls : (s : Side) (move : Move) (e : Effect) → v.upright s → explodes e ≡ true → Leads (Now v z pre) (MayFall v z pre) (MayFall v z pre) (hit_effect s move e)
  unfolding hit_effect
  hit_effect-falls s move effects.Explode u h = explode-tells s u
  hit_effect-falls s move _ u h = absurd (true≢false (sym h))

  hit_once-tells : (s : Side) (move : Move) → explodes move.effect ≡ false → Tells v z pre (hit_once s move)
  unfolding hit_once seeing
  hit_once-tells s move h = land-tells (other s) ⊳ choose-tells _ (note-tells _ (λ f. refl)) stay-tells ⊳ count_hit-tells
      ⊳ choose-tells _ stay-tells (hit_effect-tells s move move.effect h) ⊳ choose-tells _ stay-tells (build_rage-tells (other s))

  hit_once-falls : (s : Side) (move : Move) → v.upright s → explodes move.effect ≡ true → Leads (Now v z pre) (MayFall v z pre) (MayFall v z pre) (hit_once s move)
  unfolding hit_once seeing
  hit_once-falls s move u h = land-tells (other s) ⊳ choose-tells _ (note-tells _ (λ f. refl)) stay-tells ⊳ count_hit-tells
      ⊳ choose-tells _ (after-leads loosened stay-tells) (hit_effect-falls s move move.effect u h) ⊳ choose-tells _ stay-tells (build_rage-falls (other s))

  hit_again-tells : (k : ℕ) (s : Side) (move : Move) → explodes move.effect ≡ false → Tells v z pre (hit_again k s move)
  unfolding hit_again
  hit_again-tells zero s move h = stay-tells
  hit_again-tells (suc k) s move h = choose-tells _ stay-tells (hit_once-tells s move h ⊳ hit_again-tells k s move h)

  other_hits-tells : (s : Side) (move : Move) → explodes move.effect ≡ false → Tells v z pre (other_hits s move)
  unfolding other_hits
  other_hits-tells s move h = given-tells _ (λ k. hit_again-tells k s move h) ⊳ choose-tells _ (given-tells _ (hit_count-tells (other s))) stay-tells

  hits-tells : (s : Side) (move : Move) → explodes move.effect ≡ false → Tells v z pre (hits s move)
  unfolding hits
  hits-tells s move h = first_hit-tells s move ⊳ hit_once-tells s move h ⊳ choose-tells _ (other_hits-tells s move h) stay-tells

  hits-falls : (s : Side) (move : Move) → v.upright s → explodes move.effect ≡ true → Leads (Now v z pre) (MayFall v z pre) (MayFall v z pre) (hits s move)
  unfolding hits
  hits-falls s move u h = first_hit-tells s move ⊳ hit_once-falls s move u h
      ⊳ if-sees (hits_more move.effect) (λ e. absurd (true≢false (sym e ∙ one-explosion move.effect h))) (λ e. stay-tells)

  -- A miss

  missed_move-tells : (s : Side) (move : Move) → v.upright s → Tells v z pre (missed_move s move)
  unfolding missed_move
  missed_move-tells s move u = note_miss-tells s move ⊳ choose-tells _ (crash-tells s) stay-tells
      ⊳ choose-tells _ (explode-tells s u) (after-leads loosened stay-tells) ⊳ stop-leads (λ p m. m)

  -- A move that explodes has no side effect.
  side_effect-falls : (r : Ruling) (s : Side) (move : Move) (e : Effect) → explodes e ≡ true → Leads (MayFall v z pre) (MayFall v z pre) (MayFall v z pre) (side_effect r s move e)
  unfolding side_effect kept_away_effect
  side_effect-falls r s move effects.Explode h = choose-tells _ stay-tells stay-tells
  side_effect-falls r s move _ h = absurd (true≢false (sym h))

  pub strike-tells : (r : Ruling) → RulingTells v z pre r → (s : Side) (move : Move) → v.upright s → (may_poison_by move.effect ≡ true → Poisons v s move)
      → (recharges move.effect ≡ true → v.knows s move) → Leads (Now v z pre) (MayFall v z pre) (MayFall v z pre) (strike r s move)
  unfolding strike
  strike-tells r h s move u a k = by (explodes move.effect) refl
    where
      by : (b : Bool) → explodes move.effect ≡ b → Leads (Now v z pre) (MayFall v z pre) (MayFall v z pre) (strike r s move)
      by false e = choose-tells _ (missed_move-tells s move u) stay-tells ⊳ hits-tells s move e
          ⊳ after-leads loosened (choose-tells _ stay-tells (side_effect-tells r h s move move.effect a (λ x. record { knows = k x; effect = x })))
      by true e = choose-tells _ (missed_move-tells s move u) stay-tells ⊳ hits-falls s move u e
          ⊳ choose-tells _ stay-tells (side_effect-falls r s move move.effect e)

module _ {v : Story} {z : Sizes} {pre : List Event} (o : Outline v) where
  pub lead_up-tells : (s : Side) (pick : Pick) (move : Move) → v.said s move → (heals move.effect ≡ true → v.lulled s 2 false) → Tells v z pre (lead_up s pick move)
  unfolding lead_up seeing
  lead_up-tells s pick move k l = charge-tells o s pick move k ⊳ use_move-tells o s pick move k
      ⊳ choose-tells _ (early_effect-tells s move move.effect (o.acts s move) l ⊳ stop-tells) stay-tells
      ⊳ prelude-tells s move

  -- An action

  pub carry_out-tells : (r : Ruling) → RulingTells v z pre r → (s : Side) (pick : Pick) (move : Move) → move.effect ≡ (move_at move.number).effect → v.said s move
      → ((u : Side) (turns : ℕ) (marked : Bool) → v.lulled u turns marked) → v.upright s → Leads (Now v z pre) (MayFall v z pre) (MayFall v z pre) (carry_out r s pick move)
  unfolding carry_out
  carry_out-tells r h s pick move same k l u = bide_goes_on-tells o s
      ⊳ choose-tells _ stay-tells (lead_up-tells s pick move k (λ e. l s 2 false))
      ⊳ choose-tells _ stay-tells (damage_of-tells s move move.effect)
      ⊳ choose-tells _ stay-tells (choose-tells _ (late_effect-tells r h s move move.effect (λ e. (o.knows s move k, e)) (λ e turns few. l (other s) turns h.marked) ⊳ stop-tells) stay-tells)
      ⊳ strike-tells r h s move u
      (λ e. record { acts = o.acts s move; plain = not-toxic move.number (ap may_poison_by (sym same) ∙ e) }) (λ e. o.knows s move k)

  pub says-any : ((s : Side) (move : Move) → v.said s move) → ((u : Side) (turns : ℕ) (marked : Bool) → v.lulled u turns marked) → ((u : Side) → v.upright u) → (r : Ruling) → RulingTells v z pre r → Says v z pre r
  unfolding given
  says-any k l u r h s pick = record {
    leads = λ p i m. let move : Move = move_taken_in s pick p.field in (carry_out-tells r h s pick move refl (k s move) l (u s)).leads p i m;
  }

  parts-tells : Dozing v → (r : Ruling) → RulingTells v z pre r → Says v z pre r → (s : Side) (pick : Pick) → Leads (Now v z pre) (MayFall v z pre) (MayFall v z pre) (action_parts r s pick)
  unfolding action_parts
  parts-tells w r h k s pick = gate_or_held-tells o w s pick ⊳ see_if-tells o s pick ⊳ k s pick

-- Only a fault stops more than the action

may-accuracy : {v : Story} {z : Sizes} {pre : List Event} (s : Side) (byte : ℕ) (f : Field) (es : List Event) → May v z pre f es → May v z pre (changed_active s (with_kept_accuracy byte) f) es
unfolding with_kept_accuracy
may-accuracy s byte f es m = may-active s (with_kept_accuracy byte) (λ a. refl) f es m

by-end : {v : Story} {z : Sizes} {pre : List Event} (q : Progress) (b : Bool) → MayFall v z pre q → Lands (MayFall v z pre) (MayFall v z pre) (record q { stopped = b })
by-end q true m = Rests refl m
by-end q false m = Runs refl m

landed : {v : Story} {z : Sizes} {pre : List Event} (q : Progress) → Lands (MayFall v z pre) (MayFall v z pre) q → MayFall v z pre q
landed q (Runs r m) = m
landed q (Rests r m) = m

pub resume-lands : {v : Story} {z : Sizes} {pre : List Event} (s : Side) (byte : ℕ) (q : Progress) → Lands (MayFall v z pre) (MayFall v z pre) q
    → Lands (MayFall v z pre) (MayFall v z pre) (resume (on_active s (with_kept_accuracy byte) q))
unfolding resume on_active on_field
resume-lands s byte q l =
    let g : Field = changed_active s (with_kept_accuracy byte) q.field in
    by-end (record q { field = g }) (is_over g.outcome) (may-accuracy s byte q.field q.events (landed q l))

pub act-tells : {v : Story} {z : Sizes} {pre : List Event} → Outline v → Dozing v → (r : Ruling) → RulingTells v z pre r → Says v z pre r → (s : Side) (pick : Pick)
    → Leads (Now v z pre) (MayFall v z pre) (MayFall v z pre) (act r s pick)
unfolding act keep_accuracy given begin on_action
act-tells o w r h k s pick = record {
  leads = λ p i m.
      let x : Progress = action_parts r s pick (begin s p) in
      resume-lands s (accuracy_to_keep s x) x ((parts-tells o w r h k s pick).leads (begin s p) i m);
}
