-- A spectator can follow an action.
use Rattle.std.proofs.Common.{Bool, List, None, Option, Some, ap, false, lit≤, refl, suc, sym, true, true≢false, zero, ℕ, ◌+◌, ◌∙◌, ◌≡◌, [], ◌&&◌, ◌-◌, ◌∷◌}
use Rattle.std.specs.Prelude.{slice_index_or}
use Rattle.gen1_tables.specs.declared.types.Element.TheVariants.{Normal}
use Rattle.gen1_tables.specs.declared.effect.Effect.TheVariants.{DamageOnly}
use Rattle.gen1_tables.specs.Moves.{move_rows, move_row, MoveRow}
use Rattle.gen1_tables.specs.declared.effect.Stat.TheVariants.{Attack}
use Rattle.gen1_tables.specs.declared.effect.Effect.{Effect}
use Rattle.gen1_tables.specs.declared.effect.Effect.TheVariants as effects
use Rattle.gen1_rolls.specs.Streams.{low_bits}
use Rattle.gen1_machine.specs.declared.side.Side.{Side}
use Rattle.gen1_machine.specs.declared.terms.Outcome.TheVariants as outcomes
use Rattle.gen1_machine.specs.declared.event.Event.{Event}
use Rattle.gen1_machine.specs.declared.side.Pick.{Pick}
use Rattle.gen1_machine.specs.declared.side.Pick.TheVariants.{Use, Continue, Idle, Held}
use Rattle.gen1_machine.specs.Sides.{other}
use Rattle.gen1_machine.specs.Conditions.{without_seed, Storing}
use Rattle.gen1_machine.specs.State.{changed_active, changed_conditions, changed_member, fallen, with_kept_accuracy, is_over, Field}
use Rattle.gen1_tables.specs.Effects.{explodes, hits_more}
use Rattle.gen1_machine.specs.Moves.{move_at, Move}
use Rattle.gen1_machine.specs.Progress.{Phase, given, on_field, on_active, on_conditions, on_member, on_action, active, member, Progress}
use Rattle.gen1_machine.specs.CriticalHits.{set_critical, critical_by, roll_critical}
use Rattle.gen1_machine.specs.Damage.{before_types, is_factor, type_steps, varied_by, vary, set_through_types, damage_from, roll_damage, DamageNumbers}
use Rattle.gen1_machine.specs.Picks.{used_by, number_in}
use Rattle.gen1_machine.specs.SideEffects.{kept_away_effect, side_effect}
use Rattle.gen1_machine.specs.GoingOn.{count_again, count_by_draw, draw_count, trap_for, trap, thrash_less, thrash_for, thrash_about, set_letting_go, let_energy_go, store_energy, bide_on, bide_goes_on}
use Rattle.gen1_machine.specs.Charging.{make_current, begin_charge, end_charge, charge}
use Rattle.gen1_machine.specs.FixedDamage.{is_psywave, psywave, deal_fixed, fixed_damage, deal_everything, knock_out_by_type, knock_out}
use Rattle.gen1_machine.specs.Counter.{counter_by, counter}
use Rattle.gen1_machine.specs.HitEffects.{set_planned, plan_two_more, plan_hits, recoil, drain_by, drain, start_rage, explode, hit_effect}
use Rattle.gen1_machine.specs.ManyHits.{crash, missed_move, note_effectiveness, note_critical, note_first_hit, count_hit, build_rage, hit_once, hit_again, note_hit_count, other_hits, hits}
use Rattle.gen1_machine.specs.Ruling.{Ruling}
use Rattle.gen1_machine.specs.Action.{set_going_on, see_if_going_on, gate_or_held, move_taken_in, spend_pp, use_move, prelude, lead_up, usual_damage, damage_of, strike, carry_out, action_parts, accuracy_to_keep, keep_accuracy, begin, resume, act}
use Rattle.gen1_machine.specs.View.{on_shown, not_shown, shows, View}
use Rattle.gen1_machine.proofs.Costs.{and-left, and-right}
use Rattle.gen1_machine.proofs.Watching.{AllOut, kept, keeps-member, Silent, silent-active, silent-conditions, told-member, seeing, Runs, Rests, Lands, Leads, Seen, Halted, Still, Broken, Tells, Anything, fallen_view, Fell, Stands, Fallen, MayFall, Faulted, after-leads, before-leads, ◌⊳◌, choose-tells, if-sees, given-tells, draw-tells, until-tells, stay-tells, stop-leads, stop-tells, fault-tells, action-tells, active-tells, conditions-tells, member-tells, damage-tells, field-ahead, still-ahead, note-tells, starts-tells, ends-tells, lasts-tells, lose-tells, gain-tells}
use Rattle.gen1_machine.proofs.WatchedGate.{missed-tells, cant-tells, gate-tells, land-tells, hit_or_miss-tells, note_miss-tells}
use Rattle.gen1_machine.proofs.WatchedEffects.{shifts_well, RulingTells, Lags, apart-fallen, on-side-same, raise-lags, raise-tells, confuse-tells, early_effect-tells, late_effect-tells, side_effect-tells}

-- The moves of the table that shift a stage shift it by at least one.

abbrev all_shift : List MoveRow → Bool
all_shift [] = true
all_shift (row ∷ rows) = shifts_well row.effect && all_shift rows

rows-shift : all_shift move_rows ≡ true
unfolding move_rows
rows-shift = refl

at-shift : (rows : List MoveRow) (i : ℕ) (default : MoveRow) → all_shift rows ≡ true → shifts_well default.effect ≡ true
    → shifts_well (slice_index_or rows i default).effect ≡ true
at-shift [] i default e d = d
at-shift (row ∷ rows) zero default e d = and-left (shifts_well row.effect) (all_shift rows) e
at-shift (row ∷ rows) (suc i) default e d = at-shift rows i default (and-right (shifts_well row.effect) (all_shift rows) e) d

row-shifts : (n : ℕ) → shifts_well (move_row n).effect ≡ true
unfolding move_row
row-shifts n = at-shift move_rows (n - 1) (record { kind = Normal; power = 0; accuracy = 0; pp = 0; effect = DamageOnly }) rows-shift refl

moves-shift : (n : ℕ) → shifts_well (move_at n).effect ≡ true
moves-shift n = row-shifts n

one-explosion : (e : Effect) → explodes e ≡ true → hits_more e ≡ false
one-explosion effects.Explode h = refl
one-explosion _ h = absurd (true≢false (sym h))

-- An explosion and a faint, as they show.
pub exploded-shows : (s : Side) (f : Field) → AllOut f → shows (changed_member s fallen f) ≡ fallen_view s (shows f)
unfolding fallen
exploded-shows s f o = sym (told-member s fallen (λ n x. not_shown) f o.both refl)
    ∙ on-side-same s (on_shown (λ x. not_shown)) (on_shown (λ x. not_shown)) f o.both refl

module _ {v : View} where
  -- Before any damage

  going-tells : (going_on : Bool) → Tells v (set_going_on going_on)
  unfolding set_going_on seeing
  going-tells going_on = action-tells _

  pub see_if-tells : (s : Side) (pick : Pick) → Tells v (see_if_going_on s pick)
  unfolding see_if_going_on seeing
  see_if-tells s pick = given-tells _ going-tells

  pub gate_or_held-tells : (s : Side) (pick : Pick) → Tells v (gate_or_held s pick)
  unfolding gate_or_held seeing
  gate_or_held-tells s Held = cant-tells s _
  gate_or_held-tells s (Use used) = gate-tells s (Use used)
  gate_or_held-tells s Continue = gate-tells s Continue
  gate_or_held-tells s Idle = gate-tells s Idle

  letting_go-tells : Tells v set_letting_go
  unfolding set_letting_go seeing
  letting_go-tells = action-tells _

  pub let_energy_go-tells : (s : Side) (energy : ℕ) → Tells v (let_energy_go s energy)
  unfolding let_energy_go seeing
  let_energy_go-tells s energy = ends-tells s _ _ (λ t. refl) ⊳ damage-tells _ ⊳ letting_go-tells ⊳ missed-tells _

  pub store-tells : (s : Side) (damage : ℕ) → Tells v (store_energy s damage)
  unfolding store_energy seeing
  store-tells s damage = lasts-tells s _ _ (λ c. refl) ⊳ stop-tells

  pub bide_on-tells : (s : Side) (o : Option Storing) (damage : ℕ) → Tells v (bide_on s o damage)
  unfolding bide_on seeing
  bide_on-tells s None damage = stay-tells
  bide_on-tells s (Some b) damage = choose-tells _ (let_energy_go-tells s _) (store-tells s damage)

  pub bide_goes_on-tells : (s : Side) → Tells v (bide_goes_on s)
  unfolding bide_goes_on seeing
  bide_goes_on-tells s = given-tells _ (λ b. given-tells _ (bide_on-tells s b))

  pub current-tells : (s : Side) (pick : Pick) → Tells v (make_current s pick)
  unfolding make_current seeing
  current-tells s pick = given-tells _ (λ a. active-tells s _ (λ a. refl))

  pub begin_charge-tells : (s : Side) (pick : Pick) (move : Move) → Tells v (begin_charge s pick move)
  unfolding begin_charge seeing
  begin_charge-tells s pick move = current-tells s pick ⊳ conditions-tells s _ (λ c. refl) ⊳ choose-tells _ (conditions-tells s _ (λ c. refl)) stay-tells
      ⊳ note-tells _ (λ f w. refl) ⊳ stop-tells

  pub end_charge-tells : (s : Side) → Tells v (end_charge s)
  unfolding end_charge seeing
  end_charge-tells s = conditions-tells s _ (λ c. refl) ⊳ conditions-tells s _ (λ c. refl)

  pub charge-tells : (s : Side) (pick : Pick) (move : Move) → Tells v (charge s pick move)
  unfolding charge seeing
  charge-tells s pick move = choose-tells _ (choose-tells _ (end_charge-tells s) (begin_charge-tells s pick move)) stay-tells

  pub spend-tells : (s : Side) → Tells v (spend_pp s)
  unfolding spend_pp seeing
  spend-tells s = given-tells _ (λ used. member-tells s _ (λ m. refl))

  pub use_move-tells : (s : Side) (pick : Pick) (move : Move) → Tells v (use_move s pick move)
  unfolding use_move seeing
  use_move-tells s pick move = current-tells s pick ⊳ choose-tells _ stay-tells (spend-tells s) ⊳ choose-tells _ (note-tells _ (λ f w. refl)) stay-tells

  -- A count of hits or of turns takes two draws at most

  count_again-tells : (f : ℕ → Phase) → ((x : ℕ) → Tells v (f (low_bits 2 x))) → (c : ℕ) → Tells v (count_again f c)
  unfolding count_again seeing
  count_again-tells f h c = h c

  count_by-tells : (f : ℕ → Phase) → ((x : ℕ) → Tells v (f (low_bits 2 x))) → (b : ℕ) → Tells v (count_by_draw f b)
  unfolding count_by_draw seeing
  count_by-tells f h b = choose-tells _ (h b) (draw-tells (count_again-tells f h))

  pub draw_count-tells : (f : ℕ → Phase) → ((x : ℕ) → Tells v (f (low_bits 2 x))) → Tells v (draw_count f)
  unfolding draw_count seeing
  draw_count-tells f h = draw-tells (count_by-tells f h)

  trap_for-tells : (s : Side) (n : ℕ) → Tells v (trap_for s n)
  unfolding trap_for seeing
  trap_for-tells s n = conditions-tells s _ (λ c. refl)

  pub trap-tells : (s : Side) → Tells v (trap s)
  unfolding trap seeing
  trap-tells s = choose-tells _ (conditions-tells s _ (λ c. refl)) (conditions-tells (other s) _ (λ c. refl) ⊳ draw_count-tells (trap_for s) (λ x. trap_for-tells s _))

  pub thrash_less-tells : (s : Side) (o : Option ℕ) → Tells v (thrash_less s o)
  unfolding thrash_less seeing
  thrash_less-tells s None = stay-tells
  thrash_less-tells s (Some turns) = choose-tells _ (conditions-tells s _ (λ c. refl) ⊳ confuse-tells s) (conditions-tells s _ (λ c. refl))

  thrash_for-tells : (s : Side) (move : Move) (b : ℕ) → Tells v (thrash_for s move b)
  unfolding thrash_for seeing
  thrash_for-tells s move b = conditions-tells s _ (λ c. refl) ⊳ active-tells s _ (λ a. refl)

  pub thrash-tells : (s : Side) (move : Move) → Tells v (thrash_about s move)
  unfolding thrash_about seeing
  thrash-tells s move = choose-tells _ (given-tells _ (thrash_less-tells s)) (draw-tells (thrash_for-tells s move))

  pub prelude-tells : (s : Side) (move : Move) → Tells v (prelude s move)
  unfolding prelude seeing
  prelude-tells s move = choose-tells _ (trap-tells s) stay-tells ⊳ choose-tells _ (thrash-tells s move) stay-tells

  pub lead_up-tells : (s : Side) (pick : Pick) (move : Move) → Tells v (lead_up s pick move)
  unfolding lead_up seeing
  lead_up-tells s pick move = charge-tells s pick move ⊳ use_move-tells s pick move
      ⊳ choose-tells _ (early_effect-tells s move move.effect ⊳ stop-tells) stay-tells
      ⊳ prelude-tells s move

  -- Damage: one loop at most

  set_critical-tells : (critical : Bool) → Tells v (set_critical critical)
  unfolding set_critical seeing
  set_critical-tells critical = action-tells _

  critical_by-tells : (s : Side) (move : Move) (b : ℕ) → Tells v (critical_by s move b)
  unfolding critical_by seeing
  critical_by-tells s move b = given-tells _ (λ bound. set_critical-tells _)

  pub critical-tells : (s : Side) (move : Move) → Tells v (roll_critical s move)
  unfolding roll_critical seeing
  critical-tells s move = draw-tells (critical_by-tells s move)

  varied_by-tells : (d b : ℕ) → Tells v (varied_by d b)
  unfolding varied_by seeing
  varied_by-tells d b = damage-tells _

  pub vary-tells : (d : ℕ) → Tells v (vary d)
  unfolding vary seeing
  vary-tells d = choose-tells _ (damage-tells d) (until-tells is_factor (varied_by-tells d))

  through_types-tells : Tells v set_through_types
  unfolding set_through_types seeing
  through_types-tells = action-tells _

  pub damage_from-tells : (n : DamageNumbers) (o : Option ℕ) → Tells v (damage_from n o)
  unfolding damage_from seeing
  damage_from-tells n None = fault-tells 1
  damage_from-tells n (Some d) = through_types-tells ⊳ missed-tells _ ⊳ vary-tells (type_steps d n)

  pub roll_damage-tells : (s : Side) (move : Move) → Tells v (roll_damage s move)
  unfolding roll_damage seeing
  roll_damage-tells s move = given-tells _ (λ n. damage_from-tells n (before_types n))

  pub usual-tells : (s : Side) (move : Move) → Tells v (usual_damage s move)
  unfolding usual_damage seeing
  usual-tells s move = damage-tells 0 ⊳ critical-tells s move ⊳ roll_damage-tells s move ⊳ hit_or_miss-tells s move

  pub psywave-tells : (level : ℕ) → Tells v (psywave level)
  unfolding psywave seeing
  psywave-tells level = choose-tells _ (fault-tells 2) (until-tells (is_psywave level) damage-tells)

  pub deal_fixed-tells : (s : Side) (move : ℕ) → Tells v (deal_fixed s move)
  unfolding deal_fixed seeing
  deal_fixed-tells s move = choose-tells _ (damage-tells 20) (choose-tells _ (damage-tells 40)
      (choose-tells _ (given-tells _ (λ m. psywave-tells _)) (choose-tells _ (given-tells _ (λ m. damage-tells _)) (given-tells _ (λ m. damage-tells _)))))

  pub fixed-tells : (s : Side) (move : Move) → Tells v (fixed_damage s move)
  unfolding fixed_damage seeing
  fixed-tells s move = hit_or_miss-tells s move ⊳ choose-tells _ stay-tells (deal_fixed-tells s move.number)

  everything-tells : (b : ℕ) → Tells v (deal_everything b)
  unfolding deal_everything seeing
  everything-tells b = damage-tells _

  pub by_type-tells : (s : Side) (move : Move) → Tells v (knock_out_by_type s move)
  unfolding knock_out_by_type seeing
  by_type-tells s move = choose-tells _ (missed-tells true) (until-tells is_factor everything-tells)

  pub knock_out-tells : (s : Side) (move : Move) → Tells v (knock_out s move)
  unfolding knock_out seeing
  knock_out-tells s move = damage-tells 0 ⊳ critical-tells s move
      ⊳ choose-tells _ (missed-tells true) (by_type-tells s move ⊳ hit_or_miss-tells s move)

  counter_by-tells : (s : Side) (move : Move) (damage : ℕ) → Tells v (counter_by s move damage)
  unfolding counter_by seeing
  counter_by-tells s move damage = damage-tells _ ⊳ hit_or_miss-tells s move

  pub counter-tells : (s : Side) (move : Move) → Tells v (counter s move)
  unfolding counter seeing
  counter-tells s move = critical-tells s move ⊳ choose-tells _ (given-tells _ (counter_by-tells s move)) (missed-tells true)

  pub damage_of-tells : (s : Side) (move : Move) (e : Effect) → Tells v (damage_of s move e)
  unfolding damage_of seeing
  damage_of-tells s move effects.Counter = counter-tells s move
  damage_of-tells s move effects.FixedDamage = fixed-tells s move
  damage_of-tells s move effects.SuperFang = fixed-tells s move
  damage_of-tells s move effects.OneHitKnockOut = knock_out-tells s move
  damage_of-tells s move _ = choose-tells _ (usual-tells s move) (damage-tells 0)

  -- After a hit

  pub recoil-tells : (s : Side) (move : Move) → Tells v (recoil s move)
  unfolding recoil seeing
  recoil-tells s move = given-tells _ (lose-tells s _)

  drain_by-tells : (s : Side) (n : ℕ) → Tells v (drain_by s n)
  unfolding drain_by seeing
  drain_by-tells s n = damage-tells n ⊳ gain-tells s n

  pub drain-tells : (s : Side) → Tells v (drain s)
  unfolding drain seeing
  drain-tells s = given-tells _ (drain_by-tells s)

  pub rage-tells : (s : Side) → Tells v (start_rage s)
  unfolding start_rage seeing
  rage-tells s = choose-tells _ stay-tells (starts-tells s _ _ (λ t. refl))

  pub build_rage-tells : (s : Side) → Tells v (build_rage s)
  unfolding build_rage seeing
  build_rage-tells s = choose-tells _ (raise-tells s s Attack 1 (lit≤ tt) stay-tells) stay-tells

  count_hit-tells : Tells v count_hit
  unfolding count_hit seeing
  count_hit-tells = action-tells _

  -- A miss, and the reports of the first hit

  crash-tells : (s : Side) → Tells v (crash s)
  unfolding crash seeing
  crash-tells s = lose-tells s _ 1 ⊳ damage-tells 1

  effectiveness-tells : (target : Side) (n : DamageNumbers) → Tells v (note_effectiveness target n)
  unfolding note_effectiveness seeing
  effectiveness-tells target n = choose-tells _ (note-tells _ (λ f w. refl)) (choose-tells _ (note-tells _ (λ f w. refl)) stay-tells)

  note_critical-tells : (target : Side) → Tells v (note_critical target)
  unfolding note_critical seeing
  note_critical-tells target = choose-tells _ (note-tells _ (λ f w. refl)) stay-tells

  pub first_hit-tells : (s : Side) (move : Move) → Tells v (note_first_hit s move)
  unfolding note_first_hit seeing
  first_hit-tells s move = choose-tells _ (note_critical-tells (other s) ⊳ given-tells _ (effectiveness-tells (other s))) stay-tells

  hit_count-tells : (target : Side) (made : ℕ) → Tells v (note_hit_count target made)
  unfolding note_hit_count seeing
  hit_count-tells target made = note-tells _ (λ f w. refl)

  -- The number of planned hits doesn't show

  set_planned-tells : (n : ℕ) → Tells v (set_planned n)
  unfolding set_planned
  set_planned-tells n = action-tells _

  two_more-tells : (n : ℕ) → Tells v (plan_two_more n)
  unfolding plan_two_more
  two_more-tells n = set_planned-tells (n + 2)

  plan-tells : Tells v plan_hits
  unfolding plan_hits
  plan-tells = choose-tells _ stay-tells (draw_count-tells plan_two_more (λ x. two_more-tells (low_bits 2 x)))

  -- An explosion makes its user fall without an event

  explode-falls : (s : Side) → Leads (Seen v) (Lags v (fallen_view s)) (Halted v) (explode s)
  unfolding explode on_member on_conditions without_seed
  explode-falls s = before-leads (λ p m. (m, tt)) (field-ahead (changed_member s fallen) Anything (fallen_view s) (keeps-member s fallen) (λ f o fact. exploded-shows s f o))
      ⊳ still-ahead (changed_conditions s without_seed) Anything (fallen_view s) (silent-conditions s without_seed (λ c. refl))

  explode-tells : (s : Side) → Leads (Seen v) (MayFall v) (Halted v) (explode s)
  explode-tells s = after-leads (λ p m. Fallen s m) (explode-falls s)

  fell-leads : {f : Phase} → Leads (Seen v) (Seen v) (Halted v) f → ((s : Side) → Leads (Lags v (fallen_view s)) (Lags v (fallen_view s)) (Halted v) f)
      → Leads (MayFall v) (MayFall v) (Halted v) f
  fell-leads {f} h k = record { leads = λ p r m. by p r m }
    where
      by : (p : Progress) → p.stopped ≡ false → MayFall v p → Lands (MayFall v) (Halted v) (f p)
      by p r (Stands m) = (after-leads (λ q n. Stands n) h).leads p r m
      by p r (Fallen s m) = (after-leads (λ q n. Fallen s n) (k s)).leads p r m

  -- The rage of a member that was hit by an explosion builds after the fall.
  build_rage-falls : (t : Side) → Leads (MayFall v) (MayFall v) (Halted v) (build_rage t)
  unfolding build_rage
  build_rage-falls t = fell-leads (choose-tells _ (raise-tells t t Attack 1 (lit≤ tt) stay-tells) stay-tells)
      (λ s. choose-tells _ (raise-lags (fallen_view s) (apart-fallen s) t t Attack 1 (lit≤ tt) stay-tells) stay-tells)

  -- Hits

  hit_effect-tells : (s : Side) (move : Move) (e : Effect) → explodes e ≡ false → Tells v (hit_effect s move e)
  unfolding hit_effect
  hit_effect-tells s move effects.MultiHit h = plan-tells
  hit_effect-tells s move effects.DoubleHit h = set_planned-tells 2
  hit_effect-tells s move effects.Twineedle h = set_planned-tells 2
  hit_effect-tells s move effects.Recoil h = recoil-tells s move
  hit_effect-tells s move effects.Drain h = drain-tells s
  hit_effect-tells s move effects.DreamEater h = drain-tells s
  hit_effect-tells s move effects.Rage h = rage-tells s
  hit_effect-tells s move effects.Explode h = absurd (true≢false h)
  hit_effect-tells s move _ h = stay-tells

  hit_effect-falls : (s : Side) (move : Move) (e : Effect) → explodes e ≡ true → Leads (Seen v) (MayFall v) (Halted v) (hit_effect s move e)
  unfolding hit_effect
  hit_effect-falls s move effects.Explode h = explode-tells s
  hit_effect-falls s move _ h = absurd (true≢false (sym h))

  hit_once-tells : (s : Side) (move : Move) → explodes move.effect ≡ false → Tells v (hit_once s move)
  unfolding hit_once seeing
  hit_once-tells s move h = land-tells (other s) ⊳ choose-tells _ (note-tells _ (λ f w. refl)) stay-tells ⊳ count_hit-tells
      ⊳ choose-tells _ stay-tells (hit_effect-tells s move move.effect h) ⊳ choose-tells _ stay-tells (build_rage-tells (other s))

  hit_once-falls : (s : Side) (move : Move) → explodes move.effect ≡ true → Leads (Seen v) (MayFall v) (Halted v) (hit_once s move)
  unfolding hit_once seeing
  hit_once-falls s move h = land-tells (other s) ⊳ choose-tells _ (note-tells _ (λ f w. refl)) stay-tells ⊳ count_hit-tells
      ⊳ choose-tells _ (after-leads (λ p m. Stands m) stay-tells) (hit_effect-falls s move move.effect h) ⊳ choose-tells _ stay-tells (build_rage-falls (other s))

  hit_again-tells : (k : ℕ) (s : Side) (move : Move) → explodes move.effect ≡ false → Tells v (hit_again k s move)
  unfolding hit_again
  hit_again-tells zero s move h = stay-tells
  hit_again-tells (suc k) s move h = choose-tells _ stay-tells (hit_once-tells s move h ⊳ hit_again-tells k s move h)

  other_hits-tells : (s : Side) (move : Move) → explodes move.effect ≡ false → Tells v (other_hits s move)
  unfolding other_hits
  other_hits-tells s move h = given-tells _ (λ k. hit_again-tells k s move h) ⊳ choose-tells _ (given-tells _ (hit_count-tells (other s))) stay-tells

  hits-tells : (s : Side) (move : Move) → explodes move.effect ≡ false → Tells v (hits s move)
  unfolding hits
  hits-tells s move h = first_hit-tells s move ⊳ hit_once-tells s move h ⊳ choose-tells _ (other_hits-tells s move h) stay-tells

  hits-falls : (s : Side) (move : Move) → explodes move.effect ≡ true → Leads (Seen v) (MayFall v) (Halted v) (hits s move)
  unfolding hits
  hits-falls s move h = first_hit-tells s move ⊳ hit_once-falls s move h
      ⊳ if-sees (hits_more move.effect) (λ e. absurd (true≢false (sym e ∙ one-explosion move.effect h))) (λ e. stay-tells)

  -- A miss

  missed_move-tells : (s : Side) (move : Move) → Tells v (missed_move s move)
  unfolding missed_move
  missed_move-tells s move = note_miss-tells s move ⊳ choose-tells _ (crash-tells s) stay-tells
      ⊳ choose-tells _ (explode-tells s) (after-leads (λ p m. Stands m) stay-tells) ⊳ stop-leads (λ p m. Still m)

  -- A move that explodes has no side effect.
  side_effect-falls : (r : Ruling) (s : Side) (move : Move) (e : Effect) → explodes e ≡ true → Leads (MayFall v) (MayFall v) (Halted v) (side_effect r s move e)
  unfolding side_effect kept_away_effect
  side_effect-falls r s move effects.Explode h = choose-tells _ stay-tells stay-tells
  side_effect-falls r s move _ h = absurd (true≢false (sym h))

  strike-tells : (r : Ruling) → RulingTells v r → (s : Side) (move : Move) → Leads (Seen v) (MayFall v) (Halted v) (strike r s move)
  unfolding strike
  strike-tells r h s move = by (explodes move.effect) refl
    where
      by : (b : Bool) → explodes move.effect ≡ b → Leads (Seen v) (MayFall v) (Halted v) (strike r s move)
      by false e = choose-tells _ (missed_move-tells s move) stay-tells ⊳ hits-tells s move e
          ⊳ after-leads (λ p m. Stands m) (choose-tells _ stay-tells (side_effect-tells r h s move move.effect))
      by true e = choose-tells _ (missed_move-tells s move) stay-tells ⊳ hits-falls s move e
          ⊳ choose-tells _ stay-tells (side_effect-falls r s move move.effect e)

  -- An action

  carry_out-tells : (r : Ruling) → RulingTells v r → (s : Side) (pick : Pick) (move : Move) → shifts_well move.effect ≡ true
      → Leads (Seen v) (MayFall v) (Halted v) (carry_out r s pick move)
  unfolding carry_out
  carry_out-tells r h s pick move w = bide_goes_on-tells s
      ⊳ choose-tells _ stay-tells (lead_up-tells s pick move)
      ⊳ choose-tells _ stay-tells (damage_of-tells s move move.effect)
      ⊳ choose-tells _ stay-tells (choose-tells _ (late_effect-tells r h s move move.effect w ⊳ stop-tells) stay-tells)
      ⊳ strike-tells r h s move

  parts-tells : (r : Ruling) → RulingTells v r → (s : Side) (pick : Pick) → Leads (Seen v) (MayFall v) (Halted v) (action_parts r s pick)
  unfolding action_parts given
  parts-tells r h s pick = gate_or_held-tells s pick ⊳ see_if-tells s pick ⊳ record {
    leads = λ p i m.
        (carry_out-tells r h s pick (move_taken_in s pick p.field) (moves-shift (number_in (used_by pick (active s p).current_move) (member s p).moves))).leads p i m;
  }

  pub begin-tells : (s : Side) → Tells v (begin s)
  unfolding begin
  begin-tells s = action-tells _

-- What stays the same under a change that doesn't show

fell-silent : {v : View} {events : List Event} (change : Field → Field) (f : Field) → Silent change → Fell v f events → Fell v (change f) events
fell-silent change f h (Stands m) = Stands (record { out = kept h.keeps f m.out; agrees = m.agrees ∙ sym (h.unseen f) })
fell-silent change f h (Fallen s m) = Fallen s (record { before = m.before; was = m.was; fact = m.fact; agrees = m.agrees; out = kept h.keeps f m.out; ahead = h.unseen f ∙ m.ahead })

faulted-silent : {v : View} {events : List Event} (change : Field → Field) (f : Field) → Silent change → Faulted v f events → Faulted v (change f) events
faulted-silent change f h m = record {
  before = m.before;
  was = m.was;
  agrees = m.agrees;
  both = h.keeps.both f m.both;
  number = m.number;
  outcome = h.keeps.outcome f ∙ m.outcome;
  ahead = h.unseen f ∙ m.ahead;
}

pub fell-ongoing : {v : View} {events : List Event} (f : Field) → Fell v f events → f.outcome ≡ outcomes.Ongoing
fell-ongoing f (Stands m) = m.out.ongoing
fell-ongoing f (Fallen s m) = m.out.ongoing

silent-accuracy : (s : Side) (byte : ℕ) → Silent (changed_active s (with_kept_accuracy byte))
unfolding with_kept_accuracy
silent-accuracy s byte = silent-active s (with_kept_accuracy byte) (λ a. refl)

-- Only a fault stops more than the action

resume-lands : {v : View} (s : Side) (byte : ℕ) (q : Progress) → Lands (MayFall v) (Halted v) q
    → Lands (MayFall v) (Halted v) (resume (on_active s (with_kept_accuracy byte) q))
unfolding resume on_active on_field
resume-lands s byte q (Runs r m) =
    let n = fell-silent (changed_active s (with_kept_accuracy byte)) q.field (silent-accuracy s byte) m in
    Runs (ap is_over (fell-ongoing (changed_active s (with_kept_accuracy byte) q.field) n)) n
resume-lands s byte q (Rests r (Still m)) =
    let n = fell-silent (changed_active s (with_kept_accuracy byte)) q.field (silent-accuracy s byte) m in
    Runs (ap is_over (fell-ongoing (changed_active s (with_kept_accuracy byte) q.field) n)) n
resume-lands s byte q (Rests r (Broken m)) =
    let n = faulted-silent (changed_active s (with_kept_accuracy byte)) q.field (silent-accuracy s byte) m in
    Rests (ap is_over n.outcome) (Broken n)

pub act-tells : {v : View} (r : Ruling) → RulingTells v r → (s : Side) (pick : Pick) → Leads (Seen v) (MayFall v) (Halted v) (act r s pick)
unfolding act keep_accuracy given begin on_action
act-tells r h s pick = record {
  leads = λ p i m.
      let x : Progress = action_parts r s pick (begin s p) in
      resume-lands s (accuracy_to_keep s x) x ((parts-tells r h s pick).leads (begin s p) i m);
}
