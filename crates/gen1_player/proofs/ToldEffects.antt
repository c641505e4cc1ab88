-- A story stays true through what moves do in addition to damage.
use Rattle.gen1_stats.specs.Members.{is_asleep, is_healthy}
use Rattle.gen1_machine.proofs.Keeps.{on_conditions-keeps}
use Rattle.std.proofs.Common.{Bool, List, None, Option, Some, [], ap, false, if◌then◌else◌, inl, inr, nat_lt, not, refl, subst, sym, true, true≢false, ℕ, ◌++◌, ◌+◌, ◌==◌, ◌||◌, ◌∙◌, ◌∷◌, ◌≡◌, ◌≢◌, ◌⊎◌, ◌≤◌, arith}
use Rattle.std.proofs.lemmas.Bool.Decides.{eqb_tells}
use Rattle.gen1_tables.specs.Effects.{bides, recharges}
use Rattle.gen1_tables.specs.Moves.{move_row, move_rows}
use Rattle.gen1_tables.specs.declared.effect.Stat.{Stat}
use Rattle.gen1_tables.specs.declared.effect.Stat.TheVariants.{Attack, Speed}
use Rattle.gen1_tables.specs.declared.effect.Effect.{Effect}
use Rattle.gen1_tables.specs.declared.effect.Effect.TheVariants as effects
use Rattle.gen1_rolls.specs.Streams.{byte_at, low_bits}
use Rattle.gen1_stats.specs.declared.member.KnownMove.{KnownMove}
use Rattle.gen1_stats.specs.declared.member.Status.{Status}
use Rattle.gen1_stats.specs.declared.member.Status.TheVariants.{Asleep}
use Rattle.gen1_machine.specs.declared.side.Side.{Side}
use Rattle.gen1_machine.specs.declared.side.Side.TheVariants.{One, Two}
use Rattle.gen1_machine.specs.declared.event.Kind.{Kind}
use Rattle.gen1_machine.specs.declared.event.Kind.TheVariants as kinds
use Rattle.gen1_machine.specs.declared.event.Volatile.TheVariants as volatiles
use Rattle.gen1_machine.specs.declared.event.Event.{Event}
use Rattle.gen1_machine.specs.declared.event.Event.TheVariants as events
use Rattle.gen1_machine.specs.Sides.{other}
use Rattle.gen1_machine.specs.Conditions.{with_bad_poison, with_recharge, after_haze}
use Rattle.gen1_machine.specs.Moves.{move_at, toxic, Move}
use Rattle.gen1_machine.specs.State.{active_in, who_in, kind_of, changed_active, changed_conditions, with_types_of, Active, Field, Terms}
use Rattle.gen1_machine.specs.CurrentStats.{at_new_stage, recomputed_at, with_penalty_of}
use Rattle.gen1_machine.specs.Progress.{Phase, Progress, active, choose, draw, fails_if, has_status, inflict, note, on_active, on_conditions, on_field, on_member, status_of, stay, told}
use Rattle.gen1_machine.specs.StageShift.{note_boost, note_unboost, take_penalty_again, shift_to, raise_from, lower_from, raise_stage, lower_stage}
use Rattle.gen1_machine.specs.Ruling.{is_sleep_count, sleep_for, fall_asleep, sleep_freely, freeze_freely, sleep_only_one, freeze_only_one, sleeps_under, freezes_under, ruling_of, Ruling}
use Rattle.gen1_machine.specs.EarlyEffects.{confused_by, confuse, confuse_foe, take_types, convert, set_mist, set_focus_energy, set_light_screen, set_reflect, set_screen, with_levelled_stats, clear_side, cure_kind, set_skips, haze_cures, haze, rest_up, recover, heal, poison_foe, paralyse_foe, seed_foe, pay_for_substitute, make_substitute, splash, early_effect}
use Rattle.gen1_machine.specs.LateEffects.{ready_to_sleep, put_to_sleep, lower_foes_stat, bide_for, start_bide, late_effect}
use Rattle.gen1_machine.specs.SideEffects.{happens_below, by_chance, thaw, may_inflict, may_poison, may_confuse, flinch, kept_away_effect, names_slot, disable_for, disable_slot, disable, must_recharge, side_effect}
use Rattle.gen1_machine.proofs.Watching.{Leads, Runs, after-leads, before-leads, choose-sees, choose-tells, given-sees, given-tells, if-sees, seeing, stay-tells, ◌⊳◌}
use Rattle.gen1_player.proofs.Facts.{IsAwake, Placid, Sizes, is_still, penalty-placid, with_cleared}
use Rattle.gen1_player.proofs.Stories.{Begun, Holds, MayFall, Now, Story, Tells, active-tells, at_end, begun-active, begun-conditions, conditions-tells, cure-tells, draw-tells, gain-tells, holds-slept, inflict-tells, lose-tells, may-active, may-noise, note-tells, poison-told, sickened, slept, slept-told, starts-tells, stores-tells, told-tells, until-tells, with-keeps, Lulls}
use Rattle.gen1_player.proofs.ToldGate.{awake-conditions, fail-tells, fails_if-awake, fails_if-sees, fails_if-tells, must_hit-awake, must_hit-tells}

-- A sleep move puts the mark on its foe, or not.
pub record RulingTells (v : Story) (n : Sizes) (pre : List Event) (r : Ruling) : Type 0 where
  pub marked : Bool
  pub sleeps : (s : Side) → Lulls v (other s) marked → Tells v n pre (r.sleeps s)
  pub freezes : (s : Side) → Leads (λ p. Now v n pre p × IsAwake (other s) p.field) (Now v n pre) (MayFall v n pre) (r.freezes s)

-- Effects that may poison in addition to damage. Toxic has none of them.

abbrev pub may_poison_by : Effect → Bool
may_poison_by (effects.PoisonChance n) = true
may_poison_by effects.Twineedle = true
may_poison_by _ = false

abbrev pub lulls : Effect → Bool
lulls effects.InflictSleep = true
lulls _ = false

abbrev pub heals : Effect → Bool
heals effects.Heal = true
heals _ = false

pub record Poisons (v : Story) (s : Side) (move : Move) : Type 0 where
  pub acts : v.acted s move
  pub plain : (move.number == toxic) ≡ false

pub record Rests (v : Story) (s : Side) (move : Move) : Type 0 where
  pub knows : v.knows s move
  pub effect : recharges move.effect ≡ true

toxic-poisons : may_poison_by (move_at toxic).effect ≡ false
unfolding move_rows move_row
toxic-poisons = refl

pub not-toxic : (n : ℕ) → may_poison_by (move_at n).effect ≡ true → (n == toxic) ≡ false
not-toxic n e = by (eqb_tells n toxic)
  where
    by : (((n == toxic) ≡ true) × (n ≡ toxic)) ⊎ (((n == toxic) ≡ false) × (n ≢ toxic)) → (n == toxic) ≡ false
    by (inl x) = absurd (true≢false (sym e ∙ ap (λ (k : ℕ). may_poison_by (move_at k).effect) x.1 ∙ toxic-poisons))
    by (inr x) = x.0

-- Stages. They shift after a member fell without an event too

recomputed-placid : (stat : Stat) (k : ℕ) → Placid (recomputed_at stat k)
unfolding recomputed_at
recomputed-placid Attack k a = refl
recomputed-placid Speed k a = refl
recomputed-placid _ k a = refl

new_stage-placid : (stat : Stat) (k : ℕ) → Placid (at_new_stage stat k)
unfolding at_new_stage
new_stage-placid stat k a = refl

-- A fact that changes of an active member keep, and events that a story doesn't follow.
record Steady (P : Progress → Type 0) : Type 1 where
  active : (S : Progress → Type 0) (s : Side) (change : Active → Active) → Placid change → Leads P P S (on_active s change)
  note : (S : Progress → Type 0) (event : Field → Event) → ((f : Field) → is_still (event f) ≡ true) → Leads P P S (note event)

module _ {P S : Progress → Type 0} (k : Steady P) where
  penalty-shifts : (s : Side) → Leads P P S (take_penalty_again s)
  unfolding take_penalty_again
  penalty-shifts s = given-tells _ (λ status. k.active _ s (with_penalty_of status) (penalty-placid status))

  shift_to-shifts : (user target : Side) (stat : Stat) (m : ℕ) → Leads P P S (shift_to user target stat m)
  unfolding shift_to
  shift_to-shifts user target stat m = k.active _ target (recomputed_at stat m) (recomputed-placid stat m) ⊳ penalty-shifts (other user)

  boost-shifts : (s : Side) (stat : Stat) (m : ℕ) → Leads P P S (note_boost s stat m)
  unfolding note_boost
  boost-shifts s stat m = choose-tells _ (k.note _ (λ f. events.Boost (who_in s f) stat m) (λ f. refl)) stay-tells

  unboost-shifts : (s : Side) (stat : Stat) (m : ℕ) → Leads P P S (note_unboost s stat m)
  unfolding note_unboost
  unboost-shifts s stat m = choose-tells _ (k.note _ (λ f. events.Unboost (who_in s f) stat m) (λ f. refl)) stay-tells

  raise_from-shifts : (user target : Side) (stat : Stat) (by : ℕ) {f : Phase} (m : ℕ) (full : Bool) → Leads P P S f → Leads P P S (raise_from user target stat by f m full)
  unfolding raise_from
  raise_from-shifts user target stat by m full h = choose-tells _ h
      (choose-tells _ (k.active _ target (at_new_stage stat _) (new_stage-placid stat _) ⊳ boost-shifts target stat _ ⊳ h) (shift_to-shifts user target stat _ ⊳ boost-shifts target stat _))

  lower_from-shifts : (user target : Side) (stat : Stat) (by : ℕ) {f : Phase} (m : ℕ) (least : Bool) → Leads P P S f → Leads P P S (lower_from user target stat by f m least)
  unfolding lower_from
  lower_from-shifts user target stat by m least h = choose-tells _ h
      (choose-tells _ (k.active _ target (at_new_stage stat _) (new_stage-placid stat _) ⊳ unboost-shifts target stat _ ⊳ h) (shift_to-shifts user target stat _ ⊳ unboost-shifts target stat _))

  raise-shifts : (user target : Side) (stat : Stat) (by : ℕ) {f : Phase} → Leads P P S f → Leads P P S (raise_stage user target stat by f)
  unfolding raise_stage
  raise-shifts user target stat by h = given-tells _ (λ m. given-tells _ (λ full. raise_from-shifts user target stat by m full h))

  lower-shifts : (user target : Side) (stat : Stat) (by : ℕ) {f : Phase} → Leads P P S f → Leads P P S (lower_stage user target stat by f)
  unfolding lower_stage
  lower-shifts user target stat by h = given-tells _ (λ m. given-tells _ (λ least. lower_from-shifts user target stat by m least h))

-- Haze: both sides are cleared before its event

pub record Due (v : Story) (n : Sizes) (pre : List Event) (change : Field → Field) (f : Field) (es : List Event) : Type 0 where
  pub before : Field
  pub held : Holds v n pre before es
  pub now : f ≡ change before

abbrev pub IsDue : Story → Sizes → List Event → (Field → Field) → Progress → Type 0
IsDue v n pre change p = Due v n pre change p.field p.events

healthy-awake : (status : Status) → not (is_healthy status) ≡ false → is_asleep status ≡ false
healthy-awake (Asleep turns marked) e = absurd (true≢false e)
healthy-awake _ e = refl

or-first : (a b : Bool) → (a || b) ≡ false → a ≡ false
or-first true b e = e
or-first false b e = refl

-- Sleep has no penalty.
pub unpenalised : (s : Side) (turns : ℕ) (marked : Bool) (f : Field) → changed_active s (with_penalty_of (Asleep turns marked)) f ≡ f
unfolding changed_active with_penalty_of
unpenalised One turns marked f = refl
unpenalised Two turns marked f = refl

cleared-begun : {n : Sizes} (s : Side) (f : Field) → Begun n f → Begun n (with_cleared s f)
unfolding with_levelled_stats
cleared-begun s f b = begun-conditions s after_haze (changed_active s with_levelled_stats f) (begun-active s with_levelled_stats f (λ a. refl) b)

module _ {v : Story} {n : Sizes} {pre : List Event} where
  now-steady : Steady (Now v n pre)
  now-steady = record { active = λ S s change h. active-tells s change h; note = λ S event h. note-tells event h }

  may-steady : Steady (MayFall v n pre)
  unfolding on_active on_field note
  may-steady = record {
    active = λ S s change h. record { leads = λ p r m. Runs r (may-active s change h p.field p.events m) };
    note = λ S event h. record { leads = λ p r m. Runs r (may-noise (event p.field) (h p.field) p.field p.events m) };
  }

  pub raise-tells : {S : Progress → Type 0} (user target : Side) (stat : Stat) (by : ℕ) {f : Phase} → Leads (Now v n pre) (Now v n pre) S f
      → Leads (Now v n pre) (Now v n pre) S (raise_stage user target stat by f)
  raise-tells user target stat by h = raise-shifts now-steady user target stat by h

  pub lower-tells : {S : Progress → Type 0} (user target : Side) (stat : Stat) (by : ℕ) {f : Phase} → Leads (Now v n pre) (Now v n pre) S f
      → Leads (Now v n pre) (Now v n pre) S (lower_stage user target stat by f)
  lower-tells user target stat by h = lower-shifts now-steady user target stat by h

  pub raise-falls : {S : Progress → Type 0} (user target : Side) (stat : Stat) (by : ℕ) {f : Phase} → Leads (MayFall v n pre) (MayFall v n pre) S f
      → Leads (MayFall v n pre) (MayFall v n pre) S (raise_stage user target stat by f)
  raise-falls user target stat by h = raise-shifts may-steady user target stat by h

  pub now-due : (p : Progress) → Now v n pre p → IsDue v n pre (λ f. f) p
  now-due p m = record { before = p.field; held = m; now = refl }

  pub due-field : {S : Progress → Type 0} (change G : Field → Field) → Leads (IsDue v n pre G) (IsDue v n pre (λ f. change (G f))) S (on_field change)
  unfolding on_field
  due-field change G = record { leads = λ p r m. Runs r (record { before = m.before; held = m.held; now = ap change m.now }) }

  clear_side-tells : {S : Progress → Type 0} (s : Side) (G : Field → Field) → Leads (IsDue v n pre G) (IsDue v n pre (λ f. with_cleared s (G f))) S (clear_side s)
  unfolding clear_side on_active on_conditions
  clear_side-tells s G = due-field (changed_active s with_levelled_stats) G ⊳ due-field (changed_conditions s after_haze) (λ f. changed_active s with_levelled_stats (G f))

  holds-cleared : (f : Field) (es : List Event) → Holds v n pre f es → Holds v n pre (with_cleared Two (with_cleared One f)) (es ++ events.ClearAll ∷ [])
  holds-cleared f es m = record {
    begun = cleared-begun Two (with_cleared One f) (cleared-begun One f m.begun);
    exact = at_end v.exact (with_cleared Two (with_cleared One f)) pre es events.ClearAll (v.clears f (pre ++ es) m.begun.both m.exact);
  }

  clears-told : {S : Progress → Type 0} → Leads (IsDue v n pre (λ f. with_cleared Two (with_cleared One f))) (Now v n pre) S (note (λ f. events.ClearAll))
  unfolding note
  clears-told = record {
    leads = λ p r m. Runs r (subst (λ (f : Field). Holds v n pre f (p.events ++ events.ClearAll ∷ [])) (sym m.now) (holds-cleared m.before p.events m.held));
  }

  -- Conversion

  holds-converted : (s : Side) (f : Field) (es : List Event) → Holds v n pre f es
      → let g : Field = changed_active s (with_types_of (active_in (other s) f)) f in Holds v n pre g (es ++ events.Start (who_in s g) volatiles.TypeChange ∷ [])
  unfolding with_types_of
  holds-converted s f es m =
      let change : Active → Active = with_types_of (active_in (other s) f) in
      let g : Field = changed_active s change f in
      record {
        begun = begun-active s change f (λ a. refl) m.begun;
        exact = at_end v.exact g pre es (events.Start (who_in s g) volatiles.TypeChange) (v.converts s f (pre ++ es) m.begun.both m.exact);
      }

few-turns : (b : ℕ) → low_bits 3 b ≤ 7
few-turns b = omega arith

module _ {v : Story} {n : Sizes} {pre : List Event} where
  -- The rulings

  slept-due : {S : Progress → Type 0} (s : Side) (turns : ℕ) (marked : Bool) → v.lulled s turns marked
      → Leads (IsDue v n pre (slept s turns marked)) (Now v n pre) S (told (changed_active s (with_penalty_of (Asleep turns marked))) (λ f. events.Status (who_in s f) kinds.Sleep))
  unfolding told
  slept-due s turns marked k = record {
    leads = λ p r m.
        Runs r (subst (λ (f : Field). Holds v n pre f (p.events ++ events.Status (who_in s f) kinds.Sleep ∷ [])) (sym (unpenalised s turns marked p.field ∙ m.now))
        (holds-slept s turns marked k m.before p.events m.held));
  }

  pub sleep_for-tells : (marked : Bool) (s : Side) (b : ℕ) → Lulls v s marked → Tells v n pre (sleep_for marked s b)
  unfolding sleep_for inflict on_member
  sleep_for-tells marked s b k = before-leads now-due (due-field (slept s (low_bits 3 b) marked) (λ f. f)) ⊳ slept-due s (low_bits 3 b) marked (k (low_bits 3 b) (few-turns b))

  pub fall_asleep-tells : (marked : Bool) (s : Side) → Lulls v s marked → Tells v n pre (fall_asleep marked s)
  unfolding fall_asleep seeing
  fall_asleep-tells marked s k = until-tells is_sleep_count (λ b. sleep_for-tells marked s b k)

  pub sleeps_under-tells : (clause : Bool) (s : Side) → Lulls v (other s) clause → Tells v n pre (sleeps_under clause s)
  unfolding sleeps_under sleep_only_one sleep_freely seeing
  sleeps_under-tells true s k = fails_if-tells s _ ⊳ fall_asleep-tells true (other s) k
  sleeps_under-tells false s k = fall_asleep-tells false (other s) k

  freeze_freely-tells : (s : Side) → Leads (λ p. Now v n pre p × IsAwake (other s) p.field) (Now v n pre) (MayFall v n pre) (freeze_freely s)
  unfolding freeze_freely seeing
  freeze_freely-tells s = with-keeps (conditions-tells (other s) _ (λ c. refl)) (on_conditions-keeps (other s) _ (awake-conditions (other s) (other s) _)) ⊳ inflict-tells (other s) _ _ refl (refl, refl)

  pub freezes_under-tells : (clause : Bool) (s : Side) → Leads (λ p. Now v n pre p × IsAwake (other s) p.field) (Now v n pre) (MayFall v n pre) (freezes_under clause s)
  unfolding freezes_under freeze_only_one seeing
  freezes_under-tells true s = choose-tells _ (before-leads (λ p m. m.0) stay-tells) (freeze_freely-tells s)
  freezes_under-tells false s = freeze_freely-tells s

  abbrev pub ruling_of-tells : (t : Terms) → RulingTells v n pre (ruling_of t)
  ruling_of-tells t = record { marked = t.rules.sleep_clause; sleeps = sleeps_under-tells t.rules.sleep_clause; freezes = freezes_under-tells t.rules.freeze_clause }

  -- Before damage

  pub confused_by-tells : (s : Side) (b : ℕ) → Tells v n pre (confused_by s b)
  unfolding confused_by seeing
  confused_by-tells s b = starts-tells s _ _ (λ c. refl)

  pub confuse-tells : (s : Side) → Tells v n pre (confuse s)
  unfolding confuse seeing
  confuse-tells s = draw-tells (confused_by-tells s)

  pub confuse_foe-tells : (s : Side) (move : Move) → Tells v n pre (confuse_foe s move)
  unfolding confuse_foe seeing
  confuse_foe-tells s move = fails_if-tells s _ ⊳ must_hit-tells s move ⊳ fails_if-tells s _ ⊳ confuse-tells (other s)

  pub take_types-tells : {S : Progress → Type 0} (s : Side) (foe : Active)
      → Leads (λ p. Now v n pre p × (active (other s) p ≡ foe)) (Now v n pre) S (take_types s foe)
  unfolding take_types told
  take_types-tells s foe = record {
    leads = λ p r m.
        Runs r (subst (λ (x : Active). Holds v n pre (changed_active s (with_types_of x) p.field)
        (p.events ++ events.Start (who_in s (changed_active s (with_types_of x) p.field)) volatiles.TypeChange ∷ [])) m.1 (holds-converted s p.field p.events m.0));
  }

  pub convert-tells : (s : Side) → Tells v n pre (convert s)
  unfolding convert seeing
  convert-tells s = fails_if-tells s _ ⊳ given-sees (active (other s)) (take_types-tells s)

  pub mist-tells : (s : Side) → Tells v n pre (set_mist s)
  unfolding set_mist seeing
  mist-tells s = fails_if-tells s _ ⊳ starts-tells s _ _ (λ c. refl)

  pub focus_energy-tells : (s : Side) → Tells v n pre (set_focus_energy s)
  unfolding set_focus_energy seeing
  focus_energy-tells s = fails_if-tells s _ ⊳ starts-tells s _ _ (λ c. refl)

  pub light_screen-tells : (s : Side) → Tells v n pre (set_light_screen s)
  unfolding set_light_screen seeing
  light_screen-tells s = fails_if-tells s _ ⊳ starts-tells s _ _ (λ c. refl)

  pub reflect-tells : (s : Side) → Tells v n pre (set_reflect s)
  unfolding set_reflect seeing
  reflect-tells s = fails_if-tells s _ ⊳ starts-tells s _ _ (λ c. refl)

  pub screen-tells : (s : Side) (move : Move) → Tells v n pre (set_screen s move)
  unfolding set_screen seeing
  screen-tells s move = choose-tells _ (light_screen-tells s) (reflect-tells s)

  pub cure_kind-tells : (s : Side) (kind : Option Kind) → Tells v n pre (cure_kind s kind)
  unfolding cure_kind seeing
  cure_kind-tells s None = stay-tells
  cure_kind-tells s (Some kind) = cure-tells s kind

  pub skips-tells : (skips : Bool) → Tells v n pre (set_skips skips)
  unfolding set_skips seeing
  skips-tells skips = record { leads = λ p r m. Runs r m }

  pub haze_cures-tells : (s : Side) (status : Status) → Tells v n pre (haze_cures s status)
  unfolding haze_cures seeing
  haze_cures-tells s status = skips-tells _ ⊳ cure_kind-tells s (kind_of status)

  pub haze-tells : (s : Side) → Tells v n pre (haze s)
  unfolding haze seeing
  haze-tells s = before-leads now-due (clear_side-tells One (λ f. f)) ⊳ clear_side-tells Two (with_cleared One) ⊳ clears-told ⊳ given-tells _ (haze_cures-tells (other s))

  pub rest_up-tells : (s : Side) → v.lulled s 2 false → Tells v n pre (rest_up s)
  unfolding rest_up seeing
  rest_up-tells s k = slept-told s 2 false k ⊳ given-tells _ (λ m. gain-tells s _)

  pub recover-tells : (s : Side) → Tells v n pre (recover s)
  unfolding recover seeing
  recover-tells s = given-tells _ (λ m. gain-tells s _)

  pub heal-tells : (s : Side) (move : Move) → v.lulled s 2 false → Tells v n pre (heal s move)
  unfolding heal seeing
  heal-tells s move k = fails_if-tells s _ ⊳ choose-tells _ (rest_up-tells s k) (recover-tells s)

  -- A foe without a status is awake.
  untouched : (s : Side) → Leads (Now v n pre) (λ p. Now v n pre p × IsAwake (other s) p.field) (MayFall v n pre) (fails_if s (has_status (other s)))
  untouched s = after-leads (λ p m. (m.0, healthy-awake (status_of (other s) p) m.1)) (fails_if-sees s (has_status (other s)))

  -- Toxic's poison is bad.
  bad-told : (s : Side) (move : Move) → Leads (λ p. Holds v n pre (sickened s move p.field) p.events) (Now v n pre) (MayFall v n pre)
      (choose (λ p. move.number == toxic) (on_conditions (other s) with_bad_poison) stay)
  unfolding on_conditions on_field stay
  bad-told s move = if-sees (move.number == toxic)
      (λ e. record { leads = λ p r m. Runs r (subst (λ (b : Bool). Holds v n pre (if b then changed_conditions (other s) with_bad_poison p.field else p.field) p.events) e m) })
      (λ e. record { leads = λ p r m. Runs r (subst (λ (b : Bool). Holds v n pre (if b then changed_conditions (other s) with_bad_poison p.field else p.field) p.events) e m) })

  pub poison-tells : (s : Side) (move : Move) → v.acted s move → Tells v n pre (poison_foe s move)
  unfolding poison_foe seeing
  poison-tells s move a = fails_if-tells s _ ⊳ untouched s ⊳ with-keeps (fails_if-tells s _) (fails_if-awake (other s) s _)
      ⊳ with-keeps (must_hit-tells s move) (must_hit-awake (other s) s move) ⊳ poison-told s move a
      ⊳ bad-told s move

  pub paralyse-tells : (s : Side) (move : Move) → Tells v n pre (paralyse_foe s move)
  unfolding paralyse_foe seeing
  paralyse-tells s move = untouched s ⊳ with-keeps (fails_if-tells s _) (fails_if-awake (other s) s _) ⊳ with-keeps (must_hit-tells s move) (must_hit-awake (other s) s move) ⊳ inflict-tells (other s) _ _ refl (refl, refl)

  pub seed-tells : (s : Side) (move : Move) → Tells v n pre (seed_foe s move)
  unfolding seed_foe seeing
  seed-tells s move = must_hit-tells s move ⊳ fails_if-tells s _ ⊳ starts-tells (other s) _ _ (λ c. refl)

  pub pay-tells : (s : Side) (cost : ℕ) → Tells v n pre (pay_for_substitute s cost)
  unfolding pay_for_substitute seeing
  pay-tells s cost = starts-tells s _ _ (λ c. refl) ⊳ lose-tells s _ refl cost

  pub make_substitute-tells : (s : Side) → Tells v n pre (make_substitute s)
  unfolding make_substitute seeing
  make_substitute-tells s = fails_if-tells s _ ⊳ fails_if-tells s _ ⊳ given-tells _ (pay-tells s)

  pub splash-tells : (s : Side) → Tells v n pre (splash s)
  unfolding splash seeing
  splash-tells s = note-tells _ (λ f. refl)

  pub early_effect-tells : (s : Side) (move : Move) (e : Effect) → v.acted s move → (heals e ≡ true → v.lulled s 2 false) → Tells v n pre (early_effect s move e)
  unfolding early_effect seeing
  early_effect-tells s move effects.Conversion a k = convert-tells s
  early_effect-tells s move effects.Mist a k = mist-tells s
  early_effect-tells s move effects.FocusEnergy a k = focus_energy-tells s
  early_effect-tells s move effects.Screen a k = screen-tells s move
  early_effect-tells s move effects.Haze a k = haze-tells s
  early_effect-tells s move effects.InflictConfusion a k = confuse_foe-tells s move
  early_effect-tells s move effects.Heal a k = heal-tells s move (k refl)
  early_effect-tells s move effects.InflictPoison a k = poison-tells s move a
  early_effect-tells s move effects.InflictParalysis a k = paralyse-tells s move
  early_effect-tells s move effects.LeechSeed a k = seed-tells s move
  early_effect-tells s move effects.Substitute a k = make_substitute-tells s
  early_effect-tells s move effects.Splash a k = splash-tells s
  early_effect-tells s move _ a k = fail-tells s

  -- After the damage step

  pub ready_to_sleep-tells : (s : Side) (move : Move) → Tells v n pre (ready_to_sleep s move)
  unfolding ready_to_sleep seeing
  ready_to_sleep-tells s move = choose-tells _ (conditions-tells (other s) _ (λ c. refl)) (fails_if-tells s _ ⊳ must_hit-tells s move)

  pub put_to_sleep-tells : (r : Ruling) (h : RulingTells v n pre r) (s : Side) (move : Move) → Lulls v (other s) h.marked → Tells v n pre (put_to_sleep r s move)
  unfolding put_to_sleep seeing
  put_to_sleep-tells r h s move k = ready_to_sleep-tells s move ⊳ h.sleeps s k

  pub lower_foes-tells : (s : Side) (move : Move) (stat : Stat) (by : ℕ) → Tells v n pre (lower_foes_stat s move stat by)
  unfolding lower_foes_stat seeing
  lower_foes-tells s move stat by = fails_if-tells s _ ⊳ must_hit-tells s move ⊳ fails_if-tells s _ ⊳ lower-tells s (other s) stat by (fail-tells s)

  pub bide_for-tells : (s : Side) (move : Move) → v.knows s move → bides move.effect ≡ true → (b : ℕ) → Tells v n pre (bide_for s b)
  unfolding bide_for seeing
  bide_for-tells s move k e b = stores-tells s move k e _

  pub bide-tells : (s : Side) (move : Move) → v.knows s move → bides move.effect ≡ true → Tells v n pre (start_bide s)
  unfolding start_bide seeing
  bide-tells s move k e = draw-tells (bide_for-tells s move k e)

  pub late_effect-tells : (r : Ruling) (h : RulingTells v n pre r) (s : Side) (move : Move) (e : Effect) → (bides e ≡ true → v.knows s move × (bides move.effect ≡ true))
      → (lulls e ≡ true → Lulls v (other s) h.marked) → Tells v n pre (late_effect r s move e)
  unfolding late_effect seeing
  late_effect-tells r h s move (effects.StatUp stat by) k l = raise-tells s s stat by (fail-tells s)
  late_effect-tells r h s move (effects.StatDown stat by) k l = lower_foes-tells s move stat by
  late_effect-tells r h s move effects.InflictSleep k l = put_to_sleep-tells r h s move (l refl)
  late_effect-tells r h s move effects.Bide k l = let known = k refl in bide-tells s move known.0 known.1
  late_effect-tells r h s move _ k l = stay-tells

  -- Side effects

  happens-tells : (bound : ℕ) {f : Phase} → Tells v n pre f → (x : ℕ) → Tells v n pre (happens_below bound f x)
  unfolding happens_below seeing
  happens-tells bound h x = choose-tells _ h stay-tells

  pub by_chance-tells : (bound : ℕ) {f : Phase} → Tells v n pre f → Tells v n pre (by_chance bound f)
  unfolding by_chance seeing
  by_chance-tells bound h = draw-tells (happens-tells bound h)

  pub thaw-tells : (s : Side) (move : Move) → Tells v n pre (thaw s move)
  unfolding thaw seeing
  thaw-tells s move = choose-tells _ (cure-tells (other s) _) stay-tells

  -- Of a foe that is awake
  chance-awake : (s : Side) (bound : ℕ) {f : Phase} → Leads (λ p. Now v n pre p × IsAwake s p.field) (Now v n pre) (MayFall v n pre) f
      → Leads (λ p. Now v n pre p × IsAwake s p.field) (Now v n pre) (MayFall v n pre) (by_chance bound f)
  unfolding by_chance happens_below draw
  chance-awake s bound h = record {
    leads = λ p r m. (choose-tells (λ q. nat_lt (byte_at p.stream p.drawn) bound) h (before-leads (λ q k. k.0) stay-tells)).leads (record p { drawn = p.drawn + 1 }) r m;
  }

  pub may_inflict-tells : (s : Side) (move : Move) (bound : ℕ) {f : Phase} → Leads (λ p. Now v n pre p × IsAwake (other s) p.field) (Now v n pre) (MayFall v n pre) f
      → Tells v n pre (may_inflict s move bound f)
  unfolding may_inflict seeing
  may_inflict-tells s move bound h = choose-sees (has_status (other s)) (before-leads (λ p m. m.0) (thaw-tells s move))
      (before-leads (λ p m. (m.0, healthy-awake (status_of (other s) p) m.1)) (choose-tells _ (before-leads (λ p m. m.0) stay-tells) (chance-awake (other s) bound h)))

  pub may_poison-tells : (s : Side) (move : Move) → v.acted s move → (move.number == toxic) ≡ false → (bound : ℕ) → Tells v n pre (may_poison s bound)
  unfolding may_poison seeing
  may_poison-tells s move a e bound = choose-sees _ (before-leads (λ p m. m.0) stay-tells)
      (before-leads (λ p m. (m.0, healthy-awake (status_of (other s) p) (or-first (has_status (other s) p) _ m.1))) (chance-awake (other s) bound (after-leads
      (λ p m. subst (λ (b : Bool). Holds v n pre (if b then changed_conditions (other s) with_bad_poison p.field else p.field) p.events) e m) (poison-told s move a))))

  pub may_confuse-tells : (s : Side) (bound : ℕ) → Tells v n pre (may_confuse s bound)
  unfolding may_confuse seeing
  may_confuse-tells s bound = by_chance-tells bound (choose-tells _ stay-tells (confuse-tells (other s)))

  pub flinches-tells : (s : Side) → Tells v n pre (flinch s)
  unfolding flinch seeing
  flinches-tells s = conditions-tells s _ (λ c. refl) ⊳ conditions-tells s _ (λ c. refl)

  pub kept_away-tells : (r : Ruling) → RulingTells v n pre r → (s : Side) (move : Move) (e : Effect) → (may_poison_by e ≡ true → Poisons v s move)
      → Tells v n pre (kept_away_effect r s move e)
  unfolding kept_away_effect seeing
  kept_away-tells r h s move (effects.PoisonChance n) a = let k = a refl in may_poison-tells s move k.acts k.plain n
  kept_away-tells r h s move effects.Twineedle a = let k = a refl in may_poison-tells s move k.acts k.plain 52
  kept_away-tells r h s move (effects.BurnChance n) a = may_inflict-tells s move n (inflict-tells (other s) _ _ refl (refl, refl))
  kept_away-tells r h s move effects.FreezeChance a = may_inflict-tells s move 26 (h.freezes s)
  kept_away-tells r h s move (effects.ParalysisChance n) a = may_inflict-tells s move n (inflict-tells (other s) _ _ refl (refl, refl))
  kept_away-tells r h s move (effects.FlinchChance n) a = by_chance-tells n (flinches-tells (other s))
  kept_away-tells r h s move (effects.StatDownChance stat) a = by_chance-tells 85 (lower-tells s (other s) stat 1 stay-tells)
  kept_away-tells r h s move _ a = stay-tells

  disable_for-tells : (s : Side) (b c : ℕ) → Tells v n pre (disable_for s b c)
  unfolding disable_for seeing
  disable_for-tells s b c = starts-tells s _ _ (λ c. refl)

  disable_slot-tells : (s : Side) (moves : List KnownMove) (b : ℕ) → Tells v n pre (disable_slot s moves b)
  unfolding disable_slot seeing
  disable_slot-tells s moves b = fails_if-tells s _ ⊳ draw-tells (disable_for-tells (other s) b)

  pub disable-tells : (s : Side) (move : Move) → Tells v n pre (disable s move)
  unfolding disable seeing
  disable-tells s move = must_hit-tells s move ⊳ fails_if-tells s _ ⊳ given-tells _ (λ moves. until-tells (names_slot moves) (disable_slot-tells s moves))

  pub must_recharge-tells : (s : Side) (move : Move) → v.knows s move → recharges move.effect ≡ true → Tells v n pre (must_recharge s)
  unfolding must_recharge
  must_recharge-tells s move k e = told-tells (changed_conditions s with_recharge) (λ f. events.MustRecharge (who_in s f)) (λ f es m. record {
    begun = begun-conditions s with_recharge f m.begun;
    exact = at_end v.exact (changed_conditions s with_recharge f) pre es (events.MustRecharge (who_in s (changed_conditions s with_recharge f)))
        (v.rests s move k e f (pre ++ es) m.begun.both m.exact);
  })

  pub side_effect-tells : (r : Ruling) → RulingTells v n pre r → (s : Side) (move : Move) (e : Effect) → (may_poison_by e ≡ true → Poisons v s move)
      → (recharges e ≡ true → Rests v s move) → Tells v n pre (side_effect r s move e)
  unfolding side_effect seeing
  side_effect-tells r h s move (effects.ConfusionChance n) a k = may_confuse-tells s n
  side_effect-tells r h s move effects.Disable a k = disable-tells s move
  side_effect-tells r h s move effects.Recharge a k = let q = k refl in must_recharge-tells s move q.knows q.effect
  side_effect-tells r h s move e a k = choose-tells _ stay-tells (kept_away-tells r h s move e a)
