-- A spectator can follow what moves do in addition to damage.
use Rattle.std.proofs.Common.{Bool, List, None, Option, Some, ap, arith, false, lit≤, min, nat_le, nat_lt, refl, sym, true, ℕ, ◌+◌, ◌-◌, ◌∙◌, ◌≡◌, ◌≤◌}
use Rattle.std.proofs.lemmas.Bool.{leb-true, leb-false, ltb-false}
use Rattle.gen1_tables.specs.declared.effect.Stat.{Stat}
use Rattle.gen1_tables.specs.declared.effect.Effect.{Effect}
use Rattle.gen1_tables.specs.declared.effect.Effect.TheVariants as effects
use Rattle.gen1_stats.specs.declared.member.KnownMove.{KnownMove}
use Rattle.gen1_stats.specs.declared.member.Status.{Status}
use Rattle.gen1_stats.specs.declared.member.Status.TheVariants.{Asleep}
use Rattle.gen1_machine.specs.declared.side.Side.{Side}
use Rattle.gen1_machine.specs.declared.side.Side.TheVariants.{One, Two}
use Rattle.gen1_machine.specs.declared.event.Kind.{Kind}
use Rattle.gen1_machine.specs.declared.event.Kind.TheVariants as kinds
use Rattle.gen1_machine.specs.declared.event.Volatile.TheVariants as volatiles
use Rattle.gen1_machine.specs.declared.event.Event.{Event}
use Rattle.gen1_machine.specs.declared.event.Event.TheVariants as events
use Rattle.gen1_machine.specs.Sides.{other}
use Rattle.gen1_machine.specs.Conditions.{with_recharge, after_haze}
use Rattle.gen1_machine.specs.Moves.{Move}
use Rattle.gen1_machine.specs.State.{party, active_in, who_in, kind_of, changed_active, changed_conditions, with_types_of, level_stages, Stages, Active, Field, Terms}
use Rattle.gen1_machine.specs.CurrentStats.{stage_of, with_stage, at_new_stage, recomputed_at}
use Rattle.gen1_machine.specs.Progress.{Phase, stay, note, on_active, on_conditions, Progress}
use Rattle.gen1_machine.specs.StageShift.{note_boost, note_unboost, take_penalty_again, shift_to, raised, raise_from, lower_from, stage_in, raise_stage, lower_stage}
use Rattle.gen1_machine.specs.Ruling.{is_sleep_count, sleep_for, fall_asleep, sleep_freely, freeze_freely, sleep_only_one, freeze_only_one, sleeps_under, freezes_under, ruling_of, Ruling}
use Rattle.gen1_machine.specs.EarlyEffects.{confused_by, confuse, confuse_foe, take_types, convert, set_mist, set_focus_energy, set_light_screen, set_reflect, set_screen, with_levelled_stats, clear_side, cure_kind, set_skips, haze_cures, haze, rest_up, recover, heal, poison_foe, paralyse_foe, seed_foe, pay_for_substitute, make_substitute, splash, early_effect}
use Rattle.gen1_machine.specs.LateEffects.{ready_to_sleep, put_to_sleep, lower_foes_stat, bide_for, start_bide, late_effect}
use Rattle.gen1_machine.specs.SideEffects.{happens_below, by_chance, thaw, may_inflict, may_poison, may_confuse, flinch, kept_away_effect, names_slot, disable_for, disable_slot, disable, must_recharge, side_effect}
use Rattle.gen1_machine.specs.View.{side_view, on_side_view, if_out, sees_volatile, sees_rise, sees_drop, sees, side_shows, shows, SideView, View}
use Rattle.gen1_machine.proofs.Watching.{BothOut, AllOut, Keeps, kept, keeps-active, keeps-conditions, silent-conditions, silent-penalty, out-shows, told-active, changed-shows, same-stage, at_stage, recomputed-place, recomputed-shows, new_stage-shows, seeing, Runs, Leads, Seen, Tells, Ahead, Anything, fallen_view, after-leads, before-leads, ◌⊳◌, choose-tells, if-sees, given-tells, given-sees, draw-tells, until-tells, stay-tells, more-ahead, still-ahead, note-told, sees_all-last, conditions-tells, note-tells, told-tells, start-seen, boost-seen, unboost-seen, starts-tells, lose-tells, gain-tells, status-tells, inflict-tells, cure-tells}
use Rattle.gen1_machine.proofs.WatchedGate.{fail-tells, fails_if-tells, must_hit-tells}

-- Effects that shift a stage by at least one.
abbrev pub shifts_well : Effect → Bool
shifts_well (effects.StatUp stat n) = nat_le 1 n
shifts_well (effects.StatDown stat n) = nat_le 1 n
shifts_well _ = true

pub record RulingTells (v : View) (r : Ruling) : Type 0 where
  pub sleeps : (s : Side) → Tells v (r.sleeps s)
  pub freezes : (s : Side) → Tells v (r.freezes s)

-- What shows may lag: by nothing, or by a member that fell without an event

abbrev pub Lags : View → (View → View) → Progress → Type 0
Lags v G p = Ahead v Anything G p

pub seen-lags : {v : View} (p : Progress) → Seen v p → Lags v (λ w. w) p
seen-lags p m = record { before = p.field; was = m.out; fact = tt; agrees = m.agrees; out = m.out; ahead = refl }

pub lags-seen : {v : View} (p : Progress) → Lags v (λ w. w) p → Seen v p
lags-seen p m = record { out = m.out; agrees = m.agrees ∙ sym m.ahead }

-- Stages don't depend on the lag.
pub record Apart (G : View → View) : Type 0 where
  pub commutes : (s : Side) (stat : Stat) (n : ℕ) (w : View) → on_side_view s (at_stage stat n) (G w) ≡ G (on_side_view s (at_stage stat n) w)
  pub stages : (s : Side) (w : View) → (side_view s (G w)).stages ≡ (side_view s w).stages

pub apart-nothing : Apart (λ w. w)
apart-nothing = record { commutes = λ s stat n w. refl; stages = λ s w. refl }

fallen-commutes : (t s : Side) (stat : Stat) (n : ℕ) (w : View) → on_side_view s (at_stage stat n) (fallen_view t w) ≡ fallen_view t (on_side_view s (at_stage stat n) w)
fallen-commutes One One stat n w = refl
fallen-commutes One Two stat n w = refl
fallen-commutes Two One stat n w = refl
fallen-commutes Two Two stat n w = refl

fallen-stages : (t s : Side) (w : View) → (side_view s (fallen_view t w)).stages ≡ (side_view s w).stages
fallen-stages One One w = refl
fallen-stages One Two w = refl
fallen-stages Two One w = refl
fallen-stages Two Two w = refl

pub apart-fallen : (t : Side) → Apart (fallen_view t)
apart-fallen t = record { commutes = fallen-commutes t; stages = fallen-stages t }

stages-shown : (s : Side) (f : Field) → (side_view s (shows f)).stages ≡ (active_in s f).stages
stages-shown One f = refl
stages-shown Two f = refl

abbrev at : Side → Stat → ℕ → Field → Type 0
at s stat n f = stage_in stat s f ≡ n

knows-stage : {v : View} (G : View → View) → Apart G → (s : Side) (stat : Stat) (n : ℕ) (p : Progress)
    → Lags v G p × (stage_in stat s p.field ≡ n) → Ahead v (at s stat n) G p
knows-stage G h s stat n p m =
    let same : (active_in s m.0.before).stages ≡ (active_in s p.field).stages =
    sym (stages-shown s m.0.before) ∙ sym (h.stages s (shows m.0.before)) ∙ sym (ap (λ (w : View). (side_view s w).stages) m.0.ahead) ∙ stages-shown s p.field in
    record { before = m.0.before; was = m.0.was; fact = ap (λ (x : Stages). stage_of stat x) same ∙ m.1; agrees = m.0.agrees; out = m.0.out; ahead = m.0.ahead }

-- What an event of a stage says.
pub on-side-same : (s : Side) (g h : SideView → SideView) (f : Field) → BothOut f → g (side_shows (party s f)) ≡ h (side_shows (party s f))
    → on_side_view s (if_out g) (shows f) ≡ on_side_view s h (shows f)
on-side-same One g h f o e = ap (λ (x : SideView). record (shows f) { one = x }) (out-shows g (side_shows f.one) o.one.placed ∙ e)
on-side-same Two g h f o e = ap (λ (x : SideView). record (shows f) { two = x }) (out-shows g (side_shows f.two) o.two.placed ∙ e)

same-view : (s : Side) (stat : Stat) (n : ℕ) (f : Field) → stage_in stat s f ≡ n → on_side_view s (at_stage stat n) (shows f) ≡ shows f
same-view One stat n f e = ap (λ (x : Stages). record (shows f) { one = record (side_shows f.one) { stages = x } })
    (ap (λ m. with_stage stat m f.one.active.stages) (sym e) ∙ same-stage stat f.one.active.stages)
same-view Two stat n f e = ap (λ (x : Stages). record (shows f) { two = record (side_shows f.two) { stages = x } })
    (ap (λ m. with_stage stat m f.two.active.stages) (sym e) ∙ same-stage stat f.two.active.stages)

rise-sum : (x n k : ℕ) → x ≡ n → n ≤ k → k ≤ 12 → min 12 (x + (k - n)) ≡ k
rise-sum x n k e low high = omega (arith, e, low, high)

drop-sum : (x n k : ℕ) → x ≡ n → k ≤ n → x - (n - k) ≡ k
drop-sum x n k e low = omega (arith, e, low)

none-left : (n k : ℕ) → n ≤ k → nat_lt 0 (k - n) ≡ false → n ≡ k
none-left n k low e = let h = ltb-false 0 (k - n) e in omega (arith, low, h)

module _ {v : View} {S : Progress → Type 0} where
  -- The event of a stage, while what shows may lag.
  note-lags : (event : Field → Event) (Fact : Field → Type 0) (G k : View → View) (change : Field → Field) → Keeps change
      → ((f : Field) → shows (change f) ≡ k (shows f)) → ((w : View) → k (G w) ≡ G (k w))
      → ((b f : Field) → AllOut b → Fact b → sees (event f) (shows b) ≡ k (shows b))
      → Leads (Ahead v Fact (λ w. k (G w))) (Lags v G) S (note event)
  unfolding note
  note-lags event Fact G k change keeps h c told = record {
    leads = λ p r m.
        Runs r (record {
          before = change m.before;
          was = kept keeps m.before m.was;
          fact = tt;
          agrees = sees_all-last p.events (event p.field) v ∙ ap (λ w. sees (event p.field) w) m.agrees ∙ told m.before p.field m.was m.fact ∙ sym (h m.before);
          out = m.out;
          ahead = m.ahead ∙ c (shows m.before) ∙ ap G (sym (h m.before));
        });
  }

  stay-lags : (Fact : Field → Type 0) (G k : View → View) → ((w : View) → k (G w) ≡ G (k w))
      → ((b : Field) → Fact b → k (shows b) ≡ shows b) → Leads (Ahead v Fact (λ w. k (G w))) (Lags v G) S stay
  unfolding stay
  stay-lags Fact G k c h = record {
    leads = λ p r m.
        Runs r (record { before = m.before; was = m.was; fact = tt; agrees = m.agrees; out = m.out; ahead = m.ahead ∙ c (shows m.before) ∙ ap G (h m.before m.fact) });
  }

  boost-lags : (G : View → View) → Apart G → (s : Side) (stat : Stat) (n k : ℕ) → n ≤ k → k ≤ 12
      → Leads (Ahead v (at s stat n) (λ w. on_side_view s (at_stage stat k) (G w))) (Lags v G) S (note_boost s stat (k - n))
  unfolding note_boost
  boost-lags G h s stat n k low high = if-sees (nat_lt 0 (k - n))
      (λ e. note-lags (λ f. events.Boost (who_in s f) stat (k - n)) (at s stat n) G (on_side_view s (at_stage stat k))
      (changed_active s (recomputed_at stat k)) (keeps-active s _ (recomputed-place stat k)) (recomputed-shows s stat k) (h.commutes s stat k)
      (λ b f o fact. boost-seen (who_in s f) stat (k - n) (shows b) ∙ on-side-same s (sees_rise stat (k - n)) (at_stage stat k) b o.both
      (ap (λ m. at_stage stat m (side_shows (party s b))) (rise-sum (stage_in stat s b) n k fact low high))))
      (λ e. stay-lags (at s stat n) G (on_side_view s (at_stage stat k)) (h.commutes s stat k) (λ b fact. same-view s stat k b (fact ∙ none-left n k low e)))

  unboost-lags : (G : View → View) → Apart G → (s : Side) (stat : Stat) (n k : ℕ) → k ≤ n
      → Leads (Ahead v (at s stat n) (λ w. on_side_view s (at_stage stat k) (G w))) (Lags v G) S (note_unboost s stat (n - k))
  unfolding note_unboost
  unboost-lags G h s stat n k low = if-sees (nat_lt 0 (n - k))
      (λ e. note-lags (λ f. events.Unboost (who_in s f) stat (n - k)) (at s stat n) G (on_side_view s (at_stage stat k))
      (changed_active s (recomputed_at stat k)) (keeps-active s _ (recomputed-place stat k)) (recomputed-shows s stat k) (h.commutes s stat k)
      (λ b f o fact. unboost-seen (who_in s f) stat (n - k) (shows b) ∙ on-side-same s (sees_drop stat (n - k)) (at_stage stat k) b o.both
      (ap (λ m. at_stage stat m (side_shows (party s b))) (drop-sum (stage_in stat s b) n k fact low))))
      (λ e. stay-lags (at s stat n) G (on_side_view s (at_stage stat k)) (h.commutes s stat k) (λ b fact. same-view s stat k b (fact ∙ sym (none-left k n low e))))

  shift-ahead : (Fact : Field → Type 0) (G : View → View) (user target : Side) (stat : Stat) (k : ℕ)
      → Leads (Ahead v Fact G) (Ahead v Fact (λ w. on_side_view target (at_stage stat k) (G w))) S (shift_to user target stat k)
  unfolding shift_to take_penalty_again on_active
  shift-ahead Fact G user target stat k =
      more-ahead (changed_active target (recomputed_at stat k)) Fact G (on_side_view target (at_stage stat k)) (keeps-active target _ (recomputed-place stat k)) (recomputed-shows target stat k)
      ⊳ given-tells _ (λ status. still-ahead _ Fact (λ w. on_side_view target (at_stage stat k) (G w)) (silent-penalty (other user) status))

  stage-ahead : (Fact : Field → Type 0) (G : View → View) (target : Side) (stat : Stat) (k : ℕ)
      → Leads (Ahead v Fact G) (Ahead v Fact (λ w. on_side_view target (at_stage stat k) (G w))) S (on_active target (at_new_stage stat k))
  unfolding on_active at_new_stage
  stage-ahead Fact G target stat k =
      more-ahead (changed_active target (at_new_stage stat k)) Fact G (on_side_view target (at_stage stat k)) (keeps-active target (at_new_stage stat k) (λ a. refl)) (new_stage-shows target stat k)

  raise_from-lags : (G : View → View) → Apart G → (user target : Side) (stat : Stat) (by : ℕ) → 1 ≤ by → {f : Phase} (n : ℕ) (full : Bool)
      → Leads (Lags v G) (Lags v G) S f
      → Leads (λ p. Lags v G p × (stage_in stat target p.field ≡ n)) (Lags v G) S (raise_from user target stat by f n full)
  unfolding raise_from
  raise_from-lags G a user target stat by one n full h = if-sees (nat_le 12 n) (λ e. before-leads (λ p m. m.0) h)
      (λ e. let below = leb-false 12 n e in before-leads (knows-stage G a target stat n)
      (choose-tells _
      (stage-ahead (at target stat n) G target stat (raised by n - 1) ⊳ boost-lags G a target stat n (raised by n - 1) (omega (arith, one, below)) (omega arith) ⊳ h)
      (shift-ahead (at target stat n) G user target stat (raised by n) ⊳ boost-lags G a target stat n (raised by n) (omega (arith, below)) (omega arith))))

  lower_from-lags : (G : View → View) → Apart G → (user target : Side) (stat : Stat) (by : ℕ) → 1 ≤ by → {f : Phase} (n : ℕ) (least : Bool)
      → Leads (Lags v G) (Lags v G) S f
      → Leads (λ p. Lags v G p × (stage_in stat target p.field ≡ n)) (Lags v G) S (lower_from user target stat by f n least)
  unfolding lower_from
  lower_from-lags G a user target stat by one n least h = if-sees (nat_le n 0) (λ e. before-leads (λ p m. m.0) h)
      (λ e. let above = leb-false n 0 e in before-leads (knows-stage G a target stat n)
      (choose-tells _
      (stage-ahead (at target stat n) G target stat (n - by + 1) ⊳ unboost-lags G a target stat n (n - by + 1) (omega (arith, one, above)) ⊳ h)
      (shift-ahead (at target stat n) G user target stat (n - by) ⊳ unboost-lags G a target stat n (n - by) (omega arith))))

  pub raise-lags : (G : View → View) → Apart G → (user target : Side) (stat : Stat) (by : ℕ) → 1 ≤ by → {f : Phase}
      → Leads (Lags v G) (Lags v G) S f → Leads (Lags v G) (Lags v G) S (raise_stage user target stat by f)
  unfolding raise_stage
  raise-lags G a user target stat by one h = given-sees (λ p. stage_in stat target p.field) (λ n. given-tells _ (λ full. raise_from-lags G a user target stat by one n full h))

  pub lower-lags : (G : View → View) → Apart G → (user target : Side) (stat : Stat) (by : ℕ) → 1 ≤ by → {f : Phase}
      → Leads (Lags v G) (Lags v G) S f → Leads (Lags v G) (Lags v G) S (lower_stage user target stat by f)
  unfolding lower_stage
  lower-lags G a user target stat by one h = given-sees (λ p. stage_in stat target p.field) (λ n. given-tells _ (λ least. lower_from-lags G a user target stat by one n least h))

  pub raise-tells : (user target : Side) (stat : Stat) (by : ℕ) → 1 ≤ by → {f : Phase} → Leads (Seen v) (Seen v) S f
      → Leads (Seen v) (Seen v) S (raise_stage user target stat by f)
  raise-tells user target stat by one h = after-leads lags-seen (before-leads seen-lags
      (raise-lags (λ w. w) apart-nothing user target stat by one (after-leads seen-lags (before-leads lags-seen h))))

  pub lower-tells : (user target : Side) (stat : Stat) (by : ℕ) → 1 ≤ by → {f : Phase} → Leads (Seen v) (Seen v) S f
      → Leads (Seen v) (Seen v) S (lower_stage user target stat by f)
  lower-tells user target stat by one h = after-leads lags-seen (before-leads seen-lags
      (lower-lags (λ w. w) apart-nothing user target stat by one (after-leads seen-lags (before-leads lags-seen h))))

-- Haze

abbrev levelled : SideView → SideView
levelled x = record x { stages = level_stages }

abbrev unconfused : SideView → SideView
unconfused x = record x { confused = false; light_screen = false; reflect = false }

abbrev cleared_view : Side → View → View
cleared_view s w = on_side_view s unconfused (on_side_view s levelled w)

clear-seen : (x : View) → sees events.ClearAll x ≡ cleared_view Two (cleared_view One x)
unfolding sees
clear-seen x = refl

levelled-shows : (s : Side) (f : Field) → shows (changed_active s with_levelled_stats f) ≡ on_side_view s levelled (shows f)
unfolding with_levelled_stats
levelled-shows s f = changed-shows s with_levelled_stats levelled f refl

haze-shows : (s : Side) (f : Field) → shows (changed_conditions s after_haze f) ≡ on_side_view s unconfused (shows f)
unfolding changed_conditions after_haze
haze-shows s f = changed-shows s (λ a. record a { conditions = after_haze a.conditions }) unconfused f refl

levelled-keeps : (s : Side) → Keeps (changed_active s with_levelled_stats)
unfolding with_levelled_stats
levelled-keeps s = keeps-active s with_levelled_stats (λ a. refl)

clear_side-tells : {v : View} {S : Progress → Type 0} (s : Side) (G : View → View) → Leads (Lags v G) (Lags v (λ w. cleared_view s (G w))) S (clear_side s)
unfolding clear_side on_active on_conditions
clear_side-tells s G =
    more-ahead (changed_active s with_levelled_stats) Anything G (on_side_view s levelled) (levelled-keeps s) (levelled-shows s)
    ⊳ more-ahead (changed_conditions s after_haze) Anything (λ w. on_side_view s levelled (G w)) (on_side_view s unconfused) (keeps-conditions s after_haze) (haze-shows s)

module _ {v : View} where
  -- The rulings

  pub sleep_for-tells : (marked : Bool) (s : Side) (b : ℕ) → Tells v (sleep_for marked s b)
  unfolding sleep_for seeing
  sleep_for-tells marked s b = inflict-tells s _ _ refl

  pub fall_asleep-tells : (marked : Bool) (s : Side) → Tells v (fall_asleep marked s)
  unfolding fall_asleep seeing
  fall_asleep-tells marked s = until-tells is_sleep_count (sleep_for-tells marked s)

  sleeps_under-tells : (clause : Bool) (s : Side) → Tells v (sleeps_under clause s)
  unfolding sleeps_under sleep_only_one sleep_freely seeing
  sleeps_under-tells true s = fails_if-tells s _ ⊳ fall_asleep-tells true (other s)
  sleeps_under-tells false s = fall_asleep-tells false (other s)

  freeze_freely-tells : (s : Side) → Tells v (freeze_freely s)
  unfolding freeze_freely seeing
  freeze_freely-tells s = conditions-tells (other s) _ (λ c. refl) ⊳ inflict-tells (other s) _ _ refl

  freezes_under-tells : (clause : Bool) (s : Side) → Tells v (freezes_under clause s)
  unfolding freezes_under freeze_only_one seeing
  freezes_under-tells true s = choose-tells _ stay-tells (freeze_freely-tells s)
  freezes_under-tells false s = freeze_freely-tells s

  pub ruling_of-tells : (t : Terms) → RulingTells v (ruling_of t)
  ruling_of-tells t = record { sleeps = sleeps_under-tells t.rules.sleep_clause; freezes = freezes_under-tells t.rules.freeze_clause }

  -- Before damage

  pub confused_by-tells : (s : Side) (b : ℕ) → Tells v (confused_by s b)
  unfolding confused_by seeing
  confused_by-tells s b = starts-tells s _ _ (λ t. refl)

  pub confuse-tells : (s : Side) → Tells v (confuse s)
  unfolding confuse seeing
  confuse-tells s = draw-tells (confused_by-tells s)

  pub confuse_foe-tells : (s : Side) (move : Move) → Tells v (confuse_foe s move)
  unfolding confuse_foe seeing
  confuse_foe-tells s move = fails_if-tells s _ ⊳ must_hit-tells s move ⊳ fails_if-tells s _ ⊳ confuse-tells (other s)

  pub take_types-tells : (s : Side) (foe : Active) → Tells v (take_types s foe)
  unfolding take_types seeing
  take_types-tells s foe = told-tells (changed_active s (with_types_of foe)) (λ f. events.Start (who_in s f) volatiles.TypeChange) (keeps-active s (with_types_of foe) (λ a. refl))
      (λ f o. start-seen (who_in s (changed_active s (with_types_of foe) f)) volatiles.TypeChange (shows f)
      ∙ told-active s (with_types_of foe) (sees_volatile volatiles.TypeChange true) f o.both refl)

  pub convert-tells : (s : Side) → Tells v (convert s)
  unfolding convert seeing
  convert-tells s = fails_if-tells s _ ⊳ given-tells _ (take_types-tells s)

  pub mist-tells : (s : Side) → Tells v (set_mist s)
  unfolding set_mist seeing
  mist-tells s = fails_if-tells s _ ⊳ starts-tells s _ _ (λ t. refl)

  pub focus_energy-tells : (s : Side) → Tells v (set_focus_energy s)
  unfolding set_focus_energy seeing
  focus_energy-tells s = fails_if-tells s _ ⊳ starts-tells s _ _ (λ t. refl)

  pub light_screen-tells : (s : Side) → Tells v (set_light_screen s)
  unfolding set_light_screen seeing
  light_screen-tells s = fails_if-tells s _ ⊳ starts-tells s _ _ (λ t. refl)

  pub reflect-tells : (s : Side) → Tells v (set_reflect s)
  unfolding set_reflect seeing
  reflect-tells s = fails_if-tells s _ ⊳ starts-tells s _ _ (λ t. refl)

  pub screen-tells : (s : Side) (move : Move) → Tells v (set_screen s move)
  unfolding set_screen seeing
  screen-tells s move = choose-tells _ (light_screen-tells s) (reflect-tells s)

  pub cure_kind-tells : (s : Side) (kind : Option Kind) → Tells v (cure_kind s kind)
  unfolding cure_kind seeing
  cure_kind-tells s None = stay-tells
  cure_kind-tells s (Some kind) = cure-tells s kind

  pub skips-tells : (skips : Bool) → Tells v (set_skips skips)
  unfolding set_skips seeing
  skips-tells skips = record { leads = λ p r m. Runs r m }

  pub haze_cures-tells : (s : Side) (status : Status) → Tells v (haze_cures s status)
  unfolding haze_cures seeing
  haze_cures-tells s status = skips-tells _ ⊳ cure_kind-tells s (kind_of status)

  pub haze-tells : (s : Side) → Tells v (haze s)
  unfolding haze seeing
  haze-tells s = before-leads seen-lags (clear_side-tells One (λ w. w)) ⊳ clear_side-tells Two (cleared_view One)
      ⊳ note-told (λ f. events.ClearAll) Anything (λ w. cleared_view Two (cleared_view One w)) (λ b f o q fact a. clear-seen (shows b)) ⊳ given-tells _ (haze_cures-tells (other s))

  pub rest_up-tells : (s : Side) → Tells v (rest_up s)
  unfolding rest_up seeing
  rest_up-tells s = status-tells s (Asleep 2 false) kinds.Sleep refl ⊳ given-tells _ (λ m. gain-tells s _)

  pub recover-tells : (s : Side) → Tells v (recover s)
  unfolding recover seeing
  recover-tells s = given-tells _ (λ m. gain-tells s _)

  pub heal-tells : (s : Side) (move : Move) → Tells v (heal s move)
  unfolding heal seeing
  heal-tells s move = fails_if-tells s _ ⊳ choose-tells _ (rest_up-tells s) (recover-tells s)

  pub poison-tells : (s : Side) (move : Move) → Tells v (poison_foe s move)
  unfolding poison_foe seeing
  poison-tells s move = fails_if-tells s _ ⊳ fails_if-tells s _ ⊳ fails_if-tells s _ ⊳ must_hit-tells s move ⊳ inflict-tells (other s) _ _ refl
      ⊳ choose-tells _ (conditions-tells (other s) _ (λ c. refl)) stay-tells

  pub paralyse-tells : (s : Side) (move : Move) → Tells v (paralyse_foe s move)
  unfolding paralyse_foe seeing
  paralyse-tells s move = fails_if-tells s _ ⊳ fails_if-tells s _ ⊳ must_hit-tells s move ⊳ inflict-tells (other s) _ _ refl

  pub seed-tells : (s : Side) (move : Move) → Tells v (seed_foe s move)
  unfolding seed_foe seeing
  seed-tells s move = must_hit-tells s move ⊳ fails_if-tells s _ ⊳ starts-tells (other s) _ _ (λ t. refl)

  pub pay-tells : (s : Side) (cost : ℕ) → Tells v (pay_for_substitute s cost)
  unfolding pay_for_substitute seeing
  pay-tells s cost = starts-tells s _ _ (λ t. refl) ⊳ lose-tells s _ cost

  pub make_substitute-tells : (s : Side) → Tells v (make_substitute s)
  unfolding make_substitute seeing
  make_substitute-tells s = fails_if-tells s _ ⊳ fails_if-tells s _ ⊳ given-tells _ (pay-tells s)

  pub splash-tells : (s : Side) → Tells v (splash s)
  unfolding splash seeing
  splash-tells s = note-tells _ (λ f w. refl)

  pub early_effect-tells : (s : Side) (move : Move) (e : Effect) → Tells v (early_effect s move e)
  unfolding early_effect seeing
  early_effect-tells s move effects.Conversion = convert-tells s
  early_effect-tells s move effects.Mist = mist-tells s
  early_effect-tells s move effects.FocusEnergy = focus_energy-tells s
  early_effect-tells s move effects.Screen = screen-tells s move
  early_effect-tells s move effects.Haze = haze-tells s
  early_effect-tells s move effects.InflictConfusion = confuse_foe-tells s move
  early_effect-tells s move effects.Heal = heal-tells s move
  early_effect-tells s move effects.InflictPoison = poison-tells s move
  early_effect-tells s move effects.InflictParalysis = paralyse-tells s move
  early_effect-tells s move effects.LeechSeed = seed-tells s move
  early_effect-tells s move effects.Substitute = make_substitute-tells s
  early_effect-tells s move effects.Splash = splash-tells s
  early_effect-tells s move _ = fail-tells s

  -- After the damage step

  pub ready_to_sleep-tells : (s : Side) (move : Move) → Tells v (ready_to_sleep s move)
  unfolding ready_to_sleep seeing
  ready_to_sleep-tells s move = choose-tells _ (conditions-tells (other s) _ (λ c. refl)) (fails_if-tells s _ ⊳ must_hit-tells s move)

  pub put_to_sleep-tells : (r : Ruling) → RulingTells v r → (s : Side) (move : Move) → Tells v (put_to_sleep r s move)
  unfolding put_to_sleep seeing
  put_to_sleep-tells r h s move = ready_to_sleep-tells s move ⊳ h.sleeps s

  pub lower_foes-tells : (s : Side) (move : Move) (stat : Stat) (by : ℕ) → 1 ≤ by → Tells v (lower_foes_stat s move stat by)
  unfolding lower_foes_stat seeing
  lower_foes-tells s move stat by one = fails_if-tells s _ ⊳ must_hit-tells s move ⊳ fails_if-tells s _ ⊳ lower-tells s (other s) stat by one (fail-tells s)

  pub bide_for-tells : (s : Side) (b : ℕ) → Tells v (bide_for s b)
  unfolding bide_for seeing
  bide_for-tells s b = starts-tells s _ _ (λ t. refl)

  pub bide-tells : (s : Side) → Tells v (start_bide s)
  unfolding start_bide seeing
  bide-tells s = draw-tells (bide_for-tells s)

  pub late_effect-tells : (r : Ruling) → RulingTells v r → (s : Side) (move : Move) (e : Effect) → shifts_well e ≡ true → Tells v (late_effect r s move e)
  unfolding late_effect seeing
  late_effect-tells r h s move (effects.StatUp stat n) w = raise-tells s s stat n (leb-true 1 n w) (fail-tells s)
  late_effect-tells r h s move (effects.StatDown stat n) w = lower_foes-tells s move stat n (leb-true 1 n w)
  late_effect-tells r h s move effects.InflictSleep w = put_to_sleep-tells r h s move
  late_effect-tells r h s move effects.Bide w = bide-tells s
  late_effect-tells r h s move _ w = stay-tells

  -- Side effects

  happens-tells : (bound : ℕ) {f : Phase} → Tells v f → (x : ℕ) → Tells v (happens_below bound f x)
  unfolding happens_below seeing
  happens-tells bound h x = choose-tells _ h stay-tells

  pub by_chance-tells : (bound : ℕ) {f : Phase} → Tells v f → Tells v (by_chance bound f)
  unfolding by_chance seeing
  by_chance-tells bound h = draw-tells (happens-tells bound h)

  pub thaw-tells : (s : Side) (move : Move) → Tells v (thaw s move)
  unfolding thaw seeing
  thaw-tells s move = choose-tells _ (cure-tells (other s) _) stay-tells

  pub may_inflict-tells : (s : Side) (move : Move) (bound : ℕ) {f : Phase} → Tells v f → Tells v (may_inflict s move bound f)
  unfolding may_inflict seeing
  may_inflict-tells s move bound h = choose-tells _ (thaw-tells s move) (choose-tells _ stay-tells (by_chance-tells bound h))

  pub may_poison-tells : (s : Side) (bound : ℕ) → Tells v (may_poison s bound)
  unfolding may_poison seeing
  may_poison-tells s bound = choose-tells _ stay-tells (by_chance-tells bound (inflict-tells (other s) _ _ refl))

  pub may_confuse-tells : (s : Side) (bound : ℕ) → Tells v (may_confuse s bound)
  unfolding may_confuse seeing
  may_confuse-tells s bound = by_chance-tells bound (choose-tells _ stay-tells (confuse-tells (other s)))

  pub flinches-tells : (s : Side) → Tells v (flinch s)
  unfolding flinch seeing
  flinches-tells s = conditions-tells s _ (λ c. refl) ⊳ conditions-tells s _ (λ c. refl)

  pub kept_away-tells : (r : Ruling) → RulingTells v r → (s : Side) (move : Move) (e : Effect) → Tells v (kept_away_effect r s move e)
  unfolding kept_away_effect seeing
  kept_away-tells r h s move (effects.PoisonChance n) = may_poison-tells s n
  kept_away-tells r h s move effects.Twineedle = may_poison-tells s 52
  kept_away-tells r h s move (effects.BurnChance n) = may_inflict-tells s move n (inflict-tells (other s) _ _ refl)
  kept_away-tells r h s move effects.FreezeChance = may_inflict-tells s move 26 (h.freezes s)
  kept_away-tells r h s move (effects.ParalysisChance n) = may_inflict-tells s move n (inflict-tells (other s) _ _ refl)
  kept_away-tells r h s move (effects.FlinchChance n) = by_chance-tells n (flinches-tells (other s))
  kept_away-tells r h s move (effects.StatDownChance stat) = by_chance-tells 85 (lower-tells s (other s) stat 1 (lit≤ tt) stay-tells)
  kept_away-tells r h s move _ = stay-tells

  disable_for-tells : (s : Side) (b c : ℕ) → Tells v (disable_for s b c)
  unfolding disable_for seeing
  disable_for-tells s b c = starts-tells s _ _ (λ t. refl)

  disable_slot-tells : (s : Side) (moves : List KnownMove) (b : ℕ) → Tells v (disable_slot s moves b)
  unfolding disable_slot seeing
  disable_slot-tells s moves b = fails_if-tells s _ ⊳ draw-tells (disable_for-tells (other s) b)

  pub disable-tells : (s : Side) (move : Move) → Tells v (disable s move)
  unfolding disable seeing
  disable-tells s move = must_hit-tells s move ⊳ fails_if-tells s _ ⊳ given-tells _ (λ moves. until-tells (names_slot moves) (disable_slot-tells s moves))

  pub must_recharge-tells : (s : Side) → Tells v (must_recharge s)
  unfolding must_recharge seeing
  must_recharge-tells s = told-tells (changed_conditions s with_recharge) (λ f. events.MustRecharge (who_in s f)) (keeps-conditions s with_recharge)
      (λ f o. sym ((silent-conditions s with_recharge (λ c. refl)).unseen f))

  pub side_effect-tells : (r : Ruling) → RulingTells v r → (s : Side) (move : Move) (e : Effect) → Tells v (side_effect r s move e)
  unfolding side_effect seeing
  side_effect-tells r h s move (effects.ConfusionChance n) = may_confuse-tells s n
  side_effect-tells r h s move effects.Disable = disable-tells s move
  side_effect-tells r h s move effects.Recharge = must_recharge-tells s
  side_effect-tells r h s move e = choose-tells _ stay-tells (kept_away-tells r h s move e)
