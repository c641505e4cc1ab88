-- After any run the mark of the sleep clause is on those of whom the log tells that a move of the foe put them to sleep.
use Rattle.gen1_machine.proofs.Watching.{BothOut, IsOut, Leads, Runs, after-leads, before-leads, choose-sees, choose-tells, given-sees, given-tells, if-sees, stay-tells, stop-leads, ◌⊳◌}
use Rattle.gen1_machine.specs.Action.{accuracy_to_keep, act, action_parts, begin, carry_out, gate_or_held, keep_accuracy, lands_at_once, lead_up, lets_energy_go, move_taken_in, use_move}
use Rattle.gen1_machine.specs.Conditions.{ActiveConditions, after_haze, with_bad_poison, with_bide, with_recharge, without_seed}
use Rattle.gen1_machine.specs.EarlyEffects.{early_effect, heal, is_early, rest_up, with_levelled_stats}
use Rattle.gen1_machine.specs.Gate.{cant, gate, gate_of_status, sleep_on, sleep_test, wake}
use Rattle.gen1_machine.specs.Health.{Health}
use Rattle.gen1_machine.specs.LogBytes.{kind_or_0}
use Rattle.gen1_machine.specs.Moves.{Move, move_at, rest, toxic}
use Rattle.gen1_machine.specs.Progress.{Progress, choose, fail, fails_if, given, note, on_action, status_of, stay, stop, told, ◌▸◌}
use Rattle.gen1_machine.specs.Ruling.{ruling_of}
use Rattle.gen1_machine.specs.Sides.{other}
use Rattle.gen1_machine.specs.State.{Active, Field, Party, Terms, active_in, changed_active, changed_conditions, changed_member, fallen, first_state, health_in, kind_of, member_at, member_in, party, who_in, with_current_move, with_pp_spent, with_status, with_types_of, with_sleep_one_less}
use Rattle.gen1_machine.specs.Step.{Ran, run}
use Rattle.gen1_machine.specs.SwitchingIn.{switch_event, with_sent_out}
use Rattle.gen1_machine.specs.View.{Shown, shown, shown_at, shows, side_shows}
use Rattle.gen1_machine.specs.declared.side.Choice.{Choice}
use Rattle.gen1_machine.specs.declared.event.Event.{Event}
use Rattle.gen1_machine.specs.declared.side.Pick.{Pick}
use Rattle.gen1_machine.specs.declared.side.Pick.TheVariants.{Continue, Held, Idle, Use}
use Rattle.gen1_machine.specs.declared.side.UsedMove.{UsedMove}
use Rattle.gen1_machine.specs.declared.side.Side.{Side}
use Rattle.gen1_machine.specs.declared.side.Side.TheVariants.{One, Two}
use Rattle.gen1_player.proofs.DeedActs.{rests-leads}
use Rattle.gen1_player.proofs.DeedMoves.{of-bide}
use Rattle.gen1_player.proofs.DeedStory.{told_by}
use Rattle.gen1_player.proofs.DeedTurns.{comes-is}
use Rattle.gen1_player.proofs.Facts.{IsAwake, Noise, Restful, Sizes, SleepsOn, Standing, dull-noise, sent, sent-place, with_cleared}
use Rattle.gen1_player.proofs.HeardSides.{bide-hears, clear-hears, end-hears, foe-side, hears-in, hears_all-last, move-hears, out-side, prepare-hears, rest-hears, settled-look, start-hears, starts-begins, switch-hears, types-hears}
use Rattle.gen1_player.proofs.Placing.{agrees}
use Rattle.gen1_player.proofs.Sleepers.{Causes, IsCause, Sleepers, Sleeps, Unrested, awake-sleeps, below-or, cause, causes, cure-ends, ended-unrested, faint-ends, noise-same, now_by, out-in, out-same, out-turns, overtaken-not, overtaken-sleeps, placed-at, same-unrested, seen-by, set-there, sides-active, sides-apart, sides-ended, sides-member, sides-slept, sides-turned, sleepers-active, slept-unrested, suffers-causes, with_by, Adds_up, Cause, IsUp, no_cause, overtaken_by, sides-dozed, lulled_by}
use Rattle.gen1_player.proofs.Stories.{MayFall, Now, Outline, Story, Switching, any-note, at_end, begun-member, gain-tells, loosened, note-tells, sickened, slept, stop-tells, Dozing, Lulls}
use Rattle.gen1_player.proofs.ToldActions.{bide_goes_on-tells, charge-tells, current-tells, damage_of-tells, lead_up-tells, prelude-tells, resume-lands, see_if-tells, spend-tells, strike-tells}
use Rattle.gen1_player.proofs.ToldEffects.{early_effect-tells, heals, late_effect-tells, lulls, may_poison_by, not-toxic, recover-tells, ruling_of-tells}
use Rattle.gen1_player.proofs.ToldGate.{frozen-tells, gate_of_move-tells, gate_of_turn-tells, trapped-tells, wake-told, nods-tells, dozes-tells}
use Rattle.gen1_player.proofs.ToldEnds.{story-runs, or-left}
use Rattle.gen1_player.specs.Public.{bide, comes_out, ends_recharging, first_public, has_fainted, hears_all, is_cleared, is_cured, may_rest, new_uses, not_seen, on_announced, on_out, on_public_side, on_seen, prepares, public_side, put_to_sleep_by, rests_no_more, seen_at, set_volatile, settled, starts_bide, suffers_move, takes_in, takes_types, uses_again, uses_move}
use Rattle.gen1_player.specs.True.{AgreesWith, IsAsleepBy, SleepersAgree, events_in, public_of}
use Rattle.gen1_player.specs.declared.public.Public.{Public}
use Rattle.gen1_player.specs.declared.public_side.PublicSide.{PublicSide}
use Rattle.gen1_player.specs.declared.seen.Seen.{Seen}
use Rattle.gen1_stats.specs.Members.{IsTeam, Member, is_asleep, is_marked, nobody}
use Rattle.gen1_stats.specs.declared.member.Status.{Status}
use Rattle.gen1_stats.specs.declared.member.Status.TheVariants.{Asleep, Burned, Frozen, Healthy, Paralysed, Poisoned}
use Rattle.gen1_tables.specs.Effects.{bides}
use Rattle.gen1_tables.specs.declared.effect.Effect.{Effect}
use Rattle.std.proofs.Common.{Bool, List, [], ap, arith, false, get_or-set_same, if◌then◌else◌, inl, inr, length, nat_le, not, refl, slice_index_or, subst, suc, sym, true, true≢false, zero, ℕ, ◌&&◌, ◌++◌, ◌-◌, ◌<◌, ◌==◌, ◌∙◌, ◌∷◌, ◌≡◌, ◌≢◌, ◌≤◌, ◌⊎◌}
use Rattle.std.proofs.Math.ListN.{get_or-map}
use Rattle.std.proofs.Math.Seq.{map-set_same}
use Rattle.std.proofs.lemmas.Bool.Decides.{eqb_tells}
use Rattle.std.proofs.lemmas.List.{append_assoc, get_or_past}
use Rattle.gen1_tables.specs.declared.effect.Effect.TheVariants as effects
use Rattle.gen1_machine.specs.declared.event.Volatile.TheVariants as volatiles
use Rattle.gen1_machine.specs.declared.event.Event.TheVariants as events
use Rattle.gen1_machine.specs.declared.event.Kind.TheVariants as kinds
use Rattle.gen1_machine.specs.declared.event.CantReason.TheVariants as reasons

-- The story. U is a fact about the action.

record Lasting (U : Field → Public → Type 0) : Type 0 where
  active : (s : Side) (change : Active → Active) → ((a : Active) → (change a).place ≡ a.place) → (f : Field) (p : Public) → U f p → U (changed_active s change f) p
  member : (s : Side) (change : Member → Member) → Restful change → (f : Field) (p : Public) → U f p → U (changed_member s change f) p
  ends : (s : Side) (change : Member → Member) (f : Field) (p : Public) → is_asleep (change (member_in s f)).status ≡ false → U f p → U (changed_member s change f) p
  apart : (f g : Field) (p : Public) → f.one ≡ g.one → f.two ≡ g.two → U f p → U g p
  heard : (f : Field) (p q : Public) → ((u : Side) → Unrested u p q) → U f p → U f q

record Slept (clause : Bool) (U : Field → Public → Type 0) (f : Field) (es : List Event) : Type 0 where
  sides : (u : Side) → Sleepers clause (causes (public_side u (told_by es))) (party u f)
  more : U f (told_by es)

module _ {clause : Bool} {U : Field → Public → Type 0} (l : Lasting U) where
  slept-field : (f g : Field) (es : List Event) → ((u : Side) → Sleepers clause (causes (public_side u (told_by es))) (party u f) → Sleepers clause (causes (public_side u (told_by es))) (party u g))
      → (U f (told_by es) → U g (told_by es)) → Slept clause U f es → Slept clause U g es
  slept-field f g es h k m = record { sides = λ u. h u (m.sides u); more = k m.more }

  slept-active : (s : Side) (change : Active → Active) → ((a : Active) → (change a).place ≡ a.place) → (f : Field) (es : List Event) → Slept clause U f es → Slept clause U (changed_active s change f) es
  slept-active s change h f es m = slept-field f (changed_active s change f) es (sides-active clause s change h f (told_by es)) (l.active s change h f (told_by es)) m

  slept-conditions : (s : Side) (change : ActiveConditions → ActiveConditions) (f : Field) (es : List Event) → Slept clause U f es → Slept clause U (changed_conditions s change f) es
  unfolding changed_conditions
  slept-conditions s change f es m = slept-active s (λ a. record a { conditions = change a.conditions }) (λ a. refl) f es m

  slept-member : (s : Side) (change : Member → Member) → Restful change → (f : Field) (es : List Event) → SleepsOn s change f → Slept clause U f es → Slept clause U (changed_member s change f) es
  slept-member s change r f es w m = slept-field f (changed_member s change f) es (sides-member clause s change r f w (told_by es)) (l.member s change r f (told_by es)) m

  slept-apart : (f g : Field) (es : List Event) → f.one ≡ g.one → f.two ≡ g.two → Slept clause U f es → Slept clause U g es
  slept-apart f g es a b m = slept-field f g es (sides-apart clause f g (told_by es) a b) (l.apart f g (told_by es) a b) m

  -- The next event
  slept-next : (f g : Field) (es : List Event) (e : Event) → let p : Public = settled e (told_by es) in
      (U f p → ((u : Side) → Sleepers clause (causes (public_side u p)) (party u f)) → (u : Side) → Sleepers clause (causes (public_side u (takes_in e p))) (party u g))
      → (U f p → U g (takes_in e p)) → Slept clause U f es → Slept clause U g (es ++ e ∷ [])
  slept-next f g es e h k m =
      let p : Public = settled e (told_by es) in
      let same : takes_in e p ≡ told_by (es ++ e ∷ []) = sym (hears_all-last es e first_public ∙ hears-in e (told_by es)) in
      let still : (u : Side) → causes (public_side u p) ≡ causes (public_side u (told_by es)) = λ u. settled-look causes e u (told_by es) (λ x. refl) in
      let w : U f p = l.heard f (told_by es) p (λ u. same-unrested u (told_by es) p (still u)) m.more in
      record {
        sides = λ u. subst (λ (q : Public). Sleepers clause (causes (public_side u q)) (party u g)) same
            (h w (λ v. subst (λ (x : Causes). Sleepers clause x (party v f)) (sym (still v)) (m.sides v)) u);
        more = subst (U g) same (k w);
      }

  -- An event that tells nothing of sleep
  slept-quiet : (e : Event) → ((u : Side) (p : Public) → causes (public_side u (takes_in e p)) ≡ causes (public_side u p)) → (f : Field) (es : List Event)
      → Slept clause U f es → Slept clause U f (es ++ e ∷ [])
  slept-quiet e h f es m =
      let p : Public = settled e (told_by es) in
      slept-next f f es e (λ w k u. subst (λ (x : Causes). Sleepers clause x (party u f)) (sym (h u p)) (k u)) (l.heard f p (takes_in e p) (λ u. same-unrested u p (takes_in e p) (h u p))) m

  slept-noise : (e : Event) (f : Field) → Noise f e → (es : List Event) → Slept clause U f es → Slept clause U f (es ++ e ∷ [])
  slept-noise e f n es m =
      let p : Public = settled e (told_by es) in
      slept-next f f es e (λ w k u. subst (λ (x : Causes). Sleepers clause x (party u f)) (sym (noise-same e f n u p)) (k u)) (l.heard f p (takes_in e p) (λ u. same-unrested u p (takes_in e p) (noise-same e f n u p))) m

  slept-sickened : (s : Side) (move : Move) (f : Field) (es : List Event) → Slept clause U f es → Slept clause U (sickened s move f) es
  slept-sickened s move f es m = by (move.number == toxic)
    where
      by : (e : Bool) → Slept clause U (if e then changed_conditions (other s) with_bad_poison f else f) es
      by true = slept-conditions (other s) with_bad_poison f es m
      by false = m

  slept-clears : (f : Field) (es : List Event) → Slept clause U f es → Slept clause U (with_cleared Two (with_cleared One f)) (es ++ events.ClearAll ∷ [])
  unfolding with_levelled_stats
  slept-clears f es m = slept-quiet events.ClearAll
      (λ u p. ap (λ (q : Public). causes (public_side u q)) (clear-hears p) ∙ out-same is_cleared (λ x. refl) Two u (on_out One is_cleared p) ∙ out-same is_cleared (λ x. refl) One u p) _ es
      (slept-conditions Two after_haze _ es (slept-active Two with_levelled_stats (λ a. refl) _ es
      (slept-conditions One after_haze _ es (slept-active One with_levelled_stats (λ a. refl) f es m))))

  slept-converts : (s : Side) (f : Field) (es : List Event) → Slept clause U f es
      → let g : Field = changed_active s (with_types_of (active_in (other s) f)) f in Slept clause U g (es ++ events.Start (who_in s g) volatiles.TypeChange ∷ [])
  unfolding with_types_of
  slept-converts s f es m = slept-quiet _ (λ u p. ap (λ (q : Public). causes (public_side u q)) (types-hears _ p) ∙ out-same (takes_types (public_side (other s) p)) (λ x. refl) s u p) _ es
      (slept-active s (with_types_of (active_in (other s) f)) (λ a. refl) f es m)

fallen-up : (m : Member) → is_asleep (fallen m).status ≡ false
unfolding fallen
fallen-up m = refl

fallen-restful : Restful fallen
unfolding fallen
fallen-restful m e = absurd (true≢false (sym e))

spent-restful : (used : UsedMove) → Restful (with_pp_spent used)
unfolding with_pp_spent
spent-restful used m e = refl

spent-sleeps : (used : UsedMove) (s : Side) (f : Field) → SleepsOn s (with_pp_spent used) f
unfolding with_pp_spent
spent-sleeps used s f e = e

-- A member acts.

abbrev Acts_awake : (Field → Public → Type 0) → Side → Type 0
Acts_awake U s = (f : Field) (p : Public) → U f p → IsAwake s f × ((q : Public) → U f q)

-- A member that acts is awake, and may have used Rest.
abbrev after_act : ℕ → Cause → Cause
after_act n c = record c { by = may_rest n }

rest-neither : (n : ℕ) → (may_rest n ≢ 1) × (may_rest n ≢ 2)
rest-neither n = by (n == rest)
  where
    by : (b : Bool) → let k : ℕ = (if b then 3 else 0) in (k ≢ 1) × (k ≢ 2)
    by true = (λ e. omega (arith, e), λ e. omega (arith, e))
    by false = (λ e. omega (arith, e), λ e. omega (arith, e))

acted-side : (clause : Bool) (act : PublicSide → PublicSide) (n : ℕ) → ((x : PublicSide) → causes (act x) ≡ with_by (after_act n) (causes x)) → (s : Side) (f : Field) (p : Public) → IsAwake s f → (u : Side)
    → Sleepers clause (causes (public_side u p)) (party u f) → Sleepers clause (causes (public_side u (on_out s act p))) (party u f)
acted-side clause act n e s f p a u m = sides-turned clause (after_act n) s u p (on_out s act p) (party u f) (out-turns act (after_act n) e s u p)
    (λ h c k. let up : IsAwake u f = subst (λ (t : Side). IsAwake t f) (sym h) a in awake-sleeps clause (after_act n c) (member_in u f) up (rest-neither n, (k.awake up).1)) m

uses-causes : (n : ℕ) (x : PublicSide) → causes (uses_move n x) ≡ with_by (after_act n) (causes x)
uses-causes n x = seen-by (uses_again (new_uses n x) n) (after_act n) (record x { last_move = n }) (λ m. refl)

prepares-causes : (n : ℕ) (x : PublicSide) → causes (prepares n x) ≡ with_by (after_act n) (causes x)
prepares-causes n x = seen-by (uses_again 0 n) (after_act n) (record x { last_move = n }) (λ m. refl)

bides-causes : (x : PublicSide) → causes (starts_bide x) ≡ with_by (after_act bide) (causes x)
bides-causes x = seen-by (uses_again 1 bide) (after_act bide) (record x { last_move = bide }) (λ m. refl)

sides-moved : (clause : Bool) (s : Side) (n : ℕ) (f : Field) (p : Public) → IsAwake s f → (u : Side) → Sleepers clause (causes (public_side u p)) (party u f)
    → Sleepers clause (causes (public_side u (takes_in (events.Move (who_in s f) n (who_in (other s) f)) p))) (party u f)
sides-moved clause s n f p a u m =
    let q : Public = on_out s (uses_move n) p in
    subst (λ (r : Public). Sleepers clause (causes (public_side u r)) (party u f)) (sym (move-hears (who_in s f) (who_in (other s) f) n p))
    (sides-turned clause overtaken_by (other s) u q (on_out (other s) (suffers_move n) q) (party u f)
    (out-turns (suffers_move n) overtaken_by (λ x. suffers-causes (ends_recharging (move_at n).effect) x) (other s) u q)
    (λ h by k. overtaken-sleeps clause by (member_in u f) k)
    (acted-side clause (uses_move n) n (uses-causes n) s f p a u m))

unfoldable sleeping : (clause : Bool) (U : Field → Public → Type 0) → Lasting U → Story
sleeping clause U l = record {
  exact = Slept clause U;
  loose = Slept clause U;
  said = λ s move. Acts_awake U s;
  acted = λ s move. Unit {0};
  knows = λ s move. bides move.effect ≡ true → Acts_awake U s;
  lulled = λ s turns marked. (f : Field) (p : Public) → U f p → (IsCause clause (put_to_sleep_by (now_by (causes (public_side s p))).by) marked × Adds_up (lulled_by (now_by (causes (public_side s p)))) turns) × U (slept s turns marked f) p;
  upright = λ s. (f : Field) (p : Public) → U f p → IsAwake s f;
  loosen = λ f es m. m;
  tighten = λ f es m a b. m;
  member = λ s change h r f es w m. slept-member l s change r f es w m;
  cures = λ s change kind h f es o a m. by_end s change is_cured (λ k. refl) (λ g. events.Cure (who_in s g) kind) (λ g p. cure-ends s g kind p) f es o a m;
  sleeps = λ s turns marked k f es o m. by_sleep s turns marked k f es o m;
  active = λ s change h f es m. slept-active l s change (λ a. ap (λ (x : Standing). x.place) (h a)) f es m;
  conditions = λ s change h f es m. slept-conditions l s change f es m;
  apart = λ f g es a b m. slept-apart l f g es a b m;
  noise = λ e f h es m. slept-noise l e f (dull-noise f e h) es m;
  poisons = λ s move a f es o m. slept-noise l (events.Status (who_in (other s) f) kinds.Poison) (sickened s move f) refl es (slept-sickened l s move f es m);
  starts = λ s what change h f es o m. slept-quiet l _ (λ u p. ap (λ (q : Public). causes (public_side u q)) (start-hears _ what p (starts-begins what change h))
      ∙ out-same (on_announced (set_volatile what 1)) (λ x. refl) s u p) _ es (slept-conditions l s change f es m);
  ends = λ s what change h f es o m. slept-quiet l _ (λ u p. ap (λ (q : Public). causes (public_side u q)) (end-hears _ what p)
      ∙ out-same (on_announced (set_volatile what 0)) (λ x. refl) s u p) _ es (slept-conditions l s change f es m);
  converts = λ s f es o m. slept-converts l s f es m;
  clears = λ f es o m. slept-clears l f es m;
  moves = λ s move k f es o m. by_move s move.number k f es m;
  prepares = λ s move k f es o m. by_prepare s move.number k f es m;
  explodes = λ s u f es o m. slept-conditions l s without_seed _ es (slept-member l s fallen fallen-restful f es (λ e. absurd (true≢false (sym e ∙ u f _ m.more))) m);
  stores = λ s move k e turns f es o m. by_bide s (k e) turns f es m;
  rests = λ s move k e f es o m. slept-quiet l _ (λ u p. ap (λ (q : Public). causes (public_side u q)) (rest-hears _ p) ∙ out-same (on_announced (λ a. record a { recharging = 1 })) (λ x. refl) s u p) _ es
      (slept-conditions l s with_recharge f es m);
  loose_active = λ s change h f es m. slept-active l s change (λ a. ap (λ (x : Standing). x.place) (h a)) f es m;
  loose_apart = λ f g es a b m. slept-apart l f g es a b m;
  loose_noise = λ e f h es m. slept-noise l e f (dull-noise f e h) es m;
  loose_falls = λ s f es o m. by_end s fallen has_fainted (λ k. refl) (λ g. events.Faint (who_in s g)) (λ g p. faint-ends s g p) f es o (fallen-up (member_in s f)) m;
}
  where
    by_sleep : (s : Side) (turns : ℕ) (marked : Bool) → ((f : Field) (p : Public) → U f p → (IsCause clause (put_to_sleep_by (now_by (causes (public_side s p))).by) marked × Adds_up (lulled_by (now_by (causes (public_side s p)))) turns) × U (slept s turns marked f) p)
        → (f : Field) (es : List Event) → BothOut f → Slept clause U f es
        → let g : Field = slept s turns marked f in Slept clause U g (es ++ events.Status (who_in s g) kinds.Sleep ∷ [])
    by_sleep s turns marked k f es o m =
        let g : Field = slept s turns marked f in
        let e : Event = events.Status (who_in s g) kinds.Sleep in
        let p : Public = settled e (told_by es) in
        slept-next l f g es e (λ w x. sides-slept clause s turns marked f p o (k f p w).0 x) (λ w. l.heard g p (takes_in e p) (slept-unrested s g p) (k f p w).1) m

    by_end : (s : Side) (change : Member → Member) (h : Seen → Seen) → ((m : Seen) → cause (h m) ≡ no_cause) → (event : Field → Event) → ((g : Field) (p : Public) → takes_in (event g) p ≡ on_out s (on_seen h) p)
        → (f : Field) (es : List Event) → BothOut f → is_asleep (change (member_in s f)).status ≡ false → Slept clause U f es → let g : Field = changed_member s change f in Slept clause U g (es ++ event g ∷ [])
    by_end s change h z event is f es o a m =
        let g : Field = changed_member s change f in
        let p : Public = settled (event g) (told_by es) in
        slept-next l f g es (event g)
        (λ w x u. subst (λ (q : Public). Sleepers clause (causes (public_side u q)) (party u g)) (sym (is g p)) (sides-ended clause s change h z f p o a x u))
        (λ w. subst (U g) (sym (is g p)) (l.heard g p (on_out s (on_seen h) p) (ended-unrested s h z p) (l.ends s change f p a w))) m

    by_move : (s : Side) (n : ℕ) → Acts_awake U s → (f : Field) (es : List Event) → Slept clause U f es → Slept clause U f (es ++ events.Move (who_in s f) n (who_in (other s) f) ∷ [])
    by_move s n k f es m =
        let e : Event = events.Move (who_in s f) n (who_in (other s) f) in
        let p : Public = settled e (told_by es) in
        slept-next l f f es e (λ w x u. sides-moved clause s n f p (k f p w).0 u (x u)) (λ w. (k f p w).1 (takes_in e p)) m

    by_prepare : (s : Side) (n : ℕ) → Acts_awake U s → (f : Field) (es : List Event) → Slept clause U f es → Slept clause U f (es ++ events.Prepare (who_in s f) n ∷ [])
    by_prepare s n k f es m =
        let e : Event = events.Prepare (who_in s f) n in
        let p : Public = settled e (told_by es) in
        slept-next l f f es e
        (λ w x u. subst (λ (r : Public). Sleepers clause (causes (public_side u r)) (party u f)) (sym (prepare-hears (who_in s f) n p)) (acted-side clause (prepares n) n (prepares-causes n) s f p (k f p w).0 u (x u)))
        (λ w. (k f p w).1 (takes_in e p)) m

    by_bide : (s : Side) → Acts_awake U s → (turns : ℕ) (f : Field) (es : List Event) → Slept clause U f es
        → let g : Field = changed_conditions s (with_bide turns) f in Slept clause U g (es ++ events.Start (who_in s g) volatiles.Bide ∷ [])
    by_bide s k turns f es m =
        let g : Field = changed_conditions s (with_bide turns) f in
        let e : Event = events.Start (who_in s g) volatiles.Bide in
        let p : Public = settled e (told_by es) in
        slept-next l g g es e
        (λ w x u. subst (λ (r : Public). Sleepers clause (causes (public_side u r)) (party u g)) (sym (bide-hears (who_in s g) p)) (acted-side clause starts_bide bide bides-causes s g p (k g p w).0 u (x u)))
        (λ w. (k g p w).1 (takes_in e p)) (slept-conditions l s (with_bide turns) f es m)

outline : (clause : Bool) {U : Field → Public → Type 0} (l : Lasting U) → Outline (sleeping clause U l)
unfolding sleeping with_current_move
outline clause l = record {
  takes = λ s used f es m. slept-active l s (with_current_move used) (λ a. refl) f es m;
  spends = λ s move k used f es m. slept-member l s (with_pp_spent used) (spent-restful used) f es (spent-sleeps used s f) m;
  mild = λ s change h f es m. slept-conditions l s change f es m;
  noise = λ e f h es m. slept-noise l e f h es m;
  acts = λ s move. tt;
  knows = λ s move k e. k;
}

-- Its facts: none; that the active member is awake; and, after it has used its move, that the foe's has not used Rest since.

abbrev Any_fact : Field → Public → Type 0
Any_fact f p = Unit {0}

any-lasts : Lasting Any_fact
any-lasts = record { active = λ s change h f p m. tt; member = λ s change r f p m. tt; ends = λ s change f p a m. tt; apart = λ f g p a b m. tt; heard = λ f p q h m. tt }

abbrev Up : Side → Field → Public → Type 0
Up s f p = IsAwake s f

restful-awake : (change : Member → Member) → Restful change → (m : Member) → is_asleep m.status ≡ false → is_asleep (change m).status ≡ false
restful-awake change r m a = by (is_asleep (change m).status) refl
  where
    by : (b : Bool) → is_asleep (change m).status ≡ b → b ≡ false
    by true e = absurd (true≢false (sym e ∙ ap is_asleep (r m e) ∙ a))
    by false e = refl

up-member : (s t : Side) (change : Member → Member) → Restful change → (f : Field) → IsAwake s f → IsAwake s (changed_member t change f)
unfolding changed_member
up-member One One change r f a = set-there (λ (m : Member). is_asleep m.status ≡ false) f.one.members (f.one.active.place - 1) (change (member_in One f)) nobody (restful-awake change r (member_in One f)) a
up-member One Two change r f a = a
up-member Two One change r f a = a
up-member Two Two change r f a = set-there (λ (m : Member). is_asleep m.status ≡ false) f.two.members (f.two.active.place - 1) (change (member_in Two f)) nobody (restful-awake change r (member_in Two f)) a

up-active : (s t : Side) (change : Active → Active) → ((a : Active) → (change a).place ≡ a.place) → (f : Field) (p : Public) → IsAwake s f → IsAwake s (changed_active t change f)
unfolding changed_active
up-active One One change h f p a = subst (λ (i : ℕ). is_asleep (member_at i f.one).status ≡ false) (sym (h f.one.active)) a
up-active One Two change h f p a = a
up-active Two One change h f p a = a
up-active Two Two change h f p a = subst (λ (i : ℕ). is_asleep (member_at i f.two).status ≡ false) (sym (h f.two.active)) a

up-apart : (s : Side) (f g : Field) (p : Public) → f.one ≡ g.one → f.two ≡ g.two → IsAwake s f → IsAwake s g
up-apart One f g p a b k = subst (λ (t : Party). is_asleep (member_at t.active.place t).status ≡ false) a k
up-apart Two f g p a b k = subst (λ (t : Party). is_asleep (member_at t.active.place t).status ≡ false) b k

up-ends : (s t : Side) (change : Member → Member) (f : Field) → is_asleep (change (member_in t f)).status ≡ false → IsAwake s f → IsAwake s (changed_member t change f)
unfolding changed_member
up-ends One One change f k a = set-there (λ (m : Member). is_asleep m.status ≡ false) f.one.members (f.one.active.place - 1) (change (member_in One f)) nobody (λ h. k) a
up-ends One Two change f k a = a
up-ends Two One change f k a = a
up-ends Two Two change f k a = set-there (λ (m : Member). is_asleep m.status ≡ false) f.two.members (f.two.active.place - 1) (change (member_in Two f)) nobody (λ h. k) a

up-foe : (s : Side) (change : Member → Member) (f : Field) → IsAwake s f → IsAwake s (changed_member (other s) change f)
unfolding changed_member
up-foe One change f a = a
up-foe Two change f a = a

up-lasts : (s : Side) → Lasting (Up s)
up-lasts s = record {
  active = up-active s;
  member = λ t change r f p a. up-member s t change r f a;
  ends = λ t change f p k a. up-ends s t change f k a;
  apart = up-apart s;
  heard = λ f p q h a. a;
}

abbrev Overtaken : Side → Field → Public → Type 0
Overtaken s f p = IsAwake s f × ((now_by (causes (public_side (other s) p))).by ≢ 3)

overtaken-lasts : (s : Side) → Lasting (Overtaken s)
overtaken-lasts s = let u = up-lasts s in record {
  active = λ t change h f p k. (u.active t change h f p k.0, k.1);
  member = λ t change r f p k. (u.member t change r f p k.0, k.1);
  ends = λ t change f p a k. (u.ends t change f p a k.0, k.1);
  apart = λ f g p a b k. (u.apart f g p a b k.0, k.1);
  heard = λ f p q h k. (k.0, λ e. k.1 (h (other s) e));
}

abbrev Any : Bool → Story
Any clause = sleeping clause Any_fact any-lasts

abbrev Before : Bool → Side → Story
Before clause s = sleeping clause (Up s) (up-lasts s)

abbrev After : Bool → Side → Story
After clause s = sleeping clause (Overtaken s) (overtaken-lasts s)

-- A member that sleeps on

dozing : (clause : Bool) → Dozing (Any clause)
unfolding sleeping
dozing clause = record {
  dozes = λ s turns marked f es o a h m.
      let g : Field = changed_member s with_sleep_one_less f in
      let e : Event = events.Cant (who_in s g) reasons.Asleep in
      slept-next any-lasts f g es e (λ w x. sides-dozed clause s turns marked f (settled e (told_by es)) o a h x) (λ w. tt) m;
}

-- A member that comes out

sent-causes : (species place level : ℕ) (h : Health) (x : PublicSide) → 1 ≤ place → place ≤ 6 → causes (comes_out species place level h x) ≡ record (causes x) { place = place }
sent-causes species place level h x low high = ap causes (comes-is species place level h x low high)
    ∙ ap (λ (l : List Cause). record { place = place; by = l }) (map-set_same cause x.members (place - 1) (record (seen_at place x) { species = species; level = level; hp = h.hp; max = h.max; status = kind_or_0 h.kind }) not_seen refl)

sides-sent : (clause : Bool) (s : Side) (place : ℕ) (f : Field) (p : Public) (species level : ℕ) (h : Health) → 1 ≤ place → place ≤ length (party s f).members
    → ((u : Side) → Sleepers clause (causes (public_side u p)) (party u f))
    → (u : Side) → Sleepers clause (causes (public_side u (on_public_side s (comes_out species place level h) p))) (party u (sent s place f))
unfolding changed_active changed_conditions
sides-sent clause One place f p species level h low high m One = let few = (m One).few in
    subst (λ (x : Causes). Sleepers clause x (party One (sent One place f))) (sym (sent-causes species place level h p.one low (omega (arith, high, few))))
    (sleepers-active clause (causes p.one) _ f.one (with_sent_out place (member_at place f.one) f.one.active) refl (sym (sent-place place (member_at place f.one) f.one.active)) (m One))
sides-sent clause One place f p species level h low high m Two = sleepers-active clause (causes p.two) (causes p.two) f.two _ refl (m Two).place (m Two)
sides-sent clause Two place f p species level h low high m One = sleepers-active clause (causes p.one) (causes p.one) f.one _ refl (m One).place (m One)
sides-sent clause Two place f p species level h low high m Two = let few = (m Two).few in
    subst (λ (x : Causes). Sleepers clause x (party Two (sent Two place f))) (sym (sent-causes species place level h p.two low (omega (arith, high, few))))
    (sleepers-active clause (causes p.two) _ f.two (with_sent_out place (member_at place f.two) f.two.active) refl (sym (sent-place place (member_at place f.two) f.two.active)) (m Two))

slept-sent : (clause : Bool) (s : Side) (place : ℕ) (f : Field) (es : List Event) → 1 ≤ place → place ≤ length (party s f).members → Slept clause Any_fact f es
    → Slept clause Any_fact (sent s place f) (es ++ switch_event s place (sent s place f) ∷ [])
slept-sent clause s place f es low high m =
    let g : Field = sent s place f in
    let e : Event = switch_event s place g in
    let p : Public = settled e (told_by es) in
    slept-next any-lasts f g es e (λ w x u. subst (λ (q : Public). Sleepers clause (causes (public_side u q)) (party u g)) (sym (switch-hears (who_in s g) place (member_in s g).level (health_in s g) p))
    (sides-sent clause s place f p (who_in s g).species (member_in s g).level (health_in s g) low high x u)) (λ w. tt) m

switches : (clause : Bool) → Switching (Any clause)
unfolding sleeping
switches clause = record {
  sends = λ s place f es low high m. slept-sent clause s place f es low high m;
  loose_sends = λ s place f es low high m. slept-sent clause s place f es low high m;
}

-- An action

module _ (clause : Bool) {n : Sizes} {pre : List Event} where
  may-any : {U : Field → Public → Type 0} (l : Lasting U) (p : Progress) → MayFall (sleeping clause U l) n pre p → MayFall (Any clause) n pre p
  unfolding sleeping
  may-any l p m = record { begun = m.begun; loose = record { sides = m.loose.sides; more = tt } }

  now-any : {U : Field → Public → Type 0} (l : Lasting U) (p : Progress) → Now (sleeping clause U l) n pre p → Now (Any clause) n pre p
  unfolding sleeping
  now-any l p m = record { begun = m.begun; exact = record { sides = m.exact.sides; more = tt } }

  now-up : (s : Side) (p : Progress) → Now (Any clause) n pre p → is_asleep (status_of s p) ≡ false → Now (Before clause s) n pre p
  unfolding sleeping
  now-up s p m a = record { begun = m.begun; exact = record { sides = m.exact.sides; more = a } }

up : (clause : Bool) (s : Side) (move : Move) → (Before clause s).said s move
unfolding sleeping
up clause s move f p u = (u, λ q. u)

after-acted : (clause : Bool) (s : Side) (move : Move) → (After clause s).acted s move
unfolding sleeping
after-acted clause s move = tt

-- The gate

module _ (clause : Bool) {n : Sizes} {pre : List Event} (s : Side) where
  asleep-or-up : (status : Status) → Leads (λ p. Now (Any clause) n pre p × (status_of s p ≡ status)) (Now (Before clause s) n pre) (MayFall (Any clause) n pre) (sleep_test s status)
  unfolding sleep_test wake sleep_on cant
  asleep-or-up (Asleep turns marked) = if-sees (nat_le turns 1)
      (λ h. wake-told (outline _ any-lasts) s turns marked h ⊳ stop-leads loosened)
      (λ h. nods-tells (outline _ any-lasts) s turns marked h ⊳ dozes-tells (outline _ any-lasts) (dozing clause) s ⊳ stop-leads loosened)
  asleep-or-up _ = after-leads (λ p m. now-up _ s p m.0 (ap is_asleep m.1)) stay-tells

  gate-up : (pick : Pick) → Leads (Now (Any clause) n pre) (Now (Before clause s) n pre) (MayFall (Any clause) n pre) (gate s pick)
  unfolding gate gate_of_status
  gate-up pick = (given-sees (status_of s) asleep-or-up
      ⊳ rests-leads (may-any _ (up-lasts s)) (frozen-tells (outline _ (up-lasts s)) s)
      ⊳ rests-leads (may-any _ (up-lasts s)) (trapped-tells (outline _ (up-lasts s)) s))
      ⊳ rests-leads (may-any _ (up-lasts s)) (gate_of_turn-tells (outline _ (up-lasts s)) s)
      ⊳ rests-leads (may-any _ (up-lasts s)) (gate_of_move-tells (outline _ (up-lasts s)) s pick)

  held-up : Leads (Now (Any clause) n pre) (Now (Before clause s) n pre) (MayFall (Any clause) n pre) (cant s reasons.PartiallyTrapped)
  unfolding cant
  held-up = any-note (outline _ any-lasts) _ (λ f. refl) ⊳ stop-leads loosened

  gate_or_held-up : (pick : Pick) → Leads (Now (Any clause) n pre) (Now (Before clause s) n pre) (MayFall (Any clause) n pre) (gate_or_held s pick)
  unfolding gate_or_held
  gate_or_held-up Held = held-up
  gate_or_held-up (Use used) = gate-up (Use used)
  gate_or_held-up Continue = gate-up Continue
  gate_or_held-up Idle = gate-up Idle

-- The use of a move: the foe has been overtaken, and its user may rest.

record HasUsed (clause : Bool) (s : Side) (k : ℕ) (n : Sizes) (pre : List Event) (p : Progress) : Type 0 where
  now : Now (After clause s) n pre p
  own : (now_by (causes (public_side s (told_by (pre ++ p.events))))).by ≡ may_rest k

now-with : (clause : Bool) (change : Cause → Cause) (x : Causes) (t : Party) → IsOut t → Sleepers clause x t → now_by (with_by change x) ≡ change (now_by x)
now-with clause change x t o m =
    let low = o.placed in
    let high = o.within in
    let few = m.few in
    let six = m.six in
    let e = m.place in
    get_or-set_same x.by (x.place - 1) (change (now_by x)) no_cause (omega (arith, low, high, few, six, e))

back : (s : Side) (h : PublicSide → PublicSide) (p : Public) → public_side s (on_out (other s) h p) ≡ public_side s p
unfolding on_out
back One h p = refl
back Two h p = refl

move-own : (clause : Bool) (s : Side) (k : ℕ) (f : Field) (p : Public) → BothOut f → ((u : Side) → Sleepers clause (causes (public_side u p)) (party u f))
    → let q : Public = on_out (other s) (suffers_move k) (on_out s (uses_move k) p) in
    ((now_by (causes (public_side s q))).by ≡ may_rest k) × ((now_by (causes (public_side (other s) q))).by ≢ 3)
move-own clause s k f p o m =
    let x : PublicSide = public_side s p in
    let y : PublicSide = public_side (other s) p in
    let q1 : Public = on_out s (uses_move k) p in
    let foe : public_side (other s) q1 ≡ y = foe-side s (uses_move k) p in
    let low : 1 ≤ y.place = placed-at (other s) clause f (causes y) o (m (other s)) in (
      ap (λ (z : PublicSide). (now_by (causes z)).by) (back s (suffers_move k) q1 ∙ out-side s (uses_move k) p (placed-at s clause f (causes x) o (m s)))
          ∙ ap (λ (y : Causes). (now_by y).by) (uses-causes k x) ∙ ap (λ (c : Cause). c.by) (now-with clause (after_act k) (causes x) (party s f) (out-in s f o) (m s)),
      λ e. overtaken-not (now_by (causes y)).by (sym (ap (λ (z : PublicSide). (now_by (causes z)).by) (out-side (other s) (suffers_move k) q1 (subst (λ (z : PublicSide). 1 ≤ z.place) (sym foe) low))
          ∙ ap (λ (z : PublicSide). (now_by (causes (suffers_move k z))).by) foe
          ∙ ap (λ (z : Causes). (now_by z).by) (suffers-causes (ends_recharging (move_at k).effect) y)
          ∙ ap (λ (c : Cause). c.by) (now-with clause overtaken_by (causes y) (party (other s) f) (out-in (other s) f o) (m (other s)))) ∙ e),
    )

module _ (clause : Bool) {n : Sizes} {pre : List Event} (s : Side) where
  move-used : {S : Progress → Type 0} (k : ℕ) → Leads (Now (Before clause s) n pre) (HasUsed clause s k n pre) S (note (λ f. events.Move (who_in s f) k (who_in (other s) f)))
  unfolding note sleeping
  move-used k = record {
    leads = λ p r m.
        let f : Field = p.field in
        let es : List Event = pre ++ p.events in
        let e : Event = events.Move (who_in s f) k (who_in (other s) f) in
        let q : Public = settled e (told_by es) in
        let still : (u : Side) → causes (public_side u q) ≡ causes (public_side u (told_by es)) = λ u. settled-look causes e u (told_by es) (λ x. refl) in
        let told : takes_in e q ≡ told_by (es ++ e ∷ []) = sym (hears_all-last es e first_public ∙ hears-in e (told_by es)) in
        let w = move-own clause s k f q m.begun.both (λ u. subst (λ (x : Causes). Sleepers clause x (party u f)) (sym (still u)) (m.exact.sides u)) in
        let is : on_out (other s) (suffers_move k) (on_out s (uses_move k) q) ≡ told_by (es ++ e ∷ []) = sym (move-hears (who_in s f) (who_in (other s) f) k q) ∙ told in
        let sides : Slept clause (Up s) f (es ++ e ∷ []) = slept-next (up-lasts s) f f es e (λ a x u. sides-moved clause s k f q a u (x u)) (λ a. a) m.exact in
        Runs r (record {
          now = record {
            begun = m.begun;
            exact = at_end (Slept clause (Overtaken s)) f pre p.events e (record {
              sides = sides.sides;
              more = (m.exact.more, subst (λ (z : Public). (now_by (causes (public_side (other s) z))).by ≢ 3) is w.1);
            });
          };
          own = subst (λ (l : List Event). (now_by (causes (public_side s (told_by l)))).by ≡ may_rest k) (append_assoc pre p.events (e ∷ []))
              (subst (λ (z : Public). (now_by (causes (public_side s z))).by ≡ may_rest k) is w.0);
        });
  }

  weaker : (k : ℕ) (p : Progress) → HasUsed clause s k n pre p → Now (Any clause) n pre p
  weaker k p m = now-any _ (overtaken-lasts s) p m.now

  -- Rest
  rest-told : {S : Progress → Type 0} (k : ℕ) → (k == rest) ≡ true → Leads (HasUsed clause s k n pre) (Now (Any clause) n pre) S
      (told (changed_member s (with_status (Asleep 2 false))) (λ f. events.Status (who_in s f) kinds.Sleep))
  unfolding told sleeping
  rest-told k h = record {
    leads = λ p r m.
        let f : Field = p.field in
        let g : Field = slept s 2 false f in
        let es : List Event = pre ++ p.events in
        let e : Event = events.Status (who_in s g) kinds.Sleep in
        let q : Public = settled e (told_by es) in
        let still : causes (public_side s q) ≡ causes (public_side s (told_by es)) = settled-look causes e s (told_by es) (λ x. refl) in
        let three : (now_by (causes (public_side s q))).by ≡ 3 = ap (λ (x : Causes). (now_by x).by) still ∙ m.own ∙ ap (λ (b : Bool). if b then 3 else 0) h in
        Runs r (record {
          begun = begun-member s (with_status (Asleep 2 false)) f m.now.begun;
          exact = at_end (Slept clause Any_fact) g pre p.events e (slept-next any-lasts f g es e
              (λ a x. sides-slept clause s 2 false f q m.now.begun.both (inr (ap put_to_sleep_by three, refl), (λ z. omega arith, λ z. refl)) x) (λ a. tt)
              (record { sides = m.now.exact.sides; more = tt }));
        });
  }

  rests-up : (k : ℕ) → (k == rest) ≡ true → {S : Progress → Type 0} → Leads (HasUsed clause s k n pre) (Now (Any clause) n pre) S (rest_up s)
  unfolding rest_up
  rests-up k h = rest-told k h ⊳ given-tells _ (λ m. gain-tells s _)

  heals-told : (move : Move) → Leads (HasUsed clause s move.number n pre) (Now (Any clause) n pre) (MayFall (Any clause) n pre) (heal s move)
  unfolding heal fails_if fail
  heals-told move = choose-tells _ (before-leads (weaker move.number) (note-tells _ (λ f. refl)) ⊳ stop-leads loosened) stay-tells
      ⊳ if-sees (move.number == rest) (λ h. rests-up move.number h) (λ h. before-leads (weaker move.number) (recover-tells s))

  early-heals : {Q : Progress → Type 0} (move : Move) (e : Effect) → heals e ≡ true → Leads (HasUsed clause s move.number n pre) Q (MayFall (Any clause) n pre) (early_effect s move e ▸ stop)
  unfolding early_effect
  early-heals move effects.Heal h = heals-told move ⊳ stop-leads loosened
  early-heals move _ h = absurd (true≢false (sym h))

  early-told : (move : Move) → Leads (HasUsed clause s move.number n pre) (Now (After clause s) n pre) (MayFall (Any clause) n pre)
      (choose (λ p. is_early move.effect) (early_effect s move move.effect ▸ stop) stay)
  early-told move = by (heals move.effect) refl
    where
      by : (b : Bool) → heals move.effect ≡ b → Leads (HasUsed clause s move.number n pre) (Now (After clause s) n pre) (MayFall (Any clause) n pre)
          (choose (λ p. is_early move.effect) (early_effect s move move.effect ▸ stop) stay)
      by true h = choose-tells _ (early-heals move move.effect h) (after-leads (λ p m. m.now) stay-tells)
      by false h = before-leads (λ p m. m.now) (rests-leads (may-any _ (overtaken-lasts s)) (choose-tells _ (early_effect-tells s move move.effect (after-acted clause s move) (λ e. absurd (true≢false (sym e ∙ h))) ⊳ stop-tells) stay-tells))

put-one : (n : ℕ) → n ≢ 3 → put_to_sleep_by n ≡ 1
put-one n z = by (eqb_tells n 3)
  where
    by : (((n == 3) ≡ true) × (n ≡ 3)) ⊎ (((n == 3) ≡ false) × (n ≢ 3)) → let k : ℕ = (if n == 3 then 2 else 1) in k ≡ 1
    by (inl e) = absurd (z e.1)
    by (inr e) = ap (λ (b : Bool). let k : ℕ = (if b then 2 else 1) in k) e.0

module _ (clause : Bool) (s : Side) (move : Move) where
  after-knows : bides move.effect ≡ false → (After clause s).knows s move
  unfolding sleeping
  after-knows h e = absurd (true≢false (sym e ∙ h))

  after-lulled : Lulls (After clause s) (other s) clause
  unfolding sleeping
  after-lulled turns few f p u = let one = put-one _ u.1 in ((inl (one, refl), (λ z. omega (arith, few), λ z. absurd (omega (arith, one, z)))), (up-foe s _ f u.0, u.1))

  before-knows : (Before clause s).knows s move
  unfolding sleeping
  before-knows e f p u = (u, λ q. u)

  before-acted : (Before clause s).acted s move
  unfolding sleeping
  before-acted = tt

  before-upright : (Before clause s).upright s
  unfolding sleeping
  before-upright f p u = u

after-up : (clause : Bool) (s : Side) {n : Sizes} {pre : List Event} (q : Progress) → Now (After clause s) n pre q → Now (Before clause s) n pre q
unfolding sleeping
after-up clause s q m = record { begun = m.begun; exact = record { sides = m.exact.sides; more = m.exact.more.0 } }

-- An action lets energy go, or has used its move.
abbrev Mids : Bool → Side → Sizes → List Event → Story → Progress → Type 0
Mids clause s n pre v p = (Now (Before clause s) n pre p × (lets_energy_go p ≡ true)) ⊎ Now v n pre p

module _ (t : Terms) {n : Sizes} {pre : List Event} (s : Side) (pick : Pick) (move : Move) (same : move ≡ move_at move.number) where
  mid-not : (v : Story) (p : Progress) → lets_energy_go p ≡ false → Mids t.rules.sleep_clause s n pre v p → Now v n pre p
  mid-not v p e (inl m) = absurd (true≢false (sym m.1 ∙ e))
  mid-not v p e (inr m) = m

  mid-up : {U : Field → Public → Type 0} (l : Lasting U) → ((q : Progress) → Now (sleeping t.rules.sleep_clause U l) n pre q → Now (Before t.rules.sleep_clause s) n pre q) → (p : Progress) → Mids t.rules.sleep_clause s n pre (sleeping t.rules.sleep_clause U l) p → Now (Before t.rules.sleep_clause s) n pre p
  mid-up l w p (inl m) = m.0
  mid-up l w p (inr m) = w p m

  carry-with : {U : Field → Public → Type 0} (l : Lasting U) → ((q : Progress) → Now (sleeping t.rules.sleep_clause U l) n pre q → Now (Before t.rules.sleep_clause s) n pre q) → (bides move.effect ≡ true → (sleeping t.rules.sleep_clause U l).knows s move)
      → (lulls move.effect ≡ true → Lulls (sleeping t.rules.sleep_clause U l) (other s) t.rules.sleep_clause)
      → Leads (Now (Before t.rules.sleep_clause s) n pre) (Now (sleeping t.rules.sleep_clause U l) n pre) (MayFall (Any t.rules.sleep_clause) n pre) (lead_up s pick move)
      → Leads (Now (Before t.rules.sleep_clause s) n pre) (MayFall (Any t.rules.sleep_clause) n pre) (MayFall (Any t.rules.sleep_clause) n pre) (carry_out (ruling_of t) s pick move)
  unfolding carry_out
  carry-with {U} l w k d lead = rests-leads (may-any _ (up-lasts s)) (bide_goes_on-tells (outline _ (up-lasts s)) s)
      ⊳ choose-sees {Q = Mids t.rules.sleep_clause s n pre (sleeping t.rules.sleep_clause U l)} lets_energy_go (after-leads (λ p m. inl (m.0, m.1)) stay-tells) (before-leads (λ p m. m.0) (after-leads (λ p m. inr m) lead))
      ⊳ choose-sees {Q = Mids t.rules.sleep_clause s n pre (sleeping t.rules.sleep_clause U l)} (lands_at_once move) (before-leads (λ p m. m.0) stay-tells)
      (before-leads (λ p m. mid-not (sleeping t.rules.sleep_clause U l) p (or-left (lets_energy_go p) _ m.1) m.0)
      (after-leads (λ p m. inr m) (rests-leads (may-any _ l) (damage_of-tells s move move.effect))))
      ⊳ choose-sees lets_energy_go (before-leads (λ p m. mid-up l w p m.0) stay-tells)
      (before-leads (λ p m. mid-not (sleeping t.rules.sleep_clause U l) p m.1 m.0)
      (after-leads w (rests-leads (may-any _ l) (choose-tells _ (late_effect-tells (ruling_of t) (ruling_of-tells t) s move move.effect (λ e. (k e, e)) d ⊳ stop-tells) stay-tells))))
      ⊳ after-leads (may-any _ (up-lasts s)) (rests-leads (may-any _ (up-lasts s)) (strike-tells (ruling_of t) (ruling_of-tells t) s move (before-upright t.rules.sleep_clause s move)
      (λ e. record { acts = before-acted t.rules.sleep_clause s move; plain = not-toxic move.number (ap (λ (m : Move). may_poison_by m.effect) (sym same) ∙ e) }) (λ e. before-knows t.rules.sleep_clause s move)))

  lead-plain : bides move.effect ≡ false
      → Leads (Now (Before t.rules.sleep_clause s) n pre) (Now (After t.rules.sleep_clause s) n pre) (MayFall (Any t.rules.sleep_clause) n pre) (lead_up s pick move)
  unfolding lead_up use_move
  lead-plain h = rests-leads (may-any _ (up-lasts s)) (charge-tells (outline _ (up-lasts s)) s pick move (up t.rules.sleep_clause s move))
      ⊳ (rests-leads (may-any _ (up-lasts s)) (current-tells (outline _ (up-lasts s)) s pick)
      ⊳ rests-leads (may-any _ (up-lasts s)) (choose-tells _ stay-tells (spend-tells (outline _ (up-lasts s)) s move (up t.rules.sleep_clause s move)))
      ⊳ if-sees (not (bides move.effect)) (λ e. move-used t.rules.sleep_clause s move.number) (λ e. absurd (true≢false (sym (ap not h) ∙ e))))
      ⊳ early-told t.rules.sleep_clause s move
      ⊳ rests-leads (may-any _ (overtaken-lasts s)) (prelude-tells s move)

  carry-any : Leads (Now (Before t.rules.sleep_clause s) n pre) (MayFall (Any t.rules.sleep_clause) n pre) (MayFall (Any t.rules.sleep_clause) n pre) (carry_out (ruling_of t) s pick move)
  carry-any = by (bides move.effect) refl
    where
      by : (b : Bool) → bides move.effect ≡ b
          → Leads (Now (Before t.rules.sleep_clause s) n pre) (MayFall (Any t.rules.sleep_clause) n pre) (MayFall (Any t.rules.sleep_clause) n pre) (carry_out (ruling_of t) s pick move)
      by false h = carry-with (overtaken-lasts s) (after-up t.rules.sleep_clause s) (λ e. after-knows t.rules.sleep_clause s move h) (λ e. after-lulled t.rules.sleep_clause s move) (lead-plain h)
      by true h = carry-with (up-lasts s) (λ q k. k) (λ e. before-knows t.rules.sleep_clause s move) (λ e. absurd (true≢false (sym e ∙ of-bide move h lulls)))
          (rests-leads (may-any _ (up-lasts s)) (lead_up-tells (outline _ (up-lasts s)) s pick move (up t.rules.sleep_clause s move) (λ e. absurd (true≢false (sym e ∙ of-bide move h heals)))))

module _ (t : Terms) {n : Sizes} {pre : List Event} (s : Side) (pick : Pick) where
  takes-any : Leads (Now (Before t.rules.sleep_clause s) n pre) (MayFall (Any t.rules.sleep_clause) n pre) (MayFall (Any t.rules.sleep_clause) n pre)
      (given (λ p. move_taken_in s pick p.field) (carry_out (ruling_of t) s pick))
  unfolding given
  takes-any = record { leads = λ p r m. (carry-any t s pick (move_taken_in s pick p.field) refl).leads p r m }

  parts-any : Leads (Now (Any t.rules.sleep_clause) n pre) (MayFall (Any t.rules.sleep_clause) n pre) (MayFall (Any t.rules.sleep_clause) n pre) (action_parts (ruling_of t) s pick)
  unfolding action_parts
  parts-any = gate_or_held-up t.rules.sleep_clause s pick ⊳ rests-leads (may-any _ (up-lasts s)) (see_if-tells (outline _ (up-lasts s)) s pick) ⊳ takes-any

  acts-any : Leads (Now (Any t.rules.sleep_clause) n pre) (MayFall (Any t.rules.sleep_clause) n pre) (MayFall (Any t.rules.sleep_clause) n pre) (act (ruling_of t) s pick)
  unfolding act keep_accuracy given begin on_action
  acts-any = record {
    leads = λ p i m.
        let x : Progress = action_parts (ruling_of t) s pick (begin s p) in
        resume-lands s (accuracy_to_keep s x) x (parts-any.leads (begin s p) i m);
  }

-- What is left of it

zeros : (i : ℕ) → slice_index_or (causes first_public.one).by i no_cause ≡ no_cause
zeros zero = refl
zeros (suc zero) = refl
zeros (suc (suc zero)) = refl
zeros (suc (suc (suc zero))) = refl
zeros (suc (suc (suc (suc zero)))) = refl
zeros (suc (suc (suc (suc (suc zero))))) = refl
zeros (suc (suc (suc (suc (suc (suc i)))))) = refl

first-sleepers : (clause : Bool) (team : List Member) → IsTeam team → (t : Party) → t.members ≡ team → t.active.place ≡ 0 → Sleepers clause (causes first_public.one) t
first-sleepers clause team h t e z = record {
  place = sym z;
  six = refl;
  few = let few = h.size.1 in subst (λ (l : List Member). length l ≤ 6) (sym e) few;
  each = λ i. subst (λ (k : Cause). Sleeps clause k (slice_index_or t.members i nobody)) (sym (zeros i)) (awake-sleeps clause no_cause (slice_index_or t.members i nobody)
      (subst (λ (l : List Member). is_asleep (slice_index_or l i nobody).status ≡ false) (sym e) (by i (below-or i (length team)))) ((λ k. omega (arith, k), λ k. omega (arith, k)), refl));
}
  where
    by : (i : ℕ) → (i < length team) ⊎ (length team ≤ i) → is_asleep (slice_index_or team i nobody).status ≡ false
    by i (inl low) = ap is_asleep (h.members i nobody low).healthy
    by i (inr past) = ap (λ (m : Member). is_asleep m.status) (get_or_past team i nobody past)

abbrev Ends : Bool → List Member → List Member → Ran → Type 0
Ends clause one two r = Slept clause Any_fact r.state.field (events_in r)

ends : (t : Terms) (one two : List Member) (seed : List ℕ) (pairs : List (Choice × Choice)) → IsTeam one → IsTeam two → Ends t.rules.sleep_clause one two (run (first_state t one two seed) pairs)
unfolding hears_all sleeping
ends t one two seed pairs a b =
    story-runs (Any t.rules.sleep_clause) t one two seed pairs a b (outline _ any-lasts) (switches t.rules.sleep_clause) (λ pre s pick. acts-any t s pick)
    (record { sides = first; more = tt })
  where
    first : (u : Side) → Sleepers t.rules.sleep_clause (causes (public_side u (told_by []))) (party u (first_state t one two seed).field)
    first One = first-sleepers t.rules.sleep_clause one a _ refl refl
    first Two = first-sleepers t.rules.sleep_clause two b _ refl refl

and-false : (b : Bool) → (b && false) ≡ false
and-false true = refl
and-false false = refl

and-true : (b : Bool) → (b && true) ≡ b
and-true true = refl
and-true false = refl

shown-cause : (clause : Bool) (s : Seen) (m : Member) → s.status ≡ kind_or_0 (kind_of m.status) → Sleeps clause (cause s) m → IsAsleepBy clause s m
shown-cause clause s m e h = shown m.status refl e h.asleep h.awake
  where
    never : (k : ℕ) → s.status ≡ k → k ≢ 1 → (s.status == 1) ≡ false
    never k e z = other_than (eqb_tells s.status 1)
      where
        other_than : (((s.status == 1) ≡ true) × (s.status ≡ 1)) ⊎ (((s.status == 1) ≡ false) × (s.status ≢ 1)) → (s.status == 1) ≡ false
        other_than (inl i) = absurd (z (sym e ∙ i.1))
        other_than (inr i) = i.0

    stays-up : (k : ℕ) → s.status ≡ k → k ≢ 1 → IsUp (cause s) → is_marked m.status ≡ false → IsAsleepBy clause s m
    stays-up k e z up none = record {
      cause = record { asleep = λ j. absurd (z (sym e ∙ j)); awake = λ j. up.0; rested = λ j. up.1 };
      turns = h.counted;
      mark = none ∙ sym (ap (λ (b : Bool). clause && (b && s.asleep_by == 1)) (never k e z) ∙ and-false clause);
    }

    slept-by : s.status ≡ 1 → IsCause clause s.asleep_by (is_marked m.status) → IsAsleepBy clause s m
    slept-by e (inl c) = record {
      cause = record { asleep = λ j. inl c.0; awake = λ j. absurd (j e); rested = λ j. absurd (j e) };
      turns = h.counted;
      mark = c.1 ∙ sym (ap (λ (k : ℕ). clause && (k == 1 && s.asleep_by == 1)) e ∙ ap (λ (k : ℕ). clause && (k == 1)) c.0 ∙ and-true clause);
    }
    slept-by e (inr c) = record {
      cause = record { asleep = λ j. inr c.0; awake = λ j. absurd (j e); rested = λ j. absurd (j e) };
      turns = h.counted;
      mark = c.1 ∙ sym (ap (λ (k : ℕ). clause && (k == 1 && s.asleep_by == 1)) e ∙ ap (λ (k : ℕ). clause && (k == 1)) c.0 ∙ and-false clause);
    }

    shown : (status : Status) → m.status ≡ status → s.status ≡ kind_or_0 (kind_of status) → (is_asleep status ≡ true → IsCause clause s.asleep_by (is_marked m.status))
        → (is_asleep status ≡ false → IsUp (cause s)) → IsAsleepBy clause s m
    shown (Asleep turns marked) i e a b = slept-by e (a refl)
    shown Healthy i e a b = stays-up 0 e (λ k. omega (arith, k)) (b refl) (ap is_marked i)
    shown Poisoned i e a b = stays-up 2 e (λ k. omega (arith, k)) (b refl) (ap is_marked i)
    shown Burned i e a b = stays-up 3 e (λ k. omega (arith, k)) (b refl) (ap is_marked i)
    shown Frozen i e a b = stays-up 4 e (λ k. omega (arith, k)) (b refl) (ap is_marked i)
    shown Paralysed i e a b = stays-up 5 e (λ k. omega (arith, k)) (b refl) (ap is_marked i)

pub sleepers_agree : SleepersAgree
sleepers_agree t one two seed pairs a b s place z =
    let r : Ran = run (first_state t one two seed) pairs in
    let x : PublicSide = public_side s (public_of r) in
    let p : Party = party s r.state.field in
    let k : Sleepers t.rules.sleep_clause (causes x) p = (ends t one two seed pairs a b).sides s in
    let status : (seen_at place x).status ≡ kind_or_0 (kind_of (member_at place p).status) =
    view s (public_of r) r.state.field (agrees t one two seed pairs a b) place z ∙ ap (λ (m : Shown). kind_or_0 m.kind) (get_or-map shown p.members (place - 1) nobody) in
    shown-cause t.rules.sleep_clause (seen_at place x) (member_at place p) status
    (subst (λ (n : Cause). Sleeps t.rules.sleep_clause n (member_at place p)) (get_or-map cause x.members (place - 1) not_seen) (k.each (place - 1)))
  where
    view : (s : Side) (p : Public) (f : Field) → AgreesWith p (shows f) → (place : ℕ) → (seen_at place (public_side s p)).species ≢ 0
        → (seen_at place (public_side s p)).status ≡ kind_or_0 (shown_at place (side_shows (party s f))).kind
    view One p f m place z = (m.one.members place z).1
    view Two p f m place z = (m.two.members place z).1
