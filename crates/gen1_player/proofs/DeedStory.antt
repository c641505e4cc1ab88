-- The story of what active members do.
use Rattle.gen1_stats.specs.declared.member.Status.TheVariants.{Asleep}
use Rattle.gen1_stats.specs.declared.member.Status.{Status}
use Rattle.std.proofs.Common.{[], Bool, List, ap, false, if◌then◌else◌, not, refl, subst, sym, true, true≢false, ℕ, ◌++◌, ◌==◌, ◌∙◌, ◌∷◌, ◌≡◌, ◌≢◌, ◌≤◌}
use Rattle.gen1_tables.specs.Effects.{bides, recharges}
use Rattle.gen1_stats.specs.Members.{Member}
use Rattle.gen1_machine.specs.declared.side.Side.{Side}
use Rattle.gen1_machine.specs.declared.side.Side.TheVariants.{One, Two}
use Rattle.gen1_machine.specs.declared.event.Volatile.{Volatile}
use Rattle.gen1_machine.specs.declared.event.Volatile.TheVariants as volatiles
use Rattle.gen1_machine.specs.declared.event.Event.{Event}
use Rattle.gen1_machine.specs.declared.event.Event.TheVariants as events
use Rattle.gen1_machine.specs.declared.event.Kind.{Kind}
use Rattle.gen1_machine.specs.declared.event.Kind.TheVariants as kinds
use Rattle.gen1_machine.specs.declared.event.Who.{Who}
use Rattle.gen1_machine.specs.Moves.{move_at, toxic, Move}
use Rattle.gen1_machine.specs.Rules.{bit_of}
use Rattle.gen1_machine.specs.Sides.{other}
use Rattle.gen1_machine.specs.Conditions.{after_haze, with_bad_poison, with_recharge, without_seed, ActiveConditions}
use Rattle.gen1_machine.specs.State.{Active, Field, Party, active_in, changed_active, changed_conditions, changed_member, fallen, party, who_in, with_party, with_status, with_types_of}
use Rattle.gen1_machine.specs.EarlyEffects.{with_levelled_stats}
use Rattle.gen1_machine.proofs.Watching.{BothOut}
use Rattle.gen1_player.specs.declared.public.Public.{Public}
use Rattle.gen1_player.specs.declared.public_side.PublicSide.{PublicSide}
use Rattle.gen1_player.specs.Public.{acting, first_public, gets_status, hears_all, is_afflicted, is_cleared, on_announced, on_out, on_seen, public_side, set_volatile, settled, settled_by, takes_in, takes_types}
use Rattle.gen1_player.proofs.Facts.{followed, is_dull, noted, sparing-tame, starts-marks, with_cleared, Dull, Followed, Marks, Placid, Starts, Tame}
use Rattle.gen1_player.proofs.Stories.{Story, sickened, slept}
use Rattle.gen1_player.proofs.HeardSides.{clear-hears, end-hears, foe-side, hears-in, hears_all-last, out-side, quiet-side, settled-look, start-hears, starts-begins, types-hears, rest-hears}
use Rattle.gen1_player.proofs.Deeds.{calm-bland, Bland, core_of, deeds, deeds_of, does-in, dull-fades, dull-quiet, even-active, even-apart, even-conditions, even-fades, even-member, even-party, even-loosely, even-quiet, loosely-fades, pending-out, placed-in, with_active, with_conditions, Deeds, Does, Even, Loosely}

abbrev pub told_by : List Event → Public
told_by es = hears_all es first_public

-- A fact about the last moves alone.
pub record Lasts (U : Public → Type 0) : Type 0 where
  pub kept : (p q : Public) → ((u : Side) → (public_side u q).last_move ≡ (public_side u p).last_move) → U p → U q

-- Nobody may have hit itself.
pub record Tale (U : Public → Type 0) (f : Field) (es : List Event) : Type 0 where
  pub even : Even f (told_by es)
  pub quiet : (told_by es).may_hit_itself ≡ 0
  pub more : U (told_by es)

-- A member that has fallen may have worse poison than was told.
pub record LooseTale (f : Field) (es : List Event) : Type 0 where
  pub loosely : Loosely f (told_by es)
  pub quiet : (told_by es).may_hit_itself ≡ 0

pub tale-loosens : {U : Public → Type 0} (f : Field) (es : List Event) → Tale U f es → LooseTale f es
tale-loosens f es m = record { loosely = even-loosely f (told_by es) m.even; quiet = m.quiet }

-- Volatiles

marks-noted : (what : Volatile) (on : Bool) (change : ActiveConditions → ActiveConditions) → Marks what on change → (c : ActiveConditions)
    → followed (change c) ≡ noted what on (followed c)
marks-noted volatiles.TypeChange on change h c = absurd h
marks-noted volatiles.Mist on change h c = h c
marks-noted volatiles.FocusEnergy on change h c = h c
marks-noted volatiles.Disable on change h c = h c
marks-noted volatiles.Rage on change h c = h c
marks-noted volatiles.LeechSeed on change h c = h c
marks-noted volatiles.Confusion on change h c = h c
marks-noted volatiles.Bide on change h c = h c
marks-noted volatiles.Substitute on change h c = h c
marks-noted volatiles.LightScreen on change h c = h c
marks-noted volatiles.Reflect on change h c = h c
marks-noted volatiles.Trapped on change h c = h c
marks-noted volatiles.Splash on change h c = h c

abbrev with_deed : Volatile → ℕ → Deeds → Deeds
with_deed volatiles.Substitute on k = record k { substitute = on }
with_deed volatiles.Bide on k = record k { bide = on }
with_deed volatiles.Rage on k = record k { rage = on }
with_deed _ on k = k

set-deeds : (what : Volatile) (on : ℕ) (x : PublicSide) → deeds (on_announced (set_volatile what on) x) ≡ with_deed what on (deeds x)
set-deeds volatiles.Mist on x = refl
set-deeds volatiles.FocusEnergy on x = refl
set-deeds volatiles.Disable on x = refl
set-deeds volatiles.Rage on x = refl
set-deeds volatiles.LeechSeed on x = refl
set-deeds volatiles.Confusion on x = refl
set-deeds volatiles.Bide on x = refl
set-deeds volatiles.Substitute on x = refl
set-deeds volatiles.LightScreen on x = refl
set-deeds volatiles.Reflect on x = refl
set-deeds volatiles.TypeChange on x = refl
set-deeds volatiles.Trapped on x = refl
set-deeds volatiles.Splash on x = refl

noted-deeds : (what : Volatile) (on : Bool) (place : ℕ) (c : Followed) → deeds_of place (core_of (noted what on c)) ≡ with_deed what (bit_of on) (deeds_of place (core_of c))
noted-deeds volatiles.Mist on place c = refl
noted-deeds volatiles.FocusEnergy on place c = refl
noted-deeds volatiles.Disable on place c = refl
noted-deeds volatiles.Rage on place c = refl
noted-deeds volatiles.LeechSeed on place c = refl
noted-deeds volatiles.Confusion on place c = refl
noted-deeds volatiles.Bide on place c = refl
noted-deeds volatiles.Substitute on place c = refl
noted-deeds volatiles.LightScreen on place c = refl
noted-deeds volatiles.Reflect on place c = refl
noted-deeds volatiles.TypeChange on place c = refl
noted-deeds volatiles.Trapped on place c = refl
noted-deeds volatiles.Splash on place c = refl

set-rests : (what : Volatile) (on : ℕ) (x : PublicSide) → (on_announced (set_volatile what on) x).announced.recharging ≡ x.announced.recharging
set-rests volatiles.Confusion on x = refl
set-rests _ on x = refl

noted-reach : (what : Volatile) (on : Bool) (c : Followed) → (noted what on c).invulnerable ≡ c.invulnerable
noted-reach volatiles.Mist on c = refl
noted-reach volatiles.FocusEnergy on c = refl
noted-reach volatiles.Disable on c = refl
noted-reach volatiles.Rage on c = refl
noted-reach volatiles.LeechSeed on c = refl
noted-reach volatiles.Confusion on c = refl
noted-reach volatiles.Bide on c = refl
noted-reach volatiles.Substitute on c = refl
noted-reach volatiles.LightScreen on c = refl
noted-reach volatiles.Reflect on c = refl
noted-reach volatiles.TypeChange on c = refl
noted-reach volatiles.Trapped on c = refl
noted-reach volatiles.Splash on c = refl

pub does-marked : (what : Volatile) (on : Bool) (change : ActiveConditions → ActiveConditions) → Marks what on change → (x : PublicSide) (t : Party)
    → Does x t → Does (on_announced (set_volatile what (bit_of on)) x) (with_conditions change t)
does-marked what on change h x t m =
    let c : ActiveConditions = t.active.conditions in
    let e : followed (change c) ≡ noted what on (followed c) = marks-noted what on change h c in
    record {
      same = set-deeds what (bit_of on) x ∙ ap (with_deed what (bit_of on)) m.same ∙ sym (noted-deeds what on t.active.place (followed c))
          ∙ sym (ap (λ (z : Followed). deeds_of t.active.place (core_of z)) e);
      reach = λ i. ap (λ (z : Followed). z.invulnerable) e ∙ noted-reach what on (followed c) ∙ m.reach i;
      rests = λ i. m.rests (subst (λ (n : ℕ). n ≢ 0) (set-rests what (bit_of on) x) i);
      last = m.last;
      few = m.few;
    }

-- Types, Haze and bad poison

does-typed : (foe : Active) (y x : PublicSide) (t : Party) → Does x t → Does (takes_types y x) (with_active (with_types_of foe t.active) t)
unfolding with_types_of
does-typed foe y x t m = record { same = m.same; reach = m.reach; rests = m.rests; last = m.last; few = m.few }

abbrev cleared_party : Party → Party
cleared_party t = with_conditions after_haze (with_active (with_levelled_stats t.active) t)

abbrev without_poison : Deeds → Deeds
without_poison k = record k { toxic = 0; toxic_count = 0 }

does-cleared : (x : PublicSide) (t : Party) → Does x t → Does (is_cleared x) (cleared_party t)
unfolding after_haze with_levelled_stats
does-cleared x t m = record { same = ap without_poison m.same; reach = m.reach; rests = m.rests; last = m.last; few = m.few }

even-cleared : (f : Field) (p : Public) → BothOut f → Even f p → Even (with_cleared Two (with_cleared One f)) (on_out Two is_cleared (on_out One is_cleared p))
unfolding changed_active changed_conditions
even-cleared f p o m =
    let q : Public = on_out One is_cleared p in
    let two : q.two ≡ p.two = foe-side One is_cleared p in
    record {
      one = subst (λ (x : PublicSide). Does x (cleared_party f.one)) (sym (foe-side Two is_cleared q ∙ out-side One is_cleared p (placed-in One f p o m)))
          (does-cleared p.one f.one m.one);
      two = subst (λ (x : PublicSide). Does x (cleared_party f.two)) (sym (out-side Two is_cleared q (subst (λ (x : PublicSide). 1 ≤ x.place) (sym two) (placed-in Two f p o m)) ∙ ap is_cleared two))
          (does-cleared p.two f.two m.two);
    }

does-poisoned : (b : Bool) (x : PublicSide) (t : Party) → Does x t
    → Does (on_announced (λ a. if b then record a { toxic = 1; toxic_count = 0 } else a) (on_seen (is_afflicted kinds.Poison) x)) (if b then with_conditions with_bad_poison t else t)
unfolding with_bad_poison
does-poisoned true x t m = record { same = ap (λ (k : Deeds). record k { toxic = 1; toxic_count = 0 }) m.same; reach = m.reach; rests = m.rests; last = m.last; few = m.few }
does-poisoned false x t m = record { same = m.same; reach = m.reach; rests = m.rests; last = m.last; few = m.few }

poisons-one : (b : Bool) (f : Field) → (if b then changed_conditions One with_bad_poison f else f) ≡ with_party One (if b then with_conditions with_bad_poison f.one else f.one) f
unfolding changed_active changed_conditions
poisons-one true f = refl
poisons-one false f = refl

poisons-two : (b : Bool) (f : Field) → (if b then changed_conditions Two with_bad_poison f else f) ≡ with_party Two (if b then with_conditions with_bad_poison f.two else f.two) f
unfolding changed_active changed_conditions
poisons-two true f = refl
poisons-two false f = refl

even-poisoned : (s : Side) (move : Move) (f : Field) (p : Public) → BothOut f → (public_side s p).last_move ≡ move.number → Even f p
    → Even (sickened s move f) (takes_in (events.Status (who_in (other s) f) kinds.Poison) p)
unfolding takes_in
even-poisoned One move f p o e m =
    let h : ℕ → PublicSide → PublicSide = λ n x. on_announced (gets_status kinds.Poison n) (on_seen (is_afflicted kinds.Poison) x) in
    subst (λ (n : ℕ). Even (sickened One move f) (on_out Two (h n) p)) (sym e)
    (subst (λ (g : Field). Even g (on_out Two (h move.number) p)) (sym (poisons-two (move.number == toxic) f))
    (even-party Two (h move.number) _ f p o (does-poisoned (move.number == toxic) p.two f.two m.two) m))
even-poisoned Two move f p o e m =
    let h : ℕ → PublicSide → PublicSide = λ n x. on_announced (gets_status kinds.Poison n) (on_seen (is_afflicted kinds.Poison) x) in
    subst (λ (n : ℕ). Even (sickened Two move f) (on_out One (h n) p)) (sym e)
    (subst (λ (g : Field). Even g (on_out One (h move.number) p)) (sym (poisons-one (move.number == toxic) f))
    (even-party One (h move.number) _ f p o (does-poisoned (move.number == toxic) p.one f.one m.one) m))

-- The next event

pub last-settled : (e : Event) (u : Side) (p : Public) → (public_side u (settled e p)).last_move ≡ (public_side u p).last_move
last-settled e u p = settled-look (λ (x : PublicSide). x.last_move) e u p (λ x. refl)

pub quiet-settled : (e : Event) (p : Public) → (settled e p).may_hit_itself ≡ 0
unfolding settled
quiet-settled e p = refl

pub even-before : (e : Event) (f : Field) (p : Public) → p.may_hit_itself ≡ 0 → Even f p → Even f (settled e p)
unfolding settled
even-before e f p q m = even-quiet (acting e) f p q m

pub tells-next : (U : Public → Type 0) (g : Field) (es : List Event) (e : Event) → let q : Public = takes_in e (settled e (told_by es)) in
    Even g q → q.may_hit_itself ≡ 0 → U q → Tale U g (es ++ e ∷ [])
tells-next U g es e a b c =
    let same : takes_in e (settled e (told_by es)) ≡ told_by (es ++ e ∷ []) = sym (hears_all-last es e first_public ∙ hears-in e (told_by es)) in
    record { even = subst (Even g) same a; quiet = subst (λ (p : Public). p.may_hit_itself ≡ 0) same b; more = subst U same c }

-- A dull event in which nobody acts.
pub loose-told : (g : Field) (es : List Event) (e : Event) → acting e ≡ 0 → is_dull e ≡ true → Loosely g (settled_by 0 (told_by es)) → LooseTale g (es ++ e ∷ [])
unfolding settled
loose-told g es e a d m =
    let q : Public = settled_by 0 (told_by es) in
    let same : takes_in e (settled e (told_by es)) ≡ told_by (es ++ e ∷ []) = sym (hears_all-last es e first_public ∙ hears-in e (told_by es)) in
    record {
      loosely = subst (Loosely g) same (subst (λ (i : ℕ). Loosely g (takes_in e (settled_by i (told_by es)))) (sym a) (loosely-fades g q (takes_in e q) (λ u. dull-fades e d u q) m));
      quiet = subst (λ (p : Public). p.may_hit_itself ≡ 0) same (subst (λ (i : ℕ). (takes_in e (settled_by i (told_by es))).may_hit_itself ≡ 0) (sym a) (dull-quiet e d q refl));
    }

last-out : (s u : Side) (h : PublicSide → PublicSide) (p : Public) → ((x : PublicSide) → (h x).last_move ≡ x.last_move) → (public_side u (on_out s h p)).last_move ≡ (public_side u p).last_move
last-out s u h p e = quiet-side (λ (x : PublicSide). x.last_move) s u h p e

module _ {U : Public → Type 0} (lasts : Lasts U) where
  -- An event that changes one side, and no last move.
  pub tells-out : (s : Side) (h : PublicSide → PublicSide) (t : Party) (f : Field) (es : List Event) (e : Event)
      → let p : Public = settled e (told_by es) in takes_in e p ≡ on_out s h p
      → ((x : PublicSide) → (h x).last_move ≡ x.last_move) → BothOut f → (Does (public_side s p) (party s f) → Does (h (public_side s p)) t) → Tale U f es → Tale U (with_party s t f) (es ++ e ∷ [])
  tells-out s h t f es e is l o d m =
      let p : Public = settled e (told_by es) in
      let even : Even f p = even-before e f (told_by es) m.quiet m.even in
      tells-next U (with_party s t f) es e
      (subst (Even (with_party s t f)) (sym is) (even-party s h t f p o (d (does-in s even)) even))
      (subst (λ (q : Public). q.may_hit_itself ≡ 0) (sym is) (pending-out s h p ∙ quiet-settled e (told_by es)))
      (lasts.kept (told_by es) _ (λ u. ap (λ (q : Public). (public_side u q).last_move) is ∙ last-out s u h p l ∙ last-settled e u (told_by es)) m.more)

  pub tale-dull : (e : Event) (f : Field) → is_dull e ≡ true → (es : List Event) → Tale U f es → Tale U f (es ++ e ∷ [])
  tale-dull e f d es m =
      let p : Public = settled e (told_by es) in
      tells-next U f es e
      (even-fades f p (takes_in e p) (λ u. dull-fades e d u p) (even-before e f (told_by es) m.quiet m.even))
      (dull-quiet e d p (quiet-settled e (told_by es)))
      (lasts.kept (told_by es) _ (λ u. (dull-fades e d u p).last ∙ last-settled e u (told_by es)) m.more)

  pub tale-active : (s : Side) (change : Active → Active) → Placid change → (f : Field) (es : List Event) → Tale U f es → Tale U (changed_active s change f) es
  tale-active s change h f es m = record { even = even-active s change h f (told_by es) m.even; quiet = m.quiet; more = m.more }

  pub tale-conditions : (s : Side) (change : ActiveConditions → ActiveConditions) → Bland change → (f : Field) (es : List Event) → Tale U f es → Tale U (changed_conditions s change f) es
  tale-conditions s change h f es m = record { even = even-conditions s change h f (told_by es) m.even; quiet = m.quiet; more = m.more }

  pub tale-member : (s : Side) (change : Member → Member) → Tame change → (f : Field) (es : List Event) → Tale U f es → Tale U (changed_member s change f) es
  tale-member s change h f es m = record { even = even-member s change h f (told_by es) m.even; quiet = m.quiet; more = m.more }

  pub tale-apart : (f g : Field) (es : List Event) → f.one ≡ g.one → f.two ≡ g.two → Tale U f es → Tale U g es
  tale-apart f g es a b m = record { even = even-apart f g (told_by es) a b m.even; quiet = m.quiet; more = m.more }

  pub tale-starts : (s : Side) (what : Volatile) (change : ActiveConditions → ActiveConditions) → Starts what change → (f : Field) (es : List Event)
      → BothOut f → Tale U f es → Tale U (changed_conditions s change f) (es ++ events.Start (who_in s (changed_conditions s change f)) what ∷ [])
  unfolding changed_active changed_conditions
  tale-starts s what change h f es o m =
      let g : Field = changed_conditions s change f in
      tells-out s (on_announced (set_volatile what 1)) (with_conditions change (party s f)) f es (events.Start (who_in s g) what)
      (start-hears (who_in s g) what _ (starts-begins what change h)) (λ x. refl) o (does-marked what true change (starts-marks what change h) _ (party s f)) m

  pub tale-ends : (s : Side) (what : Volatile) (change : ActiveConditions → ActiveConditions) → Marks what false change → (f : Field) (es : List Event)
      → BothOut f → Tale U f es → Tale U (changed_conditions s change f) (es ++ events.End (who_in s (changed_conditions s change f)) what ∷ [])
  unfolding changed_active changed_conditions
  tale-ends s what change h f es o m =
      let g : Field = changed_conditions s change f in
      tells-out s (on_announced (set_volatile what 0)) (with_conditions change (party s f)) f es (events.End (who_in s g) what)
      (end-hears (who_in s g) what _) (λ x. refl) o (does-marked what false change h _ (party s f)) m

  pub tale-converts : (s : Side) (f : Field) (es : List Event) → BothOut f → Tale U f es
      → let g : Field = changed_active s (with_types_of (active_in (other s) f)) f in Tale U g (es ++ events.Start (who_in s g) volatiles.TypeChange ∷ [])
  unfolding changed_active
  tale-converts s f es o m =
      let g : Field = changed_active s (with_types_of (active_in (other s) f)) f in
      let e : Event = events.Start (who_in s g) volatiles.TypeChange in
      let p : Public = settled e (told_by es) in
      tells-out s (takes_types (public_side (other s) p)) (with_active (with_types_of (active_in (other s) f) (active_in s f)) (party s f)) f es e
      (types-hears (who_in s g) p) (λ x. refl) o (does-typed (active_in (other s) f) (public_side (other s) p) (public_side s p) (party s f)) m

  pub tale-rests : (s : Side) → ((p : Public) → U p → recharges (move_at (public_side s p).last_move).effect ≡ true) → (f : Field) (es : List Event) → BothOut f → Tale U f es
      → Tale U (changed_conditions s with_recharge f) (es ++ events.MustRecharge (who_in s (changed_conditions s with_recharge f)) ∷ [])
  unfolding changed_active changed_conditions with_recharge
  tale-rests s a f es o m =
      let g : Field = changed_conditions s with_recharge f in
      tells-out s (on_announced (λ a. record a { recharging = 1 })) (with_conditions with_recharge (party s f)) f es (events.MustRecharge (who_in s g))
      (rest-hears (who_in s g) _) (λ x. refl) o (λ d. record {
        same = d.same;
        reach = d.reach;
        rests = λ i. subst (λ (k : ℕ). recharges (move_at k).effect ≡ true) (sym (last-settled (events.MustRecharge (who_in s g)) s (told_by es))) (a (told_by es) m.more);
        last = d.last;
        few = d.few;
      }) m

  pub tale-clears : (f : Field) (es : List Event) → BothOut f → Tale U f es → Tale U (with_cleared Two (with_cleared One f)) (es ++ events.ClearAll ∷ [])
  tale-clears f es o m =
      let e : Event = events.ClearAll in
      let p : Public = settled e (told_by es) in
      let q : Public = on_out One is_cleared p in
      let is : takes_in e p ≡ on_out Two is_cleared q = clear-hears p in
      tells-next U (with_cleared Two (with_cleared One f)) es e
      (subst (Even (with_cleared Two (with_cleared One f))) (sym is) (even-cleared f p o (even-before e f (told_by es) m.quiet m.even)))
      (subst (λ (q : Public). q.may_hit_itself ≡ 0) (sym is) (pending-out Two is_cleared q ∙ pending-out One is_cleared p ∙ quiet-settled e (told_by es)))
      (lasts.kept (told_by es) _ (λ u. ap (λ (q : Public). (public_side u q).last_move) is ∙ last-out Two u is_cleared q (λ x. refl) ∙ last-out One u is_cleared p (λ x. refl) ∙ last-settled e u (told_by es)) m.more)

  status-last : (w : Who) (kind : Kind) (u : Side) (p : Public) → (public_side u (takes_in (events.Status w kind) p)).last_move ≡ (public_side u p).last_move
  unfolding takes_in
  status-last w kind u p = last-out w.side u _ p (λ x. refl)

  status-quiet : (w : Who) (kind : Kind) (p : Public) → (takes_in (events.Status w kind) p).may_hit_itself ≡ p.may_hit_itself
  unfolding takes_in
  status-quiet w kind p = pending-out w.side _ p

  pub tale-poisons : (s : Side) (move : Move) → ((p : Public) → U p → (public_side s p).last_move ≡ move.number) → (f : Field) (es : List Event) → BothOut f → Tale U f es
      → Tale U (sickened s move f) (es ++ events.Status (who_in (other s) f) kinds.Poison ∷ [])
  tale-poisons s move a f es o m =
      let e : Event = events.Status (who_in (other s) f) kinds.Poison in
      let p : Public = settled e (told_by es) in
      tells-next U (sickened s move f) es e
      (even-poisoned s move f p o (last-settled e s (told_by es) ∙ a (told_by es) m.more) (even-before e f (told_by es) m.quiet m.even))
      (status-quiet (who_in (other s) f) kinds.Poison p ∙ quiet-settled e (told_by es))
      (lasts.kept (told_by es) _ (λ u. status-last (who_in (other s) f) kinds.Poison u p ∙ last-settled e u (told_by es)) m.more)

pub fallen-tame : Tame fallen
unfolding fallen
fallen-tame m = refl

pub status-tame : (status : Status) → Tame (with_status status)
unfolding with_status
status-tame status m = refl

pub seed-bland : Bland without_seed
unfolding without_seed
seed-bland c = refl

pub dull-is : (f : Field) (e : Event) → Dull f e → is_dull e ≡ true
dull-is f (events.Damage w h source) n = ap not n.1
dull-is f (events.Heal w h) n = refl
dull-is f (events.Status w kind) n = ap not n.0
dull-is f (events.Cure w kind) n = absurd n
dull-is f (events.Faint w) n = absurd n
dull-is f _ n = n

-- Other lemmas are about the moves of the action.
unfoldable pub deeding : (U : Public → Type 0) → Lasts U → Story
deeding U l = record {
  exact = Tale U;
  loose = Tale U;
  said = λ s move. ⊥;
  acted = λ s move. (p : Public) → U p → (public_side s p).last_move ≡ move.number;
  knows = λ s move. (bides move.effect ≡ false) × (recharges move.effect ≡ true → (p : Public) → U p → recharges (move_at (public_side s p).last_move).effect ≡ true);
  lulled = λ s turns marked. Unit {0};
  upright = λ s. Unit {0};
  loosen = λ f es m. m;
  tighten = λ f es m a b. m;
  member = λ s change h r f es w m. tale-member l s change (sparing-tame change h) f es m;
  cures = λ s change kind h f es o a m. let g : Field = changed_member s change f in tale-dull l (events.Cure (who_in s g) kind) g refl es (tale-member l s change (sparing-tame change h) f es m);
  sleeps = λ s turns marked k f es o m. tale-dull l (events.Status (who_in s (slept s turns marked f)) kinds.Sleep) (slept s turns marked f) refl es (tale-member l s (with_status (Asleep turns marked)) (status-tame (Asleep turns marked)) f es m);
  active = λ s change h f es m. tale-active l s change h f es m;
  conditions = λ s change h f es m. tale-conditions l s change (calm-bland change h) f es m;
  apart = λ f g es a b m. tale-apart l f g es a b m;
  noise = λ e f h es m. tale-dull l e f (dull-is f e h) es m;
  poisons = λ s move a f es o m. tale-poisons l s move a f es o m;
  starts = λ s what change h f es o m. tale-starts l s what change h f es o m;
  ends = λ s what change h f es o m. tale-ends l s what change h f es o m;
  converts = λ s f es o m. tale-converts l s f es o m;
  clears = λ f es o m. tale-clears l f es o m;
  moves = λ s move k f es o m. absurd k;
  prepares = λ s move k f es o m. absurd k;
  explodes = λ s u f es o m. tale-conditions l s without_seed seed-bland (changed_member s fallen f) es (tale-member l s fallen fallen-tame f es m);
  stores = λ s move k e turns f es o m. absurd (true≢false (sym e ∙ k.0));
  rests = λ s move k e f es o m. tale-rests l s (k.1 e) f es o m;
  loose_active = λ s change h f es m. tale-active l s change h f es m;
  loose_apart = λ f g es a b m. tale-apart l f g es a b m;
  loose_noise = λ e f h es m. tale-dull l e f (dull-is f e h) es m;
  loose_falls = λ s f es o m. let g : Field = changed_member s fallen f in tale-dull l (events.Faint (who_in s g)) g refl es (tale-member l s fallen fallen-tame f es m);
}
