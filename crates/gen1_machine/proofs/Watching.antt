-- Phases that a spectator can follow: what a field shows, how a change of it shows, and that the view made from the
-- events stays what the field shows.
use Rattle.std.proofs.Common.{Bool, List, ap, arith, false, get_or-set_same, if◌then◌else◌, is_some, length, length-set, map, refl, slice_set, sym, true, ℕ, ◌-◌, ◌==◌, ◌∙◌, ◌≡◌, ◌≤◌, [], None, Option, Some, subst, ◌+◌, ◌++◌, ◌∷◌}
use Rattle.std.proofs.Math.Seq.{map-set_same}
use Rattle.std.proofs.lemmas.Bool.{eqb-true}
use Rattle.std.proofs.lemmas.List.{map-set}
use Rattle.std.proofs.Math.ListN.{get_or-map}
use Rattle.gen1_tables.specs.declared.effect.Stat.{Stat}
use Rattle.gen1_tables.specs.declared.effect.Stat.TheVariants.{Attack, Defense, Speed, Special, Accuracy, Evasion}
use Rattle.gen1_stats.specs.declared.member.Status.{Status}
use Rattle.gen1_stats.specs.declared.member.Status.TheVariants.{Burned, Paralysed, Healthy}
use Rattle.gen1_stats.specs.Members.{nobody, Member}
use Rattle.gen1_machine.specs.declared.side.Side.{Side}
use Rattle.gen1_machine.specs.declared.side.Side.TheVariants.{One, Two}
use Rattle.gen1_machine.specs.Conditions.{ActiveConditions, with_bide, with_bide_storing, without_bide, with_thrash, with_thrash_one_less, without_thrash, with_trapping, with_trapping_one_less, without_trapping, with_charging, without_charging, with_invulnerability, without_invulnerability, with_recharge, without_recharge, with_rage, broken_off, with_flinch, without_flinch, with_confusion, one_less, with_confusion_one_less, without_confusion, with_mist, with_focus_energy, with_light_screen, with_reflect, with_substitute, less_by, with_substitute_hurt, without_substitute, with_seed, without_seed, with_bad_poison, with_worse_poison, with_disabled, with_disable_one_less, without_disable}
use Rattle.gen1_machine.specs.State.{party, member_at, member_in, with_member, changed_active, changed_conditions, changed_member, Stages, Active, Party, Field, who_in, health_in, kind_of, with_last_damage, with_outcome, with_requests, with_status, hurt_by, healed_by, fallen, with_pp_spent, with_types_of, with_current_move, with_picked_move, with_kept_accuracy}
use Rattle.gen1_machine.specs.CurrentStats.{stage_of, with_stage, at_new_stage, recomputed_at, with_penalty_of}
use Rattle.gen1_machine.specs.View.{on_side_view, shown_at, if_out, on_shown, shown, side_shows, shows, Shown, SideView, not_shown, on_named, on_active_shown, sees_volatile, sees_rise, sees_drop, sees, sees_all, View}
use Rattle.gen1_rolls.specs.Streams.{byte_at, span, first}
use Rattle.gen1_machine.specs.declared.terms.Request.{Request}
use Rattle.gen1_machine.specs.declared.event.Kind.{Kind}
use Rattle.gen1_machine.specs.declared.event.Who.{Who}
use Rattle.gen1_machine.specs.Health.{Health}
use Rattle.gen1_machine.specs.declared.event.DamageSource.{DamageSource}
use Rattle.gen1_machine.specs.declared.event.Volatile.{Volatile}
use Rattle.gen1_machine.specs.declared.event.Event.{Event}
use Rattle.gen1_machine.specs.Progress.{Action, Phase, stay, unless_stopped, ◌▸◌, choose, given, stop, draw, draw_until, on_field, note, told, on_active, on_conditions, on_member, set_last_damage, starts, lasts, ends, on_action, fault, lose_hp, gain_hp, inflict, cure, Progress}
use Rattle.gen1_machine.specs.declared.terms.Outcome.TheVariants as outcomes
use Rattle.gen1_machine.specs.declared.event.Event.TheVariants as events

-- What a field shows, and how a change of it shows.

-- A member is out.
pub record IsOut (t : Party) : Type 0 where
  pub placed : 1 ≤ t.active.place
  pub within : t.active.place ≤ length t.members

pub record BothOut (f : Field) : Type 0 where
  pub one : IsOut f.one
  pub two : IsOut f.two

-- A battle that goes on, with a member out on both sides.
pub record AllOut (f : Field) : Type 0 where
  pub both : BothOut f
  pub ongoing : f.outcome ≡ outcomes.Ongoing

-- What a spectator sees of conditions, and of a member that is out

pub record Visible : Type 0 where
  pub substitute : Bool
  pub confused : Bool
  pub light_screen : Bool
  pub reflect : Bool

abbrev pub visible : ActiveConditions → Visible
visible c = record { substitute = is_some c.substitute; confused = is_some c.confused; light_screen = c.light_screen; reflect = c.reflect }

pub record ActiveView : Type 0 where
  pub place : ℕ
  pub stages : Stages
  pub conditions : Visible

abbrev pub active_view : Active → ActiveView
active_view a = record { place = a.place; stages = a.stages; conditions = visible a.conditions }

abbrev pub side_of : List Shown → ActiveView → SideView
side_of members a = record {
  place = a.place;
  members = members;
  stages = a.stages;
  substitute = a.conditions.substitute;
  confused = a.conditions.confused;
  light_screen = a.conditions.light_screen;
  reflect = a.conditions.reflect;
}

-- What keeps a member out

pub record Keeps (change : Field → Field) : Type 0 where
  pub both : (f : Field) → BothOut f → BothOut (change f)
  pub outcome : (f : Field) → (change f).outcome ≡ f.outcome

pub kept : {change : Field → Field} → Keeps change → (f : Field) → AllOut f → AllOut (change f)
kept k f o = record { both = k.both f o.both; ongoing = k.outcome f ∙ o.ongoing }

out-active : (t : Party) (a : Active) → a.place ≡ t.active.place → IsOut t → IsOut (record t { active = a })
out-active t a e o = record { placed = omega (arith, e, o.placed); within = omega (arith, e, o.within) }

pub keeps-active : (s : Side) (change : Active → Active) → ((a : Active) → (change a).place ≡ a.place) → Keeps (changed_active s change)
unfolding changed_active
keeps-active One change h = record { both = λ f o. record { one = out-active f.one (change f.one.active) (h f.one.active) o.one; two = o.two }; outcome = λ f. refl }
keeps-active Two change h = record { both = λ f o. record { one = o.one; two = out-active f.two (change f.two.active) (h f.two.active) o.two }; outcome = λ f. refl }

pub keeps-conditions : (s : Side) (change : ActiveConditions → ActiveConditions) → Keeps (changed_conditions s change)
unfolding changed_conditions
keeps-conditions s change = keeps-active s _ (λ a. refl)

out-member : (t : Party) (m : Member) → IsOut t → IsOut (with_member t.active.place m t)
out-member t m o = record { placed = o.placed; within = rw (length-set t.members (t.active.place - 1) m) o.within }

pub keeps-member : (s : Side) (change : Member → Member) → Keeps (changed_member s change)
unfolding changed_member
keeps-member One change = record { both = λ f o. record { one = out-member f.one _ o.one; two = o.two }; outcome = λ f. refl }
keeps-member Two change = record { both = λ f o. record { one = o.one; two = out-member f.two _ o.two }; outcome = λ f. refl }

-- What doesn't show

pub record Silent (change : Field → Field) : Type 0 where
  pub unseen : (f : Field) → shows (change f) ≡ shows f
  pub keeps : Keeps change

pub silent-active : (s : Side) (change : Active → Active) → ((a : Active) → active_view (change a) ≡ active_view a) → Silent (changed_active s change)
unfolding changed_active
silent-active One change h = record {
  unseen = λ f. ap (λ (a : ActiveView). record (shows f) { one = side_of (map shown f.one.members) a }) (h f.one.active);
  keeps = keeps-active One change (λ a. ap (λ (w : ActiveView). w.place) (h a));
}
silent-active Two change h = record {
  unseen = λ f. ap (λ (a : ActiveView). record (shows f) { two = side_of (map shown f.two.members) a }) (h f.two.active);
  keeps = keeps-active Two change (λ a. ap (λ (w : ActiveView). w.place) (h a));
}

pub silent-conditions : (s : Side) (change : ActiveConditions → ActiveConditions) → ((c : ActiveConditions) → visible (change c) ≡ visible c) → Silent (changed_conditions s change)
unfolding changed_conditions
silent-conditions s change h = silent-active s _ (λ a. ap (λ (w : Visible). record (active_view a) { conditions = w }) (h a.conditions))

pub unseen-member : (s : Side) (change : Member → Member) (f : Field) → shown (change (member_in s f)) ≡ shown (member_in s f)
    → shows (changed_member s change f) ≡ shows f
unfolding changed_member
unseen-member One change f h = ap (λ ms. record (shows f) { one = side_of ms (active_view f.one.active) })
    (map-set_same shown f.one.members (f.one.active.place - 1) (change (member_in One f)) nobody h)
unseen-member Two change f h = ap (λ ms. record (shows f) { two = side_of ms (active_view f.two.active) })
    (map-set_same shown f.two.members (f.two.active.place - 1) (change (member_in Two f)) nobody h)

pub silent-member : (s : Side) (change : Member → Member) → ((m : Member) → shown (change m) ≡ shown m) → Silent (changed_member s change)
silent-member s change h = record { unseen = λ f. unseen-member s change f (h (member_in s f)); keeps = keeps-member s change }

pub penalty-unseen : (status : Status) (a : Active) → active_view (with_penalty_of status a) ≡ active_view a
unfolding with_penalty_of
penalty-unseen Paralysed a = refl
penalty-unseen Burned a = refl
penalty-unseen _ a = refl

pub silent-penalty : (s : Side) (status : Status) → Silent (changed_active s (with_penalty_of status))
silent-penalty s status = silent-active s (with_penalty_of status) (penalty-unseen status)

-- What an event says about a member that is out

is_0-placed : (n : ℕ) → 1 ≤ n → (n == 0) ≡ false
is_0-placed n h = by (n == 0) refl
  where
    by : (b : Bool) → (n == 0) ≡ b → (n == 0) ≡ false
    by true e = let k : n ≡ 0 = eqb-true n 0 e in absurd (omega (arith, h, k))
    by false e = e

pub out-shows : (g : SideView → SideView) (x : SideView) → 1 ≤ x.place → if_out g x ≡ g x
out-shows g x h = ap (λ (b : Bool). if b then x else g x) (is_0-placed x.place h)

pub active-shown : (t : Party) → shown_at t.active.place (side_shows t) ≡ shown (member_at t.active.place t)
active-shown t = get_or-map shown t.members (t.active.place - 1) nobody

pub member-after : (t : Party) (m : Member) → IsOut t → member_at t.active.place (with_member t.active.place m t) ≡ m
member-after t m o = get_or-set_same t.members (t.active.place - 1) m nobody (omega (arith, o.placed, o.within))

-- An event sets what shows of a member to the values that the member has then.
told-party : (t : Party) (m : Member) (g : Member → Shown → Shown) → IsOut t → g m (shown (member_at t.active.place t)) ≡ shown m
    → if_out (on_shown (g (member_at t.active.place (with_member t.active.place m t)))) (side_shows t) ≡ side_shows (with_member t.active.place m t)
told-party t m g o h =
    let i = t.active.place - 1 in
    let all : List Shown = map shown t.members in
    out-shows (on_shown (g (member_at t.active.place (with_member t.active.place m t)))) (side_shows t) o.placed
    ∙ ap (λ (n : Member). on_shown (g n) (side_shows t)) (member-after t m o)
    ∙ ap (λ (k : Shown). side_of (slice_set all i (g m k)) (active_view t.active)) (active-shown t)
    ∙ ap (λ (k : Shown). side_of (slice_set all i k) (active_view t.active)) h
    ∙ ap (λ (ms : List Shown). side_of ms (active_view t.active)) (sym (map-set shown t.members i m))

pub told-member : (s : Side) (change : Member → Member) (g : Member → Shown → Shown) (f : Field) → BothOut f
    → g (change (member_in s f)) (shown (member_in s f)) ≡ shown (change (member_in s f))
    → on_side_view s (if_out (on_shown (g (member_in s (changed_member s change f))))) (shows f) ≡ shows (changed_member s change f)
unfolding changed_member
told-member One change g f o h = ap (λ (x : SideView). record (shows f) { one = x }) (told-party f.one (change (member_in One f)) g o.one h)
told-member Two change g f o h = ap (λ (x : SideView). record (shows f) { two = x }) (told-party f.two (change (member_in Two f)) g o.two h)

-- An event that changes what shows apart from the members.
pub told-active : (s : Side) (change : Active → Active) (g : SideView → SideView) (f : Field) → BothOut f
    → g (side_shows (party s f)) ≡ side_shows (record (party s f) { active = change (party s f).active })
    → on_side_view s (if_out g) (shows f) ≡ shows (changed_active s change f)
unfolding changed_active
told-active One change g f o h = ap (λ (x : SideView). record (shows f) { one = x }) (out-shows g (side_shows f.one) o.one.placed ∙ h)
told-active Two change g f o h = ap (λ (x : SideView). record (shows f) { two = x }) (out-shows g (side_shows f.two) o.two.placed ∙ h)

-- How a change of a member that is out would show, before there is an event for it.
pub changed-shows : (s : Side) (change : Active → Active) (g : SideView → SideView) (f : Field)
    → side_shows (record (party s f) { active = change (party s f).active }) ≡ g (side_shows (party s f))
    → shows (changed_active s change f) ≡ on_side_view s g (shows f)
unfolding changed_active
changed-shows One change g f h = ap (λ (x : SideView). record (shows f) { one = x }) h
changed-shows Two change g f h = ap (λ (x : SideView). record (shows f) { two = x }) h

-- Stages

pub same-stage : (stat : Stat) (x : Stages) → with_stage stat (stage_of stat x) x ≡ x
same-stage Attack x = refl
same-stage Defense x = refl
same-stage Speed x = refl
same-stage Special x = refl
same-stage Accuracy x = refl
same-stage Evasion x = refl

abbrev pub at_stage : Stat → ℕ → SideView → SideView
at_stage stat n x = record x { stages = with_stage stat n x.stages }

recomputed-view : (stat : Stat) (n : ℕ) (a : Active) → active_view (recomputed_at stat n a) ≡ record (active_view a) { stages = with_stage stat n a.stages }
unfolding recomputed_at
recomputed-view Attack n a = refl
recomputed-view Speed n a = refl
recomputed-view _ n a = refl

pub recomputed-place : (stat : Stat) (n : ℕ) (a : Active) → (recomputed_at stat n a).place ≡ a.place
recomputed-place stat n a = ap (λ (w : ActiveView). w.place) (recomputed-view stat n a)

pub recomputed-shows : (s : Side) (stat : Stat) (n : ℕ) (f : Field) → shows (changed_active s (recomputed_at stat n) f) ≡ on_side_view s (at_stage stat n) (shows f)
recomputed-shows s stat n f = changed-shows s (recomputed_at stat n) (at_stage stat n) f
    (ap (λ (a : ActiveView). side_of (map shown (party s f).members) a) (recomputed-view stat n (party s f).active))

pub new_stage-shows : (s : Side) (stat : Stat) (n : ℕ) (f : Field) → shows (changed_active s (at_new_stage stat n) f) ≡ on_side_view s (at_stage stat n) (shows f)
unfolding at_new_stage
new_stage-shows s stat n f = changed-shows s (at_new_stage stat n) (at_stage stat n) f refl

-- From one fact to another if a phase goes on, and to a third if it stops

pub data Lands (Q S : Progress → Type 0) (q : Progress) : Type 0 where
  Runs : q.stopped ≡ false → Q q → Lands Q S q
  Rests : q.stopped ≡ true → S q → Lands Q S q

pub record Leads (P Q S : Progress → Type 0) (f : Phase) : Type 0 where
  pub leads : (p : Progress) → p.stopped ≡ false → P p → Lands Q S (f p)

after-first : (Q R S : Progress → Type 0) (q : Progress) (g : Phase) → Leads Q R S g → Lands Q S q → Lands R S (unless_stopped g q)
unfolding unless_stopped
after-first Q R S q g hg (Rests r m) = subst (λ (t : Bool). Lands R S (elim t as (λ _. Progress) [ true ↦ q | false ↦ g q ])) (sym r) (Rests r m)
after-first Q R S q g hg (Runs r m) = subst (λ (t : Bool). Lands R S (elim t as (λ _. Progress) [ true ↦ q | false ↦ g q ])) (sym r) (hg.leads q r m)

lands-after : (Q R S : Progress → Type 0) (q : Progress) → ((p : Progress) → Q p → R p) → Lands Q S q → Lands R S q
lands-after Q R S q h (Runs r m) = Runs r (h q m)
lands-after Q R S q h (Rests r m) = Rests r m

pub after-leads : {P Q R S : Progress → Type 0} {f : Phase} → ((p : Progress) → Q p → R p) → Leads P Q S f → Leads P R S f
after-leads {P} {Q} {R} {S} {f} h k = record { leads = λ p r m. lands-after Q R S (f p) h (k.leads p r m) }

pub before-leads : {P O Q S : Progress → Type 0} {f : Phase} → ((p : Progress) → O p → P p) → Leads P Q S f → Leads O Q S f
before-leads h k = record { leads = λ p r m. k.leads p r (h p m) }

infixr 20 ◌⊳◌
pub ◌⊳◌ : {P Q R S : Progress → Type 0} {f g : Phase} → Leads P Q S f → Leads Q R S g → Leads P R S (f ▸ g)
unfolding ◌▸◌
◌⊳◌ {P} {Q} {R} {S} {f} {g} hf hg = record { leads = λ p r m. after-first Q R S (f p) g hg (hf.leads p r m) }

pub choose-sees : {P Q S : Progress → Type 0} (test : Progress → Bool) {f g : Phase}
    → Leads (λ p. P p × (test p ≡ true)) Q S f → Leads (λ p. P p × (test p ≡ false)) Q S g → Leads P Q S (choose test f g)
unfolding choose
choose-sees {P} {Q} {S} test {f} {g} hf hg = record { leads = λ p r m. by p (test p) refl r m }
  where
    by : (p : Progress) (b : Bool) → test p ≡ b → p.stopped ≡ false → P p → Lands Q S (choose test f g p)
    by p true e r m = subst (λ (t : Bool). Lands Q S (elim t as (λ _. Progress) [ true ↦ f p | false ↦ g p ])) (sym e) (hf.leads p r (m, e))
    by p false e r m = subst (λ (t : Bool). Lands Q S (elim t as (λ _. Progress) [ true ↦ f p | false ↦ g p ])) (sym e) (hg.leads p r (m, e))

pub choose-tells : {P Q S : Progress → Type 0} (test : Progress → Bool) {f g : Phase} → Leads P Q S f → Leads P Q S g → Leads P Q S (choose test f g)
choose-tells test hf hg = choose-sees test (before-leads (λ p m. m.0) hf) (before-leads (λ p m. m.0) hg)

-- A test whose result is known.
pub if-sees : {P Q S : Progress → Type 0} (b : Bool) {f g : Phase} → (b ≡ true → Leads P Q S f) → (b ≡ false → Leads P Q S g) → Leads P Q S (choose (λ _. b) f g)
unfolding choose
if-sees true hf hg = record { leads = λ p r m. (hf refl).leads p r m }
if-sees false hf hg = record { leads = λ p r m. (hg refl).leads p r m }

pub given-tells : {P Q S : Progress → Type 0} {A : Type 0} (read : Progress → A) {f : A → Phase} → ((x : A) → Leads P Q S (f x)) → Leads P Q S (given read f)
unfolding given
given-tells read h = record { leads = λ p r m. (h (read p)).leads p r m }

pub given-sees : {P Q S : Progress → Type 0} {A : Type 0} (read : Progress → A) {f : A → Phase}
    → ((x : A) → Leads (λ p. P p × (read p ≡ x)) Q S (f x)) → Leads P Q S (given read f)
unfolding given
given-sees read h = record { leads = λ p r m. (h (read p)).leads p r (m, refl) }

pub stay-tells : {P S : Progress → Type 0} → Leads P P S stay
unfolding stay
stay-tells = record { leads = λ p r m. Runs r m }

-- A phase that always stops leads to any fact.
pub stop-leads : {P Q S : Progress → Type 0} → ((p : Progress) → P p → S (record p { stopped = true })) → Leads P Q S stop
unfolding stop
stop-leads h = record { leads = λ p r m. Rests refl (h p m) }

-- What a spectator knows

-- All that shows.
pub record Agrees (v : View) (f : Field) (events : List Event) : Type 0 where
  pub out : AllOut f
  pub agrees : sees_all events v ≡ shows f

abbrev pub Seen : View → Progress → Type 0
Seen v p = Agrees v p.field p.events

pub sees_all-last : (events : List Event) (event : Event) (v : View) → sees_all (events ++ event ∷ []) v ≡ sees event (sees_all events v)
unfolding sees_all
sees_all-last [] event v = refl
sees_all-last (e ∷ events) event v = sees_all-last events event (sees e v)

-- All that showed before a change which no event has reported yet.
pub record Behind (v : View) (Fact : Field → Type 0) (g : View → View) (f : Field) (events : List Event) : Type 0 where
  pub before : Field
  pub was : AllOut before
  pub fact : Fact before
  pub agrees : sees_all events v ≡ shows before
  pub out : AllOut f
  pub ahead : shows f ≡ g (shows before)

abbrev pub Ahead : View → (Field → Type 0) → (View → View) → Progress → Type 0
Ahead v Fact g p = Behind v Fact g p.field p.events

module _ {v : View} {S : Progress → Type 0} where
  pub draw-tells : {Q : Progress → Type 0} {f : ℕ → Phase} → ((b : ℕ) → Leads (Seen v) Q S (f b)) → Leads (Seen v) Q S (draw f)
  unfolding draw
  draw-tells h = record { leads = λ p r m. (h (byte_at p.stream p.drawn)).leads (record p { drawn = p.drawn + 1 }) r m }

  until-lands : {f : ℕ → Phase} (p : Progress) (o : Option ℕ) → ((b : ℕ) → Leads (Seen v) (Seen v) S (f b)) → p.stopped ≡ false → Seen v p
      → Lands (Seen v) S (elim o as (λ _. Progress) [ Some m ↦ f (byte_at p.stream m) (record p { drawn = m + 1 }) | None ↦ record p { drawn = p.drawn + span p.stream } ])
  until-lands p None h r m = Runs r m
  until-lands p (Some n) h r m = (h (byte_at p.stream n)).leads (record p { drawn = n + 1 }) r m

  pub until-tells : (test : ℕ → Bool) {f : ℕ → Phase} → ((b : ℕ) → Leads (Seen v) (Seen v) S (f b)) → Leads (Seen v) (Seen v) S (draw_until test f)
  unfolding draw_until
  until-tells test h = record { leads = λ p r m. until-lands p (first p.stream p.drawn test) h r m }

  pub action-tells : (change : Action → Action) → Leads (Seen v) (Seen v) S (on_action change)
  unfolding on_action
  action-tells change = record { leads = λ p r m. Runs r m }

  pub field-tells : (change : Field → Field) → Silent change → Leads (Seen v) (Seen v) S (on_field change)
  unfolding on_field
  field-tells change h = record {
    leads = λ p r m.
        Runs r (record { out = kept h.keeps p.field m.out; agrees = m.agrees ∙ sym (h.unseen p.field) });
  }

  -- A change that doesn't show while a fact holds.
  pub field-sees : (change : Field → Field) (Fact : Field → Type 0) → Keeps change → ((f : Field) → Fact f → shows (change f) ≡ shows f)
      → Leads (λ p. Seen v p × Fact p.field) (Seen v) S (on_field change)
  unfolding on_field
  field-sees change Fact k h = record {
    leads = λ p r m.
        Runs r (record { out = kept k p.field m.0.out; agrees = m.0.agrees ∙ sym (h p.field m.1) });
  }

  -- A change that shows, before its event.
  pub field-ahead : (change : Field → Field) (Fact : Field → Type 0) (g : View → View) → Keeps change
      → ((f : Field) → AllOut f → Fact f → shows (change f) ≡ g (shows f))
      → Leads (λ p. Seen v p × Fact p.field) (Ahead v Fact g) S (on_field change)
  unfolding on_field
  field-ahead change Fact g k h = record {
    leads = λ p r m.
        Runs r (record { before = p.field; was = m.0.out; fact = m.1; agrees = m.0.agrees; out = kept k p.field m.0.out; ahead = h p.field m.0.out m.1 });
  }

  pub more-ahead : (change : Field → Field) (Fact : Field → Type 0) (g k : View → View) → Keeps change
      → ((f : Field) → shows (change f) ≡ k (shows f))
      → Leads (Ahead v Fact g) (Ahead v Fact (λ w. k (g w))) S (on_field change)
  unfolding on_field
  more-ahead change Fact g k keeps h = record {
    leads = λ p r m.
        Runs r (record { before = m.before; was = m.was; fact = m.fact; agrees = m.agrees; out = kept keeps p.field m.out; ahead = h p.field ∙ ap k m.ahead });
  }

  pub still-ahead : (change : Field → Field) (Fact : Field → Type 0) (g : View → View) → Silent change → Leads (Ahead v Fact g) (Ahead v Fact g) S (on_field change)
  unfolding on_field
  still-ahead change Fact g h = record {
    leads = λ p r m.
        Runs r (record { before = m.before; was = m.was; fact = m.fact; agrees = m.agrees; out = kept h.keeps p.field m.out; ahead = h.unseen p.field ∙ m.ahead });
  }

  -- The event that was due.
  pub note-told : (event : Field → Event) (Fact : Field → Type 0) (g : View → View)
      → ((before f : Field) → AllOut before → AllOut f → Fact before → shows f ≡ g (shows before) → sees (event f) (shows before) ≡ g (shows before))
      → Leads (Ahead v Fact g) (Seen v) S (note event)
  unfolding note
  note-told event Fact g h = record {
    leads = λ p r m.
        Runs r (record {
          out = m.out;
          agrees = sees_all-last p.events (event p.field) v ∙ ap (λ w. sees (event p.field) w) m.agrees
              ∙ h m.before p.field m.was m.out m.fact m.ahead ∙ sym m.ahead;
        });
  }

  pub told-told : (change : Field → Field) (event : Field → Event) (Fact : Field → Type 0) (g : View → View) → Silent change
      → ((before f : Field) → AllOut before → AllOut f → Fact before → shows f ≡ g (shows before) → sees (event f) (shows before) ≡ g (shows before))
      → Leads (Ahead v Fact g) (Seen v) S (told change event)
  unfolding told
  told-told change event Fact g s h = record {
    leads = λ p r m.
        let f = change p.field in
        let o = kept s.keeps p.field m.out in
        let a = s.unseen p.field ∙ m.ahead in
        Runs r (record { out = o; agrees = sees_all-last p.events (event f) v ∙ ap (λ w. sees (event f) w) m.agrees ∙ h m.before f m.was o m.fact a ∙ sym a });
  }

  -- No event was due.
  pub stay-told : (Fact : Field → Type 0) (g : View → View) → ((before : Field) → AllOut before → Fact before → g (shows before) ≡ shows before)
      → Leads (Ahead v Fact g) (Seen v) S stay
  unfolding stay
  stay-told Fact g h = record {
    leads = λ p r m.
        Runs r (record { out = m.out; agrees = m.agrees ∙ sym (h m.before m.was m.fact) ∙ sym m.ahead });
  }

  -- An event that shows nothing.
  pub note-tells : (event : Field → Event) → ((f : Field) (w : View) → sees (event f) w ≡ w) → Leads (Seen v) (Seen v) S (note event)
  unfolding note
  note-tells event h = record {
    leads = λ p r m.
        Runs r (record { out = m.out; agrees = sees_all-last p.events (event p.field) v ∙ h p.field (sees_all p.events v) ∙ m.agrees });
  }

  -- A change and its event together.
  pub told-sees : {P : Progress → Type 0} (change : Field → Field) (event : Field → Event) → Keeps change → ((p : Progress) → P p → Seen v p)
      → ((p : Progress) → P p → sees (event (change p.field)) (shows p.field) ≡ shows (change p.field))
      → Leads P (Seen v) S (told change event)
  unfolding told
  told-sees change event k seen h = record {
    leads = λ p r m.
        let s = seen p m in
        let f = change p.field in
        Runs r (record { out = kept k p.field s.out; agrees = sees_all-last p.events (event f) v ∙ ap (λ w. sees (event f) w) s.agrees ∙ h p m });
  }

  pub told-tells : (change : Field → Field) (event : Field → Event) → Keeps change
      → ((f : Field) → AllOut f → sees (event (change f)) (shows f) ≡ shows (change f))
      → Leads (Seen v) (Seen v) S (told change event)
  told-tells change event k h = told-sees change event k (λ p m. m) (λ p m. h p.field m.out)

-- A member that fell without an event, and a fault

abbrev pub fallen_view : Side → View → View
fallen_view s = on_side_view s (on_shown (λ _. not_shown))

abbrev pub Anything : Field → Type 0
Anything f = Unit {0}

-- All that shows, except perhaps for a fall.
pub data Fell (v : View) (f : Field) (events : List Event) : Type 0 where
  Stands : Agrees v f events → Fell v f events
  Fallen : (s : Side) → Behind v Anything (fallen_view s) f events → Fell v f events

abbrev pub MayFall : View → Progress → Type 0
MayFall v p = Fell v p.field p.events

pub record Faulted (v : View) (f : Field) (events : List Event) : Type 0 where
  pub before : Field
  pub was : AllOut before
  pub agrees : sees_all events v ≡ shows before
  pub both : BothOut f
  pub number : ℕ
  pub outcome : f.outcome ≡ outcomes.Fault number
  pub ahead : shows f ≡ record (shows before) { outcome = outcomes.Fault number }

pub data Halting (v : View) (f : Field) (events : List Event) : Type 0 where
  Still : Fell v f events → Halting v f events
  Broken : Faulted v f events → Halting v f events

abbrev pub Halted : View → Progress → Type 0
Halted v p = Halting v p.field p.events

-- A phase that a spectator can follow.
abbrev pub Tells : View → Phase → Type 0
Tells v f = Leads (Seen v) (Seen v) (Halted v) f

unfoldable pub seeing : Bool
unfolding with_bide with_bide_storing without_bide with_thrash with_thrash_one_less without_thrash with_trapping with_trapping_one_less without_trapping with_charging without_charging with_invulnerability without_invulnerability with_recharge without_recharge with_rage broken_off with_flinch without_flinch with_confusion without_confusion with_mist with_focus_energy with_light_screen with_reflect with_substitute without_substitute with_seed without_seed with_bad_poison with_worse_poison with_disabled with_disable_one_less without_disable with_status hurt_by healed_by fallen with_pp_spent with_types_of with_current_move with_picked_move with_kept_accuracy sees on_named on_active_shown
seeing = true

-- The effect of each event on a view

pub start-seen : (w : Who) (what : Volatile) (x : View) → sees (events.Start w what) x ≡ on_side_view w.side (if_out (sees_volatile what true)) x
unfolding sees on_named
start-seen w what x = refl

end-seen : (w : Who) (what : Volatile) (x : View) → sees (events.End w what) x ≡ on_side_view w.side (if_out (sees_volatile what false)) x
unfolding sees on_named
end-seen w what x = refl

activate-seen : (w : Who) (what : Volatile) (x : View) → sees (events.Activate w what) x ≡ x
unfolding sees
activate-seen w what x = refl

damage-seen : (w : Who) (h : Health) (source : DamageSource) (x : View)
    → sees (events.Damage w h source) x ≡ on_side_view w.side (if_out (on_shown (λ m. record m { hp = h.hp }))) x
unfolding sees on_named on_active_shown
damage-seen w h source x = refl

heal-seen : (w : Who) (h : Health) (x : View) → sees (events.Heal w h) x ≡ on_side_view w.side (if_out (on_shown (λ m. record m { hp = h.hp }))) x
unfolding sees on_named on_active_shown
heal-seen w h x = refl

pub status-seen : (w : Who) (kind : Kind) (x : View) → sees (events.Status w kind) x ≡ on_side_view w.side (if_out (on_shown (λ m. record m { kind = Some kind }))) x
unfolding sees on_named on_active_shown
status-seen w kind x = refl

pub cure-seen : (w : Who) (kind : Kind) (x : View) → sees (events.Cure w kind) x ≡ on_side_view w.side (if_out (on_shown (λ m. record m { kind = None }))) x
unfolding sees on_named on_active_shown
cure-seen w kind x = refl

pub faint-seen : (w : Who) (x : View) → sees (events.Faint w) x ≡ on_side_view w.side (if_out (on_shown (λ m. not_shown))) x
unfolding sees on_named on_active_shown
faint-seen w x = refl

pub boost-seen : (w : Who) (stat : Stat) (n : ℕ) (x : View) → sees (events.Boost w stat n) x ≡ on_side_view w.side (if_out (sees_rise stat n)) x
unfolding sees on_named
boost-seen w stat n x = refl

pub unboost-seen : (w : Who) (stat : Stat) (n : ℕ) (x : View) → sees (events.Unboost w stat n) x ≡ on_side_view w.side (if_out (sees_drop stat n)) x
unfolding sees on_named
unboost-seen w stat n x = refl

silent-damage : (damage : ℕ) → Silent (with_last_damage damage)
unfolding with_last_damage
silent-damage damage = record { unseen = λ f. refl; keeps = record { both = λ f o. record { one = o.one; two = o.two }; outcome = λ f. refl } }

pub silent-requests : (one two : Request) → Silent (with_requests one two)
unfolding with_requests
silent-requests one two = record { unseen = λ f. refl; keeps = record { both = λ f o. record { one = o.one; two = o.two }; outcome = λ f. refl } }

pub confusion-unseen : (c : ActiveConditions) → visible (with_confusion_one_less c) ≡ visible c
unfolding with_confusion_one_less
confusion-unseen c = by c.confused
  where
    by : (o : Option ℕ) → record (visible c) { confused = is_some (one_less o) } ≡ record (visible c) { confused = is_some o }
    by None = refl
    by (Some n) = refl

pub substitute-unseen : (damage : ℕ) (c : ActiveConditions) → visible (with_substitute_hurt damage c) ≡ visible c
unfolding with_substitute_hurt
substitute-unseen damage c = by c.substitute
  where
    by : (o : Option ℕ) → record (visible c) { substitute = is_some (less_by damage o) } ≡ record (visible c) { substitute = is_some o }
    by None = refl
    by (Some n) = refl

module _ {v : View} {S : Progress → Type 0} where
  pub active-tells : (s : Side) (change : Active → Active) → ((a : Active) → active_view (change a) ≡ active_view a) → Leads (Seen v) (Seen v) S (on_active s change)
  unfolding on_active
  active-tells s change h = field-tells _ (silent-active s change h)

  pub conditions-tells : (s : Side) (change : ActiveConditions → ActiveConditions) → ((c : ActiveConditions) → visible (change c) ≡ visible c) → Leads (Seen v) (Seen v) S (on_conditions s change)
  unfolding on_conditions
  conditions-tells s change h = field-tells _ (silent-conditions s change h)

  pub member-tells : (s : Side) (change : Member → Member) → ((m : Member) → shown (change m) ≡ shown m) → Leads (Seen v) (Seen v) S (on_member s change)
  unfolding on_member
  member-tells s change h = field-tells _ (silent-member s change h)

  pub damage-tells : (damage : ℕ) → Leads (Seen v) (Seen v) S (set_last_damage damage)
  unfolding set_last_damage
  damage-tells damage = field-tells _ (silent-damage damage)

  pub starts-tells : (s : Side) (what : Volatile) (change : ActiveConditions → ActiveConditions)
      → ((t : Party) → sees_volatile what true (side_shows t) ≡ side_shows (record t { active = record t.active { conditions = change t.active.conditions } }))
      → Leads (Seen v) (Seen v) S (starts s what change)
  unfolding starts changed_conditions
  starts-tells s what change h = told-tells (changed_conditions s change) (λ f. events.Start (who_in s f) what) (keeps-conditions s change)
      (λ f o. start-seen (who_in s (changed_conditions s change f)) what (shows f)
      ∙ told-active s (λ a. record a { conditions = change a.conditions }) (sees_volatile what true) f o.both (h (party s f)))

  pub ends-tells : (s : Side) (what : Volatile) (change : ActiveConditions → ActiveConditions)
      → ((t : Party) → sees_volatile what false (side_shows t) ≡ side_shows (record t { active = record t.active { conditions = change t.active.conditions } }))
      → Leads (Seen v) (Seen v) S (ends s what change)
  unfolding ends changed_conditions
  ends-tells s what change h = told-tells (changed_conditions s change) (λ f. events.End (who_in s f) what) (keeps-conditions s change)
      (λ f o. end-seen (who_in s (changed_conditions s change f)) what (shows f)
      ∙ told-active s (λ a. record a { conditions = change a.conditions }) (sees_volatile what false) f o.both (h (party s f)))

  pub lasts-tells : (s : Side) (what : Volatile) (change : ActiveConditions → ActiveConditions) → ((c : ActiveConditions) → visible (change c) ≡ visible c)
      → Leads (Seen v) (Seen v) S (lasts s what change)
  unfolding lasts
  lasts-tells s what change h = told-tells (changed_conditions s change) (λ f. events.Activate (who_in s f) what) (keeps-conditions s change)
      (λ f o. activate-seen (who_in s (changed_conditions s change f)) what (shows f) ∙ sym ((silent-conditions s change h).unseen f))

  pub lose-tells : (s : Side) (source : DamageSource) (amount : ℕ) → Leads (Seen v) (Seen v) S (lose_hp s source amount)
  unfolding lose_hp hurt_by
  lose-tells s source amount = choose-tells _
      (told-tells (changed_member s (hurt_by amount)) (λ f. events.Damage (who_in s f) (health_in s f) source) (keeps-member s (hurt_by amount))
      (λ f o. let q : Field = changed_member s (hurt_by amount) f in
      damage-seen (who_in s q) (health_in s q) source (shows f) ∙ told-member s (hurt_by amount) (λ n x. record x { hp = n.hp }) f o.both refl)) stay-tells

  pub gain-tells : (s : Side) (amount : ℕ) → Leads (Seen v) (Seen v) S (gain_hp s amount)
  unfolding gain_hp healed_by
  gain-tells s amount = choose-tells _
      (told-tells (changed_member s (healed_by amount)) (λ f. events.Heal (who_in s f) (health_in s f)) (keeps-member s (healed_by amount))
      (λ f o. let q : Field = changed_member s (healed_by amount) f in
      heal-seen (who_in s q) (health_in s q) (shows f) ∙ told-member s (healed_by amount) (λ n x. record x { hp = n.hp }) f o.both refl)) stay-tells

  -- A status is set together with its event.
  pub status-tells : (s : Side) (status : Status) (kind : Kind) → kind_of status ≡ Some kind
      → Leads (Seen v) (Seen v) S (told (changed_member s (with_status status)) (λ f. events.Status (who_in s f) kind))
  unfolding with_status
  status-tells s status kind e = told-tells (changed_member s (with_status status)) (λ f. events.Status (who_in s f) kind) (keeps-member s (with_status status))
      (λ f o. status-seen (who_in s (changed_member s (with_status status) f)) kind (shows f) ∙ told-member s (with_status status) (λ n x. record x { kind = Some kind }) f o.both
      (ap (λ k. record (shown (member_in s f)) { kind = k }) (sym e)))

  pub inflict-tells : (s : Side) (status : Status) (kind : Kind) → kind_of status ≡ Some kind → Leads (Seen v) (Seen v) S (inflict s status kind)
  unfolding inflict on_member with_status
  inflict-tells s status kind e =
      let g : View → View = on_side_view s (if_out (on_shown (λ x. record x { kind = Some kind }))) in
      before-leads (λ p m. (m, tt)) (field-ahead (changed_member s (with_status status)) Anything g (keeps-member s _)
      (λ f o fact. sym (told-member s (with_status status) (λ n x. record x { kind = Some kind }) f o.both
      (ap (λ k. record (shown (member_in s f)) { kind = k }) (sym e)))))
      ⊳ told-told (changed_active s (with_penalty_of status)) (λ f. events.Status (who_in s f) kind) Anything g (silent-penalty s status)
      (λ b f o q fact a. status-seen (who_in s f) kind (shows b))

  pub cure-tells : (s : Side) (kind : Kind) → Leads (Seen v) (Seen v) S (cure s kind)
  unfolding cure with_status
  cure-tells s kind = told-tells (changed_member s (with_status Healthy)) (λ f. events.Cure (who_in s f) kind) (keeps-member s (with_status Healthy))
      (λ f o. cure-seen (who_in s (changed_member s (with_status Healthy) f)) kind (shows f)
      ∙ told-member s (with_status Healthy) (λ n x. record x { kind = None }) f o.both refl)

  pub fault-step : (n : ℕ) → Leads (Seen v) (λ p. Faulted v p.field p.events) S (on_field (with_outcome (outcomes.Fault n)))
  unfolding on_field with_outcome
  fault-step n = record {
    leads = λ p r m.
        Runs r (record {
          before = p.field;
          was = m.out;
          agrees = m.agrees;
          both = record { one = m.out.both.one; two = m.out.both.two };
          number = n;
          outcome = refl;
          ahead = refl;
        });
  }

module _ {v : View} where
  pub stop-tells : Tells v stop
  stop-tells = stop-leads (λ p m. Still (Stands m))

  pub fault-tells : (n : ℕ) → Tells v (fault n)
  unfolding fault
  fault-tells n = fault-step n ⊳ stop-leads (λ p m. Broken m)
