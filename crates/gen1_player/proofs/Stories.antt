-- Stories: facts about a battle's field and the events that it wrote so far. Phases that keep a story true.
use Rattle.gen1_machine.proofs.Keeps.{Keeps}
use Rattle.std.proofs.Common.{Bool, List, None, Option, Some, [], ap, arith, false, if◌then◌else◌, length, length-set, refl, subst, sym, true, true≢false, ℕ, ◌++◌, ◌+◌, ◌-◌, ◌==◌, ◌∙◌, ◌∷◌, ◌≡◌, ◌≤◌, nat_le}
use Rattle.std.proofs.lemmas.List.{append_assoc, get_or-set_same}
use Rattle.gen1_rolls.specs.Streams.{Stream, byte_at, first, span}
use Rattle.gen1_stats.specs.declared.member.Status.{Status}
use Rattle.gen1_stats.specs.declared.member.Status.TheVariants.{Asleep, Healthy, Poisoned}
use Rattle.gen1_stats.specs.Members.{is_asleep, nobody, Member}
use Rattle.gen1_machine.specs.declared.side.Side.{Side}
use Rattle.gen1_machine.specs.declared.side.Side.TheVariants.{One, Two}
use Rattle.gen1_machine.specs.declared.terms.Outcome.TheVariants as outcomes
use Rattle.gen1_machine.specs.declared.event.Kind.{Kind}
use Rattle.gen1_machine.specs.declared.event.Kind.TheVariants as kinds
use Rattle.gen1_machine.specs.declared.event.Who.{Who}
use Rattle.gen1_machine.specs.declared.side.UsedMove.{UsedMove}
use Rattle.gen1_machine.specs.declared.event.DamageSource.{DamageSource}
use Rattle.gen1_machine.specs.declared.event.Volatile.{Volatile}
use Rattle.gen1_machine.specs.declared.event.Volatile.TheVariants as volatiles
use Rattle.gen1_machine.specs.declared.event.Event.{Event}
use Rattle.gen1_machine.specs.declared.event.Event.TheVariants as events
use Rattle.gen1_machine.specs.declared.event.CantReason.TheVariants as reasons
use Rattle.gen1_machine.specs.Sides.{other}
use Rattle.gen1_machine.specs.Moves.{toxic, Move}
use Rattle.gen1_tables.specs.Effects.{bides, recharges}
use Rattle.gen1_machine.specs.Conditions.{with_bad_poison, with_bide, with_recharge, without_seed, ActiveConditions}
use Rattle.gen1_machine.specs.State.{active_in, changed_active, changed_conditions, changed_member, fallen, has_fallen_in, healed_by, health_in, hurt_by, member_in, party, who_in, with_current_move, with_pp_spent, with_last_damage, with_outcome, with_status, with_types_of, Active, Field, with_sleep_one_less}
use Rattle.gen1_machine.specs.CurrentStats.{with_penalty_of}
use Rattle.gen1_machine.specs.Progress.{cure, stop, draw, draw_until, ends, fault, gain_hp, inflict, lasts, lose_hp, note, on_action, on_active, on_conditions, on_field, on_member, set_last_damage, starts, told, Action, Phase, Progress}
use Rattle.gen1_machine.specs.SwitchingIn.{switch_event}
use Rattle.gen1_machine.proofs.Watching.{keeps-active, keeps-member, BothOut, Lands, Leads, Rests, Runs, choose-tells, stay-tells, stop-leads, ◌⊳◌}
use Rattle.gen1_player.proofs.Facts.{penalty-placid, still-is, Calm, Dull, Marks, Mild, Noise, Standing, Starts, Placid, Restful, SleepsOn, Sparing, IsAwake, is_telling, is_poison, is_sleep, is_still, restful-status, with_cleared, sent, Sizes}

-- Stories

-- A field in which the foe is poisoned badly, if the move is Toxic.
abbrev pub sickened : Side → Move → Field → Field
sickened s move f = if move.number == toxic then changed_conditions (other s) with_bad_poison f else f

-- A field in which a member has fallen asleep.
abbrev pub slept : Side → ℕ → Bool → Field → Field
slept s turns marked f = changed_member s (with_status (Asleep turns marked)) f

-- What a story says of a field after a list of events, and why each change and each event keeps it true. `loose` is what it says after
-- a member fell without an event.
pub record Story : Type 1 where
  pub exact : Field → List Event → Type 0
  pub loose : Field → List Event → Type 0
  pub said : Side → Move → Type 0  -- that a side may use a move
  pub acted : Side → Move → Type 0  -- that it has used it
  pub knows : Side → Move → Type 0  -- that its active member may use it
  pub lulled : Side → ℕ → Bool → Type 0  -- that its active member falls asleep, with this count and mark
  pub loosen : (f : Field) (es : List Event) → exact f es → loose f es
  pub tighten : (f : Field) (es : List Event) → loose f es → has_fallen_in One f ≡ false → has_fallen_in Two f ≡ false → exact f es
  pub upright : Side → Type 0  -- that its active member is awake
  pub member : (s : Side) (change : Member → Member) → Sparing change → Restful change → (f : Field) (es : List Event) → SleepsOn s change f → exact f es → exact (changed_member s change f) es
  pub cures : (s : Side) (change : Member → Member) (kind : Kind) → Sparing change → (f : Field) (es : List Event) → BothOut f → is_asleep (change (member_in s f)).status ≡ false → exact f es
      → exact (changed_member s change f) (es ++ events.Cure (who_in s (changed_member s change f)) kind ∷ [])
  pub sleeps : (s : Side) (turns : ℕ) (marked : Bool) → lulled s turns marked → (f : Field) (es : List Event) → BothOut f → exact f es
      → exact (slept s turns marked f) (es ++ events.Status (who_in s (slept s turns marked f)) kinds.Sleep ∷ [])
  pub active : (s : Side) (change : Active → Active) → Placid change → (f : Field) (es : List Event) → exact f es → exact (changed_active s change f) es
  pub conditions : (s : Side) (change : ActiveConditions → ActiveConditions) → Calm change → (f : Field) (es : List Event)
      → exact f es → exact (changed_conditions s change f) es
  pub apart : (f g : Field) (es : List Event) → f.one ≡ g.one → f.two ≡ g.two → exact f es → exact g es
  pub noise : (e : Event) (f : Field) → Dull f e → (es : List Event) → exact f es → exact f (es ++ e ∷ [])
  pub poisons : (s : Side) (move : Move) → acted s move → (f : Field) (es : List Event) → BothOut f → exact f es
      → exact (sickened s move f) (es ++ events.Status (who_in (other s) f) kinds.Poison ∷ [])
  pub starts : (s : Side) (what : Volatile) (change : ActiveConditions → ActiveConditions) → Starts what change → (f : Field) (es : List Event)
      → BothOut f → exact f es → exact (changed_conditions s change f) (es ++ events.Start (who_in s (changed_conditions s change f)) what ∷ [])
  pub ends : (s : Side) (what : Volatile) (change : ActiveConditions → ActiveConditions) → Marks what false change → (f : Field) (es : List Event)
      → BothOut f → exact f es → exact (changed_conditions s change f) (es ++ events.End (who_in s (changed_conditions s change f)) what ∷ [])
  pub converts : (s : Side) (f : Field) (es : List Event) → BothOut f → exact f es
      → let g : Field = changed_active s (with_types_of (active_in (other s) f)) f in exact g (es ++ events.Start (who_in s g) volatiles.TypeChange ∷ [])
  pub clears : (f : Field) (es : List Event) → BothOut f → exact f es → exact (with_cleared Two (with_cleared One f)) (es ++ events.ClearAll ∷ [])
  pub moves : (s : Side) (move : Move) → said s move → (f : Field) (es : List Event) → BothOut f → exact f es
      → exact f (es ++ events.Move (who_in s f) move.number (who_in (other s) f) ∷ [])
  pub prepares : (s : Side) (move : Move) → said s move → (f : Field) (es : List Event) → BothOut f → exact f es
      → exact f (es ++ events.Prepare (who_in s f) move.number ∷ [])
  pub explodes : (s : Side) → upright s → (f : Field) (es : List Event) → BothOut f → exact f es → loose (changed_conditions s without_seed (changed_member s fallen f)) es
  pub stores : (s : Side) (move : Move) → knows s move → bides move.effect ≡ true → (turns : ℕ) (f : Field) (es : List Event) → BothOut f → exact f es
      → exact (changed_conditions s (with_bide turns) f) (es ++ events.Start (who_in s (changed_conditions s (with_bide turns) f)) volatiles.Bide ∷ [])
  pub rests : (s : Side) (move : Move) → knows s move → recharges move.effect ≡ true → (f : Field) (es : List Event) → BothOut f → exact f es
      → exact (changed_conditions s with_recharge f) (es ++ events.MustRecharge (who_in s (changed_conditions s with_recharge f)) ∷ [])
  pub loose_active : (s : Side) (change : Active → Active) → Placid change → (f : Field) (es : List Event) → loose f es → loose (changed_active s change f) es
  pub loose_apart : (f g : Field) (es : List Event) → f.one ≡ g.one → f.two ≡ g.two → loose f es → loose g es
  pub loose_noise : (e : Event) (f : Field) → Dull f e → (es : List Event) → loose f es → loose f (es ++ e ∷ [])
  pub loose_falls : (s : Side) (f : Field) (es : List Event) → BothOut f → loose f es
      → loose (changed_member s fallen f) (es ++ events.Faint (who_in s (changed_member s fallen f)) ∷ [])

-- Why the active member may fall asleep by a move of the foe, with 7 turns at most.
abbrev pub Lulls : Story → Side → Bool → Type 0
Lulls v s marked = (turns : ℕ) → turns ≤ 7 → v.lulled s turns marked

-- A story that doesn't follow what an act ends.
pub record Outline (v : Story) : Type 0 where
  pub takes : (s : Side) (used : UsedMove) (f : Field) (es : List Event) → v.exact f es → v.exact (changed_active s (with_current_move used) f) es
  pub mild : (s : Side) (change : ActiveConditions → ActiveConditions) → Mild change → (f : Field) (es : List Event)
      → v.exact f es → v.exact (changed_conditions s change f) es
  pub noise : (e : Event) (f : Field) → Noise f e → (es : List Event) → v.exact f es → v.exact f (es ++ e ∷ [])
  pub spends : (s : Side) (move : Move) → v.said s move → (used : UsedMove) (f : Field) (es : List Event) → v.exact f es → v.exact (changed_member s (with_pp_spent used) f) es
  pub acts : (s : Side) (move : Move) → v.acted s move
  pub knows : (s : Side) (move : Move) → v.said s move → v.knows s move

-- Why a member that sleeps on keeps a story true.
pub record Dozing (v : Story) : Type 0 where
  pub dozes : (s : Side) (turns : ℕ) (marked : Bool) (f : Field) (es : List Event) → BothOut f → (member_in s f).status ≡ Asleep turns marked → nat_le turns 1 ≡ false
      → v.exact f es → v.exact (changed_member s with_sleep_one_less f) (es ++ events.Cant (who_in s (changed_member s with_sleep_one_less f)) reasons.Asleep ∷ [])

-- Why a member that comes out keeps a story true.
pub record Switching (v : Story) : Type 0 where
  pub sends : (s : Side) (place : ℕ) (f : Field) (es : List Event) → 1 ≤ place → place ≤ length (party s f).members
      → v.exact f es → v.exact (sent s place f) (es ++ switch_event s place (sent s place f) ∷ [])
  pub loose_sends : (s : Side) (place : ℕ) (f : Field) (es : List Event) → 1 ≤ place → place ≤ length (party s f).members
      → v.loose f es → v.loose (sent s place f) (es ++ switch_event s place (sent s place f) ∷ [])

pub record Sized (n : Sizes) (f : Field) : Type 0 where
  pub one : length f.one.members ≡ n.one
  pub two : length f.two.members ≡ n.two

-- Both sides have a member out.
pub record Begun (n : Sizes) (f : Field) : Type 0 where
  pub both : BothOut f
  pub sized : Sized n f

-- The story is true of a battle in the middle of an update, which began after these events.
pub record Holds (v : Story) (n : Sizes) (pre : List Event) (f : Field) (es : List Event) : Type 0 where
  pub begun : Begun n f
  pub exact : v.exact f (pre ++ es)

pub record May (v : Story) (n : Sizes) (pre : List Event) (f : Field) (es : List Event) : Type 0 where
  pub begun : Begun n f
  pub loose : v.loose f (pre ++ es)

abbrev pub Now : Story → Sizes → List Event → Progress → Type 0
Now v n pre p = Holds v n pre p.field p.events

abbrev pub MayFall : Story → Sizes → List Event → Progress → Type 0
MayFall v n pre p = May v n pre p.field p.events

abbrev pub Tells : Story → Sizes → List Event → Phase → Type 0
Tells v n pre f = Leads (Now v n pre) (Now v n pre) (MayFall v n pre) f

-- Two facts at once

pub with-keeps : {P Q S : Progress → Type 0} {K : Field → Action → Stream → Type 0} {f : Phase} → Leads P Q S f → Keeps K f
    → Leads (λ p. P p × K p.field p.action p.stream) (λ p. Q p × K p.field p.action p.stream) S f
with-keeps {P} {Q} {S} {K} {f} h k = record { leads = λ p r m. both (f p) (h.leads p r m.0) (k.kept p m.1) }
  where
    both : (q : Progress) → Lands Q S q → K q.field q.action q.stream → Lands (λ p. Q p × K p.field p.action p.stream) S q
    both q (Runs r x) y = Runs r (x, y)
    both q (Rests r x) y = Rests r x

-- What stays begun

pub begun-active : {n : Sizes} (s : Side) (change : Active → Active) (f : Field) → ((a : Active) → (change a).place ≡ a.place) → Begun n f → Begun n (changed_active s change f)
unfolding changed_active
begun-active One change f h b = record { both = (keeps-active One change h).both f b.both; sized = record { one = b.sized.one; two = b.sized.two } }
begun-active Two change f h b = record { both = (keeps-active Two change h).both f b.both; sized = record { one = b.sized.one; two = b.sized.two } }

pub begun-conditions : {n : Sizes} (s : Side) (change : ActiveConditions → ActiveConditions) (f : Field) → Begun n f → Begun n (changed_conditions s change f)
unfolding changed_conditions
begun-conditions s change f b = begun-active s (λ a. record a { conditions = change a.conditions }) f (λ a. refl) b

pub begun-member : {n : Sizes} (s : Side) (change : Member → Member) (f : Field) → Begun n f → Begun n (changed_member s change f)
unfolding changed_member
begun-member One change f b = record {
  both = (keeps-member One change).both f b.both;
  sized = record { one = length-set f.one.members (f.one.active.place - 1) _ ∙ b.sized.one; two = b.sized.two };
}
begun-member Two change f b = record {
  both = (keeps-member Two change).both f b.both;
  sized = record { one = b.sized.one; two = length-set f.two.members (f.two.active.place - 1) _ ∙ b.sized.two };
}

pub sickened-begun : {n : Sizes} (s : Side) (move : Move) (f : Field) → Begun n f → Begun n (sickened s move f)
sickened-begun {n} s move f b = by (move.number == toxic)
  where
    by : (e : Bool) → Begun n (if e then changed_conditions (other s) with_bad_poison f else f)
    by true = begun-conditions (other s) with_bad_poison f b
    by false = b

-- A changed member is found in its place.
pub member-changed : (s : Side) (change : Member → Member) (f : Field) → BothOut f → member_in s (changed_member s change f) ≡ change (member_in s f)
unfolding changed_member
member-changed One change f o = let low = o.one.placed in let high = o.one.within in
    get_or-set_same f.one.members (f.one.active.place - 1) (change (member_in One f)) nobody (omega (arith, low, high))
member-changed Two change f o = let low = o.two.placed in let high = o.two.within in
    get_or-set_same f.two.members (f.two.active.place - 1) (change (member_in Two f)) nobody (omega (arith, low, high))

pub awake-after : (s : Side) (change : Member → Member) (f : Field) → BothOut f → is_asleep (change (member_in s f)).status ≡ false → IsAwake s (changed_member s change f)
awake-after s change f o e = ap (λ (m : Member). is_asleep m.status) (member-changed s change f o) ∙ e

abbrev pub place_of : Standing → ℕ
place_of x = x.place

-- Events come last

pub at_end : (K : Field → List Event → Type 0) (f : Field) (pre es : List Event) (e : Event) → K f ((pre ++ es) ++ e ∷ []) → K f (pre ++ (es ++ e ∷ []))
at_end K f pre es e h = subst (λ (l : List Event). K f l) (append_assoc pre es (e ∷ [])) h

module _ {v : Story} {n : Sizes} {pre : List Event} where
  pub holds-active : (s : Side) (change : Active → Active) → Placid change → (f : Field) (es : List Event) → Holds v n pre f es → Holds v n pre (changed_active s change f) es
  holds-active s change h f es m = record { begun = begun-active s change f (λ a. ap place_of (h a)) m.begun; exact = v.active s change h f (pre ++ es) m.exact }

  pub holds-conditions : (s : Side) (change : ActiveConditions → ActiveConditions) → Calm change → (f : Field) (es : List Event)
      → Holds v n pre f es → Holds v n pre (changed_conditions s change f) es
  holds-conditions s change h f es m = record { begun = begun-conditions s change f m.begun; exact = v.conditions s change h f (pre ++ es) m.exact }

  pub holds-member : (s : Side) (change : Member → Member) → Sparing change → Restful change → (f : Field) (es : List Event)
      → SleepsOn s change f → Holds v n pre f es → Holds v n pre (changed_member s change f) es
  holds-member s change h r f es w m = record { begun = begun-member s change f m.begun; exact = v.member s change h r f (pre ++ es) w m.exact }

  pub holds-cured : (s : Side) (change : Member → Member) (kind : Kind) → Sparing change → (f : Field) (es : List Event) → is_asleep (change (member_in s f)).status ≡ false → Holds v n pre f es
      → Holds v n pre (changed_member s change f) (es ++ events.Cure (who_in s (changed_member s change f)) kind ∷ [])
  holds-cured s change kind h f es a m =
      let g : Field = changed_member s change f in
      record {
        begun = begun-member s change f m.begun;
        exact = at_end v.exact g pre es (events.Cure (who_in s g) kind) (v.cures s change kind h f (pre ++ es) m.begun.both a m.exact);
      }

  pub holds-health : (e : Event) (f : Field) → Dull f e → (es : List Event) → Holds v n pre f es → Holds v n pre f (es ++ e ∷ [])
  holds-health e f h es m = record { begun = m.begun; exact = at_end v.exact f pre es e (v.noise e f h (pre ++ es) m.exact) }

  pub holds-noise : (e : Event) → is_still e ≡ true → (f : Field) (es : List Event) → Holds v n pre f es → Holds v n pre f (es ++ e ∷ [])
  holds-noise e h f es m = holds-health e f (still-is f e h) es m

  pub holds-slept : (s : Side) (turns : ℕ) (marked : Bool) → v.lulled s turns marked → (f : Field) (es : List Event) → Holds v n pre f es
      → Holds v n pre (slept s turns marked f) (es ++ events.Status (who_in s (slept s turns marked f)) kinds.Sleep ∷ [])
  holds-slept s turns marked k f es m =
      let g : Field = slept s turns marked f in
      record {
        begun = begun-member s (with_status (Asleep turns marked)) f m.begun;
        exact = at_end v.exact g pre es (events.Status (who_in s g) kinds.Sleep) (v.sleeps s turns marked k f (pre ++ es) m.begun.both m.exact);
      }

  pub may-active : (s : Side) (change : Active → Active) → Placid change → (f : Field) (es : List Event) → May v n pre f es → May v n pre (changed_active s change f) es
  may-active s change h f es m = record { begun = begun-active s change f (λ a. ap place_of (h a)) m.begun; loose = v.loose_active s change h f (pre ++ es) m.loose }

  pub may-noise : (e : Event) → is_still e ≡ true → (f : Field) (es : List Event) → May v n pre f es → May v n pre f (es ++ e ∷ [])
  may-noise e h f es m = record { begun = m.begun; loose = at_end v.loose f pre es e (v.loose_noise e f (still-is f e h) (pre ++ es) m.loose) }

  pub loosened : (p : Progress) → Now v n pre p → MayFall v n pre p
  loosened p m = record { begun = m.begun; loose = v.loosen p.field (pre ++ p.events) m.exact }

module _ {v : Story} {n : Sizes} {pre : List Event} {S : Progress → Type 0} where
  pub draw-tells : {Q : Progress → Type 0} {f : ℕ → Phase} → ((b : ℕ) → Leads (Now v n pre) Q S (f b)) → Leads (Now v n pre) Q S (draw f)
  unfolding draw
  draw-tells h = record { leads = λ p r m. (h (byte_at p.stream p.drawn)).leads (record p { drawn = p.drawn + 1 }) r m }

  until-lands : {f : ℕ → Phase} (p : Progress) (o : Option ℕ) → ((b : ℕ) → Leads (Now v n pre) (Now v n pre) S (f b)) → p.stopped ≡ false → Now v n pre p
      → Lands (Now v n pre) S (elim o as (λ _. Progress) [ Some m ↦ f (byte_at p.stream m) (record p { drawn = m + 1 }) | None ↦ record p { drawn = p.drawn + span p.stream } ])
  until-lands p None h r m = Runs r m
  until-lands p (Some n) h r m = (h (byte_at p.stream n)).leads (record p { drawn = n + 1 }) r m

  pub until-tells : (test : ℕ → Bool) {f : ℕ → Phase} → ((b : ℕ) → Leads (Now v n pre) (Now v n pre) S (f b)) → Leads (Now v n pre) (Now v n pre) S (draw_until test f)
  unfolding draw_until
  until-tells test h = record { leads = λ p r m. until-lands p (first p.stream p.drawn test) h r m }

  pub action-tells : (change : Action → Action) → Leads (Now v n pre) (Now v n pre) S (on_action change)
  unfolding on_action
  action-tells change = record { leads = λ p r m. Runs r m }

  pub field-tells : (change : Field → Field) → ((f : Field) (es : List Event) → Holds v n pre f es → Holds v n pre (change f) es)
      → Leads (Now v n pre) (Now v n pre) S (on_field change)
  unfolding on_field
  field-tells change h = record { leads = λ p r m. Runs r (h p.field p.events m) }

  -- A change and its event together.
  pub told-tells : (change : Field → Field) (event : Field → Event)
      → ((f : Field) (es : List Event) → Holds v n pre f es → Holds v n pre (change f) (es ++ event (change f) ∷ []))
      → Leads (Now v n pre) (Now v n pre) S (told change event)
  unfolding told
  told-tells change event h = record { leads = λ p r m. Runs r (h p.field p.events m) }

  -- An event that a story doesn't follow.
  pub told-noise : (change : Field → Field) (event : Field → Event) → ((f : Field) (es : List Event) → Holds v n pre f es → Holds v n pre (change f) es)
      → ((f : Field) → is_still (event f) ≡ true) → Leads (Now v n pre) (Now v n pre) S (told change event)
  told-noise change event h k = told-tells change event (λ f es m. holds-noise (event (change f)) (k (change f)) (change f) es (h f es m))

  pub note-tells : (event : Field → Event) → ((f : Field) → is_still (event f) ≡ true) → Leads (Now v n pre) (Now v n pre) S (note event)
  unfolding note
  note-tells event h = record { leads = λ p r m. Runs r (holds-noise (event p.field) (h p.field) p.field p.events m) }

  pub active-tells : (s : Side) (change : Active → Active) → Placid change → Leads (Now v n pre) (Now v n pre) S (on_active s change)
  unfolding on_active
  active-tells s change h = field-tells _ (holds-active s change h)

  pub conditions-tells : (s : Side) (change : ActiveConditions → ActiveConditions) → Calm change → Leads (Now v n pre) (Now v n pre) S (on_conditions s change)
  unfolding on_conditions
  conditions-tells s change h = field-tells _ (holds-conditions s change h)

  pub member-tells : {P : Progress → Type 0} (s : Side) (change : Member → Member) → Sparing change → Restful change
      → ((p : Progress) → P p → Now v n pre p × SleepsOn s change p.field) → Leads P (Now v n pre) S (on_member s change)
  unfolding on_member on_field
  member-tells s change h r w = record { leads = λ p i m. Runs i (holds-member s change h r p.field p.events (w p m).1 (w p m).0) }

  pub damage-tells : (damage : ℕ) → Leads (Now v n pre) (Now v n pre) S (set_last_damage damage)
  unfolding set_last_damage with_last_damage
  damage-tells damage = field-tells (with_last_damage damage) (λ f es m. record {
    begun = record { both = record { one = m.begun.both.one; two = m.begun.both.two }; sized = record { one = m.begun.sized.one; two = m.begun.sized.two } };
    exact = v.apart f (with_last_damage damage f) (pre ++ es) refl refl m.exact;
  })

  pub starts-tells : (s : Side) (what : Volatile) (change : ActiveConditions → ActiveConditions) → Starts what change
      → Leads (Now v n pre) (Now v n pre) S (starts s what change)
  unfolding starts
  starts-tells s what change h = told-tells (changed_conditions s change) (λ f. events.Start (who_in s f) what) (λ f es m. record {
    begun = begun-conditions s change f m.begun;
    exact = at_end v.exact (changed_conditions s change f) pre es (events.Start (who_in s (changed_conditions s change f)) what)
        (v.starts s what change h f (pre ++ es) m.begun.both m.exact);
  })

  pub stores-tells : (s : Side) (move : Move) → v.knows s move → bides move.effect ≡ true → (turns : ℕ)
      → Leads (Now v n pre) (Now v n pre) S (starts s volatiles.Bide (with_bide turns))
  unfolding starts
  stores-tells s move k e turns = told-tells (changed_conditions s (with_bide turns)) (λ f. events.Start (who_in s f) volatiles.Bide) (λ f es m. record {
    begun = begun-conditions s (with_bide turns) f m.begun;
    exact = at_end v.exact (changed_conditions s (with_bide turns) f) pre es (events.Start (who_in s (changed_conditions s (with_bide turns) f)) volatiles.Bide)
        (v.stores s move k e turns f (pre ++ es) m.begun.both m.exact);
  })

  pub ends-tells : (s : Side) (what : Volatile) (change : ActiveConditions → ActiveConditions) → Marks what false change
      → Leads (Now v n pre) (Now v n pre) S (ends s what change)
  unfolding ends
  ends-tells s what change h = told-tells (changed_conditions s change) (λ f. events.End (who_in s f) what) (λ f es m. record {
    begun = begun-conditions s change f m.begun;
    exact = at_end v.exact (changed_conditions s change f) pre es (events.End (who_in s (changed_conditions s change f)) what)
        (v.ends s what change h f (pre ++ es) m.begun.both m.exact);
  })

  pub lasts-tells : (s : Side) (what : Volatile) → ((w : Who) → is_still (events.Activate w what) ≡ true) → (change : ActiveConditions → ActiveConditions) → Calm change
      → Leads (Now v n pre) (Now v n pre) S (lasts s what change)
  unfolding lasts
  lasts-tells s what still change h = told-noise (changed_conditions s change) (λ f. events.Activate (who_in s f) what) (holds-conditions s change h) (λ f. still (who_in s f))

  pub lose-tells : (s : Side) (source : DamageSource) → is_telling source ≡ false → (amount : ℕ) → Leads (Now v n pre) (Now v n pre) S (lose_hp s source amount)
  unfolding lose_hp hurt_by
  lose-tells s source e amount = choose-tells _
      (told-tells (changed_member s (hurt_by amount)) (λ f. events.Damage (who_in s f) (health_in s f) source)
      (λ f es m. holds-health _ (changed_member s (hurt_by amount) f) (refl, e) es (holds-member s (hurt_by amount) (λ m. refl) (λ m e. refl) f es (λ e. e) m))) stay-tells

  pub gain-tells : (s : Side) (amount : ℕ) → Leads (Now v n pre) (Now v n pre) S (gain_hp s amount)
  unfolding gain_hp healed_by
  gain-tells s amount = choose-tells _
      (told-tells (changed_member s (healed_by amount)) (λ f. events.Heal (who_in s f) (health_in s f))
      (λ f es m. holds-health _ (changed_member s (healed_by amount) f) refl es (holds-member s (healed_by amount) (λ m. refl) (λ m e. refl) f es (λ e. e) m))) stay-tells

  pub inflict-tells : (s : Side) (status : Status) (kind : Kind) → is_asleep status ≡ false → (is_poison kind ≡ false) × (is_sleep kind ≡ false)
      → Leads (λ p. Now v n pre p × IsAwake s p.field) (Now v n pre) S (inflict s status kind)
  unfolding inflict with_status
  inflict-tells s status kind a e = member-tells s (with_status status) (λ m. refl) (restful-status status a) (λ p m. (m.0, λ h. absurd (true≢false (sym h ∙ m.1))))
      ⊳ told-tells (changed_active s (with_penalty_of status)) (λ f. events.Status (who_in s f) kind)
      (λ f es m. holds-health (events.Status _ kind) (changed_active s (with_penalty_of status) f) e es (holds-active s (with_penalty_of status) (penalty-placid status) f es m))

  pub slept-told : (s : Side) (turns : ℕ) (marked : Bool) → v.lulled s turns marked
      → Leads (Now v n pre) (Now v n pre) S (told (changed_member s (with_status (Asleep turns marked))) (λ f. events.Status (who_in s f) kinds.Sleep))
  slept-told s turns marked k = told-tells (changed_member s (with_status (Asleep turns marked))) (λ f. events.Status (who_in s f) kinds.Sleep) (holds-slept s turns marked k)

  -- Poison by a move, before Toxic's is bad.
  pub poison-told : (s : Side) (move : Move) → v.acted s move
      → Leads (λ p. Now v n pre p × IsAwake (other s) p.field) (λ p. Holds v n pre (sickened s move p.field) p.events) S (inflict (other s) Poisoned kinds.Poison)
  unfolding inflict told with_status
  poison-told s move a = member-tells (other s) (with_status Poisoned) (λ m. refl) (restful-status Poisoned refl) (λ p m. (m.0, λ h. absurd (true≢false (sym h ∙ m.1)))) ⊳ record {
    leads = λ p r m.
        let change : Active → Active = with_penalty_of Poisoned in
        let f : Field = changed_active (other s) change p.field in
        let h : Holds v n pre f p.events = holds-active (other s) change (penalty-placid Poisoned) p.field p.events m in
        Runs r (record {
          begun = sickened-begun s move f h.begun;
          exact = at_end v.exact (sickened s move f) pre p.events (events.Status (who_in (other s) f) kinds.Poison)
              (v.poisons s move a f (pre ++ p.events) h.begun.both h.exact);
        });
  }

  pub cure-tells : (s : Side) (kind : Kind) → Leads (Now v n pre) (Now v n pre) S (cure s kind)
  unfolding cure with_status
  cure-tells s kind = told-tells (changed_member s (with_status Healthy)) (λ f. events.Cure (who_in s f) kind) (λ f es m. holds-cured s (with_status Healthy) kind (λ m. refl) f es refl m)

  pub fault-step : (k : ℕ) → Leads (Now v n pre) (Now v n pre) S (on_field (with_outcome (outcomes.Fault k)))
  unfolding with_outcome
  fault-step k = field-tells (with_outcome (outcomes.Fault k)) (λ f es m. record {
    begun = record { both = record { one = m.begun.both.one; two = m.begun.both.two }; sized = record { one = m.begun.sized.one; two = m.begun.sized.two } };
    exact = v.apart f (with_outcome (outcomes.Fault k) f) (pre ++ es) refl refl m.exact;
  })

module _ {v : Story} {n : Sizes} {pre : List Event} where
  pub stop-tells : Tells v n pre stop
  stop-tells = stop-leads loosened

  pub fault-tells : (k : ℕ) → Tells v n pre (fault k)
  unfolding fault
  fault-tells k = fault-step k ⊳ stop-tells

-- What outlines don't follow

module _ {v : Story} {n : Sizes} {pre : List Event} (o : Outline v) where
  holds-mild : (s : Side) (change : ActiveConditions → ActiveConditions) → Mild change → (f : Field) (es : List Event)
      → Holds v n pre f es → Holds v n pre (changed_conditions s change f) es
  holds-mild s change h f es m = record { begun = begun-conditions s change f m.begun; exact = o.mild s change h f (pre ++ es) m.exact }

  holds-any : (e : Event) (f : Field) → Noise f e → (es : List Event) → Holds v n pre f es → Holds v n pre f (es ++ e ∷ [])
  holds-any e f h es m = record { begun = m.begun; exact = at_end v.exact f pre es e (o.noise e f h (pre ++ es) m.exact) }

  pub mild-tells : {S : Progress → Type 0} (s : Side) (change : ActiveConditions → ActiveConditions) → Mild change → Leads (Now v n pre) (Now v n pre) S (on_conditions s change)
  unfolding on_conditions
  mild-tells s change h = field-tells _ (holds-mild s change h)

  pub takes-tells : {S : Progress → Type 0} (s : Side) (used : UsedMove) → Leads (Now v n pre) (Now v n pre) S (on_active s (with_current_move used))
  unfolding on_active with_current_move
  takes-tells s used = field-tells _ (λ f es m. record {
    begun = begun-active s (with_current_move used) f (λ a. refl) m.begun;
    exact = o.takes s used f (pre ++ es) m.exact;
  })

  pub pays-tells : {S : Progress → Type 0} (s : Side) (move : Move) → v.said s move → (used : UsedMove) → Leads (Now v n pre) (Now v n pre) S (on_member s (with_pp_spent used))
  unfolding on_member
  pays-tells s move k used = field-tells _ (λ f es m. record { begun = begun-member s (with_pp_spent used) f m.begun; exact = o.spends s move k used f (pre ++ es) m.exact })

  pub any-note : {S : Progress → Type 0} (event : Field → Event) → ((f : Field) → Noise f (event f)) → Leads (Now v n pre) (Now v n pre) S (note event)
  unfolding note
  any-note event h = record { leads = λ p r m. Runs r (holds-any (event p.field) p.field (h p.field) p.events m) }

  pub any-lasts : {S : Progress → Type 0} (s : Side) (what : Volatile) (change : ActiveConditions → ActiveConditions) → Mild change
      → Leads (Now v n pre) (Now v n pre) S (lasts s what change)
  unfolding lasts
  any-lasts s what change h = told-tells (changed_conditions s change) (λ f. events.Activate (who_in s f) what)
      (λ f es m. holds-any _ (changed_conditions s change f) refl es (holds-mild s change h f es m))

  pub any-loses : {S : Progress → Type 0} (s : Side) (source : DamageSource) (amount : ℕ) → Leads (Now v n pre) (Now v n pre) S (lose_hp s source amount)
  unfolding lose_hp hurt_by
  any-loses s source amount = choose-tells _
      (told-tells (changed_member s (hurt_by amount)) (λ f. events.Damage (who_in s f) (health_in s f) source)
      (λ f es m. holds-any _ (changed_member s (hurt_by amount) f) refl es (holds-member s (hurt_by amount) (λ m. refl) (λ m e. refl) f es (λ e. e) m))) stay-tells
