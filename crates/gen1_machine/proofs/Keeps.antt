-- What a phase keeps, and where it leads: rules for the ways to combine phases, over any fact of the field, the action
-- and the stream.
use Rattle.std.proofs.Common.{Bool, None, Option, Some, false, true, ℕ, ◌+◌, ap, ◌≡◌}
use Rattle.gen1_machine.specs.declared.event.Event.{Event}
use Rattle.gen1_machine.specs.declared.event.Volatile.{Volatile}
use Rattle.gen1_machine.specs.declared.side.Side.{Side}
use Rattle.gen1_rolls.specs.Streams.{byte_at, first, span, Stream}
use Rattle.gen1_stats.specs.Members.{Member}
use Rattle.gen1_machine.specs.Conditions.{ActiveConditions}
use Rattle.gen1_machine.specs.State.{changed_active, changed_conditions, changed_member, with_last_damage, Active, Field}
use Rattle.gen1_machine.specs.Progress.{choose, draw, draw_until, ends, given, lasts, note, on_action, on_active, on_conditions, on_field, on_member, set_last_damage, set_missed, starts, stay, stop, told, unless_stopped, ◌▸◌, Action, Phase, Progress, when}
use Rattle.gen1_machine.specs.Ruling.{Ruling}

pub record Keeps (P : Field → Action → Stream → Type 0) (f : Phase) : Type 0 where
  pub kept : (p : Progress) → P p.field p.action p.stream → P (f p).field (f p).action (f p).stream

-- A change of the field that keeps a fact.
pub record Spares (P : Field → Action → Stream → Type 0) (change : Field → Field) : Type 0 where
  pub spared : (f : Field) (a : Action) (w : Stream) → P f a w → P (change f) a w

-- A change of what is known of the action that keeps a fact.
pub record SparesAction (P : Field → Action → Stream → Type 0) (change : Action → Action) : Type 0 where
  pub spared : (f : Field) (a : Action) (w : Stream) → P f a w → P f (change a) w

-- What falling asleep and freezing keep.
pub record KeepsRuling (P : Field → Action → Stream → Type 0) (r : Ruling) : Type 0 where
  pub sleeps : (user : Side) → Keeps P (r.sleeps user)
  pub freezes : (user : Side) → Keeps P (r.freezes user)

module _ {P : Field → Action → Stream → Type 0} where
  pub stay-keeps : Keeps P stay
  unfolding stay
  stay-keeps = record { kept = λ p h. h }

  pub stop-keeps : Keeps P stop
  unfolding stop
  stop-keeps = record { kept = λ p h. h }

  pub unless_stopped-keeps : {f : Phase} → Keeps P f → Keeps P (unless_stopped f)
  unfolding unless_stopped
  unless_stopped-keeps {f} k = record {
    kept = λ p h. elim p.stopped as (λ t. P (elim t as (λ _. Progress) [ true ↦ p | false ↦ f p ]).field (elim t as (λ _. Progress) [ true ↦ p | false ↦ f p ]).action (elim t as (λ _. Progress) [ true ↦ p | false ↦ f p ]).stream) [ true ↦ h | false ↦ k.kept p h ];
  }

  pub then-keeps : {f g : Phase} → Keeps P f → Keeps P g → Keeps P (f ▸ g)
  unfolding ◌▸◌
  then-keeps {f} {g} k l = record { kept = λ p h. (unless_stopped-keeps l).kept (f p) (k.kept p h) }

  pub choose-keeps : (test : Progress → Bool) {f g : Phase} → Keeps P f → Keeps P g → Keeps P (choose test f g)
  unfolding choose
  choose-keeps test {f} {g} k l = record {
    kept = λ p h. elim (test p) as (λ t. P (elim t as (λ _. Progress) [ true ↦ f p | false ↦ g p ]).field (elim t as (λ _. Progress) [ true ↦ f p | false ↦ g p ]).action (elim t as (λ _. Progress) [ true ↦ f p | false ↦ g p ]).stream) [ true ↦ k.kept p h | false ↦ l.kept p h ];
  }

  pub given-keeps : {A : Type 0} (read : Progress → A) {f : A → Phase} → ((x : A) → Keeps P (f x)) → Keeps P (given read f)
  unfolding given
  given-keeps read k = record { kept = λ p h. (k (read p)).kept p h }

  pub draw-keeps : {f : ℕ → Phase} → ((b : ℕ) → Keeps P (f b)) → Keeps P (draw f)
  unfolding draw
  draw-keeps k = record { kept = λ p h. (k (byte_at p.stream p.drawn)).kept (record p { drawn = p.drawn + 1 }) h }

  pub draw_until-keeps : (test : ℕ → Bool) {f : ℕ → Phase} → ((b : ℕ) → Keeps P (f b)) → Keeps P (draw_until test f)
  unfolding draw_until
  draw_until-keeps test {f} k = record { kept = λ p h. by p (first p.stream p.drawn test) h }
    where
      by : (p : Progress) (o : Option ℕ) → P p.field p.action p.stream → let q : Progress = elim o as (λ _. Progress) [
        | Some m ↦ f (byte_at p.stream m) (record p { drawn = m + 1 })
        | None ↦ record p { drawn = p.drawn + span p.stream }
      ] in P q.field q.action q.stream
      by p (Some m) h = (k (byte_at p.stream m)).kept (record p { drawn = m + 1 }) h
      by p None h = h

  pub note-keeps : (event : Field → Event) → Keeps P (note event)
  unfolding note
  note-keeps event = record { kept = λ p h. h }

  pub on_action-keeps : {change : Action → Action} → SparesAction P change → Keeps P (on_action change)
  unfolding on_action
  on_action-keeps k = record { kept = λ p h. k.spared p.field p.action p.stream h }

  pub set_missed-keeps : (missed : Bool) → SparesAction P (λ a. record a { missed = missed }) → Keeps P (set_missed missed)
  unfolding set_missed
  set_missed-keeps missed k = on_action-keeps k

  -- Changes

  pub on_field-keeps : {change : Field → Field} → Spares P change → Keeps P (on_field change)
  unfolding on_field
  on_field-keeps k = record { kept = λ p h. k.spared p.field p.action p.stream h }

  pub told-keeps : {change : Field → Field} (event : Field → Event) → Spares P change → Keeps P (told change event)
  unfolding told
  told-keeps event k = record { kept = λ p h. k.spared p.field p.action p.stream h }

  pub on_active-keeps : (s : Side) (change : Active → Active) → Spares P (changed_active s change) → Keeps P (on_active s change)
  unfolding on_active
  on_active-keeps s change k = on_field-keeps k

  pub on_conditions-keeps : (s : Side) (change : ActiveConditions → ActiveConditions) → Spares P (changed_conditions s change) → Keeps P (on_conditions s change)
  unfolding on_conditions
  on_conditions-keeps s change k = on_field-keeps k

  pub on_member-keeps : (s : Side) (change : Member → Member) → Spares P (changed_member s change) → Keeps P (on_member s change)
  unfolding on_member
  on_member-keeps s change k = on_field-keeps k

  pub set_last_damage-keeps : (damage : ℕ) → Spares P (with_last_damage damage) → Keeps P (set_last_damage damage)
  unfolding set_last_damage
  set_last_damage-keeps damage k = on_field-keeps k

  pub starts-keeps : (s : Side) (what : Volatile) (change : ActiveConditions → ActiveConditions) → Spares P (changed_conditions s change) → Keeps P (starts s what change)
  unfolding starts
  starts-keeps s what change k = told-keeps _ k

  pub lasts-keeps : (s : Side) (what : Volatile) (change : ActiveConditions → ActiveConditions) → Spares P (changed_conditions s change) → Keeps P (lasts s what change)
  unfolding lasts
  lasts-keeps s what change k = told-keeps _ k

  pub ends-keeps : (s : Side) (what : Volatile) (change : ActiveConditions → ActiveConditions) → Spares P (changed_conditions s change) → Keeps P (ends s what change)
  unfolding ends
  ends-keeps s what change k = told-keeps _ k

pub ruleset keeps_rules = (stay-keeps, stop-keeps, then-keeps, choose-keeps, given-keeps, draw-keeps, draw_until-keeps, note-keeps, on_action-keeps, set_missed-keeps, on_field-keeps, told-keeps, on_active-keeps, on_conditions-keeps, on_member-keeps, set_last_damage-keeps, starts-keeps, lasts-keeps, ends-keeps)

-- Phases that lead from one fact of the field to another, and phases that never stop.

pub record Leads (P Q : Field → Action → Stream → Type 0) (f : Phase) : Type 0 where
  pub led : (p : Progress) → P p.field p.action p.stream → Q (f p).field (f p).action (f p).stream

pub keeps-leads : {P : Field → Action → Stream → Type 0} {f : Phase} → Keeps P f → Leads P P f
keeps-leads k = record { led = λ p h. k.kept p h }

pub leads-weaker : {P Q R : Field → Action → Stream → Type 0} {f : Phase} → Leads P Q f → ((x : Field) (a : Action) (w : Stream) → Q x a w → R x a w) → Leads P R f
leads-weaker k w = record { led = λ p h. w _ _ _ (k.led p h) }

-- The second phase may be skipped.
pub then-leads : {P Q R : Field → Action → Stream → Type 0} {f g : Phase} → Leads P Q f → Leads Q R g → ((x : Field) (a : Action) (w : Stream) → Q x a w → R x a w) → Leads P R (f ▸ g)
unfolding ◌▸◌ unless_stopped
then-leads {P} {Q} {R} {f} {g} k l w = record {
  led = λ p h. elim (f p).stopped as (λ t. R (elim t as (λ _. Progress) [ true ↦ f p | false ↦ g (f p) ]).field (elim t as (λ _. Progress) [ true ↦ f p | false ↦ g (f p) ]).action (elim t as (λ _. Progress) [ true ↦ f p | false ↦ g (f p) ]).stream) [
    | true ↦ w (f p).field (f p).action (f p).stream (k.led p h)
    | false ↦ l.led (f p) (k.led p h)
  ];
}

pub choose-leads : {P Q : Field → Action → Stream → Type 0} (test : Progress → Bool) {f g : Phase} → Leads P Q f → Leads P Q g → Leads P Q (choose test f g)
unfolding choose
choose-leads {P} {Q} test {f} {g} k l = record {
  led = λ p h. elim (test p) as (λ t. Q (elim t as (λ _. Progress) [ true ↦ f p | false ↦ g p ]).field (elim t as (λ _. Progress) [ true ↦ f p | false ↦ g p ]).action (elim t as (λ _. Progress) [ true ↦ f p | false ↦ g p ]).stream) [ true ↦ k.led p h | false ↦ l.led p h ];
}

pub given-leads : {P Q : Field → Action → Stream → Type 0} {A : Type 0} (read : Progress → A) {f : A → Phase} → ((x : A) → Leads P Q (f x)) → Leads P Q (given read f)
unfolding given
given-leads read k = record { led = λ p h. (k (read p)).led p h }

pub stay-leads : {P Q : Field → Action → Stream → Type 0} → ((x : Field) (a : Action) (w : Stream) → P x a w → Q x a w) → Leads P Q stay
unfolding stay
stay-leads w = record { led = λ p h. w p.field p.action p.stream h }

-- How phases run if the result of a test is known, or whether one stopped

pub choose-true : (test : Progress → Bool) (f g : Phase) (p : Progress) → test p ≡ true → choose test f g p ≡ f p
unfolding choose
choose-true test f g p e = ap (λ (b : Bool). elim b as (λ _. Progress) [ true ↦ f p | false ↦ g p ]) e

pub choose-false : (test : Progress → Bool) (f g : Phase) (p : Progress) → test p ≡ false → choose test f g p ≡ g p
unfolding choose
choose-false test f g p e = ap (λ (b : Bool). elim b as (λ _. Progress) [ true ↦ f p | false ↦ g p ]) e

pub then-goes : (f g : Phase) (p : Progress) → (f p).stopped ≡ false → (f ▸ g) p ≡ g (f p)
unfolding ◌▸◌ unless_stopped
then-goes f g p e = ap (λ (b : Bool). elim b as (λ _. Progress) [ true ↦ f p | false ↦ g (f p) ]) e

pub then-stops : (f g : Phase) (p : Progress) → (f p).stopped ≡ true → (f ▸ g) p ≡ f p
unfolding ◌▸◌ unless_stopped
then-stops f g p e = ap (λ (b : Bool). elim b as (λ _. Progress) [ true ↦ f p | false ↦ g (f p) ]) e

pub when-false : (test : Progress → Bool) (f : Phase) (p : Progress) → test p ≡ false → when test f p ≡ p
unfolding stay
when-false test f p e = choose-false test f stay p e

-- Phases that never stop

pub record Goes (f : Phase) : Type 0 where
  pub goes : (p : Progress) → p.stopped ≡ false → (f p).stopped ≡ false

pub stay-goes : Goes stay
unfolding stay
stay-goes = record { goes = λ p h. h }

pub told-goes : (change : Field → Field) (event : Field → Event) → Goes (told change event)
unfolding told
told-goes change event = record { goes = λ p h. h }

pub both-go : {f g : Phase} → Goes f → Goes g → Goes (f ▸ g)
both-go {f} {g} k l = record { goes = λ p h. rw (then-goes f g p (k.goes p h)) (l.goes (f p) (k.goes p h)) }

pub choose-goes : (test : Progress → Bool) {f g : Phase} → Goes f → Goes g → Goes (choose test f g)
unfolding choose
choose-goes test {f} {g} k l = record {
  goes = λ p h. elim (test p) as (λ t. (elim t as (λ _. Progress) [ true ↦ f p | false ↦ g p ]).stopped ≡ false) [ true ↦ k.goes p h | false ↦ l.goes p h ];
}

pub given-goes : {A : Type 0} (read : Progress → A) {f : A → Phase} → ((x : A) → Goes (f x)) → Goes (given read f)
unfolding given
given-goes read k = record { goes = λ p h. (k (read p)).goes p h }
