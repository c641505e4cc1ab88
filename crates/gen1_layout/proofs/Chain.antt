-- How shown facts pass through phases. Each lemma takes a shown fact and gives a shown fact. Phases are explicit
-- arguments, and `_` is mostly enough for them.
use Rattle.std.proofs.Common.{Bool, List, [], ap, false, refl, subst, sym, true, ℕ, ◌++◌, ◌+◌, ◌≡◌, ◌∙◌, ◌∷◌}
use Rattle.gen1_rolls.specs.Draws.{Drawing, IsNext, Source, StandsIn, Ref, Since}
use Rattle.gen1_rolls.specs.Streams.{Stream, byte_at}
use Rattle.gen1_rolls.proofs.Standing.{stands_there}
use Rattle.gen1_stats.specs.Members.{Member}
use Rattle.gen1_machine.specs.declared.side.Side.{Side}
use Rattle.gen1_machine.specs.declared.event.Event.{Event}
use Rattle.gen1_machine.specs.Conditions.{ActiveConditions}
use Rattle.gen1_machine.specs.State.{changed_active, changed_conditions, changed_member, with_last_damage, Active, Field}
use Rattle.gen1_machine.specs.Progress.{Action, Phase, Progress, choose, draw, given, note, on_action, on_active, on_conditions, on_field, on_member, set_last_damage, stay, stop, told, unless_stopped, when, ◌▸◌}
use Rattle.gen1_layout.specs.Parts.{Parts}
use Rattle.gen1_layout.specs.Shows.{Within, Frame, Shows, ShowsDrawn, Telling, Told}
use Rattle.gen1_machine.specs.Ruling.{Ruling, ruling_of}
use Rattle.gen1_layout.specs.Operations.{Does, DoesWhere, Draws, DrawsWhere, Premise, learns, quiet, scene}

-- Phases, by their results

pub then-goes : (f k : Phase) (p : Progress) → (f p).stopped ≡ false → (f ▸ k) p ≡ k (f p)
unfolding ◌▸◌ unless_stopped
then-goes f k p e = ap (λ (b : Bool). elim b as (λ _. Progress) [ true ↦ f p | false ↦ k (f p) ]) e

pub then-stops : (f k : Phase) (p : Progress) → (f p).stopped ≡ true → (f ▸ k) p ≡ f p
unfolding ◌▸◌ unless_stopped
then-stops f k p e = ap (λ (b : Bool). elim b as (λ _. Progress) [ true ↦ f p | false ↦ k (f p) ]) e

pub choose-true : (test : Progress → Bool) (f k : Phase) (p : Progress) → test p ≡ true → choose test f k p ≡ f p
unfolding choose
choose-true test f k p e = ap (λ (b : Bool). elim b as (λ _. Progress) [ true ↦ f p | false ↦ k p ]) e

pub choose-false : (test : Progress → Bool) (f k : Phase) (p : Progress) → test p ≡ false → choose test f k p ≡ k p
unfolding choose
choose-false test f k p e = ap (λ (b : Bool). elim b as (λ _. Progress) [ true ↦ f p | false ↦ k p ]) e

-- One phase, then the next

module _ {g g' : Frame} {parts parts' : Parts} {events events' : Telling} {b : Bool} {p : Progress} where
  pub goes : (f k : Phase) → Shows g parts events false (f p) → Shows g' parts' events' b (k (f p)) → Shows g' parts' events' b ((f ▸ k) p)
  goes f k a h = rw (then-goes f k p a.ends) h

module _ {g : Frame} {parts : Parts} {events : Telling} {p : Progress} where
  pub stops : (f k : Phase) → Shows g parts events true (f p) → Shows g parts events true ((f ▸ k) p)
  stops f k a = rw (then-stops f k p a.ends) a

module _ {g : Frame} {parts : Parts} {events : Telling} {b : Bool} {p : Progress} where
  pub if_so : (test : Progress → Bool) (f k : Phase) → test p ≡ true → Shows g parts events b (f p) → Shows g parts events b (choose test f k p)
  if_so test f k e h = rw (choose-true test f k p e) h

  pub if_not : (test : Progress → Bool) (f k : Phase) → test p ≡ false → Shows g parts events b (k p) → Shows g parts events b (choose test f k p)
  if_not test f k e h = rw (choose-false test f k p e) h

  pub stays : Shows g parts events b p → Shows g parts events b (stay p)
  unfolding stay
  stays h = h

  pub seeing : {A : Type 0} {a : A} (read : Progress → A) (f : A → Phase) → a ≡ read p → Shows g parts events b (f a p) → Shows g parts events b (given read f p)
  unfolding given
  seeing read f e h = rw (← e) h

  pub halted : Shows g parts events b p → Shows g parts events true (stop p)
  unfolding stop
  halted h = record { within = h.within; written = h.written; ends = refl; stream = h.stream; drawn = h.drawn; skips = h.skips; action = h.action }

  pub settled : {b' : Bool} → b ≡ b' → Shows g parts events b p → Shows g parts events b' p
  settled e h = record { within = h.within; written = h.written; ends = h.ends ∙ e; stream = h.stream; drawn = h.drawn; skips = h.skips; action = h.action }

  pub acted : (f : Action → Action) → Shows g parts events b p → Shows (record g { action = f g.action }) parts events b (on_action f p)
  unfolding on_action
  acted f h = record { within = h.within; written = h.written; ends = h.ends; stream = h.stream; drawn = h.drawn; skips = h.skips; action = ap f h.action }

-- What code showed that writes no event, for any reader of the events so far

module _ {g : Frame} {parts : Parts} {events : Telling} {b : Bool} {p : Progress} (h : Shows g parts events b p) where
  pub as_list : Shows g parts (Told p.events) b p
  as_list = record { within = h.within; written = refl; ends = h.ends; stream = h.stream; drawn = h.drawn; skips = h.skips; action = h.action }

  pub from_list : {g' : Frame} {parts' : Parts} {b' : Bool} {q : Progress} → Shows g' parts' (Told p.events) b' q → Shows g' parts' events b' q
  from_list a = record { within = a.within; written = subst events a.written h.written; ends = a.ends; stream = a.stream; drawn = a.drawn; skips = a.skips; action = a.action }

  pub quietly : {g' : Frame} {parts' : Parts} {b' : Bool} {q : Progress} → (Shows g parts (Told p.events) b p → Shows g' parts' (Told p.events) b' q) → Shows g' parts' events b' q
  quietly f = from_list (f as_list)

-- A part that changes nothing, and a test that fails

module _ {g g' : Frame} {parts parts' : Parts} {events events' : Telling} {b : Bool} {p : Progress} where
  pub passing : (f k : Phase) → f p ≡ p → Shows g parts events false p → Shows g' parts' events' b (k p) → Shows g' parts' events' b ((f ▸ k) p)
  passing f k e h a = rw (then-goes f k p (ap (λ (q : Progress). q.stopped) e ∙ h.ends) ∙ ap k e) a

  pub past : (test : Progress → Bool) (f k : Phase) → test p ≡ false → Shows g parts events false p → Shows g' parts' events' b (k p) → Shows g' parts' events' b ((when test f ▸ k) p)
  unfolding stay
  past test f k e h a = passing (when test f) k (choose-false test f stay p e) h a

-- Writes and events

-- One more event was written.
abbrev pub Tells : Telling → Telling → Event → Type 0
Tells events events' e = (all : List Event) → events all → events' (all ++ e ∷ [])

told_then : {events : Telling} (events' : Telling) {all : List Event} {e e' : Event} → Tells events events' e → events all → e ≡ e' → events' (all ++ e' ∷ [])
told_then events' {all = all} a h k = subst (λ (x : Event). events' (all ++ x ∷ [])) k (a all h)

module _ {g : Frame} {parts : Parts} {events : Telling} {b : Bool} {p : Progress} (h : Shows g parts events b p) where
  pub put : {parts' : Parts} (f : Field → Field) → Within g.setting parts' (f p.field) → Shows g parts' events b (on_field f p)
  unfolding on_field
  put f w = record { within = w; written = h.written; ends = h.ends; stream = h.stream; drawn = h.drawn; skips = h.skips; action = h.action }

  pub noted : {events' : Telling} (event : Field → Event) {e : Event} → Tells events events' e → e ≡ event p.field → Shows g parts events' b (note event p)
  unfolding note
  noted {events' = events'} event a k = record { within = h.within; written = told_then events' a h.written k; ends = h.ends; stream = h.stream; drawn = h.drawn; skips = h.skips; action = h.action }

  -- A change, and the event that reports it.
  pub told_so : {parts' : Parts} {events' : Telling} (f : Field → Field) (event : Field → Event) {e : Event} → Within g.setting parts' (f p.field)
      → Tells events events' e → e ≡ event (f p.field) → Shows g parts' events' b (told f event p)
  unfolding told
  told_so {events' = events'} f event w a k = record { within = w; written = told_then events' a h.written k; ends = h.ends; stream = h.stream; drawn = h.drawn; skips = h.skips; action = h.action }

  pub put_on_member : {parts' : Parts} (s : Side) (f : Member → Member) → Within g.setting parts' (changed_member s f p.field) → Shows g parts' events b (on_member s f p)
  unfolding on_member
  put_on_member s f w = put (changed_member s f) w

  pub put_on_active : {parts' : Parts} (s : Side) (f : Active → Active) → Within g.setting parts' (changed_active s f p.field) → Shows g parts' events b (on_active s f p)
  unfolding on_active
  put_on_active s f w = put (changed_active s f) w

  pub put_on_conditions : {parts' : Parts} (s : Side) (f : ActiveConditions → ActiveConditions) → Within g.setting parts' (changed_conditions s f p.field) → Shows g parts' events b (on_conditions s f p)
  unfolding on_conditions
  put_on_conditions s f w = put (changed_conditions s f) w

  pub put_damage : {parts' : Parts} (damage : ℕ) → Within g.setting parts' (with_last_damage damage p.field) → Shows g parts' events b (set_last_damage damage p)
  unfolding set_last_damage
  put_damage damage w = put (with_last_damage damage) w

-- With a generator

module _ {A : Type 0} {d : Drawing A} {source : Source A} where
  -- What code without draws showed, for a generator that hasn't moved.
  pub still : {g g' : Frame} {parts parts' : Parts} {events events' : Telling} {now : A} {b b' : Bool} {p q : Progress}
      → ShowsDrawn d source g parts events now b p → Shows (record g' { stream = source.stream; drawn = p.drawn }) parts' events' b' q
      → ShowsDrawn d source g' parts' events' now b' q
  still a h = record {
    shows = record { within = h.within; written = h.written; ends = h.ends; stream = h.stream; drawn = refl; skips = h.skips; action = h.action };
    stands = stands_there d source _ a.stands (sym h.drawn);
  }

  pub drawn_as_list : {g : Frame} {parts : Parts} {events : Telling} {now : A} {b : Bool} {p : Progress}
      → ShowsDrawn d source g parts events now b p → ShowsDrawn d source g parts (Told p.events) now b p
  drawn_as_list h = record { shows = as_list h.shows; stands = h.stands }

  pub drawn_from_list : {g g' : Frame} {parts parts' : Parts} {events : Telling} {old new : A} {b b' : Bool} {p q : Progress}
      → ShowsDrawn d source g parts events old b p → ShowsDrawn d source g' parts' (Told p.events) new b' q
      → ShowsDrawn d source g' parts' events new b' q
  drawn_from_list h a = record { shows = from_list h.shows a.shows; stands = a.stands }

  pub drawn_quietly : {g g' : Frame} {parts parts' : Parts} {events : Telling} {old new : A} {b b' : Bool} {p q : Progress}
      → ShowsDrawn d source g parts events old b p
      → (ShowsDrawn d source g parts (Told p.events) old b p → ShowsDrawn d source g' parts' (Told p.events) new b' q)
      → ShowsDrawn d source g' parts' events new b' q
  drawn_quietly h f = drawn_from_list h (f (drawn_as_list h))

  -- A draw: what it says of the stream's next byte, and what is shown one place further.
  pub drawn_next : {g : Frame} {parts : Parts} {events : Telling} {old new : A} {b : Bool} {p : Progress} {Is : ℕ → Type 0}
      → ShowsDrawn d source g parts events old b p → ((n : ℕ) → StandsIn d source n old → IsNext d source n Is new)
      → Is (byte_at p.stream p.drawn) × ShowsDrawn d source g parts events new b (record p { drawn = p.drawn + 1 })
  drawn_next {p = p} {Is = Is} a draws =
      let next = draws p.drawn a.stands in
      let h = a.shows in (
        subst (λ (s : Stream). Is (byte_at s p.drawn)) (sym h.stream) next.is,
        record {
          shows = record { within = h.within; written = h.written; ends = h.ends; stream = h.stream; drawn = refl; skips = h.skips; action = h.action };
          stands = next.stands;
        },
      )

  pub drawing : {g g' : Frame} {parts parts' : Parts} {events events' : Telling} {old new now : A} {b b' : Bool} {p : Progress} {Is : ℕ → Type 0} (f : ℕ → Phase)
      → ShowsDrawn d source g parts events old b p → ((n : ℕ) → StandsIn d source n old → IsNext d source n Is new)
      → ((byte : ℕ) → Is byte → ShowsDrawn d source g parts events new b (record p { drawn = p.drawn + 1 })
      → ShowsDrawn d source g' parts' events' now b' (f byte (record p { drawn = p.drawn + 1 })))
      → ShowsDrawn d source g' parts' events' now b' (draw f p)
  unfolding draw
  drawing {p = p} f a draws then = let next = drawn_next a draws in then (byte_at p.stream p.drawn) next.0 next.1

  pub drawn_goes : {g g' : Frame} {parts parts' : Parts} {events events' : Telling} {now now' : A} {b : Bool} {p : Progress} (f k : Phase)
      → ShowsDrawn d source g parts events now false (f p) → ShowsDrawn d source g' parts' events' now' b (k (f p))
      → ShowsDrawn d source g' parts' events' now' b ((f ▸ k) p)
  drawn_goes {p = p} f k a h = rw (then-goes f k p a.shows.ends) h

  pub drawn_stops : {g : Frame} {parts : Parts} {events : Telling} {now : A} {p : Progress} (f k : Phase)
      → ShowsDrawn d source g parts events now true (f p) → ShowsDrawn d source g parts events now true ((f ▸ k) p)
  drawn_stops {p = p} f k a = rw (then-stops f k p a.shows.ends) a

  pub drawn_if_so : {g : Frame} {parts : Parts} {events : Telling} {now : A} {b : Bool} {p : Progress} (test : Progress → Bool) (f k : Phase) → test p ≡ true
      → ShowsDrawn d source g parts events now b (f p) → ShowsDrawn d source g parts events now b (choose test f k p)
  drawn_if_so {p = p} test f k e h = rw (choose-true test f k p e) h

  pub drawn_if_not : {g : Frame} {parts : Parts} {events : Telling} {now : A} {b : Bool} {p : Progress} (test : Progress → Bool) (f k : Phase) → test p ≡ false
      → ShowsDrawn d source g parts events now b (k p) → ShowsDrawn d source g parts events now b (choose test f k p)
  drawn_if_not {p = p} test f k e h = rw (choose-false test f k p e) h

  pub drawn_stays : {g : Frame} {parts : Parts} {events : Telling} {now : A} {b : Bool} {p : Progress}
      → ShowsDrawn d source g parts events now b p → ShowsDrawn d source g parts events now b (stay p)
  unfolding stay
  drawn_stays h = h

  pub drawn_seeing : {B : Type 0} {a : B} {g : Frame} {parts : Parts} {events : Telling} {now : A} {b : Bool} {p : Progress} (read : Progress → B) (f : B → Phase)
      → a ≡ read p → ShowsDrawn d source g parts events now b (f a p) → ShowsDrawn d source g parts events now b (given read f p)
  unfolding given
  drawn_seeing read f e h = rw (← e) h

  pub drawn_settled : {g : Frame} {parts : Parts} {events : Telling} {now : A} {b b' : Bool} {p : Progress} → b ≡ b'
      → ShowsDrawn d source g parts events now b p → ShowsDrawn d source g parts events now b' p
  drawn_settled e h = record { shows = settled e h.shows; stands = h.stands }

  pub drawn_acted : {g : Frame} {parts : Parts} {events : Telling} {now : A} {b : Bool} {p : Progress} (f : Action → Action)
      → ShowsDrawn d source g parts events now b p → ShowsDrawn d source (record g { action = f g.action }) parts events now b (on_action f p)
  drawn_acted {g = g} f h = still {g' = record g { action = f g.action }} h (acted f h.shows)

-- The words of an operation's contract, spelled out.

module _ {S : Type 0} (tells : S → Telling) (battle : Ref Parts) (events : Ref S) (b : Bool) where
  pub same-does : (phase : Phase) → Does (scene tells battle events) b phase
      ≡ ((g : Frame) (p : Progress) → Shows g battle.entry.now (tells events.entry.now) false p
      → Shows g battle.exit.now (tells events.exit.now) b (phase p))
  same-does phase = refl

  pub same-does_where : (premise : Premise) (phase : Ruling → Phase) → DoesWhere premise (scene tells battle events) b phase
      ≡ ((g : Frame) (p : Progress) → premise g p (Shows g battle.entry.now (tells events.entry.now) false p
      → Shows g battle.exit.now (tells events.exit.now) b (phase (ruling_of g.setting.terms) p)))
  same-does_where premise phase = refl

  pub same-draws : {A : Type 0} (d : Drawing A) (random : Ref A) (phase : Phase) → Draws d random (scene tells battle events) b phase
      ≡ ((since : Since d random.exit.now) (g : Frame) (p : Progress) → ShowsDrawn d since.source g battle.entry.now (tells events.entry.now) random.entry.now false p
      → ShowsDrawn d since.source g battle.exit.now (tells events.exit.now) random.exit.now b (phase p))
  same-draws d random phase = refl

  pub same-draws_where : {A : Type 0} (d : Drawing A) (random : Ref A) (premise : Premise) (phase : Ruling → Phase)
      → DrawsWhere d random premise (scene tells battle events) b phase
      ≡ ((since : Since d random.exit.now) (g : Frame) (p : Progress) → premise g p (ShowsDrawn d since.source g battle.entry.now (tells events.entry.now) random.entry.now false p
      → ShowsDrawn d since.source g battle.exit.now (tells events.exit.now) random.exit.now b (phase (ruling_of g.setting.terms) p)))
  same-draws_where d random premise phase = refl

pub same-learns : {A : Type 0} (d : Drawing A) (random : Ref A) (battle : Ref Parts) (told : List Event) (learned : Frame → Frame) (b : Bool) (phase : Phase)
    → Draws d random (learns learned (quiet told battle)) b phase
    ≡ ((since : Since d random.exit.now) (g : Frame) (p : Progress) → ShowsDrawn d since.source g battle.entry.now (Told told) random.entry.now false p
    → ShowsDrawn d since.source (learned g) battle.exit.now (Told told) random.exit.now b (phase p))
same-learns d random battle told learned b phase = refl
