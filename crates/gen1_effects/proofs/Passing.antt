-- How shown facts pass through a draw by chance, a phase that depends on a part of what it reads, and the end of an
-- action.
use Rattle.std.proofs.Common.{◌+◌, ◌≡◌}
use Rattle.gen1_layout.proofs.Words.{Bool, Frame, Parts, Phase, Progress, ShowsDrawn, Telling, ap, choose-false, drawing, drawn_goes, drawn_if_not, drawn_if_so, drawn_stays, drawn_stops, false, halted, nat_lt, stay, still, stop, sym, then-goes, true, ℕ, ◌∙◌, ◌▸◌, Shows, given, refl, Side, subst, then-stops}
use Rattle.gen1_rolls.specs.Draws.{Drawing, IsNext, Source, StandsIn}
use Rattle.gen1_machine.specs.Progress.{when}
use Rattle.gen1_machine.specs.SideEffects.{by_chance, happens_below}
use Rattle.gen1_machine.specs.EarlyEffects.{set_skips}
use Rattle.gen1_hits.specs.declared.known.Known.{Known}
use Rattle.gen1_hits.specs.Knowing.{just_begun, Remains, ShowsKnown}
use Rattle.gen1_hits.proofs.Knowledge.{leaves}

-- A test that fails, with a generator.
module _ {A : Type 0} {d : Drawing A} {source : Source A} where
  pub drawn_past : {g g' : Frame} {parts parts' : Parts} {events events' : Telling} {now now' : A} {b : Bool} {p : Progress} (test : Progress → Bool) (f k : Phase) → test p ≡ false
      → ShowsDrawn d source g parts events now false p → ShowsDrawn d source g' parts' events' now' b (k p)
      → ShowsDrawn d source g' parts' events' now' b ((when test f ▸ k) p)
  unfolding stay
  drawn_past {p = p} test f k e h a =
      let is : when test f p ≡ p = choose-false test f stay p e in
      rw (then-goes (when test f) k p (ap (λ (q : Progress). q.stopped) is ∙ h.shows.ends) ∙ ap k is) a

module _ {A : Type 0} {d : Drawing A} {source : Source A} {g : Frame} {parts : Parts} {events : Telling} {old new : A} {b result : Bool} {p : Progress} (bound : ℕ) (f : Phase) where
  -- The draw was below the bound.
  pub comes : {g' : Frame} {parts' : Parts} {events' : Telling} {now : A} {b' : Bool}
      → ShowsDrawn d source g parts events old b p → ((n : ℕ) → StandsIn d source n old → IsNext d source n (λ byte. result ≡ nat_lt byte bound) new) → result ≡ true
      → (ShowsDrawn d source g parts events new b (record p { drawn = p.drawn + 1 })
      → ShowsDrawn d source g' parts' events' now b' (f (record p { drawn = p.drawn + 1 })))
      → ShowsDrawn d source g' parts' events' now b' (by_chance bound f p)
  unfolding by_chance happens_below
  comes h draws e then = drawing (happens_below bound f) h draws (λ byte is a. drawn_if_so (λ q. nat_lt byte bound) f stay (sym is ∙ e) (then a))

  -- The draw wasn't below the bound.
  pub passes : ShowsDrawn d source g parts events old b p → ((n : ℕ) → StandsIn d source n old → IsNext d source n (λ byte. result ≡ nat_lt byte bound) new) → result ≡ false
      → ShowsDrawn d source g parts events new b (by_chance bound f p)
  unfolding by_chance happens_below
  passes h draws e = drawing (happens_below bound f) h draws (λ byte is a. drawn_if_not (λ q. nat_lt byte bound) f stay (sym is ∙ e) (drawn_stays a))

-- An action ends, whether or not it stopped before

module _ {A : Type 0} {d : Drawing A} {source : Source A} {parts : Parts} {events : Telling} {now : A} {p : Progress} where
  pub ended : (g : Frame) (b : Bool) (f : Phase) → ShowsDrawn d source g parts events now b (f p)
      → ShowsDrawn d source g parts events now true ((f ▸ stop) p)
  ended g true f a = drawn_stops f stop a
  ended g false f a = drawn_goes f stop a (still {g' = g} a (halted a.shows))

-- How shown facts pass through a phase that depends on a part of what it reads, and through one that notes who is skipped.

pub seeing_part : {A B : Type 0} {g : Frame} {parts : Parts} {events : Telling} {stopped : Bool} {p : Progress} {b : B}
    (read : Progress → A) (part : A → B) (f : B → Phase) → b ≡ part (read p) → Shows g parts events stopped (f b p)
    → Shows g parts events stopped (given read (λ a. f (part a)) p)
unfolding given
seeing_part read part f e h = rw (← e) h

pub skipped : {g : Frame} {parts : Parts} {events : Telling} {b : Bool} {p : Progress} (skips : Bool) → Shows g parts events b p
    → Shows (record g { skips = skips }) parts events b (set_skips skips p)
unfolding set_skips
skipped skips h = record { within = h.within; written = h.written; ends = h.ends; stream = h.stream; drawn = h.drawn; skips = refl; action = h.action }

-- An operation by itself, from an action that has just begun. It doesn't matter that its action then ends.

module _ {A : Type 0} {d : Drawing A} {source : Source A} {parts : Parts} {events : Telling} {now : A} {b : Bool} where
  pub begun_alone : {p : Progress} (k : Known) (g : Frame) (s : Side) → k ≡ just_begun s
      → ShowsKnown d source (just_begun s) g parts events now b p → ShowsKnown d source k g parts events now b p
  begun_alone k g s is h = rw is h

  pub left_unended : (k : Known) (g : Frame) (f : Phase) (p : Progress)
      → ShowsKnown d source k g parts events now b ((f ▸ stop) p) → Remains d source g parts events now (f p)
  unfolding stop
  left_unended k g f p a = by (f p).stopped refl
    where
      by : (stopped : Bool) → (f p).stopped ≡ stopped → Remains d source g parts events now (f p)
      by true e = leaves {k = k} g (subst (λ (q : Progress). ShowsKnown d source k g parts events now b q) (then-stops f stop p e) a)
      by false e =
          let h = subst (λ (q : Progress). ShowsKnown d source k g parts events now b q) (then-goes f stop p e) a in
          record { within = h.shows.within; written = h.shows.written; stands = h.stands }
