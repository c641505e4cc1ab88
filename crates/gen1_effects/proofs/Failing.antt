-- A move that fails by a test, or passes it, and an action that ends with its effect.
use Rattle.std.proofs.Common.{◌≡◌}
use Rattle.gen1_layout.proofs.Words.{Bool, Frame, Parts, Phase, Progress, Shows, ShowsDrawn, Side, Telling, ap, choose, choose-false, choose-true, drawn_goes, drawn_if_so, drawn_stops, false, goes, halted, if_so, past, stay, still, stop, stops, then-goes, true, ◌∙◌, ◌▸◌}
use Rattle.gen1_rolls.specs.Draws.{Drawing, Source}
use Rattle.gen1_machine.specs.Progress.{fail, fails_if}
use Rattle.gen1_layout.specs.Operations.{Does, between}
use Rattle.gen1_hits.specs.declared.known.Known.{Known}
use Rattle.gen1_hits.specs.Knowing.{ShowsKnown}
use Rattle.gen1_hits.proofs.Knowledge.{plain_still}

module _ {g : Frame} {parts : Parts} {events : Telling} {p : Progress} where
  pub ended : {b : Bool} (f : Phase) → Shows g parts events b (f p) → Shows g parts events true ((f ▸ stop) p)
  ended {b = true} f a = stops f stop a
  ended {b = false} f a = goes f stop a (halted a)

  pub fails : {events' : Telling} (s : Side) (test : Progress → Bool) → test p ≡ true → Does (between parts events parts events') true (fail s)
      → Shows g parts events false p → Shows g parts events' true (fails_if s test p)
  unfolding fails_if
  fails s test e does h = if_so test (fail s) stay e (does g p h)

  pub fails_then : {events' : Telling} (s : Side) (test : Progress → Bool) (rest : Phase) → test p ≡ true → Does (between parts events parts events') true (fail s)
      → Shows g parts events false p → Shows g parts events' true ((fails_if s test ▸ rest) p)
  fails_then s test rest e does h = stops (fails_if s test) rest (fails s test e does h)

module _ {g g' : Frame} {parts parts' : Parts} {events events' : Telling} {b : Bool} {p : Progress} where
  pub past_fail : (s : Side) (test : Progress → Bool) (rest : Phase) → test p ≡ false → Shows g parts events false p
      → Shows g' parts' events' b (rest p) → Shows g' parts' events' b ((fails_if s test ▸ rest) p)
  unfolding fails_if
  past_fail s test rest e h a = past test (fail s) rest e h a

module _ {g : Frame} {parts : Parts} {events : Telling} {b : Bool} {p : Progress} where
  pub ends_if_so : (test : Progress → Bool) (f k : Phase) → test p ≡ true → Shows g parts events b ((f ▸ stop) p) → Shows g parts events b ((choose test f k ▸ stop) p)
  unfolding ◌▸◌
  ends_if_so test f k e a = rw (choose-true test f k p e) a

  pub ends_if_not : (test : Progress → Bool) (f k : Phase) → test p ≡ false → Shows g parts events b ((k ▸ stop) p) → Shows g parts events b ((choose test f k ▸ stop) p)
  unfolding ◌▸◌
  ends_if_not test f k e a = rw (choose-false test f k p e) a

module _ {A : Type 0} {d : Drawing A} {source : Source A} where
  pub drawn_ended : {g : Frame} {parts : Parts} {events : Telling} {now : A} {b : Bool} {p : Progress} (f : Phase)
      → ShowsDrawn d source g parts events now b (f p) → ShowsDrawn d source g parts events now true ((f ▸ stop) p)
  drawn_ended {b = true} f a = drawn_stops f stop a
  drawn_ended {b = false} f a = drawn_goes f stop a (still a (halted a.shows))

  pub drawn_fails : (k : Known) (g : Frame) {parts : Parts} {events events' : Telling} {now : A} {p : Progress} (s : Side) (test : Progress → Bool) (rest : Phase)
      → test p ≡ true → Does (between parts events parts events') true (fail s) → ShowsKnown d source k g parts events now false p
      → ShowsKnown d source k g parts events' now true ((fails_if s test ▸ rest) p)
  unfolding fails_if
  drawn_fails k g s test rest e does h = drawn_stops (fails_if s test) rest (drawn_if_so test (fail s) stay e (plain_still k g (fail s) does h))

  pub drawn_past : {g g' : Frame} {parts parts' : Parts} {events events' : Telling} {now now' : A} {b : Bool} {p : Progress} (s : Side) (test : Progress → Bool) (rest : Phase)
      → test p ≡ false → ShowsDrawn d source g parts events now false p
      → ShowsDrawn d source g' parts' events' now' b (rest p) → ShowsDrawn d source g' parts' events' now' b ((fails_if s test ▸ rest) p)
  unfolding fails_if stay
  drawn_past {p = p} s test rest e h a =
      let same : fails_if s test p ≡ p = choose-false test (fail s) stay p e in
      rw (then-goes (fails_if s test) rest p (ap (λ (q : Progress). q.stopped) same ∙ h.shows.ends), same) a
