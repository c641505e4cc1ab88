-- How shown facts, with what is known of the action, pass through phases. The lemmas of gen1_layout's Chain about a
-- frame hold for `knowing k g`: a change of what is known is, by computation, a change of that frame.
use Rattle.std.proofs.Common.{◌≡◌, Bool, false, refl, ◌+◌, min, ◌*◌, ◌<◌, ◌≤◌, length, ◌==◌, ◌||◌, ◌∷◌}
use Rattle.gen1_layout.proofs.Words.{drawn_stops, still, true, ◌▸◌, None, Option, ShowsDrawn, Some, ap, subst, draw, drawing, sym, ℕ, ◌∙◌, Within, arith, choose-false, choose-true, nat_le, on_field, put_damage, set_last_damage, with_last_damage, List, []}
use Rattle.gen1_rolls.specs.Draws.{Drawing, Source, Ref, Since, IsFound, IsMissed, IsNext, StandsIn}
use Rattle.gen1_machine.specs.Progress.{on_action, unless_stopped, Phase, Progress, draw_until}
use Rattle.gen1_machine.specs.Action.{begin}
use Rattle.gen1_layout.specs.Operations.{Does, between, Draws, DrawsWhere, anything, scene}
use Rattle.gen1_hits.specs.declared.known.Known.{Known}
use Rattle.gen1_hits.specs.Knowing.{Remains, begun, knowing, ShowsKnown, ShowsOver, Leaves, beginning, just_begun, aware}
use Rattle.gen1_tables.specs.declared.effect.Effect.{Effect}
use Rattle.gen1_machine.specs.declared.side.Pick.{Pick}
use Rattle.gen1_machine.specs.declared.side.Side.{Side}
use Rattle.gen1_machine.specs.Plans.{Doing, Plan}
use Rattle.gen1_machine.specs.Ruling.{Ruling, ruling_of}
use Rattle.gen1_layout.specs.Parts.{Parts}
use Rattle.gen1_layout.specs.Shows.{Frame, Shows, Telling}
use Rattle.gen1_hits.specs.Planned.{Before, Follows, Takes, taking, using}
use Rattle.gen1_rolls.specs.Streams.{Stream, byte_at, first, span}
use Rattle.gen1_rolls.proofs.Standing.{stands_there}
use Rattle.std.proofs.Math.Nat.{mul-le-mul_left}
use Rattle.gen1_machine.specs.Damage.{is_factor, rotated_right_1, times_factor, varied_by, vary}
use Rattle.gen1_hits.specs.DamageNumbers.{VariesAlike}
use Rattle.gen1_tables.specs.Types.{TypeRow, any, tenths_of}

module _ {A : Type 0} {d : Drawing A} {source : Source A} where
  -- What code without draws does, with a generator that hasn't moved.
  pub does_still : {k k' : Known} (g : Frame) {parts parts' : Parts} {events events' : Telling} {now : A} {b : Bool} {p : Progress} (f : Phase)
      → Does (λ Then. Then parts events (knowing k) parts' events' (knowing k')) b f → ShowsKnown d source k g parts events now false p
      → ShowsKnown d source k' g parts' events' now b (f p)
  does_still {k' = k'} g {p = p} f does h = still {g' = knowing k' g} h (does (record g { stream = source.stream; drawn = p.drawn }) p h.shows)

  -- `does_still` for code that learns nothing.
  pub plain_still : (k : Known) (g : Frame) {parts parts' : Parts} {events events' : Telling} {now : A} {b : Bool} {p : Progress} (f : Phase)
      → Does (between parts events parts' events') b f → ShowsKnown d source k g parts events now false p
      → ShowsKnown d source k g parts' events' now b (f p)
  plain_still k g f does h = does_still {k = k} {k' = k} g f (λ x p. does (knowing k x) p) h

  -- What is known stays known.
  pub over : (k : Known) (g : Frame) {parts : Parts} {events : Telling} {now : A} {b : Bool} {p : Progress}
      → ShowsKnown d source k g parts events now b p → ShowsOver d source k g parts events now b p
  over k g a = (k.broke, a)

  pub over_stops : (k : Known) (g : Frame) {parts : Parts} {events : Telling} {now : A} {p : Progress} (f h : Phase)
      → ShowsOver d source k g parts events now true (f p) → ShowsOver d source k g parts events now true ((f ▸ h) p)
  over_stops k g f h a = (a.0, drawn_stops f h a.1)

  -- What is left if what is known doesn't matter.
  pub leaves : {k : Known} (g : Frame) {parts : Parts} {events : Telling} {now : A} {b : Bool} {p : Progress}
      → ShowsKnown d source k g parts events now b p → Remains d source g parts events now p
  leaves g h = record { within = h.shows.within; written = h.shows.written; stands = h.stands }

  -- An action begins.
  pub begun_so : (k k' : Known) (g : Frame) {parts : Parts} {events : Telling} {now : A} {b : Bool} {p : Progress} (s : Side) → k' ≡ begun s k
      → ShowsOver d source k g parts events now b p → ShowsKnown d source k' g parts events now b (begin s p)
  unfolding begin on_action
  begun_so k k' g s is (broke, a) =
      let h = a.shows in
      rw is (record {
        shows = record { within = h.within; written = h.written; ends = h.ends; stream = h.stream; drawn = h.drawn; skips = h.skips; action = refl };
        stands = a.stands;
      })

-- A phase whose last part always stops.
pub stops-then : (f k : Phase) → ((p : Progress) → (k p).stopped ≡ true) → (p : Progress) → ((f ▸ k) p).stopped ≡ true
unfolding ◌▸◌ unless_stopped
stops-then f k all p = by (f p).stopped refl
  where
    by : (b : Bool) → (f p).stopped ≡ b → (elim b as (λ _. Progress) [ true ↦ f p | false ↦ k (f p) ]).stopped ≡ true
    by true e = e
    by false e = all (f p)

-- The words of an action's operations, spelled out (gen1_layout, `Same`, has those of every operation).

module _ {S : Type 0} (tells : S → Telling) (battle : Ref Parts) (events : Ref S) (known : Ref Known) (b : Bool) where
  pub same-does : (phase : Phase) → Does (aware known (scene tells battle events)) b phase
      ≡ ((g : Frame) (p : Progress) → Shows (knowing known.entry.now g) battle.entry.now (tells events.entry.now) false p
      → Shows (knowing known.exit.now g) battle.exit.now (tells events.exit.now) b (phase p))
  same-does phase = refl

  module _ {A : Type 0} (d : Drawing A) (random : Ref A) where
    pub same-draws : (phase : Phase) → Draws d random (aware known (scene tells battle events)) b phase
        ≡ ((since : Since d random.exit.now) (g : Frame) (p : Progress) → ShowsKnown d since.source known.entry.now g battle.entry.now (tells events.entry.now) random.entry.now false p
        → ShowsKnown d since.source known.exit.now g battle.exit.now (tells events.exit.now) random.exit.now b (phase p))
    same-draws phase = refl

    pub same-draws_using : (side : Side) (effect : Effect) (phase : Ruling → Phase) → DrawsWhere d random (using side effect) (aware known (scene tells battle events)) b phase
        ≡ ((since : Since d random.exit.now) (g : Frame) (p : Progress) (plan : Side → Plan) → plan side ≡ Doing effect → Follows g.setting.terms plan p
        → ShowsKnown d since.source known.entry.now g battle.entry.now (tells events.entry.now) random.entry.now false p
        → ShowsKnown d since.source known.exit.now g battle.exit.now (tells events.exit.now) random.exit.now b (phase (ruling_of g.setting.terms) p))
    same-draws_using side effect phase = refl

    pub same-draws_taking : (side : Side) (pick : Pick) (effect : Effect) (phase : Ruling → Phase)
        → DrawsWhere d random (taking side pick effect) (aware known (scene tells battle events)) b phase
        ≡ ((since : Since d random.exit.now) (g : Frame) (p : Progress) (plan : Side → Plan) → Takes pick effect (plan side) → Before pick g.setting.terms plan p
        → ShowsKnown d since.source known.entry.now g battle.entry.now (tells events.entry.now) random.entry.now false p
        → ShowsKnown d since.source known.exit.now g battle.exit.now (tells events.exit.now) random.exit.now b (phase (ruling_of g.setting.terms) p))
    same-draws_taking side pick effect phase = refl

    pub same-leaves : (side : Side) (phase : Ruling → Phase) → Leaves d random anything (beginning side (scene tells battle events)) phase
        ≡ ((since : Since d random.exit.now) (g : Frame) (p : Progress) → ShowsKnown d since.source (just_begun side) g battle.entry.now (tells events.entry.now) random.entry.now false p
        → Remains d since.source g battle.exit.now (tells events.exit.now) random.exit.now (phase (ruling_of g.setting.terms) p))
    same-leaves side phase = refl

-- How shown facts pass through a draw, and through draws until one passes a test, if the byte looks like the stream's.

-- The result of a search

searched : (test : ℕ → Bool) (f : ℕ → Phase) (p : Progress) (o : Option ℕ) → first p.stream p.drawn test ≡ o
    → draw_until test f p ≡ elim o as (λ _. Progress) [ Some k ↦ f (byte_at p.stream k) (record p { drawn = k + 1 }) | None ↦ record p { drawn = p.drawn + span p.stream } ]
unfolding draw_until
searched test f p o e =
    ap (λ (x : Option ℕ). elim x as (λ _. Progress) [ Some k ↦ f (byte_at p.stream k) (record p { drawn = k + 1 }) | None ↦ record p { drawn = p.drawn + span p.stream } ]) e

module _ {A : Type 0} {d : Drawing A} {source : Source A} {g : Frame} {parts : Parts} {events : Telling} {old new : A} {b : Bool} {p : Progress} where
  -- A byte was drawn with which the phase does the same as with the stream's.
  pub drawing_like : {g' : Frame} {parts' : Parts} {events' : Telling} {now : A} {b' : Bool} {Is : ℕ → Type 0} (f : ℕ → Phase) (byte : ℕ)
      → ShowsDrawn d source g parts events old b p → ((n : ℕ) → StandsIn d source n old → IsNext d source n Is new) → ((x : ℕ) → Is x → f byte ≡ f x)
      → (ShowsDrawn d source g parts events new b (record p { drawn = p.drawn + 1 })
      → ShowsDrawn d source g' parts' events' now b' (f byte (record p { drawn = p.drawn + 1 })))
      → ShowsDrawn d source g' parts' events' now b' (draw f p)
  drawing_like f byte a draws same then = drawing f a draws (λ x is h. rw (← same x is) (then h))

  -- A byte was found with which the phase does the same as with the stream's, and what follows begins at the next place.
  pub found_by_drawing : {Is : ℕ → Type 0} (test : ℕ → Bool) (f : ℕ → Phase) (byte : ℕ)
      → ShowsDrawn d source g parts events old b p → ((n : ℕ) → StandsIn d source n old → IsFound d source n test Is new)
      → ((x : ℕ) → Is x → (q : Progress) → f byte q ≡ f x q)
      → (n : ℕ) × ShowsDrawn d source g parts events new b (record p { drawn = n }) × (draw_until test f p ≡ f byte (record p { drawn = n }))
  found_by_drawing {Is = Is} test f byte a finds same =
      let x = finds p.drawn a.stands in
      let h = a.shows in
      let here : first p.stream p.drawn test ≡ Some x.place = ap (λ (s : Stream). first s p.drawn test) h.stream ∙ x.found in
      let is = subst (λ (s : Stream). Is (byte_at s x.place)) (sym h.stream) x.is in (
        x.place + 1,
        record {
          shows = record { within = h.within; written = h.written; ends = h.ends; stream = h.stream; drawn = refl; skips = h.skips; action = h.action };
          stands = x.stands;
        },
        searched test f p (Some x.place) here ∙ sym (same (byte_at p.stream x.place) is (record p { drawn = x.place + 1 })),
      )

  pub drawn_until : {parts' : Parts} {events' : Telling} {now : A} {b' : Bool} {Is : ℕ → Type 0} (test : ℕ → Bool) (f : ℕ → Phase) (byte : ℕ)
      → ShowsDrawn d source g parts events old b p → ((n : ℕ) → StandsIn d source n old → IsFound d source n test Is new)
      → ((x : ℕ) → Is x → (q : Progress) → f byte q ≡ f x q)
      → ((n : ℕ) → ShowsDrawn d source g parts events new b (record p { drawn = n }) → ShowsDrawn d source g parts' events' now b' (f byte (record p { drawn = n })))
      → ShowsDrawn d source g parts' events' now b' (draw_until test f p)
  drawn_until test f byte a finds same then = let x = found_by_drawing test f byte a finds same in rw x.2 (then x.0 x.1)

  -- No byte passed the test.
  pub drawn_for_none : (test : ℕ → Bool) (f : ℕ → Phase) → ShowsDrawn d source g parts events old b p
      → ((n : ℕ) → StandsIn d source n old → IsMissed d source n test new) → ShowsDrawn d source g parts events new b (draw_until test f p)
  drawn_for_none test f a misses =
      let x = misses p.drawn a.stands in
      let h = a.shows in
      rw (searched test f p None (ap (λ (s : Stream). first s p.drawn test) h.stream ∙ x.none)) (record {
        shows = record { within = h.within; written = h.written; ends = h.ends; stream = h.stream; drawn = refl; skips = h.skips; action = h.action };
        stands = stands_there d source new x.stands (ap (λ (s : Stream). p.drawn + span s) (sym h.stream));
      })

-- The machine's factor, and what is shown after `factor` has drawn and its result is the last damage.

-- The machine's factor, if none is drawn and if one is found at m

pub vary-keeps : (d n : ℕ) (p : Progress) → nat_le d 1 ≡ true → p.drawn ≡ n → vary d p ≡ set_last_damage d (record p { drawn = n })
unfolding vary
vary-keeps d n p small at = choose-true _ _ _ p small ∙ ap (λ (k : ℕ). set_last_damage d (record p { drawn = k })) at

found : (test : ℕ → Bool) (f : ℕ → Phase) (p : Progress) (m : ℕ) → first p.stream p.drawn test ≡ Some m → draw_until test f p ≡ f (byte_at p.stream m) (record p { drawn = m + 1 })
unfolding draw_until
found test f p m e =
    ap (λ (o : Option ℕ). elim o as (λ _. Progress) [ Some k ↦ f (byte_at p.stream k) (record p { drawn = k + 1 }) | None ↦ record p { drawn = p.drawn + span p.stream } ]) e

pub vary-draws : (d n m : ℕ) (stream : Stream) (p : Progress) → nat_le d 1 ≡ false → p.stream ≡ stream → p.drawn ≡ n → first stream n is_factor ≡ Some m
    → vary d p ≡ set_last_damage (times_factor (rotated_right_1 (byte_at stream m)) d) (record p { drawn = m + 1 })
unfolding vary varied_by
vary-draws d n m stream p large same at e =
    choose-false _ _ _ p large ∙ found is_factor (varied_by d) p m (rw (same, at) e) ∙ rw same refl

-- A factor makes no damage larger.
pub varied-most : (d b : ℕ) → b < 256 → times_factor (rotated_right_1 b) d ≤ d
varied-most d b byte =
    let factor : rotated_right_1 b ≤ 255 = omega arith in
    let product : d * rotated_right_1 b ≤ d * 255 = search (mul-le-mul_left, factor) in
    omega (arith, product)

-- What is shown after a factor was drawn, and how far the machine's last damage may differ.
pub varying : {A : Type 0} {d : Drawing A} {source : Source A} {g : Frame} {parts parts' : Parts} {events : Telling} {old new : A} {b : Bool} {p : Progress}
    → (limit damage result : ℕ) → ShowsDrawn d source g parts events old b p
    → ((n : ℕ) → StandsIn d source n old → VariesAlike d source n limit damage result new)
    → Within g.setting parts' (with_last_damage result p.field)
    → (n : ℕ) × ShowsDrawn d source g parts' events new b (set_last_damage result (record p { drawn = n }))
    × (dealt : ℕ) × (vary damage p ≡ set_last_damage dealt (set_last_damage result (record p { drawn = n }))) × (min dealt limit ≡ min result limit) × (dealt ≤ damage)
unfolding set_last_damage on_field with_last_damage
varying {source = source} {g = g} {parts = parts} {events = events} {b = b} {p = p} limit damage result a varies within =
    let v = varies p.drawn a.stands in
    let h = a.shows in
    let drawn : Shows (record g { stream = source.stream; drawn = v.drawn }) parts events b (record p { drawn = v.drawn }) = record {
      within = h.within;
      written = h.written;
      ends = h.ends;
      stream = h.stream;
      drawn = refl;
      skips = h.skips;
      action = h.action;
    } in
    (v.drawn, record { shows = put_damage drawn result within; stands = v.stands }, v.dealt, v.sets p h.stream refl, v.alike, v.most)

-- A foe is immune if one of the factors of its types is 0.

pub none_of : (rows : List TypeRow) (two : ℕ × ℕ) → two ≡ tenths_of rows → length rows ≤ 2 → ((two.0 == 0) || (two.1 == 0)) ≡ any (λ row. row.tenths == 0) rows
none_of [] two is few = rw is refl
none_of (a ∷ []) two is few = rw is refl
none_of (a ∷ b ∷ []) two is few = rw is (elim (b.tenths == 0) as (λ x. ((a.tenths == 0) || x) ≡ ((a.tenths == 0) || (x || false))) [ true ↦ refl | false ↦ refl ])
none_of (a ∷ b ∷ c ∷ rows) two is few = absurd (omega arith)
