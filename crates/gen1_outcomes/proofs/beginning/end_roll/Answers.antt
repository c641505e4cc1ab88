use Rattle.std.proofs.Common.{Bool, ap, false, inl, refl, subst, sym, true, ℕ, ◌≡◌, ◌∙◌}
use Rattle.gen1_layout.proofs.Words.{Event, Frame, List, Parts, Progress, ShowsDrawn, Side, Told}
use Rattle.gen1_layout.proofs.Chain.{choose-false, choose-true}
use Rattle.gen1_layout.specs.Shows.{Telling, Setting}
use Rattle.gen1_layout.specs.Words.{move_at}
use Rattle.gen1_rolls.specs.Draws.{Drawing, Source, StandsIn, by_then}
use Rattle.gen1_machine.specs.declared.side.Side.TheVariants.{One}
use Rattle.gen1_machine.specs.Damage.{vary}
use Rattle.gen1_machine.specs.HitTest.{hit_or_miss}
use Rattle.gen1_machine.specs.Progress.{Action, has_missed, new_action, stay}
use Rattle.gen1_machine.specs.Ruling.{ruling_of}
use Rattle.gen1_hits.specs.declared.known.Known.{Known}
use Rattle.gen1_hits.specs.Knowing.{ShowsKnown, knowing}
use Rattle.gen1_turn.specs.declared.action.two_parts.Roll.{Roll}
use Rattle.gen1_turn.specs.Action.{LikeDamage}
use Rattle.gen1_turn.specs.TwoParts.{from_test, known_at}
use Rattle.gen1_turn.proofs.TwoParts.{like-drawn}
use Rattle.gen1_outcomes.specs.Listing.{IsShownAt, roll_if_hit, untold}
use Rattle.gen1_outcomes.proofs.Closing.{closes_turn}
use Rattle.gen1_outcomes.proofs.beginning.end_roll.Goals as goal

abbrev frame : Setting → Progress → Frame
frame g p = record { setting = g; stream = p.stream; drawn = p.drawn; skips = false; action = new_action One }

module _ {A : Type 0} {d : Drawing A} {source : Source A} where
  -- A battle before a roll, with its events so far.
  shown_at : (g : Setting) (parts : Parts) (now : A) (s : Side) (roll : Roll) (p : Progress) → IsShownAt d source g parts now s roll p
      → ShowsKnown d source (known_at s roll) (frame g p) parts (Told p.events) now false p
  shown_at g parts now s roll p h =
      record {
        shows = record {
          within = h.within;
          written = refl;
          ends = h.rolling.going;
          stream = h.on;
          drawn = refl;
          skips = h.rolling.skips;
          action = h.rolling.action;
        };
        stands = h.stands;
      }

  -- Nothing is said of the events.
  unsaid : (k : Known) (g : Frame) {parts : Parts} {events : Telling} {now : A} {b : Bool} {p : Progress} → ShowsKnown d source k g parts events now b p
      → ShowsKnown d source k g parts untold now b p
  unsaid k g h =
      record {
        shows = record {
          within = h.shows.within;
          written = tt;
          ends = h.shows.ends;
          stream = h.shows.stream;
          drawn = h.shows.drawn;
          skips = h.shows.skips;
          action = h.shows.action;
        };
        stands = h.stands;
      }

  -- The roll of a hit, and no roll after a miss.
  rolled_if_hit : (missed : Bool) (k : Known) (g : Frame) (parts parts' : Parts) (events : List Event) (now now' : A) (s : Side) (roll : Roll) (q : Progress)
      → has_missed q ≡ missed → ShowsKnown d source k g parts (Told events) now false q
      → (missed ≡ false → (x : Progress) × ShowsDrawn d source (knowing k g) parts' (Told events) now' false x × LikeDamage s x (vary roll.damage q))
      → (missed ≡ true → parts' ≡ parts) → (missed ≡ true → now' ≡ now)
      → (x : Progress) × ShowsKnown d source k g parts' untold now' false x × LikeDamage s x (roll_if_hit roll q)
  unfolding stay
  rolled_if_hit false k g parts parts' events now now' s roll q is h rolls same still =
      let x = rolls refl in
      (x.0, unsaid k g x.1, subst (λ (y : Progress). LikeDamage s x.0 y) (sym (choose-false has_missed stay (vary roll.damage) q is)) x.2)
  rolled_if_hit true k g parts parts' events now now' s roll q is h rolls same still =
      (q, rw (same refl, still refl) (unsaid k g h), inl (sym (choose-true has_missed stay (vary roll.damage) q is)))

pub returns-clause-plays : goal.returns-clause-plays
returns-clause-plays v c =
    let s = c.args.side in
    let roll = c.args.roll in
    let k = c.test_hit.new.known in
    record {
      tested = c.test_hit.new.random;
      rolled = c.roll_unless_missed.new.random;
      missed = k.missed;
      begins = c.test_hit.ensures.steps;
      goes_on = c.roll_unless_missed.ensures.steps;
      ends = c.act_after_test-falls.ensures.steps;
      tests = λ since g p h.
          let x = c.test_hit.ensures.shown p.events since (frame g p) p (shown_at g _ _ s roll p h) in
          (ap (λ (a : Action). a.missed) x.shows.action, x.stands);
      rolls = λ hit since g p h.
          let before = by_then c.roll_unless_missed.ensures.steps since in
          let x = c.test_hit.ensures.shown p.events before (frame g p) p (shown_at g _ _ s roll p h) in
          let q : Progress = hit_or_miss s (move_at roll.id) p in
          let y = c.roll_unless_missed.ensures.rolls hit p.events since (knowing k (frame g p)) q h.rolling.damage (ap (λ (a : Action). a.missed) x.shows.action ∙ hit) x in
          subst (λ (n : ℕ). StandsIn v.R.Rolls.drawing since.source n c.roll_unless_missed.new.random) (like-drawn s y.0 (vary roll.damage q) y.2) y.1.stands;
      played = λ since g p h.
          let later = by_then c.act_after_test-falls.ensures.steps since in
          let before = by_then c.roll_unless_missed.ensures.steps later in
          let f = frame g p in
          let q : Progress = hit_or_miss s (move_at roll.id) p in
          let x = c.test_hit.ensures.shown p.events before f p (shown_at g _ _ s roll p h) in
          let missed = ap (λ (a : Action). a.missed) x.shows.action in
          let y =
          rolled_if_hit k.missed k f _ c.roll_unless_missed.new.battle p.events _ c.roll_unless_missed.new.random s roll q missed x
          (λ hit. c.roll_unless_missed.ensures.rolls hit p.events later (knowing k f) q h.rolling.damage (missed ∙ hit) x)
          c.roll_unless_missed.ensures.same c.roll_unless_missed.ensures.still in
          let left = c.act_after_test-falls.ensures.shown since f y.0 (roll_if_hit roll q) h.rolling.usual y.2 y.1 in
          let z =
          closes_turn c.act_after_test-falls.new.known f c.act_after_test-falls.new.battle c.close_turn.new.battle c.act_after_test-falls.new.random
          c.act_after_test-falls.result (from_test (ruling_of g.terms) s (move_at roll.id)) s (roll_if_hit roll q) left c.close_turn.ensures.cut c.close_turn.ensures.whole in
          (z.within, z.stands);
    }
