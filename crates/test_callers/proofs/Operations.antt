-- What is shown when an operation begins on a field, with any generator at any place of a stream; and what the clauses of the
-- operations of a hit, and of the gate of a member that is free, say then.
use Rattle.gen1_layout.proofs.Words.{Event, Field, Frame, List, Parts, Progress, Setting, ShowsDrawn, Side, Told, Within, false, refl, ℕ, Action, Bool, None, Option, Some, [], ap, arith, choose, draw, given, nat_le, nat_lt, nat_tests, on_conditions, on_field, set_last_damage, stay, sym, true, with_last_damage, ◌∙◌, ◌▸◌, choose-true, note, stop}
use Rattle.gen1_rolls.specs.Draws.{Drawing, Source, StandsIn, IsNext, Since}
use Rattle.gen1_rolls.specs.Streams.{Stream, byte_at, first, iterate, HoldsEveryByte, IsStream}
use Rattle.gen1_machine.specs.Progress.{new_action, on_action, set_missed, unless_stopped, only}
use Rattle.std.proofs.Common.{if◌then◌else◌, not, ◌+◌, ◌<◌, ◌≡◌, ◌≤◌, zero, suc, ◌-◌, ◌*◌, ◌%◌}
use Rattle.gen1_rolls.proofs.Standing.{stands_there, stream_of-is}
use Rattle.gen1_machine.specs.declared.side.Side.TheVariants.{One}
use Rattle.gen1_machine.specs.CriticalHits.{critical_bound_in, critical_by, roll_critical, rotated_left_3, set_critical}
use Rattle.gen1_machine.specs.Damage.{is_factor, rotated_right_1, times_factor}
use Rattle.gen1_machine.specs.HitTest.{hit_test, hits_below, miss, scaled_in, set_tested, settled_hit_in, test_by}
use Rattle.gen1_machine.specs.Moves.{Move}
use Rattle.gen1_machine.specs.State.{first_state, usual_terms, status_in}
use Rattle.gen1_hits.specs.DamageNumbers.{VariesFrom}
use Rattle.gen1_hits.specs.Knowing.{with_test}
use Rattle.gen1_hits.proofs.Knowledge.{vary-draws, vary-keeps}
use Rattle.gen1_stats.specs.declared.member.Status.TheVariants.{Healthy, Paralysed}
use Rattle.gen1_stats.specs.Members.{is_paralysed, sleeps_or_freezes}
use Rattle.gen1_machine.specs.declared.side.Pick.TheVariants.{Use}
use Rattle.gen1_machine.specs.declared.side.UsedMove.{UsedMove}
use Rattle.gen1_machine.specs.Conditions.{broken_off}
use Rattle.gen1_machine.specs.Action.{gate_or_held}
use Rattle.gen1_machine.specs.Gate.{cant, may_be_paralysed, paralysis_test}
use Rattle.gen1_status.specs.declared.gate_answer.Gate.{Gate}
use Rattle.gen1_status.specs.declared.gate_answer.Gate.TheVariants.{Fault, Go, Stop}
use Rattle.gen1_status.specs.Gate.{IsFree, keeps_from_acting, TellsDrawn, stopped_by}
use Rattle.gen1_status.proofs.Told.{gate-acts, gate-free}
use Rattle.gen1_rolls.specs.Steady.{draws_of, own_source, steady, stream_of}
use Rattle.test_callers.specs.Countdown.{countdown, one_down}
use Rattle.gen1_machine.specs.declared.event.CantReason.TheVariants as reasons

abbrev pub begun : Field → Stream → ℕ → Side → List Event → Progress
begun f stream drawn side events = record {
  field = f;
  stream = stream;
  drawn = drawn;
  events = events;
  stopped = false;
  skips = false;
  action = new_action side;
}

abbrev pub frame : Setting → Stream → Side → Frame
frame g stream side = record { setting = g; stream = stream; drawn = 0; skips = false; action = new_action side }

pub begun-shown : {A : Type 0} (d : Drawing A) (source : Source A) (n : ℕ) (r : A) (side : Side) {g : Setting} {parts : Parts} {f : Field} (events : List Event) → Within g parts f
    → StandsIn d source n r → ShowsDrawn d source (frame g source.stream side) parts (Told events) r false (begun f source.stream n side events)
begun-shown d source n r side events w a = record {
  shows = record { within = w; written = refl; ends = refl; stream = refl; drawn = refl; skips = refl; action = refl };
  stands = a;
}

-- A hit

module _ {A : Type 0} (d : Drawing A) (source : Source A) (n : ℕ) (new : A) where
  pub critical-is : (side : Side) (move : Move) (g : Setting) (parts : Parts) (f : Field) (result : Bool)
      → ShowsDrawn d source (record (frame g source.stream side) { action = record (new_action side) { critical = result } }) parts (Told []) new false
      (roll_critical side move (begun f source.stream n side []))
      → IsNext d source n (λ byte. result ≡ nat_lt (rotated_left_3 byte) (critical_bound_in side move f)) new
  unfolding roll_critical critical_by set_critical draw given on_action
  critical-is side move g parts f result h = record { is = sym (ap (λ (a : Action). a.critical) h.shows.action); stands = h.stands }

  -- A factor is drawn without a battle, so any progress is enough.
  abbrev any_begun : Progress
  any_begun = begun (first_state usual_terms [] [] []).field source.stream n One []

  varied-is : (result value j k : ℕ) → set_last_damage value (record any_begun { drawn = k }) ≡ set_last_damage result (record any_begun { drawn = j }) → (result ≡ value) × (j ≡ k)
  unfolding set_last_damage on_field with_last_damage
  varied-is result value j k e = (sym (ap (λ (p : Progress). p.field.last_damage) e), sym (ap (λ (p : Progress). p.drawn) e))

  pub factor-keeps : (damage result : ℕ) → damage ≤ 1 → VariesFrom d source n damage result new → (result ≡ damage) × StandsIn d source n new
  factor-keeps damage result few v =
      let small : nat_le damage 1 ≡ true = grind (arith, nat_tests) in
      let same = varied-is result damage v.drawn n (sym (vary-keeps damage n any_begun small refl) ∙ v.sets any_begun refl refl) in
      (same.0, stands_there d source new v.stands same.1)

  pub factor-draws : (damage result m : ℕ) → 1 < damage → first source.stream n is_factor ≡ Some m → VariesFrom d source n damage result new
      → (result ≡ times_factor (rotated_right_1 (byte_at source.stream m)) damage) × StandsIn d source (m + 1) new
  factor-draws damage result m many at v =
      let large : nat_le damage 1 ≡ false = grind (arith, nat_tests) in
      let same = varied-is result (times_factor (rotated_right_1 (byte_at source.stream m)) damage) v.drawn (m + 1)
      (sym (vary-draws damage n m source.stream any_begun large refl refl at) ∙ v.sets any_begun refl refl) in
      (same.0, stands_there d source new v.stands same.1)

-- A draw of the hit test: only a draw that isn't below the byte misses.
tested : (hits : Bool) (side : Side) (p : Progress) → p.stopped ≡ false → p.action.missed ≡ false → let q = choose (λ _. hits) stay (miss side) p in
    (q.drawn ≡ p.drawn) × (q.action.missed ≡ not hits)
unfolding choose stay miss set_missed set_last_damage on_action on_conditions on_field ◌▸◌ unless_stopped
tested true side p goes e = (refl, e)
tested false side p goes e = rw goes (refl, refl)

hit-of : (hit hits : Bool) → not hits ≡ (if hit then false else true) → hit ≡ hits
hit-of true true e = refl
hit-of true false e = cc
hit-of false true e = cc
hit-of false false e = refl

module _ {A : Type 0} (d : Drawing A) (source : Source A) (n : ℕ) (new : A) where
  pub hit_test-is : (side : Side) (move : Move) (base : ℕ) (g : Setting) (parts : Parts) (f : Field) (hit : Bool) (kept : ℕ) → settled_hit_in side move f ≡ None
      → ShowsDrawn d source (with_test hit kept (frame g source.stream side)) parts (Told []) new false (hit_test side move base (begun f source.stream n side []))
      → IsNext d source n (λ byte. hit ≡ nat_lt byte (scaled_in side base f)) new
  unfolding hit_test test_by set_tested hits_below given on_action draw ◌▸◌ unless_stopped
  hit_test-is side move base g parts f hit kept unsettled h =
      let p = begun f source.stream n side [] in
      let hits = nat_lt (byte_at source.stream n) (scaled_in side base f) in
      let q : Progress = record p { drawn = n + 1; action = record (new_action side) { accuracy_tested = Some (scaled_in side base f) } } in
      let e : hit_test side move base p ≡ choose (λ _. hits) stay (miss side) q = ap (λ (o : Option Bool). test_by side base o p) unsettled in
      let t = tested hits side q refl refl in
      let missed = sym (ap (λ (x : Progress). x.action.missed) e ∙ t.1) ∙ ap (λ (a : Action). a.missed) h.shows.action in
      record { is = hit-of hit hits missed; stands = stands_there d source new h.stands (ap (λ (x : Progress). x.drawn) e ∙ t.0) }

-- The gate

goes : (answer : Gate) → false ≡ stopped_by answer → answer ≡ Go
goes Go e = refl
goes Stop e = cc
goes Fault e = cc

-- Full paralysis stops the member if the draw is below 63, and nothing else follows.
paralysed : (stops : Bool) (s : Side) (p : Progress) → p.stopped ≡ false → let q = unless_stopped (only false stop) (choose (λ _. stops) (on_conditions s broken_off ▸ cant s reasons.Paralysed) stay p) in
    (q.drawn ≡ p.drawn) × (q.stopped ≡ stops)
unfolding choose stay stop cant note on_conditions on_field ◌▸◌ unless_stopped
paralysed true s p e = rw e (refl, refl)
paralysed false s p e = rw e (refl, refl)

module _ {A : Type 0} (d : Drawing A) (source : Source A) (n : ℕ) (new : A) (s : Side) (used : UsedMove) (g : Setting) (parts : Parts) (f : Field) (before after : List Event) (answer : Gate)
    (h : TellsDrawn d source (frame g source.stream s) parts (Told after) new answer (begun f source.stream n s before)
    (gate_or_held s (Use used) (begun f source.stream n s before)))
    (free : IsFree s f) where
  abbrev p : Progress
  p = begun f source.stream n s before

  pub healthy-goes : status_in s f ≡ Healthy → (answer ≡ Go) × StandsIn d source n new
  unfolding gate_or_held
  healthy-goes e =
      let same = gate-acts s (Use used) p (record { free = free; able = ap keeps_from_acting e; busy = refl }) refl in
      (goes answer (sym (ap (λ (q : Progress). q.stopped) same) ∙ h.shows.shows.ends), stands_there d source new h.shows.stands (ap (λ (q : Progress). q.drawn) same))

  draws : is_paralysed (status_in s f) ≡ true → paralysis_test s p ≡ may_be_paralysed s (byte_at source.stream n) (record p { drawn = n + 1 })
  unfolding paralysis_test draw may_be_paralysed
  draws e = choose-true _ _ _ p e

  pub paralysed-draws : status_in s f ≡ Paralysed → IsNext d source n (λ byte. stopped_by answer ≡ nat_lt byte 63) new
  unfolding gate_or_held ◌▸◌ draw may_be_paralysed
  paralysed-draws e =
      let q : Progress = record p { drawn = n + 1 } in
      let stops = nat_lt (byte_at source.stream n) 63 in
      let same = gate-free s p free refl (Use used) (ap sleeps_or_freezes e) ∙ ap (unless_stopped (only false stop)) (draws (ap is_paralysed e)) in
      let t = paralysed stops s q refl in
      record {
        is = sym h.shows.shows.ends ∙ ap (λ (x : Progress). x.stopped) same ∙ t.1;
        stands = stands_there d source new h.shows.stands (ap (λ (x : Progress). x.drawn) same ∙ t.0);
      }

-- The draws of a countdown.

iterate-one_down : (k n : ℕ) → n < 256 → iterate k one_down n ≡ (n + 255 * k) % 256
iterate-one_down zero n lt = omega arith
iterate-one_down (suc k) n lt =
    let e : ((n + 255 * k) % 256 + 255) % 256 ≡ (n + 255 * suc k) % 256 = omega arith in ap one_down (iterate-one_down k n lt) ∙ e

stays_byte : (k n : ℕ) → n < 256 → iterate k one_down n < 256
stays_byte k n lt = let e = iterate-one_down k n lt in omega (arith, e)

-- Any 256 draws hold every byte, and so do any 1,000.
full : (n : ℕ) → n < 256 → HoldsEveryByte (draws_of countdown n) 1000
full n lt b below =
    let e : (n + 255 * ((n + (256 - b)) % 256)) % 256 ≡ b = omega arith in
    ((n + (256 - b)) % 256, (omega arith, iterate-one_down ((n + (256 - b)) % 256) n lt ∙ e))

pub countdown_is_stream : (n : ℕ) → n < 256 → IsStream (stream_of countdown n)
countdown_is_stream n lt = stream_of-is countdown n (λ k. stays_byte k n lt) (λ k. full (iterate k one_down n) (stays_byte k n lt))

-- A countdown's own source, whose first byte is the number.
abbrev pub own : (n : ℕ) {now : ℕ} → Since (steady countdown) now
own n = record { source = own_source countdown n; agrees = tt }

pub first_byte : (n : ℕ) → byte_at (stream_of countdown n) 0 ≡ n
unfolding byte_at
first_byte n = refl
