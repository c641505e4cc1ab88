-- How results of the gate pass through phases, and members that it does not stop. Only the hit on itself can change the
-- outcome.
use Rattle.std.proofs.Common.{◌+◌, ◌≡◌, ◌||◌, ◌∷◌}
use Rattle.gen1_layout.proofs.Words.{drawn_next, Action, ActiveConditions, Bool, Field, Frame, Parts, Phase, Progress, Shows, ShowsDrawn, Side, Some, Telling, ap, changed_active, changed_conditions, changed_member, choose, choose-false, choose-true, draw, false, given, refl, still, subst, sym, then-goes, then-stops, true, with_last_damage, ℕ, ◌∙◌, ◌▸◌, DisabledSlot, None, Option, [], active_in, conditions_in, is_some, member_in, stay, stop, underway_in}
use Rattle.gen1_rolls.specs.Draws.{Drawing, IsNext, Source, StandsIn}
use Rattle.gen1_rolls.specs.Streams.{Stream, byte_at}
use Rattle.gen1_machine.specs.declared.terms.Outcome.{Outcome}
use Rattle.gen1_machine.specs.HitOnItself.{hurt_itself_by}
use Rattle.gen1_machine.proofs.Keeps.{choose-keeps, given-keeps, set_last_damage-keeps, then-keeps, Keeps, Spares}
use Rattle.gen1_machine.proofs.Settled.{outcome-stays}
use Rattle.gen1_machine.proofs.Steady.{land_on_foes_substitute-steady, land_on_hp-steady, Breaks, Hurts, Steady}
use Rattle.gen1_status.specs.declared.gate_answer.Gate.{Gate}
use Rattle.gen1_status.specs.declared.gate_answer.Gate.TheVariants.{Go, Stop, Fault}
use Rattle.gen1_status.specs.Gate.{Tells, TellsDrawn, action_after, frame_after, outcome_after, stopped_by, ActsAtOnce, IsFree, is_held, keeps_from_acting}
use Rattle.gen1_stats.specs.declared.member.Status.{Status}
use Rattle.gen1_stats.specs.declared.member.Status.TheVariants.{Asleep, Burned, Frozen, Healthy, Paralysed, Poisoned}
use Rattle.gen1_stats.specs.Members.{is_frozen, is_living, is_paralysed, sleeps_or_freezes}
use Rattle.gen1_machine.specs.declared.side.Pick.{Pick}
use Rattle.gen1_machine.specs.declared.side.Pick.TheVariants.{Continue, Held, Idle, Use}
use Rattle.gen1_machine.specs.Sides.{other}
use Rattle.gen1_machine.specs.Layout.{condition_bits}
use Rattle.gen1_layout.specs.Words.{any_at}
use Rattle.gen1_machine.specs.Progress.{only, status_of, when}
use Rattle.gen1_machine.specs.Picks.{bars, is_disabled_in, is_idle}
use Rattle.gen1_machine.specs.Gate.{cant, confusion_test, disable_count, disabled_test, flinch_test, frozen_test, gate, gate_of_move, gate_of_status, gate_of_turn, paralysis_test, recharge_test, sleep_test, trapped_test}
use Rattle.gen1_machine.specs.Action.{gate_or_held}
use Rattle.gen1_machine.specs.ResidualDamage.{residual, suffer_seed, suffer_status}
use Rattle.gen1_status.specs.Statuses.{takes_hp}
use Rattle.gen1_machine.specs.declared.event.CantReason.TheVariants as reasons

-- The outcome

abbrev pub StaysAs : Outcome → Field → Action → Stream → Type 0
StaysAs outcome f a w = f.outcome ≡ outcome

pub outcome-steady : (outcome : Outcome) → Steady (StaysAs outcome)
unfolding changed_member changed_active changed_conditions with_last_damage
outcome-steady outcome = record {
  member = λ s change soft. record { spared = λ f a w h. outcome-stays s _ f ∙ h };
  active = λ s change left. record { spared = λ f a w h. outcome-stays s _ f ∙ h };
  conditions = λ s change left. record { spared = λ f a w h. outcome-stays s _ f ∙ h };
  damage = λ n. record { spared = λ f a w h. h };
  action = λ change left. record { spared = λ f a w h. h };
}

pub outcome-hurts : (outcome : Outcome) → Hurts (StaysAs outcome)
unfolding changed_member
outcome-hurts outcome = record { hurt = λ s change. record { spared = λ f a w h. outcome-stays s _ f ∙ h } }

pub outcome-breaks : (outcome : Outcome) (s : Side) → Breaks (StaysAs outcome) s
unfolding changed_conditions changed_active
outcome-breaks outcome s = record { broken = record { spared = λ f a w h. outcome-stays s _ f ∙ h } }

-- A change of conditions, and the hit on itself by a number.
pub conditions-spare : (outcome : Outcome) (s : Side) (change : ActiveConditions → ActiveConditions) → Spares (StaysAs outcome) (changed_conditions s change)
unfolding changed_conditions changed_active
conditions-spare outcome s change = record { spared = λ f a w h. outcome-stays s _ f ∙ h }

pub hit-keeps : (outcome : Outcome) (s : Side) (damage : ℕ) → Keeps (StaysAs outcome) (hurt_itself_by s (Some damage))
unfolding hurt_itself_by
hit-keeps outcome s damage =
    let steady = outcome-steady outcome in
    then-keeps (set_last_damage-keeps damage (steady.damage damage))
    (choose-keeps _ (given-keeps _ (λ hp. land_on_foes_substitute-steady steady s damage hp)) (land_on_hp-steady steady s _ damage (outcome-hurts outcome)))

-- What is known of the action

known : (answer : Gate) (found left : Action) → left ≡ found → left ≡ action_after answer found left
known Go found left e = e
known Stop found left e = e ∙ ap (λ (a : Action). record found { broke = a.broke }) (sym e)
known Fault found left e = e ∙ ap (λ (a : Action). record found { broke = a.broke }) (sym e)

pub known_so : {g : Frame} {parts : Parts} {events : Telling} {b : Bool} {p : Progress} (answer : Gate) → Shows g parts events b p → Shows (frame_after answer p g) parts events b p
known_so answer h = record { within = h.within; written = h.written; ends = h.ends; stream = h.stream; drawn = h.drawn; skips = h.skips; action = known answer _ _ h.action }

-- A substitute may have been broken.
pub broken_so : (g : Frame) {parts : Parts} {events : Telling} {b : Bool} {p : Progress} (broke : Bool)
    → Shows (record g { action = record g.action { broke = broke } }) parts events b p → Shows (frame_after Stop p g) parts events b p
broken_so g broke h = record {
  within = h.within;
  written = h.written;
  ends = h.ends;
  stream = h.stream;
  drawn = h.drawn;
  skips = h.skips;
  action = h.action ∙ ap (λ (x : Bool). record g.action { broke = x }) (sym (ap (λ (a : Action). a.broke) h.action));
}

gone : (answer : Gate) → stopped_by answer ≡ false → answer ≡ Go
gone Go e = refl
gone Stop e = cc
gone Fault e = cc

-- Without draws

module _ {g : Frame} {parts : Parts} {events : Telling} {p : Progress} where
  pub tells : (answer : Gate) (f : Phase) → outcome_after answer p.field.outcome ≡ p.field.outcome → Keeps (StaysAs p.field.outcome) f
      → Shows g parts events (stopped_by answer) (f p) → Tells g parts events answer p (f p)
  tells answer f e k h = record { shows = known_so answer h; outcome = k.kept p refl ∙ sym e }

  -- A phase that stops, and may have broken a substitute.
  pub tells_broken : (broke : Bool) (f : Phase) → Keeps (StaysAs p.field.outcome) f
      → Shows (record g { action = record g.action { broke = broke } }) parts events true (f p) → Tells g parts events Stop p (f p)
  tells_broken broke f k h = record { shows = broken_so g broke h; outcome = k.kept p refl }

  pub tells_given : {A : Type 0} {a : A} {answer : Gate} (read : Progress → A) (f : A → Phase) (k : Phase) → a ≡ read p
      → Tells g parts events answer p ((f a ▸ k) p) → Tells g parts events answer p ((given read f ▸ k) p)
  unfolding given ◌▸◌
  tells_given read f k e h = rw (← e) h

  pub then_tells : {g' : Frame} {parts' : Parts} {events' : Telling} {answer : Gate} (f k : Phase) → Keeps (StaysAs p.field.outcome) f
      → Shows g parts events false (f p) → Tells g' parts' events' answer (f p) (k (f p)) → Tells g' parts' events' answer p ((f ▸ k) p)
  then_tells {answer = answer} f k keeps h a =
      rw (then-goes f k p h.ends) (record { shows = a.shows; outcome = a.outcome ∙ ap (outcome_after answer) (keeps.kept p refl) })

-- With a generator

module _ {A : Type 0} {d : Drawing A} {source : Source A} {g : Frame} {parts : Parts} {events : Telling} {now : A} {p : Progress} where
  -- What code without draws reported, for a generator that hasn't moved.
  pub still_tells : {parts' : Parts} {events' : Telling} {answer : Gate} {b : Bool} {q : Progress} → ShowsDrawn d source g parts events now b p
      → Tells (record g { stream = source.stream; drawn = p.drawn }) parts' events' answer p q → TellsDrawn d source g parts' events' now answer p q
  still_tells {answer = answer} {q = q} h a = record { shows = still {g' = frame_after answer q g} h a.shows; outcome = a.outcome }

  -- A phase that is shown and keeps the outcome.
  pub drawn_tells : (answer : Gate) (f : Phase) → outcome_after answer p.field.outcome ≡ p.field.outcome → Keeps (StaysAs p.field.outcome) f
      → ShowsDrawn d source g parts events now (stopped_by answer) (f p) → TellsDrawn d source g parts events now answer p (f p)
  drawn_tells answer f e k h = record { shows = record { shows = known_so answer h.shows; stands = h.stands }; outcome = k.kept p refl ∙ sym e }

  pub tells_goes : {g' : Frame} {parts' : Parts} {events' : Telling} {now' : A} {answer : Gate} (f k : Phase)
      → TellsDrawn d source g parts events now Go p (f p) → TellsDrawn d source g' parts' events' now' answer (f p) (k (f p))
      → TellsDrawn d source g' parts' events' now' answer p ((f ▸ k) p)
  tells_goes {answer = answer} f k a b =
      rw (then-goes f k p a.shows.shows.ends) (record { shows = b.shows; outcome = b.outcome ∙ ap (outcome_after answer) a.outcome })

  pub tells_stops : {answer : Gate} (f k : Phase) → stopped_by answer ≡ true
      → TellsDrawn d source g parts events now answer p (f p) → TellsDrawn d source g parts events now answer p ((f ▸ k) p)
  tells_stops f k e a = rw (then-stops f k p (a.shows.shows.ends ∙ e)) a

  pub tells_if_so : {answer : Gate} (test : Progress → Bool) (f k : Phase) → test p ≡ true
      → TellsDrawn d source g parts events now answer p (f p) → TellsDrawn d source g parts events now answer p (choose test f k p)
  tells_if_so test f k e a = rw (choose-true test f k p e) a

  pub tells_if_not : {answer : Gate} (test : Progress → Bool) (f k : Phase) → test p ≡ false
      → TellsDrawn d source g parts events now answer p (k p) → TellsDrawn d source g parts events now answer p (choose test f k p)
  tells_if_not test f k e a = rw (choose-false test f k p e) a

  pub tells_seeing : {B : Type 0} {a : B} {answer : Gate} (read : Progress → B) (f : B → Phase) → a ≡ read p
      → TellsDrawn d source g parts events now answer p (f a p) → TellsDrawn d source g parts events now answer p (given read f p)
  unfolding given
  tells_seeing read f e h = rw (← e) h

  -- A draw of a byte with which the phase does the same as with the stream's.
  pub tells_drawing : {g' : Frame} {parts' : Parts} {events' : Telling} {old now' : A} {b : Bool} {answer : Gate} {Is : ℕ → Type 0} (f : ℕ → Phase) (byte : ℕ)
      → ShowsDrawn d source g parts events old b p → ((n : ℕ) → StandsIn d source n old → IsNext d source n Is now) → ((x : ℕ) → Is x → f byte ≡ f x)
      → (ShowsDrawn d source g parts events now b (record p { drawn = p.drawn + 1 })
      → TellsDrawn d source g' parts' events' now' answer (record p { drawn = p.drawn + 1 }) (f byte (record p { drawn = p.drawn + 1 })))
      → TellsDrawn d source g' parts' events' now' answer p (draw f p)
  unfolding draw
  tells_drawing f byte a draws same then =
      let next = drawn_next a draws in
      let told = then next.1 in
      rw (← same (byte_at p.stream p.drawn) next.0) (record { shows = told.shows; outcome = told.outcome })

  -- A result that doesn't stop is Go.
  pub went : {answer : Gate} {q : Progress} → stopped_by answer ≡ false
      → TellsDrawn d source g parts events now answer p q → TellsDrawn d source g parts events now Go p q
  went {answer = answer} {q = q} e a = subst (λ (x : Gate). TellsDrawn d source g parts events now x p q) (gone answer e) a

-- Cases with nothing to do: the gate of a member that is held or that only its status can stop, and the residual
-- damage of a member without any.

-- A member that is held

pub held-is : (s : Side) (pick : Pick) → is_held pick ≡ true → gate_or_held s pick ≡ cant s reasons.PartiallyTrapped
unfolding gate_or_held
held-is s Held e = refl
held-is s (Use used) e = cc
held-is s Continue e = cc
held-is s Idle e = cc

pub held-not : (s : Side) (pick : Pick) → is_held pick ≡ false → gate_or_held s pick ≡ gate s pick
unfolding gate_or_held
held-not s Held e = cc
held-not s (Use used) e = refl
held-not s Continue e = refl
held-not s Idle e = refl

-- A member that is free

skips : (f k : Phase) (p : Progress) → f p ≡ p → p.stopped ≡ false → (f ▸ k) p ≡ k p
skips f k p e goes = then-goes f k p (ap (λ (q : Progress). q.stopped) e ∙ goes) ∙ ap k e

awake : (s : Side) (status : Status) (p : Progress) → sleeps_or_freezes status ≡ false → sleep_test s status p ≡ p
unfolding sleep_test stay
awake s (Asleep turns marked) p e = cc
awake s Healthy p e = refl
awake s Poisoned p e = refl
awake s Burned p e = refl
awake s Frozen p e = refl
awake s Paralysed p e = refl

unfrozen : (status : Status) → sleeps_or_freezes status ≡ false → is_frozen status ≡ false
unfrozen (Asleep turns marked) e = cc
unfrozen Frozen e = cc
unfrozen Healthy e = refl
unfrozen Poisoned e = refl
unfrozen Burned e = refl
unfrozen Paralysed e = refl

able-is : (status : Status) → keeps_from_acting status ≡ false → (sleeps_or_freezes status ≡ false) × (is_paralysed status ≡ false)
able-is (Asleep turns marked) e = cc
able-is Frozen e = cc
able-is Paralysed e = cc
able-is Healthy e = (refl, refl)
able-is Poisoned e = (refl, refl)
able-is Burned e = (refl, refl)

unbarred : (s : Side) (pick : Pick) (p : Progress) → (conditions_in s p.field).disabled ≡ None → is_disabled_in s pick p.field ≡ false
unbarred s Idle p e = refl
unbarred s (Use used) p e = ap (λ (d : Option DisabledSlot). bars d used) e
unbarred s Continue p e = ap (λ (d : Option DisabledSlot). bars d (active_in s p.field).current_move) e
unbarred s Held p e = ap (λ (d : Option DisabledSlot). bars d (active_in s p.field).current_move) e

module _ (s : Side) (p : Progress) (free : IsFree s p.field) (goes : p.stopped ≡ false) where
  by_status : sleeps_or_freezes (status_of s p) ≡ false → gate_of_status s p ≡ p
  unfolding gate_of_status frozen_test trapped_test given stay
  by_status e =
      skips (given (status_of s) (sleep_test s)) (frozen_test s ▸ trapped_test s) p (awake s (status_of s p) p e) goes
      ∙ skips (frozen_test s) (trapped_test s) p (choose-false _ _ _ p (unfrozen (status_of s p) e)) goes
      ∙ choose-false _ _ _ p (ap is_some free.untrapped)

  by_turn : gate_of_turn s p ≡ p
  unfolding gate_of_turn flinch_test recharge_test disable_count given stay
  by_turn =
      skips (flinch_test s) (recharge_test s ▸ given (λ q. (conditions_in s q.field).disabled) (disable_count s)) p (choose-false _ _ _ p free.unflinching) goes
      ∙ skips (recharge_test s) (given (λ q. (conditions_in s q.field).disabled) (disable_count s)) p (choose-false _ _ _ p free.rested) goes
      ∙ ap (λ (d : Option DisabledSlot). disable_count s d p) free.undisabled

  pub gate-free : (pick : Pick) → sleeps_or_freezes (status_of s p) ≡ false → gate s pick p ≡ (paralysis_test s ▸ only (is_idle pick) stop) p
  unfolding gate gate_of_move disabled_test confusion_test given stay
  gate-free pick e =
      let last = paralysis_test s ▸ only (is_idle pick) stop in
      let rest = disabled_test s pick ▸ last in
      let confusion = given (λ q. (conditions_in s q.field).confused) (confusion_test s) in
      skips (gate_of_status s) (gate_of_turn s ▸ gate_of_move s pick) p (by_status e) goes
      ∙ skips (gate_of_turn s) (gate_of_move s pick) p by_turn goes
      ∙ skips confusion rest p (ap (λ o. confusion_test s o p) free.unconfused) goes
      ∙ skips (disabled_test s pick) last p (choose-false _ _ _ p (unbarred s pick p free.undisabled)) goes

-- A member that acts at once passes the gate without a change.
pub gate-acts : (s : Side) (pick : Pick) (p : Progress) → ActsAtOnce s pick p.field → p.stopped ≡ false → gate s pick p ≡ p
unfolding paralysis_test stay
gate-acts s pick p at_once goes =
    let able = able-is (status_of s p) at_once.able in
    gate-free s p at_once.free goes pick able.0
    ∙ skips (paralysis_test s) (only (is_idle pick) stop) p (choose-false _ _ _ p able.1) goes ∙ choose-false _ _ _ p at_once.busy

-- None of several conditions is on

none-of : {A : Type 0} (o : Option A) → is_some o ≡ false → o ≡ None
none-of None e = refl
none-of (Some x) e = cc

neither : (a b : Bool) → (a || b) ≡ false → (a ≡ false) × (b ≡ false)
neither false b e = (refl, e)
neither true b e = cc

pub free-is : (s : Side) (f : Field) → is_some (underway_in (other s) f).trapping ≡ false
    → any_at (3 ∷ 6 ∷ 10 ∷ 16 ∷ []) (condition_bits (conditions_in s f)) ≡ false → IsFree s f
free-is s f held e =
    let c = conditions_in s f in
    let three = neither (c.flinch || is_some c.confused || c.underway.recharge) (is_some c.disabled) e in
    let two = neither (c.flinch || is_some c.confused) c.underway.recharge three.0 in
    let one = neither c.flinch (is_some c.confused) two.0 in
    record {
      untrapped = none-of (underway_in (other s) f).trapping held;
      unflinching = one.0;
      rested = two.1;
      undisabled = none-of c.disabled three.1;
      unconfused = none-of c.confused one.1;
    }

-- A member without poison, a burn or a seed loses nothing

unhurt : (s : Side) (status : Status) (p : Progress) → takes_hp status ≡ false → suffer_status s status p ≡ p
unfolding suffer_status stay
unhurt s Poisoned p e = cc
unhurt s Burned p e = cc
unhurt s Healthy p e = refl
unhurt s (Asleep turns marked) p e = refl
unhurt s Frozen p e = refl
unhurt s Paralysed p e = refl

whether_or_not : (test : Progress → Bool) (f : Phase) (p : Progress) → f p ≡ p → when test f p ≡ p
unfolding choose stay
whether_or_not test f p e = by (test p)
  where
    by : (b : Bool) → elim b as (λ _. Progress) [ true ↦ f p | false ↦ p ] ≡ p
    by true = e
    by false = refl

pub residual-spares : (s : Side) (p : Progress) → (takes_hp (status_of s p) || (conditions_in s p.field).seeded) ≡ false → p.stopped ≡ false → residual s p ≡ p
unfolding residual given stay
residual-spares s p e goes =
    let off = neither (takes_hp (status_of s p)) (conditions_in s p.field).seeded e in
    let seed = when (λ q. (conditions_in s q.field).seeded) (suffer_seed s) in
    whether_or_not (λ q. is_living (member_in s q.field)) (given (status_of s) (suffer_status s) ▸ seed) p
    (skips (given (status_of s) (suffer_status s)) seed p (unhurt s (status_of s p) p off.0) goes ∙ choose-false _ _ _ p off.1)
