-- How plans pass through the parts of an action, by its pick. Acts of gen1_machine says the same about a whole
-- action.
use Rattle.std.proofs.Common.{All, Bool, List, None, Option, Some, ap, arith, false, is_some, length, refl, subst, sym, true, ℕ, ◌-◌, ◌∙◌, ◌≡◌, ◌≢◌}
use Rattle.std.proofs.lemmas.Bool.{false≢true}
use Rattle.gen1_tables.specs.declared.effect.Effect.{Effect}
use Rattle.gen1_tables.specs.declared.effect.Effect.TheVariants as effects
use Rattle.gen1_tables.specs.Moves.{move_row, move_rows}
use Rattle.gen1_rolls.specs.Streams.{Stream}
use Rattle.gen1_stats.specs.declared.member.KnownMove.{KnownMove}
use Rattle.gen1_stats.specs.Members.{nobody, nothing_known, IsBetween}
use Rattle.gen1_machine.specs.declared.event.CantReason.{CantReason}
use Rattle.gen1_machine.specs.declared.side.Pick.{Pick}
use Rattle.gen1_machine.specs.declared.side.Pick.TheVariants.{Continue, Held, Idle, Use}
use Rattle.gen1_machine.specs.declared.side.UsedMove.{UsedMove}
use Rattle.gen1_machine.specs.declared.side.UsedMove.TheVariants.{Nothing, Slot, Struggle}
use Rattle.gen1_machine.specs.declared.side.Side.{Side}
use Rattle.gen1_machine.specs.State.{active_in, changed_active, member_in, underway_in, with_current_move, Field, Terms}
use Rattle.gen1_tables.specs.Effects.{bides, thrashes, traps}
use Rattle.gen1_machine.specs.Moves.{Move}
use Rattle.gen1_machine.specs.Picks.{number_in, used_by}
use Rattle.gen1_machine.specs.Progress.{choose, given, on_active, on_field, only, stay, stop, unless, Action, Phase, Progress, ◌▸◌}
use Rattle.gen1_machine.specs.Gate.{cant, gate, gate_of_move}
use Rattle.gen1_machine.specs.EarlyEffects.{early_effect, is_early}
use Rattle.gen1_machine.specs.GoingOn.{bide_goes_on}
use Rattle.gen1_machine.specs.Charging.{begin_charge, charge, make_current}
use Rattle.gen1_machine.specs.Action.{damage_of, gate_or_held, lands_at_once, lead_up, lets_energy_go, move_taken_in, prelude, see_if_going_on, use_move}
use Rattle.gen1_machine.specs.Valid.{effect_of, IsField, IsUnderway, IsUsedMove}
use Rattle.gen1_machine.specs.Plans.{with_plan, Doing, FitsPick, IsPlanned, Plan, Plans}
use Rattle.gen1_machine.proofs.Keeps.{choose-keeps, note-keeps, stay-keeps, stop-keeps, then-keeps, Keeps, choose-false, keeps-leads, then-leads, Leads}
use Rattle.gen1_machine.proofs.Sound.{party-valid, planned-holds, planned-sound, replanned, taken-up, with_plan-is, IsMove}
use Rattle.gen1_machine.proofs.SoundWalk.{damage_of-sound, early_effect-sound, gate_or_held-sound, see_if_going_on-sound}
use Rattle.gen1_machine.proofs.Acts.{bide_goes_on-keeps, prelude-keeps, bide-quiet, either, end_charge-keeps, leads-passes, passes-choose, passes-choose_sees, passes-stop, passes-then, quiet-sound, spend_pp-keeps, unchanged, IfStopped, Passes, Quiet}
use Rattle.gen1_hits.specs.Planned.{Before, Follows, Takes}
use Rattle.gen1_hits.proofs.Knowledge.{stops-then}

-- The move that a pick takes

pub used-fits : (terms : Terms) (plan : Side → Plan) (s : Side) (pick : Pick) (e : Effect) (f : Field) (a : Action) (w : Stream) → Takes pick e (plan s)
    → IsPlanned terms plan f a w → IsUsedMove (length (member_in s f).moves) (used_by pick (active_in s f).current_move)
used-fits terms plan s (Use used) e f a w is h = (planned-holds s f a w is h).0
used-fits terms plan s Continue e f a w is h = (party-valid s f h.field).active.current_move
used-fits terms plan s Idle e f a w is h = (party-valid s f h.field).active.current_move
used-fits terms plan s Held e f a w is h = (party-valid s f h.field).active.current_move

abbrev pub Trivial : Field → Action → Stream → Type 0
Trivial f a w = Unit {0}

anything : {f : Phase} → Passes Trivial Trivial Trivial f
anything {f} = record { passed = λ p h. either (f p).stopped tt tt }

from_any : {P : Field → Action → Stream → Type 0} {f : Phase} → Passes P Trivial Trivial f
from_any {P} {f} = record { passed = λ p h. either (f p).stopped tt tt }

module _ (terms : Terms) (plan : Side → Plan) (s : Side) (move : Move) (is : IsMove move) where
  pub next : Side → Plan
  next = with_plan s (Doing move.effect) plan

  pub doing : next s ≡ Doing move.effect
  unfolding next
  doing = with_plan-is s (Doing move.effect) plan

  stays-leads : (pick : Pick) → ((used : UsedMove) → used_by pick used ≡ used) → plan s ≡ Doing move.effect → Leads (IsPlanned terms plan) (IsPlanned terms next) (make_current s pick)
  unfolding make_current given on_active on_field next
  stays-leads pick stays e = record {
    led = λ p h.
        let now = planned-holds s p.field p.action p.stream e h in
        subst (λ u. IsPlanned terms (with_plan s (Doing move.effect) plan) (changed_active s (with_current_move u) p.field) p.action p.stream) (sym (stays (active_in s p.field).current_move))
        (subst (λ f. IsPlanned terms (with_plan s (Doing move.effect) plan) f p.action p.stream) (sym (unchanged s p.field))
        (replanned s (Doing move.effect) p.field p.action p.stream now h));
  }

  take-leads : (pick : Pick) → Takes pick move.effect (plan s) → Leads (IsPlanned terms plan) (IsPlanned terms next) (make_current s pick)
  unfolding make_current given on_active on_field next
  take-leads (Use used) planned = record { led = λ p h. taken-up s used move.effect p.field p.action p.stream planned h }
  take-leads Continue e = stays-leads Continue (λ used. refl) e
  take-leads Idle e = stays-leads Idle (λ used. refl) e
  take-leads Held e = stays-leads Held (λ used. refl) e

  pub use_move-leads : (pick : Pick) → Takes pick move.effect (plan s) → Leads (IsPlanned terms plan) (IsPlanned terms next) (use_move s pick move)
  unfolding use_move
  use_move-leads pick taking = then-leads (take-leads pick taking)
      (keeps-leads (then-keeps (choose-keeps _ stay-keeps (spend_pp-keeps terms next s)) (choose-keeps _ (note-keeps _) stay-keeps))) (λ f a w h. h)

  pub charge-passes : (pick : Pick) → Passes (IsPlanned terms plan) (IsPlanned terms plan) Trivial (charge s pick move)
  unfolding charge begin_charge
  charge-passes pick = passes-choose_sees _
      (λ tie. passes-choose _ (leads-passes (keeps-leads (end_charge-keeps terms plan s)) (λ f a w h. tt))
      (passes-then from_any (passes-then anything (passes-then anything (passes-then anything (passes-stop (λ f a w h. tt)))))))
      (λ e. leads-passes (keeps-leads stay-keeps) (λ f a w h. tt))

  begin_move-passes : Passes (IsPlanned terms next) (IsPlanned terms next) Trivial (only (is_early move.effect) (early_effect s move move.effect ▸ stop) ▸ prelude s move)
  begin_move-passes = leads-passes (keeps-leads (then-keeps
      (choose-keeps _ (then-keeps (early_effect-sound (planned-sound terms next) s move move.effect is) stop-keeps) stay-keeps)
      (prelude-keeps terms next s move is doing))) (λ f a w h. tt)

  lead_up-passes : (pick : Pick) → Takes pick move.effect (plan s) → Passes (IsPlanned terms plan) (IsPlanned terms next) Trivial (lead_up s pick move)
  unfolding lead_up
  lead_up-passes pick taking = passes-then (charge-passes pick) (passes-then (leads-passes (use_move-leads pick taking) (λ f a w h. tt)) begin_move-passes)

-- Q holds after a phase that doesn't stop.
pub went-on : {P Q R : Field → Action → Stream → Type 0} (f : Phase) (p : Progress) → Passes P Q R f → (f p).stopped ≡ false → P p.field p.action p.stream
    → Q (f p).field (f p).action (f p).stream
went-on {P} {Q} {R} f p k e h =
    subst (λ b. IfStopped b (R (f p).field (f p).action (f p).stream) (Q (f p).field (f p).action (f p).stream)) e (k.passed p h)

pub before-valid : {terms : Terms} {plan : Side → Plan} (pick : Pick) (p : Progress) → Before pick terms plan p → Follows terms plan p
before-valid (Use used) p h = h.0
before-valid Continue p h = h
before-valid Idle p h = h
before-valid Held p h = h

module _ (terms : Terms) (plan : Side → Plan) (s : Side) (move : Move) (is : IsMove move) where
  pub bide-before : (pick : Pick) (p : Progress) → Takes pick move.effect (plan s) → Before pick terms plan p → Before pick terms plan (bide_goes_on s p)
  bide-before (Use used) p taking h = (bide-quiet terms plan s move is used taking).kept p h
  bide-before Continue p taking h = (bide_goes_on-keeps terms plan s).kept p h
  bide-before Idle p taking h = (bide_goes_on-keeps terms plan s).kept p h
  bide-before Held p taking h = (bide_goes_on-keeps terms plan s).kept p h

  stays-passes : plan s ≡ Doing move.effect → Passes (IsPlanned terms plan) (IsPlanned terms (next terms plan s move is)) Trivial stay
  unfolding stay next
  stays-passes e = record {
    passed = λ p h. either p.stopped tt
        (replanned s (Doing move.effect) p.field p.action p.stream (planned-holds s p.field p.action p.stream e h) h);
  }

  -- After the lead-up the move is the current one.
  pub led_up : (pick : Pick) (p : Progress) → Takes pick move.effect (plan s) → Before pick terms plan p
      → (unless lets_energy_go (lead_up s pick move) p).stopped ≡ false → Follows terms (next terms plan s move is) (unless lets_energy_go (lead_up s pick move) p)
  led_up (Use used) p taking h e =
      let same = choose-false lets_energy_go stay (lead_up s (Use used) move) p h.1 in
      subst (λ (q : Progress). Follows terms (next terms plan s move is) q) (sym same)
      (went-on (lead_up s (Use used) move) p (lead_up-passes terms plan s move is (Use used) taking) (ap (λ (q : Progress). q.stopped) (sym same) ∙ e) h.0)
  led_up Continue p taking h e = went-on _ p (passes-choose _ (stays-passes taking) (lead_up-passes terms plan s move is Continue taking)) e h
  led_up Idle p taking h e = went-on _ p (passes-choose _ (stays-passes taking) (lead_up-passes terms plan s move is Idle taking)) e h
  led_up Held p taking h e = went-on _ p (passes-choose _ (stays-passes taking) (lead_up-passes terms plan s move is Held taking)) e h

-- The plan at the beginning of an action, and the move that is taken

pub slot-number : (moves : List KnownMove) (k : ℕ) → All (λ (m : KnownMove). IsBetween 1 165 m.id) moves → IsBetween 1 (length moves) k → IsBetween 1 165 (number_in (Slot k) moves)
slot-number moves k all h = all (k - 1) nothing_known (omega (arith, h.0, h.1))

abbrev pub is_awake : Pick → Bool
is_awake (Use used) = true
is_awake Continue = true
is_awake Idle = false
is_awake Held = false

member-moves : {terms : Terms} (s : Side) (f : Field) → IsField terms f → All (λ (m : KnownMove). IsBetween 1 165 m.id) (member_in s f).moves
member-moves s f h =
    let v = party-valid s f h in
    (v.members.each ((active_in s f).place - 1) nobody (omega (arith, v.place.0, v.place.1))).moves

used-number : (used : UsedMove) (moves : List KnownMove) → All (λ (m : KnownMove). IsBetween 1 165 m.id) moves → IsUsedMove (length moves) used → used ≢ Nothing → IsBetween 1 165 (number_in used moves)
used-number (Slot k) moves all h some = slot-number moves k all h
used-number Struggle moves all h some = (omega arith, omega arith)
used-number Nothing moves all h some = absurd (some refl)

nothing-used : (moves : List KnownMove) → effect_of Nothing moves ≡ effects.DamageOnly
unfolding move_row move_rows
nothing-used moves = refl

pub taken-number : (terms : Terms) (plan : Side → Plan) (s : Side) (pick : Pick) (f : Field) (a : Action) (w : Stream) → is_awake pick ≡ true → FitsPick pick (plan s)
    → IsPlanned terms plan f a w → IsBetween 1 165 (number_in (used_by pick (active_in s f).current_move) (member_in s f).moves)
taken-number terms plan s (Use used) f a w awake begins h =
    let plans = planned-holds s f a w begins.1 h in
    used-number used (member_in s f).moves (member-moves s f h.field) plans.0 begins.2
taken-number terms plan s Continue f a w awake begins h =
    let plans = planned-holds s f a w begins.1 h in
    let moves = (member_in s f).moves in
    used-number (active_in s f).current_move moves (member-moves s f h.field) (party-valid s f h.field).active.current_move
    (λ none. begins.2 (sym plans ∙ ap (λ u. effect_of u moves) none ∙ nothing-used moves))
taken-number terms plan s Idle f a w awake begins h = cc
taken-number terms plan s Held f a w awake begins h = cc

pub taking-from : (terms : Terms) (plan : Side → Plan) (s : Side) (pick : Pick) (f : Field) (a : Action) (w : Stream) → is_awake pick ≡ true → FitsPick pick (plan s)
    → IsPlanned terms plan f a w → Takes pick (move_taken_in s pick f).effect (plan s)
taking-from terms plan s (Use used) f a w awake begins h =
    let plans = planned-holds s f a w begins.1 h in
    begins.1 ∙ ap (λ x. Plans used x) (sym plans.1)
taking-from terms plan s Continue f a w awake begins h =
    let plans = planned-holds s f a w begins.1 h in
    begins.1 ∙ ap (λ x. Doing x) (sym plans)
taking-from terms plan s Idle f a w awake begins h = cc
taking-from terms plan s Held f a w awake begins h = cc

pub before-from : {terms : Terms} {plan : Side → Plan} (pick : Pick) (p : Progress) → Follows terms plan p → p.action.letting_go ≡ false → Before pick terms plan p
before-from (Use used) p h e = (h, e)
before-from Continue p h e = h
before-from Idle p h e = h
before-from Held p h e = h

-- A side that picked nothing or is held doesn't pass the gate

idle-stops : (s : Side) (p : Progress) → (gate s Idle p).stopped ≡ true
unfolding gate gate_of_move stop choose
idle-stops s p = stops-then _ _ (λ q. stops-then _ _ (λ r. stops-then _ _ (λ t. stops-then _ _ (λ u. stops-then _ _ (λ v. refl) u) t) r) q) p

held-stops : (s : Side) (why : CantReason) (p : Progress) → (cant s why p).stopped ≡ true
unfolding cant stop
held-stops s why p = stops-then _ _ (λ q. refl) p

pub awake : (s : Side) (pick : Pick) (p : Progress) → (gate_or_held s pick p).stopped ≡ false → is_awake pick ≡ true
unfolding gate_or_held
awake s (Use used) p e = refl
awake s Continue p e = refl
awake s Idle p e = absurd (false≢true (sym e ∙ idle-stops s p))
awake s Held p e = absurd (false≢true (sym e ∙ held-stops s _ p))

-- The gate, and the test whether a move continues, keep plans

pub gates : (terms : Terms) (plan : Side → Plan) (s : Side) (pick : Pick) → Keeps (Quiet terms plan) (gate_or_held s pick)
gates terms plan s pick = gate_or_held-sound (quiet-sound terms plan) s pick

pub sees : (terms : Terms) (plan : Side → Plan) (s : Side) (pick : Pick) → Keeps (Quiet terms plan) (see_if_going_on s pick)
sees terms plan s pick = see_if_going_on-sound (quiet-sound terms plan) s pick

pub damages : (terms : Terms) (plan : Side → Plan) (s : Side) (move : Move) → IsMove move → Keeps (IsPlanned terms plan) (unless (lands_at_once move) (damage_of s move move.effect))
damages terms plan s move is = choose-keeps _ stay-keeps (damage_of-sound (planned-sound terms plan) s move move.effect is)

-- If a part is skipped, everything is as before.
pub unchosen-valid : (terms : Terms) (plan : Side → Plan) (b : Bool) (f : Phase) (p : Progress) → b ≡ false → Follows terms plan p → Follows terms plan (only b f p)
unfolding stay
unchosen-valid terms plan b f p e h = subst (λ (q : Progress). Follows terms plan q) (sym (choose-false (λ q. b) f stay p e)) h

pub not-both : (e : Effect) → traps e ≡ true → thrashes e ≡ false
not-both effects.Trapping h = refl
not-both effects.Thrash h = absurd (false≢true h)
not-both _ h = refl

-- What a trapping move finds underway

pub nothing-there : {A : Type 0} (o : Option A) → (is_some o ≡ true → false ≡ true) → o ≡ None
nothing-there None k = refl
nothing-there (Some b) k = absurd (false≢true (k refl))

traps-bides : (e : Effect) → traps e ≡ true → bides e ≡ false
traps-bides effects.Trapping h = refl
traps-bides effects.Bide h = absurd (false≢true h)
traps-bides _ h = refl

pub alone-trapping : (terms : Terms) (plan : Side → Plan) (s : Side) (e : Effect) (p : Progress) → plan s ≡ Doing e → traps e ≡ true → Follows terms plan p
    → ((underway_in s p.field).bide ≡ None) × ((underway_in s p.field).thrash ≡ None)
alone-trapping terms plan s e p doing tie h =
    let now = planned-holds s p.field p.action p.stream doing h in
    let u : IsUnderway e (underway_in s p.field) = subst (λ (x : Effect). IsUnderway x (underway_in s p.field)) now (party-valid s p.field h.field).active.conditions.underway in
    (nothing-there _ (λ on. sym (traps-bides e tie) ∙ u.bide_tied on), nothing-there _ (λ on. sym (not-both e tie) ∙ u.thrash_tied on))
