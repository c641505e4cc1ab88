-- After an update the fallen have no status, and the requests fit. That is all of a valid state but the kept
-- accuracy.
use Rattle.std.proofs.Common.{None, Option, Some, refl, subst, sym, ℕ, ◌+◌, ◌≡◌, Bool, List, [], ap, arith, false, get_or, get_or-set_other, inl, inr, not, set, suc, true, zero, ◌-◌, ◌∙◌, ◌∷◌, ◌≢◌, ◌≤◌, ◌⊎◌}
use Rattle.gen1_tables.specs.declared.effect.Effect.{Effect}
use Rattle.gen1_rolls.specs.Streams.{byte_at, Stream, IsStream, Link}
use Rattle.gen1_machine.specs.declared.side.Pick.{Pick}
use Rattle.gen1_machine.specs.declared.side.Pick.TheVariants.{Continue, Held, Idle, Use}
use Rattle.gen1_machine.specs.declared.side.Side.{Side}
use Rattle.gen1_machine.specs.declared.side.Side.TheVariants.{One, Two}
use Rattle.gen1_machine.specs.declared.terms.Outcome.{Outcome}
use Rattle.gen1_machine.specs.Sides.{other}
use Rattle.gen1_machine.specs.State.{changed_active, changed_conditions, with_kept_accuracy, Active, Field, Terms, changed_member, fallen, is_over, member_at, with_last_damage, with_member, with_outcome, with_party, with_requests, Party, State}
use Rattle.gen1_machine.specs.Moves.{Move}
use Rattle.gen1_machine.specs.Damage.{damage_from, roll_damage, DamageNumbers}
use Rattle.gen1_machine.specs.FixedDamage.{deal_fixed, fixed_damage, psywave}
use Rattle.gen1_machine.specs.HitOnItself.{hurt_itself, hurt_itself_by}
use Rattle.gen1_machine.specs.Gate.{confusion_test, gate, gate_of_move, may_hurt_itself}
use Rattle.gen1_machine.specs.Progress.{draw, fault, given, set_last_damage, stop, ◌▸◌, Action, Phase, Progress, note, on_active, on_conditions, on_field, stay, told, unless_stopped}
use Rattle.gen1_machine.specs.Ruling.{ruling_of}
use Rattle.gen1_machine.specs.Action.{act, action_parts, carry_out, damage_of, gate_or_held, keep_accuracy, lead_up, resume, usual_damage}
use Rattle.gen1_machine.specs.SwitchingIn.{send_out, replace, send_if_chosen, start, with_sent_out}
use Rattle.gen1_machine.specs.Turn.{do_part, end_spent_trapping, set_picked, Acts, Sends, Suffers}
use Rattle.gen1_machine.proofs.Keeps.{choose-keeps, draw_until-keeps, ends-keeps, given-keeps, lasts-keeps, note-keeps, on_active-keeps, on_conditions-keeps, set_last_damage-keeps, set_missed-keeps, stay-keeps, stop-keeps, then-keeps, Keeps, Spares, choose-leads, keeps-leads, leads-weaker, stay-leads, then-leads, Leads, then-goes}
use Rattle.gen1_machine.proofs.Sound.{on_field-leads, leads-from}
use Rattle.gen1_machine.proofs.Steady.{active-spared, begin-steady, bide_goes_on-steady, cant-steady, charge-steady, counter-steady, disabled_test-steady, early_effect-steady, gate_of_status-steady, gate_of_turn-steady, hit_or_miss-steady, knock_out-steady, land_on_foes_substitute-steady, land_on_hp-steady, late_effect-steady, missed-spared, paralysis_test-steady, prelude-steady, residual-steady, roll_critical-steady, ruling-steady, see_if_going_on-steady, set_through_types-steady, strike-steady, use_move-steady, vary-steady, with_picked_move-leaves}
use Rattle.gen1_machine.proofs.Acts.{leads-passes, passes-choose, passes-leads, passes-stop, passes-then, Passes}
use Rattle.gen1_machine.proofs.TiedTurns.{Tied, choose-cases, turn-tied}
use Rattle.gen1_machine.proofs.Settled.{outcome-stays, first-turn, lives-any, nobody-faints, settled-stands, settled-turn, settle-settles, Done, Due, Next, Settled}
use Rattle.gen1_machine.proofs.FallenHealthy.{falling-acts, falling-hurts, falling-own, falling-steady, falling-tired, faulted-tired, sturdy-acts, sturdy-breaks, sturdy-falling, sturdy-own, sturdy-steady, sturdy-tired, uncut-sturdy, AllSoft, Ended, Falling, Sturdy, Tired, soft-all, soft-at, whole-soft, OthersSoft, Soft, stands-soft}
use Rattle.std.proofs.lemmas.Bool.{false≢true}
use Rattle.std.proofs.lemmas.Bool.Decides.{eqb_tells}
use Rattle.gen1_stats.specs.Members.{is_living, nobody, Member}
use Rattle.gen1_machine.specs.declared.side.Choice.{Choice}
use Rattle.gen1_machine.specs.declared.terms.Request.{Request}
use Rattle.gen1_machine.specs.Falls.{ask_nothing, close, faint_if_fallen, faint_in_order, settle, the_fallen_faint}
use Rattle.gen1_machine.specs.OfferedChoices.{offered_for}
use Rattle.gen1_machine.specs.Step.{close_update, is_among, opened, update, update_for}
use Rattle.gen1_machine.specs.Valid.{FallenAreHealthy, IsField, IsTerms, IsUnstarted, StandsAs}
use Rattle.gen1_machine.proofs.Free.{Free}
use Rattle.gen1_machine.proofs.Turns.{sent-place, the_fallen_faint-free}
use Rattle.gen1_machine.proofs.RunsEnd.{faints-goes, the_fallen_faint-goes, update-fewer, Ready, Waits}
use Rattle.gen1_machine.proofs.Fitting.{offered-fits}
use Rattle.gen1_machine.proofs.ValidSteps.{opened-sure}
use Rattle.gen1_tables.specs.declared.effect.Effect.TheVariants as effects
use Rattle.gen1_machine.specs.declared.terms.Outcome.TheVariants as outcomes
use Rattle.gen1_machine.specs.declared.side.Choice.TheVariants as choices
use Rattle.gen1_machine.specs.declared.event.Event.TheVariants as events
use Rattle.gen1_machine.specs.declared.terms.Request.TheVariants as requests

-- Health in a turn: a member that falls is noticed before anything else happens.

module _ {P Q R : Field → Action → Stream → Type 0} where
  given-passes : {A : Type 0} (read : Progress → A) {f : A → Phase} → ((x : A) → Passes P Q R (f x)) → Passes P Q R (given read f)
  unfolding given
  given-passes read k = record { passed = λ p h. (k (read p)).passed p h }

  draw-passes : {f : ℕ → Phase} → ((b : ℕ) → Passes P Q R (f b)) → Passes P Q R (draw f)
  unfolding draw
  draw-passes k = record { passed = λ p h. (k (byte_at p.stream p.drawn)).passed (record p { drawn = p.drawn + 1 }) h }

-- A phase that hurts no member, one that may hurt and stops, and one that may end in a fault

abbrev Goes : Phase → Type 0
Goes f = Passes Sturdy Sturdy Tired f

keeps-goes : {f : Phase} → Keeps Sturdy f → Goes f
keeps-goes k = leads-passes (keeps-leads k) sturdy-tired

falls : {f : Phase} → Keeps Falling f → Leads Sturdy Tired f
falls k = leads-weaker (leads-from sturdy-falling k) falling-tired

stops-goes : {f : Phase} → Leads Sturdy Tired f → Goes (f ▸ stop)
stops-goes k = passes-then (leads-passes k (λ f a w h. h)) (passes-stop (λ f a w h. h))

fault-ends : (n : ℕ) {Q : Field → Action → Stream → Type 0} → Passes Sturdy Q Tired (fault n)
unfolding fault
fault-ends n = passes-then (leads-passes (on_field-leads _ (faulted-tired n)) (λ f a w h. h)) (passes-stop (λ f a w h. h))

-- The gate

hurt_itself_by-ends : (s : Side) (o : Option ℕ) → Passes Sturdy Tired Tired (hurt_itself_by s o)
unfolding hurt_itself_by
hurt_itself_by-ends s None = fault-ends 1
hurt_itself_by-ends s (Some damage) = leads-passes (falls (then-keeps (set_last_damage-keeps damage (falling-steady.damage damage))
    (choose-keeps _ (given-keeps _ (λ o. land_on_foes_substitute-steady falling-steady s damage o)) (land_on_hp-steady falling-steady s _ damage falling-hurts)))) (λ f a w h. h)

hurt_itself-goes : (s : Side) → Goes (hurt_itself s)
unfolding hurt_itself
hurt_itself-goes s =
    let own = sturdy-own s in
    passes-then (keeps-goes (on_conditions-keeps s _ (own.conditions _)))
    (passes-then (keeps-goes (on_conditions-keeps s _ (own.conditions _)))
    (passes-then (keeps-goes (on_conditions-keeps s _ (own.conditions _)))
    (passes-then (given-passes _ (λ n. hurt_itself_by-ends s _)) (passes-stop (λ f a w h. h)))))

confusion-goes : (s : Side) (o : Option ℕ) → Goes (confusion_test s o)
unfolding confusion_test may_hurt_itself
confusion-goes s None = keeps-goes stay-keeps
confusion-goes s (Some turns) =
    let own = sturdy-own s in
    passes-choose _ (keeps-goes (ends-keeps s _ _ (own.conditions _)))
    (passes-then (keeps-goes (lasts-keeps s _ _ (own.conditions _))) (draw-passes (λ b. passes-choose _ (hurt_itself-goes s) (keeps-goes stay-keeps))))

gate_of_move-goes : (s : Side) (pick : Pick) → Goes (gate_of_move s pick)
unfolding gate_of_move
gate_of_move-goes s pick = passes-then (given-passes _ (confusion-goes s))
    (keeps-goes (then-keeps (disabled_test-steady sturdy-steady s pick) (then-keeps (paralysis_test-steady sturdy-steady s (sturdy-breaks s)) (choose-keeps _ stop-keeps stay-keeps))))

gate-goes : (s : Side) (pick : Pick) → Goes (gate s pick)
unfolding gate
gate-goes s pick = passes-then (keeps-goes (gate_of_status-steady sturdy-steady s))
    (passes-then (keeps-goes (gate_of_turn-steady sturdy-steady s)) (gate_of_move-goes s pick))

gate_or_held-goes : (s : Side) (pick : Pick) → Goes (gate_or_held s pick)
unfolding gate_or_held
gate_or_held-goes s Held = keeps-goes (cant-steady sturdy-steady s _)
gate_or_held-goes s Continue = gate-goes s Continue
gate_or_held-goes s Idle = gate-goes s Idle
gate_or_held-goes s (Use used) = gate-goes s (Use used)

-- Damage

damage_from-goes : (n : DamageNumbers) (o : Option ℕ) → Goes (damage_from n o)
unfolding damage_from
damage_from-goes n None = fault-ends 1
damage_from-goes n (Some d) = keeps-goes (then-keeps (set_through_types-steady sturdy-steady)
    (then-keeps (set_missed-keeps _ (missed-spared sturdy-steady _)) (vary-steady sturdy-steady _)))

usual_damage-goes : (s : Side) (move : Move) → Goes (usual_damage s move)
unfolding usual_damage roll_damage
usual_damage-goes s move = passes-then (keeps-goes (set_last_damage-keeps 0 (sturdy-steady.damage 0)))
    (passes-then (keeps-goes (roll_critical-steady sturdy-steady s move))
    (passes-then (given-passes _ (λ n. damage_from-goes n _)) (keeps-goes (hit_or_miss-steady sturdy-steady s move sturdy-acts))))

dealt : (n : ℕ) → Goes (set_last_damage n)
dealt n = keeps-goes (set_last_damage-keeps n (sturdy-steady.damage n))

psywave-goes : (level : ℕ) → Goes (psywave level)
unfolding psywave
psywave-goes level = passes-choose _ (fault-ends 2) (keeps-goes (draw_until-keeps _ (λ b. set_last_damage-keeps b (sturdy-steady.damage b))))

deal_fixed-goes : (s : Side) (move : ℕ) → Goes (deal_fixed s move)
unfolding deal_fixed
deal_fixed-goes s move =
    passes-choose _ (dealt 20) (passes-choose _ (dealt 40) (passes-choose _ (given-passes _ (λ m. psywave-goes m.level))
    (passes-choose _ (given-passes _ (λ m. dealt _)) (given-passes _ (λ m. dealt _)))))

fixed_damage-goes : (s : Side) (move : Move) → Goes (fixed_damage s move)
unfolding fixed_damage
fixed_damage-goes s move = passes-then (keeps-goes (hit_or_miss-steady sturdy-steady s move sturdy-acts))
    (passes-choose _ (keeps-goes stay-keeps) (deal_fixed-goes s move.number))

damage_of-goes : (s : Side) (move : Move) (effect : Effect) → Goes (damage_of s move effect)
unfolding damage_of
damage_of-goes s move effects.Counter = keeps-goes (counter-steady sturdy-steady s move sturdy-acts)
damage_of-goes s move effects.FixedDamage = fixed_damage-goes s move
damage_of-goes s move effects.SuperFang = fixed_damage-goes s move
damage_of-goes s move effects.OneHitKnockOut = keeps-goes (knock_out-steady sturdy-steady s move sturdy-acts)
damage_of-goes s move _ = passes-choose _ (usual_damage-goes s move) (dealt 0)

-- An action

module _ (terms : Terms) (s : Side) where
  lead_up-goes : (pick : Pick) (move : Move) → Goes (lead_up s pick move)
  unfolding lead_up
  lead_up-goes pick move = passes-then (keeps-goes (charge-steady sturdy-steady s pick move))
      (passes-then (keeps-goes (use_move-steady sturdy-steady s pick move))
      (passes-then (passes-choose _ (stops-goes (falls (early_effect-steady falling-steady s move move.effect falling-hurts falling-acts))) (keeps-goes stay-keeps))
      (keeps-goes (prelude-steady sturdy-steady s move (sturdy-own s)))))

  carry_out-ends : (pick : Pick) (move : Move) → Passes Sturdy Tired Tired (carry_out (ruling_of terms) s pick move)
  unfolding carry_out
  carry_out-ends pick move =
      let r = ruling_of terms in
      let ruling = ruling-steady falling-steady terms falling-hurts in
      passes-then (keeps-goes (bide_goes_on-steady sturdy-steady s sturdy-acts))
      (passes-then (passes-choose _ (keeps-goes stay-keeps) (lead_up-goes pick move))
      (passes-then (passes-choose _ (keeps-goes stay-keeps) (damage_of-goes s move move.effect))
      (passes-then (passes-choose _ (keeps-goes stay-keeps)
      (passes-choose _ (stops-goes (falls (late_effect-steady falling-steady r s move move.effect ruling falling-acts))) (keeps-goes stay-keeps)))
      (leads-passes (falls (strike-steady falling-steady r s move ruling falling-hurts (falling-own s) falling-acts)) (λ f a w h. h)))))

  parts-end : (pick : Pick) → Leads Sturdy Tired (action_parts (ruling_of terms) s pick)
  unfolding action_parts
  parts-end pick = passes-leads (passes-then (gate_or_held-goes s pick)
      (passes-then (keeps-goes (see_if_going_on-steady sturdy-steady s pick sturdy-acts)) (given-passes _ (λ move. carry_out-ends pick move))))

  pub tired-active : (change : Active → Active) → ((a : Active) → (change a).place ≡ a.place) → Spares Tired (changed_active s change)
  unfolding changed_active
  tired-active change same = record { spared = λ f a w h. subst (λ o. Ended o (changed_active s change f)) (sym (outcome-stays s _ f)) (by s f f.outcome h) }
    where
      by : (s : Side) (f : Field) (o : Outcome) → Ended o f → Ended o (changed_active s change f)
      by One f outcomes.Ongoing h = (rw (same f.one.active) h.0, h.1)
      by Two f outcomes.Ongoing h = (h.0, rw (same f.two.active) h.1)
      by One f (outcomes.Fault n) h = h
      by Two f (outcomes.Fault n) h = h
      by s f outcomes.WinOne h = absurd h
      by s f outcomes.WinTwo h = absurd h
      by s f outcomes.Tie h = absurd h

  keep_accuracy-tired : Keeps Tired (keep_accuracy s)
  unfolding keep_accuracy with_kept_accuracy
  keep_accuracy-tired = given-keeps _ (λ byte. on_active-keeps s _ (tired-active _ (λ a. refl)))

  act-tired : (pick : Pick) → Leads Sturdy Tired (act (ruling_of terms) s pick)
  unfolding act resume
  act-tired pick = record { led = λ p h. keep_accuracy-tired.kept _ ((parts-end pick).led _ ((begin-steady sturdy-steady s sturdy-acts).kept p h)) }

  acts-tired : (pick : Pick) → Leads Sturdy Tired (do_part (ruling_of terms) (Acts s pick))
  unfolding do_part
  acts-tired pick = then-leads (keeps-leads (begin-steady sturdy-steady s sturdy-acts)) (choose-leads _ (stay-leads sturdy-tired) (act-tired pick)) sturdy-tired

  suffers-tired : Leads Sturdy Tired (do_part (ruling_of terms) (Suffers s))
  unfolding do_part
  suffers-tired = falls (residual-steady falling-steady s falling-hurts)

  pub send_out-sturdy : (place : ℕ) → Keeps Sturdy (send_out s place)
  unfolding send_out changed_active
  send_out-sturdy place = then-keeps (given-keeps _ (λ m. on_active-keeps s _ (record { spared = λ f a w h. by s _ f h })))
      (then-keeps (on_conditions-keeps (other s) _ ((sturdy-own (other s)).conditions _)) (note-keeps _))
    where
      by : (s : Side) (b : Active) (f : Field) → (f.outcome ≡ outcomes.Ongoing) × AllSoft f.one × AllSoft f.two
          → let g : Field = changed_active s (λ a. b) f in (g.outcome ≡ outcomes.Ongoing) × AllSoft g.one × AllSoft g.two
      by One b f h = h
      by Two b f h = h

  sends-tired : (place : ℕ) → Leads Sturdy Tired (do_part (ruling_of terms) (Sends s place))
  unfolding do_part
  sends-tired place = leads-weaker (keeps-leads (then-keeps (begin-steady sturdy-steady s sturdy-acts) (send_out-sturdy place))) sturdy-tired

  ends-tired : Keeps Tired (end_spent_trapping s)
  unfolding end_spent_trapping changed_conditions
  ends-tired = choose-keeps _ (on_conditions-keeps s _ (tired-active _ (λ a. refl))) stay-keeps

  picked-sturdy : (pick : Pick) → Keeps Sturdy (set_picked s pick)
  unfolding set_picked
  picked-sturdy pick = given-keeps _ (λ a. on_active-keeps s _ (active-spared sturdy-steady s _ (with_picked_move-leaves _)))

pub fallen-tied : (terms : Terms) → Tied terms Sturdy Tired
fallen-tied terms = record {
  weaker = sturdy-tired;
  uncut = uncut-sturdy;
  acts = λ plan s pick fits. record { led = λ p h. (acts-tired terms s pick).led p h.1 };
  suffers = λ s. suffers-tired terms s;
  sends = λ s place. sends-tired terms s place;
  ends = λ s. ends-tired terms s;
  picked_move = λ s pick. picked-sturdy terms s pick;
  flinch = λ s. on_conditions-keeps s _ ((sturdy-own s).conditions _);
}

-- The fallen faint

same-or-not : (i j : ℕ) → (i ≡ j) ⊎ (i ≢ j)
same-or-not i j = elim (eqb_tells i j) [ inl e ↦ inl e.1 | inr e ↦ inr e.1 ]

set-same : (members : List Member) (i : ℕ) (m : Member) → Soft m → Soft (get_or (set members i m) i nobody)
set-same [] i m h = λ e. refl
set-same (x ∷ members) zero m h = h
set-same (x ∷ members) (suc i) m h = set-same members i m h

fallen-soft : (t : Party) → OthersSoft t → AllSoft (with_member t.active.place (fallen (member_at t.active.place t)) t)
unfolding fallen
fallen-soft t h i = by (same-or-not i (t.active.place - 1))
  where
    m : Member
    m = fallen (member_at t.active.place t)

    by : (i ≡ (t.active.place - 1)) ⊎ (i ≢ (t.active.place - 1)) → Soft (get_or (set t.members (t.active.place - 1) m) i nobody)
    by (inl e) = rw e (set-same t.members (t.active.place - 1) m (λ none. refl))
    by (inr differs) = rw (get_or-set_other t.members (t.active.place - 1) i m nobody differs) (h i differs)

-- One side after the other

abbrev Facts : (Party → Type 0) → (Party → Type 0) → Field → Action → Stream → Type 0
Facts A B f a w = (f.outcome ≡ outcomes.Ongoing) × A f.one × B f.two

faint-one : (B : Party → Type 0) → Leads (Facts OthersSoft B) (Facts AllSoft B) (faint_if_fallen One)
unfolding faint_if_fallen told changed_member stay
faint-one B = choose-cases _ _ _ (λ p e h. (h.0, fallen-soft p.field.one h.1, h.2))
    (λ p e h. (h.0, whole-soft p.field.one (stands-soft p.field.one e) h.1, h.2))

faint-two : (A : Party → Type 0) → Leads (Facts A OthersSoft) (Facts A AllSoft) (faint_if_fallen Two)
unfolding faint_if_fallen told changed_member stay
faint-two A = choose-cases _ _ _ (λ p e h. (h.0, h.1, fallen-soft p.field.two h.2))
    (λ p e h. (h.0, h.1, whole-soft p.field.two (stands-soft p.field.two e) h.2))

the_fallen-soft : (p : Progress) → p.stopped ≡ false → Falling p.field p.action p.stream → let q : Progress = the_fallen_faint p in Sturdy q.field q.action q.stream
unfolding the_fallen_faint faint_in_order given
the_fallen-soft p going h = by p.action.side
  where
    by : (s : Side) → let q : Progress = faint_in_order s p in Sturdy q.field q.action q.stream
    by One = subst (λ q. Sturdy q.field q.action q.stream) (sym (then-goes (faint_if_fallen Two) (faint_if_fallen One) p ((faints-goes Two).goes p going)))
        ((faint-one AllSoft).led _ ((faint-two OthersSoft).led p h))
    by Two = subst (λ q. Sturdy q.field q.action q.stream) (sym (then-goes (faint_if_fallen One) (faint_if_fallen Two) p ((faints-goes One).goes p going)))
        ((faint-two AllSoft).led _ ((faint-one OthersSoft).led p h))

-- After an update

pub record Standing (terms : Terms) (f : Field) : Type 0 where
  pub turn : 1 ≤ f.turn
  pub fallen_one : FallenAreHealthy f.one.members
  pub fallen_two : FallenAreHealthy f.two.members
  pub requests : StandsAs f.outcome terms f

settled-soft : (limit : ℕ) (f g : Field) → AllSoft f.one × AllSoft f.two → Settled limit f g → AllSoft g.one × AllSoft g.two
settled-soft limit f g h (Done o d e) = rw e h
settled-soft limit f g h (Due undecided a b x y some e) = rw e h
settled-soft limit f g h (Next undecided none e) = rw e h

settled-standing : (terms : Terms) (f g : Field) (a : Action) (w : Stream) → Sturdy f a w → f.turn ≤ terms.limit → 1 ≤ g.turn → Settled terms.limit f g → Standing terms g
settled-standing terms f g a w h l turn settled =
    let soft = settled-soft terms.limit f g (h.1, h.2) settled in
    record {
      turn = turn;
      fallen_one = soft-all g.one.members soft.0;
      fallen_two = soft-all g.two.members soft.1;
      requests = settled-stands terms f g l h.0 settled;
    }

faulted-standing : (terms : Terms) (n : ℕ) (p : Progress) → p.stopped ≡ false → p.field.outcome ≡ outcomes.Fault n → Tired p.field p.action p.stream → 1 ≤ p.field.turn
    → Standing terms (close (ruling_of terms) (outcomes.Fault n) p).field
unfolding close ask_nothing on_field with_requests note ◌▸◌ unless_stopped
faulted-standing terms n p going e h turn = by p.stopped
  where
    g : Field
    g = record p.field { request_one = requests.Pass; request_two = requests.Pass }

    soft : AllSoft p.field.one × AllSoft p.field.two
    soft = subst (λ o. Ended o p.field) e h

    all : Standing terms g
    all = record {
      turn = turn;
      fallen_one = soft-all p.field.one.members soft.0;
      fallen_two = soft-all p.field.two.members soft.1;
      requests = rw e (record { one = refl; two = refl });
    }

    by : (b : Bool) → Standing terms (elim b as (λ _. Progress) [ true ↦ record p { field = g } | false ↦ note (λ f. events.Fault n) (record p { field = g }) ]).field
    by true = all
    by false = all

turn-free : (n : ℕ) → Free (λ f a w. f.turn ≡ n)
unfolding changed_member changed_active with_last_damage with_outcome
turn-free n = record {
  member = λ s change. record { spared = λ f a w h. turn-stays s _ f ∙ h };
  active = λ s change leaves. record { spared = λ f a w h. turn-stays s _ f ∙ h };
  damage = λ n. record { spared = λ f a w h. h };
  outcome = λ n. record { spared = λ f a w h. h };
  action = λ change. record { spared = λ f a w h. h };
}
  where
    turn-stays : (s : Side) (t : Party) (f : Field) → (with_party s t f).turn ≡ f.turn
    turn-stays One t f = refl
    turn-stays Two t f = refl

abbrev pub Begun : Terms → Field → Type 0
Begun terms f = (1 ≤ terms.limit) × (f.turn ≡ 0) × (is_living (member_at f.one.active.place f.one) ≡ true) × (is_living (member_at f.two.active.place f.two) ≡ true)

not-fallen : (b : Bool) → b ≡ true → not b ≡ false
not-fallen b e = rw e refl

-- From a known turn, or before the first one.
pub close-standing : (terms : Terms) (p : Progress) → Tired p.field p.action p.stream → p.field.turn ≤ terms.limit
    → (1 ≤ p.field.turn) ⊎ ((p.field.outcome ≡ outcomes.Ongoing) × Begun terms p.field)
    → Standing terms (close_update (ruling_of terms) p).field
unfolding close_update close
close-standing terms p h l turns = by p.field.outcome refl h
  where
    q : Progress
    q = record p { stopped = false }

    after : Progress
    after = the_fallen_faint q

    same-turn : after.field.turn ≡ p.field.turn
    same-turn = (the_fallen_faint-free (turn-free p.field.turn) terms).kept q refl

    comes : (1 ≤ p.field.turn) ⊎ ((p.field.outcome ≡ outcomes.Ongoing) × Begun terms p.field) → (g : Field) → Settled terms.limit after.field g → 1 ≤ g.turn
    comes (inl more) g settled = omega (arith, settled-turn terms.limit after.field g settled, same-turn, more)
    comes (inr begun) g settled =
        let one = not-fallen _ begun.1.2 in
        let two = not-fallen _ begun.1.3 in
        first-turn terms.limit p.field g begun.1.0 begun.1.1 (lives-any p.field.one.members _ begun.1.2) (lives-any p.field.two.members _ begun.1.3) one two
        (subst (λ x. Settled terms.limit x.field g) (nobody-faints q refl one two) settled)

    usual : Falling p.field p.action p.stream → Standing terms ((the_fallen_faint ▸ settle (ruling_of terms)) q).field
    usual k =
        let goes = the_fallen_faint-goes.goes q refl in
        let settled = settle-settles (ruling_of terms) after goes in
        subst (λ x. Standing terms x.field) (sym (then-goes the_fallen_faint (settle (ruling_of terms)) q goes))
        (settled-standing terms after.field _ after.action after.stream (the_fallen-soft q refl k) (omega (arith, same-turn, l)) (comes turns _ settled) settled)

    begun-late : (n : ℕ) → p.field.outcome ≡ outcomes.Fault n → (1 ≤ p.field.turn) ⊎ ((p.field.outcome ≡ outcomes.Ongoing) × Begun terms p.field) → 1 ≤ p.field.turn
    begun-late n e (inl more) = more
    begun-late n e (inr begun) = absurd (false≢true (ap is_over (sym begun.0 ∙ e)))

    by : (o : Outcome) → p.field.outcome ≡ o → Ended p.field.outcome p.field → Standing terms (close (ruling_of terms) o q).field
    by outcomes.Ongoing e k = let j = subst (λ o. Ended o p.field) e k in usual (e, j.0, j.1)
    by (outcomes.Fault n) e k = faulted-standing terms n q refl e h (begun-late n e turns)
    by outcomes.WinOne e k = absurd (subst (λ o. Ended o p.field) e k)
    by outcomes.WinTwo e k = absurd (subst (λ o. Ended o p.field) e k)
    by outcomes.Tie e k = absurd (subst (λ o. Ended o p.field) e k)

-- An update of a battle that has begun

pub replace-keeps : {P : Field → Action → Stream → Type 0} → ((s : Side) (place : ℕ) → Keeps P (send_out s place)) → (x y : Choice) → Keeps P (replace x y)
unfolding replace send_if_chosen
replace-keeps {P} k x y = then-keeps (by One x) (by Two y)
  where
    by : (s : Side) (c : Choice) → Keeps P (send_if_chosen s c)
    by s (choices.Switch place) = k s place
    by s choices.Pass = stay-keeps
    by s (choices.Move n) = stay-keeps

replaced : (terms : Terms) (x y : Choice) (p : Progress) → Sturdy p.field p.action p.stream → let q : Progress = replace x y p in Tired q.field q.action q.stream
replaced terms x y p h = let q : Progress = replace x y p in sturdy-tired q.field q.action q.stream ((replace-keeps (λ s place. send_out-sturdy terms s place) x y).kept p h)

pub started-tired : (s : State) (x y : Choice) (q r : Request) → IsStream (Link s.seed) → IsField s.terms s.field → Waits q r s.terms.limit s.field → is_over s.field.outcome ≡ false
    → is_among x (offered_for q One s.field) ≡ true → is_among y (offered_for r Two s.field) ≡ true → Sturdy s.field (opened s).action (Link s.seed)
    → let p : Progress = update_for (ruling_of s.terms) q r x y (opened s) in Tired p.field p.action p.stream
unfolding update_for
started-tired s x y requests.Move requests.Move seed h w o a b k =
    (turn-tied s.terms (fallen-tied s.terms) x y (opened s) (opened-sure s seed h) k (offered-fits One x s.field h a) (offered-fits Two y s.field h b)).1
started-tired s x y requests.Pass requests.Pass seed h (inl over) o a b k = absurd (false≢true (sym o ∙ over))
started-tired s x y requests.Pass requests.Pass seed h (inr nobody) o a b k = absurd (omega (arith, nobody.0, h.one.place))
started-tired s x y requests.Switch requests.Switch seed h w o a b k = replaced s.terms x y (opened s) k
started-tired s x y requests.Switch requests.Pass seed h w o a b k = replaced s.terms x y (opened s) k
started-tired s x y requests.Pass requests.Switch seed h w o a b k = replaced s.terms x y (opened s) k
started-tired s x y requests.Pass requests.Move seed h w o a b k = absurd w
started-tired s x y requests.Switch requests.Move seed h w o a b k = absurd w
started-tired s x y requests.Move requests.Pass seed h w o a b k = absurd w
started-tired s x y requests.Move requests.Switch seed h w o a b k = absurd w

not-over : (o : Outcome) (terms : Terms) (f : Field) → StandsAs o terms f → is_over o ≡ false → o ≡ outcomes.Ongoing
not-over outcomes.Ongoing terms f h e = refl
not-over outcomes.WinOne terms f h e = absurd (false≢true (sym e))
not-over outcomes.WinTwo terms f h e = absurd (false≢true (sym e))
not-over outcomes.Tie terms f h e = absurd (false≢true (sym e))
not-over (outcomes.Fault n) terms f h e = absurd (false≢true (sym e))

pub standing-sturdy : (s : State) → Standing s.terms s.field → is_over s.field.outcome ≡ false → Sturdy s.field (opened s).action (Link s.seed)
standing-sturdy s h o = (not-over s.field.outcome s.terms s.field h.requests o, soft-at s.field.one.members h.fallen_one, soft-at s.field.two.members h.fallen_two)

started-standing : (s : State) (x y : Choice) → IsStream (Link s.seed) → IsField s.terms s.field → Standing s.terms s.field → Ready s.terms.limit s.field → is_over s.field.outcome ≡ false
    → is_among x (offered_for s.field.request_one One s.field) ≡ true → is_among y (offered_for s.field.request_two Two s.field) ≡ true
    → Standing s.terms (update (ruling_of s.terms) x y (opened s)).field
unfolding update
started-standing s x y seed h k ready o a b =
    let f = s.field in
    let same = (update-fewer s x y f.request_one f.request_two ready o a b).turned in
    close-standing s.terms _ (started-tired s x y f.request_one f.request_two seed h ready o a b (standing-sturdy s k o))
    (omega (arith, same, h.turn)) (inl (omega (arith, same, k.turn)))

-- The first update

start-begun : (s : State) → IsTerms s.terms → IsUnstarted s.terms s.field → let q : Progress = start (opened s) in Begun s.terms q.field × Sturdy q.field q.action q.stream
unfolding start send_out given on_active on_conditions on_field changed_active changed_conditions with_sent_out note ◌▸◌ unless_stopped
start-begun s t h = (
  (
    t.limit.0,
    h.turn,
    rw (sent-place 1 (member_at 1 s.field.one)) h.first_one,
    rw (sent-place 1 (member_at 1 s.field.two)) h.first_two,
  ),
  (h.outcome, soft-at s.field.one.members h.fallen_one, soft-at s.field.two.members h.fallen_two),
)

unstarted-standing : (s : State) (x y : Choice) → IsTerms s.terms → IsUnstarted s.terms s.field → Standing s.terms (update (ruling_of s.terms) x y (opened s)).field
unfolding update update_for
unstarted-standing s x y t h =
    let r = ruling_of s.terms in
    subst (λ q. Standing s.terms (close_update r (update_for r q s.field.request_two x y (opened s))).field) (sym h.requests.one)
    (subst (λ q. Standing s.terms (close_update r (update_for r requests.Pass q x y (opened s))).field) (sym h.requests.two)
    (let b = start-begun s t h in
    let q : Progress = start (opened s) in
    close-standing s.terms q (sturdy-tired q.field q.action q.stream b.1) (omega (arith, b.0.1)) (inr (b.1.0, b.0))))

pub update-standing : (s : State) (x y : Choice) → IsTerms s.terms → IsStream (Link s.seed) → IsUnstarted s.terms s.field ⊎ (IsField s.terms s.field × Standing s.terms s.field)
    → Ready s.terms.limit s.field → is_over s.field.outcome ≡ false
    → is_among x (offered_for s.field.request_one One s.field) ≡ true → is_among y (offered_for s.field.request_two Two s.field) ≡ true
    → Standing s.terms (update (ruling_of s.terms) x y (opened s)).field
update-standing s x y t seed (inl h) ready o a b = unstarted-standing s x y t h
update-standing s x y t seed (inr h) ready o a b = started-standing s x y seed h.0 h.1 ready o a b
