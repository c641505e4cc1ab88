-- A turn keeps an accuracy only with rage or thrashing.
use Rattle.std.proofs.Common.{Bool, None, Option, Some, false, is_some, not, refl, subst, sym, true, unwrap_or, ℕ, ◌&&◌, ◌||◌, ◌≡◌}
use Rattle.std.proofs.lemmas.Bool.{false≢true}
use Rattle.gen1_tables.specs.declared.effect.Effect.{Effect}
use Rattle.gen1_tables.specs.declared.effect.Effect.TheVariants as effects
use Rattle.gen1_rolls.specs.Streams.{Stream}
use Rattle.gen1_stats.specs.Members.{Member}
use Rattle.gen1_machine.specs.declared.side.Pick.{Pick}
use Rattle.gen1_machine.specs.declared.side.Pick.TheVariants.{Continue, Held, Idle, Use}
use Rattle.gen1_machine.specs.declared.side.Side.{Side}
use Rattle.gen1_machine.specs.declared.side.Side.TheVariants.{One, Two}
use Rattle.gen1_machine.specs.Sides.{other}
use Rattle.gen1_machine.specs.Conditions.{Underway}
use Rattle.gen1_machine.specs.State.{active_in, changed_active, member_in, underway_in, with_kept_accuracy, Field, Terms}
use Rattle.gen1_tables.specs.Effects.{bides, rages, thrashes, traps}
use Rattle.gen1_machine.specs.Moves.{move_at}
use Rattle.gen1_machine.specs.Picks.{is_use, number_in, used_by}
use Rattle.gen1_machine.specs.Progress.{given, on_action, on_active, on_field, Action, Phase, Progress}
use Rattle.gen1_machine.specs.Ruling.{ruling_of}
use Rattle.gen1_machine.specs.Action.{accuracy_after, act, action_parts, begin, carry_out, gate_or_held, keep_accuracy, keeps_going, move_taken_in, resume, see_if_going_on, set_going_on}
use Rattle.gen1_machine.specs.SwitchingIn.{send_out, sent_out, with_sent_out}
use Rattle.gen1_machine.specs.Turn.{do_part, end_spent_trapping, set_picked, Acts, Sends, Suffers}
use Rattle.gen1_machine.specs.Valid.{IsUnderway, KeepsAccuracy}
use Rattle.gen1_machine.specs.Plans.{FitsPick, IsPlanned, Plan}
use Rattle.gen1_machine.proofs.Keeps.{choose-keeps, given-keeps, note-keeps, on_active-keeps, on_conditions-keeps, stay-keeps, then-keeps, Keeps, Spares, choose-leads, keeps-leads, stay-leads, then-leads, Leads}
use Rattle.gen1_machine.proofs.Sound.{party-valid, planned-holds, untied}
use Rattle.gen1_machine.proofs.SoundWalk.{gate_or_held-sound, see_if_going_on-sound}
use Rattle.gen1_machine.proofs.Acts.{begin-keeps, begin-quiet, either, leads-passes, no-bide, passes-leads, passes-then, quiet-sound, After, IfStopped, Quiet}
use Rattle.gen1_machine.proofs.Steady as steadies
use Rattle.gen1_machine.proofs.Steady.{act-steady, begin-steady, gate_or_held-steady, residual-steady, ruling-steady, with_penalty_of-leaves, with_picked_move-leaves, without_flinch-leaves, without_trapping-leaves, Own}
use Rattle.gen1_machine.proofs.TiedTurns.{Tied}
use Rattle.gen1_machine.proofs.ValidSteps.{both-keep}
use Rattle.gen1_machine.proofs.KeptAccuracy.{active-at, aimed, at-faults, at-hurts, at-steady, foe-own, fresh-alone, fresh-breaks, fresh-keeps, kept-stands, keeps_on, off-keeps, stands-alone, stands-fresh, tested-keeps, then-runs, At, Fresh, Keeps_on, Off, On, Ready, Runs, Stands, Tested, carry_out-off, carry_out-runs}

-- What is noted as an action goes on

abbrev Seen : Side → Pick → Field → Action → Stream → Type 0
Seen s pick f x w = Fresh (active_in s f) x × (x.going_on ≡ true → (is_use pick ≡ false) × (keeps_going (underway_in s f) ≡ true))

see : (s : Side) (pick : Pick) → Leads (At Fresh s) (Seen s pick) (see_if_going_on s pick)
unfolding see_if_going_on set_going_on on_action given
see s pick = record { led = λ p h. (h, by (is_use pick) (keeps_going (underway_in s p.field))) }
  where
    by : (a b : Bool) → (not a && b) ≡ true → (a ≡ false) × (b ≡ true)
    by false b e = (refl, e)
    by true b e = absurd (false≢true e)

-- What the current move explains after it is settled

is-off : (r : Bool) (o : Option ℕ) → (r ≡ true → false ≡ true) → (is_some o ≡ true → false ≡ true) → (r || is_some o) ≡ false
is-off true o k l = absurd (false≢true (k refl))
is-off false None k l = refl
is-off false (Some n) k l = absurd (false≢true (l refl))

still-on : (r : Bool) (o t : Option ℕ) → (is_some t ≡ true → false ≡ true) → (is_some o || is_some t || r) ≡ true → (r || is_some o) ≡ true
still-on true o t k e = refl
still-on false (Some n) t k e = refl
still-on false None None k e = absurd (false≢true e)
still-on false None (Some n) k e = absurd (false≢true (k refl))

traps-not : (e : Effect) → keeps_on e ≡ true → (bides e ≡ false) × (traps e ≡ false)
traps-not effects.Thrash h = (refl, refl)
traps-not effects.Rage h = (refl, refl)
traps-not _ h = absurd (false≢true h)

neither : (a b : Bool) → (a || b) ≡ false → (a ≡ false) × (b ≡ false)
neither true b e = absurd (false≢true (sym e))
neither false true e = absurd (false≢true (sym e))
neither false false e = (refl, refl)

module _ (terms : Terms) (s : Side) (pick : Pick) where
  weaker : (f : Field) (x : Action) (w : Stream) → Seen s pick f x w → At Keeps_on s f x w
  weaker f x w h = fresh-keeps (active_in s f) x h.0

  carried : (n : ℕ) (p : Progress) → p.stopped ≡ false → IsUnderway (move_at n).effect (underway_in s p.field) → p.action.letting_go ≡ false → Seen s pick p.field p.action p.stream
      → After (At Keeps_on s) (At Keeps_on s) (carry_out (ruling_of terms) s pick (move_at n) p)
  carried n p going tie letting h = by (keeps_on (move_at n).effect) refl
    where
      u : Underway
      u = underway_in s p.field

      q : Progress
      q = carry_out (ruling_of terms) s pick (move_at n) p

      loosen : (b : Bool) → IfStopped b (Keeps_on (active_in s q.field) q.action) (Tested (active_in s q.field) q.action) → IfStopped b (Keeps_on (active_in s q.field) q.action) (Keeps_on (active_in s q.field) q.action)
      loosen true k = k
      loosen false k = tested-keeps (active_in s q.field) q.action k

      by : (b : Bool) → keeps_on (move_at n).effect ≡ b → After (At Keeps_on s) (At Keeps_on s) q
      by true e =
          let not = traps-not (move_at n).effect e in
          let none : u.bide ≡ None = no-bide u.bide (λ on. subst (λ b. b ≡ true) not.0 (tie.bide_tied on)) in
          let ready : Ready (active_in s p.field) p.action = (h.0.0, h.0.1, λ g. h.0.1 (still-on u.rage u.thrash u.trapping (λ on. subst (λ b. b ≡ true) not.1 (tie.trapping_tied on)) (h.1 g).1), letting) in
          loosen q.stopped ((carry_out-runs terms s (move_at n) e (aimed n e).0 (aimed n e).1 pick).passed p going (ready, none))
      by false e =
          let no = neither (thrashes (move_at n).effect) (rages (move_at n).effect) e in
          let off : Off (active_in s p.field) p.action = is-off u.rage u.thrash (λ on. subst (λ b. b ≡ true) no.1 (tie.rage_tied on)) (λ on. subst (λ b. b ≡ true) no.0 (tie.thrash_tied on)) in
          let k = off-keeps (active_in s q.field) q.action ((carry_out-off terms s (move_at n) no.0 no.1 pick).kept p off) in
          either q.stopped k k

  -- The move that a pick uses explains what is underway.
  explained : (plan : Side → Plan) (f : Field) (x : Action) (w : Stream) → FitsPick pick (plan s) → IsPlanned terms plan f x w → IsUnderway (move_taken_in s pick f).effect (underway_in s f)
  explained plan f x w fits h = by pick fits
    where
      by : (pick : Pick) → FitsPick pick (plan s) → IsUnderway (move_taken_in s pick f).effect (underway_in s f)
      by (Use used) fits = untied _ (underway_in s f) (planned-holds s f x w fits.1 h).2
      by Continue fits = (party-valid s f h.field).active.conditions.underway
      by Idle fits = (party-valid s f h.field).active.conditions.underway
      by Held fits = (party-valid s f h.field).active.conditions.underway

  abbrev Before : (Side → Plan) → Field → Action → Stream → Type 0
  Before plan f x w = Quiet terms plan f x w × At Fresh s f x w

  parts : (plan : Side → Plan) → FitsPick pick (plan s) → Leads (Before plan) (At Keeps_on s) (action_parts (ruling_of terms) s pick)
  unfolding action_parts given
  parts plan fits = passes-leads (passes-then {Q = Before plan} (leads-passes (keeps-leads gates) (λ f x w h. fresh-keeps (active_in s f) x h.1))
      (then-runs {Q = λ f x w. Quiet terms plan f x w × Seen s pick f x w} (leads-passes sees (λ f x w h. weaker f x w h.1)) carries))
    where
      gates : Keeps (Before plan) (gate_or_held s pick)
      gates = both-keep (gate_or_held-sound (quiet-sound terms plan) s pick)
          (gate_or_held-steady (at-steady fresh-alone s) s pick (at-hurts fresh-alone s) (at-faults fresh-alone s) (fresh-breaks s s))

      sees : Leads (Before plan) (λ f x w. Quiet terms plan f x w × Seen s pick f x w) (see_if_going_on s pick)
      sees = record { led = λ p h. ((see_if_going_on-sound (quiet-sound terms plan) s pick).kept p h.0, (see s pick).led p h.1) }

      carries : Runs (λ f x w. Quiet terms plan f x w × Seen s pick f x w) (At Keeps_on s) (At Keeps_on s) (given (λ p. move_taken_in s pick p.field) (carry_out (ruling_of terms) s pick))
      carries = record { passed = λ p going h. settled p going h }
        where
          settled : (p : Progress) → p.stopped ≡ false → Quiet terms plan p.field p.action p.stream × Seen s pick p.field p.action p.stream
              → After (At Keeps_on s) (At Keeps_on s) (given (λ p. move_taken_in s pick p.field) (carry_out (ruling_of terms) s pick) p)
          settled p going h = carried (number_in (used_by pick (active_in s p.field).current_move) (member_in s p.field).moves) p going
              (explained plan p.field p.action p.stream fits h.0.0) h.0.1 h.1

  begins : (plan : Side → Plan) → Leads (λ f x w. IsPlanned terms plan f x w × At Stands s f x w) (Before plan) (begin s)
  unfolding begin on_action
  begins plan = record { led = λ p h. ((begin-quiet terms plan s).led p h.0, begun p h.1) }
    where
      begun : (p : Progress) → At Stands s p.field p.action p.stream → let q : Progress = begin s p in At Fresh s q.field q.action q.stream
      begun p h = (refl, stands-fresh (active_in s p.field) s h)

  kept : Leads (At Keeps_on s) (At Stands s) (keep_accuracy s)
  unfolding keep_accuracy given on_active on_field changed_active with_kept_accuracy
  kept = record { led = λ p h. by s p.field p.action h }
    where
      by : (s : Side) (f : Field) (x : Action) → Keeps_on (active_in s f) x
          → let g : Field = changed_active s (with_kept_accuracy (accuracy_after (underway_in s f) x.accuracy_tested (active_in s f).kept_accuracy)) f in Stands (active_in s g) x
      by One f x h = kept-stands (On f.one.active) (unwrap_or x.accuracy_tested f.one.active.kept_accuracy) h
      by Two f x h = kept-stands (On f.two.active) (unwrap_or x.accuracy_tested f.two.active.kept_accuracy) h

  act-own : (plan : Side → Plan) → FitsPick pick (plan s) → Leads (λ f x w. IsPlanned terms plan f x w × At Stands s f x w) (At Stands s) (act (ruling_of terms) s pick)
  unfolding act resume
  act-own plan fits = record { led = λ p h. kept.led _ ((parts plan fits).led _ ((begins plan).led p h)) }

  -- The foe's action

  stands-settles : (v : Side) → steadies.Acts (At Stands v)
  stands-settles v = record { action = λ change. record { spared = λ f x w h. h } }

  foe : Own (At Stands (other s)) s
  foe = foe-own stands-alone (other s) s refl

  act-foe : Keeps (At Stands (other s)) (act (ruling_of terms) s pick)
  act-foe =
      let steady = at-steady stands-alone (other s) in
      let hurts = at-hurts stands-alone (other s) in
      act-steady steady (ruling_of terms) s pick (ruling-steady steady terms hurts) hurts (at-faults stands-alone (other s)) (record { broken = foe.conditions _ }) foe (stands-settles (other s))

-- Both sides

abbrev pub Both : Field → Action → Stream → Type 0
Both f x w = At Stands One f x w × At Stands Two f x w

this : (s : Side) (f : Field) (x : Action) (w : Stream) → Both f x w → At Stands s f x w
this One f x w h = h.0
this Two f x w h = h.1

together : (s : Side) (f : Field) (x : Action) (w : Stream) → At Stands s f x w → At Stands (other s) f x w → Both f x w
together One f x w h k = (h, k)
together Two f x w h k = (k, h)

pub both-of : {f : Phase} → ((v : Side) → Keeps (At Stands v) f) → Keeps Both f
both-of k = record { kept = λ p h. ((k One).kept p h.0, (k Two).kept p h.1) }

sent-stands : (place : ℕ) (m : Member) → KeepsAccuracy (sent_out place m)
sent-stands place m =
    let leaves = with_penalty_of-leaves m.status in
    rw (leaves.kept _, leaves.conditions _) refl

pub send_out-stands : (v s : Side) (place : ℕ) → Keeps (At Stands v) (send_out s place)
unfolding send_out with_sent_out
send_out-stands v s place = then-keeps (given-keeps _ (λ m. on_active-keeps s _ (comes m)))
    (then-keeps (on_conditions-keeps (other s) _ ((at-steady stands-alone v).conditions (other s) _ without_trapping-leaves)) (note-keeps _))
  where
    comes : (m : Member) → Spares (At Stands v) (changed_active s (with_sent_out place m))
    comes m = active-at stands-alone v s (with_sent_out place m) (λ a x h. sent m)
      where
        sent : (m : Member) → KeepsAccuracy (sent_out place m)
        sent m = sent-stands place m

module _ (terms : Terms) where
  acts-both : (plan : Side → Plan) (s : Side) (pick : Pick) → FitsPick pick (plan s) → Leads (λ f x w. IsPlanned terms plan f x w × Both f x w) Both (do_part (ruling_of terms) (Acts s pick))
  unfolding do_part
  acts-both plan s pick fits = then-leads {Q = λ f x w. IsPlanned terms plan f x w × Both f x w}
      (keeps-leads (both-keep (begin-keeps terms plan s) (both-of (λ v. begin-steady (at-steady stands-alone v) s (stands-settles terms s pick v)))))
      (choose-leads _ (stay-leads (λ f x w h. h.1)) acts) (λ f x w h. h.1)
    where
      acts : Leads (λ f x w. IsPlanned terms plan f x w × Both f x w) Both (act (ruling_of terms) s pick)
      acts = record {
        led = λ p h. let q : Progress = act (ruling_of terms) s pick p in
            together s q.field q.action q.stream ((act-own terms s pick plan fits).led p (h.0, this s p.field p.action p.stream h.1)) ((act-foe terms s pick).kept p (this (other s) p.field p.action p.stream h.1));
      }

  suffers-both : (s : Side) → Keeps Both (do_part (ruling_of terms) (Suffers s))
  unfolding do_part
  suffers-both s = both-of (λ v. residual-steady (at-steady stands-alone v) s (at-hurts stands-alone v))

  sends-both : (s : Side) (place : ℕ) → Keeps Both (do_part (ruling_of terms) (Sends s place))
  unfolding do_part
  sends-both s place = both-of (λ v. then-keeps (begin-steady (at-steady stands-alone v) s (stands-settles terms s Idle v)) (send_out-stands v s place))

  ends-both : (s : Side) → Keeps Both (end_spent_trapping s)
  unfolding end_spent_trapping
  ends-both s = both-of (λ v. choose-keeps _ (on_conditions-keeps s _ ((at-steady stands-alone v).conditions s _ without_trapping-leaves)) stay-keeps)

  picked-both : (s : Side) (pick : Pick) → Keeps Both (set_picked s pick)
  unfolding set_picked
  picked-both s pick = both-of (λ v. given-keeps _ (λ a. on_active-keeps s _ ((at-steady stands-alone v).active s _ (with_picked_move-leaves _))))

  pub kept-tied : Tied terms Both Both
  kept-tied = record {
    weaker = λ f x w h. h;
    uncut = λ p e h. h;
    acts = acts-both;
    suffers = λ s. keeps-leads (suffers-both s);
    sends = λ s place. keeps-leads (sends-both s place);
    ends = ends-both;
    picked_move = picked-both;
    flinch = λ s. both-of (λ v. on_conditions-keeps s _ ((at-steady stands-alone v).conditions s _ without_flinch-leaves));
  }
