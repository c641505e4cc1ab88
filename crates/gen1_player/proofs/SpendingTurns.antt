-- Uses and PP through a turn, and through any run.
use Rattle.std.proofs.Common.{[], ap, arith, false, flat_map, get_or, if◌then◌else◌, inl, inr, length, map, nat_le, refl, replicate, subst, suc, sym, true, zero, ◌*◌, ◌++◌, ◌+◌, ◌-◌, ◌<◌, ◌==◌, ◌∙◌, ◌∷◌, ◌≡◌, ◌≢◌, ◌≤◌, ◌⊎◌, All, AllPairs, Bool, List, ℕ}
use Rattle.gen1_rolls.specs.Streams.{byte_at, IsStream, Link}
use Rattle.gen1_stats.specs.declared.member.KnownMove.{KnownMove}
use Rattle.gen1_machine.specs.declared.side.Side.{Side}
use Rattle.gen1_machine.specs.declared.side.Side.TheVariants.{One, Two}
use Rattle.gen1_machine.specs.declared.side.Choice.{Choice}
use Rattle.gen1_machine.specs.declared.side.Choice.TheVariants as choices
use Rattle.gen1_machine.specs.declared.event.Event.{Event}
use Rattle.gen1_machine.specs.declared.side.Pick.{Pick}
use Rattle.gen1_machine.specs.Picks.{pick_in}
use Rattle.gen1_machine.specs.Sides.{other}
use Rattle.gen1_machine.specs.Conditions.{without_flinch}
use Rattle.gen1_machine.specs.State.{first_state, is_over, Field, State, Terms}
use Rattle.gen1_machine.specs.Progress.{draw, given, on_conditions, Phase, Progress}
use Rattle.gen1_machine.specs.Ruling.{ruling_of}
use Rattle.gen1_machine.specs.Action.{begin}
use Rattle.gen1_machine.specs.TurnOrder.{in_order, in_order_of_rank, in_order_of_speed, toss}
use Rattle.gen1_machine.specs.Turn.{both_act, both_pick, both_switch, do_part, do_parts, of_side, one_picks, play_turn, set_picked, switch_then_act, turn, Acts, Sends, Suffers}
use Rattle.gen1_machine.specs.Plans.{with_plan, Any, FitsPick, InRange, IsPlanned, Plan, PlanOf}
use Rattle.gen1_machine.proofs.Keeps.{on_conditions-keeps}
use Rattle.gen1_machine.proofs.Tame.{without_flinch-tame}
use Rattle.gen1_machine.proofs.Sound.{planned-sound}
use Rattle.gen1_machine.proofs.SoundWalk.{conditions-spared}
use Rattle.gen1_machine.proofs.Acts.{begin-keeps}
use Rattle.gen1_machine.proofs.Fitting.{offered-fits, Fits}
use Rattle.gen1_machine.proofs.ValidSteps.{both-plan_of, both-planned, both_plan, send_part, set_picked-keeps, suffers_part, with_plan-other, Sure, opened-sure}
use Rattle.gen1_machine.proofs.Watching.{after-leads, before-leads, choose-tells, given-tells, seeing, stay-tells, ◌⊳◌, Lands, Leads, Rests, Runs}
use Rattle.gen1_player.specs.declared.seen.SeenMove.{SeenMove}
use Rattle.gen1_player.proofs.Facts.{Sizes}
use Rattle.gen1_player.proofs.Facts as facts
use Rattle.gen1_player.proofs.Stories.{conditions-tells, Begun, MayFall, Now}
use Rattle.gen1_player.proofs.ToldActions.{begin-tells}
use Rattle.gen1_player.proofs.ToldEnds.{end_turn-tells, replace-falls, residual-tells, send_out-tells, set_picked-tells, ChoiceFits, close-done, first-done, Fresh, Waits, choice-fits, sizes_of}
use Rattle.gen1_player.proofs.DeedGate.{at-weak, In, Nothing_more, Opens, Over, Past}
use Rattle.gen1_player.proofs.DeedActs.{rests-leads, with-keeps, IdleIsQuiet}
use Rattle.gen1_player.proofs.DeedMoves.{plain_story}
use Rattle.gen1_player.proofs.DeedTurns.{act-part, begin-in, chosen-fits, ends-deeds, flinches, hurts-part, in-range, next-opens, now-opens, now-settling, over-settling, pick-chosen, picks, send-part, spent-settling, stood-now, stood-opens, suffers-part, then-part, uncut-lives, uncut-now, uncut-past, uncut-spent, with-leads, Ends, Free, Planned, Silent, Spent, Stood}
use Rattle.gen1_player.proofs.Counting.{counted-as, counting, counting-outline, counting-switches, id_of, known-slot, less, members_of, moves_at, pp_at, sides, About, Against, Counts, Either, IsSlotOf, Kept, Tallied, Tally}
use Rattle.gen1_player.proofs.Spending.{both-leads, far-acts, guided-leads, may-as, may-now, now-as, now-may, own-acts}
use Rattle.std.proofs.lemmas.Bool.Decides.{eqb_tells, leb_tells}
use Rattle.std.proofs.lemmas.List.{append-nil, append_assoc}
use Rattle.std.proofs.Math.ListN.{get_or-map}
use Rattle.gen1_stats.specs.Members.{nobody, nothing_known, IsFresh, IsTeam, Member}
use Rattle.gen1_machine.specs.declared.terms.Request.{Request}
use Rattle.gen1_machine.specs.declared.terms.Request.TheVariants as requests
use Rattle.gen1_machine.specs.SwitchingIn.{replace, start}
use Rattle.gen1_machine.specs.OfferedChoices.{offered_for}
use Rattle.gen1_machine.specs.Step.{answered, events_of, is_among, offers, opened, run, run_by, step, step_by, update, update_for, Ran, Stepped}
use Rattle.gen1_machine.specs.Valid.{IsState, IsTerms}
use Rattle.gen1_machine.proofs.ValidStates.{first_states_are_valid}
use Rattle.gen1_machine.proofs.RunsEnd.{offered-is}
use Rattle.gen1_player.specs.Public.{hears_all, not_seen, not_used, public_side, seen_at}
use Rattle.gen1_player.specs.True.{events_in, move_in, pp_in, public_of, rise, rises, UsesArePaid}
use Rattle.gen1_player.proofs.Appearing.{face, no_face, Face}
use Rattle.gen1_player.proofs.DeedStory.{deeding, LooseTale}
use Rattle.gen1_player.proofs.DeedRuns.{asked-lives, faults-over, first-fits, first-ready, going-on, started-of, stays, step-deeds, tightened-tale, Goes, Opens as Begins, Ready, Told}

-- What is true before an act of side s that is the second of a turn.
abbrev due : Side → Side → About → About → About
due One One G H = G
due Two Two G H = G
due _ _ G H = H

pub kept-loose : {ids : List ℕ} {j m pp u : ℕ} (place new : ℕ) (known : List KnownMove) (seen : List SeenMove) → Kept ids j m pp u place known seen → Kept ids j m pp u new known seen
kept-loose place new known seen k = record { same = k.same; left = k.left; uses = k.uses }

pub either-loose : {ids : List ℕ} {j m pp u : ℕ} (place new : ℕ) (known : List KnownMove) (seen : List SeenMove) → Either ids j m pp u place known seen → Either ids j m pp u new known seen
either-loose place new known seen (inl k) = inl (record { same = k.same; left = k.left; uses = k.uses })
either-loose place new known seen (inr k) = inr (record { same = k.same; left = k.left; uses = k.uses })

module _ (t : Terms) {z : Sizes} {pre : List Event} (σ : Side) (i : ℕ) (G : About) where
  part-begins : (plan : Side → Plan) (b : Bool) (s : Side) → Leads (λ p. (In z pre (Opens b s) p × Planned t plan p) × Now (counting σ i G) z pre p)
      (λ p. (In z pre (Opens b s) p × Planned t plan p) × Now (counting σ i G) z pre p) (MayFall (counting σ i G) z pre) (begin s)
  part-begins plan b s = rests-leads (λ p m. m.1) (both-leads {S = Ends z pre} (with-keeps (begin-in t s) (begin-keeps t plan s)) (begin-tells s))

  far-part : (s : Side) → Against σ s → (pick : Pick) → Leads (Now (counting σ i G) z pre) (Now (counting σ i G) z pre) (MayFall (counting σ i G) z pre) (do_part (ruling_of t) (Acts s pick))
  unfolding do_part
  far-part s a pick = begin-tells s ⊳ choose-tells _ stay-tells (after-leads (may-now σ i (λ place known seen k. k)) (far-acts t σ i G s a pick))

  suffers-count : (s : Side) → Leads (Now (counting σ i G) z pre) (Now (counting σ i G) z pre) (MayFall (counting σ i G) z pre) (do_part (ruling_of t) (Suffers s))
  unfolding do_part
  suffers-count s = residual-tells (counting-outline σ i G) s

  ends-count : Leads (Now (counting σ i G) z pre) (Now (counting σ i G) z pre) (MayFall (counting σ i G) z pre) (do_parts (ruling_of t) [])
  unfolding do_parts
  ends-count = end_turn-tells

module _ (t : Terms) (z : Sizes) (pre : List Event) (σ : Side) (i : ℕ) (ids : List ℕ) (j m pp u : ℕ) (slot : IsSlotOf ids j m) where
  abbrev K : Progress → Type 0
  K = Now (counting σ i (Kept ids j m pp u)) z pre

  abbrev E : Progress → Type 0
  E = Now (counting σ i (Either ids j m pp u)) z pre

  abbrev Done : Progress → Type 0
  Done = MayFall (counting σ i (Either ids j m pp u)) z pre

  abbrev Due : Side → Progress → Type 0
  Due s = Now (counting σ i (due σ s (Kept ids j m pp u) (Either ids j m pp u))) z pre

  abbrev Whole : Progress → Type 0
  Whole p = Ends z pre p × Done p

  kept-done : (p : Progress) → K p → Done p
  kept-done = now-may σ i (λ place known seen k. inl k)

  either-done : (p : Progress) → E p → Done p
  either-done = now-may σ i (λ place known seen k. k)

  fallen-done : (p : Progress) → MayFall (counting σ i (Kept ids j m pp u)) z pre p → Done p
  fallen-done = may-as σ i (λ place known seen k. inl k)

  kept-due : (s : Side) (p : Progress) → K p → Due s p
  kept-due s = by σ s
    where
      by : (τ s : Side) (p : Progress) → K p → Now (counting σ i (due τ s (Kept ids j m pp u) (Either ids j m pp u))) z pre p
      by One One p k = k
      by Two Two p k = k
      by One Two p k = now-as σ i (λ place known seen x. inl x) p k
      by Two One p k = now-as σ i (λ place known seen x. inl x) p k

  due-done : (s : Side) (p : Progress) → MayFall (counting σ i (due σ s (Kept ids j m pp u) (Either ids j m pp u))) z pre p → Done p
  due-done s = by σ s
    where
      by : (τ s : Side) (p : Progress) → MayFall (counting σ i (due τ s (Kept ids j m pp u) (Either ids j m pp u))) z pre p → Done p
      by One One p k = fallen-done p k
      by Two Two p k = fallen-done p k
      by One Two p k = k
      by Two One p k = k

  due-may : (s : Side) (p : Progress) → Due s p → Done p
  due-may s p k = due-done s p (now-may σ i (λ place known seen x. x) p k)

  own-part : (plan : Side → Plan) (b : Bool) (pick : Pick) → FitsPick pick (plan σ) → IdleIsQuiet pick (plan σ)
      → Leads (λ p. (In z pre (Opens b σ) p × Planned t plan p) × K p) E Done (do_part (ruling_of t) (Acts σ pick))
  unfolding do_part
  own-part plan b pick fits idle = rests-leads fallen-done (part-begins t σ i (Kept ids j m pp u) plan b σ)
      ⊳ choose-tells _ (before-leads (λ p x. now-as σ i (λ place known seen k. inl k) p x.1) stay-tells)
      (after-leads (may-now σ i (λ place known seen k. k)) (own-acts t plan z pre b σ i ids j m pp u slot pick fits idle))

  -- The acts of a turn

  own-due : (p : Progress) → E p → Due (other σ) p
  own-due = by σ
    where
      by : (τ : Side) (p : Progress) → E p → Now (counting σ i (due τ (other τ) (Kept ids j m pp u) (Either ids j m pp u))) z pre p
      by One p k = k
      by Two p k = k

  due-own : (p : Progress) → Due σ p → K p
  due-own = by σ
    where
      by : (τ : Side) (p : Progress) → Now (counting σ i (due τ τ (Kept ids j m pp u) (Either ids j m pp u))) z pre p → K p
      by One p k = k
      by Two p k = k

  due-far : (s : Side) → Against σ s → (p : Progress) → Due s p → E p
  due-far s a = by σ s a
    where
      by : (τ s : Side) → Against τ s → (p : Progress) → Now (counting σ i (due τ s (Kept ids j m pp u) (Either ids j m pp u))) z pre p → E p
      by One Two a p k = k
      by Two One a p k = k
      by One One a p k = absurd a
      by Two Two a p k = absurd a

  abbrev First : (Side → Plan) → Side → Type 0
  First plan s = (pick : Pick) → FitsPick pick (plan s) → IdleIsQuiet pick (plan s) → Leads (λ p. (In z pre (Opens true s) p × Planned t plan p) × K p) (Due (other s)) Done (do_part (ruling_of t) (Acts s pick))

  abbrev Last : (Side → Plan) → Bool → Side → Type 0
  Last plan b s = (pick : Pick) → FitsPick pick (plan s) → IdleIsQuiet pick (plan s) → Leads (λ p. (In z pre (Opens b s) p × Planned t plan p) × Due s p) E Done (do_part (ruling_of t) (Acts s pick))

  first-part : (plan : Side → Plan) (s : Side) → First plan s
  first-part plan s = by (sides σ s)
    where
      own : First plan σ
      own pick fits idle = after-leads own-due (own-part plan true pick fits idle)

      by : (σ ≡ s) ⊎ Against σ s → First plan s
      by (inl e) = subst (First plan) e own
      by (inr a) = λ pick fits idle. before-leads (λ p x. x.1) (after-leads (kept-due (other s)) (rests-leads fallen-done (far-part t σ i (Kept ids j m pp u) s a pick)))

  last-part : (plan : Side → Plan) (b : Bool) (s : Side) → Last plan b s
  last-part plan b s = by (sides σ s)
    where
      own : Last plan b σ
      own pick fits idle = before-leads (λ p x. (x.0, due-own p x.1)) (own-part plan b pick fits idle)

      by : (σ ≡ s) ⊎ Against σ s → Last plan b s
      by (inl e) = subst (Last plan b) e own
      by (inr a) = λ pick fits idle. before-leads (λ p x. due-far s a p x.1) (far-part t σ i (Either ids j m pp u) s a pick)

  -- The parts of a turn

  suffers-both : (b : Bool) (v s : Side) → Leads (λ p. In z pre (Past b v) p × E p) (λ p. In z pre (Spent (Free b v)) p × E p) Whole (do_part (ruling_of t) (Suffers s))
  suffers-both b v s = both-leads (suffers-part t b v s) (suffers-count t σ i (Either ids j m pp u) s)

  ends-both : (b : Bool) (s : Side) → Leads (λ p. In z pre (Past b s) p × E p) Whole Whole (do_parts (ruling_of t) [])
  ends-both b s = after-leads (λ p x. (x.0, either-done p x.1)) (both-leads (ends-deeds t b s) (ends-count t σ i (Either ids j m pp u)))

  last-counts : (plan : Side → Plan) (b : Bool) (s : Side) (pick : Pick) → FitsPick pick (plan s) → IdleIsQuiet pick (plan s)
      → Leads (λ p. (In z pre (Opens b s) p × Planned t plan p) × Due s p) Whole Whole (do_parts (ruling_of t) (Acts s pick ∷ Suffers s ∷ []))
  last-counts plan b s pick fits idle =
      then-part t {W = λ p. In z pre (Over b s) p × E p} (Acts s pick) (Suffers s ∷ []) (after-leads (λ p x. (x.0.0, x.1)) (guided-leads (act-part t plan b s pick fits idle) (last-part plan b s pick fits idle)))
      (λ p x. (at-weak (λ f es k. over-settling b s f es k) p x.0, either-done p x.1))
      (then-part t {W = λ p. In z pre (Spent (Free b s)) p × E p} (Suffers s) [] (before-leads (λ p x. (uncut-past b s p x.1 x.0.0, x.0.1)) (suffers-both b s s))
      (λ p x. (at-weak spent-settling p x.0, either-done p x.1))
      (before-leads (λ p x. (uncut-spent b s p x.1 x.0.0, x.0.1)) (ends-both b s)))

  both-counts : (plan : Side → Plan) (one two : Pick) → ((s : Side) → FitsPick (of_side s one two) (plan s)) → ((s : Side) → IdleIsQuiet (of_side s one two) (plan s)) → (s : Side)
      → Leads (λ p. (In z pre (Opens true s) p × Planned t plan p) × K p) Whole Whole (do_parts (ruling_of t) (both_act one two s))
  both-counts plan one two fits idle s =
      let next : Side → Plan = with_plan s Any plan in
      let same : next (other s) ≡ plan (other s) = with_plan-other s Any plan in
      then-part t {W = λ p. (In z pre (Over true s) p × Planned t next p) × Due (other s) p} (Acts s (of_side s one two)) _
      (guided-leads (act-part t plan true s (of_side s one two) (fits s) (idle s)) (first-part plan s (of_side s one two) (fits s) (idle s)))
      (λ p x. (at-weak (λ f es k. over-settling true s f es k) p x.0.0, due-may (other s) p x.1))
      (then-part t {W = λ p. (In z pre (Spent (Free true s)) p × Planned t next p) × Due (other s) p} (Suffers s) _
      (before-leads (λ p x. ((uncut-past true s p x.1 x.0.0.0, x.0.0.1), x.0.1))
      (rests-leads (λ p x. (x.0, due-done (other s) p x.1)) (both-leads (with-keeps (suffers-part t true s s) (suffers_part t next s)) (suffers-count t σ i _ s))))
      (λ p x. (at-weak spent-settling p x.0.0, due-may (other s) p x.1))
      (before-leads (λ p x. ((next-opens s p x.1 (uncut-spent true s p x.1 x.0.0.0), x.0.0.1), x.0.1))
      (last-counts next false (other s) (of_side (other s) one two) (subst (λ (x : Plan). FitsPick (of_side (other s) one two) x) (sym same) (fits (other s)))
      (subst (λ (x : Plan). IdleIsQuiet (of_side (other s) one two) x) (sym same) (idle (other s))))))

  -- Switches

  sends-count : (s : Side) (place : ℕ) → facts.Fits z s place → Leads K K Done (do_part (ruling_of t) (Sends s place))
  unfolding do_part
  sends-count s place fits = rests-leads fallen-done (begin-tells s ⊳ send_out-tells (counting-switches i (Kept ids j m pp u) kept-loose σ) s place fits)

  hurts-count : (s : Side) → Leads K K Done (do_part (ruling_of t) (Suffers s))
  hurts-count s = rests-leads fallen-done (suffers-count t σ i (Kept ids j m pp u) s)

  switch-counts : (plan : Side → Plan) (s : Side) (pick : Pick) (place : ℕ) → FitsPick pick (plan s) → IdleIsQuiet pick (plan s) → plan (other s) ≡ Any → facts.Fits z (other s) place
      → Leads (λ p. (Now plain_story z pre p × (Planned t plan p × InRange (other s) place p.field)) × K p) Whole Whole (do_parts (ruling_of t) (switch_then_act s pick place))
  switch-counts plan s pick place fits idle any room =
      then-part t {W = λ p. (Now plain_story z pre p × Planned t plan p) × K p} (Sends (other s) place) _
      (both-leads (with-leads {K = λ f a w. IsPlanned t plan f a w × InRange (other s) place f} (send-part t (other s) place room) (send_part t plan (other s) place any)) (sends-count (other s) place room))
      (λ p x. (now-settling p x.0.0, kept-done p x.1))
      (then-part t {W = λ p. (In z pre (Spent Silent) p × Planned t plan p) × K p} (Suffers (other s)) _
      (before-leads (λ p x. x.0) (both-leads (with-keeps (hurts-part t (other s)) (suffers_part t plan (other s))) (hurts-count (other s))))
      (λ p x. (at-weak spent-settling p x.0.0, kept-done p x.1))
      (before-leads (λ p x. ((now-opens false s p (uncut-lives s p x.1) (uncut-now p x.1 x.0.0.0), x.0.0.1), kept-due s p x.0.1)) (last-counts plan false s pick fits idle)))

  both_switch-counts : (one two : ℕ) → facts.Fits z One one → facts.Fits z Two two → Leads K Done Done (do_parts (ruling_of t) (both_switch one two))
  both_switch-counts one two a c =
      then-part t (Sends One one) _ (sends-count One one a) kept-done
      (then-part t (Suffers One) _ (before-leads (λ p x. x.0) (hurts-count One)) kept-done
      (then-part t (Sends Two two) _ (before-leads (λ p x. x.0) (sends-count Two two c)) kept-done
      (then-part t (Suffers Two) [] (before-leads (λ p x. x.0) (hurts-count Two)) kept-done
      (before-leads (λ p x. x.0) (after-leads kept-done (rests-leads fallen-done (ends-count t σ i (Kept ids j m pp u))))))))

  -- A turn

  abbrev Stands : (Side → Plan) → Progress → Type 0
  Stands plan p = (In z pre Stood p × Planned t plan p) × K p

  draw-counts : {plan : Side → Plan} {f : ℕ → Phase} → ((x : ℕ) → Leads (Stands plan) Done Done (f x)) → Leads (Stands plan) Done Done (draw f)
  unfolding draw
  draw-counts h = record { leads = λ p r x. (h (byte_at p.stream p.drawn)).leads (record p { drawn = p.drawn + 1 }) r x }

  order-counts : {plan : Side → Plan} (begins : Side → Phase) → ((s : Side) → Leads (Stands plan) Done Done (begins s)) → Leads (Stands plan) Done Done (in_order begins)
  unfolding in_order in_order_of_rank in_order_of_speed toss
  order-counts begins h = given-tells _ (λ x. given-tells _ (λ y.
      choose-tells _ (h One) (choose-tells _ (h Two) (choose-tells _ (h One) (choose-tells _ (h Two) (draw-counts (λ b. choose-tells _ (h One) (h Two))))))))

  all-done : {P : Progress → Type 0} {f : Phase} → Leads P Whole Whole f → Leads P Done Done f
  all-done h = after-leads (λ p x. x.1) (rests-leads (λ p x. x.1) h)

  picks-count : (plan : Side → Plan) (s : Side) (pick : Pick) → FitsPick pick (plan s) → Leads (Stands plan) (Stands plan) Done (set_picked s pick)
  picks-count plan s pick fits = rests-leads (λ p x. fallen-done p x.1) (both-leads (with-keeps (picks t {S = Ends z pre} s pick) (set_picked-keeps t plan s pick fits)) (set_picked-tells s pick))

  both_pick-counts : (plan : Side → Plan) (one two : Pick) → ((s : Side) → FitsPick (of_side s one two) (plan s)) → ((s : Side) → IdleIsQuiet (of_side s one two) (plan s))
      → Leads (Stands plan) Done Done (both_pick (ruling_of t) one two)
  unfolding both_pick
  both_pick-counts plan one two fits idle = picks-count plan One one (fits One) ⊳ picks-count plan Two two (fits Two)
      ⊳ order-counts (λ s. do_parts (ruling_of t) (both_act one two s)) (λ s. before-leads (λ p x. ((stood-opens true s p x.0.0, x.0.1), x.1)) (all-done (both-counts plan one two fits idle s)))

  one_picks-counts : (plan : Side → Plan) (s : Side) (pick : Pick) (place : ℕ) → FitsPick pick (plan s) → IdleIsQuiet pick (plan s) → plan (other s) ≡ Any → facts.Fits z (other s) place
      → Leads (Stands plan) Done Done (one_picks (ruling_of t) s pick place)
  unfolding one_picks
  one_picks-counts plan s pick place fits idle any room = picks-count plan s pick fits
      ⊳ before-leads (λ p x. ((stood-now p x.0.0, (x.0.1, in-range (other s) place p.field x.0.0.begun room)), x.1)) (all-done (switch-counts plan s pick place fits idle any room))

  play-counts : (plan : Side → Plan) (x y : Choice) → PlanOf x (plan One) → PlanOf y (plan Two) → ChoiceFits z One x → ChoiceFits z Two y
      → Leads (Stands plan) Done Done (play_turn (ruling_of t) x y)
  unfolding play_turn given
  play-counts plan (choices.Move k) (choices.Move l) one two a b = record {
    leads = λ p r x.
        let first = pick-chosen plan One k p.field p.action p.stream one x.0.1 in
        let second = pick-chosen first.next Two l p.field p.action p.stream (subst (λ (q : Plan). PlanOf (choices.Move l) q) (sym first.rest) two) first.planned in
        let fit = chosen-fits plan (pick_in k One p.field) (pick_in l Two p.field) p.field p.action p.stream first second in
        (both_pick-counts second.next (pick_in k One p.field) (pick_in l Two p.field) fit.0 fit.1).leads p r ((x.0.0, second.planned), x.1);
  }
  play-counts plan (choices.Move k) (choices.Switch place) one two a b = record {
    leads = λ p r x.
        let first = pick-chosen plan One k p.field p.action p.stream one x.0.1 in
        (one_picks-counts first.next One (pick_in k One p.field) place first.fits first.idle (first.rest ∙ two) b).leads p r ((x.0.0, first.planned), x.1);
  }
  play-counts plan (choices.Switch place) (choices.Move l) one two a b = record {
    leads = λ p r x.
        let first = pick-chosen plan Two l p.field p.action p.stream two x.0.1 in
        (one_picks-counts first.next Two (pick_in l Two p.field) place first.fits first.idle (first.rest ∙ one) a).leads p r ((x.0.0, first.planned), x.1);
  }
  play-counts plan (choices.Switch k) (choices.Switch l) one two a b = before-leads (λ p x. x.1) (both_switch-counts k l a b)
  play-counts plan _ _ one two a b = before-leads (λ p x. kept-done p x.1) stay-tells

  landed : (q : Progress) → Lands Done Done q → Done q
  landed q (Runs r x) = x
  landed q (Rests r x) = x

  flinches-count : (plan : Side → Plan) (s : Side) → Leads (Stands plan) (Stands plan) Done (on_conditions s without_flinch)
  unfolding seeing
  flinches-count plan s = rests-leads (λ p x. fallen-done p x.1) (both-leads
      (with-keeps (flinches t {S = Ends z pre} s) (on_conditions-keeps s _ (conditions-spared (planned-sound t plan) s _ without_flinch-tame))) (conditions-tells s _ (λ c. refl)))

  pub turn-counts : (x y : Choice) (p : Progress) → p.stopped ≡ false → In z pre Stood p → K p → Sure t p.field p.action p.stream → Fits x One p.field → Fits y Two p.field → ChoiceFits z One x → ChoiceFits z Two y
      → Done (turn (ruling_of t) x y p)
  unfolding turn
  turn-counts x y p r stood k h one two a b =
      let plan : Side → Plan = both_plan x y p.field in
      landed _ ((flinches-count plan One ⊳ flinches-count plan Two ⊳ play-counts plan x y (both-plan_of x y p.field).0 (both-plan_of x y p.field).1 a b).leads p r
      ((stood, both-planned x y p.field p.action p.stream h one two), k))

-- An update

module _ (n : Sizes) (σ : Side) (i : ℕ) (ids : List ℕ) (j m pp u : ℕ) (slot : IsSlotOf ids j m) where
  module _ (pre : List Event) where
    landed-in : (G : About) (q : Progress) → Lands (MayFall (counting σ i G) n pre) (MayFall (counting σ i G) n pre) q → MayFall (counting σ i G) n pre q
    landed-in G q (Runs r x) = x
    landed-in G q (Rests r x) = x

    either-of : (q : Progress) → MayFall (counting σ i (Kept ids j m pp u)) n pre q → MayFall (counting σ i (Either ids j m pp u)) n pre q
    either-of = may-as σ i (λ place known seen k. inl k)

    starts-counts : (f : Field) → Begun n f → (p : Progress) → p.stopped ≡ false → Now (counting σ i (Kept ids j m pp u)) n pre p → MayFall (counting σ i (Either ids j m pp u)) n pre (start p)
    unfolding start
    starts-counts f b p r k =
        let w = counting-switches i (Kept ids j m pp u) kept-loose σ in
        either-of (start p) (by (start p) ((send_out-tells {S = MayFall (counting σ i (Kept ids j m pp u)) n pre} w One 1 (first-fits f b One) ⊳ send_out-tells w Two 1 (first-fits f b Two)).leads p r k))
      where
        by : (q : Progress) → Lands (Now (counting σ i (Kept ids j m pp u)) n pre) (MayFall (counting σ i (Kept ids j m pp u)) n pre) q → MayFall (counting σ i (Kept ids j m pp u)) n pre q
        by q (Runs s x) = now-may σ i (λ place known seen k. k) q x
        by q (Rests s x) = x

    replaces-counts : (x y : Choice) → ChoiceFits n One x → ChoiceFits n Two y → (p : Progress) → p.stopped ≡ false → Now (counting σ i (Kept ids j m pp u)) n pre p
        → MayFall (counting σ i (Either ids j m pp u)) n pre (replace x y p)
    replaces-counts x y a b p r k = either-of (replace x y p) (landed-in (Kept ids j m pp u) (replace x y p)
        ((replace-falls (counting-switches i (Kept ids j m pp u) kept-loose σ) x y a b).leads p r (now-may σ i (λ place known seen h. h) p k)))

    updates-counts : (s : State) (x y : Choice) (q r : Request) → q ≡ s.field.request_one → r ≡ s.field.request_two → IsState s → is_over s.field.outcome ≡ false
        → is_among x (offered_for q One s.field) ≡ true → is_among y (offered_for r Two s.field) ≡ true
        → ChoiceFits n One x → ChoiceFits n Two y → Begun n s.field → LooseTale s.field (pre ++ []) → Now (counting σ i (Kept ids j m pp u)) n pre (opened s)
        → MayFall (counting σ i (Either ids j m pp u)) n pre (update_for (ruling_of s.terms) q r x y (opened s))
    unfolding update_for
    updates-counts s x y requests.Move requests.Move e g h over a b c d begun tale k =
        let is = started-of s h e in
        let live = asked-lives s.terms s.field _ _ refl refl e (going-on s.field.outcome s.terms s.field over is.requests) in
        turn-counts s.terms n pre σ i ids j m pp u slot x y (opened s) refl
        (record { begun = begun; is = record { tale = tightened-tale s.field _ live tale; lives = live } }) k
        (opened-sure s h.seed is.field) (offered-fits One x s.field is.field a) (offered-fits Two y s.field is.field b) c d
    updates-counts s x y requests.Pass requests.Pass e g h over a b c d begun tale k = starts-counts s.field begun (opened s) refl k
    updates-counts s x y _ _ e g h over a b c d begun tale k = replaces-counts x y c d (opened s) refl k

    waits-counts : {f : Field} {es : List Event} → Waits (counting σ i (Either ids j m pp u)) n pre f es → Counts σ i (Either ids j m pp u) f (pre ++ es)
    unfolding counting
    waits-counts w = w.may.loose

    opened-now : (s : State) → Begun n s.field → Counts σ i (Kept ids j m pp u) s.field pre → Now (counting σ i (Kept ids j m pp u)) n pre (opened s)
    unfolding counting
    opened-now s b k = record { begun = b; exact = subst (Counts σ i (Kept ids j m pp u) s.field) (sym (append-nil pre)) k }

    goes-counts : (s : State) (x y : Choice) → IsState s → is_over s.field.outcome ≡ false → offers s One x ≡ true → offers s Two y ≡ true
        → Begun n s.field → Told s.field (pre ++ []) → Counts σ i (Kept ids j m pp u) s.field pre
        → let p : Progress = update (ruling_of s.terms) x y (opened s) in Counts σ i (Either ids j m pp u) p.field (pre ++ p.events)
    unfolding update
    goes-counts s x y h over a b k (inr f) c = absurd (faults-over s.field.outcome over f)
    goes-counts s x y h over a b k (inl tale) c = waits-counts (close-done (ruling_of s.terms) _
        (updates-counts s x y s.field.request_one s.field.request_two refl refl h over
        (subst (λ l. is_among x l ≡ true) (offered-is One s.field over) a) (subst (λ l. is_among y l ≡ true) (offered-is Two s.field over) b)
        (choice-fits n One s.field x k.sized a) (choice-fits n Two s.field y k.sized b) k tale (opened-now s k c)))

    opens-counts : (s : State) (x y : Choice) → Fresh (counting σ i (Either ids j m pp u)) n pre s.field [] → s.field.request_one ≡ requests.Pass → s.field.request_two ≡ requests.Pass → 1 ≤ n.one → 1 ≤ n.two
        → let p : Progress = update (ruling_of s.terms) x y (opened s) in Counts σ i (Either ids j m pp u) p.field (pre ++ p.events)
    opens-counts s x y f a b c d = waits-counts (first-done (counting-switches i (Either ids j m pp u) either-loose σ) (ruling_of s.terms) x y (opened s) refl f a b c d)

    accepted-counts : (s : State) (x y : Choice) → IsState s → is_over s.field.outcome ≡ false → offers s One x ≡ true → offers s Two y ≡ true → Ready n pre s.field
        → Counts σ i (Kept ids j m pp u) s.field pre → let p : Progress = update (ruling_of s.terms) x y (opened s) in Counts σ i (Either ids j m pp u) p.field (pre ++ p.events)
    unfolding counting
    accepted-counts s x y h over a b (Goes k told) c = goes-counts s x y h over a b k told c
    accepted-counts s x y h over a b (Begins f e g low high) c = opens-counts s x y
        (record { sized = f.sized; exact = subst (Counts σ i (Either ids j m pp u) s.field) (sym (append-nil pre)) (counted-as (λ k. inl k) c) }) e g low high

    answered-counts : (s : State) (over a b : Bool) (p : Progress) → Counts σ i (Kept ids j m pp u) s.field pre
        → (over ≡ false → a ≡ true → b ≡ true → Counts σ i (Either ids j m pp u) p.field (pre ++ p.events))
        → Counts σ i (Either ids j m pp u) (answered s over a b p).state.field (pre ++ events_of (answered s over a b p).answer)
    unfolding answered
    answered-counts s true a b p c h = subst (Counts σ i (Either ids j m pp u) s.field) (sym (append-nil pre)) (counted-as (λ k. inl k) c)
    answered-counts s false false b p c h = subst (Counts σ i (Either ids j m pp u) s.field) (sym (append-nil pre)) (counted-as (λ k. inl k) c)
    answered-counts s false true false p c h = subst (Counts σ i (Either ids j m pp u) s.field) (sym (append-nil pre)) (counted-as (λ k. inl k) c)
    answered-counts s false true true p c h = h refl refl refl

    step-counts : (s : State) (x y : Choice) → IsState s → Ready n pre s.field → Counts σ i (Kept ids j m pp u) s.field pre
        → Counts σ i (Either ids j m pp u) (step s x y).state.field (pre ++ events_of (step s x y).answer)
    unfolding step step_by
    step-counts s x y h r c = answered-counts s (is_over s.field.outcome) (offers s One x) (offers s Two y) (update (ruling_of s.terms) x y (opened s)) c
        (λ over a b. accepted-counts s x y h over a b r c)

-- Between two updates

-- Uses and PP left are at most a.
record Balance (ids : List ℕ) (j m a place : ℕ) (known : List KnownMove) (seen : List SeenMove) : Type 0 where
  same : map id_of known ≡ ids
  counted : ℕ
  uses : Tallied m counted seen
  low : counted + pp_at j known ≤ a

less-rise : (u pp a : ℕ) → u + pp ≤ a → (u + 1) + less pp ≤ a + 64 * rise pp (less pp)
less-rise u pp a h = by (eqb_tells pp 0)
  where
    wraps : u + 0 ≤ a → (u + 1) + less 0 ≤ a + 64 * rise 0 (less 0)
    wraps low = let sum : (u + 1) + 63 ≤ a + 64 = omega (arith, low) in sum

    by : (((pp == 0) ≡ true) × (pp ≡ 0)) ⊎ (((pp == 0) ≡ false) × (pp ≢ 0)) → (u + 1) + less pp ≤ a + 64 * rise pp (less pp)
    by (inl e) = subst (λ (q : ℕ). (u + 1) + less q ≤ a + 64 * rise q (less q)) (sym e.1) (wraps (subst (λ (q : ℕ). u + q ≤ a) e.1 h))
    by (inr e) = let z = e.1 in subst (λ (b : Bool). (u + 1) + (if b then 63 else pp - 1) ≤ a + 64 * rise pp (if b then 63 else pp - 1)) (sym e.0) (omega (arith, h, z))

balanced : {ids : List ℕ} {j m pp u : ℕ} (a place : ℕ) (known : List KnownMove) (seen : List SeenMove) → u + pp ≤ a → Either ids j m pp u place known seen
    → Balance ids j m (a + 64 * rise pp (pp_at j known)) place known seen
balanced {ids} {j} {m} {pp} {u} a place known seen h (inl k) = record { same = k.same; counted = u; uses = k.uses; low = let e = k.left in omega (arith, e, h) }
balanced {ids} {j} {m} {pp} {u} a place known seen h (inr k) = record {
  same = k.same;
  counted = u + 1;
  uses = k.uses;
  low = subst (λ (x : ℕ). (u + 1) + x ≤ a + 64 * rise pp x) (sym k.left) (less-rise u pp a h);
}

module _ (n : Sizes) (σ : Side) (i : ℕ) (ids : List ℕ) (j m : ℕ) (slot : IsSlotOf ids j m) where
  abbrev left : State → ℕ
  left s = pp_at j (moves_at i (members_of σ s.field))

  step-balance : (pre : List Event) (s : State) (x y : Choice) (a : ℕ) → IsState s → Ready n pre s.field → Counts σ i (Balance ids j m a) s.field pre
      → Counts σ i (Balance ids j m (a + 64 * rise (left s) (left (step s x y).state))) (step s x y).state.field (pre ++ events_of (step s x y).answer)
  step-balance pre s x y a h r c =
      let low = c.is.low in
      counted-as (balanced {pp = left s} {u = c.is.counted} a _ _ _ low)
      (step-counts n σ i ids j m (left s) c.is.counted slot pre s x y h r (record { placed = c.placed; few = c.few; is = record { same = c.is.same; left = refl; uses = c.is.uses } }))

  run-balance : (pre : List Event) (s : State) (pairs : List (Choice × Choice)) (a : ℕ) → IsState s → Ready n pre s.field → Counts σ i (Balance ids j m a) s.field pre
      → Counts σ i (Balance ids j m (a + 64 * rises left s pairs)) (run s pairs).state.field (pre ++ flat_map events_of (run s pairs).answers)
  unfolding run_by rises
  run-balance pre s [] a h r c = subst (λ (l : List Event). Counts σ i (Balance ids j m (a + 0)) s.field l) (sym (append-nil pre))
      (subst (λ (b : ℕ). Counts σ i (Balance ids j m b) s.field pre) (omega arith) c)
  run-balance pre s (pair ∷ pairs) a h r c =
      let next : Stepped = step s pair.0 pair.1 in
      let one : ℕ = rise (left s) (left next.state) in
      let rest : ℕ = rises left next.state pairs in
      let sum : (a + 64 * one) + 64 * rest ≡ a + 64 * (one + rest) = omega arith in
      subst (λ (b : ℕ). Counts σ i (Balance ids j m b) (run next.state pairs).state.field (pre ++ (events_of next.answer ++ flat_map events_of (run next.state pairs).answers))) sum
      (subst (λ (l : List Event). Counts σ i (Balance ids j m ((a + 64 * one) + 64 * rest)) (run next.state pairs).state.field l)
      (append_assoc pre (events_of next.answer) (flat_map events_of (run next.state pairs).answers))
      (run-balance (pre ++ events_of next.answer) next.state pairs (a + 64 * one) (stays s pair.0 pair.1 h) (step-deeds pre s pair.0 pair.1 h r) (step-balance pre s pair.0 pair.1 a h r c)))

-- The start

none-tallied : (k m l : ℕ) → Tally m 0 (get_or (replicate k not_used) l not_used)
none-tallied zero m l = record { uses = λ e. omega arith; free = λ e. refl }
none-tallied (suc k) m zero = record { uses = λ e. omega arith; free = λ e. refl }
none-tallied (suc k) m (suc l) = none-tallied k m l

none-seen : (k i m l : ℕ) → Tally m 0 (get_or (get_or (replicate k no_face) i no_face).moves l not_used)
none-seen zero i m l = none-tallied 5 m l
none-seen (suc k) zero m l = none-tallied 5 m l
none-seen (suc k) (suc i) m l = none-seen k i m l

in-team : (team : List Member) (i k : ℕ) → (get_or (get_or team i nobody).moves k nothing_known).id ≢ 0 → i < length team
in-team [] i k h = absurd (h refl)
in-team (x ∷ xs) zero k h = omega arith
in-team (x ∷ xs) (suc i) k h = let low = in-team xs i k h in omega (arith, low)

-- The move in a slot of a member is in no other.
other-slot : (moves : List KnownMove) (j k : ℕ) → AllPairs (λ a b. a.id ≢ b.id) moves → (get_or moves j nothing_known).id ≢ 0 → k ≢ j
    → (get_or moves k nothing_known).id ≢ (get_or moves j nothing_known).id
other-slot moves j k d some apart e = by (leb_tells j k)
  where
    low : j < length moves
    low = known-slot moves j some

    high : k < length moves
    high = known-slot moves k (λ z. some (sym e ∙ z))

    by : ((nat_le j k ≡ true) × (j ≤ k)) ⊎ ((nat_le j k ≡ false) × (k < j)) → ⊥
    by (inl x) = let le = x.1 in d j k nothing_known (omega (arith, le, apart)) high (sym e)
    by (inr x) = d k j nothing_known x.1 low e

slot-of : (team : List Member) → IsTeam team → (i j : ℕ) → (get_or (get_or team i nobody).moves j nothing_known).id ≢ 0
    → IsSlotOf (map id_of (moves_at i team)) j (get_or (moves_at i team) j nothing_known).id
slot-of team h i j some =
    let moves : List KnownMove = moves_at i team in
    let fresh : IsFresh (get_or team i nobody) = h.members i nobody (in-team team i j some) in
    record {
      at = get_or-map id_of moves j nothing_known;
      apart = λ k apart e. other-slot moves j k fresh.member.distinct some apart (sym (get_or-map id_of moves k nothing_known) ∙ e);
      some = some;
      not_struggle = (fresh.member.known j nothing_known (known-slot moves j some)).not_struggle;
    }

team-of : Side → List Member → List Member → List Member
team-of One one two = one
team-of Two one two = two

all-paid : (m u pp a : ℕ) (seen : List SeenMove) → Tallied m u seen → u + pp ≤ a → All (λ (k : SeenMove). k.id ≡ m → k.uses + pp ≤ a) seen
all-paid m u pp a [] t h l d low = absurd (omega (arith, low))
all-paid m u pp a (x ∷ xs) t h zero d low = λ e. let s = (t zero).uses e in omega (arith, s, h)
all-paid m u pp a (x ∷ xs) t h (suc l) d low = all-paid m u pp a xs (λ k. t (suc k)) h l d (omega (arith, low))

paid-at : (σ : Side) (i j : ℕ) (t : Terms) (one two : List Member) (seed : List ℕ) (pairs : List (Choice × Choice)) → IsTerms t → IsStream (Link seed) → IsTeam one → IsTeam two
    → (get_or (moves_at i (members_of σ (first_state t one two seed).field)) j nothing_known).id ≢ 0
    → let s : State = first_state t one two seed in let ms : List KnownMove = moves_at i (members_of σ s.field) in
    Counts σ i (Balance (map id_of ms) j (get_or ms j nothing_known).id (pp_at j ms + 64 * rises (λ b. pp_at j (moves_at i (members_of σ b.field))) s pairs))
    (run s pairs).state.field (events_in (run s pairs))
unfolding hears_all deeding
paid-at One i j t one two seed pairs limit stream a b some =
    let s : State = first_state t one two seed in
    let valid : IsState s = first_states_are_valid t one two seed limit a b stream in
    run-balance (sizes_of one two) One i _ j _ (slot-of one a i j some) [] s pairs (pp_at j (moves_at i one)) valid (first-ready t one two seed a b)
    (record { placed = refl; few = a.size.1; is = record { same = refl; counted = 0; uses = λ l. none-seen 6 i _ l; low = omega arith } })
paid-at Two i j t one two seed pairs limit stream a b some =
    let s : State = first_state t one two seed in
    let valid : IsState s = first_states_are_valid t one two seed limit a b stream in
    run-balance (sizes_of one two) Two i _ j _ (slot-of two b i j some) [] s pairs (pp_at j (moves_at i two)) valid (first-ready t one two seed a b)
    (record { placed = refl; few = b.size.1; is = record { same = refl; counted = 0; uses = λ l. none-seen 6 i _ l; low = omega arith } })

pub uses_are_paid : UsesArePaid
uses_are_paid t one two seed pairs limit stream a b σ place slot some =
    let first : State = first_state t one two seed in
    let known : KnownMove = move_in σ place slot first.field in
    let r : Ran = run first pairs in
    let m = paid-at σ (place - 1) (slot - 1) t one two seed pairs limit stream a b some in
    all-paid known.id m.is.counted (pp_in σ place slot r.state) (known.pp + 64 * rises (pp_in σ place slot) first pairs) (seen_at place (public_side σ (public_of r))).moves
    (subst (λ (ss : List SeenMove). Tallied known.id m.is.counted ss) (ap (λ (f : Face). f.moves) (get_or-map face (public_side σ (public_of r)).members (place - 1) not_seen)) m.is.uses) m.is.low
