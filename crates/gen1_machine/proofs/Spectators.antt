-- The spectator's law: a spectator can follow a turn, the end of an update, and so every run.
use Rattle.std.proofs.Common.{[], Bool, List, false, refl, sym, true, true≢false, ℕ, ◌∙◌, ◌∷◌, ◌≡◌, ◌||◌, ap, arith, length, subst, ◌+◌, ◌≤◌, All, None, Option, flat_map, if◌then◌else◌, map, nat_lt, not, ◌&&◌, ◌++◌, ◌==◌}
use Rattle.gen1_stats.specs.declared.member.Status.{Status}
use Rattle.gen1_stats.specs.declared.member.Status.TheVariants.{Poisoned, Burned}
use Rattle.gen1_machine.specs.declared.side.Side.{Side}
use Rattle.gen1_machine.specs.declared.side.Side.TheVariants.{One, Two}
use Rattle.gen1_machine.specs.declared.event.DamageSource.{DamageSource}
use Rattle.gen1_machine.specs.declared.side.Pick.{Pick}
use Rattle.gen1_machine.specs.declared.side.Choice.{Choice}
use Rattle.gen1_machine.specs.Sides.{other}
use Rattle.gen1_machine.specs.State.{is_over, party, who_in, changed_member, with_outcome, with_requests, with_next_turn, fallen, member_in, Field, request_of, active_in, conditions_in, underway_in, kind_of, first_state, State}
use Rattle.gen1_machine.specs.Progress.{Phase, has_fallen, Progress, on_field, note, told}
use Rattle.gen1_machine.specs.ResidualDamage.{worsen, suffer, drained_by, suffer_seed, suffer_status, residual}
use Rattle.gen1_machine.specs.Ruling.{Ruling, ruling_of}
use Rattle.gen1_machine.specs.SwitchingIn.{send_if_chosen, replace}
use Rattle.gen1_machine.specs.TurnOrder.{toss, in_order_of_speed, in_order_of_rank, in_order}
use Rattle.gen1_machine.specs.Turn.{Part, Sends, Acts, Suffers, do_part, is_cut, end_spent_trapping, end_turn, do_parts, both_act, set_picked, both_pick, switch_then_act, one_picks, both_switch, play_turn, turn}
use Rattle.gen1_machine.specs.View.{View, side_view, on_shown, not_shown, sees, sees_all, shown, shows, first_view, Shown}
use Rattle.gen1_machine.proofs.Watching.{seeing, Leads, Seen, Halted, Tells, Stands, Fallen, MayFall, after-leads, before-leads, ◌⊳◌, choose-tells, choose-sees, given-tells, draw-tells, stay-tells, active-tells, conditions-tells, lose-tells, gain-tells, IsOut, BothOut, Keeps, kept, keeps-member, unseen-member, told-member, Runs, Rests, Lands, Still, Broken, Anything, fallen_view, stop-leads, field-tells, field-ahead, told-tells, told-told, sees_all-last, faint-seen, silent-requests}
use Rattle.gen1_machine.proofs.WatchedEffects.{RulingTells, Lags, on-side-same, ruling_of-tells}
use Rattle.gen1_machine.proofs.WatchedActions.{begin-tells, act-tells, exploded-shows, fell-ongoing}
use Rattle.gen1_machine.proofs.WatchedGate.{Fits, ChoiceFits, send_out-tells, hidden-fallen, steady-out, steady-any, sized, hidden-shown, start-tells}
use Rattle.gen1_machine.specs.declared.terms.Outcome.{Outcome}
use Rattle.gen1_machine.specs.declared.terms.Request.{Request}
use Rattle.gen1_machine.specs.declared.event.Event.{Event}
use Rattle.gen1_machine.specs.Falls.{faint_if_fallen, faint_in_order, the_fallen_faint, ask_nothing, battle_ends, end_if_decided, ask_for_switches, ask_for_moves, settle, close}
use Rattle.gen1_machine.specs.Step.{update_for, close_update, update, same_choice, is_among, opened, events_of, answered, offers, step_by, step, run_by, run, Stepped}
use Rattle.std.proofs.lemmas.Bool.{eqb-true}
use Rattle.std.proofs.lemmas.List.Elements.{All-head, All-tail}
use Rattle.gen1_stats.specs.declared.member.KnownMove.{KnownMove}
use Rattle.gen1_stats.specs.Members.{is_living, IsFresh, Member}
use Rattle.gen1_machine.specs.declared.side.DisabledSlot.{DisabledSlot}
use Rattle.gen1_machine.specs.OfferedChoices.{is_committed, has_no_slot_in, bars_slot, usable_from, or_struggle, moves_offered, others_living_from, switches_offered, offered_for, offered}
use Rattle.gen1_machine.specs.Spectator.{WatcherKnows}
use Rattle.gen1_machine.specs.declared.event.DamageSource.TheVariants as sources
use Rattle.gen1_machine.specs.declared.side.Choice.TheVariants as choices
use Rattle.gen1_machine.specs.declared.terms.Outcome.TheVariants as outcomes
use Rattle.gen1_machine.specs.declared.terms.Request.TheVariants as requests
use Rattle.gen1_machine.specs.declared.event.Event.TheVariants as events

-- A spectator can follow a turn, and an update.

-- After a part that cuts nothing off, no active member has fallen

or-left : (a b : Bool) → (a || b) ≡ false → a ≡ false
or-left true b e = absurd (true≢false e)
or-left false b e = refl

or-right : (a b : Bool) → (a || b) ≡ false → b ≡ false
or-right true b e = absurd (true≢false e)
or-right false b e = e

not-cut : {v : View} (p : Progress) → MayFall v p × (is_cut p ≡ false) → Seen v p
not-cut {v} p m = by m.0 m.1
  where
    by : MayFall v p → is_cut p ≡ false → Seen v p
    by (Stands n) e = n
    by (Fallen One n) e = absurd
        (true≢false (sym (hidden-fallen One n) ∙ or-left (has_fallen One p) (has_fallen Two p) (or-left (has_fallen One p || has_fallen Two p) (is_over p.field.outcome) e)))
    by (Fallen Two n) e = absurd
        (true≢false (sym (hidden-fallen Two n) ∙ or-right (has_fallen One p) (has_fallen Two p) (or-left (has_fallen One p || has_fallen Two p) (is_over p.field.outcome) e)))

abbrev PartFits : View → Part → Type 0
PartFits v (Sends s place) = Fits v s place
PartFits v (Acts s pick) = Unit {0}
PartFits v (Suffers s) = Unit {0}

abbrev AllFit : View → List Part → Type 0
AllFit v [] = Unit {0}
AllFit v (part ∷ rest) = PartFits v part × AllFit v rest

module _ {v : View} where
  -- Residual damage

  worsen-tells : (s : Side) → Tells v (worsen s)
  unfolding worsen seeing
  worsen-tells s = conditions-tells s _ (λ c. refl)

  suffer-tells : (s : Side) (source : DamageSource) → Tells v (suffer s source)
  unfolding suffer
  suffer-tells s source = worsen-tells s ⊳ given-tells _ (lose-tells s source)

  drained_by-tells : (s : Side) (amount : ℕ) → Tells v (drained_by s amount)
  unfolding drained_by
  drained_by-tells s amount = lose-tells s sources.LeechSeed amount ⊳ gain-tells (other s) amount

  suffer_seed-tells : (s : Side) → Tells v (suffer_seed s)
  unfolding suffer_seed
  suffer_seed-tells s = worsen-tells s ⊳ given-tells _ (drained_by-tells s)

  suffer_status-tells : (s : Side) (status : Status) → Tells v (suffer_status s status)
  unfolding suffer_status
  suffer_status-tells s Poisoned = suffer-tells s sources.Poison
  suffer_status-tells s Burned = suffer-tells s sources.Burn
  suffer_status-tells s _ = stay-tells

  residual-tells : (s : Side) → Tells v (residual s)
  unfolding residual
  residual-tells s = choose-tells _ (given-tells _ (suffer_status-tells s) ⊳ choose-tells _ (suffer_seed-tells s) stay-tells) stay-tells

  -- The parts of a turn

  do_part-tells : (r : Ruling) → RulingTells v r → (part : Part) → PartFits v part → Leads (Seen v) (MayFall v) (Halted v) (do_part r part)
  unfolding do_part
  do_part-tells r h (Sends s place) fits = begin-tells s ⊳ after-leads (λ p m. Stands m) (send_out-tells s place fits)
  do_part-tells r h (Acts s pick) fits = begin-tells s ⊳ choose-tells _ (after-leads (λ p m. Stands m) stay-tells) (act-tells r h s pick)
  do_part-tells r h (Suffers s) fits = after-leads (λ p m. Stands m) (residual-tells s)

  spent-tells : (s : Side) → Tells v (end_spent_trapping s)
  unfolding end_spent_trapping seeing
  spent-tells s = choose-tells _ (conditions-tells s _ (λ c. refl)) stay-tells

  end_turn-tells : Tells v end_turn
  unfolding end_turn
  end_turn-tells = spent-tells One ⊳ spent-tells Two

  do_parts-tells : (r : Ruling) → RulingTells v r → (parts : List Part) → AllFit v parts → Leads (Seen v) (MayFall v) (Halted v) (do_parts r parts)
  unfolding do_parts
  do_parts-tells r h [] fit = after-leads (λ p m. Stands m) end_turn-tells
  do_parts-tells r h (part ∷ rest) fit = do_part-tells r h part fit.0
      ⊳ choose-sees is_cut (before-leads (λ p m. m.0) stay-tells) (before-leads not-cut (do_parts-tells r h rest fit.1))

  set_picked-tells : (s : Side) (pick : Pick) → Tells v (set_picked s pick)
  unfolding set_picked seeing
  set_picked-tells s pick = given-tells _ (λ a. active-tells s _ (λ a. refl))

  -- The order

  toss-tells : (begins : Side → Phase) → ((s : Side) → Leads (Seen v) (MayFall v) (Halted v) (begins s)) → (b : ℕ) → Leads (Seen v) (MayFall v) (Halted v) (toss begins b)
  unfolding toss
  toss-tells begins h b = choose-tells _ (h One) (h Two)

  speed-tells : (begins : Side → Phase) → ((s : Side) → Leads (Seen v) (MayFall v) (Halted v) (begins s)) → Leads (Seen v) (MayFall v) (Halted v) (in_order_of_speed begins)
  unfolding in_order_of_speed
  speed-tells begins h = choose-tells _ (h One) (choose-tells _ (h Two) (draw-tells (toss-tells begins h)))

  rank-tells : (one two : ℕ) (begins : Side → Phase) → ((s : Side) → Leads (Seen v) (MayFall v) (Halted v) (begins s)) → Leads (Seen v) (MayFall v) (Halted v) (in_order_of_rank one two begins)
  unfolding in_order_of_rank
  rank-tells one two begins h = choose-tells _ (h One) (choose-tells _ (h Two) (speed-tells begins h))

  order-tells : (begins : Side → Phase) → ((s : Side) → Leads (Seen v) (MayFall v) (Halted v) (begins s)) → Leads (Seen v) (MayFall v) (Halted v) (in_order begins)
  unfolding in_order
  order-tells begins h = given-tells _ (λ one. given-tells _ (λ two. rank-tells one two begins h))

  both_pick-tells : (r : Ruling) → RulingTells v r → (one two : Pick) → Leads (Seen v) (MayFall v) (Halted v) (both_pick r one two)
  unfolding both_pick
  both_pick-tells r h one two = set_picked-tells One one ⊳ set_picked-tells Two two
      ⊳ order-tells (λ s. do_parts r (both_act one two s)) (λ s. do_parts-tells r h (both_act one two s) (tt, (tt, (tt, (tt, tt)))))

  one_picks-tells : (r : Ruling) → RulingTells v r → (s : Side) (pick : Pick) (place : ℕ) → Fits v (other s) place → Leads (Seen v) (MayFall v) (Halted v) (one_picks r s pick place)
  unfolding one_picks
  one_picks-tells r h s pick place fits = set_picked-tells s pick ⊳ do_parts-tells r h (switch_then_act s pick place) (fits, (tt, (tt, (tt, tt))))

  play_turn-tells : (r : Ruling) → RulingTells v r → (one two : Choice) → ChoiceFits v One one → ChoiceFits v Two two → Leads (Seen v) (MayFall v) (Halted v) (play_turn r one two)
  unfolding play_turn
  play_turn-tells r h (choices.Move j) (choices.Move k) a b = given-tells _ (λ one. given-tells _ (λ two. both_pick-tells r h one two))
  play_turn-tells r h (choices.Move j) (choices.Switch place) a b = given-tells _ (λ pick. one_picks-tells r h One pick place b)
  play_turn-tells r h (choices.Switch place) (choices.Move k) a b = given-tells _ (λ pick. one_picks-tells r h Two pick place a)
  play_turn-tells r h (choices.Switch one) (choices.Switch two) a b = do_parts-tells r h (both_switch one two) (a, (tt, (b, (tt, tt))))
  play_turn-tells r h _ _ a b = after-leads (λ p m. Stands m) stay-tells

  pub turn-tells : (r : Ruling) → RulingTells v r → (one two : Choice) → ChoiceFits v One one → ChoiceFits v Two two → Leads (Seen v) (MayFall v) (Halted v) (turn r one two)
  unfolding turn seeing
  turn-tells r h one two a b = conditions-tells One _ (λ c. refl) ⊳ conditions-tells Two _ (λ c. refl) ⊳ play_turn-tells r h one two a b

  -- Replacements

  send_if-tells : (s : Side) (c : Choice) → ChoiceFits v s c → Tells v (send_if_chosen s c)
  unfolding send_if_chosen
  send_if-tells s (choices.Switch place) fits = send_out-tells s place fits
  send_if-tells s _ fits = stay-tells

  pub replace-tells : (one two : Choice) → ChoiceFits v One one → ChoiceFits v Two two → Tells v (replace one two)
  unfolding replace
  replace-tells one two a b = send_if-tells One one a ⊳ send_if-tells Two two b

-- The rest of an update

pub record Done (v : View) (f : Field) (events : List Event) : Type 0 where
  pub both : BothOut f
  pub agrees : sees_all events v ≡ shows f

abbrev pub IsDone : View → Progress → Type 0
IsDone v p = Done v p.field p.events

-- An outcome that no event has reported yet.
pub record Ended (v : View) (o : Outcome) (f : Field) (events : List Event) : Type 0 where
  pub before : Field
  pub agrees : sees_all events v ≡ shows before
  pub both : BothOut f
  pub ahead : shows f ≡ record (shows before) { outcome = o }

abbrev HasEnded : View → Outcome → Progress → Type 0
HasEnded v o p = Ended v o p.field p.events

fallen-twice : (s t : Side) (w : View) → fallen_view t (fallen_view s w) ≡ fallen_view s (fallen_view t w)
fallen-twice One One w = refl
fallen-twice One Two w = refl
fallen-twice Two One w = refl
fallen-twice Two Two w = refl

hidden-silent : (s : Side) (f : Field) → shown (member_in s f) ≡ not_shown → shows (changed_member s fallen f) ≡ shows f
unfolding fallen
hidden-silent s f h = unseen-member s fallen f (sym h)

tie-seen : (w : View) → sees events.Tie w ≡ record w { outcome = outcomes.Tie }
unfolding sees
tie-seen w = refl

win_one-seen : (w : View) → sees (events.Win One) w ≡ record w { outcome = outcomes.WinOne }
unfolding sees
win_one-seen w = refl

win_two-seen : (w : View) → sees (events.Win Two) w ≡ record w { outcome = outcomes.WinTwo }
unfolding sees
win_two-seen w = refl

fault-seen : (n : ℕ) (w : View) → sees (events.Fault n) w ≡ record w { outcome = outcomes.Fault n }
unfolding sees
fault-seen n w = refl

turn-seen : (n : ℕ) (w : View) → sees (events.Turn n) w ≡ record w { turn = n }
unfolding sees
turn-seen n w = refl

abbrev later : View → View
later w = record w { turn = w.turn + 1 }

next-shows : (f : Field) → shows (with_next_turn f) ≡ later (shows f)
unfolding with_next_turn
next-shows f = refl

next-keeps : Keeps with_next_turn
unfolding with_next_turn
next-keeps = record { both = λ f o. record { one = o.one; two = o.two }; outcome = λ f. refl }

module _ {v : View} {S : Progress → Type 0} where
  -- The fallen faint

  faint-tells : (t : Side) → Leads (Seen v) (Seen v) S (faint_if_fallen t)
  unfolding faint_if_fallen fallen
  faint-tells t = choose-tells _ (told-tells (changed_member t fallen) (λ f. events.Faint (who_in t f)) (keeps-member t fallen)
      (λ f o. faint-seen (who_in t (changed_member t fallen f)) (shows f) ∙ told-member t fallen (λ n x. not_shown) f o.both refl)) stay-tells

  faint-same : (s : Side) → Leads (Lags v (fallen_view s)) (Seen v) S (faint_if_fallen s)
  unfolding faint_if_fallen told
  faint-same s = choose-sees (has_fallen s)
      (record {
        leads = λ p r m.
            let b = m.0 in
            let event = events.Faint (who_in s (changed_member s fallen p.field)) in
            Runs r (record {
              out = kept (keeps-member s fallen) p.field b.out;
              agrees = sees_all-last p.events event v ∙ ap (λ w. sees event w) b.agrees ∙ faint-seen (who_in s (changed_member s fallen p.field)) (shows b.before)
                  ∙ on-side-same s (on_shown (λ x. not_shown)) (on_shown (λ x. not_shown)) b.before b.was.both refl
                  ∙ sym b.ahead ∙ sym (hidden-silent s p.field (hidden-shown s b));
            });
      })
      (record { leads = λ p r m. absurd (true≢false (sym (hidden-fallen s m.0) ∙ m.1)) })

  faint-other : (s t : Side) → Leads (Lags v (fallen_view s)) (Lags v (fallen_view s)) S (faint_if_fallen t)
  unfolding faint_if_fallen told
  faint-other s t = choose-tells _
      (record {
        leads = λ p r b.
            let event = events.Faint (who_in t (changed_member t fallen p.field)) in
            Runs r (record {
              before = changed_member t fallen b.before;
              was = kept (keeps-member t fallen) b.before b.was;
              fact = tt;
              agrees = sees_all-last p.events event v ∙ ap (λ w. sees event w) b.agrees ∙ faint-seen (who_in t (changed_member t fallen p.field)) (shows b.before)
                  ∙ on-side-same t (on_shown (λ x. not_shown)) (on_shown (λ x. not_shown)) b.before b.was.both refl
                  ∙ sym (exploded-shows t b.before b.was);
              out = kept (keeps-member t fallen) p.field b.out;
              ahead = exploded-shows t p.field b.out ∙ ap (fallen_view t) b.ahead ∙ fallen-twice s t (shows b.before)
                  ∙ ap (fallen_view s) (sym (exploded-shows t b.before b.was));
            });
      })
      stay-tells

  faints-tells : (actor : Side) → Leads (MayFall v) (Seen v) S (faint_in_order actor)
  unfolding faint_in_order
  faints-tells actor = record { leads = λ p r m. by actor p r m }
    where
      by : (actor : Side) (p : Progress) → p.stopped ≡ false → MayFall v p → Lands (Seen v) S (faint_in_order actor p)
      by a p r (Stands m) = (faint-tells (other a) ⊳ faint-tells a).leads p r m
      by One p r (Fallen One m) = (faint-other One Two ⊳ faint-same One).leads p r m
      by One p r (Fallen Two m) = (faint-same Two ⊳ faint-tells One).leads p r m
      by Two p r (Fallen One m) = (faint-same One ⊳ faint-tells Two).leads p r m
      by Two p r (Fallen Two m) = (faint-other Two One ⊳ faint-same Two).leads p r m

  fallen-tells : Leads (MayFall v) (Seen v) S the_fallen_faint
  unfolding the_fallen_faint
  fallen-tells = given-tells _ faints-tells

  -- The battle ends

  end-step : (o : Outcome) → Leads (Seen v) (HasEnded v o) S (on_field (with_outcome o))
  unfolding on_field with_outcome
  end-step o = record {
    leads = λ p r m.
        Runs r (record { before = p.field; agrees = m.agrees; both = record { one = m.out.both.one; two = m.out.both.two }; ahead = refl });
  }

  ask_nothing-tells : (o : Outcome) → Leads (HasEnded v o) (HasEnded v o) S ask_nothing
  unfolding ask_nothing on_field
  ask_nothing-tells o = record {
    leads = λ p r m.
        let h = silent-requests requests.Pass requests.Pass in
        Runs r (record { before = m.before; agrees = m.agrees; both = h.keeps.both p.field m.both; ahead = h.unseen p.field ∙ m.ahead });
  }

  end-note : (o : Outcome) (event : Event) → ((w : View) → sees event w ≡ record w { outcome = o }) → Leads (HasEnded v o) (IsDone v) S (note (λ f. event))
  unfolding note
  end-note o event h = record {
    leads = λ p r m.
        Runs r (record { both = m.both; agrees = sees_all-last p.events event v ∙ ap (λ w. sees event w) m.agrees ∙ h (shows m.before) ∙ sym m.ahead });
  }

  -- The battle goes on

  ask_switches-tells : Leads (Seen v) (Seen v) S ask_for_switches
  unfolding ask_for_switches
  ask_switches-tells = given-tells _ (λ one. given-tells _ (λ two. field-tells _ (silent-requests _ _)))

  ask_moves-tells : Leads (Seen v) (Seen v) S ask_for_moves
  unfolding ask_for_moves
  ask_moves-tells = before-leads (λ p m. (m, tt)) (field-ahead with_next_turn Anything later next-keeps (λ f o fact. next-shows f))
      ⊳ told-told (with_requests requests.Move requests.Move) (λ f. events.Turn f.turn) Anything later (silent-requests requests.Move requests.Move)
      (λ b f o q fact a. turn-seen f.turn (shows b) ∙ ap (λ n. record (shows b) { turn = n }) (ap (λ (w : View). w.turn) a))

-- The first place holds a member.
fits-first : (v : View) (f : Field) (events : List Event) → sees_all events v ≡ shows f → (s : Side) → 1 ≤ length (party s f).members → (1 ≤ 1) × (1 ≤ length (side_view s v).members)
fits-first v f events e s h = let same = sized v f events e s in (omega arith, omega (arith, h, same))

module _ {v : View} where
  battle_ends-tells : {Q : Progress → Type 0} (o : Outcome) (event : Event) → ((w : View) → sees event w ≡ record w { outcome = o })
      → Leads (Seen v) Q (IsDone v) (battle_ends o event)
  unfolding battle_ends
  battle_ends-tells o event h = end-step o ⊳ ask_nothing-tells o ⊳ end-note o event h ⊳ stop-leads (λ p m. m)

  end_if-tells : (r : Ruling) → Leads (Seen v) (Seen v) (IsDone v) (end_if_decided r)
  unfolding end_if_decided
  end_if-tells r = choose-tells _ (battle_ends-tells outcomes.Tie events.Tie tie-seen) stay-tells
      ⊳ choose-tells _ (battle_ends-tells outcomes.WinTwo (events.Win Two) win_two-seen) stay-tells
      ⊳ choose-tells _ (battle_ends-tells outcomes.WinOne (events.Win One) win_one-seen) stay-tells
      ⊳ choose-tells _ (battle_ends-tells outcomes.Tie events.Tie tie-seen) stay-tells

  settle-tells : (r : Ruling) → Leads (Seen v) (Seen v) (IsDone v) (settle r)
  unfolding settle
  settle-tells r = end_if-tells r ⊳ choose-tells _ ask_switches-tells ask_moves-tells

  close-tells : (r : Ruling) → Leads (MayFall v) (Seen v) (IsDone v) (close r outcomes.Ongoing)
  unfolding close
  close-tells r = fallen-tells ⊳ settle-tells r

  close-fault : (r : Ruling) (n : ℕ) → Leads (HasEnded v (outcomes.Fault n)) (IsDone v) (IsDone v) (close r (outcomes.Fault n))
  unfolding close
  close-fault r n = ask_nothing-tells (outcomes.Fault n) ⊳ end-note (outcomes.Fault n) (events.Fault n) (fault-seen n)

  seen-done : (q : Progress) → Lands (Seen v) (IsDone v) q → IsDone v q
  seen-done q (Runs r m) = record { both = m.out.both; agrees = m.agrees }
  seen-done q (Rests r m) = m

  any-done : (q : Progress) → Lands (IsDone v) (IsDone v) q → IsDone v q
  any-done q (Runs r m) = m
  any-done q (Rests r m) = m

  still-done : (r : Ruling) (q : Progress) → MayFall v q → IsDone v (close_update r q)
  unfolding close_update
  still-done r q m =
      let x : Progress = record q { stopped = false } in
      subst (λ (o : Outcome). IsDone v (close r o x)) (sym (fell-ongoing q.field m)) (seen-done (close r outcomes.Ongoing x) ((close-tells r).leads x refl m))

  pub close-done : (r : Ruling) (q : Progress) → Lands (MayFall v) (Halted v) q → IsDone v (close_update r q)
  unfolding close_update
  close-done r q (Runs s m) = still-done r q m
  close-done r q (Rests s (Still m)) = still-done r q m
  close-done r q (Rests s (Broken m)) =
      let x : Progress = record q { stopped = false } in
      subst (λ (o : Outcome). IsDone v (close r o x)) (sym m.outcome) (any-done (close r (outcomes.Fault m.number) x)
      ((close-fault r m.number).leads x refl (record { before = m.before; agrees = m.agrees; both = m.both; ahead = m.ahead })))

  -- An update

  update_for-lands : (r : Ruling) → RulingTells v r → (a b : Request) (one two : Choice) → ChoiceFits v One one → ChoiceFits v Two two
      → (p : Progress) → p.stopped ≡ false → Seen v p → Lands (MayFall v) (Halted v) (update_for r a b one two p)
  unfolding update_for
  update_for-lands r h requests.Move requests.Move one two c d p i m = (turn-tells r h one two c d).leads p i m
  update_for-lands r h requests.Pass requests.Pass one two c d p i m =
      let first = fits-first v p.field p.events m.agrees One (omega (arith, m.out.both.one.placed, m.out.both.one.within)) in
      let second = fits-first v p.field p.events m.agrees Two (omega (arith, m.out.both.two.placed, m.out.both.two.within)) in
      (after-leads (λ q n. Stands n) (start-tells IsOut IsOut steady-out first second)).leads p i
      (record { agrees = m.agrees; ongoing = m.out.ongoing; one = m.out.both.one; two = m.out.both.two })
  update_for-lands r h _ _ one two c d p i m = (after-leads (λ q n. Stands n) (replace-tells one two c d)).leads p i m

  pub update-done : (r : Ruling) → RulingTells v r → (one two : Choice) → ChoiceFits v One one → ChoiceFits v Two two
      → (p : Progress) → p.stopped ≡ false → Seen v p → IsDone v (update r one two p)
  unfolding update
  update-done r h one two c d p i m = close-done r (update_for r p.field.request_one p.field.request_two one two p)
      (update_for-lands r h p.field.request_one p.field.request_two one two c d p i m)

  -- The first update. Before it no member is out.
  pub first-done : (r : Ruling) (one two : Choice) (p : Progress) → p.stopped ≡ false → p.field.outcome ≡ outcomes.Ongoing
      → sees_all p.events v ≡ shows p.field → p.field.request_one ≡ requests.Pass → p.field.request_two ≡ requests.Pass
      → 1 ≤ length p.field.one.members → 1 ≤ length p.field.two.members → IsDone v (update r one two p)
  unfolding update update_for
  first-done r one two p i o e a b c d =
      subst (λ (q : Progress). IsDone v (close_update r q))
      (sym (ap (λ (x : Request). update_for r x p.field.request_two one two p) a ∙ ap (λ (x : Request). update_for r requests.Pass x one two p) b))
      (close-done r (update_for r requests.Pass requests.Pass one two p)
      ((after-leads (λ q n. Stands n) (start-tells (λ t. Unit {0}) (λ t. Unit {0}) steady-any (fits-first v p.field p.events e One c) (fits-first v p.field p.events e Two d))).leads p i
      (record { agrees = e; ongoing = o; one = tt; two = tt })))

-- The spectator's law: after any run from the start of a battle, the view made from the events is what the battle
-- shows.

-- An offered choice names a place that holds a member

abbrev PlaceFits : ℕ → Choice → Type 0
PlaceFits n (choices.Switch place) = (1 ≤ place) × (place ≤ n)
PlaceFits n _ = Unit {0}

abbrev EachFits : ℕ → List Choice → Type 0
EachFits n [] = Unit {0}
EachFits n (c ∷ cs) = PlaceFits n c × EachFits n cs

if-fits : (n : ℕ) (b : Bool) (xs ys : List Choice) → EachFits n xs → EachFits n ys → EachFits n (if b then xs else ys)
if-fits n true xs ys h k = h
if-fits n false xs ys h k = k

append-fits : (n : ℕ) (xs ys : List Choice) → EachFits n xs → EachFits n ys → EachFits n (xs ++ ys)
append-fits n [] ys h k = k
append-fits n (x ∷ xs) ys h k = (h.0, append-fits n xs ys h.1 k)

usable-fits : (n slot : ℕ) (disabled : Option DisabledSlot) (moves : List KnownMove) → EachFits n (usable_from slot disabled moves)
usable-fits n slot disabled [] = tt
usable-fits n slot disabled (m ∷ ms) = if-fits n (nat_lt 0 m.pp && not (bars_slot disabled slot)) (choices.Move slot ∷ usable_from (slot + 1) disabled ms)
    (usable_from (slot + 1) disabled ms) (tt, usable-fits n (slot + 1) disabled ms) (usable-fits n (slot + 1) disabled ms)

struggle-fits : (n : ℕ) (cs : List Choice) → EachFits n cs → EachFits n (or_struggle cs)
struggle-fits n [] h = (tt, tt)
struggle-fits n (c ∷ cs) h = h

others-fit : (n place out : ℕ) (members : List Member) → 1 ≤ place → place + length members ≤ n + 1 → EachFits n (others_living_from place out members)
others-fit n place out [] low high = tt
others-fit n place out (m ∷ ms) low high =
    let rest = others-fit n (place + 1) out ms (omega (arith, low)) (omega (arith, high)) in
    if-fits n (is_living m && not (place == out)) (choices.Switch place ∷ others_living_from (place + 1) out ms) (others_living_from (place + 1) out ms)
    ((low, omega (arith, high)), rest) rest

switches-fit : (s : Side) (f : Field) → EachFits (length (party s f).members) (switches_offered s f)
switches-fit s f = others-fit (length (party s f).members) 1 (active_in s f).place (party s f).members (omega arith) (omega arith)

moves-fit : (n : ℕ) (s : Side) (f : Field) → EachFits n (moves_offered s f)
moves-fit n s f = if-fits n (has_no_slot_in s f) (choices.Move 0 ∷ []) (or_struggle (usable_from 1 (conditions_in s f).disabled (member_in s f).moves))
    (tt, tt) (struggle-fits n _ (usable-fits n 1 (conditions_in s f).disabled (member_in s f).moves))

offered_for-fits : (request : Request) (s : Side) (f : Field) → EachFits (length (party s f).members) (offered_for request s f)
offered_for-fits requests.Pass s f = (tt, tt)
offered_for-fits requests.Switch s f = switches-fit s f
offered_for-fits requests.Move s f = if-fits (length (party s f).members) (is_committed (underway_in s f)) (choices.Move 0 ∷ []) (moves_offered s f ++ switches_offered s f)
    (tt, tt) (append-fits (length (party s f).members) (moves_offered s f) (switches_offered s f) (moves-fit (length (party s f).members) s f) (switches-fit s f))

offered-fits : (s : Side) (f : Field) → EachFits (length (party s f).members) (offered s f)
unfolding offered
offered-fits s f = if-fits (length (party s f).members) (is_over f.outcome) [] (offered_for (request_of s f) s f) tt (offered_for-fits (request_of s f) s f)

same-fits : (n : ℕ) (c x : Choice) → same_choice c x ≡ true → PlaceFits n x → PlaceFits n c
same-fits n (choices.Switch j) (choices.Switch k) e h = let same : j ≡ k = eqb-true j k e in (omega (arith, same, h.0), omega (arith, same, h.1))
same-fits n (choices.Switch j) (choices.Move k) e h = absurd (true≢false (sym e))
same-fits n (choices.Switch j) choices.Pass e h = absurd (true≢false (sym e))
same-fits n (choices.Move j) x e h = tt
same-fits n choices.Pass x e h = tt

among-fits : (n : ℕ) (c : Choice) (cs : List Choice) → EachFits n cs → is_among c cs ≡ true → PlaceFits n c
among-fits n c [] h e = absurd (true≢false (sym e))
among-fits n c (x ∷ xs) h e = by (same_choice c x) refl e (among-fits n c xs h.1)
  where
    by : (b : Bool) → same_choice c x ≡ b → (b || is_among c xs) ≡ true → (is_among c xs ≡ true → PlaceFits n c) → PlaceFits n c
    by true d g rest = same-fits n c x d h.0
    by false d g rest = rest g

choice-fits : (v : View) (s : Side) (n : ℕ) (c : Choice) → n ≡ length (side_view s v).members → PlaceFits n c → ChoiceFits v s c
choice-fits v s n (choices.Switch place) e h = (h.0, omega (arith, e, h.1))
choice-fits v s n (choices.Move k) e h = tt
choice-fits v s n choices.Pass e h = tt

-- Between two updates

pub data Ready (f : Field) : Type 0 where
  Begun : BothOut f → Ready f
  Fresh : f.request_one ≡ requests.Pass → f.request_two ≡ requests.Pass → 1 ≤ length f.one.members → 1 ≤ length f.two.members → Ready f

pub record Knows (v : View) (f : Field) (events : List Event) : Type 0 where
  pub agrees : sees_all events v ≡ shows f
  pub ready : Ready f

goes-on : (o : Outcome) → is_over o ≡ false → o ≡ outcomes.Ongoing
goes-on outcomes.Ongoing e = refl
goes-on _ e = absurd (true≢false e)

update-knows : (v : View) (s : State) (one two : Choice) → v ≡ shows s.field → Ready s.field → is_over s.field.outcome ≡ false
    → offers s One one ≡ true → offers s Two two ≡ true → Done v (update (ruling_of s.terms) one two (opened s)).field (update (ruling_of s.terms) one two (opened s)).events
unfolding sees_all
update-knows v s one two e (Begun both) o a b =
    let fits : (side : Side) (c : Choice) → offers s side c ≡ true → ChoiceFits v side c = λ side c k.
    choice-fits v side (length (party side s.field).members) c (sized v s.field [] e side)
    (among-fits (length (party side s.field).members) c (offered side s.field) (offered-fits side s.field) k) in
    update-done (ruling_of s.terms) (ruling_of-tells s.terms) one two (fits One one a) (fits Two two b) (opened s) refl
    (record { out = record { both = both; ongoing = goes-on s.field.outcome o }; agrees = e })
update-knows v s one two e (Fresh x y c d) o a b = first-done (ruling_of s.terms) one two (opened s) refl (goes-on s.field.outcome o) e x y c d

answered-knows : (v : View) (s : State) (over a b : Bool) (p : Progress) → v ≡ shows s.field → Ready s.field
    → (over ≡ false → a ≡ true → b ≡ true → Done v p.field p.events)
    → Knows v (answered s over a b p).state.field (events_of (answered s over a b p).answer)
unfolding answered sees_all
answered-knows v s true a b p e r h = record { agrees = e; ready = r }
answered-knows v s false false b p e r h = record { agrees = e; ready = r }
answered-knows v s false true false p e r h = record { agrees = e; ready = r }
answered-knows v s false true true p e r h = let d = h refl refl refl in record { agrees = d.agrees; ready = Begun d.both }

step-knows : (v : View) (s : State) (one two : Choice) → v ≡ shows s.field → Ready s.field → Knows v (step s one two).state.field (events_of (step s one two).answer)
unfolding step step_by
step-knows v s one two e r = answered-knows v s (is_over s.field.outcome) (offers s One one) (offers s Two two) (update (ruling_of s.terms) one two (opened s)) e r
    (λ o a b. update-knows v s one two e r o a b)

sees_all-append : (xs ys : List Event) (v : View) → sees_all (xs ++ ys) v ≡ sees_all ys (sees_all xs v)
unfolding sees_all
sees_all-append [] ys v = refl
sees_all-append (x ∷ xs) ys v = sees_all-append xs ys (sees x v)

run-knows : (v : View) (s : State) (pairs : List (Choice × Choice)) → v ≡ shows s.field → Ready s.field
    → sees_all (flat_map events_of (run s pairs).answers) v ≡ shows (run s pairs).state.field
unfolding run_by sees_all
run-knows v s [] e r = e
run-knows v s (pair ∷ pairs) e r =
    let next : Stepped = step s pair.0 pair.1 in
    let k = step-knows v s pair.0 pair.1 e r in
    sees_all-append (events_of next.answer) (flat_map events_of (run next.state pairs).answers) v
    ∙ run-knows (sees_all (events_of next.answer) v) next.state pairs k.agrees k.ready

-- Before the battle

abbrev at_first : Member → Shown
at_first m = record { hp = m.max; kind = None }

fresh-shown : (m : Member) → IsFresh m → at_first m ≡ shown m
fresh-shown m h = ap (λ n. record (at_first m) { hp = n }) (sym h.unhurt) ∙ ap (λ (status : Status). record (shown m) { kind = kind_of status }) (sym h.healthy)

team-shown : (team : List Member) → All IsFresh team → map at_first team ≡ map shown team
team-shown [] h = refl
team-shown (m ∷ ms) h =
    ap (λ (k : Shown). k ∷ map at_first ms) (fresh-shown m (All-head IsFresh m ms h))
    ∙ ap (λ (ks : List Shown). shown m ∷ ks) (team-shown ms (All-tail IsFresh m ms h))

pub watcher_knows : WatcherKnows
watcher_knows t one two seed pairs a b =
    let s : State = first_state t one two seed in
    let w : View = first_view one two in
    let first : w ≡ shows s.field =
    ap (λ (ms : List Shown). record w { one = record w.one { members = ms } }) (team-shown one a.members)
    ∙ ap (λ (ms : List Shown). record (shows s.field) { two = record (shows s.field).two { members = ms } }) (team-shown two b.members) in
    run-knows w s pairs first (Fresh refl refl a.size.0 b.size.0)
