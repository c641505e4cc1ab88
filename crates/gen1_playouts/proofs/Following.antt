-- An update changes no member but those that are out before or after it.
use Rattle.std.proofs.Common.{Bool, List, [], arith, get_or, get_or-set_other, inl, inr, refl, subst, sym, true, false, ℕ, ◌-◌, ◌∙◌, ◌∷◌, ◌≡◌, ◌≢◌, ◌≤◌, ◌⊎◌, ap}
use Rattle.std.specs.Prelude.{max}
use Rattle.std.proofs.lemmas.Bool.{false≢true}
use Rattle.gen1_rolls.specs.Streams.{Link, Stream}
use Rattle.gen1_stats.specs.Members.{Member, nobody}
use Rattle.gen1_machine.specs.declared.side.Choice.{Choice}
use Rattle.gen1_machine.specs.declared.side.Choice.TheVariants as choices
use Rattle.gen1_machine.specs.declared.event.Event.{Event}
use Rattle.gen1_machine.specs.declared.side.Pick.{Pick}
use Rattle.gen1_machine.specs.declared.side.Side.{Side}
use Rattle.gen1_machine.specs.declared.side.Side.TheVariants.{One, Two}
use Rattle.gen1_machine.specs.declared.terms.Outcome.{Outcome}
use Rattle.gen1_machine.specs.declared.terms.Outcome.TheVariants as outcomes
use Rattle.gen1_machine.specs.declared.terms.Request.{Request}
use Rattle.gen1_machine.specs.declared.terms.Request.TheVariants as requests
use Rattle.gen1_machine.specs.Conditions.{without_flinch}
use Rattle.gen1_machine.specs.Sides.{other}
use Rattle.gen1_machine.specs.State.{Active, Field, Party, State, Terms, active_in, is_over, party, with_member, with_next_turn, with_outcome, with_requests}
use Rattle.gen1_machine.specs.Progress.{Action, Phase, Progress, new_action, on_conditions}
use Rattle.gen1_machine.specs.Ruling.{Ruling, ruling_of}
use Rattle.gen1_machine.specs.SwitchingIn.{replace, send_if_chosen, start}
use Rattle.gen1_machine.specs.TurnOrder.{in_order, in_order_of_rank, in_order_of_speed, toss}
use Rattle.gen1_machine.specs.Turn.{Part, Sends, Suffers, both_act, both_pick, both_switch, do_part, do_parts, one_picks, play_turn, turn}
use Rattle.gen1_machine.specs.Falls.{ask_for_moves, ask_for_switches, ask_nothing, battle_ends, close, end_if_decided, settle}
use Rattle.gen1_machine.specs.OfferedChoices.{offered, offered_for}
use Rattle.gen1_machine.specs.Step.{answered, close_update, is_among, offers, opened, step, step_by, update, update_for}
use Rattle.gen1_machine.specs.Valid.{IsStarted, IsState, IsUnstarted}
use Rattle.gen1_machine.proofs.Keeps.{Keeps, Spares, choose-keeps, draw-keeps, given-keeps, keeps_rules, note-keeps, on_conditions-keeps, stay-keeps, then-keeps, Leads, choose-leads, given-leads, keeps-leads, leads-weaker, stay-leads, then-leads}
use Rattle.gen1_machine.proofs.Free.{Free, begin-free, conditions-spared}
use Rattle.gen1_machine.proofs.Turns.{Alike, Between, FreeParty, alike-free, alike-itself, between-free, between-weaker, Begins, begins-free, part-acts, part-suffers, parts-end, send_one, send_two, set_picked-free, suffers_acts-end, the_fallen_faint-free}
use Rattle.gen1_machine.proofs.Fitting.{offered-passes}
use Rattle.gen1_machine.proofs.RunsEnd.{offered-is, state-ready, Waits}
use Rattle.gen1_switching.proofs.Stepped.{valid-after}
use Rattle.gen1_offers.specs.OfferedChoices.{BothFollow, Follows, KeepsOut}
use Rattle.gen1_offers.proofs.OfferedSet.{asks_nothing}

-- a party

-- without a switch the same member is out
abbrev Stays : Choice → Party → Party → Type 0
Stays (choices.Switch place) old new = Unit {0}
Stays choice old new = (new.active.place - 1) ≡ (old.active.place - 1)

-- only the members that are out before or after may have changed
record Moves (choice : Choice) (old new : Party) : Type 0 where
  pub out : Stays choice old new
  pub others : (i : ℕ) → i ≢ (old.active.place - 1) → i ≢ (new.active.place - 1) → get_or new.members i nobody ≡ get_or old.members i nobody

stays-out : (choice : Choice) (old t u : Party) → u.active.place ≡ t.active.place → Stays choice old t → Stays choice old u
stays-out choices.Pass old t u e h = rw e h
stays-out (choices.Move slot) old t u e h = rw e h
stays-out (choices.Switch place) old t u e h = tt

moves-free : (choice : Choice) (old : Party) → FreeParty (Moves choice old)
moves-free choice old = record { member = by_member; active = by_active }
  where
    by_member : (t : Party) (m : Member) → Moves choice old t → Moves choice old (with_member t.active.place m t)
    by_member t m h = record {
      out = stays-out choice old t (with_member t.active.place m t) refl h.out;
      others = λ i away here. get_or-set_other t.members (t.active.place - 1) i m nobody here ∙ h.others i away here;
    }

    by_active : (t : Party) (a : Active) → a.place ≡ t.active.place → Moves choice old t → Moves choice old (record t { active = a })
    by_active t a e h = record {
      out = stays-out choice old t (record t { active = a }) e h.out;
      others = λ i away here. h.others i away (rw (sym e) here);
    }

alike-out : (choice : Choice) (old t : Party) → Alike old t → Stays choice old t
alike-out choices.Pass old t h = rw h.place refl
alike-out (choices.Move slot) old t h = rw h.place refl
alike-out (choices.Switch place) old t h = tt

alike-moves : (choice : Choice) (old t : Party) → Alike old t → Moves choice old t
alike-moves choice old t h = record { out = alike-out choice old t h; others = λ i away here. h.others i away }

sent-moves : (place n : ℕ) (old t : Party) (a : Active) → Alike old t → Moves (choices.Switch place) old (record t { active = a })
sent-moves place n old t a h = record { out = tt; others = λ i away here. h.others i away }

-- a turn

module _ {P : Field → Action → Stream → Type 0} (free : Free P) (terms : Terms) where
  parts-more : (part : Part) (rest : List Part) → Keeps P (do_part (ruling_of terms) part) → Keeps P (do_parts (ruling_of terms) rest)
      → Keeps P (do_parts (ruling_of terms) (part ∷ rest))
  unfolding do_parts
  parts-more part rest k l = then-keeps k (choose-keeps _ stay-keeps l)

  suffers-end : (s : Side) → Keeps P (do_parts (ruling_of terms) (Suffers s ∷ []))
  suffers-end s = parts-more _ _ (part-suffers free terms s) (parts-end free terms)

  both_act-keeps : (one two : Pick) (s : Side) → Keeps P (do_parts (ruling_of terms) (both_act one two s))
  both_act-keeps one two s = parts-more _ _ (part-acts free terms s _) (suffers_acts-end free terms s (other s) _)

  toss-keeps : (begins : Side → Phase) (b : ℕ) → ((s : Side) → Keeps P (begins s)) → Keeps P (toss begins b)
  unfolding toss
  toss-keeps begins b k = choose-keeps _ (k One) (k Two)

  speed-keeps : (begins : Side → Phase) → ((s : Side) → Keeps P (begins s)) → Keeps P (in_order_of_speed begins)
  unfolding in_order_of_speed
  speed-keeps begins k = choose-keeps _ (k One) (choose-keeps _ (k Two) (draw-keeps (λ b. toss-keeps begins b k)))

  rank-keeps : (one two : ℕ) (begins : Side → Phase) → ((s : Side) → Keeps P (begins s)) → Keeps P (in_order_of_rank one two begins)
  unfolding in_order_of_rank
  rank-keeps one two begins k = choose-keeps _ (k One) (choose-keeps _ (k Two) (speed-keeps begins k))

  order-keeps : (begins : Side → Phase) → ((s : Side) → Keeps P (begins s)) → Keeps P (in_order begins)
  unfolding in_order
  order-keeps begins k = given-keeps _ (λ one. given-keeps _ (λ two. rank-keeps one two begins k))

  both_pick-keeps : (one two : Pick) → Keeps P (both_pick (ruling_of terms) one two)
  unfolding both_pick
  both_pick-keeps one two =
      then-keeps (set_picked-free free terms One one) (then-keeps (set_picked-free free terms Two two) (order-keeps _ (λ s. both_act-keeps one two s)))

-- one side switches, with a fact of the other party

module _ {B : Party → Type 0} (terms : Terms) (n place : ℕ) (free : FreeParty B) (old : Party) where
  one-sends : Leads (Between (Alike old) B n) (Between (Moves (choices.Switch place) old) B n) (do_part (ruling_of terms) (Sends One place))
  unfolding do_part
  one-sends = then-leads
      (keeps-leads (begin-free (between-free n (alike-free old) free) One))
      (send_one n place free (λ t a e h. sent-moves place n old t a h))
      (between-weaker (alike-moves (choices.Switch place) old) (λ t h. h))

  two-sends : Leads (Between B (Alike old) n) (Between B (Moves (choices.Switch place) old) n) (do_part (ruling_of terms) (Sends Two place))
  unfolding do_part
  two-sends = then-leads
      (keeps-leads (begin-free (between-free n free (alike-free old)) Two))
      (send_two n place free (λ t a e h. sent-moves place n old t a h))
      (between-weaker (λ t h. h) (alike-moves (choices.Switch place) old))

abbrev Ends : Choice → Choice → Party → Party → ℕ → Field → Action → Stream → Type 0
Ends x y one two n = Between (Moves x one) (Moves y two) n

module _ (terms : Terms) (one two : Party) (n : ℕ) where
  parts-lead : {P Q R : Field → Action → Stream → Type 0} (part : Part) (rest : List Part) → Leads P Q (do_part (ruling_of terms) part)
      → ((f : Field) (a : Action) (w : Stream) → Q f a w → R f a w) → Leads Q R (do_parts (ruling_of terms) rest) → Leads P R (do_parts (ruling_of terms) (part ∷ rest))
  unfolding do_parts
  parts-lead part rest k w l = then-leads k (choose-leads _ (stay-leads w) l) w

  begins-ends : (x y : Choice) (f : Field) (a : Action) (w : Stream) → Begins one two n f a w → Ends x y one two n f a w
  begins-ends x y = between-weaker (alike-moves x one) (alike-moves y two)

  both_pick-leads : (j k : ℕ) (x y : Pick) → Leads (Begins one two n) (Ends (choices.Move j) (choices.Move k) one two n) (both_pick (ruling_of terms) x y)
  both_pick-leads j k x y = leads-weaker (keeps-leads (both_pick-keeps (begins-free terms one two n) terms x y)) (begins-ends _ _)

  one_moves : (j place : ℕ) (pick : Pick)
      → Leads (Begins one two n) (Ends (choices.Move j) (choices.Switch place) one two n) (one_picks (ruling_of terms) One pick place)
  unfolding one_picks
  one_moves j place pick =
      let weaker = between-weaker (alike-moves (choices.Move j) one) (λ t h. h) in
      then-leads
      (keeps-leads (set_picked-free (begins-free terms one two n) terms One pick))
      (parts-lead _ _ (two-sends terms n place (alike-free one) two) weaker
      (leads-weaker (keeps-leads (suffers_acts-end (between-free n (alike-free one) (moves-free (choices.Switch place) two)) terms Two One pick)) weaker))
      (begins-ends _ _)

  two_moves : (place k : ℕ) (pick : Pick)
      → Leads (Begins one two n) (Ends (choices.Switch place) (choices.Move k) one two n) (one_picks (ruling_of terms) Two pick place)
  unfolding one_picks
  two_moves place k pick =
      let weaker = between-weaker (λ t h. h) (alike-moves (choices.Move k) two) in
      then-leads
      (keeps-leads (set_picked-free (begins-free terms one two n) terms Two pick))
      (parts-lead _ _ (one-sends terms n place (alike-free two) one) weaker
      (leads-weaker (keeps-leads (suffers_acts-end (between-free n (moves-free (choices.Switch place) one) (alike-free two)) terms One Two pick)) weaker))
      (begins-ends _ _)

  both_switch-leads : (x y : ℕ) → Leads (Begins one two n) (Ends (choices.Switch x) (choices.Switch y) one two n) (do_parts (ruling_of terms) (both_switch x y))
  both_switch-leads x y =
      let a = choices.Switch x in
      let b = choices.Switch y in
      let weaker = between-weaker (λ t h. h) (alike-moves b two) in
      parts-lead _ _ (one-sends terms n x (alike-free two) one) weaker
      (parts-lead _ _ (keeps-leads (part-suffers (between-free n (moves-free a one) (alike-free two)) terms One)) weaker
      (parts-lead _ _ (two-sends terms n y (moves-free a one) two) (λ f x w h. h)
      (keeps-leads (suffers-end (between-free n (moves-free a one) (moves-free b two)) terms Two))))

  play_turn-leads : (x y : Choice) → Leads (Begins one two n) (Ends x y one two n) (play_turn (ruling_of terms) x y)
  unfolding play_turn
  play_turn-leads (choices.Move j) (choices.Move k) = given-leads _ (λ a. given-leads _ (λ b. both_pick-leads j k a b))
  play_turn-leads (choices.Move j) (choices.Switch place) = given-leads _ (λ pick. one_moves j place pick)
  play_turn-leads (choices.Switch place) (choices.Move k) = given-leads _ (λ pick. two_moves place k pick)
  play_turn-leads (choices.Switch x) (choices.Switch y) = both_switch-leads x y
  play_turn-leads x y = stay-leads (begins-ends x y)

  flinch-keeps : (s : Side) → Keeps (Begins one two n) (on_conditions s without_flinch)
  flinch-keeps s = on_conditions-keeps s _ (conditions-spared (begins-free terms one two n) s _)

  turn-leads : (x y : Choice) → Leads (Begins one two n) (Ends x y one two n) (turn (ruling_of terms) x y)
  unfolding turn
  turn-leads x y = then-leads (keeps-leads (flinch-keeps One))
      (then-leads (keeps-leads (flinch-keeps Two)) (play_turn-leads x y) (begins-ends x y)) (begins-ends x y)

  -- replacements

  one-chosen : {B : Party → Type 0} (x : Choice) → FreeParty B → Leads (Between (Alike one) B n) (Between (Moves x one) B n) (send_if_chosen One x)
  unfolding send_if_chosen
  one-chosen (choices.Switch place) free = send_one n place free (λ t a e h. sent-moves place n one t a h)
  one-chosen choices.Pass free = stay-leads (between-weaker (alike-moves choices.Pass one) (λ t h. h))
  one-chosen (choices.Move j) free = stay-leads (between-weaker (alike-moves (choices.Move j) one) (λ t h. h))

  two-chosen : {B : Party → Type 0} (y : Choice) → FreeParty B → Leads (Between B (Alike two) n) (Between B (Moves y two) n) (send_if_chosen Two y)
  unfolding send_if_chosen
  two-chosen (choices.Switch place) free = send_two n place free (λ t a e h. sent-moves place n two t a h)
  two-chosen choices.Pass free = stay-leads (between-weaker (λ t h. h) (alike-moves choices.Pass two))
  two-chosen (choices.Move k) free = stay-leads (between-weaker (λ t h. h) (alike-moves (choices.Move k) two))

  replace-leads : (x y : Choice) → Leads (Begins one two n) (Ends x y one two n) (replace x y)
  unfolding replace
  replace-leads x y =
      then-leads (one-chosen x (alike-free two)) (two-chosen y (moves-free x one)) (between-weaker (λ t h. h) (alike-moves y two))

  -- the first members come out

  first-out : (old t : Party) (a : Active) → old.active.place ≡ 0 → a.place ≡ 1 → Alike old t → Moves choices.Pass old (record t { active = a })
  first-out old t a none e h = record { out = rw (e, none) refl; others = λ i away here. h.others i away }

  start-leads : one.active.place ≡ 0 → two.active.place ≡ 0 → Leads (Begins one two n) (Ends choices.Pass choices.Pass one two n) start
  unfolding start
  start-leads a b = then-leads
      (send_one n 1 (alike-free two) (λ t active e h. first-out one t active a e h))
      (send_two n 1 (moves-free choices.Pass one) (λ t active e h. first-out two t active b e h))
      (between-weaker (λ t h. h) (alike-moves choices.Pass two))

-- the end of an update

record After (x y : Choice) (one two : Party) (turn : ℕ) (f : Field) : Type 0 where
  pub first : Moves x one f.one
  pub second : Moves y two f.two
  pub later : turn ≤ f.turn

module _ (x y : Choice) (one two : Party) (n : ℕ) where
  abbrev Then : Field → Action → Stream → Type 0
  Then f a w = After x y one two n f

  outcome-spared : (o : Outcome) → Spares Then (with_outcome o)
  unfolding with_outcome
  outcome-spared o = record { spared = λ f a w h. record { first = h.first; second = h.second; later = h.later } }

  requests-spared : (p q : Request) → Spares Then (with_requests p q)
  unfolding with_requests
  requests-spared p q = record { spared = λ f a w h. record { first = h.first; second = h.second; later = h.later } }

  next-spared : Spares Then with_next_turn
  unfolding with_next_turn
  next-spared = record { spared = λ f a w h. record { first = h.first; second = h.second; later = omega (arith, h.later) } }

  nothing-keeps : Keeps Then ask_nothing
  unfolding ask_nothing
  nothing-keeps = search (keeps_rules, requests-spared)

  ends-keeps : (o : Outcome) (e : Event) → Keeps Then (battle_ends o e)
  unfolding battle_ends
  ends-keeps o e = search (keeps_rules, outcome-spared, nothing-keeps)

  decided-keeps : (r : Ruling) → Keeps Then (end_if_decided r)
  unfolding end_if_decided
  decided-keeps r = search (keeps_rules, ends-keeps) depth 14

  switches-keeps : Keeps Then ask_for_switches
  unfolding ask_for_switches
  switches-keeps = search (keeps_rules, requests-spared)

  moves-keeps : Keeps Then ask_for_moves
  unfolding ask_for_moves
  moves-keeps = search (keeps_rules, requests-spared, next-spared)

  settle-keeps : (r : Ruling) → Keeps Then (settle r)
  unfolding settle
  settle-keeps r = search (keeps_rules, decided-keeps, switches-keeps, moves-keeps)

  close-leads : (terms : Terms) (o : Outcome) → Leads (Ends x y one two n) Then (close (ruling_of terms) o)
  unfolding close
  close-leads terms o = by o
    where
      looser : (f : Field) (a : Action) (w : Stream) → Ends x y one two n f a w → Then f a w
      looser f a w h = record { first = h.one; second = h.two; later = omega (arith, h.turned) }

      usual : Leads (Ends x y one two n) Then (close (ruling_of terms) outcomes.Ongoing)
      usual = then-leads (keeps-leads (the_fallen_faint-free (between-free n (moves-free x one) (moves-free y two)) terms))
          (record { led = λ p h. (settle-keeps (ruling_of terms)).kept p (looser _ _ _ h) }) looser

      by : (o : Outcome) → Leads (Ends x y one two n) Then (close (ruling_of terms) o)
      by (outcomes.Fault k) = record { led = λ p h. (then-keeps nothing-keeps (note-keeps _)).kept p (looser _ _ _ h) }
      by outcomes.Ongoing = usual
      by outcomes.WinOne = usual
      by outcomes.WinTwo = usual
      by outcomes.Tie = usual

-- an update

begins : (s : State) → Begins s.field.one s.field.two s.field.turn s.field (new_action One) (Link s.seed)
begins s = record { turned = refl; one = alike-itself s.field.one; two = alike-itself s.field.two }

-- what a side that is asked for nothing chooses
passes : (c : Choice) → is_among c (choices.Pass ∷ []) ≡ true → c ≡ choices.Pass
passes choices.Pass h = refl
passes (choices.Move k) h = absurd (offered-passes (choices.Move k) h)
passes (choices.Switch k) h = absurd (offered-passes (choices.Switch k) h)

update-after : (s : State) (x y : Choice) (q r : Request) → Waits q r s.terms.limit s.field → is_over s.field.outcome ≡ false
    → is_among x (offered_for q One s.field) ≡ true → is_among y (offered_for r Two s.field) ≡ true
    → let p : Progress = update_for (ruling_of s.terms) q r x y (opened s) in
    Ends x y s.field.one s.field.two s.field.turn p.field p.action p.stream
unfolding update_for
update-after s x y requests.Move requests.Move w o a b = (turn-leads s.terms s.field.one s.field.two s.field.turn x y).led (opened s) (begins s)
update-after s x y requests.Pass requests.Pass w o a b = by w (passes x a) (passes y b)
  where
    one : Party
    one = s.field.one

    two : Party
    two = s.field.two

    by : Waits requests.Pass requests.Pass s.terms.limit s.field → x ≡ choices.Pass → y ≡ choices.Pass
        → Ends x y one two s.field.turn (start (opened s)).field (start (opened s)).action (start (opened s)).stream
    by (inl over) e d = absurd (let h = sym o ∙ over in cc)
    by (inr none) e d = rw (e, d) ((start-leads s.terms one two s.field.turn none.0 none.1).led (opened s) (begins s))
update-after s x y q r w o a b = (replace-leads s.terms s.field.one s.field.two s.field.turn x y).led (opened s) (begins s)

accepted-after : (s : State) (x y : Choice) → IsState s → is_over s.field.outcome ≡ false → offers s One x ≡ true → offers s Two y ≡ true
    → After x y s.field.one s.field.two s.field.turn (update (ruling_of s.terms) x y (opened s)).field
unfolding update close_update
accepted-after s x y valid o a b =
    let f = s.field in
    let p = update_for (ruling_of s.terms) f.request_one f.request_two x y (opened s) in
    let first = subst (λ (l : List Choice). is_among x l ≡ true) (offered-is One f o) a in
    let second = subst (λ (l : List Choice). is_among y l ≡ true) (offered-is Two f o) b in
    (close-leads x y f.one f.two f.turn s.terms p.field.outcome).led (record p { stopped = false })
    (update-after s x y f.request_one f.request_two (state-ready s valid) o first second)

-- if something is offered, the battle continues
goes-on : (s : State) (x : Choice) → offers s One x ≡ true → is_over s.field.outcome ≡ false
unfolding offered
goes-on s x h = by (is_over s.field.outcome) refl
  where
    by : (b : Bool) → is_over s.field.outcome ≡ b → is_over s.field.outcome ≡ false
    by false e = e
    by true e = absurd (let f = rw e at h in cc)

step-after : (s : State) (x y : Choice) → IsState s → offers s One x ≡ true → offers s Two y ≡ true
    → After x y s.field.one s.field.two s.field.turn (step s x y).state.field
unfolding step step_by answered
step-after s x y valid a b = let o = goes-on s x a in rw (o, a, b) (accepted-after s x y valid o a b)

-- a side that could switch has a member out, and keeps having one

out-of : (side : Side) (terms : Terms) (f : Field) → IsStarted terms f → 1 ≤ (active_in side f).place
out-of One terms f h = h.field.one.place.0
out-of Two terms f h = h.field.two.place.0

no-switch : (side : Side) (terms : Terms) (f : Field) (place : ℕ) → IsUnstarted terms f → is_among (choices.Switch place) (offered side f) ≡ true → ⊥
unfolding offered
no-switch side terms f place h among =
    let going = ap is_over h.outcome in
    let none = rw (going, asks_nothing side terms f h) at among in
    false≢true none

still-out : (side : Side) (s t : State) (place : ℕ) → IsState s → IsState t → s.field.turn ≤ t.field.turn → offers s side (choices.Switch place) ≡ true
    → 1 ≤ (active_in side t.field).place
still-out side s t place before after later offers = by before.field after.field
  where
    by : IsUnstarted s.terms s.field ⊎ IsStarted s.terms s.field → IsUnstarted t.terms t.field ⊎ IsStarted t.terms t.field → 1 ≤ (active_in side t.field).place
    by (inl u) new = absurd (no-switch side s.terms s.field place u offers)
    by (inr v) (inl u) = absurd (omega (arith, v.turn, u.turn, later))
    by (inr v) (inr w) = out-of side t.terms t.field w

same-place : (a b : ℕ) → a - 1 ≡ b - 1 → max 1 a ≡ max 1 b
same-place a b e = grind arith

follows-of : (side : Side) (s t : State) (choice : Choice) → IsState s → IsState t → s.field.turn ≤ t.field.turn → offers s side choice ≡ true
    → Moves choice (party side s.field) (party side t.field) → Follows choice (party side s.field) (party side t.field)
follows-of side s t choice before after later offers h = record { out = by choice h.out offers; others = h.others }
  where
    by : (choice : Choice) → Stays choice (party side s.field) (party side t.field) → is_among choice (offered side s.field) ≡ true
        → KeepsOut choice (party side s.field) (party side t.field)
    by choices.Pass e h = same-place (active_in side t.field).place (active_in side s.field).place e
    by (choices.Move slot) e h = same-place (active_in side t.field).place (active_in side s.field).place e
    by (choices.Switch place) e h = still-out side s t place before after later h

-- an update changes no member but those that are out before or after it
pub both-follow : (s : State) (x y : Choice) → IsState s → offers s One x ≡ true → offers s Two y ≡ true
    → BothFollow x y s.field (step s x y).state.field
both-follow s x y valid a b =
    let t = (step s x y).state in
    let after = step-after s x y valid a b in
    let next = valid-after s x y valid in
    record {
      first = follows-of One s t x valid next after.later a after.first;
      second = follows-of Two s t y valid next after.later b after.second;
    }
