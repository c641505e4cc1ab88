-- What active members do agrees with the battle after any run.
use Rattle.gen1_machine.specs.Moves.{move_at}
use Rattle.gen1_tables.specs.Effects.{recharges, thrashes, traps}
use Rattle.std.proofs.Common.{[], Bool, List, ap, arith, false, flat_map, if◌then◌else◌, inl, inr, is_some, length, not, refl, subst, sym, true, true≢false, ℕ, ◌++◌, ◌&&◌, ◌==◌, ◌∙◌, ◌∷◌, ◌≡◌, ◌≢◌, ◌≤◌, ◌⊎◌, ◌||◌}
use Rattle.std.proofs.lemmas.Bool.Decides.{eqb_tells}
use Rattle.std.proofs.lemmas.List.{append-nil, append_assoc}
use Rattle.gen1_stats.specs.Members.{is_living, IsTeam, Member}
use Rattle.gen1_machine.specs.declared.side.Side.{Side}
use Rattle.gen1_machine.specs.declared.side.Side.TheVariants.{One, Two}
use Rattle.gen1_machine.specs.declared.side.Choice.{Choice}
use Rattle.gen1_machine.specs.declared.side.Choice.TheVariants as choices
use Rattle.gen1_machine.specs.declared.terms.Outcome.{Outcome}
use Rattle.gen1_machine.specs.declared.terms.Outcome.TheVariants as outcomes
use Rattle.gen1_machine.specs.declared.terms.Request.{Request}
use Rattle.gen1_machine.specs.declared.terms.Request.TheVariants as requests
use Rattle.gen1_machine.specs.declared.event.Event.{Event}
use Rattle.gen1_machine.specs.declared.event.Event.TheVariants as events
use Rattle.gen1_machine.specs.Sides.{other}
use Rattle.gen1_machine.specs.State.{changed_member, fallen, first_state, has_fallen_in, is_over, member_in, who_in, with_next_turn, with_outcome, with_requests, Field, Party, State, Terms, nobody_out, party, Active}
use Rattle.gen1_machine.specs.Progress.{has_fallen, note, on_field, ◌▸◌, Progress}
use Rattle.gen1_machine.specs.Ruling.{ruling_of, Ruling}
use Rattle.gen1_machine.specs.Falls.{ask_for_moves, ask_for_switches, ask_nothing, battle_ends, close, end_if_decided, faint_if_fallen, faint_in_order, settle, switch_if, the_fallen_faint}
use Rattle.gen1_machine.specs.SwitchingIn.{replace, send_if_chosen, send_out, start, switch_event}
use Rattle.gen1_machine.specs.OfferedChoices.{offered_for}
use Rattle.gen1_machine.specs.Step.{answered, close_update, events_of, is_among, offers, opened, run, run_by, step, step_by, update, update_for, Stepped}
use Rattle.gen1_machine.specs.Action.{keeps_going}
use Rattle.gen1_machine.specs.Conditions.{Underway}
use Rattle.gen1_machine.specs.Rules.{bit_of}
use Rattle.gen1_machine.specs.Valid.{IsAsked, IsStarted, IsState, IsUnderway, IsUnstarted, StandsAs}
use Rattle.gen1_machine.proofs.ValidStates.{first_states_are_valid, states_stay_valid}
use Rattle.gen1_machine.proofs.Fitting.{offered-fits}
use Rattle.gen1_machine.proofs.RunsEnd.{offered-is}
use Rattle.gen1_machine.proofs.ValidSteps.{opened-sure}
use Rattle.gen1_machine.proofs.Watching.{IsOut, after-leads, before-leads, choose-tells, given-tells, stay-tells, ◌⊳◌, Lands, Leads, Rests, Runs}
use Rattle.gen1_machine.proofs.Watching as watching
use Rattle.gen1_player.specs.declared.public_side.PublicSide.{PublicSide}
use Rattle.gen1_player.specs.Public.{acting, hears_all, is_going_on, may_go_on, new_uses, settled_by}
use Rattle.gen1_player.specs.True.{is_fault, ActivesAgree, SideDoes, BothDo, IsTold}
use Rattle.gen1_player.proofs.Conditions.{conditions_agree}
use Rattle.gen1_player.proofs.Facts.{is_dull, sent, Fits, Sizes}
use Rattle.gen1_player.proofs.Stories.{at_end, begun-member, Begun}
use Rattle.gen1_player.proofs.ToldEnds.{fits-now, send_out-at, sent-begun, ChoiceFits, first-done, Fresh, choice-fits, sizes_of}
use Rattle.gen1_player.proofs.Deeds.{loosely-apart, loosely-even, loosely-falls, loosely-quiet, Deeds, Lame, Loosely, current_of}
use Rattle.gen1_player.proofs.DeedStory.{deeding, loose-told, tale-loosens, told_by, LooseTale, Tale}
use Rattle.gen1_player.proofs.DeedGate.{at-field, at-note, at-stop, at-told, at-weak, In, Nothing_more}
use Rattle.gen1_player.proofs.DeedMoves.{plain_story}
use Rattle.gen1_player.proofs.DeedTurns.{loose-sent, loose-settling, plain-switches, turn-deeds, Settling}

-- States of the end of an update

abbrev Set : Field → List Event → Type 0
Set f es = Loosely f (settled_by 0 (told_by es))

abbrev pub Told : Field → List Event → Type 0
Told f es = LooseTale f es ⊎ (is_fault f.outcome ≡ true)

abbrev First : Side → Field → List Event → Type 0
First u f es = LooseTale f es ⊎ (Set f es × (has_fallen_in u f ≡ false))

abbrev Fainted : Field → List Event → Type 0
Fainted f es = LooseTale f es ⊎ (Set f es × (has_fallen_in One f ≡ false) × (has_fallen_in Two f ≡ false))

tale-set : (f : Field) (es : List Event) → LooseTale f es → Set f es
tale-set f es m = loosely-quiet 0 f (told_by es) m.quiet m.loosely

fainted-set : (f : Field) (es : List Event) → Fainted f es → Set f es
fainted-set f es (inl m) = tale-set f es m
fainted-set f es (inr m) = m.0

module _ {n : Sizes} {pre : List Event} {K L : Field → List Event → Type 0} {Q S : Progress → Type 0} where
  either-leads : {f : Progress → Progress} → Leads (In n pre K) Q S f → Leads (In n pre L) Q S f → Leads (In n pre (λ g es. K g es ⊎ L g es)) Q S f
  either-leads {f} h k = record { leads = λ p r m. by p r m.begun m.is }
    where
      by : (p : Progress) → p.stopped ≡ false → Begun n p.field → K p.field (pre ++ p.events) ⊎ L p.field (pre ++ p.events) → Lands Q S (f p)
      by p r b (inl m) = h.leads p r (record { begun = b; is = m })
      by p r b (inr m) = k.leads p r (record { begun = b; is = m })

both-fallen : (u : Side) (f : Field) → has_fallen_in (other u) f ≡ false → has_fallen_in u f ≡ false → (has_fallen_in One f ≡ false) × (has_fallen_in Two f ≡ false)
both-fallen One f a b = (b, a)
both-fallen Two f a b = (a, b)

module _ {n : Sizes} {pre : List Event} {S : Progress → Type 0} where
  set-faints : (u : Side) → Leads (In n pre Set) (In n pre (First u)) S (faint_if_fallen u)
  unfolding faint_if_fallen
  set-faints u = watching.choose-sees (has_fallen u)
      (before-leads (λ p m. m.0) (at-told (changed_member u fallen) (λ f. events.Faint (who_in u f)) (begun-member u fallen)
      (λ f es o m. inl (loose-told _ es _ refl refl (loosely-falls u f _ o m)))))
      (after-leads (λ p m. record { begun = m.0.begun; is = inr (m.0.is, m.1) }) stay-tells)

  tale-faints : (u : Side) → Leads (In n pre LooseTale) (In n pre LooseTale) S (faint_if_fallen u)
  unfolding faint_if_fallen
  tale-faints u = choose-tells _ (at-told (changed_member u fallen) (λ f. events.Faint (who_in u f)) (begun-member u fallen)
      (λ f es o m. loose-told _ es _ refl refl (loosely-falls u f _ o (tale-set f es m)))) stay-tells

  rest-faints : (u : Side) → Leads (In n pre (λ f es. Set f es × (has_fallen_in (other u) f ≡ false))) (In n pre Fainted) S (faint_if_fallen u)
  unfolding faint_if_fallen
  rest-faints u = watching.choose-sees (has_fallen u)
      (before-leads (λ p m. m.0) (at-told (changed_member u fallen) (λ f. events.Faint (who_in u f)) (begun-member u fallen)
      (λ f es o m. inl (loose-told _ es _ refl refl (loosely-falls u f _ o m.0)))))
      (after-leads (λ p m. record { begun = m.0.begun; is = let k = both-fallen u p.field m.0.is.1 m.1 in inr (m.0.is.0, k.0, k.1) }) stay-tells)

  faints-deeds : Leads (In n pre Set) (In n pre Fainted) S the_fallen_faint
  unfolding the_fallen_faint faint_in_order
  faints-deeds = given-tells _ (λ u. set-faints (other u) ⊳ either-leads (after-leads (at-weak (λ f es m. inl m)) (tale-faints u)) (rest-faints u))

same-begun : {n : Sizes} (f g : Field) → f.one ≡ g.one → f.two ≡ g.two → Begun n f → Begun n g
same-begun {n} f g one two b = record {
  both = record { one = subst IsOut one b.both.one; two = subst IsOut two b.both.two };
  sized = record { one = ap (λ (t : Party). length t.members) (sym one) ∙ b.sized.one; two = ap (λ (t : Party). length t.members) (sym two) ∙ b.sized.two };
}

outcome-sides : (o : Outcome) (f : Field) → (f.one ≡ (with_outcome o f).one) × (f.two ≡ (with_outcome o f).two)
unfolding with_outcome
outcome-sides o f = (refl, refl)

request-sides : (a b : Request) (f : Field) → (f.one ≡ (with_requests a b f).one) × (f.two ≡ (with_requests a b f).two)
unfolding with_requests
request-sides a b f = (refl, refl)

turn-sides : (f : Field) → (f.one ≡ (with_next_turn f).one) × (f.two ≡ (with_next_turn f).two)
unfolding with_next_turn
turn-sides f = (refl, refl)

request-outcome : (a b : Request) (f : Field) → (with_requests a b f).outcome ≡ f.outcome
unfolding with_requests
request-outcome a b f = refl

or-neither : (a b : Bool) → a ≡ false → b ≡ false → (a || b) ≡ true → ⊥
or-neither true b x y z = true≢false x
or-neither false b x y z = true≢false (sym z ∙ y)

usual : {n : Sizes} {pre : List Event} (x : Progress) (o : Outcome) → x.field.outcome ≡ o → is_fault o ≡ false → In n pre Settling x → In n pre Set x
usual {n} {pre} x o e f m = record { begun = m.begun; is = by m.is }
  where
    by : Settling x.field (pre ++ x.events) → Set x.field (pre ++ x.events)
    by (inl k) = k
    by (inr k) = absurd (true≢false (sym k ∙ ap is_fault e ∙ f))

module _ {n : Sizes} {pre : List Event} where
  set-field : {S : Progress → Type 0} (change : Field → Field) → ((f : Field) → (f.one ≡ (change f).one) × (f.two ≡ (change f).two)) → Leads (In n pre Set) (In n pre Set) S (on_field change)
  set-field change h = at-field change (λ f b. same-begun f (change f) (h f).0 (h f).1 b) (λ f es o m. loosely-apart f (change f) _ (h f).0 (h f).1 m)

  ends-deeds : {Q : Progress → Type 0} (o : Outcome) (event : Event) → is_dull event ≡ true → acting event ≡ 0 → Leads (In n pre Set) Q (In n pre Told) (battle_ends o event)
  unfolding battle_ends ask_nothing
  ends-deeds o event d a = set-field (with_outcome o) (outcome-sides o) ⊳ set-field (with_requests requests.Pass requests.Pass) (request-sides requests.Pass requests.Pass)
      ⊳ at-note {L = Told} (λ f. event) (λ f es k m. inl (loose-told f es event a d m)) ⊳ at-stop (λ f es m. m)

  decided-deeds : (r : Ruling) → Leads (In n pre Fainted) (In n pre Fainted) (In n pre Told) (end_if_decided r)
  unfolding end_if_decided
  decided-deeds r = choose-tells _ (before-leads (at-weak fainted-set) (ends-deeds outcomes.Tie events.Tie refl refl)) stay-tells
      ⊳ choose-tells _ (before-leads (at-weak fainted-set) (ends-deeds outcomes.WinTwo (events.Win Two) refl refl)) stay-tells
      ⊳ choose-tells _ (before-leads (at-weak fainted-set) (ends-deeds outcomes.WinOne (events.Win One) refl refl)) stay-tells
      ⊳ choose-tells _ (before-leads (at-weak fainted-set) (ends-deeds outcomes.Tie events.Tie refl refl)) stay-tells

  moves-deeds : {S : Progress → Type 0} → Leads (In n pre Set) (In n pre Told) S ask_for_moves
  unfolding ask_for_moves
  moves-deeds = set-field with_next_turn turn-sides
      ⊳ at-told (with_requests requests.Move requests.Move) (λ f. events.Turn f.turn)
      (λ f b. same-begun f _ (request-sides requests.Move requests.Move f).0 (request-sides requests.Move requests.Move f).1 b)
      (λ f es o m. inl (loose-told _ es _ refl refl (loosely-apart f _ _ (request-sides requests.Move requests.Move f).0 (request-sides requests.Move requests.Move f).1 m)))

  asked : (a b : Request) → {S : Progress → Type 0} → Leads (In n pre LooseTale) (In n pre Told) S (on_field (with_requests a b))
  asked a b = at-field (with_requests a b) (λ f k. same-begun f _ (request-sides a b f).0 (request-sides a b f).1 k)
      (λ f es o m. inl (record { loosely = loosely-apart f _ _ (request-sides a b f).0 (request-sides a b f).1 m.loosely; quiet = m.quiet }))

  switches-deeds : {S : Progress → Type 0} → Leads (In n pre LooseTale) (In n pre Told) S ask_for_switches
  unfolding ask_for_switches
  switches-deeds = given-tells _ (λ one. given-tells _ (λ two. asked (switch_if one) (switch_if two)))

  fallen-tale : (p : Progress) → In n pre Fainted p × ((has_fallen One p || has_fallen Two p) ≡ true) → In n pre LooseTale p
  fallen-tale p m = record { begun = m.0.begun; is = by m.0.is }
    where
      by : Fainted p.field (pre ++ p.events) → LooseTale p.field (pre ++ p.events)
      by (inl k) = k
      by (inr k) = absurd (or-neither (has_fallen One p) (has_fallen Two p) k.1 k.2 m.1)

  settles-deeds : (r : Ruling) → Leads (In n pre Fainted) (In n pre Told) (In n pre Told) (settle r)
  unfolding settle
  settles-deeds r = decided-deeds r
      ⊳ watching.choose-sees (λ p. has_fallen One p || has_fallen Two p) (before-leads fallen-tale switches-deeds)
      (before-leads (λ p m. at-weak fainted-set p m.0) moves-deeds)

  fault-closes : {S : Progress → Type 0} (k : ℕ) → Leads (In n pre (λ f es. is_fault f.outcome ≡ true)) (In n pre Told) S (ask_nothing ▸ note (λ f. events.Fault k))
  unfolding ask_nothing
  fault-closes k = at-field {L = λ f es. is_fault f.outcome ≡ true} (with_requests requests.Pass requests.Pass)
      (λ f b. same-begun f _ (request-sides requests.Pass requests.Pass f).0 (request-sides requests.Pass requests.Pass f).1 b)
      (λ f es o m. ap is_fault (request-outcome requests.Pass requests.Pass f) ∙ m)
      ⊳ at-note (λ f. events.Fault k) (λ f es o m. inr m)

  ended : (q : Progress) → Lands (In n pre Told) (In n pre Told) q → In n pre Told q
  ended q (Runs r m) = m
  ended q (Rests r m) = m

  closed-deeds : (r : Ruling) (o : Outcome) (x : Progress) → x.stopped ≡ false → x.field.outcome ≡ o → In n pre Settling x → In n pre Told (close r o x)
  unfolding close
  closed-deeds r (outcomes.Fault k) x i e m = ended _ ((fault-closes k).leads x i (record { begun = m.begun; is = ap is_fault e }))
  closed-deeds r outcomes.Ongoing x i e m = ended _ ((faints-deeds ⊳ settles-deeds r).leads x i (usual x outcomes.Ongoing e refl m))
  closed-deeds r outcomes.WinOne x i e m = ended _ ((faints-deeds ⊳ settles-deeds r).leads x i (usual x outcomes.WinOne e refl m))
  closed-deeds r outcomes.WinTwo x i e m = ended _ ((faints-deeds ⊳ settles-deeds r).leads x i (usual x outcomes.WinTwo e refl m))
  closed-deeds r outcomes.Tie x i e m = ended _ ((faints-deeds ⊳ settles-deeds r).leads x i (usual x outcomes.Tie e refl m))

  pub close-deeds : (r : Ruling) (q : Progress) → In n pre Settling q → In n pre Told (close_update r q)
  unfolding close_update
  close-deeds r q m = closed-deeds r q.field.outcome (record q { stopped = false }) refl refl (record { begun = m.begun; is = m.is })

-- An update

-- The first place holds a member.
pub first-fits : {n : Sizes} (f : Field) → Begun n f → (u : Side) → Fits n u 1
first-fits f b One = let e = b.sized.one in (omega arith, omega (arith, e, b.both.one.placed, b.both.one.within))
first-fits f b Two = let e = b.sized.two in (omega arith, omega (arith, e, b.both.two.placed, b.both.two.within))

abbrev is_switch : Request → Bool
is_switch requests.Switch = true
is_switch requests.Pass = true
is_switch _ = false

no-switch : (b : Bool) → requests.Move ≡ switch_if b → ⊥
no-switch true e = true≢false (sym (ap is_switch e))
no-switch false e = true≢false (sym (ap is_switch e))

not-true : (b : Bool) → not b ≡ false → b ≡ true
not-true true e = refl
not-true false e = absurd (true≢false e)

-- If moves are asked for, both active members live.
pub asked-lives : (t : Terms) (f : Field) (a b : Bool) → has_fallen_in One f ≡ a → has_fallen_in Two f ≡ b → requests.Move ≡ f.request_one → IsAsked a b t f
    → (s : Side) → is_living (member_in s f) ≡ true
asked-lives t f false false x y e h One = not-true _ x
asked-lives t f false false x y e h Two = not-true _ y
asked-lives t f true false x y e h s = absurd (no-switch true (e ∙ h.0))
asked-lives t f false true x y e h s = absurd (no-switch false (e ∙ h.0))
asked-lives t f true true x y e h s = absurd (no-switch true (e ∙ h.0))

pub going-on : (o : Outcome) (t : Terms) (f : Field) → is_over o ≡ false → StandsAs o t f → IsAsked (has_fallen_in One f) (has_fallen_in Two f) t f
going-on outcomes.Ongoing t f e h = h.2
going-on outcomes.WinOne t f e h = absurd (true≢false e)
going-on outcomes.WinTwo t f e h = absurd (true≢false e)
going-on outcomes.Tie t f e h = absurd (true≢false e)
going-on (outcomes.Fault k) t f e h = absurd (true≢false e)

abbrev is_move : Request → Bool
is_move requests.Move = true
is_move _ = false

pub started-of : (s : State) → IsState s → requests.Move ≡ s.field.request_one → IsStarted s.terms s.field
started-of s h e = by h.field
  where
    by : IsUnstarted s.terms s.field ⊎ IsStarted s.terms s.field → IsStarted s.terms s.field
    by (inl u) = absurd (true≢false (ap is_move (e ∙ u.requests.one)))
    by (inr k) = k

pub landed : {P : Progress → Type 0} (q : Progress) → Lands P P q → P q
landed q (Runs r m) = m
landed q (Rests r m) = m

pub tightened-tale : (f : Field) (es : List Event) → ((s : Side) → is_living (member_in s f) ≡ true) → LooseTale f es → Tale Nothing_more f es
tightened-tale f es l m = record { even = loosely-even f (told_by es) (l One) (l Two) m.loosely; quiet = m.quiet; more = tt }

module _ {n : Sizes} {pre : List Event} where
  -- A member that comes out
  sends-deeds : (s : Side) (place : ℕ) → Fits n s place → Leads (In n pre LooseTale) (In n pre LooseTale) (In n pre LooseTale) (send_out s place)
  sends-deeds s place fits = record {
    leads = λ p r m.
        let high = fits-now n p.field s place m.begun.sized fits in
        let event : Event = switch_event s place (sent s place p.field) in
        subst (λ (x : Progress). Lands (In n pre LooseTale) (In n pre LooseTale) x) (sym (send_out-at s place p r)) (Runs r (record {
          begun = sent-begun n s place p.field fits.0 high m.begun;
          is = at_end LooseTale (sent s place p.field) pre p.events event (loose-sent s place p.field (pre ++ p.events) fits.0 high m.is);
        }));
  }

  sends_if-deeds : (s : Side) (c : Choice) → ChoiceFits n s c → Leads (In n pre LooseTale) (In n pre LooseTale) (In n pre LooseTale) (send_if_chosen s c)
  unfolding send_if_chosen
  sends_if-deeds s (choices.Switch place) fits = sends-deeds s place fits
  sends_if-deeds s _ fits = stay-tells

  starts-deeds : (f : Field) → Begun n f → (p : Progress) → p.stopped ≡ false → In n pre LooseTale p → In n pre Settling (start p)
  unfolding start
  starts-deeds f b p i m = loose-settling (start p) (landed {P = In n pre LooseTale} (start p)
      ((sends-deeds One 1 (first-fits f b One) ⊳ sends-deeds Two 1 (first-fits f b Two)).leads p i m))

  replaces-deeds : (x y : Choice) → ChoiceFits n One x → ChoiceFits n Two y → (p : Progress) → p.stopped ≡ false → In n pre LooseTale p → In n pre Settling (replace x y p)
  unfolding replace
  replaces-deeds x y a b p i m = loose-settling (replace x y p) (landed {P = In n pre LooseTale} (replace x y p) ((sends_if-deeds One x a ⊳ sends_if-deeds Two y b).leads p i m))

  turns-deeds : (s : State) (x y : Choice) → IsState s → is_over s.field.outcome ≡ false → requests.Move ≡ s.field.request_one
      → is_among x (offered_for requests.Move One s.field) ≡ true → is_among y (offered_for requests.Move Two s.field) ≡ true
      → ChoiceFits n One x → ChoiceFits n Two y → Begun n s.field → LooseTale s.field (pre ++ [])
      → In n pre Settling (update_for (ruling_of s.terms) requests.Move requests.Move x y (opened s))
  unfolding update_for
  turns-deeds s x y h over e a b c d k m =
      let is = started-of s h e in
      let live = asked-lives s.terms s.field _ _ refl refl e (going-on s.field.outcome s.terms s.field over is.requests) in
      landed {P = In n pre Settling} _ (turn-deeds s.terms x y (opened s) refl
      (record { begun = k; is = record { tale = tightened-tale s.field _ live m; lives = live } })
      (opened-sure s h.seed is.field) (offered-fits One x s.field is.field a) (offered-fits Two y s.field is.field b) c d)

  updates-deeds : (s : State) (x y : Choice) (q r : Request) → q ≡ s.field.request_one → r ≡ s.field.request_two → IsState s → is_over s.field.outcome ≡ false
      → is_among x (offered_for q One s.field) ≡ true → is_among y (offered_for r Two s.field) ≡ true
      → ChoiceFits n One x → ChoiceFits n Two y → Begun n s.field → LooseTale s.field (pre ++ [])
      → In n pre Settling (update_for (ruling_of s.terms) q r x y (opened s))
  unfolding update_for
  updates-deeds s x y requests.Move requests.Move e g h over a b c d k m = turns-deeds s x y h over e a b c d k m
  updates-deeds s x y requests.Pass requests.Pass e g h over a b c d k m = starts-deeds s.field k (opened s) refl (record { begun = k; is = m })
  updates-deeds s x y _ _ e g h over a b c d k m = replaces-deeds x y c d (opened s) refl (record { begun = k; is = m })

-- Between two updates

pub data Ready (n : Sizes) (pre : List Event) (f : Field) : Type 0 where
  Goes : Begun n f → Told f (pre ++ []) → Ready n pre f
  Opens : Fresh plain_story n pre f [] → f.request_one ≡ requests.Pass → f.request_two ≡ requests.Pass → 1 ≤ n.one → 1 ≤ n.two → Ready n pre f

pub faults-over : (o : Outcome) → is_over o ≡ false → is_fault o ≡ true → ⊥
faults-over (outcomes.Fault k) e h = true≢false e
faults-over outcomes.Ongoing e h = true≢false (sym h)
faults-over outcomes.WinOne e h = true≢false (sym h)
faults-over outcomes.WinTwo e h = true≢false (sym h)
faults-over outcomes.Tie e h = true≢false (sym h)

pub stays : (s : State) (x y : Choice) → IsState s → IsState (step s x y).state
unfolding run_by
stays s x y h = states_stay_valid s ((x, y) ∷ []) h

module _ {n : Sizes} where
  goes-deeds : (pre : List Event) (s : State) (x y : Choice) → IsState s → is_over s.field.outcome ≡ false → offers s One x ≡ true → offers s Two y ≡ true
      → Begun n s.field → Told s.field (pre ++ []) → let p : Progress = update (ruling_of s.terms) x y (opened s) in In n pre Told p
  unfolding update
  goes-deeds pre s x y h over a b k (inr m) = absurd (faults-over s.field.outcome over m)
  goes-deeds pre s x y h over a b k (inl m) = close-deeds (ruling_of s.terms) _
      (updates-deeds s x y s.field.request_one s.field.request_two refl refl h over
      (subst (λ l. is_among x l ≡ true) (offered-is One s.field over) a) (subst (λ l. is_among y l ≡ true) (offered-is Two s.field over) b)
      (choice-fits n One s.field x k.sized a) (choice-fits n Two s.field y k.sized b) k m)

  opens-deeds : (pre : List Event) (s : State) (x y : Choice) → Fresh plain_story n pre s.field [] → s.field.request_one ≡ requests.Pass → s.field.request_two ≡ requests.Pass → 1 ≤ n.one → 1 ≤ n.two
      → let p : Progress = update (ruling_of s.terms) x y (opened s) in In n pre Told p
  unfolding deeding
  opens-deeds pre s x y m a b c d = let w = first-done plain-switches (ruling_of s.terms) x y (opened s) refl m a b c d in record { begun = w.may.begun; is = inl (tale-loosens _ _ w.may.loose) }

  accepted-deeds : (pre : List Event) (s : State) (x y : Choice) → IsState s → is_over s.field.outcome ≡ false → offers s One x ≡ true → offers s Two y ≡ true → Ready n pre s.field
      → let p : Progress = update (ruling_of s.terms) x y (opened s) in In n pre Told p
  accepted-deeds pre s x y h over a b (Goes k m) = goes-deeds pre s x y h over a b k m
  accepted-deeds pre s x y h over a b (Opens m e g c d) = opens-deeds pre s x y m e g c d

  told-goes : (pre : List Event) (p : Progress) → In n pre Told p → Ready n (pre ++ p.events) p.field
  told-goes pre p m = Goes m.begun (subst (λ (l : List Event). Told p.field l) (sym (append-nil (pre ++ p.events))) m.is)

  answered-deeds : (pre : List Event) (s : State) (over a b : Bool) (p : Progress) → Ready n pre s.field → (over ≡ false → a ≡ true → b ≡ true → In n pre Told p)
      → Ready n (pre ++ events_of (answered s over a b p).answer) (answered s over a b p).state.field
  unfolding answered
  answered-deeds pre s true a b p r h = subst (λ (l : List Event). Ready n l s.field) (sym (append-nil pre)) r
  answered-deeds pre s false false b p r h = subst (λ (l : List Event). Ready n l s.field) (sym (append-nil pre)) r
  answered-deeds pre s false true false p r h = subst (λ (l : List Event). Ready n l s.field) (sym (append-nil pre)) r
  answered-deeds pre s false true true p r h = told-goes pre p (h refl refl refl)

  pub step-deeds : (pre : List Event) (s : State) (x y : Choice) → IsState s → Ready n pre s.field → Ready n (pre ++ events_of (step s x y).answer) (step s x y).state.field
  unfolding step step_by
  step-deeds pre s x y h r = answered-deeds pre s (is_over s.field.outcome) (offers s One x) (offers s Two y) (update (ruling_of s.terms) x y (opened s)) r
      (λ over a b. accepted-deeds pre s x y h over a b r)

  run-deeds : (pre : List Event) (s : State) (pairs : List (Choice × Choice)) → IsState s → Ready n pre s.field
      → Ready n (pre ++ flat_map events_of (run s pairs).answers) (run s pairs).state.field
  unfolding run_by
  run-deeds pre s [] h r = subst (λ (l : List Event). Ready n l s.field) (sym (append-nil pre)) r
  run-deeds pre s (pair ∷ pairs) h r =
      let next : Stepped = step s pair.0 pair.1 in
      subst (λ (l : List Event). Ready n l (run next.state pairs).state.field)
      (append_assoc pre (events_of next.answer) (flat_map events_of (run next.state pairs).answers))
      (run-deeds (pre ++ events_of next.answer) next.state pairs (stays s pair.0 pair.1 h) (step-deeds pre s pair.0 pair.1 h r))

-- What is left of it

-- Recharging, thrashing and trapping belong to the current move.
pub record Tied (t : Party) : Type 0 where
  pub recharge : t.active.conditions.underway.recharge ≡ true → recharges (move_at (current_of t)).effect ≡ true
  pub thrash : is_some t.active.conditions.underway.thrash ≡ true → thrashes (move_at (current_of t)).effect ≡ true
  pub trapping : is_some t.active.conditions.underway.trapping ≡ true → traps (move_at (current_of t)).effect ≡ true

none-tied : (t : Party) → t.active ≡ nobody_out → Tied t
none-tied t e = record {
  recharge = λ h. absurd (true≢false (sym h ∙ ap (λ (a : Active). a.conditions.underway.recharge) e));
  thrash = λ h. absurd (true≢false (sym h ∙ ap (λ (a : Active). is_some a.conditions.underway.thrash) e));
  trapping = λ h. absurd (true≢false (sym h ∙ ap (λ (a : Active). is_some a.conditions.underway.trapping) e));
}

pub valid-tied : (t : Party) → IsUnderway (move_at (current_of t)).effect t.active.conditions.underway → Tied t
valid-tied t h = record { recharge = h.recharge_tied; thrash = h.thrash_tied; trapping = h.trapping_tied }

tied-of : (s : State) → IsState s → (u : Side) → Tied (party u s.field)
tied-of s h u = by u h.field
  where
    by : (u : Side) → IsUnstarted s.terms s.field ⊎ IsStarted s.terms s.field → Tied (party u s.field)
    by One (inl k) = none-tied s.field.one k.nobody_one
    by Two (inl k) = none-tied s.field.two k.nobody_two
    by One (inr k) = valid-tied s.field.one k.field.one.active.conditions.underway
    by Two (inr k) = valid-tied s.field.two k.field.two.active.conditions.underway

-- A move that continues is not counted

same-number : (a b : ℕ) → a ≡ b → (a == b) ≡ true
same-number a b z = by (eqb_tells a b)
  where
    by : (((a == b) ≡ true) × (a ≡ b)) ⊎ (((a == b) ≡ false) × (a ≢ b)) → (a == b) ≡ true
    by (inl e) = e.0
    by (inr e) = absurd (e.1 z)

or-first : (a b : Bool) → a ≡ true → (a || b) ≡ true
or-first a b e = ap (λ (c : Bool). c || b) e

or-second : (a b : Bool) → b ≡ true → (a || b) ≡ true
or-second true b e = refl
or-second false b e = e

both-true : (a b : Bool) → a ≡ true → b ≡ true → (a && b) ≡ true
both-true a b e h = ap (λ (c : Bool). c && b) e ∙ h

rage-going : (k : ℕ) (x : PublicSide) → x.announced.rage ≡ 1 → is_going_on k x ≡ true
rage-going k x e = or-first _ _ (ap (λ (n : ℕ). not (n == 0)) e)

move-going : (x : PublicSide) (t : Party) → x.last_move ≡ current_of t → may_go_on (move_at (current_of t)).effect ≡ true → is_going_on (current_of t) x ≡ true
move-going x t m e = or-second _ _ (both-true _ _ (same-number x.last_move (current_of t) m) e)

pub keeps-uncounted : (x : PublicSide) (t : Party) → x.announced.rage ≡ bit_of t.active.conditions.underway.rage → Tied t → x.last_move ≡ current_of t
    → keeps_going t.active.conditions.underway ≡ true → new_uses (current_of t) x ≡ 0
keeps-uncounted x t rage r m e = ap (λ (b : Bool). if b then 0 else 1) (by _ _ _ refl refl refl e)
  where
    u : Underway
    u = t.active.conditions.underway

    by : (a b c : Bool) → is_some u.thrash ≡ a → is_some u.trapping ≡ b → u.rage ≡ c → (a || b || c) ≡ true → is_going_on (current_of t) x ≡ true
    by true b c i j k o = move-going x t m (or-second _ _ (r.thrash i))
    by false true c i j k o = move-going x t m (or-first _ _ (r.trapping j))
    by false false true i j k o = rage-going (current_of t) x (rage ∙ ap bit_of k)
    by false false false i j k o = absurd (true≢false (sym o))

side-does : (x : PublicSide) (t : Party) → x.announced.rage ≡ bit_of t.active.conditions.underway.rage → Tied t → Lame x t → SideDoes x t
side-does x t rage r m = record {
  uses = keeps-uncounted x t rage r m.last;
  recharge = λ e. let c = r.recharge e in subst (λ (k : ℕ). recharges (move_at k).effect ≡ true) (sym m.last) c;
  bide = ap (λ (k : Deeds). k.bide) m.but;
  charging = ap (λ (k : Deeds). k.charging) m.but;
  toxic = ap (λ (k : Deeds). k.toxic) m.but;
  toxic_count = λ e. ap (λ (k : Deeds). k.toxic_count) (m.same e);
  invulnerable = m.reach;
  unused = ap (λ (k : Deeds). k.unused) m.but;
  rests = m.rests;
  last_move = m.last;
}

tale-does : (f : Field) (es : List Event) → IsTold (told_by es) f → ((u : Side) → Tied (party u f)) → LooseTale f es → BothDo (told_by es) f
tale-does f es k r m = record {
  one = side-does _ f.one k.0.rage (r One) m.loosely.one;
  two = side-does _ f.two k.1.rage (r Two) m.loosely.two;
  may_hit_itself = m.quiet;
}

ready-does : {n : Sizes} (pre : List Event) (f : Field) → IsTold (told_by pre) f → ((u : Side) → Tied (party u f)) → Ready n pre f → is_fault f.outcome ≡ false → BothDo (told_by pre) f
unfolding deeding
ready-does pre f k r (Goes b (inl m)) e = tale-does f pre k r (subst (LooseTale f) (append-nil pre) m)
ready-does pre f k r (Goes b (inr m)) e = absurd (true≢false (sym m ∙ e))
ready-does pre f k r (Opens m a c d l) e = tale-does f pre k r (subst (LooseTale f) (append-nil pre) (tale-loosens _ _ m.exact))

pub first-ready : (t : Terms) (one two : List Member) (seed : List ℕ) → IsTeam one → IsTeam two → Ready (sizes_of one two) [] (first_state t one two seed).field
unfolding hears_all deeding
first-ready t one two seed a b =
    let start : Tale Nothing_more (first_state t one two seed).field [] = record {
      even = record {
        one = record { same = refl; reach = λ i. absurd (i refl); rests = λ i. absurd (i refl); last = refl; few = a.size.1 };
        two = record { same = refl; reach = λ i. absurd (i refl); rests = λ i. absurd (i refl); last = refl; few = b.size.1 };
      };
      quiet = refl;
      more = tt;
    } in
    Opens (record { sized = record { one = refl; two = refl }; exact = start }) refl refl a.size.0 b.size.0

pub actives_agree : ActivesAgree
actives_agree t one two seed pairs limit stream a b over =
    let s : State = first_state t one two seed in
    let valid : IsState s = first_states_are_valid t one two seed limit a b stream in
    ready-does (flat_map events_of (run s pairs).answers) (run s pairs).state.field (conditions_agree t one two seed pairs a b) (tied-of (run s pairs).state (states_stay_valid s pairs valid))
    (run-deeds {n = sizes_of one two} [] s pairs valid (first-ready t one two seed a b)) over
