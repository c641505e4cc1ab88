-- A story stays true through the end of an update, through a whole update, and through a run of a battle.
use Rattle.gen1_machine.specs.Action.{act}
use Rattle.std.proofs.Common.{ap, [], Bool, List, arith, false, length, refl, subst, sym, true, true≢false, ℕ, ◌++◌, ◌∷◌, ◌≡◌, ◌≤◌, ◌||◌, ◌∙◌, flat_map, if◌then◌else◌, ◌⊎◌, inl, inr}
use Rattle.gen1_stats.specs.declared.member.Status.{Status}
use Rattle.gen1_stats.specs.declared.member.Status.TheVariants.{Poisoned, Burned}
use Rattle.gen1_machine.specs.declared.side.Side.{Side}
use Rattle.gen1_machine.specs.declared.side.Side.TheVariants.{One, Two}
use Rattle.gen1_machine.specs.declared.event.Event.{Event}
use Rattle.gen1_machine.specs.declared.event.DamageSource.{DamageSource}
use Rattle.gen1_machine.specs.declared.side.Pick.{Pick}
use Rattle.gen1_machine.specs.declared.side.Choice.{Choice}
use Rattle.gen1_machine.specs.Sides.{other}
use Rattle.gen1_machine.specs.State.{changed_active, changed_conditions, is_over, member_at, party, Field, who_in, changed_member, with_outcome, with_requests, with_next_turn, fallen, Party, first_state, request_of, underway_in, State, Terms}
use Rattle.gen1_machine.specs.Progress.{given, note, on_active, on_conditions, on_field, unless_stopped, ◌▸◌, Phase, has_fallen, Progress, told}
use Rattle.gen1_machine.specs.ResidualDamage.{worsen, suffer, drained_by, suffer_seed, suffer_status, residual}
use Rattle.gen1_machine.specs.Ruling.{Ruling, ruling_of}
use Rattle.gen1_machine.specs.SwitchingIn.{with_sent_out, send_out, send_if_chosen, replace, switch_event, start}
use Rattle.gen1_machine.specs.TurnOrder.{toss, in_order_of_speed, in_order_of_rank, in_order}
use Rattle.gen1_machine.specs.Turn.{Part, Sends, Acts, Suffers, do_part, is_cut, end_spent_trapping, end_turn, do_parts, both_act, set_picked, both_pick, switch_then_act, one_picks, both_switch, play_turn, turn}
use Rattle.gen1_machine.proofs.Watching.{IsOut, seeing, Runs, Lands, Leads, after-leads, before-leads, ◌⊳◌, choose-tells, choose-sees, given-tells, stay-tells, Rests, stop-leads}
use Rattle.gen1_player.proofs.Facts.{sent-place, worse-mild, Fits, Sizes, sent, is_still}
use Rattle.gen1_player.proofs.Stories.{Outline, Story, Switching, Sized, Begun, Now, MayFall, Tells, at_end, loosened, draw-tells, active-tells, any-loses, conditions-tells, gain-tells, mild-tells, Holds, May, begun-member, holds-noise, may-noise}
use Rattle.gen1_player.proofs.ToldActions.{begin-tells}
use Rattle.gen1_machine.specs.declared.terms.Outcome.{Outcome}
use Rattle.gen1_machine.specs.declared.terms.Request.{Request}
use Rattle.gen1_machine.specs.Falls.{faint_if_fallen, faint_in_order, the_fallen_faint, ask_nothing, battle_ends, end_if_decided, switch_if, ask_for_switches, ask_for_moves, settle, close}
use Rattle.gen1_machine.specs.Step.{update_for, close_update, update, answered, events_of, is_among, offers, opened, run, run_by, step, step_by, Stepped}
use Rattle.std.proofs.lemmas.Bool.{false≢true}
use Rattle.std.proofs.lemmas.List.{append-nil, append_assoc}
use Rattle.gen1_machine.specs.OfferedChoices.{is_committed, moves_offered, offered, offered_for, switches_offered}
use Rattle.gen1_stats.specs.Members.{IsTeam, Member}
use Rattle.gen1_machine.proofs.Fitting.{among-append, offered-moves, offered-place}
use Rattle.gen1_machine.proofs.Runs.{terms_stay}
use Rattle.gen1_machine.specs.declared.event.DamageSource.TheVariants as sources
use Rattle.gen1_machine.specs.declared.side.Choice.TheVariants as choices
use Rattle.gen1_machine.specs.declared.terms.Outcome.TheVariants as outcomes
use Rattle.gen1_machine.specs.declared.terms.Request.TheVariants as requests
use Rattle.gen1_machine.specs.declared.event.Event.TheVariants as events

-- A story stays true through a turn, and through replacements.

-- A place that holds a member, and a choice that names one

abbrev pub ChoiceFits : Sizes → Side → Choice → Type 0
ChoiceFits n s (choices.Switch place) = Fits n s place
ChoiceFits n s _ = Unit {0}

abbrev PartFits : Sizes → Part → Type 0
PartFits n (Sends s place) = Fits n s place
PartFits n (Acts s pick) = Unit {0}
PartFits n (Suffers s) = Unit {0}

abbrev AllFit : Sizes → List Part → Type 0
AllFit n [] = Unit {0}
AllFit n (part ∷ rest) = PartFits n part × AllFit n rest

pub fits-now : (n : Sizes) (f : Field) (s : Side) (place : ℕ) → Sized n f → Fits n s place → place ≤ length (party s f).members
fits-now n f One place z fits = let e = z.one in omega (arith, e, fits.1)
fits-now n f Two place z fits = let e = z.two in omega (arith, e, fits.1)

-- A member that comes out is out, and the other side stays as it was

pub sent-sized : (n : Sizes) (s : Side) (place : ℕ) (f : Field) → Sized n f → Sized n (sent s place f)
unfolding changed_active changed_conditions
sent-sized n One place f z = record { one = z.one; two = z.two }
sent-sized n Two place f z = record { one = z.one; two = z.two }

pub out-one : (place : ℕ) (f : Field) → 1 ≤ place → place ≤ length f.one.members → IsOut (sent One place f).one
unfolding changed_active changed_conditions
out-one place f low high = let e = sent-place place (member_at place f.one) f.one.active in record { placed = omega (arith, e, low); within = omega (arith, e, high) }

pub out-two : (place : ℕ) (f : Field) → 1 ≤ place → place ≤ length f.two.members → IsOut (sent Two place f).two
unfolding changed_active changed_conditions
out-two place f low high = let e = sent-place place (member_at place f.two) f.two.active in record { placed = omega (arith, e, low); within = omega (arith, e, high) }

pub other-out-one : (place : ℕ) (f : Field) → IsOut f.two → IsOut (sent One place f).two
unfolding changed_active changed_conditions
other-out-one place f o = record { placed = o.placed; within = o.within }

pub other-out-two : (place : ℕ) (f : Field) → IsOut f.one → IsOut (sent Two place f).one
unfolding changed_active changed_conditions
other-out-two place f o = record { placed = o.placed; within = o.within }

pub sent-begun : (n : Sizes) (s : Side) (place : ℕ) (f : Field) → 1 ≤ place → place ≤ length (party s f).members → Begun n f → Begun n (sent s place f)
sent-begun n One place f low high b = record { both = record { one = out-one place f low high; two = other-out-one place f b.both.two }; sized = sent-sized n One place f b.sized }
sent-begun n Two place f low high b = record { both = record { one = other-out-two place f b.both.one; two = out-two place f low high }; sized = sent-sized n Two place f b.sized }

pub start-begun : (n : Sizes) (f : Field) → Sized n f → 1 ≤ length f.one.members → 1 ≤ length f.two.members → Begun n (sent Two 1 (sent One 1 f))
unfolding changed_active changed_conditions
start-begun n f z one two = record {
  both = record { one = other-out-two 1 (sent One 1 f) (out-one 1 f (omega arith) one); two = out-two 1 (sent One 1 f) (omega arith) two };
  sized = sent-sized n Two 1 (sent One 1 f) (sent-sized n One 1 f z);
}

-- After a part that cuts nothing off, no active member has fallen

pub or-left : (a b : Bool) → (a || b) ≡ false → a ≡ false
or-left true b e = e
or-left false b e = refl

pub or-right : (a b : Bool) → (a || b) ≡ false → b ≡ false
or-right true b e = absurd (true≢false e)
or-right false b e = e

pub tightened : {v : Story} {n : Sizes} {pre : List Event} (p : Progress) → MayFall v n pre p → has_fallen One p ≡ false → has_fallen Two p ≡ false → Now v n pre p
tightened {v} {n} {pre} p m a b = record { begun = m.begun; exact = v.tighten p.field (pre ++ p.events) m.loose a b }

not-cut : {v : Story} {n : Sizes} {pre : List Event} (p : Progress) → MayFall v n pre p × (is_cut p ≡ false) → Now v n pre p
not-cut p m =
    let e = or-left (has_fallen One p || has_fallen Two p) (is_over p.field.outcome) m.1 in
    tightened p m.0 (or-left (has_fallen One p) (has_fallen Two p) e) (or-right (has_fallen One p) (has_fallen Two p) e)

-- Switches

pub send_out-at : (s : Side) (place : ℕ) (p : Progress) → p.stopped ≡ false
    → send_out s place p ≡ record p { field = sent s place p.field; events = p.events ++ switch_event s place (sent s place p.field) ∷ [] }
unfolding send_out given on_active on_conditions on_field note ◌▸◌ unless_stopped
send_out-at s place p r =
    let first : Progress = record p { field = changed_active s (with_sent_out place (member_at place (party s p.field))) p.field } in
    let second : Progress = record p { field = sent s place p.field } in
    let third : Progress = record p { field = sent s place p.field; events = p.events ++ switch_event s place (sent s place p.field) ∷ [] } in
    ap (λ (b : Bool). elim b as (λ _. Progress) [ true ↦ first | false ↦ elim b as (λ _. Progress) [ true ↦ second | false ↦ third ] ]) r

-- What a turn needs to know: that a member may suffer, come out, and act.
pub record Goes (v : Story) (n : Sizes) (pre : List Event) (r : Ruling) : Type 0 where
  pub outline : Outline v
  pub switching : Switching v
  pub acts : (s : Side) (pick : Pick) → Leads (Now v n pre) (MayFall v n pre) (MayFall v n pre) (act r s pick)

pub send_out-tells : {v : Story} {n : Sizes} {pre : List Event} {S : Progress → Type 0} → Switching v → (s : Side) (place : ℕ) → Fits n s place
    → Leads (Now v n pre) (Now v n pre) S (send_out s place)
send_out-tells {v} {n} {pre} {S} w s place fits = record {
  leads = λ p r m.
      let high = fits-now n p.field s place m.begun.sized fits in
      let event : Event = switch_event s place (sent s place p.field) in
      subst (λ (x : Progress). Lands (Now v n pre) S x) (sym (send_out-at s place p r)) (Runs r (record {
        begun = sent-begun n s place p.field fits.0 high m.begun;
        exact = at_end v.exact (sent s place p.field) pre p.events event (w.sends s place p.field (pre ++ p.events) fits.0 high m.exact);
      }));
}

pub send_out-falls : {v : Story} {n : Sizes} {pre : List Event} {S : Progress → Type 0} → Switching v → (s : Side) (place : ℕ) → Fits n s place
    → Leads (MayFall v n pre) (MayFall v n pre) S (send_out s place)
send_out-falls {v} {n} {pre} {S} w s place fits = record {
  leads = λ p r m.
      let high = fits-now n p.field s place m.begun.sized fits in
      let event : Event = switch_event s place (sent s place p.field) in
      subst (λ (x : Progress). Lands (MayFall v n pre) S x) (sym (send_out-at s place p r)) (Runs r (record {
        begun = sent-begun n s place p.field fits.0 high m.begun;
        loose = at_end v.loose (sent s place p.field) pre p.events event (w.loose_sends s place p.field (pre ++ p.events) fits.0 high m.loose);
      }));
}

module _ {v : Story} {n : Sizes} {pre : List Event} where
  -- Residual damage

  worsen-tells : Outline v → (s : Side) → Tells v n pre (worsen s)
  unfolding worsen seeing
  worsen-tells o s = mild-tells o s _ worse-mild

  suffer-tells : Outline v → (s : Side) (source : DamageSource) → Tells v n pre (suffer s source)
  unfolding suffer
  suffer-tells o s source = worsen-tells o s ⊳ given-tells _ (any-loses o s source)

  drained_by-tells : Outline v → (s : Side) (amount : ℕ) → Tells v n pre (drained_by s amount)
  unfolding drained_by
  drained_by-tells o s amount = any-loses o s sources.LeechSeed amount ⊳ gain-tells (other s) amount

  suffer_seed-tells : Outline v → (s : Side) → Tells v n pre (suffer_seed s)
  unfolding suffer_seed
  suffer_seed-tells o s = worsen-tells o s ⊳ given-tells _ (drained_by-tells o s)

  suffer_status-tells : Outline v → (s : Side) (status : Status) → Tells v n pre (suffer_status s status)
  unfolding suffer_status
  suffer_status-tells o s Poisoned = suffer-tells o s sources.Poison
  suffer_status-tells o s Burned = suffer-tells o s sources.Burn
  suffer_status-tells o s _ = stay-tells

  pub residual-tells : Outline v → (s : Side) → Tells v n pre (residual s)
  unfolding residual
  residual-tells o s = choose-tells _ (given-tells _ (suffer_status-tells o s) ⊳ choose-tells _ (suffer_seed-tells o s) stay-tells) stay-tells

  -- The parts of a turn

  do_part-tells : (r : Ruling) → Goes v n pre r → (part : Part) → PartFits n part → Leads (Now v n pre) (MayFall v n pre) (MayFall v n pre) (do_part r part)
  unfolding do_part
  do_part-tells r k (Sends s place) fits = begin-tells s ⊳ after-leads loosened (send_out-tells k.switching s place fits)
  do_part-tells r k (Acts s pick) fits = begin-tells s ⊳ choose-tells _ (after-leads loosened stay-tells) (k.acts s pick)
  do_part-tells r k (Suffers s) fits = after-leads loosened (residual-tells k.outline s)

  spent-tells : (s : Side) → Tells v n pre (end_spent_trapping s)
  unfolding end_spent_trapping seeing
  spent-tells s = choose-tells _ (conditions-tells s _ (λ c. refl)) stay-tells

  pub end_turn-tells : Tells v n pre end_turn
  unfolding end_turn
  end_turn-tells = spent-tells One ⊳ spent-tells Two

  do_parts-tells : (r : Ruling) → Goes v n pre r → (parts : List Part) → AllFit n parts → Leads (Now v n pre) (MayFall v n pre) (MayFall v n pre) (do_parts r parts)
  unfolding do_parts
  do_parts-tells r k [] fit = after-leads loosened end_turn-tells
  do_parts-tells r k (part ∷ rest) fit = do_part-tells r k part fit.0
      ⊳ choose-sees is_cut (before-leads (λ p m. m.0) stay-tells) (before-leads not-cut (do_parts-tells r k rest fit.1))

  pub set_picked-tells : (s : Side) (pick : Pick) → Tells v n pre (set_picked s pick)
  unfolding set_picked seeing
  set_picked-tells s pick = given-tells _ (λ a. active-tells s _ (λ a. refl))

  -- The order

  toss-tells : (begins : Side → Phase) → ((s : Side) → Leads (Now v n pre) (MayFall v n pre) (MayFall v n pre) (begins s)) → (b : ℕ) → Leads (Now v n pre) (MayFall v n pre) (MayFall v n pre) (toss begins b)
  unfolding toss
  toss-tells begins h b = choose-tells _ (h One) (h Two)

  speed-tells : (begins : Side → Phase) → ((s : Side) → Leads (Now v n pre) (MayFall v n pre) (MayFall v n pre) (begins s)) → Leads (Now v n pre) (MayFall v n pre) (MayFall v n pre) (in_order_of_speed begins)
  unfolding in_order_of_speed
  speed-tells begins h = choose-tells _ (h One) (choose-tells _ (h Two) (draw-tells (toss-tells begins h)))

  rank-tells : (one two : ℕ) (begins : Side → Phase) → ((s : Side) → Leads (Now v n pre) (MayFall v n pre) (MayFall v n pre) (begins s)) → Leads (Now v n pre) (MayFall v n pre) (MayFall v n pre) (in_order_of_rank one two begins)
  unfolding in_order_of_rank
  rank-tells one two begins h = choose-tells _ (h One) (choose-tells _ (h Two) (speed-tells begins h))

  order-tells : (begins : Side → Phase) → ((s : Side) → Leads (Now v n pre) (MayFall v n pre) (MayFall v n pre) (begins s)) → Leads (Now v n pre) (MayFall v n pre) (MayFall v n pre) (in_order begins)
  unfolding in_order
  order-tells begins h = given-tells _ (λ one. given-tells _ (λ two. rank-tells one two begins h))

  both_pick-tells : (r : Ruling) → Goes v n pre r → (one two : Pick) → Leads (Now v n pre) (MayFall v n pre) (MayFall v n pre) (both_pick r one two)
  unfolding both_pick
  both_pick-tells r k one two = set_picked-tells One one ⊳ set_picked-tells Two two
      ⊳ order-tells (λ s. do_parts r (both_act one two s)) (λ s. do_parts-tells r k (both_act one two s) (tt, (tt, (tt, (tt, tt)))))

  one_picks-tells : (r : Ruling) → Goes v n pre r → (s : Side) (pick : Pick) (place : ℕ) → Fits n (other s) place → Leads (Now v n pre) (MayFall v n pre) (MayFall v n pre) (one_picks r s pick place)
  unfolding one_picks
  one_picks-tells r k s pick place fits = set_picked-tells s pick ⊳ do_parts-tells r k (switch_then_act s pick place) (fits, (tt, (tt, (tt, tt))))

  play_turn-tells : (r : Ruling) → Goes v n pre r → (one two : Choice) → ChoiceFits n One one → ChoiceFits n Two two → Leads (Now v n pre) (MayFall v n pre) (MayFall v n pre) (play_turn r one two)
  unfolding play_turn
  play_turn-tells r k (choices.Move i) (choices.Move j) a b = given-tells _ (λ one. given-tells _ (λ two. both_pick-tells r k one two))
  play_turn-tells r k (choices.Move j) (choices.Switch place) a b = given-tells _ (λ pick. one_picks-tells r k One pick place b)
  play_turn-tells r k (choices.Switch place) (choices.Move j) a b = given-tells _ (λ pick. one_picks-tells r k Two pick place a)
  play_turn-tells r k (choices.Switch one) (choices.Switch two) a b = do_parts-tells r k (both_switch one two) (a, (tt, (b, (tt, tt))))
  play_turn-tells r k _ _ a b = after-leads loosened stay-tells

  pub turn-tells : (r : Ruling) → Goes v n pre r → (one two : Choice) → ChoiceFits n One one → ChoiceFits n Two two → Leads (Now v n pre) (MayFall v n pre) (MayFall v n pre) (turn r one two)
  unfolding turn seeing
  turn-tells r k one two a b = conditions-tells One _ (λ c. refl) ⊳ conditions-tells Two _ (λ c. refl) ⊳ play_turn-tells r k one two a b

  -- Replacements, also for a member that fell without an event

  send_if-falls : Switching v → (s : Side) (c : Choice) → ChoiceFits n s c → Leads (MayFall v n pre) (MayFall v n pre) (MayFall v n pre) (send_if_chosen s c)
  unfolding send_if_chosen
  send_if-falls w s (choices.Switch place) fits = send_out-falls w s place fits
  send_if-falls w s _ fits = stay-tells

  pub replace-falls : Switching v → (one two : Choice) → ChoiceFits n One one → ChoiceFits n Two two → Leads (MayFall v n pre) (MayFall v n pre) (MayFall v n pre) (replace one two)
  unfolding replace
  replace-falls w one two a b = send_if-falls w One one a ⊳ send_if-falls w Two two b

-- After an update a story may be behind by a fall, but not before the next turn.
pub record Waits (v : Story) (n : Sizes) (pre : List Event) (f : Field) (es : List Event) : Type 0 where
  pub may : May v n pre f es
  pub turn : f.request_one ≡ requests.Move → f.request_two ≡ requests.Move → Holds v n pre f es

abbrev pub IsWaiting : Story → Sizes → List Event → Progress → Type 0
IsWaiting v n pre p = Waits v n pre p.field p.events

-- Before the first update no member needs to be out.
pub record Fresh (v : Story) (n : Sizes) (pre : List Event) (f : Field) (es : List Event) : Type 0 where
  pub sized : Sized n f
  pub exact : v.exact f (pre ++ es)

abbrev is_pass : Request → Bool
is_pass requests.Pass = true
is_pass _ = false

abbrev is_move : Request → Bool
is_move requests.Move = true
is_move _ = false

passes : (r : Request) → r ≡ requests.Pass → r ≡ requests.Move → ⊥
passes r p m = true≢false (sym (ap is_pass p) ∙ ap is_pass m)

switches : (b : Bool) → switch_if b ≡ requests.Move → ⊥
switches true e = true≢false (sym (ap is_move e))
switches false e = true≢false (sym (ap is_move e))

same-begun : {n : Sizes} (f g : Field) → f.one ≡ g.one → f.two ≡ g.two → Begun n f → Begun n g
same-begun {n} f g one two b = record {
  both = record { one = subst IsOut one b.both.one; two = subst IsOut two b.both.two };
  sized = record { one = ap (λ (t : Party). length t.members) (sym one) ∙ b.sized.one; two = ap (λ (t : Party). length t.members) (sym two) ∙ b.sized.two };
}

-- The first place holds a member.
first-fits : {n : Sizes} (f : Field) → Begun n f → (s : Side) → Fits n s 1
first-fits f b One = let e = b.sized.one in (omega arith, omega (arith, e, b.both.one.placed, b.both.one.within))
first-fits f b Two = let e = b.sized.two in (omega arith, omega (arith, e, b.both.two.placed, b.both.two.within))

module _ {v : Story} {n : Sizes} {pre : List Event} where
  may-apart : (f g : Field) (es : List Event) → f.one ≡ g.one → f.two ≡ g.two → May v n pre f es → May v n pre g es
  may-apart f g es one two m = record { begun = same-begun f g one two m.begun; loose = v.loose_apart f g (pre ++ es) one two m.loose }

  holds-apart : (f g : Field) (es : List Event) → f.one ≡ g.one → f.two ≡ g.two → Holds v n pre f es → Holds v n pre g es
  holds-apart f g es one two m = record { begun = same-begun f g one two m.begun; exact = v.apart f g (pre ++ es) one two m.exact }

  waits-noise : (e : Event) → is_still e ≡ true → (f : Field) (es : List Event) → Waits v n pre f es → Waits v n pre f (es ++ e ∷ [])
  waits-noise e h f es m = record { may = may-noise e h f es m.may; turn = λ a b. holds-noise e h f es (m.turn a b) }

  -- The fallen faint

  faint-falls : {S : Progress → Type 0} (s : Side) → Leads (MayFall v n pre) (MayFall v n pre) S (faint_if_fallen s)
  unfolding faint_if_fallen told
  faint-falls s = choose-tells _ (record {
    leads = λ p r m.
        let g : Field = changed_member s fallen p.field in
        Runs r (record {
          begun = begun-member s fallen p.field m.begun;
          loose = at_end v.loose g pre p.events (events.Faint (who_in s g)) (v.loose_falls s p.field (pre ++ p.events) m.begun.both m.loose);
        });
  }) stay-tells

  faints-fall : {S : Progress → Type 0} → Leads (MayFall v n pre) (MayFall v n pre) S the_fallen_faint
  unfolding the_fallen_faint faint_in_order
  faints-fall = given-tells _ (λ actor. faint-falls (other actor) ⊳ faint-falls actor)

  -- The battle ends

  outcome-falls : {S : Progress → Type 0} (o : Outcome) → Leads (MayFall v n pre) (MayFall v n pre) S (on_field (with_outcome o))
  unfolding on_field with_outcome
  outcome-falls o = record { leads = λ p r m. Runs r (may-apart p.field (record p.field { outcome = o }) p.events refl refl m) }

  asked-nothing : (f : Field) (es : List Event) → May v n pre f es → Waits v n pre (with_requests requests.Pass requests.Pass f) es
  unfolding with_requests
  asked-nothing f es m = record {
    may = may-apart f (record f { request_one = requests.Pass; request_two = requests.Pass }) es refl refl m;
    turn = λ a b. absurd (passes requests.Pass refl a);
  }

  ask_nothing-waits : {S : Progress → Type 0} → Leads (MayFall v n pre) (IsWaiting v n pre) S ask_nothing
  unfolding ask_nothing on_field
  ask_nothing-waits = record { leads = λ p r m. Runs r (asked-nothing p.field p.events m) }

  note-waits : {S : Progress → Type 0} (event : Event) → is_still event ≡ true → Leads (IsWaiting v n pre) (IsWaiting v n pre) S (note (λ f. event))
  unfolding note
  note-waits event h = record { leads = λ p r m. Runs r (waits-noise event h p.field p.events m) }

  ends-wait : {Q : Progress → Type 0} (o : Outcome) (event : Event) → is_still event ≡ true → Leads (MayFall v n pre) Q (IsWaiting v n pre) (battle_ends o event)
  unfolding battle_ends
  ends-wait o event h = outcome-falls o ⊳ ask_nothing-waits ⊳ note-waits event h ⊳ stop-leads (λ p m. m)

  end_if-waits : (r : Ruling) → Leads (MayFall v n pre) (MayFall v n pre) (IsWaiting v n pre) (end_if_decided r)
  unfolding end_if_decided
  end_if-waits r = choose-tells _ (ends-wait outcomes.Tie events.Tie refl) stay-tells
      ⊳ choose-tells _ (ends-wait outcomes.WinTwo (events.Win Two) refl) stay-tells
      ⊳ choose-tells _ (ends-wait outcomes.WinOne (events.Win One) refl) stay-tells
      ⊳ choose-tells _ (ends-wait outcomes.Tie events.Tie refl) stay-tells

  -- The battle continues

  asked-switches : (one two : Bool) (f : Field) (es : List Event) → May v n pre f es → Waits v n pre (with_requests (switch_if one) (switch_if two) f) es
  unfolding with_requests
  asked-switches one two f es m = record {
    may = may-apart f (record f { request_one = switch_if one; request_two = switch_if two }) es refl refl m;
    turn = λ a b. absurd (switches one a);
  }

  ask_switches-wait : {S : Progress → Type 0} → Leads (MayFall v n pre) (IsWaiting v n pre) S ask_for_switches
  unfolding ask_for_switches on_field
  ask_switches-wait = given-tells _ (λ one. given-tells _ (λ two. record { leads = λ p r m. Runs r (asked-switches one two p.field p.events m) }))

  next-holds : (f : Field) (es : List Event) → Holds v n pre f es → Holds v n pre (with_next_turn f) es
  unfolding with_next_turn
  next-holds f es m = holds-apart f (with_next_turn f) es refl refl m

  turn-holds : (f : Field) (es : List Event) → Holds v n pre f es → Holds v n pre (with_requests requests.Move requests.Move f) es
  unfolding with_requests
  turn-holds f es m = holds-apart f (with_requests requests.Move requests.Move f) es refl refl m

  waiting : (p : Progress) → Now v n pre p → IsWaiting v n pre p
  waiting p m = record { may = loosened p m; turn = λ a b. m }

  next-tells : {S : Progress → Type 0} → Leads (Now v n pre) (Now v n pre) S (on_field with_next_turn)
  unfolding on_field
  next-tells = record { leads = λ p r m. Runs r (next-holds p.field p.events m) }

  asked-moves : {S : Progress → Type 0} → Leads (Now v n pre) (Now v n pre) S (told (with_requests requests.Move requests.Move) (λ f. events.Turn f.turn))
  unfolding told
  asked-moves = record {
    leads = λ p r m.
        let g : Field = with_requests requests.Move requests.Move p.field in
        Runs r (holds-noise (events.Turn g.turn) refl g p.events (turn-holds p.field p.events m));
  }

  ask_moves-wait : {S : Progress → Type 0} → Leads (Now v n pre) (IsWaiting v n pre) S ask_for_moves
  unfolding ask_for_moves
  ask_moves-wait = next-tells ⊳ after-leads waiting asked-moves

  none-fallen : (p : Progress) → MayFall v n pre p × ((has_fallen One p || has_fallen Two p) ≡ false) → Now v n pre p
  none-fallen p m = tightened p m.0 (or-left (has_fallen One p) (has_fallen Two p) m.1) (or-right (has_fallen One p) (has_fallen Two p) m.1)

  settle-waits : (r : Ruling) → Leads (MayFall v n pre) (IsWaiting v n pre) (IsWaiting v n pre) (settle r)
  unfolding settle
  settle-waits r = end_if-waits r
      ⊳ choose-sees (λ p. has_fallen One p || has_fallen Two p) (before-leads (λ p m. m.0) ask_switches-wait) (before-leads none-fallen ask_moves-wait)

  close-waits : (r : Ruling) (o : Outcome) → Leads (MayFall v n pre) (IsWaiting v n pre) (IsWaiting v n pre) (close r o)
  unfolding close
  close-waits r (outcomes.Fault k) = ask_nothing-waits ⊳ note-waits (events.Fault k) refl
  close-waits r _ = faints-fall ⊳ settle-waits r

  ended : (q : Progress) → Lands (IsWaiting v n pre) (IsWaiting v n pre) q → IsWaiting v n pre q
  ended q (Runs r m) = m
  ended q (Rests r m) = m

  pub close-done : (r : Ruling) (q : Progress) → MayFall v n pre q → IsWaiting v n pre (close_update r q)
  unfolding close_update
  close-done r q m = let x : Progress = record q { stopped = false } in ended (close r q.field.outcome x) ((close-waits r q.field.outcome).leads x refl m)

  fallen-or-not : (q : Progress) → Lands (MayFall v n pre) (MayFall v n pre) q → MayFall v n pre q
  fallen-or-not q (Runs r m) = m
  fallen-or-not q (Rests r m) = m

  -- The first members come out

  start-falls : Switching v → Fits n One 1 → Fits n Two 1 → Leads (MayFall v n pre) (MayFall v n pre) (MayFall v n pre) start
  unfolding start
  start-falls w one two = send_out-falls w One 1 one ⊳ send_out-falls w Two 1 two

  first-tells : {S : Progress → Type 0} → Switching v → 1 ≤ n.one
      → Leads (λ p. Fresh v n pre p.field p.events) (λ p. Fresh v n pre p.field p.events × IsOut p.field.one) S (send_out One 1)
  first-tells {S} w one = record {
    leads = λ p r m.
        let e = m.sized.one in
        let high : 1 ≤ length p.field.one.members = omega (arith, one, e) in
        let f : Field = sent One 1 p.field in
        subst (λ (x : Progress). Lands (λ p. Fresh v n pre p.field p.events × IsOut p.field.one) S x) (sym (send_out-at One 1 p r)) (Runs r (
          record {
            sized = sent-sized n One 1 p.field m.sized;
            exact = at_end v.exact f pre p.events (switch_event One 1 f) (w.sends One 1 p.field (pre ++ p.events) (omega arith) high m.exact);
          },
          out-one 1 p.field (omega arith) high,
        ));
  }

  second-tells : {S : Progress → Type 0} → Switching v → 1 ≤ n.two
      → Leads (λ p. Fresh v n pre p.field p.events × IsOut p.field.one) (Now v n pre) S (send_out Two 1)
  second-tells {S} w two = record {
    leads = λ p r m.
        let e = m.0.sized.two in
        let high : 1 ≤ length p.field.two.members = omega (arith, two, e) in
        let f : Field = sent Two 1 p.field in
        subst (λ (x : Progress). Lands (Now v n pre) S x) (sym (send_out-at Two 1 p r)) (Runs r (record {
          begun = record {
            both = record { one = other-out-two 1 p.field m.1; two = out-two 1 p.field (omega arith) high };
            sized = sent-sized n Two 1 p.field m.0.sized;
          };
          exact = at_end v.exact f pre p.events (switch_event Two 1 f) (w.sends Two 1 p.field (pre ++ p.events) (omega arith) high m.0.exact);
        }));
  }

  begins-tells : Switching v → 1 ≤ n.one → 1 ≤ n.two → Leads (λ p. Fresh v n pre p.field p.events) (MayFall v n pre) (MayFall v n pre) start
  unfolding start
  begins-tells w one two = first-tells w one ⊳ after-leads loosened (second-tells w two)

  -- An update

  update_for-falls : (r : Ruling) → Goes v n pre r → (a b : Request) (one two : Choice) → ChoiceFits n One one → ChoiceFits n Two two
      → (p : Progress) → p.stopped ≡ false → May v n pre p.field p.events → (a ≡ requests.Move → b ≡ requests.Move → Holds v n pre p.field p.events)
      → Lands (MayFall v n pre) (MayFall v n pre) (update_for r a b one two p)
  unfolding update_for
  update_for-falls r k requests.Move requests.Move one two c d p i m t = (turn-tells r k one two c d).leads p i (t refl refl)
  update_for-falls r k requests.Pass requests.Pass one two c d p i m t = (start-falls k.switching (first-fits p.field m.begun One) (first-fits p.field m.begun Two)).leads p i m
  update_for-falls r k _ _ one two c d p i m t = (replace-falls k.switching one two c d).leads p i m

  pub update-done : (r : Ruling) → Goes v n pre r → (one two : Choice) → ChoiceFits n One one → ChoiceFits n Two two
      → (p : Progress) → p.stopped ≡ false → IsWaiting v n pre p → IsWaiting v n pre (update r one two p)
  unfolding update
  update-done r k one two c d p i m =
      let q : Progress = update_for r p.field.request_one p.field.request_two one two p in
      close-done r q (fallen-or-not q (update_for-falls r k p.field.request_one p.field.request_two one two c d p i m.may m.turn))

  -- The first update. Before it no member is out.
  pub first-done : Switching v → (r : Ruling) (one two : Choice) (p : Progress) → p.stopped ≡ false → Fresh v n pre p.field p.events
      → p.field.request_one ≡ requests.Pass → p.field.request_two ≡ requests.Pass → 1 ≤ n.one → 1 ≤ n.two → IsWaiting v n pre (update r one two p)
  unfolding update update_for
  first-done w r one two p i m a b c d =
      let q : Progress = update_for r requests.Pass requests.Pass one two p in
      subst (λ (x : Progress). IsWaiting v n pre (close_update r x))
      (sym (ap (λ (x : Request). update_for r x p.field.request_two one two p) a ∙ ap (λ (x : Request). update_for r requests.Pass x one two p) b))
      (close-done r q (fallen-or-not q ((begins-tells w c d).leads p i m)))

-- Runs

-- An offered choice names a place that holds a member

place-fits : (n : Sizes) (s : Side) (f : Field) (place : ℕ) → Sized n f → is_among (choices.Switch place) (switches_offered s f) ≡ true → Fits n s place
place-fits n One f place z h = let b = offered-place One place f h in let e = z.one in (b.0, omega (arith, b.1, e))
place-fits n Two f place z h = let b = offered-place Two place f h in let e = z.two in (b.0, omega (arith, b.1, e))

switch-fits : (n : Sizes) (s : Side) (f : Field) (place : ℕ) (request : Request) → Sized n f → is_among (choices.Switch place) (offered_for request s f) ≡ true → Fits n s place
switch-fits n s f place requests.Pass z h = absurd (false≢true h)
switch-fits n s f place requests.Switch z h = place-fits n s f place z h
switch-fits n s f place requests.Move z h = by (is_committed (underway_in s f)) h
  where
    among : (is_among (choices.Switch place) (moves_offered s f) ≡ true) ⊎ (is_among (choices.Switch place) (switches_offered s f) ≡ true) → Fits n s place
    among (inl e) = absurd (false≢true (sym (offered-moves s f place) ∙ e))
    among (inr e) = place-fits n s f place z e

    by : (b : Bool) → is_among (choices.Switch place) (if b then choices.Move 0 ∷ [] else moves_offered s f ++ switches_offered s f) ≡ true → Fits n s place
    by true e = absurd (false≢true e)
    by false e = among (among-append (choices.Switch place) (moves_offered s f) (switches_offered s f) e)

offered-fits : (n : Sizes) (s : Side) (f : Field) (place : ℕ) → Sized n f → is_among (choices.Switch place) (offered s f) ≡ true → Fits n s place
unfolding offered
offered-fits n s f place z h = by (is_over f.outcome) h
  where
    by : (b : Bool) → is_among (choices.Switch place) (if b then [] else offered_for (request_of s f) s f) ≡ true → Fits n s place
    by true e = absurd (false≢true e)
    by false e = switch-fits n s f place (request_of s f) z e

pub choice-fits : (n : Sizes) (s : Side) (f : Field) (c : Choice) → Sized n f → is_among c (offered s f) ≡ true → ChoiceFits n s c
choice-fits n s f (choices.Switch place) z h = offered-fits n s f place z h
choice-fits n s f (choices.Move k) z h = tt
choice-fits n s f choices.Pass z h = tt

-- Between two updates

pub data Ready (v : Story) (n : Sizes) (pre : List Event) (f : Field) : Type 0 where
  Begins : Waits v n pre f [] → Ready v n pre f
  Opens : Fresh v n pre f [] → f.request_one ≡ requests.Pass → f.request_two ≡ requests.Pass → 1 ≤ n.one → 1 ≤ n.two → Ready v n pre f

-- The events of an update are those before the next one.
moved-on : {v : Story} {n : Sizes} (pre : List Event) (f : Field) (es : List Event) → Waits v n pre f es → Waits v n (pre ++ es) f []
moved-on {v} {n} pre f es w =
    let same : pre ++ es ≡ (pre ++ es) ++ [] = sym (append-nil (pre ++ es)) in
    record {
      may = record { begun = w.may.begun; loose = subst (λ (l : List Event). v.loose f l) same w.may.loose };
      turn = λ a b. record { begun = (w.turn a b).begun; exact = subst (λ (l : List Event). v.exact f l) same (w.turn a b).exact };
    }

module _ {v : Story} {n : Sizes} where
  update-waits : (pre : List Event) (s : State) (one two : Choice) → Goes v n pre (ruling_of s.terms) → Ready v n pre s.field
      → offers s One one ≡ true → offers s Two two ≡ true → let p : Progress = update (ruling_of s.terms) one two (opened s) in Waits v n pre p.field p.events
  update-waits pre s one two k (Begins w) a b = update-done (ruling_of s.terms) k one two
      (choice-fits n One s.field one w.may.begun.sized a) (choice-fits n Two s.field two w.may.begun.sized b) (opened s) refl w
  update-waits pre s one two k (Opens m x y c d) a b = first-done k.switching (ruling_of s.terms) one two (opened s) refl m x y c d

  answered-ready : (pre : List Event) (s : State) (over a b : Bool) (p : Progress) → Ready v n pre s.field
      → (a ≡ true → b ≡ true → Waits v n pre p.field p.events)
      → Ready v n (pre ++ events_of (answered s over a b p).answer) (answered s over a b p).state.field
  unfolding answered
  answered-ready pre s true a b p r h = subst (λ (l : List Event). Ready v n l s.field) (sym (append-nil pre)) r
  answered-ready pre s false false b p r h = subst (λ (l : List Event). Ready v n l s.field) (sym (append-nil pre)) r
  answered-ready pre s false true false p r h = subst (λ (l : List Event). Ready v n l s.field) (sym (append-nil pre)) r
  answered-ready pre s false true true p r h = Begins (moved-on pre p.field p.events (h refl refl))

  step-ready : (pre : List Event) (s : State) (one two : Choice) → Goes v n pre (ruling_of s.terms) → Ready v n pre s.field
      → Ready v n (pre ++ events_of (step s one two).answer) (step s one two).state.field
  unfolding step step_by
  step-ready pre s one two k r = answered-ready pre s (is_over s.field.outcome) (offers s One one) (offers s Two two) (update (ruling_of s.terms) one two (opened s)) r
      (λ a b. update-waits pre s one two k r a b)

  run-ready : (pre : List Event) (s : State) (pairs : List (Choice × Choice)) → ((pre : List Event) → Goes v n pre (ruling_of s.terms)) → Ready v n pre s.field
      → Ready v n (pre ++ flat_map events_of (run s pairs).answers) (run s pairs).state.field
  unfolding run_by
  run-ready pre s [] k r = subst (λ (l : List Event). Ready v n l s.field) (sym (append-nil pre)) r
  run-ready pre s (pair ∷ pairs) k r =
      let next : Stepped = step s pair.0 pair.1 in
      subst (λ (l : List Event). Ready v n l (run next.state pairs).state.field)
      (append_assoc pre (events_of next.answer) (flat_map events_of (run next.state pairs).answers))
      (run-ready (pre ++ events_of next.answer) next.state pairs (λ es. subst (λ (t : Terms). Goes v n es (ruling_of t)) (sym (terms_stay s pair.0 pair.1).0) (k es))
      (step-ready pre s pair.0 pair.1 (k pre) r))

  -- What is left of a story after a run

  ready-loose : (pre : List Event) (f : Field) → Ready v n pre f → v.loose f pre
  ready-loose pre f (Begins w) = subst (λ (l : List Event). v.loose f l) (append-nil pre) w.may.loose
  ready-loose pre f (Opens m x y c d) = v.loosen f pre (subst (λ (l : List Event). v.exact f l) (append-nil pre) m.exact)

-- How many members two teams have.
abbrev pub sizes_of : List Member → List Member → Sizes
sizes_of one two = record { one = length one; two = length two }

pub story-runs : (v : Story) (t : Terms) (one two : List Member) (seed : List ℕ) (pairs : List (Choice × Choice)) → IsTeam one → IsTeam two
    → Outline v → Switching v → ((pre : List Event) (s : Side) (pick : Pick) → Leads (Now v (sizes_of one two) pre) (MayFall v (sizes_of one two) pre) (MayFall v (sizes_of one two) pre) (act (ruling_of t) s pick))
    → v.exact (first_state t one two seed).field []
    → v.loose (run (first_state t one two seed) pairs).state.field (flat_map events_of (run (first_state t one two seed) pairs).answers)
story-runs v t one two seed pairs a b o w k start =
    let s : State = first_state t one two seed in
    ready-loose (flat_map events_of (run s pairs).answers) (run s pairs).state.field
    (run-ready [] s pairs (λ pre. record { outline = o; switching = w; acts = k pre }) (Opens (record { sized = record { one = refl; two = refl }; exact = start }) refl refl a.size.0 b.size.0))
