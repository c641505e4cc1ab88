-- The costs of a turn and of an update, and the bounds as the contracts state them.
use Rattle.std.proofs.Common.{[], Bool, List, arith, false, length, lit≤, nat_lt, refl, subst, sym, true, ℕ, ◌+◌, ◌∷◌, ◌≡◌, ◌≤◌, ap}
use Rattle.gen1_rolls.specs.Streams.{byte_at, span}
use Rattle.gen1_stats.specs.declared.member.Status.{Status}
use Rattle.gen1_stats.specs.declared.member.Status.TheVariants.{Poisoned, Burned}
use Rattle.gen1_machine.specs.declared.side.Side.{Side}
use Rattle.gen1_machine.specs.declared.side.Side.TheVariants.{One, Two}
use Rattle.gen1_machine.specs.declared.terms.Outcome.{Outcome}
use Rattle.gen1_machine.specs.declared.terms.Request.{Request}
use Rattle.gen1_machine.specs.declared.event.DamageSource.{DamageSource}
use Rattle.gen1_machine.specs.declared.event.Event.{Event}
use Rattle.gen1_machine.specs.declared.side.Pick.{Pick}
use Rattle.gen1_machine.specs.declared.side.Choice.{Choice}
use Rattle.gen1_machine.specs.Sides.{other}
use Rattle.gen1_machine.specs.LogBytes.{code}
use Rattle.gen1_machine.specs.Progress.{Phase, choose, given, draw, Progress}
use Rattle.gen1_machine.specs.ResidualDamage.{worsen, suffer, drained_by, suffer_seed, suffer_status, residual}
use Rattle.gen1_machine.specs.Ruling.{Ruling, ruling_of}
use Rattle.gen1_machine.specs.Action.{begin, act}
use Rattle.gen1_machine.specs.SwitchingIn.{send_out, send_if_chosen, replace, start}
use Rattle.gen1_machine.specs.TurnOrder.{rank_in, toss, in_order_of_speed, in_order_of_rank, in_order}
use Rattle.gen1_machine.specs.Turn.{Part, Sends, Acts, Suffers, do_part, end_spent_trapping, end_turn, do_parts, both_act, set_picked, both_pick, switch_then_act, one_picks, both_switch, play_turn, turn}
use Rattle.gen1_machine.specs.Falls.{faint_if_fallen, faint_in_order, the_fallen_faint, ask_nothing, battle_ends, end_if_decided, ask_for_switches, ask_for_moves, settle, close}
use Rattle.gen1_machine.specs.Step.{update_for, close_update, update, opened, events_of, accepted, answered, offers, step_by, step, Accepted}
use Rattle.gen1_machine.specs.Bounds.{Spends, CostsAtMost, ActIsBounded, SwitchIsBounded, ResidualIsBounded, OrderIsBounded, EndIsBounded, TurnIsBounded, UpdateIsBounded, Bounded, StepIsBounded}
use Rattle.gen1_machine.proofs.Costs.{Bound, Costs, Reached, Limited, hits_planned, spends-trans, spends-more, spends-draws, goes, ends, both, may_stop, either, ◌⨟◌, ◌⊳◌, more, ends-reached, reached-ends, choose-costs, given-costs, stay-costs, stop-costs, field-costs, active-costs, conditions-costs, action-costs, note-costs, told-costs}
use Rattle.gen1_machine.proofs.EffectCosts.{lose-costs, gain-costs, RulingCosts, ruling_of-costs}
use Rattle.gen1_machine.proofs.ActionCosts.{act-reached}
use Rattle.gen1_machine.specs.State.{is_over, State}
use Rattle.gen1_machine.specs.declared.terms.Outcome.TheVariants as outcomes
use Rattle.gen1_machine.specs.declared.terms.Request.TheVariants as requests
use Rattle.gen1_machine.specs.declared.event.DamageSource.TheVariants as sources
use Rattle.gen1_machine.specs.declared.side.Choice.TheVariants as choices

module _ {limit : ℕ} where
  -- Residual damage

  worsen-costs : (s : Side) → Costs limit (worsen s) (goes 0 0 0)
  unfolding worsen
  worsen-costs s = conditions-costs s _

  pub suffer-costs : (s : Side) (source : DamageSource) → Costs limit (suffer s source) (goes 0 1 9)
  unfolding suffer
  suffer-costs s source = worsen-costs s ⊳ given-costs _ (lose-costs s source)

  drained_by-costs : (s : Side) (amount : ℕ) → Costs limit (drained_by s amount) (goes 0 2 17)
  unfolding drained_by
  drained_by-costs s amount = lose-costs s sources.LeechSeed amount ⊳ gain-costs (other s) amount

  pub suffer_seed-costs : (s : Side) → Costs limit (suffer_seed s) (goes 0 2 17)
  unfolding suffer_seed
  suffer_seed-costs s = worsen-costs s ⊳ given-costs _ (drained_by-costs s)

  pub suffer_status-costs : (s : Side) (status : Status) → Costs limit (suffer_status s status) (goes 0 1 9)
  unfolding suffer_status
  suffer_status-costs s Poisoned = suffer-costs s sources.Poison
  suffer_status-costs s Burned = suffer-costs s sources.Burn
  suffer_status-costs s _ = more stay-costs refl

  pub residual-costs : (s : Side) → Costs limit (residual s) (goes 0 3 26)
  unfolding residual
  residual-costs s = choose-costs _ (given-costs _ (suffer_status-costs s) ⊳ choose-costs _ (suffer_seed-costs s) stay-costs) stay-costs

  -- Switches

  pub send_out-costs : (s : Side) (place : ℕ) → Costs limit (send_out s place) (goes 0 1 10)
  unfolding send_out
  send_out-costs s place = given-costs _ (λ m. active-costs s _) ⊳ conditions-costs (other s) _ ⊳ note-costs _ 10 (λ f. lit≤ tt)

  send_if-costs : (s : Side) (c : Choice) → Costs limit (send_if_chosen s c) (goes 0 1 10)
  unfolding send_if_chosen
  send_if-costs s (choices.Switch place) = send_out-costs s place
  send_if-costs s _ = more stay-costs refl

  pub replace-costs : (one two : Choice) → Costs limit (replace one two) (goes 0 2 20)
  unfolding replace
  replace-costs one two = send_if-costs One one ⊳ send_if-costs Two two

  pub start-costs : Costs limit start (goes 0 2 20)
  unfolding start
  start-costs = send_out-costs One 1 ⊳ send_out-costs Two 1

  -- The end of an update

  faint-costs : (s : Side) → Costs limit (faint_if_fallen s) (goes 0 1 3)
  unfolding faint_if_fallen
  faint-costs s = choose-costs _ (told-costs _ _ 3 (λ f. lit≤ tt)) stay-costs

  faint_in_order-costs : (actor : Side) → Costs limit (faint_in_order actor) (goes 0 2 6)
  unfolding faint_in_order
  faint_in_order-costs actor = faint-costs (other actor) ⊳ faint-costs actor

  fallen-costs : Costs limit the_fallen_faint (goes 0 2 6)
  unfolding the_fallen_faint
  fallen-costs = given-costs _ faint_in_order-costs

  ask_nothing-costs : Costs limit ask_nothing (goes 0 0 0)
  unfolding ask_nothing
  ask_nothing-costs = field-costs _

  battle_ends-costs : (outcome : Outcome) (event : Event) → length (code event) ≤ 2 → Costs limit (battle_ends outcome event) (ends 0 1 2)
  unfolding battle_ends
  battle_ends-costs outcome event h = field-costs _ ⊳ ask_nothing-costs ⊳ note-costs _ 2 (λ f. h) ⊳ stop-costs

  end_if-costs : (r : Ruling) → Costs limit (end_if_decided r) (may_stop 0 0 0 0 1 2)
  unfolding end_if_decided
  end_if-costs r = choose-costs _ (battle_ends-costs _ _ (lit≤ tt)) stay-costs
      ⊳ choose-costs _ (battle_ends-costs _ _ (lit≤ tt)) stay-costs
      ⊳ choose-costs _ (battle_ends-costs _ _ (lit≤ tt)) stay-costs
      ⊳ choose-costs _ (battle_ends-costs _ _ (lit≤ tt)) stay-costs

  ask_switches-costs : Costs limit ask_for_switches (goes 0 0 0)
  unfolding ask_for_switches
  ask_switches-costs = given-costs _ (λ one. given-costs _ (λ two. field-costs _))

  ask_moves-costs : Costs limit ask_for_moves (goes 0 1 3)
  unfolding ask_for_moves
  ask_moves-costs = field-costs _ ⊳ told-costs _ _ 3 (λ f. lit≤ tt)

  settle-costs : (r : Ruling) → Costs limit (settle r) (may_stop 0 1 3 0 1 2)
  unfolding settle
  settle-costs r = end_if-costs r ⊳ choose-costs _ ask_switches-costs ask_moves-costs

  pub close-costs : (r : Ruling) (o : Outcome) → Costs limit (close r o) (both 0 3 9)
  unfolding close
  close-costs r (outcomes.Fault n) = more (ask_nothing-costs ⊳ note-costs _ 2 (λ f. lit≤ tt)) refl
  close-costs r _ = more (fallen-costs ⊳ settle-costs r) refl

-- The order: a side begins at once, or after one draw

pub data Begun (begins : Side → Phase) (p q : Progress) : Type 0 where
  AtOnce : (s : Side) → q ≡ begins s p → Begun begins p q
  AfterDraw : (s : Side) → q ≡ begins s (record p { drawn = p.drawn + 1 }) → Begun begins p q

choose-begun : (begins : Side → Phase) (p : Progress) (test : Progress → Bool) (f g : Phase) → Begun begins p (f p) → Begun begins p (g p)
    → Begun begins p (choose test f g p)
unfolding choose
choose-begun begins p test f g hf hg =
    elim (test p) as (λ t. Begun begins p (elim t as (λ _. Progress) [ true ↦ f p | false ↦ g p ])) [ true ↦ hf | false ↦ hg ]

toss-begun : (begins : Side → Phase) (b : ℕ) (p : Progress) → Begun begins p (toss begins b (record p { drawn = p.drawn + 1 }))
unfolding toss choose
toss-begun begins b p = let q : Progress = record p { drawn = p.drawn + 1 } in
    elim (nat_lt b 128) as (λ t. Begun begins p (elim t as (λ _. Progress) [ true ↦ begins One q | false ↦ begins Two q ])) [
      | true ↦ AfterDraw One refl
      | false ↦ AfterDraw Two refl
    ]

draw-begun : (begins : Side → Phase) (p : Progress) → Begun begins p (draw (toss begins) p)
unfolding draw
draw-begun begins p = toss-begun begins (byte_at p.stream p.drawn) p

speed-begun : (begins : Side → Phase) (p : Progress) → Begun begins p (in_order_of_speed begins p)
unfolding in_order_of_speed
speed-begun begins p = choose-begun begins p _ _ _ (AtOnce One refl) (choose-begun begins p _ _ _ (AtOnce Two refl) (draw-begun begins p))

rank-begun : (one two : ℕ) (begins : Side → Phase) (p : Progress) → Begun begins p (in_order_of_rank one two begins p)
unfolding in_order_of_rank
rank-begun one two begins p =
    choose-begun begins p _ _ _ (AtOnce One refl) (choose-begun begins p _ _ _ (AtOnce Two refl) (speed-begun begins p))

pub order-begun : (begins : Side → Phase) (p : Progress) → Begun begins p (in_order begins p)
unfolding in_order given
order-begun begins p = rank-begun (rank_in One p.field) (rank_in Two p.field) begins p

-- One draw more than what follows it

one-drawn : (p : Progress) → Spends 1 0 0 p (record p { drawn = p.drawn + 1 })
one-drawn p = spends-draws p (record p { drawn = p.drawn + 1 }) 1 (omega arith) (omega arith) refl

spends-order : {d e b : ℕ} (begins : Side → Phase) (p q : Progress) → ((s : Side) (x : Progress) → x.stopped ≡ false → span x.stream ≤ 2304 → Spends d e b x (begins s x))
    → p.stopped ≡ false → span p.stream ≤ 2304 → Begun begins p q → Spends (d + 1) e b p q
spends-order {d} {e} {b} begins p q h r i (AtOnce s same) =
    subst (λ x. Spends (d + 1) e b p x) (sym same) (spends-more (omega arith) (omega arith) (omega arith) (h s p r i))
spends-order {d} {e} {b} begins p q h r i (AfterDraw s same) =
    let x : Progress = record p { drawn = p.drawn + 1 } in
    subst (λ y. Spends (d + 1) e b p y) (sym same)
    (spends-more (omega arith) (omega arith) (omega arith) (spends-trans (one-drawn p) (h s x r i)))

pub order-spends : (d e b : ℕ) (begins : Side → Phase) → ((s : Side) → CostsAtMost d e b (begins s)) → CostsAtMost (d + 1) e b (in_order begins)
order-spends d e b begins h p r i = spends-order begins p (in_order begins p) h r i (order-begun begins p)

module _ {limit : ℕ} where
  reached-order : {d e b : ℕ} (begins : Side → Phase) (p q : Progress)
      → ((s : Side) → Costs limit (begins s) (both d e b)) → p.stopped ≡ false → Limited limit p
      → Begun begins p q → Reached limit p q (d + 1) e b
  reached-order {d} {e} {b} begins p q h r i (AtOnce s same) =
      let m = ends-reached p (begins s p) d e b ((h s).cost p r i) in
      subst (λ x. Reached limit p x (d + 1) e b) (sym same)
      (record { spends = spends-more (omega arith) (omega arith) (omega arith) m.spends; limited = m.limited })
  reached-order {d} {e} {b} begins p q h r i (AfterDraw s same) =
      let x : Progress = record p { drawn = p.drawn + 1 } in
      let m = ends-reached x (begins s x) d e b ((h s).cost x r i) in
      subst (λ y. Reached limit p y (d + 1) e b) (sym same)
      (record { spends = spends-more (omega arith) (omega arith) (omega arith) (spends-trans (one-drawn p) m.spends); limited = m.limited })

  pub order-costs : (begins : Side → Phase) → ((s : Side) → Costs limit (begins s) (both 4646 44 266)) → Costs limit (in_order begins) (both 4647 44 266)
  order-costs begins h = record {
    cost = λ p r i.
        reached-ends p (in_order begins p) 4647 44 266 (in_order begins p).stopped refl
        (reached-order begins p (in_order begins p) h r i (order-begun begins p));
  }

-- The parts of a turn, for a limit of at least five planned hits

abbrev part_bound : Part → Bound
part_bound (Sends s place) = goes 0 1 10
part_bound (Acts s pick) = both 2323 19 107
part_bound (Suffers s) = goes 0 3 26

abbrev parts_bound : List Part → Bound
parts_bound [] = goes 0 0 0
parts_bound (part ∷ rest) = part_bound part ⨟ either (goes 0 0 0) (parts_bound rest)

module _ {limit : ℕ} where
  pub begin-costs : (s : Side) → 5 ≤ limit → Costs limit (begin s) (goes 0 0 0)
  unfolding begin
  begin-costs s five = action-costs _ (λ a i. omega (arith, five))

  pub act-costs : (r : Ruling) → RulingCosts 5 r → 5 ≤ limit → (s : Side) (pick : Pick) → Costs limit (act r s pick) (both 2323 19 107)
  act-costs r h five s pick = record {
    cost = λ p i j.
        let m = act-reached r h s pick p i j.1 in
        reached-ends p (act r s pick p) 2323 19 107 (act r s pick p).stopped refl
        (record { spends = m.spends; limited = (omega (arith, five, m.limited.0), m.limited.1) });
  }

  do_part-costs : (r : Ruling) → RulingCosts 5 r → 5 ≤ limit → (part : Part) → Costs limit (do_part r part) (part_bound part)
  unfolding do_part
  do_part-costs r h five (Sends s place) = begin-costs s five ⊳ send_out-costs s place
  do_part-costs r h five (Acts s pick) = more (begin-costs s five ⊳ choose-costs _ stay-costs (act-costs r h five s pick)) refl
  do_part-costs r h five (Suffers s) = residual-costs s

  spent-costs : (s : Side) → Costs limit (end_spent_trapping s) (goes 0 0 0)
  unfolding end_spent_trapping
  spent-costs s = choose-costs _ (conditions-costs s _) stay-costs

  end_turn-costs : Costs limit end_turn (goes 0 0 0)
  unfolding end_turn
  end_turn-costs = spent-costs One ⊳ spent-costs Two

  do_parts-costs : (r : Ruling) → RulingCosts 5 r → 5 ≤ limit → (parts : List Part) → Costs limit (do_parts r parts) (parts_bound parts)
  unfolding do_parts
  do_parts-costs r h five [] = end_turn-costs
  do_parts-costs r h five (part ∷ rest) = do_part-costs r h five part ⊳ choose-costs _ stay-costs (do_parts-costs r h five rest)

  set_picked-costs : (s : Side) (pick : Pick) → Costs limit (set_picked s pick) (goes 0 0 0)
  unfolding set_picked
  set_picked-costs s pick = given-costs _ (λ a. active-costs s _)

  both_pick-costs : (r : Ruling) → RulingCosts 5 r → 5 ≤ limit → (one two : Pick) → Costs limit (both_pick r one two) (both 4647 44 266)
  unfolding both_pick
  both_pick-costs r h five one two = more (set_picked-costs One one ⊳ set_picked-costs Two two
      ⊳ order-costs _ (λ s. more (do_parts-costs r h five (both_act one two s)) refl)) refl

  one_picks-costs : (r : Ruling) → RulingCosts 5 r → 5 ≤ limit → (s : Side) (pick : Pick) (place : ℕ) → Costs limit (one_picks r s pick place) (both 4647 44 266)
  unfolding one_picks
  one_picks-costs r h five s pick place = more (set_picked-costs s pick ⊳ do_parts-costs r h five (switch_then_act s pick place)) refl

  play_turn-costs : (r : Ruling) → RulingCosts 5 r → 5 ≤ limit → (one two : Choice) → Costs limit (play_turn r one two) (both 4647 44 266)
  unfolding play_turn
  play_turn-costs r h five (choices.Move j) (choices.Move k) = given-costs _ (λ one. given-costs _ (λ two. both_pick-costs r h five one two))
  play_turn-costs r h five (choices.Move j) (choices.Switch place) = given-costs _ (λ pick. one_picks-costs r h five One pick place)
  play_turn-costs r h five (choices.Switch place) (choices.Move k) = given-costs _ (λ pick. one_picks-costs r h five Two pick place)
  play_turn-costs r h five (choices.Switch one) (choices.Switch two) = more (do_parts-costs r h five (both_switch one two)) refl
  play_turn-costs r h five _ _ = more stay-costs refl

  pub turn-costs : (r : Ruling) → RulingCosts 5 r → 5 ≤ limit → (one two : Choice) → Costs limit (turn r one two) (both 4647 44 266)
  unfolding turn
  turn-costs r h five one two = more (conditions-costs One _ ⊳ conditions-costs Two _ ⊳ play_turn-costs r h five one two) refl

  pub update_for-costs : (r : Ruling) → RulingCosts 5 r → 5 ≤ limit → (a b : Request) (one two : Choice) → Costs limit (update_for r a b one two) (both 4647 44 266)
  unfolding update_for
  update_for-costs r h five requests.Move requests.Move one two = turn-costs r h five one two
  update_for-costs r h five requests.Pass requests.Pass one two = more start-costs refl
  update_for-costs r h five _ _ one two = more (replace-costs one two) refl

-- From a cost for any limit of planned hits to a cost from any start

reached-anywhere : (d e b : ℕ) (f : Phase) → ((limit : ℕ) → 5 ≤ limit → Costs limit f (both d e b))
    → (p : Progress) → p.stopped ≡ false → span p.stream ≤ 2304 → Reached (5 + hits_planned p) p (f p) d e b
reached-anywhere d e b f h p r i = ends-reached p (f p) d e b ((h (5 + hits_planned p) (omega arith)).cost p r (omega arith, i))

pub anywhere : (d e b : ℕ) (f : Phase) → ((limit : ℕ) → 5 ≤ limit → Costs limit f (both d e b)) → CostsAtMost d e b f
anywhere d e b f h p r i = (reached-anywhere d e b f h p r i).spends

pub end-spends : (r : Ruling) → CostsAtMost 0 3 9 (close_update r)
unfolding close_update
end-spends r p i spans =
    let x : Progress = record p { stopped = false } in
    let w = anywhere 0 3 9 (close r p.field.outcome) (λ limit five. close-costs r p.field.outcome) x refl spans in
    record { forward = w.forward; drawn = w.drawn; new = w.new; appended = w.appended; counted = w.counted; coded = w.coded }

-- An update makes at most 4,647 draws, and writes at most 47 events of 275 bytes together.
pub update-spends : (r : Ruling) → RulingCosts 5 r → (one two : Choice) → CostsAtMost 4647 47 275 (update r one two)
unfolding update close_update
update-spends r h one two p i spans =
    let q : Progress = update_for r p.field.request_one p.field.request_two one two p in
    let m = reached-anywhere 4647 44 266 (update_for r p.field.request_one p.field.request_two one two)
    (λ limit five. update_for-costs r h five p.field.request_one p.field.request_two one two) p i spans in
    let x : Progress = record q { stopped = false } in
    let v = anywhere 0 3 9 (close r q.field.outcome) (λ limit five. close-costs r q.field.outcome) x refl m.limited.1 in
    spends-trans m.spends (record { forward = v.forward; drawn = v.drawn; new = v.new; appended = v.appended; counted = v.counted; coded = v.coded })

-- The bounds, as the contracts state them.

pub act_is_bounded : ActIsBounded
act_is_bounded t s pick p r i = (act-reached (ruling_of t) (ruling_of-costs t) s pick p r i).spends

pub switch_is_bounded : SwitchIsBounded
switch_is_bounded s place = anywhere 0 1 10 (send_out s place) (λ limit five. more (send_out-costs s place) refl)

pub residual_is_bounded : ResidualIsBounded
residual_is_bounded s = anywhere 0 3 26 (residual s) (λ limit five. more (residual-costs s) refl)

pub order_is_bounded : OrderIsBounded
order_is_bounded = order-spends

pub end_is_bounded : EndIsBounded
end_is_bounded = end-spends

pub turn_is_bounded : TurnIsBounded
turn_is_bounded t one two =
    anywhere 4647 44 266 (turn (ruling_of t) one two) (λ limit five. turn-costs (ruling_of t) (ruling_of-costs t) five one two)

pub update_is_bounded : UpdateIsBounded
update_is_bounded t = update-spends (ruling_of t) (ruling_of-costs t)

-- The update of a state keeps to the bounds.
bounded : (s : State) (one two : Choice) → let p = update (ruling_of s.terms) one two (opened s) in Bounded s p.events (accepted s p).state
bounded s one two =
    let w = update_is_bounded s.terms one two (opened s) refl (omega arith) in
    record {
      forward = w.forward;
      draws = omega (arith, w.drawn);
      few = rw w.appended (omega (arith, w.counted));
      short = rw w.appended (omega (arith, w.coded));
    }

answered-bounded : (s : State) (over one two : Bool) (p : Progress) (events : List Event)
    → Bounded s p.events (accepted s p).state
    → (answered s over one two p).answer ≡ Accepted events → Bounded s events (answered s over one two p).state
unfolding answered
answered-bounded s true one two p events b e = absurd (cc)
answered-bounded s false false two p events b e = absurd (cc)
answered-bounded s false true false p events b e = absurd (cc)
answered-bounded s false true true p events b e = subst (λ es. Bounded s es (accepted s p).state) (ap events_of e) b

pub step_is_bounded : StepIsBounded
unfolding step step_by
step_is_bounded s one two events e =
    answered-bounded s (is_over s.field.outcome) (offers s One one) (offers s Two two) (update (ruling_of s.terms) one two (opened s)) events
    (bounded s one two) e
