-- A table by the bytes of its host: whether it is closed, and what a row makes of it.
use Rattle.std.proofs.Common.{Bool, Err, None, Option, Result, Some, arith, false, refl, subst, sym, true, ◌≡◌, ◌∙◌, List, [], ℕ, ◌+◌, ◌≢◌, ◌≤◌, ◌∷◌}
use Rattle.std.specs.Prelude.{if◌then◌else◌, is_none, is_some, not, ◌&&◌, ◌||◌, map, slice_index_or}
use Rattle.gen1_machine.specs.declared.side.Side.{Side}
use Rattle.gen1_machine.specs.declared.side.Side.TheVariants.{One, Two}
use Rattle.gen1_machine.specs.Room.{chosen}
use Rattle.gen1_machine.specs.State.{is_over}
use Rattle.gen1_host.specs.declared.host.Host.{Host}
use Rattle.gen1_host.specs.declared.host.HostRefusal.{HostRefusal as Why}
use Rattle.gen1_host.specs.declared.host.HostRefusal.TheVariants.{Over}
use Rattle.gen1_host.specs.declared.host.Replied.{Replied}
use Rattle.gen1_host.specs.Table.{after_row, Agreed, changed_by, Ending, Forfeited, HostReply, if_not_refused, is_closed, Refused, reply_in_turn, reply_to_row, Row, Table, TableOver, current_pair, first_byte}
use Rattle.gen1_host.specs.Hosts.{ending_byte, Follows, Hosts, Takes, ending_number, result_at, result_by}
use Rattle.gen1_host.specs.Messages.{is_awaited, event_of, last_events, message, outcome_by, outcome_of, own_at, own_by}
use Rattle.gen1_machine.specs.declared.side.Choice.{Choice}
use Rattle.gen1_machine.specs.declared.terms.Outcome.{Outcome}
use Rattle.gen1_machine.specs.Choices.{byte_of_choice}
use Rattle.gen1_machine.specs.Valid.{IsOutcome}
use Rattle.gen1_machine.specs.OfferedChoices.{offered}
use Rattle.gen1_engine.specs.declared.result.BattleResult.{BattleResult}
use Rattle.gen1_engine.specs.Update.{result_of}
use Rattle.gen1_offers.specs.OfferedChoices.{mask_of}
use Rattle.gen1_player.specs.OwnSide.{own_side}
use Rattle.gen1_player.proofs.Fairness.{fault_fits}
use Rattle.gen1_machine.specs.declared.terms.Outcome.TheVariants as outcomes

-- whether a table has ended early

pub none_by : (o : Option Ending) → ending_byte o ≡ 0 → o ≡ None
none_by None h = refl
none_by (Some (Forfeited One)) h = absurd (omega arith)
none_by (Some (Forfeited Two)) h = absurd (omega arith)
none_by (Some Agreed) h = absurd (omega arith)

pub some_by : (o : Option Ending) → (ending_byte o ≡ 0 → ⊥) → (e : Ending) × (o ≡ Some e)
some_by None h = absurd (h refl)
some_by (Some e) h = (e, refl)

pub goes_on_yet : {h : Host} {t : Table} → Hosts h t → h.ending ≡ 0 → t.ending ≡ None
goes_on_yet {h = h} {t = t} k e = none_by t.ending (sym k.ending ∙ e)

pub has_ended : {h : Host} {t : Table} → Hosts h t → (h.ending ≡ 0 → ⊥) → (e : Ending) × (t.ending ≡ Some e)
has_ended {h = h} {t = t} k e = some_by t.ending (λ n. e (k.ending ∙ n))

pub closed_early : (t : Table) (e : Ending) → t.ending ≡ Some e → is_closed t ≡ true
closed_early t e h = rw h refl

pub closed_by_battle : (t : Table) → t.ending ≡ None → is_closed t ≡ is_over t.course.state.field.outcome
closed_by_battle t h = rw h refl

pub open_yet : (t : Table) → is_closed t ≡ false → t.ending ≡ None
open_yet t h = by t.ending h
  where
    by : (o : Option Ending) → (is_some o || is_over t.course.state.field.outcome) ≡ false → o ≡ None
    by None k = refl
    by (Some e) k = absurd (let x : true ≡ false = k in cc)

-- a row at a table that is closed, and at one that is open

refused : (row : Row) (t : Table) → is_closed t ≡ true → reply_to_row row t ≡ Refused TableOver
unfolding reply_to_row
refused row t h = by (is_closed t) h
  where
    by : (b : Bool) → b ≡ true → (if b then Refused TableOver else reply_in_turn row t) ≡ Refused TableOver
    by true k = refl
    by false k = absurd (let x : false ≡ true = k in cc)

in_turn : (row : Row) (t : Table) → is_closed t ≡ false → reply_to_row row t ≡ reply_in_turn row t
unfolding reply_to_row
in_turn row t h = by (is_closed t) h
  where
    by : (b : Bool) → b ≡ false → (if b then Refused TableOver else reply_in_turn row t) ≡ reply_in_turn row t
    by false k = refl
    by true k = absurd (let x : true ≡ false = k in cc)

pub takes_over : (row : Row) {t : Table} {h : Host} → Hosts h t → is_closed t ≡ true → Takes row t h (Err Over)
unfolding after_row
takes_over row {t = t} {h = h} k closed =
    let e = refused row t closed in
    record { hosts = subst (λ (r : HostReply). Hosts h (if_not_refused r t (changed_by row t))) (sym e) k; replied = sym e }

pub takes_in_turn : (row : Row) {t : Table} {h : Host} {result : Result Replied Why} → is_closed t ≡ false
    → Follows (reply_in_turn row t) t (changed_by row t) h result → Takes row t h result
unfolding after_row
takes_in_turn row {t = t} {h = h} closed f =
    let e = in_turn row t closed in
    record { hosts = subst (λ (r : HostReply). Hosts h (if_not_refused r t (changed_by row t))) (sym e) f.hosts; replied = f.replied ∙ sym e }

-- the sides that are awaited

pub none_awaited : (s : Side) (t : Table) → is_closed t ≡ true → is_awaited s t ≡ false
none_awaited s t h = by (is_closed t) h
  where
    by : (b : Bool) → b ≡ true → (not b && is_none (chosen s t.course)) ≡ false
    by true k = refl
    by false k = absurd (let x : false ≡ true = k in cc)

pub awaited_by : (s : Side) (t : Table) → is_closed t ≡ false → is_awaited s t ≡ is_none (chosen s t.course)
awaited_by s t h = by (is_closed t) h
  where
    by : (b : Bool) → b ≡ false → (not b && is_none (chosen s t.course)) ≡ is_none (chosen s t.course)
    by false k = refl
    by true k = absurd (let x : true ≡ false = k in cc)

-- What is sent of a table, by whether it has ended early.

-- the endings by their numbers

pub is_first : (e : Ending) (n : ℕ) → n ≡ ending_number e → n ≡ 1 → e ≡ Forfeited One
is_first (Forfeited One) n h k = refl
is_first (Forfeited Two) n h k = absurd (omega arith)
is_first Agreed n h k = absurd (omega arith)

pub is_second : (e : Ending) (n : ℕ) → n ≡ ending_number e → n ≡ 2 → e ≡ Forfeited Two
is_second (Forfeited Two) n h k = refl
is_second (Forfeited One) n h k = absurd (omega arith)
is_second Agreed n h k = absurd (omega arith)

pub is_draw : (e : Ending) (n : ℕ) → n ≡ ending_number e → n ≢ 1 → n ≢ 2 → e ≡ Agreed
is_draw (Forfeited One) n h k l = absurd (k h)
is_draw (Forfeited Two) n h k l = absurd (l h)
is_draw Agreed n h k l = refl

-- no table has ended early by a fault
pub no_fault : (e : Ending) (code : ℕ) → outcome_by e ≡ outcomes.Fault code → ⊥
no_fault (Forfeited One) code h = cc
no_fault (Forfeited Two) code h = cc
no_fault Agreed code h = cc

-- an open table

pub pair_yet : (t : Table) → t.ending ≡ None → current_pair t ≡ t.course.number
pair_yet t h = rw h refl

pub result_yet : (t : Table) → t.ending ≡ None → result_at t ≡ result_of t.course.state
result_yet t h = rw h refl

pub events_yet : (t : Table) → t.ending ≡ None → last_events t ≡ t.course.events
events_yet t h = rw h refl

pub own_yet : (s : Side) (t : Table) → t.ending ≡ None → own_at s t ≡ own_side s t.course.state.field
own_yet s t h = rw h refl

-- one that has ended early

pub pair_past : (t : Table) (e : Ending) → t.ending ≡ Some e → current_pair t ≡ t.course.number + 1
pair_past t e h = rw h refl

pub result_early : (t : Table) (e : Ending) → t.ending ≡ Some e → result_at t ≡ result_by e
result_early t e h = rw h refl

pub events_early : (t : Table) (e : Ending) → t.ending ≡ Some e → last_events t ≡ event_of e ∷ []
events_early t e h = rw h refl

pub own_early : (s : Side) (t : Table) (e : Ending) → t.ending ≡ Some e → own_at s t ≡ own_by e (own_side s t.course.state.field)
own_early s t e h = rw h refl

pub outcome_is : (t : Table) → (result_at t).outcome ≡ outcome_of t
outcome_is t = by t.ending
  where
    by : (o : Option Ending) → (elim o as (λ _. BattleResult) [ Some ending ↦ result_by ending | None ↦ result_of t.course.state ]).outcome
        ≡ elim o as (λ _. Outcome) [ Some ending ↦ outcome_by ending | None ↦ t.course.state.field.outcome ]
    by None = refl
    by (Some e) = refl

-- a battle ends by fault 1 or 2 at most
pub fault_small : (t : Table) → IsOutcome t.course.state.field.outcome → (code : ℕ) → outcome_of t ≡ outcomes.Fault code → code ≤ 2
fault_small t fits code h = by t.ending h
  where
    by : (o : Option Ending) → elim o as (λ _. Outcome) [ Some ending ↦ outcome_by ending | None ↦ t.course.state.field.outcome ] ≡ outcomes.Fault code → code ≤ 2
    by None k = fault_fits t.course.state.field.outcome fits code k
    by (Some e) k = absurd (no_fault e code k)

-- the byte of the first choice that is due

pub first_of : (choices : List Choice) → slice_index_or (map byte_of_choice choices) 0 255 ≡ first_byte choices
first_of [] = refl
first_of (choice ∷ more) = refl

-- the choices

pub mask_closed : (s : Side) (t : Table) → is_closed t ≡ true → mask_of (message s t).choices ≡ 0
unfolding mask_of
mask_closed s t h = by (is_closed t) h
  where
    by : (b : Bool) → b ≡ true → mask_of (if b then [] else offered s t.course.state.field) ≡ 0
    by true k = refl
    by false k = absurd (let x : false ≡ true = k in cc)

pub mask_open : (s : Side) (t : Table) → is_closed t ≡ false → mask_of (message s t).choices ≡ mask_of (offered s t.course.state.field)
mask_open s t h = by (is_closed t) h
  where
    by : (b : Bool) → b ≡ false → mask_of (if b then [] else offered s t.course.state.field) ≡ mask_of (offered s t.course.state.field)
    by false k = refl
    by true k = absurd (let x : true ≡ false = k in cc)
