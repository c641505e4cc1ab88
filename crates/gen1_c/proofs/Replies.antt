-- Sides by their numbers, and replies of a room as codes.
use Rattle.std.proofs.Common.{Bool, Err, IsSome, None, Ok, Option, Result, Some, ap, arith, false, inl, inr, option_map, refl, subst, sym, true, ℕ, ◌↔◌, ◌≡◌, ◌≤◌, ◌∙◌}
use Rattle.gen1_machine.specs.declared.side.Side.{Side}
use Rattle.gen1_machine.specs.declared.side.Side.TheVariants.{One, Two}
use Rattle.gen1_machine.specs.Numbers.{side_number}
use Rattle.gen1_machine.specs.declared.terms.Outcome.{Outcome}
use Rattle.gen1_machine.specs.declared.terms.Outcome.TheVariants as outcomes
use Rattle.gen1_machine.specs.State.{State}
use Rattle.gen1_machine.specs.Valid.{IsOutcome, IsState}
use Rattle.gen1_machine.specs.Room.{Course, Reply, TurnedAway}
use Rattle.gen1_room.specs.declared.submission.RoomRefusal.{RoomRefusal}
use Rattle.gen1_room.specs.declared.submission.RoomRefusal.TheVariants as whys
use Rattle.gen1_room.specs.declared.submission.Submitted.{Submitted}
use Rattle.gen1_room.specs.declared.submission.Submitted.TheVariants as submitted
use Rattle.gen1_engine.specs.declared.result.BattleResult.{BattleResult}
use Rattle.gen1_room.specs.Forfeits.{ForfeitsAs as Forfeits}
use Rattle.gen1_room.specs.declared.plain.PlainRoom.{PlainRoom}
use Rattle.gen1_room.specs.Rooms.{reply_of_submitted, why_of}
use Rattle.gen1_engine.specs.Update.{result_of}
use Rattle.gen1_host.specs.declared.host.HostRefusal.{HostRefusal}
use Rattle.gen1_host.specs.declared.host.Replied.{Replied}
use Rattle.gen1_host.specs.declared.host.Replied.TheVariants as replied
use Rattle.gen1_host.specs.declared.submission.Row.{Row as PlainRow}
use Rattle.gen1_host.specs.Hosts.{result_at, result_by, row_at}
use Rattle.gen1_host.specs.Messages.{reply_of_taken, why_of as host_why_of}
use Rattle.gen1_host.specs.Table.{Agreed, Ending, Forfeited, HostReply, Refused, Row, Table}
use Rattle.gen1_c.specs.Hosts.{reply_code as host_reply_code, why_code as host_why_code}
use Rattle.gen1_c.specs.Rooms.{ForfeitsAs, reply_code, why_code}

in_range : (which : Side) → (1 ≤ side_number which) × (side_number which ≤ 2)
in_range One = (omega arith, omega arith)
in_range Two = (omega arith, omega arith)

-- the number of a side is found
pub found : (r : Option Side) (n : ℕ) (which : Side) → (IsSome r ↔ ((1 ≤ n) × (n ≤ 2))) → ((x : Side) → r ≡ Some x → ⊥) → n ≡ side_number which → ⊥
found None n which numbered not e =
    let k : false ≡ true = numbered.1 (subst (λ (m : ℕ). (1 ≤ m) × (m ≤ 2)) (sym e) (in_range which)) in cc
found (Some x) n which numbered not e = not x refl

pub taken_code : (x : Submitted) (r : Reply) → reply_of_submitted x ≡ r → 0 ≡ reply_code r
taken_code submitted.Waiting r e = ap reply_code e
taken_code (submitted.Advanced a) r e = ap reply_code e

pub refused_code : (why : RoomRefusal) (n : ℕ) (r : Reply) → n ≡ why_code (why_of why) → TurnedAway (why_of why) ≡ r → n ≡ reply_code r
refused_code why n r k e = k ∙ ap reply_code e

-- a room that is over

pub over_code : {T : Type 0} {r : Result T RoomRefusal} (why : RoomRefusal) → r ≡ Err why → r ≡ Err whys.Over → why_code (why_of why) ≡ 24
over_code whys.Over e k = refl
over_code (whys.Stale current) e k = absurd (let f = sym e ∙ k in cc)
over_code whys.AlreadyChosen e k = absurd (let f = sym e ∙ k in cc)
over_code whys.NotOffered e k = absurd (let f = sym e ∙ k in cc)

-- a forfeit

pub taken_forfeit : (over : Bool) (c : Course) (side : Side) (new : PlainRoom) (res : BattleResult) → Forfeits over c side new (Ok res) → ForfeitsAs over c side new 0
taken_forfeit true c side new res h = absurd (let f = h in cc)
taken_forfeit false c side new res h = (refl, h.1)

pub refused_forfeit : (over : Bool) (c : Course) (side : Side) (new : PlainRoom) (why : RoomRefusal) → Forfeits over c side new (Err why)
    → ForfeitsAs over c side new (why_code (why_of why))
refused_forfeit true c side new why h = over_code why refl h
refused_forfeit false c side new why h = absurd (let f = h.0 in cc)

-- the code of a fault is low

pub fault_low : (s : State) → IsState s → (code : ℕ) → s.field.outcome ≡ outcomes.Fault code → code ≤ 2
fault_low s valid code e = elim valid.field [
  | inl u ↦ absurd (let f = sym u.outcome ∙ e in cc)
  | inr v ↦ let low = subst (λ (o : Outcome). IsOutcome o) e v.field.outcome in omega (arith, low)
]

-- a host's replies

pub taken_row : (x : Replied) (r : HostReply) → reply_of_taken x ≡ r → 0 ≡ host_reply_code r
taken_row replied.Kept r e = ap host_reply_code e
taken_row replied.Ended r e = ap host_reply_code e

pub refused_row : (why : HostRefusal) (n : ℕ) (r : HostReply) → n ≡ host_why_code (host_why_of why) → Refused (host_why_of why) ≡ r → n ≡ host_reply_code r
refused_row why n r k e = k ∙ ap host_reply_code e

-- a form that describes one row describes no other
pub that_row : (x : PlainRow) (it : Row) (due : Option Row) → Some (row_at x) ≡ due → due ≡ Some it → row_at x ≡ it
that_row x it due e k = ap (λ (o : Option Row). elim o [ Some row ↦ row | None ↦ it ]) (e ∙ k)

-- a form that describes no row does not describe this one
pub no_row : (x : Option PlainRow) (it : Row) (due : Option Row) → option_map row_at x ≡ due → ((row : PlainRow) → x ≡ Some row → ⊥) → due ≡ Some it → ⊥
no_row None it due e not k = absurd (let f = e ∙ k in cc)
no_row (Some row) it due e not k = not row refl

-- the code of a fault in a host's result is low

low_early : (e : Ending) (code : ℕ) → (result_by e).outcome ≡ outcomes.Fault code → code ≤ 2
low_early (Forfeited One) code k = absurd (let f = k in cc)
low_early (Forfeited Two) code k = absurd (let f = k in cc)
low_early Agreed code k = absurd (let f = k in cc)

pub low_at : (t : Table) → IsState t.course.state → (code : ℕ) → (result_at t).outcome ≡ outcomes.Fault code → code ≤ 2
low_at t valid code e = by t.ending e
  where
    by : (o : Option Ending) → (let r : BattleResult = elim o [ Some ending ↦ result_by ending | None ↦ result_of t.course.state ] in r).outcome ≡ outcomes.Fault code → code ≤ 2
    by (Some ending) k = low_early ending code k
    by None k = fault_low t.course.state valid code k
