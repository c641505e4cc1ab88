-- A table as a plain struct, and what it sends (docs/MECHANICS.md, "Hosts").
use Rattle.std.specs.Prelude.{Bool, None, Option, Result, Some, replicate, take, ℕ, ◌*◌, ◌+◌, ◌≡◌, ◌≤◌}
use Rattle.std.specs.List.{All}
use Rattle.gen1_machine.specs.declared.side.Side.{Side}
use Rattle.gen1_machine.specs.declared.side.Side.TheVariants.{One, Two}
use Rattle.gen1_machine.specs.declared.terms.Request.TheVariants as requests
use Rattle.gen1_machine.specs.Layout.{outcome_byte}
use Rattle.gen1_machine.specs.Numbers.{side_number}
use Rattle.gen1_machine.specs.Rules.{bit_of}
use Rattle.gen1_machine.specs.State.{State}
use Rattle.gen1_events.specs.Reader.{IsReading}
use Rattle.gen1_engine.specs.declared.result.BattleResult.{BattleResult}
use Rattle.gen1_engine.specs.Update.{result_of}
use Rattle.gen1_offers.specs.OfferedChoices.{mask_of}
use Rattle.gen1_player.specs.declared.teller.Teller.{Teller}
use Rattle.gen1_player.specs.OwnSide.{plain_side}
use Rattle.gen1_player.specs.declared.teller.HpForm.{HpForm}
use Rattle.gen1_player.specs.Telling.{IsTeller, form_number}
use Rattle.gen1_room.specs.declared.plain.PlainRoom.{PlainRoom}
use Rattle.gen1_room.specs.Rooms.{IsMarked, Keeps, submission_of}
use Rattle.gen1_host.specs.declared.host.Host.{Host}
use Rattle.gen1_host.specs.declared.host.HouseRules.{HouseRules as PlainRules}
use Rattle.gen1_host.specs.declared.message.Message.{Message}
use Rattle.gen1_host.specs.declared.message.Notice.{Notice as PlainNotice}
use Rattle.gen1_host.specs.declared.host.HostRefusal.{HostRefusal as Why}
use Rattle.gen1_host.specs.declared.host.Replied.{Replied}
use Rattle.gen1_host.specs.declared.submission.Row.{Row as PlainRow}
use Rattle.gen1_host.specs.declared.submission.Row.TheVariants as plain
use Rattle.gen1_host.specs.Table.{after_row, Agreed, Cancel, Ending, Expire, Forfeit, Forfeited, HostReply, HouseRules, if_not_refused, OfferDraw, reply_to_row, Row, Submit, Table, table_of}
use Rattle.gen1_host.specs.Messages.{is_awaited, Notice, outcome_by, Sent, reply_of}

-- 1 or 2 for the side that has forfeited, 3 for a draw.
abbrev pub ending_number : Ending → ℕ
ending_number (Forfeited side) = side_number side
ending_number Agreed = 3

abbrev pub ending_byte : Option Ending → ℕ
ending_byte (Some ending) = ending_number ending
ending_byte None = 0

abbrev pub draw_byte : Option Side → ℕ
draw_byte (Some side) = side_number side
draw_byte None = 0

-- A host holds a table.
pub record Hosts (h : Host) (t : Table) : Type 0 where
  pub keeps : Keeps h.room t.course
  pub short : h.room.log_length ≤ 512
  pub one : h.one ≡ t.one
  pub two : h.two ≡ t.two
  pub ending : h.ending ≡ ending_byte t.ending
  pub draw : h.draw ≡ draw_byte t.draw
  pub may_cancel : h.may_cancel ≡ bit_of t.rules.may_cancel
  pub late_forfeits : h.late_forfeits ≡ bit_of t.rules.late_forfeits

-- What holds after each call besides, for any bytes.

pub record IsRoomWithin (r : PlainRoom) : Type 0 where
  pub short : r.log_length ≤ 512
  pub marked : IsMarked r
  pub unused : All (λ (byte : ℕ). byte ≡ 0) r.unused

pub record IsWithin (h : Host) : Type 0 where
  pub room : IsRoomWithin h.room
  pub one : IsTeller One h.one
  pub two : IsTeller Two h.two
  pub pixels : h.one.pixels ≡ h.two.pixels
  pub ending : h.ending ≤ 3
  pub draw : h.draw ≤ 2

-- a battle comes to the table

abbrev pub rules_of : PlainRules → HouseRules
rules_of rules = record { may_cancel = rules.may_cancel; late_forfeits = rules.late_forfeits }

abbrev pub first_teller : HpForm → Side → Teller
first_teller form side = record { side = side_number side; pixels = form_number form; places = replicate 6 0 }

abbrev pub first_table : HpForm → PlainRules → State → Table
first_table form rules s = table_of (rules_of rules) (first_teller form One) (first_teller form Two) s

-- what becomes of a table by a row, and the reply

abbrev pub row_at : PlainRow → Row
row_at (plain.Submit side number byte numbers) = Submit numbers (submission_of side number byte)
row_at (plain.Cancel side number) = Cancel side number
row_at (plain.Expire side number numbers) = Expire numbers side number
row_at (plain.OfferDraw side) = OfferDraw side
row_at (plain.Forfeit side) = Forfeit side

-- A host holds the next table, unless the reply is a refusal.
pub record Follows (reply : HostReply) (t next : Table) (new : Host) (result : Result Replied Why) : Type 0 where
  pub hosts : Hosts new (if_not_refused reply t next)
  pub replied : reply_of result ≡ reply

pub record Takes (row : Row) (t : Table) (new : Host) (result : Result Replied Why) : Type 0 where
  pub hosts : Hosts new (after_row row t)
  pub replied : reply_of result ≡ reply_to_row row t

-- what a host shows

abbrev pub result_by : Ending → BattleResult
result_by ending = record { outcome = outcome_by ending; request_one = requests.Pass; request_two = requests.Pass }

abbrev pub result_at : Table → BattleResult
result_at t = elim t.ending [ Some ending ↦ result_by ending | None ↦ result_of t.course.state ]

-- Bit 0 for side 1, bit 1 for side 2.
abbrev pub awaited_mask : Table → ℕ
awaited_mask t = bit_of (is_awaited One t) + 2 * bit_of (is_awaited Two t)

-- what is sent, as plain structs

pub record IsSent (m : Message) (s : Sent) : Type 0 where
  pub number : m.number ≡ s.number
  pub log : IsReading (take m.log_length m.log) s.events
  pub own : m.own ≡ plain_side s.own
  pub offered : m.offered ≡ mask_of s.choices
  pub draw : m.draw ≡ draw_byte s.draw

pub record IsNotice (m : PlainNotice) (n : Notice) : Type 0 where
  pub number : m.number ≡ n.number
  pub log : IsReading (take m.log_length m.log) n.events
  pub outcome : m.outcome ≡ outcome_byte n.outcome
  pub draw : m.draw ≡ draw_byte n.draw
