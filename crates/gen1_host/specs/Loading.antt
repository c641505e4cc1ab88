-- Which bytes are those of a host, and which test other bytes fail (docs/MECHANICS.md, "Hosts").
use Rattle.std.specs.Prelude.{Bool, List, None, Ok, Err, Result, Some, false, take, true, ⊤, ℕ, ◌≡◌, ◌≤◌, ◌⊎◌}
use Rattle.std.specs.List.{All}
use Rattle.gen1_machine.specs.declared.side.Choice.{Choice}
use Rattle.gen1_machine.specs.declared.event.Event.{Event}
use Rattle.gen1_machine.specs.declared.side.Side.{Side}
use Rattle.gen1_machine.specs.declared.side.Side.TheVariants.{One, Two}
use Rattle.gen1_machine.specs.Choices.{choice_at}
use Rattle.gen1_machine.specs.OfferedChoices.{offered}
use Rattle.gen1_machine.specs.Room.{choice_by_byte}
use Rattle.gen1_machine.specs.State.{Field, is_over, is_pass, request_of, State}
use Rattle.gen1_events.specs.Reader.{IsReading}
use Rattle.gen1_layout.specs.Loading.{IsLoadedAs, version_three}
use Rattle.gen1_layout.specs.LoadingLaws.{IsBattle}
use Rattle.gen1_layout.specs.Parts.{joined, parts_of}
use Rattle.gen1_layout.specs.Shows.{Stands}
use Rattle.gen1_player.specs.Telling.{IsTeller}
use Rattle.gen1_room.specs.declared.plain.PlainRoom.{PlainRoom}
use Rattle.gen1_room.specs.Rooms.{Counts}
use Rattle.gen1_host.specs.declared.host.Host.{Host}
use Rattle.gen1_host.specs.declared.loading.HostFault.{HostFault}
use Rattle.gen1_host.specs.declared.loading.HostFault.TheVariants as faults
use Rattle.gen1_host.specs.Hosts.{Hosts, IsWithin}
use Rattle.gen1_host.specs.Table.{Table}

-- The bytes of a host: it holds a table, and the rest of them is as each call leaves it.
pub record IsHost (h : Host) : Type 0 where
  pub within : IsWithin h
  pub table : Table
  pub hosts : Hosts h table

-- The host whose battle is in the form of version 3.
abbrev pub in_version_three : Host → Host
in_version_three h = record h { room = record h.room { battle = parts_of (version_three (joined h.room.battle)) } }

-- Bytes of a battle of one of the three versions, and in version 3 those of a host.
pub record IsStored (h : Host) : Type 0 where
  pub battle : IsBattle (joined h.room.battle)
  pub host : IsHost (in_version_three h)

-- The tests, for a host whose battle represents a state

abbrev pub IsLog : PlainRoom → Type 0
IsLog r = (r.log_length ≤ 512) × (events : List Event) × IsReading (take r.log_length r.log) events

-- The byte of one of these choices.
abbrev pub IsStated : ℕ → List Choice → Type 0
IsStated byte choices = (choice : Choice) × (choice_at byte ≡ Some choice) × (choice_by_byte byte choices ≡ Some choice)

-- A side's choice for the current pair: Pass if nothing else is asked for. Otherwise it is an offered choice, or 255 while it is missing.
abbrev pub IsLawfulAs : Bool → Side → ℕ → Field → Type 0
IsLawfulAs true side byte f = byte ≡ 0
IsLawfulAs false side byte f = (byte ≡ 255) ⊎ IsStated byte (offered side f)

abbrev pub IsLawful : Side → ℕ → State → Type 0
IsLawful side byte s = IsLawfulAs (is_pass (request_of side s.field)) side byte s.field

-- Until the battle is over, a choice is missing.
abbrev pub Waits : PlainRoom → State → Type 0
Waits r s = is_over s.field.outcome ≡ false → (choice_at r.one ≡ None) ⊎ (choice_at r.two ≡ None)

abbrev pub PassesTest : HostFault → Host → State → Type 0
PassesTest (faults.Battle why) h s = ⊤
PassesTest faults.Number h s = Counts h.room.number s
PassesTest faults.Log h s = IsLog h.room
PassesTest (faults.Choice One) h s = IsLawful One h.room.one s
PassesTest (faults.Choice Two) h s = IsLawful Two h.room.two s
PassesTest faults.Choices h s = Waits h.room s
PassesTest (faults.Teller One) h s = IsTeller One h.one
PassesTest (faults.Teller Two) h s = IsTeller Two h.two × (h.one.pixels ≡ h.two.pixels)
PassesTest faults.Ending h s = h.ending ≤ 3
PassesTest faults.Draw h s = h.draw ≤ 2
PassesTest faults.Rules h s = (h.may_cancel ≤ 1) × (h.late_forfeits ≤ 1)
PassesTest faults.Unused h s = (h.room.forfeit ≡ 0) × All (λ (byte : ℕ). byte ≡ 0) h.room.unused

-- All tests are passed, or not the one that is named.
abbrev pub IsTested : Host → State → Result ⊤ HostFault → Type 0
IsTested h s (Ok done) = (fault : HostFault) → PassesTest fault h s
IsTested h s (Err fault) = PassesTest fault h s → ⊥

-- The test that bytes fail: one of loading the battle, or one of the host with the battle that was loaded.
abbrev pub FailsTest : HostFault → Host → Type 0
FailsTest (faults.Battle why) h = IsLoadedAs (Err why) (joined h.room.battle)
FailsTest fault h =
    IsBattle (joined h.room.battle)
    × ((s : State) → Stands (parts_of (version_three (joined h.room.battle))) s → PassesTest fault h s → ⊥)
