-- The lines of the events so far are written.
use Rattle.std.proofs.Common.{◌≡◌, take}
use Rattle.gen1_devices.specs.Output.{device_inner}
use Rattle.gen1_machine.specs.Lines.{lines}
use Rattle.battle_commands.proofs.battles.text_of.Given as goal

abbrev pub invariant-loop-event : goal.invariant-loop-event
invariant-loop-event g l = (device_inner l.text).items ≡ lines (take l.event-index l.events)
