-- What reading a whole input takes from its source, and why it stopped (docs/PROGRAM.md, "What is tested, in this
-- order").
use Rattle.std.specs.Prelude.{ℕ, ◌<◌, ◌≤◌, List, length, Bool, true, false, Option, Result, Ok, Err}
use Rattle.std.specs.Io.KnownBytes.{Consumes}
use Rattle.gen1_devices.specs.declared.io.InputFault.{InputFault}
use Rattle.gen1_devices.specs.declared.io.InputFault.TheVariants.{Device, TooLong, Memory}

-- Known bytes lose a prefix of at most this many.
pub record TakesAtMost (old new : Option (List ℕ)) (most : ℕ) : Type 0 where
  pub bytes : List ℕ
  pub few : length bytes ≤ most
  pub gone : Consumes old new bytes

-- Known bytes lose a prefix of at least one byte, and of at most this many.
pub record TakesSome (old new : Option (List ℕ)) (most : ℕ) : Type 0 where
  pub bytes : List ℕ
  pub some : 0 < length bytes
  pub few : length bytes ≤ most
  pub gone : Consumes old new bytes

-- A read failed.
abbrev pub device_refused : {T : Type 0} → Result T InputFault → Bool
device_refused (Ok v) = false
device_refused (Err Device) = true
device_refused (Err TooLong) = false
device_refused (Err Memory) = false
