-- What a sink holds after a text is sent, when a write has failed, and the state of a device (docs/PROGRAM.md, "Faults
-- and statuses").
use Rattle.std.specs.Prelude.{◌≡◌, ◌||◌, ℕ, List, ◌++◌, Bool, Option, Result, is_err, OnOk, OnErr, ◌&&◌, ◌==◌, true, nat_lt, length, Ok, Err}
use Rattle.std.specs.Io.KnownBytes.{Appends}
use Rattle.gen1_devices.specs.declared.io.Device.{Device}

-- Known bytes grow by a prefix of the text.
pub record AppendsFront (old new : Option (List ℕ)) (text : List ℕ) : Type 0 where
  pub front : List ℕ
  pub rest : List ℕ
  pub split : text ≡ front ++ rest
  pub written : Appends old new front

-- The whole text was written, or a prefix of it and then an error. The result is an error exactly if the sink failed
-- in this call.
pub record Sends {T E : Type 0} (old new : Option (List ℕ)) (failed fails : Bool) (text : List ℕ) (result : Result T E) : Type 0 where
  pub whole : OnOk result (Appends old new text)
  pub front : OnErr result (AppendsFront old new text)
  pub fault : fails ≡ (failed || is_err result)

-- When a write to a sink has failed (docs/PROGRAM.md, "Faults and statuses").

-- A write fails by an error, or by writing 0 bytes where there were bytes to write.
abbrev pub write_fails : {E : Type 0} → Result ℕ E → List ℕ → Bool
write_fails (Ok n) bytes = n == 0 && nat_lt 0 (length bytes)
write_fails (Err e) bytes = true

-- The state of a device (docs/PROGRAM.md, "Faults and statuses").

abbrev pub device_inner : {T : Type 0} → Device T → T
device_inner d = d.inner

abbrev pub device_failed : {T : Type 0} → Device T → Bool
device_failed d = d.has_failed
