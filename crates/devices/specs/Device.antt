-- What a source gives and a target takes, and how often they fail.
use Rattle.std.specs.Prelude.{ℕ, ◌<◌, ◌&&◌, nat_eq, nat_lt, if◌then◌else◌, List, length, take, Option, Result, Ok, Err}
use Rattle.std.specs.Io.KnownBytes.{Appends, Consumes}
use Rattle.devices.specs.declared.fault.Fault.{Fault}
use Rattle.devices.specs.declared.fault.Fault.TheVariants.{NotUtf8, Memory, Device}

-- a device of type X, and how often it failed
pub record Metered (X : Type 0) : Type 0 where
  pub inner : X
  pub failures : ℕ

-- how many failures a write of `buf` is: one at `Err`, and where it took none of the bytes that were there
abbrev pub failed_writes : {E : Type 0} → Result ℕ E → List ℕ → ℕ
failed_writes (Err e) buf = 1
failed_writes (Ok n) buf = if nat_eq n 0 && nat_lt 0 (length buf) then 1 else 0

-- 1 at Device, which stands for one failure of a device, and else 0
abbrev pub device_failures : Fault → ℕ
device_failures NotUtf8 = 0
device_failures Memory = 0
device_failures Device = 1

-- a fault of a call that uses no device
abbrev pub IsRefusal : Fault → Type 0
IsRefusal NotUtf8 = ⊥
IsRefusal Memory = Unit {0}
IsRefusal Device = ⊥

-- a fault of a call that reads bytes
abbrev pub IsReadFault : Fault → Type 0
IsReadFault NotUtf8 = ⊥
IsReadFault Memory = Unit {0}
IsReadFault Device = Unit {0}

-- how many failures of its device a call reports
abbrev pub reported_failures : {T : Type 0} → Result T Fault → ℕ
reported_failures (Ok x) = 0
reported_failures (Err e) = device_failures e

-- known bytes lose some prefix
abbrev pub ConsumesBeginning : Option (List ℕ) → Option (List ℕ) → Type 0
ConsumesBeginning old new = (bs : List ℕ) × Consumes old new bs

-- known bytes grow by a prefix of bs that is not the whole
abbrev pub AppendsBeginning : Option (List ℕ) → Option (List ℕ) → List ℕ → Type 0
AppendsBeginning old new bs = (n : ℕ) × (n < length bs) × Appends old new (take n bs)
