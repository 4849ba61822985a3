-- Why an input is not read.
use Rattle.std.specs.Prelude.{◌≡◌, ℕ, ◌≤◌, IfErr, OnOk, Result}
use Rattle.devices.specs.Faults.{Rose}
use Rattle.devices.specs.declared.transfer.ReadError.{ReadError}
use Rattle.devices.specs.declared.transfer.ReadError.TheVariants.{Failed, NoMemory}

-- the source failed, and its count of faults rose; or allocation failed, and the count stayed
abbrev pub ReadCause : ReadError → ℕ → ℕ → Type 0
ReadCause Failed before now = Rose before now
ReadCause NoMemory before now = now ≡ before

-- the source's count of faults never falls, it rose where the source failed, and else it stayed
pub record HasReadCause {T : Type 0} (before now : ℕ) (result : Result T ReadError) : Type 0 where
  pub later : before ≤ now
  pub failed : IfErr result (λ error. ReadCause error before now)
  pub kept : OnOk result (now ≡ before)
