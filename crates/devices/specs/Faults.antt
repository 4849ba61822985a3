-- When a device may fail, by its count of faults.
use Rattle.std.specs.Prelude.{◌≡◌, ℕ, ◌≤◌, OnErr, OnOk, Result}
use Rattle.devices.specs.Counters.{one_more}

-- the count is greater than before, or stands at the last value of 64 bits
abbrev pub Rose : ℕ → ℕ → Type 0
Rose before now = one_more before ≤ now

-- the count never falls, a call fails only where it rose, and succeeds only where it stayed
pub record HasCause {T E : Type 0} (before now : ℕ) (result : Result T E) : Type 0 where
  pub later : before ≤ now
  pub failed : OnErr result (Rose before now)
  pub kept : OnOk result (now ≡ before)
