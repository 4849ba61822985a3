-- The count of the calls of a device that move no octet.
use Rattle.std.specs.Prelude.{◌≡◌, ℕ, ◌+◌, ◌<◌, ◌≤◌, IfOk, OnErr, Result}
use Rattle.devices.specs.Counters.{one_more}

-- a call that moves octets leaves the count, and any other raises it by one at most
pub record CountsEmpty {E : Type 0} (before now : ℕ) (result : Result ℕ E) : Type 0 where
  pub moved : IfOk result (λ count. 0 < count → now ≡ before)
  pub once : now ≤ before + 1

-- the same of a device that counts each: a call that moves no octet raises the count by one
pub record CountsEachEmpty {E : Type 0} (before now : ℕ) (result : Result ℕ E) : Type 0 where
  pub moved : IfOk result (λ count. 0 < count → now ≡ before)
  pub idle : IfOk result (λ count. count ≡ 0 → now ≡ one_more before)
  pub failed : OnErr result (now ≡ one_more before)
