-- What a constructor of record data answers.
use Rattle.std.specs.Prelude.{◌≡◌, ◌<◌, ◌≤◌, ℕ, Result, IfOk, OnOk, OnErr}

-- the data, where it has at most 65,535 octets, else the error
pub record MakesData {T E : Type 0} (expected : T) (len : ℕ) (result : Result T E) : Type 0 where
  pub made : IfOk result (λ made. made ≡ expected)
  pub ok : OnOk result (len ≤ 65535)
  pub long : OnErr result (65535 < len)
