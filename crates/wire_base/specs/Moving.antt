-- Where a parser stands and what a target holds after a call.
use Rattle.std.specs.Prelude.{◌≡◌, ℕ, ◌+◌, ◌≤◌, ◌<◌, List, ◌++◌, Result, OnOk, OnErr, vec_len, vec_capacity}
use Rattle.std.specs.declared.vec.Vec.{Vec}
use Rattle.wire_base.specs.Input.{Input}

-- The next `len` octets are taken: the parser then stands behind them, within its data. Refused
-- exactly where fewer remain; the parser then stays.
pub record TakesOctets {X E : Type 0} (old new : Input) (len : ℕ)
    (result : Result X E) : Type 0 where
  pub ok : OnOk result (new ≡ record old { pos = old.pos + len })
  pub within : OnOk result (old.pos + len ≤ old.end)
  pub short : OnErr result (old.end < old.pos + len)
  pub err : OnErr result (new ≡ old)

-- All octets before the end of the data are taken. Where they are refused, the parser stays.
pub record TakesAll {X E : Type 0} (old new : Input) (result : Result X E) : Type 0 where
  pub ok : OnOk result (new ≡ record old { pos = old.end })
  pub err : OnErr result (new ≡ old)

-- Octets are appended. Where they are not, the target stays.
pub record AppendsOctets {X E : Type 0} (old new octets : List ℕ)
    (result : Result X E) : Type 0 where
  pub ok : OnOk result (new ≡ old ++ octets)
  pub err : OnErr result (new ≡ old)

-- a vector has no room for so many octets more
abbrev pub LacksRoom : {Z : Type 0} → Vec ℕ Z → ℕ → Type 0
LacksRoom target len = vec_capacity target < vec_len target + len
