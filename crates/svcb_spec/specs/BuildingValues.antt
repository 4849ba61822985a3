-- What making a value of its items answers, and which protocols are items.
use Rattle.std.specs.Prelude.{◌≡◌, ℕ, ◌<◌, ◌≤◌, Result, Ok, Err}
use Rattle.registry.specs.declared.errors.BuildValueError.{BuildValueError}
use Rattle.registry.specs.declared.errors.BuildValueError.TheVariants.{LongSvcParam, ShortBuf, EmptyValue, NoMemory}

-- A value of so many octets: it is made where they are at most 65,535, unless allocation fails, and
-- else refused as too long. There is no other error.
abbrev pub IsBuilt : {X : Type 0} → Result X BuildValueError → ℕ → Type 0
IsBuilt (Ok value) len = len ≤ 65535
IsBuilt (Err LongSvcParam) len = 65535 < len
IsBuilt (Err NoMemory) len = len ≤ 65535
IsBuilt (Err ShortBuf) len = ⊥
IsBuilt (Err EmptyValue) len = ⊥

-- The same of a value that is to have at least one item: it is refused as empty exactly where it
-- has no octets.
abbrev pub IsBuiltNotEmpty : {X : Type 0} → Result X BuildValueError → ℕ → Type 0
IsBuiltNotEmpty (Ok value) len = (0 < len) × (len ≤ 65535)
IsBuiltNotEmpty (Err LongSvcParam) len = 65535 < len
IsBuiltNotEmpty (Err NoMemory) len = (0 < len) × (len ≤ 65535)
IsBuiltNotEmpty (Err EmptyValue) len = len ≡ 0
IsBuiltNotEmpty (Err ShortBuf) len = ⊥

-- a protocol has 1 to 255 octets (RFC 7301, section 3.1)
pub record IsProtocolLength (len : ℕ) : Type 0 where
  pub not_empty : 0 < len
  pub fits : len ≤ 255
