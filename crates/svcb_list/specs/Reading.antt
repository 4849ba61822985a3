-- Octets that are a value of a type, as lists of items are.
use Rattle.std.specs.Prelude.{◌≡◌, ℕ, ◌<◌, Bool, true, List, length, Option, is_none}
use Rattle.name_spec.specs.Octets.{Fault}
use Rattle.svcb_spec.specs.Values.{Value, encode}

-- Octets without a fault are whole items, and those of their value. `value`, `fault` and
-- `are_items` are the type's.
pub record HoldsValue (value : List ℕ → Value) (fault : List ℕ → Option Fault)
    (are_items : List ℕ → Bool) (octets : List ℕ) : Type 0 where
  pub sound : is_none (fault octets) ≡ true
  pub whole : are_items octets ≡ true
  pub encodes : encode (value octets) ≡ octets
  pub fits : length octets < 65536
