-- A parameter in octets: a key, the length of a value, and the value (RFC 9460, section 2.2).
use Rattle.std.specs.Prelude.{◌≡◌, ℕ, ◌+◌, ◌<◌, ◌≤◌, List, length, Some, Result, Ok, Err, nat_lt, slice_range, if◌then◌else◌}
use Rattle.name_spec.specs.Octets.{Fault, Short, number_at}
use Rattle.svcb_spec.specs.Values.{Value, Unknown, key_of, encode}
use Rattle.svcb_spec.specs.Params.{pair_wire}
use Rattle.name_spec.specs.Taking.{Taken}

-- the count of a parameter's octets
abbrev pub param_len : Value → ℕ
param_len value = 4 + length (encode value)

-- a parameter's octets
abbrev pub param_wire : Value → List ℕ
param_wire value = pair_wire (key_of value) (Some (encode value))

-- a parameter that is taken
abbrev pub taking_param : Value → Taken Value
taking_param value = record { value = value; len = param_len value }

-- the parameter that octets begin with
abbrev pub take_param : List ℕ → Result (Taken Value) Fault
take_param octets =
    if nat_lt (length octets) 4 then Err Short
    else if nat_lt (length octets) (4 + number_at octets 2) then Err Short
    else Ok (taking_param
    (Unknown (number_at octets 0) (slice_range octets 4 (4 + number_at octets 2))))

-- octets begin with the parameter of a key and a value, and the rest stands behind it
pub record BeginsParameter (octets : List ℕ) (number : ℕ) (held behind : List ℕ) : Type 0 where
  pub key : number ≡ number_at octets 0
  pub len : length held ≡ number_at octets 2
  pub value : held ≡ slice_range octets 4 (4 + length held)
  pub rest : behind ≡ slice_range octets (4 + length held) (length octets)
  pub within : 4 + length held ≤ length octets
  pub in_range : number < 65536
  pub fits : length held < 65536
