-- What octets are as a weight.
use Rattle.std.specs.Prelude.{ℕ, List, length, nat_lt, slice_index, Result, Ok, Err, if◌then◌else◌}
use Rattle.hollywhist.specs.Octets.{Fault, Short}
use Rattle.hollywhist.specs.Taking.{Taken}

-- the first octet; what stands behind it is left
abbrev pub weight_in : List ℕ → Result (Taken ℕ) Fault
weight_in octets = if nat_lt (length octets) 1 then Err Short
    else Ok (record { value = slice_index octets 0; len = 1 })
