-- Octets as text, in a name or not.
use Rattle.std.specs.Prelude.{ℕ, Bool, true, false, ◌&&◌, not}
use Rattle.name_spec.specs.Printed.{is_special, is_special_in_name, is_visible}

-- which octets stand behind a backslash
abbrev pub specials : Bool → ℕ → Bool
specials false = is_special
specials true = is_special_in_name

-- an octet that is printed as itself
abbrev pub is_bare : Bool → ℕ → Bool
is_bare in_name octet = is_visible octet && not (specials in_name octet)
