-- Octets in base16, and record data of any type as text (RFC 3597, section 5).
use Rattle.std.specs.Prelude.{ℕ, Bool, true, false, List, [], ◌∷◌, ◌++◌, length, codes}
use Rattle.std.specs.Fmt.{decimal}
use Rattle.hex.specs.Hex.{encode_upper, encode_lower}

-- octets in base16, in upper case or in lower case
abbrev pub base16_in : Bool → List ℕ → List ℕ
base16_in true octets = encode_upper octets
base16_in false octets = encode_lower octets

-- octets in base16 behind a space; nothing where there are none
abbrev pub base16_behind : List ℕ → List ℕ
base16_behind [] = []
base16_behind (octet ∷ octets) = codes " " ++ encode_upper (octet ∷ octets)

-- the marker, the count of octets, and the octets
abbrev pub unknown_text : List ℕ → List ℕ
unknown_text octets = codes "\\# " ++ decimal (length octets) ++ base16_behind octets
