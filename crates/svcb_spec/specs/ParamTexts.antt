-- The text of a parameter, as the octets of one token, and of parameters (RFC 9460, section 2.1).
use Rattle.std.specs.Prelude.{ℕ, ◌+◌, ◌==◌, Bool, ◌&&◌, ◌||◌, not, nat_le, if◌then◌else◌, List, [], ◌∷◌, ◌++◌, length, drop, Some, None, Result, Ok, Err}
use Rattle.std.specs.List.{take_while, list_all, list_any}
use Rattle.std.specs.Option.{ok_or}
use Rattle.std.specs.Char.{is_ascii_digit}
use Rattle.registry.specs.Keys.{parameter_keys}
use Rattle.registry.specs.Tables.{number_of}
use Rattle.registry.specs.Texts.{generic_key}
use Rattle.svcb_spec.specs.Params.{Pairs}
use Rattle.svcb_spec.specs.Values.{Value, Mandatory, encode, key_of}
use Rattle.text_spec.specs.declared.errors.ScanError.{ScanError}
use Rattle.text_spec.specs.declared.errors.ScanError.TheVariants.{EmptyParam, BadKeyChar, UnknownKey, DuplicateKey, MandatoryMissing}
use Rattle.text_spec.specs.declared.lexeme.Symbol.{Symbol}
use Rattle.text_spec.specs.Scanning.{Scanned, Scanning, octets_of, scan_then, done, refused}
use Rattle.svcb_spec.specs.ListTexts.{◌>>=◌}
use Rattle.svcb_spec.specs.ValueTexts.{value_of_text, opaque_value}

-- ---- one parameter

-- what stands before the first `=`, or all
abbrev pub key_text : List ℕ → List ℕ
key_text token = take_while (λ c. not (c == 61)) token

-- what stands behind it
abbrev pub value_text : List ℕ → List ℕ
value_text token = drop (length (key_text token) + 1) token

-- `a` to `z`, `0` to `9` and `-`
abbrev pub is_key_octet : ℕ → Bool
is_key_octet c = (nat_le 97 c && nat_le c 122) || is_ascii_digit c || (c == 45)

-- behind a mnemonic a value of the key's type, behind `key` and a number any octets
abbrev pub value_behind : List ℕ → List ℕ → Result Value ScanError
value_behind key text = elim (number_of parameter_keys key) [
  | Some n ↦ value_of_text n text
  | None ↦ ok_or (generic_key key) UnknownKey >>= λ n. opaque_value n text
]

-- the value that a token's octets spell, or their first fault
abbrev pub spells : List ℕ → Result Value ScanError
spells token =
    if length token == 0 then Err EmptyParam
    else if not (list_all is_key_octet (key_text token)) then Err BadKeyChar
    else value_behind (key_text token) (value_text token)

-- ---- parameters

-- whether a value of the key was spelled before
abbrev pub has_key : List Value → ℕ → Bool
has_key values key = list_any (λ value. key_of value == key) values

-- the keys that a list of mandatory keys names
abbrev pub mandatory_keys : Value → List ℕ
mandatory_keys (Mandatory keys) = keys
mandatory_keys value = []

-- each key that a list of mandatory keys names is the key of some value
abbrev pub are_mandatory_there : List Value → Bool
are_mandatory_there values =
    list_all (λ value. list_all (has_key values) (mandatory_keys value)) values

-- a pair among others, by ascending keys
abbrev pub insert_pair : ℕ × List ℕ → Pairs → Pairs
insert_pair pair [] = pair ∷ []
insert_pair pair (other ∷ pairs) = if nat_le pair.0 other.0 then pair ∷ other ∷ pairs
    else other ∷ insert_pair pair pairs

-- the map of values of different keys
abbrev pub map_of : List Value → Pairs
map_of [] = []
map_of (value ∷ values) = insert_pair (key_of value, encode value) (map_of values)

-- Each token left spells a value of another key. A fault stands before its token.
abbrev pub values_at : List Value → List (List Symbol) → ℕ → Scanned (List Value)
values_at before [] place = done before place
values_at before (token ∷ tokens) place = elim (spells (octets_of token)) [
  | Err fault ↦ refused fault place
  | Ok value ↦
      if has_key before (key_of value) then refused DuplicateKey place
      else values_at (before ++ value ∷ []) tokens (place + 1)
]

-- the map that the tokens left spell, in any order, or the first fault
abbrev pub params_of : List (List Symbol) → ℕ → Scanned Pairs
params_of tokens place = scan_then (values_at [] tokens place) (λ values end.
    if are_mandatory_there values then done (map_of values) end else refused MandatoryMissing end)

-- all tokens left as parameters
abbrev pub params : Scanning Pairs
params tokens place = params_of (drop place tokens) place
