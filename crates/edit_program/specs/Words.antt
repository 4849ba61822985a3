-- The words of the command line.
use Rattle.std.specs.Prelude.{ℕ, nat_le, ◌&&◌, Option, Some, None, List, [], ◌∷◌, length, take, drop, if◌then◌else◌, codes, map, string_bytes}
use Rattle.std.specs.Option.{option_map}
use Rattle.std.specs.Str.{bytes_eq}
use Rattle.std.specs.declared.string.String.{String}
use Rattle.input_lines.specs.Numbers.{decimal_number, max_u16}
use Rattle.input_lines.specs.Options.{◌>>=◌}
use Rattle.edit_program.specs.declared.generate.TheConstants.{MAX_PARAMS}
use Rattle.edit_program.specs.declared.words.Command.{Command}
use Rattle.edit_program.specs.declared.words.Command.TheVariants.{Edit, Show, Scan, Gen, Choose, Cds, Zonemd}

-- a command, where no word follows its name
abbrev pub command_alone : Command → List (List ℕ) → Option Command
command_alone command [] = Some command
command_alone command (word ∷ more) = None

-- one to so many digits of a number within bounds
abbrev pub number_within : ℕ → ℕ → ℕ → List ℕ → Option ℕ
number_within digits least greatest word =
    if nat_le (length word) digits
    then (decimal_number word >>= λ n. if nat_le least n && nat_le n greatest then Some n else None)
    else None

-- the number of the record type that `type` and one to five digits name
abbrev pub numbered_type : List ℕ → Option ℕ
numbered_type word =
    if bytes_eq (take 4 word) (codes "type") then number_within 5 0 max_u16 (drop 4 word) else None

-- The number of the record type that a word names: its mnemonic in the registry of resource record
-- types in lower case, or any number.
unfoldable pub type_of : List ℕ → Option ℕ
type_of word =
    if bytes_eq word (codes "a") then Some 1
    else if bytes_eq word (codes "aaaa") then Some 28
    else if bytes_eq word (codes "sshfp") then Some 44
    else if bytes_eq word (codes "ipseckey") then Some 45
    else if bytes_eq word (codes "tlsa") then Some 52
    else if bytes_eq word (codes "cds") then Some 59
    else if bytes_eq word (codes "cdnskey") then Some 60
    else if bytes_eq word (codes "openpgpkey") then Some 61
    else if bytes_eq word (codes "zonemd") then Some 63
    else if bytes_eq word (codes "svcb") then Some 64
    else if bytes_eq word (codes "https") then Some 65
    else numbered_type word

-- the number of the record type that the only word names
abbrev pub only_type : List (List ℕ) → Option ℕ
only_type (word ∷ []) = type_of word
only_type words = None

-- one to four digits of a number from 1 to `MAX_PARAMS`
abbrev pub count_of : List ℕ → Option ℕ
count_of word = number_within 4 1 MAX_PARAMS word

-- the count that the only word gives
abbrev pub only_count : List (List ℕ) → Option ℕ
only_count (word ∷ []) = count_of word
only_count words = None

-- the command of a name and of the words behind it
abbrev pub command_named : List ℕ → List (List ℕ) → Option Command
command_named name more =
    if bytes_eq name (codes "edit") then command_alone Edit more
    else if bytes_eq name (codes "show") then option_map Show (only_type more)
    else if bytes_eq name (codes "scan") then option_map Scan (only_type more)
    else if bytes_eq name (codes "gen") then option_map Gen (only_count more)
    else if bytes_eq name (codes "choose") then command_alone Choose more
    else if bytes_eq name (codes "cds") then command_alone Cds more
    else if bytes_eq name (codes "zonemd") then command_alone Zonemd more
    else None

-- the command that the texts of the words name
abbrev pub command_of_texts : List (List ℕ) → Option Command
command_of_texts [] = None
command_of_texts (name ∷ more) = command_named name more

-- the command that the words name
abbrev pub command_of : {A : Type 0} → List (String A) → Option Command
command_of words = command_of_texts (map string_bytes words)
