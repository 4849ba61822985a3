-- Octets that are to be a value of a type: the value, or their first fault.
use Rattle.std.specs.Prelude.{ℕ, zero, suc, ◌+◌, ◌-◌, ◌*◌, ◌%◌, Bool, true, false, List, [], ◌∷◌, map, length, take, nat_lt, ◌==◌, if◌then◌else◌, Option, None, Some, Result, Ok, Err}
use Rattle.name_spec.specs.Octets.{Fault, Short, Form}
use Rattle.name_spec.specs.Taking.{Taken}
use Rattle.svcb_spec.specs.Values.{Value, Mandatory, Alpn, NoDefaultAlpn, Port, Ipv4Hint, Ech, Ipv6Hint, DohPath, Ohttp, TlsSupportedGroups, Unknown}

-- ---- items in octets

-- the number that octets spell, the high one first
abbrev pub number_behind : ℕ → List ℕ → ℕ
number_behind n [] = n
number_behind n (octet ∷ octets) = number_behind (n * 256 + octet) octets

abbrev pub octets_number : List ℕ → ℕ
octets_number = number_behind 0

-- the parts of `len` octets each behind the next `skip` octets
abbrev pub parts_behind : ℕ → ℕ → List ℕ → List (List ℕ)
parts_behind len skip [] = []
parts_behind len zero (octet ∷ octets) =
    take len (octet ∷ octets) ∷ parts_behind len (len - 1) octets
parts_behind len (suc skip) (octet ∷ octets) = parts_behind len skip octets

abbrev pub parts : ℕ → List ℕ → List (List ℕ)
parts len = parts_behind len 0

-- numbers of 16 bits
abbrev pub numbers : List ℕ → List ℕ
numbers octets = map octets_number (parts 2 octets)

-- the protocols behind the next `skip` octets, each of which stands behind its length
abbrev pub protocols_behind : ℕ → List ℕ → List (List ℕ)
protocols_behind skip [] = []
protocols_behind zero (len ∷ octets) = take len octets ∷ protocols_behind len octets
protocols_behind (suc skip) (octet ∷ octets) = protocols_behind skip octets

abbrev pub protocols : List ℕ → List (List ℕ)
protocols = protocols_behind 0

-- whether the next `skip` octets are there, and only whole protocols behind them
abbrev pub are_whole_behind : ℕ → List ℕ → Bool
are_whole_behind zero [] = true
are_whole_behind (suc skip) [] = false
are_whole_behind zero (len ∷ octets) = are_whole_behind len octets
are_whole_behind (suc skip) (octet ∷ octets) = are_whole_behind skip octets

abbrev pub are_whole : List ℕ → Bool
are_whole = are_whole_behind 0

-- ---- first faults

-- more than 65,535 octets are no value
abbrev pub long_fault : List ℕ → Option Fault
long_fault octets = if nat_lt 65535 (length octets) then Some Form else None

-- octets that are to be parts of `len` octets each
abbrev pub parts_fault : ℕ → List ℕ → Option Fault
parts_fault len octets =
    if nat_lt 65535 (length octets) then Some Form
    else if length octets % len == 0 then None
    else Some Form

-- octets that are to be at least one number
abbrev pub groups_fault : List ℕ → Option Fault
groups_fault octets = if length octets == 0 then Some Form else parts_fault 2 octets

-- octets that are to be protocols, the last of which may be cut off
abbrev pub protocols_fault : List ℕ → Option Fault
protocols_fault octets =
    if nat_lt 65535 (length octets) then Some Form
    else if are_whole octets then None
    else Some Short

-- ---- values in octets

-- a value that takes all octets
abbrev pub taking_all : {Seen : Type 0} → List ℕ → Seen → Taken Seen
taking_all octets value = record { value = value; len = length octets }

-- that value, unless the octets have a fault
abbrev pub take_all : {Seen : Type 0} → Option Fault → Seen → List ℕ → Result (Taken Seen) Fault
take_all None value octets = Ok (taking_all octets value)
take_all (Some fault) value octets = Err fault

-- what all octets are as a value of a type: `value` of them, unless they have a `fault`
abbrev pub whole_value : {Seen : Type 0} → (List ℕ → Option Fault) → (List ℕ → Seen) → List ℕ
    → Result (Taken Seen) Fault
whole_value fault value octets = take_all (fault octets) (value octets) octets

-- a port takes two octets
abbrev pub take_port : List ℕ → Result (Taken Value) Fault
take_port octets =
    if nat_lt (length octets) 2 then Err Short
    else Ok (record { value = Port (octets_number (take 2 octets)); len = 2 })

-- what octets begin with: a value of the key's type, or all of them where the key has none
abbrev pub take_value : ℕ → List ℕ → Result (Taken Value) Fault
take_value key octets =
    if key == 0 then take_all (parts_fault 2 octets) (Mandatory (numbers octets)) octets
    else if key == 1 then take_all (protocols_fault octets) (Alpn (protocols octets)) octets
    else if key == 2 then Ok (record { value = NoDefaultAlpn; len = 0 })
    else if key == 3 then take_port octets
    else if key == 4 then take_all (parts_fault 4 octets) (Ipv4Hint (parts 4 octets)) octets
    else if key == 5 then take_all (long_fault octets) (Ech octets) octets
    else if key == 6 then take_all (parts_fault 16 octets) (Ipv6Hint (parts 16 octets)) octets
    else if key == 7 then take_all (long_fault octets) (DohPath octets) octets
    else if key == 8 then Ok (record { value = Ohttp; len = 0 })
    else if key == 9
    then take_all (groups_fault octets) (TlsSupportedGroups (numbers octets)) octets
    else take_all (long_fault octets) (Unknown key octets) octets

-- what octets wholly are: octets left behind a value are a fault
abbrev pub whole_taken : {Seen : Type 0} → List ℕ → Result (Taken Seen) Fault → Result Seen Fault
whole_taken octets (Ok taken) = if nat_lt taken.len (length octets) then Err Form
    else Ok taken.value
whole_taken octets (Err fault) = Err fault

-- the value that octets wholly are under a key, and else the octets as they stand
abbrev pub or_unknown : ℕ → List ℕ → Result Value Fault → Value
or_unknown key octets (Ok value) = value
or_unknown key octets (Err fault) = Unknown key octets

abbrev pub value_in : ℕ → List ℕ → Value
value_in key octets = or_unknown key octets (whole_taken octets (take_value key octets))
