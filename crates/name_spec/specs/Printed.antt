-- How octets and names are printed (RFC 1035, section 5.1). Which octets stand behind a backslash
-- is this project's own.
use Rattle.std.specs.Prelude.{ℕ, ◌+◌, ◌/◌, ◌%◌, Bool, ◌&&◌, ◌||◌, nat_lt, ◌==◌, if◌then◌else◌, List, [], ◌∷◌, ◌++◌}
use Rattle.std.specs.List.{flat_map}

-- how an octet is written: as itself, behind a backslash, or as a backslash and three decimal
-- digits
pub data Written : Type 0 where
  Plain : (octet : ℕ) → Written
  Escaped : (octet : ℕ) → Written
  Decimal : (octet : ℕ) → Written

-- the text of an octet that is written so
abbrev pub octet_text : Written → List ℕ
octet_text (Plain octet) = octet ∷ []
octet_text (Escaped octet) = 92 ∷ octet ∷ []
octet_text (Decimal octet) =
    92 ∷ (48 + octet / 100) ∷ (48 + octet / 10 % 10) ∷ (48 + octet % 10) ∷ []

-- space, `"`, `\`, `;`, `(` and `)`, which are printed behind a backslash
abbrev pub is_special : ℕ → Bool
is_special c = (c == 32) || (c == 34) || (c == 92) || (c == 59) || (c == 40) || (c == 41)

-- in a name `.` too
abbrev pub is_special_in_name : ℕ → Bool
is_special_in_name c = is_special c || (c == 46)

-- an octet of printable ASCII other than space
abbrev pub is_visible : ℕ → Bool
is_visible c = nat_lt 32 c && nat_lt c 127

-- how an octet is printed, where some stand behind a backslash
unfoldable pub printed_as : (ℕ → Bool) → ℕ → Written
printed_as special c = if special c then Escaped c else if is_visible c then Plain c else Decimal c

-- the text of an octet
abbrev pub printed_octet : (ℕ → Bool) → ℕ → List ℕ
printed_octet special c = octet_text (printed_as special c)

-- the text of octets
abbrev pub printed_octets : List ℕ → List ℕ
printed_octets octets = flat_map (printed_octet is_special) octets

-- the text of a label
abbrev pub printed_label : List ℕ → List ℕ
printed_label label = flat_map (printed_octet is_special_in_name) label

-- the text of labels, with a dot between two of them
abbrev pub printed_labels : List (List ℕ) → List ℕ
printed_labels [] = []
printed_labels (label ∷ []) = printed_label label
printed_labels (label ∷ next ∷ labels) = printed_label label ++ 46 ∷ printed_labels (next ∷ labels)

-- the text of a name; the root is a dot
abbrev pub printed_name : List (List ℕ) → List ℕ
printed_name [] = 46 ∷ []
printed_name (label ∷ labels) = printed_labels (label ∷ labels)

-- the text of a name with its final dot; the root is a dot
abbrev pub printed_name_with_dot : List (List ℕ) → List ℕ
printed_name_with_dot [] = 46 ∷ []
printed_name_with_dot (label ∷ labels) = flat_map (λ l. printed_label l ++ 46 ∷ []) (label ∷ labels)
