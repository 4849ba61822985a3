-- The records that tie a name to keys, digests and certificates. Their data has one form: numbers
-- in fixed fields, and a last field that takes the rest. IPSECKEY alone has another
-- (`Ipseckeys.antt`).
use Rattle.std.specs.Prelude.{ℕ, ◌+◌, ◌≤◌, ◌<◌, ◌^◌, Bool, true, false, Option, Some, None, List, [], ◌∷◌, length, codes}
use Rattle.name_spec.specs.AddressLaws.{AreOctets}
use Rattle.registry.specs.Tables.{mnemonic_of}
use Rattle.key_registry.specs.Tables.{security_algorithms, digest_algorithms, tlsa_selectors, tlsa_matching_types, zonemd_schemes, zonemd_algorithms}
use Rattle.text_spec.specs.Documents.{number_comment}
use Rattle.record_spec.specs.declared.Encoding.{Encoding}
use Rattle.record_spec.specs.declared.Encoding.TheVariants.{Base16, Base64}

-- ---- the form

-- a fixed field: how many octets its number has, and the comment that stands behind the number in a
-- layout, if any
pub record Field : Type 0 where
  pub width : ℕ
  pub comment : ℕ → Option (List ℕ)

-- A type of record: its number, its fixed fields, the fewest octets of the last field that reading
-- takes, how the last field is written, and whether `Display` writes it in brackets.
pub record Row : Type 0 where
  pub rtype : ℕ
  pub fields : List Field
  pub least : ℕ
  pub encoding : Encoding
  pub in_brackets : Bool

-- the data of a record: the numbers of the fixed fields, and the octets of the last field
pub record Data : Type 0 where
  pub numbers : List ℕ
  pub last : List ℕ

-- the count of octets of fixed fields
abbrev pub fixed_len : List Field → ℕ
fixed_len [] = 0
fixed_len (field ∷ fields) = field.width + fixed_len fields

-- the count of octets of the data
abbrev pub data_len : Row → Data → ℕ
data_len row found = fixed_len row.fields + length found.last

-- each field has a number that fits
abbrev pub AreNumbers : List Field → List ℕ → Type 0
AreNumbers [] [] = Unit {0}
AreNumbers [] (n ∷ numbers) = ⊥
AreNumbers (field ∷ fields) [] = ⊥
AreNumbers (field ∷ fields) (n ∷ numbers) = (n < 256 ^ field.width) × AreNumbers fields numbers

-- what data of a type is: numbers that fit, octets, and at most 65,535 octets in all
pub record IsAssociationData (row : Row) (found : Data) : Type 0 where
  pub numbers : AreNumbers row.fields found.numbers
  pub octets : AreOctets found.last
  pub fits : data_len row found ≤ 65535

-- ---- fields

-- a number without a comment
abbrev pub plain_number : ℕ → Field
plain_number width = record { width = width; comment = λ n. None }

-- a number with a comment that is the same for each
abbrev pub number_called : ℕ → List ℕ → Field
number_called width comment = record { width = width; comment = λ n. Some comment }

-- a number of a registry, which its comment names
abbrev pub registry_number : List ℕ → List (ℕ × List ℕ) → Field
registry_number name rows =
    record { width = 1; comment = λ n. Some (number_comment name (mnemonic_of rows n)) }

-- ---- the types

-- key tag, algorithm, digest type, digest (RFC 7344, section 3.1)
abbrev pub cds : Row
cds = record {
  rtype = 59;
  fields = number_called 2 (codes "key tag")
      ∷ registry_number (codes "algorithm") security_algorithms
      ∷ registry_number (codes "digest type") digest_algorithms ∷ [];
  least = 0;
  encoding = Base16;
  in_brackets = false;
}

-- flags, protocol, algorithm, public key (RFC 7344, section 3.2)
abbrev pub cdnskey : Row
cdnskey = record {
  rtype = 60;
  fields = plain_number 2 ∷ plain_number 1
      ∷ registry_number (codes "algorithm") security_algorithms ∷ [];
  least = 0;
  encoding = Base64;
  in_brackets = false;
}

-- algorithm, fingerprint type, fingerprint (RFC 4255, section 3.1)
abbrev pub sshfp : Row
sshfp = record {
  rtype = 44;
  fields = plain_number 1 ∷ plain_number 1 ∷ [];
  least = 0;
  encoding = Base16;
  in_brackets = true;
}

-- certificate usage, selector, matching type, certificate association data (RFC 6698, section 2.1)
abbrev pub tlsa : Row
tlsa = record {
  rtype = 52;
  fields = plain_number 1 ∷ registry_number (codes "selector") tlsa_selectors
      ∷ registry_number (codes "matching type") tlsa_matching_types ∷ [];
  least = 0;
  encoding = Base16;
  in_brackets = true;
}

-- serial, scheme, hash algorithm, digest (RFC 8976, section 2.2)
abbrev pub zonemd : Row
zonemd = record {
  rtype = 63;
  fields = plain_number 4 ∷ registry_number (codes "scheme") zonemd_schemes
      ∷ registry_number (codes "hash algorithm") zonemd_algorithms ∷ [];
  least = 12;
  encoding = Base16;
  in_brackets = true;
}

-- key (RFC 7929, section 2.1)
abbrev pub openpgpkey : Row
openpgpkey = record {
  rtype = 61;
  fields = [];
  least = 0;
  encoding = Base64;
  in_brackets = true;
}
