-- Key tags (RFC 4034, appendix B).
use Rattle.std.specs.Prelude.{ℕ, ◌+◌, ◌*◌, ◌/◌, ◌%◌, Bool, true, false, List, [], ◌∷◌}
use Rattle.digest_rdata.specs.declared.cdnskey.CdnskeyFields.{CdnskeyFields}
use Rattle.digest_rdata.specs.FieldsView.{FieldsView, data_of}
use Rattle.record_spec.specs.Rows.{cdnskey}
use Rattle.record_spec.specs.Wire.{data_wire}

-- the octets of a CDNSKEY's data: flags, protocol, algorithm, public key (RFC 7344, section 3.2)
abbrev pub key_octets : FieldsView CdnskeyFields → List ℕ
key_octets key =
    data_wire cdnskey
    (data_of (λ fields. fields.flags ∷ fields.protocol ∷ fields.algorithm ∷ []) key)

-- the sum of octets, each at an even place taken 256 times; `is_even` says whether the first is at
-- such a place
abbrev pub octet_sum : Bool → List ℕ → ℕ
octet_sum is_even [] = 0
octet_sum true (octet ∷ octets) = 256 * octet + octet_sum false octets
octet_sum false (octet ∷ octets) = octet + octet_sum true octets

-- the low 16 bits of a sum with its carry added
abbrev pub with_carry : ℕ → ℕ
with_carry sum = (sum + sum / 65536) % 65536

-- the key tag of a key; places count from 0
unfoldable pub key_tag : FieldsView CdnskeyFields → ℕ
key_tag key = with_carry (octet_sum true (key_octets key))
