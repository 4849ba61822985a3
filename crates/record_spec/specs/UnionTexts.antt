-- The texts of the data of records, scanned and printed.
use Rattle.std.specs.Prelude.{ℕ, ◌+◌, ◌==◌, nat_lt, if◌then◌else◌, List, length}
use Rattle.name_spec.specs.Addresses.{ipv4_text, ipv6_text}
use Rattle.wire_records.specs.Texts.{unknown_text}
use Rattle.text_spec.specs.declared.errors.ScanError.TheVariants.{UnknownType, TrailingTokens}
use Rattle.text_spec.specs.Scanning.{Scanning, scan_then, done, refused, is_marked}
use Rattle.text_spec.specs.Rows.{ipv4_address, ipv6_address, unknown_data}
use Rattle.record_spec.specs.Rows.{sshfp, tlsa, cds, cdnskey, openpgpkey, zonemd}
use Rattle.record_spec.specs.Texts.{scan_data, fields_printed}
use Rattle.record_spec.specs.IpseckeyTexts.{scan_ipseckey, ipseckey_printed}
use Rattle.svcb_spec.specs.DataTexts.{svcb_data}
use Rattle.svcb_spec.specs.DataTexts as svcb
use Rattle.record_spec.specs.RecordData.{RecordData, A, Aaaa, Sshfp, Ipseckey, Tlsa, Cds, Cdnskey, Openpgpkey, Zonemd, Svcb, Https, Unknown}

-- ---- scanned

-- what is scanned, as data of its type
abbrev pub scan_as : {V : Type 0} → (V → RecordData) → Scanning V → Scanning RecordData
scan_as type scanning tokens place =
    scan_then (scanning tokens place) (λ found after. done (type found) after)

-- octets, as data of a type number
abbrev pub octets_under : ℕ → List ℕ → RecordData
octets_under rtype octets = Unknown (record { rtype = rtype; octets = octets })

-- the fields of the type with that number; a number without fields is refused before a token is
-- taken
abbrev pub scan_fields : ℕ → Scanning RecordData
scan_fields rtype tokens place =
    if rtype == 1 then scan_as A ipv4_address tokens place
    else if rtype == 28 then scan_as Aaaa ipv6_address tokens place
    else if rtype == 44 then scan_as Sshfp (scan_data sshfp) tokens place
    else if rtype == 45 then scan_as Ipseckey scan_ipseckey tokens place
    else if rtype == 52 then scan_as Tlsa (scan_data tlsa) tokens place
    else if rtype == 59 then scan_as Cds (scan_data cds) tokens place
    else if rtype == 60 then scan_as Cdnskey (scan_data cdnskey) tokens place
    else if rtype == 61 then scan_as Openpgpkey (scan_data openpgpkey) tokens place
    else if rtype == 63 then scan_as Zonemd (scan_data zonemd) tokens place
    else if rtype == 64 then scan_as Svcb svcb_data tokens place
    else if rtype == 65 then scan_as Https svcb_data tokens place
    else refused UnknownType place

-- behind the marker octets, whatever the number; else the fields (RFC 3597, section 5)
abbrev pub scan_any : ℕ → Scanning RecordData
scan_any rtype tokens place =
    if is_marked tokens place then scan_as (octets_under rtype) unknown_data tokens (place + 1)
    else scan_fields rtype tokens place

-- nothing may be left behind the data
abbrev pub at_end : RecordData → Scanning RecordData
at_end found tokens end = if nat_lt end (length tokens) then refused TrailingTokens end
    else done found end

-- the data that all tokens left spell under a type number
abbrev pub union_scan : ℕ → Scanning RecordData
union_scan rtype tokens place =
    scan_then (scan_any rtype tokens place) (λ found end. at_end found tokens end)

-- ---- printed

abbrev pub union_printed : RecordData → List ℕ
union_printed (A address) = ipv4_text address
union_printed (Aaaa address) = ipv6_text address
union_printed (Sshfp found) = fields_printed sshfp found
union_printed (Ipseckey found) = ipseckey_printed found
union_printed (Tlsa found) = fields_printed tlsa found
union_printed (Cds found) = fields_printed cds found
union_printed (Cdnskey found) = fields_printed cdnskey found
union_printed (Openpgpkey found) = fields_printed openpgpkey found
union_printed (Zonemd found) = fields_printed zonemd found
union_printed (Svcb found) = svcb.svcb_printed found
union_printed (Https found) = svcb.svcb_printed found
union_printed (Unknown found) = unknown_text found.octets
