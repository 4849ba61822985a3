-- What the calls on records of any type answer.
use Rattle.std.specs.Prelude.{◌≡◌, ℕ, ◌+◌, Bool, ◌==◌, List, [], ◌∷◌, length, Result, Ok, Err, nat_lt, if◌then◌else◌}
use Rattle.std.specs.List.{list_any}
use Rattle.std.specs.declared.cmp.Ordering.{Ordering}
use Rattle.std.specs.declared.cmp.Ordering.TheVariants.{Less, Equal, Greater}
use Rattle.name_spec.specs.Octets.{Fault}
use Rattle.name_spec.specs.CanonicalOrder.{canonical_order}
use Rattle.text_spec.specs.declared.errors.ScanError.{ScanError}
use Rattle.record_spec.specs.RecordData.{RecordData, rtype_of, union_wire}
use Rattle.record_spec.specs.UnionTexts.{union_scan, union_printed}
use Rattle.rdata_union.specs.WholeData.{data_in}
use Rattle.input_lines.specs.Tokens.{entry_scanned}
use Rattle.svcb_c.specs.Statuses.{fault_status, scan_fault_status}
use Rattle.svcb_c.specs.declared.status.TheConstants.{HW_OK, HW_E_PLACE, HW_E_TYPE}

-- ---- types

-- The types whose data has names that are compressed or compared in lower case (RFC 3597, section
-- 4; RFC 4034, section 6.2, without HINFO and NSEC by RFC 6840, section 5.1), and that have no
-- fields here: NS, MD, MF, CNAME, SOA, MB, MG, MR, PTR, MINFO, MX, RP, AFSDB, RT, SIG, PX, NXT, SRV,
-- NAPTR, KX, A6, DNAME, RRSIG.
abbrev pub types_with_names : List ℕ
types_with_names =
    2 ∷ 3 ∷ 4 ∷ 5 ∷ 6 ∷ 7 ∷ 8 ∷ 9 ∷ 12 ∷ 14 ∷ 15 ∷ 17 ∷ 18 ∷ 21 ∷ 24 ∷ 26 ∷ 30 ∷ 33 ∷ 35 ∷ 36 ∷
    38 ∷ 39 ∷ 46 ∷ []

abbrev pub has_unread_names : ℕ → Bool
has_unread_names rtype = list_any (λ other. other == rtype) types_with_names

-- ---- texts

-- the text of data, or the status of its fault
abbrev pub text_of_data : Result RecordData Fault → Result (List ℕ) ℕ
text_of_data (Ok found) = Ok (union_printed found)
text_of_data (Err fault) = Err (fault_status fault)

-- the text of the record data in the `len` octets from `start` on
abbrev pub text_due : ℕ → List ℕ → ℕ → ℕ → Result (List ℕ) ℕ
text_due rtype message start len =
    if nat_lt (length message) (start + len) then Err HW_E_PLACE
    else if has_unread_names rtype then Err HW_E_TYPE
    else text_of_data (data_in rtype message start len)

-- ---- scanning

-- the octets of data that was scanned, or the status of its fault
abbrev pub octets_scanned : Result RecordData ScanError → Result (List ℕ) ℕ
octets_scanned (Ok found) = Ok (union_wire found)
octets_scanned (Err fault) = Err (scan_fault_status fault)

-- the octets of the record data that the text of an entry spells
abbrev pub octets_due : ℕ → List ℕ → Result (List ℕ) ℕ
octets_due rtype text = octets_scanned (entry_scanned (union_scan rtype) text)

-- ---- comparing

abbrev pub order_number : Ordering → ℕ
order_number Less = 0
order_number Equal = 1
order_number Greater = 2

-- all octets as record data
abbrev pub data_of_octets : ℕ → List ℕ → Result RecordData Fault
data_of_octets rtype octets = data_in rtype octets 0 (length octets)

-- the order of data by the numbers of their types, and then by their octets in canonical form
abbrev pub data_order : RecordData → RecordData → ℕ
data_order found other = order_number
    (canonical_order (rtype_of found) (union_wire found) (rtype_of other) (union_wire other))

-- the number of their order, or the first fault of the first data, or else of the second
abbrev pub order_of_data : Result RecordData Fault → Result RecordData Fault → Result ℕ ℕ
order_of_data (Ok found) (Ok other) = Ok (data_order found other)
order_of_data (Ok found) (Err fault) = Err (fault_status fault)
order_of_data (Err fault) second = Err (fault_status fault)

abbrev pub order_due : ℕ → List ℕ → List ℕ → Result ℕ ℕ
order_due rtype first second =
    if has_unread_names rtype then Err HW_E_TYPE
    else order_of_data (data_of_octets rtype first) (data_of_octets rtype second)

abbrev pub order_status : Result ℕ ℕ → ℕ
order_status (Ok order) = HW_OK
order_status (Err status) = status

abbrev pub IsOrder : Result ℕ ℕ → ℕ → Type 0
IsOrder (Ok order) told = told ≡ order
IsOrder (Err status) told = ⊥
