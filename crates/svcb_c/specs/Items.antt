-- What the calls on the value of a parameter answer.
use Rattle.std.specs.Prelude.{◌≡◌, ℕ, ◌+◌, List, ◌∷◌, length, drop, slice_index, slice_range, Result, Ok, Err, nat_lt, ◌==◌, if◌then◌else◌}
use Rattle.name_spec.specs.Octets.{Fault}
use Rattle.svcb_spec.specs.Values.{Value}
use Rattle.svcb_spec.specs.ReadingValues.{whole_taken, take_value}
use Rattle.svcb_c.specs.Statuses.{fault_status}
use Rattle.svcb_c.specs.declared.records.HwItem.{HwItem}
use Rattle.svcb_c.specs.declared.status.TheConstants.{HW_OK, HW_E_PLACE, HW_E_SHORT, HW_E_FORM, HW_E_ARGUMENT, HW_END}

-- ---- values

-- the value of a key that octets wholly are, or their first fault
abbrev pub value_of_octets : ℕ → List ℕ → Result Value Fault
value_of_octets key octets = whole_taken octets (take_value key octets)

abbrev pub value_status : Result Value Fault → ℕ
value_status (Ok value) = HW_OK
value_status (Err fault) = fault_status fault

-- ---- items

-- the status of a call for the part of `len` octets at a place
abbrev pub part_status : ℕ → List ℕ → ℕ → ℕ
part_status len octets pos =
    if nat_lt (length octets) pos then HW_E_PLACE
    else if pos == length octets then HW_END
    else if nat_lt (length octets) (pos + len) then HW_E_FORM
    else HW_OK

-- of an address, which has 4 or 16 octets
abbrev pub address_status : ℕ → List ℕ → ℕ → ℕ
address_status len octets pos =
    if len == 4 then part_status len octets pos
    else if len == 16 then part_status len octets pos
    else HW_E_ARGUMENT

-- of a protocol, which stands behind its length
abbrev pub protocol_status : List ℕ → ℕ → ℕ
protocol_status octets pos =
    if nat_lt (length octets) pos then HW_E_PLACE
    else if pos == length octets then HW_END
    else if nat_lt (length octets) (pos + 1 + slice_index octets pos) then HW_E_SHORT
    else HW_OK

-- an item in octets is the first of the items from a place on, and the others stand behind it
abbrev pub IsFirstItem : (List ℕ → List (List ℕ)) → List ℕ → ℕ → HwItem → Type 0
IsFirstItem items octets pos item =
    items (drop pos octets)
    ≡ slice_range octets item.start (item.start + item.len)
    ∷ items (drop (item.start + item.len) octets)
