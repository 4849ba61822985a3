-- What a call leaves in the caller's buffer.
use Rattle.std.specs.Prelude.{◌≡◌, ℕ, List, ◌++◌, length, drop, Result, Ok, Err, nat_lt, if◌then◌else◌}
use Rattle.svcb_c.specs.declared.status.TheConstants.{HW_OK, HW_E_ROOM}

-- octets in front of what a buffer held behind them
abbrev pub over : List ℕ → List ℕ → List ℕ
over octets buffer = octets ++ drop (length octets) buffer

-- the status of octets for a buffer with so much room
abbrev pub room_status : List ℕ → ℕ → ℕ
room_status octets room = if nat_lt room (length octets) then HW_E_ROOM else HW_OK

-- ---- octets that are due, or the status that refuses them

abbrev pub due_status : Result (List ℕ) ℕ → ℕ → ℕ
due_status (Ok octets) room = room_status octets room
due_status (Err status) room = status

-- the octets that are due are in the buffer, and their count is told
abbrev pub IsGiven : Result (List ℕ) ℕ → ℕ → List ℕ → List ℕ → Type 0
IsGiven (Ok octets) written before after =
    (written ≡ length octets) × (after ≡ over octets before)
IsGiven (Err status) written before after = ⊥

-- the count of octets that are due
abbrev pub NeedsRoom : Result (List ℕ) ℕ → ℕ → Type 0
NeedsRoom (Ok octets) needed = needed ≡ length octets
NeedsRoom (Err status) needed = ⊥
