-- Data that is read to the end of octets.
use Rattle.std.proofs.Common.{◌≡◌, ℕ, Result, Ok, Err}
use Rattle.name_spec.specs.Octets.{Fault}
use Rattle.wire_base.specs.RecordReading.{DataRead}
use Rattle.record_spec.specs.RecordData.{RecordData}
use Rattle.rdata_union.specs.WholeData.{whole_data, IsRead}

-- what is read to the end is read
pub whole_is_read : (end : ℕ) (read : Result (DataRead RecordData) Fault) (found : RecordData)
    → whole_data end read ≡ Ok found → IsRead read
whole_is_read end (Ok held) found is = tt
whole_is_read end (Err fault) found is = absurd cc
