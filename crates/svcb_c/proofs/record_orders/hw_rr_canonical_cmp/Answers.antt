-- The first data was read where memory for the second is wanting.
use Rattle.std.proofs.Common.{◌+◌, length}
use Rattle.rdata_union.specs.Views.{data_of_all}
use Rattle.rdata_union.specs.WholeData.{part_of}
use Rattle.record_spec.specs.UnionReading.{union_read}
use Rattle.svcb_c.proofs.Whole.{whole_is_read}
use Rattle.svcb_c.proofs.record_orders.hw_rr_canonical_cmp.Goals as goal

pub returns-in-Err-NoMemory-read_data-clause-memory_data :
    goal.returns-in-Err-NoMemory-read_data-clause-memory_data
returns-in-Err-NoMemory-read_data-clause-memory_data c wanting =
    whole_is_read (0 + length c.args.first.now)
    (union_read c.args.rtype (part_of c.args.first.now 0 (length c.args.first.now)))
    (data_of_all c.in-Ok.found) (rw c.from_int.ensures at c.in-Ok.ensures)
