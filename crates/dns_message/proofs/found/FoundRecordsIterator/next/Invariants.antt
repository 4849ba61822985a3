use Rattle.std.proofs.Common.{◌≡◌, length}
use Rattle.dns_message.specs.Entries.{next_record, section_entries}
use Rattle.dns_message.specs.Searching.{found_records, records_of}
use Rattle.dns_message.proofs.found.FoundRecordsIterator.next.Given as goal

abbrev pub invariant-loop-item : goal.invariant-loop-item
invariant-loop-item l =
    found_records l.fn.self ≡ records_of l.self-inside.owner.now l.self-inside.rtype
    (section_entries next_record l.self-inside.records)

abbrev pub decreases-loop-item : goal.decreases-loop-item
decreases-loop-item l = length (section_entries next_record l.self-inside.records)
