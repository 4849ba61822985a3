use Rattle.std.proofs.Common.{◌≡◌, length}
use Rattle.dns_message.specs.Aliases.{first_alias}
use Rattle.dns_message.specs.Entries.{next_record, section_entries}
use Rattle.dns_message.proofs.aliases.first_alias.Given as goal

abbrev pub invariant-loop-item : goal.invariant-loop-item
invariant-loop-item l =
    first_alias l.fn.owner (section_entries next_record l.fn.records)
    ≡ first_alias l.owner (section_entries next_record l.records)

abbrev pub decreases-loop-item : goal.decreases-loop-item
decreases-loop-item l = length (section_entries next_record l.records)
