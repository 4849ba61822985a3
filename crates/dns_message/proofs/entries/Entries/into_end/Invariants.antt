use Rattle.std.proofs.Common.{◌≡◌, ◌-◌}
use Rattle.dns_message.specs.Entries.{behind_entries}
use Rattle.dns_message.proofs.entries.Entries.into_end.Given as goal

abbrev pub invariant-loop : goal.invariant-loop
invariant-loop g l =
    behind_entries g.E.ParseEntry.reads l.fn.self.count l.fn.self.start
    ≡ behind_entries g.E.ParseEntry.reads (l.end - l.counter) l.self-inside.rest
