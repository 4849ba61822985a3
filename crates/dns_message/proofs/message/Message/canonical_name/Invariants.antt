use Rattle.std.proofs.Common.{◌≡◌, ◌-◌}
use Rattle.dns_message.specs.Aliases.{canonical_name, last_target}
use Rattle.dns_message.proofs.message.Message.canonical_name.Given as goal

abbrev pub invariant-loop : goal.invariant-loop
invariant-loop l =
    canonical_name l.fn.self l.fn.owner
    ≡ last_target (l.end - l.counter) l.fn.self l.fn.owner l.reached
