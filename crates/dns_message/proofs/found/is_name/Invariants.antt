use Rattle.std.proofs.Common.{◌≡◌}
use Rattle.name_spec.specs.OwnedNames.{is_same_name}
use Rattle.dns_message.proofs.found.is_name.Given as goal

abbrev pub invariant-loop-label : goal.invariant-loop-label
invariant-loop-label l =
    is_same_name l.fn.name.labels l.fn.owner ≡ is_same_name l.labels l.others
