use Rattle.std.proofs.Common.{◌≡◌}
use Rattle.std.specs.List.{list_all}
use Rattle.svcb_spec.specs.ReadingValues.{numbers}
use Rattle.svcb_choose.specs.Usability.{is_understood}
use Rattle.svcb_choose.proofs.usability.are_understood.Given as goal

abbrev pub invariant-loop-key : goal.invariant-loop-key
invariant-loop-key l =
    list_all (is_understood l.known.keys) (numbers l.fn.keys)
    ≡ list_all (is_understood l.known.keys) (numbers l.key-iterator)
