use Rattle.std.proofs.Common.{◌≡◌}
use Rattle.std.specs.List.{list_all}
use Rattle.svcb_spec.specs.ReadingValues.{numbers}
use Rattle.svcb_text.specs.AllValues.{value_of}
use Rattle.svcb_spec.specs.ParamTexts.{mandatory_keys}
use Rattle.svcb_pairs.specs.Holding.{has_entry}
use Rattle.svcb_pairs.proofs.values.has_listed.Given as goal

abbrev pub invariant-loop-key : goal.invariant-loop-key
invariant-loop-key l =
    list_all (has_entry l.values.entries) (mandatory_keys (value_of l.value))
    ≡ list_all (has_entry l.values.entries) (numbers l.key-iterator)
    × (goal.iterator-loop-key).can_next l.key-iterator
    × (goal.iterator-loop-key).is_finite l.key-iterator
