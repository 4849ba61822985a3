-- Octets are service parameters in one way. Types of the crates above that hold such octets cite it
-- for their models.
use Rattle.std.specs.Prelude.{ℕ, ◌+◌, List, [], ◌∷◌}
use Rattle.std.specs.Coded.{Unit-prop}
use Rattle.std.proofs.Props.{props}
use Rattle.svcb_spec.specs.Params.{Pairs, Ascends}
use Rattle.svcb_pairs.specs.Parameters.{pairs_in, IsParameters}

Ascends-prop : (least : ℕ) (pairs : Pairs) → IsProp (Ascends least pairs)
Ascends-prop least [] = Unit-prop
Ascends-prop least (pair ∷ pairs) = hlevel (props, Ascends-prop (pair.0 + 1) pairs)

pub IsParameters-prop : (octets : List ℕ) → IsProp (IsParameters octets)
IsParameters-prop octets = hlevel (props, Ascends-prop 0 (pairs_in octets))
