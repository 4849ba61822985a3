-- An owned name, as its callers see it.
use Rattle.std.specs.Prelude.{◌≡◌, ℕ, List, [], Result, Ok, Err}
use Rattle.name_spec.specs.Octets.{Fault}
use Rattle.name_spec.specs.Names.{name_wire, AreLabels}
use Rattle.name_spec.specs.OwnedNames.{name_in}

-- the labels that were found
abbrev pub labels_found : Result (List (List ℕ)) Fault → List (List ℕ)
labels_found (Ok labels) = labels
labels_found (Err fault) = []

-- the labels, without the root, of octets that are wholly a name
abbrev pub labels_in : List ℕ → List (List ℕ)
labels_in octets = labels_found (name_in octets)

-- the octets are wholly an uncompressed name
pub record IsWholeName (octets : List ℕ) : Type 0 where
  pub read : name_in octets ≡ Ok (labels_in octets)
  pub wire : octets ≡ name_wire (labels_in octets)
  pub labels : AreLabels 0 (labels_in octets)
