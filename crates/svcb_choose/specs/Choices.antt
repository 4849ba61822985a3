-- What a caller learns of a choice without its definition.
use Rattle.std.specs.Prelude.{◌≡◌, ℕ, ◌+◌, ◌≤◌, ◌==◌, Bool, false, List, [], ◌∷◌, IsSomeAnd, slice_get}
use Rattle.std.specs.List.{list_any, AllByRecursion}
use Rattle.std.specs.Option.{option_map_or}
use Rattle.svcb_spec.specs.Records.{Record}
use Rattle.svcb_choose.specs.Usability.{is_usable}
use Rattle.svcb_choose.specs.Choosing.{port_of, target_of}
use Rattle.svcb_choose.specs.declared.choice.Choice.{Choice}
use Rattle.svcb_choose.specs.declared.choice.Choice.TheVariants.{Endpoints}
use Rattle.svcb_choose.specs.declared.choice.Endpoint.{Endpoint}

-- the first record is in alias mode, with this target
abbrev pub BeginsWithAlias : List Record → List (List ℕ) → Type 0
BeginsWithAlias [] target = ⊥
BeginsWithAlias (first ∷ others) target = (first.priority ≡ 0) × (first.labels ≡ target)

-- whether there is a usable record at a place
abbrev pub is_usable_at : List ℕ → List Record → ℕ → Bool
is_usable_at understood records place =
    option_map_or (λ found. is_usable understood found.pairs) (slice_get records place) false

-- whether an endpoint has a place
abbrev pub has_place : List Endpoint → ℕ → Bool
has_place endpoints place = list_any (λ endpoint. endpoint.index == place) endpoints

-- the places of endpoints ascend strictly, the first not lower than `least`
abbrev pub Ascend : ℕ → List Endpoint → Type 0
Ascend least [] = Unit {0}
Ascend least (endpoint ∷ others) = (least ≤ endpoint.index) × Ascend (endpoint.index + 1) others

-- an endpoint has the target and the port of a record
pub record HasParts (owner : List (List ℕ)) (found : Record) (endpoint : Endpoint) : Type 0 where
  pub target : endpoint.target ≡ target_of owner found.labels
  pub port : endpoint.port ≡ port_of found.pairs

-- endpoints have exactly the places of the usable records, in order, and the parts of these records
pub record AreUsable (owner : List (List ℕ)) (understood : List ℕ) (records : List Record)
    (endpoints : List Endpoint) : Type 0 where
  pub places : (place : ℕ)
      → has_place endpoints place ≡ is_usable_at understood records place
  pub in_order : Ascend 0 endpoints
  pub parts : AllByRecursion
      (λ endpoint. IsSomeAnd (slice_get records endpoint.index)
      (λ found. HasParts owner found endpoint)) endpoints

-- where endpoints are chosen, they are such
abbrev pub HasUsable : List (List ℕ) → List ℕ → List Record → Choice → Type 0
HasUsable owner understood records (Endpoints endpoints) =
    AreUsable owner understood records endpoints
HasUsable owner understood records choice = Unit {0}
