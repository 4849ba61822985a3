-- Octets that are service parameters.
use Rattle.std.specs.Prelude.{◌≡◌, ℕ, ◌<◌, List, [], ◌∷◌, length, Option, None, Result, Ok}
use Rattle.std.specs.Result.{result_unwrap_or}
use Rattle.name_spec.specs.Octets.{Fault}
use Rattle.svcb_spec.specs.Params.{Pairs, pairs_at, wire, IsMap}
use Rattle.wire_base.specs.Input.{Input}

-- the parameters from a parser's place to its end, with keys above the last one, or their first
-- fault
abbrev pub pairs_left : Input → Option ℕ → Result Pairs Fault
pairs_left input last = pairs_at input.message input.end input.pos last

-- the parameters that octets are, or their first fault
abbrev pub read_pairs : List ℕ → Result Pairs Fault
read_pairs octets = pairs_at octets (length octets) 0 None

-- the pairs in octets that are parameters; other octets have none
abbrev pub pairs_in : List ℕ → Pairs
pairs_in octets = result_unwrap_or (read_pairs octets) []

-- octets are the wire form of a map, which is read from them
pub record IsParameters (octets : List ℕ) : Type 0 where
  pub read : read_pairs octets ≡ Ok (pairs_in octets)
  pub is_map : IsMap (pairs_in octets)
  pub wire : wire (pairs_in octets) ≡ octets

-- octets begin with the pair of a key and a value, and are parameters with it as the first
pub record IsFirstPair (octets : List ℕ) (number : ℕ) (held behind : List ℕ) : Type 0 where
  pub pairs : pairs_in octets ≡ (number, held) ∷ pairs_in behind
  pub shorter : length behind < length octets
  pub in_range : number < 65536
  pub fits : length held < 65536
