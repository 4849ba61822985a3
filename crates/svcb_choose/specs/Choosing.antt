-- What a client chooses from the SVCB or HTTPS records of an owner (RFC 9460, sections 2.4, 2.5).
use Rattle.std.specs.Prelude.{ℕ, ◌+◌, ◌==◌, Bool, true, ◌&&◌, nat_le, List, [], ◌∷◌, length, Option, None, Some, if◌then◌else◌}
use Rattle.std.specs.Option.{option_and_then}
use Rattle.svcb_spec.specs.Params.{Pairs}
use Rattle.svcb_spec.specs.Records.{Record}
use Rattle.svcb_spec.specs.Values.{Value, Port}
use Rattle.svcb_params.specs.Items.{typed_at}
use Rattle.svcb_choose.specs.Usability.{is_usable}
use Rattle.svcb_choose.specs.Protocols.{protocols_of}
use Rattle.svcb_choose.specs.declared.choice.Choice.{Choice}
use Rattle.svcb_choose.specs.declared.choice.Choice.TheVariants.{Alias, Unavailable, Endpoints}
use Rattle.svcb_choose.specs.declared.choice.Endpoint.{Endpoint}

-- no priority is lower than the one before it, the first not lower than `least`
abbrev pub priorities_from : ℕ → List Record → Bool
priorities_from least [] = true
priorities_from least (found ∷ others) =
    nat_le least found.priority && priorities_from found.priority others

-- no record has a lower priority than the one before it
abbrev pub priorities_ascend : List Record → Bool
priorities_ascend = priorities_from 0

-- the number of a value of `port`
abbrev pub port_number : Value → Option ℕ
port_number (Port number) = Some number
port_number value = None

-- the port of a record, where it has one (section 7.2)
abbrev pub port_of : Pairs → Option ℕ
port_of pairs = option_and_then port_number (typed_at 3 pairs)

-- the target of a record, or the owner where that is the root (section 2.5.2)
abbrev pub target_of : List (List ℕ) → List (List ℕ) → List (List ℕ)
target_of owner labels = if length labels == 0 then owner else labels

-- the endpoint of a record at a place
unfoldable pub endpoint_of : List (List ℕ) → List (List ℕ) → ℕ → Record → Endpoint
endpoint_of owner defaults place found = record {
  index = place;
  target = target_of owner found.labels;
  port = port_of found.pairs;
  protocols = protocols_of defaults found.pairs;
}

-- the endpoints of the usable records in order, the first of which is at a place
abbrev pub endpoints_from : List (List ℕ) → List ℕ → List (List ℕ) → ℕ → List Record
    → List Endpoint
endpoints_from owner understood defaults place [] = []
endpoints_from owner understood defaults place (found ∷ others) =
    let behind = endpoints_from owner understood defaults (place + 1) others in
    if is_usable understood found.pairs
    then endpoint_of owner defaults place found ∷ behind
    else behind

-- what a record in alias mode leads to: its target, and nowhere where that is the root (section
-- 2.5.1)
abbrev pub alias_of : List (List ℕ) → Choice
alias_of labels = if length labels == 0 then Unavailable else Alias labels

-- The choice for an owner. Where the first record is in alias mode, it alone counts (section
-- 2.4.1).
unfoldable pub choice : List (List ℕ) → List Record → List ℕ → List (List ℕ) → Choice
choice owner [] understood defaults = Endpoints []
choice owner (first ∷ others) understood defaults =
    if first.priority == 0 then alias_of first.labels
    else Endpoints (endpoints_from owner understood defaults 0 (first ∷ others))
