-- Laws of the definitions.
use Rattle.std.specs.Prelude.{◌≡◌, ℕ, ◌+◌, ◌<◌, ◌≤◌, ◌↔◌, true, List, [], length, Option, None, Ok}
use Rattle.std.specs.List.{AllByRecursion}
use Rattle.svcb_spec.specs.Values.{Value, key_of, encode, IsValue, AreValues, is_own_type, is_unknown}
use Rattle.svcb_spec.specs.Records.{Record, rdata, IsRecord, read}
use Rattle.svcb_spec.specs.Rebuilding.{accept, Rebuilt, rebuild, with_accepted, AreHeld, IsRebuilding}
use Rattle.svcb_spec.specs.ReadingValues.{take_value, whole_taken, value_in}
use Rattle.svcb_spec.specs.Params.{Pairs, pairs_step, pairs_at, wire, IsMap, pairs_wire}

-- ---- service parameters

-- pairs are read by one step, and behind a pair by `pairs_at` again
abbrev pub PairsByStep : Type 0
PairsByStep = (message : List ℕ) (end pos : ℕ) (last : Option ℕ)
    → pairs_at message end pos last ≡ pairs_step (pairs_at message end) message end pos last

-- the octets of a map are those of its pairs, joined
abbrev pub WireInOrder : Type 0
WireInOrder = (pairs : Pairs) → IsMap pairs → wire pairs ≡ pairs_wire pairs

-- a map is read back from its octets
abbrev pub PairsReadBack : Type 0
PairsReadBack = (pairs : Pairs) → IsMap pairs → pairs_at (wire pairs) (length (wire pairs)) 0 None
    ≡ Ok pairs

-- octets that are read as parameters are the octets of a map, and of no other
abbrev pub PairsInWire : Type 0
PairsInWire = (octets : List ℕ) (pairs : Pairs) → AllByRecursion (λ octet. octet < 256) octets
    → pairs_at octets (length octets) 0 None ≡ Ok pairs
    → IsMap pairs × (wire pairs ≡ octets)

-- ---- values

-- a value of its key's type is read back from its octets
abbrev pub ValuesReadBack : Type 0
ValuesReadBack = (value : Value) → IsValue value → is_own_type value ≡ true
    → whole_taken (encode value) (take_value (key_of value) (encode value)) ≡ Ok value

-- no octets are those of two values of one type and key
abbrev pub ValuesEncodeOnce : Type 0
ValuesEncodeOnce = (a b : Value) → IsValue a → IsValue b → key_of a ≡ key_of b
    → is_unknown a ≡ is_unknown b → encode a ≡ encode b → a ≡ b

-- the value that octets are under a key has that key and these octets
abbrev pub ValuesInOctets : Type 0
ValuesInOctets = (key : ℕ) (octets : List ℕ) → key < 65536 → length octets < 65536
    → AllByRecursion (λ octet. octet < 256) octets
    → IsValue (value_in key octets) × (key_of (value_in key octets) ≡ key)
    × (encode (value_in key octets) ≡ octets)

-- ---- records

-- a record is read back from its octets
abbrev pub RecordReadBack : Type 0
RecordReadBack = (found : Record) → IsRecord found
    → read (rdata found.priority found.labels found.pairs) 0
    (length (rdata found.priority found.labels found.pairs)) ≡ Ok found

-- no octets are those of two records
abbrev pub OneRecord : Type 0
OneRecord = (a b : Record) → IsRecord a → IsRecord b
    → rdata a.priority a.labels a.pairs ≡ rdata b.priority b.labels b.pairs → a ≡ b

-- data that was read is a record
abbrev pub ReadIsRecord : Type 0
ReadIsRecord = (message : List ℕ) (start len : ℕ) (found : Record)
    → AllByRecursion (λ octet. octet < 256) message → start + len ≤ length message
    → read message start len ≡ Ok found → IsRecord found

-- ---- rebuilding

-- what was rebuilt is read as the record that was found, with the pairs accepted
abbrev pub RebuiltReadBack : Type 0
RebuiltReadBack =
    (message : List ℕ) (start len : ℕ) (values : List Value) (limit : ℕ) (found : Record)
    (done : Rebuilt)
    → IsRebuilding message start len values limit found done
    → read done.octets 0 (length done.octets) ≡ Ok (with_accepted found values limit)

-- Two results have equal octets exactly where priority, labels and maps are equal. So the order in
-- which accepted values were pushed does not show.
abbrev pub CanonicalForm : Type 0
CanonicalForm =
    (message : List ℕ) (start len : ℕ) (values : List Value) (limit : ℕ) (found : Record)
    (done : Rebuilt)
    → (message' : List ℕ) (start' len' : ℕ) (values' : List Value) (limit' : ℕ) (found' : Record)
    (done' : Rebuilt)
    → IsRebuilding message start len values limit found done
    → IsRebuilding message' start' len' values' limit' found' done'
    → (done.octets ≡ done'.octets)
    ↔ (with_accepted found values limit ≡ with_accepted found' values' limit')

-- what was rebuilt stays as it is when it is rebuilt with no pushes, within any limit on its own
-- map
abbrev pub RebuiltAgain : Type 0
RebuiltAgain =
    (message : List ℕ) (start len : ℕ) (values : List Value) (limit : ℕ) (found : Record)
    (done : Rebuilt) (other : ℕ)
    → IsRebuilding message start len values limit found done
    → length (wire (with_accepted found values limit).pairs) ≤ other
    → rebuild done.octets 0 (length done.octets) [] other
    ≡ Ok (record { octets = done.octets; replies = [] })

-- each value that was accepted is the one under its key in the final map
abbrev pub AcceptedHeld : Type 0
AcceptedHeld = (pairs : Pairs) (limit : ℕ) (values : List Value)
    → AreHeld (accept pairs limit values).pairs values (accept pairs limit values).replies

-- pushes keep a map
abbrev pub AcceptedMap : Type 0
AcceptedMap = (pairs : Pairs) (limit : ℕ) (values : List Value) → IsMap pairs → AreValues values
    → IsMap (accept pairs limit values).pairs
