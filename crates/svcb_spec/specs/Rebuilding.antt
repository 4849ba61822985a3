-- Record data with parameters added.
use Rattle.std.specs.Prelude.{◌≡◌, ℕ, ◌+◌, ◌<◌, ◌≤◌, List, length, nat_lt, if◌then◌else◌, is_some, [], ◌∷◌, Some, Result, Ok, Err}
use Rattle.std.specs.Ordering.{nat_cmp}
use Rattle.std.specs.BTreeMap.{insert_entry}
use Rattle.std.specs.List.{AllByRecursion}
use Rattle.svcb_spec.specs.declared.Reply.{Reply}
use Rattle.svcb_spec.specs.declared.Reply.TheVariants.{Accepted, DuplicateKey, ShortBuf}
use Rattle.name_spec.specs.Octets.{Fault}
use Rattle.svcb_spec.specs.Params.{Pairs, value_at, wire}
use Rattle.svcb_spec.specs.Values.{Value, key_of, encode, AreValues}
use Rattle.svcb_spec.specs.Records.{Record, read, rdata}

-- the reply to octets that are pushed under a key
abbrev pub reply_to : Pairs → ℕ → ℕ → List ℕ → Reply
reply_to pairs limit key octets =
    if is_some (value_at pairs key) then DuplicateKey
    else if nat_lt limit (length (wire pairs) + 4 + length octets) then ShortBuf
    else Accepted

-- the map behind that push
abbrev pub pairs_after : Reply → Pairs → ℕ → List ℕ → Pairs
pairs_after DuplicateKey pairs key octets = pairs
pairs_after ShortBuf pairs key octets = pairs
pairs_after Accepted pairs key octets = insert_entry nat_cmp pairs key octets

-- the map behind all pushes, and their replies
pub record Pushed : Type 0 where
  pub pairs : Pairs
  pub replies : List Reply

-- the pushes in order, a reply to each; after a refusal the next one is tried
unfoldable pub accept : Pairs → ℕ → List Value → Pushed
accept pairs limit [] = record { pairs = pairs; replies = [] }
accept pairs limit (value ∷ values) =
    let reply = reply_to pairs limit (key_of value) (encode value) in
    let rest = accept (pairs_after reply pairs (key_of value) (encode value)) limit values in
    record { pairs = rest.pairs; replies = reply ∷ rest.replies }

-- why nothing is rebuilt: the data has a fault, its parameters exceed the limit, or the result
-- exceeds 65,535 octets
pub data Refusal : Type 0 where
  Unread : Fault → Refusal
  OverLimit : Refusal
  TooLong : Refusal

pub record Rebuilt : Type 0 where
  pub octets : List ℕ
  pub replies : List Reply

-- a record that was read, with the pushes accepted
abbrev pub rebuild_read : Record → List Value → ℕ → Result Rebuilt Refusal
rebuild_read found values limit =
    let pushed = accept found.pairs limit values in
    let octets = rdata found.priority found.labels pushed.pairs in
    if nat_lt limit (length (wire found.pairs)) then Err OverLimit
    else if nat_lt 65535 (length octets) then Err TooLong
    else Ok (record { octets = octets; replies = pushed.replies })

abbrev pub rebuild_of : Result Record Fault → List Value → ℕ → Result Rebuilt Refusal
rebuild_of (Err fault) values limit = Err (Unread fault)
rebuild_of (Ok found) values limit = rebuild_read found values limit

-- the record data in the `len` octets from `start` on, with the values pushed
unfoldable pub rebuild : List ℕ → ℕ → ℕ → List Value → ℕ → Result Rebuilt Refusal
rebuild message start len values limit = rebuild_of (read message start len) values limit

-- ---- what rebuilding leaves

-- a record with the pairs of the values accepted
abbrev pub with_accepted : Record → List Value → ℕ → Record
with_accepted found values limit = record found { pairs = (accept found.pairs limit values).pairs }

-- each value that was accepted is the one under its key
abbrev pub AreHeld : Pairs → List Value → List Reply → Type 0
AreHeld pairs [] replies = Unit {0}
AreHeld pairs (value ∷ values) [] = Unit {0}
AreHeld pairs (value ∷ values) (reply ∷ replies) =
    (reply ≡ Accepted → value_at pairs (key_of value) ≡ Some (encode value))
    × AreHeld pairs values replies

-- the data in the `len` octets from `start` on is `found`, and with the values pushed it is `done`
pub record IsRebuilding (message : List ℕ) (start len : ℕ) (values : List Value) (limit : ℕ)
    (found : Record) (done : Rebuilt) : Type 0 where
  pub octets : AllByRecursion (λ octet. octet < 256) message
  pub in_message : start + len ≤ length message
  pub are_values : AreValues values
  pub read : read message start len ≡ Ok found
  pub rebuilt : rebuild message start len values limit ≡ Ok done
