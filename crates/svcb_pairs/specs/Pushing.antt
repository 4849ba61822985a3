-- What a builder answers to a push, and what it is afterwards.
use Rattle.std.specs.Prelude.{◌≡◌, ℕ, ◌+◌, ◌≤◌, List, length, Result, Ok, Err, IsNone, OnOk, OnErr}
use Rattle.svcb_spec.specs.declared.Reply.{Reply}
use Rattle.svcb_spec.specs.declared.Reply.TheVariants as replies
use Rattle.svcb_spec.specs.Params.{value_at, wire}
use Rattle.svcb_spec.specs.Values.{Value, key_of, encode}
use Rattle.svcb_spec.specs.Rebuilding.{reply_to, pairs_after}
use Rattle.svcb_pairs.specs.BuilderState.{BuilderState}
use Rattle.svcb_pairs.specs.declared.errors.PushError.{PushError}
use Rattle.svcb_pairs.specs.declared.errors.PushError.TheVariants.{DuplicateKey, ShortBuf, NoMemory}

-- the reply of a builder to octets that are pushed under a key
abbrev pub reply_of : BuilderState → ℕ → List ℕ → Reply
reply_of builder key octets = reply_to builder.pairs builder.limit key octets

-- the builder with octets under a key
abbrev pub with_octets : BuilderState → ℕ → List ℕ → BuilderState
with_octets builder key octets =
    record builder { pairs = pairs_after replies.Accepted builder.pairs key octets }

-- the builder with a value
abbrev pub with_value : BuilderState → Value → BuilderState
with_value builder value = with_octets builder (key_of value) (encode value)

-- how many octets in wire form the pairs have with octets under a new key
abbrev pub len_with : BuilderState → List ℕ → ℕ
len_with builder octets = length (wire builder.pairs) + 4 + length octets

-- the answer is the reply; a failed allocation may come with any reply
abbrev pub IsPushAnswer : Result (Unit {0}) PushError → Reply → Type 0
IsPushAnswer (Ok done) reply = reply ≡ replies.Accepted
IsPushAnswer (Err DuplicateKey) reply = reply ≡ replies.DuplicateKey
IsPushAnswer (Err ShortBuf) reply = reply ≡ replies.ShortBuf
IsPushAnswer (Err NoMemory) reply = Unit {0}

-- Octets are pushed under a key. The answer fits the reply. Where they are accepted, the key was
-- new, the octets fit, and the builder has them; else the builder stays.
pub record Pushes {E : Type 0} (old new : BuilderState) (key : ℕ) (octets : List ℕ)
    (result : Result (Unit {0}) E) (FitsReply : Reply → Type 0) : Type 0 where
  pub answer : FitsReply (reply_of old key octets)
  pub ok : OnOk result (new ≡ with_octets old key octets)
  pub fresh : OnOk result (IsNone (value_at old.pairs key))
  pub fits : OnOk result (len_with old octets ≤ old.limit)
  pub err : OnErr result (new ≡ old)

-- a value of a type is pushed
abbrev pub PushesValue : {E : Type 0} → BuilderState → BuilderState → Value → Result (Unit {0}) E
    → (Reply → Type 0) → Type 0
PushesValue old new value result FitsReply =
    Pushes old new (key_of value) (encode value) result FitsReply
