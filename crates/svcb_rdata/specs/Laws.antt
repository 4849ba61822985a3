-- Laws of rebuilding that speak of readers.
use Rattle.std.specs.Prelude.{◌≡◌, ℕ, List, [], ◌∷◌, true, Some}
use Rattle.svcb_spec.specs.declared.Reply.{Reply}
use Rattle.svcb_spec.specs.declared.Reply.TheVariants.{Accepted}
use Rattle.svcb_spec.specs.Params.{Pairs}
use Rattle.svcb_spec.specs.Values.{Value, key_of, is_own_type, AreValues}
use Rattle.svcb_spec.specs.Records.{Record}
use Rattle.svcb_spec.specs.Rebuilding.{accept, with_accepted, IsRebuilding}
use Rattle.svcb_params.specs.Items.{typed_at}

-- each typed value that was accepted is what its type reads under its key
abbrev pub AreRead : Pairs → List Value → List Reply → Type 0
AreRead pairs [] replies = Unit {0}
AreRead pairs (value ∷ values) [] = Unit {0}
AreRead pairs (value ∷ values) (reply ∷ replies) =
    (reply ≡ Accepted → is_own_type value ≡ true → typed_at (key_of value) pairs ≡ Some value)
    × AreRead pairs values replies

-- typed values that are accepted are read, whatever octets the parameters held before
abbrev pub AcceptedRead : Type 0
AcceptedRead = (pairs : Pairs) (limit : ℕ) (values : List Value) → AreValues values
    → AreRead (accept pairs limit values).pairs values (accept pairs limit values).replies

-- octets are those of some record data rebuilt, whose final map is `pairs`
pub record AreRebuilt (octets : List ℕ) (pairs : Pairs) : Type 0 where
  pub message : List ℕ
  pub start : ℕ
  pub len : ℕ
  pub values : List Value
  pub limit : ℕ
  pub found : Record
  pub replies : List Reply
  pub rebuilding : IsRebuilding message start len values limit found
      (record { octets = octets; replies = replies })
  pub pairs_are : pairs ≡ (with_accepted found values limit).pairs
