-- Values that are read back.
use Rattle.std.proofs.Common.{◌≡◌, true, List, [], ◌∷◌, ◌++◌, Some, Result, Ok, Err, IsOk, ap, ◌∙◌}
use Rattle.std.proofs.lemmas.Bool.{false≢true}
use Rattle.std.specs.Result.{result_ok}
use Rattle.std.specs.List.{AllByRecursion}
use Rattle.name_spec.specs.Octets.{Fault}
use Rattle.svcb_spec.specs.Params.{Pairs}
use Rattle.svcb_spec.specs.Values.{Value, key_of, encode, IsValue, is_own_type}
use Rattle.svcb_spec.specs.ReadingValues.{take_value, whole_taken}
use Rattle.svcb_spec.proofs.RebuildLaws.{value_at-put}
use Rattle.svcb_spec.proofs.ValueLaws.{values_read_back}
use Rattle.wire_base.specs.declared.errors.ParseError.{ParseError}
use Rattle.svcb_pairs.specs.BuilderState.{BuilderState}
use Rattle.svcb_params.specs.Items.{with_item, all_items, typed_value, typed_at}
use Rattle.svcb_pairs.specs.Pushing.{with_value}

-- what a builder has taken stands under its key
pub pushed_is_read : (builder : BuilderState) (value : Value) → IsValue value
    → is_own_type value ≡ true
    → typed_at (key_of value) (with_value builder value).pairs ≡ Some value
pushed_is_read builder value is own =
    ap (typed_value (key_of value)) (value_at-put builder.pairs (key_of value) (encode value))
    ∙ ap result_ok (values_read_back value is own)

-- a value goes on to the items that follow
with_item-append : {Seen : Type 0} (read : Result Seen Fault)
    (all front back : List (Result Seen ParseError)) → IsOk read → all ≡ front ++ back
    → with_item read all ≡ with_item read front ++ back
with_item-append (Ok value) all front back ok is = ap (λ others. Ok value ∷ others) is
with_item-append (Err fault) all front back ok is = absurd (false≢true ok)

pub read_through : (front back : Pairs) (value : Value) → IsValue value → is_own_type value ≡ true
    → AllByRecursion (λ pair. IsOk (whole_taken pair.1 (take_value pair.0 pair.1))) front
    → all_items (front ++ (key_of value, encode value) ∷ back)
    ≡ all_items front ++ Ok value ∷ all_items back
read_through [] back value is own read =
    ap (λ read. with_item read (all_items back)) (values_read_back value is own)
read_through (pair ∷ front) back value is own read =
    with_item-append (whole_taken pair.1 (take_value pair.0 pair.1)) _ _ _ read.0
    (read_through front back value is own read.1)
