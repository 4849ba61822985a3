-- What readers find in record data that was rebuilt.
use Rattle.std.proofs.Common.{◌≡◌, ℕ, List, [], ◌∷◌, length, Ok, sym, ap, ◌∙◌}
use Rattle.svcb_spec.specs.Records.{Record, read}
use Rattle.std.specs.Result.{result_ok}
use Rattle.svcb_spec.specs.declared.Reply.{Reply}
use Rattle.svcb_spec.specs.Params.{Pairs}
use Rattle.svcb_spec.specs.Values.{Value, key_of, AreValues}
use Rattle.svcb_spec.specs.Rebuilding.{accept, with_accepted, AreHeld}
use Rattle.wire_base.specs.Faults.{IsFaultOf}
use Rattle.wire_base.specs.declared.errors.ParseError.{ParseError}
use Rattle.wire_base.specs.declared.errors.ParseError.TheVariants.{ShortInput, Form, NoMemory}
use Rattle.svcb_spec.proofs.ValueLaws.{values_read_back}
use Rattle.svcb_spec.proofs.RebuildLaws.{accept-holds, rebuilt_read_back}
use Rattle.svcb_params.specs.Items.{typed_value}
use Rattle.svcb_rdata.specs.Laws.{AreRead, AreRebuilt}

held_are_read : (pairs : Pairs) (values : List Value) (replies : List Reply) → AreValues values
    → AreHeld pairs values replies → AreRead pairs values replies
held_are_read pairs [] replies are held = tt
held_are_read pairs (value ∷ values) [] are held = tt
held_are_read pairs (value ∷ values) (reply ∷ replies) are held = (
  λ is own. ap (typed_value (key_of value)) (held.0 is)
      ∙ ap result_ok (values_read_back value are.0 own),
  held_are_read pairs values replies are.1
      held.1,
)

-- typed values that are accepted are read
pub accepted_are_read : (pairs : Pairs) (limit : ℕ) (values : List Value) → AreValues values
    → AreRead (accept pairs limit values).pairs values (accept pairs limit values).replies
accepted_are_read pairs limit values are =
    held_are_read _ values _ are (accept-holds pairs limit values)

module _ (octets : List ℕ) (pairs : Pairs) (are : AreRebuilt octets pairs) where
  abbrev final : Record
  final = with_accepted are.found are.values are.limit

  read_back : read octets 0 (length octets) ≡ Ok final
  read_back =
      rebuilt_read_back are.message are.start are.len are.values are.limit are.found
      (record { octets = octets; replies = are.replies }) are.rebuilding

  -- the pairs that are read are the final ones
  pub pairs_read : (found : Record) → read octets 0 (length octets) ≡ Ok found → found.pairs ≡ pairs
  pairs_read found is =
      let same : found ≡ final = (let back = read_back in cc) in
      ap (λ (f : Record). f.pairs) same ∙ sym are.pairs_are

  -- and there is no fault
  pub no_fault_read : (error : ParseError) → IsFaultOf error (read octets 0 (length octets)) → ⊥
  no_fault_read ShortInput is = let back = read_back in cc
  no_fault_read Form is = let back = read_back in cc
  no_fault_read NoMemory is = is
