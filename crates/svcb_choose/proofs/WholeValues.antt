-- Pairs whose octets are wholly values are read without an error.
use Rattle.std.proofs.Common.{◌≡◌, Bool, List, [], ◌∷◌, Result, Ok, Err, refl}
use Rattle.std.specs.Prelude.{◌&&◌, is_ok}
use Rattle.std.specs.List.{list_all}
use Rattle.name_spec.specs.Octets.{Fault}
use Rattle.svcb_spec.specs.Params.{Pairs}
use Rattle.svcb_spec.specs.Values.{Value}
use Rattle.svcb_spec.specs.ReadingValues.{take_value, whole_taken}
use Rattle.wire_base.specs.declared.errors.ParseError.{ParseError}
use Rattle.svcb_params.specs.Items.{with_item, all_items}
use Rattle.svcb_choose.specs.Usability.{are_well_formed}

one_more : (read : Result Value Fault) (others : List (Result Value ParseError)) (rest : Bool)
    → rest ≡ list_all is_ok others → (is_ok read && rest) ≡ list_all is_ok (with_item read others)
one_more (Ok value) others rest e = e
one_more (Err fault) others rest e = refl

pub well_formed_items : (pairs : Pairs) → are_well_formed pairs ≡ list_all is_ok (all_items pairs)
well_formed_items [] = refl
well_formed_items (pair ∷ pairs) =
    one_more (whole_taken pair.1 (take_value pair.0 pair.1)) (all_items pairs)
    (are_well_formed pairs) (well_formed_items pairs)
