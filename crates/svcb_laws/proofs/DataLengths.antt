-- How long the texts of parameters and of data are. Offered to the crates above: `target-length`.
use Rattle.std.proofs.Common.{ℕ, ◌+◌, ◌*◌, ◌≤◌, List, [], ◌∷◌, ◌++◌, map, length, sym, subst, arith, length-append}
use Rattle.std.specs.Fmt.{decimal}
use Rattle.std.specs.List.{flat_map}
use Rattle.name_spec.specs.Names.{name_wire}
use Rattle.name_spec.specs.Printed.{printed_label, printed_name_with_dot}
use Rattle.svcb_spec.specs.Params.{Pairs, Ascends, pairs_wire, wire}
use Rattle.svcb_spec.proofs.WireLaws.{wire-pairs}
use Rattle.svcb_spec.specs.PrintedParams.{pair_printed, pair_texts, params_printed}
use Rattle.svcb_laws.specs.ParamTextLaws.{HaveOctets}
use Rattle.svcb_spec.specs.DataTexts.{svcb_printed}
use Rattle.svcb_laws.specs.TextLengthLaws.{ParamsTextByOctets, DataTextByOctets, DataLineFits}
use Rattle.svcb_laws.proofs.PieceLengths.{number-length, label-length, room, join-length}
use Rattle.svcb_laws.proofs.ValueLengths.{pair-length}

-- ---- the target

labels-length : (labels : List (List ℕ))
    → length (flat_map (λ l. printed_label l ++ 46 ∷ []) labels) + 4 ≤ 4 * length (name_wire labels)
labels-length [] = omega arith
labels-length (label ∷ labels) =
    let first = label-length label in
    let others = labels-length labels in
    omega (
      arith,
      first,
      others,
      length-append (printed_label label) (46 ∷ []),
      length-append label (name_wire labels),
      length-append (printed_label label ++ 46 ∷ [])
          (flat_map (λ l. printed_label l ++ 46 ∷ []) labels),
    )

pub target-length : (labels : List (List ℕ))
    → length (printed_name_with_dot labels) ≤ 4 * length (name_wire labels)
target-length [] = omega arith
target-length (label ∷ labels) = let all = labels-length (label ∷ labels) in omega arith

-- ---- the parameters

texts-length : (all pairs : Pairs) (least : ℕ) → Ascends least pairs → HaveOctets pairs
    → room (map (pair_printed all) pairs) ≤ 11 * length (pairs_wire pairs)
texts-length all [] least up are = omega arith
texts-length all (pair ∷ pairs) least up are =
    let first = pair-length all pair up.1 up.2 are.0 in
    let others = texts-length all pairs (pair.0 + 1) up.3 are.1 in
    omega (arith, first, others, length-append pair.1 (pairs_wire pairs))

pub params-length : ParamsTextByOctets
params-length pairs is are =
    let texts = texts-length pairs pairs 0 is are in
    let joined = join-length 32 (pair_texts pairs) in
    subst (λ octets. length (params_printed pairs) ≤ 11 * length octets)
    (sym (wire-pairs pairs is)) (omega arith)

-- ---- the data

pub data-length : DataTextByOctets
data-length found is =
    let priority = number-length found.priority is.is_record.priority in
    let name = printed_name_with_dot found.labels in
    let target = target-length found.labels in
    let parameters = params-length found.pairs is.is_record.is_map is.values in
    omega (
      arith,
      priority,
      target,
      parameters,
      length-append (decimal found.priority) (32 ∷ name),
      length-append (decimal found.priority ++ 32 ∷ name) (32 ∷ params_printed found.pairs),
      length-append (name_wire found.labels) (wire found.pairs),
    )

pub line-fits : DataLineFits
line-fits found is =
    let few = is.is_record.fits in
    omega (arith, few, data-length found is, length-append (svcb_printed found) (10 ∷ []))
