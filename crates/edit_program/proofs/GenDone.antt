-- The data that `gen` makes is rebuilt, whatever the count.
use Rattle.std.proofs.Common.{◌≡◌, ℕ, zero, suc, ◌+◌, ◌*◌, ◌%◌, ◌<◌, ◌≤◌, ◌==◌, Bool, true, false, List, [], ◌∷◌, ◌++◌, length, min, Option, Some, None, Ok, refl, sym, ap, ◌∙◌, arith, add-one, append_assoc}
use Rattle.std.proofs.lemmas.Bool.Decides.{nat_tests}
use Rattle.std.proofs.lemmas.List.{append-nil}
use Rattle.std.specs.Prelude.{nat_lt, if◌then◌else◌, is_some}
use Rattle.name_spec.specs.Octets.{be2}
use Rattle.name_spec.specs.Names.{name_wire}
use Rattle.svcb_spec.specs.declared.Reply.TheVariants.{Accepted, DuplicateKey, ShortBuf}
use Rattle.svcb_spec.specs.Laws.{RecordReadBack}
use Rattle.svcb_spec.specs.Params.{Pairs, Ascends, IsMap, pair_wire, pairs_wire, value_at, wire}
use Rattle.svcb_spec.specs.Records.{Record, IsRecord, rdata, read}
use Rattle.svcb_spec.specs.Rebuilding.{Rebuilt, accept, pairs_after, reply_to, rebuild, rebuild_of}
use Rattle.svcb_spec.specs.Values.{Value, AreValues, IsValue, encode, key_of}
use Rattle.svcb_spec.proofs.RebuildLaws.{accept-map}
use Rattle.svcb_spec.proofs.ValueLaws.{key_of_small}
use Rattle.svcb_spec.proofs.WireLaws.{length-wire-insert, wire-pairs}
use Rattle.devices.specs.declared.transfer.TheConstants.{MAX_INPUT}
use Rattle.edit_program.specs.Commands.{answer_of, is_reading}
use Rattle.edit_program.specs.Edit.{report_of}
use Rattle.edit_program.specs.Generate.{own_message, own_params, own_push, own_rebuilt, pushes_below, summary}
use Rattle.edit_program.specs.Laws.{GenIsDone}
use Rattle.input_lines.specs.Report as report

-- ---- pushes stay within a limit

put_within : (pairs : Pairs) (limit key : ℕ) (octets : List ℕ) → IsMap pairs → key < 65536
    → length octets < 65536 → length (wire pairs) ≤ limit
    → (there : Option (List ℕ)) → value_at pairs key ≡ there → (long : Bool)
    → nat_lt limit (length (wire pairs) + 4 + length octets) ≡ long
    → length (wire
    (pairs_after (if is_some there then DuplicateKey else if long then ShortBuf else Accepted)
    pairs key octets)) ≤ limit
put_within pairs limit key octets is_map small few within (Some held) is long tested = within
put_within pairs limit key octets is_map small few within None is true tested = within
put_within pairs limit key octets is_map small few within None is false tested =
    let grown = length-wire-insert pairs key octets is_map small few is in
    let fits : length (wire pairs) + 4 + length octets ≤ limit = grind (arith, nat_tests) in
    omega (arith, grown, fits)

accept_within : (pairs : Pairs) (limit : ℕ) (values : List Value) → IsMap pairs → AreValues values
    → length (wire pairs) ≤ limit
    → length (wire (accept pairs limit values).pairs) ≤ limit
unfolding accept
accept_within pairs limit [] is_map are within = within
accept_within pairs limit (value ∷ values) is_map are within =
    let key = key_of value in
    let octets = encode value in
    accept_within (pairs_after (reply_to pairs limit key octets) pairs key octets) limit values
    (accept-map pairs limit (value ∷ []) is_map (are.0, tt)) are.1
    (put_within pairs limit key octets is_map (key_of_small value are.0.0) are.0.1 within
    (value_at pairs key) refl (nat_lt limit (length (wire pairs) + 4 + length octets)) refl)

-- ---- the data

-- so many of its parameters, from one on
abbrev own_pairs : ℕ → ℕ → Pairs
own_pairs zero i = []
own_pairs (suc left) i = (100 + 8 * i, be2 i) ∷ own_pairs left (i + 1)

own_params-pairs : (left i : ℕ)
    → own_params (i + left) ≡ own_params i ++ pairs_wire (own_pairs left i)
unfolding own_params
own_params-pairs zero i =
    let here : i + 0 ≡ i = omega arith in
    ap own_params here ∙ sym (append-nil (own_params i))
own_params-pairs (suc left) i =
    let next : i + suc left ≡ i + 1 + left = omega arith in
    let rest = pairs_wire (own_pairs left (i + 1)) in
    ap own_params next ∙ own_params-pairs left (i + 1)
    ∙ ap (λ n. own_params n ++ rest) (add-one i)
    ∙ append_assoc (own_params i) (pair_wire (100 + 8 * i) (Some (be2 i))) rest

own_pairs-ascend : (least left i : ℕ) → least ≤ 100 + 8 * i → i + left ≤ 8000
    → Ascends least (own_pairs left i)
own_pairs-ascend least zero i low within = tt
own_pairs-ascend least (suc left) i low within = (
  low,
  omega arith,
  grind arith,
  own_pairs-ascend (100 + 8 * i + 1) left (i + 1) (omega arith)
      (omega arith),
)

length-own_pairs : (left i : ℕ) → length (pairs_wire (own_pairs left i)) ≡ 6 * left
length-own_pairs zero i = refl
length-own_pairs (suc left) i = omega (arith, length-own_pairs left (i + 1))

abbrev own_record : ℕ → Record
own_record count = record { priority = 1; labels = []; pairs = own_pairs count 0 }

module _ (count : ℕ) (within : count ≤ 8000) where
  is_map : IsMap (own_pairs count 0)
  is_map = own_pairs-ascend 0 count 0 (omega arith) (omega arith)

  length-own_wire : length (wire (own_pairs count 0)) ≡ 6 * count
  length-own_wire = ap length (wire-pairs (own_pairs count 0) is_map) ∙ length-own_pairs count 0

  own_message-rdata : own_message count ≡ rdata 1 [] (own_pairs count 0)
  unfolding own_params
  own_message-rdata =
      let start : count ≡ 0 + count = omega arith in
      ap (λ (params : List ℕ). (be2 1 ++ name_wire []) ++ params)
      (ap own_params start ∙ own_params-pairs count 0 ∙ sym (wire-pairs (own_pairs count 0) is_map))

  is_record : IsRecord (own_record count)
  is_record = record {
    priority = omega arith;
    labels = tt;
    is_map = is_map;
    fits = omega (arith, length-own_wire, within);
  }

  own_read : RecordReadBack → read (own_message count) 0 (length (own_message count))
      ≡ Ok (own_record count)
  own_read back = ap (λ (message : List ℕ). read message 0 (length message)) own_message-rdata
      ∙ back (own_record count) is_record

-- ---- the pushes

each_value : (twice : Bool) (push : Value) (values : List Value) → IsValue push → AreValues values
    → AreValues ((if twice then push ∷ push ∷ [] else push ∷ []) ++ values)
each_value true push values is are = (is, (is, are))
each_value false push values is are = (is, are)

own_values : (count : ℕ) → count ≤ 2000 → AreValues (pushes_below count)
unfolding pushes_below
own_values zero within = tt
own_values (suc j) within =
    each_value (j % 4 == 0) (own_push j) (pushes_below j) (omega arith, grind arith)
    (own_values j (omega arith))

-- ---- what is rebuilt

own_done : RecordReadBack → (count : ℕ) → count ≤ 8000 → (rebuilt : Rebuilt)
    × (own_rebuilt count ≡ Ok rebuilt)
unfolding rebuild
own_done back count within =
    let pairs = own_pairs count 0 in
    let pushes = pushes_below (min count 2000) in
    let pushed = accept pairs 65532 pushes in
    let fits : length (wire pairs) ≤ 65532 = omega (arith, length-own_wire count within) in
    let short = accept_within pairs 65532 pushes (is_map count within)
    (own_values (min count 2000) (omega arith)) fits in
    let in_limit : nat_lt 65532 (length (wire pairs)) ≡ false = grind (arith, nat_tests) in
    let in_all : nat_lt 65535 (length (rdata 1 [] pushed.pairs)) ≡ false = grind (arith, nat_tests)
    in (
      record { octets = rdata 1 [] pushed.pairs; replies = pushed.replies },
      ap (λ found. rebuild_of found pushes 65532) (own_read count within back)
          ∙ rw (in_limit, in_all) refl,
    )

pub gen_done : RecordReadBack → GenIsDone
unfolding answer_of is_reading
gen_done back count left =
    let none : List ℕ = [] in
    let none_read : nat_lt MAX_INPUT (length none) ≡ false = grind (arith, nat_tests) in
    let done = own_done back (min count 8000) (omega arith) in
    rw none_read
    (ap (λ rebuilt. (report_of (λ r. report.done_answer (summary r)) rebuilt).status) done.1)
