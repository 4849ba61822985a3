-- What rebuilding leaves. Offered to the crates above: `accept-holds`, `value_at-put` and
-- `rebuilt_read_back`.
use Rattle.std.proofs.Common.{◌≡◌, ◌≢◌, ℕ, ◌<◌, ◌≤◌, false, List, [], ◌∷◌, length, Some, Ok, refl, sym, ap, ◌∙◌, arith, Less, Equal, Greater, inl, inr, ⊎_elim}
use Rattle.std.specs.Prelude.{nat_lt, ◌↔◌}
use Rattle.std.specs.Ordering.{nat_cmp}
use Rattle.std.specs.Cmp.{nat_cmp_is}
use Rattle.std.specs.BTreeMap.{insert_entry}
use Rattle.std.proofs.lemmas.Bool.{cases_lt, cases_eq}
use Rattle.std.proofs.lemmas.Bool.Decides.{nat_tests}
use Rattle.svcb_spec.specs.declared.Reply.{Reply}
use Rattle.svcb_spec.specs.declared.Reply.TheVariants.{Accepted, DuplicateKey, ShortBuf}
use Rattle.svcb_spec.specs.Params.{Pair, Pairs, value_at, wire, IsMap}
use Rattle.svcb_spec.specs.Values.{Value, key_of, encode, IsValue, AreValues}
use Rattle.svcb_spec.specs.Records.{Record, IsRecord, read}
use Rattle.svcb_spec.specs.Rebuilding.{reply_to, pairs_after, accept, Rebuilt, rebuild_read, rebuild_of, rebuild, with_accepted, AreHeld, IsRebuilding}
use Rattle.svcb_spec.proofs.WireLaws.{IsMap-insert}
use Rattle.svcb_spec.proofs.ItemLaws.{small_octets}
use Rattle.svcb_spec.proofs.ValueLaws.{key_of_small}
use Rattle.svcb_spec.proofs.RecordLaws.{record_octets, read-rdata, one_record, IsRecord-read}

-- ---- maps

less : (k n : ℕ) → k < n → nat_cmp k n ≡ Less
less k n below = sym (nat_cmp_is k n Less below)

greater : (k n : ℕ) → n < k → nat_cmp k n ≡ Greater
greater k n above = sym (nat_cmp_is k n Greater above)

equal : (k n : ℕ) → k ≡ n → nat_cmp k n ≡ Equal
equal k n same = sym (nat_cmp_is k n Equal same)

first_value : (key : ℕ) (pair : Pair) (pairs : Pairs) → key ≡ pair.0
    → value_at (pair ∷ pairs) key ≡ Some pair.1
first_value key pair pairs same = rw (equal key pair.0 same) refl

later_value : (key : ℕ) (pair : Pair) (pairs : Pairs) → key ≢ pair.0
    → value_at (pair ∷ pairs) key ≡ value_at pairs key
later_value key pair pairs apart = ⊎_elim
    (λ (below : key < pair.0). rw (less key pair.0 below) refl)
    (λ (above : pair.0 ≤ key). rw (greater key pair.0 (omega arith)) refl)
    (cases_lt key pair.0)

-- where a pair is put
put_before : (pair : Pair) (pairs : Pairs) (key : ℕ) (value : List ℕ) → key < pair.0
    → insert_entry nat_cmp (pair ∷ pairs) key value ≡ (key, value) ∷ pair ∷ pairs
put_before pair pairs key value below = rw (less key pair.0 below) refl

put_at : (pair : Pair) (pairs : Pairs) (key : ℕ) (value : List ℕ) → key ≡ pair.0
    → insert_entry nat_cmp (pair ∷ pairs) key value ≡ (pair.0, value) ∷ pairs
put_at pair pairs key value same = rw (equal key pair.0 same) refl

put_behind : (pair : Pair) (pairs : Pairs) (key : ℕ) (value : List ℕ) → pair.0 < key
    → insert_entry nat_cmp (pair ∷ pairs) key value ≡ pair ∷ insert_entry nat_cmp pairs key value
put_behind pair pairs key value above = rw (greater key pair.0 above) refl

-- the value under a key that is put into a map
pub value_at-put : (pairs : Pairs) (key : ℕ) (value : List ℕ)
    → value_at (insert_entry nat_cmp pairs key value) key ≡ Some value
value_at-put [] key value = first_value key (key, value) [] refl
value_at-put (pair ∷ pairs) key value = elim (cases_lt key pair.0) [
  | inl below ↦ ap (λ ps. value_at ps key) (put_before pair pairs key value below)
      ∙ first_value key (key, value) (pair ∷ pairs) refl
  | inr not_below ↦ elim (cases_eq key pair.0) [
    | inl same ↦ ap (λ ps. value_at ps key) (put_at pair pairs key value same)
        ∙ first_value key (pair.0, value) pairs same
    | inr apart ↦
        ap (λ ps. value_at ps key) (put_behind pair pairs key value (omega arith))
        ∙ later_value key pair (insert_entry nat_cmp pairs key value) apart
        ∙ value_at-put pairs key value
  ]
]

same_rest : (other : ℕ) (pair : Pair) (ps qs : Pairs) → value_at ps other ≡ value_at qs other
    → value_at (pair ∷ ps) other ≡ value_at (pair ∷ qs) other
same_rest other pair ps qs same = elim (cases_eq other pair.0) [
  | inl is ↦ first_value other pair ps is ∙ sym (first_value other pair qs is)
  | inr apart ↦ later_value other pair ps apart ∙ same ∙ sym (later_value other pair qs apart)
]

-- other keys keep their values
pub value_at-kept : (pairs : Pairs) (key : ℕ) (value : List ℕ) (other : ℕ) → other ≢ key
    → value_at (insert_entry nat_cmp pairs key value) other ≡ value_at pairs other
value_at-kept [] key value other apart = later_value other (key, value) [] apart
value_at-kept (pair ∷ pairs) key value other apart = elim (cases_lt key pair.0) [
  | inl below ↦ ap (λ ps. value_at ps other) (put_before pair pairs key value below)
      ∙ later_value other (key, value) (pair ∷ pairs) apart
  | inr not_below ↦ elim (cases_eq key pair.0) [
    | inl same ↦
        ap (λ ps. value_at ps other) (put_at pair pairs key value same)
        ∙ later_value other (pair.0, value) pairs (λ is. apart (is ∙ sym same))
        ∙ sym (later_value other pair pairs (λ is. apart (is ∙ sym same)))
    | inr past ↦
        ap (λ ps. value_at ps other) (put_behind pair pairs key value (omega arith))
        ∙ same_rest other pair (insert_entry nat_cmp pairs key value) pairs
        (value_at-kept pairs key value other apart)
  ]
]

-- ---- pushes

-- a push keeps a map
after-map : (reply : Reply) (pairs : Pairs) (value : Value) → IsMap pairs → IsValue value
    → IsMap (pairs_after reply pairs (key_of value) (encode value))
after-map Accepted pairs value is_map is =
    IsMap-insert pairs (key_of value) (encode value) is_map (key_of_small value is.0) is.1
after-map DuplicateKey pairs value is_map is = is_map
after-map ShortBuf pairs value is_map is = is_map

-- pushes keep a map
pub accept-map : (pairs : Pairs) (limit : ℕ) (values : List Value) → IsMap pairs → AreValues values
    → IsMap (accept pairs limit values).pairs
unfolding accept
accept-map pairs limit [] is_map are = is_map
accept-map pairs limit (value ∷ values) is_map are =
    let reply = reply_to pairs limit (key_of value) (encode value) in
    accept-map (pairs_after reply pairs (key_of value) (encode value)) limit values
    (after-map reply pairs value is_map are.0) are.1

duplicate : (pairs : Pairs) (limit key : ℕ) (octets held : List ℕ) → value_at pairs key ≡ Some held
    → reply_to pairs limit key octets ≡ DuplicateKey
duplicate pairs limit key octets held there = rw there refl

-- a key that is there keeps its value behind a push
after-kept : (pairs : Pairs) (limit : ℕ) (value : Value) (key : ℕ) (held : List ℕ)
    → value_at pairs key ≡ Some held
    → value_at (pairs_after (reply_to pairs limit (key_of value) (encode value)) pairs
    (key_of value) (encode value)) key ≡ Some held
after-kept pairs limit value key held there = elim (cases_eq key (key_of value)) [
  | inl same ↦
      ap (λ r. value_at (pairs_after r pairs (key_of value) (encode value)) key)
      (duplicate pairs limit (key_of value) (encode value) held
      (ap (value_at pairs) (sym same) ∙ there)) ∙ there
  | inr apart ↦ by_reply (reply_to pairs limit (key_of value) (encode value)) apart
]
  where
    by_reply : (reply : Reply) → key ≢ key_of value
        → value_at (pairs_after reply pairs (key_of value) (encode value)) key ≡ Some held
    by_reply Accepted apart = value_at-kept pairs (key_of value) (encode value) key apart ∙ there
    by_reply DuplicateKey apart = there
    by_reply ShortBuf apart = there

-- and behind all pushes
accept-kept : (pairs : Pairs) (limit : ℕ) (values : List Value) (key : ℕ) (held : List ℕ)
    → value_at pairs key ≡ Some held → value_at (accept pairs limit values).pairs key ≡ Some held
unfolding accept
accept-kept pairs limit [] key held there = there
accept-kept pairs limit (value ∷ values) key held there =
    let reply = reply_to pairs limit (key_of value) (encode value) in
    accept-kept (pairs_after reply pairs (key_of value) (encode value)) limit values key held
    (after-kept pairs limit value key held there)

-- a value that was accepted is the one under its key
pub accept-holds : (pairs : Pairs) (limit : ℕ) (values : List Value)
    → AreHeld (accept pairs limit values).pairs values (accept pairs limit values).replies
unfolding accept
accept-holds pairs limit [] = tt
accept-holds pairs limit (value ∷ values) =
    let reply = reply_to pairs limit (key_of value) (encode value) in (
      λ is. accept-kept (pairs_after reply pairs (key_of value) (encode value)) limit values
          (key_of value) (encode value)
          (ap (λ r. value_at (pairs_after r pairs (key_of value) (encode value)) (key_of value)) is
          ∙ value_at-put pairs (key_of value) (encode value)),
      accept-holds (pairs_after reply pairs (key_of value) (encode value)) limit values,
    )

-- ---- what was rebuilt

-- what is known of a result
record IsDone (found : Record) (values : List Value) (limit : ℕ) (done : Rebuilt) : Type 0 where
  few : length (record_octets (with_accepted found values limit)) < 65536
  is : done ≡ record {
    octets = record_octets (with_accepted found values limit);
    replies = (accept found.pairs limit values).replies;
  }

read_done : (found : Record) (values : List Value) (limit : ℕ) (done : Rebuilt)
    → rebuild_read found values limit ≡ Ok done → IsDone found values limit done
read_done found values limit done is =
    let few : length (record_octets (with_accepted found values limit)) < 65536 =
    grind (arith, nat_tests) in
    record {
      few = few;
      is = grind (arith, nat_tests);
    }

module _ (message : List ℕ) (start len : ℕ) (values : List Value) (limit : ℕ) (found : Record)
    (done : Rebuilt) (is : IsRebuilding message start len values limit found done) where
  by_read : rebuild_read found values limit ≡ Ok done
  unfolding rebuild
  by_read = ap (λ r. rebuild_of r values limit) (sym is.read) ∙ is.rebuilt

  known : IsDone found values limit done
  known = read_done found values limit done by_read

  -- the record that was rebuilt
  accepted_is : IsRecord (with_accepted found values limit)
  accepted_is =
      let was = IsRecord-read message start len found
      (small_octets message is.octets) is.in_message is.read in
      record {
        priority = was.priority;
        labels = was.labels;
        is_map = accept-map found.pairs limit values was.is_map is.are_values;
        fits = known.few;
      }

  done_octets : done.octets ≡ record_octets (with_accepted found values limit)
  done_octets = ap (λ (d : Rebuilt). d.octets) known.is

  -- what was rebuilt is read back
  pub rebuilt_read_back : read done.octets 0 (length done.octets)
      ≡ Ok (with_accepted found values limit)
  rebuilt_read_back =
      ap (λ octets. read octets 0 (length octets)) done_octets
      ∙ read-rdata (with_accepted found values limit) accepted_is

  -- and rebuilt with no pushes it stays
  pub rebuilt_again : (other : ℕ) → length (wire (with_accepted found values limit).pairs) ≤ other
      → rebuild done.octets 0 (length done.octets) [] other
      ≡ Ok (record { octets = done.octets; replies = [] })
  unfolding rebuild accept
  rebuilt_again other within =
      let final = with_accepted found values limit in
      let e1 : nat_lt other (length (wire final.pairs)) ≡ false = grind (arith, nat_tests) in
      let e2 : nat_lt 65535 (length (record_octets final)) ≡ false =
      (let few = known.few in grind (arith, nat_tests)) in
      ap (λ r. rebuild_of r [] other) rebuilt_read_back
      ∙ rw (e1, e2) refl
      ∙ ap (λ (octets : List ℕ). Ok (record { octets = octets; replies = [] })) (sym done_octets)

-- results have equal octets exactly where the records are equal
pub canonical_form : (message : List ℕ) (start len : ℕ) (values : List Value) (limit : ℕ)
    (found : Record) (done : Rebuilt)
    → (message' : List ℕ) (start' len' : ℕ) (values' : List Value) (limit' : ℕ) (found' : Record)
    (done' : Rebuilt)
    → IsRebuilding message start len values limit found done
    → IsRebuilding message' start' len' values' limit' found' done'
    → (done.octets ≡ done'.octets)
    ↔ (with_accepted found values limit ≡ with_accepted found' values' limit')
canonical_form message start len values limit found done message' start' len' values' limit' found'
    done' is is' =
    let one = done_octets message start len values limit found done is in
    let two = done_octets message' start' len' values' limit' found' done' is' in (
      λ same. one_record _ _ (accepted_is message start len values limit found done is)
          (accepted_is message' start' len' values' limit' found' done' is') (sym one ∙ same ∙ two),
      λ same. one ∙ ap record_octets same ∙ sym two,
    )
