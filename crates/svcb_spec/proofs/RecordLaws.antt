-- Records read back from their octets, and records that were read.
use Rattle.std.proofs.Common.{◌≡◌, ℕ, ◌+◌, ◌<◌, ◌≤◌, false, List, [], ◌++◌, length, drop, None, Result, Ok, Err, refl, sym, ap, ◌∙◌, arith, subst, length-append, ⊎_elim}
use Rattle.std.specs.Prelude.{nat_lt, slice_index}
use Rattle.std.proofs.lemmas.List.{append-nil}
use Rattle.std.proofs.lemmas.Bool.{cases_lt}
use Rattle.std.proofs.lemmas.Bool.Decides.{nat_tests}
use Rattle.name_spec.specs.Octets.{Fault, be2, number_at}
use Rattle.name_spec.specs.Names.{NameRead, name_at, name_wire, AreLabels}
use Rattle.svcb_spec.specs.Params.{Pairs, pairs_step, pairs_at, pairs_wire, wire}
use Rattle.svcb_spec.specs.Records.{Record, rdata, IsRecord, read}
use Rattle.name_spec.proofs.OwnedNameLaws.{name_at-wire, AreLabels-read}
use Rattle.svcb_spec.proofs.WireLaws.{wire-pairs}
use Rattle.svcb_spec.proofs.ReadPairs.{pairs_at-read}
use Rattle.svcb_spec.proofs.PairLaws.{pairs_at-step}
use Rattle.svcb_spec.proofs.PairsBack.{drop-behind, number_at-be2, pairs_at-back}

-- the octets of a record
abbrev pub record_octets : Record → List ℕ
record_octets found = rdata found.priority found.labels found.pairs

pub length-record_octets : (found : Record)
    → length (record_octets found) ≡ 2 + length (name_wire found.labels) + length (wire found.pairs)
length-record_octets found =
    omega (arith, length-append (name_wire found.labels) (wire found.pairs))

-- the tests of `read` for data that is read without a fault
read_by : (message : List ℕ) (start len : ℕ) (name : NameRead) (pairs : Pairs) → len < 65536
    → 2 ≤ len
    → name_at message (start + len) (start + 2) 0 0 ≡ Ok name
    → pairs_at message (start + len) name.next None ≡ Ok pairs
    → 2 + length (name_wire name.labels) + length (wire pairs) < 65536
    → read message start len
    ≡ Ok (record { priority = number_at message start; labels = name.labels; pairs = pairs })
unfolding read
read_by message start len name pairs few some name_is pairs_are all_few =
    let e1 : nat_lt 65535 len ≡ false = grind (arith, nat_tests) in
    let e2 : nat_lt len 2 ≡ false = grind (arith, nat_tests) in
    let e3 : nat_lt 65535 (2 + length (name_wire name.labels) + length (wire pairs)) ≡ false =
    grind (arith, nat_tests) in
    rw (e1, e2, name_is, pairs_are, e3) refl

-- the octets of a record are read as that record
pub read-rdata : (found : Record) → IsRecord found
    → read (record_octets found) 0 (length (record_octets found)) ≡ Ok found
read-rdata found is =
    let octets : List ℕ = record_octets found in
    let name : List ℕ = name_wire found.labels in
    let end : ℕ = 0 + length octets in
    let in_order : wire found.pairs ≡ pairs_wire found.pairs = wire-pairs found.pairs is.is_map in
    let all : drop 0 octets ≡ be2 found.priority ++ (name ++ wire found.pairs) = refl in
    let at_name : drop (0 + 2) octets ≡ name ++ wire found.pairs =
    drop-behind octets (be2 found.priority) (name ++ wire found.pairs) 0 all in
    let at_pairs : drop (2 + length name) octets ≡ pairs_wire found.pairs ++ [] =
    drop-behind octets name (wire found.pairs) 2 at_name ∙ in_order
    ∙ sym (append-nil (pairs_wire found.pairs)) in
    let long : length octets ≡ 2 + length name + length (wire found.pairs) =
    length-record_octets found in
    let as_long : length (wire found.pairs) ≡ length (pairs_wire found.pairs) = ap length in_order
    in
    let name_is = name_at-wire found.labels octets (wire found.pairs) end 2 0 0 is.labels
    (omega arith) at_name in
    let pairs_are =
    pairs_at-back octets [] found.pairs end (2 + length name) None at_pairs
    (omega arith) is.is_map in
    let few = is.fits in
    read_by octets 0 (length octets) (record { labels = found.labels; next = 2 + length name })
    found.pairs few (omega arith) name_is pairs_are (omega arith)
    ∙ ap (λ (priority : ℕ). Ok
    (record { priority = priority; labels = found.labels; pairs = found.pairs }))
    (number_at-be2 octets (name ++ wire found.pairs) found.priority 0 all)

same_record : (x y : Record) (r : Result Record Fault) → r ≡ Ok x → r ≡ Ok y → x ≡ y
same_record x y r is_x is_y = cc

-- records with the same octets are one
pub one_record : (a b : Record) → IsRecord a → IsRecord b → record_octets a ≡ record_octets b
    → a ≡ b
one_record a b is_a is_b same =
    same_record a b (read (record_octets a) 0 (length (record_octets a))) (read-rdata a is_a)
    (ap (λ octets. read octets 0 (length octets)) same ∙ read-rdata b is_b)

-- ---- what was read

-- what is known of data that was read
pub record ReadParts (message : List ℕ) (start len : ℕ) (found : Record) : Type 0 where
  pub few : len < 65536
  pub some : 2 ≤ len
  pub name : NameRead
  pub name_is : name_at message (start + len) (start + 2) 0 0 ≡ Ok name
  pub pairs_are : pairs_at message (start + len) name.next None ≡ Ok found.pairs
  pub priority : found.priority ≡ number_at message start
  pub labels : found.labels ≡ name.labels
  pub all_few : length (record_octets found) < 65536

module _ (message : List ℕ) (start len : ℕ) (found : Record) where
  abbrev end : ℕ
  end = start + len

  parts_by_pairs : (name : NameRead) (pairs : Result Pairs Fault)
      → name_at message end (start + 2) 0 0 ≡ Ok name → pairs_at message end name.next None ≡ pairs
      → read message start len ≡ Ok found → ReadParts message start len found
  unfolding read
  parts_by_pairs name (Err fault) name_is pairs_are is = absurd (grind (arith, nat_tests))
  parts_by_pairs name (Ok pairs) name_is pairs_are is =
      let few : len < 65536 = grind (arith, nat_tests) in
      let some : 2 ≤ len = grind (arith, nat_tests) in
      let same : found
      ≡ record { priority = number_at message start; labels = name.labels; pairs = pairs } =
      grind (arith, nat_tests) in
      let all_few : 2 + length (name_wire name.labels) + length (wire pairs) < 65536 =
      grind (arith, nat_tests) in
      let long = length-record_octets
      (record { priority = number_at message start; labels = name.labels; pairs = pairs }) in
      rw same (record {
        few = few;
        some = some;
        name = name;
        name_is = name_is;
        pairs_are = pairs_are;
        priority = refl;
        labels = refl;
        all_few = omega arith;
      })

  parts_by_name : (name : Result NameRead Fault) → name_at message end (start + 2) 0 0 ≡ name
      → read message start len ≡ Ok found → ReadParts message start len found
  unfolding read
  parts_by_name (Err fault) name_is is = absurd (grind (arith, nat_tests))
  parts_by_name (Ok name) name_is is =
      parts_by_pairs name (pairs_at message end name.next None) name_is refl is

  pub read_parts : read message start len ≡ Ok found → ReadParts message start len found
  read_parts is = parts_by_name (name_at message end (start + 2) 0 0) refl is

-- pairs are read up to the end of the data
read_within : (message : List ℕ) (end pos : ℕ) (pairs : Pairs)
    → pairs_at message end pos None ≡ Ok pairs → pos ≤ end
unfolding pairs_step
read_within message end pos pairs is = ⊎_elim
    (λ (past : end < pos). absurd (let by_step = sym (pairs_at-step message end pos None) ∙ is
    in grind (arith, nat_tests)))
    (λ (here : pos ≤ end). here)
    (cases_lt end pos)

-- a record that was read is one
pub IsRecord-read : (message : List ℕ) (start len : ℕ) (found : Record)
    → ((i : ℕ) → slice_index message i < 256) → start + len ≤ length message
    → read message start len ≡ Ok found → IsRecord found
IsRecord-read message start len found small in_message is =
    let parts = read_parts message start len found is in
    let labels = AreLabels-read message (start + len) (start + 2) 0 0 parts.name in_message
    parts.name_is in
    let known = pairs_at-read message (start + len) small in_message parts.name.next None
    found.pairs (read_within message (start + len) parts.name.next found.pairs parts.pairs_are)
    parts.pairs_are in
    let high = small start in
    let low = small (start + 1) in
    record {
      priority = omega (arith, parts.priority);
      labels = subst (AreLabels 0) (sym parts.labels) labels;
      is_map = known.ascend;
      fits = parts.all_few;
    }
