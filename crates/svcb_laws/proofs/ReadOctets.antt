-- What is read of octets is made of octets. Offered to the crates above: `name_octets`,
-- `pairs_octets` and `read_data`.
use Rattle.std.proofs.Common.{◌≡◌, ℕ, zero, suc, ◌+◌, ◌-◌, ◌<◌, Bool, true, false, cond, List, [], ◌∷◌, take, drop, Option, None, Some, Result, Ok, Err, refl, sym, subst, arith}
use Rattle.std.proofs.lemmas.Bool.Decides.{nat_tests}
use Rattle.std.specs.Prelude.{slice_range, slice_index, nat_lt, nat_le, ◌==◌, not, ◌||◌, ◌%◌, ◌*◌}
use Rattle.std.specs.List.{flat_map, AllByRecursion}
use Rattle.name_spec.specs.Names.{NameRead, Reading, with_label, by_pointer, label_step, pointer_step, name_step, name_within, name_at}
use Rattle.name_spec.specs.Octets.{Fault, Short, Form, number_at}
use Rattle.name_spec.specs.AddressLaws.{AreOctets}
use Rattle.svcb_spec.specs.Params.{Pair, Pairs, is_above, with_pair, pair_step, pairs_step, pairs_within, pairs_at}
use Rattle.svcb_spec.specs.Records.{Record, IsRecord, read}
use Rattle.svcb_laws.specs.ParamTextLaws.{HaveOctets}
use Rattle.svcb_laws.specs.DataTextLaws.{IsRecordOfOctets}
use Rattle.svcb_laws.proofs.DataOctets.{octets_joined}

-- a part of octets is made of octets

octets_behind : (n : ℕ) (octets : List ℕ) → AreOctets octets → AreOctets (drop n octets)
octets_behind zero octets are = are
octets_behind (suc n) [] are = tt
octets_behind (suc n) (c ∷ octets) are = octets_behind n octets are.1

octets_before : (n : ℕ) (octets : List ℕ) → AreOctets octets → AreOctets (take n octets)
octets_before zero octets are = tt
octets_before (suc n) [] are = tt
octets_before (suc n) (c ∷ octets) are = (are.0, octets_before n octets are.1)

octets_range : (octets : List ℕ) (a b : ℕ) → AreOctets octets → AreOctets (slice_range octets a b)
octets_range octets a b are = octets_before (b - a) (drop a octets) (octets_behind a octets are)

-- where one of two answers is a success, it is the first or the other
either : {X E : Type 0} {P : Type 0} (test : Bool) (first other : Result X E) (x : X)
    → cond test first other ≡ Ok x → (first ≡ Ok x → P) → (other ≡ Ok x → P) → P
either true first other x is by_first by_other = by_first is
either false first other x is by_first by_other = by_other is

-- and where the first is a refusal, it is the other
second : {X E : Type 0} (test : Bool) (fault : E) (other : Result X E) (x : X)
    → cond test (Err fault) other ≡ Ok x → other ≡ Ok x
second true fault other x is = absurd cc
second false fault other x is = is

module _ (message : List ℕ) (end : ℕ) (are : AreOctets message) where
  -- ---- names

  abbrev HasOctets : NameRead → Type 0
  HasOctets name = AreOctets (flat_map (λ label. label) name.labels)

  -- all that is read so
  abbrev ReadsOctets : Result NameRead Fault → Type 0
  ReadsOctets answer = (name : NameRead) → answer ≡ Ok name → HasOctets name

  refused_octets : (fault : Fault) → ReadsOctets (Err fault)
  refused_octets fault name is = absurd cc

  with_label-octets : (label : List ℕ) (rest : Result NameRead Fault) → AreOctets label
      → ReadsOctets rest → ReadsOctets (with_label label rest)
  with_label-octets label (Err fault) octets good name is = absurd cc
  with_label-octets label (Ok found) octets good name is =
      let same : record { labels = label ∷ found.labels; next = found.next } ≡ name = cc in
      subst HasOctets same
      (octets_joined label (flat_map (λ l. l) found.labels) octets (good found refl))

  by_pointer-octets : (next : ℕ) (target : Result NameRead Fault) → ReadsOctets target
      → ReadsOctets (by_pointer next target)
  by_pointer-octets next (Err fault) good name is = absurd cc
  by_pointer-octets next (Ok found) good name is =
      let same : record { labels = found.labels; next = next } ≡ name = cc in
      subst HasOctets same (good found refl)

  name_step-octets : (again : Reading) (pos octets pointers : ℕ)
      → ((pos' octets' pointers' : ℕ) → ReadsOctets (again pos' octets' pointers'))
      → ReadsOctets (name_step again message end pos octets pointers)
  unfolding name_step
  name_step-octets again pos octets pointers good name is =
      let first = slice_index message pos in
      let target = (slice_index message pos % 64) * 256 + slice_index message (pos + 1) in
      either (first == 0) (Ok (record { labels = []; next = pos + 1 })) _ name
      (second (nat_le end pos) Short _ name is)
      (λ root. let same : record { labels = []; next = pos + 1 } ≡ name = cc
      in subst HasOctets same tt)
      (λ other. either (nat_lt first 64) (label_step again message end pos octets pointers) _ name
      other
      (λ label. with_label-octets (slice_range message (pos + 1) (pos + 1 + first))
      (again (pos + 1 + first) (octets + first + 1) pointers)
      (octets_range message (pos + 1) (pos + 1 + first) are)
      (good (pos + 1 + first) (octets + first + 1) pointers) name
      (second (nat_lt 254 (octets + first + 1)) Form _ name
      (second (nat_lt end (pos + 1 + first)) Short _ name label)))
      (λ high. by_pointer-octets (pos + 2) (again target octets (pointers + 1))
      (good target octets (pointers + 1)) name
      (second (nat_le pos target || nat_le 255 pointers) Form _ name
      (second (nat_le end (pos + 1)) Short _ name
      (second (nat_lt first 192) Form (pointer_step again message end pos octets pointers) name
      high)))))

  name_within-octets : (steps pos octets pointers : ℕ)
      → ReadsOctets (name_within steps message end pos octets pointers)
  unfolding name_within
  name_within-octets zero pos octets pointers =
      name_step-octets (λ _ _ _. Err Form) pos octets pointers (λ _ _ _. refused_octets Form)
  name_within-octets (suc steps) pos octets pointers =
      name_step-octets (name_within steps message end) pos octets pointers
      (name_within-octets steps)

  pub name_octets : (pos : ℕ) → ReadsOctets (name_at message end pos 0 0)
  unfolding name_at
  name_octets pos = name_within-octets ((254 - 0) + (255 - 0)) pos 0 0

  -- ---- pairs

  abbrev ReadsPairs : Result Pairs Fault → Type 0
  ReadsPairs answer = (pairs : Pairs) → answer ≡ Ok pairs → HaveOctets pairs

  refused_pairs : (fault : Fault) → ReadsPairs (Err fault)
  refused_pairs fault pairs is = absurd cc

  with_pair-octets : (pair : Pair) (rest : Result Pairs Fault) → AreOctets pair.1 → ReadsPairs rest
      → ReadsPairs (with_pair pair rest)
  with_pair-octets pair (Err fault) octets good pairs is = absurd cc
  with_pair-octets pair (Ok found) octets good pairs is =
      let same : pair ∷ found ≡ pairs = cc in
      subst HaveOctets same (octets, good found refl)

  pairs_step-octets : (again : ℕ → Option ℕ → Result Pairs Fault) (pos : ℕ) (last : Option ℕ)
      → ((pos' : ℕ) (last' : Option ℕ) → ReadsPairs (again pos' last'))
      → ReadsPairs (pairs_step again message end pos last)
  unfolding pairs_step
  pairs_step-octets again pos last good pairs is =
      let key = number_at message pos in
      let n = number_at message (pos + 2) in
      either (pos == end) (Ok []) _ pairs is
      (λ none. let same : [] ≡ pairs = cc in subst HaveOctets same tt)
      (λ some. with_pair-octets (key, slice_range message (pos + 4) (pos + 4 + n))
      (again (pos + 4 + n) (Some key))
      (octets_range message (pos + 4) (pos + 4 + n) are) (good (pos + 4 + n) (Some key)) pairs
      (second (nat_lt end (pos + 4 + n)) Short _ pairs (second (nat_lt end (pos + 4)) Short _ pairs
      (second (not (is_above last key)) Form (pair_step again message end pos) pairs
      (second (nat_lt end (pos + 2)) Short _ pairs some)))))

  pairs_within-octets : (steps pos : ℕ) (last : Option ℕ)
      → ReadsPairs (pairs_within steps message end pos last)
  unfolding pairs_within
  pairs_within-octets zero pos last =
      pairs_step-octets (λ _ _. Err Short) pos last (λ _ _. refused_pairs Short)
  pairs_within-octets (suc steps) pos last =
      pairs_step-octets (pairs_within steps message end) pos last (pairs_within-octets steps)

  pub pairs_octets : (pos : ℕ) (last : Option ℕ) → ReadsPairs (pairs_at message end pos last)
  unfolding pairs_at
  pairs_octets pos last = pairs_within-octets (end - pos) pos last

-- ---- records

pub each_octet : (octets : List ℕ) → AreOctets octets → AllByRecursion (λ octet. octet < 256) octets
each_octet [] are = tt
each_octet (c ∷ octets) are = (are.0, each_octet octets are.1)

module _ (message : List ℕ) (start len : ℕ) (found : Record) (are : AreOctets message) where
  by_pairs : (name : NameRead) (pairs : Result Pairs Fault)
      → name_at message (start + len) (start + 2) 0 0 ≡ Ok name
      → pairs_at message (start + len) name.next None ≡ pairs → read message start len ≡ Ok found
      → IsRecord found → IsRecordOfOctets found
  unfolding read
  by_pairs name (Err fault) name_is pairs_are is is_record = absurd (grind (arith, nat_tests))
  by_pairs name (Ok pairs) name_is pairs_are is is_record =
      let same : found
      ≡ record { priority = number_at message start; labels = name.labels; pairs = pairs } =
      grind (arith, nat_tests) in
      record {
        is_record = is_record;
        labels = subst (λ r. AreOctets (flat_map (λ label. label) r.labels)) (sym same)
            (name_octets message (start + len) are (start + 2) name name_is);
        values = subst (λ r. HaveOctets r.pairs) (sym same)
            (pairs_octets message (start + len) are name.next None pairs pairs_are);
      }

  by_name : (name : Result NameRead Fault) → name_at message (start + len) (start + 2) 0 0 ≡ name
      → read message start len ≡ Ok found → IsRecord found → IsRecordOfOctets found
  unfolding read
  by_name (Err fault) name_is is is_record = absurd (grind (arith, nat_tests))
  by_name (Ok name) name_is is is_record =
      by_pairs name (pairs_at message (start + len) name.next None) name_is refl is is_record

  -- a record that was read of octets is made of octets
  pub read_data : read message start len ≡ Ok found → IsRecord found → IsRecordOfOctets found
  read_data is is_record = by_name (name_at message (start + len) (start + 2) 0 0) refl is is_record
