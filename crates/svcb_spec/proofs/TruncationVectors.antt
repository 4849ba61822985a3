-- What record data is read as where its end is cut off. No proof cites this file.
use Rattle.std.proofs.Common.{◌≡◌, List, ℕ, [], ◌∷◌, Ok, Err, refl, arith}
use Rattle.std.specs.Prelude.{map}
use Rattle.name_spec.specs.Octets.{Short, Form}
use Rattle.name_spec.specs.Names.{name_at, name_within, name_step}
use Rattle.svcb_spec.specs.Params.{IsMap, pairs_at, pairs_within, pairs_step}
use Rattle.svcb_spec.specs.Records.{read}
use Rattle.svcb_spec.proofs.WireLaws.{wire-pairs}

-- ---- two parameters: priority 1, the root, port=53, and one octet under key 5

abbrev octets : List ℕ
octets = 0x00 ∷ 0x01 ∷ 0x00 ∷ 0x00 ∷ 0x03 ∷ 0x00 ∷ 0x02 ∷ 0x00 ∷ 0x35 ∷ 0x00 ∷ 0x05 ∷ 0x00 ∷ 0x01
    ∷ 0xaa ∷ []

-- in the priority and in the name
cut_in_name : map (read octets 0) (0 ∷ 1 ∷ 2 ∷ []) ≡ Err Short ∷ Err Short ∷ Err Short ∷ []
unfolding read name_at name_within name_step
cut_in_name = refl

-- behind the name
cut_behind_name : read octets 0 3 ≡ Ok (record { priority = 1; labels = []; pairs = [] })
unfolding read name_at name_within name_step pairs_at pairs_within pairs_step
cut_behind_name = rw (wire-pairs [] tt) refl

cut_in_first : map (read octets 0) (4 ∷ 5 ∷ 6 ∷ 7 ∷ 8 ∷ [])
    ≡ Err Short ∷ Err Short ∷ Err Short ∷ Err Short ∷ Err Short ∷ []
unfolding read name_at name_within name_step pairs_at pairs_within pairs_step
cut_in_first = refl

-- behind the first parameter
cut_behind_first : read octets 0 9
    ≡ Ok (record { priority = 1; labels = []; pairs = (3, 0x00 ∷ 0x35 ∷ []) ∷ [] })
unfolding read name_at name_within name_step pairs_at pairs_within pairs_step
cut_behind_first =
    let is_map : IsMap ((3, 0x00 ∷ 0x35 ∷ []) ∷ []) = (omega arith, omega arith, omega arith, tt) in
    rw (wire-pairs _ is_map) refl

cut_in_second : map (read octets 0) (10 ∷ 11 ∷ 12 ∷ 13 ∷ [])
    ≡ Err Short ∷ Err Short ∷ Err Short ∷ Err Short ∷ []
unfolding read name_at name_within name_step pairs_at pairs_within pairs_step
cut_in_second = refl

not_cut : read octets 0 14
    ≡ Ok (record { priority = 1; labels = []; pairs = (3, 0x00 ∷ 0x35 ∷ []) ∷ (5, 0xaa ∷ []) ∷ [] })
unfolding read name_at name_within name_step pairs_at pairs_within pairs_step
not_cut =
    let is_map : IsMap ((3, 0x00 ∷ 0x35 ∷ []) ∷ (5, 0xaa ∷ []) ∷ []) =
    (omega arith, omega arith, omega arith, (omega arith, omega arith, omega arith, tt)) in
    rw (wire-pairs _ is_map) refl

-- ---- a key twice: a form error as soon as the second one is there

abbrev twice : List ℕ
twice = 0x00 ∷ 0x01 ∷ 0x00 ∷ 0x00 ∷ 0x03 ∷ 0x00 ∷ 0x00 ∷ 0x00 ∷ 0x03 ∷ 0x00 ∷ 0x00 ∷ []

second_key : map (read twice 0) (8 ∷ 9 ∷ 10 ∷ 11 ∷ [])
    ≡ Err Short ∷ Err Form ∷ Err Form ∷ Err Form ∷ []
unfolding read name_at name_within name_step pairs_at pairs_within pairs_step
second_key = refl

-- ---- a pointer to the label foo, which stands before the data

abbrev pointed : List ℕ
pointed = 0x03 ∷ 0x66 ∷ 0x6f ∷ 0x6f ∷ 0x00 ∷ 0x00 ∷ 0x01 ∷ 0xc0 ∷ 0x00 ∷ []

cut_in_pointer : map (read pointed 5) (2 ∷ 3 ∷ []) ≡ Err Short ∷ Err Short ∷ []
unfolding read name_at name_within name_step
cut_in_pointer = refl

behind_pointer : read pointed 5 4
    ≡ Ok (record { priority = 1; labels = (0x66 ∷ 0x6f ∷ 0x6f ∷ []) ∷ []; pairs = [] })
unfolding read name_at name_within name_step pairs_at pairs_within pairs_step
behind_pointer = rw (wire-pairs [] tt) refl
