-- Counts of parameters, and octets in buffers.
use Rattle.std.proofs.Common.{◌≡◌, ℕ, zero, suc, ◌+◌, ◌≤◌, List, [], ◌∷◌, ◌++◌, length, take, drop, arith, length-append, subst, sym, append_assoc}
use Rattle.std.proofs.lemmas.List.{length-take-le, take-append-drop}
use Rattle.std.proofs.lemmas.Slice.{drop-append-drop}
use Rattle.std.proofs.lemmas.Grind.{drop_more_same}
use Rattle.svcb_spec.specs.Params.{Pairs, wire, IsMap, pairs_wire}
use Rattle.svcb_spec.proofs.WireLaws.{wire-pairs}

wire_long : (pairs : Pairs) → length pairs ≤ length (pairs_wire pairs)
wire_long [] = omega arith
wire_long (pair ∷ pairs) = let again = wire_long pairs in grind (arith, again, length-append)

-- a map has at most as many pairs as octets
pub few_pairs : (pairs : Pairs) → IsMap pairs → length pairs ≤ length (wire pairs)
few_pairs pairs is_map =
    subst (λ octets. length pairs ≤ length octets) (sym (wire-pairs pairs is_map))
    (wire_long pairs)

-- behind octets that were written over others stand those that stood there
pub put_back : (at : ℕ) (xs part : List ℕ) → at + length part ≤ length xs
    → drop (at + length part) (take at xs ++ part ++ drop (at + length part) xs)
    ≡ drop (at + length part) xs
put_back at xs part fits =
    let short = length-take-le at xs (omega arith) in
    drop-append-drop (at + length part) xs (take at xs ++ part) (at + length part) (omega arith)
    (omega (arith, short, length-append (take at xs) part))

-- what is the same from a place on is the same from each later place on
pub drop_further : (xs ys : List ℕ) (i n : ℕ) → drop i xs ≡ drop i ys
    → drop (i + n) xs ≡ drop (i + n) ys
drop_further xs ys i zero is =
    let e : i ≡ i + 0 = omega arith in
    subst (λ k. drop k xs ≡ drop k ys) e is
drop_further xs ys i (suc n) is =
    let more = drop_more_same xs ys (i + n) (drop_further xs ys i n is) in
    let e : i + n + 1 ≡ i + suc n = omega arith in
    subst (λ k. drop k xs ≡ drop k ys) e more

pub label_appended : (xs label rest : List ℕ)
    → (xs ++ (length label ∷ label)) ++ rest ≡ xs ++ (length label ∷ label ++ rest)
label_appended xs label rest = append_assoc xs (length label ∷ label) rest

pub ruleset put_rules =
    (put_back, drop_further, label_appended, take-append-drop, length-append)
