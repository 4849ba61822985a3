-- Protocols that are added one after the other.
use Rattle.std.proofs.Common.{◌≡◌, ℕ, suc, ◌+◌, ◌<◌, ◌≤◌, List, [], ◌∷◌, ◌++◌, length, drop, take, get_or, false, refl, sym, ap, ◌∙◌, append-nil, length-append, add-one, arith}
use Rattle.std.specs.Prelude.{◌==◌, nat_lt}
use Rattle.std.proofs.Math.Seq.{drop-cons, take-suc}
use Rattle.std.proofs.lemmas.Bool.Decides.{nat_tests}
use Rattle.std.proofs.lemmas.List.Concat.{flat_map-append}
use Rattle.svcb_spec.specs.Values.{protocols_wire}
use Rattle.svcb_spec.specs.BuildingValues.{IsProtocolLength}
use Rattle.svcb_params.specs.ValueFaults.{alpn_fault_behind}

-- one more protocol has its octet of length, and its own octets
pub added_len : (protocols : List (List ℕ)) (protocol : List ℕ)
    → length (protocols_wire (protocols ++ protocol ∷ []))
    ≡ length (protocols_wire protocols) + 1 + length protocol
added_len protocols protocol =
    ap length (flat_map-append (λ (p : List ℕ). length p ∷ p) protocols (protocol ∷ []))
    ∙ length-append (protocols_wire protocols) (protocols_wire (protocol ∷ []))
    ∙ ap (λ octets. length (protocols_wire protocols) + suc (length octets)) (append-nil protocol)
    ∙ omega arith

module _ (len : ℕ) (protocol : List ℕ) (others : List (List ℕ)) where
  pub fault_passed : IsProtocolLength (length protocol) → len + 1 + length protocol ≤ 65535
      → alpn_fault_behind len (protocol ∷ others)
      ≡ alpn_fault_behind (len + 1 + length protocol) others
  fault_passed is fits =
      let some : (length protocol == 0) ≡ false = grind (arith, nat_tests, is.not_empty) in
      let few : nat_lt 255 (length protocol) ≡ false = grind (arith, nat_tests, is.fits) in
      let within : nat_lt 65535 (len + 1 + length protocol) ≡ false = grind (arith, nat_tests) in
      rw (some, few, within) refl

-- the step from one protocol to the next
module _ (all built built' : List (List ℕ)) (i : ℕ) (protocol : List ℕ) (here : i < length all)
    (item : protocol ≡ get_or all i protocol) (grown : built' ≡ built ++ protocol ∷ []) where
  first : drop i all ≡ protocol ∷ drop (i + 1) all
  first = rw add-one (drop-cons all i protocol here ∙ ap (λ p. p ∷ drop (suc i) all) (sym item))

  pub next_taken : built ≡ take i all → built' ≡ take (i + 1) all
  next_taken so_far =
      grown ∙ ap (λ b. b ++ protocol ∷ []) so_far ∙ ap (λ p. take i all ++ p ∷ []) item
      ∙ rw add-one (sym (take-suc all i protocol here))

  pub next_fault : IsProtocolLength (length protocol)
      → length (protocols_wire built) + 1 + length protocol ≤ 65535
      → alpn_fault_behind (length (protocols_wire built)) (drop i all)
      ≡ alpn_fault_behind (length (protocols_wire built')) (drop (i + 1) all)
  next_fault is fits =
      let len = length (protocols_wire built) in
      let longer : length (protocols_wire built') ≡ len + 1 + length protocol =
      ap (λ b. length (protocols_wire b)) grown ∙ added_len built protocol in
      ap (alpn_fault_behind len) first ∙ fault_passed len protocol (drop (i + 1) all) is fits
      ∙ ap (λ n. alpn_fault_behind n (drop (i + 1) all)) (sym longer)
