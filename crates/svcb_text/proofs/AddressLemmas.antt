-- Addresses that are read have as many octets each.
use Rattle.std.proofs.Common.{◌≡◌, ℕ, ◌+◌, ◌-◌, inl, inr, List, [], ◌∷◌, ◌++◌, length, Option, None, Some, Ok, Err, refl, sym, ap, subst, ◌∙◌, arith, length-append}
use Rattle.std.specs.Prelude.{replicate}
use Rattle.std.specs.Option.{ok_or}
use Rattle.std.specs.Net.Addr.{octets_of}
use Rattle.std.specs.Net.Grammar.{IsColonHex}
use Rattle.std.proofs.lemmas.List.{length-replicate}
use Rattle.std.specs.List.{AllByRecursion}
use Rattle.name_spec.specs.Addresses.{ipv4_of, ipv6_of}
use Rattle.name_spec.proofs.AddressTexts.{ipv4_spelled, ipv6_spelled}
use Rattle.text_spec.specs.declared.errors.ScanError.TheVariants.{BadAddress}
use Rattle.svcb_spec.specs.ListTexts.{◌>>=◌, comma_items, plain_item, read_items}
use Rattle.svcb_spec.specs.ValueTexts.{some_text, address_item}
use Rattle.svcb_text.specs.Lists.{read_list, add_items, add_last, read_address}
use Rattle.svcb_text.proofs.ListLemmas.{add_items-last}

-- ---- addresses

pub length-ipv4_of : (text octets : List ℕ) → ipv4_of text ≡ Some octets → length octets ≡ 4
length-ipv4_of text octets e = ap length (ipv4_spelled text octets e).value

eight_segments : (text segments : List ℕ) → IsColonHex text segments → length segments ≡ 8
eight_segments text segments (inl all) = all.1
eight_segments text segments (inr some) =
    let zeros = 8 - length some.head - length some.tail in
    let room = some.room in
    let front : length (some.head ++ replicate zeros 0) ≡ length some.head + zeros =
    length-append some.head (replicate zeros 0)
    ∙ ap (λ n. length some.head + n) (length-replicate {A = ℕ} zeros 0) in
    let all : length segments ≡ length (some.head ++ replicate zeros 0) + length some.tail =
    ap length some.value ∙ length-append (some.head ++ replicate zeros 0) some.tail in
    omega arith

length-octets_of : (segments : List ℕ)
    → length (octets_of segments) ≡ length segments + length segments
length-octets_of [] = omega arith
length-octets_of (s ∷ segments) = omega (arith, length-octets_of segments)

pub length-ipv6_of : (text octets : List ℕ) → ipv6_of text ≡ Some octets → length octets ≡ 16
length-ipv6_of text octets e =
    let (segments, is, same) = ipv6_spelled text octets e in
    omega (arith, ap length same, length-octets_of segments, eight_segments text segments is)

-- ---- lists of them

each_last : (n : ℕ) (addresses : List (List ℕ)) (address : List ℕ)
    → AllByRecursion (λ a. length a ≡ n) addresses → length address ≡ n
    → AllByRecursion (λ a. length a ≡ n) (addresses ++ address ∷ [])
each_last n [] address each is = (is, tt)
each_last n (a ∷ addresses) address each is = (each.0, each_last n addresses address each.1 is)

module _ (read : List ℕ → Option (List ℕ)) (n : ℕ)
    (reads : (text octets : List ℕ) → read text ≡ Some octets → length octets ≡ n) where
  each_read : (before : List (List ℕ)) (items : List (List ℕ)) (all : List (List ℕ))
      → AllByRecursion (λ a. length a ≡ n) before
      → read_items (address_item read) before items ≡ Ok all → AllByRecursion (λ a. length a ≡ n) all
  each_read before [] all each e = let same : before ≡ all = cc
      in subst (AllByRecursion (λ a. length a ≡ n)) same each
  each_read before (item ∷ items) all each e =
      elim (plain_item item) as
      (λ p. ((p >>= λ text. ok_or (read text) BadAddress)
      >>= λ x. read_items (address_item read) (before ++ x ∷ []) items) ≡ Ok all
      → AllByRecursion (λ a. length a ≡ n) all) [
        | Err fault ↦ λ e. absurd cc
        | Ok text ↦ λ e. elim (read text) as
            (λ o. read text ≡ o
            → (ok_or o BadAddress >>= λ x. read_items (address_item read) (before ++ x ∷ []) items)
            ≡ Ok all → AllByRecursion (λ a. length a ≡ n) all) [
              | None ↦ λ is e. absurd cc
              | Some x ↦ λ is e. each_read (before ++ x ∷ []) items all
                  (each_last n before x each (reads text x is)) e
            ] refl e
      ] e

  pub each_listed : (text : List ℕ) (all : List (List ℕ))
      → read_list (add_last (read_address read)) [] text ≡ Ok all → AllByRecursion (λ a. length a ≡ n) all
  each_listed text all e =
      elim (some_text text) as
      (λ s. (s >>= λ list. add_items (add_last (read_address read)) [] (comma_items list))
      ≡ Ok all → AllByRecursion (λ a. length a ≡ n) all) [
        | Err fault ↦ λ e. absurd cc
        | Ok list ↦ λ e. each_read [] (comma_items list) all tt
            (sym (add_items-last (read_address read) [] (comma_items list)) ∙ e)
      ] e
