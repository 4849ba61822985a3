-- What the text of fields is scanned as under the number of its type. Data that begins with a
-- number doesn't begin with the marker.
use Rattle.std.proofs.Common.{◌≡◌, ℕ, ◌+◌, ◌^◌, true, false, cond, List, [], ◌∷◌, ◌++◌, length, Ok, Err, refl, sym, inl, inr, ap, ◌∙◌, arith, length-append}
use Rattle.std.proofs.lemmas.Bool.{cases_eq}
use Rattle.std.proofs.lemmas.Bool.Decides.{nat_tests}
use Rattle.std.specs.Prelude.{nat_lt}
use Rattle.std.specs.Option.{ok_or}
use Rattle.registry.specs.Texts.{spelled_number}
use Rattle.text_spec.specs.declared.errors.ScanError.{ScanError}
use Rattle.text_spec.specs.declared.errors.ScanError.TheVariants.{BadNumber, TrailingTokens}
use Rattle.text_spec.specs.declared.lexeme.Symbol.{Symbol}
use Rattle.text_spec.specs.Pieces.{HasTokens}
use Rattle.text_spec.specs.Scanning.{Scanned, Scanning, scan_then, at_token, done, refused, is_marked}
use Rattle.text_spec.specs.Rows.{number_below, unknown_data}
use Rattle.record_spec.specs.Rows.{Field}
use Rattle.record_spec.specs.Texts.{numbers_then}
use Rattle.record_laws.specs.RecordLaws.{AreScannedAs, IsScannedAs}
use Rattle.record_laws.proofs.Scans.{marked_behind}
use Rattle.record_laws.proofs.Texts.{text_of}
use Rattle.record_spec.specs.RecordData.{RecordData}
use Rattle.record_spec.specs.UnionTexts.{scan_as, octets_under, scan_fields, scan_any, at_end, union_scan}

not_below : (n : ℕ) → nat_lt n n ≡ false
not_below n = grind (arith, nat_tests)

answer_not_both : {V : Type 0} (fault : ScanError) (found : V) → Err fault ≡ Ok found → ⊥
answer_not_both fault found is = absurd cc

not_both : {V : Type 0} (fault : ScanError) (place : ℕ) (found : V) (end : ℕ)
    → refused fault place ≡ done found end → ⊥
not_both {V} fault place found end is =
    answer_not_both fault found (ap (λ (scanned : Scanned V). scanned.outcome) is)

-- nothing is left behind all tokens
pub none_left : (front tokens : List (List Symbol)) (found : RecordData)
    → at_end found (front ++ tokens) (length front + length tokens)
    ≡ done found (length front + length tokens)
none_left front tokens found =
    let end = length front + length tokens in
    let none : nat_lt end (length (front ++ tokens)) ≡ false =
    ap (nat_lt end) (length-append front tokens) ∙ not_below end in
    ap (λ left. cond left (refused TrailingTokens end) (done found end)) none

-- a number is not spelled by `#`
pub number_unmarked : {V : Type 0} (bound : ℕ) (next : ℕ → ℕ → Scanned V)
    (tokens : List (List Symbol)) (found : V) (end : ℕ)
    → scan_then (number_below bound tokens 0) next ≡ done found end → is_marked tokens 0 ≡ false
number_unmarked bound next [] found end is = refl
number_unmarked bound next ([] ∷ tokens) found end is = refl
number_unmarked {V} bound next ((symbol ∷ []) ∷ tokens) found end is =
    elim (cases_eq symbol.octet 35) [
      | inl marks ↦
          let here : scan_then (number_below bound ((symbol ∷ []) ∷ tokens) 0) next
          ≡ refused BadNumber 0 =
          ap (λ octet. scan_then (at_token 0 (ok_or (spelled_number bound (octet ∷ [])) BadNumber))
          next) marks in
          absurd (not_both BadNumber 0 found end (sym here ∙ is))
      | inr other ↦ grind (arith, nat_tests)
    ]
number_unmarked bound next ((symbol ∷ other ∷ symbols) ∷ tokens) found end is = refl

-- fields the first of which has a number
pub numbers_unmarked : {V : Type 0} (fields : List Field) (next : List ℕ → Scanning V)
    (tokens : List (List Symbol)) (found : V) (end : ℕ)
    → nat_lt 0 (length fields) ≡ true → numbers_then fields next tokens 0 ≡ done found end
    → is_marked tokens 0 ≡ false
numbers_unmarked [] next tokens found end some is = absurd cc
numbers_unmarked (field ∷ fields) next tokens found end some is =
    number_unmarked (256 ^ field.width)
    (λ n after. numbers_then fields (λ numbers. next (n ∷ numbers)) tokens after) tokens found
    end is

-- where the type with a number has fields of its own
module _ {V : Type 0} (rtype : ℕ) (type : V → RecordData) (scanning : Scanning V)
    (fields : (tokens : List (List Symbol)) (place : ℕ)
    → scan_fields rtype tokens place ≡ scan_as type scanning tokens place) where
  under_number : (tokens : List (List Symbol)) (found : V) → is_marked tokens 0 ≡ false
      → AreScannedAs scanning tokens found → AreScannedAs (union_scan rtype) tokens (type found)
  under_number tokens found unmarked scans front =
      let all = front ++ tokens in
      let place = length front in
      let any : scan_any rtype all place ≡ done (type found) (place + length tokens) =
      ap (λ marked. cond marked (scan_as (octets_under rtype) unknown_data all (place + 1))
      (scan_fields rtype all place)) (marked_behind front tokens ∙ unmarked)
      ∙ fields all place
      ∙ ap (λ (first : Scanned V). scan_then first (λ x after. done (type x) after)) (scans front)
      in
      ap (λ (first : Scanned RecordData). scan_then first (λ x end. at_end x all end)) any
      ∙ none_left front tokens (type found)

  -- the text of fields, where its tokens don't begin with the marker
  pub text_under : (text : List ℕ) (found : V) → IsScannedAs scanning text found
      → ((tokens : List (List Symbol)) → HasTokens text tokens
      → scanning tokens 0 ≡ done found (length tokens) → is_marked tokens 0 ≡ false)
      → IsScannedAs (union_scan rtype) text (type found)
  text_under text found is unmarked =
      let tokens = is.has.0 in
      let has = is.has.1 in
      text_of (union_scan rtype) text (type found) tokens has
      (under_number tokens found (unmarked tokens has (is.scanned tokens has))
      (is.behind tokens has))
