-- The tokens of numbers and of a last field, which the texts of data are made of. Offered to the
-- crates above, with `text_of`, which makes the law of a text of its tokens.
use Rattle.std.proofs.Common.{◌≡◌, ℕ, ◌+◌, ◌^◌, ◌<◌, ◌≤◌, List, [], ◌∷◌, ◌++◌, length, map, Option, Some, None, Ok, refl, sym, ap, ap₂, ◌∙◌, subst, append-nil, length-append, zero-add, arith, append_assoc}
use Rattle.std.specs.Prelude.{codes}
use Rattle.std.specs.List.{flat_map}
use Rattle.std.specs.Fmt.{decimal}
use Rattle.std.specs.Option.{ok_or}
use Rattle.std.proofs.lemmas.Fmt.{decimal_is_IsNumeral}
use Rattle.registry.specs.Texts.{spelled_number}
use Rattle.registry.specs.TextLaws.{spelled_number-decimal}
use Rattle.text_spec.specs.declared.errors.ScanError.TheVariants.{BadNumber}
use Rattle.text_spec.specs.declared.lexeme.Symbol.{Symbol}
use Rattle.text_spec.specs.Pieces.{HasTokens, IsTokenText}
use Rattle.text_spec.specs.Scanning.{Scanning, Scanned, octets_of, by_octets, scan_then, done}
use Rattle.text_spec.specs.Layouts.{Item, Token, Comment, BlockEnd, AreTokenTexts}
use Rattle.text_spec.proofs.Again.{has_tokens}
use Rattle.text_spec.proofs.PlainTexts.{ArePlain, plain_token, octets_of-plain, token_text-plain, ArePlain-decimal}
use Rattle.text_spec.proofs.TokenTexts.{EntryText, GapText, entry_from_gap, has_no_tokens, blank_on, opening_on, closing_on, token_on, has_token}
use Rattle.text_spec.specs.Rows.{number_below}
use Rattle.record_spec.specs.Rows.{Field, AreNumbers}
use Rattle.record_spec.specs.Texts.{numbers_then, numbers_printed}
use Rattle.record_spec.specs.Documents.{number_with_comment, numbers_items}
use Rattle.record_laws.specs.RecordLaws.{AreSmall, AreScannedAs, IsScannedAs}
use Rattle.record_laws.proofs.Scans.{one_taken}

-- ---- the token of a number

abbrev pub number_token : ℕ → List Symbol
number_token n = plain_token (decimal n)

abbrev pub number_tokens : List ℕ → List (List Symbol)
number_tokens numbers = map number_token numbers

pub some_digits : (n : ℕ) → n < 2 ^ 64 → 0 < length (decimal n)
some_digits n small = (decimal_is_IsNumeral n small).0.0

pub number_text : (n : ℕ) → n < 2 ^ 64 → IsTokenText (decimal n) (number_token n)
number_text n small = token_text-plain (decimal n) (some_digits n small) (ArePlain-decimal n small)

-- it means the number
pub number_means : (bound n : ℕ) → n < bound → n < 2 ^ 64
    → by_octets (spelled_number bound) BadNumber (number_token n) ≡ Ok n
number_means bound n below small =
    ap (λ (text : List ℕ). ok_or (spelled_number bound text) BadNumber)
    (octets_of-plain (decimal n))
    ∙ ap (λ (read : Option ℕ). ok_or read BadNumber) (spelled_number-decimal bound n below small)

-- and is scanned as it
pub number_scanned : (bound n : ℕ) (front behind : List (List Symbol)) → n < bound → n < 2 ^ 64
    → number_below bound (front ++ number_token n ∷ behind) (length front)
    ≡ done n (length front + 1)
number_scanned bound n front behind below small =
    one_taken (by_octets (spelled_number bound) BadNumber) front behind (number_token n) n
    (number_means bound n below small)

-- ---- the tokens of numbers

-- each is small
abbrev pub EachSmall : List ℕ → Type 0
EachSmall [] = Unit {0}
EachSmall (n ∷ numbers) = (n < 2 ^ 64) × EachSmall numbers

small_one : (n bound : ℕ) → n < bound → bound ≤ 2 ^ 64 → n < 2 ^ 64
small_one n bound below fits = omega arith

pub each_small : (fields : List Field) (numbers : List ℕ) → AreSmall fields
    → AreNumbers fields numbers → EachSmall numbers
each_small [] [] small are = tt
each_small [] (n ∷ numbers) small are = absurd are
each_small (field ∷ fields) [] small are = absurd are
each_small (field ∷ fields) (n ∷ numbers) small are =
    (small_one n (256 ^ field.width) are.0 small.0, each_small fields numbers small.1 are.1)

-- they are scanned as these numbers
pub numbers_scanned : {V : Type 0} (fields : List Field) (numbers : List ℕ) → AreSmall fields
    → AreNumbers fields numbers
    → (next : List ℕ → Scanning V) (front behind : List (List Symbol))
    → numbers_then fields next (front ++ (number_tokens numbers ++ behind)) (length front)
    ≡ next numbers (front ++ (number_tokens numbers ++ behind)) (length front + length numbers)
numbers_scanned [] [] small are next front behind =
    let place : length front ≡ length front + 0 = omega arith in
    ap (λ (n : ℕ). next [] (front ++ behind) n) place
numbers_scanned [] (n ∷ numbers) small are next front behind = absurd are
numbers_scanned (field ∷ fields) [] small are next front behind = absurd are
numbers_scanned {V} (field ∷ fields) (n ∷ numbers) small are next front behind =
    let token = number_token n in
    let rest = number_tokens numbers ++ behind in
    let tokens = front ++ token ∷ rest in
    let more : List ℕ → Scanning V = λ ns. next (n ∷ ns) in
    let onward : ℕ → ℕ → Scanned V =
    λ m after. numbers_then fields (λ ns. next (m ∷ ns)) tokens after in
    let front' = front ++ token ∷ [] in
    let moved : tokens ≡ front' ++ rest = sym (append_assoc front (token ∷ []) rest) in
    let long = length-append front (token ∷ []) in
    let before : length front + 1 ≡ length front' = omega arith in
    let after : length front' + length numbers ≡ length front + length (n ∷ numbers) = omega arith
    in
    ap (λ (s : Scanned ℕ). scan_then s onward)
    (number_scanned (256 ^ field.width) n front rest are.0
    (small_one n (256 ^ field.width) are.0 small.0))
    ∙ ap₂ (λ (ts : List (List Symbol)) (place : ℕ). numbers_then fields more ts place) moved before
    ∙ numbers_scanned fields numbers small.1 are.1 more front' behind
    ∙ ap₂ (λ (ts : List (List Symbol)) (place : ℕ). next (n ∷ numbers) ts place) (sym moved) after

-- they stand before the rest of a text
pub numbers_on : (numbers text : List ℕ) (tokens : List (List Symbol)) → EachSmall numbers
    → EntryText 0 text tokens
    → EntryText 0 (numbers_printed numbers ++ text) (number_tokens numbers ++ tokens)
numbers_on [] text tokens small entry = entry
numbers_on (n ∷ numbers) text tokens small entry =
    let rest = numbers_printed numbers ++ text in
    let others = number_tokens numbers ++ tokens in
    let lower = numbers_on numbers text tokens small.1 entry in
    let moved : decimal n ++ 32 ∷ rest ≡ numbers_printed (n ∷ numbers) ++ text =
    sym (ap (λ (t : List ℕ). t ++ text) (append_assoc (decimal n) (codes " ") (numbers_printed numbers))
    ∙ append_assoc (decimal n) (32 ∷ numbers_printed numbers) text) in
    subst (λ (t : List ℕ). EntryText 0 t (number_token n ∷ others)) moved
    (token_on 0 (32 ∷ rest) others (decimal n) (number_token n) (number_text n small.0)
    (blank_on 0 rest others 32 refl lower))

-- ---- the token of a last field, if it has a text

abbrev pub text_tokens : List ℕ → List (List Symbol)
text_tokens [] = []
text_tokens (c ∷ text) = plain_token (c ∷ text) ∷ []

pub octets-text_tokens : (text : List ℕ) → flat_map octets_of (text_tokens text) ≡ text
octets-text_tokens [] = refl
octets-text_tokens (c ∷ text) =
    append-nil (octets_of (plain_token (c ∷ text))) ∙ octets_of-plain (c ∷ text)

text_is : (c : ℕ) (text : List ℕ) → ArePlain (c ∷ text)
    → IsTokenText (c ∷ text) (plain_token (c ∷ text))
text_is c text plain = token_text-plain (c ∷ text) (omega arith) plain

-- bare
pub bare_text : (text : List ℕ) → ArePlain text → EntryText 0 text (text_tokens text)
bare_text [] plain = entry_from_gap 0 [] [] has_no_tokens
bare_text (c ∷ text) plain = has_token (c ∷ text) (plain_token (c ∷ text)) (text_is c text plain)

closing : GapText 1 (32 ∷ 41 ∷ []) []
closing = blank_on 1 (41 ∷ []) [] 32 refl
    (entry_from_gap 1 (41 ∷ []) [] (closing_on 0 [] [] (entry_from_gap 0 [] [] has_no_tokens)))

before_closing : (text : List ℕ) → ArePlain text
    → EntryText 1 (text ++ 32 ∷ 41 ∷ []) (text_tokens text)
before_closing [] plain = entry_from_gap 1 (32 ∷ 41 ∷ []) [] closing
before_closing (c ∷ text) plain =
    token_on 1 (32 ∷ 41 ∷ []) [] (c ∷ text) (plain_token (c ∷ text)) (text_is c text plain) closing

-- in brackets, behind which no more stands
pub bracketed_text : (text : List ℕ) → ArePlain text
    → EntryText 0 (40 ∷ 32 ∷ text ++ 32 ∷ 41 ∷ []) (text_tokens text)
bracketed_text text plain =
    let inner = text ++ 32 ∷ 41 ∷ [] in
    let tokens = text_tokens text in
    entry_from_gap 0 (40 ∷ 32 ∷ inner) tokens
    (opening_on 0 (32 ∷ inner) tokens
    (entry_from_gap 1 (32 ∷ inner) tokens
    (blank_on 1 inner tokens 32 refl (before_closing text plain))))

-- ---- documents

-- a token in front
pub token_front : (text : List ℕ) (token : List Symbol) (items : List Item)
    (tokens : List (List Symbol)) → 0 < length text → IsTokenText text token
    → AreTokenTexts items tokens → AreTokenTexts (Token text ∷ items) (token ∷ tokens)
token_front [] token items tokens some is are = absurd (omega arith)
token_front (c ∷ text) token items tokens some is are = (is, are)

pub number_front : (n : ℕ) (items : List Item) (tokens : List (List Symbol)) → n < 2 ^ 64
    → AreTokenTexts items tokens
    → AreTokenTexts (Token (decimal n) ∷ items) (number_token n ∷ tokens)
number_front n items tokens small are =
    token_front (decimal n) (number_token n) items tokens (some_digits n small)
    (number_text n small) are

commented_front : (n : ℕ) (comment : Option (List ℕ)) (items : List Item)
    (tokens : List (List Symbol)) → n < 2 ^ 64 → AreTokenTexts items tokens
    → AreTokenTexts (number_with_comment n comment ++ items) (number_token n ∷ tokens)
commented_front n None items tokens small are = number_front n items tokens small are
commented_front n (Some comment) items tokens small are =
    number_front n (Comment comment ∷ items) tokens small are

pub numbers_front : (fields : List Field) (numbers : List ℕ) (items : List Item)
    (tokens : List (List Symbol)) → AreNumbers fields numbers → EachSmall numbers
    → AreTokenTexts items tokens
    → AreTokenTexts (numbers_items fields numbers ++ items) (number_tokens numbers ++ tokens)
numbers_front [] [] items tokens fit small are = are
numbers_front [] (n ∷ numbers) items tokens fit small are = absurd fit
numbers_front (field ∷ fields) [] items tokens fit small are = absurd fit
numbers_front (field ∷ fields) (n ∷ numbers) items tokens fit small are =
    let rest = numbers_items fields numbers ++ items in
    subst (λ (all : List Item). AreTokenTexts all (number_tokens (n ∷ numbers) ++ tokens))
    (sym (append_assoc (number_with_comment n (field.comment n)) (numbers_items fields numbers) items))
    (commented_front n (field.comment n) rest (number_tokens numbers ++ tokens) small.0
    (numbers_front fields numbers items tokens fit.1 small.1 are))

-- the last field, behind which a block ends
pub last_front : (text : List ℕ) → ArePlain text
    → AreTokenTexts (Token text ∷ BlockEnd ∷ []) (text_tokens text)
last_front [] plain = tt
last_front (c ∷ text) plain = (text_is c text plain, tt)

-- ---- any tokens of a text

pub text_of : {V : Type 0} (scanning : Scanning V) (text : List ℕ) (found : V)
    (tokens : List (List Symbol)) → HasTokens text tokens
    → AreScannedAs scanning tokens found → IsScannedAs scanning text found
text_of scanning text found tokens has scanned =
    let same : (others : List (List Symbol)) → HasTokens text others → tokens ≡ others =
    λ others have. sym (has_tokens text tokens has).1 ∙ (has_tokens text others have).1 in
    record {
      has = (tokens, has);
      scanned = λ others have.
          subst (λ (ts : List (List Symbol)). scanning ts 0 ≡ done found (length ts))
          (same others have) (scanned [] ∙ ap (done found) (zero-add (length tokens)));
      behind = λ others have.
          subst (λ (ts : List (List Symbol)). AreScannedAs scanning ts found) (same others have)
          scanned;
    }
