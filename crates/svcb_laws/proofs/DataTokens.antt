-- The tokens of a record's texts are scanned as that record. Offered to the crates above:
-- `one-found`, `data_texts`, `tokens_of_data` and `data_again`.
use Rattle.std.proofs.Common.{◌≡◌, ℕ, ◌+◌, ◌<◌, ◌^◌, false, cond, Some, None, Result, Ok, Err, List, [], ◌∷◌, ◌++◌, length, refl, sym, ap, ◌∙◌, arith, append_assoc, length-append}
use Rattle.std.proofs.lemmas.Bool.Decides.{nat_tests}
use Rattle.std.specs.Prelude.{slice_get, nat_lt}
use Rattle.std.specs.Fmt.{decimal}
use Rattle.std.specs.Option.{ok_or}
use Rattle.name_spec.specs.Printed.{printed_name_with_dot}
use Rattle.registry.specs.Texts.{spelled_number}
use Rattle.registry.specs.TextLaws.{spelled_number-decimal}
use Rattle.svcb_spec.specs.Records.{Record, rdata}
use Rattle.text_spec.specs.declared.errors.ScanError.{ScanError}
use Rattle.text_spec.specs.declared.errors.ScanError.TheVariants.{EndOfEntry, BadNumber, BadName, LongRecord}
use Rattle.text_spec.specs.declared.lexeme.Symbol.{Symbol}
use Rattle.text_spec.specs.NameTexts.{name_of}
use Rattle.text_spec.specs.Pieces.{IsTokenText}
use Rattle.text_spec.specs.Scanning.{Scanned, octets_of, one, at_token, by_octets, scan_then, done, refused}
use Rattle.text_spec.proofs.NameTexts.{name_again}
use Rattle.text_spec.proofs.PlainTexts.{decimal_again}
use Rattle.text_spec.specs.Rows.{by_name, name}
use Rattle.svcb_spec.specs.ParamTexts.{params}
use Rattle.svcb_spec.specs.PrintedParams.{pair_texts}
use Rattle.svcb_laws.specs.ParamTextLaws.{AreTextsOfTokens}
use Rattle.svcb_laws.proofs.ParamTokens.{one_token, params_again, tokens_of_texts}
use Rattle.svcb_spec.specs.DataTexts.{within_record_limit}
use Rattle.svcb_laws.specs.DataTextLaws.{IsRecordOfOctets, AreTokensOf}

-- ---- one token behind others

found_at : (front : List (List Symbol)) (token : List Symbol) (rest : List (List Symbol))
    → slice_get (front ++ token ∷ rest) (length front) ≡ Some token
found_at [] token rest = refl
found_at (other ∷ front) token rest = found_at front token rest

-- the token behind others, by what it means
pub one-found : {V : Type 0} (meaning : List Symbol → Result V ScanError)
    (front : List (List Symbol)) (token : List Symbol) (rest : List (List Symbol)) (x : V)
    → meaning token ≡ Ok x → one meaning (front ++ token ∷ rest) (length front)
    ≡ done x (length front + 1)
one-found meaning front token rest x means =
    ap (λ found. at_token (length front)
    (elim found [ None ↦ Err EndOfEntry | Some t ↦ meaning t ])) (found_at front token rest)
    ∙ ap (at_token (length front)) means

-- the same, where more is scanned behind it
then-found : {V W : Type 0} (meaning : List Symbol → Result V ScanError) (next : V → ℕ → Scanned W)
    (front : List (List Symbol)) (token : List Symbol)
    (rest : List (List Symbol)) (x : V) → meaning token ≡ Ok x
    → scan_then (one meaning (front ++ token ∷ rest) (length front)) next
    ≡ next x (length (front ++ token ∷ []))
then-found meaning next front token rest x means =
    ap (λ scanned. scan_then scanned next) (one-found meaning front token rest x means)
    ∙ ap (next x) (sym (length-append front (token ∷ [])))

-- ---- the texts of a record

-- the texts of the priority, the target and each parameter, one token each
abbrev pub data_texts : Record → List (List ℕ)
data_texts found =
    decimal found.priority ∷ printed_name_with_dot found.labels ∷ pair_texts found.pairs

number-means : (n : ℕ) (token : List Symbol) → n < 65536 → IsTokenText (decimal n) token
    → by_octets (spelled_number (2 ^ 16)) BadNumber token ≡ Ok n
number-means n token below is =
    let own = decimal_again n (omega arith) in
    let octets : octets_of token ≡ decimal n =
    ap octets_of (one_token (decimal n) token own.0 is own.1) ∙ own.2 in
    ap (λ text. ok_or (spelled_number (2 ^ 16) text) BadNumber) octets
    ∙ ap (λ number. ok_or number BadNumber) (spelled_number-decimal (2 ^ 16) n below (omega arith))

name-means : (found : Record) (token : List Symbol) → IsRecordOfOctets found
    → IsTokenText (printed_name_with_dot found.labels) token → by_name token ≡ Ok found.labels
name-means found token is text =
    let own = name_again found.labels is.is_record.labels is.labels in
    ap (λ labels. ok_or labels BadName)
    (ap name_of (one_token (printed_name_with_dot found.labels) token own.0 text own.1) ∙ own.2)

fits : (found : Record) (end : ℕ) → IsRecordOfOctets found
    → within_record_limit found end ≡ done found end
fits found end is =
    let below = is.is_record.fits in
    let short : nat_lt 65535 (length (rdata found.priority found.labels found.pairs)) ≡ false =
    grind (arith, nat_tests) in
    ap (λ long. cond long (refused LongRecord end) (done found end)) short

-- a record's texts have tokens
pub tokens_of_data : (found : Record) → IsRecordOfOctets found → (tokens : List (List Symbol))
    × AreTextsOfTokens (data_texts found) tokens
tokens_of_data found is =
    let small = is.is_record.priority in
    let priority = decimal_again found.priority (omega arith) in
    let target = name_again found.labels is.is_record.labels is.labels in
    let parameters = tokens_of_texts found.pairs 0 found.pairs is.is_record.is_map is.values in
    (priority.0 ∷ target.0 ∷ parameters.0, (priority.1, (target.1, parameters.1)))

-- what is scanned behind the priority, and behind the target
abbrev behind_target : List (List Symbol) → ℕ → List (List ℕ) → ℕ → Scanned Record
behind_target tokens priority labels place =
    scan_then (params tokens place)
    (λ pairs end. within_record_limit
    (record { priority = priority; labels = labels; pairs = pairs }) end)

abbrev behind_priority : List (List Symbol) → ℕ → ℕ → Scanned Record
behind_priority tokens priority place =
    scan_then (name tokens place) (behind_target tokens priority)

-- the tokens of a record's texts are scanned as that record
pub data_again : (found : Record) (tokens : List (List Symbol)) → IsRecordOfOctets found
    → AreTextsOfTokens (data_texts found) tokens → AreTokensOf tokens found
data_again found [] is are front = absurd are
data_again found (priority ∷ []) is are front = absurd are.1
data_again found (priority ∷ target ∷ tokens) is are front =
    let all = front ++ priority ∷ target ∷ tokens in
    let one_taken = front ++ priority ∷ [] in
    let two_taken = one_taken ++ target ∷ [] in
    let behind_one : all ≡ one_taken ++ target ∷ tokens =
    sym (append_assoc front (priority ∷ []) (target ∷ tokens)) in
    let behind_two : all ≡ two_taken ++ tokens =
    behind_one ∙ sym (append_assoc one_taken (target ∷ []) tokens) in
    let count : length two_taken + length tokens
    ≡ length front + length (priority ∷ target ∷ tokens) =
    omega (arith, length-append front (priority ∷ []), length-append one_taken (target ∷ [])) in
    then-found (by_octets (spelled_number (2 ^ 16)) BadNumber) (behind_priority all) front priority
    (target ∷ tokens) found.priority
    (number-means found.priority priority is.is_record.priority are.0)
    ∙ ap (λ left. scan_then (name left (length one_taken)) (behind_target all found.priority))
    behind_one
    ∙ then-found by_name (behind_target all found.priority) one_taken target tokens found.labels
    (name-means found target is are.1.0)
    ∙ ap (λ left. behind_target left found.priority found.labels (length two_taken)) behind_two
    ∙ ap (λ scanned. scan_then scanned
    (λ pairs end. within_record_limit
    (record { priority = found.priority; labels = found.labels; pairs = pairs }) end))
    (params_again found.pairs is.is_record.is_map is.values two_taken tokens are.1.1)
    ∙ fits found (length two_taken + length tokens) is
    ∙ ap (done found) count
