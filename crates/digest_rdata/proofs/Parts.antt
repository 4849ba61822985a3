-- The scan of a record's data, in two parts, and the blocks of its document.
use Rattle.std.proofs.Common.{◌≡◌, ℕ, ◌^◌, ◌≤◌, List, [], ◌∷◌, Option, Some, None, Result, Ok, Err, refl, ap, ◌∙◌, arith}
use Rattle.text_spec.specs.declared.errors.ScanError.{ScanError}
use Rattle.text_spec.specs.declared.lexeme.Symbol.{Symbol}
use Rattle.text_spec.specs.declared.errors.ScanError.TheVariants.{BadNumber}
use Rattle.text_spec.specs.Scanning.{Scanned, Scanning, scan_then, done, at_token, next_token, by_octets}
use Rattle.text_spec.specs.Layouts.{Sheet, Token, depth_after, laid_out}
use Rattle.text_spec.specs.LayoutLaws.{depth_after-append, blocks-layout_from}
use Rattle.registry.specs.Texts.{spelled_number}
use Rattle.text_spec.specs.Rows.{number_below}
use Rattle.record_spec.specs.Rows.{Field, Row}
use Rattle.record_spec.specs.Texts.{numbers_then, scan_last, scan_data}
use Rattle.record_spec.specs.Documents.{number_with_comment, numbers_items}
use Rattle.digest_rdata.specs.ScanningParts.{scan_numbers}

-- scanning goes on in the same way behind each answer
go_on : {A B V : Type 0} (outcome : Result A ScanError) (place : ℕ) (all : A → ℕ → Scanned V)
    (first : A → ℕ → Scanned B) (next : B → ℕ → Scanned V)
    → ((x : A) (after : ℕ) → all x after ≡ scan_then (first x after) next)
    → scan_then (record { outcome = outcome; place = place }) all
    ≡ scan_then (scan_then (record { outcome = outcome; place = place }) first) next
go_on (Ok x) place all first next same = same x place
go_on (Err fault) place all first next same = refl

split : {V : Type 0} (fields : List Field) (f : List ℕ → List ℕ) (next : List ℕ → Scanning V)
    (tokens : List (List Symbol)) (place : ℕ)
    → numbers_then fields (λ numbers. next (f numbers)) tokens place
    ≡ scan_then (numbers_then fields (λ numbers tokens place. done (f numbers) place) tokens place)
    (λ numbers after. next numbers tokens after)
split [] f next tokens place = refl
split (field ∷ fields) f next tokens place =
    let number = number_below (256 ^ field.width) tokens place in
    go_on number.outcome number.place
    (λ n after. numbers_then fields (λ numbers. next (f (n ∷ numbers))) tokens after)
    (λ n after. numbers_then fields (λ numbers tokens place. done (f (n ∷ numbers)) place) tokens
    after)
    (λ numbers after. next numbers tokens after)
    (λ n after. split fields (λ numbers. f (n ∷ numbers)) next tokens after)

-- the numbers, and then the last field
pub scan_in_parts : (row : Row) (tokens : List (List Symbol)) (place : ℕ)
    → scan_data row tokens place
    ≡ scan_then (scan_numbers row tokens place)
    (λ numbers after. scan_last row numbers tokens after)
scan_in_parts row tokens place = split row.fields (λ numbers. numbers) (scan_last row) tokens place

-- a token that is read is behind
number_behind : (bound : ℕ) (tokens : List (List Symbol)) (place : ℕ)
    → place ≤ (number_below bound tokens place).place
number_behind bound tokens place =
    by (next_token (by_octets (spelled_number bound) BadNumber) tokens place)
  where
    by : {place : ℕ} (outcome : Result ℕ ScanError) → place ≤ (at_token place outcome).place
    by (Ok n) = omega arith
    by (Err fault) = omega arith

behind_both : {A B : Type 0} (place stop : ℕ) (outcome : Result A ScanError)
    (next : A → ℕ → Scanned B) → place ≤ stop → ((x : A) → stop ≤ (next x stop).place)
    → place ≤ (scan_then (record { outcome = outcome; place = stop }) next).place
behind_both place stop (Err fault) next h k = h
behind_both place stop (Ok x) next h k = let more = k x in omega (arith, h, more)

behind : (fields : List Field) (f : List ℕ → List ℕ) (tokens : List (List Symbol)) (place : ℕ)
    → place ≤ (numbers_then fields (λ numbers tokens place. done (f numbers) place) tokens
    place).place
behind [] f tokens place = omega arith
behind (field ∷ fields) f tokens place =
    let number = number_below (256 ^ field.width) tokens place in
    behind_both place number.place number.outcome
    (λ n after. numbers_then fields (λ numbers tokens place. done (f (n ∷ numbers)) place)
    tokens after)
    (number_behind (256 ^ field.width) tokens place)
    (λ n. behind fields (λ numbers. f (n ∷ numbers)) tokens number.place)

-- scanning numbers doesn't go back
pub scan_numbers_behind : (row : Row) (tokens : List (List Symbol)) (place : ℕ)
    → place ≤ (scan_numbers row tokens place).place
scan_numbers_behind row tokens place = behind row.fields (λ numbers. numbers) tokens place

one_more : (n : ℕ) (comment : Option (List ℕ)) (blocks : ℕ)
    → depth_after (number_with_comment n comment) blocks ≡ Some blocks
one_more n None blocks = refl
one_more n (Some comment) blocks = refl

-- numbers open no block
pub depth_after-numbers : (fields : List Field) (numbers : List ℕ) (blocks : ℕ)
    → depth_after (numbers_items fields numbers) blocks ≡ Some blocks
depth_after-numbers [] numbers blocks = refl
depth_after-numbers (field ∷ fields) [] blocks = refl
depth_after-numbers (field ∷ fields) (n ∷ numbers) blocks =
    depth_after-append (number_with_comment n (field.comment n))
    (numbers_items fields numbers) blocks blocks (one_more n (field.comment n) blocks)
    ∙ depth_after-numbers fields numbers blocks

-- and a token behind them none either
pub same_blocks : (fields : List Field) (numbers text : List ℕ) (old mid new : Sheet)
    → mid ≡ laid_out old (numbers_items fields numbers) → new ≡ laid_out mid (Token text ∷ [])
    → new.layout.blocks ≡ old.layout.blocks
same_blocks fields numbers text old mid new first second =
    ap (λ (s : Sheet). s.layout.blocks) second
    ∙ ap (λ (s : Sheet). s.layout.blocks) first
    ∙ blocks-layout_from old.kind (numbers_items fields numbers) old.layout old.layout.blocks
    (depth_after-numbers fields numbers old.layout.blocks)

pub ruleset scan_parts = (scan_in_parts, scan_numbers_behind)
