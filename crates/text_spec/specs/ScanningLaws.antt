-- What a call answers whose definition answers an Ok: that, unless allocation failed. A caller who
-- tells no errors apart cites `answered` and `no_other_error`. Then what is scanned behind any
-- tokens, as a scanner that has taken some meets it.
use Rattle.std.specs.Prelude.{◌≡◌, ℕ, ◌+◌, ◌≤◌, List, ◌++◌, length, drop, take, Result, Ok, Err, IfOk, IfErr, refl}
use Rattle.std.proofs.Common.{sym, ap, ap₂, ◌∙◌, subst, arith, length-append}
use Rattle.std.proofs.lemmas.List.{take-append-drop, length-take-le}
use Rattle.text_spec.specs.declared.errors.ScanError.{ScanError}
use Rattle.text_spec.specs.declared.errors.ScanError.TheVariants as errors
use Rattle.text_spec.specs.declared.lexeme.Symbol.{Symbol}
use Rattle.text_spec.specs.Pieces.{HasTokens}
use Rattle.text_spec.specs.Scanning.{Scan, Scanned, Scanning, Answers, done}
use Rattle.text_spec.specs.ReadingBack.{ReadsBack}

module _ {T V : Type 0} (view : T → V) (x : V) where
  -- an Ok is it
  pub answered : (result : Result T ScanError) → Answers view result (Ok x)
      → IfOk result (λ y. view y ≡ x)
  answered (Ok y) is = cc
  answered (Err fault) is = tt

  -- and there is no error but `NoMemory`
  pub no_other_error : (result : Result T ScanError) → Answers view result (Ok x)
      → IfErr result (λ fault. fault ≡ errors.NoMemory)
  no_other_error (Ok y) is = tt
  no_other_error (Err errors.NoMemory) is = refl
  no_other_error (Err fault) is = absurd cc

module _ {V : Type 0} (scanning : Scanning V) where
  -- what is scanned behind any tokens is scanned where so many are taken
  pub scanned_left : (tokens : List (List Symbol)) (place : ℕ) (found : V) → place ≤ length tokens
      → ((front : List (List Symbol)) → scanning (front ++ drop place tokens) (length front)
      ≡ done found (length front + length (drop place tokens)))
      → scanning tokens place ≡ done found (length tokens)
  scanned_left tokens place found within scans =
      let front = take place tokens in
      let count : length front ≡ place = length-take-le place tokens within in
      let whole : front ++ drop place tokens ≡ tokens = take-append-drop place tokens in
      let end : length front + length (drop place tokens) ≡ length tokens =
      sym (length-append front (drop place tokens)) ∙ ap length whole in
      ap₂ (λ (ts : List (List Symbol)) (at : ℕ). scanning ts at) (sym whole) (sym count)
      ∙ scans front ∙ ap (done found) end

  -- a call that scans so reads a text back
  pub reads_back : {T : Type 0} (view : T → V) (IsHeld : V → Type 0) (text : V → List ℕ)
      → ((found : V) → IsHeld found → (tokens : List (List Symbol)) → HasTokens (text found) tokens
      → (front : List (List Symbol))
      → scanning (front ++ tokens) (length front) ≡ done found (length front + length tokens))
      → (old : Scan) (result : Result T ScanError) → old.taken ≤ length old.tokens
      → Answers view result (scanning old.tokens old.taken).outcome
      → ReadsBack view IsHeld text old result
  reads_back view IsHeld text scans old result within answer found is has =
      subst (Answers view result)
      (ap (λ (s : Scanned V). s.outcome)
      (scanned_left old.tokens old.taken found within
      (scans found is (drop old.taken old.tokens) has)))
      answer
