-- Facts on what lines say, each read by a reading.
use Rattle.std.proofs.Common.{◌≡◌, ℕ, ◌+◌, List, [], ◌∷◌, ◌++◌, map, Option, Some, None, Result, Ok, Err, refl, sym, ap, ◌∙◌}
use Rattle.std.proofs.lemmas.List.{append_assoc, append-nil, map-append}
use Rattle.input_lines.specs.Spelling.{line_or_fault, each_line, ◌>>=◌}
use Rattle.input_lines.specs.declared.faults.InputFault.{InputFault}
use Rattle.input_lines.specs.declared.faults.InputFault.TheVariants.{BadLine}

-- what lines say so far, in front of what more lines say
abbrev pub behind : {A : Type 0} → List A → Result (List A) InputFault → Result (List A) InputFault
behind front (Ok more) = Ok (front ++ more)
behind front (Err fault) = Err fault

behind-cons : {A : Type 0} (front : List A) (found : A) (more : Result (List A) InputFault)
    → behind front (more >>= λ others. Ok (found ∷ others)) ≡ behind (front ++ found ∷ []) more
behind-cons front found (Ok more) = ap Ok (sym (append_assoc front (found ∷ []) more))
behind-cons front found (Err fault) = refl

module _ {A : Type 0} (reading : List ℕ → Option A) where
  -- what a line says is put behind what those before say
  pub behind-more : (front : List A) (number : ℕ) (line : List ℕ) (more : List (List ℕ))
      (found : A)
      → Some found ≡ reading line
      → behind front (each_line reading number (line ∷ more))
      ≡ behind (front ++ found ∷ []) (each_line reading (number + 1) more)
  behind-more front number line more found e =
      ap (λ (o : Option A). behind front
      (line_or_fault number o >>= λ p. each_line reading (number + 1) more >>= λ ps. Ok (p ∷ ps)))
      (sym e)
      ∙ behind-cons front found (each_line reading (number + 1) more)

  -- the same, where the lines are known to begin with this one
  pub behind-next : (front grown : List A) (found : A)
      (number : ℕ) (line : List ℕ) (lines more : List (List ℕ))
      → lines ≡ line ∷ more → Some found ≡ reading line → grown ≡ front ++ found ∷ []
      → behind front (each_line reading number lines)
      ≡ behind grown (each_line reading (number + 1) more)
  behind-next front grown found number line lines more is e pushed =
      ap (λ ls. behind front (each_line reading number ls)) is
      ∙ behind-more front number line more found e
      ∙ ap (λ items. behind items (each_line reading (number + 1) more)) (sym pushed)

  -- and so the item that holds it
  pub behind-pushed : {X : Type 0} (view : X → A) (items items' : List X) (found : X)
      (number : ℕ) (line : List ℕ) (lines more : List (List ℕ))
      → lines ≡ line ∷ more → Some (view found) ≡ reading line → items' ≡ items ++ found ∷ []
      → behind (map view items) (each_line reading number lines)
      ≡ behind (map view items') (each_line reading (number + 1) more)
  behind-pushed view items items' found number line lines more is e grown =
      ap (λ ls. behind (map view items) (each_line reading number ls)) is
      ∙ behind-more (map view items) number line more (view found) e
      ∙ ap (λ front. behind front (each_line reading (number + 1) more))
      (sym (ap (map view) grown ∙ map-append view items (found ∷ [])))

  -- a line that says nothing is a fault
  pub behind-bad : (front : List A) (number : ℕ) (line : List ℕ) (more : List (List ℕ))
      → None ≡ reading line
      → behind front (each_line reading number (line ∷ more)) ≡ Err (BadLine number)
  behind-bad front number line more e =
      ap (λ (o : Option A). behind front
      (line_or_fault number o >>= λ p. each_line reading (number + 1) more >>= λ ps. Ok (p ∷ ps)))
      (sym e)

  -- behind the last line all is there
  pub behind-end : (front : List A) (number : ℕ) (lines : List (List ℕ)) → lines ≡ []
      → behind front (each_line reading number lines) ≡ Ok front
  behind-end front number lines e = rw e (ap Ok (append-nil front))
