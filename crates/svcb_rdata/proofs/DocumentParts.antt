-- A record's document, item by item.
use Rattle.std.proofs.Common.{◌≡◌, ℕ, List, [], ◌∷◌, ap, ap₂, ◌∙◌}
use Rattle.std.specs.Prelude.{codes}
use Rattle.std.specs.Fmt.{decimal}
use Rattle.name_spec.specs.Printed.{printed_name_with_dot}
use Rattle.svcb_spec.specs.Records.{Record}
use Rattle.text_spec.specs.Layouts.{Item, Token, Comment, BlockBegin, Sheet, laid_out}

-- what stands before the parameters
abbrev pub parts : Record → List Item
parts found =
    BlockBegin ∷ Token (decimal found.priority) ∷ Comment (codes "priority")
    ∷ Token (printed_name_with_dot found.labels) ∷ Comment (codes "target") ∷ []

-- the five items, written in turn
module _ (found : Record) (old begun numbered noted named behind : Sheet) where
  pub parts_laid_out : (number : ℕ) (labels : List (List ℕ)) → number ≡ found.priority
      → labels ≡ found.labels → begun ≡ laid_out old (BlockBegin ∷ [])
      → numbered ≡ laid_out begun (Token (decimal number) ∷ [])
      → noted ≡ laid_out numbered (Comment (codes "priority") ∷ [])
      → named ≡ laid_out noted (Token (printed_name_with_dot labels) ∷ [])
      → behind ≡ laid_out named (Comment (codes "target") ∷ [])
      → behind ≡ laid_out old (parts found)
  parts_laid_out number labels is are one two three four five =
      five ∙ ap (λ sheet. laid_out sheet (Comment (codes "target") ∷ []))
      (four ∙ ap₂ (λ ls sheet. laid_out sheet (Token (printed_name_with_dot ls) ∷ [])) are
      (three ∙ ap (λ sheet. laid_out sheet (Comment (codes "priority") ∷ []))
      (two ∙ ap₂ (λ n sheet. laid_out sheet (Token (decimal n) ∷ [])) is one)))
