-- The documents of record data and of parameters are documents. Types that are laid out so cite
-- these for their law.
use Rattle.std.specs.Prelude.{ℕ, List, [], ◌∷◌, ◌++◌, codes, refl}
use Rattle.std.specs.Fmt.{decimal}
use Rattle.name_spec.specs.Printed.{printed_name_with_dot}
use Rattle.svcb_spec.specs.Params.{Pairs}
use Rattle.svcb_spec.specs.Records.{Record}
use Rattle.text_spec.specs.Layouts.{Item, Token, Comment, IsOneLine, IsDocument}
use Rattle.text_spec.specs.LayoutLaws.{document-tokens, document-append, document-block}
use Rattle.svcb_spec.specs.PrintedParams.{pair_texts}
use Rattle.svcb_spec.specs.DataDocuments.{pair_items, params_document, svcb_document}

pub document-params : (pairs : Pairs) → IsDocument (params_document pairs)
document-params pairs = document-block (pair_items pairs) (document-tokens (pair_texts pairs))

priority_line : IsOneLine (codes "priority")
priority_line = (refl, (refl, (refl, (refl, (refl, (refl, (refl, (refl, tt))))))))

target_line : IsOneLine (codes "target")
target_line = (refl, (refl, (refl, (refl, (refl, (refl, tt))))))

-- the parts before the parameters
abbrev leading_items : Record → List Item
leading_items found =
    Token (decimal found.priority) ∷ Comment (codes "priority")
    ∷ Token (printed_name_with_dot found.labels) ∷ Comment (codes "target") ∷ []

pub document-svcb : (found : Record) → IsDocument (svcb_document found)
document-svcb found =
    let first : IsDocument (leading_items found) =
    record { closes = λ _. refl; comments = (priority_line, (target_line, tt)) } in
    document-block (leading_items found ++ params_document found.pairs)
    (document-append (leading_items found) (params_document found.pairs) first
    (document-params found.pairs))
