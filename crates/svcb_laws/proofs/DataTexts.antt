-- The printed text of a record, its line and its layouts are read back. Offered to the crates
-- above: `scanned_whole`, `text_again`, `line_text_again` and `layout_again`.
use Rattle.std.proofs.Common.{◌≡◌, ℕ, List, [], ◌∷◌, ◌++◌, map, refl, sym, ap, ◌∙◌, subst, append_assoc, length, zero-add}
use Rattle.std.specs.Prelude.{codes}
use Rattle.std.specs.Fmt.{decimal}
use Rattle.name_spec.specs.Printed.{Plain, Escaped, Decimal, printed_name_with_dot}
use Rattle.svcb_spec.specs.Records.{Record}
use Rattle.text_spec.specs.declared.lexeme.Symbol.{Symbol}
use Rattle.text_spec.specs.Layouts.{Item, Token, Comment, BlockBegin, BlockEnd, IsOneLine, IsDocument, laid_out_text}
use Rattle.text_spec.specs.Layouts as layouts
use Rattle.text_spec.specs.Pieces.{Bare, Quoted, HasTokens, IsTokenText}
use Rattle.text_spec.specs.Scanning.{done}
use Rattle.text_spec.proofs.Again.{has_tokens}
use Rattle.text_spec.proofs.Splits.{layout_splits}
use Rattle.text_spec.proofs.TokenTexts.{blank_on, token_on}
use Rattle.svcb_spec.specs.PrintedParams.{pair_texts, params_printed}
use Rattle.svcb_laws.specs.ParamTextLaws.{AreTextsOfTokens}
use Rattle.svcb_laws.proofs.ParamTokens.{has_tokens-spaced}
use Rattle.svcb_spec.specs.DataTexts.{svcb_printed, svcb_data}
use Rattle.svcb_spec.specs.DataDocuments.{params_document, svcb_document}
use Rattle.svcb_spec.specs.DataDocumentLaws.{document-svcb}
use Rattle.svcb_laws.specs.DataTextLaws.{IsRecordOfOctets, AreTokensOf, IsRecordText, DataTextReadBack, DataLineReadBack, DataLayoutReadBack}
use Rattle.svcb_laws.proofs.Lines.{line_again}
use Rattle.svcb_laws.proofs.DataTokens.{data_texts, tokens_of_data, data_again}

-- a text whose tokens are those of a record's texts
text_of : (text : List ℕ) (found : Record) (tokens : List (List Symbol)) → IsRecordOfOctets found
    → AreTextsOfTokens (data_texts found) tokens → HasTokens text tokens → IsRecordText text found
text_of text found tokens is are has = record {
  some = (tokens, has);
  scanned = λ others have. subst (λ ts. AreTokensOf ts found)
      (sym (has_tokens text tokens has).1 ∙ (has_tokens text others have).1)
      (data_again found tokens is are);
}

-- the tokens of such a text, by themselves
pub scanned_whole : (text : List ℕ) (found : Record) (tokens : List (List Symbol))
    → IsRecordText text found → HasTokens text tokens
    → svcb_data tokens 0 ≡ done found (length tokens)
scanned_whole text found tokens is has =
    is.scanned tokens has [] ∙ ap (done found) (zero-add (length tokens))

-- ---- the printed text

text_tokens : (found : Record) (tokens : List (List Symbol))
    → AreTextsOfTokens (data_texts found) tokens → HasTokens (svcb_printed found) tokens
text_tokens found [] are = absurd are
text_tokens found (priority ∷ []) are = absurd are.1
text_tokens found (priority ∷ target ∷ tokens) are =
    let parameters = params_printed found.pairs in
    let name = printed_name_with_dot found.labels in
    let behind = token_on 0 (32 ∷ parameters) tokens name target are.1.0
    (blank_on 0 parameters tokens 32 refl
    (has_tokens-spaced (pair_texts found.pairs) tokens are.1.1)) in
    subst (λ text. HasTokens text (priority ∷ target ∷ tokens))
    (sym (append_assoc (decimal found.priority) (32 ∷ name) (32 ∷ parameters)))
    (token_on 0 (32 ∷ name ++ 32 ∷ parameters) (target ∷ tokens)
    (decimal found.priority) priority are.0
    (blank_on 0 (name ++ 32 ∷ parameters) (target ∷ tokens) 32 refl behind))

pub text_again : DataTextReadBack
text_again found is =
    let tokens = tokens_of_data found is in
    text_of (svcb_printed found) found tokens.0 is tokens.1 (text_tokens found tokens.0 tokens.1)

pub line_text_again : DataLineReadBack
line_text_again found is =
    let tokens = tokens_of_data found is in
    text_of (svcb_printed found ++ 10 ∷ []) found tokens.0 is tokens.1
    (line_again (svcb_printed found) tokens.0 (text_tokens found tokens.0 tokens.1))

-- ---- layouts

-- no text is none of a token
not_empty : (token : List Symbol) → IsTokenText [] token → ⊥
not_empty token ([], are, text_is, is) = absurd cc
not_empty token (Bare (Plain c) ∷ parts, are, text_is, is) = absurd cc
not_empty token (Bare (Escaped c) ∷ parts, are, text_is, is) = absurd cc
not_empty token (Bare (Decimal c) ∷ parts, are, text_is, is) = absurd cc
not_empty token (Quoted symbols ∷ parts, are, text_is, is) = absurd cc
not_empty token (piece ∷ parts, are, text_is, is) = absurd are

token_first : (text : List ℕ) (token : List Symbol) (items : List Item)
    (tokens : List (List Symbol)) → IsTokenText text token
    → layouts.AreTokenTexts items tokens
    → layouts.AreTokenTexts (Token text ∷ items) (token ∷ tokens)
token_first [] token items tokens is are = absurd (not_empty token is)
token_first (c ∷ text) token items tokens is are = (is, are)

-- the tokens of texts, and the ends of two blocks
texts_and_ends : (texts : List (List ℕ)) (tokens : List (List Symbol))
    → AreTextsOfTokens texts tokens
    → layouts.AreTokenTexts ((map (λ text. Token text) texts ++ BlockEnd ∷ []) ++ BlockEnd ∷ [])
    tokens
texts_and_ends [] [] are = tt
texts_and_ends [] (token ∷ tokens) are = absurd are
texts_and_ends (text ∷ texts) [] are = absurd are
texts_and_ends (text ∷ texts) (token ∷ tokens) are =
    token_first text token ((map (λ t. Token t) texts ++ BlockEnd ∷ []) ++ BlockEnd ∷ []) tokens
    are.0 (texts_and_ends texts tokens are.1)

document_tokens : (found : Record) (tokens : List (List Symbol))
    → AreTextsOfTokens (data_texts found) tokens
    → layouts.AreTokenTexts (svcb_document found) tokens
document_tokens found [] are = absurd are
document_tokens found (priority ∷ []) are = absurd are.1
document_tokens found (priority ∷ target ∷ tokens) are =
    let rest = params_document found.pairs ++ BlockEnd ∷ [] in
    token_first (decimal found.priority) priority
    (Comment (codes "priority") ∷ Token (printed_name_with_dot found.labels)
    ∷ Comment (codes "target") ∷ rest) (target ∷ tokens) are.0
    (token_first (printed_name_with_dot found.labels) target
    (Comment (codes "target") ∷ rest) tokens are.1.0
    (texts_and_ends (pair_texts found.pairs) tokens are.1.1))

pub layout_again : DataLayoutReadBack
layout_again kind found is =
    let tokens = tokens_of_data found is in
    text_of (laid_out_text kind (svcb_document found)) found tokens.0 is tokens.1
    (layout_splits kind (svcb_document found) tokens.0 (document-svcb found)
    (document_tokens found tokens.0 tokens.1))
