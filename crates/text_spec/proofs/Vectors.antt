-- What the definitions of texts give on worked inputs. No proof cites this file.
use Rattle.std.proofs.Common.{◌≡◌, ℕ, true, false, List, [], ◌∷◌, ◌++◌, map, Option, Some, None, refl}
use Rattle.std.specs.Prelude.{codes}
use Rattle.name_spec.specs.Printed.{printed_as, printed_octets, printed_name, printed_name_with_dot}
use Rattle.text_spec.specs.declared.errors.ScanError.TheVariants.{BadSymbol, BadEscape, OpenQuote, BadBracket, TrailingTokens, EndOfEntry}
use Rattle.text_spec.specs.declared.display_kind.DisplayKind.TheVariants.{Simple, Tabbed, Multiline}
use Rattle.text_spec.specs.declared.lexeme.Symbol.{Symbol}
use Rattle.text_spec.specs.Lexing.{step, lexemes_at}
use Rattle.text_spec.specs.Tokens.{text_fault, tokens_in}
use Rattle.text_spec.specs.Scanning.{octets_of, one, any_octets, is_marked, done, refused}
use Rattle.text_spec.specs.NameTexts.{name_of}
use Rattle.text_spec.specs.Layouts.{Item, Token, Comment, BlockBegin, BlockEnd, laid_out_text}

-- the octets of a text's tokens
abbrev words : List ℕ → List (List ℕ)
words text = map octets_of (tokens_in text)

-- ---- tokens

abbrev brackets : List ℕ
brackets = codes "a \"b c\" \\; ( d ; x" ++ 10 ∷ codes " e )"

tokens_in_brackets : words brackets ≡ codes "a" ∷ codes "b c" ∷ codes ";" ∷ codes "d" ∷ codes "e"
    ∷ []
unfolding lexemes_at step
tokens_in_brackets = refl

no_fault : text_fault brackets ≡ None
unfolding lexemes_at step
no_fault = refl

adjoining_parts : words (codes "a\"b c\"d\"\"") ≡ codes "ab cd" ∷ []
unfolding lexemes_at step
adjoining_parts = refl

empty_token : words (codes "\"\"") ≡ [] ∷ []
unfolding lexemes_at step
empty_token = refl

escapes : tokens_in (codes "\\#\\255")
    ≡ (record { octet = 35; escaped = true } ∷ record { octet = 255; escaped = true } ∷ []) ∷ []
unfolding lexemes_at step
escapes = refl

-- ---- faults, the first of which decides

bad_escape : text_fault (codes "a\\25") ≡ Some BadEscape
unfolding lexemes_at step
bad_escape = refl

escape_256 : text_fault (codes "\\256") ≡ Some BadEscape
unfolding lexemes_at step
escape_256 = refl

open_quote : text_fault (codes "\"a") ≡ Some OpenQuote
unfolding lexemes_at step
open_quote = refl

open_bracket : text_fault (codes "( a") ≡ Some BadBracket
unfolding lexemes_at step
open_bracket = refl

closing_bracket : text_fault (codes "a)") ≡ Some BadBracket
unfolding lexemes_at step
closing_bracket = refl

second_line : text_fault (97 ∷ 10 ∷ 98 ∷ []) ≡ Some TrailingTokens
unfolding lexemes_at step
second_line = refl

comment_behind : text_fault (97 ∷ 10 ∷ codes " ; b") ≡ None
unfolding lexemes_at step
comment_behind = refl

line_end_in_quotes : text_fault (34 ∷ 97 ∷ 10 ∷ 34 ∷ []) ≡ Some BadSymbol
unfolding lexemes_at step
line_end_in_quotes = refl

first_fault_decides : text_fault (codes "a\\25)") ≡ Some BadEscape
unfolding lexemes_at step
first_fault_decides = refl

-- ---- scanning

abbrev two_tokens : List (List Symbol)
two_tokens = tokens_in (codes "0A 0b")

second_token : one any_octets two_tokens 1 ≡ done (codes "0b") 2
unfolding lexemes_at step
second_token = refl

no_third : one any_octets two_tokens 2 ≡ refused EndOfEntry 2
unfolding lexemes_at step
no_third = refl

marker_by_number : is_marked (tokens_in (codes "\\035 1 00")) 0 ≡ true
unfolding lexemes_at step
marker_by_number = refl

no_marker : is_marked (tokens_in (codes "# 1 00")) 0 ≡ false
unfolding lexemes_at step
no_marker = refl

-- ---- names

-- the labels of the name that a text's first token spells
abbrev labels : List ℕ → Option (List (List ℕ))
labels text = name_in_first (tokens_in text)
  where
    name_in_first : List (List Symbol) → Option (List (List ℕ))
    name_in_first [] = None
    name_in_first (token ∷ tokens) = name_of token

escaped_dot : labels (codes "a\\.b.c") ≡ Some (codes "a.b" ∷ codes "c" ∷ [])
unfolding lexemes_at step
escaped_dot = refl

final_dot : labels (codes "a.") ≡ Some (codes "a" ∷ [])
unfolding lexemes_at step
final_dot = refl

root : labels (codes ".") ≡ Some []
unfolding lexemes_at step
root = refl

at_sign : labels (codes "@") ≡ None
unfolding lexemes_at step
at_sign = refl

empty_label : labels (codes "a..b") ≡ None
unfolding lexemes_at step
empty_label = refl

no_labels : labels (codes "\"\"") ≡ None
unfolding lexemes_at step
no_labels = refl

printed-escapes : printed_octets (codes "a b\"" ++ 255 ∷ 9 ∷ []) ≡ codes "a\\ b\\\"\\255\\009"
unfolding printed_as
printed-escapes = refl

printed-name : printed_name (codes "a.b" ∷ codes "c" ∷ []) ≡ codes "a\\.b.c"
unfolding printed_as
printed-name = refl

printed-with_dot : printed_name_with_dot (codes "a" ∷ codes "c" ∷ []) ≡ codes "a.c."
unfolding printed_as
printed-with_dot = refl

-- ---- layouts

-- a block with a comment behind its first token
abbrev document : List Item
document = BlockBegin ∷ Token (codes "10") ∷ Comment (codes "key tag") ∷ Token (codes "x")
    ∷ BlockEnd ∷ []

in_lines : laid_out_text Multiline document ≡ codes "( 10 ; key tag" ++ 10 ∷ 9 ∷ codes "x )"
in_lines = refl

on_one_line : laid_out_text Simple document ≡ codes "10 x"
on_one_line = refl

by_tabs : laid_out_text Tabbed document ≡ codes "10" ++ 9 ∷ codes "x"
by_tabs = refl
