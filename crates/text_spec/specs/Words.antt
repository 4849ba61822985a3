-- Rows of words: texts of tokens and brackets, with one space between two of them.
use Rattle.std.specs.Prelude.{◌≡◌, ℕ, zero, suc, List, [], ◌∷◌, ◌++◌}
use Rattle.text_spec.specs.declared.lexeme.Symbol.{Symbol}
use Rattle.text_spec.specs.Pieces.{IsTokenText}

-- a token's text, or a bracket
pub data Word : Type 0 where
  Text : (text : List ℕ) → Word
  OpeningBracket : Word
  ClosingBracket : Word

abbrev pub word_text : Word → List ℕ
word_text (Text text) = text
word_text OpeningBracket = 40 ∷ []
word_text ClosingBracket = 41 ∷ []

-- the text of words, with a space between two of them
abbrev pub words_text : List Word → List ℕ
words_text [] = []
words_text (word ∷ []) = word_text word
words_text (word ∷ next ∷ words) = word_text word ++ 32 ∷ words_text (next ∷ words)

-- the texts are each wholly that of the token beside it, and the brackets, so many of which are
-- open, are closed
abbrev pub AreWords : ℕ → List Word → List (List Symbol) → Type 0
AreWords depth [] [] = depth ≡ 0
AreWords depth [] (token ∷ tokens) = ⊥
AreWords depth (Text text ∷ words) [] = ⊥
AreWords depth (Text text ∷ words) (token ∷ tokens) =
    IsTokenText text token × AreWords depth words tokens
AreWords depth (OpeningBracket ∷ words) tokens = AreWords (suc depth) words tokens
AreWords zero (ClosingBracket ∷ words) tokens = ⊥
AreWords (suc depth) (ClosingBracket ∷ words) tokens = AreWords depth words tokens
