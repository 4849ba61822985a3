-- The items of a number are a document. Offered to the crates above: `one_line-number_comment`.
use Rattle.std.specs.Prelude.{◌≡◌, ℕ, Bool, true, false, ◌==◌, if◌then◌else◌, List, [], ◌∷◌, ◌++◌, length, Option, Some, None, refl, not, ◌||◌, IsTrue, codes}
use Rattle.std.specs.List.{list_any}
use Rattle.registry.specs.Tables.{is_one_line, mnemonic_of, MnemonicsOneLine}
use Rattle.text_spec.specs.Layouts.{Token, Comment, IsOneLine, IsDocument}
use Rattle.text_spec.specs.Documents.{number_comment, number_items}

front : (b rest : Bool) → not (b || rest) ≡ true → IsTrue (not b)
front true rest h = absurd cc
front false rest h = refl

back : (b rest : Bool) → not (b || rest) ≡ true → not rest ≡ true
back true rest h = absurd cc
back false rest h = h

-- a text that passes the test is one line
one_line : (text : List ℕ) → is_one_line text ≡ true → IsOneLine text
one_line [] h = tt
one_line (c ∷ text) h = (
  front (c == 10) (list_any (λ d. d == 10) text) h,
  one_line text
      (back (c == 10) (list_any (λ d. d == 10) text) h),
)

one_line-append : (text more : List ℕ) → IsOneLine text → IsOneLine more → IsOneLine (text ++ more)
one_line-append [] more h k = k
one_line-append (c ∷ text) more h k = (h.0, one_line-append text more h.1 k)

named : (name : List ℕ) (mnemonic : Option (List ℕ)) → IsOneLine name
    → ((m : List ℕ) → mnemonic ≡ Some m → is_one_line m ≡ true)
    → IsOneLine (number_comment name mnemonic)
named name None h k = h
named name (Some m) h k =
    one_line-append (name ++ codes ": ") m (one_line-append name (codes ": ") h (refl, (refl, tt)))
    (one_line m (k m refl))

-- a comment that names a number has no line feed
pub one_line-number_comment : (name : List ℕ) (rows : List (ℕ × List ℕ)) (n : ℕ)
    → is_one_line name ≡ true → MnemonicsOneLine rows
    → IsOneLine (number_comment name (mnemonic_of rows n))
one_line-number_comment name rows n h k = named name (mnemonic_of rows n) (one_line name h) (k n)

-- a number's items are a document
pub document-number : (text name : List ℕ) (rows : List (ℕ × List ℕ)) (n : ℕ)
    → is_one_line name ≡ true → MnemonicsOneLine rows
    → IsDocument (number_items text name (mnemonic_of rows n))
document-number text name rows n h k =
    document (length name == 0) text (number_comment name (mnemonic_of rows n))
    (one_line-number_comment name rows n h k)
  where
    document : (test : Bool) (text comment : List ℕ) → IsOneLine comment
        → IsDocument (if test then Token text ∷ [] else Token text ∷ Comment comment ∷ [])
    document true text comment h = record { closes = λ b. refl; comments = tt }
    document false text comment h = record { closes = λ b. refl; comments = (h, tt) }
