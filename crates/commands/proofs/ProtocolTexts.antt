-- Facts on the texts of protocols.
use Rattle.std.proofs.Common.{◌≡◌, ℕ, suc, ◌+◌, ◌<◌, List, [], ◌∷◌, ◌++◌, length, get_or, drop, map, sym, ap, ◌∙◌, append_assoc, append-nil, add-one, drop-cons}
use Rattle.std.specs.List.{flat_map}
use Rattle.std.specs.Fmt.{HasWritten}
use Rattle.std.specs.declared.fmt.Formatter.{Formatter}
use Rattle.name_spec.specs.Printed.{printed_octets}
use Rattle.svcb_spec.specs.ListTexts.{escaped_item}
use Rattle.commands.specs.ChooseReport.{protocols_text}

abbrev pub text_of : List ℕ → List ℕ
text_of protocol = printed_octets (escaped_item protocol)

-- texts with a comma before each
abbrev pub commas_and : List (List ℕ) → List ℕ
commas_and texts = flat_map (λ t. 44 ∷ t) texts

-- a prefix of the whole text is written, and the rest is not yet
pub record WritesFront {W : Type 0} (took : W → List ℕ → W → Type 0) (f g : Formatter W)
    (whole rest : List ℕ) : Type 0 where
  pub text : List ℕ
  pub wrote : HasWritten took f text g
  pub whole_is : text ++ rest ≡ whole

-- the first, and then the others behind a comma each
pub first-and-others : (first : List ℕ) (others : List (List ℕ))
    → text_of first ++ commas_and (map text_of others) ≡ protocols_text (first ∷ others)
first-and-others first [] = append-nil (text_of first)
first-and-others first (next ∷ others) =
    ap (λ (text : List ℕ). text_of first ++ 44 ∷ text) (first-and-others next others)

-- one more of the others
pub others-more : (front : List ℕ) (others : List (List ℕ)) (i : ℕ) (protocol other : List ℕ)
    → i < length others → protocol ≡ get_or others i other
    → ((front ++ 44 ∷ []) ++ text_of protocol) ++ commas_and (map text_of (drop (i + 1) others))
    ≡ front ++ commas_and (map text_of (drop i others))
others-more front others i protocol other inside is =
    let begins : drop i others ≡ protocol ∷ drop (i + 1) others =
    rw (add-one) (drop-cons others i other inside
    ∙ ap (λ (p : List ℕ). p ∷ drop (suc i) others) (sym is)) in
    append_assoc (front ++ 44 ∷ []) (text_of protocol)
    (commas_and (map text_of (drop (i + 1) others)))
    ∙ append_assoc front (44 ∷ [])
    (text_of protocol ++ commas_and (map text_of (drop (i + 1) others)))
    ∙ ap (λ (ps : List (List ℕ)). front ++ commas_and (map text_of ps)) (sym begins)
