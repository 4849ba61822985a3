-- The pieces of a text between its commas.
use Rattle.std.proofs.Common.{◌≡◌, ℕ, zero, suc, ◌+◌, ◌<◌, false, true, cond, List, [], ◌∷◌, length, take, drop, get_or, refl, sym, ap, ◌∙◌, add-one, arith}
use Rattle.std.specs.Prelude.{◌==◌}
use Rattle.std.proofs.lemmas.Bool.Decides.{nat_tests}
use Rattle.svcb_spec.specs.ListTexts.{onto_piece, comma_pieces}

-- an octet that is no comma stands in front of the first piece
comma_pieces-other : (c : ℕ) (text : List ℕ) → (c ≡ 44 → ⊥)
    → comma_pieces (c ∷ text) ≡ onto_piece c (comma_pieces text)
comma_pieces-other c text other =
    let not_comma : (c == 44) ≡ false = grind (arith, nat_tests) in
    ap (λ b. cond b ([] ∷ comma_pieces text) (onto_piece c (comma_pieces text))) not_comma

comma_pieces-comma : (c : ℕ) (text : List ℕ) → c ≡ 44
    → comma_pieces (c ∷ text) ≡ [] ∷ comma_pieces text
comma_pieces-comma c text is =
    let comma : (c == 44) ≡ true = grind (arith, nat_tests) in
    ap (λ b. cond b ([] ∷ comma_pieces text) (onto_piece c (comma_pieces text))) comma

-- the first piece stands before the first comma
pub comma_pieces-at : (i : ℕ) (text : List ℕ) → ((k : ℕ) → k < i → get_or text k 0 ≡ 44 → ⊥)
    → i < length text → get_or text i 0 ≡ 44
    → comma_pieces text ≡ take i text ∷ comma_pieces (drop (i + 1) text)
comma_pieces-at i [] before within here = absurd (omega arith)
comma_pieces-at zero (c ∷ text) before within here = comma_pieces-comma c text here
comma_pieces-at (suc i) (c ∷ text) before within here =
    comma_pieces-other c text (before 0 (omega arith))
    ∙ ap (onto_piece c)
    (comma_pieces-at i text (λ k h. before (suc k) (omega arith)) (omega arith) here)
    ∙ ap (λ n. (c ∷ take i text) ∷ comma_pieces (drop n text)) (add-one i)
    ∙ ap (λ n. (c ∷ take i text) ∷ comma_pieces (drop n (c ∷ text))) (sym (add-one (suc i)))

-- a text without a comma is one piece
pub comma_pieces-one : (text : List ℕ) → ((k : ℕ) → k < length text → get_or text k 0 ≡ 44 → ⊥)
    → comma_pieces text ≡ text ∷ []
comma_pieces-one [] none = refl
comma_pieces-one (c ∷ text) none =
    comma_pieces-other c text (none 0 (omega arith))
    ∙ ap (onto_piece c) (comma_pieces-one text (λ k h. none (suc k) (omega arith)))
