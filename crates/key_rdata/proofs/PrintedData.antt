-- The text of IPSECKEY data, piece by piece.
use Rattle.std.proofs.Common.{◌≡◌, ◌∙◌, true, ℕ, List, [], ◌++◌, append_assoc}
use Rattle.std.specs.Prelude.{codes}
use Rattle.std.specs.Fmt.{decimal}
use Rattle.record_spec.specs.declared.Encoding.TheVariants.{Base64}
use Rattle.record_spec.specs.Ipseckeys.{Gateway, gateway_type, Ipseckey}
use Rattle.record_spec.specs.Texts.{last_printed}
use Rattle.record_spec.specs.IpseckeyTexts.{gateway_text, ipseckey_printed}

regrouped : (p t a g k : List ℕ)
    → p ++ (codes " " ++ (t ++ (codes " " ++ (a ++ (codes " " ++ (g ++ (codes " " ++ k)))))))
    ≡ ((p ++ codes " ") ++ ((t ++ codes " ") ++ ((a ++ codes " ") ++ [])))
    ++ ((g ++ codes " ") ++ k)
regrouped p t a g k = simp append_assoc

-- the text, from its pieces
pub printed_pieces : (found : Ipseckey) (p t a : ℕ) (g : Gateway) (k : List ℕ)
    → p ≡ found.precedence → t ≡ gateway_type found.gateway → a ≡ found.algorithm
    → g ≡ found.gateway → k ≡ found.key
    → decimal p ++
    (codes " " ++
    (decimal t ++
    (codes " " ++
    (decimal a ++
    (codes " " ++ (gateway_text g ++ (codes " " ++ last_printed Base64 true k)))))))
    ≡ ipseckey_printed found
printed_pieces found p t a g k p_is t_is a_is g_is k_is =
    (λ i. decimal (p_is i)
    ++ (codes " "
    ++ (decimal (t_is i)
    ++ (codes " "
    ++ (decimal (a_is i)
    ++ (codes " "
    ++ (gateway_text (g_is i) ++ (codes " " ++ last_printed Base64 true (k_is i)))))))))
    ∙ regrouped (decimal found.precedence) (decimal (gateway_type found.gateway))
    (decimal found.algorithm) (gateway_text found.gateway) (last_printed Base64 true found.key)
