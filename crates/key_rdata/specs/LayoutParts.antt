-- The parts of the document of IPSECKEY data.
use Rattle.std.specs.Prelude.{List, [], ◌∷◌, ◌++◌, codes}
use Rattle.std.specs.Fmt.{decimal}
use Rattle.text_spec.specs.Encodings.{base64_text}
use Rattle.text_spec.specs.Layouts.{Item, Token, Comment}
use Rattle.record_spec.specs.Ipseckeys.{Ipseckey, gateway_type}
use Rattle.record_spec.specs.IpseckeyTexts.{gateway_document, type_comment, algorithm_comment}

abbrev pub precedence_items : Ipseckey → List Item
precedence_items found = Token (decimal found.precedence) ∷ Comment (codes "precedence") ∷ []

abbrev pub type_items : Ipseckey → List Item
type_items found =
    Token (decimal (gateway_type found.gateway)) ∷ Comment (type_comment found.gateway)
    ∷ Comment (codes "gateway type") ∷ []

abbrev pub algorithm_items : Ipseckey → List Item
algorithm_items found =
    Token (decimal found.algorithm) ∷ Comment (algorithm_comment found.algorithm)
    ∷ Comment (codes "algorithm") ∷ []

abbrev pub ipseckey_numbers_items : Ipseckey → List Item
ipseckey_numbers_items found = precedence_items found ++ type_items found ++ algorithm_items found

abbrev pub key_items : Ipseckey → List Item
key_items found =
    gateway_document found.gateway ++ Comment (codes "gateway") ∷ Token (base64_text found.key) ∷ []

-- what stands in the block
abbrev pub fields_items : Ipseckey → List Item
fields_items found = ipseckey_numbers_items found ++ key_items found
