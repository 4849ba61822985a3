-- The documents of the data of SVCB and HTTPS records and of their parameters.
use Rattle.std.specs.Prelude.{List, [], ◌∷◌, ◌++◌, map, codes}
use Rattle.std.specs.Fmt.{decimal}
use Rattle.name_spec.specs.Printed.{printed_name_with_dot}
use Rattle.svcb_spec.specs.Params.{Pairs}
use Rattle.svcb_spec.specs.Records.{Record}
use Rattle.text_spec.specs.Layouts.{Item, Token, Comment, BlockBegin, BlockEnd}
use Rattle.svcb_spec.specs.PrintedParams.{pair_texts}

-- a token for each pair
abbrev pub pair_items : Pairs → List Item
pair_items pairs = map (λ text. Token text) (pair_texts pairs)

-- the parameters: the pairs in a block
abbrev pub params_document : Pairs → List Item
params_document pairs = BlockBegin ∷ pair_items pairs ++ BlockEnd ∷ []

-- the data: a block of the priority, the target with its final dot, and the document of the
-- parameters
abbrev pub svcb_document : Record → List Item
svcb_document found =
    BlockBegin ∷ Token (decimal found.priority) ∷ Comment (codes "priority")
    ∷ Token (printed_name_with_dot found.labels) ∷ Comment (codes "target")
    ∷ params_document found.pairs ++ BlockEnd ∷ []
