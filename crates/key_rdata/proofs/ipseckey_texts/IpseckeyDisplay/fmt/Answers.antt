use Rattle.std.proofs.Common.{◌∙◌}
use Rattle.std.proofs.Output.{has_written_of_eq}
use Rattle.key_rdata.proofs.PrintedData.{printed_pieces}
use Rattle.key_rdata.proofs.ipseckey_texts.IpseckeyDisplay.fmt.Goals as goal

pub returns-clause-writes : goal.returns-clause-writes
returns-clause-writes g c = λ plain ok.
    has_written_of_eq _ _ _ _ _
    (printed_pieces c.args.self.now _ _ _ _ _ c.precedence-precedence.ensures
    c.gateway_type-gateway_type.ensures c.algorithm-algorithm.ensures c.gateway-gateway.ensures
    (c.as_slice.ensures ∙ c.key.ensures))
    (c.write.ensures.writes plain ok)
