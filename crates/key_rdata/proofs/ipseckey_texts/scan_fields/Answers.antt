use Rattle.std.proofs.Common.{arith}
use Rattle.key_rdata.proofs.ScannedFields.{takes_one}
use Rattle.key_rdata.proofs.ipseckey_texts.scan_fields.Goals as goal

pub returns-clause-unknown : goal.returns-clause-unknown
returns-clause-unknown g c = λ is.
    omega (
      arith,
      c.scan_behind_numbers.ensures.unknown is,
      takes_one _ _ _
          c.in_ok-precedence.ensures,
      takes_one _ _ _ c.in_ok-scan_u8.ensures,
      takes_one _ _ _
          c.in_ok-scan_u8-2.ensures,
    )
