use Rattle.registry.specs.TextLaws.{spelled_number-decimal}
use Rattle.text_spec.proofs.PlainTexts.{decimal_again}
use Rattle.text_spec.proofs.laws.decimal_read_back.Goals as goal

pub returns-clause-token : goal.returns-clause-token
returns-clause-token c = decimal_again

pub returns-clause-number : goal.returns-clause-number
returns-clause-number c = spelled_number-decimal
