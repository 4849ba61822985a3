use Rattle.text_spec.proofs.EncodingTexts.{base64_exact}
use Rattle.text_spec.proofs.laws.base64_exact.Goals as goal

pub returns : goal.returns
returns c = base64_exact
