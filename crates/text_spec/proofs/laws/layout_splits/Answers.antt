use Rattle.text_spec.proofs.Splits.{layout_splits}
use Rattle.text_spec.proofs.laws.layout_splits.Goals as goal

pub returns : goal.returns
returns c = layout_splits
