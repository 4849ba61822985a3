use Rattle.svcb_spec.proofs.RebuildLaws.{canonical_form}
use Rattle.svcb_spec.proofs.laws.canonical_form.Goals as goal

pub returns : goal.returns
returns c = canonical_form
