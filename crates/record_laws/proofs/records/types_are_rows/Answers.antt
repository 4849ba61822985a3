use Rattle.record_laws.proofs.Types.{types_are}
use Rattle.record_laws.proofs.records.types_are_rows.Goals as goal

pub returns : goal.returns
returns c = types_are
