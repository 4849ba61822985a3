use Rattle.svcb_laws.proofs.DataLengths.{line-fits}
use Rattle.svcb_laws.proofs.text_lengths.data_line_fits.Goals as goal

pub returns : goal.returns
returns c = line-fits
