use Rattle.svcb_pairs.proofs.SpanLemmas.{no_spans}
use Rattle.svcb_pairs.proofs.limited_pairs.LimitedPairs.empty.Goals as goal

pub returns-clause-spanned : goal.returns-clause-spanned
returns-clause-spanned c = no_spans _ _ _ c.new.ensures.items c.new-2.ensures.empty c.requires
