use Rattle.svcb_pairs.proofs.ReadSpans.{copied_spans}
use Rattle.svcb_pairs.proofs.limited_pairs.LimitedPairs.copy_of.Goals as goal

pub returns-clause-spanned : goal.returns-clause-spanned
returns-clause-spanned c =
    copied_spans c.args.octets.now _ c.args.limit c.requires.are_parameters c.requires.within
    c.requires.in_range c.in_ok-spans_of.ensures.pairs c.in_ok-spans_of.ensures.inside _
    c.in_ok-from_slice.ensures.items
