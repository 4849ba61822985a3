use Rattle.std.proofs.Common.{map}
use Rattle.std.specs.Fmt.{IsPlainFormatter}
use Rattle.svcb_pairs.specs.Parameters.{pairs_in}
use Rattle.svcb_spec.specs.PrintedParams.{params_printed, pair_printed}
use Rattle.svcb_params.proofs.PairTexts.{WritesFront, spaces_and}
use Rattle.svcb_params.proofs.texts.SvcParamsRefDisplay.fmt.Given as goal

abbrev pub invariant-loop-pair : goal.invariant-loop-pair
invariant-loop-pair g l =
    let pairs = pairs_in l.self.slice.now in
    IsPlainFormatter l.fn.f
    → WritesFront g.W.Write.write_str_gives l.fn.f l.f (params_printed pairs)
    (spaces_and (map (pair_printed pairs) l.pair-iterator))
