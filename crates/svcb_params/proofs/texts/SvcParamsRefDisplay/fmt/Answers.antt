use Rattle.std.proofs.Common.{◌≡◌, ℕ, List, ◌∷◌, ◌++◌, map, true, refl, sym, ap, ◌∙◌}
use Rattle.std.specs.List.{join_with_byte}
use Rattle.std.proofs.Output.{has_written_append}
use Rattle.svcb_spec.specs.Params.{Pair, Pairs}
use Rattle.svcb_pairs.specs.Parameters.{pairs_in}
use Rattle.svcb_spec.specs.PrintedParams.{pair_printed}
use Rattle.svcb_params.specs.ParamsView.{seen_pair}
use Rattle.svcb_params.proofs.RawPairs.{first_raw}
use Rattle.svcb_params.proofs.PairTexts.{spaces_and, first_then_others, one_more}
use Rattle.svcb_params.proofs.texts.SvcParamsRefDisplay.fmt.Goals as goal

pub loop-pair-init : goal.loop-pair-init
loop-pair-init g c = λ plain.
    let pairs : Pairs = pairs_in c.args.self.now.slice.now in
    let text : Pair → List ℕ = pair_printed pairs in
    let first : Pair = seen_pair c.in-Some.first in
    let others : Pairs = c.into_iter-pair-iterator.result in
    let pairs_are : pairs ≡ first ∷ others =
    sym c.iter_raw-pairs.ensures
    ∙ first_raw _ _ _ c.in-Some.ensures.steps
    ∙ ap (λ ps. first ∷ ps) (sym c.into_iter-pair-iterator.ensures.into_iter_gives) in
    record {
      text = text first;
      wrote = c.in_ok-write.ensures.writes plain (refl {a = true});
      whole_is = first_then_others (text first) (map text others)
          ∙ ap (λ ps. join_with_byte 32 (map text ps)) (sym pairs_are);
    }

pub loop-pair-preserved : goal.loop-pair-preserved
loop-pair-preserved g c = λ plain.
    let front = c.loop-pair.invariant plain in
    let text : Pair → List ℕ = pair_printed (pairs_in c.args.self.now.slice.now) in
    let pair : List ℕ = text (seen_pair c.in-Some-pair.pair) in
    let rest : List (List ℕ) = map text c.next-in-loop-pair.new.self in
    record {
      text = front.text ++ 32 ∷ pair;
      wrote = has_written_append _ _ _ _ (32 ∷ pair) _ front.wrote
          (c.in_ok-write-2.ensures.writes front.wrote.plain (refl {a = true}));
      whole_is =
          one_more front.text pair (spaces_and rest)
          ∙ ap (λ ps. front.text ++ spaces_and (map text ps))
          (sym (first_raw _ _ _ c.in-Some-pair.ensures.steps))
          ∙ front.whole_is;
    }
