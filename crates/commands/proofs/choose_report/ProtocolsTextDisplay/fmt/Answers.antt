use Rattle.std.proofs.Common.{◌≡◌, ℕ, true, List, [], ◌∷◌, ◌++◌, drop, map, refl, sym, ap, ◌∙◌, append-nil, arith}
use Rattle.std.proofs.Output.{has_written_append, has_written_of_eq}
use Rattle.std.proofs.lemmas.List.{drop_all}
use Rattle.commands.specs.ChooseReport.{protocols_text}
use Rattle.commands.proofs.ProtocolTexts.{text_of, commas_and, first-and-others, others-more}
use Rattle.commands.proofs.choose_report.ProtocolsTextDisplay.fmt.Goals as goal

pub loop-protocol-init : goal.loop-protocol-init
loop-protocol-init g c = λ plain.
    let first = c.in-Some.first.now in
    let others = c.in-Some.others.now in
    record {
      text = text_of c.as_slice.result.now;
      wrote = c.in_ok-write_item.ensures plain (refl {a = true});
      whole_is =
          ap (λ protocol. text_of protocol ++ commas_and (map text_of others)) c.as_slice.ensures
          ∙ first-and-others first others
          ∙ ap protocols_text (sym c.in-Some.ensures.cases.0);
    }

pub loop-protocol-preserved : goal.loop-protocol-preserved
loop-protocol-preserved g c = λ plain.
    let front = c.loop-protocol.invariant plain in
    let protocol = c.as_slice-in-loop-protocol.result.now in
    let comma = c.in_ok-write.ensures.writes front.wrote.plain (refl {a = true}) in
    record {
      text = (front.text ++ 44 ∷ []) ++ text_of protocol;
      wrote = has_written_append _ _ _ _ _ _ (has_written_append _ _ _ _ _ _ front.wrote comma)
          (c.in_ok-write_item-2.ensures comma.plain (refl {a = true}));
      whole_is =
          others-more front.text c.in-Some.others.now c.loop-protocol.protocol-index protocol
          c.protocol-item.result (omega arith)
          (c.as_slice-in-loop-protocol.ensures ∙ c.protocol-item.is)
          ∙ front.whole_is;
    }

pub returns-clause-writes : goal.returns-clause-writes
returns-clause-writes g c = λ plain ok.
    let front = c.loop-protocol.invariant plain in
    let others = c.in-Some.others.now in
    let left : drop c.loop-protocol.protocol-index others ≡ [] =
    drop_all c.loop-protocol.protocol-index others (omega arith) in
    has_written_of_eq _ _ _ _ _
    (sym (append-nil front.text)
    ∙ ap (λ (ps : List (List ℕ)). front.text ++ commas_and (map text_of ps)) (sym left)
    ∙ front.whole_is)
    front.wrote
