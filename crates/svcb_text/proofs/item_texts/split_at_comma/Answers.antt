use Rattle.std.proofs.Common.{◌+◌, ◌∷◌, ◌∙◌, List, ℕ, take, sym, ap, arith}
use Rattle.std.proofs.lemmas.List.{take_rest}
use Rattle.svcb_spec.specs.ListTexts.{comma_pieces}
use Rattle.svcb_text.proofs.CommaLemmas.{comma_pieces-at, comma_pieces-one}
use Rattle.svcb_text.proofs.item_texts.split_at_comma.Goals as goal

pub returns-then-c-eq44 : goal.returns-then-c-eq44
returns-then-c-eq44 c =
    let text = c.args.text.now in
    let i = c.loop-i.i in
    comma_pieces-at i text c.loop-i.invariant (omega arith) c.if-c-eq44.true
    ∙ ap (λ (rest : List ℕ). take i text ∷ comma_pieces rest) (sym (take_rest text (i + 1)))

pub returns : goal.returns
returns c = comma_pieces-one c.args.text.now (λ k h. c.loop-i.invariant k (omega arith))
