use Rattle.std.proofs.lemmas.Iterator.Consumers.{count_from_yields_List, YieldsList-from_first}
use Rattle.wire_base.proofs.name_comparisons.label_count.Goals as goal

pub returns : goal.returns
returns c = count_from_yields_List c.labels.result _ c.count.ensures.ran
    (YieldsList-from_first (λ x. x.now) (λ labels. labels) c.args.name.now c.labels.ensures.labels)
