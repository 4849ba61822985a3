use Rattle.std.proofs.Common.{sym, ap, ◌∙◌, List, ℕ}
use Rattle.std.specs.List.{list_all}
use Rattle.svcb_pairs.specs.Holding.{has_entry}
use Rattle.svcb_spec.specs.ParamTexts.{mandatory_keys}
use Rattle.svcb_pairs.proofs.MandatoryKeys.{no_list}
use Rattle.svcb_pairs.proofs.values.has_listed.Goals as goal

pub returns-in_default : goal.returns-in_default
returns-in_default c =
    sym (ap (λ (keys : List ℕ). list_all (has_entry c.args.values.now.entries) keys)
    (sym (ap mandatory_keys c.for_ref.ensures)
    ∙ no_list c.for_ref.result c.in_default.not-Mandatory))
