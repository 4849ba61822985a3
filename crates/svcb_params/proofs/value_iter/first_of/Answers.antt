use Rattle.std.proofs.Common.{Some, None, rules}
use Rattle.svcb_params.specs.ParamsView.{seen_params}
use Rattle.svcb_params.proofs.TypedValues.{is_first_value}
use Rattle.svcb_params.proofs.value_iter.first_of.Goals as goal

pub returns-in-Some-Ok : goal.returns-in-Some-Ok
returns-in-Some-Ok g c =
    is_first_value g.V.ParseSvcParamValue.seen g.V.ParseSvcParamValue.takes
    g.V.ParseSvcParamValue.reads (seen_params c.args.params) (Some c.in-Some-Ok.value)
    (search rules)

pub returns-in_default : goal.returns-in_default
returns-in_default g c =
    is_first_value g.V.ParseSvcParamValue.seen g.V.ParseSvcParamValue.takes
    g.V.ParseSvcParamValue.reads (seen_params c.args.params) None (search rules)
