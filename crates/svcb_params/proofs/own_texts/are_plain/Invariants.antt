use Rattle.std.proofs.Common.{◌≡◌, drop}
use Rattle.std.specs.List.{list_all}
use Rattle.svcb_spec.specs.PrintedParams.{is_plain}
use Rattle.svcb_params.proofs.own_texts.are_plain.Given as goal

abbrev pub invariant-loop-octet : goal.invariant-loop-octet
invariant-loop-octet l =
    list_all is_plain l.octets ≡ list_all is_plain (drop l.octet-index l.octets)
