use Rattle.std.proofs.Common.{◌≡◌, drop}
use Rattle.std.specs.List.{list_all}
use Rattle.svcb_spec.specs.ParamTexts.{is_key_octet}
use Rattle.svcb_text.proofs.param.is_key_text.Given as goal

abbrev pub invariant-loop-c : goal.invariant-loop-c
invariant-loop-c l = list_all is_key_octet l.key ≡ list_all is_key_octet (drop l.c-index l.key)
