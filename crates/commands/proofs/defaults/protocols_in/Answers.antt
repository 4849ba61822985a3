use Rattle.std.proofs.Common.{◌≡◌, Option, Some, None, refl, arith}
use Rattle.std.proofs.lemmas.Grind.{common_steps}
use Rattle.std.specs.Option.{option_map}
use Rattle.svcb_spec.specs.Values.{Value}
use Rattle.svcb_choose.specs.Usability.{alpn_protocols}
use Rattle.commands.proofs.defaults.protocols_in.Goals as goal

-- no value has no protocols
no-value : (value : Option Value) → option_map Some value ≡ None
    → option_map alpn_protocols value ≡ None
no-value None none = refl
no-value (Some value) none = cc

pub returns-in-Err : goal.returns-in-Err
returns-in-Err c = grind (arith, common_steps, no-value)
