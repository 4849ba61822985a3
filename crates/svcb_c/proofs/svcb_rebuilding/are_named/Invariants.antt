use Rattle.std.proofs.Common.{◌≡◌, take, true}
use Rattle.std.specs.List.{list_all}
use Rattle.svcb_c.specs.Svcb.{is_named}
use Rattle.svcb_c.proofs.svcb_rebuilding.are_named.Given as goal

abbrev pub invariant-loop-push : goal.invariant-loop-push
invariant-loop-push l =
    list_all (is_named l.octets) (take l.push-index l.pushes) ≡ true
