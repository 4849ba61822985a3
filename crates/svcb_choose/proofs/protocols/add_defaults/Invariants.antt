use Rattle.std.proofs.Common.{◌≡◌, drop}
use Rattle.svcb_choose.specs.Protocols.{with_defaults, IsSetOf}
use Rattle.svcb_choose.proofs.protocols.add_defaults.Given as goal

abbrev pub invariant-loop-protocol : goal.invariant-loop-protocol
invariant-loop-protocol l = record {
  added : with_defaults l.fn.listed.items l.defaults
      ≡ with_defaults l.listed.items (drop l.protocol-index l.defaults);
  same : IsSetOf l.known l.listed.items;
}
