use Rattle.std.proofs.Common.{◌≡◌, take, drop, map}
use Rattle.svcb_c.specs.Svcb.{reply_number}
use Rattle.svcb_c.proofs.svcb_rebuilding.put_replies.Given as goal

abbrev pub invariant-loop-i : goal.invariant-loop-i
invariant-loop-i l = record {
  written : take l.i l.buffer ≡ map reply_number (take l.i l.replies);
  rest : drop l.i l.buffer ≡ drop l.i l.fn.buffer;
}
