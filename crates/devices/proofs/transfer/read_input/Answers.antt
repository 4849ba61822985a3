-- The octets that no memory was left for were taken behind those in the vector.
use Rattle.std.proofs.Common.{arith}
use Rattle.std.proofs.KnownBytes.{Consumes-trans}
use Rattle.std.proofs.lemmas.Grind.{common_steps}
use Rattle.std.proofs.Common.{rules}
use Rattle.devices.proofs.transfer.read_input.Goals as goal

pub returns-in_err-extend_from_slice-clause-takes :
    goal.returns-in_err-extend_from_slice-clause-takes
returns-in_err-extend_from_slice-clause-takes g c = record {
  most = grind (arith, common_steps);
  front = (_, Consumes-trans _ _ _ _ _ c.loop-piece.invariant.taken c.in_ok-count.ensures.bytes.0);
  keeps_telling = search rules;
}
