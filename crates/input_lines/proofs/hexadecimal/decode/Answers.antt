-- Octets are written pair by pair, as `hex` reads them.
use Rattle.std.proofs.Common.{◌*◌, sym, refl, ap, ◌∙◌, arith}
use Rattle.std.specs.Result.{result_ok}
use Rattle.hex.proofs.Pairs.{decode_step, decode_done}
use Rattle.input_lines.proofs.HexadecimalLemmas.{even_octets, read_pair, refused_pair}
use Rattle.input_lines.proofs.hexadecimal.decode.Goals as goal

pub returns-in_err-octets : goal.returns-in_err-octets
returns-in_err-octets c =
    rw c.from_residual.ensures
    (even_octets c.args.digits.now _ c.requires
    ∙ refused_pair c.args.digits.now c.loop-i.octets c.loop-i.i _ (omega arith) refl
    (sym (c.octet_of.ensures (2 * c.loop-i.i)) ∙ c.in_err-octets.was) c.loop-i.invariant)

pub loop-i-preserved : goal.loop-i-preserved
loop-i-preserved c =
    decode_step _ _ c.loop-i.i _ (omega arith) (omega arith)
    (read_pair _ _ (sym (c.octet_of.ensures (2 * c.loop-i.i)) ∙ c.in_ok-octets.was))
    c.loop-i.invariant

pub returns : goal.returns
returns c =
    even_octets c.args.digits.now _ c.requires
    ∙ ap result_ok
    (decode_done _ c.loop-i.octets c.loop-i.i (omega arith) (omega arith) c.loop-i.invariant)
