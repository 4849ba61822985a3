use Rattle.wire_base.proofs.AddressReads.{ipv4_found, ipv4_none}
use Rattle.wire_base.proofs.addresses.Ipv4Addr.from_bytes.Goals as goal

pub returns-in-Ok : goal.returns-in-Ok
returns-in-Ok c =
    ipv4_found c.args.text.now c.octets.result c.in-Ok.address c.in-Ok.ensures c.octets.ensures

pub returns-in-Err : goal.returns-in-Err
returns-in-Err c = ipv4_none c.args.text.now c.in-Err.ensures
