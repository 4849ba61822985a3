use Rattle.wire_base.proofs.AddressReads.{ipv6_found, ipv6_none}
use Rattle.wire_base.proofs.addresses.Ipv6Addr.from_bytes.Goals as goal

pub returns-in-Ok : goal.returns-in-Ok
returns-in-Ok c =
    ipv6_found c.args.text.now c.octets.result c.in-Ok.address c.in-Ok.ensures c.octets.ensures

pub returns-in-Err : goal.returns-in-Err
returns-in-Err c = ipv6_none c.args.text.now c.in-Err.ensures
