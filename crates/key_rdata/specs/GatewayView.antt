-- Gateways, as contracts see them.
use Rattle.record_spec.specs.Ipseckeys.{Gateway, NoGateway, Ipv4Gateway, Ipv6Gateway, NameGateway}
use Rattle.key_rdata.specs.declared.gateway.IpseckeyGateway.{IpseckeyGateway}
use Rattle.key_rdata.specs.declared.gateway.IpseckeyGateway.TheVariants as owned
use Rattle.key_rdata.specs.declared.gateway_ref.GatewayRef.{GatewayRef}
use Rattle.key_rdata.specs.declared.gateway_ref.GatewayRef.TheVariants as borrowed

-- the gateway that is held
abbrev pub gateway_of : IpseckeyGateway → Gateway
gateway_of owned.None = NoGateway
gateway_of (owned.Ipv4 address) = Ipv4Gateway address
gateway_of (owned.Ipv6 address) = Ipv6Gateway address
gateway_of (owned.Name labels) = NameGateway labels

-- the gateway that is seen in a message
abbrev pub gateway_of_ref : GatewayRef → Gateway
gateway_of_ref borrowed.None = NoGateway
gateway_of_ref (borrowed.Ipv4 address) = Ipv4Gateway address
gateway_of_ref (borrowed.Ipv6 address) = Ipv6Gateway address
gateway_of_ref (borrowed.Name name) = NameGateway name.labels
