-- The order of gateways by their octets.
use Rattle.std.specs.declared.cmp.Ordering.{Ordering}
use Rattle.std.specs.declared.cmp.Ordering.TheVariants.{Equal}
use Rattle.std.specs.Ordering.{nat_cmp}
use Rattle.std.specs.Cmp.Lexicographic.{slice_cmp}
use Rattle.name_spec.specs.Names.{name_wire}
use Rattle.record_spec.specs.Ipseckeys.{Gateway, NoGateway, Ipv4Gateway, Ipv6Gateway, NameGateway, gateway_type}

-- the order of the octets of gateways of one type, the case of a name included; by types, where
-- these differ
abbrev pub octets_cmp : Gateway → Gateway → Ordering
octets_cmp NoGateway NoGateway = Equal
octets_cmp (Ipv4Gateway octets) (Ipv4Gateway octets') = slice_cmp nat_cmp octets octets'
octets_cmp (Ipv6Gateway octets) (Ipv6Gateway octets') = slice_cmp nat_cmp octets octets'
octets_cmp (NameGateway labels) (NameGateway labels') =
    slice_cmp nat_cmp (name_wire labels) (name_wire labels')
octets_cmp g h = nat_cmp (gateway_type g) (gateway_type h)
