-- Values of every type, as contracts see them.
use Rattle.svcb_spec.specs.Values as values
use Rattle.svcb_text.specs.declared.all_values.AllValues.{AllValues}
use Rattle.svcb_text.specs.declared.all_values.AllValues.TheVariants.{Mandatory, Alpn, NoDefaultAlpn, Port, Ech, Ipv4Hint, Ipv6Hint, DohPath, Ohttp, TlsSupportedGroups, Unknown}

-- the value that is held
abbrev pub value_of : AllValues → values.Value
value_of (Mandatory value) = value
value_of (Alpn value) = value
value_of (NoDefaultAlpn marker) = values.NoDefaultAlpn
value_of (Port port) = values.Port port
value_of (Ech value) = value
value_of (Ipv4Hint value) = value
value_of (Ipv6Hint value) = value
value_of (DohPath value) = value
value_of (Ohttp marker) = values.Ohttp
value_of (TlsSupportedGroups value) = value
value_of (Unknown value) = value
