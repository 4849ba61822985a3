-- Views of values of every type, as contracts see them.
use Rattle.svcb_spec.specs.Values as values
use Rattle.svcb_spec.specs.ReadingValues.{numbers, parts, protocols}
use Rattle.svcb_value.specs.UnknownView.{seen_unknown}
use Rattle.svcb_text.specs.declared.all_values_ref.AllValuesRef.{AllValuesRef}
use Rattle.svcb_text.specs.declared.all_values_ref.AllValuesRef.TheVariants.{Mandatory, Alpn, NoDefaultAlpn, Port, Ech, Ipv4Hint, Ipv6Hint, DohPath, Ohttp, TlsSupportedGroups, Unknown}

-- the value that is seen
abbrev pub seen_view : AllValuesRef → values.Value
seen_view (Mandatory view) = values.Mandatory (numbers view.slice.now)
seen_view (Alpn view) = values.Alpn (protocols view.slice.now)
seen_view (NoDefaultAlpn marker) = values.NoDefaultAlpn
seen_view (Port port) = values.Port port
seen_view (Ech view) = values.Ech view.slice.now
seen_view (Ipv4Hint view) = values.Ipv4Hint (parts 4 view.slice.now)
seen_view (Ipv6Hint view) = values.Ipv6Hint (parts 16 view.slice.now)
seen_view (DohPath view) = values.DohPath view.slice.now
seen_view (Ohttp marker) = values.Ohttp
seen_view (TlsSupportedGroups view) = values.TlsSupportedGroups (numbers view.slice.now)
seen_view (Unknown view) = seen_unknown view
