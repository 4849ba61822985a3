-- The zone that the program keeps, as its definition sees it.
use Rattle.commands.specs.Zonemd as spec
use Rattle.commands.specs.declared.zonemd.Zone.{Zone}

abbrev pub zone_view : Zone → spec.Zone
zone_view z = record { apex = z.apex; zonemd = z.zonemd; records = z.records.items }
