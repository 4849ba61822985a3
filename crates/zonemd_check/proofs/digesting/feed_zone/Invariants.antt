use Rattle.std.proofs.Common.{ℕ, List, ◌++◌, take}
use Rattle.zonemd_check.specs.Digesting.{zone_octets}
use Rattle.zonemd_check.proofs.digesting.feed_zone.Given as goal

abbrev pub invariant-loop-place : goal.invariant-loop-place
invariant-loop-place g l =
    (m : List ℕ) → g.D.Digest.holds l.initial.hasher m
    → g.D.Digest.holds l.hasher (m ++ zone_octets l.apex (take l.place l.records))
