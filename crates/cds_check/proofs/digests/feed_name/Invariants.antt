use Rattle.std.proofs.Common.{ℕ, List, ◌++◌, map, take}
use Rattle.std.specs.Char.{to_ascii_lowercase}
use Rattle.cds_check.proofs.digests.feed_name.Given as goal

abbrev pub invariant-loop-octet : goal.invariant-loop-octet
invariant-loop-octet g l =
    (m : List ℕ) → g.D.Digest.holds l.initial.hasher m
    → g.D.Digest.holds l.hasher (m ++ map to_ascii_lowercase (take l.octet-index l.octet-items))
