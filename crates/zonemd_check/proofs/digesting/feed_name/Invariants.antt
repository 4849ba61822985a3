use Rattle.std.proofs.Common.{◌≡◌, map, take, length}
use Rattle.std.specs.Char.{to_ascii_lowercase}
use Rattle.zonemd_check.proofs.digesting.feed_name.Given as goal

abbrev pub invariant-loop-place : goal.invariant-loop-place
invariant-loop-place g l = record {
  len : length l.lowered ≡ 255;
  front : take l.place l.lowered ≡ map to_ascii_lowercase (take l.place l.octets);
}
