-- Which algorithms there is a digest by.
use Rattle.std.proofs.Common.{◌≡◌, ◌≢◌, ℕ, None, List, arith}
use Rattle.std.proofs.lemmas.Bool.Decides.{nat_tests}
use Rattle.zonemd_check.specs.ZoneRecordView.{ZoneRecordView}
use Rattle.zonemd_check.specs.Digesting.{digest_by, zone_digest}

other_algorithm : (algorithm : ℕ) (octets : List ℕ) → algorithm ≢ 1 → algorithm ≢ 2
    → digest_by algorithm octets ≡ None
other_algorithm algorithm octets not_sha384 not_sha512 = grind (arith, nat_tests)

pub refused_algorithm : (apex : List (List ℕ)) (records : List ZoneRecordView) (algorithm : ℕ)
    → algorithm ≢ 1 → algorithm ≢ 2 → zone_digest apex records algorithm ≡ None
unfolding zone_digest
refused_algorithm apex records algorithm not_sha384 not_sha512 =
    other_algorithm algorithm _ not_sha384 not_sha512
