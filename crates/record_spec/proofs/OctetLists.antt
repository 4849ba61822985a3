-- The octets of numbers. Offered to the crates above: `unit_pos` and `length-octets`.
use Rattle.std.proofs.Common.{ℕ, zero, suc, ◌≡◌, ◌^◌, ◌<◌, List, [], ◌∷◌, ◌++◌, length, refl, ap, arith}
use Rattle.std.proofs.Math.Nat.{pow-le-pow_right}
use Rattle.std.specs.Int.{bytes_high_first}

-- ---- numbers of so many octets

pub unit_pos : (k : ℕ) → 0 < 256 ^ k
unit_pos k = pow-le-pow_right {n = 256} (omega arith) {i = 0} {j = k} (omega arith)

-- how many octets these are
pub length-octets : (k n : ℕ) → length (bytes_high_first k n) ≡ k
length-octets zero n = refl
length-octets (suc k) n = ap suc (length-octets k n)
