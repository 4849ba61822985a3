-- Numbers and their octets, the highest first.
use Rattle.std.proofs.Common.{◌≡◌, ℕ, zero, suc, ◌+◌, ◌*◌, ◌/◌, ◌%◌, ◌^◌, ◌<◌, List, [], ◌∷◌, length, refl, sym, ap, ap₂, ◌∙◌, arith}
use Rattle.std.proofs.Math.Nat.{pow-suc, mul-add-div_right, mul-add-mod_self_right}
use Rattle.std.proofs.lemmas.Nat.{div-mul-add, div-add-mod', div_below, mod_below}
use Rattle.std.specs.Int.{byte_at, bytes_high_first}
use Rattle.name_spec.specs.AddressLaws.{AreOctets}
use Rattle.record_spec.specs.Wire.{number_of_octets}
use Rattle.record_spec.proofs.OctetLists.{unit_pos, length-octets}

-- an octet of a number by its place
at_place : (k n : ℕ) → byte_at k n ≡ n / 256 ^ k % 256
at_place zero n = omega arith
at_place (suc k) n = refl

turned : (q m : ℕ) → q * (m * 256) ≡ q * 256 * m
turned q m = grind arith

assoc : (q k : ℕ) → q * 256 ^ suc k ≡ q * 256 * 256 ^ k
assoc q k = ap (λ (n : ℕ). q * n) (pow-suc 256 k) ∙ turned q (256 ^ k)

-- what stands above the place is of no account
at_place-above : (k q r : ℕ) → byte_at k (q * 256 ^ suc k + r) ≡ byte_at k r
at_place-above k q r =
    at_place k (q * 256 ^ suc k + r)
    ∙ ap (λ (n : ℕ). (n + r) / 256 ^ k % 256) (assoc q k)
    ∙ ap (λ (n : ℕ). n % 256) (mul-add-div_right (unit_pos k) (q * 256) r)
    ∙ mul-add-mod_self_right q 256 (r / 256 ^ k)
    ∙ sym (at_place k r)

octets-above : (k q r : ℕ) → bytes_high_first k (q * 256 ^ k + r) ≡ bytes_high_first k r
octets-above zero q r = refl
octets-above (suc k) q r =
    ap₂ (λ (octet : ℕ) (octets : List ℕ). octet ∷ octets) (at_place-above k q r)
    (ap (λ (n : ℕ). bytes_high_first k (n + r)) (assoc q k) ∙ octets-above k (q * 256) r)

-- the octets of a number that fits are read as it
pub number_again : (k n : ℕ) → n < 256 ^ k → number_of_octets (bytes_high_first k n) ≡ n
number_again zero n fits = omega arith
number_again (suc k) n fits =
    let m = 256 ^ k in
    let split = div-add-mod' n m in
    let high : n / m < 256 = div_below n m 256 (unit_pos k) (omega (arith, fits, pow-suc 256 k)) in
    let octet : byte_at k n ≡ n / m = at_place k n ∙ omega arith in
    let lower : number_of_octets (bytes_high_first k n) ≡ n % m =
    ap (λ (a : ℕ). number_of_octets (bytes_high_first k a)) (sym split)
    ∙ ap number_of_octets (octets-above k (n / m) (n % m))
    ∙ number_again k (n % m) (mod_below n m (unit_pos k)) in
    ap₂ (λ (a b : ℕ). a + b) (ap₂ (λ (a b : ℕ). a * 256 ^ b) octet (length-octets k n)) lower
    ∙ split

below : (o m r : ℕ) → o < 256 → r < m → o * m + r < 256 * m
below o m r lo lr = grind arith

-- octets are below the power of their count
pub number_below : (octets : List ℕ) → AreOctets octets
    → number_of_octets octets < 256 ^ length octets
number_below [] are = omega arith
number_below (o ∷ octets) are =
    omega (
      arith,
      below o (256 ^ length octets) (number_of_octets octets) are.0
          (number_below octets are.1),
      pow-suc 256 (length octets),
    )

-- and they are those of the number that they are read as
pub octets_again : (octets : List ℕ) → AreOctets octets
    → bytes_high_first (length octets) (number_of_octets octets) ≡ octets
octets_again [] are = refl
octets_again (o ∷ octets) are =
    let k = length octets in
    let n = number_of_octets octets in
    let fits : o < 256 = are.0 in
    let octet : byte_at k (o * 256 ^ k + n) ≡ o =
    at_place k (o * 256 ^ k + n)
    ∙ ap (λ (a : ℕ). a % 256) (div-mul-add o (256 ^ k) n (number_below octets are.1))
    ∙ omega arith in
    ap₂ (λ (a : ℕ) (rest : List ℕ). a ∷ rest) octet (octets-above k o n ∙ octets_again octets are.1)
