-- Data of fixed fields and a last field is ordered as its octets are.
use Rattle.std.proofs.Common.{◌≡◌, ℕ, zero, suc, ◌+◌, ◌*◌, ◌^◌, ◌<◌, ◌≤◌, List, [], ◌∷◌, length, refl, sym, ap, ap₂, ◌∙◌, arith, inl, inr, Ordering}
use Rattle.std.proofs.Math.Nat.{mul-le-mul_right}
use Rattle.std.proofs.lemmas.Bool.{cases_lt, cases_eq}
use Rattle.std.specs.Int.{byte_at, bytes_high_first}
use Rattle.std.specs.Ordering.{nat_cmp, ordering_then}
use Rattle.std.specs.Cmp.Lexicographic.{slice_cmp}
use Rattle.name_spec.specs.AddressLaws.{AreOctets}
use Rattle.name_spec.specs.CanonicalOrder.{canonical_order}
use Rattle.name_spec.proofs.OctetOrders.{less, greater, equal, slice_cmp-append}
use Rattle.record_spec.specs.Rows.{Field, Row, Data, AreNumbers, IsAssociationData}
use Rattle.record_spec.specs.Wire.{numbers_wire, data_wire, number_of_octets}
use Rattle.record_spec.specs.Comparing.{fields_cmp}
use Rattle.record_spec.proofs.OctetLists.{length-octets}
use Rattle.record_laws.proofs.Numbers.{number_again, number_below}
use Rattle.record_laws.proofs.Octets.{length-numbers_wire}

-- ---- octets that are equally many

-- a lower first octet decides, whatever stands behind
lower : (x y m r s : ℕ) → x < y → r < m → x * m + r < y * m + s
lower x y m r s below short =
    let up : suc x * m ≤ y * m = mul-le-mul_right m below in
    omega (arith, up, short, suc_times x m)
  where
    suc_times : (x m : ℕ) → suc x * m ≡ x * m + m
    suc_times x m = grind arith

-- behind equal octets the rest decides
shifted : (a m n : ℕ) → nat_cmp m n ≡ nat_cmp (a + m) (a + n)
shifted a m n = elim (cases_lt m n) [
  | inl below ↦ less m n below ∙ sym (less (a + m) (a + n) (omega arith))
  | inr not_below ↦ elim (cases_eq m n) [
    | inl same ↦ equal m n same ∙ sym (equal (a + m) (a + n) (omega arith))
    | inr apart ↦ greater m n (omega arith) ∙ sym (greater (a + m) (a + n) (omega arith))
  ]
]

-- the first octets, and numbers that are below the power behind them
first_decides : (x y m r s : ℕ) (rest : Ordering) → r < m → s < m → rest ≡ nat_cmp r s
    → ordering_then (nat_cmp x y) rest ≡ nat_cmp (x * m + r) (y * m + s)
first_decides x y m r s rest short short' is = elim (cases_lt x y) [
  | inl below ↦ ap (λ o. ordering_then o rest) (less x y below)
      ∙ sym (less (x * m + r) (y * m + s) (lower x y m r s below short))
  | inr not_below ↦ elim (cases_eq x y) [
    | inl same ↦ ap (λ o. ordering_then o rest) (equal x y same) ∙ is ∙ shifted (x * m) r s
        ∙ ap (λ n. nat_cmp (x * m + r) (n * m + s)) same
    | inr apart ↦
        let above : y < x = omega arith in
        ap (λ o. ordering_then o rest) (greater x y above)
        ∙ sym (greater (x * m + r) (y * m + s) (lower y x m s r above short'))
  ]
]

-- the order of octets is that of the numbers that they are read as
octets-order : (xs ys : List ℕ) → AreOctets xs → AreOctets ys → length xs ≡ length ys
    → slice_cmp nat_cmp xs ys ≡ nat_cmp (number_of_octets xs) (number_of_octets ys)
octets-order [] [] are are' long = sym (equal 0 0 refl)
octets-order [] (y ∷ ys) are are' long = absurd (omega arith)
octets-order (x ∷ xs) [] are are' long = absurd (omega arith)
octets-order (x ∷ xs) (y ∷ ys) are are' long =
    let m = 256 ^ length xs in
    let same : length xs ≡ length ys = omega arith in
    let unit : 256 ^ length ys ≡ m = ap (λ n. 256 ^ n) (sym same) in
    let below : number_of_octets ys < m = omega (arith, number_below ys are'.1, unit) in
    first_decides x y m (number_of_octets xs) (number_of_octets ys) (slice_cmp nat_cmp xs ys)
    (number_below xs are.1) below (octets-order xs ys are.1 are'.1 same)
    ∙ ap (λ n. nat_cmp (x * m + number_of_octets xs) (y * n + number_of_octets ys)) (sym unit)

-- ---- numbers of fixed fields

byte_small : (k n : ℕ) → byte_at k n < 256
byte_small zero n = omega arith
byte_small (suc k) n = omega arith

AreOctets-number : (k n : ℕ) → AreOctets (bytes_high_first k n)
AreOctets-number zero n = tt
AreOctets-number (suc k) n = (byte_small k n, AreOctets-number k n)

-- numbers of so many octets are ordered as their octets are
number-order : (k m n : ℕ) → m < 256 ^ k → n < 256 ^ k
    → slice_cmp nat_cmp (bytes_high_first k m) (bytes_high_first k n) ≡ nat_cmp m n
number-order k m n fits fits' =
    octets-order (bytes_high_first k m) (bytes_high_first k n) (AreOctets-number k m)
    (AreOctets-number k n) (length-octets k m ∙ sym (length-octets k n))
    ∙ ap₂ nat_cmp (number_again k m fits) (number_again k n fits')

numbers-order : (fields : List Field) (ms ns : List ℕ) → AreNumbers fields ms
    → AreNumbers fields ns
    → slice_cmp nat_cmp ms ns
    ≡ slice_cmp nat_cmp (numbers_wire fields ms) (numbers_wire fields ns)
numbers-order [] [] [] are are' = refl
numbers-order [] [] (n ∷ ns) are are' = absurd are'
numbers-order [] (m ∷ ms) ns are are' = absurd are
numbers-order (field ∷ fields) [] ns are are' = absurd are
numbers-order (field ∷ fields) (m ∷ ms) [] are are' = absurd are'
numbers-order (field ∷ fields) (m ∷ ms) (n ∷ ns) are are' =
    let k = field.width in
    ap₂ ordering_then (sym (number-order k m n are.0 are'.0))
    (numbers-order fields ms ns are.1 are'.1)
    ∙ sym (slice_cmp-append (bytes_high_first k m) (bytes_high_first k n)
    (numbers_wire fields ms) (numbers_wire fields ns)
    (length-octets k m ∙ sym (length-octets k n)))

-- ---- data

pub fields_in_order : (row : Row) (x y : Data) → IsAssociationData row x → IsAssociationData row y
    → fields_cmp x y ≡ canonical_order row.rtype (data_wire row x) row.rtype (data_wire row y)
fields_in_order row x y is is' =
    let fixed = numbers_wire row.fields x.numbers in
    let fixed' = numbers_wire row.fields y.numbers in
    ap (λ o. ordering_then o (slice_cmp nat_cmp x.last y.last))
    (numbers-order row.fields x.numbers y.numbers is.numbers is'.numbers)
    ∙ sym (slice_cmp-append fixed fixed' x.last y.last
    (length-numbers_wire row.fields x.numbers is.numbers
    ∙ sym (length-numbers_wire row.fields y.numbers is'.numbers)))
    ∙ sym (ap (λ o. ordering_then o (slice_cmp nat_cmp (data_wire row x) (data_wire row y)))
    (equal row.rtype row.rtype refl))
