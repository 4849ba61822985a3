-- How the data of these records is compared, and the laws of these comparisons, which an `impl`
-- cites.
use Rattle.std.proofs.Common.{◌≡◌, ℕ, Bool, true, List, [], ◌∷◌, ◌++◌, ap, ap₂}
use Rattle.std.specs.Prelude.{◌==◌, if◌then◌else◌}
use Rattle.std.specs.declared.cmp.Ordering.{Ordering}
use Rattle.std.specs.Ordering.{nat_cmp, on, eq_of_both, then_cmp, eq_by_cmp}
use Rattle.std.specs.Cmp.{tied_then}
use Rattle.std.specs.Cmp.Lexicographic.{pointwise, slice_cmp, bytes_decides, texts_ties}
use Rattle.std.specs.Hash as fed
use Rattle.std.proofs.lemmas.Bool.{and_parts}
use Rattle.record_spec.specs.Rows.{Field, Row, Data}

-- equal numbers and equal octets
abbrev pub is_same_fields : Data → Data → Bool
is_same_fields =
    eq_of_both (on (λ d. d.numbers) (pointwise ◌==◌)) (on (λ d. d.last) (pointwise ◌==◌))

-- by the numbers in turn, then the last field octet by octet, a prefix of the other's octets first
abbrev pub fields_cmp : Data → Data → Ordering
fields_cmp = then_cmp (on (λ d. d.numbers) (slice_cmp nat_cmp))
    (on (λ d. d.last) (slice_cmp nat_cmp))

-- what is fed to a hasher of a number of so many octets
abbrev pub number_hash_input : ℕ → ℕ → fed.HashWrites
number_hash_input width n = if width == 1 then fed.u8 n else if width == 2 then fed.u16 n
    else fed.u32 n

-- the numbers of fixed fields, and then more
abbrev pub numbers_hash_input : List Field → List ℕ → fed.HashWrites → fed.HashWrites
numbers_hash_input [] numbers more = more
numbers_hash_input (field ∷ fields) [] more = more
numbers_hash_input (field ∷ fields) (n ∷ numbers) more =
    number_hash_input field.width n ++ numbers_hash_input fields numbers more

-- what is fed to a hasher: the numbers in turn, and the octets of the last field
abbrev pub fields_hash_input : Row → Data → fed.HashWrites
fields_hash_input row d = numbers_hash_input row.fields d.numbers (fed.slice fed.u8 d.last)

-- ---- laws

-- the order finds equal what is the same data
pub same_fields_ties : (x y : Data) → is_same_fields x y ≡ eq_by_cmp fields_cmp x y
same_fields_ties x y =
    let n = slice_cmp nat_cmp x.numbers y.numbers in
    let o = slice_cmp nat_cmp x.last y.last in
    cc (texts_ties x.numbers y.numbers, texts_ties x.last y.last, tied_then n o)

-- data that is the same is equal
pub same_fields : (x y : Data) → is_same_fields x y ≡ true → x ≡ y
same_fields x y is =
    let both = and_parts (pointwise ◌==◌ x.numbers y.numbers) (pointwise ◌==◌ x.last y.last) is in
    ap₂ (λ (numbers last : List ℕ). record { numbers = numbers; last = last })
    ((bytes_decides x.numbers y.numbers).0 both.0) ((bytes_decides x.last y.last).0 both.1)

-- the same data feeds the same
pub same_fields_hash_input : (row : Row) (x y : Data) → is_same_fields x y ≡ true
    → fields_hash_input row x ≡ fields_hash_input row y
same_fields_hash_input row x y is = ap (fields_hash_input row) (same_fields x y is)
