-- Octets of data, composed and read.
use Rattle.std.proofs.Common.{◌≡◌, ℕ, zero, suc, ◌+◌, ◌^◌, ◌<◌, ◌≤◌, Bool, true, false, cond, List, [], ◌∷◌, ◌++◌, length, take, drop, Ok, Err, refl, sym, ap, ap₂, ◌∙◌, subst, length-append, length-drop, append_assoc, arith}
use Rattle.std.proofs.lemmas.List.{take-append-drop}
use Rattle.std.proofs.Math.Seq.{take-append_seam, drop-append_seam}
use Rattle.std.proofs.lemmas.Bool.Decides.{nat_tests}
use Rattle.std.specs.Prelude.{nat_lt}
use Rattle.std.specs.Int.{bytes_high_first}
use Rattle.name_spec.specs.Octets.{Short, Form}
use Rattle.name_spec.specs.AddressLaws.{AreOctets}
use Rattle.text_spec.proofs.EncodingTexts.{AreOctets-take, AreOctets-drop}
use Rattle.record_spec.specs.Rows.{Field, Row, Data, fixed_len, data_len, AreNumbers, IsAssociationData}
use Rattle.record_spec.specs.Wire.{numbers_wire, data_wire, number_of_octets, numbers_in}
use Rattle.record_spec.proofs.OctetLists.{length-octets}
use Rattle.record_laws.specs.RecordLaws.{FieldsReadBack, FieldsComposedBack}
use Rattle.record_laws.proofs.Numbers.{number_again, number_below, octets_again}

take_front : (k : ℕ) (front behind : List ℕ) → length front ≡ k → take k (front ++ behind) ≡ front
take_front k front behind is =
    subst (λ n. take n (front ++ behind) ≡ front) is (take-append_seam front behind)

drop_front : (k : ℕ) (front behind : List ℕ) → length front ≡ k → drop k (front ++ behind) ≡ behind
drop_front k front behind is =
    subst (λ n. drop n (front ++ behind) ≡ behind) is (drop-append_seam front behind)

-- ---- numbers

pub length-numbers_wire : (fields : List Field) (numbers : List ℕ) → AreNumbers fields numbers
    → length (numbers_wire fields numbers) ≡ fixed_len fields
length-numbers_wire [] [] are = refl
length-numbers_wire [] (n ∷ numbers) are = absurd are
length-numbers_wire (field ∷ fields) [] are = absurd are
length-numbers_wire (field ∷ fields) (n ∷ numbers) are =
    length-append (bytes_high_first field.width n) (numbers_wire fields numbers)
    ∙ ap₂ (λ (a b : ℕ). a + b) (length-octets field.width n)
    (length-numbers_wire fields numbers are.1)

numbers_again : (fields : List Field) (numbers behind : List ℕ) → AreNumbers fields numbers
    → numbers_in fields (numbers_wire fields numbers ++ behind) ≡ numbers
numbers_again [] [] behind are = refl
numbers_again [] (n ∷ numbers) behind are = absurd are
numbers_again (field ∷ fields) [] behind are = absurd are
numbers_again (field ∷ fields) (n ∷ numbers) behind are =
    let first = bytes_high_first field.width n in
    let rest = numbers_wire fields numbers ++ behind in
    let long = length-octets field.width n in
    ap (λ (octets : List ℕ). number_of_octets (take field.width octets)
    ∷ numbers_in fields (drop field.width octets))
    (append_assoc first (numbers_wire fields numbers) behind)
    ∙ ap₂ (λ (f r : List ℕ). number_of_octets f ∷ numbers_in fields r)
    (take_front field.width first rest long) (drop_front field.width first rest long)
    ∙ ap₂ (λ (m : ℕ) (ms : List ℕ). m ∷ ms) (number_again field.width n are.0)
    (numbers_again fields numbers behind are.1)

-- ---- data

answered : (short long : Bool) (found : Data) → short ≡ false → long ≡ false
    → cond short (Err Short) (cond long (Err Form) (Ok found)) ≡ Ok found
answered true long found e f = absurd cc
answered false true found e f = absurd cc
answered false false found e f = refl

not_below : (a b : ℕ) → b ≤ a → nat_lt a b ≡ false
not_below a b h = grind (arith, nat_tests)

pub length-data_wire : (row : Row) (found : Data) → AreNumbers row.fields found.numbers
    → length (data_wire row found) ≡ data_len row found
length-data_wire row found are =
    length-append (numbers_wire row.fields found.numbers) found.last
    ∙ ap (λ (n : ℕ). n + length found.last) (length-numbers_wire row.fields found.numbers are)

pub data_again : FieldsReadBack
data_again row found is least =
    let octets = data_wire row found in
    let fixed = fixed_len row.fields in
    let long = length-data_wire row found is.numbers in
    let fits = is.fits in
    answered (nat_lt (length octets) (fixed + row.least)) (nat_lt 65535 (length octets))
    (record { numbers = numbers_in row.fields octets; last = drop fixed octets })
    (not_below (length octets) (fixed + row.least) (omega arith))
    (not_below 65535 (length octets) (omega arith))
    ∙ ap₂ (λ (numbers last : List ℕ). Ok (record { numbers = numbers; last = last }))
    (numbers_again row.fields found.numbers found.last is.numbers)
    (drop_front fixed (numbers_wire row.fields found.numbers) found.last
    (length-numbers_wire row.fields found.numbers is.numbers))

-- ---- what is read

was_read : (short long : Bool) (read found : Data)
    → cond short (Err Short) (cond long (Err Form) (Ok read)) ≡ Ok found
    → (short ≡ false) × (long ≡ false) × (read ≡ found)
was_read true long read found is = absurd cc
was_read false true read found is = absurd cc
was_read false false read found is = (refl, refl, cc)

pub above : (a b : ℕ) → nat_lt a b ≡ false → b ≤ a
above a b h = grind (arith, nat_tests)

length-front : (k : ℕ) (octets : List ℕ) → k ≤ length octets → length (take k octets) ≡ k
length-front zero octets h = refl
length-front (suc k) [] h = absurd (omega arith)
length-front (suc k) (o ∷ octets) h = ap suc (length-front k octets (omega arith))

length-behind : (k : ℕ) (octets : List ℕ) → k ≤ length octets
    → k + length (drop k octets) ≡ length octets
length-behind k octets h = omega (arith, length-drop k octets)

drop_none : (n : ℕ) → drop {A = ℕ} n [] ≡ []
drop_none zero = refl
drop_none (suc n) = refl

pub drop-drop : (k j : ℕ) (octets : List ℕ) → drop j (drop k octets) ≡ drop (k + j) octets
drop-drop zero j octets =
    let place : j ≡ zero + j = omega arith in
    ap (λ (n : ℕ). drop n octets) place
drop-drop (suc k) j [] = drop_none j ∙ sym (drop_none (suc k + j))
drop-drop (suc k) j (o ∷ octets) =
    let place : suc (k + j) ≡ suc k + j = omega arith in
    drop-drop k j octets ∙ ap (λ (n : ℕ). drop n (o ∷ octets)) place

-- the number of a field that is there
there : (k : ℕ) (octets : List ℕ) → AreOctets octets → k ≤ length octets
    → (number_of_octets (take k octets) < 256 ^ k)
    × (bytes_high_first k (number_of_octets (take k octets)) ≡ take k octets)
there k octets are within =
    let front = take k octets in
    let long = length-front k octets within in (
      subst (λ (n : ℕ). number_of_octets front < 256 ^ n) long
          (number_below front (AreOctets-take k octets are)),
      subst (λ (n : ℕ). bytes_high_first n (number_of_octets front) ≡ front) long
          (octets_again front (AreOctets-take k octets are)),
    )

AreNumbers-read : (fields : List Field) (octets : List ℕ) → AreOctets octets
    → fixed_len fields ≤ length octets → AreNumbers fields (numbers_in fields octets)
AreNumbers-read [] octets are within = tt
AreNumbers-read (field ∷ fields) octets are within =
    let rest = drop field.width octets in
    let first : field.width ≤ length octets = omega arith in
    let behind = length-behind field.width octets first in (
      (there field.width octets are first).0,
      AreNumbers-read fields rest
          (AreOctets-drop field.width octets are) (omega arith),
    )

wire-read : (fields : List Field) (octets : List ℕ) → AreOctets octets
    → fixed_len fields ≤ length octets
    → numbers_wire fields (numbers_in fields octets) ++ drop (fixed_len fields) octets ≡ octets
wire-read [] octets are within = refl
wire-read (field ∷ fields) octets are within =
    let w = field.width in
    let rest = drop w octets in
    let first : w ≤ length octets = omega arith in
    let behind = length-behind w octets first in
    let others = numbers_wire fields (numbers_in fields rest) in
    let lower = wire-read fields rest (AreOctets-drop w octets are) (omega arith) in
    append_assoc (bytes_high_first w (number_of_octets (take w octets))) others
    (drop (w + fixed_len fields) octets)
    ∙ ap₂ (λ (f b : List ℕ). f ++ b) (there w octets are first).1
    (ap (λ (d : List ℕ). others ++ d) (sym (drop-drop w (fixed_len fields) octets)) ∙ lower)
    ∙ take-append-drop w octets

pub read_again : FieldsComposedBack
read_again row octets found are read =
    let fixed = fixed_len row.fields in
    let seen : Data = record { numbers = numbers_in row.fields octets; last = drop fixed octets } in
    let answer = was_read (nat_lt (length octets) (fixed + row.least))
    (nat_lt 65535 (length octets)) seen found read in
    let long = above (length octets) (fixed + row.least) answer.0 in
    let few = above 65535 (length octets) answer.1 in
    let within : fixed ≤ length octets = omega arith in
    let behind = length-behind fixed octets within in
    subst (λ (d : Data). IsAssociationData row d × (row.least ≤ length d.last)
    × (data_wire row d ≡ octets)) answer.2 (
      record {
        numbers = AreNumbers-read row.fields octets are within;
        octets = AreOctets-drop fixed octets are;
        fits = omega arith;
      },
      omega arith,
      wire-read row.fields octets are within,
    )
