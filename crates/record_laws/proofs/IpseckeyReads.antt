-- What is read as the data of an IPSECKEY record, and the octets that it is composed to.
use Rattle.std.proofs.Common.{◌≡◌, ◌⊎◌, inl, inr, ℕ, zero, suc, ◌+◌, ◌-◌, ◌<◌, ◌≤◌, Bool, true, false, cond, List, [], ◌∷◌, ◌++◌, length, take, drop, Result, Ok, Err, refl, sym, ap, ap₂, ◌∙◌, subst, length-append, length-take, length-drop, arith}
use Rattle.std.specs.Prelude.{nat_lt, ◌==◌, slice_index, slice_range}
use Rattle.std.proofs.Math.Seq.{take-append-add}
use Rattle.std.proofs.lemmas.List.Folds.{drop_split}
use Rattle.std.proofs.lemmas.Bool.Decides.{nat_tests}
use Rattle.name_spec.specs.Octets.{Fault, Short, Form, ◌>>=◌}
use Rattle.name_spec.specs.Names.{NameRead, name_at, is_pointed, name_wire}
use Rattle.name_spec.proofs.NameLaws.{steps_left, is_pointed-label, is_pointed-pointer}
use Rattle.name_spec.proofs.OwnedNameLaws.{name_here, AreLabels-read, name_wire-read}
use Rattle.name_spec.specs.AddressLaws.{AreOctets}
use Rattle.text_spec.proofs.EncodingTexts.{octet_at, AreOctets-take, AreOctets-drop}
use Rattle.wire_base.specs.Input.{Input, octets_left}
use Rattle.wire_base.specs.RecordReading.{DataRead}
use Rattle.wire_records.specs.Reading.{next_octets, address_read}
use Rattle.record_spec.specs.Ipseckeys.{Gateway, NoGateway, Ipv4Gateway, Ipv6Gateway, NameGateway, gateway_type, gateway_wire, Ipseckey, lacks_key, IsAddress, IsGateway}
use Rattle.record_spec.specs.IpseckeyWire.{as_gateway, name_gateway, gateway_read, key_read}
use Rattle.text_spec.proofs.OctetParts.{AreOctets-split, labels_octets}
use Rattle.record_laws.specs.RecordLaws.{IsReadWhole, IpseckeyComposedBack}
use Rattle.record_laws.proofs.Octets.{above}

-- ---- answers

-- the step before an Ok is one
before_ok : {A B : Type 0} (first : Result A Fault) (next : A → Result B Fault) (y : B)
    → (first >>= next) ≡ Ok y → (x : A) × (first ≡ Ok x) × (next x ≡ Ok y)
before_ok (Ok x) next y is = (x, refl, is)
before_ok (Err fault) next y is = absurd cc

-- a test before an Ok refused nothing
not_refused : {B : Type 0} (test : Bool) (fault : Fault) (answer : Result B Fault) (y : B)
    → cond test (Err fault) answer ≡ Ok y → (test ≡ false) × (answer ≡ Ok y)
not_refused true fault answer y is = absurd cc
not_refused false fault answer y is = (refl, is)

-- an answer is one of two
either : {B : Type 0} (test : Bool) (first second answer : B) → cond test first second ≡ answer
    → ((test ≡ true) × (first ≡ answer)) ⊎ ((test ≡ false) × (second ≡ answer))
either true first second answer is = inl (refl, is)
either false first second answer is = inr (refl, is)

abbrev ok : {B : Type 0} → B → Result B Fault
ok x = Ok x

same_ok : {B : Type 0} (x y : B) → ok x ≡ ok y → x ≡ y
same_ok x y is = cc

same_number : (a b : ℕ) → (a == b) ≡ true → a ≡ b
same_number a b is = grind (arith, nat_tests)

-- ---- the gateway

-- a name for which no pointer is followed ends within the data
name_within : (n : ℕ) (message : List ℕ) (end pos octets pointers : ℕ) (name : NameRead)
    → steps_left octets pointers ≤ n → is_pointed message end pos ≡ false
    → name_at message end pos octets pointers ≡ Ok name → name.next ≤ end
name_within zero message end pos octets pointers name few plain read =
    elim (name_here message end pos octets pointers name read) [
      | inl root ↦ rw root.name_is (omega (arith, root.here))
      | inr (inl label) ↦ absurd (omega (arith, label.octets_fit))
      | inr (inr pointer) ↦ absurd
          (let pointed = is_pointed-pointer message end pos pointer.here pointer.high in cc)
    ]
name_within (suc n) message end pos octets pointers name few plain read =
    elim (name_here message end pos octets pointers name read) [
      | inl root ↦ rw root.name_is (omega (arith, root.here))
      | inr (inl label) ↦
          let on = sym (is_pointed-label message end pos label.here label.not_empty label.in_range)
          ∙ plain in
          rw label.name_is
          (name_within n message end _ _ pointers label.rest (omega (arith, label.octets_fit)) on
          label.rest_is)
      | inr (inr pointer) ↦ absurd
          (let pointed = is_pointed-pointer message end pos pointer.here pointer.high in cc)
    ]

module _ (message : List ℕ) (end pos : ℕ) (in_message : end ≤ length message)
    (are : AreOctets message) where
  abbrev there : Input
  there = record { message = message; end = end; pos = pos }

  -- a gateway of the type, whose octets stand there
  record IsThere (type : ℕ) (found : DataRead Gateway) : Type 0 where
    type_is : gateway_type found.value ≡ type
    is : IsGateway found.value
    octets : drop pos message ≡ gateway_wire found.value ++ drop found.next message
    within : found.next ≤ end

  -- an address
  address_in : (len : ℕ) → pos + len ≤ end → IsAddress len (slice_range message pos (pos + len))
  address_in len within = (
    omega (arith, length-take (pos + len - pos) (drop pos message), length-drop pos message),
    AreOctets-take (pos + len - pos) (drop pos message) (AreOctets-drop pos message are),
  )

  address_there : (len : ℕ) (gateway : List ℕ → Gateway) (found : DataRead Gateway)
      → (address_read len there >>= as_gateway gateway) ≡ Ok found
      → (pos + len ≤ end)
      × (record { value = gateway (slice_range message pos (pos + len)); next = pos + len }
      ≡ found)
  address_there len gateway found read =
      let step = before_ok (address_read len there) (as_gateway gateway) found read in
      let tested = not_refused (nat_lt end (pos + len)) Short
      (Ok (record { value = next_octets len there; next = pos + len })) step.0 step.1 in
      let address = same_ok (record { value = next_octets len there; next = pos + len }) step.0
      tested.1 in (
        above end (pos + len) tested.0,
        ap (λ (d : DataRead (List ℕ)). record { value = gateway d.value; next = d.next }) address
            ∙ same_ok (record { value = gateway step.0.value; next = step.0.next }) found step.2,
      )

  -- a name
  name_there : (found : DataRead Gateway) → (name_at message end pos 0 0 >>= name_gateway there)
      ≡ Ok found → IsThere 3 found
  name_there found read =
      let step = before_ok (name_at message end pos 0 0) (name_gateway there) found read in
      let name = step.0 in
      let gateway : DataRead Gateway = record { value = NameGateway name.labels; next = name.next }
      in
      let tested = not_refused (is_pointed message end pos) Form (Ok gateway) found step.2 in
      let octets = name_wire-read message end pos 0 0 name in_message tested.0 step.1 in
      let wire = AreOctets-split (name_wire name.labels) (drop name.next message)
      (subst AreOctets octets (AreOctets-drop pos message are)) in
      subst (IsThere 3) (same_ok gateway found tested.1)
      (record {
        type_is = refl;
        is = (
          AreLabels-read message end pos 0 0 name in_message step.1,
          labels_octets name.labels
              wire.0,
        );
        octets = octets;
        within = name_within (steps_left 0 0) message end pos 0 0 name
            (omega arith) tested.0 step.1;
      })

  -- what is read as a gateway is one
  module _ (starts : pos ≤ end) where
    nothing_there : IsThere 0 (record { value = NoGateway; next = pos })
    nothing_there = record { type_is = refl; is = tt; octets = refl; within = starts }

    four_there : (found : DataRead Gateway) → (address_read 4 there >>= as_gateway Ipv4Gateway)
        ≡ Ok found → IsThere 1 found
    four_there found read =
        let address = address_there 4 Ipv4Gateway found read in
        subst (IsThere 1) address.1
        (record {
          type_is = refl;
          is = address_in 4 address.0;
          octets = drop_split message pos (pos + 4) (omega arith);
          within = address.0;
        })

    sixteen_there : (found : DataRead Gateway) → (address_read 16 there >>= as_gateway Ipv6Gateway)
        ≡ Ok found → IsThere 2 found
    sixteen_there found read =
        let address = address_there 16 Ipv6Gateway found read in
        subst (IsThere 2) address.1
        (record {
          type_is = refl;
          is = address_in 16 address.0;
          octets = drop_split message pos (pos + 16) (omega arith);
          within = address.0;
        })

    gateway_there : (type : ℕ) (found : DataRead Gateway) → gateway_read type there ≡ Ok found
        → IsThere type found
    gateway_there type found read = elim (either (type == 0) _ _ (ok found) read) [
      | inl none ↦ subst (λ (t : ℕ). IsThere t found) (sym (same_number type 0 none.0))
          (subst (IsThere 0) (same_ok _ found none.1) nothing_there)
      | inr not_none ↦ elim (either (type == 1) _ _ (ok found) not_none.1) [
        | inl four ↦ subst (λ (t : ℕ). IsThere t found) (sym (same_number type 1 four.0))
            (four_there found four.1)
        | inr not_four ↦ elim (either (type == 2) _ _ (ok found) not_four.1) [
          | inl sixteen ↦ subst (λ (t : ℕ). IsThere t found) (sym (same_number type 2 sixteen.0))
              (sixteen_there found sixteen.1)
          | inr not_sixteen ↦ elim (either (type == 3) _ _ (ok found) not_sixteen.1) [
            | inl name ↦ subst (λ (t : ℕ). IsThere t found) (sym (same_number type 3 name.0))
                (name_there found name.1)
            | inr unknown ↦ absurd (let refused = unknown.1 in cc)
          ]
        ]
      ]
    ]

-- ---- data

drop_next : (message : List ℕ) (pos : ℕ) → pos < length message
    → drop pos message ≡ slice_index message pos ∷ drop (pos + 1) message
drop_next [] pos within = absurd (omega arith)
drop_next (c ∷ message) zero within = refl
drop_next (c ∷ message) (suc pos) within =
    let place : suc (pos + 1) ≡ suc pos + 1 = omega arith in
    drop_next message pos (omega arith)
    ∙ ap (λ (n : ℕ). slice_index message pos ∷ drop n (c ∷ message)) place

-- the first three octets, and the others
three_first : (message : List ℕ) (pos : ℕ) → pos + 3 ≤ length message
    → drop pos message ≡ slice_index message pos ∷ slice_index message (pos + 1)
    ∷ slice_index message (pos + 2) ∷ drop (pos + 3) message
three_first message pos within =
    let second : pos + 1 + 1 ≡ pos + 2 = omega arith in
    let third : pos + 2 + 1 ≡ pos + 3 = omega arith in
    drop_next message pos (omega arith)
    ∙ ap (λ (rest : List ℕ). slice_index message pos ∷ rest)
    (drop_next message (pos + 1) (omega arith)
    ∙ ap (λ (n : ℕ). slice_index message (pos + 1) ∷ drop n message) second
    ∙ ap (λ (rest : List ℕ). slice_index message (pos + 1) ∷ rest)
    (drop_next message (pos + 2) (omega arith)
    ∙ ap (λ (n : ℕ). slice_index message (pos + 2) ∷ drop n message) third))

-- the octets of a gateway and of the key behind it
key_behind : (message wire : List ℕ) (pos next end : ℕ)
    → drop pos message ≡ wire ++ drop next message → end ≤ length message → next ≤ end → pos ≤ end
    → wire ++ slice_range message next end ≡ slice_range message pos end
key_behind message wire pos next end is in_message within starts =
    let lengths : length (drop pos message) ≡ length wire + length (drop next message) =
    ap length is ∙ length-append wire (drop next message) in
    let count : end - pos ≡ length wire + (end - next) =
    omega (arith, lengths, length-drop pos message, length-drop next message) in
    sym (ap₂ (λ (n : ℕ) (rest : List ℕ). take n rest) count is
    ∙ take-append-add wire (drop next message) (end - next))

pub ipseckey_reads : IpseckeyComposedBack
ipseckey_reads input found are in_message read =
    let message = input.message in
    let pos = input.pos in
    let end = input.end in
    let p = slice_index message pos in
    let t = slice_index message (pos + 1) in
    let a = slice_index message (pos + 2) in
    let behind : Input = record { message = message; end = end; pos = pos + 3 } in
    let tested = not_refused (nat_lt end (pos + 3)) Short
    (gateway_read t behind >>= key_read p a input) found read in
    let starts = above end (pos + 3) tested.0 in
    let step = before_ok (gateway_read t behind) (key_read p a input) found tested.1 in
    let gateway = step.0 in
    let stands = gateway_there message end (pos + 3) in_message are starts t gateway step.1 in
    let key = slice_range message gateway.next end in
    let whole : DataRead Ipseckey =
    record {
      value = record {
        precedence = p;
        algorithm = a;
        gateway = gateway.value;
        key = key;
      };
      next = end;
    } in
    let has = not_refused (lacks_key a key) Short
    (cond (nat_lt 65535 (end - pos)) (Err Form) (Ok whole)) found step.2 in
    let few = not_refused (nat_lt 65535 (end - pos)) Form (Ok whole) found has.1 in
    let limit = above 65535 (end - pos) few.0 in
    let wire = gateway_wire gateway.value in
    let rest = key_behind message wire (pos + 3) gateway.next end stands.octets in_message
    stands.within starts in
    let count : end - pos ≡ suc (suc (suc (end - (pos + 3)))) = omega arith in
    let len : length (wire ++ key) ≡ end - (pos + 3) =
    ap length rest
    ∙ omega (
      arith,
      length-take (end - (pos + 3)) (drop (pos + 3) message),
      length-drop
          (pos + 3) message,
    ) in
    let octets : p ∷ gateway_type gateway.value ∷ a ∷ wire ++ key ≡ octets_left input =
    ap₂ (λ (type : ℕ) (others : List ℕ). p ∷ type ∷ a ∷ others) stands.type_is rest
    ∙ sym (ap₂ (λ (n : ℕ) (others : List ℕ). take n others) count
    (three_first message pos (omega arith))) in
    subst (IsReadWhole input) (same_ok whole found few.1)
    (record {
      is_data = record {
        precedence = octet_at message are pos;
        algorithm = octet_at message are (pos + 2);
        gateway = stands.is;
        key = AreOctets-take (end - gateway.next) (drop gateway.next message)
            (AreOctets-drop gateway.next message are);
        fits = omega (arith, length-append wire key);
      };
      has_key = has.0;
      octets = octets;
      next = refl;
    })
