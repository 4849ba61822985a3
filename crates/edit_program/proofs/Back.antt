-- What `show` writes is scanned as the data that was read.
use Rattle.std.proofs.Common.{◌≡◌, ℕ, ◌-◌, Bool, ◌<◌, ◌≤◌, true, false, cond, List, [], ◌∷◌, ◌++◌, length, length-append, Option, Some, None, Result, Ok, Err, refl, inl, inr, sym, subst, ap, ◌∙◌, arith, ◌+◌, length-take}
use Rattle.std.proofs.lemmas.Bool.{cases_eq, cases_lt}
use Rattle.std.proofs.lemmas.Bool.Decides.{nat_tests}
use Rattle.std.proofs.lemmas.List.Elements.{All-head, All-tail}
use Rattle.std.specs.Prelude.{nat_lt, if◌then◌else◌, slice_get, option_and_then, ◌==◌}
use Rattle.std.specs.Option.{option_map}
use Rattle.std.specs.Result.{result_ok}
use Rattle.std.specs.List.{AllPass, onto_first}
use Rattle.hex.specs.Hex.{decode_of, encode_lower, lower_digits, is_hex_digit}
use Rattle.hex.specs.declared.error.FromHexError.{FromHexError}
use Rattle.hex.proofs.HexLemmas.{decode_of-ok, decode_of-encode_lower, length-encode_with}
use Rattle.name_spec.specs.Octets.{Fault, Form, Short}
use Rattle.svcb_spec.specs.Records.{Record, rdata, read}
use Rattle.svcb_spec.specs.Laws.{RecordReadBack}
use Rattle.wire_base.specs.Input.{octets_left}
use Rattle.wire_base.specs.RecordReading.{DataRead, read_up_to}
use Rattle.wire_records.specs.Reading.{address_read, next_octets, unknown_read}
use Rattle.wire_records.specs.UnknownView.{UnknownData}
use Rattle.wire_records.specs.Texts.{unknown_text}
use Rattle.name_spec.specs.AddressLaws.{AreOctets}
use Rattle.name_spec.specs.Addresses.{ipv4_text, ipv6_text}
use Rattle.text_spec.specs.declared.errors.ScanError.{ScanError}
use Rattle.text_spec.specs.declared.lexeme.Symbol.{Symbol}
use Rattle.text_spec.specs.Scanning.{Scanned}
use Rattle.text_spec.specs.Tokens.{tokens_in}
use Rattle.text_spec.proofs.Again.{has_tokens}
use Rattle.record_spec.specs.Rows as rows
use Rattle.record_spec.specs.Rows.{Row, Data, sshfp, tlsa, cds, cdnskey, openpgpkey, zonemd}
use Rattle.record_spec.specs.Wire.{read_data}
use Rattle.record_spec.specs.Texts.{fields_printed}
use Rattle.record_spec.specs.Ipseckeys.{IsAddress}
use Rattle.record_spec.specs.IpseckeyWire.{ipseckey_read}
use Rattle.record_laws.specs.RecordLaws.{IsScannedAs, FieldsComposedBack, IpseckeyComposedBack}
use Rattle.svcb_laws.specs.DataTextLaws.{IsRecordOfOctets, ReadIsData}
use Rattle.svcb_laws.proofs.Lines.{line_again}
use Rattle.svcb_laws.specs.TextLengthLaws.{DataLineFits}
use Rattle.svcb_laws.proofs.AddressLengths.{ipv4-length, ipv6-length}
use Rattle.record_laws.specs.TextLengthLaws.{LineFits, TypesLinesFit, IpseckeyLineFits, UnknownTextByOctets}
use Rattle.record_spec.specs.RecordData.{RecordData, A, Aaaa, Sshfp, Ipseckey, Tlsa, Cds, Cdnskey, Openpgpkey, Zonemd, Svcb, Https, Unknown, rtype_of}
use Rattle.record_spec.specs.UnionReading.{read_as}
use Rattle.record_spec.specs.UnionTexts.{union_scan, union_printed}
use Rattle.record_laws.specs.UnionLaws.{IsUnionData, UnionTextReadBack}
use Rattle.devices.specs.declared.transfer.TheConstants.{MAX_INPUT}
use Rattle.edit_program.specs.Commands.{answer_of, is_reading, answer_to, due}
use Rattle.edit_program.specs.Laws.{data_hexadecimal, due_to_show, due_to_scan, ShownIsScannedBack, TypesAreScannedBack, AllDataBack}
use Rattle.input_lines.specs.Lines.{pieces, lines, without_empty_last}
use Rattle.input_lines.specs.Hexadecimal.{hexadecimal_octets}
use Rattle.input_lines.specs.Spelling.{line_or_fault, first_fault_or, ◌>>=◌}
use Rattle.input_lines.specs.Report as report
use Rattle.input_lines.specs.Tokens.{entry_scanned}
use Rattle.edit_program.specs.Report.{too_long}
use Rattle.edit_program.specs.Scan.{data_scanned}
use Rattle.rdata_union.specs.WholeData.{whole_data}
use Rattle.edit_program.specs.Show.{second_fault, only_line, spelled_octets, whole_message, data_in, data_shown, due_of_octets, due_of_show}
use Rattle.input_lines.specs.declared.faults.InputFault.{InputFault}
use Rattle.edit_program.specs.declared.words.Command.{Command}
use Rattle.edit_program.specs.declared.words.Command.TheVariants.{Show, Scan}
use Rattle.edit_program.proofs.ReadData.{AreBelow256, octets_from, label_octets, rdata_small}

-- ---- inputs that aren't too long

-- what is due to a command with such an input
due-short : (command : Command) (input : List ℕ) → is_reading command ≡ true
    → length input ≤ MAX_INPUT → due (Some command) (Some input) ≡ Some (answer_of command input)
due-short command input read few =
    let short : nat_lt MAX_INPUT (length input) ≡ false = grind (arith, nat_tests) in
    ap (λ is. option_map (answer_to command) (if is then Some input else Some [])) read
    ∙ ap (λ long. Some (if long then too_long else answer_of command input)) short

scan_due : (rtype : ℕ) (input : List ℕ) (answer : report.Answer)
    → answer_of (Scan rtype) input ≡ answer → length input ≤ MAX_INPUT
    → due_to_scan rtype input ≡ Some answer
unfolding is_reading
scan_due rtype input answer is few = due-short (Scan rtype) input refl few ∙ ap (λ a. Some a) is

show_due : (rtype : ℕ) (input : List ℕ) (answer : report.Answer)
    → answer_of (Show rtype) input ≡ answer → length input ≤ MAX_INPUT
    → due_to_show rtype input ≡ Some answer
unfolding is_reading
show_due rtype input answer is few = due-short (Show rtype) input refl few ∙ ap (λ a. Some a) is

-- an input that is too long has another status
shown_short : (rtype : ℕ) (input : List ℕ) (answer : report.Answer)
    → due_to_show rtype input ≡ Some answer → answer.status ≡ 0
    → answer_of (Show rtype) input ≡ answer
unfolding is_reading
shown_short rtype input answer is good = elim (cases_lt MAX_INPUT (length input)) [
  | inl long ↦ absurd (let test : nat_lt MAX_INPUT (length input) ≡ true = grind (arith, nat_tests)
      in grind (arith))
  | inr few ↦ let known = show_due rtype input (answer_of (Show rtype) input) refl (omega arith)
      in cc
]

-- ---- texts

-- the data of a type number, whose line isn't too long
record IsShortData (rtype : ℕ) (found : RecordData) : Type 0 where
  number : rtype_of found ≡ rtype
  is_data : IsUnionData found
  fits : length (report.line (union_printed found)) < 16777216

-- the line of a text is scanned as the text is
line_scanned : (rtype : ℕ) (text : List ℕ) (found : RecordData)
    → IsScannedAs (union_scan rtype) text found
    → entry_scanned (union_scan rtype) (report.line text) ≡ Ok found
line_scanned rtype text found is =
    let line = report.line text in
    let tokens = is.has.0 in
    let read = has_tokens line tokens (line_again text tokens is.has.1) in
    ap (λ (fault : Option ScanError). elim fault
    [ None ↦ (union_scan rtype (tokens_in line) 0).outcome | Some f ↦ Err f ]) read.0
    ∙ ap (λ (ts : List (List Symbol)). (union_scan rtype ts 0).outcome) read.1
    ∙ ap (λ (scanned : Scanned RecordData). scanned.outcome) (is.scanned tokens is.has.1)

scanned_back : UnionTextReadBack → (rtype : ℕ) (found : RecordData) (text : List ℕ)
    → IsShortData rtype found → text ≡ report.line (union_printed found)
    → due_to_scan rtype text ≡ Some (report.done_answer (data_hexadecimal found))
unfolding answer_of
scanned_back texts rtype found text is text_is =
    let is_text = subst (λ n. IsScannedAs (union_scan n) (union_printed found) found) is.number
    (texts found is.is_data) in
    scan_due rtype text _
    (ap (answer_of (Scan rtype)) text_is
    ∙ ap data_scanned (line_scanned rtype (union_printed found) found is_text))
    (let fits = is.fits
    in subst (λ (line : List ℕ). length line ≤ MAX_INPUT) (sym text_is) (omega arith))

-- ---- wherever `show` writes a text

-- what is read under a type number is data of it, whose line isn't too long
abbrev IsReadShort : ℕ → Type 0
IsReadShort rtype = (octets : List ℕ) (found : RecordData) → AreBelow256 octets
    → data_in rtype octets ≡ Ok found
    → IsShortData rtype found

read_shown : (r : Result RecordData Fault) → (data_shown r).status ≡ 0 → (found : RecordData)
    × (r ≡ Ok found) × (data_shown r ≡ report.done_answer (union_printed found))
read_shown (Ok found) is = (found, refl, refl)
read_shown (Err fault) is = absurd (omega (arith, is))

spelled_read : (rtype : ℕ) (spelled : Result (List ℕ) InputFault)
    → (due_of_octets rtype spelled).status ≡ 0
    → (octets : List ℕ) × (spelled ≡ Ok octets) × ((data_shown (data_in rtype octets)).status ≡ 0)
    × (due_of_octets rtype spelled ≡ data_shown (data_in rtype octets))
spelled_read rtype (Ok octets) is = (octets, refl, is, refl)
spelled_read rtype (Err fault) is = absurd (omega (arith, is))

some_needed : (line : Option (List ℕ)) (second : Option InputFault) (octets : List ℕ)
    → (line_or_fault 1 line >>= λ x. first_fault_or second (Ok x)) ≡ Ok octets → line ≡ Some octets
some_needed None second octets is = absurd cc
some_needed (Some x) (Some fault) octets is = absurd cc
some_needed (Some x) None octets is = cc

ok_decoded : (r : Result (List ℕ) FromHexError) (octets : List ℕ) → result_ok r ≡ Some octets
    → r ≡ Ok octets
ok_decoded (Ok x) octets is = cc
ok_decoded (Err error) octets is = absurd cc

hexadecimal_small : (line : Option (List ℕ)) (octets : List ℕ)
    → option_and_then hexadecimal_octets line ≡ Some octets → AreBelow256 octets
hexadecimal_small None octets is = absurd cc
hexadecimal_small (Some text) octets is =
    (decode_of-ok text octets (ok_decoded (decode_of text) octets is)).3

spelled_small : (all : List (List ℕ)) (octets : List ℕ) → only_line all ≡ Ok octets
    → AreBelow256 octets
spelled_small all octets is =
    hexadecimal_small (slice_get all 0) octets
    (some_needed (option_and_then hexadecimal_octets (slice_get all 0))
    (second_fault all) octets is)

shown_back : UnionTextReadBack → (rtype : ℕ) → IsReadShort rtype → ShownIsScannedBack rtype
unfolding answer_of
shown_back texts rtype short input answer due_is good =
    let answer_is : due_of_show rtype input ≡ answer = shown_short rtype input answer due_is good in
    let shows : (due_of_show rtype input).status ≡ 0 =
    ap (λ (a : report.Answer). a.status) answer_is ∙ good in
    let given = spelled_read rtype (spelled_octets input) shows in
    let octets = given.0 in
    let read = read_shown (data_in rtype octets) given.2 in
    let found = read.0 in
    let is = short octets found (spelled_small (lines input) octets given.1) read.1 in
    let text : due_of_show rtype input ≡ report.done_answer (union_printed found) =
    given.3 ∙ read.2 in
    record {
      octets = octets;
      found = found;
      spelled = given.1;
      read = read.1;
      scanned = scanned_back texts rtype found answer.report is
          (ap (λ (a : report.Answer). a.report) (sym answer_is ∙ text));
    }

-- ---- what is read

not_below : (n : ℕ) → nat_lt n n ≡ false
not_below n = grind (arith, nat_tests)

-- what is read to the end
whole_read : {V : Type 0} (type : V → RecordData) (end : ℕ) (r : Result V Fault)
    (found : RecordData)
    → whole_data end (read_as type (read_up_to end r)) ≡ Ok found → (held : V) × (r ≡ Ok held)
    × (found ≡ type held)
whole_read type end (Err fault) found is = absurd cc
whole_read type end (Ok held) found is =
    let here = ap (λ octets_left. cond octets_left (Err Form) (Ok (type held))) (not_below end) in
    let same = sym here ∙ is in
    (held, refl, cc)

in_part : (octets_left : Bool) (held found : RecordData)
    → cond octets_left (Err Form) (Ok held) ≡ Ok found → found ≡ held
in_part true held found none = absurd cc
in_part false held found same = cc

-- what is read up to some place
part_read : {V : Type 0} (type : V → RecordData) (end : ℕ) (r : Result (DataRead V) Fault)
    (found : RecordData)
    → whole_data end (read_as type r) ≡ Ok found → (held : DataRead V) × (r ≡ Ok held)
    × (found ≡ type held.value)
part_read type end (Err fault) found is = absurd cc
part_read type end (Ok held) found is =
    (held, refl, in_part (nat_lt held.next end) (type held.value) found is)

-- a type of one form
module _ (composed : FieldsComposedBack) (row : Row) (fits : LineFits row)
    (type : Data → RecordData) where
  fields_read : (octets : List ℕ) (found : RecordData) → AreBelow256 octets
      → whole_data (length octets)
      (read_as type
      (read_up_to (length octets) (read_data row (octets_left (whole_message octets)))))
      ≡ Ok found
      → (held : Data) × rows.IsAssociationData row held
      × (length (report.line (fields_printed row held)) < 16777216) × (found ≡ type held)
  fields_read octets found small is =
      let held = whole_read type (length octets)
      (read_data row (octets_left (whole_message octets))) found is in
      let is_data =
      (composed row (octets_left (whole_message octets)) held.0
      (label_octets octets 0 (length octets) (octets_from octets small)) held.1).0 in
      (held.0, is_data, fits held.0 is_data, held.2)

module _ (composed : FieldsComposedBack) (fits : TypesLinesFit) where
  sshfp_short : IsReadShort 44
  sshfp_short octets found small is =
      let held = fields_read composed sshfp fits.sshfp_fits Sshfp octets found small is in
      rw held.3 (record { number = refl; is_data = held.1; fits = held.2 })

  tlsa_short : IsReadShort 52
  tlsa_short octets found small is =
      let held = fields_read composed tlsa fits.tlsa_fits Tlsa octets found small is in
      rw held.3 (record { number = refl; is_data = held.1; fits = held.2 })

  cds_short : IsReadShort 59
  cds_short octets found small is =
      let held = fields_read composed cds fits.cds_fits Cds octets found small is in
      rw held.3 (record { number = refl; is_data = held.1; fits = held.2 })

  cdnskey_short : IsReadShort 60
  cdnskey_short octets found small is =
      let held = fields_read composed cdnskey fits.cdnskey_fits Cdnskey octets found small is in
      rw held.3 (record { number = refl; is_data = held.1; fits = held.2 })

  openpgpkey_short : IsReadShort 61
  openpgpkey_short octets found small is =
      let held = fields_read composed openpgpkey fits.openpgpkey_fits Openpgpkey octets found small
      is in
      rw held.3 (record { number = refl; is_data = held.1; fits = held.2 })

  zonemd_short : IsReadShort 63
  zonemd_short octets found small is =
      let held = fields_read composed zonemd fits.zonemd_fits Zonemd octets found small is in
      rw held.3 (record { number = refl; is_data = held.1; fits = held.2 })

ipseckey_short : IpseckeyComposedBack → IpseckeyLineFits → IsReadShort 45
ipseckey_short composed fits octets found small is =
    let input = whole_message octets in
    let held = part_read Ipseckey (length octets) (ipseckey_read input) found is in
    let whole = composed input held.0 (octets_from octets small) (omega arith) held.1 in
    rw held.2 (record {
      number = refl;
      is_data = (whole.is_data, whole.has_key);
      fits = fits held.0.value whole.is_data;
    })

all_octets : (octets : List ℕ) → length octets ≡ length octets - 0
all_octets octets = omega arith

module _ (is_data : ReadIsData) (fits : DataLineFits) where
  service_data : (octets : List ℕ) (held : Record) → AreBelow256 octets
      → read octets 0 (length octets) ≡ Ok held → IsRecordOfOctets held
  service_data octets held small is =
      is_data octets 0 (length octets) held (octets_from octets small) (omega arith) is

  svcb_short : IsReadShort 64
  svcb_short octets found small is =
      let held = whole_read Svcb (length octets) (read octets 0 (length octets - 0)) found is in
      let is_data = service_data octets held.0 small
      (ap (λ len. read octets 0 len) (all_octets octets) ∙ held.1) in
      rw held.2 (record { number = refl; is_data = is_data; fits = fits held.0 is_data })

  https_short : IsReadShort 65
  https_short octets found small is =
      let held = whole_read Https (length octets) (read octets 0 (length octets - 0)) found is in
      let is_data = service_data octets held.0 small
      (ap (λ len. read octets 0 len) (all_octets octets) ∙ held.1) in
      rw held.2 (record { number = refl; is_data = is_data; fits = fits held.0 is_data })

-- an address that is read has its octets
address_held : (len : ℕ) (octets : List ℕ) (held : DataRead (List ℕ)) → AreBelow256 octets
    → address_read len (whole_message octets) ≡ Ok held
    → IsAddress len held.value
address_held len octets held small is = elim (cases_lt (length octets) (0 + len)) [
  | inl short ↦ absurd
      (let test : nat_lt (length octets) (0 + len) ≡ true = grind (arith, nat_tests)
      in grind (arith))
  | inr enough ↦
      let test : nat_lt (length octets) (0 + len) ≡ false = grind (arith, nat_tests) in
      let read : DataRead (List ℕ) =
      record { value = next_octets len (whole_message octets); next = 0 + len } in
      let here : address_read len (whole_message octets) ≡ Ok read =
      ap (λ short. cond short (Err Short) (Ok read)) test in
      let both : Ok held ≡ Ok read = sym is ∙ here in
      let same : held ≡ read = cc in
      rw same (
        omega (arith, length-take (0 + len - 0) octets, enough),
        label_octets octets 0
            (0 + len) (octets_from octets small),
      )
]

a_short : IsReadShort 1
a_short octets found small is =
    let held = part_read A (length octets) (address_read 4 (whole_message octets)) found is in
    let is_address = address_held 4 octets held.0 small held.1 in
    let address = held.0.value in
    rw held.2 (record {
      number = refl;
      is_data = is_address;
      fits = omega
          (arith, ipv4-length address is_address.1, length-append (ipv4_text address) (10 ∷ []));
    })

aaaa_short : IsReadShort 28
aaaa_short octets found small is =
    let held = part_read Aaaa (length octets) (address_read 16 (whole_message octets)) found is in
    let is_address = address_held 16 octets held.0 small held.1 in
    let address = held.0.value in
    rw held.2 (record {
      number = refl;
      is_data = is_address;
      fits = omega (
        arith,
        ipv6-length address is_address.0 is_address.1,
        length-append (ipv6_text address)
            (10 ∷ []),
      );
    })

-- octets that are read are at most 65,535
unknown_held : (rtype : ℕ) (octets : List ℕ) (held : UnknownData)
    → unknown_read rtype octets ≡ Ok held
    → (length octets ≤ 65535) × (held ≡ record { rtype = rtype; octets = octets })
unknown_held rtype octets held is = elim (cases_lt 65535 (length octets)) [
  | inl long ↦ absurd (let test : nat_lt 65535 (length octets) ≡ true = grind (arith, nat_tests)
      in grind (arith))
  | inr few ↦
      let test : nat_lt 65535 (length octets) ≡ false = grind (arith, nat_tests) in
      let read : UnknownData = record { rtype = rtype; octets = octets } in
      let here : unknown_read rtype octets ≡ Ok read =
      ap (λ long. cond long (Err Form) (Ok read)) test in
      let both : Ok held ≡ Ok read = sym is ∙ here in
      (omega arith, cc)
]

unknown_short : UnknownTextByOctets → (rtype : ℕ)
    → ((octets : List ℕ)
    → data_in rtype octets
    ≡ whole_data (length octets)
    (read_as Unknown
    (read_up_to (length octets) (unknown_read rtype (octets_left (whole_message octets))))))
    → IsReadShort rtype
unknown_short lengths rtype in_octets octets found small is =
    let all = octets_left (whole_message octets) in
    let held = whole_read Unknown (length octets) (unknown_read rtype all) found
    (sym (in_octets octets) ∙ is) in
    let known = unknown_held rtype all held.0 held.1 in
    let are : AreOctets all = label_octets octets 0 (length octets) (octets_from octets small) in
    rw held.2 (rw known.1 (record {
      number = refl;
      is_data = (are, known.0);
      fits = let by_octets = lengths all known.0 in let few = known.0
          in omega (arith, by_octets, few, length-append (unknown_text all) (10 ∷ []));
    }))

-- ---- every type

another : (rtype n : ℕ) → (rtype ≡ n → ⊥) → (rtype == n) ≡ false
another rtype n isnt = grind (arith, nat_tests)

-- the types with fields of their own
pub record AreReadShort : Type 0 where
  a : IsReadShort 1
  aaaa : IsReadShort 28
  sshfp : IsReadShort 44
  ipseckey : IsReadShort 45
  tlsa : IsReadShort 52
  cds : IsReadShort 59
  cdnskey : IsReadShort 60
  openpgpkey : IsReadShort 61
  zonemd : IsReadShort 63
  svcb : IsReadShort 64
  https : IsReadShort 65

every_type : UnknownTextByOctets → AreReadShort → (rtype : ℕ) → IsReadShort rtype
every_type lengths are rtype = elim (cases_eq rtype 1) [
  | inl is ↦ rw is are.a
  | inr n1 ↦ elim (cases_eq rtype 28) [
    | inl is ↦ rw is are.aaaa
    | inr n28 ↦ elim (cases_eq rtype 44) [
      | inl is ↦ rw is are.sshfp
      | inr n44 ↦ elim (cases_eq rtype 45) [
        | inl is ↦ rw is are.ipseckey
        | inr n45 ↦ elim (cases_eq rtype 52) [
          | inl is ↦ rw is are.tlsa
          | inr n52 ↦ elim (cases_eq rtype 59) [
            | inl is ↦ rw is are.cds
            | inr n59 ↦ elim (cases_eq rtype 60) [
              | inl is ↦ rw is are.cdnskey
              | inr n60 ↦ elim (cases_eq rtype 61) [
                | inl is ↦ rw is are.openpgpkey
                | inr n61 ↦ elim (cases_eq rtype 63) [
                  | inl is ↦ rw is are.zonemd
                  | inr n63 ↦ elim (cases_eq rtype 64) [
                    | inl is ↦ rw is are.svcb
                    | inr n64 ↦ elim (cases_eq rtype 65) [
                      | inl is ↦ rw is are.https
                      | inr n65 ↦ unknown_short lengths rtype (λ octets.
                          rw (another rtype 1 n1)
                          (rw (another rtype 28 n28)
                          (rw (another rtype 44 n44)
                          (rw (another rtype 45 n45) (rw (another rtype 52 n52) (
                          rw (another rtype 59 n59)
                          (rw (another rtype 60 n60)
                          (rw (another rtype 61 n61)
                          (rw (another rtype 63 n63) (rw (another rtype 64 n64) (
                          rw (another rtype 65 n65) (refl))))))))))))
                    ]
                  ]
                ]
              ]
            ]
          ]
        ]
      ]
    ]
  ]
]

pub types_back : UnionTextReadBack → UnknownTextByOctets → AreReadShort → TypesAreScannedBack
types_back texts lengths are rtype = shown_back texts rtype (every_type lengths are rtype)

pub are_short : ReadIsData → FieldsComposedBack → IpseckeyComposedBack → DataLineFits
    → TypesLinesFit → IpseckeyLineFits → AreReadShort
are_short is_data composed ipseckey_composed line_fits lines_fit ipseckey_fits = record {
  a = a_short;
  aaaa = aaaa_short;
  sshfp = sshfp_short composed lines_fit;
  ipseckey = ipseckey_short ipseckey_composed ipseckey_fits;
  tlsa = tlsa_short composed lines_fit;
  cds = cds_short composed lines_fit;
  cdnskey = cdnskey_short composed lines_fit;
  openpgpkey = openpgpkey_short composed lines_fit;
  zonemd = zonemd_short composed lines_fit;
  svcb = svcb_short is_data line_fits;
  https = https_short is_data line_fits;
}

-- ---- all data

abbrev digit_holds : ℕ → Type 0
digit_holds c = is_hex_digit c ≡ true

no_line_end : (c : ℕ) → is_hex_digit c ≡ true → (c == 10) ≡ false
no_line_end c digit = elim (cases_eq c 10) [
  | inl is ↦ let none = rw is at digit in absurd cc
  | inr isnt ↦ grind (arith, nat_tests)
]

digits_line : (digits : List ℕ) → AllPass is_hex_digit digits
    → pieces 10 (digits ++ 10 ∷ []) ≡ digits ∷ [] ∷ []
digits_line [] are = refl
digits_line (c ∷ digits) are =
    ap (λ ends. cond ends ([] ∷ pieces 10 (digits ++ 10 ∷ []))
    (onto_first c (pieces 10 (digits ++ 10 ∷ []))))
    (no_line_end c (All-head digit_holds c digits are))
    ∙ ap (onto_first c) (digits_line digits (All-tail digit_holds c digits are))

one_line : (line : List ℕ) → without_empty_last (line ∷ [] ∷ []) ≡ line ∷ []
one_line [] = refl
one_line (c ∷ line) = refl

spelled_back : (octets : List ℕ) → AreBelow256 octets
    → spelled_octets (report.line (encode_lower octets)) ≡ Ok octets
spelled_back octets small =
    let digits = encode_lower octets in
    let back = decode_of-encode_lower octets small in
    ap (λ all. only_line (without_empty_last all))
    (digits_line digits (decode_of-ok digits octets back).1)
    ∙ ap only_line (one_line digits)
    ∙ ap (λ (r : Result (List ℕ) FromHexError). line_or_fault 1 (result_ok r)
    >>= λ x. first_fault_or None (Ok x)) back

-- what is read back
service_read : (type : Record → RecordData) (octets : List ℕ) (found : Record)
    → read octets 0 (length octets) ≡ Ok found
    → whole_data (length octets)
    (read_as type (read_up_to (length octets) (read octets 0 (length octets - 0))))
    ≡ Ok (type found)
service_read type octets found is =
    ap (λ (r : Result Record Fault). whole_data (length octets)
    (read_as type (read_up_to (length octets) r)))
    (sym (ap (λ len. read octets 0 len) (all_octets octets)) ∙ is)
    ∙ ap (λ octets_left. cond octets_left (Err Form) (Ok (type found))) (not_below (length octets))

-- the line of hexadecimal isn't too long
hexadecimal_fits : (found : Record) → IsRecordOfOctets found
    → length (report.line (encode_lower (rdata found.priority found.labels found.pairs)))
    ≤ MAX_INPUT
hexadecimal_fits found is =
    let octets = rdata found.priority found.labels found.pairs in
    let long = length-encode_with lower_digits octets in
    let fits = is.is_record.fits in
    omega (arith, long, length-append (encode_lower octets) (10 ∷ []))

pub all_back : RecordReadBack → UnionTextReadBack → DataLineFits → AllDataBack
unfolding answer_of
all_back read_back texts line_fits found is =
    let octets = rdata found.priority found.labels found.pairs in
    let given = report.line (encode_lower octets) in
    let few = hexadecimal_fits found is in
    let spelled = spelled_back octets (rdata_small found is) in
    let back = read_back found is.is_record in (
      record {
        shown = show_due 64 given _
            (ap (due_of_octets 64) spelled
            ∙ ap data_shown (service_read Svcb octets found back)) few;
        scanned = scanned_back texts 64 (Svcb found) _
            (record { number = refl; is_data = is; fits = line_fits found is }) refl;
      },
      record {
        shown = show_due 65 given _
            (ap (due_of_octets 65) spelled
            ∙ ap data_shown (service_read Https octets found back)) few;
        scanned = scanned_back texts 65 (Https found) _
            (record { number = refl; is_data = is; fits = line_fits found is }) refl;
      },
    )
