-- What is scanned as the data of an IPSECKEY record is such data.
use Rattle.std.proofs.Common.{◌≡◌, ℕ, zero, suc, ◌<◌, Bool, true, false, cond, List, [], ◌∷◌, length, Some, None, refl, sym, ap, ◌∙◌, subst}
use Rattle.std.specs.Prelude.{slice_get, nat_lt, ◌==◌, codes, bytes_eq}
use Rattle.std.specs.List.{flat_map}
use Rattle.name_spec.specs.AddressLaws.{AreOctets}
use Rattle.name_spec.specs.Addresses.{ipv4_of, ipv6_of}
use Rattle.text_spec.specs.declared.errors.ScanError.TheVariants.{BadAddress, BadName, WrongGateway, UnknownGateway, MissingKey, LongRecord}
use Rattle.text_spec.specs.declared.lexeme.Symbol.{Symbol}
use Rattle.text_spec.specs.Scanning.{octets_of, Scanned, done, refused, by_octets, one, scan_then}
use Rattle.text_spec.specs.NameTexts.{name_of}
use Rattle.text_spec.specs.Rows.{number_below, by_name, name, ipv4_address, ipv6_address, rest_base64}
use Rattle.record_spec.specs.declared.Encoding.TheVariants.{Base64}
use Rattle.record_spec.specs.Ipseckeys.{Gateway, NoGateway, Ipv4Gateway, Ipv6Gateway, NameGateway, Ipseckey, lacks_key, ipseckey_len, IsGateway, IsIpseckey}
use Rattle.record_spec.specs.IpseckeyTexts.{no_gateway_of, scan_gateway, complete_ipseckey}
use Rattle.text_spec.proofs.OctetParts.{AreOctets-split}
use Rattle.record_laws.specs.RecordLaws.{ScannedIsIpseckey}
use Rattle.record_laws.proofs.Octets.{above}
use Rattle.record_laws.proofs.Scanned.{first_done, one_done, read_some, test_done, number_done, encoded_done, same_done}
use Rattle.record_laws.proofs.ScannedGateways.{ipv4_octets, ipv6_octets, name_labels}

-- ---- the gateway

-- the octets of a token among others
token_octets : (tokens : List (List Symbol)) (place : ℕ) (token : List Symbol)
    → AreOctets (flat_map octets_of tokens) → slice_get tokens place ≡ Some token
    → AreOctets (octets_of token)
token_octets [] place token are is = absurd cc
token_octets (first ∷ tokens) zero token are is =
    let same : first ≡ token = cc in
    subst (λ (t : List Symbol). AreOctets (octets_of t)) same
    (AreOctets-split (octets_of first) (flat_map octets_of tokens) are).0
token_octets (first ∷ tokens) (suc place) token are is =
    token_octets tokens place token
    (AreOctets-split (octets_of first) (flat_map octets_of tokens) are).1 is

none_found : (test : Bool) (g : Gateway) → cond test (Some NoGateway) None ≡ Some g → IsGateway g
none_found true g is = let same : NoGateway ≡ g = cc in subst IsGateway same tt
none_found false g is = absurd cc

module _ (tokens : List (List Symbol)) (place : ℕ) (are : AreOctets (flat_map octets_of tokens))
    (gateway : Gateway) (end : ℕ) where
  nothing_scanned : one (by_octets no_gateway_of WrongGateway) tokens place ≡ done gateway end
      → IsGateway gateway
  nothing_scanned is =
      let token = one_done (by_octets no_gateway_of WrongGateway) tokens place gateway end is in
      none_found (bytes_eq (octets_of token.0) (codes ".")) gateway
      (read_some (no_gateway_of (octets_of token.0)) WrongGateway gateway token.2)

  four_scanned : scan_then (ipv4_address tokens place)
      (λ octets after. done (Ipv4Gateway octets) after) ≡ done gateway end → IsGateway gateway
  four_scanned is =
      let first = first_done (ipv4_address tokens place)
      (λ octets after. done (Ipv4Gateway octets) after) gateway end is in
      let token = one_done (by_octets ipv4_of BadAddress) tokens place first.0
      (ipv4_address tokens place).place first.1 in
      subst IsGateway (same_done (Ipv4Gateway first.0) gateway _ end first.2)
      (ipv4_octets (octets_of token.0) first.0
      (read_some (ipv4_of (octets_of token.0)) BadAddress first.0 token.2))

  sixteen_scanned : scan_then (ipv6_address tokens place)
      (λ octets after. done (Ipv6Gateway octets) after) ≡ done gateway end → IsGateway gateway
  sixteen_scanned is =
      let first = first_done (ipv6_address tokens place)
      (λ octets after. done (Ipv6Gateway octets) after) gateway end is in
      let token = one_done (by_octets ipv6_of BadAddress) tokens place first.0
      (ipv6_address tokens place).place first.1 in
      subst IsGateway (same_done (Ipv6Gateway first.0) gateway _ end first.2)
      (ipv6_octets (octets_of token.0) first.0
      (read_some (ipv6_of (octets_of token.0)) BadAddress first.0 token.2))

  name_scanned : scan_then (name tokens place) (λ labels after. done (NameGateway labels) after)
      ≡ done gateway end → IsGateway gateway
  name_scanned is =
      let first = first_done (name tokens place) (λ labels after. done (NameGateway labels) after)
      gateway end is in
      let token = one_done by_name tokens place first.0 (name tokens place).place first.1 in
      subst IsGateway (same_done (NameGateway first.0) gateway _ end first.2)
      (name_labels token.0 first.0 (token_octets tokens place token.0 are token.1)
      (read_some (name_of token.0) BadName first.0 token.2))

  by_test : (none four sixteen name : Bool) (first second third fourth : Scanned Gateway)
      → cond none first
      (cond four second (cond sixteen third (cond name fourth (refused UnknownGateway place))))
      ≡ done gateway end
      → (first ≡ done gateway end → IsGateway gateway)
      → (second ≡ done gateway end → IsGateway gateway)
      → (third ≡ done gateway end → IsGateway gateway)
      → (fourth ≡ done gateway end → IsGateway gateway) → IsGateway gateway
  by_test true four sixteen name first second third fourth is f s t n = f is
  by_test false true sixteen name first second third fourth is f s t n = s is
  by_test false false true name first second third fourth is f s t n = t is
  by_test false false false true first second third fourth is f s t n = n is
  by_test false false false false first second third fourth is f s t n =
      absurd (let outcomes = ap (λ (d : Scanned Gateway). d.outcome) is in cc)

  gateway_done : (type : ℕ) → scan_gateway type tokens place ≡ done gateway end → IsGateway gateway
  gateway_done type is =
      by_test (type == 0) (type == 1) (type == 2) (type == 3) _ _ _ _ is nothing_scanned
      four_scanned sixteen_scanned name_scanned

-- ---- data

complete_done : (found : Ipseckey) (tokens : List (List Symbol)) (place : ℕ) (made : Ipseckey)
    (end : ℕ) → complete_ipseckey made tokens place ≡ done found end
    → (lacks_key made.algorithm made.key ≡ false) × (nat_lt 65535 (ipseckey_len made) ≡ false)
    × (made ≡ found) × (place ≡ end)
complete_done found tokens place made end is = tested (lacks_key made.algorithm made.key) refl is
  where
    tested : (lacks : Bool) → lacks_key made.algorithm made.key ≡ lacks
        → cond lacks (refused MissingKey place)
        (cond (nat_lt 65535 (ipseckey_len made)) (refused LongRecord place) (done made place))
        ≡ done found end
        → (lacks_key made.algorithm made.key ≡ false) × (nat_lt 65535 (ipseckey_len made) ≡ false)
        × (made ≡ found) × (place ≡ end)
    tested true holds is = absurd (let outcomes = ap (λ (d : Scanned Ipseckey). d.outcome) is in cc)
    tested false holds is =
        let rest = test_done (nat_lt 65535 (ipseckey_len made)) LongRecord place end made found is
        in
        (holds, rest.0, rest.1, rest.2)

-- what is scanned, beside the places
abbrev IsScanned : List (List Symbol) → ℕ → Ipseckey → Type 0
IsScanned tokens end found = IsIpseckey found × (lacks_key found.algorithm found.key ≡ false)
    × (end ≡ length tokens)

key_done : (tokens : List (List Symbol)) (place end : ℕ) (found : Ipseckey)
    → AreOctets (flat_map octets_of tokens)
    → (precedence algorithm : ℕ) (gateway : Gateway) → precedence < 256 → algorithm < 256
    → IsGateway gateway
    → scan_then (rest_base64 tokens place)
    (λ key end. complete_ipseckey
    (record { precedence = precedence; algorithm = algorithm; gateway = gateway; key = key })
    tokens end) ≡ done found end
    → IsScanned tokens end found
key_done tokens place end found are precedence algorithm gateway small small_too is_gateway is =
    let made : List ℕ → Ipseckey =
    λ key. record {
      precedence = precedence;
      algorithm = algorithm;
      gateway = gateway;
      key = key;
    } in
    let rest = rest_base64 tokens place in
    let onward : List ℕ → ℕ → Scanned Ipseckey = λ key end. complete_ipseckey (made key) tokens end
    in
    let first = first_done rest onward found end is in
    let key = encoded_done Base64 tokens place first.0 rest.place are first.1 in
    let tested = complete_done found tokens rest.place (made first.0) end first.2 in
    let data_is : IsIpseckey (made first.0) =
    record {
      precedence = small;
      algorithm = small_too;
      gateway = is_gateway;
      key = key.0;
      fits = above 65535 (ipseckey_len (made first.0)) tested.1;
    } in
    subst (IsScanned tokens end) tested.2 (data_is, tested.0, sym tested.3 ∙ key.1)

pub scanned_ipseckey : ScannedIsIpseckey
scanned_ipseckey tokens place end found are is =
    let behind_gateway : ℕ → ℕ → Gateway → ℕ → Scanned Ipseckey =
    λ p a g after. scan_then (rest_base64 tokens after)
    (λ key end. complete_ipseckey
    (record { precedence = p; algorithm = a; gateway = g; key = key }) tokens end) in
    let behind_algorithm : ℕ → ℕ → ℕ → ℕ → Scanned Ipseckey =
    λ p t a after. scan_then (scan_gateway t tokens after) (behind_gateway p a) in
    let behind_type : ℕ → ℕ → ℕ → Scanned Ipseckey =
    λ p t after. scan_then (number_below 256 tokens after) (behind_algorithm p t) in
    let behind_precedence : ℕ → ℕ → Scanned Ipseckey =
    λ p after. scan_then (number_below 256 tokens after) (behind_type p) in
    let first = number_below 256 tokens place in
    let precedence = first_done first behind_precedence found end is in
    let second = number_below 256 tokens first.place in
    let type = first_done second (behind_type precedence.0) found end precedence.2 in
    let third = number_below 256 tokens second.place in
    let algorithm = first_done third (behind_algorithm precedence.0 type.0) found end type.2 in
    let fourth = scan_gateway type.0 tokens third.place in
    let gateway = first_done fourth (behind_gateway precedence.0 algorithm.0) found end algorithm.2
    in
    key_done tokens fourth.place end found are precedence.0 algorithm.0 gateway.0
    (number_done 256 tokens place precedence.0 first.place precedence.1)
    (number_done 256 tokens second.place algorithm.0 third.place algorithm.1)
    (gateway_done tokens third.place are gateway.0 fourth.place type.0 gateway.1) gateway.2
