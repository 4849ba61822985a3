-- The texts of the data of IPSECKEY records, printed or laid out, are scanned as that data.
use Rattle.std.proofs.Common.{◌≡◌, ℕ, ◌+◌, ◌<◌, Bool, true, false, cond, List, [], ◌∷◌, ◌++◌, length, Option, Some, Ok, refl, sym, ap, ap₂, ◌∙◌, subst, length-append, arith, append_assoc}
use Rattle.std.specs.Prelude.{codes, nat_lt}
use Rattle.std.specs.Fmt.{decimal}
use Rattle.std.specs.Option.{ok_or}
use Rattle.name_spec.specs.Addresses.{ipv4_of, ipv6_of, ipv4_text, ipv6_text}
use Rattle.name_spec.proofs.AddressTexts.{ipv4_again, ipv6_again}
use Rattle.text_spec.specs.declared.errors.ScanError.TheVariants.{BadAddress, BadName, BadBase64, WrongGateway, MissingKey, LongRecord}
use Rattle.text_spec.specs.declared.lexeme.Symbol.{Symbol}
use Rattle.text_spec.specs.Pieces.{HasTokens, IsTokenText}
use Rattle.text_spec.specs.Scanning.{Scanned, octets_of, by_octets, scan_then, done, refused}
use Rattle.text_spec.specs.Encodings.{base64_of, base64_text}
use Rattle.text_spec.specs.Layouts.{Item, Token, Comment, BlockEnd, AreTokenTexts}
use Rattle.text_spec.proofs.Again.{has_tokens}
use Rattle.text_spec.proofs.EncodingTexts.{base64_again}
use Rattle.text_spec.proofs.NameTexts.{name_again}
use Rattle.text_spec.proofs.PlainTexts.{plain_token, token_text-plain, ArePlain-base64, ipv4_token, ipv6_token}
use Rattle.text_spec.proofs.Splits.{layout_splits}
use Rattle.text_spec.proofs.TokenTexts.{entry_from_gap, has_no_tokens, blank_on, token_on, has_token}
use Rattle.text_spec.specs.Rows.{number_below, by_name, rest_base64}
use Rattle.record_spec.specs.declared.Encoding.TheVariants.{Base64}
use Rattle.record_spec.specs.Texts.{numbers_printed, last_printed}
use Rattle.record_spec.specs.Ipseckeys.{Gateway, NoGateway, Ipv4Gateway, Ipv6Gateway, NameGateway, gateway_type, Ipseckey, lacks_key, ipseckey_len, IsGateway, IsIpseckey}
use Rattle.record_spec.specs.IpseckeyTexts.{no_gateway_of, scan_gateway, complete_ipseckey, scan_ipseckey, gateway_text, ipseckey_printed, type_comment, algorithm_comment, ipseckey_document}
use Rattle.record_spec.specs.DocumentLaws.{document-ipseckey}
use Rattle.record_laws.specs.RecordLaws.{AreScannedAs, IpseckeyTextReadBack, IpseckeyLayoutReadBack}
use Rattle.record_laws.proofs.Scans.{moved_on, place_on, one_taken, rest_taken, within}
use Rattle.record_laws.proofs.Texts.{number_token, number_scanned, numbers_on, number_front, token_front, text_tokens, octets-text_tokens, bracketed_text, last_front, text_of}

-- ---- the gateway

-- a token's text isn't empty
some_text : (text : List ℕ) (token : List Symbol) → IsTokenText text token → 0 < length text
some_text [] token is =
    let none = (has_tokens [] [] (entry_from_gap 0 [] [] has_no_tokens)).1 in
    let one = (has_tokens [] (token ∷ []) (has_token [] token is)).1 in
    absurd (cc (none, one))
some_text (c ∷ text) token is = omega arith

-- a gateway's text is that of a token which is scanned as the gateway
record IsGatewayToken (gateway : Gateway) (token : List Symbol) : Type 0 where
  text : IsTokenText (gateway_text gateway) token
  scanned : (front behind : List (List Symbol))
      → scan_gateway (gateway_type gateway) (front ++ token ∷ behind) (length front)
      ≡ done gateway (length front + 1)

as_gateway : {V : Type 0} (gateway : V → Gateway) (scanned : Scanned V) (x : V) (end : ℕ)
    → scanned ≡ done x end
    → scan_then scanned (λ found after. done (gateway found) after) ≡ done (gateway x) end
as_gateway gateway scanned x end is =
    ap (λ s. scan_then s (λ found after. done (gateway found) after)) is

address_means : (read : List ℕ → Option (List ℕ)) (token : List Symbol) (text octets : List ℕ)
    → octets_of token ≡ text → read text ≡ Some octets
    → by_octets read BadAddress token ≡ Ok octets
address_means read token text octets is means =
    ap (λ (t : List ℕ). ok_or (read t) BadAddress) is
    ∙ ap (λ (r : Option (List ℕ)). ok_or r BadAddress) means

gateway_token : (gateway : Gateway) → IsGateway gateway → (token : List Symbol)
    × IsGatewayToken gateway token
gateway_token NoGateway is =
    let token = plain_token (codes ".") in (
      token,
      record {
        text = token_text-plain (codes ".") (omega arith) (refl, tt);
        scanned = λ front behind. one_taken (by_octets no_gateway_of WrongGateway) front behind
            token NoGateway refl;
      },
    )
gateway_token (Ipv4Gateway octets) is =
    let own = ipv4_token octets is.0 is.1 in
    let means = address_means ipv4_of own.0 (ipv4_text octets) octets own.2
    (ipv4_again octets is.0 is.1) in (
      own.0,
      record {
        text = own.1;
        scanned = λ front behind. as_gateway Ipv4Gateway _ octets (length front + 1)
            (one_taken (by_octets ipv4_of BadAddress) front behind own.0 octets means);
      },
    )
gateway_token (Ipv6Gateway octets) is =
    let own = ipv6_token octets is.0 is.1 in
    let means = address_means ipv6_of own.0 (ipv6_text octets) octets own.2
    (ipv6_again octets is.0 is.1) in (
      own.0,
      record {
        text = own.1;
        scanned = λ front behind. as_gateway Ipv6Gateway _ octets (length front + 1)
            (one_taken (by_octets ipv6_of BadAddress) front behind own.0 octets means);
      },
    )
gateway_token (NameGateway labels) is =
    let own = name_again labels is.0 is.1 in
    let means = ap (λ (found : Option (List (List ℕ))). ok_or found BadName) own.2 in (
      own.0,
      record {
        text = own.1;
        scanned = λ front behind. as_gateway NameGateway _ labels (length front + 1)
            (one_taken by_name front behind own.0 labels means);
      },
    )

type_small : (gateway : Gateway) → gateway_type gateway < 4
type_small NoGateway = omega arith
type_small (Ipv4Gateway octets) = omega arith
type_small (Ipv6Gateway octets) = omega arith
type_small (NameGateway labels) = omega arith

-- ---- the tokens of data

module _ (found : Ipseckey) (token : List Symbol) where
  abbrev key_tokens : List (List Symbol)
  key_tokens = text_tokens (base64_text found.key)

  abbrev tokens_of_data : List (List Symbol)
  tokens_of_data =
      number_token found.precedence ∷ number_token (gateway_type found.gateway)
      ∷ number_token found.algorithm ∷ token ∷ key_tokens

module _ (tokens : List (List Symbol)) where
  -- what follows each part of a scan
  abbrev behind_gateway : ℕ → ℕ → Gateway → ℕ → Scanned Ipseckey
  behind_gateway precedence algorithm gateway after =
      scan_then (rest_base64 tokens after) (λ key end.
      complete_ipseckey
      (record { precedence = precedence; algorithm = algorithm; gateway = gateway; key = key })
      tokens end)

  abbrev behind_algorithm : ℕ → ℕ → ℕ → ℕ → Scanned Ipseckey
  behind_algorithm precedence type algorithm after =
      scan_then (scan_gateway type tokens after) (behind_gateway precedence algorithm)

  abbrev behind_type : ℕ → ℕ → ℕ → Scanned Ipseckey
  behind_type precedence type after =
      scan_then (number_below 256 tokens after) (behind_algorithm precedence type)

  abbrev behind_precedence : ℕ → ℕ → Scanned Ipseckey
  behind_precedence precedence after =
      scan_then (number_below 256 tokens after) (behind_type precedence)

completed : (found : Ipseckey) (tokens : List (List Symbol)) (end : ℕ) → IsIpseckey found
    → lacks_key found.algorithm found.key ≡ false
    → complete_ipseckey found tokens end ≡ done found end
completed found tokens end is has =
    ap (λ (lacks : Bool). cond lacks (refused MissingKey end)
    (cond (nat_lt 65535 (ipseckey_len found)) (refused LongRecord end) (done found end))) has
    ∙ within (ipseckey_len found) end LongRecord found is.fits

-- they are scanned as it
data_scanned : (found : Ipseckey) (token : List Symbol) → IsGatewayToken found.gateway token
    → IsIpseckey found → lacks_key found.algorithm found.key ≡ false
    → AreScannedAs scan_ipseckey (tokens_of_data found token) found
data_scanned found token gateway is has front =
    let p = found.precedence in
    let t = gateway_type found.gateway in
    let a = found.algorithm in
    let rest = key_tokens found token in
    let few = type_small found.gateway in
    let small = is.precedence in
    let small_too = is.algorithm in
    -- the tokens behind each part, and those before it
    let behind_a : List (List Symbol) = token ∷ rest in
    let behind_t : List (List Symbol) = number_token a ∷ behind_a in
    let behind_p : List (List Symbol) = number_token t ∷ behind_t in
    let first = front ++ number_token p ∷ [] in
    let second = first ++ number_token t ∷ [] in
    let third = second ++ number_token a ∷ [] in
    let fourth = third ++ token ∷ [] in
    let end : length (fourth ++ rest) ≡ length front + length (tokens_of_data found token) =
    omega (
      arith,
      length-append fourth rest,
      length-append third (token ∷ []),
      length-append second (number_token a ∷ []),
      length-append first (number_token t ∷ []),
      length-append front (number_token p ∷ []),
    ) in
    ap (λ (s : Scanned ℕ). scan_then s (behind_precedence (front ++ number_token p ∷ behind_p)))
    (number_scanned 256 p front behind_p small (omega arith))
    ∙ ap₂ (λ (ts : List (List Symbol)) (at : ℕ). behind_precedence ts p at)
    (moved_on front behind_p (number_token p)) (place_on front (number_token p))
    ∙ ap (λ (s : Scanned ℕ). scan_then s (behind_type (first ++ behind_p) p))
    (number_scanned 256 t first behind_t (omega arith) (omega arith))
    ∙ ap₂ (λ (ts : List (List Symbol)) (at : ℕ). behind_type ts p t at)
    (moved_on first behind_t (number_token t)) (place_on first (number_token t))
    ∙ ap (λ (s : Scanned ℕ). scan_then s (behind_algorithm (second ++ behind_t) p t))
    (number_scanned 256 a second behind_a small_too (omega arith))
    ∙ ap₂ (λ (ts : List (List Symbol)) (at : ℕ). behind_algorithm ts p t a at)
    (moved_on second behind_a (number_token a)) (place_on second (number_token a))
    ∙ ap (λ (s : Scanned Gateway). scan_then s (behind_gateway (third ++ behind_a) p a))
    (gateway.scanned third rest)
    ∙ ap₂ (λ (ts : List (List Symbol)) (at : ℕ). behind_gateway ts p a found.gateway at)
    (moved_on third rest token) (place_on third token)
    ∙ ap (λ (s : Scanned (List ℕ)). scan_then s
    (λ key end. complete_ipseckey
    (record { precedence = p; algorithm = a; gateway = found.gateway; key = key })
    (fourth ++ rest) end))
    (rest_taken base64_of BadBase64 fourth rest found.key
    (ap base64_of (octets-text_tokens (base64_text found.key)) ∙ base64_again found.key is.key))
    ∙ completed found (fourth ++ rest) (length (fourth ++ rest)) is has
    ∙ ap (done found) end

-- ---- printed

pub ipseckey_text_again : IpseckeyTextReadBack
ipseckey_text_again found is has =
    let gateway = gateway_token found.gateway is.gateway in
    let token = gateway.0 in
    let text = gateway_text found.gateway in
    let last = last_printed Base64 true found.key in
    let rest = key_tokens found token in
    let few = type_small found.gateway in
    let small = is.precedence in
    let small_too = is.algorithm in
    let numbers = found.precedence ∷ gateway_type found.gateway ∷ found.algorithm ∷ [] in
    let behind = token_on 0 (32 ∷ last) rest text token gateway.1.text
    (blank_on 0 last rest 32 refl
    (bracketed_text (base64_text found.key) (ArePlain-base64 found.key is.key))) in
    text_of scan_ipseckey (ipseckey_printed found) found (tokens_of_data found token)
    (subst (λ (t : List ℕ). HasTokens (numbers_printed numbers ++ t) (tokens_of_data found token))
    (sym (append_assoc text (codes " ") last))
    (numbers_on numbers (text ++ 32 ∷ last) (token ∷ rest)
    (omega arith, (omega arith, (omega arith, tt))) behind))
    (data_scanned found token gateway.1 is has)

-- ---- laid out

data_front : (found : Ipseckey) (token : List Symbol) → IsGatewayToken found.gateway token
    → IsIpseckey found
    → AreTokenTexts (ipseckey_document found) (tokens_of_data found token)
data_front found token gateway is =
    let text = gateway_text found.gateway in
    let rest = key_tokens found token in
    let few = type_small found.gateway in
    let small = is.precedence in
    let small_too = is.algorithm in
    let last : List Item = Token (base64_text found.key) ∷ BlockEnd ∷ [] in
    let gateway_on : List Item = Token text ∷ Comment (codes "gateway") ∷ last in
    let algorithm_on : List Item =
    Token (decimal found.algorithm) ∷ Comment (algorithm_comment found.algorithm)
    ∷ Comment (codes "algorithm") ∷ gateway_on in
    let type_on : List Item =
    Token (decimal (gateway_type found.gateway)) ∷ Comment (type_comment found.gateway)
    ∷ Comment (codes "gateway type") ∷ algorithm_on in
    let key_is = last_front (base64_text found.key) (ArePlain-base64 found.key is.key) in
    let gateway_is : AreTokenTexts gateway_on (token ∷ rest) =
    token_front text token (Comment (codes "gateway") ∷ last) rest
    (some_text text token gateway.text) gateway.text key_is in
    let algorithm_is : AreTokenTexts algorithm_on (number_token found.algorithm ∷ token ∷ rest) =
    number_front found.algorithm
    (Comment (algorithm_comment found.algorithm) ∷ Comment (codes "algorithm") ∷ gateway_on)
    (token ∷ rest) (omega arith) gateway_is in
    let type_is : AreTokenTexts type_on
    (number_token (gateway_type found.gateway) ∷ number_token found.algorithm ∷ token ∷ rest) =
    number_front (gateway_type found.gateway)
    (Comment (type_comment found.gateway) ∷ Comment (codes "gateway type") ∷ algorithm_on)
    (number_token found.algorithm ∷ token ∷ rest) (omega arith) algorithm_is in
    number_front found.precedence (Comment (codes "precedence") ∷ type_on)
    (number_token (gateway_type found.gateway) ∷ number_token found.algorithm ∷ token ∷ rest)
    (omega arith) type_is

pub ipseckey_layout_again : IpseckeyLayoutReadBack
ipseckey_layout_again found is has kind =
    let gateway = gateway_token found.gateway is.gateway in
    let tokens = tokens_of_data found gateway.0 in
    text_of scan_ipseckey _ found tokens
    (layout_splits kind (ipseckey_document found) tokens (document-ipseckey found)
    (data_front found gateway.0 gateway.1 is))
    (data_scanned found gateway.0 gateway.1 is has)
