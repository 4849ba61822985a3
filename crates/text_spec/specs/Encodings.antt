-- Octets as text: base16 and base64 (RFC 4648, sections 8 and 4).
use Rattle.std.specs.Prelude.{ℕ, true, List, Option, codes}
use Rattle.std.specs.Result.{result_ok}
use Rattle.hex.specs.Hex as hex
use Rattle.base64.specs.Rfc4648.{encode}
use Rattle.base64.specs.GeneralPurpose.{decode_of}
use Rattle.base64.specs.Engines.{standard}

-- the octets that an even count of digits spells, in either case
abbrev pub base16_of : List ℕ → Option (List ℕ)
base16_of text = result_ok (hex.decode_of text)

-- octets as digits, in upper case
abbrev pub base16_text : List ℕ → List ℕ
base16_text octets = hex.encode_upper octets

-- the letters of base64
abbrev pub letters : List ℕ
letters = codes "ABCDEFGHIJKLMNOPQRSTUVWXYZabcdefghijklmnopqrstuvwxyz0123456789+/"

-- octets as base64, with `=` as padding
abbrev pub base64_text : List ℕ → List ℕ
base64_text octets = encode letters 61 true octets

-- the octets that a base64 text spells; the law `Base64Exact` says that it is the text of these
-- octets and no other
abbrev pub base64_of : List ℕ → Option (List ℕ)
base64_of text = result_ok (decode_of standard text)
