-- What the definitions of the texts of parameters give on worked inputs. No proof cites this file.
use Rattle.std.proofs.Common.{◌≡◌, ℕ, List, [], ◌∷◌, Ok, Err, refl}
use Rattle.std.specs.Prelude.{codes}
use Rattle.std.specs.Fmt.{digits}
use Rattle.name_spec.specs.Printed.{printed_as}
use Rattle.svcb_spec.specs.Params.{Pairs}
use Rattle.svcb_spec.specs.Values.{Mandatory, Alpn, Port, Ohttp, Unknown}
use Rattle.text_spec.specs.declared.errors.ScanError.TheVariants.{EmptyParam, BadKeyChar, UnknownKey, MissingValue, UnexpectedValue, BadListEscape, EmptyItem, KeyZeroInMandatory, DuplicateItem, DuplicateKey, MandatoryMissing, BadPort}
use Rattle.text_spec.specs.Lexing.{step, lexemes_at}
use Rattle.text_spec.specs.Tokens.{tokens_in}
use Rattle.text_spec.specs.Scanning.{Scanned, done, refused}
use Rattle.svcb_spec.specs.ValueTexts.{protocols_within}
use Rattle.svcb_spec.specs.ParamTexts.{spells, params}
use Rattle.svcb_spec.specs.PrintedValues.{value_printed}
use Rattle.svcb_spec.specs.PrintedParams.{params_printed}

-- ---- one parameter

mandatory_ascends : spells (codes "mandatory=port,alpn") ≡ Ok (Mandatory (1 ∷ 3 ∷ []))
mandatory_ascends = refl

escaped_comma : spells (codes "alpn=a\\,b") ≡ Ok (Alpn (codes "a,b" ∷ []))
unfolding protocols_within
escaped_comma = refl

bad_list_escape : spells (codes "alpn=a\\b") ≡ Err BadListEscape
unfolding protocols_within
bad_list_escape = refl

comma_at_the_end : spells (codes "alpn=a,") ≡ Err EmptyItem
unfolding protocols_within
comma_at_the_end = refl

opaque_by_number : spells (codes "key1=h2") ≡ Ok (Unknown 1 (codes "h2"))
opaque_by_number = refl

mandatory_in_mandatory : spells (codes "mandatory=mandatory") ≡ Err KeyZeroInMandatory
mandatory_in_mandatory = refl

group_twice : spells (codes "tls-supported-groups=29,23,29") ≡ Err DuplicateItem
group_twice = refl

upper_case : spells (codes "Port=1") ≡ Err BadKeyChar
upper_case = refl

unknown_key : spells (codes "foo=1") ≡ Err UnknownKey
unknown_key = refl

no_key : spells (codes "=x") ≡ Err UnknownKey
no_key = refl

no_octets : spells [] ≡ Err EmptyParam
no_octets = refl

value_missing : spells (codes "port") ≡ Err MissingValue
value_missing = refl

bad_port : spells (codes "port=65536") ≡ Err BadPort
bad_port = refl

plus_and_zeros : spells (codes "port=+053") ≡ Ok (Port 53)
plus_and_zeros = refl

empty_value : spells (codes "ohttp=") ≡ Ok Ohttp
empty_value = refl

value_unexpected : spells (codes "no-default-alpn=abc") ≡ Err UnexpectedValue
value_unexpected = refl

-- ---- parameters

-- the parameters that a text's tokens spell
abbrev params_in : List ℕ → Scanned Pairs
params_in text = params (tokens_in text) 0

ascending_keys : params_in (codes "port=53 alpn=h2")
    ≡ done ((1, 2 ∷ codes "h2") ∷ (3, 0 ∷ 53 ∷ []) ∷ []) 2
unfolding lexemes_at step protocols_within
ascending_keys = refl

key_twice : params_in (codes "port=1 port=2") ≡ refused DuplicateKey 1
unfolding lexemes_at step
key_twice = refl

missing_mandatory : params_in (codes "mandatory=port") ≡ refused MandatoryMissing 1
unfolding lexemes_at step
missing_mandatory = refl

-- ---- printing

printed_protocol : value_printed (Alpn ((102 ∷ 92 ∷ 111 ∷ codes "o,bar") ∷ codes "h2" ∷ []))
    ≡ codes "alpn=f\\\\\\\\oo\\\\,bar,h2"
unfolding printed_as
printed_protocol = refl

empty_alpn_is_opaque : params_printed ((1, []) ∷ (3, 0 ∷ 53 ∷ []) ∷ []) ≡ codes "key1 port=53"
unfolding digits
empty_alpn_is_opaque = refl

long_port_is_opaque : params_printed ((3, 0 ∷ 53 ∷ 0 ∷ []) ∷ []) ≡ codes "key3=\\0005\\000"
unfolding printed_as digits
long_port_is_opaque = refl

zero_in_mandatory : params_printed ((0, 0 ∷ 123 ∷ []) ∷ []) ≡ codes "key0=\\000{"
unfolding printed_as digits
zero_in_mandatory = refl
