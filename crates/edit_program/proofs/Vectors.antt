-- What lines of an input of `edit` push. No proof cites this file.
use Rattle.std.proofs.Common.{◌≡◌, [], ◌∷◌, Some, None, refl}
use Rattle.std.specs.Prelude.{codes}
use Rattle.hex.specs.Hex.{decode_pairs}
use Rattle.svcb_spec.specs.Values.{Alpn, Port, Unknown}
use Rattle.text_spec.specs.Lexing.{step, lexemes_at}
use Rattle.svcb_spec.specs.ValueTexts.{protocols_within}
use Rattle.edit_program.specs.Pushes.{push_of}

-- ---- the text of a parameter

mnemonic : push_of (codes "alpn=h2") ≡ Some (Alpn (codes "h2" ∷ []))
unfolding lexemes_at step protocols_within
mnemonic = refl

in_quotes : push_of (codes "\"port=53\"") ≡ Some (Port 53)
unfolding lexemes_at step
in_quotes = refl

between_blanks : push_of (codes "  port=53 ; c") ≡ Some (Port 53)
unfolding lexemes_at step
between_blanks = refl

carriage_return : push_of (codes "port=53\r") ≡ Some (Port 53)
unfolding lexemes_at step
carriage_return = refl

by_number : push_of (codes "key1=\\002h2") ≡ Some (Unknown 1 (2 ∷ codes "h2"))
unfolding lexemes_at step
by_number = refl

without_its_value : push_of (codes "port") ≡ None
unfolding lexemes_at step
without_its_value = refl

two_tokens : push_of (codes "port=53 x") ≡ None
unfolding lexemes_at step
two_tokens = refl

no_token : push_of [] ≡ None
unfolding lexemes_at step
no_token = refl

a_comment : push_of (codes "; port=53") ≡ None
unfolding lexemes_at step
a_comment = refl

open_bracket : push_of (codes "(port=53") ≡ None
unfolding lexemes_at step
open_bracket = refl

in_brackets : push_of (codes "( port=53 )") ≡ Some (Port 53)
unfolding lexemes_at step
in_brackets = refl

-- ---- `raw`, a key and octets

raw_octets : push_of (codes "raw 3 0035") ≡ Some (Unknown 3 (0 ∷ 53 ∷ []))
unfolding decode_pairs
raw_octets = refl

raw_without_octets : push_of (codes "raw 0000000003") ≡ Some (Unknown 3 [])
raw_without_octets = refl

two_blanks : push_of (codes "raw  3") ≡ None
two_blanks = refl

-- what begins with `raw` and a blank is no text of a parameter
raw_and_comment : push_of (codes "raw ;") ≡ None
raw_and_comment = refl

-- `raw` names no key
raw_alone : push_of (codes "raw") ≡ None
unfolding lexemes_at step
raw_alone = refl

blank_before_raw : push_of (codes " raw 3 00") ≡ None
unfolding lexemes_at step
blank_before_raw = refl
