-- Laws of the texts of entries, which the functions of `src/laws.rt` state.
use Rattle.std.specs.Prelude.{◌≡◌, ℕ, ◌<◌, ◌^◌, ◌↔◌, IsTrue, List, [], ◌∷◌, ◌++◌, length, Some, None}
use Rattle.std.specs.Fmt.{decimal}
use Rattle.std.specs.List.{flat_map, AllByRecursion}
use Rattle.name_spec.specs.Names.{AreLabels}
use Rattle.name_spec.specs.Printed.{printed_octets, printed_name_with_dot}
use Rattle.name_spec.specs.Addresses.{ipv4_text, ipv6_text}
use Rattle.name_spec.specs.AddressLaws.{AreOctets}
use Rattle.registry.specs.Texts.{spelled_number}
use Rattle.text_spec.specs.declared.errors.ScanError.{ScanError}
use Rattle.text_spec.specs.declared.lexeme.Symbol.{Symbol}
use Rattle.text_spec.specs.declared.display_kind.DisplayKind.{DisplayKind}
use Rattle.text_spec.specs.Pieces.{is_bare, HasTokens, HasFault, IsTokenText}
use Rattle.text_spec.specs.Tokens.{text_fault, tokens_in}
use Rattle.text_spec.specs.Scanning.{octets_of}
use Rattle.text_spec.specs.NameTexts.{name_of}
use Rattle.text_spec.specs.Encodings.{base16_of, base16_text, base64_of, base64_text}
use Rattle.text_spec.specs.Words.{Word, words_text, AreWords}
use Rattle.text_spec.specs.Layouts.{Item, laid_out_text, IsDocument, AreTokenTexts}

-- a text has these tokens exactly where it is read without a fault and these are its tokens
abbrev pub TokensRead : Type 0
TokensRead = (text : List ℕ) (tokens : List (List Symbol))
    → HasTokens text tokens ↔ ((text_fault text ≡ None) × (tokens_in text ≡ tokens))

-- a text has this fault exactly where it is the first that is found
abbrev pub FaultRead : Type 0
FaultRead = (text : List ℕ) (fault : ScanError) → HasFault 0 text fault
    ↔ (text_fault text ≡ Some fault)

-- a text that is wholly a token's is an entry of that token alone
abbrev pub TokenIsEntry : Type 0
TokenIsEntry = (text : List ℕ) (token : List Symbol) → IsTokenText text token
    → HasTokens text (token ∷ [])

-- a token's text, a space and an entry have that token in front of those of the entry
abbrev pub TokenInFront : Type 0
TokenInFront = (text rest : List ℕ) (token : List Symbol) (tokens : List (List Symbol))
    → IsTokenText text token → HasTokens rest tokens
    → HasTokens (text ++ 32 ∷ rest) (token ∷ tokens)

-- the printed text of octets, at least one, is wholly the text of a token of these octets
abbrev pub OctetsReadBack : Type 0
OctetsReadBack = (octet : ℕ) (octets : List ℕ) → AreOctets (octet ∷ octets)
    → (token : List Symbol) × IsTokenText (printed_octets (octet ∷ octets)) token
    × (octets_of token ≡ octet ∷ octets)

-- the printed text of a name with its final dot is wholly the text of a token that spells the name
abbrev pub NameTextReadBack : Type 0
NameTextReadBack = (labels : List (List ℕ)) → AreLabels 0 labels
    → AreOctets (flat_map (λ label. label) labels)
    → (token : List Symbol) × IsTokenText (printed_name_with_dot labels) token
    × (name_of token ≡ Some labels)

-- a text is read as exactly the octets whose base64 text it is
abbrev pub Base64Exact : Type 0
Base64Exact = (text octets : List ℕ) → AreOctets text
    → (base64_of text ≡ Some octets) ↔ (AreOctets octets × (text ≡ base64_text octets))

-- The tokens of a text of octets are of octets, as what is joined for `base64_of` is.
abbrev pub TokensOfOctets : Type 0
TokensOfOctets = (text : List ℕ) (tokens : List (List Symbol)) → AreOctets text
    → HasTokens text tokens → AreOctets (flat_map octets_of tokens)

-- octets are read back from their base16 text
abbrev pub Base16ReadBack : Type 0
Base16ReadBack = (octets : List ℕ) → AreOctets octets → base16_of (base16_text octets) ≡ Some octets

-- the text is wholly that of a token of its own octets
abbrev pub IsOwnToken : List ℕ → Type 0
IsOwnToken text = (token : List Symbol) × IsTokenText text token × (octets_of token ≡ text)

-- octets that each stand for themselves, at least one, are wholly a token of these octets
abbrev pub PlainReadBack : Type 0
PlainReadBack = (text : List ℕ) → 0 < length text → AllByRecursion (λ c. IsTrue (is_bare c)) text
    → IsOwnToken text

-- and so is the decimal text of a number
abbrev pub DecimalReadBack : Type 0
DecimalReadBack = (n : ℕ) → n < 2 ^ 64 → IsOwnToken (decimal n)

-- which is read as that number, wherever it is below the bound
abbrev pub DecimalIsNumber : Type 0
DecimalIsNumber = (bound n : ℕ) → n < bound → n < 2 ^ 64
    → spelled_number bound (decimal n) ≡ Some n

-- and the base16 text of octets, at least one
abbrev pub Base16TokenText : Type 0
Base16TokenText = (octets : List ℕ) → 0 < length octets → AreOctets octets
    → IsOwnToken (base16_text octets)

-- and the base64 text of octets, at least one
abbrev pub Base64TokenText : Type 0
Base64TokenText = (octets : List ℕ) → 0 < length octets → AreOctets octets
    → IsOwnToken (base64_text octets)

-- and the text of four octets as an IPv4 address
abbrev pub Ipv4TokenText : Type 0
Ipv4TokenText = (octets : List ℕ) → length octets ≡ 4 → AreOctets octets
    → IsOwnToken (ipv4_text octets)

-- and the text of 16 octets as an IPv6 address
abbrev pub Ipv6TokenText : Type 0
Ipv6TokenText = (octets : List ℕ) → length octets ≡ 16 → AreOctets octets
    → IsOwnToken (ipv6_text octets)

-- words, with a space between two of them and with brackets around some, have exactly their tokens
abbrev pub WordsReadBack : Type 0
WordsReadBack = (words : List Word) (tokens : List (List Symbol))
    → AreWords 0 words tokens → HasTokens (words_text words) tokens

-- the text of a document, in each layout, has exactly the document's tokens
abbrev pub LayoutSplits : Type 0
LayoutSplits = (kind : DisplayKind) (items : List Item) (tokens : List (List Symbol))
    → IsDocument items → AreTokenTexts items tokens → HasTokens (laid_out_text kind items) tokens
