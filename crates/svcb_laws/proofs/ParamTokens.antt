-- The tokens of a map's texts spell that map. Offered to the crates above: `one_token`,
-- `params_again`, `has_tokens-spaced` and `tokens_of_texts`.
use Rattle.std.proofs.Common.{◌≡◌, ℕ, ◌+◌, ◌<◌, ◌≤◌, true, false, cond, ◌&&◌, ◌||◌, List, [], ◌∷◌, ◌++◌, map, length, Result, Ok, Err, refl, sym, ap, ap₂, ◌∙◌, subst, arith, append_assoc, append-nil, add-zero, zero-add}
use Rattle.std.specs.Prelude.{◌==◌, nat_le}
use Rattle.std.specs.List.{list_all, join_with_byte, AllByRecursion}
use Rattle.std.proofs.Math.Seq.{drop-append_seam}
use Rattle.std.proofs.lemmas.Bool.Decides.{nat_tests}
use Rattle.svcb_spec.specs.Params.{Pair, Pairs, Ascends}
use Rattle.svcb_spec.specs.ReadingValues.{value_in}
use Rattle.svcb_spec.specs.Values.{Value, Mandatory, Alpn, NoDefaultAlpn, Port, Ipv4Hint, Ech, Ipv6Hint, DohPath, Ohttp, TlsSupportedGroups, Unknown, key_of, encode}
use Rattle.std.proofs.lemmas.Bool.{and_parts}
use Rattle.text_spec.specs.declared.errors.ScanError.{ScanError}
use Rattle.text_spec.specs.declared.errors.ScanError.TheVariants.{DuplicateKey, MandatoryMissing}
use Rattle.text_spec.specs.declared.lexeme.Symbol.{Symbol}
use Rattle.text_spec.specs.Pieces.{HasTokens, IsTokenText}
use Rattle.text_spec.specs.Scanning.{Scanned, octets_of, scan_then, done, refused}
use Rattle.text_spec.proofs.Again.{has_tokens}
use Rattle.text_spec.proofs.TokenTexts.{entry_from_gap, has_no_tokens, blank_on, token_on, has_token}
use Rattle.svcb_spec.specs.ParamTexts.{spells, has_key, mandatory_keys, are_mandatory_there, insert_pair, map_of, values_at, params}
use Rattle.svcb_spec.specs.PrintedParams.{holds_key, ascends_above, has_some, has_own_text, pair_printed, pair_texts}
use Rattle.svcb_laws.specs.ParamTextLaws.{HaveOctets, AreTextsOfTokens, ParamsReadBack, ParamsTextReadBack}
use Rattle.svcb_laws.proofs.PairTexts.{pair_value, IsPairText, pair_value_again}

-- ---- tokens that spell values

-- each token spells its value
abbrev pub AreSpelled : List (List Symbol) → List Value → Type 0
AreSpelled [] [] = Unit {0}
AreSpelled [] (value ∷ values) = ⊥
AreSpelled (token ∷ tokens) [] = ⊥
AreSpelled (token ∷ tokens) (value ∷ values) =
    (spells (octets_of token) ≡ Ok value) × AreSpelled tokens values

-- each value has another key than those before it
abbrev pub AreNew : List Value → List Value → Type 0
AreNew before [] = Unit {0}
AreNew before (value ∷ values) =
    (has_key before (key_of value) ≡ false) × AreNew (before ++ value ∷ []) values

-- what `values_at` does with the value that the next token spells
abbrev pub after_token : List Value → List (List Symbol) → ℕ → Result Value ScanError
    → Scanned (List Value)
after_token before tokens place spelled = elim spelled [
  | Err fault ↦ refused fault place
  | Ok value ↦ cond (has_key before (key_of value)) (refused DuplicateKey place)
      (values_at (before ++ value ∷ []) tokens (place + 1))
]

values_at-spelled : (before : List Value) (tokens : List (List Symbol)) (values : List Value)
    (place : ℕ) → AreSpelled tokens values → AreNew before values
    → values_at before tokens place ≡ done (before ++ values) (place + length tokens)
values_at-spelled before [] [] place spelled new =
    ap₂ done (sym (append-nil before)) (sym (add-zero place))
values_at-spelled before [] (value ∷ values) place spelled new = absurd spelled
values_at-spelled before (token ∷ tokens) [] place spelled new = absurd spelled
values_at-spelled before (token ∷ tokens) (value ∷ values) place spelled new =
    let count : place + 1 + length tokens ≡ place + length (token ∷ tokens) = omega arith in
    ap (after_token before tokens place) spelled.0
    ∙ ap (λ b. cond b (refused DuplicateKey place)
    (values_at (before ++ value ∷ []) tokens (place + 1))) new.0
    ∙ values_at-spelled (before ++ value ∷ []) tokens values (place + 1) spelled.1 new.1
    ∙ ap₂ done (append_assoc before (value ∷ []) values) count

-- values and what they make
abbrev pub made_of : List Value → ℕ → Scanned Pairs
made_of values end =
    cond (are_mandatory_there values) (done (map_of values) end) (refused MandatoryMissing end)

pub params-spelled : (front tokens : List (List Symbol)) (values : List Value)
    → AreSpelled tokens values → AreNew [] values → are_mandatory_there values ≡ true
    → params (front ++ tokens) (length front) ≡ done (map_of values) (length front + length tokens)
params-spelled front tokens values spelled new there =
    ap (λ (left : List (List Symbol)). scan_then (values_at [] left (length front)) made_of)
    (drop-append_seam front tokens)
    ∙ ap (λ scanned. scan_then scanned made_of)
    (values_at-spelled [] tokens values (length front) spelled new)
    ∙ ap (λ b. cond b (done (map_of values) (length front + length tokens))
    (refused MandatoryMissing (length front + length tokens))) there

-- ---- the token of a text

first_of : (a b : List Symbol) → a ∷ [] ≡ b ∷ [] → a ≡ b
first_of a b is = cc

-- a text is wholly that of one token
pub one_token : (text : List ℕ) (a b : List Symbol) → IsTokenText text a → IsTokenText text b
    → a ≡ b
one_token text a b is_a is_b =
    first_of a b
    (sym (has_tokens text (a ∷ []) (has_token text a is_a)).1
    ∙ (has_tokens text (b ∷ []) (has_token text b is_b)).1)

-- ---- the values of a map's pairs

module _ (pairs : Pairs) where
  abbrev values_of : Pairs → List Value
  values_of found = map (pair_value pairs) found

  pair_of : (least : ℕ) (pair : Pair) (others : Pairs) → Ascends least (pair ∷ others)
      → HaveOctets (pair ∷ others)
      → IsPairText (pair_printed pairs pair) pair (pair_value pairs pair)
  pair_of least pair others ascends octets =
      pair_value_again pairs pair (record { key = ascends.1; few = ascends.2; octets = octets.0 })

  spelled_values : (least : ℕ) (found : Pairs) (tokens : List (List Symbol)) → Ascends least found
      → HaveOctets found
      → AreTextsOfTokens (map (pair_printed pairs) found) tokens
      → AreSpelled tokens (values_of found)
  spelled_values least [] [] ascends octets are = tt
  spelled_values least [] (token ∷ tokens) ascends octets are = absurd are
  spelled_values least (pair ∷ found) [] ascends octets are = absurd are
  spelled_values least (pair ∷ found) (token ∷ tokens) ascends octets are =
      let back = (pair_of least pair found ascends octets).spelled in
      let same : token ≡ back.0 = one_token (pair_printed pairs pair) token back.0 are.0 back.1 in (
        ap (λ (t : List Symbol). spells (octets_of t)) same
            ∙ back.2,
        spelled_values (pair.0 + 1) found tokens ascends.3 octets.1 are.1,
      )

  -- all keys are below a number
  abbrev AreBelow : ℕ → List Value → Type 0
  AreBelow least values = AllByRecursion (λ value. key_of value < least) values

  not_key : (n key least : ℕ) → n < least → least ≤ key → (n == key) ≡ false
  not_key n key least below above = grind (arith, nat_tests)

  not_there : (key least : ℕ) (before : List Value) → AreBelow least before → least ≤ key
      → has_key before key ≡ false
  not_there key least [] below above = refl
  not_there key least (value ∷ before) below above =
      ap (λ b. b || has_key before key) (not_key (key_of value) key least below.0 above)
      ∙ not_there key least before below.1 above

  below_more : (value : Value) (least : ℕ) (before : List Value) → AreBelow least before
      → least ≤ key_of value → AreBelow (key_of value + 1) (before ++ value ∷ [])
  below_more value least [] below above = (omega arith, tt)
  below_more value least (first ∷ before) below above =
      let lower = below.0 in
      (omega arith, below_more value least before below.1 above)

  new_values : (least : ℕ) (before : List Value) (found : Pairs) → Ascends least found
      → HaveOctets found → AreBelow least before → AreNew before (values_of found)
  new_values least before [] ascends octets below = tt
  new_values least before (pair ∷ found) ascends octets below =
      let value = pair_value pairs pair in
      let is : key_of value ≡ pair.0 = (pair_of least pair found ascends octets).key in
      let above : least ≤ key_of value = subst (λ n. least ≤ n) (sym is) ascends.0 in (
        not_there (key_of value) least before below above,
        new_values (pair.0 + 1) (before ++ value ∷ []) found ascends.3 octets.1
            (subst (λ n. AreBelow (n + 1) (before ++ value ∷ [])) is
            (below_more value least before below above)),
      )

  has_key-found : (least : ℕ) (found : Pairs) (key : ℕ) → Ascends least found → HaveOctets found
      → has_key (values_of found) key ≡ holds_key found key
  has_key-found least [] key ascends octets = refl
  has_key-found least (pair ∷ found) key ascends octets =
      ap₂ (λ n b. (n == key) || b) (pair_of least pair found ascends octets).key
      (has_key-found (pair.0 + 1) found key ascends.3 octets.1)

  -- the listed keys of a value that has a text of its own are there
  own_there : (value : Value) → has_own_text pairs value ≡ true
      → list_all (holds_key pairs) (mandatory_keys value) ≡ true
  own_there (Mandatory keys) own =
      (and_parts (has_some keys && ascends_above 0 keys) (list_all (holds_key pairs) keys) own).1
  own_there (Alpn protocols) own = refl
  own_there NoDefaultAlpn own = refl
  own_there (Port port) own = refl
  own_there (Ipv4Hint addresses) own = refl
  own_there (Ech octets) own = refl
  own_there (Ipv6Hint addresses) own = refl
  own_there (DohPath octets) own = refl
  own_there Ohttp own = refl
  own_there (TlsSupportedGroups groups) own = refl
  own_there (Unknown key octets) own = refl

  pair_there : (pair : Pair) → list_all (holds_key pairs) (mandatory_keys (pair_value pairs pair))
      ≡ true
  pair_there pair =
      elim (has_own_text pairs (value_in pair.0 pair.1)) as
      (λ own. has_own_text pairs (value_in pair.0 pair.1) ≡ own
      → list_all (holds_key pairs)
      (mandatory_keys (cond own (value_in pair.0 pair.1) (Unknown pair.0 pair.1))) ≡ true) [
        | true ↦ λ own. own_there (value_in pair.0 pair.1) own
        | false ↦ λ none. refl
      ] refl

  keys_there : (values : List Value) (keys : List ℕ)
      → ((key : ℕ) → has_key values key ≡ holds_key pairs key)
      → list_all (holds_key pairs) keys ≡ true
      → list_all (has_key values) keys ≡ true
  keys_there values [] same there = refl
  keys_there values (key ∷ keys) same there =
      let both = and_parts (holds_key pairs key) (list_all (holds_key pairs) keys) there in
      ap (λ b. b && list_all (has_key values) keys) (same key ∙ both.0)
      ∙ keys_there values keys same both.1

  all_there : (values : List Value) (found : Pairs)
      → ((key : ℕ) → has_key values key ≡ holds_key pairs key)
      → list_all (λ value. list_all (has_key values) (mandatory_keys value)) (values_of found)
      ≡ true
  all_there values [] same = refl
  all_there values (pair ∷ found) same =
      ap (λ b. b && list_all (λ value. list_all (has_key values) (mandatory_keys value))
      (values_of found))
      (keys_there values (mandatory_keys (pair_value pairs pair)) same (pair_there pair))
      ∙ all_there values found same

  not_above : (n m : ℕ) → n + 1 ≤ m → nat_le n m ≡ true
  not_above n m below = grind (arith, nat_tests)

  insert_lowest : (least : ℕ) (pair : Pair) (found : Pairs) → Ascends (pair.0 + 1) found
      → insert_pair pair found ≡ pair ∷ found
  insert_lowest least pair [] ascends = refl
  insert_lowest least pair (other ∷ found) ascends =
      ap (λ b. cond b (pair ∷ other ∷ found) (other ∷ insert_pair pair found))
      (not_above pair.0 other.0 ascends.0)

  map_of-found : (least : ℕ) (found : Pairs) → Ascends least found → HaveOctets found
      → map_of (values_of found) ≡ found
  map_of-found least [] ascends octets = refl
  map_of-found least (pair ∷ found) ascends octets =
      let back = pair_of least pair found ascends octets in
      let same : (key_of (pair_value pairs pair), encode (pair_value pairs pair)) ≡ pair =
      ap₂ (λ key octets. (key, octets)) back.key back.octets in
      ap₂ insert_pair same (map_of-found (pair.0 + 1) found ascends.3 octets.1)
      ∙ insert_lowest least pair found ascends.3

-- the tokens of a map's texts are spelled as that map
pub params_again : ParamsReadBack
params_again pairs is_map octets front tokens are =
    let values = map (pair_value pairs) pairs in
    params-spelled front tokens values (spelled_values pairs 0 pairs tokens is_map octets are)
    (new_values pairs 0 [] pairs is_map octets tt)
    (all_there pairs values pairs (λ key. has_key-found pairs 0 pairs key is_map octets))
    ∙ ap (λ (found : Pairs). done found (length front + length tokens))
    (map_of-found pairs 0 pairs is_map octets)

-- ---- the text of a map

-- texts with a space between them have their tokens
pub has_tokens-spaced : (texts : List (List ℕ)) (tokens : List (List Symbol))
    → AreTextsOfTokens texts tokens → HasTokens (join_with_byte 32 texts) tokens
has_tokens-spaced [] [] are = entry_from_gap 0 [] [] has_no_tokens
has_tokens-spaced [] (token ∷ tokens) are = absurd are
has_tokens-spaced (text ∷ texts) [] are = absurd are
has_tokens-spaced (text ∷ []) (token ∷ []) are = has_token text token are.0
has_tokens-spaced (text ∷ []) (token ∷ next ∷ tokens) are = absurd are.1
has_tokens-spaced (text ∷ next ∷ texts) (token ∷ tokens) are =
    let rest = join_with_byte 32 (next ∷ texts) in
    token_on 0 (32 ∷ rest) tokens text token are.0
    (blank_on 0 rest tokens 32 refl (has_tokens-spaced (next ∷ texts) tokens are.1))

-- each pair's text has a token
pub tokens_of_texts : (pairs : Pairs) (least : ℕ) (found : Pairs) → Ascends least found
    → HaveOctets found
    → (tokens : List (List Symbol)) × AreTextsOfTokens (map (pair_printed pairs) found) tokens
tokens_of_texts pairs least [] ascends octets = ([], tt)
tokens_of_texts pairs least (pair ∷ found) ascends octets =
    let first = (pair_of pairs least pair found ascends octets).spelled in
    let rest = tokens_of_texts pairs (pair.0 + 1) found ascends.3 octets.1 in
    (first.0 ∷ rest.0, (first.1, rest.1))

-- the text of a map has tokens that spell that map
pub params_text_again : ParamsTextReadBack
params_text_again pairs is_map octets =
    let found = tokens_of_texts pairs 0 pairs is_map octets in (
      found.0,
      has_tokens-spaced (pair_texts pairs) found.0 found.1,
      params_again pairs is_map octets [] found.0 found.1
          ∙ ap (done pairs) (zero-add (length found.0)),
    )
