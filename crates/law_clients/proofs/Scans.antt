-- What scanning the tokens of a whole text answers.
use Rattle.std.proofs.Common.{◌≡◌, ℕ, List, [], ◌∷◌, length, Some, Ok, sym, ap, ◌∙◌, subst}
use Rattle.std.specs.Prelude.{Result}
use Rattle.std.specs.Option.{ok_or}
use Rattle.name_spec.specs.Addresses.{ipv4_of, ipv4_text}
use Rattle.name_spec.specs.AddressLaws.{AreOctets, Ipv4ReadBack}
use Rattle.text_spec.specs.declared.errors.ScanError.{ScanError}
use Rattle.text_spec.specs.declared.errors.ScanError.TheVariants.{BadAddress}
use Rattle.text_spec.specs.declared.lexeme.Symbol.{Symbol}
use Rattle.text_spec.specs.Laws.{TokensRead, TokenIsEntry, Ipv4TokenText}
use Rattle.text_spec.specs.Pieces.{HasTokens}
use Rattle.text_spec.specs.Rows.{ipv4_address}
use Rattle.text_spec.specs.Scanning.{Scan, Scanning, Answers, at_token, octets_of}

-- a text has some tokens
abbrev pub HasSome : List ℕ → Type 0
HasSome text = (tokens : List (List Symbol)) × HasTokens text tokens

pub some_tokens : (text printed : List ℕ) → text ≡ printed → HasSome printed → HasSome text
some_tokens text printed is some = subst HasSome (sym is) some

-- where the tokens of a text are scanned as a value, a scan from the first of them answers it
pub whole : {T V : Type 0} (view : T → V) (scanning : Scanning V) (text printed : List ℕ)
    (old : Scan) (result : Result T ScanError) (found : V)
    → text ≡ printed → HasTokens text old.tokens → old.taken ≡ 0
    → ((tokens : List (List Symbol)) → HasTokens printed tokens
    → (scanning tokens 0).outcome ≡ Ok found)
    → Answers view result (scanning old.tokens old.taken).outcome → Answers view result (Ok found)
whole view scanning text printed old result found is has start scanned answer =
    subst (Answers view result)
    (ap (λ n. (scanning old.tokens n).outcome) start
    ∙ scanned old.tokens (subst (λ (octets : List ℕ). HasTokens octets old.tokens) is has))
    answer

-- one token that is the text of an address is scanned as that address
pub one_address : (token : List Symbol) (text octets : List ℕ) → octets_of token ≡ text
    → ipv4_of text ≡ Some octets → (ipv4_address (token ∷ []) 0).outcome ≡ Ok octets
one_address token text octets is read =
    ap (λ o. (at_token 0 (ok_or o BadAddress)).outcome) (ap ipv4_of is ∙ read)

-- so the tokens of the text of an address are
pub address_scanned : Ipv4TokenText → TokenIsEntry → TokensRead → Ipv4ReadBack → (octets : List ℕ)
    → length octets ≡ 4 → AreOctets octets → (tokens : List (List Symbol))
    → HasTokens (ipv4_text octets) tokens → (ipv4_address tokens 0).outcome ≡ Ok octets
address_scanned token_text is_entry read read_back octets long are tokens has =
    let text = ipv4_text octets in
    let own = token_text octets long are in
    let one = own.0 ∷ [] in
    let same : tokens ≡ one =
    sym ((read text tokens).0 has).1 ∙ ((read text one).0 (is_entry text own.0 own.1)).1 in
    ap (λ (ts : List (List Symbol)). (ipv4_address ts 0).outcome) same
    ∙ one_address own.0 text octets own.2 (read_back octets long are)
