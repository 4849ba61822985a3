-- What octets that stand for themselves are read as, in quotes and outside.
use Rattle.std.proofs.Common.{◌≡◌, ◌≤◌, ℕ, suc, ◌+◌, Bool, true, false, cond, List, [], ◌∷◌, ◌++◌, length, take, drop, map, Some, None, Result, Ok, Err, arith, refl, sym, ap, ◌∙◌, ◌&&◌, ◌||◌, not, append_assoc, length-append}
use Rattle.std.specs.List.{prefix_len}
use Rattle.std.proofs.lemmas.List.{append-nil}
use Rattle.std.proofs.lemmas.Bool.Decides.{nat_tests}
use Rattle.text_spec.specs.declared.lexeme.LexerState.{LexerState}
use Rattle.text_spec.specs.declared.lexeme.Lexeme.{Lexeme}
use Rattle.text_spec.specs.declared.lexeme.Lexeme.TheVariants.{Octet}
use Rattle.text_spec.specs.declared.lexeme.Symbol.{Symbol}
use Rattle.text_spec.specs.declared.errors.ScanError.{ScanError}
use Rattle.text_spec.specs.Pieces.{is_bare, is_quotable, token_groups}
use Rattle.text_spec.specs.Tokens.{fault_of, found_in}
use Rattle.text_spec.specs.Scanning.{octets_of}
use Rattle.dns_text.specs.Reading.{AppendsToken, GoesOn, GoesOnWith, bare_symbols, with_bare}
use Rattle.text_spec.specs.Lexing.{step, step_of, lexemes_at, with_front}
use Rattle.text_spec.proofs.Skips.{lexemes_at-reads}

bare_step : (state : LexerState) (c : ℕ) (rest : List ℕ)
    → ((state.quoted || not state.ended) && is_bare c) ≡ true
    → step state c rest ≡ step_of (Octet (record { octet = c; escaped = false })) state 0
unfolding step
bare_step state c rest bare = grind (arith, nat_tests, bare)

pub bare_read : (state : LexerState) (c : ℕ) (rest text : List ℕ) (lexeme : Lexeme)
    → text ≡ c ∷ rest
    → ((state.quoted || not state.ended) && is_bare c) ≡ true
    → lexeme ≡ Octet (record { octet = c; escaped = false })
    → lexemes_at state 0 text ≡ with_front lexeme (lexemes_at state 0 rest)
bare_read state c rest text lexeme is bare is_lexeme =
    ap (lexemes_at state 0) is
    ∙ lexemes_at-reads state c rest
    (record { lexeme = Octet (record { octet = c; escaped = false }); state = state; len = 0 })
    (bare_step state c rest bare)
    ∙ ap (λ l. with_front l (lexemes_at state 0 rest)) (sym is_lexeme)

-- ---- octets in a row

-- those in front that pass a test are read as themselves, where it lets such octets through alone
plain_run : (plain : ℕ → Bool) (state : LexerState)
    → ((c : ℕ) (rest : List ℕ) → plain c ≡ true
    → step state c rest ≡ step_of (Octet (record { octet = c; escaped = false })) state 0)
    → (text : List ℕ)
    → lexemes_at state 0 text
    ≡ with_bare (take (prefix_len plain text) text)
    (lexemes_at state 0 (drop (prefix_len plain text) text))
plain_run plain state steps [] = refl
plain_run plain state steps (c ∷ text) =
    let n = prefix_len plain text in
    elim (plain c) as
    (λ b. plain c ≡ b → lexemes_at state 0 (c ∷ text)
    ≡ with_bare (take (cond b (1 + n) 0) (c ∷ text))
    (lexemes_at state 0 (drop (cond b (1 + n) 0) (c ∷ text)))) [
      | true ↦ λ passes. let more : 1 + n ≡ suc n = omega arith in
          rw more
          (lexemes_at-reads state c text
          (record { lexeme = Octet (record { octet = c; escaped = false }); state = state; len = 0 })
          (steps c text passes)
          ∙ ap (with_front (Octet (record { octet = c; escaped = false })))
          (plain_run plain state steps text))
      | false ↦ λ other. refl
    ] refl

-- so it is outside quotes, before the entry ends
pub bare_run : (state : LexerState) (text : List ℕ) → state.ended ≡ false
    → lexemes_at state 0 text
    ≡ with_bare (take (prefix_len is_bare text) text)
    (lexemes_at state 0 (drop (prefix_len is_bare text) text))
bare_run state text here =
    plain_run is_bare state
    (λ c rest bare. bare_step state c rest (grind (arith, here, bare))) text

quotable_step : (state : LexerState) (c : ℕ) (rest : List ℕ) → state.quoted ≡ true
    → is_quotable c ≡ true
    → step state c rest ≡ step_of (Octet (record { octet = c; escaped = false })) state 0
unfolding step
quotable_step state c rest quoted plain = grind (arith, nat_tests, quoted, plain)

-- and in quotes
pub quotable_run : (state : LexerState) (text : List ℕ) → state.quoted ≡ true
    → lexemes_at state 0 text
    ≡ with_bare (take (prefix_len is_quotable text) text)
    (lexemes_at state 0 (drop (prefix_len is_quotable text) text))
quotable_run state text quoted =
    plain_run is_quotable state (λ c rest plain. quotable_step state c rest quoted plain) text

-- octets that stand for themselves, as lexemes
abbrev bare_lexemes : List ℕ → List Lexeme
bare_lexemes octets = map (λ c. Octet (record { octet = c; escaped = false })) octets

with_bare-ok : (octets : List ℕ) (lexemes : List Lexeme)
    → with_bare octets (Ok lexemes) ≡ Ok (bare_lexemes octets ++ lexemes)
with_bare-ok [] lexemes = refl
with_bare-ok (c ∷ octets) lexemes =
    ap (with_front (Octet (record { octet = c; escaped = false }))) (with_bare-ok octets lexemes)

with_bare-err : (octets : List ℕ) (fault : ScanError) → with_bare octets (Err fault) ≡ Err fault
with_bare-err [] fault = refl
with_bare-err (c ∷ octets) fault =
    ap (with_front (Octet (record { octet = c; escaped = false }))) (with_bare-err octets fault)

-- they have no fault
pub fault_of-with_bare : (octets : List ℕ) (answer : Result (List Lexeme) ScanError)
    → fault_of (with_bare octets answer) ≡ fault_of answer
fault_of-with_bare octets (Ok lexemes) = ap fault_of (with_bare-ok octets lexemes)
fault_of-with_bare octets (Err fault) = ap fault_of (with_bare-err octets fault)

token_groups-bare : (octets : List ℕ) (token : List Symbol) (lexemes : List Lexeme)
    → token_groups (Some token) (bare_lexemes octets ++ lexemes)
    ≡ token_groups (Some (token ++ bare_symbols octets)) lexemes
token_groups-bare [] token lexemes =
    ap (λ t. token_groups (Some t) lexemes) (sym (append-nil token))
token_groups-bare (c ∷ octets) token lexemes =
    let symbol : Symbol = record { octet = c; escaped = false } in
    token_groups-bare octets (token ++ symbol ∷ []) lexemes
    ∙ ap (λ t. token_groups (Some t) lexemes)
    (append_assoc token (symbol ∷ []) (bare_symbols octets))

-- octets that stand for themselves are taken from a text without a fault
pub record TakesBare (octets : List ℕ) (before after : Result (List Lexeme) ScanError)
    : Type 0 where
  pub sound : fault_of after ≡ None
  pub symbols : GoesOnWith octets (found_in before) (found_in after)
  pub no_longer : length (found_in after) ≤ length (found_in before)

pub takes_bare : (octets : List ℕ) (before after : Result (List Lexeme) ScanError)
    → before ≡ with_bare octets after → fault_of before ≡ None → TakesBare octets before after
takes_bare octets before (Ok lexemes) is sound =
    let found : found_in before ≡ bare_lexemes octets ++ lexemes =
    ap (λ (r : Result (List Lexeme) ScanError). found_in r) (is ∙ with_bare-ok octets lexemes) in
    record {
      sound = refl;
      symbols = λ token.
          ap (token_groups (Some token)) found ∙ token_groups-bare octets token lexemes;
      no_longer = omega (
        arith,
        ap length found,
        length-append (bare_lexemes octets) lexemes,
      );
    }
takes_bare octets before (Err fault) is sound =
    let both = sym sound ∙ ap fault_of is ∙ fault_of-with_bare octets (Err fault) in
    absurd cc

-- ---- their octets

octets_of-bare : (octets : List ℕ) → octets_of (bare_symbols octets) ≡ octets
octets_of-bare [] = refl
octets_of-bare (c ∷ octets) = ap (λ (t : List ℕ). c ∷ t) (octets_of-bare octets)

octets_of-append : (token more : List Symbol)
    → octets_of (token ++ more) ≡ octets_of token ++ octets_of more
octets_of-append [] more = refl
octets_of-append (symbol ∷ token) more =
    ap (λ (t : List ℕ). symbol.octet ∷ t) (octets_of-append token more)

-- what is appended of a token so far
pub record IsAppending (old now : List Lexeme) (before octets : List ℕ) : Type 0 where
  pub token : List Symbol
  pub read : token_groups (Some []) old ≡ token_groups (Some token) now
  pub appended : octets ≡ before ++ octets_of token

pub appending-none : (lexemes : List Lexeme) (before : List ℕ)
    → IsAppending lexemes lexemes before before
appending-none lexemes before =
    record { token = []; read = refl; appended = sym (append-nil before) }

pub appending-bare : (old now next : List Lexeme) (before octets bare : List ℕ)
    → IsAppending old now before octets → GoesOnWith bare now next
    → IsAppending old next before (octets ++ bare)
appending-bare old now next before octets bare so_far goes =
    record {
      token = so_far.token ++ bare_symbols bare;
      read = so_far.read ∙ goes so_far.token;
      appended = ap (λ (t : List ℕ). t ++ bare) so_far.appended
          ∙ append_assoc before (octets_of so_far.token) bare
          ∙ ap (λ (t : List ℕ). before ++ t)
          (ap (λ (t : List ℕ). octets_of so_far.token ++ t) (sym (octets_of-bare bare))
          ∙ sym (octets_of-append so_far.token (bare_symbols bare)));
    }

pub appending-symbol : (old now next : List Lexeme) (before octets : List ℕ) (symbol : Symbol)
    → IsAppending old now before octets → GoesOn (Some symbol) now next
    → IsAppending old next before (octets ++ symbol.octet ∷ [])
appending-symbol old now next before octets symbol so_far goes =
    record {
      token = so_far.token ++ symbol ∷ [];
      read = so_far.read ∙ goes so_far.token;
      appended = ap (λ (t : List ℕ). t ++ symbol.octet ∷ []) so_far.appended
          ∙ append_assoc before (octets_of so_far.token) (symbol.octet ∷ [])
          ∙ ap (λ (t : List ℕ). before ++ t)
          (sym (octets_of-append so_far.token (symbol ∷ [])));
    }

pub appending-done : (old now next : List Lexeme) (before octets : List ℕ)
    → IsAppending old now before octets → GoesOn None now next
    → AppendsToken old next before octets
appending-done old now next before octets so_far ends =
    record {
      token = so_far.token;
      passed = so_far.read ∙ ends so_far.token;
      appended = so_far.appended;
    }
