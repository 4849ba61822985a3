-- The next token of an entry.
use Rattle.std.proofs.Common.{◌≡◌, ℕ, true, false, ◌&&◌, is_some, zero, suc, ◌+◌, ◌<◌, ◌≤◌, Result, Err, Option, Some, None, List, [], ◌∷◌, ◌++◌, length, drop, refl, sym, ap, ◌∙◌, append_assoc, arith}
use Rattle.std.proofs.lemmas.Option.{slice_get_past}
use Rattle.std.specs.Prelude.{slice_get, ◌==◌}
use Rattle.std.proofs.lemmas.List.{append-nil, length-drop}
use Rattle.text_spec.specs.declared.errors.ScanError.{ScanError}
use Rattle.text_spec.specs.declared.errors.ScanError.TheVariants.{EndOfEntry}
use Rattle.text_spec.specs.declared.lexeme.Symbol.{Symbol}
use Rattle.text_spec.specs.declared.lexeme.Lexeme.{Lexeme}
use Rattle.text_spec.specs.declared.lexeme.Lexeme.TheVariants.{Octet, Quote, Gap}
use Rattle.text_spec.specs.Pieces.{token_groups}
use Rattle.text_spec.specs.Scanning.{next_token, is_marker, is_marked}
use Rattle.dns_text.specs.Reading.{BeginsToken, GoesOn}

-- a token is the next of a list, and these are left behind it
pub record IsNext {X : Type 0} (xs : List X) (n : ℕ) (x : X) (rest : List X) : Type 0 where
  pub here : slice_get xs n ≡ Some x
  pub behind : rest ≡ drop (n + 1) xs
  pub more : n < length xs

pub is_next : {X : Type 0} (xs : List X) (n : ℕ) (x : X) (rest : List X) → drop n xs ≡ x ∷ rest
    → IsNext xs n x rest
is_next [] zero x rest left = absurd cc
is_next [] (suc n) x rest left = absurd cc
is_next (y ∷ ys) zero x rest left = record { here = cc; behind = cc; more = omega arith }
is_next (y ∷ ys) (suc n) x rest left =
    let next = is_next ys n x rest left in
    let counted : suc (n + 1) ≡ suc n + 1 = omega arith in
    record {
      here = next.here;
      behind = next.behind ∙ ap (λ k. drop k (y ∷ ys)) counted;
      more = omega (arith, next.more);
    }

-- a place where a token begins is the beginning of one
pub grouped-begins : (lexemes : List Lexeme) → BeginsToken lexemes
    → token_groups None lexemes ≡ token_groups (Some []) lexemes
grouped-begins [] begins = absurd begins
grouped-begins (Gap ∷ lexemes) begins = absurd begins
grouped-begins (Quote ∷ lexemes) begins = refl
grouped-begins (Octet symbol ∷ lexemes) begins = refl

pub token_here : {V : Type 0} (meaning : List Symbol → Result V ScanError)
    (tokens : List (List Symbol)) (place : ℕ) (token : List Symbol)
    → slice_get tokens place ≡ Some token → next_token meaning tokens place ≡ meaning token
token_here meaning tokens place token here =
    ap (λ found. elim found [ None ↦ Err EndOfEntry | Some t ↦ meaning t ]) here

pub no_token : {V : Type 0} (meaning : List Symbol → Result V ScanError)
    (tokens : List (List Symbol)) (place : ℕ)
    → length tokens ≤ place → next_token meaning tokens place ≡ Err EndOfEntry
no_token meaning tokens place short =
    ap (λ found. elim found [ None ↦ Err EndOfEntry | Some t ↦ meaning t ])
    (slice_get_past tokens place short)

-- ---- tokens that are begun

begun_left : (token : List Symbol) (lexemes : List Lexeme)
    → 0 < length (token_groups (Some token) lexemes)
begun_left token [] = omega arith
begun_left token (Gap ∷ lexemes) = omega arith
begun_left token (Quote ∷ lexemes) = begun_left token lexemes
begun_left token (Octet symbol ∷ lexemes) = begun_left (token ++ symbol ∷ []) lexemes

-- where a token begins, one is left
pub more_left : (lexemes : List Lexeme) (tokens : List (List Symbol)) (place : ℕ)
    → token_groups (Some []) lexemes ≡ drop place tokens → place < length tokens
more_left lexemes tokens place left =
    omega (arith, begun_left [] lexemes, ap length left, length-drop place tokens)

-- a token that is begun goes on with more symbols, and others follow it
record GoesOnTo (token : List Symbol) (tokens : List (List Symbol)) : Type 0 where
  more : List Symbol
  others : List (List Symbol)
  is : tokens ≡ (token ++ more) ∷ others

goes_on : (token : List Symbol) (lexemes : List Lexeme)
    → GoesOnTo token (token_groups (Some token) lexemes)
goes_on token [] = record { more = []; others = []; is = ap (λ t. t ∷ []) (sym (append-nil token)) }
goes_on token (Gap ∷ lexemes) =
    record {
      more = [];
      others = token_groups None lexemes;
      is = ap (λ t. t ∷ token_groups None lexemes) (sym (append-nil token));
    }
goes_on token (Quote ∷ lexemes) = goes_on token lexemes
goes_on token (Octet symbol ∷ lexemes) =
    let on = goes_on (token ++ symbol ∷ []) lexemes in
    record {
      more = symbol ∷ on.more;
      others = on.others;
      is = on.is ∙ ap (λ t. t ∷ on.others) (append_assoc token (symbol ∷ []) on.more);
    }

-- ---- the marker

pub marked_as : (tokens : List (List Symbol)) (place : ℕ) (token : List Symbol)
    (others : List (List Symbol))
    → drop place tokens ≡ token ∷ others → is_marked tokens place ≡ is_marker token
marked_as tokens place token others left =
    ap (λ found. elim found [ None ↦ false | Some t ↦ is_marker t ])
    (is_next tokens place token others left).here

pub unmarked_end : (tokens : List (List Symbol)) (place : ℕ) → length tokens ≤ place
    → is_marked tokens place ≡ false
unmarked_end tokens place short =
    ap (λ found. elim found [ None ↦ false | Some t ↦ is_marker t ]) (slice_get_past tokens place short)

not_first : (symbol : Symbol) (more : List Symbol)
    → (symbol.escaped && (symbol.octet == 35)) ≡ false → is_marker (symbol ∷ more) ≡ false
not_first symbol [] other = other
not_first symbol (next ∷ more) other = refl

-- another symbol stands first
pub unmarked_first : (tokens : List (List Symbol)) (place : ℕ) (symbol : Symbol)
    (lexemes : List Lexeme)
    → token_groups (Some (symbol ∷ [])) lexemes ≡ drop place tokens
    → (symbol.escaped && (symbol.octet == 35)) ≡ false → is_marked tokens place ≡ false
unmarked_first tokens place symbol lexemes left other =
    let on = goes_on (symbol ∷ []) lexemes in
    marked_as tokens place (symbol ∷ on.more) on.others (sym left ∙ on.is)
    ∙ not_first symbol on.more other

-- a second symbol follows
pub unmarked_second : (tokens : List (List Symbol)) (place : ℕ) (symbol : Symbol)
    (second : Option Symbol) (old new : List Lexeme)
    → token_groups (Some (symbol ∷ [])) old ≡ drop place tokens → GoesOn second old new
    → is_some second ≡ true → is_marked tokens place ≡ false
unmarked_second tokens place symbol None old new left goes there = absurd cc
unmarked_second tokens place symbol (Some next) old new left goes there =
    let on = goes_on (symbol ∷ next ∷ []) new in
    marked_as tokens place (symbol ∷ next ∷ on.more) on.others
    (sym left ∙ goes (symbol ∷ []) ∙ on.is)

-- no second symbol follows
pub ends_alone : (tokens : List (List Symbol)) (place : ℕ) (symbol : Symbol)
    (second : Option Symbol) (old new : List Lexeme)
    → token_groups (Some (symbol ∷ [])) old ≡ drop place tokens → GoesOn second old new
    → is_some second ≡ false → drop place tokens ≡ (symbol ∷ []) ∷ token_groups None new
ends_alone tokens place symbol None old new left goes none = sym left ∙ goes (symbol ∷ [])
ends_alone tokens place symbol (Some next) old new left goes none = absurd cc
