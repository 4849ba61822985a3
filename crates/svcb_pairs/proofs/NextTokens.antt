-- The value that the next token adds.
use Rattle.std.proofs.Common.{◌≡◌, ℕ, zero, suc, ◌+◌, ◌<◌, Bool, true, false, cond, List, [], ◌∷◌, ◌++◌, Some, None, Result, Ok, Err, is_ok, length, drop, refl, sym, ap, ap₂, subst, ◌∙◌, arith}
use Rattle.std.specs.Prelude.{slice_get}
use Rattle.svcb_spec.specs.Values.{Value, key_of}
use Rattle.text_spec.specs.declared.errors.ScanError.{ScanError}
use Rattle.text_spec.specs.declared.errors.ScanError.TheVariants.{EndOfEntry, DuplicateKey}
use Rattle.text_spec.specs.declared.lexeme.Symbol.{Symbol}
use Rattle.text_spec.specs.Scanning.{Scan, Scans, Scanned, octets_of, at_token, next_token, one, any_octets, refused}
use Rattle.svcb_spec.specs.ListTexts.{◌>>=◌}
use Rattle.svcb_spec.specs.ParamTexts.{spells, has_key, values_at}
use Rattle.svcb_pairs.specs.Holding.{Entries, new_value, next_value, Kept, KeepsToken, KeepsNext}

-- ---- the next token

-- what a token's octets mean, where there is a token
record IsRead (tokens : List (List Symbol)) (place : ℕ) (octets : List ℕ) : Type 0 where
  means : (f : List ℕ → Result Value ScanError)
      → next_token (λ token. f (octets_of token)) tokens place ≡ f octets
  behind : (one any_octets tokens place).place ≡ place + 1

same_octets : (a b : List ℕ) → ◌≡◌ {A = Result (List ℕ) ScanError} (Ok a) (Ok b) → a ≡ b
same_octets a b is = cc

no_octets : {A : Type 0} (fault : ScanError) (x : A) → Err fault ≡ Ok x → ⊥
no_octets fault x is = cc

is_read : (tokens : List (List Symbol)) (place : ℕ) (octets : List ℕ)
    → (one any_octets tokens place).outcome ≡ Ok octets → IsRead tokens place octets
is_read tokens place octets read =
    record { means = λ f. (both f).0; behind = (both (λ octets. Err EndOfEntry)).1 }
  where
    both : (f : List ℕ → Result Value ScanError)
        → (next_token (λ token. f (octets_of token)) tokens place ≡ f octets)
        × ((one any_octets tokens place).place ≡ place + 1)
    both f =
        elim (slice_get tokens place) as
        (λ found. (at_token place
        (elim found [ None ↦ Err EndOfEntry | Some token ↦ any_octets token ])).outcome
        ≡ Ok octets
        → ((elim found [ None ↦ Err EndOfEntry | Some token ↦ f (octets_of token) ]) ≡ f octets)
        × ((at_token place
        (elim found [ None ↦ Err EndOfEntry | Some token ↦ any_octets token ])).place
        ≡ place + 1)) [
          | None ↦ λ is. absurd (no_octets EndOfEntry octets is)
          | Some token ↦ λ is. (ap f (same_octets (octets_of token) octets is), refl)
        ] read

pub next_kept : {X : Type 0} (old mid new : Scan) (octets : List ℕ) (entries entries' : Entries)
    (result : Result X ScanError)
    → Scans {T = List ℕ} (λ octets. octets) (one any_octets) old mid (Ok octets)
    → KeepsToken octets entries entries' result
    → new ≡ record mid { taken = cond (is_ok result) mid.taken old.taken }
    → KeepsNext old new entries entries' result
next_kept old mid new octets entries entries' result scanned keeps after =
    let read = is_read old.tokens old.taken octets scanned.answer in
    record {
      kept = λ before holds. subst (λ r. Kept before r entries' result)
          (sym (read.means (next_value before))) (keeps before holds);
      place = after
          ∙ ap₂ (λ (tokens : List (List Symbol)) (n : ℕ). let scan : Scan = record
          { tokens = tokens; taken = cond (is_ok result) n old.taken } in scan)
          scanned.tokens (scanned.place ∙ read.behind);
    }

-- ---- what the tokens left are read as

-- the next token, by what it adds
abbrev pub after_next : List Value → List (List Symbol) → ℕ → Result Value ScanError
    → Scanned (List Value)
after_next before tokens place (Err fault) = refused fault place
after_next before tokens place (Ok value) = values_at (before ++ value ∷ []) tokens (place + 1)

values_at-next : (before : List Value) (token : List Symbol) (tokens : List (List Symbol))
    (place : ℕ)
    → values_at before (token ∷ tokens) place
    ≡ after_next before tokens place (next_value before (octets_of token))
values_at-next before token tokens place = by_spelled (spells (octets_of token))
  where
    by_key : (value : Value) (old : Bool)
        → cond old (refused DuplicateKey place)
        (values_at (before ++ value ∷ []) tokens (place + 1))
        ≡ after_next before tokens place (cond old (Err DuplicateKey) (Ok value))
    by_key value true = refl
    by_key value false = refl

    by_spelled : (spelled : Result Value ScanError) → (elim spelled [
      | Err fault ↦ refused fault place
      | Ok value ↦ cond (has_key before (key_of value)) (refused DuplicateKey place)
          (values_at (before ++ value ∷ []) tokens (place + 1))
    ]) ≡ after_next before tokens place (spelled >>= new_value before)
    by_spelled (Err fault) = refl
    by_spelled (Ok value) = by_key value (has_key before (key_of value))

-- the tokens from a place on, by what the token there adds
pub values_at-here : (before : List Value) (tokens : List (List Symbol)) (n place : ℕ)
    → n < length tokens
    → values_at before (drop n tokens) place
    ≡ after_next before (drop (suc n) tokens) place
    (next_token (λ token. next_value before (octets_of token)) tokens n)
values_at-here before [] n place left = absurd (omega (arith, left))
values_at-here before (token ∷ tokens) zero place left = values_at-next before token tokens place
values_at-here before (token ∷ tokens) (suc n) place left =
    values_at-here before tokens n place (omega (arith, left))
