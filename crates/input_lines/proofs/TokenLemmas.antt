-- Facts on texts with exactly one token, and on what a text is scanned as.
use Rattle.std.proofs.Common.{◌≡◌, ℕ, ◌<◌, List, [], ◌∷◌, length, Option, Some, None, Result, Ok, Err, refl, sym, ap, subst, ◌∙◌, arith}
use Rattle.std.specs.Result.{result_ok}
use Rattle.text_spec.specs.declared.errors.ScanError.{ScanError}
use Rattle.text_spec.specs.declared.errors.ScanError.TheVariants.{NoMemory}
use Rattle.text_spec.specs.declared.lexeme.Symbol.{Symbol}
use Rattle.text_spec.specs.Scanning.{Scan, Scans, Scanning, Answers, one, at_token}
use Rattle.text_spec.specs.Tokens.{text_fault, tokens_in}
use Rattle.input_lines.specs.Options.{◌>>=◌}
use Rattle.input_lines.specs.Tokens.{entry_scanned, only_one, lone, ReadsAs}

-- a refusal is right where there is nothing to read
pub refused-none : {X Y : Type 0} (view : X → Y) (fault : ScanError) (given : Option Y)
    → given ≡ None
    → ReadsAs view (Err fault) given
refused-none view NoMemory given none = tt
refused-none view fault given none = none

-- no token is taken of a text's
abbrev pub before : List ℕ → Scan
before line = record { tokens = tokens_in line; taken = 0 }

-- ---- what scanning one token answers

token-ok : {V : Type 0} (meant : Result V ScanError) (x : V) → (at_token 0 meant).outcome ≡ Ok x
    → result_ok meant ≡ Some x
token-ok (Ok y) x is = ap result_ok is
token-ok (Err fault) x is = absurd cc

token-taken : {V : Type 0} (meant : Result V ScanError) (x : V)
    → (at_token 0 meant).outcome ≡ Ok x
    → (at_token 0 meant).place ≡ 1
token-taken (Ok y) x is = refl
token-taken (Err fault) x is = absurd cc

token-refused : {V : Type 0} (meant : Result V ScanError) (fault : ScanError)
    → (at_token 0 meant).outcome ≡ Err fault → result_ok meant ≡ None
token-refused (Ok x) fault is = absurd cc
token-refused (Err other) fault is = refl

-- ---- the only token

module _ {X V : Type 0} (view : X → V) (meaning : List Symbol → Result V ScanError) where
  -- what the only token means
  abbrev lone_meaning : List (List Symbol) → Option V
  lone_meaning tokens = only_one tokens >>= λ token. result_ok (meaning token)

  -- a text without a fault has the meaning of its only token
  lone-is : (line : List ℕ) → text_fault line ≡ None
      → lone meaning line ≡ lone_meaning (tokens_in line)
  lone-is line sound =
      ap (λ (fault : Option ScanError).
      elim fault [ None ↦ Some (tokens_in line) | Some _ ↦ None ]
      >>= only_one
      >>= λ token. result_ok (meaning token)) sound

  -- what scanning the first token leaves and answers
  abbrev FirstScanned : List (List Symbol) → Scan → Result X ScanError → Type 0
  FirstScanned tokens new result =
      Scans view (one meaning) (record { tokens = tokens; taken = 0 }) new result

  -- where none is left behind it, it is the only one
  lone-first : (tokens : List (List Symbol)) (new : Scan) (x : X)
      → FirstScanned tokens new (Ok x)
      → new.taken ≡ length new.tokens → lone_meaning tokens ≡ Some (view x)
  lone-first [] new x scans all = let both = scans.answer in absurd cc
  lone-first (token ∷ []) new x scans all = token-ok (meaning token) (view x) scans.answer
  lone-first (token ∷ next ∷ more) new x scans all =
      let taken : new.taken ≡ 1 = scans.place ∙ token-taken (meaning token) (view x) scans.answer
      in absurd (omega (arith, taken, all, ap length scans.tokens))

  -- where one is left, there is no only one
  lone-more : (tokens : List (List Symbol)) (new : Scan) (x : X)
      → FirstScanned tokens new (Ok x)
      → new.taken < length new.tokens → lone_meaning tokens ≡ None
  lone-more [] new x scans left = refl
  lone-more (token ∷ []) new x scans left =
      let taken : new.taken ≡ 1 = scans.place ∙ token-taken (meaning token) (view x) scans.answer
      in absurd (omega (arith, taken, left, ap length scans.tokens))
  lone-more (token ∷ next ∷ more) new x scans left = refl

  -- nor is there one where the first is refused
  lone-refused : (tokens : List (List Symbol)) (new : Scan) (fault : ScanError)
      → FirstScanned tokens new (Err fault)
      → ReadsAs view (Err fault) (lone_meaning tokens)
  lone-refused tokens new NoMemory scans = tt
  lone-refused [] new fault scans = refl
  lone-refused (token ∷ []) new fault scans = token-refused (meaning token) fault scans.answer
  lone-refused (token ∷ next ∷ more) new fault scans = refl

  module _ (line : List ℕ) (old new : Scan) (sound : text_fault line ≡ None)
      (begins : old ≡ before line) where
    abbrev Read : Result X ScanError → Type 0
    Read result = Scans view (one meaning) old new result

    first : (result : Result X ScanError) → Read result
        → FirstScanned (tokens_in line) new result
    first result read =
        subst (λ (s : Scan). Scans view (one meaning) s new result) begins read

    pub lone-read : (x : X) → Read (Ok x) → new.taken ≡ length new.tokens
        → lone meaning line ≡ Some (view x)
    lone-read x read all =
        lone-is line sound ∙ lone-first (tokens_in line) new x (first (Ok x) read) all

    pub lone-other : (x : X) → Read (Ok x) → new.taken < length new.tokens
        → lone meaning line ≡ None
    lone-other x read left =
        lone-is line sound ∙ lone-more (tokens_in line) new x (first (Ok x) read) left

    pub lone-none : (fault : ScanError) → Read (Err fault)
        → ReadsAs view (Err fault) (lone meaning line)
    lone-none fault read =
        rw (lone-is line sound)
        (lone-refused (tokens_in line) new fault (first (Err fault) read))

-- ---- whole entries

-- a call answers what an entry without a fault is scanned as
pub entry_answers : {X Y : Type 0} (view : X → Y) (scanning : Scanning Y) (text : List ℕ)
    (result : Result X ScanError) → text_fault text ≡ None
    → Answers view result (scanning (tokens_in text) 0).outcome
    → Answers view result (entry_scanned scanning text)
entry_answers {Y = Y} view scanning text result sound =
    subst (Answers view result)
    (sym (ap (λ (fault : Option ScanError). elim fault
    [ None ↦ (scanning (tokens_in text) 0).outcome | Some f ↦ Err f ]) sound))
