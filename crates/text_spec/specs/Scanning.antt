-- What scanning the tokens of an entry answers, and where it stops.
use Rattle.std.specs.Prelude.{◌≡◌, ◌≤◌, ℕ, ◌+◌, Bool, false, ◌&&◌, ◌==◌, Option, Some, None, Result, Ok, Err, List, [], ◌∷◌, length, map, drop, slice_get}
use Rattle.std.specs.Option.{ok_or}
use Rattle.std.specs.List.{flat_map}
use Rattle.text_spec.specs.declared.errors.ScanError.{ScanError}
use Rattle.text_spec.specs.declared.errors.ScanError.TheVariants as errors
use Rattle.text_spec.specs.declared.lexeme.Symbol.{Symbol}

-- the tokens of an entry, and how many of them are taken
pub record Scan : Type 0 where
  pub tokens : List (List Symbol)
  pub taken : ℕ

-- the octets of a token, escaped or not
abbrev pub octets_of : List Symbol → List ℕ
octets_of token = map (λ symbol. symbol.octet) token

-- what scanning answers, and how many of the entry's tokens are taken then
pub record Scanned (V : Type 0) : Type 0 where
  pub outcome : Result V ScanError
  pub place : ℕ

-- scanning from a place in a list of tokens
abbrev pub Scanning : Type 0 → Type 0
Scanning V = List (List Symbol) → ℕ → Scanned V

-- ---- what scanning is put together of

abbrev pub done : {V : Type 0} → V → ℕ → Scanned V
done x place = record { outcome = Ok x; place = place }

abbrev pub refused : {V : Type 0} → ScanError → ℕ → Scanned V
refused fault place = record { outcome = Err fault; place = place }

-- an answer for the token at a place: an Ok stands behind the token, a refusal before it
abbrev pub at_token : {V : Type 0} → ℕ → Result V ScanError → Scanned V
at_token place (Ok x) = done x (place + 1)
at_token place (Err fault) = refused fault place

-- what the next token means
abbrev pub next_token : {V : Type 0} → (List Symbol → Result V ScanError) → List (List Symbol) → ℕ
    → Result V ScanError
next_token meaning tokens place =
    elim (slice_get tokens place) [ None ↦ Err errors.EndOfEntry | Some token ↦ meaning token ]

-- one token, by what it means
abbrev pub one : {V : Type 0} → (List Symbol → Result V ScanError) → Scanning V
one meaning tokens place = at_token place (next_token meaning tokens place)

-- all tokens left, joined: their octets mean something, or there is a fault, which stands before
-- the first of them
abbrev pub rest_by : {V : Type 0} → (List ℕ → Option V) → ScanError → Scanning V
rest_by read fault tokens place =
    elim (read (flat_map octets_of (drop place tokens))) [
      | None ↦ refused fault place
      | Some x ↦ done x (length tokens)
    ]

-- scanning, and then more from where it stopped
abbrev pub scan_then : {A B : Type 0} → Scanned A → (A → ℕ → Scanned B) → Scanned B
scan_then first next =
    elim first.outcome [ Err fault ↦ refused fault first.place | Ok x ↦ next x first.place ]

-- ---- what a token means

-- its octets
abbrev pub by_octets : {V : Type 0} → (List ℕ → Option V) → ScanError → List Symbol
    → Result V ScanError
by_octets read fault token = ok_or (read (octets_of token)) fault

abbrev pub any_octets : List Symbol → Result (List ℕ) ScanError
any_octets token = Ok (octets_of token)

-- whether it is the one escaped symbol `#`, which marks data of any type (RFC 3597, section 5)
abbrev pub is_marker : List Symbol → Bool
is_marker [] = false
is_marker (symbol ∷ []) = symbol.escaped && (symbol.octet == 35)
is_marker (symbol ∷ next ∷ symbols) = false

-- whether the next token is that
abbrev pub is_marked : List (List Symbol) → ℕ → Bool
is_marked tokens place =
    elim (slice_get tokens place) [ None ↦ false | Some token ↦ is_marker token ]

-- ---- what a call answers

-- A call answers as scanning does, seen by `view`. Only a failed allocation may stand in place of
-- an answer.
abbrev pub Answers : {T V : Type 0} → (T → V) → Result T ScanError → Result V ScanError → Type 0
Answers view (Ok x) outcome = outcome ≡ Ok (view x)
Answers view (Err errors.NoMemory) outcome = Unit {0}
Answers view (Err fault) outcome = outcome ≡ Err fault

-- The scanner stands where scanning stops. Where an allocation failed, it stands where it began.
abbrev pub StandsAt : {T : Type 0} → Result T ScanError → ℕ → ℕ → ℕ → Type 0
StandsAt (Ok x) place before after = after ≡ place
StandsAt (Err errors.NoMemory) place before after = after ≡ before
StandsAt (Err fault) place before after = after ≡ place

-- The same of a part of a scan: where an allocation failed, it goes no further back than it began.
abbrev pub StandsBehind : {T : Type 0} → Result T ScanError → ℕ → ℕ → ℕ → Type 0
StandsBehind (Ok x) place before after = after ≡ place
StandsBehind (Err errors.NoMemory) place before after = before ≤ after
StandsBehind (Err fault) place before after = after ≡ place

-- A call that scans: its answer, seen by `view`, and where the scanner stands then, are those of
-- `scanning` from where it stood before. The entry's tokens stay. Where an allocation failed, the
-- scanner stands where it stood.
pub record Scans {T V : Type 0} (view : T → V) (scanning : Scanning V) (old new : Scan)
    (result : Result T ScanError)
    : Type 0 where
  pub answer : Answers view result (scanning old.tokens old.taken).outcome
  pub place : StandsAt result (scanning old.tokens old.taken).place old.taken new.taken
  pub tokens : new.tokens ≡ old.tokens

-- a call that is a part of a scan: the same, but where an allocation failed, tokens may have been
-- taken
pub record ScansPart {T V : Type 0} (view : T → V) (scanning : Scanning V) (old new : Scan)
    (result : Result T ScanError) : Type 0 where
  pub answer : Answers view result (scanning old.tokens old.taken).outcome
  pub place : StandsBehind result (scanning old.tokens old.taken).place old.taken new.taken
  pub tokens : new.tokens ≡ old.tokens
