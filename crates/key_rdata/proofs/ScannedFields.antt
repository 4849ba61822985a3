-- What the scans of a number and of a key answer, and where they stop.
use Rattle.std.proofs.Common.{◌≡◌, ◌⊎◌, ◌∙◌, inl, inr, ℕ, ◌+◌, List, length, drop, Option, Some, None, Result, Ok, Err, refl, subst}
use Rattle.std.specs.List.{flat_map}
use Rattle.text_spec.specs.declared.errors.ScanError.{ScanError}
use Rattle.text_spec.specs.declared.errors.ScanError.TheVariants.{BadNumber, BadBase64, MissingKey, UnknownGateway}
use Rattle.registry.specs.Texts.{spelled_number}
use Rattle.text_spec.specs.Encodings.{base64_of}
use Rattle.text_spec.specs.Scanning.{Scan, Scanned, Scans, octets_of, done, refused, at_token, next_token, by_octets}
use Rattle.text_spec.specs.Rows.{number_below, rest_base64}

-- ---- a number

behind_token : (place : ℕ) (answer : Result ℕ ScanError) (n : ℕ)
    → (at_token place answer).outcome ≡ Ok n → (at_token place answer).place ≡ place + 1
behind_token place (Ok m) n is = refl
behind_token place (Err fault) n is = absurd cc

-- a number takes one token
pub takes_one : (old new : Scan) (n : ℕ)
    → Scans {T = ℕ} (λ number. number) (number_below 256) old new (Ok n) → new.taken ≡ old.taken + 1
takes_one old new n scans =
    scans.place ∙ behind_token old.taken
    (next_token (by_octets (spelled_number 256) BadNumber) old.tokens old.taken) n scans.answer

-- ---- a key

-- what is scanned, by what the octets of all tokens left are in base64
abbrev key_outcome : Option (List ℕ) → ℕ → ℕ → Scanned (List ℕ)
key_outcome found place end = elim found [ None ↦ refused BadBase64 place | Some key ↦ done key end ]

ends : (found : Option (List ℕ)) (place end : ℕ) (key : List ℕ)
    → (key_outcome found place end).outcome ≡ Ok key → (key_outcome found place end).place ≡ end
ends None place end key is = absurd cc
ends (Some other) place end key is = refl

has_no : {P : Type 0} (found : Option (List ℕ)) (place end : ℕ) (fault : ScanError)
    → (fault ≡ MissingKey) ⊎ (fault ≡ UnknownGateway)
    → (key_outcome found place end).outcome ≡ Err fault → P
has_no None place end fault (inl other) is = absurd cc
has_no None place end fault (inr other) is = absurd cc
has_no (Some key) place end fault other is = absurd cc

abbrev key_in : Scan → Option (List ℕ)
key_in old = base64_of (flat_map octets_of (drop old.taken old.tokens))

-- a key takes all tokens
pub takes_all : (old new : Scan) (key : List ℕ)
    → Scans {T = List ℕ} (λ octets. octets) rest_base64 old new (Ok key)
    → new.taken ≡ length old.tokens
takes_all old new key scans =
    scans.place ∙ ends (key_in old) old.taken (length old.tokens) key scans.answer

-- It is refused for its text alone.
pub not_missing : {P : Type 0} (old new : Scan) (fault : ScanError) → fault ≡ MissingKey
    → Scans {T = List ℕ} (λ octets. octets) rest_base64 old new (Err fault) → P
not_missing old new fault is scans =
    let told = subst (λ f. Scans {T = List ℕ} (λ octets. octets) rest_base64 old new (Err f)) is
    scans in
    has_no (key_in old) old.taken (length old.tokens) MissingKey (inl refl) told.answer

pub not_unknown : {P : Type 0} (old new : Scan) (fault : ScanError) → fault ≡ UnknownGateway
    → Scans {T = List ℕ} (λ octets. octets) rest_base64 old new (Err fault) → P
not_unknown old new fault is scans =
    let told = subst (λ f. Scans {T = List ℕ} (λ octets. octets) rest_base64 old new (Err f)) is
    scans in
    has_no (key_in old) old.taken (length old.tokens) UnknownGateway (inr refl) told.answer
