-- Tokens spell the same map at any place of an entry, and in any order.
use Rattle.std.proofs.Common.{◌≡◌, ℕ, ◌+◌, true, false, cond, List, [], ◌∷◌, ◌++◌, drop, Result, Ok, Err, refl, ap, subst, ◌∙◌}
use Rattle.svcb_spec.specs.Params.{Pairs}
use Rattle.svcb_spec.specs.Values.{Value, key_of}
use Rattle.text_spec.specs.declared.errors.ScanError.{ScanError}
use Rattle.text_spec.specs.declared.errors.ScanError.TheVariants.{DuplicateKey, MandatoryMissing}
use Rattle.text_spec.specs.declared.lexeme.Symbol.{Symbol}
use Rattle.text_spec.specs.Scanning.{Scan, Scans, Scanned, Answers, octets_of, scan_then, done, refused}
use Rattle.svcb_spec.specs.ParamTexts.{spells, has_key, are_mandatory_there, map_of, values_at, params_of, params}
use Rattle.svcb_laws.proofs.TokenOrders.{any_order}
use Rattle.svcb_params.specs.Scanned.{AnswersInAnyOrder}

abbrev after_token : List Value → List (List Symbol) → ℕ → Result Value ScanError
    → Scanned (List Value)
after_token before tokens place (Err fault) = refused fault place
after_token before tokens place (Ok value) =
    cond (has_key before (key_of value)) (refused DuplicateKey place)
    (values_at (before ++ value ∷ []) tokens (place + 1))

values_anywhere : (before : List Value) (tokens : List (List Symbol)) (place place' : ℕ)
    → (values_at before tokens place).outcome ≡ (values_at before tokens place').outcome
values_anywhere before [] place place' = refl
values_anywhere before (token ∷ tokens) place place' =
    elim (spells (octets_of token)) as
    (λ spelled. (after_token before tokens place spelled).outcome
    ≡ (after_token before tokens place' spelled).outcome) [
      | Err fault ↦ refl
      | Ok value ↦
          elim (has_key before (key_of value)) as
          (λ old. (cond old (refused DuplicateKey place)
          (values_at (before ++ value ∷ []) tokens (place + 1))).outcome
          ≡ (cond old (refused DuplicateKey place')
          (values_at (before ++ value ∷ []) tokens (place' + 1))).outcome) [
            | true ↦ refl
            | false ↦ values_anywhere (before ++ value ∷ []) tokens (place + 1) (place' + 1)
          ]
    ]

abbrev made_of : List Value → ℕ → Scanned Pairs
made_of values end =
    cond (are_mandatory_there values) (done (map_of values) end) (refused MandatoryMissing end)

made_anywhere : (read : Result (List Value) ScanError) (end end' : ℕ)
    → (scan_then (record { outcome = read; place = end }) made_of).outcome
    ≡ (scan_then (record { outcome = read; place = end' }) made_of).outcome
made_anywhere (Err fault) end end' = refl
made_anywhere (Ok values) end end' =
    elim (are_mandatory_there values) as
    (λ there. (cond there (done (map_of values) end) (refused MandatoryMissing end)).outcome
    ≡ (cond there (done (map_of values) end') (refused MandatoryMissing end')).outcome)
    [ true ↦ refl | false ↦ refl ]

params_anywhere : (tokens : List (List Symbol)) (place place' : ℕ)
    → (params_of tokens place).outcome ≡ (params_of tokens place').outcome
params_anywhere tokens place place' =
    let here = values_at [] tokens place in
    let there = values_at [] tokens place' in
    made_anywhere here.outcome here.place there.place
    ∙ ap (λ (read : Result (List Value) ScanError).
    (scan_then (record { outcome = read; place = there.place }) made_of).outcome)
    (values_anywhere [] tokens place place')

-- a call that scans all tokens left answers the map that they spell in another order
pub scanned_in_any_order : (before after : Scan) (result : Result Pairs ScanError)
    → Scans (λ pairs. pairs) params before after result → AnswersInAnyOrder before result
scanned_in_any_order before after result scanned tokens pairs place end spelled same =
    let left = drop before.taken before.tokens in
    let first : params_of tokens 0 ≡ done pairs (params_of tokens 0).place =
    ap (λ (outcome : Result Pairs ScanError). let there : Scanned Pairs = record
    { outcome = outcome; place = (params_of tokens 0).place } in there)
    (params_anywhere tokens 0 place ∙ ap (λ (scanned : Scanned Pairs). scanned.outcome) spelled) in
    let there : params_of left 0 ≡ done pairs (params_of tokens 0).place =
    (any_order [] tokens left pairs (params_of tokens 0).place same first).1 in
    let is : (params before.tokens before.taken).outcome ≡ Ok pairs =
    params_anywhere left before.taken 0
    ∙ ap (λ (scanned : Scanned Pairs). scanned.outcome) there in
    subst (λ outcome. Answers (λ pairs. pairs) result outcome) is scanned.answer
