-- What scanning answers behind tokens that are known. Offered to the crates above: `one_taken` and
-- `rest_taken`.
use Rattle.std.proofs.Common.{◌≡◌, ℕ, ◌+◌, ◌≤◌, Bool, false, cond, List, [], ◌∷◌, ◌++◌, length, Option, Some, None, Result, Ok, Err, refl, sym, ap, ◌∙◌, arith, length-append, append_assoc}
use Rattle.std.proofs.Math.Seq.{drop-append_seam}
use Rattle.std.proofs.lemmas.Bool.Decides.{nat_tests}
use Rattle.std.specs.Prelude.{slice_get, nat_lt}
use Rattle.std.specs.List.{flat_map}
use Rattle.text_spec.specs.declared.errors.ScanError.{ScanError}
use Rattle.text_spec.specs.declared.errors.ScanError.TheVariants.{EndOfEntry}
use Rattle.text_spec.specs.declared.lexeme.Symbol.{Symbol}
use Rattle.text_spec.specs.Scanning.{octets_of, done, refused, at_token, one, rest_by, is_marked}

-- the token behind a front
token_at : (front behind : List (List Symbol)) (token : List Symbol)
    → slice_get (front ++ token ∷ behind) (length front) ≡ Some token
token_at [] behind token = refl
token_at (first ∷ front) behind token = token_at front behind token

-- a token that is taken is the last of the front
pub moved_on : (front behind : List (List Symbol)) (token : List Symbol)
    → front ++ token ∷ behind ≡ (front ++ token ∷ []) ++ behind
moved_on front behind token = sym (append_assoc front (token ∷ []) behind)

pub place_on : (front : List (List Symbol)) (token : List Symbol)
    → length front + 1 ≡ length (front ++ token ∷ [])
place_on front token = sym (length-append front (token ∷ []))

-- whether the marker stands behind a front
pub marked_behind : (front tokens : List (List Symbol))
    → is_marked (front ++ tokens) (length front) ≡ is_marked tokens 0
marked_behind [] tokens = refl
marked_behind (first ∷ front) tokens = marked_behind front tokens

module _ {V : Type 0} where
  -- a token that means something is taken
  pub one_taken : (meaning : List Symbol → Result V ScanError) (front behind : List (List Symbol))
      (token : List Symbol) (x : V) → meaning token ≡ Ok x
      → one meaning (front ++ token ∷ behind) (length front) ≡ done x (length front + 1)
  one_taken meaning front behind token x means =
      ap (λ (found : Option (List Symbol)). at_token (length front)
      (elim found [ None ↦ Err EndOfEntry | Some token ↦ meaning token ]))
      (token_at front behind token)
      ∙ ap (at_token (length front)) means

  -- all tokens behind a front are taken, where they mean something
  pub rest_taken : (read : List ℕ → Option V) (fault : ScanError)
      (front behind : List (List Symbol)) (x : V) → read (flat_map octets_of behind) ≡ Some x
      → rest_by read fault (front ++ behind) (length front) ≡ done x (length (front ++ behind))
  rest_taken read fault front behind x means =
      ap (λ (found : Option V). elim found [
        | None ↦ refused fault (length front)
        | Some x ↦ done x (length (front ++ behind))
      ])
      (ap (λ (left : List (List Symbol)). read (flat_map octets_of left))
      (drop-append_seam front behind) ∙ means)

  -- what is within the length is not refused
  pub within : (len end : ℕ) (fault : ScanError) (x : V) → len ≤ 65535
      → cond (nat_lt 65535 len) (refused fault end) (done x end) ≡ done x end
  within len end fault x fits =
      let few : nat_lt 65535 len ≡ false = grind (arith, nat_tests) in
      ap (λ (b : Bool). cond b (refused fault end) (done x end)) few
