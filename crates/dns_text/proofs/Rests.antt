-- The octets of the tokens that are left.
use Rattle.std.proofs.Common.{◌≡◌, ℕ, zero, suc, ◌+◌, ◌<◌, ◌≤◌, true, Option, Some, None, Result, Ok, Err, List, [], ◌∷◌, ◌++◌, length, drop, is_ok, cond, refl, sym, ap, subst, ◌∙◌, add-one, append_assoc, arith}
use Rattle.std.specs.Prelude.{nat_lt}
use Rattle.std.specs.List.{flat_map}
use Rattle.std.specs.Option.{ok_or}
use borrow.Author.Tests.{ltb-true}
use Rattle.text_spec.specs.declared.errors.ScanError.{ScanError}
use Rattle.text_spec.specs.declared.errors.ScanError.TheVariants.{NoMemory}
use Rattle.text_spec.specs.declared.lexeme.Symbol.{Symbol}
use Rattle.text_spec.specs.Scanning.{Scan, Scans, Answers, StandsAt, Scanned, octets_of, done, refused, rest_by, at_token, next_token, one, any_octets}
use Rattle.text_spec.specs.Rows.{rest_octets}
use Rattle.text_spec.specs.Pieces.{token_groups}
use Rattle.text_spec.specs.declared.lexeme.Lexeme.{Lexeme}
use Rattle.std.proofs.lemmas.List.{append-nil, length-drop}
use Rattle.dns_text.specs.Reading.{AppendsToken, BeginsToken}
use Rattle.dns_text.proofs.NextTokens.{grouped-begins, is_next, more_left}

-- a token that was taken is the first of those that were left
next-octets : (tokens : List (List Symbol)) (n : ℕ) (next : List ℕ)
    → next_token any_octets tokens n ≡ Ok next
    → flat_map octets_of (drop n tokens) ≡ next ++ flat_map octets_of (drop (suc n) tokens)
next-octets [] zero next is = absurd cc
next-octets [] (suc n) next is = absurd cc
next-octets (token ∷ tokens) zero next is =
    let same : octets_of token ≡ next = cc in
    ap (λ (octets : List ℕ). octets ++ flat_map octets_of tokens) same
next-octets (token ∷ tokens) (suc n) next is = next-octets tokens n next is

pub record IsTaken {V : Type 0} (place : ℕ) (r : Result V ScanError) (x : V) : Type 0 where
  pub outcome : r ≡ Ok x
  pub behind : (at_token place r).place ≡ place + 1

-- an Ok stands behind its token
pub taken_token : {V : Type 0} (place : ℕ) (r : Result V ScanError) (x : V)
    → (at_token place r).outcome ≡ Ok x → IsTaken place r x
taken_token place (Ok y) x is = record { outcome = is; behind = refl }
taken_token place (Err fault) x is = absurd cc

-- the octets of a token that was taken stand before those of the tokens left
pub octets-next : (tokens : List (List Symbol)) (n : ℕ) (next octets : List ℕ)
    → (one any_octets tokens n).outcome ≡ Ok next
    → (octets ++ next) ++ flat_map octets_of (drop (n + 1) tokens)
    ≡ octets ++ flat_map octets_of (drop n tokens)
octets-next tokens n next octets is =
    let first = next-octets tokens n next
    (taken_token n (next_token any_octets tokens n) next is).outcome in
    append_assoc octets next _
    ∙ ap (λ (left : List ℕ). octets ++ left)
    (ap (λ (k : ℕ). next ++ flat_map octets_of (drop k tokens)) (add-one n) ∙ sym first)

-- the octets of the tokens that were taken since `began`
pub record AreJoined (began now : Scan) (octets : List ℕ) : Type 0 where
  pub tokens : now.tokens ≡ began.tokens
  pub further : began.taken ≤ now.taken
  pub within : now.taken ≤ length now.tokens
  pub joined : octets ++ flat_map octets_of (drop now.taken now.tokens)
      ≡ flat_map octets_of (drop began.taken began.tokens)

-- and those of one token more
pub joined-next : (began before after : Scan) (octets next : List ℕ)
    → AreJoined began before octets → nat_lt before.taken (length before.tokens) ≡ true
    → Scans {T = List ℕ} (λ octets. octets) (one any_octets) before after (Ok next)
    → AreJoined began after (octets ++ next)
joined-next began before after octets next joined left scanned =
    let taken : after.taken ≡ before.taken + 1 =
    scanned.place
    ∙ (taken_token before.taken (next_token any_octets before.tokens before.taken) next
    scanned.answer).behind in
    let more : before.taken < length before.tokens = ltb-true _ _ left in
    record {
      tokens = scanned.tokens ∙ joined.tokens;
      further = omega (arith, taken, joined.further);
      within = omega
          (arith, taken, more, ap (λ (tokens : List (List Symbol)). length tokens) scanned.tokens);
      joined = rw (taken, scanned.tokens)
          (octets-next before.tokens before.taken next octets scanned.answer ∙ joined.joined);
    }

-- where the scan of all tokens left ends, by what their joined octets mean
abbrev rest_end : {V : Type 0} → ScanError → ℕ → ℕ → Option V → Scanned V
rest_end fault place count None = refused fault place
rest_end fault place count (Some x) = done x count

rest_end-answer : {T V : Type 0} (view : T → V) (fault : ScanError) (place count : ℕ)
    (r : Option V) (outcome : Result T ScanError)
    → Answers view outcome (ok_or r fault)
    → Answers view outcome (rest_end fault place count r).outcome
rest_end-answer view fault place count None outcome answer = answer
rest_end-answer view fault place count (Some y) outcome answer = answer

rest_end-place : {T V : Type 0} (view : T → V) (fault : ScanError) (place count : ℕ) (r : Option V)
    (outcome : Result T ScanError)
    → Answers view outcome (ok_or r fault)
    → StandsAt outcome (rest_end fault place count r).place place
    (cond (is_ok outcome) count place)
rest_end-place view fault place count None (Ok x) answer = absurd cc
rest_end-place view fault place count (Some y) (Ok x) answer = refl
rest_end-place view fault place count r (Err NoMemory) answer = refl
rest_end-place view fault place count None (Err e) answer = refl
rest_end-place view fault place count (Some y) (Err e) answer = absurd cc

-- a call that read the joined octets scans the tokens left
pub rest_scan : {T V : Type 0} (view : T → V) (read : List ℕ → Option V) (fault : ScanError)
    (old mid new : Scan) (text : List ℕ) (outcome : Result T ScanError)
    → Scans {T = List ℕ} (λ octets. octets) rest_octets old mid (Ok text)
    → Answers view outcome (ok_or (read text) fault)
    → new ≡ record mid { taken = cond (is_ok outcome) mid.taken old.taken }
    → Scans view (rest_by read fault) old new outcome
rest_scan view read fault old mid new text outcome joined answer after =
    let whole = flat_map octets_of (drop old.taken old.tokens) in
    let count = length old.tokens in
    let same : text ≡ whole = cc in
    let means : Answers view outcome (ok_or (read whole) fault) =
    subst (λ (t : List ℕ). Answers view outcome (ok_or (read t) fault)) same answer in
    let taken : new.taken ≡ cond (is_ok outcome) count old.taken =
    ap (λ (s : Scan). s.taken) after
    ∙ ap (λ (k : ℕ). cond (is_ok outcome) k old.taken) joined.place in
    record {
      answer = rest_end-answer view fault old.taken count (read whole) outcome means;
      place = subst
          (λ (k : ℕ). StandsAt outcome (rest_end fault old.taken count (read whole)).place
          old.taken k) (sym taken)
          (rest_end-place view fault old.taken count (read whole) outcome means);
      tokens = ap (λ (s : Scan). s.tokens) after ∙ joined.tokens;
    }

-- ---- tokens that are read one behind the other

-- the tokens before this place are read into these octets, and these lexemes are left
pub record AreRead (tokens : List (List Symbol)) (began now : ℕ) (lexemes : List Lexeme)
    (octets : List ℕ) : Type 0 where
  pub left : token_groups None lexemes ≡ drop now tokens
  pub further : began ≤ now
  pub within : now ≤ length tokens
  pub joined : octets ++ flat_map octets_of (drop now tokens)
      ≡ flat_map octets_of (drop began tokens)

pub read_none : (tokens : List (List Symbol)) (began : ℕ) (lexemes : List Lexeme)
    → token_groups None lexemes ≡ drop began tokens → began ≤ length tokens
    → AreRead tokens began began lexemes []
read_none tokens began lexemes left within =
    record { left = left; further = omega arith; within = within; joined = refl }

-- where a token begins, one is left
pub read_more : (tokens : List (List Symbol)) (began now : ℕ) (lexemes found : List Lexeme)
    (octets : List ℕ) → AreRead tokens began now lexemes octets
    → token_groups None found ≡ token_groups None lexemes → BeginsToken found
    → now < length tokens
read_more tokens began now lexemes found octets are same begins =
    more_left found tokens now (sym (grouped-begins found begins) ∙ same ∙ are.left)

-- and is read
pub read_next : (tokens : List (List Symbol)) (began now : ℕ) (lexemes found behind : List Lexeme)
    (octets more : List ℕ) → AreRead tokens began now lexemes octets
    → token_groups None found ≡ token_groups None lexemes → BeginsToken found
    → AppendsToken found behind octets more → AreRead tokens began (now + 1) behind more
read_next tokens began now lexemes found behind octets more are same begins read =
    let first : drop now tokens ≡ read.token ∷ token_groups None behind =
    sym are.left ∙ sym same ∙ grouped-begins found begins ∙ read.passed in
    let next = is_next tokens now read.token (token_groups None behind) first in
    record {
      left = next.behind;
      further = omega (arith, are.further);
      within = omega (arith, next.more);
      joined =
          ap (λ (t : List ℕ). t ++ flat_map octets_of (drop (now + 1) tokens)) read.appended
          ∙ append_assoc octets (octets_of read.token) (flat_map octets_of (drop (now + 1) tokens))
          ∙ ap (λ (behind_it : List (List Symbol)). octets
          ++ (octets_of read.token ++ flat_map octets_of behind_it)) (sym next.behind)
          ∙ ap (λ (left : List (List Symbol)). octets ++ flat_map octets_of left) (sym first)
          ∙ are.joined;
    }

-- all tokens that were left are read
pub record AreAllRead (tokens : List (List Symbol)) (began now : ℕ) (octets : List ℕ)
    : Type 0 where
  pub end : now ≡ length tokens
  pub joined : octets ≡ flat_map octets_of (drop began tokens)

pub read_all : (tokens : List (List Symbol)) (began now : ℕ) (lexemes found : List Lexeme)
    (octets : List ℕ) → AreRead tokens began now lexemes octets
    → token_groups None found ≡ token_groups None lexemes → found ≡ []
    → AreAllRead tokens began now octets
read_all tokens began now lexemes found octets are same none =
    let left : [] ≡ drop now tokens = ap (token_groups None) (sym none) ∙ same ∙ are.left in
    record {
      end = omega (arith, are.within, ap length left, length-drop now tokens);
      joined = sym (append-nil octets)
          ∙ ap (λ (t : List (List Symbol)). octets ++ flat_map octets_of t) left ∙ are.joined;
    }
