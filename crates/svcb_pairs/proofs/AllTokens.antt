-- The values that the tokens taken so far spell, and what all tokens left are read as.
use Rattle.std.proofs.Common.{◌≡◌, ℕ, zero, suc, ◌+◌, ◌<◌, ◌≤◌, true, false, cond, List, [], ◌∷◌, ◌++◌, Result, Ok, Err, length, drop, refl, sym, ap, ap₂, subst, ◌∙◌, arith, add-one}
use Rattle.std.specs.Prelude.{nat_lt}
use Rattle.std.proofs.lemmas.Bool.Decides.{nat_tests}
use Rattle.svcb_spec.specs.Params.{Pairs, wire, pairs_wire}
use Rattle.svcb_spec.specs.Values.{Value}
use Rattle.svcb_spec.proofs.WireLaws.{wire-pairs}
use Rattle.svcb_pairs.specs.Parameters.{pairs_in, IsParameters}
use Rattle.svcb_pairs.proofs.Written.{is_written, written_pairs}
use Rattle.text_spec.specs.declared.errors.ScanError.{ScanError}
use Rattle.text_spec.specs.declared.errors.ScanError.TheVariants.{MandatoryMissing, NoMemory}
use Rattle.text_spec.specs.declared.lexeme.Symbol.{Symbol}
use Rattle.text_spec.specs.Scanning.{Scan, ScansPart, Scanned, Answers, StandsBehind, octets_of, next_token, scan_then, done, refused}
use Rattle.svcb_spec.specs.ParamTexts.{map_of, are_mandatory_there, values_at, params}
use Rattle.svcb_pairs.specs.Holding.{Entries, pairs_of, Holds, next_value, Kept, KeepsNext, has_mandatory}
use Rattle.svcb_pairs.proofs.MandatoryKeys.{mandatory-held}
use Rattle.svcb_pairs.proofs.NextTokens.{after_next, values_at-here}

-- what values make, where the tokens end
abbrev made_of : List Value → ℕ → Scanned Pairs
made_of values end =
    cond (are_mandatory_there values) (done (map_of values) end) (refused MandatoryMissing end)

-- The map holds values, behind which the tokens left are read as all tokens from the beginning are.
pub record SoFar (began now : Scan) (entries : Entries) : Type 0 where
  pub values : List Value
  pub holds : Holds values entries
  pub left : values_at [] (drop began.taken began.tokens) began.taken
      ≡ values_at values (drop now.taken now.tokens) now.taken
  pub tokens : now.tokens ≡ began.tokens
  pub further : began.taken ≤ now.taken

pub no_tokens : (began : Scan) (entries : Entries) → entries ≡ [] → SoFar began began entries
no_tokens began entries none = record {
  values = [];
  holds = subst (Holds []) (sym none)
      (record { pairs = refl; all = λ test. refl; keyed = tt; is_map = tt });
  left = refl;
  tokens = refl;
  further = omega arith;
}

module _ (began before after : Scan) (entries entries' : Entries)
    (so_far : SoFar began before entries)
    (some : nat_lt before.taken (length before.tokens) ≡ true) where
  abbrev read : Result Value ScanError
  read = next_token (λ token. next_value so_far.values (octets_of token)) before.tokens before.taken

  here : before.taken < length before.tokens
  here = grind (arith, nat_tests, some)

  stands : values_at [] (drop began.taken began.tokens) began.taken
      ≡ after_next so_far.values (drop (suc before.taken) before.tokens) before.taken read
  stands = so_far.left ∙ values_at-here so_far.values before.tokens before.taken before.taken here

  -- one token more
  pub so_far-next : {X : Type 0} {done : X} → KeepsNext before after entries entries' (Ok done)
      → SoFar began after entries'
  so_far-next keeps =
      let kept = keeps.kept so_far.values so_far.holds in
      let tokens : after.tokens ≡ before.tokens = ap (λ (scan : Scan). scan.tokens) keeps.place in
      let taken : after.taken ≡ before.taken + 1 = ap (λ (scan : Scan). scan.taken) keeps.place in
      record {
        values = so_far.values ++ kept.0 ∷ [];
        holds = kept.2;
        left = stands
            ∙ ap (after_next so_far.values (drop (suc before.taken) before.tokens) before.taken)
            kept.1
            ∙ ap (λ (n : ℕ). values_at (so_far.values ++ kept.0 ∷ []) (drop n before.tokens)
            (before.taken + 1)) (sym (add-one before.taken))
            ∙ ap₂ (λ (n : ℕ) (left : List (List Symbol)). values_at (so_far.values ++ kept.0 ∷ [])
            (drop n left) n) (sym taken) (sym tokens);
        tokens = tokens ∙ so_far.tokens;
        further = omega (arith, so_far.further, taken);
      }

  -- a token that is refused
  module _ {T : Type 0} (view : T → Pairs) where
    refused_here : (fault : ScanError) → read ≡ Err fault
        → params began.tokens began.taken ≡ refused fault before.taken
    refused_here fault is =
        ap (λ scanned. scan_then scanned made_of)
        (stands ∙ ap
        (after_next so_far.values (drop (suc before.taken) before.tokens) before.taken) is)

    answered : (X : Type 0) (fault : ScanError)
        → Kept {X = X} so_far.values read entries' (Err fault)
        → Answers view (Err fault) (params began.tokens began.taken).outcome
    answered X NoMemory kept = tt
    answered X fault kept =
        ap (λ (scanned : Scanned Pairs). scanned.outcome) (refused_here fault kept)

    placed : (X : Type 0) (fault : ScanError)
        → Kept {X = X} so_far.values read entries' (Err fault)
        → after.taken ≡ before.taken
        → StandsBehind {T = T} (Err fault) (params began.tokens began.taken).place began.taken
        after.taken
    placed X NoMemory kept taken = omega (arith, so_far.further, taken)
    placed X fault kept taken =
        taken ∙ sym (ap (λ (scanned : Scanned Pairs). scanned.place) (refused_here fault kept))

    pub so_far-refused : {X : Type 0} (fault : ScanError)
        → KeepsNext {X = X} before after entries entries' (Err fault)
        → ScansPart view params began after (Err fault)
    so_far-refused {X} fault keeps =
        let kept = keeps.kept so_far.values so_far.holds in
        record {
          answer = answered X fault kept;
          place = placed X fault kept (ap (λ (scan : Scan). scan.taken) keeps.place);
          tokens = ap (λ (scan : Scan). scan.tokens) keeps.place ∙ so_far.tokens;
        }

abbrev no_symbols : List (List Symbol)
no_symbols = []

drop_all : (tokens : List (List Symbol)) (n : ℕ) → length tokens ≤ n → drop n tokens ≡ []
drop_all [] n past = drop_none n
  where
    drop_none : (n : ℕ) → drop n (no_symbols) ≡ []
    drop_none zero = refl
    drop_none (suc n) = refl
drop_all (token ∷ tokens) zero past = absurd (omega (arith, past))
drop_all (token ∷ tokens) (suc n) past = drop_all tokens n (omega (arith, past))

-- all tokens are taken
module _ (began now : Scan) (entries : Entries) (so_far : SoFar began now entries)
    (none : nat_lt now.taken (length now.tokens) ≡ false) where
  past : length now.tokens ≤ now.taken
  past = grind (arith, nat_tests, none)

  all_read : params began.tokens began.taken
      ≡ cond (has_mandatory entries) (done (pairs_of entries) now.taken)
      (refused MandatoryMissing now.taken)
  all_read =
      ap (λ scanned. scan_then scanned made_of)
      (so_far.left
      ∙ ap (λ (left : List (List Symbol)). values_at so_far.values left now.taken)
      (drop_all now.tokens now.taken past))
      ∙ ap (λ b. cond b (done (map_of so_far.values) now.taken)
      (refused MandatoryMissing now.taken)) (mandatory-held so_far.values entries so_far.holds)
      ∙ ap (λ (pairs : Pairs). cond (has_mandatory entries) (done pairs now.taken)
      (refused MandatoryMissing now.taken)) (sym so_far.holds.pairs)

  module _ {T : Type 0} (view : T → Pairs) where
    -- memory is wanting
    pub all-without_memory : ScansPart view params began now (Err NoMemory)
    all-without_memory = record { answer = tt; place = so_far.further; tokens = so_far.tokens }

    -- a mandatory key is missing
    pub all-missing : has_mandatory entries ≡ false
        → ScansPart view params began now (Err MandatoryMissing)
    all-missing missing =
        let is : params began.tokens began.taken ≡ refused MandatoryMissing now.taken =
        all_read ∙ ap
        (λ b. cond b (done (pairs_of entries) now.taken) (refused MandatoryMissing now.taken))
        missing in
        record {
          answer = ap (λ (scanned : Scanned Pairs). scanned.outcome) is;
          place = sym (ap (λ (scanned : Scanned Pairs). scanned.place) is);
          tokens = so_far.tokens;
        }

  -- the octets of the map are parameters
  module _ (octets : List ℕ) (are : octets ≡ pairs_wire (pairs_of entries)) where
    is_wire : octets ≡ wire (pairs_of entries)
    is_wire = are ∙ sym (wire-pairs (pairs_of entries) so_far.holds.is_map)

    pub all-parameters : IsParameters octets
    all-parameters = is_written (pairs_of entries) octets so_far.holds.is_map is_wire

    pub all-read : has_mandatory entries ≡ true → ScansPart pairs_in params began now (Ok octets)
    all-read there =
        let is : params began.tokens began.taken ≡ done (pairs_of entries) now.taken =
        all_read ∙ ap
        (λ b. cond b (done (pairs_of entries) now.taken) (refused MandatoryMissing now.taken))
        there in
        record {
          answer = ap (λ (scanned : Scanned Pairs). scanned.outcome) is
              ∙ ap Ok (sym (written_pairs (pairs_of entries) octets so_far.holds.is_map is_wire));
          place = sym (ap (λ (scanned : Scanned Pairs). scanned.place) is);
          tokens = so_far.tokens;
        }
