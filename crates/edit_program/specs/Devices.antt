-- What a command does to the source and to the sink.
use Rattle.std.specs.Prelude.{◌≡◌, ℕ, ◌+◌, ◌≤◌, Bool, List, Option, Result, length, is_some, IfSome, MatchResult, OnOk}
use Rattle.std.specs.Bool.{OnTrue, OnFalse}
use Rattle.std.specs.Io.KnownBytes.{IsAtEnd}
use Rattle.devices.specs.Takes.{TakesInput}
use Rattle.devices.specs.declared.transfer.TheConstants.{MAX_INPUT}
use Rattle.input_lines.specs.Report.{Answer}
use Rattle.edit_program.specs.Run.{Performs}
use Rattle.edit_program.specs.RunErrors.{SourceCause, SinkCause, LastWrite}
use Rattle.edit_program.specs.declared.run_error.RunError.{RunError}

-- The source is left alone, or all that an input may have is taken of it, and at most one octet
-- beyond.
pub record Draws {S T : Type 0} (reads : Bool) (left : S → Option (List ℕ))
    (faults empty_reads : S → ℕ) (old new : S) (result : Result T RunError) : Type 0 where
  pub unread : OnFalse reads (new ≡ old)
  pub end : OnTrue reads (OnOk result (IfSome (left old)
      (λ bytes. length bytes ≤ MAX_INPUT → IsAtEnd (left new))))
  pub takes : TakesInput (left old) (left new) (MAX_INPUT + 1)
  -- the count of faults rises at a read fault alone
  pub count : MatchResult result
      (λ _. faults new ≡ faults old)
      (λ error. SourceCause error (faults old) (faults new))
  -- a read that gives no octet is the last
  pub last : empty_reads new ≤ empty_reads old + 1

-- The report of the answer is appended to the sink, or a prefix of it.
pub record Reports {K : Type 0} (held : K → Option (List ℕ)) (faults empty_writes : K → ℕ)
    (old new : K) (answer : Option Answer) (result : Result ℕ RunError) : Type 0 where
  pub performs : Performs result answer (held old) (held new)
  pub keeps_telling : is_some (held new) ≡ is_some (held old)
  -- the count of faults rises at a write fault alone
  pub count : MatchResult result
      (λ _. faults new ≡ faults old)
      (λ error. SinkCause error (faults old) (faults new))
  -- each write takes an octet, but for one that fails, which is the last
  pub last : MatchResult result
      (λ _. empty_writes new ≡ empty_writes old)
      (λ error. LastWrite error (empty_writes old) (empty_writes new))
