-- Refusals that are passed on.
use Rattle.std.proofs.Common.{◌≡◌, ◌≢◌, Result, Ok, Err, sym, subst}
use Rattle.std.specs.Prelude.{IfErr, IsErrAnd}
use Rattle.svcb_pairs.specs.declared.errors.PushError.{PushError}
use Rattle.svcb_pairs.specs.declared.errors.PushError.TheVariants.{NoMemory}

pub passed_on : {X : Type 0} (result : Result X PushError) (refusal : PushError)
    (P : PushError → Type 0) → IsErrAnd result (λ error. error ≡ refusal) → P refusal
    → IfErr result (λ error. error ≢ NoMemory → P error)
passed_on (Ok value) refusal P is p = absurd is
passed_on (Err error) refusal P is p = λ not. subst P (sym is) p
