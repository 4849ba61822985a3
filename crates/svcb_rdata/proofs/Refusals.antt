-- Why nothing is rebuilt.
use Rattle.std.proofs.Common.{◌≡◌, ◌↔◌, ℕ, ◌<◌, ◌≤◌, List, length, Result, Err, arith}
use Rattle.std.specs.Prelude.{IsErrOf, IsOkAnd, IfOk}
use Rattle.std.proofs.lemmas.Bool.Decides.{nat_tests}
use Rattle.name_spec.specs.Octets.{Fault, Short, Form}
use Rattle.svcb_spec.specs.Params.{wire}
use Rattle.svcb_spec.specs.Values.{Value}
use Rattle.svcb_spec.specs.Records.{Record}
use Rattle.svcb_spec.specs.Rebuilding.{rebuild_of}
use Rattle.wire_base.specs.declared.errors.ParseError.TheVariants as parse
use Rattle.svcb_rdata.specs.declared.errors.RebuildError.{RebuildError}
use Rattle.svcb_rdata.specs.declared.errors.RebuildError.TheVariants as errors
use Rattle.svcb_rdata.specs.declared.rebuild.Rebuilt.{Rebuilt}
use Rattle.svcb_rdata.specs.RebuiltView.{AnswersRebuild, rebuilt_len}

module _ (result : Result Rebuilt RebuildError) (found : Result Record Fault) (values : List Value)
    (limit : ℕ) where
  pub short_input : AnswersRebuild result (rebuild_of found values limit)
      → IsErrOf result (errors.Parse parse.ShortInput) ↔ (found ≡ Err Short)
  short_input is = grind (arith, nat_tests)

  pub form : AnswersRebuild result (rebuild_of found values limit)
      → IsErrOf result (errors.Parse parse.Form) ↔ (found ≡ Err Form)
  form is = grind (arith, nat_tests)

  pub short_buf : AnswersRebuild result (rebuild_of found values limit)
      → IsErrOf result errors.ShortBuf ↔ IsOkAnd found (λ found. limit < length (wire found.pairs))
  short_buf is = grind (arith, nat_tests)

  pub long : AnswersRebuild result (rebuild_of found values limit)
      → IsErrOf result errors.LongRecordData
      → IsOkAnd found (λ found. 65535 < rebuilt_len found values limit)
  long is = grind (arith, nat_tests)

  pub fits : AnswersRebuild result (rebuild_of found values limit)
      → IfOk result (λ done. length done.octets ≤ 65535)
  fits is = grind (arith, nat_tests)

pub ruleset refusals = (short_input, form, short_buf, long, fits)
