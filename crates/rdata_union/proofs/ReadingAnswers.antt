-- What reading data of any type answers, in the words of each clause.
use Rattle.std.proofs.Common.{◌≡◌, true, Some, Result, Ok, Err, refl}
use Rattle.std.specs.Prelude.{◌↔◌, IsErrOf}
use Rattle.name_spec.specs.Octets.{Fault, Short, Form}
use Rattle.wire_base.specs.Faults.{GivesCopy}
use Rattle.wire_base.specs.RecordReading.{DataRead, DataAnswers}
use Rattle.wire_base.specs.declared.errors.ParseError.{ParseError}
use Rattle.wire_base.specs.declared.errors.ParseError.TheVariants.{ShortInput, NoMemory}
use Rattle.wire_base.specs.declared.errors.ParseError.TheVariants as errors
use Rattle.record_spec.specs.RecordData.{RecordData}
use Rattle.rdata_union.specs.Views.{value_read}

module _ {X : Type 0} (view : X → RecordData) where
  pub short_given : (result : Result X ParseError) (read : Result (DataRead RecordData) Fault)
      → GivesCopy view result (value_read read)
      → IsErrOf result ShortInput ↔ (read ≡ Err Short)
  short_given (Ok x) (Ok found) given = (λ is. absurd cc, λ is. absurd cc)
  short_given (Ok x) (Err fault) given = absurd cc
  short_given (Err NoMemory) (Ok found) given = (λ is. absurd cc, λ is. absurd cc)
  short_given (Err NoMemory) (Err fault) given = absurd cc
  short_given (Err ShortInput) (Ok found) given = absurd cc
  short_given (Err ShortInput) (Err fault) given = (λ is. cc, λ is. refl)
  short_given (Err errors.Form) (Ok found) given = absurd cc
  short_given (Err errors.Form) (Err fault) given = (λ is. absurd cc, λ is. absurd cc)

  pub form_given : (result : Result X ParseError) (read : Result (DataRead RecordData) Fault)
      → GivesCopy view result (value_read read)
      → IsErrOf result errors.Form ↔ (read ≡ Err Form)
  form_given (Ok x) (Ok found) given = (λ is. absurd cc, λ is. absurd cc)
  form_given (Ok x) (Err fault) given = absurd cc
  form_given (Err NoMemory) (Ok found) given = (λ is. absurd cc, λ is. absurd cc)
  form_given (Err NoMemory) (Err fault) given = absurd cc
  form_given (Err ShortInput) (Ok found) given = absurd cc
  form_given (Err ShortInput) (Err fault) given = (λ is. absurd cc, λ is. absurd cc)
  form_given (Err errors.Form) (Ok found) given = absurd cc
  form_given (Err errors.Form) (Err fault) given = (λ is. cc, λ is. refl)

  module _ {Y : Type 0} (seen : Y → RecordData) where
    pub some_answers : (found : X) (held : Y) (read : Result (DataRead RecordData) Fault)
        → GivesCopy view (Ok found) (value_read read)
        → seen held ≡ view found → DataAnswers seen (Ok (Some held)) true read
    some_answers found held (Ok both) given same = cc
    some_answers found held (Err fault) given same = absurd cc

    pub fault_answers : (error : ParseError) (read : Result (DataRead RecordData) Fault)
        → GivesCopy view (Err error) (value_read read)
        → DataAnswers seen (Err error) true read
    fault_answers NoMemory (Ok both) given = tt
    fault_answers NoMemory (Err fault) given = absurd cc
    fault_answers ShortInput (Ok both) given = absurd cc
    fault_answers ShortInput (Err fault) given = cc
    fault_answers errors.Form (Ok both) given = absurd cc
    fault_answers errors.Form (Err fault) given = cc
