-- Where no device fails, a command ends with the answer that is due, or allocation failed.
use Rattle.std.proofs.Common.{◌≡◌, ◌⊎◌, inl, inr, ℕ, List, Option, Some, None, Ok, IfSome, refl}
use Rattle.devices.specs.Faults.{Rose}
use Rattle.input_lines.specs.ExitCodes.{exit_code}
use Rattle.input_lines.specs.Report.{Answer}
use Rattle.input_lines.specs.declared.exit_status.ExitStatus.TheVariants as exit
use Rattle.edit_program.specs.Run.{Performs, Whole}
use Rattle.edit_program.specs.RunErrors.{SourceCause, SinkCause, run_error_status}
use Rattle.edit_program.specs.declared.run_error.RunError.{RunError}
use Rattle.edit_program.specs.declared.run_error.RunError.TheVariants.{ReadFault, WriteFault, NoMemory}

-- the status and the whole report of the answer that is due, or allocation failed
abbrev pub IsComplete : ℕ → Option Answer → Option (List ℕ) → Option (List ℕ) → Type 0
IsComplete status due old new = IfSome due (λ answer.
    (status ≡ exit_code exit.NoMemory) ⊎ ((status ≡ answer.status) × Whole answer old new))

pub reported : (status : ℕ) (due : Option Answer) (old new : Option (List ℕ))
    → Performs (Ok status) due old new → IsComplete status due old new
reported status None old new performs = tt
reported status (Some answer) old new performs = inr performs.1

without_memory : (due : Option Answer) (old new : Option (List ℕ))
    → IsComplete (exit_code exit.NoMemory) due old new
without_memory None old new = tt
without_memory (Some answer) old new = inl refl

pub stopped : (error : RunError) (due : Option Answer) (old new : Option (List ℕ))
    → (reads_before reads_now writes_before writes_now : ℕ)
    → SourceCause error reads_before reads_now → SinkCause error writes_before writes_now
    → ¬ (Rose reads_before reads_now) → ¬ (Rose writes_before writes_now)
    → IsComplete (run_error_status error) due old new
stopped ReadFault due old new rb rn wb wn rose same no_read no_write = absurd (no_read rose)
stopped WriteFault due old new rb rn wb wn same rose no_read no_write = absurd (no_write rose)
stopped NoMemory due old new rb rn wb wn same kept no_read no_write = without_memory due old new
