-- The numbers of the statuses that the program ends with.
use Rattle.std.specs.Prelude.{ℕ}
use Rattle.input_lines.specs.declared.exit_status.ExitStatus.{ExitStatus}
use Rattle.input_lines.specs.declared.exit_status.ExitStatus.TheVariants.{Done, UnknownCommand, BadInput, NotDone, ReadFault, WriteFault, NoMemory, NoWords}

-- below the number of `ReadFault`, a report was written whole
abbrev pub exit_code : ExitStatus → ℕ
exit_code Done = 0
exit_code UnknownCommand = 1
exit_code BadInput = 2
exit_code NotDone = 3
exit_code ReadFault = 4
exit_code WriteFault = 5
exit_code NoMemory = 6
exit_code NoWords = 7
