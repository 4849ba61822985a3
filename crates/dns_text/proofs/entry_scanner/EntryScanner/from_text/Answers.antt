-- No fault of a text is a want of memory.
use Rattle.std.proofs.lemmas.Result.{err_from_is_err_and}
use Rattle.dns_text.proofs.EntryFaults.{not_memory}
use Rattle.dns_text.proofs.entry_scanner.EntryScanner.from_text.Goals as goal

pub returns-in_err-from_text-clause-memory : goal.returns-in_err-from_text-clause-memory
returns-in_err-from_text-clause-memory c =
    let p = err_from_is_err_and c.from_residual.result c.from_residual.ensures.1 in
    rw (p.1, p.2)
    (not_memory c.args.text.now c.in_err-from_text.field-0.0 c.in_err-from_text.ensures.fault)
