use Rattle.std.proofs.Common.{Ok, rules}
use Rattle.svcb_params.proofs.AnyOrder.{scanned_in_any_order}
use Rattle.svcb_params.proofs.params.SvcParams.scan.Goals as goal

pub returns-in_err-scan_params-clause-any_order : goal.returns-in_err-scan_params-clause-any_order
returns-in_err-scan_params-clause-any_order g c =
    let scan = g.S.Scanner.scan in
    scanned_in_any_order (scan c.args.scanner.now)
    (scan c.scan_params.new.scanner) c.from_residual.result (search rules)

pub returns-clause-any_order : goal.returns-clause-any_order
returns-clause-any_order g c =
    let scan = g.S.Scanner.scan in
    scanned_in_any_order (scan c.args.scanner.now) (scan c.scan_params.new.scanner)
    (Ok c.from_checked_octets.result) (search rules)
