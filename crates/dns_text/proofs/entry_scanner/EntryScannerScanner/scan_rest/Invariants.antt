use Rattle.std.proofs.Common.{◌-◌, length}
use Rattle.text_spec.specs.Tokens.{tokens_in}
use Rattle.dns_text.proofs.Rests.{AreRead}
use Rattle.dns_text.proofs.entry_scanner.EntryScannerScanner.scan_rest.Given as goal

abbrev pub invariant-loop-lexemes : goal.invariant-loop-lexemes
invariant-loop-lexemes l =
    AreRead (tokens_in l.self-inside.entry.text.now) l.self-inside.taken l.taken l.lexemes
    l.octets.items

abbrev pub decreases-loop-lexemes : goal.decreases-loop-lexemes
decreases-loop-lexemes l = length (tokens_in l.self-inside.entry.text.now) - l.taken
