use Rattle.std.proofs.Common.{◌≡◌, ◌++◌, ◌∷◌, take, length}
use Rattle.text_spec.specs.Scanning.{octets_of}
use Rattle.dns_text.proofs.names.push_label.Given as goal

abbrev pub invariant-loop-symbol : goal.invariant-loop-symbol
invariant-loop-symbol l =
    l.octets.items ≡ l.fn.octets.items ++ length l.label ∷ octets_of (take l.symbol-index l.label)
