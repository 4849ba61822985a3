use Rattle.std.proofs.Common.{◌≡◌, map, drop}
use Rattle.registry.specs.Tables.{mnemonic_of}
use Rattle.registry.proofs.number.find_mnemonic.Given as goal

-- the rows from here on decide
abbrev pub invariant-loop-row : goal.invariant-loop-row
invariant-loop-row g l =
    mnemonic_of (map (λ row. (g.N.Integer.value row.0, row.1.now)) (drop l.row-index l.table))
    l.number
    ≡ mnemonic_of (map (λ row. (g.N.Integer.value row.0, row.1.now)) l.table) l.number
