use Rattle.std.proofs.Common.{◌≡◌, map, drop}
use Rattle.registry.specs.Tables.{number_of}
use Rattle.registry.proofs.number.find_number.Given as goal

-- the rows from here on decide
abbrev pub invariant-loop-row : goal.invariant-loop-row
invariant-loop-row g l =
    number_of (map (λ row. (g.N.Integer.value row.0, row.1.now)) (drop l.row-index l.table)) l.m
    ≡ number_of (map (λ row. (g.N.Integer.value row.0, row.1.now)) l.table) l.m
