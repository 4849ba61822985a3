use Rattle.law_clients.proofs.entries.scanner_of.Goals as goal

-- a text with tokens isn't refused
pub unreachable-requires : goal.unreachable-requires
unreachable-requires c =
    let is_ok = (c.in-Err.ensures.only c.requires.0 c.requires.1).0 in
    cc
