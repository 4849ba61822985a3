-- The keys so far, and those of the texts that are left, are those of all texts.
use Rattle.std.proofs.Common.{◌≡◌}
use Rattle.input_lines.specs.Lines.{pieces}
use Rattle.commands.specs.Choose.{keys_of}
use Rattle.commands.proofs.KeyLemmas.{keys_behind}
use Rattle.commands.proofs.keys.keys_of.Given as goal

abbrev pub invariant-loop-text : goal.invariant-loop-text
invariant-loop-text l =
    keys_of (pieces 44 l.token) ≡ keys_behind l.keys.items (keys_of l.texts)
