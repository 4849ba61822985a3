use Rattle.std.proofs.Common.{◌≡◌, length}
use Rattle.svcb_spec.specs.ListTexts.{read_item}
use Rattle.svcb_text.proofs.ItemLemmas.{onto_octets}
use Rattle.svcb_text.proofs.item_texts.read_item.Given as goal

abbrev pub invariant-loop-c : goal.invariant-loop-c
invariant-loop-c l = read_item l.text ≡ onto_octets l.item.items (read_item l.left)

abbrev pub decreases-loop-c : goal.decreases-loop-c
decreases-loop-c l = length l.left
