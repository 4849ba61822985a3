use Rattle.std.proofs.Common.{◌∙◌}
use Rattle.commands.proofs.KeyLemmas.{keys-more}
use Rattle.commands.proofs.keys.keys_of.Goals as goal

pub loop-text-preserved : goal.loop-text-preserved
loop-text-preserved c =
    c.loop-text.invariant
    ∙ keys-more c.loop-text.keys.items _ c.in-Some-from_bytes.key c.in-Some.text.now _ _
    c.in-Some.ensures.steps c.in-Some-from_bytes.ensures
    c.in_ok-push-in-Some-from_bytes.ensures.items
