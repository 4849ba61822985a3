-- The replies so far were counted.
use Rattle.std.proofs.Common.{◌≡◌, take}
use Rattle.std.specs.List.{count_by}
use Rattle.edit_program.specs.Generate.{is_accepted, is_duplicate}
use Rattle.edit_program.proofs.generate.count_replies.Given as goal

abbrev pub invariant-loop-reply : goal.invariant-loop-reply
invariant-loop-reply l = record {
  accepted : l.accepted ≡ count_by is_accepted (take l.reply-index l.replies);
  duplicate : l.duplicate ≡ count_by is_duplicate (take l.reply-index l.replies);
}
