use Rattle.std.proofs.Common.{append_assoc}
use Rattle.dns_text.proofs.formatter.number_comment.Goals as goal

pub returns-in_ok-format-in-Some : goal.returns-in_ok-format-in-Some
returns-in_ok-format-in-Some c = rw (c.in-Some.is, append_assoc) c.in_ok-format-in-Some.ensures.ok
