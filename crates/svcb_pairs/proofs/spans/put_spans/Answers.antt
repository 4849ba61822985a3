use Rattle.std.proofs.Common.{refl, rules, arith}
use Rattle.std.proofs.lemmas.Grind.{common_steps}
use Rattle.svcb_spec.proofs.WireLaws.{wire-pairs}
use Rattle.svcb_pairs.proofs.Builds.{AreShort-ascend}
use Rattle.svcb_pairs.proofs.spans.put_spans.Goals as goal

pub loop-key-init : goal.loop-key-init
loop-key-init c =
    rw c.into_iter-key-iterator.ensures.into_iter_gives.0
    (record {
      written = refl;
      room = rw (wire-pairs _ c.requires.is_map) at c.requires.room;
      short = AreShort-ascend 0 _ c.requires.is_map;
      inside = c.requires.inside;
    })

pub returns : goal.returns
returns c = rw (wire-pairs _ c.requires.is_map)
    (first_of (search rules, grind (arith, common_steps)))
