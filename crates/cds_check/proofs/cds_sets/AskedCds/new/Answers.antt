use Rattle.std.proofs.Common.{◌≡◌, sym, ap, ◌∙◌, arith}
use Rattle.cds_check.proofs.Sets.{set_more, covers_more}
use Rattle.cds_check.proofs.cds_sets.AskedCds.new.Goals as goal

pub loop-one-preserved : goal.loop-one-preserved
loop-one-preserved c =
    let one = c.one-item.result in
    let copy = c.in_ok-try_clone.field-0 in
    let kind : record {
      key_tag = c.key_tag.result;
      algorithm = c.algorithm.result;
      digest_type = c.digest_type.result;
    } ≡ one.fields = λ i. record {
      key_tag = c.key_tag.ensures i;
      algorithm = c.algorithm.ensures i;
      digest_type = c.digest_type.ensures i;
    } in
    record {
      all = set_more _ _ c.args.cds.now c.loop-one.one-index copy one (omega arith)
          (c.in_ok-try_clone.ensures ∙ c.one-item.is) c.loop-one.invariant.all
          c.in_ok-insert-2.ensures.updates;
      covers = covers_more _ _ _ _ _ copy
          (kind ∙ sym (ap (λ found. found.fields) c.in_ok-try_clone.ensures))
          c.loop-one.invariant.covers c.in_ok-insert.ensures.updates
          c.in_ok-insert-2.ensures.updates;
    }
