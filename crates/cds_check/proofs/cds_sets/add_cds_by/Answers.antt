use Rattle.std.proofs.Common.{◌≡◌, sym, ap, ◌∙◌}
use Rattle.std.specs.BTreeSet.{contains}
use Rattle.cds_check.specs.CdsSets.{cds_of, kind_of, kind_cmp}
use Rattle.cds_check.proofs.Sets.{put_found, skip_found, no_kind}
use Rattle.cds_check.proofs.cds_sets.add_cds_by.Goals as goal

pub returns-then-not-contains-clause-is_asked : goal.returns-then-not-contains-clause-is_asked
returns-then-not-contains-clause-is_asked c =
    let asked = c.args.asked.now in
    let kind : record {
      key_tag = c.key_tag.result;
      algorithm = c.algorithm.result;
      digest_type = c.args.digest_type;
    } ≡ kind_of c.args.key.now c.args.digest_type = λ i. record {
      key_tag = c.key_tag.ensures i;
      algorithm = c.algorithm.ensures i;
      digest_type = c.args.digest_type;
    } in
    sym (no_kind c.args.owner.now c.args.key.now c.args.digest_type asked.kinds asked.all
    asked.covers
    (ap (contains kind_cmp asked.kinds) (sym kind)
    ∙ sym c.contains.ensures ∙ c.if-not-contains.true))

pub returns-then-not-contains-clause-found : goal.returns-then-not-contains-clause-found
returns-then-not-contains-clause-found c = λ one.
    skip_found c.args.found.now c.args.asked.now.all
    (cds_of c.args.owner.now c.args.key.now c.args.digest_type) one
    (sym (returns-then-not-contains-clause-is_asked c))

pub returns-clause-found : goal.returns-clause-found
returns-clause-found c = λ one.
    put_found c.args.found.now c.args.asked.now.all _ _ c.in-Some.made one
    (sym c.in-Some.is ∙ c.in_ok-made.ensures)
    (sym c.contains-2.ensures ∙ c.if-not-contains-2.false) c.in_ok-insert.ensures.updates
