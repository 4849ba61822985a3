use Rattle.cds_check.proofs.Sets.{both_found}
use Rattle.cds_check.proofs.cds_sets.add_cds_of.Goals as goal

pub returns-clause-found : goal.returns-clause-found
returns-clause-found c = λ one.
    both_found c.args.owner.now c.args.key.now _ _ _ c.args.asked.now.all one
    (c.in_ok-by_sha256.ensures.found one) (c.in_ok-by_sha384.ensures.found one)
