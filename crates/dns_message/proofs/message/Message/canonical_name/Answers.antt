use Rattle.std.proofs.Common.{◌≡◌, ◌+◌, ◌-◌, Err, ◌∙◌, sym, arith, rules}
use Rattle.std.proofs.lemmas.Result.{err_from_is_err_and}
use Rattle.dns_message.specs.Aliases.{alias_of, labels_reached}
use Rattle.dns_message.proofs.AliasSteps.{looks-fault}
use Rattle.dns_message.proofs.message.Message.canonical_name.Goals as goal

-- a look for an alias comes to a fault
pub returns-in_err-target-clause-name : goal.returns-in_err-target-clause-name
returns-in_err-target-clause-name c =
    let thrown = err_from_is_err_and c.from_residual-in_err-target.result
    c.from_residual-in_err-target.ensures.1 in
    let message = c.args.self.now in
    let owner = c.args.owner.now in
    let found : alias_of message (labels_reached owner c.loop.reached)
    ≡ Err c.in_err-target.field-0.0
    = search rules in
    rw (thrown.1, thrown.2)
    (sym (c.loop.invariant ∙ looks-fault (c.from-end.result + 1 - c.loop.counter) message owner
    c.loop.reached c.in_err-target.field-0.0 (omega arith) found))
