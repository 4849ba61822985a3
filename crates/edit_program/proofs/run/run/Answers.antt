-- What is due is looked at by cases nowhere: the command that it is due to is of no account.
use Rattle.std.proofs.Common.{ℕ, subst, sym}
use Rattle.edit_program.specs.Commands.{due}
use Rattle.edit_program.specs.Words.{command_of}
use Rattle.edit_program.proofs.Complete.{IsComplete, reported, stopped}
use Rattle.edit_program.proofs.run.run.Goals as goal

pub returns-in-Ok-clause-complete : goal.returns-in-Ok-clause-complete
returns-in-Ok-clause-complete g c = λ no_read no_write.
    reported c.in-Ok.status (due (command_of c.args.words.now) (g.S.Source.left c.args.source.now))
    (g.K.Sink.held c.args.sink.now) (g.K.Sink.held c.perform.new.sink)
    c.in-Ok.ensures.sink.performs

pub returns-in-Err-clause-complete : goal.returns-in-Err-clause-complete
returns-in-Err-clause-complete g c = λ no_read no_write.
    let answer = due (command_of c.args.words.now) (g.S.Source.left c.args.source.now) in
    let old = g.K.Sink.held c.args.sink.now in
    let new = g.K.Sink.held c.perform.new.sink in
    subst (λ (status : ℕ). IsComplete status answer old new) (sym c.status.ensures)
    (stopped c.in-Err.error answer old new
    (g.S.Source.faults c.args.source.now) (g.S.Source.faults c.perform.new.source)
    (g.K.Sink.faults c.args.sink.now) (g.K.Sink.faults c.perform.new.sink)
    c.in-Err.ensures.source.count c.in-Err.ensures.sink.count no_read no_write)
