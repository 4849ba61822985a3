-- The question that the program keeps, as its definition sees it.
use Rattle.commands.specs.Choose as spec
use Rattle.commands.specs.declared.choose.Question.{Question}

abbrev pub question_view : Question → spec.Question
question_view q = record {
  owner = q.owner;
  understood = q.understood.items;
  defaults = q.defaults.items;
  records = q.records.items;
}
