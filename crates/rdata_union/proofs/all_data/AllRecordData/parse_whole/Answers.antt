-- What was read, and the place behind it, say which data all the octets are.
use Rattle.std.proofs.Common.{arith}
use Rattle.rdata_union.specs.Views.{data_of_all}
use Rattle.rdata_union.proofs.WholeReading.{refused_read, part_read, whole_read}
use Rattle.rdata_union.proofs.all_data.AllRecordData.parse_whole.Goals as goal

pub returns-in-Err-clause-answer : goal.returns-in-Err-clause-answer
returns-in-Err-clause-answer c =
    refused_read c.args.rtype c.args.parser.now c.fork-part.result c.fork-part.ensures data_of_all
    c.in-Err.error c.in-Err.ensures.answer

pub returns-then-remaining-gt0-clause-answer : goal.returns-then-remaining-gt0-clause-answer
returns-then-remaining-gt0-clause-answer c =
    part_read c.args.rtype c.args.parser.now c.fork-part.result c.fork-part.ensures
    c.parse_any_rdata.new.parser c.remaining.result (data_of_all c.in-Ok.data)
    c.in-Ok.ensures.answer c.in-Ok.ensures.ok c.remaining.ensures (omega arith)

pub returns-else-remaining-gt0-clause-answer : goal.returns-else-remaining-gt0-clause-answer
returns-else-remaining-gt0-clause-answer c =
    whole_read c.args.rtype c.args.parser.now c.fork-part.result c.fork-part.ensures
    c.parse_any_rdata.new.parser c.remaining.result (data_of_all c.in-Ok.data)
    c.in-Ok.ensures.answer c.in-Ok.ensures.ok c.remaining.ensures (omega arith)
