use Rattle.std.proofs.Common.{◌≡◌, true, Err, sym, subst, rules}
use Rattle.wire_base.specs.RecordReading.{DataAnswers}
use Rattle.record_spec.specs.UnionReading.{union_read}
use Rattle.rdata_union.specs.Views.{data_of_all, data_of_zone}
use Rattle.rdata_union.proofs.ReadingAnswers.{some_answers, fault_answers}
use Rattle.rdata_union.proofs.zone_traits.ZoneRecordDataParseRecordData.parse_rdata.Goals as goal

pub returns-in_err-found-clause-answer : goal.returns-in_err-found-clause-answer
returns-in_err-found-clause-answer c =
    let read = union_read c.args.rtype c.args.parser.now in
    let made : c.from_residual.result ≡ Err c.in_err-found.field-0.0 = search rules in
    subst (λ result. DataAnswers data_of_zone result true read) (sym made)
    (fault_answers data_of_all data_of_zone c.in_err-found.field-0.0 read
    c.in_err-found.ensures.answer)

pub returns-clause-answer : goal.returns-clause-answer
returns-clause-answer c =
    let read = union_read c.args.rtype c.args.parser.now in
    some_answers data_of_all data_of_zone c.in_ok-found.found c.into_zone_data.result read
    c.in_ok-found.ensures.answer c.into_zone_data.ensures
