use Rattle.std.proofs.Common.{◌≡◌, length, length-drop, true, false, rules, Err, sym, ap, ◌∙◌, arith}
use Rattle.input_lines.proofs.LineLemmas.{length-lines}
use Rattle.svcb_choose.specs.Choosing.{priorities_ascend}
use Rattle.commands.proofs.QuestionLemmas.{third-fault, records-fault, all-parts}
use Rattle.commands.proofs.choose.read_question.Goals as goal

pub returns-in_err-defaults-clause-value : goal.returns-in_err-defaults-clause-value
returns-in_err-defaults-clause-value c =
    let passed : c.from_residual-in_err-defaults.result ≡ Err c.in_err-defaults.field-0.0 =
    search rules in
    rw passed
    (third-fault _ _ _ _ c.defaults_line.new.input c.new-lines.ensures c.name_line.ensures.rest
    c.keys_line.ensures.rest c.defaults_line.ensures.rest _ _ c.in_ok-owner.ensures.value
    c.in_ok-understood.ensures.value _ c.in_err-defaults.ensures.value)

-- there are at most as many lines as octets, and one
pub record_lines-requires : goal.record_lines-requires
record_lines-requires c =
    let input = c.args.input.now in
    let count = length-lines input in
    let all = ap length c.new-lines.ensures in
    let first = simp length-drop at (ap length c.name_line.ensures.rest) in
    let second = simp length-drop at (ap length c.keys_line.ensures.rest) in
    let third = simp length-drop at (ap length c.defaults_line.ensures.rest) in
    omega (arith, count, all, first, second, third)

pub returns-in_err-records-clause-value : goal.returns-in_err-records-clause-value
returns-in_err-records-clause-value c =
    let passed : c.from_residual-in_err-records.result ≡ Err c.in_err-records.field-0.0 =
    search rules in
    rw passed
    (records-fault _ _ _ _ _ c.new-lines.ensures c.name_line.ensures.rest
    c.keys_line.ensures.rest c.defaults_line.ensures.rest _ _ c.in_ok-owner.ensures.value
    c.in_ok-understood.ensures.value _ c.in_ok-defaults.ensures.value _
    c.in_err-records.ensures)

pub returns-then-not-priorities_ascend-clause-value :
    goal.returns-then-not-priorities_ascend-clause-value
returns-then-not-priorities_ascend-clause-value c =
    all-parts _ _ _ _ _ c.new-lines.ensures c.name_line.ensures.rest
    c.keys_line.ensures.rest c.defaults_line.ensures.rest _ _ c.in_ok-owner.ensures.value
    c.in_ok-understood.ensures.value _ c.in_ok-defaults.ensures.value
    c.in_ok-records.records.items false (c.in_ok-records.ensures)
    (ap priorities_ascend (sym c.deref.ensures.value) ∙ sym c.priorities_ascend.ensures
    ∙ c.if-not-priorities_ascend.true)

pub returns-clause-value : goal.returns-clause-value
returns-clause-value c =
    all-parts _ _ _ _ _ c.new-lines.ensures c.name_line.ensures.rest
    c.keys_line.ensures.rest c.defaults_line.ensures.rest _ _ c.in_ok-owner.ensures.value
    c.in_ok-understood.ensures.value _ c.in_ok-defaults.ensures.value
    c.in_ok-records.records.items true (c.in_ok-records.ensures)
    (ap priorities_ascend (sym c.deref.ensures.value) ∙ sym c.priorities_ascend.ensures
    ∙ c.if-not-priorities_ascend.false)
