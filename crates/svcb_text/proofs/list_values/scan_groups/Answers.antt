use Rattle.std.proofs.Common.{◌≡◌, ◌∙◌, ◌*◌, ◌<◌, [], List, ℕ, length, Result, Ok, ap, arith}
use Rattle.std.proofs.lemmas.Result.{err_from_is_err_and}
use Rattle.svcb_spec.specs.Values.{TlsSupportedGroups, numbers16_wire}
use Rattle.svcb_spec.proofs.ItemLaws.{length-numbers_wire}
use Rattle.text_spec.specs.declared.errors.ScanError.{ScanError}
use Rattle.svcb_spec.specs.ListTexts.{◌>>=◌}
use Rattle.svcb_spec.specs.ValueTexts.{short_value, groups_value}
use Rattle.svcb_text.specs.Lists.{read_list, add_last, read_group}
use Rattle.svcb_text.proofs.AnswerLemmas.{refused_first}
use Rattle.svcb_text.proofs.ListValueLemmas.{groups_value-list, some_items}
use Rattle.svcb_text.proofs.ValueLemmas.{built_answers, built_not_empty}
use Rattle.svcb_text.proofs.list_values.scan_groups.Goals as goal

pub returns-in_err-groups : goal.returns-in_err-groups
returns-in_err-groups c =
    let text = c.args.text.now in
    let p = err_from_is_err_and c.from_residual.result c.from_residual.ensures.1 in
    let refused = rw c.new.ensures at c.in_err-groups.ensures in
    rw (p.1, p.2) (refused_first (λ value. value) c.in_err-groups.field-0.0 (groups_value text)
    (read_list (add_last read_group) [] text) (λ groups. short_value (TlsSupportedGroups groups))
    (groups_value-list text) refused)

pub returns : goal.returns
returns c =
    let text = c.args.text.now in
    let groups = c.in_ok-groups.groups.numbers.items in
    let read : read_list (add_last read_group) [] text ≡ Ok groups =
    rw c.new.ensures at c.in_ok-groups.ensures in
    let whole : groups_value text ≡ short_value (TlsSupportedGroups groups) =
    groups_value-list text
    ∙ ap (λ (r : Result (List ℕ) ScanError). r
    >>= λ items. short_value (TlsSupportedGroups items)) read in
    let same : c.deref.result.now ≡ groups =
    c.deref.ensures.value ∙ ap (λ v. v.items) c.into_numbers.ensures in
    let some : 0 < length groups * 2 = omega (arith, some_items read_group text groups read) in
    let count : length (numbers16_wire groups) ≡ length groups * 2 =
    omega (arith, length-numbers_wire groups) in
    rw whole (built_answers c.from_keys.result c.or_fault.result (TlsSupportedGroups groups)
    (length groups * 2)
    (rw same at c.from_keys.ensures.value) c.or_fault.ensures count
    (built_not_empty c.from_keys.result (length groups * 2) some
    (rw same at c.from_keys.ensures.answer)))
