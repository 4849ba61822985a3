use Rattle.std.proofs.Common.{◌≡◌, ◌∙◌, ◌*◌, [], List, ℕ, length, Result, Ok, ap, arith}
use Rattle.std.proofs.lemmas.Result.{err_from_is_err_and}
use Rattle.svcb_spec.specs.Values.{Mandatory, numbers16_wire}
use Rattle.svcb_spec.proofs.ItemLaws.{length-numbers_wire}
use Rattle.text_spec.specs.declared.errors.ScanError.{ScanError}
use Rattle.svcb_spec.specs.ListTexts.{◌>>=◌}
use Rattle.svcb_spec.specs.ValueTexts.{short_value, mandatory_value}
use Rattle.svcb_text.specs.Lists.{read_list, add_key}
use Rattle.svcb_text.proofs.AnswerLemmas.{refused_first}
use Rattle.svcb_text.proofs.ListValueLemmas.{mandatory_value-list}
use Rattle.svcb_text.proofs.ValueLemmas.{built_answers}
use Rattle.svcb_text.proofs.list_values.scan_mandatory.Goals as goal

pub returns-in_err-numbers : goal.returns-in_err-numbers
returns-in_err-numbers c =
    let text = c.args.text.now in
    let p = err_from_is_err_and c.from_residual.result c.from_residual.ensures.1 in
    let refused = rw c.new.ensures.empty at c.in_err-numbers.ensures in
    rw (p.1, p.2) (refused_first (λ value. value) c.in_err-numbers.field-0.0 (mandatory_value text)
    (read_list add_key [] text) (λ keys. short_value (Mandatory keys))
    (mandatory_value-list text) refused)

pub returns : goal.returns
returns c =
    let text = c.args.text.now in
    let keys = c.in_ok-numbers.numbers.keys in
    let read : read_list add_key [] text ≡ Ok keys =
    rw c.new.ensures.empty at c.in_ok-numbers.ensures in
    let whole : mandatory_value text ≡ short_value (Mandatory keys) =
    mandatory_value-list text
    ∙ ap (λ (r : Result (List ℕ) ScanError). r >>= λ items. short_value (Mandatory items)) read
    in
    let same : c.deref.result.now ≡ keys = c.deref.ensures.value ∙ c.in_ok-keys.ensures in
    let count : length (numbers16_wire keys) ≡ length keys * 2 =
    omega (arith, length-numbers_wire keys) in
    rw whole (built_answers c.from_keys.result c.or_fault.result (Mandatory keys) (length keys * 2)
    (rw same at c.from_keys.ensures.value) c.or_fault.ensures count
    (rw same at c.from_keys.ensures.answer))
