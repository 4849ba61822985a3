use Rattle.std.proofs.Common.{◌≡◌, ◌∙◌, ◌*◌, [], List, ℕ, length, Result, Ok, ap}
use Rattle.std.proofs.lemmas.Result.{err_from_is_err_and}
use Rattle.name_spec.specs.Addresses.{ipv6_of}
use Rattle.svcb_spec.specs.Values.{Ipv6Hint}
use Rattle.svcb_spec.proofs.ItemLaws.{length-concat}
use Rattle.text_spec.specs.declared.errors.ScanError.{ScanError}
use Rattle.svcb_spec.specs.ListTexts.{◌>>=◌}
use Rattle.svcb_spec.specs.ValueTexts.{short_value, ipv6hint_value}
use Rattle.svcb_text.specs.Lists.{read_list, add_last, read_address}
use Rattle.svcb_text.proofs.AddressLemmas.{length-ipv6_of, each_listed}
use Rattle.svcb_text.proofs.AnswerLemmas.{refused_first}
use Rattle.svcb_text.proofs.ListValueLemmas.{ipv6hint_value-list}
use Rattle.svcb_text.proofs.ValueLemmas.{built_answers}
use Rattle.svcb_text.proofs.list_values.scan_ipv6hint.Goals as goal

pub returns-in_err-addresses : goal.returns-in_err-addresses
returns-in_err-addresses c =
    let text = c.args.text.now in
    let p = err_from_is_err_and c.from_residual.result c.from_residual.ensures.1 in
    let refused = rw c.new.ensures.items at c.in_err-addresses.ensures in
    rw (p.1, p.2) (refused_first (λ value. value) c.in_err-addresses.field-0.0 (ipv6hint_value text)
    (read_list (add_last (read_address ipv6_of)) [] text)
    (λ addresses. short_value (Ipv6Hint addresses)) (ipv6hint_value-list text) refused)

pub returns : goal.returns
returns c =
    let text = c.args.text.now in
    let addresses = c.in_ok-addresses.addresses.items in
    let read : read_list (add_last (read_address ipv6_of)) [] text ≡ Ok addresses =
    rw c.new.ensures.items at c.in_ok-addresses.ensures in
    let whole : ipv6hint_value text ≡ short_value (Ipv6Hint addresses) =
    ipv6hint_value-list text
    ∙ ap (λ (r : Result (List (List ℕ)) ScanError). r
    >>= λ items. short_value (Ipv6Hint items)) read in
    rw whole (built_answers c.from_addrs.result c.or_fault.result (Ipv6Hint addresses)
    (length addresses * 16)
    (rw c.deref.ensures.value at c.from_addrs.ensures.value) c.or_fault.ensures
    (length-concat 16 addresses (each_listed ipv6_of 16 length-ipv6_of text addresses read))
    (rw c.deref.ensures.value at c.from_addrs.ensures.answer))
