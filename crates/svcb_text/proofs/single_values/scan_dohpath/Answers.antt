use Rattle.std.proofs.Common.{◌≡◌, List, ℕ, length, Result, Ok, refl}
use Rattle.svcb_spec.specs.Values.{DohPath}
use Rattle.text_spec.specs.declared.errors.ScanError.{ScanError}
use Rattle.svcb_spec.specs.ListTexts.{◌>>=◌}
use Rattle.svcb_spec.specs.ValueTexts.{short_value}
use Rattle.svcb_text.proofs.ValueLemmas.{utf8_text-ok, utf8_text-bad, built_answers}
use Rattle.svcb_text.proofs.single_values.scan_dohpath.Goals as goal

-- a text that is UTF-8 is the value of its octets
of_text : (text : List ℕ) (read : Result (List ℕ) ScanError) → read ≡ Ok text
    → (read >>= λ template. short_value (DohPath template)) ≡ short_value (DohPath text)
of_text text read is = rw is refl

pub returns-in_default : goal.returns-in_default
returns-in_default c = rw (utf8_text-bad c.args.text.now c.in_default.ensures.cases.0) refl

pub returns : goal.returns
returns c =
    let text = c.args.text.now in
    let same : c.in-Ok.template.now ≡ text = c.in-Ok.ensures.cases.0 in
    let answer = built_answers c.from_text.result c.or_fault.result
    (DohPath c.in-Ok.template.now) (length c.in-Ok.template.now) c.from_text.ensures.value
    c.or_fault.ensures refl c.from_text.ensures.answer in
    rw (of_text text _ (utf8_text-ok text c.in-Ok.ensures.cases.1)) (rw same at answer)
