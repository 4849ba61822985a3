use Rattle.std.proofs.Common.{◌≡◌, ◌∙◌, sym, ap, refl, is_some, true, false, Option, Some, None, Result, Ok, Err, List}
use Rattle.std.proofs.lemmas.Result.{err_from_is_err_and}
use Rattle.text_spec.specs.declared.errors.ScanError.{ScanError}
use Rattle.text_spec.specs.declared.lexeme.Lexeme.{Lexeme}
use Rattle.text_spec.specs.Lexing.{with_front}
use Rattle.text_spec.specs.Tokens.{fault_of, text_fault}
use Rattle.text_spec.proofs.Found.{tokens_found, fault_found}
use Rattle.text_spec.proofs.Again.{has_tokens, has_fault}
use Rattle.dns_text.specs.Reading.{Takes}
use Rattle.dns_text.proofs.BareOctets.{fault_of-with_bare}
use Rattle.dns_text.proofs.entry.Entry.from_text.Goals as goal

-- at the end of a text nothing is left that could have a fault
read_whole : (lexeme : Option Lexeme) (before after : Result (List Lexeme) ScanError)
    (fault : Option ScanError) → is_some lexeme ≡ false → Takes (Ok lexeme) before after
    → fault_of before ≡ fault → fault ≡ None
read_whole None before after fault end taken same = sym same ∙ ap fault_of taken.0
read_whole (Some lexeme) before after fault end taken same = absurd cc

fault_of-with_front : (lexeme : Lexeme) (answer : Result (List Lexeme) ScanError)
    → fault_of (with_front lexeme answer) ≡ fault_of answer
fault_of-with_front lexeme (Ok lexemes) = refl
fault_of-with_front lexeme (Err fault) = refl

-- a lexeme that is read has no fault
read_more : (lexeme : Option Lexeme) (before after : Result (List Lexeme) ScanError)
    → is_some lexeme ≡ true → Takes (Ok lexeme) before after → fault_of after ≡ fault_of before
read_more None before after more taken = absurd cc
read_more (Some lexeme) before after more taken =
    sym (ap fault_of taken ∙ fault_of-with_front lexeme after)

pub returns-in_err-next-clause-only : goal.returns-in_err-next-clause-only
returns-in_err-next-clause-only c = λ tokens has.
    let refused : text_fault c.args.text.now ≡ Some c.in_err-next.field-0.0 =
    sym c.loop.invariant ∙ ap fault_of c.take_bare.ensures.taken
    ∙ fault_of-with_bare c.take_bare.result.now _ ∙ ap fault_of c.in_err-next.ensures.taken in
    let sound = (has_tokens c.args.text.now tokens has).0 in
    let both = sym sound ∙ refused in
    absurd cc

pub returns-in_err-next-clause-fault : goal.returns-in_err-next-clause-fault
returns-in_err-next-clause-fault c =
    let refused : text_fault c.args.text.now ≡ Some c.in_err-next.field-0.0 =
    sym c.loop.invariant ∙ ap fault_of c.take_bare.ensures.taken
    ∙ fault_of-with_bare c.take_bare.result.now _ ∙ ap fault_of c.in_err-next.ensures.taken in
    let fault = err_from_is_err_and c.from_residual.result c.from_residual.ensures.1 in
    rw (fault.1, fault.2) (fault_found c.args.text.now c.in_err-next.field-0.0 refused)

pub returns-in_err-next-clause-refused : goal.returns-in_err-next-clause-refused
returns-in_err-next-clause-refused c = λ fault has.
    let refused : text_fault c.args.text.now ≡ Some c.in_err-next.field-0.0 =
    sym c.loop.invariant ∙ ap fault_of c.take_bare.ensures.taken
    ∙ fault_of-with_bare c.take_bare.result.now _ ∙ ap fault_of c.in_err-next.ensures.taken in
    let is = err_from_is_err_and c.from_residual.result c.from_residual.ensures.1 in
    let same = sym refused ∙ has_fault c.args.text.now fault has in
    rw (is.1, is.2) cc

pub returns-then-is_none-clause-tokens : goal.returns-then-is_none-clause-tokens
returns-then-is_none-clause-tokens c =
    let sound : text_fault c.args.text.now ≡ None =
    read_whole c.in_ok-next.field-0 _ _ (text_fault c.args.text.now)
    c.if-is_none.ensures c.in_ok-next.ensures.taken
    (sym (fault_of-with_bare c.take_bare.result.now _) ∙ ap fault_of (sym c.take_bare.ensures.taken)
    ∙ c.loop.invariant) in
    tokens_found c.args.text.now sound

pub returns-then-is_none-clause-only : goal.returns-then-is_none-clause-only
returns-then-is_none-clause-only c = λ tokens has. (refl, (has_tokens c.args.text.now tokens has).1)

pub returns-then-is_none-clause-refused : goal.returns-then-is_none-clause-refused
returns-then-is_none-clause-refused c = λ fault has.
    let sound : text_fault c.args.text.now ≡ None =
    read_whole c.in_ok-next.field-0 _ _ (text_fault c.args.text.now)
    c.if-is_none.ensures c.in_ok-next.ensures.taken
    (sym (fault_of-with_bare c.take_bare.result.now _) ∙ ap fault_of (sym c.take_bare.ensures.taken)
    ∙ c.loop.invariant) in
    let both = sym sound ∙ has_fault c.args.text.now fault has in
    absurd cc

pub returns-in_err-next-clause-answer : goal.returns-in_err-next-clause-answer
returns-in_err-next-clause-answer c =
    let refused : text_fault c.args.text.now ≡ Some c.in_err-next.field-0.0 =
    sym c.loop.invariant ∙ ap fault_of c.take_bare.ensures.taken
    ∙ fault_of-with_bare c.take_bare.result.now _ ∙ ap fault_of c.in_err-next.ensures.taken in
    let fault = err_from_is_err_and c.from_residual.result c.from_residual.ensures.1 in
    rw (fault.1, fault.2) refused

pub invariant_of-result-clause-checked : goal.invariant_of-result-clause-checked
invariant_of-result-clause-checked c =
    read_whole c.in_ok-next.field-0 _ _ (text_fault c.args.text.now)
    c.if-is_none.ensures c.in_ok-next.ensures.taken
    (sym (fault_of-with_bare c.take_bare.result.now _) ∙ ap fault_of (sym c.take_bare.ensures.taken)
    ∙ c.loop.invariant)

pub loop-preserved : goal.loop-preserved
loop-preserved c =
    read_more c.in_ok-next.field-0 _ _ c.if-is_none.ensures c.in_ok-next.ensures.taken
    ∙ sym (fault_of-with_bare c.take_bare.result.now _) ∙ ap fault_of (sym c.take_bare.ensures.taken)
    ∙ c.loop.invariant
