-- What is made of a text that was read.
use Rattle.std.proofs.Common.{◌≡◌, ℕ, ◌<◌, ◌≤◌, true, false, cond, List, length, Result, Ok, Err, refl, sym, ap, subst, ◌∙◌, arith}
use Rattle.std.specs.Prelude.{nat_lt, IfOk}
use Rattle.std.specs.Result.{result_map_both}
use Rattle.std.specs.Str.{IsUtf8, is_utf8}
use Rattle.std.proofs.lemmas.Bool.Decides.{nat_tests}
use Rattle.std.proofs.lemmas.Str.{IsUtf8-from_is_utf8, is_utf8-from_IsUtf8}
use Rattle.registry.specs.declared.errors.BuildValueError.{BuildValueError}
use Rattle.registry.specs.declared.errors.BuildValueError.TheVariants.{LongSvcParam, ShortBuf, EmptyValue, NoMemory}
use Rattle.svcb_spec.specs.Values.{Value, encode}
use Rattle.svcb_spec.specs.BuildingValues.{IsBuilt, IsBuiltNotEmpty}
use Rattle.text_spec.specs.declared.errors.ScanError.{ScanError}
use Rattle.text_spec.specs.declared.errors.ScanError.TheVariants.{BadUtf8, LongValue}
use Rattle.text_spec.specs.Scanning.{Answers}
use Rattle.svcb_spec.specs.ValueTexts.{short_value, utf8_text}
use Rattle.svcb_text.specs.ValueFaults.{scan_fault_of}

-- ---- UTF-8

pub utf8_text-ok : (text : List ℕ) → IsUtf8 text → utf8_text text ≡ Ok text
utf8_text-ok text is = rw (is_utf8-from_IsUtf8 text is) refl

pub utf8_text-bad : (text : List ℕ) → (IsUtf8 text → ⊥) → utf8_text text ≡ Err BadUtf8
utf8_text-bad text bad =
    elim (is_utf8 text) as (λ b. is_utf8 text ≡ b → cond b (Ok text) (Err BadUtf8) ≡ Err BadUtf8) [
      | true ↦ λ e. absurd (bad (IsUtf8-from_is_utf8 text e))
      | false ↦ λ e. refl
    ] refl

-- ---- lengths of values

pub short_value-ok : (value : Value) → length (encode value) ≤ 65535 → short_value value ≡ Ok value
short_value-ok value short =
    let fits : nat_lt 65535 (length (encode value)) ≡ false = grind (arith, nat_tests) in
    rw fits refl

pub short_value-long : (value : Value) → 65535 < length (encode value)
    → short_value value ≡ Err LongValue
short_value-long value long =
    let exceeds : nat_lt 65535 (length (encode value)) ≡ true = grind (arith, nat_tests) in
    rw exceeds refl

-- a value that has items is built as any value is
pub built_not_empty : (made : Result Value BuildValueError) (len : ℕ) → 0 < len
    → IsBuiltNotEmpty made len → IsBuilt made len
built_not_empty (Ok v) len some built = built.1
built_not_empty (Err LongSvcParam) len some built = built
built_not_empty (Err ShortBuf) len some built = built
built_not_empty (Err EmptyValue) len some built = absurd (omega arith)
built_not_empty (Err NoMemory) len some built = built.1

-- a value that is made is the answer, and one that is not made is too long unless allocation fails
made_answers : (made : Result Value BuildValueError) (value : Value) → IfOk made (λ v. v ≡ value)
    → IsBuilt made (length (encode value))
    → Answers {T = Value} (λ v. v) (result_map_both (λ v. v) scan_fault_of made) (short_value value)
made_answers (Ok v) value is built = short_value-ok value built ∙ ap (λ (v : Value). Ok v) (sym is)
made_answers (Err LongSvcParam) value is built = short_value-long value built
made_answers (Err ShortBuf) value is built = absurd built
made_answers (Err EmptyValue) value is built = absurd built
made_answers (Err NoMemory) value is built = tt

pub built_answers : (made : Result Value BuildValueError) (outcome : Result Value ScanError)
    (value : Value) (len : ℕ) → IfOk made (λ v. v ≡ value)
    → outcome ≡ result_map_both (λ v. v) scan_fault_of made → length (encode value) ≡ len
    → IsBuilt made len → Answers {T = Value} (λ v. v) outcome (short_value value)
built_answers made outcome value len is passed count built =
    rw passed (made_answers made value is (subst (λ (n : ℕ). IsBuilt made n) (sym count) built))
