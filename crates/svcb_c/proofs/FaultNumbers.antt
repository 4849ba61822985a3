-- A fault is told by its own status.
use Rattle.std.proofs.Common.{◌≡◌, ◌≢◌, ℕ, List, Option, Some, None, Bor, refl, arith}
use Rattle.std.specs.List.{slice_get}
use Rattle.std.specs.Option.{option_copied}
use Rattle.std.specs.Slice.{IsItemAt}
use Rattle.std.proofs.lemmas.Option.{slice_get_past, slice_get_read}
use Rattle.text_spec.specs.declared.errors.ScanError.{ScanError}
use Rattle.text_spec.specs.declared.errors.ScanError.TheVariants as errors
use Rattle.svcb_c.specs.Statuses.{scan_fault_status, told_fault}

pub told_again : (fault : ScanError) → fault ≢ errors.NoMemory
    → told_fault (scan_fault_status fault) ≡ Some fault
told_again errors.EndOfEntry apart = refl
told_again errors.BadSymbol apart = refl
told_again errors.BadEscape apart = refl
told_again errors.OpenQuote apart = refl
told_again errors.BadBracket apart = refl
told_again errors.BadNumber apart = refl
told_again errors.BadName apart = refl
told_again errors.BadAddress apart = refl
told_again errors.BadBase64 apart = refl
told_again errors.BadBase16 apart = refl
told_again errors.EmptyParam apart = refl
told_again errors.BadKeyChar apart = refl
told_again errors.UnknownKey apart = refl
told_again errors.MissingValue apart = refl
told_again errors.UnexpectedValue apart = refl
told_again errors.BadListEscape apart = refl
told_again errors.EmptyItem apart = refl
told_again errors.LongItem apart = refl
told_again errors.BadPort apart = refl
told_again errors.KeyZeroInMandatory apart = refl
told_again errors.DuplicateItem apart = refl
told_again errors.DuplicateKey apart = refl
told_again errors.MandatoryMissing apart = refl
told_again errors.BadUtf8 apart = refl
told_again errors.LongValue apart = refl
told_again errors.LongRecord apart = refl
told_again errors.WrongGateway apart = refl
told_again errors.UnknownGateway apart = refl
told_again errors.MissingKey apart = refl
told_again errors.UnknownType apart = refl
told_again errors.TrailingTokens apart = refl
told_again errors.NoMemory apart = absurd (apart refl)

-- a lent element is the one at its place
pub item_copied : {X : Type 0} → (xs : List X) (i : ℕ) (r : Option (Bor X)) → IsItemAt xs i r
    → option_copied r ≡ slice_get xs i
item_copied xs i None is = grind (arith, slice_get_past)
item_copied xs i (Some x) is = grind (arith, slice_get_read)
