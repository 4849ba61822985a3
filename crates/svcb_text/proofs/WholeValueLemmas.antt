-- The value that octets wholly are, and else the octets.
use Rattle.std.proofs.Common.{◌≡◌, ℕ, List, None, Some, true, Result, Ok, Err, refl}
use Rattle.name_spec.specs.Octets.{Fault}
use Rattle.svcb_spec.specs.Values.{Value, Unknown}
use Rattle.svcb_spec.specs.ReadingValues.{or_unknown}
use Rattle.wire_base.specs.declared.errors.ParseError.{ParseError}
use Rattle.svcb_text.specs.WholeValues.{read_wholly}

module _ (key : ℕ) (octets : List ℕ) where
  pub some_value : (value : Value) (read : Result Value Fault)
      → Ok (Some value) ≡ read_wholly true read → value ≡ or_unknown key octets read
  some_value value (Ok found) is = cc
  some_value value (Err fault) is = cc

  pub no_value : (read : Result Value Fault) → Ok None ≡ read_wholly true read
      → Unknown key octets ≡ or_unknown key octets read
  no_value (Ok found) is = cc
  no_value (Err fault) is = refl

  pub refused : (error : ParseError) (read : Result Value Fault)
      → Err error ≡ read_wholly true read → Unknown key octets ≡ or_unknown key octets read
  refused error (Ok found) is = cc
  refused error (Err fault) is = refl
