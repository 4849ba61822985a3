-- A value whose octets are borrowed for writing.
use Rattle.std.specs.Prelude.{ℕ, List}
use Rattle.std.specs.Borrow.{Lends, MutBor, Fml, u8, Array}
use Rattle.svcb_spec.specs.Values.{Value, Unknown, key_of, encode}
use Rattle.wire_base.specs.Lending.{written_over}
use Rattle.svcb_value.specs.contracts.unknown.UnknownSvcParam.{the_row}

-- the value keeps its key, and its octets end with what is left behind the reference written over
-- them
abbrev pub LendsValueOctets : MutBor Value → MutBor (List ℕ) → Fml
LendsValueOctets value lent =
    Lends the_row (Array u8 0) value lent
    (λ written. Unknown (key_of value.now) (written_over (encode value.now) written))
