-- The data of a record, as its callers see it.
use Rattle.std.specs.Prelude.{ℕ, List}
use Rattle.record_spec.specs.Rows.{Data}

-- the fixed fields, and the octets of the last field
pub record FieldsView (F : Type 0) : Type 0 where
  pub fields : F
  pub last : List ℕ

-- the same with the fixed fields as their numbers
abbrev pub data_of : {F : Type 0} → (F → List ℕ) → FieldsView F → Data
data_of numbers found = record { numbers = numbers found.fields; last = found.last }
