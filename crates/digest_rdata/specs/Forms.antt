-- What the code knows of a type of record.
use Rattle.std.specs.Prelude.{◌≡◌}
use Rattle.record_spec.specs.Rows.{Row, fixed_len}
use Rattle.digest_rdata.specs.declared.record_form.RecordForm.{RecordForm}

-- it is what the definition of the type says
pub record IsFormOf (row : Row) (form : RecordForm) : Type 0 where
  pub rtype : form.rtype ≡ row.rtype
  pub fixed_len : form.fixed_len ≡ fixed_len row.fields
  pub least : form.least ≡ row.least
  pub encoding : form.encoding ≡ row.encoding
  pub in_brackets : form.in_brackets ≡ row.in_brackets
