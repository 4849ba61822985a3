-- The fields of data are found again in its numbers.
use Rattle.std.proofs.Common.{◌≡◌, ℕ, List, [], ◌∷◌, Option, Some, None, refl, sym, ap, ◌∙◌}
use Rattle.std.specs.Prelude.{option_and_then}
use Rattle.std.specs.Option.{option_map}
use Rattle.record_spec.specs.Rows as rows
use Rattle.record_spec.specs.Rows.{Data}
use Rattle.digest_rdata.specs.FieldsView.{FieldsView, data_of}
use Rattle.digest_rdata.specs.declared.cds.CdsFields.{CdsFields}
use Rattle.digest_rdata.specs.declared.cdnskey.CdnskeyFields.{CdnskeyFields}
use Rattle.commands.specs.Cds.{cds_of_numbers, key_of_numbers, cds_in, key_in}
use Rattle.commands.specs.DataLines.{fields_line}

abbrev cds_numbers : CdsFields → List ℕ
cds_numbers fields = fields.key_tag ∷ fields.algorithm ∷ fields.digest_type ∷ []

abbrev key_numbers : CdnskeyFields → List ℕ
key_numbers fields = fields.flags ∷ fields.protocol ∷ fields.algorithm ∷ []

cds_back : (found : Option (FieldsView CdsFields))
    → option_and_then (λ (data_is : Data). cds_of_numbers data_is.numbers data_is.last)
    (option_map (data_of cds_numbers) found) ≡ found
cds_back None = refl
cds_back (Some found) = refl

key_back : (found : Option (FieldsView CdnskeyFields))
    → option_and_then (λ (data_is : Data). key_of_numbers data_is.numbers data_is.last)
    (option_map (data_of key_numbers) found) ≡ found
key_back None = refl
key_back (Some found) = refl

pub cds_again : (found : Option (FieldsView CdsFields)) (digits : List ℕ)
    → option_map (data_of cds_numbers) found ≡ fields_line rows.cds digits
    → found ≡ cds_in digits
cds_again found digits is =
    sym (cds_back found)
    ∙ ap (λ (o : Option Data).
    option_and_then (λ (data_is : Data). cds_of_numbers data_is.numbers data_is.last) o) is

pub key_again : (found : Option (FieldsView CdnskeyFields)) (digits : List ℕ)
    → option_map (data_of key_numbers) found ≡ fields_line rows.cdnskey digits
    → found ≡ key_in digits
key_again found digits is =
    sym (key_back found)
    ∙ ap (λ (o : Option Data).
    option_and_then (λ (data_is : Data). key_of_numbers data_is.numbers data_is.last) o) is
