-- The fields of ZONEMD data are found again in its numbers.
use Rattle.std.proofs.Common.{◌≡◌, ℕ, List, [], ◌∷◌, Option, Some, None, refl, sym, ap, ◌∙◌}
use Rattle.std.specs.Prelude.{option_and_then}
use Rattle.std.specs.Option.{option_map}
use Rattle.std.specs.Result.{result_ok}
use Rattle.record_spec.specs.Rows as rows
use Rattle.record_spec.specs.Rows.{Data}
use Rattle.record_spec.specs.Wire.{read_data}
use Rattle.digest_rdata.specs.FieldsView.{FieldsView, data_of}
use Rattle.digest_rdata.specs.declared.zonemd.ZonemdFields.{ZonemdFields}
use Rattle.commands.specs.Zonemd.{zonemd_of_numbers, zonemd_read}

abbrev zonemd_numbers : ZonemdFields → List ℕ
zonemd_numbers fields = fields.serial ∷ fields.scheme ∷ fields.algorithm ∷ []

zonemd_back : (found : Option (FieldsView ZonemdFields))
    → option_and_then (λ (data_is : Data). zonemd_of_numbers data_is.numbers data_is.last)
    (option_map (data_of zonemd_numbers) found) ≡ found
zonemd_back None = refl
zonemd_back (Some found) = refl

pub zonemd_again : (found : Option (FieldsView ZonemdFields)) (octets : List ℕ)
    → option_map (data_of zonemd_numbers) found ≡ result_ok (read_data rows.zonemd octets)
    → found ≡ zonemd_read octets
zonemd_again found octets is =
    sym (zonemd_back found)
    ∙ ap (λ (o : Option Data).
    option_and_then (λ (data_is : Data). zonemd_of_numbers data_is.numbers data_is.last) o) is
