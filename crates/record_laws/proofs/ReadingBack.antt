-- A call that scans as these definitions do reads texts back. Offered to the crates above.
use Rattle.std.proofs.Common.{◌≡◌, ℕ, ◌≤◌, length, subst}
use Rattle.std.specs.Prelude.{Result}
use Rattle.text_spec.specs.declared.errors.ScanError.{ScanError}
use Rattle.text_spec.specs.Scanning.{Scan, Answers}
use Rattle.text_spec.specs.ReadingBack.{ReadsBack}
use Rattle.text_spec.specs.ScanningLaws.{reads_back}
use Rattle.record_spec.specs.Rows.{Row, Data, IsAssociationData}
use Rattle.record_spec.specs.Texts.{scan_data, fields_printed}
use Rattle.record_spec.specs.Ipseckeys.{Ipseckey}
use Rattle.record_spec.specs.IpseckeyTexts.{scan_ipseckey, ipseckey_printed}
use Rattle.record_spec.specs.RecordData.{RecordData, rtype_of}
use Rattle.record_spec.specs.UnionTexts.{union_scan, union_printed}
use Rattle.record_laws.specs.RecordLaws.{IsLawfulRow, IsKeyedIpseckey, IsScannedAs}
use Rattle.record_laws.specs.UnionLaws.{IsDataUnder}
use Rattle.record_laws.proofs.Data.{data_text_again}
use Rattle.record_laws.proofs.IpseckeyTexts.{ipseckey_text_again}
use Rattle.record_laws.proofs.Types.{types_are}
use Rattle.record_laws.proofs.UnionTexts.{union_text_again}

module _ {T : Type 0} where
  pub fields_read_back : (view : T → Data) (row : Row) → IsLawfulRow row
      → (old : Scan) (result : Result T ScanError) → old.taken ≤ length old.tokens
      → Answers view result (scan_data row old.tokens old.taken).outcome
      → ReadsBack view (IsAssociationData row) (fields_printed row) old result
  fields_read_back view row is_row =
      reads_back (scan_data row) view (IsAssociationData row) (fields_printed row)
      (λ found is. (data_text_again row is_row found is).behind)

  pub ipseckey_read_back : (view : T → Ipseckey) (old : Scan) (result : Result T ScanError)
      → old.taken ≤ length old.tokens
      → Answers view result (scan_ipseckey old.tokens old.taken).outcome
      → ReadsBack view IsKeyedIpseckey ipseckey_printed old result
  ipseckey_read_back view =
      reads_back scan_ipseckey view IsKeyedIpseckey ipseckey_printed
      (λ found is. (ipseckey_text_again found is.0 is.1).behind)

  pub union_read_back : (view : T → RecordData) (rtype : ℕ) (old : Scan)
      (result : Result T ScanError) → old.taken ≤ length old.tokens
      → Answers view result (union_scan rtype old.tokens old.taken).outcome
      → ReadsBack view (IsDataUnder rtype) union_printed old result
  union_read_back view rtype =
      reads_back (union_scan rtype) view (IsDataUnder rtype) union_printed
      (λ found is. (under found rtype is.1
      (union_text_again data_text_again types_are ipseckey_text_again found is.0)).behind)
    where
      under : (found : RecordData) (rtype : ℕ) → rtype_of found ≡ rtype
          → IsScannedAs (union_scan (rtype_of found)) (union_printed found) found
          → IsScannedAs (union_scan rtype) (union_printed found) found
      under found rtype is text =
          subst (λ n. IsScannedAs (union_scan n) (union_printed found) found) is text
