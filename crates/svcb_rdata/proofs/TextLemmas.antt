-- What a scan of the tokens of a printed text answers, and that data is made of octets.
use Rattle.std.proofs.Common.{◌≡◌, ℕ, ◌≤◌, List, length, subst}
use Rattle.std.specs.Prelude.{Result}
use Rattle.name_spec.specs.Names.{name_wire}
use Rattle.name_spec.specs.AddressLaws.{AreOctets}
use Rattle.svcb_spec.specs.Params.{wire}
use Rattle.svcb_spec.specs.Records.{Record, IsRecord}
use Rattle.text_spec.specs.declared.errors.ScanError.{ScanError}
use Rattle.text_spec.specs.ReadingBack.{ReadsBack}
use Rattle.text_spec.specs.Scanning.{Scan, Answers}
use Rattle.text_spec.specs.ScanningLaws as laws
use Rattle.svcb_spec.specs.DataTexts.{svcb_printed, svcb_data}
use Rattle.svcb_laws.specs.DataTextLaws.{IsRecordOfOctets}
use Rattle.svcb_laws.proofs.DataOctets.{is_data}
use Rattle.svcb_laws.proofs.DataTexts.{text_again}

-- a call that scans data reads its printed text back
pub reads_back : (old : Scan) (result : Result Record ScanError) → old.taken ≤ length old.tokens
    → Answers (λ found. found) result (svcb_data old.tokens old.taken).outcome
    → ReadsBack (λ found. found) IsRecordOfOctets svcb_printed old result
reads_back =
    laws.reads_back svcb_data (λ found. found) IsRecordOfOctets svcb_printed
    (λ found is. (text_again found is).scanned)

-- data is made of octets, where those of its target and its parameters are
pub data_of_octets : (found : Record) (target parameters : List ℕ) → IsRecord found
    → target ≡ name_wire found.labels → parameters ≡ wire found.pairs
    → AreOctets target → AreOctets parameters → IsRecordOfOctets found
data_of_octets found target parameters is target_is parameters_are small few =
    is_data found is (subst AreOctets target_is small) (subst AreOctets parameters_are few)
