-- Laws of the commands, which the functions of `src/laws.rt` state.
use Rattle.std.specs.Prelude.{◌≡◌, ℕ, List, Option, Some, None, Ok}
use Rattle.hex.specs.Hex.{encode_lower}
use Rattle.svcb_spec.specs.Records.{Record}
use Rattle.svcb_laws.specs.DataTextLaws.{IsRecordOfOctets}
use Rattle.record_spec.specs.RecordData.{RecordData, Svcb, Https, union_wire}
use Rattle.record_spec.specs.UnionTexts.{union_printed}
use Rattle.edit_program.specs.Commands.{due}
use Rattle.input_lines.specs.ExitCodes.{exit_code}
use Rattle.input_lines.specs.Report.{Answer, done_answer, line}
use Rattle.edit_program.specs.Show.{spelled_octets, data_in}
use Rattle.input_lines.specs.declared.exit_status.ExitStatus.TheVariants as exit
use Rattle.edit_program.specs.declared.words.Command.TheVariants.{Show, Scan, Gen}

-- the octets of data in hexadecimal
abbrev pub data_hexadecimal : RecordData → List ℕ
data_hexadecimal found = encode_lower (union_wire found)

-- what is due to `show`, and to `scan`, with an input
abbrev pub due_to_show : ℕ → List ℕ → Option Answer
due_to_show rtype input = due (Some (Show rtype)) (Some input)

abbrev pub due_to_scan : ℕ → List ℕ → Option Answer
due_to_scan rtype input = due (Some (Scan rtype)) (Some input)

-- an input of `show` spells octets that are read as data, and a text is scanned as that data
pub record IsScannedBack (rtype : ℕ) (input text : List ℕ) : Type 0 where
  pub octets : List ℕ
  pub found : RecordData
  pub spelled : spelled_octets input ≡ Ok octets
  pub read : data_in rtype octets ≡ Ok found
  pub scanned : due_to_scan rtype text ≡ Some (done_answer (data_hexadecimal found))

-- wherever `show` writes a text for a type, `scan` gives of it exactly the octets of the data that
-- was read
abbrev pub ShownIsScannedBack : ℕ → Type 0
ShownIsScannedBack rtype = (input : List ℕ) (answer : Answer)
    → due_to_show rtype input ≡ Some answer
    → answer.status ≡ exit_code exit.Done → IsScannedBack rtype input answer.report

-- so it is for every type number
abbrev pub TypesAreScannedBack : Type 0
TypesAreScannedBack = (rtype : ℕ) → ShownIsScannedBack rtype

-- `show` writes a text for data, and `scan` gives the same octets back
pub record IsDataBack (rtype : ℕ) (found : RecordData) : Type 0 where
  pub shown : due_to_show rtype (line (data_hexadecimal found))
      ≡ Some (done_answer (union_printed found))
  pub scanned : due_to_scan rtype (line (union_printed found))
      ≡ Some (done_answer (data_hexadecimal found))

-- so it is for any data of SVCB and of HTTPS
abbrev pub AllDataBack : Type 0
AllDataBack = (found : Record) → IsRecordOfOctets found → IsDataBack 64 (Svcb found)
    × IsDataBack 65 (Https found)

-- an answer is known, and says that the command was done
abbrev pub IsDone : Option Answer → Type 0
IsDone None = ⊥
IsDone (Some answer) = answer.status ≡ exit_code exit.Done

-- the answer that is due to `gen` says so for any count and any source
abbrev pub GenIsDone : Type 0
GenIsDone = (count : ℕ) (left : Option (List ℕ)) → IsDone (due (Some (Gen count)) left)
