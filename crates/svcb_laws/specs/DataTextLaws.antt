-- Laws of the texts of SVCB and HTTPS data, which the functions of `src/data_texts.rt` state.
use Rattle.std.specs.Prelude.{◌≡◌, ℕ, ◌+◌, ◌≤◌, Ok, List, [], ◌∷◌, ◌++◌, length}
use Rattle.std.specs.List.{flat_map}
use Rattle.name_spec.specs.AddressLaws.{AreOctets}
use Rattle.svcb_spec.specs.Records.{Record, IsRecord, read}
use Rattle.text_spec.specs.declared.display_kind.DisplayKind.{DisplayKind}
use Rattle.text_spec.specs.declared.lexeme.Symbol.{Symbol}
use Rattle.text_spec.specs.Layouts.{laid_out_text}
use Rattle.text_spec.specs.Pieces.{HasTokens}
use Rattle.text_spec.specs.Scanning.{done}
use Rattle.svcb_laws.specs.ParamTextLaws.{HaveOctets}
use Rattle.svcb_spec.specs.DataTexts.{svcb_printed, svcb_data}
use Rattle.svcb_spec.specs.DataDocuments.{svcb_document}

-- a record, and what its labels and values are made of are octets
pub record IsRecordOfOctets (found : Record) : Type 0 where
  pub is_record : IsRecord found
  pub labels : AreOctets (flat_map (λ label. label) found.labels)
  pub values : HaveOctets found.pairs

-- record data that was read of octets is such a record
abbrev pub ReadIsData : Type 0
ReadIsData = (message : List ℕ) (start len : ℕ) (found : Record) → AreOctets message
    → start + len ≤ length message
    → read message start len ≡ Ok found → IsRecordOfOctets found

-- behind any tokens, these are scanned as exactly this record, and all of them are taken
abbrev pub AreTokensOf : List (List Symbol) → Record → Type 0
AreTokensOf tokens found = (front : List (List Symbol))
    → svcb_data (front ++ tokens) (length front) ≡ done found (length front + length tokens)

-- the text has tokens, and those that it has are scanned as exactly this record
pub record IsRecordText (text : List ℕ) (found : Record) : Type 0 where
  pub some : (tokens : List (List Symbol)) × HasTokens text tokens
  pub scanned : (tokens : List (List Symbol)) → HasTokens text tokens → AreTokensOf tokens found

-- the printed text of data is read back as that data
abbrev pub DataTextReadBack : Type 0
DataTextReadBack = (found : Record) → IsRecordOfOctets found
    → IsRecordText (svcb_printed found) found

-- and so is its line
abbrev pub DataLineReadBack : Type 0
DataLineReadBack = (found : Record) → IsRecordOfOctets found
    → IsRecordText (svcb_printed found ++ 10 ∷ []) found

-- and its text in each layout
abbrev pub DataLayoutReadBack : Type 0
DataLayoutReadBack = (kind : DisplayKind) (found : Record) → IsRecordOfOctets found
    → IsRecordText (laid_out_text kind (svcb_document found)) found

-- a text and its line have the same tokens
abbrev pub LineHasTokens : Type 0
LineHasTokens = (text : List ℕ) (tokens : List (List Symbol)) → HasTokens text tokens
    → HasTokens (text ++ 10 ∷ []) tokens
