-- Lines that are records of a zone.
use Rattle.std.specs.Prelude.{ℕ, ◌^◌, nat_lt, if◌then◌else◌, Option, List, [], length}
use Rattle.std.specs.Result.{result_ok}
use Rattle.text_spec.specs.declared.errors.ScanError.TheVariants.{BadBase16, TrailingTokens}
use Rattle.text_spec.specs.Encodings.{base16_of}
use Rattle.text_spec.specs.Rows.{name, number_below}
use Rattle.text_spec.specs.Scanning.{Scanned, Scanning, one, by_octets, scan_then, done, refused}
use Rattle.zonemd_check.specs.ZoneRecordView.{ZoneRecordView}
use Rattle.input_lines.specs.Tokens.{entry_scanned}

-- the next token in base16, as at most 65,535 octets; none where no token is left
abbrev pub data_token : Scanning (List ℕ)
data_token tokens place =
    if nat_lt place (length tokens) then one (by_octets base16_of BadBase16) tokens place
    else done [] place

-- nothing may be left behind a record, whose data fits
abbrev pub whole_record : {A : Type 0} → List A → ZoneRecordView → ℕ → Scanned ZoneRecordView
whole_record tokens found end =
    if nat_lt end (length tokens) then refused TrailingTokens end
    else if nat_lt 65535 (length found.record_data.octets) then refused BadBase16 end
    else done found end

-- owner, type, class, TTL, and data in base16, which may be left out where it has no octets
abbrev pub zone_record : Scanning ZoneRecordView
zone_record tokens place =
    scan_then (name tokens place) (λ owner rtype_place.
    scan_then (number_below (2 ^ 16) tokens rtype_place) (λ rtype class_place.
    scan_then (number_below (2 ^ 16) tokens class_place) (λ class ttl_place.
    scan_then (number_below (2 ^ 32) tokens ttl_place) (λ ttl data_place.
    scan_then (data_token tokens data_place) (λ octets end.
    whole_record tokens (record {
      owner = owner;
      class = class;
      ttl = ttl;
      record_data = record { rtype = rtype; octets = octets };
    }) end)))))

-- the record of a line that is an entry
abbrev pub record_line : List ℕ → Option ZoneRecordView
record_line line = result_ok (entry_scanned zone_record line)
