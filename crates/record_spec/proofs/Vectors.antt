-- What the definitions of these records give on worked inputs. No proof cites this file.
use Rattle.std.proofs.Common.{◌≡◌, [], ◌∷◌, Ok, Err, refl}
use Rattle.std.specs.Prelude.{codes, replicate}
use Rattle.std.specs.Fmt.{digits}
use Rattle.hex.specs.Hex as hex
use Rattle.base64.specs.Rfc4648.{encode_symbols}
use Rattle.base64.specs.Decode.{groups_error, groups_bytes, scan_steps}
use Rattle.name_spec.specs.Octets.{Short, Form}
use Rattle.name_spec.specs.Names.{name_step, name_within, name_at, pointed_step, pointed_within, is_pointed}
use Rattle.name_spec.specs.Printed.{printed_as}
use Rattle.text_spec.specs.declared.errors.ScanError.TheVariants.{EndOfEntry, BadNumber, BadBase16, WrongGateway, UnknownGateway, MissingKey}
use Rattle.text_spec.specs.declared.display_kind.DisplayKind.TheVariants.{Simple, Multiline}
use Rattle.text_spec.specs.Layouts.{laid_out_text}
use Rattle.text_spec.specs.Lexing.{step, lexemes_at}
use Rattle.text_spec.specs.Tokens.{tokens_in}
use Rattle.text_spec.specs.Scanning.{done, refused}
use Rattle.record_spec.specs.Rows.{Data, cds, cdnskey, sshfp, tlsa, zonemd, openpgpkey}
use Rattle.record_spec.specs.Wire.{data_wire, read_data}
use Rattle.record_spec.specs.Texts.{scan_data, fields_printed}
use Rattle.record_spec.specs.Documents.{data_document}
use Rattle.record_spec.specs.Ipseckeys.{NoGateway, Ipv4Gateway, NameGateway, Ipseckey, ipseckey_wire}
use Rattle.record_spec.specs.IpseckeyWire.{ipseckey_read}
use Rattle.record_spec.specs.IpseckeyTexts.{scan_ipseckey, ipseckey_printed, ipseckey_document}

-- ---- octets

key_of_cds : Data
key_of_cds = record { numbers = 10 ∷ 5 ∷ 2 ∷ []; last = codes "key" }

cds_octets : data_wire cds key_of_cds ≡ 0 ∷ 10 ∷ 5 ∷ 2 ∷ codes "key"
unfolding key_of_cds
cds_octets = refl

cds_read : read_data cds (0 ∷ 10 ∷ 5 ∷ 2 ∷ codes "key") ≡ Ok key_of_cds
unfolding key_of_cds
cds_read = refl

cds_short : read_data cds (0 ∷ 10 ∷ 5 ∷ []) ≡ Err Short
cds_short = refl

zonemd_octets : data_wire zonemd (record { numbers = 2018031900 ∷ 1 ∷ 1 ∷ []; last = [] })
    ≡ 0x78 ∷ 0x48 ∷ 0xb9 ∷ 0x1c ∷ 1 ∷ 1 ∷ []
zonemd_octets = refl

zonemd_least : read_data zonemd (0x78 ∷ 0x48 ∷ 0xb9 ∷ 0x1c ∷ 1 ∷ 1 ∷ replicate 12 7)
    ≡ Ok (record { numbers = 2018031900 ∷ 1 ∷ 1 ∷ []; last = replicate 12 7 })
zonemd_least = refl

zonemd_short : read_data zonemd (0x78 ∷ 0x48 ∷ 0xb9 ∷ 0x1c ∷ 1 ∷ 1 ∷ replicate 11 7) ≡ Err Short
zonemd_short = refl

-- ---- texts

cds_scanned : scan_data cds (tokens_in (codes "10 5 2 6b65 79")) 0 ≡ done key_of_cds 5
unfolding key_of_cds step lexemes_at hex.decode_pairs
cds_scanned = refl

cds_printed : fields_printed cds key_of_cds ≡ codes "10 5 2 6b6579"
unfolding key_of_cds digits hex.encode_with
cds_printed = refl

cdnskey_printed : fields_printed cdnskey
    (record { numbers = 10 ∷ 11 ∷ 5 ∷ []; last = codes "key" }) ≡ codes "10 11 5 a2V5"
unfolding digits encode_symbols
cdnskey_printed = refl

openpgpkey_printed : fields_printed openpgpkey (record { numbers = []; last = codes "key" })
    ≡ codes "( a2V5 )"
unfolding digits encode_symbols
openpgpkey_printed = refl

sshfp_printed : fields_printed sshfp (record { numbers = 1 ∷ 1 ∷ []; last = 0x73 ∷ 0xd3 ∷ [] })
    ≡ codes "1 1 ( 73D3 )"
unfolding digits hex.encode_with
sshfp_printed = refl

end_of_entry : scan_data cds (tokens_in (codes "10 5")) 0 ≡ refused EndOfEntry 2
unfolding step lexemes_at
end_of_entry = refl

bad_number : scan_data tlsa (tokens_in (codes "0 256 1 00")) 0 ≡ refused BadNumber 1
unfolding step lexemes_at
bad_number = refl

bad_base16 : scan_data tlsa (tokens_in (codes "0 0 1 00 0")) 0 ≡ refused BadBase16 3
unfolding step lexemes_at
bad_base16 = refl

-- ---- layouts

cds_in_lines : laid_out_text Multiline (data_document cds key_of_cds)
    ≡ codes "( 10 ; key tag\n\t5 ; algorithm: RSASHA1\n\t2 ; digest type: SHA-256\n\t6B6579 )"
unfolding key_of_cds digits hex.encode_with
cds_in_lines = refl

cds_in_a_line : laid_out_text Simple (data_document cds key_of_cds) ≡ codes "10 5 2 6B6579"
unfolding key_of_cds digits hex.encode_with
cds_in_a_line = refl

openpgpkey_without_octets : laid_out_text Multiline
    (data_document openpgpkey (record { numbers = []; last = [] })) ≡ codes "( )"
unfolding encode_symbols
openpgpkey_without_octets = refl

-- ---- IPSECKEY

without_gateway : Ipseckey
without_gateway = record { precedence = 10; algorithm = 0; gateway = NoGateway; key = [] }

to_name : Ipseckey
to_name = record {
  precedence = 10;
  algorithm = 0;
  gateway = NameGateway (codes "a" ∷ []);
  key = [];
}

no_gateway_octets : ipseckey_wire without_gateway ≡ 10 ∷ 0 ∷ 0 ∷ []
unfolding without_gateway
no_gateway_octets = refl

no_gateway_scanned : scan_ipseckey (tokens_in (codes "10 0 0 .")) 0 ≡ done without_gateway 4
unfolding without_gateway step lexemes_at groups_error groups_bytes scan_steps
no_gateway_scanned = refl

no_gateway_printed : ipseckey_printed without_gateway ≡ codes "10 0 0 . (  )"
unfolding without_gateway digits encode_symbols
no_gateway_printed = refl

name_octets : ipseckey_wire to_name ≡ 10 ∷ 3 ∷ 0 ∷ 1 ∷ 0x61 ∷ 0 ∷ []
unfolding to_name
name_octets = refl

name_read : ipseckey_read (record { message = 10 ∷ 3 ∷ 0 ∷ 1 ∷ 0x61 ∷ 0 ∷ []; pos = 0; end = 6 })
    ≡ Ok (record { value = to_name; next = 6 })
unfolding to_name name_at name_within name_step is_pointed pointed_within pointed_step
name_read = refl

name_pointed : ipseckey_read
    (record { message = 0 ∷ 10 ∷ 3 ∷ 0 ∷ 0xc0 ∷ 0 ∷ []; pos = 1; end = 6 }) ≡ Err Form
unfolding name_at name_within name_step is_pointed pointed_within pointed_step
name_pointed = refl

name_scanned : scan_ipseckey (tokens_in (codes "10 3 0 a.")) 0 ≡ done to_name 4
unfolding to_name step lexemes_at groups_error groups_bytes scan_steps
name_scanned = refl

name_printed : ipseckey_printed to_name ≡ codes "10 3 0 a. (  )"
unfolding to_name digits encode_symbols printed_as
name_printed = refl

wrong_gateway : scan_ipseckey (tokens_in (codes "10 0 2 this. a2V5")) 0 ≡ refused WrongGateway 3
unfolding step lexemes_at
wrong_gateway = refl

missing_key : scan_ipseckey (tokens_in (codes "10 0 2 .")) 0 ≡ refused MissingKey 4
unfolding step lexemes_at groups_error groups_bytes scan_steps
missing_key = refl

unknown_gateway : scan_ipseckey (tokens_in (codes "10 4 2 . a2V5")) 0 ≡ refused UnknownGateway 3
unfolding step lexemes_at
unknown_gateway = refl

no_key_read : ipseckey_read (record { message = 10 ∷ 0 ∷ 2 ∷ []; pos = 0; end = 3 }) ≡ Err Short
no_key_read = refl

unknown_type_read : ipseckey_read (record { message = 10 ∷ 4 ∷ 2 ∷ 1 ∷ []; pos = 0; end = 4 })
    ≡ Err Form
unknown_type_read = refl

to_address : Ipseckey
to_address = record {
  precedence = 10;
  algorithm = 2;
  gateway = Ipv4Gateway (192 ∷ 0 ∷ 2 ∷ 38 ∷ []);
  key = codes "key";
}

address_octets : ipseckey_wire to_address ≡ 10 ∷ 1 ∷ 2 ∷ 192 ∷ 0 ∷ 2 ∷ 38 ∷ codes "key"
unfolding to_address
address_octets = refl

address_read_again : ipseckey_read
    (record { message = 10 ∷ 1 ∷ 2 ∷ 192 ∷ 0 ∷ 2 ∷ 38 ∷ codes "key"; pos = 0; end = 10 })
    ≡ Ok (record { value = to_address; next = 10 })
unfolding to_address
address_read_again = refl

address_cut_off : ipseckey_read
    (record { message = 10 ∷ 1 ∷ 2 ∷ 192 ∷ 0 ∷ 2 ∷ []; pos = 0; end = 6 }) ≡ Err Short
address_cut_off = refl

address_printed : ipseckey_printed to_address ≡ codes "10 1 2 192.0.2.38 ( a2V5 )"
unfolding to_address digits encode_symbols
address_printed = refl

address_in_lines : laid_out_text Multiline (ipseckey_document to_address)
    ≡ codes "( 10 ; precedence\n\t1 ; ipseckey gateway type: IPV4\n\t; gateway type\n\t2 ; ipseckey algorithm: RSA\n\t; algorithm\n\t192.0.2.38 ; gateway\n\ta2V5 )"
unfolding to_address digits encode_symbols
address_in_lines = refl
