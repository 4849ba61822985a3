-- How the data of IPSECKEY records is read (RFC 4025, section 2).
use Rattle.std.specs.Prelude.{ℕ, ◌+◌, ◌-◌, ◌==◌, List, Result, Ok, Err, nat_lt, slice_index, slice_range, if◌then◌else◌}
use Rattle.name_spec.specs.Octets.{Fault, Short, Form, ◌>>=◌}
use Rattle.name_spec.specs.Names.{NameRead, name_at, is_pointed}
use Rattle.wire_base.specs.Input.{Input}
use Rattle.wire_base.specs.RecordReading.{DataRead}
use Rattle.wire_records.specs.Reading.{address_read}
use Rattle.record_spec.specs.Ipseckeys.{Gateway, NoGateway, Ipv4Gateway, Ipv6Gateway, NameGateway, Ipseckey, lacks_key}

-- what was read, as a gateway, and the same place behind it
abbrev pub as_gateway : (List ℕ → Gateway) → DataRead (List ℕ) → Result (DataRead Gateway) Fault
as_gateway gateway found = Ok (record { value = gateway found.value; next = found.next })

-- a name that stands there whole; the fault of a pointer comes behind those of the name
abbrev pub name_gateway : Input → NameRead → Result (DataRead Gateway) Fault
name_gateway input name =
    if is_pointed input.message input.end input.pos then Err Form
    else Ok (record { value = NameGateway name.labels; next = name.next })

-- the gateway of a type at a place, and the place behind it
abbrev pub gateway_read : ℕ → Input → Result (DataRead Gateway) Fault
gateway_read type input =
    if type == 0 then Ok (record { value = NoGateway; next = input.pos })
    else if type == 1 then address_read 4 input >>= as_gateway Ipv4Gateway
    else if type == 2 then address_read 16 input >>= as_gateway Ipv6Gateway
    else if type == 3 then name_at input.message input.end input.pos 0 0 >>= name_gateway input
    else Err Form

-- the key in all octets left behind the gateway, and with it the data, which began at the input's
-- place
abbrev pub key_read : ℕ → ℕ → Input → DataRead Gateway → Result (DataRead Ipseckey) Fault
key_read precedence algorithm input gateway =
    let key = slice_range input.message gateway.next input.end in
    if lacks_key algorithm key then Err Short
    else if nat_lt 65535 (input.end - input.pos) then Err Form
    else Ok (record {
      value = record {
        precedence = precedence;
        algorithm = algorithm;
        gateway = gateway.value;
        key = key;
      };
      next = input.end;
    })

-- the data in all octets before the end of the data, and the place behind it
abbrev pub ipseckey_read : Input → Result (DataRead Ipseckey) Fault
ipseckey_read input =
    let precedence = slice_index input.message input.pos in
    let type = slice_index input.message (input.pos + 1) in
    let algorithm = slice_index input.message (input.pos + 2) in
    if nat_lt input.end (input.pos + 3) then Err Short
    else gateway_read type (record input { pos = input.pos + 3 })
    >>= key_read precedence algorithm input
