-- The header of a message (RFC 1035, section 4.1.1; `ad` and `cd`: RFC 4035, section 3.2).
use Rattle.std.specs.Prelude.{ℕ, ◌/◌, ◌%◌, ◌^◌, ◌==◌, Bool, List}
use Rattle.name_spec.specs.Octets.{number_at}
use Rattle.dns_message.specs.declared.header.Header.{Header}

-- whether the bit of a number that stands for 2 ^ place is set
abbrev pub is_bit_set : ℕ → ℕ → Bool
is_bit_set number place = number / 2 ^ place % 2 == 1

-- the header whose second number, from the bit for 2 ^ 15 on, holds qr, four bits of the opcode,
-- aa, tc, rd, ra, a bit that is kept free, ad, cd, and four bits of the rcode
abbrev pub header_of : List ℕ → Header
header_of message =
    let flags = number_at message 2 in
    record {
      id = number_at message 0;
      qr = is_bit_set flags 15;
      opcode = flags / 2 ^ 11 % 16;
      aa = is_bit_set flags 10;
      tc = is_bit_set flags 9;
      rd = is_bit_set flags 8;
      ra = is_bit_set flags 7;
      ad = is_bit_set flags 5;
      cd = is_bit_set flags 4;
      rcode = flags % 16;
      qdcount = number_at message 4;
      ancount = number_at message 6;
      nscount = number_at message 8;
      arcount = number_at message 10;
    }
