-- The sum behind a key tag.
use Rattle.std.proofs.Common.{◌≡◌, ℕ, ◌+◌, ◌*◌, ◌<◌, true, ap, arith}
use Rattle.digest_rdata.specs.declared.cdnskey.CdnskeyFields.{CdnskeyFields}
use Rattle.digest_rdata.specs.FieldsView.{FieldsView}
use Rattle.cds_check.specs.KeyTags.{key_octets, octet_sum, with_carry, key_tag}

-- the fixed fields are the first four octets
sum_fields : (key : FieldsView CdnskeyFields) (sum : ℕ)
    → key.fields.flags < 65536 → key.fields.protocol < 256 → key.fields.algorithm < 256
    → sum ≡ octet_sum true key.last
    → key.fields.flags + (key.fields.protocol * 256 + key.fields.algorithm) + sum
    ≡ octet_sum true (key_octets key)
sum_fields key sum flags protocol algorithm is = omega (arith, is)

-- so the tag comes from the fields
pub tag_of_fields : (key : FieldsView CdnskeyFields) (sum : ℕ)
    → key.fields.flags < 65536 → key.fields.protocol < 256 → key.fields.algorithm < 256
    → sum ≡ octet_sum true key.last
    → with_carry (key.fields.flags + (key.fields.protocol * 256 + key.fields.algorithm) + sum)
    ≡ key_tag key
unfolding key_tag
tag_of_fields key sum flags protocol algorithm is =
    ap with_carry (sum_fields key sum flags protocol algorithm is)
