use Rattle.rdata_union.proofs.laws.ref_is_data.Goals as goal

pub returns-in-A : goal.returns-in-A
returns-in-A c = rw c.in-A.is (λ keyed. c.ipv4_is_address.ensures)

pub returns-in-Aaaa : goal.returns-in-Aaaa
returns-in-Aaaa c = rw c.in-Aaaa.is (λ keyed. c.ipv6_is_address.ensures)

pub returns-in-Sshfp : goal.returns-in-Sshfp
returns-in-Sshfp c = rw c.in-Sshfp.is (λ keyed. c.fields_are_data.ensures)

pub returns-in-Ipseckey : goal.returns-in-Ipseckey
returns-in-Ipseckey c = rw c.in-Ipseckey.is (λ keyed. (c.ipseckey_is_data.ensures, keyed))

pub returns-in-Tlsa : goal.returns-in-Tlsa
returns-in-Tlsa c = rw c.in-Tlsa.is (λ keyed. c.fields_are_data-in-Tlsa.ensures)

pub returns-in-Cds : goal.returns-in-Cds
returns-in-Cds c = rw c.in-Cds.is (λ keyed. c.fields_are_data-in-Cds.ensures)

pub returns-in-Cdnskey : goal.returns-in-Cdnskey
returns-in-Cdnskey c = rw c.in-Cdnskey.is (λ keyed. c.fields_are_data-in-Cdnskey.ensures)

pub returns-in-Openpgpkey : goal.returns-in-Openpgpkey
returns-in-Openpgpkey c = rw c.in-Openpgpkey.is (λ keyed. c.fields_are_data-in-Openpgpkey.ensures)

pub returns-in-Zonemd : goal.returns-in-Zonemd
returns-in-Zonemd c = rw c.in-Zonemd.is (λ keyed. c.fields_are_data-in-Zonemd.ensures)

pub returns-in-Svcb : goal.returns-in-Svcb
returns-in-Svcb c = rw c.in-Svcb.is (λ keyed. c.made_of_octets.ensures)

pub returns-in-Https : goal.returns-in-Https
returns-in-Https c = rw c.in-Https.is (λ keyed. c.made_of_octets-in-Https.ensures)

pub returns-in-Unknown : goal.returns-in-Unknown
returns-in-Unknown c = rw c.in-Unknown.is
    (λ keyed. (c.unknown_is_octets.ensures.octets, c.unknown_is_octets.ensures.fits))
