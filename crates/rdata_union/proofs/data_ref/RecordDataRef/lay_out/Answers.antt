use Rattle.rdata_union.proofs.data_ref.RecordDataRef.lay_out.Goals as goal

pub returns-in-Ipseckey : goal.returns-in-Ipseckey
returns-in-Ipseckey c = rw c.in-Ipseckey.is c.fmt_zone-in-Ipseckey.ensures
