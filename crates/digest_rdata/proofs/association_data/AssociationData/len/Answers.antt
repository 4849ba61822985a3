use Rattle.std.proofs.Common.{subst}
use Rattle.name_spec.specs.AddressLaws.{AreOctets}
use Rattle.digest_rdata.proofs.association_data.AssociationData.len.Goals as goal

pub returns-clause-is_data : goal.returns-clause-is_data
returns-clause-is_data g c =
    rw (← c.self.view_is)
    (record {
      numbers = c.octets-fixed.ensures.fit;
      octets = subst AreOctets c.as_slice-last.ensures c.count_octets.ensures.octets;
      fits = c.self.invariant;
    })
