-- The data of IPSECKEY records, as contracts see it.
use Rattle.std.specs.Prelude.{ℕ, List}
use Rattle.record_spec.specs.Ipseckeys as spec
use Rattle.key_rdata.specs.declared.gateway.IpseckeyGateway.{IpseckeyGateway}
use Rattle.key_rdata.specs.declared.ipseckey_ref.IpseckeyRef.{IpseckeyRef}
use Rattle.key_rdata.specs.GatewayView.{gateway_of, gateway_of_ref}

-- the data of these fields
abbrev pub ipseckey_of : ℕ → ℕ → IpseckeyGateway → List ℕ → spec.Ipseckey
ipseckey_of precedence algorithm gateway key =
    record {
      precedence = precedence;
      algorithm = algorithm;
      gateway = gateway_of gateway;
      key = key;
    }

-- the data that is seen in a message
abbrev pub ipseckey_of_ref : IpseckeyRef → spec.Ipseckey
ipseckey_of_ref found = record {
  precedence = found.precedence;
  algorithm = found.algorithm;
  gateway = gateway_of_ref found.gateway;
  key = found.key.now;
}
