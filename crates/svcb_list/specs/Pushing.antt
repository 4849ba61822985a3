-- What a push onto a list of protocols answers.
use Rattle.std.specs.Prelude.{◌≡◌, ℕ, ◌+◌, ◌<◌, ◌≤◌, true, List, length, Result, Ok, Err}
use Rattle.svcb_spec.specs.BuildingValues.{IsProtocolLength}
use Rattle.svcb_spec.specs.Values.{protocols_wire}
use Rattle.svcb_spec.specs.ReadingValues.{protocols, are_whole}
use Rattle.svcb_list.specs.declared.errors.BuildAlpnError.{BuildAlpnError}
use Rattle.svcb_list.specs.declared.errors.BuildAlpnError.TheVariants.{InvalidProtocol, LongSvcParam, ShortBuf, NoMemory}

-- A push of a protocol of `len` octets onto a value of `old` octets: done where the protocol is one
-- and the value stays within 65,535 octets, unless allocation fails. There is no other error.
abbrev pub IsPushed : {X : Type 0} → Result X BuildAlpnError → ℕ → ℕ → Type 0
IsPushed (Ok done) old len = IsProtocolLength len × (old + 1 + len ≤ 65535)
IsPushed (Err InvalidProtocol) old len = IsProtocolLength len → ⊥
IsPushed (Err LongSvcParam) old len = IsProtocolLength len × (65535 < old + 1 + len)
IsPushed (Err NoMemory) old len = IsProtocolLength len × (old + 1 + len ≤ 65535)
IsPushed (Err ShortBuf) old len = ⊥

-- octets are whole protocols, each behind its length, and at most 65,535
pub record AreProtocols (octets : List ℕ) : Type 0 where
  pub encodes : protocols_wire (protocols octets) ≡ octets
  pub whole : are_whole octets ≡ true
  pub fits : length octets < 65536
