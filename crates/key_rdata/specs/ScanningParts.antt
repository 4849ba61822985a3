-- A part of the scan of IPSECKEY data.
use Rattle.std.specs.Prelude.{ℕ}
use Rattle.text_spec.specs.Scanning.{Scanning, scan_then}
use Rattle.text_spec.specs.Rows.{rest_base64}
use Rattle.record_spec.specs.Ipseckeys.{Ipseckey}
use Rattle.record_spec.specs.IpseckeyTexts.{scan_gateway, complete_ipseckey}

-- the gateway and the key, and with the numbers the data
abbrev pub scan_behind_numbers : ℕ → ℕ → ℕ → Scanning Ipseckey
scan_behind_numbers precedence type algorithm tokens place =
    scan_then (scan_gateway type tokens place) (λ gateway after_gateway.
    scan_then (rest_base64 tokens after_gateway) (λ key end.
    complete_ipseckey
    (record { precedence = precedence; algorithm = algorithm; gateway = gateway; key = key })
    tokens end))
