-- Octets of the data of IPSECKEY records, composed and read.
use Rattle.std.proofs.Common.{◌≡◌, ℕ, ◌+◌, ◌-◌, ◌≤◌, Bool, true, false, cond, List, ◌++◌, length, take, drop, get_or, Result, Ok, Err, refl, sym, ap, ap₂, ◌∙◌, length-append, arith, append_assoc}
use Rattle.std.proofs.lemmas.List.{get_or-append-add}
use Rattle.std.proofs.Math.Seq.{take-append_seam, drop-append_seam, drop-append-add}
use Rattle.std.proofs.lemmas.Bool.Decides.{nat_tests}
use Rattle.std.specs.Prelude.{nat_lt, slice_index, slice_range}
use Rattle.name_spec.specs.Octets.{Fault, Short, Form, ◌>>=◌}
use Rattle.name_spec.specs.Names.{NameRead, is_pointed, name_wire}
use Rattle.name_spec.proofs.OwnedNameLaws.{name_at-wire, is_pointed-wire}
use Rattle.wire_base.specs.Input.{Input}
use Rattle.wire_base.specs.RecordReading.{DataRead}
use Rattle.wire_records.specs.Reading.{next_octets}
use Rattle.record_spec.specs.Ipseckeys.{Gateway, NoGateway, Ipv4Gateway, Ipv6Gateway, NameGateway, gateway_type, gateway_wire, Ipseckey, lacks_key, ipseckey_wire, IsGateway}
use Rattle.record_spec.specs.IpseckeyWire.{as_gateway, name_gateway, gateway_read, key_read}
use Rattle.record_laws.specs.RecordLaws.{IpseckeyReadBack}
use Rattle.record_laws.proofs.Octets.{drop-drop}

not_below : (a b : ℕ) → b ≤ a → nat_lt a b ≡ false
not_below a b h = grind (arith, nat_tests)

-- the octets from a place that stand before others
range_front : (message octets behind : List ℕ) (pos end : ℕ) → drop pos message ≡ octets ++ behind
    → pos + length octets ≡ end → slice_range message pos end ≡ octets
range_front message octets behind pos end is long =
    let count : end - pos ≡ length octets = omega arith in
    ap₂ (λ (n : ℕ) (left : List ℕ). take n left) count is ∙ take-append_seam octets behind

-- and the octets behind them
range_behind : (message octets behind : List ℕ) (pos : ℕ) → drop pos message ≡ octets ++ behind
    → drop (pos + length octets) message ≡ behind
range_behind message octets behind pos is =
    sym (drop-drop pos (length octets) message) ∙ ap (drop (length octets)) is
    ∙ drop-append_seam octets behind

-- ---- the gateway

-- an answer that a test does not refuse
unrefused : {V : Type 0} (short : Bool) (fault : Fault) (answer : Result V Fault) → short ≡ false
    → cond short (Err fault) answer ≡ answer
unrefused true fault answer e = absurd cc
unrefused false fault answer e = refl

module _ (message behind : List ℕ) (end pos : ℕ) where
  abbrev there : Input
  there = record { message = message; end = end; pos = pos }

  -- a gateway's octets are read as it
  gateway_again : (gateway : Gateway) → IsGateway gateway
      → pos + length (gateway_wire gateway) ≤ end
      → drop pos message ≡ gateway_wire gateway ++ behind
      → gateway_read (gateway_type gateway) there
      ≡ Ok (record { value = gateway; next = pos + length (gateway_wire gateway) })
  gateway_again NoGateway is within left =
      let place : pos ≡ pos + 0 = omega arith in
      ap (λ (n : ℕ). Ok (record { value = NoGateway; next = n })) place
  gateway_again (Ipv4Gateway octets) is within left =
      let long : length octets ≡ 4 = is.0 in
      let place : pos + 4 ≡ pos + length octets = omega arith in
      ap (λ (read : Result (DataRead (List ℕ)) Fault). read >>= as_gateway Ipv4Gateway)
      (unrefused (nat_lt end (pos + 4)) Short
      (Ok (record { value = next_octets 4 there; next = pos + 4 }))
      (not_below end (pos + 4) (omega arith)))
      ∙ ap₂ (λ (found : List ℕ) (n : ℕ). Ok (record { value = Ipv4Gateway found; next = n }))
      (range_front message octets behind pos (pos + 4) left (sym place)) place
  gateway_again (Ipv6Gateway octets) is within left =
      let long : length octets ≡ 16 = is.0 in
      let place : pos + 16 ≡ pos + length octets = omega arith in
      ap (λ (read : Result (DataRead (List ℕ)) Fault). read >>= as_gateway Ipv6Gateway)
      (unrefused (nat_lt end (pos + 16)) Short
      (Ok (record { value = next_octets 16 there; next = pos + 16 }))
      (not_below end (pos + 16) (omega arith)))
      ∙ ap₂ (λ (found : List ℕ) (n : ℕ). Ok (record { value = Ipv6Gateway found; next = n }))
      (range_front message octets behind pos (pos + 16) left (sym place)) place
  gateway_again (NameGateway labels) is within left =
      let next = pos + length (name_wire labels) in
      ap (λ (read : Result NameRead Fault). read >>= name_gateway there)
      (name_at-wire labels message behind end pos 0 0 is.0 within left)
      ∙ unrefused (is_pointed message end pos) Form
      (Ok (record { value = NameGateway labels; next = next }))
      (is_pointed-wire labels message behind end pos 0 is.0 within left)

-- ---- data

module _ (found : Ipseckey) (front behind : List ℕ) where
  abbrev message : List ℕ
  message = front ++ (ipseckey_wire found ++ behind)

  abbrev here : Input
  here = record {
    message = message;
    end = length front + length (ipseckey_wire found);
    pos = length front;
  }

  octet_in : (n : ℕ)
      → slice_index message (length front + n) ≡ get_or (ipseckey_wire found ++ behind) n 0
  octet_in n = get_or-append-add front (ipseckey_wire found ++ behind) n 0

  first_octet : slice_index message (length front) ≡ found.precedence
  first_octet =
      let place : length front ≡ length front + 0 = omega arith in
      ap (slice_index message) place ∙ octet_in 0

pub ipseckey_again : IpseckeyReadBack
ipseckey_again found front behind is has =
    let message = front ++ (ipseckey_wire found ++ behind) in
    let pos = length front in
    let gw = gateway_wire found.gateway in
    let end = pos + length (ipseckey_wire found) in
    let input : Input = here found front behind in
    let long = length-append gw found.key in
    let fits = is.fits in
    let next = pos + 3 + length gw in
    let left : drop (pos + 3) message ≡ gw ++ (found.key ++ behind) =
    drop-append-add front (ipseckey_wire found ++ behind) 3 ∙ append_assoc gw found.key behind in
    let left_key : drop next message ≡ found.key ++ behind =
    range_behind message gw (found.key ++ behind) (pos + 3) left in
    let gateway = gateway_again message (found.key ++ behind) end
    (pos + 3) found.gateway is.gateway (omega arith) left in
    let key = range_front message found.key behind next end left_key (omega arith) in
    let read : ℕ → ℕ → ℕ → Result (DataRead Ipseckey) Fault =
    λ p t a. gateway_read t (record { message = message; end = end; pos = pos + 3 })
    >>= key_read p a input in
    let answer : Ipseckey → Result (DataRead Ipseckey) Fault =
    λ d. Ok (record { value = d; next = end }) in
    unrefused (nat_lt end (pos + 3)) Short
    (read (slice_index message pos) (slice_index message (pos + 1))
    (slice_index message (pos + 2))) (not_below end (pos + 3) (omega arith))
    ∙ ap (λ (p : ℕ). read p (slice_index message (pos + 1)) (slice_index message (pos + 2)))
    (first_octet found front behind)
    ∙ ap₂ (λ (t a : ℕ). read found.precedence t a) (octet_in found front behind 1)
    (octet_in found front behind 2)
    ∙ ap (λ (g : Result (DataRead Gateway) Fault). g
    >>= key_read found.precedence found.algorithm input) gateway
    ∙ ap (λ (k : List ℕ). cond (lacks_key found.algorithm k) (Err Short)
    (cond (nat_lt 65535 (end - pos)) (Err Form)
    (answer (record {
      precedence = found.precedence;
      algorithm = found.algorithm;
      gateway = found.gateway;
      key = k;
    })))) key
    ∙ unrefused (lacks_key found.algorithm found.key) Short
    (cond (nat_lt 65535 (end - pos)) (Err Form) (answer found)) has
    ∙ unrefused (nat_lt 65535 (end - pos)) Form (answer found)
    (not_below 65535 (end - pos) (omega arith))
