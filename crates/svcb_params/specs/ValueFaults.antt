-- What the push of a value that is made of its items answers.
use Rattle.std.specs.Prelude.{◌≡◌, ℕ, ◌+◌, ◌==◌, ◌||◌, nat_lt, List, [], ◌∷◌, length, Option, None, Some, Result, Ok, Err, if◌then◌else◌}
use Rattle.svcb_spec.specs.declared.Reply.{Reply}
use Rattle.svcb_spec.specs.declared.Reply.TheVariants as replies
use Rattle.svcb_list.specs.declared.errors.BuildAlpnError.{BuildAlpnError}
use Rattle.svcb_list.specs.declared.errors.BuildAlpnError.TheVariants as build_errors
use Rattle.svcb_params.specs.declared.errors.PushValueError.{PushValueError}
use Rattle.svcb_params.specs.declared.errors.PushValueError.TheVariants as value_errors
use Rattle.svcb_params.specs.declared.errors.PushAlpnError.{PushAlpnError}
use Rattle.svcb_params.specs.declared.errors.PushAlpnError.TheVariants as alpn_errors

-- Long: the value would have more than 65,535 octets. NoItems: it has no items, and its type wants
-- at least one. InvalidName: the name of a protocol has no octets or more than 255.
pub data ValueFault : Type 0 where
  NoItems : ValueFault
  Long : ValueFault
  InvalidName : ValueFault

-- the fault of a value of so many octets: it has more than 65,535
abbrev pub len_fault : ℕ → Option ValueFault
len_fault len = if nat_lt 65535 len then Some Long else None

-- the first fault of groups whose value has so many octets: there is to be at least one group
abbrev pub groups_len_fault : ℕ → Option ValueFault
groups_len_fault len = if len == 0 then Some NoItems else len_fault len

-- the first fault of protocols behind a value of so many octets; each stands behind an octet of
-- length
abbrev pub alpn_fault_behind : ℕ → List (List ℕ) → Option ValueFault
alpn_fault_behind len [] = None
alpn_fault_behind len (protocol ∷ protocols) =
    if length protocol == 0 || nat_lt 255 (length protocol) then Some InvalidName
    else if nat_lt 65535 (len + 1 + length protocol) then Some Long
    else alpn_fault_behind (len + 1 + length protocol) protocols

-- the first fault of protocols, in their order
abbrev pub alpn_fault : List (List ℕ) → Option ValueFault
alpn_fault = alpn_fault_behind 0

-- the answer is the fault, or else the reply; a failed allocation may come where there is no fault
abbrev pub IsPushValueAnswer : Result (Unit {0}) PushValueError → Option ValueFault → Reply → Type 0
IsPushValueAnswer (Ok done) fault reply = (fault ≡ None) × (reply ≡ replies.Accepted)
IsPushValueAnswer (Err value_errors.DuplicateKey) fault reply =
    (fault ≡ None) × (reply ≡ replies.DuplicateKey)
IsPushValueAnswer (Err value_errors.ShortBuf) fault reply =
    (fault ≡ None) × (reply ≡ replies.ShortBuf)
IsPushValueAnswer (Err value_errors.LongSvcParam) fault reply = fault ≡ Some Long
IsPushValueAnswer (Err value_errors.EmptyValue) fault reply = fault ≡ Some NoItems
IsPushValueAnswer (Err value_errors.NoMemory) fault reply = fault ≡ None

-- the same for protocols; a failed allocation may come before a fault
abbrev pub IsPushAlpnAnswer : Result (Unit {0}) PushAlpnError → Option ValueFault → Reply → Type 0
IsPushAlpnAnswer (Ok done) fault reply = (fault ≡ None) × (reply ≡ replies.Accepted)
IsPushAlpnAnswer (Err alpn_errors.DuplicateKey) fault reply =
    (fault ≡ None) × (reply ≡ replies.DuplicateKey)
IsPushAlpnAnswer (Err alpn_errors.ShortBuf) fault reply =
    (fault ≡ None) × (reply ≡ replies.ShortBuf)
IsPushAlpnAnswer (Err alpn_errors.LongSvcParam) fault reply = fault ≡ Some Long
IsPushAlpnAnswer (Err alpn_errors.InvalidProtocol) fault reply = fault ≡ Some InvalidName
IsPushAlpnAnswer (Err alpn_errors.NoMemory) fault reply = Unit {0}

-- the value of protocols is made exactly where they have no fault, a failed allocation excepted
abbrev pub IsAlpnBuilt : {X : Type 0} → Result X BuildAlpnError → Option ValueFault → Type 0
IsAlpnBuilt (Ok value) fault = fault ≡ None
IsAlpnBuilt (Err build_errors.InvalidProtocol) fault = fault ≡ Some InvalidName
IsAlpnBuilt (Err build_errors.LongSvcParam) fault = fault ≡ Some Long
IsAlpnBuilt (Err build_errors.ShortBuf) fault = ⊥
IsAlpnBuilt (Err build_errors.NoMemory) fault = Unit {0}
