-- Choices of records that were worked out by hand. No proof cites this file.
use Rattle.std.proofs.Common.{◌≡◌, ℕ, true, false, List, [], ◌∷◌, None, Some, refl}
use Rattle.std.specs.Prelude.{codes}
use Rattle.svcb_spec.specs.Params.{Pairs}
use Rattle.svcb_spec.specs.Records.{Record}
use Rattle.svcb_choose.specs.Usability.{is_usable}
use Rattle.svcb_choose.specs.Protocols.{protocols_of}
use Rattle.svcb_choose.specs.Choosing.{priorities_ascend, endpoint_of, choice}
use Rattle.svcb_choose.specs.declared.choice.Choice.TheVariants.{Alias, Unavailable, Endpoints}

abbrev record_of : ℕ → List (List ℕ) → Pairs → Record
record_of priority labels pairs = record { priority = priority; labels = labels; pairs = pairs }

abbrev foo : List (List ℕ)
foo = codes "foo" ∷ []

abbrev bar : List (List ℕ)
bar = codes "bar" ∷ []

abbrev example_com : List (List ℕ)
example_com = codes "example" ∷ codes "com" ∷ []

-- the octets of `alpn=h2`
abbrev h2 : List ℕ
h2 = 2 ∷ codes "h2"

-- ---- endpoints: the second record has a mandatory key that isn't understood

abbrev records : List Record
records =
    record_of 1 [] ((1, h2) ∷ (3, 0x20 ∷ 0xfb ∷ []) ∷ [])
    ∷ record_of 2 foo ((0, 0 ∷ 4 ∷ []) ∷ (4, 192 ∷ 0 ∷ 2 ∷ 1 ∷ []) ∷ [])
    ∷ record_of 3 bar [] ∷ []

two_endpoints : choice example_com records (1 ∷ 3 ∷ []) (codes "http/1.1" ∷ [])
    ≡ Endpoints (
    record {
      index = 0;
      target = example_com;
      port = Some 8443;
      protocols = codes "h2" ∷ codes "http/1.1" ∷ [];
    }
    ∷ record { index = 2; target = bar; port = None; protocols = codes "http/1.1" ∷ [] } ∷ [])
unfolding choice endpoint_of is_usable protocols_of
two_endpoints = refl

-- ---- no endpoints

alias : choice bar (record_of 0 foo [] ∷ record_of 1 [] [] ∷ []) [] [] ≡ Alias foo
unfolding choice
alias = refl

unavailable : choice bar (record_of 0 [] [] ∷ []) [] [] ≡ Unavailable
unfolding choice
unavailable = refl

no_record : choice bar [] [] [] ≡ Endpoints []
unfolding choice
no_record = refl

none_usable : choice bar (record_of 1 [] ((2, []) ∷ []) ∷ []) [] [] ≡ Endpoints []
unfolding choice is_usable
none_usable = refl

not_ascending : priorities_ascend (record_of 2 [] [] ∷ record_of 1 [] [] ∷ []) ≡ false
not_ascending = refl

ascending : priorities_ascend (record_of 1 [] [] ∷ record_of 1 [] [] ∷ []) ≡ true
ascending = refl

-- ---- values that a client can't use

malformed_port : is_usable (3 ∷ []) ((3, 1 ∷ []) ∷ []) ≡ false
unfolding is_usable
malformed_port = refl

no_mandatory_keys : is_usable [] ((0, []) ∷ []) ≡ false
unfolding is_usable
no_mandatory_keys = refl

mandatory_of_itself : is_usable (0 ∷ []) ((0, 0 ∷ 0 ∷ []) ∷ []) ≡ false
unfolding is_usable
mandatory_of_itself = refl

absent_mandatory_key : is_usable (3 ∷ []) ((0, 0 ∷ 3 ∷ []) ∷ []) ≡ false
unfolding is_usable
absent_mandatory_key = refl

mandatory_key : is_usable (1 ∷ []) ((0, 0 ∷ 1 ∷ []) ∷ (1, h2) ∷ []) ≡ true
unfolding is_usable
mandatory_key = refl

no_protocols : is_usable [] ((1, []) ∷ []) ≡ false
unfolding is_usable
no_protocols = refl

empty_protocol : is_usable [] ((1, 0 ∷ []) ∷ []) ≡ false
unfolding is_usable
empty_protocol = refl

-- ---- protocols

repeated_default : protocols_of (codes "h2" ∷ codes "h3" ∷ codes "h3" ∷ []) ((1, h2) ∷ [])
    ≡ codes "h2" ∷ codes "h3" ∷ []
unfolding protocols_of
repeated_default = refl

no_default : protocols_of (codes "h3" ∷ []) ((1, h2) ∷ (2, []) ∷ []) ≡ codes "h2" ∷ []
unfolding protocols_of
no_default = refl
