-- The keys of service parameters.
use Rattle.std.specs.Prelude.{ℕ, List, [], ◌∷◌, codes}

-- IANA, Service Parameter Keys (SvcParamKeys)
abbrev pub parameter_keys : List (ℕ × List ℕ)
parameter_keys =
    (0, codes "mandatory")
    ∷ (1, codes "alpn")
    ∷ (2, codes "no-default-alpn")
    ∷ (3, codes "port")
    ∷ (4, codes "ipv4hint")
    ∷ (5, codes "ech")
    ∷ (6, codes "ipv6hint")
    ∷ (7, codes "dohpath")
    ∷ (8, codes "ohttp")
    ∷ (9, codes "tls-supported-groups")
    ∷ (10, codes "docpath")
    ∷ (11, codes "pvd")
    ∷ (12, codes "oots")
    ∷ []
