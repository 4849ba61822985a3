-- The tables of the registries.
use Rattle.std.specs.Prelude.{ℕ, List, [], ◌∷◌, codes}

-- DNS Security Algorithm Numbers
abbrev pub security_algorithms : List (ℕ × List ℕ)
security_algorithms =
    (0, codes "DELETE")
    ∷ (1, codes "RSAMD5")
    ∷ (2, codes "DH")
    ∷ (3, codes "DSA")
    ∷ (5, codes "RSASHA1")
    ∷ (6, codes "DSA-NSEC3-SHA1")
    ∷ (7, codes "RSASHA1-NSEC3-SHA1")
    ∷ (8, codes "RSASHA256")
    ∷ (10, codes "RSASHA512")
    ∷ (12, codes "ECC-GOST")
    ∷ (13, codes "ECDSAP256SHA256")
    ∷ (14, codes "ECDSAP384SHA384")
    ∷ (15, codes "ED25519")
    ∷ (16, codes "ED448")
    ∷ (17, codes "SM2SM3")
    ∷ (18, codes "MLDSA44")
    ∷ (23, codes "ECC-GOST12")
    ∷ (252, codes "INDIRECT")
    ∷ (253, codes "PRIVATEDNS")
    ∷ (254, codes "PRIVATEOID")
    ∷ []

-- Digest Algorithms
abbrev pub digest_algorithms : List (ℕ × List ℕ)
digest_algorithms =
    (1, codes "SHA-1")
    ∷ (2, codes "SHA-256")
    ∷ (3, codes "GOST R 34.11-94")
    ∷ (4, codes "SHA-384")
    ∷ (5, codes "GOST R 34.11-2012")
    ∷ (6, codes "SM3")
    ∷ []

-- IPSECKEY Algorithm Type
abbrev pub ipseckey_algorithms : List (ℕ × List ℕ)
ipseckey_algorithms =
    (0, codes "NONE")
    ∷ (1, codes "DSA")
    ∷ (2, codes "RSA")
    ∷ (3, codes "ECDSA")
    ∷ (4, codes "EdDSA")
    ∷ []

-- IPSECKEY Gateway Type
abbrev pub ipseckey_gateway_types : List (ℕ × List ℕ)
ipseckey_gateway_types =
    (0, codes "NONE")
    ∷ (1, codes "IPV4")
    ∷ (2, codes "IPV6")
    ∷ (3, codes "NAME")
    ∷ []

-- SSHFP RR Types for fingerprint types
abbrev pub sshfp_types : List (ℕ × List ℕ)
sshfp_types =
    (0, codes "Reserved")
    ∷ (1, codes "SHA-1")
    ∷ (2, codes "SHA-256")
    ∷ []

-- SSHFP RR Types for public key algorithms
abbrev pub sshfp_algorithms : List (ℕ × List ℕ)
sshfp_algorithms =
    (0, codes "Reserved")
    ∷ (1, codes "RSA")
    ∷ (2, codes "DSA")
    ∷ (3, codes "ECDSA")
    ∷ (4, codes "Ed25519")
    ∷ (6, codes "Ed448")
    ∷ []

-- TLSA Certificate Usages
abbrev pub tlsa_certificate_usages : List (ℕ × List ℕ)
tlsa_certificate_usages =
    (0, codes "PKIX-TA")
    ∷ (1, codes "PKIX-EE")
    ∷ (2, codes "DANE-TA")
    ∷ (3, codes "DANE-EE")
    ∷ (255, codes "PrivCert")
    ∷ []

-- TLSA Selectors
abbrev pub tlsa_selectors : List (ℕ × List ℕ)
tlsa_selectors =
    (0, codes "Cert")
    ∷ (1, codes "SPKI")
    ∷ (255, codes "PrivSel")
    ∷ []

-- TLSA Matching Types
abbrev pub tlsa_matching_types : List (ℕ × List ℕ)
tlsa_matching_types =
    (0, codes "Full")
    ∷ (1, codes "SHA2-256")
    ∷ (2, codes "SHA2-512")
    ∷ (255, codes "PrivMatch")
    ∷ []

-- ZONEMD Schemes
abbrev pub zonemd_schemes : List (ℕ × List ℕ)
zonemd_schemes =
    (1, codes "SIMPLE")
    ∷ []

-- ZONEMD Hash Algorithms
abbrev pub zonemd_algorithms : List (ℕ × List ℕ)
zonemd_algorithms =
    (1, codes "SHA384")
    ∷ (2, codes "SHA512")
    ∷ []
