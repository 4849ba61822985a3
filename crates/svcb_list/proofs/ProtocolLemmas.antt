-- Protocols, each behind its length.
use Rattle.std.proofs.Common.{Fits, w8, ◌≡◌, ℕ, ◌<◌, ◌≤◌, true, false, List, [], ◌∷◌, length, take, drop, refl, sym, ◌∙◌, arith}
use Rattle.std.specs.Prelude.{slice_index, slice_index_or}
use Rattle.svcb_spec.specs.ReadingValues.{protocols, are_whole}
use Rattle.svcb_spec.specs.Values.{protocols_wire}
use Rattle.svcb_spec.proofs.ItemLaws.{are_octets, protocols_wire-protocols, protocols-first, are_whole-first, are_whole-cut, are_whole-fits}

-- the octets of a slice, which are its protocols' octets
pub protocols_encoded : (octets : List ℕ) → ((i : ℕ) → Fits w8 (slice_index_or octets i 0))
    → are_whole octets ≡ true → protocols_wire (protocols octets) ≡ octets
protocols_encoded octets small whole =
    protocols_wire-protocols octets (are_octets octets (λ i. omega (arith, small i))) whole

-- the first protocol is there
pub protocol_fits : (octets : List ℕ) → 0 < length octets → are_whole octets ≡ true
    → slice_index octets 0 < length octets
protocol_fits [] full whole = absurd (omega arith)
protocol_fits (len ∷ others) full whole = omega (arith, are_whole-fits len others whole)

pub first_protocol : (octets : List ℕ) → 0 < length octets
    → protocols octets
    ≡ take (slice_index octets 0) (drop 1 octets)
    ∷ protocols (drop (slice_index octets 0) (drop 1 octets))
first_protocol [] full = absurd (omega arith)
first_protocol (len ∷ others) full = protocols-first (len ∷ others) others len refl

pub others_whole : (octets : List ℕ) → 0 < length octets → are_whole octets ≡ true
    → are_whole (drop (slice_index octets 0) (drop 1 octets)) ≡ true
others_whole [] full whole = absurd (omega arith)
others_whole (len ∷ others) full whole =
    sym (are_whole-first (len ∷ others) others len refl (are_whole-fits len others whole)) ∙ whole

-- the others are whole where all are
pub protocols_left : (octets others : List ℕ) (len : ℕ) → octets ≡ len ∷ others
    → len ≤ length others → are_whole octets ≡ are_whole (drop len others)
protocols_left = are_whole-first

pub protocols_cut : (octets others : List ℕ) (len : ℕ) → octets ≡ len ∷ others
    → length others < len → are_whole octets ≡ false
protocols_cut = are_whole-cut

-- a protocol that the octets begin with, and the protocols behind it
pub ruleset first_rules = (protocol_fits, first_protocol, others_whole)

pub ruleset whole_rules = (protocols_left, protocols_cut)
