-- Octets that are made of items.
use Rattle.std.proofs.Common.{◌≡◌, ℕ, ◌*◌, ◌%◌, ◌/◌, ◌<◌, ◌≤◌, true, false, List, [], ◌∷◌, ◌++◌, length, refl, sym, ap, ◌∙◌, arith, append-nil, ◌+◌, length-append, zero-mul, suc-mul, add_comm}
use Rattle.std.specs.Prelude.{nat_lt, is_none, ◌==◌}
use Rattle.std.specs.List.{flat_map, AllByRecursion}
use Rattle.std.proofs.Math.Nat.{mul-mod_left, le-div_iff_mul-le}
use Rattle.std.proofs.lemmas.List.Concat.{concat_is, flat_map-append}
use Rattle.std.proofs.lemmas.Bool.Decides.{nat_tests}
use Rattle.name_spec.specs.Octets.{be2}
use Rattle.svcb_spec.specs.Values.{numbers16_wire, protocols_wire}
use Rattle.svcb_spec.specs.ReadingValues.{parts, numbers, protocols, are_whole, parts_fault, groups_fault}
use Rattle.svcb_spec.proofs.ItemLaws.{parts-concat, numbers-numbers_wire, length-numbers_wire, protocols-protocols_wire, protocols_wire-whole}
use Rattle.svcb_list.proofs.PartLemmas.{whole_is, parts_encoded}
use Rattle.svcb_list.specs.Building.{AreItems}
use Rattle.svcb_list.specs.Pushing.{AreProtocols}

-- octets of items that have as many octets each
octets_len : {X : Type 0} (f : X → List ℕ) (len : ℕ) (xs : List X)
    → AllByRecursion (λ x. length (f x) ≡ len) xs → length (flat_map f xs) ≡ length xs * len
octets_len f len [] are = sym (zero-mul len)
octets_len f len (x ∷ xs) are =
    length-append (f x) (flat_map f xs) ∙ ap (λ n. n + length (flat_map f xs)) are.0
    ∙ ap (λ n. len + n) (octets_len f len xs are.1)
    ∙ add_comm len (length xs * len) ∙ sym (suc-mul (length xs) len)

-- they are whole items, and few enough where the items are
pub are_items : {X : Type 0} (f : X → List ℕ) (len : ℕ) (xs : List X) (octets : List ℕ)
    → octets ≡ flat_map f xs → AllByRecursion (λ x. length (f x) ≡ len) xs
    → 0 < len → length xs ≤ 65535 / len → AreItems f len xs octets
are_items f len xs octets is each not_empty few =
    let count : length octets ≡ length xs * len = ap length is ∙ octets_len f len xs each in
    let within : length xs * len ≤ 65535 = (le-div_iff_mul-le not_empty).0 few in
    record {
      joined = is;
      each = each;
      whole = whole_is (length octets) len (ap (λ n. n % len) count ∙ mul-mod_left (length xs) len);
      fits = omega arith;
    }

-- whole parts that are few have no fault
pub parts_sound : (len : ℕ) (octets : List ℕ) → (length octets % len == 0) ≡ true
    → length octets < 65536 → is_none (parts_fault len octets) ≡ true
parts_sound len octets whole few =
    let no : nat_lt 65535 (length octets) ≡ false = grind (arith, nat_tests) in
    rw (no, whole) refl

pub groups_sound : (octets ns : List ℕ) → octets ≡ flat_map be2 ns → 0 < length ns
    → (length octets % 2 == 0) ≡ true → length octets < 65536 → is_none (groups_fault octets) ≡ true
groups_sound octets ns is not_empty whole few =
    let full : (length octets == 0) ≡ false =
    grind (arith, nat_tests, ap length is, length-numbers_wire ns) in
    rw full (parts_sound 2 octets whole few)

-- octets of numbers are read as these numbers
pub numbers_read : (octets ns : List ℕ) → octets ≡ flat_map be2 ns → numbers octets ≡ ns
numbers_read octets ns is = ap numbers is ∙ numbers-numbers_wire ns

pub numbers_written : (octets ns : List ℕ) → octets ≡ flat_map be2 ns
    → numbers16_wire (numbers octets) ≡ octets
numbers_written octets ns is = ap numbers16_wire (numbers_read octets ns is) ∙ sym is

-- and octets of addresses as these addresses
pub addresses_read : (len : ℕ) (octets : List ℕ) (addresses : List (List ℕ))
    → AreItems (λ address. address) len addresses octets → 0 < len
    → parts len octets ≡ addresses
addresses_read len octets addresses are not_empty =
    ap (parts len) (are.joined ∙ sym (concat_is addresses))
    ∙ parts-concat len addresses not_empty are.each

-- a value of numbers, and one of addresses
pub ruleset numbers_built = (numbers_read, numbers_written, parts_sound, groups_sound)

pub ruleset addresses_built = (addresses_read, parts_encoded, parts_sound)

-- protocols to which one is added
added : (octets protocol : List ℕ) → AreProtocols octets
    → octets ++ length protocol ∷ protocol ≡ protocols_wire (protocols octets ++ protocol ∷ [])
added octets protocol are =
    ap (λ o. o ++ length protocol ∷ protocol) (sym are.encodes)
    ∙ ap (λ o. protocols_wire (protocols octets) ++ length protocol ∷ o) (sym (append-nil protocol))
    ∙ sym (flat_map-append (λ (p : List ℕ). length p ∷ p) (protocols octets) (protocol ∷ []))

pub pushed_protocols : (octets after protocol : List ℕ) → AreProtocols octets
    → after ≡ octets ++ length protocol ∷ protocol
    → protocols after ≡ protocols octets ++ protocol ∷ []
pushed_protocols octets after protocol are is =
    ap protocols (is ∙ added octets protocol are)
    ∙ protocols-protocols_wire (protocols octets ++ protocol ∷ [])

pub pushed_are : (octets after protocol : List ℕ) → AreProtocols octets
    → length octets + 1 + length protocol ≤ 65535 → after ≡ octets ++ length protocol ∷ protocol
    → AreProtocols after
pushed_are octets after protocol are room is =
    record {
      encodes = ap protocols_wire (pushed_protocols octets after protocol are is)
          ∙ sym (is ∙ added octets protocol are);
      whole = ap are_whole (is ∙ added octets protocol are)
          ∙ protocols_wire-whole (protocols octets ++ protocol ∷ []);
      fits = omega (arith, ap length is, length-append octets (length protocol ∷ protocol));
    }
