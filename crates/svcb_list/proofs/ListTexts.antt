-- What is written for lists of items.
use Rattle.std.proofs.Common.{◌≡◌, ℕ, suc, ◌+◌, Bool, true, false, cond, not, List, [], ◌∷◌, ◌++◌, take, drop, refl, sym, ap, ◌∙◌, append-nil, append_assoc, arith}
use Rattle.std.specs.List.{flat_map, join_with_byte, prefix_len}
use Rattle.std.specs.Fmt.{HasWritten}
use Rattle.std.specs.declared.fmt.Formatter.{Formatter}
use Rattle.std.proofs.lemmas.Grind.{flat_map-append}
use Rattle.name_spec.specs.Printed.{is_special, printed_octet, printed_octets}
use Rattle.svcb_spec.specs.ListTexts.{is_escaped_in_item, escaped_item}
use Rattle.svcb_spec.specs.PrintedValues.{with_items}

-- ---- items

-- texts with a comma before each
abbrev pub commas_and : List (List ℕ) → List ℕ
commas_and texts = flat_map (λ t. 44 ∷ t) texts

join-first : (first : List ℕ) (others : List (List ℕ))
    → join_with_byte 44 (first ∷ others) ≡ first ++ commas_and others
join-first first [] = sym (append-nil first)
join-first first (next ∷ others) = ap (λ (t : List ℕ). first ++ 44 ∷ t) (join-first next others)

-- the key and the first item, and then the others behind a comma each
pub first_then_others : (key first : List ℕ) (others : List (List ℕ))
    → ((key ++ 61 ∷ []) ++ first) ++ commas_and others ≡ with_items key (first ∷ others)
first_then_others key first others =
    append_assoc (key ++ 61 ∷ []) first (commas_and others)
    ∙ append_assoc key (61 ∷ []) (first ++ commas_and others)
    ∙ ap (λ (t : List ℕ). key ++ 61 ∷ t) (sym (join-first first others))

-- one more of the others
pub one_more : (front item rest : List ℕ)
    → ((front ++ 44 ∷ []) ++ item) ++ rest ≡ front ++ 44 ∷ (item ++ rest)
one_more front item rest =
    append_assoc (front ++ 44 ∷ []) item rest ∙ append_assoc front (44 ∷ []) (item ++ rest)

-- a prefix of the whole text is written, and the rest is not yet
pub record WritesFront {W : Type 0} (took : W → List ℕ → W → Type 0) (f g : Formatter W)
    (whole rest : List ℕ) : Type 0 where
  pub text : List ℕ
  pub wrote : HasWritten took f text g
  pub whole_is : text ++ rest ≡ whole

-- ---- octets of an item

-- an octet that stands for itself in an item
abbrev is_plain : ℕ → Bool
is_plain c = not (is_escaped_in_item c)

-- those in front stand for themselves
plain_front : (item : List ℕ)
    → take (prefix_len is_plain item) item ++ escaped_item (drop (prefix_len is_plain item) item)
    ≡ escaped_item item
plain_front [] = refl
plain_front (c ∷ item) =
    let n = prefix_len is_plain item in
    elim (is_escaped_in_item c) as
    (λ b. is_escaped_in_item c ≡ b
    → take (cond (not b) (1 + n) 0) (c ∷ item)
    ++ escaped_item (drop (cond (not b) (1 + n) 0) (c ∷ item))
    ≡ escaped_item (c ∷ item)) [
      | true ↦ λ escaped. refl
      | false ↦ λ plain. let more : 1 + n ≡ suc n = omega arith in
          rw more (ap (λ (t : List ℕ). c ∷ t) (plain_front item))
          ∙ ap (λ b. cond b (92 ∷ c ∷ []) (c ∷ []) ++ escaped_item item) (sym plain)
    ] refl

-- and the first behind them is escaped
plain_stops : (item : List ℕ) (first : ℕ) (more : List ℕ)
    → drop (prefix_len is_plain item) item ≡ first ∷ more → is_escaped_in_item first ≡ true
plain_stops [] first more = λ is. cc
plain_stops (c ∷ item) first more =
    let n = prefix_len is_plain item in
    elim (is_escaped_in_item c) as
    (λ b. is_escaped_in_item c ≡ b → drop (cond (not b) (1 + n) 0) (c ∷ item) ≡ first ∷ more
    → is_escaped_in_item first ≡ true) [
      | true ↦ λ escaped is. let same : c ≡ first = cc in
          ap is_escaped_in_item (sym same) ∙ escaped
      | false ↦ λ plain is. let one_more : 1 + n ≡ suc n = omega arith in
          plain_stops item first more (rw one_more at is)
    ] refl

-- an item is parted behind the octets that stand for themselves
pub record IsParted (item plain behind : List ℕ) : Type 0 where
  pub last : behind ≡ [] → printed_octets plain ≡ printed_octets (escaped_item item)
  pub more : (first : ℕ) (others : List ℕ) → behind ≡ first ∷ others
      → printed_octets plain
      ++ (printed_octets (92 ∷ first ∷ []) ++ printed_octets (escaped_item others))
      ≡ printed_octets (escaped_item item)

pub parted : (item plain behind : List ℕ) (n : ℕ) → n ≡ prefix_len is_plain item
    → plain ≡ take n item → behind ≡ drop n item → IsParted item plain behind
parted item plain behind n len is_front is_behind =
    let text : plain ++ escaped_item behind ≡ escaped_item item =
    rw (is_front, is_behind, len) (plain_front item) in
    record {
      last = λ none. ap printed_octets
          (sym (append-nil plain) ∙ ap (λ (t : List ℕ). plain ++ escaped_item t) (sym none)
          ∙ text);
      more = λ first others is.
          let escaped : is_escaped_in_item first ≡ true =
          plain_stops item first others (sym (is_behind ∙ ap (λ (k : ℕ). drop k item) len) ∙ is) in
          let behind_is : 92 ∷ first ∷ escaped_item others ≡ escaped_item behind =
          ap (λ b. cond b (92 ∷ first ∷ []) (first ∷ []) ++ escaped_item others) (sym escaped)
          ∙ ap escaped_item (sym is) in
          ap (λ (t : List ℕ). printed_octets plain ++ t)
          (sym (flat_map-append (printed_octet is_special) (92 ∷ first ∷ []) (escaped_item others))
          ∙ ap printed_octets behind_is)
          ∙ sym (flat_map-append (printed_octet is_special) plain (escaped_item behind))
          ∙ ap printed_octets text;
    }
