-- What is written for an octet and for a name.
use Rattle.std.proofs.Common.{◌≡◌, ℕ, suc, ◌+◌, ◌<◌, ◌/◌, ◌%◌, ◌==◌, length, take, drop, Bool, true, false, cond, not, List, [], ◌∷◌, ◌++◌, refl, sym, ap, ◌∙◌, append-nil, append_assoc, arith}
use Rattle.std.specs.List.{flat_map, prefix_len}
use Rattle.std.specs.Str.{IsAscii}
use Rattle.std.specs.Fmt.{HasWritten}
use Rattle.std.specs.declared.fmt.Formatter.{Formatter}
use Rattle.std.proofs.lemmas.Bool.{and_parts}
use Rattle.std.proofs.lemmas.Bool.Decides.{nat_tests}
use Rattle.std.proofs.lemmas.Str.Ascii.{IsAscii-nil, IsAscii-cons}
use Rattle.name_spec.specs.Printed.{Plain, Escaped, Decimal, octet_text, is_visible, printed_as, printed_octet, printed_label, printed_labels, printed_name, printed_name_with_dot}
use Rattle.wire_base.specs.PrintedIn.{is_bare, specials}

-- ---- an octet

chosen : (special : ℕ → Bool) (c : ℕ) (s v : Bool) → special c ≡ s → is_visible c ≡ v
    → printed_octet special c ≡ octet_text (cond s (Escaped c) (cond v (Plain c) (Decimal c)))
unfolding printed_as
chosen special c s v is_s is_v =
    ap (λ b. octet_text (cond b (Escaped c) (cond (is_visible c) (Plain c) (Decimal c)))) is_s
    ∙ ap (λ b. octet_text (cond s (Escaped c) (cond b (Plain c) (Decimal c)))) is_v

-- behind a backslash
pub escaped_text : (in_name : Bool) (octet : ℕ) → specials in_name octet ≡ true
    → 92 ∷ octet ∷ [] ≡ printed_octet (specials in_name) octet
escaped_text in_name octet special =
    sym (chosen (specials in_name) octet true (is_visible octet) special refl)

-- as digits
pub decimal_text : (in_name : Bool) (octet : ℕ) → specials in_name octet ≡ false
    → is_bare in_name octet ≡ false
    → 92 ∷ (48 + octet / 100) ∷ (48 + octet / 10 % 10) ∷ (48 + octet % 10) ∷ []
    ≡ printed_octet (specials in_name) octet
decimal_text in_name octet no_special no_bare =
    let hidden : is_visible octet ≡ false = grind (arith, no_special, no_bare) in
    sym (chosen (specials in_name) octet false false no_special hidden)

-- ---- octets in a row that stand for themselves

visible_ascii : (c : ℕ) → is_visible c ≡ true → c < 128
visible_ascii c visible = grind (arith, nat_tests)

bare_text : (in_name : Bool) (octet : ℕ) → is_bare in_name octet ≡ true
    → printed_octet (specials in_name) octet ≡ octet ∷ []
bare_text in_name octet bare =
    let parts = and_parts (is_visible octet) (not (specials in_name octet)) bare in
    chosen (specials in_name) octet false true (grind (arith, parts.1)) parts.0

-- they are printed as themselves, and then what is left
bare_front : (in_name : Bool) (octets : List ℕ)
    → take (prefix_len (is_bare in_name) octets) octets
    ++ flat_map (printed_octet (specials in_name)) (drop (prefix_len (is_bare in_name) octets) octets)
    ≡ flat_map (printed_octet (specials in_name)) octets
bare_front in_name [] = refl
bare_front in_name (c ∷ octets) =
    let print = printed_octet (specials in_name) in
    let n = prefix_len (is_bare in_name) octets in
    elim (is_bare in_name c) as
    (λ b. is_bare in_name c ≡ b
    → take (cond b (1 + n) 0) (c ∷ octets) ++ flat_map print (drop (cond b (1 + n) 0) (c ∷ octets))
    ≡ print c ++ flat_map print octets) [
      | true ↦ λ bare. let more : 1 + n ≡ suc n = omega arith in
          rw more (ap (λ (t : List ℕ). c ∷ t) (bare_front in_name octets))
          ∙ ap (λ (t : List ℕ). t ++ flat_map print octets) (sym (bare_text in_name c bare))
      | false ↦ λ bare. refl
    ] refl

-- the first octet behind them doesn't stand for itself
bare_stops : (in_name : Bool) (octets : List ℕ) (first : ℕ) (more : List ℕ)
    → drop (prefix_len (is_bare in_name) octets) octets ≡ first ∷ more
    → is_bare in_name first ≡ false
bare_stops in_name [] first more = λ is. cc
bare_stops in_name (c ∷ octets) first more =
    let n = prefix_len (is_bare in_name) octets in
    elim (is_bare in_name c) as
    (λ b. is_bare in_name c ≡ b → drop (cond b (1 + n) 0) (c ∷ octets) ≡ first ∷ more
    → is_bare in_name first ≡ false) [
      | true ↦ λ bare is. let one_more : 1 + n ≡ suc n = omega arith in
          bare_stops in_name octets first more (rw one_more at is)
      | false ↦ λ escaped is. let same : c ≡ first = cc in ap (is_bare in_name) (sym same) ∙ escaped
    ] refl

IsAscii-bare : (in_name : Bool) (octets : List ℕ)
    → IsAscii (take (prefix_len (is_bare in_name) octets) octets)
IsAscii-bare in_name [] = IsAscii-nil
IsAscii-bare in_name (c ∷ octets) =
    let n = prefix_len (is_bare in_name) octets in
    elim (is_bare in_name c) as
    (λ b. is_bare in_name c ≡ b → IsAscii (take (cond b (1 + n) 0) (c ∷ octets))) [
      | true ↦ λ bare. let more : 1 + n ≡ suc n = omega arith in
          rw more
          (IsAscii-cons c (take n octets)
          (visible_ascii c (and_parts (is_visible c) (not (specials in_name c)) bare).0)
          (IsAscii-bare in_name octets))
      | false ↦ λ bare. IsAscii-nil
    ] refl

-- octets are parted behind those that stand for themselves
pub record IsParted (in_name : Bool) (octets bare behind : List ℕ) : Type 0 where
  pub is_ascii : IsAscii bare
  pub text : bare ++ flat_map (printed_octet (specials in_name)) behind
      ≡ flat_map (printed_octet (specials in_name)) octets
  pub stops : (first : ℕ) (more : List ℕ) → behind ≡ first ∷ more → is_bare in_name first ≡ false

pub parted : (in_name : Bool) (octets bare behind : List ℕ) (n : ℕ)
    → n ≡ prefix_len (is_bare in_name) octets → bare ≡ take n octets → behind ≡ drop n octets
    → IsParted in_name octets bare behind
parted in_name octets bare behind n len is_bare_front is_behind =
    rw (is_bare_front, is_behind, len)
    (record {
      is_ascii = IsAscii-bare in_name octets;
      text = bare_front in_name octets;
      stops = λ first more is. bare_stops in_name octets first more is;
    })

-- ---- a name

-- the text of labels with a dot before each
abbrev pub dots_and_labels : List (List ℕ) → List ℕ
dots_and_labels labels = flat_map (λ l. 46 ∷ printed_label l) labels

pub printed_labels-first : (label : List ℕ) (labels : List (List ℕ))
    → printed_labels (label ∷ labels) ≡ printed_label label ++ dots_and_labels labels
printed_labels-first label [] = sym (append-nil (printed_label label))
printed_labels-first label (next ∷ labels) =
    ap (λ (t : List ℕ). printed_label label ++ 46 ∷ t) (printed_labels-first next labels)

-- the labels with a dot behind each are the labels with a dot between, and a final dot
pub with_final_dot : (label : List ℕ) (labels : List (List ℕ))
    → printed_labels (label ∷ labels) ++ 46 ∷ [] ≡ printed_name_with_dot (label ∷ labels)
with_final_dot label [] = grind (arith, append_assoc)
with_final_dot label (next ∷ labels) =
    append_assoc (printed_label label) (46 ∷ printed_labels (next ∷ labels)) (46 ∷ [])
    ∙ ap (λ (t : List ℕ). printed_label label ++ 46 ∷ t) (with_final_dot next labels)
    ∙ sym (append_assoc (printed_label label) (46 ∷ []) (printed_name_with_dot (next ∷ labels)))

-- a prefix of the whole text is written, and the rest is not yet
pub record WritesFront {W : Type 0} (took : W → List ℕ → W → Type 0) (f g : Formatter W)
    (whole rest : List ℕ) : Type 0 where
  pub text : List ℕ
  pub wrote : HasWritten took f text g
  pub whole_is : text ++ rest ≡ whole

-- the first label, and then the others behind a dot each
pub first_then_others : (name others : List (List ℕ)) (first : List ℕ) → name ≡ first ∷ others
    → printed_label first ++ dots_and_labels others ≡ printed_name name
first_then_others name others first name_is =
    sym (printed_labels-first first others) ∙ ap printed_name (sym name_is)

pub final_dot : (name : List (List ℕ)) → (length name == 0) ≡ false
    → printed_name name ++ 46 ∷ [] ≡ printed_name_with_dot name
final_dot [] no_root = cc
final_dot (label ∷ labels) no_root = with_final_dot label labels
