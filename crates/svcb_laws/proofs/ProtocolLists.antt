-- A text is read as exactly the protocols whose escaped forms it is, with commas between them.
use Rattle.std.proofs.Common.{◌≡◌, ℕ, zero, suc, ◌<◌, true, false, cond, List, [], ◌∷◌, ◌++◌, map, length, Option, Some, None, Result, Ok, Err, refl, sym, ap, subst, ◌∙◌, arith, append-nil, length-append}
use Rattle.std.specs.Prelude.{◌==◌, nat_lt}
use Rattle.std.proofs.lemmas.Bool.Decides.{nat_tests}
use Rattle.text_spec.specs.declared.errors.ScanError.{ScanError}
use Rattle.text_spec.specs.declared.errors.ScanError.TheVariants.{BadListEscape, EmptyItem, LongItem}
use Rattle.svcb_spec.specs.ListTexts.{◌>>=◌, is_escaped_in_item, escaped_item, ItemRead, onto_item, read_item, some_octets}
use Rattle.svcb_spec.specs.ValueTexts.{short_item, protocol_item, protocols_step, protocols_within, protocols_of}
use Rattle.svcb_laws.specs.ParamTextLaws.{IsProtocol, IsProtocolList, AlpnExact}
use Rattle.svcb_laws.proofs.Answers.{before_ok}
use Rattle.svcb_laws.proofs.PlainLists.{some-join}
use Rattle.svcb_laws.proofs.AlpnTexts.{behind_item, protocols_within-step, protocols_of-join, some-escaped}

-- ---- an item

-- the text of an item and of what stands behind it
abbrev item_text : ItemRead → List ℕ
item_text read = escaped_item read.item ++ behind_item read.rest

-- so far as a text is read, it is the text of what is read
abbrev IsTextRead : List ℕ → Result ItemRead ScanError → Type 0
IsTextRead text (Ok read) = text ≡ item_text read
IsTextRead text (Err fault) = Unit {0}

onto_item-plain : (c : ℕ) (text : List ℕ) (read : Result ItemRead ScanError)
    → is_escaped_in_item c ≡ false → IsTextRead text read → IsTextRead (c ∷ text) (onto_item c read)
onto_item-plain c text (Err fault) plain is = tt
onto_item-plain c text (Ok read) plain is =
    ap (λ (tail : List ℕ). c ∷ tail) is
    ∙ sym (ap (λ b. (cond b (92 ∷ c ∷ []) (c ∷ []) ++ escaped_item read.item)
    ++ behind_item read.rest) plain)

onto_item-escape : (c : ℕ) (text : List ℕ) (read : Result ItemRead ScanError)
    → is_escaped_in_item c ≡ true → IsTextRead text read
    → IsTextRead (92 ∷ c ∷ text) (onto_item c read)
onto_item-escape c text (Err fault) escaped is = tt
onto_item-escape c text (Ok read) escaped is =
    ap (λ (tail : List ℕ). 92 ∷ c ∷ tail) is
    ∙ sym (ap (λ b. (cond b (92 ∷ c ∷ []) (c ∷ []) ++ escaped_item read.item)
    ++ behind_item read.rest) escaped)

plain_octet : (c : ℕ) → (c == 44) ≡ false → (c == 92) ≡ false → is_escaped_in_item c ≡ false
plain_octet c comma backslash = grind (arith, nat_tests)

-- an item's text is the one that its escapes spell
read_item-text : (text : List ℕ) → IsTextRead text (read_item text)
read_item-text [] = refl
read_item-text (c ∷ []) =
    elim (c == 44) as
    (λ b. (c == 44) ≡ b
    → IsTextRead (c ∷ []) (cond b (Ok (record { item = []; rest = Some [] }))
    (cond (c == 92) (Err BadListEscape) (Ok (record { item = c ∷ []; rest = None }))))) [
      | true ↦ λ is. let comma : c ≡ 44 = grind (arith, nat_tests) in ap (λ d. d ∷ []) comma
      | false ↦ λ comma. elim (c == 92) as
          (λ b. (c == 92) ≡ b
          → IsTextRead (c ∷ [])
          (cond b (Err BadListEscape) (Ok (record { item = c ∷ []; rest = None })))) [
            | true ↦ λ is. tt
            | false ↦ λ backslash. onto_item-plain c [] (Ok (record { item = []; rest = None }))
                (plain_octet c comma backslash) refl
          ] refl
    ] refl
read_item-text (c ∷ next ∷ text) =
    elim (c == 44) as
    (λ b. (c == 44) ≡ b
    → IsTextRead (c ∷ next ∷ text)
    (cond b (Ok (record { item = []; rest = Some (next ∷ text) }))
    (cond (c == 92)
    (cond (is_escaped_in_item next) (onto_item next (read_item text)) (Err BadListEscape))
    (onto_item c (read_item (next ∷ text)))))) [
      | true ↦ λ is. let comma : c ≡ 44 = grind (arith, nat_tests)
          in ap (λ d. d ∷ next ∷ text) comma
      | false ↦ λ comma. elim (c == 92) as (λ b. (c == 92) ≡ b → IsTextRead (c ∷ next ∷ text)
          (cond b (cond (is_escaped_in_item next) (onto_item next (read_item text))
          (Err BadListEscape)) (onto_item c (read_item (next ∷ text))))) [
            | true ↦ λ is.
                let backslash : 92 ≡ c = grind (arith, nat_tests) in
                subst (λ d. IsTextRead (d ∷ next ∷ text)
                (cond (is_escaped_in_item next) (onto_item next (read_item text))
                (Err BadListEscape))) backslash
                (elim (is_escaped_in_item next) as (λ b. is_escaped_in_item next ≡ b
                → IsTextRead (92 ∷ next ∷ text)
                (cond b (onto_item next (read_item text)) (Err BadListEscape))) [
                  | true ↦ λ escaped. onto_item-escape next text (read_item text) escaped
                      (read_item-text text)
                  | false ↦ λ plain. tt
                ] refl)
            | false ↦ λ backslash. onto_item-plain c (next ∷ text) (read_item (next ∷ text))
                (plain_octet c comma backslash) (read_item-text (next ∷ text))
          ] refl
    ] refl

-- ---- a protocol

some_octets-ok : (read found : ItemRead) → some_octets read ≡ Ok found
    → (read ≡ found) × (0 < length found.item)
some_octets-ok read found =
    elim (length read.item == 0) as
    (λ b. (length read.item == 0) ≡ b → cond b (Err EmptyItem) (Ok read) ≡ Ok found
    → (read ≡ found) × (0 < length found.item)) [
      | true ↦ λ e is. absurd cc
      | false ↦ λ e is. let same : read ≡ found =
          cc in (same, subst (λ (r : ItemRead). 0 < length r.item) same (grind (arith, nat_tests)))
    ] refl

short_item-ok : (read found : ItemRead) → short_item read ≡ Ok found
    → (read ≡ found) × (length found.item < 256)
short_item-ok read found =
    elim (nat_lt 255 (length read.item)) as (λ b. nat_lt 255 (length read.item) ≡ b
    → cond b (Err LongItem) (Ok read) ≡ Ok found → (read ≡ found) × (length found.item < 256)) [
      | true ↦ λ e is. absurd cc
      | false ↦ λ e is. let same : read ≡ found =
          cc in (
            same,
            subst (λ (r : ItemRead). length r.item < 256) same
                (grind (arith, nat_tests)),
          )
    ] refl

-- a protocol is read from its escaped form alone
protocol_item-exact : (text : List ℕ) (read : ItemRead) → protocol_item text ≡ Ok read
    → IsProtocol read.item × (text ≡ item_text read)
protocol_item-exact text read is =
    let short = before_ok (read_item text >>= some_octets) short_item read is in
    let some = before_ok (read_item text) some_octets short.0 short.1 in
    let last = short_item-ok short.0 read short.2 in
    let full = some_octets-ok some.0 short.0 some.2 in
    let whole : text ≡ item_text some.0 =
    subst (λ (r : Result ItemRead ScanError). IsTextRead text r) some.1 (read_item-text text) in (
      record {
        not_empty = subst (λ (r : ItemRead). 0 < length r.item) last.0 full.1;
        fits = omega (arith, last.1);
      },
      whole
          ∙ ap item_text (full.0 ∙ last.0),
    )

-- ---- protocols

more_protocols : (text protocol rest : List ℕ) (protocols : List (List ℕ)) → IsProtocol protocol
    → text ≡ escaped_item protocol ++ 44 ∷ rest
    → IsProtocolList rest protocols → IsProtocolList text (protocol ∷ protocols)
more_protocols text protocol rest [] is joined are = absurd (omega (arith, are.0))
more_protocols text protocol rest (next ∷ protocols) is joined are = (
  omega arith,
  (is, are.1),
  joined
      ∙ ap (λ (tail : List ℕ). escaped_item protocol ++ 44 ∷ tail) are.2,
)

shorter_rest : (text front rest : List ℕ) → text ≡ front ++ 44 ∷ rest → length rest < length text
shorter_rest text front rest joined =
    omega (arith, ap length joined, length-append front (44 ∷ rest))

-- what a step reads is exact where what it reads behind a comma is
module _ (again : List ℕ → Result (List (List ℕ)) ScanError) (text : List ℕ)
    (exact : (rest : List ℕ) (protocols : List (List ℕ)) → length rest < length text
    → again rest ≡ Ok protocols → IsProtocolList rest protocols) where
  step-exact : (item : List ℕ) (rest : Option (List ℕ)) (protocols : List (List ℕ))
      → IsProtocol item → text ≡ escaped_item item ++ behind_item rest
      → protocols_step again (record { item = item; rest = rest }) ≡ Ok protocols
      → IsProtocolList text protocols
  step-exact item None protocols is whole read =
      let one : item ∷ [] ≡ protocols = cc in
      subst (IsProtocolList text) one
      (omega arith, (is, tt), whole ∙ append-nil (escaped_item item))
  step-exact item (Some rest) protocols is whole read =
      let behind = before_ok (again rest) (λ items. Ok (item ∷ items)) protocols read in
      let all : item ∷ behind.0 ≡ protocols = cc (behind.2) in
      subst (IsProtocolList text) all
      (more_protocols text item rest behind.0 is whole
      (exact rest behind.0 (shorter_rest text (escaped_item item) rest whole) behind.1))

protocols_within-exact : (count : ℕ) (text : List ℕ) (protocols : List (List ℕ))
    → length text < count → protocols_within count text ≡ Ok protocols
    → IsProtocolList text protocols
protocols_within-exact zero text protocols enough is = absurd (omega arith)
protocols_within-exact (suc count) text protocols enough is =
    let first = before_ok (protocol_item text) (protocols_step (protocols_within count)) protocols
    (sym (protocols_within-step count text) ∙ is) in
    let known = protocol_item-exact text first.0 first.1 in
    step-exact (protocols_within count) text
    (λ rest items less behind. protocols_within-exact count rest items (omega arith) behind)
    first.0.item first.0.rest protocols known.0 known.1 first.2

protocols-again : (text : List ℕ) (protocols : List (List ℕ)) → IsProtocolList text protocols
    → protocols_of text ≡ Ok protocols
protocols-again text [] are = absurd (omega (arith, are.0))
protocols-again text (protocol ∷ protocols) are =
    ap protocols_of are.2 ∙ protocols_of-join protocol protocols are.1

pub alpn_exact : AlpnExact
alpn_exact text protocols = (
  λ read. protocols_within-exact (suc (length text)) text protocols (omega arith) read,
  protocols-again text protocols,
)

pub some_protocols : (text : List ℕ) (protocols : List (List ℕ)) → IsProtocolList text protocols
    → 0 < length text
some_protocols text [] are = absurd (omega (arith, are.0))
some_protocols text (protocol ∷ protocols) are =
    subst (λ (t : List ℕ). 0 < length t) (sym are.2)
    (some-join (escaped_item protocol) (map escaped_item protocols)
    (some-escaped protocol are.1.0.not_empty))
