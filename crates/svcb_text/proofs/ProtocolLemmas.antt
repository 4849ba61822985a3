-- The protocols of a text, one after another.
use Rattle.std.proofs.Common.{◌≡◌, ℕ, zero, suc, ◌+◌, ◌<◌, ◌≤◌, true, false, cond, List, [], ◌∷◌, ◌++◌, length, take, get_or, Option, None, Some, Result, Ok, Err, refl, sym, ap, subst, ◌∙◌, arith, append_assoc, length-append, append-nil}
use Rattle.std.specs.Prelude.{◌==◌, nat_lt, option_map}
use Rattle.std.proofs.lemmas.Bool.Decides.{nat_tests}
use Rattle.std.proofs.lemmas.List.{take_more}
use Rattle.std.specs.List.{AllByRecursion}
use Rattle.svcb_spec.specs.Values.{Value, encode, protocols_wire}
use Rattle.svcb_spec.specs.BuildingValues.{IsProtocolLength}
use Rattle.svcb_list.specs.Pushing.{IsPushed}
use Rattle.svcb_list.specs.declared.errors.BuildAlpnError.{BuildAlpnError}
use Rattle.svcb_list.specs.declared.errors.BuildAlpnError.TheVariants as push_errors
use Rattle.text_spec.specs.declared.errors.ScanError.{ScanError}
use Rattle.text_spec.specs.declared.errors.ScanError.TheVariants.{EmptyItem, LongItem}
use Rattle.text_spec.specs.Scanning.{Answers}
use Rattle.svcb_spec.specs.ListTexts.{◌>>=◌, ItemRead, left_len, read_item, some_octets}
use Rattle.svcb_spec.specs.ValueTexts.{short_value, short_item, protocols_step, protocols_of}
use Rattle.svcb_spec.proofs.ProtocolTexts.{IsShorter, read_item-shorter, some_octets-shorter, onto_rest, protocols_of-step}
use Rattle.svcb_text.specs.ValueFaults.{protocol_fault}
use Rattle.svcb_text.proofs.ValueLemmas.{short_value-long}
use Rattle.svcb_text.proofs.AnswerLemmas.{refused_before, refused_first}
use Rattle.svcb_text.specs.Items.{some_value, next_read, item_read, text_behind}

-- ---- protocols in turn

-- the protocols in the text that is left
abbrev pub protocols_left : Option (List ℕ) → Result (List (List ℕ)) ScanError
protocols_left None = Ok []
protocols_left (Some text) = protocols_of text

-- a protocol in front of them
abbrev pub onto_protocols : List ℕ → Result (List (List ℕ)) ScanError
    → Result (List (List ℕ)) ScanError
onto_protocols item read = read >>= λ items. Ok (item ∷ items)

-- protocols in front of them
abbrev pub behind_protocols : List (List ℕ) → Result (List (List ℕ)) ScanError
    → Result (List (List ℕ)) ScanError
behind_protocols before read = read >>= λ items. Ok (before ++ items)

pub behind_protocols-push : (before : List (List ℕ)) (item : List ℕ)
    (read : Result (List (List ℕ)) ScanError)
    → behind_protocols before (onto_protocols item read)
    ≡ behind_protocols (before ++ item ∷ []) read
behind_protocols-push before item (Err fault) = refl
behind_protocols-push before item (Ok items) =
    ap (λ (all : List (List ℕ)). Ok all) (sym (append_assoc before (item ∷ []) items))

onto_rest-left : (item : List ℕ) (rest : Option (List ℕ))
    → onto_rest protocols_of item rest ≡ onto_protocols item (protocols_left rest)
onto_rest-left item None = refl
onto_rest-left item (Some text) = refl

protocols_step-left : (read : ItemRead)
    → protocols_step protocols_of read ≡ onto_protocols read.item (protocols_left read.rest)
protocols_step-left read = onto_rest-left read.item read.rest

-- the item that a text begins with, as a step of its protocols
abbrev step_of : Result ItemRead ScanError → Result (List (List ℕ)) ScanError
step_of read = (read >>= short_item) >>= protocols_step protocols_of

-- an item that was taken
pub record IsTaken (left : Option (List ℕ)) (item : List ℕ) : Type 0 where
  pub not_empty : 0 < length item
  pub shorter : left_len (text_behind (next_read left)) < left_len left
  pub long : 255 < length item → protocols_left left ≡ Err LongItem
  pub first : length item ≤ 255
      → protocols_left left ≡ onto_protocols item (protocols_left (text_behind (next_read left)))

-- what some_octets lets through has octets
some_octets-some : (read found : ItemRead) → some_octets read ≡ Ok found → 0 < length found.item
some_octets-some read found =
    elim (length read.item == 0) as
    (λ b. (length read.item == 0) ≡ b → cond b (Err EmptyItem) (Ok read) ≡ Ok found
    → 0 < length found.item) [
      | true ↦ λ e is. absurd cc
      | false ↦ λ e is. let same : read ≡ found =
          cc in subst (λ (r : ItemRead). 0 < length r.item) same (grind (arith, nat_tests))
    ] refl

read_some : (read : Result ItemRead ScanError) (found : ItemRead)
    → (read >>= some_octets) ≡ Ok found → 0 < length found.item
read_some (Ok read) found is = some_octets-some read found is
read_some (Err fault) found is = absurd cc

taken_by : (text item : List ℕ) (read : Result ItemRead ScanError)
    → (read_item text >>= some_octets) ≡ read → item_read (some_value read) ≡ Ok (Some item)
    → IsTaken (Some text) item
taken_by text item (Err fault) is taken = absurd cc
taken_by text item (Ok found) is taken =
    let same : found.item ≡ item = cc in
    let behind : text_behind (next_read (Some text)) ≡ found.rest =
    ap (λ (r : Result ItemRead ScanError). text_behind (some_value r)) is in
    let whole : protocols_of text ≡ step_of (Ok found) = protocols_of-step text ∙ ap step_of is in
    let less : left_len found.rest ≤ length text =
    subst (λ (r : Result ItemRead ScanError). IsShorter r (length text)) is
    (some_octets-shorter (read_item text) (length text) (read_item-shorter text)) in
    record {
      not_empty = subst (λ (i : List ℕ). 0 < length i) same (read_some (read_item text) found is);
      shorter = omega (arith, ap left_len behind);
      long = λ long.
          let exceeds : nat_lt 255 (length found.item) ≡ true =
          grind (arith, nat_tests, ap (λ (i : List ℕ). length i) same) in
          whole ∙ ap (λ b. cond b (Err LongItem) (Ok found) >>= protocols_step protocols_of)
          exceeds;
      first = λ short.
          let fits : nat_lt 255 (length found.item) ≡ false =
          grind (arith, nat_tests, ap (λ (i : List ℕ). length i) same) in
          whole ∙ ap (λ b. cond b (Err LongItem) (Ok found) >>= protocols_step protocols_of) fits
          ∙ protocols_step-left found
          ∙ ap (λ (i : List ℕ). onto_protocols i (protocols_left found.rest)) same
          ∙ ap (λ (rest : Option (List ℕ)). onto_protocols item (protocols_left rest)) (sym behind);
    }

pub taken : (left : Option (List ℕ)) (item : List ℕ) → item_read (next_read left) ≡ Ok (Some item)
    → IsTaken left item
taken None item is = absurd cc
taken (Some text) item is = taken_by text item (read_item text >>= some_octets) refl is

never_none : (read : Result ItemRead ScanError) → item_read (some_value read) ≡ Ok None → ⊥
never_none (Ok found) is = cc
never_none (Err fault) is = cc

-- no item is left
pub none_taken : (left : Option (List ℕ)) → item_read (next_read left) ≡ Ok None
    → protocols_left left ≡ Ok []
none_taken None is = refl
none_taken (Some text) is = absurd (never_none (read_item text >>= some_octets) is)

in_steps : (read : Result ItemRead ScanError)
    → step_of read ≡ (read >>= λ found. short_item found >>= protocols_step protocols_of)
in_steps (Ok found) = refl
in_steps (Err fault) = refl

-- an item that is refused
pub refused_item : (left : Option (List ℕ)) (fault : ScanError)
    → Answers {T = Option (List ℕ)} (λ x. x) (Err fault) (item_read (next_read left))
    → Answers {T = List (List ℕ)} (λ x. x) (Err fault) (protocols_left left)
refused_item None fault refused =
    refused_first {U = List (List ℕ)} {V = Option (List ℕ)} (λ x. x) fault (Ok []) (Ok None)
    (λ _. Ok []) refl refused
refused_item (Some text) fault refused =
    let read = read_item text >>= some_octets in
    let once : Answers {T = Option ItemRead} (λ x. x) (Err fault) (some_value read) =
    refused_before fault (some_value read) (option_map (λ (i : ItemRead). i.item)) refused in
    refused_first {U = List (List ℕ)} {V = ItemRead} (λ x. x) fault (protocols_of text) read
    (λ found. short_item found >>= protocols_step protocols_of)
    (protocols_of-step text ∙ in_steps read)
    (refused_before fault read (λ (i : ItemRead). Some i) once)

-- ---- what was read of a text

module _ (text : List ℕ) (left : Option (List ℕ)) (before : List (List ℕ))
    (so_far : protocols_of text ≡ behind_protocols before (protocols_left left)) where
  pub protocols_end : item_read (next_read left) ≡ Ok None → protocols_of text ≡ Ok before
  protocols_end is =
      so_far ∙ ap (behind_protocols before) (none_taken left is)
      ∙ ap (λ (all : List (List ℕ)). Ok all) (append-nil before)

  pub protocols_long : (item : List ℕ) → item_read (next_read left) ≡ Ok (Some item)
      → 255 < length item → protocols_of text ≡ Err LongItem
  protocols_long item is long =
      so_far ∙ ap (behind_protocols before) ((taken left item is).long long)

  pub protocols_more : (item : List ℕ) → item_read (next_read left) ≡ Ok (Some item)
      → length item ≤ 255
      → protocols_of text
      ≡ behind_protocols (before ++ item ∷ []) (protocols_left (text_behind (next_read left)))
  protocols_more item is short =
      so_far ∙ ap (behind_protocols before) ((taken left item is).first short)
      ∙ behind_protocols-push before item (protocols_left (text_behind (next_read left)))

  pub protocols_refused : (fault : ScanError)
      → Answers {T = Option (List ℕ)} (λ x. x) (Err fault) (item_read (next_read left))
      → Answers {T = List (List ℕ)} (λ x. x) (Err fault) (protocols_of text)
  protocols_refused fault refused =
      refused_first {U = List (List ℕ)} {V = List (List ℕ)} (λ x. x) fault (protocols_of text)
      (protocols_left left) (λ items. Ok (before ++ items)) so_far
      (refused_item left fault refused)

-- each protocol is one
pub each_protocol : (before : List (List ℕ)) (item : List ℕ)
    → AllByRecursion (λ protocol. IsProtocolLength (length protocol)) before → 0 < length item
    → length item ≤ 255
    → AllByRecursion (λ protocol. IsProtocolLength (length protocol)) (before ++ item ∷ [])
each_protocol [] item each some short = (record { not_empty = some; fits = short }, tt)
each_protocol (first ∷ before) item each some short =
    (each.0, each_protocol before item each.1 some short)

-- ---- the octets of protocols

pub protocols_wire-push : (before : List (List ℕ)) (item : List ℕ)
    → length (protocols_wire (before ++ item ∷ []))
    ≡ length (protocols_wire before) + 1 + length item
protocols_wire-push [] item = omega (arith, ap (λ (o : List ℕ). length o) (append-nil item))
protocols_wire-push (first ∷ before) item =
    omega (
      arith,
      length-append first (protocols_wire (before ++ item ∷ [])),
      length-append first
          (protocols_wire before),
      protocols_wire-push before item,
    )

pub protocols_wire-front : (n : ℕ) (protocols : List (List ℕ))
    → length (protocols_wire (take n protocols)) ≤ length (protocols_wire protocols)
protocols_wire-front zero protocols = omega arith
protocols_wire-front (suc n) [] = omega arith
protocols_wire-front (suc n) (first ∷ protocols) =
    omega (
      arith,
      length-append first (protocols_wire (take n protocols)),
      length-append first
          (protocols_wire protocols),
      protocols_wire-front n protocols,
    )

pub protocol_at : (i : ℕ) (protocols : List (List ℕ)) (d : List ℕ)
    → AllByRecursion (λ protocol. IsProtocolLength (length protocol)) protocols → i < length protocols
    → IsProtocolLength (length (get_or protocols i d))
protocol_at i [] d each within = absurd (omega arith)
protocol_at zero (first ∷ protocols) d each within = each.0
protocol_at (suc i) (first ∷ protocols) d each within =
    protocol_at i protocols d each.1 (omega arith)

-- protocols so far and one more, which go over the limit
pub protocols_exceed : (i : ℕ) (protocols : List (List ℕ)) (item : List ℕ) → i < length protocols
    → item ≡ get_or protocols i item
    → 65535 < length (protocols_wire (take i protocols)) + 1 + length item
    → 65535 < length (protocols_wire protocols)
protocols_exceed i protocols item within at over =
    let more : take (i + 1) protocols ≡ take i protocols ++ item ∷ [] =
    take_more protocols i item within
    ∙ ap (λ (p : List ℕ). take i protocols ++ p ∷ []) (sym at) in
    omega (
      arith,
      protocols_wire-front (i + 1) protocols,
      protocols_wire-push
          (take i protocols) item,
      ap (λ (ps : List (List ℕ)). length (protocols_wire ps)) more,
    )

-- a push is refused when allocation fails, or where the protocols exceed the limit
pub push_answers : (error : BuildAlpnError) (old len : ℕ) (value : Value) → IsProtocolLength len
    → IsPushed {X = Unit {0}} (Err error) old len
    → (65535 < old + 1 + len → 65535 < length (encode value))
    → Answers {T = Value} (λ v. v) (Err (protocol_fault error)) (short_value value)
push_answers push_errors.InvalidProtocol old len value is refused over = absurd (refused is)
push_answers push_errors.LongSvcParam old len value is refused over =
    short_value-long value (over refused.1)
push_answers push_errors.ShortBuf old len value is refused over = absurd refused
push_answers push_errors.NoMemory old len value is refused over = tt

-- less is left behind an item
pub less_left : (text : List ℕ) (found : ItemRead) → read_item text ≡ Ok found
    → left_len found.rest < suc (length text)
less_left text found is =
    let less : left_len found.rest ≤ length text =
    subst (λ (r : Result ItemRead ScanError). IsShorter r (length text)) is
    (read_item-shorter text) in
    omega arith
