use Rattle.std.proofs.Common.{◌≡◌, ◌∙◌, ◌+◌, ◌<◌, ◌⊎◌, inl, inr, ◌++◌, ◌∷◌, Ok, ℕ, List, length, take, drop, sym, ap, arith}
use Rattle.std.proofs.lemmas.Bool.Decides.{nat_tests}
use Rattle.std.proofs.lemmas.List.{length-take-le}
use Rattle.text_spec.specs.Scanning.{octets_of}
use Rattle.dns_text.specs.Labels.{label_len}
use Rattle.dns_text.proofs.NameTexts.{written-label, written-refused, written-end}
use Rattle.dns_text.proofs.names.write_labels.Goals as goal
use Rattle.dns_text.proofs.names.write_labels.Goals.{then-len-eq0-via-then-len-eq0, then-len-eq0-via-else-len-eq0+then-len-gt-MAX_LABEL_LEN, then-len-eq0-via-else-len-eq0+else-len-gt-MAX_LABEL_LEN+then-len-gt-MAX_LABEL_OCTETS}

pub returns-then-len-eq0 : goal.returns-then-len-eq0
returns-then-len-eq0 c =
    let left = c.loop-symbols.symbols.now in
    let octets = c.loop-symbols.octets.items in
    let len : c.label_len-len.result ≡ label_len left = c.label_len-len.ensures.len in
    let some : 0 < length left = grind (arith, nat_tests) in
    let bad : (label_len left ≡ 0)
    ⊎ ((63 < label_len left) ⊎ (254 < length octets + label_len left + 1)) =
    elim c.then-len-eq0.branch [
      | then-len-eq0-via-then-len-eq0 w ↦ inl (omega (arith, len, w.if-len-eq0.true))
      | then-len-eq0-via-else-len-eq0+then-len-gt-MAX_LABEL_LEN w ↦ inr
          (inl (omega (arith, len, w.if-len-gt-MAX_LABEL_LEN.true)))
      | then-len-eq0-via-else-len-eq0+else-len-gt-MAX_LABEL_LEN+then-len-gt-MAX_LABEL_OCTETS w ↦
          inr (inr (omega (arith, len, w.len.ensures, w.if-len-gt-MAX_LABEL_OCTETS.true)))
    ] in
    written-refused c.args.token.now left octets c.loop-symbols.invariant some bad

pub loop-symbols-preserved : goal.loop-symbols-preserved
loop-symbols-preserved c =
    let left = c.loop-symbols.symbols.now in
    let octets = c.loop-symbols.octets.items in
    let len : c.label_len-len.result ≡ label_len left = c.label_len-len.ensures.len in
    let some : 0 < length left = grind (arith, nat_tests) in
    let long : length (take c.label_len-len.result left) ≡ c.label_len-len.result =
    length-take-le c.label_len-len.result left c.label_len-len.ensures.within in
    let octets_is : c.push_label.new.octets.items
    ≡ octets ++ label_len left ∷ octets_of (take (label_len left) left) =
    c.in_ok-push_label.ensures.ok
    ∙ ap (λ (n : ℕ). octets ++ n ∷ octets_of (take c.label_len-len.result left)) long
    ∙ ap (λ (n : ℕ). octets ++ n ∷ octets_of (take n left)) len in
    let left_is : c.skip_symbols-symbols.result.now ≡ drop (label_len left + 1) left =
    c.skip_symbols-symbols.ensures ∙ ap (λ (n : ℕ). drop (n + 1) left) len in
    rw (octets_is, left_is)
    (written-label c.args.token.now left octets c.loop-symbols.invariant some (omega arith)
    (omega arith) (omega (arith, c.len.ensures)))

pub returns : goal.returns
returns c =
    let left = c.loop-symbols.symbols.now in
    let none : length left ≡ 0 = grind (arith, nat_tests) in
    written-end c.args.token.now left c.loop-symbols.octets.items c.loop-symbols.invariant none
    ∙ ap (λ (octets : List ℕ). Ok octets) (sym c.in_ok-push.ensures.items ∙ sym c.from_vec.ensures)
