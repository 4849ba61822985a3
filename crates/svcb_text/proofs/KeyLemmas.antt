-- The key of a parameter stands before the first `=`.
use Rattle.std.proofs.Common.{◌≡◌, ℕ, zero, suc, ◌+◌, ◌<◌, true, false, cond, List, [], ◌∷◌, length, take, drop, get_or, refl, sym, ap, ◌∙◌, arith}
use Rattle.std.specs.Prelude.{◌==◌, not}
use Rattle.std.specs.List.{prefix_len}
use Rattle.std.proofs.lemmas.Bool.Decides.{nat_tests}
use Rattle.std.proofs.lemmas.List.{length-take-le, take_all, drop_all}
use Rattle.svcb_spec.specs.ParamTexts.{key_text, value_text}

-- how many octets stand before the first `=`
abbrev key_len : List ℕ → ℕ
key_len token = prefix_len (λ c. not (c == 61)) token

key_len-other : (c : ℕ) (token : List ℕ) → (c ≡ 61 → ⊥) → key_len (c ∷ token) ≡ 1 + key_len token
key_len-other c token other =
    let no_sign : (c == 61) ≡ false = grind (arith, nat_tests) in
    ap (λ b. cond (not b) (1 + key_len token) 0) no_sign

key_len-sign : (c : ℕ) (token : List ℕ) → c ≡ 61 → key_len (c ∷ token) ≡ 0
key_len-sign c token is =
    let sign : (c == 61) ≡ true = grind (arith, nat_tests) in
    ap (λ b. cond (not b) (1 + key_len token) 0) sign

key_len-at : (i : ℕ) (token : List ℕ) → ((k : ℕ) → k < i → get_or token k 0 ≡ 61 → ⊥)
    → i < length token → get_or token i 0 ≡ 61 → key_len token ≡ i
key_len-at i [] before within here = absurd (omega arith)
key_len-at zero (c ∷ token) before within here = key_len-sign c token here
key_len-at (suc i) (c ∷ token) before within here =
    omega (
      arith,
      key_len-other c token (before 0 (omega arith)),
      key_len-at i token
          (λ k h. before (suc k) (omega arith)) (omega arith) here,
    )

key_len-all : (token : List ℕ) → ((k : ℕ) → k < length token → get_or token k 0 ≡ 61 → ⊥)
    → key_len token ≡ length token
key_len-all [] none = refl
key_len-all (c ∷ token) none =
    omega (
      arith,
      key_len-other c token (none 0 (omega arith)),
      key_len-all token
          (λ k h. none (suc k) (omega arith)),
    )

-- with an `=`
module _ (i : ℕ) (token : List ℕ) (before : (k : ℕ) → k < i → get_or token k 0 ≡ 61 → ⊥)
    (within : i < length token) (here : get_or token i 0 ≡ 61) where
  pub key_text-at : take i token ≡ key_text token
  key_text-at = ap (λ n. take n token) (sym (key_len-at i token before within here))

  pub value_text-at : drop (i + 1) token ≡ value_text token
  value_text-at =
      let len : length (take i token) ≡ i = length-take-le i token (omega arith) in
      ap (λ n. drop (n + 1) token) (sym len ∙ ap length key_text-at)

-- without one
module _ (token : List ℕ) (none : (k : ℕ) → k < length token → get_or token k 0 ≡ 61 → ⊥) where
  pub key_text-all : token ≡ key_text token
  key_text-all =
      sym (take_all (length token) token (omega arith))
      ∙ ap (λ n. take n token) (sym (key_len-all token none))

  pub value_text-all : [] ≡ value_text token
  value_text-all =
      sym (drop_all (length (key_text token) + 1) token (omega (arith, ap length key_text-all)))
