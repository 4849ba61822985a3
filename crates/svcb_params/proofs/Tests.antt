-- Tests of numbers.
use Rattle.std.proofs.Common.{◌≡◌, ℕ, Bool, true, false, refl, arith}
use Rattle.std.specs.Prelude.{◌==◌, ◌&&◌}
use Rattle.std.proofs.lemmas.Bool.Decides.{nat_tests}

pub test_swap : (n m : ℕ) → (n == m) ≡ (m == n)
test_swap n m = elim (m == n) as (λ b. (m == n) ≡ b → (n == m) ≡ b) [
  | true ↦ λ e. grind (arith, nat_tests)
  | false ↦ λ e. grind (arith, nat_tests)
] refl

pub and_true : (b : Bool) → (b && true) ≡ b
and_true true = refl
and_true false = refl
