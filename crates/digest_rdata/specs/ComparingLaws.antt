-- Laws of numbers that are compared in turn. Derived comparisons of fields are these.
use Rattle.std.specs.Prelude.{◌≡◌, Bool, true, false, ◌&&◌, refl}
use Rattle.std.proofs.Common.{ap}
use Rattle.std.specs.declared.cmp.Ordering.{Ordering}
use Rattle.std.specs.declared.cmp.Ordering.TheVariants.{Less, Equal, Greater}
use Rattle.std.specs.Ordering.{ordering_then}

and_true : (p : Bool) → p ≡ (p && true)
and_true true = refl
and_true false = refl

then_equal : (o : Ordering) → o ≡ ordering_then o Equal
then_equal Less = refl
then_equal Equal = refl
then_equal Greater = refl

pub equal_two : (p q : Bool) → (p && q) ≡ (p && (q && true))
equal_two p q = ap (λ b. p && b) (and_true q)

pub equal_three : (p q r : Bool) → (p && (q && r)) ≡ (p && (q && (r && true)))
equal_three p q r = ap (λ b. p && b) (equal_two q r)

pub then_two : (p q : Ordering) → ordering_then p q ≡ ordering_then p (ordering_then q Equal)
then_two p q = ap (ordering_then p) (then_equal q)

pub then_three : (p q r : Ordering)
    → ordering_then p (ordering_then q r)
    ≡ ordering_then p (ordering_then q (ordering_then r Equal))
then_three p q r = ap (ordering_then p) (then_two q r)
