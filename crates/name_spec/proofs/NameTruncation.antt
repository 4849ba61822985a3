-- Names in data whose end was cut off. Offered to the crates above: `name_at-cut`.
use Rattle.std.proofs.Common.{◌≡◌, ◌≢◌, ℕ, zero, suc, ◌+◌, ◌-◌, ◌≤◌, Result, Err, refl, arith, List}
use Rattle.std.proofs.lemmas.Bool.Decides.{nat_tests}
use Rattle.name_spec.specs.Octets.{Fault, Short}
use Rattle.name_spec.specs.Names.{NameRead, Reading, name_step, name_within, name_at}

-- the answer for the data that was cut is that for the whole, unless octets are missing
abbrev IsCut : Result NameRead Fault → Result NameRead Fault → Type 0
IsCut cut whole = cut ≢ Err Short → cut ≡ whole

-- `end` enters a step only by tests that give `Short`
name_step-cut : (f g : Reading) (message : List ℕ) (end cut pos octets pointers : ℕ) → cut ≤ end
    → ((pos' octets' pointers' : ℕ) → IsCut (f pos' octets' pointers') (g pos' octets' pointers'))
    → IsCut (name_step f message cut pos octets pointers)
    (name_step g message end pos octets pointers)
unfolding name_step
name_step-cut f g message end cut pos octets pointers within same enough =
    grind (arith, nat_tests, same)

name_within-cut : (n : ℕ) (message : List ℕ) (end cut pos octets pointers : ℕ) → cut ≤ end
    → IsCut (name_within n message cut pos octets pointers)
    (name_within n message end pos octets pointers)
unfolding name_within
name_within-cut zero message end cut pos octets pointers within =
    name_step-cut _ _ message end cut pos octets pointers within (λ _ _ _ _. refl)
name_within-cut (suc n) message end cut pos octets pointers within =
    name_step-cut _ _ message end cut pos octets pointers within
    (λ pos' octets' pointers'. name_within-cut n message end cut pos' octets' pointers' within)

-- a name in data that was cut is the name in the whole, or octets are missing
pub name_at-cut : (message : List ℕ) (end cut pos octets pointers : ℕ) → cut ≤ end
    → name_at message cut pos octets pointers ≢ Err Short
    → name_at message cut pos octets pointers ≡ name_at message end pos octets pointers
unfolding name_at
name_at-cut message end cut pos octets pointers within =
    name_within-cut ((254 - octets) + (255 - pointers)) message end cut pos octets pointers within
