-- Facts on the data and the pushes of `gen`.
use Rattle.std.proofs.Common.{◌≡◌, ℕ, zero, suc, ◌+◌, ◌-◌, ◌*◌, ◌<◌, List, [], ◌∷◌, ◌++◌, Some, refl, sym, ap, ◌∙◌, arith, add-one, append_assoc}
use Rattle.std.proofs.lemmas.List.{append-nil}
use Rattle.name_spec.specs.Octets.{be2}
use Rattle.name_spec.specs.Names.{name_wire}
use Rattle.svcb_spec.specs.Params.{pair_wire}
use Rattle.svcb_spec.specs.Values.{Value}
use Rattle.edit_program.specs.Generate.{own_params, own_message, pushes_at, pushes_below}

-- one parameter more
pub own_message-more : (i : ℕ)
    → own_message (i + 1) ≡ own_message i ++ pair_wire (100 + 8 * i) (Some (be2 i))
unfolding own_params
own_message-more i =
    ap own_message (add-one i)
    ∙ sym (append_assoc (be2 1 ++ name_wire []) (own_params i)
    (pair_wire (100 + 8 * i) (Some (be2 i))))

-- none
pub own_message-none : own_message 0 ≡ 0 ∷ 1 ∷ 0 ∷ []
unfolding own_params
own_message-none = refl

-- what is left behind the values so far
pub pushes_below-more : (front grown : List Value) (left : ℕ) (all : List Value) → 0 < left
    → grown ≡ front ++ pushes_at (left - 1)
    → front ++ pushes_below left ≡ all → grown ++ pushes_below (left - 1) ≡ all
unfolding pushes_below
pushes_below-more front grown zero all some is whole = absurd (omega arith)
pushes_below-more front grown (suc j) all some is whole =
    let one : suc j - 1 ≡ j = omega arith in
    ap (λ n. grown ++ pushes_below n) one
    ∙ ap (λ values. values ++ pushes_below j) (is ∙ ap (λ n. front ++ pushes_at n) one)
    ∙ append_assoc front (pushes_at j) (pushes_below j) ∙ whole

pub pushes_below-none : (front : List Value) (left : ℕ) (all : List Value) → left ≡ 0
    → front ++ pushes_below left ≡ all → front ≡ all
unfolding pushes_below
pushes_below-none front left all none whole =
    sym (append-nil front) ∙ ap (λ n. front ++ pushes_below n) (sym none) ∙ whole

pub ruleset own_message_steps = (own_message-more, own_message-none)
