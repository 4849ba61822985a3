-- One look for an alias behind another.
use Rattle.std.proofs.Common.{◌≡◌, ℕ, zero, suc, ◌+◌, ◌<◌, List, Option, Some, None, Ok, Err, refl, ap, ◌∙◌, arith}
use Rattle.name_spec.specs.Octets.{Fault, Short, Form}
use Rattle.wire_base.specs.Faults.{IsFaultOf, error_of}
use Rattle.wire_base.specs.NameView.{NameView}
use Rattle.wire_base.specs.declared.errors.ParseError.{ParseError}
use Rattle.wire_base.specs.declared.errors.ParseError.TheVariants as parse
use Rattle.dns_message.specs.Aliases.{LeadOn, alias_in, alias_of, canonical_name, goes_on, labels_reached, last_target}
use Rattle.dns_message.specs.Headers.{header_of}
use Rattle.dns_message.specs.Messages.{answers_start, section_behind}
use Rattle.dns_message.specs.declared.errors.AliasError.{AliasError}
use Rattle.dns_message.specs.declared.errors.AliasError.TheVariants as errors

-- as many looks as allowed found an alias
pub looks-none : (looks : ℕ) (message : List ℕ) (owner : List (List ℕ)) (reached : Option NameView)
    → looks ≡ 0 → last_target looks message owner reached ≡ Err errors.Loop
unfolding last_target
looks-none zero message owner reached none = refl
looks-none (suc looks) message owner reached none = absurd omega (arith, none)

-- a look found an alias, from whose target the search goes on
pub looks-found : (looks left : ℕ) (message : List ℕ) (owner : List (List ℕ))
    (reached : Option NameView) (target : NameView) → looks ≡ left + 1
    → alias_of message (labels_reached owner reached) ≡ Ok (Some target)
    → last_target looks message owner reached ≡ last_target left message owner (Some target)
unfolding last_target
looks-found zero left message owner reached target one found = absurd omega (arith, one)
looks-found (suc looks) left message owner reached target one found =
    let others : looks ≡ left = omega (arith, one) in
    ap (goes_on reached (λ name. last_target looks message owner (Some name))) found
    ∙ ap (λ n. last_target n message owner (Some target)) others

-- a look found none
pub looks-last : (looks : ℕ) (message : List ℕ) (owner : List (List ℕ)) (reached : Option NameView)
    → 0 < looks → alias_of message (labels_reached owner reached) ≡ Ok None
    → last_target looks message owner reached ≡ Ok reached
unfolding last_target
looks-last zero message owner reached some found = absurd omega (arith, some)
looks-last (suc looks) message owner reached some found =
    ap (goes_on reached (λ name. last_target looks message owner (Some name))) found

-- a look came to a fault
pub looks-fault : (looks : ℕ) (message : List ℕ) (owner : List (List ℕ))
    (reached : Option NameView) (error : AliasError)
    → 0 < looks → alias_of message (labels_reached owner reached) ≡ Err error
    → last_target looks message owner reached ≡ Err error
unfolding last_target
looks-fault zero message owner reached error some found = absurd omega (arith, some)
looks-fault (suc looks) message owner reached error some found =
    ap (goes_on reached (λ name. last_target looks message owner (Some name))) found

-- a question has a fault
start-fault_is : (message : List ℕ) (owner : List (List ℕ)) (fault : Fault)
    → answers_start message ≡ Err fault
    → canonical_name message owner ≡ Err (errors.Parse (error_of fault))
start-fault_is message owner fault start =
    looks-fault ((header_of message).ancount + 1) message owner None
    (errors.Parse (error_of fault)) (omega arith)
    (ap (λ at. alias_in owner (section_behind at (header_of message).ancount)) start)

pub start-fault : (message : List ℕ) (owner : List (List ℕ)) (error : ParseError)
    → IsFaultOf error (answers_start message)
    → canonical_name message owner ≡ Err (errors.Parse error)
start-fault message owner parse.ShortInput start = start-fault_is message owner Short start
start-fault message owner parse.Form start = start-fault_is message owner Form start
start-fault message owner parse.NoMemory start = elim start [ ]

-- aliases lead on, so that no look is the last
no_look_is_last : (looks : ℕ) (message : List ℕ) (owner : List (List ℕ))
    (reached : Option NameView) (targets : ℕ → NameView)
    → alias_of message (labels_reached owner reached) ≡ Ok (Some (targets 0))
    → ((n : ℕ) → alias_of message (targets n).labels ≡ Ok (Some (targets (n + 1))))
    → last_target looks message owner reached ≡ Err errors.Loop
no_look_is_last zero message owner reached targets first others =
    looks-none zero message owner reached refl
no_look_is_last (suc looks) message owner reached targets first others =
    looks-found (suc looks) looks message owner reached (targets 0) (omega arith) first
    ∙ no_look_is_last looks message owner (Some (targets 0)) (λ n. targets (n + 1)) (others 0)
    (λ n. others (n + 1))

pub loop-refused : (message : List ℕ) (owner : List (List ℕ)) (targets : ℕ → NameView)
    → LeadOn message owner targets → canonical_name message owner ≡ Err errors.Loop
loop-refused message owner targets goes =
    no_look_is_last ((header_of message).ancount + 1) message owner None targets goes.first
    goes.others

pub ruleset look_rules =
    (looks-none, looks-found, looks-last, looks-fault, start-fault, loop-refused)
