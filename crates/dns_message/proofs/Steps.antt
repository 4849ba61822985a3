-- One step along the entries of a section.
use Rattle.std.proofs.Common.{◌≡◌, ℕ, zero, suc, ◌+◌, ◌-◌, ◌<◌, [], ◌∷◌, Ok, Err, refl, ap, sym, ◌∙◌, arith}
use Rattle.name_spec.specs.Octets.{Fault, Short, Form, ◌>>=◌}
use Rattle.wire_base.specs.Faults.{IsFaultOf, error_of}
use Rattle.wire_base.specs.Input.{Input}
use Rattle.wire_base.specs.declared.errors.ParseError.{ParseError}
use Rattle.wire_base.specs.declared.errors.ParseError.TheVariants as errors
use Rattle.dns_message.specs.Entries.{ReadsEntry, entries, behind_entries, with_entry}

-- no entries are left
pub entries-none : {Seen : Type 0} (reads : ReadsEntry Seen) (count : ℕ) (input : Input)
    → count ≡ 0 → entries reads count input ≡ []
unfolding entries
entries-none reads zero input none = refl
entries-none reads (suc count) input none = absurd omega (arith, none)

-- an entry was read, behind which the others stand
pub entries-read : {Seen : Type 0} (reads : ReadsEntry Seen) (count : ℕ) (input behind : Input)
    (entry : Seen) → 0 < count
    → reads input ≡ Ok (record { value = entry; next = behind.pos })
    → behind ≡ record input { pos = behind.pos }
    → entries reads count input ≡ Ok entry ∷ entries reads (count - 1) behind
unfolding entries
entries-read reads zero input behind entry some read same = absurd omega (arith, some)
entries-read reads (suc count) input behind entry some read same =
    let left : count ≡ suc count - 1 = omega arith in
    ap (λ found. with_entry found (λ next. entries reads count (record input { pos = next }))) read
    ∙ ap (λ at. Ok entry ∷ entries reads count at) (sym same)
    ∙ ap (λ n. Ok entry ∷ entries reads n behind) left

-- an entry has a fault
entries-fault_is : {Seen : Type 0} (reads : ReadsEntry Seen) (count : ℕ) (input : Input)
    (fault : Fault) → 0 < count → reads input ≡ Err fault
    → entries reads count input ≡ Err (error_of fault) ∷ []
unfolding entries
entries-fault_is reads zero input fault some read = absurd omega (arith, some)
entries-fault_is reads (suc count) input fault some read =
    ap (λ found. with_entry found (λ next. entries reads count (record input { pos = next }))) read

pub entries-fault : {Seen : Type 0} (reads : ReadsEntry Seen) (count : ℕ) (input : Input)
    (error : ParseError) → 0 < count → IsFaultOf error (reads input)
    → entries reads count input ≡ Err error ∷ []
entries-fault reads count input errors.ShortInput some read =
    entries-fault_is reads count input Short some read
entries-fault reads count input errors.Form some read =
    entries-fault_is reads count input Form some read
entries-fault reads count input errors.NoMemory some read = elim read [ ]

pub ruleset entry_rules = (entries-none, entries-read, entries-fault)

-- behind no entries a parser stands where it did
pub behind-none : {Seen : Type 0} (reads : ReadsEntry Seen) (count : ℕ) (input : Input)
    → count ≡ 0 → behind_entries reads count input ≡ Ok input
unfolding behind_entries
behind-none reads zero input none = refl
behind-none reads (suc count) input none = absurd omega (arith, none)

-- an entry was read, and the others are to be passed
pub behind-read : {Seen : Type 0} (reads : ReadsEntry Seen) (count left : ℕ)
    (input behind : Input) (entry : Seen) → count ≡ left + 1
    → reads input ≡ Ok (record { value = entry; next = behind.pos })
    → behind ≡ record input { pos = behind.pos }
    → behind_entries reads count input ≡ behind_entries reads left behind
unfolding behind_entries
behind-read reads zero left input behind entry one read same = absurd omega (arith, one)
behind-read reads (suc count) left input behind entry one read same =
    let others : count ≡ left = omega (arith, one) in
    ap (λ r. r >>= λ found. behind_entries reads count (record input { pos = found.next })) read
    ∙ ap (λ at. behind_entries reads count at) (sym same)
    ∙ ap (λ n. behind_entries reads n behind) others

-- an entry has a fault
behind-fault_is : {Seen : Type 0} (reads : ReadsEntry Seen) (count : ℕ) (input : Input)
    (fault : Fault) → 0 < count → reads input ≡ Err fault
    → behind_entries reads count input ≡ Err fault
unfolding behind_entries
behind-fault_is reads zero input fault some read = absurd omega (arith, some)
behind-fault_is reads (suc count) input fault some read =
    ap (λ r. r >>= λ found. behind_entries reads count (record input { pos = found.next })) read

pub behind-fault : {Seen : Type 0} (reads : ReadsEntry Seen) (count : ℕ) (input : Input)
    (error : ParseError) → IsFaultOf error (reads input) → 0 < count
    → IsFaultOf error (behind_entries reads count input)
behind-fault reads count input errors.ShortInput read some =
    behind-fault_is reads count input Short some read
behind-fault reads count input errors.Form read some =
    behind-fault_is reads count input Form some read
behind-fault reads count input errors.NoMemory read some = elim read [ ]

pub ruleset behind_rules = (behind-none, behind-read, behind-fault)
