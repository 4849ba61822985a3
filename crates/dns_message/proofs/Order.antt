-- The data of records stands in order.
use Rattle.std.proofs.Common.{◌≡◌, ℕ, zero, suc, ◌+◌, ◌<◌, ◌≤◌, inl, inr, List, Result, Ok, Err, refl, subst, arith}
use Rattle.std.proofs.lemmas.Bool.{cases_lt}
use Rattle.std.proofs.lemmas.Bool.Decides.{nat_tests}
use Rattle.name_spec.specs.Octets.{Fault, Short, ◌>>=◌}
use Rattle.name_spec.specs.Names.{NameRead}
use Rattle.name_spec.proofs.NameLengths.{next_behind}
use Rattle.wire_base.specs.Input.{Input}
use Rattle.wire_base.specs.NameView.{next_name}
use Rattle.wire_base.specs.RecordReading.{DataRead}
use Rattle.wire_base.specs.declared.errors.ParseError.{ParseError}
use Rattle.dns_message.specs.Entries.{MessageRecord, entries, next_record, record_in, record_behind, with_entry}
use Rattle.dns_message.specs.Laws.{StandsIn, StandInOrder}

-- a record that was read is the one behind its owner, and doesn't go past the end
record_found : (input : Input) (name : NameRead) (found : DataRead MessageRecord)
    → record_behind input name ≡ Ok found
    → (found ≡ record_in input name) × (found.next ≤ input.end)
record_found input name found is = elim (cases_lt input.end (name.next + 10)) [
  | inl short ↦ absurd
      (let fault : record_behind input name ≡ Err Short = grind (arith, nat_tests) in cc)
  | inr enough ↦ elim (cases_lt input.end (record_in input name).next) [
    | inl short ↦ absurd
        (let fault : record_behind input name ≡ Err Short = grind (arith, nat_tests) in cc)
    | inr within ↦
        let read : record_behind input name ≡ Ok (record_in input name)
        = grind (arith, nat_tests) in
        let same : found ≡ record_in input name = cc in
        (same, rw same (omega arith))
  ]
]

-- a record's data stands behind the place where the record begins
stands_behind : (input : Input) (read : Result NameRead Fault) (found : DataRead MessageRecord)
    → next_name input ≡ read → (read >>= record_behind input) ≡ Ok found
    → StandsIn input found.value × (found.next ≡ found.value.rdata.end)
stands_behind input (Ok name) found named is =
    let behind : input.pos < name.next =
    next_behind input.message input.end input.pos 0 0 name named in
    let known = record_found input name found is in
    rw known.0 (
      record {
        message = refl;
        behind = omega arith;
        ascends = omega arith;
        within = subst (λ (f : DataRead MessageRecord). f.next ≤ input.end) known.0 known.1;
      },
      refl,
    )
stands_behind input (Err fault) found named is = absurd cc

-- the first item stands in order, and so do the others behind it
first_in_order : (input : Input) (read : Result (DataRead MessageRecord) Fault)
    (others : ℕ → List (Result MessageRecord ParseError)) → next_record input ≡ read
    → ((next : ℕ) → StandInOrder (record input { pos = next }) (others next))
    → StandInOrder input (with_entry read others)
first_in_order input (Ok found) others is behind =
    let stands = stands_behind input (next_name input) found refl is in (
      stands.0,
      subst (λ next. StandInOrder (record input { pos = next }) (others found.next))
          stands.1 (behind found.next),
    )
first_in_order input (Err fault) others is behind = tt

pub records_in_order : (count : ℕ) (input : Input)
    → StandInOrder input (entries next_record count input)
unfolding entries
records_in_order zero input = tt
records_in_order (suc count) input =
    first_in_order input (next_record input)
    (λ next. entries next_record count (record input { pos = next })) refl
    (λ next. records_in_order count (record input { pos = next }))
