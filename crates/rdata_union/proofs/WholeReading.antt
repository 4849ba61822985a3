-- Data that is read to the end of octets.
use Rattle.std.proofs.Common.{◌≡◌, ℕ, ◌+◌, ◌<◌, ◌≤◌, true, false, cond, Result, Ok, Err, ap, ◌∙◌, subst, arith}
use Rattle.std.proofs.lemmas.Bool.{lt-ltb}
use Rattle.std.proofs.lemmas.Bool.Decides.{nat_tests}
use Rattle.std.specs.Prelude.{nat_lt}
use Rattle.name_spec.specs.Octets.{Fault, Form}
use Rattle.wire_base.specs.Faults.{GivesCopy}
use Rattle.wire_base.specs.Input.{Input}
use Rattle.wire_base.specs.RecordReading.{DataRead, place_behind}
use Rattle.wire_base.specs.declared.errors.ParseError.{ParseError}
use Rattle.wire_base.specs.declared.errors.ParseError.TheVariants as parse
use Rattle.wire_base.specs.declared.errors.ParseError.TheVariants.{ShortInput, NoMemory}
use Rattle.record_spec.specs.RecordData.{RecordData}
use Rattle.record_spec.specs.UnionReading.{union_read}
use Rattle.rdata_union.specs.Views.{value_read}
use Rattle.rdata_union.specs.WholeData.{whole_data, data_left, GivesWhole}

reaches : (a b : ℕ) → b ≤ a → nat_lt a b ≡ false
reaches a b past = grind (arith, nat_tests)

-- octets are left
part : (begin end : ℕ) (read : Result (DataRead RecordData) Fault) (found : RecordData)
    → value_read read ≡ Ok found → place_behind begin true read < end
    → whole_data end read ≡ Err Form
part begin end (Ok held) found is less =
    ap (λ left. cond left (Err Form) (Ok held.value)) (lt-ltb held.next end less)
part begin end (Err fault) found is less = absurd cc

-- none is left
whole : (begin end : ℕ) (read : Result (DataRead RecordData) Fault) (found : RecordData)
    → value_read read ≡ Ok found → end ≤ place_behind begin true read
    → whole_data end read ≡ Ok found
whole begin end (Ok held) found is past =
    ap (λ left. cond left (Err Form) (Ok held.value)) (reaches held.next end past) ∙ is
whole begin end (Err fault) found is past = absurd cc

-- an error of reading is right where the data is to reach to the end
refused : {X : Type 0} (view : X → RecordData) (error : ParseError) (end : ℕ)
    (read : Result (DataRead RecordData) Fault)
    → GivesCopy view (Err error) (value_read read) → GivesWhole view (Err error) end read
refused view NoMemory end (Ok held) is = tt
refused view NoMemory end (Err fault) is = absurd cc
refused view ShortInput end (Ok held) is = absurd cc
refused view ShortInput end (Err fault) is = is
refused view parse.Form end (Ok held) is = absurd cc
refused view parse.Form end (Err fault) is = is

-- the same of the data that all octets left are, where a copy of the parser reads
module _ (rtype : ℕ) (old fork : Input) (begins : fork ≡ old) where
  pub refused_read : {X : Type 0} (view : X → RecordData) (error : ParseError)
      → GivesCopy view (Err error) (value_read (union_read rtype fork))
      → GivesWhole view (Err error) old.end (union_read rtype old)
  refused_read view error is =
      subst (λ (input : Input). GivesWhole view (Err error) input.end (union_read rtype input))
      begins
      (refused view error fork.end (union_read rtype fork) is)

  module _ (new : Input) (count : ℕ) (found : RecordData)
      (is : value_read (union_read rtype fork) ≡ Ok found)
      (moved : new
      ≡ record {
        message = fork.message;
        end = fork.end;
        pos = place_behind fork.pos true (union_read rtype fork);
      })
      (left : count + new.pos ≡ new.end) where
    stands : new.pos ≡ place_behind fork.pos true (union_read rtype fork)
    stands = ap (λ (input : Input). input.pos) moved

    ends : new.end ≡ fork.end
    ends = ap (λ (input : Input). input.end) moved

    pub part_read : 0 < count → data_left rtype old ≡ Err Form
    part_read more =
        subst (λ (input : Input). data_left rtype input ≡ Err Form) begins
        (part fork.pos fork.end (union_read rtype fork) found is
        (omega (arith, stands, ends, left, more)))

    pub whole_read : count ≤ 0 → data_left rtype old ≡ Ok found
    whole_read no_more =
        subst (λ (input : Input). data_left rtype input ≡ Ok found) begins
        (whole fork.pos fork.end (union_read rtype fork) found is
        (omega (arith, stands, ends, left, no_more)))
