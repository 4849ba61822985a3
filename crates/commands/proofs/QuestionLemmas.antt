-- Facts on the question of an input, whose lines are read one behind the other.
use Rattle.std.proofs.Common.{◌≡◌, ℕ, Bool, List, [], ◌∷◌, Some, None, Result, Ok, drop, refl, sym, ap, ◌∙◌}
use Rattle.std.specs.Prelude.{slice_get, option_and_then, if◌then◌else◌}
use Rattle.svcb_spec.specs.Records.{Record}
use Rattle.svcb_choose.specs.Choosing.{priorities_ascend}
use Rattle.input_lines.specs.Spelling.{line_or_fault, each_line, first_fault_or, IsFault, ◌>>=◌}
use Rattle.input_lines.specs.Tokens.{lone_name}
use Rattle.input_lines.specs.declared.faults.InputFault.{InputFault}
use Rattle.input_lines.specs.declared.faults.InputFault.TheVariants.{PrioritiesNotAscending}
use Rattle.input_lines.specs.declared.faults.SpellError.{SpellError}
use Rattle.input_lines.specs.declared.faults.SpellError.TheVariants.{Fault, NoMemory}
use Rattle.commands.specs.Choose.{Question, asked, order_fault, none_or, key_list, protocol_list}
use Rattle.commands.specs.DataLines.{svcb_line}

-- what the next line says as each of the parts
abbrev owner_in : List (List ℕ) → Result (List (List ℕ)) InputFault
owner_in left = line_or_fault 1 (option_and_then lone_name (slice_get left 0))

abbrev keys_in : List (List ℕ) → Result (List ℕ) InputFault
keys_in left = line_or_fault 2 (option_and_then (none_or key_list) (slice_get left 0))

abbrev defaults_in : List (List ℕ) → Result (List (List ℕ)) InputFault
defaults_in left = line_or_fault 3 (option_and_then (none_or protocol_list) (slice_get left 0))

abbrev records_in : List (List ℕ) → Result (List Record) InputFault
records_in left = each_line svcb_line 4 left

-- the question of the parts, or their first fault
abbrev question_of : Result (List (List ℕ)) InputFault → Result (List ℕ) InputFault
    → Result (List (List ℕ)) InputFault → Result (List Record) InputFault
    → Result Question InputFault
question_of owner_is keys_is defaults_is records_is = do
  owner ← owner_is
  understood ← keys_is
  defaults ← defaults_is
  records ← records_is
  first_fault_or (order_fault records) (Ok (record {
    owner = owner;
    understood = understood;
    defaults = defaults;
    records = records;
  }))

part-by-part : (all : List (List ℕ)) → asked all
    ≡ question_of (owner_in all) (keys_in (drop 1 all)) (defaults_in (drop 1 (drop 1 all)))
    (records_in (drop 1 (drop 1 (drop 1 all))))
part-by-part [] = refl
part-by-part (first ∷ []) = refl
part-by-part (first ∷ second ∷ []) = refl
part-by-part (first ∷ second ∷ third ∷ more) = refl

module _ (given all behind_owner behind_keys behind_defaults : List (List ℕ)) (is : all ≡ given)
    (e1 : behind_owner ≡ drop 1 all) (e2 : behind_keys ≡ drop 1 behind_owner)
    (e3 : behind_defaults ≡ drop 1 behind_keys) where
  asked-is : asked given ≡ question_of (owner_in all) (keys_in behind_owner)
      (defaults_in behind_keys) (records_in behind_defaults)
  asked-is =
      let two : behind_keys ≡ drop 1 (drop 1 all) = e2 ∙ ap (drop 1) e1 in
      let three : behind_defaults ≡ drop 1 (drop 1 (drop 1 all)) = e3 ∙ ap (drop 1) two in
      ap asked (sym is) ∙ part-by-part all
      ∙ ap (λ (l : List (List ℕ)). question_of (owner_in all) (keys_in l)
      (defaults_in (drop 1 (drop 1 all))) (records_in (drop 1 (drop 1 (drop 1 all))))) (sym e1)
      ∙ ap (λ (l : List (List ℕ)). question_of (owner_in all) (keys_in behind_owner)
      (defaults_in l) (records_in (drop 1 (drop 1 (drop 1 all))))) (sym two)
      ∙ ap (λ (l : List (List ℕ)). question_of (owner_in all) (keys_in behind_owner)
      (defaults_in behind_keys) (records_in l)) (sym three)

  module _ (owner : List (List ℕ)) (understood : List ℕ) (first : owner_in all ≡ Ok owner)
      (second : keys_in behind_owner ≡ Ok understood) where
    from-third : asked given ≡ question_of (Ok owner) (Ok understood)
        (defaults_in behind_keys) (records_in behind_defaults)
    from-third =
        asked-is
        ∙ ap (λ (o : Result (List (List ℕ)) InputFault). question_of o (keys_in behind_owner)
        (defaults_in behind_keys) (records_in behind_defaults)) first
        ∙ ap (λ (k : Result (List ℕ) InputFault). question_of (Ok owner) k
        (defaults_in behind_keys) (records_in behind_defaults)) second

    -- a fault of the third line is the input's
    pub third-fault : (error : SpellError) → IsFault error (defaults_in behind_keys)
        → IsFault error (asked given)
    third-fault (Fault fault) is_fault =
        from-third
        ∙ ap (λ (d : Result (List (List ℕ)) InputFault). question_of (Ok owner) (Ok understood) d
        (records_in behind_defaults)) is_fault
    third-fault NoMemory is_fault = tt

    module _ (defaults : List (List ℕ)) (third : defaults_in behind_keys ≡ Ok defaults) where
      from-fourth : asked given ≡ question_of (Ok owner) (Ok understood) (Ok defaults)
          (records_in behind_defaults)
      from-fourth =
          from-third
          ∙ ap (λ (d : Result (List (List ℕ)) InputFault). question_of (Ok owner) (Ok understood) d
          (records_in behind_defaults)) third

      -- and so is a fault of the records
      pub records-fault : (error : SpellError) → IsFault error (records_in behind_defaults)
          → IsFault error (asked given)
      records-fault (Fault fault) is_fault =
          from-fourth
          ∙ ap (λ (r : Result (List Record) InputFault). question_of (Ok owner) (Ok understood)
          (Ok defaults) r) is_fault
      records-fault NoMemory is_fault = tt

      -- whether the priorities ascend decides
      pub all-parts : (records : List Record) (ascend : Bool)
          → records_in behind_defaults ≡ Ok records → priorities_ascend records ≡ ascend
          → asked given ≡ first_fault_or (if ascend then None else Some PrioritiesNotAscending)
          (Ok (record {
            owner = owner;
            understood = understood;
            defaults = defaults;
            records = records;
          }))
      all-parts records ascend fourth order =
          from-fourth
          ∙ ap (λ (r : Result (List Record) InputFault). question_of (Ok owner) (Ok understood)
          (Ok defaults) r) fourth
          ∙ ap (λ (b : Bool). first_fault_or (if b then None else Some PrioritiesNotAscending)
          (Ok (record {
            owner = owner;
            understood = understood;
            defaults = defaults;
            records = records;
          }))) order
