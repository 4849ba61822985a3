-- What answers `gen`: how record data that the program makes itself is rebuilt.
use Rattle.std.specs.Prelude.{ℕ, zero, suc, ◌+◌, ◌*◌, ◌%◌, ◌==◌, Bool, true, false, if◌then◌else◌, min, List, [], ◌∷◌, ◌++◌, length, Some, Result, codes}
use Rattle.std.specs.Fmt.{decimal}
use Rattle.std.specs.List.{count_by, sum}
use Rattle.name_spec.specs.Octets.{be2}
use Rattle.name_spec.specs.Names.{name_wire}
use Rattle.svcb_spec.specs.declared.Reply.{Reply}
use Rattle.svcb_spec.specs.declared.Reply.TheVariants.{Accepted, DuplicateKey, ShortBuf}
use Rattle.svcb_spec.specs.Params.{pair_wire}
use Rattle.svcb_spec.specs.Rebuilding.{Rebuilt, Refusal, rebuild}
use Rattle.svcb_spec.specs.Values.{Value, Unknown}
use Rattle.edit_program.specs.Edit.{report_of}
use Rattle.input_lines.specs.Report.{Answer, done_answer}
use Rattle.edit_program.specs.declared.generate.TheConstants.{MAX_PARAMS, MAX_PUSHED, PARAMS_LIMIT}

-- the first parameters of the data: under the key 100 + 8i the two octets of i
unfoldable pub own_params : ℕ → List ℕ
own_params zero = []
own_params (suc i) = own_params i ++ pair_wire (100 + 8 * i) (Some (be2 i))

-- the data, which is the whole message: priority 1, the root, and so many parameters
abbrev pub own_message : ℕ → List ℕ
own_message count = (be2 1 ++ name_wire []) ++ own_params count

-- what is pushed: under the key 101 + 8j the two octets of j
abbrev pub own_push : ℕ → Value
own_push j = Unknown (101 + 8 * j) (be2 j)

-- once, or twice in a row where j is divisible by 4
abbrev pub pushes_at : ℕ → List Value
pushes_at j = if j % 4 == 0 then own_push j ∷ own_push j ∷ [] else own_push j ∷ []

-- for each j below a number, from the greatest down
unfoldable pub pushes_below : ℕ → List Value
pushes_below zero = []
pushes_below (suc j) = pushes_at j ++ pushes_below j

abbrev pub is_accepted : Reply → Bool
is_accepted Accepted = true
is_accepted DuplicateKey = false
is_accepted ShortBuf = false

abbrev pub is_duplicate : Reply → Bool
is_duplicate Accepted = false
is_duplicate DuplicateKey = true
is_duplicate ShortBuf = false

-- what a report says of two counts of replies, and of how many octets there are and what they sum
-- to
abbrev pub summary_text : ℕ → ℕ → ℕ → ℕ → List ℕ
summary_text accepted duplicate octets total =
    codes "accepted " ++ decimal accepted ++ codes " duplicate " ++ decimal duplicate
    ++ codes " octets " ++ decimal octets ++ codes " sum " ++ decimal total

-- the replies that are `Accepted` and `DuplicateKey`, and the octets
abbrev pub summary : Rebuilt → List ℕ
summary rebuilt =
    summary_text (count_by is_accepted rebuilt.replies) (count_by is_duplicate rebuilt.replies)
    (length rebuilt.octets) (sum rebuilt.octets)

-- the data of so many parameters, with as many pushes, but at most `MAX_PUSHED`
abbrev pub own_rebuilt : ℕ → Result Rebuilt Refusal
own_rebuilt count =
    rebuild (own_message count) 0 (length (own_message count))
    (pushes_below (min count MAX_PUSHED)) PARAMS_LIMIT

-- the answer of `gen` to a count, which is at most `MAX_PARAMS` where words give it
abbrev pub due_of_gen : ℕ → Answer
due_of_gen count =
    report_of (λ rebuilt. done_answer (summary rebuilt)) (own_rebuilt (min count MAX_PARAMS))
