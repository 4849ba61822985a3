-- Record data whose end was cut off.
use Rattle.std.specs.Prelude.{◌≡◌, ◌≢◌, ℕ, ◌<◌, ◌⊎◌, List, ◌++◌, Ok, Err}
use Rattle.name_spec.specs.Octets.{Short, Form}
use Rattle.svcb_spec.specs.Params.{Pairs}
use Rattle.svcb_spec.specs.Records.{Record, read}

-- the `n` octets from `start` on are read with the priority and the labels of `whole`, and a prefix
-- of its pairs
abbrev pub ReadsPrefix : List ℕ → ℕ → ℕ → Record → Type 0
ReadsPrefix message start n whole =
    (pairs rest : Pairs) × (read message start n ≡ Ok (record whole { pairs = pairs }))
    × (pairs ++ rest ≡ whole.pairs)

-- Where `len` octets are read, fewer of them are short input, or are read with the same priority,
-- the same labels and a prefix of the pairs. They are never a form error.
abbrev pub Truncation : Type 0
Truncation = (message : List ℕ) (start len n : ℕ) (whole : Record) → n < len
    → read message start len ≡ Ok whole
    → ((read message start n ≡ Err Short) ⊎ ReadsPrefix message start n whole)
    × (read message start n ≢ Err Form)
