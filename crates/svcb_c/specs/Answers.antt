-- What the calls on lines answer.
use Rattle.std.specs.Prelude.{◌≡◌, ℕ, List, length}
use Rattle.input_lines.specs.Report.{Answer}
use Rattle.svcb_c.specs.Buffers.{over, room_status}

abbrev pub answer_status : Answer → ℕ → ℕ
answer_status answer room = room_status answer.report room

-- how the check ended, as the program's status tells it, and its report in the buffer
abbrev pub IsAnswered : Answer → ℕ → ℕ → List ℕ → List ℕ → Type 0
IsAnswered answer outcome written before after =
    (outcome ≡ answer.status) × (written ≡ length answer.report)
    × (after ≡ over answer.report before)
