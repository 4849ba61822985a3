-- Where an octet stands for itself, as a number.
use Rattle.std.specs.Prelude.{ℕ, if◌then◌else◌}
use Rattle.text_spec.specs.Pieces.{is_bare, is_quotable}

-- 2 for an octet that stands for itself anywhere, 1 for one that does in quotes alone, and else 0
abbrev pub place_of : ℕ → ℕ
place_of c = if is_bare c then 2 else (if is_quotable c then 1 else 0)
