-- Facts on the texts of numbers.
use Rattle.std.proofs.Common.{◌≡◌, ℕ, ◌^◌, ◌<◌, List, drop}
use Rattle.std.specs.Str.{all_ascii_digits}
use Rattle.std.specs.Str.Parse.{digits_value, digits_value_after}

-- The digits before a place are read as a number: those from there on settle what the text is.
pub record Reads (text : List ℕ) (i number : ℕ) : Type 0 where
  pub digits : all_ascii_digits (drop i text) ≡ all_ascii_digits text
  pub value : digits_value_after 10 number (drop i text) ≡ digits_value 10 text
  pub small : number < 10 ^ i
