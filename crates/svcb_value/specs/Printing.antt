-- A key and the text of octets.
use Rattle.std.specs.Prelude.{ℕ, ◌==◌, if◌then◌else◌, List, ◌∷◌, ◌++◌, length}

-- no text behind the key where there are no octets
abbrev pub key_and_text : List ℕ → List ℕ → List ℕ → List ℕ
key_and_text key octets text = if length octets == 0 then key else key ++ 61 ∷ text
