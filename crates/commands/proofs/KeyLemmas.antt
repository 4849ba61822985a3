-- Facts on the keys that texts spell.
use Rattle.std.proofs.Common.{◌≡◌, ℕ, List, [], ◌∷◌, ◌++◌, Option, Some, None, refl, sym, ap, ◌∙◌}
use Rattle.std.proofs.lemmas.List.{append_assoc}
use Rattle.std.specs.Prelude.{option_and_then}
use Rattle.std.specs.Option.{option_map}
use Rattle.registry.specs.Keys.{parameter_keys}
use Rattle.registry.specs.Texts.{spelled_key}
use Rattle.commands.specs.Choose.{keys_of}

-- keys in front of those that more texts spell
abbrev pub keys_behind : List ℕ → Option (List ℕ) → Option (List ℕ)
keys_behind front more = option_map (λ keys. front ++ keys) more

behind-cons : (front : List ℕ) (key : ℕ) (more : Option (List ℕ))
    → keys_behind front (option_map (λ keys. key ∷ keys) more)
    ≡ keys_behind (front ++ key ∷ []) more
behind-cons front key (Some keys) = ap Some (sym (append_assoc front (key ∷ []) keys))
behind-cons front key None = refl

-- a text that spells a key puts it behind those before
pub keys-more : (front grown : List ℕ) (key : ℕ) (text : List ℕ) (texts more : List (List ℕ))
    → texts ≡ text ∷ more → Some key ≡ spelled_key parameter_keys text
    → grown ≡ front ++ key ∷ []
    → keys_behind front (keys_of texts) ≡ keys_behind grown (keys_of more)
keys-more front grown key text texts more is spells pushed =
    ap (λ ts. keys_behind front (keys_of ts)) is
    ∙ ap (λ (o : Option ℕ). keys_behind front
    (option_and_then (λ (k : ℕ). option_map (λ keys. k ∷ keys) (keys_of more)) o)) (sym spells)
    ∙ behind-cons front key (keys_of more)
    ∙ ap (λ keys. keys_behind keys (keys_of more)) (sym pushed)
