-- Values that are lists, as lists that are read item by item.
use Rattle.std.proofs.Common.{◌≡◌, ℕ, ◌<◌, List, [], ◌∷◌, length, Result, Ok, Err, refl, sym, ap, ◌∙◌, arith}
use Rattle.name_spec.specs.Addresses.{ipv4_of, ipv6_of}
use Rattle.svcb_spec.specs.Values.{Value, Mandatory, Ipv4Hint, Ipv6Hint, TlsSupportedGroups}
use Rattle.text_spec.specs.declared.errors.ScanError.{ScanError}
use Rattle.svcb_spec.specs.ListTexts.{◌>>=◌, comma_pieces, comma_items, plain_item, read_items}
use Rattle.svcb_spec.specs.ValueTexts.{some_text, short_value, mandatory_item, in_ascending_order, mandatory_value, ipv4hint_value, ipv6hint_value, groups_value}
use Rattle.svcb_spec.proofs.CommaPieces.{some_pieces}
use Rattle.svcb_text.specs.Lists.{read_list, add_items, add_last, add_key, read_address, read_group}
use Rattle.svcb_text.proofs.ListLemmas.{add_items-last, add_items-keys, length-read_items}

-- a list that is read item by item
module _ {A : Type 0} (read : List A → List ℕ → Result A ScanError) (value : List A → Value) where
  pub value_listed : (text : List ℕ)
      → (some_text text
      >>= λ list. read_items (λ before item. plain_item item >>= read before) []
      (comma_items list) >>= λ items. short_value (value items))
      ≡ (read_list (add_last read) [] text >>= λ items. short_value (value items))
  value_listed text =
      elim (some_text text) as
      (λ s. (s >>= λ list. read_items (λ before item. plain_item item >>= read before) []
      (comma_items list) >>= λ items. short_value (value items))
      ≡ ((s >>= λ list. add_items (add_last read) [] (comma_items list))
      >>= λ items. short_value (value items))) [
        | Err fault ↦ refl
        | Ok list ↦ ap
            (λ (r : Result (List A) ScanError). r >>= λ items. short_value (value items))
            (sym (add_items-last read [] (comma_items list)))
      ]

pub ipv4hint_value-list : (text : List ℕ)
    → ipv4hint_value text
    ≡ (read_list (add_last (read_address ipv4_of)) [] text
    >>= λ addresses. short_value (Ipv4Hint addresses))
ipv4hint_value-list text = value_listed (read_address ipv4_of) Ipv4Hint text

pub ipv6hint_value-list : (text : List ℕ)
    → ipv6hint_value text
    ≡ (read_list (add_last (read_address ipv6_of)) [] text
    >>= λ addresses. short_value (Ipv6Hint addresses))
ipv6hint_value-list text = value_listed (read_address ipv6_of) Ipv6Hint text

pub groups_value-list : (text : List ℕ)
    → groups_value text
    ≡ (read_list (add_last read_group) [] text
    >>= λ groups. short_value (TlsSupportedGroups groups))
groups_value-list text = value_listed read_group TlsSupportedGroups text

-- keys ascend when they are made a value
keys_in_turn : (read : Result (List ℕ) ScanError)
    → (read >>= λ keys. short_value (Mandatory (in_ascending_order keys)))
    ≡ ((read >>= λ keys. Ok (in_ascending_order keys)) >>= λ keys. short_value (Mandatory keys))
keys_in_turn (Err fault) = refl
keys_in_turn (Ok keys) = refl

pub mandatory_value-list : (text : List ℕ)
    → mandatory_value text ≡ (read_list add_key [] text >>= λ keys. short_value (Mandatory keys))
mandatory_value-list text =
    elim (some_text text) as
    (λ s. (s >>= λ list. read_items mandatory_item [] (comma_items list)
    >>= λ keys. short_value (Mandatory (in_ascending_order keys)))
    ≡ ((s >>= λ list. add_items add_key [] (comma_items list))
    >>= λ keys. short_value (Mandatory keys))) [
      | Err fault ↦ refl
      | Ok list ↦ keys_in_turn (read_items mandatory_item [] (comma_items list))
          ∙ ap (λ (r : Result (List ℕ) ScanError). r >>= λ keys. short_value (Mandatory keys))
          (sym (add_items-keys [] (comma_items list)))
    ]

-- ---- a list has items

pub some_items : {A : Type 0} (read : List A → List ℕ → Result A ScanError) (text : List ℕ)
    (items : List A) → read_list (add_last read) [] text ≡ Ok items → 0 < length items
some_items read [] items e = absurd cc
some_items read (c ∷ text) items e =
    omega (
      arith,
      some_pieces (c ∷ text),
      length-read_items (λ before item. plain_item item >>= read before) []
          (comma_pieces (c ∷ text)) items
          (sym (add_items-last read [] (comma_pieces (c ∷ text))) ∙ e),
    )
