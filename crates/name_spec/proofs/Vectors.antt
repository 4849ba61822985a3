-- What the definitions of names give on worked inputs. No proof cites this file.
use Rattle.std.proofs.Common.{◌≡◌, ℕ, true, false, List, [], ◌∷◌, ◌++◌, Ok, Err, refl, Less, Greater}
use Rattle.name_spec.specs.Octets.{Short, Form, be2, number_at}
use Rattle.name_spec.specs.Names.{name_step, name_within, name_at, pointed_step, pointed_within, is_pointed, name_wire}
use Rattle.name_spec.specs.OwnedNames.{name_in, is_same_name, name_cmp, composed_cmp}
use Rattle.name_spec.specs.CanonicalOrder.{canonical_order}

-- ---- numbers

be2-443 : be2 443 ≡ 0x01 ∷ 0xbb ∷ []
be2-443 = refl

be2-65535 : be2 65535 ≡ 0xff ∷ 0xff ∷ []
be2-65535 = refl

number_at-1 : number_at (0x00 ∷ 0x01 ∷ 0xbb ∷ []) 1 ≡ 443
number_at-1 = refl

-- ---- names in a message

-- the label foo
abbrev foo : List ℕ
foo = 0x66 ∷ 0x6f ∷ 0x6f ∷ []

-- the name foo, two octets of other data, and a pointer to the name
abbrev message : List ℕ
message = 0x03 ∷ 0x66 ∷ 0x6f ∷ 0x6f ∷ 0x00 ∷ 0x00 ∷ 0x01 ∷ 0xc0 ∷ 0x00 ∷ []

at_0 : name_at message 9 0 0 0 ≡ Ok (record { labels = foo ∷ []; next = 5 })
unfolding name_at name_within name_step
at_0 = refl

at_7 : name_at message 9 7 0 0 ≡ Ok (record { labels = foo ∷ []; next = 9 })
unfolding name_at name_within name_step
at_7 = refl

plain_at_0 : is_pointed message 9 0 ≡ false
unfolding is_pointed pointed_within pointed_step
plain_at_0 = refl

pointed_at_7 : is_pointed message 9 7 ≡ true
unfolding is_pointed pointed_within pointed_step
pointed_at_7 = refl

wire-foo : name_wire (foo ∷ []) ≡ 0x03 ∷ 0x66 ∷ 0x6f ∷ 0x6f ∷ 0x00 ∷ []
wire-foo = refl

-- ---- faults of names, in the order of their tests

no_octet : name_at [] 0 0 0 0 ≡ Err Short
unfolding name_at name_within name_step
no_octet = refl

-- a label of four octets and the root
abbrev abcd : List ℕ
abcd = 0x04 ∷ 0x61 ∷ 0x62 ∷ 0x63 ∷ 0x64 ∷ 0x00 ∷ []

label_past_end : name_at abcd 4 0 0 0 ≡ Err Short
unfolding name_at name_within name_step
label_past_end = refl

no_root : name_at abcd 5 0 0 0 ≡ Err Short
unfolding name_at name_within name_step
no_root = refl

-- behind labels of so many octets
octets_254 : name_at abcd 6 0 249 0
    ≡ Ok (record { labels = (0x61 ∷ 0x62 ∷ 0x63 ∷ 0x64 ∷ []) ∷ []; next = 6 })
unfolding name_at name_within name_step
octets_254 = refl

octets_255 : name_at abcd 6 0 250 0 ≡ Err Form
unfolding name_at name_within name_step
octets_255 = refl

short_before_long : name_at abcd 4 0 250 0 ≡ Err Short
unfolding name_at name_within name_step
short_before_long = refl

reserved_64 : name_at (0x40 ∷ 0x00 ∷ []) 2 0 0 0 ≡ Err Form
unfolding name_at name_within name_step
reserved_64 = refl

reserved_191 : name_at (0xbf ∷ 0x00 ∷ []) 2 0 0 0 ≡ Err Form
unfolding name_at name_within name_step
reserved_191 = refl

half_pointer : name_at (0x00 ∷ 0xc0 ∷ []) 2 1 0 0 ≡ Err Short
unfolding name_at name_within name_step
half_pointer = refl

pointer_to_itself : name_at (0x00 ∷ 0xc0 ∷ 0x01 ∷ []) 3 1 0 0 ≡ Err Form
unfolding name_at name_within name_step
pointer_to_itself = refl

-- behind so many pointers
pointer_255 : name_at (0x00 ∷ 0xc0 ∷ 0x00 ∷ []) 3 1 0 254 ≡ Ok (record { labels = []; next = 3 })
unfolding name_at name_within name_step
pointer_255 = refl

pointer_256 : name_at (0x00 ∷ 0xc0 ∷ 0x00 ∷ []) 3 1 0 255 ≡ Err Form
unfolding name_at name_within name_step
pointer_256 = refl

-- ---- octets that are wholly a name

in_foo : name_in (0x03 ∷ foo ++ 0x00 ∷ []) ≡ Ok (foo ∷ [])
unfolding name_in is_pointed pointed_within pointed_step name_at name_within name_step
in_foo = refl

in_root : name_in (0x00 ∷ []) ≡ Ok []
unfolding name_in is_pointed pointed_within pointed_step name_at name_within name_step
in_root = refl

in_no_octets : name_in [] ≡ Err Short
unfolding name_in is_pointed pointed_within pointed_step name_at name_within name_step
in_no_octets = refl

in_half_pointer : name_in (0xc0 ∷ []) ≡ Err Form
unfolding name_in is_pointed pointed_within pointed_step name_at name_within name_step
in_half_pointer = refl

in_pointer_behind_label : name_in (0x03 ∷ foo ++ 0xc0 ∷ []) ≡ Err Form
unfolding name_in is_pointed pointed_within pointed_step name_at name_within name_step
in_pointer_behind_label = refl

in_left_over : name_in (0x00 ∷ 0x00 ∷ []) ≡ Err Form
unfolding name_in is_pointed pointed_within pointed_step name_at name_within name_step
in_left_over = refl

-- ---- comparisons

-- the names a.z and b.a
abbrev a_z : List (List ℕ)
a_z = (0x61 ∷ []) ∷ (0x7a ∷ []) ∷ []

abbrev b_a : List (List ℕ)
b_a = (0x62 ∷ []) ∷ (0x61 ∷ []) ∷ []

name_cmp-a_z : name_cmp a_z b_a ≡ Greater
name_cmp-a_z = refl

composed_cmp-a_z : composed_cmp a_z b_a ≡ Less
composed_cmp-a_z = refl

canonical_order-a_z : canonical_order 64 (name_wire a_z) 64 (name_wire b_a) ≡ Less
canonical_order-a_z = refl

canonical_order-types : canonical_order 64 (name_wire b_a) 65 (name_wire a_z) ≡ Less
canonical_order-types = refl

-- FOO and foo
same_in_any_case : is_same_name ((0x46 ∷ 0x4f ∷ 0x4f ∷ []) ∷ []) (foo ∷ []) ≡ true
same_in_any_case = refl
