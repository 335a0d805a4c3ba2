-- Forms of JSON values: a form gives what a value of the form says, and none for any other value.
use Rattle.std.specs.Prelude.{◌≡◌, ℕ, ◌+◌, ◌==◌, List, [], ◌∷◌, take, drop, position, Option, Some, None, option_map, option_and_then, unwrap_or}
use Rattle.serde_json.specs.Data.{Data, Items, no_items, item}
use Rattle.serde_json.specs.Find.{as_str, as_array, as_number, as_u64, get}
use Rattle.wf_model.specs.declared.parts.PortPart.{PortPart}

-- what both say, as a pair
abbrev pub both : {A B : Type 0} → Option A → Option B → Option (A × B)
both a b = option_and_then (λ x. option_map (λ y. (x, y)) b) a

-- a text: a JSON string, as its bytes
abbrev pub text_form : Data → Option (List ℕ)
text_form d = as_str d

-- a whole number below 2^64: a JSON number without sign, fraction and exponent
abbrev pub whole_form : Data → Option ℕ
whole_form d = option_and_then as_u64 (as_number d)

-- what each of the items says
abbrev pub items_form : {A : Type 0} → (Data → Option A) → Items → Option (List A)
items_form form no_items = Some []
items_form form (item d ds) = option_and_then (λ x. option_map (λ xs. x ∷ xs) (items_form form ds)) (form d)

-- a list: a JSON array whose items all have the form
abbrev pub list_form : {A : Type 0} → (Data → Option A) → Data → Option (List A)
list_form form d = option_and_then (items_form form) (as_array d)

-- the items of exactly two, each with its form
abbrev pub two_items : {A B : Type 0} → (Data → Option A) → (Data → Option B) → Items → Option (A × B)
two_items f g no_items = None
two_items f g (item a no_items) = None
two_items f g (item a (item b no_items)) = both (f a) (g b)
two_items f g (item a (item b (item c ds))) = None

-- a pair: a JSON array of exactly two items, each with its form
abbrev pub pair_form : {A B : Type 0} → (Data → Option A) → (Data → Option B) → Data → Option (A × B)
pair_form f g d = option_and_then (two_items f g) (as_array d)

-- the items of exactly three, each with its form
abbrev pub three_items : {A B C : Type 0} → (Data → Option A) → (Data → Option B) → (Data → Option C) → Items → Option (A × (B × C))
three_items f g h no_items = None
three_items f g h (item a ds) = both (f a) (two_items g h ds)

-- a triple: a JSON array of exactly three items, each with its form
abbrev pub triple_form : {A B C : Type 0} → (Data → Option A) → (Data → Option B) → (Data → Option C) → Data → Option (A × (B × C))
triple_form f g h d = option_and_then (three_items f g h) (as_array d)

-- the bytes before the first dot are the position, and those after it the port
abbrev pub port_of : List ℕ → Option PortPart
port_of s = option_map (λ i. record { pos = take i s; port = drop (i + 1) s }) (position (λ b. b == 46) s)

-- a text with a dot
abbrev pub port_form : Data → Option PortPart
port_form d = option_and_then port_of (text_form d)

-- a member that is there and has the form
abbrev pub member_form : {A : Type 0} → List ℕ → (Data → Option A) → Data → Option A
member_form key form d = option_and_then form (get key d)

-- a member that is a list; one that is not there is an empty list
abbrev pub list_member : {A : Type 0} → List ℕ → (Data → Option A) → Data → Option (List A)
list_member key form d = unwrap_or (option_map (list_form form) (get key d)) (Some [])

-- a member that has the form, if it is there; one that is not there is none
abbrev pub optional_member : {A : Type 0} → List ℕ → (Data → Option A) → Data → Option (Option A)
optional_member key form d = unwrap_or (option_map (λ v. option_map (λ x. Some x) (form v)) (get key d)) (Some None)

-- a value has the members of another value but that of a key
abbrev pub KeepsOthers : List ℕ → Data → Data → Type 0
KeepsOthers key old new = (k : List ℕ) → (k ≡ key → ⊥) → get k new ≡ get k old
