-- Arrays and lists as values of JSON with their texts.
use Rattle.std.proofs.Common.{◌≡◌, ℕ, suc, ◌≤◌, Bool, true, false, List, [], ◌∷◌, ◌++◌, Option, Some, option_map, option_and_then, IsUtf8, refl, sym, ap, ap₂, ◌∙◌, subst, inl, inr, arith, append_assoc, codes, flat_map}
use Rattle.std.specs.Prelude.{map}
use Rattle.std.proofs.lemmas.Str.{IsUtf8-append}
use Rattle.json.specs.Tree as tree
use Rattle.json.proofs.Printed.Utf8.{IsUtf8-are_ascii}
use Rattle.serde_json.specs.Data.{Data, array, Items, no_items, item}
use Rattle.serde_json.specs.Read.{of_items}
use Rattle.serde_json.specs.Written.{items_outline, items_text, comma_if}
use Rattle.wf_model.specs.Lists.{IsIn}
use Rattle.wf_json.specs.Canonical.{list_of}
use Rattle.wf_json.specs.Forms.{items_form}
use Rattle.package_laws.proofs.Spellings.{Spelling, IsSpelling, comma_utf8}

-- the values of an array as they are written, and as they are read
abbrev pub items_written : List Spelling → Items
items_written [] = no_items
items_written (s ∷ ss) = item s.written (items_written ss)

abbrev pub items_read : List Spelling → Items
items_read [] = no_items
items_read (s ∷ ss) = item s.read (items_read ss)

-- their texts, with the closing bracket
abbrev pub texts_of_items : Bool → List Spelling → List ℕ
texts_of_items later [] = 93 ∷ []
texts_of_items later (s ∷ ss) = comma_if later ++ (s.text ++ texts_of_items true ss)

abbrev pub array_spelling : List Spelling → Spelling
array_spelling ss = record { written = array (items_written ss); text = 91 ∷ texts_of_items false ss; read = array (items_read ss) }

-- each is a spelling
abbrev pub AreSpellings : ℕ → List Spelling → Type 0
AreSpellings n [] = Unit {0}
AreSpellings n (s ∷ ss) = IsSpelling n s × AreSpellings n ss

module _ (n : ℕ) where
  items_text_is : (later : Bool) (ss : List Spelling) → AreSpellings n ss → items_text later (items_written ss) ≡ texts_of_items later ss
  items_text_is later [] h = refl
  items_text_is later (s ∷ ss) h = ap₂ (λ (q r : List ℕ). comma_if later ++ (q ++ r)) h.0.text (items_text_is true ss h.1)

  items_utf8 : (later : Bool) (ss : List Spelling) → AreSpellings n ss → IsUtf8 (texts_of_items later ss)
  items_utf8 later [] h = IsUtf8-are_ascii (codes "]") refl
  items_utf8 later (s ∷ ss) h =
      IsUtf8-append (comma_if later) (s.text ++ texts_of_items true ss) (comma_utf8 later)
      (IsUtf8-append s.text (texts_of_items true ss) h.0.utf8 (items_utf8 true ss h.1))

  items_numbers : (ss : List Spelling) → AreSpellings n ss → tree.ItemsHaveNumbers (items_outline (items_written ss))
  items_numbers [] h = tt
  items_numbers (s ∷ ss) h = (h.0.numbers, items_numbers ss h.1)

  items_shallow : (ss : List Spelling) → AreSpellings n ss → tree.items_depth (items_outline (items_written ss)) ≤ n
  items_shallow [] h = omega arith
  items_shallow (s ∷ ss) h = let a = h.0.shallow in let b = items_shallow ss h.1 in omega (arith, a, b)

  items_value : (ss : List Spelling) → AreSpellings n ss → of_items (items_outline (items_written ss)) ≡ Some (items_read ss)
  items_value [] h = refl
  items_value (s ∷ ss) h =
      ap₂ (λ (a : Option Data) (b : Option Items). option_and_then (λ d. option_map (item d) b) a) h.0.value (items_value ss h.1)

  pub array_spelled : (ss : List Spelling) → AreSpellings n ss → IsSpelling (suc n) (array_spelling ss)
  array_spelled ss h = record {
    text = ap (λ t. 91 ∷ t) (items_text_is false ss h);
    utf8 = IsUtf8-append (codes "[") (texts_of_items false ss) (IsUtf8-are_ascii (codes "[") refl) (items_utf8 false ss h);
    numbers = items_numbers ss h;
    shallow = let a = items_shallow ss h in omega (arith, a);
    value = ap (option_map array) (items_value ss h);
  }

-- ---- lists of like elements

module _ {A : Type 0} (f : A → Spelling) where
  abbrev behind_comma : A → List ℕ
  behind_comma x = codes "," ++ (f x).text

  abbrev pub list_spelling : List A → Spelling
  list_spelling xs = record { written = array (items_written (map f xs)); text = list_of (λ x. (f x).text) xs; read = array (items_read (map f xs)) }

  others_text : (xs : List A) → texts_of_items true (map f xs) ≡ flat_map behind_comma xs ++ codes "]"
  others_text [] = refl
  others_text (x ∷ xs) = ap (λ t. codes "," ++ ((f x).text ++ t)) (others_text xs) ∙ sym (append_assoc (behind_comma x) (flat_map behind_comma xs) (codes "]"))

  list_text : (xs : List A) → 91 ∷ texts_of_items false (map f xs) ≡ list_of (λ x. (f x).text) xs
  list_text [] = refl
  list_text (x ∷ xs) =
      ap (λ t. 91 ∷ ((f x).text ++ t)) (others_text xs) ∙ ap (λ t. 91 ∷ t) (sym (append_assoc (f x).text (flat_map behind_comma xs) (codes "]")))

  each_spelled : (n : ℕ) (xs : List A) → ((x : A) → IsIn x xs → IsSpelling n (f x)) → AreSpellings n (map f xs)
  each_spelled n [] h = tt
  each_spelled n (x ∷ xs) h = (h x (inl refl), each_spelled n xs (λ y i. h y (inr i)))

  pub list_spelled : (n : ℕ) (xs : List A) → ((x : A) → IsIn x xs → IsSpelling n (f x)) → IsSpelling (suc n) (list_spelling xs)
  list_spelled n xs h =
      let spelled = array_spelled n (map f xs) (each_spelled n xs h) in
      record {
        text = spelled.text ∙ list_text xs;
        utf8 = subst IsUtf8 (list_text xs) spelled.utf8;
        numbers = spelled.numbers;
        shallow = spelled.shallow;
        value = spelled.value;
      }

  -- what the items of a list say
  pub items_said : {B : Type 0} (form : Data → Option B) (said : A → B) (xs : List A) → ((x : A) → IsIn x xs → form (f x).read ≡ Some (said x)) →
      items_form form (items_read (map f xs)) ≡ Some (map said xs)
  items_said form said [] h = refl
  items_said {B} form said (x ∷ xs) h =
      ap₂ (λ (a : Option B) (b : Option (List B)). option_and_then (λ y. option_map (λ ys. y ∷ ys) b) a) (h x (inl refl))
      (items_said form said xs (λ y i. h y (inr i)))
