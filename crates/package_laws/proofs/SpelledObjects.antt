-- Objects as values of JSON with their texts.
use Rattle.std.proofs.Common.{◌≡◌, ℕ, suc, ◌≤◌, Bool, true, false, List, [], ◌∷◌, ◌++◌, Option, Some, option_map, option_and_then, IsUtf8, refl, ap, ap₂, ◌∙◌, arith, codes}
use Rattle.std.proofs.lemmas.Str.{IsUtf8-append}
use Rattle.json.specs.Tree as tree
use Rattle.json.proofs.Printed.Utf8.{IsUtf8-are_ascii}
use Rattle.serde_json.specs.Data.{Data, object, Members, no_members, member, put}
use Rattle.serde_json.specs.Read.{of_members}
use Rattle.serde_json.specs.Written.{members_outline, members_text, comma_if}
use Rattle.wf_json.specs.Canonical.{text_in_quotes}
use Rattle.wf_events.specs.Plain.{is_plain_text}
use Rattle.wf_events.proofs.PlainTexts.{quoted_plain, IsUtf8-text_in_quotes}
use Rattle.package_laws.proofs.Spellings.{Spelling, IsSpelling, comma_utf8}

-- a member: its key, and its value
pub record Field : Type 0 where
  pub key : List ℕ
  pub value : Spelling

-- in the order of the text
abbrev pub members_written : List Field → Members
members_written [] = no_members
members_written (x ∷ xs) = member x.key x.value.written (members_written xs)

-- as they are read, one after another
abbrev pub members_read : Members → List Field → Members
members_read found [] = found
members_read found (x ∷ xs) = members_read (put x.key x.value.read found) xs

-- their texts, with the closing brace
abbrev pub texts_of_members : Bool → List Field → List ℕ
texts_of_members later [] = 125 ∷ []
texts_of_members later (x ∷ xs) = comma_if later ++ (text_in_quotes x.key ++ 58 ∷ (x.value.text ++ texts_of_members true xs))

abbrev pub object_spelling : List Field → Spelling
object_spelling xs = record { written = object (members_written xs); text = 123 ∷ texts_of_members false xs; read = object (members_read no_members xs) }

-- each has a plain key, and a value that is a spelling
abbrev pub AreFields : ℕ → List Field → Type 0
AreFields n [] = Unit {0}
AreFields n (x ∷ xs) = (is_plain_text x.key ≡ true) × IsSpelling n x.value × AreFields n xs

module _ (n : ℕ) where
  members_text_is : (later : Bool) (xs : List Field) → AreFields n xs → members_text later (members_written xs) ≡ texts_of_members later xs
  members_text_is later [] h = refl
  members_text_is later (x ∷ xs) h =
      ap₂ (λ (k t : List ℕ). comma_if later ++ (k ++ 58 ∷ (t ++ members_text true (members_written xs)))) (quoted_plain x.key h.0) h.1.text
      ∙ ap (λ r. comma_if later ++ (text_in_quotes x.key ++ 58 ∷ (x.value.text ++ r))) (members_text_is true xs h.2)

  members_utf8 : (later : Bool) (xs : List Field) → AreFields n xs → IsUtf8 (texts_of_members later xs)
  members_utf8 later [] h = IsUtf8-are_ascii (codes "}") refl
  members_utf8 later (x ∷ xs) h =
      let rest = x.value.text ++ texts_of_members true xs in
      IsUtf8-append (comma_if later) (text_in_quotes x.key ++ 58 ∷ rest) (comma_utf8 later)
      (IsUtf8-append (text_in_quotes x.key) (58 ∷ rest) (IsUtf8-text_in_quotes x.key h.0)
      (IsUtf8-append (codes ":") rest (IsUtf8-are_ascii (codes ":") refl)
      (IsUtf8-append x.value.text (texts_of_members true xs) h.1.utf8 (members_utf8 true xs h.2))))

  members_numbers : (xs : List Field) → AreFields n xs → tree.MembersHaveNumbers (members_outline (members_written xs))
  members_numbers [] h = tt
  members_numbers (x ∷ xs) h = (h.1.numbers, members_numbers xs h.2)

  members_shallow : (xs : List Field) → AreFields n xs → tree.members_depth (members_outline (members_written xs)) ≤ n
  members_shallow [] h = omega arith
  members_shallow (x ∷ xs) h = let a = h.1.shallow in let b = members_shallow xs h.2 in omega (arith, a, b)

  members_value : (found : Members) (xs : List Field) → AreFields n xs → of_members (members_outline (members_written xs)) found ≡ Some (members_read found xs)
  members_value found [] h = refl
  members_value found (x ∷ xs) h =
      ap (λ (o : Option Data). option_and_then (λ d. of_members (members_outline (members_written xs)) (put x.key d found)) o) h.1.value
      ∙ members_value (put x.key x.value.read found) xs h.2

  pub object_spelled : (xs : List Field) → AreFields n xs → IsSpelling (suc n) (object_spelling xs)
  object_spelled xs h = record {
    text = ap (λ t. 123 ∷ t) (members_text_is false xs h);
    utf8 = IsUtf8-append (codes "{") (texts_of_members false xs) (IsUtf8-are_ascii (codes "{") refl) (members_utf8 false xs h);
    numbers = members_numbers xs h;
    shallow = let a = members_shallow xs h in omega (arith, a);
    value = ap (option_map object) (members_value no_members xs h);
  }
