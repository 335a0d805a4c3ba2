-- The modules of a well-formed grammar, as they are spelled.
use Rattle.std.proofs.Common.{◌≡◌, ℕ, suc, ◌<◌, true, List, [], ◌∷◌, length, Option, Some, option_map, option_and_then, refl, ap, ap₂, ◌∙◌, codes}
use Rattle.std.specs.Prelude.{map}
use Rattle.wf_model.specs.Lists.{IsIn}
use Rattle.wf_model.specs.Run.{IsName}
use Rattle.wf_model.specs.Grammar.{Grammar, Module, module_at}
use Rattle.wf_model.specs.WellFormed.{IsWellFormed}
use Rattle.wf_model.proofs.Lists.{in_append_left, in_append_right}
use Rattle.wf_json.specs.Forms.{text_form, items_form}
use Rattle.wf_json.specs.SpecForm.{module_form}
use Rattle.wf_events.specs.Plain.{is_plain_text}
use Rattle.wf_view.proofs.Naming.{module_formed}
use Rattle.package_laws.proofs.NamedParts.{named_module}
use Rattle.package_laws.proofs.PlainNames.{name_plain}
use Rattle.package_laws.proofs.Spellings.{Spelling, IsSpelling, text_spelling, text_spelled}
use Rattle.package_laws.proofs.SpelledLists.{array_spelling, array_spelled, list_spelling, list_spelled, items_read, items_said}
use Rattle.package_laws.proofs.SpelledObjects.{Field, object_spelling, object_spelled}

-- two texts in brackets
abbrev pub two_texts : List ℕ → List ℕ → Spelling
two_texts a b = array_spelling (text_spelling a ∷ text_spelling b ∷ [])

pub two_spelled : (n : ℕ) (a b : List ℕ) → is_plain_text a ≡ true → is_plain_text b ≡ true → IsSpelling (suc n) (two_texts a b)
two_spelled n a b ha hb = array_spelled n (text_spelling a ∷ text_spelling b ∷ []) (text_spelled n a ha, (text_spelled n b hb, tt))

-- names, as a list of texts
abbrev pub names_spelling : List (List ℕ) → Spelling
names_spelling = list_spelling text_spelling

names_spelled : (n : ℕ) (ns : List (List ℕ)) → ((m : List ℕ) → IsIn m ns → IsName m) → IsSpelling (suc n) (names_spelling ns)
names_spelled n ns h = list_spelled text_spelling n ns (λ m i. text_spelled n m (name_plain m (h m i)))

same_names : (ns : List (List ℕ)) → map (λ n. n) ns ≡ ns
same_names [] = refl
same_names (n ∷ ns) = ap (λ l. n ∷ l) (same_names ns)

names_said : (ns : List (List ℕ)) → items_form text_form (items_read (map text_spelling ns)) ≡ Some ns
names_said ns = items_said text_spelling text_form (λ n. n) ns (λ m i. refl) ∙ ap Some (same_names ns)

-- a module, by its members
abbrev module_members : Module → List Field
module_members m =
    record { key = codes "name"; value = text_spelling m.name } ∷
    record { key = codes "in"; value = names_spelling m.inputs } ∷
    record { key = codes "out"; value = names_spelling m.outputs } ∷ []

abbrev pub module_spelling : Module → Spelling
module_spelling m = object_spelling (module_members m)

module _ (g : Grammar) (formed : IsWellFormed g) where
  pub module_spelled : (m : Module) → IsIn m g.modules → IsSpelling 3 (module_spelling m)
  module_spelled m i =
      let good = formed.modules m i in
      let name = text_spelled 2 m.name (name_plain m.name good.name.0) in
      let inputs = names_spelled 1 m.inputs (λ n j. (good.ports n (in_append_left n m.inputs m.outputs j)).0) in
      let outputs = names_spelled 1 m.outputs (λ n j. (good.ports n (in_append_right n m.inputs m.outputs j)).0) in
      object_spelled 2 (module_members m) (refl, name, (refl, inputs, (refl, outputs, tt)))

  -- the name of a module is plain
  pub module_name_plain : (m : ℕ) → m < length g.modules → is_plain_text (module_at g m).name ≡ true
  module_name_plain m below = name_plain (module_at g m).name (module_formed g formed m below).name.0

-- it says the part that describes the module
pub module_said : (m : Module) → module_form (module_spelling m).read ≡ Some (named_module m)
module_said m =
    ap₂ (λ (i o : Option (List (List ℕ))). option_and_then (λ is. option_map (λ os. record { name = m.name; inputs = is; outputs = os }) o) i)
    (names_said m.inputs) (names_said m.outputs)
