-- The pairs that are given in a package, as they are spelled.
use Rattle.std.proofs.Common.{◌≡◌, ℕ, ◌<◌, true, List, [], ◌∷◌, ◌++◌, length, get_or, Option, Some, option_map, refl, sym, ap, ap₂, ◌∙◌, subst, codes}
use Rattle.wf_model.specs.declared.parts.PairPart.{PairPart}
use Rattle.wf_model.specs.Lists.{IsIn}
use Rattle.wf_model.specs.Grammar.{Grammar, Module, Given, module_at, inputs_of, outputs_of}
use Rattle.wf_model.specs.WellFormed.{IsWellFormed}
use Rattle.wf_model.proofs.Lists.{in_append_left, in_append_right}
use Rattle.wf_spec.proofs.Tables.{get_in}
use Rattle.wf_json.specs.Canonical.{text_in_quotes, list_of}
use Rattle.wf_json.specs.SpecForm.{ports_form, deps_form}
use Rattle.wf_events.specs.Plain.{is_plain_text}
use Rattle.wf_view.proofs.Naming.{module_formed}
use Rattle.package_model.specs.Packages.{numbered, module_name}
use Rattle.wf_package.specs.PackageText.{named_pair, given_text}
use Rattle.package_laws.proofs.NamedParts.{named_ports, named_deps}
use Rattle.package_laws.proofs.PlainNames.{name_plain}
use Rattle.package_laws.proofs.PlacedNames.{AreNamedByPlace}
use Rattle.package_laws.proofs.Spellings.{Spelling, IsSpelling, text_spelling, text_spelled}
use Rattle.package_laws.proofs.SpelledLists.{list_spelling, list_spelled, items_said}
use Rattle.package_laws.proofs.SpelledObjects.{Field, object_spelling, object_spelled}
use Rattle.package_laws.proofs.SpelledModules.{two_texts, two_spelled, module_name_plain}
use Rattle.package_laws.proofs.SpelledTexts.{two_between, same_lists, pair_same}

-- a pair of an input and an output, by their places
abbrev ports_spelling : ℕ × ℕ → Spelling
ports_spelling e = two_texts (numbered 105 e.0) (numbered 111 e.1)

-- the pairs that are given to a module, by their members
abbrev given_members : Given → List Field
given_members d =
    record { key = codes "module"; value = text_spelling (module_name d.module_no) } ∷
    record { key = codes "pairs"; value = list_spelling ports_spelling d.pairs } ∷ []

abbrev pub given_spelling : Given → Spelling
given_spelling d = object_spelling (given_members d)

pub given_same : (d : Given) → (given_spelling d).text ≡ given_text d
given_same d =
    let name = text_in_quotes (module_name d.module_no) in
    let same = same_lists _ named_pair d.pairs (λ e. pair_same (numbered 105 e.0) (numbered 111 e.1)) in
    two_between (codes "{\"module\":") name (codes ",\"pairs\":") (list_of (λ e. (ports_spelling e).text) d.pairs) (codes "}")
    ∙ ap (λ t. codes "{\"module\":" ++ name ++ codes ",\"pairs\":" ++ t ++ codes "}") same

module _ (g : Grammar) (formed : IsWellFormed g) (placed : AreNamedByPlace g) (d : Given) (there : IsIn d g.given) where
  abbrev m : ℕ
  m = d.module_no

  abbrev it : Module
  it = module_at g m

  below : m < length g.modules
  below = (formed.given_atomic d there).0

  port_plain : (n : List ℕ) → IsIn n (it.inputs ++ it.outputs) → is_plain_text n ≡ true
  port_plain n i = name_plain n ((module_formed g formed m below).ports n i).0

  -- the names of a pair are those of its places
  module _ (e : ℕ × ℕ) (i : IsIn e d.pairs) where
    inside : (e.0 < inputs_of g m) × (e.1 < outputs_of g m)
    inside = formed.given_pairs d e there i

    input_placed : get_or it.inputs e.0 [] ≡ numbered 105 e.0
    input_placed = placed.inputs m e.0 below inside.0

    output_placed : get_or it.outputs e.1 [] ≡ numbered 111 e.1
    output_placed = placed.outputs m e.1 below inside.1

    ports_spelled : IsSpelling 1 (ports_spelling e)
    ports_spelled =
        let input = port_plain (get_or it.inputs e.0 []) (in_append_left _ it.inputs it.outputs (get_in e.0 it.inputs [] inside.0)) in
        let output = port_plain (get_or it.outputs e.1 []) (in_append_right _ it.inputs it.outputs (get_in e.1 it.outputs [] inside.1)) in
        two_spelled 0 (numbered 105 e.0) (numbered 111 e.1)
        (subst (λ n. is_plain_text n ≡ true) input_placed input) (subst (λ n. is_plain_text n ≡ true) output_placed output)

    ports_said : ports_form (ports_spelling e).read ≡ Some (named_ports it e)
    ports_said = ap₂ (λ (a b : List ℕ). Some (record { input = a; output = b })) (sym input_placed) (sym output_placed)

  pub given_spelled : IsSpelling 3 (given_spelling d)
  given_spelled =
      let name = subst (λ n. is_plain_text n ≡ true) (placed.modules m below) (module_name_plain g formed m below) in
      object_spelled 2 (given_members d) (refl, text_spelled 2 (module_name m) name, (refl, list_spelled ports_spelling 1 d.pairs ports_spelled, tt))

  -- they say the part that describes them
  pub given_said : deps_form (given_spelling d).read ≡ Some (named_deps g d)
  given_said =
      ap (λ (ps : Option (List PairPart)). option_map (λ qs. record { «module» = module_name m; pairs = qs }) ps)
      (items_said ports_spelling ports_form (named_ports it) d.pairs ports_said)
      ∙ ap (λ (n : List ℕ). Some (record { «module» = n; pairs = (named_deps g d).pairs })) (sym (placed.modules m below))
