-- The text of a package is read as its parts.
use Rattle.std.proofs.Common.{◌≡◌, ℕ, List, [], ◌∷◌, ◌++◌, refl, sym, ap, ap₂, ◌∙◌, subst, arith, append_assoc, codes}
use Rattle.std.specs.Prelude.{map}
use Rattle.std.proofs.lemmas.Fmt.{decimal_digit}
use Rattle.std.proofs.lemmas.Str.{IsUtf8-append}
use Rattle.json.proofs.Printed.Utf8.{IsUtf8-are_ascii}
use Rattle.serde_json.specs.Data.{unsigned, number}
use Rattle.serde_json.specs.Read.{read}
use Rattle.wf_model.specs.Grammar.{Grammar, module_at}
use Rattle.wf_model.specs.WellFormed.{IsWellFormed}
use Rattle.wf_json.specs.Canonical.{text_in_quotes, list_of, module_text, production_text}
use Rattle.wf_json.specs.Reading.{IsReading}
use Rattle.wf_json.specs.SpecForm.{module_form, production_form, deps_form}
use Rattle.package_model.specs.Shown.{Shown}
use Rattle.package_model.specs.Packages.{LoopEntry, package_of, loops_of}
use Rattle.package_model.specs.Loops.{AreGoodLoops}
use Rattle.package_file.specs.declared.parts.PackageParts.{PackageParts}
use Rattle.package_file.specs.Form.{SaysPackage, TellsParts}
use Rattle.wf_package.specs.PackageText.{given_text, loop_text, text_with_loops, package_text}
use Rattle.package_laws.proofs.NamedParts.{named_module, named_production, named_deps, named_parts}
use Rattle.package_laws.proofs.PlacedNames.{AreNamedByPlace, package_named}
use Rattle.package_laws.proofs.Newlines.{read_line}
use Rattle.package_laws.proofs.Spellings.{Spelling, IsSpelling, text_spelling, text_spelled, number_spelled}
use Rattle.package_laws.proofs.SpelledLists.{list_spelling, list_spelled, items_said}
use Rattle.package_laws.proofs.SpelledObjects.{Field, object_spelling, object_spelled}
use Rattle.package_laws.proofs.SpelledModules.{module_spelling, module_spelled, module_name_plain, module_said}
use Rattle.package_laws.proofs.SpelledBodies.{production_spelling, production_spelled, production_said}
use Rattle.package_laws.proofs.SpelledTexts.{same_lists, module_same, production_same}
use Rattle.package_laws.proofs.SpelledGiven.{given_spelling, given_same, given_spelled, given_said}
use Rattle.package_laws.proofs.SpelledLoops.{named_loop, loop_spelling, loop_same, loop_spelled, loops_said}

-- the number of the form
abbrev one_spelling : Spelling
one_spelling = record { written = number (unsigned 1); text = codes "1"; read = number (unsigned 1) }

one_spelled : (n : ℕ) → IsSpelling n one_spelling
one_spelled n =
    subst (λ t. IsSpelling n (record { written = number (unsigned 1); text = t; read = number (unsigned 1) })) (decimal_digit 1 (omega arith))
    (number_spelled n 1 (omega arith))

-- a package, by its members
abbrev package_members : Grammar → List LoopEntry → List Field
package_members g entries =
    record { key = codes "package"; value = one_spelling } ∷
    record { key = codes "start"; value = text_spelling (module_at g g.start).name } ∷
    record { key = codes "modules"; value = list_spelling module_spelling g.modules } ∷
    record { key = codes "productions"; value = list_spelling (production_spelling g) g.productions } ∷
    record { key = codes "deps"; value = list_spelling given_spelling g.given } ∷
    record { key = codes "loops"; value = list_spelling loop_spelling entries } ∷ []

abbrev package_spelling : Grammar → List LoopEntry → Spelling
package_spelling g entries = object_spelling (package_members g entries)

-- the text of a package, by its members: those of its grammar stand together, and the newline behind
by_members : (a b s m ms p ps d ds l ls e n : List ℕ) →
    (a ++ b ++ (s ++ (m ++ (ms ++ (p ++ (ps ++ (d ++ (ds ++ (l ++ (ls ++ e)))))))))) ++ n
    ≡ a ++ (b ++ s ++ m ++ ms ++ p ++ ps) ++ d ++ ds ++ l ++ ls ++ (e ++ n)
by_members a b s m ms p ps d ds l ls e n = simp append_assoc

module _ (g : Grammar) (entries : List LoopEntry) where
  abbrev start_text : List ℕ
  start_text = text_in_quotes (module_at g g.start).name

  abbrev with_lists : List ℕ → List ℕ → List ℕ → List ℕ → List ℕ
  with_lists modules productions given loops =
      codes "{\"package\":1,"
      ++ (codes "\"start\":" ++ start_text ++ codes ",\"modules\":" ++ modules ++ codes ",\"productions\":" ++ productions)
      ++ codes ",\"deps\":" ++ given
      ++ codes ",\"loops\":" ++ loops
      ++ codes "}\n"

  line_is : (package_spelling g entries).text ++ codes "\n" ≡ text_with_loops g entries
  line_is =
      let modules = list_of (λ m. (module_spelling m).text) g.modules in
      let productions = list_of (λ r. (production_spelling g r).text) g.productions in
      let given = list_of (λ d. (given_spelling d).text) g.given in
      let loops = list_of (λ e. (loop_spelling e).text) entries in
      by_members (codes "{\"package\":1,") (codes "\"start\":") start_text (codes ",\"modules\":") modules
      (codes ",\"productions\":") productions (codes ",\"deps\":") given (codes ",\"loops\":") loops (codes "}") (codes "\n")
      ∙ (ap₂ (λ x y. with_lists x y given loops)
      (same_lists _ module_text g.modules module_same) (same_lists _ (production_text g) g.productions (production_same g))
      ∙ ap₂ (with_lists (list_of module_text g.modules) (list_of (production_text g) g.productions))
      (same_lists _ given_text g.given given_same) (same_lists _ loop_text entries loop_same))

  abbrev parts : PackageParts
  parts = record { grammar = named_parts g; loops = map named_loop entries }

  module _ (formed : IsWellFormed g) (loops : AreGoodLoops g entries) (placed : AreNamedByPlace g) where
    package_spelled : IsSpelling 5 (package_spelling g entries)
    package_spelled =
        let start = text_spelled 4 (module_at g g.start).name (module_name_plain g formed g.start formed.start) in
        let modules = list_spelled module_spelling 3 g.modules (module_spelled g formed) in
        let productions = list_spelled (production_spelling g) 3 g.productions (production_spelled g formed) in
        let given = list_spelled given_spelling 3 g.given (given_spelled g formed placed) in
        let steps = list_spelled loop_spelling 3 entries (loop_spelled entries g formed loops) in
        object_spelled 4 (package_members g entries)
        (refl, one_spelled 4, (refl, start, (refl, modules, (refl, productions, (refl, given, (refl, steps, tt))))))

    package_reading : IsReading (text_with_loops g entries) (package_spelling g entries).read
    package_reading =
        let s = package_spelling g entries in
        let h = package_spelled in
        let shallow = h.shallow in
        subst (λ t. IsReading t s.read) line_is (
          IsUtf8-append s.text (codes "\n") h.utf8 (IsUtf8-are_ascii (codes "\n") refl),
          ap (λ t. read (t ++ codes "\n")) (sym h.text) ∙ read_line s.written s.read h.numbers (omega (arith, shallow)) h.value,
        )

    package_said : SaysPackage (package_spelling g entries).read parts
    package_said = record {
      numbered = refl;
      grammar = record {
        start = refl;
        modules = items_said module_spelling module_form named_module g.modules (λ m i. module_said m);
        productions = items_said (production_spelling g) production_form (named_production g) g.productions (production_said g formed);
        deps = items_said given_spelling deps_form (named_deps g) g.given (given_said g formed placed);
        versions = refl;
      };
      loops = loops_said entries;
    }

-- the parts of a package, by names
abbrev pub package_parts : Shown → PackageParts
package_parts s = parts (package_of s) (loops_of s)

-- the text of a package tells its parts
pub package_told : (s : Shown) → IsWellFormed (package_of s) → AreGoodLoops (package_of s) (loops_of s) → TellsParts (package_text s) (package_parts s)
package_told s formed loops =
    let g = package_of s in
    let entries = loops_of s in
    let placed = package_named s in
    ((package_spelling g entries).read, package_reading g entries formed loops placed, package_said g entries formed loops placed)
