-- The loops of a package, as they are spelled.
use Rattle.std.proofs.Common.{◌≡◌, ◌^◌, ◌<◌, List, [], ◌∷◌, Some, refl, subst, arith, codes, decimal}
use Rattle.std.specs.Prelude.{map}
use Rattle.wf_model.specs.Lists.{IsIn}
use Rattle.wf_model.specs.Run.{IsName}
use Rattle.wf_model.specs.Grammar.{Grammar}
use Rattle.wf_model.specs.WellFormed.{IsWellFormed}
use Rattle.wf_json.specs.Canonical.{text_in_quotes}
use Rattle.wf_json.specs.Forms.{items_form}
use Rattle.wf_view.proofs.Naming.{module_formed}
use Rattle.package_model.specs.Packages.{LoopEntry}
use Rattle.package_model.specs.Loops.{AreGoodLoops}
use Rattle.package_file.specs.declared.parts.LoopPart.{LoopPart}
use Rattle.package_file.specs.Form.{loop_form}
use Rattle.package_file.specs.Packed.{said_entry, said_entries}
use Rattle.wf_package.specs.PackageText.{loop_text}
use Rattle.package_laws.proofs.ByElement.{map_back}
use Rattle.package_laws.proofs.PlainNames.{name_plain}
use Rattle.package_laws.proofs.Spellings.{Spelling, IsSpelling, text_spelling, text_spelled, number_spelling, number_spelled}
use Rattle.package_laws.proofs.SpelledLists.{array_spelling, array_spelled, items_read, items_said}
use Rattle.package_laws.proofs.SpelledTexts.{three_between}

-- an entry of the loops, as a part
abbrev pub named_loop : LoopEntry → LoopPart
named_loop e = record { «module» = e.module_name; production = e.step.production; position = e.step.position }

abbrev loop_items : LoopEntry → List Spelling
loop_items e = text_spelling e.module_name ∷ number_spelling e.step.production ∷ number_spelling e.step.position ∷ []

abbrev pub loop_spelling : LoopEntry → Spelling
loop_spelling e = array_spelling (loop_items e)

pub loop_same : (e : LoopEntry) → (loop_spelling e).text ≡ loop_text e
loop_same e =
    three_between (codes "[") (text_in_quotes e.module_name) (codes ",") (decimal e.step.production) (codes ",") (decimal e.step.position) (codes "]")

module _ (entries : List LoopEntry) where
  -- the entries say the parts that describe them
  pub loops_said : items_form loop_form (items_read (map loop_spelling entries)) ≡ Some (map named_loop entries)
  loops_said = items_said loop_spelling loop_form named_loop entries (λ e i. refl)

  -- which are read as the entries
  pub loops_back : said_entries (map named_loop entries) ≡ entries
  loops_back = map_back said_entry named_loop entries (λ e i. refl)

  module _ (g : Grammar) (formed : IsWellFormed g) (loops : AreGoodLoops g entries) (e : LoopEntry) (i : IsIn e entries) where
    name_good : IsName e.module_name
    name_good = let c = loops.composite e i in subst IsName c.1.1 (module_formed g formed c.0 c.1.0).name.0

    small : (e.step.production < 2 ^ 64) × (e.step.position < 2 ^ 64)
    small =
        let c = loops.composite e i in
        let s = loops.steps e c.0 i c.1 in
        let few = formed.few_productions in
        let below = s.in_range in
        let short = formed.few_positions e.step.production s.in_range in
        let there = s.position in
        (omega arith, omega arith)

    pub loop_spelled : IsSpelling 3 (loop_spelling e)
    loop_spelled =
        let name = text_spelled 2 e.module_name (name_plain e.module_name name_good) in
        let production = number_spelled 2 e.step.production small.0 in
        let position = number_spelled 2 e.step.position small.1 in
        array_spelled 2 (loop_items e) (name, (production, (position, tt)))
