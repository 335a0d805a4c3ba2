-- A value says the parts of a package, or not; and parts are those of a package, or not.
use Rattle.std.proofs.Common.{◌≡◌, ◌≢◌, ◌⊎◌, [], Some, refl, sym, ap, ◌∙◌, inl, inr, ⊎_elim}
use Rattle.std.specs.Prelude.{codes, map}
use Rattle.std.proofs.lemmas.Option.{none-some}
use Rattle.serde_json.specs.Data.{Data}
use Rattle.wf_model.specs.declared.parts.Parts.{Parts}
use Rattle.wf_model.specs.Grammar.{Grammar}
use Rattle.wf_model.specs.WellFormed.{IsWellFormed}
use Rattle.wf_model.specs.Proper.{IsProper}
use Rattle.wf_model.specs.DefaultView.{default_view}
use Rattle.wf_model.proofs.DefaultView.{default_is_default}
use Rattle.wf_model.proofs.Deciding.{Either, number_either, option_either}
use Rattle.label_model.proofs.Finding.{cases_option}
use Rattle.wf_json.specs.Reading.{IsReading}
use Rattle.wf_json.proofs.Readings.{some_reading}
use Rattle.wf_json.specs.Forms.{text_form, whole_form, list_form, member_form}
use Rattle.wf_json.specs.SpecForm.{module_form, production_form, deps_form}
use Rattle.wf_form.specs.Forming.{grammar_of, held_of, version_in}
use Rattle.wf_form.proofs.KeptOrFault.{formed_or_fault}
use Rattle.wf_check.proofs.ProperOrFault.{proper_or_fault, some_ranking}
use Rattle.wf_recur.proofs.LinearOrLoops.{linear_or_loops}
use Rattle.wf_recur.proofs.OneLoops.{none_of_linear}
use Rattle.wf_accept.specs.declared.fault.AcceptFault.TheVariants.{NotProper}
use Rattle.wf_safe.proofs.SafeOrWitness.{safe_or_witness, witness_unsafe}
use Rattle.wf_loops.proofs.GoodOrNot.{good_or_not}
use Rattle.package_file.specs.declared.parts.PackageParts.{PackageParts}
use Rattle.package_file.specs.declared.fault.PackFault.{PackFault}
use Rattle.package_file.specs.declared.fault.PackFault.TheVariants.{NotJson, NotPackage, BadPackage, NoMemory}
use Rattle.package_file.specs.Form.{loop_form, SaysGrammar, SaysPackage, TellsParts}
use Rattle.package_file.specs.Packed.{ArePackage, IsSafeByDefault, IsFaultOfBytes, said_entries}
use Rattle.package_file.specs.OutcomeLaw.{PackageOrFaultLaw}
use Rattle.package_file.proofs.DefaultViews.{default_composites}
use Rattle.package_file.proofs.Unformed.{unformed}
use Rattle.package_file.proofs.Unaccepted.{unaccepted}

-- a value says the parts of a grammar, or not
grammar_or_not : (d : Data) → ((x : Parts) × SaysGrammar d x) ⊎ ((x : Parts) → SaysGrammar d x → ⊥)
grammar_or_not d = ⊎_elim
    (λ none. inr (λ x h. none-some x.start (sym none ∙ h.start)))
    (λ start. ⊎_elim
    (λ none. inr (λ x h. none-some x.modules (sym none ∙ h.modules)))
    (λ modules. ⊎_elim
    (λ none. inr (λ x h. none-some x.productions (sym none ∙ h.productions)))
    (λ productions. ⊎_elim
    (λ none. inr (λ x h. none-some x.deps (sym none ∙ h.deps)))
    (λ deps. inl (
      record { start = start.0; modules = modules.0; productions = productions.0; deps = deps.0; versions = [] },
      record { start = start.1; modules = modules.1; productions = productions.1; deps = deps.1; versions = refl },
    ))
    (cases_option (member_form (codes "deps") (list_form deps_form) d)))
    (cases_option (member_form (codes "productions") (list_form production_form) d)))
    (cases_option (member_form (codes "modules") (list_form module_form) d)))
    (cases_option (member_form (codes "start") text_form d))

-- it says the parts of a package, or not
says_or_not : (d : Data) → ((x : PackageParts) × SaysPackage d x) ⊎ ((x : PackageParts) → SaysPackage d x → ⊥)
says_or_not d = ⊎_elim
    (λ numbered. ⊎_elim
    (λ grammar. ⊎_elim
    (λ none. inr (λ x h. none-some x.loops (sym none ∙ h.loops)))
    (λ loops. inl (record { grammar = grammar.0; loops = loops.0 }, record { numbered = numbered; grammar = grammar.1; loops = loops.1 }))
    (cases_option (member_form (codes "loops") (list_form loop_form) d)))
    (λ none. inr (λ x h. none x.grammar h.grammar))
    (grammar_or_not d))
    (λ none. inr (λ x h. none h.numbered))
    (option_either number_either (member_form (codes "package") whole_form d) (Some 1))

module _ (g : Grammar) (formed : IsWellFormed g) (proper : IsProper g) where
  -- the default view of a grammar is safe, or not
  safe_or_not : Either (IsSafeByDefault g)
  safe_or_not =
      let r = some_ranking g formed proper in
      let composites = default_composites g (default_view g) (default_is_default g) in
      ⊎_elim (λ safe. inl safe) (λ w. inr (witness_unsafe g (default_view g) r.0 formed r.1 composites w.0 w.1)) (safe_or_witness g (default_view g) r.0 formed r.1 composites)

-- parts without earlier versions are those of a package, or not
package_or_not : (x : PackageParts) → x.grammar.versions ≡ [] → Either (ArePackage x)
package_or_not x none = ⊎_elim
    (λ formed.
    let g = grammar_of x.grammar in
    let well = formed.0.well_formed in
    ⊎_elim
    (λ proper. ⊎_elim
    (λ linear. ⊎_elim
    (λ safe. ⊎_elim
    (λ good. inl (record { grammar = record { formed = formed.0; proper = proper; linear = linear }; safe = safe; loops = good }))
    (λ bad. inr (λ h. bad h.loops))
    (good_or_not g well linear (said_entries x.loops)))
    (λ bad. inr (λ h. bad h.safe))
    (safe_or_not g well proper))
    (λ f. inr (λ h. none_of_linear g f.0 h.grammar.linear f.1))
    (linear_or_loops g well))
    (λ f. inr (λ h. unaccepted (held_of x.grammar) (no_versions none) (NotProper f.0) f.1 h.grammar.proper h.grammar.linear))
    (proper_or_fault g well))
    (λ f. inr (λ h. unformed x.grammar none f.0 f.1 h.grammar.formed))
    (formed_or_fault x.grammar)
  where
    no_versions : x.grammar.versions ≡ [] → (held_of x.grammar).versions ≡ []
    no_versions e = ap (map version_in) e

-- bytes tell the parts of a package, or have a fault
pub package_or_fault_law : PackageOrFaultLaw
package_or_fault_law bytes = ⊎_elim (λ r. by_value r.0 r.1 (says_or_not r.0)) (λ none. inr (NotJson, (λ e. absurd (cc)), none)) (some_reading bytes)
  where
    by_value : (d : Data) → IsReading bytes d → ((x : PackageParts) × SaysPackage d x) ⊎ ((x : PackageParts) → SaysPackage d x → ⊥) →
        ((x : PackageParts) × TellsParts bytes x × ArePackage x) ⊎ ((f : PackFault) × (f ≢ NoMemory) × IsFaultOfBytes bytes f)
    by_value d read (inl x) = ⊎_elim
        (λ are. inl (x.0, (d, read, x.1), are))
        (λ bad. inr (BadPackage, (λ e. absurd (cc)), (x.0, (d, read, x.1), bad)))
        (package_or_not x.0 x.1.grammar.versions)
    by_value d read (inr none) = inr (NotPackage, (λ e. absurd (cc)), (d, read, none))
