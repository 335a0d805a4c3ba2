-- Values in which a part of a package is wanting.
use Rattle.std.proofs.Common.{◌≡◌, ℕ, List, None, Result, Err, IfErr, sym, ◌∙◌, subst}
use Rattle.std.specs.Prelude.{codes}
use Rattle.std.proofs.lemmas.Option.{none-some}
use Rattle.serde_json.specs.Data.{Data}
use Rattle.wf_model.specs.declared.parts.Parts.{Parts}
use Rattle.wf_json.specs.Forms.{text_form, list_form, member_form}
use Rattle.wf_json.specs.SpecForm.{module_form, production_form, deps_form}
use Rattle.wf_json.specs.Reading.{IsReading}
use Rattle.package_file.specs.declared.parts.PackageParts.{PackageParts}
use Rattle.package_file.specs.declared.fault.PackFault.{PackFault}
use Rattle.package_file.specs.declared.fault.PackFault.TheVariants.{NotJson, NotPackage, BadPackage, NoMemory}
use Rattle.package_file.specs.Form.{SaysGrammar, SaysPackage, loop_form}
use Rattle.package_file.specs.Unsaid.{IsUnsaid, SaysNoGrammar, SaysNoPackage}
use Rattle.package_file.specs.Packed.{IsFaultOfBytes}

-- a fault of one want is one of another that follows from it
unsaid_if : (A B : Type 0) (f : PackFault) → (A → B) → IsUnsaid A f → IsUnsaid B f
unsaid_if A B NotJson follows h = absurd h
unsaid_if A B NotPackage follows h = follows h
unsaid_if A B BadPackage follows h = absurd h
unsaid_if A B NoMemory follows h = tt

-- what is so of a fault is so of a result that hands it on
pub unsaid_on : {T : Type 0} (A : Type 0) (r : Result T PackFault) (f : PackFault) → ((x : PackFault) × (r ≡ Err x) × (x ≡ f)) → IsUnsaid A f → IfErr r (IsUnsaid A)
unsaid_on A r f told h = subst (λ y. IfErr y (IsUnsaid A)) (sym told.1) (subst (IsUnsaid A) (sym told.2) h)

module _ (d : Data) (f : PackFault) where
  pub start_unsaid : IsUnsaid (member_form (codes "start") text_form d ≡ None) f → IsUnsaid (SaysNoGrammar d) f
  start_unsaid h = unsaid_if (member_form (codes "start") text_form d ≡ None) (SaysNoGrammar d) f (λ none parts says. none-some parts.start (sym none ∙ says.start)) h

  pub modules_unsaid : IsUnsaid (member_form (codes "modules") (list_form module_form) d ≡ None) f → IsUnsaid (SaysNoGrammar d) f
  modules_unsaid h = unsaid_if (member_form (codes "modules") (list_form module_form) d ≡ None) (SaysNoGrammar d) f (λ none parts says. none-some parts.modules (sym none ∙ says.modules)) h

  pub productions_unsaid : IsUnsaid (member_form (codes "productions") (list_form production_form) d ≡ None) f → IsUnsaid (SaysNoGrammar d) f
  productions_unsaid h =
      unsaid_if (member_form (codes "productions") (list_form production_form) d ≡ None) (SaysNoGrammar d) f (λ none parts says. none-some parts.productions (sym none ∙ says.productions)) h

  pub deps_unsaid : IsUnsaid (member_form (codes "deps") (list_form deps_form) d ≡ None) f → IsUnsaid (SaysNoGrammar d) f
  deps_unsaid h = unsaid_if (member_form (codes "deps") (list_form deps_form) d ≡ None) (SaysNoGrammar d) f (λ none parts says. none-some parts.deps (sym none ∙ says.deps)) h

  pub grammar_unsaid : IsUnsaid (SaysNoGrammar d) f → IsUnsaid (SaysNoPackage d) f
  grammar_unsaid h = unsaid_if (SaysNoGrammar d) (SaysNoPackage d) f (λ none x says. none x.grammar says.grammar) h

  pub loops_unsaid : IsUnsaid (member_form (codes "loops") (list_form loop_form) d ≡ None) f → IsUnsaid (SaysNoPackage d) f
  loops_unsaid h = unsaid_if (member_form (codes "loops") (list_form loop_form) d ≡ None) (SaysNoPackage d) f (λ none x says. none-some x.loops (sym none ∙ says.loops)) h

-- of bytes whose value says no package
pub bytes_unsaid : (bytes : List ℕ) (d : Data) → IsReading bytes d → (f : PackFault) → IsUnsaid (SaysNoPackage d) f → IsFaultOfBytes bytes f
bytes_unsaid bytes d read NotJson h = absurd h
bytes_unsaid bytes d read NotPackage h = (d, read, h)
bytes_unsaid bytes d read BadPackage h = absurd h
bytes_unsaid bytes d read NoMemory h = tt
