-- What bytes tell as the parts of a package is one.
use Rattle.std.proofs.Common.{◌≡◌, ℕ, List, refl, sym, ◌∙◌, subst}
use Rattle.std.proofs.lemmas.Option.{none-some, same_Some}
use Rattle.serde_json.specs.Data.{Data}
use Rattle.wf_model.specs.declared.parts.Parts.{Parts}
use Rattle.wf_json.specs.Reading.{IsReading}
use Rattle.package_file.specs.declared.parts.PackageParts.{PackageParts}
use Rattle.package_file.specs.declared.fault.PackFault.{PackFault}
use Rattle.package_file.specs.declared.fault.PackFault.TheVariants.{NotJson, NotPackage, BadPackage, NoMemory}
use Rattle.package_file.specs.Form.{SaysGrammar, SaysPackage, TellsParts}
use Rattle.package_file.specs.Packed.{ArePackage, IsFaultOfBytes}

-- a value says the parts of one grammar
one_grammar : (d : Data) (x y : Parts) → SaysGrammar d x → SaysGrammar d y → x ≡ y
one_grammar d x y p q = λ n. record {
  start = same_Some x.start y.start (sym p.start ∙ q.start) n;
  modules = same_Some x.modules y.modules (sym p.modules ∙ q.modules) n;
  productions = same_Some x.productions y.productions (sym p.productions ∙ q.productions) n;
  deps = same_Some x.deps y.deps (sym p.deps ∙ q.deps) n;
  versions = (p.versions ∙ sym q.versions) n;
}

one_package : (d : Data) (x y : PackageParts) → SaysPackage d x → SaysPackage d y → x ≡ y
one_package d x y p q =
    let grammar = one_grammar d x.grammar y.grammar p.grammar q.grammar in
    λ n. record { grammar = grammar n; loops = same_Some x.loops y.loops (sym p.loops ∙ q.loops) n }

module _ (bytes : List ℕ) (x : PackageParts) (told : TellsParts bytes x) where
  -- what another value of the bytes says is said by this one
  said_too : (d : Data) → IsReading bytes d → SaysPackage d x
  said_too d read = subst (λ e. SaysPackage e x) (same_Some told.0 d (sym told.1.1 ∙ read.1)) told.2

  -- so bytes tell the parts of one package
  pub one_told : (y : PackageParts) → TellsParts bytes y → x ≡ y
  one_told y other = one_package other.0 x y (said_too other.0 other.1) other.2

  -- and where these are good, no fault is one of the bytes but for want of memory
  pub no_fault : ArePackage x → (f : PackFault) → IsFaultOfBytes bytes f → f ≡ NoMemory
  no_fault good NotJson h = absurd (none-some told.0 (sym (h told.1.0) ∙ told.1.1))
  no_fault good NotPackage h = absurd (h.2 x (said_too h.0 h.1))
  no_fault good BadPackage h = absurd (h.2 (subst ArePackage (one_told h.0 h.1) good))
  no_fault good NoMemory h = refl
