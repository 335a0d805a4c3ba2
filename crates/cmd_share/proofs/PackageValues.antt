-- What the bytes of a package tell is one value, and they are not refused then.
use Rattle.std.proofs.Common.{◌≡◌, ◌≢◌, ℕ, List, refl, sym, ap, ◌∙◌, subst}
use Rattle.wf_spec.specs.Held.{HeldGrammar}
use Rattle.wf_form.specs.Forming.{grammar_of}
use Rattle.package_model.specs.Loops.{AreLoopsOf}
use Rattle.package_model.proofs.SameLoops.{one_loops}
use Rattle.wf_loops.specs.Looped.{LoopedValue}
use Rattle.package_file.specs.declared.parts.PackageParts.{PackageParts}
use Rattle.package_file.specs.Form.{SaysPackage}
use Rattle.package_file.specs.Packed.{ArePackage, said_entries, IsFaultOfBytes, TellsPackage as TellsHeld}
use Rattle.package_file.specs.declared.fault.PackFault.{PackFault}
use Rattle.package_file.specs.declared.fault.PackFault.TheVariants.{NotJson, NotPackage, BadPackage, NoMemory}
use Rattle.package_file.specs.FaultText.{pack_name}
use Rattle.package_file.proofs.OneReading.{one_told}
use Rattle.wf_inputs.proofs.OneValue.{one_reading}
use Rattle.wf_inputs.proofs.OneRefusal.{unread}
use Rattle.cmd_share.specs.PackageTold.{PackageValue, TellsPackage, RefusesPackage, not_json, not_package, bad_package, package_value}

-- a package that is held is told
pub value_told : (bytes : List ℕ) (v : LoopedValue) → TellsHeld bytes v → TellsPackage bytes (package_value v)
value_told bytes v h = record {
  parts = h.parts;
  read = h.read;
  good = h.good;
  grammar = ap (λ (g : HeldGrammar). g.core) h.is.grammar;
  loops = h.is.loops;
}

-- bytes tell one package
pub one_package : (bytes : List ℕ) (p q : PackageValue) → TellsPackage bytes p → TellsPackage bytes q → q ≡ p
one_package bytes p q h k =
    let parts = one_told bytes k.parts k.read h.parts h.read in
    let grammar : q.grammar ≡ p.grammar = k.grammar ∙ (ap (λ (x : PackageParts). grammar_of x.grammar) parts ∙ sym h.grammar) in
    let of_same = subst (λ (x : PackageParts). AreLoopsOf q.grammar (said_entries x.loops) q.loops) parts k.loops in
    let there = subst (λ g. AreLoopsOf g (said_entries h.parts.loops) q.loops) grammar of_same in
    let loops = one_loops p.grammar (said_entries h.parts.loops) q.loops p.loops there h.loops in
    λ n. record { grammar = grammar n; loops = loops n }

-- bytes that tell a package are not refused
pub no_refusal_of_package : (bytes fault : List ℕ) (p : PackageValue) → TellsPackage bytes p → RefusesPackage bytes fault → ⊥
no_refusal_of_package bytes fault p h (not_json f is) = absurd (unread bytes h.read.0 f h.read.1)
no_refusal_of_package bytes fault p h (not_package f is) = absurd (f.2 h.parts (subst (λ d. SaysPackage d h.parts) (one_reading bytes h.read.0 f.0 h.read.1 f.1) h.read.2))
no_refusal_of_package bytes fault p h (bad_package f is) = absurd (f.2 (subst ArePackage (one_told bytes h.parts h.read f.0 f.1) h.good))

-- and they are refused for one reason
pub one_refusal_of_package : (bytes x y : List ℕ) → RefusesPackage bytes x → RefusesPackage bytes y → x ≡ y
one_refusal_of_package bytes x y (not_json f is) (not_json g at) = is ∙ sym at
one_refusal_of_package bytes x y (not_json f is) (not_package g at) = absurd (unread bytes g.0 f g.1)
one_refusal_of_package bytes x y (not_json f is) (bad_package g at) = absurd (unread bytes g.1.0 f g.1.1)
one_refusal_of_package bytes x y (not_package f is) (not_json g at) = absurd (unread bytes f.0 g f.1)
one_refusal_of_package bytes x y (not_package f is) (not_package g at) = is ∙ sym at
one_refusal_of_package bytes x y (not_package f is) (bad_package g at) = absurd (f.2 g.0 (subst (λ d. SaysPackage d g.0) (one_reading bytes g.1.0 f.0 g.1.1 f.1) g.1.2))
one_refusal_of_package bytes x y (bad_package f is) (not_json g at) = absurd (unread bytes f.1.0 g f.1.1)
one_refusal_of_package bytes x y (bad_package f is) (not_package g at) = absurd (g.2 f.0 (subst (λ d. SaysPackage d f.0) (one_reading bytes f.1.0 g.0 f.1.1 g.1) f.1.2))
one_refusal_of_package bytes x y (bad_package f is) (bad_package g at) = is ∙ sym at

-- why bytes are no package, by the name of the fault
pub refused_by : (bytes : List ℕ) (f : PackFault) → f ≢ NoMemory → IsFaultOfBytes bytes f → RefusesPackage bytes (pack_name f)
refused_by bytes NotJson some h = not_json h refl
refused_by bytes NotPackage some h = not_package h refl
refused_by bytes BadPackage some h = bad_package h refl
refused_by bytes NoMemory some h = absurd (some refl)
