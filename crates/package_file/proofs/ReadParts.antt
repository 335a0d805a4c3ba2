-- The package of parts, and why parts are not those of one.
use Rattle.std.proofs.Common.{◌≡◌, Result, Ok, Err, IfOk, OnOk, ap, sym, ◌∙◌, subst}
use Rattle.wf_model.specs.declared.parts.Parts.{Parts}
use Rattle.wf_model.specs.Proper.{IsProper}
use Rattle.wf_model.specs.Linear.{IsLinear}
use Rattle.wf_spec.specs.Held.{HeldGrammar}
use Rattle.wf_form.specs.Forming.{held_of, IsFormed}
use Rattle.wf_accept.specs.Accepted.{AcceptedValue}
use Rattle.package_model.specs.Loops.{AreLoopsOf, AreGoodLoops}
use Rattle.wf_loops.specs.Looped.{LoopedValue, loop_in}
use Rattle.package_file.specs.declared.parts.PackageParts.{PackageParts}
use Rattle.package_file.specs.declared.fault.PackFault.{PackFault}
use Rattle.package_file.specs.declared.fault.PackFault.TheVariants.{NotJson, NotPackage, BadPackage, NoMemory}
use Rattle.package_file.specs.Packed.{said_entries, FormProper, IsGoodWith, IsSafeByDefault, ArePackage, IsDescribedBy, IsBadUnless}

-- a fault where less is asked is one where more is asked
pub bad_more : (A B : Type 0) (f : PackFault) → (B → A) → IsBadUnless A f → IsBadUnless B f
bad_more A B NotJson more h = absurd h
bad_more A B NotPackage more h = absurd h
bad_more A B BadPackage more h = λ b. h (more b)
bad_more A B NoMemory more h = tt

module _ (x : PackageParts) where
  -- the grammar is not formed, proper and linear
  pub grammar_bad : (f : PackFault) → IsBadUnless (FormProper x.grammar) f → IsBadUnless (ArePackage x) f
  grammar_bad f h = bad_more (FormProper x.grammar) (ArePackage x) f (λ p. p.grammar) h

  module _ (a : AcceptedValue) (its_own : a.grammar ≡ held_of x.grammar) where
    -- its default view is not safe, or its loops are not good
    pub loops_bad : (f : PackFault) → IsBadUnless (IsGoodWith a.grammar.core x.loops) f → IsBadUnless (ArePackage x) f
    loops_bad f h =
        bad_more (IsGoodWith a.grammar.core x.loops) (ArePackage x) f
        (λ p. subst (λ (k : HeldGrammar). IsGoodWith k.core x.loops) (sym its_own) (p.safe, p.loops)) h

    -- the parts are those of a package
    are_package : FormProper x.grammar → IsGoodWith a.grammar.core x.loops → ArePackage x
    are_package good with_loops = record {
      grammar = good;
      safe = subst (λ (k : HeldGrammar). IsSafeByDefault k.core) its_own with_loops.0;
      loops = subst (λ (k : HeldGrammar). AreGoodLoops k.core (said_entries x.loops)) its_own with_loops.1;
    }

    -- and describe it
    are_described : (v : LoopedValue) → v.accepted ≡ a → AreLoopsOf a.grammar.core (said_entries x.loops) (loop_in v.steps) → IsDescribedBy x v
    are_described v of_it loops = record {
      grammar = ap (λ (b : AcceptedValue). b.grammar) of_it ∙ its_own;
      loops = subst (λ (b : AcceptedValue). AreLoopsOf b.grammar.core (said_entries x.loops) (loop_in v.steps)) (sym of_it) loops;
    }

    -- and so it is of a result, where it is one
    pub package_if : (r : Result LoopedValue PackFault) → FormProper x.grammar → OnOk r (IsGoodWith a.grammar.core x.loops) → OnOk r (ArePackage x)
    package_if (Ok v) good with_loops = are_package good with_loops
    package_if (Err f) good with_loops = tt

    pub described_if : (r : Result LoopedValue PackFault) → IfOk r (λ v. v.accepted ≡ a) → IfOk r (λ v. AreLoopsOf a.grammar.core (said_entries x.loops) (loop_in v.steps)) → IfOk r (IsDescribedBy x)
    described_if (Ok v) of_it loops = are_described v of_it loops
    described_if (Err f) of_it loops = tt

-- what is told of parts that form a grammar, and of those that are accepted
module _ (parts : Parts) where
  pub form_bad : (f : PackFault) → IsBadUnless (IsFormed parts) f → IsBadUnless (FormProper parts) f
  form_bad f h = bad_more (IsFormed parts) (FormProper parts) f (λ p. p.formed) h

  module _ (g : HeldGrammar) (told : g ≡ held_of parts) where
    pub accept_bad : (f : PackFault) → IsBadUnless (IsProper g.core × IsLinear g.core) f → IsBadUnless (FormProper parts) f
    accept_bad f h =
        bad_more (IsProper g.core × IsLinear g.core) (FormProper parts) f (λ p. subst (λ (k : HeldGrammar). IsProper k.core × IsLinear k.core) (sym told) (p.proper, p.linear)) h

    pub form_proper : IsFormed parts → IsProper g.core × IsLinear g.core → FormProper parts
    form_proper formed good =
        record { formed = formed; proper = subst (λ (k : HeldGrammar). IsProper k.core) told good.0; linear = subst (λ (k : HeldGrammar). IsLinear k.core) told good.1 }
