-- Where a version keeps its cycles, its composite modules have the continuing steps of the grammar.
use Rattle.std.proofs.Common.{◌≡◌, ◌⊎◌, ℕ, zero, suc, ◌<◌, ◌≤◌, List, [], ◌∷◌, take, count_by, eqb, Some, None, refl, sym, ap, ◌∙◌, subst, inl, inr, ⊎_elim, arith}
use Rattle.wf_model.specs.Grammar.{Grammar, Production, head_of, IsComposite, alternative_of}
use Rattle.wf_model.specs.WellFormed.{IsWellFormed}
use Rattle.wf_model.specs.Linear.{Continues, IsLinear, IsOnCycle}
use Rattle.wf_model.specs.Reach.{Step, target_of}
use Rattle.label_model.specs.Continuing.{continuing, next_by, after}
use Rattle.label_model.proofs.Finding.{cases_option}
use Rattle.label_model.proofs.ContinuingSteps.{continuing_is, continuing_none, continuing_law, target_continues}
use Rattle.wf_model.specs.Versions.{version_of, IsVersion, KeepsCycles}
use Rattle.version_model.specs.Laws.{VersionStepLaw}
use Rattle.version_model.proofs.SameParts.{in_version, head_same, target_same, continues_up, step_composite}
use Rattle.version_model.proofs.VersionFormed.{formed, version_formed_law}

take-take : {A : Type 0} (xs : List A) (q p : ℕ) → q ≤ p → take q (take p xs) ≡ take q xs
take-take xs zero p h = refl
take-take [] (suc q) zero h = refl
take-take [] (suc q) (suc p) h = refl
take-take (x ∷ xs) (suc q) zero h = absurd (omega arith)
take-take (x ∷ xs) (suc q) (suc p) h = let l : q ≤ p = omega arith in ap (λ z. x ∷ z) (take-take xs q p l)

pub alternative_same : (g : Grammar) (m p : ℕ) → IsVersion g m p → (q : ℕ) → q < p → alternative_of (version_of g m p) q ≡ alternative_of g q
alternative_same g m p is q h =
    ap (λ z. count_by (λ (r : Production). eqb r.head z) (take q (take p g.productions))) (head_same g m p is q h) ∙
    ap (count_by (λ (r : Production). eqb r.head (head_of g q))) (take-take g.productions q p (omega arith))

module _ (g : Grammar) (m p : ℕ) (is : IsVersion g m p) (wf : IsWellFormed g) where
  -- a module is on a cycle of the version or not
  cycle_or_not : (k : ℕ) → IsOnCycle (version_of g m p) k ⊎ (IsOnCycle (version_of g m p) k → ⊥)
  cycle_or_not k = ⊎_elim
      (λ e. inr (λ c. continuing_none (version_of g m p) (formed g m p is wf) k e c.0 c.1))
      (λ s. inl (s.0, continuing_is (version_of g m p) k s.0 s.1))
      (cases_option (continuing (version_of g m p) k))

module _ (g : Grammar) (m p : ℕ) (is : IsVersion g m p) (wf : IsWellFormed g) (linear : IsLinear g) (keeps : KeepsCycles g m p) where
  continues_down : (k : ℕ) → IsComposite (version_of g m p) k → (s : Step) → Continues g k s → Continues (version_of g m p) k s
  continues_down k composite s q = ⊎_elim
      (λ c. subst (Continues (version_of g m p) k) (linear k c.0 s (continues_up g m p is k c.0 c.1) q) c.1)
      (λ n. absurd (keeps k (composite, n, (s, q))))
      (cycle_or_not g m p is wf k)

  -- so the continuing step is computed alike
  pub continuing_same : (k : ℕ) → IsComposite (version_of g m p) k → continuing (version_of g m p) k ≡ continuing g k
  continuing_same k composite = go (cases_option (continuing g k))
    where
      linear_too : IsLinear (version_of g m p)
      linear_too = (version_formed_law g m p is).1 linear

      go : (continuing g k ≡ None) ⊎ ((s : Step) × (continuing g k ≡ Some s)) → continuing (version_of g m p) k ≡ continuing g k
      go (inr q) = (continuing_law (version_of g m p) (formed g m p is wf) linear_too k q.0).1 (continues_down k composite q.0 (continuing_is g k q.0 q.1)) ∙ sym q.1
      go (inl e) = ⊎_elim
          (λ f. f ∙ sym e)
          (λ q. absurd (continuing_none g wf k e q.0 (continues_up g m p is k q.0 (continuing_is (version_of g m p) k q.0 q.1))))
          (cases_option (continuing (version_of g m p) k))

  -- a module with a continuing step is composite
  pub continuing_composite : (k : ℕ) (s : Step) → continuing (version_of g m p) k ≡ Some s → IsComposite (version_of g m p) k
  continuing_composite k s e = step_composite g m p is k s (continuing_is (version_of g m p) k s e).0

  -- and continuing steps lead to the same modules
  pub after_same : (c k : ℕ) (s : Step) → continuing (version_of g m p) k ≡ Some s → after (version_of g m p) c k ≡ after g c k
  after_same zero k s e = refl
  after_same (suc c) k s e =
      let t = target_continues (version_of g m p) (formed g m p is wf) k s e in
      let same : continuing g k ≡ Some s = sym (continuing_same k (continuing_composite k s e)) ∙ e in
      let h = in_version g m p is s.production (continuing_is (version_of g m p) k s e).0.in_range in
      ap (λ o. after (version_of g m p) c (next_by (version_of g m p) k o)) e ∙
      (after_same c (target_of (version_of g m p) s) t.0 t.1 ∙
      (ap (after g c) (target_same g m p is s h) ∙ ap (λ o. after g c (next_by g k o)) (sym same)))

pub version_step_law : VersionStepLaw
version_step_law g m p is wf linear = record {
  continues = λ keeps k composite s. (continues_up g m p is k s, continues_down g m p is wf linear keeps k composite s);
  alternative = alternative_same g m p is;
}
