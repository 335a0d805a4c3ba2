-- The cycles of a version are those cycles of the grammar whose steps are by productions of the version.
use Rattle.std.proofs.Common.{◌≡◌, ◌≢◌, ℕ, zero, suc, ◌<◌, length, Some, None, sym, ap, ◌∙◌, subst, ⊎_elim}
use Rattle.wf_model.specs.Lists.{Walk, here, onward}
use Rattle.wf_model.specs.Grammar.{Grammar}
use Rattle.wf_model.specs.WellFormed.{IsWellFormed}
use Rattle.wf_model.specs.Proper.{Makes, Derives}
use Rattle.wf_model.specs.Linear.{IsStepOf, IsLinear, IsOnCycle}
use Rattle.wf_model.specs.Reach.{Step, target_of}
use Rattle.wf_model.proofs.Going.{step_makes, makes_goes}
use Rattle.wf_model.proofs.Walks.{walk-append, walk_one}
use Rattle.label_model.specs.Continuing.{continuing, next_by, after}
use Rattle.label_model.proofs.Finding.{cases_option}
use Rattle.label_model.proofs.ContinuingSteps.{continuing_is, continuing_none, continuing_found, continuing_law, target_continues}
use Rattle.wf_model.specs.Versions.{version_of, IsVersion}
use Rattle.version_model.specs.Versions.{GoesOnWithin}
use Rattle.version_model.specs.Laws.{VersionCyclesLaw}
use Rattle.version_model.proofs.SameParts.{count_productions, in_version, head_same, body_same, target_same, continues_up}
use Rattle.version_model.proofs.VersionFormed.{formed}

module _ (g : Grammar) (m p : ℕ) (is : IsVersion g m p) (wf : IsWellFormed g) (linear : IsLinear g) where
  -- from a module on a cycle of the version the continuing steps of the grammar are by its productions
  goes_on_within : (c k : ℕ) (t : Step) → continuing (version_of g m p) k ≡ Some t → (s : Step) → continuing g (after g c k) ≡ Some s → s.production < p
  goes_on_within zero k t e s h =
      let own = continuing_is (version_of g m p) k t e in
      let same : Some t ≡ Some s = sym ((continuing_law g wf linear k t).1 (continues_up g m p is k t own)) ∙ h in
      let one : t ≡ s = cc in
      subst (λ (z : Step). z.production < p) one (in_version g m p is t.production own.0.in_range)
  goes_on_within (suc c) k t e s h =
      let own = continuing_is (version_of g m p) k t e in
      let same : continuing g k ≡ Some t = (continuing_law g wf linear k t).1 (continues_up g m p is k t own) in
      let next = target_continues (version_of g m p) (formed g m p is wf) k t e in
      let there : after g c (target_of (version_of g m p) t) ≡ after g (suc c) k =
      ap (after g c) (target_same g m p is t (in_version g m p is t.production own.0.in_range)) ∙ ap (λ o. after g c (next_by g k o)) (sym same) in
      goes_on_within c (target_of (version_of g m p) t) next.0 next.1 s (ap (continuing g) there ∙ h)

  step_down : (k : ℕ) (s : Step) → s.production < p → IsStepOf g k s → IsStepOf (version_of g m p) k s
  step_down k s small x = record {
    in_range = subst (λ z. s.production < z) (sym (count_productions g m p is)) small;
    head = head_same g m p is s.production small ∙ x.head;
    position = subst (λ ms. s.position < length ms) (sym (body_same g m p is s.production small)) x.position;
  }

  -- from the target of the continuing step its steps lead on
  within_on : (k : ℕ) (s : Step) → continuing g k ≡ Some s → GoesOnWithin g p k → GoesOnWithin g p (target_of g s)
  within_on k s e within c t h = within (suc c) t (ap (λ o. continuing g (after g c (next_by g k o))) e ∙ h)

  -- so a walk along a cycle of the grammar, by such steps, is one in the version
  walk_down : {x y : ℕ} → Walk (Makes g) x y → Derives g y x → GoesOnWithin g p x → Walk (Makes (version_of g m p)) x y
  walk_down here back within = here
  walk_down (onward {x = x} {y = y} {z = z} r w) back within =
      let q = makes_goes g x y r (walk-append w back) in
      let e = (continuing_law g wf linear x q.0).1 q.1 in
      let small = within 0 q.0 e in
      let one : Makes (version_of g m p) x y = subst (Makes (version_of g m p) x) (target_same g m p is q.0 small ∙ q.2) (step_makes (version_of g m p) x q.0 (step_down x q.0 small q.1.0)) in
      onward one (walk_down w (walk-append back (walk_one r)) (subst (GoesOnWithin g p) q.2 (within_on x q.0 e within)))

  cycle_up : (k : ℕ) → IsOnCycle (version_of g m p) k → IsOnCycle g k × GoesOnWithin g p k
  cycle_up k c =
      let t = continuing_found (version_of g m p) (formed g m p is wf) k c.0 c.1 in
      ((c.0, continues_up g m p is k c.0 c.1), λ n s h. goes_on_within n k t.0 t.1 s h)

  cycle_down : (k : ℕ) → IsOnCycle g k × GoesOnWithin g p k → IsOnCycle (version_of g m p) k
  cycle_down k c =
      let s = c.0.0 in
      let e = (continuing_law g wf linear k s).1 c.0.1 in
      let small = c.1 0 s e in
      let back = walk_down c.0.1.1 (walk_one (step_makes g k s c.0.1.0)) (within_on k s e c.1) in
      (s, (step_down k s small c.0.1.0, subst (λ z. Derives (version_of g m p) z k) (sym (target_same g m p is s small)) back))

pub version_cycles_law : VersionCyclesLaw
version_cycles_law g m p is wf linear k = record {
  on_cycle = (cycle_up g m p is wf linear k, cycle_down g m p is wf linear k);
  gets_on = (
    (λ q. (q.0, (λ e. continuing_none g wf k e q.2.0 q.2.1), (λ within. q.1 (cycle_down g m p is wf linear k (q.2, within))))),
    (λ q. (q.0, (λ c. q.2 (cycle_up g m p is wf linear k c).1), there q.1)),
  );
}
  where
    there : continuing g k ≢ None → IsOnCycle g k
    there n = ⊎_elim (λ e. absurd (n e)) (λ s. (s.0, continuing_is g k s.0 s.1)) (cases_option (continuing g k))
