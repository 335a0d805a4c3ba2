-- A label of a version that keeps its cycles is a label of the grammar, and tells the same.
use Rattle.std.proofs.Common.{◌≡◌, ℕ, ◌+◌, ◌<◌, cond, List, [], ◌∷◌, ◌++◌, length, Option, Some, None, refl, sym, ap, ◌∙◌, subst, ⊎_elim}
use Rattle.wf_model.specs.Grammar.{Grammar, Production, IsComposite, alternative_of}
use Rattle.wf_model.specs.WellFormed.{IsWellFormed}
use Rattle.wf_model.specs.Linear.{IsLinear}
use Rattle.wf_model.specs.Reach.{Step, target_of, module_along}
use Rattle.wf_model.specs.Routes.{IsRoute}
use Rattle.label_model.specs.Continuing.{continuing, is_step}
use Rattle.label_model.specs.Labels.{PlaceStep, Place, Label, Input, Output, OfEdge, IsChain, Leaves, Leads, IsPlace, IsLabel}
use Rattle.label_model.specs.Places.{chain_by, count_after, told, steps_from, chain_from, place_of, IsEnding}
use Rattle.label_model.proofs.Finding.{cases_option}
use Rattle.verdict_model.specs.Telling.{Tells}
use Rattle.verdict_model.proofs.LabelsTold.{telling_law, input_untold, output_untold}
use Rattle.wf_model.specs.Versions.{version_of, IsVersion, KeepsCycles}
use Rattle.version_model.proofs.SameParts.{in_version, in_grammar, production_same, head_same, ins_same, outs_same, target_same, step_up, step_composite, route_up, along_same}
use Rattle.version_model.proofs.VersionFormed.{formed}
use Rattle.version_model.proofs.VersionSteps.{alternative_same, continuing_same, continuing_composite, after_same}

module _ (g : Grammar) (m p : ℕ) (is : IsVersion g m p) (wf : IsWellFormed g) (linear : IsLinear g) (keeps : KeepsCycles g m p) where
  -- chains that lead to a composite module
  chain_too : (k : ℕ) (c : Option ℕ) (j : ℕ) → IsComposite (version_of g m p) j → IsChain (version_of g m p) k c j → IsChain g k c j
  chain_too k None j composite h = (sym (continuing_same g m p is wf linear keeps k (subst (IsComposite (version_of g m p)) (sym h.1) composite)) ∙ h.0, h.1)
  chain_too k (Some c) j composite h = ⊎_elim
      (λ e. absurd (h.0 e))
      (λ s. (
        (λ e. h.0 (continuing_same g m p is wf linear keeps k (continuing_composite g m p is wf linear keeps k s.0 s.1) ∙ e)),
        h.1,
        sym (after_same g m p is wf linear keeps c k s.0 s.1) ∙ h.2,
      ))
      (cases_option (continuing (version_of g m p) k))

  leaves_too : (k : ℕ) (s : PlaceStep) (t : Step) → Leaves (version_of g m p) k s t → Leaves g k s t
  leaves_too k s t l =
      let composite = step_composite g m p is l.from t l.step in
      record {
        from = l.from;
        chain = chain_too k s.chain l.from composite l.chain;
        step = step_up g m p is l.from t l.step;
        alternative = sym (alternative_same g m p is t.production (in_version g m p is t.production l.step.in_range)) ∙ l.alternative;
        position = l.position;
        leaves = λ e. l.leaves (continuing_same g m p is wf linear keeps l.from composite ∙ e);
      }

  leads_too : (k : ℕ) (steps : List PlaceStep) (j : ℕ) → Leads (version_of g m p) k steps j → Leads g k steps j
  leads_too k [] j h = h
  leads_too k (s ∷ steps) j h =
      let same = target_same g m p is h.0 (in_version g m p is h.0.production h.1.step.in_range) in
      (h.0, leaves_too k s h.0 h.1, subst (λ z. Leads g z steps j) same (leads_too (target_of (version_of g m p) h.0) steps j h.2))

  place_too : (k : ℕ) (q : Place) → IsPlace (version_of g m p) k q → IsPlace g k q
  place_too k q x =
      let h = in_version g m p is x.production x.of_it.0 in
      record {
        entered = x.entered;
        leads = leads_too k q.steps x.entered x.leads;
        from = x.from;
        chain = chain_too x.entered q.chain x.from (x.production, x.of_it) x.chain;
        production = x.production;
        of_it = (in_grammar g m p is x.production h, sym (head_same g m p is x.production h) ∙ x.of_it.1);
        alternative = sym (alternative_same g m p is x.production h) ∙ x.alternative;
        edge = subst (λ (r : Production). q.edge < length r.edges) (production_same g m p is x.production h) x.edge;
      }

  pub label_too : (l : Label) → IsLabel (version_of g m p) l → IsLabel g l
  label_too (Input n) h = subst (λ z. n < z) (ins_same g m p is g.start is.start) h
  label_too (Output n) h = subst (λ z. n < z) (outs_same g m p is g.start is.start) h
  label_too (OfEdge q) h = place_too g.start q h

  -- what is told of a step
  told_same : (k c : ℕ) (s : Step) → IsComposite (version_of g m p) k → s.production < p → told (version_of g m p) k c s ≡ told g k c s
  told_same k c s composite h =
      ap (λ o. cond (is_step o s) [] (record { chain = chain_by o c; alternative = alternative_of (version_of g m p) s.production; position = s.position } ∷ [])) (continuing_same g m p is wf linear keeps k composite) ∙
      ap (λ n. cond (is_step (continuing g k) s) [] (record { chain = chain_by (continuing g k) c; alternative = n; position = s.position } ∷ [])) (alternative_same g m p is s.production h)

  count_same : (k c : ℕ) (s : Step) → IsComposite (version_of g m p) k → count_after (version_of g m p) k c s ≡ count_after g k c s
  count_same k c s composite = ap (λ o. cond (is_step o s) (c + 1) 0) (continuing_same g m p is wf linear keeps k composite)

  -- and of an address
  steps_same : (k c : ℕ) (a : List Step) → IsRoute (version_of g m p) k a → steps_from (version_of g m p) k c a ≡ steps_from g k c a
  steps_same k c [] x = refl
  steps_same k c (s ∷ a) x =
      let h = in_version g m p is s.production x.0 in
      let composite : IsComposite (version_of g m p) k = (s.production, (x.0, x.1)) in
      ap (λ l. l ++ steps_from (version_of g m p) (target_of (version_of g m p) s) (count_after (version_of g m p) k c s) a) (told_same k c s composite h) ∙
      ap (λ l. told g k c s ++ l)
      (steps_same (target_of (version_of g m p) s) (count_after (version_of g m p) k c s) a x.3 ∙
      (ap (λ z. steps_from g z (count_after (version_of g m p) k c s) a) (target_same g m p is s h) ∙
      ap (λ n. steps_from g (target_of g s) n a) (count_same k c s composite)))

  chain_same : (k c : ℕ) (a : List Step) → IsRoute (version_of g m p) k a → IsComposite (version_of g m p) (module_along (version_of g m p) k a) → chain_from (version_of g m p) k c a ≡ chain_from g k c a
  chain_same k c [] x composite = ap (λ o. chain_by o c) (continuing_same g m p is wf linear keeps k composite)
  chain_same k c (s ∷ a) x composite =
      let h = in_version g m p is s.production x.0 in
      chain_same (target_of (version_of g m p) s) (count_after (version_of g m p) k c s) a x.3 composite ∙
      (ap (λ z. chain_from g z (count_after (version_of g m p) k c s) a) (target_same g m p is s h) ∙
      ap (λ n. chain_from g (target_of g s) n a) (count_same k c s (s.production, (x.0, x.1))))

  pub place_same : (k : ℕ) (a : List Step) (q n : ℕ) → IsEnding (version_of g m p) k a q n → place_of (version_of g m p) k a q n ≡ place_of g k a q n
  place_same k a q n x =
      let steps = steps_same k 0 a x.route in
      let chain = chain_same k 0 a x.route (q, x.of_it) in
      let alternative = alternative_same g m p is q (in_version g m p is q x.of_it.0) in
      λ i. record { steps = steps i; chain = chain i; alternative = alternative i; edge = n }

  ending_up : (k : ℕ) (a : List Step) (q n : ℕ) → k < m → IsEnding (version_of g m p) k a q n → IsEnding g k a q n
  ending_up k a q n hk x =
      let h = in_version g m p is q x.of_it.0 in
      record {
        route = route_up g m p is k a x.route;
        of_it = (in_grammar g m p is q h, sym (head_same g m p is q h) ∙ (x.of_it.1 ∙ (along_same g m p is k a hk x.route).0));
        edge = subst (λ (r : Production). n < length r.edges) (production_same g m p is q h) x.edge;
      }

  -- a label tells the same in both
  pub tells_up : (l : Label) (a : List Step) (q n : ℕ) → Tells (version_of g m p) l a q n → Tells g l a q n
  tells_up l a q n x = record { ending = ending_up g.start a q n is.start x.ending; is = x.is ∙ ap OfEdge (place_same g.start a q n x.ending) }

  pub tells_back : (l : Label) → IsLabel (version_of g m p) l → (a : List Step) (q n : ℕ) → Tells g l a q n → Tells (version_of g m p) l a q n
  tells_back (Input k) h a q n x = absurd (input_untold g k a q n x)
  tells_back (Output k) h a q n x = absurd (output_untold g k a q n x)
  tells_back (OfEdge z) h a q n x =
      let r = (telling_law (version_of g m p) (formed g m p is wf)).each z h in
      let one = (telling_law g wf).one (OfEdge z) r.0 a r.1 q r.2 n (tells_up (OfEdge z) r.0 r.1 r.2 r.3) x in
      subst (λ y. Tells (version_of g m p) (OfEdge z) a q y) one.2 (subst (λ y. Tells (version_of g m p) (OfEdge z) a y r.2) one.1 (subst (λ y. Tells (version_of g m p) (OfEdge z) y r.1 r.2) one.0 r.3))
