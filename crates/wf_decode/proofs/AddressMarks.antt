-- The marks of a label are those of the address that it tells.
use Rattle.std.proofs.Common.{◌≡◌, ◌≢◌, ℕ, ◌+◌, true, false, List, [], ◌∷◌, ◌++◌, length, Option, Some, None, refl, sym, ap, ◌∙◌, subst, inl, inr, arith, append_assoc, length-append, true≢false}
use Rattle.wf_model.specs.Grammar.{Grammar, alternative_of, IsProductionOf}
use Rattle.wf_model.specs.WellFormed.{IsWellFormed}
use Rattle.wf_model.specs.Reach.{Step, target_of, module_along}
use Rattle.wf_model.specs.Routes.{IsRoute}
use Rattle.wf_model.specs.Linear.{IsLinear}
use Rattle.label_model.specs.Continuing.{continuing, after}
use Rattle.label_model.specs.Labels.{Label}
use Rattle.label_model.specs.Places.{chain_by, chain_at, steps_from, chain_from}
use Rattle.label_model.proofs.ContinuingSteps.{continuing_law, continuing_is}
use Rattle.label_model.proofs.OneRoute.{step_told, IsSplit, split}
use Rattle.wf_label.specs.Marks.{Mark, AtInput, AtOutput, Chain, Into, End, production_by, passed, chain_marks, step_at, place_marks, marks_of}
use Rattle.wf_label.proofs.ByAlternative.{at_alternative}
use Rattle.decode_model.specs.Rounds.{AreContinuing}
use Rattle.decode_model.proofs.Rounds.{continuing_append, along_after, module_along-append}
use Rattle.verdict_model.specs.Telling.{Tells}
use Rattle.wf_decode.specs.Marking.{AreMarksTo}
use Rattle.wf_recur.proofs.Places.{after_continues}

module _ (g : Grammar) (wf : IsWellFormed g) (lin : IsLinear g) (p e : ℕ) where
  -- continuing steps lead from the module k to m
  record IsFront (k m c : ℕ) (front : List Step) : Type 0 where
    goes : AreContinuing g k front
    many : length front ≡ c
    to : module_along g k front ≡ m

  no_front : (m : ℕ) → IsFront m m 0 []
  no_front m = record { goes = tt; many = refl; to = refl }

  longer : (k m c : ℕ) (front : List Step) (s : Step) → continuing g m ≡ Some s → IsFront k m c front → IsFront k (target_of g s) (c + 1) (front ++ s ∷ [])
  longer k m c front s is f = record {
    goes = continuing_append g k front (s ∷ []) f.goes (subst (λ z. AreContinuing g z (s ∷ [])) (sym f.to) (continuing_is g m s is, tt));
    many = omega (arith, f.many, length-append front (s ∷ []));
    to = module_along-append g k front (s ∷ []);
  }

  -- continuing steps lead to a module on a cycle, or there are none
  front_none : (k m c : ℕ) (front : List Step) → continuing g m ≡ None → IsFront k m c front → (front ≡ []) × (k ≡ m)
  front_none k m c [] none f = (refl, f.to)
  front_none k m c (r ∷ front) none f =
      let t = after_continues g wf (length (r ∷ front)) k r ((continuing_law g wf lin k r).1 f.goes.0) in
      let z : None ≡ Some t.0 = sym none ∙ (ap (continuing g) (sym (sym (along_after g wf lin k (r ∷ front) f.goes) ∙ f.to)) ∙ t.1) in
      absurd (cc)

  -- and from one
  front_some : (k m c : ℕ) (front : List Step) (s : Step) → continuing g m ≡ Some s → IsFront k m c front → continuing g k ≢ None
  front_some k m c [] s is f none = let z : None ≡ Some s = sym none ∙ (ap (continuing g) f.to ∙ is) in absurd (cc)
  front_some k m c (r ∷ front) s is f none = let z : None ≡ Some r = sym none ∙ (continuing_law g wf lin k r).1 f.goes.0 in absurd (cc)

  -- a number of them leads where they lead
  passed_to : (k m c : ℕ) (front : List Step) (o : Option Step) → continuing g m ≡ o → IsFront k m c front → passed g k (chain_by o c) ≡ m
  passed_to k m c front None is f = (front_none k m c front is f).1
  passed_to k m c front (Some s) is f = ap (λ n. after g n k) (sym f.many) ∙ (sym (along_after g wf lin k front f.goes) ∙ f.to)

  -- at a module on no cycle no number need be told
  none_told : (m : ℕ) (a : List Step) (ms : List Mark) → continuing g m ≡ None → AreMarksTo g m true a p e ms → AreMarksTo g m false a p e ms
  none_told m a [] is h = absurd h
  none_told m a (AtInput n ∷ ms) is h = absurd h
  none_told m a (AtOutput n ∷ ms) is h = absurd h
  none_told m a (Chain n ∷ ms) is h = absurd (true≢false h.0)
  none_told m a (Into s ∷ ms) is h = ((λ _. is), h.1, h.2, h.3)
  none_told m a (End q f ∷ ms) is h = ((λ _. is), h.1, h.2, h.3, h.4)

  -- marks behind the number of continuing steps
  behind_front : (k m c : ℕ) (front rest : List Step) (ms : List Mark) (o : Option Step) → continuing g m ≡ o → IsFront k m c front → AreMarksTo g m true rest p e ms → AreMarksTo g k false (front ++ rest) p e (chain_marks (chain_by o c) ++ ms)
  behind_front k m c front rest ms None is f h =
      let none = front_none k m c front is f in
      subst (λ a. AreMarksTo g k false (a ++ rest) p e ms) (sym none.0) (subst (λ n. AreMarksTo g n false rest p e ms) (sym none.1) (none_told m rest ms is h))
  behind_front k m c front rest ms (Some s) is f h =
      (refl, front_some k m c front s is f, (front, rest, refl, f.goes, f.many, subst (λ n. AreMarksTo g n true rest p e ms) (sym f.to) h))

  -- the marks of an address behind continuing steps that are not told yet
  marks_to : (a : List Step) (k m c : ℕ) (front : List Step) → IsFront k m c front → IsRoute g m a → IsProductionOf g p (module_along g m a) →
      AreMarksTo g k false (front ++ a) p e (place_marks g k (steps_from g m c a) (chain_from g m c a) (alternative_of g p) e)
  marks_to [] k m c front f route of_it =
      let named : production_by g (passed g k (chain_at g m c)) (alternative_of g p) ≡ p =
      ap (λ z. production_by g z (alternative_of g p)) (passed_to k m c front (continuing g m) refl f) ∙ (at_alternative g p m of_it).1 in
      subst (λ z. AreMarksTo g k false (front ++ []) p e (chain_marks (chain_at g m c) ++ End z e ∷ [])) (sym named)
      (behind_front k m c front [] (End p e ∷ []) (continuing g m) refl f ((λ z. absurd (true≢false z)), of_it, refl, refl, refl))
  marks_to (s ∷ a) k m c front f route of_it =
      go (λ n d more w. marks_to a n (target_of g s) d more w route.3 of_it) (split g m c s a)
    where
      go : ((n d : ℕ) (more : List Step) → IsFront n (target_of g s) d more → AreMarksTo g n false (more ++ a) p e (place_marks g n (steps_from g (target_of g s) d a) (chain_from g (target_of g s) d a) (alternative_of g p) e)) →
          IsSplit g m c s a (steps_from g m c (s ∷ a)) (chain_from g m c (s ∷ a)) →
          AreMarksTo g k false (front ++ s ∷ a) p e (place_marks g k (steps_from g m c (s ∷ a)) (chain_from g m c (s ∷ a)) (alternative_of g p) e)
      go rest (inl q) =
          let r = rest k (c + 1) (front ++ s ∷ []) (longer k m c front s q.0 f) in
          subst (λ z. AreMarksTo g k false (front ++ s ∷ a) p e (place_marks g k z (chain_from g m c (s ∷ a)) (alternative_of g p) e)) q.1
          (subst (λ z. AreMarksTo g k false (front ++ s ∷ a) p e (place_marks g k (steps_from g (target_of g s) (c + 1) a) z (alternative_of g p) e)) q.2
          (subst (λ z. AreMarksTo g k false z p e (place_marks g k (steps_from g (target_of g s) (c + 1) a) (chain_from g (target_of g s) (c + 1) a) (alternative_of g p) e)) (append_assoc front (s ∷ []) a) r))
      go rest (inr q) =
          let r = rest (target_of g s) 0 [] (no_front (target_of g s)) in
          let named : production_by g (passed g k (chain_at g m c)) (alternative_of g s.production) ≡ s.production =
          ap (λ z. production_by g z (alternative_of g s.production)) (passed_to k m c front (continuing g m) refl f) ∙ (at_alternative g s.production m (route.0, route.1)).1 in
          let same : ◌≡◌ {A = Step} (step_at g k (step_told g m c s)) s = λ i. record { production = named i; position = s.position } in
          let told = step_told g m c s in
          let steps = steps_from g (target_of g s) 0 a in
          let chain = chain_from g (target_of g s) 0 a in
          let first : AreMarksTo g m true (s ∷ a) p e (Into s ∷ place_marks g (target_of g s) steps chain (alternative_of g p) e) =
          ((λ z. absurd (true≢false z)), record { in_range = route.0; head = route.1; position = route.2 }, q.0, (a, refl, r)) in
          let all = behind_front k m c front (s ∷ a) (Into s ∷ place_marks g (target_of g s) steps chain (alternative_of g p) e) (continuing g m) refl f first in
          subst (λ z. AreMarksTo g k false (front ++ s ∷ a) p e (place_marks g k z (chain_from g m c (s ∷ a)) (alternative_of g p) e)) q.1
          (subst (λ z. AreMarksTo g k false (front ++ s ∷ a) p e (place_marks g k (told ∷ steps) z (alternative_of g p) e)) q.2
          (subst (λ z. AreMarksTo g k false (front ++ s ∷ a) p e (chain_marks (chain_at g m c) ++ Into z ∷ place_marks g (target_of g z) steps chain (alternative_of g p) e)) (sym same) all))

-- the marks of a label are those of what it tells
pub address_marks : (g : Grammar) → IsWellFormed g → IsLinear g → (x : Label) (a : List Step) (p e : ℕ) → Tells g x a p e → AreMarksTo g g.start false a p e (marks_of g x)
address_marks g wf lin x a p e tells =
    subst (λ z. AreMarksTo g g.start false a p e (marks_of g z)) (sym tells.is)
    (marks_to g wf lin p e a g.start g.start 0 [] (no_front g wf lin p e g.start) tells.ending.route tells.ending.of_it)
