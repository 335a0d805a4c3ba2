-- A label is hidden or not, and it is not exactly where the view expands each module on the way that it tells.
use Rattle.std.proofs.Common.{◌≡◌, ◌⊎◌, ℕ, IsTrue, true, false, List, [], ◌∷◌, ◌++◌, get_or, refl, sym, ap, ◌∙◌, subst, inl, inr, ⊎_elim, true≢false}
use Rattle.std.proofs.lemmas.Bool.{cases_Bool}
use Rattle.wf_model.specs.Grammar.{Grammar}
use Rattle.wf_model.specs.WellFormed.{IsWellFormed}
use Rattle.wf_model.specs.View.{View, expands, IsSeenModule, at_start}
use Rattle.wf_model.specs.declared.event.Event.{Event}
use Rattle.wf_model.specs.Reach.{Step, target_of, module_along, IsAlong}
use Rattle.wf_model.specs.OpenRoutes.{IsOpenStep, IsOpenRoute}
use Rattle.wf_model.specs.Routes.{IsAddress, IsRoute}
use Rattle.wf_model.proofs.OpenRoutes.{step_seen}
use Rattle.label_model.specs.Labels.{Label, Input, Output}
use Rattle.verdict_model.specs.Telling.{Tells}
use Rattle.verdict_model.specs.Verdicts.{IsHidden}
use Rattle.verdict_model.proofs.Naming.{Passes, passes_more, names_passed, passed_named, input_unnamed, output_unnamed}

-- an open route to a module that the view expands too, so that each module on the way is expanded, the last one too
abbrev pub AllExpanded : Grammar → View → ℕ → List Step → Type 0
AllExpanded g u m a = IsOpenRoute g u m a × IsTrue (expands u (module_along g m a))

-- the way passes an instance whose module is not expanded
abbrev IsStopped : Grammar → View → ℕ → List Step → ℕ → Type 0
IsStopped g u m a p = (c : List Step) × (r : ℕ) × Passes a p c r × (expands u (module_along g m c) ≡ false)

module _ (g : Grammar) (u : View) where
  stopped_here : (m : ℕ) (a : List Step) (p : ℕ) → expands u m ≡ false → IsStopped g u m a p
  stopped_here m [] p h = ([], p, inl (refl, refl), h)
  stopped_here m (s ∷ a) p h = ([], s.production, inr (s, a, refl, refl), h)

  -- a step of a route is open where the view expands the module that it leaves
  step_open : (m : ℕ) (s : Step) (a : List Step) → IsRoute g m (s ∷ a) → IsSeenModule g u m → expands u m ≡ true → IsOpenStep g u s
  step_open m s a r seen ex = record { in_range = r.0; seen = subst (IsSeenModule g u) (sym r.1) seen; expanded = ap (expands u) r.1 ∙ ex; position = r.2 }

  -- each route is stopped, or all on it is expanded
  stopped_or_not : (m : ℕ) (a : List Step) (p : ℕ) → IsRoute g m a → IsSeenModule g u m → IsStopped g u m a p ⊎ AllExpanded g u m a
  stopped_or_not m [] p r seen = ⊎_elim (λ e. inr (tt, e)) (λ e. inl (stopped_here m [] p e)) (cases_Bool (expands u m))
  stopped_or_not m (s ∷ a) p r seen = go (stopped_or_not (target_of g s) a p r.3) (cases_Bool (expands u m))
    where
      go : (IsSeenModule g u (target_of g s) → IsStopped g u (target_of g s) a p ⊎ AllExpanded g u (target_of g s) a) → (expands u m ≡ true) ⊎ (expands u m ≡ false) → IsStopped g u m (s ∷ a) p ⊎ AllExpanded g u m (s ∷ a)
      go rest (inr e) = inl (stopped_here m (s ∷ a) p e)
      go rest (inl e) =
          let o = step_open m s a r seen e in
          ⊎_elim (λ q. inl (s ∷ q.0, q.1, passes_more s a p q.0 q.1 q.2, q.3)) (λ q. inr ((o, r.1, q.0), q.1)) (rest (step_seen g u s o))

  -- what begins the way leads to an expanded module
  expanded_on : (m : ℕ) (c rest : List Step) → AllExpanded g u m (c ++ rest) → expands u (module_along g m c) ≡ true
  expanded_on m [] [] h = h.1
  expanded_on m [] (s ∷ rest) h = ap (expands u) (sym h.0.1) ∙ h.0.0.expanded
  expanded_on m (s ∷ c) rest h = expanded_on (target_of g s) c rest (h.0.2, h.1)

  not_stopped : (m : ℕ) (a : List Step) (p : ℕ) → AllExpanded g u m a → IsStopped g u m a p → ⊥
  not_stopped m a p h q = ⊎_elim
      (λ w. true≢false (sym h.1 ∙ (ap (λ z. expands u (module_along g m z)) w.0 ∙ q.3)))
      (λ w. true≢false (sym (expanded_on m q.0 (w.0 ∷ w.1) (subst (AllExpanded g u m) w.2 h)) ∙ q.3))
      q.2

  -- where a route is open, each instance that an address passes along it is open
  pub along_open : (events : List Event) (m : ℕ) (a : List Step) (n x : List ℕ) → IsOpenRoute g u m a → IsAddress events n a x → IsAlong g u events n a x
  along_open events m [] n x h al = al
  along_open events m (s ∷ a) n x h al = (al.0, al.1, al.2, h.0.expanded, along_open events (target_of g s) a (get_or al.0 s.position []) x h.2 al.3)

  pub open_along : (events : List Event) (m : ℕ) (a : List Step) (n x : List ℕ) → IsRoute g m a → IsSeenModule g u m → IsAlong g u events n a x → IsOpenRoute g u m a
  open_along events m [] n x r seen al = tt
  open_along events m (s ∷ a) n x r seen al =
      let o = step_open m s a r seen (ap (expands u) (sym r.1) ∙ al.3) in
      (o, r.1, open_along events (target_of g s) a (get_or al.0 s.position []) x r.3 (step_seen g u s o) al.4)

-- an address of open instances is an address
pub along_address : (g : Grammar) (u : View) (events : List Event) (a : List Step) (n x : List ℕ) → IsAlong g u events n a x → IsAddress events n a x
along_address g u events [] n x h = h
along_address g u events (s ∷ a) n x h = (h.0, h.1, h.2, along_address g u events a (get_or h.0 s.position []) x h.4)

module _ (g : Grammar) (wf : IsWellFormed g) (u : View) (l : Label) (a : List Step) (p e : ℕ) (tells : Tells g l a p e) where
  either : IsStopped g u g.start a p ⊎ AllExpanded g u g.start a
  either = stopped_or_not g u g.start a p tells.ending.route (at_start refl)

  -- a label that is not hidden tells a way on which all is expanded
  pub shown_expanded : (IsHidden g u l → ⊥) → AllExpanded g u g.start a
  shown_expanded h = ⊎_elim (λ q. absurd (h (q.0, q.1, names_passed g wf l a p e tells q.0 q.1 q.2, q.3))) (λ q. q) either

  pub expanded_shown : AllExpanded g u g.start a → IsHidden g u l → ⊥
  expanded_shown all h = not_stopped g u g.start a p all (h.0, h.1, passed_named g wf l a p e tells h.0 h.1 h.2, h.3)

  pub hidden_or_not : IsHidden g u l ⊎ (IsHidden g u l → ⊥)
  hidden_or_not = ⊎_elim (λ q. inl (q.0, q.1, names_passed g wf l a p e tells q.0 q.1 q.2, q.3)) (λ q. inr (expanded_shown q)) either

-- the label of a port of the root is not hidden
pub input_shown : (g : Grammar) (u : View) (k : ℕ) → IsHidden g u (Input k) → ⊥
input_shown g u k h = input_unnamed g k h.0 h.1 h.2

pub output_shown : (g : Grammar) (u : View) (k : ℕ) → IsHidden g u (Output k) → ⊥
output_shown g u k h = output_unnamed g k h.0 h.1 h.2
