-- The default view of a grammar hides no label.
use Rattle.std.proofs.Common.{ℕ, List, [], ◌∷◌, ◌++◌, sym, ◌∙◌, subst, ⊎_elim, true≢false}
use Rattle.wf_model.specs.Grammar.{Grammar, IsProductionOf, IsComposite}
use Rattle.wf_model.specs.DefaultView.{default_view}
use Rattle.wf_model.specs.Reach.{Step, target_of, module_along}
use Rattle.wf_model.specs.Routes.{IsRoute}
use Rattle.wf_model.proofs.DefaultView.{default_expands_all}
use Rattle.label_model.specs.Labels.{Label}
use Rattle.verdict_model.specs.Telling.{Names}
use Rattle.verdict_model.specs.Verdicts.{IsHidden}

-- each step of a route is by a production of the module that it leaves
left_by : (g : Grammar) (m : ℕ) (c : List Step) (s : Step) (rest : List Step) → IsRoute g m (c ++ s ∷ rest) → IsProductionOf g s.production (module_along g m c)
left_by g m [] s rest x = (x.0, x.1)
left_by g m (t ∷ c) s rest x = left_by g (target_of g t) c s rest x.3

-- where a label names a production, a composite module stands
names_composite : (g : Grammar) (l : Label) (c : List Step) (r : ℕ) → Names g l c r → IsComposite g (module_along g g.start c)
names_composite g l c r n = ⊎_elim
    (λ q. subst (λ z. IsComposite g (module_along g g.start z)) q.0 (n.1, n.3.ending.of_it))
    (λ q. (q.0.production, left_by g g.start c q.0 q.1 (subst (IsRoute g g.start) q.2 n.3.ending.route)))
    n.4

pub default_hides_none : (g : Grammar) (l : Label) → IsHidden g (default_view g) l → ⊥
default_hides_none g l h = true≢false (sym (default_expands_all g (module_along g g.start h.0) (names_composite g l h.0 h.1 h.2)) ∙ h.3)
