-- Open routes lead to seen modules, and may be cut and joined.
use Rattle.std.proofs.Common.{ℕ, zero, suc, List, [], ◌∷◌, ◌++◌, take}
use Rattle.wf_model.specs.Grammar.{Grammar, body_of}
use Rattle.wf_model.specs.View.{View, IsSeenModule, in_body}
use Rattle.wf_model.specs.Reach.{Step, target_of, module_along}
use Rattle.wf_model.specs.OpenRoutes.{IsOpenStep, IsOpenRoute}
use Rattle.wf_model.proofs.Lists.{is_at, at_in}

module _ (g : Grammar) (u : View) where
  pub open_take : (m n : ℕ) (steps : List Step) → IsOpenRoute g u m steps → IsOpenRoute g u m (take n steps)
  open_take m zero steps x = tt
  open_take m (suc n) [] x = tt
  open_take m (suc n) (s ∷ steps) x = (x.0, x.1, open_take (target_of g s) n steps x.2)

  pub step_seen : (s : Step) → IsOpenStep g u s → IsSeenModule g u (target_of g s)
  step_seen s x = in_body s.production x.in_range x.seen x.expanded (at_in _ s.position (body_of g s.production) (is_at s.position (body_of g s.production) 0 x.position))

  pub route_seen : (m : ℕ) (steps : List Step) → IsSeenModule g u m → IsOpenRoute g u m steps → IsSeenModule g u (module_along g m steps)
  route_seen m [] h x = h
  route_seen m (s ∷ steps) h x = route_seen (target_of g s) steps (step_seen s x.0) x.2

  pub open_append : (m : ℕ) (a b : List Step) → IsOpenRoute g u m a → IsOpenRoute g u (module_along g m a) b → IsOpenRoute g u m (a ++ b)
  open_append m [] b x y = y
  open_append m (s ∷ a) b x y = (x.0, x.1, open_append (target_of g s) a b x.2 y)

  pub open_split : (m : ℕ) (a b : List Step) → IsOpenRoute g u m (a ++ b) → IsOpenRoute g u m a × IsOpenRoute g u (module_along g m a) b
  open_split m [] b o = (tt, o)
  open_split m (s ∷ a) b o = let r = open_split (target_of g s) a b o.2 in ((o.0, o.1, r.0), r.1)
