-- What a coarse view sees, a fine view sees too.
use Rattle.std.proofs.Common.{◌≡◌, ℕ, Bool, true, false, cond, ◌&&◌, IsTrue, List, [], ◌∷◌, ◌++◌, get_or, bytes_eq, Option, Some, None, refl, sym, ap₂, ◌∙◌, subst, ⊎_elim, true≢false}
use Rattle.std.proofs.lemmas.Bool.{cases_Bool}
use Rattle.wf_model.specs.Lists.{IsIn}
use Rattle.wf_model.specs.Grammar.{Grammar, head_of, body_of}
use Rattle.wf_model.specs.View.{View, expands, IsSeenModule, at_start, in_body}
use Rattle.wf_model.specs.declared.event.Event.{Event}
use Rattle.wf_model.specs.declared.event.Event.TheVariants.{Start, Expand}
use Rattle.wf_model.specs.Run.{Instance, named, opens, newly_seen, see_all, seen_in}
use Rattle.wf_model.specs.Items.{IsMadeOpen}
use Rattle.wf_model.specs.Reach.{Step, target_of, module_along, IsAlong}
use Rattle.wf_model.specs.OpenRoutes.{IsOpenStep, IsOpenRoute}
use Rattle.wf_model.proofs.Lists.{in_append_left, in_append_right, in_append_cases, some_gives, some_from}
use Rattle.wf_model.proofs.Tests.{and_left, and_right}
use Rattle.label_model.specs.Labels.{Label}
use Rattle.verdict_model.specs.Verdicts.{IsHidden}
use Rattle.compare_model.specs.Coarser.{IsCoarser}
use Rattle.compare_model.specs.Laws.{SeesNoMoreLaw}

module _ (g : Grammar) (c u : View) (coarser : IsCoarser c u) where
  pub modules_too : (m : ℕ) → IsSeenModule g c m → IsSeenModule g u m
  modules_too m (at_start e) = at_start e
  modules_too m (in_body p l s ex i) = in_body p l (modules_too (head_of g p) s) (coarser (head_of g p) ex) i

  -- one list of instances has those of the other
  abbrev HasAll : List Instance → List Instance → Type 0
  HasAll s t = (i : Instance) → IsIn i s → IsIn i t

  opens_too : (s t : List Instance) → HasAll s t → (n : List ℕ) → IsTrue (opens c s n) → IsTrue (opens u t n)
  opens_too s t all n h =
      let r = some_gives (λ (i : Instance). bytes_eq i.name n && expands c i.module_no) s h in
      let named = and_left (bytes_eq r.0.name n) (expands c r.0.module_no) r.2 in
      let expanded = coarser r.0.module_no (and_right (bytes_eq r.0.name n) (expands c r.0.module_no) r.2) in
      some_from (λ (i : Instance). bytes_eq i.name n && expands u i.module_no) r.0 t (all r.0 r.1) (ap₂ ◌&&◌ named expanded)

  newly_too : (m : ℕ) (s t : List Instance) → HasAll s t → (e : Event) → HasAll (newly_seen g c m s e) (newly_seen g u m t e)
  newly_too m s t all (Start r) i h = h
  newly_too m s t all (Expand j p names) i h = go (opens c s j) refl h
    where
      go : (b : Bool) → opens c s j ≡ b → IsIn i (cond b (named names (body_of g p)) []) → IsIn i (newly_seen g u m t (Expand j p names))
      go true e q = ⊎_elim (λ z. by_opened z q) (λ z. absurd (true≢false (sym (opens_too s t all j e) ∙ z))) (cases_Bool (opens u t j))
        where
          by_opened : opens u t j ≡ true → IsIn i (named names (body_of g p)) → IsIn i (newly_seen g u m t (Expand j p names))
          by_opened z q = subst (λ b. IsIn i (cond b (named names (body_of g p)) [])) (sym z) q
      go false e q = absurd q

  see_too : (m : ℕ) (events : List Event) (s t : List Instance) → HasAll s t → HasAll (see_all g c m s events) (see_all g u m t events)
  see_too m [] s t all = all
  see_too m (e ∷ events) s t all = see_too m events (s ++ newly_seen g c m s e) (t ++ newly_seen g u m t e)
      (λ i h. ⊎_elim (λ a. in_append_left i t (newly_seen g u m t e) (all i a)) (λ a. in_append_right i t (newly_seen g u m t e) (newly_too m s t all e i a)) (in_append_cases i s (newly_seen g c m s e) h))

  pub instances_too : (m : ℕ) (events : List Event) → HasAll (seen_in g c m events) (seen_in g u m events)
  instances_too m events = see_too m events [] [] (λ i h. h)

  visible_too : (m : ℕ) (events : List Event) (n : Option (List ℕ)) → IsMadeOpen g c m events n → IsMadeOpen g u m events n
  visible_too m events None h = tt
  visible_too m events (Some n) h = opens_too (seen_in g c m events) (seen_in g u m events) (instances_too m events) n h

  pub hidden_too : (l : Label) → IsHidden g u l → IsHidden g c l
  hidden_too l h = (h.0, h.1, h.2, go (expands c (module_along g g.start h.0)) refl)
    where
      go : (b : Bool) → expands c (module_along g g.start h.0) ≡ b → b ≡ false
      go true e = absurd (true≢false (sym (coarser (module_along g g.start h.0) e) ∙ h.3))
      go false e = refl

  pub along_too : (events : List Event) (a : List Step) (n x : List ℕ) → IsAlong g c events n a x → IsAlong g u events n a x
  along_too events [] n x h = h
  along_too events (s ∷ a) n x h = (h.0, h.1, h.2, coarser (head_of g s.production) h.3, along_too events a (get_or h.0 s.position []) x h.4)

  -- an open route of the coarse view is open under the fine one
  step_too : (s : Step) → IsOpenStep g c s → IsOpenStep g u s
  step_too s x = record { in_range = x.in_range; seen = modules_too (head_of g s.production) x.seen; expanded = coarser (head_of g s.production) x.expanded; position = x.position }

  pub route_too : (m : ℕ) (a : List Step) → IsOpenRoute g c m a → IsOpenRoute g u m a
  route_too m [] x = x
  route_too m (s ∷ a) x = (step_too s x.0, x.1, route_too (target_of g s) a x.2)

pub sees_no_more_law : SeesNoMoreLaw
sees_no_more_law g c u coarser = record {
  modules = modules_too g c u coarser;
  instances = λ m events n h. instances_too g c u coarser m events n h;
  visible = λ m events t h. visible_too g c u coarser m events t.maker h;
  labels = hidden_too g c u coarser;
}
