-- Runs under a view that expands every composite module: all that a run makes is seen, and a finished run has no finishing but itself.
use Rattle.std.proofs.Common.{◌≡◌, ◌≢◌, ℕ, ◌&&◌, true, cond, List, [], ◌∷◌, ◌++◌, bytes_eq, refl, sym, ap, ◌∙◌, subst, append_assoc, append-nil}
use Rattle.wf_model.specs.Lists.{IsIn}
use Rattle.wf_model.specs.Grammar.{Grammar, head_of, body_of}
use Rattle.wf_model.specs.View.{View, expands}
use Rattle.wf_model.specs.declared.event.Event.{Event}
use Rattle.wf_model.specs.declared.event.Event.TheVariants.{Start, Expand}
use Rattle.wf_model.specs.Run.{Instance, named, made_by, made, CanExpand, Extends, AllExtend, IsRun, opens, newly_seen, see_all, seen_in, IsFinished}
use Rattle.wf_model.specs.Finishing.{ExpandsAll, IsFinishing}
use Rattle.wf_model.proofs.Lists.{some_from, bytes_same}
use Rattle.wf_model.proofs.Runs.{made_more, AllExtend-append}

module _ (g : Grammar) (u : View) (every : ExpandsAll g u) (m : ℕ) where
  -- where all that was made is seen, an instance that can be expanded is opened by it
  opened : (b : List Event) (i : List ℕ) (p : ℕ) (names : List (List ℕ)) → CanExpand g m b i p names → opens u (made g m b) i ≡ true
  opened b i p names can =
      some_from (λ (j : Instance). bytes_eq j.name i && expands u j.module_no) (record { name = i; module_no = head_of g p }) (made g m b) can.stands
      (ap (λ t. t && expands u (head_of g p)) (bytes_same i i refl) ∙ every (head_of g p) (p, (can.in_range, refl)))

  newly_made : (b : List Event) (e : Event) → Extends g m b e → newly_seen g u m (made g m b) e ≡ made_by g m e
  newly_made b (Start r) x = refl
  newly_made b (Expand i p names) can = ap (λ t. cond {A = List Instance} t (named names (body_of g p)) []) (opened b i p names can)

  see_all_made : (b a : List Event) → AllExtend g m b a → see_all g u m (made g m b) a ≡ made g m (b ++ a)
  see_all_made b [] x = ap (made g m) (sym (append-nil b))
  see_all_made b (e ∷ a) x =
      ap (λ s. see_all g u m s a) (ap (λ l. made g m b ++ l) (newly_made b e x.0) ∙ sym (made_more g m b e)) ∙
      (see_all_made (b ++ e ∷ []) a x.1 ∙ ap (made g m) (append_assoc b (e ∷ []) a))

  -- the instances of a run are those that are seen, in the same order
  pub seen_is_made : (events : List Event) → IsRun g m events → seen_in g u m events ≡ made g m events
  seen_is_made events run = see_all_made [] events run

  -- each instance of a run is seen
  pub all_seen : (events : List Event) → IsRun g m events → (i : Instance) → IsIn i (made g m events) → IsIn i (seen_in g u m events)
  all_seen events run i h = subst (IsIn i) (sym (seen_is_made events run)) h

  none_more : (events more : List Event) → events ≢ [] → IsRun g m events → IsFinished g u m events → AllExtend g m events more → more ≡ []
  none_more events [] started run finished x = refl
  none_more events (Start r ∷ more) started run finished x = absurd (started x.0.0)
  none_more events (Expand i p names ∷ more) started run finished x =
      absurd (finished (record { name = i; module_no = head_of g p }) (all_seen events run _ x.0.stands, every (head_of g p) (p, (x.0.in_range, refl)), x.0.open_end))

  -- a finished run that has its start event has no finishing but itself
  pub no_other_finishing : (events more : List Event) → events ≢ [] → IsFinished g u m events → IsFinishing g u m events more → more ≡ []
  no_other_finishing events more started finished f =
      let x = AllExtend-append g m [] events more f.run in none_more events more started x.0 finished x.1
