-- The events that give the names of a run's instances.
use Rattle.std.proofs.Common.{◌≡◌, ℕ, ◌⊎◌, List, [], ◌∷◌, ◌++◌, sym, subst, inl, inr}
use Rattle.std.proofs.lemmas.List.{map-append}
use Rattle.wf_model.specs.declared.event.Event.{Event}
use Rattle.wf_model.specs.declared.event.Event.TheVariants.{Start, Expand}
use Rattle.wf_model.specs.Lists.{IsIn}
use Rattle.wf_model.specs.Grammar.{Grammar, body_of}
use Rattle.wf_model.specs.Run.{Instance, named, made_by, made, names_of, Extends, AllExtend, IsName}
use Rattle.wf_model.proofs.Lists.{in_append_cases, in_map_from}
use Rattle.wf_model.proofs.Runs.{named_names}

module _ (g : Grammar) (m : ℕ) where
  made_first : (e : Event) (a : List Event) → names_of (made g m (e ∷ a)) ≡ names_of (made_by g m e) ++ names_of (made g m a)
  made_first e a = map-append (λ (i : Instance). i.name) (made_by g m e) (made g m a)

-- what a name of a run's instance is
pub made_name : (g : Grammar) (m : ℕ) (b a : List Event) (n : List ℕ) → AllExtend g m b a → IsIn n (names_of (made g m a)) → IsName n
made_name g m b [] n x h = absurd h
made_name g m b (e ∷ a) n x h = go (made_name g m (b ++ e ∷ []) a n x.1) e x.0 (in_append_cases n (names_of (made_by g m e)) (names_of (made g m a)) (subst (IsIn n) (made_first g m e a) h))
  where
    go : (IsIn n (names_of (made g m a)) → IsName n) → (d : Event) → Extends g m b d → IsIn n (names_of (made_by g m d)) ⊎ IsIn n (names_of (made g m a)) → IsName n
    go ih d y (inr k) = ih k
    go ih (Start r) y (inl (inl q)) = subst IsName (sym q) y.1
    go ih (Start r) y (inl (inr q)) = absurd q
    go ih (Expand i p names) y (inl k) = let r = in_map_from (λ (j : Instance). j.name) n (named names (body_of g p)) k in y.good n (subst (λ z. IsIn z names) (sym r.2) (named_names r.0 names (body_of g p) r.1))
