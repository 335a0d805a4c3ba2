-- Which events are below the names of a family, where runs follow one another.
use Rattle.std.proofs.Common.{◌≡◌, ℕ, zero, suc, ◌<◌, cond, List, [], ◌∷◌, ◌++◌, length, flat_map, bytes_eq, refl, sym, ap, ◌∙◌, subst, inl, inr, ⊎_elim, arith, append_assoc, append-nil}
use Rattle.wf_model.specs.Lists.{IsIn, some}
use Rattle.wf_model.specs.Grammar.{Grammar}
use Rattle.wf_model.specs.declared.event.Event.{Event}
use Rattle.wf_model.specs.declared.event.Event.TheVariants.{Start, Expand}
use Rattle.wf_model.specs.Run.{made, names_of, Extends, AllExtend, with_children, below, family}
use Rattle.wf_model.proofs.Lists.{in_append_left, in_append_right, among_from, among_none}
use Rattle.wf_model.proofs.Runs.{name_in, name_kept, name_new, name_cases}
use Rattle.wf_laws.specs.Graft.{after_start, run_at}
use Rattle.wf_laws.proofs.Growth.{name_kept_all}
use Rattle.wf_laws.proofs.Parts.{with_children_cases}

module _ (g : Grammar) (k : ℕ) where
  -- in a run all events are below the names that it has made
  pub all_below : (rest c : List Event) (f : List (List ℕ)) → (n : List ℕ) → IsIn n (names_of (made g k c)) → ((n : List ℕ) → IsIn n (names_of (made g k c)) → IsIn n f) → AllExtend g k c rest → below f rest ≡ rest
  all_below [] c f n begun all x = refl
  all_below (Start s ∷ rest) c f n begun all x = absurd (subst (λ l. IsIn n (names_of (made g k l))) x.0.0 begun)
  all_below (Expand i p new ∷ rest) c f n begun all x =
      ap (λ o. cond o (Expand i p new ∷ []) [] ++ below (cond o (f ++ new) f) rest) (among_from i f (all i (name_in _ (made g k c) x.0.stands))) ∙
      ap (λ l. Expand i p new ∷ l)
      (all_below rest (c ++ Expand i p new ∷ []) (f ++ new) n (name_kept g k c (Expand i p new) n begun)
      (λ j q. ⊎_elim (λ a. in_append_left j f new (all j a)) (λ a. in_append_right j f new a) (name_cases g k c i p new j q)) x.1)

  -- a family of names of a run has names of the run alone
  pub family_made : (rest c : List Event) (f : List (List ℕ)) → ((n : List ℕ) → IsIn n f → IsIn n (names_of (made g k c))) → AllExtend g k c rest → (n : List ℕ) → IsIn n (family f rest) → IsIn n (names_of (made g k (c ++ rest)))
  family_made [] c f all x n h = subst (λ l. IsIn n (names_of (made g k l))) (sym (append-nil c)) (all n h)
  family_made (Start s ∷ rest) c f all x n h =
      subst (λ l. IsIn n (names_of (made g k l))) (append_assoc c (Start s ∷ []) rest) (family_made rest (c ++ Start s ∷ []) f (λ j q. name_kept g k c (Start s) j (all j q)) x.1 n h)
  family_made (Expand i p new ∷ rest) c f all x n h =
      subst (λ l. IsIn n (names_of (made g k l))) (append_assoc c (Expand i p new ∷ []) rest)
      (family_made rest (c ++ Expand i p new ∷ []) (with_children f i new)
      (λ j q. ⊎_elim (λ a. name_kept g k c (Expand i p new) j (all j a)) (λ a. name_new g k c i p new j x.0.one_each a.1) (with_children_cases f i new j q)) x.1 n h)

  -- what a run expands it has made
  pub expands_made : (rest c : List Event) (i : List ℕ) (p : ℕ) (new : List (List ℕ)) → AllExtend g k c rest → IsIn (Expand i p new) rest → IsIn i (names_of (made g k (c ++ rest)))
  expands_made [] c i p new x h = absurd h
  expands_made (e ∷ rest) c i p new x (inl q) = name_kept_all g k (e ∷ rest) c i (name_in _ (made g k c) (subst (Extends g k c) (sym q) x.0).stands)
  expands_made (e ∷ rest) c i p new x (inr q) = subst (λ l. IsIn i (names_of (made g k l))) (append_assoc c (e ∷ []) rest) (expands_made rest (c ++ e ∷ []) i p new x.1 q)

pub below-append : (f : List (List ℕ)) (a b : List Event) → below f (a ++ b) ≡ below f a ++ below (family f a) b
below-append f [] b = refl
below-append f (Start r ∷ a) b = below-append f a b
below-append f (Expand i p new ∷ a) b =
    let first = cond (some (bytes_eq i) f) (Expand i p new ∷ []) [] in
    ap (λ l. first ++ l) (below-append (with_children f i new) a b) ∙ sym (append_assoc first (below (with_children f i new) a) (below (family (with_children f i new) a) b))

-- no event expands one of these names
abbrev pub ExpandsNone : List (List ℕ) → List Event → Type 0
ExpandsNone f events = (i : List ℕ) (p : ℕ) (new : List (List ℕ)) → IsIn (Expand i p new) events → IsIn i f → ⊥

pub passed_by : (f : List (List ℕ)) (events : List Event) → ExpandsNone f events → (below f events ≡ []) × (family f events ≡ f)
passed_by f [] h = (refl, refl)
passed_by f (Start r ∷ events) h = passed_by f events (λ i p new q. h i p new (inr q))
passed_by f (Expand i p new ∷ events) h =
    let e = among_none i f (h i p new (inl refl)) in
    let r = passed_by f events (λ j q other z. h j q other (inr z)) in
    (ap (λ o. cond o (Expand i p new ∷ []) [] ++ below (cond o (f ++ new) f) events) e ∙ r.0, ap (λ o. family (cond o (f ++ new) f) events) e ∙ r.1)

-- of runs that follow one another none expands these names
pub none_below : (f : List (List ℕ)) (runs : List (List Event)) → ((j : ℕ) → j < length runs → ExpandsNone f (after_start (run_at runs j))) → below f (flat_map after_start runs) ≡ []
none_below f [] h = refl
none_below f (d ∷ runs) h =
    let s = passed_by f (after_start d) (h zero (omega arith)) in
    below-append f (after_start d) (flat_map after_start runs) ∙
    (ap (λ l. l ++ below (family f (after_start d)) (flat_map after_start runs)) s.0 ∙ (ap (λ z. below z (flat_map after_start runs)) s.1 ∙ none_below f runs (λ j l. h (suc j) (omega arith))))

-- one alone does
pub one_below : (f : List (List ℕ)) (runs : List (List Event)) (k : ℕ) → k < length runs →
    ((j : ℕ) → j < length runs → (j ≡ k → ⊥) → ExpandsNone f (after_start (run_at runs j))) →
    ((j : ℕ) → j < length runs → (j ≡ k → ⊥) → ExpandsNone (family f (after_start (run_at runs k))) (after_start (run_at runs j))) →
    below f (flat_map after_start runs) ≡ below f (after_start (run_at runs k))
one_below f [] k l before behind = absurd (omega arith)
one_below f (d ∷ runs) zero l before behind =
    below-append f (after_start d) (flat_map after_start runs) ∙
    (ap (λ z. below f (after_start d) ++ z) (none_below (family f (after_start d)) runs (λ j h. behind (suc j) (omega arith) (λ q. absurd (omega arith)))) ∙ append-nil (below f (after_start d)))
one_below f (d ∷ runs) (suc k) l before behind =
    let s = passed_by f (after_start d) (before zero (omega arith) (λ q. absurd (omega arith))) in
    below-append f (after_start d) (flat_map after_start runs) ∙
    (ap (λ l. l ++ below (family f (after_start d)) (flat_map after_start runs)) s.0 ∙
    (ap (λ z. below z (flat_map after_start runs)) s.1 ∙
    one_below f runs k (omega arith) (λ j h n. before (suc j) (omega arith) (λ q. n (omega arith))) (λ j h n. behind (suc j) (omega arith) (λ q. n (omega arith)))))
