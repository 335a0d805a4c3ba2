-- The events of a run go into another run too, where all else that the other makes has other names.
use Rattle.std.proofs.Common.{◌≡◌, ℕ, ◌⊎◌, List, [], ◌∷◌, ◌++◌, Option, Some, None, refl, sym, subst, ◌∙◌, inl, inr, ⊎_elim, append_assoc, append-nil}
use Rattle.wf_model.specs.Lists.{IsIn}
use Rattle.wf_model.specs.Grammar.{Grammar}
use Rattle.wf_model.specs.DefaultView.{default_view}
use Rattle.wf_model.specs.declared.event.Event.{Event}
use Rattle.wf_model.specs.declared.event.Event.TheVariants.{Start, Expand}
use Rattle.wf_model.specs.Run.{Instance, Expanded, made, names_of, expanded_by, CanExpand, AllExtend, IsRun}
use Rattle.wf_model.proofs.Runs.{expansion_along, expansion_other, name_in, made_kept, made_new, made_cases, name_kept, name_new, name_cases, run_state}
use Rattle.wf_laws.proofs.Growth.{name_kept_all}

-- what is not made is not expanded
abbrev pub IsShut : Grammar → ℕ → List Event → Type 0
IsShut g m b = (n : List ℕ) → (IsIn n (names_of (made g m b)) → ⊥) → expanded_by b n ≡ None

pub run_shut : (g : Grammar) (m : ℕ) (b : List Event) → IsRun g m b → IsShut g m b
run_shut g m b run n h = go (expanded_by b n) refl
  where
    go : (o : Option Expanded) → expanded_by b n ≡ o → expanded_by b n ≡ None
    go None e = e
    go (Some y) e = absurd (h ((run_state g (default_view g) m b run).expanded_made n y e))

pub shut_more : (g : Grammar) (m : ℕ) (b : List Event) (i : List ℕ) (p : ℕ) (new : List (List ℕ)) → CanExpand g m b i p new → IsShut g m b → IsShut g m (b ++ Expand i p new ∷ [])
shut_more g m b i p new can shut n h =
    expansion_other b i p new n (λ e. h (subst (λ z. IsIn z (names_of (made g m (b ++ Expand i p new ∷ [])))) e (name_kept g m b (Expand i p new) i (name_in _ (made g m b) can.stands)))) ∙
    shut n (λ q. h (name_kept g m b (Expand i p new) n q))

module _ (g : Grammar) (m k : ℕ) (Others : List ℕ → Type 0) where
  -- the events b of a run from m hold the events c of a run from k; the others of b make other names
  pub record Holds (b c : List Event) : Type 0 where
    pub part : (i : Instance) → IsIn i (made g k c) → IsIn i (made g m b)
    pub within : (n : List ℕ) → IsIn n (names_of (made g k c)) → expanded_by b n ≡ expanded_by c n
    pub names : (n : List ℕ) → IsIn n (names_of (made g m b)) → Others n ⊎ IsIn n (names_of (made g k c))
    pub outer_shut : IsShut g m b
    pub inner_shut : IsShut g k c
    pub begun : (n : List ℕ) × IsIn n (names_of (made g k c))

  module _ (b c : List Event) (h : Holds b c) (i : List ℕ) (p : ℕ) (new : List (List ℕ)) (can : CanExpand g k c i p new) where
    outer_can : ((n : List ℕ) → IsIn n new → Others n → ⊥) → CanExpand g m b i p new
    outer_can apart = record {
      in_range = can.in_range;
      stands = h.part _ can.stands;
      open_end = h.within i (name_in _ (made g k c) can.stands) ∙ can.open_end;
      one_each = can.one_each;
      good = can.good;
      differ = can.differ;
      new = λ n q r. ⊎_elim (λ a. apart n q a) (λ a. can.new n q a) (h.names n r);
    }

    one_more : CanExpand g m b i p new → Holds (b ++ Expand i p new ∷ []) (c ++ Expand i p new ∷ [])
    one_more outer = record {
      part = λ j q. ⊎_elim (λ a. made_kept g m b (Expand i p new) j (h.part j a)) (λ a. made_new g m b (Expand i p new) j a) (made_cases g k c (Expand i p new) j q);
      within = λ n q. expansion_along b c (Expand i p new ∷ []) n (⊎_elim (λ a. h.within n a) (λ a. h.outer_shut n (outer.new n a) ∙ sym (h.inner_shut n (can.new n a))) (name_cases g k c i p new n q));
      names = λ n q. ⊎_elim
          (λ a. ⊎_elim (λ z. inl z) (λ z. inr (name_kept g k c (Expand i p new) n z)) (h.names n a))
          (λ a. inr (name_new g k c i p new n can.one_each a))
          (name_cases g m b i p new n q);
      outer_shut = shut_more g m b i p new outer h.outer_shut;
      inner_shut = shut_more g k c i p new can h.inner_shut;
      begun = (h.begun.0, name_kept g k c (Expand i p new) h.begun.0 h.begun.1);
    }

  -- the rest of the run goes in too
  pub goes_in : (rest b c : List Event) → Holds b c → AllExtend g k c rest → ((n : List ℕ) → IsIn n (names_of (made g k (c ++ rest))) → Others n → ⊥) → AllExtend g m b rest × Holds (b ++ rest) (c ++ rest)
  goes_in [] b c h x apart = (tt, subst (λ l. Holds l (c ++ [])) (sym (append-nil b)) (subst (Holds b) (sym (append-nil c)) h))
  goes_in (Start s ∷ rest) b c h x apart = absurd (subst (λ l. IsIn h.begun.0 (names_of (made g k l))) x.0.0 h.begun.1)
  goes_in (Expand i p new ∷ rest) b c h x apart =
      let e = Expand i p new in
      let same : (c ++ Expand i p new ∷ []) ++ rest ≡ c ++ Expand i p new ∷ rest = append_assoc c (Expand i p new ∷ []) rest in
      let later : (n : List ℕ) → IsIn n (names_of (made g k ((c ++ Expand i p new ∷ []) ++ rest))) → Others n → ⊥ = λ n q. apart n (subst (λ l. IsIn n (names_of (made g k l))) same q) in
      let outer = outer_can b c h i p new x.0 (λ n q. later n (name_kept_all g k rest (c ++ Expand i p new ∷ []) n (name_new g k c i p new n x.0.one_each q))) in
      let r = goes_in rest (b ++ Expand i p new ∷ []) (c ++ Expand i p new ∷ []) (one_more b c h i p new x.0 outer) x.1 later in
      ((outer, r.0), subst (λ l. Holds l (c ++ Expand i p new ∷ rest)) (append_assoc b (Expand i p new ∷ []) rest) (subst (λ l. Holds ((b ++ Expand i p new ∷ []) ++ rest) l) same r.1))
