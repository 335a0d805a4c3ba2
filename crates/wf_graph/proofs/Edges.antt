-- Graphs that are made edge by edge.
use Rattle.std.proofs.Common.{◌≡◌, ◌↔◌, ℕ, zero, suc, ◌<◌, ◌⊎◌, List, [], ◌∷◌, ◌++◌, length, get_or, set, Vec, refl, sym, ap, ◌∙◌, subst, inl, inr, ⊎_elim, arith}
use Rattle.std.specs.declared.alloc.Global.{Global}
use Rattle.std.proofs.lemmas.Bool.{cases_eq}
use Rattle.wf_model.specs.Lists.{IsIn}
use Rattle.wf_model.proofs.Lists.{in_append_left, in_append_right, in_append_cases}
use Rattle.wf_graph.specs.Graph.{nexts, HasEdge}
use Rattle.wf_graph.specs.OneMore.{HasOneMore}
use Rattle.wf_graph.proofs.Searching.{nexts_read}

pub nexts-set_same : (graph : List (Vec ℕ Global)) (v : ℕ) (new : Vec ℕ Global) → v < length graph → nexts (set graph v new) v ≡ new.items
nexts-set_same [] v new h = absurd (omega arith)
nexts-set_same (x ∷ graph) zero new h = refl
nexts-set_same (x ∷ graph) (suc v) new h = let r : v < length graph = omega arith in nexts-set_same graph v new r

pub nexts-set_other : (graph : List (Vec ℕ Global)) (v w : ℕ) (new : Vec ℕ Global) → (w ≡ v → ⊥) → nexts (set graph v new) w ≡ nexts graph w
nexts-set_other [] v w new h = refl
nexts-set_other (x ∷ graph) zero zero new h = absurd (h refl)
nexts-set_other (x ∷ graph) zero (suc w) new h = refl
nexts-set_other (x ∷ graph) (suc v) zero new h = refl
nexts-set_other (x ∷ graph) (suc v) (suc w) new h = nexts-set_other graph v w new (λ e. h (ap suc e))

-- a list of vertices gets one more
pub edge_more : (graph : List (Vec ℕ Global)) (v b : ℕ) (old new : Vec ℕ Global) → v < length graph → old ≡ get_or graph v old → new.items ≡ old.items ++ b ∷ [] → HasOneMore graph v b (set graph v new)
edge_more graph v b old new h was now = λ x y. ⊎_elim (at_it x y) (at_other x y) (cases_eq x v)
  where
    list : nexts (set graph v new) v ≡ nexts graph v ++ b ∷ []
    list = nexts-set_same graph v new h ∙ (now ∙ ap (λ l. l ++ b ∷ []) (sym (nexts_read graph v old h was)))

    at_it : (x y : ℕ) → x ≡ v → HasEdge (set graph v new) x y ↔ (HasEdge graph x y ⊎ ((x ≡ v) × (y ≡ b)))
    at_it x y e = (
      λ i. ⊎_elim
          (λ j. inl (subst (λ z. HasEdge graph z y) (sym e) j))
          (λ j. ⊎_elim (λ d. inr (e, d)) (λ z. absurd z) j)
          (in_append_cases y (nexts graph v) (b ∷ []) (subst (IsIn y) list (subst (λ z. HasEdge (set graph v new) z y) e i))),
      λ s. subst (λ z. HasEdge (set graph v new) z y) (sym e) (subst (IsIn y) (sym list)
          (⊎_elim (λ i. in_append_left y (nexts graph v) (b ∷ []) (subst (λ z. HasEdge graph z y) e i)) (λ d. in_append_right y (nexts graph v) (b ∷ []) (inl d.1)) s)),
    )

    at_other : (x y : ℕ) → (x ≡ v → ⊥) → HasEdge (set graph v new) x y ↔ (HasEdge graph x y ⊎ ((x ≡ v) × (y ≡ b)))
    at_other x y e = (
      λ i. inl (subst (IsIn y) (nexts-set_other graph v x new e) i),
      λ s. ⊎_elim (λ i. subst (IsIn y) (sym (nexts-set_other graph v x new e)) i) (λ d. absurd (e d.0)) s,
    )

-- a new vertex leads nowhere
pub none_more : (graph : List (Vec ℕ Global)) (new : Vec ℕ Global) → new.items ≡ [] → ((a b : ℕ) → HasEdge graph a b → ⊥) → (a b : ℕ) → HasEdge (graph ++ new ∷ []) a b → ⊥
none_more [] new e h zero b i = subst (IsIn b) e i
none_more [] new e h (suc a) b i = i
none_more (x ∷ graph) new e h zero b i = h zero b i
none_more (x ∷ graph) new e h (suc a) b i = none_more graph new e (λ c d. h (suc c) d) a b i
