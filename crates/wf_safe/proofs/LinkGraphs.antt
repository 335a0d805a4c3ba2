-- Graphs of links that are made link by link.
use Rattle.std.proofs.Common.{◌≡◌, ℕ, ◌⊎◌, List, [], ◌∷◌, ◌++◌, length, Option, Vec, refl, sym, ◌∙◌, subst, inl, inr, ⊎_elim}
use Rattle.std.specs.declared.alloc.Global.{Global}
use Rattle.wf_model.specs.Links.{Link}
use Rattle.wf_model.proofs.Lists.{in_append_left, in_append_right, in_append_cases}
use Rattle.wf_graph.specs.Graph.{HasEdge}
use Rattle.wf_graph.specs.OneMore.{HasOneMore}
use Rattle.wf_safe.specs.BodyGraph.{AddsLinks, IsGraphOf, Leads, vertex_of}

leads_left : (xs ys : List (Link (Option ℕ))) (a b : ℕ) → Leads xs a b → Leads (xs ++ ys) a b
leads_left xs ys a b l = (l.0, in_append_left l.0 xs ys l.1, l.2, l.3)

leads_right : (xs ys : List (Link (Option ℕ))) (a b : ℕ) → Leads ys a b → Leads (xs ++ ys) a b
leads_right xs ys a b l = (l.0, in_append_right l.0 xs ys l.1, l.2, l.3)

leads_cases : (xs ys : List (Link (Option ℕ))) (a b : ℕ) → Leads (xs ++ ys) a b → Leads xs a b ⊎ Leads ys a b
leads_cases xs ys a b l = ⊎_elim (λ i. inl (l.0, i, l.2, l.3)) (λ i. inr (l.0, i, l.2, l.3)) (in_append_cases l.0 xs ys l.1)

pub adds_none : (graph : List (Vec ℕ Global)) → AddsLinks [] graph graph
adds_none graph = record { count = refl; edges = λ a b. ((λ e. inl e), λ s. ⊎_elim (λ e. e) (λ l. absurd l.1) s) }

pub adds_one : (l : Link (Option ℕ)) (before after : List (Vec ℕ Global)) → length after ≡ length before → HasOneMore before (vertex_of l.from) (vertex_of l.to) after → AddsLinks (l ∷ []) before after
adds_one l before after same more = record {
  count = same;
  edges = λ a b. (
    (λ e. ⊎_elim (λ i. inl i) (λ d. inr (l, inl refl, sym d.0, sym d.1)) ((more a b).0 e)),
    λ s. (more a b).1 (⊎_elim (λ i. inl i) (λ k. inr (one a b k)) s),
  );
}
  where
    one : (a b : ℕ) → Leads (l ∷ []) a b → (a ≡ vertex_of l.from) × (b ≡ vertex_of l.to)
    one a b k = ⊎_elim
        (λ e. (sym (subst (λ (z : Link (Option ℕ)). vertex_of z.from ≡ a) e k.2), sym (subst (λ (z : Link (Option ℕ)). vertex_of z.to ≡ b) e k.3)))
        (λ z. absurd z) k.1

pub adds_both : (xs ys : List (Link (Option ℕ))) (before between after : List (Vec ℕ Global)) → AddsLinks xs before between → AddsLinks ys between after → AddsLinks (xs ++ ys) before after
adds_both xs ys before between after f s = record {
  count = s.count ∙ f.count;
  edges = λ a b. (
    (λ e. ⊎_elim
        (λ i. ⊎_elim (λ j. inl j) (λ l. inr (leads_left xs ys a b l)) ((f.edges a b).0 i))
        (λ l. inr (leads_right xs ys a b l))
        ((s.edges a b).0 e)),
    λ r. (s.edges a b).1 (⊎_elim
        (λ i. inl ((f.edges a b).1 (inl i)))
        (λ l. ⊎_elim (λ k. inl ((f.edges a b).1 (inr k))) (λ k. inr k) (leads_cases xs ys a b l))
        r),
  );
}

-- what is left of the links makes of this graph one that has all of them more than the first
abbrev pub Completes : List (Link (Option ℕ)) → List (Link (Option ℕ)) → List (Vec ℕ Global) → List (Vec ℕ Global) → Type 0
Completes left all first graph = (last : List (Vec ℕ Global)) → AddsLinks left graph last → AddsLinks all first last

-- some of them were added
pub completes_more : (left some less all : List (Link (Option ℕ))) (first graph next : List (Vec ℕ Global)) → left ≡ some ++ less → AddsLinks some graph next → Completes left all first graph → Completes less all first next
completes_more left some less all first graph next e a c = λ last h. c last (subst (λ l. AddsLinks l graph last) (sym e) (adds_both some less graph next last a h))

-- none are left
pub completes_all : (left all : List (Link (Option ℕ))) (first graph : List (Vec ℕ Global)) → left ≡ [] → Completes left all first graph → AddsLinks all first graph
completes_all left all first graph e c = c graph (subst (λ l. AddsLinks l graph graph) (sym e) (adds_none graph))

-- all links of a graph that began without edges
pub graph_of : (ls : List (Link (Option ℕ))) (first last : List (Vec ℕ Global)) → ((a b : ℕ) → HasEdge first a b → ⊥) → AddsLinks ls first last → IsGraphOf ls last
graph_of ls first last none a = λ x y. ((λ e. ⊎_elim (λ i. absurd (none x y i)) (λ l. l) ((a.edges x y).0 e)), λ l. (a.edges x y).1 (inr l))
