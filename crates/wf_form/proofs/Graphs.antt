-- Whether the edges of a body make a cycle.
use Rattle.std.proofs.Common.{◌≡◌, ◌↔◌, ℕ, ◌+◌, ◌<◌, Bool, true, false, ◌&&◌, ◌==◌, List, [], ◌∷◌, ◌++◌, get_or, Vec, refl, sym, ap, ◌∙◌, subst, inl, inr, ⊎_elim, arith, true≢false}
use Rattle.std.specs.declared.alloc.Global.{Global}
use Rattle.std.proofs.lemmas.Bool.{eqb-true, eq-eqb, cases_eq}
use Rattle.wf_model.specs.Lists.{Walk, some}
use Rattle.wf_model.specs.Grammar.{Edge}
use Rattle.wf_model.proofs.Lists.{in_append_left, in_append_right, in_append_cases, some_from, some_gives}
use Rattle.wf_model.proofs.Walks.{walk_through, walk_one}
use Rattle.wf_graph.specs.Graph.{HasEdge, IsReached}
use Rattle.wf_graph.specs.OneMore.{HasOneMore}
use Rattle.wf_form.specs.Graphs.{IsJoined, IsAcyclic}

-- the edges so far, and the next
pub joined_more : (before after : List (Vec ℕ Global)) (edges : List Edge) (e : Edge) → ((a b : ℕ) → HasEdge before a b ↔ IsJoined edges a b) → HasOneMore before e.from.position e.to.position after → (a b : ℕ) → HasEdge after a b ↔ IsJoined (edges ++ e ∷ []) a b
joined_more before after edges e h m a b = (
  λ i. ⊎_elim
      (λ j. let r = (h a b).0 j in (r.0, in_append_left r.0 edges (e ∷ []) r.1, r.2, r.3))
      (λ d. (e, in_append_right e edges (e ∷ []) (inl refl), sym d.0, sym d.1))
      ((m a b).0 i),
  λ r. (m a b).1 (⊎_elim
      (λ i. inl ((h a b).1 (r.0, i, r.2, r.3)))
      (λ i. ⊎_elim (λ d. inr (sym r.2 ∙ ap (λ (z : Edge). z.from.position) d, sym r.3 ∙ ap (λ (z : Edge). z.to.position) d)) (λ z. absurd z) i)
      (in_append_cases r.0 edges (e ∷ []) r.1)),
)

-- an edge leads to a position from a marked one
abbrev pub leads_to : ℕ → List Bool → Edge → Bool
leads_to k marks e = (e.to.position == k) && get_or marks e.from.position false

leads_gives : (k : ℕ) (marks : List Bool) (e : Edge) → leads_to k marks e ≡ true → (e.to.position ≡ k) × (get_or marks e.from.position false ≡ true)
leads_gives k marks e h = go (e.to.position == k) refl h
  where
    go : (t : Bool) → (e.to.position == k) ≡ t → (t && get_or marks e.from.position false) ≡ true → (e.to.position ≡ k) × (get_or marks e.from.position false ≡ true)
    go true d m = (eqb-true e.to.position k d, m)
    go false d m = absurd (true≢false (sym m))

leads_from : (k : ℕ) (marks : List Bool) (e : Edge) → e.to.position ≡ k → get_or marks e.from.position false ≡ true → leads_to k marks e ≡ true
leads_from k marks e d m = ap (λ t. t && get_or marks e.from.position false) (eq-eqb e.to.position k d) ∙ m

-- an edge that leads back to where a search began makes a cycle
pub cycle_found : (graph : List (Vec ℕ Global)) (edges : List Edge) (k : ℕ) (marks : List Bool) → ((a b : ℕ) → HasEdge graph a b ↔ IsJoined edges a b) → ((v : ℕ) → (get_or marks v false ≡ true) ↔ IsReached graph k v) → some (leads_to k marks) edges ≡ true → IsAcyclic edges → ⊥
cycle_found graph edges k marks same reached h acyclic =
    let r = some_gives (leads_to k marks) edges h in
    let e = r.0 in
    let l = leads_gives k marks e r.2 in
    let w = (reached e.from.position).0 l.1 in
    acyclic e.from.position k (e, r.1, refl, l.0) (walk_through (λ z. z) (λ x y i. walk_one ((same x y).0 i)) w)

-- where no edge does, no cycle goes through it
pub no_cycle_at : (graph : List (Vec ℕ Global)) (edges : List Edge) (k : ℕ) (marks : List Bool) → ((a b : ℕ) → HasEdge graph a b ↔ IsJoined edges a b) → ((v : ℕ) → (get_or marks v false ≡ true) ↔ IsReached graph k v) → some (leads_to k marks) edges ≡ false → (a b : ℕ) → b ≡ k → IsJoined edges a b → Walk (IsJoined edges) b a → ⊥
no_cycle_at graph edges k marks same reached h a b d j w =
    let back : IsReached graph b a = walk_through (λ z. z) (λ x y i. walk_one ((same x y).1 i)) w in
    let marked = (reached a).1 (subst (λ z. IsReached graph z a) d back) in
    let t = leads_from k marks j.0 (j.3 ∙ d) (ap (λ z. get_or marks z false) j.2 ∙ marked) in
    true≢false (sym (some_from (leads_to k marks) j.0 edges j.1 t) ∙ h)

pub no_cycle_below : (edges : List Edge) (k : ℕ) → ((a b : ℕ) → b < k → IsJoined edges a b → Walk (IsJoined edges) b a → ⊥) → ((a b : ℕ) → b ≡ k → IsJoined edges a b → Walk (IsJoined edges) b a → ⊥) → (a b : ℕ) → b < k + 1 → IsJoined edges a b → Walk (IsJoined edges) b a → ⊥
no_cycle_below edges k before here a b h = ⊎_elim (λ e. here a b e) (λ e. let l : b < k = omega (arith, e) in before a b l) (cases_eq b k)
