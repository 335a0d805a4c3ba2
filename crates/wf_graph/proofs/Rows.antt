-- Graphs that are made row by row: a row for each vertex, in order.
use Rattle.std.proofs.Common.{◌≡◌, ◌↔◌, ◌⊎◌, ℕ, zero, suc, ◌+◌, ◌<◌, ◌≤◌, List, [], ◌∷◌, ◌++◌, length, Vec, refl, sym, ◌∙◌, subst, ⊎_elim, arith, length-append}
use Rattle.std.specs.declared.alloc.Global.{Global}
use Rattle.wf_model.specs.Lists.{IsIn}
use Rattle.wf_graph.specs.Graph.{nexts, HasEdge}

nexts-append_before : (graph : List (Vec ℕ Global)) (row : Vec ℕ Global) (a : ℕ) → a < length graph → nexts (graph ++ row ∷ []) a ≡ nexts graph a
nexts-append_before [] row a h = absurd (omega arith)
nexts-append_before (x ∷ graph) row zero h = refl
nexts-append_before (x ∷ graph) row (suc a) h = let r : a < length graph = omega arith in nexts-append_before graph row a r

nexts-append_last : (graph : List (Vec ℕ Global)) (row : Vec ℕ Global) (a : ℕ) → a ≡ length graph → nexts (graph ++ row ∷ []) a ≡ row.items
nexts-append_last [] row zero e = refl
nexts-append_last [] row (suc a) e = absurd (omega arith)
nexts-append_last (x ∷ graph) row zero e = absurd (omega arith)
nexts-append_last (x ∷ graph) row (suc a) e = let r : a ≡ length graph = omega arith in nexts-append_last graph row a r

nexts_past : (graph : List (Vec ℕ Global)) (a : ℕ) → length graph ≤ a → nexts graph a ≡ []
nexts_past [] a h = refl
nexts_past (x ∷ graph) zero h = absurd (omega arith)
nexts_past (x ∷ graph) (suc a) h = let r : length graph ≤ a = omega arith in nexts_past graph a r

-- the rows so far, and the next
pub rows_more : (R : ℕ → ℕ → Type 0) (n : ℕ) (graph new : List (Vec ℕ Global)) (row : Vec ℕ Global) → length graph ≡ n → ((a b : ℕ) → HasEdge graph a b ↔ ((a < n) × R a b)) → ((b : ℕ) → IsIn b row.items ↔ R n b) → new ≡ graph ++ row ∷ []
    → (a b : ℕ) → HasEdge new a b ↔ ((a < n + 1) × R a b)
rows_more R n graph new row len edges next is a b =
    subst (λ (l : List (Vec ℕ Global)). HasEdge l a b ↔ ((a < n + 1) × R a b)) (sym is) (⊎_elim (λ h. before h) (λ s. ⊎_elim (λ e. last e) (λ h. past h) s) cases)
  where
    cases : (a < n) ⊎ ((a ≡ n) ⊎ (n < a))
    cases = grind arith

    before : a < n → HasEdge (graph ++ row ∷ []) a b ↔ ((a < n + 1) × R a b)
    before h =
        let l : a < length graph = omega arith in
        let e = nexts-append_before graph row a l in (
          λ i. (omega arith, ((edges a b).0 (subst (IsIn b) e i)).1),
          λ d. subst (IsIn b) (sym e) ((edges a b).1 (h, d.1)),
        )

    last : a ≡ n → HasEdge (graph ++ row ∷ []) a b ↔ ((a < n + 1) × R a b)
    last d =
        let e = nexts-append_last graph row a (d ∙ sym len) in (
          λ i. (omega arith, subst (λ k. R k b) (sym d) ((next b).0 (subst (IsIn b) e i))),
          λ r. subst (IsIn b) (sym e) ((next b).1 (subst (λ k. R k b) d r.1)),
        )

    past : n < a → HasEdge (graph ++ row ∷ []) a b ↔ ((a < n + 1) × R a b)
    past h =
        let l = length-append graph (row ∷ []) in
        let q : length (graph ++ row ∷ []) ≤ a = omega arith in
        let e = nexts_past (graph ++ row ∷ []) a q in (
          λ i. absurd (subst (IsIn b) e i),
          λ d. absurd (let k = d.0 in omega arith),
        )
