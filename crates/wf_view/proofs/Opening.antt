-- The graph in which each expanded module leads to the modules of its bodies, and what is reached in it.
use Rattle.std.proofs.Common.{◌≡◌, ◌↔◌, ℕ, ◌<◌, Bool, true, false, List, Vec, length, get_or, refl, sym, ap, ◌∙◌, subst}
use Rattle.std.specs.declared.alloc.Global.{Global}
use Rattle.wf_model.specs.Lists.{Walk, here, onward}
use Rattle.wf_model.specs.Grammar.{Grammar, head_of}
use Rattle.wf_model.specs.Proper.{Makes}
use Rattle.wf_model.specs.View.{View, expands, IsSeenModule, at_start, in_body}
use Rattle.wf_model.specs.WellFormed.{IsWellFormed}
use Rattle.wf_model.proofs.Walks.{walk-append, walk_one}
use Rattle.wf_graph.specs.Graph.{HasEdge, IsReached}

-- a module is expanded, and another stands in one of its bodies
abbrev pub Opens : Grammar → List Bool → ℕ → ℕ → Type 0
Opens g marks a b = (get_or marks a false ≡ true) × Makes g a b

-- what stands in a body is a module
pub opened_below : (g : Grammar) → IsWellFormed g → (marks : List Bool) (a b : ℕ) → Opens g marks a b → b < length g.modules
opened_below g w marks a b o = let d = o.1 in (w.bodies d.0 d.1.0).modules b d.2

pub opening_below : (g : Grammar) → IsWellFormed g → (marks : List Bool) (a b : ℕ) → Opens g marks a b → a < length g.modules
opening_below g w marks a b o = let d = o.1 in subst (λ k. k < length g.modules) d.1.1 (w.heads d.0 d.1.0)

-- the modules that are reached from the start module are those that are seen
pub reached_seen : (g : Grammar) (marks : List Bool) (graph : List (Vec ℕ Global)) (from : ℕ) → from ≡ g.start → ((a b : ℕ) → HasEdge graph a b ↔ Opens g marks a b)
    → (u : View) → ((m : ℕ) → expands u m ≡ get_or marks m false) → (m : ℕ) → IsReached graph from m ↔ IsSeenModule g u m
reached_seen g marks graph from begins edges u same m = ((λ w. there w (at_start begins)), back)
  where
    there : {x y : ℕ} → Walk (HasEdge graph) x y → IsSeenModule g u x → IsSeenModule g u y
    there here s = s
    there (onward {x = x} {y = z} e w) s =
        let o = (edges x z).0 e in
        let p = o.1 in
        there w (in_body p.0 p.1.0 (subst (IsSeenModule g u) (sym p.1.1) s) (ap (expands u) p.1.1 ∙ (same x ∙ o.0)) p.2)

    back : {n : ℕ} → IsSeenModule g u n → IsReached graph from n
    back (at_start {m = n} e) = subst (IsReached graph from) (begins ∙ sym e) here
    back (in_body {m = n} p below s opened i) =
        walk-append (back s) (walk_one ((edges (head_of g p) n).1 (sym (same (head_of g p)) ∙ opened, (p, (below, refl), i))))
