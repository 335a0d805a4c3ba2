-- Words of the ports of one position, from those of the positions before it.
use Rattle.std.proofs.Common.{◌≡◌, ◌↔◌, ℕ, ◌+◌, ◌<◌, ◌⊎◌, ◌++◌, IsTrue, List, [], ◌∷◌, map, length, get_or, take, Option, refl, sym, ap, ◌∙◌, subst, inl, inr, ⊎_elim, arith}
use Rattle.wf_model.specs.declared.body.Edge.{Edge as EdgeHeld}
use Rattle.wf_model.specs.declared.numbers.PosNo.{PosNo}
use Rattle.wf_model.specs.Lists.{IsIn}
use Rattle.wf_model.specs.Grammar.{Grammar, Inner, Edge, production_at, body_of}
use Rattle.wf_model.specs.Meaning.{edge_of}
use Rattle.wf_model.specs.WellFormed.{IsWellFormed}
use Rattle.wf_model.proofs.Lists.{in_append_left, in_append_right, in_append_cases, at_below}
use Rattle.wf_spec.proofs.Graphs.{edge_there, edges_more}
use Rattle.bool_mat.specs.Matrix.{has}
use Rattle.wf_body.specs.Body.{at_port}
use Rattle.wf_body.specs.Words.{AreInputs, AreLeading, Enters, Gains, word_at}
use Rattle.wf_body.proofs.Feeding.{IsSmall, edge_small}

-- the words of inputs, by the entries and by some of the edges
abbrev pub ReachBy : Grammar → ℕ → Option PosNo → ℕ → List (List ℕ) → List Edge → List ℕ → Type 0
ReachBy g p from k outs es row = (j x : ℕ) → IsTrue (has (get_or row j 0) x) ↔
    (Enters g p from k j x ⊎ ((e : Edge) × IsIn e es × (e.to.port ≡ j) × IsTrue (has (word_at outs e.from.position e.from.port) x)))

pub reach_none : (g : Grammar) (p k : ℕ) (from : Option PosNo) (outs : List (List ℕ)) (row : List ℕ) → ((j x : ℕ) → IsTrue (has (get_or row j 0) x) ↔ Enters g p from k j x) → ReachBy g p from k outs [] row
reach_none g p k from outs row h j x = ((λ t. inl ((h j x).0 t)), λ s. ⊎_elim (λ a. (h j x).1 a) (λ b. absurd b.1) s)

reach_more : (g : Grammar) (p k : ℕ) (from : Option PosNo) (outs : List (List ℕ)) (es : List Edge) (e : Edge) (old new : List ℕ) (word : ℕ) → ReachBy g p from k outs es old → Gains old e.to.port word new → word ≡ word_at outs e.from.position e.from.port → ReachBy g p from k outs (es ++ e ∷ []) new
reach_more g p k from outs es e old new word h w q j x = (
  (λ t. ⊎_elim
      (λ a. ⊎_elim (λ b. inl b) (λ b. inr (b.0, in_append_left b.0 es (e ∷ []) b.1, b.2, b.3)) ((h j x).0 a))
      (λ a. inr (e, in_append_right e es (e ∷ []) (inl refl), sym a.0, subst (λ z. IsTrue (has z x)) q a.1))
      ((w j x).0 t)),
  λ s. (w j x).1 (⊎_elim
      (λ b. inl ((h j x).1 (inl b)))
      (λ b. ⊎_elim
      (λ i. inl ((h j x).1 (inr (b.0, i, b.2, b.3))))
      (λ i. ⊎_elim
      (λ d. inr (sym b.2 ∙ ap (λ (z : Edge). z.to.port) d, subst (λ z. IsTrue (has z x)) (sym q) (subst (λ (z : Edge). IsTrue (has (word_at outs z.from.position z.from.port) x)) d b.3)))
      (λ z. absurd z) i)
      (in_append_cases b.0 es (e ∷ []) b.1))
      s),
)

pub reach_next : (g : Grammar) (p k : ℕ) (from : Option PosNo) (outs : List (List ℕ)) (xs : List EdgeHeld) (n : ℕ) (d : EdgeHeld) (old new : List ℕ) (word : ℕ) → n < length xs → ReachBy g p from k outs (map edge_of (take n xs)) old → Gains old (get_or xs n d).to.port.0 word new → word ≡ word_at outs (get_or xs n d).from.pos.0 (get_or xs n d).from.port.0 → ReachBy g p from k outs (map edge_of (take (n + 1) xs)) new
reach_next g p k from outs xs n d old new word l h w q =
    subst (λ es. ReachBy g p from k outs es new) (sym (edges_more xs n d l)) (reach_more g p k from outs (map edge_of (take n xs)) (edge_of (get_or xs n d)) old new word h w q)

-- by all edges that lead to the position
pub reach_all : (g : Grammar) (p k : ℕ) (from : Option PosNo) (outs : List (List ℕ)) (es : List Edge) (row : List ℕ) → AreLeading g p k es → ReachBy g p from k outs es row → AreInputs g p from k outs row
reach_all g p k from outs es row l h j x = (
  (λ t. ⊎_elim (λ a. inl a) (λ b. let m = (l b.0).0 b.1 in inr (b.0, m.0, port_is b.0.to k j m.1 b.2, b.3)) ((h j x).0 t)),
  λ s. (h j x).1 (⊎_elim (λ a. inl a) (λ b. inr (b.0, (l b.0).1 (b.1, ap (λ (z : Inner). z.position) b.2), ap (λ (z : Inner). z.port) b.2, b.3)) s),
)
  where
    port_is : (i : Inner) (k j : ℕ) → i.position ≡ k → i.port ≡ j → i ≡ at_port k j
    port_is i k j e f = ap (λ z. at_port z i.port) e ∙ ap (λ z. at_port k z) f

-- an edge that leads to the position
pub leading_edge : (g : Grammar) (p k : ℕ) (xs : List EdgeHeld) (n : ℕ) (d : EdgeHeld) → AreLeading g p k (map edge_of xs) → n < length xs → IsIn (edge_of (get_or xs n d)) (production_at g p).edges
leading_edge g p k xs n d l h = ((l (edge_of (get_or xs n d))).0 (edge_there xs n d h)).0

pub leads_within : (g : Grammar) (p k : ℕ) (xs : List EdgeHeld) (n : ℕ) (d : EdgeHeld) (outs : List (List ℕ)) → IsWellFormed g → p < length g.productions → AreLeading g p k (map edge_of xs) → n < length xs → length outs ≡ length (body_of g p) → (get_or xs n d).from.pos.0 < length outs
leads_within g p k xs n d outs wf h l b e =
    let t = (wf.bodies p h).edges_from (edge_of (get_or xs n d)) (leading_edge g p k xs n d l b) in
    let a = at_below t.0 (get_or xs n d).from.pos.0 (body_of g p) t.1 in
    omega arith

pub leads_small : (g : Grammar) (p k : ℕ) (xs : List EdgeHeld) (n : ℕ) (d : EdgeHeld) → IsWellFormed g → p < length g.productions → AreLeading g p k (map edge_of xs) → n < length xs → IsSmall (edge_of (get_or xs n d))
leads_small g p k xs n d wf h l b = edge_small g p (edge_of (get_or xs n d)) wf h (leading_edge g p k xs n d l b)
