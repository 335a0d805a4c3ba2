-- Edges and the ports of a well-formed body, and words to which edges add.
use Rattle.std.proofs.Common.{◌≡◌, ◌↔◌, ℕ, zero, suc, ◌+◌, ◌<◌, ◌≤◌, ◌⊎◌, IsTrue, List, [], ◌∷◌, ◌++◌, map, length, get_or, take, replicate, refl, sym, ap, ◌∙◌, subst, inl, inr, ⊎_elim, arith}
use Rattle.std.proofs.lemmas.Bool.{cases_lt}
use Rattle.std.proofs.lemmas.List.{get_or-replicate}
use Rattle.wf_model.specs.declared.body.Edge.{Edge as EdgeHeld}
use Rattle.wf_model.specs.Lists.{IsIn, IsAt}
use Rattle.wf_model.specs.Grammar.{Grammar, Edge, production_at, inputs_of, outputs_of, module_at, body_of}
use Rattle.wf_model.specs.Meaning.{edge_of}
use Rattle.wf_model.specs.WellFormed.{IsWellFormed}
use Rattle.wf_model.proofs.Lists.{in_append_left, in_append_right, in_append_cases, at_below, at_in, is_at}
use Rattle.wf_spec.proofs.Graphs.{edge_there, edges_more}
use Rattle.bool_mat.specs.Matrix.{has}
use Rattle.bool_mat.proofs.Rows.{has_none}
use Rattle.wf_body.specs.Words.{Gains}

-- words without bits
pub no_bits : (n j x : ℕ) → IsTrue (has (get_or (replicate {A = ℕ} n 0) j 0) x) → ⊥
no_bits n j x h = has_none x (subst (λ z. IsTrue (has z x)) (zero_at (cases_lt j n)) h)
  where
    zero_at : ((j < n) ⊎ (n ≤ j)) → get_or (replicate {A = ℕ} n 0) j 0 ≡ 0
    zero_at (inl l) = get_or-replicate n j 0 0 l
    zero_at (inr l) = get_or-replicate_past n j l
      where
        get_or-replicate_past : (n j : ℕ) → n ≤ j → get_or (replicate {A = ℕ} n 0) j 0 ≡ 0
        get_or-replicate_past zero j l = refl
        get_or-replicate_past (suc n) zero l = absurd (omega arith)
        get_or-replicate_past (suc n) (suc j) l = let l' : n ≤ j = omega arith in get_or-replicate_past n j l'

-- bit a of word k tells that one of the edges leads from position a to position k
abbrev pub FedBy : List Edge → List ℕ → Type 0
FedBy edges words = (k a : ℕ) → IsTrue (has (get_or words k 0) a) ↔ ((e : Edge) × IsIn e edges × (e.from.position ≡ a) × (e.to.position ≡ k))

pub fed_none : FedBy [] (replicate {A = ℕ} 64 0)
fed_none k a = ((λ t. absurd (no_bits 64 k a t)), λ r. absurd r.1)

pub fed_more : (edges : List Edge) (e : Edge) (old new : List ℕ) (word : ℕ) → FedBy edges old → Gains old e.to.position word new → ((x : ℕ) → IsTrue (has word x) ↔ (x ≡ e.from.position)) → FedBy (edges ++ e ∷ []) new
fed_more edges e old new word f g w k a = (
  (λ t. ⊎_elim
      (λ b. let r = (f k a).0 b in (r.0, in_append_left r.0 edges (e ∷ []) r.1, r.2, r.3))
      (λ b. (e, in_append_right e edges (e ∷ []) (inl refl), sym ((w a).0 b.1), sym b.0))
      ((g k a).0 t)),
  λ r. (g k a).1 (⊎_elim
      (λ i. inl ((f k a).1 (r.0, i, r.2, r.3)))
      (λ i. ⊎_elim (λ d. inr (sym r.3 ∙ ap (λ (z : Edge). z.to.position) d, (w a).1 (sym r.2 ∙ ap (λ (z : Edge). z.from.position) d))) (λ z. absurd z) i)
      (in_append_cases r.0 edges (e ∷ []) r.1)),
)

-- ports of positions are below 64
pub few_at : (g : Grammar) (p m k : ℕ) → IsWellFormed g → p < length g.productions → IsAt m k (body_of g p) → (k < 64) × (m < length g.modules) × (inputs_of g m ≤ 64) × (outputs_of g m ≤ 64)
few_at g p m k wf h a =
    let few = wf.few_positions p h in
    let b = at_below m k (body_of g p) a in
    let there = (wf.bodies p h).modules m (at_in m k (body_of g p) a) in
    let w = wf.modules (module_at g m) (at_in (module_at g m) m g.modules (is_at m g.modules _ there)) in
    (omega arith, there, w.few_inputs, w.few_outputs)

pub record IsSmall (e : Edge) : Type 0 where
  pub from : e.from.position < 64
  pub from_port : e.from.port < 64
  pub to : e.to.position < 64
  pub to_port : e.to.port < 64

pub edge_small : (g : Grammar) (p : ℕ) (e : Edge) → IsWellFormed g → p < length g.productions → IsIn e (production_at g p).edges → IsSmall e
edge_small g p e wf h i =
    let f = (wf.bodies p h).edges_from e i in
    let t = (wf.bodies p h).edges_to e i in
    let a = few_at g p f.0 e.from.position wf h f.1 in
    let b = few_at g p t.0 e.to.position wf h t.1 in
    let fp : e.from.port < outputs_of g f.0 = f.2 in
    let fo : outputs_of g f.0 ≤ 64 = a.3 in
    let tp : e.to.port < inputs_of g t.0 = t.2 in
    let ti : inputs_of g t.0 ≤ 64 = b.2 in
    record { from = a.0; from_port = omega arith; to = b.0; to_port = omega arith }

-- the edge at a place of the held list
pub held_small : (g : Grammar) (p : ℕ) (xs : List EdgeHeld) (n : ℕ) (d : EdgeHeld) → IsWellFormed g → p < length g.productions → map edge_of xs ≡ (production_at g p).edges → n < length xs → IsSmall (edge_of (get_or xs n d))
held_small g p xs n d wf h same b = edge_small g p (edge_of (get_or xs n d)) wf h (subst (IsIn (edge_of (get_or xs n d))) same (edge_there xs n d b))

-- one held edge more
pub fed_next : (xs : List EdgeHeld) (n : ℕ) (d : EdgeHeld) (old new : List ℕ) (word : ℕ) → n < length xs → FedBy (map edge_of (take n xs)) old → Gains old (get_or xs n d).to.pos.0 word new → ((x : ℕ) → IsTrue (has word x) ↔ (x ≡ (get_or xs n d).from.pos.0)) → FedBy (map edge_of (take (n + 1) xs)) new
fed_next xs n d old new word h f g w = subst (λ es. FedBy es new) (sym (edges_more xs n d h)) (fed_more (map edge_of (take n xs)) (edge_of (get_or xs n d)) old new word f g w)

-- an edge leads to a position
pub held_within : (g : Grammar) (p : ℕ) (xs : List EdgeHeld) (n : ℕ) (d : EdgeHeld) → IsWellFormed g → p < length g.productions → map edge_of xs ≡ (production_at g p).edges → n < length xs → (get_or xs n d).to.pos.0 < length (body_of g p)
held_within g p xs n d wf h same b =
    let t = (wf.bodies p h).edges_to (edge_of (get_or xs n d)) (subst (IsIn (edge_of (get_or xs n d))) same (edge_there xs n d b)) in
    at_below t.0 (get_or xs n d).to.pos.0 (body_of g p) t.1
