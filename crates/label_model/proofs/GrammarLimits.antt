-- How large the largest numbers of a well-formed grammar can be.
use Rattle.std.proofs.Common.{◌≡◌, ℕ, ◌+◌, ◌*◌, ◌<◌, ◌≤◌, ◌&&◌, true, eqb, List, [], ◌∷◌, length, map, count_by, is_some, refl, ap, inl, inr, arith}
use Rattle.std.proofs.lemmas.List.{length-map}
use Rattle.std.proofs.lemmas.List.Sums.{count_by-le-length}
use Rattle.wf_model.specs.Lists.{IsIn, numbers_from}
use Rattle.wf_model.specs.Grammar.{Grammar, Production, Edge, Position, production_at, module_at, body_of}
use Rattle.wf_model.specs.WellFormed.{IsWellFormed}
use Rattle.wf_model.proofs.Lists.{in_map_from, at_in, at_below, is_at}
use Rattle.wf_model.proofs.Composites.{production_no}
use Rattle.wf_model.proofs.NumberLists.{length-numbers}
use Rattle.label_model.specs.Continuing.{continuing, is_least}
use Rattle.label_model.specs.Bound.{components, cycles, largest, most_alternatives, most_positions, most_edges}
use Rattle.label_model.proofs.Differing.{no_more_below, differ_map}
use Rattle.label_model.proofs.EdgeSources.{sources_differ}
use Rattle.wf_model.specs.Composite.{is_composite}

-- the largest of numbers up to n is at most n
largest_within : (n : ℕ) (ns : List ℕ) → 1 ≤ n → ((k : ℕ) → IsIn k ns → k ≤ n) → largest ns ≤ n
largest_within n [] h each = h
largest_within n (k ∷ ns) h each = let a = each k (inl refl) in let r = largest_within n ns h (λ j i. each j (inr i)) in omega arith

module _ (g : Grammar) (wf : IsWellFormed g) where
  pub few_alternatives : most_alternatives g ≤ 1024
  few_alternatives = largest_within 1024 (map (λ m. count_by (λ (r : Production). eqb r.head m) g.productions) (numbers_from 0 (length g.modules))) (omega arith)
      (λ k i.
      let q = in_map_from (λ m. count_by (λ (r : Production). eqb r.head m) g.productions) k (numbers_from 0 (length g.modules)) i in
      omega (arith, q.2, count_by-le-length (λ (r : Production). eqb r.head q.0) g.productions, wf.few_productions))

  pub few_positions : most_positions g ≤ 64
  few_positions = largest_within 64 (map (λ (r : Production). length r.positions) g.productions) (omega arith)
      (λ k i.
      let q = in_map_from (λ (r : Production). length r.positions) k g.productions i in
      let p = production_no g q.0 q.1 in
      omega (arith, q.2, wf.few_positions p.0 p.1, length-map (production_at g p.0).positions (λ (x : Position). x.module_no), ap (λ (r : Production). length r.positions) p.2))

  -- the edges of a body have sources that differ, so there are no more than 64 times 64
  pub edges_few : (p : ℕ) → p < length g.productions → length (production_at g p).edges ≤ 4096
  edges_few p h =
      let es = (production_at g p).edges in
      let body = wf.bodies p h in
      let code : Edge → ℕ = λ (e : Edge). e.from.position * 64 + e.from.port in
      let small : (e : Edge) → IsIn e es → (e.from.position < 64) × (e.from.port < 64) = λ e i.
      let o = body.edges_from e i in
      let below = at_below o.0 e.from.position (body_of g p) o.1 in
      let m = body.modules o.0 (at_in o.0 e.from.position (body_of g p) o.1) in
      let few = (wf.modules (module_at g o.0) (in_modules o.0 m)).few_outputs in
      (let w : e.from.position < 64 = omega (arith, below, wf.few_positions p h) in w, let w : e.from.port < 64 = omega (arith, o.2, few) in w) in
      let d = differ_map (λ (e : Edge). e.from) code es (sources_differ g wf p h) (λ e f ie if' q. apart e f (small e ie) (small f if') q) in
      let r = no_more_below (λ n. true) 4096 (map code es) d (λ n i. let q = in_map_from code n es i in let s = small q.0 q.1 in (let w : n < 4096 = omega (arith, q.2, s.0, s.1) in w, refl)) in
      omega (arith, r, length-map es code, count_by-le-length (λ n. true) (numbers_from 0 4096), length-numbers 0 4096)
    where
      in_modules : (m : ℕ) → m < length g.modules → IsIn (module_at g m) g.modules
      in_modules m h = at_in (module_at g m) m g.modules (is_at m g.modules (record { name = []; inputs = []; outputs = [] }) h)

      apart : (e f : Edge) → (e.from.position < 64) × (e.from.port < 64) → (f.from.position < 64) × (f.from.port < 64) → e.from.position * 64 + e.from.port ≡ f.from.position * 64 + f.from.port → e.from ≡ f.from
      apart e f a b q =
          let p : e.from.position ≡ f.from.position = omega (arith, a.0, a.1, b.0, b.1, q) in
          let n : e.from.port ≡ f.from.port = omega (arith, a.0, a.1, b.0, b.1, q) in
          λ i. record { position = p i; port = n i }

  pub few_edges : most_edges g ≤ 4096
  few_edges = largest_within 4096 (map (λ (r : Production). length r.edges) g.productions) (omega arith)
      (λ k i.
      let q = in_map_from (λ (r : Production). length r.edges) k g.productions i in
      let p = production_no g q.0 q.1 in
      omega (arith, q.2, edges_few p.0 p.1, ap (λ (r : Production). length r.edges) p.2))

  pub few_components : components g ≤ 1024
  few_components = omega (arith, count_by-le-length (λ m. is_composite g m && is_least g m) (numbers_from 0 (length g.modules)), length-numbers 0 (length g.modules), wf.few_modules)

  pub few_cycles : cycles g ≤ 1024
  few_cycles = omega (arith, count_by-le-length (λ m. is_some (continuing g m) && is_least g m) (numbers_from 0 (length g.modules)), length-numbers 0 (length g.modules), wf.few_modules)
