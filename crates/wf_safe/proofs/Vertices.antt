-- The vertices of the ports of a body, and walks along them.
use Rattle.std.proofs.Common.{◌≡◌, ◌↔◌, ℕ, ◌+◌, ◌<◌, ◌≤◌, List, length, Option, Some, None, Vec, refl, sym, ap, ◌∙◌, subst, inl, inr, ⊎_elim, arith}
use Rattle.std.specs.declared.alloc.Global.{Global}
use Rattle.wf_model.specs.declared.numbers.Side.{Side}
use Rattle.wf_model.specs.declared.numbers.Side.TheVariants.{Input, Output}
use Rattle.wf_model.specs.Lists.{IsIn, here, onward}
use Rattle.wf_model.specs.Grammar.{Grammar, Assignment, Inner, body_of, head_of, module_at, inputs_of, outputs_of}
use Rattle.wf_model.specs.WellFormed.{IsWellFormed, IsInnerOutput}
use Rattle.wf_model.specs.Links.{Port, Link, output, wiring, place_links, body_links, Path}
use Rattle.wf_model.proofs.Level.{IsSource, IsTarget, wiring_from, wiring_to, pair_links_from, place_links_from}
use Rattle.wf_model.proofs.Lists.{in_append_cases, at_below, at_in, is_at}
use Rattle.wf_model.proofs.Walks.{walk_through, walk_one}
use Rattle.wf_graph.specs.Graph.{InRange, IsReached}
use Rattle.wf_body.proofs.Feeding.{few_at}
use Rattle.wf_spec.specs.Sides.{side_place}
use Rattle.wf_safe.specs.BodyGraph.{IsGraphOf, owner_place, vertex_of, vertices_of}

same_owner : (a b : Option ℕ) → owner_place a ≡ owner_place b → a ≡ b
same_owner None None e = refl
same_owner None (Some k) e = absurd (omega arith)
same_owner (Some j) None e = absurd (omega arith)
same_owner (Some j) (Some k) e = let q : j ≡ k = omega arith in ap Some q

same_side : (a b : Side) → side_place a ≡ side_place b → a ≡ b
same_side Input Input e = refl
same_side Input Output e = absurd (omega arith)
same_side Output Input e = absurd (omega arith)
same_side Output Output e = refl

side_below : (a : Side) → side_place a < 2
side_below Input = omega arith
side_below Output = omega arith

-- ports with numbers below 64 differ in their vertices
pub same_port : (x y : Port (Option ℕ)) → x.number < 64 → y.number < 64 → vertex_of x ≡ vertex_of y → x ≡ y
same_port x y h k e =
    let a = side_below x.side in
    let b = side_below y.side in
    let o : owner_place x.owner ≡ owner_place y.owner = omega arith in
    let s : side_place x.side ≡ side_place y.side = omega arith in
    let n : x.number ≡ y.number = omega arith in
    (λ t. record { owner = same_owner x.owner y.owner o t; side = same_side x.side y.side s t; number = n t })

-- a port of a body: its number is below 64, and its vertex is one of those of the body
pub record IsPortOf (g : Grammar) (p : ℕ) (x : Port (Option ℕ)) : Type 0 where
  pub number : x.number < 64
  pub vertex : vertex_of x < vertices_of g p

pub head_port : (g : Grammar) (p : ℕ) (s : Side) (i : ℕ) → i < 64 → IsPortOf g p (record { owner = None; side = s; number = i })
head_port g p s i h = record { number = h; vertex = let a = side_below s in omega arith }

position_port : (g : Grammar) (p : ℕ) (s : Side) (k i : ℕ) → k < length (body_of g p) → i < 64 → IsPortOf g p (record { owner = Some k; side = s; number = i })
position_port g p s k i b h = record { number = h; vertex = let a = side_below s in omega arith }

-- an output of a position that is there
pub inner_output : (g : Grammar) (p : ℕ) (i : Inner) → IsWellFormed g → p < length g.productions → IsInnerOutput g p i → IsPortOf g p (output (Some i.position) i.port)
inner_output g p i wf h a =
    let few = (few_at g p a.0 i.position wf h a.1).3 in
    let low : i.port < outputs_of g a.0 = a.2 in
    position_port g p Output i.position i.port (at_below a.0 i.position (body_of g p) a.1) (omega arith)

head_few : (g : Grammar) (p : ℕ) → IsWellFormed g → p < length g.productions → (inputs_of g (head_of g p) ≤ 64) × (outputs_of g (head_of g p) ≤ 64)
head_few g p wf h =
    let m = head_of g p in
    let w = wf.modules (module_at g m) (at_in (module_at g m) m g.modules (is_at m g.modules _ (wf.heads p h))) in
    (w.few_inputs, w.few_outputs)

source_port : (g : Grammar) (p : ℕ) (x : Port (Option ℕ)) → IsWellFormed g → p < length g.productions → IsSource g p x → IsPortOf g p x
source_port g p x wf h (inl s) =
    let few = (few_at g p s.2 s.0 wf h s.4).3 in
    let low : s.1 < outputs_of g s.2 = s.5 in
    subst (IsPortOf g p) (sym s.3) (position_port g p Output s.0 s.1 (at_below s.2 s.0 (body_of g p) s.4) (omega arith))
source_port g p x wf h (inr s) =
    let few = (head_few g p wf h).0 in
    let low : s.0 < inputs_of g (head_of g p) = s.2 in
    subst (IsPortOf g p) (sym s.1) (head_port g p Input s.0 (omega arith))

target_port : (g : Grammar) (p : ℕ) (x : Port (Option ℕ)) → IsWellFormed g → p < length g.productions → IsTarget g p x → IsPortOf g p x
target_port g p x wf h (inl s) =
    let few = (few_at g p s.2 s.0 wf h s.4).2 in
    let low : s.1 < inputs_of g s.2 = s.5 in
    subst (IsPortOf g p) (sym s.3) (position_port g p Input s.0 s.1 (at_below s.2 s.0 (body_of g p) s.4) (omega arith))
target_port g p x wf h (inr s) =
    let few = (head_few g p wf h).1 in
    let low : s.0 < outputs_of g (head_of g p) = s.2 in
    subst (IsPortOf g p) (sym s.1) (head_port g p Output s.0 (omega arith))

-- the links of a body lead between its ports
pub record AreEndsOf (g : Grammar) (p : ℕ) (l : Link (Option ℕ)) : Type 0 where
  pub from : IsPortOf g p l.from
  pub to : IsPortOf g p l.to

pub link_ends : (g : Grammar) (d : Assignment) (p : ℕ) → IsWellFormed g → p < length g.productions → (l : Link (Option ℕ)) → IsIn l (body_links g d p) → AreEndsOf g p l
link_ends g d p wf h l i =
    ⊎_elim
    (λ w. record { from = source_port g p l.from wf h (wiring_from g p (wf.bodies p h) l w); to = target_port g p l.to wf h (wiring_to g p (wf.bodies p h) l w) })
    (λ w. let q = place_links_from g d l 0 (body_of g p) w in
    let r = pair_links_from g d q.1 (Some (0 + q.0)) l q.3 in
    let few = few_at g p q.1 q.0 wf h q.2 in
    let b = at_below q.1 q.0 (body_of g p) q.2 in
    let li : r.0 < inputs_of g q.1 = r.2 in
    let lo : r.1 < outputs_of g q.1 = r.3 in
    let fi : inputs_of g q.1 ≤ 64 = few.2 in
    let fo : outputs_of g q.1 ≤ 64 = few.3 in
    subst (AreEndsOf g p) (sym r.5) (record { from = position_port g p Input (0 + q.0) r.0 (omega arith) (omega arith); to = position_port g p Output (0 + q.0) r.1 (omega arith) (omega arith) }))
    (in_append_cases l (wiring g p) (place_links g d 0 (body_of g p)) i)

module _ (g : Grammar) (d : Assignment) (p : ℕ) (graph : List (Vec ℕ Global)) (wf : IsWellFormed g) (h : p < length g.productions) (same : IsGraphOf (body_links g d p) graph) where
  pub in_range : length graph ≡ vertices_of g p → InRange graph
  in_range count a b e =
      let l = (same a b).0 e in
      let v = (link_ends g d p wf h l.0 l.1).to.vertex in
      subst (λ n. n < length graph) l.3 (omega arith)

  forth : {a b : ℕ} → IsReached graph a b → (x y : Port (Option ℕ)) → x.number < 64 → y.number < 64 → a ≡ vertex_of x → b ≡ vertex_of y → Path (body_links g d p) x y
  forth here x y m n e f = subst (Path (body_links g d p) x) (same_port x y m n (sym e ∙ f)) here
  forth (onward {x = a} {y = c} e w) x y m n q f =
      let l = (same a c).0 e in
      let ends = link_ends g d p wf h l.0 l.1 in
      let s = same_port x l.0.from m ends.from.number (sym q ∙ sym l.2) in
      onward (subst (λ (z : Port (Option ℕ)). IsIn {A = Link (Option ℕ)} (record { from = z; to = l.0.to }) (body_links g d p)) (sym s) l.1)
      (forth w l.0.to y ends.to.number n (sym l.3) f)

  -- what is reached in the graph is what paths lead to
  pub reached_is : (x y : Port (Option ℕ)) → x.number < 64 → y.number < 64 → IsReached graph (vertex_of x) (vertex_of y) ↔ Path (body_links g d p) x y
  reached_is x y m n = (
    (λ w. forth w x y m n refl refl),
    λ w. walk_through vertex_of (λ a b i. walk_one ((same (vertex_of a) (vertex_of b)).1 (record { from = a; to = b }, i, refl, refl))) w,
  )
