-- The numbers in a grammar are below the largest ones.
use Rattle.std.proofs.Common.{◌≡◌, ℕ, ◌+◌, ◌-◌, ◌<◌, ◌≤◌, Bool, eqb, List, [], ◌∷◌, length, map, take, count_by, refl, ap, ◌∙◌, subst, inl, inr, arith}
use Rattle.std.proofs.lemmas.List.{length-map, take_all}
use Rattle.std.proofs.lemmas.List.Sums.{count_by_more_yes}
use Rattle.std.proofs.lemmas.Bool.{eq-eqb}
use Rattle.wf_model.specs.Lists.{IsIn, numbers_from}
use Rattle.wf_model.specs.Grammar.{Grammar, Production, Position, production_at, head_of, alternative_of}
use Rattle.wf_model.specs.WellFormed.{IsWellFormed}
use Rattle.wf_model.specs.Reach.{Step}
use Rattle.wf_model.specs.Linear.{IsStepOf}
use Rattle.wf_model.proofs.Lists.{in_map}
use Rattle.wf_model.proofs.Level.{numbers_in}
use Rattle.wf_model.proofs.Composites.{production_in}
use Rattle.label_model.specs.Bound.{largest, most_alternatives, most_positions, most_edges}
use Rattle.label_model.proofs.Alternatives.{count_grows}

-- no number of a list is above its largest
in_largest : (n : ℕ) (ns : List ℕ) → IsIn n ns → n ≤ largest ns
in_largest n [] h = absurd h
in_largest n (k ∷ ns) (inl e) = omega (arith, e)
in_largest n (k ∷ ns) (inr h) = let r = in_largest n ns h in omega arith

-- an alternative number has room below the largest number of alternatives
pub alternative_within : (g : Grammar) → IsWellFormed g → (p : ℕ) → p < length g.productions → alternative_of g p + 1 ≤ most_alternatives g
alternative_within g wf p h =
    let m = head_of g p in
    let t : Production → Bool = λ (r : Production). eqb r.head m in
    let d : Production = record { head = 0; positions = []; edges = []; entries = []; exits = [] } in
    let yes = count_by_more_yes t g.productions p d h (eq-eqb m m refl) in
    let n = length g.productions - (p + 1) in
    let whole : (p + 1) + n ≡ length g.productions = omega arith in
    let more : count_by t (take (p + 1) g.productions) ≤ count_by t g.productions =
    subst (λ z. count_by t (take (p + 1) g.productions) ≤ count_by t z) (ap (λ z. take z g.productions) whole ∙ take_all (length g.productions) g.productions (omega arith)) (count_grows t g.productions d (p + 1) n (omega arith)) in
    let small = wf.heads p h in
    let l = in_largest (count_by t g.productions) (map (λ m. count_by (λ (r : Production). eqb r.head m) g.productions) (numbers_from 0 (length g.modules)))
    (in_map (λ m. count_by (λ (r : Production). eqb r.head m) g.productions) m (numbers_from 0 (length g.modules)) (numbers_in m 0 (length g.modules) (omega arith) (omega arith))) in
    omega (arith, yes, more, l)

-- so has a position below the largest number of positions
pub position_within : (g : Grammar) (s : Step) (m : ℕ) → IsStepOf g m s → s.position + 1 ≤ most_positions g
position_within g s m h =
    let r = production_at g s.production in
    let l = in_largest (length r.positions) (map (λ (r : Production). length r.positions) g.productions) (in_map (λ (r : Production). length r.positions) r g.productions (production_in g s.production h.in_range)) in
    let p = h.position in
    let q = length-map r.positions (λ (q : Position). q.module_no) in
    omega (arith, l, p, q)

-- and an edge below the largest number of edges
pub edge_within : (g : Grammar) (p e : ℕ) → p < length g.productions → e < length (production_at g p).edges → e + 1 ≤ most_edges g
edge_within g p e h small =
    let r = production_at g p in
    let l = in_largest (length r.edges) (map (λ (r : Production). length r.edges) g.productions) (in_map (λ (r : Production). length r.edges) r g.productions (production_in g p h)) in
    omega (arith, l, small)
