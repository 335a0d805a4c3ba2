-- What is left of two places takes no more row products than a query may.
use Rattle.std.proofs.Common.{ℕ, ◌≤◌, List, length, [], ◌∷◌, ◌++◌, arith, length-append}
use Rattle.wf_model.specs.Reach.{target_of, module_along}
use Rattle.decode_model.specs.Matrices.{ViewMatrices}
use Rattle.decode_model.specs.Legs.{Leg, way_steps, way_down, way_up}
use Rattle.decode_model.specs.Costs.{cost, AreShort, IsLeft}
use Rattle.decode_model.specs.CostLaws.{ProductsLaw}
use Rattle.decode_model.proofs.LegCosts.{cost_law, left_law}
use Rattle.decode_model.proofs.LegCounts.{count_law}

-- down and up, what is left of a place costs no more than the whole
record CostsNoMore (v : ViewMatrices) (l : ℕ) (rest legs : List Leg) : Type 0 where
  down : length (way_down v rest) ≤ cost l legs
  up : length (way_up v rest) ≤ cost l legs

costs_no_more : (v : ViewMatrices) (l : ℕ) (rest legs : List Leg) → AreShort l legs → IsLeft rest legs → CostsNoMore v l rest legs
costs_no_more v l rest legs short left =
    let r = left_law l rest legs left in
    let c = cost_law v l rest (r.short short) in
    let n = r.no_more in
    let d = c.down in
    let u = c.up in
    record { down = omega arith; up = omega arith }

pub products_law : ProductsLaw
products_law g wf v l m =
    record {
      across = λ first second a b s t pa pb sa sb la lb.
          let full = v.full (module_along g (target_of g t) (way_steps b)) in
          omega (
            arith,
            (costs_no_more v l a first sa la).up,
            (costs_no_more v l b second sb lb).down,
            count_law g wf l m first second pa pb,
            length-append (way_up v a) (v.between s t.position ∷ (way_down v b ++ full ∷ [])),
            length-append (way_down v b) (full ∷ []),
          );
      down = λ second b n p short left. omega (arith, (costs_no_more v l b second short left).down, count_law g wf l m second second p p, length-append (way_down v b) (v.full n ∷ []));
      up = λ first a p short left. omega (arith, (costs_no_more v l a first short left).up, count_law g wf l m first first p p);
    }
