use Rattle.std.proofs.Common.{◌<◌, ◌+◌, ◌∙◌, ℕ, List, ap, sym, subst, length, map, get_or, arith}
use Rattle.std.proofs.lemmas.List.{length_push, map_push, length-map}
use Rattle.wf_model.specs.declared.numbers.ProdNo.{ProdNo}
use Rattle.wf_check.proofs.Choosing.{IsChosen}
use Rattle.wf_model.proofs.Composites.{composite_below}
use Rattle.wf_model.proofs.Positions.{each_more}
use Rattle.wf_check.proofs.choices.choices.Goals as goal

pub loop-m-preserved : goal.loop-m-preserved
loop-m-preserved c =
    let g = c.args.g.now.core in
    let before = c.loop-m.list.items in
    let e = c.in_ok-push.ensures.items in
    record {
      count = ap length e ∙ (length_push before c.choice.result ∙ ap (λ n. n + 1) c.loop-m.invariant.count);
      chosen = subst (λ (l : List ℕ). (k : ℕ) → k < c.loop-m.m + 1 → IsChosen g k (get_or l k 0)) (sym (ap (map (λ (p : ProdNo). p.0)) e ∙ map_push (λ (p : ProdNo). p.0) before c.choice.result))
          (each_more (IsChosen g) (map (λ (p : ProdNo). p.0) before) c.loop-m.m c.choice.result.0 0 (length-map before (λ (p : ProdNo). p.0) ∙ c.loop-m.invariant.count) c.loop-m.invariant.chosen c.choice.ensures);
    }

pub returns-clause-choices : goal.returns-clause-choices
returns-clause-choices c = λ m d.
    let low = composite_below c.args.g.now.core c.modules-m-end.ensures.formed m d in
    let len = ap length c.modules-m-end.ensures.modules in
    c.loop-m.invariant.chosen m (omega arith) d
