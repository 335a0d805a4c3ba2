use Rattle.std.proofs.Common.{◌<◌, ◌∙◌, sym, subst, ◌∷◌, [], inl, refl, false}
use Rattle.std.proofs.lemmas.List.{length-set}
use Rattle.wf_model.specs.Lists.{IsIn}
use Rattle.wf_model.proofs.Lists.{in_append_left, in_append_right}
use Rattle.wf_graph.proofs.Searching.{marks_fewer}
use Rattle.wf_graph.proofs.search.forget.Goals as goal

pub index_mut-requires : goal.index_mut-requires
index_mut-requires c =
    let p = c.in-Some.v in
    let i = subst (IsIn p) (sym c.in-Some.ensures.items) (in_append_right p c.pop.new.self.items (p ∷ []) (inl refl)) in
    subst (λ n. p < n) (sym c.loop-v.marks.ok.0) (c.loop-v.invariant.below p i)

pub loop-v-preserved : goal.loop-v-preserved
loop-v-preserved c =
    let v = c.in-Some.v in
    let m = c.loop-v.marks.items in
    let rest = c.pop.new.self.items in
    let is = c.in-Some.ensures.items in
    let there = c.loop-v.invariant.below v (subst (IsIn v) (sym is) (in_append_right v rest (v ∷ []) (inl refl))) in
    record {
      count = length-set m v false ∙ c.loop-v.invariant.count;
      marked = marks_fewer m c.loop-v.queue.items rest v c.loop-v.invariant.marked there is;
      below = λ p h. subst (λ n. p < n) (sym (length-set m v false)) (c.loop-v.invariant.below p (subst (IsIn p) (sym is) (in_append_left p rest (v ∷ []) h)));
    }
