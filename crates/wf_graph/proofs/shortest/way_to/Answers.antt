use Rattle.std.proofs.Common.{◌≡◌, ◌<◌, ◌∙◌, ◌++◌, ◌∷◌, [], refl, sym, ap, subst, get_or, arith, append_assoc}
use Rattle.std.specs.Prelude.{reverse}
use Rattle.std.proofs.lemmas.List.{reverse-append}
use Rattle.wf_graph.specs.Trails.{Traced, begun, further}
use Rattle.wf_graph.proofs.shortest.way_to.Goals as goal

pub loop-at-preserved : goal.loop-at-preserved
loop-at-preserved c =
    let queue = c.args.queue.now in
    let came = c.args.came.now in
    let at = c.loop-at.at in
    let way = c.loop-at.way.items in
    let some = c.loop-at-test.true in
    let positive : 0 < at = omega arith in
    let x = get_or queue at 0 in
    let b = c.requires.back at positive c.loop-at.invariant.there in
    record {
      there = let h = c.loop-at.invariant.there in omega arith;
      rest = λ us t.
          let turned : reverse c.push.new.self.items ≡ x ∷ reverse way = ap reverse c.in_ok-push.ensures.items ∙ reverse-append way (x ∷ []) in
          subst (Traced queue came c.args.end) (append_assoc us (x ∷ []) (reverse way) ∙ ap (λ l. us ++ l) (sym turned))
          (c.loop-at.invariant.rest (us ++ x ∷ []) (further positive t refl));
    }

pub returns : goal.returns
returns c =
    let none = c.loop-at-test.false in
    let e : c.loop-at.at ≡ 0 = omega arith in
    subst (Traced c.args.queue.now c.args.came.now c.args.end) (sym c.reverse.ensures.items) (c.loop-at.invariant.rest [] (begun e refl))
