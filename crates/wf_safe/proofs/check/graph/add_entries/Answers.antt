use Rattle.std.proofs.Common.{◌≡◌, ◌∙◌, [], ◌∷◌, ap, subst, refl, get_or, Option, Some, None, ℕ, arith}
use Rattle.wf_model.specs.Grammar.{Production}
use Rattle.wf_model.specs.Links.{Link, input}
use Rattle.wf_model.proofs.Absent.{no_inner}
use Rattle.wf_body.proofs.Entering.{few_entries}
use Rattle.wf_safe.specs.BodyGraph.{AddsLinks, link_of}
use Rattle.wf_safe.proofs.BodyLinks.{entries_step}
use Rattle.wf_safe.proofs.LinkGraphs.{completes_more}
use Rattle.wf_safe.proofs.check.graph.add_entries.Goals as goal

pub overflow_cast-k : goal.overflow_cast-k
overflow_cast-k c =
    let few = (few_entries c.args.g.now.core c.args.p.0 c.entries-entries.result.now c.production.ensures.formed c.requires.production (c.entries-entries.ensures ∙ ap (λ (r : Production). r.entries) c.production.ensures.core)).1 in
    let test = c.loop-k-test.true in
    omega arith

pub loop-k-preserved : goal.loop-k-preserved
loop-k-preserved c =
    let xs = c.entries-entries.result.now in
    let i = get_or xs c.loop-k.k no_inner in
    let l : Link (Option ℕ) = record { from = input None c.loop-k.k; to = input (Some i.pos.0) i.port.0 } in
    let same : link_of c.input_port-from.result c.input_port-to.result ≡ l = rw (c.input_port-from.ensures, c.input_port-to.ensures) refl in
    record {
      count = c.in_ok-add_link.ensures.count ∙ c.loop-k.invariant.count;
      left = completes_more _ (l ∷ []) _ _ _ c.loop-k.graph.items c.add_link.new.graph.items (entries_step xs c.loop-k.k no_inner c.loop-k-test.true)
          (subst (λ l. AddsLinks (l ∷ []) c.loop-k.graph.items c.add_link.new.graph.items) same c.in_ok-add_link.ensures) c.loop-k.invariant.left;
    }
