use Rattle.std.proofs.Common.{◌≡◌, ◌∙◌, [], ◌∷◌, ap, subst, refl, get_or, Option, Some, None, ℕ, arith}
use Rattle.wf_model.specs.Grammar.{Production, production_at}
use Rattle.wf_model.specs.Links.{Link, output}
use Rattle.wf_model.specs.Meaning.{inner_of}
use Rattle.wf_model.proofs.Lists.{at_in}
use Rattle.wf_model.proofs.Absent.{no_inner}
use Rattle.wf_body.proofs.Entering.{held_at}
use Rattle.wf_body.proofs.Meaning.{few_exits}
use Rattle.wf_safe.specs.BodyGraph.{AddsLinks, link_of}
use Rattle.wf_safe.proofs.BodyLinks.{exits_step}
use Rattle.wf_safe.proofs.LinkGraphs.{completes_more}
use Rattle.wf_safe.proofs.Vertices.{inner_output}
use Rattle.wf_safe.proofs.check.graph.add_exits.Goals as goal

pub overflow_cast-k : goal.overflow_cast-k
overflow_cast-k c =
    let few = (few_exits c.args.g.now.core c.args.p.0 c.exits-exits.result.now c.production.ensures.formed c.requires.production (c.exits-exits.ensures ∙ ap (λ (r : Production). r.exits) c.production.ensures.core)).1 in
    let test = c.loop-k-test.true in
    omega arith

pub add_link-requires : goal.add_link-requires
add_link-requires c =
    let g = c.args.g.now.core in
    let p = c.args.p.0 in
    let i = inner_of (get_or c.exits-exits.result.now c.loop-k.k no_inner) in
    let es = (production_at g p).exits in
    let there = held_at c.exits-exits.result.now c.loop-k.k no_inner es (c.exits-exits.ensures ∙ ap (λ (r : Production). r.exits) c.production.ensures.core) c.loop-k-test.true in
    let wf = c.production.ensures.formed in
    let low = (inner_output g p i wf c.requires.production ((wf.bodies p c.requires.production).exits_from i (at_in i c.loop-k.k es there))).vertex in
    rw (c.output_port-from.ensures, c.loop-k.invariant.count, c.requires.vertices) low

pub loop-k-preserved : goal.loop-k-preserved
loop-k-preserved c =
    let xs = c.exits-exits.result.now in
    let i = get_or xs c.loop-k.k no_inner in
    let l : Link (Option ℕ) = record { from = output (Some i.pos.0) i.port.0; to = output None c.loop-k.k } in
    let same : link_of c.output_port-from.result c.output_port-to.result ≡ l = rw (c.output_port-from.ensures, c.output_port-to.ensures) refl in
    record {
      count = c.in_ok-add_link.ensures.count ∙ c.loop-k.invariant.count;
      left = completes_more _ (l ∷ []) _ _ _ c.loop-k.graph.items c.add_link.new.graph.items (exits_step xs c.loop-k.k no_inner c.loop-k-test.true)
          (subst (λ l. AddsLinks (l ∷ []) c.loop-k.graph.items c.add_link.new.graph.items) same c.in_ok-add_link.ensures) c.loop-k.invariant.left;
    }
