use Rattle.std.proofs.Common.{◌≡◌, ◌+◌, ◌-◌, ◌<◌, ◌≤◌, ◌∙◌, ap, subst, length, take, drop, arith}
use Rattle.std.proofs.lemmas.List.{length-take-le, length-drop}
use Rattle.wf_model.specs.Grammar.{Production}
use Rattle.wf_model.specs.Lists.{IsIn}
use Rattle.wf_model.specs.Meaning.{edge_of}
use Rattle.wf_model.proofs.Lists.{in_map}
use Rattle.wf_export.proofs.item_lines.put_expansion.Goals as goal

pub add_edges-requires : goal.add_edges-requires
add_edges-requires g c = λ e i.
    let xs = c.args.instances.now in
    let a = c.args.o.first in
    let n = c.args.o.count in
    let q : e.from.pos.0 < n = c.requires.edges (edge_of e) (subst (IsIn (edge_of e)) (c.edges.ensures ∙ ap (λ (r : Production). r.edges) c.production.ensures.core) (in_map edge_of e c.edges.result.now i)) in
    let w : a + n ≤ length xs = c.requires.within in
    let l : length (take (a + n - a) (drop a xs)) ≡ a + n - a = length-take-le (a + n - a) (drop a xs) (omega (arith, length-drop a xs)) in
    omega arith
