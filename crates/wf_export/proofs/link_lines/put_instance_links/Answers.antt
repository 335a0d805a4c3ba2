use Rattle.std.proofs.Common.{Bool, List, ◌<◌, ◌∙◌, ◌++◌, length, ap, sym, subst}
use Rattle.wf_model.specs.Lists.{IsIn}
use Rattle.wf_flat.specs.declared.table.Inst.{Inst}
use Rattle.wf_flat.specs.Graph.{links_at}
use Rattle.wf_export.proofs.link_lines.put_instance_links.Goals as goal

pub put_each-requires : goal.put_each-requires
put_each-requires g c = λ l i.
    let h = c.args.g.now.core in
    let rows = c.args.rows.now in
    let xs = c.args.run.now.instances in
    let k = c.args.k in
    let list = c.deref.ensures.value ∙ (c.in-Ok.ensures ∙ (ap (λ z. z ++ links_at h c.marks.result.now rows xs k) c.clear.ensures.items ∙ ap (λ (m : List Bool). links_at h m rows xs k) c.marks.ensures)) in
    subst (λ (ys : List Inst). (l.from.instance < length ys) × (l.to.instance < length ys)) (sym c.instances.ensures.instances) (c.requires.within l (subst (IsIn l) list i))
