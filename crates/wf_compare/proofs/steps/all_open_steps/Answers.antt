use Rattle.std.proofs.Common.{◌∙◌, [], ◌∷◌, ap, Vec, Global}
use Rattle.std.proofs.lemmas.List.{map-append}
use Rattle.wf_compare.specs.declared.steps.Leading.{Leading}
use Rattle.wf_compare.specs.Steps.{open_leadings, rows_in}
use Rattle.wf_model.proofs.Joined.{value_more}
use Rattle.wf_compare.proofs.steps.all_open_steps.Goals as goal

pub loop-k-preserved : goal.loop-k-preserved
loop-k-preserved c =
    value_more (open_leadings c.args.v.grammar.now.core c.args.v.view.now.core) c.loop-k.k [] (rows_in c.loop-k.rows.items) (rows_in c.push.new.self.items) c.in_ok-row.row.items
    c.loop-k.invariant c.in_ok-row.ensures
    (ap rows_in c.in_ok-push.ensures.items ∙ map-append (λ (r : Vec Leading Global). r.items) c.loop-k.rows.items (c.in_ok-row.row ∷ []))
