use Rattle.serde_json.specs.View.{items_view}
use Rattle.wf_json.specs.Forms.{items_form}
use Rattle.wf_json.proofs.Items.{read_more}
use Rattle.wf_json.proofs.form.items.Goals as goal

pub loop-left-preserved : goal.loop-left-preserved
loop-left-preserved g c =
    read_more g.T.FromJson.form (items_form g.T.FromJson.form (items_view c.args.list.now)) c.loop-left.found.items c.push.new.self.items c.in-Some.one c.loop-left.left.now c.first-item.result c.in_ok-one.field-0
    c.loop-left.invariant c.in-len1-up.len_at_least c.first-item.is c.in_ok-one.ensures c.in-Some.is c.in_ok-push.ensures.items
