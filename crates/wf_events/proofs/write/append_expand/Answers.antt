use Rattle.std.proofs.Common.{◌∙◌}
use Rattle.wf_events.proofs.Appended.{expand_appended}
use Rattle.wf_events.proofs.write.append_expand.Goals as goal

pub returns-clause-ok : goal.returns-clause-ok
returns-clause-ok c =
    expand_appended c.append_part-5.result c.args.instance.now c.args.production c.args.names.now c.args.to.now.items
    c.append_part.new.to.items c.append_quoted.new.to.items c.append_part-2.new.to.items c.append_part-3.new.to.items c.append_part-4.new.to.items c.append_list.new.to.items c.append_part-5.new.to.items c.as_bytes.result.now
    c.in_ok-append_part.ensures.ok c.in_ok-append_quoted.ensures.ok c.in_ok-append_part-2.ensures.ok (c.as_bytes.ensures.value ∙ c.format.ensures.text) c.in_ok-append_part-3.ensures.ok c.in_ok-append_part-4.ensures.ok c.in_ok-append_list.ensures.ok c.append_part-5.ensures.ok
