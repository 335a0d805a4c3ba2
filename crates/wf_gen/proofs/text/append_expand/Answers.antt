use Rattle.std.proofs.Common.{◌++◌, ap, ◌∙◌, decimal}
use Rattle.wf_gen.proofs.Lines.{line_appended}
use Rattle.wf_gen.proofs.text.append_expand.Goals as goal

pub returns-clause-ok : goal.returns-clause-ok
returns-clause-ok c =
    line_appended c.append_part-4.result c.args.turn.instance.number c.args.turn.production.0 c.args.first c.args.count c.args.to.now.items
    c.append_part.new.to.items c.append_quoted.new.to.items c.append_part-2.new.to.items c.append_number.new.to.items c.append_part-3.new.to.items c.append_names.new.to.items c.append_part-4.new.to.items
    c.in_ok-append_part.ensures.ok c.in_ok-append_quoted.ensures.ok c.in_ok-append_part-2.ensures.ok (c.in_ok-append_number.ensures.ok ∙ ap (λ n. c.append_part-2.new.to.items ++ decimal n) c.from.ensures) c.in_ok-append_part-3.ensures.ok c.in_ok-append_names.ensures.ok c.append_part-4.ensures.ok
