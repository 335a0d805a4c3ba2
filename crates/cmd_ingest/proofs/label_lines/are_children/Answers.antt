use Rattle.std.proofs.Common.{ap, ◌∙◌, bytes_eq}
use Rattle.std.specs.Cmp.Lexicographic.{pointwise}
use Rattle.wf_model.specs.Lists.{numbers_from}
use Rattle.cmd_ingest.proofs.Labelling.{has_children, children_named}
use Rattle.cmd_ingest.proofs.label_lines.are_children.Goals as goal

pub returns-in-Some : goal.returns-in-Some
returns-in-Some c = λ events run instance x at is.
    let ks = numbers_from c.in-Some.children.first c.in-Some.children.count in
    c.have_names.ensures events run
    ∙ ap (λ ns. pointwise bytes_eq ns c.args.names.now) (children_named c.args.run.now events run instance x c.args.n.0 at is ks c.in-Some.ensures)

pub returns-in-None : goal.returns-in-None
returns-in-None c = λ events run instance x at is. absurd (has_children c.args.run.now events run instance x c.args.n.0 at is c.in-None.ensures)
