use Rattle.std.proofs.Common.{◌≡◌, Some, sym, subst, bytes_eq}
use Rattle.std.specs.Prelude.{position}
use Rattle.wf_model.specs.Run.{made, names_of}
use Rattle.wf_run.specs.Runs.{RunSeen, IsRunOf}
use Rattle.cmd_ingest.proofs.label_lines.LabellingGrows.are_children.Goals as goal

pub returns : goal.returns
returns c = λ events run instance x at is.
    let same = sym c.run.ensures in
    c.are_children.ensures events (subst (λ (r : RunSeen). IsRunOf r events) same run) instance x
    (subst (λ (r : RunSeen). position (bytes_eq instance) (names_of (made r.grammar.core r.grammar.core.start events)) ≡ Some c.args.number) same at) is
