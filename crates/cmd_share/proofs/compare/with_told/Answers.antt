use Rattle.std.proofs.Common.{List, ℕ, ◌++◌, ◌∙◌, ap}
use Rattle.wf_compare.specs.ComparedText.{compared_text}
use Rattle.cmd_share.proofs.compare.with_told.Goals as goal

pub returns-in-Ok-clause-told : goal.returns-in-Ok-clause-told
returns-in-Ok-clause-told c = c.in-Ok.ensures ∙ ap (λ (t : List ℕ). t ++ compared_text c.args.g.now.core c.args.told.now) c.requires
