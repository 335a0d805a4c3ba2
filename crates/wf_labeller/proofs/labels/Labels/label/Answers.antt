use Rattle.std.proofs.Common.{◌<◌, ℕ, List, length, ap, sym, ◌∙◌, subst}
use Rattle.wf_labeller.proofs.Cutting.{length-pieces}
use Rattle.wf_labeller.proofs.labels.Labels.label.Goals as goal

pub piece_of-requires-clause-in_range : goal.piece_of-requires-clause-in_range
piece_of-requires-clause-in_range c =
    subst (λ n. c.args.i < n) (ap length (sym c.self.view_is) ∙ (length-pieces c.self.inside.bytes.items 0 c.self.inside.ends.items ∙ ap (λ (l : List ℕ). length l) (sym c.deref-2.ensures.value))) c.requires
